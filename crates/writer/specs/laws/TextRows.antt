-- The text of a network is that of the list of its rows, each ended by CRLF.
use Rattle.std.specs.Prelude.{◌≡◌, refl, List, [], ◌∷◌, ◌++◌, map, ℕ}
use Rattle.std.proofs.Common.{sym, ap, ◌∙◌, append_assoc}
use Rattle.network.specs.Network.{Network}
use Rattle.reader.specs.File.{cr, lf, letter_s, letter_b, letter_p}
use Rattle.writer.specs.Text.{bus_numbers, source_numbers, row_text, record_rows, text_of}

abbrev pub ended_rows : List (List ℕ) → List ℕ
ended_rows [] = []
ended_rows (r ∷ rs) = r ++ (cr ∷ lf ∷ ended_rows rs)

-- the rows of a tolerance, of the numbers of each bus, and of those of each source
abbrev pub rows_of : ℕ → List (List ℕ) → List (List ℕ) → List (List ℕ)
rows_of tolerance buses sources = row_text letter_s (tolerance ∷ []) ∷ (map (row_text letter_b) buses ++ map (row_text letter_p) sources)

pub ended_both : (a b : List (List ℕ)) → ended_rows (a ++ b) ≡ ended_rows a ++ ended_rows b
ended_both [] b = refl
ended_both (r ∷ a) b = rw (ended_both a b) (sym (append_assoc r (cr ∷ lf ∷ ended_rows a) (ended_rows b)))

record_rows_ended : {X : Type 0} (letter : ℕ) (numbers : X → List ℕ) (l : List X) → record_rows letter numbers l ≡ ended_rows (map (row_text letter) (map numbers l))
record_rows_ended letter numbers [] = refl
record_rows_ended letter numbers (x ∷ l) = append_assoc (row_text letter (numbers x)) (cr ∷ lf ∷ []) (record_rows letter numbers l) ∙ rw (record_rows_ended letter numbers l)

pub text_ended_rows : (n : Network) → text_of n ≡ ended_rows (rows_of n.tolerance (map bus_numbers n.buses) (map source_numbers n.sources))
unfolding text_of
text_ended_rows n =
    let start = row_text letter_s (n.tolerance ∷ []) in
    let buses = map (row_text letter_b) (map bus_numbers n.buses) in
    let sources = map (row_text letter_p) (map source_numbers n.sources) in
    rw (record_rows_ended letter_b bus_numbers n.buses, record_rows_ended letter_p source_numbers n.sources)
    (append_assoc start (cr ∷ lf ∷ []) (ended_rows buses ++ ended_rows sources) ∙ ap (λ (rest : List ℕ). start ++ (cr ∷ lf ∷ rest)) (sym (ended_both buses sources)))
