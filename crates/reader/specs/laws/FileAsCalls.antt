-- What reading a text leaves, as calls on a study: so whatever is proved of lists of calls holds of texts.
use Rattle.std.specs.Prelude.{true, List, [], ◌∷◌, ◌++◌, ℕ, ◌+◌, ◌<◌, eqb, length}
use Rattle.std.proofs.Common.{sym, ap, ◌∙◌, eqb-true}
use Rattle.std.proofs.lemmas.Bool.{eqb-false}
use Rattle.std.proofs.Math.Path.{◌≡◌, refl}
use Rattle.network.specs.Records.{in_range}
use Rattle.network.specs.Network.{Network}
use Rattle.network.specs.Grounds.{close_number, after_close, Call, starting, run_from, empty_network, run}
use Rattle.network.specs.declared.query.Found.{Found}
use Rattle.network.specs.laws.Calls.{run_append}
use Rattle.network.specs.Query.{amperes_given, found_given}
use Rattle.network.specs.Promise.{Kept}
use Rattle.network.specs.laws.Promise.{promised}
use Rattle.network.specs.NearPeaks.{NearPeaks}
use Rattle.network.specs.laws.NearPeaks.{near_promised}
use Rattle.network.specs.laws.Tests.{by_test}
use Rattle.reader.specs.declared.Row.{Row}
use Rattle.reader.specs.declared.Row.TheVariants.{Start, WithBus, WithSource, Malformed}
use Rattle.reader.specs.File.{max_bytes, rows, row_of, row_number, after_row, Outcome, close_after, read_from_in, read_from, read_in, read_of, call_of, calls_from, calls, calls_read}

-- a row leaves what its call leaves
row_run : (n : Network) (said : Row) (cs : List Call) → run_from n (call_of said ++ cs) ≡ run_from (after_row n said) cs
row_run n (Start t) cs = refl
row_run n (WithBus b) cs = refl
row_run n (WithSource p) cs = refl
row_run n Malformed cs = refl

-- ---- accepted
-- the outcome of rows that are all accepted
abbrev Good : Outcome → Network → Type 0
Good o n = (o.row ≡ 0) × (o.network ≡ n) × (n.closed ≡ true)

close_good : (i : ℕ) (n : Network) → (close_after i n).number ≡ 0 → Good (close_after i n) (after_close n)
unfolding close_after after_close
close_good i n e =
    by_test (eqb (close_number n) 0)
    (λ t. rw t (refl, refl, refl))
    (λ t. absurd (eqb-false (close_number n) 0 t (rw t at e)))

from_good : (i : ℕ) (n : Network) (rs : List (List ℕ)) → (read_from i n rs).number ≡ 0 → Good (read_from i n rs) (run_from n (calls_from i rs))
unfolding read_from_in
from_good i n [] e = close_good i n e
from_good i n (r ∷ rs) e =
    let said = row_of (eqb i 0) r in
    by_test (eqb (row_number n said) 0)
    (λ t. rw (t, row_run n said (calls_from (i + 1) rs)) (from_good (i + 1) (after_row n said) rs (rw t at e)))
    (λ t. absurd (eqb-false (row_number n said) 0 t (rw t at e)))

module _ (text : List ℕ) (e : (read_of text).number ≡ 0) where
  good : Good (read_of text) (run (calls text))
  unfolding read_in run
  good =
      by_test (in_range (length text) 1 max_bytes)
      (λ t. rw t (from_good 0 empty_network (rows text) (rw t at e)))
      (λ t. absurd (let z : ◌≡◌ {A = ℕ} 16 0 = rw t at e in eqb-false 16 0 refl z))

  -- an accepted text leaves the network of its calls; it has row 0, and the network is closed
  pub read_run : (read_of text).network ≡ run (calls text)
  read_run = good.1

  pub read_row : (read_of text).row ≡ 0
  read_row = good.0

  pub read_closed : (read_of text).network.closed ≡ true
  read_closed = ap (λ (n : Network). n.closed) good.1 ∙ good.2

  -- whatever calls follow, the study is one that calls make
  pub read_then : (cs : List Call) → run_from (read_of text).network cs ≡ run (calls text ++ cs)
  unfolding run
  read_then cs = rw read_run (sym (run_append empty_network (calls text) cs))

  -- FROM THE BYTES TO THE AMPERES: what a query gives of the study that an accepted text leaves, at any bus of it, meets demand 3 for
  -- the network of the text's rows, with its verdict and the sameness of the machines' figures
  pub read_kept : (b : ℕ) → b < length (read_of text).network.buses → (f : Found) → f ≡ found_given (read_of text).network b → Kept (run (calls text)) b f
  read_kept b l f e = rw (← read_run) (promised (read_of text).network b f e (calls text) read_run read_closed l)

  -- and its peaks are as near as a query promises beside demand 3
  pub read_near : (b : ℕ) → b < length (read_of text).network.buses → (f : Found) → f.amperes ≡ amperes_given (read_of text).network b → NearPeaks (run (calls text)) b f.amperes
  read_near b l f e = rw (← read_run) (near_promised (read_of text).network b f e (calls text) read_run read_closed l)

-- ---- refused
from_refused : (i : ℕ) (n : Network) (rs : List (List ℕ)) → ((read_from i n rs).number ≡ 0 → ⊥) → (read_from i n rs).network ≡ empty_network
unfolding read_from_in close_after
from_refused i n [] h =
    by_test (eqb (close_number n) 0)
    (λ t. absurd (h (rw t)))
    (λ t. rw t)
from_refused i n (r ∷ rs) h =
    let said = row_of (eqb i 0) r in
    by_test (eqb (row_number n said) 0)
    (λ t. rw t (from_refused (i + 1) (after_row n said) rs (rw t at h)))
    (λ t. rw t)

-- "A refused start or file leaves tolerance 6 and no records"
pub refused_run : (text : List ℕ) → ((read_of text).number ≡ 0 → ⊥) → (read_of text).network ≡ run (starting 6 ∷ [])
unfolding read_in run
refused_run text h =
    by_test (in_range (length text) 1 max_bytes)
    (λ t. rw t (from_refused 0 empty_network (rows text) (rw t at h)))
    (λ t. rw t)

-- whatever calls follow
pub refused_then : (text : List ℕ) → ((read_of text).number ≡ 0 → ⊥) → (cs : List Call) → run_from (read_of text).network cs ≡ run (starting 6 ∷ cs)
unfolding run
refused_then text h cs = rw (refused_run text h)

-- ---- accepted or refused, a text leaves the network of calls
pub read_made : (text : List ℕ) → (read_of text).network ≡ run (calls_read text)
unfolding calls_read
read_made text =
    by_test (eqb (read_of text).number 0)
    (λ t. rw t (read_run text (eqb-true (read_of text).number 0 t)))
    (λ t. rw t (refused_run text (eqb-false (read_of text).number 0 t)))
