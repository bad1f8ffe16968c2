-- The table of shares and the sum of steps, as the code makes them: how large its parts are for any study, so that no step overflows, and
-- how it is laid source by source. Assumes nothing.
use Rattle.std.specs.Prelude.{ℕ, ◌+◌, ◌*◌, ◌/◌, ◌^◌, min, ◌≤◌, ◌<◌, ◌≡◌, refl, Bool, true, false, cond, List, [], ◌∷◌, ◌++◌, leb, length, take, set, Float}
use Rattle.std.proofs.Common.{◌∙◌, ap, arith, add-one, le_refl, le_trans, mul-le-mul, lit≤, length-take, take-suc, take_all}
use Rattle.std.proofs.lemmas.List.Edits.{sets}
use Rattle.enclosure.specs.Doubles.{nought, under_root, root_fine}
use Rattle.enclosure.specs.laws.Climb.{root_small}
use Rattle.elements.specs.BreakingFactor.{mu_of}
use Rattle.elements.specs.Doubles.{mu_by}
use Rattle.elements.specs.laws.BreakingFactor.{mu_most}
use Rattle.tree.specs.Ways.{share_steps, rated_steps}
use Rattle.network.specs.declared.study.Source.{Source}
use Rattle.network.specs.Network.{source_at, blank_source}
use Rattle.network.specs.laws.Arrays.{sets_append}
use Rattle.network.specs.laws.Tables.{laid_sets}
use Rattle.network.specs.SourceKinds.{has_generator, is_converter}
use Rattle.network.specs.RoundedSourceKinds.{volts_seen, kva_seen}
use Rattle.breaking.specs.declared.parts.Part.{Part}
use Rattle.network.specs.Tables.{laid_over}
use Rattle.breaking.specs.Doubles.{weighed, generator_part, part_by, part_of, table_of, steps_from}

pub root_fine_few : (x : Float) → root_fine x < 2 ^ 53
unfolding root_fine
root_fine_few x = root_small _

pub share_few : (k ρ D : Float) → share_steps k ρ D < 2 ^ 53
unfolding share_steps
share_few k ρ D = root_fine_few _

pub mu_by_most : (delay r : ℕ) → mu_by delay r ≤ 1000
unfolding mu_by
mu_by_most delay r = go (leb (under_root r) 81920)
  where
    go : (t : Bool) → cond t 1000 (mu_of delay (min (under_root r / 4096) 100)) ≤ 1000
    go true = le_refl 1000
    go false = mu_most delay (min (under_root r / 4096) 100)

pub weighed_few : (w n : ℕ) → w ≤ 1000 → n ≤ 2 ^ 53 → (w * n ≤ 1000 * 2 ^ 53) × (weighed w n ≤ 2 ^ 53)
weighed_few w n hw hn =
    let h : w * n ≤ 1000 * 2 ^ 53 = mul-le-mul hw hn in
    (h, omega arith)

pub part_few : (delay : ℕ) (k ρ D : Float) (p : Source) → (part_by delay k ρ D p).steps ≤ 2 ^ 53
unfolding part_by generator_part
part_few delay k ρ D p = go (has_generator p) (is_converter p)
  where
    go : (s t : Bool) → (cond s (generator_part delay k ρ D p) (cond t (record { lower = nought; upper = nought; steps = 0 }) (record { lower = nought; upper = nought; steps = share_steps k ρ D + 1 }))).steps ≤ 2 ^ 53
    go true t = (weighed_few (mu_by delay (rated_steps k ρ D (volts_seen p) (kva_seen p))) (share_steps k ρ D + 1) (mu_by_most delay _) (omega (arith, share_few k ρ D))).1
    go false true = lit≤ tt
    go false false = omega (arith, share_few k ρ D)

pub part_of_few : (tolerance delay : ℕ) (drive : Float) (volts : List ℕ) (ratios dividers : List Float) (p : Source) → (part_of tolerance delay drive volts ratios dividers p).steps ≤ 2 ^ 53
unfolding part_of
part_of_few tolerance delay drive volts ratios dividers p = part_few delay _ _ _ p

-- the sum of the steps of so many sources
pub steps_few : (part : Source → Part) → ((p : Source) → (part p).steps ≤ 2 ^ 53) → (total : ℕ) (l : List Source) → steps_from part total l ≤ total + 2 ^ 53 * length l
steps_few part h total [] = omega arith
steps_few part h total (p ∷ l) = le_trans (steps_few part h (total + (part p).steps) l) (omega (arith, h p))

-- ---- as a loop lays the table, one source after the other
pub table_length : (part : Source → Part) (l : List Source) → length (table_of part l) ≡ 2 * length l
table_length part [] = refl
table_length part (p ∷ l) = omega (arith, table_length part l)

table_append : (part : Source → Part) (l : List Source) (p : Source) → table_of part (l ++ (p ∷ [])) ≡ table_of part l ++ ((part p).lower ∷ (part p).upper ∷ [])
table_append part [] p = refl
table_append part (q ∷ l) p = ap (λ (t : List Float). (part q).lower ∷ (part q).upper ∷ t) (table_append part l p)

steps_append : (part : Source → Part) (total : ℕ) (l : List Source) (p : Source) → steps_from part total (l ++ (p ∷ [])) ≡ steps_from part total l + (part p).steps
steps_append part total [] p = refl
steps_append part total (q ∷ l) p = steps_append part (total + (part q).steps) l p

module _ (part : Source → Part) (l : List Source) (j : ℕ) (h : j < length l) (p : Source) (e : p ≡ source_at l j) where
  next_source : take (j + 1) l ≡ take j l ++ (p ∷ [])
  next_source = rw (add-one j, e) (take-suc l j blank_source h)

  pub table_more : (lent table : List Float) → table ≡ sets lent 0 (table_of part (take j l))
      → set (set table (2 * j) (part p).lower) (2 * j + 1) (part p).upper ≡ sets lent 0 (table_of part (take (j + 1) l))
  table_more lent table q =
      let t = table_of part (take j l) in
      let n : 0 + length t ≡ 2 * j = omega (arith, table_length part (take j l), length-take j l) in
      rw (next_source, table_append part (take j l) p, sets_append lent 0 t ((part p).lower ∷ (part p).upper ∷ []), n, ← q, ← add-one (2 * j))

  pub steps_more : (steps : ℕ) → steps ≡ steps_from part 0 (take j l) → steps + (part p).steps ≡ steps_from part 0 (take (j + 1) l)
  steps_more steps q = rw (next_source, steps_append part 0 (take j l) p, ← q)

-- all of them laid
pub table_all : (part : Source → Part) (l : List Source) (j : ℕ) (lent table : List Float) → length l ≤ j → 2 * length l ≤ length lent → table ≡ sets lent 0 (table_of part (take j l))
    → table ≡ laid_over (table_of part l) lent
table_all part l j lent table m room q = q ∙ rw (take_all j l m) (laid_sets (table_of part l) lent (omega (arith, table_length part l)))
