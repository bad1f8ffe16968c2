-- The sources of a study are those of the plain list, whatever calls made it. Assumes nothing.
use Rattle.std.specs.Prelude.{◌≡◌, refl, Bool, true, false, cond, List, [], ◌∷◌, eqb, length, take}
use Rattle.std.proofs.Common.{ap, ◌∙◌}
use Rattle.network.specs.declared.study.Source.{Source}
use Rattle.network.specs.Network.{Network}
use Rattle.network.specs.Grounds.{bus_number, after_bus_in, after_source_in, source_number, withdraw_number, after_withdraw, replace_number, after_replace, close_number, after_close, reopen_number, after_reopen, Call, step, run_from, empty_network, run}
use Rattle.network.specs.Grounds.Call.{starting, adding_bus, adding_source, withdrawing, replacing, closing, reopening, querying}
use Rattle.network.specs.PlainList.{call_number, answered_from, plain_by, plain_from, plain_run}

-- the sources of one of two networks
sources_of : (t : Bool) (x y : Network) → (cond t x y).sources ≡ cond t x.sources y.sources
sources_of true x y = refl
sources_of false x y = refl

-- the same, if both have them
sources_kept : (t : Bool) (x y : Network) → x.sources ≡ y.sources → (cond t x y).sources ≡ y.sources
sources_kept true x y e = e
sources_kept false x y e = refl

-- a call changes the sources as it changes the plain list
step_plain : (n : Network) (c : Call) → (step n c).sources ≡ plain_by n.sources (eqb (call_number n c) 0) c
unfolding after_bus_in after_source_in after_withdraw after_replace after_close after_reopen
step_plain n (starting t) = refl
step_plain n (adding_bus b) = sources_kept (eqb (bus_number n b) 0) _ n refl
step_plain n (adding_source p) = sources_of (eqb (source_number n p) 0) _ n
step_plain n (withdrawing j) = sources_of (eqb (withdraw_number n j) 0) _ n
step_plain n (replacing j p) = sources_of (eqb (replace_number n j p) 0) _ n
step_plain n closing = sources_kept (eqb (close_number n) 0) _ n refl
step_plain n reopening = sources_kept (eqb (reopen_number n) 0) _ n refl
step_plain n (querying i) = refl

-- from any network on
pub plain_from_law : (n : Network) (cs : List Call) → (run_from n cs).sources ≡ plain_from n.sources (answered_from n cs)
plain_from_law n [] = refl
plain_from_law n (c ∷ cs) = plain_from_law (step n c) cs ∙ ap (λ (l : List Source). plain_from l (answered_from (step n c) cs)) (step_plain n c)

-- THE PLAIN LIST: "this list then gives the sources of document 01's network"
pub plain_list : (cs : List Call) → (run cs).sources ≡ plain_run cs
unfolding run plain_run
plain_list cs = plain_from_law empty_network cs

-- of the sources as a study gives them
pub plain_given : (n : Network) (l : List Source) → take (length n.sources) l ≡ n.sources → (cs : List Call) → n ≡ run cs → take (length n.sources) l ≡ plain_run cs
plain_given n l e cs m = e ∙ ap (λ (k : Network). k.sources) m ∙ plain_list cs
