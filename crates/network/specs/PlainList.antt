-- Document 02, order 8, "the sources equal those of the plain list": the list of sources by the calls and the numbers that they carried, and
-- by nothing else. That the sources of every study are this list is proved in laws/PlainList.
use Rattle.std.specs.Prelude.{Bool, cond, List, [], ◌∷◌, ◌++◌, ℕ, eqb}
use Rattle.network.specs.declared.study.Source.{Source}
use Rattle.network.specs.Network.{Network, removed, rewritten}
use Rattle.network.specs.Grounds.{start_number, bus_number, source_number, withdraw_number, replace_number, close_number, reopen_number, Call, step, empty_network}
use Rattle.network.specs.Grounds.Call.{starting, adding_bus, adding_source, withdrawing, replacing, closing, reopening, querying}
use Rattle.network.specs.Query.{query_number}

-- the number that a call carries: that of its ground, 0 if it is accepted
abbrev pub call_number : Network → Call → ℕ
call_number n (starting t) = start_number t
call_number n (adding_bus b) = bus_number n b
call_number n (adding_source p) = source_number n p
call_number n (withdrawing j) = withdraw_number n j
call_number n (replacing j p) = replace_number n j p
call_number n closing = close_number n
call_number n reopening = reopen_number n
call_number n (querying i) = query_number n i

-- the calls of a list, each with the number that it carries
pub record Answered : Type 0 where
  pub call : Call
  pub number : ℕ

abbrev pub answered_from : Network → List Call → List Answered
answered_from n [] = []
answered_from n (c ∷ cs) = record { call = c; number = call_number n c } ∷ answered_from (step n c) cs

-- "an accepted source addition joins the end, an accepted withdrawal deletes its place, an accepted replacement rewrites its place and
-- nothing else changes it"; a start, accepted or refused, gives another study, which has no records
abbrev pub plain_by : List Source → Bool → Call → List Source
plain_by l accepted (starting t) = []
plain_by l accepted (adding_bus b) = l
plain_by l accepted (adding_source p) = cond accepted (l ++ (p ∷ [])) l
plain_by l accepted (withdrawing j) = cond accepted (removed j l) l
plain_by l accepted (replacing j p) = cond accepted (rewritten j p l) l
plain_by l accepted closing = l
plain_by l accepted reopening = l
plain_by l accepted (querying i) = l

abbrev pub plain_step : List Source → Answered → List Source
plain_step l a = plain_by l (eqb a.number 0) a.call

abbrev pub plain_from : List Source → List Answered → List Source
plain_from l [] = l
plain_from l (a ∷ more) = plain_from (plain_step l a) more

-- the plain list of all calls; before the first there is no source
unfoldable pub plain_run : List Call → List Source
plain_run cs = plain_from [] (answered_from empty_network cs)
