-- Additions made one after the other, as a reader of a file makes them: up to the first that is refused.
use Rattle.std.specs.Prelude.{cond, List, [], ◌∷◌, ℕ, ◌+◌, eqb, take, replicate}
use Rattle.network.specs.declared.additions.Addition.{Addition}
use Rattle.network.specs.declared.additions.Addition.TheVariants.{OfBus, OfSource}
use Rattle.network.specs.declared.additions.Added.{Added}
use Rattle.network.specs.declared.additions.Additions.{Additions}
use Rattle.network.specs.declared.additions.Entry.{Entry}
use Rattle.network.specs.Network.{Network, network, blank}
use Rattle.network.specs.Grounds.{bus_number, after_bus, source_number, after_source, Call, adding_bus, adding_source}

-- the additions that one call has room for
abbrev pub max_additions : ℕ
max_additions = 32

-- none yet; what stands at a place that is not counted means nothing
abbrev pub no_additions : Additions
no_additions = record { count = 0; entries = replicate max_additions (record { addition = OfBus blank }) }

-- the two cases of an addition: the number that it is refused with, 0 where it is accepted, and the network after it
abbrev pub addition_number : Network → Addition → ℕ
addition_number n (OfBus b) = bus_number n b
addition_number n (OfSource p) = source_number n p

abbrev pub after_addition : Network → Addition → Network
after_addition n (OfBus b) = after_bus n b
after_addition n (OfSource p) = after_source n p

-- and the call that makes it
abbrev pub adding_of : Addition → Call
adding_of (OfBus b) = adding_bus b
adding_of (OfSource p) = adding_source p

abbrev pub called : Entry → Call
called e = adding_of e.addition

-- the additions that are counted, at most all that there is room for
abbrev pub listed : Additions → List Entry
listed more = take more.count more.entries

-- what they come to: the number of the first that is refused, 0 where none is; how many are accepted before it; the network after these
pub record AddedNetwork : Type 0 where
  pub number : ℕ
  pub accepted : ℕ
  pub network : Network

abbrev pub added_network : Added → AddedNetwork
added_network r = record { number = r.number; accepted = r.accepted; network = network r.study }

-- the additions that follow i accepted ones
unfoldable pub added_from : ℕ → Network → List Entry → AddedNetwork
added_from i n [] = record { number = 0; accepted = i; network = n }
added_from i n (e ∷ es) =
    cond (eqb (addition_number n e.addition) 0)
    (added_from (i + 1) (after_addition n e.addition) es)
    (record { number = addition_number n e.addition; accepted = i; network = n })
