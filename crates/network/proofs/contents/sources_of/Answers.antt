-- `sources_of` meets its contract: of the array as many records as are counted, which are those of the plain list.
use Rattle.network.specs.Network.{network}
use Rattle.network.specs.laws.PlainList.{plain_given}
use Rattle.network.proofs.Lists.{counted_again}
use Rattle.network.proofs.contents.sources_of.Goals as goal

pub returns : goal.returns
returns c =
    let s = c.args.s in
    let counted = counted_again s.source_count s.sources in
    record { sources = counted; plain = plain_given (network s) s.sources counted }
