-- Document 01's two sentences about what is gathered over a tree, which know no fuel, for the network of every list of calls: what is seen
-- and what is carried satisfy them, and nothing else does. Assumes nothing.
use Rattle.std.specs.Prelude.{ℕ, ◌<◌, ◌≡◌, List, length}
use Rattle.enclosure.specs.Exact.{Point}
use Rattle.tree.specs.Grid.{Treelike, Sentence, seen, CurrentSentence, carried_without}
use Rattle.tree.specs.laws.Grid.{seen_sentence, sentence_seen}
use Rattle.tree.specs.laws.Converters.{carried_sentence, sentence_carried}
use Rattle.network.specs.Grounds.{Call, run}
use Rattle.network.specs.laws.Rebuilt.{run_rebuilt}
use Rattle.network.specs.Grid.{grid_of}
use Rattle.network.specs.laws.AcceptedTree.{sound}

module _ (cs : List Call) where
  falling : Treelike (grid_of (run cs))
  falling = (sound (run_rebuilt cs)).tree

  -- "Seen(b without a) is the admittance at b: 1/Z of each feeder, generator and motor at b, plus, for each neighbour n other than a, .."
  pub seen_holds : Sentence (grid_of (run cs)) (seen (grid_of (run cs)))
  seen_holds = seen_sentence (grid_of (run cs)) falling

  pub seen_alone : (S : ℕ → ℕ → Point) → Sentence (grid_of (run cs)) S → (b w : ℕ) → b < length (run cs).buses → S b w ≡ seen (grid_of (run cs)) b w
  seen_alone S h b w l = sentence_seen (grid_of (run cs)) falling S h b w l

  -- "the sum of rated current·k, each multiplied at a crossing by rated volts left over rated volts arrived at"
  pub carried_holds : CurrentSentence (grid_of (run cs)) (carried_without (grid_of (run cs)))
  carried_holds = carried_sentence (grid_of (run cs)) falling

  pub carried_alone : (S : ℕ → ℕ → Point) → CurrentSentence (grid_of (run cs)) S → (b w : ℕ) → b < length (run cs).buses → S b w ≡ carried_without (grid_of (run cs)) b w
  carried_alone S h b w l = sentence_carried (grid_of (run cs)) falling S h b w l
