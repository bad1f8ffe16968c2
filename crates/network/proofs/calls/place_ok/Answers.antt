-- `place_ok` meets its contract: the count, clamped, is how many sources the study has.
use Rattle.std.specs.Prelude.{◌≡◌, ◌&&◌, ℕ, min, ltb}
use Rattle.std.proofs.Common.{sym, ◌∙◌, ap}
use Rattle.tree.specs.Limits.{max_sources}
use Rattle.network.proofs.Changing.{total}
use Rattle.network.proofs.calls.place_ok.Goals as goal

pub returns : goal.returns
returns c = λ s count whole.
    let j = c.args.place in
    let n : c.clamped_sources.result ≡ min s.source_count max_sources = c.clamped_sources.ensures ∙ ap (λ (k : ℕ). min k max_sources) (sym count) in
    ap (λ (k : ℕ). ltb 0 j && ltb j k) (sym (total s _ whole n))
