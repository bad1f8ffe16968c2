-- `seen_through` meets its contract, in its three cases.
use Rattle.std.specs.Prelude.{◌≡◌, true, false}
use Rattle.std.proofs.Common.{sym, ◌∙◌, le-ltb, lt-ltb}
use Rattle.enclosure.specs.Doubles.{empty, doubles}
use Rattle.tree.specs.laws.Grid.{through_nothing, through_parent, through_child}
use Rattle.sweep.proofs.sweeps.seen_through.Goals as goal

pub returns-then-is_nothing : goal.returns-then-is_nothing
returns-then-is_nothing c =
    let e : empty c.args.y ≡ true = sym c.is_nothing.ensures ∙ c.if-is_nothing.true in
    λ n parents. rw (through_nothing doubles _ _ _ _ _ e) c.nothing.ensures

pub returns-then-i-b : goal.returns-then-i-b
returns-then-i-b c =
    let c2 = c in
    let e : empty c2.args.y ≡ false = sym c2.is_nothing.ensures ∙ c2.if-is_nothing.false in
    λ n parents.
    rw (through_parent doubles _ _ _ _ _ e (lt-ltb _ _ c2.if-i-b.true), ← c2.inverse-behind.ensures, ← c.number_at.ensures, ← c.number_at-then-i-b.ensures, ← c.referred-here.ensures, ← c.point_at.ensures, ← c.add.ensures)
    c.inverse.ensures

pub returns : goal.returns
returns c =
    let c2 = c in
    let e : empty c2.args.y ≡ false = sym c2.is_nothing.ensures ∙ c2.if-is_nothing.false in
    λ n parents.
    rw (through_child doubles _ _ _ _ _ e (le-ltb _ _ c2.if-i-b.false), ← c2.inverse-behind.ensures, ← c.point_at-2.ensures, ← c.add-there.ensures, ← c.number_at-2.ensures, ← c.number_at-3.ensures, ← c.referred.ensures)
    c.inverse-2.ensures
