use Rattle.std.specs.Prelude.{◌≡◌, List, [], ◌∷◌, ◌++◌, ℕ, ◌+◌, ◌≤◌, ◌<◌, length, take, drop, set}
use Rattle.std.proofs.Common.{sym, ◌∙◌, ap, arith, add-one, length-take, length-set, take-suc-set}
use Rattle.std.proofs.lemmas.List.{length-replicate}
use Rattle.network.specs.declared.additions.Addition.TheVariants.{OfBus}
use Rattle.network.specs.declared.additions.Additions.{Additions}
use Rattle.network.specs.declared.additions.Entry.{Entry}
use Rattle.network.specs.Network.{blank}
use Rattle.network.specs.Additions.{max_additions, listed}
use Rattle.network.specs.laws.Tests.{never}
use Rattle.reader.specs.File.{rows, refused_at, read_from}
use Rattle.reader.specs.Parts.{added_then}
use Rattle.reader.proofs.PartRows.{row_adds, row_malformed, then_more, then_same}
use Rattle.reader.proofs.parts.part_of.Goals as goal
use Rattle.reader.proofs.parts.part_of.Goals.{In-Record}

pub loop-at-init : goal.loop-at-init
loop-at-init c =
    let none = c.no_additions-additions.ensures in
    let count = ap (λ (a : Additions). a.count) none in
    let whole = ap (λ (a : Additions). length a.entries) none ∙ length-replicate {A = Entry} max_additions (record { addition = OfBus blank }) in
    (whole, omega (arith, count), omega (arith, count), omega arith, λ i n p. rw none)

-- the additions are as many as are counted, or fewer
few : (count : ℕ) (entries : List Entry) → length (take count entries) ≤ count
few count entries = omega (arith, length-take count entries)

pub returns-then-n-ge-ADDITIONS : goal.returns-then-n-ge-ADDITIONS
returns-then-n-ge-ADDITIONS c =
    let l = c.loop-at in
    record { place = (omega (arith, few l.additions.count l.additions.entries), l.invariant.3); onward = λ _. omega arith; rows = l.invariant.4 }

pub returns-in_default : goal.returns-in_default
returns-in_default c =
    let l = c.loop-at in
    let text = c.args.text.now in
    let end = c.row_end-end in
    let said = c.row_of-said in
    let wrong = row_malformed text l.at end.result c.loop-at-test.true end.ensures.0 said.result said.ensures (sym c.entry_of-found.ensures ∙ c.in_default.is) in record { place = (omega (arith, few l.additions.count l.additions.entries), l.invariant.3); onward = λ z. never (sym z); rows = λ i n p. l.invariant.4 i n p ∙ then_same (λ j m. read_from j m (rows (drop l.at text))) (λ j m. refused_at 16 (j + 1)) wrong i n (listed l.additions) p }

-- there is room for one more
room : (c : In-Record) → c.loop-at.additions.count < max_additions
room c = omega (arith, c.if-n-ge-ADDITIONS.false)

pub offset_bounds-additions-n : goal.offset_bounds-additions-n
offset_bounds-additions-n c = let k = room c in record { fits = omega arith }

pub bounds-additions-n : goal.bounds-additions-n
bounds-additions-n c = room c

pub overflow_add-additions : goal.overflow_add-additions
overflow_add-additions c = let k = room c in record { fits = omega arith }

pub loop-at-preserved : goal.loop-at-preserved
loop-at-preserved c =
    let l = c.loop-at in
    let text = c.args.text.now in
    let end = c.row_end-end in
    let said = c.row_of-said in
    let entry = c.in-Record.entry in
    let more = row_adds text l.at end.result c.loop-at-test.true end.ensures.0 said.result said.ensures entry (sym c.entry_of-found.ensures ∙ c.in-Record.is) in
    let one : take (l.additions.count + 1) (set l.additions.entries l.additions.count entry) ≡ take l.additions.count l.additions.entries ++ (entry ∷ []) =
    rw add-one (take-suc-set l.additions.entries l.additions.count entry (omega (arith, room c, l.invariant.0)))
    in (
      length-set l.additions.entries l.additions.count entry ∙ l.invariant.0,
      omega (arith, room c),
      omega (arith, end.ensures.0, l.invariant.2),
      omega (arith, end.ensures.1),
      λ i n p.
          l.invariant.4 i n p
          ∙ then_same (λ j m. read_from j m (rows (drop l.at text))) (λ j m. added_then (λ k o. read_from k o (rows (drop (end.result + 2) text))) j m (entry ∷ [])) more i n (listed l.additions) p
          ∙ then_more (λ k o. read_from k o (rows (drop (end.result + 2) text))) i n (listed l.additions) entry
          ∙ ap (added_then (λ k o. read_from k o (rows (drop (end.result + 2) text))) i n) (sym one),
    )

pub returns : goal.returns
returns c =
    let l = c.loop-at in
    record { place = (omega (arith, few l.additions.count l.additions.entries), l.invariant.3); onward = λ _. omega (arith, c.requires); rows = l.invariant.4 }
