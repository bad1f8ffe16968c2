-- `console::hex::decode` decodes as its definition says. The invariant: what is decoded and what is left make the whole. Assumes nothing.
use Rattle.std.specs.Prelude.{◌≡◌, ◌++◌, ◌+◌, ◌-◌, ◌≤◌, length, take, drop}
use Rattle.console.specs.Lines.{hex_pairs, hex_bytes}
use Rattle.console.proofs.hex.decode.Given as goal

abbrev pub invariant-loop-i : goal.invariant-loop-i
invariant-loop-i l =
    (l.n + l.n ≡ length l.digits)
    × ((l.n ≤ 70000)
    × ((l.i ≤ l.n) × ((length l.text ≡ length l.initial.text) × ((hex_pairs l.digits ≡ hex_pairs (drop (l.i + l.i) l.digits)) × (length l.initial.text ≡ 70000 → take l.i l.text ++ hex_bytes (drop (l.i + l.i) l.digits) ≡ hex_bytes l.digits)))))

abbrev pub decreases-loop-i : goal.decreases-loop-i
decreases-loop-i l = l.n - l.i
