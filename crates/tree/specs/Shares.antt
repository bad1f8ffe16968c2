-- Document 02, order 3: a machine's share of the fault current at a bus, squared, by the words of the order. The form in which it is
-- calculated is Ways; that both are the same fraction is proved in laws/Shares.
use Rattle.std.specs.Prelude.{ℕ, zero, suc, ◌+◌, ◌*◌, cond, List, [], ◌∷◌, ◌++◌, ltb, eqb}
use Rattle.enclosure.specs.Exact.{Point, exact, inverse, norm}
use Rattle.enclosure.specs.Fraction.{Fraction, whole, product, quotient, size_square}
use Rattle.tree.specs.Grid.{Grid, parent_of, through, seen}

-- ---- the way from b to j: the buses after b, of two bus numbers the greater going to its parent. A fuel of b + j is enough. That it leads
-- from b to j, each bus a neighbour of the one before and not the one before that, is proved (`leads` in laws/Shares)
abbrev pub onward_by : (ℕ → ℕ) → ℕ → ℕ → ℕ → List ℕ
onward_by p zero b j = []
onward_by p (suc f) b j = cond (eqb b j) [] (cond (ltb b j) (onward_by p f b (p j) ++ (j ∷ [])) (p b ∷ onward_by p f (p b) j))

unfoldable pub onward : (ℕ → ℕ) → ℕ → ℕ → List ℕ
onward p b j = onward_by p (b + j) b j

-- the product of what g gives for each branch of a way from b
abbrev pub over_branches : (ℕ → ℕ → Fraction) → ℕ → List ℕ → Fraction
over_branches g b [] = whole 1
over_branches g b (c ∷ l) = product (g b c) (over_branches g c l)

-- "I = c·Un/(√3·|Z|)", squared, with v = c·Un in hundredths of a volt
abbrev pub current_square : ℕ → Point → Fraction
current_square v Z = record { top = v * v * (Z.den * Z.den); under = 30000 * norm Z.re Z.im }

module _ (G : Grid) where
  -- "the admittances that document 01 sums there": what the neighbour c adds at b
  abbrev pub arriving : ℕ → ℕ → Point
  arriving b c = through exact (λ i. (G.branch i).z) G b c (seen G c b)

  -- "at each bus on the way the current divides as the admittances that document 01 sums there": the square of the part that comes over
  -- the next branch, and at the last bus from the machine, whose admittance is y; w is the bus before b. Both admittances stand at the
  -- same bus, so that no rated ratio occurs: the current is that at the queried bus throughout
  abbrev pub part_square : Point → ℕ → ℕ → List ℕ → Fraction
  part_square y w b [] = quotient (size_square y) (size_square (seen G b w))
  part_square y w b (c ∷ l) = product (quotient (size_square (arriving b c)) (size_square (seen G b w))) (part_square y b c l)

  -- "rated volts left over rated volts arrived at": by this a current at c is multiplied, carried to its neighbour b
  abbrev pub ratio : ℕ → ℕ → Fraction
  ratio b c = cond (ltb c b) (record { top = (G.branch b).above; under = (G.branch b).below }) (record { top = (G.branch c).below; under = (G.branch c).above })

  -- by this a current at j is multiplied, carried to b
  abbrev pub ratios : ℕ → ℕ → Fraction
  ratios b j = over_branches ratio b (onward (parent_of G) b j)

-- "A machine's share is the magnitude of its own part of the fault current, carried to the queried bus by rated ratios", squared: of a
-- machine at bus j with the admittance y, for a fault at b
unfoldable pub share_square : Grid → ℕ → Point → ℕ → ℕ → Fraction
share_square G v y b j = product (current_square v (inverse (seen G b b))) (part_square G y b b (onward (parent_of G) b j))

-- the same "at its terminals", at bus j: carried to b it is the share there
unfoldable pub terminal_square : Grid → ℕ → Point → ℕ → ℕ → Fraction
terminal_square G v y b j = quotient (share_square G v y b j) (product (ratios G b j) (ratios G b j))
