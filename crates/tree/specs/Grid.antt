-- Document 01, "Seen impedance": a tree of buses, the admittance seen at a bus, and the converters' part there. The recursion is one for
-- exact numbers and for f64; `seen` and `carried` are the exact ones.
use Rattle.std.specs.Prelude.{Bool, cond, false, List, [], ◌∷◌, ℕ, zero, suc, ◌+◌, ◌*◌, ◌<◌, ltb, eqb, ◌≡◌}
use Rattle.enclosure.specs.Exact.{Point, Ops, exact, sum}

-- z, and y of each element of a list that passes a test
abbrev pub sum_of : {S A : Type 0} → (A → A → A) → (S → Bool) → (S → A) → A → List S → A
sum_of add t y z [] = z
sum_of add t y z (s ∷ l) = sum_of add t y (cond (t s) (add z (y s)) z) l

-- the elements that pass a test
abbrev pub filtered : {S : Type 0} → (S → Bool) → List S → List S
filtered f [] = []
filtered f (s ∷ l) = cond (f s) (s ∷ filtered f l) (filtered f l)

-- ---- neighbours: p gives the parent of each bus but bus 0, a bus with a smaller number
unfoldable pub joined : (ℕ → ℕ) → ℕ → ℕ → Bool
joined p b i = cond (ltb i b) (eqb (p b) i) (cond (ltb b i) (eqb (p i) b) false)

-- "each neighbour n other than a"; without none is w = b, which is no neighbour of b
unfoldable pub neighbour : (ℕ → ℕ) → ℕ → ℕ → ℕ → Bool
neighbour p b w i = cond (eqb i w) false (joined p b i)

-- z, and what g gives for each number below n that joins, the last one first. Of exact fractions the order changes nothing; in f64 it is
-- the order of the sweeps, children before the parent
abbrev pub sum_over : {A : Type 0} → (A → A → A) → (ℕ → Bool) → (ℕ → A) → A → ℕ → A
sum_over add joins g z zero = z
sum_over add joins g z (suc k) = sum_over add joins g (cond (joins k) (add z (g k)) z) k

-- what a walk gathers: what a bus has itself, how two parts add up, and what a part at i is at its neighbour b
pub record Gather (A : Type 0) : Type 0 where
  pub own : ℕ → A
  pub add : A → A → A
  pub through : ℕ → ℕ → A → A

-- what is gathered at b without w, among n buses; the fuel bounds the number of branches passed
abbrev pub walk : {A : Type 0} → Gather A → (ℕ → ℕ) → ℕ → ℕ → ℕ → ℕ → A
walk G p n zero b w = G.own b
walk G p n (suc fuel) b w = sum_over G.add (neighbour p b w) (λ i. G.through b i (walk G p n fuel i b)) (G.own b) n

-- a step for each bus on the way from b to bus 0, and z there; p gives the parents. A fuel of b is enough, since the numbers fall
abbrev pub toward : {A : Type 0} → (ℕ → ℕ) → (ℕ → A → A) → A → ℕ → ℕ → A
toward p step z zero b = z
toward p step z (suc f) b = cond (ltb (p b) b) (step b (toward p step z f (p b))) z

-- the branch from a bus to its parent: its impedance in ohms on the bus's own side, and the rated volts on the parent's side and on the
-- bus's own side, 1 and 1 for a line
pub record Branch : Type 0 where
  pub parent : ℕ
  pub z : Point
  pub above : ℕ
  pub below : ℕ

-- the buses 0 to count - 1; own b is the sum of 1/Z of the machines at b, current b the sum of rated current·k of the converters at b
pub record Grid : Type 0 where
  pub count : ℕ
  pub branch : ℕ → Branch
  pub own : ℕ → Point
  pub current : ℕ → Point

abbrev pub parent_of : Grid → ℕ → ℕ
parent_of G i = (G.branch i).parent

-- "Crossing a transformer multiplies impedance by the square of rated volts on the side arrived at over those on the side left": the
-- square of p/q
abbrev pub times_square : {A : Type 0} → Ops A → ℕ → ℕ → A → A
times_square o p q x = o.scale p q (o.scale p q x)

-- "1/(branch impedance + 1/Seen(n without b)), both impedances first referred to b; a neighbour with no such source behind it adds
-- nothing": what is seen at i, seen from its neighbour b. Where i is the parent of b, the branch is that of b, else that of i
unfoldable pub through : {A : Type 0} → Ops A → (ℕ → A) → Grid → ℕ → ℕ → A → A
through o z G b i y =
    cond (o.empty y) o.none
    (cond (ltb i b)
    (o.inverse (o.add (z b) (times_square o (G.branch b).below (G.branch b).above (o.inverse y))))
    (o.inverse (times_square o (G.branch i).above (G.branch i).below (o.add (z i) (o.inverse y)))))

abbrev pub admittances : {A : Type 0} → Ops A → (ℕ → A) → (ℕ → A) → Grid → Gather A
admittances o z own G = record { own = own; add = o.add; through = through o z G }

-- the admittance at b without w, by numbers of any kind, from the branches' impedances z and the buses' own admittances
abbrev pub seen_by : {A : Type 0} → Ops A → (ℕ → A) → (ℕ → A) → Grid → ℕ → ℕ → ℕ → A
seen_by o z own G = walk (admittances o z own G) (parent_of G) G.count

-- DEFINITION: Seen(b without w); w = b stands for none
unfoldable pub seen : Grid → ℕ → ℕ → Point
seen G = seen_by exact (λ i. (G.branch i).z) G.own G (2 * G.count + 1)

-- "Any other bus names a parent with a smaller number"
abbrev pub Treelike : Grid → Type 0
Treelike G = (i : ℕ) → 0 < i → i < G.count → parent_of G i < i

-- ---- THE SENTENCE of document 01, which knows no fuel: "Seen(b without a) is the admittance at b: 1/Z of each feeder, generator and
-- motor at b, plus, for each neighbour n other than a, .."
abbrev pub Sentence : Grid → (ℕ → ℕ → Point) → Type 0
Sentence G S = (b w : ℕ) → b < G.count → S b w ≡ sum_over sum (neighbour (parent_of G) b w) (λ i. through exact (λ j. (G.branch j).z) G b i (S i b)) (G.own b) G.count

-- "each multiplied at a crossing by rated volts left over rated volts arrived at": over the branch of bus i, to its parent and from it
abbrev pub upward : {A : Type 0} → Ops A → Grid → ℕ → A → A
upward o G i x = o.scale (G.branch i).below (G.branch i).above x

abbrev pub downward : {A : Type 0} → Ops A → Grid → ℕ → A → A
downward o G i x = o.scale (G.branch i).above (G.branch i).below x

-- a current at i, carried to its neighbour b, a child of i or its parent
unfoldable pub across : {A : Type 0} → Ops A → Grid → ℕ → ℕ → A → A
across o G b i x = cond (ltb i b) (downward o G b x) (upward o G i x)

abbrev pub currents : {A : Type 0} → Ops A → (ℕ → A) → Grid → Gather A
currents o c G = record { own = c; add = o.add; through = across o G }

-- what is gathered at b without w; w = b stands for none
unfoldable pub carried_without : Grid → ℕ → ℕ → Point
carried_without G = walk (currents exact G.current G) (parent_of G) G.count (2 * G.count + 1)

-- DEFINITION: the converters' part at b, "the sum of rated current·k", gathered as what is seen is
abbrev pub carried : Grid → ℕ → Point
carried G b = carried_without G b b

-- ---- THE SENTENCE of document 01, which knows no fuel; what is gathered satisfies it, and nothing else does
abbrev pub CurrentSentence : Grid → (ℕ → ℕ → Point) → Type 0
CurrentSentence G S = (b w : ℕ) → b < G.count → S b w ≡ sum_over sum (neighbour (parent_of G) b w) (λ i. across exact G b i (S i b)) (G.current b) G.count
