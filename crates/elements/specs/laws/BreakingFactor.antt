-- The factor μ: the constant table of 404 numbers is document 02's, for the four delays together, by one test that is computed over
-- the whole table; by another one no entry is above the one before it nor more than 1.7 % below it. So the factor that is calculated
-- from bounds of q is never below the exact one, and at most 1.7 % above it. Assumes nothing.
use Rattle.std.specs.Prelude.{ℕ, zero, suc, ◌+◌, ◌*◌, ◌/◌, ◌%◌, min, ◌≤◌, ◌<◌, ◌≡◌, refl, Bool, true, false, not, cond, ◌&&◌, List, [], ◌∷◌, T, leb, ltb, eqb, get_or}
use Rattle.std.proofs.Common.{sym, ap, ap₂, ◌∙◌, subst, subst₂, ⊎_elim, arith, le_refl, mul-le-mul, eq-or-lt_of_le, not-le_of_lt, leb→le, le→leb, lit<}
use Rattle.std.proofs.Math.Dec.{nleb→lt}
use Rattle.algebra.specs.Reading.{from, from_over, read, ◌⊹◌, ◌⋆◌}
use Rattle.enclosure.specs.Fraction.{Fraction}
use Rattle.enclosure.specs.Doubles.{under_root}
use Rattle.enclosure.specs.laws.Root.{root_le}
use Rattle.elements.specs.Factors.{t_over, t_under, numerator, denominator, ceiling}
use Rattle.elements.specs.BreakingFactor.{Formula, formula, formula_of, formula_at, mu_of, greatest, tenths_of, mu_at}
use Rattle.elements.specs.Doubles.{first_of, mu_by}
use Rattle.elements.specs.laws.EachBelow.{below, table_rule}

-- the table
abbrev pub mus : List ℕ
mus =
    1000 ∷ 1000 ∷ 1000 ∷ 1000 ∷ 1000 ∷ 1000 ∷ 1000 ∷ 1000 ∷ 1000 ∷ 1000 ∷ 1000 ∷ 1000 ∷ 1000 ∷ 1000 ∷ 1000 ∷ 1000 ∷ 1000 ∷ 1000 ∷ 1000 ∷ 1000 ∷ 995 ∷
    991 ∷ 987 ∷ 983 ∷ 980 ∷ 976 ∷ 973 ∷ 969 ∷ 966 ∷ 963 ∷ 960 ∷ 957 ∷ 954 ∷ 951 ∷ 948 ∷ 945 ∷ 942 ∷ 940 ∷ 937 ∷ 935 ∷ 932 ∷ 930 ∷
    928 ∷ 926 ∷ 923 ∷ 921 ∷ 919 ∷ 917 ∷ 915 ∷ 913 ∷ 911 ∷ 910 ∷ 908 ∷ 906 ∷ 904 ∷ 903 ∷ 901 ∷ 900 ∷ 898 ∷ 897 ∷ 895 ∷ 894 ∷ 892 ∷
    891 ∷ 890 ∷ 888 ∷ 887 ∷ 886 ∷ 885 ∷ 884 ∷ 883 ∷ 882 ∷ 880 ∷ 879 ∷ 878 ∷ 877 ∷ 877 ∷ 876 ∷ 875 ∷ 874 ∷ 873 ∷ 872 ∷ 871 ∷ 871 ∷
    870 ∷ 869 ∷ 868 ∷ 868 ∷ 867 ∷ 866 ∷ 866 ∷ 865 ∷ 864 ∷ 864 ∷ 863 ∷ 862 ∷ 862 ∷ 861 ∷ 861 ∷ 860 ∷ 860 ∷
    1000 ∷ 1000 ∷ 1000 ∷ 1000 ∷ 1000 ∷ 1000 ∷ 1000 ∷ 1000 ∷ 1000 ∷ 1000 ∷ 1000 ∷ 1000 ∷ 1000 ∷ 1000 ∷ 1000 ∷ 1000 ∷ 1000 ∷ 1000 ∷ 1000 ∷ 1000 ∷ 990 ∷
    982 ∷ 974 ∷ 966 ∷ 959 ∷ 951 ∷ 944 ∷ 937 ∷ 931 ∷ 924 ∷ 918 ∷ 912 ∷ 906 ∷ 900 ∷ 894 ∷ 889 ∷ 884 ∷ 879 ∷ 874 ∷ 869 ∷ 864 ∷ 860 ∷
    855 ∷ 851 ∷ 847 ∷ 843 ∷ 839 ∷ 835 ∷ 831 ∷ 828 ∷ 824 ∷ 821 ∷ 818 ∷ 815 ∷ 811 ∷ 808 ∷ 806 ∷ 803 ∷ 800 ∷ 797 ∷ 795 ∷ 792 ∷ 790 ∷
    788 ∷ 785 ∷ 783 ∷ 781 ∷ 779 ∷ 777 ∷ 775 ∷ 773 ∷ 771 ∷ 769 ∷ 768 ∷ 766 ∷ 764 ∷ 763 ∷ 761 ∷ 760 ∷ 758 ∷ 757 ∷ 755 ∷ 754 ∷ 753 ∷
    752 ∷ 750 ∷ 749 ∷ 748 ∷ 747 ∷ 746 ∷ 745 ∷ 744 ∷ 743 ∷ 742 ∷ 741 ∷ 740 ∷ 739 ∷ 738 ∷ 737 ∷ 737 ∷ 736 ∷
    1000 ∷ 1000 ∷ 1000 ∷ 1000 ∷ 1000 ∷ 1000 ∷ 1000 ∷ 1000 ∷ 1000 ∷ 1000 ∷ 1000 ∷ 1000 ∷ 1000 ∷ 1000 ∷ 1000 ∷ 1000 ∷ 1000 ∷ 1000 ∷ 1000 ∷ 1000 ∷ 1000 ∷
    988 ∷ 977 ∷ 965 ∷ 955 ∷ 944 ∷ 934 ∷ 924 ∷ 914 ∷ 905 ∷ 896 ∷ 888 ∷ 879 ∷ 871 ∷ 863 ∷ 855 ∷ 848 ∷ 841 ∷ 834 ∷ 827 ∷ 821 ∷ 814 ∷
    808 ∷ 802 ∷ 797 ∷ 791 ∷ 786 ∷ 781 ∷ 775 ∷ 771 ∷ 766 ∷ 761 ∷ 757 ∷ 753 ∷ 748 ∷ 744 ∷ 740 ∷ 737 ∷ 733 ∷ 729 ∷ 726 ∷ 723 ∷ 720 ∷
    716 ∷ 713 ∷ 710 ∷ 708 ∷ 705 ∷ 702 ∷ 700 ∷ 697 ∷ 695 ∷ 692 ∷ 690 ∷ 688 ∷ 686 ∷ 684 ∷ 682 ∷ 680 ∷ 678 ∷ 676 ∷ 674 ∷ 673 ∷ 671 ∷
    669 ∷ 668 ∷ 666 ∷ 665 ∷ 664 ∷ 662 ∷ 661 ∷ 660 ∷ 658 ∷ 657 ∷ 656 ∷ 655 ∷ 654 ∷ 653 ∷ 652 ∷ 651 ∷ 650 ∷
    1000 ∷ 1000 ∷ 1000 ∷ 1000 ∷ 1000 ∷ 1000 ∷ 1000 ∷ 1000 ∷ 1000 ∷ 1000 ∷ 1000 ∷ 1000 ∷ 1000 ∷ 1000 ∷ 1000 ∷ 1000 ∷ 1000 ∷ 1000 ∷ 1000 ∷ 1000 ∷ 1000 ∷
    984 ∷ 968 ∷ 953 ∷ 938 ∷ 924 ∷ 910 ∷ 897 ∷ 885 ∷ 873 ∷ 861 ∷ 850 ∷ 839 ∷ 829 ∷ 819 ∷ 809 ∷ 800 ∷ 791 ∷ 782 ∷ 774 ∷ 766 ∷ 758 ∷
    751 ∷ 744 ∷ 737 ∷ 731 ∷ 724 ∷ 718 ∷ 712 ∷ 707 ∷ 701 ∷ 696 ∷ 691 ∷ 686 ∷ 681 ∷ 677 ∷ 672 ∷ 668 ∷ 664 ∷ 660 ∷ 657 ∷ 653 ∷ 650 ∷
    646 ∷ 643 ∷ 640 ∷ 637 ∷ 634 ∷ 631 ∷ 629 ∷ 626 ∷ 624 ∷ 621 ∷ 619 ∷ 617 ∷ 615 ∷ 613 ∷ 611 ∷ 609 ∷ 607 ∷ 605 ∷ 604 ∷ 602 ∷ 601 ∷
    599 ∷ 598 ∷ 596 ∷ 595 ∷ 594 ∷ 592 ∷ 591 ∷ 590 ∷ 589 ∷ 588 ∷ 587 ∷ 586 ∷ 585 ∷ 584 ∷ 583 ∷ 582 ∷ 582 ∷ []

-- ---- the four delays in one row
abbrev delays : List ℕ
delays = 20 ∷ 50 ∷ 100 ∷ 250 ∷ []

-- where the entries of a delay begin, and its formula, are those of one of the four
record Row (start : ℕ) (m : Formula) : Type 0 where
  d : ℕ
  few : d < 4
  begins : start ≡ 101 * d
  same : m ≡ formula_of (get_or delays d 250)

row : (delay : ℕ) → Row (first_of delay) (formula_of delay)
unfolding first_of formula_of
row delay = on (eqb delay 20) (eqb delay 50) (eqb delay 100)
  where
    on : (a b c : Bool) → Row (cond a 0 (cond b 101 (cond c 202 303))) (cond a (formula 84 26 26) (cond b (formula 71 51 30) (cond c (formula 62 72 32) (formula 56 94 38))))
    on true b c = record { d = 0; few = omega arith; begins = refl; same = refl }
    on false true c = record { d = 1; few = omega arith; begins = refl; same = refl }
    on false false true = record { d = 2; few = omega arith; begins = refl; same = refl }
    on false false false = record { d = 3; few = omega arith; begins = refl; same = refl }

same_mu : (delay e i : ℕ) → formula_of delay ≡ formula_of e → mu_of delay i ≡ mu_of e i
unfolding mu_of
same_mu delay e i h = ap (λ (m : Formula). cond (ltb i 20) 1000 (formula_at m i)) h

-- ---- the rule
rule : (k : ℕ) → k < 404 → get_or mus k 0 ≡ mu_of (get_or delays (k / 101) 250) (k % 101)
unfolding mu_of formula_of ceiling t_over t_under numerator denominator
rule = table_rule mus (λ k. mu_of (get_or delays (k / 101) 250) (k % 101)) 404 tt

-- entry i of a delay is μ at q = i/10
pub mu_rule : (delay i : ℕ) → i < 101 → get_or mus (first_of delay + i) 0 ≡ mu_of delay i
mu_rule delay i h = go (first_of delay) (row delay).d (row delay).few (row delay).begins ∙ sym (same_mu delay (get_or delays (row delay).d 250) i (row delay).same)
  where
    go : (s d : ℕ) → d < 4 → s ≡ 101 * d → get_or mus (s + i) 0 ≡ mu_of (get_or delays d 250) i
    go s d l e =
        let x : (s + i) / 101 ≡ d = omega arith in
        let y : (s + i) % 101 ≡ i = omega arith in
        rule (s + i) (omega arith) ∙ ap₂ (λ (x y : ℕ). mu_of (get_or delays x 250) y) x y

pub first_most : (delay : ℕ) → first_of delay ≤ 303
first_most delay = let h = (row delay).few in let e = (row delay).begins in omega arith

-- μ is at most 1
pub mu_most : (delay i : ℕ) → mu_of delay i ≤ 1000
unfolding mu_of
mu_most delay i = on (ltb i 20) (10 * (formula_of delay).base + ceiling (10 * (formula_of delay).height * t_under 1000) (t_over ((formula_of delay).decay * i) 1000))
  where
    on : (b : Bool) (x : ℕ) → cond b 1000 (min 1000 x) ≤ 1000
    on true x = le_refl 1000
    on false x = omega arith

-- and 1 in the last entry below q = 2
pub mu_first : (delay : ℕ) → mu_of delay 19 ≡ 1000
unfolding mu_of
mu_first delay = refl

-- ---- from each entry to the next
close : ℕ → ℕ → Bool
close x y = leb y x && leb (1000 * x) (1017 * y)

close_holds : (x y : ℕ) → T (close x y) → (y ≤ x) × (1000 * x ≤ 1017 * y)
unfolding close
close_holds x y t = on (leb y x) (leb (1000 * x) (1017 * y)) t (leb→le y x) (leb→le (1000 * x) (1017 * y))
  where
    on : (a b : Bool) → T (a && b) → (T a → y ≤ x) → (T b → 1000 * x ≤ 1017 * y) → (y ≤ x) × (1000 * x ≤ 1017 * y)
    on true b t h k = (h tt, k t)
    on false b t h k = absurd t

near : ℕ → Bool
unfolding close mu_of formula_of ceiling t_over t_under numerator denominator
near k = close (mu_of (get_or delays (k / 100) 250) (k % 100)) (mu_of (get_or delays (k / 100) 250) (k % 100 + 1))

steps : (k : ℕ) → k < 400
    → (mu_of (get_or delays (k / 100) 250) (k % 100 + 1) ≤ mu_of (get_or delays (k / 100) 250) (k % 100))
    × (1000 * mu_of (get_or delays (k / 100) 250) (k % 100) ≤ 1017 * mu_of (get_or delays (k / 100) 250) (k % 100 + 1))
unfolding near
steps k h = close_holds _ _ (below near 400 tt k h)

-- no entry is above the one before it, nor more than 1.7 % below it
pub mu_step : (delay i : ℕ) → i < 100 → (mu_of delay (i + 1) ≤ mu_of delay i) × (1000 * mu_of delay i ≤ 1017 * mu_of delay (i + 1))
mu_step delay i h = go (row delay).d (row delay).few (same_mu delay _ i (row delay).same) (same_mu delay _ (i + 1) (row delay).same)
  where
    go : (d : ℕ) → d < 4 → mu_of delay i ≡ mu_of (get_or delays d 250) i → mu_of delay (i + 1) ≡ mu_of (get_or delays d 250) (i + 1)
        → (mu_of delay (i + 1) ≤ mu_of delay i) × (1000 * mu_of delay i ≤ 1017 * mu_of delay (i + 1))
    go d l e f =
        let x : (100 * d + i) / 100 ≡ d = omega arith in
        let y : (100 * d + i) % 100 ≡ i = omega arith in
        let k = steps (100 * d + i) (omega arith) in
        rw (e, f) (subst₂ (λ (x y : ℕ). (mu_of (get_or delays x 250) (y + 1) ≤ mu_of (get_or delays x 250) y) × (1000 * mu_of (get_or delays x 250) y ≤ 1017 * mu_of (get_or delays x 250) (y + 1))) x y k)

-- one tenth at most apart
near_mu : (delay i I : ℕ) → i ≤ I → I ≤ i + 1 → I ≤ 100 → (mu_of delay I ≤ mu_of delay i) × (1000 * mu_of delay i ≤ 1017 * mu_of delay I)
near_mu delay i I l h k = ⊎_elim same next (eq-or-lt_of_le l)
  where
    same : i ≡ I → (mu_of delay I ≤ mu_of delay i) × (1000 * mu_of delay i ≤ 1017 * mu_of delay I)
    same e = rw (sym e) (omega arith, omega arith)

    next : i < I → (mu_of delay I ≤ mu_of delay i) × (1000 * mu_of delay i ≤ 1017 * mu_of delay I)
    next m = let e : I ≡ i + 1 = omega arith in rw e (mu_step delay i (omega arith))

-- ---- tenths of q
greatest_most : (test : ℕ → Bool) (k : ℕ) → greatest test k ≤ k
greatest_most test zero = le_refl 0
greatest_most test (suc k) = on (test (suc k)) (greatest_most test k)
  where
    on : (b : Bool) → greatest test k ≤ k → cond b (suc k) (greatest test k) ≤ suc k
    on true h = le_refl (suc k)
    on false h = omega arith

greatest_passes : (test : ℕ → Bool) (k : ℕ) → T (test 0) → T (test (greatest test k))
greatest_passes test zero t = t
greatest_passes test (suc k) t = on (test (suc k)) (λ h. h) (greatest_passes test k t)
  where
    on : (b : Bool) → (T b → T (test (suc k))) → T (test (greatest test k)) → T (test (cond b (suc k) (greatest test k)))
    on true h g = h tt
    on false h g = g

greatest_least : (test : ℕ → Bool) (k i : ℕ) → i ≤ k → T (test i) → i ≤ greatest test k
greatest_least test zero i h t = h
greatest_least test (suc k) i h t = on (test (suc k)) (λ e. subst (λ (x : ℕ). T (test x)) e t) (λ l. greatest_least test k i l t)
  where
    on : (b : Bool) → (i ≡ suc k → T b) → (i ≤ k → i ≤ greatest test k) → i ≤ cond b (suc k) (greatest test k)
    on true e g = h
    on false e g = ⊎_elim (λ (p : i ≡ suc k). absurd (e p)) (λ (l : i < suc k). g (omega arith)) (eq-or-lt_of_le h)

pub tenths_most : (Q : Fraction) → tenths_of Q ≤ 100
unfolding tenths_of
tenths_most Q = greatest_most (λ i. leb (i * i * Q.under) (100 * Q.top)) 100

pub tenths_low : (Q : Fraction) → tenths_of Q * tenths_of Q * Q.under ≤ 100 * Q.top
unfolding tenths_of
tenths_low Q = leb→le _ _ (greatest_passes (λ i. leb (i * i * Q.under) (100 * Q.top)) 100 (le→leb (0 * 0 * Q.under) (100 * Q.top) (omega arith)))

pub tenths_greatest : (Q : Fraction) (i : ℕ) → i ≤ 100 → i * i * Q.under ≤ 100 * Q.top → i ≤ tenths_of Q
unfolding tenths_of
tenths_greatest Q i h k = greatest_least (λ i. leb (i * i * Q.under) (100 * Q.top)) 100 i h (le→leb (i * i * Q.under) (100 * Q.top) k)

-- ---- squares over one denominator
root_over : (a b u : ℕ) → 0 < u → a * a * u ≤ b * b * u → a ≤ b
root_over a b u p h = root_le a b (from_over (a ∷ b ∷ u ∷ []) u p h (search read depth 40 fits 20000) refl)

-- from q to its tenths: what is at most q·40,960, over 4,096
to_tenths : (i v t u : ℕ) → i * 4096 ≤ v → v * v * u ≤ 1677721600 * t → i * i * u ≤ 100 * t
to_tenths i v t u h k =
    from_over (i ∷ v ∷ t ∷ u ∷ []) 16777216 (lit< tt) (u ⋆ mul-le-mul h h ⊹ k) (search read depth 40 fits 20000) refl

of_tenths : (I r t u : ℕ) → 0 < u → I * I * u ≤ 100 * t → 1677721600 * t ≤ (r + 1) * (r + 1) * u → I * 4096 ≤ r + 1
of_tenths I r t u p h k = root_over (I * 4096) (r + 1) u p (from (I ∷ r ∷ t ∷ u ∷ []) (16777216 ⋆ h ⊹ k) (search read depth 40 fits 20000) refl)

-- what is at most 2·40,960
to_two : (v t u : ℕ) → 0 < u → v * v * u ≤ 1677721600 * t → t ≤ 4 * u → v ≤ 81920
to_two v t u p h k = root_over v 81920 u p (from (v ∷ t ∷ u ∷ []) (h ⊹ 1677721600 ⋆ k) (search read depth 40 fits 20000) refl)

-- ---- the factor from bounds of q
pub mu_bounds : (delay : ℕ) (Q : Fraction) → 0 < Q.under → (r : ℕ)
    → 1677721600 * Q.top ≤ (r + 1) * (r + 1) * Q.under → under_root r * under_root r * Q.under ≤ 1677721600 * Q.top
    → (mu_at delay Q ≤ mu_by delay r) × (1000 * mu_by delay r ≤ 1017 * mu_at delay Q) × (mu_by delay r ≤ 1000)
unfolding mu_at mu_by
mu_bounds delay Q p r h l =
    on (leb Q.top (4 * Q.under)) (leb (under_root r) 81920) (leb→le _ _) (nleb→lt _ _) (leb→le _ _) (nleb→lt _ _)
    (of_tenths (tenths_of Q) r Q.top Q.under p (tenths_low Q) h) (tenths_most Q)
  where
    on : (a b : Bool) → (T a → Q.top ≤ 4 * Q.under) → (T (not a) → 4 * Q.under < Q.top) → (T b → under_root r ≤ 81920) → (T (not b) → 81920 < under_root r)
        → tenths_of Q * 4096 ≤ r + 1 → tenths_of Q ≤ 100
        → (cond a 1000 (mu_of delay (tenths_of Q)) ≤ cond b 1000 (mu_of delay (min (under_root r / 4096) 100)))
        × (1000 * cond b 1000 (mu_of delay (min (under_root r / 4096) 100)) ≤ 1017 * cond a 1000 (mu_of delay (tenths_of Q)))
        × (cond b 1000 (mu_of delay (min (under_root r / 4096) 100)) ≤ 1000)
    on true true a n b m k g = (omega arith, omega arith, omega arith)
    on true false a n b m k g = absurd (not-le_of_lt (m tt) (to_two (under_root r) Q.top Q.under p l (a tt)))
    on false true a n b m k g =
        let e : 20 ≤ tenths_of Q = tenths_greatest Q 20 (omega arith) (let x = n tt in omega arith) in
        let f : tenths_of Q ≤ 20 = (let x = b tt in omega arith) in
        let s = near_mu delay 19 (tenths_of Q) (omega arith) (omega arith) g in
        let z = mu_first delay in
        (mu_most delay (tenths_of Q), omega (arith, s, z), omega arith)
    on false false a n b m k g =
        let i = min (under_root r / 4096) 100 in
        let f : i ≤ tenths_of Q = tenths_greatest Q i (omega arith) (to_tenths i (under_root r) Q.top Q.under (omega arith) l) in
        let s = near_mu delay i (tenths_of Q) f (omega arith) g in
        (s.0, s.1, mu_most delay i)
