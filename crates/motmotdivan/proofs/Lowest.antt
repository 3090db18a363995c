-- The lowest factor with an end that is no whole number; and that no double past the last factor is looked at.
use Rattle.std.proofs.Common.{◌≡◌, ℕ, zero, suc, ◌+◌, ◌*◌, ◌<◌, ◌≤◌, ◌⊎◌, List, [], ◌∷◌, length, take, drop, ℤ, sym, refl, ap, ◌∙◌, subst, inl, inr, arith, take-take}
use native.Mathlib.Decide.{ℕ_discrete}
use lib.Ieee.{binary64, of_bits}
use Rattle.encoding.specs.Bytes.{number_of}
use Rattle.motmotdivan.specs.Doubles.{Number, whole, no_whole, whole_of}
use Rattle.motmotdivan.specs.Record.{number_at, Read, numbers, fraction, before, read_from}

not-numbers : {X : Type 0} {xs : List ℤ} {k : ℕ} → numbers xs ≡ fraction k → X
not-numbers e = absurd (let n : ◌≡◌ {A = ℕ} 0 1 = cc in omega arith)

-- an end of the factor of index a, from 0, is no whole number
abbrev Fraction : List ℕ → ℕ → Type 0
Fraction b a = (number_at b (2 * a) ≡ no_whole) ⊎ (number_at b (2 * a + 1) ≡ no_whole)

-- of m factors from index s on, k is the number of the lowest
pub record From (b : List ℕ) (s m k : ℕ) : Type 0 where
  pub index : ℕ
  pub number : k ≡ index + 1
  pub inside : (s ≤ index) × (index < s + m)
  pub found : Fraction b index
  pub lower : (j : ℕ) → s ≤ j → j < index → ¬ (Fraction b j)

whole-not : {x : Number} {z : ℤ} → x ≡ whole z → x ≡ no_whole → ⊥
whole-not p q = let e : whole _ ≡ no_whole = sym p ∙ q in let n : ◌≡◌ {A = ℕ} 0 1 = cc in omega arith

here : (b : List ℕ) (s m k : ℕ) → Fraction b s → fraction (s + 1) ≡ fraction k → From b s (suc m) k
here b s m k f e =
    let n : s + 1 ≡ k = cc in
    record { index = s; number = sym n; inside = (omega arith, omega arith); found = f; lower = λ j l h. absurd (omega arith) }

pub lowest-found : (b : List ℕ) (s m k : ℕ) → read_from b s m ≡ fraction k → From b s m k
unfolding read_from
lowest-found b s zero k e = not-numbers e
lowest-found b s (suc m) k e = go (number_at b (2 * s)) (number_at b (2 * s + 1)) (read_from b (s + 1) m) refl refl (lowest-found b (s + 1) m k) e
  where
    go : (x y : Number) (r : Read) → number_at b (2 * s) ≡ x → number_at b (2 * s + 1) ≡ y → (r ≡ fraction k → From b (s + 1) m k)
        → before (s + 1) x y r ≡ fraction k → From b s (suc m) k
    go (whole l) (whole h) (numbers xs) p q more t = not-numbers t
    go (whole l) (whole h) (fraction j) p q more t =
        let w = more t in
        record {
          index = w.index;
          number = w.number;
          inside = (omega (arith, w.inside), omega (arith, w.inside));
          found = w.found;
          lower = λ j g i. elim (ℕ_discrete j s) [
            | yes u ↦ λ f. none u f
            | no u ↦ w.lower j (omega arith) i
          ];
        }
      where
        none : {i : ℕ} → i ≡ s → Fraction b i → ⊥
        none {i} u (inl f) = whole-not p (ap (λ (n : ℕ). number_at b (2 * n)) (sym u) ∙ f)
        none {i} u (inr f) = whole-not q (ap (λ (n : ℕ). number_at b (2 * n + 1)) (sym u) ∙ f)
    go (whole l) no_whole r p q more t = here b s m k (inr q) t
    go no_whole y r p q more t = here b s m k (inl p) t

pub lowest-read : (b : List ℕ) (s m k : ℕ) → From b s m k → read_from b s m ≡ fraction k
unfolding read_from
lowest-read b s zero k f = absurd (omega (arith, f.inside))
lowest-read b s (suc m) k f = go (number_at b (2 * s)) (number_at b (2 * s + 1)) refl refl (lowest-read b (s + 1) m k)
  where
    at : f.index ≡ s → s + 1 ≡ k
    at u = omega (arith, f.number)

    after : ¬ (f.index ≡ s) → From b (s + 1) m k
    after u = record {
      index = f.index;
      number = f.number;
      inside = (omega (arith, f.inside), omega (arith, f.inside));
      found = f.found;
      lower = λ j g h. f.lower j (omega arith) h;
    }

    -- a factor with a fraction is the one: none is lower
    one : Fraction b s → s + 1 ≡ k
    one g = elim (ℕ_discrete f.index s) [
      | yes u ↦ at u
      | no u ↦ absurd (f.lower s (omega arith) (omega (arith, f.inside)) g)
    ]

    go : (x y : Number) → number_at b (2 * s) ≡ x → number_at b (2 * s + 1) ≡ y → (From b (s + 1) m k → read_from b (s + 1) m ≡ fraction k)
        → before (s + 1) x y (read_from b (s + 1) m) ≡ fraction k
    go (whole l) (whole h) p q more =
        elim (ℕ_discrete f.index s) [
          | yes u ↦ absurd (none (subst (Fraction b) u f.found))
          | no u ↦ ap (before (s + 1) (whole l) (whole h)) (more (after u))
        ]
      where
        none : Fraction b s → ⊥
        none (inl g) = whole-not p g
        none (inr g) = whole-not q g
    go (whole l) no_whole p q more = ap fraction (one (inr q))
    go no_whole y p q more = ap fraction (one (inl p))

pub fraction-within : (b : List ℕ) (s m k : ℕ) → read_from b s m ≡ fraction k → (s + 1 ≤ k) × (k ≤ s + m)
fraction-within b s m k e = let f = lowest-found b s m k e in (omega (arith, f.number, f.inside), omega (arith, f.number, f.inside))

-- ---- two numbers for each factor
one_more : {X : Type 0} {xs : List ℤ} {k : ℕ} → fraction k ≡ numbers xs → X
one_more e = not-numbers (sym e)

pub read-many : (b : List ℕ) (s m : ℕ) (xs : List ℤ) → read_from b s m ≡ numbers xs → length xs ≡ 2 * m
unfolding read_from
read-many b s zero xs e = let p : ◌≡◌ {A = List ℤ} [] xs = cc in sym (ap length p)
read-many b s (suc m) xs e = go (number_at b (2 * s)) (number_at b (2 * s + 1)) (read_from b (s + 1) m) (read-many b (s + 1) m) e
  where
    go : (x y : Number) (r : Read) → ((ys : List ℤ) → r ≡ numbers ys → length ys ≡ 2 * m) → before (s + 1) x y r ≡ numbers xs → length xs ≡ 2 * suc m
    go (whole l) (whole h) (numbers ys) more t = let p : l ∷ h ∷ ys ≡ xs = cc in sym (ap length p) ∙ omega (arith, more ys refl)
    go (whole l) (whole h) (fraction k) more t = one_more t
    go (whole l) no_whole r more t = one_more t
    go no_whole y r more t = one_more t

-- ---- doubles past the last factor
early : (k : ℕ) (b : List ℕ) (m n : ℕ) → m + k ≤ n → take k (drop m (take n b)) ≡ take k (drop m b)
early k b zero n h = take-take k n b (omega arith)
early k [] (suc m) zero h = refl
early k [] (suc m) (suc n) h = refl
early k (x ∷ b) (suc m) zero h = absurd (omega arith)
early k (x ∷ b) (suc m) (suc n) h = early k b m n (omega arith)

-- lists with the same beginning have the same parts in it
pub same-part : (x y : List ℕ) (k m n : ℕ) → take n x ≡ take n y → m + k ≤ n → take k (drop m x) ≡ take k (drop m y)
same-part x y k m n e h = sym (early k x m n h) ∙ ap (λ (t : List ℕ). take k (drop m t)) e ∙ early k y m n h

same_number : (x y : List ℕ) (n k : ℕ) → take n x ≡ take n y → 8 * k + 8 ≤ n → number_at x k ≡ number_at y k
unfolding number_at
same_number x y n k e h = ap (λ (t : List ℕ). whole_of (of_bits binary64 (number_of t))) (same-part x y 8 (8 * k) n e h)

same-before : (a : ℕ) {w x y z : Number} {p q : Read} → w ≡ x → y ≡ z → p ≡ q → before a w y p ≡ before a x z q
same-before a e f g = λ i. before a (e i) (f i) (g i)

pub same_read : (x y : List ℕ) (n s m : ℕ) → take n x ≡ take n y → 16 * (s + m) ≤ n → read_from x s m ≡ read_from y s m
unfolding read_from
same_read x y n s zero e h = refl
same_read x y n s (suc m) e h =
    same-before (s + 1) (same_number x y n (2 * s) e (omega arith)) (same_number x y n (2 * s + 1) e (omega arith)) (same_read x y n (s + 1) m e (omega arith))
