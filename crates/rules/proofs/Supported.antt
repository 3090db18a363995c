-- The sets of a line: its first derivatives are 0 outside P, its second ones are 0 outside B. Each row keeps this.
-- Assumes nothing.
use mathlib.Core.Path.{◌≡◌, refl, ◌∙◌, ap₂}
use mathlib.Core.Bool.{Bool, true, false, cond}
use Prim.Native.Nat.{ℕ}
use lib.Dec.{T, eqb, eqb→eq}
use lib.IntN.{ℤ}
use Rattle.algebra.proofs.Solver.{lit, ◌:+◌, ◌:*◌, :-◌, ◌:=◌, ring}
use Rattle.exact.proofs.Rat as Q
use Rattle.exact.proofs.Rat.{ℚ, ℚ-ring, ◌+ℚ◌, ◌*ℚ◌, neg_ℚ, 0ℚ, 1ℚ}
use Rattle.range.specs.Inclusion.{num}
use Rattle.range.specs.Sums.{has}
use Rattle.rules.specs.Sets.{single, ◌∪◌}
use Rattle.rules.specs.Exact.{Point, Jet, factor_jet, add_jet, addc_jet, mulc_jet, mul_jet, pow_jet, inv_jet}
use Rattle.rules.proofs.Members.{outside, left-in, right-in, in-single}

-- of a line with the sets p and b
pub record Supported (x : Jet) (p b : ℕ) : Type 0 where
  pub first : (a : ℕ) → ¬ T (has p a) → x.first a ≡ 0ℚ
  pub second : (a c : ℕ) → ¬ T (has b a) → x.second a c ≡ 0ℚ
  pub symmetric : (a c : ℕ) → x.second a c ≡ x.second c a

neg-zero : neg_ℚ 0ℚ ≡ 0ℚ
neg-zero = ring ℚ-ring 0 (:- lit 0 := lit 0) tt

pub factor-supported : (f : ℕ) (p : Point) (i : ℕ) → Supported (factor_jet p i) (single i) f
unfolding factor_jet
factor-supported f p i = record {
  first = λ a o. other (eqb a i) (λ t. o (rw (eqb→eq a i t) (in-single i)));
  second = λ a c o. refl;
  symmetric = λ a c. refl;
}
  where
    other : (b : Bool) → ¬ T b → cond b 1ℚ 0ℚ ≡ 0ℚ
    other true o = absurd (o tt)
    other false o = refl

module _ {x : Jet} {p b : ℕ} (h : Supported x p b) where
  pub addc-supported : (c : ℤ) → Supported (addc_jet x c) p b
  unfolding addc_jet
  addc-supported c = record { first = h.first; second = h.second; symmetric = h.symmetric }

  pub mulc-supported : (c : ℤ) → Supported (mulc_jet x c) p b
  unfolding mulc_jet
  mulc-supported c = record {
    first = λ a o. rw (h.first a o) (Q.zero-*ℚ _);
    second = λ a d o. rw (h.second a d o) (Q.zero-*ℚ _);
    symmetric = λ a d. rw (h.symmetric a d);
  }

  pub pow-supported : (m : ℕ) → Supported (pow_jet x m) p (p ∪ b)
  unfolding pow_jet
  pow-supported m = record {
    first = λ a o. simp (h.first a o, Q.*ℚ-zero);
    second = λ a d o. simp (h.first a (outside (left-in p b) a o), h.second a d (outside (right-in p b) a o), Q.*ℚ-zero, Q.zero-*ℚ, Q.+ℚ-zero);
    symmetric = λ a d. rw (h.symmetric a d) (swapped _ _ (x.first a) (x.first d));
  }
    where
      swapped : (s k u v : ℚ) → s +ℚ k *ℚ u *ℚ v ≡ s +ℚ k *ℚ v *ℚ u
      swapped = ring ℚ-ring 4 (λ s k u v. s :+ k :* u :* v := s :+ k :* v :* u) tt

  pub inv-supported : (y : ℚ) → Supported (inv_jet x y) p (p ∪ b)
  unfolding inv_jet
  inv-supported y = record {
    first = λ a o. simp (h.first a o, Q.zero-*ℚ, neg-zero);
    second = λ a d o. simp (h.first a (outside (left-in p b) a o), h.second a d (outside (right-in p b) a o), Q.*ℚ-zero, Q.zero-*ℚ, neg-zero, Q.+ℚ-zero);
    symmetric = λ a d. rw (h.symmetric a d) (swapped (num 2) _ _ (x.first a) (x.first d));
  }
    where
      swapped : (k w s u v : ℚ) → k *ℚ u *ℚ v *ℚ w +ℚ s ≡ k *ℚ v *ℚ u *ℚ w +ℚ s
      swapped = ring ℚ-ring 5 (λ k w s u v. k :* u :* v :* w :+ s := k :* v :* u :* w :+ s) tt

module _ {x y : Jet} {p b q c : ℕ} (h : Supported x p b) (k : Supported y q c) where
  pub add-supported : Supported (add_jet x y) (p ∪ q) (b ∪ c)
  unfolding add_jet
  add-supported = record {
    first = λ a o. ap₂ ◌+ℚ◌ (h.first a (outside (left-in p q) a o)) (k.first a (outside (right-in p q) a o)) ∙ Q.+ℚ-zero 0ℚ;
    second = λ a d o. ap₂ ◌+ℚ◌ (h.second a d (outside (left-in b c) a o)) (k.second a d (outside (right-in b c) a o)) ∙ Q.+ℚ-zero 0ℚ;
    symmetric = λ a d. ap₂ ◌+ℚ◌ (h.symmetric a d) (k.symmetric a d);
  }

  pub mul-supported : Supported (mul_jet x y) (p ∪ q) ((p ∪ b) ∪ (q ∪ c))
  unfolding mul_jet
  mul-supported = record {
    first = λ a o. simp (h.first a (outside (left-in p q) a o), k.first a (outside (right-in p q) a o), Q.*ℚ-zero, Q.+ℚ-zero);
    second = λ a d o.
        let u = outside (left-in (p ∪ b) (q ∪ c)) a o in
        let v = outside (right-in (p ∪ b) (q ∪ c)) a o in
        let s = h.second a d (outside (right-in p b) a u) in
        let t = k.second a d (outside (right-in q c) a v) in
        simp (h.first a (outside (left-in p b) a u), k.first a (outside (left-in q c) a v), s, t, Q.*ℚ-zero, Q.zero-*ℚ, Q.+ℚ-zero);
    symmetric = λ a d. rw (h.symmetric a d, k.symmetric a d) (swapped _ (x.first a *ℚ y.first d) (x.first d *ℚ y.first a));
  }
    where
      swapped : (s u v : ℚ) → s +ℚ u +ℚ v ≡ s +ℚ v +ℚ u
      swapped = ring ℚ-ring 3 (λ s u v. s :+ u :+ v := s :+ v :+ u) tt
