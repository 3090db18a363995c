-- What a line depends on. At a point that agrees with p on P it has a value, the same as at p, and at one that agrees on B the same first
-- derivatives: every `inv` that a line uses has a P within the line's B. Each row of the table keeps this. Assumes nothing.
use mathlib.Core.Path.{◌≡◌, refl, sym, ◌∙◌, ap, ap₂, subst}
use mathlib.Core.Option.{Option, some}
use Prim.Native.Nat.{ℕ}
use lib.IntN.{ℤ}
use Rattle.exact.proofs.Rat.{ℚ, ◌*ℚ◌, 1ℚ, recip, recip-some}
use Rattle.range.specs.declared.Range.{Range}
use Rattle.rules.specs.declared.Line.{Line}
use Rattle.rules.specs.Sets.{◌∪◌}
use Rattle.rules.specs.Table.{reach, factor_row, add_row, addc_row, mulc_row, mul_row, pow_row, inv_row, line_of}
use Rattle.rules.specs.Exact.{Point, Jet, factor_jet, add_jet, addc_jet, mulc_jet, mul_jet, pow_jet, inv_jet, using1, using2, invert}
use Rattle.rules.specs.Promises.{Agree}
use Rattle.rules.proofs.Members.{◌⊆◌, left-in, right-in, in-single}

-- ════ a value that there is ════

-- o is a jet for which P holds
pub record Given (P : Jet → Type 0) (o : Option Jet) : Type 0 where
  pub given : Jet
  pub is : o ≡ some given
  pub holds : P given

module _ {P Q : Jet → Type 0} where
  -- two things known of one jet
  pub given_both : {o : Option Jet} → Given P o → Given Q o → Given (λ x. P x × Q x) o
  given_both g h =
      let e : h.given ≡ g.given = cc in
      record { given = g.given; is = g.is; holds = (g.holds, subst Q e h.holds) }

  -- through a row that uses one line, or two
  pub given1 : {o : Option Jet} (f : Jet → Option Jet) → Given P o → ((x : Jet) → P x → Given Q (f x)) → Given Q (using1 f o)
  given1 f g k = let r = k g.given g.holds in record { given = r.given; is = ap (using1 f) g.is ∙ r.is; holds = r.holds }

  pub given2 : {S : Jet → Type 0} {o u : Option Jet} (f : Jet → Jet → Jet) → Given P o → Given Q u → ((x y : Jet) → P x → Q y → S (f x y))
      → Given S (using2 f o u)
  given2 f g h k =
      record { given = f g.given h.given; is = ap₂ (using2 f) g.is h.is; holds = k g.given h.given g.holds h.holds }

pub given-some : {P : Jet → Type 0} {x : Jet} → P x → Given P (some x)
given-some {x = x} h = record { given = x; is = refl; holds = h }

-- ════ the same elsewhere ════

pub record SameValue (x y : Jet) : Type 0 where
  pub value : y.value ≡ x.value

pub record SameFirst (x y : Jet) : Type 0 where
  pub first : (a : ℕ) → y.first a ≡ x.first a

-- a line, x at the point p and u at q
pub record Independent (p q : Point) (x : Jet) (u : Option Jet) (l : Line) : Type 0 where
  pub value : Agree l.support p q → Given (SameValue x) u
  pub first : Agree l.nonlinear p q → Given (SameFirst x) u

module _ (p q : Point) where
  pub agree-part : {s t : ℕ} → s ⊆ t → Agree t p q → Agree s p q
  agree-part h g = record { each = λ a m. g.each a (h.into a m) }

  pub factor-independent : (f i : ℕ) (r : Range) → Independent p q (factor_jet p i) (some (factor_jet q i)) (line_of (factor_row f i r))
  unfolding factor_jet factor_row line_of
  factor-independent f i r = record {
    value = λ g. given-some (record { value = sym (g.each i (in-single i)) });
    first = λ g. given-some (record { first = λ a. refl });
  }

  module _ {x : Jet} {u : Option Jet} {l : Line} (h : Independent p q x u l) where
    -- where the points agree on P and B, both are the same
    both : Agree (reach l) p q → Given (λ y. SameValue x y × SameFirst x y) u
    both g =
        given_both (h.value (agree-part (left-in l.support l.nonlinear) g))
        (h.first (agree-part (right-in l.support l.nonlinear) g))

    pub addc-independent : (c : ℤ) → Independent p q (addc_jet x c) (using1 (λ x. some (addc_jet x c)) u) (line_of (addc_row l c))
    unfolding addc_jet addc_row line_of
    addc-independent c = record {
      value = λ g. given1 _ (h.value g) (λ y e. given-some (record { value = rw e.value }));
      first = λ g. given1 _ (h.first g) (λ y e. given-some (record { first = e.first }));
    }

    pub mulc-independent : (c : ℤ) → Independent p q (mulc_jet x c) (using1 (λ x. some (mulc_jet x c)) u) (line_of (mulc_row l c))
    unfolding mulc_jet mulc_row line_of
    mulc-independent c = record {
      value = λ g. given1 _ (h.value g) (λ y e. given-some (record { value = rw e.value }));
      first = λ g. given1 _ (h.first g) (λ y e. given-some (record { first = λ a. rw (e.first a) }));
    }

    pub pow-independent : (m : ℕ) → Independent p q (pow_jet x m) (using1 (λ x. some (pow_jet x m)) u) (line_of (pow_row l m))
    unfolding pow_jet pow_row line_of
    pow-independent m = record {
      value = λ g. given1 _ (h.value g) (λ y e. given-some (record { value = rw e.value }));
      first = λ g. given1 _ (both g) (λ y e. given-some (record { first = λ a. rw (e.0.value, e.1.first a) }));
    }

    -- z is 1/x, and so 1/y
    pub inv-independent : (z : ℚ) → x.value *ℚ z ≡ 1ℚ
        → Independent p q (inv_jet x z) (using1 (λ x. invert x (recip x.value)) u) (line_of (inv_row l))
    unfolding inv_jet inv_row line_of
    inv-independent z one = record {
      value = λ g. given1 _ (h.value g) (λ y e. inverted y e.value (record { value = refl }));
      first = λ g. given1 _ (both g) (λ y e. inverted y e.0.value (record { first = λ a. rw (e.1.first a) }));
    }
      where
        inverted : {P : Jet → Type 0} (y : Jet) → y.value ≡ x.value → P (inv_jet y z) → Given P (invert y (recip y.value))
        inverted y e k = rw (e, recip-some x.value one) (given-some k)

  module _ {x y : Jet} {u v : Option Jet} {l m : Line} (h : Independent p q x u l) (k : Independent p q y v m) where
    left-support : Agree (l.support ∪ m.support) p q → Agree l.support p q
    left-support = agree-part (left-in l.support m.support)

    right-support : Agree (l.support ∪ m.support) p q → Agree m.support p q
    right-support = agree-part (right-in l.support m.support)

    pub add-independent : Independent p q (add_jet x y) (using2 add_jet u v) (line_of (add_row l m))
    unfolding add_jet add_row line_of
    add-independent = record {
      value = λ g.
          given2 add_jet (h.value (left-support g)) (k.value (right-support g))
          (λ z w e f. record { value = rw (e.value, f.value) });
      first = λ g.
          given2 add_jet
          (h.first (agree-part (left-in l.nonlinear m.nonlinear) g))
          (k.first (agree-part (right-in l.nonlinear m.nonlinear) g))
          (λ z w e f. record { first = λ a. rw (e.first a, f.first a) });
    }

    pub mul-independent : Independent p q (mul_jet x y) (using2 mul_jet u v) (line_of (mul_row l m))
    unfolding mul_jet mul_row line_of
    mul-independent = record {
      value = λ g.
          given2 mul_jet (h.value (left-support g)) (k.value (right-support g))
          (λ z w e f. record { value = rw (e.value, f.value) });
      first = λ g.
          given2 mul_jet (both h (agree-part (left-in (reach l) (reach m)) g)) (both k (agree-part (right-in (reach l) (reach m)) g))
          (λ z w e f. record { first = λ a. rw (e.0.value, e.1.first a, f.0.value, f.1.first a) });
    }
