-- Valid ranges: their ends as facts, and what a sticky operation gives. Assumes nothing.
use mathlib.Core.Path.{◌≡◌, refl, sym, ◌∙◌, subst}
use mathlib.Core.Bool.{Bool, true, false, not, ◌&&◌, cond}
use mathlib.Core.Logic.{◌⊎◌, inl, inr}
use lib.Dec.{T}
use lib.Signed.{le_z, ◌≤ℤ◌, le_z_yes}
use Rattle.range.specs.declared.Range.{Range}
use Rattle.range.specs.Limit.{least, most, over, is_valid, both_valid, kept, sticky₁, sticky₂}
use Rattle.range.specs.Laws.{Settled}

-- ---- tests
pub T_true : {b : Bool} → T b → b ≡ true
T_true {b = true} t = refl
T_true {b = false} t = absurd t

pub true-T : {b : Bool} → b ≡ true → T b
true-T {b} e = subst T (sym e) tt

pub not-true : {b : Bool} → (T b → ⊥) → b ≡ false
not-true {b = true} f = absurd (f tt)
not-true {b = false} f = refl

pub false-T : {b : Bool} → b ≡ false → T (not b)
false-T {b} e = subst (λ c. T (not c)) (sym e) tt

pub and_left : (b c : Bool) → T (b && c) → T b
and_left true c t = tt
and_left false c t = absurd t

pub and_right : (b c : Bool) → T (b && c) → T c
and_right true c t = t
and_right false c t = absurd t

pub and_both : (b c : Bool) → T b → T c → T (b && c)
and_both true c t u = u
and_both false c t u = absurd t

pub and-false : (b c : Bool) → (b ≡ false) ⊎ (c ≡ false) → (b && c) ≡ false
and-false b c (inl e) = rw e
and-false true c (inr e) = e
and-false false c (inr e) = refl

-- what holds of both ways out of a test
pub by-test : {A : Type 0} (P : A → Type 0) (c : Bool) {x y : A} → (T c → P x) → (T (not c) → P y) → P (cond c x y)
by-test P true f g = f tt
by-test P false f g = g tt

-- ---- the ends of a valid range
pub record Ends (r : Range) : Type 0 where
  pub above : least ≤ℤ r.low
  pub order : r.low ≤ℤ r.high
  pub below : r.high ≤ℤ most

module _ (r : Range) where
  pub ends-of : T (is_valid r) → Ends r
  unfolding is_valid
  ends-of t =
      let above = le_z least r.low in
      let order = le_z r.low r.high in
      let below = le_z r.high most in
      let u = and_right above (order && below) t in
      record {
        above = le_z_yes (and_left above (order && below) t);
        order = le_z_yes (and_left order below u);
        below = le_z_yes (and_right order below u);
      }

  pub valid-of : Ends r → T (is_valid r)
  unfolding is_valid
  valid-of e = and_both (le_z least r.low) _ e.above.le (and_both (le_z r.low r.high) _ e.order.le e.below.le)

module _ (a b : Range) where
  pub both_left : T (both_valid a b) → T (is_valid a)
  unfolding both_valid
  both_left t = and_left (is_valid a) (is_valid b) t

  pub both_right : T (both_valid a b) → T (is_valid b)
  unfolding both_valid
  both_right t = and_right (is_valid a) (is_valid b) t

  pub both-valid : T (is_valid a) → T (is_valid b) → T (both_valid a b)
  unfolding both_valid
  both-valid t u = and_both (is_valid a) (is_valid b) t u

-- ---- results
pub over-invalid : T (is_valid over) → ⊥
unfolding is_valid
over-invalid t = t

-- a test with `over` on its other side: valid only where it passed
pub if-valid : (c : Bool) (r : Range) → T (is_valid (cond c r over)) → T c × T (is_valid r)
if-valid true r t = (tt, t)
if-valid false r t = absurd (over-invalid t)

pub if-passed : {A : Type 0} (c : Bool) (r s : A) → T c → cond c r s ≡ r
if-passed true r s t = refl
if-passed false r s t = absurd t

pub if-settled : (c : Bool) {r : Range} → (T c → Settled r) → Settled (cond c r over)
if-settled true f = f tt
if-settled false f = inr refl

pub kept-is : (r : Range) → T (is_valid r) → kept r ≡ r
unfolding kept
kept-is r t = if-passed (is_valid r) r over t

pub kept-settled : (r : Range) → Settled (kept r)
unfolding kept
kept-settled r = go (is_valid r) refl
  where
    go : (c : Bool) → is_valid r ≡ c → Settled (cond c r over)
    go true e = inl e
    go false e = inr refl

-- kept where valid, and valid only then
pub kept-valid : (r : Range) → T (is_valid (kept r)) → T (is_valid r)
unfolding kept
kept-valid r t = (if-valid (is_valid r) r t).0

-- What is known of a sticky operation's valid result: the operands are valid, and it is what the ends say.
module _ (f : Range → Range) (a : Range) where
  pub record Sticky₁ : Type 0 where
    pub operand : T (is_valid a)
    pub result : T (is_valid (f a))
    pub is : sticky₁ f a ≡ f a

  pub sticky₁-of : T (is_valid (sticky₁ f a)) → Sticky₁
  sticky₁-of t =
      let p = if-valid (is_valid a) (kept (f a)) t in
      let v = kept-valid (f a) p.1 in
      record { operand = p.0; result = v; is = if-passed (is_valid a) (kept (f a)) over p.0 ∙ kept-is (f a) v }

  pub sticky₁-is : T (is_valid a) → T (is_valid (f a)) → sticky₁ f a ≡ f a
  sticky₁-is t u = if-passed (is_valid a) (kept (f a)) over t ∙ kept-is (f a) u

  pub sticky₁-settled : Settled (sticky₁ f a)
  sticky₁-settled = if-settled (is_valid a) (λ t. kept-settled (f a))

module _ (f : Range → Range → Range) (a b : Range) where
  pub record Sticky₂ : Type 0 where
    pub left : T (is_valid a)
    pub right : T (is_valid b)
    pub result : T (is_valid (f a b))
    pub is : sticky₂ f a b ≡ f a b

  pub sticky₂-of : T (is_valid (sticky₂ f a b)) → Sticky₂
  sticky₂-of t =
      let p = if-valid (both_valid a b) (kept (f a b)) t in
      let v = kept-valid (f a b) p.1 in
      record {
        left = both_left a b p.0;
        right = both_right a b p.0;
        result = v;
        is = if-passed (both_valid a b) (kept (f a b)) over p.0 ∙ kept-is (f a b) v;
      }

  pub sticky₂-is : T (is_valid a) → T (is_valid b) → T (is_valid (f a b)) → sticky₂ f a b ≡ f a b
  sticky₂-is t u v = if-passed (both_valid a b) (kept (f a b)) over (both-valid a b t u) ∙ kept-is (f a b) v

  pub sticky₂-settled : Settled (sticky₂ f a b)
  sticky₂-settled = if-settled (both_valid a b) (λ t. kept-settled (f a b))
