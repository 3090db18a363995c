-- Eight ranges, one for each factor, that are worked out for the members of a set: a rule which gives zero of zeros needs no test of
-- membership. Assumes nothing.
use mathlib.Core.Path.{◌≡◌, refl, sym, ap, subst, ◌∙◌}
use mathlib.Core.Bool.{Bool, true, false, ◌||◌, cond, false≢true}
use mathlib.Core.List.{List}
use mathlib.Core.Logic.{◌⊎◌, inl, inr}
use Prim.Native.Nat.{ℕ, zero, suc, ◌/◌, ◌%◌, ◌^◌, ◌≤◌, ◌<◌, max}
use native.Mathlib.Omega.{arith}
use borrow.Author.Tests.{ltb-true, ltb-false}
use lib.Bits.{bit_or, or_step, or_shr}
use lib.Dec.{eqb, ltb}
use lib.ListN.{length, get_or-eq_default}
use lib.Seq.{ext_get_or}
use Rattle.range.specs.declared.Range.{Range}
use Rattle.range.specs.Limit.{zero_range}
use Rattle.range.specs.Sums.{has, at}
use Rattle.rules.specs.Sets.{◌∪◌}
use Rattle.rules.specs.Table.{eight}
use Rattle.bounds.specs.Terms.{member_or, over_members}

pub below_or : (k a : ℕ) → (k < a) ⊎ (a ≤ k)
below_or k a = go (ltb k a) refl
  where
    go : (t : Bool) → ltb k a ≡ t → (k < a) ⊎ (a ≤ k)
    go true e = inl (ltb-true k a e)
    go false e = inr (ltb-false k a e)

-- ---- eight elements
pub at-eight : (f : ℕ → Range) (k : ℕ) → k < 8 → at (eight f) k ≡ f k
at-eight f zero h = refl
at-eight f (suc zero) h = refl
at-eight f (suc (suc zero)) h = refl
at-eight f (suc (suc (suc zero))) h = refl
at-eight f (suc (suc (suc (suc zero)))) h = refl
at-eight f (suc (suc (suc (suc (suc zero))))) h = refl
at-eight f (suc (suc (suc (suc (suc (suc zero)))))) h = refl
at-eight f (suc (suc (suc (suc (suc (suc (suc zero))))))) h = refl
at-eight f (suc (suc (suc (suc (suc (suc (suc (suc k)))))))) h = absurd (omega arith)

-- at any index: an element, or zero past the end
pub at-any : (f : ℕ → Range) (a : ℕ) (P : Range → Type 0) → P zero_range → P (f a) → P (at (eight f) a)
at-any f a P z p = go (below_or a 8)
  where
    go : (a < 8) ⊎ (8 ≤ a) → P (at (eight f) a)
    go (inl h) = subst P (sym (at-eight f a h)) p
    go (inr h) = subst P (sym (get_or-eq_default (eight f) zero_range h)) z

pub is-eight : (g : List Range) (f : ℕ → Range) → length g ≡ 8 → ((k : ℕ) → k < 8 → at g k ≡ f k) → g ≡ eight f
is-eight g f e h = ext_get_or zero_range g (eight f) e (λ k b. let l : k < 8 = omega (arith, e) in h k l ∙ sym (at-eight f k l))

pub eight-same : (f g : ℕ → Range) → ((a : ℕ) → a < 8 → f a ≡ g a) → eight f ≡ eight g
eight-same f g e = is-eight (eight f) g refl (λ k h. at-eight f k h ∙ e k h)

-- ---- outside the set
module _ (s : ℕ) (f : ℕ → Range) where
  -- a rule that is zero outside a set needs no test
  pub members-all : ((a : ℕ) → has s a ≡ false → f a ≡ zero_range) → over_members s f ≡ eight f
  members-all z = eight-same (member_or s f) f (λ a h. go a (has s a) refl)
    where
      go : (a : ℕ) (t : Bool) → has s a ≡ t → cond (has s a) (f a) zero_range ≡ f a
      go a true e = rw e
      go a false e = rw e (sym (z a e))

  pub members-flat : (a : ℕ) → has s a ≡ false → at (over_members s f) a ≡ zero_range
  members-flat a e = at-any (member_or s f) a (λ r. r ≡ zero_range) refl (ap (λ (t : Bool). cond t (f a) zero_range) e)

-- ---- unions
or-bit : (x y : ℕ) → x < 2 → y < 2 → eqb (max x y) 1 ≡ (eqb x 1 || eqb y 1)
or-bit zero zero h k = refl
or-bit zero (suc zero) h k = refl
or-bit zero (suc (suc y)) h k = absurd (omega arith)
or-bit (suc zero) zero h k = refl
or-bit (suc zero) (suc zero) h k = refl
or-bit (suc zero) (suc (suc y)) h k = absurd (omega arith)
or-bit (suc (suc x)) y h k = absurd (omega arith)

pub has-union : (s t a : ℕ) → has (s ∪ t) a ≡ (has s a || has t a)
unfolding has
has-union s t a =
    ap (λ (n : ℕ). eqb (n % 2) 1) (or_shr s t a)
    ∙ ap (λ (n : ℕ). eqb n 1) (low (s / 2 ^ a) (t / 2 ^ a))
    ∙ or-bit (s / 2 ^ a % 2) (t / 2 ^ a % 2) (omega arith) (omega arith)
  where
    low : (x y : ℕ) → bit_or x y % 2 ≡ max (x % 2) (y % 2)
    low x y = omega (arith, or_step x y)

or-false : (b c : Bool) → (b || c) ≡ false → (b ≡ false) × (c ≡ false)
or-false false c e = (refl, e)
or-false true c e = absurd (false≢true (sym e))

pub outside-union : (s t a : ℕ) → has (s ∪ t) a ≡ false → (has s a ≡ false) × (has t a ≡ false)
outside-union s t a e = or-false (has s a) (has t a) (sym (has-union s t a) ∙ e)
