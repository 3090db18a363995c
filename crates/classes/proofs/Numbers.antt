-- Class numbers, and the engine of each: what is put into a class is found in it, and in no other. Assumes nothing.
use Prim.Native.Nat.{ℕ, zero, suc, ◌≤◌}
use mathlib.Core.Bool.{Bool, true, false, cond, true≢false}
use mathlib.Core.Path.{◌≡◌, refl, sym, ap, ◌∙◌}
use native.Mathlib.Omega.{arith}
use lib.Dec.{leb, eqb}
use borrow.Author.Tests.{leb-true, eqb-true, eqb-false, ne_eqb}
use Rattle.codelist.proofs.Laws.{both_true}
use Rattle.engine.specs.declared.Engine.{Engine}
use Rattle.engine.specs.Engine.{empty_engine}
use Rattle.classes.specs.declared.Classes.{Classes}
use Rattle.classes.specs.Classes.{is_class, empty_classes, engine_at, with_engine}

pub data Number (k : ℕ) : Type 0 where
  first : k ≡ 1 → Number k
  second : k ≡ 2 → Number k
  third : k ≡ 3 → Number k
  fourth : k ≡ 4 → Number k

pub one-to-four : (k : ℕ) → is_class k ≡ true → (1 ≤ k) × (k ≤ 4)
unfolding is_class
one-to-four k h = let b = both_true (leb 1 k) (leb k 4) h in (leb-true 1 k b.0, leb-true k 4 b.1)

pub which : (k : ℕ) → is_class k ≡ true → Number k
which k h = let b = one-to-four k h in go k b.0 b.1
  where
    go : (k : ℕ) → 1 ≤ k → k ≤ 4 → Number k
    go zero l m = absurd (omega (arith, l))
    go (suc zero) l m = first refl
    go (suc (suc zero)) l m = second refl
    go (suc (suc (suc zero))) l m = third refl
    go (suc (suc (suc (suc zero)))) l m = fourth refl
    go (suc (suc (suc (suc (suc k))))) l m = absurd (omega (arith, m))

pub is-class : {k : ℕ} → Number k → is_class k ≡ true
unfolding is_class
is-class (first p) = rw p
is-class (second p) = rw p
is-class (third p) = rw p
is-class (fourth p) = rw p

-- another number is none of the four
pub no_number : {A : Type 0} {k : ℕ} → is_class k ≡ false → Number k → A
no_number h n = absurd (true≢false (sym (is-class n) ∙ h))

-- a number that is none of the four is no class
pub no-class : (k : ℕ) → ¬ (Number k) → is_class k ≡ false
no-class k h = go (is_class k) refl
  where
    go : (b : Bool) → is_class k ≡ b → is_class k ≡ false
    go true e = absurd (h (which k e))
    go false e = e

pub none_of : {k : ℕ} → ¬ (k ≡ 1) → ¬ (k ≡ 2) → ¬ (k ≡ 3) → ¬ (k ≡ 4) → is_class k ≡ false
none_of {k} a b c d = no-class k go
  where
    go : ¬ (Number k)
    go (first p) = a p
    go (second p) = b p
    go (third p) = c p
    go (fourth p) = d p

-- ---- the engine of each
module _ (d : Classes) {k : ℕ} where
  pub at_first : k ≡ 1 → engine_at d k ≡ d.first
  unfolding engine_at
  at_first p = rw p

  pub at_second : k ≡ 2 → engine_at d k ≡ d.second
  unfolding engine_at
  at_second p = rw p

  pub at-third : k ≡ 3 → engine_at d k ≡ d.third
  unfolding engine_at
  at-third p = rw p

  pub at-fourth : k ≡ 4 → engine_at d k ≡ d.fourth
  unfolding engine_at
  at-fourth p = rw p

pub at_none : (d : Classes) (k : ℕ) → is_class k ≡ false → engine_at d k ≡ empty_engine
unfolding engine_at
at_none d k h = rw (
  ne_eqb k 1 (λ p. no_number h (first p)),
  ne_eqb k 2 (λ p. no_number h (second p)),
  ne_eqb k 3 (λ p. no_number h (third p)),
  ne_eqb k 4 (λ p. no_number h (fourth p)),
)

-- an empty one in each class
pub empty-at : (k : ℕ) → engine_at empty_classes k ≡ empty_engine
unfolding empty_classes
empty-at k = go (is_class k) refl
  where
    go : (b : Bool) → is_class k ≡ b → engine_at empty_classes k ≡ empty_engine
    go false h = at_none empty_classes k h
    go true h = of (which k h)
      where
        of : Number k → engine_at empty_classes k ≡ empty_engine
        of (first p) = at_first empty_classes p
        of (second p) = at_second empty_classes p
        of (third p) = at-third empty_classes p
        of (fourth p) = at-fourth empty_classes p

-- classes with the same engines are the same
pub same-classes : (d f : Classes) → ((j : ℕ) → is_class j ≡ true → engine_at d j ≡ engine_at f j) → d ≡ f
same-classes d f h =
    let a : d.first ≡ f.first = sym (at_first d refl) ∙ h 1 (is-class (first refl)) ∙ at_first f refl in
    let b : d.second ≡ f.second = sym (at_second d refl) ∙ h 2 (is-class (second refl)) ∙ at_second f refl in
    let c : d.third ≡ f.third = sym (at-third d refl) ∙ h 3 (is-class (third refl)) ∙ at-third f refl in
    let e : d.fourth ≡ f.fourth = sym (at-fourth d refl) ∙ h 4 (is-class (fourth refl)) ∙ at-fourth f refl in
    λ i. record { first = a i; second = b i; third = c i; fourth = e i }

-- ---- what is put into a class
module _ (d : Classes) (k : ℕ) (e : Engine) where
  pub put_same : is_class k ≡ true → engine_at (with_engine d k e) k ≡ e
  unfolding with_engine
  put_same h = of (which k h)
    where
      of : Number k → engine_at (with_engine d k e) k ≡ e
      of (first p) = at_first (with_engine d k e) p ∙ rw p
      of (second p) = at_second (with_engine d k e) p ∙ rw p
      of (third p) = at-third (with_engine d k e) p ∙ rw p
      of (fourth p) = at-fourth (with_engine d k e) p ∙ rw p

  kept_by : (i : ℕ) (x : Engine) → ¬ (k ≡ i) → cond (eqb k i) e x ≡ x
  kept_by i x h = rw (ne_eqb k i h)

  pub put_other : (j : ℕ) → ¬ (j ≡ k) → engine_at (with_engine d k e) j ≡ engine_at d j
  unfolding with_engine
  put_other j n = go (is_class j) refl
    where
      of : Number j → engine_at (with_engine d k e) j ≡ engine_at d j
      of (first p) = at_first (with_engine d k e) p ∙ kept_by 1 d.first (λ q. n (p ∙ sym q)) ∙ sym (at_first d p)
      of (second p) = at_second (with_engine d k e) p ∙ kept_by 2 d.second (λ q. n (p ∙ sym q)) ∙ sym (at_second d p)
      of (third p) = at-third (with_engine d k e) p ∙ kept_by 3 d.third (λ q. n (p ∙ sym q)) ∙ sym (at-third d p)
      of (fourth p) = at-fourth (with_engine d k e) p ∙ kept_by 4 d.fourth (λ q. n (p ∙ sym q)) ∙ sym (at-fourth d p)

      go : (b : Bool) → is_class j ≡ b → engine_at (with_engine d k e) j ≡ engine_at d j
      go true h = of (which j h)
      go false h = at_none (with_engine d k e) j h ∙ sym (at_none d j h)

  -- a number that is no class's changes nothing
  pub put-nowhere : is_class k ≡ false → with_engine d k e ≡ d
  put-nowhere h = same-classes _ d (λ j c. put_other j (λ p. true≢false (sym c ∙ ap is_class p ∙ h)))

-- a class that gets what it has
pub put-kept : (d : Classes) (k : ℕ) → with_engine d k (engine_at d k) ≡ d
put-kept d k = same-classes _ d (λ j c. go j c (eqb j k) refl)
  where
    go : (j : ℕ) → is_class j ≡ true → (b : Bool) → eqb j k ≡ b → engine_at (with_engine d k (engine_at d k)) j ≡ engine_at d j
    go j c true h =
        let p = eqb-true j k h in
        ap (engine_at (with_engine d k (engine_at d k))) p ∙ put_same d k (engine_at d k) (sym (ap is_class p) ∙ c) ∙ ap (engine_at d) (sym p)
    go j c false h = put_other d k (engine_at d k) j (eqb-false j k h)
