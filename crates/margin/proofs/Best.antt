-- The search, factor by factor, of any test that a wider range passes where a narrower one does: the best of the factors so far, and that the best of all is the
-- first of the candidates: `best-is`. It says nothing of rating.
use mathlib.Core.Bool.{Bool, true, false, ◌&&◌}
use mathlib.Core.Logic.{◌⊎◌, inl, inr}
use mathlib.Core.Path.{◌≡◌, refl, sym, ap, ◌∙◌}
use Prim.Native.Nat.{ℕ, suc, ◌+◌, ◌-◌, ◌/◌, ◌≤◌, ◌<◌}
use native.Mathlib.Decide.{ℕ_discrete, dec_le}
use native.Mathlib.Nat as N
use native.Mathlib.Omega.{arith}
use lib.Dec.{lit<}
use Rattle.std.specs.Prelude.{Option, Some, None, Ok}
use Rattle.margin.specs.declared.Widening.{Widening}
use Rattle.margin.specs.InFull.{Widen, Nowhere}
use Rattle.margin.specs.Edge.{most_units, candidates, first_that, found, in_full}
use Rattle.margin.specs.Promises.{Before}
use Rattle.margin.specs.Search.{Least}
use Rattle.margin.proofs.Candidates.{Scan, first, nothing, scan}

pub no-bit : {A : Type 0} → true ≡ false → A
no-bit e = let z : ◌≡◌ {A = ℕ} 0 1 = cc in absurd (omega arith)

pub both : (x y : Bool) → (x && y) ≡ true → (x ≡ true) × (y ≡ true)
both true y e = (refl, e)
both false y e = no-bit (sym e)

-- of two pairs one comes before the other, or they are the same
abbrev pub Compared : ℕ → ℕ → ℕ → ℕ → Type 0
Compared u a w i = Before u a w i ⊎ (Before w i u a ⊎ ((u ≡ w) × (a ≡ i)))

pub compared : (u a w i : ℕ) → Compared u a w i
compared u a w i = elim (dec_le (suc u) w) [
  | yes l ↦ inl (inl l)
  | no n ↦ elim (dec_le (suc w) u) [
    | yes l ↦ inr (inl (inl l))
    | no m ↦ let e : u ≡ w = omega (arith, n, m) in elim (dec_le (suc a) i) [
      | yes l ↦ inl (inr (e, l))
      | no p ↦ elim (dec_le (suc i) a) [
        | yes l ↦ inr (inl (inr (sym e, l)))
        | no q ↦ inr (inr (e, omega (arith, p, q)))
      ]
    ]
  ]
]

-- a test of units that more units pass where fewer do
abbrev pub Rising : (ℕ → Bool) → Type 0
Rising P = (w u : ℕ) → w ≤ u → P w ≡ true → P u ≡ true

pub still-fails : {P : ℕ → Bool} → Rising P → {w u : ℕ} → w ≤ u → P u ≡ false → P w ≡ false
still-fails {P} m {w} {u} l f = go (P w) refl
  where
    go : (b : Bool) → P w ≡ b → P w ≡ false
    go true e = no-bit (sym (m w u l e) ∙ f)
    go false e = e

-- ---- halving
-- the middle of two numbers that are no neighbours lies between them
pub halved : (s m : ℕ) → s + 1 < m → (s < (s + m) / 2) × ((s + m) / 2 < m)
halved s m h =
    let low = N.div-mul-le_self (s + m) 2 in
    let high = N.lt-div-mul-add {a = s + m} {b = 2} (lit< tt) in
    (omega (arith, low, high), omega (arith, low, high))

-- ---- factor by factor
-- w units at factor i pass the test, of n factors
pub record Hit (P : ℕ → ℕ → Bool) (n w i : ℕ) : Type 0 where
  pub factor : (1 ≤ i) × (i ≤ n)
  pub units : (1 ≤ w) × (w ≤ most_units)
  pub passes : P i w ≡ true

-- the units and the factor of a widening; 101 units at factor 0 where there is none
abbrev pub units_of : Option Widening → ℕ
units_of None = suc most_units
units_of (Some w) = w.units

abbrev pub factor_of : Option Widening → ℕ
factor_of None = 0
factor_of (Some w) = w.factor

abbrev pub HitIf : (ℕ → ℕ → Bool) → ℕ → Option Widening → Type 0
HitIf P n None = Unit
HitIf P n (Some w) = Hit P n w.units w.factor

-- the best of n factors: the first that passes, if there is one
pub record Best (P : ℕ → ℕ → Bool) (n : ℕ) (best : Option Widening) : Type 0 where
  pub hit : HitIf P n best
  pub before : (u a : ℕ) → 1 ≤ a → a ≤ n → 1 ≤ u → Before u a (units_of best) (factor_of best) → P a u ≡ false

module _ {P : ℕ → ℕ → Bool} where
  pub best-start : Best P 0 None
  best-start = record { hit = tt; before = λ u a s m g b. absurd (omega arith) }

  -- there is a unit in it, and no more than 101; the factor is one of the n, or 0
  pub best-units : {n : ℕ} (best : Option Widening) → Best P n best → (1 ≤ units_of best) × (units_of best ≤ suc most_units)
  best-units None B = (omega arith, omega arith)
  best-units (Some w) B = (B.hit.units.0, omega (arith, B.hit.units.1))

  best-factor : {n : ℕ} (best : Option Widening) → Best P n best → factor_of best ≤ n
  best-factor None B = omega arith
  best-factor (Some w) B = B.hit.factor.1

  module _ {n : ℕ} (best : Option Widening) (B : Best P n best) where
    -- the next factor passes with fewer units
    best-better : {m v : ℕ} → m ≡ suc n → Least (P m) v → v < units_of best → Best P m (Some (record { factor = m; units = v }))
    best-better {m} {v} e L l = record {
      hit = record { factor = (omega arith, omega arith); units = (L.some, omega (arith, best-units best B)); passes = L.passes };
      before = before;
    }
      where
        before : (u a : ℕ) → 1 ≤ a → a ≤ m → 1 ≤ u → Before u a v m → P a u ≡ false
        before u a s k g b = elim (ℕ_discrete a m) [
          | yes d ↦ rw d (L.fewer u g (fewer b d))
          | no d ↦ B.before u a s (omega (arith, d, e)) g (inl (less b))
        ]
          where
            less : Before u a v m → u < units_of best
            less (inl h) = omega arith
            less (inr h) = omega (arith, h.0)

            fewer : Before u a v m → a ≡ m → u < v
            fewer (inl h) d = h
            fewer (inr h) d = absurd (omega (arith, h.1, d))

    -- or it does not, with one unit less than the best
    best-same : {m : ℕ} → m ≡ suc n → ((u : ℕ) → 1 ≤ u → u ≤ units_of best - 1 → P m u ≡ false) → Best P m best
    best-same {m} e f = record { hit = more best B.hit; before = before }
      where
        more : (b : Option Widening) → HitIf P n b → HitIf P m b
        more None h = tt
        more (Some w) h = record { factor = (h.factor.0, omega (arith, h.factor.1)); units = h.units; passes = h.passes }

        before : (u a : ℕ) → 1 ≤ a → a ≤ m → 1 ≤ u → Before u a (units_of best) (factor_of best) → P a u ≡ false
        before u a s k g b = elim (ℕ_discrete a m) [
          | yes d ↦ rw d (f u g (fewer b d))
          | no d ↦ B.before u a s (omega (arith, d, e)) g b
        ]
          where
            fewer : Before u a (units_of best) (factor_of best) → a ≡ m → u ≤ units_of best - 1
            fewer (inl h) d = omega arith
            fewer (inr h) d = absurd (omega (arith, h.1, d, e, best-factor best B))

  -- the next factor was asked for one unit less than the best, if that is one, and the best is now its least or as before
  pub best-next : {n m most : ℕ} {best now : Option Widening} → Best P n best → m ≡ suc n → Rising (P m) → most ≡ units_of best - 1
      → ((v : ℕ) × (Least (P m) v × (v ≤ most) × (now ≡ Some (record { factor = m; units = v }))))
      ⊎ (((most ≡ 0) ⊎ (P m most ≡ false)) × (now ≡ best))
      → Best P m now
  best-next {best = best} B e r a (inl w) =
      rw w.1.2 (best-better best B e w.1.0 (omega (arith, a, w.1.1, best-units best B)))
  best-next {best = best} B e r a (inr (inl z, s)) = rw s (best-same best B e (λ u g l. absurd (omega (arith, a, z, g, l))))
  best-next {best = best} B e r a (inr (inr f, s)) = rw s (best-same best B e (λ u g l. still-fails r (omega (arith, a, l)) f))

  -- THE FIRST OF THE CANDIDATES
  pub best-is : {n : ℕ} (best : Option Widening) → Best P n best → found (first_that P (candidates n)) ≡ in_full (Ok best)
  unfolding candidates
  best-is {n} None B = go (scan P n)
    where
      go : Scan P n 1 most_units → found (first_that P (candidates n)) ≡ Nowhere
      go (nothing f q) = rw q
      go (first u a g l s m p f q) = no-bit (sym p ∙ B.before u a s m g (inl (omega arith)))
  best-is {n} (Some b) B = go (scan P n)
    where
      go : Scan P n 1 most_units → found (first_that P (candidates n)) ≡ Widen b.factor b.units
      go (nothing f q) = no-bit (sym B.hit.passes ∙ f b.units b.factor B.hit.factor.0 B.hit.factor.1 B.hit.units.0 (omega (arith, B.hit.units.1)))
      go (first u a g l s m p f q) = pick (compared u a b.units b.factor)
        where
          pick : Compared u a b.units b.factor → found (first_that P (candidates n)) ≡ Widen b.factor b.units
          pick (inl k) = no-bit (sym p ∙ B.before u a s m g k)
          pick (inr (inl k)) = no-bit (sym B.hit.passes ∙ f b.units b.factor B.hit.factor.0 B.hit.factor.1 B.hit.units.0 k)
          pick (inr (inr e)) = ap found q ∙ rw (e.0, e.1)
