-- The search of `Linear.antt` for a combination of facts, by Fourier–Motzkin elimination. Nothing is proved of it: what it finds is
-- checked there.
use mathlib.Core.Bool.{Bool, true, false, ◌||◌}
use mathlib.Core.List.{List, [], ◌∷◌, ◌++◌}
use Prim.Native.Nat.{ℕ, zero, suc, ◌+◌ as ◌+ᴺ◌, ◌*◌ as ◌*ᴺ◌}
use lib.Dec.{eqb, leb}
use lib.IntN.{ℤ, pos, negsuc, ◌+ℤ◌, ◌*ℤ◌, sub_ℕ}
use Rattle.algebra.proofs.Poly.{Poly, con, hor, neg_p}

-- that a polynomial is nonnegative, or that it is positive
pub data Fact : Type 0 where
  weak : Poly → Fact
  strict : Poly → Fact

abbrev pub poly_of : Fact → Poly
poly_of (weak p) = p
poly_of (strict p) = p

-- whether Σ ks·facts has a fact that is strict
abbrev pub bites : List ℕ → List Fact → Bool
bites [] Γ = false
bites (k ∷ ks) [] = false
bites (k ∷ ks) (weak p ∷ Γ) = bites ks Γ
bites (zero ∷ ks) (strict p ∷ Γ) = bites ks Γ
bites (suc k ∷ ks) (strict p ∷ Γ) = true

-- whether a sum with c is positive
abbrev pub bites_or : List ℕ → List Fact → ℕ → Bool
bites_or ks Γ zero = bites ks Γ
bites_or ks Γ (suc c) = true

abbrev Terms : Type 0
Terms = List (ℕ × ℤ)

-- the terms of a polynomial: each has its exponents as digits to the base 64, and its coefficient
abbrev terms : Poly → ℕ → ℕ → Terms
terms (con p n) w e = (e, sub_ℕ p n) ∷ []
terms (hor a b) w e = terms a (64 *ᴺ w) e ++ terms b w (e +ᴺ w)

abbrev coef_if : Bool → ℤ → ℤ → ℤ
coef_if true c s = c +ℤ s
coef_if false c s = s

-- the coefficient of a monomial
abbrev coef : ℕ → Terms → ℤ
coef e [] = pos 0
coef e (t ∷ ts) = coef_if (eqb e t.0) t.1 (coef e ts)

abbrev add_if : Bool → ℕ → List ℕ → List ℕ
add_if true e es = es
add_if false e es = e ∷ es

abbrev has : ℕ → List ℕ → Bool
has e [] = eqb e 0
has e (x ∷ es) = eqb e x || has e es

-- the monomials of some terms, but for the constant one
abbrev monomials : Terms → List ℕ → List ℕ
monomials [] es = es
monomials (t ∷ ts) es = monomials ts (add_if (has t.0 es) t.0 es)

-- A sum of facts: its coefficients in the order of the monomials that are left, its constant, and how often it has each fact, the goal's
-- denial first.
pub record Row : Type 0 where
  pub coefs : List ℤ
  pub const : ℤ
  pub times : List ℕ

abbrev coefs_of : List ℕ → Terms → List ℤ
coefs_of [] ts = []
coefs_of (e ∷ es) ts = coef e ts ∷ coefs_of es ts

abbrev unit : ℕ → List ℕ
unit zero = 1 ∷ []
unit (suc i) = 0 ∷ unit i

abbrev rows : List ℕ → ℕ → List Terms → List Row
rows es i [] = []
rows es i (ts ∷ tss) = record { coefs = coefs_of es ts; const = coef 0 ts; times = unit i } ∷ rows es (suc i) tss

-- c·u + d·v, for the coefficients and for the counts
abbrev mix_z : ℕ → List ℤ → ℕ → List ℤ → List ℤ
mix_z c [] d v = []
mix_z c (x ∷ u) d [] = []
mix_z c (x ∷ u) d (y ∷ v) = (pos c *ℤ x +ℤ pos d *ℤ y) ∷ mix_z c u d v

abbrev scale_n : ℕ → List ℕ → List ℕ
scale_n c [] = []
scale_n c (x ∷ u) = (c *ᴺ x) ∷ scale_n c u

abbrev mix_n : ℕ → List ℕ → ℕ → List ℕ → List ℕ
mix_n c [] d v = scale_n d v
mix_n c (x ∷ u) d [] = scale_n c (x ∷ u)
mix_n c (x ∷ u) d (y ∷ v) = (c *ᴺ x +ᴺ d *ᴺ y) ∷ mix_n c u d v

abbrev mix : ℕ → Row → ℕ → Row → Row
mix c r d t =
    record {
      coefs = mix_z c r.coefs d t.coefs;
      const = pos c *ℤ r.const +ℤ pos d *ℤ t.const;
      times = mix_n c r.times d t.times;
    }

-- the rows by the sign of their first coefficient, which is taken off
abbrev Split : Type 0
Split = List (ℕ × Row) × List (ℕ × Row) × List Row

abbrev place : List ℤ → Row → Split → Split
place [] r s = s
place (pos zero ∷ cs) r s = (s.0, s.1, record { coefs = cs; const = r.const; times = r.times } ∷ s.2)
place (pos (suc k) ∷ cs) r s = ((suc k, record { coefs = cs; const = r.const; times = r.times }) ∷ s.0, s.1, s.2)
place (negsuc k ∷ cs) r s = (s.0, (suc k, record { coefs = cs; const = r.const; times = r.times }) ∷ s.1, s.2)

abbrev split : List Row → Split
split [] = ([], [], [])
split (r ∷ rs) = place r.coefs r (split rs)

abbrev cross_one : ℕ → Row → List (ℕ × Row) → List Row → List Row
cross_one c r [] rs = rs
cross_one c r (n ∷ ns) rs = mix n.0 r c n.1 ∷ cross_one c r ns rs

abbrev cross : List (ℕ × Row) → List (ℕ × Row) → List Row → List Row
cross [] ns rs = rs
cross (p ∷ ps) ns rs = cross_one p.0 p.1 ns (cross ps ns rs)

abbrev step : List Row → List Row
step rs = let s = split rs in cross s.0 s.1 s.2

-- how many facts a row is made of
abbrev support : List ℕ → ℕ
support [] = 0
support (zero ∷ ks) = support ks
support (suc k ∷ ks) = suc (support ks)

abbrev keep_if : Bool → Row → List Row → List Row
keep_if true r rs = r ∷ rs
keep_if false r rs = rs

abbrev prune : ℕ → List Row → List Row
prune n [] = []
prune n (r ∷ rs) = keep_if (leb (support r.times) n) r (prune n rs)

-- Where k monomials are gone, a row of more than k + 1 facts follows from the others (Chernikov), and is dropped.
abbrev eliminate : ℕ → List ℕ → List Row → List Row
eliminate n [] rs = rs
eliminate n (e ∷ es) rs = eliminate (suc n) es (prune n (step rs))

-- `combo K ks c`: (K + 1)·goal = Σ ks·facts + c, so that the goal is nonnegative.
-- `clash ks c`: Σ ks·facts + c = 0, where c is not 0 or a fact in the sum is strict, so that the facts contradict one another.
pub data Found : Type 0 where
  none : Found
  combo : ℕ → List ℕ → ℕ → Found
  clash : List ℕ → ℕ → Found

abbrev clash_if : Bool → List ℕ → Found → Found
clash_if true ks f = clash ks 0
clash_if false ks f = f

abbrev pick_row : List Fact → ℤ → List ℕ → Found → Found
pick_row Γ (pos zero) [] f = f
pick_row Γ (pos zero) (zero ∷ ks) f = clash_if (bites ks Γ) ks f
pick_row Γ (pos zero) (suc k ∷ ks) f = combo k ks 0
pick_row Γ (pos (suc c)) ks f = f
pick_row Γ (negsuc c) [] f = f
pick_row Γ (negsuc c) (zero ∷ ks) f = clash ks (suc c)
pick_row Γ (negsuc c) (suc k ∷ ks) f = combo k ks (suc c)

abbrev pick : List Fact → List Row → Found
pick Γ [] = none
pick Γ (r ∷ rs) = pick_row Γ r.const r.times (pick Γ rs)

abbrev terms_all : List Fact → List Terms
terms_all [] = []
terms_all (p ∷ Γ) = terms (poly_of p) 1 0 ∷ terms_all Γ

abbrev monomials_all : List Terms → List ℕ → List ℕ
monomials_all [] es = es
monomials_all (ts ∷ tss) es = monomials_all tss (monomials ts es)

abbrev find_in : List Fact → List Terms → Found
find_in Γ tss = let es = monomials_all tss [] in pick Γ (eliminate 2 es (rows es 0 tss))

-- how the goal, that g is nonnegative, follows from the facts
abbrev pub find : Poly → List Fact → Found
find g Γ = find_in Γ (terms (neg_p g) 1 0 ∷ terms_all Γ)
