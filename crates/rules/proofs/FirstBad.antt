-- The factors' ranges: what `first_bad` finds, and that the lines of good ranges are within the limit. Assumes nothing.
use mathlib.Core.Path.{◌≡◌, refl, ap}
use mathlib.Core.Bool.{Bool, true, false, cond}
use mathlib.Core.List.{List, [], ◌∷◌}
use Prim.Native.Nat.{ℕ, zero, suc, ◌+◌, ◌<◌}
use native.Mathlib.Omega.{arith}
use lib.ListN.{length}
use Rattle.range.specs.declared.Range.{Range}
use Rattle.range.specs.Limit.{is_valid}
use Rattle.range.specs.Sums.{at}
use Rattle.range.proofs.Valid.{true-T}
use Rattle.rules.specs.Run.{factor_lines}
use Rattle.rules.specs.Rate.{first_bad}
use Rattle.rules.specs.Overflow.{none, more}
use Rattle.rules.specs.Refused.{Bad}
use Rattle.rules.proofs.Overflow.{factor-within}
use Rattle.rules.proofs.Passing.{bad-iff, good-iff}
use Rattle.rules.proofs.Stopped.{LinesWithin}

-- the first so many are good
abbrev pub Good : ℕ → List Range → Type 0
Good n rs = (i : ℕ) → i < n → ¬ (Bad (at rs i))

good_more : {n : ℕ} {r : Range} (rs : List Range) → ¬ (Bad r) → Good n rs → Good (suc n) (r ∷ rs)
good_more rs g gs zero l = g
good_more rs g gs (suc i) l = gs i (omega arith)

-- what the lowest bad one is, if they are counted from a
pub data Found (a : ℕ) (rs : List Range) (n : ℕ) : Type 0 where
  no-bad : n ≡ 0 → Good (length rs) rs → Found a rs n
  bad-at : (i : ℕ) → n ≡ a + i → i < length rs → Bad (at rs i) → Good i rs → Found a rs n

pub found : (a : ℕ) (rs : List Range) → Found a rs (first_bad a rs)
unfolding first_bad
found a [] = no-bad refl (λ i l. absurd (omega arith))
found a (r ∷ rs) = go (is_valid r) refl (found (suc a) rs)
  where
    go : (b : Bool) → is_valid r ≡ b → Found (suc a) rs (first_bad (suc a) rs) → Found a (r ∷ rs) (cond b (first_bad (suc a) rs) a)
    go false v f = bad-at 0 (omega arith) (omega arith) ((bad-iff r).0 v) (λ i l. absurd (omega arith))
    go true v (no-bad e g) = no-bad e (good_more rs ((good-iff r).0 v) g)
    go true v (bad-at i e l b g) = bad-at (suc i) (omega (arith, e)) (omega arith) b (good_more rs ((good-iff r).0 v) g)

pub all-good : (a : ℕ) (rs : List Range) → first_bad (suc a) rs ≡ 0 → Good (length rs) rs
all-good a rs z = go (found (suc a) rs)
  where
    go : Found (suc a) rs (first_bad (suc a) rs) → Good (length rs) rs
    go (no-bad e g) = g
    go (bad-at i e l b g) = absurd (omega (arith, e, z))

pub none-bad : (a : ℕ) (rs : List Range) → Good (length rs) rs → first_bad a rs ≡ 0
none-bad a rs g = go (found a rs)
  where
    go : {n : ℕ} → Found a rs n → n ≡ 0
    go (no-bad e h) = e
    go (bad-at i e l b h) = absurd (g i l b)

pub lowest-bad : (a : ℕ) (rs : List Range) (i : ℕ) → i < length rs → Bad (at rs i) → Good i rs → first_bad a rs ≡ a + i
unfolding first_bad
lowest-bad a [] i l b g = absurd (omega arith)
lowest-bad a (r ∷ rs) zero l b g = let v : is_valid r ≡ false = (bad-iff r).1 b in rw v (omega arith)
lowest-bad a (r ∷ rs) (suc i) l b g =
    let v : is_valid r ≡ true = (good-iff r).1 (g 0 (omega arith)) in
    rw v (omega (arith, lowest-bad (suc a) rs i (omega arith) b (λ j k. g (suc j) (omega arith))))

pub factors-within : (f i : ℕ) (rs : List Range) → Good (length rs) rs → LinesWithin (length rs) (factor_lines f i rs)
unfolding factor_lines
factors-within f i [] g = record { each = none; count = refl }
factors-within f i (r ∷ rs) g =
    let t = factors-within f (suc i) rs (λ j l. g (suc j) (omega arith)) in
    record { each = more (factor-within f i r (true-T ((good-iff r).1 (g 0 (omega arith))))) t.each; count = ap suc t.count }
