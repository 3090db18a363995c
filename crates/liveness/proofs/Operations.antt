-- Operations one after another, each with the number of lines before it. Assumes nothing.
use Prim.Native.Nat.{ℕ, suc, ◌+◌, ◌-◌, ◌≤◌, ◌<◌}
use mathlib.Core.List.{List, [], ◌∷◌}
use mathlib.Core.Bool.{Bool, true, false}
use mathlib.Core.Path.{◌≡◌, refl}
use native.Mathlib.Decide.{ℕ_discrete}
use native.Mathlib.Numerals.{add-one}
use native.Mathlib.Omega.{arith}
use lib.ListN.{length, get_or}
use Rattle.codelist.specs.declared.Entry.{Entry}
use Rattle.codelist.specs.declared.Op.{Op}
use Rattle.codelist.specs.Codelist.{WellFormedOp, WellFormedOps}
use Rattle.liveness.specs.Tidied.{picked, position, moved, tidy_ops}
use Rattle.liveness.proofs.Positions.{picked-kept, picked-dropped}

abbrev pub Each : (ℕ → Op → Type 0) → ℕ → List Entry → Type 0
Each P e [] = Unit
Each P e (o ∷ os) = P e o.op × Each P (suc e) os

pub each-fine : (e : ℕ) (os : List Entry) → WellFormedOps e os → Each WellFormedOp e os
each-fine e [] w = tt
each-fine e (o ∷ os) w = (w.0, each-fine (suc e) os (rw add-one at w.1))

pub fine-each : (e : ℕ) (os : List Entry) → Each WellFormedOp e os → WellFormedOps e os
fine-each e [] w = tt
fine-each e (o ∷ os) w = (w.0, rw add-one (fine-each (suc e) os w.1))

-- the one at line j
pub each_at : (P : ℕ → Op → Type 0) (d : Entry) (e : ℕ) (os : List Entry) → Each P e os → (j : ℕ) → e < j → j ≤ e + length os
    → P (j - 1) (get_or os (j - e - 1) d).op
each_at P d e [] w j p q = absurd (omega arith)
each_at P d e (o ∷ os) w j p q = go (ℕ_discrete j (suc e)) (each_at P d (suc e) os w.1 j)
  where
    go : Dec (j ≡ suc e) → (suc e < j → j ≤ suc e + length os → P (j - 1) (get_or os (j - suc e - 1) d).op)
        → P (j - 1) (get_or (o ∷ os) (j - e - 1) d).op
    go (yes y) ih =
        let a : j - 1 ≡ e = omega arith in
        let z : j - e - 1 ≡ 0 = omega arith in
        rw (z, a) w.0
    go (no n) ih = let z : j - e - 1 ≡ suc (j - suc e - 1) = omega arith in rw z (ih (omega arith) (omega arith))

-- ---- the tidied ones
module _ (k : ℕ → Bool) where
  pub tidy-none : (e : ℕ) → tidy_ops k e [] ≡ []
  unfolding tidy_ops picked
  tidy-none e = refl

  pub tidy-kept : (e : ℕ) (o : Entry) (os : List Entry) → k (suc e) ≡ true → tidy_ops k e (o ∷ os) ≡ moved (position k) o ∷ tidy_ops k (suc e) os
  unfolding tidy_ops
  tidy-kept e o os g = rw (picked-kept k e o os g)

  pub tidy-dropped : (e : ℕ) (o : Entry) (os : List Entry) → k (suc e) ≡ false → tidy_ops k e (o ∷ os) ≡ tidy_ops k (suc e) os
  unfolding tidy_ops
  tidy-dropped e o os g = rw (picked-dropped k e o os g)
