-- Laws of the lines that an operation refers to, row by row: what holds of each of them holds of the operation. Assumes nothing.
use Prim.Native.Nat.{ℕ}
use mathlib.Core.Bool.{Bool, true, false, ◌||◌, or-true}
use mathlib.Core.Logic.{◌⊎◌, inl, inr, ⊎_elim}
use mathlib.Core.Path.{◌≡◌, refl, sym, ap, ap₂, subst, ◌∙◌}
use lib.Dec.{eqb}
use borrow.Author.Tests.{eq-eqb, eqb-true}
use Rattle.codelist.specs.declared.Op.{Op}
use Rattle.codelist.specs.declared.Op.TheVariants.{Add, Mul, AddC, MulC, Pow, Inv}
use Rattle.codelist.specs.Codelist.{Earlier, WellFormedOp}
use Rattle.liveness.specs.Used.{refers_to}
use Rattle.liveness.specs.Tidied.{renumbered}

pub or-inv : (a b : Bool) → (a || b) ≡ true → (a ≡ true) ⊎ (b ≡ true)
or-inv true b e = inl refl
or-inv false b e = inr e

pub or_left : (a b : Bool) → a ≡ true → (a || b) ≡ true
or_left a b e = rw e

pub or_right : (a b : Bool) → b ≡ true → (a || b) ≡ true
or_right a b e = rw (e, or-true)

-- P holds of each line that o refers to
abbrev pub OfEach : (ℕ → Type 0) → Op → Type 0
OfEach P o = (i : ℕ) → refers_to o i ≡ true → P i

module _ (j k : ℕ) where
  one : eqb j j ≡ true
  one = eq-eqb j j refl

  first : (eqb j j || eqb j k) ≡ true
  first = or_left (eqb j j) (eqb j k) one

  second : (eqb k j || eqb k k) ≡ true
  second = or_right (eqb k j) (eqb k k) (eq-eqb k k refl)

-- what holds of the lines that a row names
abbrev pub Named : (ℕ → Type 0) → Op → Type 0
Named P (Add j k) = P j × P k
Named P (Mul j k) = P j × P k
Named P (AddC j c) = P j
Named P (MulC j c) = P j
Named P (Pow j m) = P j
Named P (Inv j) = P j

module _ (P : ℕ → Type 0) where
  of_one : (j : ℕ) → P j → (i : ℕ) → eqb i j ≡ true → P i
  of_one j p i e = subst P (sym (eqb-true i j e)) p

  of_two : (j k : ℕ) → P j × P k → (i : ℕ) → (eqb i j || eqb i k) ≡ true → P i
  of_two j k p i e = ⊎_elim (of_one j p.0 i) (of_one k p.1 i) (or-inv (eqb i j) (eqb i k) e)

  of-named : (o : Op) → Named P o → OfEach P o
  of-named (Add j k) = of_two j k
  of-named (Mul j k) = of_two j k
  of-named (AddC j c) = of_one j
  of-named (MulC j c) = of_one j
  of-named (Pow j m) = of_one j
  of-named (Inv j) = of_one j

  pub to_named : (o : Op) → OfEach P o → Named P o
  to_named (Add j k) h = (h j (first j k), h k (second j k))
  to_named (Mul j k) h = (h j (first j k), h k (second j k))
  to_named (AddC j c) h = h j (one j 0)
  to_named (MulC j c) h = h j (one j 0)
  to_named (Pow j m) h = h j (one j 0)
  to_named (Inv j) h = h j (one j 0)

-- the references of a well formed operation
pub earlier : (e : ℕ) (o : Op) → WellFormedOp e o → OfEach (Earlier e) o
earlier e o w = of-named (Earlier e) o (named o w)
  where
    named : (o : Op) → WellFormedOp e o → Named (Earlier e) o
    named (Add j k) w = w
    named (Mul j k) w = w
    named (AddC j c) w = w.0
    named (MulC j c) w = w.0
    named (Pow j m) w = w.0
    named (Inv j) w = w

-- renumbered references: of a well formed operation, which ones they are, and where they are the old ones
module _ (f : ℕ → ℕ) where
  pub renumbered-fine : (e d : ℕ) (o : Op) → WellFormedOp e o → OfEach (λ i. Earlier d (f i)) o → WellFormedOp d (renumbered f o)
  renumbered-fine e d o w h = go o w (to_named (λ i. Earlier d (f i)) o h)
    where
      go : (o : Op) → WellFormedOp e o → Named (λ i. Earlier d (f i)) o → WellFormedOp d (renumbered f o)
      go (Add j k) w n = n
      go (Mul j k) w n = n
      go (AddC j c) w n = (n, w.1)
      go (MulC j c) w n = (n, w.1, w.2)
      go (Pow j m) w n = (n, w.1)
      go (Inv j) w n = n

  pub renumbered-refers : (o : Op) → OfEach (λ i. refers_to (renumbered f o) (f i) ≡ true) o
  renumbered-refers o = of-named (λ i. refers_to (renumbered f o) (f i) ≡ true) o (go o)
    where
      go : (o : Op) → Named (λ i. refers_to (renumbered f o) (f i) ≡ true) o
      go (Add j k) = (first (f j) (f k), second (f j) (f k))
      go (Mul j k) = (first (f j) (f k), second (f j) (f k))
      go (AddC j c) = one (f j) 0
      go (MulC j c) = one (f j) 0
      go (Pow j m) = one (f j) 0
      go (Inv j) = one (f j) 0

  pub renumbered-alike : (g : ℕ → ℕ) (o : Op) → OfEach (λ i. f i ≡ g i) o → renumbered f o ≡ renumbered g o
  renumbered-alike g o h = go o (to_named (λ i. f i ≡ g i) o h)
    where
      go : (o : Op) → Named (λ i. f i ≡ g i) o → renumbered f o ≡ renumbered g o
      go (Add j k) n = ap₂ Add n.0 n.1
      go (Mul j k) n = ap₂ Mul n.0 n.1
      go (AddC j c) n = ap (λ (i : ℕ). AddC i c) n
      go (MulC j c) n = ap (λ (i : ℕ). MulC i c) n
      go (Pow j m) n = ap (λ (i : ℕ). Pow i m) n
      go (Inv j) n = ap Inv n

  pub renumbered-same : (o : Op) → OfEach (λ i. f i ≡ i) o → renumbered f o ≡ o
  renumbered-same o h = renumbered-alike (λ i. i) o h ∙ old o
    where
      old : (o : Op) → renumbered (λ i. i) o ≡ o
      old (Add j k) = refl
      old (Mul j k) = refl
      old (AddC j c) = refl
      old (MulC j c) = refl
      old (Pow j m) = refl
      old (Inv j) = refl
