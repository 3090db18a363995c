-- What the arrays of the code say of the lines: index i is line i, and index 0 is none. For private contracts only.
use Rattle.std.specs.Prelude.{ℕ, ◌^◌, ◌≤◌, ◌<◌, Bool, true, false, List, ◌≡◌, nat_abs, get_or, set}
use Rattle.codelist.specs.declared.Codelist.{Codelist}
use Rattle.codelist.specs.declared.Op.{Op}
use Rattle.codelist.specs.declared.Op.TheVariants.{Add, Mul, AddC, MulC, Pow, Inv}
use Rattle.codelist.specs.Codelist.{WellFormed}
use Rattle.liveness.specs.Used.{used}
use Rattle.liveness.specs.Tidied.{kept, position}

pub record Marks (f : ℕ → Bool) (xs : List Bool) : Type 0 where
  pub at : (i : ℕ) → i ≤ 64 → get_or xs i false ≡ f i

pub record Numbers (f : ℕ → ℕ) (xs : List ℕ) : Type 0 where
  pub at : (i : ℕ) → i ≤ 64 → get_or xs i 0 ≡ f i

-- the two arrays of a codelist
pub record Ready (c : Codelist) (bs : List Bool) (ns : List ℕ) : Type 0 where
  pub fine : WellFormed c
  pub marks : Marks (used c) bs
  pub numbers : Numbers (position (kept c)) ns

-- line i marked, and the lines that an operation refers to
abbrev pub mark : List Bool → ℕ → List Bool
mark xs i = set xs i true

abbrev pub marked : List Bool → Op → List Bool
marked xs (Add i j) = mark (mark xs i) j
marked xs (Mul i j) = mark (mark xs i) j
marked xs (AddC i c) = mark xs i
marked xs (MulC i c) = mark xs i
marked xs (Pow i m) = mark xs i
marked xs (Inv i) = mark xs i

-- the number that stands for line i
abbrev pub number_at : List ℕ → ℕ → ℕ
number_at xs i = get_or xs i 0

-- a constant that has at most ten digits
abbrev pub FewDigits : Op → Type 0
FewDigits (AddC i c) = nat_abs c < 10 ^ 10
FewDigits (MulC i c) = nat_abs c < 10 ^ 10
FewDigits (Add i j) = Unit
FewDigits (Mul i j) = Unit
FewDigits (Pow i m) = Unit
FewDigits (Inv i) = Unit
