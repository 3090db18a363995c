-- The ranges of n factors as the code holds them: the first 2·n of 16 numbers, two a range. What it asks of them where it cuts.
use Rattle.std.specs.Prelude.{◌≡◌, List, ℕ, ◌*◌, ◌≤◌, T, ℤ, length, take}
use Rattle.codelist.specs.declared.Codelist.{Codelist}
use Rattle.codelist.specs.Codelist.{Ratable}
use Rattle.range.specs.declared.Range.{Range}
use Rattle.range.specs.Limit.{is_valid}
use Rattle.range.specs.Sums.{at}
use Rattle.rules.specs.Rate.{pairs}

abbrev pub box_of : ℕ → List ℤ → List Range
box_of n ends = pairs (take (2 * n) ends)

-- 16 numbers, for at most 8 factors
pub record Sized (n : ℕ) (ends : List ℤ) : Type 0 where
  pub array : length ends ≡ 16
  pub few : n ≤ 8

-- ranges of 1 to 8 factors that passed 9
pub record Boxed (n : ℕ) (ends : List ℤ) : Type 0 where
  pub size : Sized n ends
  pub some : 1 ≤ n
  pub valid : (a : ℕ) → T (is_valid (at (box_of n ends) a))

-- and those of a codelist that passed 10
pub record BoxOf (c : Codelist) (n : ℕ) (ends : List ℤ) : Type 0 where
  pub codelist : Ratable c
  pub count : n ≡ c.factors
  pub boxed : Boxed n ends
