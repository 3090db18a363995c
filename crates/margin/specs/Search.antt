-- What the search holds while it looks at one factor after another.
use Rattle.std.specs.Prelude.{Bool, true, false, List, ◌≡◌, ℕ, ◌*◌, ◌≤◌, ◌<◌, ℤ, pos, length, get_or, ◌≤ℤ◌}
use Rattle.codelist.specs.declared.Codelist.{Codelist}
use Rattle.range.specs.Limit.{most, least}
use Rattle.rules.specs.declared.Limits.{Limits}
use Rattle.rules.specs.Rate.{rated, rate_of}
use Rattle.margin.specs.Edge.{high_at}

-- ranges that are accepted
pub record Rateable (c : Codelist) (xs : List ℤ) : Type 0 where
  pub limits : Limits
  pub accepted : rate_of c xs ≡ rated limits

-- numbers of at most eight ranges, that of factor i among them, with its high end within the limit
pub record Widenable (xs : List ℤ) (i : ℕ) : Type 0 where
  pub few : length xs ≤ 16
  pub some : 1 ≤ i
  pub among : 2 * i ≤ length xs
  pub above : least ≤ℤ get_or xs (high_at i) (pos 0)
  pub below : get_or xs (high_at i) (pos 0) ≤ℤ most

-- the least number of units that passes a test
pub record Least (P : ℕ → Bool) (w : ℕ) : Type 0 where
  pub some : 1 ≤ w
  pub passes : P w ≡ true
  pub fewer : (u : ℕ) → 1 ≤ u → u < w → P u ≡ false
