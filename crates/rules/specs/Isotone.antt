-- 02, request 11: "In plain rating, uncut, ranges inside accepted ranges, no low end above its high end, are accepted too, and each end they give lies
-- inside the wider one". Proved in proofs/Isotone.antt.
use Rattle.std.specs.Prelude.{◌≡◌, List, ℕ, ◌<◌, ℤ, length, ◌≤ℤ◌}
use Rattle.codelist.specs.declared.Codelist.{Codelist}
use Rattle.range.specs.Laws.{ValidInside}
use Rattle.range.specs.Sums.{at}
use Rattle.rules.specs.declared.Limits.{Limits}
use Rattle.rules.specs.Rate.{rated, pairs, rate_of}

-- "ranges inside .. ranges, no low end above its high end", of n factors. That no end is beyond the limit follows where the wider ranges are accepted.
pub record InsideRanges (n : ℕ) (xs ys : List ℤ) : Type 0 where
  pub count : length xs ≡ length ys
  pub order : (a : ℕ) → a < n → (at (pairs xs) a).low ≤ℤ (at (pairs xs) a).high
  pub low : (a : ℕ) → a < n → (at (pairs ys) a).low ≤ℤ (at (pairs xs) a).low
  pub high : (a : ℕ) → a < n → (at (pairs xs) a).high ≤ℤ (at (pairs ys) a).high

-- "each end they give lies inside the wider one", of the value, each of the eight slopes, the bend and the full bend; and the two sets are the same
pub record NarrowerLimits (k l : Limits) : Type 0 where
  pub value : ValidInside k.value l.value
  pub gradient : (a : ℕ) → a < 8 → ValidInside (at k.gradient a) (at l.gradient a)
  pub support : k.support ≡ l.support
  pub nonlinear : k.nonlinear ≡ l.nonlinear
  pub spectrum : ValidInside k.spectrum l.spectrum
  pub full : ValidInside k.full l.full

-- "Both hold for either year": nothing is asked of c
abbrev pub IsotoneRating : Type 0
IsotoneRating =
    (c : Codelist) (xs ys : List ℤ) (l : Limits) → rate_of c ys ≡ rated l → InsideRanges c.factors xs ys
    → (k : Limits) × ((rate_of c xs ≡ rated k) × NarrowerLimits k l)
