-- What is promised of a class cut finer: proved in proofs/.
use Rattle.std.specs.Prelude.{◌≡◌, ◌↔◌, ◌⊎◌, ℕ, ◌≤◌, ◌<◌, ◌^◌, ℤ, pos, nat_abs, length, ◌≤ℤ◌, ◌<ℤ◌}
use mathlib.Core.List.{List, ◌∷◌, ◌++◌, Memᴰ, map}
use Rattle.std.proofs.Math.Option.{some}
use Rattle.codelist.specs.declared.Codelist.{Codelist}
use Rattle.codelist.specs.declared.Year.TheVariants.{Y2016, Y2014}
use Rattle.codelist.specs.Codelist.{Ratable}
use Rattle.exact.specs.Units.{In}
use Rattle.range.specs.declared.Range.{Range}
use Rattle.range.specs.Laws as Range
use Rattle.range.specs.Sums.{at}
use Rattle.rules.specs.declared.Refusal as rules
use Rattle.rules.specs.declared.Limits.{Limits}
use Rattle.rules.specs.InFull.{Rating}
use Rattle.rules.specs.Formula.{given, sticky}
use Rattle.rules.specs.Sets.{all_of}
use Rattle.rules.specs.Table.{extended}
use Rattle.rules.specs.Rate.{rated, no_limits, pairs, rate_of}
use Rattle.rules.specs.Refused.{Runnable, RefusedFor}
use Rattle.rules.specs.Published.{published_of}
use Rattle.rules.specs.Exact.{Point, Jet, coordinate, premium_of}
use Rattle.rules.specs.Promises.{Inside, Sound, Vanishing, Shaped}
use Rattle.rules.specs.Years.{Nested, AllBent}
use Rattle.rules.specs.SameSets.{SameSets}
use Rattle.rules.specs.Figures.{ends}
use Rattle.engine.specs.declared.Engine.{Engine}
use Rattle.engine.specs.InFull as engine
use Rattle.engine.specs.declared.Refusal as engine-refusal
use Rattle.engine.specs.Engine.{rated_of}
use Rattle.bisection.specs.declared.Refusal.{Refusal}
use Rattle.bisection.specs.declared.Refusal.TheVariants.{Depth, Rate}
use Rattle.bisection.specs.InFull.{Outcome}
use Rattle.bisection.specs.InFull.{Accepted, Refused}
use Rattle.bisection.specs.Cut.{width_of, widest, leaves, together, number_of, place_of, cut_numbers, answer_of, cut_of}

-- ════ the cut ════

-- no range is wider than that of factor k, and each before it is narrower
pub record Widest (rs : List Range) (k : ℕ) : Type 0 where
  pub factor : k < length rs
  pub most : (a : ℕ) → a < length rs → width_of (at rs a) ≤ℤ width_of (at rs k)
  pub lowest : (a : ℕ) → a < k → width_of (at rs a) <ℤ width_of (at rs k)

-- the point's first n coordinates are inside the ranges (`Inside` of rules' Promises)
pub record Holds (n : ℕ) (rs : List Range) (p : Point) : Type 0 where
  pub each : (a : ℕ) → a < n → In (at rs a).low (at rs a).high (coordinate p a)

-- a part of rs: as many ranges, each valid and inside that of rs
pub record PartOf (rs ls : List Range) : Type 0 where
  pub count : length ls ≡ length rs
  pub each : (a : ℕ) → Range.ValidInside (at ls a) (at rs a)

-- every point of the class is in one of the parts, and they are parts of it
pub record Covers (d : ℕ) (rs : List Range) : Type 0 where
  pub point : (n : ℕ) (p : Point) → Holds n rs p → (ls : List Range) × (Memᴰ ls (leaves d rs) × Holds n ls p)
  pub part : (ls : List Range) → Memᴰ ls (leaves d rs) → PartOf rs ls
  pub few : length (leaves d rs) ≤ 2 ^ d

-- ════ the refusals ════

abbrev pub IsDepth : ℤ → Type 0
IsDepth d = (pos 0 ≤ℤ d) × (d ≤ℤ pos 6)

-- the plain rating of a part
abbrev pub plain : Codelist → List Range → Rating
plain c ls = rate_of c (ends ls)

-- the parts before are accepted, and the next one is refused so
pub record FirstRefused (c : Codelist) (parts : List (List Range)) (r : rules.Refusal) : Type 0 where
  pub before : List (List Range)
  pub part : List Range
  pub after : List (List Range)
  pub split : parts ≡ before ++ (part ∷ after)
  pub accepted : (ls : List Range) → Memᴰ ls before → (l : Limits) × (plain c ls ≡ rated l)
  pub refuses : RefusedFor c (ends part) r

-- What each refusal is for, in the order 10, 16, 8, 9, and the parts in order
abbrev pub CutRefusedFor : Codelist → List ℤ → ℤ → Refusal → Type 0
CutRefusedFor c xs d Depth = Ratable c × (¬ (IsDepth d))
CutRefusedFor c xs d (Rate rules.TheVariants.NoCodelist) = RefusedFor c xs rules.TheVariants.NoCodelist
CutRefusedFor c xs d (Rate rules.TheVariants.RangeCount) = IsDepth d × RefusedFor c xs rules.TheVariants.RangeCount
CutRefusedFor c xs d (Rate (rules.TheVariants.BadRange a)) = IsDepth d × RefusedFor c xs (rules.TheVariants.BadRange a)
CutRefusedFor c xs d (Rate (rules.TheVariants.Divisor k)) =
    IsDepth d × (Runnable c xs × FirstRefused c (leaves (nat_abs d) (pairs xs)) (rules.TheVariants.Divisor k))
CutRefusedFor c xs d (Rate (rules.TheVariants.Overflow k)) =
    IsDepth d × (Runnable c xs × FirstRefused c (leaves (nat_abs d) (pairs xs)) (rules.TheVariants.Overflow k))

-- refused with the number k at the place p
pub record RefusedWith (o : Outcome) (k p : ℕ) : Type 0 where
  pub refusal : Refusal
  pub refused : o ≡ Refused refusal
  pub number : number_of refusal ≡ k
  pub place : place_of refusal ≡ p

-- the number and the place of each
pub data CutTable (c : Codelist) (xs : List ℤ) (d : ℤ) : ℕ → ℕ → Type 0 where
  no-codelist : CutRefusedFor c xs d (Rate rules.TheVariants.NoCodelist) → CutTable c xs d 10 0
  depth : CutRefusedFor c xs d Depth → CutTable c xs d 16 0
  count : CutRefusedFor c xs d (Rate rules.TheVariants.RangeCount) → CutTable c xs d 8 0
  range : {factor : ℕ} → CutRefusedFor c xs d (Rate (rules.TheVariants.BadRange factor)) → CutTable c xs d 9 factor
  divisor : {line : ℕ} → CutRefusedFor c xs d (Rate (rules.TheVariants.Divisor line)) → CutTable c xs d 11 line
  overflow : {line : ℕ} → CutRefusedFor c xs d (Rate (rules.TheVariants.Overflow line)) → CutTable c xs d 12 line

-- ════ ALL OF IT ════

-- the outcome and the limits are those of plain rating
pub record AsRated (e : Engine) (xs : List ℤ) (d : ℤ) : Type 0 where
  pub accepted : ((cut_of e xs d).outcome ≡ Accepted) ↔ ((rated_of e xs).outcome ≡ engine.Accepted)
  pub refused : (r : rules.Refusal)
      → ((cut_of e xs d).outcome ≡ Refused (Rate r)) ↔ ((rated_of e xs).outcome ≡ engine.Refused (engine-refusal.TheVariants.Rate r))
  pub limits : (cut_of e xs d).limits ≡ (rated_of e xs).limits

pub record CutSound : Type 0 where
  -- "the lowest factor on equal width"
  pub widest : (rs : List Range) → 0 < length rs → Widest rs (widest rs)
  -- "At depth 0, or when the widest range is under 2 units, the ranges are rated as now."
  pub depth-zero : (e : Engine) (xs : List ℤ) → AsRated e xs (pos 0)
  pub under-two : (e : Engine) (xs : List ℤ) (d : ℤ) → IsDepth d
      → ((a : ℕ) → a < e.codelist.factors → width_of (at (pairs xs) a) <ℤ pos 2) → AsRated e xs d
  -- the parts make up the class
  pub covers : (e : Engine) (xs : List ℤ) (d : ℕ) → Runnable e.codelist xs → Covers d (pairs xs)
  -- the first refusal among the ratings of the parts by "the published Hessian eigenvalue arithmetic", else the hull of them all
  pub published : (e : Engine) (xs : List ℤ) (d : ℤ) → IsDepth d → Runnable e.codelist xs
      → cut_of e xs d ≡ answer_of (together (map (λ ls. published_of e.codelist (ends ls)) (leaves (nat_abs d) (pairs xs))))
  -- which are their plain ratings
  pub leaves : (e : Engine) (xs : List ℤ) (d : ℤ) → IsDepth d → Runnable e.codelist xs
      → cut_of e xs d ≡ answer_of (together (map (plain e.codelist) (leaves (nat_abs d) (pairs xs))))
  -- the buyer's first demand
  pub decided : (e : Engine) (xs : List ℤ) (d : ℤ) → ((cut_of e xs d).outcome ≡ Accepted) ⊎ ((r : Refusal) × ((cut_of e xs d).outcome ≡ Refused r))
  pub numbers : (e : Engine) (xs : List ℤ) (d : ℤ) (r : Refusal) → (cut_of e xs d).outcome ≡ Refused r → Memᴰ (number_of r) cut_numbers
  pub zero : (e : Engine) (xs : List ℤ) (d : ℤ) (r : Refusal) → (cut_of e xs d).outcome ≡ Refused r → (cut_of e xs d).limits ≡ no_limits
  -- the second: each refusal is for what the table says, and for one reason alone
  pub refused-listed : (e : Engine) (xs : List ℤ) (d : ℤ) (r : Refusal)
      → ((cut_of e xs d).outcome ≡ Refused r) ↔ CutRefusedFor e.codelist xs d r
  pub table : (e : Engine) (xs : List ℤ) (d : ℤ) (k p : ℕ) → RefusedWith (cut_of e xs d).outcome k p ↔ CutTable e.codelist xs d k p
  pub one-refusal : (e : Engine) (xs : List ℤ) (d : ℤ) (q r : Refusal) → CutRefusedFor e.codelist xs d q
      → CutRefusedFor e.codelist xs d r → q ≡ r
  -- the third, of the hulled limits: "Every point of the class is still inside value, slopes and bends."
  pub sound : (e : Engine) (xs : List ℤ) (d : ℤ) → (cut_of e xs d).outcome ≡ Accepted → (p : Point) → Inside e.codelist xs p
      → Sound e.codelist (cut_of e xs d).limits p
  pub shaped : (e : Engine) (xs : List ℤ) (d : ℤ) → (cut_of e xs d).outcome ≡ Accepted → Shaped e.codelist (cut_of e xs d).limits
  pub nested : (e : Engine) (xs : List ℤ) (d : ℤ) → e.codelist.year ≡ Y2016 → (cut_of e xs d).outcome ≡ Accepted → Nested (cut_of e xs d).limits
  pub all-bent : (e : Engine) (xs : List ℤ) (d : ℤ) → e.codelist.year ≡ Y2014 → (cut_of e xs d).outcome ≡ Accepted
      → AllBent e.codelist (cut_of e xs d).limits
  -- outside the sets the exact derivatives are 0, at every point that has a premium
  pub vanishing : (e : Engine) (xs : List ℤ) (d : ℤ) → (cut_of e xs d).outcome ≡ Accepted → (p : Point) (premium : Jet)
      → premium_of e.codelist p ≡ some premium → Vanishing (cut_of e xs d).limits premium
  -- the sets are those of every accepted plain rating of the codelist
  pub same-sets : (e : Engine) (xs : List ℤ) (d : ℤ) → (cut_of e xs d).outcome ≡ Accepted → (ys : List ℤ) (m : Limits)
      → rate_of e.codelist ys ≡ rated m → SameSets (cut_of e xs d).limits m
  -- "The full bend is E lifted to all factors", of the hulled bend too
  pub full-is-extended : (e : Engine) (xs : List ℤ) (d : ℤ) → (cut_of e xs d).outcome ≡ Accepted
      → (cut_of e xs d).limits.full
      ≡ sticky (extended (given (cut_of e xs d).limits.spectrum) (cut_of e xs d).limits.nonlinear (all_of e.codelist.factors))
