-- What tidying promises: proved in proofs/Promises.antt. 02, request 1; of the year, request 9.
use Rattle.std.specs.Prelude.{ℕ, ◌≤◌, ◌<◌, true, ◌↔◌, ◌≡◌, ℤ, length, take, drop}
use mathlib.Core.List.{List, ◌++◌, Memᴰ}
use Rattle.codelist.specs.declared.Codelist.{Codelist}
use Rattle.codelist.specs.declared.Year.TheVariants.{Y2016}
use Rattle.codelist.specs.Codelist.{WellFormed}
use Rattle.codelist.specs.Load.{load_of, accepted}
use Rattle.codelist.specs.Text.{absent}
use Rattle.codelist.specs.Write.{year2016, text_with, text_of}
use Rattle.rules.specs.declared.Limits.{Limits}
use Rattle.rules.specs.InFull as rating
use Rattle.rules.specs.InFull.{Rating}
use Rattle.rules.specs.declared.Refusal as rules
use Rattle.rules.specs.declared.Refusal.TheVariants.{NoCodelist, RangeCount, BadRange, Divisor, Overflow}
use Rattle.rules.specs.Rate.{rate_of, rated, refused}
use Rattle.rules.specs.Exact.{Point, premium_of}
use Rattle.engine.specs.declared.Engine.{Engine}
use Rattle.engine.specs.InFull.{Accepted}
use Rattle.engine.specs.Engine.{loaded_of, rated_of}
use Rattle.liveness.specs.InFull.{Written, Refused}
use Rattle.liveness.specs.declared.Refusal.{Refusal}
use Rattle.liveness.specs.declared.Refusal.TheVariants.{Short}
use Rattle.liveness.specs.Used.{Used, used, lines}
use Rattle.liveness.specs.Tidied.{tidied, kept, position}
use Rattle.liveness.specs.Tidy.{number_of, tidy_numbers, tidy_of, buffer_of, answer_of, answered}
use Rattle.liveness.specs.Refusals.{RefusedWith, TidyTable, Wrote}

-- a refusal of rating that is not at a dropped line
abbrev pub AtUsed : Codelist → rules.Refusal → Type 0
AtUsed c (Divisor k) = Used c k
AtUsed c (Overflow k) = Used c k
AtUsed c NoCodelist = Unit
AtUsed c RangeCount = Unit
AtUsed c (BadRange a) = Unit

-- the same refusal, and the same rating, at the line's new number
abbrev pub refusal_at : (ℕ → ℕ) → rules.Refusal → rules.Refusal
refusal_at f (Divisor k) = Divisor (f k)
refusal_at f (Overflow k) = Overflow (f k)
refusal_at f NoCodelist = NoCodelist
refusal_at f RangeCount = RangeCount
refusal_at f (BadRange a) = BadRange a

abbrev pub outcome_at : (ℕ → ℕ) → rating.Outcome → rating.Outcome
outcome_at f rating.Rated = rating.Rated
outcome_at f (rating.Refused r) = rating.Refused (refusal_at f r)

abbrev pub rating_at : (ℕ → ℕ) → Rating → Rating
rating_at f x = record { outcome = outcome_at f x.outcome; limits = x.limits }

pub record Tidies : Type 0 where
  -- the lines that are kept are those that the last one uses, "directly or through others", and the factors: "all factors kept"
  pub computed : (c : Codelist) → WellFormed c → (i : ℕ) → (used c i ≡ true) ↔ Used c i
  pub factors : (c : Codelist) → (tidied c).factors ≡ c.factors
  -- "A tidied sheet names the year only for 2014" (request 9): it is of the sheet's year, and a sheet that names 2016 is tidied as the one that
  -- names none
  pub year : (c : Codelist) → (tidied c).year ≡ c.year
  pub year-unnamed : (c : Codelist) → WellFormed c → c.year ≡ Y2016 → (b : List ℕ)
      → (tidy_of (text_with year2016 c) (length b) ≡ tidy_of (text_with absent c) (length b))
      × (buffer_of (text_with year2016 c) b ≡ buffer_of (text_with absent c) b)
  -- what is written is a sheet that 01's rules write, and "without dead lines"
  pub loads : (c : Codelist) → WellFormed c → load_of (text_of (tidied c)) ≡ accepted (tidied c)
  pub no-dead-line : (c : Codelist) → WellFormed c → (k : ℕ) → c.factors < k → k ≤ lines (tidied c) → Used (tidied c) k
  -- "Tidying a tidied sheet changes no byte": of the codelist
  pub idempotent : (c : Codelist) → WellFormed c → tidied (tidied c) ≡ tidied c
  -- and of the bytes: what was written, tidied again, is written again, into any buffer that is long enough
  pub idempotent-bytes : (s b : List ℕ) (n : ℕ) → tidy_of s (length b) ≡ Written n → (d : List ℕ) → n ≤ length d
      → let t = take n (buffer_of s b) in
      (tidy_of t (length d) ≡ Written n) × (buffer_of t d ≡ t ++ drop n d)
  -- "Wherever the original sheet is accepted with some ranges, the tidied one gives the same result": every field
  pub same-result : (c : Codelist) → WellFormed c → (xs : List ℤ) (l : Limits) → rate_of c xs ≡ rated l → rate_of (tidied c) xs ≡ rated l
  -- and the same refusal, unless "a dropped line was the one refused"
  pub same-refusal : (c : Codelist) → WellFormed c → (xs : List ℤ) (r : rules.Refusal) → AtUsed c r → rate_of c xs ≡ refused r
      → rate_of (tidied c) xs ≡ refused (refusal_at (position (kept c)) r)
  -- so that the two differ only there
  pub differ : (c : Codelist) → WellFormed c → (xs : List ℤ) → ¬ (rate_of (tidied c) xs ≡ rating_at (position (kept c)) (rate_of c xs))
      → (r : rules.Refusal) × ((rate_of c xs ≡ refused r) × (¬ AtUsed c r))
  -- the exact premium and its derivatives, and whether there are any
  pub same-premium : (c : Codelist) → WellFormed c → (p : Point) → premium_of (tidied c) p ≡ premium_of c p
  -- no sheet that is accepted has more than 1,266 bytes
  pub at_most : (s : List ℕ) (c : Codelist) → load_of s ≡ accepted c → length s ≤ 1266
  -- a buffer of the sheet's own length is never too short
  pub no_longer : (s : List ℕ) (c : Codelist) → load_of s ≡ accepted c → length (text_of (tidied c)) ≤ length s
  pub never-short : (s : List ℕ) (k : ℕ) → length s ≤ k → ¬ (tidy_of s k ≡ Refused Short)
  -- each number and place is given exactly where the table has it, and otherwise the text is written
  pub table : (s : List ℕ) (k number place : ℕ) → RefusedWith (tidy_of s k) number place ↔ TidyTable s k number place
  pub writes : (s : List ℕ) (k n : ℕ) → (tidy_of s k ≡ Written n) ↔ Wrote s k n
  pub numbers : (s : List ℕ) (k : ℕ) (r : Refusal) → tidy_of s k ≡ Refused r → Memᴰ (number_of r) tidy_numbers
  -- "Buffer bytes past the text keep their values, a refused call touches none"
  pub leaves : (s b : List ℕ) (n : ℕ) (c : Codelist) → tidy_of s (length b) ≡ Written n → load_of s ≡ accepted c
      → buffer_of s b ≡ text_of (tidied c) ++ drop n b
  pub untouched : (s b : List ℕ) (r : Refusal) → tidy_of s (length b) ≡ Refused r → buffer_of s b ≡ b
  -- at the calls: where `load` accepts a sheet and `rate` the numbers on it, loading what was written and rating them gives the same
  pub calls : (e f : Engine) (s b : List ℕ) (n : ℕ) (xs : List ℤ)
      → (loaded_of e s).outcome ≡ Accepted → (rated_of (loaded_of e s).engine xs).outcome ≡ Accepted → tidy_of s (length b) ≡ Written n
      → let t = take n (buffer_of s b) in
      ((loaded_of f t).outcome ≡ Accepted) × (rated_of (loaded_of f t).engine xs ≡ rated_of (loaded_of e s).engine xs)
  -- the program `tidy`: the first `len` bytes of what `answer` gives, which it writes, are the whole output, and 13 is never printed
  pub whole : (s : List ℕ) → take (answered s).at (answered s).bytes ≡ answer_of s
  pub never-13 : (s : List ℕ) → ¬ (tidy_of s 4096 ≡ Refused Short)
