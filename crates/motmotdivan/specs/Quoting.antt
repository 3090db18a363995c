-- What is promised of the two calls. Statements; the proofs are in proofs/Quoting.antt. A call has an outcome for all bytes, since `load_code`, `load_state`,
-- `rate_code` and `rate_record` are functions and the contracts of the calls are equations with no condition.
use Rattle.std.specs.Prelude.{◌≡◌, ℕ, ◌+◌, ◌-◌, ◌*◌, ◌/◌, ◌%◌, ◌<◌, ◌≤◌, Bool, ◌⊎◌, ◌↔◌, List, length, take, replicate, ℤ, pos, from_bits, slice_index_or, Float}
use mathlib.Core.List.{Memᴰ}
use Rattle.std.proofs.Math.Option.{some}
use Rattle.std.specs.Float.{binary64}
use Rattle.std.specs.Float.Ieee.Exact.{HasValue}
use Rattle.codelist.specs.declared.Codelist.{Codelist}
use Rattle.codelist.specs.InFull as loading
use Rattle.codelist.specs.declared.Refusal as loading-refusal
use Rattle.codelist.specs.Load as Load
use Rattle.rules.specs.declared.Limits.{Limits}
use Rattle.rules.specs.Exact.{Point}
use Rattle.rules.specs.Promises.{Inside, Sound}
use Rattle.engine.specs.InFull.{Outcome}
use Rattle.engine.specs.InFull.{Accepted, Refused}
use Rattle.engine.specs.Engine.{number_of, place_of, rated_of}
use Rattle.encoding.specs.Decode.{decoded}
use Rattle.motmotdivan.specs.Doubles.{whole, no_whole, signed, whole_of, double_of}
use Rattle.motmotdivan.specs.Record.{pattern_at, number_at, numbers, ranges_of, result_numbers, result_record}
use Rattle.motmotdivan.specs.Calls.{code_of, quoted_load_numbers, load_code, load_state}
use Rattle.motmotdivan.specs.Calls.{quoted_rate_numbers, result, refusal, rate_answer, rate_code, rate_record}

-- ════ doubles ════

-- a double is finite, and its exact value is z
pub record Exactly (x : Float) (z : ℤ) : Type 0 where
  pub sign : Bool
  pub size : ℕ
  pub value : HasValue x sign size 1
  pub is : signed sign size ≡ z

-- ════ desks and records ════

-- the bytes d are what an accepted load left in bytes of the right length
pub record LeftByLoad (d : List ℕ) : Type 0 where
  pub before : List ℕ
  pub text : List ℕ
  pub long : length before ≡ 512
  pub taken : load_code before text ≡ 0
  pub left : d ≡ load_state before text

-- the desk holds the codelist c, and both records have their length
pub record Given (c : Codelist) (d x r : List ℕ) : Type 0 where
  pub held : decoded d ≡ some c
  pub ranges : length x ≡ 128
  pub result : length r ≡ 192

-- the desk holds a codelist, and a record has another length
pub record OtherLength (d x r : List ℕ) : Type 0 where
  pub codelist : Codelist
  pub held : decoded d ≡ some codelist
  pub other : ¬ ((length x ≡ 128) × (length r ≡ 192))

-- an end of factor a, counted from 1, is no whole number
abbrev pub HasFraction : List ℕ → ℕ → Type 0
HasFraction x a = (number_at x (2 * (a - 1)) ≡ no_whole) ⊎ (number_at x (2 * (a - 1) + 1) ≡ no_whole)

-- 10 and 8 do not apply, and a is the lowest factor with such an end
pub record LowestFraction (d x r : List ℕ) (a : ℕ) : Type 0 where
  pub codelist : Codelist
  pub given : Given codelist d x r
  pub factor : (1 ≤ a) × (a ≤ codelist.factors)
  pub fraction : HasFraction x a
  pub lower : (b : ℕ) → 1 ≤ b → b < a → ¬ (HasFraction x b)

-- ════ codes ════

-- number and place come out of a code
pub record Coded (code number place : ℕ) : Type 0 where
  pub number-of : code % 100 ≡ number
  pub place-of : code / 100 ≡ place
  pub few : place ≤ 65

-- the code of the engine's outcome
abbrev pub engine_code : Outcome → ℕ
engine_code Accepted = 0
engine_code (Refused r) = code_of (number_of r) (place_of r)

-- what an accepted rating has: the buyer's third demand, of the record that was written
pub record SoundQuote (d x r : List ℕ) : Type 0 where
  pub codelist : Codelist
  pub given : Given codelist d x r
  pub ends : List ℤ
  pub read : ranges_of x codelist.factors ≡ numbers ends
  pub limits : Limits
  pub written : rate_record d x r ≡ result_record limits
  pub sound : (p : Point) → Inside codelist ends p → Sound codelist limits p

-- ════ the promises ════

pub record Quoting : Type 0 where
  -- a double is read as z exactly where it is finite and its exact value is z
  pub whole-exactly : (p : ℕ) (z : ℤ) → (whole_of (from_bits binary64 p) ≡ whole z) ↔ Exactly (from_bits binary64 p) z
  -- every double that is written for a number of a result has exactly its value, and 0 is plus zero
  pub exact-result : (d x r : List ℕ) (l : Limits) → rate_answer d x (length r) ≡ result l → (k : ℕ) → k < 24
      → Exactly (from_bits binary64 (pattern_at (rate_record d x r) k)) (slice_index_or (result_numbers l) k (pos 0))
  pub plus-zero : double_of (pos 0) ≡ replicate 8 0
  -- "desk bytes that no accepted load could have left": those that are not decoded
  pub left-by-load : (d : List ℕ) → ((c : Codelist) × (decoded d ≡ some c)) ↔ LeftByLoad d
  -- 10 is given exactly where no accepted load could have left the desk, and 8 exactly where one could have, and a record has another length
  pub ten : (d x r : List ℕ) → (rate_code d x r ≡ code_of 10 0) ↔ (¬ (LeftByLoad d))
  pub eight : (d x r : List ℕ) → (rate_code d x r ≡ code_of 8 0) ↔ OtherLength d x r
  -- 18 is given exactly at the lowest factor with an end that is no whole number
  pub eighteen : (d x r : List ℕ) (a : ℕ) → (rate_code d x r ≡ code_of 18 a) ↔ LowestFraction d x r a
  -- "those past the last factor are ignored"
  pub past-last : (c : Codelist) (d x y r : List ℕ) → Given c d x r → length y ≡ 128 → take (16 * c.factors) x ≡ take (16 * c.factors) y
      → (rate_code d x r ≡ rate_code d y r) × (rate_record d x r ≡ rate_record d y r)
  -- 0 only where accepted, and each refusal by its number and place
  pub load-accepted : (d s : List ℕ) → (load_code d s ≡ 0) ↔ ((length d ≡ 512) × ((Load.load_of s).outcome ≡ loading.Accepted))
  pub load-refused : (d s : List ℕ) (r : loading-refusal.Refusal) → length d ≡ 512 → (Load.load_of s).outcome ≡ loading.Refused r
      → Coded (load_code d s) (Load.number_of r) (Load.place_of r)
  pub load-elsewhere : (d s : List ℕ) → ¬ (length d ≡ 512) → Coded (load_code d s) 10 0
  pub rate-accepted : (d x r : List ℕ) → (rate_code d x r ≡ 0) ↔ ((l : Limits) × (rate_answer d x (length r) ≡ result l))
  pub rate-refused : (d x r : List ℕ) (n p : ℕ) → rate_answer d x (length r) ≡ refusal n p → Coded (rate_code d x r) n p
  -- the numbers are those of the two lists
  pub load-numbers : (d s : List ℕ) → ¬ (load_code d s ≡ 0) → Memᴰ (load_code d s % 100) quoted_load_numbers
  pub rate-numbers : (d x r : List ℕ) → ¬ (rate_code d x r ≡ 0) → Memᴰ (rate_code d x r % 100) quoted_rate_numbers
  -- "After a refusal every result field is 0 and the desk holds what it held"; "such a result record is not written"
  pub load_kept : (d s : List ℕ) → ¬ (load_code d s ≡ 0) → load_state d s ≡ d
  pub rate-zeros : (d x r : List ℕ) → ¬ (rate_code d x r ≡ 0) → length r ≡ 192 → rate_record d x r ≡ replicate 192 0
  pub rate-kept : (d x r : List ℕ) → ¬ (length r ≡ 192) → rate_record d x r ≡ r
  -- where there are numbers to rate, the call is the engine's: so every field of `Demands` speaks of it
  pub same-as-engine : (c : Codelist) (d x r : List ℕ) (xs : List ℤ) → Given c d x r → ranges_of x c.factors ≡ numbers xs
      → let rating = rated_of (record { codelist = c }) xs in
      (rate_code d x r ≡ engine_code rating.outcome) × (rate_record d x r ≡ result_record rating.limits)
  -- "Whatever accepted sheet and ranges, whatever point with fractions as coordinates inside them"
  pub sound : (d x r : List ℕ) → rate_code d x r ≡ 0 → SoundQuote d x r
