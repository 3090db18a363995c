-- For the contracts of private functions only.
use Rattle.std.specs.Prelude.{◌≡◌, ℕ, ◌+◌, ◌/◌, ◌%◌, ◌<◌, ◌≤◌, min, Bool, cond, T, List, length, ℤ, pos, negsuc, nat_lt, slice_index_or, ◌==◌, Float, Option, Some, None}
use Rattle.std.specs.Float.{nan}
use Rattle.std.specs.Float.Ieee.Scale.{finite}
use Rattle.std.specs.declared.result.Result.{Result}
use Rattle.std.specs.declared.result.Result.TheVariants.{Ok, Err}
use Rattle.codelist.specs.InFull as loading
use Rattle.codelist.specs.Load as Load
use Rattle.rules.specs.declared.Limits.{Limits}
use Rattle.rules.specs.InFull as rating
use Rattle.rules.specs.Rate as Rate
use Rattle.engine.specs.Engine as engine
use Rattle.classes.specs.Classes.{is_class}
use Rattle.motmotdivan.specs.declared.codes.Refusal.{Refusal}
use Rattle.motmotdivan.specs.declared.codes.Refusal.TheVariants.{Class, NoCodelist, Length, Fraction, Engine}
use Rattle.motmotdivan.specs.declared.record.Record as declared
use Rattle.motmotdivan.specs.Doubles.{Number, whole, no_whole, whole_of}
use Rattle.motmotdivan.specs.Record.{number_at}
use Rattle.motmotdivan.specs.Calls.{code_of, Answer, result, refusal, rate_answer}
use Rattle.motmotdivan.specs.Desk.{desk_length, slot_at, bytes_of}

-- A whole number in 64 bits: the nearest that there is, so that one beyond the limit stays beyond it
abbrev pub clamp : ℤ → ℤ
clamp (pos n) = pos (min n 9_223_372_036_854_775_807)
clamp (negsuc n) = negsuc (min n 9_223_372_036_854_775_807)

abbrev pub clamped : Number → Option ℤ
clamped (whole z) = Some (clamp z)
clamped no_whole = None

-- A pattern whose exponent's field is not all ones
abbrev pub finite_pattern : ℕ → Bool
finite_pattern p = nat_lt (p % 9_223_372_036_854_775_808) 9_218_868_437_227_405_312

-- A double of the number n, or of none; and it is finite
pub record Cell (n : Number) (x : Float) : Type 0 where
  pub number : whole_of x ≡ n
  pub sure : T (finite x)

-- The record of bytes, as far as the first m cells
pub record HoldsBytes (b : List ℕ) (m : ℕ) (r : declared.Record) : Type 0 where
  pub each : (k : ℕ) → k < m → Cell (number_at b k) (slice_index_or r.cells k nan)

-- The first k numbers of the record b are whole, and in 64 bits those of xs
abbrev pub Whole : List ℕ → List ℤ → ℕ → Type 0
Whole b xs k = (j : ℕ) → j < k → clamped (number_at b j) ≡ Some (slice_index_or xs j (pos 0))

-- Of m numbers, a is the factor of the first that is no whole number
pub record Stopped (b : List ℕ) (xs : List ℤ) (m a : ℕ) : Type 0 where
  pub index : ℕ
  pub factor : a ≡ index / 2 + 1
  pub inside : index < m
  pub before : Whole b xs index
  pub stops : number_at b index ≡ no_whole

-- The first m numbers, as far as they are whole
abbrev pub Converted : List ℕ → List ℤ → ℕ → Result (Unit {0}) ℕ → Type 0
Converted b xs m (Ok u) = (length xs ≡ m) × Whole b xs m
Converted b xs m (Err a) = Stopped b xs m a

-- A refusal's number and place
abbrev pub number_of : Refusal → ℕ
number_of Class = 21
number_of NoCodelist = 10
number_of Length = 8
number_of (Fraction a) = 18
number_of (Engine r) = engine.number_of r

abbrev pub place_of : Refusal → ℕ
place_of Class = 0
place_of NoCodelist = 0
place_of Length = 0
place_of (Fraction a) = a
place_of (Engine r) = engine.place_of r

-- The places of the engine's are those of a text line or of a codelist line, a factor, or none
abbrev pub LoadPlaced : loading.Outcome → Type 0
LoadPlaced loading.Accepted = Unit
LoadPlaced (loading.Refused r) = Load.place_of r ≤ 65

abbrev pub RatePlaced : rating.Outcome → Type 0
RatePlaced rating.Rated = Unit
RatePlaced (rating.Refused r) = Rate.place_of r ≤ 65

-- The code's answers in full: a refusal carries number and place, and its code is made of these
abbrev pub in_full : Result Limits Refusal → Answer
in_full (Ok l) = result l
in_full (Err r) = refusal (number_of r) (place_of r)

abbrev pub code_in : Result (Unit {0}) Refusal → ℕ
code_in (Ok u) = 0
code_in (Err r) = code_of (number_of r) (place_of r)

-- Where the bytes of class k begin, on a desk of n bytes
abbrev pub start_of : ℕ → ℕ → Result ℕ Refusal
start_of k n = cond (is_class k) (cond (n == desk_length) (Ok (slot_at k)) (Err NoCodelist)) (Err Class)

-- Rating the ranges x by class k of the desk d, into a result of so many bytes
unfoldable pub class_answer : ℕ → List ℕ → List ℕ → ℕ → Answer
class_answer k d x room = cond (is_class k) (rate_answer (bytes_of d k) x room) (refusal 21 0)
