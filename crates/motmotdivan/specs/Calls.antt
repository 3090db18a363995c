-- Load and rate as C functions on lent bytes. 02, request 10: "Give it load and rate as C functions on bytes and numbers", "Both return the refusal's
-- number plus 100 times its place, or 0 if accepted."
use Rattle.std.specs.Prelude.{ℕ, ◌+◌, ◌*◌, cond, ◌&&◌, List, [], ◌∷◌, length, replicate, ◌==◌}
use Rattle.std.proofs.Math.Option.{Option, some, none}
use Rattle.codelist.specs.declared.Codelist.{Codelist}
use Rattle.codelist.specs.InFull as loading
use Rattle.codelist.specs.Load as Load
use Rattle.rules.specs.declared.Limits.{Limits}
use Rattle.rules.specs.InFull as rating
use Rattle.rules.specs.InFull.{Rating}
use Rattle.rules.specs.Rate as Rate
use Rattle.encoding.specs.Decode.{decoded}
use Rattle.encoding.specs.Load.{left_by}
use Rattle.motmotdivan.specs.Record.{Read, numbers, fraction, ranges_of, result_record}

-- The code of a refusal, by its number and its place
abbrev pub code_of : ℕ → ℕ → ℕ
code_of number place = number + 100 * place

-- ════ loading ════

-- The numbers of its codes, in the order of checking
abbrev pub quoted_load_numbers : List ℕ
quoted_load_numbers = 10 ∷ Load.load_numbers

abbrev pub loaded_code : loading.Outcome → ℕ
loaded_code loading.Accepted = 0
loaded_code (loading.Refused r) = code_of (Load.number_of r) (Load.place_of r)

-- "A desk of another length is empty too, and loading into it gives 10, ahead of 1."
unfoldable pub load_code : List ℕ → List ℕ → ℕ
load_code d s = cond (length d == 512) (loaded_code (Load.load_of s).outcome) (code_of 10 0)

-- The lent bytes afterwards: the codelist's where it is accepted and they are 512, else what they were
unfoldable pub load_state : List ℕ → List ℕ → List ℕ
load_state d s = left_by d (Load.load_of s)

-- ════ rating ════

-- In the order of checking: 18 comes "between 8 and 9"
abbrev pub quoted_rate_numbers : List ℕ
quoted_rate_numbers = 10 ∷ 8 ∷ 18 ∷ 9 ∷ 11 ∷ 12 ∷ []

-- The limits, or a refusal by its number and its place
pub data Answer : Type 0 where
  result : Limits → Answer
  refusal : ℕ → ℕ → Answer

abbrev pub answered : rating.Outcome → Limits → Answer
answered rating.Rated l = result l
answered (rating.Refused r) l = refusal (Rate.number_of r) (Rate.place_of r)

abbrev pub answer_of : Rating → Answer
answer_of r = answered r.outcome r.limits

-- 18, "the lowest first", then 9, 11 and 12 as rating gives them
abbrev pub on_read : Codelist → Read → Answer
on_read c (numbers xs) = answer_of (Rate.rate_of c xs)
on_read c (fraction a) = refusal 18 a

-- "desk bytes that no accepted load could have left, all zeros among them, count as an empty desk", and so does "A desk of another length": 10, where
-- they are not decoded. "a record of another length gets 8": the record of ranges x, or that of the result, which has so many bytes.
abbrev pub on_codelist : Option Codelist → List ℕ → ℕ → Answer
on_codelist none x room = refusal 10 0
on_codelist (some c) x room = cond (length x == 128 && room == 192) (on_read c (ranges_of x c.factors)) (refusal 8 0)

unfoldable pub rate_answer : List ℕ → List ℕ → ℕ → Answer
rate_answer d x room = on_codelist (decoded d) x room

abbrev pub answer_code : Answer → ℕ
answer_code (result l) = 0
answer_code (refusal number place) = code_of number place

-- A refusal leaves zeros
abbrev pub answer_record : Answer → List ℕ
answer_record (result l) = result_record l
answer_record (refusal number place) = replicate 192 0

-- THE CODE, of a desk d, ranges x and a result r
unfoldable pub rate_code : List ℕ → List ℕ → List ℕ → ℕ
rate_code d x r = answer_code (rate_answer d x (length r))

-- The result afterwards: "such a result record is not written", where it has another length
unfoldable pub rate_record : List ℕ → List ℕ → List ℕ → List ℕ
rate_record d x r = cond (length r == 192) (answer_record (rate_answer d x (length r))) r
