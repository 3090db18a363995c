-- The call: "a writer that takes a sheet's bytes", "the text put in a lent buffer and its length returned", and refusal 13. 02, request 1.
use Rattle.std.specs.Prelude.{ℕ, cond, List, [], ◌∷◌, ◌++◌, leb, length, drop, replicate, Result, Ok, Err}
use Rattle.codelist.specs.declared.Codelist.{Codelist}
use Rattle.codelist.specs.InFull as loading
use Rattle.codelist.specs.Load as Load
use Rattle.codelist.specs.Write.{text_of}
use Rattle.writer.specs.Lent.{Lent, lent, put_text}
use Rattle.writer.specs.Texts.{refused_text}
use Rattle.liveness.specs.InFull.{Outcome, Written, Refused}
use Rattle.liveness.specs.declared.Refusal as refusal
use Rattle.liveness.specs.declared.Refusal.{Refusal}
use Rattle.liveness.specs.Tidied.{tidied}

-- the number and place of each refusal: loading's 1 to 7, 15 and 17, and "A buffer that is too short gets refusal 13, place 0"
abbrev pub number_of : Refusal → ℕ
number_of (refusal.TheVariants.Load r) = Load.number_of r
number_of refusal.TheVariants.Short = 13

abbrev pub place_of : Refusal → ℕ
place_of (refusal.TheVariants.Load r) = Load.place_of r
place_of refusal.TheVariants.Short = 0

-- the numbers in the order of checking: "after all refusals of loading"
abbrev pub tidy_numbers : List ℕ
tidy_numbers = Load.load_numbers ++ (13 ∷ [])

-- the code's answer in full
abbrev pub in_full : Result ℕ Refusal → Outcome
in_full (Ok n) = Written n
in_full (Err r) = Refused r

-- the text t for a buffer of k bytes: "too short" is shorter than t
abbrev pub fitted : List ℕ → ℕ → Outcome
fitted t k = cond (leb (length t) k) (Written (length t)) (Refused refusal.TheVariants.Short)

-- what loading leads to
abbrev pub after_load : loading.Outcome → Codelist → ℕ → Outcome
after_load loading.Accepted c k = fitted (text_of (tidied c)) k
after_load (loading.Refused r) c k = Refused (refusal.TheVariants.Load r)

-- THE ANSWER for the bytes s and a buffer of k bytes
unfoldable pub tidy_of : List ℕ → ℕ → Outcome
tidy_of s k = after_load (Load.load_of s).outcome (Load.load_of s).codelist k

-- THE BUFFER after the call, b before: "Buffer bytes past the text keep their values, a refused call touches none"
abbrev pub buffer_after : Outcome → List ℕ → List ℕ → List ℕ
buffer_after (Written n) t b = t ++ drop n b
buffer_after (Refused r) t b = b

unfoldable pub buffer_of : List ℕ → List ℕ → List ℕ
buffer_of s b = buffer_after (tidy_of s (length b)) (text_of (tidied (Load.load_of s).codelist)) b

-- THE PROGRAM `tidy` as a function of the bytes that it reads: it lends 4,096 bytes, and prints what was written there, or the refusal
abbrev pub printed : Outcome → List ℕ → List ℕ
printed (Written n) t = t
printed (Refused r) t = refused_text (number_of r) (place_of r)

unfoldable pub answer_of : List ℕ → List ℕ
answer_of s = printed (tidy_of s 4096) (text_of (tidied (Load.load_of s).codelist))

-- its text in the bytes that the program lends, all of them 0
abbrev pub answered : List ℕ → Lent
answered s = put_text (lent (replicate 4096 0) 0) (answer_of s)
