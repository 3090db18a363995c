-- The two calls on the desk of four classes. 02, request 13: "The lent bytes of request 10 hold all four". What request 10 says of a desk's 512 bytes
-- (Calls.antt) is said of each class's own.
use Rattle.std.specs.Prelude.{ℕ, ◌-◌, ◌*◌, cond, ◌&&◌, List, [], ◌∷◌, ◌++◌, length, take, drop, replicate, ◌==◌}
use Rattle.encoding.specs.Decode.{lent_codelist}
use Rattle.classes.specs.declared.Classes.{Classes}
use Rattle.classes.specs.Classes.{is_class}
use Rattle.motmotdivan.specs.Calls.{code_of, quoted_load_numbers, quoted_rate_numbers, load_code, load_state, rate_code, rate_record}

-- "lent bytes of a fixed length written down in docs/" (request 10): 512 for each of four classes
abbrev pub desk_length : ℕ
desk_length = 2048

-- where the bytes of class k begin, and the 512 from there on
abbrev pub slot_at : ℕ → ℕ
slot_at k = (k - 1) * 512

unfoldable pub slot : List ℕ → ℕ → List ℕ
slot d k = take 512 (drop (slot_at k) d)

-- the desk with the bytes b as those of class k: what stands before them and after them is as it was
unfoldable pub with_slot : List ℕ → ℕ → List ℕ → List ℕ
with_slot d k b = take (slot_at k) d ++ (b ++ drop 512 (drop (slot_at k) d))

-- "A desk of another length is empty too" (request 10): it has no bytes for any class
unfoldable pub bytes_of : List ℕ → ℕ → List ℕ
bytes_of d k = cond (length d == desk_length) (slot d k) []

-- the four classes that a desk holds: "bytes that no accepted load of their class could have written count as empty for that class only"
unfoldable pub lent_classes : List ℕ → Classes
lent_classes d = record {
  first = record { codelist = lent_codelist (bytes_of d 1) };
  second = record { codelist = lent_codelist (bytes_of d 2) };
  third = record { codelist = lent_codelist (bytes_of d 3) };
  fourth = record { codelist = lent_codelist (bytes_of d 4) };
}

-- "a class number outside 1 to 4 gets 21 with place 0, before everything else": the numbers of the codes, in the order of checking
abbrev pub desk_load_numbers : List ℕ
desk_load_numbers = 21 ∷ quoted_load_numbers

abbrev pub desk_rate_numbers : List ℕ
desk_rate_numbers = 21 ∷ quoted_rate_numbers

-- ════ loading class k of the desk d from the text s ════

unfoldable pub class_load_code : ℕ → List ℕ → List ℕ → ℕ
class_load_code k d s = cond (is_class k) (load_code (bytes_of d k) s) (code_of 21 0)

-- the desk afterwards: the bytes of class k as loading leaves them, and the others as they were
unfoldable pub class_load_state : ℕ → List ℕ → List ℕ → List ℕ
class_load_state k d s = cond (is_class k && length d == desk_length) (with_slot d k (load_state (slot d k) s)) d

-- ════ rating the ranges x by class k of the desk d, into the result r ════

unfoldable pub class_rate_code : ℕ → List ℕ → List ℕ → List ℕ → ℕ
class_rate_code k d x r = cond (is_class k) (rate_code (bytes_of d k) x r) (code_of 21 0)

-- the result afterwards: 21 leaves zeros, too, and a result of another length as it was
unfoldable pub class_rate_record : ℕ → List ℕ → List ℕ → List ℕ → List ℕ
class_rate_record k d x r = cond (is_class k) (rate_record (bytes_of d k) x r) (cond (length r == 192) (replicate 192 0) r)
