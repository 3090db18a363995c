-- What is promised of the two calls by class number. Statements; the proof is in proofs/ApartBytes.antt.
use Rattle.std.specs.Prelude.{◌≡◌, ℕ, ◌/◌, ◌%◌, ◌≤◌, true, false, ◌↔◌, List, length, replicate, ℤ}
use mathlib.Core.List.{Memᴰ}
use Rattle.classes.specs.InFull.{Outcome}
use Rattle.classes.specs.InFull.{Accepted, Refused}
use Rattle.classes.specs.Classes.{is_class, codelist_at}
use Rattle.classes.specs.Calls.{number_of, place_of, class_loaded, class_rated}
use Rattle.motmotdivan.specs.Record.{numbers, ranges_of, result_record}
use Rattle.motmotdivan.specs.Calls.{code_of, load_code, load_state, rate_code, rate_record}
use Rattle.motmotdivan.specs.Quoting.{LeftByLoad, SoundQuote}
use Rattle.motmotdivan.specs.Desk.{desk_length, slot, bytes_of, lent_classes, desk_load_numbers, desk_rate_numbers}
use Rattle.motmotdivan.specs.Desk.{class_load_code, class_load_state, class_rate_code, class_rate_record}

-- every code and record for class j is the same of two desks, and so are the bytes of j that a load leaves
pub record SameBytesFor (j : ℕ) (d f : List ℕ) : Type 0 where
  pub load_code : (s : List ℕ) → class_load_code j f s ≡ class_load_code j d s
  pub load-left : (s : List ℕ) → slot (class_load_state j f s) j ≡ slot (class_load_state j d s) j
  pub rate-code : (x r : List ℕ) → class_rate_code j f x r ≡ class_rate_code j d x r
  pub rate-record : (x r : List ℕ) → class_rate_record j f x r ≡ class_rate_record j d x r

-- the code of an outcome
abbrev pub outcome_code : Outcome → ℕ
outcome_code Accepted = 0
outcome_code (Refused r) = code_of (number_of r) (place_of r)

-- what the two calls give is what request 10 says of the bytes of class k, of which `Quoting` holds
pub record OfSlot (k : ℕ) (d : List ℕ) : Type 0 where
  pub load_code : (s : List ℕ) → class_load_code k d s ≡ load_code (bytes_of d k) s
  pub load-left : (s : List ℕ) → bytes_of (class_load_state k d s) k ≡ load_state (bytes_of d k) s
  pub rate-code : (x r : List ℕ) → class_rate_code k d x r ≡ rate_code (bytes_of d k) x r
  pub rate-record : (x r : List ℕ) → class_rate_record k d x r ≡ rate_record (bytes_of d k) x r

pub record ApartBytes : Type 0 where
  -- ════ "Loading one class, accepted or refused, leaves the other three and every result for them as they were." ════
  -- byte for byte
  pub slots : (k j : ℕ) (d s : List ℕ) → is_class j ≡ true → ¬ (j ≡ k) → slot (class_load_state k d s) j ≡ slot d j
  pub long : (k : ℕ) (d s : List ℕ) → length (class_load_state k d s) ≡ length d
  pub others : (k j : ℕ) (d s : List ℕ) → is_class j ≡ true → ¬ (j ≡ k) → SameBytesFor j d (class_load_state k d s)
  -- ════ "bytes that no accepted load of their class could have written count as empty for that class only" ════
  -- 10 is given exactly where no accepted load could have left the bytes of the class: "Refusal 10 now means an empty class"
  pub ten : (k : ℕ) (d x r : List ℕ) → is_class k ≡ true → (class_rate_code k d x r ≡ code_of 10 0) ↔ (¬ (LeftByLoad (bytes_of d k)))
  -- and nothing else of the desk counts for a class: desks of one length with the same bytes of class j are the same to it
  pub own-bytes : (j : ℕ) (d f : List ℕ) → is_class j ≡ true → length f ≡ length d → slot f j ≡ slot d j → SameBytesFor j d f
  -- a desk of another length is empty in each class, and loading into it is refused with 10
  pub other_length : (k : ℕ) (d s : List ℕ) → is_class k ≡ true → ¬ (length d ≡ desk_length) → class_load_code k d s ≡ code_of 10 0
  pub other-empty : (k : ℕ) (d x r : List ℕ) → is_class k ≡ true → ¬ (length d ≡ desk_length) → class_rate_code k d x r ≡ code_of 10 0
  -- ════ "a class number outside 1 to 4 gets 21 with place 0, before everything else" ════
  pub unknown-load : (k : ℕ) (d s : List ℕ) → (class_load_code k d s ≡ code_of 21 0) ↔ (is_class k ≡ false)
  pub unknown-rate : (k : ℕ) (d x r : List ℕ) → (class_rate_code k d x r ≡ code_of 21 0) ↔ (is_class k ≡ false)
  -- ════ the first demand ════
  -- the numbers are those of the two lists, and no place is above 65
  pub load-numbers : (k : ℕ) (d s : List ℕ) → ¬ (class_load_code k d s ≡ 0) → Memᴰ (class_load_code k d s % 100) desk_load_numbers
  pub rate-numbers : (k : ℕ) (d x r : List ℕ) → ¬ (class_rate_code k d x r ≡ 0) → Memᴰ (class_rate_code k d x r % 100) desk_rate_numbers
  pub load-places : (k : ℕ) (d s : List ℕ) → class_load_code k d s / 100 ≤ 65
  pub rate-places : (k : ℕ) (d x r : List ℕ) → class_rate_code k d x r / 100 ≤ 65
  -- "After a refusal every result field is 0 and the desk holds what it held"; "such a result record is not written"
  pub load_kept : (k : ℕ) (d s : List ℕ) → ¬ (class_load_code k d s ≡ 0) → class_load_state k d s ≡ d
  pub rate-zeros : (k : ℕ) (d x r : List ℕ) → ¬ (class_rate_code k d x r ≡ 0) → length r ≡ 192 → class_rate_record k d x r ≡ replicate 192 0
  pub rate-kept : (k : ℕ) (d x r : List ℕ) → ¬ (length r ≡ 192) → class_rate_record k d x r ≡ r
  -- ════ class by class, what request 10 promises ════
  pub of-slot : (k : ℕ) (d : List ℕ) → is_class k ≡ true → OfSlot k d
  -- the third demand, of the record that was written
  pub sound : (k : ℕ) (d x r : List ℕ) → class_rate_code k d x r ≡ 0 → SoundQuote (bytes_of d k) x r × (class_rate_record k d x r ≡ rate_record (bytes_of d k) x r)
  -- ════ the same as crate `classes`: so every field of `Apart` and `ClassDemands` speaks of the bytes ════
  pub same_load : (k : ℕ) (d s : List ℕ) → length d ≡ desk_length → class_load_code k d s ≡ outcome_code (class_loaded (lent_classes d) k s).outcome
  pub same_left : (k : ℕ) (d s : List ℕ) → length d ≡ desk_length → lent_classes (class_load_state k d s) ≡ (class_loaded (lent_classes d) k s).classes
  pub same-rate : (k : ℕ) (d x r : List ℕ) (xs : List ℤ) → length x ≡ 128 → length r ≡ 192 → ranges_of x (codelist_at (lent_classes d) k).factors ≡ numbers xs
      → class_rate_code k d x r ≡ outcome_code (class_rated (lent_classes d) k xs).outcome
  pub same-record : (k : ℕ) (d x r : List ℕ) (xs : List ℤ) → length x ≡ 128 → length r ≡ 192 → ranges_of x (codelist_at (lent_classes d) k).factors ≡ numbers xs
      → class_rate_record k d x r ≡ result_record (class_rated (lent_classes d) k xs).limits
