-- The bytes of the classes on a desk of the right length: 512 each, and those put for one class are no other's.
use Rattle.std.proofs.Common.{◌≡◌, ℕ, ◌+◌, ◌-◌, true, List, ◌++◌, length, take, drop, sym, ap, ◌∙◌, arith, length-drop, length-take-le, drop-drop, take_at, drop_at}
use native.Mathlib.Decide.{dec_lt}
use borrow.Rule.Slice.PartMut.{same_len_mid, put_same, take_put, drop_put}
use Rattle.classes.specs.Classes.{is_class}
use Rattle.classes.proofs.Numbers.{one-to-four}
use Rattle.motmotdivan.specs.Desk.{desk_length, slot_at, slot, with_slot}
use Rattle.motmotdivan.proofs.Lowest.{same-part}

pub width : (a : ℕ) → a + 512 - a ≡ 512
width a = omega arith

-- the bytes that are there, put there
pub put_back : (d : List ℕ) (k : ℕ) → with_slot d k (slot d k) ≡ d
unfolding slot with_slot
put_back d k = put_same (slot_at k) 512 d

module _ (d : List ℕ) (k : ℕ) (l : length d ≡ desk_length) (h : is_class k ≡ true) where
  pub slot-long : length (slot d k) ≡ 512
  unfolding slot
  slot-long = length-take-le 512 (drop (slot_at k) d) (omega (arith, length-drop (slot_at k) d, one-to-four k h))

  module _ (b : List ℕ) (m : length b ≡ 512) where
    pub put-long : length (with_slot d k b) ≡ length d
    unfolding slot with_slot
    put-long = same_len_mid (slot_at k) 512 d b (m ∙ sym slot-long)

    pub put-own : slot (with_slot d k b) k ≡ b
    unfolding slot with_slot
    put-own =
        let a = drop 512 (drop (slot_at k) d) in
        ap (take 512) (drop_at (take (slot_at k) d) (b ++ a) (slot_at k) (length-take-le (slot_at k) d (omega (arith, one-to-four k h)))) ∙ take_at b a 512 m

    -- the bytes before, and those from the next class's on
    before : take (slot_at k) (with_slot d k b) ≡ take (slot_at k) d
    unfolding with_slot
    before = take_put (slot_at k) 512 d b (omega (arith, one-to-four k h))

    after : drop (slot_at k + 512) (with_slot d k b) ≡ drop (slot_at k + 512) d
    unfolding with_slot
    after = rw width at (drop_put (slot_at k) (slot_at k + 512) d b (omega arith) (omega (arith, one-to-four k h)) (m ∙ sym (width (slot_at k))))

    pub put_other : (j : ℕ) → is_class j ≡ true → ¬ (j ≡ k) → slot (with_slot d k b) j ≡ slot d j
    unfolding slot
    put_other j g apart =
        elim (dec_lt j k) [
          | yes p ↦ same-part (with_slot d k b) d 512 (slot_at j) (slot_at k) before (omega (arith, one-to-four j g))
          | no p ↦
              let n = slot_at j - (slot_at k + 512) in
              let e : slot_at k + 512 + n ≡ slot_at j = omega (arith, one-to-four k h) in
              ap (take 512)
              (rw e at (sym (drop-drop n (slot_at k + 512) (with_slot d k b)) ∙ ap (drop n) after ∙ drop-drop n (slot_at k + 512) d))
        ]
