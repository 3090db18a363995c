-- A call by class number is request 10's call on the bytes of that class: `of-slot`. Loading a class leaves the bytes of the others: `slots`.
use Rattle.std.proofs.Common.{◌≡◌, ℕ, Bool, true, false, cond, ◌&&◌, eqb, List, [], length, sym, refl, ap, ◌∙◌, true≢false, arith, eq-eqb, ne_eqb, eqb-true}
use native.Mathlib.Decide.{ℕ_discrete}
use Rattle.codelist.proofs.Laws.{both_true}
use Rattle.classes.specs.Classes.{is_class}
use Rattle.motmotdivan.specs.Calls.{load_code, load_state}
use Rattle.motmotdivan.specs.Desk.{desk_length, slot, with_slot, bytes_of, class_load_code, class_load_state, class_rate_code, class_rate_record}
use Rattle.motmotdivan.specs.ApartBytes.{OfSlot}
use Rattle.motmotdivan.proofs.Answers.{held}
use Rattle.motmotdivan.proofs.Quoting.{quoting}
use Rattle.motmotdivan.proofs.Slots.{slot-long, put-long, put-own, put_other}

-- a number is a class's, or not
pub by-class : (k : ℕ) {X : Type 0} → (is_class k ≡ true → X) → (is_class k ≡ false → X) → X
by-class k {X} known unknown = go (is_class k) refl
  where
    go : (b : Bool) → is_class k ≡ b → X
    go true e = known e
    go false e = unknown e

-- ---- the bytes of a class, by the desk's length
pub bytes-in : (d : List ℕ) (k : ℕ) → length d ≡ desk_length → bytes_of d k ≡ slot d k
unfolding bytes_of
bytes-in d k l = rw (eq-eqb (length d) desk_length l)

pub bytes-out : (d : List ℕ) (k : ℕ) → ¬ (length d ≡ desk_length) → bytes_of d k ≡ []
unfolding bytes_of
bytes-out d k n = rw (ne_eqb (length d) desk_length n)

-- ---- loading
-- as many bytes as before
load-long : (b s : List ℕ) → length (load_state b s) ≡ length b
load-long b s =
    elim (ℕ_discrete (load_code b s) 0) [
      | yes e ↦
          let l = ((quoting.load-accepted b s).0 e).0 in
          let w = (quoting.left-by-load (load_state b s)).1 (record { before = b; text = s; long = l; taken = e; left = refl }) in
          (held (load_state b s) w.0 w.1).long ∙ sym l
      | no n ↦ ap length (quoting.load_kept b s n)
    ]

module _ (k : ℕ) (d s : List ℕ) where
  -- the desk afterwards: as it was, or with what loading left
  pub left-by : (P : List ℕ → Type 0) → P d → (is_class k ≡ true → length d ≡ desk_length → P (with_slot d k (load_state (slot d k) s)))
      → P (class_load_state k d s)
  unfolding class_load_state
  left-by P kept put = go (is_class k && eqb (length d) desk_length) refl
    where
      go : (b : Bool) → (is_class k && eqb (length d) desk_length) ≡ b → P (cond b (with_slot d k (load_state (slot d k) s)) d)
      go true e = let t = both_true (is_class k) (eqb (length d) desk_length) e in put t.0 (eqb-true (length d) desk_length t.1)
      go false e = kept

  left-long : is_class k ≡ true → length d ≡ desk_length → length (load_state (slot d k) s) ≡ 512
  left-long h l = load-long (slot d k) s ∙ slot-long d k l h

  pub long : length (class_load_state k d s) ≡ length d
  long = left-by (λ f. length f ≡ length d) refl (λ h l. put-long d k l h (load_state (slot d k) s) (left-long h l))

  pub unknown : is_class k ≡ false → class_load_state k d s ≡ d
  unknown n = left-by (λ f. f ≡ d) refl (λ h l. absurd (true≢false (sym h ∙ n)))

  pub elsewhere : ¬ (length d ≡ desk_length) → class_load_state k d s ≡ d
  elsewhere n = left-by (λ f. f ≡ d) refl (λ h l. absurd (n l))

  pub own : is_class k ≡ true → length d ≡ desk_length → slot (class_load_state k d s) k ≡ load_state (slot d k) s
  unfolding class_load_state
  own h l = rw (h, eq-eqb (length d) desk_length l) (put-own d k l h (load_state (slot d k) s) (left-long h l))

  own-bytes : is_class k ≡ true → bytes_of (class_load_state k d s) k ≡ load_state (bytes_of d k) s
  unfolding load_code
  own-bytes h =
      elim (ℕ_discrete (length d) desk_length) [
        | yes l ↦ bytes-in (class_load_state k d s) k (long ∙ l) ∙ own h l ∙ ap (λ (b : List ℕ). load_state b s) (sym (bytes-in d k l))
        | no n ↦
            bytes-out (class_load_state k d s) k (λ e. n (sym long ∙ e))
            ∙ sym (ap (λ (b : List ℕ). load_state b s) (bytes-out d k n) ∙ quoting.load_kept [] s (λ e. omega arith))
      ]

  module _ (j : ℕ) (g : is_class j ≡ true) (apart : ¬ (j ≡ k)) where
    pub slots : slot (class_load_state k d s) j ≡ slot d j
    slots = left-by (λ f. slot f j ≡ slot d j) refl (λ h l. put_other d k l h (load_state (slot d k) s) (left-long h l) j g apart)

    pub other-bytes : bytes_of (class_load_state k d s) j ≡ bytes_of d j
    unfolding bytes_of
    other-bytes = rw (long, slots)

pub of-slot : (k : ℕ) (d : List ℕ) → is_class k ≡ true → OfSlot k d
unfolding class_load_code class_rate_code class_rate_record
of-slot k d h = record {
  load_code = λ s. rw h;
  load-left = λ s. own-bytes k d s h;
  rate-code = λ x r. rw h;
  rate-record = λ x r. rw h;
}
