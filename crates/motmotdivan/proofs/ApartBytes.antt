-- What is promised of the two calls by class number: `apart-bytes`.
use Rattle.std.proofs.Common.{◌≡◌, ℕ, ◌/◌, ◌%◌, ◌≤◌, Bool, true, false, cond, eqb, List, [], ◌∷◌, length, sym, refl, ap, ◌∙◌, true≢false, arith, lit≤, eq-eqb, ne_eqb}
use mathlib.Core.List.{Memᴰ}
use native.Mathlib.Decide.{ℕ_discrete}
use Rattle.codelist.specs.InFull.{Outcome}
use Rattle.codelist.specs.InFull.{Accepted, Refused}
use Rattle.codelist.specs.Load.{load_of}
use Rattle.classes.specs.Classes.{is_class}
use Rattle.motmotdivan.specs.Calls.{code_of, quoted_load_numbers, quoted_rate_numbers, Answer, result, refusal, rate_answer, load_code, load_state, rate_code}
use Rattle.motmotdivan.specs.Quoting.{Coded, LeftByLoad}
use Rattle.motmotdivan.specs.Desk.{desk_length, slot, bytes_of, class_load_code, class_load_state, class_rate_code, class_rate_record}
use Rattle.motmotdivan.specs.ApartBytes.{SameBytesFor, ApartBytes}
use Rattle.motmotdivan.proofs.Answers.{held}
use Rattle.motmotdivan.proofs.Quoting.{quoting}
use Rattle.motmotdivan.proofs.Slots.{put_back}
use Rattle.motmotdivan.proofs.OfClass.{by-class, bytes-in, bytes-out, left-by, long, own, elsewhere, slots, of-slot}
use Rattle.motmotdivan.proofs.SameClasses.{same_load, same_left, same-rate, same-record}

-- ---- 21 is no number of request 10
abbrev has : ℕ → List ℕ → Bool
has n [] = false
has n (m ∷ l) = cond (eqb n m) true (has n l)

has-member : (n : ℕ) (l : List ℕ) → Memᴰ n l → has n l ≡ true
has-member n [] m = elim m [ ]
has-member n (m ∷ l) (Memᴰ.head e) = rw (eq-eqb n m e)
has-member n (m ∷ l) (Memᴰ.tail t) = go (eqb n m) (has-member n l t)
  where
    go : (b : Bool) → has n l ≡ true → cond b true (has n l) ≡ true
    go true e = refl
    go false e = e

no-class : (c : ℕ) (l : List ℕ) → (¬ (c ≡ 0) → Memᴰ (c % 100) l) → has 21 l ≡ false → ¬ (c ≡ code_of 21 0)
no-class c l h n e =
    let m : c % 100 ≡ 21 = omega arith in
    true≢false (sym (has-member 21 l (rw m at (h (λ z. omega arith)))) ∙ n)

-- ---- places
few : {c n p : ℕ} → Coded c n p → c / 100 ≤ 65
few w = omega (arith, w.place-of, w.few)

load-few : (b s : List ℕ) → load_code b s / 100 ≤ 65
load-few b s =
    elim (ℕ_discrete (length b) 512) [
      | yes l ↦ go (load_of s).outcome refl l
      | no n ↦ few (quoting.load-elsewhere b s n)
    ]
  where
    go : (o : Outcome) → (load_of s).outcome ≡ o → length b ≡ 512 → load_code b s / 100 ≤ 65
    go Accepted e l = rw ((quoting.load-accepted b s).1 (l, e)) (lit≤ tt)
    go (Refused r) e l = few (quoting.load-refused b s r l e)

rate-few : (b x r : List ℕ) → rate_code b x r / 100 ≤ 65
rate-few b x r = go (rate_answer b x (length r)) refl
  where
    go : (o : Answer) → rate_answer b x (length r) ≡ o → rate_code b x r / 100 ≤ 65
    go (result l) e = rw ((quoting.rate-accepted b x r).1 (l, e)) (lit≤ tt)
    go (refusal n p) e = few (quoting.rate-refused b x r n p e)

-- ---- the bytes of a class are all that counts for it
module _ (j : ℕ) (d f : List ℕ) (h : is_class j ≡ true) (l : length f ≡ length d) (e : slot f j ≡ slot d j) where
  bytes_same : bytes_of f j ≡ bytes_of d j
  unfolding bytes_of
  bytes_same = rw (l, e)

  left-same : (s : List ℕ) → slot (class_load_state j f s) j ≡ slot (class_load_state j d s) j
  left-same s =
      elim (ℕ_discrete (length d) desk_length) [
        | yes m ↦ own j f s h (l ∙ m) ∙ ap (λ (b : List ℕ). load_state b s) e ∙ sym (own j d s h m)
        | no n ↦
            ap (λ (g : List ℕ). slot g j) (elsewhere j f s (λ m. n (sym l ∙ m))) ∙ e ∙ sym (ap (λ (g : List ℕ). slot g j) (elsewhere j d s n))
      ]

  same_bytes : SameBytesFor j d f
  same_bytes =
      let a = of-slot j f h in
      let b = of-slot j d h in
      record {
        load_code = λ s. a.load_code s ∙ rw bytes_same (sym (b.load_code s));
        load-left = left-same;
        rate-code = λ x r. a.rate-code x r ∙ rw bytes_same (sym (b.rate-code x r));
        rate-record = λ x r. a.rate-record x r ∙ rw bytes_same (sym (b.rate-record x r));
      }

-- ---- a refused load
kept : (k : ℕ) (d s : List ℕ) → ¬ (class_load_code k d s ≡ 0) → class_load_state k d s ≡ d
kept k d s n =
    left-by k d s (λ f. f ≡ d) refl
    (λ h l. rw (quoting.load_kept (slot d k) s (λ e. n ((of-slot k d h).load_code s ∙ rw (bytes-in d k l) e))) (put_back d k))

-- no load leaves no bytes
none_left : ¬ (LeftByLoad [])
none_left w = let c = (quoting.left-by-load []).1 w in let l = (held [] c.0 c.1).long in omega arith

pub apart-bytes : ApartBytes
unfolding class_load_code class_rate_code class_rate_record load_code
apart-bytes = record {
  slots = λ k j d s g n. slots k d s j g n;
  long = long;
  others = λ k j d s g n. same_bytes j d (class_load_state k d s) g (long k d s) (slots k d s j g n);
  ten = λ k d x r h. rw h (quoting.ten (bytes_of d k) x r);
  own-bytes = same_bytes;
  other_length = λ k d s h n. rw (h, bytes-out d k n);
  other-empty = λ k d x r h n. rw (h, bytes-out d k n) ((quoting.ten [] x r).1 none_left);
  unknown-load = λ k d s.
      by-class k
      (λ h. rw h (λ e. absurd (no-class _ quoted_load_numbers (quoting.load-numbers (bytes_of d k) s) refl e), λ e. absurd (true≢false e)))
      (λ h. rw h (λ e. refl, λ e. refl));
  unknown-rate = λ k d x r.
      by-class k
      (λ h. rw h (λ e. absurd (no-class _ quoted_rate_numbers (quoting.rate-numbers (bytes_of d k) x r) refl e), λ e. absurd (true≢false e)))
      (λ h. rw h (λ e. refl, λ e. refl));
  load-numbers = λ k d s. by-class k (λ h. rw h (λ n. Memᴰ.tail (quoting.load-numbers (bytes_of d k) s n))) (λ h. rw h (λ n. Memᴰ.head refl));
  rate-numbers = λ k d x r. by-class k (λ h. rw h (λ n. Memᴰ.tail (quoting.rate-numbers (bytes_of d k) x r n))) (λ h. rw h (λ n. Memᴰ.head refl));
  load-places = λ k d s. by-class k (λ h. rw h (load-few (bytes_of d k) s)) (λ h. rw h (lit≤ tt));
  rate-places = λ k d x r. by-class k (λ h. rw h (rate-few (bytes_of d k) x r)) (λ h. rw h (lit≤ tt));
  load_kept = kept;
  rate-zeros = λ k d x r. by-class k (λ h. rw h (quoting.rate-zeros (bytes_of d k) x r)) (λ h. rw h (λ n l. rw (eq-eqb (length r) 192 l)));
  rate-kept = λ k d x r. by-class k (λ h. rw h (quoting.rate-kept (bytes_of d k) x r)) (λ h. rw h (λ n. rw (ne_eqb (length r) 192 n)));
  of-slot = of-slot;
  sound = λ k d x r. by-class k (λ h. rw h (λ e. (quoting.sound (bytes_of d k) x r e, refl))) (λ h. rw h (λ e. absurd (omega arith)));
  same_load = same_load;
  same_left = same_left;
  same-rate = same-rate;
  same-record = same-record;
}
