-- A call by its class: where the bytes begin, and what it comes to where they begin nowhere.
use Rattle.std.proofs.Common.{◌≡◌, ℕ, ◌≤◌, Bool, true, false, cond, eqb, List, length, take, drop, refl, lit≤, arith, replicate, eqb-true, eq-eqb, ne_eqb}
use borrow.Rule.Slice.PartMut.{put_mid}
use Rattle.std.specs.declared.result.Result.TheVariants.{Ok, Err}
use Rattle.codelist.specs.Load.{load_of}
use Rattle.classes.specs.Classes.{is_class}
use Rattle.encoding.specs.Decode.{decoded, head_of}
use Rattle.encoding.specs.Load.{left_by}
use Rattle.motmotdivan.specs.declared.codes.Refusal.{Refusal}
use Rattle.motmotdivan.specs.declared.codes.Refusal.TheVariants.{Class, NoCodelist}
use Rattle.motmotdivan.specs.Calls.{code_of, loaded_code, load_code, load_state, Answer, result, refusal, answer_code, answer_record, rate_answer, rate_code, rate_record}
use Rattle.motmotdivan.specs.Desk.{desk_length, slot_at, slot, with_slot, bytes_of, class_load_code, class_load_state, class_rate_code, class_rate_record}
use Rattle.motmotdivan.specs.Views.{number_of, place_of, start_of, class_answer}
use Rattle.motmotdivan.proofs.Cases.{ListedAnswer, listed}
use Rattle.motmotdivan.proofs.Slots.{slot-long}

-- they begin at the class's place
pub record Begins (k n at : ℕ) : Type 0 where
  pub class : is_class k ≡ true
  pub long : n ≡ desk_length
  pub place : at ≡ slot_at k

pub begins : (k n at : ℕ) → start_of k n ≡ Ok at → Begins k n at
begins k n at e = go (is_class k) (eqb n desk_length) refl refl e
  where
    go : (t u : Bool) → is_class k ≡ t → eqb n desk_length ≡ u → cond t (cond u (Ok (slot_at k)) (Err NoCodelist)) (Err Class) ≡ Ok at → Begins k n at
    go true true p q f = record { class = p; long = eqb-true n desk_length q; place = cc }
    go true false p q f = cc
    go false u p q f = cc

-- they begin nowhere
pub record Nowhere (k : ℕ) (d s x : List ℕ) (room : ℕ) (r : Refusal) : Type 0 where
  pub few : place_of r ≤ 65
  pub code : code_of (number_of r) (place_of r) ≡ class_load_code k d s
  pub kept : d ≡ class_load_state k d s
  pub answer : refusal (number_of r) (place_of r) ≡ class_answer k d x room

pub nowhere : (k : ℕ) (d s x : List ℕ) (room : ℕ) (r : Refusal) → start_of k (length d) ≡ Err r → Nowhere k d s x room r
unfolding class_load_code class_load_state class_answer bytes_of load_code rate_answer decoded head_of
nowhere k d s x room r e = go (is_class k) (eqb (length d) desk_length) refl refl e
  where
    go : (t u : Bool) → is_class k ≡ t → eqb (length d) desk_length ≡ u → cond t (cond u (Ok (slot_at k)) (Err NoCodelist)) (Err Class) ≡ Err r
        → Nowhere k d s x room r
    go true true p q f = cc
    go true false p q f = let z : NoCodelist ≡ r = cc in rw (← z) (record { few = lit≤ tt; code = rw (p, q); kept = rw (p, q); answer = rw (p, q) })
    go false u p q f = let z : Class ≡ r = cc in rw (← z) (record { few = lit≤ tt; code = rw p; kept = rw p; answer = rw p })

module _ (k : ℕ) (d : List ℕ) (at : ℕ) (b : Begins k (length d) at) where
  -- what is loaded there
  pub load-code : (s : List ℕ) → loaded_code (load_of s).outcome ≡ class_load_code k d s
  unfolding class_load_code bytes_of load_code
  load-code s = rw (b.class, eq-eqb (length d) desk_length b.long, eq-eqb (length (slot d k)) 512 (slot-long d k b.long b.class))

  pub load-left : (s t : List ℕ) (n : ℕ) → n ≡ 512 → t ≡ left_by (take n (drop at d)) (load_of s) → put_mid at n d t ≡ class_load_state k d s
  unfolding class_load_state with_slot load_state slot
  load-left s t n e f = rw (b.class, eq-eqb (length d) desk_length b.long, f, e, b.place)

  -- what is rated there
  pub rate-there : (x : List ℕ) (room n : ℕ) → n ≡ 512 → rate_answer (take n (drop at d)) x room ≡ class_answer k d x room
  unfolding class_answer bytes_of slot
  rate-there x room n e = rw (b.class, eq-eqb (length d) desk_length b.long, e, b.place)

-- the code and the record of an answer
pub class-code : (k : ℕ) (d x r : List ℕ) → answer_code (class_answer k d x (length r)) ≡ class_rate_code k d x r
unfolding class_answer class_rate_code rate_code
class-code k d x r = go (is_class k)
  where
    go : (t : Bool) → answer_code (cond t (rate_answer (bytes_of d k) x (length r)) (refusal 21 0)) ≡ cond t (answer_code (rate_answer (bytes_of d k) x (length r))) (code_of 21 0)
    go true = refl
    go false = refl

pub class-record : (k : ℕ) (d x r : List ℕ) → length r ≡ 192 → answer_record (class_answer k d x (length r)) ≡ class_rate_record k d x r
unfolding class_answer class_rate_record rate_record
class-record k d x r h = rw (eq-eqb (length r) 192 h) (go (is_class k))
  where
    go : (t : Bool) → answer_record (cond t (rate_answer (bytes_of d k) x (length r)) (refusal 21 0)) ≡ cond t (answer_record (rate_answer (bytes_of d k) x (length r))) (replicate 192 0)
    go true = refl
    go false = refl

pub class-other : (k : ℕ) (d x r : List ℕ) → (length r ≡ 192 → ⊥) → r ≡ class_rate_record k d x r
unfolding class_rate_record rate_record
class-other k d x r h = rw (ne_eqb (length r) 192 h) (go (is_class k))
  where
    go : (t : Bool) → r ≡ cond t r r
    go true = refl
    go false = refl

few-places : (o : Answer) (n p : ℕ) → ListedAnswer o → refusal n p ≡ o → p ≤ 65
few-places (refusal m q) n p h e = let z : q ≡ p = cc in omega (arith, h.few)
few-places (result l) n p h e = cc

pub class-few : (k : ℕ) (d x : List ℕ) (room n p : ℕ) → refusal n p ≡ class_answer k d x room → p ≤ 65
unfolding class_answer
class-few k d x room n p e = go (is_class k) e
  where
    go : (t : Bool) → refusal n p ≡ cond t (rate_answer (bytes_of d k) x room) (refusal 21 0) → p ≤ 65
    go true f = few-places (rate_answer (bytes_of d k) x room) n p (listed (bytes_of d k) x room) f
    go false f = let z : p ≡ 0 = cc in omega arith
