-- Swapped references change no code and no byte of a result: `exchange-c` of the bytes of one class, `exchange-classes` of the desk. Assumes nothing.
use Rattle.std.proofs.Common.{◌≡◌, ℕ, Bool, true, false, cond, eqb, List, length, sym, refl, ap, ◌∙◌, subst, arith}
use mathlib.Core.Option.{Option, some, none, get_or}
use native.Mathlib.Decide.{ℕ_discrete}
use Rattle.codelist.specs.declared.Codelist.{Codelist}
use Rattle.codelist.specs.InFull.{Outcome}
use Rattle.codelist.specs.InFull.{Accepted, Refused}
use Rattle.codelist.specs.Codelist.{WellFormed}
use Rattle.codelist.specs.Load.{empty, load_of}
use Rattle.codelist.specs.Exchange.{Exchanged, ExchangedText, LoadedAlike}
use Rattle.codelist.proofs.Accepted.{accepted-well-formed}
use Rattle.codelist.proofs.Exchange.{exchange-load}
use Rattle.rules.proofs.Exchange.{exchange-rate}
use Rattle.encoding.specs.Encode.{encoded}
use Rattle.encoding.specs.Decode.{decoded, lent_codelist}
use Rattle.encoding.specs.Load.{kept_or}
use Rattle.encoding.proofs.Decoded.{decodes-exactly}
use Rattle.classes.specs.Classes.{is_class}
use Rattle.motmotdivan.specs.Record.{ranges_of, Read, numbers, fraction}
use Rattle.motmotdivan.specs.Calls.{on_codelist, on_read, rate_answer, load_code, load_state, rate_code, rate_record, answer_of, answer_code}
use Rattle.motmotdivan.specs.Desk.{bytes_of, class_load_code, class_load_state, class_rate_code, class_rate_record}
use Rattle.motmotdivan.specs.Exchange.{ExchangedDesk, ExchangeC, ExchangedDesks, ExchangeClasses}
use Rattle.motmotdivan.proofs.OfClass.{by-class, long, other-bytes, of-slot}

-- ---- what a desk holds
-- bytes that hold a codelist hold a well formed one, and bytes that hold none count as the empty one, which has no operation
formed : (d : List ℕ) (c : Codelist) → decoded d ≡ some c → WellFormed c
formed d c e = ((decodes-exactly.where-encoded d c).0 e).0

not-empty : {c : Codelist} → WellFormed c → c.count ≡ 0 → ⊥
not-empty w e = omega (arith, w.some)

-- what is left by an accepted load is decoded
pub lent_back : (c : Codelist) → WellFormed c → lent_codelist (encoded c) ≡ c
unfolding lent_codelist
lent_back c w = let e = (decodes-exactly.where-encoded (encoded c) c).1 (w, refl) in rw e

-- ---- rating
module _ {c g : Codelist} (h : Exchanged c g) where
  read-exchanged : (r : Read) → on_read c r ≡ on_read g r
  read-exchanged (numbers xs) = ap answer_of (exchange-rate c g xs h)
  read-exchanged (fraction a) = refl

  answer-exchanged : (x : List ℕ) (room : ℕ) → on_codelist (some c) x room ≡ on_codelist (some g) x room
  answer-exchanged x room = rw (read-exchanged (ranges_of x c.factors), h.factors)

desks-alike : (d f x : List ℕ) (room : ℕ) → ExchangedDesk d f → rate_answer d x room ≡ rate_answer f x room
unfolding rate_answer lent_codelist empty
desks-alike d f x room h = go (decoded d) (decoded f) refl refl h.codelist
  where
    go : (a b : Option Codelist) → decoded d ≡ a → decoded f ≡ b → Exchanged (get_or a empty) (get_or b empty)
        → on_codelist a x room ≡ on_codelist b x room
    go none none p q k = refl
    go (some c) (some g) p q k = answer-exchanged k x room
    go (some c) none p q k = absurd (not-empty (formed d c p) k.count)
    go none (some g) p q k = absurd (not-empty (formed f g q) (sym k.count))

-- ---- loading
module _ (d f s t : List ℕ) (h : ExchangedDesk d f) (k : LoadedAlike (load_of s) (load_of t)) where
  abbrev c : Codelist
  c = (load_of s).codelist

  abbrev g : Codelist
  g = (load_of t).codelist

  encodings : WellFormed c → WellFormed g → ExchangedDesk (encoded c) (encoded g)
  encodings v w = record {
    long = decodes-exactly.long c v ∙ sym (decodes-exactly.long g w);
    codelist = rw (lent_back c v, lent_back g w) k.codelist;
  }

  states : ExchangedDesk (load_state d s) (load_state f t)
  unfolding load_state
  states = rw k.outcome (go (load_of t).outcome refl)
    where
      room : (b : Bool) → WellFormed c → WellFormed g → ExchangedDesk (cond b (encoded c) d) (cond b (encoded g) f)
      room true v w = encodings v w
      room false v w = h

      go : (o : Outcome) → (load_of t).outcome ≡ o → ExchangedDesk (kept_or d o c) (kept_or f o g)
      go (Refused r) e = h
      go Accepted e =
          subst (λ n. ExchangedDesk (cond (eqb n 512) (encoded c) d) (cond (eqb (length f) 512) (encoded g) f)) (sym h.long)
          (room (eqb (length f) 512) (accepted-well-formed s (k.outcome ∙ e)) (accepted-well-formed t e))

pub exchange-c : ExchangeC
unfolding load_code rate_code rate_record
exchange-c = record {
  load_code = λ d f s t h k. rw (h.long, (exchange-load s t k).outcome);
  load-state = λ d f s t h k. states d f s t h (exchange-load s t k);
  rate-code = λ d f x r h. ap answer_code (desks-alike d f x (length r) h);
  rate-record = λ d f x r h. rw (desks-alike d f x (length r) h);
}

-- ---- the desk
module _ (k : ℕ) (d f s t : List ℕ) (h : ExchangedDesks d f) (x : ExchangedText s t) where
  own-state : is_class k ≡ true → ExchangedDesk (bytes_of (class_load_state k d s) k) (bytes_of (class_load_state k f t) k)
  own-state c =
      rw ((of-slot k d c).load-left s, (of-slot k f c).load-left t) (exchange-c.load-state (bytes_of d k) (bytes_of f k) s t (h.each k c) x)

  each-state : (j : ℕ) → is_class j ≡ true → ExchangedDesk (bytes_of (class_load_state k d s) j) (bytes_of (class_load_state k f t) j)
  each-state j c =
      elim (ℕ_discrete j k) [
        | yes e ↦ rw e (own-state (rw e at c))
        | no n ↦ rw (other-bytes k d s j c n, other-bytes k f t j c n) (h.each j c)
      ]

pub exchange-classes : ExchangeClasses
unfolding class_load_code class_rate_code class_rate_record
exchange-classes = record {
  load_code = λ k d f s t h x. by-class k (λ c. rw c (exchange-c.load_code (bytes_of d k) (bytes_of f k) s t (h.each k c) x)) (λ c. rw c);
  load-state = λ k d f s t h x. record { long = long k d s ∙ h.long ∙ sym (long k f t); each = each-state k d f s t h x };
  rate-code = λ k d f x r h. by-class k (λ c. rw c (exchange-c.rate-code (bytes_of d k) (bytes_of f k) x r (h.each k c))) (λ c. rw c);
  rate-record = λ k d f x r h. by-class k (λ c. rw c (exchange-c.rate-record (bytes_of d k) (bytes_of f k) x r (h.each k c))) (λ c. rw c);
}
