-- The calls on a desk's bytes are those of crate `classes` on the four classes that they hold, code by code and record by record.
use Rattle.std.proofs.Common.{◌≡◌, ℕ, true, List, length, ℤ, sym, refl, ap, ◌∙◌, subst, eq-eqb}
use mathlib.Core.Option.{Option, some, none, get_or}
use native.Mathlib.Decide.{ℕ_discrete}
use Rattle.codelist.specs.declared.Codelist.{Codelist}
use Rattle.codelist.specs.InFull as loading
use Rattle.codelist.specs.Codelist.{ratable}
use Rattle.codelist.specs.Load.{empty, load_of}
use Rattle.codelist.proofs.Accepted.{accepted-well-formed}
use Rattle.rules.specs.Rate.{rate_of}
use Rattle.encoding.specs.Decode.{decoded, lent_codelist}
use Rattle.encoding.specs.Load.{kept_or}
use Rattle.engine.specs.declared.Engine.{Engine}
use Rattle.engine.specs.InFull as engine
use Rattle.engine.specs.Engine.{loaded, loaded_of, rated_of}
use Rattle.classes.specs.Classes.{is_class, engine_at, codelist_at, with_engine}
use Rattle.classes.specs.Calls.{engine_outcome, class_loaded, class_rated}
use Rattle.classes.proofs.Numbers.{Number, first, second, third, fourth, which, same-classes, put_same, put_other}
use Rattle.motmotdivan.specs.Record.{numbers, ranges_of, result_record}
use Rattle.motmotdivan.specs.Calls.{loaded_code, load_code, load_state, rate_answer, rate_code, rate_record}
use Rattle.motmotdivan.specs.Quoting.{engine_code}
use Rattle.motmotdivan.specs.Desk.{desk_length, bytes_of, lent_classes, class_load_code, class_load_state, class_rate_code, class_rate_record}
use Rattle.motmotdivan.specs.ApartBytes.{outcome_code}
use Rattle.motmotdivan.proofs.Exchange.{lent_back}
use Rattle.motmotdivan.proofs.Quoting.{quoting}
use Rattle.motmotdivan.proofs.Results.{no_result}
use Rattle.motmotdivan.proofs.Slots.{slot-long}
use Rattle.motmotdivan.proofs.OfClass.{by-class, bytes-in, unknown, other-bytes, of-slot}

-- the engine that bytes hold
abbrev lent : List ℕ → Engine
lent b = record { codelist = lent_codelist b }

-- that of class k is the engine of its bytes
held_at : (d : List ℕ) (k : ℕ) → is_class k ≡ true → engine_at (lent_classes d) k ≡ lent (bytes_of d k)
unfolding engine_at lent_classes
held_at d k h = go (which k h)
  where
    go : Number k → engine_at (lent_classes d) k ≡ lent (bytes_of d k)
    go (first p) = rw p
    go (second p) = rw p
    go (third p) = rw p
    go (fourth p) = rw p

-- ---- loading, on the bytes of one class
load-outcome : (e : Engine) (o : loading.Outcome) (c : Codelist) → loaded_code o ≡ outcome_code (engine_outcome (loaded e o c).outcome)
load-outcome e loading.Accepted c = refl
load-outcome e (loading.Refused r) c = refl

module _ (b s : List ℕ) (l : length b ≡ 512) where
  load_same : (e : Engine) → load_code b s ≡ outcome_code (engine_outcome (loaded_of e s).outcome)
  unfolding load_code loaded_of
  load_same e = rw (eq-eqb (length b) 512 l) (load-outcome e (load_of s).outcome (load_of s).codelist)

  left-same : lent (load_state b s) ≡ (loaded_of (lent b) s).engine
  unfolding load_state loaded_of
  left-same = go (load_of s).outcome refl
    where
      go : (o : loading.Outcome) → (load_of s).outcome ≡ o → lent (kept_or b o (load_of s).codelist) ≡ (loaded (lent b) o (load_of s).codelist).engine
      go loading.Accepted e =
          rw (eq-eqb (length b) 512 l) (ap (λ (c : Codelist). record { codelist = c }) (lent_back (load_of s).codelist (accepted-well-formed s e)))
      go (loading.Refused r) e = refl

-- ---- rating, by the bytes of one class
rate-outcome : (o : engine.Outcome) → engine_code o ≡ outcome_code (engine_outcome o)
rate-outcome engine.Accepted = refl
rate-outcome (engine.Refused r) = refl

-- the code and the record are those of an engine
abbrev AsBy : (b x r : List ℕ) → List ℤ → Engine → Type 0
AsBy b x r xs e = (rate_code b x r ≡ engine_code (rated_of e xs).outcome) × (rate_record b x r ≡ result_record (rated_of e xs).limits)

module _ (b x r : List ℕ) (xs : List ℤ) (p : length x ≡ 128) (q : length r ≡ 192) where
  none-same : decoded b ≡ none → AsBy b x r xs (record { codelist = empty })
  unfolding rate_code rate_record rate_answer rated_of rate_of ratable empty
  none-same e = (rw e, rw (e, eq-eqb (length r) 192 q) (sym no_result))

  rate-same : ranges_of x (lent_codelist b).factors ≡ numbers xs → AsBy b x r xs (lent b)
  unfolding lent_codelist
  rate-same n = go (decoded b) refl n
    where
      go : (o : Option Codelist) → decoded b ≡ o → ranges_of x (get_or o empty).factors ≡ numbers xs
          → AsBy b x r xs (record { codelist = get_or o empty })
      go none e n = none-same e
      go (some c) e n = quoting.same-as-engine c b x r xs (record { held = e; ranges = p; result = q }) n

-- ---- the desk
module _ (k : ℕ) (d s : List ℕ) (l : length d ≡ desk_length) where
  bytes-long : is_class k ≡ true → length (bytes_of d k) ≡ 512
  bytes-long h = ap length (bytes-in d k l) ∙ slot-long d k l h

  pub same_load : class_load_code k d s ≡ outcome_code (class_loaded (lent_classes d) k s).outcome
  unfolding class_load_code class_loaded
  same_load = by-class k (λ h. rw h (load_same (bytes_of d k) s (bytes-long h) (engine_at (lent_classes d) k))) (λ h. rw h)

  -- each class afterwards
  module _ (h : is_class k ≡ true) where
    abbrev engine-left : Engine
    engine-left = (loaded_of (engine_at (lent_classes d) k) s).engine

    own-left : engine_at (lent_classes (class_load_state k d s)) k ≡ engine-left
    own-left =
        held_at (class_load_state k d s) k h ∙ ap lent ((of-slot k d h).load-left s) ∙ left-same (bytes_of d k) s (bytes-long h)
        ∙ ap (λ (e : Engine). (loaded_of e s).engine) (sym (held_at d k h))

    each_left : (j : ℕ) → is_class j ≡ true → engine_at (lent_classes (class_load_state k d s)) j ≡ engine_at (with_engine (lent_classes d) k engine-left) j
    each_left j g =
        elim (ℕ_discrete j k) [
          | yes e ↦ rw e (own-left ∙ sym (put_same (lent_classes d) k engine-left h))
          | no n ↦
              held_at (class_load_state k d s) j g ∙ ap lent (other-bytes k d s j g n)
              ∙ sym (put_other (lent_classes d) k engine-left j n ∙ held_at d j g)
        ]

  pub same_left : lent_classes (class_load_state k d s) ≡ (class_loaded (lent_classes d) k s).classes
  unfolding class_loaded
  same_left = by-class k (λ h. rw h (same-classes _ _ (each_left h))) (λ h. rw (unknown k d s h, h))

module _ (k : ℕ) (d x r : List ℕ) (xs : List ℤ) (p : length x ≡ 128) (q : length r ≡ 192)
    (n : ranges_of x (codelist_at (lent_classes d) k).factors ≡ numbers xs) where
  by-engine : is_class k ≡ true → AsBy (bytes_of d k) x r xs (engine_at (lent_classes d) k)
  by-engine h =
      subst (λ (e : Engine). ranges_of x e.codelist.factors ≡ numbers xs → AsBy (bytes_of d k) x r xs e) (sym (held_at d k h))
      (rate-same (bytes_of d k) x r xs p q) n

  pub same-rate : class_rate_code k d x r ≡ outcome_code (class_rated (lent_classes d) k xs).outcome
  unfolding class_rate_code class_rated
  same-rate = by-class k (λ h. rw h ((by-engine h).0 ∙ rate-outcome (rated_of (engine_at (lent_classes d) k) xs).outcome)) (λ h. rw h)

  pub same-record : class_rate_record k d x r ≡ result_record (class_rated (lent_classes d) k xs).limits
  unfolding class_rate_record class_rated
  same-record = by-class k (λ h. rw h (by-engine h).1) (λ h. rw (h, eq-eqb (length r) 192 q) (sym no_result))
