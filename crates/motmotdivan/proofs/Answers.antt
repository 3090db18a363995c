-- What the bytes of a desk and the record of ranges come to, as the code finds it out.
use Rattle.std.proofs.Common.{◌≡◌, ℕ, ◌≤◌, Bool, true, false, cond, ◌&&◌, eqb, List, map, length, get_or, ℤ, sym, refl, ap, ◌∙◌, eq-eqb}
use mathlib.Core.Option
use mathlib.Core.Option.{Option, some, none}
use Rattle.codelist.specs.declared.Codelist.{Codelist}
use Rattle.codelist.specs.Codelist.{ratable}
use Rattle.codelist.specs.Load.{empty}
use Rattle.rules.specs.Rate.{rate_of}
use Rattle.encoding.specs.Encode.{encoded}
use Rattle.encoding.specs.Decode.{decoded, lent_codelist, holds_codelist}
use Rattle.encoding.proofs.Decoded.{decodes-exactly}
use Rattle.motmotdivan.specs.declared.codes.Refusal.{Refusal}
use Rattle.motmotdivan.specs.declared.codes.Refusal.TheVariants.{NoCodelist}
use Rattle.motmotdivan.specs.Record.{numbers, fraction, ranges_of}
use Rattle.motmotdivan.specs.Calls.{refusal, answer_of, on_read, on_codelist, rate_answer}
use Rattle.motmotdivan.specs.Views.{clamp, number_of, place_of}
use Rattle.motmotdivan.proofs.Clamped.{rate-clamped}

-- What is known of bytes that hold a codelist
pub record Held (d : List ℕ) (c : Codelist) : Type 0 where
  pub long : length d ≡ 512
  pub factors : get_or d 0 0 ≡ c.factors
  pub few : (1 ≤ c.factors) × (c.factors ≤ 8)

pub held : (d : List ℕ) (c : Codelist) → decoded d ≡ some c → Held d c
unfolding encoded
held d c e =
    let x = (decodes-exactly.where-encoded d c).0 e in
    record {
      long = ap length x.1 ∙ decodes-exactly.long c x.0;
      factors = ap (λ (b : List ℕ). get_or b 0 0) x.1;
      few = x.0.factors;
    }

-- A refusal that 10 comes before
pub refused-held : (t : Bool) (r : Refusal) → let q = cond t r NoCodelist in refusal (number_of q) (place_of q) ≡ cond t (refusal (number_of r) (place_of r)) (refusal 10 0)
refused-held true r = refl
refused-held false r = refl

module _ (d x : List ℕ) (room : ℕ) where
  -- 10: no codelist
  pub ten-given : ((c : Codelist) → decoded d ≡ some c → ⊥) → refusal 10 0 ≡ rate_answer d x room
  unfolding rate_answer
  ten-given h = go (decoded d) refl
    where
      go : (o : Option Codelist) → decoded d ≡ o → refusal 10 0 ≡ on_codelist o x room
      go none e = refl
      go (some c) e = absurd (h c e)

  -- 8: a record of another length
  pub eight-given : (eqb (length x) 128 && eqb room 192) ≡ false → cond (holds_codelist d) (refusal 8 0) (refusal 10 0) ≡ rate_answer d x room
  unfolding rate_answer holds_codelist
  eight-given h = go (decoded d)
    where
      go : (o : Option Codelist) → cond (Rattle.encoding.specs.Decode.held o) (refusal 8 0) (refusal 10 0) ≡ on_codelist o x room
      go none = refl
      go (some c) = rw h

  module _ (p : length x ≡ 128) (q : room ≡ 192) where
    read-ranges : (c : Codelist) → on_codelist (some c) x room ≡ on_read c (ranges_of x c.factors)
    read-ranges c = rw (eq-eqb (length x) 128 p, eq-eqb room 192 q)

    -- 18: a fraction
    pub eighteen-given : (a : ℕ) → ((c : Codelist) → decoded d ≡ some c → ranges_of x c.factors ≡ fraction a)
        → cond (holds_codelist d) (refusal 18 a) (refusal 10 0) ≡ rate_answer d x room
    unfolding rate_answer holds_codelist
    eighteen-given a h = go (decoded d) refl
      where
        go : (o : Option Codelist) → decoded d ≡ o → cond (Rattle.encoding.specs.Decode.held o) (refusal 18 a) (refusal 10 0) ≡ on_codelist o x room
        go none e = refl
        go (some c) e = sym (read-ranges c ∙ ap (on_read c) (h c e))

    -- what rating gives, of numbers in 64 bits
    pub rating-given : (xs : List ℤ)
        → ((c : Codelist) → decoded d ≡ some c → (ys : List ℤ) × ((ranges_of x c.factors ≡ numbers ys) × (map clamp ys ≡ xs)))
        → answer_of (rate_of (lent_codelist d) xs) ≡ rate_answer d x room
    unfolding rate_answer lent_codelist empty rate_of ratable
    rating-given xs h = go (decoded d) refl
      where
        go : (o : Option Codelist) → decoded d ≡ o → answer_of (rate_of (Option.get_or o empty) xs) ≡ on_codelist o x room
        go none e = refl
        go (some c) e =
            let r = h c e in
            ap answer_of (ap (rate_of c) (sym r.1.1) ∙ rate-clamped c r.0)
            ∙ sym (read-ranges c ∙ ap (on_read c) r.1.0)
