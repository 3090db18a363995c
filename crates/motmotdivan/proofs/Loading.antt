-- What is promised of loading.
use Rattle.std.proofs.Common.{◌≡◌, ℕ, ◌%◌, ◌<◌, ◌≤◌, List, length, sym, refl, ap, ◌∙◌, subst, arith, lit<, lit≤, eq-eqb, ne_eqb}
use mathlib.Core.List.{Memᴰ}
use mathlib.Core.Option.{some}
use native.Mathlib.Decide.{ℕ_discrete}
use Rattle.codelist.specs.declared.Codelist.{Codelist}
use Rattle.codelist.specs.InFull.{Loaded}
use Rattle.codelist.specs.InFull.{Outcome}
use Rattle.codelist.specs.InFull.{Accepted, Refused}
use Rattle.codelist.specs.declared.Refusal as refusal
use Rattle.codelist.specs.declared.Refusal.{Refusal}
use Rattle.codelist.specs.Load.{number_of, place_of, load_numbers, accepted, load_of}
use Rattle.codelist.specs.Write.{text_of}
use Rattle.codelist.proofs.Accepted.{accepted-exactly, accepted-well-formed}
use Rattle.codelist.proofs.Years.{own-text}
use Rattle.engine.specs.declared.Refusal as engine
use Rattle.engine.specs.Engine.{empty_engine, loaded, loaded_of}
use Rattle.engine.proofs.Demands.{demands}
use Rattle.encoding.specs.Encode.{encoded}
use Rattle.encoding.specs.Decode.{decoded}
use Rattle.encoding.specs.Load.{kept_or}
use Rattle.encoding.proofs.Decoded.{decodes-exactly}
use Rattle.motmotdivan.specs.Calls.{code_of, quoted_load_numbers, loaded_code, load_code, load_state}
use Rattle.motmotdivan.specs.Quoting.{LeftByLoad, Coded}
use Rattle.motmotdivan.proofs.Places.{load-place}

-- A refusal's number has two digits
numbered : (r : Refusal) → (1 ≤ number_of r) × (number_of r < 100)
numbered refusal.TheVariants.TooLong = (lit≤ tt, lit< tt)
numbered (refusal.TheVariants.Malformed p) = (lit≤ tt, lit< tt)
numbered refusal.TheVariants.FactorCount = (lit≤ tt, lit< tt)
numbered refusal.TheVariants.UnknownYear = (lit≤ tt, lit< tt)
numbered (refusal.TheVariants.TooManyLines p) = (lit≤ tt, lit< tt)
numbered refusal.TheVariants.NoOperation = (lit≤ tt, lit< tt)
numbered (refusal.TheVariants.Reference p) = (lit≤ tt, lit< tt)
numbered (refusal.TheVariants.Exponent p) = (lit≤ tt, lit< tt)
numbered (refusal.TheVariants.Constant p) = (lit≤ tt, lit< tt)
numbered (refusal.TheVariants.ZeroMultiplier p) = (lit≤ tt, lit< tt)

pub coded : (number place : ℕ) → number < 100 → place ≤ 65 → Coded (code_of number place) number place
coded n p h f = record { number-of = omega arith; place-of = omega arith; few = f }

module _ (d s : List ℕ) where
  -- the bytes are 512, or not
  in-length : length d ≡ 512 → load_code d s ≡ loaded_code (load_of s).outcome
  unfolding load_code
  in-length l = rw (eq-eqb (length d) 512 l)

  out-of-length : ¬ (length d ≡ 512) → load_code d s ≡ code_of 10 0
  unfolding load_code
  out-of-length l = rw (ne_eqb (length d) 512 l)

  pub elsewhere : ¬ (length d ≡ 512) → Coded (load_code d s) 10 0
  elsewhere l = subst (λ (c : ℕ). Coded c 10 0) (sym (out-of-length l)) (coded 10 0 (lit< tt) (lit≤ tt))

  pub refused-code : (r : Refusal) → length d ≡ 512 → (load_of s).outcome ≡ Refused r → Coded (load_code d s) (number_of r) (place_of r)
  refused-code r l e =
      subst (λ (c : ℕ). Coded c (number_of r) (place_of r)) (sym (in-length l ∙ ap loaded_code e)) (coded (number_of r) (place_of r) (numbered r).1 (load-place s r e))

  -- 0 only where accepted
  pub zero-sound : load_code d s ≡ 0 → (length d ≡ 512) × ((load_of s).outcome ≡ Accepted)
  zero-sound e =
      elim (ℕ_discrete (length d) 512) [
        | yes l ↦ (l, go (load_of s).outcome (sym (in-length l) ∙ e))
        | no l ↦ absurd (let z = out-of-length l in omega arith)
      ]
    where
      go : (o : Outcome) → loaded_code o ≡ 0 → o ≡ Accepted
      go Accepted h = refl
      go (Refused r) h = absurd (omega (arith, (numbered r).0))

  pub zero-complete : length d ≡ 512 → (load_of s).outcome ≡ Accepted → load_code d s ≡ 0
  zero-complete l a = in-length l ∙ ap loaded_code a

  -- the numbers of the list
  number_in : (r : Refusal) → (load_of s).outcome ≡ Refused r → Memᴰ (number_of r) load_numbers
  unfolding loaded_of
  number_in r e = demands.load-numbers empty_engine s (engine.TheVariants.Load r) (ap (λ (o : Outcome). (loaded empty_engine o (load_of s).codelist).outcome) e)

  pub in_list : ¬ (load_code d s ≡ 0) → Memᴰ (load_code d s % 100) quoted_load_numbers
  in_list h =
      elim (ℕ_discrete (length d) 512) [
        | yes l ↦ go (load_of s).outcome refl l
        | no l ↦ rw (elsewhere l).number-of (Memᴰ.head refl)
      ]
    where
      go : (o : Outcome) → (load_of s).outcome ≡ o → length d ≡ 512 → Memᴰ (load_code d s % 100) quoted_load_numbers
      go Accepted e l = absurd (h (zero-complete l e))
      go (Refused r) e l = rw (refused-code r l e).number-of (Memᴰ.tail (number_in r e))

  -- a refused load keeps the bytes
  pub kept : ¬ (load_code d s ≡ 0) → load_state d s ≡ d
  unfolding load_state
  kept h = go (load_of s).outcome refl
    where
      go : (o : Outcome) → (load_of s).outcome ≡ o → kept_or d o (load_of s).codelist ≡ d
      go (Refused r) e = refl
      go Accepted e =
          elim (ℕ_discrete (length d) 512) [
            | yes l ↦ absurd (h (zero-complete l e))
            | no l ↦ rw (ne_eqb (length d) 512 l)
          ]

  -- what an accepted load leaves is the codelist as bytes
  left_is : length d ≡ 512 → (load_of s).outcome ≡ Accepted → load_state d s ≡ encoded (load_of s).codelist
  unfolding load_state
  left_is l a = rw (a, eq-eqb (length d) 512 l)

pub left-sound : (d : List ℕ) → ((c : Codelist) × (decoded d ≡ some c)) → LeftByLoad d
left-sound d (c, e) =
    let x = (decodes-exactly.where-encoded d c).0 e in
    let l : length d ≡ 512 = ap length x.1 ∙ decodes-exactly.long c x.0 in
    let t : load_of (text_of c) ≡ accepted c = (accepted-exactly.where-written (text_of c) c).1 (x.0, own-text c) in
    let a = ap (λ (y : Loaded). y.outcome) t in
    record {
      before = d;
      text = text_of c;
      long = l;
      taken = zero-complete d (text_of c) l a;
      left = x.1 ∙ ap (λ (y : Loaded). encoded y.codelist) (sym t) ∙ sym (left_is d (text_of c) l a);
    }

pub left-complete : (d : List ℕ) → LeftByLoad d → (c : Codelist) × (decoded d ≡ some c)
left-complete d x =
    let a = (zero-sound x.before x.text x.taken).1 in
    let c = (load_of x.text).codelist in
    (c, (decodes-exactly.where-encoded d c).1 (accepted-well-formed x.text a, x.left ∙ left_is x.before x.text x.long a))
