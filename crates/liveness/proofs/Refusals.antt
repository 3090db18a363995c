-- The refusals of a call: by number and place exactly those of the table, and the bytes of the buffer as they were. Assumes nothing.
use Prim.Native.Nat.{ℕ, ◌≤◌, ◌<◌}
use mathlib.Core.List.{List, [], ◌∷◌, ◌++◌, Memᴰ}
use mathlib.Core.Logic.{◌↔◌}
use mathlib.Core.Path.{◌≡◌, refl, sym, ap, ◌∙◌}
use native.Mathlib.Omega.{arith}
use lib.ListN.{length}
use Rattle.codelist.specs.declared.Codelist.{Codelist}
use Rattle.codelist.specs.InFull.{Loaded}
use Rattle.codelist.specs.InFull as loading
use Rattle.codelist.specs.declared.Refusal as codelist
use Rattle.codelist.specs.Load as Load
use Rattle.codelist.specs.Write.{text_of}
use Rattle.engine.specs.InFull as engine
use Rattle.engine.specs.declared.Refusal as call
use Rattle.engine.specs.Engine.{empty_engine, loaded, loaded_of}
use Rattle.engine.specs.Refusals as Engine
use Rattle.engine.proofs.Demands.{demands}
use Rattle.liveness.specs.InFull.{Outcome, Refused}
use Rattle.liveness.specs.declared.Refusal as refusal
use Rattle.liveness.specs.declared.Refusal.{Refusal}
use Rattle.liveness.specs.declared.Refusal.TheVariants.{Short}
use Rattle.liveness.specs.Tidied.{tidied}
use Rattle.liveness.specs.Tidy.{number_of, place_of, tidy_numbers, buffer_after, tidy_of, buffer_of}
use Rattle.liveness.specs.Refusals.{RefusedWith, TidyTable}
use Rattle.liveness.specs.Refusals as Table
use Rattle.liveness.proofs.Lengths.{no_longer, at_most}
use Rattle.liveness.proofs.Calls.{Answer, written, short, not-loaded, answer}

-- ---- loading, as the engine's call has it
module _ (s : List ℕ) where
  abbrev call-outcome : engine.Outcome
  call-outcome = (loaded_of empty_engine s).outcome

  load-accepted : (c : Codelist) → Load.load_of s ≡ Load.accepted c → call-outcome ≡ engine.Accepted
  unfolding loaded_of
  load-accepted c l = ap (λ (x : Loaded). (loaded empty_engine x.outcome x.codelist).outcome) l

  load-refused : (r : codelist.Refusal) → (Load.load_of s).outcome ≡ loading.Refused r
      → call-outcome ≡ engine.Refused (call.TheVariants.Load r)
  unfolding loaded_of
  load-refused r e = ap (λ (o : loading.Outcome). (loaded empty_engine o (Load.load_of s).codelist).outcome) e

-- ---- the table
module _ (s : List ℕ) (k : ℕ) where
  row : (o : Outcome) → Answer s k o → (r : Refusal) → o ≡ Refused r → TidyTable s k (number_of r) (place_of r)
  row o (written c l f) r h = let z : ◌≡◌ {A = ℕ} 0 1 = cc in absurd (omega arith)
  row o (short c l f) r h = let e : Short ≡ r = cc in rw (← e) (Table.short l f)
  row o (not-loaded q l) r h =
      let e : refusal.TheVariants.Load q ≡ r = cc in
      rw (← e) (Table.loading ((demands.load-table empty_engine s (Load.number_of q) (Load.place_of q)).0
      (record { refusal = call.TheVariants.Load q; refused = load-refused s q l; number = refl; place = refl })))

  to-table : {number place : ℕ} → RefusedWith (tidy_of s k) number place → TidyTable s k number place
  to-table w = rw (← w.number_is, ← w.place_is) (row (tidy_of s k) (answer s k) w.refusal w.refused)

  -- where loading refuses, the call does with the same
  refused_as : {number place : ℕ} (o : Outcome) → Answer s k o → Engine.RefusedWith (call-outcome s) number place → RefusedWith o number place
  refused_as o (written c l f) w = let e = sym (load-accepted s c l) ∙ w.refused in let z : ◌≡◌ {A = ℕ} 0 1 = cc in absurd (omega arith)
  refused_as o (short c l f) w = let e = sym (load-accepted s c l) ∙ w.refused in let z : ◌≡◌ {A = ℕ} 0 1 = cc in absurd (omega arith)
  refused_as o (not-loaded q l) w =
      let e = sym (load-refused s q l) ∙ w.refused in
      let same : call.TheVariants.Load q ≡ w.refusal = cc in
      record { refusal = refusal.TheVariants.Load q; refused = refl; number_is = rw (← same) at w.number; place_is = rw (← same) at w.place }

  too_short : (c : Codelist) → Load.load_of s ≡ Load.accepted c → k < length (text_of (tidied c)) → (o : Outcome) → Answer s k o → o ≡ Refused Short
  too_short c l f o (written d m g) =
      let e : c ≡ d = ap (λ (x : Loaded). x.codelist) (sym l ∙ m) in
      absurd (omega (arith, ap (λ (x : Codelist). length (text_of (tidied x))) e))
  too_short c l f o (short d m g) = refl
  too_short c l f o (not-loaded r e) = let z : ◌≡◌ {A = ℕ} 0 1 = cc (sym (ap (λ (x : Loaded). x.outcome) l) ∙ e) in absurd (omega arith)

  from-table : {number place : ℕ} → TidyTable s k number place → RefusedWith (tidy_of s k) number place
  from-table (Table.loading {number} {place} t) = refused_as (tidy_of s k) (answer s k) ((demands.load-table empty_engine s number place).1 t)
  from-table (Table.short {c} l f) =
      record { refusal = Short; refused = too_short c l f (tidy_of s k) (answer s k); number_is = refl; place_is = refl }

  pub table : (number place : ℕ) → RefusedWith (tidy_of s k) number place ↔ TidyTable s k number place
  table number place = (to-table, from-table)

-- ---- the numbers
in-first : (n : ℕ) (xs ys : List ℕ) → Memᴰ n xs → Memᴰ n (xs ++ ys)
in-first n [] ys m = elim m [ ]
in-first n (x ∷ xs) ys (Memᴰ.head e) = Memᴰ.head e
in-first n (x ∷ xs) ys (Memᴰ.tail m) = Memᴰ.tail (in-first n xs ys m)

in-second : (n : ℕ) (xs : List ℕ) → Memᴰ n (xs ++ (n ∷ []))
in-second n [] = Memᴰ.head refl
in-second n (x ∷ xs) = Memᴰ.tail (in-second n xs)

pub numbers : (s : List ℕ) (k : ℕ) (r : Refusal) → tidy_of s k ≡ Refused r → Memᴰ (number_of r) tidy_numbers
numbers s k r h = go (tidy_of s k) (answer s k) h
  where
    go : (o : Outcome) → Answer s k o → o ≡ Refused r → Memᴰ (number_of r) tidy_numbers
    go o (written c l f) h = let z : ◌≡◌ {A = ℕ} 0 1 = cc in absurd (omega arith)
    go o (short c l f) h = let e : Short ≡ r = cc in rw (← e) (in-second 13 Load.load_numbers)
    go o (not-loaded q l) h =
        let e : refusal.TheVariants.Load q ≡ r = cc in
        rw (← e) (in-first (Load.number_of q) Load.load_numbers (13 ∷ []) (demands.load-numbers empty_engine s (call.TheVariants.Load q) (load-refused s q l)))

-- ---- the buffer
-- 13 is given of an accepted sheet alone, and only where the buffer is shorter than the sheet
short-only : (s : List ℕ) (k : ℕ) → ((c : Codelist) → Load.load_of s ≡ Load.accepted c → length s ≤ k) → ¬ (tidy_of s k ≡ Refused Short)
short-only s k room h = go (tidy_of s k) (answer s k) h
  where
    go : (o : Outcome) → Answer s k o → o ≡ Refused Short → ⊥
    go o (written c l f) h = let z : ◌≡◌ {A = ℕ} 0 1 = cc in omega arith
    go o (short c l f) h = omega (arith, no_longer s c l, room c l)
    go o (not-loaded r l) h = let z : ◌≡◌ {A = ℕ} 0 1 = cc in omega arith

pub never-short : (s : List ℕ) (k : ℕ) → length s ≤ k → ¬ (tidy_of s k ≡ Refused Short)
never-short s k room = short-only s k (λ c l. room)

pub never-13 : (s : List ℕ) → ¬ (tidy_of s 4096 ≡ Refused Short)
never-13 s = short-only s 4096 (λ c l. omega (arith, at_most s c l))

pub untouched : (s b : List ℕ) (r : Refusal) → tidy_of s (length b) ≡ Refused r → buffer_of s b ≡ b
unfolding buffer_of
untouched s b r h = ap (λ (o : Outcome). buffer_after o (text_of (tidied (Load.load_of s).codelist)) b) h
