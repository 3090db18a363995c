-- Loading: what the engine makes of a text's outcome, and 01's table of its refusals. Assumes nothing.
use mathlib.Core.Path.{◌≡◌, refl, sym, ap, ap₂, ◌∙◌}
use mathlib.Core.List.{List, [], ◌∷◌, Memᴰ}
use mathlib.Core.Logic.{◌⊎◌, inl, inr}
use Prim.Native.Nat.{ℕ, zero, suc, ◌<◌}
use native.Mathlib.Omega.{arith}
use lib.Dec.{lit≤}
use lib.ListN.{length, get_or}
use Rattle.codelist.specs.InFull as loading
use Rattle.codelist.specs.declared.Refusal as codelist
use Rattle.codelist.specs.declared.Codelist.{Codelist}
use Rattle.codelist.specs.InFull.{Loaded}
use Rattle.codelist.specs.Codelist.{WellFormed}
use Rattle.codelist.specs.Load as Load
use Rattle.codelist.specs.Refused.{RefusedFor}
use Rattle.codelist.specs.Write.{IsText}
use Rattle.codelist.proofs.Accepted.{accepted-exactly, refused-empty}
use Rattle.codelist.proofs.Refused.{refused-exactly}
use Rattle.engine.specs.declared.Engine.{Engine}
use Rattle.engine.specs.declared.Refusal as refusal
use Rattle.engine.specs.declared.Refusal.{Refusal}
use Rattle.engine.specs.InFull.{Accepted, Refused}
use Rattle.engine.specs.Engine.{number_of, loaded, loaded_of}
use Rattle.engine.specs.Refusals.{RefusedWith, LoadTable, bytes, form, factors, year, lines, no-operation, reference, exponent, constant, multiplier}

-- an accepted outcome is no refusal
pub not-both : {A : Type 0} {r : Refusal} → Accepted ≡ Refused r → A
not-both e = let z : ◌≡◌ {A = ℕ} 0 1 = cc in let f : ⊥ = omega arith in absurd f

-- the entry i of a list is in it
pub is-in : (i : ℕ) (xs : List ℕ) → i < length xs → Memᴰ (get_or xs i 0) xs
is-in i [] l = absurd (omega arith)
is-in zero (x ∷ xs) l = Memᴰ.head refl
is-in (suc i) (x ∷ xs) l = Memᴰ.tail (is-in i xs (omega arith))

module _ (e : Engine) where
  pub decided : (o : loading.Outcome) (c : Codelist) → ((loaded e o c).outcome ≡ Accepted) ⊎ ((r : Refusal) × ((loaded e o c).outcome ≡ Refused r))
  decided loading.Accepted c = inl refl
  decided (loading.Refused r) c = inr (refusal.TheVariants.Load r, refl)

  pub kept : (o : loading.Outcome) (c : Codelist) (r : Refusal) → (loaded e o c).outcome ≡ Refused r → (loaded e o c).engine ≡ e
  kept loading.Accepted c r h = not-both h
  kept (loading.Refused q) c r h = refl

  number : (q : codelist.Refusal) → Memᴰ (Load.number_of q) Load.load_numbers
  number codelist.TheVariants.TooLong = is-in 0 _ (lit≤ tt)
  number (codelist.TheVariants.Malformed p) = is-in 1 _ (lit≤ tt)
  number codelist.TheVariants.FactorCount = is-in 2 _ (lit≤ tt)
  number codelist.TheVariants.UnknownYear = is-in 3 _ (lit≤ tt)
  number (codelist.TheVariants.TooManyLines p) = is-in 4 _ (lit≤ tt)
  number codelist.TheVariants.NoOperation = is-in 4 _ (lit≤ tt)
  number (codelist.TheVariants.Reference p) = is-in 5 _ (lit≤ tt)
  number (codelist.TheVariants.Exponent p) = is-in 6 _ (lit≤ tt)
  number (codelist.TheVariants.Constant p) = is-in 7 _ (lit≤ tt)
  number (codelist.TheVariants.ZeroMultiplier p) = is-in 8 _ (lit≤ tt)

  -- what the outcome says of the codelist's own
  was-accepted : (o : loading.Outcome) (c : Codelist) → (loaded e o c).outcome ≡ Accepted → o ≡ loading.Accepted
  was-accepted loading.Accepted c h = refl
  was-accepted (loading.Refused r) c h = not-both (sym h)

  was-refused : (o : loading.Outcome) (c : Codelist) (r : codelist.Refusal)
      → (loaded e o c).outcome ≡ Refused (refusal.TheVariants.Load r) → o ≡ loading.Refused r
  was-refused loading.Accepted c r h = not-both h
  was-refused (loading.Refused q) c r h = cc

  pub load-number : (o : loading.Outcome) (c : Codelist) (r : Refusal) → (loaded e o c).outcome ≡ Refused r → Memᴰ (number_of r) Load.load_numbers
  load-number loading.Accepted c r h = not-both h
  load-number (loading.Refused q) c r h =
      let k : refusal.TheVariants.Load q ≡ r = cc in rw (← k) (number q)

  module _ (s : List ℕ) where
    -- an accepted load, and the codelist that it leaves
    pub whole : (loaded_of e s).outcome ≡ Accepted → Load.load_of s ≡ Load.accepted (Load.load_of s).codelist
    unfolding loaded_of
    whole h = ap (λ (o : loading.Outcome). record { outcome = o; codelist = (Load.load_of s).codelist }) (was-accepted (Load.load_of s).outcome (Load.load_of s).codelist h)

    pub left : (loaded_of e s).outcome ≡ Accepted → (Load.load_of s).codelist ≡ (loaded_of e s).engine.codelist
    unfolding loaded_of
    left h = sym (ap (λ (o : loading.Outcome). (loaded e o (Load.load_of s).codelist).engine.codelist) (was-accepted (Load.load_of s).outcome (Load.load_of s).codelist h))

    pub written : (loaded_of e s).outcome ≡ Accepted → WellFormed (loaded_of e s).engine.codelist × IsText (loaded_of e s).engine.codelist s
    written h = rw (← (left h)) ((accepted-exactly.where-written s (Load.load_of s).codelist).0 (whole h))

    pub back : (c : Codelist) → WellFormed c × IsText c s → (loaded_of e s).outcome ≡ Accepted
    unfolding loaded_of
    back c w = let h = (accepted-exactly.where-written s c).1 w in ap (λ (l : Loaded). (loaded e l.outcome l.codelist).outcome) h

    pub listed : (r : codelist.Refusal) → (loaded_of e s).outcome ≡ Refused (refusal.TheVariants.Load r) → RefusedFor s r
    unfolding loaded_of
    listed r h =
        let o = was-refused (Load.load_of s).outcome (Load.load_of s).codelist r h in
        (refused-exactly.where-listed s r).0
        (ap₂ (λ (o : loading.Outcome) (c : Codelist). record { outcome = o; codelist = c }) o (refused-empty s r o))

    pub unlisted : (r : codelist.Refusal) → RefusedFor s r → (loaded_of e s).outcome ≡ Refused (refusal.TheVariants.Load r)
    unfolding loaded_of
    unlisted r w = let h = (refused-exactly.where-listed s r).1 w in ap (λ (l : Loaded). (loaded e l.outcome l.codelist).outcome) h

-- ---- 01's table by number and place
-- from the table of enums to that of numbers
load_row : (s : List ℕ) (r : codelist.Refusal) → RefusedFor s r → LoadTable s (Load.number_of r) (Load.place_of r)
load_row s codelist.TheVariants.TooLong h = bytes h
load_row s (codelist.TheVariants.Malformed p) h = form h
load_row s codelist.TheVariants.FactorCount h = factors h
load_row s codelist.TheVariants.UnknownYear h = year h
load_row s (codelist.TheVariants.TooManyLines p) h = lines h
load_row s codelist.TheVariants.NoOperation h = no-operation h
load_row s (codelist.TheVariants.Reference p) h = reference h
load_row s (codelist.TheVariants.Exponent p) h = exponent h
load_row s (codelist.TheVariants.Constant p) h = constant h
load_row s (codelist.TheVariants.ZeroMultiplier p) h = multiplier h

module _ (e : Engine) (s : List ℕ) where
  load-refused : (r : codelist.Refusal) → RefusedFor s r → RefusedWith (loaded_of e s).outcome (Load.number_of r) (Load.place_of r)
  load-refused r w = record { refusal = refusal.TheVariants.Load r; refused = unlisted e s r w; number = refl; place = refl }

  pub from-load-table : {k p : ℕ} → LoadTable s k p → RefusedWith (loaded_of e s).outcome k p
  from-load-table (bytes h) = load-refused codelist.TheVariants.TooLong h
  from-load-table (form {line} h) = load-refused (codelist.TheVariants.Malformed line) h
  from-load-table (factors h) = load-refused codelist.TheVariants.FactorCount h
  from-load-table (year h) = load-refused codelist.TheVariants.UnknownYear h
  from-load-table (lines {line} h) = load-refused (codelist.TheVariants.TooManyLines line) h
  from-load-table (no-operation h) = load-refused codelist.TheVariants.NoOperation h
  from-load-table (reference {line} h) = load-refused (codelist.TheVariants.Reference line) h
  from-load-table (exponent {line} h) = load-refused (codelist.TheVariants.Exponent line) h
  from-load-table (constant {line} h) = load-refused (codelist.TheVariants.Constant line) h
  from-load-table (multiplier {line} h) = load-refused (codelist.TheVariants.ZeroMultiplier line) h

  -- loading refuses with a refusal of its own
  pub load-own : (r : Refusal) → (loaded_of e s).outcome ≡ Refused r → (q : codelist.Refusal) × (r ≡ refusal.TheVariants.Load q)
  unfolding loaded_of
  load-own r h = go (Load.load_of s).outcome h
    where
      go : (o : loading.Outcome) → (loaded e o (Load.load_of s).codelist).outcome ≡ Refused r → (q : codelist.Refusal) × (r ≡ refusal.TheVariants.Load q)
      go loading.Accepted h = not-both h
      go (loading.Refused q) h = (q, cc)

  pub to-load-table : {k p : ℕ} → RefusedWith (loaded_of e s).outcome k p → LoadTable s k p
  to-load-table w =
      let own = load-own w.refusal w.refused in
      let q = own.0 in
      let t = load_row s q (listed e s q (w.refused ∙ ap Refused own.1)) in
      rw (← w.number, ← w.place, own.1) t
