-- Loading a formula: 19, 20, or what loading its sheet gives. Assumes nothing.
use mathlib.Core.Path.{◌≡◌, refl, sym, ap, subst, ◌∙◌}
use mathlib.Core.List.{List, Memᴰ}
use mathlib.Core.Logic.{◌↔◌, ◌⊎◌, inr}
use Prim.Native.Nat.{ℕ}
use native.Mathlib.Omega.{arith}
use lib.Dec.{lit≤}
use Rattle.codelist.specs.declared.Codelist.{Codelist}
use Rattle.codelist.specs.InFull.{Loaded}
use Rattle.codelist.specs.declared.Refusal as codelist
use Rattle.codelist.specs.Load as Load
use Rattle.codelist.specs.Refused.{RefusedFor}
use Rattle.rules.specs.Exact.{Point, premium_of}
use Rattle.formulas.specs.declared.Refusal as formulas
use Rattle.formulas.specs.declared.Refusal.TheVariants.{Text, Constants}
use Rattle.formulas.specs.Grammar.{Tree, Writes}
use Rattle.formulas.specs.Viable.{Fails}
use Rattle.formulas.specs.Value.{value_of, premium_value}
use Rattle.formulas.specs.Convert.{Mixes, Bare}
use Rattle.formulas.specs.Load.{Given, given, refused, formula_of, formula_numbers}
use Rattle.formulas.specs.Load as Formula
use Rattle.formulas.specs.Exactly.{Spells, Becomes}
use Rattle.formulas.proofs.Promises.{formulas-exactly}
use Rattle.engine.specs.declared.Engine.{Engine}
use Rattle.engine.specs.declared.Refusal as refusal
use Rattle.engine.specs.declared.Refusal.{Refusal}
use Rattle.engine.specs.InFull.{Accepted, Refused, Loading}
use Rattle.engine.specs.Engine.{number_of, loaded_of, formula_loaded, formula_loaded_of}
use Rattle.engine.specs.Refusals.{RefusedWith, FormulaTable, text, constants, sheet}
use Rattle.engine.proofs.Loads as Loads
use Rattle.engine.proofs.Loads.{not-both, is-in, load-own}

-- a refusal of a formula is none of loading
apart : {A : Type 0} {q : formulas.Refusal} {r : codelist.Refusal} → Refused (refusal.TheVariants.Formula q) ≡ Refused (refusal.TheVariants.Load r) → A
apart e = let z : ◌≡◌ {A = ℕ} 0 1 = cc in absurd (omega arith)

module _ (e : Engine) (s : List ℕ) (k : ℕ) where
  pub is-loaded : (x : List ℕ) → Becomes s k x → formula_loaded_of e s k ≡ loaded_of e x
  unfolding formula_loaded_of loaded_of
  is-loaded x b = ap (formula_loaded e) ((formulas-exactly.loaded s k (Load.load_of x)).1 (x, (b, refl)))

  is-refused : (r : formulas.Refusal) → formula_of s k ≡ refused r
      → formula_loaded_of e s k ≡ record { outcome = Refused (refusal.TheVariants.Formula r); engine = e }
  unfolding formula_loaded_of
  is-refused r h = ap (formula_loaded e) h

  -- of each kind one
  data Case : Type 0 where
    by-text : (r : formulas.Refusal) → formula_of s k ≡ refused r → Case
    by-sheet : (x : List ℕ) → Becomes s k x → Case

  cases : Case
  cases = go (formula_of s k) refl
    where
      go : (g : Given Loaded) → formula_of s k ≡ g → Case
      go (given l) h = let b = (formulas-exactly.loaded s k l).0 h in by-sheet b.0 b.1.0
      go (refused r) h = by-text r h

  -- P of what loading the sheet gives, and of each refusal
  either : (P : Loading → Type 0) → ((x : List ℕ) → Becomes s k x → P (loaded_of e x))
      → ((r : formulas.Refusal) → formula_of s k ≡ refused r → P (record { outcome = Refused (refusal.TheVariants.Formula r); engine = e }))
      → P (formula_loaded_of e s k)
  either P f g = go cases
    where
      go : Case → P (formula_loaded_of e s k)
      go (by-text r h) = subst P (sym (is-refused r h)) (g r h)
      go (by-sheet x b) = subst P (sym (is-loaded x b)) (f x b)

  pub decided : ((formula_loaded_of e s k).outcome ≡ Accepted) ⊎ ((r : Refusal) × ((formula_loaded_of e s k).outcome ≡ Refused r))
  unfolding loaded_of
  decided =
      either (λ l. (l.outcome ≡ Accepted) ⊎ ((r : Refusal) × (l.outcome ≡ Refused r))) load-decided
      (λ r h. inr (refusal.TheVariants.Formula r, refl))
    where
      load-decided : (x : List ℕ) → Becomes s k x → ((loaded_of e x).outcome ≡ Accepted) ⊎ ((r : Refusal) × ((loaded_of e x).outcome ≡ Refused r))
      load-decided x b = Loads.decided e (Load.load_of x).outcome (Load.load_of x).codelist

  number : (r : formulas.Refusal) → Memᴰ (Formula.number_of r) formula_numbers
  number (Text p) = is-in 0 _ (lit≤ tt)
  number Constants = is-in 1 _ (lit≤ tt)

  pub numbers : (r : Refusal) → (formula_loaded_of e s k).outcome ≡ Refused r → Memᴰ (number_of r) formula_numbers
  unfolding loaded_of
  numbers r =
      either (λ l. l.outcome ≡ Refused r → Memᴰ (number_of r) formula_numbers) load-number
      (λ q h g. let d : refusal.TheVariants.Formula q ≡ r = cc g in rw (← d) (number q))
    where
      load-number : (x : List ℕ) → Becomes s k x → (loaded_of e x).outcome ≡ Refused r → Memᴰ (number_of r) formula_numbers
      load-number x b h = Memᴰ.tail (Memᴰ.tail (Loads.load-number e (Load.load_of x).outcome (Load.load_of x).codelist r h))

  pub kept : (r : Refusal) → (formula_loaded_of e s k).outcome ≡ Refused r → (formula_loaded_of e s k).engine ≡ e
  unfolding loaded_of
  kept r = either (λ l. l.outcome ≡ Refused r → l.engine ≡ e) load_kept (λ q h g. refl)
    where
      load_kept : (x : List ℕ) → Becomes s k x → (loaded_of e x).outcome ≡ Refused r → (loaded_of e x).engine ≡ e
      load_kept x b h = Loads.kept e (Load.load_of x).outcome (Load.load_of x).codelist r h

  -- ════ accepted ════

  abbrev LoadsSheet : Type 0
  LoadsSheet = (x : List ℕ) × (Becomes s k x × ((c : Codelist) × (Load.load_of x ≡ Load.accepted c)))

  pub accepted : ((formula_loaded_of e s k).outcome ≡ Accepted) ↔ LoadsSheet
  unfolding loaded_of
  accepted = (
    either (λ l. l.outcome ≡ Accepted → LoadsSheet) (λ x b h. (x, (b, ((Load.load_of x).codelist, Loads.whole e x h)))) (λ r h g. not-both (sym g)),
    λ (x, (b, (c, h))). ap (λ (l : Loading). l.outcome) (is-loaded x b) ∙ accepts x c h,
  )
    where
      accepts : (x : List ℕ) (c : Codelist) → Load.load_of x ≡ Load.accepted c → (loaded_of e x).outcome ≡ Accepted
      accepts x c h = rw h

  pub premium : (t : Tree) → (formula_loaded_of e s k).outcome ≡ Accepted → Writes t s → (p : Point)
      → premium_value (premium_of (formula_loaded_of e s k).engine.codelist p) ≡ value_of t p
  unfolding loaded_of
  premium t h w p =
      let (x, (b, (c, f))) = accepted.0 h in
      let g = (formulas-exactly.loaded s k (Load.accepted c)).1 (x, (b, f)) in
      ap (λ (c : Codelist). premium_value (premium_of c p)) (ap (λ (l : Loading). l.engine.codelist) (is-loaded x b) ∙ leaves x c f)
      ∙ formulas-exactly.premium s k c t g w p
    where
      leaves : (x : List ℕ) (c : Codelist) → Load.load_of x ≡ Load.accepted c → (loaded_of e x).engine.codelist ≡ c
      leaves x c h = rw h

  -- ════ refused ════

  formula-own : (r : formulas.Refusal) → ((formula_loaded_of e s k).outcome ≡ Refused (refusal.TheVariants.Formula r)) ↔ (formula_of s k ≡ refused r)
  formula-own r = (
    either (λ l. l.outcome ≡ Refused (refusal.TheVariants.Formula r) → formula_of s k ≡ refused r)
        (λ x b h. let (q, f) = load-own e x (refusal.TheVariants.Formula r) h in apart (ap Refused f))
        (λ q h g. let d : q ≡ r = cc g in h ∙ ap refused d),
    λ h. ap (λ (l : Loading). l.outcome) (is-refused r h),
  )

  pub text-refused : (p : ℕ) → ((formula_loaded_of e s k).outcome ≡ Refused (refusal.TheVariants.Formula (Text p))) ↔ Fails s p
  text-refused p =
      let i = formula-own (Text p) in
      let j = formulas-exactly.nineteen s k p in
      (λ h. j.0 (i.0 h), λ f. i.1 (j.1 f))

  pub constants-refused : ((formula_loaded_of e s k).outcome ≡ Refused (refusal.TheVariants.Formula Constants))
      ↔ ((t : Tree) × (Spells t s × (Mixes t ⊎ Bare t)))
  constants-refused =
      let i = formula-own Constants in
      let j = formulas-exactly.twenty s k in
      (λ h. j.0 (i.0 h), λ f. i.1 (j.1 f))

  pub sheet-refused : (r : codelist.Refusal)
      → ((formula_loaded_of e s k).outcome ≡ Refused (refusal.TheVariants.Load r)) ↔ ((x : List ℕ) × (Becomes s k x × RefusedFor x r))
  sheet-refused r = (
    either (λ l. l.outcome ≡ Refused (refusal.TheVariants.Load r) → (x : List ℕ) × (Becomes s k x × RefusedFor x r))
        (λ x b h. (x, (b, Loads.listed e x r h))) (λ q h g. apart g),
    λ (x, (b, h)). ap (λ (l : Loading). l.outcome) (is-loaded x b) ∙ Loads.unlisted e x r h,
  )

  -- by number and place
  pub to-table : {n p : ℕ} → RefusedWith (formula_loaded_of e s k).outcome n p → FormulaTable s k n p
  to-table {n} {p} =
      either (λ l. RefusedWith l.outcome n p → FormulaTable s k n p) (λ x b w. sheet b (Loads.to-load-table e x w)) (λ r h w. own r h w)
    where
      own : (r : formulas.Refusal) → formula_of s k ≡ refused r → RefusedWith (Refused (refusal.TheVariants.Formula r)) n p → FormulaTable s k n p
      own (Text q) h w =
          let d : refusal.TheVariants.Formula (Text q) ≡ w.refusal = cc w.refused in
          rw (← w.number, ← w.place, ← d) (text ((formulas-exactly.nineteen s k q).0 h))
      own Constants h w =
          let d : refusal.TheVariants.Formula Constants ≡ w.refusal = cc w.refused in
          let (t, (f, m)) = (formulas-exactly.twenty s k).0 h in
          rw (← w.number, ← w.place, ← d) (constants f m)

  pub from-table : {n p : ℕ} → FormulaTable s k n p → RefusedWith (formula_loaded_of e s k).outcome n p
  from-table (text {place} f) = record {
    refusal = refusal.TheVariants.Formula (Text place);
    refused = (text-refused place).1 f;
    number = refl;
    place = refl;
  }
  from-table (constants {t} f m) = record {
    refusal = refusal.TheVariants.Formula Constants;
    refused = constants-refused.1 (t, (f, m));
    number = refl;
    place = refl;
  }
  from-table (sheet {x} b w) = rw (is-loaded x b) (Loads.from-load-table e x w)
