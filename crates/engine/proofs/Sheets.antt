-- What `load_formula` finds in its buffer: loading the sheet there gives what loading the formula gives.
use mathlib.Core.Path.{◌≡◌, refl, sym, ap, ◌∙◌}
use mathlib.Core.List.{List}
use Prim.Native.Nat.{ℕ, ◌≤◌}
use lib.ListN.{length, take, replicate}
use lib.Seq.{length-take-le}
use Rattle.codelist.specs.InFull.{Loaded}
use Rattle.formulas.specs.declared.Refusal.{Refusal}
use Rattle.formulas.specs.InFull.{Sheet, Refused}
use Rattle.formulas.specs.Load.{given, sheet_for, converted_of, buffer_of}
use Rattle.formulas.proofs.Sheets.{Front, called-sheet, called-refusal, front-loads, loaded-given, loaded-refused}
use Rattle.engine.specs.declared.Engine.{Engine}
use Rattle.engine.specs.declared.Refusal.TheVariants.{Formula}
use Rattle.engine.specs.InFull as full
use Rattle.engine.specs.Engine.{loaded, loaded_of, formula_loaded, formula_loaded_of}

module _ (e : Engine) (s : List ℕ) (k : ℕ) (bytes : List ℕ) (after : bytes ≡ buffer_of s k (replicate 4097 0)) where
  module _ (len : ℕ) (value : Sheet len ≡ converted_of s k) where
    found : (x : List ℕ) × (sheet_for s k ≡ given x) × Front bytes len x
    found = called-sheet s k bytes after (Sheet len) value len refl

    pub inside : len ≤ length bytes
    inside = found.2.inside

    pub taken : length (take len bytes) ≡ len
    taken = length-take-le len bytes inside

    pub loads : formula_loaded_of e s k ≡ loaded_of e (take len bytes)
    unfolding loaded_of formula_loaded_of
    loads =
        ap (formula_loaded e) (loaded-given s k found.0 found.1)
        ∙ ap (λ (y : Loaded). loaded e y.outcome y.codelist) (sym (front-loads bytes len found.0 found.2))

  pub refuses : (why : Refusal) → Refused why ≡ converted_of s k → formula_loaded_of e s k ≡ record { outcome = full.Refused (Formula why); engine = e }
  unfolding formula_loaded_of
  refuses why value = ap (formula_loaded e) (loaded-refused s k why (called-refusal s k bytes after (Refused why) value why refl))
