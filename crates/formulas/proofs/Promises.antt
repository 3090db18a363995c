-- What specs/Exactly.antt promises of formulas, from what was proved of reading them, of their lines and of loading these.
use Prim.Native.Nat.{ℕ, ◌≤◌}
use mathlib.Core.List.{List, [], ◌∷◌}
use mathlib.Core.Logic.{◌↔◌, ◌⊎◌, inl, inr}
use mathlib.Core.Option.{Option, none, some}
use mathlib.Core.Path.{◌≡◌, refl, sym, ap, subst, ◌∙◌}
use native.Mathlib.Omega.{arith}
use lib.ListN.{length}
use Rattle.codelist.specs.declared.Codelist.{Codelist}
use Rattle.codelist.specs.declared.Entry.{Entry}
use Rattle.codelist.specs.InFull.{Loaded}
use Rattle.codelist.specs.declared.Refusal as codelist
use Rattle.codelist.specs.declared.Year.TheVariants.{Y2016}
use Rattle.codelist.specs.Load as load
use Rattle.codelist.specs.Text.{TextLine}
use Rattle.codelist.proofs.Accepted as Accepted
use Rattle.rules.specs.Exact.{Point, premium_of}
use Rattle.formulas.specs.declared.Refusal.TheVariants.{Text, Constants}
use Rattle.formulas.specs.Grammar.{Tree, Writes}
use Rattle.formulas.specs.Viable.{Fails}
use Rattle.formulas.specs.Value.{value_of, premium_value}
use Rattle.formulas.specs.Convert.{Operand, Conversion, operand, mixed, convert, count_of, sheet_text, sheet_from, sheet_of, Mixes, Bare}
use Rattle.formulas.specs.Read.{Parsed, tree, fault, parse}
use Rattle.formulas.specs.Load.{Given, given, refused, from_sheet, from_parsed, sheet_for, loaded_sheet, formula_of}
use Rattle.formulas.specs.Exactly.{Spells, Becomes, FormulasExactly}
use Rattle.formulas.proofs.Exactly.{found-where-spelled, one-tree, fails-where-stuck}
use Rattle.formulas.proofs.Numbers.{count_small}
use Rattle.formulas.proofs.Loading.{ops_of, Made, kept, turned_down, neither, sheet-made, well-formed}
use Rattle.formulas.proofs.Mixing.{no-sheet}
use Rattle.formulas.proofs.Spelled.{spelled}
use Rattle.formulas.proofs.Worth.{sheet-worth}

-- what follows where two constructors are equal
apart : {X : Type 0} → ◌≡◌ {A = ℕ} 0 1 → X
apart e = absurd (omega arith)

-- ════ a text is a formula or fails at a place ════

either : (s : List ℕ) → ((t : Tree) × Spells t s) ⊎ ((p : ℕ) × Fails s p)
either s = go (parse s) refl
  where
    go : (r : Parsed) → parse s ≡ r → ((t : Tree) × Spells t s) ⊎ ((p : ℕ) × Fails s p)
    go (tree t) e = inl (t, (found-where-spelled s t).0 e)
    go (fault p) e = inr (p, (fails-where-stuck s p).0 e)

one_place : (s : List ℕ) (p q : ℕ) → Fails s p → Fails s q → p ≡ q
one_place s p q f g = cc ((fails-where-stuck s p).1 f, (fails-where-stuck s q).1 g)

not-both : (s : List ℕ) (t : Tree) (p : ℕ) → Spells t s → Fails s p → ⊥
not-both s t p w f = apart (cc ((found-where-spelled s t).1 w, (fails-where-stuck s p).1 f))

-- ════ what a text and a count give ════

-- of each kind one thing
data Outcome (s : List ℕ) (k : ℕ) : Given Loaded → Type 0 where
  of-text : (p : ℕ) → Fails s p → Outcome s k (refused (Text p))
  of-constants : (t : Tree) → Spells t s → Mixes t ⊎ Bare t → Outcome s k (refused Constants)
  of-sheet : (x : List ℕ) → Becomes s k x → Outcome s k (given (load.load_of x))

becomes : (s : List ℕ) (k : ℕ) (x : List ℕ) (t : Tree) → Spells t s → sheet_of k t ≡ some x → Becomes s k x
becomes s k x t w e = record {
  formula = t;
  spells = w;
  converts = record { unmixed = λ m. never (inl m); operation = λ b. never (inr b) };
  sheet = e;
}
  where
    never : Mixes t ⊎ Bare t → ⊥
    never m = apart (cc ((no-sheet k t).1 m))

outcome : (s : List ℕ) (k : ℕ) → Outcome s k (formula_of s k)
unfolding formula_of sheet_for
outcome s k = go (parse s) refl
  where
    by-sheet : (t : Tree) → Spells t s → (o : Option (List ℕ)) → sheet_of k t ≡ o → Outcome s k (loaded_sheet (from_sheet o))
    by-sheet t w none e = of-constants t w ((no-sheet k t).0 e)
    by-sheet t w (some x) e = of-sheet x (becomes s k x t w e)

    go : (r : Parsed) → parse s ≡ r → Outcome s k (loaded_sheet (from_parsed k r))
    go (fault p) e = of-text p ((fails-where-stuck s p).0 e)
    go (tree t) e = by-sheet t ((found-where-spelled s t).0 e) (sheet_of k t) refl

module _ (s : List ℕ) (k : ℕ) where
  nineteen : (p : ℕ) → (formula_of s k ≡ refused (Text p)) ↔ Fails s p
  unfolding formula_of sheet_for
  nineteen p = (go (formula_of s k) (outcome s k), λ f. rw ((fails-where-stuck s p).1 f))
    where
      go : (r : Given Loaded) → Outcome s k r → r ≡ refused (Text p) → Fails s p
      go _ (of-text q f) e = let d : q ≡ p = cc e in subst (Fails s) d f
      go _ (of-constants t w m) e = apart (cc e)
      go _ (of-sheet x b) e = apart (cc e)

  twenty : (formula_of s k ≡ refused Constants) ↔ ((t : Tree) × (Spells t s × (Mixes t ⊎ Bare t)))
  unfolding formula_of sheet_for
  twenty = (go (formula_of s k) (outcome s k), λ (t, (w, m)). rw ((found-where-spelled s t).1 w, (no-sheet k t).1 m))
    where
      go : (r : Given Loaded) → Outcome s k r → r ≡ refused Constants → (t : Tree) × (Spells t s × (Mixes t ⊎ Bare t))
      go _ (of-text p f) e = apart (cc e)
      go _ (of-constants t w m) e = (t, (w, m))
      go _ (of-sheet x b) e = apart (cc e)

  loaded : (l : Loaded) → (formula_of s k ≡ given l) ↔ ((x : List ℕ) × (Becomes s k x × (load.load_of x ≡ l)))
  unfolding formula_of sheet_for
  loaded l = (
    go (formula_of s k) (outcome s k),
    λ (x, (b, e)). rw ((found-where-spelled s b.formula).1 b.spells, b.sheet, e),
  )
    where
      go : (r : Given Loaded) → Outcome s k r → r ≡ given l → (x : List ℕ) × (Becomes s k x × (load.load_of x ≡ l))
      go _ (of-text p f) e = apart (cc e)
      go _ (of-constants t w m) e = apart (cc e)
      go _ (of-sheet x b) e = (x, (b, cc))

-- ════ the lines of a sheet ════

record SheetLines (k : ℕ) (t : Tree) (x : List ℕ) : Type 0 where
  result : Operand
  lines : List TextLine
  converted : convert (count_of k) t [] ≡ operand result lines
  some-line : 1 ≤ length lines
  text : x ≡ sheet_text (count_of k) lines

lines_of : (k : ℕ) (t : Tree) (x : List ℕ) → sheet_of k t ≡ some x → SheetLines k t x
unfolding sheet_of
lines_of k t x e = go (convert (count_of k) t []) refl e
  where
    go : (c : Conversion) → convert (count_of k) t [] ≡ c → sheet_from (count_of k) c ≡ some x → SheetLines k t x
    go mixed d f = apart (cc f)
    go (operand z []) d f = apart (cc f)
    go (operand z (l ∷ ls)) d f = record { result = z; lines = l ∷ ls; converted = d; some-line = omega arith; text = cc f }

-- what loading makes of them
made_of : (s : List ℕ) (k : ℕ) (x : List ℕ) (b : Becomes s k x) (g : SheetLines k b.formula x)
    → Made (count_of k) (ops_of g.lines) (load.load_of x)
made_of s k x b g =
    rw g.text
    (sheet-made (count_of k) g.lines (omega (arith, count_small k)) (spelled s k b.formula g.result g.lines b.spells g.converted))

well-spelled : (s : List ℕ) (k : ℕ) (r : codelist.Refusal) → formula_of s k ≡ given (load.refused r)
    → ¬ (load.number_of r ≡ 2) × ¬ (load.number_of r ≡ 17)
well-spelled s k r e =
    let (x, (b, f)) = (loaded s k (load.refused r)).0 e in
    go (load.load_of x) (made_of s k x b (lines_of k b.formula x b.sheet)) f
  where
    go : {n : ℕ} {ops : List Entry} (l : Loaded) → Made n ops l → l ≡ load.refused r → ¬ (load.number_of r ≡ 2) × ¬ (load.number_of r ≡ 17)
    go _ kept f = Accepted.not-both _ r f
    go _ (turned_down q o) f = let d : q ≡ r = cc (ap (λ (l : Loaded). l.outcome) f) in rw d at (neither q o)

premium : (s : List ℕ) (k : ℕ) (c : Codelist) (t : Tree) → formula_of s k ≡ given (load.accepted c) → Writes t s → (p : Point)
    → premium_value (premium_of c p) ≡ value_of t p
premium s k c t e w p =
    let (x, (b, f)) = (loaded s k (load.accepted c)).0 e in
    let g = lines_of k b.formula x b.sheet in
    go x b.formula g (load.load_of x) (made_of s k x b g) refl f ∙ ap (λ (u : Tree). value_of u p) (one-tree s b.formula t b.spells.writes w)
  where
    go : (x : List ℕ) (u : Tree) (g : SheetLines k u x) (l : Loaded) → Made (count_of k) (ops_of g.lines) l → load.load_of x ≡ l → l ≡ load.accepted c
        → premium_value (premium_of c p) ≡ value_of u p
    go x u g _ kept d f =
        ap (λ (m : Loaded). premium_value (premium_of m.codelist p)) (sym f)
        ∙ sheet-worth p Y2016 (count_of k) u g.result g.lines g.converted g.some-line (well-formed x (count_of k) (ops_of g.lines) d)
    go x u g _ (turned_down r o) d f = Accepted.not-both c r (sym f)

pub formulas-exactly : FormulasExactly
formulas-exactly = record {
  written = found-where-spelled;
  one-tree = one-tree;
  failed = fails-where-stuck;
  one_place = one_place;
  either = either;
  not-both = not-both;
  mixed = no-sheet;
  spelled = spelled;
  well-spelled = well-spelled;
  nineteen = nineteen;
  twenty = twenty;
  loaded = loaded;
  premium = premium;
}
