-- What is promised of formulas: proved in proofs/Promises.antt. Grammar says which texts are formulas, Viable where any other goes wrong, Convert what
-- they become and Value what they are worth; the readers (Read) and loading (Load) are held to these here.
use Rattle.std.specs.Prelude.{ℕ, ◌≤◌, List, [], ◌∷◌, ◌↔◌, ◌⊎◌, ◌≡◌, length}
use Rattle.std.proofs.Math.Option.{none, some}
use Rattle.codelist.specs.declared.Codelist.{Codelist}
use Rattle.codelist.specs.InFull.{Loaded}
use Rattle.codelist.specs.declared.Refusal as codelist
use Rattle.codelist.specs.Load as load
use Rattle.codelist.specs.Text.{TextLine, HasNumerals}
use Rattle.rules.specs.Exact.{Point, premium_of}
use Rattle.formulas.specs.declared.Refusal.TheVariants.{Text, Constants}
use Rattle.formulas.specs.Grammar.{Tree, Writes, longest}
use Rattle.formulas.specs.Viable.{Fails}
use Rattle.formulas.specs.Value.{value_of, premium_value}
use Rattle.formulas.specs.Convert.{Operand, operand, count_of, convert, sheet_of, Mixes, Bare}
use Rattle.formulas.specs.Read.{tree, fault, parse}
use Rattle.formulas.specs.Load.{given, refused, formula_of}

-- The text s is THE FORMULA t: "Convert such text, at most 1,024 bytes and with no spaces"
pub record Spells (t : Tree) (s : List ℕ) : Type 0 where
  pub short : length s ≤ longest
  pub writes : Writes t s

-- Its conversion meets no refusal: 20 is due neither by constants nor for want of an operation
pub record Converts (t : Tree) : Type 0 where
  pub unmixed : ¬ (Mixes t)
  pub operation : ¬ (Bare t)

-- The text s, with the count k, BECOMES THE SHEET x
pub record Becomes (s : List ℕ) (k : ℕ) (x : List ℕ) : Type 0 where
  pub formula : Tree
  pub spells : Spells formula s
  pub converts : Converts formula
  pub sheet : sheet_of k formula ≡ some x

-- Each number field of each line is a numeral (01)
abbrev pub AllNumerals : List TextLine → Type 0
AllNumerals [] = Unit
AllNumerals (l ∷ ls) = HasNumerals l × AllNumerals ls

pub record FormulasExactly : Type 0 where
  -- "the accepted texts are those of these rules only": a tree is found exactly where it writes the text and the text is not too long
  pub written : (s : List ℕ) (t : Tree) → (parse s ≡ tree t) ↔ Spells t s
  -- so no text has two trees
  pub one-tree : (s : List ℕ) (t u : Tree) → Writes t s → Writes u s → t ≡ u
  -- "Text outside the rules gets 19": exactly there, and at the place that the grammar says
  pub failed : (s : List ℕ) (p : ℕ) → (parse s ≡ fault p) ↔ Fails s p
  -- so it has one place
  pub one_place : (s : List ℕ) (p q : ℕ) → Fails s p → Fails s q → p ≡ q
  -- and every text is one or the other, and none is both
  pub either : (s : List ℕ) → ((t : Tree) × Spells t s) ⊎ ((p : ℕ) × Fails s p)
  pub not-both : (s : List ℕ) (t : Tree) (p : ℕ) → Spells t s → Fails s p → ⊥
  -- "Two constants meeting, a constant divisor, a powered constant, or a whole text with no operation gets 20": there is no sheet exactly there,
  -- whatever the count
  pub mixed : (k : ℕ) (t : Tree) → (sheet_of k t ≡ none) ↔ (Mixes t ⊎ Bare t)
  -- every number of a line that a formula becomes is a numeral of at most ten digits, so that its lines are of 01's form
  pub spelled : (s : List ℕ) (k : ℕ) (t : Tree) (x : Operand) (ls : List TextLine) → Spells t s → convert (count_of k) t [] ≡ operand x ls
      → AllNumerals ls
  -- and loading its sheet never gives 2 or 17
  pub well-spelled : (s : List ℕ) (k : ℕ) (r : codelist.Refusal) → formula_of s k ≡ given (load.refused r)
      → ¬ (load.number_of r ≡ 2) × ¬ (load.number_of r ≡ 17)
  -- 19 is given exactly where, and at the place that, the grammar says; 20 exactly where its condition holds of a formula; and else the sheet that
  -- the text becomes is loaded
  pub nineteen : (s : List ℕ) (k p : ℕ) → (formula_of s k ≡ refused (Text p)) ↔ Fails s p
  pub twenty : (s : List ℕ) (k : ℕ) → (formula_of s k ≡ refused Constants) ↔ ((t : Tree) × (Spells t s × (Mixes t ⊎ Bare t)))
  pub loaded : (s : List ℕ) (k : ℕ) (l : Loaded) → (formula_of s k ≡ given l) ↔ ((x : List ℕ) × (Becomes s k x × (load.load_of x ≡ l)))
  -- "Wherever the formula is defined, the sheet's exact premium equals it", and where it is not, there is none
  pub premium : (s : List ℕ) (k : ℕ) (c : Codelist) (t : Tree) → formula_of s k ≡ given (load.accepted c) → Writes t s
      → (p : Point) → premium_value (premium_of c p) ≡ value_of t p
