-- How a formula is converted: induction on the conversion, and what two operands and a sign become, which is nothing, or one or two lines more.
use Prim.Native.Nat.{ℕ, ◌≤◌}
use mathlib.Core.List.{List, [], ◌∷◌, ◌++◌}
use native.Mathlib.Omega.{arith}
use lib.ListN.{length, length-append}
use Rattle.codelist.specs.Text.{TextLine}
use Rattle.formulas.specs.Grammar.{Tree, factor, constant, bracket, power, join, Sign, plus, minus, times, over}
use Rattle.formulas.specs.Units.{units_of}
use Rattle.formulas.specs.Convert.{Operand, fixed, line, Conversion, operand, mixed, on_operand, reference, one, joined, raised, convert}

-- ════ induction ════

-- What has to be shown of P, on a tree, the lines before it and its conversion. The parts of a conversion with an operand have one themselves, and
-- a tree with a part that has none has none.
pub record Parts (n : ℕ) (P : Tree → List TextLine → Conversion → Type 0) : Type 0 where
  pub of-factor : (i : ℕ) (ls : List TextLine) → P (factor i) ls (operand (line (reference n i)) ls)
  pub of-constant : (w d : List ℕ) (ls : List TextLine) → P (constant w d) ls (operand (fixed (units_of w d)) ls)
  pub of-bracket : (t : Tree) (ls : List TextLine) (c : Conversion) → P t ls c → P (bracket t) ls c
  pub of-power : (t : Tree) (m : ℕ) (ls ks : List TextLine) (x : Operand) → P t ls (operand x ks) → P (power t m) ls (raised n x m ks)
  pub of-join : (o : Sign) (t u : Tree) (ls ks js : List TextLine) (x y : Operand) → P t ls (operand x ks) → P u ks (operand y js)
      → P (join o t u) ls (joined n o x y js)
  pub none-power : (t : Tree) (m : ℕ) (ls : List TextLine) → P t ls mixed → P (power t m) ls mixed
  pub none_left : (o : Sign) (t u : Tree) (ls : List TextLine) → P t ls mixed → P (join o t u) ls mixed
  pub none_right : (o : Sign) (t u : Tree) (ls ks : List TextLine) → P u ks mixed → P (join o t u) ls mixed

module _ (n : ℕ) (P : Tree → List TextLine → Conversion → Type 0) (h : Parts n P) where
  after-power : (t : Tree) (m : ℕ) (ls : List TextLine) (c : Conversion) → P t ls c → P (power t m) ls (on_operand c (λ x ks. raised n x m ks))
  after-power t m ls (operand x ks) p = h.of-power t m ls ks x p
  after-power t m ls mixed p = h.none-power t m ls p

  after-right : (o : Sign) (t u : Tree) (ls ks : List TextLine) (x : Operand) (c : Conversion) → P t ls (operand x ks) → P u ks c
      → P (join o t u) ls (on_operand c (λ y js. joined n o x y js))
  after-right o t u ls ks x (operand y js) p q = h.of-join o t u ls ks js x y p q
  after-right o t u ls ks x mixed p q = h.none_right o t u ls ks q

  after-left : (o : Sign) (t u : Tree) (ls : List TextLine) (c : Conversion) → P t ls c → ((ks : List TextLine) → P u ks (convert n u ks))
      → P (join o t u) ls (on_operand c (λ x ks. on_operand (convert n u ks) (λ y js. joined n o x y js)))
  after-left o t u ls (operand x ks) p q = after-right o t u ls ks x (convert n u ks) p (q ks)
  after-left o t u ls mixed p q = h.none_left o t u ls p

  pub by_parts : (t : Tree) (ls : List TextLine) → P t ls (convert n t ls)
  unfolding convert
  by_parts (factor i) ls = h.of-factor i ls
  by_parts (constant w d) ls = h.of-constant w d ls
  by_parts (bracket t) ls = h.of-bracket t ls (convert n t ls) (by_parts t ls)
  by_parts (power t m) ls = after-power t m ls (convert n t ls) (by_parts t ls)
  by_parts (join o t u) ls = after-left o t u ls (convert n t ls) (by_parts t ls) (by_parts u)

-- ════ lines more ════

abbrev pub IsFixed : Operand → Type 0
IsFixed (fixed c) = Unit
IsFixed (line i) = ⊥

-- as `Meet`, on operands
abbrev pub Clash : Sign → Operand → Operand → Type 0
Clash plus x y = IsFixed x × IsFixed y
Clash minus x y = IsFixed x × IsFixed y
Clash times x y = IsFixed x × IsFixed y
Clash over x y = IsFixed y

-- After the lines js: nothing where M holds, and else lines of which the last is the operand
pub data Adds (n : ℕ) (js : List TextLine) (M : Type 0) : Conversion → Type 0 where
  nothing : M → Adds n js M mixed
  lines : ¬ M → (ks : List TextLine) (l : TextLine) → length js ≤ length ks → Adds n js M (one n ks l)

module _ (n : ℕ) (js : List TextLine) where
  add-one : {M : Type 0} (l : TextLine) → ¬ M → Adds n js M (one n js l)
  add-one l h = lines h js l (omega arith)

  add-two : {M : Type 0} (l m : TextLine) → ¬ M → Adds n js M (one n (js ++ (l ∷ [])) m)
  add-two l m h = lines h (js ++ (l ∷ [])) m (omega (arith, length-append js (l ∷ [])))

  pub joined-adds : (o : Sign) (x y : Operand) → Adds n js (Clash o x y) (joined n o x y js)
  joined-adds plus (line i) (line j) = add-one _ (λ h. h.0)
  joined-adds plus (line i) (fixed c) = add-one _ (λ h. h.0)
  joined-adds plus (fixed c) (line j) = add-one _ (λ h. h.1)
  joined-adds plus (fixed c) (fixed e) = nothing (tt, tt)
  joined-adds minus (line i) (line j) = add-two _ _ (λ h. h.0)
  joined-adds minus (line i) (fixed c) = add-one _ (λ h. h.0)
  joined-adds minus (fixed c) (line j) = add-two _ _ (λ h. h.1)
  joined-adds minus (fixed c) (fixed e) = nothing (tt, tt)
  joined-adds times (line i) (line j) = add-one _ (λ h. h.0)
  joined-adds times (line i) (fixed c) = add-one _ (λ h. h.0)
  joined-adds times (fixed c) (line j) = add-one _ (λ h. h.1)
  joined-adds times (fixed c) (fixed e) = nothing (tt, tt)
  joined-adds over (line i) (line j) = add-two _ _ (λ h. h)
  joined-adds over (line i) (fixed c) = nothing tt
  joined-adds over (fixed c) (line j) = add-two _ _ (λ h. h)
  joined-adds over (fixed c) (fixed e) = nothing tt

  pub raised-adds : (x : Operand) (m : ℕ) → Adds n js (IsFixed x) (raised n x m js)
  raised-adds (line i) m = add-one _ (λ h. h)
  raised-adds (fixed c) m = nothing tt
