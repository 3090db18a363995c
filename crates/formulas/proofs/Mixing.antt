-- Refusal 20 on the formula and on its conversion: there is no sheet exactly where constants meet or there is no operation.
use Prim.Native.Nat.{ℕ, ◌+◌, ◌≤◌, ◌<◌}
use mathlib.Core.List.{List, [], ◌∷◌}
use mathlib.Core.Logic.{◌↔◌, ◌⊎◌, inl, inr, ⊎_elim}
use mathlib.Core.Option.{none}
use mathlib.Core.Path.{◌≡◌, refl, ap}
use native.Mathlib.Omega.{arith}
use lib.ListN.{length, length-append}
use Rattle.codelist.specs.Text.{TextLine}
use Rattle.formulas.specs.Grammar.{Tree, bracket, power, join, Sign, plus, minus, times, over}
use Rattle.formulas.specs.Convert.{Operand, line, Conversion, operand, mixed, convert, count_of, sheet_from, sheet_of}
use Rattle.formulas.specs.Convert.{IsConstant, Meet, Mixes, Bare}
use Rattle.formulas.proofs.Conversions.{Parts, by_parts, IsFixed, Clash, Adds, nothing, lines, joined-adds, raised-adds}

-- A tree with no operation adds no line, and the last line of any other is its operand
record Fate (n : ℕ) (t : Tree) (ls : List TextLine) (x : Operand) (ks : List TextLine) : Type 0 where
  unmixed : ¬ (Mixes t)
  constant : IsConstant t ↔ IsFixed x
  lines : (Bare t × (length ks ≡ length ls)) ⊎ (¬ (Bare t) × (length ls < length ks) × (x ≡ line (n + length ks)))

abbrev Fated : ℕ → Tree → List TextLine → Conversion → Type 0
Fated n t ls (operand x ks) = Fate n t ls x ks
Fated n t ls mixed = Mixes t

no-fewer : {n : ℕ} {t : Tree} {ls : List TextLine} {x : Operand} {ks : List TextLine} → Fate n t ls x ks → length ls ≤ length ks
no-fewer f = ⊎_elim (λ h. omega (arith, h.1)) (λ h. omega (arith, h.1)) f.lines

-- Constants meet where their operands do
meet-clash : (o : Sign) (t u : Tree) (x y : Operand) → IsConstant t ↔ IsFixed x → IsConstant u ↔ IsFixed y → Meet o t u ↔ Clash o x y
meet-clash plus t u x y f g = (λ m. (f.0 m.0, g.0 m.1), λ m. (f.1 m.0, g.1 m.1))
meet-clash minus t u x y f g = (λ m. (f.0 m.0, g.0 m.1), λ m. (f.1 m.0, g.1 m.1))
meet-clash times t u x y f g = (λ m. (f.0 m.0, g.0 m.1), λ m. (f.1 m.0, g.1 m.1))
meet-clash over t u x y f g = g

-- A tree t whose operation comes after the lines js: it mixes where M holds of its operands
added : {n : ℕ} {js : List TextLine} {M : Type 0} (t : Tree) (ls : List TextLine) (c : Conversion) → length ls ≤ length js → ¬ (IsConstant t)
    → ¬ (Bare t) → (M → Mixes t) → (¬ M → ¬ (Mixes t)) → Adds n js M c → Fated n t ls c
added t ls _ h k b to from (nothing m) = to m
added {n} t ls _ h k b to from (lines q ks l g) = record {
  unmixed = from q;
  constant = (k, λ z. absurd z);
  lines = inr (b, omega (arith, length-append ks (l ∷ [])), ap (λ (i : ℕ). line i) (omega (arith, length-append ks (l ∷ []))));
}

fated-parts : (n : ℕ) → Parts n (Fated n)
fated-parts n = record {
  of-factor = λ i ls. record { unmixed = λ m. m; constant = (λ z. z, λ z. z); lines = inl (tt, refl) };
  of-constant = λ w d ls. record { unmixed = λ m. m; constant = (λ z. z, λ z. z); lines = inl (tt, refl) };
  of-bracket = within;
  of-power = λ t m ls ks x f.
      added (power t m) ls _ (no-fewer f) (λ z. z) (λ z. z) (λ k. inl (f.constant.1 k)) (λ k. ⊎_elim (λ z. k (f.constant.0 z)) f.unmixed)
      (raised-adds n ks x m);
  of-join = λ o t u ls ks js x y f g.
      let e = meet-clash o t u x y f.constant g.constant in
      added (join o t u) ls _ (omega (arith, no-fewer f, no-fewer g)) (λ z. z) (λ z. z) (λ k. inl (e.1 k))
      (λ k. ⊎_elim (λ z. k (e.0 z)) (⊎_elim f.unmixed g.unmixed)) (joined-adds n js o x y);
  none-power = λ t m ls h. inr h;
  none_left = λ o t u ls h. inr (inl h);
  none_right = λ o t u ls ks h. inr (inr h);
}
  where
    within : (t : Tree) (ls : List TextLine) (c : Conversion) → Fated n t ls c → Fated n (bracket t) ls c
    within t ls (operand x ks) f = record { unmixed = f.unmixed; constant = f.constant; lines = f.lines }
    within t ls mixed f = f

fated : (n : ℕ) (t : Tree) (ls : List TextLine) → Fated n t ls (convert n t ls)
fated n = by_parts n (Fated n) (fated-parts n)

-- The operand of a sheet with lines is the last of them
pub last-operand : (n : ℕ) (t : Tree) (x : Operand) (ks : List TextLine) → convert n t [] ≡ operand x ks → 1 ≤ length ks → x ≡ line (n + length ks)
last-operand n t x ks e h = ⊎_elim (λ q. absurd (omega (arith, q.1))) (λ q. q.2) (rw e at (fated n t [])).lines

pub no-sheet : (k : ℕ) (t : Tree) → (sheet_of k t ≡ none) ↔ (Mixes t ⊎ Bare t)
unfolding sheet_of
no-sheet k t = go (convert n t []) (fated n t [])
  where
    n : ℕ
    n = count_of k

    go : (c : Conversion) → Fated n t [] c → (sheet_from n c ≡ none) ↔ (Mixes t ⊎ Bare t)
    go mixed m = (λ e. inl m, λ h. refl)
    go (operand x []) f = (λ e. inr (⊎_elim (λ h. h.0) (λ h. absurd (omega (arith, h.1))) f.lines), λ h. refl)
    go (operand x (l ∷ ls)) f = (
      λ e. absurd (let z : ◌≡◌ {A = ℕ} 0 1 = cc e in omega arith),
      ⊎_elim (λ m. absurd (f.unmixed m)) (λ b. absurd (⊎_elim (λ h. omega (arith, h.1)) (λ h. h.0 b) f.lines)),
    )
