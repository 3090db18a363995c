-- Every formula is read: the reader finds the tree that wrote the text, where nothing follows that it could take for more of it.
use Prim.Native.Nat.{ℕ, suc, zero, ◌+◌, ◌-◌, ◌≤◌}
use mathlib.Core.List.{List, [], ◌∷◌, ◌++◌, append_assoc, append-nil}
use mathlib.Core.Option.{Option, none, some}
use mathlib.Core.Path.{◌≡◌, refl, sym, ap, subst, ◌∙◌}
use native.Mathlib.Decide.{ℕ_discrete}
use native.Mathlib.Omega.{arith}
use lib.Dec.{lit≤}
use lib.ListN.{length, length-append}
use borrow.Author.Tests.{lt-ltb, le-ltb, le-leb, ne_eqb}
use Rattle.codelist.specs.Read.{peek, rest, digit}
use Rattle.codelist.proofs.NumeralTexts.{digit-is}
use Rattle.formulas.specs.Grammar.{Tree, factor, constant, bracket, power, join, Sign, plus, minus, times, over, sign_byte, digits_text}
use Rattle.formulas.specs.Grammar.{decimals_text, text_of, rank, Each, Digits, Stands, atom, powered, product, sum, deepest}
use Rattle.formulas.specs.Read.{Found, good, and_then, digits_up_to, digit_and, decimals_after, constant_at, factor_at, leaf_at, closed}
use Rattle.formulas.specs.Read.{exponent, exponent_after, powered_at, sum_sign, product_sign, chain, product_at, sum_at, atom_at}

-- ════ what may follow ════

pub record Ends₀ (b : ℕ) : Type 0 where
  pub digit : 10 ≤ digit b
  pub point : b ≡ 46 → ⊥

abbrev pub Ends₁ : ℕ → Type 0
Ends₁ b = Ends₀ b × (b ≡ 94 → ⊥)

abbrev pub Ends₂ : ℕ → Type 0
Ends₂ b = Ends₁ b × (product_sign b ≡ none)

abbrev pub Ends₃ : ℕ → Type 0
Ends₃ b = Ends₂ b × (sum_sign b ≡ none)

-- ════ constants ════

digits-complete : (k : ℕ) (ds u : List ℕ) → length ds ≤ k → Each ds → 10 ≤ digit (peek u) → digits_up_to k (digits_text ds ++ u) ≡ good ds u
unfolding digits_up_to peek rest
digits-complete zero [] u h e g = refl
digits-complete zero (d ∷ ds) u h e g = absurd (omega arith)
digits-complete (suc k) [] u h e g = simp (le-ltb (digit (peek u)) 10 g)
digits-complete (suc k) (d ∷ ds) u h e g =
    simp (digit-is d (omega (arith, e.0)), lt-ltb d 10 (omega (arith, e.0)), digits-complete k ds u (omega arith) e.1 g)

some-complete : (k : ℕ) (ds u : List ℕ) → Digits 1 (suc k) ds → 10 ≤ digit (peek u) → digit_and k (digits_text ds ++ u) ≡ good ds u
unfolding digit_and peek rest
some-complete k [] u i g = absurd (omega (arith, i.0))
some-complete k (d ∷ ds) u i g =
    simp (digit-is d (omega (arith, i.2.0)), lt-ltb d 10 (omega (arith, i.2.0)), digits-complete k ds u (omega (arith, i.1)) i.2.1 g)

decimals-complete : (w p u : List ℕ) → Digits 0 4 p → Ends₀ (peek u) → decimals_after w (decimals_text p ++ u) ≡ good (constant w p) u
unfolding decimals_after peek rest
decimals-complete w [] u i e = simp (ne_eqb (peek u) 46 e.point)
decimals-complete w (d ∷ ds) u i e = simp (some-complete 3 (d ∷ ds) u (omega arith, i.1, i.2) e.digit)

-- what a constant's digits are followed by
after-digits : (p u : List ℕ) → Ends₀ (peek u) → 10 ≤ digit (peek (decimals_text p ++ u))
unfolding peek digit
after-digits [] u e = e.digit
after-digits (d ∷ ds) u e = lit≤ tt

constant-complete : (w p u : List ℕ) → Digits 1 6 w → Digits 0 4 p → Ends₀ (peek u)
    → constant_at (text_of (constant w p) ++ u) ≡ good (constant w p) u
unfolding constant_at text_of
constant-complete w p u i j e =
    simp (append_assoc (digits_text w) (decimals_text p) u, some-complete 5 w (decimals_text p ++ u) i (after-digits p u e), decimals-complete w p u j e)

-- ════ leaves ════

constant-head : (w p u : List ℕ) → Digits 1 6 w → (48 ≤ peek (text_of (constant w p) ++ u)) × (peek (text_of (constant w p) ++ u) ≤ 57)
unfolding text_of peek
constant-head [] p u i = absurd (omega (arith, i.0))
constant-head (d ∷ w) p u i = (omega arith, omega (arith, i.2.0))

leaf-factor : (i : ℕ) (u : List ℕ) → 1 ≤ i → i ≤ 8 → leaf_at (text_of (factor i) ++ u) ≡ good (factor i) u
unfolding leaf_at factor_at text_of peek rest
leaf-factor i u l h = simp (le-leb 49 (48 + i) (omega arith), le-leb (48 + i) 56 (omega arith), digit-is i (omega arith))

leaf-constant : (w p u : List ℕ) → Digits 1 6 w → Digits 0 4 p → Ends₀ (peek u) → leaf_at (text_of (constant w p) ++ u) ≡ good (constant w p) u
unfolding leaf_at
leaf-constant w p u i j e =
    let h = constant-head w p u i in
    simp (ne_eqb (peek (text_of (constant w p) ++ u)) 102 (λ z. omega (arith, h.1, z)), constant-complete w p u i j e)

-- ════ powers, products, sums over atoms ════

abbrev Complete : (Tree → Type 0) → (ℕ → Type 0) → (List ℕ → Found Tree) → Type 0
Complete Is Ends R = (t : Tree) (u : List ℕ) → Is t → Ends (peek u) → R (text_of t ++ u) ≡ good t u

ends-caret : Ends₀ 94
unfolding digit
ends-caret = record { digit = lit≤ tt; point = λ e. omega arith }

bracket-flat : (r r' room : ℕ) (t : Tree) → Stands r room (bracket t) → Stands r' room (bracket t)
bracket-flat r r' zero t i = i
bracket-flat r r' (suc room) t i = i

module _ (room : ℕ) (a : List ℕ → Found Tree) (atoms : Complete (Stands atom room) Ends₀ a) where
  -- an atom without exponent
  alone : (t : Tree) (u : List ℕ) → Stands atom room t → Ends₁ (peek u) → powered_at a (text_of t ++ u) ≡ good t u
  unfolding powered_at exponent_after
  alone t u i e = simp (atoms t u i e.0, ne_eqb (peek u) 94 e.1)

  raised : (t : Tree) (m : ℕ) (u : List ℕ) → Stands atom room t → m ≤ 9 → powered_at a (text_of (power t m) ++ u) ≡ good (power t m) u
  unfolding powered_at exponent_after exponent text_of peek rest
  raised t m u i h =
      simp (
        append_assoc (text_of t) (94 ∷ (48 + m) ∷ []) u,
        atoms t (94 ∷ (48 + m) ∷ u) i ends-caret,
        digit-is m (omega arith),
        lt-ltb m 10 (omega arith),
      )

  powered-complete : Complete (Stands powered room) Ends₁ (powered_at a)
  powered-complete (factor i) u s e = alone (factor i) u s e
  powered-complete (constant w p) u s e = alone (constant w p) u s e
  powered-complete (bracket t) u s e = alone (bracket t) u (bracket-flat powered atom room t s) e
  powered-complete (power t m) u s e = raised t m u s.1 s.2
  powered-complete (join plus x y) u s e = absurd (omega (arith, s.0))
  powered-complete (join minus x y) u s e = absurd (omega (arith, s.0))
  powered-complete (join times x y) u s e = absurd (omega (arith, s.0))
  powered-complete (join over x y) u s e = absurd (omega (arith, s.0))

-- the signs of a rank, and that an operand of the rank below may be followed by one
record Joins (signs : ℕ → Option Sign) (r : ℕ) (Ends : ℕ → Type 0) : Type 0 where
  known : (o : Sign) → rank o ≡ r → signs (sign_byte o) ≡ some o
  ends : (o : Sign) → rank o ≡ r → Ends (sign_byte o)
  two : 2 ≤ r

module _ (signs : ℕ → Option Sign) (r room : ℕ) (Ends : ℕ → Type 0) (j : Joins signs r Ends) (a : List ℕ → Found Tree)
    (operands : Complete (Stands (r - 1) room) Ends a) where
  R : List ℕ → Found Tree
  R s = and_then (a s) (λ x t. chain signs a (length t) x t)

  abbrev Going : Tree → List ℕ → Type 0
  Going t u = (k : ℕ) × (length u ≤ k) × (R (text_of t ++ u) ≡ chain signs a k t u)

  begins : (t : Tree) (u : List ℕ) → Stands (r - 1) room t → Ends (peek u) → Going t u
  unfolding R
  begins t u i e = (length u, omega arith, simp (operands t u i e))

  round : (k : ℕ) (o : Sign) (x y : Tree) (u : List ℕ) → rank o ≡ r → Stands (r - 1) room y → Ends (peek u)
      → chain signs a (suc k) x (sign_byte o ∷ (text_of y ++ u)) ≡ chain signs a k (join o x y) u
  unfolding chain peek rest
  round k o x y u q i e = simp (j.known o q, operands y u i e)

  goes_on : (t : Tree) (u : List ℕ) → Stands r room t → Ends (peek u) → Going t u
  unfolding text_of peek
  goes_on (factor i) u s e = begins (factor i) u s e
  goes_on (constant w p) u s e = begins (constant w p) u s e
  goes_on (bracket t) u s e = begins (bracket t) u (bracket-flat r (r - 1) room t s) e
  goes_on (power t m) u s e = begins (power t m) u (omega (arith, j.two), s.1, s.2) e
  goes_on (join o x y) u s e = go (ℕ_discrete (rank o) r) (goes_on x (sign_byte o ∷ (text_of y ++ u)))
    where
      further : rank o ≡ r → Going x (sign_byte o ∷ (text_of y ++ u)) → Going (join o x y) u
      further q (zero, h, f) = absurd (omega arith)
      further q (suc k, h, f) = (
        k,
        omega (arith, length-append (text_of y) u),
        ap R (append_assoc (text_of x) (sign_byte o ∷ text_of y) u) ∙ f
            ∙ round k o x y u q (subst (λ (n : ℕ). Stands (n - 1) room y) q s.2) e,
      )

      go : Dec (rank o ≡ r)
          → (Stands r room x → Ends (peek (sign_byte o ∷ (text_of y ++ u))) → Going x (sign_byte o ∷ (text_of y ++ u)))
          → Going (join o x y) u
      go (yes q) ih = further q (ih (subst (λ (n : ℕ). Stands n room x) q s.1) (j.ends o q))
      go (no q) ih = begins (join o x y) u (omega (arith, s.0), s.1, s.2) e

  stops : (k : ℕ) (t : Tree) (u : List ℕ) → signs (peek u) ≡ none → chain signs a k t u ≡ good t u
  unfolding chain
  stops zero t u e = refl
  stops (suc k) t u e = simp e

  operands-complete : Complete (Stands r room) (λ b. Ends b × (signs b ≡ none)) R
  operands-complete t u i e =
      let f = goes_on t u i e.0 in
      f.2 ∙ stops f.0 t u e.1

product-joins : Joins product_sign product Ends₁
unfolding product_sign digit
product-joins = record { known = known; ends = ends; two = lit≤ tt }
  where
    known : (o : Sign) → rank o ≡ product → product_sign (sign_byte o) ≡ some o
    known plus e = absurd (omega arith)
    known minus e = absurd (omega arith)
    known times e = refl
    known over e = refl

    ends : (o : Sign) → rank o ≡ product → Ends₁ (sign_byte o)
    ends plus e = absurd (omega arith)
    ends minus e = absurd (omega arith)
    ends times e = (record { digit = lit≤ tt; point = λ z. omega arith }, λ z. omega arith)
    ends over e = (record { digit = lit≤ tt; point = λ z. omega arith }, λ z. omega arith)

sum-joins : Joins sum_sign sum Ends₂
unfolding product_sign sum_sign digit
sum-joins = record { known = known; ends = ends; two = lit≤ tt }
  where
    known : (o : Sign) → rank o ≡ sum → sum_sign (sign_byte o) ≡ some o
    known plus e = refl
    known minus e = refl
    known times e = absurd (omega arith)
    known over e = absurd (omega arith)

    ends : (o : Sign) → rank o ≡ sum → Ends₂ (sign_byte o)
    ends plus e = ((record { digit = lit≤ tt; point = λ z. omega arith }, λ z. omega arith), refl)
    ends minus e = ((record { digit = lit≤ tt; point = λ z. omega arith }, λ z. omega arith), refl)
    ends times e = absurd (omega arith)
    ends over e = absurd (omega arith)

module _ (room : ℕ) (a : List ℕ → Found Tree) (atoms : Complete (Stands atom room) Ends₀ a) where
  product-complete : Complete (Stands product room) Ends₂ (product_at a)
  unfolding product_at R
  product-complete = operands-complete product_sign product room Ends₁ product-joins (powered_at a) (powered-complete room a atoms)

  sum-complete : Complete (Stands sum room) Ends₃ (sum_at a)
  unfolding sum_at R
  sum-complete = operands-complete sum_sign sum room Ends₂ sum-joins (product_at a) product-complete

-- ════ atoms ════

-- the bracket that closes, and the end of the text (256)
ends-closed : Ends₃ 41
unfolding product_sign sum_sign digit
ends-closed = (((record { digit = lit≤ tt; point = λ z. omega arith }, λ z. omega arith), refl), refl)

pub ends-text : Ends₃ (peek [])
unfolding product_sign sum_sign digit peek
ends-text = (((record { digit = lit≤ tt; point = λ z. omega arith }, λ z. omega arith), refl), refl)

-- a leaf is no bracket
pub no-bracket : (room : ℕ) (s : List ℕ) → (peek s ≡ 40 → ⊥) → atom_at room s ≡ leaf_at s
unfolding atom_at
no-bracket zero s h = refl
no-bracket (suc room) s h = simp (ne_eqb (peek s) 40 h)

in-bracket : (room : ℕ) (t : Tree) (u : List ℕ) → Complete (Stands sum room) Ends₃ (sum_at (atom_at room)) → Stands sum room t
    → atom_at (suc room) (text_of (bracket t) ++ u) ≡ good (bracket t) u
unfolding atom_at text_of peek rest closed
in-bracket room t u sums i = simp (append_assoc (text_of t) (41 ∷ []) u, sums t (41 ∷ u) i ends-closed)

not-open : (w p u : List ℕ) → Digits 1 6 w → peek (text_of (constant w p) ++ u) ≡ 40 → ⊥
not-open w p u i e = omega (arith, (constant-head w p u i).0, e)

factor-not-open : (i : ℕ) (u : List ℕ) → peek (text_of (factor i) ++ u) ≡ 40 → ⊥
unfolding text_of peek
factor-not-open i u e = omega arith

atom-cases : (room : ℕ)
    → ((t : Tree) (u : List ℕ) → Stands atom room (bracket t) → atom_at room (text_of (bracket t) ++ u) ≡ good (bracket t) u)
    → Complete (Stands atom room) Ends₀ (atom_at room)
atom-cases room brackets (factor i) u s e = no-bracket room (text_of (factor i) ++ u) (factor-not-open i u) ∙ leaf-factor i u s.0 s.1
atom-cases room brackets (constant w p) u s e =
    no-bracket room (text_of (constant w p) ++ u) (not-open w p u s.0) ∙ leaf-constant w p u s.0 s.1 e
atom-cases room brackets (bracket t) u s e = brackets t u s
atom-cases room brackets (power t m) u s e = absurd (omega (arith, s.0))
atom-cases room brackets (join plus x y) u s e = absurd (omega (arith, s.0))
atom-cases room brackets (join minus x y) u s e = absurd (omega (arith, s.0))
atom-cases room brackets (join times x y) u s e = absurd (omega (arith, s.0))
atom-cases room brackets (join over x y) u s e = absurd (omega (arith, s.0))

pub atom-complete : (room : ℕ) → Complete (Stands atom room) Ends₀ (atom_at room)
atom-complete zero = atom-cases zero (λ t u s. absurd s)
atom-complete (suc room) =
    atom-cases (suc room) (λ t u s. in-bracket room t u (sum-complete room (atom_at room) (atom-complete room)) s)

-- EVERY FORMULA IS READ
pub formula-complete : (t : Tree) → Stands sum deepest t → sum_at (atom_at deepest) (text_of t) ≡ good t []
formula-complete t i =
    ap (sum_at (atom_at deepest)) (sym (append-nil (text_of t)))
    ∙ sum-complete deepest (atom_at deepest) (atom-complete deepest) t [] i ends-text
