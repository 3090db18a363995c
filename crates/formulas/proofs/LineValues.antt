-- The values of a codelist's lines at a point, as options: each is told by those of the lines that it refers to, and none is there where one of
-- them has none or a divisor is 0.
use Prim.Native.Nat.{ℕ, suc, zero, ◌+◌, ◌-◌, ◌≤◌, ◌<◌}
use mathlib.Core.List.{List, [], ◌∷◌, ◌++◌}
use mathlib.Core.Option.{Option, none, some}
use mathlib.Core.Path.{◌≡◌, refl, ap, ◌∙◌}
use native.Mathlib.Numerals.{sub-one}
use native.Mathlib.Omega.{arith}
use lib.ListN.{length, get_or, length-append, get_or-append}
use lib.Seq.{get_or_at}
use Rattle.codelist.specs.declared.Entry.{Entry}
use Rattle.codelist.specs.declared.Op.{Op}
use Rattle.codelist.specs.declared.Op.TheVariants.{Add, Mul, AddC, MulC, Pow, Inv}
use Rattle.codelist.specs.Codelist.{Earlier, WellFormedOp}
use Rattle.exact.specs.Rat.{ℚ, ◌+ℚ◌, ◌*ℚ◌, ◌^ℚ◌, recip}
use Rattle.exact.specs.Units.{units}
use Rattle.rules.specs.Exact.{Point, coordinate, Jet, factor_jet, add_jet, addc_jet, mulc_jet, mul_jet, pow_jet, inv_jet, using1, using2, invert, no_jet, jet}
use Rattle.rules.specs.Exact.{exact_next, factor_jets, exact_ops, last_jet}
use Rattle.formulas.specs.Value.{also, premium_value}

-- ════ one operation ════

-- its value, where w has those of the lines before
abbrev pub op_worth : (ℕ → Option ℚ) → Op → Option ℚ
op_worth w (Add i j) = also (w i) (λ x. also (w j) (λ y. some (x +ℚ y)))
op_worth w (Mul i j) = also (w i) (λ x. also (w j) (λ y. some (x *ℚ y)))
op_worth w (AddC i c) = also (w i) (λ x. some (x +ℚ units c))
op_worth w (MulC i c) = also (w i) (λ x. some (x *ℚ units c))
op_worth w (Pow i m) = also (w i) (λ x. some (x ^ℚ m))
op_worth w (Inv i) = also (w i) recip

value-using1 : (f : Jet → Option Jet) (g : ℚ → Option ℚ) (a : Option Jet) → ((x : Jet) → premium_value (f x) ≡ g x.value)
    → premium_value (using1 f a) ≡ also (premium_value a) g
value-using1 f g none h = refl
value-using1 f g (some x) h = h x

value-using2 : (f : Jet → Jet → Jet) (g : ℚ → ℚ → ℚ) (a b : Option Jet) → ((x y : Jet) → (f x y).value ≡ g x.value y.value)
    → premium_value (using2 f a b) ≡ also (premium_value a) (λ x. also (premium_value b) (λ y. some (g x y)))
value-using2 f g none b h = refl
value-using2 f g (some x) none h = refl
value-using2 f g (some x) (some y) h = ap some (h x y)

value-invert : (x : Jet) (o : Option ℚ) → premium_value (invert x o) ≡ o
unfolding inv_jet
value-invert x none = refl
value-invert x (some y) = refl

abbrev pub worth_in : List (Option Jet) → ℕ → Option ℚ
worth_in js i = premium_value (jet js i)

next-worth : (js : List (Option Jet)) (w : ℕ → Option ℚ) → ((i : ℕ) → Earlier (length js) i → w i ≡ worth_in js i) → (o : Op)
    → WellFormedOp (length js) o → premium_value (exact_next o js) ≡ op_worth w o
unfolding exact_next add_jet mul_jet addc_jet mulc_jet pow_jet
next-worth js w h (Add i j) k = rw (h i k.0, h j k.1) (value-using2 add_jet ◌+ℚ◌ (jet js i) (jet js j) (λ x y. refl))
next-worth js w h (Mul i j) k = rw (h i k.0, h j k.1) (value-using2 mul_jet ◌*ℚ◌ (jet js i) (jet js j) (λ x y. refl))
next-worth js w h (AddC i c) k = rw (h i k.0) (value-using1 _ (λ x. some (x +ℚ units c)) (jet js i) (λ x. refl))
next-worth js w h (MulC i c) k = rw (h i k.0) (value-using1 _ (λ x. some (x *ℚ units c)) (jet js i) (λ x. refl))
next-worth js w h (Pow i m) k = rw (h i k.0) (value-using1 _ (λ x. some (x ^ℚ m)) (jet js i) (λ x. refl))
next-worth js w h (Inv i) k = rw (h i k) (value-using1 _ recip (jet js i) (λ x. value-invert x (recip x.value)))

-- ════ operations one after another ════

pub run-append : (os qs : List Entry) (js : List (Option Jet)) → exact_ops (os ++ qs) js ≡ exact_ops qs (exact_ops os js)
unfolding exact_ops
run-append [] qs js = refl
run-append (o ∷ os) qs js = run-append os qs (js ++ (exact_next o.op js ∷ []))

pub run_length : (os : List Entry) (js : List (Option Jet)) → length (exact_ops os js) ≡ length js + length os
unfolding exact_ops
run_length [] js = omega arith
run_length (o ∷ os) js =
    omega (arith, run_length os (js ++ (exact_next o.op js ∷ [])), length-append js (exact_next o.op js ∷ []))

-- lines are only added
pub earlier-kept : (os : List Entry) (js : List (Option Jet)) (i : ℕ) → Earlier (length js) i → jet (exact_ops os js) i ≡ jet js i
unfolding exact_ops
earlier-kept [] js i h = refl
earlier-kept (o ∷ os) js i h =
    let x = exact_next o.op js ∷ [] in
    earlier-kept os (js ++ x) i (h.0, omega (arith, h.1, length-append js x))
    ∙ get_or-append js x (some no_jet) (i - 1) (omega (arith, h.0, h.1))

-- so the line of an operation has the value that the others give it, in the end
pub line-worth : (o : Entry) (os : List Entry) (js : List (Option Jet)) → WellFormedOp (length js) o.op
    → worth_in (exact_ops (o ∷ os) js) (length js + 1) ≡ op_worth (worth_in (exact_ops (o ∷ os) js)) o.op
unfolding exact_ops
line-worth o os js h =
    let x = exact_next o.op js in
    ap premium_value
    (earlier-kept os (js ++ (x ∷ [])) (length js + 1) (omega arith, omega (arith, length-append js (x ∷ [])))
    ∙ get_or_at js x [] (some no_jet) (length js + 1 - 1) (omega arith))
    ∙ next-worth js (worth_in (exact_ops (o ∷ os) js)) (λ i k. ap premium_value (earlier-kept (o ∷ os) js i k)) o.op h

-- ════ factors, and the last line ════

pub factors-length : (p : Point) (i n : ℕ) → length (factor_jets p i n) ≡ n
unfolding factor_jets
factors-length p i zero = refl
factors-length p i (suc n) = ap suc (factors-length p (suc i) n)

pub factor-worth : (p : Point) (k n i : ℕ) → i < n → premium_value (get_or (factor_jets p k n) i (some no_jet)) ≡ some (coordinate p (k + i))
unfolding factor_jets factor_jet
factor-worth p k zero i h = absurd (omega arith)
factor-worth p k (suc n) zero h = ap (λ (j : ℕ). some (coordinate p j)) (omega arith)
factor-worth p k (suc n) (suc i) h = factor-worth p (suc k) n i (omega arith) ∙ ap (λ (j : ℕ). some (coordinate p j)) (omega arith)

pub last_line : (js : List (Option Jet)) (n : ℕ) → 1 ≤ n → length js ≡ n → last_jet js ≡ jet js n
unfolding last_jet
last_line [] n h e = absurd (omega arith)
last_line (j ∷ []) n h e = let z : n - 1 ≡ 0 = omega arith in rw z
last_line (j ∷ k ∷ js) n h e =
    let z : n - 1 ≡ suc (n - 1 - 1) = omega arith in
    last_line (k ∷ js) (n - 1) (omega arith) (omega arith) ∙ rw (z, sub-one)
