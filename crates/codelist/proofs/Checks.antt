-- A line that passes the checks of 5, 6, 7 and 15 is that of a well formed operation, and the line of one passes them.
use Prim.Native.Nat.{ℕ, zero, suc, ◌^◌, ◌≤◌, ◌<◌}
use mathlib.Core.Bool.{Bool, true, false, cond, ◌&&◌, false≢true}
use mathlib.Core.Logic.{◌⊎◌, inl, inr, ⊎_elim}
use mathlib.Core.Path.{◌≡◌, refl, sym, subst}
use native.Mathlib.Omega.{arith}
use lib.Dec.{leb}
use lib.IntN.{ℤ, pos, negsuc, neg_ℤ, nat_abs}
use borrow.Author.Tests.{le-leb, leb-true}
use Rattle.std.specs.declared.result.Result.{Result}
use Rattle.std.specs.declared.result.Result.TheVariants.{Ok, Err}
use Rattle.codelist.specs.Text.{TextLine}
use Rattle.codelist.specs.Text.{Add, Mul, AddC, MulC, Pow, Inv}
use Rattle.codelist.specs.declared.Numeral.{Numeral}
use Rattle.codelist.specs.declared.Op.{Op}
use Rattle.codelist.specs.declared.Op.TheVariants as op
use Rattle.codelist.specs.declared.Refusal.{Refusal}
use Rattle.codelist.specs.declared.Refusal.TheVariants.{Reference, Exponent, Constant, ZeroMultiplier}
use Rattle.codelist.specs.Text.{IsNumeral, HasNumerals}
use Rattle.exact.specs.Units.{limit}
use Rattle.codelist.specs.Codelist.{Earlier, WellFormedOp}
use Rattle.codelist.specs.Write.{plain, numeral_of, text_line_of}
use Rattle.codelist.specs.Conditions.{is_between, refers_back, exponent_fits, constant_fits, multiplier_fits}
use Rattle.codelist.specs.Load.{value_of, op_of, checked_of}
use Rattle.codelist.specs.Views.{Fits}
use Rattle.codelist.proofs.Laws.{both_true, between-inv}

small : (low high : ℕ) (w : Numeral) → high ≤ 255 → is_between low high w ≡ true → w.magnitude ≤ 255
small low high w h p = omega (arith, (between-inv low high w p).2)

pub fits : (e : ℕ) (l : TextLine) → e ≤ 64 → refers_back e l ≡ true → exponent_fits l ≡ true → constant_fits l ≡ true → Fits l
unfolding refers_back exponent_fits constant_fits
fits e (Add i j) h p q r = let b = both_true (is_between 1 e i) (is_between 1 e j) p in
    (small 1 e i (omega arith) b.0, small 1 e j (omega arith) b.1)
fits e (Mul i j) h p q r = let b = both_true (is_between 1 e i) (is_between 1 e j) p in
    (small 1 e i (omega arith) b.0, small 1 e j (omega arith) b.1)
fits e (AddC i c) h p q r = (small 1 e i (omega arith) p, leb-true c.magnitude limit r)
fits e (MulC i c) h p q r = (small 1 e i (omega arith) p, leb-true c.magnitude limit r)
fits e (Pow i m) h p q r = (small 1 e i (omega arith) p, small 2 8 m (omega arith) q)
fits e (Inv i) h p q r = small 1 e i (omega arith) p

-- A numeral and its value
pub plain-is : (w : Numeral) → w.negative ≡ false → plain w.magnitude ≡ w
plain-is w p = λ i. record { negative = sym p i; magnitude = w.magnitude }

numeral-value : (w : Numeral) → IsNumeral w → numeral_of (value_of w) ≡ w
unfolding numeral_of value_of
numeral-value w f = go w.negative w.magnitude f.some
  where
    go : (n : Bool) (m : ℕ) → (n ≡ true → 1 ≤ m) → numeral_of (cond n (neg_ℤ (pos m)) (pos m)) ≡ record { negative = n; magnitude = m }
    go false m g = refl
    go true zero g = absurd (let x : 1 ≤ 0 = g refl in omega arith)
    go true (suc m) g = refl

pub value-numeral : (z : ℤ) → value_of (numeral_of z) ≡ z
unfolding numeral_of value_of
value-numeral (pos n) = refl
value-numeral (negsuc n) = refl

abs-value : (w : Numeral) → nat_abs (value_of w) ≡ w.magnitude
unfolding value_of
abs-value w = go w.negative w.magnitude
  where
    go : (n : Bool) (m : ℕ) → nat_abs (cond n (neg_ℤ (pos m)) (pos m)) ≡ m
    go false m = refl
    go true zero = refl
    go true (suc m) = refl

abs-numeral : (z : ℤ) → (numeral_of z).magnitude ≡ nat_abs z
unfolding numeral_of
abs-numeral (pos n) = refl
abs-numeral (negsuc n) = refl

pub plain-numeral : (n : ℕ) → n < 10 ^ 10 → IsNumeral (plain n)
plain-numeral n h = record { few = h; some = λ a. absurd (false≢true a) }

pub constant-numeral : (z : ℤ) → nat_abs z ≤ limit → IsNumeral (numeral_of z)
unfolding numeral_of
constant-numeral (pos n) h = record { few = omega arith; some = λ a. absurd (false≢true a) }
constant-numeral (negsuc n) h = record { few = omega arith; some = λ _. omega arith }

-- Numbers within bounds
pub between-yes : (low high m : ℕ) → low ≤ m → m ≤ high → is_between low high (plain m) ≡ true
unfolding is_between
between-yes low high m p q = simp (le-leb low m p, le-leb m high q)

module _ (e : ℕ) where
  -- A reference: it names an earlier line, and is written as it was read
  reference : (i : Numeral) → is_between 1 e i ≡ true → Earlier e i.magnitude × (i ≡ plain i.magnitude)
  reference i p = let v = between-inv 1 e i p in ((v.1, v.2), sym (plain-is i v.0))

  references : (i j : Numeral) → (is_between 1 e i && is_between 1 e j) ≡ true
      → (Earlier e i.magnitude × (i ≡ plain i.magnitude)) × (Earlier e j.magnitude × (j ≡ plain j.magnitude))
  references i j p = let b = both_true (is_between 1 e i) (is_between 1 e j) p in (reference i b.0, reference j b.1)

  constant : (c : Numeral) → IsNumeral c → leb c.magnitude limit ≡ true → (nat_abs (value_of c) ≤ limit) × (c ≡ numeral_of (value_of c))
  constant c f r = (subst (λ (m : ℕ). m ≤ limit) (sym (abs-value c)) (leb-true c.magnitude limit r), sym (numeral-value c f))

  -- The line of an operation that its checks let pass
  keeps : (l : TextLine) → HasNumerals l → refers_back e l ≡ true → exponent_fits l ≡ true → constant_fits l ≡ true
      → multiplier_fits l ≡ true → WellFormedOp e (op_of l) × (l ≡ text_line_of (op_of l))
  unfolding refers_back exponent_fits constant_fits multiplier_fits
  keeps (Add i j) f p q r s = let ((a, x), (b, y)) = references i j p in ((a, b), λ k. Add (x k) (y k))
  keeps (Mul i j) f p q r s = let ((a, x), (b, y)) = references i j p in ((a, b), λ k. Mul (x k) (y k))
  keeps (AddC i c) f p q r s = let (a, x) = reference i p in let (b, y) = constant c f.1 r in ((a, b), λ k. AddC (x k) (y k))
  keeps (MulC i c) f p q r s =
      let (a, x) = reference i p in
      let (b, y) = constant c f.1 r in
      ((a, b, subst (λ (m : ℕ). 1 ≤ m) (sym (abs-value c)) (leb-true 1 c.magnitude s)), λ k. MulC (x k) (y k))
  keeps (Pow i m) f p q r s =
      let (a, x) = reference i p in
      let v = between-inv 2 8 m q in
      let y : m ≡ plain m.magnitude = sym (plain-is m v.0) in
      ((a, (v.1, v.2)), λ k. Pow (x k) (y k))
  keeps (Inv i) f p q r s = let (a, x) = reference i p in (a, λ k. Inv (x k))

-- What a test decides
pub cond-inv : {A : Type 0} (b : Bool) (x y z : A) → cond b x y ≡ z → ((b ≡ true) × (x ≡ z)) ⊎ ((b ≡ false) × (y ≡ z))
cond-inv true x y z e = inl (refl, e)
cond-inv false x y z e = inr (refl, e)

pub check_sound : (p e : ℕ) (l : TextLine) (o : Op) → HasNumerals l → checked_of p e l ≡ Ok o → WellFormedOp e o × (l ≡ text_line_of o)
unfolding checked_of
check_sound p e l o f h =
    ⊎_elim
    (λ a. ⊎_elim
    (λ b. ⊎_elim
    (λ c. ⊎_elim
    (λ d. let g : op_of l ≡ o = cc d.1 in
    subst (λ (x : Op). WellFormedOp e x × (l ≡ text_line_of x)) g (keeps e l f a.0 b.0 c.0 d.0))
    (λ d. faulty _ d.1)
    (cond-inv (multiplier_fits l) _ _ (Ok o) c.1))
    (λ c. faulty _ c.1)
    (cond-inv (constant_fits l) _ _ (Ok o) b.1))
    (λ b. faulty _ b.1)
    (cond-inv (exponent_fits l) _ _ (Ok o) a.1))
    (λ a. faulty _ a.1)
    (cond-inv (refers_back e l) _ _ (Ok o) h)
  where
    faulty : {X : Type 0} (r : Refusal) → Err r ≡ Ok o → X
    faulty r q = absurd (let z : ◌≡◌ {A = ℕ} 0 1 = cc in omega arith)

-- Which condition a fault is of
pub data Broken (p e : ℕ) (l : TextLine) : Refusal → Type 0 where
  broken-reference : refers_back e l ≡ false → Broken p e l (Reference p)
  broken-exponent : refers_back e l ≡ true → exponent_fits l ≡ false → Broken p e l (Exponent p)
  broken-constant : refers_back e l ≡ true → exponent_fits l ≡ true → constant_fits l ≡ false → Broken p e l (Constant p)
  broken-multiplier : refers_back e l ≡ true → exponent_fits l ≡ true → constant_fits l ≡ true → multiplier_fits l ≡ false
      → Broken p e l (ZeroMultiplier p)

pub fault-sound : (p e : ℕ) (l : TextLine) (r : Refusal) → checked_of p e l ≡ Err r → Broken p e l r
unfolding checked_of
fault-sound p e l r h =
    ⊎_elim
    (λ a. ⊎_elim
    (λ b. ⊎_elim
    (λ c. ⊎_elim
    (λ d. absurd (let q = d.1 in let z : ◌≡◌ {A = ℕ} 0 1 = cc q in omega arith))
    (λ d. told (ZeroMultiplier p) (broken-multiplier a.0 b.0 c.0 d.0) d.1)
    (cond-inv (multiplier_fits l) _ _ (Err r) c.1))
    (λ c. told (Constant p) (broken-constant a.0 b.0 c.0) c.1)
    (cond-inv (constant_fits l) _ _ (Err r) b.1))
    (λ b. told (Exponent p) (broken-exponent a.0 b.0) b.1)
    (cond-inv (exponent_fits l) _ _ (Err r) a.1))
    (λ a. told (Reference p) (broken-reference a.0) a.1)
    (cond-inv (refers_back e l) _ _ (Err r) h)
  where
    told : (x : Refusal) → Broken p e l x → ◌≡◌ {A = Result Op Refusal} (Err x) (Err r) → Broken p e l r
    told x b q = let g : x ≡ r = cc in subst (Broken p e l) g b

pub fault-complete : (p e : ℕ) (l : TextLine) (r : Refusal) → Broken p e l r → checked_of p e l ≡ Err r
unfolding checked_of
fault-complete p e l r (broken-reference a) = simp a
fault-complete p e l r (broken-exponent a b) = simp (a, b)
fault-complete p e l r (broken-constant a b c) = simp (a, b, c)
fault-complete p e l r (broken-multiplier a b c d) = simp (a, b, c, d)

-- A well formed operation is written, and passes the checks
module _ (p e : ℕ) (small : e ≤ 64) where
  pub writes : (o : Op) → WellFormedOp e o → HasNumerals (text_line_of o)
  writes (op.Add i j) (g, h) = (plain-numeral i (omega arith), plain-numeral j (omega arith))
  writes (op.Mul i j) (g, h) = (plain-numeral i (omega arith), plain-numeral j (omega arith))
  writes (op.AddC i c) (g, h) = (plain-numeral i (omega arith), constant-numeral c h)
  writes (op.MulC i c) (g, h, _) = (plain-numeral i (omega arith), constant-numeral c h)
  writes (op.Pow i m) (g, h) = (plain-numeral i (omega arith), plain-numeral m (omega arith))
  writes (op.Inv i) g = plain-numeral i (omega arith)

  earlier : (i : ℕ) → Earlier e i → is_between 1 e (plain i) ≡ true
  earlier i g = between-yes 1 e i g.0 g.1

  constant-fits : (c : ℤ) → nat_abs c ≤ limit → leb (numeral_of c).magnitude limit ≡ true
  constant-fits c h = le-leb (numeral_of c).magnitude limit (rw (abs-numeral c) h)

  multiplier-fits : (c : ℤ) → 1 ≤ nat_abs c → leb 1 (numeral_of c).magnitude ≡ true
  multiplier-fits c h = le-leb 1 (numeral_of c).magnitude (rw (abs-numeral c) h)

  pub check-complete : (o : Op) → WellFormedOp e o → checked_of p e (text_line_of o) ≡ Ok o
  unfolding checked_of refers_back exponent_fits constant_fits multiplier_fits
  check-complete (op.Add i j) (g, h) = simp (earlier i g, earlier j h)
  check-complete (op.Mul i j) (g, h) = simp (earlier i g, earlier j h)
  check-complete (op.AddC i c) (g, h) = simp (earlier i g, constant-fits c h, value-numeral)
  check-complete (op.MulC i c) (g, h, k) = simp (earlier i g, constant-fits c h, multiplier-fits c k, value-numeral)
  check-complete (op.Pow i m) (g, h) = simp (earlier i g, between-yes 2 8 m h.0 h.1)
  check-complete (op.Inv i) g = simp (earlier i g)
