-- Swapped references, line by line: the two lines are checked alike, and two texts are read alike, from the front. Assumes nothing.
use Prim.Native.Nat.{ℕ}
use mathlib.Core.Bool.{Bool, true, false, cond, and_comm}
use mathlib.Core.List.{List, ◌∷◌, ◌++◌}
use mathlib.Core.Path.{◌≡◌, refl, sym, subst, ◌∙◌}
use Rattle.std.specs.declared.result.Result.{Result}
use Rattle.std.specs.declared.result.Result.TheVariants.{Ok, Err}
use Rattle.codelist.specs.declared.Op.{Op}
use Rattle.codelist.specs.declared.Refusal.{Refusal}
use Rattle.codelist.specs.declared.Refusal.TheVariants.{Reference}
use Rattle.codelist.specs.Text.{TextLine, Add, Mul, HasNumerals, line_text, first_text}
use Rattle.codelist.specs.Conditions.{is_between, refers_back, exponent_fits, constant_fits, multiplier_fits}
use Rattle.codelist.specs.Read.{Read, good, bad, peek, literal, operation_line, first_line}
use Rattle.codelist.specs.Load.{op_of, checked_of}
use Rattle.codelist.specs.Exchange.{ExchangedOp, kept, add, mul, ExchangedLine, add_line, mul_line, ExchangedText, left, whole, swapped}
use Rattle.codelist.proofs.NumeralTexts.{never}
use Rattle.codelist.proofs.LineTexts.{line-sound, line-complete, first-sound, first-complete}
use Rattle.codelist.proofs.WholeLines.{line-whole, first-whole, followed}

-- ---- one line
-- 5 asks the same of either reference
refers-alike : (e : ℕ) {l m : TextLine} → ExchangedLine l m → refers_back e l ≡ refers_back e m
unfolding refers_back
refers-alike e (add_line i j) = and_comm (is_between 1 e i) (is_between 1 e j)
refers-alike e (mul_line i j) = and_comm (is_between 1 e i) (is_between 1 e j)

op-alike : {l m : TextLine} → ExchangedLine l m → ExchangedOp (op_of l) (op_of m)
op-alike (add_line i j) = add i.magnitude j.magnitude
op-alike (mul_line i j) = mul i.magnitude j.magnitude

numerals-alike : {l m : TextLine} → ExchangedLine l m → HasNumerals l → HasNumerals m
numerals-alike (add_line i j) (f, g) = (g, f)
numerals-alike (mul_line i j) (f, g) = (g, f)

pub data LineAlike : TextLine → TextLine → Type 0 where
  same : (l : TextLine) → LineAlike l l
  other : {l m : TextLine} → ExchangedLine l m → LineAlike l m

pub data CheckedAlike : Result Op Refusal → Result Op Refusal → Type 0 where
  fault : (r : Refusal) → CheckedAlike (Err r) (Err r)
  fine : {o u : Op} → ExchangedOp o u → CheckedAlike (Ok o) (Ok u)

where-fine : (b : Bool) (r : Refusal) {o u : Op} → ExchangedOp o u → CheckedAlike (cond b (Ok o) (Err r)) (cond b (Ok u) (Err r))
where-fine true r h = fine h
where-fine false r h = fault r

-- 6, 7 and 15 ask nothing of a line with two references
pub checked-alike : (p e : ℕ) {l m : TextLine} → LineAlike l m → CheckedAlike (checked_of p e l) (checked_of p e m)
unfolding checked_of exponent_fits constant_fits multiplier_fits
checked-alike p e (same l) = either (checked_of p e l)
  where
    either : (x : Result Op Refusal) → CheckedAlike x x
    either (Ok o) = fine (kept o)
    either (Err r) = fault r
checked-alike p e (other (add_line i j)) = rw (refers-alike e (add_line i j)) (where-fine (refers_back e (Add j i)) (Reference p) (op-alike (add_line i j)))
checked-alike p e (other (mul_line i j)) = rw (refers-alike e (mul_line i j)) (where-fine (refers_back e (Mul j i)) (Reference p) (op-alike (mul_line i j)))

-- ---- reading
-- What is found: nothing on either side, or what is related, and then texts with swapped references
pub data ReadAlike {A : Type 0} (R : A → A → Type 0) : Read A → Read A → Type 0 where
  neither : ReadAlike R bad bad
  each : {x y : A} {s t : List ℕ} → R x y → ExchangedText s t → ReadAlike R (good x s) (good y t)

module _ {A : Type 0} (R : A → A → Type 0) (r : (x : A) → R x x) where
  -- in one text
  read_same : (x : Read A) → ReadAlike R x x
  read_same (good x s) = each (r x) (left s)
  read_same bad = neither

  -- in a line that is kept
  read_whole : (read : List ℕ → Read A) (l : List ℕ) {s t : List ℕ}
      → ((u v : List ℕ) (x : A) (w : List ℕ) → read (l ++ (10 ∷ u)) ≡ good x w → (w ≡ u) × (read (l ++ (10 ∷ v)) ≡ good x v))
      → ExchangedText s t → ReadAlike R (read (l ++ (10 ∷ s))) (read (l ++ (10 ∷ t)))
  read_whole read l {s} {t} f h = go (read (l ++ (10 ∷ s))) refl (read (l ++ (10 ∷ t))) refl
    where
      go : (a : Read A) → read (l ++ (10 ∷ s)) ≡ a → (b : Read A) → read (l ++ (10 ∷ t)) ≡ b → ReadAlike R a b
      go (good x w) e b g = let (p, q) = f s t x w e in subst (ReadAlike R (good x w)) (sym q ∙ g) (rw p (each (r x) h))
      go bad e bad g = neither
      go bad e (good y w) g = never y s (sym e ∙ (f t s y w g).1)

pub lines-read : {s t : List ℕ} → ExchangedText s t → ReadAlike LineAlike (operation_line s) (operation_line t)
lines-read (left s) = read_same LineAlike same (operation_line s)
lines-read (whole l w h) =
    read_whole LineAlike same operation_line l
    (λ u v. followed operation_line line_text
    (λ s x t e. let a = line-sound s x t e in (a.text, λ b. line-complete x b a.fine)) line-whole l u v w) h
lines-read (swapped {l} {m} {s} {t} e n h) = rw (line-complete l s n, line-complete m t (numerals-alike e n)) (each (other e) h)

-- a line with references is no first line
pub first_read : {s t : List ℕ} → ExchangedText s t → ReadAlike ◌≡◌ (first_line s) (first_line t)
unfolding first_line literal peek
first_read (left s) = read_same ◌≡◌ (λ x. refl) (first_line s)
first_read (whole l w h) =
    read_whole ◌≡◌ (λ x. refl) first_line l
    (λ u v. followed first_line (λ p. first_text p.0 p.1)
    (λ s x t e. let a = first-sound s x t e in (a.text, λ b. first-complete x.0 x.1 b a.fine a.year))
    (λ p. first-whole p.0 p.1) l u v w) h
first_read (swapped (add_line i j) n h) = neither
first_read (swapped (mul_line i j) n h) = neither
