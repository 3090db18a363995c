-- The year fields that name a year: absent, 2016 and 2014.
use Prim.Native.Nat.{ℕ, ◌≤◌}
use mathlib.Core.Bool.{true, false}
use mathlib.Core.Logic.{⊎_elim}
use mathlib.Core.Option.{some, none}
use mathlib.Core.Path.{◌≡◌, refl, sym, subst}
use native.Mathlib.Omega.{arith}
use lib.Dec.{eqb, lit<, lit≤}
use lib.ListN.{length}
use borrow.Author.Tests.{eqb-true}
use Rattle.codelist.specs.declared.Codelist.{Codelist}
use Rattle.codelist.specs.declared.Year.{Year}
use Rattle.codelist.specs.declared.Year.TheVariants.{Y2016, Y2014}
use Rattle.codelist.specs.Text.{YearField, absent, written, HasYear, decimal, numeral_text, year_text, year_of}
use Rattle.codelist.specs.Write.{plain, year2016, year2014, field_of, IsText, text_of}
use Rattle.codelist.proofs.Checks.{plain-numeral, cond-inv}

pub data Naming (f : YearField) (y : Year) : Type 0 where
  by-absence : f ≡ absent → y ≡ Y2016 → Naming f y
  by-2016 : f ≡ year2016 → y ≡ Y2016 → Naming f y
  by-2014 : f ≡ year2014 → y ≡ Y2014 → Naming f y

year-is : {x y : Year} → some x ≡ some y → y ≡ x
year-is e = sym (cc e)

no-year : {X : Type 0} {y : Year} → none ≡ some y → X
no-year e = absurd (let z : ◌≡◌ {A = ℕ} 0 1 = cc e in omega arith)

pub naming : (f : YearField) (y : Year) → year_of f ≡ some y → Naming f y
unfolding year_of
naming absent y e = by-absence refl (year-is e)
naming (written w) y e =
    ⊎_elim
    (λ a. no-year a.1)
    (λ a. ⊎_elim
    (λ b. by-2016 (is 2016 a.0 b.0) (year-is b.1))
    (λ b. ⊎_elim
    (λ d. by-2014 (is 2014 a.0 d.0) (year-is d.1))
    (λ d. no-year d.1)
    (cond-inv (eqb w.magnitude 2014) _ _ (some y) b.1))
    (cond-inv (eqb w.magnitude 2016) _ _ (some y) a.1))
    (cond-inv w.negative _ _ (some y) e)
  where
    is : (k : ℕ) → w.negative ≡ false → eqb w.magnitude k ≡ true → written w ≡ written (plain k)
    is k p q = let m = eqb-true w.magnitude k q in λ i. written (record { negative = p i; magnitude = m i })

-- Such a field is of its form, and short
module _ (f : YearField) (y : Year) (e : year_of f ≡ some y) where
  pub year-numeral : HasYear f
  year-numeral = go (naming f y e)
    where
      go : Naming f y → HasYear f
      go (by-absence p q) = subst HasYear (sym p) tt
      go (by-2016 p q) = subst HasYear (sym p) (plain-numeral 2016 (lit< tt))
      go (by-2014 p q) = subst HasYear (sym p) (plain-numeral 2014 (lit< tt))

  pub year-short : length (year_text f) ≤ 5
  unfolding numeral_text decimal
  year-short = go (naming f y e)
    where
      go : Naming f y → length (year_text f) ≤ 5
      go (by-absence p q) = rw p (lit≤ tt)
      go (by-2016 p q) = rw p (lit≤ tt)
      go (by-2014 p q) = rw p (lit≤ tt)

  -- what is written for the year is no longer
  pub field-least : length (year_text (field_of y)) ≤ length (year_text f)
  unfolding numeral_text decimal
  field-least = go (naming f y e)
    where
      go : Naming f y → length (year_text (field_of y)) ≤ length (year_text f)
      go (by-absence p q) = rw (p, q) (lit≤ tt)
      go (by-2016 p q) = rw (p, q) (lit≤ tt)
      go (by-2014 p q) = rw (p, q) (lit≤ tt)

-- What is written for a codelist is a text of it
own-field : (y : Year) → year_of (field_of y) ≡ some y
unfolding year_of
own-field Y2016 = refl
own-field Y2014 = refl

pub own-text : (c : Codelist) → IsText c (text_of c)
unfolding text_of
own-text c = record { field = field_of c.year; names = own-field c.year; text = refl }
