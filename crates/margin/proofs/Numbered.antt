-- The answers by their fields: the refusals' numbers, the table, and that the fields tell the answer: `numbered`, `table`, `fields-tell`. Assumes nothing.
use mathlib.Core.Bool.{cond}
use mathlib.Core.List.{List, Memᴰ}
use mathlib.Core.Logic.{◌↔◌}
use mathlib.Core.Path.{◌≡◌, refl, sym, ap, ◌∙◌}
use Prim.Native.Nat.{ℕ, ◌≤◌}
use native.Mathlib.Omega.{arith}
use lib.Dec.{eqb}
use lib.IntN.{ℤ}
use borrow.Author.Tests.{ne_eqb}
use Rattle.rules.specs.declared.Refusal as rules
use Rattle.engine.specs.declared.Engine.{Engine}
use Rattle.margin.specs.declared.Refusal.{Refusal}
use Rattle.margin.specs.declared.Refusal.TheVariants.{Rate, Ceiling}
use Rattle.margin.specs.InFull.{Edge, Widen, Nowhere, Refused}
use Rattle.margin.specs.Edge.{number_of, place_of, edge_numbers, edge_for, Fields, fields_of}
use Rattle.margin.specs.Promises as Promises
use Rattle.margin.specs.Promises.{EdgeRefusedFor, RefusedWith, EdgeTable, no-codelist, count, range, divisor, overflow}

-- ---- the numbers
pub numbered : (r : Refusal) → Memᴰ (number_of r) edge_numbers
numbered (Rate rules.TheVariants.NoCodelist) = Memᴰ.head refl
numbered (Rate rules.TheVariants.RangeCount) = Memᴰ.tail (Memᴰ.head refl)
numbered (Rate (rules.TheVariants.BadRange a)) = Memᴰ.tail (Memᴰ.tail (Memᴰ.head refl))
numbered (Rate (rules.TheVariants.Divisor k)) = Memᴰ.tail (Memᴰ.tail (Memᴰ.tail (Memᴰ.head refl)))
numbered (Rate (rules.TheVariants.Overflow k)) = Memᴰ.tail (Memᴰ.tail (Memᴰ.tail (Memᴰ.tail (Memᴰ.head refl))))
numbered Ceiling = Memᴰ.tail (Memᴰ.tail (Memᴰ.tail (Memᴰ.tail (Memᴰ.tail (Memᴰ.head refl)))))

-- ---- the table, where each refusal is for what is listed
module _
    (e : Engine) (xs : List ℤ) (ceiling : ℤ)
    (listed : (r : Refusal) → (edge_for e xs ceiling ≡ Refused r) ↔ EdgeRefusedFor e xs ceiling r) where
  with-number : (r : Refusal) → EdgeRefusedFor e xs ceiling r → RefusedWith (edge_for e xs ceiling) (number_of r) (place_of r)
  with-number r t = record { refusal = r; refused = (listed r).1 t; number = refl; place = refl }

  to-table : (r : Refusal) → EdgeRefusedFor e xs ceiling r → EdgeTable e xs ceiling (number_of r) (place_of r)
  to-table (Rate rules.TheVariants.NoCodelist) t = no-codelist t
  to-table (Rate rules.TheVariants.RangeCount) t = count t
  to-table (Rate (rules.TheVariants.BadRange a)) t = range t
  to-table (Rate (rules.TheVariants.Divisor k)) t = divisor t
  to-table (Rate (rules.TheVariants.Overflow k)) t = overflow t
  to-table Ceiling t = Promises.ceiling t

  from-table : {k p : ℕ} → EdgeTable e xs ceiling k p → RefusedWith (edge_for e xs ceiling) k p
  from-table (no-codelist t) = with-number (Rate rules.TheVariants.NoCodelist) t
  from-table (count t) = with-number (Rate rules.TheVariants.RangeCount) t
  from-table (range t) = with-number (Rate (rules.TheVariants.BadRange _)) t
  from-table (divisor t) = with-number (Rate (rules.TheVariants.Divisor _)) t
  from-table (overflow t) = with-number (Rate (rules.TheVariants.Overflow _)) t
  from-table (Promises.ceiling t) = with-number Ceiling t

  pub table : (k p : ℕ) → RefusedWith (edge_for e xs ceiling) k p ↔ EdgeTable e xs ceiling k p
  table k p = (λ w. rw (← w.number, ← w.place) (to-table w.refusal ((listed w.refusal).0 w.refused)), from-table)

-- ---- the fields
-- an answer that widens names a factor
abbrev pub Named : Edge → Type 0
Named (Widen i w) = 1 ≤ i
Named Nowhere = Unit
Named (Refused r) = Unit

-- what four numbers say
refusal-told : ℕ → ℕ → Refusal
refusal-told n p =
    cond (eqb n 10) (Rate rules.TheVariants.NoCodelist)
    (cond (eqb n 8) (Rate rules.TheVariants.RangeCount)
    (cond (eqb n 9) (Rate (rules.TheVariants.BadRange p))
    (cond (eqb n 11) (Rate (rules.TheVariants.Divisor p)) (cond (eqb n 12) (Rate (rules.TheVariants.Overflow p)) Ceiling))))

told : Fields → Edge
told f = cond (eqb f.number 0) (cond (eqb f.factor 0) Nowhere (Widen f.factor f.units)) (Refused (refusal-told f.number f.place))

told_is : (x : Edge) → Named x → told (fields_of x) ≡ x
unfolding told refusal-told
told_is (Widen i w) h = rw (ne_eqb i 0 (λ z. omega (arith, z)))
told_is Nowhere h = refl
told_is (Refused (Rate rules.TheVariants.NoCodelist)) h = refl
told_is (Refused (Rate rules.TheVariants.RangeCount)) h = refl
told_is (Refused (Rate (rules.TheVariants.BadRange a))) h = refl
told_is (Refused (Rate (rules.TheVariants.Divisor k))) h = refl
told_is (Refused (Rate (rules.TheVariants.Overflow k))) h = refl
told_is (Refused Ceiling) h = refl

pub fields-tell : (x y : Edge) → Named x → Named y → fields_of x ≡ fields_of y → x ≡ y
fields-tell x y h k e = sym (told_is x h) ∙ ap told e ∙ told_is y k
