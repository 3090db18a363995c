-- The refusals by number and place: `numbered`, `table`. Assumes nothing.
use mathlib.Core.Path.{◌≡◌, refl}
use mathlib.Core.List.{List, Memᴰ}
use mathlib.Core.Logic.{◌↔◌}
use Prim.Native.Nat.{ℕ}
use lib.IntN.{ℤ}
use Rattle.rules.specs.declared.Refusal as rules
use Rattle.engine.specs.declared.Engine.{Engine}
use Rattle.bisection.specs.declared.Refusal.{Refusal}
use Rattle.bisection.specs.declared.Refusal.TheVariants.{Depth, Rate}
use Rattle.bisection.specs.InFull.{Refused}
use Rattle.bisection.specs.Cut.{number_of, place_of, cut_numbers, cut_of}
use Rattle.bisection.specs.Promises.{CutRefusedFor, RefusedWith, CutTable, no-codelist, depth, count, range, divisor, overflow}

-- ---- the numbers
number : (r : rules.Refusal) → Memᴰ (number_of (Rate r)) cut_numbers
number rules.TheVariants.NoCodelist = Memᴰ.head refl
number rules.TheVariants.RangeCount = Memᴰ.tail (Memᴰ.tail (Memᴰ.head refl))
number (rules.TheVariants.BadRange a) = Memᴰ.tail (Memᴰ.tail (Memᴰ.tail (Memᴰ.head refl)))
number (rules.TheVariants.Divisor k) = Memᴰ.tail (Memᴰ.tail (Memᴰ.tail (Memᴰ.tail (Memᴰ.head refl))))
number (rules.TheVariants.Overflow k) =
    Memᴰ.tail (Memᴰ.tail (Memᴰ.tail (Memᴰ.tail (Memᴰ.tail (Memᴰ.head refl)))))

pub numbered : (r : Refusal) → Memᴰ (number_of r) cut_numbers
numbered Depth = Memᴰ.tail (Memᴰ.head refl)
numbered (Rate r) = number r

-- ---- the table, where each refusal is for what is listed
module _
    (e : Engine) (xs : List ℤ) (d : ℤ)
    (listed : (r : Refusal) → ((cut_of e xs d).outcome ≡ Refused r) ↔ CutRefusedFor e.codelist xs d r) where
  with-number : (r : Refusal) → CutRefusedFor e.codelist xs d r → RefusedWith (cut_of e xs d).outcome (number_of r) (place_of r)
  with-number r t = record { refusal = r; refused = (listed r).1 t; number = refl; place = refl }

  to-table : (r : Refusal) → CutRefusedFor e.codelist xs d r → CutTable e.codelist xs d (number_of r) (place_of r)
  to-table Depth t = depth t
  to-table (Rate rules.TheVariants.NoCodelist) t = no-codelist t
  to-table (Rate rules.TheVariants.RangeCount) t = count t
  to-table (Rate (rules.TheVariants.BadRange a)) t = range t
  to-table (Rate (rules.TheVariants.Divisor k)) t = divisor t
  to-table (Rate (rules.TheVariants.Overflow k)) t = overflow t

  from-table : {k p : ℕ} → CutTable e.codelist xs d k p → RefusedWith (cut_of e xs d).outcome k p
  from-table (depth t) = with-number Depth t
  from-table (no-codelist t) = with-number (Rate rules.TheVariants.NoCodelist) t
  from-table (count t) = with-number (Rate rules.TheVariants.RangeCount) t
  from-table (range t) = with-number (Rate (rules.TheVariants.BadRange _)) t
  from-table (divisor t) = with-number (Rate (rules.TheVariants.Divisor _)) t
  from-table (overflow t) = with-number (Rate (rules.TheVariants.Overflow _)) t

  pub table : (k p : ℕ) → RefusedWith (cut_of e xs d).outcome k p ↔ CutTable e.codelist xs d k p
  table k p = (λ w. rw (← w.number, ← w.place) (to-table w.refusal ((listed w.refusal).0 w.refused)), from-table)
