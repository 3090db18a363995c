-- What each outcome of a page is for. Assumes nothing.
use mathlib.Core.Path.{◌≡◌, refl}
use mathlib.Core.Bool.{Bool, true, false, cond, ◌&&◌}
use mathlib.Core.List.{List, Memᴰ}
use mathlib.Core.Logic.{◌↔◌, inl, inr}
use Prim.Native.Nat.{ℕ, ◌%◌}
use native.Mathlib.Omega.{arith}
use borrow.Author.Tests.{leb-true, leb-false, eqb-true, eqb-false}
use lib.Dec.{leb, eqb}
use lib.IntN.{ℤ}
use lib.ListN.{length}
use Rattle.codelist.specs.declared.Codelist.{Codelist}
use Rattle.codelist.specs.Codelist.{Ratable, ratable}
use Rattle.codelist.proofs.Ratable.{decides}
use Rattle.boats.specs.declared.Report.{Report}
use Rattle.boats.specs.declared.Refusal.{Refusal}
use Rattle.boats.specs.declared.Refusal.TheVariants.{NoCodelist, Boats}
use Rattle.boats.specs.InFull.{Reported, Refused}
use Rattle.boats.specs.InFull.{Counted}
use Rattle.boats.specs.Fleet.{number_of, fleet_numbers, no_report, reported, refused}
use Rattle.boats.specs.Promises.{RefusedFor, TooMany, NoRecords}
use Rattle.boats.proofs.Leading.{clash}

-- a page, by its two tests
abbrev pub paged : Bool → Bool → Report → Counted
paged r q x = cond r (cond q (reported x) (refused Boats)) (refused NoCodelist)

differ : {A : Type 0} → ◌≡◌ {A = ℕ} 0 1 → A
differ z = let f : ⊥ = omega arith in absurd f

pub listed-number : (f : Refusal) → Memᴰ (number_of f) fleet_numbers
listed-number NoCodelist = Memᴰ.head refl
listed-number Boats = Memᴰ.tail (Memᴰ.head refl)

-- after a refusal every figure is 0
pub paged-zero : (r q : Bool) (x : Report) (f : Refusal) → (paged r q x).outcome ≡ Refused f → (paged r q x).report ≡ no_report
paged-zero false q x f p = refl
paged-zero true false x f p = refl
paged-zero true true x f p = differ (cc p)

module _ (c : Codelist) (wrong : Type 0) where
  listed : (r q : Bool) (x : Report) → ratable c ≡ r → (q ≡ true → ¬ wrong) → (q ≡ false → wrong) → (f : Refusal)
      → ((paged r q x).outcome ≡ Refused f) ↔ RefusedFor c wrong f
  listed false q x e g h NoCodelist = (λ p s. clash ((decides c).1 s) e, λ p. refl)
  listed false q x e g h Boats = (λ p. differ (cc p), λ p. clash ((decides c).1 p.0) e)
  listed true true x e g h NoCodelist = (λ p. differ (cc p), λ p. absurd (p ((decides c).0 e)))
  listed true true x e g h Boats = (λ p. differ (cc p), λ p. absurd (g refl p.1))
  listed true false x e g h NoCodelist = (λ p. differ (cc p), λ p. absurd (p ((decides c).0 e)))
  listed true false x e g h Boats = (λ p. ((decides c).0 e, h refl), λ p. refl)

  otherwise : (r q : Bool) (x : Report) → ratable c ≡ r → (q ≡ true → ¬ wrong) → (q ≡ false → wrong)
      → ((paged r q x).outcome ≡ Reported) ↔ (Ratable c × (¬ wrong))
  otherwise false q x e g h = (λ p. differ (cc p), λ p. clash ((decides c).1 p.0) e)
  otherwise true true x e g h = (λ p. ((decides c).0 e, g refl), λ p. refl)
  otherwise true false x e g h = (λ p. differ (cc p), λ p. absurd (p.1 (h refl)))

module _ (c : Codelist) (bs : List (List ℤ)) (x : Report) where
  fine : leb (length bs) 1000 ≡ true → ¬ (TooMany bs)
  fine e w = omega (arith, leb-true (length bs) 1000 e, w)

  pub page-listed : (f : Refusal) → ((paged (ratable c) (leb (length bs) 1000) x).outcome ≡ Refused f) ↔ RefusedFor c (TooMany bs) f
  page-listed f = listed c (TooMany bs) (ratable c) (leb (length bs) 1000) x refl fine (leb-false (length bs) 1000) f

  pub page-otherwise : ((paged (ratable c) (leb (length bs) 1000) x).outcome ≡ Reported) ↔ (Ratable c × (¬ (TooMany bs)))
  page-otherwise = otherwise c (TooMany bs) (ratable c) (leb (length bs) 1000) x refl fine (leb-false (length bs) 1000)

module _ (c : Codelist) (xs : List ℤ) (x : Report) where
  abbrev test : Bool
  test = leb (length xs) 8000 && eqb (length xs % 8) 0

  whole : (a b : Bool) → leb (length xs) 8000 ≡ a → eqb (length xs % 8) 0 ≡ b → (a && b) ≡ true → ¬ (NoRecords xs)
  whole true true e f p (inl w) = omega (arith, leb-true (length xs) 8000 e, w)
  whole true true e f p (inr w) = w (eqb-true (length xs % 8) 0 f)
  whole true false e f p w = clash p refl
  whole false b e f p w = clash p refl

  broken : (a b : Bool) → leb (length xs) 8000 ≡ a → eqb (length xs % 8) 0 ≡ b → (a && b) ≡ false → NoRecords xs
  broken true true e f p = clash refl p
  broken true false e f p = inr (eqb-false (length xs % 8) 0 f)
  broken false b e f p = inl (leb-false (length xs) 8000 e)

  pub numbers-listed : (f : Refusal) → ((paged (ratable c) test x).outcome ≡ Refused f) ↔ RefusedFor c (NoRecords xs) f
  numbers-listed f = listed c (NoRecords xs) (ratable c) test x refl (whole _ _ refl refl) (broken _ _ refl refl) f

  pub numbers-otherwise : ((paged (ratable c) test x).outcome ≡ Reported) ↔ (Ratable c × (¬ (NoRecords xs)))
  numbers-otherwise = otherwise c (NoRecords xs) (ratable c) test x refl (whole _ _ refl refl) (broken _ _ refl refl)
