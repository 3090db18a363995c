-- Outcomes: what the engine's come to, and what holds of a call where the class number is tested first. Assumes nothing.
use Prim.Native.Nat.{ℕ}
use mathlib.Core.Bool.{Bool, true, false, cond, true≢false}
use mathlib.Core.List.{List, ◌∷◌, Memᴰ}
use mathlib.Core.Logic.{◌↔◌}
use mathlib.Core.Path.{◌≡◌, refl, sym, ap, ◌∙◌}
use native.Mathlib.Omega.{arith}
use Rattle.codelist.specs.declared.Refusal as codelist
use Rattle.rules.specs.declared.Refusal as rules
use Rattle.formulas.specs.declared.Refusal as formulas
use Rattle.engine.specs.declared.Refusal as engine
use Rattle.engine.specs.InFull as engine-outcome
use Rattle.engine.specs.Engine as Engine
use Rattle.engine.specs.Refusals as engines
use Rattle.boats.specs.declared.Refusal as boats
use Rattle.boats.specs.InFull as fleet-outcome
use Rattle.bisection.specs.declared.Refusal as bisection
use Rattle.bisection.specs.InFull as cut-outcome
use Rattle.margin.specs.declared.Refusal as margin
use Rattle.classes.specs.declared.Refusal as refusal
use Rattle.classes.specs.declared.Refusal.{Refusal}
use Rattle.classes.specs.InFull.{Outcome, Accepted, Refused}
use Rattle.classes.specs.Calls.{number_of, place_of, engine_outcome, cut_outcome, fleet_outcome}
use Rattle.classes.specs.Demands.{RefusedWith}

-- an accepted outcome is no refusal
pub not-both : {A : Type 0} {r : Refusal} → Accepted ≡ Refused r → A
not-both e = let z : ◌≡◌ {A = ℕ} 0 1 = cc in absurd (omega arith)

-- ---- the engine's outcomes
pub was-accepted : (o : engine-outcome.Outcome) → engine_outcome o ≡ Accepted → o ≡ engine-outcome.Accepted
was-accepted engine-outcome.Accepted h = refl
was-accepted (engine-outcome.Refused r) h = not-both (sym h)

-- a refusal is one of the call's own
pub record WasRefused {O Q : Type 0} (refused : Q → O) (wrapped : Q → Refusal) (o : O) (r : Refusal) : Type 0 where
  pub own : Q
  pub outcome : o ≡ refused own
  pub is : wrapped own ≡ r

abbrev pub EngineRefused : engine-outcome.Outcome → Refusal → Type 0
EngineRefused = WasRefused engine-outcome.Refused refusal.TheVariants.Engine

pub was-refused : (o : engine-outcome.Outcome) (r : Refusal) → engine_outcome o ≡ Refused r → EngineRefused o r
was-refused engine-outcome.Accepted r h = not-both h
was-refused (engine-outcome.Refused q) r h = record { own = q; outcome = refl; is = cc }

pub cut-refused : (o : cut-outcome.Outcome) (r : Refusal) → cut_outcome o ≡ Refused r → WasRefused cut-outcome.Refused refusal.TheVariants.Cut o r
cut-refused cut-outcome.Accepted r h = not-both h
cut-refused (cut-outcome.Refused q) r h = record { own = q; outcome = refl; is = cc }

pub fleet-refused : (o : fleet-outcome.Outcome) (r : Refusal) → fleet_outcome o ≡ Refused r
    → WasRefused fleet-outcome.Refused refusal.TheVariants.Fleet o r
fleet-refused fleet-outcome.Reported r h = not-both h
fleet-refused (fleet-outcome.Refused q) r h = record { own = q; outcome = refl; is = cc }

-- exactly with the engine's own number and place
pub refused-with : (o : engine-outcome.Outcome) (n p : ℕ) → RefusedWith (engine_outcome o) n p ↔ engines.RefusedWith o n p
refused-with o n p = (
  λ w.
      let q = was-refused o w.refusal w.refused in
      record { refusal = q.own; refused = q.outcome; number = ap number_of q.is ∙ w.number; place = ap place_of q.is ∙ w.place },
  λ w. record {
    refusal = refusal.TheVariants.Engine w.refusal;
    refused = ap engine_outcome w.refused;
    number = w.number;
    place = w.place;
  },
)

-- exactly by the engine's own refusal
pub refused-by : (o : engine-outcome.Outcome) (q : engine.Refusal)
    → (engine_outcome o ≡ Refused (refusal.TheVariants.Engine q)) ↔ (o ≡ engine-outcome.Refused q)
refused-by o q = (λ h. go (was-refused o _ h), λ h. ap engine_outcome h)
  where
    go : EngineRefused o (refusal.TheVariants.Engine q) → o ≡ engine-outcome.Refused q
    go w = let e : w.own ≡ q = cc w.is in w.outcome ∙ ap engine-outcome.Refused e

pub accepted-by : (o : engine-outcome.Outcome) → (engine_outcome o ≡ Accepted) ↔ (o ≡ engine-outcome.Accepted)
accepted-by o = (was-accepted o, λ h. ap engine_outcome h)

-- ---- no call has 21 of its own
rules-other : (r : rules.Refusal) → ¬ (Engine.number_of (engine.TheVariants.Rate r) ≡ 21)
rules-other rules.TheVariants.NoCodelist e = omega arith
rules-other rules.TheVariants.RangeCount e = omega arith
rules-other (rules.TheVariants.BadRange a) e = omega arith
rules-other (rules.TheVariants.Divisor k) e = omega arith
rules-other (rules.TheVariants.Overflow k) e = omega arith

load-other : (r : codelist.Refusal) → ¬ (Engine.number_of (engine.TheVariants.Load r) ≡ 21)
load-other codelist.TheVariants.TooLong e = omega arith
load-other (codelist.TheVariants.Malformed p) e = omega arith
load-other codelist.TheVariants.FactorCount e = omega arith
load-other codelist.TheVariants.UnknownYear e = omega arith
load-other (codelist.TheVariants.TooManyLines p) e = omega arith
load-other codelist.TheVariants.NoOperation e = omega arith
load-other (codelist.TheVariants.Reference p) e = omega arith
load-other (codelist.TheVariants.Exponent p) e = omega arith
load-other (codelist.TheVariants.Constant p) e = omega arith
load-other (codelist.TheVariants.ZeroMultiplier p) e = omega arith

other : (r : Refusal) → number_of r ≡ 21 → r ≡ refusal.TheVariants.Class
other refusal.TheVariants.Class e = refl
other (refusal.TheVariants.Engine (engine.TheVariants.Load r)) e = absurd (load-other r e)
other (refusal.TheVariants.Engine (engine.TheVariants.Rate r)) e = absurd (rules-other r e)
other (refusal.TheVariants.Engine (engine.TheVariants.Formula (formulas.TheVariants.Text p))) e = absurd (omega arith)
other (refusal.TheVariants.Engine (engine.TheVariants.Formula formulas.TheVariants.Constants)) e = absurd (omega arith)
other (refusal.TheVariants.Cut bisection.TheVariants.Depth) e = absurd (omega arith)
other (refusal.TheVariants.Cut (bisection.TheVariants.Rate r)) e = absurd (rules-other r e)
other (refusal.TheVariants.Fleet boats.TheVariants.NoCodelist) e = absurd (omega arith)
other (refusal.TheVariants.Fleet boats.TheVariants.Boats) e = absurd (omega arith)
other (refusal.TheVariants.Edge (margin.TheVariants.Rate r)) e = absurd (rules-other r e)
other (refusal.TheVariants.Edge margin.TheVariants.Ceiling) e = absurd (omega arith)

-- an outcome of its own: not refused for the class
abbrev pub Own : Outcome → Type 0
Own o = ¬ (o ≡ Refused refusal.TheVariants.Class)

pub engine-own : (o : engine-outcome.Outcome) → Own (engine_outcome o)
engine-own engine-outcome.Accepted h = not-both h
engine-own (engine-outcome.Refused r) h = let z : ◌≡◌ {A = ℕ} 0 1 = cc in omega arith

pub cut-own : (o : cut-outcome.Outcome) → Own (cut_outcome o)
cut-own cut-outcome.Accepted h = not-both h
cut-own (cut-outcome.Refused r) h = let z : ◌≡◌ {A = ℕ} 0 1 = cc in omega arith

pub fleet-own : (o : fleet-outcome.Outcome) → Own (fleet_outcome o)
fleet-own fleet-outcome.Reported h = not-both h
fleet-own (fleet-outcome.Refused r) h = let z : ◌≡◌ {A = ℕ} 0 1 = cc in omega arith

-- ---- a call whose answer is x where the number is a class's, and else u, which is refused for that
module _ {A : Type 0} (f : A → Outcome) (x u : A) (is : f u ≡ Refused refusal.TheVariants.Class) where
  pub unknown-if : (b : Bool) → Own (f x) → RefusedWith (f (cond b x u)) 21 0 ↔ (b ≡ false)
  unknown-if true n = (λ w. absurd (n (w.refused ∙ ap Refused (other w.refusal w.number))), λ e. absurd (true≢false e))
  unknown-if false n = (λ w. refl, λ e. record { refusal = refusal.TheVariants.Class; refused = is; number = refl; place = refl })

  pub numbers-if : (b : Bool) (ns : List ℕ) → ((r : Refusal) → f x ≡ Refused r → Memᴰ (number_of r) ns)
      → (r : Refusal) → f (cond b x u) ≡ Refused r → Memᴰ (number_of r) (21 ∷ ns)
  numbers-if true ns n r h = Memᴰ.tail (n r h)
  numbers-if false ns n r h = let e : refusal.TheVariants.Class ≡ r = cc (is, h) in rw (← e) (Memᴰ.head refl)

  -- g of it, which is z of u, is z after a refusal
  pub after-refusal : {B : Type 0} (g : A → B) (z : B) (b : Bool) → ((r : Refusal) → f x ≡ Refused r → g x ≡ z) → g u ≡ z
      → (r : Refusal) → f (cond b x u) ≡ Refused r → g (cond b x u) ≡ z
  after-refusal g z true n e r h = n r h
  after-refusal g z false n e r h = e
