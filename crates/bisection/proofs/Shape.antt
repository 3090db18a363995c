-- A rating has limits, or is refused with none: of the parts, and of plain rating. Assumes nothing.
use mathlib.Core.Path.{◌≡◌, refl, ap, ◌∙◌}
use mathlib.Core.Bool.{Bool, true, false, cond}
use mathlib.Core.List.{List}
use mathlib.Core.Logic.{◌⊎◌, inl, inr}
use Prim.Native.Nat.{ℕ, zero, suc}
use native.Mathlib.Omega.{arith}
use lib.IntN.{ℤ}
use Rattle.codelist.specs.declared.Codelist.{Codelist}
use Rattle.range.specs.declared.Range.{Range}
use Rattle.rules.specs.declared.Refusal.{Refusal}
use Rattle.rules.specs.InFull.{Outcome}
use Rattle.rules.specs.InFull.{Rated, Refused}
use Rattle.rules.specs.declared.Limits.{Limits}
use Rattle.rules.specs.InFull.{Rating}
use Rattle.rules.specs.Run.{Lines, through, stopped, lines_of}
use Rattle.rules.specs.Rate.{rated, refused, finished, rate_ranges, rate_of}
use Rattle.rules.specs.Refused.{RefusedFor}
use Rattle.rules.proofs.Refused.{refused-exactly}
use Rattle.bisection.specs.Cut.{hulled_by, hulled, narrow, lower_part, upper_part, parts}

pub data Shape (x : Rating) : Type 0 where
  with-limits : (l : Limits) → x ≡ rated l → Shape x
  with_none : (r : Refusal) → x ≡ refused r → Shape x

shape-lines : (n : ℕ) (u : Lines) → Shape (finished n u)
shape-lines n (through ls) = with-limits _ refl
shape-lines n (stopped r) = with_none r refl

shape-plain : (c : Codelist) (rs : List Range) → Shape (rate_ranges c rs 0)
unfolding rate_ranges
shape-plain c rs = shape-lines c.factors (lines_of c rs)

shape-hulled : (o u : Outcome) (l m : Limits) → Shape (hulled_by o l u m)
shape-hulled (Refused r) u l m = with_none r refl
shape-hulled Rated (Refused r) l m = with_none r refl
shape-hulled Rated Rated l m = with-limits _ refl

pub shape-parts : (d : ℕ) (c : Codelist) (rs : List Range) → Shape (parts d c rs)
unfolding parts
shape-parts zero c rs = shape-plain c rs
shape-parts (suc d) c rs = go (narrow rs)
  where
    go : (b : Bool) → Shape (cond b (rate_ranges c rs 0) (hulled (parts d c (lower_part rs)) (parts d c (upper_part rs))))
    go true = shape-plain c rs
    go false = let x = parts d c (lower_part rs) in let y = parts d c (upper_part rs) in shape-hulled x.outcome y.outcome x.limits y.limits

pub shape-rating : (c : Codelist) (xs : List ℤ) → Shape (rate_of c xs)
shape-rating c xs = go (refused-exactly.decided c xs)
  where
    go : ((l : Limits) × (rate_of c xs ≡ rated l)) ⊎ ((r : Refusal) × RefusedFor c xs r) → Shape (rate_of c xs)
    go (inl p) = with-limits p.0 p.1
    go (inr p) = with_none p.0 ((refused-exactly.where-listed c xs p.0).1 p.1)

-- the whole rating, by its outcome
pub rated-by : {x : Rating} → Shape x → x.outcome ≡ Rated → (l : Limits) × (x ≡ rated l)
rated-by (with-limits l e) h = (l, e)
rated-by (with_none r e) h = let o = ap (λ (a : Rating). a.outcome) e in let z : ◌≡◌ {A = ℕ} 0 1 = cc in absurd (omega arith)

pub refused-by : {x : Rating} {r : Refusal} → Shape x → x.outcome ≡ Refused r → x ≡ refused r
refused-by (with-limits l e) h = let o = ap (λ (a : Rating). a.outcome) e in let z : ◌≡◌ {A = ℕ} 0 1 = cc in absurd (omega arith)
refused-by {x} {r} (with_none q e) h =
    let o : x.outcome ≡ Refused q = ap (λ (a : Rating). a.outcome) e in
    let s : q ≡ r = cc in
    e ∙ ap refused s
