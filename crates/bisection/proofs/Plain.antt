-- Plain rating of ranges that passed 8 and 9, as a rating of their ends. Assumes nothing.
use mathlib.Core.Path.{◌≡◌, refl, ap, subst, ◌∙◌}
use mathlib.Core.Bool.{true}
use mathlib.Core.List.{List, [], ◌∷◌}
use Prim.Native.Nat.{ℕ, suc, ◌*◌}
use native.Mathlib.Omega.{arith}
use lib.IntN.{ℤ}
use lib.ListN.{length}
use borrow.Author.Tests.{eq-eqb}
use Rattle.codelist.specs.declared.Codelist.{Codelist}
use Rattle.codelist.specs.Codelist.{Ratable}
use Rattle.codelist.proofs.Ratable.{decides}
use Rattle.range.specs.declared.Range.{Range}
use Rattle.range.specs.Limit.{is_valid}
use Rattle.range.proofs.Valid.{T_true}
use Rattle.rules.specs.declared.Limits.{Limits}
use Rattle.rules.specs.InFull.{Rating}
use Rattle.rules.specs.Rate.{limits_of, rated, pairs, first_bad, rate_ranges, rate_of}
use Rattle.rules.specs.Exact.{Point}
use Rattle.rules.specs.Promises.{Sound, Shaped}
use Rattle.rules.specs.Figures.{ends}
use Rattle.rules.proofs.Accepted.{accepted}
use Rattle.rules.proofs.Sound.{sound}
use Rattle.rules.proofs.Shaped.{shaped}
use Rattle.engine.specs.Engine.{outcome_of, rated_of}
use Rattle.engine.proofs.Validity as Validity
use Rattle.bisection.specs.Promises.{Holds, PartOf, plain}
use Rattle.bisection.proofs.Covers.{Valid, part-valid}
use Rattle.bisection.proofs.Wider.{Lifted}

-- ---- ranges and their ends
pub pairs-ends : (rs : List Range) → pairs (ends rs) ≡ rs
pairs-ends [] = refl
pairs-ends (r ∷ rs) = ap (λ ts. r ∷ ts) (pairs-ends rs)

pub length-ends : (rs : List Range) → length (ends rs) ≡ 2 * length rs
length-ends [] = refl
length-ends (r ∷ rs) = omega (arith, length-ends rs)

pub none-bad : (a : ℕ) (rs : List Range) → Valid rs → first_bad a rs ≡ 0
unfolding first_bad
none-bad a [] v = refl
none-bad a (r ∷ rs) v = let e : is_valid r ≡ true = T_true (v 0) in rw e (none-bad (suc a) rs (λ i. v (suc i)))

-- ranges that 10, 8 and 9 do not refuse
pub record Ready (c : Codelist) (rs : List Range) : Type 0 where
  pub codelist : Ratable c
  pub count : length rs ≡ c.factors
  pub valid : Valid rs

pub ready-part : {c : Codelist} {rs ls : List Range} → Ready c rs → PartOf rs ls → Ready c ls
ready-part y q = record { codelist = y.codelist; count = q.count ∙ y.count; valid = part-valid q }

pub rated-plainly : {c : Codelist} (xs : List ℤ) → Ratable c → length xs ≡ 2 * c.factors → Valid (pairs xs)
    → rate_of c xs ≡ rate_ranges c (pairs xs) 0
unfolding rate_of
rated-plainly {c} xs w n v = rw ((decides c).1 w, eq-eqb (length xs) (2 * c.factors) n, none-bad 1 (pairs xs) v)

module _ {c : Codelist} {rs : List Range} (y : Ready c rs) where
  pub plain-is : plain c rs ≡ rate_ranges c rs 0
  plain-is =
      rated-plainly (ends rs) y.codelist (length-ends rs ∙ ap (λ n. 2 * n) y.count) (rw (pairs-ends rs) y.valid)
      ∙ ap (λ ts. rate_ranges c ts 0) (pairs-ends rs)

  module _ {l : Limits} (e : rate_ranges c rs 0 ≡ rated l) where
    of_plain : plain c rs ≡ rated l
    of_plain = plain-is ∙ e

    pub plain-sound : (p : Point) → Holds c.factors rs p → Sound c l p
    plain-sound p h = sound c (ends rs) l of_plain p (record { each = rw (pairs-ends rs) h.each })

    pub plain-shaped : Shaped c l
    plain-shaped = shaped c (ends rs) l of_plain

    pub plain-valid : Validity.Valid l
    unfolding rated_of
    plain-valid =
        subst Validity.Valid (ap (λ (x : Rating). x.limits) of_plain)
        (Validity.accepted-valid (record { codelist = c }) (ends rs) (ap (λ (x : Rating). outcome_of x.outcome) of_plain))

    pub plain-lifted : Lifted c.factors l
    unfolding limits_of
    plain-lifted = rw (accepted c (ends rs) l of_plain).limits
