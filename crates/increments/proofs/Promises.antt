-- What is promised of the call for two boats: `sisters-call`. Assumes nothing.
use mathlib.Core.Path.{◌≡◌, sym, ap, ◌∙◌}
use mathlib.Core.List.{List}
use Prim.Native.Nat.{suc}
use lib.IntN.{ℤ}
use lib.Signed.{≤ℤ_refl}
use Rattle.exact.proofs.Rat.{≤ℚ-trans}
use Rattle.exact.proofs.Units.{down-iff, up-iff}
use Rattle.rules.specs.declared.Refusal.TheVariants.{RangeCount, BadRange}
use Rattle.engine.specs.declared.Engine.{Engine}
use Rattle.engine.specs.InFull.{Accepted}
use Rattle.engine.specs.declared.Refusal.{Refusal}
use Rattle.engine.specs.declared.Refusal.TheVariants.{Rate}
use Rattle.engine.specs.Engine.{rated_of}
use Rattle.engine.proofs.Loads.{not-both}
use Rattle.engine.proofs.Demands.{demands}
use Rattle.increments.specs.InFull.{Difference}
use Rattle.increments.specs.Call.{difference_of, refused_with, sisters_of}
use Rattle.increments.specs.Promises.{Bounded, Exact, SistersCall}
use Rattle.increments.proofs.Cases.{Case, unrated, miscounted, one_outside, both-inside, case}
use Rattle.increments.proofs.Refusals.{decided, numbers, zero, inside, refused-listed, one-refusal}
use Rattle.increments.proofs.Rounded.{least-down, greatest-up}
use Rattle.increments.proofs.Exchanging.{exchanged, equal}

module _ (e : Engine) (xs bs : List ℤ) (h : (sisters_of e xs bs).outcome ≡ Accepted) where
  -- an accepted answer is the rounded sums
  is-difference : sisters_of e xs bs ≡ difference_of e.codelist.factors (rated_of e xs).limits.gradient bs
  is-difference = go (case e xs bs)
    where
      refused : (r : Refusal) → sisters_of e xs bs ≡ refused_with r
          → sisters_of e xs bs ≡ difference_of e.codelist.factors (rated_of e xs).limits.gradient bs
      refused r s = not-both (sym h ∙ ap (λ (d : Difference). d.outcome) s)

      go : Case e xs bs → sisters_of e xs bs ≡ difference_of e.codelist.factors (rated_of e xs).limits.gradient bs
      go (unrated r w s) = refused (Rate r) s
      go (miscounted w f s) = refused (Rate RangeCount) s
      go (one_outside w m i l o f s) = refused (Rate (BadRange (suc i))) s
      go (both-inside w m f s) = s

  exact : Exact e xs bs
  exact = record {
    low = ap (λ (d : Difference). d.low) is-difference ∙ least-down _ _ bs;
    high = ap (λ (d : Difference). d.high) is-difference ∙ greatest-up _ _ bs;
  }

  -- the law of two boats, between ends that are rounded outward
  holds : Bounded e xs bs
  holds =
      let c = (inside e xs bs).0 h in
      let s = demands.sisters e xs c.rated _ _ c.first c.second in
      record {
        first = s.one;
        second = s.other;
        is-first = s.is_one;
        is-second = s.is-other;
        low = rw exact.low (≤ℚ-trans ((down-iff _ _).0 (≤ℤ_refl _)) s.least);
        high = rw exact.high (≤ℚ-trans s.greatest ((up-iff _ _).0 (≤ℤ_refl _)));
      }

pub sisters-call : SistersCall
sisters-call = record {
  decided = decided;
  numbers = numbers;
  zero = zero;
  inside = inside;
  refused-listed = refused-listed;
  one-refusal = one-refusal;
  exact = exact;
  holds = holds;
  equal = equal;
  exchanged = exchanged;
}
