-- A rating of the tidied codelist differs only where a dropped line was the one refused: `differ`. Assumes nothing.
use Prim.Native.Nat.{ℕ}
use mathlib.Core.Bool.{Bool, true, false, true≢false}
use mathlib.Core.List.{List}
use mathlib.Core.Path.{◌≡◌, refl, sym, ap, ap₂, ◌∙◌}
use lib.IntN.{ℤ}
use Rattle.codelist.specs.declared.Codelist.{Codelist}
use Rattle.codelist.specs.Codelist.{WellFormed}
use Rattle.rules.specs.declared.Limits.{Limits}
use Rattle.rules.specs.InFull as rating
use Rattle.rules.specs.InFull.{Rating}
use Rattle.rules.specs.declared.Refusal.{Refusal}
use Rattle.rules.specs.declared.Refusal.TheVariants.{NoCodelist, RangeCount, BadRange, Divisor, Overflow}
use Rattle.rules.specs.Rate.{rate_of, rated, refused}
use Rattle.engine.specs.declared.Refusal as call
use Rattle.engine.specs.Engine.{outcome_of, rated_of}
use Rattle.engine.proofs.Demands.{demands}
use Rattle.liveness.specs.Used.{Used, used}
use Rattle.liveness.specs.Tidied.{tidied, kept, position}
use Rattle.liveness.specs.Promises.{AtUsed, rating_at}
use Rattle.liveness.proofs.Used.{computed}
use Rattle.liveness.proofs.Same.{same-rating}

-- a refused rating has no limits
refused-is : (c : Codelist) (xs : List ℤ) (r : Refusal) → (rate_of c xs).outcome ≡ rating.Refused r → rate_of c xs ≡ refused r
unfolding rated_of
refused-is c xs r h =
    ap₂ (λ (o : rating.Outcome) (l : Limits). record { outcome = o; limits = l }) h
    (demands.rate-zero (record { codelist = c }) xs (call.TheVariants.Rate r) (ap outcome_of h))

module _ (c : Codelist) (w : WellFormed c) where
  at-line : (k : ℕ) → Dec (Used c k)
  at-line k = go (used c k) refl
    where
      go : (b : Bool) → used c k ≡ b → Dec (Used c k)
      go true e = yes ((computed c w k).0 e)
      go false e = no (λ u. true≢false (sym ((computed c w k).1 u) ∙ e))

  at-used : (r : Refusal) → Dec (AtUsed c r)
  at-used (Divisor k) = at-line k
  at-used (Overflow k) = at-line k
  at-used NoCodelist = yes tt
  at-used RangeCount = yes tt
  at-used (BadRange a) = yes tt

  pub differ : (xs : List ℤ) → ¬ (rate_of (tidied c) xs ≡ rating_at (position (kept c)) (rate_of c xs))
      → (r : Refusal) × ((rate_of c xs ≡ refused r) × (¬ AtUsed c r))
  differ xs d = go (rate_of c xs).outcome refl
    where
      moved : Rating → Rating
      moved = rating_at (position (kept c))

      go : (o : rating.Outcome) → (rate_of c xs).outcome ≡ o → (r : Refusal) × ((rate_of c xs ≡ refused r) × (¬ AtUsed c r))
      go rating.Rated h =
          let e : rate_of c xs ≡ rated (rate_of c xs).limits
          = ap (λ (o : rating.Outcome). record { outcome = o; limits = (rate_of c xs).limits }) h in
          absurd (d ((same-rating c w xs).result (rate_of c xs).limits e ∙ sym (ap moved e)))
      go (rating.Refused r) h = refusal (at-used r)
        where
          e : rate_of c xs ≡ refused r
          e = refused-is c xs r h

          refusal : Dec (AtUsed c r) → (r : Refusal) × ((rate_of c xs ≡ refused r) × (¬ AtUsed c r))
          refusal (yes u) = absurd (d ((same-rating c w xs).refusal r u e ∙ sym (ap moved e)))
          refusal (no n) = (r, (e, n))
