-- What the test `moves` says, and that a wider range moves where a narrower one does: `moves-rising`. Assumes nothing.
use mathlib.Core.Bool.{true, false}
use mathlib.Core.List.{List}
use mathlib.Core.Logic.{◌⊎◌, inl, inr, ◌↔◌}
use mathlib.Core.Path.{◌≡◌, sym, ap, ◌∙◌}
use Prim.Native.Nat.{ℕ, ◌≤◌}
use lib.IntN.{ℤ}
use lib.Signed.{◌≤ℤ◌, lt_z, lt_z_yes, lt_z_no}
use Rattle.algebra.proofs.Int.{ints}
use Rattle.codelist.specs.declared.Codelist.{Codelist}
use Rattle.range.specs.Limit.{is_valid}
use Rattle.range.proofs.Valid.{T_true, true-T, false-T}
use Rattle.rules.specs.declared.Refusal.{Refusal}
use Rattle.rules.specs.InFull as outcome
use Rattle.rules.specs.declared.Limits.{Limits}
use Rattle.rules.specs.InFull.{Rating}
use Rattle.rules.specs.Rate.{rated, refused, rate_of}
use Rattle.rules.specs.Isotone.{NarrowerLimits}
use Rattle.rules.specs.Refused.{RefusedFor}
use Rattle.rules.proofs.Accepted.{not-rated}
use Rattle.rules.proofs.Isotone.{isotone}
use Rattle.rules.proofs.Refused.{refused-exactly}
use Rattle.engine.specs.Engine.{outcome_of, rated_of}
use Rattle.engine.proofs.Validity.{accepted-valid}
use Rattle.std.specs.Prelude.{Option, Ok}
use Rattle.margin.specs.declared.Widening.{Widening}
use Rattle.margin.specs.Edge.{wider, Moves, passes, moves, edge_of, in_full}
use Rattle.margin.specs.Promises.{Factor}
use Rattle.margin.specs.Search.{Rateable}
use Rattle.margin.proofs.Best.{no-bit, Rising, Best, best-is}
use Rattle.margin.proofs.Widened.{wider-inside}

-- ---- every rating is rated or refused
abbrev pub Rated : Codelist → List ℤ → Type 0
Rated c xs = ((l : Limits) × (rate_of c xs ≡ rated l)) ⊎ ((r : Refusal) × (rate_of c xs ≡ refused r))

pub rating-of : (c : Codelist) (xs : List ℤ) → Rated c xs
rating-of c xs = go (refused-exactly.decided c xs)
  where
    go : ((l : Limits) × (rate_of c xs ≡ rated l)) ⊎ ((r : Refusal) × RefusedFor c xs r) → Rated c xs
    go (inl r) = inl r
    go (inr r) = inr (r.0, (refused-exactly.where-listed c xs r.0).1 r.1)

-- the value of an accepted rating is a range within the limit
pub value-valid : (c : Codelist) (xs : List ℤ) {x : Rating} → x ≡ rate_of c xs → x.outcome ≡ outcome.Rated → is_valid x.limits.value ≡ true
unfolding rated_of
value-valid c xs e o =
    ap (λ (x : Rating). is_valid x.limits.value) e
    ∙ (accepted-valid (record { codelist = c }) xs (ap outcome_of (sym (ap (λ (x : Rating). x.outcome) e) ∙ o))).value

-- ---- the test
module _ (c : Codelist) (xs : List ℤ) (ceiling : ℤ) (i w : ℕ) where
  pub moves-refused : {r : Refusal} → rate_of c (wider xs i w) ≡ refused r → moves c xs ceiling i w ≡ true
  unfolding moves
  moves-refused e = rw e

  pub moves-rated : {l : Limits} → rate_of c (wider xs i w) ≡ rated l → moves c xs ceiling i w ≡ lt_z ceiling l.value.high
  unfolding moves
  moves-rated e = rw e

  -- and of any rating, by its outcome
  pub moves-told : {x : Rating} → x ≡ rate_of c (wider xs i w) → moves c xs ceiling i w ≡ passes x.outcome x.limits.value ceiling
  unfolding moves
  moves-told e = rw e

  pub moves-iff : (moves c xs ceiling i w ≡ true) ↔ Moves c xs ceiling i w
  moves-iff = (to (rating-of c (wider xs i w)), from)
    where
      to : Rated c (wider xs i w) → moves c xs ceiling i w ≡ true → Moves c xs ceiling i w
      to (inl l) e = inr (l.0, (l.1, lt_z_yes (true-T (sym (moves-rated l.1) ∙ e))))
      to (inr r) e = inl r

      from : Moves c xs ceiling i w → moves c xs ceiling i w ≡ true
      from (inl r) = moves-refused r.1
      from (inr l) = moves-rated l.1.0 ∙ T_true l.1.1.lt

  -- what does not move is rated, within the ceiling
  pub unmoved : moves c xs ceiling i w ≡ false → (l : Limits) × ((rate_of c (wider xs i w) ≡ rated l) × (l.value.high ≤ℤ ceiling))
  unmoved f = go (rating-of c (wider xs i w))
    where
      go : Rated c (wider xs i w) → (l : Limits) × ((rate_of c (wider xs i w) ≡ rated l) × (l.value.high ≤ℤ ceiling))
      go (inl l) = (l.0, (l.1, lt_z_no (false-T (sym (moves-rated l.1) ∙ f))))
      go (inr r) = no-bit (sym (moves-refused r.1) ∙ f)

-- ---- wider ranges
module _ {c : Codelist} {xs : List ℤ} (R : Rateable c xs) (ceiling : ℤ) {i : ℕ} (F : Factor c i) where
  pub moves_more : {w u : ℕ} → w ≤ u → Moves c xs ceiling i w → Moves c xs ceiling i u
  moves_more {w} {u} h m = go (rating-of c (wider xs i u))
    where
      go : Rated c (wider xs i u) → Moves c xs ceiling i u
      go (inr r) = inl r
      go (inl l) = narrow m
        where
          -- narrower ranges are accepted, too, and the high end of their value is not above
          n : (k : Limits) × ((rate_of c (wider xs i w) ≡ rated k) × NarrowerLimits k l.0)
          n = isotone c (wider xs i w) (wider xs i u) l.0 l.1 (wider-inside R F h)

          narrow : Moves c xs ceiling i w → Moves c xs ceiling i u
          narrow (inl r) = absurd (not-rated (sym r.1 ∙ n.1.0))
          narrow (inr k) =
              let e : k.0.value.high ≡ n.0.value.high = ap (λ (x : Rating). x.limits.value.high) (sym k.1.0 ∙ n.1.0) in
              inr (l.0, (l.1, omega (ints, k.1.1, e, n.1.1.value.high)))

  pub moves-rising : Rising (moves c xs ceiling i)
  moves-rising w u l e = (moves-iff c xs ceiling i u).1 (moves_more l ((moves-iff c xs ceiling i w).0 e))

-- ---- the best of all factors is the nearest edge
pub best-edge : (c : Codelist) (xs : List ℤ) (ceiling : ℤ) (best : Option Widening) → Best (moves c xs ceiling) c.factors best → in_full (Ok best) ≡ edge_of c xs ceiling
unfolding edge_of
best-edge c xs ceiling best B = sym (best-is best B)
