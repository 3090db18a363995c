-- What is promised of the nearest edge: `nearest-edge`. Assumes nothing.
use mathlib.Core.Bool.{Bool, true, false}
use mathlib.Core.List.{List}
use mathlib.Core.Logic.{◌↔◌, ◌⊎◌, inl, inr}
use mathlib.Core.Option.{some}
use mathlib.Core.Path.{◌≡◌, refl, sym, ap, ◌∙◌}
use Prim.Native.Nat.{ℕ, zero, suc, ◌-◌, ◌≤◌, ◌<◌}
use native.Mathlib.Omega.{arith}
use lib.IntN.{ℤ, pos, ◌+ℤ◌}
use lib.Signed.{◌≤ℤ◌, ◌<ℤ◌, lt_z, lt_z_yes, lt_z_no}
use Rattle.algebra.proofs.Int.{ints}
use Rattle.codelist.specs.declared.Codelist.{Codelist}
use Rattle.exact.specs.Rat.{◌≤ℚ◌}
use Rattle.exact.specs.Units.{units}
use Rattle.exact.proofs.Rat as Q
use Rattle.exact.proofs.Units.{units_mono}
use Rattle.range.specs.Limit.{most}
use Rattle.range.proofs.Valid.{true-T, false-T}
use Rattle.rules.specs.declared.Limits.{Limits}
use Rattle.rules.specs.InFull.{Rating}
use Rattle.rules.specs.Rate.{rated, refused, rate_of}
use Rattle.rules.specs.Exact.{Point, Jet, premium_of}
use Rattle.rules.specs.Promises.{Inside}
use Rattle.rules.specs.Refused.{range_of}
use Rattle.rules.proofs.Accepted.{not-rated}
use Rattle.rules.proofs.Passing.{refuted-iff}
use Rattle.rules.proofs.Refused.{refused-exactly}
use Rattle.rules.proofs.Sound.{sound}
use Rattle.engine.specs.declared.Engine.{Engine}
use Rattle.engine.specs.InFull.{Accepted}
use Rattle.engine.specs.Engine.{outcome_of, rated_of}
use Rattle.engine.proofs.Demands.{accepted-rating}
use Rattle.margin.specs.declared.Refusal.{Refusal}
use Rattle.margin.specs.declared.Refusal.TheVariants.{Rate, Ceiling}
use Rattle.margin.specs.InFull.{Widen, Nowhere, Refused}
use Rattle.margin.specs.Edge.{wider, Moves, most_units, edge_of, edge_for}
use Rattle.margin.specs.Promises.{BadCeiling, Asked, Factor, Smallest, NoneMoves, EdgeRefusedFor, Free, NearestEdge}
use Rattle.margin.specs.Search.{Rateable}
use Rattle.margin.proofs.Widened.{wider-none, range-ends, own-high}
use Rattle.margin.proofs.Moving.{Rated, rating-of, moves-iff, unmoved, moves_more}
use Rattle.margin.proofs.Answers.{Answered, rate-refused, bad-ceiling, searched, answered, Searched, widened, nowhere, search-of, smallest-one}
use Rattle.margin.proofs.Numbered.{numbered, table, Named, fields-tell}

-- ---- answers of different kinds
widen-nowhere : {A : Type 0} {i w : ℕ} → Widen i w ≡ Nowhere → A
widen-nowhere e = let z : ◌≡◌ {A = ℕ} 0 1 = cc in absurd (omega arith)

widen-refused : {A : Type 0} {i w : ℕ} {r : Refusal} → Widen i w ≡ Refused r → A
widen-refused e = let z : ◌≡◌ {A = ℕ} 0 1 = cc in absurd (omega arith)

nowhere-refused : {A : Type 0} {r : Refusal} → Nowhere ≡ Refused r → A
nowhere-refused e = let z : ◌≡◌ {A = ℕ} 0 1 = cc in absurd (omega arith)

-- what is searched for is not refused
found-not-refused : {A : Type 0} {c : Codelist} {xs : List ℤ} {ceiling : ℤ} {r : Refusal} → Searched c xs ceiling → edge_of c xs ceiling ≡ Refused r → A
found-not-refused (widened i w S q) e = widen-refused (sym q ∙ e)
found-not-refused (nowhere N q) e = nowhere-refused (sym q ∙ e)

not-below : (x y : ℤ) → ¬ (y <ℤ x) → x ≤ℤ y
not-below x y n = go (lt_z y x) refl
  where
    go : (b : Bool) → lt_z y x ≡ b → x ≤ℤ y
    go true e = absurd (n (lt_z_yes (true-T e)))
    go false e = lt_z_no (false-T e)

-- ---- the engine's rating, and that of rules
module _ (e : Engine) (xs : List ℤ) where
  pub engine-accepts : {l : Limits} → rate_of e.codelist xs ≡ rated l → (rated_of e xs).outcome ≡ Accepted
  unfolding rated_of
  engine-accepts h = ap (λ (x : Rating). outcome_of x.outcome) h

  same-high : {l : Limits} → rate_of e.codelist xs ≡ rated l → (rated_of e xs).limits.value.high ≡ l.value.high
  unfolding rated_of
  same-high h = ap (λ (x : Rating). x.limits.value.high) h

  pub accepted-rateable : (rated_of e xs).outcome ≡ Accepted → Rateable e.codelist xs
  accepted-rateable a = record { limits = (rated_of e xs).limits; accepted = accepted-rating e xs a }

module _ (e : Engine) (xs : List ℤ) (ceiling : ℤ) where
  -- ---- what is asked well is searched for
  asked-searched : Asked e xs ceiling → edge_for e xs ceiling ≡ edge_of e.codelist xs ceiling
  asked-searched A = go (answered e xs ceiling)
    where
      go : Answered e xs ceiling → edge_for e xs ceiling ≡ edge_of e.codelist xs ceiling
      go (rate-refused r h q) = absurd (not-rated (sym h ∙ accepted-rating e xs A.accepted))
      go (bad-ceiling l h b q) = absurd (A.good (rw (same-high e xs h) b))
      go (searched l h g q) = q

  searched-asked : {l : Limits} → rate_of e.codelist xs ≡ rated l → ¬ (BadCeiling l.value.high ceiling) → Asked e xs ceiling
  searched-asked h g = record { accepted = engine-accepts e xs h; good = λ b. g (rw (same-high e xs h) at b) }

  -- ---- the refusals
  listed : (r : Refusal) → (edge_for e xs ceiling ≡ Refused r) ↔ EdgeRefusedFor e xs ceiling r
  listed r = (to r (answered e xs ceiling), from r (answered e xs ceiling))
    where
      to : (r : Refusal) → Answered e xs ceiling → edge_for e xs ceiling ≡ Refused r → EdgeRefusedFor e xs ceiling r
      to (Rate r) (rate-refused q h p) o = let s : q ≡ r = cc in (refused-exactly.where-listed e.codelist xs r).0 (h ∙ ap refused s)
      to Ceiling (rate-refused q h p) o = let z : ◌≡◌ {A = ℕ} 0 1 = cc in absurd (omega arith)
      to (Rate r) (bad-ceiling l h b p) o = let z : ◌≡◌ {A = ℕ} 0 1 = cc in absurd (omega arith)
      to Ceiling (bad-ceiling l h b p) o = (engine-accepts e xs h, rw (same-high e xs h) b)
      to r (searched l h g p) o = found-not-refused (search-of e.codelist xs ceiling) (sym p ∙ o)

      from : (r : Refusal) → Answered e xs ceiling → EdgeRefusedFor e xs ceiling r → edge_for e xs ceiling ≡ Refused r
      from (Rate r) (rate-refused q h p) t =
          p ∙ ap (λ x. Refused (Rate x)) (refused-exactly.one-refusal e.codelist xs q r ((refused-exactly.where-listed e.codelist xs q).0 h) t)
      from Ceiling (rate-refused q h p) t = absurd (not-rated (sym h ∙ accepted-rating e xs t.0))
      from (Rate r) (bad-ceiling l h b p) t = absurd (refused-exactly.not-both e.codelist xs l r h t)
      from Ceiling (bad-ceiling l h b p) t = p
      from (Rate r) (searched l h g p) t = absurd (refused-exactly.not-both e.codelist xs l r h t)
      from Ceiling (searched l h g p) t = absurd (g (rw (same-high e xs h) at t.1))

  -- ---- the answers
  widen-iff : Asked e xs ceiling → (i w : ℕ) → (edge_for e xs ceiling ≡ Widen i w) ↔ Smallest e.codelist xs ceiling i w
  widen-iff A i w = (to (search-of e.codelist xs ceiling), from (search-of e.codelist xs ceiling))
    where
      to : Searched e.codelist xs ceiling → edge_for e xs ceiling ≡ Widen i w → Smallest e.codelist xs ceiling i w
      to (widened j u S q) o =
          let h : Widen j u ≡ Widen i w = sym q ∙ sym (asked-searched A) ∙ o in
          let f : j ≡ i = cc in
          let g : u ≡ w = cc in
          rw (← f, ← g) S
      to (nowhere N q) o = widen-nowhere (sym o ∙ asked-searched A ∙ q)

      from : Searched e.codelist xs ceiling → Smallest e.codelist xs ceiling i w → edge_for e xs ceiling ≡ Widen i w
      from (widened j u T q) S = let one = smallest-one T S in asked-searched A ∙ q ∙ rw (one.0, one.1)
      from (nowhere N q) S = absurd (N i w S.factor S.units.0 S.units.1 S.moves)

  nowhere-iff : Asked e xs ceiling → (edge_for e xs ceiling ≡ Nowhere) ↔ NoneMoves e.codelist xs ceiling
  nowhere-iff A = (to (search-of e.codelist xs ceiling), from (search-of e.codelist xs ceiling))
    where
      to : Searched e.codelist xs ceiling → edge_for e xs ceiling ≡ Nowhere → NoneMoves e.codelist xs ceiling
      to (widened j u S q) o = widen-nowhere (sym q ∙ sym (asked-searched A) ∙ o)
      to (nowhere N q) o = N

      from : Searched e.codelist xs ceiling → NoneMoves e.codelist xs ceiling → edge_for e xs ceiling ≡ Nowhere
      from (widened j u S q) N = absurd (N j u S.factor S.units.0 S.units.1 S.moves)
      from (nowhere N q) _ = asked-searched A ∙ q

  decided : ((i : ℕ) × ((w : ℕ) × (edge_for e xs ceiling ≡ Widen i w)))
      ⊎ ((edge_for e xs ceiling ≡ Nowhere) ⊎ ((r : Refusal) × (edge_for e xs ceiling ≡ Refused r)))
  decided = go (answered e xs ceiling) (search-of e.codelist xs ceiling)
    where
      go : Answered e xs ceiling → Searched e.codelist xs ceiling → ((i : ℕ) × ((w : ℕ) × (edge_for e xs ceiling ≡ Widen i w)))
          ⊎ ((edge_for e xs ceiling ≡ Nowhere) ⊎ ((r : Refusal) × (edge_for e xs ceiling ≡ Refused r)))
      go (rate-refused r h p) s = inr (inr (Rate r, p))
      go (bad-ceiling l h b p) s = inr (inr (Ceiling, p))
      go (searched l h g p) (widened i w S q) = inl (i, (w, p ∙ q))
      go (searched l h g p) (nowhere N q) = inr (inl (p ∙ q))

  asked : Asked e xs ceiling ↔ ((r : Refusal) → ¬ (edge_for e xs ceiling ≡ Refused r))
  asked = (λ A r o. found-not-refused (search-of e.codelist xs ceiling) (sym (asked-searched A) ∙ o), from (answered e xs ceiling))
    where
      from : Answered e xs ceiling → ((r : Refusal) → ¬ (edge_for e xs ceiling ≡ Refused r)) → Asked e xs ceiling
      from (rate-refused r h p) n = absurd (n (Rate r) p)
      from (bad-ceiling l h b p) n = absurd (n Ceiling p)
      from (searched l h g p) n = searched-asked h g

  named : Named (edge_for e xs ceiling)
  named = go (answered e xs ceiling) (search-of e.codelist xs ceiling)
    where
      go : Answered e xs ceiling → Searched e.codelist xs ceiling → Named (edge_for e xs ceiling)
      go (rate-refused r h p) s = rw p tt
      go (bad-ceiling l h b p) s = rw p tt
      go (searched l h g p) (widened i w S q) = rw (p, q) S.factor.0
      go (searched l h g p) (nowhere N q) = rw (p, q) tt

  -- ---- what it is for
  -- a factor widened by so many units, or by none, is rated within the ceiling
  abbrev Below : ℕ → ℕ → Type 0
  Below a u = (l : Limits) × ((rate_of e.codelist (wider xs a u) ≡ rated l) × (l.value.high ≤ℤ ceiling))

  below : {l : Limits} → rate_of e.codelist xs ≡ rated l → ¬ (BadCeiling l.value.high ceiling) → (a u : ℕ)
      → (1 ≤ u → ¬ (Moves e.codelist xs ceiling a u)) → Below a u
  below {l} h g a zero n = (l, (ap (rate_of e.codelist) (wider-none xs a) ∙ h, within))
    where
      within : l.value.high ≤ℤ ceiling
      within = not-below l.value.high ceiling (λ b. g (inr (inr b)))
  below h g a (suc u) n =
      unmoved e.codelist xs ceiling a (suc u) ((refuted-iff true (moves-iff e.codelist xs ceiling a (suc u))).1 (n (omega arith)))

  free-below : (a u : ℕ) → Factor e.codelist a → Free (edge_for e xs ceiling) u → Answered e xs ceiling → Searched e.codelist xs ceiling → Below a u
  free-below a u F f (rate-refused r h p) s = absurd (rw p at f)
  free-below a u F f (bad-ceiling l h b p) s = absurd (rw p at f)
  free-below a u F f (searched l h g p) (widened i w S q) =
      let m : u < w = rw (p, q) at f in
      below h g a u (λ o. S.before u a F o (inl m))
  free-below a u F f (searched l h g p) (nowhere N q) =
      let m : u ≤ most_units = rw (p, q) at f in
      below h g a u (λ o. N a u F o m)

  holds : (a u : ℕ) → Factor e.codelist a → Free (edge_for e xs ceiling) u → (p : Point) → Inside e.codelist (wider xs a u) p
      → (premium : Jet) × ((premium_of e.codelist p ≡ some premium) × (premium.value ≤ℚ units ceiling))
  holds a u F f p i =
      let B = free-below a u F f (answered e xs ceiling) (search-of e.codelist xs ceiling) in
      let s = sound e.codelist (wider xs a u) B.0 B.1.0 p i in
      (s.premium, (s.is-premium, Q.≤ℚ-trans s.value.high (units_mono B.1.1)))

  -- ---- the limit
  counts-limit : (rated_of e xs).outcome ≡ Accepted → (i w : ℕ) → Factor e.codelist i → most <ℤ ((range_of xs i).high +ℤ pos w)
      → Moves e.codelist xs ceiling i w
  counts-limit a i w F l = go (rating-of e.codelist (wider xs i w))
    where
      go : Rated e.codelist (wider xs i w) → Moves e.codelist xs ceiling i w
      go (inr r) = inl r
      go (inl k) =
          let E = range-ends (record { limits = k.0; accepted = k.1 }) (i - 1) (omega (arith, F.0, F.1)) in
          absurd (omega (ints, l, E.below, own-high (accepted-rateable e xs a) F w))

pub nearest-edge : NearestEdge
nearest-edge = record {
  moves-iff = moves-iff;
  widen-iff = widen-iff;
  nowhere-iff = nowhere-iff;
  refused-listed = listed;
  table = λ e xs ceiling. table e xs ceiling (listed e xs ceiling);
  numbers = λ e xs ceiling r o. numbered r;
  decided = decided;
  asked = asked;
  monotone = λ e xs ceiling a i w u F m l. moves_more (accepted-rateable e xs a) ceiling F l m;
  holds = holds;
  counts-limit = counts-limit;
  one_answer = λ e f xs ys k l h. fields-tell (edge_for e xs k) (edge_for f ys l) (named e xs k) (named f ys l) h;
}
