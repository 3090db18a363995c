-- The call's answer by what the rating of the ranges says, as the code has it, and in cases: `answered`, `search-of`. Assumes nothing.
use mathlib.Core.Bool.{Bool, true, false, ◌&&◌}
use mathlib.Core.List.{List}
use mathlib.Core.Logic.{inl, inr}
use mathlib.Core.Path.{◌≡◌, refl, sym, ap, ◌∙◌}
use Prim.Native.Nat.{ℕ}
use native.Mathlib.Omega.{arith}
use lib.IntN.{ℤ}
use lib.Signed.{◌≤ℤ◌, le_z, le_z_yes}
use Rattle.algebra.proofs.Int.{ints, le_z-no}
use Rattle.codelist.specs.declared.Codelist.{Codelist}
use Rattle.range.specs.declared.Range.{Range}
use Rattle.range.specs.Limit.{most, least}
use Rattle.range.proofs.Valid.{true-T, false-T}
use Rattle.rules.specs.declared.Refusal as rules
use Rattle.rules.specs.InFull as rating
use Rattle.rules.specs.declared.Limits.{Limits}
use Rattle.rules.specs.InFull.{Rating}
use Rattle.rules.specs.Rate.{rated, refused, rate_of}
use Rattle.engine.specs.declared.Engine.{Engine}
use Rattle.margin.specs.declared.Refusal.TheVariants.{Rate, Ceiling}
use Rattle.margin.specs.InFull.{Widen, Nowhere, Refused}
use Rattle.margin.specs.Edge.{Moves, moves, most_units, candidates, found, edge_of, is_ceiling, edge_for}
use Rattle.margin.specs.Promises.{BadCeiling, Smallest, NoneMoves}
use Rattle.margin.specs.Search.{Rateable}
use Rattle.margin.proofs.Candidates.{Scan, first, nothing, scan}
use Rattle.margin.proofs.Best.{no-bit, both, Compared, compared}
use Rattle.margin.proofs.Moving.{Rated, rating-of, moves-iff}

-- what is rated, with its limits
pub rateable : (c : Codelist) (xs : List ℤ) {x : Rating} → x ≡ rate_of c xs → x.outcome ≡ rating.Rated → Rateable c xs
rateable c xs {x} e o = record { limits = x.limits; accepted = sym e ∙ ap (λ (o : rating.Outcome). record { outcome = o; limits = x.limits }) o }

module _ (e : Engine) (xs : List ℤ) (ceiling : ℤ) {x : Rating} (is : x ≡ rate_of e.codelist xs) where
  pub edge-refused : {r : rules.Refusal} → x.outcome ≡ rating.Refused r → Refused (Rate r) ≡ edge_for e xs ceiling
  unfolding edge_for
  edge-refused o = rw (← is, o)

  module _ (o : x.outcome ≡ rating.Rated) where
    pub edge-beyond : is_ceiling x.limits.value ceiling ≡ false → Refused Ceiling ≡ edge_for e xs ceiling
    unfolding edge_for
    edge-beyond f = rw (← is, o, f)

    pub edge-found : is_ceiling x.limits.value ceiling ≡ true → edge_of e.codelist xs ceiling ≡ edge_for e xs ceiling
    unfolding edge_for
    edge-found t = rw (← is, o, t)

-- ---- what a ceiling is
module _ (v : Range) (ceiling : ℤ) where
  ceiling-good : is_ceiling v ceiling ≡ true → ¬ (BadCeiling v.high ceiling)
  ceiling-good t b = go (both (le_z least ceiling && le_z ceiling most) (le_z v.high ceiling) t) b
    where
      go : ((le_z least ceiling && le_z ceiling most) ≡ true) × (le_z v.high ceiling ≡ true) → BadCeiling v.high ceiling → ⊥
      go h (inl l) = let g : least ≤ℤ ceiling = le_z_yes (true-T (both (le_z least ceiling) (le_z ceiling most) h.0).0) in omega (ints, l, g)
      go h (inr (inl l)) = let g : ceiling ≤ℤ most = le_z_yes (true-T (both (le_z least ceiling) (le_z ceiling most) h.0).1) in omega (ints, l, g)
      go h (inr (inr l)) = let g : v.high ≤ℤ ceiling = le_z_yes (true-T h.1) in omega (ints, l, g)

  ceiling-bad : is_ceiling v ceiling ≡ false → BadCeiling v.high ceiling
  ceiling-bad f = go (le_z least ceiling) refl (le_z ceiling most) refl (le_z v.high ceiling) refl f
    where
      go : (a : Bool) → le_z least ceiling ≡ a → (b : Bool) → le_z ceiling most ≡ b → (c : Bool) → le_z v.high ceiling ≡ c → (a && b && c) ≡ false
          → BadCeiling v.high ceiling
      go false e b g c h f = inl (le_z-no (false-T e))
      go true e false g c h f = inr (inl (le_z-no (false-T g)))
      go true e true g false h f = inr (inr (le_z-no (false-T h)))
      go true e true g true h f = no-bit f

-- ---- every call: refused by rating, or by 22, or searched
pub data Answered (e : Engine) (xs : List ℤ) (ceiling : ℤ) : Type 0 where
  rate-refused : (r : rules.Refusal) → rate_of e.codelist xs ≡ refused r → edge_for e xs ceiling ≡ Refused (Rate r) → Answered e xs ceiling
  bad-ceiling : (l : Limits) → rate_of e.codelist xs ≡ rated l → BadCeiling l.value.high ceiling → edge_for e xs ceiling ≡ Refused Ceiling
      → Answered e xs ceiling
  searched : (l : Limits) → rate_of e.codelist xs ≡ rated l → ¬ (BadCeiling l.value.high ceiling) → edge_for e xs ceiling ≡ edge_of e.codelist xs ceiling
      → Answered e xs ceiling

pub answered : (e : Engine) (xs : List ℤ) (ceiling : ℤ) → Answered e xs ceiling
answered e xs ceiling = go (rating-of e.codelist xs)
  where
    go : Rated e.codelist xs → Answered e xs ceiling
    go (inr r) = rate-refused r.0 r.1 (sym (edge-refused e xs ceiling (sym r.1) refl))
    go (inl l) = test (is_ceiling l.0.value ceiling) refl
      where
        test : (b : Bool) → is_ceiling l.0.value ceiling ≡ b → Answered e xs ceiling
        test true t = searched l.0 l.1 (ceiling-good l.0.value ceiling t) (sym (edge-found e xs ceiling (sym l.1) refl t))
        test false f = bad-ceiling l.0 l.1 (ceiling-bad l.0.value ceiling f) (sym (edge-beyond e xs ceiling (sym l.1) refl f))

-- ---- every search: the smallest widening, or none
pub data Searched (c : Codelist) (xs : List ℤ) (ceiling : ℤ) : Type 0 where
  widened : (i w : ℕ) → Smallest c xs ceiling i w → edge_of c xs ceiling ≡ Widen i w → Searched c xs ceiling
  nowhere : NoneMoves c xs ceiling → edge_of c xs ceiling ≡ Nowhere → Searched c xs ceiling

pub search-of : (c : Codelist) (xs : List ℤ) (ceiling : ℤ) → Searched c xs ceiling
unfolding edge_of candidates
search-of c xs ceiling = go (scan (moves c xs ceiling) c.factors)
  where
    fails : (a u : ℕ) → moves c xs ceiling a u ≡ false → ¬ (Moves c xs ceiling a u)
    fails a u f m = no-bit (sym ((moves-iff c xs ceiling a u).1 m) ∙ f)

    go : Scan (moves c xs ceiling) c.factors 1 most_units → Searched c xs ceiling
    go (first u a g l s m p f q) =
        widened a u
        (record {
          factor = (s, m);
          units = (g, omega arith);
          moves = (moves-iff c xs ceiling a u).0 p;
          before = λ v b F o h. fails b v (f v b F.0 F.1 o h);
        })
        (ap found q)
    go (nothing f q) = nowhere (λ i w F s m. fails i w (f w i F.0 F.1 s (omega arith))) (ap found q)

-- the smallest is one alone
pub smallest-one : {c : Codelist} {xs : List ℤ} {ceiling : ℤ} {i w j u : ℕ} → Smallest c xs ceiling i w → Smallest c xs ceiling j u → (w ≡ u) × (i ≡ j)
smallest-one {i = i} {w = w} {j = j} {u = u} S T = go (compared w i u j)
  where
    go : Compared w i u j → (w ≡ u) × (i ≡ j)
    go (inl b) = absurd (T.before w i S.factor S.units.0 b S.moves)
    go (inr (inl b)) = absurd (S.before u j T.factor T.units.0 b T.moves)
    go (inr (inr e)) = e
