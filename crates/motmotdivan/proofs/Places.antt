-- Every place of a refusal is at most 65: a text line after the 63rd operation's is the 65th, a codelist line is at most the 64th, a factor the eighth.
use Rattle.std.proofs.Common.{◌≡◌, ℕ, suc, ◌+◌, ◌≤◌, ◌⊎◌, List, [], ◌∷◌, ◌++◌, length, ℤ, sym, refl, ap, ◌∙◌, subst, inl, inr, arith, lit≤, length-append, length-take}
use Rattle.codelist.specs.declared.Codelist.{Codelist}
use Rattle.codelist.specs.declared.Entry.{Entry}
use Rattle.codelist.specs.InFull as loading
use Rattle.codelist.specs.declared.Refusal as codelist
use Rattle.codelist.specs.Load as Load
use Rattle.codelist.specs.Refused.{Upto, RefusedFor, too_long, no-first-line, malformed, factor-count, unknown-year, too-many-lines, no-operation}
use Rattle.codelist.specs.Refused.{reference, exponent, constant, multiplier}
use Rattle.codelist.proofs.Accepted.{refused-empty}
use Rattle.codelist.proofs.Refused.{refused-exactly}
use Rattle.rules.specs.declared.Line.{Line}
use Rattle.rules.specs.declared.Limits.{Limits}
use Rattle.rules.specs.InFull.{Rating}
use Rattle.rules.specs.declared.Refusal as rules
use Rattle.rules.specs.Table.{line_of}
use Rattle.rules.specs.Run.{row_of, through, run_ops, factor_lines, always_bent, operations}
use Rattle.rules.specs.Rate as Rate
use Rattle.rules.specs.Rate.{pairs, rated, rate_of}
use Rattle.rules.specs.Refused as Rules
use Rattle.rules.specs.Refused.{Runnable, StoppedAt}
use Rattle.rules.proofs.Accepted.{pairs-length, factors-length}
use Rattle.rules.proofs.Along.{at_turn}
use Rattle.rules.proofs.Refused as rates
use Rattle.motmotdivan.specs.Views.{LoadPlaced, RatePlaced}

-- ---- loading
-- the text line after the operations done
line : (s : List ℕ) (n : ℕ) (done : List Entry) (rest : List ℕ) → Upto s n done rest → length done + 2 ≤ 65
line s n done rest u = omega (arith, u.few, u.factors.0)

load-listed : (s : List ℕ) (r : codelist.Refusal) → RefusedFor s r → Load.place_of r ≤ 65
load-listed s r (too_long h) = lit≤ tt
load-listed s r (no-first-line h n) = lit≤ tt
load-listed s r (malformed u n l) = line s _ _ _ u
load-listed s r (factor-count h f w) = lit≤ tt
load-listed s r (unknown-year h f w y) = lit≤ tt
load-listed s r (too-many-lines u l e) = line s _ _ _ u
load-listed s r (no-operation u) = lit≤ tt
load-listed s r (reference x h) = line s _ _ _ x.upto
load-listed s r (exponent x h g) = line s _ _ _ x.upto
load-listed s r (constant x h g f) = line s _ _ _ x.upto
load-listed s r (multiplier x h g f e) = line s _ _ _ x.upto

-- a refused load by its outcome
whole : (s : List ℕ) (r : codelist.Refusal) → (Load.load_of s).outcome ≡ loading.Refused r → Load.load_of s ≡ Load.refused r
whole s r e = λ i. record { outcome = e i; codelist = refused-empty s r e i }

pub load-place : (s : List ℕ) (r : codelist.Refusal) → (Load.load_of s).outcome ≡ loading.Refused r → Load.place_of r ≤ 65
load-place s r e = load-listed s r ((refused-exactly.where-listed s r).0 (whole s r e))

pub load-placed : (s : List ℕ) → LoadPlaced (Load.load_of s).outcome
load-placed s = go (Load.load_of s).outcome refl
  where
    go : (o : loading.Outcome) → (Load.load_of s).outcome ≡ o → LoadPlaced o
    go loading.Accepted e = tt
    go (loading.Refused r) e = load-place s r e

-- ---- rating
run_length : (ops : List Entry) (ls ms : List Line) → run_ops ops ls ≡ through ms → length ms ≡ length ls + length ops
unfolding run_ops
run_length [] ls ms e = let same : ls ≡ ms = cc in omega (arith, ap length same)
run_length (o ∷ ops) ls ms e =
    let next = line_of (row_of o.op ls) in
    omega (arith, run_length ops (ls ++ (next ∷ [])) ms (at_turn o ops ls ms e).1, length-append ls (next ∷ []))

-- the codelist line at which a run stops
stopped-line : (c : Codelist) (xs : List ℤ) (P : _) → Runnable c xs → (s : StoppedAt P (operations c) (factor_lines (always_bent c) 0 (pairs xs)))
    → suc (length s.lines) ≤ 65
stopped-line c xs P t s =
    let w = t.codelist in
    let m : length (operations c) ≡ length s.before + suc (length s.after) = ap length s.split ∙ length-append s.before (s.entry ∷ s.after) in
    omega (
      arith,
      run_length s.before _ s.lines s.runs,
      factors-length (always_bent c) 0 (pairs xs),
      pairs-length xs c.factors t.count,
      m,
      length-take c.count c.ops,
      w.few,
    )

rate-listed : (c : Codelist) (xs : List ℤ) (r : rules.Refusal) → Rules.RefusedFor c xs r → Rate.place_of r ≤ 65
rate-listed c xs rules.TheVariants.NoCodelist w = lit≤ tt
rate-listed c xs rules.TheVariants.RangeCount w = lit≤ tt
rate-listed c xs (rules.TheVariants.BadRange a) w = omega (arith, w.factor.1, w.codelist.factors.1)
rate-listed c xs (rules.TheVariants.Divisor k) (t, s) = omega (arith, s.stops.place, stopped-line c xs _ t s)
rate-listed c xs (rules.TheVariants.Overflow k) (t, s) = omega (arith, s.stops.place, stopped-line c xs _ t s)

pub rate-placed : (c : Codelist) (xs : List ℤ) → RatePlaced (rate_of c xs).outcome
rate-placed c xs = go ((rates.refused-exactly).decided c xs)
  where
    go : ((l : Limits) × (rate_of c xs ≡ rated l)) ⊎ ((r : rules.Refusal) × Rules.RefusedFor c xs r) → RatePlaced (rate_of c xs).outcome
    go (inl (l, e)) = subst RatePlaced (sym (ap (λ (x : Rating). x.outcome) e)) tt
    go (inr (r, w)) =
        subst RatePlaced (sym (ap (λ (x : Rating). x.outcome) (((rates.refused-exactly).where-listed c xs r).1 w))) (rate-listed c xs r w)
