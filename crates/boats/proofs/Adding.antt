-- The running total: what one boat more makes of it, and that its figures stay small. Assumes nothing.
use mathlib.Core.Path.{◌≡◌, refl, sym, ap, ◌∙◌}
use mathlib.Core.Bool.{Bool, true, false, cond}
use mathlib.Core.List.{List}
use Prim.Native.Nat.{ℕ, ◌+◌, ◌≤◌, ◌<◌}
use native.Mathlib.Omega.{arith}
use lib.Dec.{eqb}
use borrow.Author.Tests.{eq-eqb, ne_eqb}
use lib.IntN.{ℤ, nat_abs, ◌+ℤ◌}
use lib.Signed.{lt_z}
use mir.Syntax.{w64}
use mir.Val.{SFits, to_z, of_z}
use mir.Facts.{to_z-of_z}
use Rattle.algebra.proofs.Int.{add-abs}
use Rattle.exact.proofs.Machine.{fits-abs}
use Rattle.std.specs.Prelude.{Ok}
use Rattle.rules.specs.declared.Limits.{Limits}
use Rattle.range.specs.declared.Range.{Range}
use Rattle.range.specs.Limit.{is_valid}
use Rattle.range.proofs.Fitting.{low-within, high-within, low_read, high_read}
use Rattle.engine.specs.declared.Engine.{Engine}
use Rattle.engine.specs.InFull.{Outcome}
use Rattle.engine.specs.InFull.{Accepted, Refused}
use Rattle.engine.specs.InFull.{Rating}
use Rattle.engine.specs.Engine as engine
use Rattle.engine.proofs.Validity.{accepted-valid}
use Rattle.boats.specs.declared.Report.{Report}
use Rattle.boats.specs.declared.totals.Sum.{Sum}
use Rattle.boats.specs.Boats.{boat_rating}
use Rattle.boats.specs.Walk.{start, one, exceeds, with_value, with_number, with_outcome, with_boat, Held}

-- ---- made of parts
pub number-made : (r : Report) (n : ℕ) {a b d : ℕ} {l h : ℤ} → a ≡ r.range + one (eqb n 9) → b ≡ r.divisor + one (eqb n 11) → d ≡ r.limit + one (eqb n 12)
    → l ≡ r.low → h ≡ r.high
    → record { accepted = r.accepted; range = a; divisor = b; limit = d; low = l; high = h; greatest = r.greatest } ≡ with_number r n
unfolding with_number
number-made r n p q u l h = rw (p, q, u, l, h)

pub number-passed : (r : Report) (n : ℕ) → ¬ (n ≡ 9) → ¬ (n ≡ 11) → ¬ (n ≡ 12) → r ≡ with_number r n
unfolding with_number
number-passed r n a b d =
    number-made r n (rw (ne_eqb n 9 a) (omega arith)) (rw (ne_eqb n 11 b) (omega arith)) (rw (ne_eqb n 12 d) (omega arith)) refl refl

pub value_made : (k : ℕ) (s : Sum) (v : Range) {t : Bool} {l h x : ℤ} {g : ℕ} → t ≡ exceeds s v.high
    → l ≡ s.report.low +ℤ v.low → h ≡ s.report.high +ℤ v.high → g ≡ cond t (k + 1) s.report.greatest → x ≡ cond t v.high s.top
    → record {
      report = record {
        accepted = s.report.accepted + 1;
        range = s.report.range;
        divisor = s.report.divisor;
        limit = s.report.limit;
        low = l;
        high = h;
        greatest = g;
      };
      top = x;
    } ≡ with_value k s v
unfolding with_value
value_made k s v e p q r z = rw (p, q, r, z, e)

-- the first high end exceeds, and else one above the greatest so far
pub exceeds-first : (s : Sum) (h : ℤ) → s.report.greatest ≡ 0 → eqb s.report.greatest 0 ≡ exceeds s h
exceeds-first s h z = rw (eq-eqb s.report.greatest 0 z)

pub exceeds-later : (s : Sum) (h : ℤ) → ¬ (s.report.greatest ≡ 0) → lt_z s.top h ≡ exceeds s h
exceeds-later s h z = rw (ne_eqb s.report.greatest 0 z)

-- ---- the figures stay small
either : (t : Bool) (x y : ℤ) {n : ℕ} → nat_abs x ≤ n → nat_abs y ≤ n → nat_abs (cond t x y) ≤ n
either true x y p q = p
either false x y p q = q

module _ (k : ℕ) (s : Sum) (few : (k < 1000) × Held k s) where
  -- as numbers that are passed on
  pub low-back : to_z w64 (of_z w64 s.report.low) ≡ s.report.low
  low-back = to_z-of_z (fits-abs s.report.low (omega (arith, few.0, few.1.low)))

  pub high-back : to_z w64 (of_z w64 s.report.high) ≡ s.report.high
  high-back = to_z-of_z (fits-abs s.report.high (omega (arith, few.0, few.1.high)))

  pub top_back : to_z w64 (of_z w64 s.top) ≡ s.top
  top_back = to_z-of_z (fits-abs s.top (omega (arith, few.1.top)))

  module _ (v : Range) (valid : is_valid v ≡ true) where
    pub low_fits : SFits w64 (s.report.low +ℤ v.low)
    low_fits = fits-abs (s.report.low +ℤ v.low) (omega (arith, add-abs s.report.low v.low, few.0, few.1.low, low-within v valid))

    pub high_fits : SFits w64 (s.report.high +ℤ v.high)
    high_fits = fits-abs (s.report.high +ℤ v.high) (omega (arith, add-abs s.report.high v.high, few.0, few.1.high, high-within v valid))

    -- the greatest high end, which may be the new one
    pub top-fits : (t : Bool) → SFits w64 (cond t v.high s.top)
    top-fits t = fits-abs (cond t v.high s.top) (omega (arith, either t v.high s.top (high-within v valid) few.1.top))

    -- as they are added and passed on
    pub low-added : to_z w64 (of_z w64 (to_z w64 (of_z w64 s.report.low) +ℤ to_z w64 (of_z w64 v.low))) ≡ s.report.low +ℤ v.low
    low-added = rw (low-back, low_read v valid) (to_z-of_z low_fits)

    pub high-added : to_z w64 (of_z w64 (to_z w64 (of_z w64 s.report.high) +ℤ to_z w64 (of_z w64 v.high))) ≡ s.report.high +ℤ v.high
    high-added = rw (high-back, high_read v valid) (to_z-of_z high_fits)

one-le : (b : Bool) → one b ≤ 1
one-le true = omega arith
one-le false = omega arith

-- of a boat that is accepted, and of any
pub rated-valid : (e : Engine) (b : List ℤ) → (boat_rating e b).outcome ≡ Accepted → is_valid (boat_rating e b).limits.value ≡ true
unfolding boat_rating
rated-valid e b h = (accepted-valid e _ h).value

pub value-valid : (e : Engine) (b : List ℤ) {l : Limits} → engine.in_full (Ok l) ≡ boat_rating e b → is_valid l.value ≡ true
value-valid e b h = ap (λ (r : Rating). is_valid r.limits.value) h ∙ rated-valid e b (ap (λ (r : Rating). r.outcome) (sym h))

held-outcome : (k : ℕ) (s : Sum) (o : Outcome) (v : Range) → (o ≡ Accepted → is_valid v ≡ true) → Held k s → Held (k + 1) (with_outcome k s o v)
unfolding with_value with_number
held-outcome k s Accepted v valid held = record {
  accepted = omega (arith, held.accepted);
  range = omega (arith, held.range);
  divisor = omega (arith, held.divisor);
  limit = omega (arith, held.limit);
  low = omega (arith, held.low, add-abs s.report.low v.low, low-within v (valid refl));
  high = omega (arith, held.high, add-abs s.report.high v.high, high-within v (valid refl));
  top = either (exceeds s v.high) v.high s.top (high-within v (valid refl)) held.top;
}
held-outcome k s (Refused r) v valid held =
    let n = engine.number_of r in
    record {
      accepted = omega (arith, held.accepted);
      range = omega (arith, held.range, one-le (eqb n 9));
      divisor = omega (arith, held.divisor, one-le (eqb n 11));
      limit = omega (arith, held.limit, one-le (eqb n 12));
      low = omega (arith, held.low);
      high = omega (arith, held.high);
      top = held.top;
    }

pub held_start : Held 0 start
held_start = record { accepted = omega arith; range = omega arith; divisor = omega arith; limit = omega arith; low = omega arith; high = omega arith; top = omega arith }

pub held_next : (e : Engine) (k : ℕ) (s : Sum) (b : List ℤ) → Held k s → Held (k + 1) (with_boat e k s b)
held_next e k s b held = let r = boat_rating e b in held-outcome k s r.outcome r.limits.value (rated-valid e b) held
