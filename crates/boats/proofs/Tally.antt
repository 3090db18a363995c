-- The counts and sums of the running total are those of the report. Assumes nothing.
use mathlib.Core.Path.{◌≡◌, refl, sym, ap, ◌∙◌}
use mathlib.Core.Bool.{Bool, true, false}
use mathlib.Core.List.{List, [], ◌∷◌, map}
use Prim.Native.Nat.{ℕ, ◌+◌}
use native.Mathlib.Omega.{arith}
use lib.IntN.{ℤ, pos, ◌+ℤ◌, +ℤ_assoc, +ℤ_idl, +ℤ_idr}
use lib.ListN.{length}
use Rattle.range.specs.declared.Range.{Range}
use Rattle.engine.specs.declared.Engine.{Engine}
use Rattle.engine.specs.InFull.{Outcome}
use Rattle.engine.specs.InFull.{Accepted, Refused}
use Rattle.engine.specs.InFull.{Rating}
use Rattle.boats.specs.declared.totals.Sum.{Sum}
use Rattle.boats.specs.Boats.{ratings_of}
use Rattle.boats.specs.Report.{kept, filter, count, sum, accepts, refuses, is_accepted, is_refused, low_end, high_end}
use Rattle.boats.specs.Walk.{one, with_value, with_number, with_outcome, with_rating, with_boat, walked}

-- ---- a walk is one over the ratings
unfoldable pub tallied : ℕ → Sum → List Rating → Sum
tallied k s [] = s
tallied k s (r ∷ rs) = tallied (k + 1) (with_rating k s r) rs

pub walked-tallied : (e : Engine) (k : ℕ) (s : Sum) (bs : List (List ℤ)) → walked e k s bs ≡ tallied k s (ratings_of e bs)
unfolding walked tallied
walked-tallied e k s [] = refl
walked-tallied e k s (b ∷ bs) = walked-tallied e (k + 1) (with_boat e k s b) bs

-- ---- one more: of a count, and of a sum
count_kept : (b : Bool) (r : Rating) (rs : List Rating) → length (kept b r rs) ≡ one b + length rs
count_kept true r rs = omega arith
count_kept false r rs = omega arith

pub count-cons : (p : Rating → Bool) (r : Rating) (rs : List Rating) → count p (r ∷ rs) ≡ one (p r) + count p rs
count-cons p r rs = count_kept (p r) r (filter p rs)

abbrev pub part : Bool → ℤ → ℤ
part true x = x
part false x = pos 0

sum_kept : (f : Rating → ℤ) (b : Bool) (r : Rating) (rs : List Rating) → sum (map f (kept b r rs)) ≡ part b (f r) +ℤ sum (map f rs)
sum_kept f true r rs = refl
sum_kept f false r rs = sym (+ℤ_idl (sum (map f rs)))

abbrev pub total : (Rating → ℤ) → List Rating → ℤ
total f rs = sum (map f (filter is_accepted rs))

pub total-cons : (f : Rating → ℤ) (r : Rating) (rs : List Rating) → total f (r ∷ rs) ≡ part (is_accepted r) (f r) +ℤ total f rs
total-cons f r rs = sum_kept f (is_accepted r) r (filter is_accepted rs)

-- ---- what one rating adds
record Adds (s u : Sum) (o : Outcome) (v : Range) : Type 0 where
  accepted : u.report.accepted ≡ s.report.accepted + one (accepts o)
  range : u.report.range ≡ s.report.range + one (refuses 9 o)
  divisor : u.report.divisor ≡ s.report.divisor + one (refuses 11 o)
  limit : u.report.limit ≡ s.report.limit + one (refuses 12 o)
  low : u.report.low ≡ s.report.low +ℤ part (accepts o) v.low
  high : u.report.high ≡ s.report.high +ℤ part (accepts o) v.high

adds : (k : ℕ) (s : Sum) (o : Outcome) (v : Range) → Adds s (with_outcome k s o v) o v
unfolding with_value with_number
adds k s Accepted v = record { accepted = refl; range = omega arith; divisor = omega arith; limit = omega arith; low = refl; high = refl }
adds k s (Refused r) v = record { accepted = omega arith; range = refl; divisor = refl; limit = refl; low = sym (+ℤ_idr s.report.low); high = sym (+ℤ_idr s.report.high) }

-- ---- what a list adds
pub record Tally (s u : Sum) (rs : List Rating) : Type 0 where
  pub accepted : u.report.accepted ≡ s.report.accepted + count is_accepted rs
  pub range : u.report.range ≡ s.report.range + count (is_refused 9) rs
  pub divisor : u.report.divisor ≡ s.report.divisor + count (is_refused 11) rs
  pub limit : u.report.limit ≡ s.report.limit + count (is_refused 12) rs
  pub low : u.report.low ≡ s.report.low +ℤ total low_end rs
  pub high : u.report.high ≡ s.report.high +ℤ total high_end rs

more : (a b d x y z : ℤ) → b ≡ a +ℤ x → d ≡ b +ℤ y → z ≡ x +ℤ y → d ≡ a +ℤ z
more a b d x y z p q r = q ∙ ap (λ (w : ℤ). w +ℤ y) p ∙ +ℤ_assoc a x y ∙ ap (λ (w : ℤ). a +ℤ w) (sym r)

pub tally : (k : ℕ) (s : Sum) (rs : List Rating) → Tally s (tallied k s rs) rs
unfolding tallied
tally k s [] = record {
  accepted = omega arith;
  range = omega arith;
  divisor = omega arith;
  limit = omega arith;
  low = sym (+ℤ_idr s.report.low);
  high = sym (+ℤ_idr s.report.high);
}
tally k s (r ∷ rs) =
    let a = adds k s r.outcome r.limits.value in
    let i = tally (k + 1) (with_rating k s r) rs in
    record {
      accepted = omega (arith, a.accepted, i.accepted, count-cons is_accepted r rs);
      range = omega (arith, a.range, i.range, count-cons (is_refused 9) r rs);
      divisor = omega (arith, a.divisor, i.divisor, count-cons (is_refused 11) r rs);
      limit = omega (arith, a.limit, i.limit, count-cons (is_refused 12) r rs);
      low = more s.report.low _ _ _ _ _ a.low i.low (total-cons low_end r rs);
      high = more s.report.high _ _ _ _ _ a.high i.high (total-cons high_end r rs);
    }
