-- The counts and sums of a report, over its boats. Assumes nothing.
use mathlib.Core.Path.{◌≡◌, refl, sym, ap, ◌∙◌}
use mathlib.Core.Bool.{Bool, true, false}
use mathlib.Core.List.{List, [], ◌∷◌, ◌++◌}
use Prim.Native.Nat.{ℕ, ◌+◌, ◌*◌, ◌≤◌}
use native.Mathlib.Omega.{arith}
use lib.IntN.{ℤ, nat_abs, ◌+ℤ◌, +ℤ_assoc, +ℤ_idl}
use lib.ListN.{length, take}
use lib.Seq.{length-take-le}
use Rattle.algebra.proofs.Int.{add-abs}
use Rattle.codelist.specs.Codelist.{Ratable}
use Rattle.rules.specs.InFull as rating
use Rattle.rules.specs.declared.Refusal.TheVariants.{NoCodelist, RangeCount, BadRange, Divisor, Overflow}
use Rattle.rules.specs.Rate.{rate_of}
use Rattle.range.proofs.Fitting.{low-within, high-within}
use Rattle.engine.specs.declared.Engine.{Engine}
use Rattle.engine.specs.InFull.{Outcome}
use Rattle.engine.specs.InFull.{Accepted, Refused}
use Rattle.engine.specs.declared.Refusal.TheVariants.{Rate}
use Rattle.engine.specs.InFull.{Rating}
use Rattle.engine.specs.Engine.{outcome_of, rated_of}
use Rattle.engine.proofs.Demands.{demands}
use Rattle.boats.specs.Boats.{point, boat_rating, ratings_of}
use Rattle.boats.specs.Report.{count, accepts, refuses, is_accepted, is_refused, low_end, high_end, figures_of, report_of}
use Rattle.boats.specs.Promises.{Eights, Joined}
use Rattle.boats.specs.Walk.{one}
use Rattle.boats.proofs.Lists.{length-doubled}
use Rattle.boats.proofs.Tally.{count-cons, part, total, total-cons}
use Rattle.boats.proofs.Adding.{rated-valid}

-- ---- a boat of eight numbers is counted once
once : (o : rating.Outcome) → ¬ (outcome_of o ≡ Refused (Rate NoCodelist)) → ¬ (outcome_of o ≡ Refused (Rate RangeCount))
    → one (accepts (outcome_of o)) + one (refuses 9 (outcome_of o)) + one (refuses 11 (outcome_of o)) + one (refuses 12 (outcome_of o)) ≡ 1
once rating.Rated f g = refl
once (rating.Refused NoCodelist) f g = absurd (f refl)
once (rating.Refused RangeCount) f g = absurd (g refl)
once (rating.Refused (BadRange a)) f g = refl
once (rating.Refused (Divisor k)) f g = refl
once (rating.Refused (Overflow k)) f g = refl

module _ (e : Engine) (r : Ratable e.codelist) where
  boat-once : (b : List ℤ) → length b ≡ 8
      → one (is_accepted (boat_rating e b)) + one (is_refused 9 (boat_rating e b)) + one (is_refused 11 (boat_rating e b)) + one (is_refused 12 (boat_rating e b)) ≡ 1
  unfolding boat_rating rated_of
  boat-once b eight =
      let n = e.codelist.factors in
      let xs = point n b in
      let taken : length (take n b) ≡ n = length-take-le n b (omega (arith, r.factors.1, eight)) in
      let whole : length xs ≡ 2 * n = omega (arith, length-doubled (take n b), taken) in
      once (rate_of e.codelist xs).outcome
      (λ h. (demands.rate-refused-listed e xs NoCodelist).0 h r)
      (λ h. ((demands.rate-refused-listed e xs RangeCount).0 h).1 whole)

  pub counted : (bs : List (List ℤ)) → Eights bs
      → (report_of e bs).accepted + (report_of e bs).range + (report_of e bs).divisor + (report_of e bs).limit ≡ length bs
  unfolding figures_of
  counted [] t = refl
  counted (b ∷ bs) t =
      let x = boat_rating e b in
      let rs = ratings_of e bs in
      omega (arith, boat-once b t.0, counted bs t.1, count-cons is_accepted x rs, count-cons (is_refused 9) x rs, count-cons (is_refused 11) x rs, count-cons (is_refused 12) x rs)

-- ---- the sums are small
pub was-accepted : (o : Outcome) → accepts o ≡ true → o ≡ Accepted
was-accepted Accepted h = refl
was-accepted (Refused r) h = absurd (let z : ◌≡◌ {A = ℕ} 0 1 = cc h in omega arith)

part_small : (b : Bool) (x : ℤ) → (b ≡ true → nat_abs x ≤ 2000000000) → nat_abs (part b x) ≤ 2000000000
part_small true x h = h refl
part_small false x h = omega arith

module _ (e : Engine) (f : Rating → ℤ) (small : (b : List ℤ) → (boat_rating e b).outcome ≡ Accepted → nat_abs (f (boat_rating e b)) ≤ 2000000000) where
  total-small : (bs : List (List ℤ)) → nat_abs (total f (ratings_of e bs)) ≤ length bs * 2000000000
  total-small [] = omega arith
  total-small (b ∷ bs) =
      let x = boat_rating e b in
      let y = part (is_accepted x) (f x) in
      let rest = total f (ratings_of e bs) in
      rw (total-cons f x (ratings_of e bs))
      (omega (arith, add-abs y rest, part_small (is_accepted x) (f x) (λ h. small b (was-accepted x.outcome h)), total-small bs))

module _ (e : Engine) (bs : List (List ℤ)) where
  pub low_small : nat_abs (report_of e bs).low ≤ length bs * 2000000000
  unfolding figures_of
  low_small = total-small e low_end (λ b h. low-within (boat_rating e b).limits.value (rated-valid e b h)) bs

  pub high_small : nat_abs (report_of e bs).high ≤ length bs * 2000000000
  unfolding figures_of
  high_small = total-small e high_end (λ b h. high-within (boat_rating e b).limits.value (rated-valid e b h)) bs

-- ---- two lists, one after the other
module _ (e : Engine) (cs : List (List ℤ)) where
  count-joined : (p : Rating → Bool) (bs : List (List ℤ)) → count p (ratings_of e (bs ++ cs)) ≡ count p (ratings_of e bs) + count p (ratings_of e cs)
  count-joined p [] = omega arith
  count-joined p (b ∷ bs) =
      let x = boat_rating e b in
      omega (arith, count-joined p bs, count-cons p x (ratings_of e bs), count-cons p x (ratings_of e (bs ++ cs)))

  total-joined : (f : Rating → ℤ) (bs : List (List ℤ)) → total f (ratings_of e (bs ++ cs)) ≡ total f (ratings_of e bs) +ℤ total f (ratings_of e cs)
  total-joined f [] = sym (+ℤ_idl (total f (ratings_of e cs)))
  total-joined f (b ∷ bs) =
      let x = boat_rating e b in
      let y = part (is_accepted x) (f x) in
      total-cons f x (ratings_of e (bs ++ cs))
      ∙ ap (λ (z : ℤ). y +ℤ z) (total-joined f bs)
      ∙ sym (+ℤ_assoc y (total f (ratings_of e bs)) (total f (ratings_of e cs)))
      ∙ ap (λ (z : ℤ). z +ℤ total f (ratings_of e cs)) (sym (total-cons f x (ratings_of e bs)))

  pub are-joined : (bs : List (List ℤ)) → Joined (report_of e bs) (report_of e cs) (report_of e (bs ++ cs))
  unfolding figures_of
  are-joined bs = record {
    accepted = count-joined is_accepted bs;
    range = count-joined (is_refused 9) bs;
    divisor = count-joined (is_refused 11) bs;
    limit = count-joined (is_refused 12) bs;
    low = total-joined low_end bs;
    high = total-joined high_end bs;
  }
