-- The exact income from the accepted boats lies between the report's two sums: each boat's premium lies between its value ends
-- (`Demands.sound`). Assumes nothing.
use mathlib.Core.Path.{◌≡◌, refl, sym, ap, subst, ◌∙◌}
use mathlib.Core.Bool.{Bool, true, false, cond}
use mathlib.Core.List.{List, [], ◌∷◌, map}
use mathlib.Core.Option.{Option, some}
use Prim.Native.Nat.{ℕ, zero, suc}
use lib.IntN.{ℤ, pos, ◌+ℤ◌}
use lib.ListN.{get_or, take}
use lib.Seq.{get_or-take}
use Rattle.exact.specs.Rat.{ℚ, 0ℚ, ◌+ℚ◌, ◌≤ℚ◌}
use Rattle.exact.specs.Units.{units, In}
use Rattle.exact.proofs.Rat.{≤ℚ-refl, ≤ℚ-trans, ≤ℚ-of-≡, +ℚ-comm, +ℚ-monoʳ}
use Rattle.exact.proofs.Units.{units-+, units-0}
use Rattle.range.specs.declared.Range.{Range}
use Rattle.range.specs.Limit.{from_to}
use Rattle.range.specs.Sums.{at}
use Rattle.rules.specs.Rate.{pairs}
use Rattle.rules.specs.Exact.{Jet, coordinate, premium_of}
use Rattle.rules.specs.Promises.{Inside}
use Rattle.engine.specs.declared.Engine.{Engine}
use Rattle.engine.specs.InFull.{Accepted}
use Rattle.engine.specs.Engine.{rated_of}
use Rattle.engine.proofs.Demands.{demands}
use Rattle.boats.specs.Boats.{doubled, point, boat_rating, ratings_of}
use Rattle.boats.specs.Report.{accepts, is_accepted, low_end, high_end, figures_of, report_of}
use Rattle.boats.specs.Promises.{value_of, income_of}
use Rattle.boats.proofs.Tally.{part, total, total-cons}
use Rattle.boats.proofs.Counts.{was-accepted}

-- ---- sums
sum-≤ : {x y z w : ℚ} → x ≤ℚ y → z ≤ℚ w → x +ℚ z ≤ℚ y +ℚ w
sum-≤ {x} {y} {z} {w} p q = ≤ℚ-trans (+ℚ-monoʳ z p) (rw (+ℚ-comm y z, +ℚ-comm y w) (+ℚ-monoʳ y q))

in_sum : (a b c d : ℤ) {x y : ℚ} → In a b x → In c d y → In (a +ℤ c) (b +ℤ d) (x +ℚ y)
in_sum a b c d i j = record {
  low = rw (← (units-+ a c)) (sum-≤ i.low j.low);
  high = rw (← (units-+ b d)) (sum-≤ i.high j.high);
}

in-zero : In (pos 0) (pos 0) 0ℚ
in-zero = record { low = ≤ℚ-of-≡ units-0; high = ≤ℚ-of-≡ (sym units-0) }

-- ---- a boat is a class of one point
at-doubled : (b : List ℤ) (a : ℕ) → at (pairs (doubled b)) a ≡ from_to (get_or b a (pos 0)) (get_or b a (pos 0))
unfolding doubled
at-doubled [] zero = refl
at-doubled [] (suc a) = refl
at-doubled (x ∷ b) zero = refl
at-doubled (x ∷ b) (suc a) = at-doubled b a

coordinate-is : (b : List ℤ) (a : ℕ) → coordinate (map units b) a ≡ units (get_or b a (pos 0))
coordinate-is [] zero = sym units-0
coordinate-is [] (suc a) = sym units-0
coordinate-is (x ∷ b) zero = refl
coordinate-is (x ∷ b) (suc a) = coordinate-is b a

module _ (e : Engine) (b : List ℤ) where
  abbrev n : ℕ
  n = e.codelist.factors

  inside : Inside e.codelist (point n b) (map units b)
  inside = record {
    each = λ a h.
        let x = get_or b a (pos 0) in
        let r : at (pairs (point n b)) a ≡ from_to x x = at-doubled (take n b) a ∙ ap (λ (z : ℤ). from_to z z) (get_or-take n b a (pos 0) h) in
        let i : In x x (coordinate (map units b) a) = rw (coordinate-is b a) (record { low = ≤ℚ-refl (units x); high = ≤ℚ-refl (units x) }) in
        subst (λ (z : Range). In z.low z.high (coordinate (map units b) a)) (sym r) i;
  }

  premium-in : (boat_rating e b).outcome ≡ Accepted → In (low_end (boat_rating e b)) (high_end (boat_rating e b)) (value_of (premium_of e.codelist (map units b)))
  unfolding boat_rating
  premium-in h =
      let s = demands.sound e (point n b) h (map units b) inside in
      subst (λ (o : Option Jet). In (low_end (rated_of e (point n b))) (high_end (rated_of e (point n b))) (value_of o)) (sym s.is-premium) s.value

  pub premium-is : accepts (boat_rating e b).outcome ≡ true → (j : Jet) × (premium_of e.codelist (map units b) ≡ some j)
  unfolding boat_rating
  premium-is h = let s = demands.sound e (point n b) (was-accepted (rated_of e (point n b)).outcome h) (map units b) inside in (s.premium, s.is-premium)

  boat-in : (t : Bool) → accepts (boat_rating e b).outcome ≡ t
      → In (part t (low_end (boat_rating e b))) (part t (high_end (boat_rating e b))) (cond t (value_of (premium_of e.codelist (map units b))) 0ℚ)
  boat-in true h = premium-in (was-accepted (boat_rating e b).outcome h)
  boat-in false h = in-zero

income-in : (e : Engine) (bs : List (List ℤ)) → In (total low_end (ratings_of e bs)) (total high_end (ratings_of e bs)) (income_of e bs)
unfolding income_of
income-in e [] = in-zero
income-in e (b ∷ bs) =
    let x = boat_rating e b in
    let rs = ratings_of e bs in
    rw (total-cons low_end x rs, total-cons high_end x rs)
    (in_sum (part (is_accepted x) (low_end x)) (part (is_accepted x) (high_end x)) (total low_end rs) (total high_end rs) (boat-in e b (is_accepted x) refl) (income-in e bs))

pub income : (e : Engine) (bs : List (List ℤ)) → In (report_of e bs).low (report_of e bs).high (income_of e bs)
unfolding figures_of
income e bs = income-in e bs
