-- What a call for two boats accepts, and what each refusal of it is for: `decided`, `numbers`, `zero`, `inside`, `refused-listed`,
-- `one-refusal`. Assumes nothing.
use mathlib.Core.Path.{◌≡◌, refl, sym, ap, subst, ◌∙◌}
use mathlib.Core.Bool.{Bool, true, false, ◌&&◌}
use mathlib.Core.List.{List, Memᴰ}
use mathlib.Core.Logic.{◌↔◌, ◌⊎◌, inl, inr, ⊎_map}
use Prim.Native.Nat.{ℕ, suc, ◌-◌, ◌<◌}
use native.Mathlib.Omega.{arith}
use lib.Dec.{T}
use lib.IntN.{ℤ, pos}
use lib.Signed.{le_z, le_z_yes, ◌<ℤ◌, clash_ℤ}
use Rattle.algebra.proofs.Int.{le_z-no}
use Rattle.exact.specs.Units.{units, In}
use Rattle.exact.proofs.Units.{units-≤}
use Rattle.range.specs.declared.Range.{Range}
use Rattle.range.specs.Sums.{at}
use Rattle.range.proofs.Valid.{T_true, true-T, not-true, false-T, and_left, and_right, and_both, and-false}
use Rattle.rules.specs.declared.Refusal as rules
use Rattle.rules.specs.declared.Refusal.TheVariants.{NoCodelist, RangeCount, BadRange, Divisor, Overflow}
use Rattle.rules.specs.Rate.{pairs, rate_numbers}
use Rattle.rules.specs.Refused as Rules
use Rattle.rules.specs.Exact.{coordinate}
use Rattle.rules.proofs.Passing.{refuted-iff}
use Rattle.engine.specs.declared.Engine.{Engine}
use Rattle.engine.specs.InFull.{Accepted, Refused}
use Rattle.engine.specs.declared.Refusal.{Refusal}
use Rattle.engine.specs.declared.Refusal.TheVariants.{Rate}
use Rattle.engine.specs.Engine.{number_of}
use Rattle.engine.proofs.Loads.{not-both}
use Rattle.engine.proofs.Demands.{demands}
use Rattle.increments.specs.InFull.{Difference}
use Rattle.increments.specs.Call.{first, second, holds, first_outside, refused_with, sisters_of}
use Rattle.increments.specs.Promises.{one, other, Outside, BoatOutside, LowestOutside, OfClass, SistersRefusedFor}
use Rattle.increments.proofs.Outside.{both_in, Found, none, lowest, found}
use Rattle.increments.proofs.Points.{one_at, other_at}
use Rattle.increments.proofs.Cases.{refused-unrated, refused-count, refused-outside, accepted-inside}
use Rattle.increments.proofs.Cases.{Case, unrated, miscounted, one_outside, both-inside, case}

-- ---- tests that fail
either-false : {P Q : Type 0} (b c : Bool) → (b ≡ false) ↔ P → (c ≡ false) ↔ Q → ((b && c) ≡ false) ↔ (P ⊎ Q)
either-false {P} {Q} b c i j = (go b c i.0 j.0, λ o. and-false b c (⊎_map i.1 j.1 o))
  where
    go : (b c : Bool) → (b ≡ false → P) → (c ≡ false → Q) → (b && c) ≡ false → P ⊎ Q
    go false c f g e = inl (f refl)
    go true c f g e = inr (g e)

above-iff : (x y : ℤ) → (le_z x y ≡ false) ↔ (y <ℤ x)
above-iff x y = (λ e. le_z-no (false-T e), λ l. not-true (λ t. clash_ℤ l (le_z_yes t)))

-- ---- a value beside a range
module _ (r : Range) (x : ℤ) where
  outside-iff : (holds r x ≡ false) ↔ Outside r x
  unfolding holds
  outside-iff = either-false (le_z r.low x) (le_z x r.high) (above-iff r.low x) (above-iff x r.high)

  in-iff : T (holds r x) ↔ In r.low r.high (units x)
  unfolding holds
  in-iff =
      let l = le_z r.low x in
      let h = le_z x r.high in (
        λ t. record { low = (units-≤ r.low x).1 (le_z_yes (and_left l h t)); high = (units-≤ x r.high).1 (le_z_yes (and_right l h t)) },
        λ i. and_both l h ((units-≤ r.low x).0 i.low).le ((units-≤ x r.high).0 i.high).le,
      )

-- ---- the boats beside the ranges
module _ (n : ℕ) (xs bs : List ℤ) where
  module _ (a : ℕ) where
    out-iff : (both_in n (pairs xs) bs a ≡ false) ↔ (Outside (at (pairs xs) a) (first bs a) ⊎ Outside (at (pairs xs) a) (second n bs a))
    out-iff =
        let r = at (pairs xs) a in
        either-false (holds r (first bs a)) (holds r (second n bs a)) (outside-iff r (first bs a)) (outside-iff r (second n bs a))

    -- as points
    points-iff : a < n
        → (both_in n (pairs xs) bs a ≡ true)
        ↔ (In (at (pairs xs) a).low (at (pairs xs) a).high (coordinate (one n bs) a)
        × In (at (pairs xs) a).low (at (pairs xs) a).high (coordinate (other n bs) a))
    points-iff l =
        let r = at (pairs xs) a in
        let b = holds r (first bs a) in
        let c = holds r (second n bs a) in
        rw (one_at n bs a l, other_at n bs a) (
          λ e. ((in-iff r (first bs a)).0 (and_left b c (true-T e)), (in-iff r (second n bs a)).0 (and_right b c (true-T e))),
          λ w. T_true (and_both b c ((in-iff r (first bs a)).1 w.0) ((in-iff r (second n bs a)).1 w.1)),
        )

  -- the lowest factor with a boat outside
  not-outside : (a : ℕ) → both_in n (pairs xs) bs (a - 1) ≡ true → ¬ (BoatOutside n xs bs a)
  not-outside a = (refuted-iff false (out-iff (a - 1))).0

  lowest-of : (i : ℕ) → i < n → both_in n (pairs xs) bs i ≡ false → ((j : ℕ) → j < i → both_in n (pairs xs) bs j ≡ true)
      → LowestOutside n xs bs (suc i)
  lowest-of i l o f =
      let s : suc i - 1 ≡ i = omega arith in
      record { factor = (omega arith, omega arith); outside = rw s ((out-iff i).0 o); lower = λ b p q. not-outside b (f (b - 1) (omega arith)) }

  not-below : {a b : ℕ} → LowestOutside n xs bs a → LowestOutside n xs bs b → ¬ (a < b)
  not-below {a} A B l = B.lower a A.factor.0 l A.outside

  lowest-found : (a : ℕ) → LowestOutside n xs bs a → a ≡ first_outside n (pairs xs) bs
  lowest-found a A = go (found n (pairs xs) bs)
    where
      go : {k : ℕ} → Found n (pairs xs) bs 0 n k → a ≡ k
      go (none f) = absurd (not-outside a (f (a - 1) (omega arith) (omega (arith, A.factor.0, A.factor.1))) A.outside)
      go (lowest i l m o f) =
          let B = lowest-of i (omega arith) o (λ j q. f j (omega arith) q) in
          let p = not-below A B in
          let q = not-below B A in
          omega (arith, p, q)

-- ---- the answer
module _ (e : Engine) (xs bs : List ℤ) where
  data Answer : Type 0 where
    refuses : (r : rules.Refusal) → Memᴰ (number_of (Rate r)) rate_numbers → SistersRefusedFor e xs bs r
        → sisters_of e xs bs ≡ refused_with (Rate r) → Answer
    accepts : OfClass e xs bs → (sisters_of e xs bs).outcome ≡ Accepted → Answer

  of-rating : (r : rules.Refusal) → Rules.RefusedFor e.codelist xs r → SistersRefusedFor e xs bs r
  of-rating NoCodelist w = w
  of-rating RangeCount w = inl w
  of-rating (BadRange a) w = inl w
  of-rating (Divisor k) w = w
  of-rating (Overflow k) w = w

  answer : Answer
  answer = go (case e xs bs)
    where
      go : Case e xs bs → Answer
      go (unrated r h s) = refuses r (demands.rate-numbers e xs (Rate r) h) (of-rating r ((demands.rate-refused-listed e xs r).0 h)) s
      go (miscounted h f s) = refuses RangeCount (Memᴰ.tail (Memᴰ.head refl)) (inr (record { rated = h; count = f })) s
      go (one_outside h m i l o f s) =
          refuses (BadRange (suc i)) (Memᴰ.tail (Memᴰ.tail (Memᴰ.head refl)))
          (inr (record { rated = h; count = m; lowest = lowest-of e.codelist.factors xs bs i l o f }))
          s
      go (both-inside h m f s) =
          accepts
          (record {
            rated = h;
            count = m;
            first = record { each = λ a l. ((points-iff e.codelist.factors xs bs a l).0 (f a l)).0 };
            second = record { each = λ a l. ((points-iff e.codelist.factors xs bs a l).0 (f a l)).1 };
          })
          (ap (λ (d : Difference). d.outcome) s)

  -- what is known of a refusal
  record Refusing (r : Refusal) : Type 0 where
    reason : rules.Refusal
    same : Rate reason ≡ r
    listed : SistersRefusedFor e xs bs reason
    number : Memᴰ (number_of r) rate_numbers
    ends : ((sisters_of e xs bs).low ≡ pos 0) × ((sisters_of e xs bs).high ≡ pos 0)

  refusing : (r : Refusal) → (sisters_of e xs bs).outcome ≡ Refused r → Refusing r
  refusing r h = go answer
    where
      go : Answer → Refusing r
      go (accepts w s) = not-both (sym s ∙ h)
      go (refuses q m w s) =
          let o : (sisters_of e xs bs).outcome ≡ Refused (Rate q) = ap (λ (d : Difference). d.outcome) s in
          let k : Rate q ≡ r = cc in
          record {
            reason = q;
            same = k;
            listed = w;
            number = subst (λ r. Memᴰ (number_of r) rate_numbers) k m;
            ends = (ap (λ (d : Difference). d.low) s, ap (λ (d : Difference). d.high) s);
          }

  rating : (r : rules.Refusal) → Rules.RefusedFor e.codelist xs r → sisters_of e xs bs ≡ refused_with (Rate r)
  rating r w = refused-unrated e xs bs (Rate r) ((demands.rate-refused-listed e xs r).1 w)

  -- each refusal is given for what is listed
  refused-for : (r : rules.Refusal) → SistersRefusedFor e xs bs r → sisters_of e xs bs ≡ refused_with (Rate r)
  refused-for NoCodelist w = rating NoCodelist w
  refused-for RangeCount (inl w) = rating RangeCount w
  refused-for RangeCount (inr w) = refused-count e xs bs w.rated w.count
  refused-for (BadRange a) (inl w) = rating (BadRange a) w
  refused-for (BadRange a) (inr w) =
      refused-outside e xs bs w.rated w.count a (lowest-found e.codelist.factors xs bs a w.lowest)
      (λ z. omega (arith, w.lowest.factor.0))
  refused-for (Divisor k) w = rating (Divisor k) w
  refused-for (Overflow k) w = rating (Overflow k) w

  -- ---- as promised
  pub decided : ((sisters_of e xs bs).outcome ≡ Accepted) ⊎ ((r : rules.Refusal) × ((sisters_of e xs bs).outcome ≡ Refused (Rate r)))
  decided = go answer
    where
      go : Answer → ((sisters_of e xs bs).outcome ≡ Accepted) ⊎ ((r : rules.Refusal) × ((sisters_of e xs bs).outcome ≡ Refused (Rate r)))
      go (accepts w s) = inl s
      go (refuses r m w s) = inr (r, ap (λ (d : Difference). d.outcome) s)

  pub numbers : (r : Refusal) → (sisters_of e xs bs).outcome ≡ Refused r → Memᴰ (number_of r) rate_numbers
  numbers r h = (refusing r h).number

  pub zero : (r : Refusal) → (sisters_of e xs bs).outcome ≡ Refused r → ((sisters_of e xs bs).low ≡ pos 0) × ((sisters_of e xs bs).high ≡ pos 0)
  zero r h = (refusing r h).ends

  pub inside : ((sisters_of e xs bs).outcome ≡ Accepted) ↔ OfClass e xs bs
  inside = (
    λ h. go h answer,
    λ w. ap (λ (d : Difference). d.outcome)
        (accepted-inside e xs bs w.rated w.count
        (λ a l. (points-iff e.codelist.factors xs bs a l).1 (w.first.each a l, w.second.each a l))),
  )
    where
      go : (sisters_of e xs bs).outcome ≡ Accepted → Answer → OfClass e xs bs
      go h (accepts w s) = w
      go h (refuses r m w s) = not-both (sym h ∙ ap (λ (d : Difference). d.outcome) s)

  pub refused-listed : (r : rules.Refusal) → ((sisters_of e xs bs).outcome ≡ Refused (Rate r)) ↔ SistersRefusedFor e xs bs r
  refused-listed r = (
    λ h. let R = refusing (Rate r) h in
        let s = R.same in
        let k : R.reason ≡ r = cc in
        subst (SistersRefusedFor e xs bs) k R.listed,
    λ w. ap (λ (d : Difference). d.outcome) (refused-for r w),
  )

  pub one-refusal : (q r : rules.Refusal) → SistersRefusedFor e xs bs q → SistersRefusedFor e xs bs r → q ≡ r
  one-refusal q r s t = let u = (refused-listed q).1 s in let v = (refused-listed r).1 t in cc
