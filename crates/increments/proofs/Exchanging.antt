-- The two boats exchanged give the difference in the other direction, and the same boat twice gives none. Assumes nothing.
use mathlib.Core.Path.{◌≡◌, refl, sym, ap, ap₂, subst, ◌∙◌}
use mathlib.Core.Bool.{Bool, ◌&&◌, cond, and_comm}
use mathlib.Core.List.{List, ◌++◌}
use Prim.Native.Nat.{ℕ, zero, suc, ◌+◌, ◌*◌, ◌≤◌, ◌<◌}
use native.Mathlib.Decide.{ℕ_discrete}
use native.Mathlib.Nat as N
use native.Mathlib.Omega.{arith}
use lib.IntN.{ℤ, pos, neg_ℤ, ◌+ℤ◌, ◌-ℤ◌, ◌*ℤ◌, neg_ℤ-neg_ℤ, neg_ℤ-+ℤ}
use lib.ListN.{length, get_or, take, drop, length-append, length-drop, take-append-drop, get_or-append}
use lib.Seq.{get_or-append-add, get_or-take, get_or-drop}
use lib.Signed.{◌≤ℤ◌}
use Rattle.algebra.proofs.Int.{ℤ-ring, neg-anti, *ℤ-neg, ≤ℤ-antisym}
use Rattle.algebra.proofs.Ring as Ring
use Rattle.algebra.proofs.Solver.{◌:-◌, :-◌, ◌:=◌, ring}
use Rattle.algebra.proofs.Sum.{sum, sum_below, sum-ext, sum-zero}
use Rattle.exact.specs.Div.{floor_div, ceil_div}
use Rattle.range.specs.declared.Range.{Range}
use Rattle.range.specs.Arithmetic.{lesser_of, greater_of}
use Rattle.range.specs.Sums.{at}
use Rattle.range.proofs.Extremes.{lesser-any, lesser-left, lesser-right, greater-any, greater-left, greater-right}
use Rattle.rules.specs.Rate.{pairs}
use Rattle.engine.specs.declared.Engine.{Engine}
use Rattle.engine.specs.InFull.{Outcome}
use Rattle.engine.specs.InFull.{Accepted, Refused}
use Rattle.engine.specs.Engine.{rated_of}
use Rattle.increments.specs.InFull.{Difference}
use Rattle.increments.specs.Call.{first, second, apart_by, holds, outside_from, first_outside, least_sum, greatest_sum, difference_of}
use Rattle.increments.specs.Call.{unless_outside, boats_of, sisters_of}
use Rattle.increments.specs.Promises as P
use Rattle.increments.specs.Promises.{turned}
use Rattle.increments.proofs.Outside.{both_in}
use Rattle.increments.proofs.Rounded.{products}
use Rattle.increments.proofs.Answers.{another-count, counted, class-rated, class-refused}

-- ---- the boats p and then q
module _ (n : ℕ) (p q : List ℤ) (e : length p ≡ n) (a : ℕ) where
  first_of : a < n → first (p ++ q) a ≡ get_or p a (pos 0)
  first_of l = get_or-append p q (pos 0) a (omega (arith, e, l))

  second-of : second n (p ++ q) a ≡ get_or q a (pos 0)
  second-of = ap (λ (k : ℕ). get_or (p ++ q) (k + a) (pos 0)) (sym e) ∙ get_or-append-add p q a (pos 0)

-- ════ the other direction ════

-- ---- negated numbers
lesser-neg : (x y : ℤ) → lesser_of (neg_ℤ x) (neg_ℤ y) ≡ neg_ℤ (greater_of x y)
lesser-neg x y =
    let m = lesser_of (neg_ℤ x) (neg_ℤ y) in
    let g = greater_of x y in
    ≤ℤ-antisym
    (greater-any x y (λ z. m ≤ℤ neg_ℤ z) (lesser-left (neg_ℤ x) (neg_ℤ y)) (lesser-right (neg_ℤ x) (neg_ℤ y)))
    (lesser-any (neg_ℤ x) (neg_ℤ y) (λ z. neg_ℤ g ≤ℤ z) (neg-anti (greater-left x y)) (neg-anti (greater-right x y)))

greater-neg : (x y : ℤ) → greater_of (neg_ℤ x) (neg_ℤ y) ≡ neg_ℤ (lesser_of x y)
greater-neg x y =
    sym (neg_ℤ-neg_ℤ (greater_of (neg_ℤ x) (neg_ℤ y)))
    ∙ ap neg_ℤ (sym (lesser-neg (neg_ℤ x) (neg_ℤ y)) ∙ ap₂ lesser_of (neg_ℤ-neg_ℤ x) (neg_ℤ-neg_ℤ y))

sum-neg : (n : ℕ) (f : ℕ → ℤ) → sum ℤ-ring n (λ a. neg_ℤ (f a)) ≡ neg_ℤ (sum ℤ-ring n f)
unfolding sum_below
sum-neg zero f = refl
sum-neg (suc n) f = ap (neg_ℤ (f n) +ℤ◌) (sum-neg n f) ∙ sym (neg_ℤ-+ℤ (f n) (sum ℤ-ring n f))

floor-neg : (s : ℤ) → floor_div (neg_ℤ s) 10000 ≡ neg_ℤ (ceil_div s 10000)
unfolding ceil_div
floor-neg s = sym (neg_ℤ-neg_ℤ (floor_div (neg_ℤ s) 10000))

ceil-neg : (s : ℤ) → ceil_div (neg_ℤ s) 10000 ≡ neg_ℤ (floor_div s 10000)
unfolding ceil_div
ceil-neg s = ap (λ (z : ℤ). neg_ℤ (floor_div z 10000)) (neg_ℤ-neg_ℤ s)

unless-turned : (k : ℕ) (d : Difference) → unless_outside k (turned d) ≡ turned (unless_outside k d)
unless-turned zero d = refl
unless-turned (suc k) d = refl

-- ---- the boats of a rated class
module _ (n : ℕ) (bs : List ℤ) where
  same_length : length (P.exchanged n bs) ≡ length bs
  same_length =
      length-append (drop n bs) (take n bs)
      ∙ N.add_comm (length (drop n bs)) (length (take n bs))
      ∙ sym (length-append (take n bs) (drop n bs))
      ∙ ap length (take-append-drop n bs)

  module _ (c : length bs ≡ 2 * n) where
    after : length (drop n bs) ≡ n
    after = omega (arith, c, length-drop n bs)

    module _ (a : ℕ) (l : a < n) where
      first-is : first (P.exchanged n bs) a ≡ second n bs a
      first-is = first_of n (drop n bs) (take n bs) after a l ∙ get_or-drop n bs a (pos 0)

      second_is : second n (P.exchanged n bs) a ≡ first bs a
      second_is = second-of n (drop n bs) (take n bs) after a ∙ get_or-take n bs a (pos 0) l

      apart-is : apart_by n (P.exchanged n bs) a ≡ neg_ℤ (apart_by n bs a)
      apart-is = ap₂ ◌-ℤ◌ second_is first-is ∙ ring ℤ-ring 2 (λ x y. x :- y := :- (y :- x)) tt (first bs a) (second n bs a)

      times-is : (x : ℤ) → x *ℤ apart_by n (P.exchanged n bs) a ≡ neg_ℤ (x *ℤ apart_by n bs a)
      times-is x = ap (x *ℤ◌) apart-is ∙ *ℤ-neg x (apart_by n bs a)

    module _ (g : List Range) where
      sum_is : (f h : ℤ → ℤ → ℤ) → ((x y : ℤ) → f (neg_ℤ x) (neg_ℤ y) ≡ neg_ℤ (h x y))
          → products f n g (P.exchanged n bs) ≡ neg_ℤ (products h n g bs)
      sum_is f h e =
          sum-ext ℤ-ring n
          (λ a l. ap₂ f (times-is a l (at g a).low) (times-is a l (at g a).high)
          ∙ e ((at g a).low *ℤ apart_by n bs a) ((at g a).high *ℤ apart_by n bs a))
          ∙ sum-neg n _

      difference-is : difference_of n g (P.exchanged n bs) ≡ turned (difference_of n g bs)
      unfolding least_sum greatest_sum
      difference-is =
          ap₂ (λ (x y : ℤ). record { outcome = Accepted; low = x; high = y })
          (ap (λ (z : ℤ). floor_div z 10000) (sum_is lesser_of greater_of lesser-neg) ∙ floor-neg (products greater_of n g bs))
          (ap (λ (z : ℤ). ceil_div z 10000) (sum_is greater_of lesser_of greater-neg) ∙ ceil-neg (products lesser_of n g bs))

    module _ (rs : List Range) where
      both_is : (a : ℕ) → a < n → both_in n rs (P.exchanged n bs) a ≡ both_in n rs bs a
      both_is a l =
          let r = at rs a in
          ap₂ (λ (x y : ℤ). holds r x && holds r y) (first-is a l) (second_is a l) ∙ and_comm (holds r (second n bs a)) (holds r (first bs a))

      search_is : (a k : ℕ) → a + k ≤ n → outside_from n rs (P.exchanged n bs) a k ≡ outside_from n rs bs a k
      unfolding outside_from
      search_is a zero h = refl
      search_is a (suc k) h =
          ap₂ (λ (b : Bool) (m : ℕ). cond b m (suc a)) (both_is a (omega (arith, h))) (search_is (suc a) k (omega (arith, h)))

      outside-is : first_outside n rs (P.exchanged n bs) ≡ first_outside n rs bs
      unfolding first_outside
      outside-is = search_is 0 n (omega arith)

  module _ (rs g : List Range) where
    boats-exchanged : boats_of n rs g (P.exchanged n bs) ≡ turned (boats_of n rs g bs)
    boats-exchanged = go (ℕ_discrete (length bs) (2 * n))
      where
        go : Dec (length bs ≡ 2 * n) → boats_of n rs g (P.exchanged n bs) ≡ turned (boats_of n rs g bs)
        go (no f) =
            sym (another-count n rs g (P.exchanged n bs) (λ e. f (sym same_length ∙ e))) ∙ ap turned (another-count n rs g bs f)
        go (yes c) =
            sym (counted n rs g (P.exchanged n bs) (same_length ∙ c))
            ∙ ap₂ unless_outside (outside-is c rs) (difference-is c g)
            ∙ unless-turned (first_outside n rs bs) (difference_of n g bs)
            ∙ ap turned (counted n rs g bs c)

pub exchanged : (e : Engine) (xs bs : List ℤ) → sisters_of e xs (P.exchanged e.codelist.factors bs) ≡ turned (sisters_of e xs bs)
exchanged e xs bs = go (rated_of e xs).outcome refl
  where
    to : List ℤ
    to = P.exchanged e.codelist.factors bs

    go : (o : Outcome) → (rated_of e xs).outcome ≡ o → sisters_of e xs to ≡ turned (sisters_of e xs bs)
    go Accepted h =
        sym (class-rated e xs to h)
        ∙ boats-exchanged e.codelist.factors bs (pairs xs) (rated_of e xs).limits.gradient
        ∙ ap turned (class-rated e xs bs h)
    go (Refused r) h = sym (class-refused e xs to r h) ∙ ap turned (class-refused e xs bs r h)

-- ════ no difference ════

abbrev None : Difference → Type 0
None d = (d.low ≡ pos 0) × (d.high ≡ pos 0)

unless-none : (k : ℕ) (d : Difference) → None d → None (unless_outside k d)
unless-none zero d h = h
unless-none (suc k) d h = (refl, refl)

module _ (n : ℕ) (b : List ℤ) where
  module _ (c : length (b ++ b) ≡ 2 * n) where
    half : length b ≡ n
    half = omega (arith, c, length-append b b)

    module _ (a : ℕ) (l : a < n) where
      apart_none : apart_by n (b ++ b) a ≡ pos 0
      apart_none = ap₂ ◌-ℤ◌ (second-of n b b half a) (first_of n b b half a l) ∙ ℤ-ring.add-neg (get_or b a (pos 0))

      times_none : (x : ℤ) → x *ℤ apart_by n (b ++ b) a ≡ pos 0
      times_none x = ap (x *ℤ◌) apart_none ∙ Ring.mul-zero ℤ-ring x

    module _ (g : List Range) where
      sum-none : (f : ℤ → ℤ → ℤ) → ((x y : ℤ) (C : ℤ → Type 0) → C x → C y → C (f x y)) → products f n g (b ++ b) ≡ pos 0
      sum-none f any = sum-zero ℤ-ring n (λ a l. any _ _ (λ z. z ≡ pos 0) (times_none a l (at g a).low) (times_none a l (at g a).high))

      none : None (difference_of n g (b ++ b))
      unfolding least_sum greatest_sum floor_div ceil_div
      none = (
        ap (λ (z : ℤ). floor_div z 10000) (sum-none lesser_of lesser-any),
        ap (λ (z : ℤ). ceil_div z 10000) (sum-none greater_of greater-any),
      )

  module _ (rs g : List Range) where
    boats-none : None (boats_of n rs g (b ++ b))
    boats-none = go (ℕ_discrete (length (b ++ b)) (2 * n))
      where
        go : Dec (length (b ++ b) ≡ 2 * n) → None (boats_of n rs g (b ++ b))
        go (no f) = subst None (another-count n rs g (b ++ b) f) (refl, refl)
        go (yes c) = subst None (counted n rs g (b ++ b) c) (unless-none (first_outside n rs (b ++ b)) (difference_of n g (b ++ b)) (none c g))

pub equal : (e : Engine) (xs b : List ℤ) → ((sisters_of e xs (b ++ b)).low ≡ pos 0) × ((sisters_of e xs (b ++ b)).high ≡ pos 0)
equal e xs b = go (rated_of e xs).outcome refl
  where
    go : (o : Outcome) → (rated_of e xs).outcome ≡ o → None (sisters_of e xs (b ++ b))
    go Accepted h = subst None (class-rated e xs (b ++ b) h) (boats-none e.codelist.factors b (pairs xs) (rated_of e xs).limits.gradient)
    go (Refused r) h = subst None (class-refused e xs (b ++ b) r h) (refl, refl)
