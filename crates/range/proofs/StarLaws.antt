-- Laws of request 4's rule: its ends within the limit, the order of A and B, narrower operands. Assumes nothing.
use mathlib.Core.Path.{◌≡◌, refl, sym, ap, ap₂, ◌∙◌}
use mathlib.Core.Bool.{Bool, true, false, ◌&&◌, cond, and_comm, and_assoc}
use mathlib.Core.Logic.{inl}
use Prim.Native.Nat.{◌<◌}
use lib.Dec.{T, lit<}
use lib.IntN.{ℤ, pos, negsuc, ◌+ℤ◌, ◌-ℤ◌, ◌*ℤ◌, +ℤ_comm}
use lib.Signed.{le_z, ◌≤ℤ◌}
use Rattle.algebra.proofs.Ordered as Ord
use Rattle.algebra.proofs.Solver.{:0, ◌:+◌, ◌:-◌, :-◌}
use Rattle.algebra.proofs.Linear.{◌:≤◌, ◌⇒◌, ⊢◌, linarith}
use Rattle.algebra.proofs.Int.{ints, mul-dif, ℤ-ordered, ≤ℤ-trans}
use Rattle.exact.specs.Sqrt.{ceil_sqrt, floor_sqrt, root_bits}
use Rattle.exact.specs.Div.{floor_div, ceil_div}
use Rattle.exact.proofs.Div.{floor-mono, ceil-mono, floor≤ceil}
use Rattle.range.specs.declared.Range.{Range}
use Rattle.range.specs.Limit.{from_to, over, whole_range, is_valid}
use Rattle.range.specs.Arithmetic.{ends_times}
use Rattle.range.specs.Laws.{Settled, ◌⊑◌}
use Rattle.range.proofs.Valid.{T_true, not-true, and_left, and_right, and_both, ends-of, valid-of, if-settled}
use Rattle.range.proofs.Within.{Within, within-inside, within_of, within-⊑, if-isotone}
use Rattle.range.proofs.Narrowing.{times-within, farthest-mono, farthest-nonneg}
use Rattle.range.specs.Star.{magnitude_of, star_root, ends_star, is_half, star_of}
use Rattle.range.proofs.StarRoot.{root-nonneg, root-near, root-comm}

-- ---- the ends
magnitude-mono : {c f : Range} → Within c f → (magnitude_of c *ℤ magnitude_of c) ≤ℤ (magnitude_of f *ℤ magnitude_of f)
unfolding magnitude_of
magnitude-mono w = Ord.square-mono ℤ-ordered (farthest-nonneg w) (farthest-mono w)

-- the sums before halving: of low ends that rise, and of high ends that fall
module _ {a b d e : ℤ} (m n : ℤ) (h : d ≤ℤ a) (k : e ≤ℤ b) where
  low-sum : (m *ℤ m) ≤ℤ (n *ℤ n) → (d +ℤ e -ℤ star_root d e n) ≤ℤ (a +ℤ b -ℤ star_root a b m)
  low-sum q =
      linarith ℤ-ordered 6 (λ a b d e r s. r :≤ s :+ (a :- d :+ (b :- e)) ⇒ ⊢ d :+ e :- s :≤ a :+ b :- r) tt a b d e (star_root a b m) (star_root d e n)
      (root-near a b m d e n (a -ℤ d +ℤ (b -ℤ e))
      (linarith ℤ-ordered 4 (λ a b d e. e :≤ b ⇒ ⊢ a :- b :- (d :- e) :≤ a :- d :+ (b :- e)) tt a b d e k)
      (linarith ℤ-ordered 4 (λ a b d e. d :≤ a ⇒ ⊢ :- (a :- d :+ (b :- e)) :≤ a :- b :- (d :- e)) tt a b d e h)
      q)

  high-sum : (n *ℤ n) ≤ℤ (m *ℤ m) → (d +ℤ e +ℤ star_root d e n) ≤ℤ (a +ℤ b +ℤ star_root a b m)
  high-sum q =
      linarith ℤ-ordered 6 (λ a b d e r s. s :≤ r :+ (a :- d :+ (b :- e)) ⇒ ⊢ d :+ e :+ s :≤ a :+ b :+ r) tt a b d e (star_root a b m) (star_root d e n)
      (root-near d e n a b m (a -ℤ d +ℤ (b -ℤ e))
      (linarith ℤ-ordered 4 (λ a b d e. d :≤ a ⇒ ⊢ d :- e :- (a :- b) :≤ a :- d :+ (b :- e)) tt a b d e h)
      (linarith ℤ-ordered 4 (λ a b d e. e :≤ b ⇒ ⊢ :- (a :- d :+ (b :- e)) :≤ d :- e :- (a :- b)) tt a b d e k)
      q)

two : 0 < 2
two = lit< tt

pub star-ordered : (a b c : Range) → a.low ≤ℤ a.high → b.low ≤ℤ b.high → (ends_star a b c).low ≤ℤ (ends_star a b c).high
unfolding ends_star
star-ordered a b c o w =
    let m = magnitude_of c in
    let r = star_root a.low b.low m in
    let s = star_root a.high b.high m in
    ≤ℤ-trans (floor≤ceil (a.low +ℤ b.low -ℤ r) two)
    (ceil-mono two
    (linarith ℤ-ordered 6 (λ a b c d r s. a :≤ c ⇒ b :≤ d ⇒ :0 :≤ r ⇒ :0 :≤ s ⇒ ⊢ a :+ b :- r :≤ c :+ d :+ s) tt
    a.low b.low a.high b.high r s o w (root-nonneg a.low b.low m) (root-nonneg a.high b.high m)))

star-within : {a b c d e f : Range} → Within a d → Within b e → Within c f → Within (ends_star a b c) (ends_star d e f)
unfolding ends_star
star-within {a} {b} {c} {d} {e} {f} l m n =
    let p = magnitude_of c in
    let q = magnitude_of f in
    let less = magnitude-mono n in
    record {
      low = floor-mono two (low-sum p q l.low m.low less);
      order = star-ordered a b c l.order m.order;
      high = ceil-mono two (high-sum q p l.high m.high less);
    }

-- ---- twice a range
half-within : {a d : Range} → Within a d → T (is_half d) → T (is_half a)
unfolding is_half
half-within w t = (within-inside (times-within w 2) t).valid

-- no end passes 1,000,000,000
unfoldable pub half_span : Range
half_span = from_to (negsuc 999999999) (pos 1000000000)

pub half-span : (r : Range) → T (is_half r) → Within r half_span
unfolding is_half half_span
half-span r t =
    let e = ends-of (ends_times 2 r) t in
    let l = mul-dif (pos 2) r.low in
    let h = mul-dif (pos 2) r.high in
    record { low = omega (ints, e.above, l); order = omega (ints, e.order, l, h); high = omega (ints, e.below, h) }

-- the test as the code makes it
pub half-test : (r : Range) → (le_z (negsuc 999999999) r.low && (le_z r.low r.high && le_z r.high (pos 1000000000))) ≡ is_half r
unfolding is_half half_span
half-test r = same _ _ there back
  where
    same : (s t : Bool) → (T s → T t) → (T t → T s) → s ≡ t
    same true t f g = sym (T_true (f tt))
    same false t f g = sym (not-true g)

    tests : Bool
    tests = le_z (negsuc 999999999) r.low && (le_z r.low r.high && le_z r.high (pos 1000000000))

    there : T tests → T (is_valid (ends_times 2 r))
    there t =
        let u = and_right (le_z (negsuc 999999999) r.low) _ t in
        let low : negsuc 999999999 ≤ℤ r.low = record { le = and_left (le_z (negsuc 999999999) r.low) _ t } in
        let order : r.low ≤ℤ r.high = record { le = and_left (le_z r.low r.high) _ u } in
        let high : r.high ≤ℤ pos 1000000000 = record { le = and_right (le_z r.low r.high) _ u } in
        let l = mul-dif (pos 2) r.low in
        let h = mul-dif (pos 2) r.high in
        valid-of (ends_times 2 r) (record { above = omega (ints, low, l); order = omega (ints, order, l, h); below = omega (ints, high, h) })

    back : T (is_valid (ends_times 2 r)) → T tests
    back t =
        let w = half-span r t in
        and_both (le_z (negsuc 999999999) r.low) _ w.low.le (and_both (le_z r.low r.high) _ w.order.le w.high.le)

pub half-valid : (r : Range) → T (is_half r) → T (is_valid r)
unfolding half_span is_valid
half-valid r t = (within-inside (half-span r t) tt).valid

-- the three tests of the rule
pub record Halves (a b c : Range) : Type 0 where
  pub first : T (is_half a)
  pub second : T (is_half b)
  pub third : T (is_half c)

abbrev pub are_half : Range → Range → Range → Bool
are_half a b c = is_half a && (is_half b && is_half c)

pub halves : (a b c : Range) → T (are_half a b c) → Halves a b c
halves a b c t =
    let u = and_right (is_half a) (is_half b && is_half c) t in
    record {
      first = and_left (is_half a) (is_half b && is_half c) t;
      second = and_left (is_half b) (is_half c) u;
      third = and_right (is_half b) (is_half c) u;
    }

are-half : {a b c : Range} → Halves a b c → T (are_half a b c)
are-half {a} {b} {c} h = and_both (is_half a) (is_half b && is_half c) h.first (and_both (is_half b) (is_half c) h.second h.third)

-- ---- the laws
-- the widest that A, B and C can be give the whole span up to the limit
widest : ends_star half_span half_span half_span ≡ whole_range
unfolding ends_star half_span magnitude_of star_root ceil_sqrt floor_sqrt root_bits floor_div ceil_div
widest = refl

pub star-valid : {a b c : Range} → Halves a b c → T (is_valid (ends_star a b c))
unfolding is_valid
star-valid {a} {b} {c} h =
    (within-inside (star-within (half-span a h.first) (half-span b h.second) (half-span c h.third))
    (rw widest tt)).valid

pub star-settled : (a b c : Range) → Settled (star_of a b c)
unfolding star_of
star-settled a b c = if-settled (are_half a b c) (λ t. inl (T_true (star-valid (halves a b c t))))

pub star-symmetric : (a b c : Range) → star_of a b c ≡ star_of b a c
unfolding star_of ends_star
star-symmetric a b c =
    let m = magnitude_of c in
    ap₂ (λ t r. cond t r over)
    (sym (and_assoc (is_half a) (is_half b) (is_half c)) ∙ ap (λ t. t && is_half c) (and_comm (is_half a) (is_half b)) ∙ and_assoc (is_half b) (is_half a) (is_half c))
    (ap₂ from_to
    (ap₂ (λ s r. floor_div (s -ℤ r) 2) (+ℤ_comm a.low b.low) (root-comm a.low b.low m))
    (ap₂ (λ s r. ceil_div (s +ℤ r) 2) (+ℤ_comm a.high b.high) (root-comm a.high b.high m)))

pub star-isotone : {a b c d e f : Range} → a ⊑ d → b ⊑ e → c ⊑ f → star_of a b c ⊑ star_of d e f
unfolding star_of
star-isotone {a} {b} {c} {d} {e} {f} l m n =
    if-isotone (are_half a b c) (are_half d e f)
    (λ t. let h = halves d e f t in are-half (record {
      first = half-within (first h) h.first;
      second = half-within (second h) h.second;
      third = half-within (third h) h.third;
    }))
    (λ t. let h = halves d e f t in within-⊑ (star-within (first h) (second h) (third h)))
  where
    first : Halves d e f → Within a d
    first h = within_of l (half-valid d h.first)

    second : Halves d e f → Within b e
    second h = within_of m (half-valid e h.second)

    third : Halves d e f → Within c f
    third h = within_of n (half-valid f h.third)
