-- Ends by their order, beside the tests of them: `all_within` fails exactly where an end passes the limit, of either sign (`passing-iff`), and
-- `is_valid` where a range is bad (`bad-iff`). Assumes nothing.
use mathlib.Core.Path.{◌≡◌, refl, sym, ◌∙◌}
use mathlib.Core.Bool.{Bool, true, false, not, ◌&&◌, false≢true}
use mathlib.Core.List.Memᴰ
use mathlib.Core.List.{List, [], ◌∷◌, Memᴰ}
use mathlib.Core.Logic.{inl, inr, ⊎_elim, ◌↔◌}
use lib.Dec.{T}
use lib.Signed.{le_z, ◌≤ℤ◌, ◌<ℤ◌, le_z_yes, clash_ℤ}
use Rattle.algebra.proofs.Int.{le_z-no, ≤ℤ-trans}
use Rattle.range.specs.declared.Range.{Range}
use Rattle.range.specs.Limit.{least, most, is_valid}
use Rattle.range.proofs.Valid.{false-T, not-true, and_left, and_right, Ends, ends-of}
use Rattle.range.proofs.Ordered.{AllOrdered}
use Rattle.rules.specs.Overflow.{EndBeyond, Passing, within_limit, all_within}
use Rattle.rules.specs.Refused.{Bad}

-- ---- tests
-- where a test comes out as c exactly if a statement holds, it comes out otherwise exactly if it does not
pub refuted-iff : {b : Bool} {P : Type 0} (c : Bool) → (b ≡ c) ↔ P → (b ≡ not c) ↔ (¬ P)
refuted-iff {b} {P} c i = (λ e p. apart c (sym (i.1 p) ∙ e), go b c i.0)
  where
    apart : (c : Bool) → c ≡ not c → ⊥
    apart true e = false≢true (sym e)
    apart false e = false≢true e

    go : (b c : Bool) → (b ≡ c → P) → ¬ P → b ≡ not c
    go true true f n = absurd (n (f refl))
    go true false f n = refl
    go false true f n = refl
    go false false f n = absurd (n (f refl))

-- ---- a range
not_beyond : (r : Range) → Ends r → ¬ (EndBeyond r)
not_beyond r e =
    ⊎_elim
    (⊎_elim (λ b. clash_ℤ b e.above) (λ b. clash_ℤ b (≤ℤ-trans e.order e.below)))
    (⊎_elim (λ b. clash_ℤ b (≤ℤ-trans e.above e.order)) (λ b. clash_ℤ b e.below))

within-not : (r : Range) → r.low ≤ℤ r.high → T (within_limit r) → ¬ (EndBeyond r)
within-not r o t =
    let l = le_z least r.low in
    let h = le_z r.high most in
    not_beyond r (record { above = le_z_yes (and_left l h t); order = o; below = le_z_yes (and_right l h t) })

-- where a test of a range fails, an end is beyond
not_within : (r : Range) → within_limit r ≡ false → EndBeyond r
not_within r e = go (le_z least r.low) (le_z r.high most) le_z-no le_z-no e
  where
    go : (b c : Bool) → (T (not b) → r.low <ℤ least) → (T (not c) → most <ℤ r.high) → (b && c) ≡ false → EndBeyond r
    go false c f g e = inl (inl (f tt))
    go true c f g e = inr (inr (g (false-T e)))

module _ (r : Range) where
  pub bad-iff : (is_valid r ≡ false) ↔ Bad r
  unfolding is_valid
  bad-iff = (
    go (le_z least r.low) (le_z r.low r.high) (le_z r.high most) le_z-no le_z-no le_z-no,
    λ b. not-true (λ t. let e = ends-of r t in ⊎_elim (λ o. clash_ℤ o e.order) (not_beyond r e) b),
  )
    where
      go : (l o h : Bool) → (T (not l) → r.low <ℤ least) → (T (not o) → r.high <ℤ r.low) → (T (not h) → most <ℤ r.high)
          → (l && (o && h)) ≡ false → Bad r
      go false o h f g k e = inr (inl (inl (f tt)))
      go true false h f g k e = inl (g tt)
      go true true h f g k e = inr (inr (inr (k (false-T e))))

  pub good-iff : (is_valid r ≡ true) ↔ (¬ (Bad r))
  good-iff = refuted-iff false bad-iff

-- ---- ranges
passing : (rs : List Range) → all_within rs ≡ false → Passing rs
unfolding all_within
passing [] e = absurd (false≢true (sym e))
passing (r ∷ rs) e = go (within_limit r) refl (passing rs) e
  where
    go : (c : Bool) → within_limit r ≡ c → (all_within rs ≡ false → Passing rs) → (c && all_within rs) ≡ false → Passing (r ∷ rs)
    go false w f e = record { range = r; member = Memᴰ.head refl; end = not_within r w }
    go true w f e = let p = f e in record { range = p.range; member = Memᴰ.tail p.member; end = p.end }

all-member : (rs : List Range) {r : Range} → T (all_within rs) → Memᴰ r rs → T (within_limit r)
unfolding all_within
all-member [] t i = absurd (Memᴰ.not-nil i)
all-member (x ∷ rs) {r} t i =
    ⊎_elim
    (λ e. rw e (and_left (within_limit x) (all_within rs) t))
    (all-member rs (and_right (within_limit x) (all_within rs) t))
    (Memᴰ.cases_cons i)

-- Of ranges whose ends are in order: a low end then needs no test against the positive limit, and a high end none against the negative one.
pub passing-iff : (rs : List Range) → AllOrdered rs → (all_within rs ≡ false) ↔ Passing rs
passing-iff rs o = (
  passing rs,
  λ p. not-true (λ t. within-not p.range (o p.range p.member) (all-member rs t p.member) p.end),
)
