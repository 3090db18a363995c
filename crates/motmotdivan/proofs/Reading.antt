-- What the cells that were converted say of the record of ranges: all numbers, or the lowest factor with a fraction.
use Rattle.std.proofs.Common.{◌≡◌, ℕ, zero, suc, ◌+◌, ◌*◌, ◌/◌, ◌<◌, ◌≤◌, List, [], ◌∷◌, map, length, get_or, take, drop, ℤ, pos, sym, refl, ap, ◌∙◌, arith, drop-cons}
use native.Mathlib.Decide.{ℕ_discrete}
use Rattle.motmotdivan.specs.Doubles.{Number, whole, no_whole}
use Rattle.motmotdivan.specs.Record.{number_at, Read, numbers, fraction, before, read_from}
use Rattle.motmotdivan.specs.Views.{clamp, Whole}
use Rattle.motmotdivan.proofs.Clamped.{is-clamped}

pub record AllRead (b : List ℕ) (xs : List ℤ) (a m : ℕ) : Type 0 where
  pub exact : List ℤ
  pub read : read_from b a m ≡ numbers exact
  pub near : map clamp exact ≡ take (2 * m) (drop (2 * a) xs)

-- two numbers of a list, and the others
two : (xs : List ℤ) (a m : ℕ) → 2 * a + 1 < length xs
    → take (2 * suc m) (drop (2 * a) xs) ≡ get_or xs (2 * a) (pos 0) ∷ get_or xs (2 * a + 1) (pos 0) ∷ take (2 * m) (drop (2 * (a + 1)) xs)
two xs a m h =
    let e : 2 * suc m ≡ suc (suc (2 * m)) = omega arith in
    let f : 2 * a + 1 ≡ suc (2 * a) = omega arith in
    let g : 2 * (a + 1) ≡ suc (suc (2 * a)) = omega arith in
    rw (e, f, g, drop-cons xs (2 * a) (pos 0) (omega arith), drop-cons xs (suc (2 * a)) (pos 0) (omega arith))

-- one factor, by what its ends are
both : (a : ℕ) {x y : Number} {r : Read} {l h : ℤ} {ys : List ℤ} → x ≡ whole l → y ≡ whole h → r ≡ numbers ys → before a x y r ≡ numbers (l ∷ h ∷ ys)
both a p q s = rw (p, q, s)

later : (a : ℕ) {x y : Number} {r : Read} {l h : ℤ} {k : ℕ} → x ≡ whole l → y ≡ whole h → r ≡ fraction k → before a x y r ≡ fraction k
later a p q s = rw (p, q, s)

low-none : (a : ℕ) (y : Number) (r : Read) {x : Number} → x ≡ no_whole → before a x y r ≡ fraction a
low-none a y r p = rw p

high-none : (a : ℕ) (r : Read) {x y : Number} {l : ℤ} → x ≡ whole l → y ≡ no_whole → before a x y r ≡ fraction a
high-none a r p q = rw (p, q)

pair-near : {l h m n : ℤ} {xs ys : List ℤ} → l ≡ m → h ≡ n → xs ≡ ys → l ∷ h ∷ xs ≡ m ∷ n ∷ ys
pair-near p q s = rw (p, q, s)

pub all_read : (b : List ℕ) (xs : List ℤ) (a m : ℕ) → Whole b xs (2 * (a + m)) → 2 * (a + m) ≤ length xs → AllRead b xs a m
unfolding read_from
all_read b xs a zero w l = record { exact = []; read = refl; near = refl }
all_read b xs a (suc m) w l =
    let low = is-clamped (number_at b (2 * a)) _ (w (2 * a) (omega arith)) in
    let high = is-clamped (number_at b (2 * a + 1)) _ (w (2 * a + 1) (omega arith)) in
    let rest = all_read b xs (a + 1) m (λ j h. w j (omega arith)) (omega arith) in
    record {
      exact = low.exact ∷ high.exact ∷ rest.exact;
      read = both (a + 1) low.is high.is rest.read;
      near = pair-near low.near high.near rest.near ∙ sym (two xs a m (omega arith));
    }

pub first-fraction : (b : List ℕ) (xs : List ℤ) (k a m : ℕ) → Whole b xs k → number_at b k ≡ no_whole → 2 * a ≤ k → k < 2 * (a + m)
    → read_from b a m ≡ fraction (k / 2 + 1)
unfolding read_from
first-fraction b xs k a zero w n l h = absurd (omega arith)
first-fraction b xs k a (suc m) w n l h =
    elim (ℕ_discrete k (2 * a)) [
      | yes e ↦ low-none (a + 1) (number_at b (2 * a + 1)) (read_from b (a + 1) m) (sym (ap (number_at b) e) ∙ n) ∙ ap fraction (omega arith)
      | no e ↦
          let low = is-clamped (number_at b (2 * a)) _ (w (2 * a) (omega arith)) in
          elim (ℕ_discrete k (2 * a + 1)) [
            | yes f ↦ high-none (a + 1) (read_from b (a + 1) m) low.is (sym (ap (number_at b) f) ∙ n) ∙ ap fraction (omega arith)
            | no f ↦
                let high = is-clamped (number_at b (2 * a + 1)) _ (w (2 * a + 1) (omega arith)) in
                later (a + 1) low.is high.is (first-fraction b xs k (a + 1) m w n (omega arith) (omega arith))
          ]
    ]
