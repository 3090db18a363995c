-- Lists of numbers: each number twice, and arrays that are filled from the front. Assumes nothing.
use mathlib.Core.Path.{◌≡◌, refl, ap, sym, ◌∙◌}
use mathlib.Core.Bool.{Bool, true, false}
use mathlib.Core.List.{List, [], ◌∷◌, ◌++◌}
use Prim.Native.Nat.{ℕ, zero, suc, ◌+◌, ◌*◌, ◌≤◌, ◌<◌}
use native.Mathlib.Numerals.{add-one}
use native.Mathlib.Omega.{arith}
use borrow.Author.Tests.{ltb-true, ltb-false}
use lib.Dec.{ltb}
use lib.IntN.{ℤ, pos}
use lib.ListN.{length, get_or, take, drop, set, replicate, length-append, length-set}
use lib.Seq.{take_all, take_at, take-suc, length-take-le, sets-eq}
use Rattle.std.specs.Prelude.{min}
use Rattle.boats.specs.Boats.{doubled}

-- ---- each number twice
take-doubled : (n : ℕ) (b : List ℤ) → take (2 * n) (doubled b) ≡ doubled (take n b)
unfolding doubled
take-doubled zero [] = refl
take-doubled zero (x ∷ b) = refl
take-doubled (suc n) [] = let e : 2 * suc n ≡ suc (suc (2 * n)) = omega arith in rw e
take-doubled (suc n) (x ∷ b) = let e : 2 * suc n ≡ suc (suc (2 * n)) = omega arith in rw e (ap (λ (m : List ℤ). x ∷ x ∷ m) (take-doubled n b))

pub length-doubled : (b : List ℤ) → length (doubled b) ≡ 2 * length b
unfolding doubled
length-doubled [] = refl
length-doubled (x ∷ b) = omega (arith, length-doubled b)

-- the ranges of n factors, of eight numbers
pub ranges-taken : (n : ℕ) (b : List ℤ) {m : ℕ} → length b ≡ 8 → m ≡ min (2 * n) 16 → take m (doubled b) ≡ doubled (take n b)
ranges-taken n b {m} e h = go (ltb n 8) refl
  where
    go : (t : Bool) → ltb n 8 ≡ t → take m (doubled b) ≡ doubled (take n b)
    go true l = let f : m ≡ 2 * n = omega (arith, h, ltb-true n 8 l) in rw f (take-doubled n b)
    go false l =
        let f : m ≡ 16 = omega (arith, h, ltb-false n 8 l) in
        rw f (take_all 16 (doubled b) (omega (arith, length-doubled b))) ∙ sym (ap doubled (take_all n b (omega (arith, ltb-false n 8 l))))

-- ---- filling an array from the front
stored-two : (l : List ℤ) (i : ℕ) (x y : ℤ) → i + 2 ≤ length l → take (i + 2) (set (set l i x) (suc i) y) ≡ take i l ++ (x ∷ y ∷ [])
stored-two l i x y h =
    let n : length (take i l ++ (x ∷ y ∷ [])) ≡ i + 2 = omega (arith, length-append (take i l) (x ∷ y ∷ []), length-take-le i l (omega (arith, h))) in
    ap (take (i + 2)) (sets-eq (x ∷ y ∷ []) l i h) ∙ take_at (take i l ++ (x ∷ y ∷ [])) (drop (i + 2) l) (i + 2) n

doubled-last : (b : List ℤ) (x : ℤ) → doubled (b ++ (x ∷ [])) ≡ doubled b ++ (x ∷ x ∷ [])
unfolding doubled
doubled-last [] x = refl
doubled-last (y ∷ b) x = ap (λ (m : List ℤ). y ∷ y ∷ m) (doubled-last b x)

-- the first a of eight numbers are there, each twice
pub record Doubling (b ends : List ℤ) (a : ℕ) : Type 0 where
  pub whole : length ends ≡ 16
  pub same : take (2 * a) ends ≡ doubled (take a b)

pub doubling-start : (b : List ℤ) → Doubling b (replicate 16 (pos 0)) 0
unfolding doubled
doubling-start b = record { whole = refl; same = refl }

pub doubling-next : (b ends : List ℤ) (a : ℕ) {x : ℤ} → length b ≡ 8 → a < 8 → x ≡ get_or b a (pos 0) → Doubling b ends a
    → Doubling b (set (set ends (2 * a) x) (2 * a + 1) x) (a + 1)
doubling-next b ends a {x} e h f d =
    let next : 2 * a + 1 ≡ suc (2 * a) = omega arith in
    let two : 2 * (a + 1) ≡ 2 * a + 2 = omega arith in
    let more : take (a + 1) b ≡ take a b ++ (x ∷ []) = rw (add-one a, f) (take-suc b a (pos 0) (omega (arith, e, h))) in
    record {
      whole = length-set (set ends (2 * a) x) (2 * a + 1) x ∙ length-set ends (2 * a) x ∙ d.whole;
      same = rw (two, next) (stored-two ends (2 * a) x x (omega (arith, d.whole, h)))
          ∙ ap (λ (m : List ℤ). m ++ (x ∷ x ∷ [])) d.same ∙ sym (ap doubled more ∙ doubled-last (take a b) x);
    }

-- all eight are there
pub doubling-end : (b ends : List ℤ) (a : ℕ) → length b ≡ 8 → 8 ≤ a → Doubling b ends a → ends ≡ doubled b
doubling-end b ends a e h d =
    sym (take_all (2 * a) ends (omega (arith, d.whole, h))) ∙ d.same ∙ ap doubled (take_all a b (omega (arith, e, h)))
