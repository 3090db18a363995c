-- Lines of two numbers that are printed alike are of the same numbers, however large these are. Assumes nothing.
use Prim.Native.Nat.{ℕ, suc, zero, ◌+◌, ◌-◌, ◌*◌, ◌/◌, ◌%◌, ◌≤◌, ◌<◌}
use mathlib.Core.Bool.{cond}
use mathlib.Core.List.{List, [], ◌∷◌, ◌++◌, append_assoc, append_cancel_left}
use mathlib.Core.Path.{◌≡◌, sym, ap, ◌∙◌}
use native.Mathlib.Decide.{dec_lt}
use native.Mathlib.Nat.{zero-add}
use native.Mathlib.Omega.{arith}
use lib.Dec.{leb}
use lib.IntN.{ℤ, pos, negsuc}
use borrow.Author.Tests.{le-ltb, le-leb, lt-leb}
use Rattle.codelist.specs.Read.{peek}
use Rattle.codelist.specs.Text.{decimal}
use Rattle.range.specs.declared.Range.{Range}
use Rattle.writer.specs.Texts.{whole_text}
use Rattle.writer.proofs.Digits.{decimal_digit}
use Rattle.text.specs.Output.{range_fields}
use Rattle.text.proofs.Writing.{whole-field}

-- What a text of digits says after digits with the value m, up to a tab or the line's end; and what follows that
reading : ℕ → List ℕ → ℕ × List ℕ
reading m [] = (m, [])
reading m (b ∷ s) = cond (leb b 10) (m, s) (reading (m * 10 + (b - 48)) s)

digit-read : (m d : ℕ) (s : List ℕ) → reading m ((48 + d) ∷ s) ≡ reading (m * 10 + d) s
unfolding reading
digit-read m d s = let z : 48 + d - 48 ≡ d = omega arith in rw (lt-leb (48 + d) 10 (omega arith), z)

first_read : (d : ℕ) (s : List ℕ) → reading 0 ((48 + d) ∷ s) ≡ reading d s
first_read d s = digit-read 0 d s ∙ ap (λ (n : ℕ). reading n s) (zero-add d)

-- the last digit of more than one
decimal-more : (k m : ℕ) (s : List ℕ) → 10 ≤ m → decimal (suc k) m ++ s ≡ decimal k (m / 10) ++ ((48 + m % 10) ∷ s)
unfolding decimal
decimal-more k m s h = rw (le-ltb m 10 h) (append_assoc (decimal k (m / 10)) ((48 + m % 10) ∷ []) s)

decimal-read : (k m : ℕ) (s : List ℕ) → reading 0 (decimal k m ++ s) ≡ reading m s
unfolding decimal
decimal-read zero m s = first_read m s
decimal-read (suc k) m s = go (dec_lt m 10) (decimal-read k (m / 10))
  where
    go : Dec (m < 10) → ((t : List ℕ) → reading 0 (decimal k (m / 10) ++ t) ≡ reading (m / 10) t) → reading 0 (decimal (suc k) m ++ s) ≡ reading m s
    go (yes h) i = ap (λ (l : List ℕ). reading 0 (l ++ s)) (decimal_digit (suc k) m h) ∙ first_read m s
    go (no h) i =
        let z : m / 10 * 10 + m % 10 ≡ m = omega arith in
        ap (reading 0) (decimal-more k m s (omega (arith, h))) ∙ i _ ∙ digit-read (m / 10) (m % 10) s ∙ ap (λ (n : ℕ). reading n s) z

-- no minus sign is the first of them
decimal-first : (k m : ℕ) (s : List ℕ) → 48 ≤ peek (decimal k m ++ s)
unfolding decimal peek
decimal-first zero m s = omega arith
decimal-first (suc k) m s = go (dec_lt m 10) (decimal-first k (m / 10))
  where
    go : Dec (m < 10) → ((t : List ℕ) → 48 ≤ peek (decimal k (m / 10) ++ t)) → 48 ≤ peek (decimal (suc k) m ++ s)
    go (yes h) i = rw (decimal_digit (suc k) m h) (omega arith)
    go (no h) i = rw (decimal-more k m s (omega (arith, h))) (i _)

-- ---- a number, and the byte e after it
module _ (e : ℕ) (h : e ≤ 10) where
  ended : (m : ℕ) (s : List ℕ) → reading 0 (decimal 19 m ++ (e ∷ s)) ≡ (m, s)
  unfolding reading
  ended m s = decimal-read 19 m (e ∷ s) ∙ rw (le-leb e 10 h)

  natural-inv : (m n : ℕ) (s t : List ℕ) → decimal 19 m ++ (e ∷ s) ≡ decimal 19 n ++ (e ∷ t) → (m ≡ n) × (s ≡ t)
  natural-inv m n s t p =
      let r = sym (ended m s) ∙ ap (reading 0) p ∙ ended n t in
      (ap (λ (q : ℕ × List ℕ). q.0) r, ap (λ (q : ℕ × List ℕ). q.1) r)

  unsigned : {A : Type 0} (m : ℕ) (s t : List ℕ) → decimal 19 m ++ s ≡ 45 ∷ t → A
  unfolding peek
  unsigned m s t p = absurd (omega (arith, decimal-first 19 m s, ap peek p))

  pub whole-inv : (x y : ℤ) (s t : List ℕ) → whole_text x ++ (e ∷ s) ≡ whole_text y ++ (e ∷ t) → (x ≡ y) × (s ≡ t)
  whole-inv (pos m) (pos n) s t p = let i = natural-inv m n s t p in (ap pos i.0, i.1)
  whole-inv (pos m) (negsuc n) s t p = unsigned m _ _ p
  whole-inv (negsuc m) (pos n) s t p = unsigned n _ _ (sym p)
  whole-inv (negsuc m) (negsuc n) s t p =
      let i = natural-inv (suc m) (suc n) s t (append_cancel_left (45 ∷ []) _ _ p) in
      let z : m ≡ n = omega (arith, i.0) in
      (ap negsuc z, i.1)

-- ---- two of them
range-apart : (x : Range) → range_fields x ≡ 9 ∷ (whole_text x.low ++ (9 ∷ (whole_text x.high ++ (10 ∷ []))))
unfolding range_fields
range-apart x = rw (← whole-field x.low, ← whole-field x.high)

pub range-inv : (x y : Range) → range_fields x ≡ range_fields y → (x.low ≡ y.low) × (x.high ≡ y.high)
range-inv x y p =
    let i = whole-inv 9 (omega arith) x.low y.low _ _ (append_cancel_left (9 ∷ []) _ _ (sym (range-apart x) ∙ p ∙ range-apart y)) in
    let j = whole-inv 10 (omega arith) x.high y.high [] [] i.1 in
    (i.0, j.0)
