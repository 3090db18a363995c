-- The bytes after the numerals of the boat lines, and the loop over these: what each way through a turn is of `fields`. Assumes nothing.
use Prim.Native.Nat.{ℕ, suc, zero, ◌+◌, ◌-◌, ◌*◌, ◌%◌, ◌≤◌, ◌<◌}
use mathlib.Core.List.{List, [], ◌∷◌, ◌++◌}
use mathlib.Core.Path.{◌≡◌, refl, sym, ap, ◌∙◌}
use native.Mathlib.Decide.{dec_lt}
use native.Mathlib.Nat.{mod-eq_of_lt, mod_self, add-mod_left}
use native.Mathlib.Numerals.{add-one}
use native.Mathlib.Omega.{arith}
use Rattle.std.specs.Bool.{then_some}
use borrow.Author.Tests.{ne_eqb}
use lib.Dec.{eqb}
use lib.IntN.{ℤ}
use lib.ListN.{length, get_or, take, drop, set, length-append, drop_of_length-le, get_or-append}
use lib.Seq.{drop-cons, take-suc-set, get_or-append-add}
use Rattle.codelist.specs.declared.Numeral.{Numeral}
use Rattle.codelist.specs.Load.{value_of, saturated}
use Rattle.codelist.specs.Read.{good, bad, field}
use Rattle.codelist.proofs.Laws.{saturated-few}
use Rattle.codelist.proofs.LineTexts.{field-sound}
use Rattle.sisters_text.specs.Views.{values_of}
use Rattle.sisters_text.specs.Input.{byte_after, line_ends, boat_ends, fields, whole_of}

-- ---- the bytes after the numerals
line-length : (n : ℕ) → length (line_ends n) ≡ n
unfolding line_ends
line-length zero = refl
line-length (suc n) = ap suc (line-length n)

ends-length : (n : ℕ) → length (boat_ends n) ≡ 2 * n
unfolding boat_ends
ends-length n = omega (arith, length-append (line_ends n) (line_ends n), line-length n)

-- in a line, by how many numerals are left of it
line-byte : (n a k : ℕ) → a + suc k ≡ n → get_or (line_ends n) a 0 ≡ byte_after k
unfolding line_ends
line-byte zero a k e = absurd (omega (arith, e))
line-byte (suc n) zero k e = let m : n ≡ k = omega (arith, e) in rw m
line-byte (suc n) (suc a) k e = line-byte n a k (omega (arith, e))

-- in both
module _ (n a k : ℕ) where
  pub first_byte : a + suc k ≡ n → get_or (boat_ends n) a 0 ≡ byte_after k
  unfolding boat_ends
  first_byte e = get_or-append (line_ends n) (line_ends n) 0 a (omega (arith, e, line-length n)) ∙ line-byte n a k e

  pub second-byte : a + suc k ≡ n + n → n ≤ a → get_or (boat_ends n) a 0 ≡ byte_after k
  unfolding boat_ends
  second-byte e h =
      let m : length (line_ends n) + (a - n) ≡ a = omega (arith, h, line-length n) in
      ap (λ (i : ℕ). get_or (line_ends n ++ line_ends n) i 0) (sym m) ∙ get_or-append-add (line_ends n) (line_ends n) (a - n) 0
      ∙ line-byte n (a - n) k (omega (arith, e, h))

-- the first and the last of n whole lines
module _ (n a : ℕ) (h : a < 2 * n) where
  wrong : (k : ℕ) → 0 < k → k < n → k % n ≡ 0 → ⊥
  wrong k p q z = let m = sym (mod-eq_of_lt q) ∙ z in omega (arith, m)

  pub byte-last : (a + 1) % n ≡ 0 → 10 ≡ get_or (boat_ends n) a 0
  byte-last e = go (dec_lt (a + 1) n) (dec_lt n (a + 1)) (dec_lt (a + 1) (2 * n))
    where
      go : Dec (a + 1 < n) → Dec (n < a + 1) → Dec (a + 1 < 2 * n) → 10 ≡ get_or (boat_ends n) a 0
      go (yes p) q r = absurd (wrong (a + 1) (omega arith) p e)
      go (no p) (no q) r = sym (first_byte n a 0 (omega arith))
      go (no p) (yes q) (no r) = sym (second-byte n a 0 (omega arith) (omega arith))
      go (no p) (yes q) (yes r) =
          let m : n + (a + 1 - n) ≡ a + 1 = omega arith in
          absurd (wrong (a + 1 - n) (omega arith) (omega arith) (sym (add-mod_left n (a + 1 - n)) ∙ rw m e))

  pub byte-inner : ¬ ((a + 1) % n ≡ 0) → 9 ≡ get_or (boat_ends n) a 0
  byte-inner d = go (dec_lt a n)
    where
      p : ¬ (a + 1 ≡ n)
      p m = d (rw m (mod_self n))

      q : ¬ (a + 1 ≡ n + n)
      q m = d (rw m (add-mod_left n n ∙ mod_self n))

      go : Dec (a < n) → 9 ≡ get_or (boat_ends n) a 0
      go (yes l) = sym (first_byte n a (suc (n - 2 - a)) (omega (arith, l, p)))
      go (no l) = sym (second-byte n a (suc (2 * n - 2 - a)) (omega (arith, l, h, q)) (omega (arith, l)))

-- ---- the loop: a numbers are read into xs, and e is the byte after the next one
module _ (n a : ℕ) (xs : List ℤ) (s : List ℕ) (e : ℕ) (h : a < 2 * n) (b : e < 256) (p : e ≡ get_or (boat_ends n) a 0) where
  next-end : drop a (boat_ends n) ≡ e ∷ drop (a + 1) (boat_ends n)
  next-end = rw (add-one a, p) (drop-cons (boat_ends n) a 0 (omega (arith, h, ends-length n)))

  pub fields-bad : bad ≡ field e s → bad ≡ fields (drop a (boat_ends n)) (take a xs) s
  unfolding fields
  fields-bad f = rw (next-end, ← f)

  pub fields-turn : (w : Numeral) (x : ℤ) (t : List ℕ) → n ≤ 8 → length xs ≡ 16 → good w t ≡ field e s → x ≡ saturated w
      → fields (drop (a + 1) (boat_ends n)) (take (a + 1) (set xs a x)) t ≡ fields (drop a (boat_ends n)) (take a xs) s
  unfolding fields
  fields-turn w x t m l f q =
      let v : x ≡ value_of w = q ∙ saturated-few w (field-sound e s w t b (sym f)).fine.few in
      let more : take (a + 1) (set xs a x) ≡ take a xs ++ (x ∷ []) = rw (add-one a) (take-suc-set xs a x (omega (arith, m, h, l))) in
      rw (next-end, ← f, more, v)

pub fields-done : (n a : ℕ) (xs : List ℤ) (s : List ℕ) → a ≡ 2 * n → good (take (2 * n) xs) s ≡ fields (drop a (boat_ends n)) (take a xs) s
unfolding fields
fields-done n a xs s e = let z : drop (2 * n) (boat_ends n) ≡ [] = drop_of_length-le (boat_ends n) {i = 2 * n} (omega (arith, ends-length n)) in rw (e, z)

-- nothing may be left of the text
pub read : (n : ℕ) (s : List ℕ) (xs : List ℤ) → values_of n (then_some (eqb (length s) 0) xs) ≡ whole_of (good (take (2 * n) xs) s)
read n [] xs = refl
read n (b ∷ s) xs = rw (ne_eqb (suc (length s)) 0 (λ e. omega (arith, e)))
