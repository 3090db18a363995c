-- Laws of the readers: what stands at a place of the text, and one step of each definition.
use Prim.Native.Nat.{ℕ, suc, zero, ◌+◌, ◌-◌, ◌*◌, ◌^◌, ◌≤◌, ◌<◌, min}
use mathlib.Core.Bool.{Bool, true, false, cond, ◌&&◌, false≢true}
use mathlib.Core.List.{List, [], ◌∷◌}
use mathlib.Core.Path.{◌≡◌, refl, subst}
use native.Mathlib.Decide.{dec_lt}
use native.Mathlib.Nat.{le_trans, mul_assoc, mul-le-mul_right, le-mul_of_pos_right, one-le-pow, pow-succ'}
use native.Mathlib.Numerals.{add-one, sub-one}
use native.Mathlib.Omega.{arith}
use lib.Dec.{lit≤, leb}
use lib.IntN.{ℤ}
use lib.ListN.{length, get_or, drop, length-drop, drop_of_length-le}
use lib.Seq.{drop-cons}
use lib.Signed.{mag}
use mir.Facts.{to_z-of_z}
use Rattle.std.proofs.lemmas.Bool.Decides.{nat_tests}
use mir.Syntax.{w64}
use mir.Val.{to_z, of_z}
use borrow.Author.Tests.{lt-ltb, ne_eqb, eq-eqb, leb-true}
use Rattle.codelist.specs.declared.Numeral.{Numeral}
use Rattle.codelist.specs.Read.{peek, rest, digit, digits, literal, good, bad}
use Rattle.codelist.specs.Read.{Read}
use Rattle.codelist.specs.Views.{next_digit}
use Rattle.codelist.specs.Conditions.{is_between}
use Rattle.codelist.specs.Load.{value_of, saturated}

pub peek-in : (s : List ℕ) (i : ℕ) → i < length s → peek (drop i s) ≡ get_or s i 0
unfolding peek
peek-in [] zero h = absurd (omega arith)
peek-in [] (suc i) h = absurd (omega arith)
peek-in (b ∷ s) zero h = refl
peek-in (b ∷ s) (suc i) h = peek-in s i (omega arith)

pub peek-out : (s : List ℕ) (i : ℕ) → length s ≤ i → peek (drop i s) ≡ 256
unfolding peek
peek-out [] zero h = refl
peek-out [] (suc i) h = refl
peek-out (b ∷ s) zero h = absurd (omega arith)
peek-out (b ∷ s) (suc i) h = peek-out s i (omega arith)

-- where a byte stands, the place is in the text
pub inside : (s : List ℕ) (i : ℕ) → peek (drop i s) < 256 → i < length s
unfolding peek
inside [] zero h = absurd (omega arith)
inside [] (suc i) h = absurd (omega arith)
inside (b ∷ s) zero h = omega arith
inside (b ∷ s) (suc i) h = let g : i < length s = inside s i h in omega arith

rest-suc : (s : List ℕ) (i : ℕ) → rest (drop i s) ≡ drop (suc i) s
unfolding rest
rest-suc [] zero = refl
rest-suc [] (suc i) = refl
rest-suc (b ∷ s) zero = refl
rest-suc (b ∷ s) (suc i) = rest-suc s i

pub rest-drop : (s : List ℕ) (i : ℕ) → rest (drop i s) ≡ drop (i + 1) s
rest-drop s i = rw add-one (rest-suc s i)

-- what is left at a place tells the place
pub place-left : (s : List ℕ) (at : ℕ) → at ≤ length s → length s - length (drop at s) ≡ at
place-left s at h = omega (arith, length-drop at s)

-- where a digit stands, the place is in the text
pub digit-inside : (s : List ℕ) (i d : ℕ) → d ≡ digit (peek (drop i s)) → d < 10 → i < length s
unfolding digit
digit-inside s i d e h =
    elim (dec_lt i (length s)) [
      | yes g ↦ g
      | no g ↦ absurd (let o : digit (peek (drop i s)) ≡ 10 = rw (peek-out s i (omega arith)) in omega arith)
    ]

-- One step of `digits`, as a loop by places takes it
module _ (s : List ℕ) (at k m d : ℕ) (negative : Bool) (e : d ≡ digit (peek (drop at s))) where
  pub digits_more : 0 < k → d < 10 → digits (k - 1) negative (m * 10 + d) (drop (at + 1) s) ≡ digits k negative m (drop at s)
  unfolding digits
  digits_more p h = go k p
    where
      go : (j : ℕ) → 0 < j → digits (j - 1) negative (m * 10 + d) (drop (at + 1) s) ≡ digits j negative m (drop at s)
      go zero q = absurd (omega arith)
      go (suc j) q = simp (sub-one, ← e, lt-ltb d 10 h, rest-drop)

-- k digits more keep the value below 10 ^ 10
abbrev pub Roomy : ℕ → ℕ → Type 0
Roomy k m = (m + 1) * 10 ^ k ≤ 10 ^ 10

pub roomy-small : (k m : ℕ) → Roomy k m → m < 10 ^ 10
roomy-small k m h = omega (arith, le-mul_of_pos_right (m + 1) (one-le-pow k 10 (lit≤ tt)))

pub roomy-more : (k m d : ℕ) → 0 < k → d < 10 → Roomy k m → Roomy (k - 1) (m * 10 + d)
roomy-more zero m d p h r = absurd (omega arith)
roomy-more (suc k) m d p h r =
    rw sub-one
    (le_trans (mul-le-mul_right (10 ^ k) (omega arith)) (subst (λ (x : ℕ). x ≤ 10 ^ 10) step r))
  where
    step : (m + 1) * 10 ^ suc k ≡ (m + 1) * 10 * 10 ^ k
    step = rw (pow-succ' 10 k, mul_assoc)

pub roomy-tight : (k m : ℕ) → Roomy (suc k) m → m < 10 ^ 9
roomy-tight k m r =
    let e : (m + 1) * 10 ^ suc k ≡ (m + 1) * 10 * 10 ^ k = rw (pow-succ' 10 k, mul_assoc) in
    omega (arith, e, le-mul_of_pos_right ((m + 1) * 10) (one-le-pow k 10 (lit≤ tt)))

pub digits-none : (s : List ℕ) (k m : ℕ) (negative : Bool) → k ≤ 0 → good
    (record { negative = negative; magnitude = m }) s ≡ digits k negative m s
unfolding digits
digits-none s zero m negative h = refl
digits-none s (suc k) m negative h = absurd (omega arith)

-- One step of `literal`, as a loop by places takes it
pub literal-none : (s w : List ℕ) (i : ℕ) → length w ≤ i → good tt s ≡ literal (drop i w) s
unfolding literal
literal-none s w i h = rw (drop_of_length-le w h)

module _ (s w : List ℕ) (at i b c : ℕ) (h : i < length w) (p : b ≡ peek (drop at s)) (q : c ≡ get_or w i 0) where
  pub literal-stop : (b ≡ c → ⊥) → bad ≡ literal (drop i w) (drop at s)
  unfolding literal
  literal-stop n = rw (drop-cons w i 0 h, ← p, ← q, ne_eqb b c n)

  pub literal-more : b ≡ c → literal (drop (i + 1) w) (drop (at + 1) s) ≡ literal (drop i w) (drop at s)
  unfolding literal
  literal-more e = rw (drop-cons w i 0 h, ← p, ← q, eq-eqb b c e, add-one i, ← rest-drop)

-- An i64 holds the value of a numeral of the form
pub saturated-few : (w : Numeral) → w.magnitude < 10 ^ 10 → saturated w ≡ value_of w
unfolding saturated value_of
saturated-few w h =
    let m : min w.magnitude (2 ^ 63 - 1) ≡ w.magnitude = omega arith in
    rw m

-- A signed number that is written as bits and read back
pub back : (z : ℤ) → mag z < 2 ^ 63 → to_z w64 (of_z w64 z) ≡ z
back z h = to_z-of_z {w = w64} (record { sfits = h })

-- What a test of two parts, or one within bounds, says
pub both_true : (a b : Bool) → (a && b) ≡ true → (a ≡ true) × (b ≡ true)
both_true true b e = (refl, e)
both_true false b e = absurd (false≢true e)

pub both-made : (a b : Bool) → a ≡ true → b ≡ true → (a && b) ≡ true
both-made a b p q = rw (p, q)

pub between-inv : (low high : ℕ) (w : Numeral) → is_between low high w ≡ true → (w.negative ≡ false) × (low ≤ w.magnitude)
    × (w.magnitude ≤ high)
unfolding is_between
between-inv low high w e = go w.negative refl e
  where
    go : (n : Bool) → w.negative ≡ n → cond n false (leb low w.magnitude && leb w.magnitude high) ≡ true
        → (w.negative ≡ false) × (low ≤ w.magnitude) × (w.magnitude ≤ high)
    go true p h = absurd (false≢true h)
    go false p h =
        let b = both_true (leb low w.magnitude) (leb w.magnitude high) h in
        (p, leb-true low w.magnitude b.0, leb-true w.magnitude high b.1)

-- What stands at the front of a text where a digit was read, and where none was
pub digit-read : (s : List ℕ) (d : ℕ) (t : List ℕ) → good d t ≡ next_digit s → (d < 10) × (digit (peek s) ≡ d) × (rest s ≡ t)
unfolding digit peek rest
digit-read [] d t e = absurd (let z : ◌≡◌ {A = Read ℕ} (good d t) bad = e in cc)
digit-read (b ∷ s) d t e = grind (arith, nat_tests)

pub digit-unread : (s : List ℕ) → bad ≡ next_digit s → digit (peek s) ≡ 10
unfolding digit peek
digit-unread [] e = refl
digit-unread (b ∷ s) e = grind (arith, nat_tests)

module _ (k m : ℕ) (negative : Bool) (s : List ℕ) where
  pub digits-end : bad ≡ next_digit s → good (record { negative = negative; magnitude = m }) s ≡ digits k negative m s
  unfolding digits
  digits-end h = go k
    where
      go : (j : ℕ) → good (record { negative = negative; magnitude = m }) s ≡ digits j negative m s
      go zero = refl
      go (suc j) = rw (digit-unread s h) refl

  pub digits-step : (j d : ℕ) (t : List ℕ) → j + 1 ≡ k → good d t ≡ next_digit s → digits j negative (m * 10 + d) t ≡ digits k negative m s
  unfolding digits
  digits-step j d t p h =
      let r = digit-read s d t h in
      rw (← p, add-one) (simp (r.1, r.2, lt-ltb d 10 r.0))
