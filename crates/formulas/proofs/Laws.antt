-- Laws on the first byte of a text, and on numbers, that the readers' proofs use.
use Prim.Native.Nat.{ℕ, ◌+◌, ◌-◌, ◌*◌, ◌^◌, ◌≤◌, ◌<◌}
use mathlib.Core.Bool.{Bool, true, false, ◌&&◌, false≢true}
use mathlib.Core.List.{List, [], ◌∷◌}
use mathlib.Core.Option.{Option, none}
use mathlib.Core.Path.{◌≡◌, refl, sym, ap, ◌∙◌}
use native.Mathlib.Decide.{dec_lt}
use native.Mathlib.Nat.{pow-succ', pow-le-pow_right}
use native.Mathlib.Numerals.{add-one}
use native.Mathlib.Omega.{arith}
use lib.Dec.{eqb}
use lib.ListN.{length, take, drop}
use lib.Pointwise.{pointwise}
use borrow.Author.Tests.{le-leb, lt-leb, ne_eqb}
use Rattle.codelist.specs.Read.{peek, rest, digit}
use Rattle.formulas.specs.declared.reader.Rank as rank
use Rattle.formulas.specs.Grammar.{Sign}
use Rattle.formulas.specs.Read.{product_sign, sum_sign}
use Rattle.formulas.specs.Views.{signs}

-- a number of k digits has at most m
wider : (v k m : ℕ) → v < 10 ^ k → k ≤ m → v < 10 ^ m
wider v k m h g = omega (arith, pow-le-pow_right {n = 10} (omega arith) g)

-- and is below a million, where m is at most 6
pub below-million : (v k m : ℕ) → v < 10 ^ k → k ≤ m → m ≤ 6 → v < 1_000_000
below-million v k m h g f = wider v k 6 h (omega arith)

-- one digit more
pub digit-more : (v k d : ℕ) → v < 10 ^ k → d < 10 → v * 10 + d < 10 ^ (k + 1)
digit-more v k d h g = rw add-one (omega (arith, pow-succ' 10 k))

-- ════ the first byte ════

pub front : (s : List ℕ) (b : ℕ) (r : List ℕ) → s ≡ b ∷ r → (peek s ≡ b) × (rest s ≡ r)
unfolding peek rest
front s b r e = rw e (refl, refl)

pub no-front : (s : List ℕ) → length s ≡ 0 → peek s ≡ 256
unfolding peek
no-front [] e = refl
no-front (b ∷ s) e = absurd (omega arith)

-- as a prefix of one byte tells it
pub strip-some : (s : List ℕ) (b : ℕ) {r : List ℕ} {n : ℕ} → (pointwise eqb (take 1 s) (b ∷ []) ≡ true) × (r ≡ drop 1 s) × (length r + 1 ≡ n)
    → (eqb (peek s) b ≡ true) × (rest s ≡ r)
unfolding peek rest
strip-some [] b h = absurd (false≢true h.0)
strip-some (x ∷ s) b h = (and-left (eqb x b) h.0, sym h.1)
  where
    and-left : (p : Bool) → (p && true) ≡ true → p ≡ true
    and-left true e = refl
    and-left false e = e

pub strip-none : (s : List ℕ) (b : ℕ) → b < 256 → pointwise eqb (take 1 s) (b ∷ []) ≡ false → eqb (peek s) b ≡ false
unfolding peek
strip-none [] b h e = ne_eqb 256 b (λ f. omega arith)
strip-none (x ∷ s) b h e = and-false (eqb x b) e
  where
    and-false : (p : Bool) → (p && true) ≡ false → p ≡ false
    and-false true f = f
    and-false false f = refl

-- below 256 there is one
pub shorter : (s : List ℕ) → peek s < 256 → length (rest s) + 1 ≡ length s
unfolding peek rest
shorter [] h = absurd (omega arith)
shorter (b ∷ s) h = omega arith

-- no digit
pub low-digit : (b : ℕ) → b < 48 → 10 ≤ digit b
unfolding digit
low-digit b h = simp (lt-leb 48 b h) (omega arith)

pub high-digit : (b : ℕ) → 58 ≤ b → 10 ≤ digit b
unfolding digit
high-digit b h = let g : 48 ≤ b = omega arith in let k : 57 < b = omega arith in simp (le-leb 48 b g, lt-leb b 57 k) (omega arith)

-- no sign
pub no-product : (b : ℕ) → (b ≡ 42 → ⊥) → (b ≡ 47 → ⊥) → none ≡ product_sign b
unfolding product_sign
no-product b h g = simp (ne_eqb b 42 h, ne_eqb b 47 g)

pub no-sum : (b : ℕ) → (b ≡ 43 → ⊥) → (b ≡ 45 → ⊥) → none ≡ sum_sign b
unfolding sum_sign
no-sum b h g = simp (ne_eqb b 43 h, ne_eqb b 45 g)

-- the byte of a digit
pub digit-byte : (b d : ℕ) → digit b ≡ d → d < 10 → b ≡ 48 + d
unfolding digit
digit-byte b d e h = go (dec_lt b 48) (dec_lt 57 b)
  where
    go : Dec (b < 48) → Dec (57 < b) → b ≡ 48 + d
    go (yes p) q = absurd (let z : 10 ≡ d = simp (lt-leb 48 b p) at e in omega arith)
    go (no p) (yes q) =
        let k : 48 ≤ b = omega arith in
        absurd (let z : 10 ≡ d = simp (le-leb 48 b k, lt-leb b 57 q) at e in omega arith)
    go (no p) (no q) =
        let k : 48 ≤ b = omega arith in
        let m : b ≤ 57 = omega arith in
        let z : b - 48 ≡ d = simp (le-leb 48 b k, le-leb b 57 m) at e in
        omega arith

pub digit-shorter : (s : List ℕ) (d : ℕ) → digit (peek s) ≡ d → d < 10 → length (rest s) + 1 ≡ length s
digit-shorter s d e h = shorter s (omega (arith, digit-byte (peek s) d e h))

-- past the end stands no sign
pub sign-none : (k : rank.Rank) → signs k 256 ≡ none
sign-none rank.TheVariants.Product = sym (no-product 256 (λ e. omega arith) (λ e. omega arith))
sign-none rank.TheVariants.Sum = sym (no-sum 256 (λ e. omega arith) (λ e. omega arith))

-- a sign that stands first
pub sign-first : {s r : List ℕ} {b : ℕ} {o : Option Sign} (k : rank.Rank) → s ≡ b ∷ r → signs k b ≡ o → (signs k (peek s) ≡ o) × (rest s ≡ r)
sign-first {s} {r} {b} k e f = let p = front s b r e in (ap (signs k) p.0 ∙ f, p.1)
