-- A numeral is read exactly where its text stands: what is written is read back, and what is read was so written.
use Prim.Native.Nat.{ℕ, suc, zero, ◌+◌, ◌-◌, ◌*◌, ◌/◌, ◌%◌, ◌^◌, ◌≤◌, ◌<◌}
use mathlib.Core.Bool.{Bool, true, false, cond, false≢true}
use mathlib.Core.List.{List, [], ◌∷◌, ◌++◌, append_assoc}
use mathlib.Core.Path.{◌≡◌, refl, sym, ap, subst, ◌∙◌}
use native.Mathlib.Decide.{dec_lt, ℕ_discrete}
use native.Mathlib.Nat.{pow-succ'}
use native.Mathlib.Numerals.{sub-one}
use native.Mathlib.Omega.{arith}
use lib.Dec.{ltb, lit<}
use borrow.Author.Tests.{lt-ltb, le-ltb, le-leb, lt-leb, eq-eqb, ne_eqb}
use Rattle.codelist.specs.declared.Numeral.{Numeral}
use Rattle.codelist.specs.Text.{IsNumeral, decimal, numeral_text}
use Rattle.codelist.specs.Read.{good, bad, peek, rest, digit, digits, positive, numeral}
use Rattle.codelist.proofs.Laws.{Roomy, roomy-small, roomy-more, roomy-tight}

-- A digit's byte
pub digit-is : (d : ℕ) → d < 10 → digit (48 + d) ≡ d
unfolding digit
digit-is d h =
    simp (le-leb 48 (48 + d) (omega arith), le-leb (48 + d) 57 (omega arith)) (omega arith)

pub digit-byte : (b : ℕ) → digit b < 10 → b ≡ 48 + digit b
unfolding digit
digit-byte b h = go (dec_lt b 48) (dec_lt 57 b)
  where
    go : Dec (b < 48) → Dec (57 < b) → b ≡ 48 + digit b
    go (yes p) q = absurd (let e : digit b ≡ 10 = simp (lt-leb 48 b p) in omega arith)
    go (no p) (yes q) = absurd (let e : digit b ≡ 10 = simp (le-leb 48 b (omega arith), lt-leb b 57 q) in omega arith)
    go (no p) (no q) = let e : digit b ≡ b - 48 = simp (le-leb 48 b (omega arith), le-leb b 57 (omega arith)) in omega arith

-- where a digit stands, it and the rest are the text
pub digit-cons : (s : List ℕ) → digit (peek s) < 10 → s ≡ (48 + digit (peek s)) ∷ rest s
unfolding peek rest digit
digit-cons [] h = absurd (omega arith)
digit-cons (b ∷ s) h = ap (λ (x : ℕ). x ∷ s) (digit-byte b h)

-- one digit more
pub decimal-snoc : (k m d : ℕ) → 1 ≤ m → d < 10 → decimal (suc k) (m * 10 + d) ≡ decimal k m ++ ((48 + d) ∷ [])
unfolding decimal
decimal-snoc k m d p h =
    let q : (m * 10 + d) / 10 ≡ m = omega arith in
    let r : (m * 10 + d) % 10 ≡ d = omega arith in
    simp (le-ltb (m * 10 + d) 10 (omega arith), q, r)

-- room for more digits changes nothing
pub decimal-room : (k m : ℕ) → m < 10 ^ suc k → decimal (suc k) m ≡ decimal k m
unfolding decimal
decimal-room zero m h = simp (lt-ltb m 10 h)
decimal-room (suc k) m h =
    let e : decimal (suc k) (m / 10) ≡ decimal k (m / 10) = decimal-room k (m / 10) (omega (arith, pow-succ' 10 (suc k))) in
    ap (λ (l : List ℕ). cond (ltb m 10) ((48 + m) ∷ []) (l ++ ((48 + m % 10) ∷ []))) e

-- The text s is the digits of w and then t
pub record Digits (negative : Bool) (s : List ℕ) (w : Numeral) (t : List ℕ) : Type 0 where
  pub sign : w.negative ≡ negative
  pub some : 1 ≤ w.magnitude
  pub few : w.magnitude < 10 ^ 10
  pub text : s ≡ decimal 9 w.magnitude ++ t

stopped : (negative : Bool) (m : ℕ) (s : List ℕ) (w : Numeral) (t : List ℕ) → 1 ≤ m → m < 10 ^ 10
    → good (record { negative = negative; magnitude = m }) s ≡ good w t → Digits negative (decimal 9 m ++ s) w t
stopped negative m s w t p q e =
    let v : ◌≡◌ {A = Numeral} (record { negative = negative; magnitude = m }) w = cc in
    let n : m ≡ w.magnitude = ap (λ (x : Numeral). x.magnitude) v in
    let u : s ≡ t = cc in
    record {
      sign = sym (ap (λ (x : Numeral). x.negative) v);
      some = omega arith;
      few = omega arith;
      text = rw (n, u);
    }

digits-sound : (k : ℕ) (negative : Bool) (m : ℕ) (s : List ℕ) (w : Numeral) (t : List ℕ) → 1 ≤ m → Roomy k m
    → digits k negative m s ≡ good w t → Digits negative (decimal 9 m ++ s) w t
unfolding digits
digits-sound zero negative m s w t p r e = stopped negative m s w t p (roomy-small 0 m r) e
digits-sound (suc k) negative m s w t p r e = go (dec_lt d 10) (digits-sound k negative (m * 10 + d) (rest s) w t)
  where
    d : ℕ
    d = digit (peek s)

    joined : d < 10 → decimal 9 m ++ s ≡ decimal 9 (m * 10 + d) ++ rest s
    joined g =
        ap (λ (l : List ℕ). decimal 9 m ++ l) (digit-cons s g)
        ∙ sym (append_assoc (decimal 9 m) ((48 + d) ∷ []) (rest s))
        ∙ ap (λ (l : List ℕ). (l ++ ((48 + d) ∷ [])) ++ rest s) (decimal-room 8 m (roomy-tight k m r))
        ∙ ap (λ (l : List ℕ). l ++ rest s) (sym (decimal-snoc 8 m d p g))

    go : Dec (d < 10)
        → (1 ≤ m * 10 + d → Roomy k (m * 10 + d) → digits k negative (m * 10 + d) (rest s) ≡ good w t
        → Digits negative (decimal 9 (m * 10 + d) ++ rest s) w t)
        → Digits negative (decimal 9 m ++ s) w t
    go (no h) ih = stopped negative m s w t p (roomy-small (suc k) m r) (simp (le-ltb d 10 (omega arith)) at e)
    go (yes h) ih =
        let i = ih (omega arith) (subst (λ (x : ℕ). Roomy x (m * 10 + d)) (sub-one (suc k)) (roomy-more (suc k) m d (omega arith) h r))
        (simp (lt-ltb d 10 h) at e) in
        record {
          sign = i.sign;
          some = i.some;
          few = i.few;
          text = joined h ∙ i.text;
        }

-- a byte that stands at the front
pub peek-cons : (s : List ℕ) (b : ℕ) → peek s ≡ b → b < 256 → s ≡ b ∷ rest s
unfolding peek rest
peek-cons [] b e h = absurd (omega arith)
peek-cons (x ∷ s) b e h = ap (λ (y : ℕ). y ∷ s) e

pub never : {A : Type 0} {X : Type 0} (w : A) (t : List ℕ) → bad ≡ good w t → X
never w t e = absurd (let z : ◌≡◌ {A = ℕ} 0 1 = cc in omega arith)

positive-sound : (negative : Bool) (s : List ℕ) (w : Numeral) (t : List ℕ) → positive negative s ≡ good w t → Digits negative s w t
unfolding positive decimal
positive-sound negative s w t e = go (dec_lt 0 d) (dec_lt d 10)
  where
    d : ℕ
    d = digit (peek s)

    go : Dec (0 < d) → Dec (d < 10) → Digits negative s w t
    go (no p) q = never w t (simp (eq-eqb d 0 (omega arith)) at e)
    go (yes p) (no q) = never w t (simp (ne_eqb d 0 (omega arith), le-ltb d 10 (omega arith)) at e)
    go (yes p) (yes q) =
        let one : decimal 9 d ++ rest s ≡ s = simp (lt-ltb d 10 q) (sym (digit-cons s q)) in
        subst (λ (l : List ℕ). Digits negative l w t) one
        (digits-sound 9 negative d (rest s) w t p (omega arith) (simp (ne_eqb d 0 (omega arith), lt-ltb d 10 q) at e))

-- The text s is the numeral w and then t
pub record NumeralAt (s : List ℕ) (w : Numeral) (t : List ℕ) : Type 0 where
  pub fine : IsNumeral w
  pub text : s ≡ numeral_text w ++ t

pub numeral-sound : (s : List ℕ) (w : Numeral) (t : List ℕ) → numeral s ≡ good w t → NumeralAt s w t
unfolding numeral numeral_text decimal
numeral-sound s w t e = go (ℕ_discrete (peek s) 45) (ℕ_discrete (peek s) 48)
  where
    go : Dec (peek s ≡ 45) → Dec (peek s ≡ 48) → NumeralAt s w t
    go (yes p) q =
        let i = positive-sound true (rest s) w t (simp (eq-eqb (peek s) 45 p) at e) in
        record {
          fine = record { few = i.few; some = λ _. i.some };
          text = peek-cons s 45 p (lit< tt) ∙ ap (λ (l : List ℕ). 45 ∷ l) i.text ∙ rw i.sign;
        }
    go (no p) (yes q) =
        let f = simp (ne_eqb (peek s) 45 p, eq-eqb (peek s) 48 q) at e in
        let v : ◌≡◌ {A = Numeral} (record { negative = false; magnitude = 0 }) w = cc f in
        let u : rest s ≡ t = cc f in
        record {
          fine = subst IsNumeral v (record { few = lit< tt; some = λ g. absurd (false≢true g) });
          text = peek-cons s 48 q (lit< tt) ∙ ap (λ (l : List ℕ). 48 ∷ l) u ∙ rw (← v);
        }
    go (no p) (no q) =
        let i = positive-sound false s w t (simp (ne_eqb (peek s) 45 p, ne_eqb (peek s) 48 q) at e) in
        record {
          fine = record { few = i.few; some = λ g. absurd (false≢true (sym i.sign ∙ g)) };
          text = i.text ∙ rw i.sign;
        }

-- The other way: what is written is read
digits-take : (k m d : ℕ) (negative : Bool) (t : List ℕ) → 0 < k → d < 10
    → digits k negative m ((48 + d) ∷ t) ≡ digits (k - 1) negative (m * 10 + d) t
unfolding digits peek rest
digits-take zero m d negative t p h = absurd (omega arith)
digits-take (suc k) m d negative t p h = simp (sub-one, digit-is d h, lt-ltb d 10 h)

digits-end : (k m : ℕ) (negative : Bool) (t : List ℕ) → 10 ≤ digit (peek t)
    → digits k negative m t ≡ good (record { negative = negative; magnitude = m }) t
unfolding digits
digits-end zero m negative t h = refl
digits-end (suc k) m negative t h = simp (le-ltb (digit (peek t)) 10 h)

positive-reads : (j m : ℕ) (negative : Bool) (t : List ℕ) → 1 ≤ m → m < 10 ^ suc j → j ≤ 9
    → (k : ℕ) × (9 ≤ k + j) × (positive negative (decimal j m ++ t) ≡ digits k negative m t)
unfolding positive decimal peek rest
positive-reads zero m negative t p h g =
    let d = digit-is m h in
    (9, omega arith, simp (d, ne_eqb m 0 (omega arith), lt-ltb m 10 h))
positive-reads (suc j) m negative t p h g =
    go (dec_lt m 10) (positive-reads j (m / 10) negative ((48 + m % 10) ∷ t))
  where
    go : Dec (m < 10)
        → (1 ≤ m / 10 → m / 10 < 10 ^ suc j → j ≤ 9
        → (k : ℕ) × (9 ≤ k + j) × (positive negative (decimal j (m / 10) ++ ((48 + m % 10) ∷ t)) ≡ digits k negative (m / 10)
        ((48 + m % 10) ∷ t)))
        → (k : ℕ) × (9 ≤ k + suc j) × (positive negative (decimal (suc j) m ++ t) ≡ digits k negative m t)
    go (yes q) ih = (9, omega arith, simp (lt-ltb m 10 q, digit-is m q, ne_eqb m 0 (omega arith)))
    go (no q) ih =
        let i = ih (omega arith) (omega (arith, pow-succ' 10 (suc j))) (omega arith) in
        let back : m / 10 * 10 + m % 10 ≡ m = omega arith in (
          i.0 - 1,
          omega arith,
          simp (le-ltb m 10 (omega arith), append_assoc)
              (i.2 ∙ digits-take i.0 (m / 10) (m % 10) negative t (omega arith) (omega arith)
              ∙ ap (λ (x : ℕ). digits (i.0 - 1) negative x t) back),
        )

positive-complete : (negative : Bool) (m : ℕ) (t : List ℕ) → 1 ≤ m → m < 10 ^ 10 → 10 ≤ digit (peek t)
    → positive negative (decimal 9 m ++ t) ≡ good (record { negative = negative; magnitude = m }) t
positive-complete negative m t p h g =
    let i = positive-reads 9 m negative t p h (omega arith) in
    i.2 ∙ digits-end i.0 m negative t g

-- digits of which the first is not 0 are a numeral
plain : (s : List ℕ) (w : Numeral) (t : List ℕ) → positive false s ≡ good w t → numeral s ≡ good w t
unfolding numeral positive digit
plain s w t e = go (ℕ_discrete (peek s) 45) (ℕ_discrete (peek s) 48)
  where
    go : Dec (peek s ≡ 45) → Dec (peek s ≡ 48) → numeral s ≡ good w t
    go (yes p) q = never w t (simp p at e)
    go (no p) (yes q) = never w t (simp q at e)
    go (no p) (no q) = simp (ne_eqb (peek s) 45 p, ne_eqb (peek s) 48 q) e

pub numeral-complete : (w : Numeral) (t : List ℕ) → IsNumeral w → 10 ≤ digit (peek t) → numeral (numeral_text w ++ t) ≡ good w t
unfolding numeral numeral_text decimal peek rest
numeral-complete w t f g = go w.negative w.magnitude f.few f.some
  where
    go : (n : Bool) (m : ℕ) → m < 10 ^ 10 → (n ≡ true → 1 ≤ m)
        → numeral (cond n (45 ∷ decimal 9 m) (decimal 9 m) ++ t) ≡ good (record { negative = n; magnitude = m }) t
    go true m p q = positive-complete true m t (q refl) p g
    go false zero p q = refl
    go false (suc m) p q = plain (decimal 9 (suc m) ++ t) _ t (positive-complete false (suc m) t (omega arith) p g)
