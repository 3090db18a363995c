-- Every reader of specs/Read.antt finds what the grammar says, and halts where it can go on no further.
use Prim.Native.Nat.{ℕ, suc, zero, ◌+◌, ◌-◌, ◌≤◌, ◌<◌}
use mathlib.Core.Bool.{Bool, true, false, cond, ◌&&◌}
use mathlib.Core.List.{List, [], ◌∷◌, ◌++◌, append_assoc, append-nil}
use mathlib.Core.Option.{Option, none, some}
use mathlib.Core.Path.{◌≡◌, refl, sym, ap, subst, ◌∙◌}
use native.Mathlib.Decide.{ℕ_discrete}
use native.Mathlib.Omega.{arith}
use lib.Dec.{ltb, leb, eqb}
use lib.ListN.{length, take, length-append}
use lib.Seq.{take-append_seam}
use borrow.Author.Tests.{ltb-true, leb-true, eqb-true, le-leb, eq-eqb, ne_eqb}
use Rattle.codelist.specs.Read.{peek, rest, digit}
use Rattle.codelist.proofs.NumeralTexts.{digit-byte}
use Rattle.formulas.specs.Grammar.{Tree, factor, constant, bracket, power, join, Sign, plus, minus, times, over, sign_byte, digits_text}
use Rattle.formulas.specs.Grammar.{decimals_text, text_of, rank, Each, Digits, Stands, atom, powered, product, sum, deepest}
use Rattle.formulas.specs.Read.{Found, good, stuck, and_then, digits_up_to, digit_and, decimals_after, constant_at, factor_at, leaf_at, closed}
use Rattle.formulas.specs.Read.{bracket_or, exponent, exponent_after, powered_at, sum_sign, product_sign, on_sign, chain, product_at, sum_at, atom_at}
use Rattle.formulas.proofs.Readers.{Reads, Any, done, fail, either, consume, sequence, after, same, weaken}

-- ════ digits ════

pub digit-of : (b : ℕ) → 48 ≤ b → b ≤ 57 → digit b ≡ b - 48
unfolding digit
digit-of b low high = simp (le-leb 48 b low, le-leb b 57 high)

abbrev IsDigit : ℕ → Type 0
IsDigit b = Unit × (ltb (digit b) 10 ≡ true)

digit-small : (b : ℕ) → IsDigit b → digit b < 10
digit-small b g = ltb-true (digit b) 10 g.1

digit-text : (b : ℕ) → IsDigit b → 48 + digit b ≡ b
digit-text b g = sym (digit-byte b (digit-small b g))

abbrev Few : ℕ → List ℕ → Type 0
Few k ds = (length ds ≤ k) × Each ds

-- a digit, and then what `digits_up_to k` reads
module _ (k : ℕ) (Is : List ℕ → Type 0) (more : (d : ℕ) (ds : List ℕ) → d ≤ 9 → Few k ds → Is (d ∷ ds))
    (others : (q : List ℕ) → Reads Any q (Few k) (λ ds. q ++ digits_text ds) (digits_up_to k)) (q : List ℕ) where
  first-digit : Reads IsDigit q Is (λ ds. q ++ digits_text ds)
      (λ s. and_then (digits_up_to k (rest s)) (λ ds t. good (digit (peek s) ∷ ds) t))
  first-digit =
      consume IsDigit q Is (λ ds. q ++ digits_text ds) (λ b t. and_then (digits_up_to k t) (λ ds u. good (digit b ∷ ds) u))
      (λ b g. omega (arith, digit-text b g, digit-small b g)) λ b g.
      let e : (x : List ℕ) → q ++ digits_text (digit b ∷ x) ≡ (q ++ (b ∷ [])) ++ digits_text x
      = λ x. ap (λ (c : ℕ). q ++ (c ∷ digits_text x)) (digit-text b g) ∙ sym (append_assoc q (b ∷ []) (digits_text x)) in
      let i : (x : List ℕ) → Few k x → Is (digit b ∷ x) = λ x f. more (digit b) x (omega (arith, digit-small b g)) f in
      sequence Any (q ++ (b ∷ [])) (Few k) (λ ds. (q ++ (b ∷ [])) ++ digits_text ds) Is (λ ds. q ++ digits_text ds) (digits_up_to k)
      (λ ds u. good (digit b ∷ ds) u) (others (q ++ (b ∷ [])))
      (λ x f. done Any ((q ++ (b ∷ [])) ++ digits_text x) Is (λ ds. q ++ digits_text ds) (digit b ∷ x) (i x f) (e x))
      (λ x f. (digit b ∷ x, [], i x f, e x ∙ sym (append-nil _)))

digits-read : (k : ℕ) (q : List ℕ) → Reads Any q (Few k) (λ ds. q ++ digits_text ds) (digits_up_to k)
unfolding digits_up_to
digits-read zero q = done Any q (Few 0) (λ ds. q ++ digits_text ds) [] (omega arith, tt) (append-nil q)
digits-read (suc k) q =
    either Any q (Few (suc k)) (λ ds. q ++ digits_text ds) (λ b. ltb (digit b) 10)
    (λ s. and_then (digits_up_to k (rest s)) (λ ds t. good (digit (peek s) ∷ ds) t)) (λ s. good [] s)
    (first-digit k (Few (suc k)) (λ d ds h f. (omega (arith, f.0), (h, f.1))) (digits-read k) q)
    (done _ q (Few (suc k)) (λ ds. q ++ digits_text ds) [] (omega arith, tt) (append-nil q))

digit-and : (k : ℕ) (q : List ℕ) → Reads Any q (Digits 1 (suc k)) (λ ds. q ++ digits_text ds) (digit_and k)
unfolding digit_and
digit-and k q =
    either Any q (Digits 1 (suc k)) (λ ds. q ++ digits_text ds) (λ b. ltb (digit b) 10)
    (λ s. and_then (digits_up_to k (rest s)) (λ ds t. good (digit (peek s) ∷ ds) t)) stuck
    (first-digit k (Digits 1 (suc k)) (λ d ds h f. (omega arith, omega (arith, f.0), (h, f.1))) (digits-read k) q)
    (fail _ q (Digits 1 (suc k)) (λ ds. q ++ digits_text ds) (0 ∷ []) (48 ∷ []) (omega arith, omega arith, (omega arith, tt)) refl)

-- ════ constants, factors ════

some-decimals : (p : List ℕ) → 1 ≤ length p → decimals_text p ≡ 46 ∷ digits_text p
some-decimals [] h = absurd (omega arith)
some-decimals (d ∷ p) h = refl

module _ (r room : ℕ) where
  abbrev Here : Tree → Type 0
  Here t = Stands r room t

  decimals-read : (w : List ℕ) → Digits 1 6 w → Reads Any (digits_text w) Here text_of (decimals_after w)
  unfolding decimals_after text_of
  decimals-read w i =
      either Any (digits_text w) Here text_of (λ b. eqb b 46) (λ s. and_then (digit_and 3 (rest s)) (λ p t. good (constant w p) t))
      (λ s. good (constant w []) s)
      (consume _ (digits_text w) Here text_of (λ b t. and_then (digit_and 3 t) (λ p u. good (constant w p) u))
      (λ b g. omega (arith, eqb-true b 46 g.1)) λ b g.
      let e : (p : List ℕ) → Digits 1 4 p → text_of (constant w p) ≡ (digits_text w ++ (b ∷ [])) ++ digits_text p
      = λ p f. ap (λ (l : List ℕ). digits_text w ++ l) (some-decimals p f.0)
      ∙ ap (λ (c : ℕ). digits_text w ++ (c ∷ digits_text p)) (sym (eqb-true b 46 g.1))
      ∙ sym (append_assoc (digits_text w) (b ∷ []) (digits_text p)) in
      let h : (p : List ℕ) → Digits 1 4 p → Here (constant w p) = λ p f. (i, (omega arith, f.1, f.2)) in
      sequence Any (digits_text w ++ (b ∷ [])) (Digits 1 4) (λ ds. (digits_text w ++ (b ∷ [])) ++ digits_text ds) Here text_of (digit_and 3)
      (λ p u. good (constant w p) u) (digit-and 3 (digits_text w ++ (b ∷ [])))
      (λ p f. done Any _ Here text_of (constant w p) (h p f) (e p f))
      (λ p f. (constant w p, [], h p f, e p f ∙ sym (append-nil _))))
      (done _ (digits_text w) Here text_of (constant w []) (i, (omega arith, omega arith, tt)) (append-nil (digits_text w)))

  constant-read : Reads Any [] Here text_of constant_at
  unfolding constant_at text_of
  constant-read =
      sequence Any [] (Digits 1 6) digits_text Here text_of (digit_and 5) decimals_after (digit-and 5 []) decimals-read
      (λ w i. (constant w [], [], (i, (omega arith, omega arith, tt)), refl))

  and_left : (x y : Bool) → x && y ≡ true → x ≡ true
  and_left true y e = refl
  and_left false y e = e

  and_right : (x y : Bool) → x && y ≡ true → y ≡ true
  and_right true y e = e
  and_right false y e = absurd (let z : ◌≡◌ {A = ℕ} 0 1 = cc in omega arith)

  factor-read : Reads Any (102 ∷ []) Here text_of factor_at
  unfolding factor_at text_of
  factor-read =
      either Any (102 ∷ []) Here text_of (λ b. leb 49 b && leb b 56) (λ s. good (factor (digit (peek s))) (rest s)) stuck
      (consume _ (102 ∷ []) Here text_of (λ b t. good (factor (digit b)) t)
      (λ b g. omega (arith, leb-true b 56 (and_right (leb 49 b) (leb b 56) g.1))) λ b g.
      let low = leb-true 49 b (and_left (leb 49 b) (leb b 56) g.1) in
      let high = leb-true b 56 (and_right (leb 49 b) (leb b 56) g.1) in
      let d : digit b ≡ b - 48 = digit-of b (omega arith) (omega arith) in
      done Any _ Here text_of (factor (digit b)) (omega arith, omega arith)
      (ap (λ (c : ℕ). 102 ∷ c ∷ []) (omega arith)))
      (fail _ (102 ∷ []) Here text_of (factor 1) (49 ∷ []) (omega arith, omega arith) refl)

  leaf-read : Reads Any [] Here text_of leaf_at
  unfolding leaf_at
  leaf-read =
      either Any [] Here text_of (λ b. eqb b 102) (λ s. factor_at (rest s)) constant_at
      (consume _ [] Here text_of (λ b t. factor_at t) (λ b g. omega (arith, eqb-true b 102 g.1)) λ b g.
      subst (λ (c : ℕ). Reads Any (c ∷ []) Here text_of factor_at) (sym (eqb-true b 102 g.1)) factor-read)
      (weaken Any _ [] Here Here text_of constant_at (λ b g. tt) (λ t i. i) constant-read)

-- ════ brackets, exponents ════

-- what may stand at a place may stand where more may
stands_up : (r r' room : ℕ) (t : Tree) → r ≤ r' → Stands r room t → Stands r' room t
stands_up r r' room (factor i) h s = s
stands_up r r' room (constant w p) h s = s
stands_up r r' zero (bracket t) h s = s
stands_up r r' (suc room) (bracket t) h s = s
stands_up r r' room (power t m) h s = (omega (arith, s.0), s.1, s.2)
stands_up r r' room (join o x y) h s = (omega (arith, s.0), s.1, s.2)

bracket-text : (t : Tree) → text_of (bracket t) ≡ (40 ∷ text_of t) ++ (41 ∷ [])
unfolding text_of
bracket-text t = refl

module _ (room : ℕ) where
  closed-read : (r : ℕ) (t : Tree) → Stands sum room t → Reads Any (40 ∷ text_of t) (Stands r (suc room)) text_of (closed t)
  unfolding closed text_of
  closed-read r t i =
      either Any (40 ∷ text_of t) (Stands r (suc room)) text_of (λ b. eqb b 41) (λ s. good (bracket t) (rest s)) stuck
      (consume _ (40 ∷ text_of t) (Stands r (suc room)) text_of (λ b u. good (bracket t) u) (λ b g. omega (arith, eqb-true b 41 g.1)) λ b g.
      done Any _ (Stands r (suc room)) text_of (bracket t) i (ap (λ (c : ℕ). 40 ∷ (text_of t ++ (c ∷ []))) (sym (eqb-true b 41 g.1))))
      (fail _ (40 ∷ text_of t) (Stands r (suc room)) text_of (bracket t) (41 ∷ []) i refl)

  exponent-read : (t : Tree) → Stands atom room t → Reads Any (text_of t ++ (94 ∷ [])) (Stands powered room) text_of (exponent t)
  unfolding exponent text_of
  exponent-read t i =
      either Any (text_of t ++ (94 ∷ [])) (Stands powered room) text_of (λ b. ltb (digit b) 10) (λ s. good (power t (digit (peek s))) (rest s)) stuck
      (consume _ (text_of t ++ (94 ∷ [])) (Stands powered room) text_of (λ b u. good (power t (digit b)) u)
      (λ b g. omega (arith, digit-text b g, digit-small b g)) λ b g.
      done Any _ (Stands powered room) text_of (power t (digit b)) (omega arith, i, omega (arith, digit-small b g))
      (ap (λ (c : ℕ). text_of t ++ (94 ∷ c ∷ [])) (digit-text b g) ∙ sym (append_assoc (text_of t) (94 ∷ []) (b ∷ []))))
      (fail _ (text_of t ++ (94 ∷ [])) (Stands powered room) text_of (power t 0) (48 ∷ []) (omega arith, i, omega arith)
      (sym (append_assoc (text_of t) (94 ∷ []) (48 ∷ []))))

  exponent-after : (t : Tree) → Stands atom room t → Reads Any (text_of t) (Stands powered room) text_of (exponent_after t)
  unfolding exponent_after
  exponent-after t i =
      either Any (text_of t) (Stands powered room) text_of (λ b. eqb b 94) (λ s. exponent t (rest s)) (λ s. good t s)
      (consume _ (text_of t) (Stands powered room) text_of (λ b u. exponent t u) (λ b g. omega (arith, eqb-true b 94 g.1)) λ b g.
      subst (λ (c : ℕ). Reads Any (text_of t ++ (c ∷ [])) (Stands powered room) text_of (exponent t)) (sym (eqb-true b 94 g.1)) (exponent-read t i))
      (done _ (text_of t) (Stands powered room) text_of t (stands_up atom powered room t (omega arith) i) refl)

  module _ (a : List ℕ → Found Tree) (atoms : Reads Any [] (Stands atom room) text_of a) where
    powered-read : Reads Any [] (Stands powered room) text_of (powered_at a)
    unfolding powered_at
    powered-read =
        sequence Any [] (Stands atom room) text_of (Stands powered room) text_of a exponent_after atoms exponent-after
        (λ t i. (t, [], stands_up atom powered room t (omega arith) i, sym (append-nil _)))

-- ════ chains of operands, products, sums ════

abbrev found? : Option Sign → Bool
found? none = false
found? (some o) = true

-- what follows a sign
abbrev onward : Option Sign → (Sign → List ℕ → Found Tree) → List ℕ → Found Tree
onward none f s = stuck s
onward (some o) f s = f o s

by_sign : (m : Option Sign) (x : Tree) (s : List ℕ) (f : Sign → List ℕ → Found Tree)
    → cond (found? m) (onward m f (rest s)) (good x s) ≡ on_sign m (good x s) (λ o. f o (rest s))
by_sign none x s f = refl
by_sign (some o) x s f = refl

the-sign : (m : Option Sign) → found? m ≡ true → (o : Sign) × (m ≡ some o)
the-sign none e = absurd (let z : ◌≡◌ {A = ℕ} 0 1 = cc in omega arith)
the-sign (some o) e = (o, refl)

some-injective : (o u : Sign) → some o ≡ some u → o ≡ u
some-injective o u e = cc

none-some : {X : Type 0} (o : Sign) → none ≡ some o → X
none-some o e = absurd (let z : ◌≡◌ {A = ℕ} 0 1 = cc in omega arith)

-- The signs of a rank: each is its byte, and joins operands of that rank and of the one below
pub record Signs (signs : ℕ → Option Sign) (r : ℕ) : Type 0 where
  pub byte : (b : ℕ) (o : Sign) → signs b ≡ some o → b ≡ sign_byte o
  pub rank : (b : ℕ) (o : Sign) → signs b ≡ some o → rank o ≡ r

pub byte-of-sign : (o : Sign) → sign_byte o < 256
byte-of-sign plus = omega arith
byte-of-sign minus = omega arith
byte-of-sign times = omega arith
byte-of-sign over = omega arith

module _ (signs : ℕ → Option Sign) (r room : ℕ) (g : Signs signs r) (a : List ℕ → Found Tree)
    (operands : Reads Any [] (Stands (r - 1) room) text_of a) where
  joined-stands : (b : ℕ) (o : Sign) (x y : Tree) → signs b ≡ some o → Stands r room x → Stands (r - 1) room y → Stands r room (join o x y)
  joined-stands b o x y e i j =
      let k = g.rank b o e in
      (omega (arith, k), subst (λ (n : ℕ). Stands n room x) (sym k) i, subst (λ (n : ℕ). Stands (n - 1) room y) (sym k) j)

  chain-read : (k : ℕ) (x : Tree) → Stands r room x → Reads Any (text_of x) (Stands r room) text_of (chain signs a k x)
  unfolding chain text_of
  chain-read zero x i = done Any (text_of x) (Stands r room) text_of x i refl
  chain-read (suc k) x i = go (λ y j. chain-read k y j)
    where
      F : Sign → List ℕ → Found Tree
      F o t = and_then (a t) (λ y u. chain signs a k (join o x y) u)

      module-text : (b : ℕ) (o : Sign) (y : Tree) → signs b ≡ some o → text_of x ++ (sign_byte o ∷ text_of y) ≡ (text_of x ++ (b ∷ [])) ++ text_of y
      module-text b o y e =
          ap (λ (c : ℕ). text_of x ++ (c ∷ text_of y)) (sym (g.byte b o e)) ∙ sym (append_assoc (text_of x) (b ∷ []) (text_of y))

      go : ((y : Tree) → Stands r room y → Reads Any (text_of y) (Stands r room) text_of (chain signs a k y))
          → Reads Any (text_of x) (Stands r room) text_of (chain signs a (suc k) x)
      go ih =
          same Any (text_of x) (Stands r room) text_of (λ s. cond (found? (signs (peek s))) (onward (signs (peek s)) F (rest s)) (good x s)) _
          (λ s. by_sign (signs (peek s)) x s F)
          (either Any (text_of x) (Stands r room) text_of (λ b. found? (signs b)) (λ s. onward (signs (peek s)) F (rest s)) (λ s. good x s)
          (consume _ (text_of x) (Stands r room) text_of (λ b t. onward (signs b) F t)
          (λ b h. let o = the-sign (signs b) h.1 in omega (arith, byte-of-sign o.0, g.byte b o.0 o.1)) λ b h.
          let o = the-sign (signs b) h.1 in
          subst (λ (m : Option Sign). Reads Any (text_of x ++ (b ∷ [])) (Stands r room) text_of (onward m F)) (sym o.1)
          (sequence Any (text_of x ++ (b ∷ [])) (Stands (r - 1) room) (λ y. (text_of x ++ (b ∷ [])) ++ text_of y) (Stands r room) text_of a
          (λ y u. chain signs a k (join o.0 x y) u) (after Any (text_of x ++ (b ∷ [])) (Stands (r - 1) room) text_of a operands)
          (λ y j. subst (λ (l : List ℕ). Reads Any l (Stands r room) text_of (chain signs a k (join o.0 x y))) (module-text b o.0 y o.1)
          (ih (join o.0 x y) (joined-stands b o.0 x y o.1 i j)))
          (λ y j. (join o.0 x y, [], joined-stands b o.0 x y o.1 i j, module-text b o.0 y o.1 ∙ sym (append-nil _)))))
          (done _ (text_of x) (Stands r room) text_of x i refl))

  -- ════ any number of rounds that is enough gives the same ════

  no_sign : signs (peek []) ≡ none
  unfolding peek
  no_sign = go (signs 256) refl
    where
      go : (m : Option Sign) → signs 256 ≡ m → m ≡ none
      go none e = refl
      go (some o) e = absurd (omega (arith, byte-of-sign o, g.byte 256 o e))

  shorter : (s : List ℕ) (y : Tree) (u : List ℕ) → a s ≡ good y u → length u ≤ length s
  shorter s y u e =
      let f = operands.found s y u tt e in
      omega (arith, ap length f.split ∙ length-append f.took u)

  rest-length : (s : List ℕ) (k : ℕ) → length s ≤ suc k → length (rest s) ≤ k
  unfolding rest
  rest-length [] k h = omega arith
  rest-length (b ∷ s) k h = omega arith

  pub enough : (k j : ℕ) (x : Tree) (s : List ℕ) → length s ≤ k → length s ≤ j → chain signs a k x s ≡ chain signs a j x s
  unfolding chain
  enough zero zero x s h l = refl
  enough zero (suc j) x [] h l = simp no_sign
  enough zero (suc j) x (b ∷ s) h l = absurd (omega arith)
  enough (suc k) zero x [] h l = simp no_sign
  enough (suc k) zero x (b ∷ s) h l = absurd (omega arith)
  enough (suc k) (suc j) x s h l = go (signs (peek s)) (λ o y t p q. enough k j (join o x y) t p q)
    where
      next : (o : Sign) (m : Found Tree) → a (rest s) ≡ m
          → ((y : Tree) (t : List ℕ) → length t ≤ k → length t ≤ j → chain signs a k (join o x y) t ≡ chain signs a j (join o x y) t)
          → and_then m (λ y t. chain signs a k (join o x y) t) ≡ and_then m (λ y t. chain signs a j (join o x y) t)
      next o (good y t) e ih =
          ih y t (omega (arith, shorter (rest s) y t e, rest-length s k h)) (omega (arith, shorter (rest s) y t e, rest-length s j l))
      next o (stuck t) e ih = refl

      go : (m : Option Sign)
          → ((o : Sign) (y : Tree) (t : List ℕ) → length t ≤ k → length t ≤ j → chain signs a k (join o x y) t ≡ chain signs a j (join o x y) t)
          → on_sign m (good x s) (λ o. and_then (a (rest s)) (λ y t. chain signs a k (join o x y) t))
          ≡ on_sign m (good x s) (λ o. and_then (a (rest s)) (λ y t. chain signs a j (join o x y) t))
      go none ih = refl
      go (some o) ih = next o (a (rest s)) refl (ih o)

  -- so as many rounds as there are bytes
  all_read : (x : Tree) → Stands r room x → Reads Any (text_of x) (Stands r room) text_of (λ t. chain signs a (length t) x t)
  all_read x i = record {
    found = λ s y u g e.
        let f = (chain-read (length s) x i).found s y u tt e in
        record {
          is = f.is;
          took = f.took;
          whole = f.whole;
          split = f.split;
          local = λ w k.
              let n = length s + length w in
              let h = (chain-read n x i).found s y u tt (enough n (length s) x s (omega arith) (omega arith) ∙ e) in
              enough (length (f.took ++ w)) n x (f.took ++ w) (omega arith) (room_for s f.took u w f.split)
              ∙ ap (λ (p : List ℕ). chain signs a n x (p ++ w)) (same-front s f.took h.took u f.split h.split) ∙ h.local w k;
        };
    halts = λ s u g e.
        let f = (chain-read (length s) x i).halts s u tt e in
        record {
          took = f.took;
          split = f.split;
          local = λ w k.
              let n = length s + length w in
              let h = (chain-read n x i).halts s u tt (enough n (length s) x s (omega arith) (omega arith) ∙ e) in
              enough (length (f.took ++ w)) n x (f.took ++ w) (omega arith) (room_for s f.took u w f.split)
              ∙ ap (λ (p : List ℕ). chain signs a n x (p ++ w)) (same-front s f.took h.took u f.split h.split) ∙ h.local w k;
          some = f.some;
          more = f.more;
          is = f.is;
          whole = f.whole;
        };
  }
    where
      room_for : (s p u w : List ℕ) → s ≡ p ++ u → length (p ++ w) ≤ length s + length w
      room_for s p u w e = omega (arith, length-append p w, ap length e ∙ length-append p u)

      same-front : (s p q u : List ℕ) → s ≡ p ++ u → s ≡ q ++ u → p ≡ q
      same-front s p q u e h =
          let n : length p ≡ length q = omega (arith, ap length e ∙ length-append p u, ap length h ∙ length-append q u) in
          sym (take-append_seam p u) ∙ ap (take (length p)) (sym e ∙ h) ∙ ap (λ (k : ℕ). take k (q ++ u)) n ∙ take-append_seam q u

  -- one operand, and then further ones
  pub operands-read : Reads Any [] (Stands r room) text_of (λ s. and_then (a s) (λ x t. chain signs a (length t) x t))
  operands-read =
      sequence Any [] (Stands (r - 1) room) text_of (Stands r room) text_of a (λ x t. chain signs a (length t) x t) operands
      (λ x i. all_read x (stands_up (r - 1) r room x (omega arith) i))
      (λ x i. (x, [], stands_up (r - 1) r room x (omega arith) i, sym (append-nil _)))

-- ════ products, sums, atoms ════

pub product-signs : Signs product_sign product
unfolding product_sign
product-signs = record {
  byte = λ b o e. (go b o (ℕ_discrete b 42) (ℕ_discrete b 47) e).0;
  rank = λ b o e. (go b o (ℕ_discrete b 42) (ℕ_discrete b 47) e).1;
}
  where
    go : (b : ℕ) (o : Sign) → Dec (b ≡ 42) → Dec (b ≡ 47) → product_sign b ≡ some o → (b ≡ sign_byte o) × (rank o ≡ product)
    go b o (yes p) q e =
        let z = some-injective times o (simp (eq-eqb b 42 p) at e) in
        (p ∙ ap sign_byte z, ap rank (sym z))
    go b o (no p) (yes q) e =
        let z = some-injective over o (simp (ne_eqb b 42 p, eq-eqb b 47 q) at e) in
        (q ∙ ap sign_byte z, ap rank (sym z))
    go b o (no p) (no q) e = none-some o (simp (ne_eqb b 42 p, ne_eqb b 47 q) at e)

pub sum-signs : Signs sum_sign sum
unfolding sum_sign
sum-signs = record {
  byte = λ b o e. (go b o (ℕ_discrete b 43) (ℕ_discrete b 45) e).0;
  rank = λ b o e. (go b o (ℕ_discrete b 43) (ℕ_discrete b 45) e).1;
}
  where
    go : (b : ℕ) (o : Sign) → Dec (b ≡ 43) → Dec (b ≡ 45) → sum_sign b ≡ some o → (b ≡ sign_byte o) × (rank o ≡ sum)
    go b o (yes p) q e =
        let z = some-injective plus o (simp (eq-eqb b 43 p) at e) in
        (p ∙ ap sign_byte z, ap rank (sym z))
    go b o (no p) (yes q) e =
        let z = some-injective minus o (simp (ne_eqb b 43 p, eq-eqb b 45 q) at e) in
        (q ∙ ap sign_byte z, ap rank (sym z))
    go b o (no p) (no q) e = none-some o (simp (ne_eqb b 43 p, ne_eqb b 45 q) at e)

module _ (room : ℕ) (a : List ℕ → Found Tree) (atoms : Reads Any [] (Stands atom room) text_of a) where
  pub product-read : Reads Any [] (Stands product room) text_of (product_at a)
  unfolding product_at
  product-read = operands-read product_sign product room product-signs (powered_at a) (powered-read room a atoms)

  pub sum-read : Reads Any [] (Stands sum room) text_of (sum_at a)
  unfolding sum_at
  sum-read = operands-read sum_sign sum room sum-signs (product_at a) product-read

bracket-or : (b : Bool) (inner : List ℕ → Found Tree) (s : List ℕ)
    → cond b (and_then (inner (rest s)) closed) (leaf_at s) ≡ bracket_or b inner s
bracket-or true inner s = refl
bracket-or false inner s = refl

pub atom-read : (room : ℕ) → Reads Any [] (Stands atom room) text_of (atom_at room)
unfolding atom_at
atom-read zero = leaf-read atom zero
atom-read (suc room) = go (atom-read room)
  where
    go : Reads Any [] (Stands atom room) text_of (atom_at room) → Reads Any [] (Stands atom (suc room)) text_of (atom_at (suc room))
    go ih =
        same Any [] (Stands atom (suc room)) text_of
        (λ s. cond (eqb (peek s) 40) (and_then (sum_at (atom_at room) (rest s)) closed) (leaf_at s)) _
        (λ s. bracket-or (eqb (peek s) 40) (sum_at (atom_at room)) s)
        (either Any [] (Stands atom (suc room)) text_of (λ b. eqb b 40) (λ s. and_then (sum_at (atom_at room) (rest s)) closed) leaf_at
        (consume _ [] (Stands atom (suc room)) text_of (λ b t. and_then (sum_at (atom_at room) t) closed) (λ b g. omega (arith, eqb-true b 40 g.1))
        λ b g.
        subst (λ (c : ℕ). Reads Any (c ∷ []) (Stands atom (suc room)) text_of (λ t. and_then (sum_at (atom_at room) t) closed))
        (sym (eqb-true b 40 g.1))
        (sequence Any (40 ∷ []) (Stands sum room) (λ t. 40 ∷ text_of t) (Stands atom (suc room)) text_of (sum_at (atom_at room)) closed
        (after Any (40 ∷ []) (Stands sum room) text_of (sum_at (atom_at room)) (sum-read room (atom_at room) ih)) (λ t i. closed-read room atom t i)
        (λ t i. (bracket t, 41 ∷ [], i, bracket-text t))))
        (weaken Any _ [] (Stands atom (suc room)) (Stands atom (suc room)) text_of leaf_at (λ b g. tt) (λ t i. i) (leaf-read atom (suc room))))

-- THE READER of whole formulas
pub formula-read : Reads Any [] (Stands sum deepest) text_of (sum_at (atom_at deepest))
formula-read = sum-read deepest (atom_at deepest) (atom-read deepest)
