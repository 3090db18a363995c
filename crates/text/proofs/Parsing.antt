-- A printed text in its pieces: two that are equal have equal pieces.
use Prim.Native.Nat.{ℕ, suc, zero, ◌+◌, ◌≤◌, ◌<◌}
use mathlib.Core.Bool.{Bool, true, false, cond, ◌||◌}
use mathlib.Core.List.{List, [], ◌∷◌, ◌++◌, append_assoc, append_cancel_left}
use mathlib.Core.Path.{◌≡◌, refl, sym, ap, ◌∙◌}
use native.Mathlib.Decide.{dec_lt, ℕ_discrete}
use native.Mathlib.Omega.{arith}
use lib.Dec.{eqb, ltb}
use lib.IntN.{ℤ, pos, negsuc, nat_abs}
use borrow.Author.Tests.{lt-ltb, le-ltb, eq-eqb, ne_eqb}
use Rattle.codelist.specs.Load.{value_of}
use Rattle.codelist.specs.Read.{good, numeral, peek, digit}
use Rattle.codelist.specs.Text.{numeral_text}
use Rattle.codelist.specs.Write.{numeral_of}
use Rattle.codelist.proofs.Checks.{value-numeral, constant-numeral}
use Rattle.codelist.proofs.NumeralTexts.{numeral-complete}
use Rattle.range.specs.declared.Range.{Range}
use Rattle.range.specs.Limit.{is_valid}
use Rattle.range.specs.Sums.{has, at}
use Rattle.range.proofs.Fitting.{low-within, high-within}
use Rattle.writer.proofs.Digits.{decimal_digit}
use Rattle.writer.proofs.Signs as writer
use Rattle.text.specs.Output.{slope, natural_field, whole_field, range_fields, slope_lines, member_fields, set_fields}
use Rattle.text.proofs.Writing.{whole-field}

-- ════ numbers ════

whole-numeral : (x : ℤ) → nat_abs x ≤ 2000000000 → whole_field x ≡ 9 ∷ numeral_text (numeral_of x)
whole-numeral x h = sym (whole-field x) ∙ ap (λ (l : List ℕ). 9 ∷ l) (writer.whole-numeral x (omega arith))

-- the next byte is no digit
abbrev Stops : List ℕ → Type 0
Stops s = 10 ≤ digit (peek s)

field-stops : (x : ℤ) (s : List ℕ) → Stops (whole_field x ++ s)
unfolding whole_field peek digit
field-stops (pos m) s = omega arith
field-stops (negsuc m) s = omega arith

end-stops : (s : List ℕ) → Stops (10 ∷ s)
unfolding peek digit
end-stops s = omega arith

whole-inv : (x y : ℤ) (s t : List ℕ) → nat_abs x ≤ 2000000000 → nat_abs y ≤ 2000000000 → Stops s → Stops t
    → whole_field x ++ s ≡ whole_field y ++ t → (x ≡ y) × (s ≡ t)
whole-inv x y s t f g p q e =
    let d : numeral_text (numeral_of x) ++ s ≡ numeral_text (numeral_of y) ++ t
    = append_cancel_left (9 ∷ []) _ _
    (ap (λ (l : List ℕ). l ++ s) (sym (whole-numeral x f)) ∙ e ∙ ap (λ (l : List ℕ). l ++ t) (whole-numeral y g)) in
    let r : good (numeral_of x) s ≡ good (numeral_of y) t
    = sym (numeral-complete (numeral_of x) s (constant-numeral x f) p) ∙ ap numeral d
    ∙ numeral-complete (numeral_of y) t (constant-numeral y g) q in
    let n : numeral_of x ≡ numeral_of y = cc r in
    (sym (value-numeral x) ∙ ap value_of n ∙ value-numeral y, cc r)

-- ════ ranges ════

-- the fields of a range and what follows them
range-apart : (r : Range) (s : List ℕ) → range_fields r ++ s ≡ whole_field r.low ++ (whole_field r.high ++ (10 ∷ s))
unfolding range_fields
range-apart r s = simp append_assoc

pub range-inv : (r q : Range) (s t : List ℕ) → is_valid r ≡ true → is_valid q ≡ true → range_fields r ++ s ≡ range_fields q ++ t
    → (r ≡ q) × (s ≡ t)
range-inv r q s t v w e =
    let i = whole-inv r.low q.low (whole_field r.high ++ (10 ∷ s)) (whole_field q.high ++ (10 ∷ t)) (low-within r v) (low-within q w)
    (field-stops r.high (10 ∷ s)) (field-stops q.high (10 ∷ t)) (sym (range-apart r s) ∙ e ∙ range-apart q t) in
    let j = whole-inv r.high q.high (10 ∷ s) (10 ∷ t) (high-within r v) (high-within q w) (end-stops s) (end-stops t) i.1 in
    ((λ k. record { low = i.0 k; high = j.0 k }), append_cancel_left (10 ∷ []) s t j.1)

-- ════ slopes ════

slope-apart : (a : ℕ) (g : List Range) (s : List ℕ)
    → slope_lines (suc a) g ++ s ≡ slope_lines a g ++ ((slope ++ natural_field (suc a)) ++ (range_fields (at g a) ++ s))
unfolding slope_lines
slope-apart a g s = simp append_assoc

pub slopes-inv : (n : ℕ) (g h : List Range) (s t : List ℕ) → ((a : ℕ) → is_valid (at g a) ≡ true) → ((a : ℕ) → is_valid (at h a) ≡ true)
    → slope_lines n g ++ s ≡ slope_lines n h ++ t → ((a : ℕ) → a < n → at g a ≡ at h a) × (s ≡ t)
unfolding slope_lines
slopes-inv zero g h s t v w e = (λ a p. absurd (omega arith), e)
slopes-inv (suc n) g h s t v w e =
    let i = slopes-inv n g h _ _ v w (sym (slope-apart n g s) ∙ e ∙ slope-apart n h t) in
    let j = range-inv (at g n) (at h n) s t (v n) (w n) (append_cancel_left (slope ++ natural_field (suc n)) _ _ i.1) in (
      λ a p. elim (dec_lt a n) [
        | yes q ↦ i.0 a q
        | no q ↦ let m : a ≡ n = omega arith in rw m j.0
      ],
      j.1,
    )

-- ════ sets ════

-- a line's text, before its end
abbrev Unended : List ℕ → Type 0
Unended [] = Unit
Unended (b ∷ s) = (b ≡ 10 → ⊥) × Unended s

unended-append : (s t : List ℕ) → Unended s → Unended t → Unended (s ++ t)
unended-append [] t p q = q
unended-append (b ∷ s) t p q = (p.0, unended-append s t p.1 q)

line-inv : (m n u v : List ℕ) → Unended m → Unended n → m ++ (10 ∷ u) ≡ n ++ (10 ∷ v) → (m ≡ n) × (u ≡ v)
line-inv [] [] u v p q e = (refl, cc)
line-inv [] (c ∷ n) u v p q e = absurd (q.0 (cc))
line-inv (b ∷ m) [] u v p q e = absurd (p.0 (cc))
line-inv (b ∷ m) (c ∷ n) u v p q e =
    let i = line-inv m n u v p.1 q.1 (cc) in
    let h : b ≡ c = cc in
    (rw (h, i.0), i.1)

-- the field of a factor, of one digit
factor-field : (a : ℕ) → a < 8 → natural_field (suc a) ≡ 9 ∷ (48 + suc a) ∷ []
unfolding natural_field
factor-field a h = ap (λ (l : List ℕ). 9 ∷ l) (decimal_digit 19 (suc a) (omega arith))

members-unended : (n s : ℕ) → n ≤ 8 → Unended (member_fields n s)
unfolding member_fields
members-unended zero s h = tt
members-unended (suc a) s h = unended-append (member_fields a s) _ (members-unended a s (omega arith)) (field (has s a))
  where
    field : (b : Bool) → Unended (cond b (natural_field (suc a)) [])
    field true = rw (factor-field a (omega arith)) ((λ e. omega arith), ((λ e. omega arith), tt))
    field false = tt

-- whether a byte stands in a text
occurs : ℕ → List ℕ → Bool
occurs b [] = false
occurs b (c ∷ s) = eqb b c || occurs b s

occurs-append : (b : ℕ) (s t : List ℕ) → occurs b (s ++ t) ≡ (occurs b s || occurs b t)
unfolding occurs
occurs-append b [] t = refl
occurs-append b (c ∷ s) t = rw (occurs-append b s t) (or_assoc (eqb b c) (occurs b s) (occurs b t))
  where
    or_assoc : (x y z : Bool) → (x || (y || z)) ≡ ((x || y) || z)
    or_assoc true y z = refl
    or_assoc false y z = refl

or-false : (x : Bool) → (x || false) ≡ x
or-false true = refl
or-false false = refl

-- the digit of the factor a stands in the field of the factor b, if at all, only where they are the same
in_field : (a b : ℕ) (x : Bool) → a < 8 → b < 8 → occurs (49 + a) (cond x (natural_field (suc b)) []) ≡ cond (eqb a b) x false
unfolding occurs
in_field a b true p q = rw (factor-field b q) (go (ℕ_discrete a b))
  where
    go : Dec (a ≡ b) → (eqb (49 + a) 9 || (eqb (49 + a) (48 + suc b) || false)) ≡ cond (eqb a b) true false
    go (yes e) = rw (ne_eqb (49 + a) 9 (λ z. omega arith), eq-eqb (49 + a) (48 + suc b) (omega arith), eq-eqb a b e)
    go (no e) = rw (ne_eqb (49 + a) 9 (λ z. omega arith), ne_eqb (49 + a) (48 + suc b) (λ z. e (omega arith)), ne_eqb a b e)
in_field a b false p q = go (eqb a b)
  where
    go : (x : Bool) → false ≡ cond x false false
    go true = refl
    go false = refl

-- which factors are listed
listed : (n a s : ℕ) → n ≤ 8 → a < 8 → occurs (49 + a) (member_fields n s) ≡ cond (ltb a n) (has s a) false
unfolding member_fields occurs
listed zero a s h p = rw (le-ltb a 0 (omega arith))
listed (suc n) a s h p =
    occurs-append (49 + a) (member_fields n s) _
    ∙ rw (listed n a s (omega arith) p, in_field a n (has s n) p (omega arith)) (go (dec_lt a n) (ℕ_discrete a n))
  where
    go : Dec (a < n) → Dec (a ≡ n)
        → (cond (ltb a n) (has s a) false || cond (eqb a n) (has s n) false) ≡ cond (ltb a (suc n)) (has s a) false
    go (yes l) e = rw (lt-ltb a n l, ne_eqb a n (λ z. omega arith), lt-ltb a (suc n) (omega arith)) (or-false (has s a))
    go (no l) (yes e) = rw (le-ltb a n (omega arith), eq-eqb a n e, lt-ltb a (suc n) (omega arith), e)
    go (no l) (no e) = rw (le-ltb a n (omega arith), ne_eqb a n e, le-ltb a (suc n) (omega arith))

set_apart : (s : ℕ) (u : List ℕ) → set_fields s ++ u ≡ member_fields 8 s ++ (10 ∷ u)
unfolding set_fields
set_apart s u = append_assoc (member_fields 8 s) (10 ∷ []) u

pub set-inv : (s t : ℕ) (u v : List ℕ) → set_fields s ++ u ≡ set_fields t ++ v → ((a : ℕ) → a < 8 → has s a ≡ has t a) × (u ≡ v)
set-inv s t u v e =
    let i = line-inv (member_fields 8 s) (member_fields 8 t) u v (members-unended 8 s (omega arith)) (members-unended 8 t (omega arith))
    (sym (set_apart s u) ∙ e ∙ set_apart t v) in
    (λ a p. sym (has_listed s a p) ∙ ap (occurs (49 + a)) i.0 ∙ has_listed t a p, i.1)
  where
    has_listed : (r a : ℕ) → a < 8 → occurs (49 + a) (member_fields 8 r) ≡ has r a
    has_listed r a p = listed 8 a r (omega arith) p ∙ rw (lt-ltb a 8 p)
