-- An operation line is read exactly where its text stands, and so is the first line.
use Prim.Native.Nat.{ℕ, suc, ◌≤◌, ◌<◌}
use mathlib.Core.Bool.{Bool, true, false, cond, ◌&&◌, false≢true}
use mathlib.Core.List.{List, [], ◌∷◌, ◌++◌, append_assoc}
use mathlib.Core.Logic.{◌⊎◌, inl, inr, ⊎_elim}
use mathlib.Core.Path.{◌≡◌, refl, sym, ap, subst, ◌∙◌}
use native.Mathlib.Decide.{ℕ_discrete}
use native.Mathlib.Omega.{arith}
use lib.Dec.{ltb, eqb, lit<}
use lib.ListN.{length, get_or, drop}
use mir.Syntax.{w8}
use mir.Val.{Fits}
use Rattle.std.specs.Borrow.{Bor}
use Rattle.std.specs.Option.{MatchOption}
use Rattle.std.specs.declared.option.Option.{Option}
use Rattle.std.specs.declared.option.Option.TheVariants.{Some, None}
use borrow.Author.Tests.{eq-eqb, ne_eqb, ltb-true, lt-ltb}
use Rattle.codelist.specs.Text.{TextLine, YearField, absent, written}
use Rattle.codelist.specs.Text.{Add, Mul, AddC, MulC, Pow, Inv}
use Rattle.codelist.specs.declared.Numeral.{Numeral}
use Rattle.codelist.specs.declared.lines.Word.{Word}
use Rattle.codelist.specs.declared.lines.Word.TheVariants as word
use Rattle.codelist.specs.Text.{IsNumeral, HasNumerals, HasYear, FirstAt, LineAt, numeral_text, two, first_text, line_text, factors→, add→}
use Rattle.codelist.specs.Text.{mul→, addc→, mulc→, pow→, inv→}
use Rattle.codelist.specs.Read.{Read, good, bad, next, ◌or◌, peek, rest, digit, numeral, field, literal, is_good, begins_with, named, keyword, pair, both}
use Rattle.codelist.specs.Read.{operands, operation_line, first_fields, first_line}
use Rattle.codelist.specs.Views.{of_literal}
use Rattle.codelist.proofs.Laws.{both_true, both-made}
use Rattle.codelist.proofs.NumeralTexts.{NumeralAt, numeral-sound, numeral-complete, peek-cons, never}

-- What a reader after another one gave comes from what the first gave
pub next-inv : {A B : Type 0} (a : Read A) (f : A → List ℕ → Read B) (b : B) (t : List ℕ) → next a f ≡ good b t
    → (v : A) × (u : List ℕ) × (a ≡ good v u) × (f v u ≡ good b t)
next-inv (good v u) f b t e = (v, u, refl, e)
next-inv bad f b t e = never b t e

or-inv : {A : Type 0} (a b : Read A) (v : A) (t : List ℕ) → (a or b) ≡ good v t → (a ≡ good v t) ⊎ (b ≡ good v t)
or-inv (good x u) b v t e = inl e
or-inv bad b v t e = inr e

pub field-sound : (e : ℕ) (s : List ℕ) (w : Numeral) (t : List ℕ) → e < 256 → field e s ≡ good w t → NumeralAt s w (e ∷ t)
unfolding field
field-sound e s w t h p = go (next-inv (numeral s) (λ v u. cond (eqb (peek u) e) (good v (rest u)) bad) w t p)
  where
    go : (v : Numeral) × (u : List ℕ) × (numeral s ≡ good v u) × (cond (eqb (peek u) e) (good v (rest u)) bad ≡ good w t)
        → NumeralAt s w (e ∷ t)
    go (v, u, a, b) = at (ℕ_discrete (peek u) e)
      where
        at : Dec (peek u ≡ e) → NumeralAt s w (e ∷ t)
        at (no n) = never w t (simp (ne_eqb (peek u) e n) at b)
        at (yes y) =
            let f = simp (eq-eqb (peek u) e y) at b in
            let x : v ≡ w = cc f in
            let z : rest u ≡ t = cc f in
            numeral-sound s w (e ∷ t) (a ∙ rw (x, peek-cons u e y h, z))

pub field-complete : (e : ℕ) (w : Numeral) (t : List ℕ) → IsNumeral w → 10 ≤ digit e → field e (numeral_text w ++ (e ∷ t)) ≡ good w t
unfolding field peek rest
field-complete e w t f g = simp (numeral-complete w (e ∷ t) f g, eq-eqb e e refl)

-- another byte after the numeral
field-other : (e b : ℕ) (w : Numeral) (t : List ℕ) → IsNumeral w → 10 ≤ digit b → (b ≡ e → ⊥) → field e (numeral_text w ++ (b ∷ t)) ≡ bad
unfolding field peek
field-other e b w t f g n = simp (numeral-complete w (b ∷ t) f g, ne_eqb b e n)

-- Words
abbrev pub all_bytes : List ℕ → Bool
all_bytes [] = true
all_bytes (b ∷ w) = ltb b 256 && all_bytes w

pub literal-sound : (w s : List ℕ) (x : Unit) (t : List ℕ) → all_bytes w ≡ true → literal w s ≡ good x t → s ≡ w ++ t
unfolding literal
literal-sound [] s x t h e = cc
literal-sound (b ∷ w) s x t h e = go (ℕ_discrete (peek s) b) (literal-sound w (rest s) x t)
  where
    go : Dec (peek s ≡ b) → (all_bytes w ≡ true → literal w (rest s) ≡ good x t → rest s ≡ w ++ t) → s ≡ b ∷ (w ++ t)
    go (no n) ih = never x t (simp (ne_eqb (peek s) b n) at e)
    go (yes y) ih =
        let small = both_true (ltb b 256) (all_bytes w) h in
        peek-cons s b y (ltb-true b 256 small.0) ∙ ap (λ (l : List ℕ). b ∷ l) (ih small.1 (simp (eq-eqb (peek s) b y) at e))

pub literal-begun : (w t : List ℕ) → literal w (w ++ t) ≡ good tt t
unfolding literal peek rest
literal-begun [] t = refl
literal-begun (b ∷ w) t = rw (eq-eqb b b refl) (literal-begun w t)

-- The bytes of a slice
pub bytes : (w : List ℕ) → ((i : ℕ) → Fits w8 (get_or w i 0)) → all_bytes w ≡ true
bytes [] h = refl
bytes (b ∷ w) h = both-made (ltb b 256) (all_bytes w) (lt-ltb b 256 (omega (arith, h 0))) (bytes w (λ i. h (suc i)))

-- What `strip_prefix` and `starts_with` say of the text s and the bytes w
module _ (w s : List ℕ) (h : (i : ℕ) → Fits w8 (get_or w i 0)) where
  unbegun : ((t : List ℕ) → s ≡ w ++ t → ⊥) → (r : Read Unit) → literal w s ≡ r → bad ≡ r
  unbegun n (good x t) e = absurd (n t (literal-sound w s x t (bytes w h) e))
  unbegun n bad e = refl

  pub stripped : (r : Option (Bor (List ℕ))) → MatchOption r ((t : List ℕ) → s ≡ w ++ t → ⊥) (λ x. s ≡ w ++ x.now) → of_literal r ≡ literal w s
  stripped (Some x) m = sym (rw m (literal-begun w x.now))
  stripped None m = unbegun m (literal w s) refl

  pub started : (r : Bool) → (r ≡ true → s ≡ w ++ drop (length w) s) × ((t : List ℕ) → s ≡ w ++ t → r ≡ true) → r ≡ begins_with w s
  unfolding begins_with
  started true m = sym (ap (λ (l : List ℕ). is_good (literal w l)) (m.0 refl) ∙ ap is_good (literal-begun w (drop (length w) s)))
  started false m = ap is_good (unbegun (λ t e. false≢true (m.1 t e)) (literal w s) refl)

-- The word of each kind of line, with its tab
abbrev word_text : Word → List ℕ
word_text word.Add = add→
word_text word.Mul = mul→
word_text word.AddC = addc→
word_text word.MulC = mulc→
word_text word.Pow = pow→
word_text word.Inv = inv→

named-sound : (j : Word) (s : List ℕ) (k : Word) (t : List ℕ) → all_bytes (word_text j) ≡ true → named j (word_text j) s ≡ good k t
    → s ≡ word_text k ++ t
unfolding named
named-sound j s k t b e = go (next-inv (literal (word_text j) s) (λ _ u. good j u) k t e)
  where
    go : (x : Unit) × (u : List ℕ) × (literal (word_text j) s ≡ good x u) × (good j u ≡ good k t) → s ≡ word_text k ++ t
    go (x, u, a, g) =
        let p : j ≡ k = cc g in
        let q : u ≡ t = cc g in
        literal-sound (word_text j) s x u b a ∙ rw (p, q)

keyword-sound : (s : List ℕ) (k : Word) (t : List ℕ) → keyword s ≡ good k t → s ≡ word_text k ++ t
unfolding keyword
keyword-sound s k t e =
    ⊎_elim (λ e5.
    ⊎_elim (λ e4.
    ⊎_elim (λ e3.
    ⊎_elim (λ e2.
    ⊎_elim (named-sound word.Add s k t refl)
    (named-sound word.Mul s k t refl) (or-inv _ _ k t e2))
    (named-sound word.AddC s k t refl) (or-inv _ _ k t e3))
    (named-sound word.MulC s k t refl) (or-inv _ _ k t e4))
    (named-sound word.Pow s k t refl) (or-inv _ _ k t e5))
    (named-sound word.Inv s k t refl) (or-inv _ _ k t e)

keyword-complete : (k : Word) (s : List ℕ) → keyword (word_text k ++ s) ≡ good k s
unfolding keyword named literal peek rest
keyword-complete word.Add s = refl
keyword-complete word.Mul s = refl
keyword-complete word.AddC s = refl
keyword-complete word.MulC s = refl
keyword-complete word.Pow s = refl
keyword-complete word.Inv s = refl

-- Two numerals after a word
pub record PairAt (s : List ℕ) (i x : Numeral) (t : List ℕ) : Type 0 where
  pub left : IsNumeral i
  pub right : IsNumeral x
  pub text : (w : List ℕ) → w ++ s ≡ two w i x ++ t

abbrev tuple : Numeral → Numeral → Numeral × Numeral
tuple i x = (i, x)

pub pair-sound : (s : List ℕ) (p : Numeral × Numeral) (t : List ℕ) → pair s ≡ good p t → PairAt s p.0 p.1 t
unfolding pair
pair-sound s p t e = first (next-inv (field 9 s) (λ i u. next (field 10 u) (λ x v. good (tuple i x) v)) p t e)
  where
    second : (i : Numeral) (u : List ℕ) → NumeralAt s i (9 ∷ u)
        → (x : Numeral) × (v : List ℕ) × (field 10 u ≡ good x v) × (good (tuple i x) v ≡ good p t) → PairAt s p.0 p.1 t
    second i u n (x, v, a, b) =
        let m = field-sound 10 u x v (lit< tt) a in
        let q : tuple i x ≡ p = cc b in
        let r : v ≡ t = cc b in
        subst (λ (z : Numeral × Numeral). PairAt s z.0 z.1 t) q
        (record {
          left = n.fine;
          right = m.fine;
          text = λ w. ap (λ (l : List ℕ). w ++ l) (n.text ∙ ap (λ (l : List ℕ). numeral_text i ++ (9 ∷ l)) m.text)
              ∙ rw r (simp append_assoc);
        })

    first : (i : Numeral) × (u : List ℕ) × (field 9 s ≡ good i u) × (next (field 10 u) (λ x v. good (tuple i x) v) ≡ good p t)
        → PairAt s p.0 p.1 t
    first (i, u, a, b) = second i u (field-sound 9 s i u (lit< tt) a) (next-inv (field 10 u) (λ x v. good (tuple i x) v) p t b)

pair-complete : (i x : Numeral) (t : List ℕ) → IsNumeral i → IsNumeral x
    → pair (numeral_text i ++ (9 ∷ (numeral_text x ++ (10 ∷ t)))) ≡ good (tuple i x) t
unfolding pair digit
pair-complete i x t f g =
    simp (field-complete 9 i (numeral_text x ++ (10 ∷ t)) f (omega arith), field-complete 10 x t g (omega arith))

-- What follows a word: two numerals, for every word but one
both-sound : (k : Word) (f : Numeral → Numeral → TextLine) (s : List ℕ) (l : TextLine) (t : List ℕ)
    → ((i x : Numeral) → line_text (f i x) ≡ two (word_text k) i x) → ((i x : Numeral) → IsNumeral i → IsNumeral x → HasNumerals (f i x))
    → both f s ≡ good l t → LineAt (word_text k ++ s) l t
both-sound k f s l t text fine e = go (next-inv (pair s) (λ p u. good (f p.0 p.1) u) l t e)
  where
    go : (p : Numeral × Numeral) × (u : List ℕ) × (pair s ≡ good p u) × (good (f p.0 p.1) u ≡ good l t) → LineAt (word_text k ++ s) l t
    go (p, u, a, b) =
        let n = pair-sound s p u a in
        let q : f p.0 p.1 ≡ l = cc b in
        let r : u ≡ t = cc b in
        subst (λ (x : TextLine). LineAt (word_text k ++ s) x t) q
        (record {
          fine = fine p.0 p.1 n.left n.right;
          text = n.text (word_text k) ∙ rw (r, text p.0 p.1);
        })

single-sound : (s : List ℕ) (l : TextLine) (t : List ℕ) → next (field 10 s) (λ i u. good (Inv i) u) ≡ good l t → LineAt (inv→ ++ s) l t
single-sound s l t e = go (next-inv (field 10 s) (λ i u. good (Inv i) u) l t e)
  where
    go : (i : Numeral) × (u : List ℕ) × (field 10 s ≡ good i u) × (good (Inv i) u ≡ good l t) → LineAt (inv→ ++ s) l t
    go (i, u, a, b) =
        let n = field-sound 10 s i u (lit< tt) a in
        let q : Inv i ≡ l = cc b in
        let r : u ≡ t = cc b in
        subst (λ (x : TextLine). LineAt (inv→ ++ s) x t) q
        (record {
          fine = n.fine;
          text = ap (λ (x : List ℕ). inv→ ++ x) n.text ∙ rw r (simp append_assoc);
        })

operands-sound : (k : Word) (s : List ℕ) (l : TextLine) (t : List ℕ) → operands k s ≡ good l t → LineAt (word_text k ++ s) l t
unfolding operands
operands-sound word.Add s l t = both-sound word.Add Add s l t (λ i x. refl) (λ i x f g. (f, g))
operands-sound word.Mul s l t = both-sound word.Mul Mul s l t (λ i x. refl) (λ i x f g. (f, g))
operands-sound word.AddC s l t = both-sound word.AddC AddC s l t (λ i x. refl) (λ i x f g. (f, g))
operands-sound word.MulC s l t = both-sound word.MulC MulC s l t (λ i x. refl) (λ i x f g. (f, g))
operands-sound word.Pow s l t = both-sound word.Pow Pow s l t (λ i x. refl) (λ i x f g. (f, g))
operands-sound word.Inv s l t = single-sound s l t

pub line-sound : (s : List ℕ) (l : TextLine) (t : List ℕ) → operation_line s ≡ good l t → LineAt s l t
unfolding operation_line
line-sound s l t e = go (next-inv (keyword s) operands l t e)
  where
    go : (k : Word) × (u : List ℕ) × (keyword s ≡ good k u) × (operands k u ≡ good l t) → LineAt s l t
    go (k, u, a, b) = subst (λ (x : List ℕ). LineAt x l t) (sym (keyword-sound s k u a)) (operands-sound k u l t b)

-- The other way: what is written is read
after-word : (k : Word) (s : List ℕ) (l : TextLine) (t : List ℕ) → operands k s ≡ good l t → operation_line (word_text k ++ s) ≡ good l t
unfolding operation_line
after-word k s l t e = rw (keyword-complete k s) e

two-complete : (k : Word) (f : Numeral → Numeral → TextLine) (i x : Numeral) (t : List ℕ) → ((s : List ℕ) → operands k s ≡ both f s)
    → IsNumeral i → IsNumeral x → operation_line (two (word_text k) i x ++ t) ≡ good (f i x) t
two-complete k f i x t e g h =
    simp append_assoc
    (after-word k (numeral_text i ++ (9 ∷ (numeral_text x ++ (10 ∷ t)))) (f i x) t
    (e (numeral_text i ++ (9 ∷ (numeral_text x ++ (10 ∷ t)))) ∙ rw (pair-complete i x t g h)))

pub line-complete : (l : TextLine) (t : List ℕ) → HasNumerals l → operation_line (line_text l ++ t) ≡ good l t
unfolding operands digit
line-complete (Add i j) t (f, g) = two-complete word.Add Add i j t (λ s. refl) f g
line-complete (Mul i j) t (f, g) = two-complete word.Mul Mul i j t (λ s. refl) f g
line-complete (AddC i c) t (f, g) = two-complete word.AddC AddC i c t (λ s. refl) f g
line-complete (MulC i c) t (f, g) = two-complete word.MulC MulC i c t (λ s. refl) f g
line-complete (Pow i m) t (f, g) = two-complete word.Pow Pow i m t (λ s. refl) f g
line-complete (Inv i) t f =
    simp append_assoc
    (after-word word.Inv (numeral_text i ++ (10 ∷ t)) (Inv i) t (rw (field-complete 10 i t f (omega arith))))

-- The first line: n and its year field
abbrev counted : Numeral → YearField → Numeral × YearField
counted n f = (n, f)

-- what a reader's find makes of them
made : {A : Type 0} (r : Read A) (f : A → Numeral × YearField) (s : List ℕ)
    → ((a : A) (u : List ℕ) → r ≡ good a u → FirstAt (factors→ ++ s) (f a).0 (f a).1 u) → (p : Numeral × YearField) (t : List ℕ)
    → next r (λ a u. good (f a) u) ≡ good p t → FirstAt (factors→ ++ s) p.0 p.1 t
made (good a u) f s h p t e =
    let q : f a ≡ p = cc e in
    let v : u ≡ t = cc e in
    subst (λ (z : Numeral × YearField). FirstAt (factors→ ++ s) z.0 z.1 t) q
    (subst (λ (l : List ℕ). FirstAt (factors→ ++ s) (f a).0 (f a).1 l) v (h a u refl))
made bad f s h p t e = never p t e

-- n alone, or n and a year
alone-sound : (s : List ℕ) (n : Numeral) (t : List ℕ) → field 10 s ≡ good n t → FirstAt (factors→ ++ s) n absent t
alone-sound s n t e =
    let m = field-sound 10 s n t (lit< tt) e in
    record {
      fine = m.fine;
      year = tt;
      text = ap (λ (l : List ℕ). factors→ ++ l) m.text ∙ simp append_assoc;
    }

dated-sound : (s : List ℕ) (p : Numeral × Numeral) (t : List ℕ) → pair s ≡ good p t → FirstAt (factors→ ++ s) p.0 (written p.1) t
dated-sound s p t e =
    let m = pair-sound s p t e in
    record {
      fine = m.left;
      year = m.right;
      text = m.text factors→;
    }

pub first-sound : (s : List ℕ) (p : Numeral × YearField) (t : List ℕ) → first_line s ≡ good p t → FirstAt s p.0 p.1 t
unfolding first_line first_fields
first-sound s p t e = go (next-inv (literal factors→ s) (λ _ u. first_fields u) p t e)
  where
    go : (x : Unit) × (u : List ℕ) × (literal factors→ s ≡ good x u) × (first_fields u ≡ good p t) → FirstAt s p.0 p.1 t
    go (x, u, a, b) =
        subst (λ (l : List ℕ). FirstAt l p.0 p.1 t) (sym (literal-sound factors→ s x u refl a))
        (⊎_elim
        (made (field 10 u) (λ n. counted n absent) u (alone-sound u) p t)
        (made (pair u) (λ q. counted q.0 (written q.1)) u (dated-sound u) p t)
        (or-inv _ _ p t b))

pub first-complete : (w : Numeral) (f : YearField) (t : List ℕ) → IsNumeral w → HasYear f → first_line (first_text w f ++ t) ≡ good (counted w f) t
unfolding first_line first_fields literal peek rest digit
first-complete w absent t g h = simp append_assoc (rw (field-complete 10 w t g (omega arith)))
first-complete w (written y) t g h =
    simp append_assoc
    (rw (field-other 10 9 w (numeral_text y ++ (10 ∷ t)) g (omega arith) (omega arith), pair-complete w y t g h))
