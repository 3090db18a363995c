-- Laws of texts in lent bytes: one piece after another, and the whole where there is room. Assumes nothing.
use Prim.Native.Nat.{ℕ, suc, ◌+◌, ◌≤◌, ◌<◌}
use mathlib.Core.Bool.{Bool, true, false, cond}
use mathlib.Core.List.{List, [], ◌∷◌, ◌++◌}
use mathlib.Core.Path.{◌≡◌, refl, sym, ap, ap₂, ◌∙◌}
use native.Mathlib.Decide.{dec_le}
use native.Mathlib.Numerals.{add-one}
use native.Mathlib.Omega.{arith}
use lib.Dec.{ltb}
use lib.ListN.{length, get_or, take, drop, set, length-set, take-append-drop, drop_of_length-le}
use lib.Seq.{drop-cons, sets, sets-eq, take_all, length-take-le}
use borrow.Author.Tests.{lt-ltb, le-ltb, ltb-true}
use Rattle.writer.specs.Texts.{refused_text}
use Rattle.writer.specs.Lent.{Lent, lent, put, put_text}

-- no byte more or less
put-length : (o : Lent) (b : ℕ) → length (put o b).bytes ≡ length o.bytes
unfolding put
put-length o b = go (ltb o.at (length o.bytes))
  where
    go : (t : Bool) → length (cond t (lent (set o.bytes o.at b) (o.at + 1)) o).bytes ≡ length o.bytes
    go true = length-set o.bytes o.at b
    go false = refl

put_text-length : (o : Lent) (t : List ℕ) → length (put_text o t).bytes ≡ length o.bytes
unfolding put_text
put_text-length o [] = refl
put_text-length o (b ∷ t) = put_text-length (put o b) t ∙ put-length o b

pub kept-length : (o p : Lent) (t : List ℕ) → p ≡ put_text o t → length p.bytes ≡ length o.bytes
kept-length o p t e = ap (λ (x : Lent). length x.bytes) e ∙ put_text-length o t

-- the place stays within the bytes
put-inside : (o : Lent) (b : ℕ) → o.at ≤ length o.bytes → (put o b).at ≤ length (put o b).bytes
unfolding put
put-inside o b h = go (ltb o.at (length o.bytes)) refl
  where
    go : (t : Bool) → ltb o.at (length o.bytes) ≡ t
        → let q = cond t (lent (set o.bytes o.at b) (o.at + 1)) o in
        q.at ≤ length q.bytes
    go true e = omega (arith, ltb-true o.at (length o.bytes) e, length-set o.bytes o.at b)
    go false e = h

put_text-inside : (o : Lent) (t : List ℕ) → o.at ≤ length o.bytes → (put_text o t).at ≤ length (put_text o t).bytes
unfolding put_text
put_text-inside o [] h = h
put_text-inside o (b ∷ t) h = put_text-inside (put o b) t (put-inside o b h)

pub fits-inside : (o p : Lent) (t : List ℕ) → p ≡ put_text o t → o.at ≤ length o.bytes → p.at ≤ length p.bytes
fits-inside o p t e h = rw e (put_text-inside o t h)

-- so it stays within so many
pub within : (o p : Lent) (t : List ℕ) (n : ℕ) → p ≡ put_text o t → length o.bytes ≡ n → o.at ≤ n → p.at ≤ n
within o p t n e l h = omega (arith, fits-inside o p t e (omega (arith, l, h)), ap (λ (x : Lent). length x.bytes) e, put_text-length o t, l)

-- one piece after another
pub put_text-append : (o : Lent) (s t : List ℕ) → put_text (put_text o s) t ≡ put_text o (s ++ t)
unfolding put_text
put_text-append o [] t = refl
put_text-append o (b ∷ s) t = put_text-append (put o b) s t

-- the same of three states, each made from the one before; and a byte last, and a byte first
pub then : (o p q : Lent) (s t : List ℕ) → p ≡ put_text o s → q ≡ put_text p t → q ≡ put_text o (s ++ t)
then o p q s t e f = f ∙ ap (λ (x : Lent). put_text x t) e ∙ put_text-append o s t

pub then-put : (o p q : Lent) (s : List ℕ) (b : ℕ) → p ≡ put_text o s → q ≡ put p b → q ≡ put_text o (s ++ (b ∷ []))
unfolding put_text
then-put o p q s b e f = then o p q s (b ∷ []) e f

pub put_one : (o p : Lent) (b : ℕ) → p ≡ put o b → p ≡ put_text o (b ∷ [])
unfolding put_text
put_one o p b e = e

pub put_then : (o p q : Lent) (b : ℕ) (t : List ℕ) → p ≡ put o b → q ≡ put_text p t → q ≡ put_text o (b ∷ t)
unfolding put_text
put_then o p q b t e f = f ∙ ap (λ (x : Lent). put_text x t) e

-- a refusal's line, by what its number and place are
pub put_refused : (o p : Lent) {n m k l : ℕ} → p ≡ put_text o (refused_text n m) → n ≡ k → m ≡ l → p ≡ put_text o (refused_text k l)
put_refused o p e f g = e ∙ ap₂ (λ (a b : ℕ). put_text o (refused_text a b)) f g

-- a turn of the loop over a piece w
pub put_text-next : (o : Lent) (w : List ℕ) (i : ℕ) → i < length w → put_text (put o (get_or w i 0)) (drop (i + 1) w) ≡ put_text o (drop i w)
unfolding put_text
put_text-next o w i h = rw (drop-cons w i 0, add-one i)

-- WHERE THERE IS ROOM the whole text stands there, and every other byte is as it was
placed : (b : List ℕ) (i : ℕ) (t : List ℕ) → i + length t ≤ length b → put_text (lent b i) t ≡ lent (sets b i t) (i + length t)
unfolding put_text put
placed b i [] h = let a : i + 0 ≡ i = omega arith in rw a
placed b i (x ∷ t) h =
    let a : i + suc (length t) ≡ suc i + length t = omega arith in
    rw (lt-ltb i (length b) (omega arith), add-one i, a) (placed (set b i x) (suc i) t (omega (arith, length-set b i x)))

pub filled : (b t : List ℕ) → length t ≤ length b → put_text (lent b 0) t ≡ lent (t ++ drop (length t) b) (length t)
filled b t h =
    let a : 0 + length t ≡ length t = omega arith in
    placed b 0 t (omega arith) ∙ rw (a) (ap (λ (l : List ℕ). lent l (length t)) (sets-eq t b 0 (omega arith) ∙ rw a))

-- EVERY TEXT from the first place on: as much of it as there is room for
full : (o : Lent) (t : List ℕ) → length o.bytes ≤ o.at → put_text o t ≡ o
unfolding put_text put
full o [] h = refl
full o (b ∷ t) h = rw (le-ltb o.at (length o.bytes) h) (full o t h)

pub cut_off : (b t : List ℕ) → put_text (lent b 0) t ≡ lent (take (length b) t ++ drop (length t) b) (length (take (length b) t))
cut_off b t = go (dec_le (length t) (length b))
  where
    go : Dec (length t ≤ length b) → put_text (lent b 0) t ≡ lent (take (length b) t ++ drop (length t) b) (length (take (length b) t))
    go (yes h) = rw (take_all (length b) t h) (filled b t h)
    go (no h) =
        let s = take (length b) t in
        let n : length s ≡ length b = length-take-le (length b) t (omega arith) in
        let e : drop (length s) b ≡ drop (length t) b
        = drop_of_length-le b {i = length s} (omega (arith, n)) ∙ sym (drop_of_length-le b {i = length t} (omega arith)) in
        let p : put_text (lent b 0) s ≡ lent (s ++ drop (length t) b) (length s)
        = filled b s (omega (arith, n)) ∙ ap (λ (r : List ℕ). lent (s ++ r) (length s)) e in
        ap (put_text (lent b 0)) (sym (take-append-drop (length b) t)) ∙ sym (put_text-append (lent b 0) s (drop (length b) t))
        ∙ full (put_text (lent b 0) s) (drop (length b) t) (omega (arith, put_text-length (lent b 0) s, ap (λ (o : Lent). o.at) p)) ∙ p
