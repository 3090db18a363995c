-- Reading a formula promises what specs/Exactly.antt says.
use Prim.Native.Nat.{ℕ, ◌+◌, ◌-◌, ◌≤◌, ◌<◌}
use mathlib.Core.List.{List, [], ◌∷◌, ◌++◌, append_assoc, append-nil}
use mathlib.Core.Logic.{◌↔◌, ◌⊎◌, inl, inr}
use mathlib.Core.Path.{◌≡◌, refl, sym, ap, subst, ◌∙◌}
use native.Mathlib.Decide.{dec_lt}
use native.Mathlib.Nat.{sub-zero}
use native.Mathlib.Omega.{arith}
use lib.ListN.{length, take, drop, length-append, take-append-drop}
use lib.Seq.{take-append_seam, take-append-add, take-take, take-length}
use borrow.Author.Tests.{le-leb, lt-leb}
use Rattle.codelist.specs.Read.{peek}
use Rattle.formulas.specs.Grammar.{Tree, Writes, Formula, deepest, longest}
use Rattle.formulas.specs.Viable.{Viable, Fails, longer, at_byte, stops-early}
use Rattle.formulas.specs.Read.{Found, good, stuck, sum_at, atom_at, Parsed, tree, fault, ended, place_in, parse}
use Rattle.formulas.specs.Exactly.{Spells}
use Rattle.formulas.proofs.Readers.{good-value, good-rest, good-stuck}
use Rattle.formulas.proofs.Grammatical.{formula-read}
use Rattle.formulas.proofs.Complete.{formula-complete}

-- the reader of whole formulas
abbrev whole : List ℕ → Found Tree
whole s = sum_at (atom_at deepest) s

not-both : {X : Type 0} (t : Tree) (p : ℕ) → tree t ≡ fault p → X
not-both t p e = absurd (let z : ◌≡◌ {A = ℕ} 0 1 = cc in omega arith)

tree-value : (t u : Tree) → tree t ≡ tree u → t ≡ u
tree-value t u e = cc

fault-value : (p q : ℕ) → fault p ≡ fault q → p ≡ q
fault-value p q e = cc

cons-nil : {X : Type 0} (b : ℕ) (s : List ℕ) → b ∷ s ≡ [] → X
cons-nil b s e = absurd (omega (arith, ap length e))

-- what is written is read
written : (s : List ℕ) (t : Tree) → Writes t s → whole s ≡ good t []
written s t w = ap whole w.text ∙ formula-complete t w.stands

-- what is read was written
read : (s : List ℕ) (t : Tree) → whole s ≡ good t [] → Writes t s
read s t e =
    let f = formula-read.found s t [] tt e in
    record { stands = f.is; text = f.split ∙ append-nil f.took ∙ sym f.whole }

pub short : (s : List ℕ) → length s ≤ longest → parse s ≡ ended (length s) (whole s)
unfolding parse
short s h = simp (le-leb (length s) longest h)

pub long : (s : List ℕ) → longest < length s → parse s ≡ fault (longest + 1)
unfolding parse
long s h = simp (lt-leb (length s) longest h)

-- ════ a tree, exactly where it is written ════

to-written : (s : List ℕ) (t : Tree) → parse s ≡ tree t → Writes t s × (length s ≤ longest)
to-written s t e = go (dec_lt longest (length s))
  where
    by_result : (r : Found Tree) → whole s ≡ r → ended (length s) r ≡ tree t → Writes t s
    by_result (good u []) d f = subst (λ (x : Tree). Writes x s) (tree-value u t f) (read s u d)
    by_result (good u (b ∷ v)) d f = not-both t _ (sym f)
    by_result (stuck v) d f = not-both t _ (sym f)

    go : Dec (longest < length s) → Writes t s × (length s ≤ longest)
    go (yes h) = not-both t _ (sym e ∙ long s h)
    go (no h) = (by_result (whole s) refl (sym (short s (omega arith)) ∙ e), omega arith)

from-written : (s : List ℕ) (t : Tree) → Writes t s → length s ≤ longest → parse s ≡ tree t
from-written s t w h = short s h ∙ ap (ended (length s)) (written s t w)

-- ════ the place ════

-- Where the reader leaves b unread, b can't follow: it would be left in every formula that goes on so
module _ (took : List ℕ) (b : ℕ) (c : List ℕ) (t : Tree) (w : Writes t ((took ++ (b ∷ [])) ++ c)) where
  all_read : whole (took ++ (b ∷ c)) ≡ good t []
  all_read = ap whole (sym (append_assoc took (b ∷ []) c)) ∙ written _ t w

-- the length of what was taken
taken : (s p u : List ℕ) → s ≡ p ++ u → length s - length u ≡ length p
taken s p u e = omega (arith, ap length e ∙ length-append p u)

to-fails : (s : List ℕ) (p : ℕ) → parse s ≡ fault p → Fails s p
unfolding peek
to-fails s p e = go (dec_lt longest (length s))
  where
    at : (q : ℕ) → fault q ≡ fault p → Fails s q → Fails s p
    at q f x = subst (Fails s) (fault-value q p f) x

    place : (took u : List ℕ) → s ≡ took ++ u → Fails s (length took + 1) → Fails s (place_in (length s) u)
    place took u f x = subst (λ (n : ℕ). Fails s (n + 1)) (sym (taken s took u f)) x

    by_result : length s ≤ longest → (r : Found Tree) → whole s ≡ r → ended (length s) r ≡ fault p → Fails s p
    by_result h (good t []) d f = not-both t p f
    by_result h (good t (b ∷ u)) d f =
        let g = formula-read.found s t (b ∷ u) tt d in
        at _ f (place g.took (b ∷ u) g.split
        (at_byte g.took b u h g.split ([], (t, record { stands = g.is; text = append-nil g.took ∙ sym g.whole })) λ v.
        cons-nil b v.0
        (good-rest t v.1.0 _ _ (sym (g.local (b ∷ v.0) refl) ∙ all_read g.took b v.0 v.1.0 v.1.1))))
    by_result h (stuck []) d f =
        let g = formula-read.halts s [] tt d in
        let e : s ≡ g.took = g.split ∙ append-nil g.took in
        let t = ap (λ (l : List ℕ). l ++ g.more) e ∙ sym g.whole in
        at _ f (subst (λ (n : ℕ). Fails s (n + 1)) (sym (sub-zero (length s)))
        (stops-early h (g.more, (g.some, record { stands = g.is; text = t })) λ v.
        good-stuck v.0 [] [] (sym (written s v.0 v.1) ∙ d)))
    by_result h (stuck (b ∷ u)) d f =
        let g = formula-read.halts s (b ∷ u) tt d in
        at _ f (place g.took (b ∷ u) g.split
        (at_byte g.took b u h g.split (g.more, (g.some, record { stands = g.is; text = sym g.whole })) λ v.
        good-stuck v.1.0 [] (b ∷ v.0) (sym (all_read g.took b v.0 v.1.0 v.1.1) ∙ g.local (b ∷ v.0) refl)))

    go : Dec (longest < length s) → Fails s p
    go (yes h) = at (longest + 1) (sym (long s h) ∙ e) (longer h)
    go (no h) = by_result (omega arith) (whole s) refl (sym (short s (omega arith)) ∙ e)

-- ════ one place ════

-- what begins a beginning begins a formula
earlier : (p q : List ℕ) → Viable (p ++ q) → Viable p
earlier p q v =
    (q ++ v.0, (v.1.0, record { stands = v.1.1.stands; text = sym (append_assoc p q v.0) ∙ v.1.1.text }))

earlier-take : (s : List ℕ) (n m : ℕ) → n ≤ m → Viable (take m s) → Viable (take n s)
earlier-take s n m h v =
    subst Viable (take-take n m s h)
    (earlier (take n (take m s)) (drop n (take m s)) (subst Viable (sym (take-append-drop n (take m s))) v))

-- A place is told by the beginnings: the first n bytes begin a formula, and one more does not, or there is none and the text is no formula
record Place (s : List ℕ) (n : ℕ) : Type 0 where
  begins : Viable (take n s)
  short : length s ≤ longest
  stops : ((n < length s) × (Viable (take (n + 1) s) → ⊥)) ⊎ ((n ≡ length s) × (Formula s → ⊥))

at-byte-place : (s p : List ℕ) (b : ℕ) (u : List ℕ) → length s ≤ longest → s ≡ p ++ (b ∷ u) → Viable p → (Viable (p ++ (b ∷ [])) → ⊥)
    → Place s (length p)
at-byte-place s p b u h e v n = record {
  begins = subst Viable (sym (ap (take (length p)) e ∙ take-append_seam p (b ∷ u))) v;
  short = h;
  stops = inl (
    omega (arith, ap length e ∙ length-append p (b ∷ u)),
    λ w. n (subst Viable (ap (take (length p + 1)) e ∙ take-append-add p (b ∷ u) 1) w),
  );
}

early-place : (s : List ℕ) → length s ≤ longest → Viable s → (Formula s → ⊥) → Place s (length s)
early-place s h v n = record {
  begins = subst Viable (sym (take-length s)) v;
  short = h;
  stops = inr (refl, n);
}

-- a formula is no place at all
no-formula : (s : List ℕ) (n : ℕ) → Place s n → Formula s → ⊥
no-formula s n p f = go p.stops
  where
    go : ((n < length s) × (Viable (take (n + 1) s) → ⊥)) ⊎ ((n ≡ length s) × (Formula s → ⊥)) → ⊥
    go (inl x) =
        x.1 (earlier (take (n + 1) s) (drop (n + 1) s)
        ([], (f.0, record { stands = f.1.stands; text = append-nil _ ∙ take-append-drop (n + 1) s ∙ f.1.text })))
    go (inr x) = x.1 f

not-later : (s : List ℕ) (n m : ℕ) → Place s n → Place s m → n < m → ⊥
not-later s n m p q h = go p.stops q.stops
  where
    go : ((n < length s) × (Viable (take (n + 1) s) → ⊥)) ⊎ ((n ≡ length s) × (Formula s → ⊥))
        → ((m < length s) × (Viable (take (m + 1) s) → ⊥)) ⊎ ((m ≡ length s) × (Formula s → ⊥)) → ⊥
    go (inl x) y = x.1 (earlier-take s (n + 1) m (omega arith) q.begins)
    go (inr x) (inl y) = omega (arith, x.0, y.0)
    go (inr x) (inr y) = omega (arith, x.0, y.0)

one_place : (s : List ℕ) (n m : ℕ) → Place s n → Place s m → n ≡ m
one_place s n m p q = go (dec_lt n m) (dec_lt m n)
  where
    go : Dec (n < m) → Dec (m < n) → n ≡ m
    go (yes h) k = absurd (not-later s n m p q h)
    go (no h) (yes k) = absurd (not-later s m n q p k)
    go (no h) (no k) = omega arith

-- a short text that fails does so at a place
place-of : (s : List ℕ) (p : ℕ) → length s ≤ longest → Fails s p → (n : ℕ) × Place s n × (p ≡ n + 1)
place-of s _ h (longer g) = absurd (omega arith)
place-of s _ h (at_byte p b u g e v n) = (length p, at-byte-place s p b u g e v n, refl)
place-of s _ h (stops-early g v n) = (length s, early-place s g v n, refl)

from-fails : (s : List ℕ) (p : ℕ) → Fails s p → parse s ≡ fault p
from-fails s p x = go (dec_lt longest (length s))
  where
    long-place : longest < length s → Fails s p → parse s ≡ fault p
    long-place h x = long s h ∙ ap fault (the-long s p h x)
      where
        the-long : (s : List ℕ) (p : ℕ) → longest < length s → Fails s p → longest + 1 ≡ p
        the-long s _ h (longer g) = refl
        the-long s _ h (at_byte q b u g e v n) = absurd (omega arith)
        the-long s _ h (stops-early g v n) = absurd (omega arith)

    by-tree : length s ≤ longest → (r : Parsed) → parse s ≡ r → r ≡ fault p
    by-tree h (tree t) e =
        let y = place-of s p h x in
        absurd (no-formula s y.0 y.1 (t, (to-written s t e).0))
    by-tree h (fault q) e =
        let y = place-of s p h x in
        let z = place-of s q h (to-fails s q e) in
        ap fault (z.2 ∙ ap (λ (n : ℕ). n + 1) (one_place s z.0 y.0 z.1 y.1) ∙ sym y.2)

    go : Dec (longest < length s) → parse s ≡ fault p
    go (yes h) = long-place h x
    go (no h) = by-tree (omega arith) (parse s) refl

-- ════ what the readers promise ════

pub found-where-spelled : (s : List ℕ) (t : Tree) → (parse s ≡ tree t) ↔ Spells t s
found-where-spelled s t = (
  λ e. let w = to-written s t e in record { short = w.1; writes = w.0 },
  λ w. from-written s t w.writes w.short,
)

pub one-tree : (s : List ℕ) (t u : Tree) → Writes t s → Writes u s → t ≡ u
one-tree s t u x y = good-value t u [] [] (sym (written s t x) ∙ written s u y)

pub fails-where-stuck : (s : List ℕ) (p : ℕ) → (parse s ≡ fault p) ↔ Fails s p
fails-where-stuck s p = (to-fails s p, from-fails s p)
