-- The loop over the box lines: its invariant, and what each way through a turn is of `box_lines`.
use Prim.Native.Nat.{ℕ, suc, zero, ◌+◌, ◌*◌, ◌<◌}
use mathlib.Core.Bool.{true, false, true≢false}
use mathlib.Core.List.{List, [], ◌∷◌, ◌++◌, append_assoc}
use mathlib.Core.Option.{none, some}
use mathlib.Core.Path.{◌≡◌, refl, sym, ap, ◌∙◌}
use native.Mathlib.Omega.{arith}
use borrow.Author.Tests.{ne_eqb}
use lib.IntN.{ℤ}
use lib.ListN.{length, length-append}
use Rattle.std.proofs.lemmas.List.{length_push}
use Rattle.std.specs.Bool.{◌==◌}
use Rattle.codelist.specs.declared.Numeral.{Numeral}
use Rattle.codelist.specs.Load.{value_of, saturated}
use Rattle.codelist.specs.Read.{good, bad, pair}
use Rattle.codelist.proofs.Laws.{saturated-few}
use Rattle.codelist.proofs.LineTexts.{pair-sound}
use Rattle.text.specs.Input.{at_end, box_lines}

-- With the numbers xs read: what is left to read is what was to be read at the start
pub record Going (s : List ℕ) (xs : List ℤ) (rest : List ℕ) : Type 0 where
  pub room : ℕ
  pub few : length xs + 2 * room ≡ 16
  pub same : box_lines room xs rest ≡ box_lines 8 [] s

pub start : (s : List ℕ) → Going s [] s
start s = record { room = 8; few = refl; same = refl }

-- what a test for the end of the text says
pub left-some : (s : List ℕ) → false ≡ (length s == 0) → s ≡ [] → ⊥
left-some [] h e = true≢false (sym h)
left-some (b ∷ s) h e = absurd (omega (arith, ap length e))

pub left-none : (s : List ℕ) → true ≡ (length s == 0) → s ≡ []
left-none [] h = refl
left-none (b ∷ s) h = absurd (true≢false (h ∙ ne_eqb (length (b ∷ s)) 0 (λ e. omega arith)))

pub one_more : (xs ys : List ℤ) (x : ℤ) → ys ≡ xs ++ (x ∷ []) → length ys ≡ length xs + 1
one_more xs ys x e = ap length e ∙ length_push xs x

-- Before the end of the text
pub unended : {A : Type 0} (s : List ℕ) (x y : A) → (s ≡ [] → ⊥) → at_end s x y ≡ y
unended [] x y n = absurd (n refl)
unended (b ∷ s) x y n = refl

-- The ways out of the loop, and the next turn
module _ (s : List ℕ) (xs : List ℤ) (rest : List ℕ) (g : Going s xs rest) where
  pub leave-done : rest ≡ [] → some xs ≡ box_lines 8 [] s
  unfolding box_lines
  leave-done h = sym (done g.room) ∙ g.same
    where
      done : (k : ℕ) → box_lines k xs rest ≡ some xs
      done zero = rw h
      done (suc k) = rw h

  module _ (h : rest ≡ [] → ⊥) where
    pub leave-full : length xs ≡ 16 → none ≡ box_lines 8 [] s
    unfolding box_lines
    leave-full f =
        let z : g.room ≡ 0 = omega (arith, g.few) in
        sym (unended rest (some xs) none h) ∙ (rw z at g.same)

    pub leave-bad : pair rest ≡ bad → none ≡ box_lines 8 [] s
    unfolding box_lines
    leave-bad e = go g.room ∙ g.same
      where
        go : (k : ℕ) → none ≡ box_lines k xs rest
        go zero = sym (unended rest _ _ h)
        go (suc k) = sym (unended rest _ _ h ∙ rw e)

    pub turn : (low high : Numeral) (x y : ℤ) (t : List ℕ) (ys zs : List ℤ) → length xs < 16 → pair rest ≡ good (low, high) t
        → x ≡ saturated low → y ≡ saturated high → ys ≡ xs ++ (x ∷ []) → zs ≡ ys ++ (y ∷ []) → Going s zs t
    unfolding box_lines
    turn low high x y t ys zs f e p q a b =
        let n = pair-sound rest (low, high) t e in
        let c : zs ≡ xs ++ (x ∷ y ∷ []) = b ∙ ap (λ (l : List ℤ). l ++ (y ∷ [])) a ∙ append_assoc xs (x ∷ []) (y ∷ []) in
        rw c (go (p ∙ saturated-few low n.left.few) (q ∙ saturated-few high n.right.few) g.room g.few g.same)
      where
        go : x ≡ value_of low → y ≡ value_of high → (k : ℕ) → length xs + 2 * k ≡ 16 → box_lines k xs rest ≡ box_lines 8 [] s
            → Going s (xs ++ (x ∷ y ∷ [])) t
        go v w zero m r = absurd (omega arith)
        go v w (suc k) m r = record {
          room = k;
          few = omega (arith, length-append xs (x ∷ y ∷ []));
          same = sym (unended rest _ _ h ∙ rw (e, v, w)) ∙ r;
        }
