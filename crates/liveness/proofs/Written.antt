-- The text as the code puts it together: what is left of it at each turn, and the whole in its array. Assumes nothing.
use Prim.Native.Nat.{ℕ, suc, ◌+◌, ◌-◌, ◌≤◌, ◌<◌}
use mathlib.Core.Bool.{Bool, true, false, ◌||◌}
use mathlib.Core.List.{List, [], ◌∷◌, ◌++◌}
use mathlib.Core.Path.{◌≡◌, refl, sym, ap, ap₂, subst, ◌∙◌}
use native.Mathlib.Numerals.{add-one}
use native.Mathlib.Omega.{arith}
use lib.Dec.{leb}
use lib.ListN.{length, get_or, take, drop, replicate, drop_of_length-le}
use lib.Seq.{drop-cons, get_or-take, take_at}
use borrow.Author.Tests.{le-leb, lt-leb}
use Rattle.codelist.specs.declared.Codelist.{Codelist}
use Rattle.codelist.specs.declared.Entry.{Entry}
use Rattle.codelist.specs.declared.Op.{Op}
use Rattle.codelist.specs.declared.Op.TheVariants.{Add, Mul, AddC, MulC, Pow, Inv}
use Rattle.codelist.specs.Codelist.{WellFormed, WellFormedOp}
use Rattle.codelist.specs.Text.{first_text, line_text}
use Rattle.codelist.specs.Write.{plain, field_of, text_line_of, ops_text, text_of}
use Rattle.codelist.proofs.Lengths.{text-length}
use Rattle.codelist.proofs.Years.{own-text}
use Rattle.rules.specs.Run.{operations}
use Rattle.writer.specs.Lent.{Lent, lent, put_text}
use Rattle.writer.proofs.Writing.{filled, put_text-append}
use Rattle.liveness.specs.InFull.{Written, Refused}
use Rattle.liveness.specs.declared.Refusal.TheVariants.{Short}
use Rattle.liveness.specs.Used.{used}
use Rattle.liveness.specs.Tidied.{kept, position, renumbered, tidy_ops, tidied_ops, tidied}
use Rattle.liveness.specs.Tidy.{fitted}
use Rattle.liveness.specs.Views.{Marks, Numbers, Ready, number_at, FewDigits}
use Rattle.liveness.proofs.References.{earlier, renumbered-alike}
use Rattle.liveness.proofs.Positions.{position-alike}
use Rattle.liveness.proofs.Operations.{each_at, tidy-none, tidy-kept, tidy-dropped}
use Rattle.liveness.proofs.Used.{kept-used, counted, fine}
use Rattle.liveness.proofs.Tidied.{tidied-fine}
use Rattle.liveness.proofs.Lengths.{text-is}

-- a piece is put, and the rest is left
pub turned : (o p : Lent) (s t u : List ℕ) → p ≡ put_text o s → u ≡ s ++ t → put_text p t ≡ put_text o u
turned o p s t u e h = ap (λ (x : Lent). put_text x t) e ∙ put_text-append o s t ∙ ap (put_text o) (sym h)

few-digits : (e : ℕ) (f : ℕ → ℕ) (o : Op) → WellFormedOp e o → FewDigits (renumbered f o)
few-digits e f (Add j k) w = tt
few-digits e f (Mul j k) w = tt
few-digits e f (AddC j c) w = omega (arith, w.1)
few-digits e f (MulC j c) w = omega (arith, w.1)
few-digits e f (Pow j m) w = tt
few-digits e f (Inv j) w = tt

-- ---- the operations' lines
-- those from index k on
abbrev pub left : Codelist → ℕ → List ℕ
left c k = ops_text (tidy_ops (kept c) (c.factors + k) (drop k (operations c)))

-- from the first on, all of them
pub left-start : (c : Codelist) → left c 0 ≡ ops_text (tidied_ops c)
left-start c = let a : c.factors + 0 ≡ c.factors = omega arith in rw a

-- after the first line
pub begun : (c : Codelist) (o p : Lent) → o ≡ lent (replicate 1266 0) 0 → p ≡ put_text o (first_text (plain c.factors) (field_of c.year))
    → put_text p (left c 0) ≡ put_text (lent (replicate 1266 0) 0) (text_of (tidied c))
begun c o p e f =
    turned o p (first_text (plain c.factors) (field_of c.year)) (left c 0) (text_of (tidied c)) f
    (text-is c ∙ ap (λ (t : List ℕ). first_text (plain c.factors) (field_of c.year) ++ t) (sym (left-start c)))
    ∙ ap (λ (x : Lent). put_text x (text_of (tidied c))) e

-- past the last, none
pub left_end : (c : Codelist) → WellFormed c → (k : ℕ) → c.count ≤ k → left c k ≡ []
left_end c w k h =
    let none : length (operations c) ≤ k = omega (arith, counted c w) in
    ap (λ (os : List Entry). ops_text (tidy_ops (kept c) (c.factors + k) os)) (drop_of_length-le (operations c) none)
    ∙ ap ops_text (tidy-none (kept c) (c.factors + k))

-- both arrays, as the code makes them
pub ready : (c : Codelist) (marks : List Bool) (ns : List ℕ) → WellFormed c → Marks (used c) marks
    → Numbers (position (λ i. leb i c.factors || get_or marks i false)) ns → Ready c marks ns
unfolding kept
ready c marks ns w m n = record {
  fine = w;
  marks = m;
  numbers = record {
    at = λ i p.
        n.at i p ∙ position-alike _ (kept c) i (λ j q. ap (λ (b : Bool). leb j c.factors || b) (m.at j (omega arith)));
  };
}

module _ (c : Codelist) (marks : List Bool) (ns : List ℕ) (r : Ready c marks ns) (k : ℕ) (h : k < c.count) (d : Entry) where
  abbrev op : Op
  op = (get_or c.ops k d).op

  op-is : get_or (operations c) k d ≡ get_or c.ops k d
  op-is = get_or-take c.count c.ops k d h

  split : drop k (operations c) ≡ get_or c.ops k d ∷ drop (suc k) (operations c)
  split = drop-cons (operations c) k d (omega (arith, counted c r.fine)) ∙ ap (λ (x : Entry). x ∷ drop (suc k) (operations c)) op-is

  op-fine : WellFormedOp (c.factors + k) op
  op-fine =
      let a : suc (c.factors + k) - 1 ≡ c.factors + k = omega arith in
      let b : suc (c.factors + k) - c.factors - 1 ≡ k = omega arith in
      let f = each_at WellFormedOp d c.factors (operations c) (fine c r.fine) (suc (c.factors + k)) (omega arith) (omega (arith, counted c r.fine)) in
      subst (λ (x : Entry). WellFormedOp (c.factors + k) x.op) op-is
      (subst (λ (j : ℕ). WellFormedOp (c.factors + k) (get_or (operations c) j d).op) b
      (subst (λ (e : ℕ). WellFormedOp e (get_or (operations c) (suc (c.factors + k) - c.factors - 1) d).op) a f))

  pub op-digits : FewDigits (renumbered (number_at ns) op)
  op-digits = few-digits (c.factors + k) (number_at ns) op op-fine

  -- its references have their new numbers
  op-moved : renumbered (position (kept c)) op ≡ renumbered (number_at ns) op
  op-moved = renumbered-alike (position (kept c)) (number_at ns) op (λ i q.
      let e = earlier (c.factors + k) op op-fine i q in
      sym (r.numbers.at i (omega (arith, e.1, r.fine.few))))

  marked-is : {b : Bool} → get_or marks (c.factors + k + 1) false ≡ b → used c (suc (c.factors + k)) ≡ b
  marked-is g = sym (r.marks.at (suc (c.factors + k)) (omega (arith, r.fine.few))) ∙ rw add-one at g

  is-dropped : get_or marks (c.factors + k + 1) false ≡ false → kept c (suc (c.factors + k)) ≡ false
  unfolding kept
  is-dropped g = rw (lt-leb (suc (c.factors + k)) c.factors (omega arith), marked-is g)

  here : left c k ≡ ops_text (tidy_ops (kept c) (c.factors + k) (get_or c.ops k d ∷ drop (suc k) (operations c)))
  here = ap (λ (os : List Entry). ops_text (tidy_ops (kept c) (c.factors + k) os)) split

  after : ops_text (tidy_ops (kept c) (suc (c.factors + k)) (drop (suc k) (operations c))) ≡ left c (k + 1)
  after =
      let e : suc (c.factors + k) ≡ c.factors + (k + 1) = omega arith in
      ap₂ (λ (e j : ℕ). ops_text (tidy_ops (kept c) e (drop j (operations c)))) e (sym (add-one k))

  pub left-kept : get_or marks (c.factors + k + 1) false ≡ true → left c k ≡ line_text (text_line_of (renumbered (number_at ns) op)) ++ left c (k + 1)
  left-kept g =
      here
      ∙ ap ops_text (tidy-kept (kept c) (c.factors + k) (get_or c.ops k d) (drop (suc k) (operations c)) (kept-used c _ (marked-is g)))
      ∙ ap₂ (λ (o : Op) (t : List ℕ). line_text (text_line_of o) ++ t) op-moved after

  pub left-dropped : get_or marks (c.factors + k + 1) false ≡ false → left c k ≡ left c (k + 1)
  left-dropped g =
      here
      ∙ ap ops_text (tidy-dropped (kept c) (c.factors + k) (get_or c.ops k d) (drop (suc k) (operations c)) (is-dropped g))
      ∙ after

-- ---- the whole text, in 1,266 bytes
-- the first n bytes of b are the text t
pub record Fits (t b : List ℕ) (n : ℕ) : Type 0 where
  pub long : n ≡ length t
  pub front : take n b ≡ t

module _ (c : Codelist) (w : WellFormed c) where
  -- it is no longer
  pub text-fits : length (text_of (tidied c)) ≤ 1266
  text-fits = text-length (tidied c) (tidied-fine c w) (text_of (tidied c)) (own-text (tidied c))

  -- put into an array of so many bytes, it stands at the front
  pub in_array : (a b : List ℕ) (n : ℕ) → length a ≡ 1266 → lent b n ≡ put_text (lent a 0) (text_of (tidied c)) → Fits (text_of (tidied c)) b n
  in_array a b n l e =
      let t = text_of (tidied c) in
      let f = e ∙ filled a t (omega (arith, text-fits)) in
      let long : n ≡ length t = ap (λ (o : Lent). o.at) f in
      let bytes : b ≡ t ++ drop (length t) a = ap (λ (o : Lent). o.bytes) f in
      record { long = long; front = ap (take n) bytes ∙ take_at t (drop (length t) a) n (sym long) }

  pub whole : (o : Lent) (k : ℕ) → c.count ≤ k → put_text o (left c k) ≡ put_text (lent (replicate 1266 0) 0) (text_of (tidied c))
      → take o.at o.bytes ≡ text_of (tidied c)
  unfolding put_text
  whole o k h e = (in_array (replicate 1266 0) o.bytes o.at refl (sym (ap (put_text o) (left_end c w k h)) ∙ e)).front

-- ---- a text of n bytes, for a buffer of k
module _ (t : List ℕ) (k n : ℕ) (e : n ≡ length t) where
  -- it is too short
  pub no_room : k < n → Refused Short ≡ fitted t k
  no_room h = rw (lt-leb (length t) k (omega arith))

  -- it is long enough
  pub has_room : n ≤ k → Written n ≡ fitted t k
  has_room h = rw (le-leb (length t) k (omega arith)) (ap Written e)
