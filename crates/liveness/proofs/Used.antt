-- The lines that are used, by computing and by the two rules: `computed`; and that what a kept line refers to is kept: `closed`. Assumes nothing.
use Prim.Native.Nat.{ℕ, suc, ◌+◌, ◌-◌, ◌≤◌, ◌<◌}
use mathlib.Core.Bool.{Bool, true, ◌&&◌}
use mathlib.Core.List.{List, [], ◌∷◌}
use mathlib.Core.Logic.{◌⊎◌, inl, inr, ⊎_elim, ◌↔◌}
use mathlib.Core.Path.{◌≡◌, ap, subst, ◌∙◌}
use native.Mathlib.Omega.{arith}
use lib.Dec.{leb}
use lib.ListN.{length, get_or}
use borrow.Author.Tests.{eq-eqb, eqb-true, le-leb, lt-leb}
use Rattle.codelist.specs.declared.Codelist.{Codelist}
use Rattle.codelist.specs.declared.Entry.{Entry}
use Rattle.codelist.specs.declared.Op.{Op}
use Rattle.codelist.specs.Codelist.{blank, Earlier, WellFormedOp, WellFormed}
use Rattle.codelist.proofs.Laws.{both_true, both-made}
use Rattle.codelist.proofs.Ratable.{taken, well-formed-ratable}
use Rattle.rules.specs.Run.{operations}
use Rattle.liveness.specs.Used.{refers_to, lines, op_at, Used, last, through, used_by, used}
use Rattle.liveness.specs.Tidied.{kept}
use Rattle.liveness.proofs.References.{or-inv, or_left, or_right, OfEach, earlier}
use Rattle.liveness.proofs.Operations.{Each, each-fine, each_at}

-- ---- an operation more at the front
module _ (e : ℕ) (o : Entry) (os : List Entry) (i : ℕ) where
  -- used by the later ones, or by this one, which is used
  abbrev ByThis : Type 0
  ByThis = (used_by (suc e) os (suc e) ≡ true) × (refers_to o.op i ≡ true)

  used-inv : used_by e (o ∷ os) i ≡ true → (used_by (suc e) os i ≡ true) ⊎ ByThis
  unfolding used_by
  used-inv h =
      ⊎_elim inl (λ b. inr (both_true (used_by (suc e) os (suc e)) (refers_to o.op i) b))
      (or-inv (used_by (suc e) os i) (used_by (suc e) os (suc e) && refers_to o.op i) h)

  used-later : used_by (suc e) os i ≡ true → used_by e (o ∷ os) i ≡ true
  unfolding used_by
  used-later h = or_left (used_by (suc e) os i) _ h

  used-this : ByThis → used_by e (o ∷ os) i ≡ true
  unfolding used_by
  used-this (p, q) = or_right (used_by (suc e) os i) _ (both-made (used_by (suc e) os (suc e)) (refers_to o.op i) p q)

-- the last line is used, and no line after it
used-last : (e : ℕ) (os : List Entry) → used_by e os (e + length os) ≡ true
unfolding used_by
used-last e [] = eq-eqb (e + 0) e (omega arith)
used-last e (o ∷ os) =
    let a : e + suc (length os) ≡ suc e + length os = omega arith in
    used-later e o os (e + suc (length os)) (rw a (used-last (suc e) os))

used-most : (e : ℕ) (os : List Entry) (i : ℕ) → Each WellFormedOp e os → used_by e os i ≡ true → i ≤ e + length os
unfolding used_by
used-most e [] i w h = omega (arith, eqb-true i e h)
used-most e (o ∷ os) i w h =
    ⊎_elim
    (λ a. omega (arith, used-most (suc e) os i w.1 a))
    (λ b. omega (arith, (earlier e o.op w.0 i b.1).1))
    (used-inv e o os i h)

-- ---- what a kept line refers to is kept, and earlier
abbrev pub ClosedOp : (ℕ → Bool) → ℕ → Op → Type 0
ClosedOp k e o = k (suc e) ≡ true → OfEach (λ i. (k i ≡ true) × Earlier e i) o

-- where k says of the lines from e + 1 on that they are used, and of every used line
closed-from : (k : ℕ → Bool) (e : ℕ) (os : List Entry) → Each WellFormedOp e os
    → ((i : ℕ) → used_by e os i ≡ true → k i ≡ true) → ((i : ℕ) → e < i → k i ≡ true → used_by e os i ≡ true) → Each (ClosedOp k) e os
closed-from k e [] w up down = tt
closed-from k e (o ∷ os) w up down = (
  λ g i r. (up i (used-this e o os i (this (used-inv e o os (suc e) (down (suc e) (omega arith) g)), r)), back i r),
  closed-from k (suc e) os w.1
      (λ i h. up i (used-later e o os i h))
      (λ i p g. ⊎_elim (λ a. a) (λ b. absurd (omega (arith, (back i b.1).1))) (used-inv e o os i (down i (omega arith) g))),
)
  where
    back : OfEach (Earlier e) o.op
    back = earlier e o.op w.0

    this : (used_by (suc e) os (suc e) ≡ true) ⊎ ByThis e o os (suc e) → used_by (suc e) os (suc e) ≡ true
    this (inl a) = a
    this (inr b) = b.0

module _ (c : Codelist) where
  pub kept-factor : (i : ℕ) → i ≤ c.factors → kept c i ≡ true
  unfolding kept
  kept-factor i h = or_left (leb i c.factors) (used c i) (le-leb i c.factors h)

  pub kept-used : (i : ℕ) → used c i ≡ true → kept c i ≡ true
  unfolding kept
  kept-used i h = or_right (leb i c.factors) (used c i) h

  pub used-kept : (i : ℕ) → c.factors < i → kept c i ≡ true → used c i ≡ true
  unfolding kept
  used-kept i p h = rw (lt-leb i c.factors p) at h

  module _ (w : WellFormed c) where
    pub counted : length (operations c) ≡ c.count
    counted = taken c (well-formed-ratable w)

    pub fine : Each WellFormedOp c.factors (operations c)
    fine = each-fine c.factors (operations c) w.each

    pub closed : Each (ClosedOp (kept c)) c.factors (operations c)
    unfolding used
    closed = closed-from (kept c) c.factors (operations c) fine kept-used used-kept

    pub last-used : used c (lines c) ≡ true
    unfolding used
    last-used = subst (λ (m : ℕ). used_by c.factors (operations c) (c.factors + m) ≡ true) counted (used-last c.factors (operations c))

    -- ---- by the two rules
    pub most : (i : ℕ) → used c i ≡ true → i ≤ lines c
    unfolding used
    most i h = omega (arith, used-most c.factors (operations c) i fine h, counted)

    used-of : (i : ℕ) → Used c i → used c i ≡ true
    unfolding used
    used-of i last = last-used
    used-of i (through {k} u p r) = go (used-of k u)
      where
        go : used c k ≡ true → used c i ≡ true
        go g =
            let a : suc (k - 1) ≡ k = omega arith in
            let q : k ≤ c.factors + length (operations c) = omega (arith, most k g, counted) in
            let all = closed-from (used c) c.factors (operations c) fine (λ i h. h) (λ i p h. h) in
            (each_at (ClosedOp (used c)) blank c.factors (operations c) all k p q (rw a g) i r).0

    of-used : (e : ℕ) (os : List Entry) → c.factors ≤ e → e + length os ≡ lines c
        → ((j : ℕ) → get_or os j blank ≡ get_or (operations c) (e - c.factors + j) blank) → (i : ℕ) → used_by e os i ≡ true → Used c i
    unfolding used_by
    of-used e [] p q h i u = let a : lines c ≡ i = omega (arith, eqb-true i e u) in subst (Used c) a last
    of-used e (o ∷ os) p q h i u =
        step
        (of-used (suc e) os (omega arith) (omega arith)
        (λ j. let a : suc e - c.factors + j ≡ e - c.factors + suc j = omega arith in h (suc j) ∙ rw a))
      where
        here : o.op ≡ op_at c (suc e)
        here =
            let a : e - c.factors + 0 ≡ suc e - c.factors - 1 = omega arith in
            ap (λ (x : Entry). x.op) (h 0 ∙ ap (λ (m : ℕ). get_or (operations c) m blank) a)

        step : ((i : ℕ) → used_by (suc e) os i ≡ true → Used c i) → Used c i
        step later =
            ⊎_elim (later i) (λ b. through (later (suc e) b.0) (omega arith) (rw here at b.1)) (used-inv e o os i u)

    pub computed : (i : ℕ) → (used c i ≡ true) ↔ Used c i
    unfolding used
    computed i = (
      of-used c.factors (operations c) (omega arith) (omega (arith, counted)) (λ j. let a : c.factors - c.factors + j ≡ j = omega arith in rw a) i,
      used-of i,
    )
