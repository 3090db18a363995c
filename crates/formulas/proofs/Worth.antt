-- What a formula's sheet is worth: at every point the last of its lines has the formula's value, and none where the formula has none.
use Prim.Native.Nat.{ℕ, suc, zero, ◌+◌, ◌-◌, ◌≤◌, ◌<◌}
use mathlib.Core.List.{List, [], ◌∷◌, ◌++◌, append_assoc, append-nil, map-append}
use mathlib.Core.Option.{Option, none, some}
use mathlib.Core.Path.{◌≡◌, refl, sym, ap, ap₂, subst, ◌∙◌}
use native.Mathlib.Decide.{dec_lt}
use native.Mathlib.Nat.{add-zero}
use native.Mathlib.Omega.{arith}
use lib.IntN.{pos}
use lib.ListN.{length, length-map}
use lib.Seq.{take-append_seam}
use borrow.Author.Tests.{le-leb, lt-leb}
use Rattle.codelist.specs.declared.Entry.{Entry}
use Rattle.codelist.specs.declared.Year.{Year}
use Rattle.codelist.specs.Codelist.{WellFormedOp, WellFormedOps}
use Rattle.codelist.specs.Load as load
use Rattle.codelist.specs.Load.{codelist_of, op_of}
use Rattle.codelist.specs.Text.{TextLine}
use Rattle.algebra.proofs.Ring as Ring
use Rattle.exact.specs.Rat.{ℚ, ◌+ℚ◌, ◌*ℚ◌, ◌^ℚ◌, neg_ℚ, 1ℚ, recip}
use Rattle.exact.specs.Units.{units}
use Rattle.exact.proofs.Rat.{ℚ-ring, +ℚ-comm, *ℚ-comm, *ℚ-one}
use Rattle.exact.proofs.Units.{units-neg, units-1}
use Rattle.rules.specs.Exact.{Point, coordinate, Jet, factor_jets, exact_ops, exact_lines, premium_of}
use Rattle.formulas.specs.Grammar.{Tree, Sign, plus, minus, times, over}
use Rattle.formulas.specs.Value.{also, combined, value_of, premium_value}
use Rattle.formulas.specs.Convert.{reference, minus_one, negated, Operand, fixed, line, Conversion, operand, mixed, next, one, joined}
use Rattle.formulas.specs.Convert.{raised, convert}
use Rattle.formulas.proofs.Conversions.{Parts, by_parts}
use Rattle.formulas.proofs.Loading.{entry_of, ops_of}
use Rattle.formulas.proofs.LineValues.{op_worth, worth_in, run-append, run_length, earlier-kept, line-worth, factors-length, factor-worth, last_line}
use Rattle.formulas.proofs.Mixing.{last-operand}

-- ════ numbers ════

-- times −1
minus-one : (x : ℚ) → x *ℚ units (load.value_of minus_one) ≡ neg_ℚ x
unfolding load.value_of
minus-one x =
    ap (λ (z : ℚ). x *ℚ z) (sym (units-neg (pos 10_000)) ∙ ap neg_ℚ units-1) ∙ Ring.mul-neg ℚ-ring x 1ℚ ∙ ap neg_ℚ (*ℚ-one x)

-- a subtracted constant
subtracted : (c : ℕ) → units (load.value_of (negated c)) ≡ neg_ℚ (units (pos c))
unfolding load.value_of negated
subtracted zero = sym (units-neg (pos 0))
subtracted (suc c) = sym (units-neg (pos (suc c)))

also-same : (o : Option ℚ) {f g : ℚ → Option ℚ} → ((x : ℚ) → f x ≡ g x) → also o f ≡ also o g
also-same none h = refl
also-same (some x) h = h x

-- what is made of the value w, which is made of o
also-through : (w o : Option ℚ) (f g : ℚ → Option ℚ) {h : ℚ → Option ℚ} → w ≡ also o f → ((x : ℚ) → also (f x) g ≡ h x) → also w g ≡ also o h
also-through w none f g e k = rw e
also-through w (some x) f g e k = rw e (k x)

-- two operands and a sign
abbrev both : Sign → Option ℚ → Option ℚ → Option ℚ
both o v w = also v (λ x. also w (λ y. combined o x y))

-- ════ the lines of a sheet ════

-- a line behind the lines js is well formed where all are
well-at : (e : ℕ) (js : List TextLine) (l : TextLine) (rest : List TextLine) → WellFormedOps e (ops_of (js ++ (l ∷ rest)))
    → WellFormedOp (e + length js) (op_of l)
well-at e [] l rest h = rw add-zero h.0
well-at e (k ∷ js) l rest h =
    subst (λ (i : ℕ). WellFormedOp i (op_of l)) (omega arith) (well-at (e + 1) js l rest h.1)

-- all codelist lines, factors included
run : Point → ℕ → List TextLine → List (Option Jet)
run p n ls = exact_ops (ops_of ls) (factor_jets p 0 n)

run-lines : (p : Point) (n : ℕ) (ls : List TextLine) → length (run p n ls) ≡ n + length ls
unfolding run
run-lines p n ls = run_length (ops_of ls) (factor_jets p 0 n) ∙ rw (factors-length p 0 n, length-map ls entry_of)

module _ (p : Point) (n : ℕ) (all : List TextLine) (well : WellFormedOps n (ops_of all)) where
  -- codelist line i, in the end
  worth : ℕ → Option ℚ
  worth i = worth_in (run p n all) i

  -- the sheet begins so
  abbrev Begins : List TextLine → Type 0
  Begins ks = (rest : List TextLine) × (all ≡ ks ++ rest)

  -- one of its lines, behind the lines js
  record At (js : List TextLine) (l : TextLine) : Type 0 where
    before : Begins js
    back : WellFormedOp (n + length js) (op_of l)
    is : worth (next n js) ≡ op_worth worth (op_of l)

  at : (js : List TextLine) (l : TextLine) → Begins (js ++ (l ∷ [])) → At js l
  unfolding worth run
  at js l (rest, e) =
      let f : all ≡ js ++ (l ∷ rest) = e ∙ append_assoc js (l ∷ []) rest in
      let k : WellFormedOp (n + length js) (op_of l) = well-at n js l rest (rw f at well) in
      let r : run p n all ≡ exact_ops (entry_of l ∷ ops_of rest) (run p n js) =
      ap (run p n) f ∙ ap (λ (os : List Entry). exact_ops os (factor_jets p 0 n)) (map-append entry_of js (l ∷ rest))
      ∙ run-append (ops_of js) (entry_of l ∷ ops_of rest) _ in
      record {
        before = (l ∷ rest, f);
        back = k;
        is = subst (λ (xs : List (Option Jet)). worth_in xs (next n js) ≡ op_worth (worth_in xs) (op_of l)) (sym r)
            (rw (run-lines p n js) at (line-worth (entry_of l) (ops_of rest) (run p n js) (rw (run-lines p n js) k)));
      }

  -- ════ operands ════

  abbrev val : Operand → Option ℚ
  val (fixed c) = some (units (pos c))
  val (line i) = worth i

  -- a factor beyond the count is reference 0, which loading refuses
  abbrev Refers : Operand → Type 0
  Refers (fixed c) = Unit
  Refers (line i) = 1 ≤ i

  -- The conversion c is behind the lines js, in a sheet where R holds, and is worth v
  abbrev Yields : List TextLine → Type 0 → Option ℚ → Conversion → Type 0
  Yields js R v (operand x ks) = Begins ks → Begins js × R × (Refers x → val x ≡ v)
  Yields js R v mixed = Unit

  one_line : {R : Type 0} {v : Option ℚ} (js : List TextLine) (l : TextLine) → (WellFormedOp (n + length js) (op_of l) → R)
      → op_worth worth (op_of l) ≡ v → Yields js R v (one n js l)
  one_line js l f e b = let a = at js l b in (a.before, f a.back, λ _. a.is ∙ e)

  -- the second line uses the first
  two-lines : {R : Type 0} {v : Option ℚ} (js : List TextLine) (l m : TextLine)
      → (WellFormedOp (n + length js) (op_of l) → WellFormedOp (n + length (js ++ (l ∷ []))) (op_of m) → R)
      → (worth (next n js) ≡ op_worth worth (op_of l) → op_worth worth (op_of m) ≡ v) → Yields js R v (one n (js ++ (l ∷ [])) m)
  two-lines js l m f e b =
      let c = at (js ++ (l ∷ [])) m b in
      let a = at js l c.before in
      (a.before, f a.back c.back, λ _. c.is ∙ e a.is)

  joined-worth : (js : List TextLine) (o : Sign) (x y : Operand) → Yields js (Refers x × Refers y) (both o (val x) (val y)) (joined n o x y js)
  unfolding load.value_of
  joined-worth js plus (line i) (line j) = one_line js _ (λ k. (k.0.0, k.1.0)) refl
  joined-worth js plus (line i) (fixed c) = one_line js _ (λ k. (k.0.0, tt)) refl
  joined-worth js plus (fixed c) (line j) = one_line js _ (λ k. (tt, k.0.0)) (also-same (worth j) (λ y. ap some (+ℚ-comm y _)))
  joined-worth js plus (fixed c) (fixed e) = tt
  joined-worth js minus (line i) (line j) =
      two-lines js _ _ (λ k m. (m.0.0, k.0.0)) (λ e.
      also-same (worth i) (λ x. also-through _ (worth j) _ _ e (λ y. ap (λ (z : ℚ). some (x +ℚ z)) (minus-one y))))
  joined-worth js minus (line i) (fixed c) = one_line js _ (λ k. (k.0.0, tt)) (rw (subtracted c))
  joined-worth js minus (fixed c) (line j) =
      two-lines js _ _ (λ k m. (tt, k.0.0)) (λ e.
      also-through _ (worth j) _ _ e (λ y. ap some (ap (λ (z : ℚ). z +ℚ units (pos c)) (minus-one y) ∙ +ℚ-comm (neg_ℚ y) _)))
  joined-worth js minus (fixed c) (fixed e) = tt
  joined-worth js times (line i) (line j) = one_line js _ (λ k. (k.0.0, k.1.0)) refl
  joined-worth js times (line i) (fixed c) = one_line js _ (λ k. (k.0.0, tt)) refl
  joined-worth js times (fixed c) (line j) = one_line js _ (λ k. (tt, k.0.0)) (also-same (worth j) (λ y. ap some (*ℚ-comm y _)))
  joined-worth js times (fixed c) (fixed e) = tt
  joined-worth js over (line i) (line j) =
      two-lines js _ _ (λ k m. (m.0.0, k.0)) (λ e. also-same (worth i) (λ x. also-through _ (worth j) recip _ e (λ y. refl)))
  joined-worth js over (line i) (fixed c) = tt
  joined-worth js over (fixed c) (line j) =
      two-lines js _ _ (λ k m. (tt, k.0)) (λ e. also-through _ (worth j) recip _ e (λ y. also-same (recip y) (λ z. ap some (*ℚ-comm z _))))
  joined-worth js over (fixed c) (fixed e) = tt

  raised-worth : (js : List TextLine) (x : Operand) (m : ℕ) → Yields js (Refers x) (also (val x) (λ z. some (z ^ℚ m))) (raised n x m js)
  raised-worth js (line i) m = one_line js _ (λ k. k.0.0) refl
  raised-worth js (fixed c) m = tt

  -- ════ a tree ════

  -- what is made of conversions that are worth v is worth u, where its operands refer to lines
  behind : (ls js : List TextLine) {R : Type 0} {v u : Option ℚ} (c : Conversion) → Yields js R v c → (Begins js → R → Begins ls × (v ≡ u))
      → Yields ls Unit u c
  behind ls js (operand x ks) y f = λ b.
      let (a, r, e) = y b in
      let (d, q) = f a r in
      (d, tt, λ h. e h ∙ q)
  behind ls js mixed y f = tt

  abbrev Valued : Tree → List TextLine → Conversion → Type 0
  Valued t ls c = Yields ls Unit (value_of t p) c

  factor-valued : (i : ℕ) → 1 ≤ reference n i → worth (reference n i) ≡ some (coordinate p (i - 1))
  unfolding worth run reference
  factor-valued i h = go (dec_lt n i)
    where
      go : Dec (n < i) → worth (reference n i) ≡ some (coordinate p (i - 1))
      go (yes g) = absurd (let e : reference n i ≡ 0 = simp (lt-leb i n g) in omega arith)
      go (no g) =
          let e : reference n i ≡ i = simp (le-leb i n (omega arith)) in
          ap worth e ∙ ap premium_value (earlier-kept (ops_of all) (factor_jets p 0 n) i (omega arith, omega (arith, factors-length p 0 n)))
          ∙ factor-worth p 0 n (i - 1) (omega arith) ∙ ap (λ (j : ℕ). some (coordinate p j)) (omega arith)

  valued-parts : Parts n Valued
  unfolding value_of
  valued-parts = record {
    of-factor = λ i ls b. (b, tt, factor-valued i);
    of-constant = λ w d ls b. (b, tt, λ _. refl);
    of-bracket = λ t ls c h. h;
    of-power = λ t m ls ks x f.
        behind ls ks (raised n x m ks) (raised-worth ks x m) (λ b r.
        let (a, _, e) = f b in
        (a, ap (λ (v : Option ℚ). also v (λ z. some (z ^ℚ m))) (e r)));
    of-join = λ o t u ls ks js x y f g.
        behind ls js (joined n o x y js) (joined-worth js o x y) (λ b r.
        let (a, _, e) = g b in
        let (d, _, k) = f a in
        (d, ap₂ (both o) (k r.0) (e r.1)));
    none-power = λ t m ls h. tt;
    none_left = λ o t u ls h. tt;
    none_right = λ o t u ls ks h. tt;
  }

  whole-worth : (t : Tree) (x : Operand) → convert n t [] ≡ operand x all → 1 ≤ length all → worth (n + length all) ≡ value_of t p
  whole-worth t x e h =
      let v = ((rw e at (by_parts n Valued valued-parts t [])) ([], sym (append-nil all))).2 in
      (rw (last-operand n t x all e h) at v) (omega arith)

-- The exact premium is the last line's
pub sheet-worth : (p : Point) (y : Year) (n : ℕ) (t : Tree) (x : Operand) (ls : List TextLine) → convert n t [] ≡ operand x ls → 1 ≤ length ls
    → WellFormedOps n (ops_of ls) → premium_value (premium_of (codelist_of y n (ops_of ls)) p) ≡ value_of t p
unfolding premium_of exact_lines codelist_of worth run
sheet-worth p y n t x ls e h w =
    rw take-append_seam
    (ap premium_value (last_line (run p n ls) (n + length ls) (omega arith) (run-lines p n ls)) ∙ whole-worth p n ls w t x e h)
