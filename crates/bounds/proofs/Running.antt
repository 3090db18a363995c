-- The run over the lines of a codelist: what is left to do is what was to do. Assumes nothing.
use mathlib.Core.Path.{◌≡◌, refl, sym, ap, ap₂, subst, ◌∙◌}
use mathlib.Core.Bool.{Bool, true, false, cond}
use mathlib.Core.List.{List, [], ◌∷◌, ◌++◌}
use mathlib.Core.Logic.{◌⊎◌, inl, inr}
use Prim.Native.Nat.{ℕ, zero, suc, ◌+◌, ◌-◌, ◌*◌, ◌≤◌, ◌<◌}
use native.Mathlib.Nat as N
use native.Mathlib.Numerals.{add-one}
use native.Mathlib.Omega.{arith}
use borrow.Author.Count.{below_more}
use Rattle.std.specs.Prelude.{Option, Some, None}
use lib.IntN.{ℤ, pos}
use lib.ListN.{length, get_or, drop, replicate, drop_of_length-le}
use lib.Seq.{drop-cons, get_or-take, length-take-le}
use Rattle.range.specs.declared.Range.{Range}
use Rattle.range.specs.Arithmetic.{holds_zero}
use Rattle.codelist.specs.declared.Op.{Op}
use Rattle.codelist.specs.declared.Op.TheVariants.{Inv}
use Rattle.codelist.specs.declared.Entry.{Entry}
use Rattle.codelist.specs.declared.Codelist.{Codelist}
use Rattle.codelist.specs.Codelist.{Earlier, well_formed_op, well_formed_ops, in_bounds, ratable}
use Rattle.codelist.proofs.Ratable as W
use Rattle.rules.specs.declared.Line.{Line}
use Rattle.rules.specs.declared.Refusal.TheVariants.{Divisor, Overflow}
use Rattle.rules.specs.Table.{Row, line_of}
use Rattle.rules.specs.Run.{no_line, line, row_of, inverts_zero, within, Lines, stopped, run_ops, factor_lines, always_bent, operations, lines_of}
use Rattle.rules.specs.Rate.{last, limits_of, rated, refused, finished}
use Rattle.bounds.specs.Terms.{Fine}
use Rattle.bounds.specs.declared.table.Table.{Table}
use Rattle.bounds.specs.Table.{value_at, gradient_at, line_at, Refers, lines_up_to, Ready, Started, Placed, Worked}
use Rattle.bounds.proofs.Pairs.{same-ranges}

-- ---- the first lines of a table
module _ (t : Table) where
  pub up-to-long : (k : ℕ) → length (lines_up_to t k) ≡ k
  unfolding lines_up_to
  up-to-long zero = refl
  up-to-long (suc k) = length_more (lines_up_to t k) (line_at t k) ∙ ap suc (up-to-long k)
    where
      length_more : (ls : List Line) (l : Line) → length (ls ++ (l ∷ [])) ≡ suc (length ls)
      length_more [] l = refl
      length_more (x ∷ ls) l = ap suc (length_more ls l)

  get_d-before : (ls : List Line) (l d : Line) (m : ℕ) → m < length ls → get_or (ls ++ (l ∷ [])) m d ≡ get_or ls m d
  get_d-before [] l d m h = absurd (omega arith)
  get_d-before (x ∷ ls) l d zero h = refl
  get_d-before (x ∷ ls) l d (suc m) h = get_d-before ls l d m (omega arith)

  get_d-last : (ls : List Line) (l d : Line) → get_or (ls ++ (l ∷ [])) (length ls) d ≡ l
  get_d-last [] l d = refl
  get_d-last (x ∷ ls) l d = get_d-last ls l d

  pub up-to-at : (k m : ℕ) (d : Line) → m < k → get_or (lines_up_to t k) m d ≡ line_at t m
  unfolding lines_up_to
  up-to-at zero m d h = absurd (omega arith)
  up-to-at (suc k) m d h = go (N.eq-or-lt_of_le (N.le_of_suc-le-suc h)) (λ l. up-to-at k m d l)
    where
      go : (m ≡ k) ⊎ (m < k) → (m < k → get_or (lines_up_to t k) m d ≡ line_at t m)
          → get_or (lines_up_to t k ++ (line_at t k ∷ [])) m d ≡ line_at t m
      go (inr l) before = get_d-before (lines_up_to t k) (line_at t k) d m (omega (arith, up-to-long k)) ∙ before l
      go (inl e) before =
          ap (λ (n : ℕ). get_or (lines_up_to t k ++ (line_at t k ∷ [])) n d) (e ∙ sym (up-to-long k))
          ∙ get_d-last (lines_up_to t k) (line_at t k) d
          ∙ ap (line_at t) (sym e)

  pub up-to-last : (k : ℕ) → last (lines_up_to t (suc k)) ≡ line_at t k
  unfolding lines_up_to last
  up-to-last k = go (lines_up_to t k)
    where
      go : (ls : List Line) → last (ls ++ (line_at t k ∷ [])) ≡ line_at t k
      go [] = refl
      go (x ∷ []) = refl
      go (x ∷ y ∷ ls) = go (y ∷ ls)

-- another table with the same first lines
pub up-to-same : (u t : Table) (k : ℕ) → ((q : ℕ) → q < k → line_at u q ≡ line_at t q)
    → lines_up_to u k ≡ lines_up_to t k
unfolding lines_up_to
up-to-same u t zero h = refl
up-to-same u t (suc k) h =
    ap₂ (λ (ls : List Line) (l : Line). ls ++ (l ∷ [])) (up-to-same u t k (λ q l. h q (omega arith))) (h k (omega arith))

-- ---- lines that an operation refers to: the line j, counted from 1, stands at m
pub refers-to : (t : Table) (k j m : ℕ) → Earlier k j → m ≡ j - 1 → line_at t m ≡ line (lines_up_to t k) j
refers-to t k j m r e = ap (line_at t) e ∙ sym (up-to-at t k (j - 1) no_line (omega (arith, r)))

pub indexed : (k j : ℕ) → k < 64 → Earlier k j → (1 ≤ j) × (j ≤ 64)
indexed k j h r = (r.0, omega (arith, r))

-- a row of the lines that stand in the table is one of the lines before
module _ {t : Table} {k : ℕ} {ok : Option (List Range)} {u : Table} where
  pub worked-of : {A : Type 0} (row : Line → A → Row) (a : A) (j m : ℕ) → Earlier k j → m ≡ j - 1
      → Worked (row (line_at t m) a) t k ok u → Worked (row (line (lines_up_to t k) j) a) t k ok u
  worked-of row a j m r e = subst (λ (x : Line). Worked (row x a) t k ok u) (refers-to t k j m r e)

  pub worked-of-two : (row : Line → Line → Row) (i j m n : ℕ) → Earlier k i × Earlier k j → m ≡ i - 1 → n ≡ j - 1
      → Worked (row (line_at t m) (line_at t n)) t k ok u
      → Worked (row (line (lines_up_to t k) i) (line (lines_up_to t k) j)) t k ok u
  worked-of-two row i j m n r e f w =
      worked-of row (line (lines_up_to t k) j) i m r.0 e (worked-of (λ (y x : Line). row x y) (line_at t m) j n r.1 f w)

pub inverts-at : (t : Table) (k j m : ℕ) → Earlier k j → m ≡ j - 1
    → holds_zero (value_at t m) ≡ inverts_zero (Inv j) (lines_up_to t k)
unfolding inverts_zero
inverts-at t k j m r e = ap (λ (l : Line). holds_zero l.value) (refers-to t k j m r e)

module _ (t : Table) (k : ℕ) (i : Ready t k) where
  pub refers : (j m : ℕ) → Earlier k j → m ≡ j - 1 → Refers t m k
  refers j m r e = record { earlier = omega (arith, r); fine = i.fine m (omega (arith, r)) }

-- an empty table: no line is there, and no slope is written
pub ready-none : (t : Table) (n : ℕ) → t.numbers ≡ replicate n (pos 0) → Ready t 0
ready-none t n e = record {
  fine = λ j h. absurd (omega arith);
  blank = λ j h. same-ranges t.numbers [] (20 * j + 4) (λ m l q. ap (λ (l : List ℤ). get_or l m (pos 0)) e ∙ zeros n m);
}
  where
    zeros : (n m : ℕ) → get_or (replicate n (pos 0)) m (pos 0) ≡ pos 0
    zeros zero m = refl
    zeros (suc n) zero = refl
    zeros (suc n) (suc m) = zeros n m

-- the table after the line k has been worked out
module _ {t u : Table} (k : ℕ) (l : Line) (i : Ready t k) (p : Placed l t k u) where
  same-before : (q : ℕ) → q < k → line_at u q ≡ line_at t q
  same-before q h = p.others q (λ e. omega arith)

  pub ready-more : Fine l → Ready u (k + 1)
  ready-more f = record {
    fine = below_more _ _ (λ j h. subst Fine (sym (same-before j h)) (i.fine j h)) (subst Fine (sym p.line) f);
    blank = λ j h. ap (λ (x : Line). x.gradient) (p.others j (λ e. omega arith)) ∙ i.blank j (omega arith);
  }

  pub lines_more : lines_up_to u (k + 1) ≡ lines_up_to t k ++ (l ∷ [])
  unfolding lines_up_to
  lines_more =
      ap (lines_up_to u) (add-one k)
      ∙ ap₂ (λ (ls : List Line) (x : Line). ls ++ (x ∷ [])) (up-to-same u t k same-before) p.line

-- the same after a row: its answer tells whether all ranges of its line are valid
module _ {row : Row} {t : Table} {k : ℕ} {u : Table} where
  pub row-stops : Worked row t k None u → within (line_of row) ≡ false
  row-stops w = go (within (line_of row)) refl w.settled.answer
    where
      go : (b : Bool) → within (line_of row) ≡ b → None ≡ cond b (Some (line_of row).gradient) None → within (line_of row) ≡ false
      go true v e = absurd (cc)
      go false v e = v

  module _ {g : List Range} (w : Worked row t k (Some g) u) where
    row-answer : (within (line_of row) ≡ true) × (g ≡ (line_of row).gradient)
    row-answer = go (within (line_of row)) refl w.settled.answer
      where
        go : (b : Bool) → within (line_of row) ≡ b → Some g ≡ cond b (Some (line_of row).gradient) None
            → (within (line_of row) ≡ true) × (g ≡ (line_of row).gradient)
        go true v e = (v, (cc))
        go false v e = absurd (cc)

    pub row-goes : within (line_of row) ≡ true
    row-goes = row-answer.0

    pub row-fine : Fine (line_of row)
    row-fine = w.fine row-goes

    pub row-placed : Placed (line_of row) t k u
    row-placed = record { line = w.settled.line row-goes; others = w.settled.others }

    pub row-slopes : g ≡ gradient_at u (k + 1 - 1)
    row-slopes =
        let here : k ≡ k + 1 - 1 = omega arith in
        row-answer.1 ∙ sym (ap (λ (l : Line). l.gradient) (w.settled.line row-goes)) ∙ ap (gradient_at u) here

-- ---- the lines of the operations
-- what is known once the counts have been tested
pub record Fits (c : Codelist) : Type 0 where
  pub fits : in_bounds c ≡ true
  pub array : length c.ops ≡ 64

module _ {c : Codelist} (n : Fits c) where
  pub counts : W.Counts c
  counts = W.counts c n.fits

  enough : c.count ≤ length c.ops
  enough = omega (arith, n.array, counts.few)

  all-long : length (operations c) ≡ c.count
  all-long = length-take-le c.count c.ops enough

module _ (c : Codelist) (rs : List Range) where
  pub record Ran (t : Table) (k : ℕ) : Type 0 where
    pub todo : run_ops (drop (k - c.factors) (operations c)) (lines_up_to t k) ≡ lines_of c rs
    pub untested : well_formed_ops (c.factors + (k - c.factors)) (drop (k - c.factors) (operations c)) ≡ ratable c

  pub ran-start : (t : Table) (k : ℕ) {b : ℕ} → Fits c → k ≡ c.factors → b ≡ always_bent c → Started (factor_lines b 0 rs) k t → Ran t k
  unfolding lines_of
  ran-start t k n e bent i =
      let none : k - c.factors ≡ 0 = omega arith in
      let all : c.factors + (k - c.factors) ≡ c.factors = omega arith in
      record {
        todo = ap₂ (λ (j : ℕ) (l : List Line). run_ops (drop j (operations c)) l) none (i.lines ∙ ap (λ (b : ℕ). factor_lines b 0 rs) bent);
        untested = ap₂ (λ (j m : ℕ). well_formed_ops m (drop j (operations c))) none all ∙ W.by-operations c n.fits n.array;
      }

-- ---- the end: no operation is left
module _ {c : Codelist} {rs : List Range} {t : Table} {k : ℕ} (n : Fits c) (p : Ran c rs t k) (none : k ≡ c.factors + c.count) where
  pub ran-ratable : ratable c ≡ true
  ran-ratable =
      sym p.untested ∙ W.ops-end c.factors c.count c.ops (enough n) (k - c.factors) (omega (arith, none))

  pub ran-end : rated (limits_of c.factors (line_at t (k - 1))) ≡ finished c.factors (lines_of c rs)
  unfolding run_ops
  ran-end =
      let done : length (operations c) ≤ k - c.factors = omega (arith, all-long n, none) in
      let all = ap (λ (os : List Entry). run_ops os (lines_up_to t k)) (drop_of_length-le (operations c) done) in
      let e : k ≡ suc (k - 1) = omega (arith, (counts n).some, none) in
      ap (λ (l : Line). rated (limits_of c.factors l)) (sym (ap (λ (n : ℕ). last (lines_up_to t n)) e ∙ up-to-last t (k - 1)))
      ∙ ap (finished c.factors) (sym all ∙ p.todo)

-- ---- a turn: an operation is left, which is read with any d in place of what would be past the array's end
module _ {c : Codelist} {rs : List Range} {t : Table} {k : ℕ} (n : Fits c) (p : Ran c rs t k) (from : c.factors ≤ k) (left : k < c.factors + c.count) (d : Entry)
  where
    -- its index, and that of the next one
    room : k - c.factors < c.count
    room = omega (arith, from, left)

    at : c.factors + (k - c.factors) ≡ k
    at = omega (arith, from)

    after : k + 1 - c.factors ≡ k - c.factors + 1
    after = omega (arith, from)

    abbrev before : List Line
    before = lines_up_to t k

    -- the operation
    abbrev op : Op
    op = (get_or c.ops (k - c.factors) d).op

    -- 10
    tested : well_formed_op (c.factors + (k - c.factors)) op ≡ well_formed_op k op
    tested = ap (λ (m : ℕ). well_formed_op m op) at

    pub ran-no-codelist : well_formed_op k op ≡ false → ratable c ≡ false
    ran-no-codelist f =
        sym p.untested ∙ W.ops-fail c.factors c.count c.ops (enough n) (k - c.factors) d room (tested ∙ f)

    passed : well_formed_op k op ≡ true → well_formed_ops (c.factors + (k + 1 - c.factors)) (drop (k + 1 - c.factors) (operations c)) ≡ ratable c
    passed f =
        ap (λ (m : ℕ). well_formed_ops (c.factors + m) (drop m (operations c))) after
        ∙ W.ops-pass c.factors c.count c.ops (enough n) (k - c.factors) d room (tested ∙ f)
        ∙ p.untested

    next : drop (k - c.factors) (operations c) ≡ (get_or c.ops (k - c.factors) d ∷ drop (k + 1 - c.factors) (operations c))
    next =
        drop-cons (operations c) (k - c.factors) d (omega (arith, room, all-long n))
        ∙ ap₂ (λ (o : Entry) (n : ℕ). o ∷ drop n (operations c)) (get_or-take c.count c.ops (k - c.factors) d room)
        (sym (after ∙ add-one (k - c.factors)))

    abbrev new : Line
    new = line_of (row_of op before)

    -- what the operation leads to, as line n, counted from 1
    abbrev outcome : ℕ → Lines
    outcome n =
        cond (inverts_zero op before) (stopped (Divisor n))
        (cond (within new) (run_ops (drop (k + 1 - c.factors) (operations c)) (before ++ (new ∷ []))) (stopped (Overflow n)))

    step : lines_of c rs ≡ outcome (k + 1)
    unfolding run_ops
    step =
        sym p.todo
        ∙ ap (λ (os : List Entry). run_ops os before) next
        ∙ ap outcome (ap suc (up-to-long t k) ∙ sym (add-one k))

    -- 11
    pub ran-divisor : inverts_zero op before ≡ true → refused (Divisor (k + 1)) ≡ finished c.factors (lines_of c rs)
    ran-divisor f =
        let e : lines_of c rs ≡ stopped (Divisor (k + 1)) = step ∙ rw f in
        ap (finished c.factors) (sym e)

    module _ (apart : inverts_zero op before ≡ false) (u : Table) where
      -- 12
      pub ran-overflow : Worked (row_of op before) t k None u → refused (Overflow (k + 1)) ≡ finished c.factors (lines_of c rs)
      ran-overflow w =
          let e : lines_of c rs ≡ stopped (Overflow (k + 1)) = step ∙ rw (apart, row-stops w) in
          ap (finished c.factors) (sym e)

      pub ran-more : (g : List Range) → Ready t k → well_formed_op k op ≡ true → Worked (row_of op before) t k (Some g) u → Ran c rs u (k + 1)
      ran-more g i f w =
          let placed = row-placed w in
          record {
            todo = ap (run_ops (drop (k + 1 - c.factors) (operations c))) (lines_more k new i placed) ∙ sym (step ∙ rw (apart, row-goes w));
            untested = passed f;
          }
