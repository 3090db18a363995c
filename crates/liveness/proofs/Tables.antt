-- Laws of the code's two arrays: the marks from the back, and the new numbers from the front. Assumes nothing.
use Prim.Native.Nat.{ℕ, suc, ◌+◌, ◌-◌, ◌≤◌, ◌<◌}
use mathlib.Core.Bool.{Bool, true, false, ◌&&◌, ◌||◌, or-true, or-false, or_assoc}
use mathlib.Core.List.{List}
use mathlib.Core.Path.{◌≡◌, refl, sym, ap, ap₂, ◌∙◌}
use native.Mathlib.Decide.{ℕ_discrete}
use native.Mathlib.Numerals.{add-one}
use native.Mathlib.Omega.{arith}
use lib.Dec.{eqb, leb}
use lib.ListN.{length, get_or, drop, set, replicate, length-set, get_or-replicate, drop_of_length-le}
use lib.Seq.{drop-cons, set_out, get_or-set_same, get_or-set_other, get_or-take}
use borrow.Author.Tests.{eq-eqb, ne_eqb, le-leb, lt-leb}
use Rattle.codelist.specs.declared.Codelist.{Codelist}
use Rattle.codelist.specs.declared.Entry.{Entry}
use Rattle.codelist.specs.declared.Op.{Op}
use Rattle.codelist.specs.declared.Op.TheVariants.{Add, Mul, AddC, MulC, Pow, Inv}
use Rattle.codelist.specs.Codelist.{WellFormed}
use Rattle.rules.specs.Run.{operations}
use Rattle.liveness.specs.Used.{refers_to, used_by, used}
use Rattle.liveness.specs.Tidied.{position}
use Rattle.liveness.specs.Views.{Marks, mark, marked}
use Rattle.liveness.proofs.Positions.{position-kept, position-dropped, position-least}
use Rattle.liveness.proofs.Used.{counted}

-- ════ the marks ════

-- of a line that the array does not hold
pub mark_out : (xs : List Bool) (i : ℕ) → length xs ≤ i → mark xs i ≡ xs
mark_out xs i h = set_out xs i true h

marks-same : (f g : ℕ → Bool) (xs : List Bool) → ((i : ℕ) → f i ≡ g i) → Marks f xs → Marks g xs
marks-same f g xs h m = record { at = λ i p. m.at i p ∙ h i }

one-mark : (f : ℕ → Bool) (xs : List Bool) (j : ℕ) → length xs ≡ 65 → Marks f xs → Marks (λ i. f i || eqb i j) (mark xs j)
one-mark f xs j n m = record { at = λ i p. go i p (ℕ_discrete i j) }
  where
    go : (i : ℕ) → i ≤ 64 → Dec (i ≡ j) → get_or (set xs j true) i false ≡ (f i || eqb i j)
    go i p (yes e) = ap (λ (m : ℕ). get_or (set xs m true) i false) (sym e) ∙ get_or-set_same xs i true false (omega arith) ∙ rw (eq-eqb i j e, or-true)
    go i p (no e) = get_or-set_other xs j i true false e ∙ m.at i p ∙ rw (ne_eqb i j e, or-false)

two-marks : (f : ℕ → Bool) (xs : List Bool) (j k : ℕ) → length xs ≡ 65 → Marks f xs → Marks (λ i. f i || (eqb i j || eqb i k)) (mark (mark xs j) k)
two-marks f xs j k n m =
    marks-same _ _ _ (λ i. or_assoc (f i) (eqb i j) (eqb i k))
    (one-mark (λ i. f i || eqb i j) (mark xs j) k (length-set xs j true ∙ n) (one-mark f xs j n m))

marked-length : (xs : List Bool) (o : Op) → length xs ≡ 65 → length (marked xs o) ≡ 65
marked-length xs (Add j k) n = length-set (mark xs j) k true ∙ length-set xs j true ∙ n
marked-length xs (Mul j k) n = length-set (mark xs j) k true ∙ length-set xs j true ∙ n
marked-length xs (AddC j c) n = length-set xs j true ∙ n
marked-length xs (MulC j c) n = length-set xs j true ∙ n
marked-length xs (Pow j m) n = length-set xs j true ∙ n
marked-length xs (Inv j) n = length-set xs j true ∙ n

op-marks : (f : ℕ → Bool) (xs : List Bool) (o : Op) → length xs ≡ 65 → Marks f xs → Marks (λ i. f i || refers_to o i) (marked xs o)
op-marks f xs (Add j k) n m = two-marks f xs j k n m
op-marks f xs (Mul j k) n m = two-marks f xs j k n m
op-marks f xs (AddC j c) n m = one-mark f xs j n m
op-marks f xs (MulC j c) n m = one-mark f xs j n m
op-marks f xs (Pow j p) n m = one-mark f xs j n m
op-marks f xs (Inv j) n m = one-mark f xs j n m

-- what the operations from index k on use
abbrev used_from : Codelist → ℕ → ℕ → Bool
used_from c k = used_by (c.factors + k) (drop k (operations c))

used-front : (e : ℕ) (os : List Entry) (k i : ℕ) (d : Entry) → k < length os → used_by e (drop k os) i
    ≡ (used_by (suc e) (drop (suc k) os) i || (used_by (suc e) (drop (suc k) os) (suc e) && refers_to (get_or os k d).op i))
unfolding used_by
used-front e os k i d h = ap (λ (l : List Entry). used_by e l i) (drop-cons os k d h)

-- the marks with the operations from index k on seen
pub record Seen (c : Codelist) (xs : List Bool) (k : ℕ) : Type 0 where
  pub whole : length xs ≡ 65
  pub most : k ≤ c.count
  pub marks : Marks (used_from c k) xs

module _ (c : Codelist) (w : WellFormed c) where
  pub seen_start : Seen c (set (replicate 65 false) (c.factors + c.count) true) c.count
  unfolding used_by
  seen_start = let none : length (operations c) ≤ c.count = omega (arith, counted c w) in record {
    whole = length-set (replicate 65 false) (c.factors + c.count) true;
    most = omega arith;
    marks = rw (drop_of_length-le (operations c) none)
        (one-mark (λ i. false) (replicate 65 false) (c.factors + c.count) refl
        (record { at = λ i p. get_or-replicate 65 i false false (omega arith) }));
  }

  pub seen_all : (xs : List Bool) (k : ℕ) → Seen c xs k → k ≤ 0 → Marks (used c) xs
  unfolding used
  seen_all xs k s h =
      let z : k ≡ 0 = omega arith in
      let a : c.factors + 0 ≡ c.factors = omega arith in
      rw (z, a) at s.marks

  -- one operation, which is line factors + k, more
  module _ (xs : List Bool) (k : ℕ) (s : Seen c xs k) (h : 0 < k) (d : Entry) where
    abbrev op : Op
    op = (get_or c.ops (k - 1) d).op

    abbrev line : ℕ
    line = c.factors + k

    seen_step : (i : ℕ) → used_from c (k - 1) i ≡ (used_from c k i || (used_from c k line && refers_to op i))
    seen_step i =
        let a : suc (k - 1) ≡ k = omega arith in
        let b : suc (c.factors + (k - 1)) ≡ c.factors + k = omega arith in
        used-front (c.factors + (k - 1)) (operations c) (k - 1) i d (omega (arith, counted c w, s.most))
        ∙ ap₂ (λ (e j : ℕ). used_by e (drop j (operations c)) i || (used_by e (drop j (operations c)) e
        && refers_to (get_or (operations c) (k - 1) d).op i)) b a
        ∙ ap (λ (x : Entry). used_from c k i || (used_from c k line && refers_to x.op i))
        (get_or-take c.count c.ops (k - 1) d (omega (arith, s.most)))

    -- its mark says whether the later ones use it
    pub line_at : get_or xs line false ≡ used_from c k line
    line_at = s.marks.at line (omega (arith, w.few, s.most))

    module _ (l : ℕ) (p : l ≡ line) where
      pub seen_used : get_or xs l false ≡ true → Seen c (marked xs op) (k - 1)
      seen_used e = record {
        whole = marked-length xs op s.whole;
        most = omega (arith, s.most);
        marks = marks-same _ _ _ (λ i. sym (seen_step i ∙ rw (sym line_at ∙ rw p at e))) (op-marks (used_from c k) xs op s.whole s.marks);
      }

      pub seen_unused : get_or xs l false ≡ false → Seen c xs (k - 1)
      seen_unused e = record {
        whole = s.whole;
        most = omega (arith, s.most);
        marks = marks-same _ _ _ (λ i. sym (seen_step i ∙ rw (sym line_at ∙ rw p at e, or-false))) s.marks;
      }

-- ════ the new numbers ════

-- line i is kept
abbrev pub keeps : ℕ → List Bool → ℕ → Bool
keeps n used i = leb i n || get_or used i false

-- of the lines that k keeps
module _ (k : ℕ → Bool) where
  -- the numbers of the lines before line i
  pub record Counted (ns : List ℕ) (next i : ℕ) : Type 0 where
    pub whole : length ns ≡ 65
    pub least : 1 ≤ i
    pub most : i ≤ 65
    pub fewer : next < i
    pub number : next ≡ position k (i - 1)
    pub before : (j : ℕ) → j < i → get_or ns j 0 ≡ position k j

  pub counted_start : Counted (replicate 65 0) 0 1
  unfolding position
  counted_start = record {
    whole = refl;
    least = omega arith;
    most = omega arith;
    fewer = omega arith;
    number = refl;
    before = λ j h. let z : j ≡ 0 = omega arith in rw z;
  }

  module _ (ns : List ℕ) (next i : ℕ) (c : Counted ns next i) (h : i < 65) where
    pub counted_next : (m : ℕ) → m ≡ position k i → Counted (set ns i m) m (i + 1)
    counted_next m e = record {
      whole = length-set ns i m ∙ c.whole;
      least = omega arith;
      most = omega arith;
      fewer = omega (arith, e, position-least k i);
      number = e ∙ (let p : i ≡ i + 1 - 1 = omega arith in ap (position k) p);
      before = λ j p. go j p (ℕ_discrete j i);
    }
      where
        go : (j : ℕ) → j < i + 1 → Dec (j ≡ i) → get_or (set ns i m) j 0 ≡ position k j
        go j p (yes y) = ap (λ (x : ℕ). get_or (set ns i m) x 0) y ∙ get_or-set_same ns i m 0 (omega (arith, c.whole)) ∙ e ∙ ap (position k) (sym y)
        go j p (no y) = get_or-set_other ns i j m 0 y ∙ c.before j (omega arith)

-- and of those that the test keeps
module _ (n : ℕ) (used : List Bool) where
  abbrev k : ℕ → Bool
  k = keeps n used

  module _ (ns : List ℕ) (next i : ℕ) (c : Counted k ns next i) (h : i < 65) where
    before_i : suc (i - 1) ≡ i
    before_i = omega (arith, c.least)

    kept : k i ≡ true → Counted k (set ns i (next + 1)) (next + 1) (i + 1)
    kept g =
        counted_next k ns next i c h (next + 1)
        (rw (add-one next) (ap suc c.number ∙ sym (position-kept k (i - 1) (ap k before_i ∙ g)) ∙ ap (position k) before_i))

    pub counted_factor : i ≤ n → Counted k (set ns i (next + 1)) (next + 1) (i + 1)
    counted_factor l = kept (rw (le-leb i n l))

    pub counted_used : get_or used i false ≡ true → Counted k (set ns i (next + 1)) (next + 1) (i + 1)
    counted_used g = kept (rw (g, or-true))

    pub counted_unused : n < i → get_or used i false ≡ false → Counted k (set ns i next) next (i + 1)
    counted_unused l g =
        counted_next k ns next i c h next
        (c.number ∙ sym (position-dropped k (i - 1) (ap k before_i ∙ rw (lt-leb i n l, g))) ∙ ap (position k) before_i)
