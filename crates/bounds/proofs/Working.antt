-- A line that is worked out by a row: its slopes are written, and then its head. Assumes nothing.
use mathlib.Core.Path.{◌≡◌, refl, sym, ap, ◌∙◌}
use mathlib.Core.Bool.{Bool, true, false, ◌&&◌, cond, false≢true}
use mathlib.Core.List.{List}
use mathlib.Core.Logic.{◌⊎◌, inl, inr}
use Rattle.std.specs.Prelude.{Option, Some, None}
use Prim.Native.Nat.{ℕ, ◌+◌, ◌*◌, ◌≤◌, ◌<◌}
use native.Mathlib.Omega.{arith}
use lib.IntN.{ℤ, pos}
use lib.ListN.{length, get_or, set, length-set}
use lib.Seq.{get_or-set_same, get_or-set_other}
use Rattle.range.specs.declared.Range.{Range}
use Rattle.range.specs.Limit.{zero_range, is_valid}
use Rattle.range.specs.Sums.{has, at, pair_at}
use Rattle.range.proofs.Valid.{and-false}
use Rattle.rules.specs.Formula.{sticky}
use Rattle.rules.specs.Table.{Row, line_of}
use Rattle.rules.specs.Run.{each_valid, within}
use Rattle.bounds.specs.declared.table.Table.{Table}
use Rattle.bounds.specs.declared.table.Head.{Head}
use Rattle.bounds.specs.Terms.{over_members, Flat}
use Rattle.bounds.specs.Table.{slopes_from, gradient_at, support_at, line_at, put_pair, Refers, Beside, Filled, if_valid, slopes_of, line_with, Placed, SettledLine, Worked}
use Rattle.bounds.proofs.Members.{below_or, eight-same, members-all, members-flat}
use Rattle.bounds.proofs.Pairs.{put-long, put-read, put_other, same-pair, same-ranges}
use Rattle.bounds.proofs.Validity.{gradient-valid, slope-over}

-- ---- the line that a row refers to
module _ {t : Table} {i k : ℕ} (r : Refers t i k) where
  pub refers-inside : k < 64 → i < 64
  refers-inside h = omega (arith, r.earlier)

  pub refers-valid : each_valid (gradient_at t i) ≡ true
  refers-valid = gradient-valid (line_at t i) r.fine.valid

  -- they are its own for the members of its set, and zero for the others
  own-slopes : over_members (support_at t i) (at (gradient_at t i)) ≡ gradient_at t i
  own-slopes = members-all (support_at t i) (at (gradient_at t i)) r.fine.flat

  pub own-filled : {o : Option (List Range)} {x : Table} → Filled (gradient_at t i) t k o x → Filled (over_members (support_at t i) (at (gradient_at t i))) t k o x
  own-filled q = rw own-slopes q

-- ---- other lines
module _ (t u : Table) (k : ℕ)
    (numbers : (n : ℕ) → (n < 20 * k) ⊎ (20 * k + 20 ≤ n) → get_or u.numbers n (pos 0) ≡ get_or t.numbers n (pos 0))
    (sets : (n : ℕ) → (n < 2 * k) ⊎ (2 * k + 2 ≤ n) → get_or u.sets n 0 ≡ get_or t.sets n 0)
  where
    same_line : (q : ℕ) → (q < k) ⊎ (k < q) → line_at u q ≡ line_at t q
    same_line q (inl h) = λ i. record {
      value = same-pair u.numbers t.numbers (20 * q) (numbers _ (inl (omega arith))) (numbers _ (inl (omega arith))) i;
      gradient = same-ranges u.numbers t.numbers (20 * q + 4) (λ n l m. numbers n (inl (omega arith))) i;
      support = sets (2 * q) (inl (omega arith)) i;
      nonlinear = sets (2 * q + 1) (inl (omega arith)) i;
      spectrum = same-pair u.numbers t.numbers (20 * q + 2) (numbers _ (inl (omega arith))) (numbers _ (inl (omega arith))) i;
    }
    same_line q (inr h) = λ i. record {
      value = same-pair u.numbers t.numbers (20 * q) (numbers _ (inr (omega arith))) (numbers _ (inr (omega arith))) i;
      gradient = same-ranges u.numbers t.numbers (20 * q + 4) (λ n l m. numbers n (inr (omega arith))) i;
      support = sets (2 * q) (inr (omega arith)) i;
      nonlinear = sets (2 * q + 1) (inr (omega arith)) i;
      spectrum = same-pair u.numbers t.numbers (20 * q + 2) (numbers _ (inr (omega arith))) (numbers _ (inr (omega arith))) i;
    }

    other-lines : (q : ℕ) → ¬ (q ≡ k) → line_at u q ≡ line_at t q
    other-lines q n = same_line q (side (below_or q k))
      where
        side : (q < k) ⊎ (k ≤ q) → (q < k) ⊎ (k < q)
        side (inl h) = inl h
        side (inr h) = inr (omega (arith, n))

-- ---- the head of a line: what `put_head` leaves
module _ (t : List ℤ) (k : ℕ) (value spectrum : Range) (u : List ℤ) (w : u ≡ put_pair (put_pair t (20 * k) value) (20 * k + 2) spectrum) where
  abbrev valued : List ℤ
  valued = put_pair t (20 * k) value

  number-other : (n : ℕ) → (n < 20 * k) ⊎ (20 * k + 4 ≤ n) → get_or u n (pos 0) ≡ get_or t n (pos 0)
  number-other n o =
      ap (λ (l : List ℤ). get_or l n (pos 0)) w ∙ put_other valued (20 * k + 2) spectrum n (second o) ∙ put_other t (20 * k) value n (first o)
    where
      second : (n < 20 * k) ⊎ (20 * k + 4 ≤ n) → (n < 20 * k + 2) ⊎ (20 * k + 2 + 2 ≤ n)
      second (inl l) = inl (omega arith)
      second (inr l) = inr (omega arith)

      first : (n < 20 * k) ⊎ (20 * k + 4 ≤ n) → (n < 20 * k) ⊎ (20 * k + 2 ≤ n)
      first (inl l) = inl l
      first (inr l) = inr (omega arith)

  -- no slope has changed
  head-slopes : slopes_from u k ≡ slopes_from t k
  head-slopes = same-ranges u t (20 * k + 4) (λ n l m. number-other n (inr l))

  module _ (long : length t ≡ 1280) (inside : k < 64) where
    head-value : pair_at u (20 * k) ≡ value
    head-value =
        ap (λ (l : List ℤ). pair_at l (20 * k)) w
        ∙ same-pair
        (put_pair valued (20 * k + 2) spectrum)
        valued
        (20 * k)
        (put_other valued (20 * k + 2) spectrum (20 * k) (inl (omega arith)))
        (put_other valued (20 * k + 2) spectrum (20 * k + 1) (inl (omega arith)))
        ∙ put-read t (20 * k) value (omega arith)

    head-spectrum : pair_at u (20 * k + 2) ≡ spectrum
    head-spectrum =
        ap (λ (l : List ℤ). pair_at l (20 * k + 2)) w ∙ put-read valued (20 * k + 2) spectrum (omega (arith, put-long t (20 * k) value))

module _ (s : List ℕ) (k support nonlinear : ℕ) (v : List ℕ) (w : v ≡ set (set s (2 * k) support) (2 * k + 1) nonlinear) where
  set_other : (n : ℕ) → (n < 2 * k) ⊎ (2 * k + 2 ≤ n) → get_or v n 0 ≡ get_or s n 0
  set_other n o =
      ap (λ (l : List ℕ). get_or l n 0) w
      ∙ get_or-set_other (set s (2 * k) support) (2 * k + 1) n nonlinear 0 (second o)
      ∙ get_or-set_other s (2 * k) n support 0 (first o)
    where
      second : (n < 2 * k) ⊎ (2 * k + 2 ≤ n) → n ≡ 2 * k + 1 → ⊥
      second (inl l) e = omega arith
      second (inr l) e = omega arith

      first : (n < 2 * k) ⊎ (2 * k + 2 ≤ n) → n ≡ 2 * k → ⊥
      first (inl l) e = omega arith
      first (inr l) e = omega arith

  module _ (long : length s ≡ 128) (inside : k < 64) where
    head-support : get_or v (2 * k) 0 ≡ support
    head-support =
        ap (λ (l : List ℕ). get_or l (2 * k) 0) w
        ∙ get_or-set_other (set s (2 * k) support) (2 * k + 1) (2 * k) nonlinear 0 (λ e. omega arith)
        ∙ get_or-set_same s (2 * k) support 0 (omega arith)

    head-nonlinear : get_or v (2 * k + 1) 0 ≡ nonlinear
    head-nonlinear =
        ap (λ (l : List ℕ). get_or l (2 * k + 1) 0) w
        ∙ get_or-set_same (set s (2 * k) support) (2 * k + 1) nonlinear 0 (omega (arith, length-set s (2 * k) support))

-- ---- beside its slopes, which the table holds
pub placed : (t : Table) (k : ℕ) (h : Head) (u : Table) → length t.numbers ≡ 1280 → length t.sets ≡ 128 → k < 64
    → u.numbers ≡ put_pair (put_pair t.numbers (20 * k) h.value) (20 * k + 2) h.spectrum
    → u.sets ≡ set (set t.sets (2 * k) h.support) (2 * k + 1) h.nonlinear → Placed (line_with h (gradient_at t k)) t k u
placed t k h u long wide inside numbers sets = record {
  line = λ i. record {
    value = head-value t.numbers k _ _ u.numbers numbers long inside i;
    gradient = head-slopes t.numbers k _ _ u.numbers numbers i;
    support = head-support t.sets k _ _ u.sets sets wide inside i;
    nonlinear = head-nonlinear t.sets k _ _ u.sets sets wide inside i;
    spectrum = head-spectrum t.numbers k _ _ u.numbers numbers long inside i;
  };
  others = other-lines t u k (λ n p. number-other t.numbers k _ _ u.numbers numbers n (head p)) (set_other t.sets k _ _ u.sets sets);
}
  where
    head : {n : ℕ} → (n < 20 * k) ⊎ (20 * k + 20 ≤ n) → (n < 20 * k) ⊎ (20 * k + 4 ≤ n)
    head (inl l) = inl l
    head (inr l) = inr (omega arith)

-- ---- settled: the line is placed, or one of its ranges is not valid
pub settled-some : (h : Head) (g : List Range) {t : Table} {k : ℕ} {u : Table} → is_valid h.value ≡ true → is_valid h.spectrum ≡ true
    → each_valid g ≡ true → gradient_at t k ≡ g → Placed (line_with h (gradient_at t k)) t k u → SettledLine (line_with h g) t k (Some g) u
unfolding within
settled-some h g v w e q p = record { answer = rw (v, w, e) refl; line = λ _. p.line ∙ ap (line_with h) q; others = p.others }

pub settled-none : (h : Head) (g : List Range) (t : Table) (k : ℕ) {b c : Bool} → b ≡ is_valid h.value → c ≡ is_valid h.spectrum
    → (b && c) ≡ false → SettledLine (line_with h g) t k None t
unfolding within
settled-none h g t k {b} {c} v w f =
    let none : within (line_with h g) ≡ false = rw (sym v, sym w) (never b c (each_valid g) f) in
    record { answer = rw none refl; line = λ e. absurd (false≢true (sym none ∙ e)); others = λ q n. refl }
  where
    never : (b c e : Bool) → (b && c) ≡ false → (b && (e && c)) ≡ false
    never false c e f = refl
    never true c e f = and-false e c (inr f)

-- ---- the slopes were written before: from the table t to the table u
pub beside-others : {t : Table} {k : ℕ} {u : Table} → Beside t k u → (x : Table) → ((q : ℕ) → ¬ (q ≡ k) → line_at x q ≡ line_at u q)
    → (q : ℕ) → ¬ (q ≡ k) → line_at x q ≡ line_at t q
beside-others {t} {k} {u} z x o q n =
    o q n ∙ other-lines t u k (λ n p. z.numbers n (slope p)) (λ n p. ap (λ (l : List ℕ). get_or l n 0) z.sets) q n
  where
    slope : {n : ℕ} → (n < 20 * k) ⊎ (20 * k + 20 ≤ n) → (n < 20 * k + 4) ⊎ (20 * k + 20 ≤ n)
    slope (inl l) = inl (omega arith)
    slope (inr l) = inr l

-- what the answer tells of the slopes
pub some-valid : (g l : List Range) → Some g ≡ if_valid l → (each_valid l ≡ true) × (g ≡ l)
some-valid g l e = go (each_valid l) refl e
  where
    go : (b : Bool) → each_valid l ≡ b → Some g ≡ cond b (Some l) None → (each_valid l ≡ true) × (g ≡ l)
    go true v e = (v, (cc))
    go false v e = absurd (cc)

pub none-valid : (l : List Range) → None ≡ if_valid l → each_valid l ≡ false
none-valid l e = go (each_valid l) refl e
  where
    go : (b : Bool) → each_valid l ≡ b → None ≡ cond b (Some l) None → each_valid l ≡ false
    go true v e = absurd (cc)
    go false v e = v

-- What `settle` asks of the slopes g, which are l.
pub filled-slopes : {l : List Range} {t : Table} {k : ℕ} {g : List Range} {u : Table} → Filled l t k (Some g) u
    → (each_valid g ≡ true) × (gradient_at u k ≡ g)
filled-slopes {l} {t} {k} {g} {u} z =
    let v = some-valid g l z.answer in
    (ap each_valid v.1 ∙ v.0, z.slopes v.0 ∙ sym v.1)

-- ---- the line of a row
-- The head is a row's.
pub record HeadOf (row : Row) (h : Head) : Type 0 where
  pub value : h.value ≡ sticky row.value
  pub spectrum : h.spectrum ≡ sticky row.spectrum
  pub support : h.support ≡ row.support
  pub nonlinear : h.nonlinear ≡ row.nonlinear

module _ (row : Row) (s : ℕ) (support : s ≡ row.support) (f : ℕ → Range)
    (same : (a : ℕ) → f a ≡ sticky (row.slope a))
    (outside : (a : ℕ) → has row.support a ≡ false → sticky (row.slope a) ≡ zero_range)
  where
    all-slopes : over_members s f ≡ (line_of row).gradient
    unfolding line_of
    all-slopes =
        ap (λ (n : ℕ). over_members n f) support
        ∙ members-all row.support f (λ a o. same a ∙ outside a o)
        ∙ eight-same f (λ a. sticky (row.slope a)) (λ a l. same a)

    flat : Flat (line_of row)
    unfolding line_of
    flat a e =
        ap (λ (g : List Range). at g a) (sym all-slopes)
        ∙ members-flat s f a (ap (λ (n : ℕ). has n a) support ∙ e)

    -- from the table t to the table x its slopes are written, and from there to the table u its head
    pub worked : {t : Table} {k : ℕ} {g : List Range} {x : Table} {h : Head} {r : Option (List Range)} {u : Table}
        → Filled (over_members s f) t k (Some g) x → HeadOf row h → SettledLine (line_with h g) x k r u → Worked row t k r u
    unfolding line_of
    worked {t} {k} {g} {x} {h} {r} {u} q m z =
        let slopes = (some-valid g (over_members s f) q.answer).1 ∙ all-slopes in
        let is : line_with h g ≡ line_of row =
        λ i. record { value = m.value i; gradient = slopes i; support = m.support i; nonlinear = m.nonlinear i; spectrum = m.spectrum i } in
        record {
          settled = record {
            answer = z.answer ∙ ap slopes_of is;
            line = λ y. z.line (ap within is ∙ y) ∙ is;
            others = beside-others q.beside u z.others;
          };
          fine = λ y. record { valid = y; flat = flat };
        }

    -- a slope is not valid
    pub worked-none : {t : Table} {k : ℕ} {x : Table} → Filled (over_members s f) t k None x → Worked row t k None x
    unfolding within
    worked-none {t} {k} {x} q =
        let over : each_valid (line_of row).gradient ≡ false = ap each_valid (sym all-slopes) ∙ none-valid (over_members s f) q.answer in
        let none : within (line_of row) ≡ false = and-false (is_valid (line_of row).value) _ (inr (and-false (each_valid (line_of row).gradient) _ (inl over))) in
        record {
          settled = record {
            answer = rw none refl;
            line = λ y. absurd (false≢true (sym none ∙ y));
            others = beside-others q.beside x (λ q n. refl);
          };
          fine = λ y. absurd (false≢true (sym none ∙ y));
        }

-- a row whose slopes are `over` needs no line
pub worked-over : (row : Row) (t : Table) (k : ℕ) → is_valid (sticky (row.slope 0)) ≡ false → Worked row t k None t
unfolding line_of
worked-over row t k e =
    let none : within (line_of row) ≡ false = slope-over (line_of row) (sticky (row.slope 0)) _ refl e in
    record {
      settled = record { answer = rw none refl; line = λ z. absurd (false≢true (sym none ∙ z)); others = λ q n. refl };
      fine = λ z. absurd (false≢true (sym none ∙ z));
    }
