-- The loop that works out the eight slopes of the line k, a factor a turn, and writes them: those of the members of the set s by f, and zero for
-- the others. Assumes nothing.
use mathlib.Core.Path.{◌≡◌, refl, sym, ap, subst, ◌∙◌}
use mathlib.Core.Bool.{Bool, true, false, ◌&&◌, cond, false≢true}
use mathlib.Core.List.{List}
use mathlib.Core.Logic.{◌⊎◌, inl, inr}
use Rattle.std.specs.Prelude.{Some, None}
use Prim.Native.Nat.{ℕ, zero, suc, ◌+◌, ◌-◌, ◌*◌, ◌/◌, ◌^◌, ◌≤◌, ◌<◌}
use native.Mathlib.Omega.{arith}
use native.Mathlib.Nat as N
use borrow.Author.Count.{below_more}
use lib.Pow.{pow_pos, pow_mono}
use lib.ListN.{length, set, take, length-set}
use lib.Seq.{get_or-set_same, get_or-set_other}
use Rattle.range.specs.declared.Range.{Range}
use Rattle.range.specs.Limit.{zero_range, is_valid}
use Rattle.range.specs.Sums.{has, at}
use Rattle.rules.specs.Table.{eight}
use Rattle.rules.specs.Run.{each_valid}
use Rattle.bounds.specs.declared.table.Table.{Table}
use Rattle.bounds.specs.Terms.{member_or, over_members}
use Rattle.bounds.specs.Table.{gradient_at, Beside, Filled}
use Rattle.bounds.proofs.Members.{below_or, at-eight, is-eight}
use Rattle.bounds.proofs.Pairs.{same-ranges}
use Rattle.bounds.proofs.Validity.{zero-valid, each_at, each_more, read-valid}

-- The table was t and is u; its line k has the slopes g, and nothing else has changed.
pub record Holding (g : List Range) (t : Table) (k : ℕ) (u : Table) : Type 0 where
  pub eight : length g ≡ 8
  pub slopes : gradient_at u k ≡ g
  pub beside : Beside t k u

-- The slopes of the factors below a are worked out, and the others are zero still.
pub record Filling (s : ℕ) (f : ℕ → Range) (g : List Range) (a : ℕ) : Type 0 where
  pub done : (b : ℕ) → b < a → at g b ≡ member_or s f b
  pub left : (b : ℕ) → a ≤ b → at g b ≡ zero_range
  pub valid : each_valid (take a (over_members s f)) ≡ true

module _ {g : List Range} {t : Table} {k : ℕ} {u : Table} (i : Holding g t k u) where
  -- a slope of an earlier line is what it was
  pub holding-read : (j b : ℕ) {r : Range} → j < k → r ≡ at (gradient_at u j) b → r ≡ at (gradient_at t j) b
  holding-read j b h e =
      e ∙ ap (λ (l : List Range). at l b) (same-ranges u.numbers t.numbers (20 * j + 4) (λ m p q. i.beside.numbers m (inl (omega arith))))

  pub holding-valid : (j b : ℕ) {r : Range} → j < k → r ≡ at (gradient_at u j) b → each_valid (gradient_at t j) ≡ true → is_valid r ≡ true
  holding-valid j b {r} h e = read-valid r (gradient_at t j) b (holding-read j b h e)

  -- one slope more
  pub holding-more : (a : ℕ) (r : Range) (w : Table) → gradient_at w k ≡ set (gradient_at u k) a r → Beside u k w → Holding (set g a r) t k w
  holding-more a r w e b = record {
    eight = length-set g a r ∙ i.eight;
    slopes = e ∙ ap (λ (l : List Range). set l a r) i.slopes;
    beside = record { numbers = λ m o. b.numbers m o ∙ i.beside.numbers m o; sets = b.sets ∙ i.beside.sets };
  }

module _ {s : ℕ} {f : ℕ → Range} {g : List Range} {a : ℕ} (i : Filling s f g a) (h : a < 8) where
  member : (b : Bool) → has s a ≡ b → cond b (f a) zero_range ≡ member_or s f a
  member b e = ap (λ (c : Bool). cond c (f a) zero_range) (sym e)

  slope : at (over_members s f) a ≡ member_or s f a
  slope = at-eight (member_or s f) a h

  more : (r : Range) → r ≡ member_or s f a → is_valid r ≡ true → each_valid (take (a + 1) (over_members s f)) ≡ true
  more r e v =
      sym (each_more true (over_members s f) a h (sym i.valid)) ∙ ap (λ (x : Range). true && is_valid x) (slope ∙ sym e) ∙ v

  -- a member
  module _ (is : has s a ≡ true) (r : Range) (e : r ≡ f a) where
    pub filling-in : length g ≡ 8 → is_valid r ≡ true → Filling s f (set g a r) (a + 1)
    filling-in l v = record {
      done = below_more _ _
          (λ b l. get_or-set_other g a b r zero_range (λ z. omega arith) ∙ i.done b l)
          (get_or-set_same g a r zero_range (omega (arith, l)) ∙ e ∙ member true is);
      left = λ b l. get_or-set_other g a b r zero_range (λ z. omega arith) ∙ i.left b (omega arith);
      valid = more r (e ∙ member true is) v;
    }

    -- which is no range
    pub filling-over : {t : Table} {k : ℕ} {u : Table} → Holding g t k u → is_valid r ≡ false → Filled (over_members s f) t k None u
    filling-over w v =
        let no : each_valid (over_members s f) ≡ true → ⊥ = λ z.
        false≢true (sym v ∙ ap is_valid (e ∙ member true is ∙ sym slope) ∙ each_at (over_members s f) z a) in
        record {
          answer = never (each_valid (over_members s f)) no;
          slopes = λ z. absurd (no z);
          beside = w.beside;
        }
      where
        never : (b : Bool) → (b ≡ true → ⊥) → None ≡ cond b (Some (over_members s f)) None
        never true n = absurd (n refl)
        never false n = refl

  -- no member
  pub filling-out : has s a ≡ false → Filling s f g (a + 1)
  filling-out is = record {
    done = below_more _ _ i.done (i.left a (omega arith) ∙ member false is);
    left = λ b l. i.left b (omega arith);
    valid = more zero_range (member false is) zero-valid;
  }

-- where no member is left, the turns that the loop is spared change nothing
to-last : {s : ℕ} {f : ℕ → Range} {g : List Range} (n a : ℕ) → n + a ≡ 8 → ((b : ℕ) → a ≤ b → b < 8 → has s b ≡ false) → Filling s f g a → Filling s f g 8
to-last zero a e h i = subst (Filling _ _ _) (omega arith) i
to-last (suc n) a e h i = to-last n (a + 1) (omega arith) (λ b l m. h b (omega arith) m) (filling-out i (omega arith) (h a (omega arith) (omega arith)))

-- no member is left
pub none-left : (s a : ℕ) → s / 2 ^ a ≡ 0 → (b : ℕ) → a ≤ b → has s b ≡ false
unfolding has
none-left s a e b l =
    let below : s < s / 2 ^ a * 2 ^ a + 2 ^ a = N.lt-div-mul-add {a = s} {b = 2 ^ a} (pow_pos a) in
    let few : s < 0 * 2 ^ a + 2 ^ a = rw e at below in
    let more : s < 2 ^ a = omega (arith, few) in
    let small : s < 2 ^ b = N.lt_of_lt_of_le more (pow_mono {i = a} {j = b} l) in
    rw (N.div-eq_of_lt small) refl

pub filling-end : {s : ℕ} {f : ℕ → Range} {g : List Range} {a : ℕ} {t : Table} {k : ℕ} {u : Table} → a ≤ 8 → ((b : ℕ) → a ≤ b → b < 8 → has s b ≡ false)
    → Filling s f g a → Holding g t k u → Filled (over_members s f) t k (Some g) u
filling-end {s} {f} {g} {a} h e i w =
    let j = to-last (8 - a) a (omega arith) e i in
    let all : g ≡ over_members s f = is-eight g (member_or s f) w.eight j.done in
    let ok : each_valid (over_members s f) ≡ true = j.valid in
    record {
      answer = ap (λ (l : List Range). Some l) all ∙ sym (ap (λ (b : Bool). cond b (Some (over_members s f)) None) ok);
      slopes = λ _. w.slopes ∙ all;
      beside = w.beside;
    }

-- ---- the loop that copies the slopes l of an earlier line
-- Those of the factors below a are copied, and the others are zero still.
pub record Copying (l g : List Range) (a : ℕ) : Type 0 where
  pub done : (b : ℕ) → b < a → at g b ≡ at l b
  pub left : (b : ℕ) → a ≤ b → at g b ≡ zero_range

pub copying-more : {l g : List Range} {a : ℕ} (r : Range) → Copying l g a → length g ≡ 8 → a < 8 → r ≡ at l a → Copying l (set g a r) (a + 1)
copying-more {l} {g} {a} r i e h is = record {
  done = below_more _ _
      (λ b m. get_or-set_other g a b r zero_range (λ z. omega arith) ∙ i.done b m)
      (get_or-set_same g a r zero_range (omega (arith, e)) ∙ is);
  left = λ b m. get_or-set_other g a b r zero_range (λ z. omega arith) ∙ i.left b (omega arith);
}

-- those that are not copied are zero, and all are valid
pub copying-end : {l g : List Range} {a : ℕ} {t : Table} {k : ℕ} {u : Table} → Holding g t k u → Copying l g a → l ≡ eight (at l)
    → ((b : ℕ) → a ≤ b → b < 8 → at l b ≡ zero_range) → each_valid l ≡ true → Filled l t k (Some g) u
copying-end {l} {g} {a} {t} {k} {u} w i e z v =
    let all : g ≡ l = is-eight g (at l) w.eight (λ b m. go b m (below_or b a)) ∙ sym e in
    record {
      answer = ap (λ (l : List Range). Some l) all ∙ sym (ap (λ (b : Bool). cond b (Some l) None) v);
      slopes = λ _. w.slopes ∙ all;
      beside = w.beside;
    }
  where
    go : (b : ℕ) → b < 8 → (b < a) ⊎ (a ≤ b) → at g b ≡ at l b
    go b m (inl h) = i.done b h
    go b m (inr h) = i.left b h ∙ sym (z b h m)
