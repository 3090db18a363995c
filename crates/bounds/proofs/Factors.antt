-- The line of a factor: its slope is one at the factor and zero at the others, and its set has that factor alone. Assumes nothing.
use mathlib.Core.Path.{◌≡◌, refl, sym, ap, ◌∙◌}
use mathlib.Core.Bool.{Bool, true, false, cond, false≢true}
use mathlib.Core.List.{List}
use Prim.Native.Nat.{ℕ, ◌*◌, ◌%◌, ◌^◌, ◌≤◌, ◌<◌}
use native.Mathlib.Nat as N
use borrow.Author.Tests.{eqb-true, eqb-false, ne_eqb}
use native.Mathlib.Omega.{arith}
use lib.Dec.{eqb, lit<}
use Rattle.std.specs.Prelude.{Some, None}
use lib.ListN.{set, length-set}
use lib.Pow.{pow_pos, pow_mono}
use lib.Seq.{get_or-set_same, get_or-set_other}
use Rattle.range.specs.declared.Range.{Range}
use Rattle.range.specs.Limit.{zero_range, one_range, is_valid}
use Rattle.range.specs.Sums.{has, at}
use Rattle.rules.specs.Table.{factor_row, eight, line_of}
use Rattle.rules.specs.Run.{within}
use Rattle.bounds.specs.declared.table.Table.{Table}
use Rattle.bounds.specs.Terms.{Fine}
use Rattle.bounds.specs.Table.{gradient_at, Blank, Beside, line_with, Placed, Worked}
use Rattle.bounds.proofs.Members.{at-any, at-eight, is-eight}
use Rattle.bounds.proofs.Validity.{zero-valid}
use Rattle.bounds.proofs.Working.{beside-others}

-- a one that is shifted by at most k places, in a word that has room for it
pub shifted : (n k m : ℕ) → n ≤ k → 2 ^ k < m → 1 * 2 ^ n % m ≡ 2 ^ n
shifted n k m h r = ap (λ (x : ℕ). x % m) (N.one-mul (2 ^ n)) ∙ N.mod-eq_of_lt (N.lt_of_le_of_lt (pow_mono {i = n} {j = k} h) r)

pub one-valid : is_valid one_range ≡ true
unfolding is_valid
one-valid = refl

abbrev ones_at : ℕ → ℕ → Range
ones_at a b = cond (eqb b a) one_range zero_range

-- a one among zeros
one_at : (a : ℕ) → a < 8 → set (eight (λ b. zero_range)) a one_range ≡ eight (ones_at a)
one_at a h = is-eight (set zeros a one_range) (ones_at a) (length-set zeros a one_range) (λ k l. go k l (eqb k a) refl)
  where
    zeros : List Range
    zeros = eight (λ b. zero_range)

    go : (k : ℕ) → k < 8 → (t : Bool) → eqb k a ≡ t → at (set zeros a one_range) k ≡ cond (eqb k a) one_range zero_range
    go k l true e =
        let p : k ≡ a = eqb-true k a e in
        rw (e, p) (get_or-set_same zeros a one_range zero_range h)
    go k l false e = rw e (get_or-set_other zeros a k one_range zero_range (eqb-false k a e) ∙ at-eight (λ b. zero_range) k l)

-- from the table t to the table u the slope of the factor a is written to the line a, whose slopes were zero, and from there to the table x its head
pub factor-placed : (b a : ℕ) (r : Range) → a < 8 → (t u x : Table) → Blank t a → gradient_at u a ≡ set (gradient_at t a) a one_range → Beside t a u
    → Placed (line_with (record { value = r; spectrum = zero_range; support = 1 * 2 ^ a % 256; nonlinear = b }) (gradient_at u a)) u a x
    → Placed (line_of (factor_row b a r)) t a x
unfolding factor_row line_of
factor-placed b a r few t u x blank slope beside p =
    let slopes = slope ∙ ap (λ (l : List Range). set l a one_range) blank ∙ one_at a few in
    record {
      line = p.line ∙ (λ i. record {
        value = r;
        gradient = slopes i;
        support = shifted a 7 256 (omega arith) (lit< tt) i;
        nonlinear = b;
        spectrum = zero_range;
      });
      others = beside-others beside x p.others;
    }

-- ---- the line may be referred to
single-has : (a : ℕ) → has (2 ^ a) a ≡ true
unfolding has
single-has a = ap (λ (x : ℕ). eqb (x % 2) 1) (N.div_self (pow_pos a))

module _ (a : ℕ) where
  ones-flat : (b : ℕ) → has (2 ^ a) b ≡ false → ones_at a b ≡ zero_range
  ones-flat b o = ap (λ (t : Bool). cond t one_range zero_range) (ne_eqb b a (λ e. false≢true (sym o ∙ ap (has (2 ^ a)) e ∙ single-has a)))

  ones-valid : (b : ℕ) → is_valid (ones_at a b) ≡ true
  ones-valid b = go (eqb b a)
    where
      go : (c : Bool) → is_valid (cond c one_range zero_range) ≡ true
      go true = one-valid
      go false = zero-valid

  pub factor-fine : (n : ℕ) (r : Range) → is_valid r ≡ true → Fine (line_of (factor_row n a r))
  unfolding line_of factor_row within
  factor-fine n r v = record {
    valid = simp (v, ones-valid, zero-valid);
    flat = λ b o. at-any (ones_at a) b (λ q. q ≡ zero_range) refl (ones-flat b o);
  }

-- ---- the row, worked out: its line is placed, and its slopes are given back
module _ (b a : ℕ) (few : a < 8) (r : Range) (ok : is_valid r ≡ true) where
  pub factor-worked : {t x : Table} → Placed (line_of (factor_row b a r)) t a x
      → Worked (factor_row b a r) t a (Some (set (eight (λ b. zero_range)) a one_range)) x
  unfolding line_of factor_row
  factor-worked p =
      let f = factor-fine a b r ok in
      record {
        settled = record {
          answer = ap (λ (l : List Range). Some l) (one_at a few) ∙ sym (ap (λ (t : Bool). cond t (Some (eight (ones_at a))) None) f.valid);
          line = λ _. p.line;
          others = p.others;
        };
        fine = λ _. f;
      }
