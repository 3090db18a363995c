-- Laws of the fields that list a set, and of the slopes' lines: one factor more.
use Prim.Native.Nat.{ℕ, ◌+◌, ◌/◌, ◌%◌, ◌^◌, ◌≤◌}
use mathlib.Core.List.{List, ◌++◌, append-nil}
use mathlib.Core.Path.{◌≡◌, refl, ◌∙◌}
use native.Mathlib.Numerals.{add-one}
use native.Mathlib.Omega.{arith}
use borrow.Author.Tests.{eq-eqb, ne_eqb}
use Rattle.range.specs.declared.Range.{Range}
use Rattle.range.specs.Sums.{has, at}
use Rattle.range.proofs.Scanning.{Scan}
use Rattle.writer.specs.Lent.{Lent, put, put_text}
use Rattle.writer.proofs.Writing.{then, then-put}
use Rattle.text.specs.Output.{slope, natural_field, range_fields, slope_lines, member_fields, set_fields}

pub members-start : (o : Lent) (s : ℕ) → o ≡ put_text o (member_fields 0 s)
unfolding put_text member_fields
members-start o s = refl

-- the factors of a set, one after another
module _ (o out : Lent) (s a : ℕ) (e : out ≡ put_text o (member_fields a s)) where
  pub listed : (r : Lent) → s / 2 ^ a % 2 ≡ 1 → r ≡ put_text out (natural_field (a + 1)) → r ≡ put_text o (member_fields (a + 1) s)
  unfolding member_fields has
  listed r h p = then o out r (member_fields a s) _ e p ∙ rw (add-one a, eq-eqb (s / 2 ^ a % 2) 1 h)

  pub unlisted : (s / 2 ^ a % 2 ≡ 1 → ⊥) → out ≡ put_text o (member_fields (a + 1) s)
  unfolding member_fields has
  unlisted h = e ∙ rw (add-one a, ne_eqb (s / 2 ^ a % 2) 1 h, append-nil)

module _ (o out : Lent) (s : ℕ) where
  -- past the eighth the line ends
  pub members-end : (a rest : ℕ) (r : Lent) → Scan s rest a → 8 ≤ a → out ≡ put_text o (member_fields a s) → r ≡ put out 10
      → r ≡ put_text o (set_fields s)
  unfolding set_fields
  members-end a rest r i h e p =
      let n : a ≡ 8 = omega (arith, i.within) in
      then-put o out r (member_fields 8 s) 10 (rw n at e) p

pub slopes-start : (o : Lent) (g : List Range) → o ≡ put_text o (slope_lines 0 g)
unfolding put_text slope_lines
slopes-start o g = refl

-- one slope more
pub slope-next : (o out r : Lent) (g : List Range) (a : ℕ) → out ≡ put_text o (slope_lines a g)
    → r ≡ put_text out (slope ++ (natural_field (a + 1) ++ range_fields (at g a))) → r ≡ put_text o (slope_lines (a + 1) g)
unfolding slope_lines
slope-next o out r g a e p = then o out r (slope_lines a g) _ e p ∙ rw (add-one a)
