-- A codelist whose operations lie wherever a closure finds them: a refusal in order, and what an operation that was given is. Assumes nothing.
use mathlib.Core.Path.{◌≡◌, refl, sym, ap, subst, ◌∙◌}
use mathlib.Core.Bool.{Bool, true, false, cond, false≢true}
use mathlib.Core.List.{List}
use Rattle.std.specs.Prelude.{Option, Some, None, Err}
use Rattle.std.proofs.lemmas.Bool.Decides.{nat_tests}
use Prim.Native.Nat.{ℕ, zero, suc, ◌+◌, ◌-◌, ◌≤◌, ◌<◌}
use native.Mathlib.Omega.{arith}
use lib.IntN.{ℤ}
use lib.ListN.{get_or}
use Rattle.codelist.specs.declared.Codelist.{Codelist}
use Rattle.codelist.specs.declared.Op.{Op}
use Rattle.codelist.specs.Codelist.{blank, well_formed_op, in_bounds, ratable}
use Rattle.encoding.specs.declared.Front.{Front}
use Rattle.range.specs.declared.Range.{Range}
use Rattle.rules.specs.declared.Line.{Line}
use Rattle.rules.specs.declared.Refusal.TheVariants.{NoCodelist}
use Rattle.rules.specs.Run.{row_of}
use Rattle.rules.specs.Rate.{rate_of}
use Rattle.bounds.specs.declared.table.Table.{Table}
use Rattle.bounds.specs.Table.{Worked}
use Rattle.bounds.specs.Answer.{Counted, IsOf, Lies, if_well_formed, in_order}
use Rattle.bounds.specs.FirstBad.{or_none}
use Rattle.bounds.proofs.Answers.{or-no-codelist}
use Rattle.bounds.proofs.Running.{Fits}

-- ---- the lowest bad range
pub some-bad : (a b : ℕ) → Some a ≡ or_none b → (a ≡ b) × ¬ (a ≡ 0)
some-bad a zero e = absurd (cc)
some-bad a (suc b) e = let s : a ≡ suc b = cc in (s, λ z. omega (arith, s))

pub none-is-bad : (b : ℕ) → None ≡ or_none b → b ≡ 0
none-is-bad zero e = refl
none-is-bad (suc b) e = absurd (cc)

-- ---- an operation, if it is well formed
module _ (k : ℕ) (o : Op) where
  pub given-some : (p : Op) → Some p ≡ if_well_formed k o → (well_formed_op k o ≡ true) × (p ≡ o)
  given-some p e = go (well_formed_op k o) refl e
    where
      go : (b : Bool) → well_formed_op k o ≡ b → Some p ≡ cond b (Some o) None → (well_formed_op k o ≡ true) × (p ≡ o)
      go true w e = (w, (cc))
      go false w e = absurd (cc)

  pub given-none : None ≡ if_well_formed k o → well_formed_op k o ≡ false
  given-none e = go (well_formed_op k o) refl e
    where
      go : (b : Bool) → well_formed_op k o ≡ b → None ≡ cond b (Some o) None → well_formed_op k o ≡ false
      go true w e = absurd (cc)
      go false w e = w

-- ---- the codelist
module _ {c : Codelist} {f : Front} {gives : ℕ → Option Op → Type 0} (q : Lies c f gives) where
  pub lies-fits : Counted f → Fits c
  lies-fits n = record { fits = bounds; array = q.array }
    where
      bounds : in_bounds c ≡ true
      bounds = rw (q.factors, q.count) (grind (arith, nat_tests))

  pub lies-from : (k : ℕ) → IsOf k f → c.factors ≤ k
  lies-from k i = omega (arith, q.factors)

  pub lies-left : (k : ℕ) → IsOf k f → k < c.factors + c.count
  lies-left k i = omega (arith, q.factors, q.count)

  -- the operation of the line k
  abbrev pub lies-op : ℕ → Op
  lies-op k = (get_or c.ops (k - c.factors) blank).op

  given : (k : ℕ) (o : Option Op) → IsOf k f → gives k o → o ≡ if_well_formed k (lies-op k)
  given k o i g = q.op k o i g ∙ ap (λ (n : ℕ). if_well_formed k (get_or c.ops (k - n) blank).op) (sym q.factors)

  pub lies-none : (k : ℕ) {o : Option Op} → IsOf k f → o ≡ None → gives k o → well_formed_op k (lies-op k) ≡ false
  lies-none k i e g = given-none k (lies-op k) (sym e ∙ given k _ i g)

  pub lies-some : (k : ℕ) {o : Option Op} {p : Op} → IsOf k f → o ≡ Some p → gives k o → (well_formed_op k (lies-op k) ≡ true) × (p ≡ lies-op k)
  lies-some k {o} {p} i e g = given-some k (lies-op k) p (sym e ∙ given k o i g)

-- NoCodelist, where an operation is not well formed
pub no-codelist-first : (c : Codelist) (xs : List ℤ) → ratable c ≡ false → in_order c (Err NoCodelist) ≡ rate_of c xs
no-codelist-first c xs e = or-no-codelist c xs NoCodelist (λ w. absurd (false≢true (sym e ∙ w)))

-- a row of an operation, of which something else is known
pub worked-as : (ls : List Line) {p o : Op} {r s : Option (List Range)} {t : Table} {k : ℕ} {u : Table} → p ≡ o → r ≡ s
    → Worked (row_of p ls) t k r u → Worked (row_of o ls) t k s u
worked-as ls {p} {o} {r} {s} {t} {k} {u} e f w =
    subst (λ (x : Op). Worked (row_of x ls) t k s u) e (subst (λ (x : Option (List Range)). Worked (row_of p ls) t k x u) f w)
