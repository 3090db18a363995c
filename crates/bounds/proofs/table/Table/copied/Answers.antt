-- `bounds::table::Table::copied` meets its contract: the slopes passed are those of the line i, in the array and in the table.
use mathlib.Core.Path.{refl, sym, ap, ◌∙◌}
use native.Mathlib.Omega.{arith}
use borrow.Author.Tests.{eqb-true}
use Rattle.codelist.proofs.Laws.{both_true}
use Rattle.range.specs.Sums.{has}
use Rattle.bounds.proofs.Filling.{holding-valid, holding-read, holding-more, none-left, copying-more, copying-end}
use Rattle.bounds.proofs.Working.{refers-valid}
use Rattle.bounds.proofs.table.Table.copied.Goals as goal

pub put_slope-requires : goal.put_slope-requires
put_slope-requires c = record {
  k_bound = c.requires.k_bound;
  a_bound = omega (arith, c.loop-a-test.true);
  r_value = holding-valid c.loop-a.invariant.0 _ _ c.requires.refers.earlier c.slope-r.ensures (refers-valid c.requires.refers);
}

pub loop-a-preserved : goal.loop-a-preserved
loop-a-preserved c =
    let hold = c.loop-a.invariant.0 in
    let r = c.slope-r.result in (
      holding-more hold c.loop-a.a r _ c.put_slope.ensures.slopes c.put_slope.ensures.beside,
      copying-more r c.loop-a.invariant.1 hold.eight (omega (arith, c.loop-a-test.true)) (holding-read hold _ _ c.requires.refers.earlier c.slope-r.ensures),
    )

pub returns : goal.returns
returns c = copying-end c.loop-a.invariant.0 c.loop-a.invariant.1 refl (λ b l m. absurd (omega arith)) (refers-valid c.requires.refers)

pub returns-then-set-a : goal.returns-then-set-a
returns-then-set-a c =
    copying-end c.loop-a.invariant.0 c.loop-a.invariant.1 refl
    (λ b l m. c.requires.refers.fine.flat b (sym (ap (λ s. has s b) c.requires.set_value) ∙ none-left _ _ (eqb-true _ 0 (both_true _ _ c.if-set-a.true).1) b l))
    (refers-valid c.requires.refers)
