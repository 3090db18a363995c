-- `margin::search::first` meets its contract: `best` is the best of the factors before. Assumes nothing.
use borrow.Author.Rules.{rules}
use mathlib.Core.Logic.{inl, inr}
use mathlib.Core.Path.{◌≡◌, sym, ◌∙◌}
use Prim.Native.Nat.{◌+◌, ◌-◌}
use native.Mathlib.Omega.{arith}
use mir.Syntax.{w64}
use mir.Val.{to_z, of_z}
use Rattle.margin.proofs.Best.{units_of, best-next}
use Rattle.margin.proofs.Widened.{some-factor}
use Rattle.margin.proofs.Moving.{moves-rising, best-edge}
use Rattle.margin.proofs.search.first.Goals as goal
use Rattle.margin.proofs.search.first.Goals.{in-None, in-Some}
use Rattle.margin.proofs.search.first.Goals.{then-most-ne0+then-moves, else-most-ne0, else-most-ne0-via-then-most-ne0+else-moves, else-most-ne0-via-else-most-ne0}

pub loop-factor-preserved : goal.loop-factor-preserved
loop-factor-preserved c =
    let m : c.loop-factor.factor + 1 - 1 ≡ c.loop-factor.factor = omega arith in
    let read : (c.match-best.best ≡ c.loop-factor.best) × (c.match-best.most ≡ units_of c.loop-factor.best - 1) =
    elim c.match-best.branch [ in-None w ↦ (cc, rw w.in-None.is w.most-is) | in-Some w ↦ (cc, rw w.in-Some.is w.most-is) ] in
    rw m (best-next c.loop-factor.invariant (omega arith) (moves-rising c.requires _ (c.loop-factor.auto.factor, c.loop-factor-test.true)) read.1
    (elim c.if-most-ne0.branch [
      | then-most-ne0+then-moves w ↦ inl (w.least-units.result, (w.least-units.ensures.least, w.least-units.ensures.upper_bound, w.best-is))
      | else-most-ne0 w ↦ inr (
        elim w.else-most-ne0.branch [
          | else-most-ne0-via-then-most-ne0+else-moves v ↦ inr (sym v.moves.ensures ∙ v.if-moves.false)
          | else-most-ne0-via-else-most-ne0 v ↦ inl v.if-most-ne0.false
        ],
        w.best-is ∙ read.0,
      )
    ]))

pub returns-after-most-ne0 : goal.returns-after-most-ne0
returns-after-most-ne0 c =
    let ceiling-read : to_z w64 (of_z w64 c.args.ceiling) ≡ c.args.ceiling = search rules in
    let last : c.loop-factor.factor ≡ c.args.c.factors = omega arith in
    let read : (c.match-best.best ≡ c.loop-factor.best) × (c.match-best.most ≡ units_of c.loop-factor.best - 1) =
    elim c.match-best.branch [ in-None w ↦ (cc, rw w.in-None.is w.most-is) | in-Some w ↦ (cc, rw w.in-Some.is w.most-is) ] in
    let B = best-next c.loop-factor.invariant (omega arith) (moves-rising c.requires _ (c.loop-factor.auto.factor, c.loop-factor-test.true)) read.1
    (elim c.if-most-ne0.branch [
      | then-most-ne0+then-moves w ↦ inl (w.least-units.result, (w.least-units.ensures.least, w.least-units.ensures.upper_bound, w.best-is))
      | else-most-ne0 w ↦ inr (
        elim w.else-most-ne0.branch [
          | else-most-ne0-via-then-most-ne0+else-moves v ↦ inr (sym v.moves.ensures ∙ v.if-moves.false)
          | else-most-ne0-via-else-most-ne0 v ↦ inl v.if-most-ne0.false
        ],
        w.best-is ∙ read.0,
      )
    ]) in
    best-edge _ _ _ _ (rw (ceiling-read, last) at B)

pub returns : goal.returns
returns c = absurd (omega (arith, some-factor c.requires))
