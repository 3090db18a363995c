use mathlib.Core.Path.{◌≡◌, sym, ap₂, ◌∙◌}
use mathlib.Core.Bool.{true}
use native.Mathlib.Omega.{arith}
use borrow.Author.Tests.{eq-eqb, ne_eqb}
use Rattle.range.specs.Limit.{is_valid}
use Rattle.range.specs.Sums.{has}
use Rattle.bounds.proofs.Filling.{filling-in, filling-out, filling-over, filling-end, none-left, holding-valid, holding-read, holding-more}
use Rattle.bounds.proofs.Working.{refers-valid}
use Rattle.bounds.proofs.table.Table.fill.Goals as goal
use Rattle.bounds.proofs.table.Table.fill.Goals.{then-rest-eq1+else-not-is_range, else-rest-eq1}

pub rule-r-requires : goal.rule-r-requires
rule-r-requires g c =
    let hold = c.loop-a.invariant.0 in
    let x = c.slope.result in
    let y = c.slope-then-rest-eq1.result in
    let v : is_valid x ≡ true = holding-valid hold _ _ c.requires.refers.earlier c.slope.ensures (refers-valid c.requires.refers) in
    let w : is_valid y ≡ true = holding-valid hold _ _ c.requires.refers_2.earlier c.slope-then-rest-eq1.ensures (refers-valid c.requires.refers_2) in
    c.requires.callable x y v w

pub is_range-requires : goal.is_range-requires
is_range-requires g c =
    let hold = c.loop-a.invariant.0 in
    let x = c.slope.result in
    let y = c.slope-then-rest-eq1.result in
    let v : is_valid x ≡ true = holding-valid hold _ _ c.requires.refers.earlier c.slope.ensures (refers-valid c.requires.refers) in
    let w : is_valid y ≡ true = holding-valid hold _ _ c.requires.refers_2.earlier c.slope-then-rest-eq1.ensures (refers-valid c.requires.refers_2) in
    c.requires.told x y _ v w c.rule-r.ensures

pub returns-then-not-is_range : goal.returns-then-not-is_range
unfolding has
returns-then-not-is_range g c = λ f e.
    let hold = c.loop-a.invariant.0 in
    let x = c.slope.result in
    let y = c.slope-then-rest-eq1.result in
    let v : is_valid x ≡ true = holding-valid hold _ _ c.requires.refers.earlier c.slope.ensures (refers-valid c.requires.refers) in
    let w : is_valid y ≡ true = holding-valid hold _ _ c.requires.refers_2.earlier c.slope-then-rest-eq1.ensures (refers-valid c.requires.refers_2) in
    filling-over (c.loop-a.invariant.1 f e) (omega arith) (eq-eqb _ 1 c.if-rest-eq1.true) c.rule-r.result
    (e x y _ v w c.rule-r.ensures
    ∙ ap₂ f (holding-read hold _ _ c.requires.refers.earlier c.slope.ensures) (holding-read hold _ _ c.requires.refers_2.earlier c.slope-then-rest-eq1.ensures))
    hold (sym c.is_range.ensures ∙ c.if-not-is_range.true)

pub loop-a-preserved : goal.loop-a-preserved
unfolding has
loop-a-preserved g c =
    let hold = c.loop-a.invariant.0 in
    elim c.if-rest-eq1.branch [
      | then-rest-eq1+else-not-is_range w ↦
          let x = w.slope.result in
          let y = w.slope-then-rest-eq1.result in
          let v : is_valid x ≡ true = holding-valid hold _ _ c.requires.refers.earlier w.slope.ensures (refers-valid c.requires.refers) in
          let z : is_valid y ≡ true = holding-valid hold _ _ c.requires.refers_2.earlier w.slope-then-rest-eq1.ensures (refers-valid c.requires.refers_2) in
          let ok : is_valid w.rule-r.result ≡ true = sym w.is_range.ensures ∙ w.if-not-is_range.false in
          rw (w.self-is, w.g-is) (
            holding-more hold _ w.rule-r.result _ w.put_slope.ensures.slopes w.put_slope.ensures.beside,
            λ f e.
                filling-in (c.loop-a.invariant.1 f e) (omega arith) (eq-eqb _ 1 w.if-rest-eq1.true) w.rule-r.result
                (e x y _ v z w.rule-r.ensures
                ∙ ap₂ f (holding-read hold _ _ c.requires.refers.earlier w.slope.ensures) (holding-read hold _ _ c.requires.refers_2.earlier w.slope-then-rest-eq1.ensures))
                hold.eight ok,
          )
      | else-rest-eq1 w ↦
          rw (w.self-is, w.g-is) (hold, λ f e. filling-out (c.loop-a.invariant.1 f e) (omega arith) (ne_eqb _ 1 w.if-rest-eq1.false))
    ]

pub returns : goal.returns
returns g c = λ f e. filling-end (omega arith) (λ b l m. absurd (omega arith)) (c.loop-a.invariant.1 f e) c.loop-a.invariant.0

pub returns-then-rest-eq0 : goal.returns-then-rest-eq0
returns-then-rest-eq0 g c = λ f e.
    filling-end (omega arith) (λ b l m. none-left _ _ c.if-rest-eq0.true b l) (c.loop-a.invariant.1 f e) c.loop-a.invariant.0
