use Rattle.std.proofs.Common.{ℕ, ◌+◌, ◌-◌, ◌*◌, refl, arith, ◌∙◌, subst}
use Rattle.codelist.proofs.Laws.{Roomy, roomy-small, roomy-more, digit-read, digits-end, digits-step, digits-none}
use Rattle.codelist.proofs.numerals.more_digits.Goals as goal
use Rattle.codelist.proofs.numerals.more_digits.Goals.{else-loop-test, then-loop-test+in_default}

pub loop-init : goal.loop-init
loop-init c = record { left = refl; roomy = omega arith }

pub overflow_mul-magnitude : goal.overflow_mul-magnitude
overflow_mul-magnitude c = omega (arith, roomy-small _ _ c.loop.invariant.roomy)

pub overflow_add-magnitude : goal.overflow_add-magnitude
overflow_add-magnitude c =
    omega (arith, roomy-small _ _ c.loop.invariant.roomy, (digit-read c.loop.rest.now _ _ c.in-Some.ensures).0)

pub loop-preserved : goal.loop-preserved
loop-preserved c =
    let d = digit-read c.loop.rest.now _ _ c.in-Some.ensures in
    record {
      left = digits-step (9 - c.loop.counter) _ _ c.loop.rest.now _ _ _ (omega arith) c.in-Some.ensures ∙ c.loop.invariant.left;
      roomy = subst (λ (k : ℕ). Roomy k (c.loop.magnitude * 10 + c.in-Some.d)) (omega arith) (roomy-more (9 - c.loop.counter) _ _ (omega arith) d.0 c.loop.invariant.roomy);
    }

pub returns : goal.returns
returns c =
    elim c.loop-test.branch [
      | else-loop-test w ↦ digits-none _ _ _ _ (omega arith) ∙ c.loop.invariant.left
      | then-loop-test+in_default w ↦ digits-end _ _ _ c.loop.rest.now w.in_default.ensures ∙ c.loop.invariant.left
    ]
