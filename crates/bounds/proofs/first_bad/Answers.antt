-- `bounds::first_bad` meets its contract: what is left to search is what was to be searched. Assumes nothing.
use mathlib.Core.Path.{◌≡◌, refl, sym, ap, ◌∙◌}
use Prim.Native.Nat.{ℕ, ◌+◌, ◌<◌}
use Rattle.std.specs.Prelude.{Some}
use native.Mathlib.Numerals.{add-one}
use native.Mathlib.Omega.{arith}
use lib.ListN.{length}
use Rattle.range.specs.Limit.{is_valid}
use Rattle.range.specs.Sums.{at}
use Rattle.rules.specs.Rate.{pairs}
use Rattle.bounds.specs.FirstBad.{or_none}
use Rattle.bounds.proofs.Ranges.{pairs-half, bad-here, bad-next, bad-end}
use Rattle.bounds.proofs.first_bad.Goals as goal

some-or-none : (a : ℕ) → Some (a + 1) ≡ or_none (a + 1)
some-or-none a = ap Some (add-one a) ∙ sym (ap or_none (add-one a))

pub loop-a-init : goal.loop-a-init
loop-a-init c = refl

pub range_at-requires : goal.range_at-requires
range_at-requires c = rw (pairs-half c.args.xs.now) (omega arith)

pub returns-then-not-valid : goal.returns-then-not-valid
returns-then-not-valid c =
    let more : c.loop-a.a < length (pairs c.args.xs.now) = rw (pairs-half c.args.xs.now) (omega arith) in
    let tested : is_valid (at (pairs c.args.xs.now) c.loop-a.a) ≡ c.valid.result = sym (c.valid.ensures ∙ ap is_valid c.range_at.ensures) in
    some-or-none c.loop-a.a ∙ sym (ap or_none (sym c.loop-a.invariant ∙ bad-here _ c.loop-a.a more (tested ∙ c.if-not-valid.true)))

pub loop-a-preserved : goal.loop-a-preserved
loop-a-preserved c =
    let more : c.loop-a.a < length (pairs c.args.xs.now) = rw (pairs-half c.args.xs.now) (omega arith) in
    let tested : is_valid (at (pairs c.args.xs.now) c.loop-a.a) ≡ c.valid.result = sym (c.valid.ensures ∙ ap is_valid c.range_at.ensures) in
    sym (bad-next _ c.loop-a.a more (tested ∙ c.if-not-valid.false)) ∙ c.loop-a.invariant

pub returns : goal.returns
returns c = sym (ap or_none (sym c.loop-a.invariant ∙ bad-end _ c.loop-a.a (omega (arith, pairs-half c.args.xs.now))))
