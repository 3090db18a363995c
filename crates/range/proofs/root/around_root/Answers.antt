-- `range::root::around_root` meets its contract. Assumes nothing.
use borrow.Author.Rules.{rules}
use mathlib.Core.Path.{sym}
use Prim.Native.Nat.{◌≤◌}
use native.Mathlib.Omega.{arith}
use native.Mathlib.Nat.{zero-mul, mul-zero}
use Rattle.range.proofs.Roots.{around-over, around-none, around-made, minus-fits, product-within, root-within, root_over}
use Rattle.range.proofs.root.around_root.Goals as goal
use Rattle.range.proofs.root.around_root.Goals.{After-root_up-b, then-x-eq0-via-then-x-eq0, then-x-eq0-via-else-x-eq0+then-y-eq0}

pub returns-then-x-eq0 : goal.returns-then-x-eq0
returns-then-x-eq0 c =
    elim c.then-x-eq0.branch [
      | then-x-eq0-via-then-x-eq0 w ↦ sym (around-none _ (simp (w.if-x-eq0.true, zero-mul)))
      | then-x-eq0-via-else-x-eq0+then-y-eq0 w ↦ sym (around-none _ (simp (w.if-y-eq0.true, mul-zero)))
    ]

pub returns-then-y-x : goal.returns-then-y-x
returns-then-y-x c = sym (around-over _ (root_over _ _ (search rules) c.if-y-x.true))

pub overflow_mul-x : goal.overflow_mul-x
overflow_mul-x c = omega (arith, product-within _ _ c.if-y-x.false)

pub root_up-b-requires : goal.root_up-b-requires
root_up-b-requires c = omega (arith, product-within _ _ c.if-y-x.false)

-- the product is within the square of the limit
within : (c : After-root_up-b) → c.root_up-b.result ≤ 2000000000
within c = root-within _ c.root_up-b.ensures.value (product-within _ _ c.if-y-x.false)

pub overflow_sub-result : goal.overflow_sub-result
overflow_sub-result c = minus-fits _ (within c)

pub returns : goal.returns
returns c = around-made _ (within c) _ c.root_up-b.ensures.value
