-- `boats::totals::with_value` meets its contract. Assumes nothing.
use mathlib.Core.Path.{◌≡◌, refl, sym, ap, ◌∙◌}
use lib.IntN.{ℤ}
use mir.Syntax.{w64}
use mir.Val.{to_z, of_z}
use mir.Facts.{to_z-of_z}
use Rattle.range.proofs.Fitting.{low_read, high_read}
use Rattle.boats.specs.Walk.{exceeds}
use Rattle.boats.proofs.Adding.{value_made, exceeds-first, exceeds-later, low-back, high-back, top_back, low_fits, high_fits, low-added, high-added}
use Rattle.boats.proofs.totals.with_value.Goals as goal
use Rattle.boats.proofs.totals.with_value.Goals.{then-sum-eq0, else-sum-eq0}

pub overflow_add-report-2 : goal.overflow_add-report-2
overflow_add-report-2 c =
    let a = c.args in
    let few = c.requires.k_bound in
    let valid = c.requires.value_value in
    rw (low-back a.k a.sum few, low_read a.value valid) (low_fits a.k a.sum few a.value valid)

pub overflow_add-report-3 : goal.overflow_add-report-3
overflow_add-report-3 c =
    let a = c.args in
    let few = c.requires.k_bound in
    let valid = c.requires.value_value in
    rw (high-back a.k a.sum few, high_read a.value valid) (high_fits a.k a.sum few a.value valid)

pub returns-then-sum-value : goal.returns-then-sum-value
returns-then-sum-value c =
    let a = c.args in
    let few = c.requires.k_bound in
    let valid = c.requires.value_value in
    let leads : c.if-sum-eq0.value ≡ exceeds a.sum a.value.high = elim c.if-sum-eq0.branch [
      | then-sum-eq0 w ↦ w.value-is ∙ exceeds-first a.sum a.value.high w.if-sum-eq0.true
      | else-sum-eq0 w ↦ w.value-is ∙ rw (top_back a.k a.sum few, high_read a.value valid) (exceeds-later a.sum a.value.high w.if-sum-eq0.false)
    ] in
    value_made a.k a.sum a.value (sym c.if-sum-value.true ∙ leads)
    (ap (λ (z : ℤ). to_z w64 (of_z w64 z)) (low-added a.k a.sum few a.value valid) ∙ to_z-of_z (low_fits a.k a.sum few a.value valid))
    (ap (λ (z : ℤ). to_z w64 (of_z w64 z)) (high-added a.k a.sum few a.value valid) ∙ to_z-of_z (high_fits a.k a.sum few a.value valid))
    refl
    (high_read a.value valid)

pub returns-else-sum-value : goal.returns-else-sum-value
returns-else-sum-value c =
    let a = c.args in
    let few = c.requires.k_bound in
    let valid = c.requires.value_value in
    let leads : c.if-sum-eq0.value ≡ exceeds a.sum a.value.high = elim c.if-sum-eq0.branch [
      | then-sum-eq0 w ↦ w.value-is ∙ exceeds-first a.sum a.value.high w.if-sum-eq0.true
      | else-sum-eq0 w ↦ w.value-is ∙ rw (top_back a.k a.sum few, high_read a.value valid) (exceeds-later a.sum a.value.high w.if-sum-eq0.false)
    ] in
    value_made a.k a.sum a.value (sym c.if-sum-value.false ∙ leads)
    (low-added a.k a.sum few a.value valid)
    (high-added a.k a.sum few a.value valid)
    refl
    (top_back a.k a.sum few)
