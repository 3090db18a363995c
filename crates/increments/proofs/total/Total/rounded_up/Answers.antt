-- `increments::total::Total::rounded_up` meets its contract. Assumes nothing.
use mathlib.Core.Path.{◌≡◌, sym, ap, ap₂, ◌∙◌}
use native.Mathlib.Omega.{arith}
use lib.IntN.{ℤ, pos, ◌+ℤ◌}
use mir.Syntax.{w64}
use mir.Val.{to_z, of_z}
use Rattle.increments.specs.declared.total.Total.{Total}
use Rattle.increments.specs.Steps.{rounded_down}
use Rattle.increments.proofs.Totals.{few-read, raised_total, raised-few, up-down, up-read}
use Rattle.increments.proofs.total.Total.rounded_up.Goals as goal

pub returns : goal.returns
returns c =
    let t : Total = c.args.self in
    let whole-read : to_z w64 (of_z w64 t.whole) ≡ t.whole = few-read t.whole (omega (arith, c.requires.whole)) in
    let rest_read : to_z w64 (of_z w64 t.rest) ≡ t.rest = few-read t.rest (omega (arith, c.requires.rest)) in
    let raised-read : to_z w64 (of_z w64 (to_z w64 (of_z w64 t.rest) +ℤ pos 9999)) ≡ t.rest +ℤ pos 9999 = rw rest_read (few-read (t.rest +ℤ pos 9999) (omega (arith, raised-few t c.requires))) in
    let down : c.rounded_down.result ≡ rounded_down (raised_total t) =
    c.rounded_down.ensures ∙ ap₂ (λ (w r : ℤ). rounded_down (record { whole = w; rest = r })) whole-read raised-read in
    ap (λ (z : ℤ). to_z w64 (of_z w64 z)) (down ∙ sym (up-down t)) ∙ up-read t c.requires
