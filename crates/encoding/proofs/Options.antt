-- A value given where a test passes: what it says that one is there.
use mathlib.Core.Bool.{Bool, true, false, cond}
use mathlib.Core.Path.{◌≡◌, refl}
use Rattle.std.specs.Bool.{then_some}
use Rattle.std.specs.declared.option.Option.{Option}
use Rattle.std.specs.declared.option.Option.TheVariants.{Some, None}

pub test-inv : {A : Type 0} (t : Bool) (r : Option A) (x : A) → cond t r None ≡ Some x → (t ≡ true) × (r ≡ Some x)
test-inv true r x e = (refl, e)
test-inv false r x e = cc

pub given : {A : Type 0} (t : Bool) (x : A) → then_some t x ≡ cond t (Some x) None
given true x = refl
given false x = refl
