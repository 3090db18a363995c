-- For the contracts of private functions only.
use Rattle.std.specs.Prelude.{◌≤◌, nat_abs}
use Rattle.codelist.specs.declared.Op.{Op}
use Rattle.codelist.specs.declared.Op.TheVariants.{Add, Mul, AddC, MulC, Pow, Inv}
use Rattle.exact.specs.Units.{limit}

-- An operation's constant is within the limit
abbrev pub Small : Op → Type 0
Small (Add i j) = Unit
Small (Mul i j) = Unit
Small (AddC i c) = nat_abs c ≤ limit
Small (MulC i c) = nat_abs c ≤ limit
Small (Pow i m) = Unit
Small (Inv i) = Unit
