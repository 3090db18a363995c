-- The lowest factor whose range is not valid, as an option.
use Rattle.std.specs.Prelude.{ℕ, zero, suc, Option, Some, None}

-- 01's `first_bad` gives 0 where no range is bad: none.
abbrev pub or_none : ℕ → Option ℕ
or_none zero = None
or_none (suc a) = Some (suc a)
