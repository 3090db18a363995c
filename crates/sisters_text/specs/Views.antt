-- What the code's reader and its answer say. For private contracts only.
use Rattle.std.specs.Prelude.{List, [], ℕ, ◌*◌, ℤ, take}
use Rattle.std.specs.declared.option.Option.{Option}
use Rattle.std.specs.declared.option.Option.TheVariants.{Some, None}
use Rattle.std.specs.declared.result.Result.{Result}
use Rattle.std.specs.declared.result.Result.TheVariants.{Ok, Err}
use Rattle.range.specs.declared.Range.{Range}
use Rattle.engine.specs.declared.Refusal.{Refusal}
use Rattle.text.specs.Output.{refusal_text}
use Rattle.sisters_text.specs.Output.{difference_line}

-- The values of the boats, n each
abbrev pub values_of : ℕ → Option (List ℤ) → List ℤ
values_of n (Some xs) = take (2 * n) xs
values_of n None = []

-- What is printed of a difference
abbrev pub told : Result Range Refusal → List ℕ
told (Ok x) = difference_line x
told (Err why) = refusal_text why
