-- What the code's answer says. For private contracts only.
use Rattle.std.specs.Prelude.{List, ℕ}
use Rattle.std.specs.declared.result.Result.{Result}
use Rattle.std.specs.declared.result.Result.TheVariants.{Ok, Err}
use Rattle.rules.specs.declared.Limits.{Limits}
use Rattle.text.specs.Output as text
use Rattle.cut_text.specs.declared.Refusal.{Refusal}
use Rattle.cut_text.specs.declared.Refusal.TheVariants.{Load, Cut}
use Rattle.cut_text.specs.Output.{refusal_text}

-- What is printed of a cut of n factors
abbrev pub refused_text : Refusal → List ℕ
refused_text (Load why) = text.refusal_text why
refused_text (Cut why) = refusal_text why

abbrev pub told : Result (ℕ × Limits) Refusal → List ℕ
told (Ok p) = text.limits_text p.0 p.1
told (Err why) = refused_text why
