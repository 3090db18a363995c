-- `printing::count_line` meets its contract: a numeral's line behind the word, or another text.
use Rattle.std.proofs.Common.{ap, sym, ◌∙◌}
use Rattle.codelist.specs.Read.{field}
use Rattle.formulas.proofs.Answers.{word-then, no_word}
use Rattle.formulas.proofs.printing.count_line.Goals as goal

pub returns-in_err-strip_prefix : goal.returns-in_err-strip_prefix
returns-in_err-strip_prefix c = rw c.from_residual.ensures (no_word c.args.input.now c.in_err-strip_prefix.ensures.cases)

pub returns : goal.returns
returns c =
    c.field.ensures ∙ ap (field 10) c.in_ok-strip_prefix.ensures.cases.1 ∙ sym (word-then c.args.input.now c.in_ok-strip_prefix.ensures.cases.0)
