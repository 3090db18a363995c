-- `Sheet::raised` meets its contract.
use Rattle.std.proofs.Common.{arith, ap, ◌∙◌}
use Rattle.std.specs.declared.option.Option.TheVariants.{Some}
use Rattle.codelist.specs.Text.{Pow}
use Rattle.codelist.specs.Write.{plain}
use Rattle.formulas.proofs.WrittenLines.{one_line}
use Rattle.formulas.proofs.lines.Sheet.raised.Goals as goal

pub returns-in-Line : goal.returns-in-Line
returns-in-Line c =
    rw (c.in_ok-i.was ∙ ap Some c.in-Line.is)
    (one_line (Pow (plain c.in-Line.i) (plain c.args.m)) (omega arith) c.requires.0.0 c.requires.0.1 c.line.ensures.sheet c.line.ensures.number)
