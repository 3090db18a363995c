-- `fleet_text::report` meets its contract: one line after another. Assumes nothing.
use borrow.Author.Rules.{rules}
use mir.Facts.{to_z-of_z}
use mir.Syntax.{w64}
use Rattle.writer.proofs.Writing.{then}
use Rattle.fleet_text.specs.Output.{report_text, count_lines, sum_lines}
use Rattle.fleet_text.proofs.report.Goals as goal

pub returns : goal.returns
unfolding report_text count_lines sum_lines
returns c =
    let low = to_z-of_z {w = w64} {z = c.args.r.low} (search rules) in
    let high = to_z-of_z {w = w64} {z = c.args.r.high} (search rules) in
    then _ _ _ _ _
    (then _ _ _ _ _ c.line_of_one.ensures
    (then _ _ _ _ _ c.line_of_one-2.ensures
    (then _ _ _ _ _ c.line_of_one-3.ensures
    (then _ _ _ _ _ c.line_of_one-4.ensures c.line_of_one-5.ensures))))
    (then _ _ _ _ _ (rw low at c.line_of_whole.ensures) (then _ _ _ _ _ (rw high at c.line_of_whole-2.ensures) c.line_of_one-6.ensures))
