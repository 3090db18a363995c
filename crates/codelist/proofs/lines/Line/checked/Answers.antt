-- `checked` meets its contract: each way out is a case of `checked_of`.
use Rattle.std.proofs.Common.{rules}
use Rattle.std.proofs.Common.{sym, ◌∙◌}
use Rattle.codelist.specs.Load.{checked_of}
use Rattle.codelist.specs.Views.{text_line}
use Rattle.codelist.proofs.Checks.{fits}
use Rattle.codelist.proofs.lines.Line.checked.Goals as goal

pub returns-then-not-refers_back : goal.returns-then-not-refers_back
unfolding checked_of
returns-then-not-refers_back c = search rules

pub returns-then-not-exponent_fits : goal.returns-then-not-exponent_fits
unfolding checked_of
returns-then-not-exponent_fits c = search rules

pub returns-then-not-constant_fits : goal.returns-then-not-constant_fits
unfolding checked_of
returns-then-not-constant_fits c = search rules

pub returns-then-not-multiplier_fits : goal.returns-then-not-multiplier_fits
unfolding checked_of
returns-then-not-multiplier_fits c = search rules

pub op-requires : goal.op-requires
op-requires c = fits c.args.earlier (text_line c.args.self) c.requires
    (sym c.refers_back.ensures ∙ c.if-not-refers_back.false)
    (sym c.exponent_fits.ensures ∙ c.if-not-exponent_fits.false)
    (sym c.constant_fits.ensures ∙ c.if-not-constant_fits.false)

pub returns : goal.returns
unfolding checked_of
returns c = search rules
