-- `cut_text::depth_in` meets its contract. Assumes nothing.
use Rattle.std.proofs.Common.{◌≡◌, rules, sym, ◌∙◌, lit<, w64, to_z, of_z}
use mir.Facts.{to_z-of_z}
use Rattle.codelist.specs.Load.{value_of}
use Rattle.codelist.proofs.Laws.{saturated-few}
use Rattle.codelist.proofs.LineTexts.{field-sound}
use Rattle.cut_text.specs.Input.{depth→, depth_in, depth_line}
use Rattle.cut_text.proofs.FirstLine.{literal-prefix}
use Rattle.cut_text.proofs.depth_in.Goals as goal

pub returns-in_err-strip_prefix : goal.returns-in_err-strip_prefix
unfolding depth_in depth_line
returns-in_err-strip_prefix c =
    rw (c.from_residual.ensures, literal-prefix depth→ c.args.s.now (search rules), c.in_err-strip_prefix.ensures.cases)

pub returns-in_err-numeral : goal.returns-in_err-numeral
unfolding depth_in depth_line
returns-in_err-numeral c =
    let p = c.in_ok-strip_prefix.ensures.cases in
    rw (c.from_residual-in_err-numeral.ensures, literal-prefix depth→ c.args.s.now (search rules), p.0, ← p.1, ← c.in_err-numeral.ensures)

pub returns : goal.returns
unfolding depth_in depth_line
returns c =
    let p = c.in_ok-strip_prefix.ensures.cases in
    let v : to_z w64 (of_z w64 c.value-depth.result) ≡ value_of c.in_ok-numeral.numeral =
    to_z-of_z {w = w64} (search rules) ∙ c.value-depth.ensures
    ∙ saturated-few _ (field-sound 10 _ _ _ (lit< tt) (sym c.in_ok-numeral.ensures)).fine.few in
    rw (literal-prefix depth→ c.args.s.now (search rules), p.0, ← p.1, ← c.in_ok-numeral.ensures) (c.then_some.ensures ∙ rw (c.is_depth.ensures, v))
