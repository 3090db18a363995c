-- `Sheet::joined` meets its contract, sign by sign.
use Rattle.std.proofs.Common.{◌^◌, ◌<◌, arith, ap, subst, ◌∙◌}
use Rattle.std.specs.declared.option.Option.TheVariants.{Some}
use Rattle.codelist.specs.declared.Numeral.{Numeral}
use Rattle.codelist.specs.Text.{Add, Mul, AddC, MulC, Inv, two, addc→}
use Rattle.codelist.specs.Write.{plain, numeral_of}
use Rattle.formulas.specs.Convert.{minus_one, negated}
use Rattle.formulas.specs.Views.{with_line, Short}
use Rattle.formulas.proofs.WrittenLines.{one_line, two-lines, of_operands, negative}
use Rattle.formulas.proofs.lines.Sheet.joined.Goals as goal
use Rattle.formulas.proofs.lines.Sheet.joined.Goals.{in-Line-Plus-Fixed, in-Line-Plus-Fixed-2, in-Line-Times-Fixed, in-Line-Times-Fixed-2}

pub returns-in-Line-Plus-Line : goal.returns-in-Line-Plus-Line
returns-in-Line-Plus-Line c =
    let p = c.in-Line-Plus-Line in
    of_operands (c.in_ok-left.was ∙ ap Some p.is-0) (c.in_ok-j.was ∙ ap Some p.is-2) p.is-1
    (one_line (Add (plain p.i) (plain p.j)) (omega arith) c.requires.0.0 c.requires.0.1 c.line-number.ensures.sheet c.line-number.ensures.number)

pub returns-in-Line-Minus-Line : goal.returns-in-Line-Minus-Line
unfolding numeral_of
returns-in-Line-Minus-Line c =
    let p = c.in-Line-Minus-Line in
    of_operands (c.in_ok-left.was ∙ ap Some p.is-0) (c.in_ok-j.was ∙ ap Some p.is-2) p.is-1
    (two-lines (MulC (plain p.j) minus_one) (λ k. Add (plain p.i) (plain k)) c.requires.0.0 c.requires.0.1 c.signed_line-negative.ensures.sheet c.signed_line-negative.ensures.number c.line-number-in-Line-Minus-Line.ensures.sheet c.line-number-in-Line-Minus-Line.ensures.number)

pub returns-in-Line-Times-Line : goal.returns-in-Line-Times-Line
returns-in-Line-Times-Line c =
    let p = c.in-Line-Times-Line in
    of_operands (c.in_ok-left.was ∙ ap Some p.is-0) (c.in_ok-j.was ∙ ap Some p.is-2) p.is-1
    (one_line (Mul (plain p.i) (plain p.j)) (omega arith) c.requires.0.0 c.requires.0.1 c.line-number-in-Line-Times-Line.ensures.sheet c.line-number-in-Line-Times-Line.ensures.number)

pub returns-in-Line-Over-Line : goal.returns-in-Line-Over-Line
returns-in-Line-Over-Line c =
    let p = c.in-Line-Over-Line in
    of_operands (c.in_ok-left.was ∙ ap Some p.is-0) (c.in_ok-j.was ∙ ap Some p.is-2) p.is-1
    (two-lines (Inv (plain p.j)) (λ k. Mul (plain p.i) (plain k)) c.requires.0.0 c.requires.0.1 c.inverse-inverse.ensures.sheet c.inverse-inverse.ensures.number c.line-number-in-Line-Over-Line.ensures.sheet c.line-number-in-Line-Over-Line.ensures.number)

pub returns-in-Line-Plus-Fixed : goal.returns-in-Line-Plus-Fixed
returns-in-Line-Plus-Fixed c =
    let r = c.line-number-in-Line-Plus-Fixed.ensures in
    elim c.in-Line-Plus-Fixed-1.branch [
      | in-Line-Plus-Fixed w ↦
          let p = w.in-Line-Plus-Fixed in
          of_operands (c.in_ok-left.was ∙ ap Some p.is-0) (c.in_ok-j.was ∙ ap Some p.is-2) p.is-1
          (one_line (AddC (plain p.field-0-0) (plain p.field-0-2)) (omega arith) c.requires.0.0 c.requires.0.1 (cc r.sheet) r.number)
      | in-Line-Plus-Fixed-2 w ↦
          let p = w.in-Line-Plus-Fixed in
          of_operands (c.in_ok-left.was ∙ ap Some p.is-0) (c.in_ok-j.was ∙ ap Some p.is-2) p.is-1
          (one_line (AddC (plain p.field-0-2) (plain p.field-0-0)) (omega arith) c.requires.0.0 c.requires.0.1 (cc r.sheet) r.number)
    ]

pub returns-in-Line-Times-Fixed : goal.returns-in-Line-Times-Fixed
returns-in-Line-Times-Fixed c =
    let r = c.line-number-in-Line-Times-Fixed.ensures in
    elim c.in-Line-Times-Fixed-1.branch [
      | in-Line-Times-Fixed w ↦
          let p = w.in-Line-Times-Fixed in
          of_operands (c.in_ok-left.was ∙ ap Some p.is-0) (c.in_ok-j.was ∙ ap Some p.is-2) p.is-1
          (one_line (MulC (plain p.field-0-0) (plain p.field-0-2)) (omega arith) c.requires.0.0 c.requires.0.1 (cc r.sheet) r.number)
      | in-Line-Times-Fixed-2 w ↦
          let p = w.in-Line-Times-Fixed in
          of_operands (c.in_ok-left.was ∙ ap Some p.is-0) (c.in_ok-j.was ∙ ap Some p.is-2) p.is-1
          (one_line (MulC (plain p.field-0-2) (plain p.field-0-0)) (omega arith) c.requires.0.0 c.requires.0.1 (cc r.sheet) r.number)
    ]

pub returns-in-Fixed-Minus-Line : goal.returns-in-Fixed-Minus-Line
unfolding numeral_of
returns-in-Fixed-Minus-Line c =
    let p = c.in-Fixed-Minus-Line in
    of_operands (c.in_ok-left.was ∙ ap Some p.is-0) (c.in_ok-j.was ∙ ap Some p.is-2) p.is-1
    (two-lines (MulC (plain p.j) minus_one) (λ k. AddC (plain k) (plain p.c)) c.requires.0.0 c.requires.0.1 c.signed_line-negative-in-Fixed-Minus-Line.ensures.sheet c.signed_line-negative-in-Fixed-Minus-Line.ensures.number c.line-number-in-Fixed-Minus-Line.ensures.sheet c.line-number-in-Fixed-Minus-Line.ensures.number)

pub returns-in-Fixed-Over-Line : goal.returns-in-Fixed-Over-Line
returns-in-Fixed-Over-Line c =
    let p = c.in-Fixed-Over-Line in
    of_operands (c.in_ok-left.was ∙ ap Some p.is-0) (c.in_ok-j.was ∙ ap Some p.is-2) p.is-1
    (two-lines (Inv (plain p.j)) (λ k. MulC (plain k) (plain p.c)) c.requires.0.0 c.requires.0.1 c.inverse-inverse-in-Fixed-Over-Line.ensures.sheet c.inverse-inverse-in-Fixed-Over-Line.ensures.number c.line-number-in-Fixed-Over-Line.ensures.sheet c.line-number-in-Fixed-Over-Line.ensures.number)

pub returns-in-Line-Minus-Fixed : goal.returns-in-Line-Minus-Fixed
returns-in-Line-Minus-Fixed c =
    let p = c.in-Line-Minus-Fixed in
    let f : p.c < 10 ^ 10 = subst Short (c.in_ok-j.was ∙ ap Some p.is-2) c.requires.2 in
    of_operands (c.in_ok-left.was ∙ ap Some p.is-0) (c.in_ok-j.was ∙ ap Some p.is-2) p.is-1
    (one_line (AddC (plain p.i) (negated p.c)) (omega arith) c.requires.0.0 c.requires.0.1
    (c.signed_line-number.ensures.sheet ∙ ap (λ (x : Numeral). with_line c.args.self.now (two addc→ (plain p.i) x)) (negative p.c f))
    c.signed_line-number.ensures.number)
