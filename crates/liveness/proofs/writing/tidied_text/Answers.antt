use Prim.Native.Nat.{◌+◌}
use mathlib.Core.Path.{sym, ap, ◌∙◌}
use native.Mathlib.Omega.{arith}
use Rattle.codelist.specs.Codelist.{blank}
use Rattle.codelist.specs.declared.Op.{Op}
use Rattle.codelist.specs.Text.{line_text}
use Rattle.codelist.specs.Write.{text_line_of}
use Rattle.writer.specs.Lent.{Lent, put_text}
use Rattle.liveness.proofs.Written.{left, left-kept, left-dropped, begun, op-digits, ready, turned, whole}
use Rattle.liveness.proofs.writing.tidied_text.Goals as goal
use Rattle.liveness.proofs.writing.tidied_text.Goals.{then-used-n, else-used-n}

pub loop-k-init : goal.loop-k-init
loop-k-init c = begun c.args.c _ _ c.new-text.ensures c.first_line.ensures

pub op_line-requires : goal.op_line-requires
op_line-requires c =
    let r = ready c.args.c _ _ c.requires c.used_lines-used.ensures c.numbers-numbers.ensures in
    rw c.renumbered.ensures (op-digits c.args.c _ _ r c.loop-k.k (omega arith) _)

pub loop-k-preserved : goal.loop-k-preserved
loop-k-preserved c =
    let a = c.args in
    let k = c.loop-k.k in
    let o = c.loop-k.text in
    let r = ready a.c _ _ c.requires c.used_lines-used.ensures c.numbers-numbers.ensures in
    elim c.if-used-n.branch [
      | then-used-n w ↦ turned o _ _ _ _
          (w.text-is ∙ w.op_line.ensures ∙ ap (λ (x : Op). put_text o (line_text (text_line_of x))) w.renumbered.ensures)
          (left-kept a.c _ _ r k (omega arith) _ (rw c.from-n.ensures at w.if-used-n.true))
      | else-used-n w ↦ ap (λ (x : Lent). put_text x (left a.c (k + 1))) w.text-is
          ∙ ap (put_text o) (sym (left-dropped a.c _ _ r k (omega arith) blank (rw c.from-n.ensures at w.if-used-n.false)))
    ]
    ∙ c.loop-k.invariant

pub returns : goal.returns
returns c = whole c.args.c c.requires c.loop-k.text c.loop-k.k (omega arith) c.loop-k.invariant
