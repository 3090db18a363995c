-- `op_at` meets its contract: the operation of the bytes that it reads, if it is well formed.
use mathlib.Core.Path.{refl, sym, ap, ◌∙◌}
use mathlib.Core.Bool.{Bool, cond}
use Rattle.std.specs.declared.option.Option.TheVariants.{Some, None}
use Rattle.encoding.specs.Decode.{formed}
use Rattle.encoding.proofs.Options.{given}
use Rattle.encoding.proofs.Reading.{from-op}
use Rattle.encoding.proofs.op_at.Goals as goal

pub returns-in_err-op : goal.returns-in_err-op
returns-in_err-op c =
    let a = c.args in
    c.from_residual.ensures
    ∙ sym (from-op a.state.now a.k a.earlier _ _ c.if-state-ne-LENGTH.false c.if-k-ge-MOST_OPS.false refl (sym (c.in_err-op.was) ∙ c.formed.ensures ∙ ap (formed _ _ _ _) c.from_le_bytes-u.ensures))

pub returns : goal.returns
returns c =
    let a = c.args in
    c.then_some.ensures ∙ given _ c.in_ok-op.op
    ∙ ap (λ (t : Bool). cond t (Some c.in_ok-op.op) None) c.is_op_well_formed.ensures
    ∙ sym (from-op a.state.now a.k a.earlier _ _ c.if-state-ne-LENGTH.false c.if-k-ge-MOST_OPS.false refl (sym (c.in_ok-op.was) ∙ c.formed.ensures ∙ ap (formed _ _ _ _) c.from_le_bytes-u.ensures))
