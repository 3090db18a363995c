-- `begins_with` meets its contract.
use Rattle.std.proofs.lemmas.Bool.Decides.{Decides-eqb}
use Rattle.std.proofs.lemmas.Slice.Eq.{starts_is}
use Rattle.codelist.proofs.LineTexts.{started}
use Rattle.codelist.proofs.begins_with.Goals as goal

pub returns : goal.returns
returns c =
    let w = c.args.w.now in
    let s = c.args.s.now in
    started w s c.type_inv.w _ (starts_is Decides-eqb s w _ c.starts_with.ensures.value)
