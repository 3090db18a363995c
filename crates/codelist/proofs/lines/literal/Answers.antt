-- `literal` meets its contract.
use Rattle.std.proofs.lemmas.Bool.Decides.{Decides-eqb}
use Rattle.std.proofs.lemmas.Slice.Eq.{strip_prefix_is}
use Rattle.codelist.proofs.LineTexts.{stripped}
use Rattle.codelist.proofs.lines.literal.Goals as goal

pub returns : goal.returns
returns c =
    let w = c.args.w.now in
    let s = c.args.s.now in
    stripped w s c.type_inv.w _ (strip_prefix_is Decides-eqb s w _ c.strip_prefix.ensures.cases)
