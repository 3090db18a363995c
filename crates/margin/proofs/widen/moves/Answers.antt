-- `margin::widen::moves` meets its contract. Assumes nothing.
use borrow.Author.Rules.{rules}
use mathlib.Core.Path.{◌≡◌, refl, sym, ap, ap₂, ◌∙◌}
use native.Mathlib.Omega.{arith}
use lib.ListN.{length}
use lib.Signed.{lt_z}
use mir.Syntax.{w64}
use mir.Val.{to_z, of_z}
use Rattle.range.proofs.Fitting.{high_read}
use Rattle.rules.specs.Rate.{rate_of}
use Rattle.margin.proofs.Widened.{widenable, wider-length}
use Rattle.margin.proofs.Moving.{value-valid, moves-refused, moves-rated}
use Rattle.margin.proofs.widen.moves.Goals as goal

pub wider-ends-requires : goal.wider-ends-requires
wider-ends-requires c = widenable c.requires.rateable c.requires.factor

pub slice_bounds-ends-end : goal.slice_bounds-ends-end
slice_bounds-ends-end c =
    let W = widenable c.requires.rateable c.requires.factor in
    let n : length c.wider-ends.result ≡ 16 = search rules in
    omega (arith, W.few, n)

pub slice_bounds-rate-end : goal.slice_bounds-rate-end
slice_bounds-rate-end c =
    let a = c.args in
    sym (wider-length a.ranges.now a.a a.w) ∙ ap length (sym c.wider-ends.ensures)

pub returns-in-Err : goal.returns-in-Err
returns-in-Err c =
    let rated = c.in-Err.ensures ∙ ap (rate_of c.args.c) c.wider-ends.ensures in
    sym (moves-refused _ _ _ _ _ (sym rated))

pub returns-in-Ok : goal.returns-in-Ok
returns-in-Ok c =
    let a = c.args in
    let v = c.in-Ok.limits.value in
    let rated = c.in-Ok.ensures ∙ ap (rate_of a.c) c.wider-ends.ensures in
    let ceiling : to_z w64 (of_z w64 a.ceiling) ≡ a.ceiling = search rules in
    ap₂ lt_z ceiling (high_read v (value-valid _ _ c.in-Ok.ensures refl)) ∙ sym (moves-rated _ _ _ _ _ (sym rated))
