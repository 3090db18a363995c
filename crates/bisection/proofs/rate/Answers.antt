-- `bisection::rate` meets its contract. Assumes nothing.
use borrow.Author.Rules.{rules}
use mathlib.Core.Path.{◌≡◌, sym, ap, ◌∙◌}
use mathlib.Core.Bool.{true}
use Prim.Native.Nat.{◌*◌}
use native.Mathlib.Omega.{arith}
use Rattle.std.proofs.lemmas.List.{length-take-le}
use mir.Syntax.{w64}
use mir.Val.{to_z, of_z}
use Rattle.std.proofs.lemmas.Result.{err_from_is_err_and}
use Rattle.codelist.specs.Codelist.{ratable}
use Rattle.bisection.specs.Cut.{is_depth, refused_with, in_full}
use Rattle.bisection.proofs.Answers.{no-codelist, bad-depth, bad-count, few-numbers, bad-byte, bad-refused, box-made, parts-refused, parts-rated}
use Rattle.bisection.proofs.rate.Goals as goal

pub returns-then-not-is_ratable : goal.returns-then-not-is_ratable
returns-then-not-is_ratable c = no-codelist _ _ _ (sym c.is_ratable.ensures ∙ c.if-not-is_ratable.true)

pub returns-then-not-is_depth : goal.returns-then-not-is_depth
returns-then-not-is_depth c =
    let can : ratable c.args.engine.codelist ≡ true = sym c.is_ratable.ensures ∙ c.if-not-is_ratable.false in
    let depth-read : to_z w64 (of_z w64 c.args.depth) ≡ c.args.depth = search rules in
    bad-depth _ _ _ can (ap is_depth (sym depth-read) ∙ sym c.is_depth.ensures ∙ c.if-not-is_depth.true)

pub returns-then-ranges-n : goal.returns-then-ranges-n
returns-then-ranges-n c =
    let can : ratable c.args.engine.codelist ≡ true = sym c.is_ratable.ensures ∙ c.if-not-is_ratable.false in
    let depth-read : to_z w64 (of_z w64 c.args.depth) ≡ c.args.depth = search rules in
    let deep : is_depth c.args.depth ≡ true = ap is_depth (sym depth-read) ∙ sym c.is_depth.ensures ∙ c.if-not-is_depth.false in
    bad-count _ _ _ can deep (λ n. c.if-ranges-n.true (n ∙ ap (λ k. 2 * k) (sym c.from-n.ensures)))

pub overflow_cast-result : goal.overflow_cast-result
overflow_cast-result c =
    let can : ratable c.args.engine.codelist ≡ true = sym c.is_ratable.ensures ∙ c.if-not-is_ratable.false in
    let depth-read : to_z w64 (of_z w64 c.args.depth) ≡ c.args.depth = search rules in
    let deep : is_depth c.args.depth ≡ true = ap is_depth (sym depth-read) ∙ sym c.is_depth.ensures ∙ c.if-not-is_depth.false in
    omega (arith, bad-byte _ c.args.ranges.now c.args.depth can deep _ c.from-n.ensures c.if-ranges-n.false c.in-Some.ensures)

pub returns-in-Some : goal.returns-in-Some
returns-in-Some c =
    let can : ratable c.args.engine.codelist ≡ true = sym c.is_ratable.ensures ∙ c.if-not-is_ratable.false in
    let depth-read : to_z w64 (of_z w64 c.args.depth) ≡ c.args.depth = search rules in
    let deep : is_depth c.args.depth ≡ true = ap is_depth (sym depth-read) ∙ sym c.is_depth.ensures ∙ c.if-not-is_depth.false in
    bad-refused _ _ _ can deep _ c.from-n.ensures c.if-ranges-n.false c.in-Some.ensures

pub slice_bounds-ends-end : goal.slice_bounds-ends-end
slice_bounds-ends-end c = few-numbers c.args.engine c.args.ranges.now (sym c.is_ratable.ensures ∙ c.if-not-is_ratable.false) c.from-n.ensures c.if-ranges-n.false

pub slice_bounds-copy_from_slice-end : goal.slice_bounds-copy_from_slice-end
slice_bounds-copy_from_slice-end c =
    let few = few-numbers c.args.engine c.args.ranges.now (sym c.is_ratable.ensures ∙ c.if-not-is_ratable.false) c.from-n.ensures c.if-ranges-n.false in
    sym (length-take-le _ _ few)

pub copy_from_slice-requires : goal.copy_from_slice-requires
copy_from_slice-requires c =
    let few = few-numbers c.args.engine c.args.ranges.now (sym c.is_ratable.ensures ∙ c.if-not-is_ratable.false) c.from-n.ensures c.if-ranges-n.false in
    length-take-le _ _ few

pub parts-requires : goal.parts-requires
parts-requires c =
    let can : ratable c.args.engine.codelist ≡ true = sym c.is_ratable.ensures ∙ c.if-not-is_ratable.false in
    let depth-read : to_z w64 (of_z w64 c.args.depth) ≡ c.args.depth = search rules in
    let deep : is_depth c.args.depth ≡ true = ap is_depth (sym depth-read) ∙ sym c.is_depth.ensures ∙ c.if-not-is_depth.false in
    box-made _ _ c.args.depth can deep _ c.from-n.ensures c.if-ranges-n.false (sym c.in_default.is ∙ c.first_bad.ensures) _ c.copy_from_slice.ensures.after (search rules)

pub returns-in_err-parts : goal.returns-in_err-parts
returns-in_err-parts c =
    let can : ratable c.args.engine.codelist ≡ true = sym c.is_ratable.ensures ∙ c.if-not-is_ratable.false in
    let depth-read : to_z w64 (of_z w64 c.args.depth) ≡ c.args.depth = search rules in
    let deep : is_depth c.args.depth ≡ true = ap is_depth (sym depth-read) ∙ sym c.is_depth.ensures ∙ c.if-not-is_depth.false in
    let q = err_from_is_err_and c.from_residual.result c.from_residual.ensures.1 in
    let none = sym c.in_default.is ∙ c.first_bad.ensures in
    ap in_full q.1
    ∙ (ap refused_with q.2
    ∙ parts-refused _ _ _ can deep _ c.from-n.ensures c.if-ranges-n.false none _ c.copy_from_slice.ensures.after (rw depth-read at c.in_err-parts.ensures))

pub returns : goal.returns
returns c =
    let can : ratable c.args.engine.codelist ≡ true = sym c.is_ratable.ensures ∙ c.if-not-is_ratable.false in
    let depth-read : to_z w64 (of_z w64 c.args.depth) ≡ c.args.depth = search rules in
    let deep : is_depth c.args.depth ≡ true = ap is_depth (sym depth-read) ∙ sym c.is_depth.ensures ∙ c.if-not-is_depth.false in
    let none = sym c.in_default.is ∙ c.first_bad.ensures in
    parts-rated _ _ _ can deep _ c.from-n.ensures c.if-ranges-n.false none _ c.copy_from_slice.ensures.after (rw depth-read at c.in_ok-parts.ensures)
