-- `increments::class::first_outside` meets its contract: what is left to search is what was to be searched. Assumes nothing.
use borrow.Author.Rules.{rules}
use mathlib.Core.Path.{◌≡◌, sym, ap₂, ◌∙◌}
use Prim.Native.Nat.{◌+◌, ◌*◌}
use native.Mathlib.Omega.{arith}
use lib.IntN.{pos}
use lib.ListN.{get_or}
use mir.Syntax.{w64}
use mir.Val.{to_z, of_z}
use Rattle.range.specs.Limit.{from_to}
use Rattle.range.specs.Sums.{at}
use Rattle.rules.specs.Rate.{pairs}
use Rattle.bounds.proofs.Ranges.{pairs-at}
use Rattle.increments.specs.Call.{first, second, holds}
use Rattle.increments.proofs.Outside.{both_in, searching-start, searching-found, searching-next, searching-end}
use Rattle.increments.proofs.class.first_outside.Goals as goal
use Rattle.increments.proofs.class.first_outside.Goals.{then-holds, else-holds}

pub loop-a-init : goal.loop-a-init
loop-a-init c = searching-start _ _ _

pub returns-then-not-holds : goal.returns-then-not-holds
returns-then-not-holds c =
    let l = c.loop-a-test.true in
    let few = c.requires.n_bound in
    let n = c.requires.ranges_len in
    let a = c.loop-a.a in
    let xs = c.args.ranges.now in
    let first_read : to_z w64 (of_z w64 (first c.args.boats.now a)) ≡ first c.args.boats.now a = search rules in
    let second-read : to_z w64 (of_z w64 (second c.args.n c.args.boats.now a)) ≡ second c.args.n c.args.boats.now a = search rules in
    let low-read : to_z w64 (of_z w64 (get_or xs (2 * a) (pos 0))) ≡ get_or xs (2 * a) (pos 0) = search rules in
    let high-read : to_z w64 (of_z w64 (get_or xs (2 * a + 1) (pos 0))) ≡ get_or xs (2 * a + 1) (pos 0) = search rules in
    let r : c.new-r.result ≡ at (pairs xs) a = c.new-r.ensures ∙ (ap₂ from_to low-read high-read ∙ pairs-at xs a _ (omega (arith, l, n))) in
    let first-held : c.holds.result ≡ holds (at (pairs xs) a) (first c.args.boats.now a) = c.holds.ensures ∙ ap₂ holds r first_read in
    let both : c.if-holds.value ≡ both_in c.args.n (pairs xs) c.args.boats.now a = elim c.if-holds.branch [
      | then-holds w ↦ w.value-is ∙ (w.holds-then-holds.ensures ∙ (ap₂ holds r second-read ∙ rw (sym first-held ∙ w.if-holds.true)))
      | else-holds w ↦ w.value-is ∙ (w.if-holds.false ∙ rw (sym first-held ∙ w.if-holds.false))
    ] in
    searching-found _ _ _ a c.loop-a.invariant l (sym both ∙ c.if-not-holds.true)

pub loop-a-preserved : goal.loop-a-preserved
loop-a-preserved c =
    let l = c.loop-a-test.true in
    let few = c.requires.n_bound in
    let n = c.requires.ranges_len in
    let a = c.loop-a.a in
    let xs = c.args.ranges.now in
    let first_read : to_z w64 (of_z w64 (first c.args.boats.now a)) ≡ first c.args.boats.now a = search rules in
    let second-read : to_z w64 (of_z w64 (second c.args.n c.args.boats.now a)) ≡ second c.args.n c.args.boats.now a = search rules in
    let low-read : to_z w64 (of_z w64 (get_or xs (2 * a) (pos 0))) ≡ get_or xs (2 * a) (pos 0) = search rules in
    let high-read : to_z w64 (of_z w64 (get_or xs (2 * a + 1) (pos 0))) ≡ get_or xs (2 * a + 1) (pos 0) = search rules in
    let r : c.new-r.result ≡ at (pairs xs) a = c.new-r.ensures ∙ (ap₂ from_to low-read high-read ∙ pairs-at xs a _ (omega (arith, l, n))) in
    let first-held : c.holds.result ≡ holds (at (pairs xs) a) (first c.args.boats.now a) = c.holds.ensures ∙ ap₂ holds r first_read in
    let both : c.if-holds.value ≡ both_in c.args.n (pairs xs) c.args.boats.now a = elim c.if-holds.branch [
      | then-holds w ↦ w.value-is ∙ (w.holds-then-holds.ensures ∙ (ap₂ holds r second-read ∙ rw (sym first-held ∙ w.if-holds.true)))
      | else-holds w ↦ w.value-is ∙ (w.if-holds.false ∙ rw (sym first-held ∙ w.if-holds.false))
    ] in
    searching-next _ _ _ a c.loop-a.invariant l (sym both ∙ c.if-not-holds.false)

pub returns : goal.returns
returns c = searching-end _ _ _ c.loop-a.a c.loop-a.invariant c.loop-a-test.false
