-- `text::parted` meets its contract. Assumes nothing.
use Prim.Native.Nat.{ℕ, ◌+◌}
use mathlib.Core.Bool.{true}
use mathlib.Core.Path.{◌≡◌, refl, ap, ◌∙◌}
use native.Mathlib.Omega.{arith}
use lib.ListN.{length, take, drop}
use Rattle.std.proofs.lemmas.List.{drop-drop}
use Rattle.text.specs.Input.{sheet_length, sheet_of, after_line}
use Rattle.text.proofs.Splitting.{sheet_length-≤, rest_from}
use Rattle.text.proofs.parted.Goals as goal

pub split_at-requires : goal.split_at-requires
split_at-requires c = rw c.sheet_end.ensures (sheet_length-≤ c.args.w.now true c.args.s.now)

pub returns-clause-sheet : goal.returns-clause-sheet
unfolding sheet_of
returns-clause-sheet c = c.split_at.ensures.front ∙ ap (λ (n : ℕ). take n c.args.s.now) c.sheet_end.ensures

pub returns-clause-rest : goal.returns-clause-rest
unfolding after_line
returns-clause-rest c =
    let s = c.args.s.now in
    let w = c.args.w.now in
    let n = sheet_length w true s in
    let e : n + (length w + 1) ≡ n + length w + 1 = omega arith in
    rest_from c.split_at.result.1.now (length w + 1) _ _ _ refl c.get.ensures.lookup c.unwrap_or.ensures
    ∙ ap (drop (length w + 1)) (c.split_at.ensures.back ∙ ap (λ (m : ℕ). drop m s) c.sheet_end.ensures)
    ∙ drop-drop (length w + 1) n s ∙ ap (λ (m : ℕ). drop m s) e
