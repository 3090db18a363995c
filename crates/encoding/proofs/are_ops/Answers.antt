-- `are_ops` meets its contract: the operations are tested one after another.
use Prim.Native.Nat.{ℕ, suc, zero, ◌+◌}
use mathlib.Core.Bool.{Bool, ◌&&◌}
use mathlib.Core.List.{List}
use mathlib.Core.Path.{◌≡◌, refl, ap, ◌∙◌}
use native.Mathlib.Nat.{add-zero}
use native.Mathlib.Omega.{arith}
use Rattle.std.proofs.Common.{rules, tests}
use Rattle.std.proofs.lemmas.Iterator.{YieldsList-from_range}
use Rattle.std.proofs.lemmas.Iterator.Search.{all_from_yields_List}
use Rattle.std.specs.List.{list_all, range_with_len}
use Rattle.std.specs.Option.{is_some}
use Rattle.encoding.specs.Decode.{op_at, are_ops}
use Rattle.encoding.proofs.are_ops.Goals as goal

-- The operation at k is there
abbrev there : List ℕ → ℕ → ℕ → Bool
there b n k = is_some (op_at b k (n + k))

all-there : (b : List ℕ) (n k m : ℕ) → list_all (there b n) (range_with_len k m) ≡ are_ops b (n + k) k m
unfolding are_ops
all-there b n k zero = refl
all-there b n k (suc m) =
    let e : n + (k + 1) ≡ n + k + 1 = omega arith in
    ap (λ (t : Bool). there b n k && t) (all-there b n (k + 1) m ∙ ap (λ (i : ℕ). are_ops b i (k + 1) m) e)

pub returns : goal.returns
returns c =
    let a = c.args in
    let r = all_from_yields_List (there a.state.now a.front.factors) _ _ _ c.all.ensures.ran (YieldsList-from_range 0 a.front.count a.front.count refl (omega arith)) (λ x b q k. search (rules, tests)) in
    r ∙ all-there a.state.now a.front.factors 0 a.front.count ∙ ap (λ (n : ℕ). are_ops a.state.now n 0 a.front.count) (add-zero a.front.factors)
