-- `head` meets its contract: the tests, one after another, are those of `is_head`.
use Prim.Native.Nat.{ℕ, ◌+◌, ◌-◌, ◌*◌}
use mathlib.Core.Bool.{Bool}
use mathlib.Core.List.{List}
use mathlib.Core.Path.{◌≡◌, sym, ap, ◌∙◌}
use native.Mathlib.Omega.{arith}
use lib.ListN.{length, take, drop, length-drop}
use lib.Seq.{take_all}
use borrow.Author.Rules.{rules}
use borrow.Author.Tests.{eq-eqb}
use Rattle.std.proofs.lemmas.Option.{cond_some}
use Rattle.encoding.specs.Bytes.{are_zero}
use Rattle.encoding.specs.Decode.{head_of}
use Rattle.encoding.proofs.Bytes.{bytes-made}
use Rattle.encoding.proofs.head.Goals as goal

-- Whether there are zeros alone behind the last operation
behind : (b : List ℕ) (w m : ℕ) (r : Bool) → r ≡ are_zero (take (length b - (8 + 8 * w)) (drop (8 + 8 * w) b)) → w ≡ m → r ≡ are_zero (drop (8 + 8 * m) b)
behind b w m r h e =
    let n = 8 + 8 * w in
    h ∙ ap are_zero (take_all (length b - n) (drop n b) (omega (arith, length-drop n b)))
    ∙ ap (λ (k : ℕ). are_zero (drop (8 + 8 * k) b)) e

pub returns : goal.returns
unfolding head_of
returns c =
    let b = c.args.state.now in
    let y = cond_some _ _ _ (sym c.in_ok-year.ensures) in
    simp (
      eq-eqb (length b) 512 c.if-state-ne-LENGTH.false,
      bytes-made b (λ k. search rules),
      sym c.counts_fit.ensures ∙ c.if-not-counts_fit.false,
      y.0,
      y.1,
      sym c.are_zero.ensures ∙ c.if-not-are_zero.false,
      sym (behind b _ _ _ c.are_zero-2.ensures c.from.ensures) ∙ c.if-not-are_zero-2.false,
    )
