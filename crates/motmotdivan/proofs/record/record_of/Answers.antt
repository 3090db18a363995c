-- `record_of` meets its contract: the cells passed are as the bytes have them.
use Rattle.std.proofs.Common.{◌≡◌, ℕ, zero, suc, ◌+◌, ◌*◌, ◌/◌, ◌<◌, List, length, get_or, take, drop, refl, ap, ◌∙◌, subst, arith, drop-drop, length-set, get_or-set_other, get_or-set_same, below_more}
use Rattle.std.specs.Simd.{first_chunks}
use lib.Ieee.{Float, nan, binary64, of_bits}
use Rattle.encoding.specs.Bytes.{number_of}
use Rattle.motmotdivan.specs.Doubles.{whole_of}
use Rattle.motmotdivan.specs.Record.{number_at}
use Rattle.motmotdivan.specs.Views.{Cell}
use Rattle.motmotdivan.proofs.record.record_of.Goals as goal

-- The bytes of the double at k
chunk : (s : List ℕ) (k n : ℕ) (d : List ℕ) → k < n → get_or (first_chunks 8 n s) k d ≡ take 8 (drop (8 * k) s)
chunk s k zero d h = absurd (omega arith)
chunk s zero (suc n) d h = refl
chunk s (suc k) (suc n) d h =
    let e : 8 + 8 * k ≡ 8 * suc k = omega arith in
    chunk (drop 8 s) k n d (omega arith) ∙ ap (take 8) (drop-drop (8 * k) 8 s) ∙ ap (λ (j : ℕ). take 8 (drop j s)) e

here : (s : List ℕ) (chunks : List (List ℕ)) (k : ℕ) (d : List ℕ) (x : Float) → chunks ≡ first_chunks 8 (length s / 8) s → k < length s / 8
    → Cell (whole_of (of_bits binary64 (number_of (get_or chunks k d)))) x → Cell (number_at s k) x
unfolding number_at
here s chunks k d x e h c =
    subst (λ (t : List ℕ). Cell (whole_of (of_bits binary64 (number_of t))) x) (ap (λ (l : List (List ℕ)). get_or l k d) e ∙ chunk s k (length s / 8) d h) c

pub loop-k-preserved : goal.loop-k-preserved
loop-k-preserved c =
    let s = c.args.s.now in
    let i = c.loop-k.invariant in
    let k = c.loop-k.k in
    let cells = c.loop-k.record.cells in
    let l : k < length cells = omega (arith, i.0, c.requires.m_bound, c.loop-k-test.true) in
    let x = c.finite.result in (
      length-set cells k x ∙ i.0,
      below_more _ k
          (λ j h. let ne : ¬ (j ≡ k) = omega arith in rw (get_or-set_other cells k j x nan ne) (i.1 j h))
          (rw (get_or-set_same cells k x nan l) (here s _ k _ x c.as_chunks.ensures.front (omega (arith, c.requires, c.loop-k-test.true)) c.finite.ensures)),
    )

pub returns : goal.returns
returns c = record { each = λ k h. c.loop-k.invariant.1 k (omega (arith, c.loop-k-test.false)) }
