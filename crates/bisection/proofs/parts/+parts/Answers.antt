-- `bisection::parts::parts` meets its contract: it calls itself twice, with one depth fewer. Assumes nothing.
use mathlib.Core.Path.{sym, ap, ◌∙◌}
use mathlib.Core.List.{List}
use Prim.Native.Nat.{◌-◌}
use native.Mathlib.Omega.{arith}
use lib.IntN.{ℤ}
use Rattle.std.proofs.lemmas.Result.{err_from_is_err_and}
use Rattle.rules.specs.Rate.{in_full, rated, refused}
use Rattle.bisection.specs.Cut.{parts}
use Rattle.bisection.specs.Box.{box_of}
use Rattle.bisection.proofs.Boxes.{box-plain}
use Rattle.bisection.proofs.Cuts.{cut-factor, cut-valid, cut-narrow, lower-box, upper-box, lower-boxed, upper-boxed}
use Rattle.bisection.proofs.Recursion.{zero_parts, narrow-parts, lower_refused, upper_refused, both_rated}
use Rattle.bisection.proofs.parts.+parts.Goals as goal
use Rattle.bisection.proofs.parts.+parts.Goals.{then-depth-eq0-via-then-depth-eq0, then-depth-eq0-via-else-depth-eq0+then-width-lt-LEAST_CUT}

pub range_at-r-requires : goal.range_at-r-requires
range_at-r-requires t c = omega (arith, cut-factor c.requires c.widest-k.ensures, c.requires.boxed.size.few)

pub width-requires : goal.width-requires
width-requires t c = cut-valid c.requires c.widest-k.ensures c.range_at-r.ensures

pub returns-then-depth-eq0 : goal.returns-then-depth-eq0
returns-then-depth-eq0 t c = c.rate.ensures ∙ (box-plain c.requires ∙ sym (elim c.then-depth-eq0.branch [
  | then-depth-eq0-via-then-depth-eq0 w ↦ zero_parts _ _ _ w.if-depth-eq0.true
  | then-depth-eq0-via-else-depth-eq0+then-width-lt-LEAST_CUT w ↦
      narrow-parts _ _ _ (sym (cut-narrow c.requires c.widest-k.ensures c.range_at-r.ensures w.width.ensures) ∙ w.if-width-lt-LEAST_CUT.true)
]))

pub middle-m-requires : goal.middle-m-requires
middle-m-requires t c = cut-valid c.requires c.widest-k.ensures c.range_at-r.ensures

pub parts-requires : goal.parts-requires
parts-requires t c =
    let wide = sym (cut-narrow c.requires c.widest-k.ensures c.range_at-r.ensures c.width.ensures) ∙ c.if-width-lt-LEAST_CUT.false in
    (omega arith, rw c.with_end.ensures (lower-boxed c.requires c.widest-k.ensures c.range_at-r.ensures c.middle-m.ensures wide))

pub parts-requires-2 : goal.parts-requires-2
parts-requires-2 t c =
    let wide = sym (cut-narrow c.requires c.widest-k.ensures c.range_at-r.ensures c.width.ensures) ∙ c.if-width-lt-LEAST_CUT.false in
    (omega arith, rw c.with_end-2.ensures (upper-boxed c.requires c.widest-k.ensures c.range_at-r.ensures c.middle-m.ensures wide))

pub returns-in_err-lower : goal.returns-in_err-lower
returns-in_err-lower t c =
    let a = c.args in
    let wide = sym (cut-narrow c.requires c.widest-k.ensures c.range_at-r.ensures c.width.ensures) ∙ c.if-width-lt-LEAST_CUT.false in
    let part = ap (λ (ends : List ℤ). parts (a.depth - 1) a.c (box_of a.n ends)) c.with_end.ensures
    ∙ ap (parts (a.depth - 1) a.c) (lower-box c.requires c.widest-k.ensures c.range_at-r.ensures c.middle-m.ensures) in
    let q = err_from_is_err_and c.from_residual.result c.from_residual.ensures.1 in
    ap in_full q.1 ∙ (ap refused q.2 ∙ lower_refused _ _ _ c.if-depth-eq0.false wide (c.in_err-lower.ensures ∙ part))

pub returns-in_err-upper : goal.returns-in_err-upper
returns-in_err-upper t c =
    let a = c.args in
    let wide = sym (cut-narrow c.requires c.widest-k.ensures c.range_at-r.ensures c.width.ensures) ∙ c.if-width-lt-LEAST_CUT.false in
    let lower = ap (λ (ends : List ℤ). parts (a.depth - 1) a.c (box_of a.n ends)) c.with_end.ensures
    ∙ ap (parts (a.depth - 1) a.c) (lower-box c.requires c.widest-k.ensures c.range_at-r.ensures c.middle-m.ensures) in
    let upper = ap (λ (ends : List ℤ). parts (a.depth - 1) a.c (box_of a.n ends)) c.with_end-2.ensures
    ∙ ap (parts (a.depth - 1) a.c) (upper-box c.requires c.widest-k.ensures c.range_at-r.ensures c.middle-m.ensures) in
    let q = err_from_is_err_and c.from_residual-in_err-upper.result c.from_residual-in_err-upper.ensures.1 in
    ap in_full q.1
    ∙ (ap refused q.2
    ∙ upper_refused _ _ _ c.if-depth-eq0.false wide (c.in_ok-lower.ensures ∙ lower) (c.in_err-upper.ensures ∙ upper))

pub returns : goal.returns
returns t c =
    let a = c.args in
    let wide = sym (cut-narrow c.requires c.widest-k.ensures c.range_at-r.ensures c.width.ensures) ∙ c.if-width-lt-LEAST_CUT.false in
    let lower = ap (λ (ends : List ℤ). parts (a.depth - 1) a.c (box_of a.n ends)) c.with_end.ensures
    ∙ ap (parts (a.depth - 1) a.c) (lower-box c.requires c.widest-k.ensures c.range_at-r.ensures c.middle-m.ensures) in
    let upper = ap (λ (ends : List ℤ). parts (a.depth - 1) a.c (box_of a.n ends)) c.with_end-2.ensures
    ∙ ap (parts (a.depth - 1) a.c) (upper-box c.requires c.widest-k.ensures c.range_at-r.ensures c.middle-m.ensures) in
    ap rated c.limits.ensures
    ∙ both_rated _ _ _ c.if-depth-eq0.false wide (c.in_ok-lower.ensures ∙ lower) (c.in_ok-upper.ensures ∙ upper)
