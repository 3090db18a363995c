-- `put_result` meets its contract: after each store the numbers so far stand at the front.
use Rattle.std.proofs.Common.{◌≡◌, [], ◌∷◌, length, refl, ap, ◌∙◌, arith, take_all, to_z-of_z, w64, rules}
use Rattle.motmotdivan.specs.Doubles.{double_of}
use Rattle.motmotdivan.specs.Record.{ends_of}
use Rattle.motmotdivan.proofs.Results.{Front, front-none, front-more, front-slope, unmapped, slopes, front-last}
use Rattle.motmotdivan.proofs.record.put_result.Goals as goal

pub loop-k-init : goal.loop-k-init
unfolding ends_of
loop-k-init c = rw c.put_range.ensures (front-more [] (ends_of (c.args.l.now.value ∷ [])) c.args.s.now 0 16 (front-none c.args.s.now c.requires) refl refl (omega arith))

pub loop-k-preserved : goal.loop-k-preserved
loop-k-preserved c =
    let l = c.args.l.now in
    let eight : length l.gradient ≡ 8 = search (rules, unmapped) in
    rw c.put_range-in-loop-k.ensures (front-slope l.value l.gradient c.loop-k.k _ c.loop-k.s (omega (arith, eight)) (omega arith) c.loop-k.invariant)

pub returns : goal.returns
returns c =
    let l = c.args.l.now in
    let eight : length l.gradient ≡ 8 = search (rules, unmapped) in
    let done : Front (slopes l) c.loop-k.s = rw (take_all c.loop-k.k l.gradient (omega (arith, eight))) at c.loop-k.invariant in
    let support = to_z-of_z {w = w64} {z = c.from.result} (record { sfits = c.from.type_inv }) ∙ c.from.ensures in
    let nonlinear = to_z-of_z {w = w64} {z = c.from-2.result} (record { sfits = c.from-2.type_inv }) ∙ c.from-2.ensures in
    front-last l c.loop-k.s eight done (c.copy_from_slice.ensures.after ∙ c.bytes_of.ensures ∙ ap double_of support)
    (c.copy_from_slice-2.ensures.after ∙ c.bytes_of-2.ensures ∙ ap double_of nonlinear) c.put_range-2.ensures c.put_range-3.ensures
