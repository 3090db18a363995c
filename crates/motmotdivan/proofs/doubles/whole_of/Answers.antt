-- `whole_of` meets its contract: each way out is a law of proofs/Wholes.antt, the number read back from its bits.
use Rattle.std.proofs.Common.{◌≡◌, T, ℤ, nat_abs, sym, ap, ◌∙◌, subst, arith, to_z-of_z, w64, to_z, of_z}
use Rattle.std.specs.Bool.{then_some}
use Rattle.std.specs.declared.option.Option.TheVariants.{Some}
use lib.Ieee.{binary64, fits, eq, of_int, to_signed}
use Rattle.motmotdivan.proofs.Wholes.{wide-whole, small-whole}
use Rattle.motmotdivan.proofs.doubles.whole_of.Goals as goal

pub returns-then-unsigned_abs-gt-EXACT : goal.returns-then-unsigned_abs-gt-EXACT
returns-then-unsigned_abs-gt-EXACT c =
    let fit : T (fits binary64 c.args.x) = subst T (sym c.well_formed.0.1) tt in
    let n : to_z w64 (of_z w64 c.saturating_f64_to_i64-n.result) ≡ to_signed 63 c.args.x = to_z-of_z {w = w64} (record { sfits = c.saturating_f64_to_i64-n.type_inv }) ∙ c.saturating_f64_to_i64-n.ensures in
    ap Some n ∙ wide-whole c.args.x c.requires fit (omega (arith, ap nat_abs n))

pub returns : goal.returns
returns c =
    let n : to_z w64 (of_z w64 c.saturating_f64_to_i64-n.result) ≡ to_signed 63 c.args.x = to_z-of_z {w = w64} (record { sfits = c.saturating_f64_to_i64-n.type_inv }) ∙ c.saturating_f64_to_i64-n.ensures in
    c.then_some.ensures ∙ ap (λ (z : ℤ). then_some (eq (of_int binary64 z) c.args.x) z) n ∙ small-whole c.args.x c.requires (omega (arith, ap nat_abs n))
