-- `bytes_of` meets its contract: a whole number's double is no NaN, so it has a pattern.
use Rattle.std.proofs.Common.{◌≡◌, sym, ap, ◌∙◌, subst, to_z-of_z}
use Rattle.std.specs.Float.{NotNan}
use Rattle.std.specs.Int.{w64, to_le_bytes}
use lib.Ieee.{Float, binary64, of_int, to_bits}
use Rattle.motmotdivan.specs.Doubles.{double_of}
use Rattle.motmotdivan.proofs.Patterns.{whole-number, eight-written}
use Rattle.motmotdivan.proofs.doubles.bytes_of.Goals as goal

pub to_le_bytes-requires : goal.to_le_bytes-requires
to_le_bytes-requires c =
    let is : c.nearest.result ≡ of_int binary64 c.args.z = c.nearest.ensures ∙ ap (of_int binary64) (to_z-of_z c.ranges.z) in
    subst NotNan (sym is) (whole-number c.args.z)

pub returns : goal.returns
unfolding double_of
returns c =
    let is : c.nearest.result ≡ of_int binary64 c.args.z = c.nearest.ensures ∙ ap (of_int binary64) (to_z-of_z c.ranges.z) in
    c.to_le_bytes.ensures ∙ ap (λ (x : Float). to_le_bytes w64 (to_bits binary64 x)) is ∙ eight-written (to_bits binary64 (of_int binary64 c.args.z))
