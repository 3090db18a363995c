-- `finite` meets its contract: a pattern whose exponent is not all ones is a finite double's.
use Rattle.std.proofs.Common.{◌≡◌, ℕ, length, sym, ap, ◌∙◌, rules}
use lib.Ieee.{binary64, of_bits}
use Rattle.motmotdivan.specs.Doubles.{whole_of}
use Rattle.motmotdivan.proofs.Patterns.{half-none, half-finite, pattern-finite, pattern-not-finite, pattern_number, eight-read}
use Rattle.motmotdivan.proofs.doubles.finite.Goals as goal

pub float_from_bits-result : goal.float_from_bits-result
float_from_bits-result c = pattern_number _ (sym c.is_finite.ensures ∙ c.if-is_finite.true)

pub returns-then-is_finite : goal.returns-then-is_finite
returns-then-is_finite c =
    let long : length c.args.bytes ≡ 8 = search rules in record {
      number = ap (λ (p : ℕ). whole_of (of_bits binary64 p)) (c.from_le_bytes-bits.ensures ∙ eight-read c.args.bytes long);
      sure = pattern-finite _ (sym c.is_finite.ensures ∙ c.if-is_finite.true);
    }

pub returns-else-is_finite : goal.returns-else-is_finite
returns-else-is_finite c =
    let long : length c.args.bytes ≡ 8 = search rules in record {
      number =
          half-none
          ∙ sym (pattern-not-finite _ (sym c.is_finite.ensures ∙ c.if-is_finite.false))
          ∙ ap (λ (p : ℕ). whole_of (of_bits binary64 p)) (c.from_le_bytes-bits.ensures ∙ eight-read c.args.bytes long);
      sure = half-finite;
    }
