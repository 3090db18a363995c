-- 02, request 10: figures from the definitions themselves, by computing.
use Rattle.std.specs.Prelude.{◌≡◌, ◌*◌, ◌^◌, [], ◌∷◌, pos, negsuc, refl}
use Rattle.std.specs.Float.{binary64}
use Rattle.std.specs.Float.Ieee.{of_bits, to_bits, of_int}
use Rattle.encoding.specs.Bytes.{low_first}
use Rattle.motmotdivan.specs.Doubles.{whole, no_whole, whole_of, double_of}

-- ---- written: 1, −1 and the limit
pub one : double_of (pos 1) ≡ 0 ∷ 0 ∷ 0 ∷ 0 ∷ 0 ∷ 0 ∷ 240 ∷ 63 ∷ []
unfolding double_of low_first to_bits of_int
one = refl

pub minus-one : double_of (negsuc 0) ≡ 0 ∷ 0 ∷ 0 ∷ 0 ∷ 0 ∷ 0 ∷ 240 ∷ 191 ∷ []
unfolding double_of low_first to_bits of_int
minus-one = refl

pub limit-double : double_of (pos 2_000_000_000) ≡ 0 ∷ 0 ∷ 0 ∷ 0 ∷ 101 ∷ 205 ∷ 221 ∷ 65 ∷ []
unfolding double_of low_first to_bits of_int
limit-double = refl

-- ---- read: minus zero, −3, and 1e300
pub minus-zero : whole_of (of_bits binary64 (2 ^ 63)) ≡ whole (pos 0)
unfolding whole_of of_bits
minus-zero = refl

pub minus-three : whole_of (of_bits binary64 13_837_309_855_095_848_960) ≡ whole (negsuc 2)
unfolding whole_of of_bits
minus-three = refl

pub large : whole_of (of_bits binary64 9_094_988_921_128_908_188) ≡ whole (pos (1_681_218_273_811_815 * 2 ^ 946))
unfolding whole_of of_bits
large = refl

-- ---- no whole number: 0.5, both infinities, and NaNs of both signs and kinds
pub half : whole_of (of_bits binary64 4_602_678_819_172_646_912) ≡ no_whole
unfolding whole_of of_bits
half = refl

pub infinities : (whole_of (of_bits binary64 9_218_868_437_227_405_312) ≡ no_whole) × (whole_of (of_bits binary64 18_442_240_474_082_181_120) ≡ no_whole)
unfolding whole_of of_bits
infinities = (refl, refl)

pub quiet-nans : (whole_of (of_bits binary64 9_221_120_237_041_090_560) ≡ no_whole) × (whole_of (of_bits binary64 18_444_492_273_895_866_368) ≡ no_whole)
unfolding whole_of of_bits
quiet-nans = (refl, refl)

pub signalling-nans : (whole_of (of_bits binary64 9_218_868_437_227_405_313) ≡ no_whole) × (whole_of (of_bits binary64 18_442_240_474_082_181_121) ≡ no_whole)
unfolding whole_of of_bits
signalling-nans = (refl, refl)
