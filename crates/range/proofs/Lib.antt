-- Laws of ranges, lent upward.

-- what `is_valid`, `kept` and the sticky operations come to; least and greatest; sums over a set
pub mod Valid
pub mod Extremes
pub mod SumOver
-- powers: D and U; the rows of 01's table as two forms
pub mod Powers
pub mod PowerForms
-- what the proofs of the functions use: fits, division by a shift, ranges of 0 alone, the inverse by sign, powers by products, the root, ranges in
-- a list of numbers; loops over a mask, and the sums that they make
pub mod Fitting
pub mod Shifting
pub mod Zeros
pub mod Inverting
pub mod Climbing
pub mod Roots
pub mod Pairs
pub mod Scanning
pub mod Squaring
pub mod Crossing
-- specs/Laws
pub mod Within
pub mod Narrowing
pub mod StarRoot
pub mod StarLaws
pub mod StarFits
pub mod Closure
pub mod Symmetry
pub mod Isotonicity
pub mod Laws
-- 02's rule for a product of two lines beside 01's
pub mod Sharper
-- specs/Rounding
pub mod Rounding
-- the ends without a limit, which refusal 12 is held against
pub mod Ordered
pub mod Unlimited
-- the limit tested before a division
pub mod ScaledWithin
-- specs/Inclusion, and its weighted form `Bounded`, for values, gradients and spectra
pub mod Holds
pub mod Scaled
pub mod Bounded
pub mod InclusionInverse
pub mod InclusionPower
pub mod InclusionSums
pub mod StarForm
pub mod StarInclusion
pub mod Inclusion
