-- Laws of the rules, and the proofs of what they promise: `Sound.sound`, `Shaped.shaped`, of two boats: `Sisters.sisters`, of refusals:
-- `Refused.refused-exactly`, of the published arithmetic: `Published.published`, and of swapped references and narrower ranges:
-- `Exchange.exchange-rate`, `Isotone.isotone`.
pub mod Members
pub mod Along
pub mod Accepted
pub mod Supported
pub mod Independent
pub mod Enclosed
pub mod Sparse
pub mod SetTests
pub mod InnerProducts
pub mod Gradient
pub mod Forms
pub mod SpectrumSum
pub mod SpectrumSquare
pub mod SpectrumCross
pub mod SpectrumStar
pub mod SpectrumRows
pub mod Whole
pub mod Sound
pub mod Nested
pub mod Shaped
pub mod Vanishing
pub mod Paired
pub mod SameSets
-- specs/Sisters: the premium on the straight way between two points, as a function of the moment
pub mod Smooth
pub mod Ways
pub mod SmoothLines
pub mod Sisters
-- specs/Overflow and specs/Refused: refusal 12, where a run stops, and each refusal of rating
pub mod Formulas
pub mod Passing
pub mod Overflow
pub mod Stopped
pub mod FirstBad
pub mod Refused
-- specs/TableTwo: the rows of 2014, and specs/Published: the arithmetic without a limit
pub mod TableTwo
pub mod Published
-- specs/Years: what the year says of the sets
pub mod Years
-- specs/Sharper: request 4 beside 01's rule
pub mod Half
pub mod Exchanged
pub mod SharperCross
pub mod Sharper
-- specs/Exchange and specs/Isotone: swapped references, and ranges inside ranges
pub mod Exchange
pub mod NarrowerRows
pub mod Isotone
