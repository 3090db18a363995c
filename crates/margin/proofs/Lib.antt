-- the search, over any test
pub mod Candidates
pub mod Best
-- a range widened, and what rating then says
pub mod Widened
pub mod Moving
-- the call's answer, and specs/Promises
pub mod Answers
pub mod Numbered
pub mod NearestEdge
-- specs/Exchange
pub mod Exchange
