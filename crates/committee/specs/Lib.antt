-- 02, request 11: the committee's two laws, over all calls.
pub mod Laws
