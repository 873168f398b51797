pub mod Search
pub mod LeastBasis
pub mod Index
pub mod BySize
