pub mod FixedFronts
