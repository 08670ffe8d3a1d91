-- the sides place by place
pub mod FixedWalk
-- bytes that are tokens
pub mod TokenBytes
