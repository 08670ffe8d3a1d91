-- fixed fronts and ends that differ: no texts make the same label
pub mod NoSameLabel
-- what is promised
pub mod FixedPromised
-- known by hand
pub mod KnownFixed
