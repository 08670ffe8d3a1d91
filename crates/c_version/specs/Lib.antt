pub mod VersionTold
