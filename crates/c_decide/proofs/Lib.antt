pub mod DecideTelling
