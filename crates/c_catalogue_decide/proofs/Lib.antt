pub mod DecidedTelling
