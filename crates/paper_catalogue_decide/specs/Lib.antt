-- A catalogue that decides: its pairs are asked as `decide` asks.
pub mod DecidedPairs
