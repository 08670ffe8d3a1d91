pub mod EngineTold
