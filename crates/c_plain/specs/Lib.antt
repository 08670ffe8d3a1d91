pub mod EngineTelling
