pub mod CatalogueTelling
