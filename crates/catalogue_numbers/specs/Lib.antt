pub mod CatalogueNumbers
