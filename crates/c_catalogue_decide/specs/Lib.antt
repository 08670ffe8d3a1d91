pub mod CatalogueDecided
