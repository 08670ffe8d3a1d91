pub mod AlikeCoded
