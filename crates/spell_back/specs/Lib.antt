pub mod BackPut
