pub mod ToldNumbers
