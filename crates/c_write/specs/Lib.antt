pub mod WrittenNumbers
