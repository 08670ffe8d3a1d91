pub mod SpeltNumbers
