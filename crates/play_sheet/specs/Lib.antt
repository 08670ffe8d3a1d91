pub mod PlayNumbers
