pub mod PlayTold
