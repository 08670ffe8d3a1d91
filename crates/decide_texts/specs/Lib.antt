pub mod TextsCoded
