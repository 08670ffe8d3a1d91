pub mod ClashTelling
