pub mod ClashPrinted
