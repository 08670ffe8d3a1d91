pub mod SheetRead
