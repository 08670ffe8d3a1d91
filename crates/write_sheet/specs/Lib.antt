pub mod SheetWritten
