pub mod FrontStruct
pub mod SheetWhole
pub mod SheetStruct
pub mod SheetPatterns
pub mod StraysChecked
