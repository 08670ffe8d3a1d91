pub mod SheetPut
pub mod FieldsPut
pub mod SheetAnswered
pub mod StraysChecked
pub mod OneWriting
pub mod InOrder
