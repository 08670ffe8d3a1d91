-- the edition of a sheet; the texts told back from what is printed
pub mod SheetEdition
pub mod LinesToldBack
pub mod SheetsToldBack
-- known lines: the checker computes them
pub mod KnownDecidedLines
