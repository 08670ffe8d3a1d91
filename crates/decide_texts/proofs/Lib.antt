-- a turn of each loop
pub mod TextTurns
-- the tables of one text, character by character
pub mod SpeltTables
-- the fields' tables, changed one after the other
pub mod FieldsChanged
-- from tables and masks back to the definitions
pub mod EndsRead
pub mod TextRead
pub mod TextsTies
