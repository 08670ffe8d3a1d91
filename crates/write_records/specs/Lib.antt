pub mod RecordPut
