pub mod WayRecords
