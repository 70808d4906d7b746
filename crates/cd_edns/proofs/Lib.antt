pub mod OptRecords
