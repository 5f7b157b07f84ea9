-- What the reader and the writer of records are together.
pub mod Trips
