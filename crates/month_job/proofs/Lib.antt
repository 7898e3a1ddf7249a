pub mod Words
pub mod Encoding
pub mod LineCount
pub mod Walks
pub mod Chunked
pub mod Parts
