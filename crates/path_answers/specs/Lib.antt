pub mod Numbers
pub mod PathReply
pub mod SearchResult
