pub mod Carried
pub mod Reading
pub mod ParsedPcreq
