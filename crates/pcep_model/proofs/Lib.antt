-- Messages worked out by hand, computed from the bytes up.
pub mod WorkedMessages
