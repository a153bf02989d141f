pub mod Sized
pub mod Calls
pub mod Scopes
pub mod Made
pub mod Promises
pub mod DeadClear
