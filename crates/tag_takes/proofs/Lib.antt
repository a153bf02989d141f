pub mod Ready
pub mod Lift
pub mod Ends
