pub mod Grammar
pub mod Expected
pub mod Accept
pub mod Resume
pub mod OneAnswer
