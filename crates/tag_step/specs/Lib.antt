pub mod Answer
pub mod Read
pub mod Next
pub mod Run
pub mod Look
pub mod Numbers
pub mod Lent
