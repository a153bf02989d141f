pub mod Starred
