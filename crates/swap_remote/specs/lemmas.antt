pub mod Cleared
