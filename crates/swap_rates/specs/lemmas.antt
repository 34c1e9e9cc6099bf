pub mod Hottest
