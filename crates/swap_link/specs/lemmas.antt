pub mod Sound
pub mod Slots
pub mod KeepLaws
pub mod OweLaws
pub mod HarborLaws
