pub mod SilentLaws
pub mod SwappingLaws
pub mod LyingLaws
