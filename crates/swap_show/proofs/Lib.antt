pub mod Stands
pub mod Lines
pub mod Headline
pub mod Shows
