pub mod LaneLaws
pub mod MakeLaws
pub mod WholeLaws
