pub mod Table
pub mod lemmas
