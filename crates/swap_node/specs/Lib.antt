pub mod RepliesView
pub mod Boards
pub mod NodeView
pub mod Delivery
