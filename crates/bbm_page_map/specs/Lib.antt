pub mod SlotNodes
pub mod PageLists
