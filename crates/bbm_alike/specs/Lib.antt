pub mod Alike
pub mod KnownOfHistories
pub mod SameTags
pub mod AlikeLaws
