pub mod SamePhase
pub mod Idle
pub mod IdleSentences
pub mod IdleLaws
pub mod KnownOfIdle
pub mod Finding
