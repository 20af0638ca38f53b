mod Common
pub mod Texts
pub mod TextLines
pub mod Stages
pub mod ReadBytes
pub mod Judgements
pub mod RunLines
pub mod CertificateLines
pub mod Served
pub mod GeneratedLogs
pub mod IdleLines
pub mod CertifiedText
pub mod CounterrunLines
pub mod RefusedLogs
pub mod CounterrunTexts
mod OpenTexts
