-- The names that most proofs of this crate cite, passed on from one place. Declares nothing.
pub use Rattle.bbm_cert.specs.Judged.{judged_with}
pub use Rattle.bbm_cert.specs.declared.judged.Judged.{Judged}
pub use Rattle.bbm_cert.specs.declared.judged.Judged.TheVariants.{Yes}
