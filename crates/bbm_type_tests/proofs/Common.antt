-- The names that most proofs of this crate cite, passed on from one place. Declares nothing.
pub use Rattle.std.specs.Prelude.{Bool, Err, List, None, Ok, Option, Result, Some, [], false, map, refl, true, ℕ, ◌∷◌}
pub use Rattle.std.specs.Prelude.{◌≡◌}
pub use Rattle.bbm_barriers.specs.declared.Domain.TheVariants.{Inner, Non}
pub use Rattle.bbm_barriers.specs.declared.Dsb.{Dsb}
pub use Rattle.bbm_barriers.specs.declared.Types.TheVariants.{All, Stores}
pub use Rattle.bbm_events.specs.Heading.{Heading}
pub use Rattle.bbm_regimes.specs.Extent.{Extent}
pub use Rattle.bbm_regimes.specs.declared.regime.Kind.TheVariants.{El2, S2, Ttbr0, Ttbr1}
pub use Rattle.bbm_regimes.specs.declared.regime.World.{World}
pub use Rattle.bbm_regimes.specs.declared.regime.World.TheVariants.{Hyp, Kernel}
pub use Rattle.bbm_tlbi_scope.specs.Decode.{scope_of}
pub use Rattle.bbm_tlbi_scope.specs.declared.entry.Cover.{Cover}
pub use Rattle.bbm_tlbi_scope.specs.declared.op.TlbiOp.{TlbiOp}
pub use Rattle.bbm_tlbi_scope.specs.declared.op.TlbiOp.TheVariants.{Alle1, Alle1is, Alle2, Alle2is, Aside1is, Ipas2e1is}
pub use Rattle.bbm_tlbi_scope.specs.declared.op.TlbiOp.TheVariants.{Ipas2le1is, Ripas2e1is, Rvae2is, Rvale2is, Vaae1is}
pub use Rattle.bbm_tlbi_scope.specs.declared.op.TlbiOp.TheVariants.{Vae1is, Vae2is, Vale2is, Vmalle1, Vmalle1is}
pub use Rattle.bbm_tlbi_scope.specs.declared.op.TlbiOp.TheVariants.{Vmalls12e1is}
pub use Rattle.bbm_tlbi_scope.specs.declared.scope.BadOperand.{BadOperand}
pub use Rattle.bbm_tlbi_scope.specs.declared.scope.Scope.{Scope}
