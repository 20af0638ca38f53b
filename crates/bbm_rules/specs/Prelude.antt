-- The words of the lower crates in which the definitions speak, passed on from one place.
pub use Rattle.bbm_barriers.specs.declared.Dsb.{Dsb as Barrier}
pub use Rattle.bbm_regimes.specs.declared.regime.AsidFrom.{AsidFrom}
pub use Rattle.bbm_regimes.specs.declared.regime.AsidFrom.TheVariants.{Ttbr0 as FromTtbr0, Ttbr1 as FromTtbr1}
pub use Rattle.bbm_regimes.specs.declared.regime.Kind.{Kind}
pub use Rattle.bbm_regimes.specs.declared.regime.Kind.TheVariants.{El2, S2, Ttbr0, Ttbr1}
pub use Rattle.bbm_regimes.specs.declared.regime.Reg.{Reg}
pub use Rattle.bbm_regimes.specs.declared.regime.Reg.TheVariants.{Ttbr0El2, VttbrEl2, Ttbr0El1, Ttbr1El1}
pub use Rattle.bbm_regimes.specs.declared.regime.Tag.{Tag}
pub use Rattle.bbm_regimes.specs.declared.regime.Tag.TheVariants.{El2 as El2Tag, Vmid, Asid, Ttbr1 as Ttbr1Tag}
pub use Rattle.bbm_regimes.specs.declared.regime.HypWorld.{HypWorld}
pub use Rattle.bbm_regimes.specs.declared.regime.KernelWorld.{KernelWorld}
pub use Rattle.bbm_regimes.specs.declared.regime.World.{World}
pub use Rattle.bbm_regimes.specs.declared.regime.World.TheVariants.{Hyp, Kernel}
pub use Rattle.bbm_regimes.specs.SameRegister.{kind_of_reg, same_kind, same_reg, same_tag}
pub use Rattle.bbm_regimes.specs.World.{first_input_page, input_pages, kind_in_world, page_count, start_of}
pub use Rattle.bbm_tlbi_scope.specs.declared.op.TlbiOp.{TlbiOp}
pub use Rattle.bbm_tlbi_scope.specs.declared.scope.Scope.{Scope}
pub use Rattle.bbm_tlbi_scope.specs.Decode.{scope_of}
pub use Rattle.bbm_events.specs.Heading.{Heading}
pub use Rattle.bbm_events.specs.declared.event.Event.{Event}
pub use Rattle.bbm_events.specs.declared.event.Event.TheVariants.{Init, Null, Root, Unroot, Write, Dsb, Dmb, Isb, Tlbi}
pub use Rattle.bbm_events.specs.declared.event.Event.TheVariants.{Msr, Lock, Unlock}
