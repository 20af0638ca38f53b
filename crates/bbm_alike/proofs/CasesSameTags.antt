-- Worked cases: whether an event takes whole, at PE 0, a tag that a root holds there. The events stand newest first.
use Rattle.bbm_rules.proofs.Common.{Inner, All, El2, Ttbr0El2, Hyp, Heading, Event, Init, Root, Dsb, Isb, Tlbi, Msr}
use Rattle.std.specs.Prelude.{◌≡◌, true, false, List, [], ◌∷◌, None, refl}
use Rattle.bbm_tlbi_scope.specs.declared.op.TlbiOp.TheVariants.{Alle2, Alle2is}
use Rattle.bbm_events.specs.Heading.{no_words}
use Rattle.bbm_alike.specs.SameTags.{takes_kept}

-- two PEs, and walks that start at level 1
abbrev pub two_pes : Heading
two_pes = record {
  version = 1;
  pes = 2;
  cnp = false;
  words = no_words;
  world = Hyp (record { el2_start = 1; s2_start = 1; s2_pages = 1 });
}

-- PE 0 took a root of EL2 and left it.
abbrev pub left_a_root : List Event
left_a_root =
    Isb 0 ∷ Msr 0 Ttbr0El2 0 ∷ Msr 0 Ttbr0El2 4096 ∷ Root 0 El2 None 4096 ∷ Init 0 4096 ∷ []

abbrev flushed : List Event
flushed = Dsb 1 (record { domain = Inner; types = All }) ∷ Tlbi 1 Alle2is 0 ∷ left_a_root

-- PE 0 may still have entries of the root.
pub flush_of_a_held_tag : takes_kept two_pes left_a_root (Tlbi 1 Alle2is 0) 0 ≡ true
flush_of_a_held_tag = refl

-- A TLBI of PE 1 alone doesn't reach PE 0.
pub flush_of_another_pe_alone : takes_kept two_pes left_a_root (Tlbi 1 Alle2 0) 0 ≡ false
flush_of_another_pe_alone = refl

-- The first flush took the tag away.
pub second_flush : takes_kept two_pes flushed (Tlbi 1 Alle2is 0) 0 ≡ false
second_flush = refl
