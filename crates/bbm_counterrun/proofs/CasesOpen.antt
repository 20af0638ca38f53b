-- A worked case: a PE that could walk to a block and left reaches it still, so that a write of another block is a real
-- danger.
use Rattle.bbm_counterrun.proofs.Common.{Patterns}
use Rattle.bbm_rules.proofs.Common.{◌≡◌, true, false, List, [], ◌∷◌, ◌++◌, None, refl, sym, inl, inr, true≢false}
use Rattle.bbm_rules.proofs.Common.{Heading, Event, Write, Noted, El2, Tag, Vmid, Asid, Cleansed, holds_tag}
use Rattle.bbm_rules.specs.Notes.{events_of}
use Rattle.bbm_rules.specs.Prelude.{Hyp, Init, Root, Msr, Isb, Ttbr0El2, El2Tag, Ttbr1Tag}
use Rattle.bbm_events.specs.Heading.{no_words}
use Rattle.bbm_tlb_machine.specs.Step.{started}
use Rattle.bbm_counterrun.specs.StandsOpen.{Reached}
use Rattle.bbm_histories.proofs.Induction.{none_split}

abbrev small : Heading
small = record { version = 1; pes = 1; cnp = false; words = no_words; world = Hyp (record { el2_start = 1; s2_start = 1; s2_pages = 1 }) }

-- the walk is made before the register is written again
abbrev mapped : List Event
mapped =
    Write 0 0x40000008 0x80000701
    ∷ Isb 0
    ∷ Msr 0 Ttbr0El2 0x40000000
    ∷ Root 0 El2 None 0x40000000
    ∷ Init 0 0x40000000
    ∷ []

only_its_tag : (tag : Tag) → holds_tag small Patterns 0x40000000 tag mapped ≡ true → tag ≡ El2Tag
only_its_tag El2Tag e = refl
only_its_tag (Vmid n) e = absurd (true≢false (sym e))
only_its_tag (Asid n) e = absurd (true≢false (sym e))
only_its_tag Ttbr1Tag e = absurd (true≢false (sym e))

not_cleansed : Cleansed small Patterns 0x40000008 0 [] → ⊥
not_cleansed (inl one) = none_split one.flush.answer.newer one.flush.answer.older one.d one.flush.answer.split
not_cleansed (inr two) = none_split two.second.answer.newer two.second.answer.older two.d2 two.second.answer.split

mapped_block_is_reached : Reached small mapped 0x40000008 0
mapped_block_is_reached = record {
  walked = record {
    older = mapped;
    kind = El2;
    number = 0;
    reads = record { place = 0x40000008; value = 0x80000701 } ∷ [];
    walk = started small 5 0 El2 0 0x40000008 0x80000701;
    walks = refl;
    ends = refl;
    w = record { value = 0x80000701; since = [] };
    is_last = refl;
    newer = [];
    between = [];
    since = refl;
    split = refl;
    uncleansed = not_cleansed;
  };
  leaf = refl;
  for_all = λ e. cc;
  told_next = inl refl;
  alone = λ after before tag e holds. alone_then after before tag e holds;
}
  where
    alone_then : (after before : List Noted) (tag : Tag) → [] ≡ after ++ before
        → holds_tag small Patterns 0x40000000 tag (events_of before ++ mapped) ≡ true → tag ≡ El2Tag
    alone_then [] [] tag e holds = only_its_tag tag holds
    alone_then [] (x ∷ before) tag e holds = cc
    alone_then (x ∷ after) before tag e holds = cc
