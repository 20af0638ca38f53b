-- What the laws of needed TLBIs and of idle events state: that what computes says the same as a sentence. Source:
-- project's own choice.
use Rattle.std.specs.Prelude.{◌≡◌, true, List}
use Rattle.bbm_rules.specs.Prelude.{Event, Heading}
use Rattle.bbm_idle.specs.Idle.{is_idle, is_needed}
use Rattle.bbm_idle.specs.IdleSentences.{IsIdle, Needed}

-- A TLBI is needed exactly where at a PE that it reaches it takes a place of a tree further, or takes a whole tag that
-- is kept there: a root holds it, or one that was given up left it.
pub record NeededBySentence (heading : Heading) : Type 0 where
  pub sound : (h : List Event) (e : Event) → is_needed heading h e ≡ true → Needed heading h e
  pub complete : (h : List Event) (e : Event) → Needed heading h e → is_needed heading h e ≡ true

-- An event is idle exactly where it is a DMB; an ISB of a PE that wrote no root register since its last one; a TLBI
-- that isn't needed; or a DSB that leaves every phase of every place, and answers no TLBI that was needed.
pub record IdleBySentence (heading : Heading) : Type 0 where
  pub sound : (h : List Event) (e : Event) → is_idle heading h e ≡ true → IsIdle heading h e
  pub complete : (h : List Event) (e : Event) → IsIdle heading h e → is_idle heading h e ≡ true
