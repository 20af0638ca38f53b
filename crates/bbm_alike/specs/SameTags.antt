-- When two histories have the same tags, each read by what it trusts, and when a TLBI takes a tag that a root holds.
-- Source: project's own choice.
use Rattle.std.specs.Prelude.{◌≡◌, ℕ, ◌<◌, Bool, true, false, ◌&&◌, List}
use Rattle.bbm_rules.specs.Claims.{Trust}
use Rattle.bbm_rules.specs.Claims.Trust.{Patterns}
use Rattle.bbm_rules.specs.Lists.{any}
use Rattle.bbm_rules.specs.Prelude.{Barrier, Heading, Event, Tag}
use Rattle.bbm_rules.specs.Reach.{Issued, completes, reaches, unanswered}
use Rattle.bbm_rules.specs.Roots.{first_pages}
use Rattle.bbm_rules.specs.Tags.{distinct, ever_read, holds_at, itself, kept_at, left_at, takes_tag}
use Rattle.bbm_histories.specs.HistorySteps.{tag_waits}
use Rattle.bbm_lemmas.specs.Elements.{In}

module _ (heading : Heading) where
  -- The same tags were ever readable for each root; the same roots hold the same ones; and of those that are held the
  -- same wait to be taken away.
  pub record SameTags (one other : Trust) (h h' : List Event) : Type 0 where
    pub tags : (root : ℕ) → distinct (ever_read heading root h) ≡ distinct (ever_read heading root h')
    pub holds : (p root : ℕ) (tag : Tag) → p < heading.pes
        → holds_at heading one p root tag h ≡ holds_at heading other p root tag h'
    pub left : (p page : ℕ) (tag : Tag) → p < heading.pes
        → left_at heading one p page tag h ≡ left_at heading other p page tag h'
    pub tag_wait : (p q page : ℕ) (b : Bool) (tag : Tag) → p < heading.pes → kept_at heading one p page tag h ≡ true
        → tag_waits heading p tag q b h ≡ tag_waits heading p tag q b h'

  -- Whether the event, after h, takes whole at p a tag that is kept there for the page: one of the tags that were ever
  -- readable for the page's root is such a tag.
  abbrev pub takes_of : List Event → Event → ℕ → ℕ → Bool
  takes_of h e p page = any (λ tag. takes_tag heading e h tag && kept_at heading Patterns p page tag h)
      (distinct (ever_read heading page h))

  -- the same of a page of a declared root, or of one that was given up, where the event reaches p
  abbrev pub takes_kept : List Event → Event → ℕ → Bool
  takes_kept h e p = reaches heading e p && any (takes_of h e p) (first_pages h)

  -- it does so at no PE of the log
  abbrev pub TakesNone : List Event → Event → Type 0
  TakesNone h e = (p : ℕ) → p < heading.pes → takes_kept h e p ≡ false

  -- no TLBI that a DSB of q answers did so at its issue
  abbrev pub AnswersNone : ℕ → Barrier → List Event → Type 0
  AnswersNone q dsb h = (t : Issued Event) → In (unanswered itself q h) t → completes dsb t.tlbi ≡ true
      → TakesNone t.before t.tlbi
