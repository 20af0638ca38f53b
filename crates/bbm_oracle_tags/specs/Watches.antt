-- What a walk over a history keeps of one tag at one PE, to tell when a root holds it or has left it.
use Rattle.std.specs.Prelude.{◌≡◌, ℕ, Bool, true, false, not, ◌&&◌, ◌||◌, ◌==◌, List, length}
use Rattle.bbm_regimes.specs.PeMask.{pe_in}
use Rattle.bbm_barriers.specs.Options.{answers}
use Rattle.bbm_tlbi_scope.specs.Operations.{operation}
use Rattle.bbm_rules.specs.Prelude.{Tag, Heading, Event, Dsb, Tlbi}
use Rattle.bbm_rules.specs.Claims.{Patterns}
use Rattle.bbm_rules.specs.Lists.{any}
use Rattle.bbm_rules.specs.Reach.{Issued, reaches, unanswered}
use Rattle.bbm_rules.specs.Tags.{holds_at, itself, left_at, reads, reads_for_some, read_since, takes_tag}
use Rattle.bbm_oracle_tags.specs.Moments.{IsMoment}
use Rattle.bbm_oracle_tags.specs.declared.watch.Watch.{Watch}

-- whether a TLBI is broadcast, and whether it isn't
abbrev pub is_cast : Bool → Event → Bool
is_cast true (Tlbi pe op xt) = (operation op).broadcast
is_cast false (Tlbi pe op xt) = not (operation op).broadcast
is_cast _ _ = false

module _ (heading : Heading) (p : ℕ) (tag : Tag) where
  -- whether a TLBI of this sort, broadcast or not, would take the tag away at p if it were answered now
  abbrev pub would_take : List Event → Bool → Issued Event → Bool
  would_take h cast t =
      is_cast cast t.tlbi && (reaches heading t.tlbi p && (takes_tag heading t.tlbi t.before tag
      && not (read_since heading (length t.before) p tag h)))

  -- whether the PE q has such a TLBI, unanswered
  abbrev pub awaits : List Event → Bool → ℕ → Bool
  awaits h cast q = any (would_take h cast) (unanswered itself q h)

-- what is readable, as the definitions say it after a history
pub record Looks (heading : Heading) (p root : ℕ) (tag : Tag) (h : List Event) (w : Watch) : Type 0 where
  pub moment : IsMoment heading.world p h w.moment
  pub reads : w.reads ≡ reads heading h p tag root
  pub reads_some : w.reads_some ≡ reads_for_some heading h p tag

-- all that is kept
pub record IsWatch (heading : Heading) (p root : ℕ) (tag : Tag) (h : List Event) (w : Watch) : Type 0 where
  pub looks : Looks heading p root tag h w
  pub holds : w.holds ≡ holds_at heading Patterns p root tag h
  pub left : w.left ≡ left_at heading Patterns p root tag h
  pub local : (q : ℕ) → pe_in w.local q ≡ awaits heading p tag h false q
  pub broadcast : (q : ℕ) → pe_in w.broadcast q ≡ awaits heading p tag h true q

-- What an event changes, where it is told whether it takes the tag away at its answer, and whether the tag is readable
-- for some root after it: whether the PE q has a TLBI of this sort.
abbrev pub awaits_after : Bool → Bool → Bool → Event → ℕ → Bool → Bool
awaits_after cast takes reads_some (Tlbi pe op xt) q before =
    not reads_some && ((pe == q && (is_cast cast (Tlbi pe op xt) && takes)) || before)
awaits_after cast takes reads_some (Dsb pe dsb) q before =
    not reads_some && (before && not (pe == q && answers dsb cast))
awaits_after cast takes reads_some _ q before = not reads_some && before

-- whether the event answers one of the TLBIs that the PEs await
abbrev pub loses_by : Event → (ℕ → Bool) → (ℕ → Bool) → Bool
loses_by (Dsb pe dsb) broadcast local = (answers dsb true && broadcast pe) || (answers dsb false && local pe)
loses_by _ broadcast local = false
