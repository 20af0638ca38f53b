-- Which roots hold which tags, and which were left, as it is kept from event to event. No public contract cites these
-- words. Source: project's own choice.
use Rattle.std.specs.Prelude.{◌≡◌, ◌<◌, ℕ, ◌-◌, Bool, false, not, ◌&&◌, ◌||◌, ◌==◌, nat_lt, List, length}
use Rattle.std.specs.Prelude.{if◌then◌else◌}
use Rattle.bbm_events.specs.declared.claim.Claim.{Claim}
use Rattle.bbm_rules.specs.Changes.{changes}
use Rattle.bbm_rules.specs.Claims.{same_tag}
use Rattle.bbm_rules.specs.Claims.Trust.{Listed}
use Rattle.bbm_rules.specs.Lists.{any}
use Rattle.bbm_rules.specs.Prelude.{Tag, Heading, Event, Dsb}
use Rattle.bbm_rules.specs.Roots.{gives_up}
use Rattle.bbm_rules.specs.Tags.{holds_at, left_at, reads, reads_for_some}
use Rattle.bbm_histories.specs.ClaimSteps.{completes_taken}
use Rattle.bbm_oracle_tags.specs.declared.holding.Holding.{Holding}
use Rattle.bbm_claims.specs.declared.holdings.Loss.{Loss}
use Rattle.bbm_claims.specs.declared.spans.Span.{Span}
use Rattle.bbm_claims.specs.Spans.{lasts}

-- whether one of them is of this tag, which the root holds at p
abbrev pub is_holding : ℕ → ℕ → Tag → Holding → Bool
is_holding p root tag x = (x.pe == p && x.root == root) && same_tag x.tag tag

abbrev pub has : List Holding → ℕ → ℕ → Tag → Bool
has xs p root tag = any (is_holding p root tag) xs

-- the first are what the declared roots hold after these events, by the claims alone, and the others what those left
-- that were given up
pub record Keep (heading : Heading) (claims : List Claim) (h : List Event) (held left : List Holding) : Type 0 where
  pub held_is : (p root : ℕ) (tag : Tag) → p < 128 → has held p root tag ≡ holds_at heading (Listed claims) p root tag h
  pub left_is : (p page : ℕ) (tag : Tag) → p < 128 → has left p page tag ≡ left_at heading (Listed claims) p page tag h

-- whether the tag is one of these that are lost at p
abbrev pub is_loss : ℕ → Tag → Loss → Bool
is_loss p tag x = x.pe == p && same_tag x.tag tag

abbrev pub is_lost : List Loss → ℕ → Tag → Bool
is_lost xs p tag = any (is_loss p tag) xs

-- whether the event, which comes behind h, completes a claim that the tag is taken away at p
abbrev pub ends_some : Heading → List Claim → ℕ → Tag → Event → List Event → Bool
ends_some heading claims p tag (Dsb q dsb) h = any (completes_taken heading p tag q dsb h) claims
ends_some heading claims p tag _ h = false

-- whether a tag that was kept at p isn't lost, after these events
abbrev pub stays_kept : Heading → List Event → List Loss → ℕ → Tag → Bool
stays_kept heading h losses p tag = not (is_lost losses p tag && not (reads_for_some heading h p tag))

-- what is still of these at p after h
abbrev pub still_has : Heading → List Event → List Loss → List Holding → ℕ → ℕ → Tag → Bool
still_has heading h losses xs p root tag = has xs p root tag && stays_kept heading h losses p tag

-- what a declared root holds at p after h, whose last event is e, where these were held before it
abbrev pub next_has : Heading → Event → List Event → List Loss → List Holding → ℕ → ℕ → Tag → Bool
next_has heading e h losses held p root tag = (still_has heading h losses held p root tag && not (gives_up root e))
    || (((changes e).roots || (changes e).registers) && reads heading h p tag root)

-- what one that was given up has left there, where these were held and those were left before the event
abbrev pub next_left : Heading → Event → List Event → List Loss → List Holding → List Holding → ℕ → ℕ → Tag → Bool
next_left heading e h losses held left p page tag = still_has heading h losses left p page tag
    || (gives_up page e && still_has heading h losses held p page tag)

-- whether the tag goes on after the first n events by what was so before e, the newest of h, where nothing is readable
-- any more if it may change that
abbrev pub before_lasts : Event → List Event → List Span → ℕ → Tag → ℕ → Bool
before_lasts e h spans p tag n =
    if (changes e).roots || (changes e).registers then lasts spans p tag n && nat_lt n (length h - 1)
    else lasts spans p tag n

-- and by what is readable then
abbrev pub next_lasts : Heading → Event → List Event → List Span → ℕ → Tag → ℕ → Bool
next_lasts heading e h spans p tag n = before_lasts e h spans p tag n
    || (((changes e).roots || (changes e).registers) && reads_for_some heading h p tag)
