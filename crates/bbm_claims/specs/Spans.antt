-- Until when tags are readable, as it is kept from event to event. No public contract cites these words.
-- Source: project's own choice.
use Rattle.std.specs.Prelude.{◌≡◌, ◌<◌, ℕ, Bool, true, ◌&&◌, ◌||◌, ◌==◌, nat_lt, List, Option, Some, None}
use Rattle.bbm_rules.specs.Claims.{same_tag}
use Rattle.bbm_rules.specs.Lists.{any}
use Rattle.bbm_rules.specs.Prelude.{Tag, Heading, Event}
use Rattle.bbm_rules.specs.Tags.{read_since, reads_for_some}
use Rattle.bbm_claims.specs.declared.spans.Span.{Span}

-- whether what ends after so many events, or hasn't ended, goes on after the first n
abbrev pub goes_past : ℕ → Option ℕ → Bool
goes_past n None = true
goes_past n (Some until) = nat_lt n until

-- whether it is of this tag at p, and goes on after the first n events
abbrev pub is_span : ℕ → Tag → ℕ → Span → Bool
is_span p tag n x = (x.pe == p && same_tag x.tag tag) && goes_past n x.until

abbrev pub lasts : List Span → ℕ → Tag → ℕ → Bool
lasts xs p tag n = any (is_span p tag n) xs

-- whether the tag is readable at p for some root, or was so at some moment after the first n events
abbrev pub read_after : Heading → ℕ → Tag → ℕ → List Event → Bool
read_after heading p tag n h = reads_for_some heading h p tag || read_since heading n p tag h

-- they say of these events which tags are readable, and until when others were
abbrev pub AreSpans : Heading → List Event → List Span → Type 0
AreSpans heading h xs = (p n : ℕ) (tag : Tag) → p < 128 → lasts xs p tag n ≡ read_after heading p tag n h
