-- What a walk keeps of the events after the last valid write of a place. No public contract cites these words.
use Rattle.std.specs.Prelude.{◌≡◌, ℕ, suc, Bool, false, not, ◌&&◌, ◌==◌, true, List, ◌∷◌}
use Rattle.bbm_regimes.specs.PeMask.{pe_in}
use Rattle.bbm_tlbi_scope.specs.Operations.{operation}
use Rattle.bbm_tlbi_scope.specs.declared.entry.Cover.TheVariants.{Half, Second, Full}
use Rattle.bbm_rules.specs.Claims.{Patterns}
use Rattle.bbm_rules.specs.Cleansing.{cleansed, flushes, half, seen, writes}
use Rattle.bbm_rules.specs.Lists.{any, some}
use Rattle.bbm_rules.specs.Notes.{Noted, event_of}
use Rattle.bbm_rules.specs.Prelude.{Event, Heading, Dsb, Tlbi, Write}
use Rattle.bbm_rules.specs.Reach.{Issued, unanswered}
use Rattle.bbm_oracle_patterns.specs.Relation.{is_open}
use Rattle.bbm_lemmas.specs.ListWords.{same_flag}
use Rattle.bbm_oracle_patterns.specs.declared.open.Open.{Open}
use Rattle.bbm_oracle_patterns.specs.declared.walk.Walk.{Walk}
use Rattle.bbm_oracle_patterns.specs.declared.trace.Trace.{Trace}
use Rattle.bbm_oracle_patterns.specs.declared.kept.Covering.{Covering}
use Rattle.bbm_oracle_patterns.specs.declared.kept.Kept.{Kept}
use Rattle.bbm_oracle_patterns.specs.Kept.{cover_in, listed}

-- a TLBI that is broadcast, or one that isn't
abbrev pub is_of : Bool → Event → Bool
is_of b (Tlbi pe op xt) = same_flag b (operation op).broadcast
is_of b _ = false

-- whether an unanswered TLBI of q passes the test, of those that are broadcast or of the others
abbrev pub open_to : (Issued Noted → Bool) → Bool → ℕ → List Noted → Bool
open_to test b q since = any (λ t. is_of b t.tlbi.event && test t) (unanswered event_of q since)

-- the note of an event that stands behind so many others, which covers a place as far as its covers say, or its top
-- covers
abbrev pub noted_for : Covering → ℕ → Kept → Noted
noted_for covering before k = record {
  event = k.event;
  covers = cover_in (listed covering k);
  tops = cover_in k.tops.items;
  position = suc before;
}

-- an event that changes nothing for a place
abbrev pub is_idle : Event → ℕ → Bool
is_idle (Write pe at value) place = not (at == place)
is_idle (Dsb pe dsb) place = false
is_idle (Tlbi pe op xt) place = false
is_idle _ place = true

-- the tests of the three grades of cover: p is reached, the place covered so far, and what must come before stands
module _ (heading : Heading) (place p : ℕ) where
  abbrev pub full_test : Issued Noted → Bool
  full_test t = flushes heading place p Full (seen heading place p) t

  abbrev pub half_test : Issued Noted → Bool
  half_test t = flushes heading place p Half (seen heading place p) t

  abbrev pub second_test : Issued Noted → Bool
  second_test t = flushes heading place p Second (half heading place p) t

-- the unanswered TLBIs that pass a test of p
pub record IsOpen (o : Open) (test : ℕ → Issued Noted → Bool) (since : List Noted) : Type 0 where
  pub by : (q : ℕ) (b : Bool) (p : ℕ) → is_open o q b p ≡ open_to (test p) b q since

-- a walk has come to the end of these events
pub record IsWalk (w : Walk) (heading : Heading) (place : ℕ) (since : List Noted) : Type 0 where
  pub writers : (q : ℕ) → pe_in w.writers q ≡ some (λ n before. writes q place n.event) since
  pub seen_at : (p : ℕ) → pe_in w.trace.seen p ≡ seen heading place p since
  pub half_at : (p : ℕ) → pe_in w.trace.half p ≡ half heading place p since
  pub cleansed_at : (p : ℕ) → pe_in w.trace.cleansed p ≡ cleansed heading Patterns place p since
  pub full_open : IsOpen w.full (full_test heading place) since
  pub half_open : IsOpen w.half (half_test heading place) since
  pub second_open : IsOpen w.second (second_test heading place) since

-- where the walk has come to these events, and the other one behind it
abbrev pub Steps : Walk → Walk → Heading → ℕ → Noted → Type 0
Steps old new heading place n =
    (since : List Noted) → IsWalk old heading place since → IsWalk new heading place (n ∷ since)

-- a trace of these events
pub record Traces (t : Trace) (heading : Heading) (place : ℕ) (since : List Noted) : Type 0 where
  pub seen_at : (p : ℕ) → pe_in t.seen p ≡ seen heading place p since
  pub half_at : (p : ℕ) → pe_in t.half p ≡ half heading place p since
  pub cleansed_at : (p : ℕ) → pe_in t.cleansed p ≡ cleansed heading Patterns place p since

-- whether an event is a write of the place, and whether some event is one
abbrev pub is_write_of : ℕ → Event → Bool
is_write_of place (Write pe at value) = at == place
is_write_of place _ = false

abbrev pub writes_place : ℕ → Kept → Bool
writes_place place k = is_write_of place k.event

abbrev pub some_writes : ℕ → List Kept → Bool
some_writes place ks = any (writes_place place) ks
