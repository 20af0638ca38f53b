-- A TLBI is needed exactly where the sentence says so.
use Rattle.bbm_idle.proofs.Common.{Patterns, adds_at, adds_since, adds_to, is_needed, is_needed_at, takes_of}
use Rattle.bbm_rules.proofs.Common.{◌≡◌, ℕ, ◌<◌, true, false, not, ◌&&◌, ◌||◌, List, map, Option, Some, None}
use Rattle.bbm_rules.proofs.Common.{option_map_or, ◌⊎◌, inl, inr, refl, sym, ◌∙◌, true≢false, and_from, and_parts, not-true, or_cases}
use Rattle.bbm_rules.proofs.Common.{or_left, or_right}
use Rattle.bbm_rules.proofs.Common.{In, any_finds, any_found, from_contains, any, Cover, Full, Half}
use Rattle.bbm_rules.proofs.Common.{Second, note, noted, cleansed, half, seen, ValidWrite, last_valid, Noted}
use Rattle.bbm_rules.proofs.Common.{page_of, Heading, Event, Tag, reaches, first_pages, distinct, ever_read}
use Rattle.bbm_rules.proofs.Common.{kept_at, takes_tag, Node, node_of, written_places}
use Rattle.bbm_rules.specs.Held.{empties_tables}
use Rattle.bbm_rules.specs.Notes.{topped}
use Rattle.bbm_tlbi_scope.specs.declared.entry.Cover.TheVariants.{None as NoCover}
use Rattle.bbm_alike.proofs.HeldTags.{kept_is_listed}
use Rattle.bbm_lemmas.proofs.Bools.{not_from}
use Rattle.bbm_lemmas.proofs.Words.{pe_found}
use Rattle.bbm_idle.specs.IdleSentences.{Needed, NeededForPlace, NeededForTag, TakesFurther}
use Rattle.bbm_idle.specs.KnownOfIdle.{Terms}
use Rattle.bbm_idle.proofs.Needed.{adds_needed, takes_needed}

module _ (heading : Heading) (t : Terms heading) where
  -- ---- a place

  further : (c : Cover) (place p : ℕ) (since : List Noted) → adds_to heading c p place since ≡ true
      → TakesFurther heading c place p since
  further Full place p since e =
      let parts = and_parts (seen heading place p since) (not (cleansed heading Patterns place p since)) e in (
        t.seen.sound place p since parts.0,
        λ c. true≢false (sym (t.cleansed.complete place p since c) ∙ not-true (cleansed heading Patterns place p since) parts.1),
      )
  further Half place p since e =
      let parts = and_parts (seen heading place p since) (not (half heading place p since)) e in (
        t.seen.sound place p since parts.0,
        λ c. true≢false (sym (t.half.complete place p since c) ∙ not-true (half heading place p since) parts.1),
      )
  further Second place p since e =
      let parts = and_parts (half heading place p since) (not (cleansed heading Patterns place p since)) e in (
        t.half.sound place p since parts.0,
        λ c. true≢false (sym (t.cleansed.complete place p since c) ∙ not-true (cleansed heading Patterns place p since) parts.1),
      )
  further NoCover place p since e = true≢false (sym e)

  adding : (c : Cover) (place p : ℕ) (since : List Noted) → TakesFurther heading c place p since
      → adds_to heading c p place since ≡ true
  adding Full place p since f =
      and_from (seen heading place p since) (not (cleansed heading Patterns place p since)) (t.seen.complete place p since f.0)
      (not_from (cleansed heading Patterns place p since) (λ e. f.1 (t.cleansed.sound place p since e)))
  adding Half place p since f =
      and_from (seen heading place p since) (not (half heading place p since)) (t.seen.complete place p since f.0)
      (not_from (half heading place p since) (λ e. f.1 (t.half.sound place p since e)))
  adding Second place p since f =
      and_from (half heading place p since) (not (cleansed heading Patterns place p since)) (t.half.complete place p since f.0)
      (not_from (cleansed heading Patterns place p since) (λ e. f.1 (t.cleansed.sound place p since e)))
  adding NoCover place p since f = absurd f

  -- by its cover, or from version 5 on by its top cover
  abbrev FurtherBy : Noted → ℕ → ℕ → List Noted → Type 0
  FurtherBy tlbi place p since = TakesFurther heading (tlbi.covers place) place p since
      ⊎ ((empties_tables heading.version ≡ true) × TakesFurther heading (tlbi.tops place) place p (map topped since))

  further_by : (tlbi : Noted) (place p : ℕ) (w : ValidWrite) → adds_since heading tlbi p place (Some w) ≡ true
      → FurtherBy tlbi place p w.since
  further_by tlbi place p w e =
      elim (or_cases (adds_to heading (tlbi.covers place) p place w.since)
      (empties_tables heading.version && adds_to heading (tlbi.tops place) p place (map topped w.since)) e) [
        | inl whole ↦ inl (further (tlbi.covers place) place p w.since whole)
        | inr top ↦
            let parts = and_parts (empties_tables heading.version) (adds_to heading (tlbi.tops place) p place (map topped w.since)) top in
            inr (parts.0, further (tlbi.tops place) place p (map topped w.since) parts.1)
      ]

  adding_by : (tlbi : Noted) (place p : ℕ) (w : ValidWrite) → FurtherBy tlbi place p w.since
      → adds_since heading tlbi p place (Some w) ≡ true
  adding_by tlbi place p w (inl f) =
      or_left (adds_to heading (tlbi.covers place) p place w.since)
      (empties_tables heading.version && adds_to heading (tlbi.tops place) p place (map topped w.since))
      (adding (tlbi.covers place) place p w.since f)
  adding_by tlbi place p w (inr f) =
      or_right (adds_to heading (tlbi.covers place) p place w.since)
      (empties_tables heading.version && adds_to heading (tlbi.tops place) p place (map topped w.since))
      (and_from (empties_tables heading.version) (adds_to heading (tlbi.tops place) p place (map topped w.since)) f.0
      (adding (tlbi.tops place) place p (map topped w.since) f.1))

  for_place : (h : List Noted) (e : Event) (p place : ℕ) → adds_at heading h e p place ≡ true → NeededForPlace heading h e p place
  for_place h e p place adds_some = by (node_of heading Patterns h (page_of place)) refl adds_some
    where
      over : (n : Node) → node_of heading Patterns h (page_of place) ≡ Some n → (o : Option ValidWrite)
          → last_valid n.kind n.level place h ≡ o → adds_since heading (note heading Patterns h e) p place o ≡ true
          → NeededForPlace heading h e p place
      over n node None last a = absurd (true≢false (sym a))
      over n node (Some w) last a = record {
        node = n;
        in_tree = node;
        write = w;
        last_write = t.last_valid.sound n.kind n.level place h w last;
        further = further_by (note heading Patterns h e) place p w a;
      }

      by : (o : Option Node) → node_of heading Patterns h (page_of place) ≡ o
          → option_map_or (λ n. adds_since heading (note heading Patterns h e) p place (last_valid n.kind n.level place h)) o false ≡ true
          → NeededForPlace heading h e p place
      by None node a = absurd (true≢false (sym a))
      by (Some n) node a = over n node (last_valid n.kind n.level place h) refl a

  -- ---- a tag

  for_tag : (h : List Event) (e : Event) (p page : ℕ) → takes_of heading h e p page ≡ true
      → (tag : Tag) × NeededForTag heading h e p tag
  for_tag h e p page taking =
      let f = any_found (λ (tag : Tag). takes_tag heading e h tag && kept_at heading Patterns p page tag h)
      (distinct (ever_read heading page h)) taking in
      let parts = and_parts (takes_tag heading e h f.0) (kept_at heading Patterns p page f.0 h) f.2 in
      (f.0, record { page = page; kept = t.tag_kept.sound p page f.0 h parts.1; whole = parts.0 })

  taking : (h : List Event) (e : Event) (p : ℕ) (tag : Tag) → p < heading.pes → (n : NeededForTag heading h e p tag)
      → takes_of heading h e p n.page ≡ true
  taking h e p tag less n =
      let kept = t.tag_kept.complete p n.page tag h n.kept in
      any_finds (λ (g : Tag). takes_tag heading e h g && kept_at heading Patterns p n.page g h)
      (distinct (ever_read heading n.page h)) tag
      (kept_is_listed heading Patterns p n.page tag t.equality_tests.tags h less kept)
      (and_from (takes_tag heading e h tag) (kept_at heading Patterns p n.page tag h) n.whole kept)

  -- the page of a tag that is kept is that of a declared root, or of one that was given up
  listed : (h : List Event) (e : Event) (p : ℕ) (tag : Tag) → (n : NeededForTag heading h e p tag) → In (first_pages h) n.page
  listed h e p tag n =
      from_contains (first_pages h) n.page (t.tag_kept.listed p n.page tag h (t.tag_kept.complete p n.page tag h n.kept))

  -- ---- a TLBI

  pub needed_sound : (h : List Event) (e : Event) → is_needed heading h e ≡ true → Needed heading h e
  needed_sound h e needed =
      let at = pe_found heading.pes (is_needed_at heading h e) needed in
      let parts = and_parts (reaches heading e at.0)
      (any (adds_at heading (noted heading Patterns h) e at.0) (written_places h) || any (takes_of heading h e at.0) (first_pages h)) at.2 in
      record {
        p = at.0;
        is_pe = at.1;
        reached = parts.0;
        for_one = elim (or_cases (any (adds_at heading (noted heading Patterns h) e at.0) (written_places h))
            (any (takes_of heading h e at.0) (first_pages h)) parts.1) [
              | inl place ↦
                  let f = any_found (adds_at heading (noted heading Patterns h) e at.0) (written_places h) place in
                  inl (f.0, for_place (noted heading Patterns h) e at.0 f.0 f.2)
              | inr tag ↦ let f = any_found (takes_of heading h e at.0) (first_pages h) tag in inr (for_tag h e at.0 f.0 f.2)
            ];
      }

  pub needed_complete : (h : List Event) (e : Event) → Needed heading h e → is_needed heading h e ≡ true
  needed_complete h e n = by n.for_one
    where
      by : ((place : ℕ) × NeededForPlace heading (noted heading Patterns h) e n.p place) ⊎ ((tag : Tag) × NeededForTag heading h e n.p tag)
          → is_needed heading h e ≡ true
      by (inl there) =
          let f : NeededForPlace heading (noted heading Patterns h) e n.p there.0 = there.1 in
          adds_needed heading t.notes_keep_the_events h e n.p there.0 f.node f.write n.is_pe n.reached f.in_tree
          (t.last_valid.complete f.node.kind f.node.level there.0 (noted heading Patterns h) f.write f.last_write)
          (adding_by (note heading Patterns (noted heading Patterns h) e) there.0 n.p f.write f.further)
      by (inr there) =
          let f : NeededForTag heading h e n.p there.0 = there.1 in
          takes_needed heading h e n.p f.page n.is_pe n.reached (listed h e n.p there.0 f) (taking h e n.p there.0 n.is_pe f)
