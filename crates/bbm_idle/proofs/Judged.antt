-- Histories that are alike judge alike which TLBIs are needed, and which phases an event keeps.
use Rattle.bbm_idle.proofs.Common.{Phase, Patterns, Alike, SamePatterns, adds, adds_at, adds_since, adds_to, is_needed}
use Rattle.bbm_idle.proofs.Common.{is_needed_at, keeps_phases, takes_of, Known, same_phase}
use Rattle.bbm_rules.proofs.Common.{◌≡◌, ℕ, ◌<◌, Bool, true, false, ◌&&◌, ◌||◌, ◌==◌, List, ◌∷◌, Option, Some, None}
use Rattle.bbm_rules.proofs.Common.{option_and_then, option_map_or, Contains, find, is_some, map, unwrap_or}
use Rattle.bbm_rules.proofs.Common.{refl, sym, ◌∙◌, ap, every_same, Cover, PlaceView}
use Rattle.bbm_rules.proofs.Common.{cover_of, desc_of, every_pe, cleansed, half, seen, cover_at, note}
use Rattle.bbm_rules.proofs.Common.{is_global, noted, view_at, ValidWrite, last_valid, any, below, every}
use Rattle.bbm_rules.proofs.Common.{Noted, events_of, page_of, Heading, Event, Tlbi, Tag}
use Rattle.bbm_rules.proofs.Common.{Scope, reaches, named_scope, vmid_of, Declared, first_pages, given_up, roots_of, distinct}
use Rattle.bbm_rules.proofs.Common.{◌++◌, ever_read, holds_at, kept_at, left_at, tag_set, tags_of, takes_tag, Node, held_at, is_childless}
use Rattle.bbm_rules.proofs.Common.{next_of, node_of, region_of, written_places}
use Rattle.std.proofs.Math.Bool.{and-false}
use Rattle.bbm_tlbi_scope.specs.ScopeCovers.{at_end}
use Rattle.bbm_tlbi_scope.specs.declared.entry.Cover.TheVariants.{None as NoCover}
use Rattle.bbm_rules.specs.Covers.{top_at}
use Rattle.bbm_rules.specs.Held.{empties_tables}
use Rattle.bbm_rules.specs.Notes.{topped}
use Rattle.bbm_rules.specs.Phases.{phase_of}
use Rattle.bbm_rules.specs.TagLaws.{TagKeptBySentence}
use Rattle.bbm_rules.specs.Tree.{tree}
use Rattle.bbm_alike.proofs.ReadingsAlike.{takes_alike}
use Rattle.bbm_idle.proofs.DsbBase.{held_last}
use Rattle.bbm_idle.proofs.FindLists.{every_alike}
use Rattle.bbm_lemmas.proofs.Tests.{any_alike}
use Rattle.bbm_lemmas.proofs.Words.{below_less}

-- ---- tests that say the same

-- a TLBI covers no place that holds nothing, and nothing that ends there
module _ (heading : Heading) (ns : List Noted) (place : ℕ) (n : Node) (node : node_of heading Patterns ns (page_of place) ≡ Some n)
    (none : held_at heading Patterns ns n place ≡ None) where
  -- the cover, where a TLBI sees the place so
  abbrev cover_by : (PlaceView → PlaceView) → Option ℕ → Option PlaceView → Option Scope → Cover
  cover_by seen_so vmid view scope =
      unwrap_or (option_and_then (λ s. option_and_then (λ v. Some (cover_of s vmid (seen_so v))) view) scope) NoCover

  abbrev look : Node → ℕ → Option PlaceView
  look m value = Some (record {
    kind = m.kind;
    region = region_of m place;
    level = m.level;
    table = is_some (next_of m.kind m.level value);
    global = is_global (desc_of m.kind m.level value);
    childless = is_childless heading Patterns ns m value;
    tags = tag_set (tags_of heading Patterns m.root (events_of ns));
  })

  blind : view_at heading Patterns ns place ≡ None
  blind =
      ap (λ (o : Option Node). option_and_then (λ m. option_and_then (look m) (held_at heading Patterns ns m place)) o) node
      ∙ ap (λ (o : Option ℕ). option_and_then (look n) o) none

  unseen : (seen_so : PlaceView → PlaceView) (vmid : Option ℕ) (scope : Option Scope)
      → cover_by seen_so vmid (view_at heading Patterns ns place) scope ≡ NoCover
  unseen seen_so vmid scope = ap (λ (v : Option PlaceView). cover_by seen_so vmid v scope) blind ∙ by scope
    where
      by : (o : Option Scope) → cover_by seen_so vmid None o ≡ NoCover
      by None = refl
      by (Some s) = refl

  uncovered : (e : Event) → cover_at heading Patterns ns e place ≡ NoCover
  uncovered (Tlbi pe op xt) = unseen (λ v. v) (vmid_of heading (events_of ns) pe) (named_scope heading (events_of ns) pe op xt)
  uncovered e = refl

  untopped : (e : Event) → top_at heading Patterns ns e place ≡ NoCover
  untopped (Tlbi pe op xt) = unseen at_end (vmid_of heading (events_of ns) pe) (named_scope heading (events_of ns) pe op xt)
  untopped e = refl

module _ (heading : Heading) (h h' : List Event) (a : Alike heading Patterns Patterns h h') where
  abbrev here : List Noted
  here = noted heading Patterns h

  abbrev there : List Noted
  there = noted heading Patterns h'

  -- ---- tags

  same_kept_at : TagKeptBySentence heading Patterns → (p page : ℕ) (tag : Tag) → p < heading.pes
      → kept_at heading Patterns p page tag h ≡ kept_at heading Patterns p page tag h'
  same_kept_at kept p page tag less =
      kept.parts p page tag h
      ∙ ap (λ (b : Bool). b || left_at heading Patterns p page tag h) (a.holds p page tag less)
      ∙ ap (λ (b : Bool). holds_at heading Patterns p page tag h' || b) (a.left p page tag less)
      ∙ sym (kept.parts p page tag h')

  same_takes_of : TagKeptBySentence heading Patterns → (e : Event) (p : ℕ) → p < heading.pes → (page : ℕ)
      → takes_of heading h e p page ≡ takes_of heading h' e p page
  same_takes_of kept e p less page =
      ap (λ (gs : List Tag). any (λ tag. takes_tag heading e h tag && kept_at heading Patterns p page tag h) gs) (a.tags page)
      ∙ any_alike (λ tag. takes_tag heading e h tag && kept_at heading Patterns p page tag h)
      (λ tag. takes_tag heading e h' tag && kept_at heading Patterns p page tag h') (distinct (ever_read heading page h'))
      (λ tag i. ap (λ (b : Bool). b && kept_at heading Patterns p page tag h) (takes_alike h h' a.registers heading e tag)
      ∙ ap (λ (b : Bool). takes_tag heading e h' tag && b) (same_kept_at kept p page tag less))

  same_pages : first_pages h ≡ first_pages h'
  same_pages =
      ap (λ (rs : List Declared). map (λ (r : Declared). r.page) rs ++ given_up h) a.roots
      ∙ ap (λ (ps : List ℕ). map (λ (r : Declared). r.page) (roots_of h') ++ ps) a.given

  -- ---- places

  module _ (k : Known heading) (e : Event) (p : ℕ) (less : p < heading.pes) (place : ℕ) where
    abbrev adds_by : List Noted → Option ValidWrite → Bool
    adds_by ns o = adds_since heading (note heading Patterns ns e) p place o

    -- where it covers nothing, it adds nothing
    adds_none : (ns : List Noted) (o : Option ValidWrite) → cover_at heading Patterns ns e place ≡ NoCover
        → top_at heading Patterns ns e place ≡ NoCover → adds_by ns o ≡ false
    adds_none ns None none none_top = refl
    adds_none ns (Some w) none none_top =
        ap (λ (x : Cover). adds_to heading x p place w.since
        || (empties_tables heading.version && adds_to heading (top_at heading Patterns ns e place) p place (map topped w.since))) none
        ∙ (ap (λ (x : Cover). empties_tables heading.version && adds_to heading x p place (map topped w.since)) none_top
        ∙ and-false (empties_tables heading.version))

    -- as much where the same is seen, half and cleansed
    same_to : (cover : Cover) (since since' : List Noted) → SamePatterns heading place Patterns Patterns since since'
        → adds_to heading cover p place since ≡ adds_to heading cover p place since'
    same_to cover since since' s =
        ap (λ (x : Bool). adds cover x (half heading place p since) (cleansed heading Patterns place p since)) (s.seen_alike p less)
        ∙ (ap (λ (x : Bool). adds cover (seen heading place p since') x (cleansed heading Patterns place p since)) (s.half_alike p less)
        ∙ ap (λ (x : Bool). adds cover (seen heading place p since') (half heading place p since') x) (s.cleansed_alike p less))

    same_since : (w w' : ValidWrite) → SamePatterns heading place Patterns Patterns w.since w'.since
        → (empties_tables heading.version ≡ true → SamePatterns heading place Patterns Patterns (map topped w.since) (map topped w'.since))
        → adds_by here (Some w) ≡ adds_by there (Some w')
    same_since w w' s tops =
        ap (λ (x : Bool). x || top here w) (ap (λ (c : Cover). adds_to heading c p place w.since) (k.covers_alike.covers h h' e place a)
        ∙ same_to (cover_at heading Patterns there e place) w.since w'.since s)
        ∙ ap (λ (x : Bool). adds_to heading (cover_at heading Patterns there e place) p place w'.since || x)
        (by (empties_tables heading.version) tops)
      where
        top : List Noted → ValidWrite → Bool
        top ns v = empties_tables heading.version && adds_to heading (top_at heading Patterns ns e place) p place (map topped v.since)

        by : (late : Bool) → (late ≡ true → SamePatterns heading place Patterns Patterns (map topped w.since) (map topped w'.since))
            → (late && adds_to heading (top_at heading Patterns here e place) p place (map topped w.since))
            ≡ (late && adds_to heading (top_at heading Patterns there e place) p place (map topped w'.since))
        by false tops = refl
        by true tops = ap (λ (c : Cover). adds_to heading c p place (map topped w.since)) (k.covers_alike.tops h h' e place a)
            ∙ same_to (top_at heading Patterns there e place) (map topped w.since) (map topped w'.since) (tops refl)

    same_node : node_of heading Patterns here (page_of place) ≡ node_of heading Patterns there (page_of place)
    same_node = ap (λ (ns : List Node). find (λ (n : Node). n.page == page_of place) ns) a.trees

    same_adds : adds_at heading here e p place ≡ adds_at heading there e p place
    same_adds = by (node_of heading Patterns here (page_of place)) refl
      where
        in_node : List Noted → Option Node → Bool
        in_node ns o = option_map_or (λ n. adds_by ns (last_valid n.kind n.level place ns)) o false

        at : (ns : List Noted) (n : Node) → node_of heading Patterns ns (page_of place) ≡ Some n
            → adds_at heading ns e p place ≡ adds_by ns (last_valid n.kind n.level place ns)
        at ns n node = ap (in_node ns) node

        out : (ns : List Noted) → node_of heading Patterns ns (page_of place) ≡ None → adds_at heading ns e p place ≡ false
        out ns node = ap (in_node ns) node

        holding : (n : Node) (value : ℕ) → Contains (tree heading Patterns here) n → page_of place ≡ n.page
            → held_at heading Patterns here n place ≡ Some value
            → adds_by here (last_valid n.kind n.level place here) ≡ adds_by there (last_valid n.kind n.level place there)
        holding n value t inside holds =
            let w = held_last heading n.kind n.level place here value holds in
            let w' = held_last heading n.kind n.level place there value (sym (a.held n place t inside) ∙ holds) in
            ap (adds_by here) w.1
            ∙ (same_since w.0 w'.0 (a.patterns n place w.0 w'.0 t inside (ap is_some holds) w.1 w'.1)
            (λ late. a.tops late n place w.0 w'.0 t inside (ap is_some holds) w.1 w'.1)
            ∙ sym (ap (adds_by there) w'.1))

        inside_tree : (n : Node) → node_of heading Patterns here (page_of place) ≡ Some n → (o : Option ℕ) → held_at heading Patterns here n place ≡ o
            → adds_by here (last_valid n.kind n.level place here) ≡ adds_by there (last_valid n.kind n.level place there)
        inside_tree n node None o =
            let none : cover_at heading Patterns here e place ≡ NoCover = uncovered heading here place n node o e in
            let none_top : top_at heading Patterns here e place ≡ NoCover = untopped heading here place n node o e in
            adds_none here (last_valid n.kind n.level place here) none none_top
            ∙ sym (adds_none there (last_valid n.kind n.level place there) (sym (k.covers_alike.covers h h' e place a) ∙ none)
            (sym (k.covers_alike.tops h h' e place a) ∙ none_top))
        inside_tree n node (Some value) o =
            let t = k.tree.taken here (page_of place) n node in holding n value t.0 (sym t.1) o

        by : (o : Option Node) → node_of heading Patterns here (page_of place) ≡ o → adds_at heading here e p place ≡ adds_at heading there e p place
        by None node = out here node ∙ sym (out there (sym same_node ∙ node))
        by (Some n) node = at here n node ∙ (inside_tree n node (held_at heading Patterns here n place) refl ∙ sym (at there n (sym same_node ∙ node)))

  -- ---- which TLBIs are needed

  same_needed_at : Known heading → (e : Event) (p : ℕ) → p < heading.pes
      → is_needed_at heading h e p ≡ is_needed_at heading h' e p
  same_needed_at k e p less =
      ap (λ (b : Bool). reaches heading e p && (b || any (takes_of heading h e p) (first_pages h)))
      (ap (any (adds_at heading here e p)) a.places
      ∙ any_alike (adds_at heading here e p) (adds_at heading there e p) (written_places h') (λ place i. same_adds k e p less place))
      ∙ ap (λ (b : Bool). reaches heading e p && (any (adds_at heading there e p) (written_places h') || b))
      (ap (any (takes_of heading h e p)) same_pages
      ∙ any_alike (takes_of heading h e p) (takes_of heading h' e p) (first_pages h') (λ page i. same_takes_of k.tag_kept e p less page))

  pub same_needed : Known heading → (e : Event) → is_needed heading h e ≡ is_needed heading h' e
  same_needed k e = any_alike (is_needed_at heading h e) (is_needed_at heading h' e) (below heading.pes)
      (λ p i. same_needed_at k e p (below_less heading.pes p i))

  -- ---- which phases an event keeps

  pub same_kept : Known heading → (e : Event) → Alike heading Patterns Patterns (e ∷ h) (e ∷ h')
      → keeps_phases heading h e ≡ keeps_phases heading h' e
  same_kept k e on =
      ap (every (test h)) a.places ∙ every_alike (test h) (test h') (written_places h') (λ place.
      every_same heading.pes (λ p. same_phase (phase_of heading Patterns (e ∷ h) place p) (phase_of heading Patterns h place p))
      (λ p. same_phase (phase_of heading Patterns (e ∷ h') place p) (phase_of heading Patterns h' place p))
      (λ p less. ap (λ (x : Phase). same_phase x (phase_of heading Patterns h place p))
      (k.alike_judges.phase (e ∷ h) (e ∷ h') place p on less)
      ∙ ap (λ (x : Phase). same_phase (phase_of heading Patterns (e ∷ h') place p) x)
      (k.alike_judges.phase h h' place p a less)))
    where
      test : List Event → ℕ → Bool
      test es place = every_pe heading.pes (λ p. same_phase (phase_of heading Patterns (e ∷ es) place p) (phase_of heading Patterns es place p))
