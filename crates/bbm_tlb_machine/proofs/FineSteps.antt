-- What a step or an event makes of a fine entry is fine; and what strikes one covers the place at which it ends.
use Rattle.bbm_rules.proofs.Common.{◌≡◌, ℕ, suc, ◌<◌, ◌≤◌, arith, Bool, true, false, ◌&&◌, not, List, [], ◌∷◌, length, Option, Some}
use Rattle.bbm_rules.proofs.Common.{is_some, Contains, refl, sym, ◌∙◌, ap, subst, inl, inr, ◌⊎◌, true≢false, and_from}
use Rattle.bbm_rules.proofs.Common.{or_cases, not-true, not_from_false, leb-true, eq-eqb, nat_le, ◌==◌, option_map_or}
use Rattle.bbm_rules.proofs.Common.{any_found, to_contains, contains_head, desc_of, needs, Desc, Invalid, Table, Leaf, EntryKind}
use Rattle.bbm_rules.proofs.Common.{Combined, PlaceView, TagSet, One, Many, Family, read_through, tag_of, cover_of, taken, Cover}
use Rattle.bbm_rules.proofs.Common.{Second, Scope, keeps, is_global, noted, cover_at, view_at, Noted, events_of, any}
use Rattle.bbm_rules.proofs.Common.{page_of, Trust, Heading, Event, Kind, Ttbr1, Tag, Tlbi, Issued, same_tag, holds_tag, tag_set}
use Rattle.bbm_rules.proofs.Common.{tags_of, vmid_of, Node, held_at, next_in, node_of, places_in, is_childless, core_in}
use Rattle.bbm_rules.proofs.Common.{core_of, differ, reads, Reading, readings}
use Rattle.std.proofs.lemmas.List.{append_cancel_left}
use Rattle.bbm_rules.specs.Tree.{holds_some}
use Rattle.bbm_tlbi_scope.specs.Agreement.{Agrees, HasTag, IsCoverFor}
use Rattle.bbm_tlbi_scope.specs.Operations.{family_of, has_asid}
use Rattle.bbm_tlbi_scope.specs.Takes.{is_global_leaf}
use Rattle.bbm_tlbi_scope.specs.declared.entry.TagSet.TheVariants.{None as NoTag}
use Rattle.bbm_tlb_machine.specs.Entry.{Entry, age_by, desc_in, head_of, is_given_up, is_leaf, parts_of, tag_of_entry}
use Rattle.bbm_tlb_machine.specs.FineSteps.{FineSteps, IsStruck, is_empty_below, names_asid}
use Rattle.bbm_tlb_machine.specs.Invariant.{Fine, IsAt}
use Rattle.bbm_tlb_machine.specs.KnownOfMachine.{Known}
use Rattle.bbm_tlb_machine.specs.Safe.{is_stale}
use Rattle.bbm_tlb_machine.specs.Step.{is_older, may_start, takes, takes_by}
use Rattle.bbm_tlb_machine.proofs.AfterEvent.{publication_before}
use Rattle.bbm_tlb_machine.proofs.Covered.{agrees_then, view, view_of, view_then}
use Rattle.bbm_tlb_machine.proofs.Descs.{no_leaf_if_table}
use Rattle.bbm_tlb_machine.proofs.EventSteps.{fine_after, still_up}
use Rattle.bbm_tlb_machine.proofs.Facts.{held_there, means}
use Rattle.bbm_tlb_machine.proofs.Made.{fine_combined, fine_extended, fine_start}
use Rattle.bbm_tlb_machine.proofs.RunLaw.{extends_from, starts_from}
use Rattle.bbm_tlb_machine.proofs.Runs.{none_read}
use Rattle.bbm_tlb_machine.proofs.Scopes.{Scoped, cover_inside, named_family, scoped, second_age}

global_is_leaf : (d : Desc) → is_global d ≡ true → is_leaf d ≡ true
global_is_leaf Invalid e = absurd (true≢false (sym e))
global_is_leaf (Table next ns) e = absurd (true≢false (sym e))
global_is_leaf (Leaf out attrs share global contiguous) e = refl

leaf_is_no_table : (d : Desc) → is_leaf d ≡ true → is_some (next_in d) ≡ false
leaf_is_no_table Invalid e = absurd (true≢false (sym e))
leaf_is_no_table (Table next ns) e = absurd (true≢false (sym e))
leaf_is_no_table (Leaf out attrs share global contiguous) e = refl

module _ (heading : Heading) (trust : Trust) where
  -- whether no place of a next page, where there is one, holds anything at a kind, one level deeper than this
  abbrev none_held : List Noted → Kind → ℕ → Option ℕ → Bool
  none_held h c l q = option_map_or
      (λ next. not (any (λ a. holds_some heading trust h c (suc l) a) (places_in (events_of h) next))) q false

  takes_scoped : (e : Event) (before : List Event) (x : Entry) → takes heading e before x ≡ true
      → Scoped heading before e (λ scope vmid. taken scope vmid (head_of x) ≡ true)
  takes_scoped (Tlbi pe op xt) before x e =
      scoped heading before pe op xt _ (λ (s : Option Scope). takes_by s (vmid_of heading before pe) x ≡ true)
      (λ k. true≢false (sym k)) (λ scope k. k) e
  takes_scoped e before x k = absurd (true≢false (sym k))

  cover_then : (older : List Noted) (e : Event) (place : ℕ) (v : PlaceView) (Says : Scope → Option ℕ → Type 0)
      (s : Scoped heading (events_of older) e Says) → view_at heading trust older place ≡ Some v
      → cover_at heading trust older e place ≡ cover_of s.scope (vmid_of heading (events_of older) s.pe) v
  cover_then older e place v Says s there = rw (s.is, s.named, there) refl

  -- a walk starts by a value that is read, so behind an event
  behind_some : Known heading trust → (h : List Event) (x : Entry) (number : ℕ) → may_start heading h x number ≡ true → 0 < length h
  behind_some k h x number e = by h (starts_from heading h x number e).tag
    where
      by : (es : List Event) → reads heading es x.pe (tag_of_entry x) x.root ≡ true → 0 < length es
      by [] e =
          let f = any_found (λ (r : Reading). same_tag r.tag (tag_of_entry x) && r.root == x.root) (readings heading [] x.pe) e in
          absurd (none_read heading trust k heading.words.inorder heading.world x.pe f.0 (to_contains (readings heading [] x.pe) f.0 f.1))
      by (e ∷ es) r = omega arith

module _ (heading : Heading) (trust : Trust) (k : Known heading trust) where
  -- a root that holds a tag and no other
  one_tag : (root : ℕ) (h : List Event) (tag : Tag) → HasTag (tag_set (tags_of heading trust root h)) tag
      → ((other : Tag) → holds_tag heading trust root other h ≡ true → other ≡ tag) → tag_set (tags_of heading trust root h) ≡ One tag
  one_tag root h tag has alone = by (tag_set (tags_of heading trust root h)) refl has
    where
      by : (s : TagSet) → tag_set (tags_of heading trust root h) ≡ s → HasTag s tag → s ≡ One tag
      by NoTag is has = absurd has
      by (One held) is has = ap One has
      by Many is has =
          let m = k.tag_set.many root h is in
          let same : m.0 ≡ m.1 = alone m.0 m.3 ∙ sym (alone m.1 m.4) in
          absurd (true≢false (sym ((k.equality_tests.tags m.0 m.1).1 same) ∙ m.2))

  module _ (h : List Event) (kept : keeps heading trust h ≡ true) (x : Entry) (f : Fine heading trust h x)
      (up : is_given_up heading h x ≡ false) where
    here : Contains (parts_of x) x.last
    here = contains_head x.above x.last

    abbrev node : Node
    node = ((f.rooted up).placed x.last here).node

    abbrev value : ℕ
    value = ((f.rooted up).holding x.last here).value

    is_at : IsAt node x.root x.last
    is_at = ((f.rooted up).placed x.last here).is_at

    means_it : desc_of node.kind node.level value ≡ desc_in x.last
    means_it = means heading trust k h kept x x.last node is_at ((f.rooted up).holding x.last here) (f.shape.valid x.last here)

    -- what the last place holds has the core of what was read there
    last_stale : (n : Node) → node_of heading trust (noted heading trust h) (page_of x.last.place) ≡ Some n → (old new : ℕ)
        → held_at heading trust (noted heading trust h) n x.last.place ≡ Some old → needs n.kind n.level old new ≡ true
        → is_stale x.last.place new x.last ≡ true
    last_stale n found old new held need =
        and_from (x.last.place == x.last.place) (needs x.last.kind x.last.level x.last.value new) (eq-eqb x.last.place x.last.place refl)
        need_of_read
      where
        its_node : node_of heading trust (noted heading trust h) (page_of x.last.place) ≡ Some node
        its_node = rw is_at.inside (k.one_node.the_first h kept node ((f.rooted up).placed x.last here).in_tree)

        same_node : n ≡ node
        same_node = let both : Some n ≡ Some node = sym found ∙ its_node in cc

        its_held : held_at heading trust (noted heading trust h) node x.last.place ≡ Some value
        its_held = held_there heading trust k h kept x x.last node is_at value ((f.rooted up).holding x.last here).holds

        same_value : old ≡ value
        same_value =
            let both : Some old ≡ Some value
            = sym held ∙ (ap (λ (m : Node). held_at heading trust (noted heading trust h) m x.last.place) same_node ∙ its_held) in cc

        its_need : needs node.kind node.level value new ≡ true
        its_need = rw (same_node, same_value) at need

        need_there : differ (core_in (desc_in x.last)) (core_of node.kind node.level new) ≡ true
        need_there = subst (λ (c : Desc). differ (core_in c) (core_of node.kind node.level new) ≡ true) means_it its_need

        need_of_read : needs x.last.kind x.last.level x.last.value new ≡ true
        need_of_read = rw (is_at.kind, is_at.level) at need_there

    -- ---- a TLBI that takes it

    module _ (t : Issued Noted) (older : List Noted) (s : IsStruck heading trust h x t older) where
      made : x.since < s.b.position
      made =
          (f.rooted up).made_before x.last here s.w s.is_last s.p s.near s.b
          (publication_before heading trust k x.last.place s.p s.q s.w.since t s.b s.is_open s.told)

      abbrev seen : List Noted
      seen = (view heading trust k h kept x f up (f.rooted up) false x.last here (λ e. refl) s.w s.is_last s.p s.q s.near t s.is_open s.b s.told made).older

      same : seen ≡ older
      same =
          let v = view heading trust k h kept x f up (f.rooted up) false x.last here (λ e. refl) s.w s.is_last s.p s.q s.near t s.is_open s.b s.told made in
          let tails : t.tlbi ∷ v.older ≡ t.tlbi ∷ older
          = append_cancel_left s.is_open.newer (t.tlbi ∷ v.older) (t.tlbi ∷ older) (sym v.split ∙ s.whole) in
          cc

      abbrev place : PlaceView
      place = view_of heading trust false seen node x.last.place value

      agrees : Agrees (head_of x) place
      agrees = agrees_then heading trust k h kept x f up (f.rooted up) false x.last here (λ e. refl) s.w s.is_last s.p s.q s.near t s.is_open s.b s.told made

      viewed : view_at heading trust seen x.last.place ≡ Some place
      viewed = view_then heading trust k h kept x f up (f.rooted up) false x.last here (λ e. refl) s.w s.is_last s.p s.q s.near t s.is_open s.b s.told made

      by_scope : Scoped heading (events_of seen) t.tlbi.event (λ scope vmid. taken scope vmid (head_of x) ≡ true)
      by_scope =
          takes_scoped heading trust t.tlbi.event (events_of seen) x
          (subst (λ (ns : List Noted). takes heading t.tlbi.event (events_of ns) x ≡ true) (sym same) s.takes)

      covers_is : t.tlbi.covers x.last.place ≡ cover_of by_scope.scope (vmid_of heading (events_of seen) by_scope.pe) place
      covers_is =
          let v = view heading trust k h kept x f up (f.rooted up) false x.last here (λ e. refl) s.w s.is_last s.p s.q s.near t s.is_open s.b s.told made in
          ap (λ (c : ℕ → Cover). c x.last.place) (k.notes.each h s.is_open.newer v.older t.tlbi v.split).1
          ∙ cover_then heading trust seen t.tlbi.event x.last.place place
          (λ scope vmid. taken scope vmid (head_of x) ≡ true) by_scope viewed

      alone : place.tags ≡ One (tag_of place.kind (head_of x))
      alone =
          one_tag node.root (events_of seen) (tag_of node.kind (head_of x)) agrees.tag
          (λ other holds. s.alone other (held_then other holds) ∙ ap (λ (c : Kind). tag_of c (head_of x)) (sym is_at.kind))
        where
          held_then : (other : Tag) → holds_tag heading trust node.root other (events_of seen) ≡ true
              → holds_tag heading trust x.root other (events_of older) ≡ true
          held_then other holds =
              subst (λ (ns : List Noted). holds_tag heading trust x.root other (events_of ns) ≡ true) same
              (subst (λ (r : ℕ). holds_tag heading trust r other (events_of seen) ≡ true) is_at.root holds)

      ending : place.table ≡ true → place.childless ≡ true
      ending table =
          elim (or_cases (is_leaf (desc_in x.last)) (is_empty_below heading trust older x.last) s.ending) [
            | inl leaf ↦ absurd (true≢false (sym leaf
                ∙ no_leaf_if_table (desc_in x.last) (sym (ap (λ (c : Desc). is_some (next_in c)) means_it) ∙ table)))
            | inr empty ↦ same_below ∙ subst (λ (ns : List Noted). is_empty_below heading trust ns x.last ≡ true) (sym same) empty
          ]
        where
          same_below : is_childless heading trust seen node value ≡ is_empty_below heading trust seen x.last
          same_below =
              ap (none_held heading trust seen node.kind node.level) (ap next_in means_it)
              ∙ (ap (λ (c : Kind). none_held heading trust seen c node.level (next_in (desc_in x.last))) is_at.kind
              ∙ ap (λ (l : ℕ). none_held heading trust seen x.last.kind l (next_in (desc_in x.last))) is_at.level)

      for_all : place.kind ≡ Ttbr1
          → ((is_global_leaf (head_of x) ≡ true) × ((not place.table && place.global) ≡ true)) ⊎ (has_asid by_scope.scope.family ≡ false)
      for_all upper =
          elim (or_cases (is_global (desc_in x.last)) (not (names_asid t.tlbi.event)) (s.for_all (sym is_at.kind ∙ upper))) [
            | inl global ↦ inl (global_one global)
            | inr apart ↦ inr (ap has_asid (named_family heading (events_of seen) by_scope.pe by_scope.op by_scope.xt by_scope.scope by_scope.named)
                ∙ not-true (has_asid (family_of by_scope.op)) (subst (λ (e : Event). not (names_asid e) ≡ true) by_scope.is apart))
          ]
        where
          global_one : is_global (desc_in x.last) ≡ true
              → (is_global_leaf (head_of x) ≡ true) × ((not place.table && place.global) ≡ true)
          global_one global =
              let leaf : is_leaf (desc_in x.last) ≡ true = global_is_leaf (desc_in x.last) global in
              let none : is_some (next_in (desc_of node.kind node.level value)) ≡ false
              = ap (λ (c : Desc). is_some (next_in c)) means_it ∙ leaf_is_no_table (desc_in x.last) leaf in (
                and_from (is_leaf (desc_in x.last)) (is_global (desc_in x.last)) leaf global,
                and_from (not place.table) place.global (not_from_false place.table none) (ap is_global means_it ∙ global),
              )

      struck_covers : IsCoverFor x.kind (t.tlbi.covers x.last.place)
      struck_covers =
          subst (IsCoverFor x.kind) (sym covers_is)
          (k.taken_covers by_scope.scope (vmid_of heading (events_of seen) by_scope.pe) (head_of x) place
          (record { agrees = agrees; alone = alone; ending = ending; for_all = for_all }) by_scope.says)

      -- the second step sees an entry as old as its joining
      struck_second : x.kind ≡ Combined → t.tlbi.covers x.last.place ≡ Second → is_older t.tlbi.event (events_of older) x ≡ true
          → x.joined ≤ length (events_of older)
      struck_second joins covered is_old =
          let inside = cover_inside by_scope.scope (vmid_of heading (events_of seen) by_scope.pe) place Second (λ e. cc) (sym covers_is ∙ covered) in
          let through : read_through Combined place.kind ≡ true
          = ap (λ (c : EntryKind). read_through c place.kind) (sym joins) ∙ agrees.kind in
          let family = named_family heading (events_of seen) by_scope.pe by_scope.op by_scope.xt by_scope.scope by_scope.named in
          let old : nat_le (age_by (family_of by_scope.op) x.kind x.since x.joined) (length (events_of older)) ≡ true
          = subst (λ (e : Event). is_older e (events_of older) x ≡ true) by_scope.is is_old in
          let aged : age_by by_scope.scope.family x.kind x.since x.joined ≤ length (events_of older)
          = leb-true _ _ (subst (λ (c : Family). nat_le (age_by c x.kind x.since x.joined) (length (events_of older)) ≡ true) (sym family) old) in
          let age : age_by by_scope.scope.family x.kind x.since x.joined ≡ x.joined
          = ap (λ (c : EntryKind). age_by by_scope.scope.family c x.since x.joined) joins
          ∙ second_age place.kind by_scope.scope.family _ by_scope.scope _ place x.since x.joined through inside in
          omega (arith, age, aged)

  pub fine_steps : FineSteps heading trust
  fine_steps = record {
    starts = λ h kept log p kind number place value s.
        fine_start heading trust k h kept log p kind number place value (starts_from heading h _ number s);
    extends = λ h kept x f place value e. fine_extended heading trust k h kept x f place value (extends_from heading h x place value e);
    joins = λ h kept x f. fine_combined heading trust k h kept x f;
    behind = behind_some heading trust k;
    after = λ h e kept x f none. fine_after heading trust k h e kept x f none;
    up_before = λ h e x. still_up heading.words.unflushed _ _;
    covers = λ h kept x f up t older s. struck_covers h kept x f up t older s;
    second = λ h kept x f up t older s. struck_second h kept x f up t older s;
    stale = λ h kept x f up. last_stale h kept x f up;
  }
