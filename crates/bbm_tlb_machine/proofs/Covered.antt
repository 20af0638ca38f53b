-- A TLBI that covers a place of a part, and that was issued after the entry was made, takes the entry.
use Rattle.bbm_rules.proofs.Common.{◌≡◌, ℕ, suc, ◌+◌, ◌-◌, ◌<◌, ◌≤◌, ◌⊎◌, ◌||◌, Bool, true, false, List, [], ◌∷◌, ◌++◌}
use Rattle.bbm_rules.proofs.Common.{length, Some, None, is_some, Contains, refl, sym, ◌∙◌, ap, subst, inl, inr, arith}
use Rattle.bbm_rules.proofs.Common.{true≢false, length-append, Extent, holds, desc_of, Desc, read_through, Cover}
use Rattle.bbm_rules.proofs.Common.{PlaceView, keeps, Trust, seen, is_global, noted, view_at, ValidWrite, held}
use Rattle.bbm_rules.proofs.Common.{last_valid, Noted, events_of, IsLastValid, Publication, page_of, Heading, Ttbr0}
use Rattle.bbm_rules.proofs.Common.{Ttbr1, Event, Issued, Open, tag_set, tags_of, Node, is_childless, next_in, next_of}
use Rattle.bbm_rules.proofs.Common.{node_of, region_of, Childless}
use Rattle.std.proofs.lemmas.List.{append_assoc, append_cancel_left}
use Rattle.bbm_tlbi_scope.specs.Agreement.{Agrees, EndsBy}
use Rattle.bbm_tlbi_scope.specs.declared.entry.Cover.TheVariants.{None as NoCover}
use Rattle.bbm_rules.specs.Notes.{event_of}
use Rattle.bbm_rules.specs.Prelude.{input_pages}
use Rattle.bbm_rules.specs.Tree.{tree}
use Rattle.bbm_histories.specs.TreeChanges.{HeldBy, View}
use Rattle.bbm_tlb_machine.specs.Entry.{Entry, Part, desc_in, head_of, is_given_up, is_leaf, parts_of, region_in}
use Rattle.bbm_tlb_machine.specs.Invariant.{Fine, Holding, IsAt, IsBelow, IsNear, Rooted, grade}
use Rattle.bbm_tlb_machine.specs.KnownOfMachine.{Known}
use Rattle.bbm_tlb_machine.proofs.Descs.{leaf_if_no_table, no_leaf_if_table, some_pages}
use Rattle.bbm_histories.proofs.Induction.{events_append, kept_before, events_length}
use Rattle.bbm_tlb_machine.proofs.Facts.{has_tag, held_there, means, tag_then}
use Rattle.bbm_tlb_machine.proofs.Regions.{chain_kind, inside_of, last_or_above, region_holds}
use Rattle.bbm_tlb_machine.proofs.Scopes.{CoversBy, covers_by, tops_by}

-- a place of a page of the trees that holds a value, as a TLBI sees it that comes after these events; or, of what ends
-- there, as if no place below held anything
abbrev pub view_of : Heading → Trust → Bool → List Noted → Node → ℕ → ℕ → PlaceView
view_of heading trust top older n place value = record {
  kind = n.kind;
  region = region_of n place;
  level = n.level;
  table = is_some (next_of n.kind n.level value);
  global = is_global (desc_of n.kind n.level value);
  childless = top || is_childless heading trust older n value;
  tags = tag_set (tags_of heading trust n.root (events_of older));
}

-- A TLBI that covers a place of a part so far, among the events alone: its scope, what it saw there, and that the entry was
-- made before it. What came before it among the events after the last valid write has earlier positions.
pub record Covering (heading : Heading) (x : Entry) (t : Issued Noted) (cover : Cover) (older : List Noted) : Type 0 where
  pub view : PlaceView
  pub by_scope : CoversBy heading older t.tlbi.event view cover
  pub agrees : Agrees (head_of x) view
  pub since : x.since ≤ length (events_of older)
  pub earlier : (a c : List Noted) (d : Noted) → t.before ≡ a ++ d ∷ c → d.position ≤ length (events_of older)

module _ (heading : Heading) (trust : Trust) (k : Known heading trust) (h : List Event) (kept : keeps heading trust h ≡ true)
    (x : Entry) (f : Fine heading trust h x) (up : is_given_up heading h x ≡ false) (g : Rooted heading trust h x) where
  abbrev notes : List Noted
  notes = noted heading trust h

  module _ (top : Bool) (part : Part) (i : Contains (parts_of x) part) (at_last : top ≡ true → x.last ≡ part) where
    abbrev n : Node
    n = (g.placed part i).node

    abbrev at : IsAt (g.placed part i).node x.root part
    at = (g.placed part i).is_at

    abbrev value : ℕ
    value = (g.holding part i).value

    means_it : desc_of (g.placed part i).node.kind (g.placed part i).node.level (g.holding part i).value ≡ desc_in part
    means_it = means heading trust k h kept x part n at (g.holding part i) (f.shape.valid part i)

    kind_of_last : (g.placed part i).node.kind ≡ x.last.kind
    kind_of_last = at.kind ∙ chain_kind x.last x.above f.shape.chained part i

    same_region : region_in part ≡ region_of (g.placed part i).node part.place
    same_region = rw (at.region, at.level)

    -- a place that holds no table is that of the last part
    is_last : is_some (next_in (desc_in part)) ≡ false → x.last ≡ part
    is_last e =
        elim (last_or_above x.last x.above f.shape.chained part i) [
          | inl s ↦ s
          | inr r ↦ absurd (true≢false (ap is_some (sym r.2.inside) ∙ e))
        ]

    leaf_ends : is_some (next_in (desc_in part)) ≡ false → EndsBy false true (head_of x) (view_of heading trust top [] n part.place value)
    leaf_ends e =
        let s = is_last e in (
          ap (λ (p : Part). is_leaf (desc_in p)) s ∙ leaf_if_no_table part.kind part.level part.value (f.shape.valid part i) e,
          ap region_in s ∙ same_region,
          ap (λ (p : Part). p.level) s ∙ sym at.level,
        )

    -- a childless table is the last part: the place of one below it would hold something
    table_ends : is_some (next_in (desc_in part)) ≡ true → is_childless heading trust notes n value ≡ true
        → EndsBy true true (head_of x) (view_of heading trust top [] n part.place value)
    table_ends e none = by (last_or_above x.last x.above f.shape.chained part i)
      where
        c : Childless heading trust (noted heading trust h) (g.placed part i).node (g.holding part i).value
        c = k.childless.sound notes n value none

        by : (x.last ≡ part) ⊎ ((lower : Part) × Contains (parts_of x) lower × IsBelow lower part)
            → EndsBy true true (head_of x) (view_of heading trust top [] (g.placed part i).node part.place (g.holding part i).value)
        by (inl s) = (
          ap (λ (p : Part). is_leaf (desc_in p)) s ∙ no_leaf_if_table (desc_in part) e,
          ap region_in s ∙ same_region,
        )
        by (inr r) =
            let q : Holding heading trust h r.0 = g.holding r.0 r.1 in
            let nexts : Some c.next ≡ Some (page_of r.0.place) = sym c.table ∙ (ap next_in means_it ∙ r.2.inside) in
            let page : c.next ≡ page_of r.0.place = cc in
            let holds : held heading trust n.kind (suc n.level) r.0.place notes ≡ Some q.value
            = rw (at.kind, at.level, ← r.2.kind, ← r.2.level) q.holds in
            let apart : None ≡ Some q.value = sym (c.holds_none r.0.place (sym page)) ∙ holds in
            cc

    -- the entry ends in the table at the place
    top_ends : is_some (next_in (desc_in part)) ≡ true → x.last ≡ part
        → EndsBy true true (head_of x) (view_of heading trust top [] n part.place value)
    top_ends e s = (
      ap (λ (p : Part). is_leaf (desc_in p)) s ∙ no_leaf_if_table (desc_in part) e,
      ap region_in s ∙ same_region,
    )

    ends : (older : List Noted)
        → (is_childless heading trust older n value ≡ true → is_childless heading trust notes n value ≡ true)
        → EndsBy (is_some (next_of n.kind n.level value)) (top || is_childless heading trust older n value) (head_of x)
        (view_of heading trust top older n part.place value)
    ends older still = by (is_some (next_of n.kind n.level value)) top (is_childless heading trust older n value) refl refl refl
      where
        table : is_some (next_in (desc_of (g.placed part i).node.kind (g.placed part i).node.level (g.holding part i).value)) ≡ is_some (next_in (desc_in part))
        table = ap (λ (d : Desc). is_some (next_in d)) means_it

        by : (t o c : Bool) → is_some (next_of (g.placed part i).node.kind (g.placed part i).node.level (g.holding part i).value) ≡ t
            → top ≡ o → is_childless heading trust older (g.placed part i).node (g.holding part i).value ≡ c
            → EndsBy t (o || c) (head_of x) (view_of heading trust top older (g.placed part i).node part.place (g.holding part i).value)
        by false o c e is g = leaf_ends (sym table ∙ e)
        by true true c e is g = top_ends (sym table ∙ e) (at_last is)
        by true false true e is g = table_ends (sym table ∙ e) (still g)
        by true false false e is g =
            subst (λ (r : Extent). holds r (region_in x.last) ≡ true) same_region
            (region_holds part x.last (inside_of x.last x.above f.shape.chained part i))

    agrees : (older : List Noted) (newer : List Event) → h ≡ newer ++ events_of older → x.since ≤ length (events_of older)
        → (is_childless heading trust older n value ≡ true → is_childless heading trust notes n value ≡ true)
        → Agrees (head_of x) (view_of heading trust top older n part.place value)
    agrees older newer split since still = record {
      kind = ap (read_through x.kind) kind_of_last ∙ f.shape.fits;
      tag = rw (kind_of_last, at.root) (has_tag heading trust k h kept x (events_of older)
          (tag_then heading trust k h kept x f.tagged up newer (events_of older) split since));
      ending = ends older still;
      region = nonempty x.last.first (input_pages x.last.level) (some_pages x.last.level);
      lower = λ (e : n.kind ≡ Ttbr0). f.own_asid (sym kind_of_last ∙ e);
      upper = λ (e : n.kind ≡ Ttbr1) (no_table : is_some (next_of n.kind n.level value) ≡ false) (g : is_global (desc_of n.kind n.level value) ≡ true).
          ap (λ (p : Part). is_global (desc_in p)) (is_last (ap (λ (d : Desc). is_some (next_in d)) (sym means_it) ∙ no_table))
          ∙ (ap is_global (sym means_it) ∙ g);
    }
      where
        nonempty : (a m : ℕ) → 1 ≤ m → a ≤ a + m - 1
        nonempty a m e = omega (arith, e)

    -- ---- the moment of a TLBI

    module _ (w : ValidWrite) (last : last_valid part.kind part.level part.place notes ≡ Some w) (p q : ℕ) (near : IsNear heading x p)
        (t : Issued Noted) (o : Open event_of q w.since t) (b : Noted) (published : Publication heading part.place p t.before b)
        (made : x.since < b.position) where
      was_seen : seen heading part.place p t.before ≡ true
      was_seen = k.seen.complete part.place p t.before (b, published)

      holds_it : HeldBy heading trust (noted heading trust h) (g.placed part i).node part.place (g.holding part i).value w
      holds_it = record {
        in_tree = (g.placed part i).in_tree;
        inside = at.inside;
        holds = held_there heading trust k h kept x part n at value (g.holding part i).holds;
        is_last = rw (at.kind, at.level) last;
      }

      pub view : View heading trust (noted heading trust h) (g.placed part i).node part.place (g.holding part i).value o.newer t.before t.tlbi
      view = k.frozen_view h kept n part.place value p w o.newer t.before t.tlbi holds_it o.split was_seen

      is_split : h ≡ events_of o.newer ++ t.tlbi.event ∷ events_of view.older
      is_split = sym (k.notes_keep_the_events h)
          ∙ (ap events_of view.split ∙ events_append o.newer (t.tlbi ∷ view.older))

      pub is_noted : view.older ≡ noted heading trust (events_of view.older)
      is_noted = (k.notes.each h o.newer view.older t.tlbi view.split).0

      kept_then : keeps heading trust (events_of view.older) ≡ true
      kept_then =
          kept_before heading trust (events_of o.newer ++ t.tlbi.event ∷ []) (events_of view.older)
          (subst (λ (es : List Event). keeps heading trust es ≡ true)
          (is_split ∙ sym (append_assoc (events_of o.newer) (t.tlbi.event ∷ []) (events_of view.older))) kept)

      pub node_then : node_of heading trust view.older (page_of part.place) ≡ Some (g.placed part i).node
      node_then =
          ap (node_of heading trust view.older) at.inside
          ∙ subst (λ (xs : List Noted). node_of heading trust xs n.page ≡ Some n) (sym is_noted)
          (k.one_node.the_first (events_of view.older) kept_then n
          (subst (λ (xs : List Noted). Contains (tree heading trust xs) n) is_noted view.was.in_tree))

      pub view_then : view_at heading trust view.older part.place ≡ Some (view_of heading trust false view.older (g.placed part i).node part.place (g.holding part i).value)
      view_then = rw (node_then, view.was.holds)

      -- the events before the TLBI
      write : IsLastValid (g.placed part i).node.kind (g.placed part i).node.level part.place view.older (record { value = (g.holding part i).value; since = t.before })
      write = k.last_valid.sound n.kind n.level part.place view.older (record { value = value; since = t.before })
          view.was.is_last

      earlier : (a c : List Noted) (d : Noted) → t.before ≡ a ++ d ∷ c → d.position ≤ length (events_of view.older)
      earlier a c d split =
          let rest : List Noted = c ++ write.write ∷ write.older in
          let older : view.older ≡ a ++ d ∷ rest
          = write.split ∙ (ap (λ (xs : List Noted). xs ++ write.write ∷ write.older) split ∙ append_assoc a (d ∷ c) (write.write ∷ write.older)) in
          let whole : notes ≡ (o.newer ++ t.tlbi ∷ a) ++ d ∷ rest
          = view.split ∙ (ap (λ (xs : List Noted). o.newer ++ t.tlbi ∷ xs) older ∙ sym (append_assoc o.newer (t.tlbi ∷ a) (d ∷ rest))) in
          let position : d.position ≡ suc (length rest) = (k.notes.each h (o.newer ++ t.tlbi ∷ a) rest d whole).2 in
          let long : length (a ++ d ∷ rest) ≡ length a + suc (length rest) = length-append a (d ∷ rest) in
          let count : length (events_of view.older) ≡ length a + suc (length rest) = events_length view.older ∙ (ap length older ∙ long) in
          omega (arith, position, count)

      since_then : x.since ≤ length (events_of view.older)
      since_then =
          let le = earlier published.newer (published.between ++ published.write ∷ published.older) b published.split in omega (arith, le, made)

      pub agrees_then : Agrees (head_of x) (view_of heading trust top view.older (g.placed part i).node part.place (g.holding part i).value)
      agrees_then =
          agrees view.older (events_of o.newer ++ t.tlbi.event ∷ [])
          (is_split ∙ sym (append_assoc (events_of o.newer) (t.tlbi.event ∷ []) (events_of view.older))) since_then
          (k.limbo_is_empty h kept n part.place value p w o.newer t.before view.older t.tlbi holds_it o.split view.split was_seen)

      module _ (cover : Cover) (some : cover ≡ NoCover → ⊥) (covered : grade top t.tlbi part.place ≡ cover) where
        covers_as : (ends : Bool) → grade ends t.tlbi part.place ≡ cover
            → CoversBy heading view.older t.tlbi.event (view_of heading trust ends view.older (g.placed part i).node part.place (g.holding part i).value) cover
        covers_as false covered =
            covers_by heading trust view.older t.tlbi.event part.place (view_of heading trust false view.older n part.place value) cover
            view_then some
            (ap (λ (c : ℕ → Cover). c part.place) (sym (k.notes.each h o.newer view.older t.tlbi view.split).1) ∙ covered)
        covers_as true covered =
            tops_by heading trust view.older t.tlbi.event part.place (view_of heading trust false view.older n part.place value) cover
            view_then some
            (ap (λ (c : ℕ → Cover). c part.place) (sym (k.notes.tops h o.newer view.older t.tlbi view.split)) ∙ covered)

        covers : CoversBy heading view.older t.tlbi.event (view_of heading trust top view.older (g.placed part i).node part.place (g.holding part i).value) cover
        covers = covers_as top covered

        was_covering : Covering heading x t cover view.older
        was_covering = record {
          view = view_of heading trust top view.older n part.place value;
          by_scope = covers;
          agrees = agrees_then;
          since = since_then;
          earlier = earlier;
        }

        pub covering : (older : List Noted) → noted heading trust h ≡ o.newer ++ t.tlbi ∷ older → Covering heading x t cover older
        covering older whole =
            let split : o.newer ++ t.tlbi ∷ view.older ≡ o.newer ++ t.tlbi ∷ older = sym view.split ∙ whole in
            let tails : t.tlbi ∷ view.older ≡ t.tlbi ∷ older
            = append_cancel_left o.newer (t.tlbi ∷ view.older) (t.tlbi ∷ older) split in
            let same : view.older ≡ older = cc in
            subst (λ (ns : List Noted). Covering heading x t cover ns) same was_covering
