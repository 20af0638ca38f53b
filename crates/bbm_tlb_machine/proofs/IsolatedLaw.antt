-- No entry maps a table page, now or since the last init of the page; and what walks read are table pages.
use Rattle.bbm_rules.proofs.Common.{◌≡◌, ℕ, ◌<◌, true, false, Bool, ◌&&◌, List, [], ◌∷◌, ◌++◌, Some, Contains, refl, sym}
use Rattle.bbm_rules.proofs.Common.{◌∙◌, ap, subst, true≢false, append_assoc, desc_of, Desc, holds_tag, keeps, Trust}
use Rattle.bbm_rules.proofs.Common.{noted, Heading, Event, in_tree, next_in, next_of, root_pages, same_kind, contains_head}
use Rattle.bbm_rules.proofs.Common.{Noted, Reading, holds_at, pe_finds, node_below, readings}
use Rattle.bbm_regimes.specs.declared.regime.Kind.TheVariants.{S2}
use Rattle.bbm_lemmas.proofs.Elements.{contains_after}
use Rattle.bbm_rules.specs.Mapped.{is_clean, is_mapped, maps, maps_as}
use Rattle.bbm_rules.specs.Tree.{tree}
use Rattle.bbm_rules.proofs.MappedLaw.{clean_unmapped}
use Rattle.bbm_histories.specs.TagSteps.{kind_of_tag}
use Rattle.bbm_histories.specs.ValueChanges.{NoInit}
use Rattle.bbm_histories.proofs.Induction.{kept_before}
use Rattle.bbm_tlb_machine.specs.declared.step.Step.{Step}
use Rattle.bbm_tlb_machine.specs.Entry.{Entry, is_given_up, parts_of, tag_of_entry}
use Rattle.bbm_tlb_machine.specs.Invariant.{Fine, Holding, Placed, Rooted}
use Rattle.bbm_tlb_machine.specs.Isolated.{Isolated, WalksTables, entry_maps}
use Rattle.bbm_tlb_machine.specs.KnownOfMachine.{Known}
use Rattle.bbm_tlb_machine.specs.MachineRun.{IsRun, Living, State}
use Rattle.bbm_tlb_machine.specs.Safe.{IsLog, ReadsThrough}
use Rattle.bbm_tlb_machine.proofs.Descs.{means_same}
use Rattle.bbm_tlb_machine.proofs.Facts.{held_there, held_valid, means}
use Rattle.bbm_tlb_machine.proofs.Runs.{one_root, read_at, run_fine}

-- among no events there is no init
no_events : (page : ℕ) → NoInit page []
no_events page q [] before e = cc
no_events page q (y ∷ after) before e = cc

module _ (heading : Heading) (trust : Trust) (k : Known heading trust) where
  -- what an entry maps is mapped
  fine_maps : (h : List Event) (x : Entry) → keeps heading trust h ≡ true → Fine heading trust h x → is_given_up heading h x ≡ false
      → (page : ℕ) → entry_maps x page ≡ true → is_mapped heading trust (noted heading trust h) page ≡ true
  fine_maps h x kept f up page maps_it =
      let i : Contains (parts_of x) x.last = contains_head x.above x.last in
      let r : Rooted heading trust h x = f.rooted up in
      let p : Placed heading trust h x.root x.last = r.placed x.last i in
      let q : Holding heading trust h x.last = r.holding x.last i in
      let same : desc_of x.last.kind x.last.level q.value ≡ desc_of x.last.kind x.last.level x.last.value
      = means_same k.same_cores x.last.kind x.last.level q.value x.last.value
      (held_valid heading trust k h kept x x.last q) (f.shape.valid x.last i) q.same_core in
      let over : maps x.last.kind x.last.level q.value page ≡ true
      = ap (λ (d : Desc). same_kind x.last.kind S2 && maps_as x.last.level d page) same ∙ maps_it in
      k.mapped.complete (noted heading trust h) page (record {
        node = p.node;
        is_node = k.tree.sound (noted heading trust h) p.node p.in_tree;
        place = x.last.place;
        inside = p.is_at.inside;
        value = q.value;
        holds = held_there heading trust k h kept x x.last p.node p.is_at q.value q.holds;
        maps_page = rw (p.is_at.kind, p.is_at.level) over;
      })

  -- each page of a root that is read under a tag is in the trees
  root_is_table : (h : List Event) → keeps heading trust h ≡ true → (pe : ℕ) → pe < heading.pes → (r : Reading)
      → Contains (readings heading h pe) r → (page : ℕ) → Contains (root_pages heading.world (kind_of_tag r.tag) r.root) page
      → in_tree heading trust (noted heading trust h) page ≡ true
  root_is_table h kept pe is_pe r i page c =
      let notes : List Noted = noted heading trust h in
      let holds : holds_tag heading trust r.root r.tag h ≡ true
      = pe_finds heading.pes (λ (p : ℕ). holds_at heading trust p r.root r.tag h) pe is_pe
      (read_at heading trust k h pe r.tag r i refl) in
      let d = k.root.of_kind h (kind_of_tag r.tag) r.root (k.tags.root h k.proper kept r.root r.tag holds) in
      let start = k.root_pages.each d.0 page (rw (d.2, d.3) c) in
      let there : Contains (tree heading trust notes) start.0 = k.tree.complete notes start.0 (record {
        root = d.0;
        declared = rw (k.notes_keep_the_events h) (k.root.complete h d.0 d.1);
        start = start.0;
        is_start = start.1;
        places = [];
        down = refl;
        level = subst (λ (l : ℕ). l < 4) (sym ((k.root_pages.fields d.0 start.0 start.1).1)) (k.proper.start d.0.kind);
      }) in
      ap (in_tree heading trust notes) (sym start.2) ∙ k.tree.has notes start.0 there

  -- so is the next page of an entry
  next_is_table : (h : List Event) (x : Entry) → keeps heading trust h ≡ true → Fine heading trust h x → is_given_up heading h x ≡ false
      → (page : ℕ) → next_of x.last.kind x.last.level x.last.value ≡ Some page
      → in_tree heading trust (noted heading trust h) page ≡ true
  next_is_table h x kept f up page table =
      let notes : List Noted = noted heading trust h in
      let i : Contains (parts_of x) x.last = contains_head x.above x.last in
      let r : Rooted heading trust h x = f.rooted up in
      let p : Placed heading trust h x.root x.last = r.placed x.last i in
      let q : Holding heading trust h x.last = r.holding x.last i in
      let next : next_of p.node.kind p.node.level q.value ≡ Some page
      = ap next_in (means heading trust k h kept x x.last p.node p.is_at q (f.shape.valid x.last i)) ∙ table in
      k.tree.has notes (node_below p.node x.last.place page)
      (k.tree.below notes p.node x.last.place q.value page p.in_tree p.is_at.inside
      (held_there heading trust k h kept x x.last p.node p.is_at q.value q.holds) next)

  module _ (log : List Event) (is_log : IsLog heading log) (kept : keeps heading trust log ≡ true) where
    kept_at : (later h : List Event) → log ≡ later ++ h → keeps heading trust h ≡ true
    kept_at later h split = kept_before heading trust later h (subst (λ (es : List Event). keeps heading trust es ≡ true) split kept)

    fine_at : (steps : List Step) (s : State) (later : List Event) → IsRun heading steps s → log ≡ later ++ s.log
        → (l : Living) → Contains s.living l → Fine heading trust s.log l.entry
    fine_at steps s later run split l i =
        run_fine heading trust k steps s (record {
          header = is_log.header;
          events = λ y m. is_log.events y (subst (λ (es : List Event). Contains es y) (sym split) (contains_after later s.log y m));
        }) (kept_at later s.log split) run l i

    pub walks_tables : WalksTables heading trust log
    walks_tables = record {
      roots = λ steps s later run split pe is_pe r i page c.
          root_is_table s.log (kept_at later s.log split) pe is_pe r i page c;
      tables = λ steps s later run split l i up page table.
          next_is_table s.log l.entry (kept_at later s.log split) (fine_at steps s later run split l i) up page table;
    }

    module _ (on : heading.words.isolated ≡ true) where
      before : (older : List Step) (s was : State) (later between : List Event) → IsRun heading older was
          → log ≡ later ++ s.log → s.log ≡ between ++ was.log → (page : ℕ) → NoInit page between
          → in_tree heading trust (noted heading trust s.log) page ≡ true
          → (l : Living) → Contains was.living l → is_given_up heading was.log l.entry ≡ false → entry_maps l.entry page ≡ false
      before older s was later between run split earlier page none table l i up = by (entry_maps l.entry page) refl
        where
          whole : log ≡ (later ++ between) ++ was.log
          whole = split ∙ (ap (λ (es : List Event). later ++ es) earlier ∙ sym (append_assoc later between was.log))

          clean : is_clean heading trust (noted heading trust was.log) page ≡ true
          clean = k.tables_clean.since between was.log page none
              (subst (λ (es : List Event). is_clean heading trust (noted heading trust es) page ≡ true) earlier
              (k.tables_clean.clean s.log on (kept_at later s.log split) page table))

          by : (c : Bool) → entry_maps l.entry page ≡ c → c ≡ false
          by false e = refl
          by true e =
              absurd (true≢false (sym (fine_maps was.log l.entry (kept_at (later ++ between) was.log whole)
              (fine_at older was (later ++ between) run whole l i) up page e)
              ∙ clean_unmapped heading trust (noted heading trust was.log) page clean))

      given_up : (steps : List Step) (s : State) (later : List Event) → IsRun heading steps s → log ≡ later ++ s.log
          → (l : Living) → Contains s.living l → is_given_up heading s.log l.entry ≡ true
          → (r : Reading) → Contains (readings heading s.log l.entry.pe) r → r.tag ≡ tag_of_entry l.entry → ⊥
      given_up steps s later run split l i gone r j same =
          let f : Fine heading trust s.log l.entry = fine_at steps s later run split l i in
          let t : ReadsThrough heading s.log l.entry r.root
          = one_root heading trust k s.log (kept_at later s.log split) l.entry f.tagged f.shape.made l.entry.pe f.shape.is_pe r j same in
          true≢false (sym gone ∙ t.stays)

      pub isolated_log : Isolated heading trust log
      isolated_log = record {
        now = λ steps s later run split page table l i up.
            before steps s s later [] run split refl page (no_events page) table l i up;
        before = λ newer older s was later between run run_was split earlier page none table l i up.
            before older s was later between run_was split earlier page none table l i up;
        given_up = given_up;
      }
