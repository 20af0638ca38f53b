-- No place of a tree of the lower range holds a leaf for every ASID.
use Rattle.bbm_histories.proofs.Common.{Ttbr0, Heading, Event, Root, Write, Leads, Below, Attaches, InTree}
use Rattle.bbm_rules.proofs.Common.{◌≡◌, ℕ, suc, ◌+◌, ◌<◌, true, false, List, [], ◌∷◌, length, Some, refl, sym, ◌∙◌, ap}
use Rattle.bbm_rules.proofs.Common.{subst, inl, inr, arith, suc-le-suc, zero-le, Kind, desc_of, attached_by}
use Rattle.bbm_rules.proofs.Common.{attached_from, end_at, keeps, Trust, is_global, note, noted, Noted, events_of}
use Rattle.bbm_rules.proofs.Common.{is_fresh, page_of, root_pages, start_of, Node, node_below, IsNode, value_of}
use Rattle.bbm_rules.specs.declared.rule.Rule.TheVariants.{GlobalUser}
use Rattle.bbm_histories.specs.TreeChanges.{NoGlobalLeaf}
use Rattle.bbm_histories.proofs.FreshLemmas.{content, held_is_present}
use Rattle.bbm_histories.proofs.HeldSteps.{held_back}
use Rattle.bbm_histories.proofs.Induction.{Unbroken, throughout}
use Rattle.bbm_histories.proofs.Invariants.{Invariants, invariants, none_at_start}
use Rattle.bbm_histories.proofs.TreeSteps.{added, attached_fresh, node_is, not_fresh_there, start_leads, through_kind}
use Rattle.bbm_histories.proofs.TreeSteps.{through_leads, through_level, write_attaches}

module _ (heading : Heading) (trust : Trust) (b : Below heading trust) (h : List Noted) (i : Invariants heading trust h) where
  -- a value of an attached page of the lower range
  attached_value : (e : Event) (n : Node) (place : ℕ) → Unbroken heading trust h e → n.level < 4 → Attaches heading trust h e n
      → n.kind ≡ Ttbr0 → page_of place ≡ n.page → is_global (desc_of n.kind n.level (value_of (events_of h) place)) ≡ false
  attached_value (Write pe at value) n place kept below l lower inside =
      let same : n.kind ≡ l.parent.kind = through_kind heading trust h l.places (node_below l.parent at l.next) n l.through in
      let kind : l.parent.kind ≡ Ttbr0 = sym same ∙ lower in
      let level : n.level ≡ suc l.parent.level + length l.places
      = through_level heading trust h l.places (node_below l.parent at l.next) n l.through in
      subst (λ (k : Kind). is_global (desc_of k n.level (value_of (events_of h) place)) ≡ false) (sym lower)
      (b.global_user.attached h (Write pe at value) (suc l.parent.level) (l.next ∷ [])
      (subst (λ (k : Kind). attached_by heading trust h (Write pe at value) ≡ Some (attached_from heading trust h k (suc l.parent.level) (l.next ∷ []))) kind
      (write_attaches heading trust b h pe at value kept i.odd i.one l.parent l.next l.is_parent l.empty l.table)) (kept GlobalUser refl)
      l.next place l.places (end_at n.level n.page) (0, suc-le-suc zero-le, refl) (omega arith)
      (subst (λ (k : Kind). Leads heading trust h k (suc l.parent.level) l.next l.places (end_at n.level n.page)) kind
      (through_leads heading trust h l.places (node_below l.parent at l.next) n l.through)) inside)
  attached_value (Root pe kind lock page) n place kept below l lower inside =
      let begin = b.root_pages.fields (record { page = page; kind = kind; lock = lock }) l.start l.is_start in
      let same : n.kind ≡ kind = through_kind heading trust h l.places l.start n l.through ∙ begin.0 in
      let is_lower : kind ≡ Ttbr0 = sym same ∙ lower in
      let first : l.start.level ≡ start_of heading.world kind = begin.1 in
      let level : n.level ≡ l.start.level + length l.places = through_level heading trust h l.places l.start n l.through in
      subst (λ (k : Kind). is_global (desc_of k n.level (value_of (events_of h) place)) ≡ false) (sym lower)
      (b.global_user.attached h (Root pe kind lock page) (start_of heading.world kind)
      (root_pages heading.world kind page)
      (ap (λ (k : Kind). Some (attached_from heading trust h k (start_of heading.world kind) (root_pages heading.world kind page))) is_lower)
      (kept GlobalUser refl) l.start.page place l.places (end_at n.level n.page) begin.4 (omega arith)
      (subst (λ (k : Kind). Leads heading trust h k (start_of heading.world kind) l.start.page l.places (end_at n.level n.page)) is_lower
      (start_leads heading trust b h pe kind lock page kept i.odd i.one l.start l.places (end_at n.level n.page) l.is_start
      (through_leads heading trust h l.places l.start n l.through))) inside)
  attached_value e n place kept below l lower inside = absurd l

  lower_step : (e : Event) → Unbroken heading trust h e → NoGlobalLeaf heading trust h
      → NoGlobalLeaf heading trust (note heading trust h e ∷ h)
  lower_step e kept before n place value t lower inside holds =
      elim (added heading trust b h i.odd i.one e n kept t) [
        | inl old ↦ elim (held_back heading trust b n.kind n.level place (note heading trust h e) h value holds) [
          | inl held ↦ before n place value old lower inside held
          | inr w ↦ b.global_user.written h w.0 place value n
              (subst (λ (x : Event). Unbroken heading trust h x) w.1 kept GlobalUser refl)
              (node_is heading trust b h i.one n (page_of place) old (sym inside)) lower
        ]
        | inr a ↦ elim (held_back heading trust b n.kind n.level place (note heading trust h e) h value holds) [
          | inl held ↦
              let present : value_of (events_of h) place ≡ value
              = held_is_present heading trust b n.kind n.level place h value (content heading trust b h i.odd) (fresh a) held in
              subst (λ (x : ℕ). is_global (desc_of n.kind n.level x) ≡ false) present
              (attached_value e n place kept (level t) a lower inside)
          | inr w ↦ absurd (unwritten a w.0 w.1)
        ]
      ]
    where
      fresh : Attaches heading trust h e n → is_fresh heading trust h (page_of place) ≡ true
      fresh a = subst (λ (x : ℕ). is_fresh heading trust h x ≡ true) (sym inside) (attached_fresh heading trust b h i.odd i.one e n a)

      level : InTree heading trust (note heading trust h e ∷ h) n → n.level < 4
      level t = let k : IsNode heading trust (note heading trust h e ∷ h) n = b.tree.sound (note heading trust h e ∷ h)
          n t in k.level

      unwritten : Attaches heading trust h e n → (q : ℕ) → e ≡ Write q place value → ⊥
      unwritten a q is =
          let l = subst (λ (x : Event). Attaches heading trust h x n) is a in
          let k = b.tree.taken h (page_of place) l.parent l.is_parent in
          not_fresh_there heading trust b h l.parent (page_of place) k.0 k.1 (fresh a)

module _ (heading : Heading) (trust : Trust) (b : Below heading trust) where
  pub lower_leaves : (h : List Event) → keeps heading trust h ≡ true → NoGlobalLeaf heading trust (noted heading trust h)
  lower_leaves h kept =
      throughout heading trust b (NoGlobalLeaf heading trust)
      (λ n place value t. absurd (none_at_start heading trust b n t))
      (λ older e before_kept rule before.
      lower_step heading trust b (noted heading trust older) (invariants heading trust b older before_kept) e rule before) h kept
