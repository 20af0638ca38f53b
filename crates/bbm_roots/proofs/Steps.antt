-- What one more event does to the tags that are held and to the TLBIs that wait.
use Rattle.bbm_roots.proofs.Common.{same_swapped, ◌≡◌, ℕ, Bool, true, false, ◌&&◌, ◌||◌, ◌==◌, not, nat_eq, List, arith}
use Rattle.bbm_roots.proofs.Common.{TlbiOp, Scope, Heading, Event, ADsb, Msr, Tlbi, Patterns, register_values, lock_of, kept_in, left_at}
use Rattle.bbm_roots.proofs.Common.{root_at, roots_of, holds_at, loses, tag_waits, tag_waits_after, loads_after}
use Rattle.bbm_roots.proofs.Common.{None, Pendings, Registers, Roots, Stands, first_reg, get, index_map_len, length}
use Rattle.bbm_roots.proofs.Common.{loads_in, pending_in, second_reg, If, Is, proved, [], ◌∷◌, refl, sym, ◌∙◌, ap}
use Rattle.bbm_roots.proofs.Common.{Option, false≢true, answers, Dsb, Tag, World, Reg, takes_whole_tag, same_flag}
use Rattle.bbm_roots.proofs.Common.{has_reading, has_tag, same_tag, Reading, first_true, list_any, keeps_in, not-true}
use Rattle.bbm_roots.proofs.Common.{subst, HashMap, BuildHasherDefault, FoldHasher, Held, standings_after, standings_of}
use Rattle.bbm_lemmas.proofs.Bools.{not_from}
use Rattle.bbm_rules.specs.Tags as tags
use Rattle.bbm_rules.specs.Roots.{gives_up}
use Rattle.bbm_rules.specs.Tags.{ends, reads, reads_for_some}
use Rattle.bbm_histories.proofs.Induction.{kept_next}
use Rattle.bbm_histories.proofs.StepLemmas.{tag_lost, tag_step}
use Rattle.bbm_locks.specs.Holders.{holder_at}
use Rattle.bbm_rules.specs.Broken.{broken}
use Rattle.bbm_rules.specs.Locks.{holder_of}
use Rattle.bbm_roots.proofs.Tests.{any-weaker}
use Rattle.bbm_roots.proofs.Issued.{issue-is, Issues}
use Rattle.bbm_roots.proofs.Readable.{reads-stay, some-stay}

-- the tags that are held or left
abbrev Holds : Type 0
Holds = HashMap ℕ Held (BuildHasherDefault FoldHasher)

nothing-read : (inorder : Bool) (world : World) (p : ℕ) → tags.readings_in inorder world [] p ≡ []
nothing-read inorder world p = grind (arith)

module _ (heading : Heading) where
  -- whether a root of the page holds the tag, or left it
  abbrev pub keeps_at : Bool → ℕ → ℕ → Tag → List Event → Bool
  keeps_at false p page tag h = holds_at heading Patterns p page tag h
  keeps_at true p page tag h = left_at heading Patterns p page tag h

  -- where a tag is readable for a root, the root holds it
  pub reads-holds : (h : List Event) (g : Tag) (r p : ℕ) → reads heading h p g r ≡ true →
      holds_at heading Patterns p r g h ≡ true
  reads-holds [] g r p e =
      sym (ap (list_any (λ (x : tags.Reading). same_tag x.tag g && x.root == r)) (nothing-read heading.words.inorder heading.world p)) ∙ e
  reads-holds (x ∷ h) g r p e =
      ap (λ (b : Bool). b || (holds_at heading Patterns p r g h && not (ends heading Patterns p r g x h))) e

  pub reads-some : (h : List Event) (g : Tag) (r p : ℕ) → reads heading h p g r ≡ true → reads_for_some heading h p g ≡ true
  reads-some h g r p e =
      any-weaker (λ x. same_tag x.tag g && x.root == r) (λ x. same_tag x.tag g)
      (λ (x : tags.Reading) k. first_true (same_tag x.tag g) (nat_eq x.root r) k) (tags.readings heading h p) e

  -- where a TLBI waits to take a tag away, the tag is readable for no root
  pub waits-unread : (h : List Event) (q : ℕ) (b : Bool) (g : Tag) (p : ℕ) → tag_waits heading p g q b h ≡ true →
      reads_for_some heading h p g ≡ false
  waits-unread [] q b g p e = absurd (false≢true e)
  waits-unread (x ∷ h) q b g p e = let step = tag_step heading p g q b x h in grind (arith)

  module _ (h : List Event) (e : Event) where
    -- an event that makes no tag readable, gives up no root and takes no tag away
    pub holds-stay : (g : Tag) (r p : ℕ) → (reads heading (e ∷ h) p g r ≡ true → reads heading h p g r ≡ true) →
        gives_up r e ≡ false → loses heading Patterns p g e h ≡ false →
        holds_at heading Patterns p r g (e ∷ h) ≡ holds_at heading Patterns p r g h
    holds-stay g r p less ungiven none = let held = reads-holds h g r p in grind (arith)

    pub left-stay : (g : Tag) (r p : ℕ) → gives_up r e ≡ false → loses heading Patterns p g e h ≡ false →
        left_at heading Patterns p r g (e ∷ h) ≡ left_at heading Patterns p r g h
    left-stay g r p ungiven none = grind (arith)

    -- an event that issues nothing, answers nothing, and makes no tag readable
    pub waits-stay : (q : ℕ) (b : Bool) (g : Tag) (p : ℕ) →
        (reads_for_some heading (e ∷ h) p g ≡ true → reads_for_some heading h p g ≡ true) →
        tag_waits_after heading p g q b e h ≡ tag_waits heading p g q b h →
        tag_waits heading p g q b (e ∷ h) ≡ tag_waits heading p g q b h
    waits-stay q b g p less same =
        let step = tag_step heading p g q b e h in let unread = waits-unread h q b g p in grind (arith)

  -- ---- a DSB

  module _ (h : List Event) (pe : ℕ) (dsb : Dsb) where
    abbrev taken : Tag → ℕ → Bool
    taken g p =
        (answers dsb true && tag_waits heading p g pe true h) || (answers dsb false && tag_waits heading p g pe false h)

    lost : (g : Tag) (p : ℕ) → loses heading Patterns p g (ADsb pe dsb) h ≡ (taken g p && not (reads_for_some heading h p g))
    lost g p = tag_lost heading p g pe dsb h
        ∙ ap (λ (s : Bool). taken g p && not s) (some-stay heading h (ADsb pe dsb) p refl refl refl g)

    -- it takes away what it answers, from those that hold it and from those that left it
    keeps-complete : (l : Bool) (g : Tag) (r p : ℕ) →
        keeps_at l p r g (ADsb pe dsb ∷ h) ≡ (keeps_at l p r g h && not (taken g p))
    keeps-complete false g r p =
        let away = lost g p in
        let same = reads-stay heading h (ADsb pe dsb) p refl refl refl g r in
        let all = waits-unread h pe true g p in
        let local = waits-unread h pe false g p in
        let some = reads-some h g r p in
        let held = reads-holds h g r p in
        grind (arith)
    keeps-complete true g r p =
        let away = lost g p in
        let all = waits-unread h pe true g p in
        let local = waits-unread h pe false g p in
        grind (arith)

    pub waits-complete : (q : ℕ) (b : Bool) (g : Tag) (p : ℕ) →
        tag_waits heading p g q b (ADsb pe dsb ∷ h) ≡ (tag_waits heading p g q b h && not (nat_eq q pe && answers dsb b))
    waits-complete q b g p =
        let step = tag_step heading p g q b (ADsb pe dsb) h in
        let same = some-stay heading h (ADsb pe dsb) p refl refl refl g in
        let swapped = same_swapped pe q in
        let unread = waits-unread h q b g p in
        grind (arith)

    -- what a list of entries takes away is what the DSB takes away
    pub keeps-completed : (l : Bool) (g : Tag) (r p : ℕ) (k t f : Bool) → k ≡ keeps_at l p r g h →
        (k ≡ true → t ≡ tag_waits heading p g pe true h) → (k ≡ true → f ≡ tag_waits heading p g pe false h) →
        (k && not ((answers dsb true && t) || (answers dsb false && f))) ≡ keeps_at l p r g (ADsb pe dsb ∷ h)
    keeps-completed l g r p k t f same all local = let e = keeps-complete l g r p in grind (arith)

  -- ---- a TLBI: it takes nothing away yet, and waits

  module _ (h : List Event) (pe : ℕ) (op : TlbiOp) (xt : ℕ) (scope : Scope) (vmid : Option ℕ)
      (named : Issues heading h pe op xt scope vmid) where
    waits-issued : (q : ℕ) (b : Bool) (g : Tag) (p : ℕ) → tag_waits heading p g q b (Tlbi pe op xt ∷ h)
        ≡ (tag_waits heading p g q b h || (((nat_eq q pe && same_flag scope.broadcast b && takes_whole_tag scope vmid g)
        && (scope.broadcast || nat_eq p pe)) && not (reads_for_some heading h p g)))
    waits-issued q b g p =
        rw (tag_step heading p g q b (Tlbi pe op xt) h, some-stay heading h (Tlbi pe op xt) p refl refl refl g)
        (rw (issue-is heading h pe op xt scope vmid named q b g p)
        (proved 3 (λ i w s. If (If (Is w true) (Is s false)) (Is ((i || w) && not s) (w || (i && not s)))) refl
        ((nat_eq q pe && same_flag scope.broadcast b && takes_whole_tag scope vmid g) && (scope.broadcast || nat_eq p pe))
        (tag_waits heading p g q b h) (reads_for_some heading h p g) (waits-unread h q b g p)))

    -- what a list of entries notes is what waits
    pub noted : (q : ℕ) (b : Bool) (g : Tag) (p : ℕ) (old has below rt : Bool) → old ≡ tag_waits heading p g q b h →
        ((nat_eq q pe && same_flag scope.broadcast b && takes_whole_tag scope vmid g) ≡ true →
        (below && ((scope.broadcast || nat_eq p pe) && not rt)) ≡ true → has ≡ true) → below ≡ true →
        rt ≡ reads_for_some heading h p g →
        (old || (has && ((nat_eq q pe && same_flag scope.broadcast b && takes_whole_tag scope vmid g)
        && (below && ((scope.broadcast || nat_eq p pe) && not rt)))))
        ≡ tag_waits heading p g q b (Tlbi pe op xt ∷ h)
    noted q b g p old has below rt is_old is_there is_below is_read =
        proved 6 (λ old k has below rin rt. If (If (Is k true) (If (Is (below && (rin && not rt)) true) (Is has true)))
        (If (Is below true) (Is (old || (has && (k && (below && (rin && not rt))))) (old || ((k && rin) && not rt))))) refl
        old (nat_eq q pe && same_flag scope.broadcast b && takes_whole_tag scope vmid g) has below
        (scope.broadcast || nat_eq p pe) rt is_there is_below
        ∙ rw (is_old, is_read) (sym (waits-issued q b g p))

  -- ---- a register write of one PE, at which the tags and roots seen are then readable

  module _ (h : List Event) (pe : ℕ) (reg : Reg) (value : ℕ) (seen : List Reading)
      (here : (p : ℕ) → nat_eq p pe ≡ true → tags.readings heading (Msr pe reg value ∷ h) p ≡ seen)
      (there : (p : ℕ) → nat_eq p pe ≡ false → tags.readings heading (Msr pe reg value ∷ h) p ≡ tags.readings heading h p) where
    abbrev after : List Event
    after = Msr pe reg value ∷ h

    pub holds-written : (g : Tag) (r p : ℕ) →
        (holds_at heading Patterns p r g h || (nat_eq p pe && has_reading g r seen)) ≡ holds_at heading Patterns p r g after
    holds-written g r p =
        let at : nat_eq p pe ≡ true → reads heading after p g r ≡ has_reading g r seen = λ e. ap (has_reading g r) (here p e) in
        let apart : nat_eq p pe ≡ false → reads heading after p g r ≡ reads heading h p g r =
        λ e. ap (has_reading g r) (there p e) in
        let held = reads-holds h g r p in
        grind (arith)

    pub waits-written : (q : ℕ) (b : Bool) (g : Tag) (p : ℕ) (old : Bool) →
        ((nat_eq p pe && has_tag g seen) ≡ false → old ≡ tag_waits heading p g q b h) →
        (old && not (nat_eq p pe && has_tag g seen)) ≡ tag_waits heading p g q b after
    waits-written q b g p old is_old =
        let at : nat_eq p pe ≡ true → reads_for_some heading after p g ≡ has_tag g seen = λ e. ap (has_tag g) (here p e) in
        let apart : nat_eq p pe ≡ false → reads_for_some heading after p g ≡ reads_for_some heading h p g =
        λ e. ap (has_tag g) (there p e) in
        let step = tag_step heading p g q b (Msr pe reg value) h in
        let unread = waits-unread h q b g p in
        grind (arith)

-- Roots that keep the registers and what waits, after an event that breaks no rule, leaves what the values of the registers
-- name, and neither issues nor answers anything: no more is kept, and it is what the history says.
pub moved-stands : {old : Roots} (new : Roots) {heading : Heading} {h : List Event} → Stands old heading h → (e : Event) →
    broken heading Patterns h e ≡ None → new.header ≡ old.header →
    ((lock : ℕ) → holder_at new.locks lock ≡ holder_of (e ∷ h) lock) →
    new.registers ≡ old.registers → new.pendings ≡ old.pendings →
    ((p : ℕ) → loads_after (e ∷ h) p (first_reg heading.world) ≡ loads_after h p (first_reg heading.world)) →
    ((p : ℕ) → loads_after (e ∷ h) p (second_reg heading.world) ≡ loads_after h p (second_reg heading.world)) →
    ((p : ℕ) → standings_after (e ∷ h) p ≡ standings_after h p) →
    ((p : ℕ) (reg : Reg) → register_values (e ∷ h) p reg ≡ register_values h p reg) →
    ((l : Bool) (g : Tag) (r p : ℕ) → keeps_in new.holds l g r p ≡ keeps_at heading l p r g (e ∷ h)) →
    ((g : Tag) (p : ℕ) → kept_in new.holds g p ≡ true → kept_in old.holds g p ≡ true) →
    ((q : ℕ) (b : Bool) (g : Tag) (p : ℕ) → tag_waits_after heading p g q b e h ≡ tag_waits heading p g q b h) →
    ((page : ℕ) → get nat_eq new.declared page ≡ root_at (e ∷ h) page) →
    index_map_len new.declared ≡ length (roots_of (e ∷ h)) →
    (new.names_locks ≡ false → (page : ℕ) → lock_of (e ∷ h) page ≡ None) → Stands new heading (e ∷ h)
moved-stands new {heading} {h} s e keeps header holders registers pendings first second stood values holds less waits declared count locks =
    record {
      header = header ∙ s.header;
      proper = s.proper;
      kept = kept_next heading Patterns h e s.kept keeps;
      pes = ap (λ (r : Registers). r.pes) registers ∙ s.pes;
      world = ap (λ (r : Registers). r.world) registers ∙ s.world;
      order = ap (λ (r : Registers). r.in_order) registers ∙ s.order;
      first = λ p lt. ap (λ (r : Registers). loads_in r.first.items p) registers ∙ s.first p lt ∙ sym (first p);
      second = λ p lt. ap (λ (r : Registers). loads_in r.second.items p) registers ∙ s.second p lt ∙ sym (second p);
      standings = λ ordered p lt. ap (λ (r : Registers). standings_of r p) registers ∙ s.standings ordered p lt ∙ sym (stood p);
      outside = λ p reg past. values p reg ∙ s.outside p reg past;
      declared = declared;
      count = count;
      locks = locks;
      holds = λ g r p. holds false g r p;
      left = λ g r p. holds true g r p;
      inside = λ g p past. not-true _ (not_from _ (λ kept. false≢true (sym (s.inside g p past) ∙ less g p kept)));
      pendings = λ q b g p kept.
          ap (λ (ps : Pendings). pending_in ps q b g p) pendings ∙ s.pendings q b g p (less g p kept)
          ∙ sym (waits-stay heading h e q b g p (λ k. sym (some-stay heading h e p (first p) (second p) (stood p) g) ∙ k) (waits q b g p));
      holders = holders;
    }

-- what the roots keep is what the history says
pub keeps-is : {roots : Roots} {heading : Heading} {h : List Event} → Stands roots heading h → (l : Bool) (g : Tag) (r p : ℕ)
    → keeps_in roots.holds l g r p ≡ keeps_at heading l p r g h
keeps-is s false g r p = s.holds g r p
keeps-is s true g r p = s.left g r p

-- Roots that keep what is held too, after an event that gives up no root and takes no tag away.
pub kept-stands : {old : Roots} (new : Roots) {heading : Heading} {h : List Event} → Stands old heading h → (e : Event) →
    broken heading Patterns h e ≡ None → new.header ≡ old.header →
    ((lock : ℕ) → holder_at new.locks lock ≡ holder_of (e ∷ h) lock) →
    new.registers ≡ old.registers → new.holds ≡ old.holds → new.pendings ≡ old.pendings →
    ((p : ℕ) → loads_after (e ∷ h) p (first_reg heading.world) ≡ loads_after h p (first_reg heading.world)) →
    ((p : ℕ) → loads_after (e ∷ h) p (second_reg heading.world) ≡ loads_after h p (second_reg heading.world)) →
    ((p : ℕ) → standings_after (e ∷ h) p ≡ standings_after h p) →
    ((p : ℕ) (reg : Reg) → register_values (e ∷ h) p reg ≡ register_values h p reg) →
    ((r : ℕ) → gives_up r e ≡ false) → ((g : Tag) (p : ℕ) → loses heading Patterns p g e h ≡ false) →
    ((q : ℕ) (b : Bool) (g : Tag) (p : ℕ) → tag_waits_after heading p g q b e h ≡ tag_waits heading p g q b h) →
    ((page : ℕ) → get nat_eq new.declared page ≡ root_at (e ∷ h) page) →
    index_map_len new.declared ≡ length (roots_of (e ∷ h)) →
    (new.names_locks ≡ false → (page : ℕ) → lock_of (e ∷ h) page ≡ None) → Stands new heading (e ∷ h)
kept-stands {old} new {heading} {h} s e keeps header holders registers holds pendings first second stood values ungiven none waits declared
    count locks =
    moved-stands new s e keeps header holders registers pendings first second stood values
    (λ l g r p. ap (λ (hs : Holds). keeps_in hs l g r p) holds ∙ keeps-is s l g r p ∙ sym (stay l g r p))
    (λ g p. subst (λ (hs : Holds). kept_in hs g p ≡ true) holds) waits declared count locks
  where
    stay : (l : Bool) (g : Tag) (r p : ℕ) → keeps_at heading l p r g (e ∷ h) ≡ keeps_at heading l p r g h
    stay false g r p =
        holds-stay heading h e g r p (λ k. sym (reads-stay heading h e p (first p) (second p) (stood p) g r) ∙ k) (ungiven r) (none g p)
    stay true g r p = left-stay heading h e g r p (ungiven r) (none g p)
