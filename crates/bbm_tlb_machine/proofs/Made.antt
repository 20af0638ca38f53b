-- What a step of the machine makes of fine entries is fine: an entry that is started, extended, joined or copied.
use Rattle.bbm_rules.proofs.Common.{◌≡◌, ℕ, suc, ◌+◌, ◌<◌, ◌≤◌, nat_lt, true, false, List, [], ◌∷◌, length, Option}
use Rattle.bbm_rules.proofs.Common.{Some, None, Contains, refl, sym, ◌∙◌, ap, subst, inl, inr, arith, true≢false}
use Rattle.bbm_rules.proofs.Common.{length-append, and_parts, eqb-true, ltb-true, Kind, is_valid, needs, read_through}
use Rattle.bbm_rules.proofs.Common.{tag_of, EntryKind, Stage2, Combined, keeps, Trust, seen, noted, ValidWrite, held}
use Rattle.bbm_rules.proofs.Common.{last_valid, is_that, Noted, Publication, page_of, Heading, El2}
use Rattle.bbm_rules.proofs.Common.{S2, Ttbr0, Ttbr1, Tag, Vmid, Asid, Event, Dsb, Issued, is_root, TakenAway, reads}
use Rattle.bbm_rules.proofs.Common.{Node, next_of, is_readable, contains_cases, contains_head, contains_none}
use Rattle.bbm_rules.specs.Prelude.{kind_in_world}
use Rattle.bbm_histories.specs.ValueChanges.{Window}
use Rattle.bbm_tlb_machine.specs.Entry.{Entry, Part, head_of, parts_of, tag_of_entry}
use Rattle.bbm_tlb_machine.specs.Invariant.{Chained, CleansedAs, Fine, HalfAs, Holding, IsAt, IsBelow, IsNear, Placed, Rooted, Tagged}
use Rattle.bbm_tlb_machine.specs.Invariant.{start_nodes}
use Rattle.bbm_tlb_machine.specs.Safe.{IsLog}
use Rattle.bbm_tlb_machine.specs.KnownOfMachine.{Known}
use Rattle.bbm_tlb_machine.specs.Step.{Extends, Starts, combined, entry_kind, extended, first_part, is_stage2}
use Rattle.bbm_tlb_machine.specs.Step.{may_share, next_part, root_of, shared, started}
use Rattle.bbm_tlb_machine.proofs.AfterEvent.{publication_answered}
use Rattle.bbm_tlb_machine.proofs.EventSteps.{tag_kind}
use Rattle.bbm_rules.proofs.Common.{Bool}
use Rattle.bbm_tlb_machine.proofs.Facts.{no_global, tag_now}
use Rattle.bbm_tlb_machine.proofs.GivenUp.{not_yet}
use Rattle.bbm_tlb_machine.proofs.Grades.{at_any}
use Rattle.bbm_tlb_machine.proofs.InTrees.{below_placed, start_placed}
use Rattle.bbm_tlb_machine.proofs.Roots.{reads_at, start_node}

-- the tag goes by the VMID and the ASID alone
same_tag_of : (kind : Kind) (x y : Entry) → x.vmid ≡ y.vmid → x.asid ≡ y.asid → tag_of kind (head_of x) ≡ tag_of kind (head_of y)
same_tag_of El2 x y v a = refl
same_tag_of S2 x y v a = ap Vmid v
same_tag_of Ttbr0 x y v a = ap Asid a
same_tag_of Ttbr1 x y v a = refl

kind_fits : (kind : Kind) → read_through (entry_kind kind) kind ≡ true
kind_fits El2 = refl
kind_fits S2 = refl
kind_fits Ttbr0 = refl
kind_fits Ttbr1 = refl

stage2_is : (kind : EntryKind) → is_stage2 kind ≡ true → kind ≡ Stage2
stage2_is Stage2 e = refl
stage2_is kind e = absurd (true≢false (sym e))

combined_fits : (kind : Kind) → read_through Stage2 kind ≡ true → read_through Combined kind ≡ true
combined_fits S2 e = refl
combined_fits kind e = absurd (true≢false (sym e))

that_is : (o : Option ℕ) (n : ℕ) → is_that o n ≡ true → o ≡ Some n
that_is (Some m) n e = ap Some (eqb-true m n e)
that_is None n e = absurd (true≢false (sym e))

module _ (heading : Heading) (trust : Trust) (k : Known heading trust) (h : List Event) (kept : keeps heading trust h ≡ true) where
  abbrev notes : List Noted
  notes = noted heading trust h

  -- ---- a part just read

  -- its place holds the core of what was read, and no PE near has seen a write since the last valid one
  record IsNew (x : Entry) (part : Part) : Type 0 where
    holding : Holding heading trust h part
    unseen : (w : ValidWrite) → last_valid part.kind part.level part.place (noted heading trust h) ≡ Some w → (p : ℕ)
        → IsNear heading x p → (b : Noted) → Publication heading part.place p w.since b → ⊥

  just_read : (x : Entry) → x.pe < heading.pes → (part : Part) → Placed heading trust h x.root part
      → is_readable heading h part.place x.pe part.value ≡ true → is_valid part.kind part.level part.value ≡ true → IsNew x part
  just_read x is_pe part p readable valid = record {
    holding = record {
      value = win.kept;
      holds = ap (λ (c : Kind). held heading trust c part.level part.place notes) (sym p.is_at.kind)
          ∙ (ap (λ (l : ℕ). held heading trust p.node.kind l part.place notes) (sym p.is_at.level) ∙ win.holds);
      same_core = subst (λ (c : Kind). needs c part.level win.kept part.value ≡ false) p.is_at.kind
          (subst (λ (l : ℕ). needs p.node.kind l win.kept part.value ≡ false) p.is_at.level win.same_core);
    };
    unseen = λ w last q near b published.
        let is_last : last_valid p.node.kind p.node.level part.place notes ≡ Some w = rw (p.is_at.kind, p.is_at.level) last in
        let both : Some win.last ≡ Some w = sym win.is_last ∙ is_last in
        let same : win.last ≡ w = cc in
        let here : Publication heading part.place x.pe w.since b = at_pe q near part.place w.since b published in
        true≢false (sym (k.seen.complete part.place x.pe w.since (b, here))
        ∙ (ap (λ (v : ValidWrite). seen heading part.place x.pe v.since) (sym same) ∙ win.unseen));
  }
    where
      valid_there : is_valid p.node.kind p.node.level part.value ≡ true
      valid_there = rw (p.is_at.level) valid

      win : Window heading trust (noted heading trust h) p.node part.place x.pe part.value
      win = k.window h kept p.node part.place x.pe part.value is_pe p.in_tree p.is_at.inside readable valid_there

      at_pe : (q : ℕ) → IsNear heading x q → (place : ℕ) (since : List Noted) (b : Noted) → Publication heading place q since b
          → Publication heading place x.pe since b
      at_pe q (inl e) place since b published = subst (λ (r : ℕ). Publication heading place r since b) e published
      at_pe q (inr c) place since b published = k.uniform.publication place q x.pe since b c.0 is_pe published

  new_uncleansed : (top : Bool) (x : Entry) (part : Part) → IsNew x part → (w : ValidWrite)
      → last_valid part.kind part.level part.place (noted heading trust h) ≡ Some w → (p : ℕ) → IsNear heading x p
      → CleansedAs top heading part.place p w.since → ⊥
  new_uncleansed top x part new w last p near (inl one) =
      new.unseen w last p near one.b (publication_answered heading trust k part.place p w.since one.t one.d one.b one.flush.answer one.published)
  new_uncleansed top x part new w last p near (inr two) =
      new.unseen w last p near two.b (publication_answered heading trust k part.place p w.since two.t2 two.d2 two.b two.second.answer
      (publication_answered heading trust k part.place p two.t2.before two.t1 two.d1 two.b two.first.flush.answer two.first.published))

  new_half : (top : Bool) (x : Entry) (part : Part) → IsNew x part → (w : ValidWrite)
      → last_valid part.kind part.level part.place (noted heading trust h) ≡ Some w → (p : ℕ) → IsNear heading x p
      → (b : Noted) (t : Issued Noted) (d : Noted) → HalfAs top heading part.place p w.since b t d → ⊥
  new_half top x part new w last p near b t d half =
      new.unseen w last p near b (publication_answered heading trust k part.place p w.since t d b half.flush.answer half.published)

  -- an entry with the root, the moment and the tag of one that is tagged is tagged
  tagged_as : (x y : Entry) (t : Tagged heading trust h x) → IsNear heading y t.pe → x.root ≡ y.root → x.since ≡ y.since
      → tag_of_entry x ≡ tag_of_entry y → Tagged heading trust h y
  tagged_as x y t near root since e = record {
    pe = t.pe;
    near = near;
    is_pe = t.is_pe;
    held = record {
      newer = t.held.newer;
      older = t.held.older;
      split = t.held.split;
      read = subst (λ (r : ℕ). reads heading t.held.older t.pe (tag_of_entry y) r ≡ true) root
          (subst (λ (g : Tag). reads heading t.held.older t.pe g x.root ≡ true) e t.held.read);
      not_taken = subst (λ (g : Tag). (u : Issued Event) → TakenAway heading trust t.pe g h u → length t.held.older ≤ length u.before → ⊥)
          e t.held.not_taken;
    };
    moment = t.moment ∙ since;
  }

  -- ---- Start

  module _ (log : IsLog heading h) (p : ℕ) (kind : Kind) (number place value : ℕ)
      (s : Starts heading h (started heading (length h) p kind number place value) number) where
    abbrev x : Entry
    x = started heading (length h) p kind number place value

    abbrev first : Part
    first = first_part heading kind place value

    where_read : (p < heading.pes) × (kind_in_world heading.world kind ≡ true)
    where_read =
        reads_at heading h log.events p (root_of heading.world kind place) kind
        (head_of (started heading (length h) p kind number place value)) heading.words.inorder heading.world
        (k.readable_tag.sound h p (tag_of_entry x) (root_of heading.world kind place) s.tag)

    start_tagged : Tagged heading trust h (started heading (length h) p kind number place value)
    start_tagged = record {
      pe = p;
      near = inl refl;
      is_pe = where_read.0;
      held = record {
        newer = [];
        older = h;
        split = refl;
        read = s.tag;
        not_taken = λ t a le. too_late t a le;
      };
      moment = refl;
    }
      where
        too_late : (t : Issued Event) → TakenAway heading trust p (tag_of_entry (started heading (length h) p kind number place value)) h t
            → length h ≤ length t.before → ⊥
        too_late t a le =
            let whole : length h ≡ length a.later + suc (length a.earlier) = ap length a.split ∙ length-append a.later (Dsb a.q a.dsb ∷ a.earlier) in
            let part : length a.earlier ≡ length a.is_open.newer + suc (length t.before)
            = ap length a.is_open.split ∙ length-append a.is_open.newer (t.tlbi ∷ t.before) in
            omega (arith, whole, part, le)

    start_is : (n : Node) × Contains (start_nodes heading kind (root_of heading.world kind place)) n
        × IsAt n (root_of heading.world kind place) (first_part heading kind place value)
    start_is = start_node heading kind place value where_read.1 (k.proper.some_page kind)

    first_placed : Placed heading trust h (root_of heading.world kind place) (first_part heading kind place value)
    first_placed =
        start_placed heading trust k h kept x kind
        (subst (λ (c : Kind). is_root h c (root_of heading.world kind place) ≡ true) (tag_kind kind (head_of x))
        (k.tags.root h k.proper kept (root_of heading.world kind place) (tag_of_entry x)
        (tag_now heading trust k h kept x start_tagged (not_yet heading.words.unflushed (length h) (root_of heading.world kind place) h (omega arith)) (omega arith))))
        first refl start_is.0 start_is.1 start_is.2

    first_new : IsNew (started heading (length h) p kind number place value) (first_part heading kind place value)
    first_new = just_read x where_read.0 first first_placed s.readable s.valid

    only : (P : Part → Type 0) → P (first_part heading kind place value) → (q : Part)
        → Contains (parts_of (started heading (length h) p kind number place value)) q → P q
    only P here q i =
        elim (contains_cases [] first q i) [
          | inl e ↦ subst P e here
          | inr j ↦ absurd (contains_none q j)
        ]

    start_rooted : Rooted heading trust h (started heading (length h) p kind number place value)
    start_rooted = record {
      placed = only (λ (q : Part). Placed heading trust h (root_of heading.world kind place) q) first_placed;
      holding = only (λ (q : Part). Holding heading trust h q) first_new.holding;
      uncleansed = λ top q i at_last w last r near c. new_uncleansed top x q (only (λ (q : Part). IsNew x q) first_new q i) w last r near c;
      made_before = λ q i w last r near b published. absurd ((only (λ (q : Part). IsNew x q) first_new q i).unseen w last r near b published);
      joined_before = λ top q i at_last w last r near b t d half. absurd (new_half top x q (only (λ (q : Part). IsNew x q) first_new q i) w last r near b t d half);
    }

    pub fine_start : Fine heading trust h (started heading (length h) p kind number place value)
    fine_start = record {
      shape = record {
        is_pe = where_read.0;
        made = omega arith;
        joined = omega arith;
        fits = kind_fits kind;
        begins = start_is;
        chained = tt;
        valid = only (λ (q : Part). is_valid q.kind q.level q.value ≡ true) s.valid;
      };
      own_asid = no_global heading trust k h kept x (only (λ (q : Part). is_valid q.kind q.level q.value ≡ true) s.valid) start_rooted;
      tagged = start_tagged;
      rooted = λ up. start_rooted;
    }

  -- ---- Extend

  module _ (x : Entry) (f : Fine heading trust h x) (place value : ℕ) (s : Extends heading h x place value) where
    open f.shape use {is_pe, made, joined, fits, begins, chained, valid}

    abbrev part : Part
    part = next_part x.last place value

    here : Contains (parts_of x) x.last
    here = contains_head x.above x.last

    is_below : IsBelow (next_part x.last place value) x.last
    is_below = record {
      kind = refl;
      level = refl;
      inside = that_is (next_of x.last.kind x.last.level x.last.value) (page_of place) s.below;
      region = refl;
    }

    next_placed : Placed heading trust h x.root (next_part x.last place value)
    next_placed = below_placed heading trust k h kept x part x.last is_below ((f.rooted s.goes_on).placed x.last here) ((f.rooted s.goes_on).holding x.last here) (f.shape.valid x.last here)

    next_new : IsNew x (next_part x.last place value)
    next_new = just_read x f.shape.is_pe part next_placed s.readable s.valid

    more : (P : Part → Type 0) → P (next_part x.last place value) → ((q : Part) → Contains (parts_of x) q → P q) → (q : Part)
        → Contains (parts_of (extended x place value)) q → P q
    more P new old q i =
        elim (contains_cases (parts_of x) part q i) [
          | inl e ↦ subst P e new
          | inr j ↦ old q j
        ]

    extended_valid : (q : Part) → Contains (parts_of (extended x place value)) q → is_valid q.kind q.level q.value ≡ true
    extended_valid = more (λ (q : Part). is_valid q.kind q.level q.value ≡ true) s.valid valid

    -- by covers of each part; by top covers of the new one, which is the last
    abbrev Stays : Bool → Part → Type 0
    Stays top q = (w : ValidWrite) → last_valid q.kind q.level q.place (noted heading trust h) ≡ Some w → (p : ℕ)
        → IsNear heading x p → CleansedAs top heading q.place p w.since → ⊥

    uncleansed_by : (top : Bool) (q : Part) → Contains (parts_of (extended x place value)) q
        → (top ≡ true → next_part x.last place value ≡ q) → Stays top q
    uncleansed_by true q i at_last =
        subst (λ (q : Part). Stays true q) (at_last refl) (λ w last p near c. new_uncleansed true x part next_new w last p near c)
    uncleansed_by false q i at_last =
        more (λ (q : Part). Stays false q) (λ w last p near c. new_uncleansed false x part next_new w last p near c)
        (λ q j. (f.rooted s.goes_on).uncleansed false q j (at_any x q)) q i

    abbrev Joined : Bool → Part → Type 0
    Joined top q = (w : ValidWrite) → last_valid q.kind q.level q.place (noted heading trust h) ≡ Some w → (p : ℕ)
        → IsNear heading x p → (b : Noted) (t : Issued Noted) (d : Noted) → HalfAs top heading q.place p w.since b t d
        → (x.kind ≡ Combined) × (x.joined < d.position)

    joined_by : (top : Bool) (q : Part) → Contains (parts_of (extended x place value)) q
        → (top ≡ true → next_part x.last place value ≡ q) → Joined top q
    joined_by true q i at_last =
        subst (λ (q : Part). Joined true q) (at_last refl)
        (λ w last p near b t d half. absurd (new_half true x part next_new w last p near b t d half))
    joined_by false q i at_last =
        more (λ (q : Part). Joined false q)
        (λ w last p near b t d half. absurd (new_half false x part next_new w last p near b t d half))
        (λ q j. (f.rooted s.goes_on).joined_before false q j (at_any x q)) q i

    extended_rooted : Rooted heading trust h (extended x place value)
    extended_rooted = record {
      placed = more (λ (q : Part). Placed heading trust h x.root q) next_placed (f.rooted s.goes_on).placed;
      holding = more (λ (q : Part). Holding heading trust h q) next_new.holding (f.rooted s.goes_on).holding;
      uncleansed = uncleansed_by;
      made_before = more (λ (q : Part). (w : ValidWrite) → last_valid q.kind q.level q.place (noted heading trust h) ≡ Some w → (p : ℕ)
          → IsNear heading x p → (b : Noted) → Publication heading q.place p w.since b → x.since < b.position)
          (λ w last p near b published. absurd (next_new.unseen w last p near b published)) (f.rooted s.goes_on).made_before;
      joined_before = joined_by;
    }

    pub fine_extended : Fine heading trust h (extended x place value)
    fine_extended =
        let below : Chained (next_part x.last place value) (parts_of x) = (is_below, chained) in
        record {
          shape = record { is_pe = is_pe; made = made; joined = joined; fits = fits; begins = begins; chained = below; valid = extended_valid };
          own_asid = no_global heading trust k h kept (extended x place value) extended_valid extended_rooted;
          tagged = tagged_as x (extended x place value) f.tagged f.tagged.near refl refl
              (same_tag_of x.last.kind x (extended x place value) refl refl);
          rooted = λ up. extended_rooted;
        }

  -- ---- Combine, Share

  module _ (x : Entry) (f : Fine heading trust h x) where
    open f.shape use {is_pe, made, joined, fits, begins, chained, valid}

    pub fine_combined : is_stage2 x.kind ≡ true → Fine heading trust h (combined (length h) x)
    fine_combined stage2 =
        let kind : x.kind ≡ Stage2 = stage2_is x.kind stage2 in
        let now : length h ≤ length h = omega arith in
        let both : read_through Combined x.last.kind ≡ true
        = combined_fits x.last.kind (ap (λ (y : EntryKind). read_through y x.last.kind) (sym kind) ∙ fits) in
        record {
          shape = record { is_pe = is_pe; made = made; joined = now; fits = both; begins = begins; chained = chained; valid = valid };
          own_asid = f.own_asid;
          tagged = tagged_as x (combined (length h) x) f.tagged f.tagged.near refl refl
              (same_tag_of x.last.kind x (combined (length h) x) refl refl);
          rooted = λ up. let g : Rooted heading trust h x = f.rooted up in record {
            placed = g.placed;
            holding = g.holding;
            uncleansed = g.uncleansed;
            made_before = g.made_before;
            joined_before = λ top q i at_last w last p near b t d half.
                let apart : x.kind ≡ Combined = (g.joined_before top q i at_last w last p near b t d half).0 in cc;
          };
        }

    -- an entry at another PE is near where this one is
    pub fine_shared : (p : ℕ) → may_share heading p ≡ true → Fine heading trust h (shared x p)
    fine_shared p may =
        let both = and_parts heading.cnp (nat_lt p heading.pes) may in
        let less : p < heading.pes = ltb-true p heading.pes both.1 in
        let near : (q : ℕ) → IsNear heading (shared x p) q → IsNear heading x q = λ q n. back p both.0 less q n in
        record {
          shape = record { is_pe = less; made = made; joined = joined; fits = fits; begins = begins; chained = chained; valid = valid };
          own_asid = f.own_asid;
          tagged = tagged_as x (shared x p) f.tagged (inr (both.0, f.tagged.is_pe)) refl refl
              (same_tag_of x.last.kind x (shared x p) refl refl);
          rooted = λ up. let g : Rooted heading trust h x = f.rooted up in record {
            placed = g.placed;
            holding = g.holding;
            uncleansed = λ top q i at_last w last r n. g.uncleansed top q i at_last w last r (near r n);
            made_before = λ q i w last r n. g.made_before q i w last r (near r n);
            joined_before = λ top q i at_last w last r n. g.joined_before top q i at_last w last r (near r n);
          };
        }
      where
        back : (p : ℕ) → heading.cnp ≡ true → p < heading.pes → (q : ℕ) → IsNear heading (shared x p) q → IsNear heading x q
        back p cnp less q (inl e) = inr (cnp, subst (λ (r : ℕ). r < heading.pes) (sym e) less)
        back p cnp less q (inr c) = inr c
