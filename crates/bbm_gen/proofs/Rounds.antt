-- A round takes away what it makes.
use Rattle.bbm_rules.proofs.Common.{◌≡◌, ℕ, suc, ◌<◌, Bool, true, false, ◌==◌, List, [], ◌∷◌, length, Some, None, refl}
use Rattle.bbm_rules.proofs.Common.{sym, ap, ◌∙◌, subst, arith, if◌then◌else◌, true≢false, eq-eqb, eqb-true, result_ok}
use Rattle.bbm_rules.proofs.Common.{Kind, meets, Form, core_of, desc_of, form_of, is_valid, needs, contiguous_of}
use Rattle.bbm_rules.proofs.Common.{vmid_matches, VmAll1, of_world, scoped_by_vmid, scope_of, Half, Second, Full}
use Rattle.bbm_rules.proofs.Common.{Vae2is, Ipas2e1is, Barrier, Event, TlbiOp, Scope, Write, Dsb, Dmb, Isb, Tlbi}
use Rattle.bbm_rules.proofs.Common.{VttbrEl2, cover_at, note, ValidWrite, cleansed_everywhere, held, last_valid, Noted}
use Rattle.bbm_rules.proofs.Common.{events_of, page_of, vmid_of, lacks_vmid, tag_number, is_fresh, is_null, lock_of}
use Rattle.bbm_rules.proofs.Common.{roots_of, is_contiguous, tag_set, tags_of, held_at, next_of, node_of, region_of}
use Rattle.bbm_rules.proofs.Common.{and-false}
use Rattle.bbm_rules.specs.Covers.{top_at}
use Rattle.bbm_regimes.specs.declared.regime.Kind.TheVariants.{El2, S2}
use Rattle.bbm_tlbi_scope.specs.Decode.{one_page}
use Rattle.bbm_tlbi_scope.specs.declared.op.TlbiOp.TheVariants.{Vmalle1is}
use Rattle.bbm_rules.specs.Broken.{broken}
use Rattle.bbm_rules.specs.Claims.{Patterns}
use Rattle.bbm_gen.specs.BelowGen.{Below, notes}
use Rattle.bbm_gen.specs.Generated.{heading, el2_root, s2_root, ish, ishst}
use Rattle.bbm_gen.proofs.Numbers.{el2_node, s2_node, el2_scope, s2_scope}
use Rattle.bbm_gen.proofs.Flushed.{not_before, el2_after, s2_not_half, s2_after}
use Rattle.bbm_gen.proofs.Unbroken.{no_core, tlbi_free, unbroken, write_free, dsb_unbroken, dmb_unbroken, isb_unbroken}
use Rattle.bbm_gen.proofs.Standing.{Stands, Clear, WritesAt, of_round, declared, loaded, stands_on, clear_on, matches}
use Rattle.bbm_gen.proofs.Standing.{stays_none}

-- the state after a whole round: all stands, and no place of the roots holds anything
pub record Whole (h : List Event) : Type 0 where
  pub stands : Stands h
  pub clear : (except : ℕ) → Clear h except

-- the state within one
pub record Mid (h : List Event) (place : ℕ) : Type 0 where
  pub stands : Stands h
  pub clear : Clear h place

-- the scope of the flush that takes what combines both stages
abbrev rest_scope : Scope
rest_scope = record {
  family = VmAll1;
  asid = None;
  vmid_scoped = true;
  interval = None;
  last_only = false;
  level = None;
  broadcast = true;
}

-- ---- what is known of the place, the block and the page that a round names

pub record Made (kind : Kind) (block : ℕ) : Type 0 where
  pub form : form_of 1 block ≡ Form.leaf
  pub alone : contiguous_of block ≡ false

valid : (kind : Kind) (block : ℕ) → Made kind block → is_valid kind 1 block ≡ true
valid kind block m = rw m.form refl

leaf : (kind : Kind) (block : ℕ) → Made kind block → next_of kind 1 block ≡ None
leaf kind block m = rw m.form refl

single : (kind : Kind) (block : ℕ) → Made kind block → is_contiguous kind (desc_of kind 1 block) ≡ false
single kind block m = rw m.form m.alone

no_need : (kind : Kind) (before : ℕ) → needs kind 1 before 0 ≡ false
no_need kind before = no_core (core_of kind 1 before)

module _ (b : Below) where
  advance : (h : List Event) (e : Event) (place : ℕ) → of_round e ≡ true → WritesAt place e
      → broken heading Patterns h e ≡ None → Mid h place → Mid (e ∷ h) place
  advance h e place is at free m =
      let s : Stands (e ∷ h) = stands_on b h e is free m.stands in
      record { stands = s; clear = clear_on b h e place m.stands s at m.clear }

  by_dsb : (h : List Event) (p place : ℕ) (dsb : Barrier) → Mid h place → Mid (Dsb p dsb ∷ h) place
  by_dsb h p place dsb m = advance h (Dsb p dsb) place refl (λ q a v e. cc) (dsb_unbroken h p dsb) m

  by_isb : (h : List Event) (p place : ℕ) → Mid h place → Mid (Isb p ∷ h) place
  by_isb h p place m = advance h (Isb p) place refl (λ q a v e. cc) (isb_unbroken h p) m

  by_dmb : (h : List Event) (p place : ℕ) → Mid h place → Mid (Dmb p ish ∷ h) place
  by_dmb h p place m = advance h (Dmb p ish) place refl (λ q a v e. cc) (dmb_unbroken h p ish) m

  by_tlbi : (h : List Event) (p place xt : ℕ) (op : TlbiOp) (scope : Scope) → of_world heading.world op ≡ true
      → lacks_vmid heading (events_of (notes h)) p op ≡ false → result_ok (scope_of op xt) ≡ Some scope → Mid h place
      → Mid (Tlbi p op xt ∷ h) place
  by_tlbi h p place xt op scope world vmid decoded m =
      advance h (Tlbi p op xt) place refl (λ q a v e. cc)
      (unbroken h (Tlbi p op xt) (tlbi_free (notes h) p xt op scope world vmid decoded)) m

  -- ---- the nodes of the two roots

  el2_at : (h : List Event) (place : ℕ) → Stands h → page_of place ≡ el2_root
      → node_of heading Patterns (notes h) (page_of place) ≡ Some el2_node
  el2_at h place s inside =
      ap (λ (page : ℕ). node_of heading Patterns (notes h) page) inside ∙ b.one_node.the_first h s.kept el2_node s.el2

  s2_at : (h : List Event) (place : ℕ) → Stands h → page_of place ≡ s2_root
      → node_of heading Patterns (notes h) (page_of place) ≡ Some s2_node
  s2_at h place s inside =
      ap (λ (page : ℕ). node_of heading Patterns (notes h) page) inside ∙ b.one_node.the_first h s.kept s2_node s.s2

  el2_lock : (h : List Event) → roots_of h ≡ declared → lock_of h el2_root ≡ None
  el2_lock h e = rw e refl

  s2_lock : (h : List Event) → roots_of h ≡ declared → lock_of h s2_root ≡ None
  s2_lock h e = rw e refl

  write_el2 : (h : List Event) (p place value : ℕ) → page_of place ≡ el2_root → next_of El2 1 value ≡ None
      → is_contiguous El2 (desc_of El2 1 value) ≡ false
      → ((before : ℕ) → held_at heading Patterns (notes h) el2_node place ≡ Some before → needs El2 1 before value ≡ false)
      → Mid h place → Mid (Write p place value ∷ h) place
  write_el2 h p place value inside no_table alone core m =
      advance h (Write p place value) place refl (λ q a v e. cc)
      (unbroken h (Write p place value) (write_free (notes h) El2 el2_root p place value (record {
        node = el2_at h place m.stands inside;
        lock = subst (λ (k : List Event). lock_of k el2_root ≡ None) (sym (b.notes_keep_the_events h))
            (el2_lock h m.stands.roots);
        null = subst (λ (k : List Event). is_null k (page_of place) ≡ false) (sym (b.notes_keep_the_events h))
            (m.stands.nulls (page_of place));
        old = ap (λ (page : ℕ). is_fresh heading Patterns (notes h) page) inside ∙ m.stands.el2_old;
        lower = refl;
        leaf = no_table;
        alone = alone;
        core = core;
      }))) m

  write_s2 : (h : List Event) (p place value : ℕ) → page_of place ≡ s2_root → next_of S2 1 value ≡ None
      → is_contiguous S2 (desc_of S2 1 value) ≡ false
      → ((before : ℕ) → held_at heading Patterns (notes h) s2_node place ≡ Some before → needs S2 1 before value ≡ false)
      → Mid h place → Mid (Write p place value ∷ h) place
  write_s2 h p place value inside no_table alone core m =
      advance h (Write p place value) place refl (λ q a v e. cc)
      (unbroken h (Write p place value) (write_free (notes h) S2 s2_root p place value (record {
        node = s2_at h place m.stands inside;
        lock = subst (λ (k : List Event). lock_of k s2_root ≡ None) (sym (b.notes_keep_the_events h))
            (s2_lock h m.stands.roots);
        null = subst (λ (k : List Event). is_null k (page_of place) ≡ false) (sym (b.notes_keep_the_events h))
            (m.stands.nulls (page_of place));
        old = ap (λ (page : ℕ). is_fresh heading Patterns (notes h) page) inside ∙ m.stands.s2_old;
        lower = refl;
        leaf = no_table;
        alone = alone;
        core = core;
      }))) m

  vmid_is : (h : List Event) (p : ℕ) → Stands h → p < 4
      → vmid_of heading (events_of (notes h)) p ≡ Some (tag_number (loaded p VttbrEl2))
  vmid_is h p s lt = rw (b.notes_keep_the_events h, s.registers p VttbrEl2 lt) refl

  matches_noted : (h : List Event) → Stands h
      → vmid_matches (Some 1) (tag_set (tags_of heading Patterns s2_root (events_of (notes h)))) ≡ true
  matches_noted h s = subst (λ (k : List Event). vmid_matches (Some 1) (tag_set (tags_of heading Patterns s2_root k)) ≡ true)
      (sym (b.notes_keep_the_events h)) (matches h s)

  -- what holds nothing stays so
  el2_none_on : (h : List Event) (e : Event) (place : ℕ) → page_of place ≡ el2_root → ((q v : ℕ) → e ≡ Write q place v → ⊥)
      → Stands h → Stands (e ∷ h) → held_at heading Patterns (notes h) el2_node place ≡ None
      → held_at heading Patterns (notes (e ∷ h)) el2_node place ≡ None
  el2_none_on h e place inside other s after none =
      stays_none El2 1 place e (held_at heading Patterns (notes h) el2_node place)
      (held_at heading Patterns (notes (e ∷ h)) el2_node place)
      (b.held_changes.changes h e b.proper.some_pe after.kept el2_node place s.el2 inside) other none

-- ---- covers

el2_cover : (h : List Noted) (p place block page : ℕ) → node_of heading Patterns h (page_of place) ≡ Some el2_node
    → held_at heading Patterns h el2_node place ≡ Some block → next_of El2 1 block ≡ None
    → result_ok (scope_of Vae2is page) ≡ Some (el2_scope page)
    → meets (one_page page) (region_of el2_node place) ≡ true
    → cover_at heading Patterns h (Tlbi p Vae2is page) place ≡ Full
el2_cover h p place block page node holds no_table decoded met = rw (decoded, node, holds, no_table, met) refl

s2_cover : (h : List Noted) (place block page : ℕ) → node_of heading Patterns h (page_of place) ≡ Some s2_node
    → held_at heading Patterns h s2_node place ≡ Some block → next_of S2 1 block ≡ None
    → result_ok (scope_of Ipas2e1is page) ≡ Some (s2_scope page)
    → meets (one_page page) (region_of s2_node place) ≡ true → vmid_of heading (events_of h) 0 ≡ Some 1
    → vmid_matches (Some 1) (tag_set (tags_of heading Patterns s2_root (events_of h))) ≡ true
    → cover_at heading Patterns h (Tlbi 0 Ipas2e1is page) place ≡ Half
s2_cover h place block page node holds no_table decoded met is same =
    rw (is, decoded, node, holds, no_table, met, same) refl

s2_rest : (h : List Noted) (place block : ℕ) → node_of heading Patterns h (page_of place) ≡ Some s2_node
    → held_at heading Patterns h s2_node place ≡ Some block → vmid_of heading (events_of h) 0 ≡ Some 1
    → vmid_matches (Some 1) (tag_set (tags_of heading Patterns s2_root (events_of h))) ≡ true
    → cover_at heading Patterns h (Tlbi 0 Vmalle1is 0) place ≡ Second
s2_rest h place block node holds is same = rw (is, node, holds, same) refl

held_is : (h : List Noted) (kind : Kind) (place : ℕ) (w : ValidWrite) (c : Bool) → last_valid kind 1 place h ≡ Some w
    → cleansed_everywhere heading Patterns place w.since ≡ c
    → held heading Patterns kind 1 place h ≡ (if c then None else Some w.value)
held_is h kind place w true last e = rw (last, e) refl
held_is h kind place w false last e = rw (last, e) refl

first_write : (kind : Kind) (p place block : ℕ) (h : List Event) → is_valid kind 1 block ≡ true
    → last_valid kind 1 place (notes (Write p place block ∷ h)) ≡ Some (record { value = block; since = [] })
first_write kind p place block h v = rw (eq-eqb place place refl, v) refl

-- a later event that isn't a valid write
dsb_later : (kind : Kind) (place p : ℕ) (dsb : Barrier) (h : List Event) (w : ValidWrite)
    → last_valid kind 1 place (notes h) ≡ Some w
    → last_valid kind 1 place (notes (Dsb p dsb ∷ h))
    ≡ Some (record w { since = note heading Patterns (notes h) (Dsb p dsb) ∷ w.since })
dsb_later kind place p dsb h w e = rw e refl

tlbi_later : (kind : Kind) (place p xt : ℕ) (op : TlbiOp) (h : List Event) (w : ValidWrite)
    → last_valid kind 1 place (notes h) ≡ Some w
    → last_valid kind 1 place (notes (Tlbi p op xt ∷ h))
    ≡ Some (record w { since = note heading Patterns (notes h) (Tlbi p op xt) ∷ w.since })
tlbi_later kind place p xt op h w e = rw e refl

clear_later : (kind : Kind) (place p : ℕ) (h : List Event) (w : ValidWrite) → last_valid kind 1 place (notes h) ≡ Some w
    → last_valid kind 1 place (notes (Write p place 0 ∷ h))
    ≡ Some (record w { since = note heading Patterns (notes h) (Write p place 0) ∷ w.since })
clear_later kind place p h w e = rw (eq-eqb place place refl, e) refl

other_page : (q place a c : ℕ) → q ≡ place → page_of q ≡ a → page_of place ≡ c → a ≡ c
other_page q place a c is e f = sym e ∙ (ap (λ (x : ℕ). page_of x) is ∙ f)

el2_is_not_s2 : s2_root ≡ el2_root → ⊥
el2_is_not_s2 e = omega (arith, e)

-- ---- a round in the EL2 tree

abbrev pub el2_round : ℕ → ℕ → ℕ → ℕ → List Event → List Event
el2_round p place block page h =
    Dmb p ish ∷ Isb p ∷ Dsb p ish ∷ Tlbi p Vae2is page ∷ Dsb p ishst ∷ Write p place 0 ∷ Dsb p ishst ∷ Write p place block ∷ h

module _ (b : Below) (h : List Event) (w : Whole h) (p place block page : ℕ) (lt : p < 4) (inside : page_of place ≡ el2_root)
    (made : Made El2 block) (decoded : result_ok (scope_of Vae2is page) ≡ Some (el2_scope page))
    (met : meets (one_page page) (region_of el2_node place) ≡ true) where
  abbrev e1 : List Event
  e1 = Write p place block ∷ h

  abbrev e2 : List Event
  e2 = Dsb p ishst ∷ e1

  abbrev e3 : List Event
  e3 = Write p place 0 ∷ e2

  abbrev e4 : List Event
  e4 = Dsb p ishst ∷ e3

  abbrev e5 : List Event
  e5 = Tlbi p Vae2is page ∷ e4

  abbrev e6 : List Event
  e6 = Dsb p ish ∷ e5

  abbrev e7 : List Event
  e7 = Isb p ∷ e6

  empty : held_at heading Patterns (notes h) el2_node place ≡ None
  empty = (w.clear (suc place)).el2 place inside (λ e. omega (arith, e))

  m1 : Mid e1 place
  m1 = write_el2 b h p place block inside (leaf El2 block made) (single El2 block made)
      (λ before e. let none : None ≡ Some before = sym empty ∙ e in cc)
      (record { stands = w.stands; clear = w.clear place })

  m4 : Mid e4 place
  m4 = by_dsb b e3 p place ishst (write_el2 b e2 p place 0 inside refl refl (λ before e. no_need El2 before)
      (by_dsb b e1 p place ishst m1))

  last4 : last_valid El2 1 place (notes e4) ≡ Some (record {
    value = block;
    since = note heading Patterns (notes e3) (Dsb p ishst) ∷ note heading Patterns (notes e2) (Write p place 0)
        ∷ note heading Patterns (notes e1) (Dsb p ishst) ∷ [];
  })
  last4 = dsb_later El2 place p ishst e3 _ (clear_later El2 place p e2 _ (dsb_later El2 place p ishst e1 _
      (first_write El2 p place block h (valid El2 block made))))

  held4 : held_at heading Patterns (notes e4) el2_node place ≡ Some block
  held4 = held_is (notes e4) El2 place _ false last4 (not_before place (eq-eqb place place refl)
      (cover_at heading Patterns (notes e1) (Dsb p ishst)) (cover_at heading Patterns (notes e2) (Write p place 0))
      (cover_at heading Patterns (notes e3) (Dsb p ishst)) (λ a. Full) (λ a. Full) (λ a. Full) (λ a. Full)
      (top_at heading Patterns (notes e1) (Dsb p ishst)) (top_at heading Patterns (notes e2) (Write p place 0))
      (top_at heading Patterns (notes e3) (Dsb p ishst)) (λ a. Full) (λ a. Full) (λ a. Full) (λ a. Full)
      (suc (length (notes e1))) (suc (length (notes e2))) (suc (length (notes e3))) 0 0 0 0 p lt)

  full : cover_at heading Patterns (notes e4) (Tlbi p Vae2is page) place ≡ Full
  full = el2_cover (notes e4) p place block page (el2_at b e4 place m4.stands inside) held4 (leaf El2 block made) decoded met

  m6 : Mid e6 place
  m6 = by_dsb b e5 p place ish (by_tlbi b e4 p place page Vae2is (el2_scope page) refl refl decoded m4)

  held6 : held_at heading Patterns (notes e6) el2_node place ≡ None
  held6 = held_is (notes e6) El2 place _ true
      (dsb_later El2 place p ish e5 _ (tlbi_later El2 place p page Vae2is e4 _ last4))
      (el2_after place (eq-eqb place place refl)
      (cover_at heading Patterns (notes e1) (Dsb p ishst)) (cover_at heading Patterns (notes e2) (Write p place 0))
      (cover_at heading Patterns (notes e3) (Dsb p ishst)) (cover_at heading Patterns (notes e4) (Tlbi p Vae2is page))
      (cover_at heading Patterns (notes e5) (Dsb p ish)) (λ a. Full) (λ a. Full)
      (top_at heading Patterns (notes e1) (Dsb p ishst)) (top_at heading Patterns (notes e2) (Write p place 0))
      (top_at heading Patterns (notes e3) (Dsb p ishst)) (top_at heading Patterns (notes e4) (Tlbi p Vae2is page))
      (top_at heading Patterns (notes e5) (Dsb p ish)) (λ a. Full) (λ a. Full)
      (suc (length (notes e1))) (suc (length (notes e2))) (suc (length (notes e3))) (suc (length (notes e4)))
      (suc (length (notes e5))) 0 0 p page lt full)

  m7 : Mid e7 place
  m7 = by_isb b e6 p place m6

  m8 : Mid (el2_round p place block page h) place
  m8 = by_dmb b e7 p place m7

  held8 : held_at heading Patterns (notes (el2_round p place block page h)) el2_node place ≡ None
  held8 = el2_none_on b e7 (Dmb p ish) place inside (λ q v e. cc) m7.stands m8.stands
      (el2_none_on b e6 (Isb p) place inside (λ q v e. cc) m6.stands m7.stands held6)

  el2_clear : (q : ℕ) → page_of q ≡ el2_root → (c : Bool) → (q == place) ≡ c
      → held_at heading Patterns (notes (el2_round p place block page h)) el2_node q ≡ None
  el2_clear q at true e =
      subst (λ (x : ℕ). held_at heading Patterns (notes (el2_round p place block page h)) el2_node x ≡ None)
      (sym (eqb-true q place e)) held8
  el2_clear q at false e = m8.clear.el2 q at (λ is. true≢false (sym (eq-eqb q place is) ∙ e))

  pub el2_whole : Whole (el2_round p place block page h)
  el2_whole = record {
    stands = m8.stands;
    clear = λ except. record {
      el2 = λ q at apart. el2_clear q at (q == place) refl;
      s2 = λ q at apart. m8.clear.s2 q at (λ is. el2_is_not_s2 (other_page q place s2_root el2_root is at inside));
    };
  }

-- ---- a round in the stage 2 tree

abbrev pub s2_round : ℕ → ℕ → ℕ → List Event → List Event
s2_round place block page h =
    Dsb 0 ish ∷ Tlbi 0 Vmalle1is 0 ∷ Dsb 0 ish ∷ Tlbi 0 Ipas2e1is page ∷ Dsb 0 ishst ∷ Write 0 place 0 ∷ Dsb 0 ishst
    ∷ Write 0 place block ∷ h

module _ (b : Below) (h : List Event) (w : Whole h) (place block page : ℕ) (inside : page_of place ≡ s2_root)
    (made : Made S2 block) (decoded : result_ok (scope_of Ipas2e1is page) ≡ Some (s2_scope page))
    (met : meets (one_page page) (region_of s2_node place) ≡ true) where
  abbrev f1 : List Event
  f1 = Write 0 place block ∷ h

  abbrev f2 : List Event
  f2 = Dsb 0 ishst ∷ f1

  abbrev f3 : List Event
  f3 = Write 0 place 0 ∷ f2

  abbrev f4 : List Event
  f4 = Dsb 0 ishst ∷ f3

  abbrev f5 : List Event
  f5 = Tlbi 0 Ipas2e1is page ∷ f4

  abbrev f6 : List Event
  f6 = Dsb 0 ish ∷ f5

  abbrev f7 : List Event
  f7 = Tlbi 0 Vmalle1is 0 ∷ f6

  s2_empty : held_at heading Patterns (notes h) s2_node place ≡ None
  s2_empty = (w.clear (suc place)).s2 place inside (λ e. omega (arith, e))

  s1 : Mid f1 place
  s1 = write_s2 b h 0 place block inside (leaf S2 block made) (single S2 block made)
      (λ before e. let none : None ≡ Some before = sym s2_empty ∙ e in cc)
      (record { stands = w.stands; clear = w.clear place })

  s4 : Mid f4 place
  s4 = by_dsb b f3 0 place ishst (write_s2 b f2 0 place 0 inside refl refl (λ before e. no_need S2 before)
      (by_dsb b f1 0 place ishst s1))

  s_last4 : last_valid S2 1 place (notes f4) ≡ Some (record {
    value = block;
    since = note heading Patterns (notes f3) (Dsb 0 ishst) ∷ note heading Patterns (notes f2) (Write 0 place 0)
        ∷ note heading Patterns (notes f1) (Dsb 0 ishst) ∷ [];
  })
  s_last4 = dsb_later S2 place 0 ishst f3 _ (clear_later S2 place 0 f2 _ (dsb_later S2 place 0 ishst f1 _
      (first_write S2 0 place block h (valid S2 block made))))

  s_held4 : held_at heading Patterns (notes f4) s2_node place ≡ Some block
  s_held4 = held_is (notes f4) S2 place _ false s_last4 (not_before place (eq-eqb place place refl)
      (cover_at heading Patterns (notes f1) (Dsb 0 ishst)) (cover_at heading Patterns (notes f2) (Write 0 place 0))
      (cover_at heading Patterns (notes f3) (Dsb 0 ishst)) (λ a. Full) (λ a. Full) (λ a. Full) (λ a. Full)
      (top_at heading Patterns (notes f1) (Dsb 0 ishst)) (top_at heading Patterns (notes f2) (Write 0 place 0))
      (top_at heading Patterns (notes f3) (Dsb 0 ishst)) (λ a. Full) (λ a. Full) (λ a. Full) (λ a. Full)
      (suc (length (notes f1))) (suc (length (notes f2))) (suc (length (notes f3))) 0 0 0 0 0 (omega arith))

  s_vmid : (k : List Event) → Stands k → vmid_of heading (events_of (notes k)) 0 ≡ Some 1
  s_vmid k s = vmid_is b k 0 s (omega arith)

  half_cover : cover_at heading Patterns (notes f4) (Tlbi 0 Ipas2e1is page) place ≡ Half
  half_cover = s2_cover (notes f4) place block page (s2_at b f4 place s4.stands inside) s_held4 (leaf S2 block made) decoded
      met (s_vmid f4 s4.stands) (matches_noted b f4 s4.stands)

  has_vmid : (k : List Event) (op : TlbiOp) → Stands k → lacks_vmid heading (events_of (notes k)) 0 op ≡ false
  has_vmid k op s = rw (s_vmid k s) (and-false (scoped_by_vmid op))

  s6 : Mid f6 place
  s6 = by_dsb b f5 0 place ish
      (by_tlbi b f4 0 place page Ipas2e1is (s2_scope page) refl (has_vmid f4 Ipas2e1is s4.stands) decoded s4)

  s_last6 : last_valid S2 1 place (notes f6) ≡ Some (record {
    value = block;
    since = note heading Patterns (notes f5) (Dsb 0 ish) ∷ note heading Patterns (notes f4) (Tlbi 0 Ipas2e1is page)
        ∷ note heading Patterns (notes f3) (Dsb 0 ishst) ∷ note heading Patterns (notes f2) (Write 0 place 0)
        ∷ note heading Patterns (notes f1) (Dsb 0 ishst) ∷ [];
  })
  s_last6 = dsb_later S2 place 0 ish f5 _ (tlbi_later S2 place 0 page Ipas2e1is f4 _ s_last4)

  s_held6 : held_at heading Patterns (notes f6) s2_node place ≡ Some block
  s_held6 = held_is (notes f6) S2 place _ false s_last6 (s2_not_half place (eq-eqb place place refl)
      (cover_at heading Patterns (notes f1) (Dsb 0 ishst)) (cover_at heading Patterns (notes f2) (Write 0 place 0))
      (cover_at heading Patterns (notes f3) (Dsb 0 ishst)) (cover_at heading Patterns (notes f4) (Tlbi 0 Ipas2e1is page))
      (cover_at heading Patterns (notes f5) (Dsb 0 ish)) (λ a. Full) (λ a. Full)
      (top_at heading Patterns (notes f1) (Dsb 0 ishst)) (top_at heading Patterns (notes f2) (Write 0 place 0))
      (top_at heading Patterns (notes f3) (Dsb 0 ishst)) (top_at heading Patterns (notes f4) (Tlbi 0 Ipas2e1is page))
      (top_at heading Patterns (notes f5) (Dsb 0 ish)) (λ a. Full) (λ a. Full)
      (suc (length (notes f1))) (suc (length (notes f2))) (suc (length (notes f3))) (suc (length (notes f4)))
      (suc (length (notes f5))) 0 0 page half_cover)

  second_cover : cover_at heading Patterns (notes f6) (Tlbi 0 Vmalle1is 0) place ≡ Second
  second_cover = s2_rest (notes f6) place block (s2_at b f6 place s6.stands inside) s_held6 (s_vmid f6 s6.stands)
      (matches_noted b f6 s6.stands)

  s8 : Mid (s2_round place block page h) place
  s8 = by_dsb b f7 0 place ish (by_tlbi b f6 0 place 0 Vmalle1is rest_scope refl (has_vmid f6 Vmalle1is s6.stands) refl s6)

  s_held8 : held_at heading Patterns (notes (s2_round place block page h)) s2_node place ≡ None
  s_held8 = held_is (notes (s2_round place block page h)) S2 place _ true
      (dsb_later S2 place 0 ish f7 _ (tlbi_later S2 place 0 0 Vmalle1is f6 _ s_last6))
      (s2_after place (eq-eqb place place refl)
      (cover_at heading Patterns (notes f1) (Dsb 0 ishst)) (cover_at heading Patterns (notes f2) (Write 0 place 0))
      (cover_at heading Patterns (notes f3) (Dsb 0 ishst)) (cover_at heading Patterns (notes f4) (Tlbi 0 Ipas2e1is page))
      (cover_at heading Patterns (notes f5) (Dsb 0 ish)) (cover_at heading Patterns (notes f6) (Tlbi 0 Vmalle1is 0))
      (cover_at heading Patterns (notes f7) (Dsb 0 ish))
      (top_at heading Patterns (notes f1) (Dsb 0 ishst)) (top_at heading Patterns (notes f2) (Write 0 place 0))
      (top_at heading Patterns (notes f3) (Dsb 0 ishst)) (top_at heading Patterns (notes f4) (Tlbi 0 Ipas2e1is page))
      (top_at heading Patterns (notes f5) (Dsb 0 ish)) (top_at heading Patterns (notes f6) (Tlbi 0 Vmalle1is 0))
      (top_at heading Patterns (notes f7) (Dsb 0 ish))
      (suc (length (notes f1))) (suc (length (notes f2))) (suc (length (notes f3))) (suc (length (notes f4)))
      (suc (length (notes f5))) (suc (length (notes f6))) (suc (length (notes f7))) page half_cover second_cover)

  s2_clear : (q : ℕ) → page_of q ≡ s2_root → (c : Bool) → (q == place) ≡ c
      → held_at heading Patterns (notes (s2_round place block page h)) s2_node q ≡ None
  s2_clear q at true e =
      subst (λ (x : ℕ). held_at heading Patterns (notes (s2_round place block page h)) s2_node x ≡ None)
      (sym (eqb-true q place e)) s_held8
  s2_clear q at false e = s8.clear.s2 q at (λ is. true≢false (sym (eq-eqb q place is) ∙ e))

  pub s2_whole : Whole (s2_round place block page h)
  s2_whole = record {
    stands = s8.stands;
    clear = λ except. record {
      el2 = λ q at apart. s8.clear.el2 q at (λ is. el2_is_not_s2 (sym (other_page q place el2_root s2_root is at inside)));
      s2 = λ q at apart. s2_clear q at (q == place) refl;
    };
  }
