-- The tags that were ever readable, and those of them that a TLBI takes whole.
use Rattle.bbm_idle.proofs.Common.{Patterns, AreTaken, is_taken, takes_of}
use Rattle.bbm_rules.proofs.Common.{◌≡◌, ℕ, ◌+◌, add-one, Bool, true, false, cond, ◌&&◌, ◌||◌, eqb, List, [], ◌∷◌}
use Rattle.bbm_rules.proofs.Common.{Option, Some, None, refl, sym, ap, ◌∙◌, flat_map, filter_map, cons_option}
use Rattle.bbm_rules.proofs.Common.{and_parts, eqb-true, or_left, list_any-append, any_finds, any_found, Heading, Event}
use Rattle.bbm_rules.proofs.Common.{Tag, Tlbi, TlbiOp, Scope, takes_whole_tag, changes, same_tag, any, below, if_so}
use Rattle.bbm_rules.proofs.Common.{named_scope, vmid_of, first_pages, Reading, distinct, ever_read, kept_at}
use Rattle.bbm_rules.proofs.Common.{readings, tag_for, takes_tag, or-false, or_comm}
use Rattle.bbm_idle.specs.Finding.{IsKnown, passes, taken_passes}
use Rattle.bbm_idle.proofs.FindLists.{any_flat}
use mathlib.Core.Bool.{or_assoc, or_self_left}
use Rattle.bbm_lemmas.proofs.Tests.{any_never, any_same}
use Rattle.bbm_oracle_tags.proofs.MomentLemmas.{same-readings}
use Rattle.bbm_rules.proofs.TagLaw.{no_reading}

-- ---- one more reading

module _ (decides : (g k : Tag) → same_tag g k ≡ true → g ≡ k) where
  same_reading : (s r : Reading) → (same_tag s.tag r.tag && eqb s.root r.root) ≡ true → s ≡ r
  same_reading s r k =
      let parts = and_parts (same_tag s.tag r.tag) (eqb s.root r.root) k in
      ap (λ (g : Tag). record { tag = g; root = s.root }) (decides s.tag r.tag parts.0)
      ∙ ap (λ (n : ℕ). record { tag = r.tag; root = n }) (eqb-true s.root r.root parts.1)

  -- a reading that is in the list adds nothing
  pub known_already : (test : Reading → Bool) (rs : List Reading) (r : Reading)
      → any (λ s. same_tag s.tag r.tag && eqb s.root r.root) rs ≡ true → any test rs ≡ (any test rs || test r)
  known_already test rs r k = by_case (test r) refl
    where
      by_case : (b : Bool) → test r ≡ b → any test rs ≡ (any test rs || b)
      by_case true e =
          let f = any_found (λ s. same_tag s.tag r.tag && eqb s.root r.root) rs k in
          let here : any test rs ≡ true = any_finds test rs f.0 f.1 (ap test (same_reading f.0 r f.2) ∙ e) in
          here ∙ sym (or_left (any test rs) true here)
      by_case false e = sym (or-false (any test rs))

  -- each tag once: a test of some tag says the same
  pub any_distinct : (test : Tag → Bool) (tags : List Tag) → any test (distinct tags) ≡ any test tags
  any_distinct test [] = refl
  any_distinct test (tag ∷ tags) = by_case (any (same_tag tag) tags) refl (any_distinct test tags)
    where
      there : any (same_tag tag) tags ≡ true → (b : Bool) → test tag ≡ b → any test tags ≡ (b || any test tags)
      there k true e =
          let f = any_found (same_tag tag) tags k in
          any_finds test tags f.0 f.1 (ap test (sym (decides tag f.0 f.2)) ∙ e)
      there k false e = refl

      by_case : (b : Bool) → any (same_tag tag) tags ≡ b → any test (distinct tags) ≡ any test tags
          → any test (cond b (distinct tags) (tag ∷ distinct tags)) ≡ (test tag || any test tags)
      by_case true k rest = rest ∙ there k (test tag) refl
      by_case false k rest = ap (λ (b : Bool). test tag || b) rest

-- ---- what was ever readable, after one more event

any_for : (root : ℕ) (test : Tag → Bool) (rs : List Reading) → any test (filter_map (tag_for root) rs) ≡ any (passes root test) rs
any_for root test [] = refl
any_for root test (r ∷ rs) = by_case (eqb r.root root) (any_for root test rs)
  where
    by_case : (b : Bool) → any test (filter_map (tag_for root) rs) ≡ any (passes root test) rs
        → any test (cons_option (if_so b r.tag) (filter_map (tag_for root) rs)) ≡ ((b && test r.tag) || any (passes root test) rs)
    by_case true rest = ap (λ (b : Bool). test r.tag || b) rest
    by_case false rest = rest

-- what is readable at some PE
abbrev read_now : Heading → List Event → (Reading → Bool) → Bool
read_now heading h test = any (λ p. any test (readings heading h p)) (below heading.pes)

-- one more PE
pub read_more : (heading : Heading) (h : List Event) (number : ℕ) (test : Reading → Bool) (start before now : Bool)
    → before ≡ (start || any (λ p. any test (readings heading h p)) (below number))
    → now ≡ (before || any test (readings heading h number))
    → now ≡ (start || any (λ p. any test (readings heading h p)) (below (number + 1)))
read_more heading h number test start before now old new =
    rw add-one (new ∙ ap (λ (b : Bool). b || any test (readings heading h number)) old
    ∙ or_assoc start (any (λ p. any test (readings heading h p)) (below number)) (any test (readings heading h number))
    ∙ ap (λ (b : Bool). start || b)
    (or_comm (any (λ p. any test (readings heading h p)) (below number)) (any test (readings heading h number))))

ever_more : (heading : Heading) (e : Event) (h : List Event) (root : ℕ) (test : Tag → Bool)
    → any test (ever_read heading root (e ∷ h)) ≡ (read_now heading (e ∷ h) (passes root test) || any test (ever_read heading root h))
ever_more heading e h root test =
    list_any-append test (flat_map (λ p. filter_map (tag_for root) (readings heading (e ∷ h) p)) (below heading.pes)) (ever_read heading root h)
    ∙ ap (λ (b : Bool). b || any test (ever_read heading root h))
    (any_flat (λ p. filter_map (tag_for root) (readings heading (e ∷ h) p)) test (below heading.pes)
    ∙ any_same (λ p. any test (filter_map (tag_for root) (readings heading (e ∷ h) p))) (λ p. any (passes root test) (readings heading (e ∷ h) p))
    (below heading.pes) (λ p. any_for root test (readings heading (e ∷ h) p)))

-- where what is readable at each PE is added
pub known_more : (heading : Heading) (e : Event) (h : List Event) (events : List Event) (old new : List Reading) → events ≡ e ∷ h
    → IsKnown heading h old
    → ((test : Reading → Bool) → any test new ≡ (any test old || read_now heading events test))
    → IsKnown heading (e ∷ h) new
known_more heading e h events old new are known added = λ root test.
    added (passes root test)
    ∙ ap (λ (b : Bool). b || read_now heading events (passes root test)) (known root test)
    ∙ ap (λ (es : List Event). any test (ever_read heading root h) || read_now heading es (passes root test)) are
    ∙ or_comm (any test (ever_read heading root h)) (read_now heading (e ∷ h) (passes root test))
    ∙ sym (ever_more heading e h root test)

read_before : (heading : Heading) (h : List Event) (root : ℕ) (test : Tag → Bool)
    → (read_now heading h (passes root test) || any test (ever_read heading root h)) ≡ any test (ever_read heading root h)
read_before heading [] root test =
    ap (λ (b : Bool). b || false)
    (any_same (λ p. any (passes root test) (readings heading [] p)) (λ p. false) (below heading.pes)
    (λ p. ap (λ (rs : List Reading). any (passes root test) rs) (no_reading heading.words.inorder heading.world p)) ∙ any_never (below heading.pes))
read_before heading (e ∷ h) root test =
    ap (λ (b : Bool). read_now heading (e ∷ h) (passes root test) || b) (ever_more heading e h root test)
    ∙ or_self_left (read_now heading (e ∷ h) (passes root test)) (any test (ever_read heading root h))
    ∙ sym (ever_more heading e h root test)

pub known_still : (heading : Heading) (e : Event) (h : List Event) (known : List Reading)
    → ((changes e).roots || (changes e).registers) ≡ false → IsKnown heading h known → IsKnown heading (e ∷ h) known
known_still heading e h known k is = λ root test.
    is root test ∙ sym (read_before heading h root test)
    ∙ ap (λ (b : Bool). b || any test (ever_read heading root h))
    (any_same (λ p. any (passes root test) (readings heading h p)) (λ p. any (passes root test) (readings heading (e ∷ h) p)) (below heading.pes)
    (λ p. ap (λ (rs : List Reading). any (passes root test) rs) (sym (same-readings heading e h p k))))
    ∙ sym (ever_more heading e h root test)

-- ---- what a TLBI takes

of_root : (scope : Scope) (vmid : Option ℕ) (root : ℕ) (test : ℕ → Tag → Bool) (r : Reading)
    → is_taken scope vmid root (λ s. test s.root s.tag) r ≡ passes root (λ tag. takes_whole_tag scope vmid tag && test root tag) r
of_root scope vmid root test r = by_case (eqb r.root root) refl (takes_whole_tag scope vmid r.tag)
  where
    by_case : (b : Bool) → eqb r.root root ≡ b → (t : Bool) → ((b && t) && test r.root r.tag) ≡ (b && (t && test root r.tag))
    by_case true e true = ap (λ (n : ℕ). test n r.tag) (eqb-true r.root root e)
    by_case true e false = refl
    by_case false e t = refl

-- where it names a scope
pub taken_of : (heading : Heading) (h : List Event) (pe : ℕ) (op : TlbiOp) (xt : ℕ) (scope : Scope) (vmid : Option ℕ)
    (pages : List ℕ) (known taken : List Reading) → IsKnown heading h known
    → named_scope heading h pe op xt ≡ Some scope → vmid ≡ vmid_of heading h pe → pages ≡ first_pages h
    → ((test : Reading → Bool) → any test taken ≡ any (λ page. any (is_taken scope vmid page test) known) pages)
    → AreTaken heading h (Tlbi pe op xt) taken
taken_of heading h pe op xt scope vmid pages known taken is named under are told = λ test.
    told (λ r. test r.root r.tag)
    ∙ any_same (λ page. any (is_taken scope vmid page (λ s. test s.root s.tag)) known) (taken_passes heading h (Tlbi pe op xt) test) pages
    (λ page. any_same (is_taken scope vmid page (λ s. test s.root s.tag)) (passes page (λ tag. takes_whole_tag scope vmid tag && test page tag)) known
    (of_root scope vmid page test)
    ∙ is page (λ tag. takes_whole_tag scope vmid tag && test page tag)
    ∙ any_same (λ tag. takes_whole_tag scope vmid tag && test page tag) (λ tag. takes_tag heading (Tlbi pe op xt) h tag && test page tag)
    (ever_read heading page h) (λ tag. ap (λ (b : Bool). b && test page tag) (whole tag)))
    ∙ ap (λ (ps : List ℕ). any (taken_passes heading h (Tlbi pe op xt) test) ps) are
  where
    whole : (tag : Tag) → takes_whole_tag scope vmid tag ≡ takes_tag heading (Tlbi pe op xt) h tag
    whole tag =
        ap (λ (v : Option ℕ). takes_whole_tag scope v tag) under
        ∙ sym (ap (λ (o : Option Scope). elim o [ None ↦ false | Some s ↦ takes_whole_tag s (vmid_of heading h pe) tag ]) named)

-- an event that takes no tag
untaken : (heading : Heading) (h : List Event) (e : Event) (test : ℕ → Tag → Bool) (pages : List ℕ)
    → ((tag : Tag) → takes_tag heading e h tag ≡ false) → false ≡ any (taken_passes heading h e test) pages
untaken heading h e test pages none =
    sym (any_same (taken_passes heading h e test) (λ page. false) pages
    (λ page. any_same (λ tag. takes_tag heading e h tag && test page tag) (λ tag. false) (ever_read heading page h)
    (λ tag. ap (λ (b : Bool). b && test page tag) (none tag)) ∙ any_never (ever_read heading page h)) ∙ any_never pages)

pub taken_unnamed : (heading : Heading) (h : List Event) (pe : ℕ) (op : TlbiOp) (xt : ℕ) → named_scope heading h pe op xt ≡ None
    → AreTaken heading h (Tlbi pe op xt) []
taken_unnamed heading h pe op xt named = λ test. untaken heading h (Tlbi pe op xt) test (first_pages h)
    (λ tag. ap (λ (o : Option Scope). elim o [ None ↦ false | Some s ↦ takes_whole_tag s (vmid_of heading h pe) tag ]) named)

pub taken_other : (heading : Heading) (h : List Event) (e : Event) → ((pe : ℕ) (op : TlbiOp) (xt : ℕ) → e ≡ Tlbi pe op xt → ⊥)
    → AreTaken heading h e []
taken_other heading h (Tlbi pe op xt) none = absurd (none pe op xt refl)
taken_other heading h e none = λ test. untaken heading h e test (first_pages h) (λ tag. refl)

-- what is kept of it
pub takes_kept : ((g k : Tag) → same_tag g k ≡ true → g ≡ k) → (heading : Heading) (h : List Event) (e : Event) (p : ℕ) (taken : List Reading)
    → AreTaken heading h e taken
    → any (λ r. kept_at heading Patterns p r.root r.tag h) taken ≡ any (takes_of heading h e p) (first_pages h)
takes_kept decides heading h e p taken are =
    are (λ page tag. kept_at heading Patterns p page tag h)
    ∙ any_same (taken_passes heading h e (λ page tag. kept_at heading Patterns p page tag h)) (takes_of heading h e p) (first_pages h)
    (λ page. sym (any_distinct decides (λ tag. takes_tag heading e h tag && kept_at heading Patterns p page tag h) (ever_read heading page h)))
