use Rattle.bbm_roots.proofs.Common.{◌&&◌, ◌||◌, not, ◌≡◌, ◌∙◌, ap, sym, refl, Bool, nat_eq, ◌+◌, ◌∷◌, true, cond, ℕ, Option, None, Event}
use Rattle.bbm_roots.proofs.Common.{Unroot, Declared, root_at, roots_of, loads_after, standings_after}
use Rattle.bbm_roots.proofs.Common.{is_some, arith, rules, get, index_map_len}
use Rattle.bbm_roots.proofs.Common.{first_reg, second_reg, false, List, Some, Reg}
use Rattle.bbm_roots.proofs.Common.{false≢true, not-true, eq-eqb}
use Rattle.bbm_roots.proofs.Common.{eqb-true, same_swapped, is_root, Heading, Laws, Tag, Held, IndexMap, Leaves, Patterns}
use Rattle.bbm_roots.proofs.Common.{holds_at, left_at, hold_in, left_in, keeps_in}
use Rattle.bbm_lemmas.proofs.Bools.{not_from}
use Rattle.bbm_rules.specs.Tags.{reads}
use Rattle.bbm_histories.proofs.ValueSteps.{root_step, is_root_step}
use Rattle.std.specs.Option.{is_none}
use Rattle.bbm_roots.proofs.RootLists.{retired-length, roots-apart, unlocked}
use Rattle.bbm_rules.proofs.TagPagesLaw.{read_root}
use Rattle.bbm_roots.proofs.Entries.{left-kept}
use Rattle.bbm_roots.proofs.Steps.{keeps_at, moved-stands, reads-holds}
use Rattle.bbm_histories.proofs.Induction.{kept_next}
use Rattle.bbm_roots.proofs.Readable.{loads-stay, reads-stay, standings-stay}
use Rattle.bbm_roots.proofs.Unroots.{unroot_free}
use Rattle.bbm_roots.proofs.roots.Roots.retire.Goals as goal

-- a tag is readable for no root of the page then
unread-after : (heading : Heading) → Laws heading → (h : List Event) (pe page p : ℕ) (g : Tag) →
    reads heading (Unroot pe page ∷ h) p g page ≡ false
unread-after heading laws h pe page p g = not-true _ (not_from _ (λ e.
    let root = read_root heading.words.inorder heading.world (Unroot pe page ∷ h) p page g (laws.readable_tag.sound (Unroot pe page ∷ h) p g page e) in
    false≢true (sym (is_root_step root.0 page (Unroot pe page) h
    ∙ ap (λ (b : Bool). cond b false (is_root h root.0 page)) (eq-eqb page page refl)) ∙ root.1)))

-- the root leaves what it held
left-then : (heading : Heading) → Laws heading → (h : List Event) (pe page : ℕ) → {S : Type 0} (old new : IndexMap ℕ Held S) → Leaves old new page →
    ((g : Tag) (r p : ℕ) → reads heading (Unroot pe page ∷ h) p g r ≡ reads heading h p g r) →
    ((g : Tag) (r p : ℕ) → hold_in old g r p ≡ holds_at heading Patterns p r g h) →
    ((g : Tag) (r p : ℕ) → left_in old g r p ≡ left_at heading Patterns p r g h) →
    (l : Bool) (g : Tag) (r p : ℕ) → keeps_in new l g r p ≡ keeps_at heading l p r g (Unroot pe page ∷ h)
left-then heading laws h pe page old new leaves same held left false g r p =
    let none : nat_eq r page ≡ true → reads heading (Unroot pe page ∷ h) p g r ≡ false =
    λ e. ap (reads heading (Unroot pe page ∷ h) p g) (eqb-true r page e) ∙ unread-after heading laws h pe page p g in
    plain _ _ _ _ _ _ _ (leaves.held g r p) (held g r p) none (same g r p) (reads-holds heading h g r p) (same_swapped page r)
  where
    plain : (new old now before held here swapped : Bool) → new ≡ (old && not (here && true)) → old ≡ held →
        (here ≡ true → now ≡ false) → now ≡ before → (before ≡ true → held ≡ true) → swapped ≡ here →
        new ≡ (now || (held && not (swapped || false)))
    plain new old now before held here swapped is was none stays read same = grind (arith)
left-then heading laws h pe page old new leaves same held left true g r p =
    let is = leaves.left g r p in
    let was = held g r p in
    let left_before = left g r p in
    let swapped = same_swapped page r in
    grind (arith)

pub returns : goal.returns
returns c = λ pe. record {
  taken = λ heading h stands keeps.
      let page = c.args.page in
      let laws = c.laws_below.ensures heading in
      let leaves = c.leave.ensures.left in
      let e : Event = Unroot pe page in
      let free = unroot_free heading laws (laws.proper stands.proper) h stands.kept pe page keeps in
      let there = some-there (root_at h page) free.0 in
      let none : Option Declared = None in
      let stay = laws.bases.stay h e (laws.proper stands.proper) (kept_next heading Patterns h e stands.kept keeps) in
      let same : (p : ℕ) (reg : Reg) → loads_after (e ∷ h) p reg ≡ loads_after h p reg = loads-stay heading h e stay stands.outside in
      let first : (p : ℕ) → loads_after (e ∷ h) p (first_reg heading.world) ≡ loads_after h p (first_reg heading.world) =
      λ p. same p (first_reg heading.world) in
      let second : (p : ℕ) → loads_after (e ∷ h) p (second_reg heading.world) ≡ loads_after h p (second_reg heading.world) =
      λ p. same p (second_reg heading.world) in
      let stood : (p : ℕ) → standings_after (e ∷ h) p ≡ standings_after h p = standings-stay heading h e stay stands.outside in
      let is : is_some (root_at h page) ≡ true = ap (is_some {T = Declared}) there.1 in
      let taken : is_some c.swap_remove.result ≡ true =
      ap (is_some {T = Declared}) (c.swap_remove.ensures.value ∙ stands.declared c.get.result
      ∙ ap (λ (n : ℕ). root_at h n) c.get.ensures.value) ∙ is in
      let one : index_map_len c.swap_remove.new.self + 1 ≡ index_map_len c.args.self.now.declared =
      sym (ap (λ (b : Bool). index_map_len c.swap_remove.new.self + cond b 1 0) taken) ∙ c.swap_remove.ensures.len in
      moved-stands _ stands e keeps refl stands.holders refl refl first second stood (λ p reg. refl)
      (left-then heading laws h pe page c.args.self.now.holds _ leaves (λ g r p. reads-stay heading h e p (first p) (second p) (stood p) g r)
      stands.holds stands.left)
      (left-kept c.args.self.now.holds _ page (λ g. true) leaves) (λ q b g p. refl)
      (λ q. c.swap_remove.ensures.updates.0 q
      ∙ ap (λ (n : ℕ). cond (nat_eq n q) none (get nat_eq c.args.self.now.declared q)) c.get.ensures.value
      ∙ ap (λ (o : Option Declared). cond (nat_eq page q) None o) (stands.declared q)
      ∙ sym (root_step e h q))
      (omega (arith, one, stands.count, retired-length page (roots_of h) (roots-apart h) is))
      (λ known. unlocked h e page None (λ q. refl) refl (stands.locks known));
  room = search rules;
}
  where
    some-there : (o : Option Declared) → is_none o ≡ false → (r : Declared) × (o ≡ Some r)
    some-there None e = absurd (false≢true (sym e))
    some-there (Some r) e = (r, refl)
