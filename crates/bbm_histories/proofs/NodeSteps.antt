-- The node of a page after an event.
use Rattle.bbm_histories.proofs.Common.{Heading, Below, Attaches, InTree, InTreeAfter, Proper, StillHeld}
use Rattle.bbm_rules.proofs.Common.{◌≡◌, ℕ, suc, ◌⊎◌, not, Bool, true, false, cond, ◌==◌, List, [], ◌∷◌, Option, Some}
use Rattle.bbm_rules.proofs.Common.{None, is_some, Contains, refl, sym, ◌∙◌, ap, subst, inl, inr, true≢false, and_from}
use Rattle.bbm_rules.proofs.Common.{eq-eqb, eqb-true, not-true, not_from_false, AllPass-from_list_all, Event, Root}
use Rattle.bbm_rules.proofs.Common.{Unroot, Write, Dsb, attached_by, attached_from, Trust, note, held, every, Noted}
use Rattle.bbm_rules.proofs.Common.{Above, Node, node_of, contains_head, contains_more}
use Rattle.std.proofs.lemmas.List.Elements.{All-contains}
use Rattle.bbm_histories.specs.TreeSteps.{holds_above, is_under, node_where}
use Rattle.bbm_histories.proofs.HeldSteps.{IsDsb}
use Rattle.bbm_histories.proofs.Induction.{Unbroken}
use Rattle.bbm_histories.proofs.Invariants.{Invariants}
use Rattle.bbm_histories.proofs.TreeAfter.{dsb_step, step, still_there}
use Rattle.bbm_histories.proofs.TreeSteps.{OneNode, added, node_is, one_step}

-- ---- what is so of each element

every_from : {X : Type 0} (test : X → Bool) (xs : List X) → ((x : X) → Contains xs x → test x ≡ true) → every test xs ≡ true
every_from test [] all = refl
every_from test (x ∷ xs) all =
    and_from (test x) (every test xs) (all x (contains_head xs x)) (every_from test xs (λ y c. all y (contains_more xs x y c)))

module _ (heading : Heading) (trust : Trust) (x : List Noted) (m : Node) where
  above_held : holds_above heading trust x m ≡ true → StillHeld heading trust x m
  above_held k a c =
      All-contains (λ (y : Above). is_some (held heading trust m.kind y.level y.place x) ≡ true) m.above a
      (AllPass-from_list_all (λ (y : Above). is_some (held heading trust m.kind y.level y.place x)) m.above k) c

  held_each : StillHeld heading trust x m → holds_above heading trust x m ≡ true
  held_each s = every_from (λ (y : Above). is_some (held heading trust m.kind y.level y.place x)) m.above s

-- ---- one page, where its nodes after are those before that pass a test

module _ (heading : Heading) (trust : Trust) (b : Below heading trust) (now h : List Noted) (one : OneNode heading trust h)
    (one_now : OneNode heading trust now) (test : Node → Bool) (page : ℕ) where
  pub filtered : ((m : Node) → m.page ≡ page → InTree heading trust now m → InTree heading trust h m × (test m ≡ true))
      → ((m : Node) → m.page ≡ page → InTree heading trust h m → test m ≡ true → InTree heading trust now m)
      → node_of heading trust now page ≡ node_where test (node_of heading trust h page)
  filtered back on = by (node_of heading trust h page) (node_of heading trust now page) refl refl
    where
      none : (p : Option Node) → node_of heading trust now page ≡ p
          → ((m : Node) → m.page ≡ page → InTree heading trust now m → ⊥) → p ≡ None
      none None k out = refl
      none (Some m) k out = let t = b.tree.taken now page m k in absurd (out m t.1 t.0)

      tested : (m : Node) (c : Bool) → test m ≡ c → (p : Option Node) → node_of heading trust h page ≡ Some m
          → node_of heading trust now page ≡ p → p ≡ cond c (Some m) None
      tested m true c p k l =
          let t = b.tree.taken h page m k in
          sym l ∙ node_is heading trust b now one_now m page (on m t.1 t.0 c) t.1
      tested m false c p k l =
          let t = b.tree.taken h page m k in
          none p l (λ x in_page there. let old = back x in_page there in
          true≢false (sym old.1 ∙ (ap test (one x m old.0 t.0 (in_page ∙ sym t.1)) ∙ c)))

      by : (o p : Option Node) → node_of heading trust h page ≡ o → node_of heading trust now page ≡ p → p ≡ node_where test o
      by (Some m) p k l = tested m (test m) refl p k l
      by None p k l = none p l (λ x in_page there. let old = back x in_page there in
          let found : None ≡ Some x = sym k ∙ node_is heading trust b h one x page old.0 in_page in cc)

every_node : (o : Option Node) → node_where (λ (m : Node). true) o ≡ o
every_node None = refl
every_node (Some m) = refl

-- ---- events

module _ (heading : Heading) (trust : Trust) (b : Below heading trust) (h : List Noted) (i : Invariants heading trust h) where
  after_is : Proper heading → (e : Event) (m : Node) → Attaches heading trust h e m → InTreeAfter heading trust h e m
  after_is proper (Write pe at value) m a = inr a
  after_is proper (Root pe kind lock page) m a = inr a
  after_is proper e m a = absurd a

  no_barrier : (e : Event) (m : Node) → Attaches heading trust h e m → IsDsb e → ⊥
  no_barrier e m a dsb = subst (λ (x : Event). Attaches heading trust h x m) dsb.2 a

  pub node_attached : Proper heading → (e : Event) → Unbroken heading trust h e → (m : Node) → Attaches heading trust h e m
      → node_of heading trust (note heading trust h e ∷ h) m.page ≡ Some m
  node_attached proper e kept m a =
      node_is heading trust b (note heading trust h e ∷ h) (one_step heading trust b h i.odd i.one e kept) m m.page
      ((step heading trust b h i proper e kept (no_barrier e m a) m).1 (after_is proper e m a)) refl

  pub node_stays : Proper heading → (e : Event) → Unbroken heading trust h e → (IsDsb e → ⊥)
      → ((q page : ℕ) → e ≡ Unroot q page → ⊥) → (page : ℕ)
      → ((m : Node) → Attaches heading trust h e m → m.page ≡ page → ⊥)
      → node_of heading trust (note heading trust h e ∷ h) page ≡ node_of heading trust h page
  node_stays proper e kept no_dsb no_unroot page none =
      filtered heading trust b (note heading trust h e ∷ h) h i.one (one_step heading trust b h i.odd i.one e kept)
      (λ (m : Node). true) page (λ m in_page t. (by m in_page (added heading trust b h i.odd i.one e m kept t), refl))
      (λ m in_page t c. still_there heading trust b h i proper e kept no_dsb no_unroot m t)
      ∙ every_node (node_of heading trust h page)
    where
      by : (m : Node) → m.page ≡ page → InTree heading trust h m ⊎ Attaches heading trust h e m → InTree heading trust h m
      by m in_page (inl t) = t
      by m in_page (inr a) = absurd (none m a in_page)

  pub node_after_unroot : Proper heading → (q first : ℕ) → Unbroken heading trust h (Unroot q first) → (page : ℕ)
      → node_of heading trust (note heading trust h (Unroot q first) ∷ h) page
      ≡ node_where (λ (m : Node). not (is_under first m)) (node_of heading trust h page)
  node_after_unroot proper q first kept page =
      filtered heading trust b (note heading trust h (Unroot q first) ∷ h) h i.one
      (one_step heading trust b h i.odd i.one (Unroot q first) kept) (λ (m : Node). not (is_under first m)) page
      (λ m in_page t. let s = (same m).0 t in (s.0, not_from_false (m.root == first) (other m s.1 (m.root == first) refl)))
      (λ m in_page t c. (same m).1 (t, λ is. true≢false (sym (eq-eqb m.root first is) ∙ not-true (m.root == first) c)))
    where
      same : (m : Node)
          → (InTree heading trust (note heading trust h (Unroot q first) ∷ h) m → InTree heading trust h m × (m.root ≡ first → ⊥))
          × (InTree heading trust h m × (m.root ≡ first → ⊥) → InTree heading trust (note heading trust h (Unroot q first) ∷ h) m)
      same m = step heading trust b h i proper (Unroot q first) kept
          (λ d. let apart : Unroot q first ≡ Dsb d.0 d.1 = d.2 in cc) m

      other : (m : Node) → (m.root ≡ first → ⊥) → (c : Bool) → (m.root == first) ≡ c → c ≡ false
      other m apart true c = absurd (apart (eqb-true m.root first c))
      other m apart false c = refl

  pub node_after_dsb : (e : Event) → IsDsb e → Unbroken heading trust h e → (page : ℕ)
      → node_of heading trust (note heading trust h e ∷ h) page
      ≡ node_where (holds_above heading trust (note heading trust h e ∷ h)) (node_of heading trust h page)
  node_after_dsb e dsb kept page =
      let now : List Noted = note heading trust h e ∷ h in
      filtered heading trust b now h i.one (one_step heading trust b h i.odd i.one e kept) (holds_above heading trust now) page
      (λ m in_page t. let s = (dsb_step heading trust b h i e kept dsb m).0 t in (s.0, held_each heading trust now m s.1))
      (λ m in_page t c. (dsb_step heading trust b h i e kept dsb m).1 (t, above_held heading trust now m c))

-- an event that attaches no page attaches no node
pub unattached : (heading : Heading) (trust : Trust) (h : List Noted) (e : Event) → attached_by heading trust h e ≡ None
    → (m : Node) → Attaches heading trust h e m → ⊥
unattached heading trust h (Write pe at value) none m l =
    let some : attached_by heading trust h (Write pe at value)
    ≡ Some (attached_from heading trust h l.parent.kind (suc l.parent.level) (l.next ∷ []))
    = rw (l.is_parent, l.empty, l.table) refl in
    let apart : None ≡ Some (attached_from heading trust h l.parent.kind (suc l.parent.level) (l.next ∷ [])) = sym none ∙ some in cc
unattached heading trust h (Root pe kind lock page) none m l = cc
unattached heading trust h e none m l = absurd l
