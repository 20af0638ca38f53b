-- Pages that are attached.
use Rattle.bbm_replay.proofs.Common.{broken, kept_next, core_in, is_broken, IsIdle, state_from, Kind, touches}
use Rattle.bbm_replay.proofs.Common.{EntryStands, View, Laws, Told, state_of, waiting}
use Rattle.bbm_rules.proofs.Common.{◌≡◌, ℕ, Bool, true, false, List, [], ◌∷◌, Option, Some, None, refl, sym, ◌∙◌, subst}
use Rattle.bbm_rules.proofs.Common.{inl, inr, core_of, Core, fits_heading, Patterns, page_of, Heading, Event, Root}
use Rattle.bbm_rules.proofs.Common.{Node, node_below, nodes_of_root, value_of, arith}
use Rattle.bbm_tree_index.specs.Paths.{Through}
use Rattle.bbm_replay.proofs.Moves.{Alike, Attaches, Grown, SameMap}
use Rattle.bbm_replay.proofs.Aparts.{apart_grown}
use Rattle.bbm_replay.proofs.Cases.{some_or}
use Rattle.bbm_replay.proofs.Entries.{carried, some_pe}
use Rattle.bbm_replay.proofs.Quiet.{told_next}

through_fresh : (fresh : ℕ → Bool) (value : ℕ → ℕ) (places : List ℕ) (n m : Node) → Through fresh value n places m
    → fresh m.page ≡ true
through_fresh fresh value [] n m t = subst (λ (x : Node). fresh x.page ≡ true) t.1 t.0
through_fresh fresh value (place ∷ places) n m t = through_fresh fresh value places (node_below n place t.2) m t.4

pub grown : (old new : View) (starts : List Node) → Attaches old new starts → Grown old new
grown old new starts move = record {
  stays = λ p n is. (move.node p n).1 (inl is);
  comes = λ p n is. elim ((move.node p n).0 is) [
    | inl was ↦ inl was
    | inr came ↦ inr (subst (λ (x : ℕ). old.fresh x ≡ true) came.0
        (through_fresh old.fresh old.value came.1.places came.1.start n came.1.through))
  ];
}

pub core_whole : (o : Option Core) → core_in (state_from o None) ≡ o
core_whole o = grind arith

unbroken_whole : (o : Option Core) → is_broken (state_from o None) ≡ false
unbroken_whole o = grind arith

module _ {heading : Heading} (laws : Laws heading) {h : List Event} {old : View} (new : View) (t : Told heading h old)
    (e : Event) (g : Grown old new) where
  -- a place of a page that was fresh
  planted : (n : Node) (a : ℕ) → old.fresh (page_of a) ≡ true → touches a e ≡ false → new.value a ≡ old.value a
      → new.marks a ≡ None → ((q : ℕ) → IsIdle (new.pends q a))
      → EntryStands heading (e ∷ h) n.kind n.level a (state_of new n.kind n.level a) (waiting new a)
  planted n a fresh untouched value marks idle =
      let level = n.level in
      let same : state_from (core_of n.kind level (value_of h a)) None ≡ state_of new n.kind level a = cc (t.values a, value, marks) in
      subst (λ x. EntryStands heading (e ∷ h) n.kind level a x (waiting new a)) same
      (laws.stays h e n.kind level a _ (waiting new a) (some_pe laws t) untouched
      (laws.begins.fresh h n.kind level a _ (waiting new a) (some_pe laws t) t.kept
      (sym (t.fresh (page_of a)) ∙ fresh) (record {
        core = core_whole (core_of n.kind level (value_of h a));
        unbroken = unbroken_whole (core_of n.kind level (value_of h a));
        idle = idle;
      })))

  pub grown_entry : ((q a : ℕ) → new.marks a ≡ None → IsIdle (new.pends q a)) → (n : Node) (a : ℕ)
      → new.node (page_of a) ≡ Some n → touches a e ≡ false → new.value a ≡ old.value a → new.marks a ≡ old.marks a
      → ((q : ℕ) → Alike (old.pends q a) (new.pends q a))
      → EntryStands heading (e ∷ h) n.kind n.level a (state_of new n.kind n.level a) (waiting new a)
  grown_entry idle n a is untouched value marks alike =
      elim (g.comes (page_of a) n is) [
        | inl was ↦ carried laws new t e n a was untouched value marks alike
        | inr came ↦
            let whole : new.marks a ≡ None = marks ∙ t.outside a (t.apart.fresh_outside (page_of a) came) in
            planted n a came untouched value whole (λ q. idle q a whole)
      ]

pub grown_outside : (old new : View) → Grown old new → (p : ℕ) → new.node p ≡ None → old.node p ≡ None
grown_outside old new g p is = some_or (old.node p)
    (λ n e. let both : None ≡ Some n = sym is ∙ g.stays p n e in absurd cc) (λ e. e)

pub after_root : {heading : Heading} (laws : Laws heading) {h : List Event} {old : View} (new : View)
    → Told heading h old → (pe page : ℕ) (kind : Kind) (lock : Option ℕ)
    → fits_heading heading (Root pe kind lock page) ≡ true → broken heading Patterns h (Root pe kind lock page) ≡ None
    → SameMap old new → Attaches old new (nodes_of_root heading (record { page = page; kind = kind; lock = None }))
    → ((q a : ℕ) → new.marks a ≡ None → IsIdle (new.pends q a)) → Told heading (Root pe kind lock page ∷ h) new
after_root {heading} laws {h} {old} new t pe page kind lock fits unbroken map move idle =
    let e = Root pe kind lock page in
    let kept = kept_next heading Patterns h e t.kept unbroken in
    let g = grown old new (nodes_of_root heading (record { page = page; kind = kind; lock = None })) move in
    let nodes = laws.nodes.root h old new pe page kind lock (laws.proper t.proper) t.fit kept
    t.nodes t.fresh t.values move.node in
    told_next laws new t e fits unbroken refl move.tracking
    (λ a. map.value a ∙ laws.values.others h old e refl t.values a) nodes
    (laws.fresh.attached h old new e refl refl t.fresh nodes move.fresh)
    (λ p. move.null p ∙ laws.pages.same_null h old e refl t.null p)
    (apart_grown old new t.apart g move.fresh move.null move.tracking.tracked)
    (λ n a is. grown_entry laws new t e g idle n a is refl (map.value a) (map.marks a) (λ q. map.pends q a))
    (λ a is. map.marks a ∙ t.outside a (grown_outside old new g (page_of a) is))
