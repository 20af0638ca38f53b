-- What an event leaves of a view, and events that change nothing in it.
use Rattle.bbm_replay.proofs.Common.{broken, kept_next, touches, EntryStands, View, Laws, Told, Apart, state_of}
use Rattle.bbm_replay.proofs.Common.{waiting}
use Rattle.bbm_rules.proofs.Common.{◌≡◌, ℕ, true, false, List, ◌∷◌, Some, None, refl, sym, ◌∙◌, true≢false}
use Rattle.bbm_rules.proofs.Common.{fits_heading, attached_by, changes, Patterns, Noted, Heading, Event, Dmb, Isb, Msr}
use Rattle.bbm_rules.proofs.Common.{Lock, Unlock, page_of, Node}
use Rattle.bbm_replay_trees.specs.TreeEvents.{leaves_trees}
use Rattle.bbm_replay_trees.specs.Told.{SameFresh, SameNull, SameValues}
use Rattle.bbm_replay_trees.specs.Told as told
use Rattle.bbm_replay.proofs.Moves.{Same, SameNodes, SamePages, SameTracked, is_quiet}
use Rattle.bbm_replay.proofs.Aparts.{apart_same}
use Rattle.bbm_replay.proofs.Entries.{carried, entry_same}

-- what an event that changes no value, page or tree is to the definitions
pub record Plain (e : Event) : Type 0 where
  pub values : (changes e).values ≡ false
  pub inits : (changes e).inits ≡ false
  pub nulls : (changes e).nulls ≡ false
  pub trees : leaves_trees e ≡ true
  pub unattached : (heading : Heading) (ns : List Noted) → attached_by heading Patterns ns e ≡ None

plain_of : (e : Event) → is_quiet e ≡ true → Plain e
plain_of (Dmb pe dsb) k = record { values = refl; inits = refl; nulls = refl; trees = refl; unattached = λ heading ns. refl }
plain_of (Isb pe) k = record { values = refl; inits = refl; nulls = refl; trees = refl; unattached = λ heading ns. refl }
plain_of (Msr pe reg value) k = record { values = refl; inits = refl; nulls = refl; trees = refl; unattached = λ heading ns. refl }
plain_of (Lock pe lock) k = record { values = refl; inits = refl; nulls = refl; trees = refl; unattached = λ heading ns. refl }
plain_of (Unlock pe lock) k = record { values = refl; inits = refl; nulls = refl; trees = refl; unattached = λ heading ns. refl }
plain_of e k = absurd (true≢false (sym k))

untouched : (e : Event) (a : ℕ) → is_quiet e ≡ true → touches a e ≡ false
untouched (Dmb pe dsb) a k = refl
untouched e a k = cc

module _ {heading : Heading} (laws : Laws heading) {h : List Event} {old : View} (new : View) (t : Told heading h old)
    (e : Event) (fits : fits_heading heading e ≡ true) (unbroken : broken heading Patterns h e ≡ None) where
  -- an event that initialises no page
  pub told_next : (changes e).inits ≡ false → SameTracked old new → SameValues (e ∷ h) new.value
      → told.SameNodes heading (e ∷ h) new.node → SameFresh heading (e ∷ h) new.fresh → SameNull (e ∷ h) new.null
      → Apart new → ((n : Node) (a : ℕ) → new.node (page_of a) ≡ Some n
      → EntryStands heading (e ∷ h) n.kind n.level a (state_of new n.kind n.level a) (waiting new a))
      → ((a : ℕ) → new.node (page_of a) ≡ None → new.marks a ≡ None) → Told heading (e ∷ h) new
  told_next inits tracking values nodes fresh null apart entries outside = record {
    proper = t.proper;
    kept = kept_next heading Patterns h e t.kept unbroken;
    fit = rw (fits, t.fit) refl;
    values = values;
    nodes = nodes;
    fresh = fresh;
    null = null;
    known = λ p. tracking.known p ∙ laws.pages.same_known h old e inits t.known p;
    pages = tracking.pages ∙ t.pages ∙ sym (laws.pages.same_count h e inits);
    tracked = λ p. tracking.tracked p ∙ t.tracked p ∙ sym (tracking.known p);
    apart = apart;
    entries = entries;
    outside = outside;
  }

  -- an event that changes no value, page or tree
  pub told_plain : Plain e → ((a : ℕ) → new.value a ≡ old.value a) → ((a : ℕ) → new.marks a ≡ old.marks a)
      → SameNodes old new → SamePages old new → SameTracked old new
      → ((n : Node) (a : ℕ) → old.node (page_of a) ≡ Some n
      → EntryStands heading (e ∷ h) n.kind n.level a (state_of new n.kind n.level a) (waiting new a))
      → Told heading (e ∷ h) new
  told_plain plain value marks nodes roles tracking entries =
      let kept = kept_next heading Patterns h e t.kept unbroken in
      told_next plain.inits tracking (λ a. value a ∙ laws.values.others h old e plain.values t.values a)
      (λ p. nodes p ∙ laws.nodes.others h old e (laws.proper t.proper) kept plain.trees t.nodes p)
      (λ p. roles.fresh p ∙ laws.fresh.others h old e kept plain.inits plain.nulls
      (plain.unattached heading (told.notes heading h)) t.fresh p)
      (λ p. roles.null p ∙ laws.pages.same_null h old e plain.nulls t.null p)
      (apart_same old new t.apart nodes roles tracking.tracked) (λ n a is. entries n a (sym (nodes _) ∙ is))
      (λ a is. marks a ∙ t.outside a (sym (nodes _) ∙ is))

-- an event that changes nothing
pub after_quiet : {heading : Heading} (laws : Laws heading) {h : List Event} (v : View) → Told heading h v → (e : Event)
    → is_quiet e ≡ true → fits_heading heading e ≡ true → broken heading Patterns h e ≡ None → Told heading (e ∷ h) v
after_quiet laws v t e quiet fits unbroken =
    told_plain laws v t e fits unbroken (plain_of e quiet) (λ a. refl) (λ a. refl) (λ p. refl)
    (record { fresh = λ p. refl; null = λ p. refl }) (record { tracked = λ p. refl; known = λ p. refl; pages = refl })
    (λ n a is. carried laws v t e n a is (untouched e a quiet) refl refl (λ q b c p. refl))

-- where nothing changed, after no event more
pub told_same : {heading : Heading} (laws : Laws heading) {h : List Event} {old new : View} → Told heading h old
    → Same old new → Told heading h new
told_same laws {old = old} {new = new} t same = record {
  proper = t.proper;
  kept = t.kept;
  fit = t.fit;
  values = λ a. same.map.value a ∙ t.values a;
  nodes = λ p. same.nodes p ∙ t.nodes p;
  fresh = λ p. same.roles.fresh p ∙ t.fresh p;
  null = λ p. same.roles.null p ∙ t.null p;
  known = λ p. same.tracking.known p ∙ t.known p;
  pages = same.tracking.pages ∙ t.pages;
  tracked = λ p. same.tracking.tracked p ∙ t.tracked p ∙ sym (same.tracking.known p);
  apart = apart_same old new t.apart same.nodes same.roles same.tracking.tracked;
  entries = λ n a is.
      let state : state_of old n.kind n.level a ≡ state_of new n.kind n.level a
      = cc (same.map.value a, same.map.marks a) in
      entry_same laws (t.entries n a (sym (same.nodes _) ∙ is)) state (λ q. same.map.pends q a);
  outside = λ a is. same.map.marks a ∙ t.outside a (sym (same.nodes _) ∙ is);
}
