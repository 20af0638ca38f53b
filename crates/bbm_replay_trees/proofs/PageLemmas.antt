-- The fresh pages after an event, and what else is known of pages and values.
use Rattle.bbm_rules.proofs.Common.{◌≡◌, ℕ, ◌+◌, not, Bool, true, false, cond, ◌&&◌, ◌||◌, ◌==◌, List, ◌∷◌, length}
use Rattle.bbm_rules.proofs.Common.{Option, None, is_none, refl, sym, ◌∙◌, ap, arith, eqb-true, Event, Init, Null}
use Rattle.bbm_rules.proofs.Common.{attached_by, keeps, changes, Patterns, among, with_number, is_fresh, may_be_fresh}
use Rattle.bbm_rules.proofs.Common.{Node, in_tree, and_comm}
use Rattle.bbm_events.specs.Heading.{Heading}
use Rattle.bbm_replay_trees.specs.BelowTrees.{Below}
use Rattle.bbm_replay_trees.specs.Told.{SameFresh, SameNodes, notes}
use Rattle.bbm_lemmas.proofs.Numbers.{same_swapped}
use Rattle.bbm_rules.proofs.ChangesLaw.{fresh_kept}

-- ---- the initialised pages with one more

pub known_more : (ms : List ℕ) (page p : ℕ) (known : Bool) → known ≡ among p ms
    → (p == page || known) ≡ among p (with_number page ms)
known_more ms page p known same = by (among page ms) (p == page) refl refl
  where
    by : (c d : Bool) → among page ms ≡ c → (p == page) ≡ d → (d || known) ≡ among p (cond c ms (page ∷ ms))
    by true true k e = sym (ap (λ x. among x ms) (eqb-true p page e) ∙ k)
    by true false k e = same
    by false d k e = ap (λ c. d || c) same ∙ ap (λ c. c || among p ms) (sym e ∙ same_swapped p page)

pub count_more : (ms : List ℕ) (page pages : ℕ) (known : Bool) → known ≡ among page ms → pages ≡ length ms
    → length (with_number page ms) ≡ pages + cond known 0 1
count_more ms page pages known same count = rw same (by (among page ms))
  where
    by : (c : Bool) → length (cond c ms (page ∷ ms)) ≡ pages + cond c 0 1
    by true = omega arith
    by false = omega arith

module _ (heading : Heading) (b : Below heading) (h : List Event) (fresh : ℕ → Bool) (same : SameFresh heading h fresh) where
  -- the fresh pages after an event that attaches nothing
  fresh_by : (e : Event) → keeps heading Patterns (e ∷ h) ≡ true → attached_by heading Patterns (notes heading h) e ≡ None
      → (p : ℕ) → may_be_fresh e p (fresh p) ≡ is_fresh heading Patterns (notes heading (e ∷ h)) p
  fresh_by e kept none p =
      ap (may_be_fresh e p) (same p)
      ∙ sym (b.fresh_step.others h e kept p (λ m a in_page. b.node_step.unattached (notes heading h) e none m a))

  pub others : (e : Event) → keeps heading Patterns (e ∷ h) ≡ true → (changes e).inits ≡ false → (changes e).nulls ≡ false
      → attached_by heading Patterns (notes heading h) e ≡ None → SameFresh heading (e ∷ h) fresh
  others e kept inits nulls none p = sym (fresh_kept e p (fresh p) inits nulls) ∙ fresh_by e kept none p

  pub after_init : (next_fresh : ℕ → Bool) (pe page : ℕ) → keeps heading Patterns (Init pe page ∷ h) ≡ true
      → ((p : ℕ) → next_fresh p ≡ (p == page || fresh p)) → SameFresh heading (Init pe page ∷ h) next_fresh
  after_init next_fresh pe page kept is p =
      is p ∙ (ap (λ c. c || fresh p) (same_swapped p page) ∙ fresh_by (Init pe page) kept refl p)

  pub after_null : (next_fresh : ℕ → Bool) (pe page : ℕ) → keeps heading Patterns (Null pe page ∷ h) ≡ true
      → ((p : ℕ) → next_fresh p ≡ (fresh p && not (p == page))) → SameFresh heading (Null pe page ∷ h) next_fresh
  after_null next_fresh pe page kept is p =
      is p ∙ (ap (λ c. fresh p && not c) (same_swapped p page)
      ∙ (and_comm (fresh p) (not (page == p)) ∙ fresh_by (Null pe page) kept refl p))

  pub after_attached : (next_fresh : ℕ → Bool) (next_node : ℕ → Option Node) (e : Event) → (changes e).inits ≡ false
      → (changes e).nulls ≡ false → SameNodes heading (e ∷ h) next_node
      → ((p : ℕ) → next_fresh p ≡ (fresh p && is_none (next_node p))) → SameFresh heading (e ∷ h) next_fresh
  after_attached next_fresh next_node e inits nulls nodes is p =
      is p ∙ (ap (λ (o : Option Node). fresh p && is_none o) (nodes p)
      ∙ (ap (λ c. c && not (in_tree heading Patterns (notes heading (e ∷ h)) p))
      (sym (fresh_kept e p (fresh p) inits nulls))
      ∙ ap (λ c. may_be_fresh e p c && not (in_tree heading Patterns (notes heading (e ∷ h)) p)) (same p)))
