-- What is kept beside the events of a history, after one more.
use Rattle.bbm_rules.proofs.Common.{◌≡◌, ℕ, ◌+◌, ◌<◌, ◌&&◌, ◌||◌, ◌==◌, not, Bool, true, false, List, [], ◌∷◌, ◌++◌, length}
use Rattle.bbm_rules.proofs.Common.{take, get_or, refl, sym, ◌∙◌, ap, subst, among, or-false, eqb-true, Trust}
use Rattle.bbm_rules.proofs.Common.{list_any-append, Heading, Noted, Event, Node, any}
use Rattle.bbm_rules.specs.Mapped.{initialises, is_clean}
use Rattle.bbm_rules.specs.Tree.{tree}
use Rattle.bbm_lemmas.proofs.Elements.{taken_more}
use Rattle.bbm_oracle_patterns.specs.Kept.{note_of, notes_of}
use Rattle.bbm_oracle_trees.specs.Links.{leaves}
use Rattle.bbm_oracle_trees.specs.MappedIn.{mapped_in}
use Rattle.bbm_oracle_trees.specs.Past.{Past, notes}
use Rattle.bbm_oracle_trees.specs.TreesOf.{AreTreesOf, OneBehind}
use Rattle.bbm_oracle_trees.specs.declared.trees.Trees.{Trees}
use Rattle.bbm_oracle_trees.proofs.Linking.{trees_stay}

-- ---- a list without the numbers that pass a test, one number after another

module _ (test : ℕ → Bool) (xs left : List ℕ) (i x : ℕ) (lt : i < length xs) (is : x ≡ get_or xs i x)
    (before : (q : ℕ) → among q left ≡ (among q (take i xs) && not (test q))) where
  one_more : (q : ℕ) → among q (take (i + 1) xs) ≡ (among q (take i xs) || (x == q || false))
  one_more q = ap (among q) (taken_more xs i x lt is) ∙ list_any-append (λ (m : ℕ). m == q) (take i xs) (x ∷ [])

  pub sift_keeps : test x ≡ false → (q : ℕ) → among q (left ++ x ∷ []) ≡ (among q (take (i + 1) xs) && not (test q))
  sift_keeps passes q =
      list_any-append (λ (m : ℕ). m == q) left (x ∷ [])
      ∙ ap (λ (b : Bool). b || (x == q || false)) (before q)
      ∙ (by (among q (take i xs)) (x == q) refl ∙ ap (λ (b : Bool). b && not (test q)) (sym (one_more q)))
    where
      by : (a b : Bool) → (x == q) ≡ b → ((a && not (test q)) || (b || false)) ≡ ((a || (b || false)) && not (test q))
      by true true e =
          let fails : test q ≡ false = ap test (sym (eqb-true x q e)) ∙ passes in
          ap (λ (t : Bool). not t || true) fails ∙ sym (ap not fails)
      by true false e = or-false (not (test q))
      by false true e = let fails : test q ≡ false = ap test (sym (eqb-true x q e)) ∙ passes in sym (ap not fails)
      by false false e = refl

  pub sift_drops : test x ≡ true → (q : ℕ) → among q left ≡ (among q (take (i + 1) xs) && not (test q))
  sift_drops passes q =
      before q ∙ (by (among q (take i xs)) (x == q) refl ∙ ap (λ (b : Bool). b && not (test q)) (sym (one_more q)))
    where
      by : (a b : Bool) → (x == q) ≡ b → (a && not (test q)) ≡ ((a || (b || false)) && not (test q))
      by true b e = refl
      by false true e = let passed : test q ≡ true = ap test (sym (eqb-true x q e)) ∙ passes in sym (ap not passed)
      by false false e = refl

-- one test more
pub sift_more : {A : Type 0} (test : A → Bool) (xs : List A) (i : ℕ) (x : A) (all mid left : Bool) → i < length xs → x ≡ get_or xs i x
    → mid ≡ (all && not (any test (take i xs))) → left ≡ (mid && not (test x))
    → left ≡ (all && not (any test (take (i + 1) xs)))
sift_more {A} test xs i x all mid left lt is before now =
    now ∙ ap (λ (b : Bool). b && not (test x)) before
    ∙ (by all (any test (take i xs)) (test x)
    ∙ ap (λ (b : Bool). all && not b) (sym (ap (any test) (taken_more xs i x lt is) ∙ list_any-append test (take i xs) (x ∷ []))))
  where
    by : (a b c : Bool) → ((a && not b) && not c) ≡ (a && not (b || (c || false)))
    by true true c = refl
    by true false true = refl
    by true false false = refl
    by false b c = refl

-- ---- the trees, the fresh and the clean pages

module _ (heading : Heading) (trust : Trust) (old : Trees) where
  -- the clean pages that are made of the old ones
  abbrev AreClean : List Noted → Event → List Node → List ℕ → Type 0
  AreClean now e nodes pages = heading.words.isolated ≡ true → (page : ℕ) → among page pages
      ≡ ((initialises page e || among page old.clean.items) && not (mapped_in heading trust now page nodes))

  -- where the event leaves the trees
  abbrev Left : Trees → List Noted → Event → Type 0
  Left new now e = leaves heading trust now old.nodes.items e ≡ true → new.nodes.items ≡ old.nodes.items
      → new.fresh.items ≡ old.fresh.items → AreClean now e old.nodes.items new.clean.items → AreTreesOf heading trust now new

  module _ (h : List Noted) (n : Noted) (before : AreTreesOf heading trust h old) where
    clean_more : (nodes : List Node) (pages : List ℕ) → nodes ≡ tree heading trust (n ∷ h)
        → AreClean (n ∷ h) n.event nodes pages
        → heading.words.isolated ≡ true → (page : ℕ) → among page pages ≡ is_clean heading trust (n ∷ h) page
    clean_more nodes pages are made on page =
        made on page
        ∙ ap (λ (b : Bool). (initialises page n.event || b) && not (mapped_in heading trust (n ∷ h) page nodes)) (before.clean on page)
        ∙ ap (λ (ns : List Node). (initialises page n.event || is_clean heading trust h page) && not (mapped_in heading trust (n ∷ h) page ns)) are

    left_here : (new : Trees) → Left new (n ∷ h) n.event
    left_here new left same_nodes same_fresh made =
        let stay = trees_stay heading trust h n old.nodes.items old.fresh.items left (before.nodes, before.fresh) in
        record {
          nodes = same_nodes ∙ stay.0;
          fresh = λ page. ap (λ (pages : List ℕ). among page pages) same_fresh ∙ stay.1 page;
          clean = clean_more old.nodes.items new.clean.items stay.0 made;
        }

module _ (past : Past) (e : Event) (old : Trees) (behind : OneBehind past e old) where
  pub left_trees : (new : Trees) → Left past.heading past.trust old new (notes past) e
  left_trees new =
      let n : Noted = note_of (length behind.older) behind.newest in
      subst (λ (now : List Noted). Left past.heading past.trust old new now e) (sym (ap notes_of behind.split))
      (subst (λ (x : Event). Left past.heading past.trust old new (n ∷ notes_of behind.older) x) behind.is
      (left_here past.heading past.trust old (notes_of behind.older) n behind.before new))
