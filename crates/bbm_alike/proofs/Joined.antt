-- The relation holds of the start by any two trusts, of a history and itself, both ways, and through a third.
use Rattle.bbm_rules.proofs.Common.{[], true≢false, ◌≡◌, ℕ, true, false, List, Option, Some, None, is_some, Contains}
use Rattle.bbm_rules.proofs.Common.{refl, sym, ◌∙◌, ap, subst, Heading, Event, Trust, noted, ValidWrite, last_valid}
use Rattle.bbm_rules.proofs.Common.{Noted, page_of, Node, held_at, map, Bool, Tag, ◌||◌, ◌<◌, holds_at, kept_at}
use Rattle.bbm_rules.proofs.Common.{left_at}
use Rattle.bbm_rules.specs.Held.{emptied, empties_tables}
use Rattle.bbm_rules.specs.Notes.{topped}
use Rattle.bbm_rules.specs.Tree.{tree}
use Rattle.bbm_alike.specs.Alike.{Alike, SamePatterns}
use Rattle.bbm_alike.proofs.HeldStep.{last_of}
use Rattle.bbm_rules.proofs.TagEndsLaw.{kept_parts}

module _ (heading : Heading) where
  -- ---- patterns

  same_itself : (place : ℕ) (trust : Trust) (since : List Noted) → SamePatterns heading place trust trust since since
  same_itself place trust since = record {
    writers = λ p q. refl;
    seen_alike = λ p below. refl;
    half_alike = λ p below. refl;
    cleansed_alike = λ p below. refl;
    full_wait = λ p q b below none. refl;
    half_wait = λ p q b below none. refl;
    second_wait = λ p q b below none. refl;
  }

  pub same_turned : (place : ℕ) (one other : Trust) (since since' : List Noted) → SamePatterns heading place one other since since'
      → SamePatterns heading place other one since' since
  same_turned place one other since since' s = record {
    writers = λ p q. sym (s.writers p q);
    seen_alike = λ p below. sym (s.seen_alike p below);
    half_alike = λ p below. sym (s.half_alike p below);
    cleansed_alike = λ p below. sym (s.cleansed_alike p below);
    full_wait = λ p q b below none. sym (s.full_wait p q b below (s.cleansed_alike p below ∙ none));
    half_wait = λ p q b below none. sym (s.half_wait p q b below (s.half_alike p below ∙ none));
    second_wait = λ p q b below none. sym (s.second_wait p q b below (s.cleansed_alike p below ∙ none));
  }

  pub same_through : (place : ℕ) (one middle other : Trust) (x y z : List Noted) → SamePatterns heading place one middle x y
      → SamePatterns heading place middle other y z → SamePatterns heading place one other x z
  same_through place one middle other x y z s t = record {
    writers = λ p q. s.writers p q ∙ t.writers p q;
    seen_alike = λ p below. s.seen_alike p below ∙ t.seen_alike p below;
    half_alike = λ p below. s.half_alike p below ∙ t.half_alike p below;
    cleansed_alike = λ p below. s.cleansed_alike p below ∙ t.cleansed_alike p below;
    full_wait = λ p q b below none. s.full_wait p q b below none
        ∙ t.full_wait p q b below (sym (s.cleansed_alike p below) ∙ none);
    half_wait = λ p q b below none. s.half_wait p q b below none ∙ t.half_wait p q b below (sym (s.half_alike p below) ∙ none);
    second_wait = λ p q b below none. s.second_wait p q b below none
        ∙ t.second_wait p q b below (sym (s.cleansed_alike p below) ∙ none);
  }

  -- ---- histories

  same_kept : (one other : Trust) (h h' : List Event) → Alike heading one other h h' → (p page : ℕ) (tag : Tag) → p < heading.pes
      → kept_at heading one p page tag h ≡ kept_at heading other p page tag h'
  same_kept one other h h' a p page tag below =
      kept_parts heading one p tag page h
      ∙ (ap (λ (b : Bool). b || left_at heading one p page tag h) (a.holds p page tag below)
      ∙ (ap (λ (b : Bool). holds_at heading other p page tag h' || b) (a.left p page tag below)
      ∙ sym (kept_parts heading other p tag page h')))

  pub itself_alike : (trust : Trust) (h : List Event) → Alike heading trust trust h h
  itself_alike trust h = record {
    values = λ place. refl;
    places = refl;
    roots = refl;
    nulls = λ page. refl;
    registers = record { values = λ p reg. refl; standings = λ p. refl };
    locks = λ lock. refl;
    trees = refl;
    fresh = λ page. refl;
    clean = λ page. refl;
    held = λ n place there inside. refl;
    patterns = λ n place w w' there inside some last last'.
        let both : w ≡ w' = let e : Some w ≡ Some w' = sym last ∙ last' in cc in
        subst (λ (v : ValidWrite). SamePatterns heading place trust trust w.since v.since) both (same_itself place trust w.since);
    tops = λ late n place w w' there inside some last last'.
        let both : w ≡ w' = let e : Some w ≡ Some w' = sym last ∙ last' in cc in
        subst (λ (v : ValidWrite). SamePatterns heading place trust trust (map topped w.since) (map topped v.since)) both
        (same_itself place trust (map topped w.since));
    tags = λ root. refl;
    given = refl;
    holds = λ p root tag below. refl;
    left = λ p page tag below. refl;
    tag_wait = λ p q root b tag below holds. refl;
  }

  pub start_alike : (one other : Trust) → Alike heading one other [] []
  unfolding tree
  start_alike one other = record {
    values = λ place. refl;
    places = refl;
    roots = refl;
    nulls = λ page. refl;
    registers = record { values = λ p reg. refl; standings = λ p. refl };
    locks = λ lock. refl;
    trees = refl;
    fresh = λ page. refl;
    clean = λ page. refl;
    held = λ n place there inside. refl;
    patterns = λ n place w w' there inside some last last'. absurd (true≢false (sym some));
    tops = λ late n place w w' there inside some last last'. absurd (true≢false (sym some));
    tags = λ root. refl;
    given = refl;
    holds = λ p root tag below. refl;
    left = λ p page tag below. refl;
    tag_wait = λ p q root b tag below holds. absurd (true≢false (sym holds));
  }

  module _ (one other : Trust) (h h' : List Event) (a : Alike heading one other h h') where
    in_both : (n : Node) → Contains (tree heading other (noted heading other h')) n → Contains (tree heading one (noted heading one h)) n
    in_both n there = subst (λ (ns : List Node). Contains ns n) (sym a.trees) there

    pub turned_alike : Alike heading other one h' h
    turned_alike = record {
      values = λ place. sym (a.values place);
      places = sym a.places;
      roots = sym a.roots;
      nulls = λ page. sym (a.nulls page);
      registers = record { values = λ p reg. sym (a.registers.values p reg); standings = λ p. sym (a.registers.standings p) };
      locks = λ lock. sym (a.locks lock);
      trees = sym a.trees;
      fresh = λ page. sym (a.fresh page);
      clean = λ page. sym (a.clean page);
      held = λ n place there inside. sym (a.held n place (in_both n there) inside);
      patterns = λ n place w w' there inside some last last'.
          same_turned place one other w'.since w.since (a.patterns n place w' w (in_both n there) inside
          (ap is_some (a.held n place (in_both n there) inside) ∙ some) last' last);
      tops = λ late n place w w' there inside some last last'.
          same_turned place one other (map topped w'.since) (map topped w.since) (a.tops late n place w' w (in_both n there) inside
          (ap is_some (a.held n place (in_both n there) inside) ∙ some) last' last);
      tags = λ root. sym (a.tags root);
      given = sym a.given;
      holds = λ p root tag below. sym (a.holds p root tag below);
      left = λ p page tag below. sym (a.left p page tag below);
      tag_wait = λ p q page b tag below kept. sym (a.tag_wait p q page b tag below (same_kept one other h h' a p page tag below ∙ kept));
    }

  module _ (one middle other : Trust) (h h' h'' : List Event) (a : Alike heading one middle h h') (b : Alike heading middle other h' h'') where
    on : (n : Node) → Contains (tree heading one (noted heading one h)) n → Contains (tree heading middle (noted heading middle h')) n
    on n there = subst (λ (ns : List Node). Contains ns n) a.trees there

    patterns_through : (n : Node) (place : ℕ) (w w' : ValidWrite) → Contains (tree heading one (noted heading one h)) n
        → page_of place ≡ n.page → is_some (held_at heading one (noted heading one h) n place) ≡ true
        → last_valid n.kind n.level place (noted heading one h) ≡ Some w
        → last_valid n.kind n.level place (noted heading other h'') ≡ Some w'
        → SamePatterns heading place one other w.since w'.since
    patterns_through n place w w' there inside some last last' = by (held_at heading middle (noted heading middle h') n place) refl
      where
        holds : is_some (held_at heading middle (noted heading middle h') n place) ≡ true
        holds = ap is_some (sym (a.held n place there inside)) ∙ some

        by : (o : Option ℕ) → held_at heading middle (noted heading middle h') n place ≡ o
            → SamePatterns heading place one other w.since w'.since
        by None none = let apart : false ≡ true = ap is_some (sym none) ∙ holds in cc
        by (Some value) is =
            let u = last_of heading middle (emptied heading middle n.kind n.level place (noted heading middle h')) place value (last_valid n.kind n.level place (noted heading middle h')) is in
            same_through place one middle other w.since u.0.since w'.since (a.patterns n place w u.0 there inside some last u.1)
            (b.patterns n place u.0 w' (on n there) inside holds u.1 last')

    tops_through : empties_tables heading.version ≡ true → (n : Node) (place : ℕ) (w w' : ValidWrite)
        → Contains (tree heading one (noted heading one h)) n
        → page_of place ≡ n.page → is_some (held_at heading one (noted heading one h) n place) ≡ true
        → last_valid n.kind n.level place (noted heading one h) ≡ Some w
        → last_valid n.kind n.level place (noted heading other h'') ≡ Some w'
        → SamePatterns heading place one other (map topped w.since) (map topped w'.since)
    tops_through late n place w w' there inside some last last' = by (held_at heading middle (noted heading middle h') n place) refl
      where
        holds : is_some (held_at heading middle (noted heading middle h') n place) ≡ true
        holds = ap is_some (sym (a.held n place there inside)) ∙ some

        by : (o : Option ℕ) → held_at heading middle (noted heading middle h') n place ≡ o
            → SamePatterns heading place one other (map topped w.since) (map topped w'.since)
        by None none = let apart : false ≡ true = ap is_some (sym none) ∙ holds in cc
        by (Some value) is =
            let u = last_of heading middle (emptied heading middle n.kind n.level place (noted heading middle h')) place value
            (last_valid n.kind n.level place (noted heading middle h')) is in
            same_through place one middle other (map topped w.since) (map topped u.0.since) (map topped w'.since)
            (a.tops late n place w u.0 there inside some last u.1)
            (b.tops late n place u.0 w' (on n there) inside holds u.1 last')

    pub joined_alike : Alike heading one other h h''
    joined_alike = record {
      values = λ place. a.values place ∙ b.values place;
      places = a.places ∙ b.places;
      roots = a.roots ∙ b.roots;
      nulls = λ page. a.nulls page ∙ b.nulls page;
      registers = record {
        values = λ p reg. a.registers.values p reg ∙ b.registers.values p reg;
        standings = λ p. a.registers.standings p ∙ b.registers.standings p;
      };
      locks = λ lock. a.locks lock ∙ b.locks lock;
      trees = a.trees ∙ b.trees;
      fresh = λ page. a.fresh page ∙ b.fresh page;
      clean = λ page. a.clean page ∙ b.clean page;
      held = λ n place there inside. a.held n place there inside ∙ b.held n place (on n there) inside;
      patterns = patterns_through;
      tops = tops_through;
      tags = λ root. a.tags root ∙ b.tags root;
      given = a.given ∙ b.given;
      holds = λ p root tag below. a.holds p root tag below ∙ b.holds p root tag below;
      left = λ p page tag below. a.left p page tag below ∙ b.left p page tag below;
      tag_wait = λ p q page c tag below kept. a.tag_wait p q page c tag below kept
          ∙ b.tag_wait p q page c tag below (sym (same_kept one middle h h' a p page tag below) ∙ kept);
    }
