use Rattle.bbm_rules.proofs.Common.{◌≡◌, ℕ, [], List, Some, None, ap, is_some, length, refl, sym, ◌∙◌, true≢false, Heading, Patterns, node_of}
use Rattle.bbm_rules.proofs.Common.{page_of}
use Rattle.bbm_page_map.specs.PageLists.{number_in}
use Rattle.bbm_rules.specs.Tree.{tree}
use Rattle.bbm_replay.proofs.parts.ReplayState.new.Goals as goal

no_node : (heading : Heading) (p : ℕ) → node_of heading Patterns [] p ≡ None
unfolding tree
no_node heading p = refl

pub returns : goal.returns
returns c =
    let m = c.new-2.ensures in
    let i = c.new-index.ensures.empty in
    record {
      header = refl;
      index_header = i.heading;
      numbers = m.pages ∙ sym i.pages;
      told = record {
        proper = c.in_ranges.ensures;
        kept = refl;
        fit = refl;
        values = m.values;
        nodes = λ p. i.node p ∙ sym (no_node c.args.header.now p);
        fresh = i.fresh;
        null = i.null;
        known = i.known;
        pages = ap length i.pages;
        tracked = λ p. ap (λ (ps : List ℕ). is_some (number_in ps p)) m.pages ∙ sym (i.known p);
        apart = record {
          fresh_outside = λ p k. i.node p;
          fresh_not_null = λ p k. i.null p;
          fresh_tracked = λ p k. absurd (true≢false (sym k ∙ i.fresh p));
          node_not_null = λ p n k. i.null p;
          node_tracked = λ p n k. let bad : Some n ≡ None = sym k ∙ i.node p in absurd cc;
        };
        entries = λ n a is. let bad : Some n ≡ None = sym is ∙ i.node (page_of a) in absurd cc;
        outside = λ a is. m.marks a;
      };
      roots = c.in_ok-roots.ensures.empty;
      guarded = c.kept_at_first.ensures c.new-index.result i.pages;
    }
