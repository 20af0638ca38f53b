-- The places of the parts of an entry lie in pages of the trees, where its root is declared and each place holds the core
-- of what was read.
use Rattle.bbm_rules.proofs.Common.{◌≡◌, ℕ, suc, ◌+◌, ◌*◌, ◌<◌, true, List, [], ◌∷◌, Some, Contains, refl, sym, ◌∙◌, ap}
use Rattle.bbm_rules.proofs.Common.{subst, inl, inr, Kind, is_valid, keeps, Trust, noted, Noted, index_of, page_of}
use Rattle.bbm_rules.proofs.Common.{Heading, Event, is_root, Node, next_in, next_of, node_below, nodes_of_root}
use Rattle.bbm_rules.proofs.Common.{contains_cases, contains_head, contains_more, contains_none}
use Rattle.bbm_rules.specs.Prelude.{input_pages}
use Rattle.bbm_tlb_machine.specs.Entry.{Entry, Part}
use Rattle.bbm_tlb_machine.specs.Invariant.{Begins, Chained, Holding, IsAt, IsBelow, Placed, start_nodes}
use Rattle.bbm_tlb_machine.specs.KnownOfMachine.{Known}
use Rattle.bbm_tlb_machine.proofs.Facts.{held_there, means}

module _ (heading : Heading) (trust : Trust) (k : Known heading trust) (h : List Event) (kept : keeps heading trust h ≡ true) (x : Entry) where
  abbrev notes : List Noted
  notes = noted heading trust h

  pub start_placed : (kind : Kind) → is_root h kind x.root ≡ true → (part : Part) → part.kind ≡ kind → (n : Node)
      → Contains (start_nodes heading part.kind x.root) n → IsAt n x.root part → Placed heading trust h x.root part
  start_placed kind declared part same n c a =
      let r = k.root.of_kind h kind x.root declared in
      let there : Contains (nodes_of_root heading r.0) n = rw (r.2, r.3, ← same) c in
      record {
        node = n;
        in_tree = k.tree.complete notes n (record {
          root = r.0;
          declared = rw (k.notes_keep_the_events h) (k.root.complete h r.0 r.1);
          start = n;
          is_start = there;
          places = [];
          down = refl;
          level = subst (λ (l : ℕ). l < 4) (sym ((k.root_pages.fields r.0 n there).1)) (k.proper.start r.0.kind);
        });
        is_at = a;
      }

  pub below_placed : (part above : Part) → IsBelow part above → Placed heading trust h x.root above → Holding heading trust h above
      → is_valid above.kind above.level above.value ≡ true → Placed heading trust h x.root part
  below_placed part above c p q valid =
      let next : next_of p.node.kind p.node.level q.value ≡ Some (page_of part.place)
      = ap next_in (means heading trust k h kept x above p.node p.is_at q valid) ∙ c.inside in
      record {
        node = node_below p.node above.place (page_of part.place);
        in_tree = k.tree.below notes p.node above.place q.value (page_of part.place) p.in_tree p.is_at.inside
            (held_there heading trust k h kept x above p.node p.is_at q.value q.holds) next;
        is_at = record {
          inside = refl;
          kind = p.is_at.kind ∙ sym c.kind;
          level = ap suc p.is_at.level ∙ sym c.level;
          root = p.is_at.root;
          region = ap (λ (a : ℕ). a + index_of part.place * input_pages (suc p.node.level)) p.is_at.region
              ∙ (ap (λ (l : ℕ). above.first + index_of part.place * input_pages l) (ap suc p.is_at.level ∙ sym c.level) ∙ sym c.region);
        };
      }

  pub all_placed : (kind : Kind) → is_root h kind x.root ≡ true → (part : Part) (above : List Part) → part.kind ≡ kind
      → Begins heading x.root part above → Chained part above
      → ((q : Part) → Contains (part ∷ above) q → Holding heading trust h q)
      → ((q : Part) → Contains (part ∷ above) q → is_valid q.kind q.level q.value ≡ true)
      → (q : Part) → Contains (part ∷ above) q → Placed heading trust h x.root q
  all_placed kind declared part [] same begins c holding valid q i =
      elim (contains_cases [] part q i) [
        | inl e ↦ subst (λ (p : Part). Placed heading trust h x.root p) e (start_placed kind declared part same begins.0 begins.1 begins.2)
        | inr j ↦ absurd (contains_none q j)
      ]
  all_placed kind declared part (a ∷ above) same begins c holding valid q i =
      let rest : (q : Part) → Contains (a ∷ above) q → Placed heading trust h x.root q
      = all_placed kind declared a above (sym c.0.kind ∙ same) begins c.1
      (λ q j. holding q (contains_more (a ∷ above) part q j)) (λ q j. valid q (contains_more (a ∷ above) part q j)) in
      elim (contains_cases (a ∷ above) part q i) [
        | inl e ↦ subst (λ (p : Part). Placed heading trust h x.root p) e
            (below_placed part a c.0 (rest a (contains_head above a)) (holding a (contains_more (a ∷ above) part a (contains_head above a)))
            (valid a (contains_more (a ∷ above) part a (contains_head above a))))
        | inr j ↦ rest q j
      ]
