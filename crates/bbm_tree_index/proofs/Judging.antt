-- What the tables of a survey say of the paths.
use Rattle.bbm_tree_index.proofs.Common.{IndexMap, get, is_at, HasPlace, IsUnfresh, LeafPlace, Told, WrongPage, Counts}
use Rattle.bbm_tree_index.proofs.Common.{Found, Goes, Reached, Mark, EndsTwice, IsPath, Wrong, elsewhere, many, unfresh}
use Rattle.bbm_rules.proofs.Common.{◌≡◌, ℕ, ◌<◌, ◌+◌, Bool, List, Some, length, slice_get, inl, inr, refl, is_some}
use Rattle.bbm_rules.proofs.Common.{nat_eq, sym, ap, ◌∙◌, subst, arith, cases_eq, slice_get_within, desc_of, Desc, Kind}
use Rattle.bbm_rules.proofs.Common.{End, end_at, Node}
use Rattle.std.proofs.lemmas.Bool.{true_from_ne_false}
use Rattle.std.proofs.lemmas.List.{nil_from_length}
use Rattle.bbm_tree_index.proofs.Levels.{Listed, listed, told_node}
use Rattle.bbm_tree_index.proofs.Starts.{goes_kind}
use Rattle.bbm_tree_index.proofs.Ways.{goes_back, goes_leads, goes_same, leads_goes}

module _ {S : Type 0} {tables : List (IndexMap ℕ Mark S)} {fresh : ℕ → Bool} {value : ℕ → ℕ} {starts : List Node} {kind : Kind}
    {level : ℕ} (told : Told tables fresh value starts kind level) where
  abbrev Has : ℕ → Node → Type 0
  Has k m = Reached fresh value starts k m

  path_of : (k : ℕ) (m : Node) (r : Has k m) → k < length tables → IsPath fresh value starts r.start r.places (end_at m.level m.page)
  path_of k m r l = record {
    is_start = r.is_start;
    within = omega (arith, told.count, told.same_level r.start r.is_start, r.count, l);
    leads = goes_leads fresh value r.start m r.places r.goes;
  }

  -- the node at the end of a path is told
  record Met (start : Node) (places : List ℕ) (end : End) : Type 0 where
    node : Node
    goes : Goes fresh value start places node
    reached : Has (length places) node
    page : node.page ≡ end.page
    deep : end.level ≡ level + length places
    listed : Listed tables Has told.levels (length places) end.page

  meet : (start : Node) (places : List ℕ) (end : End) → IsPath fresh value starts start places end → Met start places end
  meet start places end p = let e = leads_goes fresh value start places end p.leads in
      let r : Has (length places) e.node
      = record { start = start; is_start = p.is_start; places = places; count = refl; goes = e.goes } in record {
        node = e.node;
        goes = e.goes;
        reached = r;
        page = e.page;
        deep = omega (arith, e.level, (goes_kind fresh value start e.node places e.goes).1, told.same_level start p.is_start);
        listed = listed tables Has told.levels (length places) end.page e.node
            (omega (arith, told.count, told.same_level start p.is_start, p.within)) r e.page;
      }

  -- ---- not fresh

  pub wrong_of : (named : Bool) (q : ℕ) → IsUnfresh fresh value starts named q → WrongPage tables fresh named q
  wrong_of named q (inl u) = let l = (meet u.start u.places u.end u.path).listed in record {
    level = length u.places;
    table = l.table;
    at = l.at;
    wrong = record {
      mark = l.mark;
      has = ap (get nat_eq l.table) (sym u.ends) ∙ l.has;
      wrong = unfresh u.unfresh (λ n z. u.judged n (nil_from_length u.places z));
    };
  }
  wrong_of named q (inr u) = let m = meet u.start u.places u.end u.path in
      let m' = meet u.other_start u.other_places u.other_end u.other_path in let l = m.listed in let l' = m'.listed in record {
        level = length u.places;
        table = l.table;
        at = l.at;
        wrong = record {
          mark = l.mark;
          has = ap (get nat_eq l.table) (sym u.ends) ∙ l.has;
          wrong =
              elim (cases_eq (length u.other_places) (length u.places)) [
                | inl e ↦ many (true_from_ne_false l.mark.many (λ t.
                    let one = l.found.one t m.node m.reached m.page in
                    let other = l.found.one t m'.node (subst (λ k. Has k m'.node) e m'.reached) (m'.page ∙ u.other_ends ∙ sym u.ends) in
                    let back = goes_back fresh value u.start u.other_start m'.node u.places u.other_places (sym e)
                    (subst (Goes fresh value u.start u.places) (one ∙ sym other) m.goes) m'.goes in
                    u.differ (ap (λ x. x.page) back.0) back.1))
                | inr n ↦ elsewhere (record {
                  other = length u.other_places;
                  apart = n;
                  table = l'.table;
                  at = l'.at;
                  has = ap (λ x. is_some x) (ap (get nat_eq l'.table) (sym u.other_ends) ∙ l'.has);
                })
              ];
        };
      }

  two_paths : (q k k' : ℕ) (m m' : Node) (r : Has k m) (r' : Has k' m') → k < length tables → k' < length tables → m.page ≡ q → m'.page ≡ q
      → (r.start.page ≡ r'.start.page → r.places ≡ r'.places → ⊥) → EndsTwice fresh value starts q
  two_paths q k k' m m' r r' l l' at at' differ = record {
    start = r.start;
    places = r.places;
    end = end_at m.level m.page;
    path = path_of k m r l;
    ends = at;
    other_start = r'.start;
    other_places = r'.places;
    other_end = end_at m'.level m'.page;
    other_path = path_of k' m' r' l';
    other_ends = at';
    differ = differ;
  }

  wrong_back : (named : Bool) (q k : ℕ) (table : IndexMap ℕ Mark S) (mark : Mark) → slice_get tables k ≡ Some table
      → Found (Has k) q mark → Wrong tables fresh named k q mark → IsUnfresh fresh value starts named q
  wrong_back named q k table mark at found (unfresh f j) = let r = found.is_there in inl (record {
    start = r.start;
    places = r.places;
    end = end_at found.node.level found.node.page;
    path = path_of k found.node r (slice_get_within tables k table at);
    ends = found.at;
    unfresh = f;
    judged = λ n e. j n (sym r.count ∙ ap length e);
  })
  wrong_back named q k table mark at found (many e) = let t = found.two e in let l = slice_get_within tables k table at in
      inr (two_paths q k k found.node t.0 found.is_there t.1 l l found.at t.2
      (λ p e. t.3 (sym (goes_same fresh value t.1.start found.node t.0 t.1.places
      (subst (λ x. Goes fresh value x t.1.places found.node) (told.apart found.is_there.start t.1.start found.is_there.is_start t.1.is_start p)
      (subst (λ x. Goes fresh value found.is_there.start x found.node) e found.is_there.goes)) t.1.goes))))
  wrong_back named q k table mark at found (elsewhere o) =
      let f = (told_node tables Has told.levels o.other q o.table o.at o.has).2 in
      inr (two_paths q k o.other found.node f.node found.is_there f.is_there (slice_get_within tables k table at)
      (slice_get_within tables o.other o.table o.at) found.at f.at
      (λ p e. o.apart (sym f.is_there.count ∙ ap length (sym e) ∙ found.is_there.count)))

  pub of_wrong : (named : Bool) (q : ℕ) → WrongPage tables fresh named q → IsUnfresh fresh value starts named q
  of_wrong named q w = wrong_back named q w.level w.table w.wrong.mark w.at
      (subst (Counts (Has w.level) q) w.wrong.has (told.levels w.level w.table w.at q)) w.wrong.wrong

  -- ---- leaves

  module _ (test : Kind → Desc → Bool) where
    pub leaf_of : (a : ℕ) → HasPlace fresh value starts test a → LeafPlace tables value test kind level a
    leaf_of a h = let m = meet h.start h.places h.end h.path in let k = told.same_kind h.start h.path.is_start in record {
      depth = length h.places;
      table = m.listed.table;
      at = m.listed.at;
      leaf = record {
        page = h.end.page;
        has = ap (λ x. is_some x) m.listed.has;
        leaf = record {
          inside = h.inside;
          passes = (λ i. test (sym k i) (desc_of (sym k i) (sym m.deep i) (value a))) ∙ h.passes;
        };
      };
    }

    pub of_leaf : (a : ℕ) → LeafPlace tables value test kind level a → HasPlace fresh value starts test a
    of_leaf a h = let f = (told_node tables Has told.levels h.depth h.leaf.page h.table h.at h.leaf.has).2 in
        let r = f.is_there in let n = f.node in let k = told.same_kind r.start r.is_start in
        let deep : n.level ≡ level + h.depth = omega (arith, (goes_kind fresh value r.start n r.places r.goes).1, r.count, told.same_level r.start r.is_start) in
        record {
          start = r.start;
          places = r.places;
          end = end_at n.level n.page;
          path = path_of h.depth n r (slice_get_within tables h.depth h.table h.at);
          inside = ap (λ p. is_at p a) f.at ∙ h.leaf.leaf.inside;
          passes = (λ i. test (k i) (desc_of (k i) (deep i) (value a))) ∙ h.leaf.leaf.passes;
        }
