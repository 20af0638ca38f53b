-- The table of the pages of a root.
use Rattle.bbm_tree_index.proofs.Common.{Heading, page_count, RoleFits, spot_with, Counts, Starting, Well, joined}
use Rattle.bbm_tree_index.proofs.Common.{role_as, root_marks, spot_as, Mark, RootPage}
use Rattle.bbm_rules.proofs.Common.{◌≡◌, ℕ, zero, suc, ◌<◌, ◌≤◌, ◌+◌, ◌-◌, ◌*◌, ◌/◌, ◌%◌, ◌^◌, ◌==◌, true, false, List}
use Rattle.bbm_rules.proofs.Common.{[], Option, Some, None, Contains, is_some, refl, sym, ap, ◌∙◌, subst, true≢false}
use Rattle.bbm_rules.proofs.Common.{if◌then◌else◌, arith, nat_tests, cases_eq, add-one, inl, inr, none-some, Kind}
use Rattle.bbm_rules.proofs.Common.{input_pages, kind_in_world, pages_from, start_of, Node, nodes_of_pages}
use Rattle.bbm_rules.proofs.Common.{nodes_of_root}
use Rattle.bbm_rules.specs.Roots.{first_input_page}

part_of : (first i : ℕ) → (first + 4096 * i - first) / 4096 ≡ i
part_of first i = omega arith

page_same : (first i j : ℕ) → first + 4096 * i ≡ first + 4096 * j → i ≡ j
page_same first i j e = omega (arith, e)

module _ (kind : Kind) (first : ℕ) where
  abbrev mark_of : ℕ → Mark
  mark_of i = record { role = RootPage kind first i; many = false }

  marks_some : (n q : ℕ) (mark : Mark) → root_marks kind first n q ≡ Some mark
      → (i : ℕ) × (i < n) × (q ≡ first + 4096 * i) × (mark ≡ mark_of i)
  marks_some zero q mark e = absurd (none-some mark e)
  marks_some (suc n) q mark e =
      elim (cases_eq q (first + 4096 * n)) [
        | inl t ↦ (n, omega arith, t, grind (arith, nat_tests))
        | inr t ↦ let r = marks_some n q mark (grind (arith, nat_tests)) in (r.0, omega (arith, r.1), r.2, r.3)
      ]

  marks_none : (n q : ℕ) → root_marks kind first n q ≡ None → (i : ℕ) → i < n → q ≡ first + 4096 * i → ⊥
  marks_none zero q e i l at = omega (arith, l)
  marks_none (suc n) q e i l at =
      elim (cases_eq q (first + 4096 * n)) [
        | inl t ↦ none-some (mark_of n) (grind (arith, nat_tests))
        | inr t ↦ marks_none n q (grind (arith, nat_tests)) i (omega (arith, l, t, at)) at
      ]

  marks_behind : (n q i : ℕ) → n ≤ i → q ≡ first + 4096 * i → root_marks kind first n q ≡ None
  marks_behind zero q i l at = refl
  marks_behind (suc n) q i l at = grind (arith, nat_tests, marks_behind n q i)

  -- one more page
  pub marks_more : (n q : ℕ) (page : ℕ) → page ≡ first + 4096 * n
      → (if q == page then Some (joined (root_marks kind first n page) (mark_of n)) else root_marks kind first n q)
      ≡ root_marks kind first (n + 1) q
  marks_more n q page e =
      (λ i. if q == e i then Some (joined (marks_behind n page n (omega arith) e i) (mark_of n)) else root_marks kind first n q)
      ∙ (λ i. root_marks kind first (sym (add-one n) i) q)

  module _ (level : ℕ) where
    abbrev node_at : ℕ → ℕ → ℕ → Node
    node_at p base i = record {
      page = p + 4096 * i;
      kind = kind;
      level = level;
      root = first;
      base = base + i * (512 * input_pages level);
      above = [];
    }

    zeroth : (p base : ℕ) → node_at p base 0 ≡ record { page = p; kind = kind; level = level; root = first; base = base; above = [] }
    zeroth p base = grind arith

    shift : (p base i : ℕ) → node_at (p + 4096) (base + 512 * input_pages level) i ≡ node_at p base (suc i)
    shift p base i = λ j. record { page = page j; kind = kind; level = level; root = first; base = start base i (512 * input_pages level) j; above = [] }
      where
        page : p + 4096 + 4096 * i ≡ p + 4096 * suc i
        page = omega arith

        start : (b i x : ℕ) → b + x + i * x ≡ b + suc i * x
        start b i x = omega arith

    in_nodes : (p base n : ℕ) (m : Node) → Contains (nodes_of_pages kind level first base (pages_from p n)) m
        → (i : ℕ) × (i < n) × (m ≡ node_at p base i)
    in_nodes p base zero m (k, below, at) = absurd (omega (arith, below))
    in_nodes p base (suc n) m (zero, below, at) = (0, omega arith, sym at ∙ sym (zeroth p base))
    in_nodes p base (suc n) m (suc k, below, at) =
        let r = in_nodes (p + 4096) (base + 512 * input_pages level) n m (k, omega (arith, below), at) in
        (suc r.0, omega (arith, r.1), r.2 ∙ shift p base r.0)

    has_node : (p base n i : ℕ) → i < n → Contains (nodes_of_pages kind level first base (pages_from p n)) (node_at p base i)
    has_node p base zero i l = absurd (omega (arith, l))
    has_node p base (suc n) zero l = (0, omega arith, sym (zeroth p base))
    has_node p base (suc n) (suc i) l =
        let r = subst (Contains (nodes_of_pages kind level first (base + 512 * input_pages level) (pages_from (p + 4096) n))) (shift p base i)
        (has_node (p + 4096) (base + 512 * input_pages level) n i (omega (arith, l))) in
        (suc r.0, omega (arith, r.1), r.2)

  module _ (heading : Heading) (n : ℕ) where
    abbrev pub Pages : List Node
    Pages = nodes_of_pages kind (start_of heading.world kind) first (first_input_page heading.world kind) (pages_from first n)

    abbrev page_at : ℕ → Node
    page_at = node_at (start_of heading.world kind) first (first_input_page heading.world kind)

    pub in_pages : (m : Node) → Contains Pages m → (i : ℕ) × (i < n) × (m ≡ page_at i)
    in_pages = in_nodes (start_of heading.world kind) first (first_input_page heading.world kind) n

    has_page : (i : ℕ) → i < n → Contains Pages (page_at i)
    has_page = has_node (start_of heading.world kind) first (first_input_page heading.world kind) n

    pub root_some : 1 ≤ n → (m : Node) × Contains Pages m
    root_some l = (page_at 0, has_page 0 (omega (arith, l)))

    pub root_same : (m : Node) → Contains Pages m → (m.kind ≡ kind) × (m.level ≡ start_of heading.world kind)
    root_same m c = let r = in_pages m c in (ap (λ x. x.kind) r.2, ap (λ x. x.level) r.2)

    pub root_apart : (m m' : Node) → Contains Pages m → Contains Pages m' → m.page ≡ m'.page → m ≡ m'
    root_apart m m' c c' e = let r = in_pages m c in let r' = in_pages m' c' in
        r.2 ∙ ap page_at (page_same first r.0 r'.0 (sym (ap (λ x. x.page) r.2) ∙ e ∙ ap (λ x. x.page) r'.2)) ∙ sym r'.2

    told : (q : ℕ) (o : Option Mark) → root_marks kind first n q ≡ o → Counts (Contains Pages) q o
    told q None e = λ m c at. let r = in_pages m c in marks_none n q e r.0 r.1 (sym at ∙ ap (λ x. x.page) r.2)
    told q (Some mark) e = let s = marks_some n q mark e in record {
      node = page_at s.0;
      is_there = has_page s.0 s.1;
      at = sym s.2;
      role = ap (λ x. x.role) s.3 ∙ ap (RootPage kind first) (sym (part_of first s.0));
      one = λ few m c at. root_apart m (page_at s.0) c (has_page s.0 s.1) (at ∙ s.2);
      two = λ two. absurd (true≢false (sym two ∙ ap (λ x. x.many) s.3));
    }

    module _ (g : ℕ → Option Mark) (is : (q : ℕ) → g q ≡ root_marks kind first n q) where
      pub root_starting : Starting heading g Pages
      root_starting = let level = start_of heading.world kind in let base = first_input_page heading.world kind in record {
        plain = λ m c. let r = in_pages m c in
            subst (λ x. spot_with heading (role_as x x.above) ≡ Some (spot_as x)) (sym r.2)
            (λ i. Some (record { kind = kind; level = level; base = base + part_of first r.0 i * (512 * input_pages level); first = first }));
        alike = λ s s' c c'. let a = root_same s c in let b = root_same s' c' in (a.0 ∙ sym b.0, a.1 ∙ sym b.1);
        told = λ q. told q (g q) (sym (is q));
      }

      pub root_well : first + 4096 * n ≤ 2 ^ 48 → first % 4096 ≡ 0 → ((i : ℕ) → i < n → RoleFits heading (RootPage kind first i))
          → Well heading g
      root_well end aligned fit = record {
        pages = λ p e. page p (g p) (sym (is p)) e;
        fit = λ p mark e. let s = marks_some n p mark (sym (is p) ∙ e) in
            subst (λ x. RoleFits heading x.role) (sym s.3) (fit s.0 s.1);
      }
        where
          page : (p : ℕ) (o : Option Mark) → root_marks kind first n p ≡ o → is_some o ≡ true → (p < 2 ^ 48) × (p % 4096 ≡ 0)
          page p None e s = absurd (true≢false (sym s))
          page p (Some mark) e s = let r = marks_some n p mark e in (omega (arith, r.1, r.2, end), omega (arith, r.2, aligned))

  pub root_nodes : (heading : Heading) → kind_in_world heading.world kind ≡ true
      → nodes_of_root heading (record { page = first; kind = kind; lock = None }) ≡ Pages heading (page_count heading.world kind)
  root_nodes heading e = λ i. nodes_of_pages kind (start_of heading.world kind) first (first_input_page heading.world kind)
      (if e i then pages_from first (page_count heading.world kind) else [])
