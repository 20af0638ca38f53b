-- The page of a root in which a walk starts, and the PEs at which a tag is readable.
use Rattle.bbm_rules.proofs.Common.{◌≡◌, or-false, ℕ, zero, suc, ◌+◌, ◌-◌, ◌*◌, ◌/◌, ◌%◌, ◌<◌, ◌≤◌, nat_lt, ◌&&◌, ◌==◌}
use Rattle.bbm_rules.proofs.Common.{Bool, true, false, cond, List, [], ◌∷◌, take, Some, None, Contains, refl, sym, ◌∙◌}
use Rattle.bbm_rules.proofs.Common.{ap, arith, and_parts, eqb-true, ltb-true, Kind, fits_heading, is_value, among}
use Rattle.bbm_rules.proofs.Common.{index_of, page_of, El2, S2, Ttbr0, Ttbr1, Reg, World, Hyp, Kernel, Heading, Event}
use Rattle.bbm_rules.proofs.Common.{Isb, Msr, base_of, register_values, same_reg, pages_from, ReadsTag, Node}
use Rattle.bbm_rules.proofs.Common.{nodes_of_pages, tag_of, EntryHead, contains_head, contains_more}
use Rattle.std.proofs.Common.{mod-lt, lt_of_not-le}
use Rattle.std.proofs.Math.Nat.{mod-add-div'}
use Rattle.bbm_rules.specs.Prelude.{first_input_page, input_pages, kind_in_world, page_count, start_of}
use Rattle.bbm_rules.specs.TagSentences.{Names}
use Rattle.bbm_tlb_machine.specs.Invariant.{IsAt, start_nodes}
use Rattle.bbm_tlb_machine.specs.Step.{first_part, root_of}

-- ---- the page of a root

abbrev node_at : Kind → ℕ → ℕ → ℕ → ℕ → Node
node_at kind level root page base = record { page = page; kind = kind; level = level; root = root; base = base; above = [] }

node_in : (kind : Kind) (level root page base n j p b : ℕ) → j < n → p ≡ page + 4096 * j → b ≡ base + 512 * (j * input_pages level)
    → Contains (nodes_of_pages kind level root base (pages_from page n)) (node_at kind level root p b)
node_in kind level root page base zero j p b less ep eb = absurd (omega arith)
node_in kind level root page base (suc n) zero p b less ep eb =
    let same_page : page ≡ p = omega (arith, ep) in
    let none : 0 * input_pages level ≡ 0 = omega arith in
    let same_base : base ≡ b = omega (arith, eb, none) in
    rw (← same_page, ← same_base) (contains_head _ (node_at kind level root page base))
node_in kind level root page base (suc n) (suc j) p b less ep eb =
    let more : suc j * input_pages level ≡ input_pages level + j * input_pages level = omega arith in
    contains_more (nodes_of_pages kind level root (base + 512 * input_pages level) (pages_from (page + 4096) n)) (node_at kind level root page base)
    (node_at kind level root p b)
    (node_in kind level root (page + 4096) (base + 512 * input_pages level) n j p b (omega (arith, less)) (omega (arith, ep))
    (omega (arith, eb, more)))

-- a place by the size of all pages of a root, of which there are so many
pub record PlaceIn (place count : ℕ) : Type 0 where
  pub page : ℕ
  pub among_pages : page < count
  pub page_is : page_of place ≡ place / (4096 * count) * (4096 * count) + 4096 * page
  pub index_is : (place - place / (4096 * count) * (4096 * count)) / 8 ≡ 512 * page + index_of place

place_in : (place count : ℕ) → 0 < count → PlaceIn place count
place_in place count some =
    let size : 0 < 4096 * count = omega (arith, some) in
    let whole = mod-add-div' place (4096 * count) in
    let less : place % (4096 * count) < 4096 * count = mod-lt place size in
    let parts = by place (place / (4096 * count)) (place % (4096 * count)) count whole less in
    record { page = place % (4096 * count) / 4096; among_pages = parts.0; page_is = parts.1; index_is = parts.2 }
  where
    by : (p q r c : ℕ) → r + q * (4096 * c) ≡ p → r < 4096 * c
        → (r / 4096 < c) × (p / 4096 * 4096 ≡ q * (4096 * c) + 4096 * (r / 4096)) × ((p - q * (4096 * c)) / 8 ≡ 512 * (r / 4096) + p % 4096 / 8)
    by p q r c e l =
        let product : q * (4096 * c) ≡ 4096 * (q * c) = omega arith in
        (omega (arith, l), omega (arith, e, product), omega (arith, e, product))

module _ (heading : Heading) where
  -- the node of the page in which a walk starts
  pub start_node : (kind : Kind) (place value : ℕ) → kind_in_world heading.world kind ≡ true → 0 < page_count heading.world kind
      → (n : Node) × Contains (start_nodes heading kind (root_of heading.world kind place)) n
      × IsAt n (root_of heading.world kind place) (first_part heading kind place value)
  start_node kind place value of_world some =
      let p : PlaceIn place (page_count heading.world kind) = place_in place (page_count heading.world kind) some in
      let n : Node = node_at kind (start_of heading.world kind) (root_of heading.world kind place)
      (root_of heading.world kind place + 4096 * p.page)
      (first_input_page heading.world kind + 512 * (p.page * input_pages (start_of heading.world kind))) in (
        n,
        rw of_world (node_in kind (start_of heading.world kind) (root_of heading.world kind place) (root_of heading.world kind place)
            (first_input_page heading.world kind) (page_count heading.world kind) p.page _ _ p.among_pages refl refl),
        record {
          inside = p.page_is;
          kind = refl;
          level = refl;
          root = refl;
          region = region (first_input_page heading.world kind) p.page (index_of place) (input_pages (start_of heading.world kind))
              ((place - root_of heading.world kind place) / 8) p.index_is;
        },
      )
    where
      region : (f j x i whole : ℕ) → whole ≡ 512 * j + x → f + 512 * (j * i) + x * i ≡ f + whole * i
      region f j x i whole e =
          let split : (512 * j + x) * i ≡ 512 * (j * i) + x * i = omega arith in
          let same : whole * i ≡ (512 * j + x) * i = ap (λ (n : ℕ). n * i) e in
          omega (arith, split, same)

-- ---- readable tags

-- a PE past those of the header writes no register
no_values : (heading : Heading) (h : List Event) (p : ℕ) (reg : Reg) → ((e : Event) → Contains h e → fits_heading heading e ≡ true)
    → heading.pes ≤ p → register_values h p reg ≡ 0 ∷ []
no_values heading [] p reg fits past = refl
no_values heading (Msr pe r value ∷ h) p reg fits past =
    by (pe == p) refl (no_values heading h p reg (λ e i. fits e (contains_more h (Msr pe r value) e i)) past)
  where
    less : pe < heading.pes
    less =
        ltb-true pe heading.pes
        (and_parts (nat_lt pe heading.pes) (is_value value) (fits (Msr pe r value) (contains_head h (Msr pe r value)))).0

    by : (b : Bool) → (pe == p) ≡ b → register_values h p reg ≡ 0 ∷ []
        → cond (b && same_reg r reg) (value ∷ register_values h p reg) (register_values h p reg) ≡ 0 ∷ []
    by true e rest = let same : pe ≡ p = eqb-true pe p e in absurd (omega (arith, less, same, past))
    by false e rest = rest
no_values heading (Isb pe ∷ h) p reg fits past =
    by (pe == p) (no_values heading h p reg (λ e i. fits e (contains_more h (Isb pe) e i)) past)
  where
    by : (b : Bool) → register_values h p reg ≡ 0 ∷ [] → cond b (take 1 (register_values h p reg)) (register_values h p reg) ≡ 0 ∷ []
    by true rest = ap (take 1) rest
    by false rest = rest
no_values heading (e ∷ h) p reg fits past = no_values heading h p reg (λ y i. fits y (contains_more h e y i)) past

names_pe : (heading : Heading) (h : List Event) → ((e : Event) → Contains h e → fits_heading heading e ≡ true)
    → (p : ℕ) (reg : Reg) (root value : ℕ) → Names h p reg root value → p < heading.pes
names_pe heading h fits p reg root value n =
    lt_of_not-le (λ past.
    let none : 0 ≡ value
    = eqb-true 0 value (sym (or-false (0 == value)) ∙ (sym (ap (among value) (no_values heading h p reg fits past)) ∙ n.readable)) in
    let apart : None ≡ Some root = ap base_of none ∙ n.base in
    cc)

-- the PE is one of the header, and the kind of the tag one of the world
pub reads_at : (heading : Heading) (h : List Event) → ((e : Event) → Contains h e → fits_heading heading e ≡ true)
    → (p root : ℕ) (kind : Kind) (e : EntryHead) (order : Bool) (world : World) → ReadsTag order world h p (tag_of kind e) root
    → (p < heading.pes) × (kind_in_world world kind ≡ true)
reads_at heading h fits p root El2 e order (Hyp w) k = (names_pe heading h fits p _ root k.0 k.1, refl)
reads_at heading h fits p root S2 e order (Hyp w) k = (names_pe heading h fits p _ root k.0 k.1, refl)
reads_at heading h fits p root Ttbr0 e order (Kernel w) k = (names_pe heading h fits p _ root k.0 k.2, refl)
reads_at heading h fits p root Ttbr1 e order (Kernel w) k = (names_pe heading h fits p _ root k.0 k.1, refl)
reads_at heading h fits p root kind e order world k = absurd k
