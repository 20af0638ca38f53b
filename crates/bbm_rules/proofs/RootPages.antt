-- The pages of a root: their nodes, and that no page has two.
use Rattle.bbm_rules.proofs.Common.{◌≡◌, ℕ, zero, suc, ◌+◌, ◌*◌, ◌<◌, ◌≤◌, Bool, true, false, cond, List, [], ◌∷◌}
use Rattle.bbm_rules.proofs.Common.{Contains, refl, sym, ◌∙◌, ap, subst, inl, inr, arith, Kind, In, from_contains}
use Rattle.bbm_rules.proofs.Common.{to_contains, Declared, input_pages, kind_in_world, pages_from, root_pages, start_of}
use Rattle.bbm_rules.proofs.Common.{Node, nodes_of_pages, nodes_of_root}
use Rattle.bbm_events.specs.Heading.{Heading}
use Rattle.bbm_lemmas.proofs.Words.{Apart}
use Rattle.bbm_rules.specs.Roots.{first_input_page, page_count}

-- what each node of the pages has
record Of (kind : Kind) (level root : ℕ) (pages : List ℕ) (n : Node) : Type 0 where
  kind_is : n.kind ≡ kind
  level_is : n.level ≡ level
  root_is : n.root ≡ root
  above_is : n.above ≡ []
  page_is : In pages n.page

of_pages : (kind : Kind) (level root base : ℕ) (pages : List ℕ) (n : Node) → In (nodes_of_pages kind level root base pages) n
    → Of kind level root pages n
of_pages kind level root base [] n i = absurd i
of_pages kind level root base (page ∷ pages) n (inl e) = record {
  kind_is = ap (λ (x : Node). x.kind) (sym e);
  level_is = ap (λ (x : Node). x.level) (sym e);
  root_is = ap (λ (x : Node). x.root) (sym e);
  above_is = ap (λ (x : Node). x.above) (sym e);
  page_is = inl (ap (λ (x : Node). x.page) e);
}
of_pages kind level root base (page ∷ pages) n (inr i) =
    let k : Of kind level root pages n = of_pages kind level root (base + 512 * input_pages level) pages n i in
    record { kind_is = k.kind_is; level_is = k.level_is; root_is = k.root_is; above_is = k.above_is; page_is = inr k.page_is }

pub node_fields : (heading : Heading) (r : Declared) (n : Node) → Contains (nodes_of_root heading r) n
    → (n.kind ≡ r.kind) × (n.level ≡ start_of heading.world r.kind) × (n.root ≡ r.page) × (n.above ≡ [])
    × Contains (root_pages heading.world r.kind r.page) n.page
node_fields heading r n c =
    let pages : List ℕ = root_pages heading.world r.kind r.page in
    let k : Of r.kind (start_of heading.world r.kind) r.page (root_pages heading.world r.kind r.page) n
    = of_pages r.kind (start_of heading.world r.kind) r.page (first_input_page heading.world r.kind) pages n
    (from_contains (nodes_of_root heading r) n c) in
    (k.kind_is, k.level_is, k.root_is, k.above_is, to_contains pages n.page k.page_is)

-- later pages have higher addresses
from_on : (page count other : ℕ) → In (pages_from page count) other → page ≤ other
from_on page zero other i = absurd i
from_on page (suc count) other (inl e) = let same : page ≡ other = e in omega arith
from_on page (suc count) other (inr i) = let above : page + 4096 ≤ other = from_on (page + 4096) count other i in omega arith

one_of : (kind : Kind) (level root base page count : ℕ) (n m : Node) → In (nodes_of_pages kind level root base (pages_from page count)) n
    → In (nodes_of_pages kind level root base (pages_from page count)) m → n.page ≡ m.page → n ≡ m
one_of kind level root base page zero n m i j same = absurd i
one_of kind level root base page (suc count) n m (inl e) (inl e') same = sym e ∙ e'
one_of kind level root base page (suc count) n m (inl e) (inr j) same =
    let k : Of kind level root (pages_from (page + 4096) count) m
    = of_pages kind level root (base + 512 * input_pages level) (pages_from (page + 4096) count) m j in
    let above : page + 4096 ≤ m.page = from_on (page + 4096) count m.page k.page_is in
    let first : page ≡ n.page = ap (λ (x : Node). x.page) e in absurd (omega arith)
one_of kind level root base page (suc count) n m (inr i) (inl e) same =
    let k : Of kind level root (pages_from (page + 4096) count) n
    = of_pages kind level root (base + 512 * input_pages level) (pages_from (page + 4096) count) n i in
    let above : page + 4096 ≤ n.page = from_on (page + 4096) count n.page k.page_is in
    let first : page ≡ m.page = ap (λ (x : Node). x.page) e in absurd (omega arith)
one_of kind level root base page (suc count) n m (inr i) (inr j) same =
    one_of kind level root (base + 512 * input_pages level) (page + 4096) count n m i j same

pub one_node : (heading : Heading) (r : Declared) (n m : Node) → Contains (nodes_of_root heading r) n
    → Contains (nodes_of_root heading r) m → n.page ≡ m.page → n ≡ m
one_node heading r n m c d same = by (kind_in_world heading.world r.kind) (from_contains (nodes_of_root heading r) n c) (from_contains (nodes_of_root heading r) m d)
  where
    by : (b : Bool)
        → In (nodes_of_pages r.kind (start_of heading.world r.kind) r.page (first_input_page heading.world r.kind)
        (cond b (pages_from r.page (page_count heading.world r.kind)) [])) n
        → In (nodes_of_pages r.kind (start_of heading.world r.kind) r.page (first_input_page heading.world r.kind)
        (cond b (pages_from r.page (page_count heading.world r.kind)) [])) m → n ≡ m
    by true i j = one_of r.kind (start_of heading.world r.kind) r.page (first_input_page heading.world r.kind) r.page
        (page_count heading.world r.kind) n m i j same
    by false i j = absurd i

-- a root that has pages has its first page
head_node : (kind : Kind) (level root base page : ℕ) (b : Bool) (count : ℕ) (n : Node)
    → In (nodes_of_pages kind level root base (cond b (pages_from page count) [])) n
    → (m : Node) × In (nodes_of_pages kind level root base (cond b (pages_from page count) [])) m × (m.page ≡ page)
head_node kind level root base page false count n i = absurd i
head_node kind level root base page true zero n i = absurd i
head_node kind level root base page true (suc count) n i =
    (record { page = page; kind = kind; level = level; root = root; base = base; above = [] }, inl refl, refl)

pub first_node : (heading : Heading) (r : Declared) (n : Node) → Contains (nodes_of_root heading r) n
    → (m : Node) × Contains (nodes_of_root heading r) m × (m.page ≡ r.page)
first_node heading r n c =
    let k = head_node r.kind (start_of heading.world r.kind) r.page (first_input_page heading.world r.kind) r.page
    (kind_in_world heading.world r.kind) (page_count heading.world r.kind) n (from_contains (nodes_of_root heading r) n c) in
    (k.0, to_contains (nodes_of_root heading r) k.0 k.1, k.2)

pub first_page : (heading : Heading) (kind : Kind) (page : ℕ) → kind_in_world heading.world kind ≡ true
    → 0 < page_count heading.world kind → Contains (root_pages heading.world kind page) page
first_page heading kind page known some =
    subst (λ (b : Bool). Contains (cond b (pages_from page (page_count heading.world kind)) []) page) (sym known)
    (by (page_count heading.world kind) some)
  where
    by : (count : ℕ) → 0 < count → Contains (pages_from page count) page
    by zero some = absurd (omega arith)
    by (suc count) some = to_contains (pages_from page (suc count)) page (inl refl)

-- each page of a root has a node
node_of_page : (kind : Kind) (level root base : ℕ) (pages : List ℕ) (page : ℕ) → In pages page
    → (m : Node) × In (nodes_of_pages kind level root base pages) m × (m.page ≡ page)
node_of_page kind level root base [] page i = absurd i
node_of_page kind level root base (first ∷ pages) page (inl e) =
    (record { page = first; kind = kind; level = level; root = root; base = base; above = [] }, inl refl, e)
node_of_page kind level root base (first ∷ pages) page (inr i) =
    let k = node_of_page kind level root (base + 512 * input_pages level) pages page i in (k.0, inr k.1, k.2)

pub page_node : (heading : Heading) (r : Declared) (page : ℕ) → Contains (root_pages heading.world r.kind r.page) page
    → (m : Node) × Contains (nodes_of_root heading r) m × (m.page ≡ page)
page_node heading r page c =
    let k = node_of_page r.kind (start_of heading.world r.kind) r.page (first_input_page heading.world r.kind)
    (root_pages heading.world r.kind r.page) page (from_contains (root_pages heading.world r.kind r.page) page c) in
    (k.0, to_contains (nodes_of_root heading r) k.0 k.1, k.2)

-- the pages of a root are different ones
apart_from_page : (page count : ℕ) → Apart (pages_from page count)
apart_from_page page zero = tt
apart_from_page page (suc count) = (
  λ i. let above : page + 4096 ≤ page = from_on (page + 4096) count page i in absurd (omega arith),
  apart_from_page (page + 4096) count,
)

pub apart_pages : (heading : Heading) (kind : Kind) (page : ℕ) → Apart (root_pages heading.world kind page)
apart_pages heading kind page = by (kind_in_world heading.world kind)
  where
    by : (c : Bool) → Apart (cond c (pages_from page (page_count heading.world kind)) [])
    by true = apart_from_page page (page_count heading.world kind)
    by false = tt
