-- Pages of a root one after another, and the input pages of the page below a place.
use Rattle.bbm_rules.proofs.Common.{◌≡◌, ℕ, ◌+◌, ◌*◌, ◌<◌, ◌≤◌, ◌^◌, zero, suc, List, [], ◌∷◌, ◌++◌, ◌∙◌, ap, arith}
use Rattle.bbm_rules.proofs.Common.{Kind, index_of, pages_from, Node, nodes_of_pages}
use Rattle.bbm_regimes.specs.World.{input_pages}

-- the region of the page below a place lies in that of the page
pub below_fits : (base place level : ℕ) → level < 3 → base + 512 * input_pages level ≤ 2 ^ 45 →
    base + index_of place * input_pages level + 512 * input_pages (level + 1) ≤ 2 ^ 45
below_fits base place zero h fits = omega arith
below_fits base place (suc zero) h fits = omega arith
below_fits base place (suc (suc zero)) h fits = omega arith
below_fits base place (suc (suc (suc level))) h fits = absurd (omega arith)

-- a page of a root
abbrev pub page_node : Kind → ℕ → ℕ → ℕ → ℕ → Node
page_node kind level root base page =
    record { page = page; kind = kind; level = level; root = root; base = base; above = [] }

next_base : (base i size : ℕ) → base + size + i * size ≡ base + suc i * size
next_base base i size = omega arith

-- one more page of a root
pub nodes_of_pages_more : (kind : Kind) (level root base page i : ℕ) →
    nodes_of_pages kind level root base (pages_from page (i + 1))
    ≡ nodes_of_pages kind level root base (pages_from page i)
    ++ page_node kind level root (base + i * (512 * input_pages level)) (page + 4096 * i) ∷ []
nodes_of_pages_more kind level root base page zero =
    let at_base : base ≡ base + 0 * (512 * input_pages level) = omega arith in
    let at_page : page ≡ page + 4096 * 0 = omega arith in
    ap (λ (b : ℕ). page_node kind level root b page ∷ []) at_base
    ∙ ap (λ (p : ℕ). page_node kind level root (base + 0 * (512 * input_pages level)) p ∷ []) at_page
nodes_of_pages_more kind level root base page (suc i) =
    let size : ℕ = 512 * input_pages level in
    let number : suc i + 1 ≡ suc (i + 1) = omega arith in
    let at_base : base + size + i * size ≡ base + suc i * size = next_base base i size in
    let at_page : page + 4096 + 4096 * i ≡ page + 4096 * suc i = omega arith in
    let first : ℕ → ℕ → List Node = λ b p. page_node kind level root base page
    ∷ (nodes_of_pages kind level root (base + size) (pages_from (page + 4096) i)
    ++ page_node kind level root b p ∷ []) in
    ap (λ (n : ℕ). nodes_of_pages kind level root base (pages_from page n)) number
    ∙ ap (λ (nodes : List Node). page_node kind level root base page ∷ nodes)
    (nodes_of_pages_more kind level root (base + size) (page + 4096) i)
    ∙ ap (λ (b : ℕ). first b (page + 4096 + 4096 * i)) at_base
    ∙ ap (λ (p : ℕ). first (base + suc i * size) p) at_page
