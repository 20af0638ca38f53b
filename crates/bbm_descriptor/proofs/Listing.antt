-- Which places the regions that hold an address select, and that at most one list of places ends below them.
use Rattle.std.proofs.Common.{◌≡◌, ℕ, zero, suc, ◌+◌, ◌-◌, ◌*◌, ◌/◌, ◌%◌, ◌<◌, inl, inr, List, [], ◌∷◌, length, refl}
use Rattle.std.proofs.Common.{ap, sym, ◌∙◌, subst, arith}
use Rattle.std.proofs.lemmas.Bool.{cases_lt, cases_eq}
use Rattle.bbm_regimes.specs.Extent.{span_of}
use Rattle.bbm_descriptor.specs.Descriptor.{Form, table, form_of}
use Rattle.bbm_descriptor.specs.Listing.{WalkRoot, level_after, page_after, pages_after, StandsAfter, region_from}
use Rattle.bbm_descriptor.specs.Listing.{region_bytes, RegionHolds, EachHolds, Tables, EndsIn, IsAligned}
use Rattle.bbm_descriptor.proofs.Regions.{span_step, table_level, next_aligned, place_told, region_fits}

-- the place after these tables that the address selects
abbrev place_at : (ℕ → ℕ) → WalkRoot → ℕ → List ℕ → ℕ
place_at value root addr above =
    page_after value root above + 8 * ((addr - region_from value root above) / span_of (level_after root above))

-- so many places, one after the other
abbrev visited : (ℕ → ℕ) → WalkRoot → ℕ → ℕ → List ℕ
visited value root addr zero = []
visited value root addr (suc n) = place_at value root addr (visited value root addr n) ∷ visited value root addr n

page_8 : (value : ℕ → ℕ) (root : WalkRoot) (above : List ℕ) → IsAligned root → page_after value root above % 8 ≡ 0
page_8 value root [] a = let h = a.page in omega arith
page_8 value root (t ∷ above) a = let h = next_aligned (value t) in omega arith

-- a place whose region holds the address is the one that it selects
selected : (value : ℕ → ℕ) (root : WalkRoot) (addr place : ℕ) (above : List ℕ) → IsAligned root → StandsAfter value root above place → RegionHolds value root (place ∷ above) addr → place ≡ place_at value root addr above
selected value root addr place above a stands holds =
    place_told (page_after value root above) place (region_from value root above) (span_of (level_after root above)) addr
    stands.from (page_8 value root above a) stands.aligned holds.from holds.to

-- the region after tables has 512 parts for each page there
bytes_after : (value : ℕ → ℕ) (root : WalkRoot) (above : List ℕ) → Tables value root above → region_bytes root above ≡ pages_after root above * (512 * span_of (level_after root above))
bytes_after value root [] tables = refl
bytes_after value root (t ∷ above) tables =
    let step = span_step (level_after root above) (table_level (level_after root above) (value t) tables.2) in
    omega arith

-- what a place's region holds, the region above it holds
above_holds : (value : ℕ → ℕ) (root : WalkRoot) (addr place : ℕ) (above : List ℕ) → Tables value root above → StandsAfter value root above place → RegionHolds value root (place ∷ above) addr → RegionHolds value root above addr
above_holds value root addr place above tables stands holds =
    let fits = region_fits (page_after value root above) place (pages_after root above) (span_of (level_after root above)) stands.from stands.to in
    let bytes = bytes_after value root above tables in
    let low = holds.from in
    let high = holds.to in
    record { from = omega arith; to = omega arith }

each_above : (value : ℕ → ℕ) (root : WalkRoot) (addr : ℕ) (above : List ℕ) → Tables value root above → RegionHolds value root above addr → EachHolds value root above addr
each_above value root addr [] tables holds = holds
each_above value root addr (t ∷ above) tables holds =
    (each_above value root addr above tables.0 (above_holds value root addr t above tables.0 tables.1 holds), holds)

pub each_holds : (value : ℕ → ℕ) (root : WalkRoot) (addr place : ℕ) (above : List ℕ) → Tables value root above → StandsAfter value root above place → RegionHolds value root (place ∷ above) addr → EachHolds value root (place ∷ above) addr
each_holds value root addr place above tables stands holds =
    (each_above value root addr above tables (above_holds value root addr place above tables stands holds), holds)

-- tables whose regions hold the address are those that it selects
all_visited : (value : ℕ → ℕ) (root : WalkRoot) (addr : ℕ) (above : List ℕ) → IsAligned root → Tables value root above → EachHolds value root above addr → above ≡ visited value root addr (length above)
all_visited value root addr [] a tables each = refl
all_visited value root addr (t ∷ above) a tables each =
    let rest : above ≡ visited value root addr (length above) = all_visited value root addr above a tables.0 each.0 in
    let here : t ≡ place_at value root addr above = selected value root addr t above a tables.1 each.1 in
    ap (λ p. p ∷ above) here ∙ ap (λ ps. place_at value root addr ps ∷ ps) rest

-- each of the selected tables above one is a table
table_there : (value : ℕ → ℕ) (root : WalkRoot) (addr n m : ℕ) → n < m → Tables value root (visited value root addr m) → form_of (level_after root (visited value root addr n)) (value (place_at value root addr (visited value root addr n))) ≡ table
table_there value root addr n zero below tables = absurd (omega arith)
table_there value root addr n (suc m) below tables =
    elim (cases_eq n m) [
      | inl same ↦ subst (λ k. form_of (level_after root (visited value root addr k)) (value (place_at value root addr (visited value root addr k))) ≡ table) (sym same) tables.2
      | inr other ↦ table_there value root addr n m (omega arith) tables.0
    ]

-- a list that ends in no table isn't shorter than another that the address selects
not_shorter : (value : ℕ → ℕ) (root : WalkRoot) (addr place : ℕ) (above longer : List ℕ) (form : Form) → (form ≡ table → ⊥) → IsAligned root → EndsIn value root form place above → EachHolds value root (place ∷ above) addr → Tables value root longer → EachHolds value root longer addr → length above < length longer → ⊥
not_shorter value root addr place above longer form no_table a ends each tables each_longer shorter =
    let is_above : above ≡ visited value root addr (length above) = all_visited value root addr above a ends.tables each.0 in
    let is_longer : longer ≡ visited value root addr (length longer) = all_visited value root addr longer a tables each_longer in
    let visited_tables : Tables value root (visited value root addr (length longer)) = subst (λ ps. Tables value root ps) is_longer tables in
    let there = table_there value root addr (length above) (length longer) shorter visited_tables in
    let back : form_of (level_after root above) (value (place_at value root addr above)) ≡ table = subst (λ ps. form_of (level_after root ps) (value (place_at value root addr ps)) ≡ table) (sym is_above) there in
    let here : place ≡ place_at value root addr above = selected value root addr place above a ends.stands each.1 in
    let is_table : form_of (level_after root above) (value place) ≡ table = subst (λ p. form_of (level_after root above) (value p) ≡ table) (sym here) back in
    no_table (sym ends.has_form ∙ is_table)

-- two lists that end in no table, and whose regions hold the address, are one
pub one_list : (value : ℕ → ℕ) (root : WalkRoot) (addr place other : ℕ) (above others : List ℕ) (form last : Form) → (form ≡ table → ⊥) → (last ≡ table → ⊥) → IsAligned root → EndsIn value root form place above → EachHolds value root (place ∷ above) addr → EndsIn value root last other others → EachHolds value root (other ∷ others) addr → place ∷ above ≡ other ∷ others
one_list value root addr place other above others form last no_table none_last a ends each ends' each' =
    elim (cases_lt (length above) (length others)) [
      | inl shorter ↦ absurd (not_shorter value root addr place above others form no_table a ends each ends'.tables each'.0 shorter)
      | inr longer ↦ elim (cases_lt (length others) (length above)) [
        | inl shorter ↦ absurd (not_shorter value root addr other others above last none_last a ends' each' ends.tables each.0 shorter)
        | inr equal ↦
            let same : length above ≡ length others = omega arith in
            let aboves : above ≡ others = all_visited value root addr above a ends.tables each.0 ∙ ap (λ n. visited value root addr n) same ∙ sym (all_visited value root addr others a ends'.tables each'.0) in
            let here : place ≡ place_at value root addr above = selected value root addr place above a ends.stands each.1 in
            let there : other ≡ place_at value root addr others = selected value root addr other others a ends'.stands each'.1 in
            let same_place : place ≡ other = here ∙ ap (λ ps. place_at value root addr ps) aboves ∙ sym there in
            ap (λ p. p ∷ above) same_place ∙ ap (λ ps. other ∷ ps) aboves
      ]
    ]
