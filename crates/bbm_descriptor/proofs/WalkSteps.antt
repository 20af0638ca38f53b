-- The steps of a walk, and the answers that it ends with.
use Rattle.std.proofs.Common.{◌≡◌, ℕ, Bool, suc, ◌+◌, ◌-◌, ◌*◌, ◌/◌, ◌%◌, ◌<◌, ◌≤◌, inl, inr, List, [], ◌∷◌, refl, ap}
use Rattle.std.proofs.Common.{sym, ◌∙◌, subst, mul_assoc, add-one, arith}
use Rattle.bbm_regimes.specs.Extent.{span_of}
use Rattle.bbm_descriptor.specs.Fields.{next_of, out_of}
use Rattle.bbm_regimes.specs.declared.regime.Kind.{Kind}
use Rattle.bbm_descriptor.specs.declared.desc.Desc.TheVariants.{Invalid, Table, Leaf}
use Rattle.bbm_descriptor.specs.Descriptor.{Form, invalid, table, leaf, form_of, desc_of}
use Rattle.bbm_descriptor.specs.Listing.{WalkRoot, level_after, place_number, region_from, RegionHolds, EachHolds}
use Rattle.bbm_descriptor.specs.Listing.{Tables, EndsIn, NoLeaf, AtLeaf, IsAnswer, IsAligned, ComesTo}
use Rattle.bbm_descriptor.specs.declared.walk.Walk.{Walk}
use Rattle.bbm_descriptor.specs.declared.walk.Walk.TheVariants.{Out, Fault}
use Rattle.bbm_descriptor.proofs.Regions.{span_pos, span_step, table_level, next_aligned, part_aligned, smaller_aligned}
use Rattle.bbm_descriptor.proofs.Regions.{offset, nine_bits, in_part, part_number, number_back}
use Rattle.bbm_descriptor.proofs.Forms.{as_invalid, as_leaf, as_table}
use Rattle.bbm_descriptor.proofs.Listing.{each_holds, one_list}

leaf≢table : leaf ≡ table → ⊥
leaf≢table h = cc

invalid≢table : invalid ≡ table → ⊥
invalid≢table h = cc

leaf≢invalid : leaf ≡ invalid → ⊥
leaf≢invalid h = cc

-- the form of the last place of a list, and what else the list tells
abbrev form_in : (ℕ → ℕ) → WalkRoot → List ℕ → Form
form_in value root [] = invalid
form_in value root (place ∷ above) = form_of (level_after root above) (value place)

abbrev level_in : WalkRoot → List ℕ → ℕ
level_in root [] = 0
level_in root (place ∷ above) = level_after root above

abbrev out_in : (ℕ → ℕ) → WalkRoot → ℕ → List ℕ → ℕ
out_in value root addr [] = 0
out_in value root addr (place ∷ above) = out_of (level_after root above) (value place) + (addr - region_from value root (place ∷ above))

-- at most one leaf has a region that holds an address
pub one_leaf : (value : ℕ → ℕ) (root : WalkRoot) (addr place other : ℕ) (above others : List ℕ) → IsAligned root → EndsIn value root leaf place above → RegionHolds value root (place ∷ above) addr → EndsIn value root leaf other others → RegionHolds value root (other ∷ others) addr → place ∷ above ≡ other ∷ others
one_leaf value root addr place other above others a ends holds ends' holds' =
    one_list value root addr place other above others leaf leaf leaf≢table leaf≢table a
    ends (each_holds value root addr place above ends.tables ends.stands holds)
    ends' (each_holds value root addr other others ends'.tables ends'.stands holds')

-- beside an invalid place whose regions hold the address there is no such leaf
none_beside : (value : ℕ → ℕ) (root : WalkRoot) (addr place : ℕ) (above : List ℕ) → IsAligned root → EndsIn value root invalid place above → EachHolds value root (place ∷ above) addr → NoLeaf value root addr
none_beside value root addr place above a ends each other others ends' holds' =
    let each' = each_holds value root addr other others ends'.tables ends'.stands holds' in
    let same : place ∷ above ≡ other ∷ others = one_list value root addr place other above others invalid leaf invalid≢table leaf≢table a ends each ends' each' in
    leaf≢invalid (sym ends'.has_form ∙ sym (ap (λ ps. form_in value root ps) same) ∙ ends.has_form)

-- what each region of a list holds, the input range holds
range_in : (value : ℕ → ℕ) (root : WalkRoot) (addr : ℕ) (places : List ℕ) → EachHolds value root places addr → RegionHolds value root [] addr
range_in value root addr [] each = each
range_in value root addr (place ∷ above) each = range_in value root addr above each.0

none_outside : (value : ℕ → ℕ) (root : WalkRoot) (addr : ℕ) → ¬ RegionHolds value root [] addr → NoLeaf value root addr
none_outside value root addr outside place above ends holds =
    outside (range_in value root addr (place ∷ above) (each_holds value root addr place above ends.tables ends.stands holds))

from_aligned : (value : ℕ → ℕ) (root : WalkRoot) (above : List ℕ) → IsAligned root → Tables value root above → region_from value root above % span_of (level_after root above) ≡ 0
from_aligned value root [] a tables = a.first
from_aligned value root (t ∷ above) a tables =
    smaller_aligned (region_from value root (t ∷ above)) (span_of (level_after root above)) (span_of (suc (level_after root above)))
    (span_step (level_after root above) (table_level (level_after root above) (value t) tables.2))
    (part_aligned (region_from value root above) (place_number value root above t) (span_of (level_after root above)) (from_aligned value root above a tables.0))

-- the walk ends at an invalid place
pub fault_answer : (value : ℕ → ℕ) (root : WalkRoot) (addr level place : ℕ) (above : List ℕ) → ComesTo value root addr level place above → form_of level (value place) ≡ invalid → IsAnswer value root addr (Fault level)
fault_answer value root addr level place above c form =
    let ends : EndsIn value root invalid place above = record { tables = c.tables; stands = c.stands; has_form = subst (λ l. form_of l (value place) ≡ invalid) c.level_is form } in (
      none_beside value root addr place above c.aligned ends c.holds,
      inl (record { place = place; above = above; ends = ends; holds = c.holds; level_is = c.level_is }),
    )

-- or outside the input range, where it never begins
pub outside_answer : (value : ℕ → ℕ) (root : WalkRoot) (addr : ℕ) → ¬ RegionHolds value root [] addr → IsAnswer value root addr (Fault root.start)
outside_answer value root addr outside = (none_outside value root addr outside, inr (outside, refl))

-- or at a leaf
pub leaf_answer : (value : ℕ → ℕ) (root : WalkRoot) (addr level place : ℕ) (above : List ℕ) → ComesTo value root addr level place above → form_of level (value place) ≡ leaf → IsAnswer value root addr (Out (out_of level (value place) + addr % span_of level) level)
leaf_answer value root addr level place above c form =
    let b = region_from value root (place ∷ above) in
    let s = span_of (level_after root above) in
    let aligned : b % s ≡ 0 = part_aligned (region_from value root above) (place_number value root above place) s (from_aligned value root above c.aligned c.tables) in
    let low : addr % s ≡ addr - b = offset b s addr aligned c.holds.1.from c.holds.1.to in
    record {
      place = place;
      above = above;
      ends = record { tables = c.tables; stands = c.stands; has_form = subst (λ l. form_of l (value place) ≡ leaf) c.level_is form };
      holds = c.holds.1;
      level_is = c.level_is;
      out_is = ap (λ l. out_of level (value place) + addr % span_of l) c.level_is ∙ ap (λ n. out_of level (value place) + n) low;
    }

-- at a table it goes on in the next page, by nine bits of the address
pub next_step : (value : ℕ → ℕ) (root : WalkRoot) (addr level place : ℕ) (above : List ℕ) → ComesTo value root addr level place above → form_of level (value place) ≡ table → ComesTo value root addr (suc level) (next_of (value place) + 8 * (addr / span_of (suc level) % 512)) (place ∷ above)
next_step value root addr level place above c form =
    let has_form : form_of (level_after root above) (value place) ≡ table = subst (λ l. form_of l (value place) ≡ table) c.level_is form in
    let tables : Tables value root (place ∷ above) = (c.tables, c.stands, has_form) in
    let b = region_from value root (place ∷ above) in
    let l = level_after root above in
    let s = span_of l in
    let t = span_of (suc l) in
    let x = (addr - b) / t in
    let step : s ≡ 512 * t = span_step l (table_level l (value place) has_form) in
    let aligned : b % s ≡ 0 = part_aligned (region_from value root above) (place_number value root above place) s (from_aligned value root above c.aligned c.tables) in
    let low : b ≤ addr = c.holds.1.from in
    let high : addr < b + s = c.holds.1.to in
    let nine : addr / t % 512 ≡ x = nine_bits b s t addr (span_pos (suc l)) step aligned low high in
    let below : x < 512 = part_number b t 512 addr (span_pos (suc l)) low (omega arith) in
    let part = in_part b t addr (span_pos (suc l)) low in
    let next = next_of (value place) in
    let next_4096 : next % 4096 ≡ 0 = next_aligned (value place) in
    let there : ComesTo value root addr (suc l) (next + 8 * x) (place ∷ above) = record {
      aligned = c.aligned;
      tables = tables;
      stands = record { from = omega arith; to = omega arith; aligned = omega arith };
      holds = (
        c.holds,
        record {
          from = subst (λ n. b + n * t ≤ addr) (sym (number_back next x)) part.0;
          to = subst (λ n. addr < b + n * t + t) (sym (number_back next x)) part.1;
        },
      );
      level_is = refl;
    } in
    let moved : ComesTo value root addr (suc l) (next + 8 * (addr / t % 512)) (place ∷ above) = subst (λ n. ComesTo value root addr (suc l) (next + 8 * n) (place ∷ above)) (sym nine) there in
    subst (λ k. ComesTo value root addr (suc k) (next + 8 * (addr / span_of (suc k) % 512)) (place ∷ above)) (sym c.level_is) moved

-- the same, from the value that was read and what it was read as
pub reads_invalid : (value : ℕ → ℕ) (root : WalkRoot) (kind : Kind) (addr level place v : ℕ) (above : List ℕ) → ComesTo value root addr level place above → v ≡ value place → Invalid ≡ desc_of kind level v → IsAnswer value root addr (Fault level)
reads_invalid value root kind addr level place v above c is_value is_desc =
    fault_answer value root addr level place above c
    (as_invalid (form_of level (value place)) kind level (value place) (subst (λ n. Invalid ≡ desc_of kind level n) is_value is_desc))

pub reads_leaf : (value : ℕ → ℕ) (root : WalkRoot) (kind : Kind) (addr level place v out attrs share span : ℕ) (global contiguous : Bool) (above : List ℕ) → ComesTo value root addr level place above → v ≡ value place → Leaf out attrs share global contiguous ≡ desc_of kind level v → span ≡ span_of level → IsAnswer value root addr (Out (out + addr % span) level)
reads_leaf value root kind addr level place v out attrs share span global contiguous above c is_value is_desc is_span =
    let told = as_leaf (form_of level (value place)) kind level (value place) out attrs share global contiguous (subst (λ n. Leaf out attrs share global contiguous ≡ desc_of kind level n) is_value is_desc) in
    let at_leaf = leaf_answer value root addr level place above c told.0 in
    let at_span : IsAnswer value root addr (Out (out_of level (value place) + addr % span) level) = subst (λ s. IsAnswer value root addr (Out (out_of level (value place) + addr % s) level)) (sym is_span) at_leaf in
    subst (λ o. IsAnswer value root addr (Out (o + addr % span) level)) (sym told.1) at_span

pub reads_table : (value : ℕ → ℕ) (root : WalkRoot) (kind : Kind) (addr level place v next below deeper : ℕ) (ns : Bool) (above : List ℕ) → ComesTo value root addr level place above → v ≡ value place → Table next ns ≡ desc_of kind level v → deeper ≡ level + 1 → below ≡ next + 8 * (addr / span_of deeper % 512) → ComesTo value root addr deeper below (place ∷ above)
reads_table value root kind addr level place v next below deeper ns above c is_value is_desc is_deeper is_below =
    let told = as_table (form_of level (value place)) kind level (value place) next ns (subst (λ n. Table next ns ≡ desc_of kind level n) is_value is_desc) in
    let on = next_step value root addr level place above c told.0 in
    let one : ComesTo value root addr deeper (next_of (value place) + 8 * (addr / span_of deeper % 512)) (place ∷ above) =
    subst (λ l. ComesTo value root addr l (next_of (value place) + 8 * (addr / span_of l % 512)) (place ∷ above)) (sym (is_deeper ∙ add-one level)) on in
    let at_next : ComesTo value root addr deeper (next + 8 * (addr / span_of deeper % 512)) (place ∷ above) =
    subst (λ n. ComesTo value root addr deeper (n + 8 * (addr / span_of deeper % 512)) (place ∷ above)) (sym told.1) one in
    subst (λ p. ComesTo value root addr deeper p (place ∷ above)) (sym is_below) at_next

-- the walk begins at the place of the root that the address selects
pub first_step : (value : ℕ → ℕ) (root : WalkRoot) (addr : ℕ) → IsAligned root → RegionHolds value root [] addr → ComesTo value root addr root.start (root.page + 8 * ((addr - root.first) / span_of root.start)) []
first_step value root addr a range =
    let s = span_of root.start in
    let x = (addr - root.first) / s in
    let page_4096 = a.page in
    let same : root.pages * (512 * s) ≡ root.pages * 512 * s = sym (mul_assoc root.pages 512 s) in
    let low : root.first ≤ addr = range.from in
    let high = range.to in
    let below : x < root.pages * 512 = part_number root.first s (root.pages * 512) addr (span_pos root.start) low (omega arith) in
    let part = in_part root.first s addr (span_pos root.start) low in
    record {
      aligned = a;
      tables = tt;
      stands = record { from = omega arith; to = omega arith; aligned = omega arith };
      holds = (
        range,
        record {
          from = subst (λ n. root.first + n * s ≤ addr) (sym (number_back root.page x)) part.0;
          to = subst (λ n. addr < root.first + n * s + s) (sym (number_back root.page x)) part.1;
        },
      );
      level_is = refl;
    }

-- two answers for an address are one
same_out : (value : ℕ → ℕ) (root : WalkRoot) (addr out level out' level' : ℕ) → IsAligned root → AtLeaf value root addr out level → AtLeaf value root addr out' level' → Out out level ≡ Out out' level'
same_out value root addr out level out' level' a x y =
    let same = one_leaf value root addr x.place y.place x.above y.above a x.ends x.holds y.ends y.holds in
    let levels : level ≡ level' = x.level_is ∙ ap (λ ps. level_in root ps) same ∙ sym y.level_is in
    let at_x : out ≡ out_in value root addr (x.place ∷ x.above) = x.out_is ∙ ap (λ l. out_of l (value x.place) + (addr - region_from value root (x.place ∷ x.above))) x.level_is in
    let at_y : out' ≡ out_in value root addr (y.place ∷ y.above) = y.out_is ∙ ap (λ l. out_of l (value y.place) + (addr - region_from value root (y.place ∷ y.above))) y.level_is in
    let outs : out ≡ out' = at_x ∙ ap (λ ps. out_in value root addr ps) same ∙ sym at_y in
    ap (λ o. Out o level) outs ∙ ap (λ l. Out out' l) levels

same_fault : (value : ℕ → ℕ) (root : WalkRoot) (addr level level' : ℕ) → IsAligned root → IsAnswer value root addr (Fault level) → IsAnswer value root addr (Fault level') → level ≡ level'
same_fault value root addr level level' a x y =
    elim x.1 [
      | inl here ↦ elim y.1 [
        | inl there ↦
            let same = one_list value root addr here.place there.place here.above there.above invalid invalid invalid≢table invalid≢table a here.ends here.holds there.ends there.holds in
            here.level_is ∙ ap (λ ps. level_in root ps) same ∙ sym there.level_is
        | inr out ↦ absurd (out.0 (range_in value root addr (here.place ∷ here.above) here.holds))
      ]
      | inr out ↦ elim y.1 [
        | inl there ↦ absurd (out.0 (range_in value root addr (there.place ∷ there.above) there.holds))
        | inr out' ↦ out.1 ∙ sym out'.1
      ]
    ]

pub one_answer : (value : ℕ → ℕ) (root : WalkRoot) (addr : ℕ) (one other : Walk) → IsAligned root → IsAnswer value root addr one → IsAnswer value root addr other → one ≡ other
one_answer value root addr (Out out level) (Out out' level') a x y = same_out value root addr out level out' level' a x y
one_answer value root addr (Out out level) (Fault level') a x y = absurd (y.0 x.place x.above x.ends x.holds)
one_answer value root addr (Fault level) (Out out' level') a x y = absurd (x.0 y.place y.above y.ends y.holds)
one_answer value root addr (Fault level) (Fault level') a x y = ap (λ l. Fault l) (same_fault value root addr level level' a x y)
