-- What covers a place takes the entries that were read through it.
use Rattle.std.proofs.Common.{◌≡◌, ℕ, Bool, true, false, Option, Some, None, is_none, ◌&&◌, ◌||◌, not, ◌≤◌, refl, ap}
use Rattle.std.proofs.Common.{sym, ◌∙◌, arith, if◌then◌else◌}
use Rattle.std.proofs.lemmas.Bool.{and_from, and_parts, or_left, or_right, not_from_false, not-true}
use Rattle.std.proofs.lemmas.Bool.Decides.{nat_tests}
use Rattle.bbm_lemmas.proofs.Tautologies.{proved}
use Rattle.bbm_lemmas.proofs.Tautologies.Claim.{If, Is, Never}
use Rattle.bbm_regimes.specs.Extent.{Extent, meets, holds}
use Rattle.bbm_regimes.specs.declared.regime.Kind.{Kind}
use Rattle.bbm_regimes.specs.declared.regime.Kind.TheVariants.{El2, S2, Ttbr0, Ttbr1}
use Rattle.bbm_regimes.specs.declared.regime.Tag.TheVariants.{El2 as El2Tag, Vmid, Asid as AsidTag, Ttbr1 as Ttbr1Tag}
use Rattle.bbm_tlbi_scope.specs.declared.scope.Family.{Family}
use Rattle.bbm_tlbi_scope.specs.declared.scope.Family.TheVariants.{El2All, El2Va, E1All, VmAll1, VmAll12, Ipa, Va}
use Rattle.bbm_tlbi_scope.specs.declared.scope.Family.TheVariants.{VaAll, Asid}
use Rattle.bbm_tlbi_scope.specs.declared.scope.Scope.{Scope}
use Rattle.bbm_tlbi_scope.specs.declared.entry.EntryKind.{EntryKind}
use Rattle.bbm_tlbi_scope.specs.declared.entry.EntryKind.TheVariants.{El2 as El2Entry, Stage2, Combined, El1}
use Rattle.bbm_tlbi_scope.specs.declared.entry.EntryHead.{EntryHead}
use Rattle.bbm_tlbi_scope.specs.declared.entry.PlaceView.{PlaceView}
use Rattle.bbm_tlbi_scope.specs.declared.entry.TagSet.{TagSet}
use Rattle.bbm_tlbi_scope.specs.declared.entry.TagSet.TheVariants.{None as NoTag, One, Many}
use Rattle.bbm_tlbi_scope.specs.declared.entry.Cover.{Cover}
use Rattle.bbm_tlbi_scope.specs.declared.entry.Cover.TheVariants.{None as NoCover, Half, Second, Full}
use Rattle.bbm_tlbi_scope.specs.Numbers.{is_number, lacks_vmid, hint_allows, names_some, names_all}
use Rattle.bbm_tlbi_scope.specs.Takes.{fits_entry, is_global_leaf, taken_by, taken}
use Rattle.bbm_tlbi_scope.specs.ScopeCovers.{fits_leaf, fits_place, vmid_matches, asid_matches, where_fits, cover_by}
use Rattle.bbm_tlbi_scope.specs.ScopeCovers.{cover_of}
use Rattle.bbm_tlbi_scope.specs.ScopeTags.{whole_tag_by, takes_whole_tag}
use Rattle.bbm_tlbi_scope.specs.Agreement.{read_through, tag_of, HasTag, EndsBy, Agrees}

-- an interval that holds a region meets each interval within the region
meets_within : (i v e : Extent) → e.lo ≤ e.hi → holds i v ≡ true → holds v e ≡ true → meets i e ≡ true
meets_within i v e region outer inner = grind (arith, nat_tests)

names_within : (i : Option Extent) (v e : Extent) → e.lo ≤ e.hi → names_all i v ≡ true → holds v e ≡ true → names_some i e ≡ true
names_within None v e region outer inner = outer
names_within (Some i) v e region outer inner = meets_within i v e region outer inner

-- a number that matches the tags of a root is that of an entry whose tag the root has
vmid_of_tag : (vmid : Option ℕ) (tags : TagSet) (n : ℕ) → HasTag tags (Vmid n) → vmid_matches vmid tags ≡ true → is_number vmid n ≡ true
vmid_of_tag None tags n has same = same
vmid_of_tag (Some m) NoTag n has same = absurd has
vmid_of_tag (Some m) (One (Vmid held)) n has same = let e : held ≡ n = cc in ap (λ (x : ℕ). is_number (Some m) x) (sym e) ∙ same
vmid_of_tag (Some m) (One (AsidTag held)) n has same = cc
vmid_of_tag (Some m) (One El2Tag) n has same = cc
vmid_of_tag (Some m) (One Ttbr1Tag) n has same = cc
vmid_of_tag (Some m) Many n has same = cc

asid_of_tag : (asid : Option ℕ) (tags : TagSet) (n : ℕ) → HasTag tags (AsidTag n) → asid_matches asid tags ≡ true → is_number asid n ≡ true
asid_of_tag None tags n has same = same
asid_of_tag (Some m) NoTag n has same = absurd has
asid_of_tag (Some m) (One (AsidTag held)) n has same = let e : held ≡ n = cc in ap (λ (x : ℕ). is_number (Some m) x) (sym e) ∙ same
asid_of_tag (Some m) (One (Vmid held)) n has same = cc
asid_of_tag (Some m) (One El2Tag) n has same = cc
asid_of_tag (Some m) (One Ttbr1Tag) n has same = cc
asid_of_tag (Some m) Many n has same = cc

-- a scope for every level and without a hint fits entries of both endings
free_of_hint : (last last_only : Bool) (hint : Option ℕ) (level : ℕ) → (not last_only && is_none hint) ≡ true
    → (if last then hint_allows hint level else (not last_only && is_none hint)) ≡ true
free_of_hint true last_only None level free = refl
free_of_hint true last_only (Some hint) level free = absurd (proved 1 (λ b. If (Is (b && false) true) Never) refl
    (not last_only) free)
free_of_hint false last_only hint level free = free

-- a scope whose address fits a place fits each entry that ends there or below
fits_by : (table childless : Bool) (s : Scope) (e : EntryHead) (v : PlaceView) → EndsBy table childless e v → e.region.lo ≤ e.region.hi
    → (if table then (not s.last_only && is_none s.level && (if childless then names_some s.interval v.region else names_all s.interval v.region)) else fits_leaf s v) ≡ true
    → fits_entry s e ≡ true
fits_by false childless s e v ending region fits = rw (ending.0, ending.1, ending.2) fits
fits_by true true s e v ending region fits =
    let free : (not s.last_only && is_none s.level) ≡ true = (and_parts (not s.last_only && is_none s.level) (names_some s.interval v.region) fits).0 in
    let some : names_some s.interval v.region ≡ true = (and_parts (not s.last_only && is_none s.level) (names_some s.interval v.region) fits).1 in
    rw (ending.0, ending.1) (and_from (names_some s.interval v.region) (not s.last_only && is_none s.level) some free)
fits_by true false s e v ending region fits =
    let free : (not s.last_only && is_none s.level) ≡ true = (and_parts (not s.last_only && is_none s.level) (names_all s.interval v.region) fits).0 in
    let all : names_all s.interval v.region ≡ true = (and_parts (not s.last_only && is_none s.level) (names_all s.interval v.region) fits).1 in
    and_from (names_some s.interval e.region) (if e.last then hint_allows s.level e.level else (not s.last_only && is_none s.level))
    (names_within s.interval v.region e.region region all ending)
    (free_of_hint e.last s.last_only s.level e.level free)

fits_through : (s : Scope) (e : EntryHead) (v : PlaceView) → Agrees e v → fits_place s v ≡ true → fits_entry s e ≡ true
fits_through s e v a fits = fits_by v.table v.childless s e v a.ending a.region fits

-- a cover that stands only where a test holds tells that it holds
full_where : (b : Bool) → where_fits Full b ≡ Full → b ≡ true
full_where true h = refl
full_where false h = cc

half_where : (b : Bool) → where_fits Half b ≡ Half → b ≡ true
half_where true h = refl
half_where false h = cc

second_where : (b : Bool) → where_fits Second b ≡ Second → b ≡ true
second_where true h = refl
second_where false h = cc

-- a cover that is some cover is that of the table, and the TLBI has the VMID that it needs
cover_has_vmid : (lacks : Bool) (given wanted : Cover) → (NoCover ≡ wanted → ⊥) → (if lacks then NoCover else given) ≡ wanted → (not lacks ≡ true) × (given ≡ wanted)
cover_has_vmid true given wanted some h = absurd (some h)
cover_has_vmid false given wanted some h = (refl, h)

-- the grades of cover differ
other_grade : (given wanted : Cover) (b : Bool) → (given ≡ wanted → ⊥) → (NoCover ≡ wanted → ⊥) → where_fits given b ≡ wanted → ⊥
other_grade given wanted true differs some h = differs h
other_grade given wanted false differs some h = some h

half_is_not_full : (b : Bool) → where_fits Half b ≡ Full → ⊥
half_is_not_full b = other_grade Half Full b (λ e. cc) (λ e. cc)

second_is_not_full : (b : Bool) → where_fits Second b ≡ Full → ⊥
second_is_not_full b = other_grade Second Full b (λ e. cc) (λ e. cc)

full_is_not_half : (b : Bool) → where_fits Full b ≡ Half → ⊥
full_is_not_half b = other_grade Full Half b (λ e. cc) (λ e. cc)

second_is_not_half : (b : Bool) → where_fits Second b ≡ Half → ⊥
second_is_not_half b = other_grade Second Half b (λ e. cc) (λ e. cc)

full_is_not_second : (b : Bool) → where_fits Full b ≡ Second → ⊥
full_is_not_second b = other_grade Full Second b (λ e. cc) (λ e. cc)

half_is_not_second : (b : Bool) → where_fits Half b ≡ Second → ⊥
half_is_not_second b = other_grade Half Second b (λ e. cc) (λ e. cc)

-- what the law on covers needs of an entry and a place, at plain variables for their kinds
record Fits (vk : Kind) (s : Scope) (e : EntryHead) (v : PlaceView) : Type 0 where
  tag : HasTag v.tags (tag_of vk e)
  fits : fits_place s v ≡ true → fits_entry s e ≡ true
  lower : vk ≡ Ttbr0 → is_global_leaf e ≡ false
  upper : vk ≡ Ttbr1 → v.table ≡ false → v.global ≡ true → is_global_leaf e ≡ true

el2_full : (f : Family) (s : Scope) (vmid : Option ℕ) (e : EntryHead) (v : PlaceView) → Fits El2 s e v → cover_by El2 f (fits_place s v) s vmid v ≡ Full → taken_by El2Entry f (fits_entry s e) s vmid e ≡ true
el2_full El2All s vmid e v a h = refl
el2_full El2Va s vmid e v a h = a.fits (full_where (fits_place s v) h)
el2_full _ s vmid e v a h = cc

-- the two kinds of entries that are read through trees of stage 2
stage2_full : (ek : EntryKind) (f : Family) (s : Scope) (vmid : Option ℕ) (e : EntryHead) (v : PlaceView) → read_through ek S2 ≡ true → Fits S2 s e v
    → cover_by S2 f (fits_place s v) s vmid v ≡ Full → taken_by ek f (fits_entry s e) s vmid e ≡ true
stage2_full Stage2 E1All s vmid e v through a h = refl
stage2_full Combined E1All s vmid e v through a h = refl
stage2_full Stage2 VmAll12 s vmid e v through a h = vmid_of_tag vmid v.tags e.vmid a.tag (full_where (vmid_matches vmid v.tags) h)
stage2_full Combined VmAll12 s vmid e v through a h = vmid_of_tag vmid v.tags e.vmid a.tag (full_where (vmid_matches vmid v.tags) h)
stage2_full ek Ipa s vmid e v through a h = absurd (half_is_not_full (fits_place s v && vmid_matches vmid v.tags) h)
stage2_full ek VmAll1 s vmid e v through a h = absurd (second_is_not_full (vmid_matches vmid v.tags) h)
stage2_full _ _ s vmid e v through a h = cc

lower_full : (f : Family) (s : Scope) (vmid : Option ℕ) (e : EntryHead) (v : PlaceView) → Fits Ttbr0 s e v → cover_by Ttbr0 f (fits_place s v) s vmid v ≡ Full → taken_by El1 f (fits_entry s e) s vmid e ≡ true
lower_full VmAll1 s vmid e v a h = refl
lower_full VaAll s vmid e v a h = a.fits (full_where (fits_place s v) h)
lower_full Va s vmid e v a h =
    let fit : (fits_place s v && asid_matches s.asid v.tags) ≡ true = full_where (fits_place s v && asid_matches s.asid v.tags) h in
    and_from (fits_entry s e) (is_number s.asid e.asid || is_global_leaf e)
    (a.fits (and_parts (fits_place s v) (asid_matches s.asid v.tags) fit).0)
    (or_left (is_number s.asid e.asid) (is_global_leaf e) (asid_of_tag s.asid v.tags e.asid a.tag (and_parts (fits_place s v) (asid_matches s.asid v.tags) fit).1))
lower_full Asid s vmid e v a h =
    and_from (is_number s.asid e.asid) (not (is_global_leaf e))
    (asid_of_tag s.asid v.tags e.asid a.tag (full_where (asid_matches s.asid v.tags) h))
    (not_from_false (is_global_leaf e) (a.lower refl))
lower_full _ s vmid e v a h = cc

upper_full : (f : Family) (s : Scope) (vmid : Option ℕ) (e : EntryHead) (v : PlaceView) → Fits Ttbr1 s e v → cover_by Ttbr1 f (fits_place s v) s vmid v ≡ Full → taken_by El1 f (fits_entry s e) s vmid e ≡ true
upper_full VmAll1 s vmid e v a h = refl
upper_full VaAll s vmid e v a h = a.fits (full_where (fits_place s v) h)
upper_full Va s vmid e v a h =
    let fit : (fits_place s v && (not v.table && v.global)) ≡ true = full_where (fits_place s v && (not v.table && v.global)) h in
    let leaf : (not v.table && v.global) ≡ true = (and_parts (fits_place s v) (not v.table && v.global) fit).1 in
    and_from (fits_entry s e) (is_number s.asid e.asid || is_global_leaf e)
    (a.fits (and_parts (fits_place s v) (not v.table && v.global) fit).0)
    (or_right (is_number s.asid e.asid) (is_global_leaf e) (a.upper refl (not-true v.table (and_parts (not v.table) v.global leaf).0) (and_parts (not v.table) v.global leaf).1))
upper_full _ s vmid e v a h = cc

full_by : (ek : EntryKind) (vk : Kind) (s : Scope) (vmid : Option ℕ) (e : EntryHead) (v : PlaceView) → read_through ek vk ≡ true → Fits vk s e v
    → cover_by vk s.family (fits_place s v) s vmid v ≡ Full → taken_by ek s.family (fits_entry s e) s vmid e ≡ true
full_by El2Entry El2 s vmid e v through a h = el2_full s.family s vmid e v a h
full_by ek S2 s vmid e v through a h = stage2_full ek s.family s vmid e v through a h
full_by El1 Ttbr0 s vmid e v through a h = lower_full s.family s vmid e v a h
full_by El1 Ttbr1 s vmid e v through a h = upper_full s.family s vmid e v a h
full_by _ _ s vmid e v through a h = cc

-- only the first half is a half cover, and only the second half is a second one
half_by : (ek : EntryKind) (vk : Kind) (f : Family) (s : Scope) (vmid : Option ℕ) (e : EntryHead) (v : PlaceView) → ek ≡ Stage2 → read_through ek vk ≡ true → Fits vk s e v
    → cover_by vk f (fits_place s v) s vmid v ≡ Half → taken_by ek f (fits_entry s e) s vmid e ≡ true
half_by Stage2 S2 E1All s vmid e v kind through a h = refl
half_by Stage2 S2 VmAll12 s vmid e v kind through a h = absurd (full_is_not_half (vmid_matches vmid v.tags) h)
half_by Stage2 S2 VmAll1 s vmid e v kind through a h = absurd (second_is_not_half (vmid_matches vmid v.tags) h)
half_by Stage2 S2 Ipa s vmid e v kind through a h =
    let fit : (fits_place s v && vmid_matches vmid v.tags) ≡ true = half_where (fits_place s v && vmid_matches vmid v.tags) h in
    and_from (is_number vmid e.vmid) (fits_entry s e)
    (vmid_of_tag vmid v.tags e.vmid a.tag (and_parts (fits_place s v) (vmid_matches vmid v.tags) fit).1)
    (a.fits (and_parts (fits_place s v) (vmid_matches vmid v.tags) fit).0)
half_by _ _ _ s vmid e v kind through a h = cc

second_by : (ek : EntryKind) (vk : Kind) (f : Family) (s : Scope) (vmid : Option ℕ) (e : EntryHead) (v : PlaceView) → ek ≡ Combined → read_through ek vk ≡ true → Fits vk s e v
    → cover_by vk f (fits_place s v) s vmid v ≡ Second → taken_by ek f (fits_entry s e) s vmid e ≡ true
second_by Combined S2 E1All s vmid e v kind through a h = refl
second_by Combined S2 VmAll12 s vmid e v kind through a h = absurd (full_is_not_second (vmid_matches vmid v.tags) h)
second_by Combined S2 VmAll1 s vmid e v kind through a h = vmid_of_tag vmid v.tags e.vmid a.tag (second_where (vmid_matches vmid v.tags) h)
second_by Combined S2 Ipa s vmid e v kind through a h = absurd (half_is_not_second (fits_place s v && vmid_matches vmid v.tags) h)
second_by _ _ _ s vmid e v kind through a h = cc

-- an entry that was read through a place that holds a leaf ends in a leaf
ends_in_leaf : (table childless : Bool) (e : EntryHead) (v : PlaceView) → EndsBy table childless e v → table ≡ false → e.last ≡ true
ends_in_leaf false childless e v ending leaf = ending.0
ends_in_leaf true childless e v ending leaf = cc

fits_from_agrees : (s : Scope) (e : EntryHead) (v : PlaceView) → Agrees e v → Fits v.kind s e v
fits_from_agrees s e v a = record {
  tag = a.tag;
  fits = fits_through s e v a;
  lower = a.lower;
  upper = λ kind leaf global. and_from e.last e.global (ends_in_leaf v.table v.childless e v a.ending leaf) (a.upper kind leaf global);
}

pub full_takes : (s : Scope) (vmid : Option ℕ) (e : EntryHead) (v : PlaceView) → Agrees e v → cover_of s vmid v ≡ Full → taken s vmid e ≡ true
full_takes s vmid e v a h =
    let known : (not (lacks_vmid s.vmid_scoped vmid) ≡ true) × (cover_by v.kind s.family (fits_place s v) s vmid v ≡ Full)
    = cover_has_vmid (lacks_vmid s.vmid_scoped vmid) (cover_by v.kind s.family (fits_place s v) s vmid v) Full (λ e. cc) h in
    and_from (not (lacks_vmid s.vmid_scoped vmid)) (taken_by e.kind s.family (fits_entry s e) s vmid e) known.0
    (full_by e.kind v.kind s vmid e v a.kind (fits_from_agrees s e v a) known.1)

pub half_takes : (s : Scope) (vmid : Option ℕ) (e : EntryHead) (v : PlaceView) → Agrees e v → e.kind ≡ Stage2 → cover_of s vmid v ≡ Half → taken s vmid e ≡ true
half_takes s vmid e v a kind h =
    let known : (not (lacks_vmid s.vmid_scoped vmid) ≡ true) × (cover_by v.kind s.family (fits_place s v) s vmid v ≡ Half)
    = cover_has_vmid (lacks_vmid s.vmid_scoped vmid) (cover_by v.kind s.family (fits_place s v) s vmid v) Half (λ e. cc) h in
    and_from (not (lacks_vmid s.vmid_scoped vmid)) (taken_by e.kind s.family (fits_entry s e) s vmid e) known.0
    (half_by e.kind v.kind s.family s vmid e v kind a.kind (fits_from_agrees s e v a) known.1)

pub second_takes : (s : Scope) (vmid : Option ℕ) (e : EntryHead) (v : PlaceView) → Agrees e v → e.kind ≡ Combined → cover_of s vmid v ≡ Second → taken s vmid e ≡ true
second_takes s vmid e v a kind h =
    let known : (not (lacks_vmid s.vmid_scoped vmid) ≡ true) × (cover_by v.kind s.family (fits_place s v) s vmid v ≡ Second)
    = cover_has_vmid (lacks_vmid s.vmid_scoped vmid) (cover_by v.kind s.family (fits_place s v) s vmid v) Second (λ e. cc) h in
    and_from (not (lacks_vmid s.vmid_scoped vmid)) (taken_by e.kind s.family (fits_entry s e) s vmid e) known.0
    (second_by e.kind v.kind s.family s vmid e v kind a.kind (fits_from_agrees s e v a) known.1)

-- a whole-tag TLBI takes the entries of the tag
whole_by : (ek : EntryKind) (vk : Kind) (f : Family) (s : Scope) (vmid : Option ℕ) (e : EntryHead) → read_through ek vk ≡ true
    → (vk ≡ Ttbr0 → is_global_leaf e ≡ false) → whole_tag_by (tag_of vk e) f s vmid ≡ true → taken_by ek f (fits_entry s e) s vmid e ≡ true
whole_by El2Entry El2 El2All s vmid e through lower h = refl
whole_by Stage2 S2 E1All s vmid e through lower h = refl
whole_by Stage2 S2 VmAll12 s vmid e through lower h = h
whole_by Combined S2 E1All s vmid e through lower h = refl
whole_by Combined S2 VmAll12 s vmid e through lower h = h
whole_by El1 Ttbr0 VmAll1 s vmid e through lower h = refl
whole_by El1 Ttbr0 Asid s vmid e through lower h = and_from (is_number s.asid e.asid) (not (is_global_leaf e)) h (not_from_false (is_global_leaf e) (lower refl))
whole_by El1 Ttbr1 VmAll1 s vmid e through lower h = refl
whole_by _ _ _ s vmid e through lower h = cc

pub whole_takes : (s : Scope) (vmid : Option ℕ) (e : EntryHead) (kind : Kind) → read_through e.kind kind ≡ true → (kind ≡ Ttbr0 → is_global_leaf e ≡ false)
    → takes_whole_tag s vmid (tag_of kind e) ≡ true → taken s vmid e ≡ true
whole_takes s vmid e kind through lower h =
    and_from (not (lacks_vmid s.vmid_scoped vmid)) (taken_by e.kind s.family (fits_entry s e) s vmid e)
    (and_parts (not (lacks_vmid s.vmid_scoped vmid)) (whole_tag_by (tag_of kind e) s.family s vmid) h).0
    (whole_by e.kind kind s.family s vmid e through lower (and_parts (not (lacks_vmid s.vmid_scoped vmid)) (whole_tag_by (tag_of kind e) s.family s vmid) h).1)

pub ruleset laws = (full_takes, half_takes, second_takes, whole_takes)
