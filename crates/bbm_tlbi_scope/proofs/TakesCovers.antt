-- What takes an entry that ends at a place covers the place, where the root of the place holds no tag but that of the entry.
use Rattle.std.proofs.Common.{◌≡◌, ℕ, Bool, true, false, Option, Some, None, is_none, ◌&&◌, ◌||◌, not, refl, ap}
use Rattle.std.proofs.Common.{sym, ◌∙◌, inl, inr, ◌⊎◌, true≢false, if◌then◌else◌}
use Rattle.std.proofs.lemmas.Bool.{and_from, and_parts, or_cases, not-true}
use Rattle.bbm_regimes.specs.declared.regime.Kind.{Kind}
use Rattle.bbm_regimes.specs.declared.regime.Kind.TheVariants.{El2, S2, Ttbr0, Ttbr1}
use Rattle.bbm_regimes.specs.declared.regime.Tag.TheVariants.{Vmid, Asid as AsidTag}
use Rattle.bbm_tlbi_scope.specs.declared.scope.Family.{Family}
use Rattle.bbm_tlbi_scope.specs.declared.scope.Family.TheVariants.{El2All, El2Va, E1All, VmAll1, VmAll12, Ipa, Va}
use Rattle.bbm_tlbi_scope.specs.declared.scope.Family.TheVariants.{VaAll, Asid}
use Rattle.bbm_tlbi_scope.specs.declared.scope.Scope.{Scope}
use Rattle.bbm_tlbi_scope.specs.declared.entry.EntryKind.{EntryKind}
use Rattle.bbm_tlbi_scope.specs.declared.entry.EntryKind.TheVariants.{El2 as El2Entry, Stage2, Combined, El1}
use Rattle.bbm_tlbi_scope.specs.declared.entry.EntryHead.{EntryHead}
use Rattle.bbm_tlbi_scope.specs.declared.entry.PlaceView.{PlaceView}
use Rattle.bbm_tlbi_scope.specs.declared.entry.TagSet.{TagSet}
use Rattle.bbm_tlbi_scope.specs.declared.entry.TagSet.TheVariants.{One}
use Rattle.bbm_tlbi_scope.specs.declared.entry.Cover.{Cover}
use Rattle.bbm_tlbi_scope.specs.declared.entry.Cover.TheVariants.{Half, Second, Full}
use Rattle.bbm_tlbi_scope.specs.Numbers.{is_number, lacks_vmid, names_some, names_all}
use Rattle.bbm_tlbi_scope.specs.Takes.{fits_entry, is_global_leaf, taken_by, taken}
use Rattle.bbm_tlbi_scope.specs.ScopeCovers.{fits_leaf, fits_place, vmid_matches, asid_matches, where_fits, cover_by}
use Rattle.bbm_tlbi_scope.specs.ScopeCovers.{cover_of}
use Rattle.bbm_tlbi_scope.specs.Operations.{has_asid}
use Rattle.bbm_tlbi_scope.specs.Agreement.{read_through, tag_of, EndsBy, Agrees, EndsAlone, IsCoverFor}

-- a number that is that of an entry matches the tags of a root that holds its tag alone
vmid_back : (vmid : Option ℕ) (tags : TagSet) (n : ℕ) → tags ≡ One (Vmid n) → is_number vmid n ≡ true → vmid_matches vmid tags ≡ true
vmid_back None tags n e same = same
vmid_back (Some m) tags n e same = rw e same

asid_back : (asid : Option ℕ) (tags : TagSet) (n : ℕ) → tags ≡ One (AsidTag n) → is_number asid n ≡ true → asid_matches asid tags ≡ true
asid_back None tags n e same = same
asid_back (Some m) tags n e same = rw e same

-- a scope whose address fits an entry fits the place at which it ends
fits_back_by : (table childless : Bool) (s : Scope) (e : EntryHead) (v : PlaceView) → EndsBy table childless e v → (table ≡ true → childless ≡ true)
    → fits_entry s e ≡ true
    → (if table then (not s.last_only && is_none s.level && (if childless then names_some s.interval v.region else names_all s.interval v.region)) else fits_leaf s v) ≡ true
fits_back_by false childless s e v ending none fits = rw (ending.0, ending.1, ending.2) at fits
fits_back_by true true s e v ending none fits =
    let here : (names_some s.interval v.region && (not s.last_only && is_none s.level)) ≡ true = rw (ending.0, ending.1) at fits in
    let parts = and_parts (names_some s.interval v.region) (not s.last_only && is_none s.level) here in
    and_from (not s.last_only && is_none s.level) (names_some s.interval v.region) parts.1 parts.0
fits_back_by true false s e v ending none fits = absurd (true≢false (sym (none refl)))

-- what that needs of an entry and a place, at plain variables for their kinds
record Back (vk : Kind) (f : Family) (s : Scope) (e : EntryHead) (v : PlaceView) : Type 0 where
  tags : v.tags ≡ One (tag_of vk e)
  fits : fits_entry s e ≡ true → fits_place s v ≡ true
  lower : vk ≡ Ttbr0 → is_global_leaf e ≡ false
  upper : vk ≡ Ttbr1 → ((is_global_leaf e ≡ true) × ((not v.table && v.global) ≡ true)) ⊎ (has_asid f ≡ false)

el2_back : (f : Family) (s : Scope) (vmid : Option ℕ) (e : EntryHead) (v : PlaceView) → Back El2 f s e v
    → taken_by El2Entry f (fits_entry s e) s vmid e ≡ true → cover_by El2 f (fits_place s v) s vmid v ≡ Full
el2_back El2All s vmid e v a h = refl
el2_back El2Va s vmid e v a h = ap (where_fits Full) (a.fits h)
el2_back _ s vmid e v a h = absurd (true≢false (sym h))

stage2_back : (f : Family) (s : Scope) (vmid : Option ℕ) (e : EntryHead) (v : PlaceView) → Back S2 f s e v
    → taken_by Stage2 f (fits_entry s e) s vmid e ≡ true → IsCoverFor Stage2 (cover_by S2 f (fits_place s v) s vmid v)
stage2_back E1All s vmid e v a h = inl refl
stage2_back VmAll12 s vmid e v a h = inl (ap (where_fits Full) (vmid_back vmid v.tags e.vmid a.tags h))
stage2_back Ipa s vmid e v a h =
    let parts = and_parts (is_number vmid e.vmid) (fits_entry s e) h in
    inr (inl (refl, ap (where_fits Half) (and_from (fits_place s v) (vmid_matches vmid v.tags) (a.fits parts.1) (vmid_back vmid v.tags e.vmid a.tags parts.0))))
stage2_back _ s vmid e v a h = absurd (true≢false (sym h))

combined_back : (f : Family) (s : Scope) (vmid : Option ℕ) (e : EntryHead) (v : PlaceView) → Back S2 f s e v
    → taken_by Combined f (fits_entry s e) s vmid e ≡ true → IsCoverFor Combined (cover_by S2 f (fits_place s v) s vmid v)
combined_back E1All s vmid e v a h = inl refl
combined_back VmAll12 s vmid e v a h = inl (ap (where_fits Full) (vmid_back vmid v.tags e.vmid a.tags h))
combined_back VmAll1 s vmid e v a h = inr (inr (refl, ap (where_fits Second) (vmid_back vmid v.tags e.vmid a.tags h)))
combined_back _ s vmid e v a h = absurd (true≢false (sym h))

lower_back : (f : Family) (s : Scope) (vmid : Option ℕ) (e : EntryHead) (v : PlaceView) → Back Ttbr0 f s e v
    → taken_by El1 f (fits_entry s e) s vmid e ≡ true → cover_by Ttbr0 f (fits_place s v) s vmid v ≡ Full
lower_back VmAll1 s vmid e v a h = refl
lower_back VaAll s vmid e v a h = ap (where_fits Full) (a.fits h)
lower_back Va s vmid e v a h =
    let parts = and_parts (fits_entry s e) (is_number s.asid e.asid || is_global_leaf e) h in
    elim (or_cases (is_number s.asid e.asid) (is_global_leaf e) parts.1) [
      | inl same ↦ ap (where_fits Full) (and_from (fits_place s v) (asid_matches s.asid v.tags) (a.fits parts.0) (asid_back s.asid v.tags e.asid a.tags same))
      | inr global ↦ absurd (true≢false (sym global ∙ a.lower refl))
    ]
lower_back Asid s vmid e v a h =
    let parts = and_parts (is_number s.asid e.asid) (not (is_global_leaf e)) h in
    ap (where_fits Full) (asid_back s.asid v.tags e.asid a.tags parts.0)
lower_back _ s vmid e v a h = absurd (true≢false (sym h))

upper_back : (f : Family) (s : Scope) (vmid : Option ℕ) (e : EntryHead) (v : PlaceView) → Back Ttbr1 f s e v
    → taken_by El1 f (fits_entry s e) s vmid e ≡ true → cover_by Ttbr1 f (fits_place s v) s vmid v ≡ Full
upper_back VmAll1 s vmid e v a h = refl
upper_back VaAll s vmid e v a h = ap (where_fits Full) (a.fits h)
upper_back Va s vmid e v a h =
    let parts = and_parts (fits_entry s e) (is_number s.asid e.asid || is_global_leaf e) h in
    elim (a.upper refl) [
      | inl global ↦ ap (where_fits Full) (and_from (fits_place s v) (not v.table && v.global) (a.fits parts.0) global.1)
      | inr apart ↦ absurd (true≢false apart)
    ]
upper_back Asid s vmid e v a h =
    let parts = and_parts (is_number s.asid e.asid) (not (is_global_leaf e)) h in
    elim (a.upper refl) [
      | inl global ↦ absurd (true≢false (sym global.0 ∙ not-true (is_global_leaf e) parts.1))
      | inr apart ↦ absurd (true≢false apart)
    ]
upper_back _ s vmid e v a h = absurd (true≢false (sym h))

back_by : (ek : EntryKind) (vk : Kind) (f : Family) (s : Scope) (vmid : Option ℕ) (e : EntryHead) (v : PlaceView) → read_through ek vk ≡ true
    → Back vk f s e v → taken_by ek f (fits_entry s e) s vmid e ≡ true → IsCoverFor ek (cover_by vk f (fits_place s v) s vmid v)
back_by El2Entry El2 f s vmid e v through a h = inl (el2_back f s vmid e v a h)
back_by Stage2 S2 f s vmid e v through a h = stage2_back f s vmid e v a h
back_by Combined S2 f s vmid e v through a h = combined_back f s vmid e v a h
back_by El1 Ttbr0 f s vmid e v through a h = inl (lower_back f s vmid e v a h)
back_by El1 Ttbr1 f s vmid e v through a h = inl (upper_back f s vmid e v a h)
back_by _ _ f s vmid e v through a h = absurd (true≢false (sym through))

pub taken_covers : (s : Scope) (vmid : Option ℕ) (e : EntryHead) (v : PlaceView) → EndsAlone s.family e v → taken s vmid e ≡ true
    → IsCoverFor e.kind (cover_of s vmid v)
taken_covers s vmid e v a h =
    let parts = and_parts (not (lacks_vmid s.vmid_scoped vmid)) (taken_by e.kind s.family (fits_entry s e) s vmid e) h in
    let has : lacks_vmid s.vmid_scoped vmid ≡ false = not-true (lacks_vmid s.vmid_scoped vmid) parts.0 in
    let back : Back v.kind s.family s e v = record {
      tags = a.alone;
      fits = fits_back_by v.table v.childless s e v a.agrees.ending a.ending;
      lower = a.agrees.lower;
      upper = a.for_all;
    } in
    rw has (back_by e.kind v.kind s.family s vmid e v a.agrees.kind back parts.1)
