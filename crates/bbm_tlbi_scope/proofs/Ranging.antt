-- A scope over a range of pages takes and covers what the scopes with one page of it do.
use Rattle.std.proofs.Common.{◌≡◌, ◌≢◌, ℕ, Bool, true, false, Option, Some, is_none, min, max, ◌&&◌, ◌||◌, not, ◌≤◌}
use Rattle.std.proofs.Common.{◌↔◌, refl, ap, sym, ◌∙◌, arith, if◌then◌else◌}
use Rattle.std.proofs.lemmas.Bool.{and_from, and_parts}
use Rattle.std.proofs.lemmas.Bool.Decides.{nat_tests}
use Rattle.bbm_lemmas.proofs.Tautologies.{proved}
use Rattle.bbm_lemmas.proofs.Tautologies.Claim.{If, Is}
use Rattle.bbm_regimes.specs.Extent.{Extent, Has, meets, holds}
use Rattle.bbm_regimes.specs.declared.regime.Kind.{Kind}
use Rattle.bbm_regimes.specs.declared.regime.Kind.TheVariants.{El2, S2, Ttbr0, Ttbr1}
use Rattle.bbm_tlbi_scope.specs.declared.scope.Family.{Family}
use Rattle.bbm_tlbi_scope.specs.declared.scope.Family.TheVariants.{El2All, El2Va, E1All, VmAll1, Ipa, Va, VaAll}
use Rattle.bbm_tlbi_scope.specs.declared.scope.Scope.{Scope}
use Rattle.bbm_tlbi_scope.specs.declared.entry.EntryKind.{EntryKind}
use Rattle.bbm_tlbi_scope.specs.declared.entry.EntryKind.TheVariants.{El2 as El2Entry, Stage2, Combined, El1}
use Rattle.bbm_tlbi_scope.specs.declared.entry.EntryHead.{EntryHead}
use Rattle.bbm_tlbi_scope.specs.declared.entry.PlaceView.{PlaceView}
use Rattle.bbm_tlbi_scope.specs.declared.entry.Cover.{Cover}
use Rattle.bbm_tlbi_scope.specs.declared.entry.Cover.TheVariants.{None as NoCover}
use Rattle.bbm_tlbi_scope.specs.Numbers.{is_number, lacks_vmid, hint_allows, names_some, names_all}
use Rattle.bbm_tlbi_scope.specs.Decode.{one_page}
use Rattle.bbm_tlbi_scope.specs.Takes.{fits_entry, taken_by, taken}
use Rattle.bbm_tlbi_scope.specs.ScopeCovers.{fits_leaf, fits_place, cover_by, cover_of}
use Rattle.bbm_tlbi_scope.specs.Ranges.{at_page, IsOver, AtSomePage, is_lowest}
use Rattle.bbm_lemmas.proofs.Bools.{guarded_wider}

-- some page of an interval is in a region exactly where the interval meets it
page_in : Extent → Extent → ℕ
page_in pages region = max pages.lo (min region.lo pages.hi)

page_is_in : (pages region : Extent) → pages.lo ≤ pages.hi → Has pages (page_in pages region)
unfolding page_in
page_is_in pages region some = (omega arith, omega arith)

page_meets : (pages region : Extent) → pages.lo ≤ pages.hi → region.lo ≤ region.hi
    → meets (one_page (page_in pages region)) region ≡ meets pages region
unfolding page_in
page_meets pages region some filled = grind (arith, nat_tests)

-- what one page of an interval meets, and holds, the interval does
meets_wider : (pages region : Extent) (n : ℕ) → Has pages n → meets (one_page n) region ≡ true → meets pages region ≡ true
meets_wider pages region n inside h = grind (arith, nat_tests)

holds_wider : (pages region : Extent) (n : ℕ) → Has pages n → holds (one_page n) region ≡ true → holds pages region ≡ true
holds_wider pages region n inside h = grind (arith, nat_tests)

-- a conjunction holds where its first part holds of the wider
and_wider : (a b other : Bool) → (a ≡ true → b ≡ true) → (a && other) ≡ true → (b && other) ≡ true
and_wider = proved 3 (λ a b other. If (If (Is a true) (Is b true)) (If (Is (a && other) true) (Is (b && other) true)))
    refl

-- the pages of a scope count for nothing beside the fit
covers_at_page : (k : Kind) (f : Family) (fits : Bool) (s : Scope) (n : ℕ) (vmid : Option ℕ) (v : PlaceView) → cover_by k f fits (at_page s n) vmid v ≡ cover_by k f fits s vmid v
covers_at_page El2 El2All fits s n vmid v = refl
covers_at_page S2 E1All fits s n vmid v = refl
covers_at_page Ttbr0 VmAll1 fits s n vmid v = refl
covers_at_page Ttbr1 VmAll1 fits s n vmid v = refl
covers_at_page _ _ fits s n vmid v = refl

-- what is covered without a fit is covered with one
covers_fitting : (k : Kind) (f : Family) (s : Scope) (vmid : Option ℕ) (v : PlaceView) (c : Cover) → c ≢ NoCover → cover_by k f false s vmid v ≡ c → cover_by k f true s vmid v ≡ c
covers_fitting El2 El2Va s vmid v c some h = absurd (some (sym h))
covers_fitting S2 Ipa s vmid v c some h = absurd (some (sym h))
covers_fitting Ttbr0 VaAll s vmid v c some h = absurd (some (sym h))
covers_fitting Ttbr0 Va s vmid v c some h = absurd (some (sym h))
covers_fitting Ttbr1 VaAll s vmid v c some h = absurd (some (sym h))
covers_fitting Ttbr1 Va s vmid v c some h = absurd (some (sym h))
covers_fitting _ _ s vmid v c some h = h

covers_wider : (fits wider : Bool) (k : Kind) (f : Family) (s : Scope) (vmid : Option ℕ) (v : PlaceView) (c : Cover) → c ≢ NoCover → (fits ≡ true → wider ≡ true)
    → cover_by k f fits s vmid v ≡ c → cover_by k f wider s vmid v ≡ c
covers_wider true true k f s vmid v c some grows h = h
covers_wider true false k f s vmid v c some grows h = let e : false ≡ true = grows refl in cc
covers_wider false true k f s vmid v c some grows h = covers_fitting k f s vmid v c some h
covers_wider false false k f s vmid v c some grows h = h

-- the same for the entries that a TLBI takes
takes_at_page : (k : EntryKind) (f : Family) (fits : Bool) (s : Scope) (n : ℕ) (vmid : Option ℕ) (e : EntryHead) → taken_by k f fits (at_page s n) vmid e ≡ taken_by k f fits s vmid e
takes_at_page El2Entry El2All fits s n vmid e = refl
takes_at_page Stage2 E1All fits s n vmid e = refl
takes_at_page Combined E1All fits s n vmid e = refl
takes_at_page El1 VmAll1 fits s n vmid e = refl
takes_at_page _ _ fits s n vmid e = refl

takes_fitting : (k : EntryKind) (f : Family) (s : Scope) (vmid : Option ℕ) (e : EntryHead) → taken_by k f false s vmid e ≡ true → taken_by k f true s vmid e ≡ true
takes_fitting El2Entry El2Va s vmid e h = cc
takes_fitting Stage2 Ipa s vmid e h = let e : false ≡ true = (and_parts (is_number vmid e.vmid) false h).1 in cc
takes_fitting El1 VaAll s vmid e h = cc
takes_fitting El1 Va s vmid e h = cc
takes_fitting Combined E1All s vmid e h = h
takes_fitting _ _ s vmid e h = h

takes_wider : (fits wider : Bool) (k : EntryKind) (f : Family) (s : Scope) (vmid : Option ℕ) (e : EntryHead) → (fits ≡ true → wider ≡ true)
    → taken_by k f fits s vmid e ≡ true → taken_by k f wider s vmid e ≡ true
takes_wider true true k f s vmid e grows h = h
takes_wider true false k f s vmid e grows h = let e : false ≡ true = grows refl in cc
takes_wider false true k f s vmid e grows h = takes_fitting k f s vmid e h
takes_wider false false k f s vmid e grows h = h

-- whether a scope with these pages fits, where it is alike otherwise
some_wider : (interval : Option Extent) (pages region : Extent) (n : ℕ) → interval ≡ Some pages → Has pages n → names_some (Some (one_page n)) region ≡ true → names_some interval region ≡ true
some_wider interval pages region n over inside h = rw over (meets_wider pages region n inside h)

all_wider : (interval : Option Extent) (pages region : Extent) (n : ℕ) → interval ≡ Some pages → Has pages n → names_all (Some (one_page n)) region ≡ true → names_all interval region ≡ true
all_wider interval pages region n over inside h = rw over (holds_wider pages region n inside h)

some_same : (interval : Option Extent) (pages region : Extent) → interval ≡ Some pages → pages.lo ≤ pages.hi → region.lo ≤ region.hi
    → names_some (Some (one_page (page_in pages region))) region ≡ names_some interval region
some_same interval pages region over some filled = rw over (page_meets pages region some filled)

entry_wider : (s : Scope) (pages : Extent) (n : ℕ) (e : EntryHead) → IsOver s pages → Has pages n → fits_entry (at_page s n) e ≡ true → fits_entry s e ≡ true
entry_wider s pages n e over inside h =
    and_wider (names_some (Some (one_page n)) e.region) (names_some s.interval e.region) (if e.last then hint_allows s.level e.level else (not s.last_only && is_none s.level))
    (some_wider s.interval pages e.region n over.interval inside) h

entry_same : (s : Scope) (pages : Extent) (e : EntryHead) → IsOver s pages → e.region.lo ≤ e.region.hi → fits_entry (at_page s (page_in pages e.region)) e ≡ fits_entry s e
entry_same s pages e over filled =
    ap (λ (b : Bool). b && (if e.last then hint_allows s.level e.level else (not s.last_only && is_none s.level)))
    (some_same s.interval pages e.region over.interval over.some filled)

place_wider : (table childless : Bool) (s : Scope) (pages : Extent) (n : ℕ) (v : PlaceView) → IsOver s pages → Has pages n
    → (if table then (not s.last_only && is_none s.level && (if childless then names_some (Some (one_page n)) v.region else names_all (Some (one_page n)) v.region)) else fits_leaf (at_page s n) v) ≡ true
    → (if table then (not s.last_only && is_none s.level && (if childless then names_some s.interval v.region else names_all s.interval v.region)) else fits_leaf s v) ≡ true
place_wider false childless s pages n v over inside h =
    and_wider (names_some (Some (one_page n)) v.region) (names_some s.interval v.region) (hint_allows s.level v.level)
    (some_wider s.interval pages v.region n over.interval inside) h
place_wider true true s pages n v over inside h =
    and_from (not s.last_only && is_none s.level) (names_some s.interval v.region)
    (and_parts (not s.last_only && is_none s.level) (names_some (Some (one_page n)) v.region) h).0
    (some_wider s.interval pages v.region n over.interval inside (and_parts (not s.last_only && is_none s.level) (names_some (Some (one_page n)) v.region) h).1)
place_wider true false s pages n v over inside h =
    and_from (not s.last_only && is_none s.level) (names_all s.interval v.region)
    (and_parts (not s.last_only && is_none s.level) (names_all (Some (one_page n)) v.region) h).0
    (all_wider s.interval pages v.region n over.interval inside (and_parts (not s.last_only && is_none s.level) (names_all (Some (one_page n)) v.region) h).1)

place_same : (table childless : Bool) (s : Scope) (n : ℕ) (v : PlaceView) → (not table || childless) ≡ true
    → names_some (Some (one_page n)) v.region ≡ names_some s.interval v.region
    → (if table then (not s.last_only && is_none s.level && (if childless then names_some (Some (one_page n)) v.region else names_all (Some (one_page n)) v.region)) else fits_leaf (at_page s n) v)
    ≡ (if table then (not s.last_only && is_none s.level && (if childless then names_some s.interval v.region else names_all s.interval v.region)) else fits_leaf s v)
place_same false childless s n v lowest same = ap (λ (b : Bool). b && hint_allows s.level v.level) same
place_same true true s n v lowest same = ap (λ (b : Bool). (not s.last_only && is_none s.level) && b) same
place_same true false s n v lowest same = cc

-- a table without the VMID guard, and with it
guarded_cover : (lacks : Bool) (given other c : Cover) → c ≢ NoCover → (given ≡ c → other ≡ c) → (if lacks then NoCover else given) ≡ c → (if lacks then NoCover else other) ≡ c
guarded_cover true given other c some keeps h = h
guarded_cover false given other c some keeps h = keeps h

-- what the scope of one page covers, the scope of the range covers
pub page_covers : (s : Scope) (pages : Extent) (n : ℕ) (vmid : Option ℕ) (v : PlaceView) (c : Cover) → IsOver s pages → Has pages n → c ≢ NoCover
    → cover_of (at_page s n) vmid v ≡ c → cover_of s vmid v ≡ c
page_covers s pages n vmid v c over inside some h =
    guarded_cover (lacks_vmid s.vmid_scoped vmid) (cover_by v.kind s.family (fits_place (at_page s n) v) (at_page s n) vmid v) (cover_by v.kind s.family (fits_place s v) s vmid v) c some
    (λ given. covers_wider (fits_place (at_page s n) v) (fits_place s v) v.kind s.family s vmid v c some
    (place_wider v.table v.childless s pages n v over inside)
    (sym (covers_at_page v.kind s.family (fits_place (at_page s n) v) s n vmid v) ∙ given))
    h

-- at a leaf and at a childless table some page of the range covers as the range does
covers_page : (s : Scope) (pages : Extent) (vmid : Option ℕ) (v : PlaceView) → IsOver s pages → v.region.lo ≤ v.region.hi → is_lowest v ≡ true
    → cover_of (at_page s (page_in pages v.region)) vmid v ≡ cover_of s vmid v
covers_page s pages vmid v over filled lowest =
    let n : ℕ = page_in pages v.region in
    ap (λ (c : Cover). if lacks_vmid s.vmid_scoped vmid then NoCover else c)
    (covers_at_page v.kind s.family (fits_place (at_page s n) v) s n vmid v
    ∙ ap (λ (b : Bool). cover_by v.kind s.family b s vmid v) (place_same v.table v.childless s n v lowest (some_same s.interval pages v.region over.interval over.some filled)))

pub range_covers : (s : Scope) (pages : Extent) (vmid : Option ℕ) (v : PlaceView) (c : Cover) → IsOver s pages → v.region.lo ≤ v.region.hi → is_lowest v ≡ true → c ≢ NoCover
    → (cover_of s vmid v ≡ c) ↔ AtSomePage s pages (λ t. cover_of t vmid v ≡ c)
range_covers s pages vmid v c over filled lowest some = (
  (λ h. (page_in pages v.region, page_is_in pages v.region over.some, covers_page s pages vmid v over filled lowest ∙ h)),
  (λ (n, inside, h). page_covers s pages n vmid v c over inside some h),
)

page_takes : (s : Scope) (pages : Extent) (n : ℕ) (vmid : Option ℕ) (e : EntryHead) → IsOver s pages → Has pages n → taken (at_page s n) vmid e ≡ true → taken s vmid e ≡ true
page_takes s pages n vmid e over inside h =
    guarded_wider (lacks_vmid s.vmid_scoped vmid) (taken_by e.kind s.family (fits_entry (at_page s n) e) (at_page s n) vmid e) (taken_by e.kind s.family (fits_entry s e) s vmid e)
    (λ given. takes_wider (fits_entry (at_page s n) e) (fits_entry s e) e.kind s.family s vmid e
    (entry_wider s pages n e over inside)
    (sym (takes_at_page e.kind s.family (fits_entry (at_page s n) e) s n vmid e) ∙ given))
    h

takes_page : (s : Scope) (pages : Extent) (vmid : Option ℕ) (e : EntryHead) → IsOver s pages → e.region.lo ≤ e.region.hi
    → taken (at_page s (page_in pages e.region)) vmid e ≡ taken s vmid e
takes_page s pages vmid e over filled =
    let n : ℕ = page_in pages e.region in
    ap (λ (b : Bool). not (lacks_vmid s.vmid_scoped vmid) && b)
    (takes_at_page e.kind s.family (fits_entry (at_page s n) e) s n vmid e
    ∙ ap (λ (b : Bool). taken_by e.kind s.family b s vmid e) (entry_same s pages e over filled))

pub range_takes : (s : Scope) (pages : Extent) (vmid : Option ℕ) (e : EntryHead) → IsOver s pages → e.region.lo ≤ e.region.hi
    → (taken s vmid e ≡ true) ↔ AtSomePage s pages (λ t. taken t vmid e ≡ true)
range_takes s pages vmid e over filled = (
  (λ h. (page_in pages e.region, page_is_in pages e.region over.some, takes_page s pages vmid e over filled ∙ h)),
  (λ (n, inside, h). page_takes s pages n vmid e over inside h),
)
