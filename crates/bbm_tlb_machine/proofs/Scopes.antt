-- What a TLBI that covers a place is, and the family of the scope that it names.
use Rattle.bbm_rules.proofs.Common.{◌≡◌, ℕ, ◌≤◌, ◌⊎◌, Bool, true, false, cond, List, Option, Some, None, Result, Ok}
use Rattle.bbm_rules.proofs.Common.{Err, unwrap_or, length, refl, sym, ◌∙◌, ap, inl, inr, true≢false, result_ok, le-leb}
use Rattle.bbm_rules.proofs.Common.{Family, El2Va, VmAll1, VmAll12, Ipa, Va, VaAll, Cover, Half, Second, Full}
use Rattle.bbm_rules.proofs.Common.{EntryKind, Stage2, Combined, PlaceView, read_through, cover_by, cover_of}
use Rattle.bbm_rules.proofs.Common.{fits_place, scope_of, operation, taken, Trust, cover_at, view_at, ◌>>=◌, Noted}
use Rattle.bbm_rules.proofs.Common.{events_of, Heading, El2, S2, Ttbr0, Ttbr1, Tag, Vmid, Event, Tlbi, reaches}
use Rattle.bbm_rules.proofs.Common.{lacks_vmid, named_scope, vmid_of}
use Rattle.bbm_range.specs.declared.Range.{Range}
use Rattle.bbm_range.specs.declared.BadRange.{BadRange}
use Rattle.bbm_range.specs.declared.BadRange.TheVariants.{Granule, Unaligned}
use Rattle.bbm_range.specs.RangePages.{range_of}
use Rattle.bbm_tlbi_scope.specs.declared.op.TlbiOp.{TlbiOp}
use Rattle.bbm_tlbi_scope.specs.declared.scope.BadOperand.{BadOperand}
use Rattle.bbm_tlbi_scope.specs.declared.scope.Family.TheVariants.{Asid as ByAsid}
use Rattle.bbm_tlbi_scope.specs.declared.scope.Scope.{Scope}
use Rattle.bbm_tlbi_scope.specs.declared.entry.Cover.TheVariants.{None as NoCover}
use Rattle.bbm_tlbi_scope.specs.ScopeCovers.{where_fits}
use Rattle.bbm_tlbi_scope.specs.Decode.{canonical, granule_known, range_canonical, scope_over}
use Rattle.bbm_tlbi_scope.specs.Numbers.{lacks_vmid as scope_lacks_vmid}
use Rattle.bbm_tlbi_scope.specs.Operations.{family_of}
use Rattle.bbm_tlbi_scope.specs.ScopeTags.{whole_tag_by}
use Rattle.bbm_rules.specs.Covers.{top_at}
use Rattle.bbm_tlbi_scope.specs.ScopeCovers.{at_end}
use Rattle.bbm_rules.specs.Prelude.{Kind}
use Rattle.bbm_tlb_machine.specs.Entry.{Entry, age_by, head_of}
use Rattle.bbm_tlb_machine.specs.Step.{must_go}

-- ---- the family of a scope

has_family : (op : TlbiOp) (x s : Scope) → Some x ≡ Some s → x.family ≡ family_of op → s.family ≡ family_of op
has_family op x s e f = let same : x ≡ s = cc in ap (λ (y : Scope). y.family) (sym same) ∙ f

-- what holds of what both give holds of what one of them gives
either : {P : Type 0} (s : Scope) (b : Bool) (x y : Result Scope BadOperand) → (result_ok x ≡ Some s → P)
    → (result_ok y ≡ Some s → P) → result_ok (cond b x y) ≡ Some s → P
either s true x y f g k = f k
either s false x y f g k = g k

over_family : (op : TlbiOp) (xt : ℕ) (s : Scope) (r : Result Range BadRange) → result_ok (scope_over (operation op) xt r) ≡ Some s
    → s.family ≡ family_of op
over_family op xt s (Ok range) k = has_family op _ s k refl
over_family op xt s (Err Granule) k = cc
over_family op xt s (Err Unaligned) k = cc

scope_family : (op : TlbiOp) (xt : ℕ) (s : Scope) → result_ok (scope_of op xt) ≡ Some s → s.family ≡ family_of op
scope_family op xt s e =
    either s (operation op).range _ _ (either s (range_canonical (operation op).family xt) _ _ (over_family op xt s (range_of xt)) (λ k. cc))
    (either s (canonical (operation op).family xt) _ _
    (either s (granule_known (operation op).family xt) _ _ (λ k. has_family op _ s k refl) (λ k. cc)) (λ k. cc)) e

pub named_family : (heading : Heading) (h : List Event) (pe : ℕ) (op : TlbiOp) (xt : ℕ) (s : Scope)
    → named_scope heading h pe op xt ≡ Some s → s.family ≡ family_of op
named_family heading h pe op xt s e = by (lacks_vmid heading h pe op) e
  where
    by : (a : Bool) → cond a None (result_ok (scope_of op xt)) ≡ Some s → s.family ≡ family_of op
    by true k = cc
    by false k = scope_family op xt s k

-- ---- covers by kind and family

-- the test of the VMID aside
pub cover_inside : (s : Scope) (vmid : Option ℕ) (v : PlaceView) (cover : Cover) → (cover ≡ NoCover → ⊥) → cover_of s vmid v ≡ cover
    → cover_by v.kind s.family (fits_place s v) s vmid v ≡ cover
cover_inside s vmid v cover some e = by (scope_lacks_vmid s.vmid_scoped vmid) e
  where
    by : (a : Bool) → cond a NoCover (cover_by v.kind s.family (fits_place s v) s vmid v) ≡ cover
        → cover_by v.kind s.family (fits_place s v) s vmid v ≡ cover
    by true k = absurd (some (sym k))
    by false k = k

-- where a cover is another one, or none, it isn't that
apart : (c d : Cover) (b : Bool) → where_fits c b ≡ d → (c ≡ d → ⊥) → (NoCover ≡ d → ⊥) → ⊥
apart c d true e k l = k e
apart c d false e k l = l e

pub half_is_s2 : (kind : Kind) (family : Family) (fits : Bool) (s : Scope) (vmid : Option ℕ) (v : PlaceView)
    → cover_by kind family fits s vmid v ≡ Half → kind ≡ S2
half_is_s2 S2 family fits s vmid v e = refl
half_is_s2 El2 El2Va fits s vmid v e = absurd (apart Full Half fits e (λ k. cc) (λ k. cc))
half_is_s2 Ttbr0 Va fits s vmid v e = absurd (apart Full Half _ e (λ k. cc) (λ k. cc))
half_is_s2 Ttbr0 VaAll fits s vmid v e = absurd (apart Full Half fits e (λ k. cc) (λ k. cc))
half_is_s2 Ttbr0 ByAsid fits s vmid v e = absurd (apart Full Half _ e (λ k. cc) (λ k. cc))
half_is_s2 Ttbr1 Va fits s vmid v e = absurd (apart Full Half _ e (λ k. cc) (λ k. cc))
half_is_s2 Ttbr1 VaAll fits s vmid v e = absurd (apart Full Half fits e (λ k. cc) (λ k. cc))
half_is_s2 kind family fits s vmid v e = cc

-- an entry that was read through stage 2 is of stage 2, or combines the stages
pub through_s2 : (kind : EntryKind) → read_through kind S2 ≡ true → (kind ≡ Stage2) ⊎ (kind ≡ Combined)
through_s2 Stage2 e = inl refl
through_s2 Combined e = inr refl
through_s2 kind e = absurd (true≢false (sym e))

-- a TLBI that takes stage 1 entries of a VMID covers no place of stage 2 in full; so what covers a place in full sees an
-- entry as old as its first part
pub full_age : (kind : Kind) (family : Family) (fits : Bool) (s : Scope) (vmid : Option ℕ) (v : PlaceView) (entry : EntryKind)
    (since joined : ℕ) → read_through entry kind ≡ true → cover_by kind family fits s vmid v ≡ Full
    → age_by family entry since joined ≡ since
full_age S2 VmAll1 fits s vmid v Combined since joined t e = absurd (apart Second Full _ e (λ k. cc) (λ k. cc))
full_age kind VmAll1 fits s vmid v Combined since joined t e = absurd (true≢false (sym t))
full_age kind family fits s vmid v entry since joined t e = refl

pub stage2_age : (family : Family) (since joined : ℕ) → age_by family Stage2 since joined ≡ since
stage2_age VmAll1 since joined = refl
stage2_age family since joined = refl

-- the rest of a stage 2 cover is for all stage 1 entries of a VMID
pub second_age : (kind : Kind) (family : Family) (fits : Bool) (s : Scope) (vmid : Option ℕ) (v : PlaceView) (since joined : ℕ)
    → read_through Combined kind ≡ true → cover_by kind family fits s vmid v ≡ Second → age_by family Combined since joined ≡ joined
second_age S2 VmAll1 fits s vmid v since joined t e = refl
second_age S2 VmAll12 fits s vmid v since joined t e = absurd (apart Full Second _ e (λ k. cc) (λ k. cc))
second_age S2 Ipa fits s vmid v since joined t e = absurd (apart Half Second _ e (λ k. cc) (λ k. cc))
second_age S2 family fits s vmid v since joined t e = cc
second_age kind family fits s vmid v since joined t e = absurd (true≢false (sym t))

-- what takes a whole tag sees an entry as old as its first part, too
pub whole_age : (tag : Tag) (family : Family) (s : Scope) (vmid : Option ℕ) (entry : EntryKind) (since joined : ℕ)
    → (entry ≡ Combined → (v : ℕ) × (tag ≡ Vmid v)) → whole_tag_by tag family s vmid ≡ true → age_by family entry since joined ≡ since
whole_age tag VmAll1 s vmid Combined since joined c e =
    let v = c refl in absurd (true≢false (sym e ∙ ap (λ (g : Tag). whole_tag_by g VmAll1 s vmid) v.1))
whole_age tag family s vmid entry since joined c e = refl

-- ---- a TLBI that covers a place

module _ (heading : Heading) (before : List Event) where
  -- the event is a TLBI, and this is said of its scope and its VMID
  pub record Scoped (e : Event) (Says : Scope → Option ℕ → Type 0) : Type 0 where
    pub pe : ℕ
    pub op : TlbiOp
    pub xt : ℕ
    pub scope : Scope
    pub is : e ≡ Tlbi pe op xt
    pub named : named_scope heading before pe op xt ≡ Some scope
    pub says : Says scope (vmid_of heading before pe)

  pub scoped : (pe : ℕ) (op : TlbiOp) (xt : ℕ) (Says : Scope → Option ℕ → Type 0) (Of : Option Scope → Type 0) → (Of None → ⊥)
      → ((scope : Scope) → Of (Some scope) → Says scope (vmid_of heading before pe)) → Of (named_scope heading before pe op xt)
      → Scoped (Tlbi pe op xt) Says
  scoped pe op xt Says Of none some k = by (named_scope heading before pe op xt) refl k
    where
      by : (o : Option Scope) → named_scope heading before pe op xt ≡ o → Of o → Scoped (Tlbi pe op xt) Says
      by None n k = absurd (none k)
      by (Some scope) n k =
          record { pe = pe; op = op; xt = xt; scope = scope; is = refl; named = n; says = some scope k }

-- its scope covers the place so
abbrev pub CoversBy : Heading → List Noted → Event → PlaceView → Cover → Type 0
CoversBy heading older e v cover = Scoped heading (events_of older) e (λ scope vmid. cover_of scope vmid v ≡ cover)

module _ (heading : Heading) (trust : Trust) where
  -- what covers a place seen so, covers it by its scope
  by_scope : (older : List Noted) (pe : ℕ) (op : TlbiOp) (xt : ℕ) (v : PlaceView) (cover : Cover) → (cover ≡ NoCover → ⊥)
      → unwrap_or (named_scope heading (events_of older) pe op xt
      >>= (λ (s : Scope). Some (cover_of s (vmid_of heading (events_of older) pe) v))) NoCover ≡ cover
      → CoversBy heading older (Tlbi pe op xt) v cover
  by_scope older pe op xt v cover some c =
      scoped heading (events_of older) pe op xt _
      (λ (o : Option Scope). unwrap_or (o >>= (λ (s : Scope). Some (cover_of s (vmid_of heading (events_of older) pe) v))) NoCover ≡ cover)
      (λ k. some (sym k)) (λ scope k. k) c

  pub covers_by : (older : List Noted) (e : Event) (place : ℕ) (v : PlaceView) (cover : Cover)
      → view_at heading trust older place ≡ Some v → (cover ≡ NoCover → ⊥) → cover_at heading trust older e place ≡ cover
      → CoversBy heading older e v cover
  covers_by older (Tlbi pe op xt) place v cover seen some c = by_scope older pe op xt v cover some (rw seen at c)
  covers_by older e place v cover seen some c = absurd (some (sym c))

  -- so it is with a top cover, of the place as one sees it of whose table nothing is held below
  pub tops_by : (older : List Noted) (e : Event) (place : ℕ) (v : PlaceView) (cover : Cover)
      → view_at heading trust older place ≡ Some v → (cover ≡ NoCover → ⊥) → top_at heading trust older e place ≡ cover
      → CoversBy heading older e (at_end v) cover
  tops_by older (Tlbi pe op xt) place v cover seen some c = by_scope older pe op xt (at_end v) cover some (rw seen at c)
  tops_by older e place v cover seen some c = absurd (some (sym c))

-- ---- a TLBI that must have taken an entry

module _ (heading : Heading) where
  pub must_go_by : (x : Entry) (e : Event) (before : List Event) (pe : ℕ) (op : TlbiOp) (xt : ℕ) (scope : Scope)
      → e ≡ Tlbi pe op xt → reaches heading e x.pe ≡ true → named_scope heading before pe op xt ≡ Some scope
      → taken scope (vmid_of heading before pe) (head_of x) ≡ true → (age : ℕ) → age_by scope.family x.kind x.since x.joined ≡ age
      → age ≤ length before → must_go heading (record { tlbi = e; before = before }) x ≡ true
  must_go_by x e before pe op xt scope is reached named takes age aged old =
      rw (reached, is, named, takes)
      (rw (← named_family heading before pe op xt scope named, aged) (le-leb age (length before) old))
