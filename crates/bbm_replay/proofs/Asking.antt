-- What the cover of a place doesn't depend on.
use Rattle.bbm_replay.proofs.Common.{lacks_vmid, names_all, Scope, asks_childless, asks_tags}
use Rattle.bbm_rules.proofs.Common.{◌≡◌, ℕ, Bool, true, false, cond, ◌&&◌, not, is_none, Option, refl, ◌∙◌, ap, Extent}
use Rattle.bbm_rules.proofs.Common.{Kind, cover_by, cover_of, fits_place, vmid_matches, names_some, has_page, Cover}
use Rattle.bbm_rules.proofs.Common.{PlaceView, TagSet, Family, arith}
use Rattle.bbm_tlbi_scope.specs.ScopeCovers.{asid_matches, fits_leaf, fits_table}
use Rattle.bbm_tlbi_scope.specs.declared.entry.Cover.TheVariants.{None as NoCover}
use Rattle.bbm_replay.proofs.Descents.{none_by}

module _ (s : Scope) (vmid : Option ℕ) (kind : Kind) (region : Extent) (level : ℕ) (table global : Bool) where
  abbrev pub seen : Bool → TagSet → PlaceView
  seen childless tags = record {
    kind = kind;
    region = region;
    level = level;
    table = table;
    global = global;
    childless = childless;
    tags = tags;
  }

  -- the table of covers doesn't ask whether a place is childless, but whether it fits
  by_fits : (k : Kind) (f : Family) (fits c c' : Bool) (t : TagSet) → cover_by k f fits s vmid (seen c t) ≡ cover_by k f fits s vmid (seen c' t)
  by_fits k f fits c c' t = grind arith

  -- at operations that name no pages it asks the tags of a place alone
  pub unpaged : (k : Kind) (f : Family) → has_page f ≡ false → (b b' : Bool) (v w : PlaceView) → v.tags ≡ w.tags
      → cover_by k f b s vmid v ≡ cover_by k f b' s vmid w
  unpaged k f p b b' v w same = grind arith

  untagged : (k : Kind) (f : Family) → asks_tags f k ≡ false → (fits c : Bool) (t t' : TagSet)
      → cover_by k f fits s vmid (seen c t) ≡ cover_by k f fits s vmid (seen c t')
  untagged k f p fits c t t' = grind arith

  -- the tags count where they are asked
  same_tags : (f : Family) (fits c : Bool) (t t' : TagSet) → (asks_tags f kind ≡ true → t ≡ t')
      → cover_by kind f fits s vmid (seen c t) ≡ cover_by kind f fits s vmid (seen c t')
  same_tags f fits c t t' same = by (asks_tags f kind) refl
    where
      by : (b : Bool) → asks_tags f kind ≡ b → cover_by kind f fits s vmid (seen c t) ≡ cover_by kind f fits s vmid (seen c t')
      by true e = ap (λ (x : TagSet). cover_by kind f fits s vmid (seen c x)) (same e)
      by false e = untagged kind f e fits c t t'

  -- whether a table is childless counts where it is asked
  same_table : (c c' : Bool) (t : TagSet) → ((not s.last_only && is_none s.level) ≡ true → c ≡ c')
      → fits_table s (seen c t) ≡ fits_table s (seen c' t)
  same_table c c' t = by (not s.last_only && is_none s.level)
    where
      by : (g : Bool) → (g ≡ true → c ≡ c') → (g && cond c (names_some s.interval region) (names_all s.interval region))
          ≡ (g && cond c' (names_some s.interval region) (names_all s.interval region))
      by false same = refl
      by true same = ap (λ b. cond b (names_some s.interval region) (names_all s.interval region)) (same refl)

  same_fits : (f : Family) (c c' : Bool) (t : TagSet) (v : PlaceView)
      → ((table && has_page f && not s.last_only && is_none s.level) ≡ true → c ≡ c')
      → cover_by kind f (fits_place s (seen c t)) s vmid v ≡ cover_by kind f (fits_place s (seen c' t)) s vmid v
  same_fits f c c' t v same = by table (has_page f) refl same
    where
      by : (w p : Bool) → has_page f ≡ p → ((w && p && not s.last_only && is_none s.level) ≡ true → c ≡ c')
          → cover_by kind f (cond w (fits_table s (seen c t)) (fits_leaf s (seen c t))) s vmid v
          ≡ cover_by kind f (cond w (fits_table s (seen c' t)) (fits_leaf s (seen c' t))) s vmid v
      by w false e k = unpaged kind f e (cond w (fits_table s (seen c t)) (fits_leaf s (seen c t)))
          (cond w (fits_table s (seen c' t)) (fits_leaf s (seen c' t))) v v refl
      by false true e k = refl
      by true true e k = ap (λ x. cover_by kind f x s vmid v) (same_table c c' t k)

  pub alike : (c c' : Bool) (t t' : TagSet) → (asks_childless s table ≡ true → c ≡ c')
      → (asks_tags s.family kind ≡ true → t ≡ t') → cover_of s vmid (seen c t) ≡ cover_of s vmid (seen c' t')
  alike c c' t t' childless tags = ap (λ (x : Cover). cond (lacks_vmid s.vmid_scoped vmid) NoCover x)
      (same_fits s.family c c' t (seen c t) childless
      ∙ by_fits kind s.family (fits_place s (seen c' t)) c c' t
      ∙ same_tags s.family (fits_place s (seen c' t)) c' t t' tags)

-- where the tags are asked, and neither the VMID nor the ASID is the only one of them, nothing is covered
mismatch : (s : Scope) (vmid : Option ℕ) (k : Kind) (f : Family) → asks_tags f k ≡ true → (fits : Bool) (v : PlaceView)
    → vmid_matches vmid v.tags ≡ false → asid_matches s.asid v.tags ≡ false → cover_by k f fits s vmid v ≡ NoCover
mismatch s vmid k f p fits v no_vmid no_asid = grind arith

pub mismatched : (s : Scope) (vmid : Option ℕ) (v : PlaceView) → asks_tags s.family v.kind ≡ true
    → vmid_matches vmid v.tags ≡ false → asid_matches s.asid v.tags ≡ false → cover_of s vmid v ≡ NoCover
mismatched s vmid v asked no_vmid no_asid =
    none_by s vmid v (mismatch s vmid v.kind s.family asked (fits_place s v) v no_vmid no_asid)
