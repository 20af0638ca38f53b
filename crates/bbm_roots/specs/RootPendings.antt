-- Whole-tag TLBIs that no DSB has answered yet: for each issuer, broadcast ones and others apart, a map from the key
-- of a tag to the PEs at which the tag is taken away by the answer.
use Rattle.std.specs.Prelude.{◌≡◌, ℕ, zero, suc, ◌+◌, ◌*◌, Bool, true, false, not, ◌&&◌, ◌||◌, nat_eq}
use Rattle.std.specs.Prelude.{nat_lt, List, [], ◌∷◌, Option, Some, None, is_some, if◌then◌else◌}
use Rattle.indexmap.specs.IndexMap.{IndexMap, get}
use Rattle.bbm_barriers.specs.Options.{answers}
use Rattle.bbm_barriers.specs.declared.Dsb.{Dsb}
use Rattle.bbm_regimes.specs.PeMask.{pe_in}
use Rattle.bbm_regimes.specs.declared.pe.PeMask.{PeMask}
use Rattle.bbm_regimes.specs.declared.regime.Tag.{Tag}
use Rattle.bbm_regimes.specs.declared.regime.World.{World}
use Rattle.bbm_regimes.specs.declared.regime.World.TheVariants.{Hyp, Kernel}
use Rattle.bbm_tlbi_scope.specs.ScopeTags.{takes_whole_tag}
use Rattle.bbm_tlbi_scope.specs.declared.scope.Family.{Family}
use Rattle.bbm_tlbi_scope.specs.declared.scope.Family.TheVariants.{El2All, E1All, VmAll1, VmAll12, Asid as ByAsid}
use Rattle.bbm_tlbi_scope.specs.declared.scope.Scope.{Scope}
use Rattle.bbm_roots.specs.Holds.{tag_key, tag_with, kept_in}
use Rattle.bbm_roots.specs.LoadsOf.{reads_at}
use Rattle.bbm_roots.specs.Readings.{has_tag}
use Rattle.bbm_roots.specs.declared.hold.Held.{Held}
use Rattle.bbm_roots.specs.declared.pending.Pendings.{Pendings}
use Rattle.bbm_roots.specs.declared.reading.Reading.{Reading}
use Rattle.bbm_roots.specs.declared.registers.Registers.{Registers}

-- the place of an issuer's broadcast TLBIs, and that of its others
abbrev pub slot_of : ℕ → Bool → ℕ
slot_of q true = 2 * q + 1
slot_of q false = 2 * q

-- whether an entry has p in it
abbrev pub wait_bit : ℕ → Option PeMask → Bool
wait_bit p None = false
wait_bit p (Some pes) = pe_in pes p

-- the entry under a key in a place
abbrev pub wait_at : {S : Type 0} → List (IndexMap ℕ PeMask S) → ℕ → ℕ → Option PeMask
wait_at [] n key = None
wait_at (m ∷ ms) zero key = get nat_eq m key
wait_at (m ∷ ms) (suc n) key = wait_at ms n key

-- whether a place has an entry of the tag, and one with p in it
module _ {S : Type 0} (waits : IndexMap ℕ PeMask S) where
  abbrev pub has_wait : Tag → Bool
  has_wait tag = is_some (get nat_eq waits (tag_key tag))

  abbrev pub wait_in : Tag → ℕ → Bool
  wait_in tag p = wait_bit p (get nat_eq waits (tag_key tag))

-- whether there is an entry of q's TLBIs for the tag that are broadcast or aren't, and one with p in it
abbrev pub has_pending : Pendings → ℕ → Bool → Tag → Bool
has_pending ps q broadcast tag =
    pe_in ps.issuers q && is_some (wait_at ps.waits.items (slot_of q broadcast) (tag_key tag))

abbrev pub pending_in : Pendings → ℕ → Bool → Tag → ℕ → Bool
pending_in ps q broadcast tag p =
    pe_in ps.issuers q && wait_bit p (wait_at ps.waits.items (slot_of q broadcast) (tag_key tag))

-- whether a DSB of q takes the tag away at p
abbrev pub answered_in : Pendings → ℕ → Dsb → Tag → ℕ → Bool
answered_in ps q dsb tag p =
    (answers dsb true && pending_in ps q true tag p) || (answers dsb false && pending_in ps q false tag p)

-- whether a TLBI of this scope, under this VMID, takes the tag with a key
abbrev pub takes_key : Scope → Option ℕ → ℕ → Bool
takes_key scope vmid key = takes_whole_tag scope vmid (tag_with key)

-- Whether TLBIs of the family take whole tags of the world. Source: Arm ARM (DDI 0487), "TLB maintenance instructions".
abbrev pub takes_tags : World → Family → Bool
takes_tags (Hyp world) El2All = true
takes_tags (Hyp world) E1All = true
takes_tags (Hyp world) VmAll12 = true
takes_tags (Kernel world) VmAll1 = true
takes_tags (Kernel world) ByAsid = true
takes_tags _ _ = false

-- whether a TLBI of q, broadcast or not, reaches p while the tag is readable there for no root
abbrev pub unread_at : Registers → ℕ → Bool → Tag → ℕ → Bool
unread_at registers q broadcast tag p =
    nat_lt p registers.pes && ((broadcast || nat_eq p q)
    && not (reads_at registers p tag))

-- the PEs of every tag stay in a place, in the places of a list, and for every issuer
abbrev pub SameWaits : {S : Type 0} → IndexMap ℕ PeMask S → IndexMap ℕ PeMask S → Type 0
SameWaits old new = (tag : Tag) (p : ℕ) → wait_in new tag p ≡ wait_in old tag p

abbrev pub SamePlaces : {S : Type 0} → List (IndexMap ℕ PeMask S) → List (IndexMap ℕ PeMask S) → Type 0
SamePlaces old new = (n key : ℕ) → wait_at new n key ≡ wait_at old n key

abbrev pub SamePendings : Pendings → Pendings → Type 0
SamePendings old new =
    (q : ℕ) (broadcast : Bool) (tag : Tag) (p : ℕ) → pending_in new q broadcast tag p ≡ pending_in old q broadcast tag p

-- the PE is out of the entries of the tags of the readings, and nothing else changes
abbrev pub Clears : ℕ → List Reading → Pendings → Pendings → Type 0
Clears pe readings old new = (q : ℕ) (broadcast : Bool) (tag : Tag) (p : ℕ) → pending_in new q broadcast tag p
    ≡ (pending_in old q broadcast tag p && not (nat_eq p pe && has_tag tag readings))

-- nothing waits
abbrev pub IsQuiet : Pendings → Type 0
IsQuiet ps = (q : ℕ) (broadcast : Bool) (tag : Tag) (p : ℕ) → pending_in ps q broadcast tag p ≡ false

-- nothing is left in the place of this number, and all other places stay
abbrev pub EmptiesPlace : {S : Type 0} → ℕ → List (IndexMap ℕ PeMask S) → List (IndexMap ℕ PeMask S) → Type 0
EmptiesPlace place old new = (n key : ℕ) → wait_at new n key ≡ (if nat_eq n place then None else wait_at old n key)

-- a TLBI of this scope, under this VMID
module _ (scope : Scope) (vmid : Option ℕ) {S : Type 0} (holds : IndexMap ℕ Held S) where
  -- each tag that is kept and that it takes passes the test
  abbrev pub EachTaken : (Tag → Bool) → Type 0
  EachTaken test = (tag : Tag) (p : ℕ) → kept_in holds tag p ≡ true → takes_whole_tag scope vmid tag ≡ true
      → test tag ≡ true

  -- In a place: of each tag that is kept, the entry, where there is one and the TLBI takes the tag, gets the PEs that a
  -- TLBI of q reaches while the tag is readable there for no root.
  abbrev pub NotesTaken : {T : Type 0} → Registers → ℕ → IndexMap ℕ PeMask T → IndexMap ℕ PeMask T → Type 0
  NotesTaken registers q old new = (tag : Tag) (k p : ℕ) → kept_in holds tag k ≡ true → wait_in new tag p
      ≡ (wait_in old tag p || (has_wait old tag && (takes_whole_tag scope vmid tag
      && unread_at registers q scope.broadcast tag p)))

  -- each tag that it takes and that is kept at a PE which a TLBI of q reaches while the tag is readable there for no
  -- root passes the test
  abbrev pub EachLost : Registers → ℕ → (Tag → Bool) → Type 0
  EachLost registers q test = (tag : Tag) (p : ℕ) → kept_in holds tag p ≡ true
      → takes_whole_tag scope vmid tag ≡ true → unread_at registers q scope.broadcast tag p ≡ true → test tag ≡ true
