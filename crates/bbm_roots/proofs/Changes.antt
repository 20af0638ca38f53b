-- What stays with the declared roots.
use Rattle.bbm_roots.proofs.Common.{◌≡◌, ◌<◌, ℕ, subst, sym, HashMap, BuildHasherDefault, FoldHasher, index_map_len}
use Rattle.bbm_roots.proofs.Common.{Declared, Roots}
use Rattle.bbm_roots.proofs.Common.{ap, ◌∙◌, Bool, Tag, keeps_in, kept_in, true, false, false≢true, not-true}
use Rattle.bbm_roots.proofs.Common.{loads_in, standings_of, pending_in, holder_at, Pendings, Registers}
use Rattle.bbm_locks.specs.declared.locks.Locks.{Locks}
use Rattle.bbm_lemmas.proofs.Bools.{not_from}
use Rattle.bbm_roots.proofs.Entries.{no-more}
use Rattle.bbm_roots.specs.RootChanges.{Keeps}
use Rattle.indexmap.specs.IndexMap.{spare}
use Rattle.bbm_roots.specs.RootsStand.{HasRoom}

pub room-same : (old new : Roots) → new.declared ≡ old.declared → HasRoom old → HasRoom new
room-same old new same room =
    subst (λ (d : HashMap ℕ Declared (BuildHasherDefault FoldHasher)). (0 < spare d) × (index_map_len d < 1024)) (sym same)
    room

-- nobody holds more or less, and no more or less is left
pub same-kept : (old new : Roots) → new.header ≡ old.header → new.registers ≡ old.registers → new.declared ≡ old.declared →
    new.pendings ≡ old.pendings → new.names_locks ≡ old.names_locks → new.locks ≡ old.locks →
    ((l : Bool) (g : Tag) (r p : ℕ) → keeps_in new.holds l g r p ≡ keeps_in old.holds l g r p) → Keeps old new
same-kept old new header registers declared pendings names locks same = record {
  same = λ heading h s. record {
    header = header ∙ s.header;
    proper = s.proper;
    kept = s.kept;
    pes = ap (λ (r : Registers). r.pes) registers ∙ s.pes;
    world = ap (λ (r : Registers). r.world) registers ∙ s.world;
    order = ap (λ (r : Registers). r.in_order) registers ∙ s.order;
    first = λ p lt. ap (λ (r : Registers). loads_in r.first.items p) registers ∙ s.first p lt;
    second = λ p lt. ap (λ (r : Registers). loads_in r.second.items p) registers ∙ s.second p lt;
    standings = λ ordered p lt. ap (λ (r : Registers). standings_of r p) registers ∙ s.standings ordered p lt;
    outside = s.outside;
    declared = λ page. let d = declared in let is = s.declared page in cc;
    count = let d = declared in let is = s.count in cc;
    locks = λ none. s.locks (sym names ∙ none);
    holds = λ g r p. same false g r p ∙ s.holds g r p;
    left = λ g r p. same true g r p ∙ s.left g r p;
    inside = λ g p past. not-true _ (not_from _ (λ kept. false≢true (sym (s.inside g p past) ∙ less g p kept)));
    pendings = λ q b g p kept. ap (λ (ps : Pendings). pending_in ps q b g p) pendings ∙ s.pendings q b g p (less g p kept);
    holders = λ lock. ap (λ (l : Locks). holder_at l lock) locks ∙ s.holders lock;
  };
  room = room-same old new declared;
}
  where
    less : (g : Tag) (p : ℕ) → kept_in new.holds g p ≡ true → kept_in old.holds g p ≡ true
    less g p = no-more old.holds new.holds g p (λ l r k. sym (same l g r p) ∙ k)
