-- What the roots stand for: a history, point by point. A history is newest first.
use Rattle.std.specs.Prelude.{◌≡◌, ◌<◌, ◌≤◌, ◌&&◌, ℕ, Bool, true, false, List, [], ◌∷◌, nat_eq, length, None}
use Rattle.indexmap.specs.IndexMap.{get, index_map_len, spare}
use Rattle.bbm_locks.specs.Holders.{holder_at}
use Rattle.bbm_regimes.specs.declared.regime.Reg.{Reg}
use Rattle.bbm_regimes.specs.declared.regime.Tag.{Tag}
use Rattle.bbm_regimes.specs.declared.regime.World.{World}
use Rattle.bbm_events.specs.Heading.{Heading, heading_ok}
use Rattle.bbm_events.specs.declared.event.Event.{Event}
use Rattle.bbm_rules.specs.Broken.{keeps}
use Rattle.bbm_rules.specs.Claims.{Patterns}
use Rattle.bbm_rules.specs.Locks.{holder_of}
use Rattle.bbm_rules.specs.RegisterValues.{register_values}
use Rattle.bbm_rules.specs.Roots.{lock_of, root_at, roots_of}
use Rattle.bbm_rules.specs.Tags.{holds_at, left_at}
use Rattle.bbm_histories.specs.HistorySteps.{tag_waits}
use Rattle.bbm_roots.specs.Columns.{loads_in}
use Rattle.bbm_roots.specs.Holds.{hold_in, kept_in, left_in}
use Rattle.bbm_roots.specs.RootPendings.{has_pending, pending_in, EachLost}
use Rattle.bbm_roots.specs.RootRegisters.{first_reg, in_order, loads_after, reading_world, second_reg}
use Rattle.bbm_roots.specs.RootRegisters.{standings_after}
use Rattle.bbm_roots.specs.declared.named.NamedTlbi.{NamedTlbi}
use Rattle.bbm_roots.specs.declared.roots.Roots.{Roots}

-- the number of PEs, and the world by which readings go
abbrev pub pes_of : Roots → ℕ
pes_of roots = roots.registers.pes

abbrev pub world_of : Roots → World
world_of roots = roots.registers.world

-- The roots stand for the history of a log with this header, which keeps the rules over all patterns of events: they
-- keep what the readable values of each register name, what the readable standings give, where readings go by them, the
-- declared roots, at which PEs a root holds a tag or one that was given up left it, and, where a tag is held or left,
-- which unanswered TLBIs are about to take it away, and who holds each lock. Where they keep that no root was declared
-- with a lock, no declared root has one. Of the history it says besides that no PE that the log doesn't have wrote a
-- register.
pub record Stands (roots : Roots) (heading : Heading) (h : List Event) : Type 0 where
  pub header : roots.header ≡ heading
  pub proper : heading_ok heading ≡ true
  pub kept : keeps heading Patterns h ≡ true
  pub pes : pes_of roots ≡ heading.pes
  pub world : world_of roots ≡ reading_world heading
  pub order : roots.registers.in_order ≡ in_order heading
  pub first : (p : ℕ) → p < heading.pes
      → loads_in roots.registers.first.items p ≡ loads_after h p (first_reg heading.world)
  pub second : (p : ℕ) → p < heading.pes
      → loads_in roots.registers.second.items p ≡ loads_after h p (second_reg heading.world)
  pub standings : in_order heading ≡ true → (p : ℕ) → p < heading.pes
      → loads_in roots.registers.standings.items p ≡ standings_after h p
  pub outside : (p : ℕ) (reg : Reg) → heading.pes ≤ p → register_values h p reg ≡ 0 ∷ []
  pub declared : (page : ℕ) → get nat_eq roots.declared page ≡ root_at h page
  pub count : index_map_len roots.declared ≡ length (roots_of h)
  pub locks : roots.names_locks ≡ false → (page : ℕ) → lock_of h page ≡ None
  pub holds : (tag : Tag) (root p : ℕ) → hold_in roots.holds tag root p ≡ holds_at heading Patterns p root tag h
  pub left : (tag : Tag) (page p : ℕ) → left_in roots.holds tag page p ≡ left_at heading Patterns p page tag h
  pub inside : (tag : Tag) (p : ℕ) → heading.pes ≤ p → kept_in roots.holds tag p ≡ false
  pub pendings : (q : ℕ) (broadcast : Bool) (tag : Tag) (p : ℕ) → kept_in roots.holds tag p ≡ true →
      pending_in roots.pendings q broadcast tag p ≡ tag_waits heading p tag q broadcast h
  pub holders : (lock : ℕ) → holder_at roots.locks lock ≡ holder_of h lock

-- room for one more root
abbrev pub HasRoom : Roots → Type 0
HasRoom roots = (0 < spare roots.declared) × (index_map_len roots.declared < 1024)

-- Where the roots stand for a history, there is an entry for each tag that a TLBI of the issuer that names this takes and
-- that is held or left at a PE which it reaches and at which the tag is readable for no root.
abbrev pub IsReady : Roots → ℕ → NamedTlbi → Bool → Type 0
IsReady roots issuer named takes =
    (heading : Heading) (h : List Event) → Stands roots heading h → EachLost named.scope named.vmid roots.holds roots.registers issuer
    (λ tag. takes && has_pending roots.pendings issuer named.scope.broadcast tag)
