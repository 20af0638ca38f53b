-- The TLBIs that no DSB has answered yet, as the machine keeps them: what is asked of each when it is answered.
use Rattle.std.specs.Prelude.{◌≡◌, ℕ, Bool, ◌&&◌, ◌==◌, nat_le, List, length, map, filter, Option, None, is_none}
use Rattle.std.specs.Prelude.{if◌then◌else◌}
use Rattle.std.specs.Result.{result_ok}
use Rattle.bbm_tlbi_scope.specs.declared.scope.Family.{Family}
use Rattle.bbm_tlbi_scope.specs.declared.scope.Family.TheVariants.{El2All}
use Rattle.bbm_tlbi_scope.specs.Operations.{family_of, scoped_by_vmid}
use Rattle.bbm_rules.specs.Lists.{any}
use Rattle.bbm_rules.specs.Prelude.{Barrier, TlbiOp, Scope, scope_of, Heading, Event, Tlbi}
use Rattle.bbm_rules.specs.Reach.{Issued, completes, reaches, unanswered}
use Rattle.bbm_rules.specs.RegisterValues.{named_scope, vmid_of}
use Rattle.bbm_rules.specs.Tags.{itself}
use Rattle.bbm_tlb_machine.specs.Entry.{Entry, age_for}
use Rattle.bbm_tlb_machine.specs.MachineRun.{Living}
use Rattle.bbm_tlb_machine.specs.Step.{takes_by}

-- a TLBI, its issuer and its family; what it names at its issue, None where it takes nothing; the VMID that its issuer
-- then has, None where there are several; and how many events came before it
pub record Pending : Type 0 where
  pub tlbi : Event
  pub issuer : ℕ
  pub family : Family
  pub scope : Option Scope
  pub vmid : Option ℕ
  pub before : ℕ

-- what an operation names with its operand, where its issuer has this VMID
abbrev pub scope_under : TlbiOp → ℕ → Option ℕ → Option Scope
scope_under op xt vmid = if scoped_by_vmid op && is_none vmid then None else result_ok (scope_of op xt)

-- a TLBI by its parts
abbrev pub pending_by : ℕ → TlbiOp → ℕ → Option ℕ → ℕ → Pending
pending_by pe op xt vmid before = record {
  tlbi = Tlbi pe op xt;
  issuer = pe;
  family = family_of op;
  scope = scope_under op xt vmid;
  vmid = vmid;
  before = before;
}

abbrev pub issuer_of : Event → ℕ
issuer_of (Tlbi pe op xt) = pe
issuer_of _ = 0

abbrev pub family_in : Event → Family
family_in (Tlbi pe op xt) = family_of op
family_in _ = El2All

abbrev pub scope_at : Heading → List Event → Event → Option Scope
scope_at heading before (Tlbi pe op xt) = named_scope heading before pe op xt
scope_at heading before _ = None

-- an issued TLBI with all that
abbrev pub pending_of : Heading → Issued Event → Pending
pending_of heading t = record {
  tlbi = t.tlbi;
  issuer = issuer_of t.tlbi;
  family = family_in t.tlbi;
  scope = scope_at heading t.before t.tlbi;
  vmid = vmid_of heading t.before (issuer_of t.tlbi);
  before = length t.before;
}

-- those of each PE are its unanswered TLBIs
abbrev pub IsPending : Heading → List Event → List Pending → Type 0
IsPending heading h pending =
    (q : ℕ) → filter (λ p. p.issuer == q) pending ≡ map (pending_of heading) (unanswered itself q h)

-- whether it must have taken the entry by the time that it is answered
abbrev pub must_leave : Heading → Pending → Entry → Bool
must_leave heading p x =
    reaches heading p.tlbi x.pe && takes_by p.scope p.vmid x && nat_le (age_for p.family x) p.before

abbrev pub leaves_by : Heading → List Living → Pending → Bool
leaves_by heading living p = any (λ l. must_leave heading p l.entry) living

abbrev pub is_answered : ℕ → Barrier → Pending → Bool
is_answered q dsb p = p.issuer == q && completes dsb p.tlbi

abbrev pub leaves_any : Heading → List Living → ℕ → Barrier → List Pending → Bool
leaves_any heading living q dsb pending = any (λ p. is_answered q dsb p && leaves_by heading living p) pending
