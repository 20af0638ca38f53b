-- A TLBI of a history, by what it names.
use Rattle.bbm_roots.proofs.Common.{same_swapped, ◌≡◌, ℕ, Bool, true, false, not, ◌&&◌, ◌||◌, ◌==◌, nat_eq, arith}
use Rattle.bbm_roots.proofs.Common.{Result, TlbiOp, Scope, Heading, Event, Tlbi, reaches, named_scope, takes_tag}
use Rattle.bbm_roots.proofs.Common.{is_tlbi, Option, Some, None, refl, ap, List, Tag, takes_whole_tag}
use Rattle.bbm_roots.proofs.Common.{same_flag}
use Rattle.std.specs.Result.{result_ok}
use Rattle.bbm_range.specs.declared.BadRange.{BadRange}
use Rattle.bbm_range.specs.declared.Range.{Range}
use Rattle.bbm_range.specs.RangePages.{range_of}
use Rattle.bbm_tlbi_scope.specs.Decode.{page_scope, range_scope, scope_of, scope_over}
use Rattle.bbm_tlbi_scope.specs.Operations.{Operation, operation}
use Rattle.bbm_rules.specs.RegisterValues.{vmid_of}

-- ---- the scope of a TLBI is broadcast where its operation is

decoded-broadcast : (o : Operation) (xt : ℕ) (scope : Scope) → result_ok (page_scope o xt) ≡ Some scope → scope.broadcast ≡ o.broadcast
decoded-broadcast o xt scope e = grind (arith)

over-broadcast : (o : Operation) (xt : ℕ) (r : Result Range BadRange) (scope : Scope) → result_ok (scope_over o xt r) ≡ Some scope
    → scope.broadcast ≡ o.broadcast
over-broadcast o xt r scope e = grind (arith)

range-broadcast : (o : Operation) (xt : ℕ) (scope : Scope) → result_ok (range_scope o xt) ≡ Some scope → scope.broadcast ≡ o.broadcast
range-broadcast o xt scope e = grind (arith, over-broadcast o xt (range_of xt) scope)

scope-broadcast : (op : TlbiOp) (xt : ℕ) (scope : Scope) → result_ok (scope_of op xt) ≡ Some scope → scope.broadcast ≡ (operation op).broadcast
scope-broadcast op xt scope e =
    grind (arith, range-broadcast (operation op) xt scope, decoded-broadcast (operation op) xt scope)

pub named-broadcast : (heading : Heading) (h : List Event) (pe : ℕ) (op : TlbiOp) (xt : ℕ) (scope : Scope)
    → named_scope heading h pe op xt ≡ Some scope → scope.broadcast ≡ (operation op).broadcast
named-broadcast heading h pe op xt scope e = grind (arith, scope-broadcast op xt scope)

-- ---- what it takes, and where

takes-by : (heading : Heading) (h : List Event) (pe : ℕ) (op : TlbiOp) (xt : ℕ) (tag : Tag) (scope : Scope)
    → named_scope heading h pe op xt ≡ Some scope
    → takes_tag heading (Tlbi pe op xt) h tag ≡ takes_whole_tag scope (vmid_of heading h pe) tag
takes-by heading h pe op xt tag scope e =
    ap (λ (x : Option Scope). elim x [ None ↦ false | Some scope ↦ takes_whole_tag scope (vmid_of heading h pe) tag ]) e

pub takes-none : (heading : Heading) (h : List Event) (pe : ℕ) (op : TlbiOp) (xt : ℕ) (tag : Tag)
    → named_scope heading h pe op xt ≡ None → takes_tag heading (Tlbi pe op xt) h tag ≡ false
takes-none heading h pe op xt tag e =
    ap (λ (x : Option Scope). elim x [ None ↦ false | Some scope ↦ takes_whole_tag scope (vmid_of heading h pe) tag ]) e

-- after the history a TLBI of the PE names this scope, under this VMID, and reaches some PE
abbrev pub Issues : Heading → List Event → ℕ → TlbiOp → ℕ → Scope → Option ℕ → Type 0
Issues heading h pe op xt scope vmid = (named_scope heading h pe op xt ≡ Some scope) × (vmid ≡ vmid_of heading h pe)
    × ((scope.broadcast || not heading.cnp) ≡ true)

-- a TLBI that reaches some PE reaches p where it is broadcast or p issued it
pub issue-is : (heading : Heading) (h : List Event) (pe : ℕ) (op : TlbiOp) (xt : ℕ) (scope : Scope) (vmid : Option ℕ)
    → Issues heading h pe op xt scope vmid → (q : ℕ) (b : Bool) (tag : Tag) (p : ℕ)
    → (pe == q && (is_tlbi b (Tlbi pe op xt) && (reaches heading (Tlbi pe op xt) p && takes_tag heading (Tlbi pe op xt) h tag)))
    ≡ ((nat_eq q pe && same_flag scope.broadcast b && takes_whole_tag scope vmid tag) && (scope.broadcast || nat_eq p pe))
issue-is heading h pe op xt scope vmid named q b tag p =
    rw (takes-by heading h pe op xt tag scope named.0, ← named-broadcast heading h pe op xt scope named.0)
    (rw (← named.1, same_swapped pe q, same_swapped pe p)
    (turn (q == pe) (same_flag scope.broadcast b) scope.broadcast (not heading.cnp) (p == pe) (takes_whole_tag scope vmid tag) named.2))
  where
    turn : (a s x n d t : Bool) → (x || n) ≡ true → (a && (s && ((x || (n && d)) && t))) ≡ (((a && s) && t) && (x || d))
    turn a s x n d t = grind (arith)
