use Rattle.bbm_roots.proofs.Common.{◌≡◌, ◌<◌, ◌∙◌, ap, sym, refl, Bool, ◌&&◌, ◌||◌, nat_eq, nat_lt, true, false, ℕ}
use Rattle.bbm_roots.proofs.Common.{TlbiOp, Scope, Tlbi, Patterns, Stands, holder_at, not, loads_after}
use Rattle.bbm_roots.proofs.Common.{Option, proved, If, Is}
use Rattle.bbm_roots.proofs.Common.{Heading, Event, List, ◌∷◌, None, Some}
use Rattle.bbm_roots.proofs.Common.{lt-ltb, first_true, Tag, takes_whole_tag, loads_in, pending_in}
use Rattle.bbm_roots.proofs.Common.{has_pending, same_flag, unread_at, has_tag, reads_tag, second_reg}
use Rattle.bbm_roots.proofs.Common.{world_of, pes_of, or-false, Registers, Roots, arith, eqb-true, Pendings}
use Rattle.bbm_roots.specs.Holds.{kept_in}
use Rattle.bbm_roots.specs.RootChanges.{SameDeclared}
use Rattle.bbm_roots.proofs.Flat.{reads_tag-is}
use Rattle.bbm_histories.proofs.Induction.{kept_next}
use Rattle.bbm_locks.specs.declared.locks.Locks.{Locks}
use Rattle.bbm_rules.specs.Broken.{broken}
use Rattle.bbm_roots.specs.RootJudgements.{IsNamed}
use Rattle.bbm_roots.specs.declared.named.NamedTlbi.{NamedTlbi}
use Rattle.bbm_roots.proofs.Issued.{Issues}
use Rattle.bbm_roots.proofs.Others.{others}
use Rattle.bbm_roots.proofs.Common.{firsts_after, firsts_of, reading_world, standings_of}
use Rattle.bbm_roots.proofs.Readable.{firsts-are, reads-stay, readings-same}
use Rattle.bbm_roots.proofs.Steps.{holds-stay, left-stay, noted}
use Rattle.bbm_roots.proofs.Tests.{and_right}
use Rattle.bbm_roots.proofs.roots.Roots.issue_ready.Goals as goal

-- the entry of an issuer, which is this one
entry-there : (q issuer : ℕ) (flag b takes : Bool) (g : Tag) (ps : Pendings) →
    (nat_eq q issuer && same_flag flag b && takes) ≡ true → (takes ≡ true → has_pending ps issuer flag g ≡ true) →
    has_pending ps q b g ≡ true
entry-there q issuer flag b takes g ps key there =
    let front : (nat_eq q issuer && same_flag flag b) ≡ true = first_true _ takes key in
    let flags : flag ≡ b =
    proved 2 (λ x y. If (Is (same_flag x y) true) (Is x y)) refl flag b (and_right (nat_eq q issuer) _ front) in
    rw (eqb-true q issuer (first_true _ (same_flag flag b) front), ← flags)
    (there (and_right (nat_eq q issuer && same_flag flag b) takes key))

-- a TLBI that reaches some PE changes nothing but what waits: it is noted where there is an entry, which is where it takes a
-- tag from a PE
issued : (old new : Roots) (issuer : ℕ) (op : TlbiOp) (xt : ℕ) (scope : Scope) (vmid : Option ℕ) (has : ℕ → Bool → Tag → Bool) →
    new.registers ≡ old.registers → new.holds ≡ old.holds → SameDeclared old new →
    ((q : ℕ) (b : Bool) (g : Tag) (p : ℕ) → kept_in old.holds g p ≡ true →
    (nat_eq q issuer && same_flag scope.broadcast b && takes_whole_tag scope vmid g) ≡ true →
    unread_at old.registers issuer scope.broadcast g p ≡ true → has q b g ≡ true) →
    ((q : ℕ) (b : Bool) (g : Tag) (p : ℕ) → kept_in old.holds g p ≡ true → pending_in new.pendings q b g p
    ≡ (pending_in old.pendings q b g p || (has q b g && ((nat_eq q issuer && same_flag scope.broadcast b
    && takes_whole_tag scope vmid g) && unread_at old.registers issuer scope.broadcast g p)))) →
    (heading : Heading) (h : List Event) → Stands old heading h → Issues heading h issuer op xt scope vmid →
    broken heading Patterns h (Tlbi issuer op xt) ≡ None → Stands new heading (Tlbi issuer op xt ∷ h)
issued old new issuer op xt scope vmid has registers holds roots there notes heading h stands named keeps =
    let stay = λ (g : Tag) (r p : ℕ). holds-stay heading h (Tlbi issuer op xt) g r p (λ k. sym (reads-stay heading h
    (Tlbi issuer op xt) p refl refl refl g r) ∙ k) refl refl in
    record {
      header = roots.header ∙ stands.header;
      proper = stands.proper;
      kept = kept_next heading Patterns h (Tlbi issuer op xt) stands.kept keeps;
      pes = ap (λ (r : Registers). r.pes) registers ∙ stands.pes;
      world = ap (λ (r : Registers). r.world) registers ∙ stands.world;
      order = ap (λ (r : Registers). r.in_order) registers ∙ stands.order;
      first = λ p lt. ap (λ (r : Registers). loads_in r.first.items p) registers ∙ stands.first p lt;
      second = λ p lt. ap (λ (r : Registers). loads_in r.second.items p) registers ∙ stands.second p lt;
      standings = λ ordered p lt. ap (λ (r : Registers). standings_of r p) registers ∙ stands.standings ordered p lt;
      outside = stands.outside;
      declared = λ q. let d = roots.declared in let s = stands.declared q in cc;
      count = let d = roots.declared in let s = stands.count in cc;
      locks = λ none. stands.locks (sym roots.names ∙ none);
      holds = λ g r p. let k = holds in let s = stands.holds g r p ∙ sym (stay g r p) in cc;
      left = λ g r p. let k = holds in let s = stands.left g r p ∙ sym (left-stay heading h (Tlbi issuer op xt) g r p refl refl)
          in cc;
      inside = λ g p past. let k = holds in let s = stands.inside g p past in cc;
      pendings = λ q b g p kept.
          let here : kept_in old.holds g p ≡ true = let k = holds in cc in
          let below : p < heading.pes =
          let inside = stands.inside g p in grind (arith) in
          let less : p < pes_of old = let n = stands.pes in omega (arith, below) in
          notes q b g p here
          ∙ noted heading h issuer op xt scope vmid named q b g p (pending_in old.pendings q b g p) (has q b g)
          (nat_lt p (pes_of old))
          (reads_tag (world_of old) (firsts_of old.registers p) (loads_in old.registers.second.items p) g)
          (stands.pendings q b g p here) (there q b g p here) (lt-ltb p (pes_of old) less)
          (rw (stands.world, firsts-are stands p below, stands.second p below)
          (sym (reads_tag-is (reading_world heading) (firsts_after heading h p)
          (loads_after h p (second_reg heading.world)) g) ∙ ap (has_tag g) (readings-same heading h p)));
      holders = λ lock. ap (λ (l : Locks). holder_at l lock) roots.locks ∙ stands.holders lock;
    }

-- one that reaches no PE
unreached : (old : Roots) (issuer : ℕ) (op : TlbiOp) (xt : ℕ) (named : NamedTlbi) (heading : Heading) (h : List Event) →
    Stands old heading h → IsNamed heading h issuer op xt named → (named.scope.broadcast || not heading.cnp) ≡ false →
    broken heading Patterns h (Tlbi issuer op xt) ≡ None → Stands old heading (Tlbi issuer op xt ∷ h)
unreached old issuer op xt named heading h stands is reach keeps =
    others stands (Tlbi issuer op xt)
    (ap (λ (o : Option Scope). elim o [ None ↦ false | Some scope ↦ scope.broadcast || not heading.cnp ]) is.0 ∙ reach) keeps

-- whether it reaches some PE, by the header of the roots
reach-is : {old : Roots} {heading : Heading} {h : List Event} (broadcast b : Bool) → Stands old heading h →
    (broadcast || not old.header.cnp) ≡ b → (broadcast || not heading.cnp) ≡ b
reach-is broadcast b s e = ap (λ (g : Heading). broadcast || not g.cnp) (sym s.header) ∙ e

pub returns : goal.returns
returns c op xt =
    let old = c.args.self.now in
    let scope = c.args.named.now.scope in
    let vmid = c.args.named.now.vmid in
    record {
      taken = λ heading h stands k.
          issued old _ c.args.issuer op xt scope vmid (has_pending old.pendings) refl refl
          (record { header = refl; declared = refl; names = refl; locks = refl })
          (λ q b g p kept key lost. entry-there q c.args.issuer scope.broadcast b (takes_whole_tag scope vmid g) g
          old.pendings key
          (λ e. and_right c.args.takes (has_pending old.pendings c.args.issuer scope.broadcast g)
          (c.requires heading h stands g p kept e lost)))
          (λ q b g p kept. c.note.ensures q b g p p kept) heading h stands
          (k.0.0, k.0.1, reach-is scope.broadcast true stands (sym c.reaches.ensures ∙ c.if-not-reaches.false)) k.1;
      room = λ room. room;
    }

pub returns-then-not-reaches : goal.returns-then-not-reaches
returns-then-not-reaches c op xt =
    let old = c.args.self.now in
    record {
      taken = λ heading h stands k.
          unreached old c.args.issuer op xt c.args.named.now heading h stands k.0
          (reach-is c.args.named.now.scope.broadcast false stands (sym c.reaches.ensures ∙ c.if-not-reaches.true)) k.1;
      room = λ room. room;
    }

pub returns-then-not-takes : goal.returns-then-not-takes
returns-then-not-takes c op xt =
    record {
      taken = λ heading h stands k. by heading h stands k (scope.broadcast || not heading.cnp) refl;
      room = λ room. room;
    }
  where
    old : Roots
    old = c.args.self.now

    scope : Scope
    scope = c.args.named.now.scope

    vmid : Option ℕ
    vmid = c.args.named.now.vmid

    by : (heading : Heading) (h : List Event) → Stands old heading h
        → IsNamed heading h c.args.issuer op xt c.args.named.now × (broken heading Patterns h (Tlbi c.args.issuer op xt) ≡ None)
        → (b : Bool) → (scope.broadcast || not heading.cnp) ≡ b → Stands old heading (Tlbi c.args.issuer op xt ∷ h)
    by heading h stands k false e = unreached old c.args.issuer op xt c.args.named.now heading h stands k.0 e k.1
    by heading h stands k true e =
        issued old old c.args.issuer op xt scope vmid (λ q b g. false) refl refl
        (record { header = refl; declared = refl; names = refl; locks = refl })
        (λ q b g p kept key lost. sym c.if-not-takes.true
        ∙ first_true c.args.takes (has_pending old.pendings c.args.issuer scope.broadcast g)
        (c.requires heading h stands g p kept
        (and_right (nat_eq q c.args.issuer && same_flag scope.broadcast b) (takes_whole_tag scope vmid g) key) lost))
        (λ q b g p kept. sym (or-false (pending_in old.pendings q b g p))) heading h stands (k.0.0, k.0.1, e) k.1
