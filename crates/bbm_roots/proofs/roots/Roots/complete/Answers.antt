use Rattle.bbm_roots.proofs.Common.{◌≡◌, ◌∙◌, ap, sym, ℕ, Bool, ◌&&◌, List, ◌∷◌, not, nat_eq, true, false, refl, arith}
use Rattle.bbm_roots.proofs.Common.{pe_in, Heading, Event, ADsb, nat_tests, answers, Dsb, Tag, loads_in, standings_of, keeps_in, kept_in, first_true, not-true, false≢true}
use Rattle.bbm_lemmas.proofs.Bools.{not_from}
use Rattle.bbm_roots.proofs.Common.{pending_in, Stands, Pendings, Registers, Roots, and-true, holder_at, Patterns}
use Rattle.bbm_roots.specs.RootPendings.{answered_in}
use Rattle.bbm_roots.specs.RootChanges.{Completes, Takes}
use Rattle.bbm_roots.proofs.Changes.{room-same}
use Rattle.bbm_roots.proofs.Entries.{by-root, no-more}
use Rattle.bbm_roots.proofs.Steps.{keeps-completed, keeps-is, waits-complete, keeps_at}
use Rattle.bbm_histories.proofs.Induction.{kept_next}
use Rattle.bbm_locks.specs.declared.locks.Locks.{Locks}
use Rattle.bbm_roots.proofs.Judge.{broken_dsb}
use Rattle.bbm_roots.proofs.roots.Roots.complete.Goals as goal

-- roots from which what a DSB answers was taken away
completed : (old new : Roots) (heading : Heading) (h : List Event) (issuer : ℕ) (dsb : Dsb) → Stands old heading h →
    Completes issuer dsb old new → Stands new heading (ADsb issuer dsb ∷ h)
completed old new heading h issuer dsb stands answered = record {
  header = answered.roots.header ∙ stands.header;
  proper = stands.proper;
  kept = kept_next heading Patterns h (ADsb issuer dsb) stands.kept (broken_dsb heading h issuer dsb);
  pes = ap (λ (r : Registers). r.pes) answered.registers ∙ stands.pes;
  world = ap (λ (r : Registers). r.world) answered.registers ∙ stands.world;
  order = ap (λ (r : Registers). r.in_order) answered.registers ∙ stands.order;
  first = λ p lt. ap (λ (r : Registers). loads_in r.first.items p) answered.registers ∙ stands.first p lt;
  second = λ p lt. ap (λ (r : Registers). loads_in r.second.items p) answered.registers ∙ stands.second p lt;
  standings = λ ordered p lt. ap (λ (r : Registers). standings_of r p) answered.registers ∙ stands.standings ordered p lt;
  outside = stands.outside;
  declared = λ q. let d = answered.roots.declared in let s = stands.declared q in cc;
  count = let d = answered.roots.declared in let s = stands.count in cc;
  locks = λ none. stands.locks (sym answered.roots.names ∙ none);
  holds = keeps false;
  left = keeps true;
  inside = λ g p past. not-true _ (not_from _ (λ after. false≢true (sym (stands.inside g p past) ∙ less g p after)));
  pendings = λ q b g p after.
      answered.pendings q b g p
      ∙ ap (λ (x : Bool). x && not (nat_eq q issuer && answers dsb b)) (stands.pendings q b g p (less g p after))
      ∙ sym (waits-complete heading h issuer dsb q b g p);
  holders = λ lock. ap (λ (l : Locks). holder_at l lock) answered.roots.locks ∙ stands.holders lock;
}
  where
    less : (g : Tag) (p : ℕ) → kept_in new.holds g p ≡ true → kept_in old.holds g p ≡ true
    less g p = no-more old.holds new.holds g p (λ l r k. first_true (keeps_in old.holds l g r p) _ (sym (answered.holds l g r p) ∙ k))

    keeps : (l : Bool) (g : Tag) (r p : ℕ) → keeps_in new.holds l g r p ≡ keeps_at heading l p r g (ADsb issuer dsb ∷ h)
    keeps l g r p =
        answered.holds l g r p
        ∙ keeps-completed heading h issuer dsb l g r p (keeps_in old.holds l g r p)
        (pending_in old.pendings issuer true g p) (pending_in old.pendings issuer false g p) (keeps-is stands l g r p)
        (λ k. stands.pendings issuer true g p (by-root old.holds l g r p k))
        (λ k. stands.pendings issuer false g p (by-root old.holds l g r p k))

-- an issuer of whom nothing waits
none-answered : (ps : Pendings) (issuer : ℕ) (dsb : Dsb) (g : Tag) (p : ℕ) → pe_in ps.issuers issuer ≡ false →
    answered_in ps issuer dsb g p ≡ false
none-answered ps issuer dsb g p e = grind (arith)

all-open : (ps : Pendings) (issuer : ℕ) (dsb : Dsb) (q : ℕ) (b : Bool) (g : Tag) (p : ℕ) →
    pe_in ps.issuers issuer ≡ false →
    pending_in ps q b g p ≡ (pending_in ps q b g p && not (nat_eq q issuer && answers dsb b))
all-open ps issuer dsb q b g p e = grind (arith, nat_tests)

takes : (old new : Roots) (issuer : ℕ) (dsb : Dsb) → Completes issuer dsb old new → Takes (ADsb issuer dsb) old new
takes old new issuer dsb answered = record {
  taken = λ heading h stands done. completed old new heading h issuer dsb stands answered;
  room = room-same old new answered.roots.declared;
}

pub returns-then-has : goal.returns-then-has
returns-then-has c = takes c.args.self.now c.answer.new.self c.args.issuer c.args.dsb c.answer.ensures

pub returns-else-has : goal.returns-else-has
returns-else-has c =
    let old = c.args.self.now in
    let none : pe_in old.pendings.issuers c.args.issuer ≡ false = sym c.has.ensures ∙ c.if-has.false in
    takes old old c.args.issuer c.args.dsb
    (record {
      holds = λ l g r p. rw (none-answered old.pendings c.args.issuer c.args.dsb g p none) (sym (and-true _));
      pendings = λ q b g p. all-open old.pendings c.args.issuer c.args.dsb q b g p none;
      registers = refl;
      roots = record { header = refl; declared = refl; names = refl; locks = refl };
    })
