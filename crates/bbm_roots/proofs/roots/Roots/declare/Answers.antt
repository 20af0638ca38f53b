use Rattle.bbm_roots.proofs.Common.{◌≡◌, ◌∙◌, ap, sym, refl, nat_eq, ◌+◌, ◌∷◌, cond, ℕ, Option, Some, None, Bool, false, ◌||◌, false≢true, second_none}
use Rattle.bbm_roots.proofs.Common.{Event, Root, Declared, root_at, roots_of, retired, loads_after, is_some, length}
use Rattle.bbm_roots.proofs.Common.{arith, rules, get, index_map_len, Patterns, Reg, first_reg, second_reg}
use Rattle.bbm_lemmas.proofs.Bools.{first_none}
use Rattle.bbm_histories.proofs.Induction.{kept_next}
use Rattle.bbm_histories.proofs.ValueSteps.{root_step}
use Rattle.bbm_roots.proofs.Judge.{free_page}
use Rattle.bbm_roots.proofs.Readable.{loads-stay, standings-stay}
use Rattle.bbm_roots.proofs.RootLists.{absent-retired, unlocked}
use Rattle.bbm_roots.proofs.Steps.{kept-stands}
use Rattle.bbm_roots.proofs.roots.Roots.declare.Goals as goal

-- where a lock is none that was named
unnamed : (before now : Bool) (lock : Option ℕ) → now ≡ is_some lock → (before || now) ≡ false → lock ≡ None
unnamed before now None is none = refl
unnamed before now (Some l) is none = absurd (false≢true (sym (second_none before now none) ∙ is))

pub returns-in-Ok : goal.returns-in-Ok
returns-in-Ok c = λ pe heading h stands keeps.
    let laws = c.laws_below.ensures heading in
    let e : Event = Root pe c.args.kind c.args.lock c.args.page in
    let root : Declared = record { page = c.args.page; kind = c.args.kind; lock = c.args.lock } in
    let absent : root_at h c.args.page ≡ None = free_page pe c.args.page c.args.kind c.args.lock laws stands keeps in
    let stay = laws.bases.stay h e (laws.proper stands.proper) (kept_next heading Patterns h e stands.kept keeps) in
    let same : (p : ℕ) (reg : Reg) → loads_after (e ∷ h) p reg ≡ loads_after h p reg = loads-stay heading h e stay stands.outside in
    let none : is_some c.in-Ok.field-0 ≡ false =
    ap (is_some {T = Declared}) (c.in-Ok.ensures.old ∙ stands.declared c.get.result
    ∙ ap (λ (n : ℕ). root_at h n) c.get.ensures.value ∙ absent) in
    let len : index_map_len c.insert.new.self ≡ index_map_len c.args.self.now.declared + 1 =
    c.in-Ok.ensures.len ∙ ap (λ (b : Bool). index_map_len c.args.self.now.declared + cond b 0 1) none in
    let short : length (retired c.args.page (roots_of h)) ≡ length (roots_of h) =
    ap (length {A = Declared}) (absent-retired c.args.page (roots_of h) absent) in
    kept-stands _ stands e keeps refl stands.holders refl refl refl
    (λ p. same p (first_reg heading.world)) (λ p. same p (second_reg heading.world))
    (standings-stay heading h e stay stands.outside) (λ p reg. refl) (λ r. refl) (λ g p. refl) (λ q b g p. refl)
    (λ q. c.in-Ok.ensures.updates.0 q
    ∙ ap (λ (n : ℕ). cond (nat_eq n q) (Some root) (get nat_eq c.args.self.now.declared q)) c.get.ensures.value
    ∙ ap (λ (o : Option Declared). cond (nat_eq c.args.page q) (Some root) o) (stands.declared q)
    ∙ sym (root_step e h q))
    (omega (arith, stands.count))
    (λ none. unlocked h e c.args.page (Some root) (λ q. refl) (unnamed _ c.is_some.result c.args.lock (search rules) none)
    (stands.locks (first_none c.args.self.now.names_locks c.is_some.result none)))
