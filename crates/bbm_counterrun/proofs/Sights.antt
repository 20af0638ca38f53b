-- What is seen of an entry: walks that read values which mean the same at the same places can't be told apart by it.
use Rattle.bbm_counterrun.proofs.Common.{start_of, Entry, age_by, desc_in, is_leaf, combined, extended, has_number}
use Rattle.bbm_counterrun.proofs.Common.{is_stage2, may_extend, may_start, must_go, started, takes_by, Plan, Read}
use Rattle.bbm_counterrun.proofs.Common.{extended_by, forbids, is_forbidden, may_extend_by, may_walk, outlives}
use Rattle.bbm_counterrun.proofs.Common.{started_by, walked_by}
use Rattle.bbm_tlb_machine.specs.Entry.{is_given_up}
use Rattle.bbm_rules.proofs.Common.{◌≡◌, ℕ, suc, ◌+◌, ◌-◌, ◌≤◌, subst, Bool, true, ◌&&◌, ◌||◌, not, nat_le, nat_lt}
use Rattle.bbm_rules.proofs.Common.{List, [], ◌∷◌, length, Option, Some, None, refl, ◌∙◌, ap, and_from, and_parts, Kind}
use Rattle.bbm_rules.proofs.Common.{desc_of, is_valid, Desc, EntryHead, tag_of, taken, is_global, is_that, some}
use Rattle.bbm_rules.proofs.Common.{page_of, Heading, Event, Dsb, Scope, Tlbi, Issued, completes, reaches, unanswered}
use Rattle.bbm_rules.proofs.Common.{named_scope, vmid_of, itself, reads, next_in, is_readable}
use Rattle.bbm_tlbi_scope.specs.Operations.{family_of}
use Rattle.bbm_rules.specs.Prelude.{input_pages}
use Rattle.bbm_tlb_machine.specs.Step.{is_older, takes}
use Rattle.bbm_lemmas.proofs.Bools.{first_true}
use Rattle.bbm_lemmas.proofs.Tests.{any_same}

-- an entry but for the parts above and the value of the last one; and its meaning
abbrev pub Sight : Type 0
Sight = Entry × Desc

abbrev pub sight_of : Entry → Sight
sight_of x = (record x { last = record (x.last) { value = 0 }; above = [] }, desc_in x.last)

abbrev head_in : Sight → EntryHead
head_in s = record {
  kind = s.0.kind;
  vmid = s.0.vmid;
  asid = s.0.asid;
  region = record { lo = s.0.last.first; hi = s.0.last.first + input_pages s.0.last.level - 1 };
  last = is_leaf s.1;
  level = s.0.last.level;
  global = is_global s.1;
}

-- ---- reads that mean the same

-- at the same place a value that means the same and is no greater, and which the PE can read when these events were
-- taken
pub record IsLikeRead (heading : Heading) (h : List Event) (p : ℕ) (kind : Kind) (level : ℕ) (r l : Read) : Type 0 where
  pub place : r.place ≡ l.place
  pub desc : desc_of kind level r.value ≡ desc_of kind level l.value
  pub readable : is_readable heading h l.place p l.value ≡ true
  pub valid : is_valid kind level l.value ≡ true
  pub not_above : l.value ≤ r.value

-- of each read one, level by level
abbrev pub LikeReads : Heading → List Event → ℕ → Kind → ℕ → List Read → List Read → Type 0
LikeReads heading h p kind level [] [] = Unit {0}
LikeReads heading h p kind level (r ∷ rs) (l ∷ ls) = IsLikeRead heading h p kind level r l × LikeReads heading h p kind (suc level) rs ls
LikeReads heading h p kind level _ _ = ⊥

-- ---- tests that agree

some_same : {X : Type 0} (f g : X → List X → Bool) → ((x : X) (older : List X) → f x older ≡ g x older) → (xs : List X) → some f xs ≡ some g xs
some_same f g e [] = refl
some_same f g e (x ∷ xs) = λ i. e x xs i || some_same f g e xs i

module _ (heading : Heading) where
  takes_by_same : (o : Option Scope) (vmid : Option ℕ) (x y : Entry) → sight_of x ≡ sight_of y → takes_by o vmid x ≡ takes_by o vmid y
  takes_by_same None vmid x y k = refl
  takes_by_same (Some scope) vmid x y k = λ i. taken scope vmid (head_in (k i))

  takes_same : (e : Event) (before : List Event) (x y : Entry) → sight_of x ≡ sight_of y → takes heading e before x ≡ takes heading e before y
  takes_same (Tlbi pe op xt) before x y k = takes_by_same (named_scope heading before pe op xt) (vmid_of heading before pe) x y k
  takes_same _ before x y k = refl

  older_same : (e : Event) (before : List Event) (x y : Entry) → sight_of x ≡ sight_of y → is_older e before x ≡ is_older e before y
  older_same (Tlbi pe op xt) before x y k = λ i. nat_le (age_by (family_of op) (k i).0.kind (k i).0.since (k i).0.joined) (length before)
  older_same _ before x y k = refl

  must_go_same : (t : Issued Event) (x y : Entry) → sight_of x ≡ sight_of y → must_go heading t x ≡ must_go heading t y
  must_go_same t x y k = λ i.
      reaches heading t.tlbi (k i).0.pe && takes_same t.tlbi t.before x y k i && older_same t.tlbi t.before x y k i

  forbids_same : (x y : Entry) → sight_of x ≡ sight_of y → (e : Event) (h : List Event) → forbids heading x e h ≡ forbids heading y e h
  forbids_same x y k (Dsb q dsb) h = any_same _ _ (unanswered itself q h) (λ t i. completes dsb t.tlbi && must_go_same t x y k i)
  forbids_same x y k _ h = refl

  forbidden_same : (from to : ℕ) (x y : Entry) → sight_of x ≡ sight_of y → (h : List Event) → is_forbidden heading from to x h ≡ is_forbidden heading from to y h
  forbidden_same from to x y k = some_same _ _ (λ e before i.
      nat_le from (length before) && nat_lt (length before) to && forbids_same x y k e before i)

  pub outlives_same : (x y : Entry) → sight_of x ≡ sight_of y → (starts : ℕ) (o : Option ℕ) (h : List Event)
      → outlives heading x starts o h ≡ outlives heading y starts o h
  outlives_same x y k starts None h = λ i. not (forbidden_same starts (length h) x y k h i)
  outlives_same x y k starts (Some n) h =
      let late = forbidden_same n (length h) (combined n x) (combined n y) (λ i. (combined n ((k i).0), (k i).1)) h in
      λ i. not (forbidden_same starts n x y k h i) && is_stage2 (k i).0.kind && not (late i)

  -- ---- walks

  abbrev first_in : ℕ → ℕ → Kind → ℕ → ℕ → Desc → Sight
  first_in now p kind number place desc = ((sight_of (started heading now p kind number place 0)).0, desc)

  started_same : (now p : ℕ) (kind : Kind) (number : ℕ) (r l : Read) → r.place ≡ l.place
      → desc_of kind (start_of heading.world kind) r.value ≡ desc_of kind (start_of heading.world kind) l.value
      → sight_of (started heading now p kind number r.place r.value) ≡ sight_of (started heading now p kind number l.place l.value)
  started_same now p kind number r l e d = λ i. first_in now p kind number (e i) (d i)

  extended_same : (h : List Event) (x y : Entry) (r l : Read) → sight_of x ≡ sight_of y
      → IsLikeRead heading h x.pe x.last.kind (suc x.last.level) r l → sight_of (extended x r.place r.value) ≡ sight_of (extended y l.place l.value)
  extended_same h x y r l k c =
      let desc = c.desc ∙ ap (λ (s : Sight). desc_of s.0.last.kind (suc s.0.last.level) l.value) k in λ i. ((sight_of (extended ((k i).0) (c.place i) 0)).0, desc i)

  -- an extend can be made with the one where it can with the other
  extend_same : (h : List Event) (x y : Entry) (r l : Read) → sight_of x ≡ sight_of y
      → IsLikeRead heading h x.pe x.last.kind (suc x.last.level) r l → may_extend heading h x r.place r.value ≡ true
      → may_extend heading h y l.place l.value ≡ true
  extend_same h x y r l k c m =
      let both = and_parts _ _ (first_true _ _ (first_true _ _ m)) in
      subst (λ (s : Sight). not (is_given_up heading h s.0) && is_that (next_in s.1) (page_of l.place)
      && is_readable heading h l.place s.0.pe l.value && is_valid s.0.last.kind (suc s.0.last.level) l.value ≡ true) k
      (and_from _ _ (and_from _ _ (and_from _ _ both.0
      (subst (λ place. is_that (next_in (desc_in x.last)) (page_of place) ≡ true) c.place both.1)) c.readable) c.valid)

  walks_same : (h : List Event) (x y : Entry) (rs ls : List Read) → sight_of x ≡ sight_of y
      → LikeReads heading h x.pe x.last.kind (suc x.last.level) rs ls → may_extend_by heading h x rs ≡ true
      → (may_extend_by heading h y ls ≡ true) × (sight_of (extended_by x rs) ≡ sight_of (extended_by y ls))
  walks_same h x y [] [] k c m = (refl, k)
  walks_same h x y (r ∷ rs) (l ∷ ls) k c m =
      let a = and_parts (may_extend heading h x r.place r.value) (may_extend_by heading h (extended x r.place r.value) rs) m in
      let rest = walks_same h (extended x r.place r.value) (extended y l.place l.value) rs ls (extended_same h x y r l k c.0) c.1 a.1 in
      (and_from _ _ (extend_same h x y r l k c.0 a.0) rest.0, rest.1)
  walks_same h x y _ _ k c m = absurd c

  -- a start can be made with the one where it can with the other
  start_same : (h : List Event) (x y : Entry) (number : ℕ) → sight_of x ≡ sight_of y → may_start heading h x number ≡ true
      → is_readable heading h y.last.place x.pe y.last.value ≡ true → is_valid x.last.kind x.last.level y.last.value ≡ true
      → may_start heading h y number ≡ true
  start_same h x y number k m readable valid =
      subst (λ (s : Sight). reads heading h s.0.pe (tag_of s.0.last.kind (head_in s)) s.0.root
      && has_number heading.world h s.0.pe s.0.last.kind number && is_readable heading h y.last.place s.0.pe y.last.value
      && is_valid s.0.last.kind s.0.last.level y.last.value ≡ true) k
      (and_from _ _ (and_from _ _ (first_true _ _ (first_true _ _ m)) readable) valid)

  -- the plan with other reads
  abbrev pub with_reads : Plan → Read → List Read → Plan
  with_reads plan l ls = record plan { first = l; rest = ls }

  pub plan_same : (h : List Event) (plan : Plan) (l : Read) (ls : List Read)
      → LikeReads heading h plan.pe plan.kind (start_of heading.world plan.kind) (plan.first ∷ plan.rest) (l ∷ ls)
      → may_walk heading h plan ≡ true
      → (may_walk heading h (with_reads plan l ls) ≡ true)
      × (sight_of (walked_by heading plan) ≡ sight_of (walked_by heading (with_reads plan l ls)))
  plan_same h plan l ls c m =
      let a = and_parts (may_start heading h (started_by heading plan) plan.number) _ m in
      let k = started_same plan.starts plan.pe plan.kind plan.number plan.first l c.0.place c.0.desc in
      let w = walks_same h (started_by heading plan) (started_by heading (with_reads plan l ls)) plan.rest ls k c.1 a.1 in (
        and_from _ _ (start_same h (started_by heading plan) (started_by heading (with_reads plan l ls)) plan.number k a.0
            c.0.readable c.0.valid) w.0,
        w.1,
      )
