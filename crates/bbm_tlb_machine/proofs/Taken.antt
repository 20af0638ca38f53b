-- An unanswered TLBI that covers a place of a part, behind a barrier that publishes a write of it, takes the entry.
use Rattle.bbm_rules.proofs.Common.{◌≡◌, ℕ, ◌<◌, ◌≤◌, true, false, List, ◌∷◌, length, Some, Contains, sym, ◌∙◌, ap}
use Rattle.bbm_rules.proofs.Common.{subst, inl, inr, arith, read_through, cover_by, fits_place, Cover, Half, Second}
use Rattle.bbm_rules.proofs.Common.{Full, EntryKind, Stage2, Combined, keeps, Trust, noted, ValidWrite, last_valid}
use Rattle.bbm_rules.proofs.Common.{Bool, Noted, events_of, Publication, Heading, Event, S2, Issued, reaches, vmid_of}
use Rattle.bbm_rules.proofs.Common.{Open, completes_for, itself}
use Rattle.bbm_tlbi_scope.specs.Takes.{taken as taken_by_scope}
use Rattle.bbm_tlbi_scope.specs.declared.entry.Cover.TheVariants.{None as NoCover}
use Rattle.bbm_tlb_machine.specs.Entry.{Entry, Part, age_by, head_of, is_given_up, parts_of}
use Rattle.bbm_tlb_machine.specs.Invariant.{Fine, Goes, HalfAs, IsNear, Rooted, Taken, Unanswered}
use Rattle.bbm_tlb_machine.specs.KnownOfMachine.{Known}
use Rattle.bbm_tlb_machine.proofs.AfterEvent.{publication_answered, publication_before}
use Rattle.bbm_tlb_machine.proofs.Grades.{half_before}
use Rattle.bbm_tlb_machine.proofs.Covered.{Covering, covering}
use Rattle.bbm_histories.proofs.Induction.{At, event_at, events_append}
use Rattle.bbm_tlb_machine.proofs.Scopes.{cover_inside, full_age, half_is_s2, must_go_by, second_age, stage2_age}

-- it is open among the events alone
pub open_among : (heading : Heading) (trust : Trust) (k : Known heading trust) (h : List Event) (top : Bool) (cover : Cover) (place p : ℕ)
    (since : List Noted) (t : Issued Noted) (u : Unanswered heading trust h top cover place p since t)
    → Open itself u.q h (record { tlbi = t.tlbi.event; before = events_of u.older })
open_among heading trust k h top cover place p since t u = record {
  newer = events_of u.is_open.newer;
  split = sym (k.notes_keep_the_events h) ∙ (ap events_of u.whole ∙ events_append u.is_open.newer (t.tlbi ∷ u.older));
  issued = u.is_open.issued;
  uncompleted = λ y after before s.
      let a : At u.is_open.newer y = event_at u.is_open.newer after before y s in
      subst (λ (z : Event). completes_for u.q t.tlbi.event z ≡ false) a.is (u.is_open.uncompleted a.item a.newer a.older a.split);
}

module _ (heading : Heading) (trust : Trust) (k : Known heading trust) (x : Entry) where
  -- what reaches a PE near reaches the entry's own
  pub reached_here : (t : Event) (p : ℕ) → IsNear heading x p → reaches heading t p ≡ true → reaches heading t x.pe ≡ true
  reached_here t p (inl same) r = ap (reaches heading t) (sym same) ∙ r
  reached_here t p (inr c) r = k.uniform.reached t x.pe p c.0 ∙ r

module _ (heading : Heading) (trust : Trust) (k : Known heading trust) (h : List Event) (kept : keeps heading trust h ≡ true)
    (x : Entry) (f : Fine heading trust h x) (up : is_given_up heading h x ≡ false) (g : Rooted heading trust h x) where
  module _ (top : Bool) (part : Part) (i : Contains (parts_of x) part) (at_last : top ≡ true → x.last ≡ part) (w : ValidWrite)
      (last : last_valid part.kind part.level part.place (noted heading trust h) ≡ Some w) (p : ℕ) (near : IsNear heading x p)
      (b : Noted) (t : Issued Noted) where
    module _ (cover : Cover) (u : Unanswered heading trust h top cover part.place p w.since t) where
      covers : Publication heading part.place p t.before b → (cover ≡ NoCover → ⊥) → Covering heading x t cover u.older
      covers published some =
          covering heading trust k h kept x f up g top part i at_last w last p u.q near t u.is_open b published
          (g.made_before part i w last p near b (publication_before heading trust k part.place p u.q w.since t b u.is_open published))
          cover some u.covered u.older u.whole

      goes : (c : Covering heading x t cover u.older) (age : ℕ)
          → taken_by_scope c.by_scope.scope (vmid_of heading (events_of u.older) c.by_scope.pe) (head_of x) ≡ true
          → age_by c.by_scope.scope.family x.kind x.since x.joined ≡ age → age ≤ length (events_of u.older)
          → Goes heading trust h x t.tlbi u.older
      goes c age takes aged old =
          must_go_by heading x t.tlbi.event (events_of u.older) c.by_scope.pe c.by_scope.op c.by_scope.xt c.by_scope.scope c.by_scope.is
          (reached_here heading trust k x t.tlbi.event p near u.reached) c.by_scope.named takes age aged old

      inside : (cover ≡ NoCover → ⊥) → (c : Covering heading x t cover u.older)
          → cover_by c.view.kind c.by_scope.scope.family (fits_place c.by_scope.scope c.view) c.by_scope.scope
          (vmid_of heading (events_of u.older) c.by_scope.pe) c.view ≡ cover
      inside some c =
          cover_inside c.by_scope.scope (vmid_of heading (events_of u.older) c.by_scope.pe) c.view cover some c.by_scope.says

    full_goes : Publication heading part.place p t.before b → (u : Unanswered heading trust h top Full part.place p w.since t)
        → Goes heading trust h x t.tlbi u.older
    full_goes published u =
        let c = covers Full u published (λ k. cc) in
        goes Full u c x.since
        (k.full_takes c.by_scope.scope (vmid_of heading (events_of u.older) c.by_scope.pe) (head_of x) c.view c.agrees c.by_scope.says)
        (full_age c.view.kind c.by_scope.scope.family _ c.by_scope.scope _ c.view x.kind x.since x.joined c.agrees.kind
        (inside Full u (λ k. cc) c)) c.since

    half_goes : x.kind ≡ Stage2 → Publication heading part.place p t.before b
        → (u : Unanswered heading trust h top Half part.place p w.since t) → Goes heading trust h x t.tlbi u.older
    half_goes stage2 published u =
        let c = covers Half u published (λ k. cc) in
        goes Half u c x.since
        (k.half_takes c.by_scope.scope (vmid_of heading (events_of u.older) c.by_scope.pe) (head_of x) c.view c.agrees stage2 c.by_scope.says)
        (ap (λ (y : EntryKind). age_by c.by_scope.scope.family y x.since x.joined) stage2 ∙ stage2_age c.by_scope.scope.family x.since x.joined)
        c.since

    rest_goes : x.kind ≡ Combined → (t1 : Issued Noted) (d1 : Noted) → HalfAs top heading part.place p t.before b t1 d1
        → (u : Unanswered heading trust h top Second part.place p w.since t) → Goes heading trust h x t.tlbi u.older
    rest_goes combined t1 d1 first u =
        let published : Publication heading part.place p t.before b
        = publication_answered heading trust k part.place p t.before t1 d1 b first.flush.answer first.published in
        let c = covers Second u published (λ k. cc) in
        let joined : x.joined < d1.position
        = (g.joined_before top part i at_last w last p near b t1 d1 (half_before top heading part.place p u.q w.since t b t1 d1 u.is_open first)).1 in
        let le : d1.position ≤ length (events_of u.older) = c.earlier first.flush.answer.newer first.flush.answer.older d1 first.flush.answer.split in
        goes Second u c x.joined
        (k.second_takes c.by_scope.scope (vmid_of heading (events_of u.older) c.by_scope.pe) (head_of x) c.view c.agrees combined c.by_scope.says)
        (ap (λ (y : EntryKind). age_by c.by_scope.scope.family y x.since x.joined) combined
        ∙ second_age c.view.kind c.by_scope.scope.family _ c.by_scope.scope _ c.view x.since x.joined
        (ap (λ (y : EntryKind). read_through y c.view.kind) (sym combined) ∙ c.agrees.kind) (inside Second u (λ k. cc) c))
        (omega (arith, le, joined))

    -- a TLBI that covers a place half covers one of stage 2
    pub half_through : Publication heading part.place p t.before b → Unanswered heading trust h top Half part.place p w.since t
        → read_through x.kind S2 ≡ true
    half_through published u =
        let c = covers Half u published (λ k. cc) in
        let s2 : c.view.kind ≡ S2
        = half_is_s2 c.view.kind c.by_scope.scope.family _ c.by_scope.scope _ c.view (inside Half u (λ k. cc) c) in
        ap (read_through x.kind) (sym s2) ∙ c.agrees.kind

  pub taken : Taken heading trust h x
  taken = record {
    full = full_goes;
    half = λ stage2 top part i at_last w last p near b t. half_goes top part i at_last w last p near b t stage2;
    rest = λ combined top part i at_last w last p near b t1 d1 t. rest_goes top part i at_last w last p near b t combined t1 d1;
  }
