-- One more event after which no entry is left that a TLBI which it answers must have taken: the tag, and the patterns after
-- the last valid writes of the parts' places.
use Rattle.bbm_rules.proofs.Common.{◌≡◌, ◌⊎◌, ℕ, suc, ◌<◌, ◌≤◌, not, true, false, List, [], ◌∷◌, ◌++◌, length, Option}
use Rattle.bbm_rules.proofs.Common.{Some, None, Contains, refl, sym, ◌∙◌, ap, subst, inl, inr, arith, true≢false}
use Rattle.bbm_rules.proofs.Common.{and_parts, Kind, read_through, tag_of, takes_whole_tag, taken, Cover, Half, Second}
use Rattle.bbm_rules.proofs.Common.{Full, EntryKind, Combined, keeps, Trust, note, noted, ValidWrite, last_valid, Noted}
use Rattle.bbm_rules.proofs.Common.{Bool, events_of, Answer, IsLastValid, Publication, Heading, S2, Tag}
use Rattle.bbm_rules.proofs.Common.{Event, Dsb, Tlbi, Issued, reaches, vmid_of, Open, TakenAway}
use Rattle.bbm_rules.proofs.Common.{itself, takes_tag}
use Rattle.std.proofs.lemmas.List.{append_assoc}
use Rattle.bbm_tlbi_scope.specs.Numbers.{lacks_vmid as scope_lacks_vmid}
use Rattle.bbm_tlbi_scope.specs.ScopeTags.{whole_tag_by}
use Rattle.bbm_tlbi_scope.specs.declared.scope.Scope.{Scope}
use Rattle.bbm_tlb_machine.specs.Entry.{Entry, Part, age_by, head_of, is_given_up, parts_of, tag_of_entry}
use Rattle.bbm_tlb_machine.specs.Invariant.{Fine, Goes, IsNear, JoinedBefore, MadeBefore, Tagged, Taken, Unanswered}
use Rattle.bbm_tlb_machine.specs.FineSteps.{LeavesIt}
use Rattle.bbm_tlb_machine.specs.Invariant.{FlushAs, HalfAs, Rooted, Uncleansed, grade}
use Rattle.bbm_tlb_machine.specs.KnownOfMachine.{Known}
use Rattle.bbm_tlb_machine.specs.Step.{must_go}
use Rattle.bbm_tlb_machine.proofs.Grades.{half_before}
use Rattle.bbm_tlb_machine.proofs.AfterEvent.{AnswersNow, answer_after, last_step, no_answer}
use Rattle.bbm_tlb_machine.proofs.AfterEvent.{no_publication, publication_after}
use Rattle.bbm_histories.proofs.Induction.{events_length}
use Rattle.bbm_tlb_machine.proofs.Scopes.{Scoped, must_go_by, scoped, through_s2, whole_age}
use Rattle.bbm_tlb_machine.proofs.Taken.{half_through, open_among, reached_here, taken as taken_entry}

s2_if_combined : (kind : Kind) → read_through Combined kind ≡ true → kind ≡ S2
s2_if_combined S2 e = refl
s2_if_combined kind e = absurd (true≢false (sym e))

module _ (heading : Heading) where
  -- what answers a TLBI after fewer events flushes after them
  flush_of : {top : Bool} {cover : Cover} {place p : ℕ} {more since : List Noted} {t : Issued Noted} {d : Noted}
      → FlushAs top heading cover place p more t d → Answer since t d → FlushAs top heading cover place p since t d
  flush_of f a = record { answer = a; reached = f.reached; covered = f.covered }

  -- a TLBI that takes a whole tag
  takes_whole : (e : Event) (before : List Event) (tag : Tag) → takes_tag heading e before tag ≡ true
      → Scoped heading before e (λ scope vmid. takes_whole_tag scope vmid tag ≡ true)
  takes_whole (Tlbi pe op xt) before tag e =
      scoped heading before pe op xt _
      (λ (o : Option Scope). (elim o [ None ↦ false | Some scope ↦ takes_whole_tag scope (vmid_of heading before pe) tag ]) ≡ true)
      (λ k. true≢false (sym k)) (λ scope k. k) e
  takes_whole e before tag k = absurd (true≢false (sym k))

module _ (heading : Heading) (trust : Trust) (k : Known heading trust) (h : List Event) (e : Event)
    (kept : keeps heading trust h ≡ true) (x : Entry) (f : Fine heading trust h x) (none : LeavesIt heading h e x) where
  -- ---- the tag

  not_taken : (t : Issued Event) → TakenAway heading trust f.tagged.pe (tag_of_entry x) (e ∷ h) t
      → length f.tagged.held.older ≤ length t.before → ⊥
  not_taken t a le = by a.later a.split
    where
      by : (later : List Event) → e ∷ h ≡ later ++ Dsb a.q a.dsb ∷ a.earlier → ⊥
      by [] s =
          let first : e ≡ Dsb a.q a.dsb = cc in
          let rest : h ≡ a.earlier = cc in
          let w = takes_whole heading t.tlbi t.before (tag_of_entry x) a.whole in
          let parts = and_parts (not (scope_lacks_vmid w.scope.vmid_scoped (vmid_of heading t.before w.pe)))
          (whole_tag_by (tag_of_entry x) w.scope.family w.scope (vmid_of heading t.before w.pe)) w.says in
          let takes : taken w.scope (vmid_of heading t.before w.pe) (head_of x) ≡ true
          = k.whole_tag_takes w.scope (vmid_of heading t.before w.pe) (head_of x) x.last.kind f.shape.fits
          f.own_asid w.says in
          let age : age_by w.scope.family x.kind x.since x.joined ≡ x.since
          = whole_age (tag_of_entry x) w.scope.family w.scope (vmid_of heading t.before w.pe) x.kind x.since x.joined
          (λ c. (x.vmid, ap (λ (s : Kind). tag_of s (head_of x)) (s2_if_combined x.last.kind (ap (λ (y : EntryKind). read_through y x.last.kind) (sym c) ∙ f.shape.fits))))
          parts.1 in
          let old : x.since ≤ length t.before = omega (arith, f.tagged.moment, le) in
          let must : must_go heading t x ≡ true
          = must_go_by heading x t.tlbi t.before w.pe w.op w.xt w.scope w.is (reached_here heading trust k x t.tlbi f.tagged.pe f.tagged.near a.reached)
          w.named takes x.since age old in
          true≢false (sym must ∙ none a.q a.dsb first t
          (k.answered.complete a.q h t (subst (λ (es : List Event). Open itself a.q es t) (sym rest) a.is_open))
          a.answered)
      by (y ∷ later) s =
          let rest : h ≡ later ++ Dsb a.q a.dsb ∷ a.earlier = cc in
          f.tagged.held.not_taken t (record {
            q = a.q;
            dsb = a.dsb;
            later = later;
            earlier = a.earlier;
            split = rest;
            is_open = a.is_open;
            answered = a.answered;
            reached = a.reached;
            whole = a.whole;
            unread = a.unread;
            allowed = a.allowed;
          }) le

  pub tagged_after : Tagged heading trust (e ∷ h) x
  tagged_after = record {
    pe = f.tagged.pe;
    near = f.tagged.near;
    is_pe = f.tagged.is_pe;
    held = record {
      newer = e ∷ f.tagged.held.newer;
      older = f.tagged.held.older;
      split = ap (λ (es : List Event). e ∷ es) f.tagged.held.split;
      read = f.tagged.held.read;
      not_taken = not_taken;
    };
    moment = f.tagged.moment;
  }

-- ---- the patterns

module _ (heading : Heading) (trust : Trust) (k : Known heading trust) (h : List Event) (e : Event)
    (kept : keeps heading trust h ≡ true) (x : Entry) (f : Fine heading trust h x) (up : is_given_up heading h x ≡ false)
    (g : Rooted heading trust h x) (none : LeavesIt heading h e x) where
  count : length (noted heading trust h) ≡ length h
  count = sym (events_length (noted heading trust h)) ∙ ap length (k.notes_keep_the_events h)

  its : Taken heading trust h x
  its = taken_entry heading trust k h kept x f up g

  pub made_before_after : MadeBefore heading trust (e ∷ h) x
  made_before_after part i w last p near b published =
      elim (last_step part.kind part.level part.place (note heading trust (noted heading trust h) e) (noted heading trust h) w last) [
        | inl s ↦ absurd (no_publication heading part.place p b (subst (λ (xs : List Noted). Publication heading part.place p xs b) s published))
        | inr v ↦
            elim (publication_after heading part.place p (note heading trust (noted heading trust h) e) v.0.since b
            (subst (λ (xs : List Noted). Publication heading part.place p xs b) v.2 published)) [
              | inl same ↦
                  let position : b.position ≡ suc (length (noted heading trust h)) = ap (λ (n : Noted). n.position) same in
                  omega (arith, position, count, f.shape.made)
              | inr old ↦ g.made_before part i v.0 v.1 p near b old
            ]
      ]

  -- a TLBI that is answered now, and covers the place of a part so far, is among those that the entry would have to leave for
  module _ (top : Bool) (part : Part) (i : Contains (parts_of x) part) (at_last : top ≡ true → x.last ≡ part) (v : ValidWrite)
      (last : last_valid part.kind part.level part.place (noted heading trust h) ≡ Some v) (p : ℕ) (near : IsNear heading x p)
      (t : Issued Noted) (d : Noted) (a : AnswersNow (note heading trust (noted heading trust h) e) v.since t d)
      (reached : reaches heading t.tlbi.event p ≡ true) where
    unanswered_by : (cover : Cover) → grade top t.tlbi part.place ≡ cover → Unanswered heading trust h top cover part.place p v.since t
    unanswered_by cover covered =
        let w : IsLastValid part.kind part.level part.place (noted heading trust h) v
        = k.last_valid.sound part.kind part.level part.place (noted heading trust h) v last in
        record {
          q = a.q;
          is_open = a.is_open;
          reached = reached;
          covered = covered;
          older = t.before ++ w.write ∷ w.older;
          whole = w.split ∙ (ap (λ (ns : List Noted). ns ++ w.write ∷ w.older) a.is_open.split
              ∙ append_assoc a.is_open.newer (t.tlbi ∷ t.before) (w.write ∷ w.older));
        }

    stays : (cover : Cover) (covered : grade top t.tlbi part.place ≡ cover)
        → Goes heading trust h x t.tlbi (unanswered_by cover covered).older → ⊥
    unfolding unanswered_by
    stays cover covered must =
        let u : Unanswered heading trust h top cover part.place p v.since t = unanswered_by cover covered in
        let plain : Issued Event = record { tlbi = t.tlbi.event; before = events_of u.older } in
        true≢false (sym must ∙ none a.q a.dsb a.barrier plain
        (k.answered.complete a.q h plain (open_among heading trust k h top cover part.place p v.since t u)) a.completed)

    full_stays : (b : Noted) → Publication heading part.place p t.before b → grade top t.tlbi part.place ≡ Full → ⊥
    full_stays b published covered =
        stays Full covered (its.full top part i at_last v last p near b t published (unanswered_by Full covered))

    half_stays : (b : Noted) → Publication heading part.place p t.before b → grade top t.tlbi part.place ≡ Half
        → (x.kind ≡ Combined) × (x.joined < d.position)
    half_stays b published covered =
        elim (through_s2 x.kind (half_through heading trust k h kept x f up g top part i at_last v last p near b t published (unanswered_by Half covered))) [
          | inl stage2 ↦
              absurd (stays Half covered (its.half stage2 top part i at_last v last p near b t published (unanswered_by Half covered)))
          | inr combined ↦
              let position : d.position ≡ suc (length (noted heading trust h)) = ap (λ (n : Noted). n.position) a.is in
              (combined, omega (arith, position, count, f.shape.joined))
        ]

    rest_stays : (b : Noted) (t1 : Issued Noted) (d1 : Noted) → HalfAs top heading part.place p t.before b t1 d1
        → grade top t.tlbi part.place ≡ Second → ⊥
    rest_stays b t1 d1 first covered =
        let joined = g.joined_before top part i at_last v last p near b t1 d1
        (half_before top heading part.place p a.q v.since t b t1 d1 a.is_open first) in
        stays Second covered (its.rest joined.0 top part i at_last v last p near b t1 d1 t first (unanswered_by Second covered))

  -- the event answers the TLBI, or it was answered before it
  answered_when : (part : Part) (w : ValidWrite) → last_valid part.kind part.level part.place (noted heading trust (e ∷ h)) ≡ Some w
      → (t : Issued Noted) (d : Noted) → Answer w.since t d
      → ((v : ValidWrite) × (last_valid part.kind part.level part.place (noted heading trust h) ≡ Some v)
      × AnswersNow (note heading trust (noted heading trust h) e) v.since t d)
      ⊎ ((v : ValidWrite) × (last_valid part.kind part.level part.place (noted heading trust h) ≡ Some v) × Answer v.since t d)
  answered_when part w last t d answer =
      elim (last_step part.kind part.level part.place (note heading trust (noted heading trust h) e) (noted heading trust h) w last) [
        | inl s ↦ absurd (no_answer t d (subst (λ (xs : List Noted). Answer xs t d) s answer))
        | inr v ↦ elim (answer_after (note heading trust (noted heading trust h) e) v.0.since t d (subst (λ (xs : List Noted). Answer xs t d) v.2 answer)) [
          | inl a ↦ inl (v.0, v.1, a)
          | inr old ↦ inr (v.0, v.1, old)
        ]
      ]

  pub joined_before_after : JoinedBefore heading trust (e ∷ h) x
  joined_before_after top part i at_last w last p near b t d half =
      elim (answered_when part w last t d half.flush.answer) [
        | inl v ↦ half_stays top part i at_last v.0 v.1 p near t d v.2 half.flush.reached b half.published half.flush.covered
        | inr v ↦ g.joined_before top part i at_last v.0 v.1 p near b t d (record { flush = flush_of heading half.flush v.2; published = half.published })
      ]

  pub uncleansed_after : Uncleansed heading trust (e ∷ h) x
  uncleansed_after top part i at_last w last p near (inl one) =
      elim (answered_when part w last one.t one.d one.flush.answer) [
        | inl v ↦ full_stays top part i at_last v.0 v.1 p near one.t one.d v.2 one.flush.reached one.b one.published one.flush.covered
        | inr v ↦ g.uncleansed top part i at_last v.0 v.1 p near (inl
            (record { b = one.b; t = one.t; d = one.d; published = one.published; flush = flush_of heading one.flush v.2 }))
      ]
  uncleansed_after top part i at_last w last p near (inr two) =
      elim (answered_when part w last two.t2 two.d2 two.second.answer) [
        | inl v ↦ rest_stays top part i at_last v.0 v.1 p near two.t2 two.d2 v.2 two.second.reached two.b two.t1 two.d1 two.first two.second.covered
        | inr v ↦ g.uncleansed top part i at_last v.0 v.1 p near (inr (record {
          b = two.b;
          t1 = two.t1;
          d1 = two.d1;
          t2 = two.t2;
          d2 = two.d2;
          first = two.first;
          second = flush_of heading two.second v.2;
        }))
      ]
