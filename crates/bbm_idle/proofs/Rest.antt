-- What is left without the idle events has no idle event.
use Rattle.bbm_idle.proofs.Common.{Patterns, is_cast, Alike, waits, waits_after, answers_needed, keeps_phases}
use Rattle.bbm_idle.proofs.Common.{without_idle, Known}
use Rattle.bbm_rules.proofs.Common.{◌≡◌, ℕ, Bool, true, false, cond, not, ◌&&◌, ◌||◌, ◌==◌, List, [], ◌∷◌, ◌++◌}
use Rattle.bbm_rules.proofs.Common.{is_none, refl, sym, ◌∙◌, ap, subst, and_parts, not-true, proved, Is, answers, keeps}
use Rattle.bbm_rules.proofs.Common.{any, Barrier, Heading, Event, Dsb, Isb, Tlbi, unanswered, itself}
use Rattle.bbm_rules.specs.Broken.{broken}
use Rattle.bbm_idle.specs.Idle.{is_idle}
use Rattle.bbm_idle.proofs.FindWaiting.{answered, waits_next}
use Rattle.bbm_idle.proofs.Judged.{same_kept, same_needed}
use Rattle.bbm_idle.proofs.Registers.{wrote_alike}
use Rattle.bbm_idle.proofs.Thinned.{Thin, thinned}
use Rattle.bbm_idle.proofs.Waits.{dropped, left_alone}

module _ (heading : Heading) where
  -- ---- TLBIs that were needed at their issue and aren't answered yet

  abbrev pub WaitAlike : List Event → List Event → Type 0
  WaitAlike h h' = (cast : Bool) (q : ℕ) → waits heading cast q h ≡ waits heading cast q h'

  answers_alike : (q : ℕ) (dsb : Barrier) (h h' : List Event) → WaitAlike h h'
      → any (answers_needed heading dsb) (unanswered itself q h) ≡ any (answers_needed heading dsb) (unanswered itself q h')
  answers_alike q dsb h h' alike =
      answered heading dsb (unanswered itself q h)
      ∙ (ap (λ (x : Bool). (answers dsb true && x) || (answers dsb false && waits heading false q h)) (alike true q)
      ∙ (ap (λ (x : Bool). (answers dsb true && waits heading true q h') || (answers dsb false && x)) (alike false q)
      ∙ sym (answered heading dsb (unanswered itself q h'))))

  -- an idle event leaves them
  left_out : (h : List Event) (e : Event) (cast : Bool) (q : ℕ) → is_idle heading h e ≡ true
      → waits_after cast true e q (waits heading cast q h) ≡ waits heading cast q h
  unfolding is_idle
  left_out h (Tlbi pe op xt) cast q idle =
      dropped (pe == q) (is_cast cast (Tlbi pe op xt)) false (waits heading cast q h) refl
  left_out h (Dsb pe dsb) cast q idle =
      proved 2 (λ b t. Is (b && not t) (cond t false b)) refl (waits heading cast q h) (pe == q && answers dsb cast)
      ∙ left_alone pe q cast dsb (λ x c. waits heading c x h) (sym (answered heading dsb (unanswered itself pe h))
      ∙ not-true (any (answers_needed heading dsb) (unanswered itself pe h))
      (and_parts (keeps_phases heading h (Dsb pe dsb)) (not (any (answers_needed heading dsb) (unanswered itself pe h)))
      idle).1)
  left_out h e cast q idle = refl

  idle_out : (h : List Event) (e : Event) → is_idle heading h e ≡ true → WaitAlike (e ∷ h) h
  idle_out h e idle cast q =
      waits_next heading e h cast q
      ∙ (ap (λ (x : Bool). waits_after cast x e q (waits heading cast q h)) idle ∙ left_out h e cast q idle)

  -- and an event that both histories have leaves them alike, where both take it for idle or neither does
  taken_on : (e : Event) (h h' : List Event) → WaitAlike h h' → is_idle heading h e ≡ is_idle heading h' e
      → WaitAlike (e ∷ h) (e ∷ h')
  taken_on e h h' alike same cast q =
      waits_next heading e h cast q
      ∙ (ap (λ (x : Bool). waits_after cast x e q (waits heading cast q h)) same
      ∙ (ap (λ (x : Bool). waits_after cast (is_idle heading h' e) e q x) (alike cast q) ∙ sym (waits_next heading e h' cast q)))

module _ (heading : Heading) (k : Known heading) where
  -- histories that are alike, in which such TLBIs wait alike, take the same events for idle
  same_idle : (h h' : List Event) (e : Event) → Alike heading Patterns Patterns h h' → WaitAlike heading h h'
      → Alike heading Patterns Patterns (e ∷ h) (e ∷ h') → is_idle heading h e ≡ is_idle heading h' e
  unfolding is_idle
  same_idle h h' (Isb pe) a w on = ap not (wrote_alike pe h h' (a.registers.values pe))
  same_idle h h' (Tlbi pe op xt) a w on = ap not (same_needed heading h h' a k (Tlbi pe op xt))
  same_idle h h' (Dsb pe dsb) a w on =
      ap (λ (x : Bool). x && not (any (answers_needed heading dsb) (unanswered itself pe h))) (same_kept heading h h' a k (Dsb pe dsb) on)
      ∙ ap (λ (x : Bool). keeps_phases heading h' (Dsb pe dsb) && not x) (answers_alike heading pe dsb h h' w)
  same_idle h h' e a w on = refl

  -- ---- a history that keeps the rules, without its idle events

  pub record Left (h : List Event) : Type 0 where
    pub thin : Thin heading k (is_idle heading) (λ older e idle. idle) h
    pub waits : WaitAlike heading h (without_idle heading h)
    pub none_idle : (newer older : List Event) (e : Event) → without_idle heading h ≡ newer ++ e ∷ older → is_idle heading older e ≡ false

  thin_at : (h : List Event) → keeps heading Patterns h ≡ true → Thin heading k (is_idle heading) (λ older e idle. idle) h
  thin_at h kept = thinned heading k (is_idle heading) (λ older e idle. idle) h kept

  pub left : (h : List Event) → keeps heading Patterns h ≡ true → Left h
  left [] kept = record {
    thin = thin_at [] kept;
    waits = λ q b. refl;
    none_idle = λ newer older e split. empty newer older e split;
  }
    where
      empty : (newer older : List Event) (e : Event) → [] ≡ newer ++ e ∷ older → is_idle heading older e ≡ false
      empty [] older e split = cc
      empty (x ∷ newer) older e split = cc
  left (e ∷ h) kept =
      let r = by (left h (and_parts (keeps heading Patterns h) (is_none (broken heading Patterns h e)) kept).0) (is_idle heading h e) refl
      (thin_at (e ∷ h) kept).alike in
      record { thin = thin_at (e ∷ h) kept; waits = r.0; none_idle = r.1 }
    where
      rest : List Event
      rest = without_idle heading h

      by : Left h → (b : Bool) → is_idle heading h e ≡ b → Alike heading Patterns Patterns (e ∷ h) (without_idle heading (e ∷ h))
          → WaitAlike heading (e ∷ h) (cond b rest (e ∷ rest))
          × ((newer older : List Event) (x : Event) → cond b rest (e ∷ rest) ≡ newer ++ x ∷ older → is_idle heading older x ≡ false)
      by l true b on = (λ cast q. idle_out heading h e b cast q ∙ l.waits cast q, l.none_idle)
      by l false b on = (
        taken_on heading e h rest l.waits same,
        λ newer older x split. first newer older x split,
      )
        where
          on_both : Alike heading Patterns Patterns (e ∷ h) (e ∷ rest)
          on_both = subst (λ (x : Bool). Alike heading Patterns Patterns (e ∷ h) (cond x rest (e ∷ rest))) b on

          same : is_idle heading h e ≡ is_idle heading rest e
          same = same_idle h rest e l.thin.alike l.waits on_both

          first : (newer older : List Event) (x : Event) → e ∷ rest ≡ newer ++ x ∷ older → is_idle heading older x ≡ false
          first [] older x split =
              let one : e ≡ x = cc in
              let tail : rest ≡ older = cc in
              subst (λ (y : Event). is_idle heading older y ≡ false) one
              (subst (λ (es : List Event). is_idle heading es e ≡ false) tail
              (sym same ∙ b))
          first (y ∷ newer) older x split = let tail : rest ≡ newer ++ x ∷ older = cc in l.none_idle newer older x tail
