-- TLBIs: what stands after one, in a view and at the parts.
use Rattle.bbm_replay.proofs.Common.{pe_in, broken, Noted, EntryState, EntryStands, View, notes, Laws}
use Rattle.bbm_replay.proofs.Common.{Told, state_of, waiting, marks_at, pends_at, value_at, waits, IsIdle}
use Rattle.bbm_replay.proofs.Common.{Pends, state_from, PlaceMap, Roots, Rules, MayMeet, Meets, PartsStand, view_of}
use Rattle.bbm_replay.proofs.Common.{ReplayState}
use Rattle.bbm_rules.proofs.Common.{◌≡◌, ℕ, ◌<◌, true, false, ◌&&◌, nat_eq, List, ◌∷◌, Some, None, is_some}
use Rattle.bbm_rules.proofs.Common.{refl, ap, subst, inl, core_of, PeMask, operation, fits_heading, Patterns, cover_at}
use Rattle.bbm_rules.proofs.Common.{page_of, Heading, Event, Tlbi, TlbiOp, reaches, Node, and-false, not, ◌||◌, Ok, sym}
use Rattle.bbm_rules.proofs.Common.{◌∙◌}
use Rattle.bbm_lemmas.proofs.Bools.{second_false}
use Rattle.bbm_lemmas.proofs.Words.{none_is}
use Rattle.bbm_roots.specs.RootsStand as roots
use Rattle.bbm_place_map.specs.Map.{pages_of}
use Rattle.bbm_replay.proofs.Moves.{Issues, tracked_alike}
use Rattle.bbm_replay.proofs.DsbMoves.{same_state}
use Rattle.bbm_replay.proofs.Cases.{either}
use Rattle.bbm_replay.proofs.Entries.{by_break, some_pe}
use Rattle.bbm_replay.proofs.Quiet.{told_plain}
use Rattle.bbm_replay.proofs.Framing.{meets_left}

module _ {heading : Heading} (laws : Laws heading) {h : List Event} {old : View} (new : View) (t : Told heading h old)
    (q : ℕ) (op : TlbiOp) (xt : ℕ) (reach : PeMask)
    (reached : (p : ℕ) → p < heading.pes → pe_in reach p ≡ reaches heading (Tlbi q op xt) p)
    (move : Issues old new q reach (operation op).broadcast (cover_at heading Patterns (notes heading h) (Tlbi q op xt))) where
  abbrev e : Event
  e = Tlbi q op xt

  module _ (n : Node) (a : ℕ) (is : old.node (page_of a) ≡ Some n) where
    abbrev state : EntryState
    state = state_of old n.kind n.level a

    -- at a broken place it is noted
    noted_entry : is_some (old.marks a) ≡ true → EntryStands heading (e ∷ h) n.kind n.level a state (waiting new a)
    noted_entry marked = laws.tlbi.call h n.kind n.level a q op xt reach (cover_at heading Patterns (notes heading h) e a)
        state (waiting old a) (waiting new a) (some_pe laws t) reached refl
        (subst (λ (x : EntryState). Noted x (old.pends q a) reach (operation op).broadcast
        (cover_at heading Patterns (notes heading h) e a) (new.pends q a))
        (same_state None (core_of n.kind n.level (old.value a)) (old.marks a) marked) (move.noted n a is marked))
        (λ p other. move.others p a (ap (λ b. b && is_some (old.marks a)) other)) (t.entries n a is)

  pub after_tlbi : fits_heading heading e ≡ true → broken heading Patterns h e ≡ None → Told heading (e ∷ h) new
  after_tlbi fits unbroken = told_plain laws new t e fits unbroken
      (record { values = refl; inits = refl; nulls = refl; trees = refl; unattached = λ heading ns. refl })
      move.value move.marks move.nodes move.roles move.tracking (λ n a is. by_break laws new t e n a is (move.value a)
      (λ k. let same : state_of old n.kind n.level a ≡ state_of new n.kind n.level a = cc (move.value a, move.marks a) in
      subst (λ (x : EntryState). EntryStands heading (e ∷ h) n.kind n.level a x (waiting new a)) same (noted_entry n a is k))
      (λ k whole s. (
        move.marks a ∙ k,
        λ p. move.others p a (cc (k, and-false (nat_eq p q))),
        laws.tlbi.idle h n.kind n.level a q op xt _ (waiting old a) (some_pe laws t) (inl whole) s,
      )))

pub tlbi_meets : ((heading : Heading) → Laws heading) → ((heading : Heading) → Rules heading) → (old : ReplayState) (map : PlaceMap)
    (r : Roots) (pe : ℕ) (op : TlbiOp) (xt : ℕ) → MayMeet old (Tlbi pe op xt)
    → ((heading : Heading) (h : List Event) → roots.Stands old.roots heading h → broken heading Patterns h (Tlbi pe op xt) ≡ None)
    → (reach : PeMask) → ((p : ℕ) → p < old.header.pes
    → pe_in reach p ≡ ((operation op).broadcast || (not old.header.cnp && nat_eq pe p)))
    → ((heading : Heading) (h : List Event) → PartsStand old heading h → (a : ℕ) → is_some (marks_at old.map a) ≡ true
    → Noted (state_from None (marks_at old.map a)) (pends_at old.map pe a) reach (operation op).broadcast
    (cover_at heading Patterns (notes heading h) (Tlbi pe op xt) a) (pends_at map pe a))
    → ((q a : ℕ) → nat_eq q pe ≡ false → pends_at map q a ≡ pends_at old.map q a)
    → ((q a : ℕ) → marks_at old.map a ≡ None → IsIdle (pends_at old.map q a))
    → ((q a : ℕ) → marks_at map a ≡ None → IsIdle (pends_at map q a))
    → ((a : ℕ) → value_at map a ≡ value_at old.map a) → ((a : ℕ) → marks_at map a ≡ marks_at old.map a)
    → pages_of map ≡ pages_of old.map
    → ((heading : Heading) (h : List Event) → PartsStand old heading h → roots.Stands r heading (Tlbi pe op xt ∷ h))
    → Meets old (record old { map = map; roots = r }) (Tlbi pe op xt) (Ok tt)
tlbi_meets laws rules old map r pe op xt m unbroken reach reached noted others idle idle' values marks pages taken =
    meets_left laws (Tlbi pe op xt) refl m (record { header = refl; index_header = refl; numbers = λ n. pages ∙ n })
    refl refl (λ heading h s fits. (
      unbroken heading h s.roots,
      (rules heading).limits.others h (Tlbi pe op xt) refl,
      after_tlbi (laws heading) (view_of map old.index) s.told pe op xt reach
          (subst (λ (x : Heading). (p : ℕ) → p < x.pes → pe_in reach p ≡ ((operation op).broadcast || (not x.cnp && nat_eq pe p))) s.header reached)
          (record {
            value = values;
            marks = marks;
            noted = λ n a is broken. noted heading h s a broken;
            others = λ q a k. either (nat_eq q pe) (λ e b c p.
                let none = none_is (marks_at old.map a) (second_false (nat_eq q pe) (is_some (marks_at old.map a)) k e) in
                idle' q a (marks a ∙ none) b c p ∙ sym (idle q a none b c p))
                (λ e b c p. ap (λ (w : Pends). waits w b c p) (others q a e));
            nodes = λ p. refl;
            roles = record { fresh = λ p. refl; null = λ p. refl };
            tracking = record { tracked = tracked_alike old.map map pages; known = λ p. refl; pages = refl };
          }) fits (unbroken heading h s.roots),
      taken heading h s,
    ))
