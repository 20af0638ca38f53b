-- Events that concern no root, register or tag leave what the roots stand for.
use Rattle.bbm_roots.proofs.Common.{◌≡◌, ℕ, Bool, false, not, ◌&&◌, ◌||◌, ◌==◌, List, ◌∷◌, Option, Some, None, refl}
use Rattle.bbm_roots.proofs.Common.{TlbiOp, Scope, Heading, Event, Tlbi, Patterns, reaches, named_scope}
use Rattle.bbm_roots.proofs.Common.{register_values, roots_of, loses, takes_tag, is_tlbi, tag_waits, tag_waits_after}
use Rattle.bbm_roots.proofs.Common.{loads_after, sym, ◌∙◌, ap, false≢true, proved, If, Is, Reg, Tag, first_reg}
use Rattle.bbm_roots.proofs.Common.{second_reg, standings_after, Stands, Roots, and-false}
use Rattle.bbm_events.specs.declared.event.Event.TheVariants.{Dmb, Init, Null, Write}
use Rattle.bbm_locks.specs.Holders.{holder_at}
use Rattle.bbm_rules.specs.Broken.{broken}
use Rattle.bbm_rules.specs.Locks.{holder_of}
use Rattle.bbm_rules.specs.Roots.{gives_up}
use Rattle.bbm_roots.specs.RootChanges.{concerns}
use Rattle.bbm_roots.proofs.Issued.{named-broadcast, takes-none}
use Rattle.bbm_roots.proofs.Steps.{kept-stands}

module _ {roots : Roots} {heading : Heading} {h : List Event} (s : Stands roots heading h) where
  left : (e : Event) → broken heading Patterns h e ≡ None →
      ((lock : ℕ) → holder_at roots.locks lock ≡ holder_of (e ∷ h) lock) → ((p : ℕ) (reg : Reg) → loads_after (e ∷ h) p reg ≡ loads_after h p reg) →
      ((p : ℕ) → standings_after (e ∷ h) p ≡ standings_after h p) →
      ((p : ℕ) (reg : Reg) → register_values (e ∷ h) p reg ≡ register_values h p reg) → roots_of (e ∷ h) ≡ roots_of h →
      ((r : ℕ) → gives_up r e ≡ false) → ((g : Tag) (p : ℕ) → loses heading Patterns p g e h ≡ false) →
      ((q : ℕ) (b : Bool) (g : Tag) (p : ℕ) → tag_waits_after heading p g q b e h ≡ tag_waits heading p g q b h) →
      Stands roots heading (e ∷ h)
  left e keeps holders loads stood values same ungiven none waits =
      kept-stands roots s e keeps refl holders refl refl refl (λ p. loads p (first_reg heading.world)) (λ p. loads p (second_reg heading.world))
      stood values ungiven none waits (λ page. rw same (s.declared page)) (rw same s.count) (λ known page. rw same (s.locks known page))

  -- a TLBI that reaches no PE, or names no scope
  unreached : (pe : ℕ) (op : TlbiOp) (xt : ℕ) (q : ℕ) (b : Bool) (g : Tag) (p : ℕ) → concerns heading h (Tlbi pe op xt) ≡ false →
      tag_waits_after heading p g q b (Tlbi pe op xt) h ≡ tag_waits heading p g q b h
  unreached pe op xt q b g p e = ap (λ (t : Bool). (pe == q && (is_tlbi b (Tlbi pe op xt) && t)) || tag_waits heading p g q b h)
      (by (named_scope heading h pe op xt) refl e)
      ∙ proved 3 (λ a c w. Is ((a && (c && false)) || w) w) refl (pe == q) (is_tlbi b (Tlbi pe op xt)) (tag_waits heading p g q b h)
    where
      by : (o : Option Scope) → named_scope heading h pe op xt ≡ o →
          elim o [ None ↦ false | Some scope ↦ scope.broadcast || not heading.cnp ] ≡ false →
          (reaches heading (Tlbi pe op xt) p && takes_tag heading (Tlbi pe op xt) h g) ≡ false
      by None is k =
          ap (λ (t : Bool). reaches heading (Tlbi pe op xt) p && t) (takes-none heading h pe op xt g is)
          ∙ and-false (reaches heading (Tlbi pe op xt) p)
      by (Some scope) is k =
          ap (λ (x : Bool). (x || (not heading.cnp && pe == p)) && takes_tag heading (Tlbi pe op xt) h g)
          (sym (named-broadcast heading h pe op xt scope is))
          ∙ proved 4 (λ x n d t. If (Is (x || n) false) (Is ((x || (n && d)) && t) false)) refl scope.broadcast
          (not heading.cnp) (pe == p) (takes_tag heading (Tlbi pe op xt) h g) k

  pub others : (e : Event) → concerns heading h e ≡ false → broken heading Patterns h e ≡ None → Stands roots heading (e ∷ h)
  others (Init pe page) k keeps =
      left (Init pe page) keeps s.holders (λ p reg. refl) (λ p. refl) (λ p reg. refl) refl (λ r. refl) (λ g p. refl) (λ q b g p. refl)
  others (Null pe page) k keeps =
      left (Null pe page) keeps s.holders (λ p reg. refl) (λ p. refl) (λ p reg. refl) refl (λ r. refl) (λ g p. refl) (λ q b g p. refl)
  others (Write pe at v) k keeps =
      left (Write pe at v) keeps s.holders (λ p reg. refl) (λ p. refl) (λ p reg. refl) refl (λ r. refl) (λ g p. refl) (λ q b g p. refl)
  others (Dmb pe dsb) k keeps =
      left (Dmb pe dsb) keeps s.holders (λ p reg. refl) (λ p. refl) (λ p reg. refl) refl (λ r. refl) (λ g p. refl) (λ q b g p. refl)
  others (Tlbi pe op xt) k keeps =
      left (Tlbi pe op xt) keeps s.holders (λ p reg. refl) (λ p. refl) (λ p reg. refl) refl (λ r. refl) (λ g p. refl)
      (λ q b g p. unreached pe op xt q b g p k)
  others e k keeps = absurd (false≢true (sym k))
