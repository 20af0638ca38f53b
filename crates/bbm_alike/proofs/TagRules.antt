-- The rules on tags and on roots in use judge alike.
use Rattle.bbm_rules.proofs.Common.{◌≡◌, ℕ, ◌<◌, Bool, not, ◌&&◌, ◌||◌, ◌==◌, nat_lt, List, ◌∷◌, length, Option}
use Rattle.bbm_rules.proofs.Common.{is_none, filter, find, flat_map, map, refl, ◌∙◌, ap, Trust, if_so, least, some_pe}
use Rattle.bbm_rules.proofs.Common.{Noted, events_of, Heading, Event, Unroot, Msr, Reg, Tag, Declared}
use Rattle.bbm_rules.proofs.Common.{root_at, roots_of, is_base_at, tag_conflict, Reading, holds_at, holds_tag, readings}
use Rattle.bbm_rules.proofs.Common.{tags_of}
use Rattle.bbm_rules.proofs.Common.{◌++◌, given_up, left_at, left_tag}
use Rattle.bbm_rules.specs.Rules.{is_used, leavers, other_holders, others, root_in_use}
use Rattle.bbm_alike.specs.Alike.{SameRegisters}
use Rattle.bbm_alike.proofs.ListsAlike.{same_filter, same_flat, same_some_pe}
use Rattle.bbm_alike.proofs.TagSteps.{holds_step, left_step, readings_step}

module _ (heading : Heading) (one other : Trust) (h h' : List Noted)
    (registers : SameRegisters (events_of h) (events_of h'))
    (roots : roots_of (events_of h) ≡ roots_of (events_of h'))
    (holds : (p root : ℕ) (tag : Tag) → p < heading.pes
    → holds_at heading one p root tag (events_of h) ≡ holds_at heading other p root tag (events_of h'))
    (left : (p page : ℕ) (tag : Tag) → p < heading.pes
    → left_at heading one p page tag (events_of h) ≡ left_at heading other p page tag (events_of h'))
    (given : given_up (events_of h) ≡ given_up (events_of h')) where
  -- a register write takes no tag away
  holds_after : (pe : ℕ) (reg : Reg) (value root : ℕ) (tag : Tag)
      → holds_tag heading one root tag (Msr pe reg value ∷ events_of h)
      ≡ holds_tag heading other root tag (Msr pe reg value ∷ events_of h')
  holds_after pe reg value root tag =
      same_some_pe heading.pes (λ p. holds_at heading one p root tag (Msr pe reg value ∷ events_of h))
      (λ p. holds_at heading other p root tag (Msr pe reg value ∷ events_of h'))
      (λ p under. holds_step heading (events_of h) (events_of h') (Msr pe reg value) roots registers one other p root tag
      (holds p root tag under) (λ held. refl))

  same_holders : (pe : ℕ) (reg : Reg) (value : ℕ) (reading : Reading)
      → other_holders heading one h (Msr pe reg value ∷ events_of h) reading
      ≡ other_holders heading other h' (Msr pe reg value ∷ events_of h') reading
  same_holders pe reg value reading =
      ap (map (λ (r : Declared). r.page))
      (same_filter (holds_it one (events_of h)) (holds_it other (events_of h')) (roots_of (events_of h))
      (λ r. ap (λ (b : Bool). not (r.page == reading.root) && b)
      (holds_after pe reg value r.page reading.tag)))
      ∙ ap (λ (rs : List Declared). map (λ r. r.page) (filter (holds_it other (events_of h')) rs)) roots
    where
      holds_it : Trust → List Event → Declared → Bool
      holds_it trust es r = not (r.page == reading.root) && holds_tag heading trust r.page reading.tag (Msr pe reg value ∷ es)

  left_after : (pe : ℕ) (reg : Reg) (value page : ℕ) (tag : Tag)
      → left_tag heading one page tag (Msr pe reg value ∷ events_of h)
      ≡ left_tag heading other page tag (Msr pe reg value ∷ events_of h')
  left_after pe reg value page tag =
      same_some_pe heading.pes (λ p. left_at heading one p page tag (Msr pe reg value ∷ events_of h))
      (λ p. left_at heading other p page tag (Msr pe reg value ∷ events_of h'))
      (λ p under. left_step heading (events_of h) (events_of h') (Msr pe reg value) roots registers one other p page tag
      (holds p page tag under) (left p page tag under) (λ l. refl))

  same_leavers : (pe : ℕ) (reg : Reg) (value : ℕ) (reading : Reading)
      → leavers heading one h (Msr pe reg value ∷ events_of h) reading
      ≡ leavers heading other h' (Msr pe reg value ∷ events_of h') reading
  same_leavers pe reg value reading =
      same_filter (λ page. left_tag heading one page reading.tag (Msr pe reg value ∷ events_of h))
      (λ page. left_tag heading other page reading.tag (Msr pe reg value ∷ events_of h')) (given_up (events_of h))
      (λ page. left_after pe reg value page reading.tag)
      ∙ ap (λ (pages : List ℕ). filter (λ page. left_tag heading other page reading.tag (Msr pe reg value ∷ events_of h')) pages) given

  same_others : (pe : ℕ) (reg : Reg) (value : ℕ) (reading : Reading)
      → others heading one h (Msr pe reg value ∷ events_of h) reading
      ≡ others heading other h' (Msr pe reg value ∷ events_of h') reading
  same_others pe reg value reading =
      ap (λ (pages : List ℕ). pages ++ leavers heading one h (Msr pe reg value ∷ events_of h) reading) (same_holders pe reg value reading)
      ∙ ap (λ (pages : List ℕ). other_holders heading other h' (Msr pe reg value ∷ events_of h') reading ++ pages) (same_leavers pe reg value reading)

  pub same_tag_conflict : (e : Event) → tag_conflict heading one h e ≡ tag_conflict heading other h' e
  same_tag_conflict (Msr pe reg value) =
      ap least (same_flat (others heading one h (Msr pe reg value ∷ events_of h))
      (others heading other h' (Msr pe reg value ∷ events_of h'))
      (readings heading (Msr pe reg value ∷ events_of h) pe) (λ reading there. same_others pe reg value reading)
      ∙ ap (λ (rs : List Reading). flat_map (others heading other h' (Msr pe reg value ∷ events_of h')) rs)
      (readings_step heading (events_of h) (events_of h') (Msr pe reg value) roots registers pe))
  same_tag_conflict e = refl

  module _ (tags : (root : ℕ) → tags_of heading one root (events_of h) ≡ tags_of heading other root (events_of h')) where
    same_used : (page : ℕ) → is_used heading one h page ≡ is_used heading other h' page
    same_used page =
        ap (λ (b : Bool). b || (not heading.words.unflushed && nat_lt 0 (length (tags_of heading one page (events_of h)))))
        (same_some_pe heading.pes (is_base_at (events_of h) page) (is_base_at (events_of h') page) (λ p under. same_base p))
        ∙ ap (λ (ts : List Tag). some_pe heading.pes (is_base_at (events_of h') page) || (not heading.words.unflushed && nat_lt 0 (length ts)))
        (tags page)
      where
        same_base : (p : ℕ) → is_base_at (events_of h) page p ≡ is_base_at (events_of h') page p
        same_base p = simp registers.values

    pub same_root_in_use : (e : Event) → root_in_use heading one h e ≡ root_in_use heading other h' e
    same_root_in_use (Unroot pe page) =
        ap (λ (b : Bool). if_so (not (is_none (root_at (events_of h) page)) && b) page) (same_used page)
        ∙ ap (λ (rs : List Declared). if_so (not (is_none (find_in rs page)) && is_used heading other h' page) page) roots
      where
        find_in : List Declared → ℕ → Option Declared
        find_in rs page = find (λ r. r.page == page) rs
    same_root_in_use e = refl
