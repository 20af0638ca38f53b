-- The tags that are kept are of the world, so TLBIs of families that take none of it take none of them.
use Rattle.bbm_roots.proofs.Common.{◌≡◌, ℕ, Bool, true, false, ◌&&◌, ◌||◌, List, [], ◌∷◌, Option, refl, sym, ap, ◌∙◌}
use Rattle.bbm_roots.proofs.Common.{false≢true, first_true, arith, Heading, Event, Laws, Patterns, Tag, Vmid, Asid}
use Rattle.bbm_roots.proofs.Common.{El2Tag, Ttbr1Tag, World, Hyp, Kernel, kind_in_world, takes_whole_tag, Scope, Roots}
use Rattle.bbm_roots.proofs.Common.{Stands, kept_in, in_order, own_asids, cond, holds_at, left_at, world_of}
use Rattle.bbm_histories.specs.TagSteps.{kind_of_tag}
use Rattle.bbm_roots.specs.RootPendings.{takes_tags}
use Rattle.bbm_roots.proofs.Entries.{some-root}
use Rattle.bbm_roots.proofs.Steps.{keeps-is, keeps_at}
use Rattle.bbm_roots.proofs.Tests.{and_right, or-split}
use Rattle.bbm_rules.specs.Roots.{gives_up}
use Rattle.bbm_rules.specs.TagSentences.{ReadsTag}

-- whether the tag is of the world
abbrev is_of : World → Tag → Bool
is_of world tag = kind_in_world world (kind_of_tag tag)

read-of : (inorder : Bool) (world : World) (h : List Event) (p root : ℕ) (tag : Tag) → ReadsTag inorder world h p tag root
    → is_of world tag ≡ true
read-of inorder (Hyp world) h p root El2Tag k = refl
read-of inorder (Hyp world) h p root (Vmid vmid) k = refl
read-of inorder (Kernel world) h p root (Asid asid) k = refl
read-of inorder (Kernel world) h p root Ttbr1Tag k = refl
read-of inorder world h p root tag k = absurd k

module _ (heading : Heading) (laws : Laws heading) (p root : ℕ) (g : Tag) where
  kept-of : (l : Bool) (h : List Event) → keeps_at heading l p root g h ≡ true → is_of heading.world g ≡ true
  kept-of l [] e = by l e
    where
      by : (l : Bool) → keeps_at heading l p root g [] ≡ true → is_of heading.world g ≡ true
      by true e = absurd (false≢true e)
      by false e = absurd (false≢true e)
  kept-of false (x ∷ h) e =
      or-split _ _ (is_of heading.world g ≡ true)
      (λ k. read-of heading.words.inorder heading.world (x ∷ h) p root g (laws.readable_tag.sound (x ∷ h) p g root k))
      (λ k. kept-of false h (first_true (holds_at heading Patterns p root g h) _ k)) e
  kept-of true (x ∷ h) e =
      or-split _ _ (is_of heading.world g ≡ true) (kept-of true h)
      (λ k. kept-of false h (and_right (gives_up root x) (holds_at heading Patterns p root g h) k))
      (first_true (left_at heading Patterns p root g h || (gives_up root x && holds_at heading Patterns p root g h)) _ e)

-- a family that takes no tags of a world takes none
none-of : (world : World) (scope : Scope) (vmid : Option ℕ) (tag : Tag) → takes_tags world scope.family ≡ false
    → is_of world tag ≡ true → takes_whole_tag scope vmid tag ≡ false
none-of world scope vmid tag e k = grind (arith)

pub none-taken : {roots : Roots} {heading : Heading} {h : List Event} → Laws heading → Stands roots heading h
    → (scope : Scope) (vmid : Option ℕ) (tag : Tag) (p : ℕ) → takes_tags (world_of roots) scope.family ≡ false
    → kept_in roots.holds tag p ≡ true → takes_whole_tag scope vmid tag ≡ false
none-taken {roots} {heading} {h} laws s scope vmid tag p e kept =
    let one = some-root roots.holds tag p kept in
    none-of heading.world scope vmid tag (by heading.world (in_order heading) (ap (λ (w : World). takes_tags w scope.family) (sym s.world) ∙ e))
    (kept-of heading laws p one.1 tag one.0 h (sym (keeps-is s one.0 tag one.1 p) ∙ one.2))
  where
    by : (world : World) (b : Bool) → takes_tags (cond b (own_asids world) world) scope.family ≡ false
        → takes_tags world scope.family ≡ false
    by (Hyp w) true e = e
    by (Kernel w) true e = e
    by world false e = e
