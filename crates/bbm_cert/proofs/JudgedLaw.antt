-- What claims make of a log, and the logs that keep the rules by them.
use Rattle.bbm_cert.proofs.Common.{Judged, Yes, judged_with}
use Rattle.bbm_rules.proofs.Common.{◌≡◌, ℕ, suc, true, List, [], ◌∷◌, ◌++◌, length, Option, Some, None, is_none, refl}
use Rattle.bbm_rules.proofs.Common.{sym, ◌∙◌, ap, and_parts, Breach, keeps, Listed, Heading, Event, Claim}
use Rattle.bbm_rules.specs.Broken.{broken}
use Rattle.bbm_rules.specs.declared.rule.Rule.{Rule}
use Rattle.bbm_cert.specs.declared.judged.Judged.TheVariants.{No}
use Rattle.bbm_cert.specs.Judged.{FirstBroken, judged}

kept_yes : (position : ℕ) (o : Option Breach) (j : Judged) → is_none o ≡ true → j ≡ Yes → judged_with position o j ≡ Yes
kept_yes position None j free said = ap (judged_with position None) said
kept_yes position (Some b) j free said = cc

broken_no : (position : ℕ) (o : Option Breach) (j : Judged) → judged_with position o j ≡ Yes
    → (is_none o ≡ true) × (j ≡ Yes)
broken_no position None Yes said = (refl, refl)
broken_no position (Some b) Yes said = cc
broken_no position None (No i rule at) said = cc
broken_no position (Some b) (No i rule at) said = cc

module _ (heading : Heading) (claims : List Claim) where
  pub judged_yes : (h : List Event) → keeps heading (Listed claims) h ≡ true → judged heading claims h ≡ Yes
  judged_yes [] kept = refl
  judged_yes (e ∷ h) kept =
      let parts = and_parts (keeps heading (Listed claims) h) (is_none (broken heading (Listed claims) h e)) kept in
      kept_yes (suc (length h)) (broken heading (Listed claims) h e) (judged heading claims h) parts.1
      (judged_yes h parts.0)

  pub yes_kept : (h : List Event) → judged heading claims h ≡ Yes → keeps heading (Listed claims) h ≡ true
  yes_kept [] said = refl
  yes_kept (e ∷ h) said =
      let k = broken_no (suc (length h)) (broken heading (Listed claims) h e) (judged heading claims h) said in
      rw (yes_kept h k.1, k.0) refl

  -- what is no stays no
  pub later_no : (newer h : List Event) (position : ℕ) (rule : Rule) (at : ℕ)
      → judged heading claims h ≡ No position rule at
      → judged heading claims (newer ++ h) ≡ No position rule at
  later_no [] h position rule at said = said
  later_no (e ∷ newer) h position rule at said =
      stays (suc (length (newer ++ h))) (broken heading (Listed claims) (newer ++ h) e)
      (judged heading claims (newer ++ h)) (later_no newer h position rule at said)
    where
      stays : (i : ℕ) (o : Option Breach) (j : Judged) → j ≡ No position rule at
          → judged_with i o j ≡ No position rule at
      stays i None j is = ap (judged_with i None) is
      stays i (Some b) j is = ap (judged_with i (Some b)) is

  -- the first event that breaks a rule
  pub broken_here : (h : List Event) (e : Event) (rule : Rule) (at : ℕ) → judged heading claims h ≡ Yes
      → broken heading (Listed claims) h e ≡ Some (record { rule = rule; at = at })
      → judged heading claims (e ∷ h) ≡ No (suc (length h)) rule at
  broken_here h e rule at kept is = rw (kept, is) refl

  pub no_named : (log : List Event) (position : ℕ) (rule : Rule) (at : ℕ)
      → FirstBroken heading claims log position rule at
      → judged heading claims log ≡ No position rule at
  no_named log position rule at first =
      ap (judged heading claims) first.split
      ∙ later_no first.newer (first.event ∷ first.older) position rule at
      (broken_here first.older first.event rule at (judged_yes first.older first.kept) first.breach
      ∙ ap (λ (i : ℕ). No i rule at) (sym first.position_is))

  pub named : (log : List Event) (position : ℕ) (rule : Rule) (at : ℕ) → judged heading claims log ≡ No position rule at
      → FirstBroken heading claims log position rule at
  named [] position rule at said = absurd cc
  named (e ∷ h) position rule at said =
      by (broken heading (Listed claims) h e) (judged heading claims h) refl refl said (named h position rule at)
    where
      by : (o : Option Breach) (j : Judged) → broken heading (Listed claims) h e ≡ o → judged heading claims h ≡ j
          → judged_with (suc (length h)) o j ≡ No position rule at
          → (judged heading claims h ≡ No position rule at → FirstBroken heading claims h position rule at)
          → FirstBroken heading claims (e ∷ h) position rule at
      by None Yes is kept said before = absurd cc
      by (Some b) Yes is kept said before = record {
        newer = [];
        event = e;
        older = h;
        split = refl;
        position_is = cc;
        kept = yes_kept h kept;
        breach = let same_rule : b.rule ≡ rule = cc in let same_at : b.at ≡ at = cc in
            is
            ∙ ap (λ (r : Rule). Some (record { rule = r; at = b.at })) same_rule
            ∙ ap (λ (n : ℕ). Some (record { rule = rule; at = n })) same_at;
      }
      by None (No i r a) is refused said before = let first = before (refused ∙ said) in record {
        newer = e ∷ first.newer;
        event = first.event;
        older = first.older;
        split = ap (λ (xs : List Event). e ∷ xs) first.split;
        position_is = first.position_is;
        kept = first.kept;
        breach = first.breach;
      }
      by (Some b) (No i r a) is refused said before = let first = before (refused ∙ said) in record {
        newer = e ∷ first.newer;
        event = first.event;
        older = first.older;
        split = ap (λ (xs : List Event). e ∷ xs) first.split;
        position_is = first.position_is;
        kept = first.kept;
        breach = first.breach;
      }
