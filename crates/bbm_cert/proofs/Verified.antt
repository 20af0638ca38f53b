-- A log that keeps the rules by claims so far, and its next event.
use Rattle.bbm_cert.proofs.Common.{Judged, Yes, judged_with}
use Rattle.bbm_rules.proofs.Common.{◌≡◌, ℕ, suc, ◌+◌, ◌<◌, Option, Some, None, List, [], ◌∷◌, ◌++◌, length, take, drop}
use Rattle.bbm_rules.proofs.Common.{get_or, reverse, refl, sym, ◌∙◌, ap, subst, arith, length-reverse, length-take-le}
use Rattle.bbm_rules.proofs.Common.{reverse-append, take-append-drop, Claim, Breach, Trust, Listed, Heading, Event}
use Rattle.bbm_rules.specs.Broken.{broken}
use Rattle.bbm_oracle_trees.specs.Past.{Past}
use Rattle.bbm_oracle_trees.specs.HistoryStandsFor.{StandsFor}
use Rattle.bbm_cert.specs.Judged.{judged, judges_as}
use Rattle.bbm_cert.proofs.JudgedLaw.{later_no}
use Rattle.bbm_claims.proofs.TagSteps.{next}

-- a history of these events, by these claims, which keep the rules
pub record Going (past : Past) (heading : Heading) (claims : List Claim) (h : List Event) : Type 0 where
  pub stands : StandsFor past heading h
  pub trusts : past.trust ≡ Listed claims
  pub yes_so_far : judged heading claims h ≡ Yes

pub going_start : (past : Past) (heading : Heading) (claims listed : List Claim)
    → past ≡ record { heading = heading; trust = Listed listed; kept = [] } → StandsFor past heading []
    → listed ≡ claims
    → Going past heading claims []
going_start past heading claims listed is stands same = record {
  stands = stands;
  trusts = ap (λ (x : Past). x.trust) is ∙ ap Listed same;
  yes_so_far = refl;
}

still_yes : (i j : ℕ) (o : Option Breach) → Yes ≡ judges_as i o → judges_as j o ≡ Yes
still_yes i j None said = refl
still_yes i j (Some b) said = absurd cc

module _ (heading : Heading) (claims : List Claim) where
  judged_next : (h : List Event) (e : Event) → judged heading claims h ≡ Yes
      → judged heading claims (e ∷ h) ≡ judges_as (suc (length h)) (broken heading (Listed claims) h e)
  judged_next h e kept = ap (judged_with (suc (length h)) (broken heading (Listed claims) h e)) kept

  module _ (past : Past) (log : List Event) (i : ℕ) (e : Event) (below : i < length log) (is : e ≡ get_or log i e)
      (going : Going past heading claims (reverse (take i log))) where
    counted : suc (length (reverse (take i log))) ≡ i + 1
    counted = omega (arith, length-reverse (take i log), length-take-le i log (omega arith))

    one_more : reverse (take (i + 1) log) ≡ e ∷ reverse (take i log)
    one_more = next log i e below ∙ ap (λ (x : Event). x ∷ reverse (take i log)) (sym is)

    -- the same by what the claims are
    by_claims : (said : Judged) → said ≡ judges_as (i + 1) (broken heading past.trust (reverse (take i log)) e)
        → said ≡ judges_as (i + 1) (broken heading (Listed claims) (reverse (take i log)) e)
    by_claims said k = k ∙ ap (λ (t : Trust). judges_as (i + 1) (broken heading t (reverse (take i log)) e))
        going.trusts

    pub going_next : (new : Past) (said : Judged)
        → said ≡ judges_as (i + 1) (broken heading past.trust (reverse (take i log)) e) → said ≡ Yes
        → new.trust ≡ past.trust
        → StandsFor new heading (e ∷ reverse (take i log))
        → Going new heading claims (reverse (take (i + 1) log))
    going_next new said k yes_now trust stands =
        subst (λ (h : List Event). Going new heading claims h) (sym one_more) (record {
          stands = stands;
          trusts = trust ∙ going.trusts;
          yes_so_far = judged_next (reverse (take i log)) e going.yes_so_far
              ∙ still_yes (i + 1) (suc (length (reverse (take i log))))
              (broken heading (Listed claims) (reverse (take i log)) e)
              (sym yes_now ∙ by_claims said k);
        })

    -- what isn't Yes stays as it is
    stays : (o : Option Breach) (said : Judged) → said ≡ judges_as (i + 1) o → (said ≡ Yes → ⊥)
        → judged heading claims (e ∷ reverse (take i log)) ≡ judges_as (i + 1) o
        → said ≡ judged heading claims (reverse (drop (i + 1) log) ++ e ∷ reverse (take i log))
    stays None said k apart so_far = absurd (apart k)
    stays (Some b) said k apart so_far =
        k ∙ sym (later_no heading claims (reverse (drop (i + 1) log)) (e ∷ reverse (take i log))
        (i + 1) b.rule b.at so_far)

    pub stopped : (said : Judged) → said ≡ judges_as (i + 1) (broken heading past.trust (reverse (take i log)) e)
        → (said ≡ Yes → ⊥) → said ≡ judged heading claims (reverse log)
    stopped said k apart =
        stays (broken heading (Listed claims) (reverse (take i log)) e) said (by_claims said k) apart
        (judged_next (reverse (take i log)) e going.yes_so_far
        ∙ ap (λ (n : ℕ). judges_as n (broken heading (Listed claims) (reverse (take i log)) e)) counted)
        ∙ ap (judged heading claims) (sym whole)
      where
        whole : reverse log ≡ reverse (drop (i + 1) log) ++ e ∷ reverse (take i log)
        whole =
            ap reverse (sym (take-append-drop (i + 1) log))
            ∙ reverse-append (take (i + 1) log) (drop (i + 1) log)
            ∙ ap (λ (xs : List Event). reverse (drop (i + 1) log) ++ xs) one_more
