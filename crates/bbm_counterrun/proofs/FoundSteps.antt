-- What is found at one start and PE, at one start, and of all.
use Rattle.bbm_counterrun.proofs.Common.{Kind, Read, Choice, FindsAt, FindsNumber, plain_at, plain_by, plain_with}
use Rattle.bbm_counterrun.proofs.Common.{first_events, Goal, least_reads}
use Rattle.bbm_rules.proofs.Common.{◌≡◌, ℕ, ◌+◌, ◌<◌, ◌≤◌, arith, Bool, List, length, take, reverse, Option, Some, None}
use Rattle.bbm_rules.proofs.Common.{refl, sym, ◌∙◌, ap, subst, Heading, Event, Write}
use Rattle.bbm_counterrun.specs.Searching.{found_by}
use Rattle.bbm_counterrun.proofs.SearchPlain.{first_is}

number_alike : (one other : ℕ → Option ℕ → Bool) (best : Option Choice) → ((n : ℕ) (o : Option ℕ) → one n o ≡ other n o) → FindsNumber other best
    → FindsNumber one best
number_alike one other best all f = subst (λ (test : ℕ → Option ℕ → Bool). FindsNumber test best) (λ i n o. sym (all n o) i) f

module _ (heading : Heading) (es : List Event) (place value k p : ℕ) (kind : Kind) (way : List Goal) where
  pub at_none : k ≤ length es → (reads : Option (List Read)) → reads ≡ least_reads heading (reverse (take k es)) p way → reads ≡ None
      → FindsAt heading (reverse es) (Write 0 place value) kind way k p None
  at_none le reads is e n o =
      ap (λ r. plain_with heading (reverse es) (Write 0 place value) kind k p r n o)
      (ap (λ hs. least_reads heading hs p way) (sym (first_is es k le)) ∙ sym is ∙ e)

  pub at_some : k ≤ length es → (some : Option (List Read)) (reads : List Read) (best : Option Choice)
      → some ≡ least_reads heading (reverse (take k es)) p way → some ≡ Some reads
      → FindsNumber (plain_by heading (reverse es) (Write 0 place value) kind k p reads) best
      → FindsAt heading (reverse es) (Write 0 place value) kind way k p (found_by k p reads best)
  at_some le some reads best is e f = by best (number_alike _ _ best alike f)
    where
      same : least_reads heading (first_events k (reverse es)) p way ≡ Some reads
      same = ap (λ hs. least_reads heading hs p way) (sym (first_is es k le)) ∙ sym is ∙ e

      alike : (n : ℕ) (o : Option ℕ) → plain_at heading (reverse es) (Write 0 place value) kind way k p n o
          ≡ plain_by heading (reverse es) (Write 0 place value) kind k p reads n o
      alike n o = ap (λ r. plain_with heading (reverse es) (Write 0 place value) kind k p r n o) same

      by : (best : Option Choice) → FindsNumber (plain_at heading (reverse es) (Write 0 place value) kind way k p) best
          → FindsAt heading (reverse es) (Write 0 place value) kind way k p (found_by k p reads best)
      by None f = f
      by (Some c) f = (refl, refl, same, f)

pub ruleset at_pe = (at_none, at_some)

-- ---- the loops

pub none_more : (P : ℕ → Type 0) (n : ℕ) → ((m : ℕ) → m < n → P m) → P n → (m : ℕ) → m < n + 1 → P m
none_more P n before here m less = grind arith

pub starts_more : (P : ℕ → Type 0) (n : ℕ) → ((k : ℕ) → 0 < k → k ≤ n → P k) → P (n + 1) → (k : ℕ) → 0 < k → k ≤ n + 1 → P k
starts_more P n before here k some le = grind arith
