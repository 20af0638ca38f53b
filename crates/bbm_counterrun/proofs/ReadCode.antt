-- The steps of the loops that look for the least reads of a way.
use Rattle.bbm_counterrun.proofs.Common.{append_assoc, Read, Goal, least_read, least_reads}
use Rattle.bbm_rules.proofs.Common.{◌≡◌, ℕ, ◌+◌, ◌<◌, List, [], ◌∷◌, ◌++◌, length, drop, get_or, Option, Some, sym, ◌∙◌, ap}
use Rattle.bbm_rules.proofs.Common.{◌>>=◌, Heading, Event, arith}
use Rattle.bbm_lemmas.proofs.Reversed.{reverse_more}
use Rattle.bbm_counterrun.proofs.Following.{bind_parts}
use Rattle.bbm_counterrun.proofs.WalkCode.{next_item}

pub ruleset one_more = (reverse_more)

-- ---- a way

bind_same : {A : Type 0} (o : Option A) → (o >>= (λ x. Some x)) ≡ o
bind_same o = grind arith

-- what is read of a way, behind what was read before
abbrev pub and_then : List Read → Option (List Read) → Option (List Read)
and_then reads o = o >>= (λ rest. Some (reads ++ rest))

module _ (heading : Heading) (h : List Event) (p : ℕ) where
  pub reads_begin : (way : List Goal) → and_then [] (least_reads heading h p way) ≡ least_reads heading h p way
  reads_begin way = bind_same (least_reads heading h p way)

  pub reads_more : (way : List Goal) (i : ℕ) (g : Goal) (read : Read) (before after : List Read) (end : Option (List Read))
      → i < length way → g ≡ get_or way i g → least_read heading h p g ≡ Some read.value → read.place ≡ g.place
      → and_then before (least_reads heading h p (drop i way)) ≡ end → after ≡ before ++ read ∷ []
      → and_then after (least_reads heading h p (drop (i + 1) way)) ≡ end
  reads_more way i g read before after end within at e same was now =
      rw now
      (bind_parts (least_reads heading h p (drop (i + 1) way)) _ _ _ (λ rest. ap Some (append_assoc before (read ∷ []) rest))
      ∙ rw (next_item way i g within at, e, sym same) at was)

pub ruleset reads = (reads_begin)
