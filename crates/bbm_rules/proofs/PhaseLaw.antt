-- A place that holds a value is clean at no PE.
use Rattle.bbm_rules.proofs.Common.{◌≡◌, ◌≢◌, ℕ, Bool, true, false, Option, Some, None, unwrap_or, refl, subst}
use Rattle.bbm_rules.proofs.Common.{is_valid, needs, Event, Write, breaks, Trust, cleansed, half, seen, noted}
use Rattle.bbm_rules.proofs.Common.{ValidWrite, cleansed_everywhere, last_valid, ◌>>=◌, if_so, broken_phase, page_of}
use Rattle.bbm_rules.proofs.Common.{Node, node_of, value_of}
use Rattle.std.specs.Prelude.{List, ◌||◌, if◌then◌else◌}
use Rattle.bbm_rules.specs.Held.{emptied}
use Rattle.bbm_events.specs.Heading.{Heading}
use Rattle.bbm_rules.specs.declared.phase.Phase.{Phase}
use Rattle.bbm_rules.specs.declared.phase.Phase.TheVariants.{Clean, Live, Broken, Seen, Half, Cleansed}
use Rattle.bbm_rules.specs.declared.rule.Rule.TheVariants.{BreakBeforeMake}
use Rattle.bbm_rules.specs.Phases.{phase_of}

pub if_at : (b : Bool) (n at : ℕ) → if_so b n ≡ Some at → n ≡ at
if_at true n at e = cc
if_at false n at e = cc

furthest : (a b c : Bool) → (if a then Cleansed else (if b then Half else (if c then Seen else Broken))) ≢ Clean
furthest true b c = λ e. cc
furthest false true c = λ e. cc
furthest false false true = λ e. cc
furthest false false false = λ e. cc

live_or : (b : Bool) (phase : Phase) → phase ≢ Clean → (if b then Live else phase) ≢ Clean
live_or true phase k = λ e. cc
live_or false phase k = k

-- the phase is none of clean where the node and the value that is held are found
module _ (valid : Node → Bool) (phase : ValidWrite → Phase) (dirty : (w : ValidWrite) → phase w ≢ Clean) where
  of_write : (ow : Option ValidWrite) (cleansed_at : ValidWrite → Bool) (old : ℕ) (n : Node)
      → (ow >>= (λ w. if cleansed_at w then None else Some w.value)) ≡ Some old
      → unwrap_or (ow >>= (λ w. if cleansed_at w then None else Some (if valid n then Live else phase w))) Clean ≢ Clean
  of_write None cleansed_at old n k = cc
  of_write (Some w) cleansed_at old n k = by (cleansed_at w) k
    where
      by : (b : Bool) → (if b then None else Some w.value) ≡ Some old
          → unwrap_or (if b then None else Some (if valid n then Live else phase w)) Clean ≢ Clean
      by true k = cc
      by false k = live_or (valid n) (phase w) (dirty w)

  of_node : (on : Option Node) (write : Node → Option ValidWrite) (cleansed_at : Node → ValidWrite → Bool)
      (test : Node → ℕ → Bool) (place at : ℕ)
      → (on >>= (λ n. (write n >>= (λ w. if cleansed_at n w then None else Some w.value)) >>= (λ old. if_so (test n old) place))) ≡ Some at
      → (place ≡ at) × (unwrap_or (on >>= (λ n. write n >>= (λ w. if cleansed_at n w then None
      else Some (if valid n then Live else phase w)))) Clean ≢ Clean)
  of_node None write cleansed_at test place at k = cc
  of_node (Some n) write cleansed_at test place at k =
      by (write n >>= (λ w. if cleansed_at n w then None else Some w.value)) refl k
    where
      by : (held : Option ℕ) → (write n >>= (λ w. if cleansed_at n w then None else Some w.value)) ≡ held
          → (held >>= (λ old. if_so (test n old) place)) ≡ Some at
          → (place ≡ at) × (unwrap_or (write n >>= (λ w. if cleansed_at n w then None
          else Some (if valid n then Live else phase w))) Clean ≢ Clean)
      by None e k = cc
      by (Some old) e k = (if_at (test n old) place at k, of_write (write n) (cleansed_at n) old n e)

module _ (heading : Heading) (trust : Trust) where
  dirty_at : (place p : ℕ) (w : ValidWrite) → broken_phase heading trust place p w.since ≢ Clean
  dirty_at place p w =
      furthest (cleansed heading trust place p w.since) (half heading place p w.since) (seen heading place p w.since)

  by_event : (h : List Event) (e : Event) (at p : ℕ) → breaks heading trust (noted heading trust h) e BreakBeforeMake ≡ Some at
      → phase_of heading trust h at p ≢ Clean
  unfolding phase_of
  by_event h (Write pe place value) at p k =
      let found = of_node (λ n. is_valid n.kind n.level (value_of h place))
      (λ w. broken_phase heading trust place p w.since) (dirty_at place p)
      (node_of heading trust (noted heading trust h) (page_of place))
      (λ n. last_valid n.kind n.level place (noted heading trust h))
      (λ n w. emptied heading trust n.kind n.level place (noted heading trust h) || cleansed_everywhere heading trust place w.since)
      (λ n old. needs n.kind n.level old value) place at k in
      subst (λ (a : ℕ). phase_of heading trust h a p ≢ Clean) found.0 found.1
  by_event h e at p k = cc

pub refused_place : (heading : Heading) (trust : Trust) (h : List Event) (e : Event) (at p : ℕ)
    → breaks heading trust (noted heading trust h) e BreakBeforeMake ≡ Some at → phase_of heading trust h at p ≢ Clean
refused_place heading trust h e at p k = by_event heading trust h e at p k

pub ruleset laws = (refused_place)
