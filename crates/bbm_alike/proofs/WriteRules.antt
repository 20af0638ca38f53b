-- The rules on writes at places of trees, of null pages and of fresh pages judge alike.
use Rattle.bbm_rules.proofs.Common.{◌≡◌, ℕ, List, Option, Some, option_and_then, refl, ap, needs, Trust, if_so}
use Rattle.bbm_rules.proofs.Common.{holder_of, Noted, events_of, is_fresh, is_null, page_of, Heading, Event, Unroot}
use Rattle.bbm_rules.proofs.Common.{Write, roots_of, break_before_make, limbo_make, no_lock, null_written}
use Rattle.bbm_rules.proofs.Common.{rewritten_fresh, Node, held_at, node_of, value_of}
use Rattle.bbm_rules.specs.Tree.{tree}
use Rattle.bbm_alike.proofs.SameThen.{same_then}
use Rattle.bbm_alike.proofs.PartsAlike.{same_node}

module _ (heading : Heading) (one other : Trust) (h h' : List Noted) where
  pub same_null_written : ((page : ℕ) → is_null (events_of h) page ≡ is_null (events_of h') page)
      → (e : Event) → null_written heading one h e ≡ null_written heading other h' e
  same_null_written nulls (Write pe place value) = simp nulls
  same_null_written nulls e = refl

  pub same_rewritten_fresh : ((place : ℕ) → value_of (events_of h) place ≡ value_of (events_of h') place)
      → ((page : ℕ) → is_fresh heading one h page ≡ is_fresh heading other h' page)
      → (e : Event) → rewritten_fresh heading one h e ≡ rewritten_fresh heading other h' e
  same_rewritten_fresh values fresh (Write pe place value) = simp (values, fresh)
  same_rewritten_fresh values fresh e = refl

  module _ (trees : tree heading one h ≡ tree heading other h') where
    pub same_no_lock : roots_of (events_of h) ≡ roots_of (events_of h')
        → ((lock : ℕ) → holder_of (events_of h) lock ≡ holder_of (events_of h') lock)
        → (e : Event) → no_lock heading one h e ≡ no_lock heading other h' e
    same_no_lock roots locks (Write pe place value) = simp (trees, roots, locks)
    same_no_lock roots locks (Unroot pe page) = simp (roots, locks)
    same_no_lock roots locks e = refl

    pub same_break_before_make : ((n : Node) (place : ℕ) → node_of heading one h (page_of place) ≡ Some n
        → held_at heading one h n place ≡ held_at heading other h' n place)
        → (e : Event) → break_before_make heading one h e ≡ break_before_make heading other h' e
    same_break_before_make held (Write pe place value) =
        same_then (λ n. judged n (held_at heading one h n place)) (λ n. judged n (held_at heading other h' n place))
        (node_of heading one h (page_of place)) (node_of heading other h' (page_of place))
        (same_node heading one other h h' trees (page_of place)) (λ n found. ap (judged n) (held n place found))
      where
        judged : Node → Option ℕ → Option ℕ
        judged n o = option_and_then (λ old. if_so (needs n.kind n.level old value) place) o
    same_break_before_make held e = refl

    pub same_limbo_make : ((place : ℕ) → value_of (events_of h) place ≡ value_of (events_of h') place)
        → (e : Event) → limbo_make heading one h e ≡ limbo_make heading other h' e
    same_limbo_make values (Write pe place value) = simp (trees, values)
    same_limbo_make values e = refl
