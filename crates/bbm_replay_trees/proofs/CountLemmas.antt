-- The number of restless places.
use Rattle.bbm_rules.proofs.Common.{◌≡◌, ℕ, zero, suc, ◌<◌, ◌≤◌, not, Bool, true, false, ◌&&◌, List, length}
use Rattle.bbm_rules.proofs.Common.{Option, Some, None, is_some, filter, map, refl, sym, ◌∙◌, ap, subst}
use Rattle.bbm_rules.proofs.Common.{true≢false, arith, and_parts, option_map_or, is_valid, Event, Patterns, below}
use Rattle.bbm_rules.proofs.Common.{events_of, is_restless, page_of, Node, held_at, node_of, value_of, written_places}
use Rattle.bbm_rules.proofs.Common.{In, from_filter, from_map, in_map, to_filter, any_finds, any_found, eq-eqb}
use Rattle.bbm_rules.proofs.Common.{eqb-true, nat_eq}
use Rattle.std.proofs.lemmas.List.Sums.{length-filter}
use Rattle.bbm_events.specs.Heading.{Heading}
use Rattle.bbm_rules.specs.Phases.{restless_of}
use Rattle.bbm_replay_trees.specs.BelowTrees.{Below}
use Rattle.bbm_replay_trees.specs.Restless.{Numbers}
use Rattle.bbm_replay_trees.specs.Told.{notes}
use Rattle.bbm_lemmas.proofs.Words.{Apart, apart_distinct, below_less, filter_apart, in_below, some_is}
use Rattle.bbm_rules.proofs.HeldLemmas.{held_is_written}
use Rattle.bbm_rules.proofs.Twice.{apart_written}
use Rattle.std.proofs.lemmas.Cmp.{nat_eq_equiv}
use Rattle.std.proofs.lemmas.Map.Made.{length-le_from_is_member}

-- ---- lists without repeats

part_length : (xs ys : List ℕ) → Apart xs → ((a : ℕ) → In xs a → In ys a) → length xs ≤ length ys
part_length xs ys a part =
    length-le_from_is_member nat_eq_equiv xs ys (apart_distinct xs a)
    (λ q k. let f = any_found (nat_eq q) xs k in
    any_finds (nat_eq q) ys q (part q (subst (In xs) (sym (eqb-true q f.0 f.2)) f.1)) (eq-eqb q q refl))

-- ---- restless places

module _ (heading : Heading) (b : Below heading) (h : List Event) where
  abbrev is_one : ℕ → Bool
  is_one a = is_restless heading Patterns (notes heading h) a

  restless_written : (a : ℕ) → is_one a ≡ true → In (written_places h) a
  restless_written a k =
      subst (λ es. In (written_places es) a) (b.notes_keep_the_events h)
      (by (node_of heading Patterns (notes heading h) (page_of a)) k)
    where
      by : (o : Option Node) → option_map_or (λ n. is_some (held_at heading Patterns (notes heading h) n a)
          && not (is_valid n.kind n.level (value_of (events_of (notes heading h)) a))) o false ≡ true
          → In (written_places (events_of (notes heading h))) a
      by None l = absurd (true≢false (sym l))
      by (Some n) l =
          let some = some_is (held_at heading Patterns (notes heading h) n a)
          (and_parts (is_some (held_at heading Patterns (notes heading h) n a))
          (not (is_valid n.kind n.level (value_of (events_of (notes heading h)) a))) l).0 in
          held_is_written heading Patterns a n.kind n.level (notes heading h) some.0 some.1

  pub counted : (places : List ℕ) → Apart places → ((a : ℕ) → In places a → is_one a ≡ true)
      → ((a : ℕ) → is_one a ≡ true → In places a) → restless_of heading Patterns h ≡ length places
  unfolding restless_of
  counted places once each all =
      sym (length-filter is_one (written_places h))
      ∙ (let some : length (filter is_one (written_places h)) ≤ length places
      = part_length (filter is_one (written_places h)) places (filter_apart is_one (written_places h) (apart_written h))
      (λ a i. all a (from_filter is_one (written_places h) a i).1) in
      let rest : length places ≤ length (filter is_one (written_places h))
      = part_length places (filter is_one (written_places h)) once
      (λ a i. to_filter is_one (written_places h) a (restless_written a (each a i)) (each a i)) in omega (arith, some, rest))

  numbers_apart : (place : ℕ → ℕ) (count n : ℕ) → n ≤ count
      → ((i j : ℕ) → i < count → j < count → place i ≡ place j → i ≡ j) → Apart (map place (below n))
  numbers_apart place count zero within once = tt
  numbers_apart place count (suc n) within once = (
    λ i. let f = from_map place (below n) (place n) i in
        let less : f.0 < n = below_less n f.0 f.1 in
        let same : f.0 ≡ n = once f.0 n (omega (arith, less, within)) (omega (arith, within)) f.2 in
        absurd (omega (arith, less, same)),
    numbers_apart place count n (omega (arith, within)) once,
  )

  numbers_length : (place : ℕ → ℕ) (n : ℕ) → length (map place (below n)) ≡ n
  numbers_length place zero = refl
  numbers_length place (suc n) = ap suc (numbers_length place n)

  pub numbered : (count : ℕ) (place : ℕ → ℕ) → Numbers heading h count place → restless_of heading Patterns h ≡ count
  numbered count place k =
      counted (map place (below count)) (numbers_apart place count count (omega arith) k.once)
      (λ a i. let f = from_map place (below count) a i in
      subst (λ (x : ℕ). is_one x ≡ true) f.2 (k.restless f.0 (below_less count f.0 f.1)))
      (λ a r. let f = k.each a r in subst (In (map place (below count))) f.2 (in_map place (below count) f.0 (in_below count f.0 f.1)))
      ∙ numbers_length place count
