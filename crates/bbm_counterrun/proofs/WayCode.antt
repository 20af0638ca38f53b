-- The steps of the loop over the places above a page.
use Rattle.bbm_counterrun.proofs.Common.{append-nil, append_assoc}
use Rattle.bbm_rules.proofs.Common.{ℕ, ◌<◌, ◌∷◌, length, take, get_or, map, reverse, filter_map}
use Rattle.bbm_rules.proofs.Common.{◌≡◌, ◌+◌, List, [], ◌++◌, Option, Some, None, option_to_list, refl, cons_option}
use Rattle.bbm_rules.proofs.Common.{map-append, reverse-append, filter_map-append}
use Rattle.bbm_lemmas.proofs.Elements.{one_option, taken_more}

pub first_by : {Y : Type 0} (o : Option Y) (ys : List Y) → cons_option o ys ≡ option_to_list o ++ ys
first_by None ys = refl
first_by (Some y) ys = refl

pub above_next : {X Y Z : Type 0} (g : X → Y) (f : Y → Option Z) (xs : List X) (i : ℕ) (x : X) (y : Y) (start before after : List Z)
    → y ≡ g x → i < length xs → x ≡ get_or xs i x → before ≡ filter_map f (reverse (map g (take i xs))) ++ start
    → after ≡ option_to_list (f y) ++ before → after ≡ filter_map f (reverse (map g (take (i + 1) xs))) ++ start
above_next g f xs i x y start before after at lt is so_far now =
    rw (
      now,
      at,
      so_far,
      taken_more xs i x lt is,
      map-append g (take i xs) (x ∷ []),
      reverse-append (map g (take i xs)) (g x ∷ []),
      first_by (f (g x)) (filter_map f (reverse (map g (take i xs)))),
      append_assoc (option_to_list (f (g x))) (filter_map f (reverse (map g (take i xs)))) start,
    ) refl

pub ruleset way_parts = (append-nil, filter_map-append, one_option)
