-- The steps of the loops that add one value for each item, or for each of some items.
use Rattle.bbm_counterrun.proofs.Common.{append_assoc}
use Rattle.bbm_rules.proofs.Common.{◌≡◌, ℕ, ◌+◌, ◌<◌, Bool, true, false, List, [], ◌∷◌, ◌++◌, length, drop, get_or, map, filter, refl, map-append}
use Rattle.bbm_counterrun.proofs.WalkCode.{next_item}

pub map_next : {X Y : Type 0} (f : X → Y) (xs more : List X) (x : X) (y : Y) (start before after : List Y)
    → more ≡ xs ++ x ∷ [] → y ≡ f x → before ≡ start ++ map f xs → after ≡ before ++ y ∷ [] → after ≡ start ++ map f more
map_next f xs more x y start before after longer at so_far now =
    rw (now, so_far, at, longer, map-append f xs (x ∷ []), append_assoc start (map f xs) (f x ∷ [])) refl

pub kept_next : {X Y : Type 0} (test : X → Bool) (f : X → Y) (xs : List X) (i : ℕ) (x : X) (y : Y) (before after end : List Y)
    → i < length xs → x ≡ get_or xs i x → test x ≡ true → y ≡ f x → before ++ map f (filter test (drop i xs)) ≡ end
    → after ≡ before ++ y ∷ [] → after ++ map f (filter test (drop (i + 1) xs)) ≡ end
kept_next test f xs i x y before after end within at holds made was now =
    rw (now, made, append_assoc before (f x ∷ []) (map f (filter test (drop (i + 1) xs))))
    (rw (next_item xs i x within at, holds) at was)

pub left_next : {X Y : Type 0} (test : X → Bool) (f : X → Y) (xs : List X) (i : ℕ) (x : X) (before after end : List Y)
    → i < length xs → x ≡ get_or xs i x → test x ≡ false → before ++ map f (filter test (drop i xs)) ≡ end → after ≡ before
    → after ++ map f (filter test (drop (i + 1) xs)) ≡ end
left_next test f xs i x before after end within at fails was now = rw now (rw (next_item xs i x within at, fails) at was)
