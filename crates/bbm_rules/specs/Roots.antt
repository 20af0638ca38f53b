-- Roots of translation tables. A history is newest first.
-- Source: project's own choice, but where another is named.
use Rattle.std.specs.Prelude.{ℕ, zero, suc, ◌+◌, Bool, false, not, ◌&&◌, ◌==◌, nat_le, List, [], ◌∷◌, ◌++◌, length}
use Rattle.std.specs.Prelude.{Option, filter, find, map, if◌then◌else◌}
pub use Rattle.bbm_regimes.specs.SameRegister.{same_kind}
pub use Rattle.bbm_regimes.specs.World.{first_input_page, input_pages, kind_in_world, page_count, start_of}
use Rattle.bbm_rules.specs.Prelude.{Kind, World, Event, Root, Unroot}
use Rattle.bbm_rules.specs.Lists.{◌>>=◌, any, some, with_number}

-- a declared root: its first page, its kind, and the lock that its writers hold, or none
pub record Declared : Type 0 where
  pub page : ℕ
  pub kind : Kind
  pub lock : Option ℕ

-- whether the first page of a root is this one
abbrev pub is_at : ℕ → Declared → Bool
is_at page r = r.page == page

-- the roots without the one of this page
abbrev pub retired : ℕ → List Declared → List Declared
retired page rs = filter (λ r. not (is_at page r)) rs

-- Root: a page with a `root` event and no later `unroot` of it. Its kind and its lock are those of its last `root`.
abbrev pub roots_of : List Event → List Declared
roots_of [] = []
roots_of (Root pe kind lock page ∷ h) = record { page = page; kind = kind; lock = lock } ∷ retired page (roots_of h)
roots_of (Unroot pe page ∷ h) = retired page (roots_of h)
roots_of (_ ∷ h) = roots_of h

-- the root of this page
abbrev pub root_at : List Event → ℕ → Option Declared
root_at h page = find (is_at page) (roots_of h)

-- whether the page is the first page of a root of the kind
abbrev pub is_root : List Event → Kind → ℕ → Bool
is_root h kind page = any (λ r. is_at page r && same_kind r.kind kind) (roots_of h)

-- the lock that a root names, None where it names none or the page is no root
abbrev pub lock_of : List Event → ℕ → Option ℕ
lock_of h page = root_at h page >>= (λ r. r.lock)

-- Given up: whether the event gives up the root of this page.
abbrev pub gives_up : ℕ → Event → Bool
gives_up page (Unroot pe at) = at == page
gives_up page _ = false

-- the first pages of the roots that were given up, each once; some may be declared anew since
abbrev pub given_up : List Event → List ℕ
given_up [] = []
given_up (Unroot pe page ∷ h) = with_number page (given_up h)
given_up (_ ∷ h) = given_up h

-- the first pages of the declared roots, and of those that were given up
abbrev pub first_pages : List Event → List ℕ
first_pages h = map (λ r. r.page) (roots_of h) ++ given_up h

-- whether the root of this page was given up after the first n events
abbrev pub given_up_since : ℕ → ℕ → List Event → Bool
given_up_since n page h = some (λ e before. nat_le n (length before) && gives_up page e) h

-- so many consecutive pages from a first one on
abbrev pub pages_from : ℕ → ℕ → List ℕ
pages_from page zero = []
pages_from page (suc n) = page ∷ pages_from (page + 4096) n

-- the pages of a root; one of a kind of the other world has none, so it has no tree
abbrev pub root_pages : World → Kind → ℕ → List ℕ
root_pages world kind page = if kind_in_world world kind then pages_from page (page_count world kind) else []
