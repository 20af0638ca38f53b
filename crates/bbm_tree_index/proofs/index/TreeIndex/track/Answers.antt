use Rattle.bbm_tree_index.proofs.Common.{IndexMap, get, Agrees, Heading, PlaceMap, Sound, roles_of, Role, Fresh}
use Rattle.bbm_tree_index.proofs.Common.{TreeIndex, Untracked, marks_at, value_at}
use Rattle.bbm_rules.proofs.Common.{ne_eqb, nat_tests, ◌≡◌, ℕ, refl, sym, ap, ◌∙◌, nat_eq, List, Some, None, is_some}
use Rattle.bbm_rules.proofs.Common.{false, ◌==◌, if◌then◌else◌, ◌<◌, ◌%◌, ◌^◌, subst, arith}
use Rattle.bbm_rules.proofs.Common.{common_steps, page_of, Node, lookup, none-some, unwrap_or}
use Rattle.bbm_tree_index.specs.Index.{fresh_in, heading_of, node_in, null_in, role_in}
use Rattle.bbm_tree_index.specs.PageTables.{HasPages}
use Rattle.bbm_place_map.specs.Map.{pages_of}
use Rattle.bbm_tree_index.proofs.Numbered.{tracked_more}
use Rattle.bbm_tree_index.proofs.Agreeing.{SamePlace, agrees_same}
use Rattle.bbm_tree_index.proofs.Climbing.{tree_part}
use Rattle.bbm_tree_index.proofs.Indexes.{fresh_put, node_kept, node_out, null_put, sound_put, trees_put, true_there}
use Rattle.bbm_tree_index.proofs.index.TreeIndex.track.Goals as goal

-- ---- where nothing is tracked

alike : {S : Type 0} (old new : IndexMap ℕ Role S) (heading : Heading) → new.entries ≡ old.entries
    → Sound (roles_of old) heading → Sound (roles_of new) heading
alike old new heading same sound =
    let P : List (ℕ × Role) → Type 0 = λ es. Sound (λ p. unwrap_or (lookup (nat_eq p) es) Untracked) heading in
    subst P (sym same) sound

pages_alike : {S : Type 0} (old new : IndexMap ℕ Role S) → new.entries ≡ old.entries → HasPages old → HasPages new
pages_alike old new same pages p k = pages p (ap (λ es. is_some (lookup (nat_eq p) es)) (sym same) ∙ k)

agrees : (old new : TreeIndex) (map map' : PlaceMap) → new.roles.entries ≡ old.roles.entries → new.header ≡ old.header
    → ((a : ℕ) → SamePlace map map' a) → Agrees old map → Agrees new map'
unfolding heading_of role_in
agrees old new map map' same header places =
    agrees_same old new map map'
    (node_kept old new header (λ p i. tree_part (unwrap_or (lookup (nat_eq p) (same i)) Untracked)))
    (λ a n e. places a) (λ a e. (places a).marks ∙ e)

pub invariant_of-self-clause-sound : goal.invariant_of-self-clause-sound
invariant_of-self-clause-sound c = alike c.args.self.now.roles c.reserve.new.self c.args.self.now.header
    c.reserve.ensures.entries c.args.self.now.sound

pub invariant_of-self-clause-paged : goal.invariant_of-self-clause-paged
invariant_of-self-clause-paged c =
    pages_alike c.args.self.now.roles c.reserve.new.self c.reserve.ensures.entries c.args.self.now.paged

pub invariant_of-self-in-Err-track-clause-sound : goal.invariant_of-self-in-Err-track-clause-sound
invariant_of-self-in-Err-track-clause-sound c = alike c.args.self.now.roles c.reserve.new.self c.args.self.now.header
    c.reserve.ensures.entries c.args.self.now.sound

pub invariant_of-self-in-Err-track-clause-paged : goal.invariant_of-self-in-Err-track-clause-paged
invariant_of-self-in-Err-track-clause-paged c =
    pages_alike c.args.self.now.roles c.reserve.new.self c.reserve.ensures.entries c.args.self.now.paged

pub returns-in-Err-clause-agrees : goal.returns-in-Err-clause-agrees
returns-in-Err-clause-agrees c = agrees c.args.self.now _ c.args.map.now c.args.map.now c.reserve.ensures.entries refl
    (λ a. record { marks = refl; value = refl })

pub returns-in-Err-track-clause-agrees : goal.returns-in-Err-track-clause-agrees
returns-in-Err-track-clause-agrees c = agrees c.args.self.now _ c.args.map.now c.track.new.self
    c.reserve.ensures.entries refl
    (λ a. record { marks = c.in-Err-track.ensures.kept.marks a; value = c.in-Err-track.ensures.kept.values a })

-- ---- where the page is tracked

module _ {S : Type 0} (old : TreeIndex) (now new : IndexMap ℕ Role S) (page : ℕ) (same : now.entries ≡ old.roles.entries)
    (put : (p : ℕ) → get nat_eq new p ≡ (if nat_eq page p then Some Fresh else get nat_eq now p)) where
  got : (p : ℕ) → get nat_eq new p ≡ (if p == page then Some Fresh else get nat_eq old.roles p)
  got p = grind (arith, common_steps, put p, ap (λ es. lookup (nat_eq p) es) same)

  paged : page < 2 ^ 48 → page % 4096 ≡ 0 → HasPages new
  paged below aligned p k = grind (arith, nat_tests, got p, old.paged p)

-- a map in which a page that is in no tree was tracked
module _ (index : TreeIndex) (map map' : PlaceMap) (page : ℕ) (none : node_in index page ≡ None)
    (marks : (a : ℕ) → marks_at map' a ≡ (if page_of a == page then None else marks_at map a))
    (values : (a : ℕ) → value_at map' a ≡ (if page_of a == page then 0 else value_at map a)) where
  places : (a : ℕ) (n : Node) → node_in index (page_of a) ≡ Some n → SamePlace map map' a
  places a n e =
      let other = ne_eqb (page_of a) page (λ t. none-some n (sym none ∙ ap (node_in index) (sym t) ∙ e)) in record {
        marks = marks a ∙ ap (λ b. if b then None else marks_at map a) other;
        value = values a ∙ ap (λ b. if b then 0 else value_at map a) other;
      }

  clean : (a : ℕ) → marks_at map a ≡ None → marks_at map' a ≡ None
  clean a e = grind (arith, marks a)

pub invariant_of-self-2-clause-sound : goal.invariant_of-self-2-clause-sound
invariant_of-self-2-clause-sound c =
    let self = c.args.self.now in
    let put = c.set.ensures.updates in
    sound_put self c.set.new.roles c.args.page Fresh (got self c.reserve.new.self c.set.new.roles c.args.page c.reserve.ensures.entries put)
    (node_out self c.args.page c.requires.no_tree) refl

pub invariant_of-self-2-clause-paged : goal.invariant_of-self-2-clause-paged
invariant_of-self-2-clause-paged c =
    let put = c.set.ensures.updates in
    paged c.args.self.now c.reserve.new.self c.set.new.roles c.args.page c.reserve.ensures.entries put
    c.get.ensures.below c.get.ensures.aligned

null_kept : (old : TreeIndex) (page p : ℕ) → null_in old page ≡ false
    → (if p == page then false else null_in old p) ≡ null_in old p
null_kept old page p not_null = grind (arith, nat_tests)

pub returns-clause-fresh : goal.returns-clause-fresh
unfolding heading_of role_in
returns-clause-fresh c =
    let old = c.args.self.now in
    let page = c.args.page in
    let put = got old c.reserve.new.self c.set.new.roles page c.reserve.ensures.entries c.set.ensures.updates in
    record {
      node = node_kept old _ refl (trees_put old c.set.new.roles page Fresh put (node_out old page c.requires.no_tree) refl);
      fresh = λ p. fresh_put old _ page Fresh put p ∙ true_there (p == page) (fresh_in old p);
      null = λ p. null_put old _ page Fresh put p ∙ null_kept old page p c.requires.not_null;
    }

pub returns-clause-agrees : goal.returns-clause-agrees
unfolding heading_of role_in
returns-clause-agrees c =
    let old = c.args.self.now in
    let page = c.args.page in
    let e = c.in-Ok-track.ensures in
    let put = got old c.reserve.new.self c.set.new.roles page c.reserve.ensures.entries c.set.ensures.updates in
    agrees_same old _ c.args.map.now c.track.new.self
    (node_kept old _ refl (trees_put old c.set.new.roles page Fresh put (node_out old page c.requires.no_tree) refl))
    (places old c.args.map.now c.track.new.self page c.requires.no_tree e.freed.marks e.values)
    (clean old c.args.map.now c.track.new.self page c.requires.no_tree e.freed.marks e.values)

pub returns-clause-zero : goal.returns-clause-zero
returns-clause-zero c =
    let e = c.in-Ok-track.ensures in
    record {
      values = e.values;
      marks = e.freed.marks;
      pends = e.freed.pends;
      pages = tracked_more (pages_of c.args.map.now) (pages_of c.track.new.self) c.args.page e.pages;
    }
