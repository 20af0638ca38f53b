-- One entry that a DSB answered, among the others.
use Rattle.bbm_place_map.proofs.Common.{◌≡◌, ◌≢◌, ℕ, nat_eq, List, Option, Some, None, refl, ap, sym, subst, ◌∙◌}
use Rattle.bbm_place_map.proofs.Common.{if◌then◌else◌, slice_get, Completed, Clean, Broken}
use Rattle.bbm_place_map.proofs.Common.{Completes, loses, next_of, pends_in, no_pends, position, cell_at}
use Rattle.bbm_place_map.proofs.Common.{entry_of, entry_in, marks_of, marks_in, Linked, Entry, Barrier}
use Rattle.bbm_place_map.proofs.Common.{put_here, put_away}
use Rattle.bbm_place_map.proofs.Idle.{nothing_waits}
use Rattle.bbm_place_map.proofs.Positions.{cells_same, positions_changed, entries_changed}

pub completes_at : (by : Barrier) (o o' p p' : Option Entry) → o ≡ o' → p ≡ p'
    → Completes by o' p' → Completes by o p
completes_at by o o' p p' is is' h =
    let P : Option Entry → Type 0 = λ x. Completes by x p' in
    let Q : Option Entry → Type 0 = λ y. Completes by o y in
    subst Q (sym is') (subst P (sym is) h)

-- it changed, and left
module _ (by : Barrier) (cells : List ℕ) (entries mid : List Entry) (k : ℕ) (e f : Entry)
    (linked : Linked cells entries) (was : slice_get entries k ≡ Some e) (seated : position f ≡ position e)
    (gets : (i : ℕ) → slice_get mid i ≡ (if nat_eq i k then Some f else slice_get entries i)) (j : ℕ) (at : cell_at entries k ≡ Some j) where
  old_entry : entry_in cells entries j ≡ Some e
  old_entry = ap (entry_of entries) (linked.back j k at) ∙ was

  mid_is : (i : ℕ) → entry_in cells mid i ≡ (if nat_eq i j then Some f else entry_in cells entries i)
  mid_is = entries_changed cells entries mid e f j k linked (linked.back j k at) was seated gets

  pub here_gone : (cells' : List ℕ) (entries' : List Entry)
      → ((j : ℕ) → cell_at mid k ≡ Some j → (i : ℕ) → entry_in cells' entries' i ≡ (if nat_eq i j then None else entry_in cells mid i))
      → Completed (Broken e.marks) (pends_in e.pends.items by.issuer) by.dsb by.n Clean no_pends
      → Completes by (entry_in cells entries j) (entry_in cells' entries' j)
      × (next_of e.marks.core ≡ loses (marks_in cells entries j) (marks_in cells' entries' j))
      × ((i : ℕ) → i ≢ j → entry_in cells' entries' i ≡ entry_in cells entries i)
  here_gone cells' entries' gone done =
      let is = gone j (cells_same entries mid (positions_changed cells entries mid e f j k linked (linked.back j k at) was seated gets) k ∙ at) in
      let none = put_here _ _ is j refl in (
        completes_at by (entry_in cells entries j) (Some e) (entry_in cells' entries' j) None old_entry none (record {
          own = done;
          others = λ q other. nothing_waits;
        }),
        sym (ap (λ (o : Option Entry). loses (marks_of o) (marks_in cells' entries' j)) old_entry
            ∙ ap (λ (o : Option Entry). loses (Some e.marks) (marks_of o)) none),
        λ i other. put_away _ _ is i other ∙ put_away _ _ mid_is i other,
      )
