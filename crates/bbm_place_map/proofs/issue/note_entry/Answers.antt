use Rattle.bbm_place_map.proofs.Common.{false≢true, ◌≡◌, Bool, ap, sym, subst, ◌∙◌, inl, inr, refl, arith, ℕ, HoldsFor}
use Rattle.bbm_place_map.proofs.Common.{Entry, put_here}
use Rattle.bbm_place_map.proofs.Noting.{not_noted, gets_same}
use Rattle.bbm_place_map.proofs.Leaving.{entry_same}
use Rattle.bbm_place_map.proofs.issue.note_entry.Goals as goal

pub returns-then-note_at-clause-entry : goal.returns-then-note_at-clause-entry
returns-then-note_at-clause-entry c = λ e is.
    let f = c.note_at.ensures.entry e is in
    let P : ℕ → Type 0 = λ x. (wide : Bool) → HoldsFor c.add_for.new.lists.items c.args.tlbi.now.issuer wide x in
    let now : c.index.result.now ≡ f.0
    = entry_same c.note_at.new.entries.list.items c.args.k c.index.result.now f.0 (omega (arith, c.note_at.ensures.size.len)) c.index.ensures
    (put_here _ _ f.3 c.args.k refl) in (
      f.0,
      f.1,
      (
        (f.2.0.0, f.2.0.1, f.2.1, λ none. absurd (false≢true (sym none ∙ sym c.is_cover.ensures ∙ c.if-is_cover.true))),
        λ wide. inl ((subst P (ap (λ (x : Entry). x.cell) now ∙ ap (λ (s : ℕ × ℕ × ℕ). s.2) f.1) c.add_for.ensures.there) wide),
      ),
      f.3,
    )

pub returns-else-note_at-clause-entry : goal.returns-else-note_at-clause-entry
returns-else-note_at-clause-entry c = λ e is.
    let f = c.note_at.ensures.entry e is in (
      f.0,
      f.1,
      (
        (f.2.0.0, f.2.0.1, f.2.1, λ none. absurd (false≢true (sym none ∙ sym c.is_cover.ensures ∙ c.if-is_cover.true))),
        λ wide. inr (f.2.2 c.if-note_at.false wide),
      ),
      f.3,
    )

pub returns-else-is_cover-clause-entry : goal.returns-else-is_cover-clause-entry
returns-else-is_cover-clause-entry c = λ e is. (
  e,
  refl,
  (not_noted c.args.cover c.args.tlbi.now e (sym c.is_cover.ensures ∙ c.if-is_cover.false), λ wide. inr (λ quiet. quiet)),
  gets_same c.args.entries.now.list.items c.args.k e is,
)

pub returns-else-not-is_noted_at-clause-entry : goal.returns-else-not-is_noted_at-clause-entry
returns-else-not-is_noted_at-clause-entry c = λ e is. (
  e,
  refl,
  ((refl, λ q other. refl, c.is_noted_at.ensures c.if-not-is_noted_at.false e is, λ none. refl), λ wide. inr (λ quiet. quiet)),
  gets_same c.args.entries.now.list.items c.args.k e is,
)
