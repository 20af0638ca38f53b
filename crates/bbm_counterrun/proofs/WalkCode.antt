-- The steps of the loop that makes a walk.
use Rattle.bbm_counterrun.proofs.Common.{Entry, extended, may_extend, Read, extended_by, may_extend_by}
use Rattle.bbm_rules.proofs.Common.{◌≡◌, ℕ, ◌+◌, ◌<◌, Bool, List, ◌∷◌, length, drop, get_or, Option, Some, None, sym, ◌∙◌}
use Rattle.bbm_rules.proofs.Common.{ap, false, ◌&&◌, if_so, Heading, Event}
use Rattle.std.proofs.lemmas.List.{drop_more}
use Rattle.bbm_lemmas.proofs.Words.{if_so_some}
use Rattle.bbm_rules.proofs.RuleLemmas.{if_none}

pub next_item : {X : Type 0} (xs : List X) (i : ℕ) (x : X) → i < length xs → x ≡ get_or xs i x → drop i xs ≡ x ∷ drop (i + 1) xs
next_item xs i x within at = drop_more xs i x within ∙ ap (λ y. y ∷ drop (i + 1) xs) (sym at)

pub extend_may : (heading : Heading) (h : List Event) (x next : Entry) (reads : List Read) (i : ℕ) (r : Read) (start : Bool) (o : Option Entry)
    → i < length reads → r ≡ get_or reads i r → o ≡ if_so (may_extend heading h x r.place r.value) (extended x r.place r.value) → o ≡ Some next
    → may_extend_by heading h x (drop i reads) ≡ start → may_extend_by heading h next (drop (i + 1) reads) ≡ start
extend_may heading h x next reads i r start o within at k is e =
    let m = if_so_some _ _ next (sym k ∙ is) in
    ap (λ y. may_extend_by heading h y (drop (i + 1) reads)) m.1 ∙ rw (next_item reads i r within at, m.0) at e

pub extend_same : (heading : Heading) (h : List Event) (x next : Entry) (reads : List Read) (i : ℕ) (r : Read) (end : Entry) (o : Option Entry)
    → i < length reads → r ≡ get_or reads i r → o ≡ if_so (may_extend heading h x r.place r.value) (extended x r.place r.value) → o ≡ Some next
    → extended_by x (drop i reads) ≡ end → extended_by next (drop (i + 1) reads) ≡ end
extend_same heading h x next reads i r end o within at k is e =
    let m = if_so_some _ _ next (sym k ∙ is) in
    ap (λ y. extended_by y (drop (i + 1) reads)) m.1 ∙ rw (next_item reads i r within at) at e

-- an extend that can't be made
pub extend_none : (heading : Heading) (h : List Event) (x end : Entry) (reads : List Read) (i : ℕ) (r : Read) (start : Bool) (o : Option Entry)
    → i < length reads → r ≡ get_or reads i r → o ≡ if_so (may_extend heading h x r.place r.value) (extended x r.place r.value) → o ≡ None
    → may_extend_by heading h x (drop i reads) ≡ start → None ≡ if_so start end
extend_none heading h x end reads i r start o within at k is e =
    let no : may_extend heading h x r.place r.value ≡ false = if_none _ _ (sym k ∙ is) in
    let stops : start ≡ false
    = sym e ∙ (ap (may_extend_by heading h x) (next_item reads i r within at)
    ∙ ap (λ (b : Bool). b && may_extend_by heading h (extended x r.place r.value) (drop (i + 1) reads)) no) in
    ap (λ (b : Bool). if_so b end) (sym stops)
