-- A table of marks after one more place.
use Rattle.bbm_tree_index.proofs.Common.{is_at, StandsAt, Counts, Found, Partly, Reached, Step, Uniform, grown, joined}
use Rattle.bbm_tree_index.proofs.Common.{role_as, Mark, Hangs, Spot}
use Rattle.bbm_rules.proofs.Common.{◌≡◌, ℕ, suc, ◌+◌, ◌*◌, Bool, true, false, ◌||◌, ◌==◌, List, Option, Some, None}
use Rattle.bbm_rules.proofs.Common.{refl, sym, ap, ◌∙◌, subst, true≢false, if◌then◌else◌, eqb-true, eq-eqb, none-some}
use Rattle.bbm_rules.proofs.Common.{same_Some, index_of, page_of, input_pages, Node, next_of, node_below, ◌⊎◌, inl, inr}
use Rattle.bbm_rules.proofs.Common.{or_cases}
use Rattle.bbm_tree_index.proofs.Injective.{above_same, place_same}
use Rattle.bbm_tree_index.proofs.Places.{at_page}

-- the same nodes at a page give the same mark
pub counts_same : (R R' : Node → Type 0) (q : ℕ) (o : Option Mark) → ((m : Node) → m.page ≡ q → R m → R' m)
    → ((m : Node) → m.page ≡ q → R' m → R m) → Counts R q o → Counts R' q o
counts_same R R' q None to from h = λ m r at. h m (from m at r) at
counts_same R R' q (Some mark) to from h = record {
  node = h.node;
  is_there = to h.node h.at h.is_there;
  at = h.at;
  role = h.role;
  one = λ e m r at. h.one e m (from m at r) at;
  two = λ e. let t = h.two e in (t.0, to t.0 t.2 t.1, t.2, t.3);
}

-- a page with a node has a mark
pub marked : (R : Node → Type 0) (q : ℕ) (o : Option Mark) → Counts R q o → (m : Node) → R m → m.page ≡ q
    → (mark : Mark) × (o ≡ Some mark) × Found R q mark
marked R q None c m r at = absurd (c m r at)
marked R q (Some mark) c m r at = (mark, refl, c)

module _ (fresh : ℕ → Bool) (value : ℕ → ℕ) (starts : List Node) (k : ℕ) where
  -- a place that is done by another test
  pub done_too : (done done' : ℕ → Bool) (m : Node) (r : Partly fresh value starts k done m) → done' r.place ≡ true
      → Partly fresh value starts k done' m
  done_too done done' m r e = record { above = r.above; is_above = r.is_above; place = r.place; is_done = e; step = r.step }

  -- tests that agree where a place leads to a node give the same marks
  pub marks_same : (done done' : ℕ → Bool)
      → ((n m : Node) (a : ℕ) → Step fresh value n a m → (done a ≡ true → done' a ≡ true) × (done' a ≡ true → done a ≡ true))
      → (g : ℕ → Option Mark) → ((q : ℕ) → Counts (Partly fresh value starts k done) q (g q)) → (q : ℕ)
      → Counts (Partly fresh value starts k done') q (g q)
  marks_same done done' same g h q = counts_same (Partly fresh value starts k done) (Partly fresh value starts k done') q (g q)
      (λ m at r. done_too done done' m r ((same r.above m r.place r.step).0 r.is_done))
      (λ m at r. done_too done' done m r ((same r.above m r.place r.step).1 r.is_done)) (h q)

  module _ (uniform : Uniform fresh value starts k) (done : ℕ → Bool) (p place : ℕ) (mark : Mark) (s : Spot) (is_fresh : fresh p ≡ true)
      (inside : is_at p place ≡ true) (undone : done place ≡ false) (found : Found (Reached fresh value starts k) p mark)
      (stands : StandsAt s found.node) where
    abbrev Old : Node → Type 0
    Old m = Partly fresh value starts k done m

    abbrev New : Node → Type 0
    New m = Partly fresh value starts k (λ a. done a || a == place) m

    abbrev next : Option ℕ
    next = next_of s.kind s.level (value place)

    lift : (m : Node) → Old m → New m
    lift m o = done_too done (λ a. done a || a == place) m o (ap (λ b. b || o.place == place) o.is_done)

    -- the next page by a node of the page
    next_by : (n : Node) → Reached fresh value starts k n → next_of n.kind n.level (value place) ≡ next
    next_by n r = let u = uniform n found.node r found.is_there in
        (λ i. next_of ((u.0 ∙ stands.kind) i) ((u.1 ∙ stands.level) i) (value place))

    -- a node that is new is one below the place
    record Fresh_one (m : Node) : Type 0 where
      above : Node
      is_above : Reached fresh value starts k above
      at : above.page ≡ p
      step : Step fresh value above place m

    split : (m : Node) → New m → Old m ⊎ Fresh_one m
    split m r =
        elim (or_cases (done r.place) (r.place == place) r.is_done) [
          | inl e ↦ inl (done_too (λ a. done a || a == place) done m r e)
          | inr e ↦ let same = eqb-true r.place place e in inr (record {
            above = r.above;
            is_above = r.is_above;
            at = sym (at_page r.above.page r.place r.step.inside) ∙ ap page_of same ∙ at_page p place inside;
            step = subst (λ a. Step fresh value r.above a m) same r.step;
          })
        ]

    next_new : (m : Node) → Fresh_one m → next ≡ Some m.page
    next_new m r = sym (next_by r.above r.is_above) ∙ r.step.table

    -- where the place doesn't lead to the page, its mark stays
    kept : (q : ℕ) (o : Option Mark) → (next ≡ Some q → ⊥) → Counts Old q o → Counts New q o
    kept q o other = counts_same Old New q o (λ m at. lift m)
        (λ m at r. elim (split m r) [ inl old ↦ old | inr f ↦ absurd (other (next_new m f ∙ ap (λ (x : ℕ). Some x) at)) ])

    abbrev made : Mark
    made = record {
      role = Hangs place s.kind (suc s.level) (s.base + index_of place * input_pages s.level) s.first;
      many = mark.many;
    }

    -- the node below the place, for a node of the page
    make : (n : Node) → Reached fresh value starts k n → n.page ≡ p → (q : ℕ) → next ≡ Some q → New (node_below n place q)
    make n r at q e = record {
      above = n;
      is_above = r;
      place = place;
      is_done = ap (λ b. b || place == place) undone ∙ eq-eqb place place refl;
      step = record {
        is_fresh = ap fresh at ∙ is_fresh;
        inside = ap (λ x. is_at x place) at ∙ inside;
        table = next_by n r ∙ e;
        below = refl;
      };
    }

    role_made : (q : ℕ) → made.role ≡ role_as (node_below found.node place q) (node_below found.node place q).above
    role_made q = λ i. Hangs place (sym stands.kind i) (suc (sym stands.level i))
        (sym stands.base i + index_of place * input_pages (sym stands.level i)) (sym stands.root i)

    at_next : (q : ℕ) (o : Option Mark) → next ≡ Some q → Counts Old q o → Found New q (joined o made)
    at_next q None e none = record {
      node = node_below found.node place q;
      is_there = make found.node found.is_there found.at q e;
      at = refl;
      role = role_made q;
      one = λ few m r at.
          elim (split m r) [
            | inl o ↦ absurd (none m o at)
            | inr f ↦ f.step.below ∙ ap (node_below f.above place) at
                ∙ ap (λ n. node_below n place q) (found.one few f.above f.is_above f.at)
          ];
      two = λ many. let t = found.two many in (
        node_below t.0 place q,
        make t.0 t.1 t.2 q e,
        refl,
        λ same. t.3 (above_same t.0 found.node place place q q (t.2 ∙ sym found.at) same),
      );
    }
    at_next q (Some old) e f = record {
      node = f.node;
      is_there = lift f.node f.is_there;
      at = f.at;
      role = f.role;
      one = λ few. absurd (true≢false few);
      two = λ many. (
        node_below found.node place q,
        make found.node found.is_there found.at q e,
        refl,
        λ same. true≢false (sym f.is_there.is_done ∙ ap done (sym (place_same found.node f.is_there.above place f.is_there.place q f.node.page
            (same ∙ f.is_there.step.below))) ∙ undone),
      );
    }

    by_next : (o : Option ℕ) → next ≡ o → (g : ℕ → Option Mark) → ((q : ℕ) → Counts Old q (g q))
        → (q : ℕ) → Counts New q (grown o made g q)
    by_next None e g h q = kept q (g q) (λ f. none-some q (sym e ∙ f)) (h q)
    by_next (Some next') e g h q = by (q == next') refl
      where
        by : (b : Bool) → (q == next') ≡ b → Counts New q (if b then Some (joined (g next') made) else g q)
        by true t = subst (λ x. Found New x (joined (g next') made)) (sym (eqb-true q next' t)) (at_next next' (g next') e (h next'))
        by false t = kept q (g q) (λ f. true≢false (sym (eq-eqb q next' (same_Some q next' (sym f ∙ e))) ∙ t)) (h q)

    pub grow : (g : ℕ → Option Mark) → ((q : ℕ) → Counts Old q (g q)) → (q : ℕ) → Counts New q (grown next made g q)
    grow g h = by_next next refl g h
