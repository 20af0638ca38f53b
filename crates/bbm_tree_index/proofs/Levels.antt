-- The nodes of a level, and those of the next.
use Rattle.bbm_tree_index.proofs.Common.{IndexMap, get, Counts, Found, Goes, Partly, Reached, Step, Mark}
use Rattle.bbm_rules.proofs.Common.{◌≡◌, ℕ, zero, suc, ◌<◌, Bool, true, List, [], ◌∷◌, ◌++◌, Option, Some, None}
use Rattle.bbm_rules.proofs.Common.{is_some, length, nat_eq, slice_get, refl, sym, ap, subst, true≢false, arith}
use Rattle.bbm_rules.proofs.Common.{length-append, page_of, Node}
use Rattle.std.proofs.lemmas.List.{nil_from_length}
use Rattle.bbm_tree_index.proofs.Counting.{counts_same, marked}
use Rattle.bbm_tree_index.proofs.Places.{at_page}

module _ (fresh : ℕ → Bool) (value : ℕ → ℕ) where
  goes_on : (s n m : Node) (places : List ℕ) (place : ℕ) → Goes fresh value s places n → Step fresh value n place m
      → Goes fresh value s (places ++ place ∷ []) m
  goes_on s n m [] place g st = (m, subst (λ x. Step fresh value x place m) (sym g) st, refl)
  goes_on s n m (p ∷ places) place g st = (g.0, g.1, goes_on g.0 n m places place g.2 st)

  -- the last place of a path, and the node above
  abbrev Last : Node → Node → ℕ → Type 0
  Last s m k = (above : Node) × (places : List ℕ) × (length places ≡ k) × Goes fresh value s places above
      × (place : ℕ) × Step fresh value above place m

  last_of : (s m : Node) (places : List ℕ) (k : ℕ) → length places ≡ suc k → Goes fresh value s places m → Last s m k
  last_of s m [] k e g = absurd (omega arith)
  last_of s m (p ∷ []) k e g = (s, [], omega arith, refl, p, subst (Step fresh value s p) g.2 g.1)
  last_of s m (p ∷ q ∷ places) zero e g = absurd (omega arith)
  last_of s m (p ∷ q ∷ places) (suc k) e g =
      let r = last_of g.0 m (q ∷ places) k (omega arith) g.2 in
      (r.0, p ∷ r.1, omega (arith, r.2), (g.0, g.1, r.3), r.4, r.5)

  module _ (starts : List Node) where
    -- a path of no places reaches its start
    pub start_is : (m : Node) (r : Reached fresh value starts 0 m) → r.start ≡ m
    start_is m r = subst (λ ps. Goes fresh value r.start ps m) (nil_from_length r.places r.count) r.goes

    -- the node above, and the last place
    pub above_of : (k : ℕ) (m : Node) → Reached fresh value starts (suc k) m
        → (n : Node) × Reached fresh value starts k n × (place : ℕ) × Step fresh value n place m
    above_of k m r = let l = last_of r.start m r.places k r.count r.goes in
        (l.0, record { start = r.start; is_start = r.is_start; places = l.1; count = l.2; goes = l.3 }, l.4, l.5)

    -- where each page of the level is done, each node of the next level is told
    pub all_done : (k : ℕ) (g h : ℕ → Option Mark) (done : ℕ → Bool)
        → ((q : ℕ) → Counts (Reached fresh value starts k) q (g q)) → ((a : ℕ) → is_some (g (page_of a)) ≡ true → done a ≡ true)
        → ((q : ℕ) → Counts (Partly fresh value starts k done) q (h q))
        → (q : ℕ) → Counts (Reached fresh value starts (suc k)) q (h q)
    all_done k g h done level every below q =
        counts_same (Partly fresh value starts k done) (Reached fresh value starts (suc k)) q (h q)
        (λ m at r. record {
          start = r.is_above.start;
          is_start = r.is_above.is_start;
          places = r.is_above.places ++ r.place ∷ [];
          count = omega (arith, length-append r.is_above.places (r.place ∷ []), r.is_above.count);
          goes = goes_on r.is_above.start r.above m r.is_above.places r.place r.is_above.goes r.step;
        })
        (λ m at r. let a = above_of k m r in let q = page_of a.2 in
        let f = marked (Reached fresh value starts k) q (g q) (level q) a.0 a.1 (sym (at_page a.0.page a.2 a.3.inside)) in
        record { above = a.0; is_above = a.1; place = a.2; is_done = every a.2 (ap (λ o. is_some o) f.1); step = a.3 }) (below q)

table_at : {X : Type 0} (xs : List X) (k : ℕ) → k < length xs → (x : X) × (slice_get xs k ≡ Some x)
table_at [] k l = absurd (omega arith)
table_at (x ∷ xs) zero l = (x, refl)
table_at (x ∷ xs) (suc k) l = table_at xs k (omega arith)

-- tables that tell the nodes of each level
module _ {S : Type 0} (tables : List (IndexMap ℕ Mark S)) (Has : ℕ → Node → Type 0)
    (levels : (k : ℕ) (table : IndexMap ℕ Mark S) → slice_get tables k ≡ Some table → (q : ℕ) → Counts (Has k) q (get nat_eq table q)) where
  -- a page of the table of a level
  pub record Listed (k q : ℕ) : Type 0 where
    pub table : IndexMap ℕ Mark S
    pub at : slice_get tables k ≡ Some table
    pub mark : Mark
    pub has : get nat_eq table q ≡ Some mark
    pub found : Found (Has k) q mark

  pub listed : (k q : ℕ) (m : Node) → k < length tables → Has k m → m.page ≡ q → Listed k q
  listed k q m l r at = let t = table_at tables k l in
      let f = marked (Has k) q (get nat_eq t.0 q) (levels k t.0 t.1 q) m r at in
      record { table = t.0; at = t.1; mark = f.0; has = f.1; found = f.2 }

  -- a node of a page of a table
  pub told_node : (k q : ℕ) (table : IndexMap ℕ Mark S) → slice_get tables k ≡ Some table → is_some (get nat_eq table q) ≡ true
      → (mark : Mark) × (get nat_eq table q ≡ Some mark) × Found (Has k) q mark
  told_node k q table at = by (get nat_eq table q) (levels k table at q)
    where
      by : (o : Option Mark) → Counts (Has k) q o → is_some o ≡ true → (mark : Mark) × (o ≡ Some mark) × Found (Has k) q mark
      by None c e = absurd (true≢false (sym e))
      by (Some mark) c e = (mark, refl, c)
