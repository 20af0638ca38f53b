-- Pages of trees, and the numbers that they share.
use Rattle.bbm_unmapped.proofs.Common.{IsLeast, IsUnder, LeastOf, Outputs, Standing, TreeIndex, Unmapped, get, in_outputs, index_map_len}
use Rattle.bbm_unmapped.specs.Unmapped.{pages_in}
use Rattle.bbm_tree_index.specs.Index.{node_in}
use Rattle.bbm_rules.proofs.Common.{◌≡◌, ℕ, ◌≤◌, ◌%◌, ◌==◌, true, false, Option, Some, None, is_some, length, nat_eq}
use Rattle.bbm_rules.proofs.Common.{slice_get, slice_get_within, sym, ap, ◌∙◌, arith, true≢false, eqb-true, refl, unwrap_or}
use Rattle.bbm_rules.proofs.Common.{List, Node, eq-eqb, option_map, same_Some}
use Rattle.std.proofs.lemmas.Cmp.{nat_eq_equiv}
use Rattle.bbm_tree_index.proofs.Leasts.{least_same}
use Rattle.bbm_tree_index.proofs.Wrongs.{key_at}
use Rattle.bbm_tree_index.specs.Index as tree
use Rattle.bbm_tree_index.specs.Index.{heading_of, role_in}
use Rattle.bbm_tree_index.specs.IndexAgreement.{is_sound}
use Rattle.bbm_tree_index.specs.LeastPages.{Before}
use Rattle.bbm_tree_index.specs.Nodes.{node_with}
use Rattle.bbm_tree_index.specs.declared.role.Role.{Role}
use Rattle.bbm_tree_index.specs.declared.role.Role.TheVariants.{Untracked}
use Rattle.bbm_unmapped.proofs.Columns.{len_is}

-- a page of a tree was tracked
pub tree_known : (index : TreeIndex) (p : ℕ) → is_some (node_in index p) ≡ true → tree.known_in index p ≡ true
unfolding node_in role_in tree.known_in
tree_known index p e = by (get nat_eq index.roles p) e
  where
    by : (o : Option Role) → is_some (node_with (role_in index) (heading_of index) p (unwrap_or o Untracked)) ≡ true → is_some o ≡ true
    by None h = h
    by (Some role) h = refl

pub tree_aligned : (index : TreeIndex) (p : ℕ) → is_some (node_in index p) ≡ true → p % 4096 ≡ 0
tree_aligned index p e = ((is_sound index).pages p (tree_known index p e)).1

-- it stands somewhere
pub tree_at : (index : TreeIndex) (p : ℕ) → is_some (node_in index p) ≡ true → (k : ℕ) × (slice_get (tree.pages_in index) k ≡ Some p)
unfolding tree.known_in tree.pages_in
tree_at index p e = let k = key_at index.roles p (tree_known index p e) in (k.0, k.2)

-- how many pages there are
pub count_is : (unmapped : Unmapped) → length (pages_in unmapped) ≡ index_map_len unmapped.pages
unfolding pages_in
count_is unmapped = len_is unmapped.pages

-- outputs with one page alone
module _ (index : TreeIndex) (outputs : Outputs) (only : ℕ)
    (alone : (page : ℕ) → page % 4096 ≡ 0 → in_outputs outputs page ≡ (page == only)) where
  pub only_table : is_some (node_in index only) ≡ true → LeastOf (IsUnder index outputs) (Some only)
  only_table there = record {
    that = (alone only (tree_aligned index only there) ∙ nat_eq_equiv.refl only, there);
    least = λ m u. let same : m ≡ only = eqb-true m only (sym (alone m (tree_aligned index m u.1)) ∙ u.0) in omega (arith, same);
  }

  pub only_none : is_some (node_in index only) ≡ false → LeastOf (IsUnder index outputs) None
  only_none none = λ m u. let same : m ≡ only = eqb-true m only (sym (alone m (tree_aligned index m u.1)) ∙ u.0) in
      true≢false (sym u.1 ∙ ap (λ (p : ℕ). is_some (node_in index p)) same ∙ none)

-- a page of a tree among outputs, by its number
abbrev pub TableAt : Unmapped → TreeIndex → Outputs → ℕ → ℕ → Type 0
TableAt unmapped index outputs number page = (slice_get (pages_in unmapped) number ≡ Some page) × IsUnder index outputs page

pub all_tables : (unmapped : Unmapped) (index : TreeIndex) (outputs : Outputs) (n : ℕ) (o : Option ℕ)
    → pages_in unmapped ≡ tree.pages_in index → length (pages_in unmapped) ≤ n
    → LeastOf (Before (TableAt unmapped index outputs) n) o → LeastOf (IsUnder index outputs) o
all_tables unmapped index outputs n o shares end = least_same (Before (TableAt unmapped index outputs) n) (IsUnder index outputs) o
    (λ p b. b.that.1)
    (λ p u. let k = tree_at index p u.1 in let at = ap (λ ps. slice_get ps k.0) shares ∙ k.1 in
    record { index = k.0; below = omega (arith, slice_get_within (pages_in unmapped) k.0 p at, end); that = (at, u) })

-- how the page with a number is read tells whether it is in a tree
pub standing_is : (index : TreeIndex) (ps : List ℕ) (n page at : ℕ) (o : Option Standing) → ps ≡ tree.pages_in index
    → slice_get ps n ≡ Some page → slice_get (tree.pages_in index) n ≡ Some at
    → o ≡ option_map (λ (m : Node). record { kind = m.kind; level = m.level }) (node_in index at)
    → is_some (node_in index page) ≡ is_some o
standing_is index ps n page at o shares here there stands =
    by (node_in index page) ∙ ap (λ (p : ℕ). is_some (read (node_in index p))) same ∙ sym (ap (λ (x : Option Standing). is_some x) stands)
  where
    read : Option Node → Option Standing
    read o = option_map (λ (m : Node). record { kind = m.kind; level = m.level }) o

    same : page ≡ at
    same = same_Some page at (sym here ∙ ap (λ (xs : List ℕ). slice_get xs n) shares ∙ there)

    by : (o : Option Node) → is_some o ≡ is_some (read o)
    by None = refl
    by (Some m) = refl

-- the page, where it is in a tree
module _ (index : TreeIndex) (page : ℕ) where
  abbrev pub IsTable : ℕ → Type 0
  IsTable p = (p ≡ page) × (is_some (node_in index p) ≡ true)

  pub one_table : is_some (node_in index page) ≡ true → IsLeast IsTable page
  one_table there = record { that = (refl, there); least = λ m u. omega (arith, u.0) }

  pub no_table : is_some (node_in index page) ≡ false → (m : ℕ) → IsTable m → ⊥
  no_table none m u = true≢false (sym u.1 ∙ ap (λ (p : ℕ). is_some (node_in index p)) u.0 ∙ none)

  -- it is the one page among outputs
  pub only_tables : (outputs : Outputs) (o : Option ℕ)
      → ((p : ℕ) → p % 4096 ≡ 0 → in_outputs outputs p ≡ (p == page)) → LeastOf IsTable o → LeastOf (IsUnder index outputs) o
  only_tables outputs o alone = least_same IsTable (IsUnder index outputs) o
      (λ p u. (alone p (tree_aligned index p u.1) ∙ eq-eqb p page u.0, u.1))
      (λ p u. (eqb-true p page (sym (alone p (tree_aligned index p u.1)) ∙ u.0), u.1))
