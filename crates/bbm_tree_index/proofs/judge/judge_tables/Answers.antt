use Rattle.bbm_tree_index.proofs.Common.{IndexMap, HasPlace, IsUnfresh, LeafPlace, LeastOf, Told, WrongPage, Contiguous}
use Rattle.bbm_tree_index.proofs.Common.{UserGlobal, Mark, is_bad, is_user_global}
use Rattle.bbm_rules.proofs.Common.{◌≡◌, ℕ, None, Some, List, Bool, refl, subst, Option, Desc, Kind, Node}
use Rattle.bbm_tree_index.proofs.Judging.{leaf_of, of_leaf, of_wrong, wrong_of}
use Rattle.bbm_tree_index.proofs.Leasts.{least_same}
use Rattle.bbm_tree_index.proofs.judge.judge_tables.Goals as goal

module _ {S : Type 0} {tables : List (IndexMap ℕ Mark S)} {fresh : ℕ → Bool} {value : ℕ → ℕ} {starts : List Node} {kind : Kind}
    {level : ℕ} (told : Told tables fresh value starts kind level) (o r : Option ℕ) (e : o ≡ r) where
  pages : (named : Bool) → LeastOf (WrongPage tables fresh named) o → LeastOf (IsUnfresh fresh value starts named) r
  pages named h = least_same (WrongPage tables fresh named) (IsUnfresh fresh value starts named) r (of_wrong told named)
      (wrong_of told named) (subst (LeastOf (WrongPage tables fresh named)) e h)

  leaves : (test : Kind → Desc → Bool) → LeastOf (LeafPlace tables value test kind level) o → LeastOf (HasPlace fresh value starts test) r
  leaves test h = least_same (LeafPlace tables value test kind level) (HasPlace fresh value starts test) r (of_leaf told test)
      (leaf_of told test) (subst (LeastOf (LeafPlace tables value test kind level)) e h)

pub returns-in-Some : goal.returns-in-Some
returns-in-Some c = λ starts told. pages told c.least_wrong.result (Some c.in-Some.page) c.in-Some.is c.args.named c.least_wrong.ensures

pub returns-then-are_harmless : goal.returns-then-are_harmless
returns-then-are_harmless c = λ starts told. (
  pages told c.least_wrong.result None c.in_default.is c.args.named c.least_wrong.ensures,
  leaves told None None refl is_bad (c.are_harmless.ensures c.if-are_harmless.true Contiguous),
  leaves told None None refl is_user_global (c.are_harmless.ensures c.if-are_harmless.true UserGlobal),
)

pub returns-in-Some-least_leaf : goal.returns-in-Some-least_leaf
returns-in-Some-least_leaf c = λ starts told. (
  pages told c.least_wrong.result None c.in_default.is c.args.named c.least_wrong.ensures,
  leaves told c.least_leaf.result (Some c.in-Some-least_leaf.place) c.in-Some-least_leaf.is is_bad c.least_leaf.ensures,
)

pub returns-in-Some-least_leaf-2 : goal.returns-in-Some-least_leaf-2
returns-in-Some-least_leaf-2 c = λ starts told. (
  pages told c.least_wrong.result None c.in_default.is c.args.named c.least_wrong.ensures,
  leaves told c.least_leaf.result None c.in_default-least_leaf.is is_bad c.least_leaf.ensures,
  leaves told c.least_leaf-2.result (Some c.in-Some-least_leaf-2.place) c.in-Some-least_leaf-2.is is_user_global c.least_leaf-2.ensures,
)

pub returns : goal.returns
returns c = λ starts told. (
  pages told c.least_wrong.result None c.in_default.is c.args.named c.least_wrong.ensures,
  leaves told c.least_leaf.result None c.in_default-least_leaf.is is_bad c.least_leaf.ensures,
  leaves told c.least_leaf-2.result None c.in_default-least_leaf-2.is is_user_global c.least_leaf-2.ensures,
)
