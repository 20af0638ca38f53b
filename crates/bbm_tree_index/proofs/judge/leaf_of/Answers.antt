use Rattle.bbm_tree_index.proofs.Common.{asks, value_at}
use Rattle.bbm_rules.proofs.Common.{◌≡◌, ℕ, ◌+◌, ◌*◌, Bool, false, ap, sym, ◌∙◌, desc_of}
use Rattle.std.proofs.Common.{below_more}
use Rattle.bbm_tree_index.proofs.Blank.{no_leaf}
use Rattle.bbm_tree_index.proofs.Wrongs.{first_leaf, no_leaves}
use Rattle.bbm_tree_index.proofs.judge.leaf_of.Goals as goal

pub returns-then-is_blank : goal.returns-then-is_blank
returns-then-is_blank c =
    no_leaf (value_at c.args.map.now) c.args.page (λ a at. (c.is_blank.ensures.blank.0 c.if-is_blank.true a at).0)
    c.args.leaf.now c.args.kind c.args.level

pub loop-index-preserved : goal.loop-index-preserved
loop-index-preserved c = let value = value_at c.args.map.now in let i = c.loop-index.index in
    let passes : ℕ → Bool = λ v. asks c.args.leaf.now c.args.kind (desc_of c.args.kind c.args.level v) in
    below_more (λ j. passes (value (c.args.page + 8 * j)) ≡ false) i c.loop-index.invariant
    (ap passes (sym (c.value_from.ensures ∙ ap (λ s. value (s + 8 * i)) c.first_position-position.ensures.place))
    ∙ sym c.is_leaf.ensures ∙ c.if-is_leaf.false)

pub returns-then-is_leaf : goal.returns-then-is_leaf
returns-then-is_leaf c = let value = value_at c.args.map.now in let i = c.loop-index.index in let at = c.place_of.ensures.place in
    first_leaf value (asks c.args.leaf.now) c.args.kind c.args.level c.args.page i c.loop-index.invariant c.place_of.result at
    c.place_of.ensures.inside (ap (λ v. asks c.args.leaf.now c.args.kind (desc_of c.args.kind c.args.level v))
    (ap value at ∙ sym (c.value_from.ensures ∙ ap (λ s. value (s + 8 * i)) c.first_position-position.ensures.place))
    ∙ sym c.is_leaf.ensures ∙ c.if-is_leaf.true)

pub returns : goal.returns
returns c =
    no_leaves (value_at c.args.map.now) (asks c.args.leaf.now) c.args.kind c.args.level c.args.page c.loop-index.index
    c.loop-index.invariant c.loop-index-test.false
