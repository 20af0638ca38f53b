use Rattle.bbm_rules.proofs.Common.{◌≡◌, ℕ, true, false, ◌&&◌, not, nat_le, nat_lt, Option, Some, Core, sym, ◌∙◌, ap}
use Rattle.bbm_rules.proofs.Common.{is_some, subst}
use Rattle.bbm_tree_index.specs.Index.{node_in}
use Rattle.bbm_page_map.specs.PageLists.{number_in}
use Rattle.bbm_place_map.specs.Map.{IsPosition, pages_of}
use Rattle.bbm_rules.specs.Mapped.{maps}
use Rattle.bbm_tree_index.specs.Attaching.{Never}
use Rattle.bbm_tree_index.specs.Outputs.{core_maps}
use Rattle.std.proofs.Common.{List}
use Rattle.std.specs.Prelude.{IfSome}
use Rattle.bbm_replay.specs.Guarded.{Becomes, CoversValue, IsOver}
use Rattle.bbm_unmapped.specs.Unmapped.{SharesPages, free_in, may_map}
use Rattle.bbm_unmapped.specs.declared.unmapped.Unmapped.{Unmapped}
use Rattle.bbm_replay.proofs.Guarding.{becomes, covers_nothing, if_kept, never_over}
use Rattle.bbm_replay.proofs.guard.cover_leaf.Goals as goal

pub returns-in_default-outputs_of : goal.returns-in_default-outputs_of
returns-in_default-outputs_of c =
    let kind = c.args.read.kind in
    let level = c.args.read.level in
    let place = c.args.position.place in
    let value = c.args.value in
    let none : (page : ℕ) → maps kind level value page ≡ false
    = λ page. sym (c.law_core_maps.ensures kind level value page)
    ∙ sym (ap (λ (o : Option Core). core_maps kind level o page) c.core.ensures.value)
    ∙ sym (c.in_default-outputs_of.ensures page) in (
      if_kept c.args.kept.now (Never (IsOver kind level place value c.args.index.now))
          (never_over kind level place value c.args.index.now none),
      subst (λ (x : Option Unmapped). Becomes (CoversValue kind level place value) x (Some c.in-Some.unmapped))
          (sym c.in-Some.is) (covers_nothing kind level place value none (Some c.in-Some.unmapped)),
    )

pub put_leaf-requires : goal.put_leaf-requires
unfolding IsPosition
put_leaf-requires c =
    let shares : SharesPages c.in-Some.unmapped c.args.index.now
    = subst (λ (x : Option Unmapped). IfSome x (λ u. SharesPages u c.args.index.now)) c.in-Some.is c.requires.pages in record {
      shares = c.requires.shares;
      pages = shares;
      table = ap (λ (ps : List ℕ). number_in ps c.page.result) (shares ∙ sym c.requires.shares)
          ∙ ap (λ (p : ℕ). number_in (pages_of c.args.map.now) p) c.page.ensures ∙ c.requires.position;
      free = subst (λ (x : Option Unmapped). IfSome x
          (λ u. (p : ℕ) → is_some (node_in c.args.index.now p) ≡ true → free_in u p ≡ true)) c.in-Some.is c.requires.tables;
    }

pub returns-in-None : goal.returns-in-None
returns-in-None c =
    let kind = c.args.read.kind in
    let level = c.args.read.level in
    let place = c.args.position.place in
    let value = c.args.value in
    let outputs = c.in-Some-outputs_of.outputs in
    let same : (page : ℕ) → (nat_le outputs.first page && nat_lt page outputs.behind) ≡ maps kind level value page
    = λ page. c.in-Some-outputs_of.ensures page ∙ ap (λ (o : Option Core). core_maps kind level o page) c.core.ensures.value
    ∙ c.law_core_maps.ensures kind level value page in
    let e = c.put_leaf.ensures in (
      if_kept c.args.kept.now (Never (IsOver kind level place value c.args.index.now))
          (λ page over. c.in-None.ensures.least page (same page ∙ over.0, over.1)),
      becomes (CoversValue kind level place value) c.args.kept.now c.in-Some.unmapped c.put_leaf.new.self c.in-Some.is (
        e.pages,
        record {
          free = λ page. e.free c.in-None.is page ∙ ap (λ b. free_in c.in-Some.unmapped page && not b) (same page);
          grows = e.grows;
          own = λ page over. subst (λ (table : ℕ). may_map c.put_leaf.new.self table page ≡ true) c.page.ensures
              (e.own c.in-None.is page (same page ∙ over));
        },
      ),
    )
