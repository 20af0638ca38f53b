use Rattle.bbm_replay.proofs.Common.{Path, notes, asks_childless, asks_tags, view_of}
use Rattle.bbm_rules.proofs.Common.{◌≡◌, ℕ, true, false, Option, Some, is_some, sym, ◌∙◌, ap, subst, core_of, desc_of}
use Rattle.bbm_rules.proofs.Common.{Core, names_some, has_page, Patterns, tag_set, tags_of, is_childless, region_of}
use Rattle.bbm_rules.proofs.Common.{same_truth}
use Rattle.bbm_replay.specs.Covering.{Mismatches}
use Rattle.bbm_tlbi_scope.specs.ScopeCovers as scopes
use Rattle.bbm_replay.proofs.Asking.{alike, mismatched}
use Rattle.bbm_replay.proofs.Found.{low_path}
use Rattle.bbm_replay.proofs.SamePage.{by_path, global_is, table_is, by_view, covers_as, held, view_covers}
use Rattle.bbm_replay.proofs.Skips.{place_unnamed}
use Rattle.bbm_replay.proofs.Writing.{cores}
use Rattle.bbm_replay.proofs.tlbi_cover.Covering.cover_by_table.Goals as goal

pub returns-then-not-names_some : goal.returns-then-not-names_some
returns-then-not-names_some c over heading h pe op xt issued =
    let m = issued.1 in
    let by = c.args.self.now in
    let place = c.args.place in
    let n = c.requires.path.0 in
    let paged : has_page by.named.now.scope.family ≡ true = sym c.has_page.ensures ∙ c.if-has_page.true in
    let none : names_some by.named.now.scope.interval c.args.path.now.region ≡ false
    = sym c.names_some.ensures ∙ c.if-not-names_some.true in
    sym (place_unnamed (c.law_notes_keep_the_events.ensures heading Patterns h) m paged n place c.requires.path.1
    (sym (ap (λ (y : Path). names_some by.named.now.scope.interval y.region) c.requires.path.2) ∙ none))

pub returns-in_default : goal.returns-in_default
returns-in_default c over heading h pe op xt issued =
    let m = issued.1 in
    let by = c.args.self.now in
    let place = c.args.place in
    let named = by.named.now in
    let n = c.requires.path.0 in
    let is = c.requires.path.1 in
    let at = c.requires.path.2 in
    let ev = c.law_notes_keep_the_events.ensures heading Patterns h in
    let v = held ev m n place is over.0 over.1 in
    let none = c.tags.ensures.none c.in_default.is in
    let miss : Mismatches named (tag_set (tags_of heading Patterns n.root h))
    = subst (λ (y : Path). Mismatches named (tag_set (tags_of heading Patterns y.first h))) at
    (none.1 heading h m.stands) in
    sym (mismatched named.scope named.vmid (by_view ev m place n v.0)
    (ap (λ (y : Path). asks_tags named.scope.family y.kind) (sym at) ∙ none.0) miss.0 miss.1)
    ∙ view_covers ev m n place v.0 is v.1

pub is_childless-requires : goal.is_childless-requires
is_childless-requires c = low_path c.args.self.now.index.now c.args.place c.args.path.now c.requires.path

pub returns : goal.returns
returns c over heading h pe op xt issued =
    let m = issued.1 in
    let map = c.args.map.now in
    let index = c.args.self.now.index.now in
    let scope = c.args.self.now.named.now.scope in
    let vmid = c.args.self.now.named.now.vmid in
    let place = c.args.place in
    let view = view_of map index in
    let n = c.requires.path.0 in
    let is = c.requires.path.1 in
    let at = c.requires.path.2 in
    let core = c.args.core.now in
    let ev = c.law_notes_keep_the_events.ensures heading Patterns h in
    let value = held ev m n place is over.0 over.1 in
    let found : core_of n.kind n.level value.0 ≡ Some core = value.2 ∙ ap (λ (k : Core). Some k) over.2 in
    let law = c.law_childless_by_cores.ensures heading h view n place value.0 m.told.kept m.told.fit
    m.told.nodes (cores m.told) is value.1 in
    let childless = is_childless heading Patterns (notes heading h) n value.0 in
    let tags = tag_set (tags_of heading Patterns n.root h) in
    let table = c.is_some-table.result in
    let same_childless : asks_childless scope table ≡ true → c.is_childless.result ≡ childless
    = λ asked. let inside = c.is_childless.ensures asked n at in
    same_truth c.is_childless.result childless (λ k. law.1 (inside.0 k)) (λ k. inside.1 (law.0 k)) in
    let same_tags : asks_tags scope.family n.kind ≡ true → c.in-Some.tags ≡ tags
    = λ asked. c.in-Some.ensures.told (ap (λ (y : Path). asks_tags scope.family y.kind) at ∙ asked) heading h m.stands
    ∙ ap (λ (y : Path). tag_set (tags_of heading Patterns y.first h)) at in
    c.cover.ensures
    ∙ ap (λ (y : Path). scopes.cover_of scope vmid
    (by_path y table c.is_global.result c.is_childless.result c.in-Some.tags)) at
    ∙ alike scope vmid n.kind (region_of n place) n.level table c.is_global.result
    c.is_childless.result childless c.in-Some.tags tags same_childless same_tags
    ∙ covers_as ev m n place value.0 is value.1 table c.is_global.result
    (c.is_some-table.ensures ∙ ap (λ (o : Option ℕ). is_some o) c.next_of.ensures
    ∙ table_is (desc_of n.kind n.level value.0) core found)
    (c.is_global.ensures ∙ global_is (desc_of n.kind n.level value.0) core found)
