use Rattle.bbm_replay.proofs.Common.{Path, notes}
use Rattle.bbm_rules.proofs.Common.{◌≡◌, ℕ, false, Option, Some, is_some, refl, sym, ◌∙◌, ap, Patterns, tag_set}
use Rattle.bbm_rules.proofs.Common.{tags_of, core_of, desc_of, Core, is_childless, is_global, next_of}
use Rattle.bbm_tlbi_scope.specs.ScopeCovers as scopes
use Rattle.bbm_replay.proofs.SamePage.{by_path, table_is, covers_as, held}
use Rattle.bbm_replay.proofs.tlbi_cover.Covering.cover_of.Goals as goal

pub returns-in-Some : goal.returns-in-Some
returns-in-Some c over heading h pe op xt issued =
    let m = issued.1 in
    let by = c.args.self.now in
    let scope = by.named.now.scope in
    let vmid = by.named.now.vmid in
    let place = c.args.place in
    let n = c.requires.path.0 in
    let is = c.requires.path.1 in
    let at = c.requires.path.2 in
    let core = c.args.core.now in
    let ev = c.law_notes_keep_the_events.ensures heading Patterns h in
    let value = held ev m n place is over.0 over.1 in
    let found : core_of n.kind n.level value.0 ≡ Some core = value.2 ∙ ap (λ (k : Core). Some k) over.2 in
    let global = is_global (desc_of n.kind n.level value.0) in
    let childless = is_childless heading Patterns (notes heading h) n value.0 in
    let leaf : is_some (next_of n.kind n.level value.0) ≡ false
    = sym (table_is (desc_of n.kind n.level value.0) core found)
    ∙ sym (c.is_some-table.ensures ∙ ap (λ (o : Option ℕ). is_some o) c.next_of.ensures) ∙ c.if-not-table.true in
    c.in-Some.ensures heading h m.stands global childless
    ∙ ap (λ (y : Path). scopes.cover_of scope vmid
    (by_path y false global childless (tag_set (tags_of heading Patterns y.first h)))) at
    ∙ covers_as ev m n place value.0 is value.1 false global (sym leaf) refl
