use Rattle.bbm_roots.proofs.Common.{◌∙◌, ◌&&◌, ◌||◌, nat_eq, ap, rules, Bool, Some, None, tag_key, tag_in}
use Rattle.bbm_roots.proofs.Common.{is_held_under, and-false}
use Rattle.std.proofs.lemmas.Option.{IfSome_then}
use Rattle.bbm_roots.proofs.Tests.{tags-same}
use Rattle.bbm_roots.proofs.TagLists.{keyed}
use Rattle.bbm_roots.proofs.search.with_key.Goals as goal

pub returns-in-Some-clause-added : goal.returns-in-Some-clause-added
returns-in-Some-clause-added c =
    let n = c.args.n in
    let root = c.args.root in
    let hs = c.args.holds.now in
    let key = c.args.key in
    let x = c.in-Some.held.now in
    IfSome_then c.with_entry.result c.with_entry.ensures.added (λ more added test h.
    tags-same (λ g. test g || is_held_under n g root key x)
    (λ g. test g || (nat_eq (tag_key g) key && tag_in hs n g root))
    (λ g. ap (λ (b : Bool). test g || b) (keyed hs n root g key (Some x) (search rules))) more (added test h))

pub returns-in-Some-clause-none : goal.returns-in-Some-clause-none
returns-in-Some-clause-none c = λ none g.
    keyed c.args.holds.now c.args.n c.args.root g c.args.key (Some c.in-Some.held.now) (search rules)
    ∙ c.with_entry.ensures.none none g

pub returns-in-None-clause-none : goal.returns-in-None-clause-none
returns-in-None-clause-none c = λ none g.
    keyed c.args.holds.now c.args.n c.args.root g c.args.key None (search rules)
    ∙ and-false (nat_eq (tag_key g) c.args.key)
