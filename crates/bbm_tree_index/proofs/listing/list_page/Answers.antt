use Rattle.bbm_rules.proofs.Common.{◌∙◌, Some, ap, on_ok_weaker, sym}
use Rattle.std.specs.Option.{option_map}
use Rattle.bbm_tree_index.specs.Listing.{listed_by}
use Rattle.bbm_tree_index.proofs.Listed.{adds_pushed}
use Rattle.bbm_tree_index.proofs.listing.list_page.Goals as goal

pub returns-in-Some : goal.returns-in-Some
returns-in-Some c = let page = c.args.page in let e = c.standing-standing.ensures in
    on_ok_weaker c.push_page.result
    (adds_pushed (listed_by c.args.header.now page c.args.mark.now.role) (record { page = page; standing = c.standing-standing.result })
    c.args.pages.now.items c.push_page.new.pages.items
    (ap (λ o. option_map (λ s. record { page = page; standing = record { kind = s.kind; level = s.level } }) o) (sym c.in-Some.ensures)
    ∙ (λ i. Some (record { page = page; standing = record { kind = sym e.kind i; level = sym e.level i } })))) c.push_page.ensures
