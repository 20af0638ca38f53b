use Rattle.std.proofs.Common.{◌≡◌, ◌/◌, ◌∙◌, ◌^◌, ap, arith}
use Rattle.bbm_page_map.proofs.Leading.{number_small, number_told, page_fits}
use Rattle.bbm_page_map.specs.PageLists.{entry_of}
use Rattle.bbm_page_map.specs.SlotNodes.{reached}
use Rattle.bbm_page_map.proofs.numbers.PageNumbers.number.Goals as goal

pub find-requires-clause-fits : goal.find-requires-clause-fits
find-requires-clause-fits c = page_fits c.get.result (omega (arith, c.get.ensures.value, c.get.ensures.below))

pub of_slot-requires : goal.of_slot-requires
of_slot-requires c =
    let found : c.find.result ≡ reached c.self.inside.slots.items 5 (c.args.page / 4096) =
    c.find.ensures ∙ (λ j. reached (c.deref.ensures.value j) 5 (c.get.ensures.value j / 4096)) in
    omega (
      arith,
      found,
      number_small c.self.inside.slots.items c.self.inside.pages.items c.self.invariant.leads
          c.args.page c.get.ensures.below c.get.ensures.aligned (2 ^ 22) c.self.invariant.few,
    )

pub returns : goal.returns
returns c =
    let found : c.find.result ≡ reached c.self.inside.slots.items 5 (c.args.page / 4096) =
    c.find.ensures ∙ (λ j. reached (c.deref.ensures.value j) 5 (c.get.ensures.value j / 4096)) in
    rw (← c.self.view_is)
    (c.of_slot.ensures ∙ ap entry_of found
    ∙ number_told c.self.inside.slots.items c.self.inside.pages.items c.self.invariant.leads c.args.page
    c.get.ensures.below c.get.ensures.aligned)
