use Rattle.bbm_rules.proofs.Common.{◌≡◌, List, [], ◌∷◌, ℕ, Some, None, Option, arith, refl, rules, El2, true, false}
use Rattle.bbm_rules.proofs.Common.{and_parts, base_of, is_none, is_null, option_map_or, Heading, Event, Init, Root}
use Rattle.bbm_rules.proofs.Common.{Breach, Patterns, keeps}
use Rattle.bbm_rules.specs.Broken.{broken}
use Rattle.bbm_roots.specs.RootRegisters.{has_null_base}
use Rattle.bbm_state_tests.proofs.example.first_root.Goals as goal

-- the two events break no rule
none-broken : (o : Option Breach) → is_none o ≡ true → o ≡ None
none-broken None e = refl
none-broken (Some b) e = absurd (cc)

module _ (heading : Heading) (page : ℕ) where
  abbrev made : List Event
  made = Init 0 page ∷ []

  abbrev declared : List Event
  declared = Root 0 El2 None page ∷ made

  no-null : (value : ℕ) → false ≡ has_null_base declared value
  no-null value = by (base_of value)
    where
      by : (base : Option ℕ) → false ≡ option_map_or (λ b. is_null declared b) base false
      by None = refl
      by (Some b) = refl

  module _ (kept : keeps heading Patterns declared ≡ true) where
    both : (keeps heading Patterns made ≡ true) × (is_none (broken heading Patterns made (Root 0 El2 None page)) ≡ true)
    both = and_parts (keeps heading Patterns made) (is_none (broken heading Patterns made (Root 0 El2 None page))) kept

    root : broken heading Patterns made (Root 0 El2 None page) ≡ None
    root = none-broken _ both.1

    init : broken heading Patterns [] (Init 0 page) ≡ None
    init = none-broken _ (and_parts true (is_none (broken heading Patterns [] (Init 0 page))) both.0).1

pub write_reg-requires : goal.write_reg-requires
write_reg-requires c =
    let heading = c.args.header.now in
    let page = c.args.page in
    let pe : c.unwrap-pe.result ≡ 0 = search rules in
    let some = c.pe_count-pes.ensures in (
      heading,
      declared heading page,
      c.declare.ensures 0 heading (made heading page) (c.in_ok-prepare.ensures.kept.same heading (made heading page)
          (c.law_others.ensures c.in-Ok.roots heading [] (Init 0 page) c.in-Ok.ensures.empty refl (init heading page c.requires)))
          (root heading page c.requires),
      omega (arith, pe, some),
    )

pub returns : goal.returns
returns c =
    let heading = c.args.header.now in
    let page = c.args.page in
    let pe : c.unwrap-pe.result ≡ 0 = search rules in
    let base : c.get.result ≡ c.args.page = c.get.ensures.value in
    rw (pe, base) at (c.in_ok-write_reg.ensures.taken.taken heading (declared heading page)
    (c.declare.ensures 0 heading (made heading page) (c.in_ok-prepare.ensures.kept.same heading (made heading page)
    (c.law_others.ensures c.in-Ok.roots heading [] (Init 0 page) c.in-Ok.ensures.empty refl (init heading page c.requires)))
    (root heading page c.requires))
    (no-null heading page c.get.result))
