-- The rules on pages that are attached, initialised, declared or written judge alike.
use Rattle.bbm_rules.proofs.Common.{◌≡◌, ℕ, Bool, cond, not, ◌&&◌, ◌||◌, ◌==◌, List, ◌++◌, Option, Some, None, any, map, option_and_then, option_to_list}
use Rattle.bbm_rules.proofs.Common.{filter}
use Rattle.bbm_rules.proofs.Common.{flat_map, refl, ◌∙◌, ap, desc_of, Desc, Attached, End, all_ends, attached_by}
use Rattle.bbm_rules.proofs.Common.{pages_of, Trust, is_global, if_so, least, repeated, Noted, events_of, is_fresh}
use Rattle.bbm_rules.proofs.Common.{is_null, page_of, Ttbr0, Heading, Event, Init, Null, Root, Write, root_pages}
use Rattle.bbm_rules.proofs.Common.{same_kind, attached_with, bad_ends, bad_kind, global_user, is_contiguous}
use Rattle.bbm_rules.proofs.Common.{judged_ends, made_with, not_fresh, page_in_use, places_with, unfresh}
use Rattle.bbm_rules.proofs.Common.{untracked_page, written_with, Node, held_at, node_of, places_in, value_of}
use Rattle.bbm_rules.proofs.Common.{written_places}
use Rattle.bbm_rules.specs.Mapped.{is_clean, maps, table_pages}
use Rattle.bbm_rules.specs.Prelude.{Kind}
use Rattle.bbm_rules.specs.Rules.{bad_tables, end_over, made_tables, mapped_table, puts_over, table_mapped}
use Rattle.bbm_rules.specs.Rules.{writes_over}
use Rattle.bbm_rules.specs.Tree.{tree}
use Rattle.bbm_alike.proofs.PartsAlike.{same_attached_by, same_node}
use Rattle.bbm_alike.proofs.ListsAlike.{same_any, same_filter, same_flat}

module _ (heading : Heading) (one other : Trust) (h h' : List Noted)
    (values : (place : ℕ) → value_of (events_of h) place ≡ value_of (events_of h') place)
    (places : written_places (events_of h) ≡ written_places (events_of h'))
    (fresh : (page : ℕ) → is_fresh heading one h page ≡ is_fresh heading other h' page)
    (trees : tree heading one h ≡ tree heading other h') where
  same_unfresh : (pages : List ℕ) → unfresh heading one h pages ≡ unfresh heading other h' pages
  same_unfresh pages =
      same_filter (λ page. not (is_fresh heading one h page)) (λ page. not (is_fresh heading other h' page)) pages
      (λ page. ap not (fresh page))

  same_bad_ends : (e : Event) (a : Attached) → bad_ends heading one h e a ≡ bad_ends heading other h' e a
  same_bad_ends e a =
      ap (λ (pages : List ℕ). pages ++ repeated (pages_of (all_ends a))) (same_unfresh (pages_of (judged_ends e a)))

  same_places_with : (test : Kind → Desc → Bool) (kind : Kind) (end : End)
      → places_with test kind (events_of h) end ≡ places_with test kind (events_of h') end
  same_places_with test kind end = simp (values, places)

  same_attached_with : (test : Kind → Desc → Bool) (a : Attached)
      → attached_with test (events_of h) a ≡ attached_with test (events_of h') a
  same_attached_with test a =
      same_flat (places_with test a.kind (events_of h)) (places_with test a.kind (events_of h')) (all_ends a)
      (λ end there. same_places_with test a.kind end)

  same_written_with : (test : Kind → Desc → Bool) (e : Event)
      → written_with heading one h test e ≡ written_with heading other h' test e
  same_written_with test (Write pe place value) =
      ap (option_and_then (λ n. if_so (test n.kind (desc_of n.kind n.level value)) place))
      (same_node heading one other h h' trees (page_of place))
  same_written_with test e = refl

  module _ (nulls : (page : ℕ) → is_null (events_of h) page ≡ is_null (events_of h') page) where
    same_untracked : (e : Event) → untracked_page heading one h e ≡ untracked_page heading other h' e
    same_untracked (Write pe place value) = simp (trees, fresh, nulls)
    same_untracked e = refl

    pub same_page_in_use : (e : Event) → page_in_use heading one h e ≡ page_in_use heading other h' e
    same_page_in_use (Init pe page) = simp (trees, nulls)
    same_page_in_use (Root pe kind lock page) = ap least (same_unfresh (root_pages heading.world kind page))
    same_page_in_use (Null pe page) = simp (fresh, values, places)
    same_page_in_use e = refl

  module _ (held : (n : Node) (place : ℕ) → node_of heading one h (page_of place) ≡ Some n
      → held_at heading one h n place ≡ held_at heading other h' n place) where
    pub same_not_fresh : ((page : ℕ) → is_null (events_of h) page ≡ is_null (events_of h') page)
        → (e : Event) → not_fresh heading one h e ≡ not_fresh heading other h' e
    same_not_fresh nulls e =
        ap (λ (pages : List ℕ). least (pages ++ untracked_page heading one h e))
        (same_flat (bad_ends heading one h e) (bad_ends heading other h' e)
        (option_to_list (attached_by heading one h e)) (λ a there. same_bad_ends e a)
        ∙ ap (λ (o : Option Attached). flat_map (bad_ends heading other h' e) (option_to_list o))
        (same_attached_by heading one other h h' values places fresh trees held e))
        ∙ ap (λ (pages : List ℕ). least (flat_map (bad_ends heading other h' e) (option_to_list (attached_by heading other h' e)) ++ pages))
        (same_untracked nulls e)

    same_made_with : (test : Kind → Desc → Bool) (e : Event)
        → made_with heading one h test e ≡ made_with heading other h' test e
    same_made_with test e =
        ap (λ (o : Option ℕ). least (option_to_list o
        ++ flat_map (attached_with test (events_of h)) (option_to_list (attached_by heading one h e)))) (same_written_with test e)
        ∙ ap (λ (pages : List ℕ). least (option_to_list (written_with heading other h' test e) ++ pages))
        (same_flat (attached_with test (events_of h)) (attached_with test (events_of h'))
        (option_to_list (attached_by heading one h e)) (λ a there. same_attached_with test a)
        ∙ ap (λ (o : Option Attached). flat_map (attached_with test (events_of h')) (option_to_list o))
        (same_attached_by heading one other h h' values places fresh trees held e))

    pub same_bad_kind : (e : Event) → bad_kind heading one h e ≡ bad_kind heading other h' e
    same_bad_kind e = same_made_with is_contiguous e

    pub same_global_user : (e : Event) → global_user heading one h e ≡ global_user heading other h' e
    same_global_user e = same_made_with (λ kind desc. same_kind kind Ttbr0 && is_global desc) e

    -- ---- table pages

    same_end_over : (kind : Kind) (page : ℕ) (end : End) → end_over heading one h kind page end ≡ end_over heading other h' kind page end
    same_end_over kind page end =
        same_any (λ (place : ℕ). maps kind end.level (value_of (events_of h) place) page)
        (λ (place : ℕ). maps kind end.level (value_of (events_of h') place) page) (places_in (events_of h) end.page)
        (λ place there. ap (λ (v : ℕ). maps kind end.level v page) (values place))
        ∙ ap (λ (written : List ℕ). any (λ (place : ℕ). maps kind end.level (value_of (events_of h') place) page)
        (filter (λ (x : ℕ). page_of x == end.page) written)) places

    same_writes_over : (e : Event) (page : ℕ) → writes_over heading one h e page ≡ writes_over heading other h' e page
    same_writes_over (Write pe place value) page =
        ap (λ (o : Option Node). any (λ (n : Node). maps n.kind n.level value page) (option_to_list o))
        (same_node heading one other h h' trees (page_of place))
    same_writes_over e page = refl

    same_puts_over : (e : Event) (page : ℕ) → puts_over heading one h e page ≡ puts_over heading other h' e page
    same_puts_over e page =
        ap (λ (b : Bool). b || any (λ (a : Attached). any (end_over heading one h a.kind page) (all_ends a))
        (option_to_list (attached_by heading one h e))) (same_writes_over e page)
        ∙ ap (λ (b : Bool). writes_over heading other h' e page || b)
        (same_any (λ (a : Attached). any (end_over heading one h a.kind page) (all_ends a))
        (λ (a : Attached). any (end_over heading other h' a.kind page) (all_ends a)) (option_to_list (attached_by heading one h e))
        (λ a there. same_any (end_over heading one h a.kind page) (end_over heading other h' a.kind page) (all_ends a)
        (λ end inside. same_end_over a.kind page end))
        ∙ ap (λ (o : Option Attached). any (λ (a : Attached). any (end_over heading other h' a.kind page) (all_ends a)) (option_to_list o))
        (same_attached_by heading one other h h' values places fresh trees held e))

    module _ (clean : (page : ℕ) → is_clean heading one h page ≡ is_clean heading other h' page) where
      same_bad_tables : (e : Event) → bad_tables heading one h e ≡ bad_tables heading other h' e
      same_bad_tables e =
          ap (λ (pages : List ℕ). filter (puts_over heading one h e) (pages ++ made_tables heading one h e)
          ++ filter (λ (page : ℕ). not (is_clean heading one h page)) (made_tables heading one h e))
          (ap (λ (ns : List Node). map (λ (n : Node). n.page) ns) trees)
          ∙ ap (λ (made : List ℕ). filter (puts_over heading one h e) (table_pages heading other h' ++ made)
          ++ filter (λ (page : ℕ). not (is_clean heading one h page)) made)
          (ap (λ (o : Option Attached). flat_map (λ (a : Attached). pages_of (all_ends a)) (option_to_list o)) (same_attached_by heading one other h h' values places fresh trees held e))
          ∙ ap (λ (pages : List ℕ). pages ++ filter (λ (page : ℕ). not (is_clean heading one h page)) (made_tables heading other h' e))
          (same_filter (puts_over heading one h e) (puts_over heading other h' e)
          (table_pages heading other h' ++ made_tables heading other h' e) (same_puts_over e))
          ∙ ap (λ (pages : List ℕ). filter (puts_over heading other h' e) (table_pages heading other h' ++ made_tables heading other h' e) ++ pages)
          (same_filter (λ (page : ℕ). not (is_clean heading one h page)) (λ (page : ℕ). not (is_clean heading other h' page))
          (made_tables heading other h' e) (λ page. ap not (clean page)))

      same_mapped_table : (e : Event) → mapped_table heading one h e ≡ mapped_table heading other h' e
      same_mapped_table e = ap (λ (pages : List ℕ). cond heading.words.isolated (least pages) None) (same_bad_tables e)

      pub same_table_mapped : (e : Event) → table_mapped heading one h e ≡ table_mapped heading other h' e
      same_table_mapped (Write pe place value) = same_mapped_table (Write pe place value)
      same_table_mapped (Root pe kind lock page) = same_mapped_table (Root pe kind lock page)
      same_table_mapped e = refl
