-- The eighteen rules. Each says whether an event breaks it after h, the annotated history, newest first: None where
-- it doesn't, else the number that is reported as `at`, an address, or the number of a PE or a lock. The sentences
-- are those of docs/RULES.md. Source: project's own choice, but for rule 4.
use Rattle.std.specs.Result.{result_ok}
use Rattle.std.specs.Prelude.{ℕ, ◌%◌, Bool, false, ◌&&◌, ◌||◌, not, ◌==◌, nat_le, nat_lt, List, [], ◌∷◌, ◌++◌, length}
use Rattle.std.specs.Prelude.{Option, None, is_none, filter, flat_map, map, option_to_list, if◌then◌else◌}
use Rattle.bbm_descriptor.specs.Descriptor.{desc_of, is_valid, needs}
use Rattle.bbm_descriptor.specs.declared.desc.Desc.{Desc}
use Rattle.bbm_descriptor.specs.declared.desc.Desc.TheVariants.{Leaf}
use Rattle.bbm_tlbi_scope.specs.Operations.{of_world}
use Rattle.bbm_events.specs.Heading.{nulls_everywhere}
use Rattle.bbm_rules.specs.Prelude.{Kind, S2, Ttbr0, Ttbr0El2, VttbrEl2, Ttbr0El1, Ttbr1El1, scope_of, Heading, Event}
use Rattle.bbm_rules.specs.Prelude.{Reg}
use Rattle.bbm_rules.specs.Prelude.{Init, Null, Root, Unroot, Write, Tlbi, Msr, Lock, Unlock}
use Rattle.bbm_rules.specs.Attach.{Attached, End, all_ends, attached_by, pages_of}
use Rattle.bbm_rules.specs.Claims.{Trust}
use Rattle.bbm_rules.specs.Covers.{is_global}
use Rattle.bbm_rules.specs.Locks.{holder_of}
use Rattle.bbm_rules.specs.Mapped.{is_clean, maps, table_pages}
use Rattle.bbm_rules.specs.Notes.{Noted, events_of}
use Rattle.bbm_rules.specs.Pages.{is_fresh, is_null}
use Rattle.bbm_rules.specs.Lists.{◌>>=◌, any, if_so, is_that, least, repeated, some_pe}
use Rattle.bbm_rules.specs.Places.{page_of}
use Rattle.bbm_rules.specs.RegisterValues.{base_of, kind_of_reg, lacks_vmid, register_values, same_reg}
use Rattle.bbm_rules.specs.Roots.{given_up, is_root, kind_in_world, lock_of, root_at, root_pages, roots_of, same_kind}
use Rattle.bbm_rules.specs.Tags.{Reading, holds_tag, left_tag, readings, tags_of}
use Rattle.bbm_rules.specs.Tree.{held_at, in_limbo, in_tree, node_of}
use Rattle.bbm_rules.specs.Values.{places_in, value_of}

-- ---- words of the rules

abbrev pub lacks : List Event → ℕ → ℕ → Bool
lacks h pe lock = not (is_that (holder_of h lock) pe)

-- the ends that count as fresh: of a `root` those of longer paths alone
abbrev pub judged_ends : Event → Attached → List End
judged_ends (Root pe kind lock page) a = a.deeper
judged_ends _ a = all_ends a

-- the places of a page, read at a level, with a descriptor that passes the test
abbrev pub places_with : (Kind → Desc → Bool) → Kind → List Event → End → List ℕ
places_with test kind h end =
    filter (λ place. test kind (desc_of kind end.level (value_of h place))) (places_in h end.page)

abbrev pub attached_with : (Kind → Desc → Bool) → List Event → Attached → List ℕ
attached_with test h a = flat_map (places_with test a.kind h) (all_ends a)

abbrev pub is_contiguous : Kind → Desc → Bool
is_contiguous kind (Leaf out attrs share global contiguous) = contiguous
is_contiguous kind _ = false

-- whether the page is the base of a value that p may still use in some register
abbrev pub is_base_at : List Event → ℕ → ℕ → Bool
is_base_at h page p = any (λ value. is_that (base_of value) page)
    (flat_map (register_values h p) (Ttbr0El2 ∷ VttbrEl2 ∷ Ttbr0El1 ∷ Ttbr1El1 ∷ []))

module _ (heading : Heading) (trust : Trust) (h : List Noted) where
  -- 1, wrong-world: it has a root kind, a register or a TLBI operation that isn't of the header's world, or it is a
  -- `null` in the Hyp world under a header of version 4 or older, or it is an `msr` of a value with bit 0 set under a
  -- header of version 2 or later without `cnp`. At: 0.
  abbrev pub asks_to_share : ℕ → Bool
  asks_to_share value = nat_le 2 heading.version && not heading.cnp && value % 2 == 1

  abbrev pub wrong_world : Event → Option ℕ
  wrong_world (Root pe kind lock page) = if_so (not (kind_in_world heading.world kind)) 0
  wrong_world (Msr pe reg value) = if_so (not (kind_in_world heading.world (kind_of_reg reg)) || asks_to_share value) 0
  wrong_world (Tlbi pe op xt) = if_so (not (of_world heading.world op)) 0
  wrong_world (Null pe page) = if_so (kind_in_world heading.world S2 && not (nulls_everywhere heading.version)) 0
  wrong_world _ = None

  -- 2, no-lock: it is a write at a place of a tree, or an `unroot` of a declared root, whose root names a lock that
  -- this PE doesn't hold. At: the place, or the page.
  abbrev pub no_lock : Event → Option ℕ
  no_lock (Write pe place value) = do
    n ← node_of heading trust h (page_of place)
    lock ← lock_of (events_of h) n.root
    if_so (lacks (events_of h) pe lock) place
  no_lock (Unroot pe page) = lock_of (events_of h) page >>= (λ lock. if_so (lacks (events_of h) pe lock) page)
  no_lock _ = None

  -- 3, null-written: it is a write at a place of a null page. At: the place.
  abbrev pub null_written : Event → Option ℕ
  null_written (Write pe place value) = if_so (is_null (events_of h) (page_of place)) place
  null_written _ = None

  -- 4, break-before-make: it is a write of a valid value at a place of a tree that holds a value of another core. At:
  -- the place. Source: Arm ARM (DDI 0487), "Using break-before-make when updating translation table entries"; which
  -- fields make the core is the project's own choice.
  abbrev pub break_before_make : Event → Option ℕ
  break_before_make (Write pe place value) = do
    n ← node_of heading trust h (page_of place)
    old ← held_at heading trust h n place
    if_so (needs n.kind n.level old value) place
  break_before_make _ = None

  -- 5, limbo-make: it is a write of a valid value at a place in limbo. At: the place.
  abbrev pub limbo_make : Event → Option ℕ
  limbo_make (Write pe place value) =
      node_of heading trust h (page_of place) >>= (λ n. if_so (is_valid n.kind n.level value && in_limbo h n) place)
  limbo_make _ = None

  -- 6, not-fresh: a path of the attached pages ends in a page that isn't fresh, where of a `root` the paths of no
  -- places don't count; or two different paths end in one page; or it is a write at a page that is in no tree, isn't
  -- fresh and isn't a null page. At: the least such page.
  abbrev pub unfresh : List ℕ → List ℕ
  unfresh pages = filter (λ page. not (is_fresh heading trust h page)) pages

  abbrev pub bad_ends : Event → Attached → List ℕ
  bad_ends e a = unfresh (pages_of (judged_ends e a)) ++ repeated (pages_of (all_ends a))

  abbrev pub untracked_page : Event → List ℕ
  untracked_page (Write pe place value) =
      filter (λ page. not (in_tree heading trust h page || is_fresh heading trust h page || is_null (events_of h) page))
      (page_of place ∷ [])
  untracked_page _ = []

  abbrev pub not_fresh : Event → Option ℕ
  not_fresh e = least (flat_map (bad_ends e) (option_to_list (attached_by heading trust h e)) ++ untracked_page e)

  -- 7, rewritten-fresh: it is a write at a place of a fresh page whose value has bit 0 set, with another value. At:
  -- the place.
  abbrev pub rewritten_fresh : Event → Option ℕ
  rewritten_fresh (Write pe place value) = if_so (is_fresh heading trust h (page_of place)
      && value_of (events_of h) place % 2 == 1 && not (value_of (events_of h) place == value)) place
  rewritten_fresh _ = None

  -- the least place at which the event puts a descriptor of the test into a tree: the place of a tree that it writes,
  -- or a place of a page that it attaches
  abbrev pub written_with : (Kind → Desc → Bool) → Event → Option ℕ
  written_with test (Write pe place value) =
      node_of heading trust h (page_of place) >>= (λ n. if_so (test n.kind (desc_of n.kind n.level value)) place)
  written_with test _ = None

  abbrev pub made_with : (Kind → Desc → Bool) → Event → Option ℕ
  made_with test e = least (option_to_list (written_with test e)
      ++ flat_map (attached_with test (events_of h)) (option_to_list (attached_by heading trust h e)))

  -- 8, bad-kind: it is a write of a leaf with the Contiguous hint at a place of a tree, or attaches a page with such a
  -- place. At: the least such place.
  abbrev pub bad_kind : Event → Option ℕ
  bad_kind e = made_with is_contiguous e

  -- 9, global-user: it is a write of a leaf for every ASID at a place of a tree of the lower range, or attaches a page
  -- with such a place to one. At: the least such place.
  abbrev pub global_user : Event → Option ℕ
  global_user e = made_with (λ kind desc. same_kind kind Ttbr0 && is_global desc) e

  -- 10, page-in-use: an `init` names a page of a tree or a null page; a `root` names a page that isn't fresh; a `null`
  -- names a page that isn't fresh or has a value other than 0. At: the least such page.
  abbrev pub page_in_use : Event → Option ℕ
  page_in_use (Init pe page) = if_so (in_tree heading trust h page || is_null (events_of h) page) page
  page_in_use (Root pe kind lock page) = least (unfresh (root_pages heading.world kind page))
  page_in_use (Null pe page) = if_so (not (is_fresh heading trust h page)
      || any (λ place. not (value_of (events_of h) place == 0)) (places_in (events_of h) page)) page
  page_in_use _ = None

  -- 11, no-root: a register is given a value other than 0 whose base is neither the first page of a declared root of
  -- the register's kind nor a null page, which under a header of version 4 or older counts in TTBR0_EL1 alone; or an
  -- `unroot` names no first page of a declared root. At: the base, or the page.
  abbrev pub may_be_null : Reg → Bool
  may_be_null reg = nulls_everywhere heading.version || same_reg reg Ttbr0El1

  abbrev pub no_root : Event → Option ℕ
  no_root (Msr pe reg value) = base_of value >>= (λ base. if_so (not (is_root (events_of h) (kind_of_reg reg) base
      || (may_be_null reg && is_null (events_of h) base))) base)
  no_root (Unroot pe page) = if_so (is_none (root_at (events_of h) page)) page
  no_root _ = None

  -- 12, tag-conflict: after the register write a tag is readable at this PE for one root, and another root holds it, or
  -- one that was given up has left it, at some PE. At: the least first page of such another root. The first argument
  -- are the events with the register write.
  abbrev pub other_holders : List Event → Reading → List ℕ
  other_holders after reading = map (λ r. r.page) (filter
      (λ r. not (r.page == reading.root) && holds_tag heading trust r.page reading.tag after) (roots_of after))

  abbrev pub leavers : List Event → Reading → List ℕ
  leavers after reading = filter (λ page. left_tag heading trust page reading.tag after) (given_up after)

  abbrev pub others : List Event → Reading → List ℕ
  others after reading = other_holders after reading ++ leavers after reading

  abbrev pub tag_conflict : Event → Option ℕ
  tag_conflict (Msr pe reg value) = let after : List Event = Msr pe reg value ∷ events_of h in
      least (flat_map (others after) (readings heading after pe))
  tag_conflict _ = None

  -- 13, root-in-use: an `unroot` names a root that is the base of a readable register value at some PE, or, under a
  -- header without `unflushed`, that holds a tag. At: the page.
  abbrev pub is_loaded : ℕ → Bool
  is_loaded page = some_pe heading.pes (is_base_at (events_of h) page)

  abbrev pub holds_some_tag : ℕ → Bool
  holds_some_tag page = nat_lt 0 (length (tags_of heading trust page (events_of h)))

  abbrev pub is_used : ℕ → Bool
  is_used page = is_loaded page || (not heading.words.unflushed && holds_some_tag page)

  abbrev pub root_in_use : Event → Option ℕ
  root_in_use (Unroot pe page) = if_so (not (is_none (root_at (events_of h) page)) && is_used page) page
  root_in_use _ = None

  -- 14, unsynced-vmid: in the Hyp world, a TLBI scoped by VMID comes from a PE whose readable values of VTTBR_EL2 have
  -- more than one VMID. At: the PE's number.
  abbrev pub unsynced_vmid : Event → Option ℕ
  unsynced_vmid (Tlbi pe op xt) = if_so (lacks_vmid heading (events_of h) pe op) pe
  unsynced_vmid _ = None

  -- 15, bad-operand: the operand of a TLBI can't be decoded. At: the operand.
  abbrev pub bad_operand : Event → Option ℕ
  bad_operand (Tlbi pe op xt) = if_so (is_none (result_ok (scope_of op xt))) xt
  bad_operand _ = None

  -- 16, lock-busy: a `lock` names a lock that is held, by this PE or another. At: the holder's number.
  abbrev pub lock_busy : Event → Option ℕ
  lock_busy (Lock pe lock) = holder_of (events_of h) lock
  lock_busy _ = None

  -- 17, lock-not-mine: an `unlock` names a lock that this PE doesn't hold. At: the lock's number.
  abbrev pub lock_not_mine : Event → Option ℕ
  lock_not_mine (Unlock pe lock) = if_so (lacks (events_of h) pe lock) lock
  lock_not_mine _ = None

  -- 18, table-mapped: under a header with `isolated`, it puts a leaf of stage 2 into a tree that maps a table page or
  -- one that it makes so, or it makes a page a table page that isn't clean. At: the least such page.
  abbrev pub made_tables : Event → List ℕ
  made_tables e = flat_map (λ a. pages_of (all_ends a)) (option_to_list (attached_by heading trust h e))

  -- whether the event writes a leaf of stage 2 that maps the page, or attaches one
  abbrev pub writes_over : Event → ℕ → Bool
  writes_over (Write pe place value) page =
      any (λ n. maps n.kind n.level value page) (option_to_list (node_of heading trust h (page_of place)))
  writes_over _ page = false

  abbrev pub end_over : Kind → ℕ → End → Bool
  end_over kind page end =
      any (λ place. maps kind end.level (value_of (events_of h) place) page) (places_in (events_of h) end.page)

  abbrev pub puts_over : Event → ℕ → Bool
  puts_over e page = writes_over e page
      || any (λ a. any (end_over a.kind page) (all_ends a)) (option_to_list (attached_by heading trust h e))

  abbrev pub bad_tables : Event → List ℕ
  bad_tables e = filter (puts_over e) (table_pages heading trust h ++ made_tables e)
      ++ filter (λ page. not (is_clean heading trust h page)) (made_tables e)

  abbrev pub mapped_table : Event → Option ℕ
  mapped_table e = if heading.words.isolated then least (bad_tables e) else None

  -- a write and a `root` alone can break it
  abbrev pub table_mapped : Event → Option ℕ
  table_mapped (Write pe place value) = mapped_table (Write pe place value)
  table_mapped (Root pe kind lock page) = mapped_table (Root pe kind lock page)
  table_mapped _ = None
