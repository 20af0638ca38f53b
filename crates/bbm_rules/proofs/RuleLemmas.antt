-- Each rule by itself.
use Rattle.bbm_rules.proofs.Common.{option_map_or, ◌≡◌, ℕ, Bool, true, false, if_so, List, [], ◌∷◌, ◌++◌, Option, Some, None, is_none, refl}
use Rattle.bbm_rules.proofs.Common.{sym, ◌∙◌, ap, subst, inl, inr, true≢false, and_from, and_parts, In, Breach, breaks}
use Rattle.bbm_rules.proofs.Common.{first_broken, keeps, Trust, noted, Noted}
use Rattle.bbm_events.specs.Heading.{Heading}
use Rattle.bbm_events.specs.declared.event.Event.{Event}
use Rattle.bbm_rules.proofs.OpenLaw.{head_of, tail_of}
use Rattle.bbm_rules.specs.declared.rule.Rule.{Rule}
use Rattle.bbm_rules.specs.declared.rule.Rule.TheVariants.{WrongWorld, NoLock, NullWritten, BreakBeforeMake, LimboMake}
use Rattle.bbm_rules.specs.declared.rule.Rule.TheVariants.{NotFresh, RewrittenFresh, BadKind, GlobalUser, PageInUse}
use Rattle.bbm_rules.specs.declared.rule.Rule.TheVariants.{NoRoot, TagConflict, RootInUse, UnsyncedVmid, BadOperand}
use Rattle.bbm_rules.specs.declared.rule.Rule.TheVariants.{LockBusy, LockNotMine, TableMapped}
use Rattle.bbm_rules.specs.Broken.{broken, rules}

-- a rule that names nothing isn't broken
pub if_none : {X : Type 0} (b : Bool) (x : X) → if_so b x ≡ None → b ≡ false
if_none true x e = cc
if_none false x e = refl

listed : (r : Rule) → In rules r
listed WrongWorld = inl refl
listed NoLock = inr (inl refl)
listed NullWritten = inr (inr (inl refl))
listed BreakBeforeMake = inr (inr (inr (inl refl)))
listed LimboMake = inr (inr (inr (inr (inl refl))))
listed NotFresh = inr (inr (inr (inr (inr (inl refl)))))
listed RewrittenFresh = inr (inr (inr (inr (inr (inr (inl refl))))))
listed BadKind = inr (inr (inr (inr (inr (inr (inr (inl refl)))))))
listed GlobalUser = inr (inr (inr (inr (inr (inr (inr (inr (inl refl))))))))
listed PageInUse = inr (inr (inr (inr (inr (inr (inr (inr (inr (inl refl)))))))))
listed NoRoot = inr (inr (inr (inr (inr (inr (inr (inr (inr (inr (inl refl))))))))))
listed TagConflict = inr (inr (inr (inr (inr (inr (inr (inr (inr (inr (inr (inl refl)))))))))))
listed RootInUse = inr (inr (inr (inr (inr (inr (inr (inr (inr (inr (inr (inr (inl refl))))))))))))
listed UnsyncedVmid = inr (inr (inr (inr (inr (inr (inr (inr (inr (inr (inr (inr (inr (inl refl)))))))))))))
listed BadOperand = inr (inr (inr (inr (inr (inr (inr (inr (inr (inr (inr (inr (inr (inr (inl refl))))))))))))))
listed LockBusy = inr (inr (inr (inr (inr (inr (inr (inr (inr (inr (inr (inr (inr (inr (inr (inl refl)))))))))))))))
listed LockNotMine = inr (inr (inr (inr (inr (inr (inr (inr (inr (inr (inr (inr (inr (inr (inr (inr (inl refl))))))))))))))))
listed TableMapped = inr (inr (inr (inr (inr (inr (inr (inr (inr (inr (inr (inr (inr (inr (inr (inr (inr (inl refl)))))))))))))))))

-- a broken rule, or else the first that is broken of the others
abbrev breach_or : Rule → Option ℕ → Option Breach → Option Breach
breach_or rule at rest = option_map_or (λ n. Some (record { rule = rule; at = n })) at rest

neither : (rule : Rule) (o : Option ℕ) (rest : Option Breach) → breach_or rule o rest ≡ None → (o ≡ None) × (rest ≡ None)
neither rule None rest e = (refl, e)
neither rule (Some at) rest e = cc

none_from : {X : Type 0} (o : Option X) → is_none o ≡ true → o ≡ None
none_from None e = refl
none_from (Some x) e = absurd (true≢false (sym e))

module _ (heading : Heading) (trust : Trust) where
  -- the event breaks none of the eighteen rules
  abbrev pub Unbroken : List Noted → Event → Type 0
  Unbroken h e = (r : Rule) → breaks heading trust h e r ≡ None

  each_of : (h : List Noted) (e : Event) (rs : List Rule) → first_broken heading trust h e rs ≡ None
      → (r : Rule) → In rs r → breaks heading trust h e r ≡ None
  each_of h e [] k r i = absurd i
  each_of h e (rule ∷ rs) k r (inl same) =
      sym (ap (breaks heading trust h e) same)
      ∙ (neither rule (breaks heading trust h e rule) (first_broken heading trust h e rs) k).0
  each_of h e (rule ∷ rs) k r (inr i) =
      each_of h e rs (neither rule (breaks heading trust h e rule) (first_broken heading trust h e rs) k).1 r i

  none_of_them : (h : List Noted) (e : Event) (rs : List Rule) → Unbroken h e → first_broken heading trust h e rs ≡ None
  none_of_them h e [] k = refl
  none_of_them h e (rule ∷ rs) k =
      ap (λ (o : Option ℕ). breach_or rule o (first_broken heading trust h e rs)) (k rule) ∙ none_of_them h e rs k

  unbroken_by : (h : List Event) (e : Event) → broken heading trust h e ≡ None → Unbroken (noted heading trust h) e
  unfolding broken
  unbroken_by h e k r = each_of (noted heading trust h) e rules k r (listed r)

  broken_by_none : (h : List Event) (e : Event) → Unbroken (noted heading trust h) e → broken heading trust h e ≡ None
  unfolding broken
  broken_by_none h e k = none_of_them (noted heading trust h) e rules k

  last_kept : (h : List Event) (e : Event) → keeps heading trust (e ∷ h) ≡ true
      → (keeps heading trust h ≡ true) × Unbroken (noted heading trust h) e
  last_kept h e k =
      let parts = and_parts (keeps heading trust h) (is_none (broken heading trust h e)) k in
      (parts.0, unbroken_by h e (none_from (broken heading trust h e) parts.1))

  pub each_unbroken : (h newer older : List Event) (e : Event) → keeps heading trust h ≡ true → h ≡ newer ++ e ∷ older
      → Unbroken (noted heading trust older) e
  each_unbroken [] [] older e k split = cc
  each_unbroken [] (x ∷ newer) older e k split = cc
  each_unbroken (d ∷ h) [] older e k split =
      subst (λ (x : Event). Unbroken (noted heading trust older) x) (ap (head_of d) split)
      (subst (λ (es : List Event). Unbroken (noted heading trust es) d) (ap tail_of split) (last_kept h d k).1)
  each_unbroken (d ∷ h) (x ∷ newer) older e k split =
      each_unbroken h newer older e (last_kept h d k).0 (ap tail_of split)

  pub kept_by_each : (h : List Event)
      → ((newer older : List Event) (e : Event) → h ≡ newer ++ e ∷ older → Unbroken (noted heading trust older) e)
      → keeps heading trust h ≡ true
  kept_by_each [] each = refl
  kept_by_each (e ∷ h) each =
      and_from (keeps heading trust h) (is_none (broken heading trust h e))
      (kept_by_each h (λ newer older d split. each (e ∷ newer) older d (ap (λ (es : List Event). e ∷ es) split)))
      (ap is_none (broken_by_none h e (each [] h e refl)))
