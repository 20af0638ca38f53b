-- The claims of a certificate: for each event of a log those of the places that it cleanses and of the tags that it
-- takes away. A history is newest first; the claims stand in the order of a log. Source: project's own choice.
use Rattle.std.specs.Prelude.{◌≡◌, ℕ, ◌<◌, Bool, true, false, List, [], ◌∷◌, ◌++◌, length}
use Rattle.std.specs.Prelude.{suc, Some, None}
use Rattle.std.specs.Prelude.{Contains}
use Rattle.bbm_events.specs.declared.claim.Claim.{Claim}
use Rattle.bbm_events.specs.declared.claim.Claim.TheVariants.{Place, Two, Taken}
use Rattle.bbm_rules.specs.Claims.Trust.{Patterns}
use Rattle.bbm_rules.specs.Cleansing.{cleansed}
use Rattle.bbm_rules.specs.Covers.{noted}
use Rattle.bbm_rules.specs.Held.{ValidWrite, last_valid}
use Rattle.bbm_rules.specs.Limits.{limit_of}
use Rattle.bbm_rules.specs.Lists.{by_number}
use Rattle.bbm_rules.specs.Notes.{Noted}
use Rattle.bbm_rules.specs.PatternSentences.{OneStep, TwoSteps}
use Rattle.bbm_rules.specs.Places.{page_of}
use Rattle.bbm_rules.specs.Prelude.{Heading, Event, Tag, El2Tag, Vmid, Asid, Ttbr1Tag}
use Rattle.bbm_rules.specs.Reach.{Issued}
use Rattle.bbm_rules.specs.Sentences.{TakenAway}
use Rattle.bbm_rules.specs.Tags.{kept_at}
use Rattle.bbm_rules.specs.Tree.{Node, tree}

-- ---- orders

-- less by lists of equal length: by the first number in which they differ
abbrev pub less : List ℕ → List ℕ → Bool
less (m ∷ ms) (n ∷ ns) = by_number m n (less ms ns)
less _ _ = false

-- tags in the order EL2, VMIDs, ASIDs, upper range, and then by number
abbrev pub tag_key : Tag → List ℕ
tag_key El2Tag = 0 ∷ 0 ∷ []
tag_key (Vmid n) = 1 ∷ n ∷ []
tag_key (Asid n) = 2 ∷ n ∷ []
tag_key Ttbr1Tag = 3 ∷ 0 ∷ []

-- the claims of one event: places before tags, places by address, tags in their order, and for one of them the PEs
abbrev pub claim_key : Claim → List ℕ
claim_key (Place p a b t d) = 0 ∷ a ∷ 0 ∷ p ∷ []
claim_key (Two p a b t1 d1 t2 d2) = 0 ∷ a ∷ 0 ∷ p ∷ []
claim_key (Taken p tag t d) = 1 ∷ (tag_key tag ++ p ∷ [])

-- each claim comes before the next in this order
abbrev pub Ascending : List Claim → Type 0
Ascending [] = Unit {0}
Ascending (c ∷ []) = Unit {0}
Ascending (c ∷ d ∷ cs) = (less (claim_key c) (claim_key d) ≡ true) × Ascending (d ∷ cs)

-- the least list of numbers for which something holds
pub record IsLeast (Holds : List ℕ → Type 0) (ns : List ℕ) : Type 0 where
  pub holds : Holds ns
  pub least : (other : List ℕ) → Holds other → less other ns ≡ false

module _ (heading : Heading) where
  -- ---- patterns by their positions

  -- the place is cleansed at p in one step by the events at these positions, or in two
  abbrev pub OneAt : ℕ → ℕ → List Noted → List ℕ → Type 0
  OneAt place p since ns = (k : OneStep heading Patterns place p since)
      × (ns ≡ k.b.position ∷ k.t.tlbi.position ∷ k.d.position ∷ [])

  abbrev pub TwoAt : ℕ → ℕ → List Noted → List ℕ → Type 0
  TwoAt place p since ns = (k : TwoSteps heading Patterns place p since)
      × (ns ≡ k.b.position ∷ k.t1.tlbi.position ∷ k.d1.position ∷ k.t2.tlbi.position ∷ k.d2.position ∷ [])

  -- the tag is taken away at p by a TLBI at this position, which the last event answers
  abbrev pub TakenAt : ℕ → Tag → List Event → List ℕ → Type 0
  TakenAt p tag h ns = (t : Issued Event) × (k : TakenAway heading Patterns p tag h t) × (k.later ≡ [])
      × (ns ≡ suc (length t.before) ∷ [])

  -- ---- what an event cleanses and takes away

  -- the place is cleansed at p, as one of a tree, after these events, whose last valid write of it is w
  pub record IsCleansed (h : List Noted) (place p : ℕ) (w : ValidWrite) : Type 0 where
    pub node : Node
    pub in_tree : Contains (tree heading Patterns h) node
    pub inside : page_of place ≡ node.page
    pub is_last : last_valid node.kind node.level place h ≡ Some w
    pub is_clean : cleansed heading Patterns place p w.since ≡ true

  -- some root holds the tag at p, or one that was given up left it there
  abbrev pub Holding : List Event → ℕ → Tag → Type 0
  Holding h p tag = (root : ℕ) × (kept_at heading Patterns p root tag h ≡ true)

  -- The claim is due at the event: the place is cleansed at the PE after it, and wasn't before; or some root held the
  -- tag at the PE before it or had left it there, and none does after it. A claim of a place has one step where the
  -- place is cleansed in one, and the positions are the least that make the claim true.
  abbrev pub IsDue : List Event → Event → Claim → Type 0
  IsDue h e (Place p a b t d) = (p < heading.pes)
      × ((w : ValidWrite) × IsCleansed (noted heading Patterns (e ∷ h)) a p w
      × IsLeast (OneAt a p w.since) (b ∷ t ∷ d ∷ []))
      × ((w : ValidWrite) → IsCleansed (noted heading Patterns h) a p w → ⊥)
  IsDue h e (Two p a b t1 d1 t2 d2) = (p < heading.pes)
      × ((w : ValidWrite) × IsCleansed (noted heading Patterns (e ∷ h)) a p w
      × (OneStep heading Patterns a p w.since → ⊥) × IsLeast (TwoAt a p w.since) (b ∷ t1 ∷ d1 ∷ t2 ∷ d2 ∷ []))
      × ((w : ValidWrite) → IsCleansed (noted heading Patterns h) a p w → ⊥)
  IsDue h e (Taken p tag t d) = (p < heading.pes) × Holding h p tag × (Holding (e ∷ h) p tag → ⊥)
      × (d ≡ suc (length h)) × IsLeast (TakenAt p tag (e ∷ h)) (t ∷ [])

  -- Certificate: the claims of the events so far, and behind them those that are due at the newest, in their order.
  abbrev pub IsCertificate : List Event → List Claim → Type 0
  IsCertificate [] claims = claims ≡ []
  IsCertificate (e ∷ h) claims = (before : List Claim) × (due : List Claim) × (claims ≡ before ++ due)
      × IsCertificate h before × Ascending due × ((c : Claim) → Contains due c → IsDue h e c)
      × ((c : Claim) → IsDue h e c → Contains due c)

-- no event of a history reaches a limit
abbrev pub WithinLimits : List Event → Type 0
WithinLimits [] = Unit {0}
WithinLimits (e ∷ h) = (limit_of h e ≡ None) × WithinLimits h
