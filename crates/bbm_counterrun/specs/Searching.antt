-- What a search over the plans finds, key by key. A history is newest first. No public contract cites these words.
use Rattle.std.specs.Prelude.{◌≡◌, ℕ, ◌<◌, ◌≤◌, Bool, true, false, ◌&&◌, not, nat_le, List, [], ◌∷◌, length, Option}
use Rattle.std.specs.Prelude.{Some, None}
use Rattle.bbm_rules.specs.Lists.{among, any}
use Rattle.bbm_rules.specs.Prelude.{Kind, Heading, Event}
use Rattle.bbm_tlb_machine.specs.Entry.{Entry}
use Rattle.bbm_tlb_machine.specs.Step.{combined, is_stage2}
use Rattle.bbm_tlb_machine.specs.declared.step.Step.{Step}
use Rattle.bbm_counterrun.specs.TlbiAnswers.{Answer, forbids_by}
use Rattle.bbm_counterrun.specs.Plans.{Plan, Read, by_combine, run_of}
use Rattle.bbm_counterrun.specs.Tested.{first_events, is_plain}
use Rattle.bbm_counterrun.specs.Ways.{Goal, least_reads}

-- a plan with these reads; of a list without any it is of no use
abbrev pub plan_of : ℕ → ℕ → Kind → ℕ → List Read → Option ℕ → Plan
plan_of starts pe kind number [] combines = record {
  starts = starts;
  pe = pe;
  kind = kind;
  number = number;
  first = record { place = 0; value = 0 };
  rest = [];
  combines = combines;
}
plan_of starts pe kind number (r ∷ rs) combines = record {
  starts = starts;
  pe = pe;
  kind = kind;
  number = number;
  first = r;
  rest = rs;
  combines = combines;
}

-- the first number from one on and up to another that passes the test
abbrev pub FirstIn : (ℕ → Bool) → ℕ → ℕ → Option ℕ → Type 0
FirstIn test from to None = (n : ℕ) → from ≤ n → n ≤ to → test n ≡ false
FirstIn test from to (Some n) = (test n ≡ true) × (from ≤ n) × (n ≤ to) × ((m : ℕ) → from ≤ m → m < n → test m ≡ false)

-- the first combine that passes the test
abbrev pub FirstCombine : (Option ℕ → Bool) → Option (Option ℕ) → Type 0
FirstCombine test None = (o : Option ℕ) → test o ≡ false
FirstCombine test (Some o) = (test o ≡ true) × ((other : Option ℕ) → by_combine other o ≡ true → test other ≡ false)

-- whether the answer forbids the entry that is combined here, before the last of so many events
abbrev pub blocks : Heading → ℕ → Entry → ℕ → Answer → Bool
blocks heading count x n a = forbids_by heading n count (combined n x) a

module _ (heading : Heading) (answers : List Answer) where
  -- whether one of the answers forbids the entry
  abbrev pub forbidden_by : ℕ → ℕ → Entry → Bool
  forbidden_by from to x = any (forbids_by heading from to x) answers

  -- whether an entry that starts here outlives all answers where it is combined here
  abbrev pub joins : Entry → ℕ → ℕ → ℕ → Bool
  joins x starts count n = not (forbidden_by starts n x) && not (forbidden_by n count (combined n x))

  abbrev pub outlives_by : Entry → ℕ → ℕ → Option ℕ → Bool
  outlives_by x starts count None = not (forbidden_by starts count x)
  outlives_by x starts count (Some n) =
      not (forbidden_by starts n x) && is_stage2 x.kind && not (forbidden_by n count (combined n x))

-- ---- all keys

-- a VMID or ASID and a combine
pub record Choice : Type 0 where
  pub number : ℕ
  pub combines : Option ℕ

-- what a search finds: a plan of the kind that is searched for
pub record Found : Type 0 where
  pub starts : ℕ
  pub pe : ℕ
  pub choice : Choice
  pub reads : List Read

-- Of a test of a VMID or ASID and a combine: nothing passes; or what is found passes, and nothing with a lesser number.
-- Of these numbers alone, and of all.
abbrev pub BestAmong : (ℕ → Option ℕ → Bool) → List ℕ → Option Choice → Type 0
BestAmong test numbers None = (n : ℕ) (o : Option ℕ) → among n numbers ≡ true → test n o ≡ false
BestAmong test numbers (Some c) = FirstCombine (test c.number) (Some c.combines)
    × ((n : ℕ) (o : Option ℕ) → n < c.number → among n numbers ≡ true → test n o ≡ false)

abbrev pub FindsNumber : (ℕ → Option ℕ → Bool) → Option Choice → Type 0
FindsNumber test None = (n : ℕ) (o : Option ℕ) → test n o ≡ false
FindsNumber test (Some c) = FirstCombine (test c.number) (Some c.combines)
    × ((n : ℕ) (o : Option ℕ) → n < c.number → test n o ≡ false)

-- whether the number isn't less than that of the best choice so far
abbrev pub is_behind : Option Choice → ℕ → Bool
is_behind None number = false
is_behind (Some c) number = nat_le c.number number

-- the best choice, or one of this number where a combine was found for it
abbrev pub better : Option Choice → ℕ → Option (Option ℕ) → Option Choice
better best number None = best
better best number (Some o) = Some (record { number = number; combines = o })

-- what is found with these reads
abbrev pub found_by : ℕ → ℕ → List Read → Option Choice → Option Found
found_by starts pe reads None = None
found_by starts pe reads (Some c) = Some (record { starts = starts; pe = pe; choice = c; reads = reads })

module _ (heading : Heading) (h : List Event) (e : Event) (kind : Kind) where
  -- whether the plan with these reads is plain
  abbrev pub plain_by : ℕ → ℕ → List Read → ℕ → Option ℕ → Bool
  plain_by k p reads number o = is_plain heading h e (plan_of k p kind number reads o)

  -- the same where there may be none
  abbrev pub plain_with : ℕ → ℕ → Option (List Read) → ℕ → Option ℕ → Bool
  plain_with k p None number o = false
  plain_with k p (Some reads) number o = plain_by k p reads number o

  -- the same with the least reads of the way
  abbrev pub plain_at : List Goal → ℕ → ℕ → ℕ → Option ℕ → Bool
  plain_at way k p number o = plain_with k p (least_reads heading (first_events k h) p way) number o

  -- nothing is plain with the least reads at this start and PE
  abbrev pub NoneAt : List Goal → ℕ → ℕ → Type 0
  NoneAt way k p = (n : ℕ) (o : Option ℕ) → plain_at way k p n o ≡ false

  -- What is found at one start and PE: nothing, or the first number with these reads.
  abbrev pub FindsAt : List Goal → ℕ → ℕ → Option Found → Type 0
  FindsAt way k p None = NoneAt way k p
  FindsAt way k p (Some f) = (f.starts ≡ k) × (f.pe ≡ p)
      × (least_reads heading (first_events k h) p way ≡ Some f.reads) × FindsNumber (plain_at way k p) (Some f.choice)

  -- what is found of one start: nothing at any PE, or what is found at the first PE
  abbrev pub FindsFrom : List Goal → ℕ → ℕ → Option Found → Type 0
  FindsFrom way k pes None = (p : ℕ) → p < pes → NoneAt way k p
  FindsFrom way k pes (Some f) = (f.pe < pes) × FindsAt way k f.pe (Some f) × ((p : ℕ) → p < f.pe → NoneAt way k p)

  -- what is found of all starts
  abbrev pub FindsAll : List Goal → ℕ → Option Found → Type 0
  FindsAll way pes None = (k : ℕ) → 0 < k → k ≤ length h → (p : ℕ) → p < pes → NoneAt way k p
  FindsAll way pes (Some f) = (0 < f.starts) × (f.starts ≤ length h) × FindsFrom way f.starts pes (Some f)
      × ((k : ℕ) → 0 < k → k < f.starts → (p : ℕ) → p < pes → NoneAt way k p)

-- the plan that a search names
abbrev pub plan_found : Kind → Found → Plan
plan_found kind f = plan_of f.starts f.pe kind f.choice.number f.reads f.choice.combines

-- the run over the log of what is found of all starts
abbrev pub FindsRun : Heading → List Event → Event → Kind → List Goal → List Event → Option (List Step) → Type 0
FindsRun heading h e kind way log None = FindsAll heading h e kind way heading.pes None
FindsRun heading h e kind way log (Some steps) =
    (f : Found) × FindsAll heading h e kind way heading.pes (Some f) × (steps ≡ run_of (plan_found kind f) log)
