-- Later events keep a pattern.
use Rattle.bbm_histories.proofs.Common.{append_assoc, Heading, Write, Below, Quiet}
use Rattle.bbm_rules.proofs.Common.{◌≡◌, ℕ, ◌⊎◌, Bool, true, false, List, [], ◌∷◌, ◌++◌, Some, refl, sym, ◌∙◌, ap}
use Rattle.bbm_rules.proofs.Common.{subst, inl, inr, Kind, is_valid, Cover, Half, Second, Full, Trust, seen, ValidWrite}
use Rattle.bbm_rules.proofs.Common.{last_valid, Noted, Answer, Cleansed, Flush, HalfBy, IsLastValid, OneStep}
use Rattle.bbm_rules.proofs.Common.{Publication, TwoSteps, Issued}
use Rattle.bbm_rules.specs.HeldLaws.{LastValidBySentence}

-- an event of the older part is one of the whole
pub later_split : {A : Type 0} (newer xs before after : List A) (x : A) → xs ≡ before ++ x ∷ after
    → newer ++ xs ≡ (newer ++ before) ++ x ∷ after
later_split newer xs before after x e = ap (λ ys. newer ++ ys) e ∙ sym (append_assoc newer before (x ∷ after))

pub append_left : {A : Type 0} (xs ys zs : List A) → xs ++ ys ≡ xs ++ zs → ys ≡ zs
append_left [] ys zs e = e
append_left (x ∷ xs) ys zs e = let rest : xs ++ ys ≡ xs ++ zs = cc in append_left xs ys zs rest

-- an item of two lists together is one of the first or of the second
pub split_cases : {A : Type 0} (xs ys after before : List A) (x : A) → xs ++ ys ≡ after ++ x ∷ before
    → ((rest : List A) × (xs ≡ after ++ x ∷ rest)) ⊎ ((start : List A) × (ys ≡ start ++ x ∷ before) × (after ≡ xs ++ start))
split_cases [] ys after before x e = inr (after, e, refl)
split_cases (z ∷ xs) ys [] before x e = let first : z ≡ x = cc in inl (xs, ap (λ y. y ∷ xs) first)
split_cases {A} (z ∷ xs) ys (y ∷ after) before x e =
    let first : z ≡ y = cc in
    let rest : xs ++ ys ≡ after ++ x ∷ before = cc in
    elim (split_cases xs ys after before x rest) [
      | inl a ↦ inl (a.0, ap (λ (w : A). w ∷ xs) first ∙ ap (λ (ws : List A). y ∷ ws) a.1)
      | inr a ↦ inr (a.0, a.1, ap (λ (ws : List A). y ∷ ws) a.2 ∙ ap (λ (w : A). w ∷ (xs ++ a.0)) (sym first))
    ]

pub publication_stays : (heading : Heading) (place p : ℕ) (newer since : List Noted) (b : Noted)
    → Publication heading place p since b → Publication heading place p (newer ++ since) b
publication_stays heading place p newer since b k = record {
  q = k.q;
  dsb = k.dsb;
  value = k.value;
  write = k.write;
  newer = newer ++ k.newer;
  between = k.between;
  older = k.older;
  split = later_split newer since k.newer (k.between ++ k.write ∷ k.older) b k.split;
  wrote = k.wrote;
  barrier = k.barrier;
  publishes = k.publishes;
}

pub answer_stays : (newer since : List Noted) (t : Issued Noted) (d : Noted) → Answer since t d → Answer (newer ++ since) t d
answer_stays newer since t d k = record {
  q = k.q;
  dsb = k.dsb;
  newer = newer ++ k.newer;
  older = k.older;
  split = later_split newer since k.newer k.older d k.split;
  barrier = k.barrier;
  is_open = k.is_open;
  completed = k.completed;
}

pub flush_stays : (heading : Heading) (cover : Cover) (place p : ℕ) (newer since : List Noted) (t : Issued Noted) (d : Noted)
    → Flush heading cover place p since t d → Flush heading cover place p (newer ++ since) t d
flush_stays heading cover place p newer since t d k =
    record { answer = answer_stays newer since t d k.answer; reached = k.reached; covered = k.covered }

pub half_stays : (heading : Heading) (place p : ℕ) (newer since : List Noted) (b : Noted) (t : Issued Noted) (d : Noted)
    → HalfBy heading place p since b t d → HalfBy heading place p (newer ++ since) b t d
half_stays heading place p newer since b t d k =
    record { flush = flush_stays heading Half place p newer since t d k.flush; published = k.published }

pub cleansed_stays : (heading : Heading) (trust : Trust) (place p : ℕ) (newer since : List Noted)
    → Cleansed heading trust place p since → Cleansed heading trust place p (newer ++ since)
cleansed_stays heading trust place p newer since (inl k) = inl (record {
  b = k.b;
  t = k.t;
  d = k.d;
  published = k.published;
  flush = flush_stays heading Full place p newer since k.t k.d k.flush;
  allowed = k.allowed;
})
cleansed_stays heading trust place p newer since (inr k) = inr (record {
  b = k.b;
  t1 = k.t1;
  d1 = k.d1;
  t2 = k.t2;
  d2 = k.d2;
  first = k.first;
  second = flush_stays heading Second place p newer since k.t2 k.d2 k.second;
  allowed = k.allowed;
})

-- ---- a pattern that wasn't there before an event ends with it

-- what a publication, or a pattern, is at the event itself
begins : {A : Type 0} (n : A) (since newer older : List A) (d : A) → n ∷ since ≡ newer ++ d ∷ older
    → ((rest : List A) × (newer ≡ n ∷ rest) × (since ≡ rest ++ d ∷ older)) ⊎ (d ≡ n)
begins n since [] older d split = let first : n ≡ d = cc in inr (sym first)
begins {A} n since (m ∷ newer) older d split =
    let first : n ≡ m = cc in
    let rest : since ≡ newer ++ d ∷ older = cc in
    inl (newer, ap (λ (x : A). x ∷ newer) (sym first), rest)

pub publication_begins : (heading : Heading) (place p : ℕ) (n : Noted) (since : List Noted) (b : Noted)
    → Publication heading place p (n ∷ since) b → Publication heading place p since b ⊎ (b ≡ n)
publication_begins heading place p n since b k =
    elim (begins n since k.newer (k.between ++ k.write ∷ k.older) b k.split) [
      | inl older ↦ inl (record {
        q = k.q;
        dsb = k.dsb;
        value = k.value;
        write = k.write;
        newer = older.0;
        between = k.between;
        older = k.older;
        split = older.2;
        wrote = k.wrote;
        barrier = k.barrier;
        publishes = k.publishes;
      })
      | inr same ↦ inr same
    ]

pub answer_begins : (n : Noted) (since : List Noted) (t : Issued Noted) (d : Noted) → Answer (n ∷ since) t d
    → Answer since t d ⊎ (d ≡ n)
answer_begins n since t d k =
    elim (begins n since k.newer k.older d k.split) [
      | inl older ↦ inl (record {
        q = k.q;
        dsb = k.dsb;
        newer = older.0;
        older = k.older;
        split = older.2;
        barrier = k.barrier;
        is_open = k.is_open;
        completed = k.completed;
      })
      | inr same ↦ inr same
    ]

pub flush_begins : (heading : Heading) (cover : Cover) (place p : ℕ) (n : Noted) (since : List Noted) (t : Issued Noted) (d : Noted)
    → Flush heading cover place p (n ∷ since) t d → Flush heading cover place p since t d ⊎ (d ≡ n)
flush_begins heading cover place p n since t d k =
    elim (answer_begins n since t d k.answer) [
      | inl a ↦ inl (record { answer = a; reached = k.reached; covered = k.covered })
      | inr same ↦ inr same
    ]

pub half_begins : (heading : Heading) (place p : ℕ) (n : Noted) (since : List Noted) (b : Noted) (t : Issued Noted) (d : Noted)
    → HalfBy heading place p (n ∷ since) b t d → HalfBy heading place p since b t d ⊎ (d ≡ n)
half_begins heading place p n since b t d k =
    elim (flush_begins heading Half place p n since t d k.flush) [
      | inl f ↦ inl (record { flush = f; published = k.published })
      | inr same ↦ inr same
    ]

pub one_begins : (heading : Heading) (trust : Trust) (place p : ℕ) (n : Noted) (since : List Noted)
    → (k : OneStep heading trust place p (n ∷ since)) → OneStep heading trust place p since ⊎ (k.d ≡ n)
one_begins heading trust place p n since k =
    elim (flush_begins heading Full place p n since k.t k.d k.flush) [
      | inl f ↦ inl (record { b = k.b; t = k.t; d = k.d; published = k.published; flush = f; allowed = k.allowed })
      | inr same ↦ inr same
    ]

pub two_begin : (heading : Heading) (trust : Trust) (place p : ℕ) (n : Noted) (since : List Noted)
    → (k : TwoSteps heading trust place p (n ∷ since)) → TwoSteps heading trust place p since ⊎ (k.d2 ≡ n)
two_begin heading trust place p n since k =
    elim (flush_begins heading Second place p n since k.t2 k.d2 k.second) [
      | inl f ↦ inl (record {
        b = k.b;
        t1 = k.t1;
        d1 = k.d1;
        t2 = k.t2;
        d2 = k.d2;
        first = k.first;
        second = f;
        allowed = k.allowed;
      })
      | inr same ↦ inr same
    ]

-- ---- what a pattern has in it

-- the write of a publication stands among the events
pub write_in : (heading : Heading) (place p : ℕ) (since : List Noted) (b : Noted) (k : Publication heading place p since b)
    → since ≡ (k.newer ++ b ∷ k.between) ++ k.write ∷ k.older
write_in heading place p since b k = k.split ∙ sym (append_assoc k.newer (b ∷ k.between) (k.write ∷ k.older))

-- a cleansed place is seen
before_answer : (heading : Heading) (place p : ℕ) (since : List Noted) (t : Issued Noted) (d : Noted) (b : Noted)
    → Answer since t d → Publication heading place p t.before b → Publication heading place p since b
before_answer heading place p since t d b a k =
    subst (λ (xs : List Noted). Publication heading place p xs b) (sym a.split)
    (publication_stays heading place p a.newer (d ∷ a.older) b
    (publication_stays heading place p (d ∷ []) a.older b
    (subst (λ (xs : List Noted). Publication heading place p xs b) (sym a.is_open.split)
    (publication_stays heading place p a.is_open.newer (t.tlbi ∷ t.before) b
    (publication_stays heading place p (t.tlbi ∷ []) t.before b k)))))

pub cleansed_is_seen : (heading : Heading) (trust : Trust) (place p : ℕ) (since : List Noted)
    → Cleansed heading trust place p since → (b : Noted) × Publication heading place p since b
cleansed_is_seen heading trust place p since (inl k) =
    (k.b, before_answer heading place p since k.t k.d k.b k.flush.answer k.published)
cleansed_is_seen heading trust place p since (inr k) = (
  k.b,
  before_answer heading place p since k.t2 k.d2 k.b k.second.answer
      (before_answer heading place p k.t2.before k.t1 k.d1 k.b k.first.flush.answer k.first.published),
)

-- ---- the last valid write

module _ (heading : Heading) (trust : Trust) (b : Below heading trust) where
  pub unseen : (place p : ℕ) (since : List Noted)
      → ((q v : ℕ) (n : Noted) (after before : List Noted) → since ≡ after ++ n ∷ before → n.event ≡ Write q place v → ⊥)
      → seen heading place p since ≡ false
  unseen place p since none = by (seen heading place p since) refl
    where
      by : (c : Bool) → seen heading place p since ≡ c → c ≡ false
      by false s = refl
      by true s =
          let k = b.seen.sound place p since s in
          absurd (none k.1.q k.1.value k.1.write (k.1.newer ++ k.0 ∷ k.1.between) k.1.older
          (write_in heading place p since k.0 k.1) k.1.wrote)

  pub seen_stays : (place p : ℕ) (newer since : List Noted) → seen heading place p since ≡ true
      → seen heading place p (newer ++ since) ≡ true
  seen_stays place p newer since s =
      let k = b.seen.sound place p since s in
      b.seen.complete place p (newer ++ since) (k.0, publication_stays heading place p newer since k.0 k.1)

  -- the part of the events after it that came before some of them
  module _ (kind : Kind) (level place : ℕ) where
    pub last_before : (newer h : List Noted) (value : ℕ) (since : List Noted) (w : ValidWrite) → w.value ≡ value
        → w.since ≡ newer ++ since → IsLastValid kind level place (newer ++ h) w
        → IsLastValid kind level place h (record { value = value; since = since })
    last_before newer h value since w same longer k = record {
      pe = k.pe;
      write = k.write;
      older = k.older;
      split = append_left newer h (since ++ k.write ∷ k.older)
          (k.split ∙ (ap (λ (xs : List Noted). xs ++ k.write ∷ k.older) longer ∙ append_assoc newer since (k.write ∷ k.older)));
      wrote = k.wrote ∙ ap (Write k.pe place) same;
      valid = subst (λ (x : ℕ). is_valid kind level x ≡ true) same k.valid;
      last = λ q v n after before i. k.last q v n (newer ++ after) before (longer ∙ later_split newer since after before n i);
      no_init = λ q n after before i. k.no_init q n (newer ++ after) before (longer ∙ later_split newer since after before n i);
    }

    pub last_one_before : (n : Noted) (h since : List Noted) (value : ℕ)
        → last_valid kind level place (n ∷ h) ≡ Some (record { value = value; since = n ∷ since })
        → last_valid kind level place h ≡ Some (record { value = value; since = since })
    last_one_before n h since value e =
        let w : ValidWrite = record { value = value; since = n ∷ since } in
        b.last_valid.complete kind level place h (record { value = value; since = since })
        (last_before (n ∷ []) h value since w refl refl (b.last_valid.sound kind level place (n ∷ h) w e))

-- the last valid write stays where no event ends it
pub last_on : LastValidBySentence → (kind : Kind) (level place : ℕ) (newer h : List Noted) (w : ValidWrite) → Quiet kind level place newer
    → last_valid kind level place h ≡ Some w
    → last_valid kind level place (newer ++ h) ≡ Some (record { value = w.value; since = newer ++ w.since })
last_on laws kind level place newer h w quiet e =
    let k : IsLastValid kind level place h w = laws.sound kind level place h w e in
    laws.complete kind level place (newer ++ h) (record { value = w.value; since = newer ++ w.since }) (record {
      pe = k.pe;
      write = k.write;
      older = k.older;
      split = ap (λ (xs : List Noted). newer ++ xs) k.split ∙ sym (append_assoc newer w.since (k.write ∷ k.older));
      wrote = k.wrote;
      valid = k.valid;
      last = λ q v n after before i is. elim (split_cases newer w.since after before n i) [
        | inl a ↦ quiet.no_write q v n after a.0 a.1 is
        | inr a ↦ k.last q v n a.0 before a.1 is
      ];
      no_init = λ q n after before i is. elim (split_cases newer w.since after before n i) [
        | inl a ↦ quiet.no_init q n after a.0 a.1 is
        | inr a ↦ k.no_init q n a.0 before a.1 is
      ];
    })
