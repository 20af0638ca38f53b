-- The patterns by covers and by top covers: later events keep them, and they follow from the patterns of the rules.
use Rattle.bbm_rules.proofs.Common.{◌≡◌, ℕ, Bool, true, false, List, [], ◌∷◌, ◌++◌, map, refl, sym, ◌∙◌, ap, subst, true≢false}
use Rattle.bbm_rules.proofs.Common.{inl, inr, Cover, Half, Second, Full, Trust, Noted, Answer, Cleansed, Flush, HalfBy}
use Rattle.bbm_rules.proofs.Common.{Publication, Heading, Issued, completes, completes_for, issues, reaches, Open}
use Rattle.bbm_rules.specs.Notes.{event_of, topped}
use Rattle.bbm_rules.specs.PatternSentences.{IsAbove}
use Rattle.bbm_tlb_machine.specs.Entry.{Entry, Part}
use Rattle.bbm_tlb_machine.specs.Invariant.{CleansedAs, FlushAs, HalfAs}
use Rattle.bbm_histories.proofs.PatternLemmas.{answer_stays}

-- ---- later events

-- what is half before a TLBI is half after it
pub half_before : (top : Bool) (heading : Heading) (place p q : ℕ) (since : List Noted) (t2 : Issued Noted) (b : Noted)
    (t : Issued Noted) (d : Noted) → Open event_of q since t2 → HalfAs top heading place p t2.before b t d
    → HalfAs top heading place p since b t d
half_before top heading place p q since t2 b t d o half = record {
  flush = record {
    answer = subst (λ (xs : List Noted). Answer xs t d) (sym o.split)
        (answer_stays o.newer (t2.tlbi ∷ t2.before) t d (answer_stays (t2.tlbi ∷ []) t2.before t d half.flush.answer));
    reached = half.flush.reached;
    covered = half.flush.covered;
  };
  published = half.published;
}

-- ---- by covers

-- they say it of the place of any part
pub at_any : (x : Entry) (part : Part) → false ≡ true → x.last ≡ part
at_any x part t = absurd (true≢false (sym t))

flush_as : (heading : Heading) (cover : Cover) (place p : ℕ) (since : List Noted) (t : Issued Noted) (d : Noted)
    → Flush heading cover place p since t d → FlushAs false heading cover place p since t d
flush_as heading cover place p since t d f = record { answer = f.answer; reached = f.reached; covered = f.covered }

half_as : (heading : Heading) (place p : ℕ) (since : List Noted) (b : Noted) (t : Issued Noted) (d : Noted)
    → HalfBy heading place p since b t d → HalfAs false heading place p since b t d
half_as heading place p since b t d k =
    record { flush = flush_as heading Half place p since t d k.flush; published = k.published }

pub cleansed_as : (heading : Heading) (trust : Trust) (place p : ℕ) (since : List Noted) → Cleansed heading trust place p since
    → CleansedAs false heading place p since
cleansed_as heading trust place p since (inl k) =
    inl (record { b = k.b; t = k.t; d = k.d; published = k.published; flush = flush_as heading Full place p since k.t k.d k.flush })
cleansed_as heading trust place p since (inr k) = inr (record {
  b = k.b;
  t1 = k.t1;
  d1 = k.d1;
  t2 = k.t2;
  d2 = k.d2;
  first = half_as heading place p k.t2.before k.b k.t1 k.d1 k.first;
  second = flush_as heading Second place p since k.t2 k.d2 k.second;
})

-- ---- by top covers

-- the same list without the top covers in the place of the covers
record Lowered (since newer : List Noted) (n : Noted) (older : List Noted) : Type 0 where
  newer' : List Noted
  n' : Noted
  older' : List Noted
  split : since ≡ newer' ++ n' ∷ older'
  newer_is : map topped newer' ≡ newer
  n_is : topped n' ≡ n
  older_is : map topped older' ≡ older

lowered : (since newer : List Noted) (n : Noted) (older : List Noted) → map topped since ≡ newer ++ n ∷ older
    → Lowered since newer n older
lowered [] [] n older e = cc
lowered [] (x ∷ newer) n older e = cc
lowered (m ∷ since) [] n older e =
    let first : topped m ≡ n = cc in
    let rest : map topped since ≡ older = cc in
    record { newer' = []; n' = m; older' = since; split = refl; newer_is = refl; n_is = first; older_is = rest }
lowered (m ∷ since) (x ∷ newer) n older e =
    let first : topped m ≡ x = cc in
    let rest : map topped since ≡ newer ++ n ∷ older = cc in
    let l : Lowered since newer n older = lowered since newer n older rest in
    record {
      newer' = m ∷ l.newer';
      n' = l.n';
      older' = l.older';
      split = ap (λ (xs : List Noted). m ∷ xs) l.split;
      newer_is = ap (λ (y : Noted). y ∷ map topped l.newer') first ∙ ap (λ (xs : List Noted). x ∷ xs) l.newer_is;
      n_is = l.n_is;
      older_is = l.older_is;
    }

-- an item of the lowered list is one of the list
raised : (newer' newer after before : List Noted) (y : Noted) → map topped newer' ≡ newer → newer' ≡ after ++ y ∷ before
    → newer ≡ map topped after ++ topped y ∷ map topped before
raised newer' newer [] before y e s = sym e ∙ ap (map topped) s
raised newer' newer (x ∷ after) before y e s =
    sym e ∙ (ap (map topped) s ∙ ap (λ (xs : List Noted). topped x ∷ xs) (raised (after ++ y ∷ before) (map topped (after ++ y ∷ before)) after before y refl refl))

record OpenBelow (q : ℕ) (since : List Noted) (t : Issued Noted) : Type 0 where
  low : Issued Noted
  is_open : Open event_of q since low
  tlbi_is : topped low.tlbi ≡ t.tlbi
  before_is : map topped low.before ≡ t.before

open_below : (q : ℕ) (since : List Noted) (t : Issued Noted) → Open event_of q (map topped since) t → OpenBelow q since t
open_below q since t o =
    let l : Lowered since o.newer t.tlbi t.before = lowered since o.newer t.tlbi t.before o.split in
    record {
      low = record { tlbi = l.n'; before = l.older' };
      is_open = record {
        newer = l.newer';
        split = l.split;
        issued = subst (λ (n : Noted). issues q n.event ≡ true) (sym l.n_is) o.issued;
        uncompleted = λ y after before s.
            subst (λ (n : Noted). completes_for q n.event y.event ≡ false) (sym l.n_is)
            (o.uncompleted (topped y) (map topped after) (map topped before) (raised l.newer' o.newer after before y l.newer_is s));
      };
      tlbi_is = l.n_is;
      before_is = l.older_is;
    }

record PublicationBelow (heading : Heading) (place p : ℕ) (since : List Noted) (b : Noted) : Type 0 where
  low : Noted
  published : Publication heading place p since low
  position : low.position ≡ b.position

publication_below : (heading : Heading) (place p : ℕ) (since : List Noted) (b : Noted)
    → Publication heading place p (map topped since) b → PublicationBelow heading place p since b
publication_below heading place p since b k =
    let l : Lowered since k.newer b (k.between ++ k.write ∷ k.older) = lowered since k.newer b (k.between ++ k.write ∷ k.older) k.split in
    let m : Lowered l.older' k.between k.write k.older = lowered l.older' k.between k.write k.older l.older_is in
    record {
      low = l.n';
      published = record {
        q = k.q;
        dsb = k.dsb;
        value = k.value;
        write = m.n';
        newer = l.newer';
        between = m.newer';
        older = m.older';
        split = l.split ∙ ap (λ (xs : List Noted). l.newer' ++ l.n' ∷ xs) m.split;
        wrote = ap (λ (n : Noted). n.event) m.n_is ∙ k.wrote;
        barrier = ap (λ (n : Noted). n.event) l.n_is ∙ k.barrier;
        publishes = k.publishes;
      };
      position = ap (λ (n : Noted). n.position) l.n_is;
    }

record FlushBelow (heading : Heading) (cover : Cover) (place p : ℕ) (since : List Noted) (t : Issued Noted) (d : Noted) : Type 0 where
  low : Issued Noted
  answer : Noted
  flush : FlushAs true heading cover place p since low answer
  before_is : map topped low.before ≡ t.before
  position : answer.position ≡ d.position

flush_below : (heading : Heading) (cover : Cover) (place p : ℕ) (since : List Noted) (t : Issued Noted) (d : Noted)
    → Flush heading cover place p (map topped since) t d → FlushBelow heading cover place p since t d
flush_below heading cover place p since t d f =
    let a : Answer (map topped since) t d = f.answer in
    let l : Lowered since a.newer d a.older = lowered since a.newer d a.older a.split in
    let o : OpenBelow a.q l.older' t = open_below a.q l.older' t (subst (λ (xs : List Noted). Open event_of a.q xs t) (sym l.older_is) a.is_open) in
    record {
      low = o.low;
      answer = l.n';
      flush = record {
        answer = record {
          q = a.q;
          dsb = a.dsb;
          newer = l.newer';
          older = l.older';
          split = l.split;
          barrier = ap (λ (n : Noted). n.event) l.n_is ∙ a.barrier;
          is_open = o.is_open;
          completed = subst (λ (n : Noted). completes a.dsb n.event ≡ true) (sym o.tlbi_is) a.completed;
        };
        reached = subst (λ (n : Noted). reaches heading n.event p ≡ true) (sym o.tlbi_is) f.reached;
        covered = ap (λ (n : Noted). n.covers place) o.tlbi_is ∙ f.covered;
      };
      before_is = o.before_is;
      position = ap (λ (n : Noted). n.position) l.n_is;
    }

record HalfBelow (heading : Heading) (place p : ℕ) (since : List Noted) : Type 0 where
  b : Noted
  t : Issued Noted
  d : Noted
  half : HalfAs true heading place p since b t d

half_below : (heading : Heading) (place p : ℕ) (since : List Noted) (b : Noted) (t : Issued Noted) (d : Noted)
    → HalfBy heading place p (map topped since) b t d → HalfBelow heading place p since
half_below heading place p since b t d k =
    let f : FlushBelow heading Half place p since t d = flush_below heading Half place p since t d k.flush in
    let u : PublicationBelow heading place p f.low.before b = publication_below heading place p f.low.before b
    (subst (λ (xs : List Noted). Publication heading place p xs b) (sym f.before_is) k.published) in
    record { b = u.low; t = f.low; d = f.answer; half = record { flush = f.flush; published = u.published } }

pub above_as : (heading : Heading) (trust : Trust) (place p : ℕ) (since : List Noted) → IsAbove heading trust place p since
    → CleansedAs true heading place p since
above_as heading trust place p since (inl k) =
    let f : FlushBelow heading Full place p since k.t k.d = flush_below heading Full place p since k.t k.d k.flush in
    let u : PublicationBelow heading place p f.low.before k.b = publication_below heading place p f.low.before k.b
    (subst (λ (xs : List Noted). Publication heading place p xs k.b) (sym f.before_is) k.published) in
    inl (record { b = u.low; t = f.low; d = f.answer; published = u.published; flush = f.flush })
above_as heading trust place p since (inr k) =
    let f : FlushBelow heading Second place p since k.t2 k.d2 = flush_below heading Second place p since k.t2 k.d2 k.second in
    let l : HalfBelow heading place p f.low.before = half_below heading place p f.low.before k.b k.t1 k.d1
    (subst (λ (xs : List Noted). HalfBy heading place p xs k.b k.t1 k.d1) (sym f.before_is) k.first) in
    inr (record { b = l.b; t1 = l.t; d1 = l.d; t2 = f.low; d2 = f.answer; first = l.half; second = f.flush })
