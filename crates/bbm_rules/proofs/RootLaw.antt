-- The roots of a history are those that the sentence names, and a page has one at most.
use Rattle.bbm_rules.proofs.Common.{◌≡◌, ℕ, Bool, true, false, cond, not, ◌&&◌, ◌==◌, List, [], ◌∷◌, ◌++◌, Option, Some}
use Rattle.bbm_rules.proofs.Common.{Contains, find, refl, sym, ◌∙◌, ap, subst, inl, inr, true≢false, and_from}
use Rattle.bbm_rules.proofs.Common.{and_parts, eqb-true, false_from_ne_true, not-true, not_from_false, or_from}
use Rattle.bbm_rules.proofs.Common.{or_parts, Event, Root, Unroot, In, any_finds, any_found, from_contains, from_filter}
use Rattle.bbm_rules.proofs.Common.{to_contains, to_filter, any, Declared, is_at, is_root, retired, root_at, roots_of}
use Rattle.bbm_rules.proofs.Common.{same_kind, IsDeclared}
use Rattle.bbm_rules.specs.Prelude.{Kind}
use Rattle.bbm_rules.proofs.SameRegister.{kind_equal, kind_self}
use Rattle.bbm_lemmas.proofs.Words.{same_number}
use Rattle.bbm_rules.proofs.ListLemmas.{found}
use Rattle.bbm_rules.proofs.SearchLemmas.{is_none_at, none_at}

pub kept_page : (page : ℕ) (rs : List Declared) (r : Declared) → In (retired page rs) r → In rs r × ((r.page == page) ≡ false)
kept_page page rs r i =
    let k = from_filter (λ (s : Declared). not (is_at page s)) rs r i in (k.0, not-true (r.page == page) k.1)

still_there : (page : ℕ) (rs : List Declared) (r : Declared) → In rs r → (r.page == page) ≡ false → In (retired page rs) r
still_there page rs r i other =
    to_filter (λ (s : Declared). not (is_at page s)) rs r i (not_from_false (r.page == page) other)

-- whether the event is a `root` or an `unroot` of the page
abbrev redeclares : ℕ → Event → Bool
redeclares page (Root q kind lock at) = page == at
redeclares page (Unroot q at) = page == at
redeclares page _ = false

record Since (h : List Event) (r : Declared) : Type 0 where
  pe : ℕ
  newer : List Event
  older : List Event
  split : h ≡ newer ++ Root pe r.kind r.lock r.page ∷ older
  kept : any (redeclares r.page) newer ≡ false

further : (e : Event) (h : List Event) (r : Declared) → redeclares r.page e ≡ false → Since h r → Since (e ∷ h) r
further e h r other k = record {
  pe = k.pe;
  newer = e ∷ k.newer;
  older = k.older;
  split = ap (λ es. e ∷ es) k.split;
  kept = or_from (redeclares r.page e) (any (redeclares r.page) k.newer) other k.kept;
}

sound : (h : List Event) (r : Declared) → In (roots_of h) r → Since h r
sound [] r i = absurd i
sound (Root pe kind lock page ∷ h) r (inl same) =
    subst (λ (s : Declared). Since (Root pe kind lock page ∷ h) s) same
    (record { pe = pe; newer = []; older = h; split = refl; kept = refl })
sound (Root pe kind lock page ∷ h) r (inr i) =
    let k = kept_page page (roots_of h) r i in further (Root pe kind lock page) h r k.1 (sound h r k.0)
sound (Unroot pe page ∷ h) r i =
    let k = kept_page page (roots_of h) r i in further (Unroot pe page) h r k.1 (sound h r k.0)
sound (e ∷ h) r i = further e h r refl (sound h r i)

-- a search for one page finds the same after another page was retired
find_past : (page at : ℕ) (s : Declared) (rest left : Option Declared) (b : Bool) → (s.page == at) ≡ b → (page == at) ≡ false
    → left ≡ rest → (ss : List Declared) → find (is_at page) ss ≡ left
    → find (is_at page) (cond (not b) (s ∷ ss) ss) ≡ cond (s.page == page) (Some s) rest
find_past page at s rest left false e other same ss k = ap (cond (s.page == page) (Some s)) (k ∙ same)
find_past page at s rest left true e other same ss k =
    k ∙ (same ∙ sym (ap (λ b. cond b (Some s) rest) (false_from_ne_true (s.page == page) apart)))
  where
    apart : (s.page == page) ≡ true → ⊥
    apart here =
        let s_at : s.page ≡ at = eqb-true s.page at e in
        let s_page : s.page ≡ page = eqb-true s.page page here in
        let eq : page ≡ at = cc in
        true≢false (sym (ap (λ n. n == at) eq ∙ same_number at) ∙ other)

find_kept : (page at : ℕ) (rs : List Declared) → (page == at) ≡ false
    → find (is_at page) (retired at rs) ≡ find (is_at page) rs
find_kept page at [] other = refl
find_kept page at (s ∷ rs) other =
    find_past page at s (find (is_at page) rs) (find (is_at page) (retired at rs)) (s.page == at) refl other
    (find_kept page at rs other) (retired at rs) refl

complete : (newer older : List Event) (pe : ℕ) (r : Declared) → any (redeclares r.page) newer ≡ false
    → In (roots_of (newer ++ Root pe r.kind r.lock r.page ∷ older)) r
complete [] older pe r none = inl refl
complete (Root q kind lock page ∷ newer) older pe r none =
    let k = or_parts (r.page == page) (any (redeclares r.page) newer) none in
    inr (still_there page (roots_of (newer ++ Root pe r.kind r.lock r.page ∷ older)) r (complete newer older pe r k.1) k.0)
complete (Unroot q page ∷ newer) older pe r none =
    let k = or_parts (r.page == page) (any (redeclares r.page) newer) none in
    still_there page (roots_of (newer ++ Root pe r.kind r.lock r.page ∷ older)) r (complete newer older pe r k.1) k.0
complete (e ∷ newer) older pe r none = complete newer older pe r none

found_at : (newer older : List Event) (pe : ℕ) (r : Declared) → any (redeclares r.page) newer ≡ false
    → root_at (newer ++ Root pe r.kind r.lock r.page ∷ older) r.page ≡ Some r
found_at [] older pe r none =
    ap (λ b. cond b (Some r) (find (is_at r.page) (retired r.page (roots_of older)))) (same_number r.page)
found_at (Root q kind lock page ∷ newer) older pe r none =
    let k = or_parts (r.page == page) (any (redeclares r.page) newer) none in
    let h : List Event = newer ++ Root pe r.kind r.lock r.page ∷ older in
    let new : Declared = record { page = page; kind = kind; lock = lock } in
    ap (λ b. cond b (Some new) (find (is_at r.page) (retired page (roots_of h))))
    (false_from_ne_true (page == r.page) (λ e. apart page k.0 (eqb-true page r.page e)))
    ∙ (find_kept r.page page (roots_of h) k.0 ∙ found_at newer older pe r k.1)
  where
    apart : (page : ℕ) → (r.page == page) ≡ false → page ≡ r.page → ⊥
    apart page other e = true≢false (sym (ap (λ n. r.page == n) e ∙ same_number r.page) ∙ other)
found_at (Unroot q page ∷ newer) older pe r none =
    let k = or_parts (r.page == page) (any (redeclares r.page) newer) none in
    let h : List Event = newer ++ Root pe r.kind r.lock r.page ∷ older in
    find_kept r.page page (roots_of h) k.0 ∙ found_at newer older pe r k.1
found_at (e ∷ newer) older pe r none = found_at newer older pe r none

-- the test on the newer events, from the clauses of the sentence
kept_by : (page : ℕ) (newer : List Event)
    (last : (q : ℕ) (kind : Kind) (lock : Option ℕ) (after before : List Event) → newer ≡ after ++ Root q kind lock page ∷ before → ⊥)
    (not_retired : (q : ℕ) (after before : List Event) → newer ≡ after ++ Unroot q page ∷ before → ⊥)
    (e : Event) (after before : List Event) → newer ≡ after ++ e ∷ before → redeclares page e ≡ false
kept_by page newer last not_retired (Root q kind lock at) after before split =
    false_from_ne_true (page == at) (λ k. last q kind lock after before
    (split ∙ ap (λ n. after ++ Root q kind lock n ∷ before) (sym (eqb-true page at k))))
kept_by page newer last not_retired (Unroot q at) after before split =
    false_from_ne_true (page == at) (λ k. not_retired q after before
    (split ∙ ap (λ n. after ++ Unroot q n ∷ before) (sym (eqb-true page at k))))
kept_by page newer last not_retired e after before split = refl

as_since : (h : List Event) (r : Declared) → IsDeclared h r → Since h r
as_since h r d = record {
  pe = d.pe;
  newer = d.newer;
  older = d.older;
  split = d.split;
  kept = is_none_at (redeclares r.page) d.newer (kept_by r.page d.newer d.last d.not_retired);
}

pub root_sound : (h : List Event) (r : Declared) → Contains (roots_of h) r → IsDeclared h r
root_sound h r c =
    let s : Since h r = sound h r (from_contains (roots_of h) r c) in
    record {
      pe = s.pe;
      newer = s.newer;
      older = s.older;
      split = s.split;
      last = λ q kind lock after before e.
          true≢false (sym (same_number r.page)
          ∙ none_at (redeclares r.page) s.newer s.kept (Root q kind lock r.page) after before e);
      not_retired = λ q after before e.
          true≢false (sym (same_number r.page)
          ∙ none_at (redeclares r.page) s.newer s.kept (Unroot q r.page) after before e);
    }

pub root_complete : (h : List Event) (r : Declared) → IsDeclared h r → Contains (roots_of h) r
root_complete h r d =
    let s : Since h r = as_since h r d in
    to_contains (roots_of h) r
    (subst (λ (es : List Event). In (roots_of es) r) (sym s.split) (complete s.newer s.older s.pe r s.kept))

pub root_found : (h : List Event) (r : Declared) → IsDeclared h r → root_at h r.page ≡ Some r
root_found h r d =
    let s : Since h r = as_since h r d in
    ap (λ es. root_at es r.page) s.split ∙ found_at s.newer s.older s.pe r s.kept

pub root_of_page : (h : List Event) (page : ℕ) (r : Declared) → root_at h page ≡ Some r → IsDeclared h r × (r.page ≡ page)
root_of_page h page r e =
    let f = found (is_at page) (roots_of h) r e in
    (root_sound h r (to_contains (roots_of h) r f.0), eqb-true r.page page f.1)

pub root_of_kind : (h : List Event) (kind : Kind) (page : ℕ) → is_root h kind page ≡ true
    → (r : Declared) × IsDeclared h r × (r.page ≡ page) × (r.kind ≡ kind)
root_of_kind h kind page k =
    let f = any_found (λ (r : Declared). is_at page r && same_kind r.kind kind) (roots_of h) k in
    let parts = and_parts (is_at page f.0) (same_kind f.0.kind kind) f.2 in
    (f.0, root_sound h f.0 (to_contains (roots_of h) f.0 f.1), eqb-true f.0.page page parts.0, kind_equal f.0.kind kind parts.1)

pub is_root_of_kind : (h : List Event) (r : Declared) → IsDeclared h r → is_root h r.kind r.page ≡ true
is_root_of_kind h r d =
    any_finds (λ (s : Declared). is_at r.page s && same_kind s.kind r.kind) (roots_of h) r
    (from_contains (roots_of h) r (root_complete h r d))
    (and_from (is_at r.page r) (same_kind r.kind r.kind) (same_number r.page) (kind_self r.kind))
