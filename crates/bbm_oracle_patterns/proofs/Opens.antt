-- Unanswered TLBIs after one more event.
use Rattle.bbm_rules.proofs.Common.{◌≡◌, ℕ, Bool, true, false, cond, ◌&&◌, ◌||◌, not, nat_eq, List, [], ◌∷◌, refl, sym}
use Rattle.bbm_rules.proofs.Common.{◌∙◌, ap, false≢true, any-filter_same, proved, Is, answers, Cover, operation}
use Rattle.bbm_rules.proofs.Common.{answers_one, any, Noted, Barrier, Event, Dsb, Tlbi, Issued, completes, left_open}
use Rattle.bbm_rules.proofs.Common.{unanswered, same_flag, and_comm, and-true, or_comm, or-false, first_true}
use Rattle.bbm_tlbi_scope.specs.declared.op.TlbiOp.{TlbiOp}
use Rattle.bbm_rules.specs.Cleansing.{is_completed}
use Rattle.bbm_rules.specs.Notes.{event_of}
use Rattle.bbm_oracle_patterns.specs.Relation.{is_open}
use Rattle.bbm_oracle_patterns.specs.Walk.{IsOpen, is_of, open_to}
use Rattle.bbm_oracle_patterns.specs.declared.open.Open.{Open}
use Rattle.bbm_oracle_patterns.proofs.Bits.{same_flag-true}
use Rattle.bbm_lemmas.proofs.Bools.{is_none_of_two}

-- ---- tests

pick : (answer : Bool → Bool) (b : Bool) → answer b ≡ ((answer true && b) || (answer false && not b))
pick answer true = proved 2 (λ a c. Is a ((a && true) || (c && false))) refl (answer true) (answer false)
pick answer false = proved 2 (λ a c. Is c ((a && false) || (c && true))) refl (answer true) (answer false)

mix : (a c x y k u v : Bool) →
    ((((a && x) || (c && y)) && k) || ((a && u) || (c && v))) ≡ ((a && ((x && k) || u)) || (c && ((y && k) || v)))
mix = proved 7 (λ a c x y k u v. Is ((((a && x) || (c && y)) && k) || ((a && u) || (c && v))) ((a && ((x && k) || u)) ||
    (c && ((y && k) || v)))) refl

-- ---- a DSB

completes_is : (dsb : Barrier) (e : Event) → completes dsb e
    ≡ ((answers dsb true && is_of true e) || (answers dsb false && is_of false e))
completes_is dsb (Tlbi pe op xt) = pick (answers dsb) (operation op).broadcast
completes_is dsb _ = is_none_of_two (answers dsb true) (answers dsb false)

completes_by : (dsb : Barrier) (b : Bool) (e : Event) → is_of b e ≡ true → completes dsb e ≡ answers dsb b
completes_by dsb b (Tlbi pe op xt) k = ap (answers dsb) (same_flag-true b (operation op).broadcast k)
completes_by dsb b _ k = absurd (false≢true k)

-- a test of the TLBIs that are broadcast, or of the others
abbrev pub test_of : Bool → (Issued Noted → Bool) → Issued Noted → Bool
test_of b test t = is_of b t.tlbi.event && test t

answered_split : (dsb : Barrier) (test : Issued Noted → Bool) (ts : List (Issued Noted))
    → any (is_completed dsb test) ts
    ≡ ((answers dsb true && any (test_of true test) ts) || (answers dsb false && any (test_of false test) ts))
answered_split dsb test [] = is_none_of_two (answers dsb true) (answers dsb false)
answered_split dsb test (t ∷ ts) =
    ap (λ (b : Bool). (b && test t) || any (is_completed dsb test) ts) (completes_is dsb t.tlbi.event)
    ∙ ap (λ (b : Bool). (((answers dsb true && is_of true t.tlbi.event)
    || (answers dsb false && is_of false t.tlbi.event)) && test t) || b) (answered_split dsb test ts)
    ∙ mix (answers dsb true) (answers dsb false) (is_of true t.tlbi.event) (is_of false t.tlbi.event) (test t)
    (any (test_of true test) ts) (any (test_of false test) ts)

left_any : (dsb : Barrier) (test : Issued Noted → Bool) (b : Bool) (ts : List (Issued Noted)) →
    any (test_of b test) (left_open event_of dsb ts) ≡ (any (test_of b test) ts && not (answers dsb b))
left_any dsb test b ts =
    any-filter_same (test_of b test) (λ t. not (completes dsb (event_of t.tlbi))) (not (answers dsb b))
    (λ t k. ap not (completes_by dsb b t.tlbi.event (first_true (is_of b t.tlbi.event) (test t) k))) ts
    ∙ and_comm (not (answers dsb b)) (any (test_of b test) ts)

module _ (o : Open) (test : ℕ → Issued Noted → Bool) (since : List Noted) (is : IsOpen o test since)
    (covers tops : ℕ → Cover) (position pe : ℕ) where
  -- what the DSB answers
  pub answered_by : (dsb : Barrier) (p : ℕ) →
      ((answers dsb true && is_open o pe true p) || (answers dsb false && is_open o pe false p))
      ≡ answers_one (test p) (Dsb pe dsb) since
  answered_by dsb p =
      ap (λ (b : Bool). (answers dsb true && b) || (answers dsb false && is_open o pe false p)) (is.by pe true p)
      ∙ ap (λ (b : Bool). (answers dsb true && open_to (test p) true pe since) || (answers dsb false && b))
      (is.by pe false p)
      ∙ sym (answered_split dsb (test p) (unanswered event_of pe since))

  -- what it leaves
  pub after_dsb : (dsb : Barrier) (left : Open) →
      ((q : ℕ) (b : Bool) (p : ℕ) → is_open left q b p ≡ (is_open o q b p && not (nat_eq pe q && answers dsb b))) →
      IsOpen left test (record { event = Dsb pe dsb; covers = covers; tops = tops; position = position } ∷ since)
  after_dsb dsb left e = record {
    by = λ q b p.
        e q b p
        ∙ ap (λ (x : Bool). x && not (nat_eq pe q && answers dsb b)) (is.by q b p)
        ∙ at q b p (nat_eq pe q);
  }
    where
      at : (q : ℕ) (b : Bool) (p : ℕ) (k : Bool) →
          (any (test_of b (test p)) (unanswered event_of q since) && not (k && answers dsb b))
          ≡ any (test_of b (test p)) (cond k (left_open event_of dsb (unanswered event_of q since))
          (unanswered event_of q since))
      at q b p true = sym (left_any dsb (test p) b (unanswered event_of q since))
      at q b p false = and-true (any (test_of b (test p)) (unanswered event_of q since))

  -- one TLBI more
  pub after_tlbi : (op : TlbiOp) (xt : ℕ) (more : Open) (counts : ℕ → Bool) →
      ((q : ℕ) (b : Bool) (p : ℕ) → is_open more q b p
      ≡ (is_open o q b p || (nat_eq pe q && (same_flag b (operation op).broadcast && counts p)))) →
      ((p : ℕ) → counts p ≡ test p (record {
        tlbi =
            record { event = Tlbi pe op xt; covers = covers; tops = tops; position = position };
        before = since;
      })) →
      IsOpen more test (record { event = Tlbi pe op xt; covers = covers; tops = tops; position = position } ∷ since)
  after_tlbi op xt more counts e c = record {
    by = λ q b p.
        e q b p
        ∙ ap (λ (x : Bool). is_open o q b p || (nat_eq pe q && (same_flag b (operation op).broadcast && x))) (c p)
        ∙ ap (λ (x : Bool). x || (nat_eq pe q && test_of b (test p) issued)) (is.by q b p)
        ∙ at q b p (nat_eq pe q);
  }
    where
      issued : Issued Noted
      issued = record { tlbi = record { event = Tlbi pe op xt; covers = covers; tops = tops; position = position }; before = since }

      at : (q : ℕ) (b : Bool) (p : ℕ) (k : Bool) →
          (any (test_of b (test p)) (unanswered event_of q since) || (k && test_of b (test p) issued))
          ≡ any (test_of b (test p)) (cond k (issued ∷ unanswered event_of q since) (unanswered event_of q since))
      at q b p true = or_comm (any (test_of b (test p)) (unanswered event_of q since)) (test_of b (test p) issued)
      at q b p false = or-false (any (test_of b (test p)) (unanswered event_of q since))
