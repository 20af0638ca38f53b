-- A TLBI that is noted at the places that were found, where it covers no other broken place.
use Rattle.bbm_replay.proofs.Common.{marks_at, pends_at, Covering, FoundAs, is_found, Found, IsSettled, Noted}
use Rattle.bbm_replay.proofs.Common.{Pends, PlaceMap, notes, state_from}
use Rattle.bbm_rules.proofs.Common.{◌≡◌, ℕ, true, false, List, [], None, is_some, refl, sym, ◌∙◌, ap, subst}
use Rattle.bbm_rules.proofs.Common.{not-suc-le-zero, Cover, Patterns, PeMask, cover_at, Tlbi, Result, Err}
use Rattle.bbm_tlbi_scope.specs.declared.entry.Cover.TheVariants.{None as NoCover}
use Rattle.bbm_replay.specs.Covering.{AreCovered, IsNoted, NotesEach}
use Rattle.bbm_regimes.specs.declared.regime.NoMemory.{NoMemory}
use Rattle.bbm_replay.proofs.Cases.{either}
use Rattle.bbm_replay.proofs.Unmet.{noted_none}

-- nothing changes
pub not_noted : (map : PlaceMap) (by : Covering) (pe : ℕ) (reach : PeMask) (r : Result (Unit {0}) NoMemory)
    (e : NoMemory) → r ≡ Err e → IsNoted by pe reach map map r
not_noted map by pe reach r e is = subst (λ x. IsNoted by pe reach map map x) (sym is) (record {
  noted = tt;
  only = record {
    others = λ q a k. refl;
    marks = λ a. refl;
    same = record { values = λ a. refl; pages = refl; restless = refl; places = λ i. refl };
  };
  kept = record {
    values = λ a. refl;
    marks = λ a. refl;
    pends = λ q a. refl;
    pages = refl;
    restless = refl;
    places = λ i. refl;
  };
})

module _ (old : PlaceMap) (by : Covering) where
  pub none_covered : (xs : List Found) → xs ≡ [] → AreCovered old by xs
  none_covered xs e = subst (λ (ys : List Found). AreCovered old by ys) (sym e)
      (λ heading h pe op xt m i d below. absurd (not-suc-le-zero below))

  module _ (pe : ℕ) (reach : PeMask) (new : PlaceMap) where
    abbrev Notes : ℕ → Cover → Pends → Type 0
    Notes a cover p =
        Noted (state_from None (marks_at old a)) (pends_at old pe a) reach by.named.now.scope.broadcast cover p

    pub noted_found : (items found : List Found) → found ≡ items → AreCovered old by items
        → ((a : ℕ) → IsSettled old by items a)
        → ((a : ℕ) → is_found found a ≡ false → pends_at new pe a ≡ pends_at old pe a)
        → ((f : ℕ → Cover) → FoundAs found f → (a : ℕ) → is_found found a ≡ true → is_some (marks_at old a) ≡ true
        → Notes a (f a) (pends_at new pe a))
        → NotesEach by pe reach old new
    noted_found items found same covers rest unnoted noted heading h op xt m a broken =
        either (is_found found a) hit quiet
      where
        f : ℕ → Cover
        f = cover_at heading Patterns (notes heading h) (Tlbi pe op xt)

        hit : is_found found a ≡ true → Notes a (f a) (pends_at new pe a)
        hit e = noted f (subst (λ (xs : List Found). FoundAs xs f) (sym same) (covers heading h pe op xt m)) a e broken

        quiet : is_found found a ≡ false → Notes a (f a) (pends_at new pe a)
        quiet e =
            let away : f a ≡ NoCover
            = sym (rest a broken (ap (λ (xs : List Found). is_found xs a) (sym same) ∙ e) heading h pe op xt m) in
            subst (λ (k : Cover). Notes a k (pends_at new pe a)) (sym away)
            (subst (λ (p : Pends). Notes a NoCover p) (sym (unnoted a e))
            (noted_none (state_from None (marks_at old a)) (pends_at old pe a) reach by.named.now.scope.broadcast))
