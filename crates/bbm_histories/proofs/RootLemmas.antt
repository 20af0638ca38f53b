-- The declared roots before and after one event.
use Rattle.bbm_histories.proofs.Common.{Kind}
use Rattle.bbm_rules.proofs.Common.{◌≡◌, ℕ, ◌⊎◌, List, [], ◌∷◌, ◌++◌, Option, refl, sym, ◌∙◌, ap, inl, inr, Event, Root}
use Rattle.bbm_rules.proofs.Common.{Unroot, Declared, IsDeclared}

-- a root is an old one, or the event declares it
pub declared_back : (e : Event) (h : List Event) (r : Declared) → IsDeclared (e ∷ h) r
    → IsDeclared h r ⊎ ((q : ℕ) × (e ≡ Root q r.kind r.lock r.page))
declared_back e h r k = by k.newer refl k.split
  where
    by : (newer : List Event) → k.newer ≡ newer → e ∷ h ≡ newer ++ Root k.pe r.kind r.lock r.page ∷ k.older
        → IsDeclared h r ⊎ ((q : ℕ) × (e ≡ Root q r.kind r.lock r.page))
    by [] is split = inr (k.pe, cc)
    by (y ∷ newer) is split = inl (record {
      pe = k.pe;
      newer = newer;
      older = k.older;
      split = cc;
      last = λ q kind lock after before i. k.last q kind lock (y ∷ after) before (is ∙ ap (λ (xs : List Event). y ∷ xs) i);
      not_retired = λ q after before i. k.not_retired q (y ∷ after) before (is ∙ ap (λ (xs : List Event). y ∷ xs) i);
    })

-- and the event doesn't retire it
pub not_retired : (e : Event) (h : List Event) (r : Declared) → IsDeclared (e ∷ h) r → (q : ℕ) → e ≡ Unroot q r.page → ⊥
not_retired e h r k q retires = by k.newer refl k.split
  where
    by : (newer : List Event) → k.newer ≡ newer → e ∷ h ≡ newer ++ Root k.pe r.kind r.lock r.page ∷ k.older → ⊥
    by [] is split = let apart : Unroot q r.page ≡ Root k.pe r.kind r.lock r.page = cc in cc
    by (y ∷ newer) is split =
        let first : e ≡ y = cc in
        k.not_retired q [] newer (is ∙ ap (λ (x : Event). x ∷ newer) (sym first ∙ retires))

-- a root stays, where the event neither declares its page nor retires it
pub declared_on : (e : Event) (h : List Event) (r : Declared) → IsDeclared h r
    → ((q : ℕ) (kind : Kind) (lock : Option ℕ) → e ≡ Root q kind lock r.page → ⊥) → ((q : ℕ) → e ≡ Unroot q r.page → ⊥)
    → IsDeclared (e ∷ h) r
declared_on e h r k no_root no_unroot = record {
  pe = k.pe;
  newer = e ∷ k.newer;
  older = k.older;
  split = ap (λ (xs : List Event). e ∷ xs) k.split;
  last = λ q kind lock after before s. last q kind lock after before s;
  not_retired = λ q after before s. retired q after before s;
}
  where
    last : (q : ℕ) (kind : Kind) (lock : Option ℕ) (after before : List Event)
        → e ∷ k.newer ≡ after ++ Root q kind lock r.page ∷ before → ⊥
    last q kind lock [] before s = let first : e ≡ Root q kind lock r.page = cc in no_root q kind lock first
    last q kind lock (x ∷ after) before s =
        let rest : k.newer ≡ after ++ Root q kind lock r.page ∷ before = cc in k.last q kind lock after before rest

    retired : (q : ℕ) (after before : List Event) → e ∷ k.newer ≡ after ++ Unroot q r.page ∷ before → ⊥
    retired q [] before s = let first : e ≡ Unroot q r.page = cc in no_unroot q first
    retired q (x ∷ after) before s =
        let rest : k.newer ≡ after ++ Unroot q r.page ∷ before = cc in k.not_retired q after before rest
