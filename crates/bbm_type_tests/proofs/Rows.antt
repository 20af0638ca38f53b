-- Tables of values that were worked out by hand: in each row stands what a definition is asked, and last what it gives.
use Rattle.bbm_type_tests.proofs.Common.{◌≡◌, List, map}

abbrev pub Gives : {A B : Type 0} → (A → B) → List (A × B) → Type 0
Gives f rows = map (λ row. f row.0) rows ≡ map (λ row. row.1) rows

abbrev pub Gives2 : {A B C : Type 0} → (A → B → C) → List (A × B × C) → Type 0
Gives2 f rows = map (λ row. f row.0 row.1) rows ≡ map (λ row. row.2) rows

abbrev pub Gives3 : {A B C D : Type 0} → (A → B → C → D) → List (A × B × C × D) → Type 0
Gives3 f rows = map (λ row. f row.0 row.1 row.2) rows ≡ map (λ row. row.3) rows

abbrev pub Gives4 : {A B C D E : Type 0} → (A → B → C → D → E) → List (A × B × C × D × E) → Type 0
Gives4 f rows = map (λ row. f row.0 row.1 row.2 row.3) rows ≡ map (λ row. row.4) rows
