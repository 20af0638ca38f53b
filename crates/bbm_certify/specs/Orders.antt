-- Claims of one event that are put in their order. No public contract cites these words. Source: project's own choice.
use Rattle.std.specs.Prelude.{◌≡◌, ◌⊎◌, ℕ, List, [], ◌∷◌}
use Rattle.bbm_events.specs.declared.claim.Claim.{Claim}
use Rattle.bbm_lemmas.specs.Elements.{In}
use Rattle.bbm_certify.specs.LeastClaims.{Ascending, claim_key}
use Rattle.bbm_certify.specs.declared.sorted.Key.{Key}
use Rattle.bbm_certify.specs.declared.sorted.TagKey.{TagKey}

-- a key as a list
abbrev pub key_list : Key → List ℕ
key_list k = k.sort ∷ k.first ∷ k.second ∷ k.pe ∷ []

abbrev pub tag_keys : TagKey → List ℕ
tag_keys k = k.sort ∷ k.number ∷ []

-- some claim of the list has the key of this one
abbrev pub HasKey : List Claim → Claim → Type 0
HasKey cs c = (d : Claim) × In cs d × (claim_key d ≡ claim_key c)

-- Claims were added, each of which is one of these, and for each of these there is one with its key. The order stays.
pub record Adds (These : Claim → Type 0) (old new : List Claim) : Type 0 where
  pub sorted : Ascending old → Ascending new
  pub from : (c : Claim) → In new c → In old c ⊎ These c
  pub kept : (c : Claim) → In old c → In new c
  pub has : (c : Claim) → These c → HasKey new c
