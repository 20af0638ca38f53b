-- What a heading whose numbers are in their ranges says of its parts.
use Rattle.bbm_events.proofs.Common.{◌≡◌, ℕ, ◌≤◌, Bool, true, false, not, ◌&&◌, ◌||◌, cond, nat_lt, nat_le, arith}
use Rattle.bbm_events.proofs.Common.{Hyp, and_parts, leb-true, world_ok, Heading, heading_ok, is_version, may_share}
use Rattle.bbm_events.specs.Heading.{are_pes, no_words, words_ok}

-- what a heading's ranges say of its parts
pub record Ranges (h : Heading) : Type 0 where
  pub version : is_version h.version ≡ true
  pub pes : h.pes ≤ 128
  pub cnp : (may_share h.version || not h.cnp) ≡ true
  pub words : words_ok h.version h.world h.words ≡ true
  pub world : world_ok h.world ≡ true

pes_most : (few : Bool) (pes : ℕ) → (nat_le 1 pes && nat_le pes (cond few 64 128)) ≡ true → pes ≤ 128
pes_most true pes e = let most = leb-true pes 64 (and_parts (nat_le 1 pes) (nat_le pes 64) e).1 in omega (arith, most)
pes_most false pes e = leb-true pes 128 (and_parts (nat_le 1 pes) (nat_le pes 128) e).1

pub ranges : (h : Heading) → heading_ok h ≡ true → Ranges h
ranges h ok =
    let front = and_parts (is_version h.version && are_pes h.version h.pes && (may_share h.version || not h.cnp) && words_ok h.version h.world h.words) (world_ok h.world) ok in
    let said = and_parts (is_version h.version && are_pes h.version h.pes && (may_share h.version || not h.cnp)) (words_ok h.version h.world h.words) front.0 in
    let some = and_parts (is_version h.version && are_pes h.version h.pes) (may_share h.version || not h.cnp) said.0 in
    let both = and_parts (is_version h.version) (are_pes h.version h.pes) some.0 in
    record { version = both.0; pes = pes_most (nat_lt h.version 3) h.pes both.1; cnp = some.1; words = said.1; world = front.1 }

-- a heading, for what is so of every heading
pub any_heading : Heading
any_heading = record {
  version = 1;
  pes = 1;
  cnp = false;
  words = no_words;
  world = Hyp (record { el2_start = 0; s2_start = 0; s2_pages = 1 });
}
