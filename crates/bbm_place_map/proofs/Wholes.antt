-- What a write leaves, by the calls that it makes.
use Rattle.bbm_place_map.proofs.Common.{◌≡◌, ℕ, nat_eq, Option, Some, refl, ap, ◌∙◌, subst, if◌then◌else◌, Core}
use Rattle.bbm_place_map.proofs.Common.{Written, Marks, EntryState, Live, marks_of_state, Clean, Leaves, PlaceMap}
use Rattle.bbm_place_map.specs.MapCalls.{WritesAs}
use Rattle.bbm_place_map.specs.Map.{pages_of, marks_at, pends_at, value_at}

-- a valid value makes it live
pub made : (old : EntryState) (pe : ℕ) (core : Core) → Written old pe (Some core) (Live core)
made old pe core = record {
  core = refl;
  broken = refl;
  writers = λ p. refl;
  seen = λ p. refl;
  half = λ p. refl;
  clean = λ p. refl;
}

-- a place that is live after has nothing that waits, as one that is clean
pub left_live : {place : ℕ} {old new : PlaceMap} (core : Core) → Leaves Clean place old new → Leaves (Live core) place old new
left_live core left = record { marks = left.marks; pends = left.pends; dropped = left.dropped }

-- it is the same over another map that tells the same, at a place in an equal state
pub writes_over : {before : EntryState} {pe : ℕ} {core : Option Core} {value place : ℕ} {old new : PlaceMap}
    → WritesAs before pe core value place old new → (was : EntryState) (map : PlaceMap) → before ≡ was
    → ((a : ℕ) → value_at old a ≡ value_at map a) → pages_of old ≡ pages_of map
    → ((a : ℕ) → marks_at old a ≡ marks_at map a) → ((q a : ℕ) → pends_at old q a ≡ pends_at map q a)
    → WritesAs was pe core value place map new
writes_over {before} {pe} {core} {value} {place} w was map is values pages marks pends =
    let after = w.written.0 in
    let left = w.written.2 in
    record {
      written = (
        after,
        subst (λ (x : EntryState). Written x pe core after) is w.written.1,
        record {
          marks = λ a. left.marks a ∙ ap (λ (m : Option Marks). if nat_eq a place then marks_of_state after else m) (marks a);
          pends = λ q a stays. left.pends q a stays ∙ pends q a;
          dropped = left.dropped;
        },
      );
      put = record {
        values = λ a. w.put.values a ∙ ap (λ (v : ℕ). if nat_eq a place then value else v) (values a);
        pages = w.put.pages ∙ pages;
      };
    }
