use Rattle.bbm_replay.proofs.Common.{node_in, option_map, path_at, EntryState, view_of, Path, Position, TreeIndex, state_of, waiting}
use Rattle.bbm_rules.proofs.Common.{◌≡◌, ◌<◌, ℕ, Option, sym, ◌∙◌, ap, subst, page_of, Heading, true≢false}
use Rattle.bbm_replay_entries.specs.EntryPhases.{phase_in}
use Rattle.bbm_replay.proofs.Found.{found_at, has_number, none_at, untracked}
use Rattle.bbm_replay.proofs.parts.ReplayState.phase.Goals as goal

-- the path of the place, by the node of its page
here : (index : TreeIndex) (place : ℕ) (position : Position) (o : Option Path) → position.place ≡ place
    → o ≡ option_map (λ n. path_at n position.place) (node_in index (page_of position.place))
    → o ≡ option_map (λ n. path_at n place) (node_in index (page_of place))
here index place position o same is = is ∙ (λ j. option_map (λ n. path_at n (same j)) (node_in index (page_of (same j))))

pub path-requires : goal.path-requires
path-requires c =
    has_number c.args.self.now.map c.args.self.now.index c.in-Some.position c.requires.2.numbers c.in-Some.ensures.position

pub returns-in-Some-path : goal.returns-in-Some-path
returns-in-Some-path c heading h s =
    let p = c.args.self.now in
    let m = c.requires in
    let at = found_at (node_in p.index (page_of c.args.place)) c.args.place c.path.result c.in-Some-path.path c.in-Some-path.is (here c.args.self.now.index c.args.place c.in-Some.position c.path.result c.in-Some.ensures.place c.path.ensures) in
    let n = at.0 in
    let below : c.args.pe < heading.pes = subst (λ (x : Heading). c.args.pe < x.pes) (sym m.2.header ∙ s.header) m.3 in
    c.phase_of_state.ensures
    ∙ ap (λ (x : EntryState). phase_in x c.args.pe) c.state_at.ensures
    ∙ ap (λ (x : Path). phase_in (state_of (view_of p.map p.index) x.kind x.level c.args.place) c.args.pe) at.2
    ∙ sym ((c.law_entry_phase.ensures heading).phase h n c.args.place c.args.pe (state_of (view_of p.map p.index) n.kind n.level c.args.place)
    (waiting (view_of p.map p.index) c.args.place) below (sym (s.told.nodes (page_of c.args.place)) ∙ at.1)
    (s.told.entries n c.args.place at.1))

pub returns-in-None : goal.returns-in-None
returns-in-None c heading h s =
    sym ((c.law_entry_phase.ensures heading).outside_clean h c.args.place c.args.pe
    (sym (s.told.nodes (page_of c.args.place)) ∙ none_at (node_in c.args.self.now.index (page_of c.args.place)) c.args.place c.path.result c.in-None.is (here c.args.self.now.index c.args.place c.in-Some.position c.path.result c.in-Some.ensures.place c.path.ensures)))

pub returns-in_default : goal.returns-in_default
returns-in_default c heading h s =
    sym ((c.law_entry_phase.ensures heading).outside_clean h c.args.place c.args.pe
    (sym (s.told.nodes (page_of c.args.place))
    ∙ untracked heading h c.args.self.now s (page_of c.args.place) (λ t. true≢false (sym (c.in_default.ensures.tracked t)))))
