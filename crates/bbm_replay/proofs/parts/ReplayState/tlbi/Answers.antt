use Rattle.bbm_replay.proofs.Common.{marks_at, pends_at, pe_in, Noted, NoMemory, state_from, notes, MayBeIssued}
use Rattle.bbm_replay.proofs.Common.{view_of, ReplayState}
use Rattle.bbm_rules.proofs.Common.{◌≡◌, ◌∙◌, ℕ, ◌<◌, None, not, ◌&&◌, ◌||◌, nat_eq, refl, subst, Patterns, cover_at, Tlbi}
use Rattle.bbm_replay.proofs.Framing.{meets_err, same_of, stands_still}
use Rattle.bbm_replay.proofs.TlbiMoves.{tlbi_meets}
use Rattle.bbm_replay.proofs.Writing.{cores}
use Rattle.bbm_replay.proofs.parts.ReplayState.tlbi.Goals as goal

pub issue-requires : goal.issue-requires
issue-requires c =
    let heading = c.requires.0 in
    let h = c.requires.1 in
    let told = c.requires.2.told in
    let view = view_of c.args.self.now.map c.args.self.now.index in
    record {
      fits = record {
        numbers = c.requires.2.numbers;
        tracked = λ p n is. told.apart.node_tracked p n is;
        below = λ n place next is table. (c.laws.ensures heading).neighbours.down h view n place next told.kept told.nodes
            (cores told) is table;
      };
    }

pub returns-in-Err-issue : goal.returns-in-Err-issue
returns-in-Err-issue c =
    let old = c.args.self.now in
    let new : ReplayState = record old { map = c.issue.new.map; roots = c.prepare_issue.new.self } in
    meets_err (Tlbi c.args.pe c.args.op c.args.xt) NoMemory (λ heading h s. tt)
    (λ heading h s. stands_still c.laws.ensures old new (record {
      header = refl;
      index_header = refl;
      numbers = λ n. c.in-Err-issue.ensures.kept.pages ∙ n;
    })
    (same_of old.map new.map old.index old.index c.in-Err-issue.ensures.kept
    (record { node = λ p. refl; fresh = λ p. refl; null = λ p. refl })
    (record { known = λ p. refl; pages = refl; heading = refl })) heading h s
    (c.prepare_issue.ensures.kept.same heading h s.roots) s.guarded) (λ heading h s. (refl, refl))

pub returns-in-Ok-issue : goal.returns-in-Ok-issue
returns-in-Ok-issue c =
    let old = c.args.self.now in
    let pe = c.args.pe in
    let op = c.args.op in
    let e = c.in-Ok-issue.ensures in
    let broadcast = c.in-Ok.ensures.broadcast in
    let new = c.issue.new.map in
    let reach = c.reach-reach.result in
    tlbi_meets c.laws.ensures c.rules.ensures old new c.issue_ready.new.self pe op c.args.xt c.requires
    (λ heading h s. (c.in-Ok.ensures.judged heading h s).0) reach
    (subst (λ b. (p : ℕ) → p < old.header.pes → pe_in reach p ≡ (b || (not old.header.cnp && nat_eq pe p)))
    broadcast c.reach-reach.ensures)
    (λ heading h s a broken.
    let names = (c.in-Ok.ensures.judged heading h s.roots).1 in
    let m : MayBeIssued heading h old.map old.index c.prepare_issue.new.self pe op c.args.xt c.in-Ok.named
    = record {
      told = s.told;
      stands = c.prepare_issue.ensures.kept.same heading h s.roots;
      names = names.0;
      vmid_is = names.1;
    } in
    subst (λ b. Noted (state_from None (marks_at old.map a)) (pends_at old.map pe a) reach b
    (cover_at heading Patterns (notes heading h) (Tlbi pe op c.args.xt) a) (pends_at new pe a))
    broadcast (e.noted heading h op c.args.xt (s.header, m) a broken))
    e.only.others c.law_idle.ensures c.law_idle-in-Ok-issue.ensures e.only.same.values e.only.marks e.only.same.pages
    (λ heading h s.
    let judged = c.in-Ok.ensures.judged heading h s.roots in
    (c.issue_ready.ensures op c.args.xt).taken heading h (c.prepare_issue.ensures.kept.same heading h s.roots)
    (judged.1, judged.0))
