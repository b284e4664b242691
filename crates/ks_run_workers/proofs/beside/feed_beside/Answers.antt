use Rattle.std.proofs.Common.{rules, ap, sym, ◌≡◌}
use Rattle.ks_topo.specs.Topologies.{draft_of}
use Rattle.ks_run_workers.specs.declared.working.Crew.{Crew}
use Rattle.ks_run_workers.proofs.Turned.{always_ok, may_lent, keys_lent, turned_lent, asked_lent}
use Rattle.ks_run_workers.proofs.beside.feed_beside.Goals as goal

pub join_mut-end-requires-after_bounds : goal.join_mut-end-requires-after_bounds
join_mut-end-requires-after_bounds g c κs within = (
  (
    may_lent g.W.Work.plan (draft_of c.args.topology.now) c.args.team.now.crew c.crew_mut-crew.result.now c.crew_mut-crew.ensures.value g.W.Work.good g.H.Hash128.hash_of c.args.shared.now.growing.id
        c.requires.some c.requires.may c.requires.ask,
    (search rules, search rules, search rules, search rules, search rules),
  ),
  (c.requires.feed, (search rules, search rules, search rules)),
)

pub returns-clause-keys : goal.returns-clause-keys
returns-clause-keys g c =
    let is : c.join_mut-end.new.f.4.now ≡ c.crew-1.given.0 = sym (c.crew-1.given.1 (sym {a = c.join_mut-end.new.f.4.ghost_name} c.join_mut-end.ensures.0.met.0.4)) in
    keys_lent g.W.Work.plan (draft_of c.args.topology.now) c.args.team.now.crew c.crew_mut-crew.result.now c.crew_mut-crew.ensures.value {new = c.join_mut-end.new.f.4.now.threads.members.items} c.join_mut-end.ensures.0.met.1.0 (ap (λ (t : Crew g.row.W.Denot g.row.G.Denot). t.threads.members.items) is)

pub returns-clause-turned : goal.returns-clause-turned
returns-clause-turned g c =
    let is : c.join_mut-end.new.f.4.now ≡ c.crew-1.given.0 = sym (c.crew-1.given.1 (sym {a = c.join_mut-end.new.f.4.ghost_name} c.join_mut-end.ensures.0.met.0.4)) in
    always_ok c.join_mut-end.result.1
    (turned_lent g.W.Work.plan (draft_of c.args.topology.now) c.args.team.now.crew c.crew_mut-crew.result.now c.crew_mut-crew.ensures.value {new = c.join_mut-end.new.f.4.now.threads.members.items} c.join_mut-end.ensures.0.met.1.1 (ap (λ (t : Crew g.row.W.Denot g.row.G.Denot). t.threads.members.items) is))

pub returns-clause-asked : goal.returns-clause-asked
returns-clause-asked g c =
    let is : c.join_mut-end.new.f.4.now ≡ c.crew-1.given.0 = sym (c.crew-1.given.1 (sym {a = c.join_mut-end.new.f.4.ghost_name} c.join_mut-end.ensures.0.met.0.4)) in
    always_ok c.join_mut-end.result.1
    (asked_lent g.W.Work.plan (draft_of c.args.topology.now) c.args.team.now.crew c.crew_mut-crew.result.now c.crew_mut-crew.ensures.value {new = c.join_mut-end.new.f.4.now.asker} c.join_mut-end.ensures.0.met.1.2 (ap (λ (t : Crew g.row.W.Denot g.row.G.Denot). t.asker) is))
