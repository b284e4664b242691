use Rattle.std.proofs.Common.{rules, ap, sym, subst, length, ◌<◌, ◌≡◌, ◌∙◌, Some, IfSome}
use Rattle.std.specs.List.{All}
use Rattle.std.specs.Option.{option_copied_mut}
use Rattle.ks_topo.specs.Topologies.{draft_of}
use Rattle.ks_worker.specs.Beginning.{MayRun}
use Rattle.ks_run_workers.specs.Asking.{MayAsk}
use Rattle.ks_run_workers.specs.Members.{HaveKeys}
use Rattle.ks_run_workers.specs.Working.{AllTurnedUnlessStarved}
use Rattle.ks_run_workers.proofs.AskedBeside.{asked_beside}
use Rattle.ks_run_workers.proofs.LockPasses.{slice_back}
use Rattle.ks_run_workers.proofs.working.work_and_ask.Goals as goal

pub returns-in_default-clause-turned : goal.returns-in_default-clause-turned
returns-in_default-clause-turned g c =
    slice_back (AllTurnedUnlessStarved g.W.Work.plan (draft_of c.args.topology.now) c.args.crew.now.threads.turns) (λ m. m.worker.state.session.client.pass) c.args.crew.now.threads.members.items c.as_mut_slice-members.result.now _
    c.args.crew.now.threads.members.len c.as_mut_slice-members.ensures.value c.args.crew.now.threads.members.ok.0 c.work_together.ensures.keys c.work_together.ensures.turned

pub join_mut-requires-after_bounds : goal.join_mut-requires-after_bounds
join_mut-requires-after_bounds g c κs within =
    let before : c.args.crew.now.asker ≡ Some c.in-Some.asker.now = sym c.as_mut.ensures.value ∙ ap option_copied_mut c.in-Some.is in (
      subst (λ o. IfSome o (MayAsk g.W.Work.plan c.args.shared.now.growing.id (draft_of c.args.topology.now))) before c.requires.asker,
      (
        subst (λ l. (0 < length l) × All (λ m. MayRun g.W.Work.plan g.W.Work.good g.H.Hash128.hash_of c.args.shared.now.growing.id (draft_of c.args.topology.now) m.worker.placing c.args.crew.now.threads.turns m.worker.state) l)
            (sym c.as_mut_slice-members.ensures.value) (c.requires.some, c.requires.may),
        (search rules, search rules, search rules, search rules, search rules),
      ),
    )

pub returns-clause-keys : goal.returns-clause-keys
returns-clause-keys g c =
    let is : c.join_mut.new.g.4.now ≡ c.members-1.given.0 = sym (c.members-1.given.1.1 (sym {a = c.join_mut.new.g.4.ghost_name} c.join_mut.ensures.1.met.0.4)) in
    let keys : HaveKeys (λ m. m.worker.state.session.client.pass) c.as_mut_slice-members.result.now c.members-1.given.0 =
    subst (λ l. HaveKeys (λ m. m.worker.state.session.client.pass) c.as_mut_slice-members.result.now l) is c.join_mut.ensures.1.met.1.0 in
    slice_back (HaveKeys (λ m. m.worker.state.session.client.pass)) (λ m. m.worker.state.session.client.pass) c.args.crew.now.threads.members.items c.as_mut_slice-members.result.now _ c.args.crew.now.threads.members.len
    c.as_mut_slice-members.ensures.value c.args.crew.now.threads.members.ok.0 keys keys

pub returns-clause-turned : goal.returns-clause-turned
returns-clause-turned g c =
    let is : c.join_mut.new.g.4.now ≡ c.members-1.given.0 = sym (c.members-1.given.1.1 (sym {a = c.join_mut.new.g.4.ghost_name} c.join_mut.ensures.1.met.0.4)) in
    let keys : HaveKeys (λ m. m.worker.state.session.client.pass) c.as_mut_slice-members.result.now c.members-1.given.0 =
    subst (λ l. HaveKeys (λ m. m.worker.state.session.client.pass) c.as_mut_slice-members.result.now l) is c.join_mut.ensures.1.met.1.0 in
    let turned : AllTurnedUnlessStarved g.W.Work.plan (draft_of c.args.topology.now) c.args.crew.now.threads.turns c.as_mut_slice-members.result.now c.members-1.given.0 =
    subst (λ l. AllTurnedUnlessStarved g.W.Work.plan (draft_of c.args.topology.now) c.args.crew.now.threads.turns c.as_mut_slice-members.result.now l) is c.join_mut.ensures.1.met.1.1 in
    slice_back (AllTurnedUnlessStarved g.W.Work.plan (draft_of c.args.topology.now) c.args.crew.now.threads.turns) (λ m. m.worker.state.session.client.pass) c.args.crew.now.threads.members.items c.as_mut_slice-members.result.now _
    c.args.crew.now.threads.members.len c.as_mut_slice-members.ensures.value c.args.crew.now.threads.members.ok.0 keys turned

pub returns-clause-asked : goal.returns-clause-asked
returns-clause-asked g c =
    let before : c.args.crew.now.asker ≡ Some c.in-Some.asker.now = sym c.as_mut.ensures.value ∙ ap option_copied_mut c.in-Some.is in
    let is : c.asker-1.given.0 ≡ c.join_mut.new.f.4.now = c.asker-1.given.1 (sym {a = c.join_mut.new.f.4.ghost_name} c.join_mut.ensures.0.met.0.4) in
    asked_beside g.W.Work.plan (draft_of c.args.topology.now) c.args.crew.now.asker c.in-Some.asker.now {new = c.join_mut.new.f.4.now} before c.join_mut.ensures.0.met.1 (ap Some is)
