use Rattle.std.proofs.Common.{◌≡◌, ◌∙◌, ◌+◌, ◌++◌, Some, ap, sym, subst, filter, length, map}
use Rattle.std.specs.Prelude.{IfSome, option_map}
use Rattle.ks_history.specs.History.{IsPrefix}
use Rattle.ks_shared.specs.Calls.{frame_of}
use Rattle.ks_run_workers.specs.Asked.{option_list, AreAnswered}
use Rattle.ks_run_workers.specs.Members.{ArePasses}
use Rattle.ks_run_workers.proofs.AskedBeside.{asker_keys, asker_long, answered}
use Rattle.ks_topo.specs.Topologies.{draft_of}
use Rattle.ks_growing.specs.Passes.{IsPass}
use Rattle.ks_shared.specs.Reserved.{is_callers}
use Rattle.ks_run_feed.proofs.Produced.{still_first}
use Rattle.ks_run_workers.proofs.Left.{workers_of}
use Rattle.ks_run_workers.proofs.LockPasses.{closed, passes_after, members_after}
use Rattle.ks_run_workers.proofs.closing.work_and_close.Goals as goal

pub close_with-requires : goal.close_with-requires
close_with-requires g c =
    let lock = c.args.shared.growing.id in
    let fed = c.feed_and_work.new.feeder in
    let old = c.args.team in
    let new = c.feed_and_work.new.team in
    let d = draft_of c.args.topology.now in
    let asked = c.in-Ok.ensures.asked in
    record {
      first = subst (IsPass lock 0) (sym c.into_pass-first.ensures) (still_first lock c.args.feeder.pass fed.pass _ c.in-Ok.ensures.fed.produced c.requires.may.feed.pass);
      passes = subst (λ l. ArePasses lock (map (λ m. m.worker.state.session.client.pass) new.crew.threads.members.items ++ option_list l)) (sym c.part_asker-last.ensures.pass)
          (passes_after lock (λ m. m.worker.state.session.client.pass) old.crew.threads.members.items new.crew.threads.members.items (option_list (option_map (λ a. a.reader.pass) old.crew.asker)) (option_list (option_map (λ a. a.reader.pass) new.crew.asker))
          c.feed_and_work.ensures.keys (asker_keys g.W.Work.plan d old.crew.asker new.crew.asker asked) c.requires.passes);
      all = ap (λ n. length new.crew.threads.members.items + n + 1) (ap (λ l. length (option_list l)) c.part_asker-last.ensures.pass ∙ asker_long g.W.Work.plan d old.crew.asker new.crew.asker asked)
          ∙ members_after (λ m. m.worker.state.session.client.pass) old.crew.threads.members.items new.crew.threads.members.items (length (option_list old.crew.asker)) c.args.shared.growing.passes c.feed_and_work.ensures.keys c.requires.all;
      workers = workers_of g.W.Work.plan g.H.Hash128.hash_of d _ _ old.crew.threads.members.items new.crew.threads.members.items c.requires.topology c.feed_and_work.ensures.keys c.in-Ok.ensures.turned;
    }

pub returns-clause-asked : goal.returns-clause-asked
returns-clause-asked g c =
    let old = c.args.team.crew.asker in
    let new = c.feed_and_work.new.team.crew.asker in
    subst (AreAnswered g.W.Work.plan (draft_of c.args.topology.now) c.in-Ok-close_with.cluster (option_map (λ a. a.ask) old)) (sym c.part_asker-last.ensures.asked)
    (answered g.W.Work.plan g.H.Hash128.hash_of (draft_of c.args.topology.now) c.args.shared.growing.first c.in-Ok-close_with.cluster c.requires.topology c.in-Ok-close_with.ensures.frame c.in-Ok-close_with.ensures.history
    old new c.in-Ok.ensures.asked c.in-Ok.ensures.awake c.requires.none
    (subst (λ l. IfSome l (λ p. IsPrefix p.seen c.in-Ok-close_with.cluster.journal × (p.frame ≡ Some (frame_of c.in-Ok-close_with.cluster)))) c.part_asker-last.ensures.pass c.in-Ok-close_with.ensures.last))

pub returns-clause-fed : goal.returns-clause-fed
returns-clause-fed g c =
    closed (draft_of c.args.topology.now) c.args.shared.growing.first c.in-Ok-close_with.cluster c.args.feeder c.feed_and_work.new.feeder _ _ c.in-Ok.end c.in-Ok.ensures.fed c.in-Ok-close_with.ensures.frame
    (c.in-Ok-close_with.ensures.reserved ∙ ap (λ p. filter is_callers p.seen) c.into_pass-first.ensures)
