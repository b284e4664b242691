use Rattle.std.proofs.Common.{rules, arith, refl, ap, ◌∙◌, ◌++◌}
use Rattle.std.specs.Vec.Iter.{into_iter_items}
use Rattle.ks_run_workers.specs.Asked.{option_list}
use Rattle.ks_run_workers.proofs.Left.{none_left, one_left, all_left, passes_more, passes_and_last}
use Rattle.ks_run_workers.proofs.closing.passes_of.Goals as goal

pub loop-member-init : goal.loop-member-init
loop-member-init g c = record { passes = search rules; left = none_left g.W.Work.plan c.args.members.items (into_iter_items c.into_iter-rest.result) c.args.replicas.now.items c.into_iter-rest.ensures.rest; last = refl }

pub loop-member-preserved : goal.loop-member-preserved
loop-member-preserved g c = record {
  passes = passes_more (λ m. m.worker.state.session.client.pass) c.loop-member.passes.items c.push-in-Some.new.self.items c.in-Some.member c.in_ok-pass.pass (into_iter_items c.loop-member.rest) (into_iter_items c.next.new.self) _
      c.in_ok-push-2.ensures.items c.in_ok-pass.ensures.pass c.in-Some.ensures.items c.loop-member.invariant.passes;
  left = one_left g.W.Work.plan c.args.members.items (into_iter_items c.loop-member.rest) (into_iter_items c.next.new.self) c.in-Some.member c.args.replicas.now.items c.loop-member.replicas.items c.into_pass.new.replicas.items
      c.in-Some.ensures.items c.loop-member.invariant.left c.in_ok-pass.ensures.replicas;
  last = c.loop-member.invariant.last;
}

pub returns-clause-replicas : goal.returns-clause-replicas
returns-clause-replicas g c = all_left g.W.Work.plan c.args.members.items (into_iter_items c.loop-member.rest) c.args.replicas.now.items c.loop-member.replicas.items c.loop-member.invariant.left

pub returns-clause-passes : goal.returns-clause-passes
returns-clause-passes g c =
    passes_and_last (λ m. m.worker.state.session.client.pass) c.loop-member.passes.items (into_iter_items c.loop-member.rest) c.args.first c.args.members.items c.args.last c.push_last.new.passes.items
    (omega (arith, c.loop-member.rest.rest.ok, c.in_default.ensures.cases.0)) c.loop-member.invariant.passes
    (c.in_ok-push_last.ensures ∙ ap (λ o. c.loop-member.passes.items ++ option_list o) c.loop-member.invariant.last)
