use Rattle.std.proofs.Common.{◌≡◌, ℕ, List, [], ◌∷◌, refl, ◌∙◌, subst, arith, rules}
use Rattle.ks_cluster.specs.View.{setup_of, state_of}
use Rattle.ks_law_restore.specs.Views.{pending_work}
use Rattle.ks_commit.specs.declared.work.Frozen.{Frozen}
use Rattle.ks_commit.specs.Work.{work_view}
use Rattle.ks_commit.specs.Committed.{works_of}
use Rattle.ks_commit.specs.Sending.{Longer, Sends, adds_in, puts_in, adds_of, puts_of, pendings_of}
use Rattle.ks_commit.proofs.Entries.{sends_nothing, longer_more, on_err}
use Rattle.ks_commit.proofs.Turns.{one_taken, all_taken, next_of}
use Rattle.ks_commit.proofs.Puts.{works_more, of_cluster_later}
use Rattle.ks_commit.proofs.sending.send_all.Goals as goal

pub loop-work-init : goal.loop-work-init
loop-work-init g c = record { whole = search rules; left = search rules; sends = sends_nothing g.W.Work.plan c.args.cluster.now c.args.publisher.now.worker; sending = c.requires.sending; same = (refl, refl, refl) }

pub send-requires-clause-work : goal.send-requires-clause-work
send-requires-clause-work g c =
    let plan = g.W.Work.plan in
    of_cluster_later plan c.args.cluster.now c.loop-work.cluster c.args.publisher.now.worker _ _ _ (work_view c.in-Some.work) c.loop-work.invariant.sends
    (next_of (setup_of plan c.args.cluster.now) (state_of plan c.args.cluster.now) c.loop-work.work-iterator.rest.items c.next.new.self.rest.items c.in-Some.work c.loop-work.invariant.left c.in-Some.ensures.steps.0).0

pub loop-work-preserved : goal.loop-work-preserved
loop-work-preserved g c =
    let plan = g.W.Work.plan in
    let inv = c.loop-work.invariant in
    let x = c.in-Some.work in
    record {
      whole = one_taken c.loop-work.yielded c.loop-work.work-iterator.rest.items c.args.works.items c.next.new.self.rest.items x inv.whole c.in-Some.ensures.steps.0;
      left = (next_of (setup_of plan c.args.cluster.now) (state_of plan c.args.cluster.now) c.loop-work.work-iterator.rest.items c.next.new.self.rest.items x inv.left c.in-Some.ensures.steps.0).1;
      sends = works_more plan c.args.cluster.now c.loop-work.cluster c.send.new.cluster c.args.publisher.now.worker c.loop-work.yielded x inv.sends
          (subst (λ (w : ℕ). Sends plan c.loop-work.cluster c.send.new.cluster w (adds_in x.outputs) (puts_in x.task x.outputs) (pending_work (work_view x) ∷ [])) inv.same.0 c.in_ok-send.ensures.sends);
      sending = c.in_ok-send.ensures.sending;
      same = (c.in_ok-send.ensures.same.0 ∙ inv.same.0, c.in_ok-send.ensures.same.1 ∙ inv.same.1, c.in_ok-send.ensures.same.2 ∙ inv.same.2);
    }

pub returns-clause-sends : goal.returns-clause-sends
returns-clause-sends g c =
    let is : c.loop-work.yielded ≡ c.args.works.items = all_taken c.loop-work.yielded c.loop-work.work-iterator.rest.items c.args.works.items c.loop-work.invariant.whole (omega (arith, c.loop-work.work-iterator.rest.ok, c.in-None.ensures.steps.0)) in
    subst (λ (fs : List Frozen). Sends g.W.Work.plan c.args.cluster.now c.loop-work.cluster c.args.publisher.now.worker (adds_of (works_of fs)) (puts_of (works_of fs)) (pendings_of (works_of fs))) is c.loop-work.invariant.sends

pub returns-in_err-send-clause-err : goal.returns-in_err-send-clause-err
returns-in_err-send-clause-err g c =
    let sends = c.loop-work.invariant.sends in
    on_err c.from_residual.result (longer_more c.args.publisher.now.worker 0 0 c.args.cluster.now c.loop-work.cluster c.send.new.cluster sends.more sends.is sends.publishing
    (subst (λ (w : ℕ). Longer w 0 c.loop-work.cluster c.send.new.cluster) c.loop-work.invariant.same.0 c.in_err-send.ensures.err))
