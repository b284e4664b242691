use Rattle.std.proofs.Common.{ℕ, ◌+◌, ◌<◌, cond, length, refl, sym, ap, subst, ◌∙◌, arith}
use Rattle.ks_cluster.specs.View.{ClusterView, state_of}
use Rattle.ks_commit.specs.Sending.{Marked}
use Rattle.ks_commit.proofs.Entries.{marked_both, marked_nothing}
use Rattle.ks_commit.proofs.Written.{mark_step}
use Rattle.ks_commit.proofs.markers.write_markers.Goals as goal

pub loop-waits-init : goal.loop-waits-init
loop-waits-init g c = record { marked = marked_nothing g.W.Work.plan c.args.cluster.now c.args.worker; done = λ h. absurd cc; same = refl; within = c.requires }

pub loop-waits-smaller : goal.loop-waits-smaller
loop-waits-smaller g c =
    let m = mark_step g.W.Work.plan c.loop-waits.cluster c.mark_next.new.self c.args.worker c.in_ok-mark_next.field-0 c.in_ok-mark_next.ensures.ok in
    let less : length ((state_of g.W.Work.plan c.mark_next.new.self).producer c.args.worker).waiting + cond c.is_some-waits.result 1 0 < length ((state_of g.W.Work.plan c.loop-waits.cluster).producer c.args.worker).waiting + cond c.loop-waits.waits 1 0 =
    omega (arith, m.fewer, ap {B = ℕ} (λ b. cond b 1 0) c.is_some-waits.ensures, ap {B = ℕ} (λ b. cond b 1 0) c.loop-waits-test.true) in
    less

pub loop-waits-preserved : goal.loop-waits-preserved
loop-waits-preserved g c =
    let m = mark_step g.W.Work.plan c.loop-waits.cluster c.mark_next.new.self c.args.worker c.in_ok-mark_next.field-0 c.in_ok-mark_next.ensures.ok in
    record {
      marked = marked_both g.W.Work.plan c.args.cluster.now c.loop-waits.cluster c.mark_next.new.self c.args.worker c.loop-waits.invariant.marked m.marked;
      done = λ h. m.done (sym c.is_some-waits.ensures ∙ h);
      same = refl;
      within = c.requires;
    }

pub returns-in_err-mark_next-clause-marked : goal.returns-in_err-mark_next-clause-marked
returns-in_err-mark_next-clause-marked g c = subst (λ (x : ClusterView _). Marked g.W.Work.plan c.args.cluster.now x c.args.worker) (sym c.in_err-mark_next.ensures.err) c.loop-waits.invariant.marked
