use Rattle.std.proofs.Common.{◌≡◌, ℕ, List, [], ◌∷◌, refl, sym, ap, ◌∙◌, subst, arith, rules}
use Rattle.ks_record.specs.Records.{Record as Rec}
use Rattle.ks_record.specs.declared.record.PartId.{PartId}
use Rattle.ks_history.specs.State.{Setup, IsPart}
use Rattle.ks_cluster.specs.View.{setup_of}
use Rattle.ks_commit.specs.Sending.{Longer, Sends, adds_in, puts_in}
use Rattle.ks_commit.proofs.Entries.{sends_nothing, later_setup, longer_more, on_err}
use Rattle.ks_commit.proofs.Turns.{one_taken, all_taken, next_has}
use Rattle.ks_commit.proofs.Puts.{outs_more}
use Rattle.ks_commit.proofs.sending.put_all.Goals as goal

pub loop-out-init : goal.loop-out-init
loop-out-init g c = record { whole = search rules; sends = sends_nothing g.W.Work.plan c.args.cluster.now c.args.publisher.now.worker; sending = c.requires.sending; same = (refl, refl, refl) }

pub put-requires-clause-part : goal.put-requires-clause-part
put-requires-clause-part g c =
    let plan = g.W.Work.plan in
    let inv = c.loop-out.invariant in
    let x = c.in-Some.out in
    subst (λ (setup : Setup). IsPart setup x.0) (sym (later_setup plan c.args.cluster.now c.loop-out.cluster inv.sends.more inv.sends.is))
    (next_has (λ (out : PartId × List Rec). IsPart (setup_of plan c.args.cluster.now) out.0) c.loop-out.yielded c.loop-out.out-iterator.rest.items c.args.outputs.items c.next.new.self.rest.items x c.requires.parts inv.whole c.in-Some.ensures.steps.0)

pub loop-out-preserved : goal.loop-out-preserved
loop-out-preserved g c =
    let inv = c.loop-out.invariant in
    let x = c.in-Some.out in
    record {
      whole = one_taken c.loop-out.yielded c.loop-out.out-iterator.rest.items c.args.outputs.items c.next.new.self.rest.items x inv.whole c.in-Some.ensures.steps.0;
      sends = outs_more g.W.Work.plan c.args.cluster.now c.loop-out.cluster c.put.new.cluster c.args.publisher.now.worker c.args.task c.loop-out.yielded x inv.sends
          (subst (λ (w : ℕ). Sends g.W.Work.plan c.loop-out.cluster c.put.new.cluster w (x.0 ∷ []) ((c.args.task, x.0, x.1) ∷ []) []) inv.same.0 c.in_ok-put.ensures.sends);
      sending = c.in_ok-put.ensures.sending;
      same = (c.in_ok-put.ensures.same.0 ∙ inv.same.0, c.in_ok-put.ensures.same.1 ∙ inv.same.1, c.in_ok-put.ensures.same.2 ∙ inv.same.2);
    }

pub returns-clause-sends : goal.returns-clause-sends
returns-clause-sends g c =
    let is : c.loop-out.yielded ≡ c.args.outputs.items = all_taken c.loop-out.yielded c.loop-out.out-iterator.rest.items c.args.outputs.items c.loop-out.invariant.whole (omega (arith, c.loop-out.out-iterator.rest.ok, c.in-None.ensures.steps.0)) in
    subst (λ (outs : List (PartId × List Rec)). Sends g.W.Work.plan c.args.cluster.now c.loop-out.cluster c.args.publisher.now.worker (adds_in outs) (puts_in c.args.task outs) []) is c.loop-out.invariant.sends

pub returns-in_err-put-clause-err : goal.returns-in_err-put-clause-err
returns-in_err-put-clause-err g c =
    let sends = c.loop-out.invariant.sends in
    on_err c.from_residual.result (longer_more c.args.publisher.now.worker 0 0 c.args.cluster.now c.loop-out.cluster c.put.new.cluster sends.more sends.is sends.publishing
    (subst (λ (w : ℕ). Longer w 0 c.loop-out.cluster c.put.new.cluster) c.loop-out.invariant.same.0 c.in_err-put.ensures.err))
