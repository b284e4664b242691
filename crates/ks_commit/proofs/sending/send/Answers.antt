use Rattle.std.proofs.Common.{◌≡◌, ℕ, List, [], ◌∷◌, refl, sym, ap, ap₂, ◌∙◌, subst}
use Rattle.ks_history.specs.declared.transaction.Pending.{Pending}
use Rattle.ks_history.specs.declared.journal.Reply.TheVariants.{Done}
use Rattle.ks_history.specs.History.{are_offsets}
use Rattle.ks_history.specs.State.{IsPart}
use Rattle.ks_record.specs.Records.{Record as Rec}
use Rattle.ks_record.specs.declared.record.PartId.{PartId}
use Rattle.std.specs.List.{All}
use Rattle.ks_commit.specs.Work.{work_view}
use Rattle.ks_cluster.specs.View.{setup_of, state_of}
use Rattle.ks_law_restore.specs.Views.{WorkView, pending_work}
use Rattle.ks_commit.specs.Sending.{Sends, adds_in, puts_in}
use Rattle.ks_commit.specs.Committed.{IsOfCluster}
use Rattle.ks_commit.proofs.Puts.{of_cluster_later, offsets_free, offsets_sends, work_sends, sending_more, numbers_stay}
use Rattle.ks_commit.proofs.sending.send.Goals as goal

pub put_all-requires-clause-parts : goal.put_all-requires-clause-parts
put_all-requires-clause-parts g c = subst (λ (outs : List (PartId × List Rec)). All (λ (out : PartId × List Rec). IsPart (setup_of g.W.Work.plan c.args.cluster.now) out.0) outs) (sym c.into_vec.ensures) c.requires.work.parts

pub put_all-requires-clause-task : goal.put_all-requires-clause-task
put_all-requires-clause-task g c = c.requires.work.task

pub send_offsets-requires-clause-meets : goal.send_offsets-requires-clause-meets
send_offsets-requires-clause-meets g c =
    let plan = g.W.Work.plan in
    let mid = c.put_all.new.cluster in
    let f : WorkView = work_view c.args.work in
    let later : IsOfCluster (setup_of plan mid) (state_of plan mid) f = of_cluster_later plan c.args.cluster.now mid c.args.publisher.now.worker _ _ _ f c.in_ok-put_all.ensures.sends c.requires.work in
    (c.in_ok-put_all.ensures.sending.worker, later.task, ap (are_offsets (setup_of plan mid) (state_of plan mid) f.task) c.as_slice.ensures ∙ later.offsets)

pub send_offsets-requires-clause-free : goal.send_offsets-requires-clause-free
send_offsets-requires-clause-free g c =
    let plan = g.W.Work.plan in
    let mid = c.put_all.new.cluster in
    let f : WorkView = work_view c.args.work in
    let later : IsOfCluster (setup_of plan mid) (state_of plan mid) f = of_cluster_later plan c.args.cluster.now mid c.args.publisher.now.worker _ _ _ f c.in_ok-put_all.ensures.sends c.requires.work in
    offsets_free plan mid mid c.put_all.new.publisher c.in_ok-put_all.ensures.sending f.task c.as_slice.result.now c.as_slice-2.result.now f.late later.task

pub returns-clause-sends : goal.returns-clause-sends
returns-clause-sends g c =
    let plan = g.W.Work.plan in
    let mid = c.put_all.new.cluster in
    let new = c.send_offsets.new.cluster in
    let f : WorkView = work_view c.args.work in
    let later : IsOfCluster (setup_of plan mid) (state_of plan mid) f = of_cluster_later plan c.args.cluster.now mid c.args.publisher.now.worker _ _ _ f c.in_ok-put_all.ensures.sends c.requires.work in
    let tail = offsets_sends plan mid new c.put_all.new.publisher c.in_ok-put_all.ensures.sending f.task c.as_slice.result.now c.as_slice-2.result.now f.late Done later.task c.in_ok-send_offsets.ensures.ok in
    let same : record { task = f.task; offsets = c.as_slice.result.now; order = c.as_slice-2.result.now; late = f.late } ≡ pending_work f =
    ap₂ {C = Pending} (λ (a b : List (ℕ × ℕ)). record { task = f.task; offsets = a; order = b; late = f.late }) c.as_slice.ensures c.as_slice-2.ensures in
    work_sends plan c.args.cluster.now mid new c.args.publisher.now.worker f.task f.outputs (pending_work f)
    (subst (λ (outs : List (PartId × List Rec)). Sends plan c.args.cluster.now mid c.args.publisher.now.worker (adds_in outs) (puts_in f.task outs) []) c.into_vec.ensures c.in_ok-put_all.ensures.sends)
    (subst (λ (x : Pending). Sends plan mid new c.args.publisher.now.worker [] [] (x ∷ [])) same
    (subst (λ (w : ℕ). Sends plan mid new w [] [] (record { task = f.task; offsets = c.as_slice.result.now; order = c.as_slice-2.result.now; late = f.late } ∷ [])) c.in_ok-put_all.ensures.same.0 tail))

pub returns-clause-sending : goal.returns-clause-sending
returns-clause-sending g c =
    let plan = g.W.Work.plan in
    let p = c.put_all.new.publisher in
    let mid = c.put_all.new.cluster in
    let new = c.send_offsets.new.cluster in
    let f : WorkView = work_view c.args.work in
    let later : IsOfCluster (setup_of plan mid) (state_of plan mid) f = of_cluster_later plan c.args.cluster.now mid c.args.publisher.now.worker _ _ _ f c.in_ok-put_all.ensures.sends c.requires.work in
    let tail = offsets_sends plan mid new p c.in_ok-put_all.ensures.sending f.task c.as_slice.result.now c.as_slice-2.result.now f.late Done later.task c.in_ok-send_offsets.ensures.ok in
    sending_more plan mid new p c.in_ok-put_all.ensures.sending [] [] _ tail p refl refl refl (numbers_stay plan mid new p c.in_ok-put_all.ensures.sending [] _ tail)
