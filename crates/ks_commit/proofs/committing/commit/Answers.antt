use Rattle.std.proofs.Common.{◌≡◌, ◌≢◌, List, [], ◌∷◌, refl, sym, ap, ◌∙◌, subst}
use Rattle.std.specs.Prelude.{Result, Ok, Err, OnOk}
use Rattle.std.proofs.lemmas.Result.{IfOk-weaker}
use Rattle.ks_history.specs.State.{Setup}
use Rattle.ks_cluster.specs.View.{setup_of, state_of}
use Rattle.ks_cluster.proofs.Entries.{answered_setup}
use Rattle.ks_commit.specs.declared.work.Frozen.{Frozen}
use Rattle.ks_law_restore.specs.Views.{WorkView}
use Rattle.ks_commit.specs.Sending.{Sends, adds_of, puts_of, pendings_of}
use Rattle.ks_commit.specs.Committed.{works_of, EachOf, EachPlaced, own_of_each, ends_of_each}
use Rattle.ks_commit.proofs.Entries.{later_setup, longer_both, longer_more, publishing_both, publishing_commit, marked_longer, on_err}
use Rattle.ks_commit.proofs.Finish.{each_of, each_placed, commits_faithfully, decide_free, now_ready, all_committed}
use Rattle.ks_commit.proofs.committing.commit.Goals as goal

some_works : (works : List Frozen) → works ≢ [] → works_of works ≢ []
some_works [] some e = some refl
some_works (w ∷ ws) some e = absurd cc

always_ok : {A E P : Type 0} (r : Result A E) → P → OnOk r P
always_ok (Ok x) p = p
always_ok (Err e) p = tt

pub send_all-requires-clause-works : goal.send_all-requires-clause-works
send_all-requires-clause-works g c =
    let setup = setup_of g.W.Work.plan c.args.cluster.now in
    let s = state_of g.W.Work.plan c.args.cluster.now in
    each_of setup s (works_of c.args.works.items) c.requires.works

pub decide-requires-clause-faithful : goal.decide-requires-clause-faithful
decide-requires-clause-faithful g c =
    let plan = g.W.Work.plan in
    let fs : List WorkView = works_of c.args.works.items in
    let sends = c.in_ok-send_all.ensures.sends in
    commits_faithfully plan c.args.cluster.now c.send_all.new.cluster c.args.publisher.now c.send_all.new.publisher fs c.requires.network c.journal-before.ensures.history c.requires.ready c.requires.apart c.requires.works c.in_ok-send_all.ensures.same sends

pub decide-requires-clause-free : goal.decide-requires-clause-free
decide-requires-clause-free g c =
    let plan = g.W.Work.plan in
    let fs : List WorkView = works_of c.args.works.items in
    let sends = c.in_ok-send_all.ensures.sends in
    decide_free plan c.args.cluster.now c.send_all.new.cluster c.args.publisher.now c.send_all.new.publisher fs c.requires.network c.journal-before.ensures.history c.requires.ready c.requires.apart c.requires.works c.in_ok-send_all.ensures.same sends (some_works c.args.works.items c.requires.some) c.in_ok-send_all.ensures.sending

pub all_ends-requires : goal.all_ends-requires
all_ends-requires g c =
    let plan = g.W.Work.plan in
    let marked = c.in_ok-write_markers.ensures.marked in
    let sends = c.in_ok-send_all.ensures.sends in
    let same : setup_of plan c.write_markers.new.cluster ≡ setup_of plan c.args.cluster.now =
    later_setup plan c.decide.new.cluster c.write_markers.new.cluster marked.more marked.is
    ∙ answered_setup plan c.send_all.new.cluster c.decide.new.cluster _ _ c.in_ok-decide.ensures.ok
    ∙ later_setup plan c.args.cluster.now c.send_all.new.cluster sends.more sends.is in
    let own : c.as_slice-2.result.now ≡ own_of_each (works_of c.args.works.items) = c.as_slice-2.ensures.value ∙ c.in_ok-own.ensures ∙ ap (λ (fs : List Frozen). own_of_each (works_of fs)) c.as_slice.ensures.value in
    subst (λ (setup : Setup). EachPlaced setup c.as_slice-2.result.now) (sym same)
    (subst (EachPlaced (setup_of plan c.args.cluster.now)) (sym own)
    (each_placed (setup_of plan c.args.cluster.now) (state_of plan c.args.cluster.now) (works_of c.args.works.items) c.requires.works))

pub returns-clause-committed : goal.returns-clause-committed
returns-clause-committed g c =
    let plan = g.W.Work.plan in
    let fs : List WorkView = works_of c.args.works.items in
    let sends = c.in_ok-send_all.ensures.sends in
    let free = decide_free plan c.args.cluster.now c.send_all.new.cluster c.args.publisher.now c.send_all.new.publisher fs c.requires.network c.journal-before.ensures.history c.requires.ready c.requires.apart c.requires.works c.in_ok-send_all.ensures.same sends (some_works c.args.works.items c.requires.some) c.in_ok-send_all.ensures.sending in
    let own : c.as_slice-2.result.now ≡ own_of_each fs = c.as_slice-2.ensures.value ∙ c.in_ok-own.ensures ∙ ap (λ (l : List Frozen). own_of_each (works_of l)) c.as_slice.ensures.value in
    IfOk-weaker c.all_ends.result _ _
    (λ ends is. all_committed plan c.args.cluster.now c.send_all.new.cluster c.args.publisher.now c.send_all.new.publisher fs c.requires.network c.journal-before.ensures.history c.requires.ready c.requires.apart c.requires.works c.in_ok-send_all.ensures.same sends c.decide.new.cluster c.write_markers.new.cluster _ (some_works c.args.works.items c.requires.some) c.in_ok-send_all.ensures.sending free c.in_ok-decide.ensures.ok c.in_ok-write_markers.ensures.marked
    c.in_ok-write_markers.ensures.done c.journal-after.ensures.history ends.items (is ∙ ap (ends_of_each (state_of plan c.write_markers.new.cluster)) own))
    c.all_ends.ensures

pub returns-clause-ready : goal.returns-clause-ready
returns-clause-ready g c =
    let plan = g.W.Work.plan in
    let fs : List WorkView = works_of c.args.works.items in
    let sends = c.in_ok-send_all.ensures.sends in
    let free = decide_free plan c.args.cluster.now c.send_all.new.cluster c.args.publisher.now c.send_all.new.publisher fs c.requires.network c.journal-before.ensures.history c.requires.ready c.requires.apart c.requires.works c.in_ok-send_all.ensures.same sends (some_works c.args.works.items c.requires.some) c.in_ok-send_all.ensures.sending in
    always_ok c.all_ends.result
    (now_ready plan c.args.cluster.now c.send_all.new.cluster c.args.publisher.now c.send_all.new.publisher fs c.requires.network c.journal-before.ensures.history c.requires.ready c.requires.apart c.requires.works c.in_ok-send_all.ensures.same sends c.decide.new.cluster c.write_markers.new.cluster _ (some_works c.args.works.items c.requires.some) c.in_ok-send_all.ensures.sending free c.in_ok-decide.ensures.ok c.in_ok-write_markers.ensures.marked
    c.in_ok-write_markers.ensures.done c.journal-after.ensures.history)

pub returns-in_err-write_markers-clause-err : goal.returns-in_err-write_markers-clause-err
returns-in_err-write_markers-clause-err g c =
    let sends = c.in_ok-send_all.ensures.sends in
    let decided = longer_both c.args.cluster.now c.send_all.new.cluster c.decide.new.cluster sends.more _ sends.is c.in_ok-decide.ensures.ok.journal in
    let w = c.args.publisher.now.worker in
    let same = c.in_ok-send_all.ensures.same.0 in
    on_err c.from_residual-in_err-write_markers.result (longer_more w 1 0 c.args.cluster.now c.decide.new.cluster c.write_markers.new.cluster _ decided
    (publishing_both w 0 1 sends.more _ sends.publishing (publishing_commit w _ _ _ same))
    (marked_longer g.W.Work.plan w _ c.decide.new.cluster c.write_markers.new.cluster same c.in_err-write_markers.ensures.marked))

pub returns-clause-err : goal.returns-clause-err
returns-clause-err g c =
    let sends = c.in_ok-send_all.ensures.sends in
    let marked = c.in_ok-write_markers.ensures.marked in
    let decided = longer_both c.args.cluster.now c.send_all.new.cluster c.decide.new.cluster sends.more _ sends.is c.in_ok-decide.ensures.ok.journal in
    let w = c.args.publisher.now.worker in
    let same = c.in_ok-send_all.ensures.same.0 in
    on_err c.all_ends.result (longer_more w 1 0 c.args.cluster.now c.decide.new.cluster c.write_markers.new.cluster _ decided
    (publishing_both w 0 1 sends.more _ sends.publishing (publishing_commit w _ _ _ same))
    (marked_longer g.W.Work.plan w _ c.decide.new.cluster c.write_markers.new.cluster same marked))
