use Rattle.std.proofs.Common.{refl, sym, ap, subst, ◌∙◌}
use Rattle.std.proofs.lemmas.Bool.{eq-eqb}
use Rattle.ks_history.specs.declared.journal.Request.TheVariants.{Init, Join}
use Rattle.ks_history.specs.declared.journal.Reply.TheVariants.{Number}
use Rattle.ks_commit.specs.Alone.{number_in}
use Rattle.ks_commit.specs.Everything.{everything}
use Rattle.ks_commit.specs.Sending.{Longer}
use Rattle.ks_commit.proofs.Entries.{on_err, longer_same, longer_one, longer_more}
use Rattle.ks_commit.proofs.Starts.{assign_meets, assign_free, assign_good, is_started, is_alone, numbers_none}
use Rattle.ks_commit.proofs.publisher.Publisher.start.Goals as goal

pub assign-requires-clause-meets : goal.assign-requires-clause-meets
assign-requires-clause-meets g c = assign_meets g.W.Work.plan c.args.cluster.now c.init.new.self c.join.new.self c.args.worker c.in_ok-epoch.epoch c.in_ok-generation.generation c.in_ok-all.all c.requires.worker (c.in_ok-all.ensures ∙ ap (everything c.args.worker) c.requires.tasks) c.in_ok-epoch.ensures.ok c.in_ok-generation.ensures.ok

pub assign-requires-clause-free : goal.assign-requires-clause-free
assign-requires-clause-free g c = assign_free g.W.Work.plan c.args.cluster.now c.init.new.self c.join.new.self c.args.worker c.in_ok-epoch.epoch c.in_ok-generation.generation c.in_ok-all.all c.requires.once (c.in_ok-all.ensures ∙ ap (everything c.args.worker) c.requires.tasks) c.in_ok-epoch.ensures.ok c.in_ok-generation.ensures.ok

pub assign-requires-clause-good : goal.assign-requires-clause-good
assign-requires-clause-good g c = assign_good g.W.Work.plan g.W.Work.good c.args.cluster.now c.init.new.self c.join.new.self c.args.worker c.in_ok-epoch.epoch c.in_ok-generation.generation c.in_ok-all.all c.requires.good (c.in_ok-all.ensures ∙ ap (everything c.args.worker) c.requires.tasks) c.in_ok-epoch.ensures.ok c.in_ok-generation.ensures.ok

pub returns-clause-ready : goal.returns-clause-ready
returns-clause-ready g c = record {
  alone = is_alone g.W.Work.plan c.args.cluster.now c.init.new.self c.join.new.self c.assign.new.cluster c.args.worker c.in_ok-epoch.epoch c.in_ok-generation.generation c.in_ok-all.all _ c.requires.worker c.requires.idle c.requires.network c.is_history.ensures.history c.requires.once
      (c.in_ok-all.ensures ∙ ap (everything c.args.worker) c.requires.tasks) c.in_ok-epoch.ensures.ok c.in_ok-generation.ensures.ok (assign_free g.W.Work.plan c.args.cluster.now c.init.new.self c.join.new.self c.args.worker c.in_ok-epoch.epoch c.in_ok-generation.generation c.in_ok-all.all c.requires.once (c.in_ok-all.ensures ∙ ap (everything c.args.worker) c.requires.tasks) c.in_ok-epoch.ensures.ok c.in_ok-generation.ensures.ok) c.in_ok-assign.ensures.ok;
  numbers = λ q. ap (number_in q) c.new.ensures.items ∙ numbers_none g.W.Work.plan c.args.cluster.now c.init.new.self c.join.new.self c.assign.new.cluster c.args.worker c.in_ok-epoch.epoch c.in_ok-generation.generation c.in_ok-all.all _ c.requires.worker c.requires.idle c.requires.network
      c.is_history.ensures.history c.requires.once (c.in_ok-all.ensures ∙ ap (everything c.args.worker) c.requires.tasks) c.in_ok-epoch.ensures.ok c.in_ok-generation.ensures.ok (assign_free g.W.Work.plan c.args.cluster.now c.init.new.self c.join.new.self c.args.worker c.in_ok-epoch.epoch c.in_ok-generation.generation c.in_ok-all.all c.requires.once (c.in_ok-all.ensures ∙ ap (everything c.args.worker) c.requires.tasks) c.in_ok-epoch.ensures.ok c.in_ok-generation.ensures.ok) c.in_ok-assign.ensures.ok q;
}

pub returns-clause-started : goal.returns-clause-started
returns-clause-started g c =
    is_started g.W.Work.plan c.args.cluster.now c.init.new.self c.join.new.self c.assign.new.cluster c.args.worker c.in_ok-epoch.epoch c.in_ok-generation.generation c.in_ok-all.all _ c.requires.worker c.requires.idle c.requires.network c.is_history.ensures.history c.requires.once
    (c.in_ok-all.ensures ∙ ap (everything c.args.worker) c.requires.tasks) c.in_ok-epoch.ensures.ok c.in_ok-generation.ensures.ok (assign_free g.W.Work.plan c.args.cluster.now c.init.new.self c.join.new.self c.args.worker c.in_ok-epoch.epoch c.in_ok-generation.generation c.in_ok-all.all c.requires.once (c.in_ok-all.ensures ∙ ap (everything c.args.worker) c.requires.tasks) c.in_ok-epoch.ensures.ok c.in_ok-generation.ensures.ok) c.in_ok-assign.ensures.ok

pub returns-in_err-epoch-clause-err : goal.returns-in_err-epoch-clause-err
returns-in_err-epoch-clause-err g c = on_err c.from_residual.result (longer_same c.args.worker 0 c.args.cluster.now c.init.new.self c.in_err-epoch.ensures.err)

pub returns-in_err-generation-clause-err : goal.returns-in_err-generation-clause-err
returns-in_err-generation-clause-err g c =
    let w = c.args.worker in
    let begun = longer_one g.W.Work.plan w c.args.cluster.now c.init.new.self (Init w) (Number c.in_ok-epoch.epoch) c.in_ok-epoch.ensures.ok (eq-eqb w w refl) refl in
    on_err c.from_residual-in_err-generation.result (subst (λ new. Longer w 0 c.args.cluster.now new) (sym c.in_err-generation.ensures.err) begun)

pub returns-in_err-all-clause-err : goal.returns-in_err-all-clause-err
returns-in_err-all-clause-err g c =
    let w = c.args.worker in
    let begun = longer_one g.W.Work.plan w c.args.cluster.now c.init.new.self (Init w) (Number c.in_ok-epoch.epoch) c.in_ok-epoch.ensures.ok (eq-eqb w w refl) refl in
    let joined = longer_one g.W.Work.plan w c.init.new.self c.join.new.self (Join w) (Number c.in_ok-generation.generation) c.in_ok-generation.ensures.ok (eq-eqb w w refl) refl in
    on_err c.from_residual-in_err-all.result (longer_more w 0 0 c.args.cluster.now c.init.new.self c.join.new.self begun.more begun.is begun.publishing joined)

pub returns-in_err-assign-clause-err : goal.returns-in_err-assign-clause-err
returns-in_err-assign-clause-err g c =
    let w = c.args.worker in
    let begun = longer_one g.W.Work.plan w c.args.cluster.now c.init.new.self (Init w) (Number c.in_ok-epoch.epoch) c.in_ok-epoch.ensures.ok (eq-eqb w w refl) refl in
    let joined = longer_one g.W.Work.plan w c.init.new.self c.join.new.self (Join w) (Number c.in_ok-generation.generation) c.in_ok-generation.ensures.ok (eq-eqb w w refl) refl in
    on_err c.from_residual-in_err-assign.result
    (subst (λ new. Longer w 0 c.args.cluster.now new) (sym c.in_err-assign.ensures.err) (longer_more w 0 0 c.args.cluster.now c.init.new.self c.join.new.self begun.more begun.is begun.publishing joined))
