use Rattle.std.proofs.Common.{◌≡◌, ◌++◌, [], get_or, ap, ◌∙◌, rules}
use Rattle.ks_cluster.specs.View.{setup_from}
use Rattle.ks_cluster.specs.Statuses.{ends_if}
use Rattle.ks_log.proofs.Parts.{goes_on}
use Rattle.ks_cluster.proofs.StatusParts.{next_topic}
use Rattle.ks_cluster.proofs.status.ends_of_tasks.Goals as goal

pub loop-i-preserved : goal.loop-i-preserved
loop-i-preserved g c =
    let setup = setup_from (g.W.Work.plan c.args.work.now) [] c.args.tasks.now in
    let i = c.loop-i.i in
    let count = get_or c.args.counts.now i 0 in
    let same : c.in-Ok.topic ≡ i = search rules in
    goes_on c.loop-i.made.items c.push_changelog.new.made.items (ends_if setup c.args.log.now i count) _ _ _ c.loop-i.invariant
    (c.in_ok-push_changelog.ensures ∙ ap (λ t. c.loop-i.made.items ++ ends_if setup c.args.log.now t count) same)
    (next_topic setup c.args.log.now c.args.counts.now i 0 c.loop-i-test.true)
