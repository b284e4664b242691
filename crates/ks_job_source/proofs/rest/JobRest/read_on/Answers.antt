use Rattle.std.proofs.Common.{sym, ◌∙◌}
use Rattle.ks_job.specs.Items.{item_views}
use Rattle.ks_job_source.proofs.Opened.{gone_further, gone_past}
use Rattle.ks_job_source.proofs.rest.JobRest.read_on.Goals as goal

pub returns-clause-goes : goal.returns-clause-goes
returns-clause-goes g c = rw c.replace-2.ensures.after
    (gone_further (g.S.Source.left c.args.input.now) (g.S.Source.left c.read_next.new.input) c.in-Reading.reader c.args.self.now.standing c.in_ok-standing.standing (item_views c.read_next.new.items.items)
    (sym c.replace.ensures.value ∙ c.in-Reading.is) c.in_ok-standing.ensures.goes)

pub returns-clause-past : goal.returns-clause-past
returns-clause-past g c = rw c.replace-2.ensures.after
    (gone_past c.in-Reading.reader c.args.self.now.standing c.in_ok-standing.standing c.args.self.now.taken c.in_ok-standing.count c.saturating_add-taken.result (item_views c.read_next.new.items.items)
    (sym c.replace.ensures.value ∙ c.in-Reading.is) c.saturating_add-taken.ensures c.in_ok-standing.ensures.past)
