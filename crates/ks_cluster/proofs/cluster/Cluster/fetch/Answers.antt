use Rattle.std.proofs.Common.{◌≡◌, ap, ◌∙◌, subst}
use Rattle.ks_history.specs.Partition.{read, read_next}
use Rattle.ks_cluster.specs.View.{state_of}
use Rattle.ks_cluster.proofs.cluster.Cluster.fetch.Goals as goal

pub returns-clause-records : goal.returns-clause-records
returns-clause-records g c =
    subst (λ v. c.in_ok-read.read.0.items ≡ read c.args.from c.args.max ((state_of g.W.Work.plan v).partition c.args.part)) c.self.view_is
    (c.in_ok-read.ensures.records ∙ ap (read c.args.from c.args.max) (c.part-slots.ensures ∙ c.self.invariant.follows.stands.log_is c.args.part))

pub returns-clause-next : goal.returns-clause-next
returns-clause-next g c =
    subst (λ v. c.in_ok-read.read.1 ≡ read_next c.args.from c.args.max ((state_of g.W.Work.plan v).partition c.args.part)) c.self.view_is
    (c.in_ok-read.ensures.next ∙ ap (read_next c.args.from c.args.max) (c.part-slots.ensures ∙ c.self.invariant.follows.stands.log_is c.args.part))
