use Rattle.std.proofs.Common.{◌≡◌, rules}
use Rattle.std.specs.Prelude.{Some}
use Rattle.ks_job.specs.declared.judge.JobItem.TheVariants.{Topology}
use Rattle.ks_job_source.proofs.AuditOpens.{found_built}
use Rattle.ks_job_source.proofs.audit_opening.topology_in.Goals as goal

pub returns-in-Some-Topology : goal.returns-in-Some-Topology
returns-in-Some-Topology c =
    let is : c.pop.result ≡ Some (Topology c.in-Some-Topology.line c.in-Some-Topology.draft) = search rules in
    found_built c.args.items.items c.pop.new.self.items c.pop.result c.in-Some-Topology.line c.in-Some-Topology.draft c.in_ok-build-in-Some-Topology.field-0 c.pop.ensures.items is c.in_ok-build-in-Some-Topology.ensures
