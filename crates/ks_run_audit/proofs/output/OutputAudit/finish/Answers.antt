use Rattle.std.proofs.Common.{◌≡◌, refl, sym, ap}
use Rattle.ks_topo.specs.Topologies.{draft_of}
use Rattle.ks_run_audit.specs.declared.output.Stage.TheVariants.{Journal}
use Rattle.ks_run_audit.proofs.Along.{not_yet}
use Rattle.ks_run_audit.proofs.output.OutputAudit.finish.Goals as goal

pub returns-clause-early : goal.returns-clause-early
returns-clause-early g c = λ e journal is. not_yet (draft_of c.args.self.topology.now) c.args.self.stage c.args.self.begun _ c.requires.sound.stage c.in_default.not-Journal journal is
