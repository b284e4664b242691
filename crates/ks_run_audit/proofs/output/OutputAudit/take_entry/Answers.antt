use Rattle.std.proofs.Common.{refl, sym, subst}
use Rattle.ks_topo.specs.Topologies.{draft_of}
use Rattle.ks_def_tasks.specs.Rules.{rules_of}
use Rattle.ks_audit_verdict.specs.Places.{RefusesAt}
use Rattle.ks_run_audit.specs.Outputs.{place_in}
use Rattle.ks_run_audit.proofs.Outputs.{entry_taken, places_there}
use Rattle.ks_run_audit.proofs.Along.{entry_refused}
use Rattle.ks_run_audit.proofs.output.OutputAudit.take_entry.Goals as goal

pub line-requires-clause-places : goal.line-requires-clause-places
line-requires-clause-places g c = places_there c.args.self.now c.requires.ready c.requires.sound.topology

pub returns-in-Ok-clause-taken : goal.returns-in-Ok-clause-taken
returns-in-Ok-clause-taken g c =
    let old = c.args.self.now in
    entry_taken g.H.Hash128.hash_of c.args.line.now old (record { topology = old.topology; audit = c.line.new.self; stage = old.stage; begun = old.begun; tables = old.tables }) c.requires.sound c.requires.stage refl refl refl refl
    (rw c.in-Ok.is at c.in_ok-line.ensures.taken)

pub returns-in-Err-clause-refused : goal.returns-in-Err-clause-refused
returns-in-Err-clause-refused g c =
    subst (RefusesAt (rules_of g.H.Hash128.hash_of) (draft_of c.args.self.now.topology.now) (place_in c.args.self.now) c.args.line.now) (sym c.journal_fault.ensures)
    (entry_refused g.H.Hash128.hash_of c.args.line.now c.args.self.now c.requires.sound c.requires.stage c.in-Err.fault (rw c.in-Err.is at c.in_ok-line.ensures.fault))
