use Rattle.std.proofs.Common.{ap, subst, sym}
use Rattle.ks_topo.specs.Topologies.{draft_of}
use Rattle.ks_job_source.specs.Opened.{IsReady}
use Rattle.ks_def_tasks.specs.Rules.{rules_of}
use Rattle.ks_run_audit.specs.Outputs.{place_in}
use Rattle.ks_run_audit.specs.Answering.{EndsEarly}
use Rattle.ks_run_audit.specs.Feeding.{LosesFault, ReadsOut, draft_in}
use Rattle.ks_run_audit.proofs.Sources.{early_behind, fault_at_once, reads_all, reads_fault}
use Rattle.ks_run_audit.proofs.Results.{on_each, each_err}
use Rattle.ks_run_audit.proofs.auditing.read_all.Goals as goal

pub read_lines-requires-clause-ready : goal.read_lines-requires-clause-ready
read_lines-requires-clause-ready g c = subst (λ t. IsReady (draft_of t.now)) (sym (rw c.in-Ok.is at c.in_ok-feed.ensures.fed).topology) c.requires.ready

pub read_lines-requires-clause-sound : goal.read_lines-requires-clause-sound
read_lines-requires-clause-sound g c = (rw c.in-Ok.is at c.in_ok-feed.ensures.fed).sound

pub returns-in-Ok-clause-reads : goal.returns-in-Ok-clause-reads
returns-in-Ok-clause-reads g c =
    let hash = g.H.Hash128.hash_of in
    let left = g.S.Source.left in
    let fed = rw c.in-Ok.is at c.in_ok-feed.ensures.fed in
    let d = ap (λ t. draft_of t.now) fed.topology in
    on_each c.read_lines.result _ _ c.read_lines.ensures.reads (λ h.
    reads_all hash (draft_in c.args.output.now) c.args.feed.now.taken c.args.rest.now (left c.args.input.now) (left c.read_lines.new.input) c.feed.new.self.taken c.read_lines.new.feed.taken
    c.args.feed.now.line.items c.feed.new.self.line.items c.read_lines.new.feed.line.items c.args.feed.now.lines c.feed.new.self.lines c.read_lines.new.feed.lines c.args.output.now c.feed.new.output c.read_lines.new.output
    c.requires.begun fed (rw c.in-Ok.is at c.in_ok-feed.ensures.taken)
    (subst (λ x. ReadsOut hash x c.feed.new.self.taken c.read_lines.new.feed.taken (left c.args.input.now) (left c.read_lines.new.input) c.feed.new.self.line.items c.read_lines.new.feed.line.items c.feed.new.self.lines c.read_lines.new.feed.lines c.feed.new.output c.read_lines.new.output) d h))

pub returns-in-Ok-clause-refused : goal.returns-in-Ok-clause-refused
returns-in-Ok-clause-refused g c =
    let hash = g.H.Hash128.hash_of in
    let left = g.S.Source.left in
    let fed = rw c.in-Ok.is at c.in_ok-feed.ensures.fed in
    let d = ap (λ t. draft_of t.now) fed.topology in
    each_err c.read_lines.result _ _ c.read_lines.ensures.refused (λ fault h.
    reads_fault hash (draft_in c.args.output.now) c.args.feed.now.taken c.args.rest.now (left c.args.input.now) (left c.read_lines.new.input) c.feed.new.self.taken
    c.args.feed.now.line.items c.feed.new.self.line.items c.args.feed.now.lines c.feed.new.self.lines c.read_lines.new.feed.lines c.args.output.now c.feed.new.output fault
    c.requires.begun fed (rw c.in-Ok.is at c.in_ok-feed.ensures.taken)
    (subst (λ x. LosesFault hash x c.feed.new.self.taken (left c.args.input.now) (left c.read_lines.new.input) c.feed.new.self.line.items c.feed.new.self.lines c.read_lines.new.feed.lines c.feed.new.output fault) d h))

pub returns-in-Err-clause-refused : goal.returns-in-Err-clause-refused
returns-in-Err-clause-refused g c =
    fault_at_once g.H.Hash128.hash_of (draft_in c.args.output.now) c.args.feed.now.taken c.args.rest.now (g.S.Source.left c.args.input.now) c.args.feed.now.line.items c.args.feed.now.lines c.feed.new.self.lines c.args.output.now c.in-Err.fault c.requires.begun
    (rw c.in-Err.is at c.in_ok-feed.ensures.refused)

pub returns-in-Ok-clause-early : goal.returns-in-Ok-clause-early
returns-in-Ok-clause-early g c = λ e.
    let hash = g.H.Hash128.hash_of in
    let left = g.S.Source.left in
    let fed = rw c.in-Ok.is at c.in_ok-feed.ensures.fed in
    early_behind hash (draft_in c.args.output.now) c.args.feed.now.taken c.args.rest.now (left c.args.input.now) (left c.read_lines.new.input) c.feed.new.self.taken c.args.feed.now.line.items c.feed.new.self.line.items c.args.feed.now.lines c.feed.new.self.lines
    c.args.output.now c.feed.new.output c.requires.begun fed (rw c.in-Ok.is at c.in_ok-feed.ensures.taken)
    (subst (λ x. EndsEarly (rules_of hash) x (place_in c.feed.new.output) c.feed.new.self.taken c.feed.new.self.line.items (left c.args.input.now) (left c.read_lines.new.input)) (ap (λ t. draft_of t.now) fed.topology) (c.read_lines.ensures.early e))
