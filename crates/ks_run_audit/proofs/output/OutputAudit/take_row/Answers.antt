use Rattle.std.proofs.Common.{◌≡◌, ◌+◌, ◌-◌, ◌<◌, ◌≤◌, [], refl, sym, ap, subst, ◌∙◌, arith}
use Rattle.ks_topo.specs.Topologies.{draft_of}
use Rattle.ks_table_line.specs.Fitting.{IsRowLine}
use Rattle.ks_audit_verdict.specs.Places.{has_windows}
use Rattle.ks_run_audit.specs.Outputs.{begun_text, last_name}
use Rattle.ks_run_audit.proofs.Outputs.{moved, table_taken}
use Rattle.ks_run_audit.proofs.Along.{row_along, row_unlike}
use Rattle.ks_run_audit.proofs.Windows.{name_printed}
use Rattle.ks_run_audit.proofs.output.OutputAudit.take_row.Goals as goal

pub is_windowed-windowed-requires : goal.is_windowed-windowed-requires
is_windowed-windowed-requires g c = name_printed (draft_of c.args.self.now.topology.now) (c.args.self.now.begun - 1) c.name_at-name.result.now (omega (arith, c.requires.some, c.requires.most)) c.name_at-name.ensures

pub returns-then-not-branch-clause-no : goal.returns-then-not-branch-clause-no
returns-then-not-branch-clause-no g c = λ e.
    let old = c.args.self.now in
    let d = draft_of old.topology.now in
    let windows = c.is_windowed-windowed.ensures ∙ ap (has_windows d) c.name_at-name.ensures in
    row_unlike g.H.Hash128.hash_of c.args.line.now old c.args.left c.requires.stage c.requires.more (subst (λ w. IsRowLine w c.args.line.now → ⊥) windows (c.in_ok-is_row_line.ensures.no c.if-not-branch.true))

pub returns-clause-yes : goal.returns-clause-yes
returns-clause-yes g c = λ e.
    let hash = g.H.Hash128.hash_of in
    let line = c.args.line.now in
    let old = c.args.self.now in
    let d = draft_of old.topology.now in
    let new = moved old c.stage_with-self.result old.begun c.push_line.new.lines in
    let windows = c.is_windowed-windowed.ensures ∙ ap (has_windows d) c.name_at-name.ensures in
    let row = subst (λ w. IsRowLine w line) windows (c.in_ok-is_row_line.ensures.yes c.if-not-branch.false) in
    table_taken hash line old new refl refl (ap begun_text c.requires.stage) c.requires.some c.in_ok-push_line.ensures c.stage_with-self.ensures.fits
    (row_along hash line old new refl c.requires.begins refl c.args.left c.requires.stage c.requires.more row c.stage_with-self.ensures.place)
