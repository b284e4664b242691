use Rattle.std.proofs.Common.{◌≡◌, refl, sym, ◌∙◌}
use Rattle.std.proofs.lemmas.Bool.{true≢false}
use Rattle.ks_run_audit.proofs.Outputs.{moved, settled_taken}
use Rattle.ks_run_audit.proofs.Along.{settled_along, settled_unlike}
use Rattle.ks_run_audit.proofs.output.OutputAudit.take_settled.Goals as goal

pub returns-clause-yes : goal.returns-clause-yes
returns-clause-yes g c = λ e.
    let hash = g.H.Hash128.hash_of in
    let line = c.args.line.now in
    let old = c.args.self.now in
    let new = moved old c.next_table-self.result old.begun old.tables in
    let is = c.is_settled.ensures.yes e in
    settled_taken hash line old new refl refl c.requires.stage refl c.requires.empty refl c.next_table-self.ensures.fits is
    (settled_along hash line old new refl c.requires.begins refl c.requires.stage c.requires.none refl c.next_table-self.ensures.place is)

pub returns-clause-no : goal.returns-clause-no
returns-clause-no g c = λ e.
    settled_unlike g.H.Hash128.hash_of c.args.line.now c.args.self.now c.requires.stage (λ is. true≢false (sym (c.is_settled.ensures.no is) ∙ e))
