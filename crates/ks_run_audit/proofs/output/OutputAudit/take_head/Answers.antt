use Rattle.std.proofs.Common.{◌≡◌, ℕ, ◌+◌, ◌-◌, ◌^◌, ◌<◌, ◌≤◌, [], get_or, drop, refl, sym, ap, subst, ◌∙◌, arith}
use Rattle.std.specs.Str.{IsUtf8}
use Rattle.ks_topo.specs.Topologies.{draft_of}
use Rattle.ks_query.specs.Printed.{head_line}
use Rattle.ks_audit_verdict.specs.Lines.{ended}
use Rattle.ks_audit_verdict.specs.Places.{has_windows, next_row}
use Rattle.ks_run_audit.specs.Outputs.{begun_text, place_of}
use Rattle.ks_run_audit.proofs.Outputs.{moved, table_taken}
use Rattle.ks_run_audit.proofs.Along.{head_along, head_unlike}
use Rattle.ks_run_audit.proofs.output.OutputAudit.take_head.Goals as goal

pub returns-in_default-clause-no : goal.returns-in_default-clause-no
returns-in_default-clause-no g c = λ e.
    head_unlike g.H.Hash128.hash_of c.args.line.now c.args.self.now c.requires.stage c.requires.fewer
    (subst (λ n. IsUtf8 n → (count : ℕ) → count < 2 ^ 64 → ended c.args.line.now ≡ head_line n count → ⊥) c.name_at-name.ensures (c.in_ok-count.ensures.none c.in_default.is))

pub returns-clause-yes : goal.returns-clause-yes
returns-clause-yes g c = λ e.
    let hash = g.H.Hash128.hash_of in
    let line = c.args.line.now in
    let old = c.args.self.now in
    let d = draft_of old.topology.now in
    let more : c.with_another-self.result ≡ old.begun + 1 = c.with_another-self.ensures in
    let new = moved old c.stage_with-self.result c.with_another-self.result c.push_line.new.lines in
    let count = c.in-Some.count in
    let found = rw c.in-Some.is at c.in_ok-count.ensures.found in
    let head : ended line ≡ head_line (get_or d.print old.begun []) count = subst (λ n. ended line ≡ head_line n count) c.name_at-name.ensures found.1 in
    let same : c.with_another-self.result - 1 ≡ old.begun = omega (arith, more) in
    let next : place_of d c.stage_with-self.result c.with_another-self.result [] ≡ next_row (has_windows d (get_or d.print old.begun [])) count (drop (old.begun + 1) d.print) =
    c.stage_with-self.ensures.place ∙ ap (λ n. next_row (has_windows d (get_or d.print n [])) count (drop c.with_another-self.result d.print)) same
    ∙ ap (λ n. next_row (has_windows d (get_or d.print old.begun [])) count (drop n d.print)) more in
    table_taken hash line old new refl refl (ap begun_text c.requires.stage) (omega (arith, more)) c.in_ok-push_line.ensures c.stage_with-self.ensures.fits
    (head_along hash line old new refl c.requires.begins refl c.requires.stage c.requires.fewer count found.0 head next)
