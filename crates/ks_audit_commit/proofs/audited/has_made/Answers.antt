use Rattle.std.proofs.Common.{ap, ap₂, ◌∙◌, ◌&&◌}
use Rattle.std.specs.Prelude.{◌==◌}
use Rattle.ks_commit.specs.Work.{work_view}
use Rattle.ks_audit_commit.specs.Comparing.{are_made}
use Rattle.ks_audit_commit.proofs.audited.has_made.Goals as goal

pub returns : goal.returns
returns c = λ d hash of. record {
  frozen = work_view c.in_ok-frozen.frozen;
  is = c.in_ok-frozen.ensures d hash of;
  same = c.both.ensures ∙ ap (λ b. (c.args.late == c.in_ok-frozen.frozen.late) && b) (c.are_made-is_made.ensures ∙ ap₂ (λ t o. are_made t o c.args.sent.now) c.id.ensures c.as_slice.ensures);
}
