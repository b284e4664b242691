use Rattle.std.proofs.Common.{sym, ◌∙◌, arith}
use Rattle.ks_audit_commit.proofs.Compared.{behind_none}
use Rattle.ks_audit_commit.proofs.comparing.behind_records.Goals as goal

pub returns-then-next-len-clause-value : goal.returns-then-next-len-clause-value
returns-then-next-len-clause-value c =
    sym (behind_none c.args.front.now c.args.recs.now c.loop-place.place c.loop-place.next (omega (arith, c.loop-place-test.true, c.len-place-end.ensures)) (omega (arith, c.if-next-len.true, c.len.ensures)))
    ∙ c.loop-place.invariant.0
