use Rattle.std.proofs.Common.{◌≡◌, [], subst}
use Rattle.std.specs.Prelude.{IfOk}
use Rattle.std.proofs.lemmas.Result.{IfOk-weaker}
use Rattle.ks_job.specs.declared.wide.Part.{Part}
use Rattle.ks_job.specs.Phases.{machine}
use Rattle.ks_job.specs.Reader.{after}
use Rattle.ks_job.proofs.Joined.{in_two}
use Rattle.ks_job.proofs.wide.+fn-read_wide-join+arg2+fn-read_wide-join+arg3+read_wide.Goals as goal

pub returns : goal.returns
returns g t c =
    let phase = c.args.phase in
    let halves = c.in-Some.halves in
    IfOk-weaker c.join_read-part.result _ _
    (λ p h.
    let first = subst (λ r. IfOk r (λ (f : Part). machine f.phase f.items.items ≡ after (machine phase []) halves.front.now)) h.1 c.join-second.ensures.second in
    in_two (machine phase []) (machine h.0.phase h.0.items.items) (machine p.phase p.items.items) _ halves.front.now halves.back.now (rw c.in-Some.is at c.in_ok-halves.ensures.whole) first h.2)
    c.join_read-part.ensures
