use Rattle.std.proofs.Common.{◌≡◌, ◌+◌, ◌-◌, ◌/◌, subst, sym, refl, ◌∙◌, IfOk, arith}
use Rattle.std.specs.Prelude.{option_map}
use Rattle.std.proofs.lemmas.Result.{IfOk-weaker}
use Rattle.std.specs.Option.{option_or}
use Rattle.ks_cluster.specs.View.{state_of}
use Rattle.ks_settle.specs.Rows.{parts_from}
use Rattle.ks_settle_report.specs.Hashed.{row_hash, kind_as, pair_of}
use Rattle.ks_settle_report.specs.Partitions.{first_of}
use Rattle.ks_settle_report.proofs.Found.{first_alone, of_two}
use Rattle.ks_settle_report.proofs.collisions.+first_from+fn-first_from-join+arg2+fn-first_from-join+arg3.Goals as goal

pub returns : goal.returns
returns g t c =
    let s = state_of g.W.Work.plan c.args.cluster.now in
    let hash = row_hash g.H.Hash128.hash_of in
    let kind = kind_as c.args.shown in
    let from = c.args.from in
    let count = c.args.count in
    let half = count / 2 in
    let early = subst (λ r. IfOk r (λ o. option_map pair_of o ≡ first_of hash kind s c.args.topic (parts_from from half))) {x = c.join-earlier.result.0} c.in_ok-earlier.was c.join-earlier.ensures.first in
    let late = subst (λ r. IfOk r (λ o. option_map pair_of o ≡ first_of hash kind s c.args.topic (parts_from (from + half) (count - half)))) {x = c.join-earlier.result.1} c.in_ok-later.was c.join-earlier.ensures.second in
    of_two hash kind s c.args.topic from count half (from + half) (count - half) c.in_ok-earlier.field-0 c.in_ok-later.field-0 c.or.result refl (omega arith) early late c.or.ensures

pub returns-then-count-eq1 : goal.returns-then-count-eq1
returns-then-count-eq1 g t c = IfOk-weaker c.first_in_part.result _ _
    (λ o e. e ∙ first_alone (row_hash g.H.Hash128.hash_of) (kind_as c.args.shown) (state_of g.W.Work.plan c.args.cluster.now) c.args.topic c.args.from c.args.count c.if-count-eq1.true)
    c.first_in_part.ensures
