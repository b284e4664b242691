use Rattle.ks_settle_report.specs.Hashed.{kind_as}
use Rattle.ks_settle_report.proofs.SpelledRows.{both_told}
use Rattle.ks_settle_report.proofs.pairs.collide.Goals as goal

pub returns : goal.returns
returns g c =
    both_told g.H.Hash128.hash_of (kind_as c.args.shown) c.args.a.now c.args.b.now c.is_same_key.result c.in_ok-one.one c.in_ok-other.other c.is_hashed_alike.result
    c.is_same_key.ensures c.if-not-is_same_key.false c.in_ok-one.ensures.bytes c.in_ok-other.ensures.bytes c.in_ok-one.ensures.spelled c.in_ok-other.ensures.spelled c.is_hashed_alike.ensures
