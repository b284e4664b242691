use Rattle.std.proofs.Common.{◌++◌, ◌∷◌, [], take, ap, ◌∙◌, ◌-◌, arith}
use Rattle.ks_log.proofs.Cuts.{taken_one}
use Rattle.ks_log.proofs.reading.take_record.Goals as goal

pub returns : goal.returns
returns c = λ rest.
    ap (λ l. l ++ take (c.args.left - 1) rest) (c.in_ok-push.ensures.items ∙ ap (λ r. c.args.made.now.items ++ (c.args.at, r) ∷ []) c.in_ok-copy.ensures)
    ∙ taken_one c.args.left c.args.made.now.items (c.args.at, c.args.rec.now) rest (λ e. absurd (omega (arith, c.requires, e)))
