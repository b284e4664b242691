use Rattle.std.proofs.Common.{◌≡◌, Some, ap, ◌∙◌}
use Rattle.std.proofs.lemmas.Result.{IfOk-weaker}
use Rattle.ks_expr.specs.Keys.{front_of}
use Rattle.ks_expr.proofs.Fronts.{front_read}
use Rattle.ks_expr.proofs.keys.front_key.Goals as goal

pub returns-in-Some : goal.returns-in-Some
returns-in-Some c =
    let same : c.as_bytes.result.now ≡ c.args.key.now = c.as_bytes.ensures.value ∙ c.as_str.ensures.bytes in
    let found : Some c.in-Some.front.now ≡ front_of c.args.text.now c.args.key.now = c.in-Some.ensures.front ∙ ap (front_of c.args.text.now) same in
    let read = front_read c.args.text.now c.args.key.now c.in-Some.front.now c.front_of.ensures.name c.as_str.ensures.key found in
    IfOk-weaker c.of.result _ _ (λ o e. e ∙ read ∙ found) c.of.ensures.reads
