use Rattle.ks_record.proofs.Utf8.{no_utf8}
use Rattle.ks_record.proofs.texts.Text.of.Goals as goal

pub returns-in_default-clause-exact : goal.returns-in_default-clause-exact
returns-in_default-clause-exact c = (λ e. absurd cc, λ k. no_utf8 c.args.bytes.now c.in_default.ensures k.utf8)
