use Rattle.std.proofs.Common.{◌≡◌, ◌∙◌}
use Rattle.ks_record.specs.Texts.{key_from}
use Rattle.ks_audit.proofs.Topics.{spelled_by}
use Rattle.ks_audit.proofs.placing.is_key.Goals as goal

pub returns : goal.returns
returns c = c.is_some.ensures ∙ spelled_by key_from c.args.bytes.now c.in_ok-key.key c.slice_is_bytes.ensures c.in_ok-key.ensures.reads
