use Rattle.std.proofs.Common.{ℕ, rules, not, ap, ◌∙◌}
use Rattle.std.proofs.lemmas.Fn.{filter_same}
use Rattle.ks_record.specs.Records.{Record as Rec}
use Rattle.ks_store.specs.Restored.{records_of}
use Rattle.ks_restoring.specs.Waiting.{has_key}
use Rattle.ks_restoring.proofs.Latest.{records_of-filter}
use Rattle.ks_restoring.proofs.waiting.take_out.Goals as goal

pub returns-then-not-is_empty : goal.returns-then-not-is_empty
returns-then-not-is_empty c =
    ap records_of (filter_same _ (λ (r : ℕ × Rec). not (has_key c.args.key.now r.1.key)) _ (λ x b f' k. search rules) _ _ c.retain.ensures.filtered)
    ∙ records_of-filter (λ (r : Rec). not (has_key c.args.key.now r.key)) c.args.records.now.items
