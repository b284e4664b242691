use Rattle.std.proofs.Common.{◌∙◌, ◌++◌, ap}
use Rattle.std.specs.List.{flat_map}
use Rattle.std.proofs.lemmas.Result.{IfOk-weaker}
use Rattle.ks_words.specs.Load.{load_records, load_text, record_line, topology_text}
use Rattle.ks_words.proofs.load.load_job.Goals as goal

pub returns : goal.returns
unfolding load_text topology_text
returns c =
    IfOk-weaker c.of.result _ _
    (λ b h. h ∙ ap (λ v. v.items) c.into_bytes.ensures.value ∙ c.in_ok-push_records.ensures ∙ ap (λ t. t ++ flat_map record_line (load_records c.args.orders)) c.in_ok-text.ensures.ok) c.of.ensures
