use Rattle.std.proofs.Common.{◌∙◌, ◌++◌, ap, string_bytes}
use Rattle.std.specs.List.{flat_map}
use Rattle.ks_words.specs.Load.{record_line, records_of}
use Rattle.ks_words.proofs.Sections.{next_number}
use Rattle.ks_words.proofs.load.push_section.Goals as goal

pub loop-i-preserved : goal.loop-i-preserved
loop-i-preserved c =
    next_number c.args.section c.args.customers c.loop-i.i c.args.count (string_bytes c.loop-i.text) (string_bytes c.push_any.new.text) _ c.loop-i-test.true c.loop-i.invariant
    (c.in_ok-push_any.ensures ∙ ap (λ o. string_bytes c.loop-i.text ++ flat_map record_line (records_of o)) c.record_in.ensures)
