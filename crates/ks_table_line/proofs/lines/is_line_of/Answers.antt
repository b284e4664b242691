use Rattle.std.proofs.Common.{ap, ◌∙◌, append-nil}
use Rattle.std.specs.List.{flat_map}
use Rattle.serde_json.specs.Written.{compact_text}
use Rattle.ks_query.specs.Printed.{row_data, row_line}
use Rattle.ks_table_line.proofs.Ended.{row_ends}
use Rattle.ks_table_line.proofs.lines.is_line_of.Goals as goal

pub returns-clause-yes : goal.returns-clause-yes
returns-clause-yes c = λ e.
    let row = c.args.row.now in
    let text = c.as_bytes.ensures.value ∙ c.in_ok-text.ensures ∙ ap (flat_map row_line) c.from_ref.ensures.value ∙ append-nil (row_line row) in
    record {
      row = row;
      fits = record { key = c.as_str-key.ensures.key; start = c.has_start.ensures.yes c.if-not-has_start.false; row = c.as_bytes-row.ensures.fits };
      printed = c.is_without_end.ensures.yes e (compact_text (row_data row)) (text ∙ row_ends row) ∙ text;
    }
