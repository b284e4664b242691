use Rattle.std.proofs.Common.{option_map, rules, subst, sym}
use Rattle.ks_job_record.specs.Gives.{Gives}
use Rattle.ks_job.specs.Items.{item_view}
use Rattle.ks_job.specs.Lines.{spot}
use Rattle.ks_job.specs.Plain.{SaysAt}
use Rattle.ks_job.proofs.PlainLine.{plain_line}
use Rattle.ks_job.proofs.judge.judge_data.Goals as goal

pub returns-in-Some : goal.returns-in-Some
returns-in-Some c =
    let says : SaysAt (spot c.args.place) c.args.line.now c.in-Some.input = search rules in
    subst (λ r. Gives (λ x. (spot x.0, option_map item_view x.1)) c.take_input.result r) (sym (plain_line (spot c.args.place) c.args.size c.args.line.now c.in-Some.input says)) c.take_input.ensures
