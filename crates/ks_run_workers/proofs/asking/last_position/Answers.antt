use Rattle.std.proofs.Common.{ap, sym, ◌∙◌}
use Rattle.std.specs.Prelude.{option_copied}
use Rattle.ks_run_workers.proofs.AskedOften.{last_found}
use Rattle.ks_run_workers.proofs.asking.last_position.Goals as goal

pub returns-in-Some : goal.returns-in-Some
returns-in-Some c = last_found c.args.answers.now c.in-Some.answer.now (sym c.last.ensures.value ∙ ap option_copied c.in-Some.is)
