use Rattle.ks_words.proofs.Commands.{no_command_in}
use Rattle.ks_words.proofs.words.read_words.Goals as goal

pub returns-in_default-as_str-clause-told : goal.returns-in_default-as_str-clause-told
returns-in_default-as_str-clause-told c =
    no_command_in c.args.words.now c.name-item.result c.as_str.result.now c.name-item.is c.as_str.ensures.value c.in_default-as_str.not-run c.in_default-as_str.not-load c.in_default-as_str.not-ask c.in_default-as_str.not-audit
