use Rattle.std.proofs.Common.{sym}
use Rattle.ks_words.specs.Grammar.{words_of}
use Rattle.ks_words.proofs.Commands.{run_found, run_refused, run_within}
use Rattle.ks_words.proofs.words.read_run.Goals as goal

pub returns-in_default-clause-told : goal.returns-in_default-clause-told
returns-in_default-clause-told c = run_refused (words_of c.args.words.now) _ _ c.in_ok-run_parser.ensures (sym c.if-has_end_of_options.ensures) c.in_ok-found.ensures c.in_default.is

pub returns-clause-told : goal.returns-clause-told
returns-clause-told c =
    run_found (words_of c.args.words.now) _ _ c.in-Some.found c.settings.result c.in_ok-run_parser.ensures (sym c.if-has_end_of_options.ensures) c.in_ok-found.ensures c.in-Some.is c.settings.ensures.told

pub returns-clause-within : goal.returns-clause-within
returns-clause-within c =
    run_within (words_of c.args.words.now) _ _ c.in-Some.found c.settings.result c.in_ok-run_parser.ensures (sym c.if-has_end_of_options.ensures) c.in_ok-found.ensures c.in-Some.is c.settings.ensures.within
