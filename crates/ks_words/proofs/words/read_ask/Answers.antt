use Rattle.std.proofs.Common.{◌∙◌, sym}
use Rattle.std.proofs.lemmas.Result.{IfOk-weaker}
use Rattle.ks_words.specs.Grammar.{words_of}
use Rattle.ks_words.proofs.Commands.{ask_found, ask_refused}
use Rattle.ks_words.proofs.words.read_ask.Goals as goal

pub returns-in_default-clause-told : goal.returns-in_default-clause-told
returns-in_default-clause-told c = ask_refused (words_of c.args.words.now) _ _ c.in_ok-ask_parser.ensures (sym c.if-has_end_of_options.ensures) c.in_ok-found.ensures c.in_default.is

pub returns-clause-told : goal.returns-clause-told
returns-clause-told c =
    let r = ask_found (words_of c.args.words.now) _ _ c.in-Some.found c.in_ok-ask_parser.ensures (sym c.if-has_end_of_options.ensures) c.in_ok-found.ensures c.in-Some.is in
    IfOk-weaker c.ask_in.result _ _ (λ o h. h ∙ r.2) (c.ask_in.ensures.told r.0 r.1)

pub returns-clause-within : goal.returns-clause-within
returns-clause-within c =
    let r = ask_found (words_of c.args.words.now) _ _ c.in-Some.found c.in_ok-ask_parser.ensures (sym c.if-has_end_of_options.ensures) c.in_ok-found.ensures c.in-Some.is in
    c.ask_in.ensures.within r.0 r.1
