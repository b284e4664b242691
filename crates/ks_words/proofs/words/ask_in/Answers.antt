use Rattle.std.proofs.Common.{◌∙◌, ap, sym}
use Rattle.std.specs.Prelude.{option_map}
use Rattle.std.proofs.lemmas.Result.{IfOk-weaker}
use Rattle.clap.specs.Matches.{found_of}
use Rattle.ks_words.proofs.Asks.{asks_both, without_key, without_node}
use Rattle.ks_words.proofs.words.ask_in.Goals as goal

pub returns-in_default-clause-told : goal.returns-in_default-clause-told
returns-in_default-clause-told c = λ us told. without_node (found_of c.args.found.now) us told (sym (ap (option_map (λ t. t.now)) c.in_default.is) ∙ c.text_in.ensures)

pub returns-in_default-text_in-clause-told : goal.returns-in_default-text_in-clause-told
returns-in_default-text_in-clause-told c = λ us told. without_key (found_of c.args.found.now) us told (sym (ap (option_map (λ t. t.now)) c.in_default-text_in.is) ∙ c.text_in-2.ensures)

pub returns-clause-told : goal.returns-clause-told
returns-clause-told c = λ us told.
    IfOk-weaker c.ask_for.result _ _
    (λ o h. h ∙ asks_both (found_of c.args.found.now) us c.in-Some.node.now c.in-Some-text_in.key.now told (sym (ap (option_map (λ t. t.now)) c.in-Some.is) ∙ c.text_in.ensures) (sym (ap (option_map (λ t. t.now)) c.in-Some-text_in.is) ∙ c.text_in-2.ensures))
    (c.ask_for.ensures.told us told)
