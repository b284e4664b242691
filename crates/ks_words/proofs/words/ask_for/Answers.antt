use Rattle.std.proofs.Common.{◌∙◌, sym}
use Rattle.clap.specs.Matches.{found_of}
use Rattle.ks_words.proofs.Asks.{asked, asked_within, no_key, no_node}
use Rattle.ks_words.proofs.words.ask_for.Goals as goal

pub returns-in_default-clause-told : goal.returns-in_default-clause-told
returns-in_default-clause-told c = λ us told. no_node us _ _ (sym c.in_default.is ∙ c.in_ok-node.ensures)

pub returns-in_default-2-clause-told : goal.returns-in_default-2-clause-told
returns-in_default-2-clause-told c = λ us told. no_key us _ _ (sym c.in_default-2.is ∙ c.in_ok-key.ensures)

pub returns-clause-told : goal.returns-clause-told
returns-clause-told c = λ us told.
    asked (found_of c.args.found.now) us c.in-Some.node c.in-Some-2.key _ _ c.large.result c.settings.result told (sym c.in-Some.is ∙ c.in_ok-node.ensures) (sym c.in-Some-2.is ∙ c.in_ok-key.ensures) c.large.ensures
    (λ t. c.settings.ensures.told us t)

pub returns-clause-within : goal.returns-clause-within
returns-clause-within c = λ us told. asked_within (found_of c.args.found.now) us c.large.result c.settings.result told c.large.ensures (λ t. c.settings.ensures.within us t)
