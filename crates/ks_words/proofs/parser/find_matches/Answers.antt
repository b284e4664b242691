use Rattle.clap.specs.Words.{app_of}
use Rattle.ks_words.proofs.Numbers.{simple_of}
use Rattle.ks_words.proofs.parser.find_matches.Goals as goal

pub returns-in-Ok : goal.returns-in-Ok
returns-in-Ok c = (c.in-Ok.ensures.kinds c.requires, (c.in-Ok.ensures.matches (simple_of (app_of c.args.parser) c.requires)).0)
