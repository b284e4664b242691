use Rattle.ks_journal.proofs.Appends.{plain_word}
use Rattle.ks_journal.proofs.requests.push_name.Goals as goal

pub push_plain-requires : goal.push_plain-requires
push_plain-requires c = record { plain = plain_word c.name_of.result.now c.args.request.now c.name_of.ensures }
