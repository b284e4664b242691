use Rattle.ks_job.specs.Phases.{reader_of}
use Rattle.ks_job.proofs.Fronts.{no_front}
use Rattle.ks_job.proofs.reader.feed_phase.Goals as goal

pub returns-in-Faulty-clause-front : goal.returns-in-Faulty-clause-front
returns-in-Faulty-clause-front c = no_front (reader_of c.args.phase) c.args.items.now.items c.args.piece.now
