use Rattle.ks_job_source.proofs.Opened.{piece_stops, piece_items}
use Rattle.ks_job_source.proofs.rest.take_piece.Goals as goal

pub returns-in-Ok-Err-clause-standing : goal.returns-in-Ok-Err-clause-standing
returns-in-Ok-Err-clause-standing g c = piece_stops c.args.piece.now c.in-Ok-Err.fault c.args.reader c.feed_wide.new.self c.args.items.now.items c.feed_wide.new.items.items c.requires c.in-Ok-Err.ensures.fed (rw c.in-Ok-Err.field-0-is at c.in-Ok-Err.ensures.answer)

pub returns-in-Ok-Err-clause-items : goal.returns-in-Ok-Err-clause-items
returns-in-Ok-Err-clause-items g c = piece_items c.args.piece.now c.in-Ok-Err.fault c.args.reader c.feed_wide.new.self c.args.items.now.items c.feed_wide.new.items.items c.requires c.in-Ok-Err.ensures.fed
