use Rattle.std.proofs.Common.{refl, ap, ◌∙◌}
use Rattle.std.proofs.lemmas.List.{map-append}
use Rattle.ks_job.specs.Items.{item_view, item_views}
use Rattle.ks_job.specs.Phases.{reader_of, machine}
use Rattle.ks_job.proofs.Joined.{appended, in_two}
use Rattle.ks_job.proofs.Fronts.{longer_front, joined_front, same_front}
use Rattle.ks_job.proofs.wide.feed_by_threads.Goals as goal

pub returns-clause-fed : goal.returns-clause-fed
returns-clause-fed g c =
    let first = c.in_ok-begun.begun in
    let items = c.feed_phase.new.items.items in
    let part = c.in_ok-phase.field-0 in
    in_two (machine c.args.phase c.args.items.now.items) (machine first items) (machine part.phase c.append.new.self.items) _ _ c.split_at.result.1.now c.split_at.ensures.by_index.0 c.in_ok-begun.ensures.fed
    (appended (reader_of first) _ (reader_of part.phase) (item_views items) (item_views part.items.items) _ c.split_at.result.1.now refl (ap item_views c.in_ok-append.ensures.items ∙ map-append item_view items part.items.items) c.in_ok-phase.ensures)

pub returns-in_err-begun-clause-front : goal.returns-in_err-begun-clause-front
returns-in_err-begun-clause-front g c =
    longer_front c.args.items.now.items _ (machine c.args.phase c.args.items.now.items) c.args.piece.now _ c.split_at.result.1.now c.split_at.ensures.by_index.0 c.in_err-begun.ensures.front

pub returns-in_err-phase-clause-front : goal.returns-in_err-phase-clause-front
returns-in_err-phase-clause-front g c =
    longer_front c.args.items.now.items _ (machine c.args.phase c.args.items.now.items) c.args.piece.now _ c.split_at.result.1.now c.split_at.ensures.by_index.0 c.in_ok-begun.ensures.front

pub returns-in_err-append-clause-front : goal.returns-in_err-append-clause-front
returns-in_err-append-clause-front g c =
    same_front c.args.items.now.items c.feed_phase.new.items.items _ _ c.in_err-append.ensures.items
    (longer_front c.args.items.now.items _ (machine c.args.phase c.args.items.now.items) c.args.piece.now _ c.split_at.result.1.now c.split_at.ensures.by_index.0 c.in_ok-begun.ensures.front)

pub returns-clause-front : goal.returns-clause-front
returns-clause-front g c =
    let part = c.in_ok-phase.field-0 in
    joined_front (reader_of part.phase) c.args.items.now.items c.feed_phase.new.items.items part.items.items c.append.new.self.items _ _ c.in_ok-begun.ensures.front c.in_ok-append.ensures.items (returns-clause-fed g c)
