use Rattle.ks_job.specs.Items.{item_view, item_views}
use Rattle.std.proofs.Common.{ap, ◌∙◌}
use Rattle.std.proofs.lemmas.List.{map-append}
use Rattle.ks_job.specs.Phases.{reader_of}
use Rattle.ks_job.proofs.Joined.{appended}
use Rattle.ks_job.proofs.wide.join_parts.Goals as goal

pub returns-then-is_at : goal.returns-then-is_at
returns-then-is_at c =
    let items = c.args.first.items.items in
    let more = c.args.second.items.items in
    appended (reader_of c.args.first.phase) _ (reader_of c.args.second.phase) (item_views items) (item_views more) _ c.args.back.now (c.is_at.ensures c.if-is_at.true) (ap item_views c.in-Ok.ensures.items ∙ map-append item_view items more) c.requires
