use Rattle.std.proofs.Common.{ap, sym, ◌∙◌}
use Rattle.ks_record.specs.Records.{Record, placed_of_list}
use Rattle.ks_store.proofs.Applied.{on_ok}
use Rattle.ks_cache.specs.Kept.{kept_with}
use Rattle.ks_task.proofs.Placing.{kept_own, passed_own}
use Rattle.ks_task.proofs.changelogs.keep_own.Goals as goal

pub returns-then-is : goal.returns-then-is
returns-then-is c =
    let rec = placed_of_list c.args.made.now c.args.place in
    on_ok c.keep.result
    (λ e. kept_own c.args.store.now c.keep.new.self c.args.part (c.args.at, rec) (sym c.is.ensures ∙ c.if-is.true)
    (e ∙ ap (λ (r : Record). kept_with c.args.store.now r.key r.value) c.get.ensures))
    c.keep.ensures.ok

pub returns-else-is : goal.returns-else-is
returns-else-is c = passed_own c.args.store.now c.args.part (c.args.at, placed_of_list c.args.made.now c.args.place) (sym c.is.ensures ∙ c.if-is.false)
