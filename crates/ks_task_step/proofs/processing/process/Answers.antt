use Rattle.std.proofs.Common.{◌≡◌, ◌++◌, ℕ, List, Option, map, subst, sym, ap, ◌∙◌}
use Rattle.std.specs.Prelude.{OnOk, IfOk}
use Rattle.ks_history.specs.Faithful.{capped}
use Rattle.ks_query.specs.Streams.{StreamItem}
use Rattle.ks_def_tasks.specs.Rules.{rules_of}
use Rattle.ks_def_tasks.specs.Step.{step_key}
use Rattle.ks_def_lookups.specs.Lists.{item_in}
use Rattle.ks_task_values.specs.declared.items.Item.{Item}
use Rattle.ks_task_nodes.specs.Nodes.{node_view}
use Rattle.ks_task_nodes.specs.Reach.{NoItems}
use Rattle.ks_task_nodes.specs.Records.{arrival_of, message_of}
use Rattle.ks_task_values.specs.Items.{views}
use Rattle.ks_cache.specs.Changelogs.{stores_in}
use Rattle.ks_task_values.specs.Values.{olds_at}
use Rattle.ks_task_processing.specs.Steps.{made_at, late_of}
use Rattle.ks_task_step.proofs.Quiet.{no_items}
use Rattle.ks_task_step.proofs.processing.process.Goals as goal

pub process_items-requires-clause-items : goal.process_items-requires-clause-items
process_items-requires-clause-items g c =
    let step = c.args.step.now in
    subst (NoItems step.live.now) (sym (ap (λ (is : List (Option Item)). item_in (views is)) c.as_slice.ensures.value ∙ c.in_ok-items.ensures))
    (no_items (arrival_of step.stamped.now) step.live.now (map node_view step.nodes.now) step.numbered step.reached)

pub returns-clause-records : goal.returns-clause-records
returns-clause-records g c =
    let step = c.args.step.now in
    let key = step_key (message_of step.stamped.now.payload) in
    subst (λ (f : ℕ → Option StreamItem). OnOk c.process_items.result (c.process_items.new.out ≡ c.args.out.now
    ++ made_at (rules_of g.H.Hash128.hash_of) (map node_view step.nodes.now) (stores_in step.changelogs.now) step.partition (arrival_of step.stamped.now) f (olds_at step) key))
    (ap (λ (is : List (Option Item)). item_in (views is)) c.as_slice.ensures.value ∙ c.in_ok-items.ensures) c.process_items.ensures.records

pub returns-clause-late : goal.returns-clause-late
returns-clause-late g c =
    let step = c.args.step.now in
    subst (λ (f : ℕ → Option StreamItem). IfOk c.process_items.result (λ n. n ≡ capped (late_of (stores_in step.changelogs.now) (arrival_of step.stamped.now) f (map node_view step.nodes.now))))
    (ap (λ (is : List (Option Item)). item_in (views is)) c.as_slice.ensures.value ∙ c.in_ok-items.ensures) c.process_items.ensures.late
