-- The decoded run of a settled journal is at rest, and its stores are the folds of the changelogs.
use Rattle.std.proofs.Common.{◌≡◌, ℕ, List, None, cond, refl, sym, ap, ◌∙◌}
use Rattle.std.specs.Prelude.{option_and_then}
use Rattle.ks_record.specs.declared.record.TaskId.{TaskId}
use Rattle.ks_record.specs.Parts.{same_task}
use Rattle.ks_expr.specs.declared.terms.JoinKind.{JoinKind}
use Rattle.ks_expr.specs.Terms.{Set}
use Rattle.ks_expr.specs.declared.terms.Fk.{Fk}
use Rattle.ks_plan.specs.Drafts.{DraftView}
use Rattle.ks_plan.specs.Plan.{Plan, plan_of}
use Rattle.ks_plan.specs.Plan.Kind.{ForeignKeyJoin}
use Rattle.ks_def_runs.specs.FinMap as fin
use Rattle.ks_query.specs.Streams.{Key, Input}
use Rattle.ks_query.specs.Query.{query}
use Rattle.ks_history.specs.declared.journal.Entry.{Entry}
use Rattle.ks_history.specs.State.{State, Setup}
use Rattle.ks_history.specs.Faithful.{folds}
use Rattle.ks_history.specs.History.{at}
use Rattle.ks_law_exactly_once.proofs.Replays.{tells_stores}
use Rattle.ks_def_tasks.specs.Messages.{Store, Rules}
use Rattle.ks_def_tasks.specs.Bytes.{store_from}
use Rattle.ks_def_tasks.specs.Collision.{IsNode, NoCollision}
use Rattle.ks_def_tasks.proofs.Names.{same_task-is}
use Rattle.ks_law_quiescence.specs.States.{row_at, home_task, State as RunOf}
use Rattle.ks_law_quiescence.specs.AtRest.{IsQuery}
use Rattle.ks_law_topology.proofs.Fits.{Fits, node_stands}
use Rattle.ks_law_topology.proofs.WellFormed.{well_formed_fits}
use Rattle.ks_law_fk_quiescence.specs.AtRest.{subscriber_for}
use Rattle.ks_law_fk_quiescence.proofs.TableInputs.{table_inputs}
use Rattle.ks_law_fk_quiescence.proofs.TablesRest.{tables_rest}
use Rattle.ks_law_fk_quiescence.proofs.JoinsRest.{hashes_rest}
use Rattle.ks_law_topology.specs.Work.{setup_of}
use Rattle.ks_law_topology.proofs.Networks.{works_are_networks}
use Rattle.ks_law_settled.specs.Collision.{first_pair}
use Rattle.ks_law_settled.specs.Settled.{IsRunOf, IsAtItsEnd, RunsHaveEnded, SubscriptionsAreTheQuery}
use Rattle.ks_law_settled.proofs.Tables as tables
use Rattle.ks_law_settled.proofs.Collisions as collisions

module _ (rules : Rules) (d : DraftView) (records : List Input) (journal : List Entry) (ended : IsRunOf rules d records journal) where
  abbrev p : Plan
  p = plan_of d

  abbrev setup : Setup
  setup = setup_of rules p

  abbrev s : State
  s = at setup journal

  abbrev fits : Fits p
  fits = well_formed_fits d ended.job.well

  abbrev run : RunOf
  run = tables.run rules d records journal ended

  stores_are_folds : (t : TaskId) → run.stores t ≡ store_from p t.sub (folds setup s t)
  stores_are_folds t =
      (tables.same_run rules d records journal ended).stores t
      ∙ ap (store_from p t.sub) (tells_stores setup journal (works_are_networks rules p) ended.done.history t)

  pub at_its_end : IsAtItsEnd rules d records journal
  at_its_end = record {
    drained = tables.drained rules d records journal ended;
    few = tables.few rules d records journal ended;
    stores = stores_are_folds;
    late = tables.late_exactly rules d records journal ended;
  }

  -- ---- subscription stores
  module _ (found : first_pair rules.hash p s ≡ None) (n l r : ℕ) (fk : Fk) (kind : JoinKind) (set : Set) (is : IsNode p n (ForeignKeyJoin l r fk kind set)) where
    alone : NoCollision rules p run
    alone = collisions.none_in_run rules d records journal ended (collisions.none_found rules d records journal ended found)

    left_rests : IsQuery rules p records run l
    left_rests = tables_rest rules p fits records (tables.choices rules d records journal ended)
        (record { drained = tables.drained rules d records journal ended; few = tables.few rules d records journal ended; none_collides = alone }) (table_inputs d ended.job.well)
        l (collisions.left_is rules d records journal ended n l r fk kind set is)

    left_row : (k : Key) → row_at run (home_task rules p l k) l k ≡ fin.get ((query p records).tables l) k
    left_row k =
        let home = home_task rules p l k in
        left_rests home k ∙ ap (λ c. cond c (fin.get ((query p records).tables l) k) None) ((same_task-is home home).1 refl)

    pub hashes_are : (u : TaskId) (b k : Key) → fin.get ((store_from p u.sub (folds setup s u)).hashes n b) k
        ≡ cond (same_task u (home_task rules p r b)) (option_and_then (subscriber_for rules p n fk b k) (fin.get ((query p records).tables l) k)) None
    hashes_are u b k =
        ap (λ (st : Store). fin.get (st.hashes n b) k) (sym (stores_are_folds u))
        ∙ hashes_rest rules p fits n l r fk kind set (node_stands p n (ForeignKeyJoin l r fk kind set) is) records (tables.choices rules d records journal ended) (tables.drained rules d records journal ended) alone u b k
        ∙ ap (λ o. cond (same_task u (home_task rules p r b)) (option_and_then (subscriber_for rules p n fk b k) o) None) (left_row k)

pub runs_have_ended : RunsHaveEnded
runs_have_ended rules d records journal ended = at_its_end rules d records journal ended

pub subscriptions_are_the_query : SubscriptionsAreTheQuery
subscriptions_are_the_query rules d records journal ended found n l r fk kind set is u b k = hashes_are rules d records journal ended found n l r fk kind set is u b k
