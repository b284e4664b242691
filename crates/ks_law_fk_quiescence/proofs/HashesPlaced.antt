-- The hashes of a foreign key stand in its task alone.
use Rattle.std.proofs.Common.{◌≡◌, ℕ, true, false, cond, List, [], ◌∷◌, Option, Some, None, refl, sym, ap, ap₂, subst, ◌∙◌}
use Rattle.ks_record.specs.declared.record.TaskId.{TaskId}
use Rattle.ks_record.specs.Parts.{same_task}
use Rattle.ks_expr.specs.declared.terms.JoinKind.{JoinKind}
use Rattle.ks_expr.specs.Terms.{Set}
use Rattle.ks_expr.specs.Eval.{same_bytes}
use Rattle.ks_expr.specs.declared.terms.Fk.{Fk}
use Rattle.ks_plan.specs.declared.node.Topic.{Topic}
use Rattle.ks_plan.specs.declared.node.Topic.TheVariants.{Subscriptions}
use Rattle.ks_plan.specs.Plan.{Plan}
use Rattle.ks_plan.specs.Plan.Kind.{ForeignKeyJoin}
use Rattle.ks_plan.specs.Layout.{same_topic, spread_of_topic}
use Rattle.ks_def_runs.specs.FinMap as fin
use Rattle.ks_def_runs.specs.Bytes.{by_bytes}
use Rattle.ks_def_runs.specs.Table.{write}
use Rattle.ks_def_tasks.specs.Foreign.{subscribed}
use Rattle.ks_query.specs.Streams.{Key, Input}
use Rattle.ks_def_runs.specs.Run.{take_first, initial}
use Rattle.ks_def_runs.proofs.Runs.{kept_by_run}
use Rattle.ks_def_tasks.specs.Messages.{Place, Message, Item, Store, Rules}
use Rattle.ks_def_tasks.specs.Messages.Message.{Given, Keyed, Moved, Asked, Answered, Kept, KeptCount, KeptTime, KeptHash}
use Rattle.ks_def_tasks.specs.Step.{hashes_after, subscribe_at}
use Rattle.ks_def_tasks.specs.Tasks.{arrival, machine, inputs_of, is_changelog}
use Rattle.ks_def_tasks.specs.Rest.{home}
use Rattle.ks_def_tasks.proofs.Names.{same_task-is, topic-is}
use Rattle.ks_law_quiescence.specs.States.{State, state_of, home_task}
use Rattle.ks_law_topology.specs.Taken.{messages}
use Rattle.ks_law_topology.proofs.Each.{Each, each_parts}
use Rattle.ks_law_topology.proofs.Fits.{Fits}
use Rattle.ks_law_topology.proofs.Mixed.{Stands_at}
use Rattle.ks_law_quiescence.proofs.OneKey.{keys_decided}
use Rattle.ks_law_topology.proofs.Placed.{FitsAt, placed_run}
use Rattle.ks_law_fk_quiescence.specs.KeyJoins.{JoinAt, join_at, asking_place}
use Rattle.ks_law_fk_quiescence.proofs.Waits.{Waits, waits_step, waits_initial, asking_spread, taken_by_right}
use Rattle.ks_law_fk_quiescence.proofs.Steps.{hash_then}
use Rattle.ks_wire.specs.declared.values.Subscriber.{Subscriber}

module _ (rules : Rules) (p : Plan) (fits : Fits p) (a l r : ℕ) (fk : Fk) (kind : JoinKind) (set : Set) (stands : Stands_at a (ForeignKeyJoin l r fk kind set) 0 p.kinds) where
  abbrev site : JoinAt
  site = join_at rules p a l r fk kind set

  pub record HashesPlaced (st : State) : Type 0 where
    pub waits : Waits rules p fits a l r fk kind set stands st
    pub placed : (u : TaskId) (b k : Key) (h : Subscriber) → fin.get ((st.stores u).hashes a b) k ≡ Some h → u ≡ home_task rules p r b

  module _ (st : State) (s : Option TaskId) (q : Place) (x : Item) (rest : List Item) (waits : st.waiting s q ≡ x ∷ rest) (w : HashesPlaced st) where
    abbrev t : TaskId
    t = (machine rules p).reader q

    abbrev now : Store
    now = st.stores t

    at_key : is_changelog q.topic ≡ false → FitsAt rules p q x.message
    at_key list = (each_parts (FitsAt rules p q) x.message (messages rest) (subst (λ l. Each (FitsAt rules p q) (messages l)) waits (w.waits.placed.waiting s q list))).0

    by_message : q.topic ≡ Subscriptions a → (m : Message) → FitsAt rules p q m → (b k : Key) (h : Subscriber) → fin.get (subscribe_at (Some m) (now.hashes a) b) k ≡ Some h → t ≡ home_task rules p r b
    by_message at (Asked c n y) fit b k h =
        elim (same_bytes b c) as (λ d. same_bytes b c ≡ d → fin.get (cond d (write by_bytes (now.hashes a b) n (subscribed y)) (now.hashes a b)) k ≡ Some h → t ≡ home_task rules p r b) [
          | true ↦ λ d e.
              let is : b ≡ c = (keys_decided b c).0 d in
              let place : q ≡ asking_place site b = ap₂ (λ (v : Topic) (i : ℕ). record { topic = v; part = i }) at
              (fit ∙ ap (λ v. rules.part c (spread_of_topic p v)) at ∙ ap₂ rules.part (sym is) (asking_spread rules p fits a l r fk kind set stands)) in
              ap (machine rules p).reader place ∙ taken_by_right rules p fits a l r fk kind set stands (home rules p r b)
          | false ↦ λ d e. w.placed t b k h e
        ] refl
    by_message at (Given g v) fit b k h = w.placed t b k h
    by_message at (Keyed g v) fit b k h = w.placed t b k h
    by_message at (Moved g v) fit b k h = w.placed t b k h
    by_message at (Answered g v) fit b k h = w.placed t b k h
    by_message at (Kept g v) fit b k h = w.placed t b k h
    by_message at (KeptCount g v) fit b k h = w.placed t b k h
    by_message at (KeptTime v) fit b k h = w.placed t b k h
    by_message at (KeptHash g n v) fit b k h = w.placed t b k h

    here_placed : (b k : Key) (h : Subscriber) → fin.get (hashes_after (arrival p q x) now a b) k ≡ Some h → t ≡ home_task rules p r b
    here_placed b k h = elim (same_topic q.topic (Subscriptions a)) as (λ d. same_topic q.topic (Subscriptions a) ≡ d → fin.get (subscribe_at (cond d (Some x.message) None) (now.hashes a) b) k ≡ Some h → t ≡ home_task rules p r b) [
      | true ↦ λ d. let at = topic-is q.topic (Subscriptions a) d in by_message at x.message (at_key (ap is_changelog at)) b k h
      | false ↦ λ d. w.placed t b k h
    ] refl

    after_placed : (u : TaskId) (b k : Key) (h : Subscriber) → fin.get (((take_first (machine rules p) st s q (x ∷ rest)).stores u).hashes a b) k ≡ Some h → u ≡ home_task rules p r b
    after_placed u b k h e = (elim (same_task u t) as (λ d. same_task u t ≡ d → cond d (fin.get (hashes_after (arrival p q x) now a b) k) (fin.get ((st.stores u).hashes a b) k) ≡ Some h → u ≡ home_task rules p r b) [
      | true ↦ λ d f. (same_task-is u t).0 d ∙ here_placed b k h f
      | false ↦ λ d f. w.placed u b k h f
    ]) refl (sym (hash_then rules p st s q x rest u a b k) ∙ e)

  hashes_step : (st : State) (s : Option TaskId) (q : Place) (xs : List Item) → st.waiting s q ≡ xs → HashesPlaced st → HashesPlaced (take_first (machine rules p) st s q xs)
  hashes_step st s q [] e w = w
  hashes_step st s q (x ∷ rest) e w = record { waits = waits_step rules p fits a l r fk kind set stands st s q (x ∷ rest) e w.waits; placed = after_placed st s q x rest e w }

  pub hashes_run : (records : List Input) (schedule : List (Option TaskId × Place)) → HashesPlaced (state_of rules p records schedule)
  hashes_run records schedule = kept_by_run (machine rules p) HashesPlaced (λ st c h. hashes_step st c.0 c.1 (st.waiting c.0 c.1) refl h) (initial (machine rules p) (inputs_of rules p records))
      (record {
        waits = waits_initial rules p fits a l r fk kind set stands records (placed_run rules p fits records []);
        placed = λ u b k h e. let f : None ≡ Some h = sym (fin.get-empty by_bytes k) ∙ e in cc;
      }) schedule
