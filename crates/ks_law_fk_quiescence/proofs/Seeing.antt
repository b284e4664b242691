-- Whole runs: what a left key of a join on a foreign key sees is a run of its protocol.
use Rattle.std.proofs.Common.{◌≡◌, ℕ, List, [], ◌∷◌, ◌++◌, slice_get, Option, Some, fold, suc, ◌+◌, refl, sym, ap, subst, ◌∙◌, arith, ◌<◌, ⊎_elim}
use Rattle.std.specs.Prelude.{option_map}
use Rattle.std.proofs.lemmas.List.Sums.{fold-append}
use Rattle.ks_record.specs.declared.record.TaskId.{TaskId}
use Rattle.ks_expr.specs.declared.terms.JoinKind.{JoinKind}
use Rattle.ks_expr.specs.Terms.{Set}
use Rattle.ks_expr.specs.Eval.{Row}
use Rattle.ks_expr.specs.declared.terms.Fk.{Fk}
use Rattle.ks_plan.specs.Plan.{Plan, Kind}
use Rattle.ks_plan.specs.Plan.Kind.{ForeignKeyJoin}
use Rattle.ks_def_runs.specs.FinMap as fin
use Rattle.ks_def_runs.specs.Bytes.{by_bytes}
use Rattle.ks_query.specs.Streams.{Key, Input}
use Rattle.ks_def_runs.specs.Run.{take_first, initial}
use Rattle.ks_def_runs.proofs.Runs.{kept_by_run}
use Rattle.ks_def_tasks.specs.Messages.{Place, shown, Item, Rules}
use Rattle.ks_def_tasks.specs.Collision.{NoneCollides}
use Rattle.ks_def_tasks.specs.Tasks.{machine, inputs_of}
use Rattle.ks_law_quiescence.specs.States.{State, state_of}
use Rattle.ks_law_quiescence.specs.ForeignJoin.{Event, nothing_yet, run_of}
use Rattle.ks_law_quiescence.specs.ForeignJoin as join
use Rattle.ks_law_topology.proofs.Fits.{Fits}
use Rattle.ks_law_topology.proofs.Mixed.{Stands_at}
use Rattle.ks_law_quiescence.proofs.OneKey.{Sound, Sound-run, keys_decided}
use Rattle.ks_law_topology.proofs.Placed.{placed_run}
use Rattle.ks_law_fk_quiescence.specs.KeyJoins.{JoinAt, join_at, protocol_of, KeyJoin}
use Rattle.ks_law_fk_quiescence.proofs.Waits.{Waits, waits_step, waits_initial}
use Rattle.ks_law_fk_quiescence.proofs.Assembled.{happen}
use Rattle.ks_law_fk_quiescence.proofs.Simulated.{see, left_past, IsPast, step_is_events}
use Rattle.ks_wire.specs.declared.values.Subscriber.{Subscriber}

-- a node by its number
pub node_is : (n : ℕ) (ks : List Kind) (a : ℕ) (k : Kind) → Stands_at a k n ks → (i : ℕ) × (a ≡ n + i) × (slice_get ks i ≡ Some k)
node_is n [] a k s = absurd s
node_is n (y ∷ ys) a k s = ⊎_elim
    (λ (e : (n ≡ a) × (y ≡ k)). (0, (let is = e.0 in omega arith), ap (λ z. Some z) e.1))
    (λ (e : (n < a) × Stands_at a k (suc n) ys). let more = node_is (suc n) ys a k e.1 in let is = more.1 in (suc more.0, omega arith, more.2)) s

module _ (rules : Rules) (p : Plan) (fits : Fits p) (a l r : ℕ) (fk : Fk) (kind : JoinKind) (set : Set) (stands : Stands_at a (ForeignKeyJoin l r fk kind set) 0 p.kinds) where
  abbrev site : JoinAt
  site = join_at rules p a l r fk kind set

  abbrev pub protocol_run : Key → List (Event Key Row Row) → KeyJoin
  protocol_run k events = run_of (protocol_of site k) events

  pub record Sees (k : Key) (st : State) : Type 0 where
    pub waits : Waits rules p fits a l r fk kind set stands st
    pub events : List (Event Key Row Row)
    pub had : List Row
    pub is : see rules p fits a l r fk kind set stands k had st ≡ protocol_run k events
    pub within : IsPast rules p fits a l r fk kind set stands k had st

  sees_step : (k : Key) (st : State) (s : Option TaskId) (q : Place) (xs : List Item) → st.waiting s q ≡ xs → Sees k st → Sees k (take_first (machine rules p) st s q xs)
  sees_step k st s q [] e h = h
  sees_step k st s q (x ∷ rest) e h =
      let more = step_is_events rules p fits a l r fk kind set stands st s q x rest e h.waits k h.had in
      record {
        waits = waits_step rules p fits a l r fk kind set stands st s q (x ∷ rest) e h.waits;
        events = h.events ++ more.events;
        had = more.then;
        is = more.is ∙ ap (λ j. fold (happen site k) j more.events) h.is
            ∙ sym (fold-append (happen site k) nothing_yet h.events more.events);
        within = more.within h.within;
      }

  sees_initial : (k : Key) (records : List Input) → Sees k (initial (machine rules p) (inputs_of rules p records))
  sees_initial k records = record {
    waits = waits_initial rules p fits a l r fk kind set stands records (placed_run rules p fits records []);
    events = [];
    had = [];
    is = λ i. record {
      row = ap (option_map shown) (fin.get-empty by_bytes k) i;
      result = ap (option_map shown) (fin.get-empty by_bytes k) i;
      had = [];
      right = λ b. ap (option_map shown) (fin.get-empty by_bytes b) i;
      stored = λ b. ap (option_map (λ (s : Subscriber). s.hash)) (fin.get-empty by_bytes k) i;
      subscriptions = λ b. [];
      responses = λ n. [];
    };
    within = λ v i. absurd i;
  }

  pub sees_run : (k : Key) (records : List Input) (schedule : List (Option TaskId × Place)) → Sees k (state_of rules p records schedule)
  sees_run k records schedule = kept_by_run (machine rules p) (Sees k) (λ st c h. sees_step k st c.0 c.1 (st.waiting c.0 c.1) refl h) (initial (machine rules p) (inputs_of rules p records)) (sees_initial k records) schedule

  -- no two of its rows collide, so it is sound
  pub had_apart : (k : Key) (st : State) (h : Sees k st) → NoneCollides rules.hash (left_past rules p fits a l r fk kind set stands k st) → join.NoCollision rules.hash h.had
  had_apart k st h none = λ v w i j e. none v w (h.within v i) (h.within w j) e

  abbrev pub IsSound : Key → KeyJoin → Type 0
  IsSound k j = Sound (protocol_of site k) keys_decided j

  pub sees_sound : (k : Key) (st : State) (h : Sees k st) → NoneCollides rules.hash (left_past rules p fits a l r fk kind set stands k st) → IsSound k (see rules p fits a l r fk kind set stands k h.had st)
  sees_sound k st h none =
      let had : h.had ≡ (protocol_run k h.events).had = ap (λ (j : KeyJoin). j.had) h.is in
      subst (IsSound k) (sym h.is) (Sound-run (protocol_of site k) keys_decided h.events (subst (join.NoCollision rules.hash) had (had_apart k st h none)))
