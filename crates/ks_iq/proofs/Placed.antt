-- An ask's place is that of its node.
use Rattle.std.proofs.Common.{◌≡◌, ℕ, ◌<◌, ◌≤◌, Bool, true, false, cond, List, length, map, Some, None, refl, sym, ap, ap₂, subst, ◌∙◌, arith, lt-ltb}
use Rattle.std.proofs.lemmas.Bool.{le-ltb}
use Rattle.std.specs.Prelude.{option_map, IfSome, slice_get, get_or}
use Rattle.std.proofs.lemmas.Option.{slice_get_read, slice_get_past}
use Rattle.ks_wire.specs.Reading.{agg_from}
use Rattle.ks_query.specs.Aggregates.{agg_row}
use Rattle.ks_plan.specs.Drafts.{DraftView, NodeView, op_view}
use Rattle.ks_plan.specs.declared.node.Node.{Node}
use Rattle.ks_plan.specs.declared.node.Topic.TheVariants.{Changelog}
use Rattle.ks_plan.specs.Plan.{plan_of, name_place, is_windowed, is_stream}
use Rattle.ks_plan.specs.Layout.{kind_at, topics_of, spread_of_topic}
use Rattle.ks_plan.specs.Infos.{NodePlace, node_place, place_in, store_of, built_view, info_of, topic_infos}
use Rattle.ks_plan.specs.declared.node.TopicInfo.{TopicInfo}
use Rattle.ks_expr.specs.Keys.{spread_part}
use Rattle.ks_task_processing.specs.Steps.{part_in}
use Rattle.ks_law_settled.specs.Folded as folded
use Rattle.ks_settle.specs.Rows.{row_by, node_named, counts_windows}
use Rattle.ks_iq.specs.declared.ask.Ask.{Ask}
use Rattle.ks_iq.specs.declared.fault.IqFault.TheVariants.{UnknownStore, WrongStart}
use Rattle.ks_iq.specs.declared.place.Place.{Place}
use Rattle.ks_iq.specs.Asks.{node_of, kept_at, log_of, placed_in, start_fault, store_fault, ask_fault}
use Rattle.ks_iq.specs.Places.{op_row, IsPlaceOf}
use Rattle.ks_settle.proofs.Named.{Shows, IsThere, there, number_nowhere, kind_reads, kind_counts, kinds_all, log_found, get_over}

some_is : {A : Type 0} (x y : A) → Some x ≡ Some y → x ≡ y
some_is x y e = cc

-- what stands at a number
pub at_number : {A : Type 0} (P : A → Type 0) (xs : List A) (n : ℕ) → n < length xs → (x : A) → ((d : A) → x ≡ get_or xs n d) → P x → IfSome (slice_get xs n) P
at_number P xs n lt x is h = subst (λ o. IfSome o P) (sym (slice_get_read xs (length xs) n x refl lt (is x))) h

pub past_all : {A : Type 0} (P : A → Type 0) (xs : List A) (n : ℕ) → length xs ≤ n → IfSome (slice_get xs n) P
past_all P xs n le = subst (λ o. IfSome o P) (sym (slice_get_past xs n le)) tt

module _ (d : DraftView) (nodes : List Node) (a : Ask) (shows : Shows d nodes) where
  pub nothing_named : node_named nodes a.node ≡ None → ask_fault d a ≡ Some UnknownStore
  nothing_named e =
      let past : node_of d a ≡ length d.nodes = number_nowhere d nodes a.node shows e in
      ap (λ b. store_fault (cond b (store_of (plan_of d) (node_of d a)) None) (is_windowed (kind_at (plan_of d) (node_of d a))) a.start)
      (le-ltb (node_of d a) (length d.nodes) (omega (arith, past)))

  module _ (node : Node) (e : node_named nodes a.node ≡ Some node) where
    t : IsThere d nodes a.node node
    t = there d nodes a.node node shows e

    is_place : node_place node ≡ place_in (plan_of d) (node_of d a)
    is_place = t.place ∙ ap (place_in (plan_of d)) (sym t.number)

    kept_is : kept_at d (node_of d a) ≡ node.store
    kept_is =
        ap (λ b. cond b (store_of (plan_of d) (node_of d a)) None) (lt-ltb (node_of d a) (length d.nodes) (omega (arith, t.within, t.number)))
        ∙ sym (ap (λ (x : NodePlace). x.store) is_place)

    windowed_is : is_windowed (kind_at (plan_of d) (node_of d a)) ≡ counts_windows (op_view node.op)
    windowed_is = ap (λ k. is_windowed (kind_at (plan_of d) k)) t.number ∙ kind_counts d _ (built_view node) t.within ∙ ap (λ (x : NodeView). counts_windows x.op) t.draft

    fault_is : ask_fault d a ≡ store_fault node.store (counts_windows (op_view node.op)) a.start
    fault_is = ap₂ (λ o w. store_fault o w a.start) kept_is windowed_is

    pub nothing_kept : node.store ≡ None → ask_fault d a ≡ Some UnknownStore
    nothing_kept s = fault_is ∙ ap (λ o. store_fault o (counts_windows (op_view node.op)) a.start) s

    module _ (log : ℕ) (s : node.store ≡ Some log) where
      fault_at : ask_fault d a ≡ start_fault (counts_windows (op_view node.op)) a.start
      fault_at = fault_is ∙ ap (λ o. store_fault o (counts_windows (op_view node.op)) a.start) s

      pub start_is_wrong : start_fault (counts_windows (op_view node.op)) a.start ≡ Some WrongStart → ask_fault d a ≡ Some WrongStart
      start_is_wrong h = fault_at ∙ h

      none_some : None ≡ Some log → ⊥
      none_some g = cc

      kept_by : (st : Bool) → is_stream (kind_at (plan_of d) (node_of d a)) ≡ st → (st ≡ false) × (log ≡ log_of d a)
      kept_by true h = absurd (none_some (sym (ap (λ (x : NodePlace). x.store) is_place ∙ ap (λ b. cond b None (Some (log_of d a))) h) ∙ s))
      kept_by false h = (refl, some_is log (log_of d a) (sym s ∙ (ap (λ (x : NodePlace). x.store) is_place ∙ ap (λ b. cond b None (Some (log_of d a))) h)))

      log_is : log ≡ log_of d a
      log_is = (kept_by (is_stream (kind_at (plan_of d) (node_of d a))) refl).1

      -- what stands of the changelog among the topics
      info_is : slice_get (topic_infos d) log ≡ Some (info_of d (Changelog (node_of d a)))
      info_is =
          ap (slice_get (topic_infos d)) log_is
          ∙ get_over (info_of d) (topics_of (plan_of d)) (log_of d a) (Changelog (node_of d a))
          (log_found (plan_of d) (node_of d a) (omega (arith, t.within, t.number, kinds_all d)) (kept_by (is_stream (kind_at (plan_of d) (node_of d a))) refl).0)

      -- the partition of the key there
      pub part_there : (infos : List TopicInfo) (part : ℕ) → infos ≡ topic_infos d → IfSome (slice_get infos log) (λ i. part ≡ part_in (spread_part i.before a.key) i.parts) →
          part ≡ placed_in a.key (spread_of_topic (plan_of d) (Changelog (node_of d a)))
      part_there infos part are told = subst (λ o. IfSome o (λ i. part ≡ part_in (spread_part i.before a.key) i.parts)) (ap (λ l. slice_get l log) are ∙ info_is) told

      pub placed : start_fault (counts_windows (op_view node.op)) a.start ≡ None →
          (place : Place) → place.node.now ≡ node → place.log ≡ log → place.task.sub ≡ node.sub → place.task.part ≡ placed_in a.key (spread_of_topic (plan_of d) (Changelog (node_of d a))) → IsPlaceOf d a place
      placed h place n l su pa = record {
        fine = fault_at ∙ h;
        named = ap (λ (x : Node). x.name) n ∙ t.named;
        drafted = ap (λ k. get_or d.nodes k (built_view place.node.now)) t.number ∙ subst (λ (x : Node). get_or d.nodes (name_place (map (λ (y : Node). y.name) nodes) a.node) (built_view x) ≡ built_view x) (sym n) t.draft;
        stands = ap node_place n ∙ is_place;
        log = l ∙ log_is;
        task = ap₂ (λ x y. record { sub = x; part = y }) (su ∙ ap (λ (x : NodePlace). x.sub) is_place) pa;
        shows = λ bytes. ap₂ (λ c o. cond c (option_map (agg_row true) (agg_from bytes)) o) windowed_is
            (ap (λ k. folded.row_from (kind_at (plan_of d) k) bytes) t.number ∙ kind_reads d _ (built_view node) bytes t.within ∙ ap (λ (x : NodeView). row_by x.op bytes) t.draft)
            ∙ ap (λ (x : Node). op_row (op_view x.op) bytes) (sym n);
      }
