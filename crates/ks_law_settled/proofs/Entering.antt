-- The records that a job's run begins with, and none of changelogs.
use Rattle.std.proofs.Common.{◌≡◌, ℕ, true, false, cond, ◌&&◌, List, [], ◌∷◌, map, refl, sym, ap, ◌∙◌, nat_eq}
use Rattle.std.specs.List.{filter}
use Rattle.ks_record.specs.Parts.{same_part}
use Rattle.ks_plan.specs.declared.node.Topic.{Topic}
use Rattle.ks_plan.specs.declared.node.Topic.TheVariants.{Input as InputTopic, Changelog, HashChangelog}
use Rattle.ks_plan.specs.Plan.{Plan}
use Rattle.ks_plan.specs.Layout.{same_topic, is_read}
use Rattle.ks_query.specs.Streams.{Input}
use Rattle.ks_history.specs.declared.journal.Entry.{Entry}
use Rattle.ks_history.specs.State.{State}
use Rattle.ks_history.specs.History.{Each, IsStep}
use Rattle.ks_history.specs.Replay.{produced}
use Rattle.ks_def_tasks.specs.Messages.{Place, Rules}
use Rattle.ks_def_tasks.specs.Tasks.{part_of_key, item_of_input, stands_at, inputs_of, is_changelog}
use Rattle.ks_def_tasks.specs.Bytes.{part_id, records_at}
use Rattle.ks_def_tasks.proofs.Each.{AllOf}
use Rattle.ks_law_topology.proofs.Fits.{Fits}
use Rattle.ks_law_topology.specs.Work.{setup_of}
use Rattle.ks_law_kinds.specs.OfKind.{is_in_range}
use Rattle.ks_law_settled.specs.Jobs.{produced_part, produced_rec, produced_of, produces, FitsInput, FitInputs}
use Rattle.ks_law_settled.proofs.Topics.{At, same_part-is, input_number}
use Rattle.ks_law_settled.proofs.Inputs.{inputs_hold, by_recursion, produced_is}
use Rattle.ks_law_settled.specs.Jobs.{InRange}
use Rattle.ks_law_settled.proofs.Steps.{FitsItem}

-- those of records whose times are in range
pub inputs_fit : (rules : Rules) (p : Plan) → Fits p → (journal : List Entry) (s : State) (records : List Input) → Each IsStep (setup_of rules p) s journal → produces journal ≡ map (produced_of rules p) records → FitInputs p records → InRange records →
    (q : Place) → AllOf (FitsItem rules p q) (inputs_of rules p records q)
inputs_fit rules p fits journal s records legal made h range q =
    inputs_hold rules p fits (FitsItem rules p) (λ r. is_in_range r.time ≡ true) (λ r fit time place. (place, (fit.key, fit.value), time)) journal s records legal made h (by_recursion (λ r. is_in_range r.time ≡ true) records range) q

-- ---- nothing is produced for a changelog
no_input : (t : ℕ) (u : Topic) → is_changelog u ≡ true → same_topic (InputTopic t) u ≡ false
no_input t (Changelog n) log = refl
no_input t (HashChangelog n) log = refl
no_input t _ log = cc

no_input_to : (u : Topic) (t : ℕ) → is_changelog u ≡ true → same_topic u (InputTopic t) ≡ false
no_input_to (Changelog n) t log = refl
no_input_to (HashChangelog n) t log = refl
no_input_to _ t log = cc

pub none_at_logs : (rules : Rules) (p : Plan) (q : Place) → is_changelog q.topic ≡ true → (records : List Input) → inputs_of rules p records q ≡ []
none_at_logs rules p q log [] = refl
none_at_logs rules p q log (r ∷ rs) =
    ap (λ b. map item_of_input (cond b (r ∷ filter (stands_at rules p q) rs) (filter (stands_at rules p q) rs))) none ∙ none_at_logs rules p q log rs
  where
    none : stands_at rules p q r ≡ false
    none = ap (λ b. (b && is_read p r.topic) && nat_eq (part_of_key rules p (InputTopic r.topic) r.key) q.part) (no_input r.topic q.topic log)

module _ (rules : Rules) (p : Plan) (q : Place) (there : At p q.topic) (log : is_changelog q.topic ≡ true) where
  one_away : (r : Input) → FitsInput p r → same_part (part_id p q) (produced_part rules p r) ≡ false
  one_away r h =
      let w : Place = record { topic = InputTopic r.topic; part = part_of_key rules p (InputTopic r.topic) r.key } in
      let is : part_id p w ≡ produced_part rules p r = ap (λ n. record { topic = n; part = w.part }) (input_number p r.topic h.topic) in
      ap (same_part (part_id p q)) (sym is) ∙ same_part-is p q w there ∙ ap (λ b. b && nat_eq q.part w.part) (no_input_to q.topic r.topic log)

  none_of : (records : List Input) → FitInputs p records → records_at (part_id p q) (map (produced_of rules p) records) ≡ []
  none_of [] h = refl
  none_of (r ∷ rs) h = ap (λ b. cond b (produced_rec r ∷ records_at (part_id p q) (map (produced_of rules p) rs)) (records_at (part_id p q) (map (produced_of rules p) rs))) (one_away r h.0) ∙ none_of rs h.1

  pub none_produced : (journal : List Entry) (records : List Input) → produces journal ≡ map (produced_of rules p) records → FitInputs p records → produced journal (part_id p q) ≡ []
  none_produced journal records made h = produced_is journal (part_id p q) ∙ ap (records_at (part_id p q)) made ∙ none_of records h
