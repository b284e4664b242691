-- The records that a journal produces, and the input lists of a job.
use Rattle.std.proofs.Common.{◌≡◌, ℕ, suc, ◌+◌, ◌<◌, Bool, true, false, cond, ◌&&◌, List, length, [], ◌∷◌, map, Some, refl, sym, ap, ap₂, subst, ◌∙◌, arith, nat_eq, ⊎_elim}
use Rattle.std.specs.Prelude.{◌==◌, slice_index}
use Rattle.std.specs.List.{filter, AllByRecursion}
use Rattle.std.proofs.lemmas.Option.{get_or_from_slice_get}
use Rattle.std.proofs.lemmas.Bool.{and_parts, or_cases, true≢false}
use Rattle.std.proofs.lemmas.Bool.Decides.{Decides-eqb}
use Rattle.ks_record.specs.Records.{Record as Rec}
use Rattle.ks_record.specs.declared.record.PartId.{PartId}
use Rattle.ks_record.specs.Parts.{same_part}
use Rattle.ks_plan.specs.declared.node.Topic.{Topic}
use Rattle.ks_plan.specs.declared.node.Topic.TheVariants.{Input as InputTopic, Repartition, Subscriptions, Responses, Changelog, HashChangelog}
use Rattle.ks_plan.specs.Plan.{Plan, Kind}
use Rattle.ks_plan.specs.Plan.Kind.{StreamSource, TableSource}
use Rattle.ks_plan.specs.Layout.{same_topic, at, parts_of, parts_of_topic, topics_of, topic_at, number_of, sub_of, sub_count, reads, is_read, is_drained, is_source_of, any_source_of, source_of, tasks}
use Rattle.ks_query.specs.Streams.{Input}
use Rattle.ks_history.specs.declared.journal.Request.{Request}
use Rattle.ks_history.specs.declared.journal.Request.TheVariants.{Produce, Init, Add, Append, SendOffsets, Decide, MarkNext, Join, Expire, Hold, Probe, Assign, Park, Unpark}
use Rattle.ks_history.specs.declared.journal.Entry.{Entry}
use Rattle.ks_history.specs.State.{State, Setup, IsPart, has_task}
use Rattle.ks_history.specs.Step.{after}
use Rattle.ks_history.specs.History.{Each, IsStep, Meets}
use Rattle.ks_history.specs.Replay.{produced, produced_by}
use Rattle.ks_def_tasks.specs.Messages.{Place, Rules, Item}
use Rattle.ks_def_tasks.specs.Tasks.{part_of_key, item_of_input, stands_at, inputs_of}
use Rattle.ks_def_tasks.specs.Bytes.{rec_of, part_id, records_at}
use Rattle.ks_def_tasks.proofs.Names.{topic-is}
use Rattle.ks_law_topology.proofs.Fits.{Fits, NodeFits, EachFits, Sourced}
use Rattle.ks_law_topology.specs.Work.{setup_of}
use Rattle.ks_law_settled.specs.Jobs.{produced_part, produced_rec, produced_of, produces_by, produces, FitsInput, FitInputs}
use Rattle.ks_def_tasks.proofs.Each.{AllOf, all_both}
use Rattle.ks_law_settled.proofs.Topics.{IsTopic, IsPlace, same_part-is, input_number, input_topic}
use Rattle.ks_law_settled.proofs.Tasks.{has_node_task}
use Rattle.ks_def_tasks.proofs.Numbered.{get_map}

-- ---- what is produced at a partition
produced_one : (q : PartId) (request : Request) (more : List (PartId × Rec)) → produced_by request q (records_at q more) ≡ records_at q (produces_by request more)
produced_one q (Produce part rec) more = refl
produced_one q (Init w) more = refl
produced_one q (Add w e part) more = refl
produced_one q (Append w e number t part recs) more = refl
produced_one q (SendOffsets w e g t offsets order late) more = refl
produced_one q (Decide w e commit) more = refl
produced_one q (MarkNext w) more = refl
produced_one q (Join w) more = refl
produced_one q (Expire w) more = refl
produced_one q (Hold w held) more = refl
produced_one q (Probe w g) more = refl
produced_one q (Assign w g a) more = refl
produced_one q (Park instance t) more = refl
produced_one q (Unpark instance t) more = refl

pub produced_is : (journal : List Entry) (q : PartId) → produced journal q ≡ records_at q (produces journal)
produced_is [] q = refl
produced_is (entry ∷ entries) q = ap (produced_by entry.request q) (produced_is entries q) ∙ produced_one q entry.request (produces entries)

-- ---- what is produced stands in partitions of the cluster
abbrev ProducedParts : Setup → List (PartId × Rec) → Type 0
ProducedParts setup xs = AllOf (λ e. IsPart setup e.0) xs

parts_one : (setup : Setup) (s : State) (request : Request) (more : List (PartId × Rec)) → Meets setup s request → ProducedParts setup more → ProducedParts setup (produces_by request more)
parts_one setup s (Produce part rec) more meets h = (meets.1, h)
parts_one setup s (Init w) more meets h = h
parts_one setup s (Add w e part) more meets h = h
parts_one setup s (Append w e number t part recs) more meets h = h
parts_one setup s (SendOffsets w e g t offsets order late) more meets h = h
parts_one setup s (Decide w e commit) more meets h = h
parts_one setup s (MarkNext w) more meets h = h
parts_one setup s (Join w) more meets h = h
parts_one setup s (Expire w) more meets h = h
parts_one setup s (Hold w held) more meets h = h
parts_one setup s (Probe w g) more meets h = h
parts_one setup s (Assign w g a) more meets h = h
parts_one setup s (Park instance t) more meets h = h
parts_one setup s (Unpark instance t) more meets h = h

pub produced_parts : (setup : Setup) (s : State) (journal : List Entry) → Each IsStep setup s journal → ProducedParts setup (produces journal)
produced_parts setup s [] h = tt
produced_parts setup s (entry ∷ entries) h = parts_one setup s entry.request (produces entries) h.0.meets (produced_parts setup (after setup s entry.request) entries h.1)

unmapped : (setup : Setup) (f : Input → PartId × Rec) (records : List Input) → ProducedParts setup (map f records) → AllOf (λ r. IsPart setup (f r).0) records
unmapped setup f [] h = tt
unmapped setup f (r ∷ rs) h = (h.0, unmapped setup f rs h.1)

pub by_recursion : {A : Type 0} (P : A → Type 0) (xs : List A) → AllByRecursion P xs → AllOf P xs
by_recursion P [] h = tt
by_recursion P (x ∷ xs) h = (h.0, by_recursion P xs h.1)

eq_turned : (a b : ℕ) → nat_eq a b ≡ nat_eq b a
eq_turned a b = by (nat_eq a b) refl (nat_eq b a) refl
  where
    by : (c : Bool) → nat_eq a b ≡ c → (d : Bool) → nat_eq b a ≡ d → c ≡ d
    by true e true f = refl
    by false e false f = refl
    by true e false f = absurd (true≢false (sym ((Decides-eqb b a).1 (sym ((Decides-eqb a b).0 e))) ∙ f))
    by false e true f = absurd (true≢false (sym ((Decides-eqb a b).1 (sym ((Decides-eqb b a).0 f))) ∙ e))

-- ---- the source of a topic that is read
pub record SourceNode (p : Plan) (t : ℕ) (n len : ℕ) : Type 0 where
  pub node : ℕ
  pub below : node < n + len
  pub sub : sub_of p (source_of p t) ≡ sub_of p node
  pub parts : at p.counts t ≡ parts_of p node

find_source : (p : Plan) (t n : ℕ) (ks : List Kind) → EachFits p n ks → any_source_of t ks ≡ true → SourceNode p t n (length ks)
find_source p t n [] fit h = absurd (true≢false (sym h))
find_source p t n (k ∷ ks) fit h =
    ⊎_elim (λ (e : is_source_of t k ≡ true). here k fit.0 e)
    (λ (g : any_source_of t ks ≡ true). later (find_source p t (suc n) ks fit.1 g))
    (or_cases (is_source_of t k) (any_source_of t ks) h)
  where
    later : SourceNode p t (suc n) (length ks) → SourceNode p t n (suc (length ks))
    later s = record { node = s.node; below = omega (arith, s.below); sub = s.sub; parts = s.parts }

    found : (u : ℕ) → Sourced p u n → nat_eq u t ≡ true → SourceNode p t n (suc (length ks))
    found u f e =
        let is : u ≡ t = (Decides-eqb u t).0 e in
        record { node = n; below = omega arith; sub = subst (λ v. sub_of p (source_of p v) ≡ sub_of p n) is f.sub; parts = subst (λ v. at p.counts v ≡ parts_of p n) is f.parts }

    here : (k : Kind) → NodeFits p n k → is_source_of t k ≡ true → SourceNode p t n (suc (length ks))
    here (StreamSource u) f e = found u f e
    here (TableSource u) f e = found u f e
    here _ f e = absurd cc

module _ (rules : Rules) (p : Plan) where
  -- ---- the same records, spelled
  one_stands : (q : Place) → IsTopic p q.topic → (r : Input) → r.topic < length p.counts → same_part (part_id p q) (produced_part rules p r) ≡ stands_at rules p q r
  one_stands q topic r lt =
      let w : Place = record { topic = InputTopic r.topic; part = part_of_key rules p (InputTopic r.topic) r.key } in
      let number : r.topic ≡ number_of p (InputTopic r.topic) = sym (input_number p r.topic lt) in
      ap (λ n. (number_of p q.topic == n) && (q.part == w.part)) number ∙ same_part-is p q w topic.there ∙ turned
    where
      part : ℕ
      part = part_of_key rules p (InputTopic r.topic) r.key

      by : (u : Topic) → is_drained p u ≡ true → (same_topic u (InputTopic r.topic) && nat_eq q.part part) ≡ ((same_topic (InputTopic r.topic) u && is_read p r.topic) && nat_eq part q.part)
      by (InputTopic t) e = same (nat_eq t r.topic) refl
        where
          same : (c : Bool) → nat_eq t r.topic ≡ c → (c && nat_eq q.part part) ≡ ((nat_eq r.topic t && is_read p r.topic) && nat_eq part q.part)
          same true f =
              let is : t ≡ r.topic = (Decides-eqb t r.topic).0 f in
              eq_turned q.part part
              ∙ ap₂ (λ (a b : Bool). (a && b) && nat_eq part q.part) (sym f ∙ eq_turned t r.topic) (sym (subst (λ v. is_read p v ≡ true) is e))
          same false f = ap (λ (a : Bool). (a && is_read p r.topic) && nat_eq part q.part) (sym f ∙ eq_turned t r.topic)
      by (Repartition n) e = refl
      by (Subscriptions n) e = refl
      by (Responses n) e = refl
      by (Changelog n) e = refl
      by (HashChangelog n) e = refl

      turned : (same_topic q.topic (InputTopic r.topic) && nat_eq q.part part) ≡ ((same_topic (InputTopic r.topic) q.topic && is_read p r.topic) && nat_eq part q.part)
      turned = by q.topic topic.drawn

  same_inputs : (q : Place) → IsTopic p q.topic → (records : List Input) → AllOf (FitsInput p) records → records_at (part_id p q) (map (produced_of rules p) records) ≡ map rec_of (inputs_of rules p records q)
  same_inputs q topic [] h = refl
  same_inputs q topic (r ∷ rs) h =
      ap (λ b. cond b (produced_rec r ∷ records_at (part_id p q) (map (produced_of rules p) rs)) (records_at (part_id p q) (map (produced_of rules p) rs))) (one_stands q topic r h.0.topic)
      ∙ by (stands_at rules p q r) (same_inputs q topic rs h.1)
    where
      by : (b : Bool) → records_at (part_id p q) (map (produced_of rules p) rs) ≡ map rec_of (map item_of_input (filter (stands_at rules p q) rs)) →
          cond b (produced_rec r ∷ records_at (part_id p q) (map (produced_of rules p) rs)) (records_at (part_id p q) (map (produced_of rules p) rs))
          ≡ map rec_of (map item_of_input (cond b (r ∷ filter (stands_at rules p q) rs) (filter (stands_at rules p q) rs)))
      by true e = ap (λ l. produced_rec r ∷ l) e
      by false e = e

  pub inputs_are : (journal : List Entry) (records : List Input) → produces journal ≡ map (produced_of rules p) records → FitInputs p records → (q : Place) → IsTopic p q.topic → produced journal (part_id p q) ≡ map rec_of (inputs_of rules p records q)
  inputs_are journal records made h q topic = produced_is journal (part_id p q) ∙ ap (records_at (part_id p q)) made ∙ same_inputs q topic records (by_recursion (FitsInput p) records h)

  -- ---- where one goes
  abbrev pub stands_in : Input → Place
  stands_in r = record { topic = InputTopic r.topic; part = part_of_key rules p (InputTopic r.topic) r.key }

  -- ---- they hold what follows of each record, of the place where it stands and of what else is known of it
  module _ (all_fit : Fits p) (Holds : Place → Item → Type 0) (Known : Input → Type 0) (holds : (r : Input) → FitsInput p r → Known r → IsPlace p (stands_in r) → Holds (stands_in r) (item_of_input r)) where
    one_place : (r : Input) → FitsInput p r → IsPart (setup_of rules p) (produced_part rules p r) → is_read p r.topic ≡ true → IsPlace p (stands_in r)
    one_place r h part read =
        let source = find_source p r.topic 0 p.kinds all_fit read in
        let topic : IsTopic p (InputTopic r.topic) = input_topic p r.topic h.topic read in
        let here : topic_at p r.topic ≡ Some (InputTopic r.topic) = ap (topic_at p) (sym (input_number p r.topic h.topic)) ∙ topic.there in
        let value : slice_index (map (parts_of_topic p) (topics_of p)) r.topic ≡ at p.counts r.topic =
        get_or_from_slice_get (map (parts_of_topic p) (topics_of p)) r.topic (at p.counts r.topic) 0 (get_map (parts_of_topic p) (topics_of p) r.topic (InputTopic r.topic) here) in
        let below : part_of_key rules p (InputTopic r.topic) r.key < at p.counts r.topic = omega (arith, part.part, value) in
        let sub : reads p (InputTopic r.topic) ≡ sub_of p source.node = ap (λ b. cond b (sub_of p (source_of p r.topic)) (sub_count p)) read ∙ source.sub in
        record {
          topic = topic;
          task = subst (λ s. has_task (record { sub = s; part = part_of_key rules p (InputTopic r.topic) r.key }) (tasks p) ≡ true) (sym sub)
              (has_node_task p all_fit source.node (part_of_key rules p (InputTopic r.topic) r.key) (omega (arith, source.below)) (omega (arith, below, source.parts)));
          part = below;
        }

    abbrev Produced : Input → Type 0
    Produced r = (FitsInput p r × Known r) × IsPart (setup_of rules p) (produced_part rules p r)

    all_hold : (q : Place) (records : List Input) → AllOf Produced records → AllOf (Holds q) (inputs_of rules p records q)
    all_hold q [] h = tt
    all_hold q (r ∷ rs) h = by (stands_at rules p q r) refl (all_hold q rs h.1)
      where
        by : (b : Bool) → stands_at rules p q r ≡ b → AllOf (Holds q) (map item_of_input (filter (stands_at rules p q) rs)) →
            AllOf (Holds q) (map item_of_input (cond b (r ∷ filter (stands_at rules p q) rs) (filter (stands_at rules p q) rs)))
        by true e more =
            let both = and_parts (same_topic (InputTopic r.topic) q.topic && is_read p r.topic) (nat_eq (part_of_key rules p (InputTopic r.topic) r.key) q.part) e in
            let first = and_parts (same_topic (InputTopic r.topic) q.topic) (is_read p r.topic) both.0 in
            let topic : InputTopic r.topic ≡ q.topic = topic-is (InputTopic r.topic) q.topic first.0 in
            let part : part_of_key rules p (InputTopic r.topic) r.key ≡ q.part = (Decides-eqb _ _).0 both.1 in
            let is : stands_in r ≡ q = λ i. record { topic = topic i; part = part i } in
            (subst (λ (w : Place). Holds w (item_of_input r)) is (holds r h.0.0.0 h.0.0.1 (one_place r h.0.0.0 h.0.1 first.1)), more)
        by false e more = more

    pub inputs_hold : (journal : List Entry) (s : State) (records : List Input) → Each IsStep (setup_of rules p) s journal → produces journal ≡ map (produced_of rules p) records → FitInputs p records → AllOf Known records →
        (q : Place) → AllOf (Holds q) (inputs_of rules p records q)
    inputs_hold journal s records legal made h known q =
        all_hold q records (all_both (λ r. FitsInput p r × Known r) (λ r. IsPart (setup_of rules p) (produced_part rules p r)) records
        (all_both (FitsInput p) Known records (by_recursion (FitsInput p) records h) known)
        (unmapped (setup_of rules p) (produced_of rules p) records (subst (ProducedParts (setup_of rules p)) made (produced_parts (setup_of rules p) s journal legal))))
