-- Tasks keep the kinds of their records and stores, and so every decided record has its kind.
use Rattle.std.proofs.Common.{◌≡◌, ℕ, zero, suc, ◌<◌, ◌^◌, Bool, true, false, cond, nat_eq, List, length, [], ◌∷◌, ◌++◌, map, Option, Some, None, refl, sym, ap, subst, ◌∙◌, arith, length-append, append_assoc}
use Rattle.std.specs.Prelude.{◌&&◌, ◌==◌, ◌≤◌, nat_le, nat_lt, option_map, slice_get, slice_index}
use Rattle.std.specs.List.{filter}
use Rattle.std.specs.Cmp.Lexicographic.{nat_list_cmp_total}
use Rattle.std.proofs.lemmas.Bool.{and_parts, and_from, eqb-true, ltb-true, leb-true, le-leb}
use Rattle.ks_record.specs.Records.{Record as Rec}
use Rattle.ks_record.specs.declared.record.PartId.{PartId}
use Rattle.ks_record.specs.declared.record.TaskId.{TaskId}
use Rattle.ks_record.specs.Parts.{same_part}
use Rattle.ks_record.specs.Texts.{key_from}
use Rattle.ks_row.specs.Reading.{row_from}
use Rattle.ks_plan.specs.declared.node.Topic.{Topic}
use Rattle.ks_plan.specs.declared.node.Topic.TheVariants.{Input as InputTopic}
use Rattle.ks_plan.specs.Plan.{Plan}
use Rattle.ks_wire.specs.Values.{IsPart}
use Rattle.ks_plan.specs.Drafts.{Name}
use Rattle.ks_plan.specs.Layout.{before_of, topics_of, topic_at, number_of, kind_at, parts_of_topic, reads, up_to, input_topics, by_node, through_topics, changelogs_of}
use Rattle.ks_def_runs.specs.FinMap as fin
use Rattle.ks_def_runs.specs.Bytes.{by_bytes, Store as ByteStore, empty_store as no_bytes}
use Rattle.ks_def_tasks.specs.Messages.{Place, Item, Message, Rules, Store}
use Rattle.ks_def_tasks.specs.Tasks.{is_changelog, names_at, arrival, step, sent_item, written_item}
use Rattle.ks_def_tasks.specs.Step.{Arrival, Sent, Written, whole_step, step_key, items_from, olds_at, news_at}
use Rattle.ks_def_tasks.specs.Bytes.{ByteStores, key_bytes, value_bytes, is_own, part_id, rec_of, spelled, is_sent, message_in, step_at, step_read, outcome_of, nothing_made, store_from, byte_step, records_at, keep_all, keep_bytes, is_own_number}
use Rattle.ks_def_tasks.proofs.Numbers.{place-is, kept_at}
use Rattle.ks_def_tasks.proofs.Told.{tells}
use Rattle.ks_history.specs.declared.journal.Request.{Request}
use Rattle.ks_history.specs.declared.journal.Request.TheVariants.{Produce, Init, Add, Append, SendOffsets, Decide, MarkNext, Join, Expire, Hold, Probe, Assign, Park, Unpark}
use Rattle.ks_history.specs.declared.journal.Entry.{Entry}
use Rattle.ks_history.specs.Machine.{reader_of, part_of}
use Rattle.ks_history.specs.State.{State, start, IsPart as IsPartOf}
use Rattle.ks_history.specs.Step.{after}
use Rattle.ks_history.specs.History.{IsStep, Meets, Each}
use Rattle.ks_history.specs.Replay.{produced, produced_by}
use Rattle.ks_history.proofs.Names.{same_part-is}
use Rattle.ks_law_exactly_once.specs.Keeping.{AllFit, FitIn, AreHeld, Keeps}
use Rattle.ks_law_exactly_once.proofs.Keeping.{all_kept}
use Rattle.ks_law_topology.specs.Work.{FitsRules, HaveFewParts, work_of, setup_of}
use Rattle.ks_law_topology.proofs.Networks.{works_are_networks}
use Rattle.ks_law_topology.proofs.Placing.{at_places}
use Rattle.ks_law_topology.specs.Spelled.{IfThere}
use Rattle.ks_law_kinds.specs.OfKind.{spells, may_have, is_of_topic, is_of, is_of_kind, is_in_range, is_given, is_timed}
use Rattle.ks_law_kinds.specs.Fitting.{FitsPlan, is_pair_of, are_pairs_of, holds_kind, DecidedAreOfKind}
use Rattle.ks_law_topology.proofs.Every.{Every, every_write, every_empty}
use Rattle.ks_law_kinds.proofs.Stores.{bytes_anti, StoreFits, ValueFits, store_fits}
use Rattle.ks_law_kinds.proofs.Arriving.{MessageFits, message_fits}
use Rattle.ks_law_kinds.proofs.Values.{ItemsFit, ValuesFit, items_fit, news_fit}
use Rattle.ks_law_kinds.proofs.Made.{AllSent, AllWritten, all_sent, all_written}

pub in_u64 : (t : ℕ) → is_in_range t ≡ true → t < 2 ^ 64
unfolding is_in_range
in_u64 t h = omega (arith, leb-true t (2 ^ 53) h)

module _ (p : Plan) where
  -- of its kind, timed, and in one of 64 partitions
  abbrev pub test : PartId → Rec → Bool
  test q r = is_of_kind p q r && is_in_range r.ts && nat_le q.part 63

  kind_in : (q : PartId) (r : Rec) → test q r ≡ true → is_of_kind p q r ≡ true
  kind_in q r h = (and_parts (is_of_kind p q r) (is_in_range r.ts) (and_parts (is_of_kind p q r && is_in_range r.ts) (nat_le q.part 63) h).0).0

  time_in : (q : PartId) (r : Rec) → test q r ≡ true → is_in_range r.ts ≡ true
  time_in q r h = (and_parts (is_of_kind p q r) (is_in_range r.ts) (and_parts (is_of_kind p q r && is_in_range r.ts) (nat_le q.part 63) h).0).1

  few_in : (q : PartId) (r : Rec) → test q r ≡ true → q.part ≤ 63
  few_in q r h = leb-true q.part 63 (and_parts (is_of_kind p q r && is_in_range r.ts) (nat_le q.part 63) h).1

  pub tested : (q : PartId) (r : Rec) → is_of_kind p q r ≡ true → is_in_range r.ts ≡ true → q.part ≤ 63 → test q r ≡ true
  tested q r kind timed few = and_from (is_of_kind p q r && is_in_range r.ts) (nat_le q.part 63) (and_from (is_of_kind p q r) (is_in_range r.ts) kind timed) (le-leb q.part 63 few)

  -- ---- stores
  abbrev IsPair : Option Topic → List ℕ → List ℕ → Type 0
  IsPair o k v = is_pair_of p o (k, v) ≡ true

  each_pair : (o : Option Topic) (es : List (List ℕ × List ℕ)) → are_pairs_of p o es ≡ true → Every (IsPair o) es
  each_pair o [] h = tt
  each_pair o (e ∷ es) h = let a = and_parts (is_pair_of p o e) (are_pairs_of p o es) h in (a.0, each_pair o es a.1)

  all_pairs : (o : Option Topic) (es : List (List ℕ × List ℕ)) → Every (IsPair o) es → are_pairs_of p o es ≡ true
  all_pairs o [] h = refl
  all_pairs o (e ∷ es) h = and_from (is_pair_of p o e) (are_pairs_of p o es) h.0 (all_pairs o es h.1)

  -- a record of a changelog, as a pair
  module _ (o : Option Topic) (w : Topic) (at : o ≡ Some w) where
    one_value : (k : List ℕ) (v : Option (List ℕ)) → is_of p o (Some k) v ≡ true → IfThere (IsPair o k) v
    one_value k None h = tt
    one_value k (Some v) h = subst (λ x. IsPair x k v) (sym at) (subst (λ x. is_of p x (Some k) (Some v) ≡ true) at h)

    kept_one : (m : ByteStore) → Every (IsPair o) (fin.entries m) → (k v : Option (List ℕ)) → is_of p o k v ≡ true → Every (IsPair o) (fin.entries (keep_bytes m k v))
    kept_one m held None v h = held
    kept_one m held (Some k) v h = every_write (IsPair o) by_bytes nat_list_cmp_total bytes_anti m k v (one_value k v h) held

  kept_all : (q : PartId) (w : Topic) → topic_at p q.topic ≡ Some w → (m : ByteStore) → Every (IsPair (topic_at p q.topic)) (fin.entries m) → (rs : List Rec) → FitIn test q rs → Every (IsPair (topic_at p q.topic)) (fin.entries (keep_all m rs))
  kept_all q w at m held [] h = held
  kept_all q w at m held (r ∷ rs) h = kept_all q w at (keep_bytes m r.key r.value)
      (kept_one (topic_at p q.topic) w at m held r.key r.value (kind_in q r h.0)) rs h.1

  records_fit : (q : PartId) (xs : List (PartId × Rec)) → AllFit test xs → FitIn test q (records_at q xs)
  records_fit q [] h = tt
  records_fit q (x ∷ xs) h = by (same_part q x.0) refl (records_fit q xs h.1)
    where
      by : (b : Bool) → same_part q x.0 ≡ b → FitIn test q (records_at q xs) → FitIn test q (cond b (x.1 ∷ records_at q xs) (records_at q xs))
      by true is more = (subst (λ u. test u x.1 ≡ true) (sym (same_part-is q x.0 is)) h.0, more)
      by false is more = more

  -- ---- what is made, by topic and by number
  by_number : (t : Topic) (key value : Option (List ℕ)) → is_of_topic p t key value ≡ true → is_of p (topic_at p (number_of p t)) key value ≡ true
  by_number t key value h = by (topic_at p (number_of p t)) refl
    where
      by : (o : Option Topic) → topic_at p (number_of p t) ≡ o → is_of p o key value ≡ true
      by None e = refl
      by (Some w) e = ap (λ v. is_of_topic p v key value) (place-is (topics_of p) t w e) ∙ h

  -- a record that is made, of which one for a partition that its topic hasn't is held back
  abbrev Fine : Place × Item → Type 0
  Fine x = (is_of p (topic_at p (number_of p x.0.topic)) (rec_of x.1).key (rec_of x.1).value ≡ true) × (is_in_range x.1.time ≡ true)

  abbrev EachFits : List (Place × Item) → Type 0
  EachFits [] = Unit {0}
  EachFits (x ∷ xs) = Fine x × EachFits xs

  each-append : (xs ys : List (Place × Item)) → EachFits xs → EachFits ys → EachFits (xs ++ ys)
  each-append [] ys a b = b
  each-append (x ∷ xs) ys a b = (a.0, each-append xs ys a.1 b)

  module _ (small : HaveFewParts p) (t : TaskId) (few : t.part ≤ 63) where
    sent_few : (x : Place × Item) → is_sent p t x ≡ true → x.0.part ≤ 63
    sent_few x h = by (is_changelog x.0.topic) h
      where
        by : (b : Bool) → cond b (is_own p t.sub x.0.topic && (x.0.part == t.part)) (nat_lt x.0.part (parts_of_topic p x.0.topic)) ≡ true → x.0.part ≤ 63
        by true e = omega (arith, few, eqb-true x.0.part t.part (and_parts (is_own p t.sub x.0.topic) (x.0.part == t.part) e).1)
        by false e = omega (arith, small x.0.topic, ltb-true x.0.part (parts_of_topic p x.0.topic) e)

    all_fit : (xs : List (Place × Item)) → EachFits xs → AllFit test (spelled p (filter (is_sent p t) xs))
    all_fit [] h = tt
    all_fit (x ∷ xs) h = by (is_sent p t x) refl (all_fit xs h.1)
      where
        by : (b : Bool) → is_sent p t x ≡ b → AllFit test (spelled p (filter (is_sent p t) xs)) → AllFit test (spelled p (cond b (x ∷ filter (is_sent p t) xs) (filter (is_sent p t) xs)))
        by true e g = (tested (part_id p x.0) (rec_of x.1) h.0.0 h.0.1 (sent_few x e), g)
        by false e g = g

  sent_fit : (rules : Rules) (time : ℕ) → is_in_range time ≡ true → (xs : List Sent) → AllSent p xs → EachFits (map (sent_item rules p time) xs)
  sent_fit rules time timed [] h = tt
  sent_fit rules time timed (s ∷ xs) h = ((by_number s.topic (key_bytes s.message) (value_bytes s.message) h.0, timed), sent_fit rules time timed xs h.1)

  written_fit : (part time : ℕ) → is_in_range time ≡ true → (ws : List Written) → AllWritten p ws → EachFits (map (written_item part time) ws)
  written_fit part time timed [] h = tt
  written_fit part time timed (w ∷ ws) h = ((by_number w.topic (key_bytes w.message) (value_bytes w.message) h.0, timed), written_fit part time timed ws h.1)

  -- ---- one step
  module _ (rules : Rules) (good : FitsRules rules) (plan : FitsPlan p) (small : HaveFewParts p) (t : TaskId) (stores : ByteStores) (held : AreHeld (holds_kind p) t stores) where
    of_step : (place : Place) (x : Item) → t.part ≤ 63 → place.part ≤ 63 → MessageFits x.message → is_in_range x.time ≡ true → AllFit test (outcome_of p t stores (step rules p t (store_from p t.sub stores) place x)).made
    of_step place x few here arrives timed =
        let st = store_from p t.sub stores in
        let fits : StoreFits p st = store_fits p t.sub stores held in
        let a : Arrival = arrival p place x in
        let in_time = in_u64 x.time timed in
        let key = step_key x.message in
        let items = items_from a (λ n. None) 0 p.kinds in
        let olds = olds_at st key in
        let news = news_at rules p a items olds key in
        let itemly : ItemsFit rules p a arrives in_time items = items_fit rules p a arrives in_time (λ n. None) (λ n. tt) 0 p.kinds plan in
        let old : ValuesFit rules p a arrives in_time olds = olds_fit st fits key in
        let new : ValuesFit rules p a arrives in_time news = news_fit rules p a arrives in_time items olds old plan key in
        let at = at_places rules p [] p.kinds refl 0 refl in
        let made = whole_step rules p st a in
        all_fit small t few (map (sent_item rules p x.time) made.sends ++ map (written_item t.part x.time) made.changes)
        (each-append (map (sent_item rules p x.time) made.sends) (map (written_item t.part x.time) made.changes)
        (sent_fit rules x.time timed made.sends (all_sent rules good p a arrives in_time st fits items itemly olds news old new names 0 p.kinds plan at))
        (written_fit t.part x.time timed made.changes (all_written rules good p a arrives in_time st fits items itemly olds news old new names 0 p.kinds at)))
      where
        names : (n : ℕ) → IsPart (names_at p place.part n)
        names n = by (before_of p n)
          where
            by : (o : Option Name) → IsPart (option_map (λ s. place.part) o)
            by None = tt
            by (Some s) = here

        olds_fit : (st : Store) → StoreFits p st → (key : Option (List ℕ)) → (n : ℕ) → ValueFits (kind_at p n) (olds_at st key n)
        olds_fit st fits None n = record { there = tt; none = λ e. refl }
        olds_fit st fits (Some k) n = fits.tables n k

    of_read : (q : PartId) (topic : Topic) (r : Rec) → t.part ≤ 63 → q.part ≤ 63 → is_of_topic p topic r.key r.value ≡ true → is_in_range r.ts ≡ true → (m : Option Message) → message_in p topic r ≡ m →
        AllFit test (step_read rules p t stores q topic r.ts m).made
    of_read q topic r few here kind timed None e = tt
    of_read q topic r few here kind timed (Some m) e = of_step (record { topic = topic; part = q.part }) (record { message = m; time = r.ts }) few here (message_fits p topic r m kind e) timed

    of_topic : (q : PartId) (r : Rec) → t.part ≤ 63 → q.part ≤ 63 → is_in_range r.ts ≡ true → (o : Option Topic) → is_of p o r.key r.value ≡ true → AllFit test (step_at rules p t stores q r o).made
    of_topic q r few here timed None kind = tt
    of_topic q r few here timed (Some topic) kind = by (nat_eq (reads p topic) t.sub)
      where
        by : (b : Bool) → AllFit test (cond b (step_read rules p t stores q topic r.ts (message_in p topic r)) (nothing_made stores)).made
        by true = of_read q topic r few here kind timed (message_in p topic r) refl
        by false = tt

    made_fits : (q : PartId) (r : Rec) → q.part ≡ t.part → test q r ≡ true → AllFit test (byte_step rules p t stores q r).made
    made_fits q r same h = of_topic q r (subst (λ i. i ≤ 63) same (few_in q r h)) (few_in q r h) (time_in q r h) (topic_at p q.topic) (kind_in q r h)

    pub held_after : (q : PartId) (r : Rec) → q.part ≡ t.part → test q r ≡ true → AreHeld (holds_kind p) t (byte_step rules p t stores q r).store
    held_after q r same h n = by (is_own_number p t.sub n) refl
      where
        by : (b : Bool) → is_own_number p t.sub n ≡ b → holds_kind p (part_of n t) ((byte_step rules p t stores q r).store n) ≡ true
        by false e = subst (λ m. holds_kind p (part_of n t) m ≡ true) (sym ((tells rules p t stores q r n).other e)) (held n)
        by true e =
            let k = kept_at p t.sub n e in
            subst (λ m. holds_kind p (part_of n t) m ≡ true) (sym ((tells rules p t stores q r n).own e))
            (all_pairs (topic_at p n) (fin.entries (keep_all (stores n) (records_at (part_of n t) (byte_step rules p t stores q r).made)))
            (kept_all (part_of n t) k.topic (ap (topic_at p) k.is ∙ k.holds.0.0) (stores n) (each_pair (topic_at p n) (fin.entries (stores n)) (held n))
            (records_at (part_of n t) (byte_step rules p t stores q r).made) (records_fit (part_of n t) (byte_step rules p t stores q r).made (made_fits q r same h))))

  keeps : (rules : Rules) → FitsRules rules → FitsPlan p → HaveFewParts p → Keeps (work_of rules p) test (holds_kind p)
  keeps rules good plan small = record {
    start = λ q. all_pairs (topic_at p q.topic) (fin.entries no_bytes) (every_empty (IsPair (topic_at p q.topic)) by_bytes nat_list_cmp_total bytes_anti);
    stores = λ stores q r reads held fit. held_after rules good plan small (reader_of (work_of rules p) q) stores held q r refl fit;
    made = λ stores q r reads held fit. made_fits rules good plan small (reader_of (work_of rules p) q) stores held q r refl fit;
  }

  -- ---- what is produced stands in input topics
  among : (ns : List ℕ) (rest : List Topic) (n : ℕ) → n < length ns → (m : ℕ) × (slice_get (map InputTopic ns ++ rest) n ≡ Some (InputTopic m))
  among [] rest n lt = absurd (omega arith)
  among (m ∷ ns) rest zero lt = (m, refl)
  among (m ∷ ns) rest (suc n) lt = among ns rest n (omega arith)

  length_up_to : (n : ℕ) → length (up_to n) ≡ n
  length_up_to zero = refl
  length_up_to (suc n) = omega (arith, length-append (up_to n) (n ∷ []), length_up_to n)

  given_here : (q : PartId) (r : Rec) → q.topic < length p.counts → q.part ≤ 63 → is_given q r ≡ true → test q r ≡ true
  given_here q r lt few h =
      let a = and_parts (may_have (spells key_from) r.key && may_have (spells row_from) r.value) (is_in_range r.ts) h in
      let i = among (up_to (length p.counts)) (by_node through_topics 0 p.kinds ++ by_node changelogs_of 0 p.kinds) q.topic (omega (arith, lt, length_up_to (length p.counts))) in
      let regrouped = append_assoc (input_topics p) (by_node through_topics 0 p.kinds) (by_node changelogs_of 0 p.kinds) in
      tested q r (ap (λ (l : List Topic). is_of p (slice_get l q.topic) r.key r.value) regrouped ∙ (ap (λ o. is_of p o r.key r.value) i.1 ∙ a.0)) a.1 few

  -- a partition of the cluster is one of 64
  counts_few : HaveFewParts p → (ts : List Topic) (i : ℕ) → slice_index (map (parts_of_topic p) ts) i ≤ 64
  counts_few small [] i = omega arith
  counts_few small (u ∷ ts) zero = small u
  counts_few small (u ∷ ts) (suc i) = counts_few small ts i

  part_few : (rules : Rules) → HaveFewParts p → (q : PartId) → IsPartOf (setup_of rules p) q → q.part ≤ 63
  part_few rules small q h = omega (arith, h.part, counts_few small (topics_of p) q.topic)

  produced_fit : (rules : Rules) (small : HaveFewParts p) (s : State) (entries : List Entry) → Each IsStep (setup_of rules p) s entries → (q : PartId) → FitIn is_given q (produced entries q) → FitIn test q (produced entries q)
  produced_fit rules small s [] legal q h = tt
  produced_fit rules small s (entry ∷ entries) legal q h = by entry.request legal.0.meets (λ g. produced_fit rules small (after (setup_of rules p) s entry.request) entries legal.1 q g) h
    where
      here : (part : PartId) (rec : Rec) (b : Bool) → same_part q part ≡ b → part.topic < length p.counts → part.part ≤ 63 → (FitIn is_given q (produced entries q) → FitIn test q (produced entries q)) →
          FitIn is_given q (cond b (rec ∷ produced entries q) (produced entries q)) → FitIn test q (cond b (rec ∷ produced entries q) (produced entries q))
      here part rec true e lt few more g = (given_here q rec (subst (λ u. u.topic < length p.counts) (sym (same_part-is q part e)) lt) (subst (λ u. u.part ≤ 63) (sym (same_part-is q part e)) few) g.0, more g.1)
      here part rec false e lt few more g = more g

      by : (r : Request) → Meets (setup_of rules p) s r → (FitIn is_given q (produced entries q) → FitIn test q (produced entries q)) →
          FitIn is_given q (produced_by r q (produced entries q)) → FitIn test q (produced_by r q (produced entries q))
      by (Produce part rec) meets more g = here part rec (same_part q part) refl meets.0 (part_few rules small part meets.1) more g
      by (Init w) meets more g = more g
      by (Add w e part) meets more g = more g
      by (Append w e number t part recs) meets more g = more g
      by (SendOffsets w e k t offsets order late) meets more g = more g
      by (Decide w e commit) meets more g = more g
      by (MarkNext w) meets more g = more g
      by (Join w) meets more g = more g
      by (Expire w) meets more g = more g
      by (Hold w held) meets more g = more g
      by (Probe w k) meets more g = more g
      by (Assign w k a) meets more g = more g
      by (Park instance t) meets more g = more g
      by (Unpark instance t) meets more g = more g

  -- ---- a test that others follow from
  weaker : (f : PartId → Rec → Bool) → ((q : PartId) (r : Rec) → test q r ≡ true → f q r ≡ true) → (q : PartId) (rs : List Rec) → FitIn test q rs → FitIn f q rs
  weaker f g q [] h = tt
  weaker f g q (r ∷ rs) h = (g q r h.0, weaker f g q rs h.1)

pub decided_are_of_kind : DecidedAreOfKind
decided_are_of_kind rules p journal good plan small history given =
    let kept = all_kept (setup_of rules p) journal (works_are_networks rules p) history (test p) (holds_kind p) (keeps p rules good plan small) (λ q. produced_fit p rules small start journal history.legal q (given q)) in
    record {
      kinds = λ q. weaker p (is_of_kind p) (kind_in p) q _ (kept.0 q);
      times = λ q. weaker p is_timed (time_in p) q _ (kept.0 q);
      stores = kept.1;
    }
