-- A run over bytes and the decoded run of the same choices: the same stores and the same lists, spelled.
use Rattle.std.proofs.Common.{◌≡◌, ◌+◌, Bool, true, false, cond, ◌&&◌, List, [], ◌∷◌, ◌++◌, map, Option, Some, None, fold, refl, sym, ap, ap₂, subst, ◌∙◌}
use Rattle.std.specs.List.{filter}
use Rattle.std.proofs.lemmas.Bool.{and_parts}
use Rattle.std.proofs.lemmas.Bool.Decides.{Decides-eqb}
use Rattle.ks_record.specs.Records.{Record as Rec}
use Rattle.ks_record.specs.declared.record.PartId.{PartId}
use Rattle.ks_record.specs.declared.record.TaskId.{TaskId}
use Rattle.ks_record.specs.Parts.{same_task}
use Rattle.ks_plan.specs.declared.node.Topic.{Topic}
use Rattle.ks_plan.specs.Plan.{Plan}
use Rattle.ks_plan.specs.Layout.{topic_at, reads, sub_count}
use Rattle.ks_plan.specs.Infos.{input_numbers}
use Rattle.ks_def_runs.specs.Run.{Machine, RunState, Outcome, sent_to, is_from, same_sender, same_channel, of_input, take_first, advance, initial}
use Rattle.ks_history.specs.Machine.{has_topic, network, reader_of}
use Rattle.ks_law_exactly_once.specs.Law.{OnInputs}
use Rattle.ks_def_tasks.specs.Messages.{Place, same_place, Item, Store, Rules}
use Rattle.ks_def_tasks.specs.Tasks.{machine, step, taker, is_changelog}
use Rattle.ks_def_tasks.specs.Bytes.{ByteStores, byte_step, rec_of, part_id, spelled, store_from, is_sent, is_own_number, taker_at}
use Rattle.ks_def_tasks.specs.Laws.{IsTakenBy}
use Rattle.ks_def_tasks.proofs.Names.{same_task-is, same_place-is}
use Rattle.ks_def_tasks.proofs.Agree.{is_decoded}
use Rattle.ks_def_tasks.proofs.Told.{tells}
use Rattle.ks_law_topology.specs.Work.{work_of}
use Rattle.ks_def_tasks.proofs.Each.{AllOf, all_append}
use Rattle.ks_law_settled.proofs.Topics.{At, IsTopic, same_part-is, read_topic}
use Rattle.ks_law_settled.specs.Replayed.{topic_or, place_at, decoded_choice, decoded_choices}
use Rattle.ks_law_settled.proofs.Agreeing.{IsNeat, MadeFits, StepAgrees, Agrees}
use Rattle.ks_law_settled.proofs.Choices.{took_by, map-append, map-cond}

abbrev ByteState : Type 0
ByteState = RunState TaskId PartId ByteStores Rec

abbrev State : Type 0
State = RunState TaskId Place Store Item

module _ (rules : Rules) (p : Plan) where
  abbrev bytes : Machine TaskId PartId ByteStores Rec
  bytes = network (work_of rules p)

  abbrev decoded : Machine TaskId Place Store Item
  decoded = machine rules p

  -- what is sent over bytes to a place is what is sent there, spelled
  bytes_sent : (q : Place) → At p q.topic → (made : List (Place × Item)) → sent_to bytes (part_id p q) (spelled p made) ≡ map rec_of (sent_to decoded q made)
  bytes_sent q there [] = refl
  bytes_sent q there (e ∷ es) =
      ap (λ b. cond b (rec_of e.1 ∷ sent_to bytes (part_id p q) (spelled p es)) (sent_to bytes (part_id p q) (spelled p es))) (same_part-is p q e.0 there)
      ∙ ap (λ l. cond (same_place q e.0) (rec_of e.1 ∷ l) l) (bytes_sent q there es)
      ∙ sym (map-cond rec_of (same_place q e.0) (e.1 ∷ sent_to decoded q es) (sent_to decoded q es))

  module _ (Fits Kept : Place → Item → Type 0) (Held : TaskId → ByteStores → Type 0) where
    -- the two states say the same of the lists that tasks read
    pub record Same (b : ByteState) (d : State) : Type 0 where
      pub stores : (t : TaskId) → d.stores t ≡ store_from p t.sub (b.stores t)
      pub neat : (t : TaskId) → IsNeat p t.sub (b.stores t)
      pub held : (t : TaskId) → Held t (b.stores t)
      -- what was ever written to a changelog, and how many pairs were late
      pub logged : (r : Option TaskId) (q : Place) → At p q.topic → is_changelog q.topic ≡ true → b.given r (part_id p q) ≡ map rec_of (d.given r q)
      pub kept : (r : Option TaskId) (q : Place) → is_changelog q.topic ≡ true → AllOf (Kept q) (d.given r q)
      pub late : b.late ≡ d.late
      pub waits : (r : Option TaskId) (q : Place) → IsTopic p q.topic → b.waiting r (part_id p q) ≡ map rec_of (d.waiting r q)
      pub fit : (r : Option TaskId) (q : Place) → is_changelog q.topic ≡ false → AllOf (Fits q) (d.waiting r q)

    sent_fits : (q : Place) → is_changelog q.topic ≡ false → (made : List (Place × Item)) → AllOf (MadeFits Fits Kept) made → AllOf (Fits q) (sent_to decoded q made)
    sent_fits q log [] h = tt
    sent_fits q log (e ∷ es) h = by (same_place q e.0) refl (sent_fits q log es h.1)
      where
        by : (b : Bool) → same_place q e.0 ≡ b → AllOf (Fits q) (sent_to decoded q es) → AllOf (Fits q) (cond b (e.1 ∷ sent_to decoded q es) (sent_to decoded q es))
        by true f more =
            let is : q ≡ e.0 = (same_place-is q e.0).0 f in
            (subst (λ (w : Place). Fits w e.1) (sym is) (h.0.0 (ap (λ (w : Place). is_changelog w.topic) (sym is) ∙ log)), more)
        by false f more = more

    sent_kept : (q : Place) → is_changelog q.topic ≡ true → (made : List (Place × Item)) → AllOf (MadeFits Fits Kept) made → AllOf (Kept q) (sent_to decoded q made)
    sent_kept q log [] h = tt
    sent_kept q log (e ∷ es) h = by (same_place q e.0) refl (sent_kept q log es h.1)
      where
        by : (b : Bool) → same_place q e.0 ≡ b → AllOf (Kept q) (sent_to decoded q es) → AllOf (Kept q) (cond b (e.1 ∷ sent_to decoded q es) (sent_to decoded q es))
        by true f more =
            let is : q ≡ e.0 = (same_place-is q e.0).0 f in
            (subst (λ (w : Place). Kept w e.1) (sym is) (h.0.1 (ap (λ (w : Place). is_changelog w.topic) (sym is) ∙ log)), more)
        by false f more = more

    module _ (agrees : Agrees rules p Fits Kept Held)
        (held_back : (t : TaskId) (stores : ByteStores) (q : Place) (x : Item) → taker p q.topic ≡ t.sub → Held t stores → Fits q x →
        filter (is_sent p t) (step rules p t (store_from p t.sub stores) q x).made ≡ (step rules p t (store_from p t.sub stores) q x).made) where
      module _ (b : ByteState) (d : State) (h : Same b d) (s : Option TaskId) (q : Place) (topic : IsTopic p q.topic) (x : Item) (rest : List Item) (there : d.waiting s q ≡ x ∷ rest) where
        abbrev t : TaskId
        t = decoded.reader q

        abbrev st : Store
        st = store_from p t.sub (b.stores t)

        abbrev byte_out : Outcome PartId ByteStores Rec
        byte_out = byte_step rules p t (b.stores t) (part_id p q) (rec_of x)

        abbrev out : Outcome Place Store Item
        out = step rules p t (d.stores t) q x

        list_fits : AllOf (Fits q) (x ∷ rest)
        list_fits = subst (AllOf (Fits q)) there (h.fit s q topic.log)

        one : StepAgrees rules p Fits Kept Held t (b.stores t) q x
        one = agrees.each t (b.stores t) q x topic refl refl (h.neat t) (h.held t) list_fits.0

        same_out : out ≡ step rules p t st q x
        same_out = ap (λ (l : Store). step rules p t l q x) (h.stores t)

        reads_it : reads p q.topic ≡ t.sub
        reads_it = sym (ap (λ c. cond c (sub_count p) (reads p q.topic)) topic.log)

        taken : IsTakenBy p t (part_id p q) (rec_of x) q.topic x.message
        taken = record { topic_there = topic.there; reader = (Decides-eqb (reads p q.topic) t.sub).1 reads_it; spelled = one.read }

        made_is : byte_out.made ≡ spelled p out.made
        made_is = ap (λ (o : Outcome PartId ByteStores Rec). o.made) (is_decoded rules p t (b.stores t) (part_id p q) (rec_of x) q.topic x.message taken)
            ∙ ap (spelled p) (held_back t (b.stores t) q x refl (h.held t) list_fits.0 ∙ ap (λ (o : Outcome Place Store Item). o.made) (sym same_out))

        stores : (u : TaskId) → cond (same_task u t) out.store (d.stores u) ≡ store_from p u.sub (cond (same_task u t) byte_out.store (b.stores u))
        stores u = by (same_task u t) refl
          where
            by : (c : Bool) → same_task u t ≡ c → cond c out.store (d.stores u) ≡ store_from p u.sub (cond c byte_out.store (b.stores u))
            by true e = ap (λ (o : Outcome Place Store Item). o.store) same_out ∙ one.store ∙ ap (λ (v : TaskId). store_from p v.sub byte_out.store) (sym ((same_task-is u t).0 e))
            by false e = h.stores u

        neat : (u : TaskId) → IsNeat p u.sub (cond (same_task u t) byte_out.store (b.stores u))
        neat u = by (same_task u t) refl
          where
            by : (c : Bool) → same_task u t ≡ c → IsNeat p u.sub (cond c byte_out.store (b.stores u))
            by true e n own =
                let here : is_own_number p t.sub n ≡ false = ap (λ (v : TaskId). is_own_number p v.sub n) (sym ((same_task-is u t).0 e)) ∙ own in
                (tells rules p t (b.stores t) (part_id p q) (rec_of x) n).other here ∙ h.neat t n here
            by false e n own = h.neat u n own

        held : (u : TaskId) → Held u (cond (same_task u t) byte_out.store (b.stores u))
        held u = by (same_task u t) refl
          where
            by : (c : Bool) → same_task u t ≡ c → Held u (cond c byte_out.store (b.stores u))
            by true e = subst (λ v. Held v byte_out.store) (sym ((same_task-is u t).0 e)) one.held
            by false e = h.held u

        logged : (r : Option TaskId) (w : Place) → At p w.topic → is_changelog w.topic ≡ true →
            b.given r (part_id p w) ++ cond (is_from same_task r t) (sent_to bytes (part_id p w) byte_out.made) [] ≡ map rec_of (d.given r w ++ cond (is_from same_task r t) (sent_to decoded w out.made) [])
        logged r w there log =
            let sent : sent_to bytes (part_id p w) byte_out.made ≡ map rec_of (sent_to decoded w out.made) = ap (sent_to bytes (part_id p w)) made_is ∙ bytes_sent w there out.made in
            let from = is_from same_task r t in
            ap₂ (λ (k l : List Rec). k ++ cond from l []) (h.logged r w there log) sent
            ∙ ap (λ (l : List Rec). map rec_of (d.given r w) ++ l) (sym (map-cond rec_of from (sent_to decoded w out.made) []))
            ∙ sym (map-append rec_of (d.given r w) (cond from (sent_to decoded w out.made) []))

        kept : (r : Option TaskId) (w : Place) → is_changelog w.topic ≡ true → AllOf (Kept w) (d.given r w ++ cond (is_from same_task r t) (sent_to decoded w out.made) [])
        kept r w log = all_append (Kept w) (d.given r w) (cond (is_from same_task r t) (sent_to decoded w out.made) []) (h.kept r w log) (by (is_from same_task r t))
          where
            by : (c : Bool) → AllOf (Kept w) (cond c (sent_to decoded w out.made) [])
            by true = sent_kept w log out.made (subst (λ (o : Outcome Place Store Item). AllOf (MadeFits Fits Kept) o.made) (sym same_out) one.fit)
            by false = tt

        late : b.late + byte_out.late ≡ d.late + out.late
        late = ap₂ (λ m n. m + n) h.late
            (ap (λ (o : Outcome PartId ByteStores Rec). o.late) (is_decoded rules p t (b.stores t) (part_id p q) (rec_of x) q.topic x.message taken) ∙ ap (λ (o : Outcome Place Store Item). o.late) (sym same_out))

        waits : (r : Option TaskId) (w : Place) → IsTopic p w.topic →
            cond (same_channel bytes r (part_id p w) s (part_id p q)) (map rec_of rest) (b.waiting r (part_id p w)) ++ cond (is_from same_task r t) (sent_to bytes (part_id p w) byte_out.made) []
            ≡ map rec_of (cond (same_channel decoded r w s q) rest (d.waiting r w) ++ cond (is_from same_task r t) (sent_to decoded w out.made) [])
        waits r w read =
            let sent : sent_to bytes (part_id p w) byte_out.made ≡ map rec_of (sent_to decoded w out.made) = ap (sent_to bytes (part_id p w)) made_is ∙ bytes_sent w read.there out.made in
            let c = same_channel decoded r w s q in
            let from = is_from same_task r t in
            ap₂ (λ (k : Bool) (l : List Rec). cond (same_sender same_task r s && k) (map rec_of rest) (b.waiting r (part_id p w)) ++ cond from l []) (same_part-is p w q read.there) sent
            ∙ ap (λ (l : List Rec). cond c (map rec_of rest) l ++ cond from (map rec_of (sent_to decoded w out.made)) []) (h.waits r w read)
            ∙ ap₂ (λ (k l : List Rec). k ++ l) (sym (map-cond rec_of c rest (d.waiting r w))) (sym (map-cond rec_of from (sent_to decoded w out.made) []))
            ∙ sym (map-append rec_of (cond c rest (d.waiting r w)) (cond from (sent_to decoded w out.made) []))

        fit : (r : Option TaskId) (w : Place) → is_changelog w.topic ≡ false → AllOf (Fits w) (cond (same_channel decoded r w s q) rest (d.waiting r w) ++ cond (is_from same_task r t) (sent_to decoded w out.made) [])
        fit r w log = all_append (Fits w) (cond (same_channel decoded r w s q) rest (d.waiting r w)) (cond (is_from same_task r t) (sent_to decoded w out.made) []) (first (same_channel decoded r w s q) refl) (second (is_from same_task r t))
          where
            first : (c : Bool) → same_channel decoded r w s q ≡ c → AllOf (Fits w) (cond c rest (d.waiting r w))
            first true e =
                let is : w ≡ q = (same_place-is w q).0 (and_parts (same_sender same_task r s) (same_place w q) e).1 in
                subst (λ v. AllOf (Fits v) rest) (sym is) list_fits.1
            first false e = h.fit r w log

            second : (c : Bool) → AllOf (Fits w) (cond c (sent_to decoded w out.made) [])
            second true = sent_fits w log out.made (subst (λ (o : Outcome Place Store Item). AllOf (MadeFits Fits Kept) o.made) (sym same_out) one.fit)
            second false = tt

        same_taken : Same (took_by bytes b s (part_id p q) (rec_of x) (map rec_of rest) t) (took_by decoded d s q x rest t)
        same_taken = record { stores = stores; neat = neat; held = held; logged = logged; kept = kept; late = late; waits = waits; fit = fit }

      same_reader : (q : Place) → At p q.topic → reader_of (work_of rules p) (part_id p q) ≡ decoded.reader q
      same_reader q there = ap (λ (o : Option Topic). record { sub = taker_at p o; part = q.part }) there

      same_first : (b : ByteState) (d : State) → Same b d → (s : Option TaskId) (q : Place) → IsTopic p q.topic → (xs : List Item) → d.waiting s q ≡ xs →
          Same (take_first bytes b s (part_id p q) (map rec_of xs)) (take_first decoded d s q xs)
      same_first b d h s q topic [] e = h
      same_first b d h s q topic (x ∷ rest) e = subst (λ (u : TaskId). Same (took_by bytes b s (part_id p q) (rec_of x) (map rec_of rest) u) (took_by decoded d s q x rest (decoded.reader q))) (sym (same_reader q topic.there))
          (same_taken b d h s q topic x rest e)

      same_choice : (b : ByteState) (d : State) → Same b d → (c : Option TaskId × PartId) → has_topic c.1.topic (input_numbers p (reader_of (work_of rules p) c.1).sub) ≡ true →
          Same (advance bytes b c) (advance decoded d (decoded_choice p c))
      same_choice b d h c read =
          let x = read_topic p (reader_of (work_of rules p) c.1).sub c.1.topic read in
          let q : Place = record { topic = x.member; part = c.1.part } in
          let topic : IsTopic p q.topic = x.holds.0 in
          let is : part_id p q ≡ c.1 = λ i. record { topic = sym x.is i; part = c.1.part } in
          let at : q ≡ place_at p c.1 = ap (λ (o : Option Topic). record { topic = topic_or o; part = c.1.part }) (sym (ap (topic_at p) x.is ∙ topic.there)) in
          let one : Same (take_first bytes b c.0 (part_id p q) (b.waiting c.0 (part_id p q))) (take_first decoded d c.0 q (d.waiting c.0 q)) =
          subst (λ (l : List Rec). Same (take_first bytes b c.0 (part_id p q) l) (take_first decoded d c.0 q (d.waiting c.0 q))) (sym (h.waits c.0 q topic)) (same_first b d h c.0 q topic (d.waiting c.0 q) refl) in
          subst (λ (w : Place). Same (take_first bytes b c.0 c.1 (b.waiting c.0 c.1)) (take_first decoded d c.0 w (d.waiting c.0 w))) at
          (subst (λ (w : PartId). Same (take_first bytes b c.0 w (b.waiting c.0 w)) (take_first decoded d c.0 q (d.waiting c.0 q))) is one)

      pub same_choices : (b : ByteState) (d : State) → Same b d → (cs : List (Option TaskId × PartId)) → OnInputs (work_of rules p) cs → Same (fold (advance bytes) b cs) (fold (advance decoded) d (decoded_choices p cs))
      same_choices b d h [] on = h
      same_choices b d h (c ∷ cs) on = same_choices (advance bytes b c) (advance decoded d (decoded_choice p c)) (same_choice b d h c on.0) cs on.1

      -- at the start, where the inputs are the same
      pub same_start : (byte_inputs : PartId → List Rec) (inputs : Place → List Item) → ((q : Place) → IsTopic p q.topic → byte_inputs (part_id p q) ≡ map rec_of (inputs q)) → ((q : Place) → AllOf (Fits q) (inputs q)) →
          ((q : Place) → At p q.topic → is_changelog q.topic ≡ true → byte_inputs (part_id p q) ≡ []) → ((q : Place) → is_changelog q.topic ≡ true → inputs q ≡ []) →
          Same (initial bytes byte_inputs) (initial decoded inputs)
      same_start byte_inputs inputs same fits no_bytes no_items = record {
        stores = λ t. agrees.begin t.sub;
        neat = λ t n e. refl;
        held = agrees.start;
        waits = waiting;
        fit = fitting;
        logged = logs;
        kept = none_kept;
        late = refl;
      }
        where
          waiting : (r : Option TaskId) (q : Place) → IsTopic p q.topic → of_input bytes r (byte_inputs (part_id p q)) ≡ map rec_of (of_input decoded r (inputs q))
          waiting None q topic = same q topic
          waiting (Some u) q topic = refl

          fitting : (r : Option TaskId) (q : Place) → is_changelog q.topic ≡ false → AllOf (Fits q) (of_input decoded r (inputs q))
          fitting None q log = fits q
          fitting (Some u) q log = tt

          logs : (r : Option TaskId) (q : Place) → At p q.topic → is_changelog q.topic ≡ true → of_input bytes r (byte_inputs (part_id p q)) ≡ map rec_of (of_input decoded r (inputs q))
          logs None q there log = no_bytes q there log ∙ sym (ap (map rec_of) (no_items q log))
          logs (Some u) q there log = refl

          none_kept : (r : Option TaskId) (q : Place) → is_changelog q.topic ≡ true → AllOf (Kept q) (of_input decoded r (inputs q))
          none_kept None q log = subst (AllOf (Kept q)) (sym (no_items q log)) tt
          none_kept (Some u) q log = tt
