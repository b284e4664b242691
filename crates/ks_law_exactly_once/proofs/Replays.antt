-- What a legal, faithful journal commits is one run.
use Rattle.std.proofs.Common.{length, ◌≡◌, ℕ, ◌+◌, Bool, true, false, cond, List, [], ◌∷◌, ◌++◌, fold, map, Option, Some, None, refl, sym, ap, ap₂, subst, ◌∙◌, arith, append_assoc, append-nil}
use Rattle.std.proofs.lemmas.List.Sums.{fold-append}
use Rattle.ks_record.specs.Records.{Record as Rec}
use Rattle.ks_record.specs.declared.record.PartId.{PartId}
use Rattle.ks_record.specs.declared.record.TaskId.{TaskId}
use Rattle.ks_record.specs.declared.assignment.Refused.{Refused}
use Rattle.ks_record.specs.declared.assignment.Assignment.{Assignment}
use Rattle.ks_record.specs.declared.assignment.Marker.{Marker}
use Rattle.ks_history.specs.declared.partition.Slot.TheVariants.{Mark}
use Rattle.ks_def_runs.specs.Bytes.{empty_store}
use Rattle.ks_record.specs.Parts.{same_part}
use Rattle.ks_history.specs.declared.journal.Entry.{Entry}
use Rattle.ks_history.specs.declared.journal.Request.{Request}
use Rattle.ks_history.specs.declared.journal.Request.TheVariants.{Produce, Init, Add, Append, SendOffsets, Decide, MarkNext, Join, Expire, Hold, Probe, Assign, Park, Unpark}
use Rattle.ks_history.specs.declared.transaction.Transaction.{Transaction}
use Rattle.ks_def_runs.specs.Run.{Machine, RunState, Taken, advance, channel, TakesEach, fed, of_input}
use Rattle.ks_def_runs.proofs.Takes.{fed_later}
use Rattle.ks_history.specs.Faithful.{decided, waiting_at, markers_of, IsFaithful}
use Rattle.ks_history.specs.History.{state_after, at, Each, IsStep, IsFaithfulEntry, IsHistory, Meets, CommitsFaithfully}
use Rattle.ks_history.specs.Machine.{reader_of, Stores, network, part_of, has_topic, IsNetwork}
use Rattle.ks_history.specs.Partition.{recs, by_sender, past_from}
use Rattle.ks_history.specs.Replay.{takes_of, takes_by, replayed, produced_by, produced}
use Rattle.ks_history.specs.State.{State, Setup, start, with_number, grown, without_number}
use Rattle.ks_history.specs.Step.{refusal, effect, state_by, pending_at, fenced, or_else, without_part, markers_waiting, old_generation, not_assigned, unstable_beside, renewed, can_expire, closed}
use Rattle.ks_history.proofs.Names.{has_names}
use Rattle.ks_law_exactly_once.specs.Law.{OfHistories, IsRun, TellsStores, TellsAll, TellsPasts, TellsLists, TellsLate, SettledIsEmpty}
use Rattle.ks_law_exactly_once.proofs.Stores.{only_sender}
use Rattle.ks_law_exactly_once.proofs.Commits.{took, shows_after, sound_after}
use Rattle.ks_law_exactly_once.proofs.Inputs.{replayed-topics}
use Rattle.ks_law_exactly_once.proofs.Quiet.{Quiet, quiet_shows, quiet_sound, produce_shows, produce_sound, start_sound, producer_quiet, mark_quiet, abort_goes}
use Rattle.ks_law_exactly_once.proofs.Refusals.{some_undecided, both_none, not_fenced, with_part, closed_undecided, closed_waiting}
use Rattle.ks_law_exactly_once.proofs.Slots.{decided_below}
use Rattle.ks_law_exactly_once.proofs.Sound.{Shows, Sound}
use Rattle.ks_law_exactly_once.proofs.Undecided.{renewed_quiet, add_quiet, offsets_quiet, named, named_quiet, appended}

module _ {Task Place Store Item : Type 0} (m : Machine Task Place Store Item) where
  TakesEach-append : (st : RunState Task Place Store Item) (xs ys : List (Option Task × Place)) → TakesEach m st xs → TakesEach m (fold (advance m) st xs) ys → TakesEach m st (xs ++ ys)
  TakesEach-append st [] ys a b = b
  TakesEach-append st (x ∷ xs) ys a b = (a.0, TakesEach-append (advance m st x) xs ys a.1 b)

map-append : {A B : Type 0} (f : A → B) (xs ys : List A) → map f (xs ++ ys) ≡ map f xs ++ map f ys
map-append f [] ys = refl
map-append f (x ∷ xs) ys = ap (λ l. f x ∷ l) (map-append f xs ys)

module _ (setup : Setup) (net : IsNetwork setup.plan) where
  -- one entry is some steps of the run
  record Stepped (s : State) (st : RunState TaskId PartId Stores Rec) (request : Request) (r : Option Refused) (new : State) : Type 0 where
    now : RunState TaskId PartId Stores Rec
    shows : Shows setup new now
    sound : Sound setup new
    taken : now.taken ≡ st.taken ++ takes_by setup s request r
    each : (more : PartId → List Rec) → TakesEach (network setup.plan) (fed (network setup.plan) st (λ q. produced_by request q (more q))) (map (channel (network setup.plan)) (takes_by setup s request r))
    goes : (more : PartId → List Rec) → fold (advance (network setup.plan)) (fed (network setup.plan) st (λ q. produced_by request q (more q))) (map (channel (network setup.plan)) (takes_by setup s request r)) ≡ fed (network setup.plan) now more

  commit_step : (s : State) (st : RunState TaskId PartId Stores Rec) (w e : ℕ) (tx : Transaction) → (s.producer w).undecided ≡ Some tx → Sound setup s → Shows setup s st → IsFaithful setup s w tx →
      Stepped s st (Decide w e true) None (effect s (Decide w e true))
  commit_step s st w e tx is sound shows f =
      let t = took setup net s w e tx is sound f st shows in
      record {
        now = fold (advance (network setup.plan)) st (map (channel (network setup.plan)) (takes_of setup s (pending_at (s.producer w))));
        shows = shows_after setup net s w e tx is sound f st shows;
        sound = sound_after setup net s w e tx is sound f st shows;
        taken = t.taken;
        each = λ more. (fed_later (network setup.plan) (has_names setup.plan) more st _ t.each).0;
        goes = λ more. (fed_later (network setup.plan) (has_names setup.plan) more st _ t.each).1;
      }

  -- ---- what neither partitions nor producers nor offsets show
  beside : (s : State) (st : RunState TaskId PartId Stores Rec) (request : Request) (generation : ℕ) (members : List ℕ) (assignment : Option Assignment) (held : ℕ → List (TaskId × ℕ)) (parked : ℕ → TaskId → Bool)
      → Sound setup s → Shows setup s st → (takes_by setup s request None ≡ []) → ((q : PartId) (more : List Rec) → produced_by request q more ≡ more)
      → Stepped s st request None (record s { generation = generation; members = members; assignment = assignment; held = held; parked = parked })
  beside s st request generation members assignment held parked sound shows none same = record {
    now = st;
    shows = record { lists = shows.lists; stores = shows.stores; given = shows.given; late = shows.late };
    sound = record { markers = sound.markers; owned = sound.owned; committed = sound.committed; distinct = sound.distinct; alone = sound.alone };
    taken = sym (ap (λ l. st.taken ++ l) none ∙ append-nil st.taken);
    each = λ more. subst (λ (l : List (Taken TaskId PartId Rec)). TakesEach (network setup.plan) (fed (network setup.plan) st (λ q. produced_by request q (more q))) (map (channel (network setup.plan)) l)) (sym none) tt;
    goes = λ more. ap₂ (λ (l : List (Taken TaskId PartId Rec)) (inputs : PartId → List Rec). fold (advance (network setup.plan)) (fed (network setup.plan) st inputs) (map (channel (network setup.plan)) l)) none (λ i q. same q (more q) i);
  }

  -- ---- any entry
  step : (s : State) (st : RunState TaskId PartId Stores Rec) (request : Request) (r : Option Refused) → refusal setup s request ≡ r → Meets setup s request → CommitsFaithfully setup s request
      → Sound setup s → Shows setup s st → Stepped s st request r (state_by s request r)
  step s st (Produce p rec) None is meets f sound shows = record {
    now = fed (network setup.plan) st (λ q. cond (same_part q p) (rec ∷ []) []);
    shows = produce_shows setup net s p rec meets.0 sound st shows;
    sound = produce_sound setup net s p rec meets.0 sound;
    taken = sym (append-nil st.taken);
    each = λ more. tt;
    goes = λ more. λ i. record { stores = st.stores; waiting = λ r q. joined r (st.waiting r q) (same_part q p) (more q) i; given = λ r q. joined r (st.given r q) (same_part q p) (more q) i; taken = st.taken; late = st.late };
  }
    where
      joined : (r : Option TaskId) (xs : List Rec) (b : Bool) (ys : List Rec) → xs ++ of_input (network setup.plan) r (cond b (rec ∷ ys) ys) ≡ (xs ++ of_input (network setup.plan) r (cond b (rec ∷ []) [])) ++ of_input (network setup.plan) r ys
      joined None xs true ys = sym (append_assoc xs (rec ∷ []) ys)
      joined None xs false ys = sym (append_assoc xs [] ys)
      joined (Some u) xs b ys = sym (append_assoc xs [] [])
  step s st (Produce p rec) (Some refused) is meets f sound shows = absurd cc
  step s st (Init w) (Some refused) is meets f sound shows = absurd cc
  step s st (Init w) None is meets f sound shows =
      let quiet = renewed_quiet setup s w sound in
      record { now = st; shows = quiet_shows setup s _ st quiet shows; sound = quiet_sound setup s _ quiet sound; taken = sym (append-nil st.taken); each = λ more. tt; goes = λ more. refl }
  step s st (Add w e p) (Some refused) is meets f sound shows = record { now = st; shows = shows; sound = sound; taken = sym (append-nil st.taken); each = λ more. tt; goes = λ more. refl }
  step s st (Add w e p) None is meets f sound shows =
      let quiet = add_quiet setup s w e p (both_none _ _ is).1 sound in
      record { now = st; shows = quiet_shows setup s _ st quiet shows; sound = quiet_sound setup s _ quiet sound; taken = sym (append-nil st.taken); each = λ more. tt; goes = λ more. refl }
  step s st (Append w e number t p rs) (Some refused) is meets f sound shows = record { now = st; shows = shows; sound = sound; taken = sym (append-nil st.taken); each = λ more. tt; goes = λ more. refl }
  step s st (Append w e number t p rs) None is meets f sound shows =
      let a = both_none (fenced (s.producer w) e) _ is in
      let b = both_none (without_part (s.producer w) p) _ a.1 in
      let c = with_part (s.producer w) p b.0 in
      let first : Quiet s (named setup s w e number t p rs c.0 c.1 c.2 (not_fenced (s.producer w) e a.0) sound) = named_quiet setup s w e number t p rs c.0 c.1 c.2 (not_fenced (s.producer w) e a.0) sound in
      let second = appended setup s w e number t p rs c.0 c.1 c.2 (not_fenced (s.producer w) e a.0) sound in
      record {
        now = st;
        shows = quiet_shows setup _ _ st second (quiet_shows setup s _ st first shows);
        sound = quiet_sound setup _ _ second (quiet_sound setup s _ first sound);
        taken = sym (append-nil st.taken);
        each = λ more. tt;
        goes = λ more. refl;
      }
  step s st (SendOffsets w e g t offsets order late) (Some refused) is meets f sound shows = record { now = st; shows = shows; sound = sound; taken = sym (append-nil st.taken); each = λ more. tt; goes = λ more. refl }
  step s st (SendOffsets w e g t offsets order late) None is meets f sound shows =
      let last : Option Refused = unstable_beside s w t in
      let a = both_none (fenced (s.producer w) e) (or_else (old_generation s g) (or_else (not_assigned s w t) (or_else (markers_waiting (s.producer w)) last))) is in
      let b = both_none (old_generation s g) (or_else (not_assigned s w t) (or_else (markers_waiting (s.producer w)) last)) a.1 in
      let c = both_none (not_assigned s w t) (or_else (markers_waiting (s.producer w)) last) b.1 in
      let quiet = offsets_quiet setup s w e g t offsets order late (both_none (markers_waiting (s.producer w)) last c.1).0 sound in
      record { now = st; shows = quiet_shows setup s _ st quiet shows; sound = quiet_sound setup s _ quiet sound; taken = sym (append-nil st.taken); each = λ more. tt; goes = λ more. refl }
  step s st (Decide w e true) (Some refused) is meets f sound shows = record { now = st; shows = shows; sound = sound; taken = sym (append-nil st.taken); each = λ more. tt; goes = λ more. refl }
  step s st (Decide w e true) None is meets f sound shows =
      let u = some_undecided (s.producer w) e is in
      commit_step s st w e u.0 u.1 sound shows (f is u.0 u.1)
  step s st (Decide w e false) (Some refused) is meets f sound shows = record { now = st; shows = shows; sound = sound; taken = sym (append-nil st.taken); each = λ more. tt; goes = λ more. refl }
  step s st (Decide w e false) None is meets f sound shows =
      let quiet = producer_quiet setup s w _ sound (abort_goes (s.producer w) (closed (s.producer w) false) (s.producer w).undecided refl (closed_undecided (s.producer w) false) (closed_waiting (s.producer w))) in
      record { now = st; shows = quiet_shows setup s _ st quiet shows; sound = quiet_sound setup s _ quiet sound; taken = sym (append-nil st.taken); each = λ more. tt; goes = λ more. refl }
  step s st (MarkNext w) (Some refused) is meets f sound shows = absurd cc
  step s st (MarkNext w) None is meets f sound shows = by (s.producer w).waiting refl
    where
      by : (ms : List Marker) → (s.producer w).waiting ≡ ms → Stepped s st (MarkNext w) None
          (elim ms as (λ _. State) [
            | [] ↦ s
            | m ∷ ms ↦ record s {
              partition = grown s.partition m.part (Mark w m.epoch m.commit ∷ []);
              producer = with_number s.producer w (record (s.producer w) { waiting = ms });
            }
          ])
      by [] h = record { now = st; shows = shows; sound = sound; taken = sym (append-nil st.taken); each = λ more. tt; goes = λ more. refl }
      by (m ∷ ms) h =
          let quiet = mark_quiet setup s w m ms sound h in
          record { now = st; shows = quiet_shows setup s _ st quiet shows; sound = quiet_sound setup s _ quiet sound; taken = sym (append-nil st.taken); each = λ more. tt; goes = λ more. refl }
  step s st (Join w) (Some refused) is meets f sound shows = absurd cc
  step s st (Join w) None is meets f sound shows = beside s st (Join w) _ _ _ _ _ sound shows refl (λ q more. refl)
  step s st (Expire w) (Some refused) is meets f sound shows = absurd cc
  step s st (Expire w) None is meets f sound shows = by (can_expire s w)
    where
      by : (b : Bool) → Stepped s st (Expire w) None
          (cond b (record s {
            producer = with_number s.producer w (renewed (s.producer w));
            members = without_number w s.members;
            held = with_number s.held w [];
            generation = s.generation + 1;
            assignment = None;
          }) s)
      by true =
          let quiet = renewed_quiet setup s w sound in
          let aborted : State = record s { producer = with_number s.producer w (renewed (s.producer w)) } in
          let more : Stepped aborted st (Expire w) None (record aborted { members = without_number w s.members; held = with_number s.held w []; generation = s.generation + 1; assignment = None }) =
          beside aborted st (Expire w) _ _ _ _ _ (quiet_sound setup s _ quiet sound) (quiet_shows setup s _ st quiet shows) refl (λ q more. refl) in
          record { now = more.now; shows = more.shows; sound = more.sound; taken = more.taken; each = more.each; goes = more.goes }
      by false = record { now = st; shows = shows; sound = sound; taken = sym (append-nil st.taken); each = λ more. tt; goes = λ more. refl }
  step s st (Hold w held) (Some refused) is meets f sound shows = absurd cc
  step s st (Hold w held) None is meets f sound shows = beside s st (Hold w held) _ _ _ _ _ sound shows refl (λ q more. refl)
  step s st (Probe w g) (Some refused) is meets f sound shows = record { now = st; shows = shows; sound = sound; taken = sym (append-nil st.taken); each = λ more. tt; goes = λ more. refl }
  step s st (Probe w g) None is meets f sound shows = beside s st (Probe w g) _ _ _ _ _ sound shows refl (λ q more. refl)
  step s st (Assign w g a) (Some refused) is meets f sound shows = record { now = st; shows = shows; sound = sound; taken = sym (append-nil st.taken); each = λ more. tt; goes = λ more. refl }
  step s st (Assign w g a) None is meets f sound shows = by s.assignment
    where
      by : (o : Option Assignment) → Stepped s st (Assign w g a) None (elim o as (λ _. State) [ None ↦ record s { assignment = Some a } | Some b ↦ s ])
      by None = beside s st (Assign w g a) _ _ _ _ _ sound shows refl (λ q more. refl)
      by (Some b) = record { now = st; shows = shows; sound = sound; taken = sym (append-nil st.taken); each = λ more. tt; goes = λ more. refl }
  step s st (Park instance t) (Some refused) is meets f sound shows = absurd cc
  step s st (Park instance t) None is meets f sound shows = beside s st (Park instance t) _ _ _ _ _ sound shows refl (λ q more. refl)
  step s st (Unpark instance t) (Some refused) is meets f sound shows = absurd cc
  step s st (Unpark instance t) None is meets f sound shows = beside s st (Unpark instance t) _ _ _ _ _ sound shows refl (λ q more. refl)

  -- ---- the whole journal
  fed_nothing : (st : RunState TaskId PartId Stores Rec) → st ≡ fed (network setup.plan) st (λ q. [])
  fed_nothing st = λ i. record { stores = st.stores; waiting = λ r q. by r (st.waiting r q) i; given = λ r q. by r (st.given r q) i; taken = st.taken; late = st.late }
    where
      by : (r : Option TaskId) (xs : List Rec) → xs ≡ xs ++ of_input (network setup.plan) r []
      by None xs = sym (append-nil xs)
      by (Some u) xs = sym (append-nil xs)

  pub record Replays (s : State) (st : RunState TaskId PartId Stores Rec) (entries : List Entry) : Type 0 where
    pub each : TakesEach (network setup.plan) (fed (network setup.plan) st (produced entries)) (map (channel (network setup.plan)) (replayed setup s entries))
    pub shows : Shows setup (state_after setup s entries) (fold (advance (network setup.plan)) (fed (network setup.plan) st (produced entries)) (map (channel (network setup.plan)) (replayed setup s entries)))
    pub sound : Sound setup (state_after setup s entries)
    pub sounds : Each (λ setup s entry. Sound setup s) setup s entries
    pub taken : (fold (advance (network setup.plan)) (fed (network setup.plan) st (produced entries)) (map (channel (network setup.plan)) (replayed setup s entries))).taken ≡ st.taken ++ replayed setup s entries

  pub replays : (entries : List Entry) (s : State) (st : RunState TaskId PartId Stores Rec) → Each IsStep setup s entries → Each IsFaithfulEntry setup s entries → Sound setup s → Shows setup s st → Replays s st entries
  replays [] s st legal faithful sound shows = record { each = tt; shows = subst (Shows setup s) (fed_nothing st) shows; sound = sound; sounds = tt; taken = sym (append-nil st.taken) }
  replays (entry ∷ entries) s st legal faithful sound shows =
      let r : Option Refused = refusal setup s entry.request in
      let one : Stepped s st entry.request r (state_by s entry.request r) = step s st entry.request r refl legal.0.meets faithful.0 sound shows in
      let more : Replays (state_by s entry.request r) one.now entries = replays entries (state_by s entry.request r) one.now legal.1 faithful.1 one.sound one.shows in
      let net_of = network setup.plan in
      let first = map (channel net_of) (takes_by setup s entry.request r) in
      let then_ = map (channel net_of) (replayed setup (state_by s entry.request r) entries) in
      let from : RunState TaskId PartId Stores Rec = fed net_of st (produced (entry ∷ entries)) in
      let cut : map (channel net_of) (replayed setup s (entry ∷ entries)) ≡ first ++ then_ = map-append (channel net_of) (takes_by setup s entry.request r) _ in
      let goes : fold (advance net_of) from first ≡ fed net_of one.now (produced entries) = one.goes (produced entries) in
      record {
        each = subst (TakesEach net_of from) (sym cut) (TakesEach-append net_of from first then_ (one.each (produced entries)) (subst (λ (n : RunState TaskId PartId Stores Rec). TakesEach net_of n then_) (sym goes) more.each));
        shows = subst (λ l. Shows setup (state_after setup s (entry ∷ entries)) (fold (advance net_of) from l)) (sym cut)
            (subst (Shows setup (state_after setup s (entry ∷ entries))) (sym (fold-append (advance net_of) from first then_ ∙ ap (λ (n : RunState TaskId PartId Stores Rec). fold (advance net_of) n then_) goes)) more.shows);
        sound = more.sound;
        sounds = (sound, more.sounds);
        taken =
            ap (λ l. (fold (advance net_of) from l).taken) cut
            ∙ ap (λ (n : RunState TaskId PartId Stores Rec). n.taken) (fold-append (advance net_of) from first then_ ∙ ap (λ (n : RunState TaskId PartId Stores Rec). fold (advance net_of) n then_) goes)
            ∙ more.taken
            ∙ ap (λ l. l ++ replayed setup (state_by s entry.request r) entries) one.taken
            ∙ append_assoc st.taken (takes_by setup s entry.request r) _;
      }

  abbrev nothing_yet : RunState TaskId PartId Stores Rec
  nothing_yet = record { stores = (network setup.plan).start; waiting = λ r q. []; given = λ r q. []; taken = []; late = 0 }

  start_shows : Shows setup start nothing_yet
  start_shows = record { lists = λ r q. refl; stores = λ t i topic. by (has_topic topic (setup.plan.changelogs t.sub)) i; given = λ r q. refl; late = omega arith }
    where
      by : (b : Bool) → empty_store ≡ cond b empty_store empty_store
      by true = refl
      by false = refl

  -- the whole journal, from the empty cluster
  pub whole : (journal : List Entry) → IsHistory setup journal → Replays start (record { stores = (network setup.plan).start; waiting = λ r q. []; given = λ r q. []; taken = []; late = 0 }) journal
  whole journal history = replays journal start nothing_yet history.legal history.faithful (start_sound setup) start_shows

-- ---- the law
pub is_run : OfHistories IsRun
is_run setup journal net history = let all = whole setup net journal history in (replayed-topics setup net start journal, all.each, all.taken)

pub tells_stores : OfHistories TellsStores
tells_stores setup journal net history = (whole setup net journal history).shows.stores

pub tells_all : OfHistories TellsAll
tells_all setup journal net history = (whole setup net journal history).shows.given

pub tells_pasts : OfHistories TellsPasts
tells_pasts setup journal net history t topic h =
    let all = whole setup net journal history in (
      all.shows.given (Some t) (part_of topic t) ∙ ap recs (only_sender t (decided (at setup journal) (part_of topic t)) (λ r ne. all.sound.alone t topic r h ne)),
      λ r ne. all.shows.given r (part_of topic t) ∙ ap recs (all.sound.alone t topic r h ne),
    )

pub tells_lists : OfHistories TellsLists
tells_lists setup journal net history = (whole setup net journal history).shows.lists

pub tells_late : OfHistories TellsLate
tells_late setup journal net history = (whole setup net journal history).shows.late

-- ---- settled
pub settled_is_empty : OfHistories SettledIsEmpty
settled_is_empty setup journal net history settled r t topic there reads =
    let s : State = at setup journal in
    let q : PartId = part_of topic t in
    let reader : reader_of setup.plan q ≡ t = λ i. record { sub = net.one_reader t.sub topic reads i; part = t.part } in
    tells_lists setup journal net history r q
    ∙ ap (λ u. recs (by_sender r (past_from (s.committed u topic) (decided s q)))) reader
    ∙ ap (λ n. recs (by_sender r (past_from n (decided s q)))) (settled.committed t topic there reads)
    ∙ ap (λ l. recs (by_sender r l)) (decided_below (waiting_at (markers_of s) q) (length (s.partition q)) 0 (s.partition q) (omega arith))
