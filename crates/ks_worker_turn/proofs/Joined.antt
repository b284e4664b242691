-- A worker that began an epoch, and one that joined.
use Rattle.std.proofs.Common.{◌≡◌, ℕ, ◌+◌, Bool, false, List, [], ◌∷◌, ◌++◌, refl, sym, subst, ◌∙◌, arith}
use Rattle.std.specs.List.{All}
use Rattle.std.proofs.lemmas.List.Elements.{All-nil}
use Rattle.ks_record.specs.declared.record.PartId.{PartId}
use Rattle.ks_plan.specs.Drafts.{DraftView}
use Rattle.ks_history.specs.declared.journal.Entry.{Entry}
use Rattle.ks_history.specs.declared.journal.Request.TheVariants.{Init}
use Rattle.ks_history.specs.declared.journal.Reply.TheVariants.{Number}
use Rattle.ks_history.specs.Machine.{TaskPlan, IsNetwork}
use Rattle.ks_history.specs.History.{at, IsHistory}
use Rattle.ks_history.specs.Touched.{touched}
use Rattle.ks_history.proofs.Histories.{history_front}
use Rattle.ks_law_commit.specs.Producers.{IsRemembered, init_entry}
use Rattle.ks_law_commit.proofs.Numbering.{init_is_remembered}
use Rattle.ks_commit.proofs.Epochs.{of_past}
use Rattle.ks_growing.specs.Passes.{PassView}
use Rattle.ks_shared.specs.declared.state.Frame.{Frame}
use Rattle.ks_shared.specs.Calls.{setup_in}
use Rattle.ks_standby.specs.declared.replica.Replica.{Replica}
use Rattle.ks_task.specs.declared.task.Task.{Task}
use Rattle.ks_worker_client.specs.declared.member.Member.{Member}
use Rattle.ks_worker_client.specs.Members.{MemberHasSeen, IsProducer}
use Rattle.ks_worker_client.specs.Calls.{Later, Wrote}
use Rattle.ks_worker_client.proofs.Moments.{same_frame}
use Rattle.ks_worker_state.specs.Standbys.{IsStandby}
use Rattle.ks_worker_state.specs.Tasks.{IsHeldTask}
use Rattle.ks_worker_state.specs.Worker.{IsWorker}
use Rattle.ks_worker_state.proofs.Workers.{seen_later, standbys_later}

abbrev renewed_member : Member → ℕ → Member
renewed_member m e = record m { epoch = e }

-- a new epoch, of which nothing is undecided and no record stands there
module _ {W : Type 0} (plan : W → TaskPlan) (old new : PassView Entry (Frame W)) (l : Later plan old new) where
  begun : (m : Member) (e : ℕ) → Wrote plan old new (Init m.number) (Number e) → IsNetwork (setup_in plan old.frame).plan →
      IsProducer (setup_in plan old.frame) new.seen (renewed_member m e) (touched m.number new.seen) []
  begun m e wrote net =
      let setup = setup_in plan old.frame in
      let before = old.seen ++ wrote.others in
      let entry = init_entry m.number e in
      let history : IsHistory setup (before ++ entry ∷ []) = subst (IsHistory setup) (sym l.seen ∙ wrote.seen) l.history in
      let known : IsRemembered setup (before ++ entry ∷ []) m.number e (touched m.number (before ++ entry ∷ [])) (λ q. 0) =
      init_is_remembered setup before m.number e history
      (λ q. of_past setup before net (history_front setup before (before ++ entry ∷ []) (entry ∷ [], refl) history) m.number (((at setup before).producer m.number).epoch + 1) q (omega arith)) in
      subst (λ j. IsProducer setup j (renewed_member m e) (touched m.number j) []) (sym wrote.seen)
      (record { past = known.past; idle = known.idle; numbered = known.numbered })

  pub epoch_begun : (d : DraftView) (m : Member) (e last now : ℕ) (numbers sent : List (PartId × ℕ)) (ts : List Task) (rs : List Replica) →
      Wrote plan old new (Init m.number) (Number e) → now ≡ touched m.number new.seen → sent ≡ [] → m.is_member ≡ false → IsNetwork (setup_in plan old.frame).plan →
      IsWorker plan d old m last numbers ts rs → IsWorker plan d new (renewed_member m e) now sent ts rs
  epoch_begun d m e last now numbers sent ts rs wrote is empty outside net w =
      let none : ts ≡ [] = w.alone outside in
      let frame = same_frame plan old new l in
      record {
        number = w.number;
        instance = w.instance;
        seen = subst (λ f. MemberHasSeen (setup_in plan f) new.seen (renewed_member m e) now) (sym frame)
            (record { generation = (seen_later plan old new l m last w.seen).generation; place = omega (arith, is) });
        producer = subst (λ f. IsProducer (setup_in plan f) new.seen (renewed_member m e) now sent) (sym frame)
            (subst (λ n. IsProducer (setup_in plan old.frame) new.seen (renewed_member m e) n sent) (sym is)
            (subst (IsProducer (setup_in plan old.frame) new.seen (renewed_member m e) (touched m.number new.seen)) (sym empty) (begun m e wrote net)));
        alone = w.alone;
        names = w.names;
        once = w.once;
        tasks_are = subst (All (IsHeldTask d (setup_in plan new.frame) new.seen (renewed_member m e) now)) (sym none) (All-nil (IsHeldTask d (setup_in plan new.frame) new.seen (renewed_member m e) now));
        replicas_are = subst (λ f. All (IsStandby (setup_in plan f) new.seen) rs) (sym frame) (standbys_later plan old new l net rs w.replicas_are);
      }

abbrev listed : Member → Bool → Member
listed m b = record m { is_member = b }

-- a worker that is listed, or has no task
pub now_listed : {W : Type 0} (plan : W → TaskPlan) (d : DraftView) (pass : PassView Entry (Frame W)) (m : Member) (b : Bool) (last : ℕ) (numbers : List (PartId × ℕ)) (ts : List Task) (rs : List Replica) →
    (b ≡ false → ts ≡ []) → IsWorker plan d pass m last numbers ts rs → IsWorker plan d pass (listed m b) last numbers ts rs
now_listed plan d pass m b last numbers ts rs alone w = record {
  number = w.number;
  instance = w.instance;
  seen = w.seen;
  producer = record { past = w.producer.past; idle = w.producer.idle; numbered = w.producer.numbered };
  alone = alone;
  names = w.names;
  once = w.once;
  tasks_are = λ k x lt. let h = w.tasks_are k x lt in record { of = h.of; held = h.held; inside = h.inside; cache = h.cache };
  replicas_are = w.replicas_are;
}
