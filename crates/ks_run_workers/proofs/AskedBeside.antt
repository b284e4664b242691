-- Who asks beside the workers: its pass, and what was answered once the lock is closed.
use Rattle.std.proofs.Common.{◌≡◌, ℕ, false, List, [], ◌∷◌, ◌++◌, map, length, Option, Some, None, refl, sym, ap, subst, ◌∙◌}
use Rattle.std.specs.Prelude.{IfSome, option_map}
use Rattle.std.specs.Option.{option_map_or}
use Rattle.std.proofs.lemmas.List.Elements.{All-weaker}
use Rattle.ks_plan.specs.Drafts.{DraftView}
use Rattle.ks_history.specs.declared.journal.Entry.{Entry}
use Rattle.ks_history.specs.Machine.{TaskPlan, IsNetwork}
use Rattle.ks_history.specs.State.{State, Setup}
use Rattle.ks_history.specs.History.{at, IsHistory, IsPrefix}
use Rattle.ks_cluster.specs.View.{ClusterView, setup_of, state_of}
use Rattle.ks_shared.specs.Calls.{frame_of, setup_in}
use Rattle.ks_worker_client.specs.Calls.{state_seen}
use Rattle.ks_worker_state.specs.Topology.{RunsTopology}
use Rattle.ks_iq.specs.declared.ask.Ask.{Ask}
use Rattle.ks_iq.specs.declared.answer.Answer.{Answer}
use Rattle.ks_iq.specs.Reads.{IsRead, ReadsTopology}
use Rattle.ks_iq.proofs.Lasting.{reads_last}
use Rattle.ks_run_workers.specs.declared.asking.Asker.{Asker}
use Rattle.ks_run_workers.specs.Members.{pass_key}
use Rattle.ks_iq.specs.Answered.{AreAnswers, last_position}
use Rattle.ks_run_workers.specs.Asking.{HasAsked, HasAskedOne, HasAskedUnlessStarved}
use Rattle.ks_run_workers.specs.Asked.{option_list, asked_by, AreAnswered}
use Rattle.ks_run_workers.proofs.Left.{network_of}

-- ---- its pass
pub asker_keys : {W : Type 0} (plan : W → TaskPlan) (d : DraftView) (old new : Option (Asker W)) → HasAskedUnlessStarved plan d old new →
    map pass_key (option_list (option_map (λ a. a.reader.pass) new)) ≡ map pass_key (option_list (option_map (λ a. a.reader.pass) old))
asker_keys plan d None new is = ap (λ o. map pass_key (option_list (option_map (λ a. a.reader.pass) o))) is
asker_keys plan d (Some old) None h = absurd h
asker_keys plan d (Some old) (Some new) h = ap (λ k. k ∷ []) h.key

pub asker_long : {W : Type 0} (plan : W → TaskPlan) (d : DraftView) (old new : Option (Asker W)) → HasAskedUnlessStarved plan d old new →
    length (option_list (option_map (λ a. a.reader.pass) new)) ≡ length (option_list old)
asker_long plan d None new is = ap (λ o. length (option_list (option_map (λ a. a.reader.pass) o))) is
asker_long plan d (Some old) None h = absurd h
asker_long plan d (Some old) (Some new) h = refl

-- by what who asks did beside the workers
pub asked_beside : {W : Type 0} (plan : W → TaskPlan) (d : DraftView) (before : Option (Asker W)) (old : Asker W) {new : Asker W} {now : Option (Asker W)} → before ≡ Some old → HasAskedOne plan d old new → now ≡ Some new →
    HasAskedUnlessStarved plan d before now
asked_beside plan d before old {new} {now} is told same = subst (λ o. HasAskedUnlessStarved plan d o now) (sym is) (subst (λ n. HasAskedUnlessStarved plan d (Some old) n) (sym same) told)

-- ---- what it reads
pub reads_topology : (hash : List ℕ → ℕ) (d : DraftView) (setup : Setup) → RunsTopology hash d setup → ReadsTopology d setup
reads_topology hash d setup runs = record {
  changelogs = λ sub. ap (λ (s : Setup). s.plan.changelogs sub) runs.setup_is;
  tasks = ap (λ (s : Setup). s.tasks) runs.setup_is;
}

-- a read of a front of a journal is one of the journal
pub read_on : (d : DraftView) (setup : Setup) (front journal : List Entry) (a : Ask) (x : Answer) → ReadsTopology d setup → IsNetwork setup.plan → IsHistory setup journal → IsPrefix front journal → IsRead d (at setup front) a x → IsRead d (at setup journal) a x
read_on d setup front journal a x top net history prefix read =
    subst (λ j. IsRead d (at setup j) a x) (sym prefix.1) (reads_last d setup front prefix.0 a x top net (subst (IsHistory setup) prefix.1 history) read)

module _ {W : Type 0} (plan : W → TaskPlan) (hash : List ℕ → ℕ) (d : DraftView) (first closed : ClusterView W) (runs : RunsTopology hash d (setup_of plan first)) (same : frame_of closed ≡ frame_of first) (history : IsHistory (setup_of plan closed) closed.journal) where
  runs_on : RunsTopology hash d (setup_of plan closed)
  runs_on = subst (λ f. RunsTopology hash d (setup_in plan (Some f))) (sym same) runs

  all_on : (old new : Asker W) → HasAsked plan d 16 old new → old.answers.items ≡ [] → IsPrefix new.reader.pass.seen closed.journal → new.reader.pass.frame ≡ Some (frame_of closed) →
      AreAnswers d (state_of plan closed) old.ask 0 new.answers.items
  all_on old new h none prefix frame =
      let is : h.more ≡ new.answers.items = sym (h.answers ∙ ap (λ l. l ++ h.more) none) in
      let seen : state_seen plan new.reader.pass ≡ at (setup_of plan closed) new.reader.pass.seen = ap (λ f. at (setup_in plan f) new.reader.pass.seen) frame in
      let here : AreAnswers d (at (setup_of plan closed) new.reader.pass.seen) old.ask 0 new.answers.items =
      subst (λ l. AreAnswers d (at (setup_of plan closed) new.reader.pass.seen) old.ask 0 l) is
      (subst (λ (n : ℕ). AreAnswers d (at (setup_of plan closed) new.reader.pass.seen) old.ask n h.more) (ap last_position none)
      (subst (λ (a : Ask). AreAnswers d (at (setup_of plan closed) new.reader.pass.seen) a (last_position old.answers.items) h.more) h.ask
      (subst (λ (s : State). AreAnswers d s new.ask (last_position old.answers.items) h.more) seen h.reads))) in
      record {
        reads = All-weaker (IsRead d (at (setup_of plan closed) new.reader.pass.seen) old.ask) (IsRead d (state_of plan closed) old.ask)
            (λ x read. read_on d (setup_of plan closed) new.reader.pass.seen closed.journal old.ask x (reads_topology hash d (setup_of plan closed) runs_on) (network_of hash d (setup_of plan closed) runs_on) history prefix read)
            new.answers.items here.reads;
        rise = here.rise;
      }

  pub answered : (old new : Option (Asker W)) → HasAskedUnlessStarved plan d old new → option_map_or (λ a. a.is_starved) new false ≡ false → IfSome old (λ a. a.answers.items ≡ []) →
      IfSome (option_map (λ a. a.reader.pass) new) (λ p. IsPrefix p.seen closed.journal × (p.frame ≡ Some (frame_of closed))) → AreAnswered plan d closed (option_map (λ a. a.ask) old) (option_map asked_by new)
  answered None new is awake none last = ap (option_map asked_by) is
  answered (Some old) None h awake none last = absurd h
  answered (Some old) (Some new) h awake none last =
      let asked = h.asked awake in
      record {
        ask_is = asked.ask;
        times = ap length (asked.answers ∙ ap (λ l. l ++ asked.more) none) ∙ asked.times_are;
        reads = all_on old new asked none last.0 last.1;
      }
