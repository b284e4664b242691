-- Asking once more, and so often.
use Rattle.std.proofs.Common.{◌≡◌, ℕ, suc, ◌+◌, ◌-◌, ◌≤◌, List, [], ◌∷◌, ◌++◌, length, append-nil, append_assoc, length-append, Some, None, refl, sym, ap, ap₂, subst, ◌∙◌, arith}
use Rattle.std.specs.Prelude.{Err, slice_get}
use Rattle.std.proofs.lemmas.List.Elements.{All-nil, All-cons, All-append, All-weaker}
use Rattle.atomic_table.specs.Seated.{TableId}
use Rattle.ks_plan.specs.Drafts.{DraftView}
use Rattle.ks_history.specs.declared.journal.Entry.{Entry}
use Rattle.ks_history.specs.Machine.{TaskPlan, IsNetwork}
use Rattle.ks_history.specs.State.{State, Setup, IsSetup}
use Rattle.ks_history.specs.History.{at, IsHistory}
use Rattle.ks_growing.specs.Passes.{PassView}
use Rattle.ks_shared.specs.declared.state.Frame.{Frame}
use Rattle.ks_shared.specs.Calls.{setup_in}
use Rattle.ks_worker_client.specs.Calls.{Later, state_seen}
use Rattle.ks_worker_client.proofs.Moments.{same_frame, not_later, later_twice}
use Rattle.ks_iq.specs.declared.ask.Ask.{Ask}
use Rattle.ks_iq.specs.declared.answer.Answer.{Answer}
use Rattle.ks_iq.specs.Asks.{ask_fault, task_of, log_of}
use Rattle.ks_iq.specs.Reads.{IsRead, ReadsTopology}
use Rattle.ks_iq.specs.declared.fault.IqFault.{IqFault}
use Rattle.ks_iq.specs.declared.fault.IqFault.TheVariants.{UnknownStore, WrongStart, WrongTask, NotClean, Behind}
use Rattle.ks_iq.specs.Readers.{MayRead, IsReader, IsTold, IsReachedAt, position_at}
use Rattle.ks_iq.proofs.Lasting.{reads_last}
use Rattle.ks_standby.specs.declared.replica.Replica.{Replica}
use Rattle.ks_run_workers.specs.declared.asking.Asker.{Asker}
use Rattle.ks_run_workers.specs.Members.{pass_key}
use Rattle.ks_iq.specs.Answered.{last_position, PositionsRise}
use Rattle.ks_run_workers.specs.Asking.{MayAsk, HasAsked}

-- ---- positions
pub last_found : (xs : List Answer) (x : Answer) → slice_get xs (length xs - 1) ≡ Some x → x.position ≡ last_position xs
last_found [] x e = absurd (cc e)
last_found (y ∷ []) x e =
    let none : length (y ∷ []) - 1 ≡ 0 = omega arith in
    let is : Some y ≡ Some x = subst (λ n. slice_get (y ∷ []) n ≡ Some x) none e in
    let same : y ≡ x = cc in
    ap (λ (a : Answer). a.position) (sym same)
last_found (y ∷ z ∷ ys) x e =
    let one : length (y ∷ z ∷ ys) - 1 ≡ suc (length (z ∷ ys) - 1) = omega arith in
    last_found (z ∷ ys) x (subst (λ n. slice_get (y ∷ z ∷ ys) n ≡ Some x) one e)

last_pushed : (xs : List Answer) (x : Answer) → last_position (xs ++ x ∷ []) ≡ x.position
last_pushed [] x = refl
last_pushed (y ∷ []) x = refl
last_pushed (y ∷ z ∷ ys) x = last_pushed (z ∷ ys) x

pub rise_both : (old xs ys : List Answer) → PositionsRise (last_position old) xs → PositionsRise (last_position (old ++ xs)) ys → PositionsRise (last_position old) (xs ++ ys)
rise_both old [] ys h g = subst (λ l. PositionsRise (last_position l) ys) (append-nil old) g
rise_both old (x ∷ xs) ys h g = (
  h.0,
  subst (λ n. PositionsRise n (xs ++ ys)) (last_pushed old x)
      (rise_both (old ++ x ∷ []) xs ys (subst (λ n. PositionsRise n xs) (sym (last_pushed old x)) h.1) (subst (λ l. PositionsRise (last_position l) ys) (sym (append_assoc old (x ∷ []) xs)) g)),
)

module _ {W : Type 0} (plan : W → TaskPlan) where
  -- ---- a later moment
  module _ (old new : PassView Entry (Frame W)) (l : Later plan old new) where
    later_key : pass_key new ≡ pass_key old
    later_key = ap (λ (p : PassView Entry (Frame W)). pass_key p) l.same

    later_setup : setup_in plan new.frame ≡ setup_in plan old.frame
    later_setup = ap (setup_in plan) (same_frame plan old new l)

    state_later : state_seen plan new ≡ at (setup_in plan old.frame) (old.seen ++ l.more)
    state_later = ap (λ (s : Setup). at s new.seen) later_setup ∙ ap (at (setup_in plan old.frame)) l.seen

    read_later : (d : DraftView) (a : Ask) (x : Answer) → ReadsTopology d (setup_in plan old.frame) → IsNetwork (setup_in plan old.frame).plan → IsRead d (state_seen plan old) a x → IsRead d (state_seen plan new) a x
    read_later d a x top net read = subst (λ (s : State). IsRead d s a x) (sym state_later) (reads_last d (setup_in plan old.frame) old.seen l.more a x top net l.history read)

    may_later : (lock : TableId) (d : DraftView) → MayRead plan lock d old → MayRead plan lock d new
    may_later lock d may = record {
      call = record {
        lock_is = ap (λ (p : PassView Entry (Frame W)). p.lock) l.same ∙ may.call.lock_is;
        free = ap (λ (p : PassView Entry (Frame W)). p.holds) l.same ∙ may.call.free;
        history = subst (λ (s : Setup). IsHistory s new.seen) (sym later_setup) (subst (IsHistory (setup_in plan old.frame)) (sym l.seen) l.history);
        network = subst (λ (s : Setup). IsNetwork s.plan) (sym later_setup) may.call.network;
        setup = subst IsSetup (sym later_setup) may.call.setup;
      };
      topology = subst (ReadsTopology d) (sym later_setup) may.topology;
      parts = may.parts;
    }

  -- ---- asking
  pub asked_key : (d : DraftView) (times : ℕ) (old new : Asker W) → HasAsked plan d times old new → pass_key new.reader.pass ≡ pass_key old.reader.pass
  asked_key d times old new h = later_key old.reader.pass new.reader.pass h.later

  pub later_keys : (old new : PassView Entry (Frame W)) → Later plan old new → pass_key new ≡ pass_key old
  later_keys old new l = later_key old new l

  pub may_ask_on : (lock : TableId) (d : DraftView) (times : ℕ) (old new : Asker W) → MayAsk plan lock d old → HasAsked plan d times old new → MayAsk plan lock d new
  may_ask_on lock d times old new may h = record {
    fine = ap (ask_fault d) h.ask ∙ may.fine;
    may = may_later old.reader.pass new.reader.pass h.later lock d may.may;
    reader = h.reader;
    reached = h.reached;
  }

  -- not yet
  pub asked_none : (lock : TableId) (d : DraftView) (asker : Asker W) → MayAsk plan lock d asker → HasAsked plan d 0 asker asker
  asked_none lock d asker may = record {
    more = [];
    answers = sym (append-nil asker.answers.items);
    times_are = refl;
    later = not_later plan asker.reader.pass may.may.call.history;
    reads = record { reads = All-nil (IsRead d (state_seen plan asker.reader.pass) asker.ask); rise = tt };
    ask = refl;
    reader = may.reader;
    reached = may.reached;
  }

  -- so often, and then so often more
  pub asked_then : (lock : TableId) (d : DraftView) (n m : ℕ) (old mid new : Asker W) → MayAsk plan lock d mid → HasAsked plan d n old mid → HasAsked plan d m mid new → HasAsked plan d (n + m) old new
  asked_then lock d n m old mid new may a b = record {
    more = a.more ++ b.more;
    answers = b.answers ∙ (ap (λ l. l ++ b.more) a.answers ∙ append_assoc old.answers.items a.more b.more);
    times_are = length-append a.more b.more ∙ ap₂ (λ x y. x + y) a.times_are b.times_are;
    later = later_twice plan old.reader.pass mid.reader.pass new.reader.pass a.later b.later;
    reads = record {
      reads = All-append (IsRead d (state_seen plan new.reader.pass) new.ask) a.more b.more
          (All-weaker (IsRead d (state_seen plan mid.reader.pass) mid.ask) (IsRead d (state_seen plan new.reader.pass) new.ask)
          (λ x read. read_later mid.reader.pass new.reader.pass b.later d new.ask x may.may.topology may.may.call.network (subst (λ (k : Ask). IsRead d (state_seen plan mid.reader.pass) k x) (sym b.ask) read))
          a.more a.reads.reads)
          b.reads.reads;
      rise = rise_both old.answers.items a.more b.more a.reads.rise (subst (λ l. PositionsRise (last_position l) b.more) a.answers b.reads.rise);
    };
    ask = b.ask ∙ a.ask;
    reader = b.reader;
    reached = b.reached;
  }

  -- once, by what the reader told
  pub asked_once : (lock : TableId) (d : DraftView) (old new : Asker W) (x : Answer) → MayAsk plan lock d old → new.answers.items ≡ old.answers.items ++ x ∷ [] → new.ask ≡ old.ask → Later plan old.reader.pass new.reader.pass →
      IsReader plan new.reader.pass new.reader.replicas.items → IsRead d (state_seen plan new.reader.pass) old.ask x → last_position old.answers.items ≤ x.position →
      IsReachedAt d plan old.reader.pass new.reader.pass old.reader.replicas.items new.reader.replicas.items old.ask x.position → HasAsked plan d 1 old new
  asked_once lock d old new x may pushed same later reader read bound reached = record {
    more = x ∷ [];
    answers = pushed;
    times_are = refl;
    later = later;
    reads = record {
      reads = All-cons (IsRead d (state_seen plan new.reader.pass) new.ask) x [] (subst (λ (k : Ask). IsRead d (state_seen plan new.reader.pass) k x) (sym same) read) (All-nil (IsRead d (state_seen plan new.reader.pass) new.ask));
      rise = (bound, tt);
    };
    ask = same;
    reader = reader;
    reached = subst (λ (k : Ask). last_position new.answers.items ≤ position_at new.reader.replicas.items (task_of d k) (log_of d k)) (sym same)
        (subst (λ n. n ≤ position_at new.reader.replicas.items (task_of d old.ask) (log_of d old.ask)) (sym (ap last_position pushed ∙ last_pushed old.answers.items x)) (omega (arith, reached.own)));
  }

  -- it is told nothing else: the question can be asked, and its replica is as far as the last answer
  pub never_refused : (lock : TableId) (d : DraftView) (old : Asker W) (new : PassView Entry (Frame W)) (after : List Replica) (at_least : ℕ) (f : IqFault) → MayAsk plan lock d old → at_least ≡ last_position old.answers.items →
      IsTold plan d old.reader.pass new old.reader.replicas.items after old.ask at_least (Err f) → ⊥
  never_refused lock d old new after at_least UnknownStore may is told = let e : None ≡ Some UnknownStore = sym may.fine ∙ told in cc
  never_refused lock d old new after at_least WrongStart may is told = let e : None ≡ Some WrongStart = sym may.fine ∙ told in cc
  never_refused lock d old new after at_least (Behind position) may is told = omega (arith, told.1, told.2.rises, may.reached, is)
  never_refused lock d old new after at_least (WrongTask owner) may is told = told
  never_refused lock d old new after at_least NotClean may is told = told
