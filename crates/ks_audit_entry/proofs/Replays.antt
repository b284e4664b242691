-- A request that was made, and a reply that was compared.
use Rattle.std.proofs.Common.{◌≡◌, Bool, true, List, ◌∷◌, [], ◌++◌, sym, ap, ◌∙◌, append-nil}
use Rattle.std.specs.Prelude.{ℕ, ◌↔◌}
use Rattle.ks_record.specs.declared.assignment.Assignment.{Assignment}
use Rattle.ks_history.specs.declared.journal.Entry.{Entry}
use Rattle.ks_history.specs.declared.journal.Reply.{Reply}
use Rattle.ks_history.specs.declared.journal.Request.{Request}
use Rattle.ks_history.specs.Machine.{TaskPlan}
use Rattle.ks_history.specs.State.{Setup}
use Rattle.ks_history.specs.History.{at, Meets}
use Rattle.ks_history.specs.Reads.{status}
use Rattle.ks_cluster.specs.Placed.{PlacementTest, IsGoodAt}
use Rattle.ks_cluster.specs.View.{ClusterView, setup_of, state_of, AddsEntry}
use Rattle.ks_audit_entry.specs.Outcomes.{FindsAllGood, Replayed}

pub replayed_by : {W : Type 0} (plan : W → TaskPlan) (old new : ClusterView W) (request : Request) (given reply : Reply) (told : Bool) →
    Meets (setup_of plan old) (state_of plan old) request → AddsEntry plan old new request given → ((told ≡ true) ↔ (reply ≡ given)) →
    Replayed plan old new (record { request = request; reply = reply }) told
replayed_by plan old new request given reply told meets adds same = record {
  same = λ h. adds.journal ∙ ap (λ (r : Reply). record old { journal = old.journal ++ record { request = request; reply = r } ∷ [] }) (sym (same.0 h));
  step = λ h. record { meets = meets; reply = same.0 h ∙ adds.step };
  other = λ step. same.1 (step.reply ∙ sym adds.step);
}

pub all_are_good : (test : PlacementTest) (setup : Setup) (journal : List Entry) (g : ℕ) (a : Assignment) → FindsAllGood test → (at setup journal).generation ≡ g → IsGoodAt test setup journal g a
all_are_good test setup journal g a all_good is = record {
  seen = journal;
  begins = ([], append-nil journal);
  generation = is;
  good = all_good (status setup (at setup journal)).members (status setup (at setup journal)).held (status setup (at setup journal)).ends a;
}
