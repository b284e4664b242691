-- Subscriptions as they are written are those that the machine sends.
use Rattle.std.proofs.Common.{◌≡◌, ℕ, List, [], ◌∷◌, ◌++◌, map, refl, ap, sym, ◌∙◌, append_assoc}
use Rattle.std.specs.List.{flat_map}
use Rattle.ks_query.specs.Streams.{Key}
use Rattle.ks_def_tasks.specs.Messages.{Subscription, value_of}
use Rattle.ks_def_tasks.specs.Step.{Sent, send_subscriptions}
use Rattle.ks_fk_left.specs.Asked.{told}
use Rattle.ks_task_nodes.specs.Nodes.{TaskNode}
use Rattle.ks_task_processing.specs.Steps.{sent_by, asked_by}

pub asked_is : (s : TaskNode) (time : ℕ) (k : Key) (ss : List (Key × Subscription)) → map (asked_by s time) (told k ss) ≡ flat_map (sent_by s time) (send_subscriptions s.topics.number k ss)
asked_is s time k [] = refl
asked_is s time k (x ∷ ss) = ap (λ l. asked_by s time (x.0, value_of k x.1) ∷ l) (asked_is s time k ss)

pub both_sent : (s : TaskNode) (time : ℕ) (xs ys : List Sent) → flat_map (sent_by s time) (xs ++ ys) ≡ flat_map (sent_by s time) xs ++ flat_map (sent_by s time) ys
both_sent s time [] ys = refl
both_sent s time (x ∷ xs) ys =
    ap (λ l. sent_by s time x ++ l) (both_sent s time xs ys) ∙ sym (append_assoc (sent_by s time x) (flat_map (sent_by s time) xs) (flat_map (sent_by s time) ys))
