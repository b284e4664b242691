-- A good assignment names tasks of the cluster and workers 0 to 16.
use Rattle.std.proofs.Common.{◌≡◌, ◌&&◌, ◌||◌, ℕ, not, Bool, true, false, cond, nat_le, nat_lt, List, [], ◌∷◌, inl, inr, refl, sym, ap, subst, ◌∙◌}
use Rattle.ks_record.specs.declared.record.TaskId.{TaskId}
use Rattle.ks_record.specs.declared.assignment.Assignment.{Assignment}
use Rattle.ks_record.specs.Parts.{same_task}
use Rattle.ks_history.specs.State.{Setup, are_once, has_task as has}
use Rattle.ks_history.specs.History.{are_places}
use Rattle.ks_assign.proofs.Others.{same_tells}
use Rattle.ks_assign.specs.declared.clients.Client.{Client}
use Rattle.ks_assign.specs.declared.clients.Held.{Held}
use Rattle.ks_assign.specs.declared.clients.Wants.{Wants}
use Rattle.ks_record.specs.declared.record.PartId.{PartId}
use Rattle.ks_assign.specs.Placement.{IsGood, is_good, Places, has_task, home, by_client, each_once, all_known, tasks_apart}
use Rattle.ks_assign.proofs.Homes.{and_left, and_right, and_both, false_not_true}
use Rattle.ks_assign.proofs.Even.{le_true}
use Rattle.ks_assign.proofs.Tests.{is_test, test_is}
use Rattle.ks_assign_group.specs.Groups.{clients_below, clients_of, lags_in}
use Rattle.ks_assign_group.specs.Laws.{GoodPlaces}
use Rattle.ks_assign_group.proofs.Grouping.{employed_in, home_employs}

same_task-sym : (t u : TaskId) → same_task t u ≡ same_task u t
same_task-sym t u = elim (same_tells t u) [
  | inl e ↦ elim (same_tells u t) [ inl f ↦ e.0 ∙ sym f.0 | inr f ↦ absurd (f.1 (sym e.1)) ]
  | inr e ↦ elim (same_tells u t) [ inl f ↦ absurd (e.1 (sym f.1)) | inr f ↦ e.0 ∙ sym f.0 ]
]

-- one task in a list, said twice
pub has_is : (t : TaskId) (ts : List TaskId) → has_task t ts ≡ has t ts
has_is t [] = refl
has_is t (u ∷ us) = ap (λ b. b || has_task t us) (same_task-sym u t) ∙ ap (λ b. same_task t u || b) (has_is t us)

pub apart_once : (ts : List TaskId) → are_once ts ≡ true → tasks_apart ts ≡ true
apart_once [] h = refl
apart_once (t ∷ ts) h = by (has t ts) refl h (apart_once ts)
  where
    by : (b : Bool) → has t ts ≡ b → cond b false (are_once ts) ≡ true → (are_once ts ≡ true → tasks_apart ts ≡ true) → tasks_apart (t ∷ ts) ≡ true
    by true e k later = absurd (false_not_true k)
    by false e k later = and_both (not (has_task t ts)) (tasks_apart ts) (ap not (has_is t ts ∙ e)) (later k)

known_places : (setup : Setup) (threads : ℕ) (members : List ℕ) (places : Places) → all_known setup.tasks (by_client (clients_below 17 threads members) places) ≡ true → are_places setup places ≡ true
known_places setup threads members [] h = refl
known_places setup threads members (p ∷ ps) h =
    let cs : List Client = clients_below 17 threads members in
    let this : (has_task p.0 setup.tasks && nat_lt (home cs p.1) 256) ≡ true = and_left _ (all_known setup.tasks (by_client cs ps)) h in
    let known : has p.0 setup.tasks ≡ true = sym (has_is p.0 setup.tasks) ∙ and_left (has_task p.0 setup.tasks) _ this in
    let small = employed_in 17 threads members p.1 (home_employs cs p.1 (and_right (has_task p.0 setup.tasks) _ this)) in
    and_both (has p.0 setup.tasks && nat_le p.1 16) (are_places setup ps) (and_both (has p.0 setup.tasks) (nat_le p.1 16) known (le_true p.1 16 small.1)) (known_places setup threads members ps (and_right _ (all_known setup.tasks (by_client cs ps)) h))

pub good_places : GoodPlaces
good_places changelogs setup placing status a passed =
    let cs : List Client = clients_of placing.threads status.members in
    let good = test_is setup.tasks cs (lags_in changelogs cs setup.tasks status.held status.ends) placing.wants a passed in
    let known : (all_known setup.tasks (by_client cs a.active) && (all_known setup.tasks (by_client cs a.standby) && all_known setup.tasks (by_client cs a.warmup))) ≡ true =
    and_right (each_once setup.tasks (by_client cs a.active)) _ good.once in
    let rest : (all_known setup.tasks (by_client cs a.standby) && all_known setup.tasks (by_client cs a.warmup)) ≡ true = and_right (all_known setup.tasks (by_client cs a.active)) _ known in
    record {
      active = known_places setup placing.threads status.members a.active (and_left (all_known setup.tasks (by_client cs a.active)) _ known);
      standby = known_places setup placing.threads status.members a.standby (and_left (all_known setup.tasks (by_client cs a.standby)) _ rest);
      warmup = known_places setup placing.threads status.members a.warmup (and_right (all_known setup.tasks (by_client cs a.standby)) _ rest);
    }

-- a good assignment of equal tasks and clients, whose lags are these
pub same_good : (changelogs : ℕ → List ℕ) (ts us : List TaskId) (cs ds es : List Client) (lags : List Held) (held : List (ℕ × TaskId × ℕ)) (ends : List (PartId × ℕ)) (wants : Wants) (a : Assignment) →
    us ≡ ts → es ≡ cs → cs ≡ ds → lags ≡ lags_in changelogs es us held ends → IsGood us cs lags wants a → is_good ts ds (lags_in changelogs ds ts held ends) wants a ≡ true
same_good changelogs ts us cs ds es lags held ends wants a tasks first clients told good =
    let here : IsGood us cs (lags_in changelogs cs us held ends) wants a = subst (λ hs. IsGood us cs hs wants a) (told ∙ ap (λ xs. lags_in changelogs xs us held ends) first) good in
    let there : IsGood ts cs (lags_in changelogs cs ts held ends) wants a = subst (λ xs. IsGood xs cs (lags_in changelogs cs xs held ends) wants a) tasks here in
    is_test ts ds (lags_in changelogs ds ts held ends) wants a (subst (λ xs. IsGood ts xs (lags_in changelogs xs ts held ends) wants a) clients there)
