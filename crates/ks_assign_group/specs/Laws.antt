-- What a good assignment names, and what is good for one worker.
use Rattle.std.specs.Prelude.{◌≡◌, ◌≤◌, ℕ, true, List, [], ◌∷◌, map}
use Rattle.ks_record.specs.declared.record.PartId.{PartId}
use Rattle.ks_record.specs.declared.record.TaskId.{TaskId}
use Rattle.ks_record.specs.declared.assignment.Assignment.{Assignment}
use Rattle.ks_history.specs.declared.journal.Status.{Status}
use Rattle.ks_history.specs.State.{Setup, are_once}
use Rattle.ks_history.specs.History.{are_places}
use Rattle.ks_assign.specs.declared.clients.Placing.{Placing}
use Rattle.ks_assign_group.specs.Groups.{good_by, IsGoodBy}

-- all its places are of the cluster's tasks and of workers 0 to 16
pub record ArePlaces (setup : Setup) (a : Assignment) : Type 0 where
  pub active : are_places setup a.active ≡ true
  pub standby : are_places setup a.standby ≡ true
  pub warmup : are_places setup a.warmup ≡ true

abbrev pub GoodPlaces : Type 0
GoodPlaces = (changelogs : ℕ → List ℕ) (setup : Setup) (placing : Placing) (status : Status) (a : Assignment) →
    IsGoodBy changelogs setup.tasks placing status a → ArePlaces setup a

-- where a worker is the one member, it is good that it has every task and that nothing else stands anywhere, whatever is held
abbrev pub AloneIsGood : Type 0
AloneIsGood = (changelogs : ℕ → List ℕ) (tasks : List TaskId) (placing : Placing) (w : ℕ) (a : Assignment) → are_once tasks ≡ true → 1 ≤ placing.threads → w ≤ 16 →
    a.active ≡ map (λ t. (t, w)) tasks → a.standby ≡ [] → a.warmup ≡ [] →
    (held : List (ℕ × TaskId × ℕ)) (ends : List (PartId × ℕ)) → good_by changelogs tasks placing (w ∷ []) held ends a ≡ true
