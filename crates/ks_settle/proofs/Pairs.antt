-- The pairs of a changelog's partition, as they are read.
use Rattle.std.proofs.Common.{◌≡◌, ℕ, List, [], ◌∷◌, refl, ap, ◌∙◌}
use Rattle.std.specs.Prelude.{◌==◌}
use Rattle.std.specs.List.{filter, starts_with}
use Rattle.ks_record.specs.Records.{Record as Rec}
use Rattle.ks_record.specs.declared.record.PartId.{PartId}
use Rattle.ks_def_runs.specs.Bytes.{Store, empty_store}
use Rattle.ks_def_runs.specs.FinMap as fin
use Rattle.ks_history.specs.Partition.{Logged, recs, with_offsets}
use Rattle.ks_history.specs.Machine.{latest_from}
use Rattle.ks_history.specs.State.{State}
use Rattle.ks_history.specs.Faithful.{decided}
use Rattle.ks_history.specs.Reads.{decided_records}
use Rattle.ks_store.specs.Restored.{records_of}
use Rattle.ks_def_runs.specs.Prefixes.{pairs_under}
use Rattle.ks_settle.specs.Rows.{pairs_in}

plain_records : (xs : List Logged) → records_of (with_offsets xs) ≡ recs xs
plain_records [] = refl
plain_records (x ∷ xs) = ap (λ l. x.rec ∷ l) (plain_records xs)

all_start : (es : List (List ℕ × List ℕ)) → filter (λ e. starts_with ◌==◌ e.0 []) es ≡ es
all_start [] = refl
all_start (e ∷ es) = ap (λ l. e ∷ l) (all_start es)

pub kept_pairs : (s : State) (p : PartId) (found : List (ℕ × Rec)) (store : Store) → found ≡ decided_records s p → store ≡ latest_from empty_store (records_of found) → pairs_under [] store ≡ pairs_in s p
kept_pairs s p found store f e =
    all_start (fin.entries store) ∙ ap (λ m. fin.entries m) (e ∙ ap (λ l. latest_from empty_store (records_of l)) f ∙ ap (latest_from empty_store) (plain_records (decided s p)))
