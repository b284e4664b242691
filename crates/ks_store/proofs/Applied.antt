-- The first records of a changelog, and one more.
use Rattle.std.proofs.Common.{◌≡◌, ℕ, ◌+◌, ◌<◌, List, [], ◌∷◌, ◌++◌, length, get_or, take, refl, sym, ap, ◌∙◌, arith}
use Rattle.std.specs.Prelude.{Result, Ok, Err, OnOk}
use Rattle.std.proofs.lemmas.List.{get_or-map, length-map, take_more}
use Rattle.ks_def_runs.specs.Bytes.{Store}
use Rattle.ks_record.specs.Records.{Record as Rec}
use Rattle.ks_history.specs.Machine.{applied, latest_from}
use Rattle.ks_store.specs.Restored.{records_of}

pub latest_from-append : (m : Store) (rs ss : List Rec) → latest_from m (rs ++ ss) ≡ latest_from (latest_from m rs) ss
latest_from-append m [] ss = refl
latest_from-append m (r ∷ rs) ss = latest_from-append (applied m r.key r.value) rs ss

length-records_of : (recs : List (ℕ × Rec)) → length (records_of recs) ≡ length recs
length-records_of recs = simp length-map

pub one_more : (m n new : Store) (recs : List (ℕ × Rec)) (i : ℕ) (x : ℕ × Rec) → i < length recs → x ≡ get_or recs i x → n ≡ latest_from m (take i (records_of recs)) → new ≡ applied n x.1.key x.1.value →
    new ≡ latest_from m (take (i + 1) (records_of recs))
one_more m n new recs i x lt is so_far e =
    let here : get_or (records_of recs) i x.1 ≡ x.1 = get_or-map (λ (r : ℕ × Rec). r.1) recs i x x.1 lt ∙ ap (λ (r : ℕ × Rec). r.1) (sym is) in
    let next : take (i + 1) (records_of recs) ≡ take i (records_of recs) ++ x.1 ∷ [] =
    take_more (records_of recs) i x.1 (omega (arith, length-records_of recs)) ∙ ap (λ (r : Rec). take i (records_of recs) ++ r ∷ []) here in
    e ∙ (ap (λ (s : Store). applied s x.1.key x.1.value) so_far ∙ (sym (latest_from-append m (take i (records_of recs)) (x.1 ∷ [])) ∙ ap (latest_from m) (sym next)))

pub on_ok : {A E P Q : Type 0} (r : Result A E) → (P → Q) → OnOk r P → OnOk r Q
on_ok (Ok x) f h = f h
on_ok (Err e) f h = h
