-- All of changelogs but what their stores hold back.
use Rattle.std.proofs.Common.{◌≡◌, ℕ, zero, suc, ◌+◌, ◌<◌, ◌==◌, List, [], ◌∷◌, ◌++◌, map, length, take, drop, set, get_or, refl, sym, ap, ap₂, ◌∙◌, arith}
use Rattle.std.specs.Prelude.{if◌then◌else◌}
use Rattle.std.proofs.Math.Path.{fun_ext}
use Rattle.ks_record.specs.declared.record.TaskId.{TaskId}
use Rattle.ks_def_runs.specs.Bytes.{Store, empty_store}
use Rattle.ks_cache.specs.declared.changelogs.Changelog.{Changelog}
use Rattle.ks_cache.specs.Changelogs.{stores_in}
use Rattle.ks_standby.specs.Replicas.{positions_in, numbers_of, view_in}
use Rattle.ks_task.specs.Views.{holding, plain_log}
use Rattle.ks_task.proofs.Orders.{long}

abbrev Plain : Type 0
Plain = ℕ × (ℕ × Store)

store_at : List Plain → ℕ → Store
store_at [] n = empty_store
store_at (x ∷ xs) n = if n == x.0 then (x.1).1 else store_at xs n

place_at : List Plain → ℕ → ℕ
place_at [] n = 0
place_at (x ∷ xs) n = if n == x.0 then (x.1).0 else place_at xs n

stores_plain : (ls : List Changelog) (n : ℕ) → stores_in ls n ≡ store_at (map plain_log ls) n
unfolding store_at
stores_plain [] n = refl
stores_plain (l ∷ ls) n = ap (λ (s : Store). if n == l.topic then l.store.whole else s) (stores_plain ls n)

positions_plain : (ls : List Changelog) (n : ℕ) → positions_in ls n ≡ place_at (map plain_log ls) n
unfolding place_at
positions_plain [] n = refl
positions_plain (l ∷ ls) n = ap (λ (p : ℕ). if n == l.topic then l.position else p) (positions_plain ls n)

numbers_plain : (ls : List Changelog) → numbers_of ls ≡ map (λ (x : Plain). x.0) (map plain_log ls)
numbers_plain [] = refl
numbers_plain (l ∷ ls) = ap (λ ns. l.topic ∷ ns) (numbers_plain ls)

-- changelogs with the same ones are the same but for that
pub same_view : (t : TaskId) (ls ms : List Changelog) → map plain_log ls ≡ map plain_log ms → view_in t ls ≡ view_in t ms
same_view t ls ms same =
    ap₂ (λ (s : ℕ → Store) (p : ℕ → ℕ). record { task = t; stores = s; position = p })
    (fun_ext (λ n. stores_plain ls n ∙ (ap (λ xs. store_at xs n) same ∙ sym (stores_plain ms n))))
    (fun_ext (λ n. positions_plain ls n ∙ (ap (λ xs. place_at xs n) same ∙ sym (positions_plain ms n))))

pub same_numbers : (ls ms : List Changelog) → map plain_log ls ≡ map plain_log ms → numbers_of ls ≡ numbers_of ms
same_numbers ls ms same = numbers_plain ls ∙ (ap (map (λ (x : Plain). x.0)) same ∙ sym (numbers_plain ms))

-- ---- one after another
plain_set : (ls : List Changelog) (i : ℕ) (l : Changelog) → plain_log l ≡ plain_log (get_or ls i l) → map plain_log (set ls i l) ≡ map plain_log ls
plain_set [] i l e = refl
plain_set (x ∷ xs) zero l e = ap (λ y. y ∷ map plain_log xs) e
plain_set (x ∷ xs) (suc i) l e = ap (λ ys. plain_log x ∷ ys) (plain_set xs i l e)

get_default : {A : Type 0} (xs : List A) (i : ℕ) (c d : A) → i < length xs → get_or xs i c ≡ get_or xs i d
get_default [] i c d lt = absurd (omega arith)
get_default (x ∷ xs) zero c d lt = refl
get_default (x ∷ xs) (suc i) c d lt = get_default xs i c d (omega arith)

pub plain_stays : (cache : ℕ) (xs ls : List Changelog) (i : ℕ) (x l : Changelog) → ls ≡ map (holding cache) (take i xs) ++ drop i xs → i < length xs → x ≡ get_or ls i x → plain_log l ≡ plain_log x →
    map plain_log ls ≡ map plain_log xs → map plain_log (set ls i l) ≡ map plain_log xs
plain_stays cache xs ls i x l is lt read e so_far =
    plain_set ls i l (e ∙ ap plain_log (read ∙ get_default ls i x l (omega (arith, long (holding cache) xs i, ap length is)))) ∙ so_far
