-- A windowed count reads each of its windows once, so that what it makes of an item is read from the store as it was.
use Rattle.std.proofs.Common.{◌≡◌, ℕ, zero, suc, ◌+◌, ◌*◌, ◌/◌, ◌<◌, ◌≤◌, ◌^◌, Bool, true, false, cond, nat_eq, nat_lt, List, [], ◌∷◌, ◌++◌, fold, Option, Some, None, refl, sym, ap, ap₂, ◌∙◌, arith}
use Rattle.std.specs.List.{filter}
use Rattle.std.specs.Ordering.{eq_by_cmp}
use Rattle.std.specs.Cmp.Lexicographic.{nat_list_cmp_total}
use Rattle.std.specs.FinMap.{slice_cmp-IsAntisymmetric, nat_cmp-IsAntisymmetric}
use Rattle.std.proofs.Math.Nat.{div-mul-le_self, mul-le-mul_right}
use Rattle.ks_record.specs.Texts.{IsKey}
use Rattle.ks_row.specs.Reading.{◌>>=◌}
use Rattle.ks_def_runs.specs.FinMap as fin
use Rattle.ks_def_runs.specs.Bytes.{Store, by_bytes}
use Rattle.ks_def_runs.proofs.Tables.{equal}
use Rattle.ks_wire.specs.Spelling.{window_key, agg_bytes, time_key, time_bytes}
use Rattle.ks_wire.specs.Reading.{window_key_from, agg_from, long_key_at}
use Rattle.ks_wire.proofs.Wired.{window_key_codec}
use Rattle.ks_plan.specs.Plan.{Window}
use Rattle.ks_query.specs.Streams.{Key}
use Rattle.ks_query.specs.Windows.{multiples, windows}
use Rattle.ks_query.specs.Grace.{is_open}
use Rattle.ks_query.specs.Aggregates.{stream_add}
use Rattle.ks_def_tasks.specs.Messages.{same_option}
use Rattle.ks_def_tasks.specs.Windowed.{greater}
use Rattle.ks_def_tasks.specs.Laws.{AllBelow}
use Rattle.ks_record.specs.Records.{Record as Rec}
use Rattle.ks_def_lookups.specs.Windows.{CountedBytes, time_in, count_in, kept_rec, next_rec, time_rec, keep, count_start, counted}

-- ---- what an item makes of a store that is read and not written
pub record ReadCount : Type 0 where
  pub late : ℕ
  pub recs : List Rec

abbrev pub read_start : Window → Store → ℕ → ℕ → Key → ReadCount → ℕ → ReadCount
read_start w m t now key c s = cond (is_open w now s) (record c { recs = c.recs ++ next_rec t m (window_key key s) ∷ [] }) (record c { late = c.late + 1 })

abbrev pub read_counted : Window → Store → Key → ℕ → ReadCount
read_counted w m key t =
    let now = greater (time_in m) t in
    fold (read_start w m t now key) (record { late = 0; recs = time_rec (time_in m) t now }) (windows w t)

-- ---- starts: each stands once, and none past its time
abbrev AllLess : ℕ → List ℕ → Type 0
AllLess n [] = Unit {0}
AllLess n (s ∷ ss) = (s < n) × AllLess n ss

abbrev Apart : ℕ → List ℕ → Type 0
Apart n [] = Unit {0}
Apart n (s ∷ ss) = (s ≡ n → ⊥) × Apart n ss

abbrev Once : List ℕ → Type 0
Once [] = Unit {0}
Once (s ∷ ss) = Apart s ss × Once ss

less_append : (n m : ℕ) (ss : List ℕ) → m ≤ n → AllLess m ss → (s : ℕ) → s < n → AllLess n (ss ++ s ∷ [])
less_append n m [] le h s lt = (lt, tt)
less_append n m (x ∷ xs) le h s lt = (omega (arith, le, h.0), less_append n m xs le h.1 s lt)

multiples_less : (a n : ℕ) → 1 ≤ a → AllLess (n * a) (multiples a n)
multiples_less a zero some = tt
multiples_less a (suc n) some = less_append (suc n * a) (n * a) (multiples a n) (omega (arith)) (multiples_less a n some) (n * a) (omega (arith, some))

apart_append : (n s : ℕ) (ss : List ℕ) → Apart n ss → (s ≡ n → ⊥) → Apart n (ss ++ s ∷ [])
apart_append n s [] h ne = (ne, tt)
apart_append n s (x ∷ xs) h ne = (h.0, apart_append n s xs h.1 ne)

once_append : (s : ℕ) (ss : List ℕ) → Once ss → AllLess s ss → Once (ss ++ s ∷ [])
once_append s [] h less = (tt, tt)
once_append s (x ∷ xs) h less = (apart_append x s xs h.0 (λ (e : s ≡ x). omega (arith, e, less.0)), once_append s xs h.1 less.1)

multiples_once : (a n : ℕ) → 1 ≤ a → Once (multiples a n)
multiples_once a zero some = tt
multiples_once a (suc n) some = once_append (n * a) (multiples a n) (multiples_once a n some) (multiples_less a n some)

apart_filter : (f : ℕ → Bool) (n : ℕ) (ss : List ℕ) → Apart n ss → Apart n (filter f ss)
apart_filter f n [] h = tt
apart_filter f n (s ∷ ss) h = by (f s) (apart_filter f n ss h.1)
  where
    by : (b : Bool) → Apart n (filter f ss) → Apart n (cond b (s ∷ filter f ss) (filter f ss))
    by true g = (h.0, g)
    by false g = g

once_filter : (f : ℕ → Bool) (ss : List ℕ) → Once ss → Once (filter f ss)
once_filter f [] h = tt
once_filter f (s ∷ ss) h = by (f s) (once_filter f ss h.1)
  where
    by : (b : Bool) → Once (filter f ss) → Once (cond b (s ∷ filter f ss) (filter f ss))
    by true g = (apart_filter f s ss h.0, g)
    by false g = g

windows_once : (w : Window) (t : ℕ) → 1 ≤ w.advance → Once (windows w t)
windows_once w t some = once_filter (λ s. nat_lt t (s + w.size)) (multiples w.advance (t / w.advance + 1)) (multiples_once w.advance (t / w.advance + 1) some)

abbrev UpTo : ℕ → List ℕ → Type 0
UpTo t [] = Unit {0}
UpTo t (s ∷ ss) = (s ≤ t) × UpTo t ss

up_append : (t : ℕ) (xs : List ℕ) → UpTo t xs → (y : ℕ) → y ≤ t → UpTo t (xs ++ y ∷ [])
up_append t [] h y le = (le, tt)
up_append t (x ∷ xs) h y le = (h.0, up_append t xs h.1 y le)

multiples_up : (t a m k : ℕ) → m ≤ k + 1 → k * a ≤ t → UpTo t (multiples a m)
multiples_up t a zero k le h = tt
multiples_up t a (suc m) k le h =
    let most : m * a ≤ k * a = mul-le-mul_right a (omega (arith, le)) in
    up_append t (multiples a m) (multiples_up t a m k (omega (arith, le)) h) (m * a) (omega (arith, most, h))

below_filter : (f : ℕ → Bool) (t : ℕ) → t < 2 ^ 64 → (ss : List ℕ) → UpTo t ss → AllBelow (filter f ss)
below_filter f t lt [] h = tt
below_filter f t lt (s ∷ ss) h = by (f s) (below_filter f t lt ss h.1)
  where
    by : (b : Bool) → AllBelow (filter f ss) → AllBelow (cond b (s ∷ filter f ss) (filter f ss))
    by true g = (omega (arith, lt, h.0), g)
    by false g = g

pub windows_below : (w : Window) (t : ℕ) → t < 2 ^ 64 → AllBelow (windows w t)
windows_below w t lt = below_filter (λ s. nat_lt t (s + w.size)) t lt (multiples w.advance (t / w.advance + 1)) (multiples_up t w.advance (t / w.advance + 1) (t / w.advance) (omega arith) (div-mul-le_self t w.advance))

-- ---- keys
bytes_same : (a b : List ℕ) → eq_by_cmp by_bytes a b ≡ true → a ≡ b
bytes_same a b e = slice_cmp-IsAntisymmetric nat_cmp-IsAntisymmetric a b (equal (by_bytes a b) e)

time_is_none : window_key_from time_key ≡ None
unfolding window_key_from long_key_at
time_is_none = refl

module _ (w : Window) (m : Store) (g : Key) (t now : ℕ) (key : IsKey g) where
  -- another key's value stays
  get_other : (b : Store) (k v q : List ℕ) → (q ≡ k → ⊥) → fin.get (fin.insert b k v) q ≡ fin.get b q
  get_other b k v q ne = fin.get-insert nat_list_cmp_total b k v q ∙ by (eq_by_cmp by_bytes q k) refl
    where
      by : (c : Bool) → eq_by_cmp by_bytes q k ≡ c → cond c (Some v) (fin.get b q) ≡ fin.get b q
      by true e = absurd (ne (bytes_same q k e))
      by false e = refl

  starts_apart : (s q : ℕ) → s < 2 ^ 64 → q < 2 ^ 64 → (q ≡ s → ⊥) → window_key g q ≡ window_key g s → ⊥
  starts_apart s q a b ne e =
      let same : (g, q) ≡ (g, s) = window_key_codec.one (g, q) (g, s) (key, b) (key, a) e in
      ne (ap (λ (x : Key × ℕ). x.1) same)

  no_window : (s : ℕ) → s < 2 ^ 64 → window_key g s ≡ time_key → ⊥
  no_window s lt e = nothing (sym none ∙ ap window_key_from (sym e) ∙ window_key_codec.again (g, s) (key, lt))
    where
      none : window_key_from time_key ≡ None
      none = time_is_none

      nothing : {y : Key × ℕ} → None ≡ Some y → ⊥
      nothing e = cc

  -- the windows to come are as they were
  abbrev Untouched : Store → List ℕ → Type 0
  Untouched b [] = Unit {0}
  Untouched b (s ∷ ss) = (fin.get b (window_key g s) ≡ fin.get m (window_key g s)) × Untouched b ss

  untouched_more : (b : Store) (s : ℕ) (v : List ℕ) → s < 2 ^ 64 → (ss : List ℕ) → AllBelow ss → Apart s ss → Untouched b ss → Untouched (fin.insert b (window_key g s) v) ss
  untouched_more b s v lt [] below apart h = tt
  untouched_more b s v lt (q ∷ qs) below apart h =
      (get_other b (window_key g s) v (window_key g q) (starts_apart s q lt below.0 apart.0) ∙ h.0, untouched_more b s v lt qs below.1 apart.1 h.1)

  untouched_time : (v : List ℕ) (ss : List ℕ) → AllBelow ss → Untouched (fin.insert m time_key v) ss
  untouched_time v [] below = tt
  untouched_time v (s ∷ ss) below = (get_other m time_key v (window_key g s) (no_window s below.0), untouched_time v ss below.1)

  untouched_none : (ss : List ℕ) → Untouched m ss
  untouched_none [] = tt
  untouched_none (s ∷ ss) = (refl, untouched_none ss)

  record Same (c : CountedBytes) (r : ReadCount) : Type 0 where
    pub late : c.late ≡ r.late
    pub recs : c.recs ≡ r.recs

  all_same : (ss : List ℕ) → AllBelow ss → Once ss → (c : CountedBytes) (r : ReadCount) → Same c r → Untouched c.store ss → Same (fold (count_start w t now g) c ss) (fold (read_start w m t now g) r ss)
  all_same [] below once c r h u = h
  all_same (s ∷ ss) below once c r h u = by (is_open w now s) (λ d e f v. all_same ss below.1 once.1 d e f v)
    where
      by : (b : Bool) → ((d : CountedBytes) (e : ReadCount) → Same d e → Untouched d.store ss → Same (fold (count_start w t now g) d ss) (fold (read_start w m t now g) e ss)) →
          Same (fold (count_start w t now g) (cond b (keep c t (window_key g s) (agg_bytes (stream_add None (count_in c.store g s) []))) (record c { late = c.late + 1 })) ss)
          (fold (read_start w m t now g) (cond b (record r { recs = r.recs ++ kept_rec t (window_key g s) (agg_bytes (stream_add None (count_in m g s) [])) ∷ [] }) (record r { late = r.late + 1 })) ss)
      by true more = more (keep c t (window_key g s) (agg_bytes (stream_add None (count_in c.store g s) []))) (record r { recs = r.recs ++ kept_rec t (window_key g s) (agg_bytes (stream_add None (count_in m g s) [])) ∷ [] })
          (record {
            late = h.late;
            recs = ap₂ (λ rs (o : Option (List ℕ)). rs ++ kept_rec t (window_key g s) (agg_bytes (stream_add None (o >>= agg_from) [])) ∷ []) h.recs u.0;
          })
          (untouched_more c.store s (agg_bytes (stream_add None (count_in c.store g s) [])) below.0 ss below.1 once.0 u.1)
      by false more = more (record c { late = c.late + 1 }) (record r { late = r.late + 1 }) (record { late = ap (λ n. n + 1) h.late; recs = h.recs }) u.1

  from_start : (b : Bool) (ss : List ℕ) → AllBelow ss → Once ss →
      Same (fold (count_start w t now g) (cond b (record { store = m; late = 0; recs = [] }) (keep (record { store = m; late = 0; recs = [] }) t time_key (time_bytes now))) ss)
      (fold (read_start w m t now g) (record { late = 0; recs = cond b [] (kept_rec t time_key (time_bytes now) ∷ []) }) ss)
  from_start true ss below once = all_same ss below once (record { store = m; late = 0; recs = [] }) (record { late = 0; recs = [] }) (record { late = refl; recs = refl }) (untouched_none ss)
  from_start false ss below once =
      all_same ss below once (keep (record { store = m; late = 0; recs = [] }) t time_key (time_bytes now)) (record { late = 0; recs = kept_rec t time_key (time_bytes now) ∷ [] }) (record { late = refl; recs = refl }) (untouched_time (time_bytes now) ss below)

pub record ReadSame (w : Window) (m : Store) (g : Key) (t : ℕ) : Type 0 where
  pub late : (counted w m g t).late ≡ (read_counted w m g t).late
  pub recs : (counted w m g t).recs ≡ (read_counted w m g t).recs

pub read_same : (w : Window) (m : Store) (g : Key) (t : ℕ) → 1 ≤ w.advance → IsKey g → t < 2 ^ 64 → ReadSame w m g t
read_same w m g t some key lt =
    let same = from_start w m g t (greater (time_in m) t) key (same_option nat_eq (time_in m) (Some (greater (time_in m) t))) (windows w t) (windows_below w t lt) (windows_once w t some) in
    record { late = same.late; recs = same.recs }
