-- A cut, and a job's reader along a line.
use Rattle.std.proofs.Common.{◌≡◌, ◌⊎◌, inl, inr, ℕ, zero, suc, ◌+◌, ◌-◌, ◌<◌, add-one, get_or, drop, List, [], ◌∷◌, ◌++◌, length, take, Bool, true, false, cond, refl, sym, ap, subst, ◌∙◌, arith, rules}
use Rattle.std.specs.Prelude.{Option, Some, None, option_map, Result, Ok, Err, ◌==◌}
use Rattle.std.proofs.lemmas.List.{take_rest}
use Rattle.ks_job_record.specs.declared.fault.JobKind.{JobKind}
use Rattle.ks_job.specs.Items.{ItemView}
use Rattle.ks_job.specs.Lines.{Spot, judged}
use Rattle.ks_job.specs.Reader.{Reader, Reading, Faulty, Machine, is_line_end, after, after_byte, after_line, with_item, longer, at_end, closed, end_of}
use Rattle.ks_job.specs.Cut.{cut_line}
use Rattle.ks_job.proofs.Cuts.{after_both}
use Rattle.ks_job_source.specs.Stops.{line_stop}
use Rattle.ks_job_source.specs.Cutting.{HasNoEnd}
use Rattle.ks_job_source.specs.Cutting.{IsLine}

-- ---- a cut
pub record IsCut (xs front more : List ℕ) : Type 0 where
  pub both : xs ≡ front ++ 10 ∷ more
  pub plain : HasNoEnd front

is_end : (x : ℕ) → is_line_end x ≡ true → x ≡ 10
is_end x h = search rules

abbrev pair_or : List ℕ × List ℕ → Option (List ℕ × List ℕ) → List ℕ × List ℕ
pair_or d None = d
pair_or d (Some p) = p

pub cut_is : (xs front more : List ℕ) → cut_line xs ≡ Some (front, more) → IsCut xs front more
cut_is [] front more e = absurd (cc)
cut_is (x ∷ xs) front more e = by (is_line_end x) (cut_line xs) refl (cut_is xs) e
  where
    by : (b : Bool) (o : Option (List ℕ × List ℕ)) → is_line_end x ≡ b → ((f m : List ℕ) → o ≡ Some (f, m) → IsCut xs f m) →
        cond {A = Option (List ℕ × List ℕ)} b (Some ([], xs)) (option_map (λ (p : List ℕ × List ℕ). (x ∷ p.0, p.1)) o) ≡ Some (front, more) → IsCut (x ∷ xs) front more
    by true o h on is =
        let p = ap (pair_or ([], [])) is in
        let f : [] ≡ front = ap (λ (q : List ℕ × List ℕ). q.0) p in
        let m : xs ≡ more = ap (λ (q : List ℕ × List ℕ). q.1) p in
        rw (← f, ← m) (record { both = ap (λ y. y ∷ xs) (is_end x h); plain = tt })
    by false None h on is = absurd (cc)
    by false (Some q) h on is =
        let p = ap (pair_or ([], [])) is in
        let f : x ∷ q.0 ≡ front = ap (λ (r : List ℕ × List ℕ). r.0) p in
        let m : q.1 ≡ more = ap (λ (r : List ℕ × List ℕ). r.1) p in
        let rest = on q.0 q.1 refl in
        rw (← f, ← m) (record { both = ap (λ ys. x ∷ ys) rest.both; plain = (h, rest.plain) })

pub cut_no_end : (xs : List ℕ) → cut_line xs ≡ None → HasNoEnd xs
cut_no_end [] e = tt
cut_no_end (x ∷ xs) e = by (is_line_end x) (cut_line xs) refl (cut_no_end xs) e
  where
    by : (b : Bool) (o : Option (List ℕ × List ℕ)) → is_line_end x ≡ b → (o ≡ None → HasNoEnd xs) →
        cond {A = Option (List ℕ × List ℕ)} b (Some ([], xs)) (option_map (λ (p : List ℕ × List ℕ). (x ∷ p.0, p.1)) o) ≡ None → HasNoEnd (x ∷ xs)
    by true o h on is = absurd (cc)
    by false None h on is = (h, on refl)
    by false (Some q) h on is = absurd (cc)

-- ---- a cut behind a line end
split_at : (bs : List ℕ) (i : ℕ) → i < length bs → is_line_end (get_or bs i 0) ≡ true → ((k : ℕ) → k < i → is_line_end (get_or bs k 0) ≡ false) →
    (take (suc i) bs ≡ take i bs ++ 10 ∷ []) × HasNoEnd (take i bs) × (bs ≡ take (suc i) bs ++ drop (suc i) bs)
split_at [] i lt t f = absurd (omega arith)
split_at (x ∷ xs) zero lt t f = (ap (λ y. y ∷ []) (is_end x t), tt, refl)
split_at (x ∷ xs) (suc i) lt t f =
    let r = split_at xs i (omega arith) t (λ k h. f (suc k) (omega arith)) in
    (ap (λ ys. x ∷ ys) r.0, (f 0 (omega arith), r.1), ap (λ ys. x ∷ ys) r.2)

pub split_both : (bs : List ℕ) (i : ℕ) → i < length bs → is_line_end (get_or bs i 0) ≡ true → ((k : ℕ) → k < i → is_line_end (get_or bs k 0) ≡ false) →
    bs ≡ take (i + 1) bs ++ take (length bs - (i + 1)) (drop (i + 1) bs)
split_both bs i lt t f = rw (take_rest, add-one) (split_at bs i lt t f).2

pub split_line : (bs : List ℕ) (i : ℕ) → i < length bs → is_line_end (get_or bs i 0) ≡ true → ((k : ℕ) → k < i → is_line_end (get_or bs k 0) ≡ false) → IsLine (take (i + 1) bs)
split_line bs i lt t f = let r = split_at bs i lt t f in rw add-one (inr (take i bs, r.1, r.0))

pub no_end : (bs : List ℕ) → ((k : ℕ) → k < length bs → is_line_end (get_or bs k 0) ≡ false) → HasNoEnd bs
no_end [] f = tt
no_end (x ∷ xs) f = (f 0 (omega arith), no_end xs (λ k h. f (suc k) (omega arith)))

-- ---- a line gives one item at most
quiet_byte : (r : Reader) (is : List ItemView) (x : ℕ) → is_line_end x ≡ false → (after_byte r is x).items ≡ is
quiet_byte (Reading s begun) is x e = by (is_line_end x) e
  where
    by : (b : Bool) → b ≡ false → (cond b (after_line s.line is (judged s 1 begun)) (record { reader = longer s begun x; items = is })).items ≡ is
    by true h = absurd (cc)
    by false h = refl
quiet_byte (Faulty n f) is x e = refl

pub quiet : (m : Machine) (xs : List ℕ) → HasNoEnd xs → (after m xs).items ≡ m.items
quiet m [] h = refl
quiet m (x ∷ xs) h = quiet (after_byte m.reader m.items x) xs h.1 ∙ quiet_byte m.reader m.items x h.0

-- none; or one, and then there is no fault
pub record HasOne (m : Machine) : Type 0 where
  pub item : ItemView
  pub is : m.items ≡ item ∷ []
  pub fine : line_stop m.reader ≡ None

abbrev pub HasFew : Machine → Type 0
HasFew m = (m.items ≡ []) ⊎ HasOne m

few_after : (n : ℕ) (r : Result (Spot × Option ItemView) JobKind) → HasFew (after_line n [] r)
few_after n (Ok x) = by x.1
  where
    by : (o : Option ItemView) → HasFew (record { reader = Reading x.0 []; items = with_item [] o })
    by None = inl refl
    by (Some i) = inr (record { item = i; is = refl; fine = refl })
few_after n (Err f) = inl refl

few_byte : (r : Reader) → HasFew (after_byte r [] 10)
few_byte (Reading s begun) = few_after s.line (judged s 1 begun)
few_byte (Faulty n f) = inl refl

pub few_line : (m : Machine) (xs : List ℕ) → m.items ≡ [] → IsLine xs → HasFew (after m xs)
few_line m xs e (inl h) = inl (quiet m xs h ∙ e)
few_line m xs e (inr h) =
    let none : (after m h.0).items ≡ [] = quiet m h.0 h.1 ∙ e in
    subst (λ ys. HasFew (after m ys)) (sym h.2)
    (subst HasFew (sym (after_both m h.0 (10 ∷ [])))
    (subst (λ is. HasFew (after_byte (after m h.0).reader is 10)) (sym none) (few_byte (after m h.0).reader)))

-- ---- and so does the end
abbrev pub HasFewItems : List ItemView → Type 0
HasFewItems is = (is ≡ []) ⊎ ((i : ItemView) × (is ≡ i ∷ []))

few_at_end : (n : ℕ) (r : Result (Spot × Option ItemView) JobKind) → HasFewItems (at_end n [] r).items
few_at_end n (Ok x) = by x.1
  where
    by : (o : Option ItemView) → HasFewItems (with_item [] o)
    by None = inl refl
    by (Some i) = inr (i, refl)
few_at_end n (Err f) = inl refl

pub few_end : (r : Reader) → HasFewItems (end_of r []).items
few_end (Reading s begun) = by (length begun == 0)
  where
    by : (b : Bool) → HasFewItems (cond b (record { reader = closed s.line s; items = [] }) (at_end s.line [] (judged s 0 begun))).items
    by true = inl refl
    by false = few_at_end s.line (judged s 0 begun)
few_end (Faulty n f) = inl refl
