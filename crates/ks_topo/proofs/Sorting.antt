-- Topics in order of their names.
use Rattle.std.proofs.Common.{◌≡◌, ℕ, suc, ◌+◌, ◌<◌, Bool, true, false, ◌||◌, cond, List, [], ◌∷◌, ◌++◌, length, drop, drop-cons, get_or, fold, refl, sym, ap, ap₂, ◌∙◌, append_assoc, if◌then◌else◌, arith}
use Rattle.std.specs.List.{insert}
use Rattle.std.specs.Ordering.{nat_cmp, is_lt}
use Rattle.std.specs.Cmp.Lexicographic.{slice_cmp}
use Rattle.ks_plan.specs.declared.draft.TopicDraft.{TopicDraft}
use Rattle.ks_plan.specs.Drafts.{Name, Topics}
use Rattle.ks_plan.specs.Plan.{with_topic, natural}
use Rattle.ks_plan.specs.Faults.{any_past, is_past}
use Rattle.ks_topo.specs.Built.{topic_place, naturals}

placed : (ys : Topics) (x : Name × TopicDraft) → insert ys (topic_place x.0 ys) x ≡ with_topic ys x
placed [] x = refl
placed (y ∷ ys) x = by (is_lt (slice_cmp nat_cmp x.0 y.0)) (placed ys x)
  where
    by : (b : Bool) → insert ys (topic_place x.0 ys) x ≡ with_topic ys x → insert (y ∷ ys) (if b then 0 else suc (topic_place x.0 ys)) x ≡ cond b (x ∷ y ∷ ys) (y ∷ with_topic ys x)
    by true e = refl
    by false e = ap (λ l. y ∷ l) e

pub placed_at : (name : Name) (count : TopicDraft) (ys : Topics) → insert ys (topic_place name ys) (name, count) ≡ with_topic ys (name, count)
placed_at name count ys = placed ys (name, count)

either : (a b c : Bool) → a || (b || c) ≡ b || (a || c)
either true true c = refl
either true false c = refl
either false true c = refl
either false false c = refl

past_with : (ys : Topics) (x : Name × TopicDraft) → any_past (with_topic ys x) ≡ is_past x.1.parts || any_past ys
past_with [] x = refl
past_with (y ∷ ys) x = by (is_lt (slice_cmp nat_cmp x.0 y.0)) (past_with ys x)
  where
    by : (b : Bool) → any_past (with_topic ys x) ≡ is_past x.1.parts || any_past ys → any_past (cond b (x ∷ y ∷ ys) (y ∷ with_topic ys x)) ≡ is_past x.1.parts || (is_past y.1.parts || any_past ys)
    by true e = refl
    by false e = ap (λ b. is_past y.1.parts || b) e ∙ either (is_past y.1.parts) (is_past x.1.parts) (any_past ys)

neither : (a b : Bool) → a || b ≡ false → (a ≡ false) × (b ≡ false)
neither true b e = cc
neither false b e = (refl, e)

past_onto : (ys ts : Topics) → any_past ys ≡ false → any_past ts ≡ false → any_past (fold with_topic ys ts) ≡ false
past_onto ys [] e f = e
past_onto ys (t ∷ ts) e f =
    let both = neither (is_past t.1.parts) (any_past ts) f in
    past_onto (with_topic ys t) ts (past_with ys t ∙ ap₂ (λ a b. a || b) both.0 e) both.1

pub past_sorted : (ts : Topics) → any_past ts ≡ false → any_past (fold with_topic [] ts) ≡ false
past_sorted ts e = past_onto [] ts refl e

pub past_all : (ts slice sorted passed : Topics) → slice ≡ ts → sorted ≡ fold with_topic [] slice → passed ≡ sorted → any_past ts ≡ false → any_past passed ≡ false
past_all ts slice sorted passed a b c e = ap any_past (c ∙ (b ∙ ap (fold with_topic []) a)) ∙ past_sorted ts e

-- ---- one topic after another
one_up : (i : ℕ) → i + 1 ≡ suc i
one_up i = omega arith

rest_is : (ts : Topics) (i : ℕ) (x : Name × TopicDraft) → i < length ts → x ≡ get_or ts i x → drop i ts ≡ x ∷ drop (i + 1) ts
rest_is ts i x h is = drop-cons ts i x h ∙ ap₂ (λ (y : Name × TopicDraft) (j : ℕ). y ∷ drop j ts) (sym is) (sym (one_up i))

-- neither this topic nor one after it has too many partitions
pub next_within : (ts : Topics) (i : ℕ) (x : Name × TopicDraft) → i < length ts → x ≡ get_or ts i x → any_past (drop i ts) ≡ false
    → (is_past x.1.parts ≡ false) × (any_past (drop (i + 1) ts) ≡ false)
next_within ts i x h is none = neither (is_past x.1.parts) (any_past (drop (i + 1) ts)) (sym (ap any_past (rest_is ts i x h is)) ∙ none)

-- one count more
pub counted_on : (ts : Topics) (i : ℕ) (x : Name × TopicDraft) (counts new : List ℕ) (n : ℕ) → i < length ts → x ≡ get_or ts i x → n ≡ natural x.1.parts → new ≡ counts ++ n ∷ []
    → counts ++ naturals (drop i ts) ≡ naturals ts → new ++ naturals (drop (i + 1) ts) ≡ naturals ts
counted_on ts i x counts new n h is count pushed so =
    ap (λ l. l ++ naturals (drop (i + 1) ts)) pushed
    ∙ (append_assoc counts (n ∷ []) (naturals (drop (i + 1) ts))
    ∙ (ap (λ m. counts ++ m ∷ naturals (drop (i + 1) ts)) count
    ∙ (ap (λ l. counts ++ l) (sym (ap naturals (rest_is ts i x h is))) ∙ so)))
