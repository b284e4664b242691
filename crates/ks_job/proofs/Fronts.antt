-- What has been pushed is the front of what a piece, or the end of the input, pushes.
use Rattle.std.proofs.Common.{◌≡◌, ℕ, List, [], ◌∷◌, ◌++◌, length, refl, ap, sym, ◌∙◌, Bool, true, false, cond, append_assoc, append-nil}
use Rattle.std.specs.Prelude.{Option, Some, option_map, Result, Ok, Err, ◌==◌}
use Rattle.ks_job_record.specs.declared.fault.JobKind.{JobKind}
use Rattle.ks_job.specs.declared.judge.JobItem.{JobItem}
use Rattle.ks_job.specs.Items.{ItemView, item_view, item_views, PushesFront}
use Rattle.ks_job.specs.Lines.{Spot, judged}
use Rattle.ks_job.specs.Reader.{Reader, Reading, Faulty, Machine, after, closed, at_end, end_of}
use Rattle.ks_job.proofs.Cuts.{with_reader, after_both, seen_push}
use Rattle.ks_job.proofs.Joined.{behind, item_behind, after_behind}

abbrev pub items_of : Machine → List ItemView
items_of m = m.items

abbrev pub read_as : Spot × Option ItemView → Result (Spot × Option ItemView) JobKind
read_as x = Ok x

-- ---- a piece

-- what a piece pushes stands behind what was there
after_front : (r : Reader) (items : List ItemView) (xs : List ℕ) → (after (with_reader items r) xs).items ≡ items ++ (after (with_reader [] r) xs).items
after_front r items xs = ap (λ (is : List ItemView). (after (with_reader is r) xs).items) (sym (append-nil items)) ∙ ap items_of (after_behind items (with_reader [] r) xs)

-- what is left of a piece pushes the rest
pub fed_front : (r : Reader) (old now pushed : List JobItem) (xs : List ℕ) (whole : Machine) → now ≡ old ++ pushed → after (with_reader (item_views now) r) xs ≡ whole → PushesFront old now whole.items
fed_front r old now pushed xs whole k w = record {
  pushed = pushed;
  left = (after (with_reader [] r) xs).items;
  kept = k;
  front = sym (ap items_of w) ∙ after_front r (item_views now) xs;
}

-- a call that failed left the items as they were
pub same_front : (old now new : List JobItem) (whole : List ItemView) → new ≡ now → PushesFront old now whole → PushesFront old new whole
same_front old now new whole e p = rw e p

-- of a piece nothing was pushed
pub no_front : (r : Reader) (items : List JobItem) (xs : List ℕ) → PushesFront items items (after (with_reader (item_views items) r) xs).items
no_front r items xs = fed_front r items items [] xs _ (sym (append-nil items)) refl

pub pushed_more : (old now new pushed more : List JobItem) → now ≡ old ++ pushed → new ≡ now ++ more → new ≡ old ++ (pushed ++ more)
pushed_more old now new pushed more k e = e ∙ (ap (λ (is : List JobItem). is ++ more) k ∙ append_assoc old pushed more)

-- a longer piece pushes more
pub longer_front : (old now : List JobItem) (m : Machine) (whole xs ys : List ℕ) → whole ≡ xs ++ ys → PushesFront old now (after m xs).items → PushesFront old now (after m whole).items
longer_front old now m whole xs ys e p =
    let more = (after (with_reader [] (after m xs).reader) ys).items in
    let both : (after m whole).items ≡ (after (after m xs) ys).items = ap (λ (l : List ℕ). (after m l).items) e ∙ ap items_of (after_both m xs ys) in
    let behind_first : (after (after m xs) ys).items ≡ (item_views now ++ p.left) ++ more = after_front (after m xs).reader (after m xs).items ys ∙ ap (λ (is : List ItemView). is ++ more) p.front in
    record {
      pushed = p.pushed;
      left = p.left ++ more;
      kept = p.kept;
      front = both ∙ (behind_first ∙ append_assoc (item_views now) p.left more);
    }

-- items that were read apart, put behind those before them
pub joined_front : (r : Reader) (old now more new : List JobItem) (first : List ItemView) (whole : Machine) → PushesFront old now first → new ≡ now ++ more → with_reader (item_views new) r ≡ whole → PushesFront old new whole.items
joined_front r old now more new first whole p e w =
    fed_front r old new (p.pushed ++ more) [] whole (pushed_more old now new p.pushed more p.kept e) w

-- ---- the end of the input

closing_behind : (n : ℕ) (before items : List ItemView) (r : Result (Spot × Option ItemView) JobKind) → at_end n (before ++ items) r ≡ behind before (at_end n items r)
closing_behind n before items (Ok x) = ap (λ (is : List ItemView). with_reader is (closed n x.0)) (item_behind before items x.1)
closing_behind n before items (Err f) = refl

end_at : (b : Bool) (s : Spot) (before items : List ItemView) (r : Result (Spot × Option ItemView) JobKind) →
    cond b (with_reader (before ++ items) (closed s.line s)) (at_end s.line (before ++ items) r) ≡ behind before (cond b (with_reader items (closed s.line s)) (at_end s.line items r))
end_at true s before items r = refl
end_at false s before items r = closing_behind s.line before items r

end_behind : (r : Reader) (before items : List ItemView) → end_of r (before ++ items) ≡ behind before (end_of r items)
end_behind (Reading s begun) before items = end_at (length begun == 0) s before items (judged s 0 begun)
end_behind (Faulty n f) before items = refl

-- nothing was pushed
pub end_front : (r : Reader) (old now : List JobItem) → now ≡ old → PushesFront old now (end_of r (item_views old)).items
end_front r old now e = record {
  pushed = [];
  left = (end_of r []).items;
  kept = e ∙ sym (append-nil old);
  front = ap (λ (is : List ItemView). (end_of r is).items) (sym (append-nil (item_views old))) ∙ (ap items_of (end_behind r (item_views old) []) ∙ ap (λ (is : List JobItem). item_views is ++ (end_of r []).items) (sym e));
}

-- the item of the last line was pushed
pub end_item : (r : Reader) (s : Spot) (begun : List ℕ) (old now : List JobItem) (x : Spot) (o : Option JobItem) (i : JobItem) →
    r ≡ Reading s begun → (length begun == 0) ≡ false → judged s 0 begun ≡ Ok (x, option_map item_view o) → o ≡ Some i → now ≡ old ++ i ∷ [] →
    PushesFront old now (end_of r (item_views old)).items
end_item r s begun old now x o i g b j h n =
    let judged_some : judged s 0 begun ≡ Ok (x, Some (item_view i)) = j ∙ ap (λ (p : Option JobItem). read_as (x, option_map item_view p)) h in
    let all : (end_of r (item_views old)).items ≡ item_views old ++ item_view i ∷ [] =
    ap (λ (q : Reader). (end_of q (item_views old)).items) g
    ∙ ap (λ (t : Bool). (cond t (with_reader (item_views old) (closed s.line s)) (at_end s.line (item_views old) (judged s 0 begun))).items) b
    ∙ ap (λ (q : Result (Spot × Option ItemView) JobKind). (at_end s.line (item_views old) q).items) judged_some in
    record { pushed = i ∷ []; left = []; kept = n; front = all ∙ (sym (seen_push old now i n) ∙ sym (append-nil (item_views now))) }
