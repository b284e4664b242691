-- The members of a reading stand in order of bytes.
use Rattle.std.proofs.Common.{◌≡◌, ℕ, List, [], ◌∷◌, Option, Some, None, option_map, option_and_then, Ordering, Less, Equal, Greater, refl, subst, ap, ◌∙◌, Bool, true, false, ◌&&◌, cond}
use Rattle.std.specs.Prelude.{Err}
use Rattle.std.specs.Ordering.{nat_cmp, match_ordering, ordering_reverse, is_lt}
use Rattle.std.specs.Cmp.Lexicographic.{slice_cmp}
use Rattle.std.proofs.lemmas.Cmp.{nat_list_cmp_total}
use Rattle.json.specs.Lex.{tokens}
use Rattle.json.specs.Json as json
use Rattle.serde_json.specs.Data.{Data, number, array, object, Members, no_members, member, put, item}
use Rattle.serde_json.specs.Read.{number_of, of_json, of_items, of_members, max_depth, read}
use Rattle.ks_row.specs.Rows.{rises}
use Rattle.ks_job_record.specs.declared.fault.JobKind.TheVariants.{BadShape}
use Rattle.ks_job_record.specs.declared.members.Form.{Form}
use Rattle.ks_job_record.specs.Members.{is_member, all_known}
use Rattle.ks_job_record.specs.Ordered.{IsBefore, Starts, IsOrdered, ItemsOrdered, MembersOrdered, unknown_names, first_named}

-- ---- putting a member in keeps the order

turned : (k l : List ℕ) → slice_cmp nat_cmp k l ≡ Greater → IsBefore l k
turned k l h = ap is_lt (nat_list_cmp_total.antisymm l k ∙ ap ordering_reverse h)

less : (o : Ordering) → is_lt o ≡ true → o ≡ Less
less Less h = refl
less Equal h = absurd (cc)
less Greater h = absurd (cc)

starts_put_at : (o : Ordering) (l k m : List ℕ) (d e : Data) (ms : Members) → IsBefore l k → IsBefore l m → Starts l (match_ordering o (member k d (member m e ms)) (member m d ms) (member m e (put k d ms)))
starts_put_at Less l k m d e ms h s = h
starts_put_at Equal l k m d e ms h s = s
starts_put_at Greater l k m d e ms h s = s

starts_put : (l k : List ℕ) (d : Data) (ms : Members) → IsBefore l k → Starts l ms → Starts l (put k d ms)
starts_put l k d no_members h s = h
starts_put l k d (member m e ms) h s = starts_put_at (slice_cmp nat_cmp k m) l k m d e ms h s

ordered_put_at : (o : Ordering) (k l : List ℕ) (d e : Data) (ms : Members) → slice_cmp nat_cmp k l ≡ o → IsOrdered d → Starts l ms → IsOrdered e → MembersOrdered ms → MembersOrdered (put k d ms) →
    MembersOrdered (match_ordering o (member k d (member l e ms)) (member l d ms) (member l e (put k d ms)))
ordered_put_at Less k l d e ms h x s y r p = (ap is_lt h, x, (s, y, r))
ordered_put_at Equal k l d e ms h x s y r p = (s, x, r)
ordered_put_at Greater k l d e ms h x s y r p = (starts_put l k d ms (turned k l h) s, y, p)

ordered_put : (k : List ℕ) (d : Data) (ms : Members) → IsOrdered d → MembersOrdered ms → MembersOrdered (put k d ms)
ordered_put k d no_members x r = (tt, x, tt)
ordered_put k d (member l e ms) x r = ordered_put_at (slice_cmp nat_cmp k l) k l d e ms refl x r.0 r.1 r.2 (ordered_put k d ms x r.2)

-- ---- what is read is ordered

abbrev pub Holds : {A : Type 0} → (A → Type 0) → Option A → Type 0
Holds P None = Unit {0}
Holds P (Some a) = P a

holds_map : {A B : Type 0} (P : A → Type 0) (Q : B → Type 0) (h : A → B) → ((a : A) → P a → Q (h a)) → (o : Option A) → Holds P o → Holds Q (option_map h o)
holds_map P Q h k None x = tt
holds_map P Q h k (Some a) x = k a x

holds_and_then : {A B : Type 0} (P : A → Type 0) (Q : B → Type 0) (h : A → Option B) → ((a : A) → P a → Holds Q (h a)) → (o : Option A) → Holds P o → Holds Q (option_and_then h o)
holds_and_then P Q h k None x = tt
holds_and_then P Q h k (Some a) x = k a x

any : {A : Type 0} (o : Option A) → Holds (λ a. Unit {0}) o
any None = tt
any (Some a) = tt

mutual
  ordered_json : (j : json.Json) → Holds IsOrdered (of_json j)
  ordered_json json.null = tt
  ordered_json (json.boolean b) = tt
  ordered_json (json.number s) = holds_map (λ a. Unit {0}) IsOrdered number (λ a x. tt) (number_of s) (any (number_of s))
  ordered_json (json.string s) = tt
  ordered_json (json.array js) = holds_map ItemsOrdered IsOrdered array (λ a x. x) _ (ordered_items js)
  ordered_json (json.object ms) = holds_map MembersOrdered IsOrdered object (λ a x. x) _ (ordered_members ms no_members tt)

  ordered_items : (js : json.Items) → Holds ItemsOrdered (of_items js)
  ordered_items json.no_items = tt
  ordered_items (json.item j js) = holds_and_then IsOrdered ItemsOrdered _ (λ d x. holds_map ItemsOrdered ItemsOrdered (item d) (λ ds y. (x, y)) _ (ordered_items js)) _ (ordered_json j)

  ordered_members : (ms : json.Members) (found : Members) → MembersOrdered found → Holds MembersOrdered (of_members ms found)
  ordered_members json.no_members found k = k
  ordered_members (json.member name j ms) found k = holds_and_then IsOrdered MembersOrdered _ (λ d x. ordered_members ms (put name d found) (ordered_put name d found x k)) _ (ordered_json j)

abbrev pub first_value : List ℕ → Option json.Json
first_value text = option_and_then (λ p. json.if_last p.0 p.1) (json.value max_depth (tokens text))

pub ordered_read : (text : List ℕ) (d : Data) → read text ≡ Some d → IsOrdered d
ordered_read text d e = subst (Holds IsOrdered) e (holds_and_then (λ j. Unit {0}) IsOrdered of_json (λ j x. ordered_json j) (first_value text) (any (first_value text)))

-- ---- the unknown members rise

abbrev pub First : List ℕ → List (List ℕ) → Type 0
First k [] = Unit {0}
First k (l ∷ ls) = IsBefore k l

starts_on : (k l : List ℕ) (ms : Members) → IsBefore k l → Starts l ms → Starts k ms
starts_on k l no_members h s = tt
starts_on k l (member m d ms) h s = ap is_lt (nat_list_cmp_total.trans k l m (less _ h) (less _ s))

first_at : (b : Bool) (k l : List ℕ) (ns : List (List ℕ)) → IsBefore k l → First k ns → First k (cond b ns (l ∷ ns))
first_at true k l ns h f = f
first_at false k l ns h f = h

first_unknown : (form : Form) (k : List ℕ) (ms : Members) → Starts k ms → MembersOrdered ms → First k (unknown_names form ms)
first_unknown form k no_members s o = tt
first_unknown form k (member l d ms) s o = first_at (is_member form l) k l (unknown_names form ms) s (first_unknown form k ms (starts_on k l ms s o.0) o.2)

both : (a b : Bool) → a ≡ true → b ≡ true → a && b ≡ true
both a b e f = rw (e, f) refl

rises_onto : (k : List ℕ) (ns : List (List ℕ)) → First k ns → rises ns ≡ true → rises (k ∷ ns) ≡ true
rises_onto k [] f r = refl
rises_onto k (l ∷ ns) f r = both (is_lt (slice_cmp nat_cmp k l)) (rises (l ∷ ns)) f r

rises_at : (b : Bool) (k : List ℕ) (ns : List (List ℕ)) → First k ns → rises ns ≡ true → rises (cond b ns (k ∷ ns)) ≡ true
rises_at true k ns f r = r
rises_at false k ns f r = rises_onto k ns f r

pub unknown_rise : (form : Form) (ms : Members) → MembersOrdered ms → rises (unknown_names form ms) ≡ true
unknown_rise form no_members o = refl
unknown_rise form (member k d ms) o = rises_at (is_member form k) k (unknown_names form ms) (first_unknown form k ms o.0 o.2) (unknown_rise form ms o.2)

named_at : (b : Bool) (form : Form) (k : List ℕ) (ms : Members) → all_known form ms ≡ first_named (unknown_names form ms) →
    cond b (all_known form ms) (Err (BadShape k)) ≡ first_named (cond b (unknown_names form ms) (k ∷ unknown_names form ms))
named_at true form k ms e = e
named_at false form k ms e = refl

pub first_is_named : (form : Form) (ms : Members) → all_known form ms ≡ first_named (unknown_names form ms)
first_is_named form no_members = refl
first_is_named form (member k d ms) = named_at (is_member form k) form k ms (first_is_named form ms)
