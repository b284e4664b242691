-- Members that are taken from a plain row, each put at its place.
use Rattle.std.proofs.Common.{◌≡◌, ℕ, suc, ◌+◌, ◌≤◌, List, [], ◌∷◌, ◌++◌, length, insert, Some, None, Ordering, Less, Equal, Greater, refl, sym, ap, ◌∙◌, arith, append_assoc, Bool, true, false, cond, pos, ◌==◌, nat_le}
use Rattle.std.specs.Prelude.{is_some}
use Rattle.std.specs.Str.{is_utf8}
use Rattle.ks_record.specs.Texts.{name_from}
use Rattle.ks_row.specs.declared.row.Field.{Field}
use Rattle.ks_row.specs.declared.row.Field.TheVariants.{Int}
use Rattle.std.specs.Ordering.{nat_cmp, match_ordering}
use Rattle.std.specs.Cmp.Lexicographic.{slice_cmp}
use Rattle.std.specs.List.{AllByRecursion}
use Rattle.std.proofs.lemmas.List.Concat.{flat_map-append}
use Rattle.ks_row.specs.Rows.{Member}
use Rattle.ks_job_record.specs.Plain.{member_text, members_text, IsMember}
use Rattle.ks_job_record.specs.PlainRows.{IsMadeField, place_among, with_field, with_fields, IsPut, IsWhole, TakesMember, TakesMembers, ClosesRow}

-- ---- the place of a member
record IsPlaced (i : ℕ) (m : Member) (ms : List Member) (place : ℕ) (all : List Member) : Type 0 where
  k : ℕ
  is : place ≡ i + k
  within : k ≤ length ms
  all_is : all ≡ insert ms k m

some_is : {A : Type 0} (a b : A) → Some a ≡ Some b → b ≡ a
some_is a b e = cc

placed_at : (o : Ordering) (i : ℕ) (m n : Member) (ns : List Member) (place : ℕ) → (place_among (i + 1) m.0 ns ≡ Some place → IsPlaced (i + 1) m ns place (with_field m ns)) →
    match_ordering o (Some i) None (place_among (i + 1) m.0 ns) ≡ Some place → IsPlaced i m (n ∷ ns) place (match_ordering o (m ∷ n ∷ ns) ((n.0, m.1) ∷ ns) (n ∷ with_field m ns))
placed_at Less i m n ns place h e = record { k = 0; is = some_is i place e ∙ omega arith; within = omega arith; all_is = refl }
placed_at Equal i m n ns place h e = absurd (cc)
placed_at Greater i m n ns place h e =
    let p = h e in
    let is = p.is in
    let within = p.within in
    record { k = suc p.k; is = omega arith; within = omega arith; all_is = ap (λ l. n ∷ l) p.all_is }

placed : (i : ℕ) (m : Member) (ms : List Member) (place : ℕ) → place_among i m.0 ms ≡ Some place → IsPlaced i m ms place (with_field m ms)
placed i m [] place e = record { k = 0; is = some_is i place e ∙ omega arith; within = omega arith; all_is = refl }
placed i m (n ∷ ns) place e = placed_at (slice_cmp nat_cmp m.0 n.0) i m n ns place (λ h. placed (i + 1) m ns place h) e

pub place_within : (name : List ℕ) (ms : List Member) (place : ℕ) → Some place ≡ place_among 0 name ms → place ≤ length ms
place_within name ms place e =
    let p = placed 0 (name, Int (pos 0)) ms place (sym e) in
    let is = p.is in
    let within = p.within in
    omega arith

put_is : (m : Member) (old new : List Member) (place : ℕ) → Some place ≡ place_among 0 m.0 old → new ≡ insert old place m → new ≡ with_field m old
put_is m old new place e h =
    let p = placed 0 m old place (sym e) in
    let is : place ≡ p.k = p.is ∙ omega arith in
    h ∙ ap (λ i. insert old i m) is ∙ sym p.all_is

named : (b c d : Bool) (s : List ℕ) → is_some (cond b (cond c None (cond d (Some s) None)) None) ≡ true → cond c None (cond d (Some s) None) ≡ Some s
named true true d s e = absurd cc
named true false true s e = refl
named true false false s e = absurd cc
named false c d s e = absurd cc

pub put_whole : (name : List ℕ) (field made : Field) (old new : List Member) (place : ℕ) → is_some (name_from name) ≡ true → IsMadeField field made → Some place ≡ place_among 0 name old → new ≡ insert old place (name, made) → IsPut (name, field) old new
put_whole name field made old new place known m e h =
    record {
      fit = record { name = named (is_utf8 name) (length name == 0) (nat_le (length name) 64) name known; field = m.fit };
      put = put_is (name, made) old new place e h ∙ ap (λ (f : Field). with_field (name, f) old) m.same;
    }

-- ---- members one after another
pub takes : (old : List Member) (bytes : List ℕ) (m : Member) (new : List Member) (rest : List ℕ) → IsMember bytes m rest → IsPut m old new → TakesMember old bytes new rest
takes old bytes m new rest h p = record { one = m; text = h.spelled; whole = record { fit = p.fit; name = h.name; field = h.field }; put = p.put }

pub none_taken : (fields : List Member) (bytes : List ℕ) → TakesMembers fields bytes fields bytes
none_taken fields bytes = record { ones = []; text = refl; whole = tt; put = refl }

pub whole_both : (ms : List Member) (m : Member) → AllByRecursion IsWhole ms → IsWhole m → AllByRecursion IsWhole (ms ++ m ∷ [])
whole_both [] m h w = (w, tt)
whole_both (n ∷ ns) m h w = (h.0, whole_both ns m h.1 w)

pub one_more_put : (found ms : List Member) (m : Member) → with_field m (with_fields found ms) ≡ with_fields found (ms ++ m ∷ [])
one_more_put found [] m = refl
one_more_put found (n ∷ ns) m = one_more_put (with_field n found) ns m

one_more_text : (ms : List Member) (m : Member) (rest : List ℕ) → members_text ms ++ (member_text m ++ 44 ∷ rest) ≡ members_text (ms ++ m ∷ []) ++ rest
one_more_text ms m rest =
    let one : member_text m ++ 44 ∷ rest ≡ members_text (m ∷ []) ++ rest = simp append_assoc in
    ap (λ l. members_text ms ++ l) one ∙ sym (append_assoc (members_text ms) (members_text (m ∷ [])) rest) ∙ ap (λ l. l ++ rest) (sym (flat_map-append (λ (n : Member). member_text n ++ 44 ∷ []) ms (m ∷ [])))

pub one_more_taken : (old : List Member) (bytes : List ℕ) (mid : List Member) (left : List ℕ) (new : List Member) (more rest : List ℕ) → TakesMembers old bytes mid left → TakesMember mid left new more → more ≡ 44 ∷ rest → TakesMembers old bytes new rest
one_more_taken old bytes mid left new more rest h o e =
    record {
      ones = h.ones ++ o.one ∷ [];
      text = h.text ∙ ap (λ l. members_text h.ones ++ l) (o.text ∙ ap (λ l. member_text o.one ++ l) e) ∙ one_more_text h.ones o.one rest;
      whole = whole_both h.ones o.one h.whole o.whole;
      put = o.put ∙ ap (λ l. with_field o.one l) h.put ∙ one_more_put old h.ones o.one;
    }

pub last_taken : (old : List Member) (bytes : List ℕ) (mid : List Member) (left : List ℕ) (new : List Member) (more rest : List ℕ) → TakesMembers old bytes mid left → TakesMember mid left new more → more ≡ 125 ∷ rest → ClosesRow old bytes new rest
last_taken old bytes mid left new more rest h o e =
    record {
      ones = h.ones;
      last = o.one;
      text = h.text ∙ ap (λ l. members_text h.ones ++ l) (o.text ∙ ap (λ l. member_text o.one ++ l) e);
      whole = h.whole;
      whole_last = o.whole;
      put = o.put ∙ ap (λ l. with_field o.one l) h.put;
    }
