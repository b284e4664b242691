-- Lines, one after another.
use Rattle.std.proofs.Common.{◌≡◌, ℕ, ◌≤◌, List, [], ◌∷◌, ◌++◌, length, true, false, refl, sym, ap, ap₂, subst, ◌∙◌, append_assoc, append-nil, arith}
use Rattle.std.proofs.lemmas.Grind.{flat_map-append}
use Rattle.ks_job.specs.Reader.{is_line_end}
use Rattle.ks_job_source.specs.Cutting.{HasNoEnd}
use Rattle.ks_audit_verdict.specs.Lines.{IsPlain, ended, lines_text, ArePlain, Leads}

-- ---- lines joined
pub lines_both : (xs ys : List (List ℕ)) → lines_text (xs ++ ys) ≡ lines_text xs ++ lines_text ys
lines_both xs ys = flat_map-append ended xs ys

pub lines_more : (xs : List (List ℕ)) (line : List ℕ) → lines_text (xs ++ line ∷ []) ≡ lines_text xs ++ ended line
lines_more xs line = lines_both xs (line ∷ []) ∙ ap (λ l. lines_text xs ++ l) (append-nil (ended line))

pub no_end_both : (a b : List ℕ) → HasNoEnd a → HasNoEnd b → HasNoEnd (a ++ b)
no_end_both [] b h g = g
no_end_both (x ∷ a) b h g = (h.0, no_end_both a b h.1 g)

pub leads_both : {P : Type 0} (takes : P → List ℕ → P → Type 0) (p q r : P) (xs ys : List (List ℕ)) → Leads takes p xs q → Leads takes q ys r → Leads takes p (xs ++ ys) r
leads_both {P} takes p q r [] ys h g = subst (λ (x : P). Leads takes x ys r) h g
leads_both takes p q r (x ∷ xs) ys h g = (h.0, (h.1.0, h.1.1, leads_both takes h.1.0 q r xs ys h.1.2 g))

pub leads_more : {P : Type 0} (takes : P → List ℕ → P → Type 0) (p q r : P) (xs : List (List ℕ)) (line : List ℕ) → Leads takes p xs q → IsPlain line → takes q line r → Leads takes p (xs ++ line ∷ []) r
leads_more takes p q r xs line h plain t = leads_both takes p q r xs (line ∷ []) h (plain, (r, t, refl))

pub leads_plain : {P : Type 0} (takes : P → List ℕ → P → Type 0) (p q : P) (xs : List (List ℕ)) → Leads takes p xs q → ArePlain xs
leads_plain takes p q [] h = tt
leads_plain takes p q (x ∷ xs) h = (h.0, leads_plain takes h.1.0 q xs h.1.2)

pub plain_both : (xs ys : List (List ℕ)) → ArePlain xs → ArePlain ys → ArePlain (xs ++ ys)
plain_both [] ys h g = g
plain_both (x ∷ xs) ys h g = (h.0, plain_both xs ys h.1 g)

-- ---- a line is cut at its end alone
abbrev head_of : List ℕ → ℕ
head_of [] = 0
head_of (x ∷ xs) = x

abbrev tail_of : List ℕ → List ℕ
tail_of [] = []
tail_of (x ∷ xs) = xs

is_end_or : (x : ℕ) → is_line_end x ≡ false → x ≡ 10 → ⊥
is_end_or x h e = absurd (let f : true ≡ false = ap is_line_end (sym e) ∙ h in cc)

pub record SameCut (a b more rest : List ℕ) : Type 0 where
  pub line : a ≡ b
  pub left : more ≡ rest

pub same_cut : (a b more rest : List ℕ) → HasNoEnd a → HasNoEnd b → a ++ 10 ∷ more ≡ b ++ 10 ∷ rest → SameCut a b more rest
same_cut [] [] more rest h g e = record { line = refl; left = ap tail_of e }
same_cut [] (y ∷ b) more rest h g e = absurd (is_end_or y g.0 (sym (ap head_of e)))
same_cut (x ∷ a) [] more rest h g e = absurd (is_end_or x h.0 (ap head_of e))
same_cut (x ∷ a) (y ∷ b) more rest h g e =
    let s = same_cut a b more rest h.1 g.1 (ap tail_of e) in
    record { line = ap₂ (λ z zs. z ∷ zs) (ap head_of e) s.line; left = s.left }

-- bytes without an end, before which none stands
pub no_longer : (a b more rest : List ℕ) → HasNoEnd a → HasNoEnd b → a ++ more ≡ b ++ 10 ∷ rest → length a ≤ length b
no_longer [] b more rest h g e = omega arith
no_longer (x ∷ a) [] more rest h g e = absurd (is_end_or x h.0 (ap head_of e))
no_longer (x ∷ a) (y ∷ b) more rest h g e = let l = no_longer a b more rest h.1 g.1 (ap tail_of e) in omega arith

pub no_end_within : (a b rest : List ℕ) → HasNoEnd a → a ≡ b ++ 10 ∷ rest → ⊥
no_end_within [] [] rest h e = cc
no_end_within [] (y ∷ b) rest h e = cc
no_end_within (x ∷ a) [] rest h e = is_end_or x h.0 (ap head_of e)
no_end_within (x ∷ a) (y ∷ b) rest h e = no_end_within a b rest h.1 (ap tail_of e)

pub line_first : (line more : List ℕ) → ended line ++ more ≡ line ++ 10 ∷ more
line_first line more = append_assoc line (10 ∷ []) more

-- what stands behind some first lines of plain lines is plain lines
pub record IsBehind (all lines : List (List ℕ)) (rest : List ℕ) : Type 0 where
  pub more : List (List ℕ)
  pub both : all ≡ lines ++ more
  pub rest_is : rest ≡ lines_text more

not_nil : (x : ℕ) (a b : List ℕ) → a ++ x ∷ b ≡ [] → ⊥
not_nil x [] b e = cc
not_nil x (y ∷ a) b e = cc

pub behind : (all lines : List (List ℕ)) (rest : List ℕ) → ArePlain all → ArePlain lines → lines_text all ≡ lines_text lines ++ rest → IsBehind all lines rest
behind all [] rest h g e = record { more = all; both = refl; rest_is = sym e }
behind [] (y ∷ lines) rest h g e = absurd (not_nil 10 y (lines_text lines ++ rest) (sym (e ∙ append_assoc (ended y) (lines_text lines) rest ∙ line_first y (lines_text lines ++ rest))))
behind (x ∷ all) (y ∷ lines) rest h g e =
    let s = same_cut x y (lines_text all) (lines_text lines ++ rest) h.0.0 g.0.0 (sym (line_first x (lines_text all)) ∙ e ∙ append_assoc (ended y) (lines_text lines) rest ∙ line_first y (lines_text lines ++ rest)) in
    let b = behind all lines rest h.1 g.1 s.left in
    record { more = b.more; both = ap₂ (λ z zs. z ∷ zs) s.line b.both; rest_is = b.rest_is }
