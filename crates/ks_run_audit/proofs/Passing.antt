-- Bytes that are taken line by line.
use Rattle.std.proofs.Common.{◌≡◌, ℕ, suc, ◌+◌, ◌<◌, ◌≤◌, List, [], ◌∷◌, ◌++◌, length, refl, sym, ap, subst, ◌∙◌, append_assoc, append-nil, arith, length-append}
use Rattle.ks_job_source.specs.Cutting.{HasNoEnd}
use Rattle.ks_audit_verdict.specs.Lines.{IsPlain, ended, lines_text, Leads}
use Rattle.ks_run_audit.specs.Passing.{Passing, Passes, Refuses}
use Rattle.ks_audit_verdict.proofs.Chains.{lines_both, lines_more, leads_both, leads_more, no_end_both, line_first}

module _ {P : Type 0} (takes : P → List ℕ → P → Type 0) where
  pub passing_begins : (p : P) (bytes begun : List ℕ) (before : ℕ) → IsPlain begun → Passing takes p p bytes bytes begun begun before before []
  passing_begins p bytes begun before plain = record { along = refl; counted = omega arith; cut = refl; plain = plain }

  pub passes_none : (p : P) (begun : List ℕ) (before : ℕ) → IsPlain begun → Passes takes p p [] begun begun before before []
  passes_none p begun before plain = record { along = refl; counted = omega arith; cut = refl; plain = plain }

  -- one line more
  pub passing_line : (p q r : P) (bytes rest front more begun now left : List ℕ) (before mid after : ℕ) (lines : List (List ℕ)) → Passing takes p q bytes rest begun now before mid lines → rest ≡ front ++ 10 ∷ more → IsPlain (now ++ front) → takes q (now ++ front) r → left ≡ [] → after ≡ mid + 1 →
      Passing takes p r bytes more begun left before after (lines ++ (now ++ front) ∷ [])
  passing_line p q r bytes rest front more begun now left before mid after lines h cut plain take none count = record {
    along = leads_more takes p q r lines (now ++ front) h.along plain take;
    counted = omega (arith, count, h.counted, length-append lines ((now ++ front) ∷ []));
    cut =
        h.cut ∙ ap (λ l. (lines_text lines ++ now) ++ l) cut
        ∙ append_assoc (lines_text lines) now (front ++ 10 ∷ more)
        ∙ ap (λ l. lines_text lines ++ l) (sym (append_assoc now front (10 ∷ more)) ∙ sym (line_first (now ++ front) more))
        ∙ sym (append_assoc (lines_text lines) (ended (now ++ front)) more)
        ∙ ap (λ l. l ++ more) (sym (lines_more lines (now ++ front)))
        ∙ ap (λ l. l ++ more) (sym (append-nil (lines_text (lines ++ (now ++ front) ∷ []))))
        ∙ ap (λ l. (lines_text (lines ++ (now ++ front) ∷ []) ++ l) ++ more) (sym none);
    plain = subst IsPlain (sym none) (tt, omega arith);
  }

  -- what is left has no end, and begins another
  pub passing_ends : (p q : P) (bytes rest begun now left : List ℕ) (before after : ℕ) (lines : List (List ℕ)) → Passing takes p q bytes rest begun now before after lines → left ≡ now ++ rest → IsPlain left → Passes takes p q bytes begun left before after lines
  passing_ends p q bytes rest begun now left before after lines h is plain = record {
    along = h.along;
    counted = h.counted;
    cut = h.cut ∙ append_assoc (lines_text lines) now rest ∙ ap (λ l. lines_text lines ++ l) (sym is) ∙ sym (append-nil (lines_text lines ++ left));
    plain = plain;
  }

  pub passes_on : (p q r : P) (one two begun mid left : List ℕ) (before middle after : ℕ) (first second : List (List ℕ)) → Passes takes p q one begun mid before middle first → Passes takes q r two mid left middle after second → Passes takes p r (one ++ two) begun left before after (first ++ second)
  passes_on p q r one two begun mid left before middle after first second h g = record {
    along = leads_both takes p q r first second h.along g.along;
    counted = omega (arith, h.counted, g.counted, length-append first second);
    cut =
        sym (append_assoc begun one two) ∙ ap (λ l. l ++ two) (h.cut ∙ append-nil (lines_text first ++ mid))
        ∙ append_assoc (lines_text first) mid two ∙ ap (λ l. lines_text first ++ l) (g.cut ∙ append-nil (lines_text second ++ left))
        ∙ sym (append_assoc (lines_text first) (lines_text second) left)
        ∙ ap (λ l. l ++ left) (sym (lines_both first second))
        ∙ sym (append-nil (lines_text (first ++ second) ++ left));
    plain = g.plain;
  }

  -- how many bytes stand behind its lines
  pub passed : (p q : P) (bytes begun left : List ℕ) (before after : ℕ) (lines : List (List ℕ)) (h : Passes takes p q bytes begun left before after lines) → length begun + length bytes ≡ length (lines_text lines) + length left
  passed p q bytes begun left before after lines h =
      omega (arith, ap (λ (l : List ℕ). length l) (h.cut ∙ append-nil (lines_text lines ++ left)), length-append begun bytes, length-append (lines_text lines) left)

  module _ (why : ℕ → P → List ℕ → Type 0) where
    -- the line that ends here is refused; or what is left, with what had begun
    pub refuses_here : (p q : P) (at : ℕ) (bytes rest begun now : List ℕ) (before after : ℕ) (lines : List (List ℕ)) (h : Passing takes p q bytes rest begun now before after lines) → ((k : ℕ) → k + length now + length rest ≡ at + length begun + length bytes → why k q (now ++ rest)) →
        Refuses takes why p at bytes begun before after
    refuses_here p q at bytes rest begun now before after lines h is = record {
      lines = lines;
      here = q;
      along = h.along;
      counted = h.counted;
      rest = now ++ rest;
      cut = h.cut ∙ append_assoc (lines_text lines) now rest;
      is = is (at + length (lines_text lines)) (omega (arith, ap (λ (l : List ℕ). length l) h.cut, length-append begun bytes, length-append (lines_text lines ++ now) rest, length-append (lines_text lines) now));
    }

    pub refuses_on : (p q : P) (at now : ℕ) (one two begun mid : List ℕ) (before middle after : ℕ) (lines : List (List ℕ)) → Passes takes p q one begun mid before middle lines → now + length mid ≡ at + length begun + length one → Refuses takes why q now two mid middle after →
        Refuses takes why p at (one ++ two) begun before after
    refuses_on p q at now one two begun mid before middle after lines h count g =
        let size : now ≡ at + length (lines_text lines) = omega (arith, count, passed p q one begun mid before middle lines h) in
        let all : now + length (lines_text g.lines) ≡ at + length (lines_text (lines ++ g.lines)) =
        omega (arith, size, ap (λ (l : List ℕ). length l) (lines_both lines g.lines), length-append (lines_text lines) (lines_text g.lines)) in
        record {
          lines = lines ++ g.lines;
          here = g.here;
          along = leads_both takes p q g.here lines g.lines h.along g.along;
          counted = omega (arith, h.counted, g.counted, length-append lines g.lines);
          rest = g.rest;
          cut =
              sym (append_assoc begun one two) ∙ ap (λ l. l ++ two) (h.cut ∙ append-nil (lines_text lines ++ mid))
              ∙ append_assoc (lines_text lines) mid two ∙ ap (λ l. lines_text lines ++ l) g.cut
              ∙ sym (append_assoc (lines_text lines) (lines_text g.lines) g.rest)
              ∙ ap (λ l. l ++ g.rest) (sym (lines_both lines g.lines));
          is = subst (λ k. why k g.here g.rest) all g.is;
        }

    -- with more bytes behind them
    pub refuses_more : (p : P) (at : ℕ) (bytes more begun : List ℕ) (before after : ℕ) → ((k : ℕ) (q : P) (rest : List ℕ) → why k q rest → why k q (rest ++ more)) → Refuses takes why p at bytes begun before after → Refuses takes why p at (bytes ++ more) begun before after
    refuses_more p at bytes more begun before after grows g = record {
      lines = g.lines;
      here = g.here;
      along = g.along;
      counted = g.counted;
      rest = g.rest ++ more;
      cut = sym (append_assoc begun bytes more) ∙ ap (λ l. l ++ more) g.cut ∙ append_assoc (lines_text g.lines) g.rest more;
      is = grows (at + length (lines_text g.lines)) g.here g.rest g.is;
    }
