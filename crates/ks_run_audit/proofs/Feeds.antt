-- Bytes, cut into lines that are judged.
use Rattle.std.proofs.Common.{◌≡◌, inl, inr, ℕ, suc, ◌+◌, ◌<◌, ◌≤◌, List, [], ◌∷◌, ◌++◌, length, take, drop, refl, sym, ap, subst, ◌∙◌, append_assoc, append-nil, arith, length-append}
use Rattle.ks_plan.specs.Drafts.{DraftView}
use Rattle.ks_def_tasks.specs.Messages.{Rules}
use Rattle.ks_def_tasks.specs.Rules.{rules_of}
use Rattle.ks_audit_verdict.specs.declared.fault.OutputFault.{OutputFault}
use Rattle.ks_audit_verdict.specs.declared.fault.OutputFault.TheVariants.{TooLong}
use Rattle.ks_job_source.specs.Cutting.{HasNoEnd}
use Rattle.ks_audit_verdict.specs.Lines.{IsPlain, ended, lines_text}
use Rattle.ks_audit_verdict.specs.Places.{Place, TakesAt, RefusesAt}
use Rattle.ks_audit_verdict.specs.Faults.{IsLongLine, IsLongInput, IsFaultyLine}
use Rattle.ks_audit_verdict.proofs.Chains.{lines_both, lines_more, no_end_both}
use Rattle.ks_run_audit.specs.declared.output.OutputAudit.{OutputAudit}
use Rattle.ks_run_audit.specs.Passing.{Passing, Refuses}
use Rattle.ks_run_audit.specs.Outputs.{IsSound, TakesOutput, text_of, place_in}
use Rattle.ks_run_audit.specs.Feeding.{IsRefusal, IsRefused, Feeding, Feeds, RefusesBytes, draft_in}
use Rattle.ks_run_audit.proofs.Passing.{passing_begins, passing_line, passing_ends, passes_on, passes_none, passed, refuses_here, refuses_on, refuses_more}

module _ (hash : List ℕ → ℕ) (d : DraftView) where
  abbrev takes : Place → List ℕ → Place → Type 0
  takes = TakesAt (rules_of hash) d

  module _ {H : Type 0} where
    pub feeds_begin : (bytes begun : List ℕ) (before : ℕ) (o : OutputAudit H) → IsSound hash o → IsPlain begun → Feeding hash d bytes bytes begun begun before before o o
    feeds_begin bytes begun before o sound plain = record {
      sound = sound;
      topology = refl;
      lines = [];
      passing = passing_begins takes (place_in o) bytes begun before plain;
      text = sym (append-nil (text_of o));
    }

    pub feeds_none : (begun : List ℕ) (before : ℕ) (o : OutputAudit H) → IsSound hash o → IsPlain begun → Feeds hash d [] begun begun before before o o
    feeds_none begun before o sound plain = record {
      sound = sound;
      topology = refl;
      lines = [];
      passing = passes_none takes (place_in o) begun before plain;
      text = sym (append-nil (text_of o));
    }

    pub feeds_line : (bytes rest front more begun now left : List ℕ) (before mid after : ℕ) (first old new : OutputAudit H) → Feeding hash d bytes rest begun now before mid first old → rest ≡ front ++ 10 ∷ more → HasNoEnd front → length (now ++ front) ≤ 67108864 →
        TakesOutput hash (now ++ front) old new → draft_in old ≡ d → left ≡ [] → after ≡ mid + 1 → Feeding hash d bytes more begun left before after first new
    feeds_line bytes rest front more begun now left before mid after first old new h cut plain short t same none count = record {
      sound = t.sound;
      topology = t.topology ∙ h.topology;
      lines = h.lines ++ (now ++ front) ∷ [];
      passing = passing_line takes (place_in first) (place_in old) (place_in new) bytes rest front more begun now left before mid after h.lines h.passing cut (no_end_both now front h.passing.plain.0 plain, short)
          (subst (λ x. TakesAt (rules_of hash) x (place_in old) (now ++ front) (place_in new)) same t.along) none count;
      text = t.text ∙ ap (λ l. l ++ ended (now ++ front)) h.text ∙ append_assoc (text_of first) (lines_text h.lines) (ended (now ++ front)) ∙ ap (λ l. text_of first ++ l) (sym (lines_more h.lines (now ++ front)));
    }

    pub feeds_end : (bytes rest begun now left : List ℕ) (before after : ℕ) (first old : OutputAudit H) → Feeding hash d bytes rest begun now before after first old → left ≡ now ++ rest → HasNoEnd rest → length left ≤ 67108864 → Feeds hash d bytes begun left before after first old
    feeds_end bytes rest begun now left before after first old h is plain short = record {
      sound = h.sound;
      topology = h.topology;
      lines = h.lines;
      passing = passing_ends takes (place_in first) (place_in old) bytes rest begun now left before after h.lines h.passing is (subst HasNoEnd (sym is) (no_end_both now rest h.passing.plain.0 plain), short);
      text = h.text;
    }

    pub feeds_on : (one two begun mid left : List ℕ) (before middle after : ℕ) (first old new : OutputAudit H) → Feeds hash d one begun mid before middle first old → Feeds hash d two mid left middle after old new → Feeds hash d (one ++ two) begun left before after first new
    feeds_on one two begun mid left before middle after first old new h g = record {
      sound = g.sound;
      topology = g.topology ∙ h.topology;
      lines = h.lines ++ g.lines;
      passing = passes_on takes (place_in first) (place_in old) (place_in new) one two begun mid left before middle after h.lines g.lines h.passing g.passing;
      text = g.text ∙ ap (λ l. l ++ lines_text g.lines) h.text ∙ append_assoc (text_of first) (lines_text h.lines) (lines_text g.lines) ∙ ap (λ l. text_of first ++ l) (sym (lines_both h.lines g.lines));
    }

    -- how many bytes stand behind its lines
    pub feeds_size : (bytes begun left : List ℕ) (before after : ℕ) (first old : OutputAudit H) (h : Feeds hash d bytes begun left before after first old) → length begun + length bytes ≡ length (lines_text h.lines) + length left
    feeds_size bytes begun left before after first old h = passed takes (place_in first) (place_in old) bytes begun left before after h.lines h.passing

  -- ---- refusals
  module _ (fault : OutputFault) where
    abbrev why : ℕ → Place → List ℕ → Type 0
    why = IsRefused (rules_of hash) d fault

    -- of a whole line
    line_refused : (before : ℕ) (place : Place) (rest now front more : List ℕ) → rest ≡ front ++ 10 ∷ more → HasNoEnd (now ++ front) → before + length now + length rest ≤ 536870912 → IsRefusal (rules_of hash) d place (now ++ front) fault → why before place (now ++ rest)
    line_refused before place rest now front more cut plain within (inl r) = inl (
      r.0,
      inl (record {
        front = now ++ front;
        more = 10 ∷ more;
        cut = ap (λ l. now ++ l) cut ∙ sym (append_assoc now front (10 ∷ more));
        line = plain;
        long = r.1;
      }),
    )
    line_refused before place rest now front more cut plain within (inr r) = inr (record {
      line = now ++ front;
      more = more;
      cut = ap (λ l. now ++ l) cut ∙ sym (append_assoc now front (10 ∷ more));
      plain = (plain, r.0);
      within = omega (arith, within, ap (λ (l : List ℕ). length l) cut, length-append front (10 ∷ more), length-append now front);
      refused = r.1;
    })

    -- with more bytes behind them
    long_more : (rest more : List ℕ) → IsLongLine rest → IsLongLine (rest ++ more)
    long_more rest more h = record { front = h.front; more = h.more ++ more; cut = ap (λ l. l ++ more) h.cut ∙ append_assoc h.front h.more more; line = h.line; long = h.long }

    input_more : (before : ℕ) (rest more : List ℕ) → IsLongInput before rest → IsLongInput before (rest ++ more)
    input_more before rest more h = record { front = h.front; byte = h.byte; more = h.more ++ more; cut = ap (λ l. l ++ more) h.cut ∙ append_assoc h.front (h.byte ∷ h.more) more; line = h.line; full = h.full }

    faulty_more : (before : ℕ) (place : Place) (rest more : List ℕ) → IsFaultyLine (rules_of hash) d before place rest fault → IsFaultyLine (rules_of hash) d before place (rest ++ more) fault
    faulty_more before place rest more h = record { line = h.line; more = h.more ++ more; cut = ap (λ l. l ++ more) h.cut ∙ append_assoc h.line (10 ∷ h.more) more; plain = h.plain; within = h.within; refused = h.refused }

    pub grows : (more : List ℕ) (before : ℕ) (place : Place) (rest : List ℕ) → why before place rest → why before place (rest ++ more)
    grows more before place rest (inl (e, inl h)) = inl (e, inl (long_more rest more h))
    grows more before place rest (inl (e, inr h)) = inl (e, inr (input_more before rest more h))
    grows more before place rest (inr h) = inr (faulty_more before place rest more h)

    module _ {H : Type 0} where
      pub refuses_line : (at : ℕ) (bytes rest front more begun now : List ℕ) (before after : ℕ) (first old : OutputAudit H) → Feeding hash d bytes rest begun now before after first old → rest ≡ front ++ 10 ∷ more → HasNoEnd front →
          IsRefusal (rules_of hash) (draft_in old) (place_in old) (now ++ front) fault → draft_in old ≡ d → at + length begun + length bytes ≤ 536870912 → RefusesBytes hash d at bytes begun before after first fault
      refuses_line at bytes rest front more begun now before after first old h cut plain r same within =
          let here : IsRefusal (rules_of hash) d (place_in old) (now ++ front) fault = subst (λ x. IsRefusal (rules_of hash) x (place_in old) (now ++ front) fault) same r in
          refuses_here takes why (place_in first) (place_in old) at bytes rest begun now before after h.lines h.passing
          (λ k e. line_refused k (place_in old) rest now front more cut (no_end_both now front h.passing.plain.0 plain) (omega (arith, e, within)) here)

      -- of bytes without an end
      pub refuses_long : (at : ℕ) (bytes rest begun now left : List ℕ) (before after : ℕ) (first old : OutputAudit H) → fault ≡ TooLong → Feeding hash d bytes rest begun now before after first old → left ≡ now ++ rest → HasNoEnd rest → 67108864 < length left → RefusesBytes hash d at bytes begun before after first fault
      refuses_long at bytes rest begun now left before after first old is h all plain long =
          refuses_here takes why (place_in first) (place_in old) at bytes rest begun now before after h.lines h.passing
          (λ k e. inl (
            is,
            inl (record {
              front = left;
              more = [];
              cut = sym all ∙ sym (append-nil left);
              line = subst HasNoEnd (sym all) (no_end_both now rest h.passing.plain.0 plain);
              long = long;
            }),
          ))

      -- the input has a byte too many
      pub refuses_input : (at room : ℕ) (bytes begun left : List ℕ) (before after : ℕ) (first old : OutputAudit H) → fault ≡ TooLong → Feeds hash d (take room bytes) begun left before after first old → room < length bytes → at + length begun + room ≡ 536870912 →
          bytes ≡ take room bytes ++ drop room bytes → length (take room bytes) ≡ room → RefusesBytes hash d at bytes begun before after first fault
      refuses_input at room bytes begun left before after first old is h more full both size =
          subst (λ b. RefusesBytes hash d at b begun before after first fault) (sym both) (by (drop room bytes) (omega (arith, ap (λ (l : List ℕ). length l) both, length-append (take room bytes) (drop room bytes))))
        where
          by : (rest : List ℕ) → 0 < length rest → RefusesBytes hash d at (take room bytes ++ rest) begun before after first fault
          by [] l = absurd (omega arith)
          by (x ∷ xs) l = record {
            lines = h.lines;
            here = place_in old;
            along = h.passing.along;
            counted = h.passing.counted;
            rest = left ++ x ∷ xs;
            cut = sym (append_assoc begun (take room bytes) (x ∷ xs)) ∙ ap (λ (l : List ℕ). l ++ x ∷ xs) (h.passing.cut ∙ append-nil (lines_text h.lines ++ left)) ∙ append_assoc (lines_text h.lines) left (x ∷ xs);
            is = inl (
              is,
              inr (record {
                front = left;
                byte = x;
                more = xs;
                cut = refl;
                line = h.passing.plain.0;
                full = omega (arith, full, size, feeds_size (take room bytes) begun left before after first old h);
              }),
            );
          }

      pub refuses_with : (at : ℕ) (bytes more begun : List ℕ) (before after : ℕ) (first : OutputAudit H) → RefusesBytes hash d at bytes begun before after first fault → RefusesBytes hash d at (bytes ++ more) begun before after first fault
      refuses_with at bytes more begun before after first h = refuses_more takes why (place_in first) at bytes more begun before after (grows more) h

      pub refuses_behind : (at now : ℕ) (one two begun mid : List ℕ) (before middle after : ℕ) (first old : OutputAudit H) → Feeds hash d one begun mid before middle first old → now + length mid ≡ at + length begun + length one → RefusesBytes hash d now two mid middle after old fault →
          RefusesBytes hash d at (one ++ two) begun before after first fault
      refuses_behind at now one two begun mid before middle after first old h count g = refuses_on takes why (place_in first) (place_in old) at now one two begun mid before middle after h.lines h.passing count g
