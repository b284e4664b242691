-- The front and the end of a plain line.
use Rattle.std.proofs.Common.{◌≡◌, ℕ, ◌<◌, ◌≤◌, nat_le, cond, List, ◌∷◌, ◌++◌, length, Some, None, codes, decimal, refl, sym, ap, ◌∙◌, arith, ne_eqb, le-leb}
use Rattle.ks_record.specs.Texts.{key_of}
use Rattle.ks_job_record.specs.Record.{number_of}
use Rattle.ks_job_record.specs.Plain.{IsQuoted, IsDigits}
use Rattle.ks_job_record.specs.PlainLines.{IsFront, IsEnd}

pub key_fits : (key : List ℕ) → 0 < length key → length key ≤ 1024 → key_of key ≡ Some key
key_fits key some most = ap (λ b. cond b None (cond (nat_le (length key) 1024) (Some key) None)) (ne_eqb (length key) 0 (λ e. omega arith)) ∙ ap (λ b. cond b (Some key) None) (le-leb (length key) 1024 most)

pub front_is : (topics : List (List ℕ)) (line r0 topic r1 r2 key r3 rest text : List ℕ) (number : ℕ) →
    line ≡ codes "{\"topic\":\"" ++ r0 → IsQuoted r0 topic r1 → r1 ≡ codes ",\"key\":\"" ++ r2 → IsQuoted r2 key r3 → r3 ≡ codes ",\"value\":" ++ rest →
    text ≡ topic → Some number ≡ number_of text topics → 0 < length key → length key ≤ 1024 → IsFront topics line number key rest
front_is topics line r0 topic r1 r2 key r3 rest text number e0 q0 e1 q1 e2 same known some most =
    record {
      topic = topic;
      spelled = e0 ∙ ap (λ l. codes "{\"topic\":\"" ++ l) (q0.spelled ∙ ap (λ l. topic ++ 34 ∷ l) (e1 ∙ ap (λ l. codes ",\"key\":\"" ++ l) (q1.spelled ∙ ap (λ l. key ++ 34 ∷ l) e2)));
      topic_plain = q0.plain;
      key_plain = q1.plain;
      known = sym (known ∙ ap (λ t. number_of t topics) same);
      key_fit = key_fits key some most;
    }

pub end_is : (bytes digits rest : List ℕ) (n : ℕ) → bytes ≡ codes ",\"ts\":" ++ digits → IsDigits digits n rest → n ≤ 9007199254740992 → rest ≡ codes "}" → IsEnd bytes n
end_is bytes digits rest n e d small last =
    record { time = Some n; spelled = e ∙ ap (λ l. codes ",\"ts\":" ++ l) (d.spelled ∙ ap (λ l. decimal n ++ l) last); is = refl; small = small }
