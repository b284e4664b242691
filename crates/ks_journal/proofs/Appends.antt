-- What is written, piece by piece.
use Rattle.std.proofs.Common.{◌≡◌, ℕ, ◌/◌, ◌%◌, ◌^◌, ◌<◌, ◌≤◌, true, List, [], ◌∷◌, ◌++◌, decimal, refl, ap, ◌∙◌, sym, append_assoc, append-nil}
use Rattle.json.specs.Print.{escape, quoted}
use Rattle.serde_json.specs.Data.{Data, string}
use Rattle.serde_json.specs.View.{items_of}
use Rattle.serde_json.specs.Written.{compact_text, items_text}
use Rattle.ks_record.specs.declared.record.TaskId.{TaskId}
use Rattle.ks_history.specs.declared.journal.Request.{Request}
use Rattle.ks_history.specs.declared.journal.Entry.{Entry}
use Rattle.ks_journal.specs.Lines.{hex, task_text, field_text, fields_text, entry_text, call_of, reply_data}
use Rattle.ks_journal.proofs.Plain.{decimal_is_steps, hex_is_plain, task_is_plain, word_is_plain}

two_more : (out a b : List ℕ) → (out ++ a) ++ b ≡ out ++ (a ++ b)
two_more out a b = append_assoc out a b

pub number_pushed : (out mid new : List ℕ) (n : ℕ) → 10 ≤ n → n < 2 ^ 64 → mid ≡ out ++ decimal (n / 10) → new ≡ mid ++ decimal (n % 10) → new ≡ out ++ decimal n
number_pushed out mid new n more small first last =
    last ∙ ap (λ s. s ++ decimal (n % 10)) first ∙ two_more out (decimal (n / 10)) (decimal (n % 10)) ∙ ap (λ s. out ++ s) (sym (decimal_is_steps n more small))

quoted_text : (out text : List ℕ) → ((out ++ 34 ∷ []) ++ text) ++ 34 ∷ [] ≡ out ++ 34 ∷ (text ++ 34 ∷ [])
quoted_text out text = simp append_assoc

-- a text in quotes, of which nothing is escaped
in_quotes : (out a b c : List ℕ) (text : List ℕ) → escape text ≡ text → a ≡ out ++ 34 ∷ [] → b ≡ a ++ text → c ≡ b ++ 34 ∷ [] → c ≡ out ++ quoted text
in_quotes out a b c text plain first then last =
    last ∙ ap (λ s. s ++ 34 ∷ []) (then ∙ ap (λ s. s ++ text) first) ∙ quoted_text out text ∙ ap (λ s. out ++ 34 ∷ (s ++ 34 ∷ [])) (sym plain)

pub hex_pushed : (out a b c : List ℕ) (bytes : List ℕ) → a ≡ out ++ 34 ∷ [] → b ≡ a ++ hex bytes → c ≡ b ++ 34 ∷ [] → c ≡ out ++ quoted (hex bytes)
hex_pushed out a b c bytes first then last = in_quotes out a b c (hex bytes) (hex_is_plain bytes) first then last

pub task_pushed : (out a b c d e : List ℕ) (t : TaskId) → t.sub < 256 → t.part < 256 → a ≡ out ++ 34 ∷ [] → b ≡ a ++ decimal t.sub → c ≡ b ++ 95 ∷ [] → d ≡ c ++ decimal t.part → e ≡ d ++ 34 ∷ []
    → e ≡ out ++ quoted (task_text t)
task_pushed out a b c d e t sub part first then low more last =
    in_quotes out a (a ++ task_text t) e (task_text t) (task_is_plain t sub part) first refl
    (last ∙ ap (λ s. s ++ 34 ∷ []) (more ∙ ap (λ s. s ++ decimal t.part) (low ∙ ap (λ s. s ++ 95 ∷ []) then) ∙ regroup a (decimal t.sub) (decimal t.part)))
  where
    regroup : (a b c : List ℕ) → ((a ++ b) ++ 95 ∷ []) ++ c ≡ a ++ (b ++ 95 ∷ c)
    regroup a b c = simp append_assoc

-- the items after the first
others_text : (ds : List Data) (d : Data) → items_text true (items_of (ds ++ d ∷ [])) ≡ 44 ∷ (fields_text ds ++ (compact_text d ++ 93 ∷ []))
others_text [] d = refl
others_text (x ∷ ds) d =
    ap (λ s. 44 ∷ (compact_text x ++ s)) (others_text ds d)
    ∙ ap (λ s. 44 ∷ s) (sym (append_assoc (compact_text x ++ 44 ∷ []) (fields_text ds) _ ∙ append_assoc (compact_text x) (44 ∷ []) _))

whole_line : (out word fields reply : List ℕ)
    → (((((out ++ 91 ∷ []) ++ word) ++ 44 ∷ []) ++ fields) ++ reply) ++ 93 ∷ [] ≡ out ++ (91 ∷ (word ++ 44 ∷ (fields ++ (reply ++ 93 ∷ []))))
whole_line out word fields reply = simp append_assoc

pub entry_pushed : (out a b c d f g : List ℕ) (e : Entry) → a ≡ out ++ 91 ∷ [] → b ≡ a ++ compact_text (string (call_of e.request).0) → c ≡ b ++ 44 ∷ []
    → d ≡ c ++ fields_text (call_of e.request).1 → f ≡ d ++ compact_text (reply_data e.reply) → g ≡ f ++ 93 ∷ [] → g ≡ out ++ entry_text e
entry_pushed out a b c d f g e one two three four five six =
    six ∙ ap (λ s. s ++ 93 ∷ []) (five ∙ ap (λ s. s ++ compact_text (reply_data e.reply)) (four ∙ ap (λ s. s ++ fields_text (call_of e.request).1)
    (three ∙ ap (λ s. s ++ 44 ∷ []) (two ∙ ap (λ s. s ++ compact_text (string (call_of e.request).0)) one))))
    ∙ whole_line out (compact_text (string (call_of e.request).0)) (fields_text (call_of e.request).1) (compact_text (reply_data e.reply))
    ∙ ap (λ s. out ++ (91 ∷ (compact_text (string (call_of e.request).0) ++ s))) (sym (others_text (call_of e.request).1 (reply_data e.reply)))

pub plain_word : (w : List ℕ) (r : Request) → w ≡ (call_of r).0 → escape w ≡ w
plain_word w r is = ap escape is ∙ word_is_plain r ∙ sym is

four_texts : (out x y z w : List ℕ) → (((out ++ x) ++ y) ++ z) ++ w ≡ out ++ (x ++ (y ++ (z ++ (w ++ []))))
four_texts out x y z w = simp (append_assoc, append-nil)

pub four_fields : (out a b c d : List ℕ) (x y z w : Data) → a ≡ out ++ field_text x → b ≡ a ++ field_text y → c ≡ b ++ field_text z → d ≡ c ++ field_text w
    → d ≡ out ++ fields_text (x ∷ y ∷ z ∷ w ∷ [])
four_fields out a b c d x y z w one two three four =
    four ∙ ap (λ s. s ++ field_text w) (three ∙ ap (λ s. s ++ field_text z) (two ∙ ap (λ s. s ++ field_text y) one))
    ∙ four_texts out (field_text x) (field_text y) (field_text z) (field_text w)
