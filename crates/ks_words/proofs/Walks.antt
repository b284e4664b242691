-- clap's walk over the words after a command's name finds what the words say, and refuses them where they say nothing.
use Rattle.std.proofs.Common.{◌≡◌, ◌∙◌, ◌+◌, ◌==◌, ◌&&◌, ◌||◌, ℕ, Bool, cond, true, false, not, refl, sym, ap, ap₂, subst, List, [], ◌∷◌, ◌++◌, map, Option, Some, None, inl, inr, true≢false, codes, nat_lt, length, drop, zero, suc}
use Rattle.std.specs.Prelude.{◌⊎◌, IfSome, is_some, option_map, option_and_then, fold, min, slice_get, encode_utf8}
use Rattle.std.specs.Option.{option_map_or}
use Rattle.std.specs.List.{list_any}
use Rattle.std.specs.Str.{bytes_eq, chars}
use Rattle.std.proofs.lemmas.Slice.Eq.{bytes_eq-Decides}
use Rattle.std.proofs.lemmas.Bool.{eqb-true}
use Rattle.clap.specs.Lexer.{long_of, long_of_rest, short_of, short_of_rest, strip_byte, usize_max}
use Rattle.clap.specs.Words.{Rule, Row}
use Rattle.clap.specs.Walk.{Held, Waiting, idle, option, Walk, Outcome, plain, after_flag, short_or_plain, to_positional, pushed, settled, is_pending, after_step, arg_by_id, arg_by_index, arg_by_long, bundle, long_met, long_or_other, plain_word, settled_rows, used_by_id, used, walked, trailing, option_word, takes_values}
use Rattle.clap.specs.Simple.{Shape}
use Rattle.clap.proofs.WalkLemmas.{bundle_ends}
use Rattle.clap.specs.Kinds.{Kinds, or_else}
use Rattle.clap.specs.declared.error.kind.ErrorKind.TheVariants as kind
use Rattle.clap.specs.Faults.{bundle_fault, bundle_step_fault, short_fault, flag_word_fault, flags_fault, long_fault, positional_fault, settle_fault, step_fault, stray_fault, option_fault, react_fault, turn_fault, use_fault, walk_fault}
use Rattle.ks_words.specs.Grammar.{Text, Use, Takes, number, anything, nothing, Choice, Form, numbered, free, option_named, after_hyphen, is_flag, plain_left, plain_part, part_by, part_with, uses_from, with_part, says, is_given, is_value, fits, checked}
use Rattle.ks_words.proofs.Rules.{rule, rules_for, plain_rules, shape_for, TakesText, by_long, by_id, named_front, same_name, by_short, row, Faulty, faulty_first, Admits, text_used, no_value, switch_used}

-- ---- what the words say after some uses

abbrev pub after : Form → List Use → Option (List Use) → Option (List Use)
after f vs o = option_and_then (checked f vs) o

abbrev pub let_in : Form → List Use → Use → Bool
let_in f vs u = not (is_given u.0 vs) && fits f u

-- one more use is let in, and then the others
one_more : (f : Form) (vs : List Use) (u : Use) (o : Option (List Use))
    → after f vs (option_map (λ us. u ∷ us) o) ≡ option_and_then (λ ws. after f ws o) (checked f vs (u ∷ []))
one_more f vs u None = none (let_in f vs u)
  where
    none : (b : Bool) → None ≡ option_and_then (λ ws. after f ws None) (cond b (checked f (vs ++ u ∷ []) []) None)
    none true = refl
    none false = refl
one_more f vs u (Some rest) = some (let_in f vs u)
  where
    some : (b : Bool) → cond b (checked f (vs ++ u ∷ []) rest) None ≡ option_and_then (λ ws. after f ws (Some rest)) (cond b (checked f (vs ++ u ∷ []) []) None)
    some true = refl
    some false = refl

nothing_after : {X Y : Type 0} (o : Option X) → option_and_then {T = X} {U = Y} (λ x. None) o ≡ None
nothing_after None = refl
nothing_after (Some x) = refl

and_false : (b : Bool) → (b && false) ≡ false
and_false true = refl
and_false false = refl

-- ---- what is pending

-- a text that was given and isn't used yet
pub record Pend : Type 0 where
  pub choice : Choice
  pub own : Option ℕ
  pub text : Text

-- an option that takes a text, or a plain word at its place
pub record IsKnown (f : Form) (p : Choice) (own : Option ℕ) : Type 0 where
  pub named : option_named (f.options ++ f.plain) p.name ≡ Some p
  pub found : arg_by_id (rules_for f) p.name ≡ Some (rule own p)
  pub texts : TakesText p.takes

abbrev pub IsPend : Form → Pend → Type 0
IsPend f q = IsKnown f q.choice q.own

abbrev pub pended : Option Pend → Option (Text × List Text)
pended None = None
pended (Some q) = Some (q.choice.name, q.text ∷ [])

abbrev pub pend_uses : Option Pend → List Use
pend_uses None = []
pend_uses (Some q) = (q.choice.name, q.text) ∷ []

abbrev pub held : List Use → Option (Text × List Text) → Held
held us pending = record { rows = map row us; pending = pending; skip = 0 }

abbrev Settles : Form → List Use → Option (Text × List Text) → Option (List Use) → Type 0
Settles f us pending (Some vs) = (settle_fault (rules_for f) false (held us pending) ≡ []) × (settled_rows (rules_for f) pending (map row us) ≡ map row vs)
Settles f us pending None = Faulty (settle_fault (rules_for f) false (held us pending))

settles_one : (f : Form) (us : List Use) (q : Pend) → IsPend f q → Settles f us (pended (Some q)) (checked f us ((q.choice.name, q.text) ∷ []))
settles_one f us q h =
    subst (λ (o : Option Choice). Settles f us (pended (Some q)) (cond (not (is_given q.choice.name us) && option_map_or (λ o. is_value o.takes q.text) o false) (Some (us ++ (q.choice.name, q.text) ∷ [])) None))
    (sym h.named) (go (not (is_given q.choice.name us) && is_value q.choice.takes q.text) (text_used q.own q.choice.name q.choice.takes h.texts q.text us))
  where
    go : (b : Bool) → Admits b (use_fault false (rule q.own q.choice) (q.text ∷ []) (map row us))
        (used (rule q.own q.choice) (q.text ∷ []) (map row us)) (map row (us ++ (q.choice.name, q.text) ∷ []))
        → Settles f us (pended (Some q)) (cond b (Some (us ++ (q.choice.name, q.text) ∷ [])) None)
    go true a = (
      subst (λ (o : Option Rule). option_map_or (λ r. use_fault false r (q.text ∷ []) (map row us)) o [] ≡ []) (sym h.found) a.0,
      subst (λ (o : Option Rule). used_by_id o (q.text ∷ []) (map row us) ≡ map row (us ++ (q.choice.name, q.text) ∷ [])) (sym h.found) a.1,
    )
    go false a = subst (λ (o : Option Rule). Faulty (option_map_or (λ r. use_fault false r (q.text ∷ []) (map row us)) o [])) (sym h.found) a

settles : (f : Form) (us : List Use) (q : Option Pend) → IfSome q (IsPend f) → Settles f us (pended q) (checked f us (pend_uses q))
settles f us None h = (refl, refl)
settles f us (Some q) h = settles_one f us q h

-- ---- where a walk comes to

abbrev pub standing : Held → Waiting → ℕ → Walk
standing h w i = record { held = h; waiting = w; position = i; is_trailing = false; stopped = None }

abbrev pub Ends : List Rule → Kinds → Held → Option (List Use) → Type 0
Ends c g h (Some all) = (g ≡ []) × (settled_rows c h.pending h.rows ≡ map row all)
Ends c g h None = Faulty g

abbrev pub left_fault : Shape → Kinds → Walk → List Text → Kinds
left_fault s t w ws = or_else (or_else t (walk_fault s [] w ws)) (settle_fault s.rules false (fold (walked s.rules []) w ws).held)

abbrev pub Comes : Shape → Walk → List Text → Option (List Use) → Type 0
Comes s w ws r = Ends s.rules (left_fault s [] w ws) (fold (walked s.rules []) w ws).held r

fails : (s : Shape) (w : Walk) (x : Text) (xs : List Text) → Faulty (turn_fault s [] w x) → Comes s w (x ∷ xs) None
unfolding walk_fault
fails s w x xs h = faulty_first (or_else (turn_fault s [] w x) (walk_fault s [] (walked s.rules [] w x) xs)) _ (faulty_first (turn_fault s [] w x) _ h)

goes : (s : Shape) (w v : Walk) (x : Text) (xs : List Text) (r : Option (List Use)) → turn_fault s [] w x ≡ [] → walked s.rules [] w x ≡ v → Comes s v xs r → Comes s w (x ∷ xs) r
unfolding walk_fault
goes s w v x xs r turn is m =
    subst (λ (t : Kinds). Ends s.rules (left_fault s t (walked s.rules [] w x) xs) (fold (walked s.rules []) (walked s.rules [] w x) xs).held r) (sym turn)
    (subst (λ (u : Walk). Ends s.rules (left_fault s [] u xs) (fold (walked s.rules []) u xs).held r) (sym is) m)

-- ---- one word

abbrev pub dashes : Text
dashes = codes "--"

-- the turn and the walk after a word that is no `--`, by what kind of word it is
abbrev turn_by : Shape → ℕ → Waiting → Text → Held → Bool → Option (Text × Option Text) → Kinds
turn_by s i w word h b l =
    or_else (cond b [] (flag_word_fault s.rules false l word h))
    (step_fault s i (cond b (h, trailing i) (long_or_other s.rules w word l h)).0 (cond b (h, trailing i) (long_or_other s.rules w word l h)).1)

abbrev walk_by : List Rule → ℕ → Waiting → Text → Held → Bool → Option (Text × Option Text) → Walk
walk_by c i w word h b l = after_step c word (standing h w i) (cond b (h, trailing i) (long_or_other c w word l h)).0 (cond b (h, trailing i) (long_or_other c w word l h)).1

record Turns (s : Shape) (h : Held) (w : Waiting) (i : ℕ) (word : Text) (l : Option (Text × Option Text)) : Type 0 where
  turn : turn_fault s [] (standing h w i) word ≡ turn_by s i w word h false l
  step : walked s.rules [] (standing h w i) word ≡ walk_by s.rules i w word h false l

turns_idle : (name : Text) (f : Form) (h : Held) (i : ℕ) (word : Text) (l : Option (Text × Option Text)) → bytes_eq word dashes ≡ false → long_of word ≡ l
    → Turns (shape_for name f) h idle i word l
unfolding walked
turns_idle name f h i word l ordinary is = record {
  turn = ap₂ (turn_by (shape_for name f) i idle word h) ordinary is;
  step = ap₂ (walk_by (rules_for f) i idle word h) ordinary is;
}

turns_waiting : (name : Text) (f : Form) (h : Held) (n : Text) (i : ℕ) (word : Text) (l : Option (Text × Option Text)) → bytes_eq word dashes ≡ false → long_of word ≡ l
    → Turns (shape_for name f) h (option n) i word l
unfolding walked
turns_waiting name f h n i word l ordinary is = record {
  turn = ap₂ (turn_by (shape_for name f) i (option n) word h) ordinary is;
  step = ap₂ (walk_by (rules_for f) i (option n) word h) ordinary is;
}

-- ---- words with a hyphen before a character

has_first : (xs : Text) → is_some (slice_get (chars (45 ∷ xs)) 0) ≡ true
unfolding chars
has_first [] = refl
has_first (x ∷ xs) = refl

long_flag : (word : Text) (p : Text × Option Text) → long_of word ≡ Some p → is_flag word ≡ true
long_flag word p e = go (strip_byte 45 word) e
  where
    by_hyphen : (x : ℕ) (xs : Text) (b : Bool) → (x == 45) ≡ b → option_and_then long_of_rest (cond b (Some xs) None) ≡ Some p → is_some (slice_get (chars (x ∷ xs)) 0) ≡ true
    by_hyphen x xs true hit same = subst (λ (y : ℕ). is_some (slice_get (chars (y ∷ xs)) 0) ≡ true) (sym (eqb-true _ _ hit)) (has_first xs)
    by_hyphen x xs false miss same = absurd (cc)

    go : (o : Option Text) → option_and_then long_of_rest (option_and_then (strip_byte 45) o) ≡ Some p → option_map_or (λ rest. is_some (slice_get (chars rest) 0)) o false ≡ true
    go None same = absurd (cc)
    go (Some []) same = absurd (cc)
    go (Some (x ∷ xs)) same = by_hyphen x xs (x == 45) refl same

short_rest : (word : Text) (flags : Text) → short_of word ≡ Some flags → after_hyphen word ≡ Some flags
short_rest word flags e = go (strip_byte 45 word) e
  where
    by_hyphen : (x : ℕ) (xs : Text) (b : Bool) → cond b None (Some (x ∷ xs)) ≡ Some flags → Some (x ∷ xs) ≡ Some flags
    by_hyphen x xs true same = absurd (cc)
    by_hyphen x xs false same = same

    go : (o : Option Text) → option_and_then short_of_rest o ≡ Some flags → o ≡ Some flags
    go None same = absurd (cc)
    go (Some []) same = absurd (cc)
    go (Some (x ∷ xs)) same = by_hyphen x xs (x == 45) same

short_flag : (word : Text) (flags : Text) (o : Option ℕ) → short_of word ≡ Some flags → slice_get (chars flags) 0 ≡ o → is_flag word ≡ is_some o
short_flag word flags o some first = ap (λ (o : Option Text). option_map_or (λ rest. is_some (slice_get (chars rest) 0)) o false) (short_rest word flags some) ∙ ap is_some first

-- a word that is no option, no bundle of flags and no `--`
plain_flag : (word : Text) → bytes_eq word dashes ≡ false → long_of word ≡ None → short_of word ≡ None → is_flag word ≡ false
unfolding chars
plain_flag [] ordinary long short = refl
plain_flag (x ∷ []) ordinary long short = one (x == 45)
  where
    one : (b : Bool) → option_map_or (λ (rest : Text). is_some (slice_get (chars rest) 0)) (cond b (Some []) None) false ≡ false
    one true = refl
    one false = refl
plain_flag (x ∷ y ∷ ys) ordinary long short = two (x == 45) refl long short
  where
    only : (zs : Text) → ys ≡ zs → (x == 45) ≡ true → (y == 45) ≡ true → long_of_rest zs ≡ None → is_some (slice_get (chars (y ∷ ys)) 0) ≡ false
    only [] e hx hy long = absurd (true≢false (sym ((bytes_eq-Decides (x ∷ y ∷ ys) dashes).1 (ap₂ (λ (a b : ℕ). a ∷ b ∷ ys) (eqb-true _ _ hx) (eqb-true _ _ hy) ∙ ap (λ (rest : Text). 45 ∷ 45 ∷ rest) e)) ∙ ordinary))
    only (z ∷ zs) e hx hy long = absurd (cc)

    three : (b : Bool) → (y == 45) ≡ b → (x == 45) ≡ true → option_and_then long_of_rest (cond b (Some ys) None) ≡ None → cond b None (Some (y ∷ ys)) ≡ None → is_some (slice_get (chars (y ∷ ys)) 0) ≡ false
    three false hy hx long short = absurd (cc)
    three true hy hx long short = only ys refl hx hy long

    two : (a : Bool) → (x == 45) ≡ a → option_and_then long_of_rest (option_and_then (strip_byte 45) (cond a (Some (y ∷ ys)) None)) ≡ None → option_and_then short_of_rest (cond a (Some (y ∷ ys)) None) ≡ None
        → option_map_or (λ rest. is_some (slice_get (chars rest) 0)) (cond a (Some (y ∷ ys)) None) false ≡ false
    two false hx long short = refl
    two true hx long short = three (y == 45) refl hx long short

-- ---- words that begin with one hyphen, and plain ones

abbrev short_turn : Shape → ℕ → Waiting → Text → Held → Option Text → Kinds
short_turn s i w word h o = or_else (option_map_or (λ flags. bundle_fault s.rules false flags h) o [])
    (step_fault s i (short_or_plain s.rules w word o h).0 (short_or_plain s.rules w word o h).1)

abbrev short_walk : List Rule → ℕ → Waiting → Text → Held → Option Text → Walk
short_walk c i w word h o = after_step c word (standing h w i) (short_or_plain c w word o h).0 (short_or_plain c w word o h).1

abbrev plain_turn : Shape → ℕ → Waiting → Text → Held → Kinds
plain_turn s i w word h = step_fault s i (plain_word s.rules w word h).0 (plain_word s.rules w word h).1

abbrev plain_walk : List Rule → ℕ → Waiting → Text → Held → Walk
plain_walk c i w word h = after_step c word (standing h w i) (plain_word c w word h).0 (plain_word c w word h).1

record PlainTurns (s : Shape) (h : Held) (w : Waiting) (i : ℕ) (word : Text) : Type 0 where
  turn : turn_fault s [] (standing h w i) word ≡ plain_turn s i w word h
  step : walked s.rules [] (standing h w i) word ≡ plain_walk s.rules i w word h

-- clap refuses the word, since it begins with a hyphen and a character; or takes it as a plain one
abbrev Shorts : Shape → Held → Waiting → ℕ → Text → Type 0
Shorts s h w i word = (Faulty (turn_fault s [] (standing h w i) word) × (is_flag word ≡ true)) ⊎ (PlainTurns s h w i word × (is_flag word ≡ false))

no_flag : (f : Form) (flags : Text) (h : Held) (k : ℕ) → None ≡ slice_get (chars flags) 0 → flags_fault (rules_for f) false k flags 0 h ≡ []
unfolding flags_fault
no_flag f flags h zero e = refl
no_flag f flags h (suc k) e = ap (λ o. bundle_step_fault (rules_for f) false o flags 0 h (flags_fault (rules_for f) false k)) (sym e)

some_flag : (f : Form) (flags : Text) (h : Held) (k : ℕ) (x : ℕ) → slice_get (chars flags) 0 ≡ Some x → Faulty (flags_fault (rules_for f) false (suc k) flags 0 h)
unfolding flags_fault
some_flag f flags h k x e =
    subst (λ (o : Option ℕ). Faulty (bundle_step_fault (rules_for f) false o flags 0 h (flags_fault (rules_for f) false k))) (sym e)
    (subst (λ (o : Option Rule). Faulty (short_fault (rules_for f) false o (drop (length (encode_utf8 x)) flags) h (flags_fault (rules_for f) false k (drop (length (encode_utf8 x)) flags) 0))) (sym (by_short f.options 1 f.plain x)) tt)

no_first : (flags : Text) (x : ℕ) → length flags ≡ 0 → slice_get (chars flags) 0 ≡ Some x → ⊥
unfolding chars
no_first [] x none e = absurd (cc)
no_first (y ∷ flags) x none e = absurd (cc)

flagged : (f : Form) (flags : Text) (us : List Use) (pending : Option (Text × List Text)) (x : ℕ) → slice_get (chars flags) 0 ≡ Some x → Faulty (bundle_fault (rules_for f) false flags (held us pending))
flagged f flags us pending x e = go (length flags) refl
  where
    go : (k : ℕ) → length flags ≡ k → Faulty (flags_fault (rules_for f) false k flags 0 (held us pending))
    go zero none = absurd (no_first flags x none e)
    go (suc k) some = some_flag f flags (held us pending) k x e

shorts : (name : Text) (f : Form) (us : List Use) (pending : Option (Text × List Text)) (w : Waiting) (i : ℕ) (word : Text)
    → bytes_eq word dashes ≡ false → long_of word ≡ None → Turns (shape_for name f) (held us pending) w i word None → Shorts (shape_for name f) (held us pending) w i word
shorts name f us pending w i word ordinary other ts = by_short_of (short_of word) refl
  where
    by_first : (flags : Text) (o : Option ℕ) → short_of word ≡ Some flags → slice_get (chars flags) 0 ≡ o → Shorts (shape_for name f) (held us pending) w i word
    by_first flags (Some x) some first = inl (
      subst Faulty (sym (ts.turn ∙ ap (short_turn (shape_for name f) i w word (held us pending)) some)) (faulty_first _ _ (flagged f flags us pending x first)),
      short_flag word flags (Some x) some first,
    )
    by_first flags None some first =
        let fault : bundle_fault (rules_for f) false flags (held us pending) ≡ [] = no_flag f flags (held us pending) (length flags) (sym first) in
        let met : bundle (rules_for f) flags (held us pending) ≡ (held us pending, plain) = sym (bundle_ends (rules_for f) (length flags) flags 0 plain (held us pending) (sym first)) in
        inr (
          record {
            turn = ts.turn ∙ ap (short_turn (shape_for name f) i w word (held us pending)) some
                ∙ ap₂ (λ (k : Kinds) (m : Held × Outcome). or_else k (step_fault (shape_for name f) i (after_flag (rules_for f) w word m.0 m.1).0 (after_flag (rules_for f) w word m.0 m.1).1)) fault met;
            step = ts.step ∙ ap (short_walk (rules_for f) i w word (held us pending)) some
                ∙ ap (λ (m : Held × Outcome). after_step (rules_for f) word (standing (held us pending) w i) (after_flag (rules_for f) w word m.0 m.1).0 (after_flag (rules_for f) w word m.0 m.1).1) met;
          },
          short_flag word flags None some first,
        )

    by_short_of : (o : Option Text) → short_of word ≡ o → Shorts (shape_for name f) (held us pending) w i word
    by_short_of None none = inr (
      record {
        turn = ts.turn ∙ ap (short_turn (shape_for name f) i w word (held us pending)) none;
        step = ts.step ∙ ap (short_walk (rules_for f) i w word (held us pending)) none;
      },
      plain_flag word ordinary other none,
    )
    by_short_of (Some flags) some = by_first flags (slice_get (chars flags) 0) some refl

-- ---- the places of the plain words that are left

abbrev pub At : Form → ℕ → List Choice → Type 0
At f i [] = arg_by_index (rules_for f) i ≡ None
At f i (p ∷ ps) = IsKnown f p (Some i) × (arg_by_index (rules_for f) i ≡ Some (rule (Some i) p)) × At f (min (i + 1) usize_max) ps

-- a word at its place settles what was pending, and then is pending
place_turn : (f : Form) (i : ℕ) (n : Text) (k : Takes) → TakesText k → (h : Held) → positional_fault (rules_for f) false (rule (Some i) (record { name = n; takes = k })) h ≡ settle_fault (rules_for f) false h
place_turn f i n (number low high) t h = ap (λ b. cond b [] (settle_fault (rules_for f) false h)) (and_false (is_pending (rule (Some i) (numbered n low high)) h.pending))
place_turn f i n anything t h = ap (λ b. cond b [] (settle_fault (rules_for f) false h)) (and_false (is_pending (rule (Some i) (free n)) h.pending))
place_turn f i n nothing t h = absurd t

place_step : (f : Form) (i : ℕ) (n : Text) (k : Takes) → TakesText k → (word : Text) (h : Held)
    → to_positional (rules_for f) (Some (rule (Some i) (record { name = n; takes = k }))) word (standing h idle i) h ≡ standing (pushed n word (settled (rules_for f) h)) idle (min (i + 1) usize_max)
place_step f i n (number low high) t word h = ap (λ b. standing (pushed n word (cond b h (settled (rules_for f) h))) idle (min (i + 1) usize_max)) (and_false (is_pending (rule (Some i) (numbered n low high)) h.pending))
place_step f i n anything t word h = ap (λ b. standing (pushed n word (cond b h (settled (rules_for f) h))) idle (min (i + 1) usize_max)) (and_false (is_pending (rule (Some i) (free n)) h.pending))
place_step f i n nothing t word h = absurd t

-- the text of an option that awaits it
text_step : (own : Option ℕ) (n : Text) (k : Takes) → TakesText k → (word : Text) (vs : List Use)
    → option_word (Some (rule own (record { name = n; takes = k }))) n word (held vs (Some (n, []))) ≡ (held vs (Some (n, word ∷ [])), idle)
text_step own n (number low high) t word vs = ap (λ b. (held vs (Some (n, word ∷ [])), cond (nat_lt (cond b 1 0) 1) (option n) idle)) ((bytes_eq-Decides n n).1 refl)
text_step own n anything t word vs = ap (λ b. (held vs (Some (n, word ∷ [])), cond (nat_lt (cond b 1 0) 1) (option n) idle)) ((bytes_eq-Decides n n).1 refl)
text_step own n nothing t word vs = absurd t

-- ---- the walk goes on

abbrev pub said : Form → List Use → Option Pend → Option (List Use) → Option (List Use)
said f us q o = option_and_then (λ vs. after f vs o) (checked f us (pend_uses q))

-- from between two uses
abbrev pub Idles : Text → Form → List Text → Type 0
Idles name f ws = (us : List Use) (q : Option Pend) (i : ℕ) (ps : List Choice) → IfSome q (IsPend f) → At f i ps
    → Comes (shape_for name f) (standing (held us (pended q)) idle i) ws (said f us q (uses_from f ps None ws))

-- from an option that awaits its text
abbrev pub Awaits : Text → Form → List Text → Type 0
Awaits name f ws = (vs : List Use) (p : Choice) (own : Option ℕ) (i : ℕ) (ps : List Choice) → IsKnown f p own → At f i ps
    → Comes (shape_for name f) (standing (held vs (Some (p.name, []))) (option p.name) i) ws (after f vs (uses_from f ps (Some p.name) ws))

module _ (name : Text) (f : Form) (us : List Use) (q : Option Pend) (i : ℕ) (ps : List Choice) (pend : IfSome q (IsPend f)) (at : At f i ps) (word : Text) (xs : List Text) where
  abbrev here : Walk
  here = standing (held us (pended q)) idle i

  -- the word is refused, and says nothing
  refused_word : Faulty (turn_fault (shape_for name f) [] here word) → Comes (shape_for name f) here (word ∷ xs) (said f us q None)
  refused_word fault = subst (Comes (shape_for name f) here (word ∷ xs)) (sym (nothing_after (checked f us (pend_uses q)))) (fails (shape_for name f) here word xs fault)

  -- the word uses an option at once
  uses_now : (r : Rule) (values : List Text) (u : Use)
      → turn_fault (shape_for name f) [] here word ≡ or_else (or_else (settle_fault (rules_for f) false (held us (pended q))) (use_fault false r values (settled_rows (rules_for f) (pended q) (map row us)))) []
      → walked (rules_for f) [] here word ≡ standing (record { rows = used r values (settled_rows (rules_for f) (pended q) (map row us)); pending = None; skip = 0 }) idle i
      → ((vs : List Use) → Admits (let_in f vs u) (use_fault false r values (map row vs)) (used r values (map row vs)) (map row (vs ++ u ∷ [])))
      → Idles name f xs
      → Comes (shape_for name f) here (word ∷ xs) (said f us q (option_map (λ rest. u ∷ rest) (uses_from f ps None xs)))
  uses_now r values u turn step admits idles = go (checked f us (pend_uses q)) (settles f us q pend)
    where
      use_now : (vs : List Use) → (b : Bool) → settle_fault (rules_for f) false (held us (pended q)) ≡ [] → settled_rows (rules_for f) (pended q) (map row us) ≡ map row vs
          → Admits b (use_fault false r values (map row vs)) (used r values (map row vs)) (map row (vs ++ u ∷ []))
          → Comes (shape_for name f) here (word ∷ xs) (option_and_then (λ ws. after f ws (uses_from f ps None xs)) (cond b (Some (vs ++ u ∷ [])) None))
      use_now vs true none rows a =
          goes (shape_for name f) here (standing (held (vs ++ u ∷ []) None) idle i) word xs _
          (turn ∙ ap₂ (λ (k : Kinds) (rs : List Row). or_else (or_else k (use_fault false r values rs)) []) none rows ∙ ap (λ k. or_else k []) a.0)
          (step ∙ ap (λ (rs : List Row). standing (record { rows = used r values rs; pending = None; skip = 0 }) idle i) rows ∙ ap (λ (rs : List Row). standing (record { rows = rs; pending = None; skip = 0 }) idle i) a.1)
          (idles (vs ++ u ∷ []) None i ps tt at)
      use_now vs false none rows a =
          fails (shape_for name f) here word xs (subst Faulty (sym (turn ∙ ap₂ (λ (k : Kinds) (rs : List Row). or_else (or_else k (use_fault false r values rs)) []) none rows)) (faulty_first _ [] a))

      go : (r1 : Option (List Use)) → Settles f us (pended q) r1
          → Comes (shape_for name f) here (word ∷ xs) (option_and_then (λ vs. after f vs (option_map (λ rest. u ∷ rest) (uses_from f ps None xs))) r1)
      go None s = fails (shape_for name f) here word xs (subst Faulty (sym turn) (faulty_first _ [] (faulty_first _ _ s)))
      go (Some vs) s =
          subst (Comes (shape_for name f) here (word ∷ xs)) (sym (one_more f vs u (uses_from f ps None xs)))
          (use_now vs (let_in f vs u) s.0 s.1 (admits vs))

  -- the word is an option that awaits its text
  awaits_text : (p : Choice) (own : Option ℕ) → IsKnown f p own
      → turn_fault (shape_for name f) [] here word ≡ or_else (settle_fault (rules_for f) false (held us (pended q))) []
      → walked (rules_for f) [] here word ≡ standing (record { rows = settled_rows (rules_for f) (pended q) (map row us); pending = Some (p.name, []); skip = 0 }) (option p.name) i
      → Awaits name f xs
      → Comes (shape_for name f) here (word ∷ xs) (said f us q (uses_from f ps (Some p.name) xs))
  awaits_text p own known turn step continue = go (checked f us (pend_uses q)) (settles f us q pend)
    where
      go : (r1 : Option (List Use)) → Settles f us (pended q) r1
          → Comes (shape_for name f) here (word ∷ xs) (option_and_then (λ vs. after f vs (uses_from f ps (Some p.name) xs)) r1)
      go None s = fails (shape_for name f) here word xs (subst Faulty (sym turn) (faulty_first _ [] s))
      go (Some vs) s =
          goes (shape_for name f) here (standing (held vs (Some (p.name, []))) (option p.name) i) word xs _
          (turn ∙ ap (λ k. or_else k []) s.0)
          (step ∙ ap (λ (rs : List Row). standing (record { rows = rs; pending = Some (p.name, []); skip = 0 }) (option p.name) i) s.1)
          (continue vs p own i ps known at)

-- the word is the first plain word that is left
plain_first : (name : Text) (f : Form) (us : List Use) (q : Option Pend) (i : ℕ) (p : Choice) (ps : List Choice) → IfSome q (IsPend f) → At f i (p ∷ ps) → (word : Text) (xs : List Text)
    → PlainTurns (shape_for name f) (held us (pended q)) idle i word → Idles name f xs
    → Comes (shape_for name f) (standing (held us (pended q)) idle i) (word ∷ xs) (said f us q (option_map (λ rest. (p.name, word) ∷ rest) (uses_from f ps None xs)))
plain_first name f us q i p ps pend at word xs ts idles = go (checked f us (pend_uses q)) (settles f us q pend)
  where
    turn : turn_fault (shape_for name f) [] (standing (held us (pended q)) idle i) word ≡ settle_fault (rules_for f) false (held us (pended q))
    turn = ts.turn ∙ ap (λ (o : Option Rule). option_map_or (λ a. positional_fault (rules_for f) false a (held us (pended q))) o (stray_fault (shape_for name f))) at.1
        ∙ place_turn f i p.name p.takes at.0.texts (held us (pended q))

    step : walked (rules_for f) [] (standing (held us (pended q)) idle i) word
        ≡ standing (record { rows = settled_rows (rules_for f) (pended q) (map row us); pending = Some (p.name, word ∷ []); skip = 0 }) idle (min (i + 1) usize_max)
    step = ts.step ∙ ap (λ (o : Option Rule). to_positional (rules_for f) o word (standing (held us (pended q)) idle i) (held us (pended q))) at.1
        ∙ place_step f i p.name p.takes at.0.texts word (held us (pended q))

    go : (r1 : Option (List Use)) → Settles f us (pended q) r1
        → Comes (shape_for name f) (standing (held us (pended q)) idle i) (word ∷ xs) (option_and_then (λ vs. after f vs (option_map (λ rest. (p.name, word) ∷ rest) (uses_from f ps None xs))) r1)
    go None s = fails (shape_for name f) (standing (held us (pended q)) idle i) word xs (subst Faulty (sym turn) s)
    go (Some vs) s =
        subst (Comes (shape_for name f) (standing (held us (pended q)) idle i) (word ∷ xs)) (sym (one_more f vs (p.name, word) (uses_from f ps None xs)))
        (goes (shape_for name f) (standing (held us (pended q)) idle i) (standing (held vs (Some (p.name, word ∷ []))) idle (min (i + 1) usize_max)) word xs _
        (turn ∙ s.0)
        (step ∙ ap (λ (rs : List Row). standing (record { rows = rs; pending = Some (p.name, word ∷ []); skip = 0 }) idle (min (i + 1) usize_max)) s.1)
        (idles vs (Some (record { choice = p; own = Some i; text = word })) (min (i + 1) usize_max) ps at.0 at.2))

-- ---- any word between two uses

-- what clap makes of `--NAME` or `--NAME=TEXT`, by the option that the name finds
abbrev long_turn : Shape → ℕ → Waiting → Text → Held → Option Text → Option Rule → Kinds
long_turn s i w word h v a =
    or_else (long_fault s.rules false a v h) (step_fault s i (after_flag s.rules w word (long_met s.rules a v h).0 (long_met s.rules a v h).1).0 (after_flag s.rules w word (long_met s.rules a v h).0 (long_met s.rules a v h).1).1)

abbrev long_walk : List Rule → ℕ → Waiting → Text → Held → Option Text → Option Rule → Walk
long_walk c i w word h v a =
    after_step c word (standing h w i) (after_flag c w word (long_met c a v h).0 (long_met c a v h).1).0 (after_flag c w word (long_met c a v h).0 (long_met c a v h).1).1

module _ (name : Text) (f : Form) (us : List Use) (q : Option Pend) (i : ℕ) (ps : List Choice) (pend : IfSome q (IsPend f)) (at : At f i ps) (word : Text) (xs : List Text) where
  -- a known option
  option_idle : (n m : Text) (k : Takes) (v : Option Text) → Turns (shape_for name f) (held us (pended q)) idle i word (Some (n, v))
      → option_named f.options n ≡ Some (record { name = m; takes = k }) → Idles name f xs → Awaits name f xs
      → Comes (shape_for name f) (standing (held us (pended q)) idle i) (word ∷ xs) (said f us q (with_part (part_with m k v) (λ n. uses_from f ps (Some n) xs) (uses_from f ps None xs)))
  option_idle n m k v ts found idles awaiting = by_kind k v found ts
    where
      here_found : (k : Takes) → option_named f.options n ≡ Some (record { name = m; takes = k }) → arg_by_long (rules_for f) n ≡ Some (rule None (record { name = m; takes = k }))
      here_found k e = by_long f.options 1 f.plain n ∙ ap (option_map (rule None)) e

      at_name : (k : Takes) → option_named f.options n ≡ Some (record { name = m; takes = k }) → option_named f.options m ≡ Some (record { name = m; takes = k })
      at_name k e = subst (λ (x : Text). option_named f.options x ≡ Some (record { name = m; takes = k })) (sym (same_name f.options n (record { name = m; takes = k }) e)) e

      everywhere : (k : Takes) → option_named f.options n ≡ Some (record { name = m; takes = k }) → option_named (f.options ++ f.plain) m ≡ Some (record { name = m; takes = k })
      everywhere k e = named_front f.options f.plain m (record { name = m; takes = k }) (at_name k e)

      known : (k : Takes) → TakesText k → option_named f.options n ≡ Some (record { name = m; takes = k }) → IsKnown f (record { name = m; takes = k }) None
      known k t e = record { named = everywhere k e; found = by_id f.options (plain_rules 1 f.plain) m (record { name = m; takes = k }) (at_name k e); texts = t }

      let_in_as : (k : Takes) → TakesText k → (t : Text) → option_named f.options n ≡ Some (record { name = m; takes = k }) → (vs : List Use)
          → Admits (let_in f vs (m, t)) (use_fault false (rule None (record { name = m; takes = k })) (t ∷ []) (map row vs)) (used (rule None (record { name = m; takes = k })) (t ∷ []) (map row vs)) (map row (vs ++ (m, t) ∷ []))
      let_in_as k texts t e vs =
          subst (λ (o : Option Choice). Admits (not (is_given m vs) && option_map_or (λ o. is_value o.takes t) o false) (use_fault false (rule None (record { name = m; takes = k })) (t ∷ []) (map row vs))
          (used (rule None (record { name = m; takes = k })) (t ∷ []) (map row vs)) (map row (vs ++ (m, t) ∷ []))) (sym (everywhere k e)) (text_used None m k texts t vs)

      by_kind : (k : Takes) (v : Option Text) → option_named f.options n ≡ Some (record { name = m; takes = k })
          → Turns (shape_for name f) (held us (pended q)) idle i word (Some (n, v))
          → Comes (shape_for name f) (standing (held us (pended q)) idle i) (word ∷ xs) (said f us q (with_part (part_with m k v) (λ n. uses_from f ps (Some n) xs) (uses_from f ps None xs)))
      by_kind (number low high) (Some t) e ts =
          uses_now name f us q i ps pend at word xs (rule None (numbered m low high)) (t ∷ []) (m, t)
          (ts.turn ∙ ap (long_turn (shape_for name f) i idle word (held us (pended q)) (Some t)) (here_found (number low high) e))
          (ts.step ∙ ap (long_walk (rules_for f) i idle word (held us (pended q)) (Some t)) (here_found (number low high) e))
          (let_in_as (number low high) tt t e) idles
      by_kind (number low high) None e ts =
          awaits_text name f us q i ps pend at word xs (numbered m low high) None (known (number low high) tt e)
          (ts.turn ∙ ap (long_turn (shape_for name f) i idle word (held us (pended q)) None) (here_found (number low high) e))
          (ts.step ∙ ap (long_walk (rules_for f) i idle word (held us (pended q)) None) (here_found (number low high) e))
          awaiting
      by_kind anything (Some t) e ts =
          uses_now name f us q i ps pend at word xs (rule None (free m)) (t ∷ []) (m, t)
          (ts.turn ∙ ap (long_turn (shape_for name f) i idle word (held us (pended q)) (Some t)) (here_found anything e))
          (ts.step ∙ ap (long_walk (rules_for f) i idle word (held us (pended q)) (Some t)) (here_found anything e))
          (let_in_as anything tt t e) idles
      by_kind anything None e ts =
          awaits_text name f us q i ps pend at word xs (free m) None (known anything tt e)
          (ts.turn ∙ ap (long_turn (shape_for name f) i idle word (held us (pended q)) None) (here_found anything e))
          (ts.step ∙ ap (long_walk (rules_for f) i idle word (held us (pended q)) None) (here_found anything e))
          awaiting
      by_kind nothing (Some t) e ts =
          refused_word name f us q i ps pend at word xs
          (subst Faulty (sym (ts.turn ∙ ap (long_turn (shape_for name f) i idle word (held us (pended q)) (Some t)) (here_found nothing e))) tt)
      by_kind nothing None e ts =
          uses_now name f us q i ps pend at word xs (rule None (record { name = m; takes = nothing })) [] (m, codes "true")
          (ts.turn ∙ ap (long_turn (shape_for name f) i idle word (held us (pended q)) None) (here_found nothing e))
          (ts.step ∙ ap (long_walk (rules_for f) i idle word (held us (pended q)) None) (here_found nothing e))
          (λ vs. subst (λ (o : Option Choice). Admits (not (is_given m vs) && option_map_or (λ o. is_value o.takes (codes "true")) o false) (use_fault false (rule None (record { name = m; takes = nothing })) [] (map row vs))
          (used (rule None (record { name = m; takes = nothing })) [] (map row vs)) (map row (vs ++ (m, codes "true") ∷ []))) (sym (everywhere nothing e)) (switch_used m vs))
          idles

  long_idle : (n : Text) (v : Option Text) → Turns (shape_for name f) (held us (pended q)) idle i word (Some (n, v)) → Idles name f xs → Awaits name f xs
      → Comes (shape_for name f) (standing (held us (pended q)) idle i) (word ∷ xs) (said f us q (with_part (part_by f ps word (Some (n, v))) (λ n. uses_from f ps (Some n) xs) (uses_from f ps None xs)))
  long_idle n v ts idles awaiting = go (option_named f.options n) refl
    where
      go : (o : Option Choice) → option_named f.options n ≡ o
          → Comes (shape_for name f) (standing (held us (pended q)) idle i) (word ∷ xs) (said f us q (with_part (option_and_then (λ o. part_with o.name o.takes v) o) (λ n. uses_from f ps (Some n) xs) (uses_from f ps None xs)))
      go None e =
          refused_word name f us q i ps pend at word xs
          (subst Faulty (sym (ts.turn ∙ ap (long_turn (shape_for name f) i idle word (held us (pended q)) v) (by_long f.options 1 f.plain n ∙ ap (option_map (rule None)) e))) tt)
      go (Some o) e = option_idle n o.name o.takes v ts e idles awaiting

-- the word is no `--NAME`
other_idle : (name : Text) (f : Form) (us : List Use) (q : Option Pend) (i : ℕ) (ps : List Choice) → IfSome q (IsPend f) → At f i ps → (word : Text) (xs : List Text)
    → Shorts (shape_for name f) (held us (pended q)) idle i word → Idles name f xs
    → Comes (shape_for name f) (standing (held us (pended q)) idle i) (word ∷ xs) (said f us q (with_part (plain_part ps word) (λ n. uses_from f ps (Some n) xs) (uses_from f (plain_left None ps) None xs)))
other_idle name f us q i [] pend at word xs (inl r) idles = refused_word name f us q i [] pend at word xs r.0
other_idle name f us q i [] pend at word xs (inr r) idles =
    refused_word name f us q i [] pend at word xs
    (subst Faulty (sym (r.0.turn ∙ ap (λ (a : Option Rule). option_map_or (λ a. positional_fault (rules_for f) false a (held us (pended q))) a (stray_fault (shape_for name f))) at)) tt)
other_idle name f us q i (p ∷ ps) pend at word xs (inl r) idles =
    subst (λ b. Comes (shape_for name f) (standing (held us (pended q)) idle i) (word ∷ xs) (said f us q (with_part (cond b None (Some (says p.name word))) (λ n. uses_from f (p ∷ ps) (Some n) xs) (uses_from f ps None xs))))
    (sym r.1) (refused_word name f us q i (p ∷ ps) pend at word xs r.0)
other_idle name f us q i (p ∷ ps) pend at word xs (inr r) idles =
    subst (λ b. Comes (shape_for name f) (standing (held us (pended q)) idle i) (word ∷ xs) (said f us q (with_part (cond b None (Some (says p.name word))) (λ n. uses_from f (p ∷ ps) (Some n) xs) (uses_from f ps None xs))))
    (sym r.1) (plain_first name f us q i p ps pend at word xs r.0 idles)

-- ---- the word after an option that awaits its text

module _ (name : Text) (f : Form) (vs : List Use) (p : Choice) (own : Option ℕ) (i : ℕ) (ps : List Choice) (known : IsKnown f p own) (at : At f i ps) where
  abbrev wait : Held
  wait = held vs (Some (p.name, []))

  no_text : Faulty (settle_fault (rules_for f) false wait)
  no_text = subst (λ (o : Option Rule). Faulty (option_map_or (λ a. use_fault false a [] (map row vs)) o [])) (sym known.found) (no_value own p.name p.takes known.texts (map row vs))

  long_faulty : (a : Option Rule) (v : Option Text) → Faulty (long_fault (rules_for f) false a v wait)
  long_faulty None v = tt
  long_faulty (Some a) v = go (takes_values a) v
    where
      go : (b : Bool) (v : Option Text) → Faulty (cond b (option_fault (rules_for f) false a v wait) (cond (is_some v) (kind.TooManyValues ∷ []) (react_fault (rules_for f) false a [] wait)))
      go true (Some t) = faulty_first _ _ no_text
      go true None = no_text
      go false (Some t) = tt
      go false None = faulty_first _ _ no_text

  text_next : (word : Text) (xs : List Text) → PlainTurns (shape_for name f) wait (option p.name) i word → Idles name f xs
      → Comes (shape_for name f) (standing wait (option p.name) i) (word ∷ xs) (after f vs (option_map (λ us. (p.name, word) ∷ us) (uses_from f ps None xs)))
  text_next word xs pt idles =
      subst (Comes (shape_for name f) (standing wait (option p.name) i) (word ∷ xs)) (sym (one_more f vs (p.name, word) (uses_from f ps None xs)))
      (goes (shape_for name f) (standing wait (option p.name) i) (standing (held vs (Some (p.name, word ∷ []))) idle i) word xs _
      pt.turn
      (pt.step ∙ ap (λ (o : Option Rule). standing (option_word o p.name word wait).0 (option_word o p.name word wait).1 i) known.found
      ∙ ap (λ (m : Held × Waiting). standing m.0 m.1 i) (text_step own p.name p.takes known.texts word vs))
      (idles vs (Some (record { choice = p; own = own; text = word })) i ps known at))

  text_word : (word : Text) (xs : List Text) → bytes_eq word dashes ≡ false → Idles name f xs
      → Comes (shape_for name f) (standing wait (option p.name) i) (word ∷ xs) (after f vs (uses_from f ps (Some p.name) (word ∷ xs)))
  text_word word xs ordinary idles = go (long_of word) refl
    where
      by_flag : (b : Bool) → is_flag word ≡ b → Comes (shape_for name f) (standing wait (option p.name) i) (word ∷ xs) (after f vs (cond b None (option_map (λ us. (p.name, word) ∷ us) (uses_from f ps None xs))))
          → Comes (shape_for name f) (standing wait (option p.name) i) (word ∷ xs) (after f vs (uses_from f ps (Some p.name) (word ∷ xs)))
      by_flag b e m = subst (λ b. Comes (shape_for name f) (standing wait (option p.name) i) (word ∷ xs) (after f vs (cond b None (option_map (λ us. (p.name, word) ∷ us) (uses_from f ps None xs))))) (sym e) m

      by_short_of : Shorts (shape_for name f) wait (option p.name) i word
          → Comes (shape_for name f) (standing wait (option p.name) i) (word ∷ xs) (after f vs (uses_from f ps (Some p.name) (word ∷ xs)))
      by_short_of (inl r) = by_flag true r.1 (fails (shape_for name f) (standing wait (option p.name) i) word xs r.0)
      by_short_of (inr r) = by_flag false r.1 (text_next word xs r.0 idles)

      go : (l : Option (Text × Option Text)) → long_of word ≡ l → Comes (shape_for name f) (standing wait (option p.name) i) (word ∷ xs) (after f vs (uses_from f ps (Some p.name) (word ∷ xs)))
      go (Some l) is =
          by_flag true (long_flag word l is) (fails (shape_for name f) (standing wait (option p.name) i) word xs
          (subst Faulty (sym (turns_waiting name f wait p.name i word (Some l) ordinary is).turn) (faulty_first _ _ (long_faulty (arg_by_long (rules_for f) l.0) l.1))))
      go None is = by_short_of (shorts name f vs (Some (p.name, [])) (option p.name) i word ordinary is (turns_waiting name f wait p.name i word None ordinary is))

-- ---- all words

both_false : (a b : Bool) → (a || b) ≡ false → (a ≡ false) × (b ≡ false)
both_false true b e = absurd (true≢false e)
both_false false b e = (refl, e)

abbrev pub NoDashes : List Text → Type 0
NoDashes ws = list_any (λ w. bytes_eq w dashes) ws ≡ false

idle_word : (name : Text) (f : Form) (word : Text) (xs : List Text) → bytes_eq word dashes ≡ false → Idles name f xs → Awaits name f xs → Idles name f (word ∷ xs)
idle_word name f word xs ordinary idles awaiting us q i ps pend at = go (long_of word) refl
  where
    go : (l : Option (Text × Option Text)) → long_of word ≡ l
        → Comes (shape_for name f) (standing (held us (pended q)) idle i) (word ∷ xs) (said f us q (with_part (part_by f ps word l) (λ n. uses_from f ps (Some n) xs) (uses_from f (plain_left l ps) None xs)))
    go (Some p) is = long_idle name f us q i ps pend at word xs p.0 p.1 (turns_idle name f (held us (pended q)) i word (Some p) ordinary is) idles awaiting
    go None is = other_idle name f us q i ps pend at word xs (shorts name f us (pended q) idle i word ordinary is (turns_idle name f (held us (pended q)) i word None ordinary is)) idles

idle_end : (name : Text) (f : Form) → Idles name f []
unfolding walk_fault
idle_end name f us q i ps pend at = go (checked f us (pend_uses q)) (settles f us q pend)
  where
    go : (r : Option (List Use)) → Settles f us (pended q) r
        → Ends (rules_for f) (settle_fault (rules_for f) false (held us (pended q))) (held us (pended q)) (option_and_then (λ vs. after f vs (Some [])) r)
    go None s = s
    go (Some vs) s = s

await_end : (name : Text) (f : Form) → Awaits name f []
unfolding walk_fault
await_end name f vs p own i ps known at = no_text name f vs p own i ps known at

mutual
  pub idles : (name : Text) (f : Form) (ws : List Text) → NoDashes ws → Idles name f ws
  idles name f [] ordinary = idle_end name f
  idles name f (word ∷ ws) ordinary =
      let parts = both_false (bytes_eq word dashes) _ ordinary in
      idle_word name f word ws parts.0 (idles name f ws parts.1) (awaitings name f ws parts.1)

  awaitings : (name : Text) (f : Form) (ws : List Text) → NoDashes ws → Awaits name f ws
  awaitings name f [] ordinary vs p own i ps known at = await_end name f vs p own i ps known at
  awaitings name f (word ∷ ws) ordinary vs p own i ps known at =
      let parts = both_false (bytes_eq word dashes) _ ordinary in
      text_word name f vs p own i ps known at word ws parts.0 (idles name f ws parts.1)
