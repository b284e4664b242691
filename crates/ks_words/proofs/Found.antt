-- For each command: clap refuses exactly the words that aren't in its grammar, and else finds what they say.
use Rattle.std.proofs.Common.{◌≡◌, ◌≢◌, ◌∙◌, ◌&&◌, ◌||◌, ℕ, Bool, cond, suc, true, false, not, refl, sym, ap, ap₂, subst, List, [], ◌∷◌, ◌++◌, map, Option, Some, None, inl, inr, true≢false, codes}
use Rattle.std.specs.Prelude.{◌⊎◌, IfSome, unwrap_or, option_map, option_and_then, is_some, slice_get, find, fold}
use Rattle.std.specs.Option.{option_map_or}
use Rattle.std.specs.List.{list_any}
use Rattle.std.specs.Str.{bytes_eq}
use Rattle.std.proofs.lemmas.Slice.Eq.{bytes_eq-Decides}
use Rattle.clap.specs.Words.{App, Rule, Row, fault_of, matches_of, rows_of}
use Rattle.clap.specs.Matches.{first_value, found_of, one_text}
use Rattle.clap.specs.Walk.{Walk, default_rows, first_of, has_row, more_values, nothing_held, one_of, row_text, settled_rows, walk, walk_from, with_default}
use Rattle.clap.specs.Simple.{Shape, entered}
use Rattle.clap.specs.Takes as parse
use Rattle.clap.specs.Facts.{explicit_source}
use Rattle.clap.specs.Kinds.{Kinds, or_else}
use Rattle.clap.specs.Faults.{check_fault, default_fault, defaults_fault, entered_fault, given_default_fault, level_fault, settle_fault, walk_fault}
use Rattle.clap.specs.declared.parser.matches.ArgMatches.{ArgMatches}
use Rattle.clap.specs.declared.parser.matches.ValueSource.TheVariants.{DefaultValue}
use Rattle.clap.specs.declared.builder.value_parser.Reading.TheVariants as reading
use Rattle.clap.specs.declared.error.kind.ErrorKind.TheVariants as kind
use Rattle.clap.proofs.WalkLemmas.{first_value-rows, one_text-rows}
use Rattle.ks_words.specs.Grammar.{Text, Use, Takes, number, anything, nothing, Choice, Form, numbered, free, common_options, run_form, load_form, ask_form, greatest_seed, greatest_start, uses_from, fits, checked, is_given, is_number_in, number_of, number_told, text_of, settings_of, run_command, load_command, load_of, ask_command, ask_of, ask_with, node_of_word, key_of_word}
use Rattle.ks_words.specs.Parser.{run_app, load_app, ask_app, Finds, Tells, TellsAsk, TellsNumber}
use Rattle.ks_words.specs.declared.command.Command.{Command}
use Rattle.ks_words.specs.declared.command.Command.TheVariants.{Run, Load}
use Rattle.ks_words.proofs.Rules.{rule, rules_for, plain_rules, shape_for, TakesText, row, Faulty, new_row}
use Rattle.ks_words.proofs.Walks.{Comes, after, idles}

-- ---- what was let in fits

abbrev pub AllFit : Form → List Use → Type 0
AllFit f [] = Unit {0}
AllFit f (u ∷ us) = (fits f u ≡ true) × AllFit f us

fit_last : (f : Form) (us : List Use) (u : Use) → AllFit f us → fits f u ≡ true → AllFit f (us ++ u ∷ [])
fit_last f [] u h fit = (fit, tt)
fit_last f (x ∷ us) u h fit = (h.0, fit_last f us u h.1 fit)

checked_fits : (f : Form) (seen us all : List Use) → AllFit f seen → checked f seen us ≡ Some all → AllFit f all
checked_fits f seen [] all h e = subst (AllFit f) (ap (λ o. unwrap_or o seen) e) h
checked_fits f seen (u ∷ us) all h e = go (not (is_given u.0 seen)) (fits f u) refl e (checked_fits f (seen ++ u ∷ []) us all)
  where
    go : (a b : Bool) → fits f u ≡ b → cond (a && b) (checked f (seen ++ u ∷ []) us) None ≡ Some all
        → (AllFit f (seen ++ u ∷ []) → checked f (seen ++ u ∷ []) us ≡ Some all → AllFit f all) → AllFit f all
    go true true fit same later = later (fit_last f seen u h fit) same
    go true false fit same later = absurd (cc)
    go false b fit same later = absurd (cc)

pub told_fits : (f : Form) (n : Text) (us : List Use) → AllFit f us → IfSome (text_of n us) (λ t. fits f (n, t) ≡ true)
told_fits f n [] h = tt
told_fits f n (u ∷ us) h = go (bytes_eq u.0 n) refl (told_fits f n us h.1)
  where
    go : (b : Bool) → bytes_eq u.0 n ≡ b → IfSome (text_of n us) (λ t. fits f (n, t) ≡ true)
        → IfSome (option_map (λ (u : Use). u.1) (cond b (Some u) (find (λ u. bytes_eq u.0 n) us))) (λ t. fits f (n, t) ≡ true)
    go true hit later = subst (λ (x : Text). fits f (x, u.1) ≡ true) ((bytes_eq-Decides u.0 n).0 hit) h.0
    go false miss later = later

-- ---- the texts in rows

-- the text that a row of a use says, however it is read
abbrev pub ReadsUses : (Row → Option Text) → Type 0
ReadsUses g = (u : Use) → g (row u) ≡ Some u.1

told_rows : (g : Row → Option Text) → ReadsUses g → (n : Text) (us : List Use) → option_and_then g (find (λ r. bytes_eq r.id n) (map row us)) ≡ text_of n us
told_rows g says n [] = refl
told_rows g says n (u ∷ us) = go (bytes_eq u.0 n) (told_rows g says n us)
  where
    go : (b : Bool) → option_and_then g (find (λ r. bytes_eq r.id n) (map row us)) ≡ text_of n us
        → option_and_then g (cond b (Some (row u)) (find (λ r. bytes_eq r.id n) (map row us))) ≡ option_map (λ (u : Use). u.1) (cond b (Some u) (find (λ u. bytes_eq u.0 n) us))
    go true later = says u
    go false later = later

told_more : (g : Row → Option Text) → ReadsUses g → (n : Text) (us : List Use) (d : Row) → bytes_eq d.id n ≡ false → option_and_then g (find (λ r. bytes_eq r.id n) (map row us ++ d ∷ [])) ≡ text_of n us
told_more g says n [] d e = ap (λ b. option_and_then g (cond b (Some d) None)) e
told_more g says n (u ∷ us) d e = go (bytes_eq u.0 n) (told_more g says n us d e)
  where
    go : (b : Bool) → option_and_then g (find (λ r. bytes_eq r.id n) (map row us ++ d ∷ [])) ≡ text_of n us
        → option_and_then g (cond b (Some (row u)) (find (λ r. bytes_eq r.id n) (map row us ++ d ∷ []))) ≡ option_map (λ (u : Use). u.1) (cond b (Some u) (find (λ u. bytes_eq u.0 n) us))
    go true later = says u
    go false later = later

-- where no row has the name, one at the end gives its text
told_last : (us : List Use) (d : Row) → has_row d.id (map row us) ≡ false → one_of d.id (map row us ++ d ∷ []) ≡ row_text d
told_last [] d e = ap (λ b. option_and_then row_text (cond b (Some d) None)) ((bytes_eq-Decides d.id d.id).1 refl)
told_last (u ∷ us) d e = go (bytes_eq u.0 d.id) e (told_last us d)
  where
    go : (b : Bool) → (b || has_row d.id (map row us)) ≡ false → (has_row d.id (map row us) ≡ false → one_of d.id (map row us ++ d ∷ []) ≡ row_text d)
        → option_and_then row_text (cond b (Some (row u)) (find (λ r. bytes_eq r.id d.id) (map row us ++ d ∷ []))) ≡ row_text d
    go true same later = absurd (true≢false same)
    go false same later = later same

given_told : (n : Text) (us : List Use) → has_row n (map row us) ≡ is_some (text_of n us)
given_told n [] = refl
given_told n (u ∷ us) = go (bytes_eq u.0 n) (given_told n us)
  where
    go : (b : Bool) → has_row n (map row us) ≡ is_some (text_of n us)
        → (b || has_row n (map row us)) ≡ is_some (option_map (λ (u : Use). u.1) (cond b (Some u) (find (λ u. bytes_eq u.0 n) us)))
    go true later = refl
    go false later = later

required_told : (n : Text) (us : List Use) → parse.is_given n (map row us) ≡ is_some (text_of n us)
required_told n [] = refl
required_told n (u ∷ us) = go (bytes_eq u.0 n) (required_told n us)
  where
    go : (b : Bool) → parse.is_given n (map row us) ≡ is_some (text_of n us)
        → option_map_or (λ (r : Row). explicit_source r.source) (cond b (Some (row u)) (find (λ r. bytes_eq r.id n) (map row us))) false
        ≡ is_some (option_map (λ (u : Use). u.1) (cond b (Some u) (find (λ u. bytes_eq u.0 n) us)))
    go true later = refl
    go false later = later

-- ---- defaults

abbrev AreTexts : List Choice → Type 0
AreTexts [] = Unit {0}
AreTexts (o ∷ os) = TakesText o.takes × AreTexts os

kept : (own : Option ℕ) (n : Text) (k : Takes) (rows : List Row) → TakesText k → with_default rows (rule own (record { name = n; takes = k })) ≡ rows
kept own n (number low high) rows h = go (has_row n rows)
  where
    go : (b : Bool) → cond b rows rows ≡ rows
    go true = refl
    go false = refl
kept own n anything rows h = go (has_row n rows)
  where
    go : (b : Bool) → cond b rows rows ≡ rows
    go true = refl
    go false = refl
kept own n nothing rows h = absurd h

all_kept : (os : List Choice) → AreTexts os → (rest : List Rule) (rows : List Row) → fold with_default rows (map (rule None) os ++ rest) ≡ fold with_default rows rest
all_kept [] h rest rows = refl
all_kept (o ∷ os) h rest rows = ap (λ (rs : List Row). fold with_default rs (map (rule None) os ++ rest)) (kept None o.name o.takes rows h.0) ∙ all_kept os h.1 rest rows

places_kept : (i : ℕ) (ps : List Choice) → AreTexts ps → (rows : List Row) → fold with_default rows (plain_rules i ps) ≡ rows
places_kept i [] h rows = refl
places_kept i (p ∷ ps) h rows = ap (λ (rs : List Row). fold with_default rs (plain_rules (suc i) ps)) (kept (Some i) p.name p.takes rows h.0) ∙ places_kept (suc i) ps h.1 rows

-- a form of texts alone has no defaults
rows_kept : (f : Form) → AreTexts f.options → AreTexts f.plain → (rows : List Row) → fold with_default rows (rules_for f) ≡ rows
rows_kept f options places rows = all_kept f.options options (plain_rules 1 f.plain) rows ∙ places_kept 1 f.plain places rows

are_common : AreTexts common_options
are_common = (tt, (tt, (tt, (tt, (tt, (tt, (tt, tt)))))))

no_default : (own : Option ℕ) (n : Text) (k : Takes) (rows : List Row) → default_fault rows (rule own (record { name = n; takes = k })) ≡ []
no_default own n (number low high) rows = go (has_row n rows)
  where
    go : (b : Bool) → cond (b || true) [] (given_default_fault (rule own (numbered n low high)) []) ≡ []
    go true = refl
    go false = refl
no_default own n anything rows = go (has_row n rows)
  where
    go : (b : Bool) → cond (b || true) [] (given_default_fault (rule own (free n)) []) ≡ []
    go true = refl
    go false = refl
no_default own n nothing rows = go (has_row n rows)
  where
    go : (b : Bool) → cond (b || false) [] (given_default_fault (rule own (record { name = n; takes = nothing })) (codes "false" ∷ [])) ≡ []
    go true = refl
    go false = refl

no_defaults : (os : List Choice) (i : ℕ) (ps : List Choice) (rows : List Row) → defaults_fault rows (map (rule None) os ++ plain_rules i ps) ≡ []
unfolding defaults_fault
no_defaults [] i [] rows = refl
no_defaults [] i (p ∷ ps) rows = ap₂ or_else (no_default (Some i) p.name p.takes rows) (no_defaults [] (suc i) ps (with_default rows (rule (Some i) p)))
no_defaults (o ∷ os) i ps rows = ap₂ or_else (no_default None o.name o.takes rows) (no_defaults os i ps (with_default rows (rule None o)))

-- ---- the last checks

rest_of : (w s d : Kinds) → or_else w s ≡ [] → or_else w (or_else [] (or_else s d)) ≡ d
rest_of [] s d e = ap (λ k. or_else k d) e
rest_of (k ∷ ks) s d e = absurd (cc)

still_faulty : (w s d : Kinds) → Faulty (or_else w s) → Faulty (or_else w (or_else [] (or_else s d)))
still_faulty [] [] d h = absurd h
still_faulty [] (k ∷ ks) d h = tt
still_faulty (k ∷ ks) s d h = tt

pub not_empty : (k : Kinds) → Faulty k → k ≢ []
not_empty k h e = subst Faulty e h

level_is : (s : Shape) (ws : List Text) (stop : Option (Text × List Text))
    → level_fault s [] nothing_held ws (is_some (entered (record { top = s; subs = [] }) stop)) (entered_fault (record { top = s; subs = [] }) stop) ≡ level_fault s [] nothing_held ws false []
level_is s ws None = refl
level_is s ws (Some p) = refl

abbrev start : Walk
start = walk_from nothing_held

abbrev end_rows : Form → List Text → List Row
end_rows f ws = settled_rows (rules_for f) (walk (rules_for f) [] nothing_held ws).held.pending (walk (rules_for f) [] nothing_held ws).held.rows

-- a walk that ends well has only the last checks before it
module _ (name : Text) (f : Form) (ws : List Text) where
  passed : (us : List Use) → Comes (shape_for name f) start ws (Some us)
      → level_fault (shape_for name f) [] nothing_held ws false [] ≡ check_fault (shape_for name f) (fold with_default (map row us) (rules_for f)) false
  passed us m =
      let s = settle_fault (rules_for f) false (walk (rules_for f) [] nothing_held ws).held in
      rest_of (walk_fault (shape_for name f) [] start ws) s _ m.0
      ∙ ap₂ or_else (no_defaults f.options 1 f.plain (end_rows f ws)) (ap (λ (rs : List Row). check_fault (shape_for name f) (fold with_default rs (rules_for f)) false) m.1)

  faulty : Comes (shape_for name f) start ws None → Faulty (level_fault (shape_for name f) [] nothing_held ws false [])
  faulty m = still_faulty (walk_fault (shape_for name f) [] start ws) _ _ m

-- ---- the commands

-- what clap found tells these uses
pub record ToldBy (rows : List Row) (f : Form) (us : List Use) : Type 0 where
  pub fit : AllFit f us
  pub told : (g : Row → Option Text) → ReadsUses g → (n : Text) → bytes_eq (codes "journal") n ≡ false → option_and_then g (find (λ r. bytes_eq r.id n) rows) ≡ text_of n us
  pub given : is_some (text_of (codes "journal") us) ≡ true → one_of (codes "journal") rows ≡ text_of (codes "journal") us
  pub absent : is_some (text_of (codes "journal") us) ≡ false → (one_of (codes "journal") rows ≡ Some (codes "false")) ⊎ (one_of (codes "journal") rows ≡ None)

abbrev Judges : App → Form → List Text → Option (List Use) → Type 0
Judges app f ws None = Faulty (fault_of app ws)
Judges app f ws (Some us) = (fault_of app ws ≡ []) × ToldBy (matches_of app ws) f us

after_fits : (f : Form) (o : Option (List Use)) → IfSome (after f [] o) (AllFit f)
after_fits f None = tt
after_fits f (Some us) = go (checked f [] us) refl
  where
    go : (r : Option (List Use)) → checked f [] us ≡ r → IfSome r (AllFit f)
    go None e = tt
    go (Some all) e = checked_fits f [] us all tt e

abbrev NoDashes : List Text → Type 0
NoDashes ws = list_any (λ w. bytes_eq w (codes "--")) ws ≡ false

-- ---- `run`

abbrev journal : Choice
journal = record { name = codes "journal"; takes = nothing }

-- the row of a `--journal` that isn't given
abbrev no_journal : Row
no_journal = record { id = codes "journal"; values = codes "false" ∷ []; count = None; source = Some DefaultValue; reading = reading.AsWritten }

run_rows : (us : List Use) → AllFit run_form us → ToldBy (fold with_default (map row us) (rules_for run_form)) run_form us
run_rows us fit = subst (λ (rs : List Row). ToldBy rs run_form us) (sym (all_kept common_options are_common (rule None journal ∷ []) (map row us))) (go (has_row (codes "journal") (map row us)) refl)
  where
    go : (b : Bool) → has_row (codes "journal") (map row us) ≡ b
        → ToldBy (cond b (map row us) (default_rows (codes "journal") reading.AsWritten (codes "false" ∷ []) (map row us))) run_form us
    go true hit = record {
      fit = fit;
      told = λ g says n other. told_rows g says n us;
      given = λ e. told_rows row_text (λ u. refl) (codes "journal") us;
      absent = λ e. absurd (true≢false (sym hit ∙ given_told (codes "journal") us ∙ e));
    }
    go false miss = subst (λ (rs : List Row). ToldBy rs run_form us) (sym (new_row (codes "journal") (more_values DefaultValue (codes "false" ∷ [])) (no_journal ∷ []) (map row us) miss)) (record {
      fit = fit;
      told = λ g says n other. told_more g says n us no_journal other;
      given = λ e. absurd (true≢false (sym e ∙ sym (given_told (codes "journal") us) ∙ miss));
      absent = λ e. inl (told_last us no_journal miss);
    })

run_judged : (ws : List Text) → NoDashes ws → Judges run_app run_form ws (after run_form [] (uses_from run_form [] None ws))
run_judged ws plain = go (after run_form [] (uses_from run_form [] None ws)) (after_fits run_form (uses_from run_form [] None ws)) (idles (codes "run") run_form ws plain [] None 1 [] tt refl)
  where
    fault_is : fault_of run_app ws ≡ level_fault (shape_for (codes "run") run_form) [] nothing_held ws false []
    fault_is = level_is (shape_for (codes "run") run_form) ws (walk (rules_for run_form) [] nothing_held ws).stopped

    go : (r : Option (List Use)) → IfSome r (AllFit run_form) → Comes (shape_for (codes "run") run_form) start ws r → Judges run_app run_form ws r
    go None h m = subst Faulty (sym fault_is) (faulty (codes "run") run_form ws m)
    go (Some us) h m = (
      fault_is ∙ passed (codes "run") run_form ws us m,
      subst (λ (rs : List Row). ToldBy (fold with_default rs (rules_for run_form)) run_form us) (sym m.1) (run_rows us h),
    )

-- ---- commands of texts alone, with words of their own

-- one of the plain words isn't there
abbrev pub lacks : List Choice → List Use → Bool
lacks ps us = list_any (λ p. not (is_some (text_of p.name us))) ps

abbrev pub with_all : List Choice → List Use → Option (List Use)
with_all ps us = cond (lacks ps us) None (Some us)

told_by_rows : (f : Form) (us : List Use) → AllFit f us → ToldBy (map row us) f us
told_by_rows f us fit = record {
  fit = fit;
  told = λ g says n other. told_rows g says n us;
  given = λ e. told_rows row_text (λ u. refl) (codes "journal") us;
  absent = λ e. inr (told_rows row_text (λ u. refl) (codes "journal") us ∙ none (text_of (codes "journal") us) e);
}
  where
    none : (o : Option Text) → is_some o ≡ false → o ≡ None
    none None e = refl
    none (Some t) e = absurd (true≢false e)

module _ (name : Text) (f : Form) (app : App) (ws : List Text) (options : AreTexts f.options) (places : AreTexts f.plain)
    (fault_is : fault_of app ws ≡ level_fault (shape_for name f) [] nothing_held ws false [])
    (rows_are : matches_of app ws ≡ fold with_default (end_rows f ws) (rules_for f))
    (check_is : (us : List Use) → check_fault (shape_for name f) (map row us) false ≡ cond (lacks f.plain us) (kind.MissingRequiredArgument ∷ []) []) where
  judged : (r : Option (List Use)) → IfSome r (AllFit f) → Comes (shape_for name f) start ws r → Judges app f ws (option_and_then (with_all f.plain) r)
  judged None h m = subst Faulty (sym fault_is) (faulty name f ws m)
  judged (Some us) h m = go (lacks f.plain us) refl
    where
      fault : (b : Bool) → lacks f.plain us ≡ b → fault_of app ws ≡ cond b (kind.MissingRequiredArgument ∷ []) []
      fault b e = fault_is ∙ passed name f ws us m ∙ ap (λ (rs : List Row). check_fault (shape_for name f) rs false) (rows_kept f options places (map row us)) ∙ check_is us ∙ ap (λ b. cond b (kind.MissingRequiredArgument ∷ []) []) e

      told : ToldBy (matches_of app ws) f us
      told = subst (λ (rs : List Row). ToldBy rs f us) (sym (rows_are ∙ rows_kept f options places (end_rows f ws) ∙ m.1)) (told_by_rows f us h)

      go : (b : Bool) → lacks f.plain us ≡ b → Judges app f ws (cond b None (Some us))
      go true e = subst Faulty (sym (fault true e)) tt
      go false e = (fault false e, told)

load_judged : (ws : List Text) → NoDashes ws → Judges load_app load_form ws (option_and_then (with_all load_form.plain) (after load_form [] (uses_from load_form load_form.plain None ws)))
load_judged ws plain =
    judged (codes "load") load_form load_app ws are_common (tt, tt)
    (level_is (shape_for (codes "load") load_form) ws (walk (rules_for load_form) [] nothing_held ws).stopped) refl
    (λ us. ap (λ b. cond (not b || false) (kind.MissingRequiredArgument ∷ []) []) (required_told (codes "N") us))
    (after load_form [] (uses_from load_form load_form.plain None ws)) (after_fits load_form (uses_from load_form load_form.plain None ws))
    (idles (codes "load") load_form ws plain [] None 1 load_form.plain tt (record { named = refl; found = refl; texts = tt }, refl, refl))

ask_judged : (ws : List Text) → NoDashes ws → Judges ask_app ask_form ws (option_and_then (with_all ask_form.plain) (after ask_form [] (uses_from ask_form ask_form.plain None ws)))
ask_judged ws plain =
    judged (codes "ask") ask_form ask_app ws (tt, (tt, (tt, (tt, (tt, (tt, (tt, (tt, tt)))))))) (tt, (tt, tt))
    (level_is (shape_for (codes "ask") ask_form) ws (walk (rules_for ask_form) [] nothing_held ws).stopped) refl
    (λ us. ap₂ (λ a b. cond (not a || (not b || false)) (kind.MissingRequiredArgument ∷ []) []) (required_told (codes "NODE") us) (required_told (codes "KEY") us))
    (after ask_form [] (uses_from ask_form ask_form.plain None ws)) (after_fits ask_form (uses_from ask_form ask_form.plain None ws))
    (idles (codes "ask") ask_form ws plain [] None 1 ask_form.plain tt (record { named = refl; found = refl; texts = tt }, refl, (record { named = refl; found = refl; texts = tt }, refl, refl)))

-- ---- what the code reads

-- a form has the options that all commands have, and `--journal` as a flag alone
pub record HasCommon (f : Form) : Type 0 where
  pub instances : (t : Text) → fits f (codes "instances", t) ≡ is_number_in 1 4 t
  pub threads : (t : Text) → fits f (codes "threads", t) ≡ is_number_in 1 4 t
  pub standbys : (t : Text) → fits f (codes "standbys", t) ≡ is_number_in 0 3 t
  pub interval : (t : Text) → fits f (codes "commit-every", t) ≡ is_number_in 1 10000 t
  pub chaos : (t : Text) → fits f (codes "chaos", t) ≡ is_number_in 0 greatest_seed t
  pub stop : (t : Text) → fits f (codes "stop-after", t) ≡ is_number_in 1 1000000 t
  pub cache : (t : Text) → fits f (codes "cache", t) ≡ is_number_in 0 100000 t
  pub journal : (t : Text) → fits f (codes "journal", t) ≡ true → t ≡ codes "true"

run_common : HasCommon run_form
run_common = record {
  instances = λ t. refl;
  threads = λ t. refl;
  standbys = λ t. refl;
  interval = λ t. refl;
  chaos = λ t. refl;
  stop = λ t. refl;
  cache = λ t. refl;
  journal = λ t h. (bytes_eq-Decides t (codes "true")).0 h;
}

load_common : HasCommon load_form
load_common = record {
  instances = λ t. refl;
  threads = λ t. refl;
  standbys = λ t. refl;
  interval = λ t. refl;
  chaos = λ t. refl;
  stop = λ t. refl;
  cache = λ t. refl;
  journal = λ t h. absurd (true≢false (sym h));
}

ask_common : HasCommon ask_form
ask_common = record {
  instances = λ t. refl;
  threads = λ t. refl;
  standbys = λ t. refl;
  interval = λ t. refl;
  chaos = λ t. refl;
  stop = λ t. refl;
  cache = λ t. refl;
  journal = λ t h. absurd (true≢false (sym h));
}

module _ (f : Form) (m : ArgMatches) (rows : List Row) (us : List Use) (told : ToldBy rows f us) (is : rows_of (found_of m) ≡ rows) where
  tells_number : (n : Text) (low high : ℕ) → bytes_eq (codes "journal") n ≡ false → ((t : Text) → fits f (n, t) ≡ is_number_in low high t) → TellsNumber (found_of m) us n low high
  tells_number n low high other same = (one_text-rows (found_of m) n ∙ ap (one_of n) is ∙ told.told row_text (λ u. refl) n other, go (text_of n us) (told_fits f n us told.fit))
    where
      go : (o : Option Text) → IfSome o (λ t. fits f (n, t) ≡ true) → IfSome o (λ t. is_number_in low high t ≡ true)
      go None h = tt
      go (Some t) h = sym (same t) ∙ h

  tells_text : (n : Text) → bytes_eq (codes "journal") n ≡ false → first_value (found_of m) n ≡ text_of n us
  tells_text n other = first_value-rows (found_of m) n ∙ ap (first_of n) is ∙ told.told (λ r. slice_get r.values 0) (λ u. refl) n other

  -- a `--journal` counts as `true`
  is_true : ((t : Text) → fits f (codes "journal", t) ≡ true → t ≡ codes "true") → is_some (text_of (codes "journal") us) ≡ true → text_of (codes "journal") us ≡ Some (codes "true")
  is_true only some = go (text_of (codes "journal") us) (told_fits f (codes "journal") us told.fit) some
    where
      go : (o : Option Text) → IfSome o (λ t. fits f (codes "journal", t) ≡ true) → is_some o ≡ true → o ≡ Some (codes "true")
      go None h e = absurd (true≢false (sym e))
      go (Some t) h e = ap Some (only t h)

  tells : HasCommon f → Tells (found_of m) us
  tells common = record {
    instances = tells_number (codes "instances") 1 4 refl common.instances;
    threads = tells_number (codes "threads") 1 4 refl common.threads;
    standbys = tells_number (codes "standbys") 0 3 refl common.standbys;
    interval = tells_number (codes "commit-every") 1 10000 refl common.interval;
    chaos = tells_number (codes "chaos") 0 greatest_seed refl common.chaos;
    stop = tells_number (codes "stop-after") 1 1000000 refl common.stop;
    cache = tells_number (codes "cache") 0 100000 refl common.cache;
    given = λ e. one_text-rows (found_of m) (codes "journal") ∙ ap (one_of (codes "journal")) is ∙ told.given e ∙ is_true common.journal e;
    absent = λ e. at_rows (told.absent e);
  }
    where
      at_rows : (one_of (codes "journal") rows ≡ Some (codes "false")) ⊎ (one_of (codes "journal") rows ≡ None)
          → (one_text (found_of m) (codes "journal") ≡ Some (codes "false")) ⊎ (one_text (found_of m) (codes "journal") ≡ None)
      at_rows (inl e) = inl (one_text-rows (found_of m) (codes "journal") ∙ ap (one_of (codes "journal")) is ∙ e)
      at_rows (inr e) = inr (one_text-rows (found_of m) (codes "journal") ∙ ap (one_of (codes "journal")) is ∙ e)

load_tells_orders : (m : ArgMatches) (ws : List Text) (us : List Use) → ToldBy (matches_of load_app ws) load_form us → rows_of (found_of m) ≡ matches_of load_app ws → TellsNumber (found_of m) us (codes "N") 1 150000
load_tells_orders m ws us told is = tells_number load_form m (matches_of load_app ws) us told is (codes "N") 1 150000 refl (λ t. refl)

ask_tells : (m : ArgMatches) (ws : List Text) (us : List Use) → ToldBy (matches_of ask_app ws) ask_form us → rows_of (found_of m) ≡ matches_of ask_app ws → TellsAsk (found_of m) us
ask_tells m ws us told is = record {
  settings = tells ask_form m (matches_of ask_app ws) us told is ask_common;
  node = tells_text ask_form m (matches_of ask_app ws) us told is (codes "NODE") refl;
  key = tells_text ask_form m (matches_of ask_app ws) us told is (codes "KEY") refl;
  start = tells_number ask_form m (matches_of ask_app ws) us told is (codes "start") 0 greatest_start refl (λ t. refl);
}

-- ---- the command

abbrev pub dashed : List Text → Bool
dashed ws = list_any (λ w. bytes_eq w (codes "--")) ws

-- what clap finds is a command, and what it refuses is none
pub run_of_dashes : (ws : List Text) → dashed ws ≡ true → None ≡ run_command ws
run_of_dashes ws e = ap (λ b. option_map (λ us. Run (settings_of us)) (cond b None (after run_form [] (uses_from run_form [] None ws)))) (sym e)

pub load_of_dashes : (ws : List Text) → dashed ws ≡ true → None ≡ load_command ws
load_of_dashes ws e = ap (λ b. option_and_then load_of (cond b None (after load_form [] (uses_from load_form load_form.plain None ws)))) (sym e)

pub ask_of_dashes : (ws : List Text) → dashed ws ≡ true → None ≡ ask_command ws
ask_of_dashes ws e = ap (λ b. option_and_then ask_of (cond b None (after ask_form [] (uses_from ask_form ask_form.plain None ws)))) (sym e)

-- where clap finds nothing there is no command, and else the one of its settings
abbrev pub RunIs : Option ArgMatches → Option Command → Type 0
RunIs None c = None ≡ c
RunIs (Some m) c = (us : List Use) × Tells (found_of m) us × (Some (Run (settings_of us)) ≡ c)

pub run_is : (ws : List Text) (o : Option ArgMatches) → dashed ws ≡ false → Finds run_app ws o → RunIs o (run_command ws)
run_is ws o plain finds =
    subst (λ b. RunIs o (option_map (λ us. Run (settings_of us)) (cond b None (after run_form [] (uses_from run_form [] None ws))))) (sym plain) (go o finds (after run_form [] (uses_from run_form [] None ws)) (run_judged ws plain))
  where
    go : (o : Option ArgMatches) → Finds run_app ws o → (r : Option (List Use)) → Judges run_app run_form ws r → RunIs o (option_map (λ us. Run (settings_of us)) r)
    go None h None j = refl
    go None h (Some us) j = absurd (h j.0)
    go (Some m) h None j = absurd (not_empty _ j h.0)
    go (Some m) h (Some us) j = (us, tells run_form m (matches_of run_app ws) us j.1 h.1 run_common, refl)

abbrev pub LoadIs : Option ArgMatches → Option Command → Type 0
LoadIs None c = None ≡ c
LoadIs (Some m) c = (us : List Use) × (n : ℕ) × Tells (found_of m) us × TellsNumber (found_of m) us (codes "N") 1 150000 × (number_told (codes "N") us ≡ Some n) × (Some (Load n (settings_of us)) ≡ c)

pub load_is : (ws : List Text) (o : Option ArgMatches) → dashed ws ≡ false → Finds load_app ws o → LoadIs o (load_command ws)
load_is ws o plain finds =
    subst (λ b. LoadIs o (option_and_then load_of (cond b None (after load_form [] (uses_from load_form load_form.plain None ws))))) (sym plain)
    (go o finds (after load_form [] (uses_from load_form load_form.plain None ws)) (load_judged ws plain))
  where
    by_orders : (o : Option ArgMatches) → Finds load_app ws o → (us : List Use) (t : Option Text) → text_of (codes "N") us ≡ t → Judges load_app load_form ws (cond (not (is_some t) || false) None (Some us))
        → LoadIs o (option_map (λ n. Load n (settings_of us)) (option_map number_of t))
    by_orders None h us None e j = refl
    by_orders None h us (Some t) e j = absurd (h j.0)
    by_orders (Some m) h us None e j = absurd (not_empty _ j h.0)
    by_orders (Some m) h us (Some t) e j = (us, number_of t, tells load_form m (matches_of load_app ws) us j.1 h.1 load_common, load_tells_orders m ws us j.1 h.1, ap (option_map number_of) e, refl)

    go : (o : Option ArgMatches) → Finds load_app ws o → (r : Option (List Use)) → Judges load_app load_form ws (option_and_then (with_all load_form.plain) r) → LoadIs o (option_and_then load_of r)
    go None h None j = refl
    go (Some m) h None j = absurd (not_empty _ j h.0)
    go o h (Some us) j = by_orders o h us (text_of (codes "N") us) refl j

abbrev pub AskIs : Option ArgMatches → Option Command → Type 0
AskIs None c = None ≡ c
AskIs (Some m) c = (us : List Use) × TellsAsk (found_of m) us × (ask_of us ≡ c)

pub no_ask : (us : List Use) (node : Option Text) → None ≡ ask_with us node None
no_ask us None = refl
no_ask us (Some n) = refl

pub ask_is : (ws : List Text) (o : Option ArgMatches) → dashed ws ≡ false → Finds ask_app ws o → AskIs o (ask_command ws)
ask_is ws o plain finds =
    subst (λ b. AskIs o (option_and_then ask_of (cond b None (after ask_form [] (uses_from ask_form ask_form.plain None ws))))) (sym plain)
    (go o finds (after ask_form [] (uses_from ask_form ask_form.plain None ws)) (ask_judged ws plain))
  where
    by_texts : (o : Option ArgMatches) → Finds ask_app ws o → (us : List Use) (node key : Option Text) → text_of (codes "NODE") us ≡ node → text_of (codes "KEY") us ≡ key
        → Judges ask_app ask_form ws (cond (not (is_some node) || (not (is_some key) || false)) None (Some us))
        → AskIs o (ask_with us (option_and_then node_of_word node) (option_and_then key_of_word key))
    by_texts None h us None key a b j = refl
    by_texts None h us (Some node) None a b j = no_ask us (node_of_word node)
    by_texts None h us (Some node) (Some key) a b j = absurd (h j.0)
    by_texts (Some m) h us None key a b j = absurd (not_empty _ j h.0)
    by_texts (Some m) h us (Some node) None a b j = absurd (not_empty _ j h.0)
    by_texts (Some m) h us (Some node) (Some key) a b j = (us, ask_tells m ws us j.1 h.1, ap₂ (λ (x y : Option Text). ask_with us (option_and_then node_of_word x) (option_and_then key_of_word y)) a b)

    go : (o : Option ArgMatches) → Finds ask_app ws o → (r : Option (List Use)) → Judges ask_app ask_form ws (option_and_then (with_all ask_form.plain) r) → AskIs o (option_and_then ask_of r)
    go None h None j = refl
    go (Some m) h None j = absurd (not_empty _ j h.0)
    go o h (Some us) j = by_texts o h us (text_of (codes "NODE") us) (text_of (codes "KEY") us) refl refl j
