-- The grammar of the command words:
--
--   words  = "run" option*  |  "load" N option*  |  "ask" NODE KEY option*  |  "audit"
--   option = ("--instances" | "--threads" | "--standbys" | "--commit-every" | "--chaos" | "--stop-after" | "--start" | "--cache") value
--          | "--journal"
--   value  = the next word, or "=" and a text in the same word
--
-- A next word, N, NODE and KEY don't begin with a hyphen and a character. Options, N, NODE and KEY come in any order, NODE before KEY, each option at most once; "--journal" is of "run" alone, "--start" of "ask".
use Rattle.std.specs.Prelude.{ℕ, ◌^◌, ◌==◌, ◌&&◌, ◌||◌, Bool, true, false, not, List, [], ◌∷◌, ◌++◌, length, Option, Some, None, option_map, option_and_then, unwrap_or, is_some, nat_lt, nat_le, slice_get, if◌then◌else◌, codes, find, map, String, string_bytes}
use Rattle.std.specs.declared.alloc.Global.{Global}
use Rattle.std.specs.List.{list_any, list_all, before_first, after_first}
use Rattle.std.specs.Option.{option_map_or}
use Rattle.std.specs.Char.{digit_value}
use Rattle.std.specs.Str.{bytes_eq, chars}
use Rattle.std.specs.Str.Parse.{digits_value, without_leading_plus}
use Rattle.ks_words.specs.declared.command.Command.{Command}
use Rattle.ks_words.specs.declared.command.Command.TheVariants.{Run, Load, Ask, Audit}
use Rattle.ks_record.specs.Texts.{key_from, name_from}
use Rattle.ks_words.specs.declared.settings.Settings.{Settings}

abbrev pub Text : Type 0
Text = List ℕ

-- where the words say nothing else
abbrev pub usual : Settings
usual = record { instances = 1; threads = 1; standbys = 0; interval = 100; chaos = None; stop = None; cache = 0; journal = false }

-- ---- numbers, as Rust's `u64::from_str` reads them: an optional `+`, and digits

abbrev pub number_of : Text → ℕ
number_of text = digits_value 10 (without_leading_plus text)

abbrev pub is_numeral : Text → Bool
is_numeral digits = nat_lt 0 (length digits) && list_all (λ d. nat_lt (digit_value d) 10) digits

-- the text is a number from low to high
abbrev pub is_number_in : ℕ → ℕ → Text → Bool
is_number_in low high text =
    let n = digits_value 10 (without_leading_plus text) in
    is_numeral (without_leading_plus text) && (nat_lt n (2 ^ 64) && (nat_le low n && nat_le n high))

-- ---- the options of each command

-- an option takes a number from low to high, a text, or no value
pub data Takes : Type 0 where
  number : ℕ → ℕ → Takes
  anything : Takes
  nothing : Takes

pub record Choice : Type 0 where
  pub name : Text
  pub takes : Takes

-- a command's options, and what it takes as words of their own, in their order
pub record Form : Type 0 where
  pub options : List Choice
  pub plain : List Choice

unfoldable pub greatest_seed : ℕ
greatest_seed = 9223372036854775807

unfoldable pub greatest_start : ℕ
greatest_start = 9007199254740992

abbrev pub numbered : Text → ℕ → ℕ → Choice
numbered name low high = record { name = name; takes = number low high }

abbrev pub common_options : List Choice
common_options =
    numbered (codes "instances") 1 4
    ∷ numbered (codes "threads") 1 4
    ∷ numbered (codes "standbys") 0 3
    ∷ numbered (codes "commit-every") 1 10000
    ∷ numbered (codes "chaos") 0 greatest_seed
    ∷ numbered (codes "stop-after") 1 1000000
    ∷ numbered (codes "cache") 0 100000
    ∷ []

abbrev pub run_form : Form
run_form = record { options = common_options ++ record { name = codes "journal"; takes = nothing } ∷ []; plain = [] }

abbrev pub load_form : Form
load_form = record { options = common_options; plain = numbered (codes "N") 1 150000 ∷ [] }

abbrev pub free : Text → Choice
free name = record { name = name; takes = anything }

abbrev pub ask_form : Form
ask_form = record { options = common_options ++ numbered (codes "start") 0 greatest_start ∷ []; plain = free (codes "NODE") ∷ free (codes "KEY") ∷ [] }

-- ---- what the words say: names with their texts

-- what follows a first hyphen
abbrev pub after_hyphen : Text → Option Text
after_hyphen [] = None
after_hyphen (x ∷ xs) = if x == 45 then Some xs else None

-- before the first `=`, and after it if there is one
abbrev pub split_at_equals : Text → Option (Text × Option Text)
split_at_equals [] = None
split_at_equals (x ∷ xs) = Some (before_first (λ y. y == 61) (x ∷ xs), if list_any (λ y. y == 61) (x ∷ xs) then Some (after_first (λ y. y == 61) (x ∷ xs)) else None)

-- a word `--NAME` or `--NAME=TEXT`, as its name and text
abbrev pub option_in : Text → Option (Text × Option Text)
option_in word = option_and_then split_at_equals (option_and_then after_hyphen (after_hyphen word))

abbrev pub Use : Type 0
Use = Text × Text

-- a word is an option whose text is the next word, or it says a name with its text
pub data Part : Type 0 where
  awaits : Text → Part
  says : Text → Text → Part

-- an option that takes no value counts as the text `true`
abbrev pub part_with : Text → Takes → Option Text → Option Part
part_with name (number low high) (Some text) = Some (says name text)
part_with name (number low high) None = Some (awaits name)
part_with name anything (Some text) = Some (says name text)
part_with name anything None = Some (awaits name)
part_with name nothing (Some text) = None
part_with name nothing None = Some (says name (codes "true"))

abbrev pub option_named : List Choice → Text → Option Choice
option_named os name = find (λ o. bytes_eq o.name name) os

-- a hyphen and a character after it: such a word is an option, or nothing
abbrev pub is_flag : Text → Bool
is_flag word = option_map_or (λ rest. is_some (slice_get (chars rest) 0)) (after_hyphen word) false

-- of the plain words that no word has filled yet the first
abbrev pub plain_part : List Choice → Text → Option Part
plain_part [] word = None
plain_part (p ∷ ps) word = if is_flag word then None else Some (says p.name word)

abbrev pub part_by : Form → List Choice → Text → Option (Text × Option Text) → Option Part
part_by f ps word (Some p) = option_and_then (λ o. part_with o.name o.takes p.1) (option_named f.options p.0)
part_by f ps word None = plain_part ps word

-- the plain words that are left to fill
abbrev pub plain_left : Option (Text × Option Text) → List Choice → List Choice
plain_left (Some p) ps = ps
plain_left None [] = []
plain_left None (p ∷ ps) = ps

-- a word's part, by what follows: where it awaits its text, and where it doesn't
abbrev pub with_part : Option Part → (Text → Option (List Use)) → Option (List Use) → Option (List Use)
with_part None awaited others = None
with_part (Some (awaits name)) awaited others = awaited name
with_part (Some (says name text)) awaited others = option_map (λ us. (name, text) ∷ us) others

-- what the words say, where an option may await its text, and these plain words are left to fill
abbrev pub uses_from : Form → List Choice → Option Text → List Text → Option (List Use)
uses_from f ps None [] = Some []
uses_from f ps (Some name) [] = None
uses_from f ps None (word ∷ rest) =
    with_part (part_by f ps word (option_in word)) (λ name. uses_from f ps (Some name) rest) (uses_from f (plain_left (option_in word) ps) None rest)
uses_from f ps (Some name) (text ∷ rest) = if is_flag text then None else option_map (λ us. (name, text) ∷ us) (uses_from f ps None rest)

-- ---- each name at most once, each text within its bounds

abbrev pub is_value : Takes → Text → Bool
is_value (number low high) text = is_number_in low high text
is_value anything text = true
is_value nothing text = bytes_eq text (codes "true")

abbrev pub fits : Form → Use → Bool
fits f u = option_map_or (λ o. is_value o.takes u.1) (option_named (f.options ++ f.plain) u.0) false

abbrev pub is_given : Text → List Use → Bool
is_given name us = list_any (λ u. bytes_eq u.0 name) us

abbrev pub checked : Form → List Use → List Use → Option (List Use)
checked f seen [] = Some seen
checked f seen (u ∷ us) = if not (is_given u.0 seen) && fits f u then checked f (seen ++ u ∷ []) us else None

-- a word `--` alone is never in the grammar
abbrev pub uses_in : Form → List Text → Option (List Use)
uses_in f words = if list_any (λ w. bytes_eq w (codes "--")) words then None else option_and_then (checked f []) (uses_from f f.plain None words)

-- ---- the command

abbrev pub text_of : Text → List Use → Option Text
text_of name us = option_map (λ u. u.1) (find (λ u. bytes_eq u.0 name) us)

abbrev pub number_told : Text → List Use → Option ℕ
number_told name us = option_map number_of (text_of name us)

abbrev pub settings_of : List Use → Settings
settings_of us = record {
  instances = unwrap_or (number_told (codes "instances") us) 1;
  threads = unwrap_or (number_told (codes "threads") us) 1;
  standbys = unwrap_or (number_told (codes "standbys") us) 0;
  interval = unwrap_or (number_told (codes "commit-every") us) 100;
  chaos = number_told (codes "chaos") us;
  stop = number_told (codes "stop-after") us;
  cache = unwrap_or (number_told (codes "cache") us) 0;
  journal = is_some (text_of (codes "journal") us);
}

abbrev pub run_command : List Text → Option Command
run_command words = option_map (λ us. Run (settings_of us)) (uses_in run_form words)

abbrev pub load_of : List Use → Option Command
load_of us = option_map (λ n. Load n (settings_of us)) (number_told (codes "N") us)

abbrev pub load_command : List Text → Option Command
load_command words = option_and_then load_of (uses_in load_form words)

-- the name of a node has 1 to 64 letters, digits and `_`
abbrev pub is_name_byte : ℕ → Bool
is_name_byte b = (nat_le 48 b && nat_le b 57) || (nat_le 65 b && nat_le b 90) || (nat_le 97 b && nat_le b 122) || (b == 95)

abbrev pub node_of_word : Text → Option Text
node_of_word word = if list_all is_name_byte word then name_from word else None

-- a key that doesn't begin with a hyphen
abbrev pub key_of_word : Text → Option Text
key_of_word word = if is_some (after_hyphen word) then None else key_from word

abbrev pub ask_with : List Use → Option Text → Option Text → Option Command
ask_with us (Some node) (Some key) = Some (Ask node key (number_told (codes "start") us) (settings_of us))
ask_with us _ _ = None

abbrev pub ask_of : List Use → Option Command
ask_of us = ask_with us (option_and_then node_of_word (text_of (codes "NODE") us)) (option_and_then key_of_word (text_of (codes "KEY") us))

abbrev pub ask_command : List Text → Option Command
ask_command words = option_and_then ask_of (uses_in ask_form words)

-- a word alone
abbrev pub audit_command : List Text → Option Command
audit_command [] = Some Audit
audit_command (word ∷ rest) = None

-- the command that the words name, or none where they aren't in the grammar
abbrev pub command_of : List Text → Option Command
command_of [] = None
command_of (word ∷ rest) =
    if bytes_eq word (codes "run") then run_command rest
    else (if bytes_eq word (codes "load") then load_command rest
    else (if bytes_eq word (codes "ask") then ask_command rest
    else (if bytes_eq word (codes "audit") then audit_command rest else None)))

abbrev pub words_of : List (String Global) → List Text
words_of ws = map string_bytes ws
