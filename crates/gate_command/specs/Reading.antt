-- The reading of the words, one after another, as the code does it.
use Rattle.std.specs.Prelude.{ℕ, ◌+◌, ◌-◌, ◌==◌, ◌||◌, ◌&&◌, not, nat_lt, nat_le, Bool, true, false}
use Rattle.std.specs.Prelude.{if◌then◌else◌, List, [], ◌∷◌, length, map, Option, Some, None}
use Rattle.std.specs.Prelude.{is_none, option_map, unwrap_or, Result, Ok, Err, codes, slice_index}
use Rattle.std.specs.Prelude.{bytes_eq}
use Rattle.std.specs.Char.{is_ascii}
use Rattle.std.specs.List.{list_all, list_any, slice_split}
use Rattle.std.specs.Option.{option_and_then, option_map_or}
use Rattle.std.specs.Str.{all_ascii_digits, is_utf8}
use Rattle.std.specs.Str.Parse.{digits_value}
use Rattle.gate_model.specs.Setup.{is_named}
use Rattle.gate_model.specs.declared.setup.Route.{Route}
use Rattle.gate_command.specs.declared.options.OptionName.{OptionName}
use Rattle.gate_command.specs.declared.options.OptionName.TheVariants.{Listen, Upstream, Name, Host}
use Rattle.gate_command.specs.declared.options.OptionName.TheVariants.{Vhost, Exchange, Pairs}
use Rattle.gate_command.specs.declared.options.OptionName.TheVariants.{Turns, Capture}
use Rattle.gate_command.specs.declared.words.Asked.{Asked}
use Rattle.gate_command.specs.declared.words.Asked.TheVariants.{Replay}
use Rattle.gate_command.specs.declared.words.Format.{Format}
use Rattle.gate_command.specs.declared.words.Format.TheVariants as format
use Rattle.gate_command.specs.declared.words.Misplaced.{Misplaced}
use Rattle.gate_command.specs.declared.words.Misplaced.TheVariants.{Word, End}
use Rattle.gate_command.specs.Command.{Setting, listen_at, upstream_at, known_as, host_named}
use Rattle.gate_command.specs.Command.{vhost_named, exchanges_at, pair_count, turn_count}
use Rattle.gate_command.specs.Command.{capture_to, Settings, with_setting, nothing_given, asked_of}
use Rattle.gate_command.specs.Command.{begins_with_minus, has_line_feed, shown_as}

-- where the reading stands: between options, or after an option's name, whose value is the next
-- word
pub data State : Type 0 where
  between : Settings → State
  awaiting : OptionName → Settings → State

-- the option isn't given yet
abbrev pub is_free : OptionName → Settings → Bool
is_free Listen s = is_none s.listen
is_free Upstream s = is_none s.upstream
is_free Name s = is_none s.name
is_free Host s = is_none s.host
is_free Vhost s = is_none s.vhost
is_free Exchange s = is_none s.exchange
is_free Pairs s = is_none s.pairs
is_free Turns s = is_none s.turns
is_free Capture s = is_none s.capture

-- what stands before the first `=` of a word, and what stands after it, where there is one
abbrev pub cut : List ℕ → List ℕ × Option (List ℕ)
cut [] = ([], None)
cut (byte ∷ bytes) = if byte == 61 then ([], Some bytes) else (byte ∷ (cut bytes).0, (cut bytes).1)

-- the option with this name
unfoldable pub option_named : List ℕ → Option OptionName
option_named text =
    if bytes_eq text (codes "--listen") then Some Listen
    else (if bytes_eq text (codes "--upstream") then Some Upstream
    else (if bytes_eq text (codes "--name") then Some Name
    else (if bytes_eq text (codes "--host") then Some Host
    else (if bytes_eq text (codes "--vhost") then Some Vhost
    else (if bytes_eq text (codes "--exchange") then Some Exchange
    else (if bytes_eq text (codes "--pairs") then Some Pairs
    else (if bytes_eq text (codes "--turns") then Some Turns
    else (if bytes_eq text (codes "--capture") then Some Capture else None))))))))

-- the text is digits, and the first of them isn't 0
abbrev pub is_numeral : List ℕ → Bool
is_numeral text = nat_lt 48 (slice_index text 0) && all_ascii_digits text

-- the number from 1 to `most` that the text writes
unfoldable pub number_in : ℕ → List ℕ → Option ℕ
number_in most text =
    if is_numeral text && nat_le (digits_value 10 text) most then Some (digits_value 10 text)
    else None

-- a text that isn't empty, one of at most so many bytes, and those that all pairs of a run share
abbrev pub text_in : List ℕ → Option (List ℕ)
text_in text = if length text == 0 then None else Some text

unfoldable pub short_in : ℕ → List ℕ → Option (List ℕ)
short_in most text = if nat_le (length text) most then text_in text else None

unfoldable pub name_in : List ℕ → Option (List ℕ)
name_in text = if list_all is_ascii text then short_in 100 text else None

unfoldable pub host_in : List ℕ → Option (List ℕ)
host_in text = if is_utf8 text then short_in 200 text else None

-- a part of a list of exchanges, cut at its first `=`; without one its address is empty
abbrev pub route_of : List ℕ → Route
route_of part = record { exchange = (cut part).0; address = unwrap_or (cut part).1 [] }

-- all parts
unfoldable pub routes_of : List ℕ → List Route
routes_of text = map route_of (slice_split (λ byte. byte == 44) text)

-- a part may stand in a list
abbrev pub is_sized : List ℕ → Bool
is_sized text = nat_lt 0 (length text) && nat_le (length text) 255

abbrev pub is_route : Route → Bool
is_route r =
    is_sized r.exchange && is_sized r.address && not (list_any (λ byte. byte == 61) r.address)

-- each part may, and no exchange is named twice
unfoldable pub are_routes : List Route → Bool
are_routes [] = true
are_routes (r ∷ rs) = is_route r && not (list_any (is_named r.exchange) rs) && are_routes rs

-- the exchanges that the text lists
unfoldable pub routes_in : List ℕ → Option (List Route)
routes_in text = if are_routes (routes_of text) then Some (routes_of text) else None

-- what the option says with this value
abbrev pub setting_in : OptionName → List ℕ → Option Setting
setting_in Listen value = option_map listen_at (text_in value)
setting_in Upstream value = option_map upstream_at (text_in value)
setting_in Name value = option_map known_as (name_in value)
setting_in Host value = option_map host_named (host_in value)
setting_in Vhost value = option_map vhost_named (short_in 255 value)
setting_in Exchange value = option_map exchanges_at (routes_in value)
setting_in Pairs value = option_map pair_count (number_in 4294967295 value)
setting_in Turns value = option_map turn_count (number_in 140737488355328 value)
setting_in Capture value = option_map capture_to (text_in value)

-- the settings and this option's value
unfoldable pub set_in : OptionName → List ℕ → Settings → Option Settings
set_in option value s = option_map (λ setting. with_setting setting s) (setting_in option value)

-- after an option's name, and the value that follows it in the same word, where one does
abbrev pub opened : OptionName → Option (List ℕ) → Settings → Option State
opened option None s = Some (awaiting option s)
opened option (Some value) s = option_map between (set_in option value s)

-- after an option's first word
unfoldable pub option_in : List ℕ → Settings → Option State
option_in word s =
    option_and_then (λ option. if is_free option s then opened option (cut word).1 s else None)
    (option_named (cut word).0)

-- after a word, `None` where it can't stand
abbrev pub step : State → List ℕ → Option State
step (between s) word = option_in word s
step (awaiting option s) word =
    if begins_with_minus word then None else option_map between (set_in option word s)

-- the same where line feeds, and more bytes than there is room for, can't stand
unfoldable pub word_in : ℕ → State → List ℕ → Option State
word_in room state word =
    if has_line_feed word || nat_lt room (length word) then None else step state word

-- at the end of the words
abbrev pub ended : State → Result Settings Misplaced
ended (between s) = Ok s
ended (awaiting option s) = Err End

-- the words from word k on, with room for so many bytes
unfoldable pub words_in : ℕ → ℕ → State → List (List ℕ) → Result Settings Misplaced
words_in k room state [] = ended state
words_in k room state (word ∷ words) =
    option_map_or (λ next. words_in (k + 1) (room - length word) next words)
    (word_in room state word) (Err (Word k))

-- a command, with what its options say
pub data Request : Type 0 where
  serving : Settings → Request
  replaying : Request
  showing : Format → Request

-- what it asks for
abbrev pub asked_by : Request → Asked
asked_by (serving s) = asked_of s
asked_by replaying = Replay
asked_by (showing what) = shown_as what

-- no word follows
abbrev pub last_in : ℕ → Request → List (List ℕ) → Result Request Misplaced
last_in k request [] = Ok request
last_in k request (word ∷ words) = Err (Word k)

-- the format with this name
unfoldable pub format_named : List ℕ → Option Format
format_named word =
    if bytes_eq word (codes "091") then Some format.Amqp091
    else (if bytes_eq word (codes "10") then Some format.Amqp10
    else (if bytes_eq word (codes "capture") then Some format.Capture else None))

-- behind the name of a format no word follows
abbrev pub format_in : Option Format → List (List ℕ) → Result Request Misplaced
format_in None words = Err (Word 2)
format_in (Some what) words = last_in 3 (showing what) words

-- after `show`
abbrev pub shown_in : List (List ℕ) → Result Request Misplaced
shown_in [] = Err End
shown_in (word ∷ words) = format_in (format_named word) words

-- after `serve`
abbrev pub served_in : Result Settings Misplaced → Result Request Misplaced
served_in (Ok s) = Ok (serving s)
served_in (Err misplaced) = Err misplaced

-- after the first word, which is one of three or none of them
abbrev pub after_first : (serve replay show : Bool) → List (List ℕ) → Result Request Misplaced
after_first true replay show words = served_in (words_in 2 65536 (between nothing_given) words)
after_first false true show words = last_in 2 replaying words
after_first false false true words = shown_in words
after_first false false false words = Err (Word 1)

-- all words
unfoldable pub command_in : List (List ℕ) → Result Request Misplaced
command_in [] = Err End
command_in (word ∷ words) =
    after_first (bytes_eq word (codes "serve")) (bytes_eq word (codes "replay")) (bytes_eq word
    (codes "show")) words
