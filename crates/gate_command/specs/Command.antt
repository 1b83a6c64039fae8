-- The command line: which lists of words there are, and what each asks for. A word is the list of
-- its bytes.
use Rattle.std.specs.Prelude.{◌≡◌, ◌≢◌, ◌⊎◌, ℕ, ◌-◌, ◌≤◌, ◌<◌, ◌==◌, ◌||◌, Bool, false, ⊤, List}
use Rattle.std.specs.Prelude.{[], ◌∷◌, ◌++◌, length, map, take, drop, sum_by, slice_index}
use Rattle.std.specs.Prelude.{slice_index_or, Option, Some, None, unwrap_or, codes, decimal}
use Rattle.std.specs.List.{flat_map, join_with_byte, list_any, slice_split, AllByRecursion}
use Rattle.gate_model.specs.Setup as setup
use Rattle.gate_model.specs.Setup.{AreRoutes, IsHost, IsName, SetupText}
use Rattle.gate_model.specs.declared.setup.Route.{Route}
use Rattle.gate_runs.specs.declared.limits.Limits.{Limits}
use Rattle.gate_runs.specs.Form as form
use Rattle.gate_command.specs.declared.options.OptionName.{OptionName}
use Rattle.gate_command.specs.declared.options.OptionName.TheVariants.{Listen, Upstream, Name, Host}
use Rattle.gate_command.specs.declared.options.OptionName.TheVariants.{Vhost, Exchange, Pairs}
use Rattle.gate_command.specs.declared.options.OptionName.TheVariants.{Turns, Capture}
use Rattle.gate_command.specs.declared.words.Asked.{Asked}
use Rattle.gate_command.specs.declared.words.Asked.TheVariants.{Serve, Replay, Show091, Show10}
use Rattle.gate_command.specs.declared.words.Asked.TheVariants.{ShowCapture}
use Rattle.gate_command.specs.declared.words.Format.{Format}
use Rattle.gate_command.specs.declared.words.Format.TheVariants as format
use Rattle.gate_command.specs.declared.words.Misplaced.{Misplaced}
use Rattle.gate_command.specs.declared.words.Misplaced.TheVariants.{Word, End}

-- what one option says
pub data Setting : Type 0 where
  listen_at : List ℕ → Setting
  upstream_at : List ℕ → Setting
  known_as : List ℕ → Setting
  host_named : List ℕ → Setting
  vhost_named : List ℕ → Setting
  exchanges_at : List Route → Setting
  pair_count : ℕ → Setting
  turn_count : ℕ → Setting
  capture_to : List ℕ → Setting

-- the option that says it
abbrev pub option_of : Setting → OptionName
option_of (listen_at address) = Listen
option_of (upstream_at address) = Upstream
option_of (known_as name) = Name
option_of (host_named host) = Host
option_of (vhost_named vhost) = Vhost
option_of (exchanges_at routes) = Exchange
option_of (pair_count n) = Pairs
option_of (turn_count n) = Turns
option_of (capture_to path) = Capture

-- how the option's name is spelled
abbrev pub option_text : OptionName → List ℕ
option_text Listen = codes "--listen"
option_text Upstream = codes "--upstream"
option_text Name = codes "--name"
option_text Host = codes "--host"
option_text Vhost = codes "--vhost"
option_text Exchange = codes "--exchange"
option_text Pairs = codes "--pairs"
option_text Turns = codes "--turns"
option_text Capture = codes "--capture"

-- how exchanges and the addresses that they stand for are spelled: NAME=ADDRESS for each, with a
-- comma between each two
abbrev pub route_text : Route → List ℕ
route_text r = r.exchange ++ codes "=" ++ r.address

abbrev pub routes_text : List Route → List ℕ
routes_text routes = join_with_byte 44 (map route_text routes)

-- some byte is `,` or `=`
abbrev pub has_mark : List ℕ → Bool
has_mark text = list_any (λ byte. byte == 44 || byte == 61) text

-- neither text has such a byte
abbrev pub IsPlain : Route → Type 0
IsPlain r = (has_mark r.exchange ≡ false) × (has_mark r.address ≡ false)

-- how the option's value is spelled
abbrev pub value_text : Setting → List ℕ
value_text (listen_at address) = address
value_text (upstream_at address) = address
value_text (known_as name) = name
value_text (host_named host) = host
value_text (vhost_named vhost) = vhost
value_text (exchanges_at routes) = routes_text routes
value_text (pair_count n) = decimal n
value_text (turn_count n) = decimal n
value_text (capture_to path) = path

-- no text is empty, a name, a host, a virtual host and exchanges are what all pairs of a run may
-- share, and a number is from 1 to the option's most
abbrev pub IsSettable : Setting → Type 0
IsSettable (listen_at address) = address ≢ []
IsSettable (upstream_at address) = address ≢ []
IsSettable (known_as name) = (name ≢ []) × IsName name
IsSettable (host_named host) = (host ≢ []) × IsHost host
IsSettable (vhost_named vhost) = (vhost ≢ []) × (length vhost ≤ 255)
IsSettable (exchanges_at routes) =
    (routes ≢ []) × AreRoutes routes × AllByRecursion IsPlain routes
IsSettable (pair_count n) = (1 ≤ n) × (n ≤ 4294967295)
IsSettable (turn_count n) = (1 ≤ n) × (n ≤ 140737488355328)
IsSettable (capture_to path) = path ≢ []

-- an option given, as the one word `--opt=VALUE` or as the two words `--opt VALUE`
pub data Given : Type 0 where
  joined : Setting → Given
  apart : Setting → Given

-- what it says
abbrev pub setting_of : Given → Setting
setting_of (joined setting) = setting
setting_of (apart setting) = setting

-- its words
abbrev pub spelling : Given → List (List ℕ)
spelling (joined setting) =
    (option_text (option_of setting) ++ codes "=" ++ value_text setting) ∷ []
spelling (apart setting) = option_text (option_of setting) ∷ value_text setting ∷ []

-- a text begins with `-`
abbrev pub begins_with_minus : List ℕ → Bool
begins_with_minus text = slice_index text 0 == 45

-- the value may be set, and in a word of its own it doesn't begin with `-`
abbrev pub IsInForm : Given → Type 0
IsInForm (joined setting) = IsSettable setting
IsInForm (apart setting) = IsSettable setting × (begins_with_minus (value_text setting) ≡ false)

-- what the options say together, each of them where it is given
pub record Settings : Type 0 where
  pub listen : Option (List ℕ)
  pub upstream : Option (List ℕ)
  pub name : Option (List ℕ)
  pub host : Option (List ℕ)
  pub vhost : Option (List ℕ)
  pub exchange : Option (List Route)
  pub pairs : Option ℕ
  pub turns : Option ℕ
  pub capture : Option (List ℕ)

-- no option is given
abbrev pub nothing_given : Settings
nothing_given = record {
  listen = None;
  upstream = None;
  name = None;
  host = None;
  vhost = None;
  exchange = None;
  pairs = None;
  turns = None;
  capture = None;
}

-- the same and one option more
abbrev pub with_setting : Setting → Settings → Settings
with_setting (listen_at address) s = record s { listen = Some address }
with_setting (upstream_at address) s = record s { upstream = Some address }
with_setting (known_as name) s = record s { name = Some name }
with_setting (host_named host) s = record s { host = Some host }
with_setting (vhost_named vhost) s = record s { vhost = Some vhost }
with_setting (exchanges_at routes) s = record s { exchange = Some routes }
with_setting (pair_count n) s = record s { pairs = Some n }
with_setting (turn_count n) s = record s { turns = Some n }
with_setting (capture_to path) s = record s { capture = Some path }

-- no option is given twice
abbrev pub AreDistinct : List Given → Type 0
AreDistinct [] = ⊤
AreDistinct (g ∷ gs) =
    AllByRecursion (λ other. option_of (setting_of other) ≢ option_of (setting_of g)) gs
    × AreDistinct gs

-- the settings and what the list gives
abbrev pub settings_with : Settings → List Given → Settings
settings_with s [] = s
settings_with s (g ∷ gs) = settings_with (with_setting (setting_of g) s) gs

-- how long a run is, and what its pairs share, with the defaults of what isn't given
abbrev pub limits_of : Settings → Limits
limits_of s = record { pairs = s.pairs; turns = unwrap_or s.turns 140737488355328 }

abbrev pub setup_of : Settings → SetupText
setup_of s = record {
  name = unwrap_or s.name (codes "amqp-gate");
  host = s.host;
  vhost = unwrap_or s.vhost (codes "/");
  routes = unwrap_or s.exchange [];
}

-- what is asked for
abbrev pub asked_of : Settings → Asked
asked_of s =
    Serve (limits_of s) (setup_of s) (unwrap_or s.listen (codes "127.0.0.1:5672"))
    (unwrap_or s.upstream (codes "127.0.0.1:5673")) s.capture

-- the limits of a run that is asked for, and what its pairs share, are in form
abbrev pub AreInForm : Asked → Type 0
AreInForm (Serve limits shared listen upstream path) = form.IsInForm limits × setup.IsInForm shared
AreInForm Replay = ⊤
AreInForm Show091 = ⊤
AreInForm Show10 = ⊤
AreInForm ShowCapture = ⊤

-- the words after the first, with a line feed between each two
abbrev pub text_of : List (List ℕ) → List ℕ
text_of words = join_with_byte 10 (drop 1 words)

-- line feeds and sizes aside, the words are `serve` and options that ask for this
pub record IsService (words : List (List ℕ)) (asked : Asked) : Type 0 where
  pub given : List Given
  pub spelled : words ≡ codes "serve" ∷ flat_map spelling given
  pub in_form : AllByRecursion IsInForm given
  pub once : AreDistinct given
  pub meant : asked ≡ asked_of (settings_with nothing_given given)

-- the word for a format behind `show`
abbrev pub format_text : Format → List ℕ
format_text format.Amqp091 = codes "091"
format_text format.Amqp10 = codes "10"
format_text format.Capture = codes "capture"

-- what is asked for with it
abbrev pub shown_as : Format → Asked
shown_as format.Amqp091 = Show091
shown_as format.Amqp10 = Show10
shown_as format.Capture = ShowCapture

-- or one of the other commands
abbrev pub IsCommand : List (List ℕ) → Asked → Type 0
IsCommand words asked = IsService words asked
    ⊎ ((words ≡ codes "replay" ∷ []) × (asked ≡ Replay))
    ⊎ ((what : Format) × (words ≡ codes "show" ∷ format_text what ∷ []) × (asked ≡ shown_as what))

-- the words that a text tells after `serve`, with a line feed between each two; an empty text tells
-- none
abbrev pub words_of : List ℕ → List (List ℕ)
words_of [] = codes "serve" ∷ []
words_of (byte ∷ bytes) = codes "serve" ∷ slice_split (λ b. b == 10) (byte ∷ bytes)

-- some byte is a line feed
abbrev pub has_line_feed : List ℕ → Bool
has_line_feed word = list_any (λ byte. byte == 10) word

-- no word has a line feed, and those after the first have at most 65,536 bytes together
pub record IsWithin (words : List (List ℕ)) : Type 0 where
  pub one_line : AllByRecursion (λ word. has_line_feed word ≡ false) words
  pub short : sum_by length (drop 1 words) ≤ 65536

-- the words are a command line, which asks for this
pub record Asks (words : List (List ℕ)) (asked : Asked) : Type 0 where
  pub command : IsCommand words asked
  pub within : IsWithin words

-- line feeds and sizes aside, some command line begins with these words
pub record Begins (words : List (List ℕ)) : Type 0 where
  pub more : List (List ℕ)
  pub asked : Asked
  pub whole : IsCommand (words ++ more) asked

-- word k, counted from 1, can stand where it does
pub record CanStand (k : ℕ) (words : List (List ℕ)) : Type 0 where
  pub begins : Begins (take k words)
  pub one_line : has_line_feed (slice_index_or words (k - 1) []) ≡ false
  pub short : sum_by length (drop 1 (take k words)) ≤ 65536

-- the first word that can't stand, or the end where each can and the words aren't a command line
abbrev pub CeasesAt : List (List ℕ) → Misplaced → Type 0
CeasesAt words (Word k) =
    (1 ≤ k) × (k ≤ length words) × (¬ CanStand k words) × ((j : ℕ) → 1 ≤ j → j < k
    → CanStand j words)
CeasesAt words End =
    ((j : ℕ) → 1 ≤ j → j ≤ length words → CanStand j words) × ((asked : Asked) → ¬ Asks words asked)
