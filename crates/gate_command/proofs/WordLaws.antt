-- What the words from some place on may be, and what each word does to that.
use Rattle.std.proofs.Common.{◌≡◌, ℕ, ◌<◌, Bool, true, false, cond, List, [], ◌∷◌, ◌++◌, get_or}
use Rattle.std.proofs.Common.{Option, Some, None, option_map, Ok, refl, sym, ◌∙◌, ap, subst, arith}
use Rattle.std.specs.Prelude.{⊤, decimal, codes}
use Rattle.std.specs.List.{flat_map, AllByRecursion}
use Rattle.std.specs.Str.{chars, is_utf8}
use Rattle.std.proofs.lemmas.Bool.Decides.{nat_tests}
use Rattle.std.proofs.lemmas.Fmt.{first_decimal}
use Rattle.gate_model.specs.Setup.{IsRoute, AreRoutes}
use Rattle.gate_command.specs.declared.options.OptionName.{OptionName}
use Rattle.gate_command.specs.declared.options.OptionName.TheVariants.{Listen, Upstream, Name, Host}
use Rattle.gate_command.specs.declared.options.OptionName.TheVariants.{Vhost, Exchange, Pairs}
use Rattle.gate_command.specs.declared.options.OptionName.TheVariants.{Turns, Capture}
use Rattle.gate_command.specs.Command.{Setting, listen_at, upstream_at, known_as, host_named}
use Rattle.gate_command.specs.Command.{vhost_named, exchanges_at, pair_count, turn_count}
use Rattle.gate_command.specs.Command.{capture_to, Given, joined, apart, setting_of, spelling}
use Rattle.gate_command.specs.Command.{IsInForm, option_of, option_text, value_text, IsSettable}
use Rattle.gate_command.specs.Command.{Settings, with_setting, settings_with, begins_with_minus}
use Rattle.gate_command.specs.Reading.{is_free, State, between, awaiting, set_in, step, ended}
use Rattle.gate_command.proofs.OptionLaws.{option_in-apart, option_in-joined, option_in-is}
use Rattle.gate_command.proofs.OptionLaws.{IsOption, by_name, with_value, set_in-is, set_in-value}

-- each option of the list is one that neither those before it nor the settings give
abbrev pub EachNew : Settings → List Given → Type 0
EachNew s [] = ⊤
EachNew s (g ∷ gs) = (is_free (option_of (setting_of g)) s ≡ true) × EachNew (with_setting (setting_of g) s) gs

-- the words are options that these settings don't give, and make those settings of them
pub record AreOptions (s : Settings) (words : List (List ℕ)) (t : Settings) : Type 0 where
  pub given : List Given
  pub spelled : words ≡ flat_map spelling given
  pub in_form : AllByRecursion IsInForm given
  pub each_new : EachNew s given
  pub meant : t ≡ settings_with s given

-- the words are this option's value, and options
pub record AreValueAndOptions (option : OptionName) (s : Settings) (words : List (List ℕ)) (t : Settings) : Type 0 where
  pub setting : Setting
  pub names : option_of setting ≡ option
  pub in_form : IsInForm (apart setting)
  pub rest : List (List ℕ)
  pub spelled : words ≡ value_text setting ∷ rest
  pub options : AreOptions (with_setting setting s) rest t

-- the words may be all that is left
abbrev pub IsRest : State → List (List ℕ) → Settings → Type 0
IsRest (between s) words t = AreOptions s words t
IsRest (awaiting option s) words t = AreValueAndOptions option s words t

-- one more option in front
one_joined : (setting : Setting) (s : Settings) (word : List ℕ) (words : List (List ℕ)) (t : Settings) → is_free (option_of setting) s ≡ true → IsSettable setting
    → word ≡ option_text (option_of setting) ++ codes "=" ++ value_text setting → AreOptions (with_setting setting s) words t → AreOptions s (word ∷ words) t
one_joined setting s word words t free settable spelled rest = record {
  given = joined setting ∷ rest.given;
  spelled = let e = rest.spelled in cc;
  in_form = (settable, rest.in_form);
  each_new = (free, rest.each_new);
  meant = rest.meant;
}

one_apart : (setting : Setting) (s : Settings) (word value : List ℕ) (words : List (List ℕ)) (t : Settings) → is_free (option_of setting) s ≡ true → IsInForm (apart setting)
    → word ≡ option_text (option_of setting) → value ≡ value_text setting → AreOptions (with_setting setting s) words t → AreOptions s (word ∷ value ∷ words) t
one_apart setting s word value words t free in_form named spelled rest = record {
  given = apart setting ∷ rest.given;
  spelled = let e = rest.spelled in cc;
  in_form = (in_form, rest.in_form);
  each_new = (free, rest.each_new);
  meant = rest.meant;
}

-- a word that leads on stands before all that is left after it
option_before : (s : Settings) (word : List ℕ) (words : List (List ℕ)) (next : State) (t : Settings) → IsOption word s next → IsRest next words t → AreOptions s (word ∷ words) t
option_before s word words next t (by_name option free spelled next_is) rest =
    let value : AreValueAndOptions option s words t = subst (λ (n : State). IsRest n words t) next_is rest in
    let e = sym value.spelled in
    subst (λ (ws : List (List ℕ)). AreOptions s (word ∷ ws) t) e
    (one_apart value.setting s word (value_text value.setting) value.rest t (rw value.names free) value.in_form (spelled ∙ ap option_text (sym value.names)) refl value.options)
option_before s word words next t (with_value option value free spelled is_set) rest =
    let options : AreOptions (with_setting is_set.setting s) words t = subst (λ (n : State). IsRest n words t) is_set.next_is rest in
    let v = is_set.value_is in
    one_joined is_set.setting s word words t (rw v.names free) v.settable (rw (v.names, v.spelled) spelled) options

pub before : (state next : State) (word : List ℕ) (words : List (List ℕ)) (t : Settings) → step state word ≡ Some next → IsRest next words t → IsRest state (word ∷ words) t
before (between s) next word words t h rest = option_before s word words next t (option_in-is word s next h) rest
before (awaiting option s) next word words t h rest = at (begins_with_minus word) refl h
  where
    at : (minus : Bool) → begins_with_minus word ≡ minus → cond {A = Option State} minus None (option_map between (set_in option word s)) ≡ Some next → AreValueAndOptions option s (word ∷ words) t
    at true is e = absurd cc
    at false is e =
        let made = set_in-is option word s next e in
        let v = made.value_is in
        record {
          setting = made.setting;
          names = v.names;
          in_form = (v.settable, rw v.spelled is);
          rest = words;
          spelled = ap (λ (x : List ℕ). x ∷ words) (sym v.spelled);
          options = subst (λ (n : State). IsRest n words t) made.next_is rest;
        }

-- the first word of what is left leads on to the others
pub record LeadsOn (state : State) (word : List ℕ) (words : List (List ℕ)) (t : Settings) : Type 0 where
  pub next : State
  pub steps : step state word ≡ Some next
  pub rest : IsRest next words t

options_lead : (s : Settings) (word : List ℕ) (words : List (List ℕ)) (t : Settings) (given : List Given) → word ∷ words ≡ flat_map spelling given → AllByRecursion IsInForm given
    → EachNew s given → t ≡ settings_with s given → LeadsOn (between s) word words t
options_lead s word words t [] spelled in_form each_new meant = absurd cc
options_lead s word words t (joined setting ∷ given) spelled in_form each_new meant =
    let first : word ≡ option_text (option_of setting) ++ codes "=" ++ value_text setting = cc in
    let others : words ≡ flat_map spelling given = cc in
    record {
      next = between (with_setting setting s);
      steps = rw first (option_in-joined (option_of setting) (value_text setting) s each_new.0 ∙ set_in-value setting s in_form.0);
      rest = record { given = given; spelled = others; in_form = in_form.1; each_new = each_new.1; meant = meant };
    }
options_lead s word words t (apart setting ∷ given) spelled in_form each_new meant =
    let first : word ≡ option_text (option_of setting) = cc in
    let others : words ≡ value_text setting ∷ flat_map spelling given = cc in
    record {
      next = awaiting (option_of setting) s;
      steps = rw first (option_in-apart (option_of setting) s each_new.0);
      rest = record {
        setting = setting;
        names = refl;
        in_form = in_form.0;
        rest = flat_map spelling given;
        spelled = others;
        options = record { given = given; spelled = refl; in_form = in_form.1; each_new = each_new.1; meant = meant };
      };
    }

pub after : (state : State) (word : List ℕ) (words : List (List ℕ)) (t : Settings) → IsRest state (word ∷ words) t → LeadsOn state word words t
after (between s) word words t rest = options_lead s word words t rest.given rest.spelled rest.in_form rest.each_new rest.meant
after (awaiting option s) word words t rest =
    let first : word ≡ value_text rest.setting = let e = rest.spelled in cc in
    let others : words ≡ rest.rest = let e = rest.spelled in cc in
    record {
      next = between (with_setting rest.setting s);
      steps = rw (first, rest.in_form.1, ← rest.names) (set_in-value rest.setting s rest.in_form.0);
      rest = subst (λ (ws : List (List ℕ)). AreOptions (with_setting rest.setting s) ws t) (sym others) rest.options;
    }

-- nothing is left exactly between options
pub ended-is : (state : State) (t : Settings) → ended state ≡ Ok t → IsRest state [] t
ended-is (between s) t h = record { given = []; spelled = refl; in_form = tt; each_new = tt; meant = cc }
ended-is (awaiting option s) t h = absurd cc

no_options : (s : Settings) (t : Settings) (given : List Given) → [] ≡ flat_map spelling given → t ≡ settings_with s given → s ≡ t
no_options s t [] spelled meant = sym meant
no_options s t (joined setting ∷ given) spelled meant = absurd cc
no_options s t (apart setting ∷ given) spelled meant = absurd cc

pub is-ended : (state : State) (t : Settings) → IsRest state [] t → ended state ≡ Ok t
is-ended (between s) t rest = ap Ok (no_options s t rest.given rest.spelled rest.meant)
is-ended (awaiting option s) t rest = let e = rest.spelled in absurd cc

-- something may always be left
pub record MayGoOn (state : State) : Type 0 where
  pub more : List (List ℕ)
  pub settings : Settings
  pub rest : IsRest state more settings

-- one that any option may say
some_setting : OptionName → Setting
some_setting Listen = listen_at (codes "1")
some_setting Upstream = upstream_at (codes "1")
some_setting Name = known_as (codes "1")
some_setting Host = host_named (codes "1")
some_setting Vhost = vhost_named (codes "1")
some_setting Exchange = exchanges_at (record { exchange = codes "1"; address = codes "1" } ∷ [])
some_setting Pairs = pair_count 1
some_setting Turns = turn_count 1
some_setting Capture = capture_to (codes "1")

some_named : (option : OptionName) → option_of (some_setting option) ≡ option
unfolding some_setting
some_named Listen = refl
some_named Upstream = refl
some_named Name = refl
some_named Host = refl
some_named Vhost = refl
some_named Exchange = refl
some_named Pairs = refl
some_named Turns = refl
some_named Capture = refl

no_minus : (text : List ℕ) → 48 < get_or text 0 0 → begins_with_minus text ≡ false
no_minus text above = grind (arith, nat_tests)

one_utf8 : is_utf8 (codes "1") ≡ true
unfolding is_utf8 chars lib.Utf8.encode
one_utf8 = refl

some_in_form : (option : OptionName) → IsInForm (apart (some_setting option))
unfolding some_setting
some_in_form Listen = (λ e. absurd cc, refl)
some_in_form Upstream = (λ e. absurd cc, refl)
some_in_form Name = ((λ e. absurd cc, record { ascii = refl; short = omega arith }), refl)
some_in_form Host = ((λ e. absurd cc, record { utf8 = one_utf8; short = omega arith }), refl)
some_in_form Vhost = ((λ e. absurd cc, omega arith), refl)
some_in_form Exchange = ((λ e. absurd cc, routes, ((refl, refl), tt)), refl)
  where
    route : IsRoute (record { exchange = codes "1"; address = codes "1" })
    route = record {
      named = omega arith;
      short = omega arith;
      addressed = omega arith;
      brief = omega arith;
    }

    routes : AreRoutes (record { exchange = codes "1"; address = codes "1" } ∷ [])
    routes = record { each = (route, tt); apart = (refl, tt) }
some_in_form Pairs = ((omega arith, omega arith), no_minus (decimal 1) (first_decimal 1 (omega arith) (omega arith)))
some_in_form Turns = ((omega arith, omega arith), no_minus (decimal 1) (first_decimal 1 (omega arith) (omega arith)))
some_in_form Capture = (λ e. absurd cc, refl)

pub goes_on : (state : State) → MayGoOn state
goes_on (between s) = record { more = []; settings = s; rest = record { given = []; spelled = refl; in_form = tt; each_new = tt; meant = refl } }
goes_on (awaiting option s) = record {
  more = value_text (some_setting option) ∷ [];
  settings = with_setting (some_setting option) s;
  rest = record {
    setting = some_setting option;
    names = some_named option;
    in_form = some_in_form option;
    rest = [];
    spelled = refl;
    options = record { given = []; spelled = refl; in_form = tt; each_new = tt; meant = refl };
  };
}
