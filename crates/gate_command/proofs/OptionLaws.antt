-- What a word does between options and as a value, by the grammar of one option.
use Rattle.std.proofs.Common.{◌≡◌, ◌≢◌, ℕ, ◌≤◌, leb, Bool, true, false, cond, List, [], ◌∷◌}
use Rattle.std.proofs.Common.{◌++◌, length, Option, Some, None, option_map, refl, sym, ◌∙◌, ap}
use Rattle.std.proofs.Common.{subst, arith, append_assoc}
use Rattle.std.proofs.Math.Dec.{eqb-suc-zero}
use Rattle.std.specs.Prelude.{codes, bytes_eq}
use Rattle.std.specs.Char.{is_ascii}
use Rattle.std.specs.List.{list_all}
use Rattle.std.specs.Option.{option_and_then}
use Rattle.std.specs.Str.{is_utf8}
use Rattle.std.proofs.lemmas.Bool.Decides.{nat_tests}
use Rattle.std.proofs.lemmas.Slice.Eq.{bytes_eq-Decides}
use Rattle.gate_model.specs.Setup.{IsHost, IsName}
use Rattle.gate_command.specs.declared.options.OptionName.{OptionName}
use Rattle.gate_command.specs.declared.options.OptionName.TheVariants.{Listen, Upstream, Name, Host}
use Rattle.gate_command.specs.declared.options.OptionName.TheVariants.{Vhost, Exchange, Pairs}
use Rattle.gate_command.specs.declared.options.OptionName.TheVariants.{Turns, Capture}
use Rattle.gate_command.specs.Command.{Setting, listen_at, upstream_at, known_as, host_named}
use Rattle.gate_command.specs.Command.{vhost_named, exchanges_at, pair_count, turn_count}
use Rattle.gate_command.specs.Command.{capture_to, option_of, option_text, value_text, IsSettable}
use Rattle.gate_command.specs.Command.{Settings, with_setting}
use Rattle.gate_command.specs.Reading.{is_free, State, between, awaiting, cut, option_named}
use Rattle.gate_command.specs.Reading.{text_in, short_in, name_in, host_in, number_in, routes_in}
use Rattle.gate_command.specs.Reading.{setting_in, set_in, opened, option_in}
use Rattle.gate_command.proofs.Cutting.{cut_none, cut_some}
use Rattle.gate_command.proofs.RouteLaws.{routes_in-text, routes_in-is}
use Rattle.gate_command.proofs.Numbers.{number_in-decimal, number_in-is}

-- a text is read as itself where it may be the option's
text_in-some : (text : List ℕ) → text ≢ [] → text_in text ≡ Some text
text_in-some [] some = absurd (some refl)
text_in-some (byte ∷ bytes) some = rw (eqb-suc-zero (length bytes)) refl

short_in-some : (most : ℕ) (text : List ℕ) → text ≢ [] → length text ≤ most → short_in most text ≡ Some text
unfolding short_in
short_in-some most text some short =
    let test : leb (length text) most ≡ true = grind (arith, nat_tests) in
    rw test (text_in-some text some)

name_in-some : (text : List ℕ) → text ≢ [] → IsName text → name_in text ≡ Some text
unfolding name_in
name_in-some text some is = rw is.ascii (short_in-some 100 text some is.short)

host_in-some : (text : List ℕ) → text ≢ [] → IsHost text → host_in text ≡ Some text
unfolding host_in
host_in-some text some is = rw is.utf8 (short_in-some 200 text some is.short)

-- a value that may be set is read as the setting that it spells
pub setting_in-value : (setting : Setting) → IsSettable setting → setting_in (option_of setting) (value_text setting) ≡ Some setting
setting_in-value (listen_at address) h = ap (option_map listen_at) (text_in-some address h)
setting_in-value (upstream_at address) h = ap (option_map upstream_at) (text_in-some address h)
setting_in-value (known_as name) h = ap (option_map known_as) (name_in-some name h.0 h.1)
setting_in-value (host_named host) h = ap (option_map host_named) (host_in-some host h.0 h.1)
setting_in-value (vhost_named vhost) h = ap (option_map vhost_named) (short_in-some 255 vhost h.0 h.1)
setting_in-value (exchanges_at routes) h =
    ap (option_map exchanges_at) (routes_in-text routes h.0 h.1 h.2)
setting_in-value (pair_count n) h = ap (option_map pair_count) (number_in-decimal 4294967295 n h.0 h.1 (omega arith))
setting_in-value (turn_count n) h = ap (option_map turn_count) (number_in-decimal 140737488355328 n h.0 h.1 (omega arith))
setting_in-value (capture_to path) h = ap (option_map capture_to) (text_in-some path h)

some_is : {X : Type 0} {x y : X} → Some x ≡ Some y → x ≡ y
some_is e = cc

-- what a text is that is read
record IsText (text read : List ℕ) : Type 0 where
  same : read ≡ text
  some : read ≢ []

text_in-is : (text read : List ℕ) → text_in text ≡ Some read → IsText text read
text_in-is [] read h = absurd cc
text_in-is (byte ∷ bytes) read h =
    let e : byte ∷ bytes ≡ read = some_is (rw (eqb-suc-zero (length bytes)) at h) in
    record { same = sym e; some = λ none. let clash : byte ∷ bytes ≡ [] = e ∙ none in absurd cc }

record IsShort (most : ℕ) (text read : List ℕ) : Type 0 where
  is : IsText text read
  short : length read ≤ most

short_in-is : (most : ℕ) (text read : List ℕ) → short_in most text ≡ Some read → IsShort most text read
unfolding short_in
short_in-is most text read h = at (leb (length text) most) refl h
  where
    at : (short : Bool) → leb (length text) most ≡ short → cond short (text_in text) None ≡ Some read → IsShort most text read
    at false s e = absurd cc
    at true s e =
        let is : IsText text read = text_in-is text read e in
        let below : length text ≤ most = grind (arith, nat_tests) in
        record { is = is; short = subst (λ (x : List ℕ). length x ≤ most) (sym is.same) below }

record IsNameOf (text read : List ℕ) : Type 0 where
  is : IsText text read
  name : IsName read

name_in-is : (text read : List ℕ) → name_in text ≡ Some read → IsNameOf text read
unfolding name_in
name_in-is text read h = at (list_all is_ascii text) refl h
  where
    at : (ascii : Bool) → list_all is_ascii text ≡ ascii → cond ascii (short_in 100 text) None ≡ Some read → IsNameOf text read
    at false a e = absurd cc
    at true a e =
        let s : IsShort 100 text read = short_in-is 100 text read e in
        record { is = s.is; name = record { ascii = subst (λ (x : List ℕ). list_all is_ascii x ≡ true) (sym s.is.same) a; short = s.short } }

record IsHostOf (text read : List ℕ) : Type 0 where
  is : IsText text read
  host : IsHost read

host_in-is : (text read : List ℕ) → host_in text ≡ Some read → IsHostOf text read
unfolding host_in
host_in-is text read h = at (is_utf8 text) refl h
  where
    at : (utf8 : Bool) → is_utf8 text ≡ utf8 → cond utf8 (short_in 200 text) None ≡ Some read → IsHostOf text read
    at false u e = absurd cc
    at true u e =
        let s : IsShort 200 text read = short_in-is 200 text read e in
        record { is = s.is; host = record { utf8 = subst (λ (x : List ℕ). is_utf8 x ≡ true) (sym s.is.same) u; short = s.short } }

-- what a value is that is read as this setting
pub record IsValue (option : OptionName) (value : List ℕ) (setting : Setting) : Type 0 where
  pub names : option_of setting ≡ option
  pub spelled : value_text setting ≡ value
  pub settable : IsSettable setting

-- what an option makes of what is read
record IsMade {A : Type 0} (make : A → Setting) (read : Option A) (setting : Setting) : Type 0 where
  value : A
  reads : read ≡ Some value
  made : make value ≡ setting

made_of : {A : Type 0} (make : A → Setting) (read : Option A) (setting : Setting) → option_map make read ≡ Some setting → IsMade make read setting
made_of make None setting h = absurd cc
made_of make (Some value) setting h = record { value = value; reads = refl; made = some_is h }

-- so a value is what is read of it, where that is settable
value_of : {A : Type 0} (option : OptionName) (value : List ℕ) (make : A → Setting) (read : Option A) (setting : Setting)
    → ((a : A) → read ≡ Some a → IsValue option value (make a)) → option_map make read ≡ Some setting → IsValue option value setting
value_of option value make read setting each h =
    let m : IsMade make read setting = made_of make read setting h in
    subst (λ (x : Setting). IsValue option value x) m.made (each m.value m.reads)

pub setting_in-is : (option : OptionName) (value : List ℕ) (setting : Setting) → setting_in option value ≡ Some setting → IsValue option value setting
setting_in-is Listen value setting h =
    value_of Listen value listen_at (text_in value) setting (λ a e. let t = text_in-is value a e in record { names = refl; spelled = t.same; settable = t.some }) h
setting_in-is Upstream value setting h =
    value_of Upstream value upstream_at (text_in value) setting (λ a e. let t = text_in-is value a e in record { names = refl; spelled = t.same; settable = t.some }) h
setting_in-is Name value setting h =
    value_of Name value known_as (name_in value) setting (λ a e. let t = name_in-is value a e in record { names = refl; spelled = t.is.same; settable = (t.is.some, t.name) }) h
setting_in-is Host value setting h =
    value_of Host value host_named (host_in value) setting (λ a e. let t = host_in-is value a e in record { names = refl; spelled = t.is.same; settable = (t.is.some, t.host) }) h
setting_in-is Vhost value setting h =
    value_of Vhost value vhost_named (short_in 255 value) setting
    (λ a e. let t = short_in-is 255 value a e in record { names = refl; spelled = t.is.same; settable = (t.is.some, t.short) }) h
setting_in-is Exchange value setting h =
    value_of Exchange value exchanges_at (routes_in value) setting
    (λ rs e.
    let t = routes_in-is value rs e in
    record { names = refl; spelled = t.spelled; settable = (t.some, t.in_form, t.plain) })
    h
setting_in-is Pairs value setting h =
    value_of Pairs value pair_count (number_in 4294967295 value) setting
    (λ n e. let t = number_in-is 4294967295 value n (omega arith) e in record { names = refl; spelled = sym t.spelled; settable = (t.some, t.within) }) h
setting_in-is Turns value setting h =
    value_of Turns value turn_count (number_in 140737488355328 value) setting
    (λ n e. let t = number_in-is 140737488355328 value n (omega arith) e in record { names = refl; spelled = sym t.spelled; settable = (t.some, t.within) }) h
setting_in-is Capture value setting h =
    value_of Capture value capture_to (text_in value) setting (λ a e. let t = text_in-is value a e in record { names = refl; spelled = t.same; settable = t.some }) h

-- a value that may be set leads on between options
pub set_in-value : (setting : Setting) (s : Settings) → IsSettable setting → option_map between (set_in (option_of setting) (value_text setting) s) ≡ Some (between (with_setting setting s))
unfolding set_in
set_in-value setting s h = ap (λ (r : Option Setting). option_map between (option_map (λ x. with_setting x s) r)) (setting_in-value setting h)

-- what a value is that leads on
pub record IsSet (option : OptionName) (value : List ℕ) (s : Settings) (next : State) : Type 0 where
  pub setting : Setting
  pub value_is : IsValue option value setting
  pub next_is : next ≡ between (with_setting setting s)

pub set_in-is : (option : OptionName) (value : List ℕ) (s : Settings) (next : State) → option_map between (set_in option value s) ≡ Some next → IsSet option value s next
unfolding set_in
set_in-is option value s next h = at (setting_in option value) refl h
  where
    at : (r : Option Setting) → setting_in option value ≡ r → option_map between (option_map (λ x. with_setting x s) r) ≡ Some next → IsSet option value s next
    at None is e = absurd cc
    at (Some setting) is e = record { setting = setting; value_is = setting_in-is option value setting is; next_is = cc }

-- an option's name alone is read as the first of two words
pub option_in-apart : (option : OptionName) (s : Settings) → is_free option s ≡ true → option_in (option_text option) s ≡ Some (awaiting option s)
unfolding option_in option_named
option_in-apart Listen s free = rw free refl
option_in-apart Upstream s free = rw free refl
option_in-apart Name s free = rw free refl
option_in-apart Host s free = rw free refl
option_in-apart Vhost s free = rw free refl
option_in-apart Exchange s free = rw free refl
option_in-apart Pairs s free = rw free refl
option_in-apart Turns s free = rw free refl
option_in-apart Capture s free = rw free refl

-- and with `=` and a value as the one word
pub option_in-joined : (option : OptionName) (value : List ℕ) (s : Settings) → is_free option s ≡ true
    → option_in (option_text option ++ codes "=" ++ value) s ≡ option_map between (set_in option value s)
unfolding option_in option_named
option_in-joined Listen value s free = rw free refl
option_in-joined Upstream value s free = rw free refl
option_in-joined Name value s free = rw free refl
option_in-joined Host value s free = rw free refl
option_in-joined Vhost value s free = rw free refl
option_in-joined Exchange value s free = rw free refl
option_in-joined Pairs value s free = rw free refl
option_in-joined Turns value s free = rw free refl
option_in-joined Capture value s free = rw free refl

-- texts that compare as equal
pub same_bytes : (xs ys : List ℕ) → bytes_eq xs ys ≡ true → xs ≡ ys
same_bytes xs ys h = (bytes_eq-Decides xs ys).0 h

-- an option that is read by its name has that name: the first of them that compares as equal, or one of the others
named_or : (text : List ℕ) (first option : OptionName) (test : Bool) (others : Option OptionName) → bytes_eq text (option_text first) ≡ test
    → (others ≡ Some option → text ≡ option_text option) → cond test (Some first) others ≡ Some option → text ≡ option_text option
named_or text first option true others is other e = same_bytes text (option_text first) is ∙ ap option_text (some_is e)
named_or text first option false others is other e = other e

pub option_named-is : (text : List ℕ) (option : OptionName) → option_named text ≡ Some option → text ≡ option_text option
unfolding option_named
option_named-is text option =
    named_or text Listen option _ _ refl (named_or text Upstream option _ _ refl (named_or text Name option _ _ refl (named_or text Host option _ _ refl
    (named_or text Vhost option _ _ refl (named_or text Exchange option _ _ refl (named_or text Pairs option _ _ refl
    (named_or text Turns option _ _ refl (named_or text Capture option _ _ refl (λ e. absurd cc)))))))))

-- what an option's first word is
pub data IsOption (word : List ℕ) (s : Settings) (next : State) : Type 0 where
  by_name : (option : OptionName) → is_free option s ≡ true → word ≡ option_text option → next ≡ awaiting option s → IsOption word s next
  with_value : (option : OptionName) (value : List ℕ) → is_free option s ≡ true → word ≡ option_text option ++ codes "=" ++ value → IsSet option value s next → IsOption word s next

pub option_in-is : (word : List ℕ) (s : Settings) (next : State) → option_in word s ≡ Some next → IsOption word s next
unfolding option_in
option_in-is word s next h = at (option_named (cut word).0) refl h
  where
    chosen : (option : OptionName) (free : Bool) (value : Option (List ℕ)) → (cut word).0 ≡ option_text option → is_free option s ≡ free → (cut word).1 ≡ value
        → cond {A = Option State} free (opened option value s) None ≡ Some next → IsOption word s next
    chosen option false value front f back e = absurd cc
    chosen option true None front f back e = by_name option f (sym (cut_none word back) ∙ front) cc
    chosen option true (Some value) front f back e =
        with_value option value f (sym (cut_some word value back) ∙ rw front (sym (append_assoc (option_text option) (codes "=") value))) (set_in-is option value s next e)

    at : (named : Option OptionName) → option_named (cut word).0 ≡ named
        → option_and_then (λ option. cond {A = Option State} (is_free option s) (opened option (cut word).1 s) None) named ≡ Some next → IsOption word s next
    at None is e = absurd cc
    at (Some option) is e = chosen option (is_free option s) (cut word).1 (option_named-is (cut word).0 option is) refl refl e
