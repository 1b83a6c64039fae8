-- What the reading of all words answers, by the grammar of the command line.
use Rattle.std.proofs.Common.{◌≡◌, ℕ, suc, zero, ◌-◌, ◌<◌, ◌≤◌, Bool, true, false, cond, List, []}
use Rattle.std.proofs.Common.{◌∷◌, ◌++◌, length, take, Option, Some, None, Result, Ok, Err, inl}
use Rattle.std.proofs.Common.{inr, refl, sym, ◌∙◌, ap, subst, arith}
use Rattle.std.specs.Prelude.{◌≢◌, codes, bytes_eq, unwrap_or, IfSome}
use Rattle.std.specs.List.{AllByRecursion}
use Rattle.std.proofs.lemmas.Slice.Eq.{bytes_eq-Decides}
use Rattle.gate_model.specs.Setup.{AreRoutes, IsHost, IsName}
use Rattle.gate_model.specs.declared.setup.Route.{Route}
use Rattle.gate_command.specs.declared.words.Asked.{Asked}
use Rattle.gate_command.specs.declared.words.Asked.TheVariants.{Replay}
use Rattle.gate_command.specs.declared.words.Format.{Format}
use Rattle.gate_command.specs.declared.words.Format.TheVariants as format
use Rattle.gate_command.specs.declared.words.Misplaced.{Misplaced}
use Rattle.gate_command.specs.declared.words.Misplaced.TheVariants.{Word, End}
use Rattle.gate_command.specs.Command.{Setting, listen_at, upstream_at, known_as, host_named}
use Rattle.gate_command.specs.Command.{vhost_named, exchanges_at, pair_count, turn_count}
use Rattle.gate_command.specs.Command.{capture_to, Given, joined, apart, setting_of, IsInForm}
use Rattle.gate_command.specs.Command.{IsSettable, Settings}
use Rattle.gate_command.specs.Command.{nothing_given, with_setting, settings_with, asked_of}
use Rattle.gate_command.specs.Command.{AreInForm, IsService, IsCommand, IsWithin, Asks, CanStand}
use Rattle.gate_command.specs.Command.{CeasesAt, format_text, shown_as}
use Rattle.gate_command.specs.Reading.{Request, serving, replaying, showing, asked_by, between}
use Rattle.gate_command.specs.Reading.{last_in, shown_in, served_in, after_first, words_in}
use Rattle.gate_command.specs.Reading.{command_in, format_named, format_in}
use Rattle.gate_command.proofs.OptionLaws.{same_bytes}
use Rattle.gate_command.proofs.WordLaws.{AreOptions}
use Rattle.gate_command.proofs.LineLaws.{words_in-is, is-words_in, Fits, words_in-place}
use Rattle.gate_command.proofs.LineLaws.{words_in-stays}
use Rattle.gate_command.proofs.Distinct.{new_if_distinct, distinct_if_new}

-- the first words
abbrev serve : List ℕ
serve = codes "serve"

abbrev replay : List ℕ
replay = codes "replay"

abbrev show : List ℕ
show = codes "show"

unlike : (xs ys : List ℕ) → bytes_eq xs ys ≡ false → xs ≢ ys
unlike xs ys isnt same = let yes = (bytes_eq-Decides xs ys).1 same in absurd cc

-- a format has its name, and no other word names one
named_is : (word : List ℕ) (what : Format) → format_named word ≡ Some what → word ≡ format_text what
unfolding format_named
named_is word what h = at (bytes_eq word (format_text format.Amqp091)) (bytes_eq word (format_text format.Amqp10)) (bytes_eq word (format_text format.Capture)) refl refl refl h
  where
    is : (known : Format) → bytes_eq word (format_text known) ≡ true → known ≡ what → word ≡ format_text what
    is known equal same = same_bytes word (format_text known) equal ∙ ap format_text same

    at : (a b c : Bool) → bytes_eq word (format_text format.Amqp091) ≡ a → bytes_eq word (format_text format.Amqp10) ≡ b
        → bytes_eq word (format_text format.Capture) ≡ c
        → cond a (Some format.Amqp091) (cond b (Some format.Amqp10) (cond c (Some format.Capture) None)) ≡ Some what → word ≡ format_text what
    at true b c x y z e = is format.Amqp091 x cc
    at false true c x y z e = is format.Amqp10 y cc
    at false false true x y z e = is format.Capture z cc
    at false false false x y z e = absurd cc

named_again : (what : Format) → format_named (format_text what) ≡ Some what
unfolding format_named
named_again format.Amqp091 = refl
named_again format.Amqp10 = refl
named_again format.Capture = refl

unnamed : (word : List ℕ) → format_named word ≡ None → (what : Format) → word ≢ format_text what
unnamed word none what same = let again = ap format_named same ∙ named_again what in absurd (cc (none, again))

-- `serve` and its options are a command line
whole : (words : List (List ℕ)) (t : Settings) → AreOptions nothing_given words t → IsCommand (serve ∷ words) (asked_of t)
whole words t options = inl (record {
  given = options.given;
  spelled = ap (λ (ws : List (List ℕ)). serve ∷ ws) options.spelled;
  in_form = options.in_form;
  once = distinct_if_new options.given options.each_new;
  meant = ap asked_of options.meant;
})

-- and a command line that begins with it is `serve` and its options
record AreParts (words : List (List ℕ)) (asked : Asked) : Type 0 where
  settings : Settings
  options : AreOptions nothing_given words settings
  meant : asked ≡ asked_of settings

parts : (words : List (List ℕ)) (asked : Asked) → IsCommand (serve ∷ words) asked → AreParts words asked
parts words asked (inl command) = record {
  settings = settings_with nothing_given command.given;
  options = record {
    given = command.given;
    spelled = let e = command.spelled in cc;
    in_form = command.in_form;
    each_new = new_if_distinct command.given command.once;
    meant = refl;
  };
  meant = command.meant;
}
parts words asked (inr (inl (e, a))) = absurd cc
parts words asked (inr (inr (what, e, a))) = absurd cc

no_parts : (asked : Asked) → ¬ IsCommand [] asked
no_parts asked (inl command) = let e = command.spelled in absurd cc
no_parts asked (inr (inl (e, a))) = absurd cc
no_parts asked (inr (inr (what, e, a))) = absurd cc

-- one that begins with another word is that command
no_service : (words : List (List ℕ)) (asked : Asked) (word : List ℕ) → word ≢ serve → ¬ IsService (word ∷ words) asked
no_service words asked word other command = let e = command.spelled in absurd (other cc)

replay_alone : (word : List ℕ) (words : List (List ℕ)) (asked : Asked) → ¬ IsCommand (replay ∷ word ∷ words) asked
replay_alone word words asked (inl command) = absurd (no_service (word ∷ words) asked replay (λ e. absurd cc) command)
replay_alone word words asked (inr (inl (e, a))) = absurd cc
replay_alone word words asked (inr (inr (what, e, a))) = absurd cc

show_other : (word : List ℕ) (words : List (List ℕ)) (asked : Asked) → ((what : Format) → word ≢ format_text what) → ¬ IsCommand (show ∷ word ∷ words) asked
show_other word words asked other (inl command) = absurd (no_service (word ∷ words) asked show (λ e. absurd cc) command)
show_other word words asked other (inr (inl (e, a))) = absurd cc
show_other word words asked other (inr (inr (what, e, a))) = absurd (other what cc)

show_alone : (asked : Asked) → ¬ IsCommand (show ∷ []) asked
show_alone asked (inl command) = absurd (no_service [] asked show (λ e. absurd cc) command)
show_alone asked (inr (inl (e, a))) = absurd cc
show_alone asked (inr (inr (what, e, a))) = absurd cc

format_last : (word word' : List ℕ) (words : List (List ℕ)) (asked : Asked) → ¬ IsCommand (show ∷ word ∷ word' ∷ words) asked
format_last word word' words asked (inl command) = absurd (no_service (word ∷ word' ∷ words) asked show (λ e. absurd cc) command)
format_last word word' words asked (inr (inl (e, a))) = absurd cc
format_last word word' words asked (inr (inr (what, e, a))) = absurd cc

no_command : (word : List ℕ) (words : List (List ℕ)) (asked : Asked) → word ≢ serve → word ≢ replay → word ≢ show → ¬ IsCommand (word ∷ words) asked
no_command word words asked s r h (inl command) = no_service words asked word s command
no_command word words asked s r h (inr (inl (e, a))) = absurd (r cc)
no_command word words asked s r h (inr (inr (what, e, a))) = absurd (h cc)

-- ---- words that are read are a command line, which asks for what was read

replay_asks : Asks (replay ∷ []) Replay
replay_asks = record { command = inr (inl (refl, refl)); within = record { one_line = (refl, tt); short = omega arith } }

show_asks : (what : Format) → Asks (show ∷ format_text what ∷ []) (shown_as what)
show_asks what = record { command = inr (inr (what, refl, refl)); within = fits what }
  where
    fits : (what : Format) → IsWithin (show ∷ format_text what ∷ [])
    fits format.Amqp091 = record { one_line = (refl, (refl, tt)); short = omega arith }
    fits format.Amqp10 = record { one_line = (refl, (refl, tt)); short = omega arith }
    fits format.Capture = record { one_line = (refl, (refl, tt)); short = omega arith }

serve_is : (words : List (List ℕ)) (r : Result Settings Misplaced) (request : Request) → words_in 2 65536 (between nothing_given) words ≡ r → served_in r ≡ Ok request
    → Asks (serve ∷ words) (asked_by request)
serve_is words (Err m) request is e = absurd cc
serve_is words (Ok s) request is e =
    let read = words_in-is words 2 65536 (between nothing_given) s is in
    let same : serving s ≡ request = cc in
    subst (λ (r : Request). Asks (serve ∷ words) (asked_by r)) same (record {
      command = whole words s read.rest;
      within = record { one_line = (refl, read.within.one_line); short = read.within.short };
    })

replay_is : (words : List (List ℕ)) (request : Request) → last_in 2 replaying words ≡ Ok request → Asks (replay ∷ words) (asked_by request)
replay_is [] request h = let same : replaying ≡ request = cc in subst (λ (r : Request). Asks (replay ∷ []) (asked_by r)) same replay_asks
replay_is (word ∷ words) request h = absurd cc

show_is : (words : List (List ℕ)) (request : Request) → shown_in words ≡ Ok request → Asks (show ∷ words) (asked_by request)
show_is [] request h = absurd cc
show_is (word ∷ words) request h = at (format_named word) words refl h
  where
    at : (named : Option Format) (rest : List (List ℕ)) → format_named word ≡ named → format_in named rest ≡ Ok request
        → Asks (show ∷ word ∷ rest) (asked_by request)
    at None rest is e = absurd cc
    at (Some what) (next ∷ rest) is e = absurd cc
    at (Some what) [] is e =
        let same : showing what ≡ request = cc in
        let first : word ≡ format_text what = named_is word what is in
        subst (λ (r : Request). Asks (show ∷ word ∷ []) (asked_by r)) same
        (subst (λ (w : List ℕ). Asks (show ∷ w ∷ []) (shown_as what)) (sym first) (show_asks what))

pub command_in-is : (words : List (List ℕ)) (request : Request) → command_in words ≡ Ok request → Asks words (asked_by request)
unfolding command_in
command_in-is [] request h = absurd cc
command_in-is (word ∷ words) request h = at (bytes_eq word serve) (bytes_eq word replay) (bytes_eq word show) refl refl refl h
  where
    on : (first : List ℕ) → bytes_eq word first ≡ true → Asks (first ∷ words) (asked_by request) → Asks (word ∷ words) (asked_by request)
    on first is asks = subst (λ (w : List ℕ). Asks (w ∷ words) (asked_by request)) (sym (same_bytes word first is)) asks

    at : (a b c : Bool) → bytes_eq word serve ≡ a → bytes_eq word replay ≡ b → bytes_eq word show ≡ c → after_first a b c words ≡ Ok request → Asks (word ∷ words) (asked_by request)
    at true b c x y z e = on serve x (serve_is words (words_in 2 65536 (between nothing_given) words) request refl e)
    at false true c x y z e = on replay y (replay_is words request e)
    at false false true x y z e = on show z (show_is words request e)
    at false false false x y z e = absurd cc

-- ---- and each command line is read

pub record IsRead (words : List (List ℕ)) (asked : Asked) : Type 0 where
  pub request : Request
  pub reads : command_in words ≡ Ok request
  pub meant : asked ≡ asked_by request

command_in-serve : (words : List (List ℕ)) → command_in (serve ∷ words) ≡ served_in (words_in 2 65536 (between nothing_given) words)
unfolding command_in
command_in-serve words = refl

command_in-replay : command_in (replay ∷ []) ≡ Ok replaying
unfolding command_in
command_in-replay = refl

command_in-show : (what : Format) → command_in (show ∷ format_text what ∷ []) ≡ Ok (showing what)
unfolding command_in
command_in-show what = ap (λ (named : Option Format). format_in named []) (named_again what)

serve_read : (words : List (List ℕ)) (asked : Asked) → IsCommand (serve ∷ words) asked → IsWithin (serve ∷ words) → IsRead (serve ∷ words) asked
serve_read words asked command within =
    let p = parts words asked command in
    record {
      request = serving p.settings;
      reads = command_in-serve words ∙ ap served_in (is-words_in words 2 65536 (between nothing_given) p.settings p.options (record { one_line = within.one_line.1; short = within.short }));
      meant = p.meant;
    }

read_as : (words : List (List ℕ)) (asked : Asked) → IsCommand words asked → IsWithin words → IsRead words asked
read_as [] asked command within = absurd (no_parts asked command)
read_as (word ∷ words) asked (inl command) within =
    let first : word ≡ serve = let e = command.spelled in cc in
    subst (λ (w : List ℕ). IsRead (w ∷ words) asked) (sym first)
    (serve_read words asked (inl (subst (λ (w : List ℕ). IsService (w ∷ words) asked) first command)) (subst (λ (w : List ℕ). IsWithin (w ∷ words)) first within))
read_as (word ∷ words) asked (inr (inl (e, a))) within = record { request = replaying; reads = ap command_in e ∙ command_in-replay; meant = a }
read_as (word ∷ words) asked (inr (inr (what, e, a))) within = record { request = showing what; reads = ap command_in e ∙ command_in-show what; meant = a }

pub is-command_in : (words : List (List ℕ)) (asked : Asked) → Asks words asked → IsRead words asked
is-command_in words asked asks = read_as words asked asks.command asks.within

-- ---- where the reading ceases, the words cease to be a command line

-- `serve` can stand
serve_stands : (words : List (List ℕ)) → CanStand 1 (serve ∷ words)
serve_stands words = record {
  begins = record { more = []; asked = asked_of nothing_given; whole = whole [] nothing_given (record { given = []; spelled = refl; in_form = tt; each_new = tt; meant = refl }) };
  one_line = refl;
  short = omega arith;
}

-- and a later word where it fits the options
stands_later : (words : List (List ℕ)) (i : ℕ) → Fits 65536 (between nothing_given) words i → CanStand (suc (suc i)) (serve ∷ words)
stands_later words i fits = record {
  begins = record { more = fits.more; asked = asked_of fits.settings; whole = whole (take (suc i) words ++ fits.more) fits.settings fits.rest };
  one_line = let e : suc (suc i) - 1 ≡ suc i = omega arith in rw e fits.one_line;
  short = fits.short;
}

later_stands : (words : List (List ℕ)) (i : ℕ) → CanStand (suc (suc i)) (serve ∷ words) → Fits 65536 (between nothing_given) words i
later_stands words i stands =
    let p = parts (take (suc i) words ++ stands.begins.more) stands.begins.asked stands.begins.whole in
    record {
      more = stands.begins.more;
      settings = p.settings;
      rest = p.options;
      one_line = let e : suc (suc i) - 1 ≡ suc i = omega arith in rw e at stands.one_line;
      short = stands.short;
    }

all_stand : (words : List (List ℕ)) (n : ℕ) → ((i : ℕ) → i < n → Fits 65536 (between nothing_given) words i) → (j : ℕ) → 1 ≤ j → j < suc (suc n) → CanStand j (serve ∷ words)
all_stand words n each zero some below = absurd (omega arith)
all_stand words n each (suc zero) some below = serve_stands words
all_stand words n each (suc (suc i)) some below = stands_later words i (each i (omega arith))

serve_ceases : (words : List (List ℕ)) (misplaced : Misplaced) → words_in 2 65536 (between nothing_given) words ≡ Err misplaced → CeasesAt (serve ∷ words) misplaced
serve_ceases words (Word k) h =
    let ceases = words_in-place words 2 65536 (between nothing_given) k h in
    let at : k ≡ suc (suc ceases.index) = let place = ceases.place in omega arith in
    let inside = ceases.inside in (
      omega arith,
      omega arith,
      λ stands. ceases.cannot (later_stands words ceases.index (rw at at stands)),
      λ j some below. all_stand words ceases.index ceases.earlier j some (omega arith),
    )
serve_ceases words End h =
    let ceases = words_in-stays words 2 65536 (between nothing_given) h in (
      λ j some below. all_stand words (length words) ceases.each j some (omega arith),
      λ asked asks. let p = parts words asked asks.command in ceases.incomplete p.settings p.options,
    )

serve_stops : (words : List (List ℕ)) (r : Result Settings Misplaced) (misplaced : Misplaced) → words_in 2 65536 (between nothing_given) words ≡ r → served_in r ≡ Err misplaced → CeasesAt (serve ∷ words) misplaced
serve_stops words (Ok s) misplaced is e = absurd cc
serve_stops words (Err m) misplaced is e = let same : m ≡ misplaced = cc in subst (CeasesAt (serve ∷ words)) same (serve_ceases words m is)

-- nothing stands behind `replay`
replay_stands : (words : List (List ℕ)) → CanStand 1 (replay ∷ words)
replay_stands words = record { begins = record { more = []; asked = Replay; whole = inr (inl (refl, refl)) }; one_line = refl; short = omega arith }

replay_stops : (words : List (List ℕ)) (misplaced : Misplaced) → last_in 2 replaying words ≡ Err misplaced → CeasesAt (replay ∷ words) misplaced
replay_stops [] misplaced h = absurd cc
replay_stops (word ∷ words) misplaced h =
    let same : Word 2 ≡ misplaced = cc in
    subst (CeasesAt (replay ∷ word ∷ words)) same (
      omega arith,
      omega arith,
      λ stands. replay_alone word stands.begins.more stands.begins.asked stands.begins.whole,
      first,
    )
  where
    first : (j : ℕ) → 1 ≤ j → j < 2 → CanStand j (replay ∷ word ∷ words)
    first zero some below = absurd (omega arith)
    first (suc zero) some below = replay_stands (word ∷ words)
    first (suc (suc j)) some below = absurd (omega arith)

-- the name of a format alone stands behind `show`, and nothing behind it
show_stands : (words : List (List ℕ)) → CanStand 1 (show ∷ words)
show_stands words = record {
  begins = record { more = format_text format.Capture ∷ []; asked = shown_as format.Capture; whole = inr (inr (format.Capture, refl, refl)) };
  one_line = refl;
  short = omega arith;
}

format_stands : (what : Format) (words : List (List ℕ)) → CanStand 2 (show ∷ format_text what ∷ words)
format_stands format.Amqp091 words = record {
  begins = record { more = []; asked = shown_as format.Amqp091; whole = inr (inr (format.Amqp091, refl, refl)) };
  one_line = refl;
  short = omega arith;
}
format_stands format.Amqp10 words = record {
  begins = record { more = []; asked = shown_as format.Amqp10; whole = inr (inr (format.Amqp10, refl, refl)) };
  one_line = refl;
  short = omega arith;
}
format_stands format.Capture words = record {
  begins = record { more = []; asked = shown_as format.Capture; whole = inr (inr (format.Capture, refl, refl)) };
  one_line = refl;
  short = omega arith;
}

show_stops : (words : List (List ℕ)) (misplaced : Misplaced) → shown_in words ≡ Err misplaced → CeasesAt (show ∷ words) misplaced
show_stops [] misplaced h =
    let same : End ≡ misplaced = cc in
    subst (CeasesAt (show ∷ [])) same (first, λ asked asks. show_alone asked asks.command)
  where
    first : (j : ℕ) → 1 ≤ j → j ≤ 1 → CanStand j (show ∷ [])
    first zero some below = absurd (omega arith)
    first (suc zero) some below = show_stands []
    first (suc (suc j)) some below = absurd (omega arith)
show_stops (word ∷ words) misplaced h = at (format_named word) words refl h
  where
    first : (rest : List (List ℕ)) (j : ℕ) → 1 ≤ j → j < 2 → CanStand j (show ∷ word ∷ rest)
    first rest zero some below = absurd (omega arith)
    first rest (suc zero) some below = show_stands (word ∷ rest)
    first rest (suc (suc j)) some below = absurd (omega arith)

    both : (what : Format) (rest : List (List ℕ)) → word ≡ format_text what → (j : ℕ) → 1 ≤ j → j < 3 → CanStand j (show ∷ word ∷ rest)
    both what rest is zero some below = absurd (omega arith)
    both what rest is (suc zero) some below = show_stands (word ∷ rest)
    both what rest is (suc (suc zero)) some below = subst (λ (w : List ℕ). CanStand 2 (show ∷ w ∷ rest)) (sym is) (format_stands what rest)
    both what rest is (suc (suc (suc j))) some below = absurd (omega arith)

    at : (named : Option Format) (rest : List (List ℕ)) → format_named word ≡ named → format_in named rest ≡ Err misplaced
        → CeasesAt (show ∷ word ∷ rest) misplaced
    at (Some what) [] is e = absurd cc
    at (Some what) (next ∷ rest) is e =
        let same : Word 3 ≡ misplaced = cc in
        subst (CeasesAt (show ∷ word ∷ next ∷ rest)) same (
          omega arith,
          omega arith,
          λ stands. format_last word next stands.begins.more stands.begins.asked stands.begins.whole,
          both what (next ∷ rest) (named_is word what is),
        )
    at None rest is e =
        let same : Word 2 ≡ misplaced = cc in
        subst (CeasesAt (show ∷ word ∷ rest)) same (
          omega arith,
          omega arith,
          λ stands. show_other word stands.begins.more stands.begins.asked (unnamed word is) stands.begins.whole,
          first rest,
        )

none_stops : (word : List ℕ) (words : List (List ℕ)) → word ≢ serve → word ≢ replay → word ≢ show → CeasesAt (word ∷ words) (Word 1)
none_stops word words s r h = (
  omega arith,
  omega arith,
  λ stands. no_command word stands.begins.more stands.begins.asked s r h stands.begins.whole,
  λ j some below. absurd (omega arith),
)

pub command_in-ceases : (words : List (List ℕ)) (misplaced : Misplaced) → command_in words ≡ Err misplaced → CeasesAt words misplaced
unfolding command_in
command_in-ceases [] misplaced h =
    let e : End ≡ misplaced = cc in
    subst (λ (m : Misplaced). CeasesAt [] m) e (λ j some below. absurd (omega arith), λ asked asks. no_parts asked asks.command)
command_in-ceases (word ∷ words) misplaced h = at (bytes_eq word serve) (bytes_eq word replay) (bytes_eq word show) refl refl refl h
  where
    on : (first : List ℕ) → bytes_eq word first ≡ true → CeasesAt (first ∷ words) misplaced → CeasesAt (word ∷ words) misplaced
    on first is ceases = subst (λ (w : List ℕ). CeasesAt (w ∷ words) misplaced) (sym (same_bytes word first is)) ceases

    at : (a b c : Bool) → bytes_eq word serve ≡ a → bytes_eq word replay ≡ b → bytes_eq word show ≡ c → after_first a b c words ≡ Err misplaced → CeasesAt (word ∷ words) misplaced
    at true b c x y z e = on serve x (serve_stops words (words_in 2 65536 (between nothing_given) words) misplaced refl e)
    at false true c x y z e = on replay y (replay_stops words misplaced e)
    at false false true x y z e = on show z (show_stops words misplaced e)
    at false false false x y z e =
        let same : Word 1 ≡ misplaced = cc in
        subst (CeasesAt (word ∷ words)) same (none_stops word words (unlike word serve x) (unlike word replay y) (unlike word show z))

-- settings whose values may be set
record AreSettable (s : Settings) : Type 0 where
  name : IfSome s.name IsName
  host : IfSome s.host IsHost
  vhost : IfSome s.vhost (λ vhost. length vhost ≤ 255)
  exchange : IfSome s.exchange AreRoutes
  pairs : IfSome s.pairs (λ n. 1 ≤ n)
  turns : IfSome s.turns (λ n. (1 ≤ n) × (n ≤ 140737488355328))

settable : (g : Given) → IsInForm g → IsSettable (setting_of g)
settable (joined setting) h = h
settable (apart setting) h = h.0

settable_with : (setting : Setting) (s : Settings) → IsSettable setting → AreSettable s → AreSettable (with_setting setting s)
settable_with (listen_at address) s h a = record { name = a.name; host = a.host; vhost = a.vhost; exchange = a.exchange; pairs = a.pairs; turns = a.turns }
settable_with (upstream_at address) s h a = record { name = a.name; host = a.host; vhost = a.vhost; exchange = a.exchange; pairs = a.pairs; turns = a.turns }
settable_with (known_as name) s h a = record { name = h.1; host = a.host; vhost = a.vhost; exchange = a.exchange; pairs = a.pairs; turns = a.turns }
settable_with (host_named host) s h a = record { name = a.name; host = h.1; vhost = a.vhost; exchange = a.exchange; pairs = a.pairs; turns = a.turns }
settable_with (vhost_named vhost) s h a = record { name = a.name; host = a.host; vhost = h.1; exchange = a.exchange; pairs = a.pairs; turns = a.turns }
settable_with (exchanges_at routes) s h a = record { name = a.name; host = a.host; vhost = a.vhost; exchange = h.1; pairs = a.pairs; turns = a.turns }
settable_with (pair_count n) s h a = record { name = a.name; host = a.host; vhost = a.vhost; exchange = a.exchange; pairs = h.0; turns = a.turns }
settable_with (turn_count n) s h a = record { name = a.name; host = a.host; vhost = a.vhost; exchange = a.exchange; pairs = a.pairs; turns = h }
settable_with (capture_to path) s h a = record { name = a.name; host = a.host; vhost = a.vhost; exchange = a.exchange; pairs = a.pairs; turns = a.turns }

settable_all : (given : List Given) (s : Settings) → AllByRecursion IsInForm given → AreSettable s → AreSettable (settings_with s given)
settable_all [] s h a = a
settable_all (g ∷ given) s h a = settable_all given (with_setting (setting_of g) s) h.1 (settable_with (setting_of g) s (settable g h.0) a)

turns_in_form : (turns : Option ℕ) → IfSome turns (λ n. (1 ≤ n) × (n ≤ 140737488355328)) → (1 ≤ unwrap_or turns 140737488355328) × (unwrap_or turns 140737488355328 ≤ 140737488355328)
turns_in_form None h = (omega arith, omega arith)
turns_in_form (Some n) h = h

name_in_form : (name : Option (List ℕ)) → IfSome name IsName → IsName (unwrap_or name (codes "amqp-gate"))
name_in_form None h = record { ascii = refl; short = omega arith }
name_in_form (Some name) h = h

vhost_in_form : (vhost : Option (List ℕ)) → IfSome vhost (λ vhost. length vhost ≤ 255) → length (unwrap_or vhost (codes "/")) ≤ 255
vhost_in_form None h = omega arith
vhost_in_form (Some vhost) h = h

routes_in_form : (routes : Option (List Route)) → IfSome routes AreRoutes
    → AreRoutes (unwrap_or routes [])
routes_in_form None h = record { each = tt; apart = tt }
routes_in_form (Some routes) h = h

all_in_form : (s : Settings) → AreSettable s → AreInForm (asked_of s)
all_in_form s a =
    let turns = turns_in_form s.turns a.turns in (
      record { pairs = a.pairs; some = turns.0; most = turns.1 },
      record {
        name = name_in_form s.name a.name;
        host = a.host;
        vhost = vhost_in_form s.vhost a.vhost;
        routes = routes_in_form s.exchange a.exchange;
      },
    )

-- what a command line asks for is in form
pub asked_in_form : (words : List (List ℕ)) (asked : Asked) → IsCommand words asked → AreInForm asked
asked_in_form words asked (inl command) =
    let a = settable_all command.given nothing_given command.in_form (record { name = tt; host = tt; vhost = tt; exchange = tt; pairs = tt; turns = tt }) in
    subst AreInForm (sym command.meant) (all_in_form (settings_with nothing_given command.given) a)
asked_in_form words asked (inr (inl (e, a))) = subst AreInForm (sym a) tt
asked_in_form words asked (inr (inr (what, e, a))) = subst AreInForm (sym a) (free what)
  where
    free : (what : Format) → AreInForm (shown_as what)
    free format.Amqp091 = tt
    free format.Amqp10 = tt
    free format.Capture = tt
