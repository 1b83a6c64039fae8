-- The steps of the loop over the words.
use Rattle.std.proofs.Common.{◌≡◌, ℕ, ◌+◌, ◌-◌, ◌<◌, ◌≤◌, ◌||◌, ltb, Bool, true, false, cond, List}
use Rattle.std.proofs.Common.{[], ◌∷◌, length, Option, Some, None, Err, map, drop, get_or, suc}
use Rattle.std.proofs.Common.{refl, sym, ◌∙◌, arith, add-one, drop-cons}
use Rattle.std.specs.Str.{is_utf8}
use Rattle.std.proofs.lemmas.Bool.Decides.{nat_tests}
use Rattle.std.proofs.lemmas.List.{drop_all}
use Rattle.gate_command.specs.declared.options.OptionName.{OptionName}
use Rattle.gate_command.specs.declared.options.OptionName.TheVariants.{Listen, Upstream, Name, Host}
use Rattle.gate_command.specs.declared.options.OptionName.TheVariants.{Vhost, Exchange, Pairs}
use Rattle.gate_command.specs.declared.options.OptionName.TheVariants.{Turns, Capture}
use Rattle.gate_command.specs.declared.words.Misplaced.TheVariants.{Word}
use Rattle.gate_command.specs.Command.{Settings, has_line_feed}
use Rattle.gate_command.specs.Reading.{State, between, awaiting, step, short_in, name_in, host_in}
use Rattle.gate_command.specs.Reading.{set_in, option_in, word_in, words_in, ended, option_named}
use Rattle.gate_command.proofs.RouteLaws.{routes_in-nil}
use Rattle.gate_command.proofs.Numbers.{number_in-nil}

-- a word that can stand leads on
pub words_in-next : (k room : ℕ) (state next : State) (word : List ℕ) (words : List (List ℕ)) → word_in room state word ≡ Some next
    → words_in k room state (word ∷ words) ≡ words_in (k + 1) (room - length word) next words
unfolding words_in
words_in-next k room state next word words h = rw h refl

-- and one that can't is named
pub words_in-stop : (k room : ℕ) (state : State) (word : List ℕ) (words : List (List ℕ)) → word_in room state word ≡ None
    → words_in k room state (word ∷ words) ≡ Err (Word k)
unfolding words_in
words_in-stop k room state word words h = rw h refl

pub words_in-end : (k room : ℕ) (state : State) → words_in k room state [] ≡ ended state
unfolding words_in
words_in-end k room state = refl

-- no value is empty
host_in-nil : host_in [] ≡ None
unfolding host_in short_in
host_in-nil = at (is_utf8 [])
  where
    at : (utf8 : Bool) → cond {A = Option (List ℕ)} utf8 None None ≡ None
    at true = refl
    at false = refl

set_in-nil : (option : OptionName) (s : Settings) → set_in option [] s ≡ None
unfolding set_in name_in short_in
set_in-nil Listen s = refl
set_in-nil Upstream s = refl
set_in-nil Name s = refl
set_in-nil Host s = rw host_in-nil refl
set_in-nil Vhost s = refl
set_in-nil Exchange s = rw routes_in-nil refl
set_in-nil Pairs s = rw (number_in-nil 4294967295) refl
set_in-nil Turns s = rw (number_in-nil 140737488355328) refl
set_in-nil Capture s = refl

option_in-nil : (s : Settings) → option_in [] s ≡ None
unfolding option_in option_named
option_in-nil s = refl

-- no word is
pub step-nil : (state : State) → step state [] ≡ None
step-nil (between s) = option_in-nil s
step-nil (awaiting option s) = rw (set_in-nil option s) refl

-- what a word in place is
pub record Stands (room : ℕ) (state next : State) (word : List ℕ) : Type 0 where
  pub one_line : has_line_feed word ≡ false
  pub fits : length word ≤ room
  pub steps : step state word ≡ Some next

pub word_in-stands : (room : ℕ) (state next : State) (word : List ℕ) → word_in room state word ≡ Some next → Stands room state next word
unfolding word_in
word_in-stands room state next word h = at (has_line_feed word) (ltb room (length word)) refl refl h
  where
    at : (feed over : Bool) → has_line_feed word ≡ feed → ltb room (length word) ≡ over → cond (feed || over) None (step state word) ≡ Some next → Stands room state next word
    at true over f o e = absurd cc
    at false true f o e = absurd cc
    at false false f o e = record { one_line = f; fits = grind (arith, nat_tests); steps = e }

pub word_in-is : (room : ℕ) (state next : State) (word : List ℕ) → Stands room state next word → word_in room state word ≡ Some next
unfolding word_in
word_in-is room state next word h =
    let test : ltb room (length word) ≡ false = let f = h.fits in grind (arith, nat_tests) in
    rw (h.one_line, test) h.steps

-- a word that can stand has a byte, and no more than there is room for
pub word_takes : (room : ℕ) (state next : State) (word : List ℕ) → word_in room state word ≡ Some next → (1 ≤ length word) × (length word ≤ room)
word_takes room state next [] h = let s = word_in-stands room state next [] h in let e : None ≡ Some next = sym (step-nil state) ∙ s.steps in absurd cc
word_takes room state next (byte ∷ bytes) h = let s = word_in-stands room state next (byte ∷ bytes) h in (omega arith, s.fits)

-- the same of the word at an index
pub stops_at : {X : Type 0} (f : X → List ℕ) (xs : List X) (i : ℕ) (x : X) (text : List ℕ) (k room : ℕ) (state : State) → i < length xs → x ≡ get_or xs i x
    → text ≡ f x → word_in room state text ≡ None → words_in k room state (map f (drop i xs)) ≡ Err (Word k)
stops_at f xs i x text k room state inside is text_is h =
    rw (drop-cons xs i x inside, ← is) (words_in-stop k room state (f x) (map f (drop (suc i) xs)) (rw text_is at h))

pub goes_on : {X : Type 0} (f : X → List ℕ) (xs : List X) (i : ℕ) (x : X) (text : List ℕ) (k room : ℕ) (state next : State) → i < length xs → x ≡ get_or xs i x
    → text ≡ f x → word_in room state text ≡ Some next
    → words_in (k + 1) (room - length text) next (map f (drop (i + 1) xs)) ≡ words_in k room state (map f (drop i xs))
goes_on f xs i x text k room state next inside is text_is h =
    rw (drop-cons xs i x inside, ← is, add-one i, text_is) (sym (words_in-next k room state next (f x) (map f (drop (suc i) xs)) (rw text_is at h)))

pub is_done : {X : Type 0} (f : X → List ℕ) (xs : List X) (i k room : ℕ) (state : State) → length xs ≤ i → words_in k room state (map f (drop i xs)) ≡ ended state
is_done f xs i k room state past = rw (drop_all i xs past) (words_in-end k room state)
