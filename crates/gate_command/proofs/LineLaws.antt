-- What the reading of all words answers, by what the words may be.
use Rattle.std.proofs.Common.{◌≡◌, ◌≢◌, ℕ, suc, zero, ◌+◌, ◌-◌, ◌<◌, ◌≤◌, false, List, [], ◌∷◌}
use Rattle.std.proofs.Common.{◌++◌, length, get_or, take, Option, Some, None, Ok, Err, refl, sym}
use Rattle.std.proofs.Common.{◌∙◌, subst, arith}
use Rattle.std.specs.Prelude.{sum_by}
use Rattle.std.specs.List.{AllByRecursion}
use Rattle.std.proofs.lemmas.List.Sums.{sum_by-cons}
use Rattle.gate_command.specs.declared.words.Misplaced.TheVariants.{Word, End}
use Rattle.gate_command.specs.Command.{Settings, has_line_feed}
use Rattle.gate_command.specs.Reading.{State, between, awaiting, word_in, words_in}
use Rattle.gate_command.proofs.Steps.{words_in-next, words_in-stop, words_in-end, Stands}
use Rattle.gate_command.proofs.Steps.{word_in-stands, word_in-is}
use Rattle.gate_command.proofs.WordLaws.{IsRest, before, after, ended-is, is-ended, goes_on}

-- no word has a line feed, and there is room for all of them
pub record AreWithin (room : ℕ) (words : List (List ℕ)) : Type 0 where
  pub one_line : AllByRecursion (λ word. has_line_feed word ≡ false) words
  pub short : sum_by length words ≤ room

-- words that are read to the end are all that may be left
pub record IsReadTo (room : ℕ) (state : State) (words : List (List ℕ)) (t : Settings) : Type 0 where
  pub rest : IsRest state words t
  pub within : AreWithin room words

pub words_in-is : (words : List (List ℕ)) (k room : ℕ) (state : State) (t : Settings) → words_in k room state words ≡ Ok t → IsReadTo room state words t
words_in-is [] k room state t h = record { rest = ended-is state t (sym (words_in-end k room state) ∙ h); within = record { one_line = tt; short = omega arith } }
words_in-is (word ∷ words) k room state t h = at (words_in-is words (k + 1) (room - length word)) (word_in room state word) refl
  where
    at : ((next : State) (t : Settings) → words_in (k + 1) (room - length word) next words ≡ Ok t → IsReadTo (room - length word) next words t)
        → (r : Option State) → word_in room state word ≡ r → IsReadTo room state (word ∷ words) t
    at later None is = let e = words_in-stop k room state word words is in absurd cc
    at later (Some next) is =
        let stands = word_in-stands room state next word is in
        let others = later next t (sym (words_in-next k room state next word words is) ∙ h) in
        record {
          rest = before state next word words t stands.steps others.rest;
          within = record { one_line = (stands.one_line, others.within.one_line); short = let fits = stands.fits in let short = others.within.short in omega (arith, sum_by-cons length word words) };
        }

-- and all that may be left is read to the end
pub is-words_in : (words : List (List ℕ)) (k room : ℕ) (state : State) (t : Settings) → IsRest state words t → AreWithin room words → words_in k room state words ≡ Ok t
is-words_in [] k room state t rest within = words_in-end k room state ∙ is-ended state t rest
is-words_in (word ∷ words) k room state t rest within =
    let leads = after state word words t rest in
    let short : length word + sum_by length words ≤ room = rw (← sum_by-cons length word words) within.short in
    let stands : Stands room state leads.next word = record { one_line = within.one_line.0; fits = omega arith; steps = leads.steps } in
    words_in-next k room state leads.next word words (word_in-is room state leads.next word stands)
    ∙ is-words_in words (k + 1) (room - length word) leads.next t leads.rest (record { one_line = within.one_line.1; short = omega arith })

-- the word at an index can stand after those before it
pub record Fits (room : ℕ) (state : State) (words : List (List ℕ)) (i : ℕ) : Type 0 where
  pub more : List (List ℕ)
  pub settings : Settings
  pub rest : IsRest state (take (suc i) words ++ more) settings
  pub one_line : has_line_feed (get_or words i []) ≡ false
  pub short : sum_by length (take (suc i) words) ≤ room

-- the first word can where it leads on
fits_first : (room : ℕ) (state next : State) (word : List ℕ) (words : List (List ℕ)) → Stands room state next word → Fits room state (word ∷ words) 0
fits_first room state next word words stands =
    let may = goes_on next in
    record {
      more = may.more;
      settings = may.settings;
      rest = before state next word may.more may.settings stands.steps may.rest;
      one_line = stands.one_line;
      short = let fits = stands.fits in omega arith;
    }

first_stands : (room : ℕ) (state : State) (word : List ℕ) (words : List (List ℕ)) → Fits room state (word ∷ words) 0 → word_in room state word ≢ None
first_stands room state word words fits none =
    let leads = after state word fits.more fits.settings fits.rest in
    let short = fits.short in
    let e = word_in-is room state leads.next word (record { one_line = fits.one_line; fits = omega arith; steps = leads.steps }) in
    absurd cc

-- a later one can where it can after the first
fits_later : (room : ℕ) (state next : State) (word : List ℕ) (words : List (List ℕ)) (i : ℕ) → Stands room state next word → Fits (room - length word) next words i → Fits room state (word ∷ words) (suc i)
fits_later room state next word words i stands fits = record {
  more = fits.more;
  settings = fits.settings;
  rest = before state next word (take (suc i) words ++ fits.more) fits.settings stands.steps fits.rest;
  one_line = fits.one_line;
  short = let own = stands.fits in let others = fits.short in omega (arith, sum_by-cons length word (take (suc i) words));
}

later_fits : (room : ℕ) (state next : State) (word : List ℕ) (words : List (List ℕ)) (i : ℕ) → Stands room state next word → Fits room state (word ∷ words) (suc i) → Fits (room - length word) next words i
later_fits room state next word words i stands fits =
    let leads = after state word (take (suc i) words ++ fits.more) fits.settings fits.rest in
    let same : leads.next ≡ next = let e = leads.steps in let f = stands.steps in cc in
    record {
      more = fits.more;
      settings = fits.settings;
      rest = subst (λ (s : State). IsRest s (take (suc i) words ++ fits.more) fits.settings) same leads.rest;
      one_line = fits.one_line;
      short = let others = fits.short in omega (arith, sum_by-cons length word (take (suc i) words));
    }

-- where the reading ceases at a word, that is the first that can't stand
pub record CeasesAtIndex (k room : ℕ) (state : State) (words : List (List ℕ)) (j : ℕ) : Type 0 where
  pub index : ℕ
  pub place : j ≡ k + index
  pub inside : index < length words
  pub cannot : ¬ Fits room state words index
  pub earlier : (i : ℕ) → i < index → Fits room state words i

pub words_in-place : (words : List (List ℕ)) (k room : ℕ) (state : State) (j : ℕ) → words_in k room state words ≡ Err (Word j) → CeasesAtIndex k room state words j
words_in-place [] k room (between s) j h = let e = words_in-end k room (between s) in absurd cc
words_in-place [] k room (awaiting option s) j h = let e = words_in-end k room (awaiting option s) in absurd cc
words_in-place (word ∷ words) k room state j h = at (words_in-place words (k + 1) (room - length word)) (word_in room state word) refl
  where
    at : ((next : State) (j : ℕ) → words_in (k + 1) (room - length word) next words ≡ Err (Word j) → CeasesAtIndex (k + 1) (room - length word) next words j)
        → (r : Option State) → word_in room state word ≡ r → CeasesAtIndex k room state (word ∷ words) j
    at later None is =
        let e = words_in-stop k room state word words is in
        let same : k ≡ j = cc in
        record { index = 0; place = omega arith; inside = omega arith; cannot = λ fits. first_stands room state word words fits is; earlier = λ i below. absurd (omega arith) }
    at later (Some next) is =
        let stands = word_in-stands room state next word is in
        let others = later next j (sym (words_in-next k room state next word words is) ∙ h) in
        let place = others.place in
        let inside = others.inside in
        record {
          index = suc others.index;
          place = omega arith;
          inside = omega arith;
          cannot = λ fits. others.cannot (later_fits room state next word words others.index stands fits);
          earlier = earlier stands others.index others.earlier;
        }
      where
        earlier : Stands room state next word → (index : ℕ) → ((i : ℕ) → i < index → Fits (room - length word) next words i) → (i : ℕ) → i < suc index → Fits room state (word ∷ words) i
        earlier stands index below zero h = fits_first room state next word words stands
        earlier stands index below (suc i) h = fits_later room state next word words i stands (below i (omega arith))

-- where it ceases at the end, each can stand, and they aren't all that may be left
pub record CeasesAtEnd (room : ℕ) (state : State) (words : List (List ℕ)) : Type 0 where
  pub each : (i : ℕ) → i < length words → Fits room state words i
  pub incomplete : (t : Settings) → ¬ IsRest state words t

pub words_in-stays : (words : List (List ℕ)) (k room : ℕ) (state : State) → words_in k room state words ≡ Err End → CeasesAtEnd room state words
words_in-stays [] k room state h = record {
  each = λ i below. absurd (omega arith);
  incomplete = λ t rest. let e = words_in-end k room state in let f = is-ended state t rest in absurd cc;
}
words_in-stays (word ∷ words) k room state h = at (words_in-stays words (k + 1) (room - length word)) (word_in room state word) refl
  where
    at : ((next : State) → words_in (k + 1) (room - length word) next words ≡ Err End → CeasesAtEnd (room - length word) next words)
        → (r : Option State) → word_in room state word ≡ r → CeasesAtEnd room state (word ∷ words)
    at later None is = let e = words_in-stop k room state word words is in absurd cc
    at later (Some next) is =
        let stands = word_in-stands room state next word is in
        let others = later next (sym (words_in-next k room state next word words is) ∙ h) in
        record { each = each stands others.each; incomplete = λ t rest. others.incomplete t (on stands t rest) }
      where
        each : Stands room state next word → ((i : ℕ) → i < length words → Fits (room - length word) next words i) → (i : ℕ) → i < length (word ∷ words) → Fits room state (word ∷ words) i
        each stands later zero below = fits_first room state next word words stands
        each stands later (suc i) below = fits_later room state next word words i stands (later i (omega arith))

        on : Stands room state next word → (t : Settings) → IsRest state (word ∷ words) t → IsRest next words t
        on stands t rest =
            let leads = after state word words t rest in
            let same : leads.next ≡ next = let e = leads.steps in let f = stands.steps in cc in
            subst (λ (s : State). IsRest s words t) same leads.rest
