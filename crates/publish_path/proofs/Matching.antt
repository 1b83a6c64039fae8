-- An open publish is as the journal says of its number, and stays so at each event.
use Rattle.std.proofs.Common.{◌≡◌, ◌∙◌, ℕ, ◌+◌, ◌-◌, ◌≤◌, List, [], ◌∷◌, ◌++◌, Bool, true, false, refl, sym}
use Rattle.std.proofs.Common.{ap, subst, arith, Option, Some, None, cond, length, drop}
use Rattle.std.specs.Prelude.{not, ◌&&◌, ◌||◌, ◌==◌, nat_lt, is_some}
use Rattle.std.specs.Option.{option_or}
use Rattle.std.proofs.lemmas.Bool.Decides.{nat_tests}
use Rattle.std.proofs.lemmas.List.{length-append, length-drop, drop-drop}
use Rattle.open_items.specs.Numbers.{has_any}
use Rattle.open_items.specs.declared.lost.LostKind.{LostKind}
use Rattle.publish_path.specs.declared.publish.Publish.{Publish}
use Rattle.publish_path.specs.declared.publish.Confirm.{Confirm}
use Rattle.publish_path.specs.declared.publish.Answer.{Answer}
use Rattle.publish_path.specs.declared.publish.Answer.TheVariants.{Open, Owed, Settled}
use Rattle.publish_path.specs.declared.publish.Place.{Place}
use Rattle.publish_path.specs.declared.publish.Place.TheVariants.{Waiting, Begun, Sent, Lost}
use Rattle.publish_path.specs.Publishes.{PublishEvent, FrameSent, OutcomeCame, LinkGone}
use Rattle.publish_path.specs.declared.publish.Outcome.{Outcome}
use Rattle.publish_path.specs.Publishes.{ConfirmSent, LinesTold, ReturnSent, is_waiting, is_begun}
use Rattle.publish_path.specs.Publishes.{is_sending, is_accepted, is_released, owes_return, returned}
use Rattle.publish_path.specs.Offers.{goes_on_returning, waits_return}
use Rattle.publish_path.specs.Laws.{is_returning, is_to_begin}
use Rattle.publish_path.specs.Publishes.{has_no_outcome, is_settled, is_open, has_more, place_then}
use Rattle.publish_path.specs.Publishes.{framed, in_range, due_for, told, is_on, lost_place}
use Rattle.publish_path.specs.Publishes.{lost_as, link_lost, covers, confirmed, reported}
use Rattle.publish_path.specs.Journal.{Fate, decided, fate_step, next_id_of, is_undecided, waits}
use Rattle.publish_path.specs.Journal.{goes_on, is_to_go, rest_by, is_done, is_to_come, is_to_return}

-- the frames of a publish: its place, what it keeps, and what the journal says
abbrev pub PlaceIs : Place → List ℕ → ℕ → List ℕ → List ℕ → Bool → Bool → Type 0
PlaceIs Waiting payload gone whole sent begun cut = (cut ≡ false) × (begun ≡ false) × (payload ≡ whole) × (gone ≡ length sent)
PlaceIs Begun payload gone whole sent begun cut = (cut ≡ false) × (begun ≡ true) × (payload ≡ whole) × (gone ≡ length sent) × (nat_lt (length sent) (length whole) ≡ true)
PlaceIs Sent payload gone whole sent begun cut = (begun ≡ true) × (nat_lt (length sent) (length whole) ≡ false)
PlaceIs Lost payload gone whole sent begun cut = cut ≡ true

-- what is owed: the answer, its confirm number, and what the journal says
abbrev pub AnswerIs : Answer → Option ℕ → Bool → Option Bool → Bool → Type 0
AnswerIs Open confirm answered outcome cut = (answered ≡ false) × (outcome ≡ None) × (cut ≡ false)
AnswerIs (Owed a) confirm answered outcome cut = (answered ≡ false) × (outcome ≡ Some a) × (is_some confirm ≡ true)
AnswerIs Settled confirm answered outcome cut = (answered || (not (is_some confirm) && is_some outcome)) ≡ true

-- a return: whether there is no outcome, what is left of it, whether it has begun, and what the
-- journal says
abbrev pub BackIs : Bool → List (List ℕ) → Bool → List (List ℕ) → Bool → ℕ → Type 0
BackIs true back returning all returns went = (back ≡ all) × (returning ≡ false) × (returns ≡ false) × (went ≡ 0)
BackIs false back returning all returns went =
    (back ≡ cond returns (drop went all) []) × (returning ≡ ((returns && nat_lt went (length all)) && nat_lt 0 went)) × (went ≤ length all)

pub record Matches (p : Publish) (f : Fate) : Type 0 where
  pub link : p.link ≡ f.link
  pub confirm : p.confirm ≡ f.confirm
  pub id : p.id ≡ f.id
  pub place : PlaceIs p.place p.payload p.gone f.payload f.sent f.begun f.cut
  pub answer : AnswerIs p.answer p.confirm f.answered f.outcome f.cut
  pub back : BackIs (has_no_outcome p.answer) p.back p.returning f.back f.returns f.returned
  pub line : p.line ≡ f.line

or_false : (b : Bool) → (b || false) ≡ b
or_false true = refl
or_false false = refl

or_true : (b : Bool) → (b || true) ≡ true
or_true true = refl
or_true false = refl

and_false : (b : Bool) → (b && false) ≡ false
and_false true = refl
and_false false = refl

-- a frame

lt_then : (a b c g : ℕ) → g ≡ a → nat_lt b (c - g) ≡ true → nat_lt (a + b) c ≡ true
lt_then a b c g e is = grind (arith, nat_tests)

lt_else : (a b c g : ℕ) → g ≡ a → nat_lt b (c - g) ≡ false → nat_lt (a + b) c ≡ false
lt_else a b c g e is = grind (arith, nat_tests)

lt_stays : (a b c : ℕ) → nat_lt a c ≡ false → nat_lt (a + b) c ≡ false
lt_stays a b c is = grind (arith, nat_tests)

framed_sending : (payload whole sent part : List ℕ) (gone : ℕ) (begun cut more : Bool) → cut ≡ false → payload ≡ whole → gone ≡ length sent → nat_lt (length part) (length payload - gone) ≡ more
    → PlaceIs (place_then more) (cond (not more) [] payload) (cond more (gone + length part) 0) whole (sent ++ part) (begun || true) cut
framed_sending payload whole sent part gone begun cut true uncut same count e = (
  uncut,
  or_true begun,
  same,
  ap (λ n. n + length part) count ∙ sym (length-append sent part),
  rw (length-append sent part) (lt_then (length sent) (length part) (length whole) gone count (subst (λ l. nat_lt (length part) (length l - gone) ≡ true) same e)),
)
framed_sending payload whole sent part gone begun cut false uncut same count e =
    (or_true begun, rw (length-append sent part) (lt_else (length sent) (length part) (length whole) gone count (subst (λ l. nat_lt (length part) (length l - gone) ≡ false) same e)))

framed_place : (place : Place) (payload whole sent part : List ℕ) (gone : ℕ) (begun cut on more : Bool) → nat_lt (length part) (length payload - gone) ≡ more
    → PlaceIs place payload gone whole sent begun cut
    → PlaceIs (cond (on && is_sending place) (place_then more) place) (cond ((on && is_sending place) && not more) [] payload) (cond (on && is_sending place) (cond more (gone + length part) 0) gone) whole (cond on (sent ++ part) sent) (begun || on) cut
framed_place place payload whole sent part gone begun cut false more e m = subst (λ b. PlaceIs place payload gone whole sent b cut) (sym (or_false begun)) m
framed_place Waiting payload whole sent part gone begun cut true more e m = framed_sending payload whole sent part gone begun cut more m.0 m.2 m.3 e
framed_place Begun payload whole sent part gone begun cut true more e m = framed_sending payload whole sent part gone begun cut more m.0 m.2 m.3 e
framed_place Sent payload whole sent part gone begun cut true more e m = (or_true begun, rw (length-append sent part) (lt_stays (length sent) (length part) (length whole) m.1))
framed_place Lost payload whole sent part gone begun cut true more e m = m

pub framed_matches : (number : ℕ) (first : Bool) (part : List ℕ) (p : Publish) (h : List PublishEvent) (f : Fate) → Matches p f → Matches (framed number first (next_id_of h) (length part) p) (fate_step p.number h (FrameSent number first part) f)
framed_matches number first part p h f m = record {
  link = m.link;
  confirm = m.confirm;
  id = ap (λ i. cond (p.number == number && first) (option_or i (Some (next_id_of h))) i) m.id;
  place = framed_place p.place p.payload f.payload f.sent part p.gone f.begun f.cut (p.number == number) (has_more (length part) p) refl m.place;
  answer = m.answer;
  back = m.back;
  line = m.line;
}

-- a return

any_left : (n : ℕ) (all left : List (List ℕ)) → left ≡ drop n all → has_any left ≡ nat_lt n (length all)
any_left n all [] e = let none = ap length e ∙ length-drop n all in grind (arith, nat_tests)
any_left n all (x ∷ xs) e = let some = ap length e ∙ length-drop n all in grind (arith, nat_tests)

-- it is owed as the journal says
owes_is : (open_still : Bool) (back : List (List ℕ)) (returning : Bool) (all : List (List ℕ)) (returns : Bool) (went : ℕ) → BackIs open_still back returning all returns went
    → (not open_still && has_any back) ≡ (returns && nat_lt went (length all))
owes_is true back returning all returns went m = rw m.2 refl
owes_is false back returning all true went m = any_left went all back m.0
owes_is false back returning all false went m = ap has_any m.0

back_decided : (open_still test ret : Bool) (back : List (List ℕ)) (returning : Bool) (all : List (List ℕ)) (returns : Bool) (went : ℕ) → BackIs open_still back returning all returns went
    → BackIs (open_still && not test) (cond ((open_still && test) && not ret) [] back) returning all (cond (open_still && test) ret returns) went
back_decided false test ret back returning all returns went m = m
back_decided true false ret back returning all returns went m = m
back_decided true true true back returning all returns went m =
    (m.0 ∙ sym (ap (λ n. drop n all) m.3), m.1 ∙ sym (ap (λ n. nat_lt went (length all) && nat_lt 0 n) m.3 ∙ and_false _), let none : went ≡ 0 = m.3 in omega arith)
back_decided true true false back returning all returns went m = (refl, m.1, let none : went ≡ 0 = m.3 in omega arith)

back_confirmed : (open_still on : Bool) (back : List (List ℕ)) (returning : Bool) (all : List (List ℕ)) (returns : Bool) (went : ℕ) → BackIs open_still back returning all returns went
    → BackIs (open_still && not on) (cond (open_still && on) [] back) returning all returns went
back_confirmed false on back returning all returns went m = m
back_confirmed true false back returning all returns went m = m
back_confirmed true true back returning all returns went m = (rw m.2 refl, m.1 ∙ rw m.2 refl, let none : went ≡ 0 = m.3 in omega arith)

back_returned : (open_still on : Bool) (back : List (List ℕ)) (returning : Bool) (all : List (List ℕ)) (returns : Bool) (went : ℕ) → BackIs open_still back returning all returns went
    → BackIs open_still (cond (on && (not open_still && has_any back)) (drop 1 back) back) (cond (on && (not open_still && has_any back)) (has_any (drop 1 back)) returning) all returns
    (cond (on && (returns && nat_lt went (length all))) (went + 1) went)
back_returned open_still on back returning all returns went m =
    subst (λ b. BackIs open_still (cond (on && (not open_still && has_any back)) (drop 1 back) back) (cond (on && (not open_still && has_any back)) (has_any (drop 1 back)) returning) all returns (cond (on && b) (went + 1) went)) (owes_is open_still back returning all returns went m)
    (by on open_still returns m (not open_still && has_any back) refl)
  where
    by : (on open_still returns : Bool) → BackIs open_still back returning all returns went → (b : Bool) → (not open_still && has_any back) ≡ b
        → BackIs open_still (cond (on && b) (drop 1 back) back) (cond (on && b) (has_any (drop 1 back)) returning) all returns (cond (on && b) (went + 1) went)
    by false open_still returns m b e = m
    by true open_still returns m false e = m
    by true true returns m true e = absurd (cc)
    by true false false m true e = absurd (let no : has_any back ≡ false = ap has_any m.0 in cc)
    by true false true m true e =
        let more : drop 1 back ≡ drop (went + 1) all = ap (drop 1) m.0 ∙ drop-drop 1 went all in
        let some : nat_lt went (length all) ≡ true = sym (any_left went all back m.0) ∙ e in
        (more, any_left (went + 1) all (drop 1 back) more ∙ gone_some went (nat_lt (went + 1) (length all)), less went (length all) some)
      where
        gone_some : (n : ℕ) (b : Bool) → b ≡ ((true && b) && nat_lt 0 (n + 1))
        gone_some n true = grind (arith, nat_tests)
        gone_some n false = refl

        less : (n m : ℕ) → nat_lt n m ≡ true → n + 1 ≤ m
        less n m e = grind (arith, nat_tests)

pub returned_matches : (number : ℕ) (p : Publish) (h : List PublishEvent) (f : Fate) → Matches p f → Matches (returned number p) (fate_step p.number h (ReturnSent number) f)
returned_matches number p h f m = record {
  link = m.link;
  confirm = m.confirm;
  id = m.id;
  place = m.place;
  answer = m.answer;
  back = back_returned (has_no_outcome p.answer) (p.number == number) p.back p.returning f.back f.returns f.returned m.back;
  line = m.line;
}

-- an outcome

done_decided : (x answered : Bool) (outcome : Option Bool) → (answered || (x && is_some outcome)) ≡ true → (not (is_some outcome) && not answered) ≡ false
done_decided x true None e = refl
done_decided x answered (Some a) e = refl
done_decided true false None e = absurd (cc)
done_decided false false None e = absurd (cc)

undecided_is : (answer : Answer) (confirm : Option ℕ) (answered : Bool) (outcome : Option Bool) (cut : Bool) → AnswerIs answer confirm answered outcome cut → has_no_outcome answer ≡ (not (is_some outcome) && not answered)
undecided_is Open confirm answered outcome cut m = rw (m.0, m.1) refl
undecided_is (Owed a) confirm answered outcome cut m = rw m.1 refl
undecided_is Settled confirm answered outcome cut m = sym (done_decided (not (is_some confirm)) answered outcome m)

pub undecided_test : (p : Publish) (f : Fate) → Matches p f → has_no_outcome p.answer ≡ is_undecided f
undecided_test p f m = undecided_is p.answer p.confirm f.answered f.outcome f.cut m.answer

still_open : (answer : Answer) (confirm : Option ℕ) (test accepted : Bool) → has_no_outcome (cond (has_no_outcome answer && test) (due_for confirm accepted) answer) ≡ (has_no_outcome answer && not test)
still_open Open confirm false accepted = refl
still_open Open None true accepted = refl
still_open Open (Some number) true accepted = refl
still_open (Owed a) confirm test accepted = refl
still_open Settled confirm test accepted = refl

-- by an outcome, or a loss, which the test says comes to it
decided_matches : (p : Publish) (f : Fate) (test accepted ret : Bool) → Matches p f
    → BackIs (has_no_outcome (cond (has_no_outcome p.answer && test) (due_for p.confirm accepted) p.answer)) (cond ((has_no_outcome p.answer && test) && not ret) [] p.back) p.returning f.back (cond (is_undecided f && test) ret f.returns) f.returned
decided_matches p f test accepted ret m =
    subst (λ b. BackIs b (cond ((has_no_outcome p.answer && test) && not ret) [] p.back) p.returning f.back (cond (is_undecided f && test) ret f.returns) f.returned) (sym (still_open p.answer p.confirm test accepted))
    (subst (λ u. BackIs (has_no_outcome p.answer && not test) (cond ((has_no_outcome p.answer && test) && not ret) [] p.back) p.returning f.back (cond (u && test) ret f.returns) f.returned) (undecided_test p f m)
    (back_decided (has_no_outcome p.answer) test ret p.back p.returning f.back f.returns f.returned m.back))

told_answer : (answer : Answer) (confirm : Option ℕ) (answered : Bool) (outcome : Option Bool) (cut test accepted : Bool) → AnswerIs answer confirm answered outcome cut
    → AnswerIs (cond (has_no_outcome answer && test) (due_for confirm accepted) answer) confirm answered (decided test accepted outcome) cut
told_answer Open confirm answered outcome cut false accepted m = m
told_answer Open confirm answered (Some a) cut true accepted m = absurd (cc)
told_answer Open None answered None cut true accepted m = or_true answered
told_answer Open (Some number) answered None cut true accepted m = (m.0, refl, refl)
told_answer (Owed a) confirm answered outcome cut false accepted m = m
told_answer (Owed a) confirm answered None cut true accepted m = absurd (cc)
told_answer (Owed a) confirm answered (Some b) cut true accepted m = m
told_answer Settled confirm answered outcome cut false accepted m = m
told_answer Settled confirm answered (Some b) cut true accepted m = m
told_answer Settled confirm true None cut true accepted m = refl
told_answer Settled None false None cut true accepted m = refl
told_answer Settled (Some number) false None cut true accepted m = m

pub told_matches : (first last : ℕ) (outcome : Outcome) (p : Publish) (h : List PublishEvent) (f : Fate) → Matches p f → Matches (told first last outcome p) (fate_step p.number h (OutcomeCame first last outcome) f)
told_matches first last outcome p h f m = record {
  link = m.link;
  confirm = m.confirm;
  id = m.id;
  place = m.place;
  line = m.line;
  answer = subst (λ i. AnswerIs (cond (has_no_outcome p.answer && in_range first last p.id) (due_for p.confirm (is_accepted outcome)) p.answer) p.confirm f.answered (decided (in_range first last i) (is_accepted outcome) f.outcome) f.cut) m.id
      (told_answer p.answer p.confirm f.answered f.outcome f.cut (in_range first last p.id) (is_accepted outcome) m.answer);
  back = subst (λ i. BackIs (has_no_outcome (told first last outcome p).answer) (told first last outcome p).back p.returning f.back (cond (is_undecided f && in_range first last i) (is_released outcome) f.returns) f.returned) m.id
      (decided_matches p f (in_range first last p.id) (is_accepted outcome) (is_released outcome) m);
}

-- a loss

lost_moves : (place : Place) (payload whole sent : List ℕ) (gone : ℕ) (begun cut on : Bool) → PlaceIs place payload gone whole sent begun cut
    → PlaceIs (cond on (lost_place place) place) (cond on [] payload) (cond on 0 gone) whole sent begun (cut || on)
lost_moves place payload whole sent gone begun cut false m = subst (PlaceIs place payload gone whole sent begun) (sym (or_false cut)) m
lost_moves Waiting payload whole sent gone begun cut true m = or_true cut
lost_moves Begun payload whole sent gone begun cut true m = or_true cut
lost_moves Sent payload whole sent gone begun cut true m = m
lost_moves Lost payload whole sent gone begun cut true m = or_true cut

lost_answer : (answer : Answer) (confirm : Option ℕ) (answered : Bool) (outcome : Option Bool) (cut on : Bool) → AnswerIs answer confirm answered outcome cut
    → AnswerIs (cond (has_no_outcome answer && on) (due_for confirm false) answer) confirm answered (decided on false outcome) (cut || on)
lost_answer answer confirm answered outcome cut false m = subst (AnswerIs (cond (has_no_outcome answer && false) (due_for confirm false) answer) confirm answered outcome) (sym (or_false cut)) (told_answer answer confirm answered outcome cut false false m)
lost_answer Open confirm answered (Some a) cut true m = absurd (cc)
lost_answer Open None answered None cut true m = or_true answered
lost_answer Open (Some number) answered None cut true m = (m.0, refl, refl)
lost_answer (Owed a) confirm answered outcome cut true m = told_answer (Owed a) confirm answered outcome cut true false m
lost_answer Settled confirm answered outcome cut true m = told_answer Settled confirm answered outcome cut true false m

waiting_test : (place : Place) (payload whole sent : List ℕ) (gone : ℕ) (begun cut : Bool) → PlaceIs place payload gone whole sent begun cut → cut ≡ false → is_waiting place ≡ not begun
waiting_test Waiting payload whole sent gone begun cut m e = rw m.1 refl
waiting_test Begun payload whole sent gone begun cut m e = rw m.1 refl
waiting_test Sent payload whole sent gone begun cut m e = rw m.0 refl
waiting_test Lost payload whole sent gone begun cut m e = absurd (cc)

lost_line : (answer : Answer) (confirm : Option ℕ) (answered : Bool) (outcome : Option Bool) (cut on waiting begun : Bool) (line told : Option LostKind) → AnswerIs answer confirm answered outcome cut → (cut ≡ false → waiting ≡ not begun) → line ≡ told
    → cond (has_no_outcome answer && on) (Some (lost_as waiting)) line ≡ cond ((not (is_some outcome) && not answered) && on) (Some (lost_as (not begun))) told
lost_line Open confirm answered outcome cut on waiting begun line told m same e = rw (m.0, m.1, e, same m.2) refl
lost_line (Owed a) confirm answered outcome cut on waiting begun line told m same e = rw m.1 e
lost_line Settled confirm answered outcome cut on waiting begun line told m same e = rw (done_decided (not (is_some confirm)) answered outcome m) e

pub lost_matches : (link : Option ℕ) (not_found : Bool) (p : Publish) (h : List PublishEvent) (f : Fate) → Matches p f → Matches (link_lost link not_found p) (fate_step p.number h (LinkGone link not_found) f)
lost_matches link not_found p h f m = record {
  link = m.link;
  confirm = m.confirm;
  id = m.id;
  place = subst (λ l. PlaceIs (link_lost link not_found p).place (link_lost link not_found p).payload (link_lost link not_found p).gone f.payload f.sent f.begun (f.cut || is_on link l)) m.link
      (lost_moves p.place p.payload f.payload f.sent p.gone f.begun f.cut (is_on link p.link) m.place);
  answer = subst (λ l. AnswerIs (link_lost link not_found p).answer p.confirm f.answered (decided (is_on link l) false f.outcome) (f.cut || is_on link l)) m.link
      (lost_answer p.answer p.confirm f.answered f.outcome f.cut (is_on link p.link) m.answer);
  back = subst (λ l. BackIs (has_no_outcome (link_lost link not_found p).answer) (link_lost link not_found p).back p.returning f.back (cond (is_undecided f && is_on link l) not_found f.returns) f.returned) m.link
      (decided_matches p f (is_on link p.link) false not_found m);
  line = subst (λ l. (link_lost link not_found p).line ≡ cond (is_undecided f && is_on link l) (Some (lost_as (not f.begun))) f.line) m.link
      (lost_line p.answer p.confirm f.answered f.outcome f.cut (is_on link p.link) (is_waiting p.place) f.begun p.line f.line m.answer (waiting_test p.place p.payload f.payload f.sent p.gone f.begun f.cut m.place) m.line);
}

-- a confirm, and a line

confirmed_answer : (answer : Answer) (confirm : Option ℕ) (answered : Bool) (outcome : Option Bool) (cut on : Bool) → AnswerIs answer confirm answered outcome cut
    → AnswerIs (cond on Settled answer) confirm (answered || on) outcome cut
confirmed_answer answer confirm answered outcome cut false m = subst (λ b. AnswerIs answer confirm b outcome cut) (sym (or_false answered)) m
confirmed_answer answer confirm answered outcome cut true m = rw (or_true answered) refl

covered_open : (answer : Answer) (on : Bool) → has_no_outcome (cond on Settled answer) ≡ (has_no_outcome answer && not on)
covered_open Open true = refl
covered_open Open false = refl
covered_open (Owed a) true = refl
covered_open (Owed a) false = refl
covered_open Settled true = refl
covered_open Settled false = refl

pub confirmed_matches : (c : Confirm) (p : Publish) (h : List PublishEvent) (f : Fate) → Matches p f → Matches (confirmed c p) (fate_step p.number h (ConfirmSent c) f)
confirmed_matches c p h f m = record {
  link = m.link;
  confirm = m.confirm;
  id = m.id;
  place = m.place;
  line = m.line;
  answer = subst (λ k. AnswerIs (confirmed c p).answer p.confirm (f.answered || covers c k) f.outcome f.cut) m.confirm
      (confirmed_answer p.answer p.confirm f.answered f.outcome f.cut (covers c p.confirm) m.answer);
  back = subst (λ b. BackIs b (confirmed c p).back p.returning f.back f.returns f.returned) (sym (covered_open p.answer (covers c p.confirm)))
      (back_confirmed (has_no_outcome p.answer) (covers c p.confirm) p.back p.returning f.back f.returns f.returned m.back);
}

pub reported_matches : (p : Publish) (h : List PublishEvent) (f : Fate) → Matches p f → Matches (reported p) (fate_step p.number h LinesTold f)
reported_matches p h f m = record {
  link = m.link;
  confirm = m.confirm;
  id = m.id;
  place = m.place;
  answer = m.answer;
  back = m.back;
  line = refl;
}

-- tests of a publish, and of its fate

begun_is : (place : Place) (payload whole sent : List ℕ) (gone : ℕ) (begun cut : Bool) → PlaceIs place payload gone whole sent begun cut → is_begun place ≡ (not cut && begun && nat_lt (length sent) (length whole))
begun_is Waiting payload whole sent gone begun cut m = rw (m.0, m.1) refl
begun_is Begun payload whole sent gone begun cut m = rw (m.0, m.1, m.4) refl
begun_is Sent payload whole sent gone begun cut m = rw (m.0, m.1) (by cut)
  where
    by : (b : Bool) → false ≡ (not b && true && false)
    by true = refl
    by false = refl
begun_is Lost payload whole sent gone begun cut m = rw m refl

waits_is : (place : Place) (payload whole sent : List ℕ) (gone : ℕ) (begun cut : Bool) → PlaceIs place payload gone whole sent begun cut → is_waiting place ≡ (not cut && not begun)
waits_is Waiting payload whole sent gone begun cut m = rw (m.0, m.1) refl
waits_is Begun payload whole sent gone begun cut m = rw (m.0, m.1) refl
waits_is Sent payload whole sent gone begun cut m = rw m.0 (by cut)
  where
    by : (b : Bool) → false ≡ (not b && false)
    by true = refl
    by false = refl
waits_is Lost payload whole sent gone begun cut m = rw m refl

settled_is : (answer : Answer) (confirm : Option ℕ) (answered : Bool) (outcome : Option Bool) (cut : Bool) → AnswerIs answer confirm answered outcome cut → is_settled answer ≡ (answered || (not (is_some confirm) && is_some outcome))
settled_is Open confirm answered outcome cut m = rw (m.0, m.1) (sym (and_false (not (is_some confirm))))
settled_is (Owed a) confirm answered outcome cut m = rw (m.0, m.2) refl
settled_is Settled confirm answered outcome cut m = sym m

pub begun_test : (p : Publish) (f : Fate) → Matches p f → is_begun p.place ≡ goes_on f
begun_test p f m = begun_is p.place p.payload f.payload f.sent p.gone f.begun f.cut m.place

pub waits_test : (p : Publish) (f : Fate) → Matches p f → is_waiting p.place ≡ waits f
waits_test p f m = waits_is p.place p.payload f.payload f.sent p.gone f.begun f.cut m.place

pub sending_test : (p : Publish) (f : Fate) → Matches p f → is_sending p.place ≡ is_to_go f
sending_test p f m = ap (λ b. b || is_begun p.place) (waits_test p f m) ∙ ap (λ b. waits f || b) (begun_test p f m)

pub settled_test : (p : Publish) (f : Fate) → Matches p f → is_settled p.answer ≡ is_done f
settled_test p f m = settled_is p.answer p.confirm f.answered f.outcome f.cut m.answer ∙ ap (λ k. f.answered || (not (is_some k) && is_some f.outcome)) m.confirm

pub return_test : (p : Publish) (f : Fate) → Matches p f → owes_return p ≡ is_to_return f
return_test p f m = owes_is (has_no_outcome p.answer) p.back p.returning f.back f.returns f.returned m.back

same_open : (a d l x y : Bool) → (d ≡ true → x ≡ y) → (a || not d || l || x) ≡ (a || not d || l || y)
same_open true d l x y e = refl
same_open false false l x y e = refl
same_open false true true x y e = refl
same_open false true false x y e = e refl

settled_decided : (answer : Answer) → is_settled answer ≡ true → has_no_outcome answer ≡ false
settled_decided Open e = absurd (cc)
settled_decided (Owed a) e = refl
settled_decided Settled e = refl

pub open_test : (p : Publish) (f : Fate) → Matches p f → is_open p ≡ is_to_come f
open_test p f m =
    same_open (is_sending p.place) (is_settled p.answer) (is_some p.line) (has_any p.back) (is_to_return f) (λ e. ap (λ b. not b && has_any p.back) (sym (settled_decided p.answer e)) ∙ return_test p f m)
    ∙ rw (← sending_test p f m, ← settled_test p f m, ← m.line) refl

-- whether a return goes on, or is to begin
on_is : (open_still : Bool) (back : List (List ℕ)) (returning : Bool) (all : List (List ℕ)) (returns : Bool) (went : ℕ) → BackIs open_still back returning all returns went
    → ((not open_still && has_any back) && returning) ≡ ((returns && nat_lt went (length all)) && nat_lt 0 went)
on_is true back returning all returns went m = rw m.2 refl
on_is false back returning all returns went m =
    ap (λ b. b && returning) (owes_is false back returning all returns went m) ∙ ap (λ b. (returns && nat_lt went (length all)) && b) m.1 ∙ twice (returns && nat_lt went (length all)) (nat_lt 0 went)
  where
    twice : (a b : Bool) → (a && (a && b)) ≡ (a && b)
    twice true b = refl
    twice false b = refl

begin_is : (open_still : Bool) (back : List (List ℕ)) (returning : Bool) (all : List (List ℕ)) (returns : Bool) (went : ℕ) → BackIs open_still back returning all returns went
    → ((not open_still && has_any back) && not returning) ≡ ((returns && nat_lt went (length all)) && went == 0)
begin_is true back returning all returns went m = rw m.2 refl
begin_is false back returning all returns went m =
    ap (λ b. b && not returning) (owes_is false back returning all returns went m) ∙ ap (λ b. (returns && nat_lt went (length all)) && not b) m.1 ∙ none (returns && nat_lt went (length all)) went
  where
    none : (a : Bool) (n : ℕ) → (a && not (a && nat_lt 0 n)) ≡ (a && n == 0)
    none false n = refl
    none true n = grind (arith, nat_tests)

pub returning_test : (p : Publish) (f : Fate) → Matches p f → goes_on_returning p ≡ is_returning f
returning_test p f m = on_is (has_no_outcome p.answer) p.back p.returning f.back f.returns f.returned m.back

pub begin_test : (p : Publish) (f : Fate) → Matches p f → waits_return p ≡ is_to_begin f
begin_test p f m = begin_is (has_no_outcome p.answer) p.back p.returning f.back f.returns f.returned m.back

-- what is left of the payload
rest_is : (place : Place) (payload whole sent : List ℕ) (gone : ℕ) (begun cut : Bool) → PlaceIs place payload gone whole sent begun cut → is_sending place ≡ true → drop gone payload ≡ drop (length sent) whole
rest_is Waiting payload whole sent gone begun cut m e = rw (m.2, m.3) refl
rest_is Begun payload whole sent gone begun cut m e = rw (m.2, m.3) refl
rest_is Sent payload whole sent gone begun cut m e = absurd (cc)
rest_is Lost payload whole sent gone begun cut m e = absurd (cc)

pub rest_test : (p : Publish) (f : Fate) → Matches p f → is_sending p.place ≡ true → drop p.gone p.payload ≡ rest_by f
rest_test p f m e =
    rest_is p.place p.payload f.payload f.sent p.gone f.begun f.cut m.place e
    ∙ sym (ap (λ b. cond b (drop (length f.sent) f.payload) []) (sym (sending_test p f m) ∙ e))
