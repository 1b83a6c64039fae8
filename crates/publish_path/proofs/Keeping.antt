-- After any events the open publishes are those of which the journal says that something is still to come,
-- each as it says.
use Rattle.std.proofs.Common.{◌≡◌, ◌∙◌, ℕ, ◌+◌, ◌%◌, ◌^◌, ◌≤◌, ◌<◌, List, [], ◌∷◌, ◌++◌, Bool, true}
use Rattle.std.proofs.Common.{false, refl, sym, ap, subst, arith, Option, Some, None, cond, length}
use Rattle.std.specs.Prelude.{not, ◌&&◌, ◌||◌, ◌==◌, nat_lt, is_some}
use Rattle.std.specs.List.{AllByRecursion}
use Rattle.std.proofs.lemmas.Bool.Decides.{nat_tests}
use Rattle.std.proofs.lemmas.List.{length-append}
use Rattle.open_items.proofs.Filtered.{all_both, all_weaker}
use Rattle.open_items.proofs.Numbered.{rising_above}
use Rattle.open_items.proofs.Tracked.{Tracks, none_tracked, each_tracked, push_tracked}
use Rattle.publish_path.specs.declared.publish.Publish.{Publish}
use Rattle.publish_path.specs.declared.publish.Confirm.{Confirm}
use Rattle.publish_path.specs.Publishes.{PublishState, PublishEvent, TakenUp, FrameSent}
use Rattle.publish_path.specs.declared.publish.Outcome.{Outcome}
use Rattle.publish_path.specs.Publishes.{OutcomeCame, LinkGone, ConfirmSent, LinesTold, after_event}
use Rattle.publish_path.specs.Publishes.{ReturnSent, returned, is_accepted, is_released}
use Rattle.publish_path.specs.Publishes.{after_events, new_publish, next_number, framed, told}
use Rattle.publish_path.specs.Publishes.{link_lost, confirmed, reported, is_open, in_range, is_on}
use Rattle.publish_path.specs.Publishes.{lost_as, covers}
use Rattle.publish_path.specs.Journal.{Fate, decided, fate_step, fate_of, numbers_of, confirms_of}
use Rattle.publish_path.specs.Journal.{next_id_of, takes_up, is_to_confirm, begins, is_undecided}
use Rattle.publish_path.specs.Journal.{has_rest, is_to_go, is_done, is_to_come, is_to_return}
use Rattle.publish_path.specs.Kept.{number_of}
use Rattle.publish_path.proofs.Matching.{Matches, framed_matches, told_matches, lost_matches}
use Rattle.publish_path.proofs.Matching.{confirmed_matches, reported_matches, returned_matches}
use Rattle.publish_path.proofs.Matching.{open_test}

-- the numbers of the life

numbers_step : (x : PublishEvent) (s : PublishState) → (after_event x s).numbers ≡ cond (takes_up x) (s.numbers + 1) s.numbers
numbers_step (TakenUp link confirm payload back) s = refl
numbers_step (FrameSent number first part) s = refl
numbers_step (OutcomeCame first last outcome) s = refl
numbers_step (LinkGone link not_found) s = refl
numbers_step (ReturnSent number) s = refl
numbers_step (ConfirmSent c) s = refl
numbers_step LinesTold s = refl

confirms_step : (x : PublishEvent) (s : PublishState) → (after_event x s).confirms ≡ cond (is_to_confirm x) (s.confirms + 1) s.confirms
confirms_step (TakenUp link confirm payload back) s = refl
confirms_step (FrameSent number first part) s = refl
confirms_step (OutcomeCame first last outcome) s = refl
confirms_step (LinkGone link not_found) s = refl
confirms_step (ReturnSent number) s = refl
confirms_step (ConfirmSent c) s = refl
confirms_step LinesTold s = refl

next_id_step : (x : PublishEvent) (s : PublishState) → (after_event x s).next_id ≡ cond (begins x) ((s.next_id + 1) % 2 ^ 32) s.next_id
next_id_step (TakenUp link confirm payload back) s = refl
next_id_step (FrameSent number first part) s = refl
next_id_step (OutcomeCame first last outcome) s = refl
next_id_step (LinkGone link not_found) s = refl
next_id_step (ReturnSent number) s = refl
next_id_step (ConfirmSent c) s = refl
next_id_step LinesTold s = refl

life_step : (x : PublishEvent) (s : PublishState) → (after_event x s).life ≡ s.life
life_step (TakenUp link confirm payload back) s = refl
life_step (FrameSent number first part) s = refl
life_step (OutcomeCame first last outcome) s = refl
life_step (LinkGone link not_found) s = refl
life_step (ReturnSent number) s = refl
life_step (ConfirmSent c) s = refl
life_step LinesTold s = refl

pub numbers_kept : (life : ℕ) (h : List PublishEvent) → (after_events life h).numbers ≡ numbers_of h
numbers_kept life [] = refl
numbers_kept life (x ∷ h) = numbers_step x (after_events life h) ∙ ap (λ n. cond (takes_up x) (n + 1) n) (numbers_kept life h)

pub confirms_kept : (life : ℕ) (h : List PublishEvent) → (after_events life h).confirms ≡ confirms_of h
confirms_kept life [] = refl
confirms_kept life (x ∷ h) = confirms_step x (after_events life h) ∙ ap (λ n. cond (is_to_confirm x) (n + 1) n) (confirms_kept life h)

pub next_id_kept : (life : ℕ) (h : List PublishEvent) → (after_events life h).next_id ≡ next_id_of h
next_id_kept life [] = refl
next_id_kept life (x ∷ h) = next_id_step x (after_events life h) ∙ ap (λ n. cond (begins x) ((n + 1) % 2 ^ 32) n) (next_id_kept life h)

pub life_kept : (life : ℕ) (h : List PublishEvent) → (after_events life h).life ≡ life
life_kept life [] = refl
life_kept life (x ∷ h) = life_step x (after_events life h) ∙ life_kept life h

-- what is still to come after an event was so before

or_before : (x y z w t : Bool) → (x ≡ true → t ≡ true) → (y ≡ true → t ≡ true) → (z ≡ true → t ≡ true) → (w ≡ true → t ≡ true) → (x || y || z || w) ≡ true → t ≡ true
or_before true y z w t f g k r e = f refl
or_before false true z w t f g k r e = g refl
or_before false false true w t f g k r e = k refl
or_before false false false w t f g k r e = r e

or_first : (a b c d : Bool) → a ≡ true → (a || b || c || d) ≡ true
or_first a b c d e = rw e refl

or_second : (a b c d : Bool) → b ≡ true → (a || b || c || d) ≡ true
or_second true b c d e = refl
or_second false b c d e = rw e refl

or_third : (a b c d : Bool) → c ≡ true → (a || b || c || d) ≡ true
or_third true b c d e = refl
or_third false true c d e = refl
or_third false false c d e = rw e refl

or_fourth : (a b c d : Bool) → d ≡ true → (a || b || c || d) ≡ true
or_fourth true b c d e = refl
or_fourth false true c d e = refl
or_fourth false false true d e = refl
or_fourth false false false d e = e

to_go_comes : (f : Fate) → is_to_go f ≡ true → is_to_come f ≡ true
to_go_comes f e = or_first (is_to_go f) (not (is_done f)) (is_some f.line) (is_to_return f) e

pub to_do_comes : (f : Fate) → not (is_done f) ≡ true → is_to_come f ≡ true
to_do_comes f e = or_second (is_to_go f) (not (is_done f)) (is_some f.line) (is_to_return f) e

to_tell_comes : (f : Fate) → is_some f.line ≡ true → is_to_come f ≡ true
to_tell_comes f e = or_third (is_to_go f) (not (is_done f)) (is_some f.line) (is_to_return f) e

pub to_return_comes : (f : Fate) → is_to_return f ≡ true → is_to_come f ≡ true
to_return_comes f e = or_fourth (is_to_go f) (not (is_done f)) (is_some f.line) (is_to_return f) e

lt_before : (sent part : List ℕ) (m : ℕ) (on : Bool) → nat_lt (length (cond on (sent ++ part) sent)) m ≡ true → nat_lt (length sent) m ≡ true
lt_before sent part m false e = e
lt_before sent part m true e = let long : length (sent ++ part) ≡ length sent + length part = length-append sent part in grind (arith, nat_tests)

go_before : (cut begun on later rest : Bool) → (later ≡ true → rest ≡ true) → ((not cut && not (begun || on)) || (not cut && (begun || on) && later)) ≡ true → ((not cut && not begun) || (not cut && begun && rest)) ≡ true
go_before true begun on later rest f e = absurd (cc)
go_before false false on later rest f e = refl
go_before false true on later rest f e = f e

frame_go : (n : ℕ) (h : List PublishEvent) (number : ℕ) (first : Bool) (part : List ℕ) (f : Fate) → is_to_go (fate_step n h (FrameSent number first part) f) ≡ true → is_to_go f ≡ true
frame_go n h number first part f e = go_before f.cut f.begun (n == number) _ (has_rest f) (lt_before f.sent part (length f.payload) (n == number)) e

lost_go : (cut on begun rest : Bool) → ((not (cut || on) && not begun) || (not (cut || on) && begun && rest)) ≡ true → ((not cut && not begun) || (not cut && begun && rest)) ≡ true
lost_go true on begun rest e = e
lost_go false false begun rest e = e
lost_go false true begun rest e = absurd (cc)

-- an outcome, or a confirm, leaves no more to be done
done_before : (answered x on accepted : Bool) (outcome : Option Bool) → not (answered || (x && is_some (decided on accepted outcome))) ≡ true → not (answered || (x && is_some outcome)) ≡ true
done_before answered x false accepted outcome e = e
done_before answered x true accepted (Some a) e = e
done_before true x true accepted None e = e
done_before false true true accepted None e = refl
done_before false false true accepted None e = refl

confirm_before : (answered on rest : Bool) → not ((answered || on) || rest) ≡ true → not (answered || rest) ≡ true
confirm_before true on rest e = e
confirm_before false true rest e = absurd (cc)
confirm_before false false rest e = e

undecided_to_do : (answered x : Bool) (outcome : Option Bool) → (not (is_some outcome) && not answered) ≡ true → not (answered || (x && is_some outcome)) ≡ true
undecided_to_do true x outcome e = absurd (let no : (not (is_some outcome) && false) ≡ true = e in never (is_some outcome) no)
  where
    never : (b : Bool) → (not b && false) ≡ true → ⊥
    never true e = cc
    never false e = cc
undecided_to_do false x (Some a) e = absurd (cc)
undecided_to_do false true None e = refl
undecided_to_do false false None e = refl

undecided_comes : (f : Fate) → is_undecided f ≡ true → is_to_come f ≡ true
undecided_comes f u = to_do_comes f (undecided_to_do f.answered (not (is_some f.confirm)) f.outcome u)

-- an outcome, or a loss, that returns it comes before any other
returns_before : (test ret : Bool) (f : Fate) → (cond (is_undecided f && test) ret f.returns && nat_lt f.returned (length f.back)) ≡ true → is_to_come f ≡ true
returns_before test ret f e = by (is_undecided f) refl e
  where
    by : (b : Bool) → is_undecided f ≡ b → (cond (b && test) ret f.returns && nat_lt f.returned (length f.back)) ≡ true → is_to_come f ≡ true
    by true u e = undecided_comes f u
    by false u e = to_return_comes f e

lost_before : (n : ℕ) (h : List PublishEvent) (link : Option ℕ) (not_found : Bool) (f : Fate) → is_to_come (fate_step n h (LinkGone link not_found) f) ≡ true → is_to_come f ≡ true
lost_before n h link not_found f e = or_before _ _ _ _ (is_to_come f)
    (λ g. to_go_comes f (lost_go f.cut (is_on link f.link) f.begun (has_rest f) g))
    (λ d. to_do_comes f (done_before f.answered (not (is_some f.confirm)) (is_on link f.link) false f.outcome d))
    (λ l. by (is_undecided f) refl l)
    (λ r. returns_before (is_on link f.link) not_found f r) e
  where
    by : (b : Bool) → is_undecided f ≡ b → is_some (cond (is_undecided f && is_on link f.link) (Some (lost_as (not f.begun))) f.line) ≡ true → is_to_come f ≡ true
    by true u l = undecided_comes f u
    by false u l = to_tell_comes f (subst (λ b. is_some (cond (b && is_on link f.link) (Some (lost_as (not f.begun))) f.line) ≡ true) u l)

frame_before : (n : ℕ) (h : List PublishEvent) (number : ℕ) (first : Bool) (part : List ℕ) (f : Fate) → is_to_come (fate_step n h (FrameSent number first part) f) ≡ true → is_to_come f ≡ true
frame_before n h number first part f e =
    or_before _ _ _ _ (is_to_come f) (λ g. to_go_comes f (frame_go n h number first part f g)) (λ d. to_do_comes f d) (λ l. to_tell_comes f l) (λ r. to_return_comes f r) e

outcome_before : (n : ℕ) (h : List PublishEvent) (first last : ℕ) (outcome : Outcome) (f : Fate) → is_to_come (fate_step n h (OutcomeCame first last outcome) f) ≡ true → is_to_come f ≡ true
outcome_before n h first last outcome f e = or_before _ _ _ _ (is_to_come f)
    (λ g. to_go_comes f g) (λ d. to_do_comes f (done_before f.answered (not (is_some f.confirm)) (in_range first last f.id) (is_accepted outcome) f.outcome d)) (λ l. to_tell_comes f l)
    (λ r. returns_before (in_range first last f.id) (is_released outcome) f r) e

sent_before : (n : ℕ) (h : List PublishEvent) (c : Confirm) (f : Fate) → is_to_come (fate_step n h (ConfirmSent c) f) ≡ true → is_to_come f ≡ true
sent_before n h c f e =
    or_before _ _ _ _ (is_to_come f) (λ g. to_go_comes f g) (λ d. to_do_comes f (confirm_before f.answered (covers c f.confirm) _ d)) (λ l. to_tell_comes f l) (λ r. to_return_comes f r) e

told_before : (n : ℕ) (h : List PublishEvent) (f : Fate) → is_to_come (fate_step n h LinesTold f) ≡ true → is_to_come f ≡ true
told_before n h f e = or_before _ _ _ _ (is_to_come f) (λ g. to_go_comes f g) (λ d. to_do_comes f d) (λ l. absurd (cc)) (λ r. to_return_comes f r) e

return_before : (n : ℕ) (h : List PublishEvent) (number : ℕ) (f : Fate) → is_to_come (fate_step n h (ReturnSent number) f) ≡ true → is_to_come f ≡ true
return_before n h number f e =
    or_before _ _ _ _ (is_to_come f) (λ g. to_go_comes f g) (λ d. to_do_comes f d) (λ l. to_tell_comes f l) (λ r. to_return_comes f (fewer f.returns (n == number && is_to_return f) f.returned (length f.back) r)) e
  where
    fewer : (a on : Bool) (k m : ℕ) → (a && nat_lt (cond on (k + 1) k) m) ≡ true → (a && nat_lt k m) ≡ true
    fewer false on k m e = e
    fewer true false k m e = e
    fewer true true k m e = grind (arith, nat_tests)

-- the list

abbrev pub Follows : List PublishEvent → List Publish → Type 0
Follows h list = Tracks number_of Matches is_to_come (λ n. fate_of n h) (numbers_of h) list

opens : (p : Publish) (f : Fate) → Matches p f → is_to_come f ≡ true → is_open p ≡ true
opens p f m e = open_test p f m ∙ e

pub follows : (life : ℕ) (h : List PublishEvent) → Follows h (after_events life h).list
follows life [] = none_tracked number_of Matches is_to_come (λ n. fate_of n [])
follows life (TakenUp link confirm payload back ∷ h) =
    push_tracked number_of Matches is_to_come (λ n. fate_of n h) (λ n. fate_of n (TakenUp link confirm payload back ∷ h)) (numbers_of h) s.list y
    (ap (λ n. n + 1) (numbers_kept life h)) old new (follows life h)
  where
    s : PublishState
    s = after_events life h

    y : Publish
    y = new_publish (s.numbers + 1) link (next_number confirm s.confirms) payload back

    old : (k : ℕ) → k ≤ numbers_of h → fate_of k (TakenUp link confirm payload back ∷ h) ≡ fate_of k h
    old k le = let other : (k == numbers_of h + 1) ≡ false = grind (arith, nat_tests) in rw other refl

    new : Matches y (fate_of (numbers_of h + 1) (TakenUp link confirm payload back ∷ h))
    new =
        let this : (numbers_of h + 1 == numbers_of h + 1) ≡ true = grind (arith, nat_tests) in
        rw this (record { link = refl; confirm = ap (next_number confirm) (confirms_kept life h); id = refl; place = (refl, refl, refl, refl); answer = (refl, refl, refl); back = (refl, refl, refl, refl); line = refl })
follows life (FrameSent number first part ∷ h) =
    each_tracked number_of Matches is_to_come is_open (framed number first s.next_id (length part)) (λ n. fate_of n h) (λ n. fate_of n (FrameSent number first part ∷ h)) (numbers_of h) s.list
    (λ p. refl) opens
    (λ p m. subst (λ i. Matches (framed number first i (length part) p) (fate_of p.number (FrameSent number first part ∷ h))) (sym (next_id_kept life h)) (framed_matches number first part p h (fate_of p.number h) m))
    (λ k e. frame_before k h number first part (fate_of k h) e) (follows life h)
  where
    s : PublishState
    s = after_events life h
follows life (OutcomeCame first last outcome ∷ h) =
    each_tracked number_of Matches is_to_come is_open (told first last outcome) (λ n. fate_of n h) (λ n. fate_of n (OutcomeCame first last outcome ∷ h)) (numbers_of h) (after_events life h).list
    (λ p. refl) opens (λ p m. told_matches first last outcome p h (fate_of p.number h) m) (λ k e. outcome_before k h first last outcome (fate_of k h) e) (follows life h)
follows life (LinkGone link not_found ∷ h) =
    each_tracked number_of Matches is_to_come is_open (link_lost link not_found) (λ n. fate_of n h) (λ n. fate_of n (LinkGone link not_found ∷ h)) (numbers_of h) (after_events life h).list
    (λ p. refl) opens (λ p m. lost_matches link not_found p h (fate_of p.number h) m) (λ k e. lost_before k h link not_found (fate_of k h) e) (follows life h)
follows life (ReturnSent number ∷ h) =
    each_tracked number_of Matches is_to_come is_open (returned number) (λ n. fate_of n h) (λ n. fate_of n (ReturnSent number ∷ h)) (numbers_of h) (after_events life h).list
    (λ p. refl) opens (λ p m. returned_matches number p h (fate_of p.number h) m) (λ k e. return_before k h number (fate_of k h) e) (follows life h)
follows life (ConfirmSent c ∷ h) =
    each_tracked number_of Matches is_to_come is_open (confirmed c) (λ n. fate_of n h) (λ n. fate_of n (ConfirmSent c ∷ h)) (numbers_of h) (after_events life h).list
    (λ p. refl) opens (λ p m. confirmed_matches c p h (fate_of p.number h) m) (λ k e. sent_before k h c (fate_of k h) e) (follows life h)
follows life (LinesTold ∷ h) =
    each_tracked number_of Matches is_to_come is_open reported (λ n. fate_of n h) (λ n. fate_of n (LinesTold ∷ h)) (numbers_of h) (after_events life h).list
    (λ p. refl) opens (λ p m. reported_matches p h (fate_of p.number h) m) (λ k e. told_before k h (fate_of k h) e) (follows life h)

-- what is known of each publish in the list
pub record Stands (h : List PublishEvent) (p : Publish) : Type 0 where
  pub positive : 1 ≤ p.number
  pub taken : p.number ≤ numbers_of h
  pub matches : Matches p (fate_of p.number h)

pub stand : (life : ℕ) (h : List PublishEvent) → AllByRecursion (Stands h) (after_events life h).list
stand life h =
    let k = follows life h in
    all_weaker _ (Stands h) (λ p a. let up : 0 < p.number = a.0.0 in record { positive = omega arith; taken = a.0.1; matches = a.1 }) (after_events life h).list
    (all_both _ _ (after_events life h).list (all_both _ _ (after_events life h).list (rising_above number_of 0 (after_events life h).list k.rising) k.within) k.matches)
