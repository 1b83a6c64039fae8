-- The return that goes next, and its frame.
use Rattle.std.proofs.Common.{◌≡◌, ◌∙◌, ℕ, ◌+◌, ◌≤◌, List, [], ◌∷◌, Bool, true, false, refl, sym, ap}
use Rattle.std.proofs.Common.{arith, Option, Some, None, cond, length, drop}
use Rattle.std.specs.Prelude.{not, ◌&&◌, ◌==◌, find, nat_lt}
use Rattle.std.specs.Option.{option_map, option_or}
use Rattle.std.proofs.lemmas.Bool.Decides.{nat_tests}
use Rattle.open_items.specs.Numbers.{least, first, has_any}
use Rattle.open_items.proofs.Filtered.{all_find}
use Rattle.open_items.proofs.Numbered.{find_numbered}
use Rattle.open_items.proofs.Counted.{least_passing}
use Rattle.publish_path.specs.declared.publish.Publish.{Publish}
use Rattle.publish_path.specs.Publishes.{PublishEvent, TakenUp, FrameSent, OutcomeCame, LinkGone}
use Rattle.publish_path.specs.Publishes.{ConfirmSent, LinesTold, ReturnSent, after_events, next_number}
use Rattle.publish_path.specs.Publishes.{has_no_outcome, owes_return, takes_return}
use Rattle.publish_path.specs.Offers.{goes_on_returning, waits_return, return_of, next_return_of}
use Rattle.publish_path.specs.Offers.{back_of, return_frame_of}
use Rattle.publish_path.specs.Journal.{Fate, new_fate, fate_of, numbers_of, confirms_of, IsTaken}
use Rattle.publish_path.specs.Journal.{is_to_return, is_to_come}
use Rattle.publish_path.specs.Laws.{is_returning, is_to_begin, return_at, return_by, return_frame_by}
use Rattle.publish_path.proofs.Matching.{Matches, BackIs, return_test, returning_test, begin_test}
use Rattle.publish_path.specs.Kept.{number_of}
use Rattle.publish_path.proofs.Payloads.{number_is, number_same, and_right}
use Rattle.publish_path.proofs.Keeping.{follows, Stands, stand, to_return_comes}

-- the return that goes next

first_is : (life : ℕ) (h : List PublishEvent) (c : Publish → Bool) (t : Fate → Bool) (first : Bool) → ((p : Publish) (f : Fate) → Matches p f → c p ≡ t f) → ((f : Fate) → t f ≡ true → is_to_come f ≡ true)
    → option_map (return_of first) (find c (after_events life h).list) ≡ option_map (return_at first) (least (λ n. t (fate_of n h)) (numbers_of h))
first_is life h c t first same only =
    by (find c (after_events life h).list) ∙ ap (option_map (return_at first)) (least_passing number_of Matches is_to_come c t (λ n. fate_of n h) (numbers_of h) (after_events life h).list same only (follows life h))
  where
    by : (o : Option Publish) → option_map (return_of first) o ≡ option_map (return_at first) (option_map number_of o)
    by None = refl
    by (Some p) = refl

and_first : (a b : Bool) → (a && b) ≡ true → a ≡ true
and_first true b e = refl
and_first false b e = absurd (cc)

pub due_is : (life : ℕ) (h : List PublishEvent) → next_return_of (after_events life h).list ≡ return_by h
due_is life h =
    ap (λ o. option_or o (option_map (return_of true) (find waits_return (after_events life h).list)))
    (first_is life h goes_on_returning is_returning false returning_test (λ f e. to_return_comes f (and_first (is_to_return f) _ e)))
    ∙ ap (option_or (option_map (return_at false) (least (λ n. is_returning (fate_of n h)) (numbers_of h))))
    (first_is life h waits_return is_to_begin true begin_test (λ f e. to_return_comes f (and_first (is_to_return f) _ e)))

-- its frame

left_is : (open_still : Bool) (back : List (List ℕ)) (returning : Bool) (all : List (List ℕ)) (returns : Bool) (went : ℕ) → BackIs open_still back returning all returns went → (not open_still && has_any back) ≡ true → back ≡ drop went all
left_is true back returning all returns went m e = absurd (cc)
left_is false back returning all true went m e = m.0
left_is false back returning all false went m e = absurd (let no : has_any back ≡ false = ap has_any m.0 in cc)

pub frame_kept : (life : ℕ) (h : List PublishEvent) (n : ℕ) → IsTaken h n → return_frame_of n (after_events life h).list ≡ return_frame_by (fate_of n h)
frame_kept life h n taken = by (is_to_return (fate_of n h)) refl (find (takes_return n) list) refl
  where
    list : List Publish
    list = (after_events life h).list

    owes : (p : Publish) → Stands h p → p.number ≡ n → owes_return p ≡ is_to_return (fate_of n h)
    owes p s e = return_test p (fate_of p.number h) s.matches ∙ ap (λ i. is_to_return (fate_of i h)) e

    by : (b : Bool) → is_to_return (fate_of n h) ≡ b → (o : Option Publish) → find (takes_return n) list ≡ o → first (back_of o) ≡ cond b (first (drop (fate_of n h).returned (fate_of n h).back)) None
    by true due o e =
        let k = follows life h in
        let r = find_numbered number_of (Stands h) (takes_return n) n list (λ p t. number_is p.number n (owes_return p) t)
        (λ p s at. rw (number_same p.number n at) (owes p s at ∙ due)) (stand life h) (k.complete n taken.0 taken.1 (to_return_comes (fate_of n h) due)) in
        let p = r.0 in
        let m : Matches p (fate_of p.number h) = r.2.matches in
        ap (λ x. first (back_of x)) (sym e ∙ r.3)
        ∙ ap first (left_is (has_no_outcome p.answer) p.back p.returning _ _ _ m.back (owes p r.2 r.1 ∙ due))
        ∙ ap (λ i. first (drop (fate_of i h).returned (fate_of i h).back)) r.1
    by false due None e = refl
    by false due (Some p) e =
        let found = all_find (Stands h) (takes_return n) list p (stand life h) e in
        let at : p.number ≡ n = number_is p.number n (owes_return p) found.1 in
        let is : owes_return p ≡ true = and_right (p.number == n) _ found.1 in
        absurd (let no : false ≡ true = sym due ∙ sym (owes p found.0 at) ∙ is in cc)

-- no more frames go than there are

one_more : (on returns : Bool) (k m : ℕ) → k ≤ m → cond (on && (returns && nat_lt k m)) (k + 1) k ≤ m
one_more false returns k m le = le
one_more true false k m le = le
one_more true true k m le = by (nat_lt k m) refl
  where
    by : (b : Bool) → nat_lt k m ≡ b → cond b (k + 1) k ≤ m
    by true e = grind (arith, nat_tests)
    by false e = le

pub most : (n : ℕ) (h : List PublishEvent) → (fate_of n h).returned ≤ length (fate_of n h).back
most n [] = omega arith
most n (TakenUp link confirm payload back ∷ h) = by (n == numbers_of h + 1) (most n h)
  where
    new : Fate
    new = new_fate link (next_number confirm (confirms_of h)) payload back

    by : (b : Bool) → (fate_of n h).returned ≤ length (fate_of n h).back → (cond b new (fate_of n h)).returned ≤ length (cond b new (fate_of n h)).back
    by true ih = omega arith
    by false ih = ih
most n (FrameSent number first part ∷ h) = most n h
most n (OutcomeCame first last outcome ∷ h) = most n h
most n (LinkGone link not_found ∷ h) = most n h
most n (ReturnSent number ∷ h) = let f = fate_of n h in one_more (n == number) f.returns f.returned (length f.back) (most n h)
most n (ConfirmSent c ∷ h) = most n h
most n (LinesTold ∷ h) = most n h
