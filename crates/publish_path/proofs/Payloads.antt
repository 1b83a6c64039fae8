-- The frames of transfers: which one goes next, and what they carry.
use Rattle.std.proofs.Common.{◌≡◌, ◌∙◌, ℕ, ◌+◌, List, [], ◌∷◌, ◌++◌, Bool, true, false, refl, sym}
use Rattle.std.proofs.Common.{ap, subst, arith, Option, Some, None, cond, length, drop}
use Rattle.std.proofs.Common.{append_assoc}
use Rattle.std.specs.Prelude.{not, ◌&&◌, ◌||◌, ◌==◌, find, nat_lt, is_some, IfSome}
use Rattle.std.specs.Option.{option_map, option_or}
use Rattle.std.proofs.lemmas.Grind.{common_steps}
use Rattle.std.proofs.lemmas.Bool.Decides.{nat_tests}
use Rattle.std.proofs.lemmas.List.{length-append, append-nil}
use Rattle.std.proofs.Math.Seq.{drop-append_seam}
use Rattle.open_items.specs.Numbers.{least}
use Rattle.open_items.proofs.Filtered.{all_find}
use Rattle.open_items.proofs.Numbered.{find_numbered}
use Rattle.open_items.proofs.Counted.{least_passing, least_is}
use Rattle.publish_path.specs.declared.publish.Publish.{Publish}
use Rattle.publish_path.specs.declared.publish.NextFrame.{NextFrame}
use Rattle.publish_path.specs.declared.send_links.SendingLink.{SendingLink}
use Rattle.publish_path.specs.Links.{link_of, can_send}
use Rattle.publish_path.specs.Publishes.{PublishEvent, TakenUp, FrameSent, OutcomeCame, LinkGone}
use Rattle.publish_path.specs.Publishes.{ConfirmSent, LinesTold, ReturnSent, after_events, next_number}
use Rattle.publish_path.specs.Publishes.{is_begun, is_sending, takes}
use Rattle.publish_path.specs.Offers.{can_begin, frame_of, next_frame_of, left_of, rest_of}
use Rattle.publish_path.specs.Journal.{Fate, new_fate, fate_of, numbers_of, confirms_of, IsTaken}
use Rattle.publish_path.specs.Journal.{waits, goes_on, is_to_go, is_done, is_to_come, is_to_return, rest_by}
use Rattle.publish_path.specs.Laws.{frame_by, IsFrontOf, AreParts, IsWhole, BeginsInOrder}
use Rattle.publish_path.proofs.Matching.{Matches, begun_test, waits_test, sending_test, rest_test}
use Rattle.publish_path.specs.Kept.{number_of}
use Rattle.publish_path.proofs.Keeping.{follows, Stands, stand}

-- the frame that goes next

first_is : (life : ℕ) (h : List PublishEvent) (c : Publish → Bool) (t : Fate → Bool) (first : Bool) → ((p : Publish) (f : Fate) → Matches p f → c p ≡ t f) → ((f : Fate) → t f ≡ true → is_to_come f ≡ true)
    → option_map (frame_of first) (find c (after_events life h).list) ≡ option_map (λ n. record { publish = n; link = (fate_of n h).link; first = first }) (least (λ n. t (fate_of n h)) (numbers_of h))
first_is life h c t first same only =
    by (find c list) refl ∙ ap (option_map frame) (least_passing number_of Matches is_to_come c t (λ n. fate_of n h) (numbers_of h) list same only (follows life h))
  where
    list : List Publish
    list = (after_events life h).list

    frame : ℕ → NextFrame
    frame n = record { publish = n; link = (fate_of n h).link; first = first }

    by : (o : Option Publish) → find c list ≡ o → option_map (frame_of first) o ≡ option_map frame (option_map number_of o)
    by None e = refl
    by (Some p) e = let m : Matches p (fate_of p.number h) = (all_find (Stands h) c list p (stand life h) e).0.matches in
        ap (λ l. Some (record { publish = p.number; link = l; first = first })) m.link

goes_come : (f : Fate) → goes_on f ≡ true → is_to_come f ≡ true
goes_come f e = by (waits f) (goes_on f) e
  where
    by : (a b : Bool) → b ≡ true → ((a || b) || not (is_done f) || is_some f.line || is_to_return f) ≡ true
    by true b e = refl
    by false b e = rw e refl

begins_come : (links : List SendingLink) (f : Fate) → (waits f && can_send (link_of links f.link)) ≡ true → is_to_come f ≡ true
begins_come links f e = by (waits f) (can_send (link_of links f.link)) (goes_on f) e
  where
    by : (a c b : Bool) → (a && c) ≡ true → ((a || b) || not (is_done f) || is_some f.line || is_to_return f) ≡ true
    by true c b e = refl
    by false c b e = absurd (cc)

pub frame_is : (life : ℕ) (links : List SendingLink) (h : List PublishEvent) → next_frame_of links (after_events life h).list ≡ frame_by links h
frame_is life links h =
    ap (λ o. option_or o (option_map (frame_of true) (find (can_begin links) (after_events life h).list)))
    (first_is life h (λ p. is_begun p.place) goes_on false begun_test goes_come)
    ∙ ap (option_or (option_map (λ n. record { publish = n; link = (fate_of n h).link; first = false }) (least (λ n. goes_on (fate_of n h)) (numbers_of h))))
    (first_is life h (can_begin links) (λ f. waits f && can_send (link_of links f.link)) true begins (begins_come links))
  where
    begins : (p : Publish) (f : Fate) → Matches p f → can_begin links p ≡ (waits f && can_send (link_of links f.link))
    begins p f m = ap (λ b. b && can_send (link_of links p.link)) (waits_test p f m) ∙ ap (λ l. waits f && can_send (link_of links l)) m.link

-- of one link they begin by rising number

and_left : (a b : Bool) → (a && b) ≡ false → b ≡ true → a ≡ false
and_left true b e t = absurd (cc)
and_left false b e t = refl

pub and_right : (a b : Bool) → (a && b) ≡ true → b ≡ true
and_right true b e = e
and_right false b e = absurd (cc)

in_order : (links : List SendingLink) (h : List PublishEvent) → IfSome (frame_by links h) (BeginsInOrder h)
in_order links h = by (least (λ n. goes_on (fate_of n h)) (numbers_of h)) (least begins (numbers_of h)) refl
  where
    begins : ℕ → Bool
    begins n = waits (fate_of n h) && can_send (link_of links (fate_of n h).link)

    by : (a b : Option ℕ) → least begins (numbers_of h) ≡ b
        → IfSome (option_or (option_map (λ n. record { publish = n; link = (fate_of n h).link; first = false }) a) (option_map (λ n. record { publish = n; link = (fate_of n h).link; first = true }) b)) (BeginsInOrder h)
    by (Some n) b e = λ first. absurd (cc)
    by None None e = tt
    by None (Some n) e =
        let is = least_is begins (numbers_of h) n e in
        let sends : can_send (link_of links (fate_of n h).link) ≡ true = and_right (waits (fate_of n h)) _ is.2 in
        λ first m pos below same. and_left (waits (fate_of m h)) _ (is.3 m pos below) (subst (λ l. can_send (link_of links l) ≡ true) (sym same) sends)

pub begins_in_order : (life : ℕ) (links : List SendingLink) (h : List PublishEvent) → IfSome (next_frame_of links (after_events life h).list) (BeginsInOrder h)
begins_in_order life links h = subst (λ o. IfSome o (BeginsInOrder h)) (sym (frame_is life links h)) (in_order links h)

-- what is left of a payload

pub number_is : (m n : ℕ) (b : Bool) → ((m == n) && b) ≡ true → m ≡ n
number_is m n b e = grind (arith, nat_tests, common_steps)

pub number_same : (m n : ℕ) → m ≡ n → (m == n) ≡ true
number_same m n e = grind (arith, nat_tests)

pub rest_kept : (life : ℕ) (h : List PublishEvent) (n : ℕ) → IsTaken h n → rest_of n (after_events life h).list ≡ rest_by (fate_of n h)
rest_kept life h n taken = by (is_to_go (fate_of n h)) refl (find (takes n) list) refl
  where
    list : List Publish
    list = (after_events life h).list

    sending : (p : Publish) → Stands h p → p.number ≡ n → is_sending p.place ≡ is_to_go (fate_of n h)
    sending p s e = sending_test p (fate_of p.number h) s.matches ∙ ap (λ i. is_to_go (fate_of i h)) e

    comes : (f : Fate) → is_to_go f ≡ true → is_to_come f ≡ true
    comes f e = rw e refl

    by : (b : Bool) → is_to_go (fate_of n h) ≡ b → (o : Option Publish) → find (takes n) list ≡ o → left_of o ≡ cond b (drop (length (fate_of n h).sent) (fate_of n h).payload) []
    by true go o e =
        let k = follows life h in
        let r = find_numbered number_of (Stands h) (takes n) n list (λ p t. number_is p.number n (is_sending p.place) t)
        (λ p s at. rw (number_same p.number n at) (sending p s at ∙ go)) (stand life h) (k.complete n taken.0 taken.1 (comes (fate_of n h) go)) in
        let m : Matches r.0 (fate_of r.0.number h) = r.2.matches in
        ap left_of (sym e ∙ r.3) ∙ rest_test r.0 (fate_of r.0.number h) m (sending r.0 r.2 r.1 ∙ go)
        ∙ ap (λ i. rest_by (fate_of i h)) r.1 ∙ ap (λ b. cond b (drop (length (fate_of n h).sent) (fate_of n h).payload) []) go
    by false go None e = refl
    by false go (Some p) e =
        let found = all_find (Stands h) (takes n) list p (stand life h) e in
        let at : p.number ≡ n = number_is p.number n (is_sending p.place) found.1 in
        let sends : is_sending p.place ≡ true = and_right (p.number == n) _ found.1 in
        absurd (let no : false ≡ true = sym go ∙ sym (sending p found.0 at) ∙ sends in cc)

-- the parts, joined

drop_front : (sent rest payload : List ℕ) → sent ++ rest ≡ payload → drop (length sent) payload ≡ rest
drop_front sent rest payload e = ap (drop (length sent)) (sym e) ∙ drop-append_seam sent rest

none_front : (part rest : List ℕ) → part ++ rest ≡ [] → part ≡ []
none_front [] rest e = refl
none_front (x ∷ part) rest e = absurd (cc)

part_front : (f : Fate) (part : List ℕ) → IsFrontOf f.sent f.payload → IsFrontOf part (rest_by f) → IsFrontOf (f.sent ++ part) f.payload
part_front f part front is = by (is_to_go f) is.1
  where
    by : (b : Bool) → part ++ is.0 ≡ cond b (drop (length f.sent) f.payload) [] → IsFrontOf (f.sent ++ part) f.payload
    by true e = (is.0, append_assoc f.sent part is.0 ∙ ap (λ r. f.sent ++ r) (e ∙ drop_front f.sent front.0 f.payload front.1) ∙ front.1)
    by false e = (front.0, ap (λ r. (f.sent ++ r) ++ front.0) (none_front part is.0 e) ∙ ap (λ s. s ++ front.0) (append-nil f.sent) ∙ front.1)

front_kept : (h : List PublishEvent) → AreParts h → (n : ℕ) → IsFrontOf (fate_of n h).sent (fate_of n h).payload
front_kept [] are n = ([], refl)
front_kept (TakenUp link confirm payload back ∷ h) are n = by (n == numbers_of h + 1) (front_kept h are.1 n)
  where
    by : (b : Bool) → IsFrontOf (fate_of n h).sent (fate_of n h).payload
        → IsFrontOf (cond b (new_fate link (next_number confirm (confirms_of h)) payload back) (fate_of n h)).sent (cond b (new_fate link (next_number confirm (confirms_of h)) payload back) (fate_of n h)).payload
    by true ih = (payload, refl)
    by false ih = ih
front_kept (FrameSent number first part ∷ h) are n = by (n == number) refl (front_kept h are.1 n)
  where
    by : (b : Bool) → (n == number) ≡ b → IsFrontOf (fate_of n h).sent (fate_of n h).payload → IsFrontOf (cond b ((fate_of n h).sent ++ part) (fate_of n h).sent) (fate_of n h).payload
    by true e ih = part_front (fate_of n h) part ih (subst (λ i. IsFrontOf part (rest_by (fate_of i h))) (sym (equal n number e)) are.0.1)
      where
        equal : (i j : ℕ) → (i == j) ≡ true → i ≡ j
        equal i j e = grind (arith, nat_tests)
    by false e ih = ih
front_kept (OutcomeCame first last outcome ∷ h) are n = front_kept h are.1 n
front_kept (LinkGone link not_found ∷ h) are n = front_kept h are.1 n
front_kept (ReturnSent number ∷ h) are n = front_kept h are.1 n
front_kept (ConfirmSent c ∷ h) are n = front_kept h are.1 n
front_kept (LinesTold ∷ h) are n = front_kept h are.1 n

nil_of : (xs : List ℕ) → length xs ≡ 0 → xs ≡ []
nil_of [] e = refl
nil_of (x ∷ xs) e = absurd (omega arith)

pub whole : (h : List PublishEvent) → AreParts h → (n : ℕ) → IsWhole (fate_of n h)
whole h are n =
    let f = fate_of n h in
    let front : IsFrontOf f.sent f.payload = front_kept h are n in
    record {
      front = front;
      all = λ e. sym (append-nil f.sent) ∙ ap (λ r. f.sent ++ r) (sym (nil_of front.0 (none f.sent front.0 f.payload front.1 e))) ∙ front.1;
      rest = λ go. ap (λ b. f.sent ++ cond b (drop (length f.sent) f.payload) []) go ∙ ap (λ r. f.sent ++ r) (drop_front f.sent front.0 f.payload front.1) ∙ front.1;
    }
  where
    none : (sent rest payload : List ℕ) → sent ++ rest ≡ payload → nat_lt (length sent) (length payload) ≡ false → length rest ≡ 0
    none sent rest payload e short =
        let long : length payload ≡ length sent + length rest = ap length (sym e) ∙ length-append sent rest in
        grind (arith, nat_tests)
