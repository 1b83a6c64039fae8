-- Nothing of a client is taken up while its pair holds many publishes, and so it never holds more.
use Rattle.std.proofs.Common.{◌≡◌, ◌∙◌, ℕ, zero, suc, ◌+◌, ◌==◌, ◌<◌, ◌≤◌, nat_le, not, ◌&&◌, Bool, true, false, if◌then◌else◌}
use Rattle.std.proofs.Common.{List, [], ◌∷◌, ◌++◌, length, Option, None, Some, option_map, refl, sym, ap, arith}
use Rattle.std.proofs.lemmas.Bool.Decides.{nat_tests}
use Rattle.std.proofs.lemmas.List.Sums.{sum_by-cons}
use Rattle.std.specs.List.{AllByRecursion}
use Rattle.std.specs.Prelude.{sum_by}
use Rattle.gate_outside.specs.declared.ports.End.TheVariants.{Client}
use Rattle.machine_091.specs.declared.limits.TheConstants.{CHANNEL_MAX}
use Rattle.machine_091.specs.declared.unit.Unit91.{Unit91}
use Rattle.machine_091.specs.declared.unit.Want91.{Want91}
use Rattle.machine_091.specs.declared.unit.Want91.TheVariants as want
use Rattle.property_map.specs.Spelling.{image_text}
use Rattle.publish_path.specs.Offers.{held_bytes, held_count}
use Rattle.publish_path.specs.Publishes.{PublishEvent, PublishState}
use Rattle.session_path.specs.Events as event
use Rattle.session_path.specs.Events.{PathEvent, after_events, losses, publish_events, publishes_of}
use Rattle.session_path.specs.Links.{named}
use Rattle.session_path.specs.Path.{PathState, sender_in}
use Rattle.session_path.specs.declared.path.PathLink.{PathLink}
use Rattle.gate_model.specs.Folds.{connection, going_in, paths_in, peers, ran_out_in, routes_in}
use Rattle.gate_model.specs.Holding.{HasRoom, HoldsFew, TakesWithRoom, bytes_held, number_held, of_life, on_channel, publishes_held, size_held, sum_below}
use Rattle.gate_model.specs.Once.{is_channel_open, is_method_on, one_if}
use Rattle.gate_model.specs.Paths.{bytes_in, bytes_on, held_in, held_on, is_laden, slot_at}
use Rattle.gate_model.specs.Picks.{ArePicks}
use Rattle.gate_model.specs.Publishing.{method_events, opens_channel, path_events, path_life, reply_events, step_events, told_event, up_events, want_events}
use Rattle.gate_model.specs.Publishing.{wrote_events}
use Rattle.gate_model.specs.Queue.{is_empty, place_in, unit_at}
use Rattle.gate_model.specs.Requests.{address_of, message_of}
use Rattle.gate_model.specs.Returns.{back_of}
use Rattle.gate_model.specs.State.{Came, Gave, State, Step, TakenUp, Whole, before, conn_step, is_later, next_unit, waits, want_in}
use Rattle.gate_model.specs.Due.{can_leave}
use Rattle.gate_model.specs.declared.channel.ChannelUnit.{ChannelUnit}
use Rattle.gate_model.specs.declared.channel.ChannelUnit.TheVariants as to_client
use Rattle.gate_model.specs.declared.limits.TheConstants.{HELD_BYTES, HELD_PUBLISHES}
use Rattle.gate_model.specs.declared.outgoing.Outgoing.TheVariants.{ToClient, ToUp}
use Rattle.gate_model.specs.declared.setup.Route.{Route}
use Rattle.gate_model.proofs.Basics.{left_false, less_both, right_false}
use Rattle.gate_model.proofs.Fates.{PublishesAre}
use Rattle.gate_model.proofs.Held.{NoneTaken, bytes_is, held_adds, held_falls, held_is}
use Rattle.gate_model.proofs.Known.{known, paths_are}
use Rattle.gate_model.proofs.Publishing.{path_is, tells}
use Rattle.gate_model.proofs.Quiet.{OfQuiet, flat, is_request, method_on, named_all, quiet_step, refusal_on, reply_on, up_on, whole_on}

-- ---- sums over channels

sum_front : (f : ℕ → ℕ) (n : ℕ) → sum_below f (suc n) ≡ f 0 + sum_below (λ (i : ℕ). f (suc i)) n
sum_front f zero = omega arith
sum_front f (suc n) = let ih = sum_front f n in omega (arith, ih)

of_slots : (g : Option PathState → ℕ) (ps : List (Option PathState)) → sum_by g ps ≡ sum_below (λ (i : ℕ). g (slot_at ps i)) (length ps)
of_slots g [] = refl
of_slots g (o ∷ os) =
    sum_by-cons g o os ∙ ap (λ (n : ℕ). g o + n) (of_slots g os) ∙ sym (sum_front (λ (i : ℕ). g (slot_at (o ∷ os) i)) (length os))

sum_same : (f g : ℕ → ℕ) (n : ℕ) → ((i : ℕ) → i < n → f i ≡ g i) → sum_below f n ≡ sum_below g n
sum_same f g zero e = refl
sum_same f g (suc n) e =
    let ih = sum_same f g n (λ i l. e i (omega (arith, l))) in
    let last : f n ≡ g n = e n (omega arith) in
    omega (arith, ih, last)

sum_less : (f g : ℕ → ℕ) (n : ℕ) → ((i : ℕ) → f i ≤ g i) → sum_below f n ≤ sum_below g n
sum_less f g zero e = omega arith
sum_less f g (suc n) e = let ih = sum_less f g n e in let last : f n ≤ g n = e n in omega (arith, ih, last)

sum_more : (f g d : ℕ → ℕ) (n : ℕ) → ((i : ℕ) → f i ≤ g i + d i) → sum_below f n ≤ sum_below g n + sum_below d n
sum_more f g d zero e = omega arith
sum_more f g d (suc n) e = let ih = sum_more f g d n e in let last : f n ≤ g n + d n = e n in omega (arith, ih, last)

sum_none : (n : ℕ) → sum_below (λ (i : ℕ). 0) n ≡ 0
sum_none zero = refl
sum_none (suc n) = let ih = sum_none n in omega (arith, ih)

none_yet : (k n : ℕ) → n ≤ k → sum_below (λ (i : ℕ). one_if (k == i)) n ≡ 0
none_yet k zero l = refl
none_yet k (suc n) l =
    let ih = none_yet k n (omega (arith, l)) in
    let other : (k == n) ≡ false = grind (arith, nat_tests, l) in
    let last : one_if (k == n) ≡ 0 = ap one_if other in
    omega (arith, ih, last)

one_of : (k n : ℕ) → sum_below (λ (i : ℕ). one_if (k == i)) n ≤ 1
one_of k zero = omega arith
one_of k (suc n) = by (k == n) refl (one_of k n)
  where
    by : (b : Bool) → (k == n) ≡ b → sum_below (λ (i : ℕ). one_if (k == i)) n ≤ 1 → sum_below (λ (i : ℕ). one_if (k == i)) n + one_if b ≤ 1
    by true e ih =
        let same : k ≡ n = grind (arith, nat_tests, e) in
        let none = none_yet k n (omega (arith, same)) in
        omega (arith, none)
    by false e ih = omega (arith, ih)

-- ---- what the paths hold is what the fates say

module _ (publishes : PublishesAre) (h : List Step) (p : ArePicks h) where
  summed : (g : Option PathState → ℕ) (f : List PublishEvent → ℕ)
      → ((es : List PathEvent) (o : Option ℕ) → g (option_map (λ (life : ℕ). after_events life es) o) ≡ of_life f es o)
      → sum_by g (before h).paths ≡ sum_below (on_channel f h) (suc CHANNEL_MAX)
  summed g f same =
      of_slots g (before h).paths ∙ ap (sum_below (λ (i : ℕ). g (slot_at (before h).paths i))) long
      ∙ sum_same _ (on_channel f h) (suc CHANNEL_MAX)
      (λ i l. ap g (path_is h i p (omega (arith, l))) ∙ same (path_events h i) (path_life h i))
    where
      long : length (before h).paths ≡ suc CHANNEL_MAX
      long = ap (λ (qs : List (Option PathState)). length qs) (paths_are (known h p)) ∙ (tells 0 h p).long

  count_is : held_in (before h).paths ≡ publishes_held h
  count_is = summed held_on number_held one
    where
      one : (es : List PathEvent) (o : Option ℕ) → held_on (option_map (λ (life : ℕ). after_events life es) o) ≡ of_life number_held es o
      one es None = refl
      one es (Some life) = ap (λ (x : PublishState). held_count x.list) (publishes life es) ∙ held_is life (publishes_of life es)

  size_is : bytes_in (before h).paths ≡ bytes_held h
  size_is = summed bytes_on size_held one
    where
      one : (es : List PathEvent) (o : Option ℕ) → bytes_on (option_map (λ (life : ℕ). after_events life es) o) ≡ of_life size_held es o
      one es None = refl
      one es (Some life) = ap (λ (x : PublishState). held_bytes x.list) (publishes life es) ∙ bytes_is life (publishes_of life es)

  -- a pair that isn't laden has room
  room : is_laden (before h).paths ≡ false → HasRoom h
  room e =
      let few : nat_le HELD_PUBLISHES (held_in (before h).paths) ≡ false = left_false _ _ e in
      let light : nat_le HELD_BYTES (bytes_in (before h).paths) ≡ false = right_false _ _ e in
      record {
        publishes = (let is : held_in (before h).paths ≡ publishes_held h = count_is in less _ _ _ few is);
        bytes = (let is : bytes_in (before h).paths ≡ bytes_held h = size_is in less _ _ _ light is);
      }
    where
      less : (most n m : ℕ) → nat_le most n ≡ false → n ≡ m → m < most
      less most n m f same = grind (arith, nat_tests, f, same)

  came_room : (u : Unit91) → next_unit (before h) ≡ Some u → HasRoom h
  came_room u e = room (by (is_laden (before h).paths) e)
    where
      by : (b : Bool) → unit_at (if b then None else place_in (waits (before h)) (before h).queue) (before h).queue ≡ Some u → b ≡ false
      by true f = absurd cc
      by false f = refl

  left_room : can_leave (before h) ≡ true → HasRoom h
  left_room e = room (by w.leaving (not w.out_of_memory) (is_empty w.queue) (not (waits w).some) (is_laden w.paths) e)
    where
      w : State
      w = before h

      by : (a b c d l : Bool) → (a && (b && (c && (d && not l)))) ≡ true → l ≡ false
      by a b c d false f = refl
      by false b c d true f = absurd cc
      by true false c d true f = absurd cc
      by true true false d true f = absurd cc
      by true true true false true f = absurd cc
      by true true true true true f = absurd cc

pub takes_with_room : PublishesAre → (h : List Step) → ArePicks h → TakesWithRoom h
takes_with_room publishes [] p = tt
takes_with_room publishes (Came u ∷ h) p = (came_room publishes h p.1 u p.0, takes_with_room publishes h p.1)
takes_with_room publishes (TakenUp ∷ h) p = (left_room publishes h p.1 p.0, takes_with_room publishes h p.1)
takes_with_room publishes (s ∷ h) p = takes_with_room publishes h p.1

-- ---- events by which no publish is taken up

abbrev pub is_publish : PathEvent → Bool
is_publish (event.Published address payload back) = true
is_publish x = false

abbrev pub IsOther : PathEvent → Type 0
IsOther x = is_publish x ≡ false

abbrev pub AreOther : List PathEvent → Type 0
AreOther xs = AllByRecursion IsOther xs

quiet_other : OfQuiet (λ (b : List PathEvent). IsOther)
quiet_other b (event.Published address payload back) e = absurd cc
quiet_other b x e = refl

request_other : (x : PathEvent) → is_request x ≡ true → IsOther x
request_other (event.Published address payload back) e = absurd cc
request_other x e = refl

told_other : (u : ChannelUnit) → IsOther (told_event u)
told_other (to_client.Ok x) = refl
told_other x = refl

abbrev pub is_came : Step → Bool
is_came (Came u) = true
is_came s = false

pub step_other : (n : ℕ) (h : List Step) (s : Step) → is_came s ≡ false → AreOther (step_events n h s)
step_other n h (Gave (ToUp u) text) e =
    flat IsOther (path_events h n) (up_events (is_later (connection h) u) n u)
    (up_on (λ (b : List PathEvent). IsOther) n h quiet_other (is_later (connection h) u) u (λ j t is. refl))
step_other n h (Gave (ToClient u) text) e =
    flat IsOther (path_events h n) (reply_events n u) (reply_on (λ (b : List PathEvent). IsOther) n h quiet_other u told_other)
step_other n h (Whole Client) e =
    flat IsOther (path_events h n) (wrote_events n (going_in h)) (whole_on (λ (b : List PathEvent). IsOther) n h quiet_other (going_in h) (λ tag. refl))
step_other n h (Came u) e = absurd cc
step_other n h s e =
    flat IsOther (path_events h n) (step_events n h s) (quiet_step (λ (b : List PathEvent). IsOther) n h quiet_other (λ ts payload g. refl) s refl)

abbrev pub is_publish_want : Want91 → Bool
is_publish_want (want.Publish k m c) = true
is_publish_want x = false

if_other : (b : Bool) (xs : List PathEvent) → AreOther xs → AreOther (if b then xs else [])
if_other true xs a = a
if_other false xs a = tt

pub want_other : (rs : List Route) (limit n : ℕ) (x : Want91) → is_publish_want x ≡ false → AreOther (want_events rs limit n x)
want_other rs limit n (want.Publish k m c) e = absurd cc
want_other rs limit n (want.Method k m) e =
    if_other (k == n) (method_events m)
    (flat IsOther [] (method_events m) (method_on (λ (b : List PathEvent). IsOther) 0 [] quiet_other m (named_all IsOther [] request_other m)))
want_other rs limit n want.Close e = (refl, tt)
want_other rs limit n (want.Refuse r) e = flat IsOther [] _ (refusal_on (λ (b : List PathEvent). IsOther) n [] quiet_other r)
want_other rs limit n x e = tt

pub none_up : (s : PathState) (x : PathEvent) → IsOther x → NoneTaken (publish_events s x)
none_up s (event.Published address payload back) e = absurd cc
none_up s (event.DetachCame peer not_found) e = by (sender_in (named peer s.links))
  where
    by : (o : Option PathLink) → NoneTaken (losses not_found o)
    by None = tt
    by (Some l) = (refl, tt)
none_up s (event.DispositionCame first last outcome settled) e = (refl, tt)
none_up s (event.TransferSent frame count) e = (refl, tt)
none_up s (event.ConfirmWent confirm) e = (refl, tt)
none_up s (event.ReturnWent number) e = (refl, tt)
none_up s event.LinesWent e = (refl, tt)
none_up s event.SessionLost e = (refl, tt)
none_up s event.SessionEnded e = (refl, tt)
none_up s event.UpLost e = (refl, tt)
none_up s x e = tt

falls : (life : ℕ) (xs es : List PathEvent) → AreOther xs → number_held (publishes_of life (xs ++ es)) ≤ number_held (publishes_of life es)
falls life [] es a = omega arith
falls life (x ∷ xs) es a =
    let older : number_held (publishes_of life (xs ++ es)) ≤ number_held (publishes_of life es) = falls life xs es a.1 in
    let newer : number_held (publishes_of life (x ∷ xs ++ es)) ≤ number_held (publishes_of life (xs ++ es)) =
    held_falls (publish_events (after_events life (xs ++ es)) x) (publishes_of life (xs ++ es)) (none_up (after_events life (xs ++ es)) x a.0) in
    omega (arith, older, newer)

-- ---- steps

-- of a channel, which is opened or not
abbrev CountBy : Bool → ℕ → List PathEvent → Option ℕ → ℕ
CountBy opens life es o = of_life number_held (if opens then [] else es) (if opens then Some life else o)

other_falls : (opens : Bool) (life : ℕ) (xs es : List PathEvent) (o : Option ℕ) → AreOther xs → CountBy opens life (xs ++ es) o ≤ of_life number_held es o
other_falls true life xs es o a = omega arith
other_falls false life xs es None a = omega arith
other_falls false life xs es (Some l) a = falls l xs es a

step_falls : (n : ℕ) (h : List Step) (s : Step) → is_came s ≡ false → on_channel number_held (s ∷ h) n ≤ on_channel number_held h n
step_falls n h s e = other_falls (opens_channel n h s) ((peers h).opened + 1) (step_events n h s) (path_events h n) (path_life h n) (step_other n h s e)

abbrev publishes_on : ℕ → Want91 → Bool
publishes_on n (want.Publish k m c) = k == n
publishes_on n x = false

want_adds : (rs : List Route) (limit n : ℕ) (x : Want91) (opens : Bool) (life : ℕ) (es : List PathEvent) (o : Option ℕ)
    → CountBy opens life (want_events rs limit n x ++ es) o ≤ of_life number_held es o + one_if (publishes_on n x)
want_adds rs limit n (want.Publish k m c) true life es o = omega arith
want_adds rs limit n (want.Publish k m c) false life es None = omega arith
want_adds rs limit n (want.Publish k m c) false life es (Some l) = by (address_of rs (message_of m c)) (image_text (message_of m c)) (back_of limit k m (message_of m c)) (k == n)
  where
    by : (address payload : List ℕ) (back : List (List ℕ)) (b : Bool)
        → number_held (publishes_of l ((if b then event.Published address payload back ∷ [] else []) ++ es)) ≤ number_held (publishes_of l es) + one_if b
    by address payload back true =
        let one : number_held (publishes_of l (event.Published address payload back ∷ es)) ≡ number_held (publishes_of l es) + 1 = held_adds _ _ payload back (publishes_of l es) in
        omega (arith, one)
    by address payload back false = omega arith
want_adds rs limit n x opens life es o =
    let less : CountBy opens life (want_events rs limit n x ++ es) o ≤ of_life number_held es o = other_falls opens life (want_events rs limit n x) es o (want_other rs limit n x refl) in
    omega (arith, less)

came_adds : (n : ℕ) (h : List Step) (u : Unit91)
    → on_channel number_held (Came u ∷ h) n ≤ on_channel number_held h n + one_if (publishes_on n (want_in (routes_in h) (paths_in h) (connection h) u))
came_adds n h u = by (ran_out_in h)
  where
    x : Want91
    x = want_in (routes_in h) (paths_in h) (connection h) u

    limit : ℕ
    limit = (conn_step (routes_in h) (paths_in h) (connection h) u).limits.frame_max

    by : (b : Bool) → CountBy (not b && is_method_on is_channel_open n x) ((peers h).opened + 1) ((if b then [] else want_events (routes_in h) limit n x) ++ path_events h n) (path_life h n)
        ≤ on_channel number_held h n + one_if (publishes_on n x)
    by true = let same = other_falls false ((peers h).opened + 1) [] (path_events h n) (path_life h n) tt in omega (arith, same)
    by false = want_adds (routes_in h) limit n x (is_method_on is_channel_open n x) ((peers h).opened + 1) (path_events h n) (path_life h n)

one_taken : (x : Want91) (n : ℕ) → sum_below (λ (i : ℕ). one_if (publishes_on i x)) n ≤ 1
one_taken (want.Publish k m c) n = one_of k n
one_taken x n = let none = sum_none n in omega (arith, none)

came_few : (h : List Step) (u : Unit91) → publishes_held (Came u ∷ h) ≤ publishes_held h + 1
came_few h u =
    let x : Want91 = want_in (routes_in h) (paths_in h) (connection h) u in
    add_less _ _ _ (sum_more (on_channel number_held (Came u ∷ h)) (on_channel number_held h) (λ (i : ℕ). one_if (publishes_on i x)) (suc CHANNEL_MAX) (λ i. came_adds i h u))
    (one_taken x (suc CHANNEL_MAX))
  where
    add_less : (a b c : ℕ) → a ≤ b + c → c ≤ 1 → a ≤ b + 1
    add_less a b c e f = omega (arith, e, f)

step_few : (h : List Step) (s : Step) → is_came s ≡ false → publishes_held (s ∷ h) ≤ publishes_held h
step_few h s e = sum_less (on_channel number_held (s ∷ h)) (on_channel number_held h) (suc CHANNEL_MAX) (λ i. step_falls i h s e)

pub holds_few : PublishesAre → (h : List Step) → ArePicks h → HoldsFew h
holds_few publishes [] p = none_few _ _ (sum_none (suc CHANNEL_MAX))
  where
    none_few : (n m : ℕ) → n ≡ 0 → n ≤ m
    none_few n m e = omega (arith, e)
holds_few publishes (Came u ∷ h) p = one_more _ _ _ (came_few h u) (came_room publishes h p.1 u p.0).publishes
  where
    one_more : (a b m : ℕ) → a ≤ b + 1 → b < m → a ≤ m
    one_more a b m e f = omega (arith, e, f)
holds_few publishes (s ∷ h) p = less_both _ _ _ (step_few h s refl) (holds_few publishes h p.1)
