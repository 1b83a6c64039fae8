-- While a content is begun nothing but its frames goes to the client: at most one is begun, over all channels, since one begins only where none goes on.
use Rattle.std.proofs.Common.{◌≡◌, ℕ, zero, suc, ◌+◌, ◌==◌, ◌<◌, ◌≤◌, nat_lt, not, ◌&&◌, ◌||◌, Bool}
use Rattle.std.proofs.Common.{true, false, if◌then◌else◌, List, [], ◌∷◌, ◌++◌, length, map, Option}
use Rattle.std.proofs.Common.{None, Some, is_some, option_map, refl, sym, ap, ◌∙◌, subst, arith, append_assoc}
use Rattle.std.proofs.lemmas.Bool.Decides.{nat_tests}
use Rattle.std.specs.Option.{option_or}
use Rattle.consume_path.specs.Deliveries.{DeliveryEvent}
use Rattle.consume_path.specs.Journal.{IsTaken as IsDelivery, is_closed}
use Rattle.gate_outside.specs.declared.ports.End.TheVariants.{Client}
use Rattle.machine_091.specs.State.{is_closing, is_open}
use Rattle.machine_091.specs.declared.limits.TheConstants.{CHANNEL_MAX}
use Rattle.open_items.proofs.Counted.{least_none}
use Rattle.open_items.specs.Numbers.{least}
use Rattle.publish_path.specs.Journal.{Fate, IsTaken, confirms_of, decided, fate_of, is_to_return, new_fate, numbers_of}
use Rattle.publish_path.specs.Laws.{is_returning, is_to_begin, return_at, return_by}
use Rattle.publish_path.specs.Offers.{next_return_of}
use Rattle.publish_path.specs.Publishes.{LinkGone, OutcomeCame, PublishEvent, PublishState, ReturnSent, TakenUp, next_number}
use Rattle.publish_path.specs.declared.publish.NextReturn.{NextReturn}
use Rattle.session_path.specs.Due.{next_content, next_return}
use Rattle.session_path.specs.Events.{PathEvent, after_events, deliveries_of, delivery_events, publishes_of}
use Rattle.session_path.specs.Path.{PathState, frames_in}
use Rattle.session_path.specs.declared.path.ContentDue.{ContentDue}
use Rattle.session_path.specs.declared.path.DeliverDue.{DeliverDue}
use Rattle.gate_model.specs.Contents.{Begun, GoesOn, IsBegun, IsContentOn, IsReturnOf, IsReturned}
use Rattle.gate_model.specs.Contents.{StandTogether, begun_at, begun_in, frames_by, one_more}
use Rattle.gate_model.specs.Delivers.{Delivers, MayDeliver}
use Rattle.gate_model.specs.Due.{client_rows, content_on, contents, contents_on, if_so, may_answer, may_confirm_all, may_confirm_some, may_end, may_go_on, may_return}
use Rattle.gate_model.specs.Due.{pick, when, writing_on, writings, writings_on}
use Rattle.gate_model.specs.Folds.{connection, peers, ran_out_in}
use Rattle.gate_model.specs.Lives.{life_at}
use Rattle.gate_model.specs.Paths.{or_no_path, path_at, slot_at}
use Rattle.gate_model.specs.Picks.{ArePicks, MayStep}
use Rattle.gate_model.specs.Publishing.{back_by, back_in, back_taken, opens_channel, path_events, path_life}
use Rattle.gate_model.specs.Publishing.{publishes_in, returned_by, returned_in, step_events}
use Rattle.gate_model.specs.State.{Gave, State, Step, before}
use Rattle.gate_model.specs.Upstream.{first}
use Rattle.gate_model.specs.declared.channel.ChannelUnit.TheVariants as to_client
use Rattle.gate_model.specs.declared.outgoing.Outgoing.TheVariants.{ToClient}
use Rattle.gate_model.specs.declared.reply.Reply.{Reply}
use Rattle.gate_model.specs.declared.reply.Reply.TheVariants as reply
use Rattle.gate_model.proofs.Basics.{and_left, and_right}
use Rattle.gate_model.proofs.Backs.{BacksAre, Returned, ReturnsAre, backs, lives_in}
use Rattle.gate_model.proofs.Calm.{stays_all, taken_more}
use Rattle.gate_model.proofs.Closed.{closed_is, none_open, was_cut}
use Rattle.gate_model.proofs.Closings.{remembers, unclosed}
use Rattle.gate_model.proofs.Connections.{clash}
use Rattle.gate_model.proofs.Fates.{IsLived, IsNext, PublishesAre, is_next, least_passes, lived, path_of}
use Rattle.gate_model.proofs.Firsts.{FirstIs, each_is, goes_as}
use Rattle.gate_model.proofs.Heard.{events_open}
use Rattle.gate_model.proofs.Known.{conn_is, known, memory_is}
use Rattle.gate_model.proofs.Lives.{lives_all}
use Rattle.gate_model.proofs.Overs.{goes_on as life_goes_on}
use Rattle.gate_model.proofs.Rows.{Has, HasFirst, HasNone, first_some, has, row_none, same_first}
use Rattle.gate_model.proofs.Said.{in_if, is_first}
use Rattle.gate_model.proofs.Writing.{content_by}

-- ---- what the state says of the frames that are to go

abbrev pub ContentIs : Type 0
ContentIs = (h : List Step) (n life : ℕ) → ArePicks h → n ≤ CHANNEL_MAX → path_life h n ≡ Some life → is_closed (deliveries_of life (path_events h n)) ≡ false
    → next_content (path_at (before h).paths n) ≡ content_by (begun_in n h) (deliveries_of life (path_events h n))

abbrev pub BegunBelow : Type 0
BegunBelow = (h : List Step) (n : ℕ) (b : Begun) → ArePicks h → begun_in n h ≡ Some b → n ≤ CHANNEL_MAX

-- of a life that is closed no content is written
abbrev pub ClosedEnds : Type 0
ClosedEnds = (h : List Step) (n life : ℕ) → ArePicks h → n ≤ CHANNEL_MAX → path_life h n ≡ Some life → is_closed (deliveries_of life (path_events h n)) ≡ true
    → next_content (path_at (before h).paths n) ≡ None

abbrev pub DeliversHold : Type 0
DeliversHold = (h : List Step) → ArePicks h → Delivers h

-- ---- what the deliveries of a life keep

-- events on top of others
record Grown (life : ℕ) (xs es : List PathEvent) : Type 0 where
  on : List DeliveryEvent
  is : deliveries_of life (xs ++ es) ≡ on ++ deliveries_of life es

grown : (life : ℕ) (xs es : List PathEvent) → Grown life xs es
grown life [] es = record { on = []; is = refl }
grown life (x ∷ xs) es =
    let g = grown life xs es in
    let new : List DeliveryEvent = delivery_events (after_events life (xs ++ es)) x in
    record { on = new ++ g.on; is = ap (λ (ds : List DeliveryEvent). new ++ ds) g.is ∙ sym (append_assoc new g.on (deliveries_of life es)) }

-- ---- a content begins by a deliver, and goes on

data From (n : ℕ) (s : Step) (o : Option Begun) (b : Begun) : Type 0 where
  Begins : (text : List ℕ) → s ≡ Gave (ToClient (reply.OnChannel n (to_client.Deliver b.due))) text → From n s o b
  Went : (old : Begun) → o ≡ Some old → old.due ≡ b.due → old.gone ≤ b.gone → From n s o b

stays : (n : ℕ) (s : Step) (o : Option Begun) (b : Begun) → o ≡ Some b → From n s o b
stays n s o b e = Went b e refl (omega arith)

from : (n : ℕ) (s : Step) (o : Option Begun) (b : Begun) → begun_at n s o ≡ Some b → From n s o b
from n (Gave (ToClient (reply.OnChannel k (to_client.Deliver d))) text) o b e = by (k == n) refl e
  where
    new : Begun
    new = record { due = d; gone = 0 }

    by : (x : Bool) → (k == n) ≡ x → (if x then Some new else o) ≡ Some b → From n (Gave (ToClient (reply.OnChannel k (to_client.Deliver d))) text) o b
    by true g f =
        let same : k ≡ n = grind (arith, nat_tests, g) in
        let is : new ≡ b = cc in
        Begins text
        (ap (λ (i : ℕ). Gave (ToClient (reply.OnChannel i (to_client.Deliver d))) text) same
        ∙ ap (λ (x : Begun). Gave (ToClient (reply.OnChannel n (to_client.Deliver x.due))) text) is)
    by false g f = stays n _ o b f
from n (Gave (ToClient (reply.OnChannel k (to_client.Content c))) text) o b e = by (k == n) e
  where
    s : Step
    s = Gave (ToClient (reply.OnChannel k (to_client.Content c))) text

    more : (o : Option Begun) → one_more o ≡ Some b → From n s o b
    more None f = absurd cc
    more (Some old) f =
        let new : Begun = record old { gone = old.gone + 1 } in
        let is : new ≡ b = cc in
        let gone : old.gone + 1 ≡ b.gone = ap (λ (x : Begun). x.gone) is in
        Went old refl (ap (λ (x : Begun). x.due) is) (omega (arith, gone))

    by : (x : Bool) → (if x then one_more o else o) ≡ Some b → From n s o b
    by true f = more o f
    by false f = stays n s o b f
from n s o b e = stays n s o b e

module _ (delivers : DeliversHold) where
  -- that which is begun came in the life
  taken : (h : List Step) (n life : ℕ) (b : Begun) → ArePicks h → path_life h n ≡ Some life → begun_in n h ≡ Some b
      → IsDelivery (deliveries_of life (path_events h n)) b.due.next.number
  taken [] n life b p e f = absurd cc
  taken (s ∷ h) n life b p e f = by (opens_channel n h s) e f (λ old l. taken h n life old p.1 l)
    where
      later : (k : ℕ) → IsDelivery (deliveries_of life (path_events h n)) k → IsDelivery (deliveries_of life (step_events n h s ++ path_events h n)) k
      later k t =
          let g = grown life (step_events n h s) (path_events h n) in
          subst (λ (ds : List DeliveryEvent). IsDelivery ds k) (sym g.is) (taken_more g.on (deliveries_of life (path_events h n)) k t)

      at : path_life h n ≡ Some life → From n s (begun_in n h) b
          → ((old : Begun) → path_life h n ≡ Some life → begun_in n h ≡ Some old → IsDelivery (deliveries_of life (path_events h n)) old.due.next.number)
          → IsDelivery (deliveries_of life (path_events h n)) b.due.next.number
      at l (Begins text g) rest =
          let d : MayDeliver h n b.due text = (subst (λ (x : Step). Delivers (x ∷ h)) g (delivers (s ∷ h) p)).0 in
          subst (λ (i : ℕ). IsDelivery (deliveries_of i (path_events h n)) b.due.next.number) (same_first (path_life h n) d.life life d.lives l) d.lawful.taken
      at l (Went old g same less) rest =
          subst (λ (x : DeliverDue). IsDelivery (deliveries_of life (path_events h n)) x.next.number) same (rest old l g)

      by : (o : Bool) → (if o then Some ((peers h).opened + 1) else path_life h n) ≡ Some life → (if o then None else begun_at n s (begun_in n h)) ≡ Some b
          → ((old : Begun) → path_life h n ≡ Some life → begun_in n h ≡ Some old → IsDelivery (deliveries_of life (path_events h n)) old.due.next.number)
          → IsDelivery (deliveries_of life (if o then [] else step_events n h s ++ path_events h n)) b.due.next.number
      by true l g rest = absurd cc
      by false l g rest = later b.due.next.number (at l (from n s (begun_in n h) b g) rest)

-- ---- a return that is begun

-- one of which a frame went has its outcome, and is to go back
record Keeps (outcome : Option Bool) (returns : Bool) (returned : ℕ) : Type 0 where
  goes : 0 < returned → returns ≡ true
  told : returns ≡ true → is_some outcome ≡ true

abbrev KeepsIn : Fate → Type 0
KeepsIn f = Keeps f.outcome f.returns f.returned

new_keeps : (o : Option Bool) → Keeps o false 0
new_keeps o = record { goes = λ e. absurd (omega (arith, e)); told = λ e. absurd cc }

-- the first outcome counts
settles : (o : Option Bool) (answered r test accepted back : Bool) (k : ℕ) → Keeps o r k
    → Keeps (decided test accepted o) (if (not (is_some o) && not answered) && test then back else r) k
settles (Some a) answered r true accepted back k t = record { goes = t.goes; told = λ e. refl }
settles (Some a) answered r false accepted back k t = record { goes = t.goes; told = λ e. refl }
settles None true r true accepted back k t = record { goes = t.goes; told = λ e. refl }
settles None true r false accepted back k t = t
settles None false r true accepted back k t = record { goes = λ e. absurd (let no : false ≡ true = t.told (t.goes e) in cc); told = λ e. refl }
settles None false r false accepted back k t = t

sends : (a r l : Bool) (o : Option Bool) (k : ℕ) → Keeps o r k → Keeps o r (if a && (r && l) then k + 1 else k)
sends true true true o k t = record { goes = λ e. refl; told = t.told }
sends true true false o k t = t
sends true false l o k t = t
sends false r l o k t = t

keeps : (n : ℕ) (h : List PublishEvent) → KeepsIn (fate_of n h)
keeps n [] = new_keeps None
keeps n (TakenUp link confirm payload back ∷ h) = by (n == numbers_of h + 1) (keeps n h)
  where
    by : (b : Bool) → KeepsIn (fate_of n h) → KeepsIn (if b then new_fate link (next_number confirm (confirms_of h)) payload back else fate_of n h)
    by true t = new_keeps None
    by false t = t
keeps n (OutcomeCame begin last outcome ∷ h) = let f = fate_of n h in settles f.outcome f.answered f.returns _ _ _ f.returned (keeps n h)
keeps n (LinkGone link not_found ∷ h) = let f = fate_of n h in settles f.outcome f.answered f.returns _ _ _ f.returned (keeps n h)
keeps n (ReturnSent number ∷ h) = let f = fate_of n h in sends (n == number) f.returns _ f.outcome f.returned (keeps n h)
keeps n (s ∷ h) = keeps n h

-- no publish has number 0
none_back : (h : List PublishEvent) → length (fate_of 0 h).back ≡ 0
none_back [] = refl
none_back (TakenUp link confirm payload back ∷ h) = by (0 == numbers_of h + 1) refl (none_back h)
  where
    by : (b : Bool) → (0 == numbers_of h + 1) ≡ b → length (fate_of 0 h).back ≡ 0
        → length (if b then new_fate link (next_number confirm (confirms_of h)) payload back else fate_of 0 h).back ≡ 0
    by true e t = absurd (let same : 0 ≡ numbers_of h + 1 = grind (arith, nat_tests, e) in omega (arith, same))
    by false e t = t
none_back (x ∷ h) = none_back h

less_is : (a b : ℕ) → nat_lt a b ≡ true → a < b
less_is a b e = grind (arith, nat_tests, e)

is_less : (a b : ℕ) → a < b → nat_lt a b ≡ true
is_less a b e = grind (arith, nat_tests, e)

-- its publish was taken up, and the return goes on
record IsOn (h : List PublishEvent) (n : ℕ) : Type 0 where
  taken : IsTaken h n
  on : is_returning (fate_of n h) ≡ true

on_is : (h : List PublishEvent) (n count gone : ℕ) (back : List (List ℕ)) → Returned h n count back gone → 1 ≤ gone → gone < length back → IsOn h n
on_is h n count gone back t begun left = record { taken = (least n refl, most); on = both }
  where
    f : Fate
    f = fate_of n h

    went : 0 < f.returned
    went = subst (λ (k : ℕ). 0 < k) (sym t.gone_is) (omega (arith, begun))

    more : f.returned < length f.back
    more = subst (λ (k : ℕ). k < length f.back) (sym t.gone_is) (subst (λ (xs : List (List ℕ)). gone < length xs) (sym t.back_is) left)

    least : (k : ℕ) → k ≡ n → 1 ≤ k
    least zero e =
        let none : length (fate_of 0 h).back ≡ 0 = none_back h in
        let some : (fate_of 0 h).returned < length (fate_of 0 h).back = subst (λ (i : ℕ). (fate_of i h).returned < length (fate_of i h).back) (sym e) more in
        absurd (omega (arith, none, some))
    least (suc k) e = omega arith

    most : n ≤ numbers_of h
    most = by (nat_lt count n) refl
      where
        by : (b : Bool) → nat_lt count n ≡ b → n ≤ numbers_of h
        by true e = let none : gone ≡ 0 = t.none (less_is count n e) in absurd (omega (arith, none, begun))
        by false e = let many : numbers_of h ≡ count = t.count_is in grind (arith, nat_tests, e, many)

    both : (((f.returns && nat_lt f.returned (length f.back))) && nat_lt 0 f.returned) ≡ true
    both =
        let k = keeps n h in
        let returns : f.returns ≡ true = k.goes went in
        ap (λ (a : Bool). (a && nat_lt f.returned (length f.back)) && nat_lt 0 f.returned) returns
        ∙ ap (λ (a : Bool). a && nat_lt 0 f.returned) (is_less f.returned (length f.back) more) ∙ is_less 0 f.returned went

-- a return is due that isn't at its first frame
record IsLater (o : Option NextReturn) : Type 0 where
  due : NextReturn
  is : o ≡ Some due
  later : due.first ≡ false

is_later : (h : List PublishEvent) (n : ℕ) → IsOn h n → IsLater (return_by h)
is_later h n t = by (least (λ k. is_returning (fate_of k h)) (numbers_of h)) refl
  where
    by : (o : Option ℕ) → least (λ k. is_returning (fate_of k h)) (numbers_of h) ≡ o
        → IsLater (option_or (option_map (return_at false) o) (option_map (return_at true) (least (λ k. is_to_begin (fate_of k h)) (numbers_of h))))
    by None e = absurd (clash _ t.on (least_none (λ k. is_returning (fate_of k h)) (numbers_of h) e n t.taken.0 t.taken.1))
    by (Some k) e = record { due = return_at false k; is = refl; later = refl }

later_on : (h : List PublishEvent) (r : NextReturn) → return_by h ≡ Some r → r.first ≡ false → is_returning (fate_of r.publish h) ≡ true
later_on h r e f =
    by (least (λ k. is_returning (fate_of k h)) (numbers_of h)) (least (λ k. is_to_begin (fate_of k h)) (numbers_of h)) refl e
  where
    by : (a b : Option ℕ) → least (λ k. is_returning (fate_of k h)) (numbers_of h) ≡ a
        → option_or (option_map (return_at false) a) (option_map (return_at true) b) ≡ Some r → is_returning (fate_of r.publish h) ≡ true
    by (Some k) b g i =
        let same : return_at false k ≡ r = cc in
        subst (λ (x : NextReturn). is_returning (fate_of x.publish h) ≡ true) same (least_passes (λ k. is_returning (fate_of k h)) (numbers_of h) k g).2
    by None (Some k) g i = absurd (let same : return_at true k ≡ r = cc in clash r.first (sym (ap (λ (x : NextReturn). x.first) same)) f)
    by None None g i = absurd cc

-- what is due of it is of a channel
return_below : (h : List Step) (n : ℕ) (r : NextReturn) → ArePicks h → next_return (path_at (before h).paths n) ≡ Some r → n ≤ CHANNEL_MAX
return_below h n r p e = by (slot_at (before h).paths n) refl e
  where
    by : (o : Option PathState) → slot_at (before h).paths n ≡ o → next_return (or_no_path o) ≡ Some r → n ≤ CHANNEL_MAX
    by None g f = absurd cc
    by (Some s) g f = (lived h n s p g).below

data BackFrom (n number : ℕ) (s : Step) (count new : ℕ) : Type 0 where
  Sends : (r : NextReturn) (text : List ℕ) → r.publish ≡ number → s ≡ Gave (ToClient (reply.OnChannel n (to_client.Return r))) text → BackFrom n number s count new
  Same : new ≡ count → BackFrom n number s count new

back_from : (n number : ℕ) (s : Step) (count : ℕ) → BackFrom n number s count (returned_by n number s count)
back_from n number (Gave (ToClient (reply.OnChannel k (to_client.Return r))) text) count = by (k == n) (number == r.publish) refl refl
  where
    s : Step
    s = Gave (ToClient (reply.OnChannel k (to_client.Return r))) text

    by : (a b : Bool) → (k == n) ≡ a → (number == r.publish) ≡ b → BackFrom n number s count (if a && b then count + 1 else count)
    by true true e f =
        let same : k ≡ n = grind (arith, nat_tests, e) in
        let is : r.publish ≡ number = grind (arith, nat_tests, f) in
        Sends r text is (ap (λ (i : ℕ). Gave (ToClient (reply.OnChannel i (to_client.Return r))) text) same)
    by true false e f = Same refl
    by false b e f = Same refl
back_from n number s count = Same refl

-- ---- rows

first_goes : (us : List Reply) (u : Reply) → first (map ToClient us) ≡ Some (ToClient u) → first us ≡ Some u
first_goes [] u e = absurd cc
first_goes (x ∷ us) u e = let same : x ≡ u = cc in ap Some same

second : (cs ws rs bs : List Reply) (v : Reply) → cs ≡ [] → first ws ≡ Some v → first ((cs ++ (ws ++ rs)) ++ bs) ≡ Some v
second cs ws rs bs v e f = ap (λ (xs : List Reply). first ((xs ++ (ws ++ rs)) ++ bs)) e ∙ first_some (ws ++ rs) bs v (first_some ws rs v f)

-- a frame of a return that is begun, and one of a content
record IsBackOn (h : List Step) (u : Reply) : Type 0 where
  channel : ℕ
  due : NextReturn
  is : u ≡ reply.OnChannel channel (to_client.Return due)
  next : next_return (path_at (before h).paths channel) ≡ Some due
  later : due.first ≡ false

backs_first : (h : List Step) → FirstIs (IsBackOn h) (contents (before h))
backs_first h = each_is (IsBackOn h) _ (before h).lives (λ n. by n (may_go_on (may_confirm_all (before h)) (life_at (before h).lives n)) (next_return (path_at (before h).paths n)) refl)
  where
    at : (n : ℕ) (r : NextReturn) (may b : Bool) → next_return (path_at (before h).paths n) ≡ Some r → r.first ≡ b
        → FirstIs (IsBackOn h) (when (may && not b) (reply.OnChannel n (to_client.Return r)))
    at n r false b e f = tt
    at n r true true e f = tt
    at n r true false e f = record { channel = n; due = r; is = refl; next = e; later = f }

    by : (n : ℕ) (may : Bool) (o : Option NextReturn) → next_return (path_at (before h).paths n) ≡ o → FirstIs (IsBackOn h) (content_on may n o)
    by n may None e = tt
    by n may (Some r) e = at n r may r.first e refl

record IsFrameOn (h : List Step) (u : Reply) : Type 0 where
  channel : ℕ
  due : ContentDue
  is : u ≡ reply.OnChannel channel (to_client.Content due)
  next : next_content (path_at (before h).paths channel) ≡ Some due

frames_first : (h : List Step) → FirstIs (IsFrameOn h) (writings (before h))
frames_first h = each_is (IsFrameOn h) _ (before h).lives (λ n. unless (life_at (before h).lives n).over _ (by n (next_content (path_at (before h).paths n)) refl))
  where
    unless : (over : Bool) (rs : List Reply) → FirstIs (IsFrameOn h) rs → FirstIs (IsFrameOn h) (if over then [] else rs)
    unless true rs x = tt
    unless false rs x = x

    by : (n : ℕ) (o : Option ContentDue) → next_content (path_at (before h).paths n) ≡ o → FirstIs (IsFrameOn h) (writing_on n o)
    by n None e = tt
    by n (Some c) e = record { channel = n; due = c; is = refl; next = e }

-- ---- what is begun

data Token : Type 0 where
  Content : (n : ℕ) → Token
  Back : (n number : ℕ) → Token

pub record IsCalm (h : List Step) : Type 0 where
  pub open_still : is_closing (connection h) ≡ false
  pub memory : ran_out_in h ≡ false

abbrev IsIn : List Step → Token → Type 0
IsIn h (Content n) = IsBegun h n
IsIn h (Back n number) = IsCalm h × IsReturned h n number

abbrev Alone : List Step → Type 0
Alone h = (t v : Token) → IsIn h t → IsIn h v → t ≡ v

abbrev GoesAs : Reply → Token → Type 0
GoesAs u (Content n) = IsContentOn n u
GoesAs u (Back n number) = IsReturnOf n number u

-- a step begins it
data Starts (s : Step) : Token → Type 0 where
  StartsContent : (n : ℕ) (d : DeliverDue) (text : List ℕ) → s ≡ Gave (ToClient (reply.OnChannel n (to_client.Deliver d))) text → Starts s (Content n)
  StartsBack : (n : ℕ) (r : NextReturn) (text : List ℕ) → s ≡ Gave (ToClient (reply.OnChannel n (to_client.Return r))) text → Starts s (Back n r.publish)

data Comes (s : Step) (h : List Step) (t : Token) : Type 0 where
  New : Starts s t → Comes s h t
  Old : IsIn h t → Comes s h t

both_start : (s : Step) (t v : Token) → Starts s t → Starts s v → t ≡ v
both_start s _ _ (StartsContent n d text e) (StartsContent m c more f) = let same = sym e ∙ f in let is : n ≡ m = cc in ap Content is
both_start s _ _ (StartsContent n d text e) (StartsBack m r more f) = absurd (let same = sym e ∙ f in cc)
both_start s _ _ (StartsBack n r text e) (StartsContent m d more f) = absurd (let same = sym e ∙ f in cc)
both_start s _ _ (StartsBack n r text e) (StartsBack m q more f) =
    let same = sym e ∙ f in let is : n ≡ m = cc in let due : r ≡ q = cc in ap (λ (i : ℕ). Back i r.publish) is ∙ ap (λ (x : NextReturn). Back m x.publish) due

-- what goes while another is begun begins none
starts_behind : (h : List Step) (s : Step) (t v : Token) → Starts s t → MayStep h s
    → ((u : Reply) → pick (before h) Client ≡ Some (ToClient u) → GoesAs u v) → t ≡ v
starts_behind h s _ v (StartsContent n d text e) p goes = by v goes
  where
    u : Reply
    u = reply.OnChannel n (to_client.Deliver d)

    picked : pick (before h) Client ≡ Some (ToClient u)
    picked = (subst (MayStep h) e p).1

    by : (v : Token) → ((u : Reply) → pick (before h) Client ≡ Some (ToClient u) → GoesAs u v) → Content n ≡ v
    by (Content m) goes = let x = goes u picked in let is = x.is in absurd cc
    by (Back m k) goes = let x = goes u picked in let is = x.is in absurd cc
starts_behind h s _ v (StartsBack n r text e) p goes = by v goes
  where
    u : Reply
    u = reply.OnChannel n (to_client.Return r)

    picked : pick (before h) Client ≡ Some (ToClient u)
    picked = (subst (MayStep h) e p).1

    by : (v : Token) → ((u : Reply) → pick (before h) Client ≡ Some (ToClient u) → GoesAs u v) → Back n r.publish ≡ v
    by (Content m) goes = let x = goes u picked in let is = x.is in absurd cc
    by (Back m k) goes =
        let x = goes u picked in let is = x.is in let same : n ≡ m = cc in let due : r ≡ x.due = cc in
        ap (λ (i : ℕ). Back i r.publish) same ∙ ap (Back m) (ap (λ (y : NextReturn). y.publish) due ∙ x.same)

-- nothing is begun before any step
none_in : (t : Token) → IsIn [] t → ⊥
none_in (Content n) x = let is = x.is in cc
none_in (Back n number) (calm, x) = let begun : 1 ≤ 0 = x.begun in omega (arith, begun)

-- the connection was calm before
calm_before : (s : Step) (h : List Step) → ArePicks (s ∷ h) → IsCalm (s ∷ h) → IsCalm h
calm_before s h p x = let calm = unclosed s h p x.open_still in record { open_still = calm; memory = remembers h p.1 calm }

-- a life that goes on is that of an open channel
pub calm_in : (h : List Step) (n life : ℕ) → ArePicks h → n ≤ CHANNEL_MAX → path_life h n ≡ Some life → is_closed (deliveries_of life (path_events h n)) ≡ false
    → is_open (connection h) n ≡ true
calm_in h n life p least l e = by (is_open (connection h) n) (was_cut n h) (sym (closed_is h n life p least l) ∙ e)
  where
    by : (a b : Bool) → (not a || b) ≡ false → a ≡ true
    by true b f = refl
    by false b f = absurd cc

pub is_calm : (h : List Step) (n : ℕ) → ArePicks h → is_open (connection h) n ≡ true → IsCalm h
is_calm h n p e = record { open_still = calm; memory = remembers h p calm }
  where
    calm : is_closing (connection h) ≡ false
    calm = by (is_closing (connection h)) refl
      where
        by : (b : Bool) → is_closing (connection h) ≡ b → b ≡ false
        by true f = absurd (clash _ e (none_open n (connection h) f))
        by false f = refl

-- so the state lets both go
pub may_write : (h : List Step) → ArePicks h → IsCalm h → may_answer (before h) ≡ true
may_write h p x =
    ap (λ (a : Bool). not (a || is_closing (before h).conn)) (memory_is (known h p) ∙ x.memory)
    ∙ ap not (ap is_closing (conn_is (known h p)) ∙ x.open_still)

pub may_back : (h : List Step) → ArePicks h → IsCalm h → may_return (before h) ≡ true
may_back h p x =
    ap (λ (a : Bool). not a && may_confirm_some (before h)) (memory_is (known h p) ∙ x.memory)
    ∙ ap (λ (b : Bool). (b || (before h).by_peer) || may_end (before h)) (may_write h p x)

-- and a return that is begun on any channel
goes_on_now : (h : List Step) (n : ℕ) → ArePicks h → IsCalm h → may_go_on (may_confirm_all (before h)) (life_at (before h).lives n) ≡ true
goes_on_now h n p x = ap (λ (b : Bool). may_go_on (b || (before h).by_peer) (life_at (before h).lives n)) (may_write h p x)

-- each channel has a life
pub has_life : (h : List Step) (n : ℕ) → ArePicks h → n ≤ CHANNEL_MAX → n < length (before h).lives
has_life h n p e = let many = lives_all h p in let most : CHANNEL_MAX ≡ 255 = refl in omega (arith, e, many, most)

pub record IsDue (o : Option ContentDue) : Type 0 where
  pub due : ContentDue
  pub is : o ≡ Some due

-- a content that is begun is due
pub frame_due : ContentIs → BegunBelow → (h : List Step) (n : ℕ) → ArePicks h → IsBegun h n → IsDue (next_content (path_at (before h).paths n))
frame_due frames below h n p x =
    let es : List DeliveryEvent = deliveries_of x.life (path_events h n) in
    let count : ℕ = length (frames_by x.begun.due.next.number es) in
    let due : ContentDue = record { tag = x.begun.due.tag; last = x.begun.gone + 1 == count } in
    record {
      due = due;
      is = frames h n x.life p (below h n x.begun p x.is) x.lives x.goes_on ∙ ap (λ (o : Option Begun). content_by o es) x.is
          ∙ ap (λ (b : Bool). if b then Some due else None) (is_less x.begun.gone count x.left);
    }

module _ (frames : ContentIs) (ends : ClosedEnds) (below : BegunBelow) (delivers : DeliversHold) (publishes : PublishesAre) (returns : ReturnsAre)
    (texts : BacksAre) where
  -- ---- what a step begins

  content_comes : (s : Step) (h : List Step) (n : ℕ) → ArePicks (s ∷ h) → IsBegun (s ∷ h) n → Comes s h (Content n)
  content_comes s h n p x = by (opens_channel n h s) x.lives x.goes_on x.is x.left
    where
      k : ℕ
      k = x.begun.due.next.number

      es : List DeliveryEvent
      es = deliveries_of x.life (path_events h n)

      xs : List PathEvent
      xs = step_events n h s

      at : path_life h n ≡ Some x.life → is_closed (deliveries_of x.life (xs ++ path_events h n)) ≡ false
          → x.begun.gone < length (frames_by k (deliveries_of x.life (xs ++ path_events h n))) → From n s (begun_in n h) x.begun → Comes s h (Content n)
      at l e left (Begins text f) = New (StartsContent n x.begun.due text f)
      at l e left (Went old f same less) =
          let g = grown x.life xs (path_events h n) in
          let came : IsDelivery es k = subst (λ (d : DeliverDue). IsDelivery es d.next.number) same (taken delivers h n x.life old p.1 l f) in
          let more : x.begun.gone < length (frames_by k es) =
          subst (λ (o : List (List ℕ)). x.begun.gone < length o) (ap frames_in (stays_all g.on es k came).content)
          (subst (λ (ds : List DeliveryEvent). x.begun.gone < length (frames_by k ds)) g.is left) in
          Old (record {
            life = x.life;
            lives = l;
            goes_on = events_open x.life xs (path_events h n) e;
            begun = old;
            is = f;
            left = subst (λ (d : DeliverDue). old.gone < length (frames_by d.next.number es)) (sym same) (omega (arith, less, more));
          })

      by : (o : Bool) → (if o then Some ((peers h).opened + 1) else path_life h n) ≡ Some x.life
          → is_closed (deliveries_of x.life (if o then [] else xs ++ path_events h n)) ≡ false → (if o then None else begun_at n s (begun_in n h)) ≡ Some x.begun
          → x.begun.gone < length (frames_by k (deliveries_of x.life (if o then [] else xs ++ path_events h n))) → Comes s h (Content n)
      by true l e f left = absurd cc
      by false l e f left = at l e left (from n s (begun_in n h) x.begun f)

  returned : (h : List Step) (n number life : ℕ) → ArePicks h → path_life h n ≡ Some life
      → Returned (publishes_of life (path_events h n)) number (publishes_in n h) (back_in n number h) (returned_in n number h)
  returned h n number life p l = lives_in (path_life h n) life (path_events h n) number _ _ _ l (backs publishes returns texts n number h p)

  back_comes : (s : Step) (h : List Step) (n number : ℕ) → ArePicks (s ∷ h) → IsCalm (s ∷ h) → IsReturned (s ∷ h) n number → Comes s h (Back n number)
  back_comes s h n number p c x = by (opens_channel n h s) x.lives x.begun x.left
    where
      left_before : path_life h n ≡ Some x.life → 1 ≤ returned_in n number h → (o : Option (List (List ℕ))) (b : Bool) → (number == publishes_in n h + 1) ≡ b
          → returned_in n number h < length (back_by o b (back_in n number h)) → returned_in n number h < length (back_in n number h)
      left_before l e None b f left = left
      left_before l e (Some back) false f left = left
      left_before l e (Some back) true f left =
          let same : number ≡ publishes_in n h + 1 = grind (arith, nat_tests, f) in
          let none : returned_in n number h ≡ 0 = (returned h n number x.life p.1 l).none (omega (arith, same)) in absurd (omega (arith, none, e))

      at : path_life h n ≡ Some x.life → 1 ≤ returned_by n number s (returned_in n number h)
          → returned_by n number s (returned_in n number h) < length (back_by (back_taken n h s) (number == publishes_in n h + 1) (back_in n number h))
          → BackFrom n number s (returned_in n number h) (returned_by n number s (returned_in n number h)) → Comes s h (Back n number)
      at l e left (Sends r text is f) = New (subst (λ (i : ℕ). Starts s (Back n i)) is (StartsBack n r text f))
      at l e left (Same f) =
          let begun : 1 ≤ returned_in n number h = subst (λ (i : ℕ). 1 ≤ i) f e in
          Old (
            calm_before s h p c,
            record {
              life = x.life;
              lives = l;
              begun = begun;
              left = left_before l begun (back_taken n h s) (number == publishes_in n h + 1) refl
                  (subst (λ (i : ℕ). i < length (back_by (back_taken n h s) (number == publishes_in n h + 1) (back_in n number h))) f left);
            },
          )

      by : (o : Bool) → (if o then Some ((peers h).opened + 1) else path_life h n) ≡ Some x.life
          → 1 ≤ (if o then 0 else returned_by n number s (returned_in n number h))
          → (if o then 0 else returned_by n number s (returned_in n number h))
          < length (if o then [] else back_by (back_taken n h s) (number == publishes_in n h + 1) (back_in n number h)) → Comes s h (Back n number)
      by true l e left = absurd (omega (arith, e))
      by false l e left = at l e left (back_from n number s (returned_in n number h))

  comes : (s : Step) (h : List Step) (t : Token) → ArePicks (s ∷ h) → IsIn (s ∷ h) t → Comes s h t
  comes s h (Content n) p x = content_comes s h n p x
  comes s h (Back n number) p (c, x) = back_comes s h n number p c x

  -- ---- what is due is what is begun

  back_below : (h : List Step) (n number : ℕ) → ArePicks h → 1 ≤ returned_in n number h → n ≤ CHANNEL_MAX
  back_below [] n number p e = absurd (omega (arith, e))
  back_below (s ∷ h) n number p e = by (opens_channel n h s) e (back_below h n number p.1)
    where
      at : BackFrom n number s (returned_in n number h) (returned_by n number s (returned_in n number h)) → 1 ≤ returned_by n number s (returned_in n number h)
          → (1 ≤ returned_in n number h → n ≤ CHANNEL_MAX) → n ≤ CHANNEL_MAX
      at (Sends r text is f) g old =
          return_below h n r p.1 (goes_as (IsNext (before h)) (before h) (reply.OnChannel n (to_client.Return r)) is_next (subst (MayStep h) f p.0).1)
      at (Same f) g old = old (subst (λ (i : ℕ). 1 ≤ i) f g)

      by : (o : Bool) → 1 ≤ (if o then 0 else returned_by n number s (returned_in n number h)) → (1 ≤ returned_in n number h → n ≤ CHANNEL_MAX) → n ≤ CHANNEL_MAX
      by true g old = absurd (omega (arith, g))
      by false g old = at (back_from n number s (returned_in n number h)) g old

  next_is : (h : List Step) (n life : ℕ) → ArePicks h → n ≤ CHANNEL_MAX → path_life h n ≡ Some life
      → next_return (path_at (before h).paths n) ≡ return_by (publishes_of life (path_events h n))
  next_is h n life p least l =
      ap next_return (path_of h n life p least l) ∙ ap (λ (x : PublishState). next_return_of x.list) (publishes life (path_events h n))
      ∙ returns life (publishes_of life (path_events h n))

  -- a return that is begun is due
  back_due : (h : List Step) (n number : ℕ) → ArePicks h → IsReturned h n number → IsLater (next_return (path_at (before h).paths n))
  back_due h n number p x =
      let r = is_later (publishes_of x.life (path_events h n)) number (on_is _ number _ _ _ (returned h n number x.life p x.lives) x.begun x.left) in
      record { due = r.due; is = next_is h n x.life p (back_below h n number p x.begun) x.lives ∙ r.is; later = r.later }

  no_frame_left : (h : List Step) (n number : ℕ) → ArePicks h → contents (before h) ≡ []
      → (n ≤ CHANNEL_MAX → may_go_on (may_confirm_all (before h)) (life_at (before h).lives n) ≡ true) → IsReturned h n number → ⊥
  no_frame_left h n number p none goes x =
      let r = back_due h n number p x in
      let is : contents_on (may_confirm_all (before h)) (before h).paths n (life_at (before h).lives n) ≡ [] =
      row_none (contents_on (may_confirm_all (before h)) (before h).paths) n (before h).lives (has_life h n p (back_below h n number p x.begun)) none in
      let one : reply.OnChannel n (to_client.Return r.due) ∷ [] ≡ [] =
      sym (ap (λ (b : Bool). content_on b n (next_return (path_at (before h).paths n))) (goes (back_below h n number p x.begun))
      ∙ ap (content_on true n) r.is ∙ ap (λ (b : Bool). when (not b) (reply.OnChannel n (to_client.Return r.due))) r.later) ∙ is in cc

  -- and one that is due, but for its first frame, is begun
  due_back : (h : List Step) (n : ℕ) (r : NextReturn) → ArePicks h → next_return (path_at (before h).paths n) ≡ Some r → r.first ≡ false → IsReturned h n r.publish
  due_back h n r p e later = by (slot_at (before h).paths n) refl e
    where
      lived_by : (s : PathState) → IsLived h n s → IsReturned h n r.publish
      lived_by s l =
          let t = returned h n r.publish l.life p l.lives in
          let f : Fate = fate_of r.publish (publishes_of l.life (path_events h n)) in
          let on : is_returning f ≡ true = later_on (publishes_of l.life (path_events h n)) r (sym (next_is h n l.life p l.below l.lives) ∙ e) later in
          let begun : 0 < f.returned = less_is 0 f.returned (and_right (is_to_return f) _ on) in
          let left : f.returned < length f.back = less_is f.returned (length f.back) (and_right f.returns _ (and_left (is_to_return f) _ on)) in
          record {
            life = l.life;
            lives = l.lives;
            begun = subst (λ (i : ℕ). 1 ≤ i) t.gone_is (omega (arith, begun));
            left = subst (λ (i : ℕ). i < length (back_in n r.publish h)) t.gone_is (subst (λ (xs : List (List ℕ)). f.returned < length xs) t.back_is left);
          }

      by : (o : Option PathState) → slot_at (before h).paths n ≡ o → next_return (or_no_path o) ≡ Some r → IsReturned h n r.publish
      by None g f = absurd cc
      by (Some s) g f = lived_by s (lived h n s p g)

  -- so of a content
  due_frame : (h : List Step) (n : ℕ) (c : ContentDue) → ArePicks h → next_content (path_at (before h).paths n) ≡ Some c → IsBegun h n
  due_frame h n c p e = by (slot_at (before h).paths n) refl e
    where
      lived_by : (s : PathState) → IsLived h n s → IsBegun h n
      lived_by s l = at (is_closed es) refl
        where
          es : List DeliveryEvent
          es = deliveries_of l.life (path_events h n)

          begun : is_closed es ≡ false → (o : Option Begun) → begun_in n h ≡ o → content_by o es ≡ Some c → IsBegun h n
          begun f None g i = absurd cc
          begun f (Some b) g i = left (nat_lt b.gone (length (frames_by b.due.next.number es))) refl i
            where
              left : (x : Bool) → nat_lt b.gone (length (frames_by b.due.next.number es)) ≡ x
                  → (if x then Some (record { tag = b.due.tag; last = b.gone + 1 == length (frames_by b.due.next.number es) }) else None) ≡ Some c → IsBegun h n
              left true j k = record { life = l.life; lives = l.lives; goes_on = f; begun = b; is = g; left = less_is b.gone _ j }
              left false j k = absurd cc

          at : (x : Bool) → is_closed es ≡ x → IsBegun h n
          at true f = absurd (let none : None ≡ Some c = sym (ends h n l.life p l.below l.lives f) ∙ e in cc)
          at false f = begun f (begun_in n h) refl (sym (frames h n l.life p l.below l.lives f) ∙ e)

      by : (o : Option PathState) → slot_at (before h).paths n ≡ o → next_content (or_no_path o) ≡ Some c → IsBegun h n
      by None g f = absurd cc
      by (Some s) g f = lived_by s (lived h n s p g)

  -- ---- what goes

  calm_of : (h : List Step) (t : Token) → ArePicks h → IsIn h t → IsCalm h
  calm_of h (Content n) p x = is_calm h n p (calm_in h n x.life p (below h n x.begun p x.is) x.lives x.goes_on)
  calm_of h (Back n number) p (c, x) = c

  goes : (h : List Step) (u : Reply) → ArePicks h → pick (before h) Client ≡ Some (ToClient u) → Alone h → (t : Token) → IsIn h t → GoesAs u t
  goes h u p e alone t x = by (has cs)
    where
      w : State
      w = before h

      picked : first (client_rows w) ≡ Some u
      picked = first_goes (client_rows w) u e

      cs : List Reply
      cs = if_so (may_return w) (contents w)

      ws : List Reply
      ws = if_so (may_answer w) (writings w)

      calm : IsCalm h
      calm = calm_of h t p x

      -- a frame of a return
      back : (v : Reply) → first cs ≡ Some v → GoesAs u t
      back v f =
          let r = is_first (IsBackOn h) (contents w) v (backs_first h) (in_if (may_return w) (contents w) v f) in
          let same : v ≡ u = same_first (first (client_rows w)) v u (first_some (cs ++ (ws ++ _)) _ v (first_some cs _ v f)) picked in
          let is = alone (Back r.channel r.due.publish) t (calm, due_back h r.channel r.due p r.next r.later) x in
          subst (GoesAs u) is (record { due = r.due; is = sym same ∙ r.is; same = refl })

      frame : cs ≡ [] → (v : Reply) → first ws ≡ Some v → GoesAs u t
      frame none v f =
          let c = is_first (IsFrameOn h) (writings w) v (frames_first h) (in_if (may_answer w) (writings w) v f) in
          let same : v ≡ u = same_first (first (client_rows w)) v u (second cs ws _ _ v none f) picked in
          let is = alone (Content c.channel) t (due_frame h c.channel c.due p c.next) x in
          subst (GoesAs u) is (record { due = c.due; is = sym same ∙ c.is })

      no_backs : cs ≡ [] → contents w ≡ []
      no_backs none = sym (ap (λ (b : Bool). if_so b (contents w)) (may_back h p calm)) ∙ none

      no_frames : ws ≡ [] → writings w ≡ []
      no_frames none = sym (ap (λ (b : Bool). if_so b (writings w)) (may_write h p calm)) ∙ none

      -- one is due
      back_there : (n number : ℕ) → IsReturned h n number → contents w ≡ [] → ⊥
      back_there n number y none = no_frame_left h n number p none (λ least. goes_on_now h n p calm) y

      frame_there : (n : ℕ) → IsBegun h n → writings w ≡ [] → ⊥
      frame_there n y none =
          let c = frame_due frames below h n p y in
          let least : n ≤ CHANNEL_MAX = below h n y.begun p y.is in
          let is : writings_on w.paths n (life_at w.lives n) ≡ [] = row_none (writings_on w.paths) n w.lives (has_life h n p least) none in
          let on : (life_at w.lives n).over ≡ false = life_goes_on h n p least (ap is_some y.lives) (calm_in h n y.life p least y.lives y.goes_on) in
          let one : reply.OnChannel n (to_client.Content c.due) ∷ [] ≡ [] =
          sym (ap (λ (b : Bool). if b then [] else writing_on n (next_content (path_at w.paths n))) on ∙ ap (writing_on n) c.is) ∙ is in cc

      there : (v : Token) → IsIn h v → contents w ≡ [] → writings w ≡ [] → ⊥
      there (Content n) y none rest = frame_there n y rest
      there (Back n number) (c, y) none rest = back_there n number y none

      behind : cs ≡ [] → Has ws → GoesAs u t
      behind none (HasFirst v f) = frame none v f
      behind none (HasNone f) = absurd (there t x (no_backs none) (no_frames f))

      by : Has cs → GoesAs u t
      by (HasFirst v f) = back v f
      by (HasNone f) = behind f (has ws)

  -- at most one is begun
  alone : (h : List Step) → ArePicks h → Alone h
  alone [] p t v x y = absurd (none_in t x)
  alone (s ∷ h) p t v x y = by (alone h p.1) (comes s h t p x) (comes s h v p y)
    where
      by : Alone h → Comes s h t → Comes s h v → t ≡ v
      by one (New a) (New b) = both_start s t v a b
      by one (New a) (Old b) = starts_behind h s t v a p.0 (λ u e. goes h u p.1 e one v b)
      by one (Old a) (New b) = sym (starts_behind h s v t b p.0 (λ u e. goes h u p.1 e one t a))
      by one (Old a) (Old b) = one t v a b

  goes_on : (h : List Step) (u : Reply) → ArePicks h → pick (before h) Client ≡ Some (ToClient u) → GoesOn h u
  goes_on h u p e = record {
    content = λ n x. goes h u p e (alone h p) (Content n) x;
    back = λ n number a b x. goes h u p e (alone h p) (Back n number) (record { open_still = a; memory = b }, x);
  }

  together : (h : List Step) → ArePicks h → StandTogether h
  together [] p = tt
  together (Gave (ToClient u) text ∷ h) p = (goes_on h u p.1 p.0.1, together h p.1)
  together (s ∷ h) p = together h p.1

-- where no row has a frame of a return, none is begun
pub none_returned : ContentIs → ClosedEnds → BegunBelow → DeliversHold → PublishesAre → ReturnsAre → BacksAre → (h : List Step) → ArePicks h → contents (before h) ≡ []
    → (n number : ℕ) → (n ≤ CHANNEL_MAX → may_go_on (may_confirm_all (before h)) (life_at (before h).lives n) ≡ true) → IsReturned h n number → ⊥
none_returned frames ends below delivers publishes returns texts h p none n number goes x =
    no_frame_left frames ends below delivers publishes returns texts h n number p none goes x

pub stand_together : ContentIs → ClosedEnds → BegunBelow → DeliversHold → PublishesAre → ReturnsAre → BacksAre → (h : List Step) → ArePicks h → StandTogether h
stand_together frames ends below delivers publishes returns texts h p = together frames ends below delivers publishes returns texts h p
