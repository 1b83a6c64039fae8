-- The frames of returns that go are those of the messages that were taken up: the fates of the life's publishes say what the steps say.
use Rattle.std.proofs.Common.{◌≡◌, ℕ, zero, suc, ◌+◌, ◌==◌, ◌<◌, ◌≤◌, nat_lt, not, ◌&&◌, Bool, true}
use Rattle.std.proofs.Common.{false, if◌then◌else◌, List, [], ◌∷◌, ◌++◌, drop, length, Option, None}
use Rattle.std.proofs.Common.{Some, option_map, refl, sym, ap, ◌∙◌, subst, arith}
use Rattle.std.specs.Option.{option_or}
use Rattle.std.proofs.lemmas.Bool.Decides.{nat_tests}
use Rattle.machine_091.specs.declared.unit.Unit91.{Unit91}
use Rattle.machine_091.specs.declared.unit.Want91.{Want91}
use Rattle.machine_091.specs.declared.unit.Want91.TheVariants as want
use Rattle.methods_091.specs.declared.method.Method91.{Method91}
use Rattle.methods_091.specs.declared.method.Method91.TheVariants as method
use Rattle.open_items.specs.Numbers.{first, least}
use Rattle.property_map.specs.Spelling.{image_text}
use Rattle.publish_path.specs.Journal.{Fate, IsTaken, confirms_of, fate_of, is_to_return, new_fate, numbers_of}
use Rattle.publish_path.specs.Laws.{is_returning, is_to_begin, return_at, return_by, return_frame_by}
use Rattle.publish_path.specs.Offers.{next_return_of, return_frame_of}
use Rattle.publish_path.specs.Publishes.{ConfirmSent, LinesTold, LinkGone, OutcomeCame, PublishEvent, PublishState, ReturnSent, TakenUp}
use Rattle.publish_path.specs.Publishes.{next_number}
use Rattle.publish_path.specs.Publishes.{after_events as publishes_after, open_after}
use Rattle.publish_path.specs.declared.publish.NextReturn.{NextReturn}
use Rattle.session_path.specs.Due.{next_return, return_frame}
use Rattle.session_path.specs.Events as event
use Rattle.session_path.specs.Events.{PathEvent, after_events, losses, publishes_of}
use Rattle.session_path.specs.Links.{named}
use Rattle.session_path.specs.Path.{PathState, sender_in}
use Rattle.session_path.specs.declared.path.PathLink.{PathLink}
use Rattle.gate_model.specs.declared.channel.ChannelUnit.{ChannelUnit}
use Rattle.gate_model.specs.declared.channel.ChannelUnit.TheVariants as to_client
use Rattle.gate_model.specs.declared.channel.SessionUnit.TheVariants as unit
use Rattle.gate_model.specs.declared.outgoing.Outgoing.TheVariants.{ToClient, ToUp}
use Rattle.gate_model.specs.declared.outgoing.UpUnit.{UpUnit}
use Rattle.gate_model.specs.declared.outgoing.UpUnit.TheVariants as up
use Rattle.gate_model.specs.declared.reply.Reply.{Reply}
use Rattle.gate_model.specs.declared.reply.Reply.TheVariants as reply
use Rattle.gate_model.specs.declared.setup.Route.{Route}
use Rattle.gate_model.specs.Due.{carries_back, or_no_bytes}
use Rattle.gate_model.specs.Folds.{connection, paths_in, peers, ran_out_in, routes_in}
use Rattle.gate_model.specs.Once.{is_channel_open, is_method_on}
use Rattle.gate_model.specs.Paths.{or_no_path, path_at, slot_at}
use Rattle.gate_model.specs.Picks.{ArePicks}
use Rattle.gate_model.specs.Publishing.{MayGoBack, MayReturn, Returns, back_by, back_in, back_wanted, method_events, one_more, path_events}
use Rattle.gate_model.specs.Publishing.{refusal_events, step_events, path_life, publishes_in, reply_events, returned_by}
use Rattle.gate_model.specs.Publishing.{returned_in, text_wanted, up_events, want_events}
use Rattle.gate_model.specs.Requests.{address_of, message_of}
use Rattle.gate_model.specs.Returns.{back_of}
use Rattle.gate_model.specs.State.{is_later, Came, Gave, LinesTold, Step, TakenUp, before, conn_step, want_in}
use Rattle.gate_model.proofs.Basics.{and_left, and_right}
use Rattle.gate_model.proofs.Fates.{IsLived, IsNext, PublishesAre, is_next, least_passes, lived}
use Rattle.gate_model.proofs.Firsts.{OfChannel, goes_as}
use Rattle.gate_model.proofs.Wholes.{ArePlain, is_plain, is_return, method_plain, refusal_plain, step_plain, told_plain, up_plain}

-- ---- the laws of the publishes

abbrev pub ReturnsAre : Type 0
ReturnsAre = (life : ℕ) (h : List PublishEvent) → next_return_of (open_after life h) ≡ return_by h

abbrev pub BacksAre : Type 0
BacksAre = (life n : ℕ) (h : List PublishEvent) → IsTaken h n → return_frame_of n (open_after life h) ≡ return_frame_by (fate_of n h)

-- ---- what is due

-- its publish was taken up, and frames of its return are to go
record IsToReturn (h : List PublishEvent) (n : ℕ) : Type 0 where
  taken : IsTaken h n
  goes : is_to_return (fate_of n h) ≡ true

due_goes : (h : List PublishEvent) (t : Fate → Bool) (k : ℕ) → ((f : Fate) → t f ≡ true → is_to_return f ≡ true)
    → least (λ n. t (fate_of n h)) (numbers_of h) ≡ Some k → IsToReturn h k
due_goes h t k is e =
    let l = least_passes (λ n. t (fate_of n h)) (numbers_of h) k e in
    record { taken = (l.0, l.1); goes = is (fate_of k h) l.2 }

to_return : (h : List PublishEvent) (r : NextReturn) → return_by h ≡ Some r → IsToReturn h r.publish
to_return h r e =
    by (least (λ n. is_returning (fate_of n h)) (numbers_of h)) (least (λ n. is_to_begin (fate_of n h)) (numbers_of h))
    (λ k. due_goes h is_returning k (λ f. and_left (is_to_return f) _)) (λ k. due_goes h is_to_begin k (λ f. and_left (is_to_return f) _)) e
  where
    by : (a b : Option ℕ) → ((k : ℕ) → a ≡ Some k → IsToReturn h k) → ((k : ℕ) → b ≡ Some k → IsToReturn h k)
        → option_or (option_map (return_at false) a) (option_map (return_at true) b) ≡ Some r → IsToReturn h r.publish
    by (Some k) b x y g = let same : return_at false k ≡ r = cc in subst (λ (z : NextReturn). IsToReturn h z.publish) same (x k refl)
    by None (Some k) x y g = let same : return_at true k ≡ r = cc in subst (λ (z : NextReturn). IsToReturn h z.publish) same (y k refl)
    by None None x y g = absurd cc

-- there is a frame behind those that went
some_left : (k : ℕ) (xs : List (List ℕ)) → nat_lt k (length xs) ≡ true → first (drop k xs) ≡ Some (or_no_bytes (first (drop k xs)))
some_left k [] e = absurd (let less : k < 0 = grind (arith, nat_tests, e) in omega (arith, less))
some_left zero (x ∷ xs) e = refl
some_left (suc k) (x ∷ xs) e =
    some_left k xs (let less : suc k < suc (length xs) = grind (arith, nat_tests, e) in let so : k < length xs = omega (arith, less) in grind (arith, nat_tests, so))

-- a frame of a return goes on a channel, by the fates
record IsBack (h : List Step) (n : ℕ) (r : NextReturn) (text : List ℕ) : Type 0 where
  life : ℕ
  lives : path_life h n ≡ Some life
  due : return_by (publishes_of life (path_events h n)) ≡ Some r
  frame : first (drop (fate_of r.publish (publishes_of life (path_events h n))).returned (fate_of r.publish (publishes_of life (path_events h n))).back) ≡ Some text

may_return : PublishesAre → ReturnsAre → BacksAre → (h : List Step) (n : ℕ) (r : NextReturn) (text : List ℕ) → ArePicks h
    → next_return (path_at (before h).paths n) ≡ Some r → text ≡ or_no_bytes (return_frame r.publish (path_at (before h).paths n)) → IsBack h n r text
may_return publishes returns backs h n r text p e t = by (slot_at (before h).paths n) refl e t
  where
    lived_by : (s : PathState) → IsLived h n s → next_return s ≡ Some r → text ≡ or_no_bytes (return_frame r.publish s) → IsBack h n r text
    lived_by s l f g =
        let events : List PublishEvent = publishes_of l.life (path_events h n) in
        let is : s.publishes ≡ publishes_after l.life events = ap (λ (x : PathState). x.publishes) l.is ∙ publishes l.life (path_events h n) in
        let due : return_by events ≡ Some r = sym (returns l.life events) ∙ ap (λ (x : PublishState). next_return_of x.list) (sym is) ∙ f in
        let d : IsToReturn events r.publish = to_return events r due in
        let own : return_frame r.publish s ≡ return_frame_by (fate_of r.publish events) =
        ap (λ (x : PublishState). return_frame_of r.publish x.list) is ∙ backs l.life r.publish events d.taken in
        record { life = l.life; lives = l.lives; due = due; frame = framed (fate_of r.publish events) d.goes (g ∙ ap or_no_bytes own) }
      where
        framed : (x : Fate) → is_to_return x ≡ true → text ≡ or_no_bytes (return_frame_by x) → first (drop x.returned x.back) ≡ Some text
        framed x goes same = going (is_to_return x) goes same
          where
            going : (b : Bool) → b ≡ true → text ≡ or_no_bytes (if b then first (drop x.returned x.back) else None) → first (drop x.returned x.back) ≡ Some text
            going true e f = some_left x.returned x.back (and_right x.returns _ goes) ∙ ap Some (sym f)
            going false e f = absurd cc

    by : (o : Option PathState) → slot_at (before h).paths n ≡ o → next_return (or_no_path o) ≡ Some r → text ≡ or_no_bytes (return_frame r.publish (or_no_path o)) → IsBack h n r text
    by None g f t = absurd cc
    by (Some s) g f t = lived_by s (lived h n s p g) f t

-- ---- the fate of one publish

-- so many were taken up; the frames of its return are these, and so many went
pub record Returned (h : List PublishEvent) (number count : ℕ) (back : List (List ℕ)) (gone : ℕ) : Type 0 where
  pub count_is : numbers_of h ≡ count
  pub back_is : (fate_of number h).back ≡ back
  pub gone_is : (fate_of number h).returned ≡ gone
  pub none : count < number → gone ≡ 0

quiet : {h : List PublishEvent} {number count gone : ℕ} {back : List (List ℕ)} (x : PublishEvent)
    → numbers_of (x ∷ h) ≡ numbers_of h → (fate_of number (x ∷ h)).back ≡ (fate_of number h).back → (fate_of number (x ∷ h)).returned ≡ (fate_of number h).returned
    → Returned h number count back gone → Returned (x ∷ h) number count back gone
quiet x a b c t = record { count_is = a ∙ t.count_is; back_is = b ∙ t.back_is; gone_is = c ∙ t.gone_is; none = t.none }

loses : {h : List PublishEvent} {number count gone : ℕ} {back : List (List ℕ)} (b : Bool) (o : Option PathLink)
    → Returned h number count back gone → Returned (losses b o ++ h) number count back gone
loses b None t = t
loses b (Some l) t = quiet (LinkGone (Some l.link) b) refl refl refl t

plain : (life : ℕ) (es : List PathEvent) {number count gone : ℕ} {back : List (List ℕ)} (x : PathEvent) → is_plain x ≡ true
    → Returned (publishes_of life es) number count back gone → Returned (publishes_of life (x ∷ es)) number count back gone
plain life es (event.Published address payload back) e t = absurd cc
plain life es (event.TransferSent frame count) e t = absurd cc
plain life es (event.ReturnWent number) e t = absurd cc
plain life es (event.DetachCame peer not_found) e t = loses not_found (sender_in (named peer (after_events life es).links)) t
plain life es (event.DispositionCame first last outcome settled) e t = quiet (OutcomeCame first _ outcome) refl refl refl t
plain life es (event.ConfirmWent confirm) e t = quiet (ConfirmSent confirm) refl refl refl t
plain life es event.LinesWent e t = quiet LinesTold refl refl refl t
plain life es event.SessionLost e t = quiet (LinkGone None false) refl refl refl t
plain life es event.SessionEnded e t = quiet (LinkGone None false) refl refl refl t
plain life es event.UpLost e t = quiet (LinkGone None false) refl refl refl t
plain life es x e t = t

takes : {h : List PublishEvent} {number count gone : ℕ} {old : List (List ℕ)} (k : ℕ) (confirm : Bool) (text : List ℕ) (back : List (List ℕ)) → Returned h number count old gone
    → Returned (TakenUp k confirm text back ∷ h) number (count + 1) (if number == count + 1 then back else old) gone
takes {h} {number} {count} {gone} {old} k confirm text back t = record {
  count_is = ap (λ (m : ℕ). m + 1) t.count_is;
  back_is = ap (λ (m : ℕ). (fated (number == m + 1)).back) t.count_is ∙ backed (number == count + 1);
  gone_is = ap (λ (m : ℕ). (fated (number == m + 1)).returned) t.count_is ∙ sent (number == count + 1) refl;
  none = λ e. t.none (omega (arith, e));
}
  where
    fated : Bool → Fate
    fated b = if b then new_fate k (next_number confirm (confirms_of h)) text back else fate_of number h

    backed : (b : Bool) → (fated b).back ≡ (if b then back else old)
    backed true = refl
    backed false = t.back_is

    sent : (b : Bool) → (number == count + 1) ≡ b → (fated b).returned ≡ gone
    sent true e = sym (t.none (let same : number ≡ count + 1 = grind (arith, nat_tests, e) in omega (arith, same)))
    sent false e = t.gone_is

-- a frame of it goes, where one is due
sends : (h : List PublishEvent) (number count gone k : ℕ) (back : List (List ℕ)) → IsToReturn h k → Returned h number count back gone
    → Returned (ReturnSent k ∷ h) number count back (if number == k then gone + 1 else gone)
sends h number count gone k back d t = record {
  count_is = t.count_is;
  back_is = t.back_is;
  gone_is = by (number == k) refl;
  none = λ e. none_by e (number == k) refl;
}
  where
    by : (b : Bool) → (number == k) ≡ b → (if b && is_to_return (fate_of number h) then (fate_of number h).returned + 1 else (fate_of number h).returned) ≡ (if b then gone + 1 else gone)
    by true e =
        let same : number ≡ k = grind (arith, nat_tests, e) in
        ap (λ (b : Bool). if b then (fate_of number h).returned + 1 else (fate_of number h).returned) (subst (λ (i : ℕ). is_to_return (fate_of i h) ≡ true) (sym same) d.goes)
        ∙ ap (λ (i : ℕ). i + 1) t.gone_is
    by false e = t.gone_is

    none_by : count < number → (b : Bool) → (number == k) ≡ b → (if b then gone + 1 else gone) ≡ 0
    none_by e true g =
        let is : number ≡ k = grind (arith, nat_tests, g) in
        let most : k ≤ numbers_of h = d.taken.1 in
        let many : numbers_of h ≡ count = t.count_is in
        absurd (omega (arith, e, is, most, many))
    none_by e false g = t.none e

-- ---- the life in progress

abbrev pub Backs : Option ℕ → List PathEvent → ℕ → ℕ → List (List ℕ) → ℕ → Type 0
Backs None es number count back gone = Unit {0}
Backs (Some life) es number count back gone = Returned (publishes_of life es) number count back gone

plain_backs : (o : Option ℕ) (xs es : List PathEvent) (number count gone : ℕ) (back : List (List ℕ)) → ArePlain xs → Backs o es number count back gone
    → Backs o (xs ++ es) number count back gone
plain_backs None xs es number count gone back p t = tt
plain_backs (Some life) [] es number count gone back p t = t
plain_backs (Some life) (x ∷ xs) es number count gone back p t = plain life (xs ++ es) x p.0 (plain_backs (Some life) xs es number count gone back p.1 t)

taken_backs : (o : Option ℕ) (es : List PathEvent) (number count gone : ℕ) (old : List (List ℕ)) (address text : List ℕ) (back : List (List ℕ)) → Backs o es number count old gone
    → Backs o (event.Published address text back ∷ es) number (count + 1) (if number == count + 1 then back else old) gone
taken_backs None es number count gone old address text back t = tt
taken_backs (Some life) es number count gone old address text back t = takes _ _ text back t

fresh : (number : ℕ) → Returned [] number 0 [] 0
fresh number = record { count_is = refl; back_is = refl; gone_is = refl; none = λ e. refl }

abbrev BacksBy : Bool → ℕ → List PathEvent → Option (List ℕ) → Option (List (List ℕ)) → Option ℕ → List PathEvent → ℕ → ℕ → List (List ℕ) → ℕ → Type 0
BacksBy opens life xs text new o es number count back gone =
    Backs (if opens then Some life else o) (if opens then [] else xs ++ es) number (if opens then 0 else one_more text count)
    (if opens then [] else back_by new (number == count + 1) back) (if opens then 0 else gone)

-- a method that opens no channel
calls : (m : Method91) (o : Option ℕ) (es : List PathEvent) (number count gone : ℕ) (back : List (List ℕ)) → Backs o es number count back gone
    → Backs o (method_events m ++ es) number count back gone
calls m o es number count gone back t = plain_backs o (method_events m) es number count gone back (method_plain m) t

method_backs : (b : Bool) (m : Method91) (life : ℕ) (o : Option ℕ) (es : List PathEvent) (number count gone : ℕ) (back : List (List ℕ)) → Backs o es number count back gone
    → BacksBy (b && is_channel_open m) life (if b then method_events m else []) None None o es number count back gone
method_backs false m life o es number count gone back t = t
method_backs true method.ChannelOpen life o es number count gone back t = fresh number
method_backs true m life o es number count gone back t = calls m o es number count gone back t

want_backs : (rs : List Route) (limit n life : ℕ) (x : Want91) (o : Option ℕ) (es : List PathEvent) (number count gone : ℕ) (back : List (List ℕ)) → Backs o es number count back gone
    → BacksBy (is_method_on is_channel_open n x) life (want_events rs limit n x) (text_wanted n x) (back_wanted limit n x) o es number count back gone
want_backs rs limit n life (want.Method k m) o es number count gone back t = method_backs (k == n) m life o es number count gone back t
want_backs rs limit n life (want.Publish k m c) o es number count gone back t = by (k == n)
  where
    text : List ℕ
    text = image_text (message_of m c)

    new : List (List ℕ)
    new = back_of limit k m (message_of m c)

    by : (b : Bool) → BacksBy false life (if b then event.Published (address_of rs (message_of m c)) text new ∷ [] else []) (if b then Some text else None)
        (if b then Some new else None) o es number count back gone
    by true = taken_backs o es number count gone back (address_of rs (message_of m c)) text new t
    by false = t
want_backs rs limit n life want.Close o es number count gone back t = plain_backs o (event.LifeClosed ∷ []) es number count gone back (refl, tt) t
want_backs rs limit n life (want.Refuse r) o es number count gone back t = plain_backs o (refusal_events n r) es number count gone back (refusal_plain n r) t
want_backs rs limit n life x o es number count gone back t = t

-- ---- steps

abbrev pub BacksIn : List Step → ℕ → ℕ → Type 0
BacksIn h n number = Backs (path_life h n) (path_events h n) number (publishes_in n h) (back_in n number h) (returned_in n number h)

came_backs : (h : List Step) (n number : ℕ) (u : Unit91) → BacksIn h n number → BacksIn (Came u ∷ h) n number
came_backs h n number u t = by (ran_out_in h)
  where
    x : Want91
    x = want_in (routes_in h) (paths_in h) (connection h) u

    limit : ℕ
    limit = (conn_step (routes_in h) (paths_in h) (connection h) u).limits.frame_max

    by : (b : Bool) → BacksBy (not b && is_method_on is_channel_open n x) ((peers h).opened + 1) (if b then [] else want_events (routes_in h) limit n x) (if b then None else text_wanted n x)
        (if b then None else back_wanted limit n x) (path_life h n) (path_events h n) number (publishes_in n h) (back_in n number h) (returned_in n number h)
    by true = t
    by false = want_backs (routes_in h) limit n ((peers h).opened + 1) x (path_life h n) (path_events h n) number _ _ _ t

quietly : (h : List Step) (n number : ℕ) (xs : List PathEvent) → ArePlain xs → BacksIn h n number
    → Backs (path_life h n) (xs ++ path_events h n) number (publishes_in n h) (back_in n number h) (returned_in n number h)
quietly h n number xs p t = plain_backs (path_life h n) xs (path_events h n) number _ _ _ p t

up_backs : (h : List Step) (n number : ℕ) (u : UpUnit) → BacksIn h n number
    → Backs (path_life h n) (up_events (is_later (connection h) u) n u ++ path_events h n) number (publishes_in n h) (back_in n number h) (returned_in n number h)
up_backs h n number (up.OnSession k (unit.Transfer t)) joins = by (path_life h n) (k == n) joins
  where
    by : (o : Option ℕ) (b : Bool) → Backs o (path_events h n) number (publishes_in n h) (back_in n number h) (returned_in n number h)
        → Backs o ((if b then event.TransferSent t.frame t.bytes ∷ [] else []) ++ path_events h n) number (publishes_in n h) (back_in n number h) (returned_in n number h)
    by None b x = tt
    by (Some life) true x = quiet _ refl refl refl x
    by (Some life) false x = x
up_backs h n number u joins = quietly h n number (up_events (is_later (connection h) u) n u) (up_plain n h u (λ k t e. cc)) joins

-- a unit to the client
AreDue : List Step → ChannelUnit → ℕ → List ℕ → Type 0
AreDue h (to_client.Return r) n text = IsBack h n r text
AreDue h x n text = Unit {0}

abbrev GoesBack : List Step → Reply → List ℕ → Type 0
GoesBack h (reply.OnChannel n u) text = AreDue h u n text
GoesBack h u text = Unit {0}

goes_back : PublishesAre → ReturnsAre → BacksAre → (h : List Step) (u : Reply) (text : List ℕ) → ArePicks h → OfChannel (IsNext (before h)) u → text ≡ carries_back (before h) u
    → GoesBack h u text
unfolding AreDue
goes_back publishes returns backs h (reply.OnChannel n (to_client.Ok x)) text p d e = tt
goes_back publishes returns backs h (reply.OnChannel n (to_client.Deliver x)) text p d e = tt
goes_back publishes returns backs h (reply.OnChannel n (to_client.Content c)) text p d e = tt
goes_back publishes returns backs h (reply.OnChannel n (to_client.Confirm c)) text p d e = tt
goes_back publishes returns backs h (reply.OnChannel n (to_client.Return r)) text p d e = may_return publishes returns backs h n r text p d e
goes_back publishes returns backs h u text p d e = tt

-- of this life
pub lives_in : (o : Option ℕ) (life : ℕ) (es : List PathEvent) (number count gone : ℕ) (back : List (List ℕ)) → o ≡ Some life → Backs o es number count back gone
    → Returned (publishes_of life es) number count back gone
lives_in o life es number count gone back e t = subst (λ (x : Option ℕ). Backs x es number count back gone) e t

told_backs : (h : List Step) (n number k : ℕ) (u : ChannelUnit) → is_return u ≡ false → BacksIn h n number
    → Backs (path_life h n) (reply_events n (reply.OnChannel k u) ++ path_events h n) number (publishes_in n h) (back_in n number h) (returned_in n number h)
told_backs h n number k u e t = quietly h n number (reply_events n (reply.OnChannel k u)) (told_plain n k u e) t

reply_backs : (h : List Step) (n number : ℕ) (u : Reply) (text : List ℕ) → GoesBack h u text → BacksIn h n number
    → Backs (path_life h n) (reply_events n u ++ path_events h n) number (publishes_in n h) (back_in n number h) (returned_by n number (Gave (ToClient u) text) (returned_in n number h))
unfolding AreDue
reply_backs h n number (reply.OnChannel k (to_client.Return r)) text m t = by (k == n) refl
  where
    by : (b : Bool) → (k == n) ≡ b
        → Backs (path_life h n) ((if b then event.ReturnWent r.publish ∷ [] else []) ++ path_events h n) number (publishes_in n h) (back_in n number h)
        (if b && number == r.publish then returned_in n number h + 1 else returned_in n number h)
    by true e =
        let same : k ≡ n = grind (arith, nat_tests, e) in
        let d : IsBack h n r text = subst (λ (i : ℕ). IsBack h i r text) same m in
        subst (λ (o : Option ℕ). Backs o (event.ReturnWent r.publish ∷ path_events h n) number (publishes_in n h) (back_in n number h)
        (if number == r.publish then returned_in n number h + 1 else returned_in n number h)) (sym d.lives)
        (sends (publishes_of d.life (path_events h n)) number _ _ r.publish _ (to_return _ r d.due)
        (lives_in (path_life h n) d.life (path_events h n) number _ _ _ d.lives t))
    by false e = t
reply_backs h n number (reply.OnChannel k u) text m t = told_backs h n number k u refl t
reply_backs h n number u text m t = t

module _ (publishes : PublishesAre) (returns : ReturnsAre) (frames : BacksAre) where
  went : (h : List Step) (u : Reply) (text : List ℕ) → ArePicks (Gave (ToClient u) text ∷ h) → GoesBack h u text
  went h u text p = goes_back publishes returns frames h u text p.1 (goes_as (IsNext (before h)) (before h) u is_next p.0.1) p.0.2

  pub backs : (n number : ℕ) (h : List Step) → ArePicks h → BacksIn h n number
  backs n number [] p = tt
  backs n number (Came u ∷ h) p = came_backs h n number u (backs n number h p.1)
  backs n number (Gave (ToClient u) text ∷ h) p = reply_backs h n number u text (went h u text p) (backs n number h p.1)
  backs n number (Gave (ToUp u) text ∷ h) p = up_backs h n number u (backs n number h p.1)
  backs n number (s ∷ h) p = quietly h n number (step_events n h s) (step_plain n h s refl) (backs n number h p.1)

  -- ---- the frames that go

  one_back : (h : List Step) (n : ℕ) (r : NextReturn) (text : List ℕ) → ArePicks h → IsBack h n r text → MayReturn h n r text
  one_back h n r text p d =
      let t : Returned (publishes_of d.life (path_events h n)) r.publish (publishes_in n h) (back_in n r.publish h) (returned_in n r.publish h) =
      lives_in (path_life h n) d.life (path_events h n) r.publish _ _ _ d.lives (backs n r.publish h p) in
      record {
        life = d.life;
        lives = d.lives;
        due = d.due;
        frame = ap (λ (k : ℕ). first (drop k (back_in n r.publish h))) (sym t.gone_is)
            ∙ ap (λ (xs : List (List ℕ)). first (drop (fate_of r.publish (publishes_of d.life (path_events h n))).returned xs)) (sym t.back_is) ∙ d.frame;
      }

  may_go_back : (h : List Step) (u : Reply) (text : List ℕ) → ArePicks h → GoesBack h u text → MayGoBack h u text
  unfolding AreDue
  may_go_back h (reply.OnChannel n (to_client.Return r)) text p d = one_back h n r text p d
  may_go_back h (reply.OnChannel n (to_client.Ok x)) text p d = tt
  may_go_back h (reply.OnChannel n (to_client.Deliver x)) text p d = tt
  may_go_back h (reply.OnChannel n (to_client.Content c)) text p d = tt
  may_go_back h (reply.OnChannel n (to_client.Confirm c)) text p d = tt
  may_go_back h u text p d = tt

  pub returns_are : (h : List Step) → ArePicks h → Returns h
  returns_are [] p = tt
  returns_are (Gave (ToClient u) text ∷ h) p = (may_go_back h u text p.1 (went h u text p), returns_are h p.1)
  returns_are (s ∷ h) p = returns_are h p.1
