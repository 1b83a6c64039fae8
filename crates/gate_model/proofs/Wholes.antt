-- The frames of a publish carry the text of the image of its message: the fates of the life's publishes say what the steps say.
use Rattle.std.proofs.Common.{◌≡◌, ℕ, ◌+◌, ◌==◌, ◌<◌, ◌≤◌, nat_lt, not, ◌&&◌, Bool, true, false}
use Rattle.std.proofs.Common.{if◌then◌else◌, List, [], ◌∷◌, ◌++◌, take, drop, length, Option, None}
use Rattle.std.proofs.Common.{Some, refl, sym, ap, ◌∙◌, subst, arith, take_all, take-append-drop}
use Rattle.std.proofs.lemmas.Bool.Decides.{nat_tests}
use Rattle.std.specs.List.{AllByRecursion}
use Rattle.gate_outside.specs.declared.ports.End.TheVariants.{Client}
use Rattle.machine_091.specs.declared.unit.Refusal.{Refusal}
use Rattle.machine_091.specs.declared.unit.Unit91.{Unit91}
use Rattle.machine_091.specs.declared.unit.Want91.{Want91}
use Rattle.machine_091.specs.declared.unit.Want91.TheVariants as want
use Rattle.methods_091.specs.declared.method.Method91.{Method91}
use Rattle.methods_091.specs.declared.method.Method91.TheVariants as method
use Rattle.property_map.specs.Spelling.{image_text}
use Rattle.publish_path.specs.Journal.{Fate, confirms_of, fate_of, new_fate, numbers_of, rest_by}
use Rattle.publish_path.specs.Laws.{AreParts, IsFrontOf, IsWhole}
use Rattle.publish_path.specs.Offers.{rest_of}
use Rattle.publish_path.specs.Publishes.{ConfirmSent, FrameSent, LinesTold, LinkGone, OutcomeCame}
use Rattle.publish_path.specs.Publishes.{PublishEvent, PublishState, ReturnSent, TakenUp, next_number}
use Rattle.session_path.specs.Events as event
use Rattle.session_path.specs.Events.{PathEvent, after_events, losses, publishes_of}
use Rattle.session_path.specs.Links.{named}
use Rattle.session_path.specs.declared.path.PathLink.{PathLink}
use Rattle.session_path.specs.Path.{sender_in}
use Rattle.gate_model.specs.declared.channel.ChannelUnit.{ChannelUnit}
use Rattle.gate_model.specs.declared.channel.ChannelUnit.TheVariants as to_client
use Rattle.gate_model.specs.declared.channel.SessionUnit.TheVariants as unit
use Rattle.gate_model.specs.declared.channel.TransferOut.{TransferOut}
use Rattle.gate_model.specs.declared.outgoing.Outgoing.TheVariants.{ToClient, ToUp}
use Rattle.gate_model.specs.declared.outgoing.UpUnit.{UpUnit}
use Rattle.gate_model.specs.declared.outgoing.UpUnit.TheVariants as up
use Rattle.gate_model.specs.declared.reply.Reply.{Reply}
use Rattle.gate_model.specs.declared.reply.Reply.TheVariants as reply
use Rattle.gate_model.specs.Folds.{connection, going_in, paths_in, peers, ran_out_in, routes_in}
use Rattle.gate_model.specs.Once.{is_channel_open, is_method_on}
use Rattle.gate_model.specs.Picks.{ArePicks}
use Rattle.gate_model.specs.Publishing.{ArePieces, EndWhole, MayCarry, MayFinish, MayTransfer, image_by, image_in, joined_in}
use Rattle.gate_model.specs.Publishing.{joined_on, left_of, method_events, one_more, path_events, path_life, publishes_in}
use Rattle.gate_model.specs.Publishing.{reply_events, step_events, text_wanted, refusal_events, told_event, up_events}
use Rattle.gate_model.specs.Publishing.{want_events, wrote_events}
use Rattle.gate_model.specs.Requests.{message_of, address_of}
use Rattle.gate_model.specs.Returns.{back_of}
use Rattle.gate_model.specs.State.{is_later, Came, Gave, LinesTold, Step, TakenUp, Whole, conn_step, want_in}
use Rattle.gate_model.proofs.Quiet.{OfQuiet, flat, is_request, method_on, named_all, quiet_step, refusal_on, up_on, whole_on}
use Rattle.gate_model.proofs.Fates.{FramesAre, IsToGo, PublishesAre, RestsAre, carry_is, to_go}
use Rattle.gate_model.specs.declared.setup.Route.{Route}

abbrev pub is_return : ChannelUnit → Bool
is_return (to_client.Return r) = true
is_return x = false

-- a unit of the client comes, or one goes
abbrev pub is_unit : Step → Bool
is_unit (Came u) = true
is_unit (Gave u text) = true
is_unit s = false

-- ---- events by which no publish is taken up and no frame goes

abbrev pub is_plain : PathEvent → Bool
is_plain (event.Published address payload back) = false
is_plain (event.TransferSent frame count) = false
is_plain (event.ReturnWent number) = false
is_plain x = true

abbrev pub IsPlain : PathEvent → Type 0
IsPlain x = is_plain x ≡ true

abbrev pub ArePlain : List PathEvent → Type 0
ArePlain xs = AllByRecursion IsPlain xs

quiet_plain : OfQuiet (λ (b : List PathEvent). IsPlain)
quiet_plain b (event.Published address payload back) e = absurd cc
quiet_plain b (event.TransferSent frame count) e = absurd cc
quiet_plain b (event.ReturnWent number) e = absurd cc
quiet_plain b x e = refl

request_plain : (x : PathEvent) → is_request x ≡ true → IsPlain x
request_plain (event.Published address payload back) e = absurd cc
request_plain (event.TransferSent frame count) e = absurd cc
request_plain (event.ReturnWent number) e = absurd cc
request_plain x e = refl

-- a method on a channel
pub method_plain : (m : Method91) → ArePlain (method_events m)
method_plain m =
    flat IsPlain [] (method_events m) (method_on (λ (b : List PathEvent). IsPlain) 0 [] quiet_plain m (named_all IsPlain [] request_plain m))

pub refusal_plain : (n : ℕ) (r : Refusal) → ArePlain (refusal_events n r)
refusal_plain n r = flat IsPlain [] (refusal_events n r) (refusal_on (λ (b : List PathEvent). IsPlain) n [] quiet_plain r)

-- what goes to the container, but a frame
pub up_plain : (n : ℕ) (h : List Step) (u : UpUnit) → ((k : ℕ) (t : TransferOut) → u ≡ up.OnSession k (unit.Transfer t) → ⊥)
    → ArePlain (up_events (is_later (connection h) u) n u)
up_plain n h u e =
    flat IsPlain (path_events h n) (up_events (is_later (connection h) u) n u) (up_on (λ (b : List PathEvent). IsPlain) n h quiet_plain (is_later (connection h) u) u (λ k t is. absurd (e k t is)))

-- a unit to the client, but a frame of a return
pub told_plain : (n k : ℕ) (u : ChannelUnit) → is_return u ≡ false → ArePlain (reply_events n (reply.OnChannel k u))
told_plain n k u e = by (k == n)
  where
    one : (u : ChannelUnit) → is_return u ≡ false → IsPlain (told_event u)
    one (to_client.Return r) f = absurd cc
    one u f = refl

    by : (b : Bool) → ArePlain (if b then told_event u ∷ [] else [])
    by true = (one u e, tt)
    by false = tt

-- other steps
pub step_plain : (n : ℕ) (h : List Step) (s : Step) → is_unit s ≡ false → ArePlain (step_events n h s)
step_plain n h (Whole Client) e =
    flat IsPlain (path_events h n) (wrote_events n (going_in h)) (whole_on (λ (b : List PathEvent). IsPlain) n h quiet_plain (going_in h) (λ tag. refl))
step_plain n h (Came u) e = absurd cc
step_plain n h (Gave u text) e = absurd cc
step_plain n h s e = flat IsPlain (path_events h n) (step_events n h s) (quiet_step (λ (b : List PathEvent). IsPlain) n h quiet_plain (λ ts payload e. refl) s refl)

-- ---- the fate of one publish

-- so many were taken up; its payload and what its frames carried are these, and each frame was a front of what was left
record Carried (h : List PublishEvent) (number count : ℕ) (image joined : List ℕ) : Type 0 where
  count_is : numbers_of h ≡ count
  image_is : (fate_of number h).payload ≡ image
  joined_is : (fate_of number h).sent ≡ joined
  none : count < number → joined ≡ []
  parts : AreParts h

abbrev is_still : PublishEvent → Bool
is_still (TakenUp link confirm payload back) = false
is_still (FrameSent number first part) = false
is_still x = true

quiet : {h : List PublishEvent} {number count : ℕ} {image joined : List ℕ} (x : PublishEvent) → is_still x ≡ true
    → Carried h number count image joined → Carried (x ∷ h) number count image joined
quiet (TakenUp link confirm payload back) e t = absurd cc
quiet (FrameSent number first part) e t = absurd cc
quiet x e t = record { count_is = t.count_is; image_is = t.image_is; joined_is = t.joined_is; none = t.none; parts = (tt, t.parts) }

loses : {h : List PublishEvent} {number count : ℕ} {image joined : List ℕ} (b : Bool) (o : Option PathLink)
    → Carried h number count image joined → Carried (losses b o ++ h) number count image joined
loses b None t = t
loses b (Some l) t = quiet (LinkGone (Some l.link) b) refl t

plain : (life : ℕ) (es : List PathEvent) {number count : ℕ} {image joined : List ℕ} (x : PathEvent) → is_plain x ≡ true
    → Carried (publishes_of life es) number count image joined → Carried (publishes_of life (x ∷ es)) number count image joined
plain life es (event.Published address payload back) e t = absurd cc
plain life es (event.TransferSent frame count) e t = absurd cc
plain life es (event.ReturnWent number) e t = absurd cc
plain life es (event.DetachCame peer not_found) e t = loses not_found (sender_in (named peer (after_events life es).links)) t
plain life es (event.DispositionCame first last outcome settled) e t = quiet (OutcomeCame first _ outcome) refl t
plain life es (event.ConfirmWent confirm) e t = quiet (ConfirmSent confirm) refl t
plain life es event.LinesWent e t = quiet LinesTold refl t
plain life es event.SessionLost e t = quiet (LinkGone None false) refl t
plain life es event.SessionEnded e t = quiet (LinkGone None false) refl t
plain life es event.UpLost e t = quiet (LinkGone None false) refl t
plain life es x e t = t

takes : {h : List PublishEvent} {number count : ℕ} {image joined : List ℕ} (k : ℕ) (confirm : Bool) (text : List ℕ) (back : List (List ℕ)) → Carried h number count image joined
    → Carried (TakenUp k confirm text back ∷ h) number (count + 1) (if number == count + 1 then text else image) joined
takes {h} {number} {count} {image} {joined} k confirm text back t = record {
  count_is = ap (λ (m : ℕ). m + 1) t.count_is;
  image_is = ap (λ (m : ℕ). (fated (number == m + 1)).payload) t.count_is ∙ imaged (number == count + 1);
  joined_is = ap (λ (m : ℕ). (fated (number == m + 1)).sent) t.count_is ∙ sent (number == count + 1) refl;
  none = λ e. t.none (omega (arith, e));
  parts = (tt, t.parts);
}
  where
    fated : Bool → Fate
    fated b = if b then new_fate k (next_number confirm (confirms_of h)) text back else fate_of number h

    imaged : (b : Bool) → (fated b).payload ≡ (if b then text else image)
    imaged true = refl
    imaged false = t.image_is

    sent : (b : Bool) → (number == count + 1) ≡ b → (fated b).sent ≡ joined
    sent true e = sym (t.none (let same : number ≡ count + 1 = grind (arith, nat_tests, e) in omega (arith, same)))
    sent false e = t.joined_is

-- ---- the life in progress

abbrev Joins : Option ℕ → List PathEvent → ℕ → ℕ → List ℕ → List ℕ → Type 0
Joins None es number count image joined = joined ≡ []
Joins (Some life) es number count image joined = Carried (publishes_of life es) number count image joined

plain_joins : (o : Option ℕ) (xs es : List PathEvent) (number count : ℕ) (image joined : List ℕ) → ArePlain xs → Joins o es number count image joined
    → Joins o (xs ++ es) number count image joined
plain_joins None xs es number count image joined p t = t
plain_joins (Some life) [] es number count image joined p t = t
plain_joins (Some life) (x ∷ xs) es number count image joined p t = plain life (xs ++ es) x p.0 (plain_joins (Some life) xs es number count image joined p.1 t)

taken_joins : (o : Option ℕ) (es : List PathEvent) (number count : ℕ) (image joined address text : List ℕ) (back : List (List ℕ)) → Joins o es number count image joined
    → Joins o (event.Published address text back ∷ es) number (count + 1) (if number == count + 1 then text else image) joined
taken_joins None es number count image joined address text back t = t
taken_joins (Some life) es number count image joined address text back t = takes _ _ text back t

fresh : (number : ℕ) → Carried [] number 0 [] []
fresh number = record { count_is = refl; image_is = refl; joined_is = refl; none = λ e. refl; parts = tt }

abbrev JoinsBy : Bool → ℕ → List PathEvent → Option (List ℕ) → Option ℕ → List PathEvent → ℕ → ℕ → List ℕ → List ℕ → Type 0
JoinsBy opens life xs text o es number count image joined =
    Joins (if opens then Some life else o) (if opens then [] else xs ++ es) number (if opens then 0 else one_more text count)
    (if opens then [] else image_by text (number == count + 1) image) (if opens then [] else joined)

-- a method that opens no channel
calls : (m : Method91) (o : Option ℕ) (es : List PathEvent) (number count : ℕ) (image joined : List ℕ) → Joins o es number count image joined
    → Joins o (method_events m ++ es) number count image joined
calls m o es number count image joined t = plain_joins o (method_events m) es number count image joined (method_plain m) t

method_joins : (b : Bool) (m : Method91) (life : ℕ) (o : Option ℕ) (es : List PathEvent) (number count : ℕ) (image joined : List ℕ) → Joins o es number count image joined
    → JoinsBy (b && is_channel_open m) life (if b then method_events m else []) None o es number count image joined
method_joins false m life o es number count image joined t = t
method_joins true method.ChannelOpen life o es number count image joined t = fresh number
method_joins true m life o es number count image joined t = calls m o es number count image joined t

want_joins : (rs : List Route) (limit n life : ℕ) (x : Want91) (o : Option ℕ) (es : List PathEvent) (number count : ℕ) (image joined : List ℕ) → Joins o es number count image joined
    → JoinsBy (is_method_on is_channel_open n x) life (want_events rs limit n x) (text_wanted n x) o es number count image joined
want_joins rs limit n life (want.Method k m) o es number count image joined t = method_joins (k == n) m life o es number count image joined t
want_joins rs limit n life (want.Publish k m c) o es number count image joined t = by (k == n)
  where
    text : List ℕ
    text = image_text (message_of m c)

    back : List (List ℕ)
    back = back_of limit k m (message_of m c)

    by : (b : Bool) → JoinsBy false life (if b then event.Published (address_of rs (message_of m c)) text back ∷ [] else []) (if b then Some text else None) o es number count image joined
    by true = taken_joins o es number count image joined (address_of rs (message_of m c)) text back t
    by false = t
want_joins rs limit n life want.Close o es number count image joined t = plain_joins o (event.LifeClosed ∷ []) es number count image joined (refl, tt) t
want_joins rs limit n life (want.Refuse r) o es number count image joined t = plain_joins o (refusal_events n r) es number count image joined (refusal_plain n r) t
want_joins rs limit n life x o es number count image joined t = t

-- ---- a frame

abbrev JoinsIn : List Step → ℕ → ℕ → Type 0
JoinsIn h n number = Joins (path_life h n) (path_events h n) number (publishes_in n h) (image_in n number h) (joined_in n number h)

-- of this life
lives_in : (o : Option ℕ) (life : ℕ) (es : List PathEvent) (number count : ℕ) (image joined : List ℕ) → o ≡ Some life → Joins o es number count image joined
    → Carried (publishes_of life es) number count image joined
lives_in o life es number count image joined e t = subst (λ (x : Option ℕ). Joins x es number count image joined) e t

frame_joins : PublishesAre → RestsAre → (h : List Step) (n number : ℕ) (t : TransferOut) (text : List ℕ) → MayTransfer h n t text → JoinsIn h n number
    → Joins (path_life h n) (event.TransferSent t.frame t.bytes ∷ path_events h n) number (publishes_in n h) (image_in n number h)
    (if number == t.frame.publish then joined_in n number h ++ text else joined_in n number h)
frame_joins publishes rests h n number t text m joins =
    subst (λ (o : Option ℕ). Joins o (event.TransferSent t.frame t.bytes ∷ es) number (publishes_in n h) (image_in n number h)
    (if number == t.frame.publish then joined ++ text else joined)) (sym m.lives)
    (record {
      count_is = old.count_is;
      image_is = old.image_is;
      joined_is = both (number == t.frame.publish);
      none = λ e. none_by e (number == t.frame.publish) refl;
      parts = ((goes.taken, (drop t.bytes left, ap (λ (xs : List ℕ). take t.bytes xs ++ drop t.bytes left) rest ∙ take-append-drop t.bytes left)), old.parts);
    })
  where
    es : List PathEvent
    es = path_events h n

    events : List PublishEvent
    events = publishes_of m.life es

    joined : List ℕ
    joined = joined_in n number h

    left : List ℕ
    left = left_of m.life es t.frame.publish

    old : Carried events number (publishes_in n h) (image_in n number h) joined
    old = lives_in (path_life h n) m.life es number (publishes_in n h) (image_in n number h) joined m.lives joins

    goes : IsToGo events t.frame.publish
    goes = to_go _ events t.frame m.frame

    rest : rest_of t.frame.publish (after_events m.life es).publishes.list ≡ left
    rest = ap (λ (x : PublishState). rest_of t.frame.publish x.list) (publishes m.life es) ∙ rests m.life t.frame.publish events goes.taken

    part : List ℕ
    part = take t.bytes (rest_of t.frame.publish (after_events m.life es).publishes.list)

    same : part ≡ text
    same = ap (take t.bytes) rest ∙ sym m.part

    both : (b : Bool) → (if b then (fate_of number events).sent ++ part else (fate_of number events).sent) ≡ (if b then joined ++ text else joined)
    both true = ap (λ (xs : List ℕ). xs ++ part) old.joined_is ∙ ap (λ (xs : List ℕ). joined ++ xs) same
    both false = old.joined_is

    none_by : publishes_in n h < number → (b : Bool) → (number == t.frame.publish) ≡ b → (if b then joined ++ text else joined) ≡ []
    none_by e true g =
        let is : number ≡ t.frame.publish = grind (arith, nat_tests, g) in
        let most : t.frame.publish ≤ numbers_of events = goes.taken.1 in
        let many : numbers_of events ≡ publishes_in n h = old.count_is in
        absurd (omega (arith, e, is, most, many))
    none_by e false g = old.none e

up_joins : PublishesAre → RestsAre → (h : List Step) (n number : ℕ) (u : UpUnit) (text : List ℕ) → MayCarry h u text → JoinsIn h n number
    → Joins (path_life h n) (up_events (is_later (connection h) u) n u ++ path_events h n) number (publishes_in n h) (image_in n number h) (joined_on n number u text (joined_in n number h))
up_joins publishes rests h n number (up.OnSession k (unit.Transfer t)) text m joins = by (k == n) refl
  where
    by : (b : Bool) → (k == n) ≡ b
        → Joins (path_life h n) ((if b then event.TransferSent t.frame t.bytes ∷ [] else []) ++ path_events h n) number (publishes_in n h) (image_in n number h)
        (if b && number == t.frame.publish then joined_in n number h ++ text else joined_in n number h)
    by true e =
        let same : k ≡ n = grind (arith, nat_tests, e) in
        frame_joins publishes rests h n number t text (subst (λ (i : ℕ). MayTransfer h i t text) same m) joins
    by false e = joins
up_joins publishes rests h n number u text m joins =
    plain_joins (path_life h n) (up_events (is_later (connection h) u) n u) (path_events h n) number _ _ _ (up_plain n h u (λ k t e. cc)) joins

told_joins : (h : List Step) (n number k : ℕ) (u : ChannelUnit) → is_return u ≡ false → JoinsIn h n number
    → Joins (path_life h n) (reply_events n (reply.OnChannel k u) ++ path_events h n) number (publishes_in n h) (image_in n number h) (joined_in n number h)
told_joins h n number k u e t = plain_joins (path_life h n) (reply_events n (reply.OnChannel k u)) (path_events h n) number _ _ _ (told_plain n k u e) t

-- a unit to the client; a frame of a return changes nothing of this
reply_joins : (h : List Step) (n number : ℕ) (u : Reply) → JoinsIn h n number
    → Joins (path_life h n) (reply_events n u ++ path_events h n) number (publishes_in n h) (image_in n number h) (joined_in n number h)
reply_joins h n number (reply.OnChannel k (to_client.Return r)) t = by (path_life h n) (k == n) t
  where
    by : (o : Option ℕ) (b : Bool) → Joins o (path_events h n) number (publishes_in n h) (image_in n number h) (joined_in n number h)
        → Joins o ((if b then event.ReturnWent r.publish ∷ [] else []) ++ path_events h n) number (publishes_in n h) (image_in n number h) (joined_in n number h)
    by None b x = x
    by (Some life) true x = quiet (ReturnSent r.publish) refl x
    by (Some life) false x = x
reply_joins h n number (reply.OnChannel k u) t = told_joins h n number k u refl t
reply_joins h n number u t = t

-- ---- all steps

came_joins : (h : List Step) (n number : ℕ) (u : Unit91) → JoinsIn h n number → JoinsIn (Came u ∷ h) n number
came_joins h n number u t = by (ran_out_in h)
  where
    x : Want91
    x = want_in (routes_in h) (paths_in h) (connection h) u

    limit : ℕ
    limit = (conn_step (routes_in h) (paths_in h) (connection h) u).limits.frame_max

    by : (b : Bool) → JoinsBy (not b && is_method_on is_channel_open n x) ((peers h).opened + 1) (if b then [] else want_events (routes_in h) limit n x) (if b then None else text_wanted n x)
        (path_life h n) (path_events h n) number (publishes_in n h) (image_in n number h) (joined_in n number h)
    by true = t
    by false = want_joins (routes_in h) limit n ((peers h).opened + 1) x (path_life h n) (path_events h n) number _ _ _ t

quietly : (h : List Step) (n number : ℕ) (xs : List PathEvent) → ArePlain xs → JoinsIn h n number
    → Joins (path_life h n) (xs ++ path_events h n) number (publishes_in n h) (image_in n number h) (joined_in n number h)
quietly h n number xs p t = plain_joins (path_life h n) xs (path_events h n) number _ _ _ p t

joins : PublishesAre → FramesAre → RestsAre → (n number : ℕ) (h : List Step) → ArePicks h → JoinsIn h n number
joins a b c n number [] p = refl
joins a b c n number (Came u ∷ h) p = came_joins h n number u (joins a b c n number h p.1)
joins a b c n number (Gave (ToClient u) text ∷ h) p = reply_joins h n number u (joins a b c n number h p.1)
joins a b c n number (Gave (ToUp u) text ∷ h) p = up_joins a c h n number u text (carry_is a b c h u text p.1 p.0.1 p.0.2) (joins a b c n number h p.1)
joins a b c n number (s ∷ h) p = quietly h n number (step_events n h s) (step_plain n h s refl) (joins a b c n number h p.1)

-- ---- whole payloads

abbrev pub WholesAre : Type 0
WholesAre = (h : List PublishEvent) → AreParts h → (n : ℕ) → IsWhole (fate_of n h)

pub are_pieces : PublishesAre → FramesAre → RestsAre → WholesAre → (h : List Step) → ArePicks h → ArePieces h
are_pieces a b c wholes h p = λ n number. by (path_life h n) (path_events h n) number _ _ _ (joins a b c n number h p)
  where
    by : (o : Option ℕ) (es : List PathEvent) (number count : ℕ) (image joined : List ℕ) → Joins o es number count image joined → IsFrontOf joined image
    by None es number count image joined t = (image, ap (λ (xs : List ℕ). xs ++ image) t)
    by (Some life) es number count image joined t =
        let front : IsFrontOf (fate_of number (publishes_of life es)).sent (fate_of number (publishes_of life es)).payload = (wholes (publishes_of life es) t.parts number).front in
        (front.0, ap (λ (xs : List ℕ). xs ++ front.0) (sym t.joined_is) ∙ front.1 ∙ t.image_is)

ends : WholesAre → (h : List Step) (n : ℕ) (t : TransferOut) (text : List ℕ) → MayTransfer h n t text → JoinsIn h n t.frame.publish → t.more ≡ false
    → joined_in n t.frame.publish h ++ text ≡ image_in n t.frame.publish h
ends wholes h n t text m joins last =
    ap (λ (xs : List ℕ). xs ++ text) (sym old.joined_is) ∙ ap (λ (xs : List ℕ). (fate_of t.frame.publish events).sent ++ xs) all
    ∙ (wholes events old.parts t.frame.publish).rest (to_go _ events t.frame m.frame).goes ∙ old.image_is
  where
    events : List PublishEvent
    events = publishes_of m.life (path_events h n)

    old : Carried events t.frame.publish (publishes_in n h) (image_in n t.frame.publish h) (joined_in n t.frame.publish h)
    old = lives_in (path_life h n) m.life (path_events h n) t.frame.publish _ _ _ m.lives joins

    left : List ℕ
    left = rest_by (fate_of t.frame.publish events)

    all : text ≡ left
    all =
        let more : nat_lt t.bytes (length left) ≡ false = sym m.more ∙ last in
        let few : length left ≤ t.bytes = grind (arith, nat_tests, more) in
        m.part ∙ take_all t.bytes left few

may_finish : PublishesAre → FramesAre → RestsAre → WholesAre → (h : List Step) (u : UpUnit) (text : List ℕ) → ArePicks h → MayCarry h u text → MayFinish h u text
may_finish a b c wholes h (up.OnSession n (unit.Transfer t)) text p m = ends wholes h n t text m (joins a b c n t.frame.publish h p)
may_finish a b c wholes h u text p m = tt

pub end_whole : PublishesAre → FramesAre → RestsAre → WholesAre → (h : List Step) → ArePicks h → EndWhole h
end_whole a b c wholes [] p = tt
end_whole a b c wholes (Gave (ToUp u) text ∷ h) p = (may_finish a b c wholes h u text p.1 (carry_is a b c h u text p.1 p.0.1 p.0.2), end_whole a b c wholes h p.1)
end_whole a b c wholes (s ∷ h) p = end_whole a b c wholes h p.1
