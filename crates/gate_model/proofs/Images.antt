-- Each whole delivery of a life that goes on carries the image of its message.
use Rattle.std.proofs.Common.{◌≡◌, ℕ, ◌+◌, ◌-◌, ◌==◌, ◌≤◌, ◌&&◌, ◌||◌, not, Bool, true, false, cond, if◌then◌else◌, List, [], ◌∷◌}
use Rattle.std.proofs.Common.{◌++◌, Option, None, Some, option_map, refl, sym, ap, ◌∙◌, subst, arith}
use Rattle.std.proofs.lemmas.Bool.Decides.{nat_tests}
use Rattle.std.specs.List.{list_any}
use Rattle.std.specs.Prelude.{IfSome, find, is_some}
use Rattle.consume_path.specs.Deliveries.{DeliveryEvent, DeliveryState}
use Rattle.consume_path.specs.Deliveries.{after_event as delivery_event, after_events as deliveries_after}
use Rattle.consume_path.specs.Deliveries as on
use Rattle.consume_path.specs.Journal.{Fate, IsTaken, arrives as comes, fate_of, fate_step, is_closed, new_fate, numbers_of}
use Rattle.consume_path.specs.Laws.{AreCalls, Piece, joined_of, payloads, pieces_of}
use Rattle.consume_path.specs.Links.{bytes_in, has_number, in_link, is_whole, link_of}
use Rattle.consume_path.specs.Offers.{arriving_in, is_drained, payload_in}
use Rattle.consume_path.specs.declared.delivery.Content.{Content}
use Rattle.consume_path.specs.declared.receiving.Part.{Part}
use Rattle.consume_path.specs.declared.receiving.ReceivingLink.{ReceivingLink}
use Rattle.machine_091.specs.Transitions as machine
use Rattle.machine_091.specs.Transitions.{unit_step}
use Rattle.machine_091.specs.declared.limits.TheConstants.{CHANNEL_MAX}
use Rattle.machine_091.specs.declared.state.Connection.{Connection}
use Rattle.machine_091.specs.declared.unit.Refusal.{Refusal}
use Rattle.machine_091.specs.declared.unit.Unit91.{Unit91}
use Rattle.machine_091.proofs.StepCases.{step_rows}
use Rattle.machine_10.specs.Reading.{number_at}
use Rattle.methods_091.specs.declared.method.Method91.{Method91}
use Rattle.property_map.specs.Received.{received_in}
use Rattle.session_path.specs.Due.{partial_on, queue_on}
use Rattle.session_path.specs.Events as event
use Rattle.session_path.specs.Events.{PathEvent, after_events, deliveries_of, delivery_events, transfers}
use Rattle.session_path.specs.Path.{PathState, arrival_on, is_last, source_of, taking, transferred}
use Rattle.session_path.specs.declared.path.PathLink.{PathLink}
use Rattle.session_path.proofs.Numbers.{find_none, knows, same_knows}
use Rattle.gate_model.specs.Contents.{AreImages, IsImage, Message, message_by, message_in, message_or, received_from, whole_on}
use Rattle.gate_model.specs.Folds.{connection, paths_in, peers, ran_out_in, routes_in}
use Rattle.gate_model.specs.Frames.{limit_after, limit_in}
use Rattle.gate_model.specs.Once.{is_channel_open, is_method_on}
use Rattle.gate_model.specs.Paths.{content_of, is_again, part_in, received_at}
use Rattle.gate_model.specs.Picks.{ArePicks}
use Rattle.gate_model.specs.Publishing.{arrival_event, opens_channel, path_events, path_life}
use Rattle.gate_model.specs.Requests.{client_step, refusal_of_want, refused_by}
use Rattle.gate_model.specs.State.{Came, Step, want_in}
use Rattle.gate_model.specs.declared.setup.Route.{Route}
use Rattle.gate_model.proofs.Arrived.{counted, event_none}
use Rattle.gate_model.proofs.Moves.{arrives}
use Rattle.gate_model.proofs.Closed.{is_late, late_is}
use Rattle.gate_model.proofs.Connections.{clash}
use Rattle.gate_model.proofs.Delivering.{ReceivedAre, limit_agreed}
use Rattle.gate_model.proofs.Fitting.{Within}
use Rattle.gate_model.proofs.Granting.{DeliveriesAre}
use Rattle.gate_model.proofs.Heard.{AllHold, ClosedAre, IsPlain, all_hold, asks, open_heard}
use Rattle.gate_model.proofs.Outcomes.{Outcome, Tunes, outcome}
use Rattle.gate_model.proofs.Settles.{CallsAre}

-- ---- the laws below

abbrev pub JoinedAre : Type 0
JoinedAre = (life k : ℕ) (h : List DeliveryEvent) → AreCalls life h
    → IfSome (link_of (deliveries_after life h).links k) (λ (l : ReceivingLink). l.partial ≡ joined_of (pieces_of k h))

-- ---- what a transfer that is told of carries

abbrev IsSeen : ℕ → ℕ → PathState → PathEvent → Type 0
IsSeen limit n s (event.TransferCame peer part payload image again) =
    (image ≡ option_map (content_of limit n) (received_at limit peer payload s)) × (again ≡ is_again (received_at limit peer payload s))
IsSeen limit n s x = Unit {0}

seen_plain : (limit n : ℕ) (s : PathState) (x : PathEvent) → IsPlain x → IsSeen limit n s x
seen_plain limit n s (event.TransferCame peer part payload image again) e = absurd e
seen_plain limit n s x e = tt

seen_asked : (limit n : ℕ) (s : PathState) (x : PathEvent) → asks x ≡ true → IsSeen limit n s x
seen_asked limit n s (event.TransferCame peer part payload image again) e = absurd cc
seen_asked limit n s x e = tt

seen_at : (limit m n peer : ℕ) (part : Part) (payload : List ℕ) (s : PathState) → m ≡ limit → IsSeen limit n s (arrival_event m n peer part payload s)
seen_at limit m n peer part payload s e = subst (λ (i : ℕ). IsSeen limit n s (arrival_event i n peer part payload s)) (sym e) (refl, refl)

-- ---- the limit of a client stays as it is while a life is in progress

same_limit : (limit : ℕ) (c : Connection) (u : Unit91) (x : machine.Step) → Outcome c u x → is_late c.phase ≡ true → limit_after limit x.0 x.1 ≡ limit
same_limit limit c u _ (Tunes limits e) l = let early : is_late c.phase ≡ false = ap is_late e in absurd (clash (is_late c.phase) l early)
same_limit limit c u _ x l = refl

came_limit : (h : List Step) (u : Unit91) → is_late (connection h).phase ≡ true → limit_in (Came u ∷ h) ≡ limit_in h
came_limit h u late = by (ran_out_in h)
  where
    x : machine.Step
    x = client_step (routes_in h) (paths_in h) (connection h) u

    by : (b : Bool) → (if b then limit_in h else limit_after (limit_in h) x.0 x.1) ≡ limit_in h
    by true = refl
    by false = same_limit (limit_in h) (connection h) u x (outcome (routes_in h) (paths_in h) (connection h) u) late

limit_stays : (h : List Step) (s : Step) → is_late (connection h).phase ≡ true → limit_in (s ∷ h) ≡ limit_in h
limit_stays h (Came u) late = came_limit h u late
limit_stays h s late = refl

-- ---- a channel with a life is one of 1 to 255

abbrev OpensBelow : Connection → machine.Step → Type 0
OpensBelow c x = (n : ℕ) → is_method_on is_channel_open n x.1 ≡ true → n ≤ c.limits.channel_max

opens_below : (c : Connection) (u : Unit91) → OpensBelow c (unit_step c u)
opens_below c u = step_rows (OpensBelow c) c u (record {
  greeted = λ e n f. absurd cc;
  foreign = λ e n f. absurd cc;
  refused = λ code e ruled n f. absurd cc;
  publish_refused = λ code e ruled n f. absurd cc;
  channel_refused = λ code on large ruled n f. absurd cc;
  nothing = λ idle n f. absurd cc;
  login = λ a b e l n f. absurd cc;
  tuned = λ channels size heartbeat e l n f. absurd cc;
  asked = λ e n f. absurd cc;
  closed = λ e n f. absurd cc;
  opened = λ k m of n f. one k m n of.max f;
  ended = λ k m of n f. one k m n of.max f;
  passed_on = λ k m of n f. one k m n of.max f;
  begun = λ g k args is n f. absurd cc;
  grown = λ g i a is n f. absurd cc;
  published = λ g i a d is at_once n f. absurd cc;
  freed = λ k of n f. absurd cc;
  crossed = λ e n f. absurd cc;
  answered = λ e n f. absurd cc;
  passed = λ e n f. absurd cc;
})
  where
    one : (k : ℕ) (m : Method91) (n : ℕ) → k ≤ c.limits.channel_max → ((k == n) && is_channel_open m) ≡ true → n ≤ c.limits.channel_max
    one k m n max e = by (k == n) refl e
      where
        by : (b : Bool) → (k == n) ≡ b → (b && is_channel_open m) ≡ true → n ≤ c.limits.channel_max
        by true f g = let same : k ≡ n = grind (arith, nat_tests, f) in subst (λ (i : ℕ). i ≤ c.limits.channel_max) same max
        by false f g = absurd cc

step_below : (rs : List Route) (ps : List (Option PathState)) (c : Connection) (u : Unit91) → OpensBelow c (client_step rs ps c u)
step_below rs ps c u = by (refusal_of_want rs ps (unit_step c u).1) (unit_step c u) (opens_below c u)
  where
    by : (o : Option Refusal) (x : machine.Step) → OpensBelow c x → OpensBelow c (refused_by o x)
    by None x is = is
    by (Some r) x is = λ n f. absurd cc

opened_below : Within → (h : List Step) (n : ℕ) (s : Step) → opens_channel n h s ≡ true → n ≤ CHANNEL_MAX
opened_below within h n (Came u) e = by (ran_out_in h) e
  where
    by : (b : Bool) → (not b && is_method_on is_channel_open n (want_in (routes_in h) (paths_in h) (connection h) u)) ≡ true → n ≤ CHANNEL_MAX
    by true f = absurd cc
    by false f =
        let less : n ≤ (connection h).limits.channel_max = step_below (routes_in h) (paths_in h) (connection h) u n f in
        let most : (connection h).limits.channel_max ≤ CHANNEL_MAX = (within h).channel_max in
        omega (arith, less, most)
opened_below within h n s e = absurd cc

pub life_below : Within → (h : List Step) (n life : ℕ) → path_life h n ≡ Some life → n ≤ CHANNEL_MAX
life_below within [] n life l = absurd cc
life_below within (s ∷ h) n life l = by (opens_channel n h s) refl l (life_below within h n life)
  where
    by : (b : Bool) → opens_channel n h s ≡ b → (if b then Some ((peers h).opened + 1) else path_life h n) ≡ Some life
        → (path_life h n ≡ Some life → n ≤ CHANNEL_MAX) → n ≤ CHANNEL_MAX
    by true e f old = opened_below within h n s e
    by false e f old = old f

-- ---- the transfers that are told of

are_seen : Within → ReceivedAre → (h : List Step) (n life : ℕ) → ArePicks h → n ≤ CHANNEL_MAX → path_life h n ≡ Some life
    → AllHold (IsSeen (limit_in h) n) life (path_events h n)
are_seen within received h n life p below l =
    all_hold (IsSeen (limit_in h) n) n life (λ (g : List Step). limit_in g ≡ limit_in h) below (record {
      goes_back = λ g s q m e k. sym (limit_stays g s (late_is n g (let most : CHANNEL_MAX ≡ 255 = refl in omega (arith, below, most)) q.1 (ap is_some m))) ∙ k;
      plain = seen_plain (limit_in h) n;
      asked = λ g x q m k o a. seen_asked (limit_in h) n (after_events life (path_events g n)) x a;
      arrives = λ g ts payload q m k e. seen_at (limit_in h) (connection g).limits.frame_max n (number_at ts 0) (part_in ts) payload
          (after_events life (path_events g n)) (sym (limit_agreed within received g n life q m) ∙ k);
    }) h p l refl

-- ---- the payloads of a delivery

not_found : {X : Type 0} (p : X → Bool) (xs : List X) → find p xs ≡ None → list_any p xs ≡ false
not_found p [] e = refl
not_found p (x ∷ xs) e = by (p x) (not_found p xs) e
  where
    by : (b : Bool) → (find p xs ≡ None → list_any p xs ≡ false) → cond b (Some x) (find p xs) ≡ None → (b || list_any p xs) ≡ false
    by true old f = absurd cc
    by false old f = old f

pub arriving_link : (k : ℕ) (o : Option ReceivingLink) → (arriving_in k o).link ≡ k
arriving_link k None = refl
arriving_link k (Some l) = refl

-- the link of a delivery that is whole after its last transfer was there before it
link_there : (k : ℕ) (part : Part) (payload : List ℕ) (d : DeliveryState) (test : ReceivingLink → Bool)
    → in_link test (link_of (delivery_event (on.TransferCame k part payload) d).links k) ≡ true → is_some (link_of d.links k) ≡ true
link_there k part payload d test e = by (link_of d.links k) refl
  where
    after : DeliveryState
    after = delivery_event (on.TransferCame k part payload) d

    by : (o : Option ReceivingLink) → link_of d.links k ≡ o → is_some o ≡ true
    by (Some l) f = refl
    by None f =
        let none : knows k after.links ≡ false = same_knows (on.TransferCame k part payload) refl k d ∙ not_found (has_number k) d.links f in
        let gone : in_link test (link_of after.links k) ≡ false = ap (in_link test) (find_none (has_number k) after.links none) in
        absurd (clash (in_link test (link_of after.links k)) e gone)

joined_bytes : (ps : List Piece) → bytes_in (joined_of ps) ≡ payloads ps
joined_bytes [] = refl
joined_bytes (p ∷ ps) = refl

partial_is : (o : Option ReceivingLink) (ps : List Piece) → IfSome o (λ (l : ReceivingLink). l.partial ≡ joined_of ps) → is_some o ≡ true
    → payload_in o ≡ payloads ps
partial_is None ps j e = absurd cc
partial_is (Some l) ps j e = ap bytes_in j ∙ joined_bytes ps

-- ---- what an event of deliveries leaves

-- they carry the same, and are taken as the same
pub record Alike (f g : Fate) : Type 0 where
  pub content : f.content ≡ g.content
  pub again : f.again ≡ g.again
  pub taker : f.taker ≡ g.taker

step_leaves : (n : ℕ) (h : List DeliveryEvent) (x : DeliveryEvent) (f : Fate) → comes x ≡ false → Alike (fate_step n h x f) f
step_leaves n h (on.Arrived a content again) f e = absurd cc
step_leaves n h x f e = record { content = refl; again = refl; taker = refl }

pub all_leave : (n : ℕ) (xs ds : List DeliveryEvent) → list_any comes xs ≡ false → Alike (fate_of n (xs ++ ds)) (fate_of n ds)
all_leave n [] ds e = record { content = refl; again = refl; taker = refl }
all_leave n (x ∷ xs) ds e = by (comes x) refl e (all_leave n xs ds)
  where
    by : (b : Bool) → comes x ≡ b → (b || list_any comes xs) ≡ false → (list_any comes xs ≡ false → Alike (fate_of n (xs ++ ds)) (fate_of n ds))
        → Alike (fate_step n (xs ++ ds) x (fate_of n (xs ++ ds))) (fate_of n ds)
    by true f g old = absurd cc
    by false f g old =
        let last = step_leaves n (xs ++ ds) x (fate_of n (xs ++ ds)) f in
        let first = old g in
        record { content = last.content ∙ first.content; again = last.again ∙ first.again; taker = last.taker ∙ first.taker }

alike_image : (limit n : ℕ) (m : Option Message) (f g : Fate) → Alike f g → IsImage limit n m g → IsImage limit n m f
alike_image limit n m f g a i = record { content = a.content ∙ i.content; again = a.again ∙ i.again }

-- ---- each event

-- the delivery with this number carries the image of its message, where it is one of these events'
abbrev HasImage : ℕ → ℕ → ℕ → ℕ → List PathEvent → Type 0
HasImage limit n life number es =
    IsTaken (deliveries_of life es) number → IsImage limit n (message_in life number es) (fate_of number (deliveries_of life es))

no_message : (life : ℕ) (es : List PathEvent) (x : PathEvent) → arrives x ≡ false → message_by life es x ≡ None
no_message life es (event.TransferCame peer part payload image again) e = absurd cc
no_message life es x e = refl

other_image : (limit n life number : ℕ) (es : List PathEvent) (x : PathEvent) → arrives x ≡ false → HasImage limit n life number es
    → HasImage limit n life number (x ∷ es)
other_image limit n life number es x e old taken =
    let xs : List DeliveryEvent = delivery_events (after_events life es) x in
    let ds : List DeliveryEvent = deliveries_of life es in
    let none : list_any comes xs ≡ false = event_none (after_events life es) x e in
    let many : numbers_of (xs ++ ds) ≡ numbers_of ds = counted xs ds none in
    subst (λ (o : Option Message). IsImage limit n (message_or o (number == numbers_of ds + 1) (message_in life number es)) (fate_of number (xs ++ ds)))
    (sym (no_message life es x e))
    (alike_image limit n (message_in life number es) (fate_of number (xs ++ ds)) (fate_of number ds) (all_leave number xs ds none)
    (old (taken.0, subst (λ (i : ℕ). number ≤ i) many taken.1)))

module _ (arrive : DeliveriesAre) (joined : JoinedAre) where
  -- a transfer on a link that takes it
  module _ (limit n life number : ℕ) (es : List PathEvent) (peer : ℕ) (part : Part) (payload : List ℕ) (image : Option Content) (again : Bool) (l : PathLink)
      (takes : taking peer (after_events life es) ≡ Some l) (seen : IsSeen limit n (after_events life es) (event.TransferCame peer part payload image again))
      (old : HasImage limit n life number es) where
    abbrev s : PathState
    s = after_events life es

    abbrev ds : List DeliveryEvent
    ds = deliveries_of life es

    abbrev came : DeliveryEvent
    came = on.TransferCame l.link part payload

    abbrev message : Message
    message = record { queue = source_of l.link s; bytes = payloads (pieces_of l.link ds) ++ payload }

    abbrev whole : DeliveryEvent
    whole = arrival_on l.link image again (delivery_event came s.deliveries)

    -- the message is what is received
    received_is : AreCalls life (whole ∷ came ∷ ds) → received_at limit peer payload s ≡ received_from limit (Some message)
    received_is c =
        ap (λ (o : Option PathLink). received_in (queue_on o s) (limit - 8) (partial_on o s.deliveries ++ payload)) takes
        ∙ ap (λ (d : DeliveryState). received_in (source_of l.link s) (limit - 8) (payload_in (link_of d.links l.link) ++ payload)) (arrive life es)
        ∙ ap (λ (bytes : List ℕ). received_in (source_of l.link s) (limit - 8) (bytes ++ payload))
        (partial_is (link_of (deliveries_after life ds).links l.link) (pieces_of l.link ds) (joined life l.link ds c.1.1) there)
      where
        test : ReceivingLink → Bool
        test m = is_whole m.partial

        after : DeliveryState
        after = deliveries_after life (came ∷ ds)

        there : is_some (link_of (deliveries_after life ds).links l.link) ≡ true
        there =
            link_there l.link part payload (deliveries_after life ds) test
            (subst (λ (k : ℕ). in_link test (link_of after.links k) ≡ true)
            (arriving_link l.link (link_of (delivery_event came s.deliveries).links l.link)) c.0.0)

    arrived : AreCalls life (whole ∷ came ∷ ds) → (1 ≤ number) × (number ≤ numbers_of ds + 1)
        → IsImage limit n (message_or (Some message) (number == numbers_of ds + 1) (message_in life number es)) (fate_of number (whole ∷ came ∷ ds))
    arrived c taken = by (number == numbers_of ds + 1) refl
      where
        by : (b : Bool) → (number == numbers_of ds + 1) ≡ b
            → IsImage limit n (message_or (Some message) b (message_in life number es))
            (if b then new_fate (is_closed (came ∷ ds)) (arriving_in l.link (link_of (delivery_event came s.deliveries).links l.link)) image again
            else fate_of number ds)
        by true e = record { content = seen.0 ∙ ap (option_map (content_of limit n)) (received_is c); again = seen.1 ∙ ap is_again (received_is c) }
        by false e =
            let less : number ≤ numbers_of ds = (let most : number ≤ numbers_of ds + 1 = taken.1 in grind (arith, nat_tests, e, most)) in
            old (taken.0, less)

    abbrev events : Bool → Bool → List DeliveryEvent
    events last drained = ((if drained then on.Emptied l.link ∷ [] else []) ++ ((if last then whole ∷ [] else []) ++ came ∷ [])) ++ ds

    on_link : (last drained : Bool) → AreCalls life (events last drained) → IsTaken (events last drained) number
        → IsImage limit n (message_or (if last then Some message else None) (number == numbers_of ds + 1) (message_in life number es))
        (fate_of number (events last drained))
    on_link false true c taken = old taken
    on_link false false c taken = old taken
    on_link true true c taken = arrived c.1 taken
    on_link true false c taken = arrived c taken

  transfer_image : (limit n life number : ℕ) (es : List PathEvent) (peer : ℕ) (part : Part) (payload : List ℕ) (image : Option Content) (again : Bool)
      → let x : PathEvent = event.TransferCame peer part payload image again in
      IsSeen limit n (after_events life es) x → AreCalls life (deliveries_of life (x ∷ es)) → HasImage limit n life number es
      → HasImage limit n life number (x ∷ es)
  transfer_image limit n life number es peer part payload image again seen calls old taken = by (taking peer s) refl calls taken
    where
      s : PathState
      s = after_events life es

      ds : List DeliveryEvent
      ds = deliveries_of life es

      by : (o : Option PathLink) → taking peer s ≡ o → AreCalls life (transfers o part payload image again s.deliveries ++ ds)
          → IsTaken (transfers o part payload image again s.deliveries ++ ds) number
          → IsImage limit n (message_or (whole_on o part payload s ds) (number == numbers_of ds + 1) (message_in life number es))
          (fate_of number (transfers o part payload image again s.deliveries ++ ds))
      by None e c t = old t
      by (Some l) e c t =
          on_link limit n life number es peer part payload image again l e seen old (is_last part)
          (is_drained l.link (transferred l.link part payload image again s.deliveries).links) c t

  event_image : (limit n life number : ℕ) (es : List PathEvent) (x : PathEvent) → IsSeen limit n (after_events life es) x
      → AreCalls life (deliveries_of life (x ∷ es)) → HasImage limit n life number es → HasImage limit n life number (x ∷ es)
  event_image limit n life number es (event.TransferCame peer part payload image again) seen calls old =
      transfer_image limit n life number es peer part payload image again seen calls old
  event_image limit n life number es x seen calls old = other_image limit n life number es x refl old

  calls_behind : (life : ℕ) (xs h : List DeliveryEvent) → AreCalls life (xs ++ h) → AreCalls life h
  calls_behind life [] h c = c
  calls_behind life (x ∷ xs) h c = calls_behind life xs h c.1

  has_image : (limit n life number : ℕ) (es : List PathEvent) → AllHold (IsSeen limit n) life es → AreCalls life (deliveries_of life es)
      → HasImage limit n life number es
  has_image limit n life number [] seen calls taken = absurd (let least : 1 ≤ number = taken.0 in let most : number ≤ 0 = taken.1 in omega (arith, least, most))
  has_image limit n life number (x ∷ es) seen calls taken =
      event_image limit n life number es x seen.0 calls
      (has_image limit n life number es seen.1 (calls_behind life (delivery_events (after_events life es) x) (deliveries_of life es) calls)) taken

-- ---- the law

pub images_are : Within → ReceivedAre → DeliveriesAre → ClosedAre → CallsAre → JoinedAre → (h : List Step) → ArePicks h → AreImages h
images_are within received arrive closed calls joined h p n life number l goes_on taken =
    let below : n ≤ CHANNEL_MAX = life_below within h n life l in
    has_image arrive joined (limit_in h) n life number (path_events h n) (are_seen within received h n life p below l)
    (calls life (path_events h n) (open_heard arrive closed h n life p below l goes_on)) taken
