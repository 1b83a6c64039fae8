-- What arrives for a client fits it: on each channel whose life is in progress the tags of consumers are short, and contents are cut by the limit that is agreed to.
use Rattle.std.proofs.Common.{◌≡◌, ℕ, ◌+◌, ◌-◌, ◌≤◌, ◌||◌, ◌&&◌, nat_le, not, Bool, true, false, if◌then◌else◌, List, []}
use Rattle.std.proofs.Common.{◌∷◌, ◌++◌, length, Option, None, Some, option_map, refl, sym, ap, ◌∙◌, subst, arith}
use Rattle.std.proofs.lemmas.Bool.Decides.{nat_tests}
use Rattle.std.specs.List.{AllByRecursion}
use Rattle.std.specs.Prelude.{IfSome}
use Rattle.close_translate.specs.declared.codes.TheConstants.{NOT_ALLOWED, NOT_FOUND}
use Rattle.consume_path.specs.Links.{is_tag_used}
use Rattle.consume_path.specs.declared.receiving.Part.{Part}
use Rattle.content_091.specs.Writing.{header_text}
use Rattle.frames_091.specs.declared.frame.Kind91.TheVariants.{Header}
use Rattle.gate_outside.specs.declared.ports.End.TheVariants.{Client, Up}
use Rattle.gate_outside.specs.declared.ports.Linked.TheVariants as link
use Rattle.gate_relay.specs.declared.loss.Loss.TheVariants as loss
use Rattle.machine_091.specs.Calls.{after_opened}
use Rattle.machine_091.specs.Limits.{AreWithin}
use Rattle.machine_091.specs.State.{is_opening}
use Rattle.machine_091.specs.Transitions as machine
use Rattle.machine_091.specs.Transitions.{unit_step}
use Rattle.machine_091.specs.declared.limits.Limits.{Limits}
use Rattle.machine_091.specs.declared.limits.TheConstants.{FRAME_MIN_SIZE}
use Rattle.machine_091.specs.declared.state.Connection.{Connection}
use Rattle.machine_091.specs.declared.unit.Unit91.{Unit91}
use Rattle.machine_091.specs.declared.unit.Want91.{Want91}
use Rattle.machine_091.specs.declared.unit.Want91.TheVariants as want
use Rattle.machine_10.specs.Reading.{number_at}
use Rattle.machine_10.specs.Transitions as ten
use Rattle.machine_10.specs.Transitions.{Meaning}
use Rattle.methods_091.specs.declared.method.Method91.{Method91}
use Rattle.methods_091.specs.declared.method.Method91.TheVariants as method
use Rattle.property_map.specs.Received.{header_of, received_in}
use Rattle.property_map.specs.declared.received.Received.{Received}
use Rattle.session_path.specs.Due.{next_name, joined_at, queue_at}
use Rattle.session_path.specs.Events as event
use Rattle.session_path.specs.Events.{PathEvent, after_events}
use Rattle.session_path.specs.Path.{queue_or, PathState}
use Rattle.gate_model.specs.Folds.{Peers, accepted_in, connection, container, going_in, leaving_in, paths_in, peers, peers_by}
use Rattle.gate_model.specs.Folds.{peers_came, peers_heard, peers_left, ran_out_in, routes_in}
use Rattle.gate_model.specs.Frames.{limit_after, limit_in}
use Rattle.gate_model.specs.Once.{is_channel_open, is_method_on}
use Rattle.gate_model.specs.Paths.{content_of, or_no_path, part_in, path_at, received_at, slot_at}
use Rattle.gate_model.specs.Picks.{ArePicks}
use Rattle.gate_model.specs.Publishing.{arrival_event, step_events, method_events, path_events, path_life, told_event, want_events}
use Rattle.gate_model.specs.Requests.{client_step, is_queue_name, method_fault, refused_by, refused_for, refusal_of_want}
use Rattle.gate_model.specs.Returns.{header_part}
use Rattle.gate_model.specs.State.{is_later, Began, Came, Fed, Gave, Heard, Joined, Lost, Moment, Silent, Step}
use Rattle.gate_model.specs.State.{TakenUp, Whole, before, close_if, is_limit_reached}
use Rattle.gate_model.specs.Upstream.{channel_max_in, meaning_by}
use Rattle.gate_model.specs.declared.channel.ChannelUnit.{ChannelUnit}
use Rattle.gate_model.specs.declared.channel.ChannelUnit.TheVariants as to_client
use Rattle.gate_model.specs.declared.outgoing.Outgoing.TheVariants.{ToClient, ToUp}
use Rattle.gate_model.specs.declared.setup.Route.{Route}
use Rattle.gate_model.proofs.Basics.{all_both}
use Rattle.gate_model.proofs.Connections.{limits_only, only_given}
use Rattle.gate_model.proofs.Consumers.{AreDeliverable, NamesGoBack, IfFit, IsGood, all_still, name_short, deliverable}
use Rattle.gate_model.proofs.Fates.{IsLived, lived}
use Rattle.gate_model.proofs.Fitting.{Agrees, Within, agrees, cut_fits, frame_long, limit_grows, running_tuned}
use Rattle.gate_model.proofs.Quiet.{AllOn, OfQuiet, flat, names, quiet_step, reply_on, up_on, want_on, whole_on}
use Rattle.gate_model.proofs.Outcomes.{Asking, Calls, Declines, Drops, OnlyChannels, Outcome, Tunes, only_closing, outcome}
use Rattle.gate_model.proofs.Reports.{DeliveriesAre}
use Rattle.gate_model.proofs.Sessions.{conn_cases}

-- ---- the laws of what is received

pub record ReceivedAre : Type 0 where
  pub exchange : (queue : List ℕ) (room : ℕ) (bytes : List ℕ) → IfSome (received_in queue room bytes) (λ r. length r.message.exchange ≤ 255)
  pub key : (queue : List ℕ) (room : ℕ) (bytes : List ℕ) → IfSome (received_in queue room bytes) (λ r. length r.message.key ≤ 255)
  pub header : (queue : List ℕ) (room : ℕ) (bytes : List ℕ)
      → IfSome (received_in queue room bytes) (λ r. length (header_text (header_of r.message)) ≤ room)

-- ---- what the container sends

-- the content of a message is cut by a limit
content_cut : (limit n : ℕ) (o : Option Received) → 8 ≤ limit → IfSome o (λ r. length r.message.exchange ≤ 255) → IfSome o (λ r. length r.message.key ≤ 255)
    → IfSome o (λ r. length (header_text (header_of r.message)) ≤ limit - 8) → IfFit limit (option_map (content_of limit n) o)
content_cut limit n None le a b c = tt
content_cut limit n (Some r) le a b c =
    let long : length (header_part n r.message) ≡ length (header_text (header_of r.message)) + 8 = frame_long Header n (header_text (header_of r.message)) in
    let fits : length (header_text (header_of r.message)) ≤ limit - 8 = c in
    record { exchange = a; key = b; frames = (omega (arith, long, fits, le), cut_fits (length r.message.body) limit n r.message.body le) }

abbrev AreGood : ℕ → List PathEvent → Type 0
AreGood l es = AllByRecursion (IsGood l) es

quiet_good : (l : ℕ) → OfQuiet (λ (b : List PathEvent). IsGood l)
quiet_good l b (event.Consumed address tag no_ack no_wait) e = absurd cc
quiet_good l b (event.CancelCame tag no_wait) e = absurd cc
quiet_good l b (event.Declared queue no_wait) e = absurd cc
quiet_good l b (event.TransferCame peer part payload image again) e = absurd cc
quiet_good l b x e = tt

arrival_good : ReceivedAre → (limit n peer : ℕ) (part : Part) (payload : List ℕ) (s : PathState) → 8 ≤ limit
    → IsGood limit (arrival_event limit n peer part payload s)
arrival_good r limit n peer part payload s le =
    content_cut limit n (received_at limit peer payload s) le (r.exchange (queue_at peer s) (limit - 8) (joined_at peer payload s))
    (r.key (queue_at peer s) (limit - 8) (joined_at peer payload s)) (r.header (queue_at peer s) (limit - 8) (joined_at peer payload s))

-- ---- what a client asks for

-- the tag of a consumer that comes or is cancelled is a short string
abbrev IsNamed : Method91 → Type 0
IsNamed (method.BasicConsume queue tag no_local no_ack exclusive no_wait arguments) = length tag ≤ 255
IsNamed (method.BasicCancel tag no_wait) = length tag ≤ 255
IsNamed (method.QueueDeclare queue passive durable exclusive deletes no_wait arguments) = length queue ≤ 255
IsNamed m = Unit {0}

abbrev NamesAre : Want91 → Type 0
NamesAre (want.Method n m) = IsNamed m
NamesAre x = Unit {0}

refused_named : (n : ℕ) (m k : Method91) (c : Connection) (o : Option ℕ) → (o ≡ None → IsNamed m) → NamesAre (refused_by (refused_for n k o) (c, want.Method n m)).1
refused_named n m k c None is = is refl
refused_named n m k c (Some code) is = tt

method_named : (rs : List Route) (s : PathState) (m : Method91) → method_fault rs s m ≡ None → IsNamed m
method_named rs s (method.BasicConsume queue tag no_local no_ack exclusive no_wait arguments) e = by (nat_le (length tag) 255) refl e
  where
    by : (b : Bool) → nat_le (length tag) 255 ≡ b
        → (if not b || is_tag_used tag s.deliveries.links then Some NOT_ALLOWED else if is_queue_name (queue_or s.queue queue) then None else Some NOT_FOUND) ≡ None → length tag ≤ 255
    by true g f = grind (arith, nat_tests, g)
    by false g f = absurd cc
method_named rs s (method.QueueDeclare queue passive durable exclusive deletes no_wait arguments) e = by (nat_le (length queue) 255) refl e
  where
    by : (b : Bool) → nat_le (length queue) 255 ≡ b → (if not b then Some NOT_ALLOWED else if is_queue_name queue then None else Some NOT_FOUND) ≡ None → length queue ≤ 255
    by true g f = grind (arith, nat_tests, g)
    by false g f = absurd cc
method_named rs s (method.BasicCancel tag no_wait) e = by (nat_le (length tag) 255) refl e
  where
    by : (b : Bool) → nat_le (length tag) 255 ≡ b → (if b then None else Some NOT_ALLOWED) ≡ None → length tag ≤ 255
    by true g f = grind (arith, nat_tests, g)
    by false g f = absurd cc
method_named rs s m e = tt

published_named : (n : ℕ) (m : Method91) (x : machine.Step) (o : Option ℕ) → NamesAre x.1 → NamesAre (refused_by (refused_for n m o) x).1
published_named n m x None is = is
published_named n m x (Some code) is = tt

step_named : (rs : List Route) (ps : List (Option PathState)) (x : machine.Step) → NamesAre (refused_by (refusal_of_want rs ps x.1) x).1
step_named rs ps (c, want.Method n m) = refused_named n m m c (method_fault rs (path_at ps n) m) (method_named rs (path_at ps n) m)
step_named rs ps (c, want.Publish n m d) = published_named n m (c, want.Publish n m d) _ tt
step_named rs ps (c, x) = tt

method_good : (l : ℕ) (es : List PathEvent) (m : Method91) → IsNamed m → names m ≡ true → AllOn (λ (b : List PathEvent). IsGood l) es (method_events m)
method_good l es (method.BasicConsume queue tag no_local no_ack exclusive no_wait arguments) is e = (is, tt)
method_good l es (method.BasicGet queue no_ack) is e = (tt, tt)
method_good l es (method.BasicCancel tag no_wait) is e = (is, tt)
method_good l es (method.QueueDeclare queue passive durable exclusive deletes no_wait arguments) is e = (is, tt)
method_good l es m is e = absurd cc

want_good : (rs : List Route) (l limit n : ℕ) (x : Want91) → NamesAre x → AreGood l (want_events rs limit n x)
want_good rs l limit n x is =
    flat (IsGood l) [] (want_events rs limit n x)
    (want_on (λ (b : List PathEvent). IsGood l) n [] (quiet_good l) rs limit x (λ m e. method_good l [] m (subst NamesAre e is)) (λ address payload back. tt))

told_good : (l : ℕ) (u : ChannelUnit) → IsGood l (told_event u)
told_good l (to_client.Ok x) = tt
told_good l x = tt

-- ---- the life in progress

-- a frame-max was agreed to, and these events fit
abbrev FitsAt : Option ℕ → ℕ → ℕ → List PathEvent → Type 0
FitsAt None l m es = Unit {0}
FitsAt (Some life) l m es = (l ≡ m) × AreGood l es

more_fit : (o : Option ℕ) (l m k : ℕ) (xs es : List PathEvent) → k ≡ m → (l ≡ m → AreGood l xs) → FitsAt o l m es → FitsAt o l k (xs ++ es)
more_fit None l m k xs es e f t = tt
more_fit (Some life) l m k xs es e f t = (t.0 ∙ sym e, all_both (IsGood l) xs es (f t.0) t.1)

-- after a unit of the client the limit is a greater one, or the same
came_more : (o : Option ℕ) (l m k j : ℕ) (xs es : List PathEvent) → l ≤ k → (l ≡ m → k ≡ j) → AreGood k xs → FitsAt o l m es → FitsAt o k j (xs ++ es)
came_more None l m k j xs es le f g t = tt
came_more (Some life) l m k j xs es le f g t = (f t.0, all_both (IsGood k) xs es g (all_still l k es le t.1))

max_only : {c d : Connection} → OnlyChannels c d → d.limits.frame_max ≡ c.limits.frame_max
max_only o = ap (λ (x : Limits). x.frame_max) (limits_only o)

-- what was agreed to stays so, after a unit of the client too
stays_agreed : (limit : ℕ) (c : Connection) (u : Unit91) (x : machine.Step) → Outcome c u x → limit ≡ c.limits.frame_max → limit_after limit x.0 x.1 ≡ x.0.limits.frame_max
stays_agreed limit c u x (Tunes limits e) a = refl
stays_agreed limit c u x (Declines r d o run b) a = a ∙ sym (max_only o)
stays_agreed limit c u x (Drops r d o run b) a = a ∙ sym (max_only o)
stays_agreed limit c u x y a = a

-- one was agreed to before a channel opens
opens_agreed : (limit n : ℕ) (c : Connection) (u : Unit91) (x : machine.Step) → Outcome c u x → Agrees limit c → is_method_on is_channel_open n x.1 ≡ true
    → limit_after limit x.0 x.1 ≡ x.0.limits.frame_max
opens_agreed limit n c u x (Calls k s m run) a f = a.tuned (running_tuned c.phase run)
opens_agreed limit n c u x (Asking k m run) a f = a.tuned (running_tuned c.phase run)
opens_agreed limit n c u x y a f = absurd cc

-- ---- all steps

abbrev max_of : Peers → ℕ
max_of p = p.client.limits.frame_max

close_max : (b : Bool) (c : Connection) → (close_if b c).limits.frame_max ≡ c.limits.frame_max
close_max true c = refl
close_max false c = refl

meaning_max : (m : Meaning) (x : Peers) → max_of (peers_by m x) ≡ max_of x
meaning_max ten.Opened x = by (is_opening x.client)
  where
    by : (b : Bool) → (if b then after_opened (channel_max_in x.container) x.client else x.client).limits.frame_max ≡ max_of x
    by true = refl
    by false = refl
meaning_max (ten.OfSession g q payload) x =
    conn_cases (λ (d : Connection). d.limits.frame_max ≡ max_of x) g q payload x refl refl (max_only (only_closing g x.client))
meaning_max y x = refl

abbrev FitsIn : List Step → ℕ → Type 0
FitsIn h n = FitsAt (path_life h n) (limit_in h) (max_of (peers h)) (path_events h n)

-- all but the units of the client, and the first step
abbrev keeps_max : Step → Bool
keeps_max (Began site number ms) = false
keeps_max (Came u) = false
keeps_max s = true

max_stays : (h : List Step) (s : Step) → keeps_max s ≡ true → max_of (peers (s ∷ h)) ≡ max_of (peers h)
max_stays h (Began site number ms) e = absurd cc
max_stays h (Came u) e = absurd cc
max_stays h (Moment ms) e = close_max (is_limit_reached (connection h) (accepted_in h) ms) (connection h)
max_stays h TakenUp e = by (not (ran_out_in h) && leaving_in h)
  where
    by : (b : Bool) → max_of (if b then peers_left (peers h) else peers h) ≡ max_of (peers h)
    by true = refl
    by false = refl
max_stays h (Heard u) e = by (ran_out_in h)
  where
    by : (b : Bool) → max_of (if b then peers h else peers_heard (peers h) u) ≡ max_of (peers h)
    by true = refl
    by false = meaning_max (meaning_by (container h) u) _
max_stays h (Fed Client) e = refl
max_stays h (Silent Client) e = refl
max_stays h (Joined link.Ok) e = refl
max_stays h (Lost Client how) e = refl
max_stays h (Lost Up loss.Ended) e = refl
max_stays h (Whole Client) e = refl
max_stays h (Gave (ToClient u) text) e = max_only (only_given u (connection h))
max_stays h s e = refl

module _ (within : Within) (received : ReceivedAre) where
  least : (h : List Step) → 8 ≤ max_of (peers h)
  least h = let some : FRAME_MIN_SIZE ≤ max_of (peers h) = (within h).frame_min in omega (arith, some)

  step_good : (h : List Step) (n : ℕ) (s : Step) → keeps_max s ≡ true → AreGood (max_of (peers h)) (step_events n h s)
  step_good h n s e = flat (IsGood l) (path_events h n) (step_events n h s) (by s e)
    where
      l : ℕ
      l = max_of (peers h)

      by : (s : Step) → keeps_max s ≡ true → AllOn (λ (b : List PathEvent). IsGood l) (path_events h n) (step_events n h s)
      by (Began site number ms) e = tt
      by (Came u) e = absurd cc
      by (Gave (ToClient u) text) e = reply_on (λ (b : List PathEvent). IsGood l) n h (quiet_good l) u (told_good l)
      by (Gave (ToUp u) text) e = up_on (λ (b : List PathEvent). IsGood l) n h (quiet_good l) (is_later (connection h) u) u (λ k t is. tt)
      by (Whole Client) e = whole_on (λ (b : List PathEvent). IsGood l) n h (quiet_good l) (going_in h) (λ tag. tt)
      by s e =
          quiet_step (λ (b : List PathEvent). IsGood l) n h (quiet_good l)
          (λ ts payload f. arrival_good received l n (number_at ts 0) (part_in ts) payload (path_at (paths_in h) n) (least h)) s refl

  came_fits : (h : List Step) (n : ℕ) (u : Unit91) → ArePicks h → FitsIn h n → FitsIn (Came u ∷ h) n
  came_fits h n u p t = by (ran_out_in h) (is_method_on is_channel_open n x.1) refl (within (Came u ∷ h))
    where
      x : machine.Step
      x = client_step (routes_in h) (paths_in h) (connection h) u

      o : Outcome (connection h) u x
      o = outcome (routes_in h) (paths_in h) (connection h) u

      limit : ℕ
      limit = limit_after (limit_in h) x.0 x.1

      xs : List PathEvent
      xs = want_events (routes_in h) x.0.limits.frame_max n x.1

      by : (out opens : Bool) → is_method_on is_channel_open n x.1 ≡ opens → AreWithin (if out then peers h else peers_came (peers h) u).client.limits
          → FitsAt (if not out && opens then Some ((peers h).opened + 1) else path_life h n) (if out then limit_in h else limit)
          (max_of (if out then peers h else peers_came (peers h) u)) (if not out && opens then [] else (if out then [] else xs) ++ path_events h n)
      by true b e w = t
      by false true e w = (opens_agreed (limit_in h) n (connection h) u x o (agrees h p) e, tt)
      by false false e w =
          came_more (path_life h n) (limit_in h) (max_of (peers h)) limit x.0.limits.frame_max xs (path_events h n)
          (limit_grows (limit_in h) (connection h) u x o (agrees h p) w) (stays_agreed (limit_in h) (connection h) u x o)
          (want_good (routes_in h) limit x.0.limits.frame_max n x.1 (step_named (routes_in h) (paths_in h) (unit_step (connection h) u))) t

  step_fits : (h : List Step) (n : ℕ) (s : Step) → keeps_max s ≡ true → FitsIn h n
      → FitsAt (path_life h n) (limit_in h) (max_of (peers (s ∷ h))) (step_events n h s ++ path_events h n)
  step_fits h n s e t =
      more_fit (path_life h n) (limit_in h) (max_of (peers h)) (max_of (peers (s ∷ h))) (step_events n h s) (path_events h n) (max_stays h s e)
      (λ f. subst (λ (l : ℕ). AreGood l (step_events n h s)) (sym f) (step_good h n s e)) t

  fits : (n : ℕ) (h : List Step) → ArePicks h → FitsIn h n
  fits n [] p = tt
  fits n (Began site i ms ∷ h) p = subst (λ (x : List Step). FitsIn (Began site i ms ∷ x) n) (sym p.0) tt
  fits n (Came u ∷ h) p = came_fits h n u p.1 (fits n h p.1)
  fits n (s ∷ h) p = step_fits h n s refl (fits n h p.1)

  -- where a life is in progress, the connection has the limit that was agreed to
  pub limit_agreed : (h : List Step) (n life : ℕ) → ArePicks h → path_life h n ≡ Some life → limit_in h ≡ (connection h).limits.frame_max
  limit_agreed h n life p e = (subst (λ (o : Option ℕ). FitsAt o (limit_in h) (max_of (peers h)) (path_events h n)) e (fits n h p)).0

  -- ---- what is due on a channel

  in_life : (h : List Step) (n life : ℕ) → path_life h n ≡ Some life → FitsIn h n → AreGood (limit_in h) (path_events h n)
  in_life h n life e t = (subst (λ (o : Option ℕ). FitsAt o (limit_in h) (max_of (peers h)) (path_events h n)) e t).1

  -- what holds of a new path, and of each after good events
  of_path : (P : PathState → Type 0) (h : List Step) (n : ℕ) → ArePicks h → P (or_no_path None)
      → ((life : ℕ) → AreGood (limit_in h) (path_events h n) → P (after_events life (path_events h n))) → P (path_at (before h).paths n)
  of_path P h n p new lives = by (slot_at (before h).paths n) refl
    where
      living : (s : PathState) → IsLived h n s → P s
      living s l = subst P (sym l.is) (lives l.life (in_life h n l.life l.lives (fits n h p)))

      by : (o : Option PathState) → slot_at (before h).paths n ≡ o → P (or_no_path o)
      by None e = new
      by (Some s) e = living s (lived h n s p e)

  pub deliverable_at : DeliveriesAre → (h : List Step) (n : ℕ) → ArePicks h → AreDeliverable (limit_in h) (path_at (before h).paths n).deliveries
  deliverable_at arrives h n p =
      of_path (λ s. AreDeliverable (limit_in h) s.deliveries) h n p (record { links = tt; list = tt })
      (λ life good. deliverable arrives (limit_in h) life (path_events h n) good)

  -- the name that an answer gives back
  pub name_at : NamesGoBack → DeliveriesAre → (h : List Step) (n : ℕ) → ArePicks h → length (next_name (path_at (before h).paths n)) ≤ 255
  name_at names arrives h n p =
      of_path (λ s. length (next_name s) ≤ 255) h n p (omega arith) (λ life good. name_short names arrives (limit_in h) life (path_events h n) good)
