-- What goes to a client fits it: each unit is short, and no frame-max that is agreed to is less than 4,096.
use Rattle.std.proofs.Common.{Bool, List, Option, Some, [], arith, false, if◌then◌else◌, length, refl, subst, sym}
use Rattle.std.proofs.Common.{true, ℕ, zero, suc, ◌∷◌, ◌≡◌, ◌≤◌, None}
use Rattle.std.proofs.lemmas.List.{length-append}
use Rattle.std.specs.Prelude.{slice_get}
use Rattle.consume_path.specs.Offers.{content_of as content_at}
use Rattle.consume_path.specs.declared.delivery.Content.{Content}
use Rattle.frames_091.specs.Frames.{frame_text}
use Rattle.frames_091.specs.declared.frame.Kind91.TheVariants.{Method}
use Rattle.methods_091.specs.Writing.{method_text}
use Rattle.methods_091.specs.declared.method.Method91.TheVariants.{BasicCancelOk, BasicConsumeOk, BasicDeliver, BasicQosOk}
use Rattle.methods_091.specs.declared.method.Method91.TheVariants.{BasicGetOk, BasicGetEmpty, QueueDeclareOk, BasicRecoverOk}
use Rattle.session_path.specs.Due.{next_name, frame_on, tag_of}
use Rattle.session_path.specs.declared.path.DeliverDue.{DeliverDue}
use Rattle.session_path.specs.declared.path.PathOk.{PathOk}
use Rattle.session_path.specs.declared.path.PathOk.TheVariants as ok
use Rattle.session_path.specs.declared.path.Writing.{Writing}
use Rattle.gate_outside.specs.declared.ports.End.TheVariants.{Client, Up}
use Rattle.machine_091.specs.Limits.{AreWithin}
use Rattle.machine_091.specs.declared.limits.TheConstants.{FRAME_MIN_SIZE}
use Rattle.machine_091.specs.declared.state.Connection.{Connection}
use Rattle.machine_091.specs.declared.unit.Unit91.{Unit91}
use Rattle.machine_091.specs.declared.unit.Want91.{Want91}
use Rattle.machine_091.specs.declared.unit.Want91.TheVariants as want
use Rattle.gate_model.specs.Folds.{Peers, accepted_in, connection, peers, peers_by, peers_came, paths_in, peers_heard, ran_out_in, routes_in}
use Rattle.session_path.specs.Path.{PathState, frames_in, frames_of}
use Rattle.gate_model.specs.Upstream.{meaning_by, channel_max_in}
use Rattle.gate_model.specs.declared.outgoing.Outgoing.TheVariants.{ToClient}
use Rattle.machine_091.specs.Calls.{after_opened, after_closing}
use Rattle.machine_091.specs.State.{is_opening, new_connection}
use Rattle.machine_10.specs.Transitions as ten
use Rattle.machine_10.specs.Transitions.{Meaning}
use Rattle.gate_outside.specs.declared.ports.Linked.TheVariants as link
use Rattle.gate_relay.specs.declared.loss.Loss.TheVariants as loss
use Rattle.gate_model.specs.Frames.{FitsClients, limit_after, limit_in}
use Rattle.close_translate.specs.declared.conditions.Scope.{Scope}
use Rattle.machine_091.specs.Transitions.{unit_step}
use Rattle.machine_091.specs.Transitions as machine
use Rattle.machine_091.specs.declared.unit.Refusal.{Refusal}
use Rattle.gate_model.specs.Requests.{client_step, refusal_of_want, refused_by}
use Rattle.gate_model.specs.State.{Began, Came, Gave, Heard, Joined, Lost, Moment}
use Rattle.gate_model.specs.State.{Step, TakenUp, Whole, close_if, conn_step, before, is_limit_reached, Fed, Silent}
use Rattle.close_translate.specs.declared.conditions.Scope.TheVariants as scope
use Rattle.gate_model.proofs.Connections.{limits_only, only_given}
use Rattle.gate_model.proofs.Outcomes.{OnlyChannels, only_closing}
use Rattle.gate_model.proofs.Sessions.{conn_cases}
use Rattle.gate_model.proofs.Consumers.{AreDeliverable, NamesGoBack, IfFit, consumer_short, content_fits}
use Rattle.gate_model.proofs.Delivering.{ReceivedAre, name_at, deliverable_at}
use Rattle.gate_model.proofs.Fitting.{AreFit, backs_fit, fit_first, frame_long}
use Rattle.gate_model.proofs.Reports.{DeliveriesAre}
use Rattle.gate_model.proofs.Spelled.{spelled_small}
use Rattle.gate_model.specs.Picks.{ArePicks}
use Rattle.gate_model.specs.Publishing.{MayGoBack, Returns, back_in, returned_in}
use Rattle.gate_model.specs.Due.{carries_back, carries_ok, carries_told, deliver_as, deliver_method, or_no_bytes, deliver_from}
use Rattle.gate_model.specs.Paths.{path_at}
use Rattle.gate_model.specs.Spelling.{channel_text, spell_reply}
use Rattle.gate_model.specs.declared.channel.ChannelUnit.{ChannelUnit}
use Rattle.gate_model.specs.declared.channel.ChannelUnit.TheVariants as to_client
use Rattle.gate_model.specs.declared.reply.Reply.{Reply}
use Rattle.gate_model.specs.declared.reply.Reply.TheVariants as reply
use Rattle.gate_model.specs.declared.setup.Route.{Route}

-- no unit of the client takes the limits out of their range
abbrev pub LimitsStay : Type 0
LimitsStay = (c : Connection) (u : Unit91) → AreWithin c.limits → AreWithin (unit_step c u).0.limits

within_only : {c d : Connection} → OnlyChannels c d → AreWithin c.limits → AreWithin d.limits
within_only o m = subst AreWithin (sym (limits_only o)) m

-- nor do its refusals
within_refused : (o : Option Refusal) (x : machine.Step) → AreWithin x.0.limits → AreWithin (refused_by o x).0.limits
within_refused None x m = m
within_refused (Some r) x m = by r.scope
  where
    by : (s : Scope) → AreWithin (after_closing s r.channel x.0).limits
    by scope.Connection = m
    by scope.Channel = within_only (only_closing r.channel x.0) m

within_step : LimitsStay → (rs : List Route) (ps : List (Option PathState)) (c : Connection) (u : Unit91) → AreWithin c.limits → AreWithin (conn_step rs ps c u).limits
within_step l rs ps c u m = within_refused (refusal_of_want rs ps (unit_step c u).1) (unit_step c u) (l c u m)

within_if : (b : Bool) (p q : Peers) → AreWithin p.client.limits → AreWithin q.client.limits → AreWithin (if b then p else q).client.limits
within_if true p q m n = m
within_if false p q m n = n

within_close : (b : Bool) (c : Connection) → AreWithin c.limits → AreWithin (close_if b c).limits
within_close true c m = m
within_close false c m = m

within_meaning : (m : Meaning) (x : Peers) → AreWithin x.client.limits → AreWithin (peers_by m x).client.limits
within_meaning ten.Opened x m = by (is_opening x.client)
  where
    by : (b : Bool) → AreWithin (if b then after_opened (channel_max_in x.container) x.client else x.client).limits
    by true = m
    by false = m
within_meaning (ten.OfSession g q payload) x m =
    conn_cases (λ (d : Connection). AreWithin d.limits) g q payload x m m (within_only (only_closing g x.client) m)
within_meaning y x m = m

within_new : (vhost : List ℕ) → AreWithin (new_connection vhost).limits
within_new vhost = record { frame_min = omega arith; frame_max = omega arith; channel_min = omega arith; channel_max = omega arith }

pub within : LimitsStay → (h : List Step) → AreWithin (connection h).limits
within l [] = within_new []
within l (Began site n ms ∷ h) = within_new site.vhost
within l (Moment ms ∷ h) = within_close (is_limit_reached (connection h) (accepted_in h) ms) (connection h) (within l h)
within l (Fed Client ∷ h) = within l h
within l (Silent Client ∷ h) = within l h
within l (Came u ∷ h) = within_if (ran_out_in h) (peers h) (peers_came (peers h) u) (within l h) (within_step l (routes_in h) (paths_in h) (connection h) u (within l h))
within l (TakenUp ∷ h) = within_if _ _ (peers h) (within l h) (within l h)
within l (Heard u ∷ h) =
    within_if (ran_out_in h) (peers h) (peers_heard (peers h) u) (within l h) (within_meaning (meaning_by (peers h).container u) _ (within l h))
within l (Joined link.Ok ∷ h) = within l h
within l (Lost Up loss.Ended ∷ h) = within l h
within l (Gave (ToClient u) text ∷ h) = within_only (only_given u (connection h)) (within l h)
within l (Whole Client ∷ h) = within l h
within l (s ∷ h) = within l h

after_least : (limit : ℕ) (c : Connection) (w : Want91) → FRAME_MIN_SIZE ≤ limit → AreWithin c.limits → FRAME_MIN_SIZE ≤ limit_after limit c w
after_least limit c want.Tuned old new = new.frame_min
after_least limit c w old new = old

number_if : (b : Bool) (m n : ℕ) → FRAME_MIN_SIZE ≤ m → FRAME_MIN_SIZE ≤ n → FRAME_MIN_SIZE ≤ (if b then m else n)
number_if true m n e f = e
number_if false m n e f = f

-- so the limit of a client
limit_least : LimitsStay → (h : List Step) → FRAME_MIN_SIZE ≤ limit_in h
limit_least l [] = omega arith
limit_least l (Came u ∷ h) =
    number_if (ran_out_in h) (limit_in h) _ (limit_least l h)
    (after_least (limit_in h) (client_step (routes_in h) (paths_in h) (connection h) u).0 (client_step (routes_in h) (paths_in h) (connection h) u).1 (limit_least l h) (within_step l (routes_in h) (paths_in h) (connection h) u (within l h)))
limit_least l (s ∷ h) = limit_least l h

-- ---- what goes of deliveries

-- the method of a deliver, with short names
deliver_small : (tag exchange key : List ℕ) (number : ℕ) (again : Bool) → length tag ≤ 255 → length exchange ≤ 255 → length key ≤ 255
    → length (method_text (BasicDeliver tag number again exchange key)) ≤ 1024
deliver_small tag exchange key number again a b c =
    grind (arith, length-append, a, b, c)

get_ok_small : (exchange key : List ℕ) (number : ℕ) (again : Bool) → length exchange ≤ 255 → length key ≤ 255 → length (method_text (BasicGetOk number again exchange key 0)) ≤ 1024
get_ok_small exchange key number again b c = grind (arith, length-append, b, c)

goes_small : (tag exchange key : List ℕ) (d : DeliverDue) → length tag ≤ 255 → length exchange ≤ 255 → length key ≤ 255 → length (method_text (deliver_from tag d exchange key)) ≤ 1024
goes_small tag exchange key d a b c = by d.get
  where
    by : (get : Bool) → length (method_text (if get then BasicGetOk d.tag d.next.again exchange key 0 else BasicDeliver tag d.tag d.next.again exchange key)) ≤ 1024
    by true = get_ok_small exchange key d.tag d.next.again b c
    by false = deliver_small tag exchange key d.tag d.next.again a b c

named_small : (tag : List ℕ) (d : DeliverDue) (l : ℕ) (o : Option Content) → length tag ≤ 255 → IfFit l o → length (method_text (deliver_as tag d o)) ≤ 1024
named_small tag d l None e f = goes_small tag [] [] d e (omega arith) (omega arith)
named_small tag d l (Some c) e f = goes_small tag c.exchange c.key d e f.exchange f.key

-- an answer to a basic.consume, get, cancel, qos or recover
consume_ok_small : (n : ℕ) (tag : List ℕ) → length tag ≤ 255 → length (channel_text n (BasicConsumeOk tag)) ≤ 512
unfolding frame_text
consume_ok_small n tag short = grind (arith, length-append, short)

cancel_ok_small : (n : ℕ) (tag : List ℕ) → length tag ≤ 255 → length (channel_text n (BasicCancelOk tag)) ≤ 512
unfolding frame_text
cancel_ok_small n tag short = grind (arith, length-append, short)

queue_ok_small : (n : ℕ) (queue : List ℕ) → length queue ≤ 255 → length (channel_text n (QueueDeclareOk queue 0 0)) ≤ 512
unfolding frame_text
queue_ok_small n queue short = grind (arith, length-append, short)

qos_ok_small : (n : ℕ) → length (channel_text n BasicQosOk) ≤ 512
unfolding frame_text
qos_ok_small n = omega arith

none_ok_small : (n : ℕ) → length (channel_text n (BasicGetOk 0 false [] [] 0)) ≤ 512
unfolding frame_text
none_ok_small n = omega arith

empty_ok_small : (n : ℕ) → length (channel_text n BasicGetEmpty) ≤ 512
unfolding frame_text
empty_ok_small n = omega arith

recover_ok_small : (n : ℕ) → length (channel_text n BasicRecoverOk) ≤ 512
unfolding frame_text
recover_ok_small n = omega arith

-- the frames of a content
slice_fits : (l k : ℕ) (xs : List (List ℕ)) → AreFit l xs → length (or_no_bytes (slice_get xs k)) ≤ l
slice_fits l k [] f = omega arith
slice_fits l zero (x ∷ xs) f = f.0
slice_fits l (suc k) (x ∷ xs) f = slice_fits l k xs f.1

frames_fit : (l : ℕ) (o : Option Content) → IfFit l o → AreFit l (frames_in o)
frames_fit l None f = tt
frames_fit l (Some c) f = f.frames

written_fits : (l : ℕ) (o : Option Writing) (s : PathState) → AreDeliverable l s.deliveries → length (or_no_bytes (frame_on o s)) ≤ l
written_fits l None s a = omega arith
written_fits l (Some w) s a = slice_fits l w.gone (frames_of w.id s) (frames_fit l (content_at w.id s.deliveries.list) (content_fits l w.id s.deliveries a))

ok_fits : (l n : ℕ) (x : PathOk) (s : PathState) (text : List ℕ) → FRAME_MIN_SIZE ≤ l → length (next_name s) ≤ 255
    → text ≡ carries_ok s x → length (spell_reply (reply.OnChannel n (to_client.Ok x)) text) ≤ l
ok_fits l n ok.Flow s text le c e = omega (arith, spelled_small (reply.OnChannel n (to_client.Ok ok.Flow)) text refl, le)
ok_fits l n ok.Declare s text le c e = omega (arith, spelled_small (reply.OnChannel n (to_client.Ok ok.Declare)) text refl, le)
ok_fits l n ok.Select s text le c e = omega (arith, spelled_small (reply.OnChannel n (to_client.Ok ok.Select)) text refl, le)
ok_fits l n (ok.Consume k) s text le c e =
    let short : length text ≤ 255 = subst (λ (x : List ℕ). length x ≤ 255) (sym e) c in
    omega (arith, consume_ok_small n text short, le)
ok_fits l n (ok.Qos count global) s text le c e = omega (arith, qos_ok_small n, le)
ok_fits l n ok.Cancel s text le c e =
    let short : length text ≤ 255 = subst (λ (x : List ℕ). length x ≤ 255) (sym e) c in
    omega (arith, cancel_ok_small n text short, le)
ok_fits l n ok.Queue s text le c e =
    let short : length text ≤ 255 = subst (λ (x : List ℕ). length x ≤ 255) (sym e) c in
    omega (arith, queue_ok_small n text short, le)
ok_fits l n ok.Get s text le c e = omega (arith, none_ok_small n, le)
ok_fits l n (ok.Empty link) s text le c e = omega (arith, empty_ok_small n, le)
ok_fits l n ok.Recover s text le c e = omega (arith, recover_ok_small n, le)

-- ---- all that goes

-- a frame of a return is one of those that its publish was taken up with
module _ (stay : LimitsStay) (received : ReceivedAre) (arrives : DeliveriesAre) (names : NamesGoBack) where
  told_fits : (h : List Step) (n : ℕ) (u : ChannelUnit) (text : List ℕ) → ArePicks h → MayGoBack h (reply.OnChannel n u) text
      → text ≡ carries_told (path_at (before h).paths n) u → length (spell_reply (reply.OnChannel n u) text) ≤ limit_in h
  told_fits h n (to_client.Ok x) text p m e =
      ok_fits (limit_in h) n x (path_at (before h).paths n) text (limit_least stay h)
      (name_at (within stay) received names arrives h n p) e
  told_fits h n (to_client.Deliver d) text p m e =
      let s : PathState = path_at (before h).paths n in
      let a : AreDeliverable (limit_in h) s.deliveries = deliverable_at (within stay) received arrives h n p in
      let small : length (method_text (deliver_method s d)) ≤ 1024 =
      named_small (tag_of d.next.link s) d (limit_in h) (content_at d.next.id s.deliveries.list) (consumer_short (limit_in h) d.next.link s.deliveries a)
      (content_fits (limit_in h) d.next.id s.deliveries a) in
      let own : length text ≤ 1024 = subst (λ (x : List ℕ). length x ≤ 1024) (sym e) small in
      omega (arith, frame_long Method n text, own, limit_least stay h)
  told_fits h n (to_client.Content c) text p m e =
      let s : PathState = path_at (before h).paths n in
      subst (λ (x : List ℕ). length x ≤ limit_in h) (sym e) (written_fits (limit_in h) s.writing s (deliverable_at (within stay) received arrives h n p))
  told_fits h n (to_client.Confirm c) text p m e = omega (arith, spelled_small (reply.OnChannel n (to_client.Confirm c)) text refl, limit_least stay h)
  told_fits h n (to_client.Return r) text p m e = fit_first (limit_in h) (returned_in n r.publish h) (back_in n r.publish h) text (backs_fit (within stay) n r.publish h p) m.frame

  goes_fit : (h : List Step) (u : Reply) (text : List ℕ) → ArePicks h → MayGoBack h u text → text ≡ carries_back (before h) u
      → length (spell_reply u text) ≤ limit_in h
  goes_fit h (reply.OnChannel n u) text p m e = told_fits h n u text p m e
  goes_fit h reply.Protocol text p m e = omega (arith, spelled_small reply.Protocol text refl, limit_least stay h)
  goes_fit h reply.Start text p m e = omega (arith, spelled_small reply.Start text refl, limit_least stay h)
  goes_fit h reply.Tune text p m e = omega (arith, spelled_small reply.Tune text refl, limit_least stay h)
  goes_fit h reply.OpenOk text p m e = omega (arith, spelled_small reply.OpenOk text refl, limit_least stay h)
  goes_fit h reply.CloseOk text p m e = omega (arith, spelled_small reply.CloseOk text refl, limit_least stay h)
  goes_fit h (reply.Close r) text p m e = omega (arith, spelled_small (reply.Close r) text refl, limit_least stay h)
  goes_fit h reply.NoMemory text p m e = omega (arith, spelled_small reply.NoMemory text refl, limit_least stay h)
  goes_fit h reply.Heartbeat text p m e = omega (arith, spelled_small reply.Heartbeat text refl, limit_least stay h)
  goes_fit h (reply.ChannelOpenOk n) text p m e = omega (arith, spelled_small (reply.ChannelOpenOk n) text refl, limit_least stay h)
  goes_fit h (reply.ChannelCloseOk n) text p m e = omega (arith, spelled_small (reply.ChannelCloseOk n) text refl, limit_least stay h)
  goes_fit h (reply.CrossedOk n) text p m e = omega (arith, spelled_small (reply.CrossedOk n) text refl, limit_least stay h)
  goes_fit h (reply.ChannelClose n r) text p m e = omega (arith, spelled_small (reply.ChannelClose n r) text refl, limit_least stay h)

  pub fits_clients : (h : List Step) → ArePicks h → Returns h → FitsClients h
  fits_clients [] p r = tt
  fits_clients (Gave (ToClient u) text ∷ h) p r = (goes_fit h u text p.1 r.0 p.0.2, fits_clients h p.1 r.1)
  fits_clients (s ∷ h) p r = fits_clients h p.1 r
