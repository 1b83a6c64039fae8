-- The path of a channel is what the events of its life in progress make of it.
use Rattle.std.proofs.Common.{◌≡◌, ℕ, ◌+◌, ◌==◌, ◌<◌, ◌≤◌, Bool, true, false, not, ◌&&◌}
use Rattle.std.proofs.Common.{if◌then◌else◌, List, [], ◌∷◌, ◌++◌, length, map, Option, None, Some}
use Rattle.std.proofs.Common.{option_map, refl, sym, ap, ◌∙◌, subst, arith}
use Rattle.std.proofs.lemmas.Bool.Decides.{nat_tests}
use Rattle.close_translate.specs.declared.conditions.Scope.{Scope}
use Rattle.close_translate.specs.declared.conditions.Scope.TheVariants as scope
use Rattle.gate_outside.specs.declared.ports.End.TheVariants.{Client, Up}
use Rattle.gate_outside.specs.declared.ports.Linked.TheVariants as link
use Rattle.gate_relay.specs.declared.loss.Loss.TheVariants as loss
use Rattle.machine_091.specs.State.{is_open}
use Rattle.machine_091.specs.declared.limits.TheConstants.{CHANNEL_MAX}
use Rattle.consume_path.specs.declared.receiving.Part.{Part}
use Rattle.consume_path.specs.declared.receiving.TransferFault.{TransferFault}
use Rattle.machine_091.specs.declared.unit.Refusal.{Refusal}
use Rattle.machine_091.specs.declared.unit.Unit91.{Unit91}
use Rattle.machine_091.specs.declared.unit.Want91.{Want91}
use Rattle.machine_091.specs.declared.unit.Want91.TheVariants as want
use Rattle.machine_10.specs.Parts.{Parts}
use Rattle.machine_10.specs.Reading.{field, number_at}
use Rattle.machine_10.specs.Transitions as ten
use Rattle.machine_10.specs.Transitions.{Meaning}
use Rattle.machine_10.specs.declared.unit.Unit10.{Unit10}
use Rattle.types_10.specs.Tree.{Tree}
use Rattle.methods_091.specs.declared.method.Method91.{Method91}
use Rattle.methods_091.specs.declared.method.Method91.TheVariants as method
use Rattle.property_map.specs.Spelling.{image_text}
use Rattle.session_path.specs.Events as event
use Rattle.session_path.specs.Events.{PathEvent, after_event, after_events}
use Rattle.session_path.specs.Path.{PathState, end_lost, opened, published, selected, lines_told}
use Rattle.session_path.specs.declared.path.PathOk.{PathOk}
use Rattle.session_path.specs.declared.path.PathOk.TheVariants as ok
use Rattle.gate_model.specs.declared.channel.ChannelUnit.{ChannelUnit}
use Rattle.gate_model.specs.declared.channel.ChannelUnit.TheVariants as to_client
use Rattle.gate_model.specs.declared.channel.SessionUnit.{SessionUnit}
use Rattle.gate_model.specs.declared.channel.SessionUnit.TheVariants as unit
use Rattle.gate_model.specs.declared.outgoing.Outgoing.TheVariants.{ToClient, ToUp}
use Rattle.gate_model.specs.declared.outgoing.UpUnit.{UpUnit}
use Rattle.gate_model.specs.declared.outgoing.UpUnit.TheVariants as up
use Rattle.gate_model.specs.declared.reply.Reply.{Reply}
use Rattle.gate_model.specs.declared.reply.Reply.TheVariants as reply
use Rattle.gate_model.specs.Folds.{Peers, container, ended_on, leaving_in}
use Rattle.gate_model.specs.Folds.{paths_in, peers, peers_by, peers_came, peers_failed, peers_heard}
use Rattle.gate_model.specs.Folds.{carried_on, going_in, peers_closed, peers_ended, peers_left, peers_lost, peers_parted, peers_scoped}
use Rattle.gate_model.specs.Folds.{connection, peers_told, ran_out_in, routes_in, scope_in}
use Rattle.gate_model.specs.Once.{is_channel_open, is_method_on}
use Rattle.gate_model.specs.Paths.{attached_as, closed_path, closed_paths, fault_in, is_outcome, lost_path, ended_paths, name_in}
use Rattle.gate_model.specs.Paths.{no_paths, or_no_path, part_in, path_at, set_path, slot_at, text_of, transferred_by, told_paths, with_path}
use Rattle.gate_model.specs.Picks.{ArePicks}
use Rattle.gate_model.specs.Publishing.{attach_events, closed_if, closing, failing, given_event, heard_events}
use Rattle.gate_model.specs.Publishing.{ending, losing, losing_up, meaning_events, method_events, owed_unless}
use Rattle.gate_model.specs.Publishing.{path_events, path_life, refusal_events, reply_events, session_events}
use Rattle.gate_model.specs.Publishing.{step_events, told_event, transfer_event, up_events, want_events, wrote_event, wrote_events}
use Rattle.gate_model.specs.Requests.{message_of, address_of}
use Rattle.gate_model.specs.Returns.{back_of}
use Rattle.gate_model.specs.Lives.{is_of_channel}
use Rattle.gate_model.specs.Session.{is_of_session}
use Rattle.gate_model.specs.State.{is_later, Began, Came, Fed, Gave, Heard, Joined, Lost, OutOfMemory}
use Rattle.gate_model.specs.State.{Queued, Silent, Step, TakenUp, Whole, answered_if, before, closing_code, conn_step}
use Rattle.gate_model.specs.State.{path_by, path_given, path_heard, path_told, path_wrote, paths_by}
use Rattle.gate_model.specs.State.{paths_given, paths_given_up, paths_lost, paths_with, paths_wrote, refused_paths, want_in}
use Rattle.gate_model.specs.Upstream.{container_by, meaning_by}
use Rattle.gate_model.proofs.Known.{known, paths_are}
use Rattle.gate_model.proofs.Slots.{map_long, map_slot, none_long, none_there, set_elsewhere, set_here, set_long, with_here}
use Rattle.gate_model.specs.declared.setup.Route.{Route}
use Rattle.gate_model.specs.Paths.{ended_path}

-- ---- events on top of others

abbrev pub after_all : List PathEvent → PathState → PathState
after_all [] s = s
after_all (x ∷ xs) s = after_event x (after_all xs s)

on_top : (life : ℕ) (xs h : List PathEvent) → after_events life (xs ++ h) ≡ after_all xs (after_events life h)
on_top life [] h = refl
on_top life (x ∷ xs) h = ap (after_event x) (on_top life xs h)

both_all : (ys xs : List PathEvent) (s : PathState) → after_all (ys ++ xs) s ≡ after_all ys (after_all xs s)
both_all [] xs s = refl
both_all (y ∷ ys) xs s = ap (after_event y) (both_all ys xs s)

-- ---- what events make of the path of one channel

-- there are as many paths as before, and that of n is after these events
record Goes (n : ℕ) (ps : List (Option PathState)) (xs : List PathEvent) (qs : List (Option PathState)) : Type 0 where
  slot : slot_at qs n ≡ option_map (after_all xs) (slot_at ps n)
  long : length qs ≡ length ps

stays : (n : ℕ) (ps : List (Option PathState)) → Goes n ps [] ps
stays n ps = record { slot = by (slot_at ps n); long = refl }
  where
    by : (o : Option PathState) → o ≡ option_map (after_all []) o
    by None = refl
    by (Some s) = refl

behind : {n : ℕ} {ps qs rs : List (Option PathState)} {xs ys : List PathEvent} → Goes n ps xs qs → Goes n qs ys rs → Goes n ps (ys ++ xs) rs
behind {n} {ps} {qs} {rs} {xs} {ys} g k = record {
  slot = k.slot ∙ ap (option_map (after_all ys)) g.slot ∙ by (slot_at ps n);
  long = k.long ∙ g.long;
}
  where
    by : (o : Option PathState) → option_map (after_all ys) (option_map (after_all xs) o) ≡ option_map (after_all (ys ++ xs)) o
    by None = refl
    by (Some s) = ap Some (sym (both_all ys xs s))

same_at : (f g : PathState → PathState) (o : Option PathState) → f (or_no_path o) ≡ g (or_no_path o) → option_map f o ≡ option_map g o
same_at f g None e = refl
same_at f g (Some s) e = ap Some e

-- of one channel alone
changes_at : (n k : ℕ) (ps : List (Option PathState)) (f : PathState → PathState) (xs : List PathEvent) → f (path_at ps k) ≡ after_all xs (path_at ps k)
    → Goes n ps (if k == n then xs else []) (with_path k f ps)
changes_at n k ps f xs e = by (k == n) refl
  where
    by : (b : Bool) → (k == n) ≡ b → Goes n ps (if b then xs else []) (with_path k f ps)
    by true g =
        let same : k ≡ n = grind (arith, nat_tests, g) in
        subst (λ (m : ℕ). Goes m ps xs (with_path k f ps)) same
        (record { slot = with_here ps k f ∙ same_at f (after_all xs) (slot_at ps k) e; long = set_long ps k _ })
    by false g = record { slot = set_elsewhere ps k n _ g ∙ (stays n ps).slot; long = set_long ps k _ }

changes : (n k : ℕ) (ps : List (Option PathState)) (f : PathState → PathState) (xs : List PathEvent) → ((s : PathState) → f s ≡ after_all xs s)
    → Goes n ps (if k == n then xs else []) (with_path k f ps)
changes n k ps f xs e = changes_at n k ps f xs (e (path_at ps k))

-- of all
each_lost : (n : ℕ) (ps : List (Option PathState)) → Goes n ps (event.SessionEnded ∷ []) (ended_paths ps)
each_lost n ps = record { slot = map_slot ps n ended_path; long = map_long ps ended_path }

each_told : (n : ℕ) (ps : List (Option PathState)) → Goes n ps (event.LinesWent ∷ []) (told_paths ps)
each_told n ps = record { slot = map_slot ps n lines_told; long = map_long ps lines_told }

each_ended : (n : ℕ) (ps : List (Option PathState)) → Goes n ps (event.UpLost ∷ []) (map (option_map end_lost) ps)
each_ended n ps = record { slot = map_slot ps n end_lost; long = map_long ps end_lost }

each_closed : (n : ℕ) (ps : List (Option PathState)) → Goes n ps (event.LifeClosed ∷ []) (closed_paths ps)
each_closed n ps = record { slot = map_slot ps n closed_path; long = map_long ps closed_path }

all_lost : (n : ℕ) (ps : List (Option PathState)) → Goes n ps losing_up (paths_lost ps)
all_lost n ps = behind (each_told n ps) (each_ended n (told_paths ps))

-- ---- what fails

fails : (n : ℕ) (p : Peers) → Goes n p.paths failing (peers_failed p).paths
fails n p = each_lost n p.paths

falls : (n : ℕ) (p : Peers) → Goes n p.paths (failing ++ losing_up) (peers_lost p).paths
falls n p = behind (all_lost n p.paths) (fails n (record p { paths = paths_lost p.paths }))

-- there is no way to the container
misses : (n : ℕ) (p : Peers) → Goes n p.paths losing (peers_failed (peers_told p)).paths
misses n p = behind (each_told n p.paths) (fails n (peers_told p))

-- a channel
idles : (n k : ℕ) (ps : List (Option PathState)) → Goes n ps (if k == n then [] else []) ps
idles n k ps = by (k == n)
  where
    by : (b : Bool) → Goes n ps (if b then [] else []) ps
    by true = stays n ps
    by false = stays n ps

shuts : (n k : ℕ) (p : Peers) (b : Bool) → Goes n p.paths (if k == n then closed_if b else []) (ended_on b k closed_path p).paths
shuts n k p true = changes n k p.paths closed_path (event.LifeClosed ∷ []) (λ s. refl)
shuts n k p false = idles n k p.paths

-- ---- what the container sends

if_is : (b : Bool) (xs ys : List PathEvent) (x y s : PathState) → x ≡ after_all xs s → y ≡ after_all ys s
    → (if b then x else y) ≡ after_all (if b then xs else ys) s
if_is true xs ys x y s e f = e
if_is false xs ys x y s e f = f

attach_is : (o : Option ℕ) (ts : List Tree) (s : PathState) → attached_as o ts s ≡ after_all (attach_events o ts) s
attach_is None ts s = refl
attach_is (Some name) ts s = refl

transfer_is : (o : Option TransferFault) (limit n peer : ℕ) (part : Part) (payload : List ℕ) (s : PathState)
    → transferred_by o limit n peer part payload s ≡ after_event (transfer_event o limit n peer part payload s) s
transfer_is None limit n peer part payload s = refl
transfer_is (Some fault) limit n peer part payload s = refl

heard_is : (limit n : ℕ) (q : Parts) (payload : List ℕ) (s : PathState) → path_heard limit n q payload s ≡ after_all (heard_events limit n q payload s) s
heard_is limit n q payload s =
    if_is (q.0 == 17) _ _ _ _ s refl
    (if_is (q.0 == 18) _ _ _ _ s (attach_is (name_in (text_of (field q.1 0))) q.1 s)
    (if_is (q.0 == 19 && not (is_of_session q.1)) _ _ _ _ s refl
    (if_is (q.0 == 20) _ _ _ _ s (transfer_is (fault_in q.1 payload s) limit n (number_at q.1 0) (part_in q.1) payload s)
    (if_is (q.0 == 21) _ _ _ _ s (if_is (is_outcome q.1) _ _ _ _ s refl refl)
    (if_is (q.0 == 22) _ _ _ _ s refl
    (if_is (q.0 == 23) _ _ _ _ s refl refl))))))

joins : (b : Bool) (xs ys : List PathEvent) → (if b then ys else []) ++ (if b then xs else []) ≡ (if b then ys ++ xs else [])
joins true xs ys = refl
joins false xs ys = refl

ends : (n k : ℕ) (p : Peers) → Goes n p.paths (if k == n then ending p.client k else []) (peers_ended k closed_path (peers_parted k p)).paths
ends n k p =
    subst (λ (xs : List PathEvent). Goes n p.paths xs (peers_ended k closed_path (peers_parted k p)).paths) (joins (k == n) (event.SessionLost ∷ []) (closed_if (is_open p.client k)))
    (behind (changes n k p.paths lost_path (event.SessionLost ∷ []) (λ s. refl)) (shuts n k (peers_parted k p) (is_open p.client k)))

session_is : (n k : ℕ) (q : Parts) (payload : List ℕ) (p : Peers) (o : Option Scope)
    → Goes n p.paths (session_events p.client o n k q payload (path_at p.paths k)) (peers_scoped o k q payload p).paths
session_is n k q payload p None =
    subst (λ (xs : List PathEvent). Goes n p.paths xs (peers_scoped None k q payload p).paths) (joins (k == n) xs _)
    (behind (changes_at n k p.paths (path_heard limit k q payload) xs (heard_is limit k q payload (path_at p.paths k)))
    (by (q.0 == 17) (closing_code q payload (path_at p.paths k))))
  where
    limit : ℕ
    limit = p.client.limits.frame_max

    xs : List PathEvent
    xs = heard_events limit k q payload (path_at p.paths k)

    heard : Peers
    heard = record p { paths = with_path k (path_heard limit k q payload) p.paths }

    closes : (code : Option ℕ) → Goes n heard.paths (if k == n then closing code p.client k else []) (peers_closed k code heard).paths
    closes None = idles n k heard.paths
    closes (Some code) = shuts n k heard (is_open p.client k)

    by : (a : Bool) (code : Option ℕ) → Goes n heard.paths (if k == n then (if a then [] else closing code p.client k) else [])
        (if a then heard else peers_closed k code heard).paths
    by true code = idles n k heard.paths
    by false code = closes code
session_is n k q payload p (Some scope.Connection) = fails n p
session_is n k q payload p (Some scope.Channel) = ends n k p

meaning_is : (n : ℕ) (m : Meaning) (p : Peers) → Goes n p.paths (meaning_events p n m) (peers_by m p).paths
meaning_is n (ten.OfSession k q payload) p = session_is n k q payload (record p { carried = carried_on k q p.carried }) (scope_in p k q payload)
meaning_is n (ten.Closed e) p = fails n p
meaning_is n ten.Refused p = fails n p
meaning_is n (ten.Violation why) p = fails n p
meaning_is n x p = stays n p.paths

heard_goes : (n : ℕ) (h : List Step) (u : Unit10) → Goes n (paths_in h) (step_events n h (Heard u)) (paths_in (Heard u ∷ h))
heard_goes n h u = by (ran_out_in h)
  where
    by : (b : Bool) → Goes n (paths_in h) (if b then [] else meaning_events (peers h) n (meaning_by (container h) u))
        (if b then peers h else peers_heard (peers h) u).paths
    by true = stays n (paths_in h)
    by false = meaning_is n (meaning_by (container h) u) (record (peers h) { container = container_by (container h) u })

-- ---- what goes

told_is : (u : ChannelUnit) (s : PathState) → path_told u s ≡ after_event (told_event u) s
told_is (to_client.Ok x) s = refl
told_is x s = refl

reply_is : (n : ℕ) (u : Reply) (ps : List (Option PathState)) → Goes n ps (reply_events n u) (paths_given u ps)
reply_is n (reply.OnChannel k u) ps = changes n k ps (path_told u) (told_event u ∷ []) (told_is u)
reply_is n x ps = stays n ps

given_is : (u : SessionUnit) (s : PathState) → path_given u s ≡ after_event (given_event u) s
given_is (unit.Attach a) s = refl
given_is x s = refl

up_is : (later : Bool) (n : ℕ) (u : UpUnit) (ps : List (Option PathState)) → Goes n ps (up_events later n u) (paths_given_up later u ps)
up_is later n (up.OnSession k u) ps = changes n k ps (path_given u) (given_event u ∷ []) (given_is u)
up_is true n (up.End k why) ps = each_told n ps
up_is false n (up.End k why) ps =
    subst (λ (xs : List PathEvent). Goes n ps xs (with_path k ended_path (told_paths ps))) (by (k == n))
    (behind (each_told n ps) (changes n k (told_paths ps) ended_path (event.SessionEnded ∷ []) (λ s. refl)))
  where
    by : (b : Bool) → (if b then event.SessionEnded ∷ [] else []) ++ event.LinesWent ∷ [] ≡ (if b then losing else event.LinesWent ∷ [])
    by true = refl
    by false = refl
up_is later n x ps = stays n ps

-- the last byte of a unit to the client went
wrote_is : (u : ChannelUnit) (s : PathState) → path_wrote u s ≡ after_all (wrote_event u) s
wrote_is (to_client.Content c) s = if_is c.last (event.ContentWhole c.tag ∷ []) [] _ _ s refl refl
wrote_is x s = refl

wrote_goes : (n : ℕ) (o : Option Reply) (ps : List (Option PathState)) → Goes n ps (wrote_events n o) (paths_wrote o ps)
wrote_goes n (Some (reply.OnChannel k u)) ps = changes n k ps (path_wrote u) (wrote_event u) (wrote_is u)
wrote_goes n o ps = stays n ps

-- ---- the life in progress

-- the path of n is that of this life after these events
pub record Tells (ps : List (Option PathState)) (n : ℕ) (o : Option ℕ) (es : List PathEvent) : Type 0 where
  pub slot : n ≤ CHANNEL_MAX → slot_at ps n ≡ option_map (λ (life : ℕ). after_events life es) o
  pub long : length ps ≡ 256

goes_on : {n : ℕ} {ps qs : List (Option PathState)} {o : Option ℕ} {es xs : List PathEvent} → Tells ps n o es → Goes n ps xs qs → Tells qs n o (xs ++ es)
goes_on {n} {ps} {qs} {o} {es} {xs} t g =
    record { slot = λ e. g.slot ∙ ap (option_map (after_all xs)) (t.slot e) ∙ by o; long = g.long ∙ t.long }
  where
    by : (o' : Option ℕ) → option_map (after_all xs) (option_map (λ (life : ℕ). after_events life es) o') ≡ option_map (λ (life : ℕ). after_events life (xs ++ es)) o'
    by None = refl
    by (Some life) = ap Some (sym (on_top life xs es))

-- ---- what a client asks for

answered_is : (no_wait : Bool) (x : PathOk) (s : PathState) → answered_if no_wait x s ≡ after_all (owed_unless no_wait (event.Owed x)) s
answered_is true x s = refl
answered_is false x s = refl

selected_is : (no_wait : Bool) (s : PathState)
    → answered_if no_wait ok.Select (selected s) ≡ after_all (owed_unless no_wait (event.Owed ok.Select) ++ event.Selected ∷ []) s
selected_is true s = refl
selected_is false s = refl

abbrev TellsBy : List (Option PathState) → ℕ → Bool → ℕ → Option ℕ → List PathEvent → List PathEvent → Type 0
TellsBy qs n opens life o xs es = Tells qs n (if opens then Some life else o) (if opens then [] else xs ++ es)

not_opened : (b : Bool) {qs : List (Option PathState)} {n : ℕ} (life : ℕ) {o : Option ℕ} (xs es : List PathEvent) → Tells qs n o (xs ++ es) → TellsBy qs n (b && false) life o xs es
not_opened true life xs es t = t
not_opened false life xs es t = t

opens_it : (n k life : ℕ) (ps : List (Option PathState)) (o : Option ℕ) (es : List PathEvent) → Tells ps n o es
    → TellsBy (set_path k (opened life) ps) n ((k == n) && true) life o (if k == n then [] else []) es
opens_it n k life ps o es t = by (k == n) refl
  where
    long : length (set_path k (opened life) ps) ≡ 256
    long = set_long ps k _ ∙ t.long

    by : (b : Bool) → (k == n) ≡ b → TellsBy (set_path k (opened life) ps) n (b && true) life o (if b then [] else []) es
    by true g =
        let same : k ≡ n = grind (arith, nat_tests, g) in
        record {
          slot = λ e.
              let most : CHANNEL_MAX ≡ 255 = refl in
              let many : length ps ≡ 256 = t.long in
              let less : n < length ps = omega (arith, e, many, most) in
              subst (λ (m : ℕ). slot_at (set_path m (opened life) ps) n ≡ Some (opened life)) (sym same) (set_here ps n (opened life) less);
          long = long;
        }
    by false g = record { slot = λ e. set_elsewhere ps k n _ g ∙ t.slot e; long = long }

method_tells : (n k life : ℕ) (m : Method91) (ps : List (Option PathState)) (o : Option ℕ) (es : List PathEvent) → Tells ps n o es
    → TellsBy (paths_with life k m ps) n ((k == n) && is_channel_open m) life o (if k == n then method_events m else []) es
method_tells n k life method.ChannelOpen ps o es t = opens_it n k life ps o es t
method_tells n k life (method.ChannelFlow active) ps o es t = not_opened (k == n) life _ es (goes_on t (changes n k ps _ (event.Owed ok.Flow ∷ []) (λ s. refl)))
method_tells n k life (method.ExchangeDeclare name kind passive durable deletes internal no_wait arguments) ps o es t =
    not_opened (k == n) life _ es (goes_on t (changes n k ps _ _ (answered_is no_wait ok.Declare)))
method_tells n k life (method.ConfirmSelect no_wait) ps o es t = not_opened (k == n) life _ es (goes_on t (changes n k ps _ _ (selected_is no_wait)))
method_tells n k life (method.BasicConsume queue tag no_local no_ack exclusive no_wait arguments) ps o es t =
    not_opened (k == n) life _ es (goes_on t (changes n k ps _ (event.Consumed queue tag no_ack no_wait ∷ []) (λ s. refl)))
method_tells n k life (method.QueueDeclare queue passive durable exclusive deletes no_wait arguments) ps o es t =
    not_opened (k == n) life _ es (goes_on t (changes n k ps _ (event.Declared queue no_wait ∷ []) (λ s. refl)))
method_tells n k life (method.BasicGet queue no_ack) ps o es t =
    not_opened (k == n) life _ es (goes_on t (changes n k ps (path_by (method.BasicGet queue no_ack)) (method_events (method.BasicGet queue no_ack)) (λ s. refl)))
method_tells n k life (method.BasicCancel tag no_wait) ps o es t =
    not_opened (k == n) life _ es (goes_on t (changes n k ps (path_by (method.BasicCancel tag no_wait)) (method_events (method.BasicCancel tag no_wait)) (λ s. refl)))
method_tells n k life (method.BasicQos size count global) ps o es t =
    not_opened (k == n) life _ es (goes_on t (changes n k ps (path_by (method.BasicQos size count global)) (method_events (method.BasicQos size count global)) (λ s. refl)))
method_tells n k life (method.BasicAck tag multiple) ps o es t =
    not_opened (k == n) life _ es (goes_on t (changes n k ps (path_by (method.BasicAck tag multiple)) (method_events (method.BasicAck tag multiple)) (λ s. refl)))
method_tells n k life (method.BasicReject tag requeue) ps o es t =
    not_opened (k == n) life _ es (goes_on t (changes n k ps (path_by (method.BasicReject tag requeue)) (method_events (method.BasicReject tag requeue)) (λ s. refl)))
method_tells n k life (method.BasicNack tag multiple requeue) ps o es t =
    not_opened (k == n) life _ es (goes_on t (changes n k ps (path_by (method.BasicNack tag multiple requeue)) (method_events (method.BasicNack tag multiple requeue)) (λ s. refl)))
method_tells n k life (method.BasicRecover requeue) ps o es t =
    not_opened (k == n) life _ es (goes_on t (changes n k ps (path_by (method.BasicRecover requeue)) (method_events (method.BasicRecover requeue)) (λ s. refl)))
method_tells n k life (method.BasicRecoverAsync requeue) ps o es t =
    not_opened (k == n) life _ es (goes_on t (changes n k ps (path_by (method.BasicRecoverAsync requeue)) (method_events (method.BasicRecoverAsync requeue)) (λ s. refl)))
method_tells n k life (method.ChannelClose code text class id) ps o es t =
    not_opened (k == n) life _ es (goes_on t (changes n k ps closed_path (event.LifeClosed ∷ []) (λ s. refl)))
method_tells n k life m ps o es t = not_opened (k == n) life _ es (goes_on t (changes n k ps (λ s. s) [] (λ s. refl)))

refused_goes : (n : ℕ) (r : Refusal) (ps : List (Option PathState)) → Goes n ps (refusal_events n r) (refused_paths r ps)
refused_goes n r ps = by (is_of_channel r)
  where
    by : (b : Bool) → Goes n ps (if b then (if r.channel == n then event.LifeClosed ∷ [] else []) else event.LifeClosed ∷ [])
        (if b then with_path r.channel closed_path ps else closed_paths ps)
    by true = changes n r.channel ps closed_path (event.LifeClosed ∷ []) (λ s. refl)
    by false = each_closed n ps

want_tells : (rs : List Route) (limit n life : ℕ) (x : Want91) (ps : List (Option PathState)) (o : Option ℕ) (es : List PathEvent) → Tells ps n o es
    → TellsBy (paths_by rs limit life x ps) n (is_method_on is_channel_open n x) (life + 1) o (want_events rs limit n x) es
want_tells rs limit n life (want.Method k m) ps o es t = method_tells n k (life + 1) m ps o es t
want_tells rs limit n life (want.Publish k m c) ps o es t = goes_on t (changes n k ps (published (address_of rs (message_of m c)) (image_text (message_of m c)) (back_of limit k m (message_of m c))) _ (λ s. refl))
want_tells rs limit n life want.Close ps o es t = goes_on t (each_closed n ps)
want_tells rs limit n life (want.Refuse r) ps o es t = goes_on t (refused_goes n r ps)
want_tells rs limit n life x ps o es t = t

-- ---- all steps

abbrev pub TellsIn : List Step → ℕ → Type 0
TellsIn h n = Tells (paths_in h) n (path_life h n) (path_events h n)

tells_new : (n : ℕ) → Tells no_paths n None []
tells_new n = record { slot = λ e. none_there n; long = none_long }

came_tells : (n : ℕ) (u : Unit91) (h : List Step) → TellsIn h n → TellsIn (Came u ∷ h) n
came_tells n u h t = by (ran_out_in h)
  where
    x : Want91
    x = want_in (routes_in h) (paths_in h) (connection h) u

    limit : ℕ
    limit = (conn_step (routes_in h) (paths_in h) (connection h) u).limits.frame_max

    by : (b : Bool) → TellsBy (if b then peers h else peers_came (peers h) u).paths n (not b && is_method_on is_channel_open n x) ((peers h).opened + 1)
        (path_life h n) (if b then [] else want_events (routes_in h) limit n x) (path_events h n)
    by true = t
    by false = want_tells (routes_in h) limit n (peers h).opened x (paths_in h) (path_life h n) (path_events h n) t

taken_tells : (n : ℕ) (h : List Step) → TellsIn h n → TellsIn (TakenUp ∷ h) n
taken_tells n h t = by (not (ran_out_in h) && leaving_in h)
  where
    by : (b : Bool) → Tells (if b then peers_left (peers h) else peers h).paths n (path_life h n) (closed_if b ++ path_events h n)
    by true = goes_on t (each_closed n (paths_in h))
    by false = t

pub tells : (n : ℕ) (h : List Step) → ArePicks h → TellsIn h n
tells n [] p = tells_new n
tells n (Began site number ms ∷ h) p =
    subst (λ (x : List Step). TellsIn (Began site number ms ∷ x) n) (sym p.0) (tells_new n)
tells n (Fed Client ∷ h) p = goes_on (tells n h p.1) (each_told n (paths_in h))
tells n (Silent Client ∷ h) p = goes_on (tells n h p.1) (each_closed n (paths_in h))
tells n (Silent Up ∷ h) p = goes_on (tells n h p.1) (fails n (peers h))
tells n (Queued u ∷ h) p = tells n h p.1
tells n (Came u ∷ h) p = came_tells n u h (tells n h p.1)
tells n (TakenUp ∷ h) p = taken_tells n h (tells n h p.1)
tells n (Heard u ∷ h) p = goes_on (tells n h p.1) (heard_goes n h u)
tells n (Joined link.Failed ∷ h) p = goes_on (tells n h p.1) (misses n (peers h))
tells n (Lost Client how ∷ h) p = tells n h p.1
tells n (Lost Up loss.Ended ∷ h) p = goes_on (tells n h p.1) (falls n (peers h))
tells n (Lost Up loss.Failed ∷ h) p = goes_on (tells n h p.1) (falls n (peers h))
tells n (Lost Up loss.Shut ∷ h) p = goes_on (tells n h p.1) (all_lost n (paths_in h))
tells n (Gave (ToClient u) text ∷ h) p = goes_on (tells n h p.1) (reply_is n u (paths_in h))
tells n (Gave (ToUp u) text ∷ h) p = goes_on (tells n h p.1) (up_is (is_later (connection h) u) n u (paths_in h))
tells n (Whole Client ∷ h) p = goes_on (tells n h p.1) (wrote_goes n (going_in h) (paths_in h))
tells n (Whole Up ∷ h) p = tells n h p.1
tells n (OutOfMemory ∷ h) p = goes_on (tells n h p.1) (each_closed n (paths_in h))
tells n (s ∷ h) p = goes_on (tells n h p.1) (each_told n (paths_in h))

pub path_is : (h : List Step) (n : ℕ) → ArePicks h → n ≤ CHANNEL_MAX
    → slot_at (before h).paths n ≡ option_map (λ (life : ℕ). after_events life (path_events h n)) (path_life h n)
path_is h n p e = ap (λ (ps : List (Option PathState)). slot_at ps n) (paths_are (known h p)) ∙ (tells n h p).slot e
