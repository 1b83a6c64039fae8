-- Each channel.flow is answered at most once (AMQP 0-9-1 1.5.2.3): what is due of its answers is what the path of its channel owes.
use Rattle.gate_model.specs.Returns.{back_of}
use Rattle.std.proofs.Common.{◌≡◌, ℕ, zero, suc, ◌+◌, ◌==◌, ◌≤◌, Bool, true, false, ◌&&◌}
use Rattle.std.proofs.Common.{if◌then◌else◌, List, [], ◌∷◌, ◌++◌, Option, None, Some, arith, refl, sym, ap, subst, append-nil, not}
use Rattle.std.specs.Prelude.{drop, map, slice_set}
use Rattle.std.specs.Option.{option_map}
use Rattle.std.proofs.lemmas.Bool.Decides.{nat_tests}
use Rattle.gate_outside.specs.declared.ports.End.TheVariants.{Client, Up}
use Rattle.gate_outside.specs.declared.ports.Linked.TheVariants as link
use Rattle.gate_relay.specs.declared.loss.Loss.TheVariants as loss
use Rattle.machine_091.specs.State.{is_closing, is_opening}
use Rattle.machine_091.specs.declared.state.Connection.{Connection}
use Rattle.machine_091.specs.declared.unit.Refusal.{Refusal}
use Rattle.machine_091.specs.declared.unit.Unit91.{Unit91}
use Rattle.machine_091.specs.declared.unit.Want91.{Want91}
use Rattle.machine_091.specs.declared.unit.Want91.TheVariants as want
use Rattle.machine_10.specs.Parts.{Parts}
use Rattle.machine_10.specs.Reading.{field, number_at, number_in}
use Rattle.machine_10.specs.Transitions as ten
use Rattle.machine_10.specs.Transitions.{Meaning}
use Rattle.machine_10.specs.declared.unit.Unit10.{Unit10}
use Rattle.methods_091.specs.declared.method.Method91.{Method91}
use Rattle.methods_091.specs.declared.method.Method91.TheVariants as method
use Rattle.performatives_10.specs.declared.condition.Condition.{Condition}
use Rattle.session_path.specs.Path as session
use Rattle.consume_path.specs.Deliveries.{LinkAttached}
use Rattle.consume_path.specs.Offers.{next_settle_of, is_drained}
use Rattle.consume_path.specs.declared.delivery.Content.{Content}
use Rattle.consume_path.specs.declared.delivery.NextSettle.{NextSettle}
use Rattle.consume_path.specs.declared.receiving.NextGrant.{NextGrant}
use Rattle.consume_path.specs.declared.receiving.Part.{Part}
use Rattle.consume_path.specs.declared.receiving.TransferFault.{TransferFault}
use Rattle.session_path.specs.Links.{asked_by, attached, named, parted}
use Rattle.session_path.specs.Path.{PathState, begun_if, content_whole, detach_came, disposed_by, dropped_by, end_lost}
use Rattle.session_path.specs.Path.{detaching_of, dropped, flow_in, flowed_by, get_link, got, got_on, grant_in, is_served, outcome_came}
use Rattle.session_path.specs.Path.{queue_or, transferred as transferred_in, granted_by, is_answered, is_grant_next, lines_told, ok_sent}
use Rattle.session_path.specs.Path.{owed, published, receiver_in, answer_on, declares_in, names_by}
use Rattle.session_path.specs.Path.{cancelled, first_of, selected, still_awaited, taking, transferred_on, with_deliveries}
use Rattle.session_path.specs.declared.path.AttachHeard.{AttachHeard}
use Rattle.session_path.specs.declared.path.PathLink.{PathLink}
use Rattle.types_10.specs.Tree.{Tree}
use Rattle.session_path.specs.Due.{next_ok}
use Rattle.close_translate.specs.declared.codes.TheConstants.{CONNECTION_FORCED}
use Rattle.gate_relay.specs.declared.sides.Side.{Side}
use Rattle.gate_relay.specs.declared.sides.Side.TheVariants as side
use Rattle.gate_model.specs.Requests.{message_of, address_of}
use Rattle.property_map.specs.Spelling.{image_text}
use Rattle.gate_model.specs.Picks.{ArePicks}
use Rattle.gate_model.proofs.Basics.{less_both}
use Rattle.gate_model.proofs.Firsts.{OfChannel, goes_as}
use Rattle.gate_model.proofs.Known.{conn_is, known, memory_is, paths_are, routes_are}
use Rattle.gate_model.proofs.Slots.{map_slot, none_there, set_elsewhere}
use Rattle.gate_model.specs.Upstream.{condition_in, heard_up, lost_by, meaning_by}
use Rattle.gate_model.proofs.Sessions.{session_cases}
use Rattle.session_path.specs.declared.path.PathOk.{PathOk}
use Rattle.session_path.specs.declared.path.PathOk.TheVariants as ok
use Rattle.gate_model.specs.declared.channel.ChannelUnit.{ChannelUnit}
use Rattle.gate_model.specs.declared.channel.ChannelUnit.TheVariants as to_client
use Rattle.gate_model.specs.declared.channel.SessionUnit.{SessionUnit}
use Rattle.gate_model.specs.declared.channel.SessionUnit.TheVariants as unit
use Rattle.gate_model.specs.declared.outgoing.Outgoing.TheVariants.{ToClient, ToUp}
use Rattle.gate_model.specs.declared.outgoing.UpUnit.{UpUnit}
use Rattle.gate_model.specs.declared.outgoing.UpUnit.TheVariants as up
use Rattle.gate_model.specs.declared.reply.Reply.{Reply}
use Rattle.gate_model.specs.declared.reply.Reply.TheVariants as reply
use Rattle.gate_model.specs.Folds.{connection, paths_in, ran_out_in}
use Rattle.gate_model.specs.Lives.{is_of_channel}
use Rattle.gate_model.specs.Session.{is_of_session, is_true}
use Rattle.gate_model.specs.Once.{is_channel_flow, is_flow_ok, is_flow_ok_on, is_method_on, one_if, wanted_in, went_in}
use Rattle.gate_model.specs.Paths.{attached_as, closed_path, closed_paths, credit_of, fault_in, heard_as, is_not_found}
use Rattle.gate_model.specs.Paths.{is_outcome, outcome_by, outcome_in, ended_path, lost_path, ended_paths, name_in, no_paths, or_no_path, part_in, path_at}
use Rattle.gate_model.specs.Paths.{slot_at, text_of, told_paths, transferred_by, with_path}
use Rattle.gate_model.specs.State.{is_later, Came, Fed, Gave, Heard, Joined, LinesTold, Lost, Moment, OutOfMemory, conn_step}
use Rattle.gate_model.specs.State.{Queued, Silent, State, Step, TakenUp, Whole, answered_if, before}
use Rattle.gate_model.specs.State.{came, carried, left, lost_up, runs, windowed, dequeued, fail}
use Rattle.gate_model.specs.State.{failed, heard, path_by, path_given, path_heard, path_told, path_wrote, sessions_lost}
use Rattle.gate_model.specs.State.{paths_by, paths_given, paths_given_up, paths_with, paths_wrote, refused_paths, with_meaning}
use Rattle.gate_model.specs.State.{recovered, want_in, paths_lost}
use Rattle.gate_model.specs.declared.setup.Route.{Route}

-- ---- the flow-oks that a path owes

abbrev pub flows_in : List PathOk → ℕ
flows_in [] = 0
flows_in (ok.Flow ∷ os) = flows_in os + 1
flows_in (ok.Declare ∷ os) = flows_in os
flows_in (ok.Select ∷ os) = flows_in os
flows_in (ok.Consume l ∷ os) = flows_in os
flows_in (ok.Qos count global ∷ os) = flows_in os
flows_in (ok.Cancel ∷ os) = flows_in os
flows_in (ok.Queue ∷ os) = flows_in os
flows_in (ok.Get ∷ os) = flows_in os
flows_in (ok.Empty link ∷ os) = flows_in os
flows_in (ok.Recover ∷ os) = flows_in os

-- each is a flow-ok, or none
flows_first : (x : PathOk) (os : List PathOk) → flows_in (x ∷ os) ≡ flows_in os + one_if (is_flow_ok (to_client.Ok x))
flows_first ok.Flow os = refl
flows_first x os = omega arith

flows_more : (os : List PathOk) (x : PathOk) → flows_in (os ++ x ∷ []) ≡ flows_in os + flows_in (x ∷ [])
flows_more [] x = omega arith
flows_more (y ∷ os) x =
    let all = flows_first y (os ++ x ∷ []) in let old = flows_first y os in let more = flows_more os x in omega (arith, all, old, more)

abbrev owed_in : Option PathState → ℕ
owed_in o = flows_in (or_no_path o).oks

abbrev pub flows_due : ℕ → List (Option PathState) → ℕ
flows_due n ps = owed_in (slot_at ps n)

-- ---- a path that is changed

-- a path that is set is found under its number, where there is a place for it
set_here : (ps : List (Option PathState)) (n : ℕ) (o : Option PathState) → owed_in (slot_at (slice_set ps n o) n) ≤ owed_in o
set_here [] zero o = omega arith
set_here [] (suc n) o = omega arith
set_here (x ∷ ps) zero o = omega arith
set_here (x ∷ ps) (suc n) o = set_here ps n o

set_less : (n k : ℕ) (ps : List (Option PathState)) (o : Option PathState) (more : ℕ) → owed_in o ≤ owed_in (slot_at ps k) + more
    → flows_due n (slice_set ps k o) ≤ flows_due n ps + (if k == n then more else 0)
set_less n k ps o more less = by (k == n) refl
  where
    by : (b : Bool) → (k == n) ≡ b → flows_due n (slice_set ps k o) ≤ flows_due n ps + (if b then more else 0)
    by true e =
        let same : k ≡ n = grind (arith, nat_tests, e) in
        let here : owed_in (slot_at (slice_set ps n o) n) ≤ owed_in o = set_here ps n o in
        let old : owed_in o ≤ owed_in (slot_at ps n) + more = subst (λ (m : ℕ). owed_in o ≤ owed_in (slot_at ps m) + more) same less in
        subst (λ (m : ℕ). flows_due n (slice_set ps m o) ≤ flows_due n ps + more) (sym same) (omega (arith, here, old))
    by false e = let same : flows_due n (slice_set ps k o) ≡ flows_due n ps = ap owed_in (set_elsewhere ps k n o e) in omega (arith, same)

changed : (f : PathState → PathState) (more : ℕ) (o : Option PathState) → ((s : PathState) → flows_in (f s).oks ≤ flows_in s.oks + more)
    → owed_in (option_map f o) ≤ owed_in o + more
changed f more None less = omega arith
changed f more (Some s) less = less s

with_more : (n k : ℕ) (ps : List (Option PathState)) (f : PathState → PathState) (more : ℕ) → ((s : PathState) → flows_in (f s).oks ≤ flows_in s.oks + more)
    → flows_due n (with_path k f ps) ≤ flows_due n ps + (if k == n then more else 0)
with_more n k ps f more less = set_less n k ps (option_map f (slot_at ps k)) more (changed f more (slot_at ps k) less)

none_due : (n : ℕ) → 0 + flows_due n no_paths ≤ 0
none_due n = let none : flows_due n no_paths ≡ 0 = ap owed_in (none_there n) in omega (arith, none)

-- one that owes no more
keeps_all : (b : Bool) (x y : ℕ) → x ≤ y + (if b then 0 else 0) → x ≤ y
keeps_all true x y e = omega (arith, e)
keeps_all false x y e = omega (arith, e)

-- a change of a path that adds no flow-ok
AddsNone : (PathState → PathState) → Type 0
AddsNone f = (s : PathState) → flows_in (f s).oks ≤ flows_in s.oks

no_more : (f : PathState → PathState) → AddsNone f → (s : PathState) → flows_in (f s).oks ≤ flows_in s.oks + 0
unfolding AddsNone
no_more f less s = let here : flows_in (f s).oks ≤ flows_in s.oks = less s in omega (arith, here)

with_less : (n k : ℕ) (ps : List (Option PathState)) (f : PathState → PathState) → AddsNone f → flows_due n (with_path k f ps) ≤ flows_due n ps
with_less n k ps f less = keeps_all (k == n) _ _ (with_more n k ps f 0 (no_more f less))

lost_adds : AddsNone lost_path
unfolding AddsNone
lost_adds s = omega arith

left_adds : AddsNone ended_path
unfolding AddsNone
left_adds s = omega arith

closed_adds : AddsNone closed_path
unfolding AddsNone
closed_adds s = omega arith

ended_adds : AddsNone end_lost
unfolding AddsNone
ended_adds s = omega arith

lines_add : AddsNone lines_told
unfolding AddsNone
lines_add s = omega arith

-- all change
each_less : (n : ℕ) (ps : List (Option PathState)) (f : PathState → PathState) → AddsNone f → flows_due n (map (option_map f) ps) ≤ flows_due n ps
unfolding AddsNone
each_less n ps f less = let all : flows_due n (map (option_map f) ps) ≡ owed_in (option_map f (slot_at ps n)) = ap owed_in (map_slot ps n f) in omega (arith, all, by (slot_at ps n))
  where
    by : (o : Option PathState) → owed_in (option_map f o) ≤ owed_in o
    by None = omega arith
    by (Some s) = less s

-- all are lost
lost_less : (n : ℕ) (ps : List (Option PathState)) → flows_due n (ended_paths ps) ≤ flows_due n ps
lost_less n ps = each_less n ps ended_path left_adds

-- all close
closed_less : (n : ℕ) (ps : List (Option PathState)) → flows_due n (closed_paths ps) ≤ flows_due n ps
closed_less n ps = each_less n ps closed_path closed_adds

-- the lines of all were reported
reported_less : (n : ℕ) (ps : List (Option PathState)) → flows_due n (told_paths ps) ≤ flows_due n ps
reported_less n ps = each_less n ps lines_told lines_add

all_lost_less : (n : ℕ) (ps : List (Option PathState)) → flows_due n (paths_lost ps) ≤ flows_due n ps
all_lost_less n ps = less_both _ _ _ (each_less n (told_paths ps) end_lost ended_adds) (reported_less n ps)

fail_less : (n code : ℕ) (why : Option Condition) (w : State) → flows_due n (fail code why w).paths ≤ flows_due n w.paths
fail_less n code why w = by (is_closing w.conn)
  where
    by : (b : Bool) → flows_due n (if b then sessions_lost w else failed code why w).paths ≤ flows_due n w.paths
    by true = lost_less n w.paths
    by false = lost_less n w.paths

-- ---- what the container sends

oks_if : (b : Bool) (s x y : PathState) → flows_in x.oks ≤ flows_in s.oks → flows_in y.oks ≤ flows_in s.oks → flows_in (if b then x else y).oks ≤ flows_in s.oks
oks_if true s x y e f = e
oks_if false s x y e f = f

same_oks : (x s : PathState) → x.oks ≡ s.oks → flows_in x.oks ≤ flows_in s.oks
same_oks x s e = let same : flows_in x.oks ≡ flows_in s.oks = ap flows_in e in omega (arith, same)

-- an answer to a request may be due that waited, which is no flow-ok
asked_none : (link : ℕ) (declares : Bool) → flows_in (answer_on link declares ∷ []) ≡ 0
asked_none link true = refl
asked_none link false = refl

begun_adds : (o : Option PathLink) (a : AttachHeard) (s : PathState) → flows_in (begun_if o a s).oks ≤ flows_in s.oks
begun_adds None a s = omega arith
begun_adds (Some l) a s = by (l.receives && a.there) (is_answered l.link s.awaited)
  where
    by : (b c : Bool) → flows_in (if b then with_deliveries (LinkAttached l.link a.count) (record s {
      oks = s.oks ++ (if c then answer_on l.link (declares_in s.awaited) ∷ [] else []);
      names = s.names ++ names_by l.link s.awaited s.queue s.deliveries;
      awaited = still_awaited l.link s.awaited;
    }) else s).oks ≤ flows_in s.oks
    by true true =
        let more = flows_more s.oks (answer_on l.link (declares_in s.awaited)) in
        let none = asked_none l.link (declares_in s.awaited) in omega (arith, more, none)
    by true false = let same : flows_in (s.oks ++ []) ≡ flows_in s.oks = ap flows_in (append-nil s.oks) in omega (arith, same)
    by false c = omega arith

attach_adds : (o : Option ℕ) (ts : List Tree) (s : PathState) → flows_in (attached_as o ts s).oks ≤ flows_in s.oks
attach_adds None ts s = omega arith
attach_adds (Some name) ts s = begun_adds (asked_by (heard_as ts name) s.links) (heard_as ts name) (record s { links = attached (heard_as ts name) s.links })

-- an answer may be due to a get, which is no flow-ok either
one_adds : (b : Bool) (x : PathOk) (os : List PathOk) → flows_in (x ∷ []) ≡ 0 → flows_in (os ++ (if b then x ∷ [] else [])) ≤ flows_in os
one_adds true x os none = let more = flows_more os x in omega (arith, more, none)
one_adds false x os none = let same : flows_in (os ++ []) ≡ flows_in os = ap flows_in (append-nil os) in omega (arith, same)

flow_adds : (o : Option PathLink) (peer : ℕ) (count : Option ℕ) (credit : ℕ) (drain echo : Bool) (s : PathState) → flows_in (flowed_by o peer count credit drain echo s).oks ≤ flows_in s.oks
flow_adds None peer count credit drain echo s = omega arith
flow_adds (Some l) peer count credit drain echo s = one_adds (is_drained l.link (flow_in l.link count echo s.deliveries).links) (ok.Empty l.link) s.oks refl

taken_adds : (o : Option PathLink) (part : Part) (payload : List ℕ) (image : Option Content) (again : Bool) (s : PathState)
    → flows_in (transferred_on o part payload image again s).oks ≤ flows_in s.oks
taken_adds None part payload image again s = omega arith
taken_adds (Some l) part payload image again s = by (is_served l.link part image s.deliveries) (is_drained l.link (transferred_in l.link part payload image again s.deliveries).links)
  where
    by : (a b : Bool) → flows_in (s.oks ++ (if a then ok.Get ∷ [] else if b then ok.Empty l.link ∷ [] else [])) ≤ flows_in s.oks
    by true b = one_adds true ok.Get s.oks refl
    by false b = one_adds b (ok.Empty l.link) s.oks refl

transfer_adds : (o : Option TransferFault) (limit n peer : ℕ) (part : Part) (payload : List ℕ) (s : PathState)
    → flows_in (transferred_by o limit n peer part payload s).oks ≤ flows_in s.oks
transfer_adds None limit n peer part payload s = taken_adds (taking peer s) part payload _ _ s
transfer_adds (Some fault) limit n peer part payload s = omega arith

outcome_keeps : (ts : List Tree) (s : PathState) → (outcome_by ts s).oks ≡ s.oks
outcome_keeps ts s = by (is_outcome ts)
  where
    by : (b : Bool) → (if b then outcome_came (number_at ts 1) (number_in (field ts 2)) (outcome_in (field ts 4)) (is_true (field ts 3)) s else s).oks ≡ s.oks
    by true = refl
    by false = refl

heard_adds : (limit n : ℕ) (q : Parts) (payload : List ℕ) → AddsNone (path_heard limit n q payload)
unfolding AddsNone
heard_adds limit n q payload s =
    oks_if (q.0 == 17) s (session.began (number_at q.1 4) s) _ (omega arith)
    (oks_if (q.0 == 18) s _ _ (attach_adds (name_in (text_of (field q.1 0))) q.1 s)
    (oks_if (q.0 == 19 && not (is_of_session q.1)) s _ _
    (flow_adds (receiver_in (named (number_at q.1 4) s.links)) (number_at q.1 4) (number_in (field q.1 5)) (credit_of (number_in (field q.1 6))) (is_true (field q.1 8)) (is_true (field q.1 9)) s)
    (oks_if (q.0 == 20) s _ _ (transfer_adds (fault_in q.1 payload s) limit n (number_at q.1 0) (part_in q.1) payload s)
    (oks_if (q.0 == 21) s _ _ (same_oks (outcome_by q.1 s) s (outcome_keeps q.1 s))
    (oks_if (q.0 == 22) s (detach_came (number_at q.1 0) (is_not_found (condition_in (field q.1 2))) s) _ (omega arith)
    (oks_if (q.0 == 23) s (lost_path s) s (omega arith) (omega arith)))))))

meaning_less : (n : ℕ) (m : Meaning) (w : State) → flows_due n (with_meaning m w).paths ≤ flows_due n w.paths
meaning_less n ten.Nothing w = omega arith
meaning_less n ten.Init w = omega arith
meaning_less n ten.AmqpHeader w = omega arith
meaning_less n ten.Opened w = by (is_opening w.conn)
  where
    by : (b : Bool) → flows_due n (if b then runs w else w).paths ≤ flows_due n w.paths
    by true = omega arith
    by false = omega arith
meaning_less n (ten.OfSession g q payload) w =
    session_cases (λ (y : State). flows_due n y.paths ≤ flows_due n w.paths) g q payload w
    (record {
      begins = kept;
      stays = kept;
      ends = λ code why. less_both _ _ _ (with_less n g (carried g q payload w).paths closed_path closed_adds) kept;
      parts = with_less n g w.paths lost_path lost_adds;
      drops = λ code why. less_both _ _ _ (with_less n g (with_path g lost_path w.paths) closed_path closed_adds) (with_less n g w.paths lost_path lost_adds);
      fails = λ why. fail_less n _ why (windowed g q w);
    })
  where
    limit : ℕ
    limit = w.conn.limits.frame_max

    kept : flows_due n (with_path g (path_heard limit g q payload) w.paths) ≤ flows_due n w.paths
    kept = with_less n g w.paths (path_heard limit g q payload) (heard_adds limit g q payload)
meaning_less n (ten.Closed x) w = fail_less n _ _ w
meaning_less n ten.Refused w = fail_less n _ _ w
meaning_less n (ten.Violation x) w = fail_less n _ _ w

heard_less : (n : ℕ) (w : State) (u : Unit10) → flows_due n (if w.out_of_memory then w else heard w u).paths ≤ flows_due n w.paths
heard_less n w u = by w.out_of_memory
  where
    by : (b : Bool) → flows_due n (if b then w else heard w u).paths ≤ flows_due n w.paths
    by true = omega arith
    by false = meaning_less n (meaning_by w.up.container u) (record w { up = heard_up u w.up })

lost_up_less : (n : ℕ) (x : Side) (w : State) → flows_due n (lost_up x w).paths ≤ flows_due n w.paths
lost_up_less n x w =
    less_both _ _ _ (fail_less n CONNECTION_FORCED None (record w { up = lost_by x w.up; paths = paths_lost w.paths })) (all_lost_less n w.paths)

-- ---- what goes to the container

granted_keeps : (b : Bool) (o : Option NextGrant) (s t : PathState) → t.oks ≡ s.oks → (if b then granted_by o s else t).oks ≡ s.oks
granted_keeps true None s t e = refl
granted_keeps true (Some g) s t e = refl
granted_keeps false o s t e = e

disposed_keeps : (o : Option NextSettle) (s : PathState) → (disposed_by o s).oks ≡ s.oks
disposed_keeps None s = refl
disposed_keeps (Some x) s = refl

dropped_keeps : (o : Option PathLink) (s : PathState) → (dropped_by o s).oks ≡ s.oks
dropped_keeps None s = refl
dropped_keeps (Some l) s = by l.receives
  where
    by : (b : Bool) → (if b then dropped l.link s else s).oks ≡ s.oks
    by true = refl
    by false = refl

given_keeps : (u : SessionUnit) (s : PathState) → (path_given u s).oks ≡ s.oks
given_keeps (unit.Attach a) s = refl
given_keeps (unit.Flow f) s = granted_keeps (is_grant_next s) (grant_in s) s _ refl
given_keeps (unit.Transfer t) s = refl
given_keeps (unit.Dispose x) s = disposed_keeps (next_settle_of s.deliveries.list) s
given_keeps (unit.Settle x) s = refl
given_keeps (unit.Detach k handle why) s = dropped_keeps (detaching_of s) (record s { links = parted (detaching_of s) s.links })

given_adds : (u : SessionUnit) → AddsNone (path_given u)
unfolding AddsNone
given_adds u s = same_oks (path_given u s) s (given_keeps u s)

up_less : (later : Bool) (n : ℕ) (u : UpUnit) (ps : List (Option PathState)) → flows_due n (paths_given_up later u ps) ≤ flows_due n ps
up_less later n (up.OnSession k u) ps = with_less n k ps (path_given u) (given_adds u)
up_less true n (up.End k why) ps = reported_less n ps
up_less false n (up.End k why) ps = less_both _ _ _ (with_less n k (told_paths ps) ended_path left_adds) (reported_less n ps)
up_less later n x ps = omega arith

-- ---- a request

one_or : (a b : Bool) (x y : ℕ) → x ≤ y + (if a then one_if b else 0) → x ≤ y + one_if (a && b)
one_or true b x y e = e
one_or false b x y e = e

ok_more : (x : PathOk) (no_wait : Bool) (s : PathState) → flows_in (x ∷ []) ≡ 0 → flows_in (answered_if no_wait x s).oks ≤ flows_in s.oks + 0
ok_more x true s e = omega arith
ok_more x false s e = let more = flows_more s.oks x in omega (arith, e, more)

owed_more : (x : PathOk) (s : PathState) → flows_in (x ∷ []) ≡ 0 → flows_in (owed x s).oks ≤ flows_in s.oks + 0
owed_more x s e = ok_more x false s e

cancel_more : (tag : List ℕ) (no_wait : Bool) (s : PathState) → flows_in (cancelled tag no_wait s).oks ≤ flows_in s.oks + 0
cancel_more tag true s = omega arith
cancel_more tag false s = owed_more ok.Cancel s refl

get_keeps : (o : Option PathLink) (address : List ℕ) (no_ack : Bool) (s : PathState) → (got_on o address no_ack s).oks ≡ s.oks
get_keeps None address no_ack s = refl
get_keeps (Some l) address no_ack s = refl

get_more : (queue : List ℕ) (no_ack : Bool) (s : PathState) → flows_in (got queue no_ack s).oks ≤ flows_in s.oks + 0
get_more queue no_ack s = let same : flows_in (got queue no_ack s).oks ≡ flows_in s.oks = ap flows_in (get_keeps (get_link (queue_or s.queue queue) s) (queue_or s.queue queue) no_ack s) in omega (arith, same)

flow_more : (s : PathState) → flows_in (s.oks ++ ok.Flow ∷ []) ≤ flows_in s.oks + 1
flow_more s = let more = flows_more s.oks ok.Flow in omega (arith, more)

method_more : (n k life : ℕ) (m : Method91) (ps : List (Option PathState)) → flows_due n (paths_with life k m ps) ≤ flows_due n ps + (if k == n then one_if (is_channel_flow m) else 0)
method_more n k life method.ChannelOpen ps = set_less n k ps (Some (session.opened life)) 0 (omega arith)
method_more n k life (method.ChannelFlow active) ps = with_more n k ps (owed ok.Flow) 1 flow_more
method_more n k life (method.ExchangeDeclare name kind passive durable auto_delete internal no_wait arguments) ps =
    with_more n k ps (answered_if no_wait ok.Declare) 0 (λ s. ok_more ok.Declare no_wait s refl)
method_more n k life (method.ConfirmSelect no_wait) ps =
    with_more n k ps (λ s. answered_if no_wait ok.Select (selected s)) 0 (λ s. ok_more ok.Select no_wait (selected s) refl)
method_more n k life (method.BasicGet queue no_ack) ps = with_more n k ps (got queue no_ack) 0 (get_more queue no_ack)
method_more n k life (method.BasicCancel tag no_wait) ps = with_more n k ps (cancelled tag no_wait) 0 (cancel_more tag no_wait)
method_more n k life (method.BasicQos size count global) ps = with_more n k ps (owed (ok.Qos count global)) 0 (λ s. owed_more (ok.Qos count global) s refl)
method_more n k life (method.BasicRecover requeue) ps =
    with_more n k ps (path_by (method.BasicRecover requeue)) 0 (λ s. owed_more ok.Recover (recovered s) refl)
method_more n k life m ps = with_more n k ps (path_by m) 0 (λ s. omega arith)

published_adds : (address text : List ℕ) (back : List (List ℕ)) → AddsNone (published address text back)
unfolding AddsNone
published_adds address text back s = omega arith

refused_less : (n : ℕ) (r : Refusal) (ps : List (Option PathState)) → flows_due n (refused_paths r ps) ≤ flows_due n ps
refused_less n r ps = by (is_of_channel r)
  where
    by : (b : Bool) → flows_due n (if b then with_path r.channel closed_path ps else closed_paths ps) ≤ flows_due n ps
    by true = with_less n r.channel ps closed_path closed_adds
    by false = closed_less n ps

wanted_more : (rs : List Route) (limit n life : ℕ) (x : Want91) (ps : List (Option PathState)) → flows_due n (paths_by rs limit life x ps) ≤ flows_due n ps + one_if (is_method_on is_channel_flow n x)
wanted_more rs limit n life (want.Method k m) ps = one_or (k == n) (is_channel_flow m) _ _ (method_more n k (life + 1) m ps)
wanted_more rs limit n life (want.Publish k m c) ps =
    let less = with_less n k ps (published (address_of rs (message_of m c)) (image_text (message_of m c)) (back_of limit k m (message_of m c))) (published_adds _ _ _) in omega (arith, less)
wanted_more rs limit n life want.Close ps = let less = closed_less n ps in omega (arith, less)
wanted_more rs limit n life (want.Refuse r) ps = let less = refused_less n r ps in omega (arith, less)
wanted_more rs limit n life x ps = omega arith

came_more : (n : ℕ) (w : State) (u : Unit91) (b : Bool) (total went : ℕ) → went + flows_due n w.paths ≤ total
    → went + flows_due n (if b then w else came (dequeued w) u).paths ≤ (if b then total else total + one_if (is_method_on is_channel_flow n (want_in w.routes w.paths w.conn u)))
came_more n w u true total went e = e
came_more n w u false total went e =
    let more = wanted_more w.routes (conn_step w.routes w.paths w.conn u).limits.frame_max n w.opened (want_in w.routes w.paths w.conn u) w.paths in
    omega (arith, e, more)

-- ---- an answer

-- the one that goes to a client on a channel is the first that its path owes
abbrev IsFirstOk : PathState → ChannelUnit → Type 0
IsFirstOk s (to_client.Ok x) = next_ok s ≡ Some x
IsFirstOk s x = Unit {0}

abbrev IsFirstOn : List (Option PathState) → ℕ → ChannelUnit → Type 0
IsFirstOn ps n u = IsFirstOk (path_at ps n) u

-- the answer goes, and its path owes it no more
sent_less : (s : PathState) (x : PathOk) → next_ok s ≡ Some x → flows_in (ok_sent s).oks + one_if (is_flow_ok (to_client.Ok x)) ≤ flows_in s.oks
sent_less s x e = by s.oks x e
  where
    by : (os : List PathOk) (y : PathOk) → first_of os ≡ Some y → flows_in (drop 1 os) + one_if (is_flow_ok (to_client.Ok y)) ≤ flows_in os
    by [] y f = absurd cc
    by (z ∷ os) y f =
        let same : z ≡ y = cc in
        let all : flows_in (y ∷ os) ≡ flows_in os + one_if (is_flow_ok (to_client.Ok y)) = flows_first y os in
        subst (λ (x : PathOk). flows_in os + one_if (is_flow_ok (to_client.Ok y)) ≤ flows_in (x ∷ os)) (sym same) (omega (arith, all))

drop_less : (os : List PathOk) → flows_in (drop 1 os) ≤ flows_in os
drop_less [] = omega arith
drop_less (x ∷ os) = let all = flows_first x os in omega (arith, all)

-- a get-ok is no flow-ok
deliver_less : (b : Bool) (os : List PathOk) → flows_in (if b then drop 1 os else os) + 0 ≤ flows_in os
deliver_less true os = let less = drop_less os in omega (arith, less)
deliver_less false os = omega arith

told_less : (o : Option PathState) (u : ChannelUnit) → IsFirstOk (or_no_path o) u → owed_in (option_map (path_told u) o) + one_if (is_flow_ok u) ≤ owed_in o
told_less None (to_client.Ok x) f = absurd cc
told_less None (to_client.Deliver d) f = omega arith
told_less None (to_client.Content c) f = omega arith
told_less None (to_client.Confirm c) f = omega arith
told_less None (to_client.Return r) f = omega arith
told_less (Some s) (to_client.Ok x) f = sent_less s x f
told_less (Some s) (to_client.Deliver d) f = deliver_less d.get s.oks
told_less (Some s) (to_client.Content c) f = omega arith
told_less (Some s) (to_client.Confirm c) f = omega arith
told_less (Some s) (to_client.Return r) f = omega arith

given_less : (n : ℕ) (u : Reply) (ps : List (Option PathState)) → OfChannel (IsFirstOn ps) u → flows_due n (paths_given u ps) + one_if (is_flow_ok_on n u) ≤ flows_due n ps
given_less n (reply.OnChannel k u) ps o = by (k == n) refl
  where
    told : owed_in (option_map (path_told u) (slot_at ps k)) + one_if (is_flow_ok u) ≤ owed_in (slot_at ps k)
    told = told_less (slot_at ps k) u o

    by : (b : Bool) → (k == n) ≡ b → flows_due n (with_path k (path_told u) ps) + one_if (b && is_flow_ok u) ≤ flows_due n ps
    by true e =
        let same : k ≡ n = grind (arith, nat_tests, e) in
        let set = set_here ps k (option_map (path_told u) (slot_at ps k)) in
        let here : flows_due k (with_path k (path_told u) ps) + one_if (is_flow_ok u) ≤ flows_due k ps = omega (arith, set, told) in
        subst (λ (m : ℕ). flows_due m (with_path k (path_told u) ps) + one_if (is_flow_ok u) ≤ flows_due m ps) same here
    by false e = let same : flows_due n (with_path k (path_told u) ps) ≡ flows_due n ps = ap owed_in (set_elsewhere ps k n _ e) in omega (arith, same)
given_less n x ps o = omega arith

-- the last byte of a unit to the client went
wrote_adds : (u : ChannelUnit) → AddsNone (path_wrote u)
unfolding AddsNone
wrote_adds (to_client.Content c) s = oks_if c.last s (content_whole c.tag s) s (omega arith) (omega arith)
wrote_adds x s = omega arith

wrote_less : (n : ℕ) (o : Option Reply) (ps : List (Option PathState)) → flows_due n (paths_wrote o ps) ≤ flows_due n ps
wrote_less n (Some (reply.OnChannel k u)) ps = with_less n k ps (path_wrote u) (wrote_adds u)
wrote_less n o ps = omega arith

-- ---- all steps

pub keeps : (went a b total : ℕ) → b ≤ a → went + a ≤ total → went + b ≤ total
keeps went a b total less e = omega (arith, less, e)

queued_less : (n : ℕ) (w : State) (us : List Unit91) → flows_due n (if w.out_of_memory then w else record w { queue = us }).paths ≤ flows_due n w.paths
queued_less n w us = by w.out_of_memory
  where
    by : (b : Bool) → flows_due n (if b then w else record w { queue = us }).paths ≤ flows_due n w.paths
    by true = omega arith
    by false = omega arith

left_less : (n : ℕ) (w : State) (b : Bool) → flows_due n (if b then left w else w).paths ≤ flows_due n w.paths
left_less n w true = closed_less n w.paths
left_less n w false = omega arith

-- how many flow-oks went, and how many channel.flow were taken up
abbrev flows_went : ℕ → List Step → ℕ
flows_went n h = went_in (is_flow_ok_on n) h

abbrev flows_asked : ℕ → List Step → ℕ
flows_asked n h = wanted_in (is_method_on is_channel_flow n) h

came_counts : (n : ℕ) (u : Unit91) (h : List Step) → ArePicks h → flows_went n h + flows_due n (before h).paths ≤ flows_asked n h
    → flows_went n h + flows_due n (before (Came u ∷ h)).paths ≤ flows_asked n (Came u ∷ h)
came_counts n u h p e =
    subst (λ (rs : List Route). flows_went n h + flows_due n (before (Came u ∷ h)).paths
    ≤ (if ran_out_in h then flows_asked n h else flows_asked n h + one_if (is_method_on is_channel_flow n (want_in rs (paths_in h) (connection h) u))))
    (routes_are (known h p))
    (subst (λ (ps : List (Option PathState)). flows_went n h + flows_due n (before (Came u ∷ h)).paths
    ≤ (if ran_out_in h then flows_asked n h else flows_asked n h + one_if (is_method_on is_channel_flow n (want_in (before h).routes ps (connection h) u))))
    (paths_are (known h p))
    (subst (λ (d : Connection). flows_went n h + flows_due n (before (Came u ∷ h)).paths
    ≤ (if ran_out_in h then flows_asked n h else flows_asked n h + one_if (is_method_on is_channel_flow n (want_in (before h).routes (before h).paths d u))))
    (conn_is (known h p))
    (subst (λ (b : Bool). flows_went n h + flows_due n (before (Came u ∷ h)).paths
    ≤ (if b then flows_asked n h else flows_asked n h + one_if (is_method_on is_channel_flow n (want_in (before h).routes (before h).paths (before h).conn u))))
    (memory_is (known h p)) (came_more n (before h) u (before h).out_of_memory (flows_asked n h) (flows_went n h) e))))

counts : (n : ℕ) (h : List Step) → ArePicks h → flows_went n h + flows_due n (before h).paths ≤ flows_asked n h
counts n [] p = none_due n
counts n (Moment ms ∷ h) p = keeps _ _ _ _ (reported_less n (before h).paths) (counts n h p.1)
counts n (Fed Client ∷ h) p = keeps _ _ _ _ (reported_less n (before h).paths) (counts n h p.1)
counts n (Fed Up ∷ h) p = keeps _ _ _ _ (reported_less n (before h).paths) (counts n h p.1)
counts n (Silent Client ∷ h) p = keeps _ _ _ _ (closed_less n (before h).paths) (counts n h p.1)
counts n (Silent Up ∷ h) p = keeps _ _ _ _ (fail_less n _ _ _) (counts n h p.1)
counts n (Queued u ∷ h) p = keeps _ _ _ _ (queued_less n (before h) _) (counts n h p.1)
counts n (Came u ∷ h) p = came_counts n u h p.1 (counts n h p.1)
counts n (TakenUp ∷ h) p = keeps _ _ _ _ (left_less n (before h) _) (counts n h p.1)
counts n (Heard u ∷ h) p = keeps _ _ _ _ (heard_less n (before h) u) (counts n h p.1)
counts n (Joined link.Ok ∷ h) p = keeps _ _ _ _ (reported_less n (before h).paths) (counts n h p.1)
counts n (Joined link.Failed ∷ h) p = keeps _ _ _ _ (less_both _ _ _ (fail_less n _ None _) (reported_less n (before h).paths)) (counts n h p.1)
counts n (Lost Client loss.Ended ∷ h) p = counts n h p.1
counts n (Lost Up loss.Ended ∷ h) p = keeps _ _ _ _ (lost_up_less n side.Ended (before h)) (counts n h p.1)
counts n (Lost Up loss.Failed ∷ h) p = keeps _ _ _ _ (lost_up_less n side.Failed (before h)) (counts n h p.1)
counts n (Lost Up loss.Shut ∷ h) p = keeps _ _ _ _ (all_lost_less n (before h).paths) (counts n h p.1)
counts n (Gave (ToClient u) text ∷ h) p =
    let less = given_less n u (before h).paths (goes_as (IsFirstOn (before h).paths) (before h) u (record {
      answer = λ k x e. e;
      deliver = λ k d e. tt;
      content = λ k c e. tt;
      confirm = λ k c e. tt;
      back = λ k r e. tt;
    }) p.0.1) in
    let old = counts n h p.1 in
    omega (arith, less, old)
counts n (Gave (ToUp u) text ∷ h) p = keeps _ _ _ _ (up_less (is_later (before h).conn u) n u (before h).paths) (counts n h p.1)
counts n (Whole Client ∷ h) p = keeps _ _ _ _ (wrote_less n (before h).in_progress (before h).paths) (counts n h p.1)
counts n (LinesTold ∷ h) p = keeps _ _ _ _ (reported_less n (before h).paths) (counts n h p.1)
counts n (OutOfMemory ∷ h) p = keeps _ _ _ _ (closed_less n (before h).paths) (counts n h p.1)
counts n (s ∷ h) p = counts n h p.1

pub flows_once : (n : ℕ) (h : List Step) → ArePicks h → went_in (is_flow_ok_on n) h ≤ wanted_in (is_method_on is_channel_flow n) h
flows_once n h p = let all = counts n h p in omega (arith, all)
