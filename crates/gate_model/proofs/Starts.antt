-- The client of a consumer's deliver was told the consumer's tag.
use Rattle.std.proofs.Common.{◌≡◌, ◌∙◌, ◌⊎◌, inl, inr, ℕ, ◌+◌, ◌≤◌, ◌==◌, not, ◌&&◌, ◌||◌, Bool, true, false, if◌then◌else◌, List, [], ◌∷◌, ◌++◌, drop}
use Rattle.std.proofs.Common.{Option, None, Some, refl, sym, ap, subst, arith}
use Rattle.std.proofs.lemmas.Slice.Eq.{bytes_eq-Decides}
use Rattle.std.specs.List.{AllByRecursion}
use Rattle.std.specs.Option.{option_map, option_or}
use Rattle.std.specs.Prelude.{IfSome, bytes_eq}
use Rattle.consume_path.specs.Deliveries as on
use Rattle.consume_path.specs.Deliveries.{DeliveryEvent, DeliveryState}
use Rattle.consume_path.specs.Journal.{IsTaken, fate_of, is_closed, waits}
use Rattle.consume_path.specs.Links.{in_link, link_attached, link_of, new_link, tag_by, tag_in, transfer_came}
use Rattle.consume_path.specs.Offers.{is_drained, is_for_gets, next_settle_of, serves_gets}
use Rattle.consume_path.specs.declared.delivery.NextSettle.{NextSettle}
use Rattle.consume_path.specs.declared.delivery.Taker.{Taker}
use Rattle.consume_path.specs.declared.receiving.NextGrant.{NextGrant}
use Rattle.consume_path.specs.declared.receiving.ReceivingLink.{ReceivingLink}
use Rattle.consume_path.specs.declared.receiving.RecvKind.{RecvKind}
use Rattle.consume_path.specs.declared.receiving.RecvKind.TheVariants.{Consumer, Get, Probe}
use Rattle.session_path.specs.Due.{is_get_ok, next_deliver, next_name, next_ok, or_no_name}
use Rattle.session_path.specs.Events as event
use Rattle.session_path.specs.Events.{PathEvent, after_event, after_events, begins, deliveries_of, delivery_events}
use Rattle.session_path.specs.Laws.{AreHeard, oks_owed, oks_sent}
use Rattle.session_path.specs.Links.{asked_by, attached, free_number, named, parted, told_on}
use Rattle.session_path.specs.Path.{PathState, answer_on, begun_if, begun_on, declares_in, detaching_of, disposed_by, dropped, dropped_by, empty_oks, first_of, flow_in, flow_of, flowed_by}
use Rattle.session_path.specs.Path.{get_link, gives_name, got_on, grant_in, granted_by, is_answered, is_grant_next, is_served, name_in, names_by, oks_by}
use Rattle.session_path.specs.Path.{queue_or, receiver_in, still_awaited, tag_for, taking, transfer_oks, transferred, transferred_on}
use Rattle.session_path.specs.declared.path.AttachHeard.{AttachHeard}
use Rattle.session_path.specs.declared.path.Awaited.{Awaited}
use Rattle.session_path.specs.declared.path.DeliverDue.{DeliverDue}
use Rattle.session_path.specs.declared.path.PathLink.{PathLink}
use Rattle.session_path.specs.declared.path.PathOk.{PathOk}
use Rattle.session_path.specs.declared.path.PathOk.TheVariants as ok
use Rattle.session_path.proofs.Ties.{eq_to}
use Rattle.gate_model.specs.Behind.{AreAnswered, MayDeliver}
use Rattle.gate_model.specs.Credits.{is_consumer}
use Rattle.gate_model.specs.declared.channel.ChannelUnit.TheVariants as to_client
use Rattle.gate_model.specs.declared.outgoing.Outgoing.TheVariants.{ToClient}
use Rattle.gate_model.specs.declared.reply.Reply.{Reply}
use Rattle.gate_model.specs.declared.reply.Reply.TheVariants as reply
use Rattle.gate_model.specs.Due.{carries_back}
use Rattle.gate_model.specs.Paths.{path_at}
use Rattle.gate_model.specs.Picks.{ArePicks}
use Rattle.gate_model.specs.Publishing.{path_events, path_life}
use Rattle.gate_model.specs.Starts.{IsStarted, MayStart, StartsBehind, is_told, tag_asked}
use Rattle.gate_model.specs.State.{Gave, Step, before}
use Rattle.gate_model.proofs.Basics.{and_both, and_left, and_right, or_left, or_right}
use Rattle.gate_model.proofs.Behind.{delivers_behind}
use Rattle.gate_model.proofs.Brought.{each_all, is_plain}
use Rattle.gate_model.proofs.Calm.{waits_open}
use Rattle.gate_model.proofs.Connections.{clash}
use Rattle.gate_model.proofs.Declares.{first_counts}
use Rattle.gate_model.proofs.Delivers.{DeliversAre, GlobalsAre, IsDelivered, TagsAre, is_delivered}
use Rattle.gate_model.proofs.Fates.{IsNext, is_next, path_of}
use Rattle.gate_model.proofs.Firsts.{OfChannel, goes_as}
use Rattle.gate_model.proofs.Getting.{getting_of}
use Rattle.gate_model.proofs.Granting.{CountsAre, DeliveriesAre}
use Rattle.gate_model.proofs.Heard.{AllHold, ClosedAre, events_open, open_heard}
use Rattle.gate_model.proofs.Linking.{counted_anew, link_after, linked, recounts}
use Rattle.gate_model.proofs.Proper.{IsProper, are_proper}
use Rattle.gate_model.proofs.Oks.{AnswersAre, answers_in_order}
use Rattle.gate_model.proofs.Quiet.{is_asked_ok}
use Rattle.gate_model.proofs.Quotas.{equal, number_is}
use Rattle.gate_model.proofs.Rests.{LivesBelow}
use Rattle.gate_model.proofs.Serving.{DuesAre, few, get_goes, gets_both, gets_in, is_due as due_is, is_get, stands}
use Rattle.gate_model.proofs.Settles.{CallsAre}
use Rattle.gate_model.proofs.Standing.{on_such, suits}

-- ---- answers, each with the name that it gives back

abbrev pub is_named : PathOk → Bool
is_named x = gives_name (Some x)

-- each that gives a name has one
abbrev pub are_even : List PathOk → List (List ℕ) → Bool
are_even [] [] = true
are_even [] (n ∷ ns) = false
are_even (x ∷ xs) [] = if is_named x then false else are_even xs []
are_even (x ∷ xs) (n ∷ ns) = if is_named x then are_even xs ns else are_even xs (n ∷ ns)

abbrev is_consume : ℕ → PathOk → Bool
is_consume k (ok.Consume link) = link == k
is_consume k x = false

-- a basic.consume-ok for link k is due that gives this tag back
abbrev is_due : ℕ → List ℕ → List PathOk → List (List ℕ) → Bool
is_due k tag [] ns = false
is_due k tag (x ∷ xs) [] = false
is_due k tag (x ∷ xs) (n ∷ ns) = if is_named x then (is_consume k x && bytes_eq n tag) || is_due k tag xs ns else is_due k tag xs (n ∷ ns)

unnamed : (x : PathOk) (xs : List PathOk) (ns : List (List ℕ)) → is_named x ≡ false → are_even (x ∷ xs) ns ≡ are_even xs ns
unnamed x xs [] e = ap (λ (b : Bool). if b then false else are_even xs []) e
unnamed x xs (n ∷ ns) e = ap (λ (b : Bool). if b then are_even xs ns else are_even xs (n ∷ ns)) e

even_both : (xs ys : List PathOk) (ns ms : List (List ℕ)) → are_even xs ns ≡ true → are_even ys ms ≡ true → are_even (xs ++ ys) (ns ++ ms) ≡ true
even_both [] ys [] ms e f = f
even_both [] ys (n ∷ ns) ms e f = absurd cc
even_both (x ∷ xs) ys [] ms e f = by (is_named x) refl e (λ g. even_both xs ys [] ms g f)
  where
    by : (b : Bool) → is_named x ≡ b → (if b then false else are_even xs []) ≡ true → (are_even xs [] ≡ true → are_even (xs ++ ys) ms ≡ true) → are_even (x ∷ xs ++ ys) ms ≡ true
    by true i g rest = absurd cc
    by false i g rest = unnamed x (xs ++ ys) ms i ∙ rest g
even_both (x ∷ xs) ys (n ∷ ns) ms e f = by (is_named x) e (λ g. even_both xs ys ns ms g f) (λ g. even_both xs ys (n ∷ ns) ms g f)
  where
    by : (b : Bool) → (if b then are_even xs ns else are_even xs (n ∷ ns)) ≡ true → (are_even xs ns ≡ true → are_even (xs ++ ys) (ns ++ ms) ≡ true)
        → (are_even xs (n ∷ ns) ≡ true → are_even (xs ++ ys) (n ∷ ns ++ ms) ≡ true) → (if b then are_even (xs ++ ys) (ns ++ ms) else are_even (xs ++ ys) (n ∷ ns ++ ms)) ≡ true
    by true g less same = less g
    by false g less same = same g

even_drop : (xs : List PathOk) (ns : List (List ℕ)) → are_even xs ns ≡ true → are_even (drop 1 xs) (if gives_name (first_of xs) then drop 1 ns else ns) ≡ true
even_drop [] ns e = e
even_drop (x ∷ xs) [] e = by (is_named x) e
  where
    by : (b : Bool) → (if b then false else are_even xs []) ≡ true → are_even xs (if b then drop 1 [] else []) ≡ true
    by true g = absurd cc
    by false g = g
even_drop (x ∷ xs) (n ∷ ns) e = by (is_named x) e
  where
    by : (b : Bool) → (if b then are_even xs ns else are_even xs (n ∷ ns)) ≡ true → are_even xs (if b then ns else n ∷ ns) ≡ true
    by true g = g
    by false g = g

due_more : (k : ℕ) (tag : List ℕ) (xs ys : List PathOk) (ns ms : List (List ℕ)) → is_due k tag xs ns ≡ true → is_due k tag (xs ++ ys) (ns ++ ms) ≡ true
due_more k tag [] ys ns ms e = absurd cc
due_more k tag (x ∷ xs) ys [] ms e = absurd cc
due_more k tag (x ∷ xs) ys (n ∷ ns) ms e = by (is_named x) (is_consume k x && bytes_eq n tag) e (due_more k tag xs ys ns ms) (due_more k tag xs ys (n ∷ ns) ms)
  where
    by : (b c : Bool) → (if b then c || is_due k tag xs ns else is_due k tag xs (n ∷ ns)) ≡ true → (is_due k tag xs ns ≡ true → is_due k tag (xs ++ ys) (ns ++ ms) ≡ true)
        → (is_due k tag xs (n ∷ ns) ≡ true → is_due k tag (xs ++ ys) (n ∷ ns ++ ms) ≡ true)
        → (if b then c || is_due k tag (xs ++ ys) (ns ++ ms) else is_due k tag (xs ++ ys) (n ∷ ns ++ ms)) ≡ true
    by true true g less same = refl
    by true false g less same = less g
    by false c g less same = same g

due_new : (k : ℕ) (tag : List ℕ) (xs : List PathOk) (ns : List (List ℕ)) → are_even xs ns ≡ true → is_due k tag (xs ++ ok.Consume k ∷ []) (ns ++ tag ∷ []) ≡ true
due_new k tag [] [] e = or_left (k == k && bytes_eq tag tag) false (and_both (k == k) (bytes_eq tag tag) (eq_to k k refl) ((bytes_eq-Decides tag tag).1 refl))
due_new k tag [] (n ∷ ns) e = absurd cc
due_new k tag (x ∷ xs) [] e = by (is_named x) (is_consume k x && bytes_eq tag tag) e (due_new k tag xs [])
  where
    by : (b c : Bool) → (if b then false else are_even xs []) ≡ true → (are_even xs [] ≡ true → is_due k tag (xs ++ ok.Consume k ∷ []) (tag ∷ []) ≡ true)
        → (if b then c || is_due k tag (xs ++ ok.Consume k ∷ []) [] else is_due k tag (xs ++ ok.Consume k ∷ []) (tag ∷ [])) ≡ true
    by true c g rest = absurd cc
    by false c g rest = rest g
due_new k tag (x ∷ xs) (n ∷ ns) e = by (is_named x) (is_consume k x && bytes_eq n tag) e (due_new k tag xs ns) (due_new k tag xs (n ∷ ns))
  where
    by : (b c : Bool) → (if b then are_even xs ns else are_even xs (n ∷ ns)) ≡ true → (are_even xs ns ≡ true → is_due k tag (xs ++ ok.Consume k ∷ []) (ns ++ tag ∷ []) ≡ true)
        → (are_even xs (n ∷ ns) ≡ true → is_due k tag (xs ++ ok.Consume k ∷ []) (n ∷ ns ++ tag ∷ []) ≡ true)
        → (if b then c || is_due k tag (xs ++ ok.Consume k ∷ []) (ns ++ tag ∷ []) else is_due k tag (xs ++ ok.Consume k ∷ []) (n ∷ ns ++ tag ∷ [])) ≡ true
    by true c g less same = or_right c _ (less g)
    by false c g less same = same g

-- the first of them goes
due_drop : (k : ℕ) (tag : List ℕ) (xs : List PathOk) (ns : List (List ℕ)) (x : PathOk) → first_of xs ≡ Some x → is_due k tag xs ns ≡ true
    → ((is_consume k x && bytes_eq (or_no_name (first_of ns)) tag) ≡ true) ⊎ (is_due k tag (drop 1 xs) (if gives_name (first_of xs) then drop 1 ns else ns) ≡ true)
due_drop k tag [] ns x f e = absurd cc
due_drop k tag (y ∷ ys) [] x f e = absurd cc
due_drop k tag (y ∷ ys) (n ∷ ns) x f e =
    let same : y ≡ x = cc in
    subst (λ (z : PathOk). ((is_consume k z && bytes_eq n tag) ≡ true) ⊎ (is_due k tag ys (if is_named y then ns else n ∷ ns) ≡ true)) same (by (is_named y) (is_consume k y && bytes_eq n tag) e)
  where
    by : (b c : Bool) → (if b then c || is_due k tag ys ns else is_due k tag ys (n ∷ ns)) ≡ true → (c ≡ true) ⊎ (is_due k tag ys (if b then ns else n ∷ ns) ≡ true)
    by true true g = inl refl
    by true false g = inr g
    by false c g = inr g

due_some : (k : ℕ) (tag : List ℕ) (xs : List PathOk) (ns : List (List ℕ)) → is_due k tag xs ns ≡ true → first_of xs ≡ None → ⊥
due_some k tag [] ns e f = cc
due_some k tag (x ∷ xs) ns e f = cc

-- ---- what an event adds to them

record Adds (s t : PathState) : Type 0 where
  xs : List PathOk
  ms : List (List ℕ)
  oks : t.oks ≡ s.oks ++ xs
  names : t.names ≡ s.names ++ ms
  even : are_even xs ms ≡ true

nil : {A : Type 0} (xs : List A) → xs ≡ xs ++ []
nil [] = refl
nil (x ∷ xs) = ap (λ (ys : List _). x ∷ ys) (nil xs)

none_more : (s t : PathState) → t.oks ≡ s.oks → t.names ≡ s.names → Adds s t
none_more s t e f = record { xs = []; ms = []; oks = e ∙ nil s.oks; names = f ∙ nil s.names; even = refl }

asked_unnamed : (x : PathOk) → is_asked_ok x ≡ true → are_even (x ∷ []) [] ≡ true
asked_unnamed (ok.Consume k) e = absurd cc
asked_unnamed ok.Cancel e = absurd cc
asked_unnamed ok.Queue e = absurd cc
asked_unnamed x e = refl

empty_unnamed : (b : Bool) (k : ℕ) → are_even (if b then ok.Empty k ∷ [] else []) [] ≡ true
empty_unnamed true k = refl
empty_unnamed false k = refl

attach_adds : (s : PathState) (a : AttachHeard) → Adds s (after_event (event.AttachCame a) s)
attach_adds s a = by (asked_by a s.links)
  where
    by : (o : Option PathLink) → Adds s (begun_if o a (record s { links = attached a s.links }))
    by None = none_more s _ refl refl
    by (Some l) = at (l.receives && a.there)
      where
        even : (b d : Bool) → are_even (if b then (if d then ok.Queue else ok.Consume l.link) ∷ [] else []) (if b then name_in s.awaited s.queue s.deliveries ∷ [] else []) ≡ true
        even true true = refl
        even true false = refl
        even false d = refl

        at : (b : Bool) → Adds s (if b then begun_on l.link a.count (record s { links = attached a s.links }) else record s { links = attached a s.links })
        at true = record {
          xs = oks_by l.link s.awaited;
          ms = names_by l.link s.awaited s.queue s.deliveries;
          oks = refl;
          names = refl;
          even = even (is_answered l.link s.awaited) (declares_in s.awaited);
        }
        at false = none_more s _ refl refl

-- and what waits stays
record Steady (s t : PathState) : Type 0 where
  adds : Adds s t
  awaited : t.awaited ≡ s.awaited

-- a request that waits for its attach isn't changed, and no answer goes
abbrev is_steady : PathEvent → Bool
is_steady (event.Consumed queue tag no_ack no_wait) = false
is_steady (event.Declared queue no_wait) = false
is_steady (event.AttachCame a) = false
is_steady (event.OkSent x) = false
is_steady (event.DeliverSent d) = false
is_steady event.LifeClosed = false
is_steady event.SessionLost = false
is_steady event.SessionEnded = false
is_steady event.UpLost = false
is_steady x = true

alike : (s t : PathState) → t.oks ≡ s.oks → t.names ≡ s.names → t.awaited ≡ s.awaited → Steady s t
alike s t e f g = record { adds = none_more s t e f; awaited = g }

steady : (s : PathState) (x : PathEvent) → IsProper s x → is_steady x ≡ true → Steady s (after_event x s)
steady s (event.Owed x) m e = record { adds = record { xs = x ∷ []; ms = []; oks = refl; names = nil s.names; even = asked_unnamed x m }; awaited = refl }
steady s (event.CancelCame tag no_wait) m e = record { adds = by no_wait; awaited = refl }
  where
    by : (b : Bool) → Adds s (after_event (event.CancelCame tag b) s)
    by true = none_more s _ refl refl
    by false = record { xs = ok.Cancel ∷ []; ms = tag ∷ []; oks = refl; names = refl; even = refl }
steady s (event.GetAsked queue no_ack) m e = by (get_link (queue_or s.queue queue) s)
  where
    by : (o : Option PathLink) → Steady s (got_on o (queue_or s.queue queue) no_ack s)
    by None = alike s _ refl refl refl
    by (Some l) = alike s _ refl refl refl
steady s (event.FlowCame peer count credit drain echo) m e = by (receiver_in (named peer s.links))
  where
    by : (o : Option PathLink) → Steady s (flowed_by o peer count credit drain echo s)
    by None = alike s _ refl refl refl
    by (Some l) = record {
      adds = record {
        xs = empty_oks l.link (flow_in l.link count echo s.deliveries);
        ms = [];
        oks = refl;
        names = nil s.names;
        even = empty_unnamed (is_drained l.link (flow_in l.link count echo s.deliveries).links) l.link;
      };
      awaited = refl;
    }
steady s (event.TransferCame peer part payload image again) m e = by (taking peer s)
  where
    by : (o : Option PathLink) → Steady s (transferred_on o part payload image again s)
    by None = alike s _ refl refl refl
    by (Some l) = record {
      adds = record { xs = transfer_oks l.link part payload image again s.deliveries; ms = []; oks = refl; names = nil s.names; even = even (is_served l.link part image s.deliveries) };
      awaited = refl;
    }
      where
        even : (b : Bool) → are_even (if b then ok.Get ∷ [] else empty_oks l.link (transferred l.link part payload image again s.deliveries)) [] ≡ true
        even true = refl
        even false = empty_unnamed (is_drained l.link (transferred l.link part payload image again s.deliveries).links) l.link
steady s event.LinkFlowSent m e = by (is_grant_next s) (grant_in s)
  where
    by : (b : Bool) (o : Option NextGrant) → Steady s (if b then granted_by o s else record s { links = told_on (flow_of s.publishes.list s.links) s.links })
    by true None = alike s _ refl refl refl
    by true (Some g) = alike s _ refl refl refl
    by false o = alike s _ refl refl refl
steady s event.DisposeSent m e = by (next_settle_of s.deliveries.list)
  where
    by : (o : Option NextSettle) → Steady s (disposed_by o s)
    by None = alike s _ refl refl refl
    by (Some x) = alike s _ refl refl refl
steady s event.DetachSent m e = by (detaching_of s) (record s { links = parted (detaching_of s) s.links }) refl refl refl
  where
    by : (o : Option PathLink) (t : PathState) → t.oks ≡ s.oks → t.names ≡ s.names → t.awaited ≡ s.awaited → Steady s (dropped_by o t)
    by None t f g h = alike s t f g h
    by (Some l) t f g h = at l.receives
      where
        at : (b : Bool) → Steady s (if b then dropped l.link t else t)
        at true = alike s _ f g h
        at false = alike s t f g h
steady s (event.Consumed queue tag no_ack no_wait) m e = absurd cc
steady s (event.Declared queue no_wait) m e = absurd cc
steady s (event.AttachCame a) m e = absurd cc
steady s (event.OkSent x) m e = absurd cc
steady s (event.DeliverSent d) m e = absurd cc
steady s event.LifeClosed m e = absurd cc
steady s event.SessionLost m e = absurd cc
steady s event.SessionEnded m e = absurd cc
steady s event.UpLost m e = absurd cc
steady s x m e = alike s _ refl refl refl

-- the answer to a get gives no name
pub get_first : (o : Option PathOk) → is_get_ok o ≡ true → o ≡ Some ok.Get
get_first None e = absurd cc
get_first (Some x) e = ap Some (by x e)
  where
    by : (x : PathOk) → is_get_ok (Some x) ≡ true → x ≡ ok.Get
    by ok.Get e = refl
    by x e = absurd cc

more_even : (s t : PathState) → Adds s t → are_even s.oks s.names ≡ true → are_even t.oks t.names ≡ true
more_even s t a e = ap (λ (xs : List PathOk). are_even xs t.names) a.oks ∙ ap (are_even (s.oks ++ a.xs)) a.names ∙ even_both s.oks a.xs s.names a.ms e a.even

abbrev pub IsEven : PathState → Type 0
IsEven s = are_even s.oks s.names ≡ true

-- a get-ok takes its own place alone
served_oks : (s : PathState) (d : DeliverDue) → next_deliver s ≡ Some d → (P : List PathOk → Type 0) → P s.oks → (first_of s.oks ≡ Some ok.Get → P (drop 1 s.oks)) → P (if d.get then drop 1 s.oks else s.oks)
served_oks s d e P same less = by d.get refl
  where
    by : (b : Bool) → d.get ≡ b → P (if b then drop 1 s.oks else s.oks)
    by true f = less (get_first (first_of s.oks) ((due_is s d e).may f))
    by false f = same

unnamed_get : (o : Option PathOk) (ns : List (List ℕ)) → o ≡ Some ok.Get → (if gives_name o then drop 1 ns else ns) ≡ ns
unnamed_get o ns e = ap (λ (x : Option PathOk). if gives_name x then drop 1 ns else ns) e

pub evens : (life : ℕ) (es : List PathEvent) → AllHold IsProper life es → IsEven (after_events life es)
evens life [] m = refl
evens life (x ∷ es) m = by x m.0 (evens life es m.1)
  where
    s : PathState
    s = after_events life es

    by : (x : PathEvent) → IsProper s x → IsEven s → IsEven (after_event x s)
    by (event.Consumed queue tag no_ack no_wait) m e = e
    by (event.Declared queue no_wait) m e = e
    by (event.AttachCame a) m e = more_even s _ (attach_adds s a) e
    by (event.OkSent x) m e = even_drop s.oks s.names e
    by (event.DeliverSent d) m e =
        served_oks s d m (λ (xs : List PathOk). are_even xs s.names ≡ true) e (λ f. ap (are_even (drop 1 s.oks)) (sym (unnamed_get (first_of s.oks) s.names f)) ∙ even_drop s.oks s.names e)
    by event.LifeClosed m e = e
    by event.SessionLost m e = e
    by event.SessionEnded m e = e
    by event.UpLost m e = e
    by x m e = more_even s _ (steady s x m refl).adds e

-- ---- a consumer's link after events that attach none and add no consumer's

abbrev is_still : DeliveryEvent → Bool
is_still (on.LinkAdded link kind) = not (is_consumer kind)
is_still (on.LinkAttached link count) = false
is_still y = true

abbrev IsStill : DeliveryEvent → Type 0
IsStill y = is_still y ≡ true

plain_still : (y : DeliveryEvent) → is_plain y ≡ true → IsStill y
plain_still (on.LinkAdded link kind) e = absurd cc
plain_still (on.LinkAttached link count) e = absurd cc
plain_still y e = refl

-- it was there before, and is as it was
record WasThere (o : Option ReceivingLink) (l : ReceivingLink) : Type 0 where
  old : ReceivingLink
  is : o ≡ Some old
  kind : l.kind ≡ old.kind
  attached : l.attached ≡ old.attached

abbrev WasSo : Option ReceivingLink → ReceivingLink → Type 0
WasSo o l = is_consumer l.kind ≡ true → WasThere o l

so_by : (l m : ReceivingLink) → m.kind ≡ l.kind → m.attached ≡ l.attached → WasSo (Some l) m
so_by l m e f c = record { old = l; is = refl; kind = e; attached = f }

so_anew : (b : Bool) (z : DeliveryState) (o p : Option ReceivingLink) → IfSome p (WasSo o) → IfSome (counted_anew b z p) (WasSo o)
so_anew true z o None w = tt
so_anew true z o (Some l) w = λ c. let x = w c in record { old = x.old; is = x.is; kind = x.kind; attached = x.attached }
so_anew false z o p w = w

so_after : (y : DeliveryEvent) (z : DeliveryState) (k : ℕ) (o : Option ReceivingLink) → IsStill y → IfSome (link_after y z k o) (WasSo o)
so_after (on.LinkAdded link kind) z k None e = by (link == k)
  where
    new : (b : Bool) → is_consumer kind ≡ b → not b ≡ true → WasSo None (new_link link kind z.prefetch)
    new true f g = absurd cc
    new false f g = λ c. absurd (clash (is_consumer kind) c f)

    by : (b : Bool) → IfSome (if b then Some (new_link link kind z.prefetch) else None) (WasSo None)
    by true = new (is_consumer kind) refl e
    by false = tt
so_after (on.LinkAdded link kind) z k (Some l) e = so_by l l refl refl
so_after (on.LinkAttached link count) z k o e = absurd cc
so_after (on.TransferCame link part payload) z k None e = by (k == link)
  where
    by : (b : Bool) → IfSome (if b then None else None) (WasSo None)
    by true = tt
    by false = tt
so_after (on.TransferCame link part payload) z k (Some l) e = by (k == link)
  where
    by : (b : Bool) → IfSome (if b then Some (transfer_came part payload l) else Some l) (WasSo (Some l))
    by true = so_by l _ refl refl
    by false = so_by l l refl refl
so_after (on.LinkDropped link) z k None e = by (k == link)
  where
    by : (b : Bool) → IfSome (if b then None else None) (WasSo None)
    by true = tt
    by false = tt
so_after (on.LinkDropped link) z k (Some l) e = by (k == link)
  where
    by : (b : Bool) → IfSome (if b then None else Some l) (WasSo (Some l))
    by true = tt
    by false = so_by l l refl refl
so_after y z k None e = tt
so_after y z k (Some l) e = so_by l _ refl refl

module _ (life k : ℕ) where
  -- the link with number k
  abbrev At : List DeliveryEvent → Option ReceivingLink
  At ds = link_of (on.after_events life ds).links k

  so_all : (ys ds : List DeliveryEvent) → AllByRecursion IsStill ys → IfSome (At (ys ++ ds)) (WasSo (At ds))
  so_all [] ds a = by (At ds) refl
    where
      by : (o : Option ReceivingLink) → At ds ≡ o → IfSome o (WasSo (At ds))
      by None e = tt
      by (Some l) e = λ c. record { old = l; is = e; kind = refl; attached = refl }
  so_all (y ∷ ys) ds a =
      subst (λ (o : Option ReceivingLink). IfSome o (WasSo (At ds))) (sym (linked y z k))
      (so_anew (recounts y) (on.after_event y z) (At ds) (link_after y z k (At (ys ++ ds))) (both (link_after y z k (At (ys ++ ds))) (so_after y z k (At (ys ++ ds)) a.0) (so_all ys ds a.1)))
    where
      z : DeliveryState
      z = on.after_events life (ys ++ ds)

      both : (p : Option ReceivingLink) → IfSome p (WasSo (At (ys ++ ds))) → IfSome (At (ys ++ ds)) (WasSo (At ds)) → IfSome p (WasSo (At ds))
      both None w v = tt
      both (Some l) w v = λ c. let x = w c in one l x c (subst (λ (o : Option ReceivingLink). IfSome o (WasSo (At ds))) x.is v)
        where
          one : (l : ReceivingLink) (x : WasThere (At (ys ++ ds)) l) → is_consumer l.kind ≡ true → WasSo (At ds) x.old → WasThere (At ds) l
          one l x c v = let u = v (ap is_consumer (sym x.kind) ∙ c) in record { old = u.old; is = u.is; kind = x.kind ∙ u.kind; attached = x.attached ∙ u.attached }

  -- ---- a consumer that is there

  -- its client was told, is to be told, or its basic.consume waits
  pub data Tells (tag : List ℕ) (es : List PathEvent) (s : PathState) (attached : Bool) : Type 0 where
    Told : is_told life k tag es ≡ true → Tells tag es s attached
    Due : is_due k tag s.oks s.names ≡ true → Tells tag es s attached
    Awaits : (a : Awaited) → attached ≡ false → s.awaited ≡ Some a → a.link ≡ k → a.declares ≡ false → a.no_wait ≡ false → Tells tag es s attached

  pub record Knows (es : List PathEvent) (t : PathState) (l : ReceivingLink) : Type 0 where
    asked : tag_by l.kind ≡ tag_asked life k es
    tells : Tells (tag_asked life k es) es t l.attached

  abbrev pub IsKnown : List PathEvent → PathState → ReceivingLink → Type 0
  IsKnown es t l = is_consumer l.kind ≡ true → Knows es t l

  known_anew : (b : Bool) (z : DeliveryState) (es : List PathEvent) (t : PathState) (o : Option ReceivingLink) → IfSome o (IsKnown es t) → IfSome (counted_anew b z o) (IsKnown es t)
  known_anew true z es t None w = tt
  known_anew true z es t (Some l) w = λ c. let n = w c in record { asked = n.asked; tells = n.tells }
  known_anew false z es t o w = w

  module _ (deliveries : DeliveriesAre) (es : List PathEvent) where
    abbrev s : PathState
    s = after_events life es

    abbrev ds : List DeliveryEvent
    ds = deliveries_of life es

    abbrev Old : Type 0
    Old = IfSome (At ds) (IsKnown es s)

    abbrev New : PathEvent → Type 0
    New x = IfSome (At (delivery_events s x ++ ds)) (IsKnown (x ∷ es) (after_event x s))

    -- an event that leaves the link, where it leaves what is told
    passed : (x : PathEvent) → AllByRecursion IsStill (delivery_events s x) → tag_asked life k (x ∷ es) ≡ tag_asked life k es
        → ((b : Bool) → Tells (tag_asked life k es) es s b → Tells (tag_asked life k es) (x ∷ es) (after_event x s) b) → Old → New x
    passed x a same tells old = by (At (delivery_events s x ++ ds)) (so_all (delivery_events s x) ds a)
      where
        by : (o : Option ReceivingLink) → IfSome o (WasSo (At ds)) → IfSome o (IsKnown (x ∷ es) (after_event x s))
        by None w = tt
        by (Some l) w = λ c.
            let v = w c in
            let n = (subst (λ (o : Option ReceivingLink). IfSome o (IsKnown es s)) v.is old) (ap is_consumer (sym v.kind) ∙ c) in
            record {
              asked = ap tag_by v.kind ∙ n.asked ∙ sym same;
              tells = subst (λ (t : List ℕ). Tells t (x ∷ es) (after_event x s) l.attached) (sym same)
                  (subst (Tells (tag_asked life k es) (x ∷ es) (after_event x s)) (sym v.attached) (tells v.old.attached n.tells));
            }

    -- one that adds answers alone
    adds_tell : (x : PathEvent) (tag : List ℕ) → is_told life k tag (x ∷ es) ≡ is_told life k tag es → Steady s (after_event x s) → (b : Bool) → Tells tag es s b
        → Tells tag (x ∷ es) (after_event x s) b
    adds_tell x tag same st b (Told e) = Told (same ∙ e)
    adds_tell x tag same st b (Due e) =
        Due (ap (λ (xs : List PathOk). is_due k tag xs (after_event x s).names) st.adds.oks ∙ ap (is_due k tag (s.oks ++ st.adds.xs)) st.adds.names
        ∙ due_more k tag s.oks st.adds.xs s.names st.adds.ms e)
    adds_tell x tag same st b (Awaits a f g i d n) = Awaits a f (st.awaited ∙ g) i d n

    -- an answer goes
    ok_tells : (y : PathOk) (tag : List ℕ) → next_ok s ≡ Some y → (b : Bool) → Tells tag es s b → Tells tag (event.OkSent y ∷ es) (after_event (event.OkSent y) s) b
    ok_tells y tag m b (Told e) = Told (by y)
      where
        by : (y : PathOk) → is_told life k tag (event.OkSent y ∷ es) ≡ true
        by (ok.Consume link) = or_right (link == k && bytes_eq (next_name s) tag) _ e
        by y = e
    ok_tells y tag m b (Due e) = by (due_drop k tag s.oks s.names y m e)
      where
        told : (y : PathOk) → (is_consume k y && bytes_eq (next_name s) tag) ≡ true → is_told life k tag (event.OkSent y ∷ es) ≡ true
        told (ok.Consume link) f = or_left (link == k && bytes_eq (next_name s) tag) _ f
        told y f = absurd cc

        by : ((is_consume k y && bytes_eq (next_name s) tag) ≡ true) ⊎ (is_due k tag (drop 1 s.oks) (if gives_name (first_of s.oks) then drop 1 s.names else s.names) ≡ true)
            → Tells tag (event.OkSent y ∷ es) (after_event (event.OkSent y) s) b
        by (inl f) = Told (told y f)
        by (inr f) = Due f
    ok_tells y tag m b (Awaits a f g i d n) = Awaits a f g i d n

    -- a deliver or a get-ok goes
    deliver_tells : (d : DeliverDue) (tag : List ℕ) → next_deliver s ≡ Some d → (b : Bool) → Tells tag es s b → Tells tag (event.DeliverSent d ∷ es) (after_event (event.DeliverSent d) s) b
    deliver_tells d tag m b (Told e) = Told e
    deliver_tells d tag m b (Due e) = Due (served_oks s d m (λ (xs : List PathOk). is_due k tag xs s.names ≡ true) e (λ f. left f (due_drop k tag s.oks s.names ok.Get f e)))
      where
        left : first_of s.oks ≡ Some ok.Get → ((is_consume k ok.Get && bytes_eq (next_name s) tag) ≡ true) ⊎ (is_due k tag (drop 1 s.oks) (if gives_name (first_of s.oks) then drop 1 s.names else s.names) ≡ true)
            → is_due k tag (drop 1 s.oks) s.names ≡ true
        left f (inl g) = absurd cc
        left f (inr g) = ap (is_due k tag (drop 1 s.oks)) (sym (unnamed_get (first_of s.oks) s.names f)) ∙ g
    deliver_tells d tag m b (Awaits a f g i e n) = Awaits a f g i e n

    -- a queue is declared, where nothing waits
    none_awaits : {T : Type 0} (a : Awaited) → s.awaited ≡ None → s.awaited ≡ Some a → T
    none_awaits a e f = absurd (let wrong : None ≡ Some a = sym e ∙ f in cc)

    declare_tells : (queue : List ℕ) (no_wait : Bool) (tag : List ℕ) → s.awaited ≡ None → (b : Bool) → Tells tag es s b
        → Tells tag (event.Declared queue no_wait ∷ es) (after_event (event.Declared queue no_wait) s) b
    declare_tells queue no_wait tag none b (Told e) = Told e
    declare_tells queue no_wait tag none b (Due e) = Due e
    declare_tells queue no_wait tag none b (Awaits a f g i d n) = none_awaits a none g

    -- a consumer is wanted
    consumed : (queue tag : List ℕ) (no_ack no_wait : Bool) → link_of (on.after_events life ds).links (free_number s.links.links) ≡ None → s.awaited ≡ None → Old
        → New (event.Consumed queue tag no_ack no_wait)
    consumed queue tag no_ack no_wait free none old =
        subst (λ (o : Option ReceivingLink). IfSome o (IsKnown (x ∷ es) (after_event x s))) (sym (linked added z k))
        (known_anew true (on.after_event added z) (x ∷ es) (after_event x s) (link_after added z k (At ds)) (by (m == k) refl (At ds) refl old))
      where
        x : PathEvent
        x = event.Consumed queue tag no_ack no_wait

        m : ℕ
        m = free_number s.links.links

        kind : RecvKind
        kind = Consumer (tag_for tag s.deliveries.links) no_ack

        added : DeliveryEvent
        added = on.LinkAdded m kind

        z : DeliveryState
        z = on.after_events life ds

        tells : (t : List ℕ) (attached : Bool) → (m == k) ≡ false → Tells t es s attached → Tells t (x ∷ es) (after_event x s) attached
        tells t at off (Told e) = Told (ap (λ (c : Bool). if c then no_wait else is_told life k t es) off ∙ e)
        tells t at off (Due e) = Due e
        tells t at off (Awaits a f g i d n) = none_awaits a none g

        new : (b : Bool) → no_wait ≡ b → (m == k) ≡ true → (t : List ℕ) → Tells t (x ∷ es) (after_event x s) false
        new true w i t = Told (ap (λ (c : Bool). if c then no_wait else is_told life k t es) i ∙ w)
        new false w i t = Awaits (record { link = m; declares = false; no_wait = no_wait }) refl refl (equal m k i) refl w

        by : (b : Bool) → (m == k) ≡ b → (o : Option ReceivingLink) → At ds ≡ o → IfSome o (IsKnown es s)
            → IfSome (option_or o (if b then Some (new_link m kind z.prefetch) else None)) (IsKnown (x ∷ es) (after_event x s))
        by true i None e w = λ c. record {
          asked = sym (ap (λ (c : Bool). if c then tag_for tag s.deliveries.links else tag_asked life k es) i);
          tells = new no_wait refl i (tag_asked life k (x ∷ es));
        }
        by true i (Some l) e w = absurd (let wrong : None ≡ Some l = sym free ∙ ap (link_of z.links) (equal m k i) ∙ e in cc)
        by false i None e w = tt
        by false i (Some l) e w = λ c.
            let n = w c in
            let same : tag_asked life k (x ∷ es) ≡ tag_asked life k es = ap (λ (c : Bool). if c then tag_for tag s.deliveries.links else tag_asked life k es) i in
            record { asked = n.asked ∙ sym same; tells = subst (λ (t : List ℕ). Tells t (x ∷ es) (after_event x s) l.attached) (sym same) (tells (tag_asked life k es) l.attached i n.tells) }

    -- the container attaches a link
    attached_so : (a : AttachHeard) → are_even s.oks s.names ≡ true → Old → New (event.AttachCame a)
    attached_so a even old = by (asked_by a s.links)
      where
        x : PathEvent
        x = event.AttachCame a

        t : PathState
        t = record s { links = attached a s.links }

        z : DeliveryState
        z = on.after_events life ds

        same : (tag : List ℕ) (b : Bool) → Tells tag es s b → Tells tag (x ∷ es) t b
        same tag b (Told e) = Told e
        same tag b (Due e) = Due e
        same tag b (Awaits w f g i d n) = Awaits w f g i d n

        still : IfSome (At ds) (IsKnown (x ∷ es) t)
        still = by (At ds) old
          where
            by : (o : Option ReceivingLink) → IfSome o (IsKnown es s) → IfSome o (IsKnown (x ∷ es) t)
            by None w = tt
            by (Some l) w = λ c. let n = w c in record { asked = n.asked; tells = same _ l.attached n.tells }

        -- the link with number j is
        u : ℕ → PathState
        u j = begun_on j a.count t

        tells : (j : ℕ) (r : ReceivingLink) (tag : List ℕ) → At ds ≡ Some r → tag_by r.kind ≡ tag → Tells tag es s r.attached → Tells tag (x ∷ es) (u j) (if r.link == j then true else r.attached)
        tells j r tag f is (Told e) = Told e
        tells j r tag f is (Due e) = Due (due_more k tag s.oks (oks_by j s.awaited) s.names (names_by j s.awaited s.queue s.deliveries) e)
        tells j r tag f is (Awaits w at g i d n) = by (w.link == j) refl
          where
            here : r.link ≡ k
            here = number_is z.links k r f

            by : (b : Bool) → (w.link == j) ≡ b → Tells tag (x ∷ es) (u j) (if r.link == j then true else r.attached)
            by true y = Due (ap (λ (xs : List PathOk). is_due k tag (s.oks ++ xs) (u j).names) answer ∙ ap (λ (ns : List (List ℕ)). is_due k tag (s.oks ++ ok.Consume k ∷ []) (s.names ++ ns)) name ∙ due_new k tag s.oks s.names even)
              where
                goes : (w.link == j && not w.no_wait) ≡ true
                goes = and_both (w.link == j) (not w.no_wait) y (ap not n)

                answer : oks_by j s.awaited ≡ ok.Consume k ∷ []
                answer =
                    ap (oks_by j) g ∙ ap (λ (b : Bool). if b then answer_on j w.declares ∷ [] else []) goes ∙ ap (λ (b : Bool). answer_on j b ∷ []) d
                    ∙ ap (λ (n : ℕ). ok.Consume n ∷ []) (sym (equal w.link j y) ∙ i)

                name : names_by j s.awaited s.queue s.deliveries ≡ tag ∷ []
                name =
                    ap (λ (o : Option Awaited). names_by j o s.queue s.deliveries) g
                    ∙ ap (λ (b : Bool). if b then name_in (Some w) s.queue s.deliveries ∷ [] else []) goes
                    ∙ ap (λ (b : Bool). (if b then s.queue else tag_in (link_of s.deliveries.links w.link)) ∷ []) d
                    ∙ ap (λ (q : DeliveryState). tag_in (link_of q.links w.link) ∷ []) (deliveries life es)
                    ∙ ap (λ (n : ℕ). tag_in (link_of z.links n) ∷ []) i
                    ∙ ap (λ (o : Option ReceivingLink). tag_in o ∷ []) f ∙ ap (λ (n : List ℕ). n ∷ []) is
            by false y =
                Awaits w (ap (λ (b : Bool). if b then true else r.attached) (ap (λ (n : ℕ). n == j) (here ∙ sym i) ∙ y) ∙ at)
                (ap (still_awaited j) g ∙ ap (λ (b : Bool). if b then None else Some w) y) i d n

        begins_so : (j : ℕ) → IfSome (At (on.LinkAttached j a.count ∷ ds)) (IsKnown (x ∷ es) (u j))
        begins_so j =
            subst (λ (o : Option ReceivingLink). IfSome o (IsKnown (x ∷ es) (u j))) (sym (linked (on.LinkAttached j a.count) z k)) (by (At ds) refl old)
          where
            by : (o : Option ReceivingLink) → At ds ≡ o → IfSome o (IsKnown es s) → IfSome (option_map (link_attached j a.count) o) (IsKnown (x ∷ es) (u j))
            by None e w = tt
            by (Some r) e w = λ c. let n = w c in record { asked = n.asked; tells = tells j r (tag_asked life k es) e n.asked n.tells }

        by : (o : Option PathLink) → IfSome (At (begins o a ++ ds)) (IsKnown (x ∷ es) (begun_if o a t))
        by None = still
        by (Some l) = at (l.receives && a.there)
          where
            at : (b : Bool) → IfSome (At ((if b then on.LinkAttached l.link a.count ∷ [] else []) ++ ds)) (IsKnown (x ∷ es) (if b then begun_on l.link a.count t else t))
            at true = begins_so l.link
            at false = still

-- a consumer's client was told, or will be
knows : DeliveriesAre → CallsAre → (life k : ℕ) (es : List PathEvent) → AreHeard life es → AllHold IsProper life es → is_closed (deliveries_of life es) ≡ false
    → IfSome (link_of (on.after_events life (deliveries_of life es)).links k) (IsKnown life k es (after_events life es))
knows deliveries calls life k [] heard met open_yet = tt
knows deliveries calls life k (x ∷ es) heard met open_yet = by x (knows deliveries calls life k es heard.1 met.1 before) heard met.0 open_yet
  where
    s : PathState
    s = after_events life es

    ds : List DeliveryEvent
    ds = deliveries_of life es

    before : is_closed ds ≡ false
    before = events_open life (x ∷ []) es open_yet

    Old : Type 0
    Old = IfSome (link_of (on.after_events life ds).links k) (IsKnown life k es s)

    -- one that adds answers at most
    calm : (x : PathEvent) → Old → AllByRecursion IsStill (delivery_events s x) → tag_asked life k (x ∷ es) ≡ tag_asked life k es
        → ((tag : List ℕ) → is_told life k tag (x ∷ es) ≡ is_told life k tag es) → Steady s (after_event x s)
        → IfSome (link_of (on.after_events life (delivery_events s x ++ ds)).links k) (IsKnown life k (x ∷ es) (after_event x s))
    calm x old a same told st = passed life k deliveries es x a same (adds_tell life k deliveries es x (tag_asked life k es) (told (tag_asked life k es)) st) old

    by : (x : PathEvent) → Old → AreHeard life (x ∷ es) → IsProper s x → is_closed (deliveries_of life (x ∷ es)) ≡ false
        → IfSome (link_of (on.after_events life (delivery_events s x ++ ds)).links k) (IsKnown life k (x ∷ es) (after_event x s))
    by (event.Consumed queue tag no_ack no_wait) old h m o =
        consumed life k deliveries es queue tag no_ack no_wait (calls life (event.Consumed queue tag no_ack no_wait ∷ es) h).0 m old
    by (event.Declared queue no_wait) old h m o =
        passed life k deliveries es (event.Declared queue no_wait) (refl, tt) refl (declare_tells life k deliveries es queue no_wait (tag_asked life k es) m) old
    by (event.AttachCame a) old h m o = attached_so life k deliveries es a (evens life es met.1) old
    by (event.OkSent y) old h m o =
        passed life k deliveries es (event.OkSent y) (each_all IsStill plain_still s (event.OkSent y) tt) refl (ok_tells life k deliveries es y (tag_asked life k es) m) old
    by (event.DeliverSent d) old h m o =
        passed life k deliveries es (event.DeliverSent d) (refl, tt) refl (deliver_tells life k deliveries es d (tag_asked life k es) m) old
    by (event.GetAsked queue no_ack) old h m o =
        calm (event.GetAsked queue no_ack) old (each_all IsStill plain_still s (event.GetAsked queue no_ack) refl) refl (λ tag. refl) (steady s (event.GetAsked queue no_ack) m refl)
    by (event.TransferCame peer part payload image again) old h m o =
        calm (event.TransferCame peer part payload image again) old (each_all IsStill plain_still s (event.TransferCame peer part payload image again) (λ link d. refl)) refl (λ tag. refl)
        (steady s (event.TransferCame peer part payload image again) m refl)
    by (event.CancelCame tag no_wait) old h m o =
        calm (event.CancelCame tag no_wait) old (each_all IsStill plain_still s (event.CancelCame tag no_wait) (λ link. refl)) refl (λ tag. refl) (steady s (event.CancelCame tag no_wait) m refl)
    by event.DetachSent old h m o = calm event.DetachSent old (each_all IsStill plain_still s event.DetachSent (λ link. refl)) refl (λ tag. refl) (steady s event.DetachSent m refl)
    by (event.ContentWhole tag) old h m o = calm (event.ContentWhole tag) old (refl, tt) refl (λ tag. refl) (steady s (event.ContentWhole tag) m refl)
    by event.LifeClosed old h m o = absurd cc
    by event.SessionLost old h m o = absurd cc
    by event.SessionEnded old h m o = absurd cc
    by event.UpLost old h m o = absurd cc
    by y old h m o = calm y old (each_all IsStill plain_still s y tt) refl (λ tag. refl) (steady s y m refl)

-- ---- a deliver that goes

-- a deliver that answers no get came on a consumer's link
record IsOnConsumer (o : Option ReceivingLink) : Type 0 where
  link : ReceivingLink
  is : o ≡ Some link
  kind : is_consumer link.kind ≡ true
  attached : link.attached ≡ true

on_consumer : (o : Option ReceivingLink) (taker : Taker) → in_link (on_such taker) o ≡ true → in_link (λ (l : ReceivingLink). is_for_gets l.kind) o ≡ false → IsOnConsumer o
on_consumer None taker e f = absurd cc
on_consumer (Some l) taker e f = record { link = l; is = refl; kind = by l.kind taker (and_right l.attached (suits l.kind taker) e) f; attached = and_left l.attached _ e }
  where
    by : (kind : RecvKind) (taker : Taker) → suits kind taker ≡ true → is_for_gets kind ≡ false → is_consumer kind ≡ true
    by (Consumer tag no_ack) taker e f = refl
    by Get taker e f = absurd cc
    by Probe taker e f = absurd cc

module _ (deliveries : DeliveriesAre) (closed : ClosedAre) (calls : CallsAre) (counts : CountsAre) (delivers : DeliversAre) (dues : DuesAre) (tags : TagsAre) (globals : GlobalsAre)
    (answers : AnswersAre) (below : LivesBelow) where
  started : (h : List Step) (n life : ℕ) (d : DeliverDue) → ArePicks h → path_life h n ≡ Some life → next_deliver (path_at (before h).paths n) ≡ Some d → d.get ≡ false → AreAnswered h n
      → IsStarted life d.next.link (path_events h n)
  started h n life d p l e f behind = record {
    named = ap (λ (q : DeliveryState). tag_in (link_of q.links k)) (deliveries life es) ∙ ap tag_in c.is ∙ known.asked;
    told = by known.tells;
  }
    where
      es : List PathEvent
      es = path_events h n

      ds : List DeliveryEvent
      ds = deliveries_of life es

      s : PathState
      s = after_events life es

      k : ℕ
      k = d.next.link

      goes : next_deliver s ≡ Some d
      goes = ap next_deliver (sym (path_of h n life p (below h n life l) l)) ∙ e

      due : IsDelivered h n d
      due = is_delivered deliveries delivers tags globals h n d p e

      own : due.life ≡ life
      own = some_is (sym due.lives ∙ l)
        where
          some_is : {i j : ℕ} → Some i ≡ Some j → i ≡ j
          some_is e = cc

      goes_on : is_closed ds ≡ false
      goes_on = subst (λ (j : ℕ). is_closed (deliveries_of j es) ≡ false) own (waits_open (deliveries_of due.life es) d.next.number due.lawful.taken due.lawful.waiting)

      heard : AreHeard life es
      heard = open_heard deliveries closed h n life p (below h n life l) l goes_on

      met : AllHold IsProper life es
      met = are_proper below h n life p l

      such : in_link (on_such (fate_of d.next.number ds).taker) (link_of (on.after_events life ds).links k) ≡ true
      such =
          let st = stands deliveries closed calls counts dues life es heard goes_on d.next.number
          (subst (λ (j : ℕ). IsTaken (deliveries_of j es) d.next.number) own due.lawful.taken)
          (subst (λ (j : ℕ). waits (fate_of d.next.number (deliveries_of j es)) ≡ true) own due.lawful.waiting) in
          st.on k (subst (λ (j : ℕ). (fate_of d.next.number (deliveries_of j es)).link ≡ Some k) own due.lawful.link)

      c : IsOnConsumer (link_of (on.after_events life ds).links k)
      c = on_consumer (link_of (on.after_events life ds).links k) (fate_of d.next.number ds).taker such
          (ap (λ (q : DeliveryState). serves_gets k q.links) (sym (deliveries life es)) ∙ (due_is s d goes).get ∙ f)

      known : Knows life k es s c.link
      known = subst (λ (o : Option ReceivingLink). IfSome o (IsKnown life k es s)) c.is (knows deliveries calls life k es heard met goes_on) c.kind

      -- an answer that is due is one to a get, whose delivery goes first
      none_due : (o : Option PathOk) → first_of s.oks ≡ o → (o ≡ None → ⊥) → ⊥
      none_due None g some = some refl
      none_due (Some x) g some =
          let is : x ≡ ok.Get = behind life x l g in
          let one : 1 ≤ gets_in s.oks = first_counts is_get x s.oks g (ap is_get is) in
          let all : gets_in (oks_sent es) + gets_in s.oks ≡ gets_in (oks_owed life es) =
          sym (gets_both (oks_sent es) s.oks) ∙ ap gets_in (answers_in_order answers below h p n life l) in
          let least : gets_in (oks_owed life es) ≤ getting_of ds + gets_in (oks_sent es) = few deliveries closed calls counts dues life es heard met goes_on in
          clash d.get (get_goes deliveries closed calls counts dues life es d heard goes_on goes (omega (arith, one, all, least))) f

      by : Tells life k (tag_asked life k es) es s c.link.attached → is_told life k (tag_asked life k es) es ≡ true
      by (Told g) = g
      by (Due g) = absurd (none_due (first_of s.oks) refl (due_some k (tag_asked life k es) s.oks s.names g))
      by (Awaits a at g i e m) = absurd (clash c.link.attached c.attached at)

  may_start : (h : List Step) (u : Reply) (text : List ℕ) → ArePicks h → OfChannel (IsNext (before h)) u → MayDeliver h u → text ≡ carries_back (before h) u → MayStart h u text
  may_start h (reply.OnChannel n (to_client.Deliver d)) text p e behind c = λ f life l. started h n life d p l e f (behind f)
  may_start h (reply.OnChannel n (to_client.Ok (ok.Consume link))) text p e behind c = λ life l. c ∙ ap next_name (path_of h n life p (below h n life l) l)
  may_start h (reply.OnChannel n (to_client.Ok x)) text p e behind c = tt
  may_start h (reply.OnChannel n (to_client.Content x)) text p e behind c = tt
  may_start h (reply.OnChannel n (to_client.Confirm x)) text p e behind c = tt
  may_start h (reply.OnChannel n (to_client.Return r)) text p e behind c = tt
  may_start h u text p e behind c = tt

  pub starts_behind : (h : List Step) → ArePicks h → StartsBehind h
  starts_behind [] p = tt
  starts_behind (Gave (ToClient u) text ∷ h) p = (
    may_start h u text p.1 (goes_as (IsNext (before h)) (before h) u is_next p.0.1) (delivers_behind below (Gave (ToClient u) text ∷ h) p).0 p.0.2,
    starts_behind h p.1,
  )
  starts_behind (s ∷ h) p = starts_behind h p.1
