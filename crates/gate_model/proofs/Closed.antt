-- The life of a channel is closed where the channel isn't open in its connection.
use Rattle.std.proofs.Common.{◌≡◌, ℕ, ◌+◌, ◌==◌, ◌<◌, ◌≤◌, ◌&&◌, ◌||◌, not, Bool, true, false}
use Rattle.std.proofs.Common.{if◌then◌else◌, List, [], ◌∷◌, ◌++◌, length, Option, None, Some, refl, sym, ap, ◌∙◌, subst, arith}
use Rattle.std.proofs.lemmas.Bool.Decides.{nat_tests}
use Rattle.std.proofs.lemmas.List.Folds.{list_any-append}
use Rattle.std.specs.List.{list_any, AllByRecursion}
use Rattle.std.specs.Prelude.{is_some}
use Rattle.close_translate.specs.Conditions.{code_by}
use Rattle.close_translate.specs.declared.codes.TheConstants.{PRECONDITION_FAILED}
use Rattle.close_translate.specs.declared.conditions.Scope.{Scope}
use Rattle.close_translate.specs.declared.conditions.Scope.TheVariants as scope
use Rattle.consume_path.specs.Deliveries.{DeliveryEvent}
use Rattle.consume_path.specs.Deliveries as on
use Rattle.consume_path.specs.Journal.{closes, is_closed}
use Rattle.consume_path.specs.declared.receiving.TransferFault.{TransferFault}
use Rattle.gate_outside.specs.declared.ports.End.TheVariants.{Client, Up}
use Rattle.gate_outside.specs.declared.ports.Linked.TheVariants as link
use Rattle.gate_relay.specs.Sides.{is_absent, is_readable}
use Rattle.gate_relay.specs.declared.loss.Loss.TheVariants as loss
use Rattle.gate_relay.specs.declared.sides.Side.{Side}
use Rattle.machine_091.specs.Calls.{after_closing, after_ended, after_opened}
use Rattle.machine_091.specs.State.{channel_at, is_closing, is_closing_phase, is_open, is_open_channel}
use Rattle.machine_091.specs.State.{is_opening, is_running, new_connection, no_channels}
use Rattle.machine_091.specs.Transitions as machine
use Rattle.machine_091.specs.declared.limits.TheConstants.{CHANNEL_MAX}
use Rattle.machine_091.specs.declared.state.Connection.{Connection}
use Rattle.machine_091.specs.declared.state.Phase91.{Phase91}
use Rattle.machine_091.specs.declared.state.Phase91.TheVariants as phase
use Rattle.machine_091.specs.declared.unit.Refusal.{Refusal}
use Rattle.machine_091.specs.declared.unit.Unit91.{Unit91}
use Rattle.machine_091.specs.declared.unit.Want91.{Want91}
use Rattle.machine_091.specs.declared.unit.Want91.TheVariants as want
use Rattle.machine_10.specs.Parts.{Parts as Performative}
use Rattle.machine_10.specs.Reading.{field, number_at}
use Rattle.machine_10.specs.Transitions as ten
use Rattle.machine_10.specs.Transitions.{Meaning}
use Rattle.machine_10.specs.declared.state.Upstream.{Upstream}
use Rattle.machine_10.specs.declared.unit.Unit10.{Unit10}
use Rattle.methods_091.specs.declared.method.Method91.{Method91}
use Rattle.methods_091.specs.declared.method.Method91.TheVariants as method
use Rattle.session_path.specs.Events as event
use Rattle.session_path.specs.Events.{PathEvent, after_events, deliveries_of, delivery_events}
use Rattle.session_path.specs.Path.{PathState, closes_at as closes_channel}
use Rattle.session_path.specs.declared.path.PathOk.TheVariants as ok
use Rattle.gate_model.specs.Folds.{Peers, accepted_in, connection, container, going_in, leaving_in}
use Rattle.gate_model.specs.Folds.{opened_by, paths_in, peers, peers_by, peers_came, peers_heard, ended_on, peers_closed, peers_parted, side_in}
use Rattle.gate_model.specs.Due.{is_connect_due}
use Rattle.gate_model.specs.Folds.{carried_on, peers_left, peers_scoped, ran_out_in, routes_in, scope_in}
use Rattle.gate_model.specs.Lives.{is_of_channel}
use Rattle.gate_model.specs.Once.{is_channel_open, is_method_on}
use Rattle.gate_model.specs.Paths.{closed_path, fault_in, is_outcome, name_in, part_in, path_at, text_of, with_path}
use Rattle.gate_model.specs.Picks.{ArePicks}
use Rattle.gate_model.specs.Publishing.{attach_events, given_event, losing, owed_unless, transfer_event}
use Rattle.gate_model.specs.Publishing.{closed_if, closing, ending, failing, heard_events, losing_up}
use Rattle.gate_model.specs.Publishing.{meaning_events, method_events, opens_channel}
use Rattle.gate_model.specs.Publishing.{path_events, path_life, refusal_events, reply_events, session_events, told_event, up_events}
use Rattle.gate_model.specs.Publishing.{want_events, wrote_events}
use Rattle.gate_model.specs.Requests.{client_step}
use Rattle.gate_model.specs.Session.{is_of_session}
use Rattle.gate_model.specs.State.{Began, Came, Fed, Gave, Heard, Joined, Lost, Moment}
use Rattle.gate_model.specs.State.{OutOfMemory, Silent, Step, TakenUp, Whole, before, close}
use Rattle.gate_model.specs.State.{close_if, closing_code, conn_given, conn_step, is_limit_reached, is_later, path_heard, want_in}
use Rattle.gate_model.specs.Upstream.{channel_max_in, condition_in, container_by, meaning_by}
use Rattle.gate_model.specs.declared.channel.ChannelUnit.{ChannelUnit}
use Rattle.gate_model.specs.declared.channel.ChannelUnit.TheVariants as to_client
use Rattle.gate_model.specs.declared.channel.SessionUnit.{SessionUnit}
use Rattle.gate_model.specs.declared.channel.SessionUnit.TheVariants as unit
use Rattle.gate_model.specs.declared.outgoing.Outgoing.TheVariants.{ToClient, ToUp}
use Rattle.gate_model.specs.declared.outgoing.UpUnit.{UpUnit}
use Rattle.gate_model.specs.declared.outgoing.UpUnit.TheVariants as up
use Rattle.gate_model.specs.declared.reply.Reply.{Reply}
use Rattle.gate_model.specs.declared.reply.Reply.TheVariants as reply
use Rattle.gate_model.specs.declared.setup.Route.{Route}
use Rattle.machine_091.proofs.ChannelSteps.{Opens, closing_long, closing_opens, method_opens, opens_by}
use Rattle.gate_model.proofs.Basics.{and_right, or_right, or_true}
use Rattle.gate_model.proofs.Brought.{OfEvent, event_all, is_mild}
use Rattle.gate_model.proofs.Channels.{client_opens, given_open}
use Rattle.gate_model.proofs.Connections.{clash, close_closes, close_same, only_given, opening_phase, phase_only}
use Rattle.gate_model.proofs.Known.{known, side_is}
use Rattle.gate_model.proofs.Outcomes.{OnlyChannels, only_closing, Outcome, Greets, LogsIn, Tunes, Asks, Passes}
use Rattle.gate_model.proofs.Outcomes.{Declines, Drops, Calls, Asking, Publishes, Fills, Frees, Ignores, outcome}

-- ---- events that close a life

abbrev pub shuts : PathEvent → Bool
shuts event.LifeClosed = true
shuts event.SessionLost = true
shuts event.SessionEnded = true
shuts event.UpLost = true
shuts x = false

abbrev pub are_shut : List PathEvent → Bool
are_shut es = list_any shuts es

-- the upstream end was shut in the life
abbrev pub is_cut : Step → Bool
is_cut (Lost Up loss.Shut) = true
is_cut s = false

abbrev pub was_cut : ℕ → List Step → Bool
was_cut n [] = false
was_cut n (s ∷ h) = if opens_channel n h s then false else is_cut s || was_cut n h

-- ---- what is known of a channel with a life

abbrev pub is_late : Phase91 → Bool
is_late p = is_running p || is_closing_phase p

record Fits (n : ℕ) (c : Connection) (there shut ended : Bool) : Type 0 where
  long : length c.channels ≡ 256
  runs : is_running c.phase ≡ true → c.asked ≡ true
  late : there ≡ true → is_late c.phase ≡ true
  is : there ≡ true → shut ≡ (not (is_open c n) || ended)

off : (p : Phase91) → is_closing_phase p ≡ true → is_running p ≡ false
off phase.Closing e = refl
off phase.Closed e = refl
off x e = absurd cc

pub none_open : (n : ℕ) (c : Connection) → is_closing c ≡ true → is_open c n ≡ false
none_open n c e = ap (λ (b : Bool). b && is_open_channel (channel_at c n)) (off c.phase e)

-- the connection closes, and the life with it
closes_all : (n : ℕ) (d : Connection) (there ended : Bool) → length d.channels ≡ 256 → is_closing d ≡ true → Fits n d there true ended
closes_all n d there ended long e = record {
  long = long;
  runs = λ r. absurd (clash _ r (off d.phase e));
  late = λ t. or_right (is_running d.phase) (is_closing_phase d.phase) e;
  is = λ t. ap (λ (b : Bool). not b || ended) (sym (none_open n d e));
}

-- it was closing already
closed_again : (n : ℕ) (c : Connection) (there shut ended : Bool) → is_closing c ≡ true → Fits n c there shut ended → Fits n (close c) there shut ended
closed_again n c there shut ended e f = subst (λ (d : Connection). Fits n d there shut ended) (sym (close_same c e)) f

fails : (n : ℕ) (c : Connection) (there shut ended : Bool) → Fits n c there shut ended → Fits n (close c) there true ended
fails n c there shut ended f = closes_all n (close c) there ended f.long (close_closes c.phase)

-- the handshake limit is reached before any channel opens
limits : (n : ℕ) (b : Bool) (c : Connection) (there shut ended : Bool) → (b ≡ true → c.asked ≡ false) → Fits n c there shut ended
    → Fits n (close_if b c) there shut ended
limits n false c there shut ended e f = f
limits n true c there shut ended e f = by (is_closing c) refl
  where
    none : is_closing c ≡ false → there ≡ true → ⊥
    none g t = at (is_running c.phase) refl (f.late t)
      where
        at : (r : Bool) → is_running c.phase ≡ r → (r || is_closing_phase c.phase) ≡ true → ⊥
        at true x y = clash c.asked (f.runs x) (e refl)
        at false x y = clash _ y g

    by : (b : Bool) → is_closing c ≡ b → Fits n (close c) there shut ended
    by true g = closed_again n c there shut ended g f
    by false g = record {
      long = f.long;
      runs = λ r. absurd (clash _ r (off _ (close_closes c.phase)));
      late = λ t. absurd (none g t);
      is = λ t. absurd (none g t);
    }

-- ---- what the container sends

if_quiet : (b : Bool) (xs ys : List PathEvent) → are_shut xs ≡ false → are_shut (if b then xs else ys) ≡ true → are_shut ys ≡ true
if_quiet true xs ys q e = absurd (clash _ e q)
if_quiet false xs ys q e = e

ends_alone : (b : Bool) → are_shut (if b then event.SessionLost ∷ [] else []) ≡ true → b ≡ true
ends_alone true e = refl
ends_alone false e = absurd cc

-- of them an end alone closes the life
hears : (limit n : ℕ) (q : Performative) (payload : List ℕ) (s : PathState) → are_shut (heard_events limit n q payload s) ≡ true → (q.0 == 23) ≡ true
hears limit n q payload s e =
    ends_alone (q.0 == 23)
    (if_quiet (q.0 == 22) (event.DetachCame _ _ ∷ []) _ refl
    (if_quiet (q.0 == 21) _ _ (dispositions (is_outcome q.1) (event.DispositionCame _ _ _ _) refl)
    (if_quiet (q.0 == 20) _ _ (parts (fault_in q.1 payload s))
    (if_quiet (q.0 == 19 && not (is_of_session q.1)) (event.FlowCame _ _ _ _ _ ∷ []) _ refl
    (if_quiet (q.0 == 18) _ _ (attaches (name_in (text_of (field q.1 0))))
    (if_quiet (q.0 == 17) (event.Began _ ∷ []) _ refl e))))))
  where
    dispositions : (b : Bool) (x : PathEvent) → shuts x ≡ false → are_shut (if b then x ∷ [] else []) ≡ false
    dispositions true x f = ap (λ (c : Bool). c || false) f
    dispositions false x f = refl

    parts : (o : Option TransferFault) → are_shut (transfer_event o limit n (number_at q.1 0) (part_in q.1) payload s ∷ []) ≡ false
    parts None = refl
    parts (Some fault) = refl

    attaches : (o : Option ℕ) → are_shut (attach_events o q.1) ≡ false
    attaches None = refl
    attaches (Some name) = refl

same_again : (n : ℕ) (c : Connection) (there shut ended quiet : Bool) → quiet ≡ false → Fits n c there shut ended → Fits n c there (quiet || shut) ended
same_again n c there shut ended quiet e f = subst (λ (b : Bool). Fits n c there (b || shut) ended) (sym e) f

only_channel : (n : ℕ) (c d : Connection) (there shut old ended : Bool) → OnlyChannels c d → length d.channels ≡ length c.channels
    → (there ≡ true → shut ≡ (not (is_open d n) || ended)) → Fits n c there old ended → Fits n d there shut ended
only_channel n c d there shut old ended o long is f = record {
  long = long ∙ f.long;
  runs = λ r. ap (λ (x : Connection). x.asked) o.same ∙ f.runs (sym (ap is_running (phase_only o)) ∙ r);
  late = λ t. ap is_late (phase_only o) ∙ f.late t;
  is = is;
}

-- a channel closes, where it is open
part : (n k : ℕ) (x : Peers) (g : PathState → PathState) (es : List PathEvent) (there shut ended : Bool) → n < 256
    → (is_open x.client k ≡ true → are_shut es ≡ true) → Fits n x.client there shut ended
    → Fits n (ended_on (is_open x.client k) k g x).client there (are_shut (if k == n then es else []) || shut) ended
part n k x g es there shut ended less closes f = by (is_open x.client k) refl closes
  where
    c : Connection
    c = x.client

    inside : n < length c.channels
    inside = subst (λ (m : ℕ). n < m) (sym f.long) less

    open_still : (b : Bool) → (k == n) ≡ b → (there ≡ true → (are_shut (if b then es else []) || shut) ≡ (not (if b then false else is_open c n) || ended))
        → there ≡ true → (are_shut (if b then es else []) || shut) ≡ (not (is_open (after_closing scope.Channel k c) n) || ended)
    open_still b e is t = is t ∙ ap (λ (y : Bool). not y || ended) (ap (λ (z : Bool). if z then false else is_open c n) (sym e) ∙ sym (closing_opens k n c inside))

    by : (b : Bool) → is_open c k ≡ b → (b ≡ true → are_shut es ≡ true) → Fits n (ended_on b k g x).client there (are_shut (if k == n then es else []) || shut) ended
    by true e shuts_it =
        only_channel n c (after_closing scope.Channel k c) there _ shut ended (only_closing k c) (closing_long k c) (at (k == n) refl) f
      where
        at : (b : Bool) → (k == n) ≡ b → there ≡ true → (are_shut (if b then es else []) || shut) ≡ (not (is_open (after_closing scope.Channel k c) n) || ended)
        at true same = open_still true same (λ t. ap (λ (y : Bool). y || shut) (shuts_it refl))
        at false same = open_still false same f.is
    by false e shuts_it = record { long = f.long; runs = f.runs; late = f.late; is = at (k == n) refl }
      where
        at : (b : Bool) → (k == n) ≡ b → there ≡ true → (are_shut (if b then es else []) || shut) ≡ (not (is_open c n) || ended)
        at true same t =
            let here : k ≡ n = grind (arith, nat_tests, same) in
            let none : is_open c n ≡ false = subst (λ (m : ℕ). is_open c m ≡ false) here e in
            let was : shut ≡ true = f.is t ∙ ap (λ (y : Bool). not y || ended) none in
            ap (λ (y : Bool). are_shut es || y) was ∙ sym (or_true (are_shut es)) ∙ ap (λ (y : Bool). not y || ended) (sym none)
        at false same t = f.is t

quiet_if : (b : Bool) (es : List PathEvent) → are_shut es ≡ false → are_shut (if b then es else []) ≡ false
quiet_if true es e = e
quiet_if false es e = refl

not_true : (b : Bool) → (b ≡ true → ⊥) → b ≡ false
not_true true f = absurd (f refl)
not_true false f = refl

session_fits : (n k : ℕ) (q : Performative) (payload : List ℕ) (x : Peers) (o : Option Scope) (there shut ended : Bool) → n < 256 → Fits n x.client there shut ended
    → Fits n (peers_scoped o k q payload x).client there (are_shut (session_events x.client o n k q payload (path_at x.paths k)) || shut) ended
session_fits n k q payload x (Some scope.Connection) there shut ended less f = fails n x.client there shut ended f
session_fits n k q payload x (Some scope.Channel) there shut ended less f =
    part n k (peers_parted k x) closed_path (ending x.client k) there shut ended less (λ e. ap (λ (b : Bool). are_shut (closed_if b ++ event.SessionLost ∷ [])) e) f
session_fits n k q payload x None there shut ended less f = by (q.0 == 17) refl (closing_code q payload s) refl
  where
    s : PathState
    s = path_at x.paths k

    limit : ℕ
    limit = x.client.limits.frame_max

    heard : Peers
    heard = record x { paths = with_path k (path_heard limit k q payload) x.paths }

    xs : List PathEvent
    xs = heard_events limit k q payload s

    quietly : ((q.0 == 23) ≡ true → ⊥) → Fits n x.client there (are_shut (if k == n then xs else []) || shut) ended
    quietly none = same_again n x.client there shut ended _ (quiet_if (k == n) xs (not_true (are_shut xs) (λ e. none (hears limit k q payload s e)))) f

    ends_with : (q.0 == 23) ≡ true → closing_code q payload s ≡ Some (code_by (condition_in (field q.1 0)) scope.Channel)
    ends_with e = ap (λ (b : Bool). if b then Some (code_by (condition_in (field q.1 0)) scope.Channel)
        else if (q.0 == 22) && closes_channel (number_at q.1 0) s then Some (code_by (condition_in (field q.1 2)) scope.Channel)
        else if (q.0 == 20) && is_some (fault_in q.1 payload s) then Some PRECONDITION_FAILED
        else None) e

    by : (a : Bool) → (q.0 == 17) ≡ a → (code : Option ℕ) → closing_code q payload s ≡ code
        → Fits n (if a then heard else peers_closed k code heard).client there
        (are_shut (if k == n then (if a then [] else closing code x.client k) ++ xs else []) || shut) ended
    by true e code c = quietly (λ g. grind (arith, nat_tests, e, g))
    by false e None c = quietly (λ g. let wrong : None ≡ Some (code_by (condition_in (field q.1 0)) scope.Channel) = sym c ∙ ends_with g in absurd cc)
    by false e (Some code) c = part n k heard closed_path (closed_if (is_open x.client k) ++ xs) there shut ended less (λ g. ap (λ (b : Bool). are_shut (closed_if b ++ xs)) g) f

opens_late : (n : ℕ) (o : Option Upstream) (c : Connection) (there shut ended : Bool) → Fits n c there shut ended → Fits n (opened_by o c) there shut ended
opens_late n o c there shut ended f = by (is_opening c) refl
  where
    none : is_opening c ≡ true → there ≡ true → ⊥
    none e t = let wrong : true ≡ false = sym (f.late t) ∙ ap is_late (opening_phase c e) in absurd cc

    was_asked : (b asked : Bool) → (b && asked) ≡ true → asked ≡ true
    was_asked true asked e = e
    was_asked false asked e = absurd cc

    by : (b : Bool) → is_opening c ≡ b → Fits n (if b then after_opened (channel_max_in o) c else c) there shut ended
    by true e = record { long = f.long; runs = λ r. was_asked _ c.asked e; late = λ t. absurd (none e t); is = λ t. absurd (none e t) }
    by false e = f

meaning_fits : (n : ℕ) (m : Meaning) (x : Peers) (there shut ended : Bool) → n < 256 → Fits n x.client there shut ended
    → Fits n (peers_by m x).client there (are_shut (meaning_events x n m) || shut) ended
meaning_fits n ten.Nothing x there shut ended less f = f
meaning_fits n ten.Init x there shut ended less f = f
meaning_fits n ten.AmqpHeader x there shut ended less f = f
meaning_fits n ten.Opened x there shut ended less f = opens_late n x.container x.client there shut ended f
meaning_fits n (ten.OfSession k q payload) x there shut ended less f =
    session_fits n k q payload (record x { carried = carried_on k q x.carried }) (scope_in x k q payload) there shut ended less f
meaning_fits n (ten.Closed e) x there shut ended less f = fails n x.client there shut ended f
meaning_fits n ten.Refused x there shut ended less f = fails n x.client there shut ended f
meaning_fits n (ten.Violation why) x there shut ended less f = fails n x.client there shut ended f

-- ---- what the client sends

-- a connection doesn't begin to run, and stays as late as it was
record KeepsOn (c d : Connection) : Type 0 where
  late : is_late c.phase ≡ true → is_late d.phase ≡ true
  runs : (is_running c.phase ≡ true → c.asked ≡ true) → is_running d.phase ≡ true → d.asked ≡ true

keeps_on : (c d : Connection) → d.phase ≡ c.phase → d.asked ≡ c.asked → KeepsOn c d
keeps_on c d e a = record { late = λ l. ap is_late e ∙ l; runs = λ f r. a ∙ f (sym (ap is_running e) ∙ r) }

keeps_only : (c d : Connection) → OnlyChannels c d → KeepsOn c d
keeps_only c d o = keeps_on c d (phase_only o) (ap (λ (x : Connection). x.asked) o.same)

-- it closes
keeps_closing : (c d : Connection) → is_closing d ≡ true → KeepsOn c d
keeps_closing c d e = record { late = λ l. late d.phase e; runs = λ f r. absurd (clash _ r (off d.phase e)) }
  where
    late : (p : Phase91) → is_closing_phase p ≡ true → is_late p ≡ true
    late phase.Running e = refl
    late phase.Closing e = refl
    late phase.Closed e = refl
    late x e = absurd cc

-- it was in its opening
keeps_early : (c d : Connection) → is_late c.phase ≡ false → is_running d.phase ≡ false → KeepsOn c d
keeps_early c d early none = record { late = λ l. absurd (clash _ l early); runs = λ f r. absurd (clash _ r none) }

unit_keeps : (rs : List Route) (ps : List (Option PathState)) (c : Connection) (u : Unit91) → KeepsOn c (conn_step rs ps c u)
unit_keeps rs ps c u = by (client_step rs ps c u) (outcome rs ps c u)
  where
    by : (x : machine.Step) → Outcome c u x → KeepsOn c x.0
    by _ (Greets e) = keeps_early c _ (ap is_late e) refl
    by _ (LogsIn m r e) = keeps_early c _ (ap is_late e) refl
    by _ (Tunes l e) = keeps_early c _ (ap is_late e) refl
    by _ (Asks e) = record { late = λ l. l; runs = λ f r. refl }
    by _ Passes = keeps_on c c refl refl
    by _ (Declines r d o e g) = keeps_closing c _ (close_closes d.phase)
    by _ (Drops r d o e g) = keeps_only c d o
    by _ (Calls n s m e) = keeps_on c _ refl refl
    by _ (Asking n m e) = keeps_on c c refl refl
    by _ (Publishes n m x e) = keeps_on c _ refl refl
    by _ (Fills n i e) = keeps_on c _ refl refl
    by _ (Frees n e) = keeps_on c _ refl refl
    by _ (Ignores e) = keeps_on c _ refl refl
    by _ x = keeps_closing c _ refl

-- what it wants that is no channel.open closes the life where the channel is open no more
same_or : (b shut : Bool) → (if b then true else shut) ≡ (b || shut)
same_or true shut = refl
same_or false shut = refl

method_closes : (b : Bool) (m : Method91) (is ended : Bool) → (b && is_channel_open m) ≡ false
    → (are_shut (if b then method_events m else []) || (not is || ended)) ≡ (not (if b then method_opens m is else is) || ended)
method_closes false m is ended e = refl
method_closes true method.ChannelOpen is ended e = absurd cc
method_closes true (method.ChannelClose code text class id) is ended e = refl
method_closes true (method.ChannelFlow active) is ended e = refl
method_closes true (method.ExchangeDeclare name kind passive durable deletes internal no_wait arguments) is ended e = waits no_wait
  where
    waits : (b : Bool) → (are_shut (owed_unless b (event.Owed ok.Declare)) || (not is || ended)) ≡ (not is || ended)
    waits true = refl
    waits false = refl
method_closes true (method.ConfirmSelect no_wait) is ended e = waits no_wait
  where
    waits : (b : Bool) → (are_shut (owed_unless b (event.Owed ok.Select) ++ event.Selected ∷ []) || (not is || ended)) ≡ (not is || ended)
    waits true = refl
    waits false = refl
method_closes true (method.BasicConsume queue tag no_local no_ack exclusive no_wait arguments) is ended e = refl
method_closes true (method.QueueDeclare queue passive durable exclusive deletes no_wait arguments) is ended e = refl
method_closes true (method.BasicGet queue no_ack) is ended e = refl
method_closes true (method.BasicCancel tag no_wait) is ended e = refl
method_closes true (method.BasicQos size count global) is ended e = refl
method_closes true (method.BasicAck tag multiple) is ended e = refl
method_closes true (method.BasicReject tag requeue) is ended e = refl
method_closes true (method.BasicNack tag multiple requeue) is ended e = refl
method_closes true (method.BasicRecover requeue) is ended e = refl
method_closes true (method.BasicRecoverAsync requeue) is ended e = refl
method_closes true m is ended e = refl

refusal_closes : (n : ℕ) (r : Refusal) (is ended : Bool) → (are_shut (refusal_events n r) || (not is || ended)) ≡ (not (opens_by n (want.Refuse r) is) || ended)
refusal_closes n r is ended = by (is_of_channel r) (r.channel == n)
  where
    by : (a b : Bool) → (are_shut (if a then (if b then event.LifeClosed ∷ [] else []) else event.LifeClosed ∷ []) || (not is || ended))
        ≡ (not (if a then (if b then false else is) else false) || ended)
    by true true = refl
    by true false = refl
    by false b = refl

want_closes : (rs : List Route) (limit n : ℕ) (x : Want91) (is ended : Bool) → is_method_on is_channel_open n x ≡ false
    → (are_shut (want_events rs limit n x) || (not is || ended)) ≡ (not (opens_by n x is) || ended)
want_closes rs limit n (want.Method k m) is ended e = method_closes (k == n) m is ended e
want_closes rs limit n (want.Publish k m c) is ended e = ap (λ (b : Bool). b || (not is || ended)) (quiet_if (k == n) (event.Published _ _ _ ∷ []) refl)
want_closes rs limit n (want.Refuse r) is ended e = refusal_closes n r is ended
want_closes rs limit n x is ended e = refl

-- a channel.open opens its channel
method_begins : (b : Bool) (m : Method91) (is : Bool) → (b && is_channel_open m) ≡ true → (if b then method_opens m is else is) ≡ true
method_begins true method.ChannelOpen is e = refl
method_begins true m is e = absurd cc
method_begins false m is e = absurd cc

pub want_begins : (n : ℕ) (x : Want91) (is : Bool) → is_method_on is_channel_open n x ≡ true → opens_by n x is ≡ true
want_begins n (want.Method k m) is e = method_begins (k == n) m is e
want_begins n x is e = absurd cc

-- ---- all steps

abbrev FitsAfter : ℕ → List Step → Type 0
FitsAfter n h = Fits n (connection h) (is_some (path_life h n)) (are_shut (path_events h n)) (was_cut n h)

-- events on top of others
on_top : (n : ℕ) (d : Connection) (there ended : Bool) (xs es : List PathEvent) → Fits n d there (are_shut xs || are_shut es) ended → Fits n d there (are_shut (xs ++ es)) ended
on_top n d there ended xs es f = subst (λ (b : Bool). Fits n d there b ended) (sym (list_any-append shuts xs es)) f

came_fits : (n : ℕ) (u : Unit91) (h : List Step) → n < 256 → FitsAfter n h → FitsAfter n (Came u ∷ h)
came_fits n u h less f = by (ran_out_in h)
  where
    c : Connection
    c = connection h

    x : Want91
    x = want_in (routes_in h) (paths_in h) c u

    d : Connection
    d = conn_step (routes_in h) (paths_in h) c u

    events : List PathEvent
    events = want_events (routes_in h) d.limits.frame_max n x

    opens : Opens n c (client_step (routes_in h) (paths_in h) c u)
    opens = client_opens n (routes_in h) (paths_in h) c u

    keeps : KeepsOn c d
    keeps = unit_keeps (routes_in h) (paths_in h) c u

    is : is_open d n ≡ opens_by n x (is_open c n)
    is = opens.is (subst (λ (m : ℕ). n < m) (sym f.long) less)

    running : (a b : Bool) → (a && b) ≡ true → (a || is_closing_phase d.phase) ≡ true
    running true b e = refl
    running false b e = absurd cc

    unit : (o : Bool) → is_method_on is_channel_open n x ≡ o
        → Fits n d (is_some (if o then Some ((peers h).opened + 1) else path_life h n)) (are_shut (if o then [] else events ++ path_events h n))
        (if o then false else was_cut n h)
    unit true e =
        let begun : is_open d n ≡ true = is ∙ want_begins n x (is_open c n) e in
        record {
          long = opens.long ∙ f.long;
          runs = keeps.runs f.runs;
          late = λ t. running (is_running d.phase) _ begun;
          is = λ t. ap (λ (b : Bool). not b || false) (sym begun);
        }
    unit false e =
        on_top n d _ _ events (path_events h n)
        (record {
          long = opens.long ∙ f.long;
          runs = keeps.runs f.runs;
          late = λ t. keeps.late (f.late t);
          is = λ t. ap (λ (b : Bool). are_shut events || b) (f.is t) ∙ want_closes (routes_in h) d.limits.frame_max n x (is_open c n) (was_cut n h) e
              ∙ ap (λ (b : Bool). not b || was_cut n h) (sym is);
        })

    by : (b : Bool) → Fits n (if b then peers h else peers_came (peers h) u).client
        (is_some (if not b && is_method_on is_channel_open n x then Some ((peers h).opened + 1) else path_life h n))
        (are_shut (if not b && is_method_on is_channel_open n x then [] else (if b then [] else events) ++ path_events h n))
        (if not b && is_method_on is_channel_open n x then false else was_cut n h)
    by true = f
    by false = unit (is_method_on is_channel_open n x) refl

heard_fits : (n : ℕ) (u : Unit10) (h : List Step) → n < 256 → FitsAfter n h → FitsAfter n (Heard u ∷ h)
heard_fits n u h less f = by (ran_out_in h)
  where
    m : Meaning
    m = meaning_by (container h) u

    by : (b : Bool) → Fits n (if b then peers h else peers_heard (peers h) u).client (is_some (path_life h n))
        (are_shut ((if b then [] else meaning_events (peers h) n m) ++ path_events h n)) (was_cut n h)
    by true = f
    by false =
        on_top n _ _ _ (meaning_events (peers h) n m) (path_events h n)
        (meaning_fits n m (record (peers h) { container = container_by (container h) u }) _ _ _ less f)

taken_fits : (n : ℕ) (h : List Step) → FitsAfter n h → FitsAfter n (TakenUp ∷ h)
taken_fits n h f = by (not (ran_out_in h) && leaving_in h)
  where
    by : (b : Bool) → Fits n (if b then peers_left (peers h) else peers h).client (is_some (path_life h n)) (are_shut (closed_if b ++ path_events h n)) (was_cut n h)
    by true = closes_all n (after_ended (connection h)) _ _ f.long refl
    by false = f

told_quiet : (u : ChannelUnit) → shuts (told_event u) ≡ false
told_quiet (to_client.Ok x) = refl
told_quiet x = refl

reply_quiet : (n : ℕ) (u : Reply) → are_shut (reply_events n u) ≡ false
reply_quiet n (reply.OnChannel k u) = quiet_if (k == n) (told_event u ∷ []) (ap (λ (b : Bool). b || false) (told_quiet u))
reply_quiet n x = refl

given_fits : (n : ℕ) (u : Reply) (c : Connection) (there shut ended : Bool) → n < 256 → Fits n c there shut ended
    → Fits n (conn_given u c) there (are_shut (reply_events n u) || shut) ended
given_fits n u c there shut ended less f =
    let same = given_open n u c in
    same_again n _ there shut ended _ (reply_quiet n u)
    (only_channel n c (conn_given u c) there shut shut ended (only_given u c) same.long
    (λ t. f.is t ∙ ap (λ (b : Bool). not b || ended) (sym (same.is (subst (λ (m : ℕ). n < m) (sym f.long) less)))) f)

wrote_quiet : (n : ℕ) (o : Option Reply) → are_shut (wrote_events n o) ≡ false
wrote_quiet n (Some (reply.OnChannel k (to_client.Content c))) = quiet_if (k == n) _ (quiet_if c.last (event.ContentWhole c.tag ∷ []) refl)
wrote_quiet n (Some (reply.OnChannel k (to_client.Ok x))) = quiet_if (k == n) [] refl
wrote_quiet n (Some (reply.OnChannel k (to_client.Deliver d))) = quiet_if (k == n) [] refl
wrote_quiet n (Some (reply.OnChannel k (to_client.Confirm c))) = quiet_if (k == n) [] refl
wrote_quiet n (Some (reply.OnChannel k (to_client.Return r))) = quiet_if (k == n) [] refl
wrote_quiet n o = refl

given_quiet : (u : SessionUnit) → shuts (given_event u) ≡ false
given_quiet (unit.Attach a) = refl
given_quiet x = refl

-- the life is closed whatever its channel is
ended_now : (n : ℕ) (c : Connection) (there shut : Bool) (ended : Bool) → Fits n c there shut ended → Fits n c there true true
ended_now n c there shut ended f = record { long = f.long; runs = f.runs; late = f.late; is = λ t. or_true (not (is_open c n)) }

up_fits : (n : ℕ) (u : UpUnit) (c : Connection) (there shut ended : Bool) → Fits n c there shut ended
    → Fits n c there (are_shut (up_events (is_later c u) n u) || shut) ended
up_fits n (up.OnSession k u) c there shut ended f =
    same_again n c there shut ended _ (quiet_if (k == n) (given_event u ∷ []) (ap (λ (b : Bool). b || false) (given_quiet u))) f
up_fits n (up.End k why) c there shut ended f = by (is_open c k) (k == n) refl refl
  where
    by : (a b : Bool) → is_open c k ≡ a → (k == n) ≡ b → Fits n c there (are_shut (if not a && b then losing else event.LinesWent ∷ []) || shut) ended
    by true b e g = f
    by false false e g = f
    by false true e g =
        let same : k ≡ n = grind (arith, nat_tests, g) in
        record {
          long = f.long;
          runs = f.runs;
          late = f.late;
          is = λ t. ap (λ (x : Bool). not x || ended) (sym (subst (λ (m : ℕ). is_open c m ≡ false) same e));
        }
up_fits n x c there shut ended f = f

new_fits : (n : ℕ) (vhost : List ℕ) → Fits n (new_connection vhost) false false false
unfolding no_channels
new_fits n vhost = record { long = refl; runs = λ r. absurd cc; late = λ t. absurd cc; is = λ t. absurd cc }

early : (a b : Bool) → (not a && b) ≡ true → a ≡ false
early true b e = absurd cc
early false b e = refl

fits : (n : ℕ) (h : List Step) → n < 256 → ArePicks h → FitsAfter n h
fits n [] less p = new_fits n []
fits n (Began site number ms ∷ h) less p = subst (λ (x : List Step). FitsAfter n (Began site number ms ∷ x)) (sym p.0) (new_fits n site.vhost)
fits n (Moment ms ∷ h) less p =
    limits n (is_limit_reached (connection h) (accepted_in h) ms) (connection h) _ _ _ (early (connection h).asked _) (fits n h less p.1)
fits n (Fed Client ∷ h) less p = fits n h less p.1
fits n (Silent Client ∷ h) less p = closes_all n (after_ended (connection h)) _ _ (fits n h less p.1).long refl
fits n (Silent Up ∷ h) less p = on_top n _ _ _ failing (path_events h n) (fails n (connection h) _ _ _ (fits n h less p.1))
fits n (Came u ∷ h) less p = came_fits n u h less (fits n h less p.1)
fits n (TakenUp ∷ h) less p = taken_fits n h (fits n h less p.1)
fits n (Heard u ∷ h) less p = heard_fits n u h less (fits n h less p.1)
fits n (Joined link.Failed ∷ h) less p =
    on_top n _ _ _ losing (path_events h n) (fails n (connection h) _ _ _ (fits n h less p.1))
fits n (Lost Up loss.Ended ∷ h) less p = on_top n _ _ _ (failing ++ losing_up) (path_events h n) (fails n (connection h) _ _ _ (fits n h less p.1))
fits n (Lost Up loss.Failed ∷ h) less p = on_top n _ _ _ (failing ++ losing_up) (path_events h n) (fails n (connection h) _ _ _ (fits n h less p.1))
fits n (Lost Up loss.Shut ∷ h) less p = ended_now n (connection h) _ _ _ (fits n h less p.1)
fits n (Gave (ToClient u) text ∷ h) less p =
    on_top n _ _ _ (reply_events n u) (path_events h n) (given_fits n u (connection h) _ _ _ less (fits n h less p.1))
fits n (Gave (ToUp u) text ∷ h) less p = on_top n _ _ _ (up_events (is_later (connection h) u) n u) (path_events h n) (up_fits n u (connection h) _ _ _ (fits n h less p.1))
fits n (Whole Client ∷ h) less p =
    on_top n _ _ _ (wrote_events n (going_in h)) (path_events h n) (same_again n _ _ _ _ _ (wrote_quiet n (going_in h)) (fits n h less p.1))
fits n (OutOfMemory ∷ h) less p = closes_all n (close (connection h)) _ _ (fits n h less p.1).long (close_closes (connection h).phase)
fits n (s ∷ h) less p = fits n h less p.1

-- a connection with a channel that was opened runs, or closes
pub late_is : (n : ℕ) (h : List Step) → n < 256 → ArePicks h → is_some (path_life h n) ≡ true → is_late (connection h).phase ≡ true
late_is n h less p = (fits n h less p).late

pub long_is : (n : ℕ) (h : List Step) → n < 256 → ArePicks h → length (connection h).channels ≡ 256
long_is n h less p = (fits n h less p).long

-- ---- the deliveries of a life

closed_both : (xs ys : List DeliveryEvent) → is_closed (xs ++ ys) ≡ (is_closed xs || is_closed ys)
closed_both [] ys = refl
closed_both (x ∷ xs) ys = ap (λ (b : Bool). closes x || b) (closed_both xs ys) ∙ by (closes x) (is_closed xs) (is_closed ys)
  where
    by : (a b c : Bool) → (a || (b || c)) ≡ ((a || b) || c)
    by true b c = refl
    by false b c = refl

event_closes : (s : PathState) (x : PathEvent) → is_closed (delivery_events s x) ≡ shuts x
event_closes s event.LifeClosed = refl
event_closes s event.SessionLost = refl
event_closes s event.SessionEnded = refl
event_closes s event.UpLost = refl
event_closes s x = none (delivery_events s x) (event_all (λ (d : DeliveryEvent). closes d ≡ false) mild s x (others x refl))
  where
    none : (ds : List DeliveryEvent) → AllByRecursion (λ (d : DeliveryEvent). closes d ≡ false) ds → is_closed ds ≡ false
    none [] a = refl
    none (d ∷ ds) a = ap (λ (b : Bool). b || is_closed ds) a.0 ∙ none ds a.1

    mild : (d : DeliveryEvent) → is_mild d ≡ true → closes d ≡ false
    mild on.Closed f = absurd cc
    mild on.EndLost f = absurd cc
    mild d f = refl

    others : (x : PathEvent) → shuts x ≡ false → OfEvent (λ (d : DeliveryEvent). closes d ≡ false) s x
    others (event.Consumed address tag no_ack no_wait) f = refl
    others (event.Declared queue no_wait) f = refl
    others (event.GetAsked queue no_ack) f = refl
    others (event.TransferCame peer part payload image again) f = λ link d. refl
    others (event.ContentWhole tag) f = refl
    others event.LifeClosed f = absurd cc
    others event.SessionLost f = absurd cc
    others event.SessionEnded f = absurd cc
    others event.UpLost f = absurd cc
    others x f = tt

pub closed_is_shut : (life : ℕ) (es : List PathEvent) → is_closed (deliveries_of life es) ≡ are_shut es
closed_is_shut life [] = refl
closed_is_shut life (x ∷ es) =
    closed_both (delivery_events (after_events life es) x) (deliveries_of life es)
    ∙ ap (λ (b : Bool). b || is_closed (deliveries_of life es)) (event_closes (after_events life es) x)
    ∙ ap (λ (b : Bool). shuts x || b) (closed_is_shut life es)

-- ---- closed, and open

inside : (n : ℕ) → n ≤ CHANNEL_MAX → n < 256
inside n e = let most : CHANNEL_MAX ≡ 255 = refl in omega (arith, e, most)

-- a life is closed where its channel isn't open, or the upstream end was shut in it
pub closed_is : (h : List Step) (n life : ℕ) → ArePicks h → n ≤ CHANNEL_MAX → path_life h n ≡ Some life
    → is_closed (deliveries_of life (path_events h n)) ≡ (not (is_open (connection h) n) || was_cut n h)
closed_is h n life p less e = closed_is_shut life (path_events h n) ∙ (fits n h (inside n less) p).is (ap is_some e)

pub closed_path_is : (h : List Step) (n life : ℕ) → ArePicks h → n ≤ CHANNEL_MAX → path_life h n ≡ Some life → is_open (connection h) n ≡ false
    → is_closed (deliveries_of life (path_events h n)) ≡ true
closed_path_is h n life p less e f = closed_is h n life p less e ∙ ap (λ (b : Bool). not b || was_cut n h) f

pub open_path_is : (h : List Step) (n life : ℕ) → ArePicks h → n ≤ CHANNEL_MAX → path_life h n ≡ Some life → is_open (connection h) n ≡ true → was_cut n h ≡ false
    → is_closed (deliveries_of life (path_events h n)) ≡ false
open_path_is h n life p less e f g = closed_is h n life p less e ∙ ap (λ (b : Bool). not b || was_cut n h) f ∙ g

-- ---- an end that was shut

pub record IsGone (x : Side) : Type 0 where
  pub unread : is_readable x ≡ false
  pub there : is_absent x ≡ false

pub cut_goes : (n : ℕ) (h : List Step) → ArePicks h → was_cut n h ≡ true → IsGone (side_in h)
cut_goes n [] p e = absurd cc
cut_goes n (Began site number ms ∷ h) p e = absurd (clash _ e (ap (was_cut n) p.0))
cut_goes n (Silent Client ∷ h) p e = cut_goes n h p.1 e
cut_goes n (Came u ∷ h) p e = cut_goes n h p.1 (by (opens_channel n h (Came u)) e)
  where
    by : (b : Bool) → (if b then false else was_cut n h) ≡ true → was_cut n h ≡ true
    by true f = absurd cc
    by false f = f
cut_goes n (Joined link.Ok ∷ h) p e = absurd (clash _ (and_right _ (is_absent (side_in h)) (asked ∙ p.0)) (cut_goes n h p.1 e).there)
  where
    asked : (is_opening (before h).conn && is_absent (side_in h)) ≡ is_connect_due (before h)
    asked = ap (λ (x : Side). is_opening (before h).conn && is_absent x) (sym (side_is (known h p.1)))
cut_goes n (Joined link.Failed ∷ h) p e = record { unread = refl; there = refl }
cut_goes n (Lost Up loss.Ended ∷ h) p e = record { unread = refl; there = refl }
cut_goes n (Lost Up loss.Failed ∷ h) p e = record { unread = refl; there = refl }
cut_goes n (Lost Up loss.Shut ∷ h) p e = record { unread = refl; there = refl }
cut_goes n (s ∷ h) p e = cut_goes n h p.1 e

-- none was shut that is still read
pub uncut_is : (h : List Step) (n : ℕ) → ArePicks h → is_readable (side_in h) ≡ true → was_cut n h ≡ false
uncut_is h n p e = by (was_cut n h) refl
  where
    by : (b : Bool) → was_cut n h ≡ b → b ≡ false
    by true f = absurd (clash _ e (cut_goes n h p f).unread)
    by false f = refl
