-- What was sent to a client without heartbeats, and then what is due to it, are the replies to its units; after the pair ran
-- out of memory they are the last units.
use Rattle.gate_model.specs.declared.reply.Reason.{Reason}
use Rattle.session_path.specs.Due.{next_confirm, next_content, next_deliver, next_ok, next_return}
use Rattle.session_path.specs.declared.path.ContentDue.{ContentDue}
use Rattle.session_path.specs.declared.path.DeliverDue.{DeliverDue}
use Rattle.gate_model.specs.Due.{answers, consume_ok_on, consume_oks, deliver_on, delivers, is_consume_ok}
use Rattle.gate_model.specs.Due.{empty_on, get_ok_on, gets, is_empty_ok, is_plain_ok, writing_on, writings}
use Rattle.gate_model.specs.declared.life.SessionState.{SessionState}
use Rattle.gate_model.proofs.Firsts.{FirstIs, both_are, each_is, when_is}
use Rattle.std.proofs.Common.{◌⊎◌, inl, inr, Bool, List, None, Option, Some, [], ap, append-nil}
use Rattle.std.proofs.Common.{append_assoc, false, if◌then◌else◌, not, refl, subst, sym, true, ℕ, ◌&&◌, ◌++◌, ◌||◌, ◌∙◌, ◌∷◌, ◌≡◌, ◌==◌}
use Rattle.std.specs.Prelude.{filter, map}
use Rattle.std.proofs.lemmas.List.Elements.{filter-append}
use Rattle.gate_outside.specs.declared.ports.End.TheVariants.{Client, Up}
use Rattle.gate_outside.specs.declared.ports.Linked.TheVariants as link
use Rattle.gate_relay.specs.declared.loss.Loss.TheVariants as loss
use Rattle.close_translate.specs.declared.codes.TheConstants.{CONNECTION_FORCED, INTERNAL_ERROR}
use Rattle.performatives_10.specs.declared.condition.Condition.{Condition}
use Rattle.machine_091.specs.Calls.{after_ended, after_opened, after_closing}
use Rattle.machine_091.specs.State.{is_closing, is_open, is_opening}
use Rattle.machine_091.specs.declared.state.Connection.{Connection}
use Rattle.machine_091.specs.declared.state.Phase91.{Phase91}
use Rattle.machine_091.specs.declared.state.Phase91.TheVariants as phase
use Rattle.machine_091.specs.declared.unit.Refusal.{Refusal}
use Rattle.machine_091.specs.declared.unit.Unit91.{Unit91}
use Rattle.performatives_10.specs.declared.condition.Condition.TheVariants.{ResourceLimitExceeded}
use Rattle.close_translate.specs.declared.conditions.Scope.{Scope}
use Rattle.machine_10.specs.Parts as container
use Rattle.publish_path.specs.declared.publish.NextReturn.{NextReturn}
use Rattle.gate_model.specs.Paths.{closed_path, lost_path, path_at, with_path}
use Rattle.gate_model.specs.declared.life.Life.{Life}
use Rattle.gate_model.specs.Lives.{life_at}
use Rattle.close_translate.specs.declared.conditions.Scope.TheVariants as scope
use Rattle.gate_model.specs.declared.reply.Pending.{Pending}
use Rattle.gate_model.specs.declared.reply.Reply.{Reply}
use Rattle.gate_model.specs.declared.reply.Reply.TheVariants as reply
use Rattle.gate_model.specs.Answers.{AreAnswered, AreReplies, is_close, is_close_ok, last_units}
use Rattle.gate_model.specs.Due.{channel_closes, channel_oks, client_units, close_oks, close_oks_on}
use Rattle.gate_model.specs.Due.{contents, may_return, content_on, return_on, may_confirm, may_confirm_all, may_confirm_some, may_go_on}
use Rattle.gate_model.specs.Due.{closes, confirm_on, confirms, if_so, ok_on, path_oks, is_beat_due}
use Rattle.gate_model.specs.Due.{last_closes, may_answer, may_end, may_go, may_tell, open_oks}
use Rattle.gate_model.specs.Due.{openings, pick, refused_on, rows, when, is_awaiting, is_silent}
use Rattle.gate_model.specs.Folds.{Peers, answers_of, closes_connection, connection, ended_on}
use Rattle.gate_model.specs.Folds.{failure_to, is_answer, leaving_in, opened_by, peers, peers_by}
use Rattle.gate_model.specs.Folds.{peers_came, peers_heard, peers_scoped, peers_session, ran_out_in}
use Rattle.gate_model.specs.Folds.{replies, replies_to, reply_by, sent, sent_since}
use Rattle.gate_model.specs.Folds.{carried_on, peers_closed, peers_left, scope_in, until_memory}
use Rattle.gate_model.specs.Picks.{ArePicks}
use Rattle.gate_model.specs.Requests.{client_step}
use Rattle.gate_model.specs.State.{Began, Came, Fed, Gave, Heard, Joined, Lost, Moment, OutOfMemory}
use Rattle.gate_model.specs.State.{Queued, Silent, State, Step, TakenUp, Whole, before, begun_session, came, carried, close, conn_step}
use Rattle.gate_model.specs.State.{dequeued, fail, failed, failure, has_left, heard, is_channel_settled, is_limit_reached, is_settled, sessions_lost}
use Rattle.gate_model.specs.State.{last_pending, left, life_failed, link_scope, none_pending}
use Rattle.gate_model.specs.State.{path_heard, runs, turns_foreign, with_header, with_meaning}
use Rattle.gate_model.specs.State.{with_session, with_want, without, scoped, session_lost, windowed, closed_for, closing_code, closing_error}
use Rattle.gate_relay.specs.Sides.{is_readable}
use Rattle.gate_model.specs.Upstream.{channel_max_in, container_by, first, has_closed, heard_up, meaning_by}
use Rattle.gate_model.specs.declared.outgoing.Outgoing.TheVariants.{ToClient}
use Rattle.machine_10.specs.Transitions as ten
use Rattle.machine_10.specs.Transitions.{Meaning}
use Rattle.machine_10.specs.declared.state.Upstream.{Upstream}
use Rattle.machine_10.specs.declared.unit.Unit10.{Unit10}
use Rattle.gate_model.proofs.Connections.{clash, close_same, only_given, opened_runs, opening_early, opening_phase, step_here}
use Rattle.gate_model.proofs.Outcomes.{OnlyChannels, only_closing}
use Rattle.gate_model.proofs.Queues.{none_left, none_next}
use Rattle.gate_model.proofs.Rows.{Has, HasNone, HasFirst, first_each, first_none, first_some, has, same_first}
use Rattle.gate_model.proofs.Sessions.{peers_like, session_on}
use Rattle.session_path.specs.Path.{PathState}
use Rattle.session_path.specs.declared.path.PathOk.{PathOk}
use Rattle.publish_path.specs.declared.publish.Confirm.{Confirm}
use Rattle.gate_model.specs.declared.channel.ChannelUnit.{ChannelUnit}
use Rattle.gate_model.specs.declared.channel.ChannelUnit.TheVariants as told_unit
use Rattle.gate_model.proofs.Known.{Known, Knows, conn_is, container_is, known, knows, memory_is, paths_are, routes_are}
use Rattle.gate_model.specs.declared.setup.Route.{Route}
use Rattle.gate_model.proofs.Phases.{ClosesNot, IsOver, IsSaid, Runs_, Shuts, StillCloses, are_replies, calm_in, said_in, said_next}
use Rattle.gate_model.proofs.Phases.{said_fail, said_if, said_left, said_opened}

-- ---- a unit goes

abbrev pending_of : (protocol start tune open_ok ok : Bool) (close : Option Refusal) (no_memory : Bool) → Pending
pending_of protocol start tune open_ok ok close no_memory =
    record { protocol = protocol; start = start; tune = tune; open_ok = open_ok; close_ok = ok; close = close; no_memory = no_memory }

-- the first that is due is no heartbeat; it goes, and the others stay
pub record Leads (r : Reply) (d : Pending) : Type 0 where
  pub answers : is_answer r ≡ true
  pub parts : rows d ≡ r ∷ rows (without r d)

-- what waits for the upstream end stands behind the others
pub first_due : (settled : Bool) (d : Pending) (r : Reply) → (settled ≡ false → d.no_memory ≡ false) → first (rows (may_go settled d)) ≡ Some r → Leads r d
first_due settled d r calm e = by settled d.protocol d.start d.tune d.open_ok d.close_ok d.close d.no_memory calm e
  where
    is_it : (all : Pending) (it : Reply) → Some it ≡ Some r → Leads it all → Leads r all
    is_it all it same is = let here : it ≡ r = cc in subst (λ (x : Reply). Leads x all) here is

    by : (settled protocol start tune open_ok ok : Bool) (close : Option Refusal) (wanting : Bool) → (settled ≡ false → wanting ≡ false)
        → first (rows (may_go settled (pending_of protocol start tune open_ok ok close wanting))) ≡ Some r
        → Leads r (pending_of protocol start tune open_ok ok close wanting)
    by true true start tune open_ok ok close wanting calm same = is_it (pending_of true start tune open_ok ok close wanting) reply.Protocol same (record { answers = refl; parts = refl })
    by true false true tune open_ok ok close wanting calm same = is_it (pending_of false true tune open_ok ok close wanting) reply.Start same (record { answers = refl; parts = refl })
    by true false false true open_ok ok close wanting calm same = is_it (pending_of false false true open_ok ok close wanting) reply.Tune same (record { answers = refl; parts = refl })
    by true false false false true ok close wanting calm same = is_it (pending_of false false false true ok close wanting) reply.OpenOk same (record { answers = refl; parts = refl })
    by true false false false false true close wanting calm same = is_it (pending_of false false false false true close wanting) reply.CloseOk same (record { answers = refl; parts = refl })
    by true false false false false false (Some c) wanting calm same = is_it (pending_of false false false false false (Some c) wanting) (reply.Close c) same (record { answers = refl; parts = refl })
    by true false false false false false None true calm same = is_it (pending_of false false false false false None true) reply.NoMemory same (record { answers = refl; parts = refl })
    by true false false false false false None false calm same = absurd cc
    by false true start tune open_ok ok close wanting calm same = is_it (pending_of true start tune open_ok ok close wanting) reply.Protocol same (record { answers = refl; parts = refl })
    by false false true tune open_ok ok close wanting calm same = is_it (pending_of false true tune open_ok ok close wanting) reply.Start same (record { answers = refl; parts = refl })
    by false false false true open_ok ok close wanting calm same = is_it (pending_of false false true open_ok ok close wanting) reply.Tune same (record { answers = refl; parts = refl })
    by false false false false true ok close wanting calm same = is_it (pending_of false false false true ok close wanting) reply.OpenOk same (record { answers = refl; parts = refl })
    by false false false false false ok close true calm same = absurd (clash true refl (calm refl))
    by false false false false false ok close false calm same = absurd cc

no_tune : (r : Reply) (d : Pending) → d.tune ≡ false → (without r d).tune ≡ false
no_tune reply.Tune d e = refl
no_tune x d e = e

no_open_ok : (r : Reply) (d : Pending) → d.open_ok ≡ false → (without r d).open_ok ≡ false
no_open_ok reply.OpenOk d e = refl
no_open_ok x d e = e

no_close_ok : (r : Reply) (d : Pending) → d.close_ok ≡ false → (without r d).close_ok ≡ false
no_close_ok reply.CloseOk d e = refl
no_close_ok x d e = e

no_close : (r : Reply) (d : Pending) → d.close ≡ None → (without r d).close ≡ None
no_close (reply.Close c) d e = refl
no_close x d e = e

no_wanting : (r : Reply) (d : Pending) → d.no_memory ≡ false → (without r d).no_memory ≡ false
no_wanting reply.NoMemory d e = refl
no_wanting x d e = e

said_went : (p : Phase91) (d : Pending) (r : Reply) (said all : List Reply) (gone : Bool) → Leads r d → IsSaid p d said all gone
    → IsSaid p (without r d) (said ++ r ∷ []) all gone
said_went p d r said all gone l s = by p s
  where
    same : (said ++ r ∷ []) ++ rows (without r d) ≡ said ++ rows d
    same = append_assoc said (r ∷ []) (rows (without r d)) ∙ ap (λ (x : List Reply). said ++ x) (sym l.parts)

    runs : Runs_ d said all → Runs_ (without r d) (said ++ r ∷ []) all
    runs s = record { ok = no_close_ok r d s.ok; none = no_close r d s.none; calm = no_wanting r d s.calm; same = same ∙ s.same }

    shuts : Shuts d said all → Shuts (without r d) (said ++ r ∷ []) all
    shuts s = record { ok = no_close_ok r d s.ok; calm = no_wanting r d s.calm; same = same ∙ s.same }

    over : IsOver d said all gone → IsOver (without r d) (said ++ r ∷ []) all gone
    over (StillCloses s) = StillCloses (shuts s)
    over (ClosesNot n m s) = ClosesNot (no_close r d n) (no_wanting r d m) (subst (λ (x : List Reply). AreReplies all x gone) (sym same) s)

    by : (p : Phase91) → IsSaid p d said all gone → IsSaid p (without r d) (said ++ r ∷ []) all gone
    by phase.Header s = let wrong : [] ≡ r ∷ rows (without r d) = sym (ap rows s.0) ∙ l.parts in absurd cc
    by phase.Start s = (no_tune r d s.0, (no_open_ok r d s.1.0, runs s.1.1))
    by phase.Tune s = (no_open_ok r d s.0, runs s.1)
    by phase.Open s = (no_open_ok r d s.0, runs s.1)
    by phase.Running s = runs s
    by phase.Closing s = shuts s
    by phase.Closed s = over s

-- a unit of an open channel, but for channel.open-ok
pub data IsOpen (r : Reply) : Type 0 where
  OnOpen : (k : ℕ) (u : ChannelUnit) → reply.OnChannel k u ≡ r → IsOpen r

-- a unit of a channel
pub data IsOfChannel (w : State) (r : Reply) : Type 0 where
  InOpen : IsOpen r → IsOfChannel w r
  InOpenOks : first (open_oks w) ≡ Some r → IsOfChannel w r
  InOks : first (channel_oks w) ≡ Some r → IsOfChannel w r
  InCloses : first (channel_closes w) ≡ Some r → IsOfChannel w r

-- the unit that is picked is the first of those of the connection that are due and wait for nothing, or of a row of channels, or a
-- heartbeat where none is
pub data Picked (w : State) (r : Reply) : Type 0 where
  IsDue : first (rows (may_go (is_settled w) w.pending)) ≡ Some r → Picked w r
  OnChannel : IsOfChannel w r → Picked w r
  Beats : client_units w ≡ [] → is_beat_due w ≡ true → r ≡ reply.Heartbeat → Picked w r

-- what is first of the units of channels is one of its row
pub in_if : (b : Bool) (us : List Reply) (r : Reply) → first (if_so b us) ≡ Some r → first us ≡ Some r
in_if true us r e = e
in_if false us r e = absurd cc

-- the rows of what is due to the connection, put together
rows_are : (p : Pending) → rows p ≡ openings p ++ (close_oks p ++ last_closes p)
rows_are p = by p.protocol p.start p.tune p.open_ok
  where
    by : (a b c d : Bool)
        → when a reply.Protocol ++ (when b reply.Start ++ (when c reply.Tune ++ (when d reply.OpenOk ++ (close_oks p ++ last_closes p))))
        ≡ (when a reply.Protocol ++ (when b reply.Start ++ (when c reply.Tune ++ when d reply.OpenOk))) ++ (close_oks p ++ last_closes p)
    by true true true true = refl
    by true true true false = refl
    by true true false true = refl
    by true true false false = refl
    by true false true true = refl
    by true false true false = refl
    by true false false true = refl
    by true false false false = refl
    by false true true true = refl
    by false true true false = refl
    by false true false true = refl
    by false true false false = refl
    by false false true true = refl
    by false false true false = refl
    by false false false true = refl
    by false false false false = refl

-- the first of these rows is one
on_open : (k : ℕ) (u : ChannelUnit) → IsOpen (reply.OnChannel k u)
on_open k u = OnOpen k u refl

unless_over : (over : Bool) (rs : List Reply) → FirstIs IsOpen rs → FirstIs IsOpen (if over then [] else rs)
unless_over true rs x = tt
unless_over false rs x = x

contents_open : (w : State) → FirstIs IsOpen (contents w)
contents_open w = each_is IsOpen _ w.lives (λ n. by n (may_go_on (may_confirm_all w) (life_at w.lives n)) (next_return (path_at w.paths n)))
  where
    by : (n : ℕ) (may : Bool) (o : Option NextReturn) → FirstIs IsOpen (content_on may n o)
    by n may None = tt
    by n may (Some r) = when_is IsOpen (may && not r.first) (reply.OnChannel n (told_unit.Return r)) (on_open n (told_unit.Return r))

writings_open : (w : State) → FirstIs IsOpen (writings w)
writings_open w = each_is IsOpen _ w.lives (λ n. unless_over (life_at w.lives n).over _ (by n (next_content (path_at w.paths n))))
  where
    by : (n : ℕ) (o : Option ContentDue) → FirstIs IsOpen (writing_on n o)
    by n None = tt
    by n (Some c) = on_open n (told_unit.Content c)

path_oks_open : (w : State) → FirstIs IsOpen (path_oks w)
path_oks_open w = each_is IsOpen _ w.lives (λ n. unless_over (life_at w.lives n).over _ (by n (next_ok (path_at w.paths n))))
  where
    by : (n : ℕ) (o : Option PathOk) → FirstIs IsOpen (ok_on n o)
    by n None = tt
    by n (Some x) = when_is IsOpen (is_plain_ok x) (reply.OnChannel n (told_unit.Ok x)) (on_open n (told_unit.Ok x))

consume_oks_open : (w : State) → FirstIs IsOpen (consume_oks w)
consume_oks_open w = each_is IsOpen _ w.lives (λ n. unless_over (life_at w.lives n).over _ (by n (next_ok (path_at w.paths n))))
  where
    by : (n : ℕ) (o : Option PathOk) → FirstIs IsOpen (consume_ok_on n o)
    by n None = tt
    by n (Some x) = when_is IsOpen (is_consume_ok x) (reply.OnChannel n (told_unit.Ok x)) (on_open n (told_unit.Ok x))

delivers_open : (w : State) → FirstIs IsOpen (delivers w)
delivers_open w = each_is IsOpen _ w.lives (λ n. unless_over (life_at w.lives n).over _ (by n (next_deliver (path_at w.paths n))))
  where
    by : (n : ℕ) (o : Option DeliverDue) → FirstIs IsOpen (deliver_on n o)
    by n None = tt
    by n (Some d) = when_is IsOpen (not d.get) (reply.OnChannel n (told_unit.Deliver d)) (on_open n (told_unit.Deliver d))

gets_open : (w : State) → FirstIs IsOpen (gets w)
gets_open w = each_is IsOpen _ w.lives (λ n. unless_over (life_at w.lives n).over _ (both_are IsOpen (empty_on n (next_ok (path_at w.paths n))) _ (empty n (next_ok (path_at w.paths n))) (by n (next_deliver (path_at w.paths n)))))
  where
    empty : (n : ℕ) (o : Option PathOk) → FirstIs IsOpen (empty_on n o)
    empty n None = tt
    empty n (Some x) = when_is IsOpen (is_empty_ok x) (reply.OnChannel n (told_unit.Ok x)) (on_open n (told_unit.Ok x))

    by : (n : ℕ) (o : Option DeliverDue) → FirstIs IsOpen (get_ok_on n o)
    by n None = tt
    by n (Some d) = when_is IsOpen d.get (reply.OnChannel n (told_unit.Deliver d)) (on_open n (told_unit.Deliver d))

confirms_open : (w : State) → FirstIs IsOpen (confirms w)
confirms_open w =
    each_is IsOpen _ w.lives (λ n. both_are IsOpen _ _ (back n (not w.out_of_memory && may_confirm (may_confirm_all w) (life_at w.lives n)) (next_return (path_at w.paths n)))
    (by n (may_confirm (may_confirm_all w) (life_at w.lives n)) (next_confirm (path_at w.paths n))))
  where
    back : (n : ℕ) (may : Bool) (o : Option NextReturn) → FirstIs IsOpen (return_on may n o)
    back n may None = tt
    back n may (Some r) = when_is IsOpen (may && r.first) (reply.OnChannel n (told_unit.Return r)) (on_open n (told_unit.Return r))

    by : (n : ℕ) (may : Bool) (o : Option Confirm) → FirstIs IsOpen (confirm_on may n o)
    by n may None = tt
    by n may (Some c) = when_is IsOpen may (reply.OnChannel n (told_unit.Confirm c)) (on_open n (told_unit.Confirm c))

-- the first of a list is what its first is
pub is_first : (P : Reply → Type 0) (us : List Reply) (r : Reply) → FirstIs P us → first us ≡ Some r → P r
is_first P [] r p e = absurd cc
is_first P (x ∷ us) r p e = let same : x ≡ r = cc in subst P same p

first_itself : (us : List Reply) → FirstIs (λ (u : Reply). first us ≡ Some u) us
first_itself [] = tt
first_itself (x ∷ us) = refl

each_first : (P Q : Reply → Type 0) (us : List Reply) → ((u : Reply) → P u → Q u) → FirstIs P us → FirstIs Q us
each_first P Q [] f p = tt
each_first P Q (x ∷ us) f p = f x p

answers_are : (w : State) → FirstIs (IsOfChannel w) (answers w)
answers_are w =
    both_are (IsOfChannel w) (open_oks w) _ (each_first _ (IsOfChannel w) (open_oks w) (λ u e. InOpenOks e) (first_itself (open_oks w)))
    (each_first IsOpen (IsOfChannel w) _ (λ u o. InOpen o)
    (both_are IsOpen (path_oks w) _ (path_oks_open w) (both_are IsOpen (consume_oks w) _ (consume_oks_open w) (both_are IsOpen (gets w) (delivers w) (gets_open w) (delivers_open w)))))

-- the first of what is due is the first of the rows of the connection, or of those of channels
units_first : (w : State) (r : Reply) → first (client_units w) ≡ Some r
    → (first (rows (may_go (is_settled w) w.pending)) ≡ Some r) ⊎ IsOfChannel w r
units_first w r e = zero_ (has contents_)
  where
    p : Pending
    p = may_go (is_settled w) w.pending

    contents_ : List Reply
    contents_ = if_so (may_return w) (contents w)

    writings_ : List Reply
    writings_ = if_so (may_answer w) (writings w)

    answers_ : List Reply
    answers_ = if_so (may_answer w) (answers w)

    confirms_ : List Reply
    confirms_ = if_so (may_confirm_some w) (confirms w)

    ends : List Reply
    ends = if_so (may_end w) (channel_oks w)

    closes_ : List Reply
    closes_ = if_so (may_tell w) (channel_closes w)

    -- behind the openings, and before them
    rest : List Reply
    rest = answers_ ++ (confirms_ ++ (close_oks p ++ (ends ++ (last_closes p ++ closes_))))

    more : List Reply
    more = writings_ ++ (openings p ++ rest)

    due_by : (o : Option Reply) → first (openings p ++ (close_oks p ++ last_closes p)) ≡ o → first (rows p) ≡ o
    due_by o f = ap first (rows_are p) ∙ f

    four_ : openings p ≡ [] → close_oks p ≡ [] → first (last_closes p ++ closes_) ≡ Some r → Has (last_closes p) → (first (rows p) ≡ Some r) ⊎ IsOfChannel w r
    four_ a c f (HasFirst u g) =
        let is : u ≡ r = same_first (first (last_closes p ++ closes_)) u r (first_some (last_closes p) closes_ u g) f in
        inl (due_by (Some r) (first_none (openings p) _ a ∙ first_none (close_oks p) _ c ∙ g ∙ ap Some is))
    four_ a c f (HasNone g) = inr (InCloses (in_if (may_tell w) (channel_closes w) r (sym (first_none (last_closes p) closes_ g) ∙ f)))

    three : openings p ≡ [] → close_oks p ≡ [] → first (ends ++ (last_closes p ++ closes_)) ≡ Some r → Has ends → (first (rows p) ≡ Some r) ⊎ IsOfChannel w r
    three a c f (HasFirst u g) =
        let is : u ≡ r = same_first (first (ends ++ (last_closes p ++ closes_))) u r (first_some ends _ u g) f in
        inr (InOks (in_if (may_end w) (channel_oks w) r (g ∙ ap Some is)))
    three a c f (HasNone g) = four_ a c (sym (first_none ends _ g) ∙ f) (has (last_closes p))

    two : openings p ≡ [] → first (close_oks p ++ (ends ++ (last_closes p ++ closes_))) ≡ Some r → Has (close_oks p) → (first (rows p) ≡ Some r) ⊎ IsOfChannel w r
    two a f (HasFirst u g) =
        let is : u ≡ r = same_first (first (close_oks p ++ (ends ++ (last_closes p ++ closes_)))) u r (first_some (close_oks p) _ u g) f in
        inl (due_by (Some r) (first_none (openings p) _ a ∙ first_some (close_oks p) (last_closes p) r (g ∙ ap Some is)))
    two a f (HasNone g) = three a g (sym (first_none (close_oks p) _ g) ∙ f) (has ends)

    confirming : openings p ≡ [] → first (confirms_ ++ (close_oks p ++ (ends ++ (last_closes p ++ closes_)))) ≡ Some r → Has confirms_
        → (first (rows p) ≡ Some r) ⊎ IsOfChannel w r
    confirming a f (HasFirst u g) =
        let is : u ≡ r = same_first (first (confirms_ ++ (close_oks p ++ (ends ++ (last_closes p ++ closes_))))) u r (first_some confirms_ _ u g) f in
        inr (InOpen (is_first IsOpen (confirms w) r (confirms_open w) (in_if (may_confirm_some w) (confirms w) r (g ∙ ap Some is))))
    confirming a f (HasNone g) = two a (sym (first_none confirms_ _ g) ∙ f) (has (close_oks p))

    behind : openings p ≡ [] → first rest ≡ Some r → Has answers_ → (first (rows p) ≡ Some r) ⊎ IsOfChannel w r
    behind a f (HasFirst u g) =
        let is : u ≡ r = same_first (first rest) u r (first_some answers_ _ u g) f in
        inr (is_first (IsOfChannel w) (answers w) r (answers_are w) (in_if (may_answer w) (answers w) r (g ∙ ap Some is)))
    behind a f (HasNone g) = confirming a (sym (first_none answers_ _ g) ∙ f) (has confirms_)

    one : first (openings p ++ rest) ≡ Some r → Has (openings p) → (first (rows p) ≡ Some r) ⊎ IsOfChannel w r
    one f (HasFirst u g) =
        let is : u ≡ r = same_first (first (openings p ++ rest)) u r (first_some (openings p) rest u g) f in
        inl (due_by (Some r) (first_some (openings p) _ r (g ∙ ap Some is)))
    one f (HasNone g) = behind g (sym (first_none (openings p) rest g) ∙ f) (has answers_)

    writing : first more ≡ Some r → Has writings_ → (first (rows p) ≡ Some r) ⊎ IsOfChannel w r
    writing f (HasFirst u g) =
        let is : u ≡ r = same_first (first more) u r (first_some writings_ (openings p ++ rest) u g) f in
        inr (InOpen (is_first IsOpen (writings w) r (writings_open w) (in_if (may_answer w) (writings w) r (g ∙ ap Some is))))
    writing f (HasNone g) = one (sym (first_none writings_ (openings p ++ rest) g) ∙ f) (has (openings p))

    zero_ : Has contents_ → (first (rows p) ≡ Some r) ⊎ IsOfChannel w r
    zero_ (HasFirst u g) =
        let is : u ≡ r = same_first (first (client_units w)) u r (first_some contents_ more u g) e in
        inr (InOpen (is_first IsOpen (contents w) r (contents_open w) (in_if (may_return w) (contents w) r (g ∙ ap Some is))))
    zero_ (HasNone g) = writing (sym (first_none contents_ more g) ∙ e) (has writings_)

picked_by : (w : State) (r : Reply) (rs : List Reply) (beats : Bool) → client_units w ≡ rs → is_beat_due w ≡ beats
    → first (map ToClient (rs ++ when beats reply.Heartbeat)) ≡ Some (ToClient r) → Picked w r
picked_by w r [] true e beat f = Beats e beat (let here : reply.Heartbeat ≡ r = cc in sym here)
picked_by w r [] false e beat f = absurd cc
picked_by w r (x ∷ rs) beats e beat f = by (units_first w r (ap first e ∙ (let here : x ≡ r = cc in ap Some here)))
  where
    by : (first (rows (may_go (is_settled w) w.pending)) ≡ Some r) ⊎ IsOfChannel w r → Picked w r
    by (inl g) = IsDue g
    by (inr g) = OnChannel g

pub picked : (w : State) (r : Reply) → pick w Client ≡ Some (ToClient r) → Picked w r
picked w r e = picked_by w r (client_units w) (is_beat_due w) refl refl e

answers_next : (rs : List Reply) (r : Reply) → answers_of (rs ++ r ∷ []) ≡ answers_of rs ++ answers_of (r ∷ [])
answers_next rs r = filter-append is_answer rs (r ∷ [])

-- a unit of a channel is no answer of the connection, and takes nothing of what is due to it
pub record IsOther (r : Reply) : Type 0 where
  pub answers : is_answer r ≡ false
  pub beats : r ≡ reply.Heartbeat → ⊥
  pub leaves : (d : Pending) → without r d ≡ d

on_channel_other : (k : ℕ) (u : ChannelUnit) → IsOther (reply.OnChannel k u)
on_channel_other k u = record { answers = refl; beats = λ e. cc; leaves = λ d. refl }

pub of_channel : (w : State) (r : Reply) → IsOfChannel w r → IsOther r
of_channel w r (InOpen (OnOpen k u e)) = subst IsOther e (on_channel_other k u)
of_channel w r (InOpenOks e) = first_each IsOther _ 0 w.lives r (λ k l v f. one k l.open_ok v f) e
  where
    one : (k : ℕ) (b : Bool) (v : Reply) → first (when b (reply.ChannelOpenOk k)) ≡ Some v → IsOther v
    one k true v e = let here : reply.ChannelOpenOk k ≡ v = cc in subst IsOther here (record { answers = refl; beats = λ e. cc; leaves = λ d. refl })
    one k false v e = absurd cc
of_channel w r (InOks e) = first_each IsOther _ 0 w.lives r one e
  where
    one : (k : ℕ) (l : Life) (v : Reply) → first (close_oks_on k (l.close_ok && is_channel_settled w k) l) ≡ Some v → IsOther v
    one k l v e = in_case l.crossed_ok (l.close_ok && is_channel_settled w k) e
      where
        in_case : (b c : Bool) → first (when b (reply.CrossedOk k) ++ when c (reply.ChannelCloseOk k)) ≡ Some v → IsOther v
        in_case true c e = let here : reply.CrossedOk k ≡ v = cc in subst IsOther here (record { answers = refl; beats = λ e. cc; leaves = λ d. refl })
        in_case false true e = let here : reply.ChannelCloseOk k ≡ v = cc in subst IsOther here (record { answers = refl; beats = λ e. cc; leaves = λ d. refl })
        in_case false false e = absurd cc
of_channel w r (InCloses e) = first_each IsOther _ 0 w.lives r one e
  where
    one : (k : ℕ) (l : Life) (v : Reply) → first (refused_on (is_channel_settled w k) k l.close) ≡ Some v → IsOther v
    one k l v e = in_case (is_channel_settled w k) l.close e
      where
        in_case : (b : Bool) (o : Option Reason) → first (refused_on b k o) ≡ Some v → IsOther v
        in_case true (Some x) e = let here : reply.ChannelClose k x ≡ v = cc in subst IsOther here (record { answers = refl; beats = λ e. cc; leaves = λ d. refl })
        in_case false (Some x) e = absurd cc
        in_case b None e = absurd cc

answers_other : (went : List Reply) (r : Reply) → is_answer r ≡ false → answers_of (went ++ r ∷ []) ≡ answers_of went
answers_other went r e = answers_next went r ∙ ap (λ (b : Bool). answers_of went ++ (if b then r ∷ [] else [])) e ∙ append-nil (answers_of went)

-- a reply that went is due no more, and a heartbeat is no reply
said_picked : (p : Phase91) (w : State) (r : Reply) (went all : List Reply) (gone : Bool) → Picked w r → IsSaid p w.pending (answers_of went) all gone
    → IsSaid p (without r w.pending) (answers_of (went ++ r ∷ [])) all gone
said_picked p w r went all gone (IsDue e) s =
    let l : Leads r w.pending = first_due (is_settled w) w.pending r (λ x. calm_in p w.pending (answers_of went) all gone s) e in
    let more : answers_of (went ++ r ∷ []) ≡ answers_of went ++ r ∷ [] =
    answers_next went r ∙ ap (λ (b : Bool). answers_of went ++ (if b then r ∷ [] else [])) l.answers in
    subst (λ (x : List Reply). IsSaid p (without r w.pending) x all gone) (sym more) (said_went p w.pending r (answers_of went) all gone l s)
said_picked p w r went all gone (OnChannel o) s =
    let x : IsOther r = of_channel w r o in
    subst (λ (d : Pending). IsSaid p d (answers_of (went ++ r ∷ [])) all gone) (sym (x.leaves w.pending))
    (subst (λ (y : List Reply). IsSaid p w.pending y all gone) (sym (answers_other went r x.answers)) s)
said_picked p w r went all gone (Beats none due e) s =
    subst (λ (x : Reply). IsSaid p (without x w.pending) (answers_of (went ++ x ∷ [])) all gone) (sym e)
    (subst (λ (x : List Reply). IsSaid p w.pending x all gone) (sym (answers_next went reply.Heartbeat ∙ append-nil (answers_of went))) s)

settled_last : (w : State) → w.out_of_memory ≡ true → is_settled w ≡ true
settled_last w e = ap (λ (b : Bool). b || (not (is_readable w.up.side) || (has_closed w.up || w.up.silent))) e

-- so what went and what is due stay the same together
picked_same : (w : State) (r : Reply) (went : List Reply) → w.out_of_memory ≡ true → Picked w r
    → answers_of (went ++ r ∷ []) ++ rows (without r w.pending) ≡ answers_of went ++ rows w.pending
picked_same w r went m (IsDue e) =
    let l : Leads r w.pending = first_due (is_settled w) w.pending r (λ x. absurd (clash _ (settled_last w m) x)) e in
    ap (λ (x : List Reply). x ++ rows (without r w.pending)) (answers_next went r ∙ ap (λ (b : Bool). answers_of went ++ (if b then r ∷ [] else [])) l.answers)
    ∙ append_assoc (answers_of went) (r ∷ []) (rows (without r w.pending))
    ∙ ap (λ (x : List Reply). answers_of went ++ x) (sym l.parts)
picked_same w r went m (OnChannel o) =
    let x : IsOther r = of_channel w r o in
    ap (λ (y : List Reply). y ++ rows (without r w.pending)) (answers_other went r x.answers) ∙ ap (λ (d : Pending). answers_of went ++ rows d) (x.leaves w.pending)
picked_same w r went m (Beats none due e) =
    subst (λ (x : Reply). answers_of (went ++ x ∷ []) ++ rows (without x w.pending) ≡ answers_of went ++ rows w.pending) (sym e)
    (ap (λ (x : List Reply). x ++ rows w.pending) (answers_next went reply.Heartbeat ∙ append-nil (answers_of went)))

-- ---- out of memory

skip : (keep : Reply → Bool) (b : Bool) (r : Reply) (us : List Reply) → keep r ≡ false → filter keep (when b r ++ us) ≡ filter keep us
skip keep true r us e = ap (λ (x : Bool). if x then r ∷ filter keep us else filter keep us) e
skip keep false r us e = refl

skip_closes : (o : Option Refusal) (us : List Reply) → filter is_close_ok (closes o ++ us) ≡ filter is_close_ok us
skip_closes None us = refl
skip_closes (Some r) us = refl

skip_last : (keep : Reply → Bool) (b : Bool) (r : Reply) → keep r ≡ false → filter keep (when b r) ≡ []
skip_last keep true r e = ap (λ (x : Bool). if x then r ∷ [] else []) e
skip_last keep false r e = refl

keep_close : (o : Option Refusal) (us : List Reply) → filter is_close us ≡ [] → filter is_close (closes o ++ us) ≡ rows (record none_pending { close = o })
keep_close None us e = e
keep_close (Some r) us e = ap (λ (x : List Reply). reply.Close r ∷ x) e

keep_close_ok : (b : Bool) (us : List Reply) → filter is_close_ok us ≡ [] → filter is_close_ok (when b reply.CloseOk ++ us) ≡ rows (record none_pending { close_ok = b })
keep_close_ok true us e = ap (λ (x : List Reply). reply.CloseOk ∷ x) e
keep_close_ok false us e = e

last_due : (p : Phase91) (d : Pending) → rows (last_pending p d) ≡ last_units p (rows d)
last_due phase.Closing d =
    sym (skip is_close d.protocol reply.Protocol _ refl ∙ skip is_close d.start reply.Start _ refl ∙ skip is_close d.tune reply.Tune _ refl ∙ skip is_close d.open_ok reply.OpenOk _ refl
    ∙ skip is_close d.close_ok reply.CloseOk _ refl ∙ keep_close d.close (when d.no_memory reply.NoMemory) (skip_last is_close d.no_memory reply.NoMemory refl))
last_due phase.Closed d =
    sym (skip is_close_ok d.protocol reply.Protocol _ refl ∙ skip is_close_ok d.start reply.Start _ refl ∙ skip is_close_ok d.tune reply.Tune _ refl ∙ skip is_close_ok d.open_ok reply.OpenOk _ refl
    ∙ keep_close_ok d.close_ok _ (skip_closes d.close (when d.no_memory reply.NoMemory) ∙ skip_last is_close_ok d.no_memory reply.NoMemory refl))
last_due x d = refl

-- ---- all steps

pub record SaysIn (memory : Bool) (p : Phase91) (d : Pending) (went since all : List Reply) (gone : Bool) (last : List Reply) : Type 0 where
  pub said : memory ≡ false → IsSaid p d (answers_of went) all gone
  pub ending : memory ≡ true → answers_of since ++ rows d ≡ last

-- the last units, by the steps before the pair ran out of memory
abbrev pub last_of : List Step → List Reply
last_of g = last_units (connection g).phase (rows (before g).pending)

abbrev pub Says : List Step → Type 0
Says h = SaysIn (ran_out_in h) (connection h).phase (before h).pending (sent h) (sent_since h) (replies h) (has_left (connection h).stream) (last_of (until_memory h))

isnt_left : (a b : Bool) → (a ≡ true → ⊥) → (b ≡ true → a ≡ true) → a ≡ b
isnt_left true b f g = absurd (f refl)
isnt_left false true f g = absurd (f (g refl))
isnt_left false false f g = refl

says_came : (w : State) (u : Unit91) (b : Bool) (c : Peers) (went since all last : List Reply) → (has_left c.client.stream ≡ true → ⊥) → w.routes ≡ c.routes → w.paths ≡ c.paths
    → w.conn ≡ c.client → SaysIn b c.client.phase w.pending went since all (has_left c.client.stream) last
    → let d : Peers = if b then c else peers_came c u in
    SaysIn b d.client.phase (if b then w else came (dequeued w) u).pending went since (if b then all else all ++ replies_to c.routes c.paths c.client u) (has_left d.client.stream) last
says_came w u true c went since all last may r g e s = s
says_came w u false p went since all last may r g e s =
    let c : Connection = p.client in
    let rs : List Route = p.routes in
    let ps : List (Option PathState) = p.paths in
    let next : Connection = conn_step rs ps c u in
    let more : List Reply = all ++ replies_to rs ps c u in
    let here : has_left c.stream ≡ has_left next.stream = isnt_left (has_left c.stream) (has_left next.stream) may (step_here rs ps c u) in
    record {
      said = λ m. subst (λ (g : Bool). IsSaid next.phase (came (dequeued w) u).pending (answers_of went) more g) here
          (subst (λ (x : Connection). IsSaid next.phase (with_header (turns_foreign w.routes w.paths x u) (with_want (client_step w.routes w.paths x u).1 w.pending)) (answers_of went) more (has_left c.stream)) (sym e)
          (subst (λ (x : List Route). IsSaid next.phase (with_header (turns_foreign x w.paths c u) (with_want (client_step x w.paths c u).1 w.pending)) (answers_of went) more (has_left c.stream)) (sym r)
          (subst (λ (x : List (Option PathState)). IsSaid next.phase (with_header (turns_foreign rs x c u) (with_want (client_step rs x c u).1 w.pending)) (answers_of went) more (has_left c.stream)) (sym g)
          (said_next rs ps c u w.pending (answers_of went) all (has_left c.stream) (s.said m)))));
      ending = λ m. absurd (clash false m refl);
    }

says_taken : (w : State) (b d l : Bool) (p : Peers) (went since all last : List Reply) → (d ≡ true → l ≡ true)
    → (d ≡ false → b ≡ false → l ≡ true → after_ended p.client ≡ p.client) → SaysIn b p.client.phase w.pending went since all (has_left p.client.stream) last
    → let q : Peers = if not b && l then peers_left p else p in
    SaysIn b q.client.phase (if not b && d then left w else w).pending went since all (has_left q.client.stream) last
says_taken w true d l p went since all last f g s = s
says_taken w false true true p went since all last f g s = record {
  said = λ m. said_left p.client.phase w.pending (answers_of went) all (has_left p.client.stream) (s.said m);
  ending = λ m. absurd (clash false m refl);
}
says_taken w false true false p went since all last f g s = absurd (clash false (f refl) refl)
says_taken w false false false p went since all last f g s = s
says_taken w false false true p went since all last f g s =
    subst (λ (x : Connection). SaysIn false x.phase w.pending went since all (has_left x.stream) last) (sym (g refl refl refl)) s

says_nothing : (b : Bool) (c : Connection) (d : Pending) (went since all last : List Reply) → SaysIn b c.phase d went since all (has_left c.stream) last
    → SaysIn b c.phase d went since (all ++ []) (has_left c.stream) last
says_nothing b c d went since all last s = subst (λ (x : List Reply). SaysIn b c.phase d went since x (has_left c.stream) last) (sym (append-nil all)) s

says_fail : (w : State) (code : ℕ) (why : Option Condition) (b : Bool) (c : Connection) (went since all last : List Reply) → w.conn ≡ c
    → (b ≡ true → is_closing c ≡ true) → SaysIn b c.phase w.pending went since all (has_left c.stream) last
    → SaysIn b (close c).phase (fail code why w).pending went since (all ++ failure_to c code) (has_left c.stream) last
says_fail w code why b c went since all last e shuts s =
    subst (λ (x : Connection). SaysIn b (close c).phase (if is_closing x then sessions_lost w else failed code why w).pending went since (all ++ failure_to c code) (has_left c.stream) last) (sym e)
    (by (is_closing c) refl)
  where
    by : (k : Bool) → is_closing c ≡ k
        → SaysIn b (close c).phase (if k then sessions_lost w else failed code why w).pending went since (all ++ when (not k) (reply.Close (failure code))) (has_left c.stream) last
    by true k =
        subst (λ (x : Connection). SaysIn b x.phase w.pending went since (all ++ []) (has_left c.stream) last) (sym (close_same c k))
        (says_nothing b c w.pending went since all last s)
    by false k = record {
      said = λ m. said_fail c.phase w.pending (answers_of went) all (has_left c.stream) (failure code) k (s.said m);
      ending = λ m. absurd (clash _ (shuts m) k);
    }

says_session : (g : ℕ) (q : container.Parts) (payload : List ℕ) (w : State) (b : Bool) (o : Option Upstream) (n : ℕ) (f : ℕ → SessionState) (went since all last : List Reply)
    → link_scope q payload (f g) (path_at w.paths g) ≡ link_scope q payload (session_on w g) (path_at w.paths g) → (b ≡ true → is_closing w.conn ≡ true)
    → SaysIn b w.conn.phase w.pending went since all (has_left w.conn.stream) last
    → let x : Peers = peers_session g q payload (peers_like o n f w) in
    SaysIn b x.client.phase (with_session g q payload w).pending went since
    (all ++ (if closes_connection (link_scope q payload (f g) (path_at w.paths g)) then failure_to w.conn INTERNAL_ERROR else [])) (has_left x.client.stream) last
says_session g q payload w b o n f went since all last known_ shuts s =
    subst (λ (k : Option Scope). Goal k (with_session g q payload w)) (sym known_) (by (link_scope q payload (session_on w g) (path_at w.paths g)))
  where
    x : Peers
    x = peers_like o n (carried_on g q f) w

    Goal : Option Scope → State → Type 0
    Goal k v = SaysIn b (peers_scoped k g q payload x).client.phase v.pending went since
        (all ++ (if closes_connection k then failure_to w.conn INTERNAL_ERROR else [])) (has_left (peers_scoped k g q payload x).client.stream) last

    same : SaysIn b w.conn.phase w.pending went since (all ++ []) (has_left w.conn.stream) last
    same = says_nothing b w.conn w.pending went since all last s

    moved : (d : Connection) → OnlyChannels w.conn d → SaysIn b d.phase w.pending went since (all ++ []) (has_left d.stream) last
    moved d x = subst (λ (y : Connection). SaysIn b y.phase w.pending went since (all ++ []) (has_left y.stream) last) (sym x.same) same

    ended : (y : Bool) (h : PathState → PathState) (ps : List (Option PathState)) (v : State) (r : Refusal) (why : Option Condition) → v.pending ≡ w.pending
        → let z : Peers = ended_on y g h (record x { paths = ps }) in
        SaysIn b z.client.phase (if y then life_failed g r why h v else v).pending went since (all ++ []) (has_left z.client.stream) last
    ended true h ps v r why e = subst (λ (d : Pending). SaysIn b (after_closing scope.Channel g w.conn).phase d went since (all ++ []) (has_left (after_closing scope.Channel g w.conn).stream) last)
        (sym e) (moved (after_closing scope.Channel g w.conn) (only_closing g w.conn))
    ended false h ps v r why e = subst (λ (d : Pending). SaysIn b w.conn.phase d went since (all ++ []) (has_left w.conn.stream) last) (sym e) same

    heard : List (Option PathState)
    heard = with_path g (path_heard w.conn.limits.frame_max g q payload) w.paths

    v : State
    v = carried g q payload w

    closed : (k : Option ℕ)
        → let z : Peers = peers_closed g k (record x { paths = heard }) in
        SaysIn b z.client.phase (closed_for g k v).pending went since (all ++ []) (has_left z.client.stream) last
    closed None = same
    closed (Some code) = ended (is_open w.conn g) closed_path heard v _ None refl

    met : (a : Bool) (k : Option ℕ)
        → let z : Peers = if a then record x { paths = heard } else peers_closed g k (record x { paths = heard }) in
        SaysIn b z.client.phase (if a then begun_session g v else closed_for g k v).pending went since (all ++ []) (has_left z.client.stream) last
    met true k = same
    met false k = closed k

    by : (k : Option Scope) → Goal k (scoped k g q payload w)
    by None = met (q.0 == 17) (closing_code q payload (path_at w.paths g))
    by (Some scope.Connection) = says_fail (windowed g q w) INTERNAL_ERROR (Some (closing_error q (path_at w.paths g))) b w.conn went since all last refl shuts s
    by (Some scope.Channel) = ended (is_open w.conn g) closed_path (with_path g lost_path w.paths) (session_lost g (windowed g q w)) _ _ refl

says_meaning : (m : Meaning) (w : State) (b : Bool) (p : Peers) (went since all last : List Reply) → Knows p.carried m w.lives w.paths → w.routes ≡ p.routes → w.conn ≡ p.client
    → w.paths ≡ p.paths → (b ≡ true → is_closing p.client ≡ true) → SaysIn b p.client.phase w.pending went since all (has_left p.client.stream) last
    → SaysIn b (peers_by m p).client.phase (with_meaning m w).pending went since (all ++ reply_by p m) (has_left (peers_by m p).client.stream) last
says_meaning ten.Nothing w b p went since all last k r e f shuts s = says_nothing b p.client w.pending went since all last s
says_meaning ten.Init w b p went since all last k r e f shuts s = says_nothing b p.client w.pending went since all last s
says_meaning ten.AmqpHeader w b p went since all last k r e f shuts s = says_nothing b p.client w.pending went since all last s
says_meaning ten.Opened w b p went since all last k r e f shuts s =
    subst (λ (x : Connection). SaysIn b (opened_by p.container c).phase (if is_opening x then runs w else w).pending went since (all ++ when (is_opening c) reply.OpenOk) (has_left (opened_by p.container c).stream) last) (sym e)
    (by (is_opening c) refl)
  where
    c : Connection
    c = p.client

    by : (k : Bool) → is_opening c ≡ k
        → let d : Connection = if k then after_opened (channel_max_in p.container) c else c in
        SaysIn b d.phase (if k then runs w else w).pending went since (all ++ when k reply.OpenOk) (has_left d.stream) last
    by true k = record {
      said = λ m. let t = said_in {q = phase.Open} w.pending (answers_of went) all (has_left c.stream) (opening_phase c k) (s.said m) in
          subst (λ (p : Phase91). IsSaid p (record w.pending { open_ok = true }) (answers_of went) (all ++ reply.OpenOk ∷ []) (has_left c.stream)) (sym (opened_runs (channel_max_in p.container) c k))
          (said_opened w.pending (answers_of went) all t.0 t.1);
      ending = λ m. absurd (opening_early c k (shuts m));
    }
    by false k = says_nothing b c w.pending went since all last s
says_meaning (ten.OfSession g q payload) w b p went since all last k r e f shuts s =
    subst (λ (rs : List Route). Goal rs p.client p.paths) r (subst (λ (c : Connection). Goal w.routes c p.paths) e
    (subst (λ (ps : List (Option PathState)). Goal w.routes w.conn ps) f
    (says_session g q payload w b p.container p.opened p.carried went since all last k (λ m. ap is_closing e ∙ shuts m)
    (subst (λ (c : Connection). SaysIn b c.phase w.pending went since all (has_left c.stream) last) (sym e) s))))
  where
    Goal : List Route → Connection → List (Option PathState) → Type 0
    Goal rs c ps =
        let x : Peers = record p { routes = rs; client = c; paths = ps } in
        SaysIn b (peers_session g q payload x).client.phase (with_session g q payload w).pending went since
        (all ++ (if closes_connection (scope_in x g q payload) then failure_to c INTERNAL_ERROR else []))
        (has_left (peers_session g q payload x).client.stream) last
says_meaning (ten.Closed x) w b p went since all last k r e f shuts s = says_fail w _ None b p.client went since all last e shuts s
says_meaning ten.Refused w b p went since all last k r e f shuts s = says_fail w _ None b p.client went since all last e shuts s
says_meaning (ten.Violation x) w b p went since all last k r e f shuts s = says_fail w _ (Some x) b p.client went since all last e shuts s

-- the container's connection says nothing of the reply
same_reply : (m : Meaning) (p : Peers) (o : Option Upstream) → reply_by (record p { container = o }) m ≡ reply_by p m
same_reply ten.Nothing p o = refl
same_reply x p o = refl

says_heard : (w : State) (u : Unit10) (b : Bool) (p : Peers) (went since all last : List Reply) → Knows p.carried (meaning_by w.up.container u) w.lives w.paths
    → w.routes ≡ p.routes → w.conn ≡ p.client → w.up.container ≡ p.container → w.paths ≡ p.paths
    → (b ≡ true → is_closing p.client ≡ true) → SaysIn b p.client.phase w.pending went since all (has_left p.client.stream) last
    → let q : Peers = if b then p else peers_heard p u in
    SaysIn b q.client.phase (if b then w else heard w u).pending went since (if b then all else all ++ reply_by p (meaning_by p.container u)) (has_left q.client.stream) last
says_heard w u true p went since all last k r e f g shuts s = s
says_heard w u false p went since all last k r e f g shuts s =
    let m : Meaning = meaning_by p.container u in
    let x : Peers = record p { container = container_by p.container u } in
    subst (λ (y : List Reply). SaysIn false (peers_by m x).client.phase (heard w u).pending went since (all ++ y) (has_left (peers_by m x).client.stream) last) (same_reply m p x.container)
    (subst (λ (y : Meaning). SaysIn false (peers_by m x).client.phase (with_meaning y (record w { up = heard_up u w.up })).pending went since (all ++ reply_by x m) (has_left (peers_by m x).client.stream) last)
    (ap (λ (o : Option Upstream). meaning_by o u) (sym f))
    (says_meaning m (record w { up = heard_up u w.up }) false x went since all last
    (subst (λ (o : Option Upstream). Knows p.carried (meaning_by o u) w.lives w.paths) f k) r e g shuts s))

-- the connection is closing once the pair ran out of memory
pub shuts_in : {h : List Step} → Known h → ran_out_in h ≡ true → is_closing (connection h) ≡ true
shuts_in k m = sym (ap is_closing (conn_is k)) ∙ k.sound.shuts (memory_is k ∙ m)

-- a client is given up before the pair runs out of memory
calm_silent : (w : State) → is_silent w Client ≡ true → w.out_of_memory ≡ false
calm_silent w e = by (is_awaiting w Client) w.given_up w.gone w.leaving w.out_of_memory _ e
  where
    by : (a b c d m f : Bool) → (a && (not (b || (c || (d || m))) && f)) ≡ true → m ≡ false
    by false b c d m f e = absurd cc
    by true true c d m f e = absurd cc
    by true false true d m f e = absurd cc
    by true false false true m f e = absurd cc
    by true false false false true f e = absurd cc
    by true false false false false f e = refl

pub says : (h : List Step) → ArePicks h → Says h
says [] p = record { said = λ m. (refl, refl); ending = λ m. absurd (clash false m refl) }
says (Began site n ms ∷ h) p = subst (λ (x : List Step). Says (Began site n ms ∷ x)) (sym p.0) (record { said = λ m. (refl, refl); ending = λ m. absurd (clash false m refl) })
says (Moment ms ∷ h) p =
    let s : Says h = says h p.1 in
    record { said = λ m. said_if (is_limit_reached (connection h) _ ms) (connection h) (before h).pending (answers_of (sent h)) (replies h) (s.said m); ending = s.ending }
says (Fed Client ∷ h) p = says h p.1
says (Silent Client ∷ h) p =
    let s : Says h = says h p.1 in
    record {
      said = λ m. said_left (connection h).phase (before h).pending (answers_of (sent h)) (replies h) (has_left (connection h).stream) (s.said m);
      ending = λ m. absurd (clash _ (memory_is (known h p.1) ∙ m) (calm_silent (before h) p.0));
    }
says (Silent Up ∷ h) p =
    let k : Known h = known h p.1 in
    says_fail _ CONNECTION_FORCED (Some ResourceLimitExceeded) (ran_out_in h) (connection h) (sent h) (sent_since h) (replies h) (last_of (until_memory h)) (conn_is k) (shuts_in k)
    (says h p.1)
says (Queued u ∷ h) p = by (before h).out_of_memory (says h p.1)
  where
    by : (b : Bool) → Says h → SaysIn (ran_out_in h) (connection h).phase (if b then before h else record (before h) { queue = (before h).queue ++ u ∷ [] }).pending (sent h) (sent_since h) (replies h) (has_left (connection h).stream) (last_of (until_memory h))
    by true s = s
    by false s = s
says (Came u ∷ h) p =
    let k : Known h = known h p.1 in
    subst (λ (x : Bool). SaysIn (ran_out_in h) (connection (Came u ∷ h)).phase (if x then before h else came (dequeued (before h)) u).pending (sent h) (sent_since h) (replies (Came u ∷ h)) (has_left (connection (Came u ∷ h)).stream) (last_of (until_memory h)))
    (sym (memory_is k))
    (says_came (before h) u (ran_out_in h) (peers h) (sent h) (sent_since h) (replies h) (last_of (until_memory h))
    (λ x. none_next (before h) u (none_left h p.1 (ap (λ (c : Connection). has_left c.stream) (conn_is k) ∙ x)) p.0) (routes_are k) (paths_are k) (conn_is k) (says h p.1))
says (TakenUp ∷ h) p =
    let k : Known h = known h p.1 in
    subst (λ (x : Bool). SaysIn (ran_out_in h) (connection (TakenUp ∷ h)).phase (if not x && (before h).leaving then left (before h) else before h).pending (sent h) (sent_since h) (replies h) (has_left (connection (TakenUp ∷ h)).stream) (last_of (until_memory h)))
    (sym (memory_is k))
    (says_taken (before h) (ran_out_in h) (before h).leaving (leaving_in h) (peers h) (sent h) (sent_since h) (replies h) (last_of (until_memory h)) k.sound.leaves
    (λ x y z. subst (λ (c : Connection). after_ended c ≡ c) (conn_is k) (k.sound.ended (k.sound.left_is (memory_is k ∙ y) z x))) (says h p.1))
says (Heard u ∷ h) p =
    let k : Known h = known h p.1 in
    subst (λ (x : Bool). SaysIn (ran_out_in h) (connection (Heard u ∷ h)).phase (if x then before h else heard (before h) u).pending (sent h) (sent_since h) (replies (Heard u ∷ h)) (has_left (connection (Heard u ∷ h)).stream) (last_of (until_memory h)))
    (sym (memory_is k))
    (says_heard (before h) u (ran_out_in h) (peers h) (sent h) (sent_since h) (replies h) (last_of (until_memory h)) (knows h u k) (routes_are k) (conn_is k) (container_is k) (paths_are k) (shuts_in k) (says h p.1))
says (Joined link.Failed ∷ h) p =
    let k : Known h = known h p.1 in
    says_fail _ CONNECTION_FORCED None (ran_out_in h) (connection h) (sent h) (sent_since h) (replies h) (last_of (until_memory h)) (conn_is k) (shuts_in k) (says h p.1)
says (Lost Client loss.Ended ∷ h) p = says h p.1
says (Lost Up loss.Ended ∷ h) p =
    let k : Known h = known h p.1 in
    says_fail _ CONNECTION_FORCED None (ran_out_in h) (connection h) (sent h) (sent_since h) (replies h) (last_of (until_memory h)) (conn_is k) (shuts_in k) (says h p.1)
says (Lost Up loss.Failed ∷ h) p =
    let k : Known h = known h p.1 in
    says_fail _ CONNECTION_FORCED None (ran_out_in h) (connection h) (sent h) (sent_since h) (replies h) (last_of (until_memory h)) (conn_is k) (shuts_in k) (says h p.1)
says (Gave (ToClient u) text ∷ h) p =
    let s : Says h = says h p.1 in
    let it : Picked (before h) u = picked (before h) u p.0.1 in
    record {
      said = λ m. subst (λ (c : Connection). IsSaid c.phase (without u (before h).pending) (answers_of (sent h ++ u ∷ [])) (replies h) (has_left c.stream)) (sym (only_given u (connection h)).same)
          (said_picked (connection h).phase (before h) u (sent h) (replies h) (has_left (connection h).stream) it (s.said m));
      ending = λ m. picked_same (before h) u (sent_since h) (memory_is (known h p.1) ∙ m) it ∙ s.ending m;
    }
says (Whole Client ∷ h) p = says h p.1
says (OutOfMemory ∷ h) p =
    let k : Known h = known h p.1 in
    record { said = λ m. absurd (clash true refl m); ending = λ m. last_due (before h).conn.phase (before h).pending ∙ ap (λ (c : Connection). last_units c.phase (rows (before h).pending)) (conn_is k) }
says (s ∷ h) p = says h p.1

-- no close for that a pair ran out of memory is due before it did
pub calm_now : (h : List Step) → ArePicks h → is_settled (before h) ≡ false → (before h).pending.no_memory ≡ false
calm_now h p e = by (ran_out_in h) refl
  where
    by : (b : Bool) → ran_out_in h ≡ b → (before h).pending.no_memory ≡ false
    by true m = absurd (clash _ (settled_last (before h) (memory_is (known h p) ∙ m)) e)
    by false m = calm_in (connection h).phase (before h).pending (answers_of (sent h)) (replies h) (has_left (connection h).stream) ((says h p).said m)

pub answered : (h : List Step) → ArePicks h → AreAnswered h
answered h p =
    let s : Says h = says h p in
    record {
      all = λ m. are_replies (connection h).phase (before h).pending (answers_of (sent h)) (replies h) (has_left (connection h).stream) (s.said m);
      last = s.ending;
    }
