-- The state knows what the folds say of both connections, of the upstream end, of the moments and of the pair's memory.
use Rattle.std.proofs.Common.{◌+◌, ◌≡◌, ℕ, ◌-◌, ◌≤◌, nat_le, Bool, true, false, not, ◌&&◌, ◌||◌}
use Rattle.std.proofs.Common.{if◌then◌else◌, List, [], ◌∷◌, ◌++◌, Option, None, Some, refl, sym, ap, ◌∙◌, ◌<◌, length, subst, arith}
use Rattle.std.specs.Prelude.{is_some}
use Rattle.gate_outside.specs.declared.ports.End.TheVariants.{Client, Up}
use Rattle.gate_outside.specs.declared.ports.Linked.TheVariants as link
use Rattle.gate_relay.specs.declared.loss.Loss.TheVariants as loss
use Rattle.gate_relay.specs.declared.sides.Side.{Side}
use Rattle.gate_relay.specs.declared.sides.Side.TheVariants as side
use Rattle.machine_091.specs.Calls.{after_closing, after_ended, after_opened}
use Rattle.machine_091.specs.Contents.{no_contents}
use Rattle.machine_091.specs.declared.contents.Incoming.{Incoming}
use Rattle.machine_091.specs.State.{is_closing, is_closing_phase, is_opening}
use Rattle.machine_091.specs.declared.state.Connection.{Connection}
use Rattle.machine_091.specs.declared.unit.Unit91.{Unit91}
use Rattle.machine_091.specs.declared.unit.Want91.{Want91}
use Rattle.machine_091.specs.declared.unit.Want91.TheVariants as want
use Rattle.machine_10.specs.Transitions as ten
use Rattle.machine_10.specs.Transitions.{Meaning}
use Rattle.machine_10.specs.declared.state.Upstream.{Upstream}
use Rattle.machine_10.specs.declared.unit.Unit10.{Unit10}
use Rattle.performatives_10.specs.declared.condition.Condition.{Condition}
use Rattle.performatives_10.specs.declared.condition.Condition.TheVariants.{ResourceLimitExceeded}
use Rattle.gate_model.specs.declared.outgoing.Outgoing.TheVariants.{ToClient, ToUp}
use Rattle.gate_model.specs.declared.timers.TheConstants.{HANDSHAKE_LIMIT}
use Rattle.gate_model.specs.Folds.{Peers, accepted_in, closed_in, connection}
use Rattle.gate_model.specs.Folds.{paths_in, peers_by, peers_failed, peers_lost, peers_session}
use Rattle.gate_model.specs.Folds.{container, container_kept, leaving_in, moment_in, number_in}
use Rattle.gate_model.specs.Folds.{peers, peers_came, peers_heard, ran_out_in, side_in, silent_in}
use Rattle.gate_model.specs.Folds.{carried_on, going_in, peers_left, peers_told, routes_in, up_fed_at}
use Rattle.gate_model.specs.Picks.{ArePicks}
use Rattle.close_translate.specs.declared.conditions.Scope.TheVariants as scope
use Rattle.machine_10.specs.Parts.{Parts}
use Rattle.gate_model.specs.Requests.{client_step}
use Rattle.gate_model.specs.State.{is_later, Began, Came, Fed, Gave, Heard, Joined, LinesTold, Lost, Moment, OutOfMemory}
use Rattle.gate_model.specs.State.{Queued, Silent, State, Step, TakenUp, Whole, before, came, close}
use Rattle.gate_model.specs.State.{close_if, closes_at, conn_given, conn_step, dequeued, fail}
use Rattle.gate_model.specs.State.{failed, has_left, heard, is_limit_reached, keep_login, left, sessions_lost}
use Rattle.gate_model.specs.State.{lives_opened, new_state, path_heard, paths_by, paths_given}
use Rattle.gate_model.specs.State.{link_scope, paths_given_up, paths_lost, paths_wrote, ran_out, runs, told, want_in}
use Rattle.gate_model.specs.State.{windowed, with_meaning, with_session}
use Rattle.gate_model.specs.Upstream.{UpState, channel_max_of, closing_with, container_given, heard_up, meaning_by}
use Rattle.gate_model.proofs.Basics.{or_false}
use Rattle.gate_model.proofs.Connections.{asked_if, clash, close_closes, close_same, closes_again}
use Rattle.gate_model.proofs.Connections.{closes_some, closing_only, ended_if, implied, late_later}
use Rattle.gate_model.proofs.Connections.{late_step, only_given, opened_runs, opening_early, step_closes, step_here, stream_if}
use Rattle.gate_model.proofs.Outcomes.{OnlyChannels, only_closing}
use Rattle.gate_model.proofs.Queues.{none_left, none_next}
use Rattle.gate_model.proofs.Carried.{at, came_keeps, carried_heard, fail_same, fold_came, fold_heard}
use Rattle.gate_model.proofs.Carried.{fold_taken, given_keeps, heard_makes, left_keeps, sent_makes, sent_same}
use Rattle.gate_model.proofs.Lives.{lives_all}
use Rattle.gate_model.proofs.Numbers.{many_paths, same_scope}
use Rattle.gate_model.proofs.Places.{new_at}
use Rattle.gate_model.proofs.Sessions.{peers_at, session_by, session_cases, session_on}
use Rattle.gate_model.specs.declared.life.Life.{Life}
use Rattle.gate_model.specs.declared.life.SessionState.{SessionState}
use Rattle.gate_model.specs.declared.reply.Reply.{Reply}
use Rattle.gate_model.specs.Due.{can_leave}
use Rattle.session_path.specs.Path.{PathState}
use Rattle.gate_model.specs.Paths.{closed_path, closed_paths, lost_path, ended_paths, path_at, told_paths, with_path}
use Rattle.gate_model.specs.Setup.{SiteText}
use Rattle.gate_model.specs.declared.setup.Route.{Route}

-- ---- what both know

pub record Seen : Type 0 where
  pub memory : Bool
  pub routes : List Route
  pub conn : Connection
  pub container : Option Upstream
  pub paths : List (Option PathState)
  pub opened : ℕ
  pub going : Option Reply
  pub side : Side
  pub number : ℕ
  pub accepted : ℕ
  pub moment : ℕ
  pub closed : Option ℕ
  pub silent : Bool
  pub up_fed : ℕ

abbrev pub seen : State → Seen
seen w = record {
  memory = w.out_of_memory;
  routes = w.routes;
  conn = w.conn;
  container = w.up.container;
  paths = w.paths;
  opened = w.opened;
  going = w.in_progress;
  side = w.up.side;
  number = w.number;
  accepted = w.accepted_at;
  moment = w.moment;
  closed = w.closed_at;
  silent = w.up.silent;
  up_fed = w.up.fed_at;
}

abbrev pub seen_in : List Step → Seen
seen_in h = record {
  memory = ran_out_in h;
  routes = routes_in h;
  conn = connection h;
  container = container h;
  paths = paths_in h;
  opened = (peers h).opened;
  going = going_in h;
  side = side_in h;
  number = number_in h;
  accepted = accepted_in h;
  moment = moment_in h;
  closed = closed_in h;
  silent = silent_in h;
  up_fed = up_fed_at h;
}

-- with these sessions
abbrev peers_of : (ℕ → SessionState) → Seen → Peers
peers_of f x = record {
  routes = x.routes;
  client = x.conn;
  container = x.container;
  paths = x.paths;
  opened = x.opened;
  carried = f;
}

-- the closing event is the first after which the client's connection is closing
abbrev with_peers : Seen → Peers → Seen
with_peers x p = record x {
  routes = p.routes;
  conn = p.client;
  container = p.container;
  paths = p.paths;
  opened = p.opened;
  closed = closes_at x.closed (is_closing p.client) x.moment;
}

-- a client's end is taken up once it ended or failed alone
leaves_now : (w : State) → can_leave w ≡ true → w.leaving ≡ true
leaves_now w e = by w.leaving _ e
  where
    by : (a b : Bool) → (a && b) ≡ true → a ≡ true
    by true b f = refl
    by false b f = absurd cc

-- ---- what holds of the state alone

pub record Sound (memory leaving late : Bool) (c : Connection) (accepted moment : ℕ) (closed : Option ℕ) (leaving' : Bool) : Type 0 where
  pub leaves : leaving ≡ true → leaving' ≡ true
  pub left_is : memory ≡ false → leaving' ≡ true → leaving ≡ false → has_left c.stream ≡ true
  pub ended : has_left c.stream ≡ true → after_ended c ≡ c
  pub late_is : late ≡ is_limit_reached c accepted moment
  pub late_closes : late ≡ true → is_closing c ≡ true
  pub closing : is_closing c ≡ true → is_some closed ≡ true
  pub shuts : memory ≡ true → is_closing c ≡ true

abbrev pub SoundIn : State → Bool → Type 0
SoundIn w l = Sound w.out_of_memory w.leaving w.late w.conn w.accepted_at w.moment w.closed_at l

pub record KnownIn (w : State) (h : List Step) : Type 0 where
  pub same : seen w ≡ seen_in h
  pub sound : SoundIn w (leaving_in h)
  pub carries : (n : ℕ) → n < 256 → at n w.lives ≡ (peers h).carried n

abbrev pub Known : List Step → Type 0
Known h = KnownIn (before h) h

pub conn_is : {h : List Step} → Known h → (before h).conn ≡ connection h
conn_is k = ap (λ (x : Seen). x.conn) k.same

pub routes_are : {h : List Step} → Known h → (before h).routes ≡ routes_in h
routes_are k = ap (λ (x : Seen). x.routes) k.same

pub container_is : {h : List Step} → Known h → (before h).up.container ≡ container h
container_is k = ap (λ (x : Seen). x.container) k.same

pub paths_are : {h : List Step} → Known h → (before h).paths ≡ paths_in h
paths_are k = ap (λ (x : Seen). x.paths) k.same

pub opened_is : {h : List Step} → Known h → (before h).opened ≡ (peers h).opened
opened_is k = ap (λ (x : Seen). x.opened) k.same

pub going_is : {h : List Step} → Known h → (before h).in_progress ≡ going_in h
going_is k = ap (λ (x : Seen). x.going) k.same

pub side_is : {h : List Step} → Known h → (before h).up.side ≡ side_in h
side_is k = ap (λ (x : Seen). x.side) k.same

pub number_is : {h : List Step} → Known h → (before h).number ≡ number_in h
number_is k = ap (λ (x : Seen). x.number) k.same

pub accepted_is : {h : List Step} → Known h → (before h).accepted_at ≡ accepted_in h
accepted_is k = ap (λ (x : Seen). x.accepted) k.same

pub moment_is : {h : List Step} → Known h → (before h).moment ≡ moment_in h
moment_is k = ap (λ (x : Seen). x.moment) k.same

pub closed_is : {h : List Step} → Known h → (before h).closed_at ≡ closed_in h
closed_is k = ap (λ (x : Seen). x.closed) k.same

pub silent_is : {h : List Step} → Known h → (before h).up.silent ≡ silent_in h
silent_is k = ap (λ (x : Seen). x.silent) k.same

pub up_fed_is : {h : List Step} → Known h → (before h).up.fed_at ≡ up_fed_at h
up_fed_is k = ap (λ (x : Seen). x.up_fed) k.same

pub memory_is : {h : List Step} → Known h → (before h).out_of_memory ≡ ran_out_in h
memory_is k = ap (λ (x : Seen). x.memory) k.same

-- ---- what steps make of that

-- the closing event stays the first
kept : (w : State) (l : Bool) (f : ℕ → SessionState) → SoundIn w l → seen w ≡ with_peers (seen w) (peers_of f (seen w))
kept w l f s = ap (λ (o : Option ℕ). record (seen w) { closed = o }) (sym (closes_again w.closed_at (is_closing w.conn) w.moment s.closing))

pub closing_is : (b : Bool) (why : Option Condition) (s : UpState) → closing_with b why s ≡ record s { condition = if b then s.condition else why }
closing_is true why s = refl
closing_is false why s = refl

pub keep_is : (x : Want91) (s : UpState) → keep_login x s ≡ record s { container = container_kept s.container x }
keep_is want.Nothing s = refl
keep_is x s = refl

abbrev seen_came : (ℕ → SessionState) → Seen → Unit91 → Seen
seen_came f x u = with_peers x (if x.memory then peers_of f x else peers_came (peers_of f x) u)

came_is : (w : State) (u : Unit91) (l : Bool) (f : ℕ → SessionState) → SoundIn w l
    → seen (if w.out_of_memory then w else came (dequeued w) u) ≡ seen_came f (seen w) u
came_is w u l f s = by w.out_of_memory
  where
    taken : UpState → Seen
    taken t = record (seen w) {
      conn = conn_step w.routes w.paths w.conn u;
      container = t.container;
      paths = paths_by w.routes (conn_step w.routes w.paths w.conn u).limits.frame_max w.opened (want_in w.routes w.paths w.conn u) w.paths;
      opened = w.opened + lives_opened (want_in w.routes w.paths w.conn u);
      side = t.side;
      closed = closes_at w.closed_at (is_closing (conn_step w.routes w.paths w.conn u)) w.moment;
      silent = t.silent;
      up_fed = t.fed_at;
    }

    by : (b : Bool) → seen (if b then w else came (dequeued w) u) ≡ with_peers (seen w) (if b then peers_of f (seen w) else peers_came (peers_of f (seen w)) u)
    by true = kept w l f s
    by false = ap taken (closing_is (is_closing w.conn) _ _) ∙ ap taken (keep_is (client_step w.routes w.paths w.conn u).1 w.up)

abbrev seen_taken : (ℕ → SessionState) → Seen → Bool → Seen
seen_taken f x l = with_peers x (if not x.memory && l then peers_left (peers_of f x) else peers_of f x)

left_is : (w : State) (f : ℕ → SessionState) → seen (left w) ≡ with_peers (seen w) (peers_left (peers_of f (seen w)))
left_is w f =
    ap (λ (t : UpState). record (seen w) {
      conn = after_ended w.conn;
      container = t.container;
      paths = closed_paths w.paths;
      side = t.side;
      closed = closes_at w.closed_at true w.moment;
      silent = t.silent;
      up_fed = t.fed_at;
    }) (closing_is (is_closing w.conn) None w.up)

taken_is : (w : State) (l : Bool) (f : ℕ → SessionState) → w.leaving ≡ true → SoundIn w l → seen (if not w.out_of_memory && w.leaving then left w else w) ≡ seen_taken f (seen w) l
taken_is w l f now s = by w.out_of_memory w.leaving l refl refl s.leaves (s.left_is)
  where
    by : (b d l' : Bool) → w.out_of_memory ≡ b → w.leaving ≡ d → (w.leaving ≡ true → l' ≡ true)
        → (w.out_of_memory ≡ false → l' ≡ true → w.leaving ≡ false → has_left w.conn.stream ≡ true)
        → seen (if not b && d then left w else w) ≡ with_peers (seen w) (if not b && l' then peers_left (peers_of f (seen w)) else peers_of f (seen w))
    by true d l' m e g h = kept w l f s
    by false true true m e g h = left_is w f
    by false true false m e g h = absurd (clash false (g e) refl)
    by false false false m e g h = kept w l f s
    by false false true m e g h = absurd (clash _ now e)

-- the paths alone change
paths_is : (w : State) (l : Bool) (f : ℕ → SessionState) (ps : List (Option PathState)) → SoundIn w l
    → record (seen w) { paths = ps } ≡ with_peers (seen w) (record (peers_of f (seen w)) { paths = ps })
paths_is w l f ps s = ap (λ (x : Seen). record x { paths = ps }) (kept w l f s)

fail_is : (code : ℕ) (why : Option Condition) (w : State) (l : Bool) (f : ℕ → SessionState) → SoundIn w l
    → seen (fail code why w) ≡ with_peers (seen w) (peers_failed (peers_at f w))
fail_is code why w l f s = by (is_closing w.conn) refl
  where
    by : (b : Bool) → is_closing w.conn ≡ b
        → seen (if b then sessions_lost w else failed code why w) ≡ with_peers (seen w) (record (peers_at f w) { client = close w.conn; paths = ended_paths w.paths })
    by true e =
        paths_is w l f (ended_paths w.paths) s
        ∙ ap (λ (c : Connection). with_peers (seen w) (record (peers_of f (seen w)) { client = c; paths = ended_paths w.paths })) (sym (close_same w.conn e))
    by false e = ap (λ (b : Bool). record (seen w) { conn = close w.conn; paths = ended_paths w.paths; closed = closes_at w.closed_at b w.moment })
        (sym (close_closes w.conn.phase))

-- the channels alone change
only_is : (w : State) (l : Bool) (f : ℕ → SessionState) (d : Connection) (ps : List (Option PathState)) → SoundIn w l → OnlyChannels w.conn d
    → record (seen w) { conn = d; paths = ps } ≡ with_peers (seen w) (record (peers_of f (seen w)) { client = d; paths = ps })
only_is w l f d ps s o =
    ap (λ (x : Option ℕ). record (seen w) { conn = d; paths = ps; closed = x })
    (sym (closes_again w.closed_at (is_closing d) w.moment (λ x. s.closing (sym (closing_only o) ∙ x))))

session_is : (n : ℕ) (q : Parts) (payload : List ℕ) (w : State) (l : Bool) (f : ℕ → SessionState)
    → link_scope q payload (f n) (path_at w.paths n) ≡ link_scope q payload (session_on w n) (path_at w.paths n) → SoundIn w l
    → seen (with_session n q payload w) ≡ with_peers (seen w) (peers_session n q payload (peers_at f w))
session_is n q payload w l f same s =
    let heard : List (Option PathState) = with_path n (path_heard w.conn.limits.frame_max n q payload) w.paths in
    let g : ℕ → SessionState = carried_on n q f in
    session_by (λ (x : Peers) (v : State). seen v ≡ with_peers (seen w) x) n q payload w w.up.container w.opened f same (record {
      begins = paths_is w l g heard s;
      stays = paths_is w l g heard s;
      ends = λ code why. only_is w l g (after_closing scope.Channel n w.conn) (with_path n closed_path heard) s (only_closing n w.conn);
      parts = paths_is w l g (with_path n lost_path w.paths) s;
      drops = λ code why. only_is w l g (after_closing scope.Channel n w.conn) (with_path n closed_path (with_path n lost_path w.paths)) s (only_closing n w.conn);
      fails = λ why. fail_is _ why (windowed n q w) l g s;
    })

-- both say the same of what a performative closes
abbrev pub Knows : (ℕ → SessionState) → Meaning → List Life → List (Option PathState) → Type 0
Knows f (ten.OfSession g p payload) ls ps = link_scope p payload (f g) (path_at ps g) ≡ link_scope p payload (at g ls) (path_at ps g)
Knows f m ls ps = Unit {0}

meaning_is : (m : Meaning) (w : State) (l : Bool) (f : ℕ → SessionState) → Knows f m w.lives w.paths → SoundIn w l
    → seen (with_meaning m w) ≡ with_peers (seen w) (peers_by m (peers_at f w))
meaning_is ten.Nothing w l f k s = kept w l f s
meaning_is ten.Init w l f k s = kept w l f s
meaning_is ten.AmqpHeader w l f k s = kept w l f s
meaning_is ten.Opened w l f k s = by (is_opening w.conn) refl
  where
    by : (b : Bool) → is_opening w.conn ≡ b
        → seen (if b then runs w else w)
        ≡ with_peers (seen w) (record (peers_of f (seen w)) { client = if b then after_opened (channel_max_of w.up) w.conn else w.conn })
    by true e =
        let no : is_closing (after_opened (channel_max_of w.up) w.conn) ≡ false = ap is_closing_phase (opened_runs (channel_max_of w.up) w.conn e) in
        ap (λ (o : Option ℕ). record (seen w) { conn = after_opened (channel_max_of w.up) w.conn; closed = o })
        (sym (closes_again w.closed_at (is_closing (after_opened (channel_max_of w.up) w.conn)) w.moment (λ x. absurd (clash _ x no))))
    by false e = kept w l f s
meaning_is (ten.OfSession g p payload) w l f k s = session_is g p payload w l f k s
meaning_is (ten.Closed e) w l f k s = fail_is _ None w l f s
meaning_is ten.Refused w l f k s = fail_is _ None w l f s
meaning_is (ten.Violation c) w l f k s = fail_is _ (Some c) w l f s

abbrev seen_heard : (ℕ → SessionState) → Seen → Unit10 → Seen
seen_heard f x u = with_peers x (if x.memory then peers_of f x else peers_heard (peers_of f x) u)

heard_is : (w : State) (u : Unit10) (l : Bool) (f : ℕ → SessionState) → Knows f (meaning_by w.up.container u) w.lives w.paths → SoundIn w l
    → seen (if w.out_of_memory then w else heard w u) ≡ seen_heard f (seen w) u
heard_is w u l f k s = by w.out_of_memory
  where
    by : (b : Bool) → seen (if b then w else heard w u) ≡ with_peers (seen w) (if b then peers_of f (seen w) else peers_heard (peers_of f (seen w)) u)
    by true = kept w l f s
    by false = meaning_is (meaning_by w.up.container u) (record w { up = heard_up u w.up }) l f k s

abbrev seen_told : Seen → ℕ → Seen
seen_told x ms =
    let c : Connection = close_if (is_limit_reached x.conn x.accepted ms) x.conn in
    record x { conn = c; paths = told_paths x.paths; moment = ms; closed = closes_at x.closed (is_closing c) ms }

told_is : (w : State) (ms : ℕ) (l : Bool) → SoundIn w l → seen (told w ms) ≡ seen_told (seen w) ms
told_is w ms l s = by (is_limit_reached w.conn w.accepted_at ms)
  where
    reported : Seen
    reported = record (seen w) { paths = told_paths w.paths }

    by : (b : Bool) → record reported { conn = close_if b w.conn; moment = ms; closed = closes_at w.closed_at b ms }
        ≡ record reported { conn = close_if b w.conn; moment = ms; closed = closes_at w.closed_at (is_closing (close_if b w.conn)) ms }
    by true = ap (λ (x : Bool). record reported { conn = close w.conn; moment = ms; closed = closes_at w.closed_at x ms }) (sym (close_closes w.conn.phase))
    by false = ap (λ (o : Option ℕ). record reported { moment = ms; closed = o })
        (closes_again w.closed_at false ms (λ x. absurd (clash false x refl)) ∙ sym (closes_again w.closed_at (is_closing w.conn) ms s.closing))

abbrev seen_memory : Seen → Seen
seen_memory x = record x {
  memory = true;
  conn = close x.conn;
  paths = closed_paths x.paths;
  closed = closes_at x.closed (is_closing (close x.conn)) x.moment;
}

memory_is_out : (w : State) → seen (ran_out w) ≡ seen_memory (seen w)
memory_is_out w =
    ap (λ (t : UpState). record (seen w) {
      memory = true;
      conn = close w.conn;
      paths = closed_paths w.paths;
      container = t.container;
      side = t.side;
      closed = closes_at w.closed_at true w.moment;
      silent = t.silent;
      up_fed = t.fed_at;
    })
    (closing_is (is_closing w.conn) _ w.up)
    ∙ ap (λ (b : Bool). record (seen w) { memory = true; conn = close w.conn; paths = closed_paths w.paths; closed = closes_at w.closed_at b w.moment }) (sym (close_closes w.conn.phase))

-- the upstream end is lost
abbrev seen_lost : (ℕ → SessionState) → Side → Seen → Seen
seen_lost f y x = record (with_peers x (peers_lost (peers_of f x))) { side = y }

-- ---- soundness

fresh : (ms : ℕ) → nat_le HANDSHAKE_LIMIT (ms - ms) ≡ false
fresh ms = let e : ms - ms ≡ 0 = omega arith in ap (nat_le HANDSHAKE_LIMIT) e

sound_new : (site : SiteText) (n ms : ℕ) → SoundIn (new_state site n ms) false
sound_new site n ms = record {
  leaves = λ x. absurd (clash false x refl);
  left_is = λ x y z. absurd (clash false y refl);
  ended = λ x. absurd (clash false x refl);
  late_is = sym (fresh ms);
  late_closes = λ x. absurd (clash false x refl);
  closing = λ x. absurd (clash false x refl);
  shuts = λ x. absurd (clash false x refl);
}

sound_told : (w : State) (ms : ℕ) (l : Bool) → w.moment ≤ ms → SoundIn w l → SoundIn (told w ms) l
sound_told w ms l le s =
    let late : Bool = is_limit_reached w.conn w.accepted_at ms in
    record {
      leaves = s.leaves;
      left_is = λ x y z. ap has_left (stream_if late w.conn) ∙ s.left_is x y z;
      ended = λ x. ended_if late w.conn (s.ended (sym (ap has_left (stream_if late w.conn)) ∙ x));
      late_is = implied w.late late (λ x. late_later w.conn w.accepted_at w.moment ms le (sym s.late_is ∙ x))
          ∙ ap (λ (x : Bool). not x && nat_le HANDSHAKE_LIMIT (ms - w.accepted_at)) (sym (asked_if late w.conn));
      late_closes = late_by late;
      closing = closing_by late;
      shuts = λ x. stays late (s.shuts x);
    }
  where
    late_by : (b : Bool) → (w.late || b) ≡ true → is_closing (close_if b w.conn) ≡ true
    late_by true e = close_closes w.conn.phase
    late_by false e = s.late_closes (or_false w.late ∙ e)

    closing_by : (b : Bool) → is_closing (close_if b w.conn) ≡ true → is_some (closes_at w.closed_at b ms) ≡ true
    closing_by true e = closes_some w.closed_at true ms refl
    closing_by false e = ap is_some (closes_again w.closed_at false ms (λ x. absurd (clash false x refl))) ∙ s.closing e

    stays : (b : Bool) → is_closing w.conn ≡ true → is_closing (close_if b w.conn) ≡ true
    stays true e = close_closes w.conn.phase
    stays false e = e

-- a state of which the channels alone changed
sound_only : (w : State) (d : Connection) (l : Bool) → OnlyChannels w.conn d → SoundIn w l → SoundIn (record w { conn = d }) l
sound_only w d l o s =
    subst (λ (x : Connection). SoundIn (record w { conn = x }) l) (sym o.same)
    (record {
      leaves = s.leaves;
      left_is = s.left_is;
      ended = λ x. subst (λ (xs : List (Option Incoming)). after_ended (record w.conn { channels = o.channels; contents = xs })
          ≡ record w.conn { channels = o.channels; contents = xs }) (sym (o.none (sym (ap (λ (c : Connection). c.contents) (s.ended x)))))
          (ap (λ (c : Connection). record c { channels = o.channels; contents = no_contents }) (s.ended x));
      late_is = s.late_is;
      late_closes = s.late_closes;
      closing = s.closing;
      shuts = s.shuts;
    })

sound_came : (w : State) (u : Unit91) (l : Bool) → (has_left w.conn.stream ≡ true → ⊥) → SoundIn w l → SoundIn (if w.out_of_memory then w else came (dequeued w) u) l
sound_came w u l none s = by w.out_of_memory refl
  where
    by : (b : Bool) → w.out_of_memory ≡ b → SoundIn (if b then w else came (dequeued w) u) l
    by true m = s
    by false m = record {
      leaves = s.leaves;
      left_is = λ x y z. absurd (none (s.left_is x y z));
      ended = λ x. absurd (none (step_here w.routes w.paths w.conn u x));
      late_is = s.late_is ∙ sym (late_step w.routes w.paths w.conn u w.accepted_at w.moment (λ x. s.late_closes (s.late_is ∙ x)));
      late_closes = λ x. step_closes w.routes w.paths w.conn u (s.late_closes x);
      closing = λ x. closes_some w.closed_at (is_closing (conn_step w.routes w.paths w.conn u)) w.moment x;
      shuts = λ x. absurd (clash _ x m);
    }

sound_left : (w : State) (l : Bool) → SoundIn w l → SoundIn (left w) l
sound_left w l s = record {
  leaves = λ x. absurd (clash false x refl);
  left_is = λ x y z. refl;
  ended = λ x. refl;
  late_is = s.late_is;
  late_closes = λ x. refl;
  closing = λ x. closes_some w.closed_at true w.moment refl;
  shuts = λ x. refl;
}

sound_taken : (w : State) (l : Bool) → SoundIn w l → SoundIn (if not w.out_of_memory && w.leaving then left w else w) l
sound_taken w l s = by (not w.out_of_memory && w.leaving)
  where
    by : (b : Bool) → SoundIn (if b then left w else w) l
    by true = sound_left w l s
    by false = s

sound_fail : (code : ℕ) (why : Option Condition) (w : State) (l : Bool) → SoundIn w l → SoundIn (fail code why w) l
sound_fail code why w l s = by (is_closing w.conn)
  where
    by : (b : Bool) → SoundIn (if b then sessions_lost w else failed code why w) l
    by true = record {
      leaves = s.leaves;
      left_is = s.left_is;
      ended = s.ended;
      late_is = s.late_is;
      late_closes = s.late_closes;
      closing = s.closing;
      shuts = s.shuts;
    }
    by false = record {
      leaves = s.leaves;
      left_is = s.left_is;
      ended = λ x. ended_if true w.conn (s.ended x);
      late_is = s.late_is;
      late_closes = λ x. close_closes w.conn.phase;
      closing = λ x. closes_some w.closed_at true w.moment refl;
      shuts = λ x. close_closes w.conn.phase;
    }

sound_session : (n : ℕ) (q : Parts) (payload : List ℕ) (w : State) (l : Bool) → SoundIn w l → SoundIn (with_session n q payload w) l
sound_session n q payload w l s =
    let ended : SoundIn (record w { conn = after_closing scope.Channel n w.conn }) l = sound_only w (after_closing scope.Channel n w.conn) l (only_closing n w.conn) s in
    session_cases (λ (v : State). SoundIn v l) n q payload w (record {
      begins = s;
      stays = s;
      ends = λ code why. ended;
      parts = s;
      drops = λ code why. ended;
      fails = λ why. sound_fail _ why (windowed n q w) l s;
    })

sound_meaning : (m : Meaning) (w : State) (l : Bool) → SoundIn w l → SoundIn (with_meaning m w) l
sound_meaning ten.Nothing w l s = s
sound_meaning ten.Init w l s = s
sound_meaning ten.AmqpHeader w l s = s
sound_meaning ten.Opened w l s = by (is_opening w.conn) refl
  where
    by : (b : Bool) → is_opening w.conn ≡ b → SoundIn (if b then runs w else w) l
    by true e = record {
      leaves = s.leaves;
      left_is = s.left_is;
      ended = λ x. absurd (opening_early w.conn e (sym (ap is_closing (s.ended x))));
      late_is = s.late_is;
      late_closes = λ x. absurd (opening_early w.conn e (s.late_closes x));
      closing = λ x. absurd (clash _ x (ap is_closing_phase (opened_runs (channel_max_of w.up) w.conn e)));
      shuts = λ x. absurd (opening_early w.conn e (s.shuts x));
    }
    by false e = s
sound_meaning (ten.OfSession g p payload) w l s = sound_session g p payload w l s
sound_meaning (ten.Closed e) w l s = sound_fail _ None w l s
sound_meaning ten.Refused w l s = sound_fail _ None w l s
sound_meaning (ten.Violation c) w l s = sound_fail _ (Some c) w l s

sound_heard : (w : State) (u : Unit10) (l : Bool) → SoundIn w l → SoundIn (if w.out_of_memory then w else heard w u) l
sound_heard w u l s = by w.out_of_memory
  where
    by : (b : Bool) → SoundIn (if b then w else heard w u) l
    by true = s
    by false = sound_meaning (meaning_by w.up.container u) (record w { up = heard_up u w.up }) l s

leaving_by : (x y : Bool) → (x || not y) ≡ false → y ≡ true
leaving_by true y e = absurd cc
leaving_by false true e = refl
leaving_by false false e = absurd cc

-- the client's end ended or failed
sound_lost : (w : State) (l failed : Bool) → SoundIn w l → SoundIn (record w { leaving = w.leaving || not (has_left w.conn.stream); failed = failed }) true
sound_lost w l failed s = record {
  leaves = λ x. refl;
  left_is = λ x y z. leaving_by w.leaving (has_left w.conn.stream) z;
  ended = s.ended;
  late_is = s.late_is;
  late_closes = s.late_closes;
  closing = s.closing;
  shuts = s.shuts;
}

sound_memory : (w : State) (l : Bool) → SoundIn w l → SoundIn (ran_out w) l
sound_memory w l s = record {
  leaves = s.leaves;
  left_is = λ x y z. absurd (clash true refl x);
  ended = λ x. ended_if true w.conn (s.ended x);
  late_is = s.late_is;
  late_closes = λ x. close_closes w.conn.phase;
  closing = λ x. closes_some w.closed_at true w.moment refl;
  shuts = λ x. close_closes w.conn.phase;
}

-- ---- all steps

abbrev fold : List Step → ℕ → SessionState
fold h = (peers h).carried

still : {h : List Step} → Known h → seen (before h) ≡ with_peers (seen_in h) (peers h)
still {h} k = kept (before h) (leaving_in h) (fold h) k.sound ∙ ap (λ (x : Seen). with_peers x (peers_of (fold h) x)) k.same

-- a unit that waits changes none of that
known_queued : (h : List Step) (u : Unit91) → Known h → Known (Queued u ∷ h)
known_queued h u k = by (before h).out_of_memory
  where
    by : (b : Bool) → KnownIn (if b then before h else record (before h) { queue = (before h).queue ++ u ∷ [] }) (Queued u ∷ h)
    by true = record { same = still k; sound = k.sound; carries = k.carries }
    by false = record { same = still k; sound = k.sound; carries = k.carries }

within : (h : List Step) → ArePicks h → (n : ℕ) → n < 256 → n < length (before h).lives
within h p n lt = subst (λ (m : ℕ). n < m) (sym (lives_all h p)) lt

pub knows : (h : List Step) (u : Unit10) → Known h → Knows (fold h) (meaning_by (before h).up.container u) (before h).lives (before h).paths
knows h u k = by (meaning_by (before h).up.container u)
  where
    long : length (before h).paths ≡ 256
    long = subst (λ (ps : List (Option PathState)). length ps ≡ 256) (sym (paths_are k)) (many_paths h)

    by : (m : Meaning) → Knows (fold h) m (before h).lives (before h).paths
    by (ten.OfSession g q payload) = same_scope (before h).paths g q payload (fold h g) _ long (λ lt. sym (k.carries g lt))
    by x = tt

carries_heard : (h : List Step) (u : Unit10) → ArePicks h → Known h → (n : ℕ) → n < 256
    → at n (if (before h).out_of_memory then before h else heard (before h) u).lives ≡ (peers (Heard u ∷ h)).carried n
carries_heard h u p k n lt =
    let s : SessionState = fold h n in
    heard_makes n (before h) u s (within h p n lt) (k.carries n lt)
    ∙ ap (λ (b : Bool). if b then s else carried_heard n (meaning_by (before h).up.container u) s) (memory_is k)
    ∙ ap (λ (o : Option Upstream). if ran_out_in h then s else carried_heard n (meaning_by o u) s) (container_is k)
    ∙ sym (fold_heard n (ran_out_in h) (peers h) u)

pub known : (h : List Step) → ArePicks h → Known h
known [] p = record { same = refl; sound = sound_new (record { vhost = []; routes = [] }) 0 0; carries = λ n lt. ap (λ (l : Life). l.session) (new_at n) }
known (Began site n ms ∷ h) p =
    subst (λ (x : List Step). Known (Began site n ms ∷ x)) (sym p.0)
    (record { same = refl; sound = sound_new site n ms; carries = λ m lt. ap (λ (l : Life). l.session) (new_at m) })
known (Moment ms ∷ h) p =
    let k : Known h = known h p.1 in
    record {
      same = told_is (before h) ms _ k.sound ∙ ap (λ (x : Seen). seen_told x ms) k.same;
      sound = sound_told (before h) ms _ (subst (λ (n : ℕ). n ≤ ms) (sym (moment_is k)) p.0) k.sound;
      carries = k.carries;
    }
known (Fed Client ∷ h) p =
    let k : Known h = known h p.1 in
    record { same = ap (λ (x : Seen). record x { paths = told_paths x.paths }) (still k); sound = k.sound; carries = k.carries }
known (Fed Up ∷ h) p =
    let k : Known h = known h p.1 in
    record { same = ap (λ (x : Seen). record x { paths = told_paths x.paths; up_fed = x.moment }) (still k); sound = k.sound; carries = k.carries }
known (Silent Client ∷ h) p =
    let k : Known h = known h p.1 in
    record {
      same = left_is (before h) (fold h) ∙ ap (λ (x : Seen). with_peers x (peers_left (peers_of (fold h) x))) k.same;
      sound = sound_left (before h) _ k.sound;
      carries = k.carries;
    }
known (Silent Up ∷ h) p =
    let k : Known h = known h p.1 in
    record {
      same = fail_is _ (Some ResourceLimitExceeded) _ (leaving_in h) (fold h) k.sound
          ∙ ap (λ (x : Seen). record (with_peers x (peers_failed (peers_of (fold h) x))) { silent = true }) k.same;
      sound = sound_fail _ _ _ _ k.sound;
      carries = λ n lt. fail_same n _ _ _ ∙ k.carries n lt;
    }
known (Queued u ∷ h) p = known_queued h u (known h p.1)
known (Came u ∷ h) p =
    let k : Known h = known h p.1 in
    record {
      same = came_is (before h) u _ (fold h) k.sound ∙ ap (λ (x : Seen). seen_came (fold h) x u) k.same;
      sound = sound_came (before h) u _ (λ x. none_next (before h) u (none_left h p.1 x) p.0) k.sound;
      carries = λ n lt. came_keeps n (before h) u ∙ k.carries n lt ∙ ap (λ (f : ℕ → SessionState). f n) (sym (fold_came (ran_out_in h) (peers h) u));
    }
known (TakenUp ∷ h) p =
    let k : Known h = known h p.1 in
    record {
      same = taken_is (before h) _ (fold h) (leaves_now (before h) p.0) k.sound ∙ ap (λ (x : Seen). seen_taken (fold h) x (leaving_in h)) k.same;
      sound = sound_taken (before h) _ k.sound;
      carries = λ n lt. left_keeps n (before h) _ ∙ k.carries n lt ∙ ap (λ (f : ℕ → SessionState). f n) (sym (fold_taken _ (peers h)));
    }
known (Heard u ∷ h) p =
    let k : Known h = known h p.1 in
    record {
      same = heard_is (before h) u _ (fold h) (knows h u k) k.sound ∙ ap (λ (x : Seen). seen_heard (fold h) x u) k.same;
      sound = sound_heard (before h) u _ k.sound;
      carries = carries_heard h u p.1 k;
    }
known (Joined link.Ok ∷ h) p =
    let k : Known h = known h p.1 in
    record {
      same = ap (λ (x : Seen). record x { paths = told_paths x.paths; side = side.Open; up_fed = x.moment }) (still k);
      sound = k.sound;
      carries = k.carries;
    }
known (Joined link.Failed ∷ h) p =
    let k : Known h = known h p.1 in
    record {
      same = fail_is _ None _ (leaving_in h) (fold h) k.sound
          ∙ ap (λ (x : Seen). record (with_peers x (peers_failed (peers_told (peers_of (fold h) x)))) { side = side.Gone }) k.same;
      sound = sound_fail _ None _ _ k.sound;
      carries = λ n lt. fail_same n _ _ _ ∙ k.carries n lt;
    }
known (Lost Client loss.Ended ∷ h) p =
    let k : Known h = known h p.1 in
    record { same = still k; sound = sound_lost (before h) _ (before h).failed k.sound; carries = k.carries }
known (Lost Client loss.Failed ∷ h) p =
    let k : Known h = known h p.1 in
    record { same = still k; sound = sound_lost (before h) _ true k.sound; carries = k.carries }
known (Lost Client loss.Shut ∷ h) p = let k : Known h = known h p.1 in record { same = still k; sound = k.sound; carries = k.carries }
known (Lost Up loss.Ended ∷ h) p =
    let k : Known h = known h p.1 in
    record {
      same = fail_is _ None _ (leaving_in h) (fold h) k.sound ∙ ap (seen_lost (fold h) side.Ended) k.same;
      sound = sound_fail _ None _ _ k.sound;
      carries = λ n lt. fail_same n _ _ _ ∙ k.carries n lt;
    }
known (Lost Up loss.Failed ∷ h) p =
    let k : Known h = known h p.1 in
    record {
      same = fail_is _ None _ (leaving_in h) (fold h) k.sound ∙ ap (seen_lost (fold h) side.Failed) k.same;
      sound = sound_fail _ None _ _ k.sound;
      carries = λ n lt. fail_same n _ _ _ ∙ k.carries n lt;
    }
known (Lost Up loss.Shut ∷ h) p =
    let k : Known h = known h p.1 in
    record { same = ap (λ (x : Seen). record x { paths = paths_lost x.paths; side = side.Gone }) (still k); sound = k.sound; carries = k.carries }
known (Gave (ToClient u) text ∷ h) p =
    let k : Known h = known h p.1 in
    record {
      same = ap (λ (x : Seen). record x { going = Some u })
          (only_is (before h) (leaving_in h) (fold h) (conn_given u (before h).conn) (paths_given u (before h).paths) k.sound (only_given u (before h).conn)
          ∙ ap (λ (x : Seen). with_peers x (record (peers_of (fold h) x) { client = conn_given u x.conn; paths = paths_given u x.paths })) k.same);
      sound = sound_only (before h) (conn_given u (before h).conn) (leaving_in h) (only_given u (before h).conn) k.sound;
      carries = λ n lt. given_keeps n u (before h).lives ∙ k.carries n lt;
    }
known (Gave (ToUp u) text ∷ h) p =
    let k : Known h = known h p.1 in
    record {
      same = ap (λ (x : Seen). record x { container = container_given u x.container; paths = paths_given_up (is_later x.conn u) u x.paths }) (still k);
      sound = k.sound;
      carries = λ n lt. sent_makes n u (before h).lives (within h p.1 n lt) ∙ sent_same n u _ (fold h) (k.carries n lt);
    }
known (Whole Client ∷ h) p =
    let k : Known h = known h p.1 in
    record { same = ap (λ (x : Seen). record x { paths = paths_wrote x.going x.paths; going = None }) (still k); sound = k.sound; carries = k.carries }
known (Whole Up ∷ h) p = let k : Known h = known h p.1 in record { same = still k; sound = k.sound; carries = k.carries }
known (LinesTold ∷ h) p =
    let k : Known h = known h p.1 in
    record { same = ap (λ (x : Seen). record x { paths = told_paths x.paths }) (still k); sound = k.sound; carries = k.carries }
known (OutOfMemory ∷ h) p =
    let k : Known h = known h p.1 in
    record { same = memory_is_out (before h) ∙ ap seen_memory k.same; sound = sound_memory (before h) _ k.sound; carries = k.carries }
