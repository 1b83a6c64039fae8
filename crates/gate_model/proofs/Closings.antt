-- The error of the gateway's close to a container: what the first closing event says.
use Rattle.std.proofs.Common.{Bool, List, None, Option, Some, [], ap, false, if◌then◌else◌, inl}
use Rattle.std.proofs.Common.{inr, not, refl, subst, sym, true, ℕ, ◌&&◌, ◌++◌, ◌==◌, ◌||◌, ◌∙◌, ◌∷◌, ◌≡◌, ◌⊎◌}
use Rattle.std.specs.List.{list_any}
use Rattle.std.proofs.lemmas.List.Folds.{list_any-append}
use Rattle.gate_outside.specs.declared.ports.End.TheVariants.{Client, Up}
use Rattle.gate_outside.specs.declared.ports.Linked.TheVariants as link
use Rattle.close_translate.specs.declared.codes.TheConstants.{CONNECTION_FORCED}
use Rattle.gate_relay.specs.declared.loss.Loss.TheVariants as loss
use Rattle.gate_relay.specs.declared.sides.Side.TheVariants as side
use Rattle.machine_091.specs.Calls.{after_opened}
use Rattle.machine_091.specs.State.{is_closing, is_open, is_opening}
use Rattle.machine_091.specs.Transitions as machine
use Rattle.machine_091.specs.declared.state.Connection.{Connection}
use Rattle.machine_091.specs.declared.unit.Unit91.{Unit91}
use Rattle.machine_10.specs.Transitions as ten
use Rattle.machine_10.specs.Transitions.{Meaning}
use Rattle.machine_10.specs.declared.state.Upstream.{Upstream}
use Rattle.machine_10.specs.declared.unit.Unit10.{Unit10}
use Rattle.performatives_10.specs.declared.condition.Condition.{Condition}
use Rattle.performatives_10.specs.declared.condition.Condition.TheVariants.{ResourceLimitExceeded}
use Rattle.machine_091.specs.declared.unit.Refusal.{Refusal}
use Rattle.session_path.specs.Path.{PathState}
use Rattle.close_translate.specs.declared.conditions.Scope.{Scope}
use Rattle.gate_model.specs.Paths.{closed_path, path_at, told_paths}
use Rattle.gate_model.specs.declared.life.SessionState.{SessionState}
use Rattle.gate_model.specs.declared.outgoing.Outgoing.TheVariants.{ToClient, ToUp}
use Rattle.gate_model.specs.declared.outgoing.UpUnit.{UpUnit}
use Rattle.gate_model.specs.Asked.{closing_condition, condition_at, condition_told, is_up_close}
use Rattle.gate_model.specs.Folds.{Peers, accepted_in, closes_connection, connection, container}
use Rattle.gate_model.specs.Folds.{leaving_in, paths_in, peers, peers_by, peers_came, peers_heard}
use Rattle.gate_model.specs.Folds.{carried_on, peers_left, peers_scoped, ran_out_in, routes_in, scope_in, sent_up}
use Rattle.gate_model.specs.Picks.{ArePicks}
use Rattle.gate_model.specs.Requests.{client_step}
use Rattle.gate_model.specs.State.{Began, Came, Fed, Gave, Heard, Joined, LinesTold, Lost, Moment, OutOfMemory}
use Rattle.gate_model.specs.State.{Queued, Silent, State, Step, TakenUp, Whole, before, paths_lost}
use Rattle.gate_model.specs.State.{begun_session, came, carried, close_if, closed_for, closing_code}
use Rattle.gate_model.specs.State.{closing_error, condition_by, conn_step, dequeued, fail}
use Rattle.gate_model.specs.State.{failed, heard, is_limit_reached, left, life_failed, runs, sessions_lost, with_meaning, link_scope, scoped, session_lost, windowed}
use Rattle.gate_model.specs.Upstream.{UpState, channel_max_in, container_by, heard_up, lost_by, meaning_by, shut_by}
use Rattle.close_translate.specs.declared.conditions.Scope.TheVariants as scope
use Rattle.gate_model.proofs.Basics.{or_one}
use Rattle.gate_model.proofs.Connections.{clash, close_closes, closing_only, only_given, opening_early, step_closes}
use Rattle.gate_model.proofs.Outcomes.{only_closing, Outcome, Refuses, Declines, Drops, outcome}
use Rattle.gate_model.proofs.Sessions.{conn_cases, peers_at, session_on}
use Rattle.gate_model.proofs.Known.{Known, closing_is, conn_is, container_is, keep_is, known, Knows, knows, memory_is, paths_are, routes_are}
use Rattle.gate_model.proofs.Said.{shuts_in}
use Rattle.gate_model.proofs.Ups.{Picked, goes_up, is_a_close}
use Rattle.gate_model.specs.declared.setup.Route.{Route}

-- ---- a connection that is closing stays so

meaning_closes : (m : Meaning) (x : Peers) → is_closing x.client ≡ true → is_closing (peers_by m x).client ≡ true
meaning_closes ten.Nothing x e = e
meaning_closes ten.Init x e = e
meaning_closes ten.AmqpHeader x e = e
meaning_closes ten.Opened x e = by (is_opening x.client) refl
  where
    by : (b : Bool) → is_opening x.client ≡ b → is_closing (if b then after_opened (channel_max_in x.container) x.client else x.client) ≡ true
    by true f = absurd (opening_early x.client f e)
    by false f = e
meaning_closes (ten.OfSession g q payload) x e =
    conn_cases (λ (d : Connection). is_closing d ≡ true) g q payload x e (close_closes x.client.phase) (closing_only (only_closing g x.client) ∙ e)
meaning_closes (ten.Closed t) x e = close_closes x.client.phase
meaning_closes ten.Refused x e = close_closes x.client.phase
meaning_closes (ten.Violation why) x e = close_closes x.client.phase

limit_closes : (b : Bool) (c : Connection) → is_closing c ≡ true → is_closing (close_if b c) ≡ true
limit_closes true c e = close_closes c.phase
limit_closes false c e = e

closes_if : (b : Bool) (p q : Peers) → is_closing p.client ≡ true → is_closing q.client ≡ true → is_closing (if b then p else q).client ≡ true
closes_if true p q e f = e
closes_if false p q e f = f

pub closes_on : (s : Step) (h : List Step) → ArePicks (s ∷ h) → is_closing (connection h) ≡ true → is_closing (connection (s ∷ h)) ≡ true
closes_on (Began site n ms) h p e = absurd (clash _ e (ap (λ (x : List Step). is_closing (connection x)) p.0))
closes_on (Moment ms) h p e = limit_closes (is_limit_reached (connection h) (accepted_in h) ms) (connection h) e
closes_on (Fed Client) h p e = e
closes_on (Fed Up) h p e = e
closes_on (Silent Client) h p e = refl
closes_on (Silent Up) h p e = close_closes (connection h).phase
closes_on (Queued u) h p e = e
closes_on (Came u) h p e = closes_if (ran_out_in h) (peers h) (peers_came (peers h) u) e (step_closes (routes_in h) (paths_in h) (connection h) u e)
closes_on TakenUp h p e =
    closes_if (not (ran_out_in h) && leaving_in h) (peers_left (peers h)) (peers h) refl e
closes_on (Heard u) h p e = closes_if (ran_out_in h) (peers h) (peers_heard (peers h) u) e (meaning_closes (meaning_by (container h) u) (record (peers h) { container = container_by (container h) u }) e)
closes_on (Joined link.Ok) h p e = e
closes_on (Joined link.Failed) h p e = close_closes (connection h).phase
closes_on (Lost Client how) h p e = e
closes_on (Lost Up loss.Ended) h p e = close_closes (connection h).phase
closes_on (Lost Up loss.Failed) h p e = close_closes (connection h).phase
closes_on (Lost Up loss.Shut) h p e = e
closes_on (Gave (ToClient u) text) h p e = closing_only (only_given u (connection h)) ∙ e
closes_on (Gave (ToUp u) text) h p e = e
closes_on (Whole Client) h p e = e
closes_on (Whole Up) h p e = e
closes_on LinesTold h p e = e
closes_on OutOfMemory h p e = close_closes (connection h).phase

-- ---- before the closing event nothing is told

pub unclosed : (s : Step) (h : List Step) → ArePicks (s ∷ h) → is_closing (connection (s ∷ h)) ≡ false → is_closing (connection h) ≡ false
unclosed s h p e = by (is_closing (connection h)) refl
  where
    by : (b : Bool) → is_closing (connection h) ≡ b → b ≡ false
    by true f = absurd (clash _ (closes_on s h p f) e)
    by false f = refl

pub remembers : (h : List Step) → ArePicks h → is_closing (connection h) ≡ false → ran_out_in h ≡ false
remembers h p e = by (ran_out_in h) refl
  where
    by : (b : Bool) → ran_out_in h ≡ b → b ≡ false
    by true f = absurd (clash _ (shuts_in (known h p) f) e)
    by false f = refl

unit_told : (rs : List Route) (ps : List (Option PathState)) (c : Connection) (u : Unit91) → is_closing (conn_step rs ps c u) ≡ false
    → condition_by (client_step rs ps c u).1 ≡ None
unit_told rs ps c u = by (client_step rs ps c u) (outcome rs ps c u)
  where
    by : (x : machine.Step) → Outcome c u x → is_closing (x.0) ≡ false → condition_by x.1 ≡ None
    by _ (Refuses r a f e g) k = absurd cc
    by _ (Declines r d o e g) k = let closes = close_closes d.phase in absurd cc
    by _ (Drops r d o e g) k = rw g refl
    by _ x k = refl

meaning_told : (m : Meaning) (x : Peers) → is_closing (peers_by m x).client ≡ false → condition_told x m ≡ None
meaning_told (ten.OfSession g q payload) x e = by (scope_in x g q payload) e
  where
    why : Condition
    why = closing_error q (path_at x.paths g)

    y : Peers
    y = record x { carried = carried_on g q x.carried }

    by : (o : Option Scope) → is_closing (peers_scoped o g q payload y).client ≡ false → (if closes_connection o then Some why else None) ≡ None
    by None e = refl
    by (Some scope.Connection) e = absurd (clash _ (close_closes x.client.phase) e)
    by (Some scope.Channel) e = refl
meaning_told (ten.Violation why) x e = absurd (clash _ (close_closes x.client.phase) e)
meaning_told y x e = refl

step_told : (s : Step) (h : List Step) → ran_out_in h ≡ false → is_closing (connection (s ∷ h)) ≡ false → condition_at s h ≡ None
step_told (Fed Client) h m e = refl
step_told (Fed Up) h m e = refl
step_told (Silent Client) h m e = refl
step_told (Silent Up) h m e = absurd (clash _ (close_closes (connection h).phase) e)
step_told (Came u) h m e =
    unit_told (routes_in h) (paths_in h) (connection h) u (subst (λ (b : Bool). is_closing (if b then peers h else peers_came (peers h) u).client ≡ false) m e)
step_told (Heard u) h m e =
    meaning_told (meaning_by (container h) u) (record (peers h) { container = container_by (container h) u })
    (subst (λ (b : Bool). is_closing (if b then peers h else peers_heard (peers h) u).client ≡ false) m e)
step_told OutOfMemory h m e = absurd (clash _ (close_closes (connection h).phase) e)
step_told x h m e = refl

none_told : (h : List Step) → ArePicks h → is_closing (connection h) ≡ false → closing_condition h ≡ None
none_told [] p e = refl
none_told (s ∷ h) p e =
    let k : is_closing (connection h) ≡ false = unclosed s h p e in
    ap (λ (b : Bool). if b then closing_condition h else condition_at s h) k ∙ step_told s h (remembers h p.1 k) e

-- ---- the state keeps that

-- a step that leaves it
quiet : (k : Bool) (a b : Option Condition) → a ≡ b → (k ≡ false → b ≡ None) → a ≡ (if k then b else None)
quiet true a b e f = e
quiet false a b e f = e ∙ f refl

-- one that is passed over
passed : (k : Bool) (a b why : Option Condition) → a ≡ b → k ≡ true → a ≡ (if k then b else why)
passed true a b why e f = e
passed false a b why e f = absurd cc

-- one that may be the closing event
told : (w : State) (c : Connection) (b why : Option Condition) → w.conn ≡ c → w.up.condition ≡ b
    → (if is_closing w.conn then w.up.condition else why) ≡ (if is_closing c then b else why)
told w c b why e f =
    ap (λ (x : Connection). if is_closing x then w.up.condition else why) e ∙ ap (λ (x : Option Condition). if is_closing c then x else why) f

fail_condition : (code : ℕ) (why : Option Condition) (w : State) → (fail code why w).up.condition ≡ (if is_closing w.conn then w.up.condition else why)
fail_condition code why w = by (is_closing w.conn)
  where
    by : (b : Bool) → (if b then sessions_lost w else failed code why w).up.condition ≡ (if b then w.up.condition else why)
    by true = refl
    by false = refl

meaning_condition : (m : Meaning) (w : State) (f : ℕ → SessionState) (c : Connection) (b : Option Condition) → Knows f m w.lives w.paths → w.conn ≡ c → w.up.condition ≡ b
    → (is_closing c ≡ false → b ≡ None) → (with_meaning m w).up.condition ≡ (if is_closing c then b else condition_told (peers_at f w) m)
meaning_condition ten.Nothing w s c b k e f n = quiet (is_closing c) w.up.condition b f n
meaning_condition ten.Init w s c b k e f n = quiet (is_closing c) w.up.condition b f n
meaning_condition ten.AmqpHeader w s c b k e f n = quiet (is_closing c) w.up.condition b f n
meaning_condition ten.Opened w s c b k e f n = by (is_opening w.conn)
  where
    by : (x : Bool) → (if x then runs w else w).up.condition ≡ (if is_closing c then b else None)
    by true = quiet (is_closing c) w.up.condition b f n
    by false = quiet (is_closing c) w.up.condition b f n
meaning_condition (ten.OfSession g p payload) w s c b k e f n =
    by (link_scope p payload (session_on w g) (path_at w.paths g))
    ∙ ap (λ (o : Option Scope). if is_closing c then b else (if closes_connection o then Some (closing_error p (path_at w.paths g)) else None)) (sym k)
  where
    none : w.up.condition ≡ (if is_closing c then b else None)
    none = quiet (is_closing c) w.up.condition b f n

    either : (x : Bool) (v : State) (r : Refusal) (why : Option Condition) (h : PathState → PathState) → v.up.condition ≡ w.up.condition
        → (if x then life_failed g r why h v else v).up.condition ≡ w.up.condition
    either true v r why h same = same
    either false v r why h same = same

    closed : (k : Option ℕ) → (closed_for g k (carried g p payload w)).up.condition ≡ w.up.condition
    closed None = refl
    closed (Some code) = either (is_open w.conn g) (carried g p payload w) _ None closed_path refl

    met : (x : Bool) (k : Option ℕ) → (if x then begun_session g (carried g p payload w) else closed_for g k (carried g p payload w)).up.condition ≡ w.up.condition
    met true k = refl
    met false k = closed k

    why : Condition
    why = closing_error p (path_at w.paths g)

    by : (o : Option Scope) → (scoped o g p payload w).up.condition ≡ (if is_closing c then b else (if closes_connection o then Some why else None))
    by None = met (p.0 == 17) (closing_code p payload (path_at w.paths g)) ∙ none
    by (Some scope.Connection) = fail_condition _ (Some why) (windowed g p w) ∙ told w c b (Some why) e f
    by (Some scope.Channel) = either (is_open w.conn g) (session_lost g (windowed g p w)) _ _ closed_path refl ∙ none
meaning_condition (ten.Closed x) w s c b k e f n = fail_condition _ None w ∙ told w c b None e f
meaning_condition ten.Refused w s c b k e f n = fail_condition _ None w ∙ told w c b None e f
meaning_condition (ten.Violation why) w s c b k e f n = fail_condition _ (Some why) w ∙ told w c b (Some why) e f

came_condition : (w : State) (u : Unit91) → (came (dequeued w) u).up.condition ≡ (if is_closing w.conn then w.up.condition else condition_by (client_step w.routes w.paths w.conn u).1)
came_condition w u =
    ap (λ (s : UpState). s.condition) (closing_is (is_closing w.conn) (condition_by (client_step w.routes w.paths w.conn u).1) _)
    ∙ ap (λ (s : UpState). if is_closing w.conn then s.condition else condition_by (client_step w.routes w.paths w.conn u).1) (keep_is (client_step w.routes w.paths w.conn u).1 w.up)

conditions_came : (w : State) (u : Unit91) (m : Bool) (rs : List Route) (ps : List (Option PathState)) (c : Connection) (b : Option Condition)
    → w.routes ≡ rs → w.paths ≡ ps → w.conn ≡ c → w.up.condition ≡ b → (m ≡ true → is_closing c ≡ true)
    → (if m then w else came (dequeued w) u).up.condition ≡ (if is_closing c then b else condition_by (client_step rs ps c u).1)
conditions_came w u true rs ps c b r g e f n = passed (is_closing c) w.up.condition b _ f (n refl)
conditions_came w u false rs ps c b r g e f n =
    came_condition w u ∙ told w c b (condition_by (client_step w.routes w.paths w.conn u).1) e f
    ∙ ap (λ (x : Connection). if is_closing c then b else condition_by (client_step w.routes w.paths x u).1) e
    ∙ ap (λ (x : List (Option PathState)). if is_closing c then b else condition_by (client_step w.routes x c u).1) g
    ∙ ap (λ (x : List Route). if is_closing c then b else condition_by (client_step x ps c u).1) r

-- the paths and sessions of both, and nothing else of them, say what a meaning closes the connection for
same_told : (m : Meaning) (p q : Peers) → p.paths ≡ q.paths → p.carried ≡ q.carried → condition_told p m ≡ condition_told q m
same_told m p q e f =
    ap (λ (x : List (Option PathState)). condition_told (record p { paths = x }) m) e
    ∙ ap (λ (x : ℕ → SessionState). condition_told (record p { paths = q.paths; carried = x }) m) f ∙ by m
  where
    by : (m : Meaning) → condition_told (record p { paths = q.paths; carried = q.carried }) m ≡ condition_told q m
    by ten.Nothing = refl
    by x = refl

conditions_heard : (w : State) (u : Unit10) (m : Bool) (p : Peers) (b : Option Condition) → Knows p.carried (meaning_by w.up.container u) w.lives w.paths
    → w.conn ≡ p.client → w.up.container ≡ p.container → w.paths ≡ p.paths → w.up.condition ≡ b
    → (is_closing p.client ≡ false → b ≡ None) → (m ≡ true → is_closing p.client ≡ true)
    → (if m then w else heard w u).up.condition ≡ (if is_closing p.client then b else condition_told p (meaning_by p.container u))
conditions_heard w u true p b k e g q f n s = passed (is_closing p.client) w.up.condition b _ f (s refl)
conditions_heard w u false p b k e g q f n s =
    let v : State = record w { up = heard_up u w.up } in
    meaning_condition (meaning_by w.up.container u) v p.carried p.client b k e f n
    ∙ ap (λ (x : Option Condition). if is_closing p.client then b else x)
    (same_told (meaning_by w.up.container u) (peers_at p.carried v) p q refl ∙ ap (λ (x : Option Upstream). condition_told p (meaning_by x u)) g)

conditions_taken : (w : State) (x : Bool) (c : Connection) (b : Option Condition) → w.conn ≡ c → w.up.condition ≡ b → (is_closing c ≡ false → b ≡ None)
    → (if x then left w else w).up.condition ≡ (if is_closing c then b else None)
conditions_taken w true c b e f n = ap (λ (s : UpState). s.condition) (closing_is (is_closing w.conn) None w.up) ∙ told w c b None e f
conditions_taken w false c b e f n = quiet (is_closing c) w.up.condition b f n

conditions_failed : (w : State) (s : UpState) (c : Connection) (b : Option Condition) → w.conn ≡ c → s.condition ≡ b
    → (fail CONNECTION_FORCED None (record w { up = s })).up.condition ≡ (if is_closing c then b else None)
conditions_failed w s c b e f = fail_condition CONNECTION_FORCED None (record w { up = s }) ∙ told (record w { up = s }) c b None e f

conditions_silent : (w : State) (s : UpState) (c : Connection) (b : Option Condition) → w.conn ≡ c → s.condition ≡ b
    → (fail CONNECTION_FORCED (Some ResourceLimitExceeded) (record w { up = s })).up.condition ≡ (if is_closing c then b else Some ResourceLimitExceeded)
conditions_silent w s c b e f =
    fail_condition CONNECTION_FORCED (Some ResourceLimitExceeded) (record w { up = s }) ∙ told (record w { up = s }) c b (Some ResourceLimitExceeded) e f

queued_condition : (h : List Step) (u : Unit91) → (before h).up.condition ≡ closing_condition h → (is_closing (connection h) ≡ false → closing_condition h ≡ None)
    → (before (Queued u ∷ h)).up.condition ≡ (if is_closing (connection h) then closing_condition h else None)
queued_condition h u e f = by (before h).out_of_memory
  where
    by : (b : Bool) → (if b then before h else record (before h) { queue = (before h).queue ++ u ∷ [] }).up.condition ≡ (if is_closing (connection h) then closing_condition h else None)
    by true = quiet _ _ _ e f
    by false = quiet _ _ _ e f

pub condition_is : (h : List Step) → ArePicks h → (before h).up.condition ≡ closing_condition h
condition_is [] p = refl
condition_is (Began site n ms ∷ h) p =
    subst (λ (x : List Step). (before (Began site n ms ∷ x)).up.condition ≡ closing_condition (Began site n ms ∷ x)) (sym p.0) refl
condition_is (Fed Client ∷ h) p = quiet _ _ _ (condition_is h p.1) (none_told h p.1)
condition_is (Silent Client ∷ h) p =
    let k : Known h = known h p.1 in
    conditions_taken (before h) true (connection h) (closing_condition h) (conn_is k) (condition_is h p.1) (none_told h p.1)
condition_is (Silent Up ∷ h) p =
    conditions_silent (before h) (record (before h).up { silent = true }) (connection h) (closing_condition h) (conn_is (known h p.1)) (condition_is h p.1)
condition_is (Queued u ∷ h) p = queued_condition h u (condition_is h p.1) (none_told h p.1)
condition_is (Came u ∷ h) p =
    let k : Known h = known h p.1 in
    ap (λ (m : Bool). (if m then before h else came (dequeued (before h)) u).up.condition) (memory_is k)
    ∙ conditions_came (before h) u (ran_out_in h) (routes_in h) (paths_in h) (connection h) (closing_condition h) (routes_are k) (paths_are k) (conn_is k)
    (condition_is h p.1) (shuts_in k)
condition_is (TakenUp ∷ h) p =
    let k : Known h = known h p.1 in
    conditions_taken (before h) _ (connection h) (closing_condition h) (conn_is k) (condition_is h p.1) (none_told h p.1)
condition_is (Heard u ∷ h) p =
    let k : Known h = known h p.1 in
    ap (λ (m : Bool). (if m then before h else heard (before h) u).up.condition) (memory_is k)
    ∙ conditions_heard (before h) u (ran_out_in h) (peers h) (closing_condition h) (knows h u k) (conn_is k) (container_is k) (paths_are k) (condition_is h p.1)
    (none_told h p.1) (shuts_in k)
condition_is (Joined link.Failed ∷ h) p =
    conditions_failed (record (before h) { paths = told_paths (before h).paths }) (shut_by (before h).up) (connection h) (closing_condition h) (conn_is (known h p.1)) (condition_is h p.1)
condition_is (Lost Client loss.Ended ∷ h) p = quiet _ _ _ (condition_is h p.1) (none_told h p.1)
condition_is (Lost Up loss.Ended ∷ h) p =
    conditions_failed (record (before h) { paths = paths_lost (before h).paths }) (lost_by side.Ended (before h).up) (connection h) (closing_condition h) (conn_is (known h p.1)) (condition_is h p.1)
condition_is (Lost Up loss.Failed ∷ h) p =
    conditions_failed (record (before h) { paths = paths_lost (before h).paths }) (lost_by side.Failed (before h).up) (connection h) (closing_condition h) (conn_is (known h p.1)) (condition_is h p.1)
condition_is (Gave (ToClient u) text ∷ h) p = quiet _ _ _ (condition_is h p.1) (none_told h p.1)
condition_is (Whole Client ∷ h) p = quiet _ _ _ (condition_is h p.1) (none_told h p.1)
condition_is (OutOfMemory ∷ h) p =
    ap (λ (s : UpState). s.condition) (closing_is (is_closing (before h).conn) _ (before h).up)
    ∙ told (before h) (connection h) (closing_condition h) _ (conn_is (known h p.1)) (condition_is h p.1)
condition_is (s ∷ h) p = quiet _ _ _ (condition_is h p.1) (none_told h p.1)

-- ---- the gateway's close goes to a connection that is closing

-- the state knows whether the connection is closing
pub closing_now : (h : List Step) (b : Bool) → ArePicks h → ((before h).out_of_memory || is_closing (before h).conn) ≡ b → is_closing (connection h) ≡ b
closing_now h b p e = sym (ap is_closing (conn_is k)) ∙ by (before h).out_of_memory refl ∙ e
  where
    k : Known h
    k = known h p

    by : (m : Bool) → (before h).out_of_memory ≡ m → is_closing (before h).conn ≡ (m || is_closing (before h).conn)
    by true f = k.sound.shuts f
    by false f = refl

closes_by : (h : List Step) (u : UpUnit) → ArePicks h → Picked ((before h).out_of_memory || is_closing (before h).conn) (before h) u
    → (list_any is_up_close (sent_up h) ≡ true → is_closing (connection h) ≡ true) → (list_any is_up_close (sent_up h) || is_up_close u) ≡ true
    → is_closing (connection h) ≡ true
closes_by h u p g f e = by (is_a_close g)
  where
    old : is_up_close u ≡ false → is_closing (connection h) ≡ true
    old n = f (sym (ap (λ (b : Bool). list_any is_up_close (sent_up h) || b) n ∙ or_one _) ∙ e)

    by : (is_up_close u ≡ false) ⊎ (((before h).out_of_memory || is_closing (before h).conn) ≡ true) → is_closing (connection h) ≡ true
    by (inl n) = old n
    by (inr k) = closing_now h true p k

pub closes_sent : (h : List Step) → ArePicks h → list_any is_up_close (sent_up h) ≡ true → is_closing (connection h) ≡ true
closes_sent [] p e = absurd cc
closes_sent (Began site n ms ∷ h) p e = closes_on (Began site n ms) h p (closes_sent h p.1 e)
closes_sent (Moment ms ∷ h) p e = closes_on (Moment ms) h p (closes_sent h p.1 e)
closes_sent (Fed end ∷ h) p e = closes_on (Fed end) h p (closes_sent h p.1 e)
closes_sent (Silent end ∷ h) p e = closes_on (Silent end) h p (closes_sent h p.1 e)
closes_sent (Queued u ∷ h) p e = closes_on (Queued u) h p (closes_sent h p.1 e)
closes_sent (Came u ∷ h) p e = closes_on (Came u) h p (closes_sent h p.1 e)
closes_sent (TakenUp ∷ h) p e = closes_on TakenUp h p (closes_sent h p.1 e)
closes_sent (Heard u ∷ h) p e = closes_on (Heard u) h p (closes_sent h p.1 e)
closes_sent (Joined answer ∷ h) p e = closes_on (Joined answer) h p (closes_sent h p.1 e)
closes_sent (Lost end how ∷ h) p e = closes_on (Lost end how) h p (closes_sent h p.1 e)
closes_sent (Gave (ToClient u) text ∷ h) p e = closes_on (Gave (ToClient u) text) h p (closes_sent h p.1 e)
closes_sent (Gave (ToUp u) text ∷ h) p e =
    closes_by h u p.1 (goes_up (before h) u p.0.1).why (closes_sent h p.1)
    (sym (list_any-append is_up_close (sent_up h) (u ∷ []) ∙ ap (λ (b : Bool). list_any is_up_close (sent_up h) || b) (or_one (is_up_close u))) ∙ e)
closes_sent (Whole end ∷ h) p e = closes_on (Whole end) h p (closes_sent h p.1 e)
closes_sent (LinesTold ∷ h) p e = closes_on LinesTold h p (closes_sent h p.1 e)
closes_sent (OutOfMemory ∷ h) p e = closes_on OutOfMemory h p (closes_sent h p.1 e)
