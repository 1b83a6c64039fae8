-- What is due on a channel and what went there answers what was asked there.
use Rattle.gate_model.specs.declared.reply.Reason.{Reason}
use Rattle.property_map.specs.declared.told.Told.{Told}
use Rattle.std.proofs.Common.{◌≡◌, ◌≢◌, ℕ, ◌+◌, ◌==◌, ◌≤◌, Bool, true, false, ◌&&◌}
use Rattle.std.proofs.Common.{◌||◌, if◌then◌else◌, List, [], ◌∷◌, ◌++◌, Option, None, Some, arith, refl, sym, ap, ◌∙◌, subst}
use Rattle.gate_outside.specs.declared.ports.End.TheVariants.{Client, Up}
use Rattle.gate_outside.specs.declared.ports.Linked.TheVariants as link
use Rattle.gate_relay.specs.declared.loss.Loss.TheVariants as loss
use Rattle.machine_091.specs.State.{is_closing, is_opening}
use Rattle.machine_091.specs.declared.state.Connection.{Connection}
use Rattle.machine_091.specs.declared.unit.Unit91.{Unit91}
use Rattle.machine_091.specs.declared.unit.Want91.{Want91}
use Rattle.machine_091.specs.declared.unit.Want91.TheVariants as want
use Rattle.machine_10.specs.Transitions as ten
use Rattle.machine_10.specs.Transitions.{Meaning}
use Rattle.machine_10.specs.declared.unit.Unit10.{Unit10}
use Rattle.methods_091.specs.declared.method.Method91.{Method91}
use Rattle.methods_091.specs.declared.method.Method91.TheVariants as method
use Rattle.performatives_10.specs.declared.condition.Condition.{Condition}
use Rattle.close_translate.specs.Conditions.{condition_of}
use Rattle.gate_model.specs.declared.life.Life.{Life}
use Rattle.gate_model.specs.declared.life.SessionState.{SessionState}
use Rattle.gate_model.specs.Session.{carried_by, flow_sent}
use Rattle.gate_model.specs.declared.outgoing.Outgoing.TheVariants.{ToClient, ToUp}
use Rattle.gate_model.specs.declared.outgoing.UpUnit.{UpUnit}
use Rattle.gate_model.specs.declared.outgoing.UpUnit.TheVariants as up
use Rattle.gate_model.specs.declared.channel.ChannelUnit.{ChannelUnit}
use Rattle.gate_model.specs.Paths.{closed_path}
use Rattle.gate_model.proofs.Basics.{and_left, less_both}
use Rattle.gate_model.proofs.Flows.{flows_once, keeps}
use Rattle.gate_model.specs.declared.reply.Reply.{Reply}
use Rattle.gate_model.specs.declared.reply.Reply.TheVariants as reply
use Rattle.gate_model.specs.Due.{close_oks_on, refused_on, when}
use Rattle.gate_model.specs.Folds.{is_answer, ran_out_in, connection, paths_in}
use Rattle.gate_model.specs.Lives.{refusal_on, begun_life, failed_life, freed_life, life_at, reason_of}
use Rattle.gate_model.specs.Lives.{lives_by, method_life, no_life, no_lives, with_life, is_of_channel}
use Rattle.gate_model.specs.Once.{AnswersOnce, is_channel_close, is_channel_open, is_close_ok_on}
use Rattle.gate_model.specs.Once.{is_method_on, is_open_ok_on, one_if, wanted_in, went_in}
use Rattle.gate_model.specs.Picks.{ArePicks}
use Rattle.gate_model.specs.Requests.{client_step, client_told}
use Rattle.gate_model.specs.State as sent
use Rattle.gate_model.specs.State.{Began, Came, Gave, Heard, Joined, LinesTold, Lost, Moment, OutOfMemory}
use Rattle.gate_model.specs.State.{Queued, State, Step, TakenUp, Whole, before, came, carried}
use Rattle.gate_model.specs.State.{dequeued, fail, failed, heard, is_channel_settled, is_settled, sessions_lost}
use Rattle.gate_model.specs.State.{left, life_failed, runs, windowed, with_meaning, without_begin, without_life, Fed, Silent}
use Rattle.gate_model.specs.Upstream.{first, heard_up, meaning_by}
use Rattle.session_path.specs.Path.{PathState}
use Rattle.gate_model.proofs.Known.{conn_is, known, memory_is, paths_are, routes_are}
use Rattle.gate_model.proofs.Places.{Beyond, Elsewhere, Here, SetAt, isnt, itself, new_at, set_at}
use Rattle.gate_model.proofs.Rows.{first_at}
use Rattle.gate_model.proofs.Said.{Beats, InCloses, InOks, InOpen, InOpenOks, IsDue, IsOfChannel}
use Rattle.gate_model.proofs.Said.{OnChannel, OnOpen, Picked, calm_now, first_due, picked}
use Rattle.gate_model.proofs.Sessions.{session_cases}
use Rattle.gate_model.specs.declared.setup.Route.{Route}

-- ---- what goes is due

abbrev pub IsOwed : List Life → Reply → Type 0
IsOwed ls (reply.ChannelOpenOk k) = (life_at ls k).open_ok ≡ true
IsOwed ls (reply.ChannelCloseOk k) = (life_at ls k).close_ok ≡ true
IsOwed ls (reply.CrossedOk k) = (life_at ls k).crossed_ok ≡ true
IsOwed ls x = Unit {0}

owed_answer : (ls : List Life) (u : Reply) → is_answer u ≡ true → IsOwed ls u
owed_answer ls (reply.ChannelOpenOk k) e = absurd cc
owed_answer ls (reply.ChannelCloseOk k) e = absurd cc
owed_answer ls (reply.CrossedOk k) e = absurd cc
owed_answer ls x e = tt

owed_when : (ls : List Life) (b : Bool) (u v : Reply) → (b ≡ true → IsOwed ls u) → first (when b u) ≡ Some v → IsOwed ls v
owed_when ls true u v f e = let here : u ≡ v = cc in subst (IsOwed ls) here (f refl)
owed_when ls false u v f e = absurd cc

owed_ok : (ls : List Life) (k : ℕ) (b c : Bool) (v : Reply) → (b ≡ true → IsOwed ls (reply.CrossedOk k)) → (c ≡ true → IsOwed ls (reply.ChannelCloseOk k))
    → first (when b (reply.CrossedOk k) ++ when c (reply.ChannelCloseOk k)) ≡ Some v → IsOwed ls v
owed_ok ls k true c v f g e = let here : reply.CrossedOk k ≡ v = cc in subst (IsOwed ls) here (f refl)
owed_ok ls k false c v f g e = owed_when ls c (reply.ChannelCloseOk k) v g e

owed_refused : (ls : List Life) (b : Bool) (k : ℕ) (o : Option Reason) (v : Reply) → first (refused_on b k o) ≡ Some v → IsOwed ls v
owed_refused ls true k (Some x) v e = let here : reply.ChannelClose k x ≡ v = cc in subst (IsOwed ls) here tt
owed_refused ls false k (Some x) v e = absurd cc
owed_refused ls b k None v e = absurd cc

owed_on : (w : State) (r : Reply) → IsOfChannel w r → IsOwed w.lives r
owed_on w r (InOpen (OnOpen k u e)) = subst (IsOwed w.lives) e tt
owed_on w r (InOpenOks e) =
    first_at (IsOwed w.lives) (λ (n : ℕ) (l : Life). when l.open_ok (reply.ChannelOpenOk n)) w.lives r
    (λ k v f. owed_when w.lives (life_at w.lives k).open_ok (reply.ChannelOpenOk k) v (λ x. x) f) e
owed_on w r (InOks e) =
    first_at (IsOwed w.lives) (λ (n : ℕ) (l : Life). close_oks_on n (l.close_ok && is_channel_settled w n) l) w.lives r
    (λ k v f. owed_ok w.lives k (life_at w.lives k).crossed_ok _ v (λ x. x) (λ x. and_left (life_at w.lives k).close_ok _ x) f) e
owed_on w r (InCloses e) =
    first_at (IsOwed w.lives) (λ (n : ℕ) (l : Life). refused_on (is_channel_settled w n) n l.close) w.lives r
    (λ k v f. owed_refused w.lives _ k (life_at w.lives k).close v f) e

pub owed_picked : (h : List Step) (r : Reply) → ArePicks h → Picked (before h) r → IsOwed (before h).lives r
owed_picked h r p (IsDue x) = owed_answer (before h).lives r (first_due (is_settled (before h)) (before h).pending r (calm_now h p) x).answers
owed_picked h r p (OnChannel x) = owed_on (before h) r x
owed_picked h r p (Beats none due same) = subst (IsOwed (before h).lives) (sym same) tt

-- ---- a count of what is due on a channel

-- a count of a life that a request of its channel raises by one, that an answer lowers by one, and that nothing else raises
record Counts (n : ℕ) (v : Life → ℕ) (asks : Want91 → Bool) (answers : Reply → Bool) : Type 0 where
  none : v no_life ≡ 0
  asked : (ms : ℕ) (m : Method91) (l : Life) → v (method_life ms m l) ≤ v l + one_if (asks (want.Method n m))
  freed : (l : Life) → v (freed_life l) ≤ v l
  begun : (l : Life) → v (begun_life l) ≤ v l
  failed : (by_peer : Bool) (ms : ℕ) (r : Reason) (why : Option Condition) (l : Life) → v (failed_life by_peer ms r why l) ≤ v l
  carries : (s : SessionState) (l : Life) → v (record l { session = s }) ≤ v l
  begins : (l : Life) → v (record l { begin = false }) ≤ v l
  ends : (l : Life) → v (record l { why = None }) ≤ v l
  opened : (l : Life) → l.open_ok ≡ true → v (record l { open_ok = false }) + one_if (answers (reply.ChannelOpenOk n)) ≤ v l
  closed : (l : Life) → l.close_ok ≡ true → v (record l { close_ok = false }) + one_if (answers (reply.ChannelCloseOk n)) ≤ v l
  crossed : (l : Life) → l.crossed_ok ≡ true → v (record l { crossed_ok = false }) + one_if (answers (reply.CrossedOk n)) ≤ v l
  told : (r : Reason) (l : Life) → v (record l { close = None; told = true }) + one_if (answers (reply.ChannelClose n r)) ≤ v l
  of_connection : (u : Reply) → is_answer u ≡ true → answers u ≡ false
  beats : answers reply.Heartbeat ≡ false
  of_paths : (k : ℕ) (u : ChannelUnit) → answers (reply.OnChannel k u) ≡ false
  elsewhere_open : (k : ℕ) → k ≢ n → answers (reply.ChannelOpenOk k) ≡ false
  elsewhere_close : (k : ℕ) → k ≢ n → answers (reply.ChannelCloseOk k) ≡ false
  elsewhere_crossed : (k : ℕ) → k ≢ n → answers (reply.CrossedOk k) ≡ false
  elsewhere_told : (k : ℕ) (r : Reason) → k ≢ n → answers (reply.ChannelClose k r) ≡ false

abbrev Value : (Life → ℕ) → ℕ → State → ℕ
Value v n w = v (life_at w.lives n)

-- ---- steps that raise none

-- a life becomes another one, of a count no higher
set_less : (v : Life → ℕ) (n k : ℕ) (ls : List Life) (l : Life) (more : ℕ) → (k ≡ n → v l ≤ v (life_at ls n) + more) → v (life_at (with_life k l ls) n) ≤ v (life_at ls n) + more
set_less v n k ls l more less = by (set_at ls k n l)
  where
    by : SetAt ls k n l → v (life_at (with_life k l ls) n) ≤ v (life_at ls n) + more
    by (Here e f) = subst (λ (x : Life). v x ≤ v (life_at ls n) + more) (sym f) (less e)
    by (Elsewhere d f) = let same : v (life_at (with_life k l ls) n) ≡ v (life_at ls n) = ap v f in omega (arith, same)
    by (Beyond e f g) = let same : v (life_at (with_life k l ls) n) ≡ v (life_at ls n) = ap v (g ∙ sym f) in omega (arith, same)

same_less : (a b : ℕ) → a ≤ b → a ≤ b + 0
same_less a b e = omega (arith, e)

none_less : (a b : ℕ) → a ≤ b + 0 → a ≤ b
none_less a b e = omega (arith, e)

-- one that another becomes by its own rule
rule_less : (v : Life → ℕ) (n k : ℕ) (ls : List Life) (f : Life → Life) → ((l : Life) → v (f l) ≤ v l) → v (life_at (with_life k (f (life_at ls k)) ls) n) ≤ v (life_at ls n)
rule_less v n k ls f less =
    none_less _ _ (set_less v n k ls (f (life_at ls k)) 0 (λ e. subst (λ (m : ℕ). v (f (life_at ls m)) ≤ v (life_at ls n) + 0) (sym e) (same_less _ _ (less (life_at ls n)))))

fail_less : (v : Life → ℕ) (n code : ℕ) (why : Option Condition) (w : State) → Value v n (fail code why w) ≤ Value v n w
fail_less v n code why w = by (is_closing w.conn)
  where
    by : (b : Bool) → Value v n (if b then sessions_lost w else failed code why w) ≤ Value v n w
    by true = omega arith
    by false = omega arith

meaning_less : {n : ℕ} {v : Life → ℕ} {asks : Want91 → Bool} {answers : Reply → Bool} → Counts n v asks answers → (m : Meaning) (w : State) → Value v n (with_meaning m w) ≤ Value v n w
meaning_less c ten.Nothing w = omega arith
meaning_less c ten.Init w = omega arith
meaning_less c ten.AmqpHeader w = omega arith
meaning_less {n} {v} c ten.Opened w = by (is_opening w.conn)
  where
    by : (b : Bool) → Value v n (if b then runs w else w) ≤ Value v n w
    by true = omega arith
    by false = omega arith
meaning_less {n} {v} c (ten.OfSession g p payload) w =
    session_cases (λ (y : State). Value v n y ≤ Value v n w) g p payload w
    (record {
      begins = less_both _ _ _ (rule_less v n g x.lives begun_life c.begun) kept;
      stays = kept;
      ends = ends;
      parts = kept;
      drops = ends;
      fails = λ why. less_both _ _ _ (fail_less v n _ why (windowed g p w)) kept;
    })
  where
    x : State
    x = carried g p payload w

    s : SessionState
    s = carried_by p (life_at w.lives g).session

    kept : Value v n x ≤ Value v n w
    kept = rule_less v n g w.lives (λ (l : Life). record l { session = s }) (c.carries s)

    ends : (code : ℕ) (why : Option Condition) → Value v n (life_failed g (refusal_on g code) why closed_path x) ≤ Value v n w
    ends code why = less_both _ _ _ (rule_less v n g x.lives (failed_life true w.moment _ why) (c.failed true w.moment _ why)) kept
meaning_less {n} {v} c (ten.Closed x) w = fail_less v n _ _ w
meaning_less {n} {v} c ten.Refused w = fail_less v n _ _ w
meaning_less {n} {v} c (ten.Violation x) w = fail_less v n _ _ w

heard_less : {n : ℕ} {v : Life → ℕ} {asks : Want91 → Bool} {answers : Reply → Bool} → Counts n v asks answers → (w : State) (u : Unit10)
    → Value v n (if w.out_of_memory then w else heard w u) ≤ Value v n w
heard_less {n} {v} c w u = by w.out_of_memory
  where
    by : (b : Bool) → Value v n (if b then w else heard w u) ≤ Value v n w
    by true = omega arith
    by false = meaning_less c (meaning_by w.up.container u) (record w { up = heard_up u w.up })

begun_less : {n : ℕ} {v : Life → ℕ} {asks : Want91 → Bool} {answers : Reply → Bool} → Counts n v asks answers → (u : UpUnit) (ls : List Life)
    → v (life_at (without_begin u ls) n) ≤ v (life_at ls n)
begun_less c up.SaslHeader ls = omega arith
begun_less c up.SaslInit ls = omega arith
begun_less c up.AmqpHeader ls = omega arith
begun_less c up.Open ls = omega arith
begun_less c (up.Close why) ls = omega arith
begun_less c up.Empty ls = omega arith
begun_less {n} {v} c (up.Flow k i o) ls =
    let s : SessionState = flow_sent (life_at ls k).session in
    rule_less v n k ls (λ (l : Life). record l { session = s }) (c.carries s)
begun_less {n} {v} c (up.OnSession k u) ls =
    let s : SessionState = sent.session_by u (life_at ls k).session in
    rule_less v n k ls (λ (l : Life). record l { session = s }) (c.carries s)
begun_less {n} {v} c (up.Begin k) ls = rule_less v n k ls (λ (l : Life). record l { begin = false }) c.begins
begun_less {n} {v} c (up.End k why) ls = rule_less v n k ls (λ (l : Life). record l { why = None }) c.ends

-- ---- a request

wanted_less : {n : ℕ} {v : Life → ℕ} {asks : Want91 → Bool} {answers : Reply → Bool} → Counts n v asks answers → (ms : ℕ) (told : Option Told) (x : Want91) (ls : List Life)
    → v (life_at (lives_by ms told x ls) n) ≤ v (life_at ls n) + one_if (asks x)
wanted_less c ms told want.Nothing ls = omega arith
wanted_less c ms told want.Start ls = omega arith
wanted_less c ms told (want.Login m r) ls = omega arith
wanted_less c ms told want.Tuned ls = omega arith
wanted_less c ms told want.OpenUp ls = omega arith
wanted_less {n} {v} {asks} c ms told (want.Method k m) ls =
    set_less v n k ls (method_life ms m (life_at ls k)) (one_if (asks (want.Method k m)))
    (λ e. subst (λ (i : ℕ). v (method_life ms m (life_at ls i)) ≤ v (life_at ls n) + one_if (asks (want.Method i m))) (sym e) (c.asked ms m (life_at ls n)))
wanted_less c ms told (want.Publish k m x) ls = omega arith
wanted_less {n} {v} c ms told (want.ChannelCloseOk k) ls = let less = rule_less v n k ls freed_life c.freed in omega (arith, less)
wanted_less c ms told want.Close ls = omega arith
wanted_less c ms told want.CloseOk ls = omega arith
wanted_less {n} {v} {asks} c ms told (want.Refuse r) ls = by (is_of_channel r)
  where
    more : ℕ
    more = one_if (asks (want.Refuse r))

    failed : Life → Life
    failed = failed_life false ms (reason_of told r) (Some (condition_of r.code))

    by : (b : Bool) → v (life_at (if b then with_life r.channel (failed (life_at ls r.channel)) ls else ls) n) ≤ v (life_at ls n) + more
    by true = let less = rule_less v n r.channel ls failed (c.failed false ms (reason_of told r) (Some (condition_of r.code))) in omega (arith, less)
    by false = omega arith

came_less : {n : ℕ} {v : Life → ℕ} {asks : Want91 → Bool} {answers : Reply → Bool} → Counts n v asks answers → (w : State) (u : Unit91) (b : Bool) (total : ℕ)
    → (went : ℕ) → went + Value v n w ≤ total
    → went + Value v n (if b then w else came (dequeued w) u) ≤ (if b then total else total + one_if (asks (client_step w.routes w.paths w.conn u).1))
came_less c w u true total went e = e
came_less {n} {v} {asks} c w u false total went e =
    let less : v (life_at (lives_by w.moment (client_told w.routes w.conn u) (client_step w.routes w.paths w.conn u).1 w.lives) n) ≤ v (life_at w.lives n) + one_if (asks (client_step w.routes w.paths w.conn u).1) = wanted_less c w.moment (client_told w.routes w.conn u) (client_step w.routes w.paths w.conn u).1 w.lives in
    omega (arith, e, less)

-- ---- an answer

-- of this channel or of another
set_given : (v : Life → ℕ) (n k : ℕ) (ls : List Life) (l : Life) (b : Bool) → v no_life ≡ 0 → (k ≡ n → v l + one_if b ≤ v (life_at ls n)) → (k ≢ n → b ≡ false)
    → v (life_at (with_life k l ls) n) + one_if b ≤ v (life_at ls n)
set_given v n k ls l b none here elsewhere = by (set_at ls k n l)
  where
    by : SetAt ls k n l → v (life_at (with_life k l ls) n) + one_if b ≤ v (life_at ls n)
    by (Here e f) = subst (λ (x : Life). v x + one_if b ≤ v (life_at ls n)) (sym f) (here e)
    by (Elsewhere d f) =
        let other : one_if b ≡ 0 = ap one_if (elsewhere d) in
        let same : v (life_at (with_life k l ls) n) ≡ v (life_at ls n) = ap v f in
        omega (arith, other, same)
    by (Beyond e f g) =
        let old : v (life_at ls n) ≡ 0 = ap v f ∙ none in
        let new : v (life_at (with_life k l ls) n) ≡ 0 = ap v g ∙ none in
        let less : v l + one_if b ≤ v (life_at ls n) = here e in
        omega (arith, old, new, less)

unset_given : (a : ℕ) (b : Bool) → b ≡ false → a + one_if b ≤ a
unset_given a b e = let none : one_if b ≡ 0 = ap one_if e in omega (arith, none)

given_less : {n : ℕ} {v : Life → ℕ} {asks : Want91 → Bool} {answers : Reply → Bool} → Counts n v asks answers → (u : Reply) (ls : List Life) → IsOwed ls u
    → v (life_at (without_life u ls) n) + one_if (answers u) ≤ v (life_at ls n)
given_less c reply.Protocol ls o = unset_given _ _ (c.of_connection reply.Protocol refl)
given_less c reply.Start ls o = unset_given _ _ (c.of_connection reply.Start refl)
given_less c reply.Tune ls o = unset_given _ _ (c.of_connection reply.Tune refl)
given_less c reply.OpenOk ls o = unset_given _ _ (c.of_connection reply.OpenOk refl)
given_less c reply.CloseOk ls o = unset_given _ _ (c.of_connection reply.CloseOk refl)
given_less c (reply.Close r) ls o = unset_given _ _ (c.of_connection (reply.Close r) refl)
given_less c reply.NoMemory ls o = unset_given _ _ (c.of_connection reply.NoMemory refl)
given_less c reply.Heartbeat ls o = unset_given _ _ c.beats
given_less {n} {v} {asks} {answers} c (reply.ChannelOpenOk k) ls o =
    set_given v n k ls (record (life_at ls k) { open_ok = false }) (answers (reply.ChannelOpenOk k)) c.none
    (λ e. subst (λ (i : ℕ). (life_at ls i).open_ok ≡ true → v (record (life_at ls i) { open_ok = false }) + one_if (answers (reply.ChannelOpenOk i)) ≤ v (life_at ls n)) (sym e)
    (c.opened (life_at ls n)) o)
    (c.elsewhere_open k)
given_less c (reply.OnChannel k u) ls o = unset_given _ _ (c.of_paths k u)
given_less {n} {v} {asks} {answers} c (reply.ChannelCloseOk k) ls o =
    set_given v n k ls (record (life_at ls k) { close_ok = false }) (answers (reply.ChannelCloseOk k)) c.none
    (λ e. subst (λ (i : ℕ). (life_at ls i).close_ok ≡ true → v (record (life_at ls i) { close_ok = false }) + one_if (answers (reply.ChannelCloseOk i)) ≤ v (life_at ls n)) (sym e)
    (c.closed (life_at ls n)) o)
    (c.elsewhere_close k)
given_less {n} {v} {asks} {answers} c (reply.CrossedOk k) ls o =
    set_given v n k ls (record (life_at ls k) { crossed_ok = false }) (answers (reply.CrossedOk k)) c.none
    (λ e. subst (λ (i : ℕ). (life_at ls i).crossed_ok ≡ true → v (record (life_at ls i) { crossed_ok = false }) + one_if (answers (reply.CrossedOk i)) ≤ v (life_at ls n)) (sym e)
    (c.crossed (life_at ls n)) o)
    (c.elsewhere_crossed k)
given_less {n} {v} {asks} {answers} c (reply.ChannelClose k r) ls o =
    set_given v n k ls (record (life_at ls k) { close = None; told = true }) (answers (reply.ChannelClose k r)) c.none
    (λ e. subst (λ (i : ℕ). v (record (life_at ls i) { close = None; told = true }) + one_if (answers (reply.ChannelClose i r)) ≤ v (life_at ls n)) (sym e) (c.told r (life_at ls n)))
    (c.elsewhere_told k r)

-- ---- all steps

queued_less : (v : Life → ℕ) (n : ℕ) (w : State) (us : List Unit91) → Value v n (if w.out_of_memory then w else record w { queue = us }) ≤ Value v n w
queued_less v n w us = by w.out_of_memory
  where
    by : (b : Bool) → Value v n (if b then w else record w { queue = us }) ≤ Value v n w
    by true = omega arith
    by false = omega arith

left_less : (v : Life → ℕ) (n : ℕ) (w : State) (b : Bool) → Value v n (if b then left w else w) ≤ Value v n w
left_less v n w true = omega arith
left_less v n w false = omega arith

came_counts : {n : ℕ} {v : Life → ℕ} {asks : Want91 → Bool} {answers : Reply → Bool} → Counts n v asks answers → (u : Unit91) (h : List Step) → ArePicks h
    → went_in answers h + Value v n (before h) ≤ wanted_in asks h → went_in answers h + Value v n (before (Came u ∷ h)) ≤ wanted_in asks (Came u ∷ h)
came_counts {n} {v} {asks} {answers} c u h p e =
    subst (λ (rs : List Route). Goal (ran_out_in h) rs (paths_in h) (connection h)) (routes_are (known h p))
    (subst (λ (ps : List (Option PathState)). Goal (ran_out_in h) (before h).routes ps (connection h)) (paths_are (known h p))
    (subst (λ (d : Connection). Goal (ran_out_in h) (before h).routes (before h).paths d) (conn_is (known h p))
    (subst (λ (b : Bool). Goal b (before h).routes (before h).paths (before h).conn) (memory_is (known h p))
    (came_less c (before h) u (before h).out_of_memory (wanted_in asks h) (went_in answers h) e))))
  where
    Goal : Bool → List Route → List (Option PathState) → Connection → Type 0
    Goal b rs ps d =
        went_in answers h + Value v n (before (Came u ∷ h))
        ≤ (if b then wanted_in asks h else wanted_in asks h + one_if (asks (client_step rs ps d u).1))

counts : {n : ℕ} {v : Life → ℕ} {asks : Want91 → Bool} {answers : Reply → Bool} → Counts n v asks answers → (h : List Step) → ArePicks h
    → went_in answers h + Value v n (before h) ≤ wanted_in asks h
counts {n} {v} c [] p = let none : v (life_at no_lives n) ≡ 0 = ap v (new_at n) ∙ c.none in omega (arith, none)
counts {n} {v} c (Began site i ms ∷ h) p = counts c h p.1
counts c (Moment ms ∷ h) p = counts c h p.1
counts c (Fed Client ∷ h) p = counts c h p.1
counts c (Fed Up ∷ h) p = counts c h p.1
counts c (Silent Client ∷ h) p = counts c h p.1
counts {n} {v} c (Silent Up ∷ h) p = keeps _ _ _ _ (fail_less v n _ _ _) (counts c h p.1)
counts {n} {v} c (Queued u ∷ h) p = keeps _ _ _ _ (queued_less v n (before h) _) (counts c h p.1)
counts c (Came u ∷ h) p = came_counts c u h p.1 (counts c h p.1)
counts {n} {v} c (TakenUp ∷ h) p = keeps _ _ _ _ (left_less v n (before h) _) (counts c h p.1)
counts c (Heard u ∷ h) p = keeps _ _ _ _ (heard_less c (before h) u) (counts c h p.1)
counts c (Joined link.Ok ∷ h) p = counts c h p.1
counts {n} {v} c (Joined link.Failed ∷ h) p = keeps _ _ _ _ (fail_less v n _ None _) (counts c h p.1)
counts c (Lost Client loss.Ended ∷ h) p = counts c h p.1
counts c (Lost Client loss.Failed ∷ h) p = counts c h p.1
counts c (Lost Client loss.Shut ∷ h) p = counts c h p.1
counts {n} {v} c (Lost Up loss.Ended ∷ h) p = keeps _ _ _ _ (fail_less v n _ None _) (counts c h p.1)
counts {n} {v} c (Lost Up loss.Failed ∷ h) p = keeps _ _ _ _ (fail_less v n _ None _) (counts c h p.1)
counts c (Lost Up loss.Shut ∷ h) p = counts c h p.1
counts {n} {v} {asks} {answers} c (Gave (ToClient u) text ∷ h) p =
    let less : v (life_at (without_life u (before h).lives) n) + one_if (answers u) ≤ v (life_at (before h).lives n) =
    given_less c u (before h).lives (owed_picked h u p.1 (picked (before h) u p.0.1)) in
    let old : went_in answers h + v (life_at (before h).lives n) ≤ wanted_in asks h = counts c h p.1 in
    omega (arith, less, old)
counts {n} {v} c (Gave (ToUp u) text ∷ h) p = keeps _ _ _ _ (begun_less c u (before h).lives) (counts c h p.1)
counts c (Whole Client ∷ h) p = counts c h p.1
counts c (Whole Up ∷ h) p = counts c h p.1
counts c (LinesTold ∷ h) p = counts c h p.1
counts c (OutOfMemory ∷ h) p = counts c h p.1

answered_at_most : {n : ℕ} {v : Life → ℕ} {asks : Want91 → Bool} {answers : Reply → Bool} → Counts n v asks answers → (h : List Step) → ArePicks h
    → went_in answers h ≤ wanted_in asks h
answered_at_most c h p = let all = counts c h p in omega (arith, all)

-- ---- the three kinds

no_answer_open : (n : ℕ) (u : Reply) → is_answer u ≡ true → is_open_ok_on n u ≡ false
no_answer_open n (reply.ChannelOpenOk m) e = absurd cc
no_answer_open n (reply.ChannelCloseOk m) e = absurd cc
no_answer_open n (reply.CrossedOk m) e = absurd cc
no_answer_open n (reply.ChannelClose m r) e = absurd cc
no_answer_open n x e = refl

no_answer_close : (n : ℕ) (u : Reply) → is_answer u ≡ true → is_close_ok_on n u ≡ false
no_answer_close n (reply.ChannelOpenOk m) e = absurd cc
no_answer_close n (reply.ChannelCloseOk m) e = absurd cc
no_answer_close n (reply.CrossedOk m) e = absurd cc
no_answer_close n (reply.ChannelClose m r) e = absurd cc
no_answer_close n x e = refl

-- channel.open and its open-ok
abbrev opens_of : Life → ℕ
opens_of l = one_if l.waits + one_if l.open_ok

opened_or : (a b : Bool) → one_if false + one_if (a || b) ≤ one_if b + one_if a
opened_or true true = omega arith
opened_or true false = omega arith
opened_or false true = omega arith
opened_or false false = omega arith

opens_asked : (n ms : ℕ) (m : Method91) (l : Life) → opens_of (method_life ms m l) ≤ opens_of l + one_if ((n == n) && is_channel_open m)
opens_asked n ms method.ChannelOpen l = let here : one_if ((n == n) && true) ≡ 1 = ap (λ (b : Bool). one_if (b && true)) (itself n) in omega (arith, here)
opens_asked n ms (method.ChannelFlow active) l = omega arith
opens_asked n ms (method.ChannelClose code text class id) l = omega arith
opens_asked n ms m l = omega arith

opens_gone : (n : ℕ) (l : Life) → l.open_ok ≡ true → opens_of (record l { open_ok = false }) + one_if (n == n) ≤ opens_of l
opens_gone n l e =
    let here : one_if (n == n) ≡ 1 = ap one_if (itself n) in
    let was : one_if l.open_ok ≡ 1 = ap one_if e in
    omega (arith, here, was)

opens : (n : ℕ) → Counts n opens_of (is_method_on is_channel_open n) (is_open_ok_on n)
opens n = record {
  none = refl;
  asked = opens_asked n;
  freed = λ l. omega arith;
  begun = λ l. opened_or l.open_ok l.waits;
  failed = λ by_peer ms r why l. omega arith;
  carries = λ s l. omega arith;
  begins = λ l. omega arith;
  ends = λ l. omega arith;
  opened = opens_gone n;
  closed = λ l e. omega arith;
  crossed = λ l e. omega arith;
  told = λ r l. omega arith;
  of_connection = no_answer_open n;
  beats = refl;
  of_paths = λ k u. refl;
  elsewhere_open = λ k d. isnt k n d;
  elsewhere_close = λ k d. refl;
  elsewhere_crossed = λ k d. refl;
  elsewhere_told = λ k r d. refl;
}

-- channel.close and its close-ok
abbrev closes_of : Life → ℕ
closes_of l = one_if l.close_ok + one_if l.crossed_ok

closes_asked : (n ms : ℕ) (m : Method91) (l : Life) → closes_of (method_life ms m l) ≤ closes_of l + one_if ((n == n) && is_channel_close m)
closes_asked n ms method.ChannelOpen l = omega arith
closes_asked n ms (method.ChannelFlow active) l = omega arith
closes_asked n ms (method.ChannelClose code text class id) l =
    let here : one_if ((n == n) && true) ≡ 1 = ap (λ (b : Bool). one_if (b && true)) (itself n) in omega (arith, here)
closes_asked n ms m l = omega arith

closed_or : (a b : Bool) → one_if false + one_if (a || b) ≤ one_if b + one_if a
closed_or a b = opened_or a b

closes_gone : (n : ℕ) (l : Life) → l.close_ok ≡ true → closes_of (record l { close_ok = false }) + one_if (n == n) ≤ closes_of l
closes_gone n l e =
    let here : one_if (n == n) ≡ 1 = ap one_if (itself n) in
    let was : one_if l.close_ok ≡ 1 = ap one_if e in
    omega (arith, here, was)

crosses_gone : (n : ℕ) (l : Life) → l.crossed_ok ≡ true → closes_of (record l { crossed_ok = false }) + one_if (n == n) ≤ closes_of l
crosses_gone n l e =
    let here : one_if (n == n) ≡ 1 = ap one_if (itself n) in
    let was : one_if l.crossed_ok ≡ 1 = ap one_if e in
    omega (arith, here, was)

closes : (n : ℕ) → Counts n closes_of (is_method_on is_channel_close n) (is_close_ok_on n)
closes n = record {
  none = refl;
  asked = closes_asked n;
  freed = λ l. closed_or l.crossed_ok l.close_ok;
  begun = λ l. omega arith;
  failed = λ by_peer ms r why l. omega arith;
  carries = λ s l. omega arith;
  begins = λ l. omega arith;
  ends = λ l. omega arith;
  opened = λ l e. omega arith;
  closed = closes_gone n;
  crossed = crosses_gone n;
  told = λ r l. omega arith;
  of_connection = no_answer_close n;
  beats = refl;
  of_paths = λ k u. refl;
  elsewhere_open = λ k d. refl;
  elsewhere_close = λ k d. isnt k n d;
  elsewhere_crossed = λ k d. isnt k n d;
  elsewhere_told = λ k r d. refl;
}

pub answers_once : (h : List Step) → ArePicks h → AnswersOnce h
answers_once h p = record {
  opens = λ n. answered_at_most (opens n) h p;
  flows = λ n. flows_once n h p;
  closes = λ n. answered_at_most (closes n) h p;
}

-- ---- a channel.open-ok that is due

-- what is due of a life that is over
abbrev over_of : Life → ℕ
over_of l = if l.over then opens_of l else 0

over_less : (b : Bool) (m k : ℕ) → m ≤ k → (if b then m else 0) ≤ (if b then k else 0)
over_less true m k e = e
over_less false m k e = omega arith

over_asked : (ms : ℕ) (m : Method91) (l : Life) → over_of (method_life ms m l) ≤ over_of l + 0
over_asked ms method.ChannelOpen l = omega arith
over_asked ms (method.ChannelClose code text class id) l = omega arith
over_asked ms m l = omega arith

over_gone : (a b : Bool) → (if a then one_if b + one_if false else 0) + 0 ≤ (if a then one_if b + one_if true else 0)
over_gone true b = omega arith
over_gone false b = omega arith

none_over : (n : ℕ) → Counts n over_of (λ x. false) (λ u. false)
none_over n = record {
  none = refl;
  asked = over_asked;
  freed = λ l. omega arith;
  begun = λ l. over_less l.over _ _ (opened_or l.open_ok l.waits);
  failed = λ by_peer ms r why l. omega arith;
  carries = λ s l. omega arith;
  begins = λ l. omega arith;
  ends = λ l. omega arith;
  opened = λ l e. let less = over_less l.over (opens_of (record l { open_ok = false })) (opens_of l) (omega arith) in omega (arith, less);
  closed = λ l e. omega arith;
  crossed = λ l e. omega arith;
  told = λ r l. omega arith;
  of_connection = λ u e. refl;
  beats = refl;
  of_paths = λ k u. refl;
  elsewhere_open = λ k d. refl;
  elsewhere_close = λ k d. refl;
  elsewhere_crossed = λ k d. refl;
  elsewhere_told = λ k r d. refl;
}

none_wanted : (h : List Step) → wanted_in (λ x. false) h ≡ 0
none_wanted [] = refl
none_wanted (Came u ∷ h) = by (ran_out_in h) (none_wanted h)
  where
    by : (b : Bool) → wanted_in (λ x. false) h ≡ 0 → (if b then wanted_in (λ x. false) h else wanted_in (λ x. false) h + 0) ≡ 0
    by true e = e
    by false e = omega (arith, e)
none_wanted (s ∷ h) = none_wanted h

-- its life goes on, and its channel was opened
pub record IsOpening (h : List Step) (n : ℕ) : Type 0 where
  pub goes : (life_at (before h).lives n).over ≡ false
  pub asked : 1 ≤ wanted_in (is_method_on is_channel_open n) h

pub is_opening_ok : (h : List Step) (n : ℕ) → ArePicks h → (life_at (before h).lives n).open_ok ≡ true → IsOpening h n
is_opening_ok h n p e = record { goes = by (life_at (before h).lives n).over refl; asked = (let all = counts (opens n) h p in omega (arith, one, all)) }
  where
    l : Life
    l = life_at (before h).lives n

    one : one_if l.open_ok ≡ 1
    one = ap one_if e

    by : (b : Bool) → l.over ≡ b → b ≡ false
    by true f =
        let all = counts (none_over n) h p in
        let none = none_wanted h in
        let is : over_of l ≡ opens_of l = ap (λ (b : Bool). if b then opens_of l else 0) f in
        absurd (omega (arith, one, all, none, is))
    by false f = refl
