-- The error of an end that is due is that of what closed its channel last.
use Rattle.property_map.specs.declared.told.Told.{Told}
use Rattle.std.proofs.Common.{◌≡◌, ℕ, ◌==◌, ◌<◌, not, ◌&&◌, Bool, true, false, if◌then◌else◌, List, [], ◌∷◌, ◌++◌, length}
use Rattle.std.proofs.Common.{Option, None, Some, option_map, refl, sym, ap, ◌∙◌, arith, subst}
use Rattle.std.proofs.lemmas.Bool.Decides.{nat_tests}
use Rattle.close_translate.specs.Conditions.{condition_of}
use Rattle.close_translate.specs.declared.codes.TheConstants.{INTERNAL_ERROR, PRECONDITION_FAILED}
use Rattle.close_translate.specs.declared.conditions.Scope.{Scope}
use Rattle.close_translate.specs.declared.conditions.Scope.TheVariants as scope
use Rattle.gate_outside.specs.declared.ports.End.TheVariants.{Client, Up}
use Rattle.gate_outside.specs.declared.ports.Linked.TheVariants as link
use Rattle.gate_relay.specs.declared.loss.Loss.TheVariants as loss
use Rattle.machine_091.specs.State.{is_open, is_opening}
use Rattle.machine_091.specs.declared.state.Connection.{Connection}
use Rattle.machine_091.specs.declared.unit.Unit91.{Unit91}
use Rattle.machine_091.specs.declared.unit.Want91.{Want91}
use Rattle.machine_091.specs.declared.unit.Want91.TheVariants as want
use Rattle.machine_10.specs.Parts.{Parts}
use Rattle.machine_10.specs.Transitions as ten
use Rattle.machine_10.specs.Transitions.{Meaning}
use Rattle.machine_10.specs.declared.state.Upstream.{Upstream}
use Rattle.machine_10.specs.declared.unit.Unit10.{Unit10}
use Rattle.methods_091.specs.declared.method.Method91.{Method91}
use Rattle.methods_091.specs.declared.method.Method91.TheVariants as method
use Rattle.performatives_10.specs.declared.condition.Condition.{Condition}
use Rattle.session_path.specs.Path.{PathState}
use Rattle.gate_model.specs.declared.life.Life.{Life}
use Rattle.gate_model.specs.declared.life.SessionState.{SessionState}
use Rattle.gate_model.specs.declared.outgoing.Outgoing.TheVariants.{ToClient, ToUp}
use Rattle.gate_model.specs.declared.outgoing.UpUnit.{UpUnit}
use Rattle.gate_model.specs.declared.outgoing.UpUnit.TheVariants as up
use Rattle.gate_model.specs.declared.reply.Reply.{Reply}
use Rattle.gate_model.specs.declared.reply.Reply.TheVariants as reply
use Rattle.gate_model.specs.Due.{up_rows}
use Rattle.gate_model.specs.Errors.{MayState, StatesErrors, ends_session, error_at, error_in, error_meant, error_or, error_scoped, error_wanted}
use Rattle.gate_model.specs.Folds.{Peers, connection, container, paths_in, peers, ran_out_in, routes_in}
use Rattle.gate_model.specs.Lives.{begun_life, failed_life, freed_life, is_of_channel, life_at, lives_by, method_life, reason_of, refusal_on, with_life}
use Rattle.gate_model.specs.Paths.{closed_path, path_at}
use Rattle.gate_model.specs.Picks.{ArePicks}
use Rattle.gate_model.specs.Repeats.{is_end_on}
use Rattle.gate_model.specs.Requests.{client_told}
use Rattle.gate_model.specs.State.{Came, Fed, Gave, Heard, Joined, Lost, Queued, Silent, State, Step, TakenUp, Whole, before, begun_session, came}
use Rattle.gate_model.specs.State.{carried, closed_for, closing_code, closing_error, dequeued, ending_error, fail, fail_life, heard, left, life_failed}
use Rattle.gate_model.specs.State.{link_scope, runs, scoped, session_lost, want_in, windowed, with_meaning, with_session, without_begin, without_life}
use Rattle.gate_model.specs.Upstream.{heard_up, meaning_by}
use Rattle.gate_model.proofs.Firsts.{FirstIs, is_free, of_up, session_by, up_rows_by}
use Rattle.gate_model.proofs.Known.{Known, conn_is, container_is, known, memory_is, paths_are}
use Rattle.gate_model.proofs.Lives.{lives_all, set_all}
use Rattle.gate_model.proofs.Clear.{want_is}
use Rattle.gate_model.proofs.Living.{fail_lives}
use Rattle.gate_model.proofs.Places.{Beyond, Elsewhere, Here, SetAt, isnt, itself, new_at, set_at}
use Rattle.gate_model.proofs.Sessions.{session_on}
use Rattle.gate_model.proofs.Staying.{Other, Set, This, long, set_in}

-- ---- what a step makes of the error that is due

abbrev Tells : Option (Option Condition) → Life → Life → Type 0
Tells o l m = m.why ≡ error_or o l.why

abbrev TellsIn : Option (Option Condition) → ℕ → State → State → Type 0
TellsIn o n w v = Tells o (life_at w.lives n) (life_at v.lives n)

same : (l m : Life) → m ≡ l → Tells None l m
same l m e = ap (λ (x : Life). x.why) e

-- a life that is set keeps it
keeps : (n k : ℕ) (ls : List Life) (m : Life) → m.why ≡ (life_at ls k).why → Tells None (life_at ls n) (life_at (with_life k m ls) n)
keeps n k ls m e = by (set_at ls k n m)
  where
    by : SetAt ls k n m → Tells None (life_at ls n) (life_at (with_life k m ls) n)
    by (Here f g) = ap (λ (x : Life). x.why) g ∙ e ∙ ap (λ (i : ℕ). (life_at ls i).why) f
    by (Elsewhere d g) = same _ _ g
    by (Beyond f g i) = same _ _ (i ∙ sym g)

-- ---- the client's units

method_tells : (ms : ℕ) (m : Method91) (l : Life) → Tells None l (method_life ms m l)
method_tells ms method.ChannelOpen l = refl
method_tells ms (method.ChannelClose code text class id) l = refl
method_tells ms m l = refl

want_tells : (n ms : ℕ) (told : Option Told) (y : Want91) (ls : List Life) → n < length ls → Tells (error_wanted n y) (life_at ls n) (life_at (lives_by ms told y ls) n)
want_tells n ms told (want.Method k m) ls less = keeps n k ls (method_life ms m (life_at ls k)) (method_tells ms m (life_at ls k))
want_tells n ms told (want.ChannelCloseOk k) ls less = keeps n k ls (freed_life (life_at ls k)) refl
want_tells n ms told (want.Refuse r) ls less = by (is_of_channel r)
  where
    new : Life
    new = failed_life false ms (reason_of told r) (Some (condition_of r.code)) (life_at ls r.channel)

    o : Bool → Option (Option Condition)
    o b = if b then Some (Some (condition_of r.code)) else None

    one : Set n r.channel ls new → Tells (o (r.channel == n)) (life_at ls n) (life_at (with_life r.channel new ls) n)
    one (This e g) =
        ap (λ (x : Life). x.why) g ∙ sym (ap (λ (b : Bool). error_or (o b) (life_at ls n).why) (ap (λ (i : ℕ). i == n) e ∙ itself n))
    one (Other d g) = ap (λ (x : Life). x.why) g ∙ sym (ap (λ (b : Bool). error_or (o b) (life_at ls n).why) d)

    by : (b : Bool) → Tells (if b && r.channel == n then Some (Some (condition_of r.code)) else None) (life_at ls n) (life_at (if b then with_life r.channel new ls else ls) n)
    by true = one (set_in n r.channel ls new less)
    by false = refl
want_tells n ms told y ls less = refl

-- ---- the container's

fail_tells : (n code : ℕ) (why : Option Condition) (w v : State) → TellsIn None n w v → TellsIn None n w (fail code why v)
fail_tells n code why w v t = ap (λ (ls : List Life). (life_at ls n).why) (fail_lives code why v) ∙ t

-- what a performative of the state's session closes
abbrev error_on : Bool → Bool → Option (Option Condition) → Option (Option Condition)
error_on here on o = if here && on then o else None

-- the container closes channel g, if that is open
fail_one : (n g code : ℕ) (why : Option Condition) (f : PathState → PathState) (w v : State) → n < length v.lives → v.conn ≡ w.conn
    → TellsIn None n w v → TellsIn (error_on (g == n) (is_open w.conn n) (Some why)) n w (fail_life g code why f v)
fail_one n g code why f w v inside c t = by (is_open v.conn g) refl
  where
    new : Life
    new = failed_life true v.moment (reason_of None (refusal_on g code)) why (life_at v.lives g)

    o : Option (Option Condition)
    o = error_on (g == n) (is_open w.conn n) (Some why)

    apart : (g == n) ≡ false → o ≡ None
    apart e = ap (λ (b : Bool). error_on b (is_open w.conn n) (Some why)) e

    opened : g ≡ n → (b : Bool) → is_open v.conn g ≡ b → o ≡ (if b then Some why else None)
    opened e b f =
        ap (λ (a : Bool). error_on a (is_open w.conn n) (Some why)) (ap (λ (i : ℕ). i == n) e ∙ itself n)
        ∙ ap (λ (a : Bool). if a then Some why else None)
        (sym (ap (λ (d : Connection). is_open d n) c) ∙ sym (ap (λ (i : ℕ). is_open v.conn i) e) ∙ f)

    quiet : o ≡ None → TellsIn o n w v
    quiet e = t ∙ sym (ap (λ (x : Option (Option Condition)). error_or x (life_at w.lives n).why) e)

    one : is_open v.conn g ≡ true → Set n g v.lives new → TellsIn o n w (life_failed g (refusal_on g code) why f v)
    one on (This e i) = ap (λ (x : Life). x.why) i ∙ sym (ap (λ (x : Option (Option Condition)). error_or x (life_at w.lives n).why) (opened e true on))
    one on (Other d i) = ap (λ (x : Life). x.why) i ∙ quiet (apart d)

    shut : is_open v.conn g ≡ false → (b : Bool) → (g == n) ≡ b → TellsIn o n w v
    shut off true e = let here : g ≡ n = grind (arith, nat_tests, e) in quiet (opened here false off)
    shut off false e = quiet (apart e)

    by : (b : Bool) → is_open v.conn g ≡ b → TellsIn o n w (if b then life_failed g (refusal_on g code) why f v else v)
    by true on = one on (set_in n g v.lives new inside)
    by false off = shut off (g == n) refl

none_on : (a b : Bool) → error_on a b None ≡ None
none_on true true = refl
none_on true false = refl
none_on false b = refl

-- by what stands on channel g
session_on_own : (n g : ℕ) (q : Parts) (payload : List ℕ) (w : State) → n < length w.lives
    → TellsIn (error_on (g == n) (is_open w.conn n) (error_scoped (link_scope q payload (session_on w g) (path_at w.paths g)) q payload (session_on w g) (path_at w.paths g))) n w
    (with_session g q payload w)
session_on_own n g q payload w inside = by (link_scope q payload (session_on w g) (path_at w.paths g))
  where
    c : State
    c = carried g q payload w

    d : State
    d = windowed g q w

    a : Bool
    a = g == n

    on : Bool
    on = is_open w.conn n

    long_still : (m : Life) → n < length (with_life g m w.lives)
    long_still m = subst (λ (i : ℕ). n < i) (sym (set_all w.lives g m)) inside

    kept : TellsIn None n w c
    kept = keeps n g w.lives _ refl

    quiet : (v : State) → TellsIn None n w v → TellsIn (error_on a on None) n w v
    quiet v t = t ∙ sym (ap (λ (x : Option (Option Condition)). error_or x (life_at w.lives n).why) (none_on a on))

    closed : (o : Option ℕ) → TellsIn (error_on a on (option_map (λ (code : ℕ). None) o)) n w (closed_for g o c)
    closed None = quiet c kept
    closed (Some code) = fail_one n g code None closed_path w c (long_still _) refl kept

    met : (b : Bool) (o : Option ℕ)
        → TellsIn (error_on a on (if b then None else option_map (λ (code : ℕ). None) o)) n w (if b then begun_session g c else closed_for g o c)
    met true o = quiet (begun_session g c) (keeps n g c.lives (begun_life (life_at c.lives g)) refl ∙ kept)
    met false o = closed o

    by : (o : Option Scope) → TellsIn (error_on a on (error_scoped o q payload (session_on w g) (path_at w.paths g))) n w (scoped o g q payload w)
    by None = met (q.0 == 17) (closing_code q payload (path_at w.paths g))
    by (Some scope.Connection) = quiet (fail INTERNAL_ERROR (Some (closing_error q (path_at w.paths g))) d) (fail_tells n INTERNAL_ERROR (Some (closing_error q (path_at w.paths g))) w d kept)
    by (Some scope.Channel) =
        fail_one n g PRECONDITION_FAILED (Some (ending_error q payload (session_on w g) (path_at w.paths g))) closed_path w (session_lost g d) (long_still _) refl kept

-- what counts is of channel n
abbrev error_state : State → ℕ → ℕ → Parts → List ℕ → Option (Option Condition)
error_state w n g q payload =
    error_on (g == n) (is_open w.conn n) (error_scoped (link_scope q payload (session_on w n) (path_at w.paths n)) q payload (session_on w n) (path_at w.paths n))

session_tells : (n g : ℕ) (q : Parts) (payload : List ℕ) (w : State) → n < length w.lives → TellsIn (error_state w n g q payload) n w (with_session g q payload w)
session_tells n g q payload w inside = subst (λ (o : Option (Option Condition)). TellsIn o n w (with_session g q payload w)) (is (g == n) refl) (session_on_own n g q payload w inside)
  where
    by : ℕ → Bool → Option (Option Condition)
    by k b = error_on b (is_open w.conn n) (error_scoped (link_scope q payload (session_on w k) (path_at w.paths k)) q payload (session_on w k) (path_at w.paths k))

    is : (b : Bool) → (g == n) ≡ b → by g (g == n) ≡ by n (g == n)
    is true e = let here : g ≡ n = grind (arith, nat_tests, e) in ap (λ (k : ℕ). by k (g == n)) here
    is false e = ap (by g) e ∙ sym (ap (by n) e)

abbrev error_by : State → ℕ → Meaning → Option (Option Condition)
error_by w n (ten.OfSession k q payload) = error_state w n k q payload
error_by w n m = None

meaning_tells : (n : ℕ) (m : Meaning) (w : State) → n < length w.lives → TellsIn (error_by w n m) n w (with_meaning m w)
meaning_tells n ten.Nothing w inside = refl
meaning_tells n ten.Init w inside = refl
meaning_tells n ten.AmqpHeader w inside = refl
meaning_tells n ten.Opened w inside = by (is_opening w.conn)
  where
    by : (b : Bool) → TellsIn None n w (if b then runs w else w)
    by true = refl
    by false = refl
meaning_tells n (ten.OfSession k q payload) w inside = session_tells n k q payload w inside
meaning_tells n (ten.Closed x) w inside = fail_tells n _ _ w w refl
meaning_tells n ten.Refused w inside = fail_tells n _ _ w w refl
meaning_tells n (ten.Violation x) w inside = fail_tells n _ _ w w refl

-- the state's is the fold's
errors_same : (n : ℕ) (m : Meaning) (w : State) (o : Peers) → w.conn ≡ o.client → w.paths ≡ o.paths → session_on w n ≡ o.carried n → error_by w n m ≡ error_meant o n m
errors_same n (ten.OfSession k q payload) w o c p s =
    ap (λ (d : Connection). by (is_open d n) (session_on w n) (path_at w.paths n)) c
    ∙ ap (λ (ps : List (Option PathState)). by (is_open o.client n) (session_on w n) (path_at ps n)) p
    ∙ ap (λ (x : SessionState). by (is_open o.client n) x (path_at o.paths n)) s
  where
    by : Bool → SessionState → PathState → Option (Option Condition)
    by on x t = error_on (k == n) on (error_scoped (link_scope q payload x t) q payload x t)
errors_same n ten.Nothing w o c p s = refl
errors_same n ten.Init w o c p s = refl
errors_same n ten.AmqpHeader w o c p s = refl
errors_same n ten.Opened w o c p s = refl
errors_same n (ten.Closed x) w o c p s = refl
errors_same n ten.Refused w o c p s = refl
errors_same n (ten.Violation x) w o c p s = refl

-- ---- units that go

given_tells : (n : ℕ) (u : Reply) (ls : List Life) → Tells None (life_at ls n) (life_at (without_life u ls) n)
given_tells n (reply.ChannelOpenOk k) ls = keeps n k ls _ refl
given_tells n (reply.ChannelCloseOk k) ls = keeps n k ls _ refl
given_tells n (reply.CrossedOk k) ls = keeps n k ls _ refl
given_tells n (reply.ChannelClose k r) ls = keeps n k ls _ refl
given_tells n u ls = refl

-- an end tells it
begun_tells : (n : ℕ) (u : UpUnit) (ls : List Life) → (life_at (without_begin u ls) n).why ≡ (if is_end_on n u then None else (life_at ls n).why)
begun_tells n (up.OnSession k u) ls = keeps n k ls _ refl
begun_tells n (up.Flow k i o) ls = keeps n k ls _ refl
begun_tells n (up.Begin k) ls = keeps n k ls _ refl
begun_tells n (up.End k why) ls = by (set_at ls k n (record (life_at ls k) { why = None }))
  where
    told : (k == n) ≡ true → None ≡ (if k == n then None else (life_at ls n).why)
    told e = sym (ap (λ (b : Bool). if b then None else (life_at ls n).why) e)

    by : SetAt ls k n (record (life_at ls k) { why = None }) → (life_at (with_life k (record (life_at ls k) { why = None }) ls) n).why ≡ (if k == n then None else (life_at ls n).why)
    by (Here f g) = ap (λ (x : Life). x.why) g ∙ told (ap (λ (i : ℕ). i == n) f ∙ itself n)
    by (Elsewhere d g) = ap (λ (x : Life). x.why) g ∙ sym (ap (λ (b : Bool). if b then None else (life_at ls n).why) (isnt k n d))
    by (Beyond f g i) = ap (λ (x : Life). x.why) i ∙ told (ap (λ (j : ℕ). j == n) f ∙ itself n)
begun_tells n u ls = refl

-- ---- all steps

came_tells : (n : ℕ) (u : Unit91) (h : List Step) → n < 256 → ArePicks h → TellsIn (error_at n h (Came u)) n (before h) (before (Came u ∷ h))
came_tells n u h less p = by (before h).out_of_memory (memory_is (known h p))
  where
    w : State
    w = before h

    is : error_wanted n (want_in w.routes w.paths w.conn u) ≡ error_wanted n (want_in (routes_in h) (paths_in h) (connection h) u)
    is = ap (error_wanted n) (want_is h u p)

    by : (b : Bool) → b ≡ ran_out_in h → TellsIn (error_at n h (Came u)) n w (if b then w else came (dequeued w) u)
    by true e = ap (λ (b : Bool). error_or (if b then None else error_wanted n (want_in (routes_in h) (paths_in h) (connection h) u)) (life_at w.lives n).why) e
    by false e =
        subst (λ (o : Option (Option Condition)). TellsIn o n w (came (dequeued w) u))
        (is ∙ ap (λ (b : Bool). if b then None else error_wanted n (want_in (routes_in h) (paths_in h) (connection h) u)) e)
        (want_tells n w.moment (client_told w.routes w.conn u) (want_in w.routes w.paths w.conn u) w.lives (long n h less p))

heard_tells : (n : ℕ) (u : Unit10) (h : List Step) → n < 256 → ArePicks h → TellsIn (error_at n h (Heard u)) n (before h) (before (Heard u ∷ h))
heard_tells n u h less p = by (before h).out_of_memory (memory_is k)
  where
    k : Known h
    k = known h p

    w : State
    w = before h

    v : State
    v = record w { up = heard_up u w.up }

    m : Meaning
    m = meaning_by w.up.container u

    is : error_by v n m ≡ error_meant (peers h) n (meaning_by (container h) u)
    is = errors_same n m v (peers h) (conn_is k) (paths_are k) (k.carries n less) ∙ ap (λ (o : Option Upstream). error_meant (peers h) n (meaning_by o u)) (container_is k)

    by : (b : Bool) → b ≡ ran_out_in h → TellsIn (error_at n h (Heard u)) n w (if b then w else heard w u)
    by true e = ap (λ (b : Bool). error_or (if b then None else error_meant (peers h) n (meaning_by (container h) u)) (life_at w.lives n).why) e
    by false e =
        subst (λ (o : Option (Option Condition)). TellsIn o n w (heard w u))
        (is ∙ ap (λ (b : Bool). if b then None else error_meant (peers h) n (meaning_by (container h) u)) e)
        (meaning_tells n m v (long n h less p))

-- a step on which no end goes
step_tells : (n : ℕ) (s : Step) (h : List Step) → n < 256 → ArePicks (s ∷ h)
    → (life_at (before (s ∷ h)).lives n).why ≡ (if ends_session n s then None else error_or (error_at n h s) (life_at (before h).lives n).why)
step_tells n (Fed Client) h less p = refl
step_tells n (Silent Up) h less p = fail_tells n _ _ (before h) _ refl
step_tells n (Queued u) h less p = by (before h).out_of_memory
  where
    by : (b : Bool) → TellsIn None n (before h) (if b then before h else record (before h) { queue = (before h).queue ++ u ∷ [] })
    by true = refl
    by false = refl
step_tells n (Came u) h less p = came_tells n u h less p.1
step_tells n TakenUp h less p = by (not (before h).out_of_memory && (before h).leaving)
  where
    by : (b : Bool) → TellsIn None n (before h) (if b then left (before h) else before h)
    by true = refl
    by false = refl
step_tells n (Heard u) h less p = heard_tells n u h less p.1
step_tells n (Joined link.Failed) h less p = fail_tells n _ _ (before h) _ refl
step_tells n (Lost Client loss.Ended) h less p = refl
step_tells n (Lost Up loss.Ended) h less p = fail_tells n _ _ (before h) _ refl
step_tells n (Lost Up loss.Failed) h less p = fail_tells n _ _ (before h) _ refl
step_tells n (Gave (ToClient u) text) h less p = given_tells n u (before h).lives
step_tells n (Gave (ToUp u) text) h less p = begun_tells n u (before h).lives
step_tells n (Whole Client) h less p = refl
step_tells n s h less p = refl

errors : (n : ℕ) (h : List Step) → n < 256 → ArePicks h → (life_at (before h).lives n).why ≡ error_in n h
errors n [] less p = ap (λ (l : Life). l.why) (new_at n)
errors n (s ∷ h) less p = step_tells n s h less p ∙ ap (λ (o : Option Condition). if ends_session n s then None else error_or (error_at n h s) o) (errors n h less p.1)

-- ---- an end that goes is due

abbrev IsDueEnd : State → UpUnit → Type 0
IsDueEnd w (up.End n why) = (n < length w.lives) × (why ≡ (life_at w.lives n).why)
IsDueEnd w u = Unit {0}

rows_due : (w : State) → FirstIs (IsDueEnd w) (up_rows w)
rows_due w = up_rows_by P w (record {
  free = free;
  begin = λ n c e. tt;
  last = λ n less e. (less, refl);
  session = session_by P w (record {
    attach = λ n x e. tt;
    flow = λ n x e. tt;
    transfer = λ n x e. tt;
    dispose = λ n x e. tt;
    settle = λ n x e. tt;
    detach = λ n x e. tt;
  }) free;
})
  where
    P : UpUnit → Type 0
    P = IsDueEnd w

    free : (u : UpUnit) → is_free u ≡ true → IsDueEnd w u
    free (up.End n why) e = absurd cc
    free u e = tt

may_state : (h : List Step) (u : UpUnit) → ArePicks h → IsDueEnd (before h) u → MayState h u
may_state h (up.End n why) p d = d.1 ∙ errors n h (subst (λ (m : ℕ). n < m) (lives_all h p) d.0) p
may_state h u p d = tt

pub states_errors : (h : List Step) → ArePicks h → StatesErrors h
states_errors [] p = tt
states_errors (Gave (ToUp u) text ∷ h) p = (may_state h u p.1 (of_up (IsDueEnd (before h)) (up_rows (before h)) u (rows_due (before h)) p.0.1), states_errors h p.1)
states_errors (s ∷ h) p = states_errors h p.1
