-- What a unit of the container does to a session, and which events bring no transfer.
use Rattle.std.proofs.Common.{◌≡◌, ℕ, ◌==◌, ◌<◌, ◌⊎◌, inl, inr, ◌&&◌, ◌||◌, not, Bool, true, false}
use Rattle.std.proofs.Common.{if◌then◌else◌, List, [], ◌∷◌, ◌++◌, length, Option, None, Some, refl, sym, ap, ◌∙◌, subst, arith}
use Rattle.std.proofs.lemmas.Bool.Decides.{nat_tests}
use Rattle.std.proofs.lemmas.List.Folds.{list_any-append}
use Rattle.std.specs.Prelude.{is_some}
use Rattle.close_translate.specs.Conditions.{code_by}
use Rattle.close_translate.specs.declared.codes.TheConstants.{INTERNAL_ERROR, PRECONDITION_FAILED}
use Rattle.close_translate.specs.declared.conditions.Scope.{Scope}
use Rattle.close_translate.specs.declared.conditions.Scope.TheVariants as scope
use Rattle.machine_091.specs.State.{channel_at, is_closing, is_closing_phase, is_open, is_open_channel, is_opening, is_running}
use Rattle.machine_091.specs.declared.state.Phase91.{Phase91}
use Rattle.machine_091.specs.declared.state.Connection.{Connection}
use Rattle.machine_091.specs.declared.unit.Refusal.{Refusal}
use Rattle.machine_091.specs.declared.unit.Want91.{Want91}
use Rattle.machine_091.proofs.ChannelSteps.{closing_opens}
use Rattle.machine_10.specs.Parts.{Parts as Performative}
use Rattle.machine_10.specs.Reading.{field, number_at}
use Rattle.machine_10.specs.State.{session_at}
use Rattle.machine_10.specs.Transitions as ten
use Rattle.machine_10.specs.Transitions.{Meaning, unit_step}
use Rattle.machine_10.specs.declared.state.Session.{Session}
use Rattle.machine_10.specs.declared.state.Session.TheVariants as session
use Rattle.machine_10.specs.declared.state.Upstream.{Upstream}
use Rattle.machine_10.specs.declared.unit.Unit10.{Unit10}
use Rattle.machine_10.proofs.SessionSteps.{EndCame, is_asked, is_ended, is_live, unit_keeps}
use Rattle.performatives_10.specs.declared.condition.Condition.{Condition}
use Rattle.session_path.specs.Events as event
use Rattle.session_path.specs.Events.{PathEvent, drops}
use Rattle.session_path.specs.Path.{PathState, closes_at as closes_channel}
use Rattle.gate_model.specs.Folds.{Peers, scope_in}
use Rattle.gate_model.specs.Lives.{life_at, session_in, with_life}
use Rattle.gate_model.specs.Paths.{closed_path, fault_in, is_outcome, name_in, path_at, text_of}
use Rattle.gate_model.specs.Publishing.{attach_events, closed_if, closing, ending, heard_events, meaning_events}
use Rattle.gate_model.specs.Publishing.{reply_events, session_events, told_event, up_events, want_events, wrote_events}
use Rattle.gate_model.specs.Session.{is_of_session}
use Rattle.gate_model.specs.State.{State, begun_session, came, carried, close, closed_for, closing_code, failed, sessions_lost}
use Rattle.gate_model.specs.State.{life_failed, link_scope, opened, runs, scoped, session_lost, windowed, with_meaning, with_session}
use Rattle.gate_model.specs.Upstream.{condition_in, container_by, meaning_by}
use Rattle.gate_model.specs.declared.channel.ChannelUnit.{ChannelUnit}
use Rattle.gate_model.specs.declared.channel.ChannelUnit.TheVariants as to_client
use Rattle.gate_model.specs.declared.life.Life.{Life}
use Rattle.gate_model.specs.declared.outgoing.UpUnit.{UpUnit}
use Rattle.gate_model.specs.declared.reply.Reply.{Reply}
use Rattle.gate_model.specs.declared.setup.Route.{Route}
use Rattle.gate_model.proofs.Basics.{none_any}
use Rattle.gate_model.proofs.Closed.{is_late, none_open}
use Rattle.gate_model.proofs.Connections.{clash, close_closes, opening_early, opening_phase}
use Rattle.gate_model.proofs.Quiet.{AllOn, OfQuiet, flat, is_request, named_all, reply_on, up_on, want_on, whole_on}
use Rattle.gate_model.proofs.Sessions.{session_cases}
use Rattle.gate_model.proofs.Moves.{Moves, Waits, arrives, begins_at, both, fail_moves, have_come, keeps_begin, life_moves, moves, same_eq, stays_shut}

-- ---- a unit of the container

pub set_moves : (n k : ℕ) (w v : State) (l : Life) → session_in v.up.container n ≡ session_in w.up.container n → v.conn ≡ w.conn
    → l.begin ≡ (life_at w.lives k).begin → v.lives ≡ with_life k l w.lives → Moves n w v
set_moves n k w v l s c e is = record {
  session = s;
  begin = λ x. sym (keeps_begin n k w.lives l e) ∙ ap (λ (ls : List Life). (life_at ls n).begin) (sym is) ∙ x;
  closing = λ x. ap is_closing (sym c) ∙ x;
  still = λ late x. ap (λ (d : Connection). is_open d n) (sym c) ∙ x;
  opens = λ x y. ap (λ (d : Connection). is_closing d || is_open d n) c ∙ y;
}

pub session_moves : (n g : ℕ) (q : Performative) (payload : List ℕ) (w : State) → n < length w.conn.channels → Moves n w (with_session g q payload w)
session_moves n g q payload w less =
    let kept = set_moves n g w (carried g q payload w) _ refl refl refl refl in
    let quiet = set_moves n g w (windowed g q w) _ refl refl refl refl in
    let parted = set_moves n g w (session_lost g (windowed g q w)) _ refl refl refl refl in
    session_cases (λ (v : State). Moves n w v) g q payload w (record {
      begins = both refl kept (set_moves n g (carried g q payload w) (begun_session g (carried g q payload w)) _ refl refl refl refl);
      stays = kept;
      ends = λ code why. life_moves n g w (carried g q payload w) _ why closed_path less refl refl kept.begin;
      parts = parted;
      drops = λ code why. life_moves n g w (session_lost g (windowed g q w)) _ why closed_path less refl refl parted.begin;
      fails = λ why. both refl quiet (fail_moves n INTERNAL_ERROR why (windowed g q w));
    })

pub opened_moves : (n : ℕ) (w : State) → Moves n w (opened w)
opened_moves n w = by (is_opening w.conn) refl
  where
    by : (b : Bool) → is_opening w.conn ≡ b → Moves n w (if b then runs w else w)
    by false e = moves n w w refl refl refl
    by true e = record {
      session = refl;
      begin = λ x. x;
      closing = λ x. at (is_closing w.conn) refl;
      still = λ late x. absurd (clash _ late (ap is_late (opening_phase w.conn e)));
      opens = λ x y. absurd (clash _ y (ap (λ (p : Phase91). is_closing_phase p || (is_running p && is_open_channel (channel_at w.conn n))) (opening_phase w.conn e)));
    }
      where
        at : (b : Bool) → is_closing w.conn ≡ b → b ≡ false
        at true f = absurd (opening_early w.conn e f)
        at false f = refl

pub meaning_moves : (n : ℕ) (m : Meaning) (w : State) → n < length w.conn.channels → Moves n w (with_meaning m w)
meaning_moves n ten.Nothing w less = moves n w w refl refl refl
meaning_moves n ten.Init w less = moves n w _ refl refl refl
meaning_moves n ten.AmqpHeader w less = moves n w _ refl refl refl
meaning_moves n ten.Opened w less = opened_moves n w
meaning_moves n (ten.OfSession g q payload) w less = session_moves n g q payload w less
meaning_moves n (ten.Closed e) w less = fail_moves n _ None w
meaning_moves n ten.Refused w less = fail_moves n _ None w
meaning_moves n (ten.Violation why) w less = fail_moves n _ (Some why) w

-- an end leaves its channel no longer open
pub shut_of : (n code : ℕ) (why : Option Condition) (v : State) (r : Refusal) (f : PathState → PathState) → n < length v.conn.channels
    → is_open (if is_open v.conn n then life_failed n r why f v else v).conn n ≡ false
shut_of n code why v r f less = by (is_open v.conn n) refl
  where
    by : (b : Bool) → is_open v.conn n ≡ b → is_open (if b then life_failed n r why f v else v).conn n ≡ false
    by true e = closing_opens n n v.conn less ∙ ap (λ (z : Bool). if z then false else is_open v.conn n) (same_eq n n refl)
    by false e = e

pub end_shuts : (n : ℕ) (q : Performative) (payload : List ℕ) (w : State) → n < length w.conn.channels → (q.0 == 23) ≡ true → is_open (with_session n q payload w).conn n ≡ false
end_shuts n q payload w less e = by (link_scope q payload (life_at w.lives n).session (path_at w.paths n))
  where
    fails : (b : Bool) → is_closing w.conn ≡ b → (why : Option Condition) → is_open (if b then sessions_lost (windowed n q w) else failed INTERNAL_ERROR why (windowed n q w)).conn n ≡ false
    fails true c why = none_open n w.conn c
    fails false c why = none_open n (close w.conn) (close_closes w.conn.phase)

    met : (a : Bool) → (q.0 == 17) ≡ a → (code : Option ℕ) → closing_code q payload (path_at w.paths n) ≡ code
        → is_open (if a then begun_session n (carried n q payload w) else closed_for n code (carried n q payload w)).conn n ≡ false
    met true f code c = absurd (let wrong : ⊥ = grind (arith, nat_tests, e, f) in wrong)
    met false f None c =
        let some : closing_code q payload (path_at w.paths n) ≡ Some (code_by (condition_in (field q.1 0)) scope.Channel) =
        ap (λ (b : Bool). if b then Some (code_by (condition_in (field q.1 0)) scope.Channel)
        else if (q.0 == 22) && closes_channel (number_at q.1 0) (path_at w.paths n) then Some (code_by (condition_in (field q.1 2)) scope.Channel)
        else if (q.0 == 20) && is_some (fault_in q.1 payload (path_at w.paths n)) then Some PRECONDITION_FAILED
        else None) e in
        let wrong : None ≡ Some (code_by (condition_in (field q.1 0)) scope.Channel) = sym c ∙ some in absurd cc
    met false f (Some code) c = shut_of n code None (carried n q payload w) _ closed_path less

    by : (o : Option Scope) → is_open (scoped o n q payload w).conn n ≡ false
    by None = met (q.0 == 17) refl (closing_code q payload (path_at w.paths n)) refl
    by (Some scope.Connection) = fails (is_closing w.conn) refl _
    by (Some scope.Channel) = shut_of n PRECONDITION_FAILED _ (session_lost n (windowed n q w)) _ closed_path less

-- what it tells of session n
pub record TransferHeard (n : ℕ) (m : Meaning) : Type 0 where
  pub parts : Performative
  pub payload : List ℕ
  pub is : m ≡ ten.OfSession n parts payload
  pub code : (parts.0 == 20) ≡ true

pub record EndHeard (n : ℕ) (m : Meaning) : Type 0 where
  pub parts : Performative
  pub payload : List ℕ
  pub is : m ≡ ten.OfSession n parts payload
  pub code : (parts.0 == 23) ≡ true

pub record Tells (n : ℕ) (o p : Option Upstream) (m : Meaning) : Type 0 where
  pub live : TransferHeard n m → is_live (session_in o n) ≡ true
  pub ended : is_ended (session_in p n) ≡ true → (is_ended (session_in o n) ≡ true) ⊎ EndHeard n m
  pub left : is_live (session_in p n) ≡ false → is_live (session_in o n) ≡ true → is_ended (session_in p n) ≡ true
  pub asked : is_asked (session_in p n) ≡ true → is_asked (session_in o n) ≡ true

pub tells_of : (n : ℕ) (o : Option Upstream) (u : Unit10) → Tells n o (container_by o u) (meaning_by o u)
tells_of n None u = record {
  live = λ t. let wrong : ten.Nothing ≡ ten.OfSession n t.parts t.payload = t.is in absurd cc;
  ended = λ e. inl e;
  left = λ e f. clash_to e f;
  asked = λ e. e;
}
  where
    clash_to : is_live session.Free ≡ false → is_live session.Free ≡ true → is_ended session.Free ≡ true
    clash_to e f = absurd cc
tells_of n (Some c) u =
    let k = unit_keeps n c u in
    record {
      live = λ t. k.live t.parts t.payload t.is t.code;
      ended = λ e. by (k.ended e);
      left = k.left;
      asked = k.asked;
    }
  where
    by : (is_ended (session_at c n) ≡ true) ⊎ EndCame n (unit_step c u) → (is_ended (session_at c n) ≡ true) ⊎ EndHeard n (unit_step c u).1
    by (inl e) = inl e
    by (inr e) = inr (record { parts = e.parts; payload = e.payload; is = e.is; code = e.code })

pub live_ended : (s : Session) → is_live s ≡ true → is_ended s ≡ true → ⊥
live_ended session.Free e f = cc
live_ended x e f = cc

pub live_asked : (s : Session) → is_live s ≡ true → is_asked s ≡ true → ⊥
live_asked session.Free e f = cc
live_asked x e f = cc

pub codes_apart : {n : ℕ} {p q : Performative} {a b : List ℕ} → ten.OfSession n p a ≡ ten.OfSession n q b → (p.0 == 20) ≡ true → (q.0 == 23) ≡ true → ⊥
codes_apart {n} {p} {q} e f g =
    let same : p ≡ q = cc in
    let here : (p.0 == 23) ≡ true = ap (λ (r : Performative). r.0 == 23) same ∙ g in
    grind (arith, nat_tests, f, here)

-- a transfer leaves its session live
pub stays_live : (n : ℕ) (o p : Option Upstream) (m : Meaning) → Tells n o p m → TransferHeard n m → is_live (session_in p n) ≡ true
stays_live n o p m k t = by (is_live (session_in p n)) refl
  where
    by : (b : Bool) → is_live (session_in p n) ≡ b → b ≡ true
    by true e = refl
    by false e = absurd (at (k.ended (k.left e (k.live t))))
      where
        at : (is_ended (session_in o n) ≡ true) ⊎ EndHeard n m → ⊥
        at (inl f) = live_ended (session_in o n) (k.live t) f
        at (inr f) = codes_apart (sym t.is ∙ f.is) t.code f.code

pub re_session : (n : ℕ) (c : Connection) (p q : Option Upstream) (begin there come : Bool) → session_in q n ≡ session_in p n → Waits n c p begin there come
    → Waits n c q begin there come
re_session n c p q begin there come s f = record {
  asked = λ e. f.asked (ap is_asked (sym s) ∙ e);
  ended = λ e. f.ended (ap is_ended (sym s) ∙ e);
  begins = λ x y e. f.begins x y (ap is_live (sym s) ∙ e);
  opens = f.opens;
}

pub heard_waits : (n : ℕ) (w v : State) (m : Meaning) (o p : Option Upstream) (there : Bool) (xs es : List PathEvent)
    → (there ≡ true → is_late w.conn.phase ≡ true) → Tells n o p m → (begins_at v n ≡ true → begins_at w n ≡ true)
    → (is_closing v.conn ≡ false → is_closing w.conn ≡ false) → (is_late w.conn.phase ≡ true → is_open v.conn n ≡ true → is_open w.conn n ≡ true)
    → (begins_at v n ≡ true → (is_closing w.conn || is_open w.conn n) ≡ true → (is_closing v.conn || is_open v.conn n) ≡ true)
    → (have_come xs ≡ true → TransferHeard n m) → (EndHeard n m → is_open v.conn n ≡ false)
    → Waits n w.conn o (begins_at w n) there (have_come es) → Waits n v.conn p (begins_at v n) there (have_come (xs ++ es))
heard_waits n w v m o p there xs es late k begin closing still opens came shuts f =
    subst (λ (b : Bool). Waits n v.conn p (begins_at v n) there b) (sym (list_any-append arrives xs es)) (by (have_come xs) refl)
  where
    now : begins_at v n ≡ true → (is_closing v.conn || is_open v.conn n) ≡ true
    now b = opens b (f.opens (begin b))

    open_now : (a b : Bool) → a ≡ false → (a || b) ≡ true → b ≡ true
    open_now true b e g = absurd cc
    open_now false b e g = g

    by : (b : Bool) → have_come xs ≡ b → Waits n v.conn p (begins_at v n) there (b || have_come es)
    by true e =
        let live : is_live (session_in p n) ≡ true = stays_live n o p m k (came e) in
        record {
          asked = λ x. absurd (live_asked (session_in p n) live x);
          ended = λ x t. absurd (live_ended (session_in p n) live x);
          begins = λ c b l. absurd (clash _ live l);
          opens = now;
        }
    by false e = record {
      asked = λ x. f.asked (k.asked x);
      ended = λ x t. at (k.ended x) t;
      begins = λ c b l. waits c b l (is_live (session_in o n)) refl;
      opens = now;
    }
      where
        at : (is_ended (session_in o n) ≡ true) ⊎ EndHeard n m → there ≡ true → is_open v.conn n ≡ false
        at (inl x) t = stays_shut (is_open v.conn n) refl (still (late t)) (f.ended x t)
        at (inr x) t = shuts x

        ends : is_open v.conn n ≡ true → (is_ended (session_in o n) ≡ true) ⊎ EndHeard n m → is_live (session_in o n) ≡ true → ⊥
        ends y (inl x) l = live_ended (session_in o n) l x
        ends y (inr x) l = clash _ y (shuts x)

        waits : is_closing v.conn ≡ false → begins_at v n ≡ true → is_live (session_in p n) ≡ false → (b : Bool) → is_live (session_in o n) ≡ b → have_come es ≡ false
        waits c b l false g = f.begins (closing c) (begin b) g
        waits c b l true g = absurd (ends (open_now _ _ c (now b)) (k.ended (k.left l g)) g)

-- ---- events without a transfer

pub come_if : (b : Bool) (xs ys : List PathEvent) → have_come xs ≡ false → have_come (if b then xs else ys) ≡ true → have_come ys ≡ true
come_if true xs ys none e = absurd (clash _ e none)
come_if false xs ys none e = e

pub come_then : (b : Bool) (xs ys : List PathEvent) → have_come ys ≡ false → have_come (if b then xs else ys) ≡ true → b ≡ true
come_then true xs ys none e = refl
come_then false xs ys none e = absurd (clash _ e none)

pub none_either : (b : Bool) (xs ys : List PathEvent) → have_come xs ≡ false → have_come ys ≡ false → have_come (if b then xs else ys) ≡ false
none_either true xs ys e f = e
none_either false xs ys e f = f

pub closed_none : (b : Bool) → have_come (closed_if b) ≡ false
closed_none true = refl
closed_none false = refl

ending_none : (b : Bool) → have_come (closed_if b ++ event.SessionLost ∷ []) ≡ false
ending_none true = refl
ending_none false = refl

pub heard_come : (limit n : ℕ) (q : Performative) (payload : List ℕ) (s : PathState) → have_come (heard_events limit n q payload s) ≡ true → (q.0 == 20) ≡ true
heard_come limit n q payload s e =
    come_then (q.0 == 20) _ _
    (none_either (q.0 == 21) _ _ (none_either (is_outcome q.1) (event.DispositionCame _ _ _ _ ∷ []) [] refl refl)
    (none_either (q.0 == 22) (event.DetachCame _ _ ∷ []) _ refl (none_either (q.0 == 23) (event.SessionLost ∷ []) [] refl refl)))
    (come_if (q.0 == 19 && not (is_of_session q.1)) (event.FlowCame _ _ _ _ _ ∷ []) _ refl
    (come_if (q.0 == 18) _ _ (attaches (name_in (text_of (field q.1 0))))
    (come_if (q.0 == 17) (event.Began _ ∷ []) _ refl e)))
  where
    attaches : (o : Option ℕ) → have_come (attach_events o q.1) ≡ false
    attaches None = refl
    attaches (Some name) = refl

pub session_come : (n k : ℕ) (c : Connection) (o : Option Scope) (q : Performative) (payload : List ℕ) (s : PathState)
    → have_come (session_events c o n k q payload s) ≡ true → (k ≡ n) × ((q.0 == 20) ≡ true)
session_come n k c (Some scope.Connection) q payload s e = absurd (clash _ e refl)
session_come n k c (Some scope.Channel) q payload s e = absurd (clash _ e (none_either (k == n) (ending c k) [] (ending_none (is_open c k)) refl))
session_come n k c None q payload s e = by (k == n) refl e
  where
    closes : (o : Option ℕ) → have_come (closing o c k) ≡ false
    closes None = refl
    closes (Some code) = closed_none (is_open c k)

    heard : have_come ((if q.0 == 17 then [] else closing (closing_code q payload s) c k) ++ heard_events c.limits.frame_max k q payload s) ≡ true
        → (q.0 == 20) ≡ true
    heard f =
        heard_come c.limits.frame_max k q payload s
        (ap (λ (b : Bool). b || have_come (heard_events c.limits.frame_max k q payload s)) (sym (none_either (q.0 == 17) [] (closing (closing_code q payload s) c k) refl (closes (closing_code q payload s))))
        ∙ sym (list_any-append arrives (if q.0 == 17 then [] else closing (closing_code q payload s) c k) (heard_events c.limits.frame_max k q payload s)) ∙ f)

    by : (b : Bool) → (k == n) ≡ b
        → have_come (if b then (if q.0 == 17 then [] else closing (closing_code q payload s) c k) ++ heard_events c.limits.frame_max k q payload s else []) ≡ true
        → (k ≡ n) × ((q.0 == 20) ≡ true)
    by true g f = ((let same : k ≡ n = grind (arith, nat_tests, g) in same), heard f)
    by false g f = absurd cc

pub meaning_come : (n : ℕ) (m : Meaning) (x : Peers) → have_come (meaning_events x n m) ≡ true → TransferHeard n m
meaning_come n (ten.OfSession k q payload) x e =
    let both = session_come n k x.client (scope_in x k q payload) q payload (path_at x.paths k) e in
    record { parts = q; payload = payload; is = ap (λ (i : ℕ). ten.OfSession i q payload) both.0; code = both.1 }
meaning_come n (ten.Closed t) x e = absurd (clash _ e refl)
meaning_come n ten.Refused x e = absurd (clash _ e refl)
meaning_come n (ten.Violation why) x e = absurd (clash _ e refl)
meaning_come n y x e = absurd cc

abbrev pub NoneComes : PathEvent → Type 0
NoneComes x = arrives x ≡ false

pub quiet_none : OfQuiet (λ (b : List PathEvent). NoneComes)
quiet_none b (event.TransferCame peer part payload image again) e = absurd cc
quiet_none b x e = refl

pub request_none : (x : PathEvent) → is_request x ≡ true → NoneComes x
request_none (event.TransferCame peer part payload image again) e = absurd cc
request_none x e = refl

pub none_in : (es xs : List PathEvent) → AllOn (λ (b : List PathEvent). NoneComes) es xs → have_come xs ≡ false
none_in es xs a = none_any arrives xs (flat NoneComes es xs a)

pub want_none : (rs : List Route) (limit n : ℕ) (x : Want91) → have_come (want_events rs limit n x) ≡ false
want_none rs limit n x =
    none_in [] (want_events rs limit n x) (want_on (λ (b : List PathEvent). NoneComes) n [] quiet_none rs limit x (λ m e. named_all NoneComes [] request_none m) (λ address payload back. refl))

pub told_none : (u : ChannelUnit) → NoneComes (told_event u)
told_none (to_client.Ok x) = refl
told_none x = refl

pub reply_none : (n : ℕ) (u : Reply) → have_come (reply_events n u) ≡ false
reply_none n u = none_in [] (reply_events n u) (reply_on (λ (b : List PathEvent). NoneComes) n [] quiet_none u told_none)

pub wrote_none : (n : ℕ) (o : Option Reply) → have_come (wrote_events n o) ≡ false
wrote_none n o = none_in [] (wrote_events n o) (whole_on (λ (b : List PathEvent). NoneComes) n [] quiet_none o (λ tag. refl))

pub up_none : (later : Bool) (n : ℕ) (u : UpUnit) → have_come (up_events later n u) ≡ false
up_none later n u = none_in [] (up_events later n u) (up_on (λ (b : List PathEvent). NoneComes) n [] quiet_none later u (λ k t e. refl))
