-- What a unit of the client makes due, by the phase of its connection.
use Rattle.std.proofs.Common.{Bool, List, None, Option, Some, [], ap, append-nil}
use Rattle.std.proofs.Common.{append_assoc, false, if◌then◌else◌, not, refl, subst, sym, true, ◌&&◌, ◌++◌, ◌||◌, ◌∙◌, ◌∷◌, ◌≡◌}
use Rattle.machine_091.specs.Calls.{closing_phase}
use Rattle.machine_091.specs.State.{is_closing_phase, is_running}
use Rattle.machine_091.specs.Transitions.{stream_after}
use Rattle.machine_091.specs.Transitions as machine
use Rattle.machine_091.specs.declared.state.Connection.{Connection}
use Rattle.machine_091.specs.declared.state.Phase91.{Phase91}
use Rattle.machine_091.specs.declared.state.Phase91.TheVariants as phase
use Rattle.machine_091.specs.declared.state.Stream91.{Stream91}
use Rattle.machine_091.specs.declared.state.Stream91.TheVariants as stream
use Rattle.machine_091.specs.declared.unit.Refusal.{Refusal}
use Rattle.machine_091.specs.declared.unit.Unit91.{Unit91}
use Rattle.machine_091.specs.declared.unit.Unit91.TheVariants as unit
use Rattle.machine_091.specs.declared.unit.Want91.{Want91}
use Rattle.machine_091.specs.declared.unit.Want91.TheVariants as want
use Rattle.gate_model.specs.Lives.{is_of_channel}
use Rattle.gate_model.specs.declared.reply.Pending.{Pending}
use Rattle.gate_model.specs.declared.reply.Reply.{Reply}
use Rattle.gate_model.specs.declared.reply.Reply.TheVariants as reply
use Rattle.gate_model.specs.Answers.{AreReplies, All, Overtaken, TakenBack}
use Rattle.gate_model.specs.Due.{rows, when}
use Rattle.gate_model.specs.Folds.{replies_to, reply_to}
use Rattle.gate_model.specs.Requests.{client_step}
use Rattle.gate_model.specs.State.{conn_step, is_foreign, none_pending, turns_foreign, with_header, with_want}
use Rattle.gate_model.proofs.Connections.{phase_only, stream_only}
use Rattle.gate_model.proofs.Outcomes.{OnlyChannels, Outcome, Greets, Parts, LogsIn, Tunes, Asks, Passes, Refuses}
use Rattle.session_path.specs.Path.{PathState}
use Rattle.gate_model.proofs.Outcomes.{Declines, Drops, Parting, Calls, Asking, Publishes, Fills, Frees, Closes, Answers, Ignores, outcome}
use Rattle.gate_model.specs.declared.setup.Route.{Route}
use Rattle.gate_model.specs.State.{close_if, has_left}

-- ---- what is due, by the phase of the connection

-- no close-ok and no close is due
pub record Runs_ (d : Pending) (said all : List Reply) : Type 0 where
  pub ok : d.close_ok ≡ false
  pub none : d.close ≡ None
  pub calm : d.no_memory ≡ false
  pub same : said ++ rows d ≡ all

-- a close of the gateway may be due
pub record Shuts (d : Pending) (said all : List Reply) : Type 0 where
  pub ok : d.close_ok ≡ false
  pub calm : d.no_memory ≡ false
  pub same : said ++ rows d ≡ all

pub data IsOver (d : Pending) (said all : List Reply) (gone : Bool) : Type 0 where
  StillCloses : Shuts d said all → IsOver d said all gone
  ClosesNot : d.close ≡ None → d.no_memory ≡ false → AreReplies all (said ++ rows d) gone → IsOver d said all gone

-- what was sent and what is due are all replies; once the connection is closed, but for a close that was taken back
abbrev pub IsSaid : Phase91 → Pending → List Reply → List Reply → Bool → Type 0
IsSaid phase.Header d said all gone = (d ≡ none_pending) × (said ≡ all)
IsSaid phase.Start d said all gone = (d.tune ≡ false) × ((d.open_ok ≡ false) × Runs_ d said all)
IsSaid phase.Tune d said all gone = (d.open_ok ≡ false) × Runs_ d said all
IsSaid phase.Open d said all gone = (d.open_ok ≡ false) × Runs_ d said all
IsSaid phase.Running d said all gone = Runs_ d said all
IsSaid phase.Closing d said all gone = Shuts d said all
IsSaid phase.Closed d said all gone = IsOver d said all gone

pub are_replies : (p : Phase91) (d : Pending) (said all : List Reply) (gone : Bool) → IsSaid p d said all gone → AreReplies all (said ++ rows d) gone
are_replies phase.Header d said all gone s = All (ap (λ (x : Pending). said ++ rows x) s.0 ∙ append-nil said ∙ s.1)
are_replies phase.Start d said all gone s = All s.1.1.same
are_replies phase.Tune d said all gone s = All s.1.same
are_replies phase.Open d said all gone s = All s.1.same
are_replies phase.Running d said all gone s = All s.same
are_replies phase.Closing d said all gone s = All s.same
are_replies phase.Closed d said all gone (StillCloses s) = All s.same
are_replies phase.Closed d said all gone (ClosesNot n m s) = s

pub runs_in : (p : Phase91) (d : Pending) (said all : List Reply) (gone : Bool) → is_closing_phase p ≡ false → IsSaid p d said all gone → Runs_ d said all
runs_in phase.Header d said all gone e s =
    subst (λ (x : Pending). Runs_ x said all) (sym s.0) (record { ok = refl; none = refl; calm = refl; same = append-nil said ∙ s.1 })
runs_in phase.Start d said all gone e s = s.1.1
runs_in phase.Tune d said all gone e s = s.1
runs_in phase.Open d said all gone e s = s.1
runs_in phase.Running d said all gone e s = s
runs_in phase.Closing d said all gone e s = absurd cc
runs_in phase.Closed d said all gone e s = absurd cc

pub over_calm : (d : Pending) (said all : List Reply) (gone : Bool) → IsOver d said all gone → d.no_memory ≡ false
over_calm d said all gone (StillCloses s) = s.calm
over_calm d said all gone (ClosesNot n m s) = m

-- no close for that a pair ran out of memory
pub calm_in : (p : Phase91) (d : Pending) (said all : List Reply) (gone : Bool) → IsSaid p d said all gone → d.no_memory ≡ false
calm_in phase.Header d said all gone s = ap (λ (x : Pending). x.no_memory) s.0
calm_in phase.Start d said all gone s = s.1.1.calm
calm_in phase.Tune d said all gone s = s.1.calm
calm_in phase.Open d said all gone s = s.1.calm
calm_in phase.Running d said all gone s = s.calm
calm_in phase.Closing d said all gone s = s.calm
calm_in phase.Closed d said all gone s = over_calm d said all gone s

pub running_phase : (p : Phase91) → is_running p ≡ true → p ≡ phase.Running
running_phase phase.Running e = refl
running_phase x e = absurd cc

pub shuts_of : (d : Pending) (said all : List Reply) → Runs_ d said all → Shuts d said all
shuts_of d said all s = record { ok = s.ok; calm = s.calm; same = s.same }

-- ---- a unit makes its replies due

-- one reply more behind the others
pub one_due : (said all old new : List Reply) (r : Reply) → new ≡ old ++ r ∷ [] → said ++ old ≡ all → said ++ new ≡ all ++ r ∷ []
one_due said all old new r e same = ap (λ (x : List Reply). said ++ x) e ∙ sym (append_assoc said old (r ∷ [])) ∙ ap (λ (x : List Reply). x ++ r ∷ []) same

pub tune_due : (d : Pending) → d.tune ≡ false → d.open_ok ≡ false → d.close_ok ≡ false → d.close ≡ None → d.no_memory ≡ false
    → rows (record d { tune = true }) ≡ rows d ++ reply.Tune ∷ []
tune_due d t o ok none calm = rw (t, o, ok, none, calm) (simp append_assoc)

pub open_ok_due : (d : Pending) → d.open_ok ≡ false → d.close_ok ≡ false → d.close ≡ None → d.no_memory ≡ false
    → rows (record d { open_ok = true }) ≡ rows d ++ reply.OpenOk ∷ []
open_ok_due d o ok none calm = rw (o, ok, none, calm) (simp append_assoc)

pub close_due : (d : Pending) (r : Refusal) → d.close ≡ None → d.no_memory ≡ false → rows (record d { close = Some r }) ≡ rows d ++ reply.Close r ∷ []
close_due d r none calm = rw (none, calm) (simp (append_assoc, append-nil))

pub close_ok_due : (d : Pending) → d.close_ok ≡ false → d.close ≡ None → d.no_memory ≡ false
    → rows (record d { close_ok = true; close = None }) ≡ rows d ++ reply.CloseOk ∷ []
close_ok_due d ok none calm = rw (ok, none, calm) (simp append_assoc)

pub after_nothing : (p : Phase91) (d : Pending) (said all : List Reply) (gone : Bool) → IsSaid p d said all gone → IsSaid p d said (all ++ []) gone
after_nothing p d said all gone s = subst (λ (x : List Reply). IsSaid p d said x gone) (sym (append-nil all)) s

-- a close that isn't due any more, or none
pub no_close_due : (d : Pending) (said all : List Reply) (o : Option Refusal) → d.close ≡ o → Shuts d said all
    → IsOver (record d { close = None }) said all true
no_close_due d said all None e s = ClosesNot refl s.calm (All (ap (λ (o : Option Refusal). said ++ rows (record d { close = o })) (sym e) ∙ s.same))
no_close_due d said all (Some r) e s =
    let old : Pending = record d { close = None } in
    let rest : rows d ≡ rows old ++ reply.Close r ∷ [] = rw e (close_due (record d { close = None }) r refl s.calm) in
    ClosesNot refl s.calm (TakenBack r refl (sym s.same ∙ one_due said (said ++ rows old) (rows old) (rows d) (reply.Close r) rest refl))

-- the client closed: a close of which no byte was sent is due no more
pub after_close : (d : Pending) (said all : List Reply) (gone : Bool) (o : Option Refusal) → d.close ≡ o → Shuts d said all
    → AreReplies (all ++ reply.CloseOk ∷ []) (said ++ rows (record d { close_ok = true; close = None })) gone
after_close d said all gone None e s =
    All (one_due said all (rows d) (rows (record d { close_ok = true; close = None })) reply.CloseOk (close_ok_due d s.ok e s.calm) s.same)
after_close d said all gone (Some r) e s =
    let old : Pending = record d { close = None } in
    let rest : rows d ≡ rows old ++ reply.Close r ∷ [] = rw e (close_due (record d { close = None }) r refl s.calm) in
    let all_are : said ++ rows d ≡ (said ++ rows old) ++ reply.Close r ∷ [] = one_due said (said ++ rows old) (rows old) (rows d) (reply.Close r) rest refl in
    Overtaken (said ++ rows old) r
    (one_due said (said ++ rows old) (rows old) (rows (record d { close_ok = true; close = None })) reply.CloseOk (close_ok_due old s.ok refl s.calm) refl)
    (ap (λ (x : List Reply). x ++ reply.CloseOk ∷ []) (sym s.same ∙ all_are) ∙ append_assoc (said ++ rows old) (reply.Close r ∷ []) (reply.CloseOk ∷ []))

-- the same of a refused unit
pub after_refusal : (d : Pending) (said all : List Reply) (r : Refusal) → Runs_ d said all → Shuts (record d { close = Some r }) said (all ++ reply.Close r ∷ [])
after_refusal d said all r s = record {
  ok = s.ok;
  calm = s.calm;
  same = one_due said all (rows d) (rows (record d { close = Some r })) (reply.Close r) (close_due d r s.none s.calm) s.same;
}

-- what a refusal of the connection makes due, and one of a channel
pub refused_connection : (d : Pending) (said all : List Reply) (gone : Bool) (r : Refusal) → is_of_channel r ≡ false → Runs_ d said all
    → IsSaid phase.Closing (with_want (want.Refuse r) d) said (all ++ reply_to (want.Refuse r)) gone
refused_connection d said all gone r g s =
    subst (λ (b : Bool). IsSaid phase.Closing (if b then d else record d { close = Some r }) said (all ++ (if b then [] else reply.Close r ∷ [])) gone)
    (sym g) (after_refusal d said all r s)

pub refused_channel : (p : Phase91) (d : Pending) (said all : List Reply) (gone : Bool) (r : Refusal) → is_of_channel r ≡ true → IsSaid p d said all gone
    → IsSaid p (with_want (want.Refuse r) d) said (all ++ reply_to (want.Refuse r)) gone
refused_channel p d said all gone r g s =
    subst (λ (b : Bool). IsSaid p (if b then d else record d { close = Some r }) said (all ++ (if b then [] else reply.Close r ∷ [])) gone)
    (sym g) (after_nothing p d said all gone s)

-- no header of the gateway becomes due
pub no_header : (d : Pending) → with_header false d ≡ d
no_header d = ap (λ (b : Bool). record d { protocol = b }) (or_false d.protocol)
  where
    or_false : (b : Bool) → (b || false) ≡ b
    or_false true = refl
    or_false false = refl

abbrev pub After : Bool → Phase91 → Want91 → Pending → List Reply → List Reply → Bool → Type 0
After b p w d said all gone = IsSaid p (with_header b (with_want w d)) said (all ++ (when b reply.Protocol ++ reply_to w)) gone

pub plainly : (b : Bool) (p : Phase91) (w : Want91) (d : Pending) (said all : List Reply) (gone : Bool) → b ≡ false → IsSaid p (with_want w d) said (all ++ reply_to w) gone
    → After b p w d said all gone
plainly b p w d said all gone e s =
    subst (λ (x : Bool). After x p w d said all gone) (sym e)
    (subst (λ (x : Pending). IsSaid p x said (all ++ reply_to w) gone) (sym (no_header (with_want w d))) s)

pub never : (s : Stream91) → (is_foreign s && not (is_foreign s)) ≡ false
never stream.Header = refl
never x = refl

pub never_after : (u : Unit91) (s : Stream91) → (is_foreign (stream_after u s) && not (is_foreign s)) ≡ false
never_after unit.Protocol stream.Header = refl
never_after unit.Protocol stream.Frames = refl
never_after unit.Protocol stream.Foreign = refl
never_after unit.Protocol stream.Bad = refl
never_after unit.Protocol stream.Answered = refl
never_after unit.Protocol stream.Ended = refl
never_after (unit.Frame f) s = never s
never_after (unit.Bad code) s = refl

-- the first bytes were no protocol header
pub after_foreign : (b gone : Bool) (said all : List Reply) → said ≡ all → AreReplies (all ++ (when b reply.Protocol ++ [])) (said ++ rows (with_header b none_pending)) gone
after_foreign true gone said all e = All (ap (λ (x : List Reply). x ++ reply.Protocol ∷ []) e)
after_foreign false gone said all e = All (ap (λ (x : List Reply). x ++ []) e)

pub said_in : {p q : Phase91} (d : Pending) (said all : List Reply) (gone : Bool) → p ≡ q → IsSaid p d said all gone → IsSaid q d said all gone
said_in {p} {q} d said all gone e s = subst (λ (x : Phase91). IsSaid x d said all gone) e s

-- a unit was taken up
pub said_next : (rs : List Route) (ps : List (Option PathState)) (c : Connection) (u : Unit91) (d : Pending) (said all : List Reply) (gone : Bool) → IsSaid c.phase d said all gone
    → IsSaid (conn_step rs ps c u).phase (with_header (turns_foreign rs ps c u) (with_want (client_step rs ps c u).1 d)) said (all ++ replies_to rs ps c u) gone
said_next rs ps c u d said all gone s = by (client_step rs ps c u) (outcome rs ps c u)
  where
    same_stream : {x : Connection} → OnlyChannels c x → (is_foreign x.stream && not (is_foreign c.stream)) ≡ false
    same_stream o = ap (λ (t : Stream91). is_foreign t && not (is_foreign c.stream)) (stream_only o) ∙ never c.stream

    by : (x : machine.Step) → Outcome c u x
        → After (is_foreign x.0.stream && not (is_foreign c.stream)) (x.0).phase x.1 d said all gone
    by _ (Greets e) =
        let t = said_in {q = phase.Header} d said all gone e s in
        plainly _ phase.Start want.Start d said all gone refl
        (subst (λ (x : Pending). IsSaid phase.Start (record x { start = true }) said (all ++ reply.Start ∷ []) gone) (sym t.0)
        (refl, (refl, record { ok = refl; none = refl; calm = refl; same = ap (λ (rs : List Reply). rs ++ reply.Start ∷ []) t.1 })))
    by _ (Parts e) =
        let t = said_in {q = phase.Header} d said all gone e s in
        let b : Bool = not (is_foreign c.stream) in
        subst (λ (x : Pending). IsOver (with_header b x) said (all ++ (when b reply.Protocol ++ [])) gone) (sym t.0)
        (ClosesNot refl refl (after_foreign b gone said all t.1))
    by _ (LogsIn m r e) =
        let t = said_in {q = phase.Start} d said all gone e s in
        plainly _ phase.Tune (want.Login m r) d said all gone (never c.stream) (
          t.1.0,
          record {
            ok = t.1.1.ok;
            none = t.1.1.none;
            calm = t.1.1.calm;
            same = one_due said all (rows d) (rows (record d { tune = true })) reply.Tune (tune_due d t.0 t.1.0 t.1.1.ok t.1.1.none t.1.1.calm) t.1.1.same;
          },
        )
    by _ (Tunes l e) =
        plainly _ phase.Open want.Tuned d said all gone (never c.stream) (after_nothing phase.Open d said all gone (said_in {q = phase.Tune} d said all gone e s))
    by _ (Asks e) = plainly _ c.phase want.OpenUp d said all gone (never c.stream) (after_nothing c.phase d said all gone s)
    by _ Passes = plainly _ c.phase want.Nothing d said all gone (never c.stream) (after_nothing c.phase d said all gone s)
    by _ (Refuses r a f e g) =
        plainly _ phase.Closing (want.Refuse r) d said all gone (never_after u c.stream)
        (refused_connection d said all gone r g (runs_in c.phase d said all gone e s))
    by _ (Declines r x o e g) =
        plainly _ (closing_phase x.phase) (want.Refuse r) d said all gone (same_stream o)
        (said_in {p = phase.Closing} _ said _ gone (sym (ap closing_phase (phase_only o ∙ running_phase c.phase e)))
        (refused_connection d said all gone r g (said_in {q = phase.Running} d said all gone (running_phase c.phase e) s)))
    by _ (Drops r x o e g) =
        plainly _ x.phase (want.Refuse r) d said all gone (same_stream o)
        (said_in _ said _ gone (sym (phase_only o)) (refused_channel c.phase d said all gone r g s))
    by _ (Parting e) =
        let t = shuts_of d said all (said_in {q = phase.Running} d said all gone (running_phase c.phase e) s) in
        plainly _ phase.Closed want.Close d said all gone (never c.stream) (ClosesNot refl t.calm (after_close d said all gone d.close refl t))
    by _ (Calls n x m e) = plainly _ c.phase (want.Method n m) d said all gone (never c.stream) (after_nothing c.phase d said all gone s)
    by _ (Asking n m e) = plainly _ c.phase (want.Method n m) d said all gone (never c.stream) (after_nothing c.phase d said all gone s)
    by _ (Publishes n m x e) = plainly _ c.phase (want.Publish n m x) d said all gone (never c.stream) (after_nothing c.phase d said all gone s)
    by _ (Fills n i e) = plainly _ c.phase want.Nothing d said all gone (never c.stream) (after_nothing c.phase d said all gone s)
    by _ (Frees n e) = plainly _ c.phase (want.ChannelCloseOk n) d said all gone (never c.stream) (after_nothing c.phase d said all gone s)
    by _ (Closes e) =
        let t = said_in {q = phase.Closing} d said all gone e s in
        plainly _ phase.Closed want.Close d said all gone (never c.stream) (ClosesNot refl t.calm (after_close d said all gone d.close refl t))
    by _ (Answers e) = plainly _ phase.Closed want.CloseOk d said all gone refl (after_nothing phase.Closed d said all gone (answered c.phase e s))
      where
        answered : (p : Phase91) → is_closing_phase p ≡ true → IsSaid p d said all gone → IsSaid phase.Closed d said all gone
        answered phase.Closing k t = StillCloses t
        answered phase.Closed k t = t
        answered x k t = absurd cc
    by _ (Ignores e) = plainly _ c.phase want.Nothing d said all gone (never_after u c.stream) (after_nothing c.phase d said all gone s)

-- ---- closing events that no unit told

-- the handshake limit
pub said_late : (p : Phase91) (d : Pending) (said all : List Reply) (gone : Bool) → IsSaid p d said all gone → IsSaid (closing_phase p) d said all gone
said_late phase.Header d said all gone s = subst (λ (x : Pending). Shuts x said all) (sym s.0) (record { ok = refl; calm = refl; same = append-nil said ∙ s.1 })
said_late phase.Start d said all gone s = shuts_of d said all s.1.1
said_late phase.Tune d said all gone s = shuts_of d said all s.1
said_late phase.Open d said all gone s = shuts_of d said all s.1
said_late phase.Running d said all gone s = shuts_of d said all s
said_late phase.Closing d said all gone s = s
said_late phase.Closed d said all gone s = s

pub said_if : (b : Bool) (c : Connection) (d : Pending) (said all : List Reply) → IsSaid c.phase d said all (has_left c.stream)
    → IsSaid (close_if b c).phase d said all (has_left (close_if b c).stream)
said_if true c d said all s = said_late c.phase d said all (has_left c.stream) s
said_if false c d said all s = s

-- the client's end was taken up
pub left_replies : (all said : List Reply) (gone : Bool) → AreReplies all said gone → AreReplies all said true
left_replies all said gone (All e) = All e
left_replies all said gone (Overtaken front r e f) = Overtaken front r e f
left_replies all said gone (TakenBack r l e) = TakenBack r refl e

pub said_left : (p : Phase91) (d : Pending) (said all : List Reply) (gone : Bool) → IsSaid p d said all gone → IsOver (record d { close = None }) said all true
said_left p d said all gone s = by p s
  where
    runs : Runs_ d said all → IsOver (record d { close = None }) said all true
    runs s = no_close_due d said all d.close refl (record { ok = s.ok; calm = s.calm; same = s.same })

    over : IsOver d said all gone → IsOver (record d { close = None }) said all true
    over (StillCloses s) = no_close_due d said all d.close refl s
    over (ClosesNot n m s) = ClosesNot refl m (left_replies all _ gone (subst (λ (o : Option Refusal). AreReplies all (said ++ rows (record d { close = o })) gone) n s))

    by : (p : Phase91) → IsSaid p d said all gone → IsOver (record d { close = None }) said all true
    by phase.Header s = no_close_due d said all d.close refl (subst (λ (x : Pending). Shuts x said all) (sym s.0) (record { ok = refl; calm = refl; same = append-nil said ∙ s.1 }))
    by phase.Start s = runs s.1.1
    by phase.Tune s = runs s.1
    by phase.Open s = runs s.1
    by phase.Running s = runs s
    by phase.Closing s = no_close_due d said all d.close refl s
    by phase.Closed s = over s

-- the upstream end fails
pub said_fail : (p : Phase91) (d : Pending) (said all : List Reply) (gone : Bool) (r : Refusal) → is_closing_phase p ≡ false → IsSaid p d said all gone
    → IsSaid (closing_phase p) (record d { close = Some r }) said (all ++ reply.Close r ∷ []) gone
said_fail p d said all gone r k s = by p k (after_refusal d said all r (runs_in p d said all gone k s))
  where
    by : (p : Phase91) → is_closing_phase p ≡ false → Shuts (record d { close = Some r }) said (all ++ reply.Close r ∷ [])
        → IsSaid (closing_phase p) (record d { close = Some r }) said (all ++ reply.Close r ∷ []) gone
    by phase.Closing k s = absurd cc
    by phase.Closed k s = absurd cc
    by x k s = s

-- the container opened
pub said_opened : (d : Pending) (said all : List Reply) → d.open_ok ≡ false → Runs_ d said all → Runs_ (record d { open_ok = true }) said (all ++ reply.OpenOk ∷ [])
said_opened d said all o s = record {
  ok = s.ok;
  none = s.none;
  calm = s.calm;
  same = one_due said all (rows d) (rows (record d { open_ok = true })) reply.OpenOk (open_ok_due d o s.ok s.none s.calm) s.same;
}
