-- Of a channel that is open or free nothing that ends its life is due or awaited; so it is opened where no end of its session waits.
use Rattle.std.proofs.Common.{◌≡◌, ℕ, zero, suc, ◌+◌, ◌==◌, ◌<◌, not, ◌&&◌, ◌||◌, Bool, true, false, if◌then◌else◌}
use Rattle.std.proofs.Common.{List, [], ◌∷◌, length, replicate, Option, None, Some, is_some, refl, sym, ap, ◌∙◌, subst, arith}
use Rattle.std.proofs.lemmas.Bool.Decides.{nat_tests}
use Rattle.std.specs.List.{list_any}
use Rattle.std.specs.Prelude.{slice_get}
use Rattle.close_translate.specs.Conditions.{condition_of}
use Rattle.close_translate.specs.declared.codes.TheConstants.{INTERNAL_ERROR, PRECONDITION_FAILED}
use Rattle.close_translate.specs.declared.conditions.Scope.{Scope}
use Rattle.close_translate.specs.declared.conditions.Scope.TheVariants as scope
use Rattle.gate_outside.specs.declared.ports.End.TheVariants.{Client, Up}
use Rattle.gate_outside.specs.declared.ports.Linked.TheVariants as link
use Rattle.gate_relay.specs.declared.loss.Loss.TheVariants as loss
use Rattle.machine_091.specs.Calls.{freed_channel, told_channel}
use Rattle.machine_091.specs.State.{channel_at, is_closing, is_closing_phase, is_open, is_open_channel, is_opening, is_running, no_channels, or_free, with_channel}
use Rattle.machine_091.specs.Transitions.{closed_by}
use Rattle.machine_091.specs.declared.state.Channel91.{Channel91}
use Rattle.machine_091.specs.declared.state.Channel91.TheVariants as channel
use Rattle.machine_091.specs.declared.state.Connection.{Connection}
use Rattle.machine_091.specs.declared.state.Phase91.{Phase91}
use Rattle.machine_091.specs.declared.state.Phase91.TheVariants as phase
use Rattle.machine_091.specs.declared.unit.Unit91.{Unit91}
use Rattle.machine_091.specs.declared.unit.Want91.{Want91}
use Rattle.machine_091.specs.declared.unit.Want91.TheVariants as want
use Rattle.machine_10.specs.Parts.{Parts}
use Rattle.machine_10.specs.Transitions as ten
use Rattle.machine_10.specs.Transitions.{Meaning}
use Rattle.methods_091.specs.declared.method.Method91.{Method91}
use Rattle.methods_091.specs.declared.method.Method91.TheVariants as method
use Rattle.performatives_10.specs.declared.condition.Condition.{Condition}
use Rattle.property_map.specs.declared.told.Told.{Told}
use Rattle.session_path.specs.Path.{PathState}
use Rattle.gate_model.specs.declared.life.Life.{Life}
use Rattle.gate_model.specs.declared.outgoing.Outgoing.TheVariants.{ToClient, ToUp}
use Rattle.gate_model.specs.declared.outgoing.UpUnit.{UpUnit}
use Rattle.gate_model.specs.declared.outgoing.UpUnit.TheVariants as up
use Rattle.gate_model.specs.declared.reply.Reason.{Reason}
use Rattle.gate_model.specs.declared.reply.Reply.{Reply}
use Rattle.gate_model.specs.declared.reply.Reply.TheVariants as reply
use Rattle.gate_model.specs.declared.setup.Route.{Route}
use Rattle.gate_model.specs.Folds.{connection, paths_in, peers, ran_out_in, routes_in}
use Rattle.gate_model.specs.Lives.{begun_life, failed_life, is_clear, is_ended, is_of_channel, life_at, lives_by, method_life, no_life, no_lives}
use Rattle.gate_model.specs.Lives.{reason_of, refusal_on, session_in, with_life}
use Rattle.gate_model.specs.Once.{is_channel_open, is_method_on}
use Rattle.gate_model.specs.Paths.{closed_path, path_at}
use Rattle.gate_model.specs.Picks.{ArePicks}
use Rattle.gate_model.specs.Publishing.{path_life}
use Rattle.gate_model.specs.Queue.{channel_of, holds, is_empty, unit_at, waits_for_all}
use Rattle.gate_model.specs.Requests.{client_told}
use Rattle.gate_model.specs.State.{Began, Came, Fed, Gave, Heard, Joined, Lost, Moment, Queued, Silent, State, Step, TakenUp, Whole}
use Rattle.gate_model.specs.State.{before, begun_session, came, carried, close_if, closed_for, closing_code, closing_error, conn_given, dequeued, ending_error}
use Rattle.gate_model.specs.State.{fail, fail_life, failed, is_limit_reached, left, life_failed, life_waits, link_scope, next_unit, place, runs, scoped}
use Rattle.gate_model.specs.State.{session_lost, sessions_lost, waits, want_in, windowed, with_meaning, with_session, without_begin, without_life}
use Rattle.gate_model.specs.Upstream.{heard_up, meaning_by}
use Rattle.gate_model.proofs.Basics.{and_left, and_right, not_true, right_false}
use Rattle.gate_model.proofs.Known.{Known, conn_is, known, memory_is, paths_are, routes_are}
use Rattle.gate_model.proofs.Once.{IsOwed, owed_picked}
use Rattle.gate_model.proofs.Orders.{Stands, next_stands}
use Rattle.gate_model.proofs.Overs.{inside}
use Rattle.gate_model.proofs.Places.{Beyond, Elsewhere, Here, SetAt, isnt, itself, new_at, set_at}
use Rattle.gate_model.proofs.Reasoning.{IsDueClose, due_picked}
use Rattle.gate_model.proofs.Refusing.{StandsOpen, client_stands}
use Rattle.gate_model.proofs.Said.{picked}
use Rattle.gate_model.proofs.Turning.{Finds, client_turns, closing_turns, method_turns, refused_turns, turned_by, with_turns}

-- ---- the life of a channel by its state

pub record IsClear (l : Life) : Type 0 where
  told : l.told ≡ false
  pub ok : l.close_ok ≡ false
  pub close : l.close ≡ None

-- the gateway's channel.close didn't go, and where the client's is answered it goes no more
record Closes (l : Life) : Type 0 where
  told : l.told ≡ false
  once : l.close_ok ≡ true → l.close ≡ None

-- one that is open has a life in progress
abbrev Fits : Bool → Channel91 → Life → Type 0
Fits there channel.Free l = IsClear l
Fits there channel.Open l = IsClear l × (there ≡ true)
Fits there channel.Closing l = Closes l
Fits there channel.Told l = Unit {0}

-- nothing is due of no life
none_fits : (b : Bool) (s : Channel91) (l : Life) → Fits b s l → Fits b s no_life
none_fits b channel.Free l f = record { told = refl; ok = refl; close = refl }
none_fits b channel.Open l f = (record { told = refl; ok = refl; close = refl }, f.1)
none_fits b channel.Closing l f = record { told = refl; once = λ e. refl }
none_fits b channel.Told l f = tt

later_fits : (a b : Bool) (s : Channel91) (l : Life) → (a ≡ true → b ≡ true) → Fits a s l → Fits b s l
later_fits a b channel.Free l on f = f
later_fits a b channel.Open l on f = (f.0, on f.1)
later_fits a b channel.Closing l on f = f
later_fits a b channel.Told l on f = tt

-- what leaves what ends it
same_clear : (l m : Life) → m.told ≡ l.told → m.close_ok ≡ l.close_ok → m.close ≡ l.close → IsClear l → IsClear m
same_clear l m t o c f = record { told = t ∙ f.told; ok = o ∙ f.ok; close = c ∙ f.close }

same_fits : (b : Bool) (s : Channel91) (l m : Life) → m.told ≡ l.told → m.close_ok ≡ l.close_ok → m.close ≡ l.close → Fits b s l → Fits b s m
same_fits b channel.Free l m t o c f = same_clear l m t o c f
same_fits b channel.Open l m t o c f = (same_clear l m t o c f.0, f.1)
same_fits b channel.Closing l m t o c f = record { told = t ∙ f.told; once = λ e. c ∙ f.once (sym o ∙ e) }
same_fits b channel.Told l m t o c f = tt

-- a life is set
set_fits : (b : Bool) (s : Channel91) (n k : ℕ) (ls : List Life) (m : Life) → (k ≡ n → Fits b s m) → ((k == n) ≡ false → Fits b s (life_at ls n)) → Fits b s (life_at (with_life k m ls) n)
set_fits b s n k ls m this other = by (set_at ls k n m)
  where
    by : SetAt ls k n m → Fits b s (life_at (with_life k m ls) n)
    by (Here e f) = subst (Fits b s) (sym f) (this e)
    by (Elsewhere d f) = subst (Fits b s) (sym f) (other (isnt k n d))
    by (Beyond e f g) = subst (Fits b s) (sym g) (none_fits b s m (this e))

keeps_fits : (b : Bool) (s : Channel91) (n k : ℕ) (ls : List Life) (m : Life) → m.told ≡ (life_at ls k).told → m.close_ok ≡ (life_at ls k).close_ok → m.close ≡ (life_at ls k).close
    → Fits b s (life_at ls n) → Fits b s (life_at (with_life k m ls) n)
keeps_fits b s n k ls m t o c f =
    set_fits b s n k ls m
    (λ e. same_fits b s (life_at ls n) m (t ∙ ap (λ (i : ℕ). (life_at ls i).told) e) (o ∙ ap (λ (i : ℕ). (life_at ls i).close_ok) e) (c ∙ ap (λ (i : ℕ). (life_at ls i).close) e) f)
    (λ d. f)

pub open_at : (c : Connection) (n : ℕ) → is_open c n ≡ true → channel_at c n ≡ channel.Open
open_at c n e = by (channel_at c n) (and_right (is_running c.phase) _ e)
  where
    by : (s : Channel91) → is_open_channel s ≡ true → s ≡ channel.Open
    by channel.Free f = absurd cc
    by channel.Open f = refl
    by channel.Closing f = absurd cc
    by channel.Told f = absurd cc

-- a life that closes for a fault, whose channel was open
fails : (b : Bool) (c : Connection) (n : ℕ) (m : Life) → m.told ≡ false → m.close_ok ≡ false → is_open c n ≡ true → Fits b (refused_turns (channel_at c n)) m
fails b c n m t o e =
    subst (λ (s : Channel91). Fits b s m) (sym (ap refused_turns (open_at c n e)))
    (record { told = t; once = λ g. absurd (let wrong : true ≡ false = sym g ∙ o in cc) })

-- ---- the client's units

method_fits : (b : Bool) (ms : ℕ) (m : Method91) (s : Channel91) (l : Life) → (is_channel_open m ≡ true → b ≡ true) → Fits b s l → Fits b (method_turns m s) (method_life ms m l)
method_fits b ms method.ChannelOpen s l opens f = (record { told = refl; ok = refl; close = refl }, opens refl)
method_fits b ms (method.ChannelClose code text class id) s l opens f = by s f
  where
    by : (t : Channel91) → Fits b t l → Fits b (closed_by t) (method_life ms (method.ChannelClose code text class id) l)
    by channel.Free g = record { told = g.told; once = λ e. refl }
    by channel.Open g = record { told = g.0.told; once = λ e. refl }
    by channel.Closing g = record { told = g.told; once = λ e. refl }
    by channel.Told g = tt
method_fits b ms m s l opens f = f

-- a life that is set is that of channel n or of another
apart : (k n : ℕ) {A : Type 0} → (k == n) ≡ false → k ≡ n → A
apart k n d e = absurd (let wrong : true ≡ false = sym (ap (λ (j : ℕ). j == n) e ∙ itself n) ∙ d in cc)

here : (k n : ℕ) → (k == n) ≡ true → k ≡ n
here k n e = grind (arith, nat_tests, e)

one_fits : (b a : Bool) (s t : Channel91) (n k : ℕ) (ls : List Life) (m : Life) → (k == n) ≡ a → (k ≡ n → Fits b t m) → Fits b s (life_at ls n)
    → Fits b (if a then t else s) (life_at (with_life k m ls) n)
one_fits b true s t n k ls m e this f = set_fits b t n k ls m this (λ d. absurd (let wrong : true ≡ false = sym e ∙ d in cc))
one_fits b false s t n k ls m e this f = set_fits b s n k ls m (apart k n e) (λ d. f)

-- a refusal of channel n finds it open
want_fits : (b : Bool) (n ms : ℕ) (told : Option Told) (y : Want91) (ls : List Life) (c : Connection) → StandsOpen c y → (is_method_on is_channel_open n y ≡ true → b ≡ true)
    → Fits b (channel_at c n) (life_at ls n) → Fits b (turned_by n y (channel_at c n)) (life_at (lives_by ms told y ls) n)
want_fits b n ms told (want.Method k m) ls c stands opens f =
    one_fits b (k == n) (channel_at c n) (method_turns m (channel_at c n)) n k ls _ refl
    (λ e. subst (λ (j : ℕ). Fits b (method_turns m (channel_at c n)) (method_life ms m (life_at ls j))) (sym e)
    (method_fits b ms m (channel_at c n) (life_at ls n) (λ o. opens (ap (λ (j : ℕ). j == n && is_channel_open m) e ∙ ap (λ (x : Bool). x && is_channel_open m) (itself n) ∙ o)) f)) f
want_fits b n ms told (want.ChannelCloseOk k) ls c stands opens f =
    one_fits b (k == n) (channel_at c n) channel.Free n k ls _ refl (λ e. record { told = refl; ok = refl; close = refl }) f
want_fits b n ms told (want.Refuse r) ls c stands opens f = by (is_of_channel r) refl
  where
    new : Life
    new = failed_life false ms (reason_of told r) (Some (condition_of r.code)) (life_at ls r.channel)

    by : (a : Bool) → is_of_channel r ≡ a → Fits b (if a then (if r.channel == n then refused_turns (channel_at c n) else channel_at c n) else channel_at c n)
        (life_at (if a then with_life r.channel new ls else ls) n)
    by true o =
        one_fits b (r.channel == n) (channel_at c n) (refused_turns (channel_at c n)) n r.channel ls new refl
        (λ e. fails b c n new refl refl (subst (λ (j : ℕ). is_open c j ≡ true) e (stands o))) f
    by false o = f
want_fits b n ms told y ls c stands opens f = f

abbrev FitsIn : Bool → ℕ → State → Type 0
FitsIn b n w = Fits b (channel_at w.conn n) (life_at w.lives n)

came_fits : (b : Bool) (n : ℕ) (w : State) (u : Unit91) → n < length w.conn.channels → (is_method_on is_channel_open n (want_in w.routes w.paths w.conn u) ≡ true → b ≡ true)
    → FitsIn b n w → FitsIn b n (came (dequeued w) u)
came_fits b n w u less opens f =
    subst (λ (s : Channel91). Fits b s (life_at (lives_by w.moment (client_told w.routes w.conn u) (want_in w.routes w.paths w.conn u) w.lives) n))
    (sym ((client_turns n w.routes w.paths w.conn u).is less))
    (want_fits b n w.moment (client_told w.routes w.conn u) (want_in w.routes w.paths w.conn u) w.lives w.conn (client_stands w.routes w.paths w.conn u) opens f)

-- ---- the container's

fail_fits : (b : Bool) (n code : ℕ) (why : Option Condition) (w : State) → FitsIn b n w → FitsIn b n (fail code why w)
fail_fits b n code why w f = by (is_closing w.conn)
  where
    by : (k : Bool) → FitsIn b n (if k then sessions_lost w else failed code why w)
    by true = f
    by false = f

-- it closes channel g, if that is open
fail_one : (b : Bool) (n g code : ℕ) (why : Option Condition) (f : PathState → PathState) (w : State) → n < length w.conn.channels → FitsIn b n w
    → FitsIn b n (fail_life g code why f w)
fail_one b n g code why f w less old = by (is_open w.conn g) refl
  where
    new : Life
    new = failed_life true w.moment (reason_of None (refusal_on g code)) why (life_at w.lives g)

    by : (o : Bool) → is_open w.conn g ≡ o → FitsIn b n (if o then life_failed g (refusal_on g code) why f w else w)
    by true o =
        subst (λ (s : Channel91). Fits b s (life_at (with_life g new w.lives) n)) (sym (closing_turns g n w.conn less))
        (one_fits b (g == n) (channel_at w.conn n) (refused_turns (channel_at w.conn n)) n g w.lives new refl
        (λ e. fails b w.conn n new refl refl (subst (λ (j : ℕ). is_open w.conn j ≡ true) e o)) old)
    by false o = old

session_fits : (b : Bool) (n g : ℕ) (q : Parts) (payload : List ℕ) (w : State) → n < length w.conn.channels → FitsIn b n w → FitsIn b n (with_session g q payload w)
session_fits b n g q payload w less f = by (link_scope q payload (life_at w.lives g).session (path_at w.paths g))
  where
    c : State
    c = carried g q payload w

    kept : FitsIn b n c
    kept = keeps_fits b (channel_at w.conn n) n g w.lives _ refl refl refl f

    closed : (o : Option ℕ) → FitsIn b n (closed_for g o c)
    closed None = kept
    closed (Some code) = fail_one b n g code None closed_path c less kept

    met : (a : Bool) → FitsIn b n (if a then begun_session g c else closed_for g (closing_code q payload (path_at w.paths g)) c)
    met true = keeps_fits b (channel_at w.conn n) n g c.lives (begun_life (life_at c.lives g)) refl refl refl kept
    met false = closed (closing_code q payload (path_at w.paths g))

    by : (o : Option Scope) → FitsIn b n (scoped o g q payload w)
    by None = met (q.0 == 17)
    by (Some scope.Connection) = fail_fits b n INTERNAL_ERROR (Some (closing_error q (path_at w.paths g))) (windowed g q w) kept
    by (Some scope.Channel) =
        fail_one b n g PRECONDITION_FAILED (Some (ending_error q payload (life_at w.lives g).session (path_at w.paths g))) closed_path (session_lost g (windowed g q w)) less kept

meaning_fits : (b : Bool) (n : ℕ) (m : Meaning) (w : State) → n < length w.conn.channels → FitsIn b n w → FitsIn b n (with_meaning m w)
meaning_fits b n ten.Nothing w less f = f
meaning_fits b n ten.Init w less f = f
meaning_fits b n ten.AmqpHeader w less f = f
meaning_fits b n ten.Opened w less f = by (is_opening w.conn)
  where
    by : (o : Bool) → FitsIn b n (if o then runs w else w)
    by true = f
    by false = f
meaning_fits b n (ten.OfSession g q payload) w less f = session_fits b n g q payload w less f
meaning_fits b n (ten.Closed e) w less f = fail_fits b n _ _ w f
meaning_fits b n ten.Refused w less f = fail_fits b n _ _ w f
meaning_fits b n (ten.Violation why) w less f = fail_fits b n _ _ w f

-- ---- units that go

abbrev pub freed_turns : Channel91 → Channel91
freed_turns channel.Free = channel.Free
freed_turns channel.Open = channel.Open
freed_turns channel.Closing = channel.Free
freed_turns channel.Told = channel.Told

abbrev pub told_turns : Channel91 → Channel91
told_turns channel.Free = channel.Free
told_turns channel.Open = channel.Open
told_turns channel.Closing = channel.Told
told_turns channel.Told = channel.Told

-- a channel whose state is set by that
set_turns : (k n : ℕ) (c d : Connection) (turns : Channel91 → Channel91) → n < length c.channels → d ≡ with_channel c k (turns (channel_at c k))
    → channel_at d n ≡ (if k == n then turns (channel_at c n) else channel_at c n)
set_turns k n c d turns less e = ap (λ (x : Connection). channel_at x n) e ∙ with_turns k n c _ less ∙ by (k == n) refl
  where
    by : (b : Bool) → (k == n) ≡ b → (if b then turns (channel_at c k) else channel_at c n) ≡ (if b then turns (channel_at c n) else channel_at c n)
    by true f = let here : k ≡ n = grind (arith, nat_tests, f) in ap (λ (i : ℕ). turns (channel_at c i)) here
    by false f = refl

-- one whose state stays
stay_turns : (k n : ℕ) (c : Connection) (turns : Channel91 → Channel91) → turns (channel_at c k) ≡ channel_at c k → channel_at c n ≡ (if k == n then turns (channel_at c n) else channel_at c n)
stay_turns k n c turns e = by (k == n) refl
  where
    by : (b : Bool) → (k == n) ≡ b → channel_at c n ≡ (if b then turns (channel_at c n) else channel_at c n)
    by true f = let here : k ≡ n = grind (arith, nat_tests, f) in subst (λ (i : ℕ). channel_at c i ≡ turns (channel_at c i)) here (sym e)
    by false f = refl

pub freed_at : (k n : ℕ) (c : Connection) → n < length c.channels → channel_at (freed_channel (channel_at c k) k c) n ≡ (if k == n then freed_turns (channel_at c n) else channel_at c n)
freed_at k n c less = by (channel_at c k) refl
  where
    by : (s : Channel91) → channel_at c k ≡ s → channel_at (freed_channel s k c) n ≡ (if k == n then freed_turns (channel_at c n) else channel_at c n)
    by channel.Free e = stay_turns k n c freed_turns (ap freed_turns e ∙ sym e)
    by channel.Open e = stay_turns k n c freed_turns (ap freed_turns e ∙ sym e)
    by channel.Closing e = set_turns k n c _ freed_turns less (sym (ap (λ (s : Channel91). with_channel c k (freed_turns s)) e))
    by channel.Told e = stay_turns k n c freed_turns (ap freed_turns e ∙ sym e)

pub told_at : (k n : ℕ) (c : Connection) → n < length c.channels → channel_at (told_channel (channel_at c k) k c) n ≡ (if k == n then told_turns (channel_at c n) else channel_at c n)
told_at k n c less = by (channel_at c k) refl
  where
    by : (s : Channel91) → channel_at c k ≡ s → channel_at (told_channel s k c) n ≡ (if k == n then told_turns (channel_at c n) else channel_at c n)
    by channel.Free e = stay_turns k n c told_turns (ap told_turns e ∙ sym e)
    by channel.Open e = stay_turns k n c told_turns (ap told_turns e ∙ sym e)
    by channel.Closing e = set_turns k n c _ told_turns less (sym (ap (λ (s : Channel91). with_channel c k (told_turns s)) e))
    by channel.Told e = stay_turns k n c told_turns (ap told_turns e ∙ sym e)

-- channel.close-ok frees a channel that is closing, and nothing is due of its life then
ok_fits : (b : Bool) (s : Channel91) (l : Life) → l.close_ok ≡ true → Fits b s l → Fits b (freed_turns s) (record l { close_ok = false })
ok_fits b channel.Free l e f = record { told = f.told; ok = refl; close = f.close }
ok_fits b channel.Open l e f = (record { told = f.0.told; ok = refl; close = f.0.close }, f.1)
ok_fits b channel.Closing l e f = record { told = f.told; ok = refl; close = f.once e }
ok_fits b channel.Told l e f = tt

-- channel.close goes where its channel is closing
close_fits : (b : Bool) (s : Channel91) (l : Life) (r : Reason) → l.close ≡ Some r → Fits b s l → Fits b (told_turns s) (record l { close = None; told = true })
close_fits b channel.Free l r e f = absurd (let wrong : Some r ≡ None = sym e ∙ f.close in cc)
close_fits b channel.Open l r e f = absurd (let wrong : Some r ≡ None = sym e ∙ f.0.close in cc)
close_fits b channel.Closing l r e f = tt
close_fits b channel.Told l r e f = tt

given_fits : (b : Bool) (n : ℕ) (u : Reply) (w : State) → n < length w.conn.channels → IsOwed w.lives u → IsDueClose w.lives u → FitsIn b n w
    → Fits b (channel_at (conn_given u w.conn) n) (life_at (without_life u w.lives) n)
given_fits b n (reply.ChannelOpenOk k) w less owed due f = keeps_fits b (channel_at w.conn n) n k w.lives _ refl refl refl f
given_fits b n (reply.CrossedOk k) w less owed due f = keeps_fits b (channel_at w.conn n) n k w.lives _ refl refl refl f
given_fits b n (reply.ChannelCloseOk k) w less owed due f =
    subst (λ (s : Channel91). Fits b s (life_at (with_life k new w.lives) n)) (sym (freed_at k n w.conn less))
    (one_fits b (k == n) (channel_at w.conn n) (freed_turns (channel_at w.conn n)) n k w.lives new refl
    (λ e. subst (λ (j : ℕ). Fits b (freed_turns (channel_at w.conn j)) new) e
    (ok_fits b (channel_at w.conn k) (life_at w.lives k) owed (subst (λ (j : ℕ). FitsIn b j w) (sym e) f))) f)
  where
    new : Life
    new = record (life_at w.lives k) { close_ok = false }
given_fits b n (reply.ChannelClose k r) w less owed due f =
    subst (λ (s : Channel91). Fits b s (life_at (with_life k new w.lives) n)) (sym (told_at k n w.conn less))
    (one_fits b (k == n) (channel_at w.conn n) (told_turns (channel_at w.conn n)) n k w.lives new refl
    (λ e. subst (λ (j : ℕ). Fits b (told_turns (channel_at w.conn j)) new) e
    (close_fits b (channel_at w.conn k) (life_at w.lives k) r due (subst (λ (j : ℕ). FitsIn b j w) (sym e) f))) f)
  where
    new : Life
    new = record (life_at w.lives k) { close = None; told = true }
given_fits b n u w less owed due f = f

begun_fits : (b : Bool) (n : ℕ) (u : UpUnit) (w : State) → FitsIn b n w → Fits b (channel_at w.conn n) (life_at (without_begin u w.lives) n)
begun_fits b n (up.OnSession k u) w f = keeps_fits b (channel_at w.conn n) n k w.lives _ refl refl refl f
begun_fits b n (up.Flow k i o) w f = keeps_fits b (channel_at w.conn n) n k w.lives _ refl refl refl f
begun_fits b n (up.Begin k) w f = keeps_fits b (channel_at w.conn n) n k w.lives _ refl refl refl f
begun_fits b n (up.End k why) w f = keeps_fits b (channel_at w.conn n) n k w.lives _ refl refl refl f
begun_fits b n u w f = f

-- ---- all steps

pub free_at : (n : ℕ) → or_free (slice_get no_channels n) ≡ channel.Free
unfolding no_channels
free_at n = at 256 n
  where
    at : (k n : ℕ) → or_free (slice_get (replicate k channel.Free) n) ≡ channel.Free
    at zero n = refl
    at (suc k) zero = refl
    at (suc k) (suc n) = at k n

new_fits : (b : Bool) (n : ℕ) → Fits b (or_free (slice_get no_channels n)) (life_at no_lives n)
new_fits b n =
    subst (λ (s : Channel91). Fits b s (life_at no_lives n)) (sym (free_at n))
    (subst (Fits b channel.Free) (sym (new_at n)) (record { told = refl; ok = refl; close = refl }))

if_fits : (b : Bool) (n : ℕ) (a : Bool) (w v : State) → FitsIn b n w → FitsIn b n v → FitsIn b n (if a then w else v)
if_fits b n true w v f g = f
if_fits b n false w v f g = g

abbrev FitsAfter : ℕ → List Step → Type 0
FitsAfter n h = FitsIn (is_some (path_life h n)) n (before h)

-- what a unit wants, as the folds tell it
pub want_is : (h : List Step) (u : Unit91) → ArePicks h → want_in (before h).routes (before h).paths (before h).conn u ≡ want_in (routes_in h) (paths_in h) (connection h) u
want_is h u p =
    let k : Known h = known h p in
    ap (λ (r : List Route). want_in r (before h).paths (before h).conn u) (routes_are k)
    ∙ ap (λ (ps : List (Option PathState)). want_in (routes_in h) ps (before h).conn u) (paths_are k)
    ∙ ap (λ (c : Connection). want_in (routes_in h) (paths_in h) c u) (conn_is k)

came_next : (n : ℕ) (u : Unit91) (h : List Step) → n < 256 → ArePicks h → FitsAfter n h → FitsAfter n (Came u ∷ h)
came_next n u h less p f = by (before h).out_of_memory (memory_is (known h p))
  where
    w : State
    w = before h

    opened : Bool
    opened = is_method_on is_channel_open n (want_in (routes_in h) (paths_in h) (connection h) u)

    life : Bool → Bool
    life out = is_some (if not out && opened then Some ((peers h).opened + 1) else path_life h n)

    on : (a : Bool) → is_some (path_life h n) ≡ true → is_some (if a then Some ((peers h).opened + 1) else path_life h n) ≡ true
    on true e = refl
    on false e = e

    there : opened ≡ true → life false ≡ true
    there e = ap (λ (a : Bool). is_some (if a then Some ((peers h).opened + 1) else path_life h n)) e

    by : (m : Bool) → m ≡ ran_out_in h → FitsIn (life (ran_out_in h)) n (if m then w else came (dequeued w) u)
    by true e = subst (λ (a : Bool). FitsIn (life a) n w) e f
    by false e =
        subst (λ (a : Bool). FitsIn (life a) n (came (dequeued w) u)) e
        (came_fits (life false) n w u (inside n h less p) (λ o. there (ap (is_method_on is_channel_open n) (sym (want_is h u p)) ∙ o))
        (later_fits (is_some (path_life h n)) (life false) _ _ (on opened) f))

fits : (n : ℕ) (h : List Step) → n < 256 → ArePicks h → FitsAfter n h
fits n [] less p = new_fits false n
fits n (Began site number ms ∷ h) less p = subst (λ (x : List Step). FitsAfter n (Began site number ms ∷ x)) (sym p.0) (new_fits false n)
fits n (Moment ms ∷ h) less p = by (is_limit_reached (before h).conn (before h).accepted_at ms) (fits n h less p.1)
  where
    by : (b : Bool) → FitsAfter n h → Fits (is_some (path_life h n)) (channel_at (close_if b (before h).conn) n) (life_at (before h).lives n)
    by true f = f
    by false f = f
fits n (Fed Client ∷ h) less p = fits n h less p.1
fits n (Silent Client ∷ h) less p = fits n h less p.1
fits n (Silent Up ∷ h) less p = fail_fits _ n _ _ _ (fits n h less p.1)
fits n (Queued u ∷ h) less p = let f = fits n h less p.1 in if_fits _ n (before h).out_of_memory (before h) _ f f
fits n (Came u ∷ h) less p = came_next n u h less p.1 (fits n h less p.1)
fits n (TakenUp ∷ h) less p = let f = fits n h less p.1 in if_fits _ n (not (before h).out_of_memory && (before h).leaving) (left (before h)) (before h) f f
fits n (Heard u ∷ h) less p =
    let f = fits n h less p.1 in
    if_fits _ n (before h).out_of_memory (before h) _ f
    (meaning_fits _ n (meaning_by (before h).up.container u) (record (before h) { up = heard_up u (before h).up }) (inside n h less p.1) f)
fits n (Joined link.Failed ∷ h) less p = fail_fits _ n _ None _ (fits n h less p.1)
fits n (Lost Client loss.Ended ∷ h) less p = fits n h less p.1
fits n (Lost Up loss.Ended ∷ h) less p = fail_fits _ n _ None _ (fits n h less p.1)
fits n (Lost Up loss.Failed ∷ h) less p = fail_fits _ n _ None _ (fits n h less p.1)
fits n (Gave (ToClient u) text ∷ h) less p =
    let due = picked (before h) u p.0.1 in
    given_fits _ n u (before h) (inside n h less p.1) (owed_picked h u p.1 due) (due_picked h u p.1 due) (fits n h less p.1)
fits n (Gave (ToUp u) text ∷ h) less p = begun_fits _ n u (before h) (fits n h less p.1)
fits n (Whole Client ∷ h) less p = fits n h less p.1
fits n (s ∷ h) less p = fits n h less p.1

-- a channel that is open has a life in progress
pub open_lives : (h : List Step) (n : ℕ) → n < 256 → ArePicks h → is_open (connection h) n ≡ true → is_some (path_life h n) ≡ true
open_lives h n less p e =
    let o : is_open (before h).conn n ≡ true = ap (λ (c : Connection). is_open c n) (conn_is (known h p)) ∙ e in
    (subst (λ (s : Channel91). Fits (is_some (path_life h n)) s (life_at (before h).lives n)) (open_at (before h).conn n o) (fits n h less p)).1

-- of one that is open nothing that ends its life is due
pub open_clear : (h : List Step) (n : ℕ) → n < 256 → ArePicks h → is_open (before h).conn n ≡ true → IsClear (life_at (before h).lives n)
open_clear h n less p e = (subst (λ (s : Channel91). Fits (is_some (path_life h n)) s (life_at (before h).lives n)) (open_at (before h).conn n e) (fits n h less p)).0

-- nor of one that is free
pub free_clear : (h : List Step) (n : ℕ) → n < 256 → ArePicks h → channel_at (before h).conn n ≡ channel.Free → IsClear (life_at (before h).lives n)
free_clear h n less p e = subst (λ (s : Channel91). Fits (is_some (path_life h n)) s (life_at (before h).lives n)) e (fits n h less p)

-- ---- a channel that is opened

clear_is : (l : Life) → IsClear l → is_clear l ≡ true
clear_is l c =
    ap (λ (b : Bool). not (b || (l.close_ok || is_some l.close))) c.told ∙ ap (λ (b : Bool). not (b || is_some l.close)) c.ok
    ∙ ap (λ (o : Option Reason). not (is_some o)) c.close

unless_ended : (closing clear ended : Bool) → closing ≡ false → clear ≡ true → (not closing && (clear && ended)) ≡ false → ended ≡ false
unless_ended true clear ended c l e = absurd cc
unless_ended false true ended c l e = e
unless_ended false false ended c l e = absurd cc

running : (p : Phase91) → is_running p ≡ true → is_closing_phase p ≡ false
running phase.Running e = refl
running p e = absurd cc

-- the container didn't end the session of the life before, or the gateway's end went
pub opens_unended : (h : List Step) (u : Unit91) (n : ℕ) → n < 256 → ArePicks h → next_unit (before h) ≡ Some u
    → is_method_on is_channel_open n (want_in (before h).routes (before h).paths (before h).conn u) ≡ true
    → is_ended (session_in (before h).up.container n) ≡ false
opens_unended h u n less p e opens = by (place w) refl e
  where
    w : State
    w = before h

    f : Finds w.conn u n
    f = (client_turns n w.routes w.paths w.conn u).opens opens

    none : (front : List Unit91) → (b : Bool) → b ≡ false
        → (if b then is_empty front && not (waits w).some
        else (not (waits w).opening && not ((waits w).channel (channel_of u))) && not (list_any (holds (channel_of u)) front)) ≡ true
        → (waits w).channel n ≡ false
    none front true g i = absurd cc
    none front false g i = subst (λ (k : ℕ). (waits w).channel k ≡ false) f.of (not_true _ (and_right (not (waits w).opening) _ (and_left _ _ i)))

    by : (o : Option ℕ) → place w ≡ o → unit_at o w.queue ≡ Some u → is_ended (session_in w.up.container n) ≡ false
    by None g i = absurd cc
    by (Some k) g i =
        let s : Stands (waits w) w.queue k u = next_stands w u k g i in
        let free : IsClear (life_at w.lives n) = subst (λ (c : Channel91). Fits (is_some (path_life h n)) c (life_at w.lives n)) f.free (fits n h less p) in
        unless_ended (is_closing w.conn) (is_clear (life_at w.lives n)) _ (running w.conn.phase f.runs) (clear_is _ free)
        (right_false (life_waits w n (life_at w.lives n)) _ (none s.front (waits_for_all u) f.alone s.may))
