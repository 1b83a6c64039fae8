-- What is owed for publishes goes on a channel that its container closed, until the gateway's channel.close goes.
use Rattle.property_map.specs.declared.told.Told.{Told}
use Rattle.std.proofs.Common.{◌≡◌, ◌⊎◌, inl, inr, ℕ, ◌+◌, ◌==◌, ◌<◌, ◌≤◌, not, ◌&&◌, ◌||◌, Bool, true, false, if◌then◌else◌, List, [], ◌∷◌, ◌++◌, length}
use Rattle.std.proofs.Common.{Option, None, Some, is_some, refl, sym, ap, ◌∙◌, arith, subst}
use Rattle.close_translate.specs.Conditions.{condition_of}
use Rattle.close_translate.specs.declared.codes.TheConstants.{INTERNAL_ERROR}
use Rattle.gate_outside.specs.declared.ports.End.TheVariants.{Client, Up}
use Rattle.gate_outside.specs.declared.ports.Linked.TheVariants as link
use Rattle.gate_relay.specs.declared.loss.Loss.TheVariants as loss
use Rattle.machine_091.specs.State.{channel_at, is_closing, is_closing_phase, is_open, is_open_channel, is_opening, is_running}
use Rattle.machine_091.specs.Transitions.{closed_by}
use Rattle.machine_091.specs.Transitions as machine
use Rattle.machine_091.specs.declared.limits.TheConstants.{CHANNEL_MAX}
use Rattle.machine_091.specs.declared.state.Channel91.{Channel91}
use Rattle.machine_091.specs.declared.state.Channel91.TheVariants as channel
use Rattle.machine_091.specs.declared.state.Connection.{Connection}
use Rattle.machine_091.specs.declared.state.Phase91.{Phase91}
use Rattle.machine_091.specs.declared.unit.Unit91.{Unit91}
use Rattle.machine_091.specs.declared.unit.Want91.{Want91}
use Rattle.machine_091.specs.declared.unit.Want91.TheVariants as want
use Rattle.machine_10.specs.Parts.{Parts}
use Rattle.machine_10.specs.Transitions as ten
use Rattle.machine_10.specs.Transitions.{Meaning}
use Rattle.methods_091.specs.declared.method.Method91.{Method91}
use Rattle.methods_091.specs.declared.method.Method91.TheVariants as method
use Rattle.performatives_10.specs.declared.condition.Condition.{Condition}
use Rattle.publish_path.specs.Laws.{return_by}
use Rattle.publish_path.specs.Offers.{next_confirm_of, next_return_of}
use Rattle.publish_path.specs.Publishes.{PublishEvent, PublishState, open_after as publishes_open}
use Rattle.session_path.specs.Due.{next_confirm, next_return}
use Rattle.session_path.specs.Events.{PathEvent, after_events, publishes_of}
use Rattle.session_path.specs.Path.{PathState}
use Rattle.gate_model.specs.declared.life.Life.{Life}
use Rattle.gate_model.specs.declared.outgoing.Outgoing.TheVariants.{ToClient, ToUp}
use Rattle.gate_model.specs.declared.outgoing.UpUnit.{UpUnit}
use Rattle.gate_model.specs.declared.outgoing.UpUnit.TheVariants as up
use Rattle.gate_model.specs.declared.reply.Reply.{Reply}
use Rattle.gate_model.specs.declared.reply.Reply.TheVariants as reply
use Rattle.gate_model.specs.Closes.{closes_since, tells_close}
use Rattle.gate_model.specs.Due.{answers, client_rows, client_units, confirm_on, confirms, confirms_on, contents, contents_on, if_so, may_answer}
use Rattle.gate_model.specs.Due.{may_confirm, may_confirm_all, may_confirm_some, may_end, may_go_on, may_return, openings, pick, return_on, writings}
use Rattle.gate_model.specs.Folds.{connection, paths_in, ran_out_in, routes_in}
use Rattle.gate_model.specs.Lives.{begun_life, each, failed_life, freed_life, is_of_channel, life_at, lives_by, method_life, no_lives, reason_of, refusal_on, with_life}
use Rattle.gate_model.specs.Once.{is_channel_open, is_method_on, one_if}
use Rattle.gate_model.specs.Owes.{MayEnd}
use Rattle.gate_model.specs.Parting.{IsCalledFor, by_container, ended_by_container, is_containers}
use Rattle.gate_model.specs.Paths.{closed_path, path_at}
use Rattle.gate_model.specs.Picks.{ArePicks}
use Rattle.gate_model.specs.Publishing.{opens_channel, path_events, path_life}
use Rattle.gate_model.specs.Requests.{client_step, client_told}
use Rattle.gate_model.specs.Rests.{IsToTell, IsTold, ServesClients}
use Rattle.gate_model.specs.State.{Began, Came, Fed, Gave, Heard, Joined, Lost, Moment, OutOfMemory, Queued, Silent, State, Step, TakenUp, Whole}
use Rattle.gate_model.specs.State.{before, came, carried, close_if, conn_given, dequeued}
use Rattle.gate_model.specs.State.{fail, failed, is_limit_reached, left, life_failed, runs}
use Rattle.gate_model.specs.State.{session_lost, sessions_lost, want_in, windowed, with_meaning, with_session, without_begin, without_life}
use Rattle.gate_model.specs.Upstream.{channel_max_of, heard_up, meaning_by}
use Rattle.gate_model.proofs.Backs.{ReturnsAre}
use Rattle.gate_model.proofs.Basics.{and_none, or_right}
use Rattle.gate_model.proofs.Channels.{client_opens}
use Rattle.gate_model.proofs.Clear.{free_at, freed_at, freed_turns, open_at, told_at, told_turns, want_is}
use Rattle.gate_model.proofs.Connections.{clash, closing_only, opened_runs}
use Rattle.gate_model.proofs.Contents.{BegunBelow, ContentIs, has_life, is_calm, may_write}
use Rattle.gate_model.proofs.Delivers.{GlobalsAre, TagsAre}
use Rattle.gate_model.proofs.Fates.{PublishesAre, path_of}
use Rattle.gate_model.proofs.Freeing.{IsAnswered, client_frees}
use Rattle.gate_model.proofs.Known.{conn_is, known, memory_is}
use Rattle.gate_model.proofs.Lives.{set_all}
use Rattle.gate_model.proofs.Outcomes.{Asking, Calls, Outcome, only_closing, outcome}
use Rattle.gate_model.proofs.Overs.{Freed, freed, goes_on, inside}
use Rattle.gate_model.proofs.Places.{itself}
use Rattle.gate_model.proofs.Refusing.{StandsOpen, client_stands}
use Rattle.gate_model.proofs.Reports.{DeliveriesAre}
use Rattle.gate_model.proofs.Rests.{DueAre, LivesBelow, MostAre, OfferedAre, all_back, confirms_are, going_on, if_so_none, last_rows, later, no_confirm, no_return, no_some, none_in}
use Rattle.gate_model.proofs.Rests.{opening, served}
use Rattle.gate_model.proofs.Rows.{left_none, right_none, row_none}
use Rattle.gate_model.proofs.Sessions.{session_cases}
use Rattle.gate_model.proofs.Staying.{Other, Set, StandsIn, This, long, over_by, set_in, stands}
use Rattle.gate_model.proofs.Times.{sends}
use Rattle.gate_model.proofs.Turning.{client_turns, closing_turns, method_turns, refused_turns, turned_by}

-- ---- the life of a channel that its container closed

-- until its channel.close went it is by that
abbrev Owes : ℕ → Bool → Life → Type 0
Owes c b l = c ≡ 0 → b ≡ true → l.by_peer ≡ true

-- by the state of its channel: so many channel.closes went, and the container closed it or not
abbrev Holds : ℕ → Bool → Channel91 → Life → Type 0
Holds c b channel.Free l = Owes c b l
Holds c b channel.Open l = l.over ≡ false
Holds c b channel.Closing l = Owes c b l
Holds c b channel.Told l = 1 ≤ c

-- what leaves the state of the channel
keep : (c d : ℕ) (b a : Bool) (s : Channel91) (l m : Life) → c ≤ d → (is_open_channel s ≡ false → a ≡ true → b ≡ true) → m.over ≡ l.over → m.by_peer ≡ l.by_peer
    → Holds c b s l → Holds d a s m
keep c d b a channel.Free l m more less over peer h = λ z t. peer ∙ h (omega (arith, z, more)) (less refl t)
keep c d b a channel.Open l m more less over peer h = over ∙ h
keep c d b a channel.Closing l m more less over peer h = λ z t. peer ∙ h (omega (arith, z, more)) (less refl t)
keep c d b a channel.Told l m more less over peer h = omega (arith, h, more)

module _ (d : ℕ) (a : Bool) where
  same_life : (s : Channel91) (l m : Life) → m.over ≡ l.over → m.by_peer ≡ l.by_peer → Holds d a s l → Holds d a s m
  same_life s l m over peer h = keep d d a a s l m (omega arith) (λ e t. t) over peer h

  -- a life is set, and the state of its channel
  one_holds : (s t : Channel91) (n k : ℕ) (ls : List Life) (m : Life) → n < length ls → (k ≡ n → Holds d a t m) → ((k == n) ≡ false → Holds d a s (life_at ls n))
      → Holds d a (if k == n then t else s) (life_at (with_life k m ls) n)
  one_holds s t n k ls m less this other = by (set_in n k ls m less)
    where
      by : Set n k ls m → Holds d a (if k == n then t else s) (life_at (with_life k m ls) n)
      by (This e f) =
          subst (λ (b : Bool). Holds d a (if b then t else s) (life_at (with_life k m ls) n)) (sym (ap (λ (i : ℕ). i == n) e ∙ itself n))
          (subst (Holds d a t) (sym f) (this e))
      by (Other e f) =
          subst (λ (b : Bool). Holds d a (if b then t else s) (life_at (with_life k m ls) n)) (sym e)
          (subst (Holds d a s) (sym f) (other e))

  keeps_life : (s : Channel91) (n k : ℕ) (ls : List Life) (m : Life) → n < length ls → m.over ≡ (life_at ls k).over → m.by_peer ≡ (life_at ls k).by_peer
      → Holds d a s (life_at ls n) → Holds d a s (life_at (with_life k m ls) n)
  keeps_life s n k ls m less over peer h = by (set_in n k ls m less)
    where
      by : Set n k ls m → Holds d a s (life_at (with_life k m ls) n)
      by (This e f) =
          subst (Holds d a s) (sym f)
          (same_life s (life_at ls n) m (over ∙ ap (λ (i : ℕ). (life_at ls i).over) e) (peer ∙ ap (λ (i : ℕ). (life_at ls i).by_peer) e) h)
      by (Other e f) = subst (Holds d a s) (sym f) h

  -- ---- the client's units

  -- methods go while the connection runs
  module _ (n : ℕ) (c : Connection) (ls : List Life) (less : n < length ls) (none : is_open c n ≡ true → a ≡ true → ⊥) where
    abbrev s : Channel91
    s = channel_at c n

    closes : is_running c.phase ≡ true → (ms : ℕ) (t : Channel91) → channel_at c n ≡ t → (l : Life) → Holds d a t l → (m : Life) → m.by_peer ≡ l.by_peer → Holds d a (closed_by t) m
    closes runs ms channel.Free e l h m peer = λ z t. peer ∙ h z t
    closes runs ms channel.Open e l h m peer = λ z t. absurd (none (ap (λ (b : Bool). b && is_open_channel (channel_at c n)) runs ∙ ap is_open_channel e) t)
    closes runs ms channel.Closing e l h m peer = λ z t. peer ∙ h z t
    closes runs ms channel.Told e l h m peer = h

    method_holds : is_running c.phase ≡ true → (ms : ℕ) (m : Method91) (l : Life) → (is_channel_open m ≡ false → Holds d a s l) → Holds d a (method_turns m s) (method_life ms m l)
    method_holds runs ms method.ChannelOpen l h = refl
    method_holds runs ms (method.ChannelClose code text class id) l h = closes runs ms s refl l (h refl) (method_life ms (method.ChannelClose code text class id) l) refl
    method_holds runs ms m l h = h refl

    want_holds : (ms : ℕ) (told : Option Told) (y : Want91) → StandsOpen c y → ((k : ℕ) (m : Method91) → y ≡ want.Method k m → is_running c.phase ≡ true)
        → ((k : ℕ) → y ≡ want.ChannelCloseOk k → k ≡ n → channel_at c n ≡ channel.Told) → (is_method_on is_channel_open n y ≡ false → Holds d a s (life_at ls n))
        → Holds d a (turned_by n y s) (life_at (lives_by ms told y ls) n)
    want_holds ms told (want.Method k m) stands runs answers h =
        one_holds s (method_turns m s) n k ls (method_life ms m (life_at ls k)) less
        (λ e. subst (λ (j : ℕ). Holds d a (method_turns m s) (method_life ms m (life_at ls j))) (sym e)
        (method_holds (runs k m refl) ms m (life_at ls n) (λ o. h (ap (λ (b : Bool). b && is_channel_open m) (ap (λ (j : ℕ). j == n) e ∙ itself n) ∙ o))))
        (λ e. h (ap (λ (b : Bool). b && is_channel_open m) e))
    want_holds ms told (want.ChannelCloseOk k) stands runs answers h =
        one_holds s channel.Free n k ls (freed_life (life_at ls k)) less
        (λ e z t. absurd (let many : 1 ≤ d = subst (λ (x : Channel91). Holds d a x (life_at ls n)) (answers k refl e) (h refl) in omega (arith, z, many)))
        (λ e. h refl)
    want_holds ms told (want.Refuse r) stands runs answers h = by (is_of_channel r) refl
      where
        new : Life
        new = failed_life false ms (reason_of told r) (Some (condition_of r.code)) (life_at ls r.channel)

        by : (b : Bool) → is_of_channel r ≡ b → Holds d a (if b then (if r.channel == n then refused_turns s else s) else s) (life_at (if b then with_life r.channel new ls else ls) n)
        by true o =
            one_holds s (refused_turns s) n r.channel ls new less
            (λ e. let on : is_open c n ≡ true = subst (λ (j : ℕ). is_open c j ≡ true) e (stands o) in
            subst (λ (x : Channel91). Holds d a x new) (sym (ap refused_turns (open_at c n on))) (λ z t. absurd (none on t)))
            (λ e. h refl)
        by false o = h refl
    want_holds ms told y stands runs answers h = h refl

  abbrev HoldsIn : ℕ → State → Type 0
  HoldsIn n w = Holds d a (channel_at w.conn n) (life_at w.lives n)

  -- ---- the container's

  fail_holds : (n code : ℕ) (why : Option Condition) (w : State) → HoldsIn n w → HoldsIn n (fail code why w)
  fail_holds n code why w h = by (is_closing w.conn)
    where
      by : (k : Bool) → HoldsIn n (if k then sessions_lost w else failed code why w)
      by true = h
      by false = h

  -- it closes channel g, if that is open
  fail_one : (n g code : ℕ) (why : Option Condition) (f : PathState → PathState) (w : State) → n < length w.conn.channels → n < length w.lives → HoldsIn n w
      → HoldsIn n (life_failed g (refusal_on g code) why f w)
  fail_one n g code why f w less inside h =
      subst (λ (s : Channel91). Holds d a s (life_at (with_life g new w.lives) n)) (sym (closing_turns g n w.conn less))
      (one_holds (channel_at w.conn n) (refused_turns (channel_at w.conn n)) n g w.lives new inside (λ e. by (channel_at w.conn n) h) (λ e. h))
    where
      new : Life
      new = failed_life true w.moment (reason_of None (refusal_on g code)) why (life_at w.lives g)

      by : (s : Channel91) → Holds d a s (life_at w.lives n) → Holds d a (refused_turns s) new
      by channel.Free x = λ z t. refl
      by channel.Open x = λ z t. refl
      by channel.Closing x = λ z t. refl
      by channel.Told x = x

  session_holds : (n g : ℕ) (q : Parts) (payload : List ℕ) (w : State) → n < length w.conn.channels → n < length w.lives → HoldsIn n w → HoldsIn n (with_session g q payload w)
  session_holds n g q payload w less inside h = session_cases (HoldsIn n) g q payload w (record {
    begins = keeps_life (channel_at w.conn n) n g (carried g q payload w).lives (begun_life (life_at (carried g q payload w).lives g)) long_is refl refl kept;
    stays = kept;
    ends = λ code why. fail_one n g code why closed_path (carried g q payload w) less long_is kept;
    parts = kept;
    drops = λ code why. fail_one n g code why closed_path (session_lost g (windowed g q w)) less long_is kept;
    fails = λ why. fail_holds n INTERNAL_ERROR why (windowed g q w) kept;
  })
    where
      kept : HoldsIn n (carried g q payload w)
      kept = keeps_life (channel_at w.conn n) n g w.lives _ inside refl refl h

      long_is : n < length (carried g q payload w).lives
      long_is = subst (λ (i : ℕ). n < i) (sym (set_all w.lives g _)) inside

  meaning_holds : (n : ℕ) (m : Meaning) (w : State) → n < length w.conn.channels → n < length w.lives → HoldsIn n w → HoldsIn n (with_meaning m w)
  meaning_holds n ten.Nothing w less inside h = h
  meaning_holds n ten.Init w less inside h = h
  meaning_holds n ten.AmqpHeader w less inside h = h
  meaning_holds n ten.Opened w less inside h = by (is_opening w.conn)
    where
      by : (b : Bool) → HoldsIn n (if b then runs w else w)
      by true = h
      by false = h
  meaning_holds n (ten.OfSession g q payload) w less inside h = session_holds n g q payload w less inside h
  meaning_holds n (ten.Closed x) w less inside h = fail_holds n _ _ w h
  meaning_holds n ten.Refused w less inside h = fail_holds n _ _ w h
  meaning_holds n (ten.Violation c) w less inside h = fail_holds n _ _ w h

  -- ---- units that go

  given_holds : (n : ℕ) (u : Reply) (w : State) → n < length w.conn.channels → n < length w.lives → (tells_close n (Gave (ToClient u) []) ≡ true → 1 ≤ d) → HoldsIn n w
      → Holds d a (channel_at (conn_given u w.conn) n) (life_at (without_life u w.lives) n)
  given_holds n (reply.ChannelOpenOk k) w less inside told h = keeps_life (channel_at w.conn n) n k w.lives _ inside refl refl h
  given_holds n (reply.CrossedOk k) w less inside told h = keeps_life (channel_at w.conn n) n k w.lives _ inside refl refl h
  given_holds n (reply.ChannelCloseOk k) w less inside told h =
      subst (λ (s : Channel91). Holds d a s (life_at (without_life (reply.ChannelCloseOk k) w.lives) n)) (sym (freed_at k n w.conn less))
      (by (k == n) (channel_at w.conn n) (keeps_life (channel_at w.conn n) n k w.lives _ inside refl refl h))
    where
      l : Life
      l = life_at (without_life (reply.ChannelCloseOk k) w.lives) n

      by : (b : Bool) (s : Channel91) → Holds d a s l → Holds d a (if b then freed_turns s else s) l
      by false s x = x
      by true channel.Free x = x
      by true channel.Open x = x
      by true channel.Closing x = x
      by true channel.Told x = x
  given_holds n (reply.ChannelClose k r) w less inside told h =
      subst (λ (s : Channel91). Holds d a s (life_at (without_life (reply.ChannelClose k r) w.lives) n)) (sym (told_at k n w.conn less))
      (by (k == n) told (channel_at w.conn n) (keeps_life (channel_at w.conn n) n k w.lives _ inside refl refl h))
    where
      l : Life
      l = life_at (without_life (reply.ChannelClose k r) w.lives) n

      by : (b : Bool) → (b ≡ true → 1 ≤ d) → (s : Channel91) → Holds d a s l → Holds d a (if b then told_turns s else s) l
      by false t s x = x
      by true t channel.Free x = x
      by true t channel.Open x = x
      by true t channel.Closing x = t refl
      by true t channel.Told x = x
  given_holds n u w less inside told h = h

  begun_holds : (n : ℕ) (u : UpUnit) (w : State) → n < length w.lives → HoldsIn n w → Holds d a (channel_at w.conn n) (life_at (without_begin u w.lives) n)
  begun_holds n (up.OnSession k u) w inside h = keeps_life (channel_at w.conn n) n k w.lives _ inside refl refl h
  begun_holds n (up.Flow k i o) w inside h = keeps_life (channel_at w.conn n) n k w.lives _ inside refl refl h
  begun_holds n (up.Begin k) w inside h = keeps_life (channel_at w.conn n) n k w.lives _ inside refl refl h
  begun_holds n (up.End k why) w inside h = keeps_life (channel_at w.conn n) n k w.lives _ inside refl refl h
  begun_holds n u w inside h = h

-- ---- all steps

abbrev HoldsAfter : ℕ → List Step → Type 0
HoldsAfter n h = Holds (closes_since n h) (by_container h n) (channel_at (before h).conn n) (life_at (before h).lives n)

-- what a step that opens no channel n leaves of the counts
more_closes : (n : ℕ) (s : Step) (h : List Step) → opens_channel n h s ≡ false → closes_since n h ≤ closes_since n (s ∷ h)
more_closes n s h e =
    let here : closes_since n (s ∷ h) ≡ closes_since n h + one_if (tells_close n s) = ap (λ (b : Bool). if b then 0 else closes_since n h + one_if (tells_close n s)) e in
    omega (arith, here)

still_by : (n : ℕ) (s : Step) (h : List Step) → ArePicks h → is_open_channel (channel_at (before h).conn n) ≡ false → by_container (s ∷ h) n ≡ true → by_container h n ≡ true
still_by n s h p off = by (is_open (connection (s ∷ h)) n) (is_open (connection h) n) shut
  where
    shut : is_open (connection h) n ≡ false
    shut = ap (λ (c : Connection). is_open c n) (sym (conn_is (known h p))) ∙ and_none (is_running (before h).conn.phase) _ off

    by : (o' o : Bool) → o ≡ false → (if o' then false else if o then is_containers s else by_container h n) ≡ true → by_container h n ≡ true
    by true o e f = absurd cc
    by false true e f = absurd cc
    by false false e f = f

none_by : (n : ℕ) (s : Step) (h : List Step) → ArePicks h → is_containers s ≡ false → is_open (before h).conn n ≡ true → by_container (s ∷ h) n ≡ true → ⊥
none_by n s h p x on = by (is_open (connection (s ∷ h)) n) (is_open (connection h) n) open_is
  where
    open_is : is_open (connection h) n ≡ true
    open_is = ap (λ (c : Connection). is_open c n) (sym (conn_is (known h p))) ∙ on

    by : (o' o : Bool) → o ≡ true → (if o' then false else if o then is_containers s else by_container h n) ≡ true → ⊥
    by true o e f = cc
    by false false e f = cc
    by false true e f = clash _ f x

-- the same channel and its life, behind the step
carry : (n : ℕ) (s : Step) (h : List Step) → ArePicks h → opens_channel n h s ≡ false → HoldsAfter n h
    → Holds (closes_since n (s ∷ h)) (by_container (s ∷ h) n) (channel_at (before h).conn n) (life_at (before h).lives n)
carry n s h p e old =
    keep (closes_since n h) (closes_since n (s ∷ h)) (by_container h n) (by_container (s ∷ h) n) (channel_at (before h).conn n) (life_at (before h).lives n) (life_at (before h).lives n)
    (more_closes n s h e) (still_by n s h p) refl refl old

if_holds : (d : ℕ) (a : Bool) (n : ℕ) (b : Bool) (w v : State) → HoldsIn d a n w → HoldsIn d a n v → HoldsIn d a n (if b then w else v)
if_holds d a n true w v f g = f
if_holds d a n false w v f g = g

method_runs : (c : Connection) (u : Unit91) (x : machine.Step) → Outcome c u x → (k : ℕ) (m : Method91) → x.1 ≡ want.Method k m → is_running c.phase ≡ true
method_runs c u _ (Calls n s m runs) k j e = runs
method_runs c u _ (Asking n m runs) k j e = runs
method_runs c u _ o k j e = absurd cc

came_after : (n : ℕ) (u : Unit91) (h : List Step) → n < 256 → ArePicks h → HoldsAfter n h → HoldsAfter n (Came u ∷ h)
came_after n u h less p old = by (before h).out_of_memory (memory_is (known h p))
  where
    w : State
    w = before h

    d : ℕ
    d = closes_since n (Came u ∷ h)

    a : Bool
    a = by_container (Came u ∷ h) n

    x : Want91
    x = want_in w.routes w.paths w.conn u

    shut : is_open w.conn n ≡ true → a ≡ true → ⊥
    shut = none_by n (Came u) h p refl

    told : (k : ℕ) → x ≡ want.ChannelCloseOk k → k ≡ n → channel_at w.conn n ≡ channel.Told
    told k e same =
        let f = subst (IsAnswered w.conn) same ((client_frees w.routes w.paths w.conn u).holds k e) in
        let off : Freed n (is_open w.conn n) (want.ChannelCloseOk k) =
        subst (Freed n (is_open w.conn n)) e
        (freed n w.conn u (client_step w.routes w.paths w.conn u) (inside n h less p) (outcome w.routes w.paths w.conn u) (client_opens n w.routes w.paths w.conn u)) in
        f.told (λ o. clash (is_open w.conn n) (ap (λ (b : Bool). b && is_open_channel (channel_at w.conn n)) f.runs ∙ ap is_open_channel o) (off same))

    opens : Bool
    opens = is_method_on is_channel_open n (want_in (routes_in h) (paths_in h) (connection h) u)

    made : ran_out_in h ≡ false → HoldsIn d a n (came (dequeued w) u)
    made e =
        subst (λ (s : Channel91). Holds d a s (life_at (lives_by w.moment (client_told w.routes w.conn u) x w.lives) n)) (sym ((client_turns n w.routes w.paths w.conn u).is (inside n h less p)))
        (want_holds d a n w.conn w.lives (long n h less p) shut w.moment (client_told w.routes w.conn u) x (client_stands w.routes w.paths w.conn u)
        (method_runs w.conn u (client_step w.routes w.paths w.conn u) (outcome w.routes w.paths w.conn u)) told
        (λ g. carry n (Came u) h p (ap (λ (b : Bool). not b && opens) e ∙ sym (ap (is_method_on is_channel_open n) (want_is h u p)) ∙ g) old))

    by : (m : Bool) → m ≡ ran_out_in h → HoldsIn d a n (if m then w else came (dequeued w) u)
    by true e = carry n (Came u) h p (ap (λ (b : Bool). not b && opens) (sym e)) old
    by false e = made (sym e)

holds : (n : ℕ) (h : List Step) → n < 256 → ArePicks h → HoldsAfter n h
holds n [] less p = subst (λ (s : Channel91). Holds 0 false s (life_at no_lives n)) (sym (free_at n)) (λ z t. absurd cc)
holds n (Began site number ms ∷ h) less p =
    subst (λ (x : List Step). HoldsAfter n (Began site number ms ∷ x)) (sym p.0)
    (subst (λ (s : Channel91). Holds (closes_since n (Began site number ms ∷ [])) (by_container (Began site number ms ∷ []) n) s (life_at no_lives n)) (sym (free_at n)) (λ z t. absurd cc))
holds n (Moment ms ∷ h) less p = by (is_limit_reached (before h).conn (before h).accepted_at ms) (carry n (Moment ms) h p.1 refl (holds n h less p.1))
  where
    After : Connection → Type 0
    After c = Holds (closes_since n (Moment ms ∷ h)) (by_container (Moment ms ∷ h) n) (channel_at c n) (life_at (before h).lives n)

    by : (b : Bool) → After (before h).conn → After (close_if b (before h).conn)
    by true f = f
    by false f = f
holds n (Fed Client ∷ h) less p = carry n (Fed Client) h p.1 refl (holds n h less p.1)
holds n (Silent Client ∷ h) less p = carry n (Silent Client) h p.1 refl (holds n h less p.1)
holds n (Silent Up ∷ h) less p = fail_holds _ _ n _ _ _ (carry n (Silent Up) h p.1 refl (holds n h less p.1))
holds n (Queued u ∷ h) less p = let f = carry n (Queued u) h p.1 refl (holds n h less p.1) in if_holds _ _ n (before h).out_of_memory (before h) _ f f
holds n (Came u ∷ h) less p = came_after n u h less p.1 (holds n h less p.1)
holds n (TakenUp ∷ h) less p =
    let f = carry n TakenUp h p.1 refl (holds n h less p.1) in if_holds _ _ n (not (before h).out_of_memory && (before h).leaving) (left (before h)) (before h) f f
holds n (Heard u ∷ h) less p =
    let f = carry n (Heard u) h p.1 refl (holds n h less p.1) in
    if_holds _ _ n (before h).out_of_memory (before h) _ f
    (meaning_holds _ _ n (meaning_by (before h).up.container u) (record (before h) { up = heard_up u (before h).up }) (inside n h less p.1) (long n h less p.1) f)
holds n (Joined link.Failed ∷ h) less p = fail_holds _ _ n _ None _ (carry n (Joined link.Failed) h p.1 refl (holds n h less p.1))
holds n (Lost Client loss.Ended ∷ h) less p = carry n (Lost Client loss.Ended) h p.1 refl (holds n h less p.1)
holds n (Lost Up loss.Ended ∷ h) less p = fail_holds _ _ n _ None _ (carry n (Lost Up loss.Ended) h p.1 refl (holds n h less p.1))
holds n (Lost Up loss.Failed ∷ h) less p = fail_holds _ _ n _ None _ (carry n (Lost Up loss.Failed) h p.1 refl (holds n h less p.1))
holds n (Gave (ToClient u) text ∷ h) less p =
    given_holds _ _ n u (before h) (inside n h less p.1) (long n h less p.1) one (carry n (Gave (ToClient u) text) h p.1 refl (holds n h less p.1))
  where
    one : tells_close n (Gave (ToClient u) []) ≡ true → 1 ≤ closes_since n (Gave (ToClient u) text ∷ h)
    one e = let went : one_if (tells_close n (Gave (ToClient u) [])) ≡ 1 = ap one_if e in omega (arith, went)
holds n (Gave (ToUp u) text ∷ h) less p = begun_holds _ _ n u (before h) (long n h less p.1) (carry n (Gave (ToUp u) text) h p.1 refl (holds n h less p.1))
holds n (Whole Client ∷ h) less p = carry n (Whole Client) h p.1 refl (holds n h less p.1)
holds n (s ∷ h) less p = carry n s h p.1 refl (holds n h less p.1)

-- ---- a connection that its container closed

-- it is so still, and where the container closes it it is
record Ends (k q : Bool) (v : State) : Type 0 where
  still : q ≡ true → v.by_peer ≡ true
  new : k ≡ false → is_closing v.conn ≡ true → v.by_peer ≡ true

module _ (k q : Bool) where
  -- one that is as before
  stays : (v : State) → v.by_peer ≡ q → is_closing v.conn ≡ k → Ends k q v
  stays v e c = record { still = λ f. e ∙ f; new = λ f g. absurd (clash _ g (c ∙ f)) }

  fail_ends : (code : ℕ) (why : Option Condition) (v : State) → Ends k q v → Ends k q (fail code why v)
  fail_ends code why v e = by (is_closing v.conn)
    where
      by : (b : Bool) → Ends k q (if b then sessions_lost v else failed code why v)
      by true = record { still = e.still; new = e.new }
      by false = record { still = λ f. refl; new = λ f g. refl }

  meaning_ends : (m : Meaning) (w : State) → w.by_peer ≡ q → is_closing w.conn ≡ k → Ends k q (with_meaning m w)
  meaning_ends ten.Nothing w e c = stays _ e c
  meaning_ends ten.Init w e c = stays _ e c
  meaning_ends ten.AmqpHeader w e c = stays _ e c
  meaning_ends ten.Opened w e c = by (is_opening w.conn) refl
    where
      by : (b : Bool) → is_opening w.conn ≡ b → Ends k q (if b then runs w else w)
      by true o = record { still = λ f. e ∙ f; new = λ f g. absurd (clash _ g (ap (λ (x : Phase91). is_closing_phase x) (opened_runs (channel_max_of w.up) w.conn o))) }
      by false o = stays w e c
  meaning_ends (ten.OfSession g p payload) w e c = session_cases (Ends k q) g p payload w (record {
    begins = stays _ e c;
    stays = stays _ e c;
    ends = λ code why. stays _ e (closing_only (only_closing g w.conn) ∙ c);
    parts = stays _ e c;
    drops = λ code why. stays _ e (closing_only (only_closing g w.conn) ∙ c);
    fails = λ why. fail_ends _ why (windowed g p w) (stays _ e c);
  })
  meaning_ends (ten.Closed x) w e c = fail_ends _ _ w (stays w e c)
  meaning_ends ten.Refused w e c = fail_ends _ _ w (stays w e c)
  meaning_ends (ten.Violation x) w e c = fail_ends _ _ w (stays w e c)

-- a step, which is the container's or not
record EndsIn (x : Bool) (w v : State) : Type 0 where
  still : w.by_peer ≡ true → v.by_peer ≡ true
  new : x ≡ true → is_closing w.conn ≡ false → is_closing v.conn ≡ true → v.by_peer ≡ true

same_peer : (w v : State) → v.by_peer ≡ w.by_peer → EndsIn false w v
same_peer w v e = record { still = λ f. e ∙ f; new = λ x f g. absurd cc }

of_ends : (x : Bool) (w v : State) → Ends (is_closing w.conn) w.by_peer v → EndsIn x w v
of_ends x w v e = record { still = e.still; new = λ f. e.new }

if_ends : (x b : Bool) (w v u : State) → EndsIn x w v → EndsIn x w u → EndsIn x w (if b then v else u)
if_ends x true w v u e f = e
if_ends x false w v u e f = f

itself_ends : (x : Bool) (w v : State) → v.by_peer ≡ w.by_peer → is_closing v.conn ≡ is_closing w.conn → EndsIn x w v
itself_ends x w v e c = of_ends x w v (stays (is_closing w.conn) w.by_peer v e c)

step_ends : (s : Step) (h : List Step) → ArePicks (s ∷ h) → EndsIn (is_containers s) (before h) (before (s ∷ h))
step_ends (Began site number ms) h p = record { still = λ f. absurd (clash _ f (ap (λ (x : List Step). (before x).by_peer) p.0)); new = λ x f g. absurd cc }
step_ends (Moment ms) h p = same_peer (before h) _ refl
step_ends (Fed Client) h p = same_peer (before h) _ refl
step_ends (Silent Client) h p = same_peer (before h) _ refl
step_ends (Silent Up) h p = of_ends true (before h) _ (fail_ends _ _ _ _ _ (stays _ _ _ refl refl))
step_ends (Queued u) h p = if_ends false (before h).out_of_memory (before h) (before h) _ (same_peer (before h) (before h) refl) (same_peer (before h) _ refl)
step_ends (Came u) h p = if_ends false (before h).out_of_memory (before h) (before h) _ (same_peer (before h) (before h) refl) (same_peer (before h) _ refl)
step_ends TakenUp h p =
    if_ends false (not (before h).out_of_memory && (before h).leaving) (before h) _ (before h) (same_peer (before h) _ refl) (same_peer (before h) (before h) refl)
step_ends (Heard u) h p =
    if_ends true (before h).out_of_memory (before h) (before h) _ (itself_ends true (before h) (before h) refl refl)
    (of_ends true (before h) _ (meaning_ends _ _ (meaning_by (before h).up.container u) (record (before h) { up = heard_up u (before h).up }) refl refl))
step_ends (Joined link.Ok) h p = same_peer (before h) _ refl
step_ends (Joined link.Failed) h p = of_ends true (before h) _ (fail_ends _ _ _ None _ (stays _ _ _ refl refl))
step_ends (Lost Client loss.Ended) h p = same_peer (before h) _ refl
step_ends (Lost Up loss.Ended) h p = of_ends true (before h) _ (fail_ends _ _ _ None _ (stays _ _ _ refl refl))
step_ends (Lost Up loss.Failed) h p = of_ends true (before h) _ (fail_ends _ _ _ None _ (stays _ _ _ refl refl))
step_ends (Gave (ToClient u) text) h p = same_peer (before h) _ refl
step_ends (Gave (ToUp u) text) h p = same_peer (before h) _ refl
step_ends (Whole Client) h p = same_peer (before h) _ refl
step_ends OutOfMemory h p = same_peer (before h) _ refl
step_ends (Lost Up loss.Shut) h p = itself_ends true (before h) _ refl refl
step_ends x h p = same_peer (before h) _ refl

ended_peer : (h : List Step) → ArePicks h → ended_by_container h ≡ true → (before h).by_peer ≡ true
ended_peer [] p e = absurd cc
ended_peer (s ∷ h) p e = by (is_closing (connection h)) refl (is_closing (connection (s ∷ h))) refl (ended_peer h p.1) e
  where
    both : (a b : Bool) → (a && b) ≡ true → (a ≡ true) × (b ≡ true)
    both true b f = (refl, f)
    both false b f = absurd cc

    by : (k : Bool) → is_closing (connection h) ≡ k → (k' : Bool) → is_closing (connection (s ∷ h)) ≡ k' → (ended_by_container h ≡ true → (before h).by_peer ≡ true)
        → (if k then ended_by_container h else k' && is_containers s) ≡ true → (before (s ∷ h)).by_peer ≡ true
    by true f k' g old i = (step_ends s h p).still (old i)
    by false f k' g old i =
        let x = both k' (is_containers s) i in
        (step_ends s h p).new x.1 (ap is_closing (conn_is (known h p.1)) ∙ f) (ap is_closing (conn_is (known (s ∷ h) p)) ∙ g ∙ x.0)

-- the connection isn't closing, or its container closed it
pub still_tells : (h : List Step) → ArePicks h → (is_closing (connection h) ≡ false) ⊎ (ended_by_container h ≡ true) → (not (is_closing (before h).conn) || (before h).by_peer) ≡ true
still_tells h p (inl e) = ap (λ (b : Bool). not b || (before h).by_peer) (ap is_closing (conn_is (known h p)) ∙ e)
still_tells h p (inr e) = by (is_closing (before h).conn) (before h).by_peer (ended_peer h p e)
  where
    by : (c b : Bool) → b ≡ true → (not c || b) ≡ true
    by true b f = f
    by false b f = refl

pub tells_all : (h : List Step) → ArePicks h → ran_out_in h ≡ false → (is_closing (connection h) ≡ false) ⊎ (ended_by_container h ≡ true) → may_confirm_all (before h) ≡ true
tells_all h p memory on = ap (λ (b : Bool). not (b || is_closing (before h).conn) || (before h).by_peer) (memory_is (known h p) ∙ memory) ∙ still_tells h p on

-- or no connection.close and no close-ok was sent whole
pub may_end_now : (h : List Step) → ArePicks h → MayEnd h → may_end (before h) ≡ true
may_end_now h p m =
    ap (λ (b : Bool). not (b || ((before h).sent_last.close || (before h).sent_last.close_ok))) (memory_is (known h p) ∙ m.memory)
    ∙ ap (λ (b : Bool). not (b || (before h).sent_last.close_ok)) ((sends h p).close_is ∙ m.unclosed)
    ∙ ap not ((sends h p).close_ok_is ∙ m.unanswered)

tells_some : (h : List Step) → ArePicks h → ran_out_in h ≡ false → (is_closing (connection h) ≡ false) ⊎ ((ended_by_container h ≡ true) ⊎ MayEnd h)
    → may_confirm_some (before h) ≡ true
tells_some h p memory (inl on) = ap (λ (b : Bool). b || may_end (before h)) (tells_all h p memory (inl on))
tells_some h p memory (inr (inl on)) = ap (λ (b : Bool). b || may_end (before h)) (tells_all h p memory (inr on))
tells_some h p memory (inr (inr m)) = or_right (may_confirm_all (before h)) _ (may_end_now h p m)

-- what is owed for publishes of a channel that the container closed may go
pub closed_goes : (h : List Step) (n : ℕ) → n < 256 → ArePicks h → is_some (path_life h n) ≡ true → closes_since n h ≡ 0 → by_container h n ≡ true
    → may_confirm (may_confirm_all (before h)) (life_at (before h).lives n) ≡ true
closed_goes h n less p there none c = by (channel_at (before h).conn n) (holds n h less p)
  where
    l : Life
    l = life_at (before h).lives n

    all : Bool
    all = may_confirm_all (before h)

    s : StandsIn n h
    s = stands n h less p there

    peer : l.by_peer ≡ true → may_confirm all l ≡ true
    peer e = ap (λ (b : Bool). if b then l.by_peer else all) (over_by _ _ _ l _ s e) ∙ e

    by : (x : Channel91) → Holds (closes_since n h) (by_container h n) x l → may_confirm all l ≡ true
    by channel.Free x = peer (x none c)
    by channel.Open x = ap (λ (b : Bool). if b then l.by_peer else all) x ∙ or_right (may_answer (before h)) _ (s.only x c)
    by channel.Closing x = peer (x none c)
    by channel.Told x = absurd (omega (arith, x, none))

-- and so may the rest of a return that is begun
pub goes_with : (all : Bool) (l : Life) → may_confirm all l ≡ true → may_go_on all l ≡ true
goes_with all l e = by l.over l.by_peer all e
  where
    by : (o b a : Bool) → (if o then b else a) ≡ true → (a || (o && b)) ≡ true
    by o b true f = refl
    by true true false f = refl
    by true false false f = absurd cc
    by false b false f = absurd cc

-- ---- what is owed to the client

-- nothing is owed for publishes where the row may go and none goes
record IsQuiet (w : State) (n : ℕ) : Type 0 where
  return : next_return (path_at w.paths n) ≡ None
  confirm : next_confirm (path_at w.paths n) ≡ None

silent : (h : List Step) (n : ℕ) → ArePicks h → n ≤ CHANNEL_MAX → (before h).out_of_memory ≡ false → may_confirm_some (before h) ≡ true
    → may_confirm (may_confirm_all (before h)) (life_at (before h).lives n) ≡ true → pick (before h) Client ≡ None → IsQuiet (before h) n
silent h n p below memory some can e = record {
  return = no_return n (next_return (path_at w.paths n))
      (going_on n w (goes_with (may_confirm_all w) (life_at w.lives n) can) (at (contents_on (may_confirm_all w) w.paths) (if_so_none (may_return w) (contents w) backs (left_none cs _ units))))
      (left_none _ _ told);
  confirm = no_confirm n (next_confirm (path_at w.paths n)) (right_none (return_on true n (next_return (path_at w.paths n))) _ told);
}
  where
    w : State
    w = before h

    backs : may_return (before h) ≡ true
    backs = ap (λ (b : Bool). not b && may_confirm_some (before h)) memory ∙ some

    cs : List Reply
    cs = if_so (may_return (before h)) (contents (before h))

    units : client_units (before h) ≡ []
    units = left_none (client_units (before h)) _ (none_in ToClient (client_rows (before h)) e)

    at : (f : ℕ → Life → List Reply) → each f 0 (before h).lives ≡ [] → f n (life_at (before h).lives n) ≡ []
    at f g = row_none f n (before h).lives (has_life h n p below) g

    behind : later h ≡ []
    behind =
        right_none (if_so (may_answer (before h)) (answers (before h))) (later h)
        (right_none (openings (opening h)) (if_so (may_answer (before h)) (answers (before h)) ++ later h)
        (right_none (if_so (may_answer (before h)) (writings (before h))) (openings (opening h) ++ (if_so (may_answer (before h)) (answers (before h)) ++ later h)) (right_none cs _ units)))

    row : confirms_on (not (before h).out_of_memory) (may_confirm_all (before h)) (before h).paths n (life_at (before h).lives n) ≡ []
    row =
        at (confirms_on (not (before h).out_of_memory) (may_confirm_all (before h)) (before h).paths)
        (if_so_none (may_confirm_some (before h)) (confirms (before h)) some (left_none (if_so (may_confirm_some (before h)) (confirms (before h))) (last_rows h) behind))

    told : return_on true n (next_return (path_at (before h).paths n)) ++ confirm_on true n (next_confirm (path_at (before h).paths n)) ≡ []
    told = sym (confirms_are n (before h) memory can) ∙ row

-- what is owed for publishes of such a channel may go
can_tell : (h : List Step) (n life : ℕ) → n < 256 → ArePicks h → path_life h n ≡ Some life → IsToTell h n → may_confirm (may_confirm_all (before h)) (life_at (before h).lives n) ≡ true
can_tell h n life less p l t = by t.called
  where
    least : n ≤ CHANNEL_MAX
    least = let all : CHANNEL_MAX ≡ 255 = refl in omega (arith, less, all)

    by : IsCalledFor h n → may_confirm (may_confirm_all (before h)) (life_at (before h).lives n) ≡ true
    by (inl on) =
        ap (λ (b : Bool). if b then (life_at (before h).lives n).by_peer else may_confirm_all (before h)) (goes_on h n p least (ap is_some l) on)
        ∙ ap (λ (b : Bool). b || (before h).by_peer) (may_write h p (is_calm h n p on))
    by (inr c) = closed_goes h n less p (ap is_some l) t.unclosed c

module _ (publishes : PublishesAre) (offered : OfferedAre) (returns : ReturnsAre) (most : MostAre) (below : LivesBelow) where
  told : (h : List Step) (n life : ℕ) → ArePicks h → path_life h n ≡ Some life → IsToTell h n → pick (before h) Client ≡ None → IsTold h n life
  told h n life p l t e = record {
    confirms = λ k owed. no_some (next_confirm_of (publishes_open life ps))
        (offered life k ps owed (λ m le u. all_back ps most backs m u.0))
        (sym (ap (λ (x : PublishState). next_confirm_of x.list) (publishes life es)) ∙ ap next_confirm (sym path) ∙ q.confirm);
    returns = backs;
  }
    where
      es : List PathEvent
      es = path_events h n

      ps : List PublishEvent
      ps = publishes_of life (path_events h n)

      least : n ≤ CHANNEL_MAX
      least = below h n life l

      less : n < 256
      less = let more : n ≤ CHANNEL_MAX = below h n life l in let all : CHANNEL_MAX ≡ 255 = refl in omega (arith, more, all)

      path : path_at (before h).paths n ≡ after_events life (path_events h n)
      path = path_of h n life p (below h n life l) l

      memory : (before h).out_of_memory ≡ false
      memory = memory_is (known h p) ∙ t.memory

      q : IsQuiet (before h) n
      q = silent h n p (below h n life l) memory (tells_some h p t.memory t.connection) (can_tell h n life less p l t) e

      backs : return_by (publishes_of life (path_events h n)) ≡ None
      backs =
          sym (returns life (publishes_of life (path_events h n))) ∙ sym (ap (λ (x : PublishState). next_return_of x.list) (publishes life (path_events h n)))
          ∙ ap next_return (sym path) ∙ q.return

module _ (publishes : PublishesAre) (offered : OfferedAre) (returns : ReturnsAre) (most : MostAre) (arrives : DeliveriesAre) (due : DueAre) (tags : TagsAre)
    (globals : GlobalsAre) (frames : ContentIs) (begun : BegunBelow) (below : LivesBelow) where
  pub serves : (h : List Step) → ArePicks h → ServesClients h
  serves h p e n life l = (
    λ on. served publishes offered returns most arrives due tags globals frames begun below h n life p l on e,
    λ t. told publishes offered returns most below h n life p l t e,
  )
