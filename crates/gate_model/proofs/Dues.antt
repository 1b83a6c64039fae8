-- Where nothing goes to a container, no begin, no flow of a session, no end and no close is owed to it.
use Rattle.std.proofs.Common.{◌≡◌, ◌⊎◌, inl, inr, ℕ, zero, suc, ◌+◌, ◌-◌, ◌<◌, ◌≤◌, nat_le, not, ◌&&◌, ◌||◌, Bool, true, false, if◌then◌else◌, List, [], ◌∷◌, ◌++◌}
use Rattle.std.proofs.Common.{length, Option, None, Some, is_some, refl, sym, ap, ◌∙◌, arith, subst}
use Rattle.std.proofs.lemmas.Bool.Decides.{nat_tests}
use Rattle.std.specs.List.{list_any}
use Rattle.std.specs.Prelude.{count_by}
use Rattle.machine_091.specs.State.{is_closing, is_open}
use Rattle.machine_091.specs.declared.state.Connection.{Connection}
use Rattle.machine_10.specs.declared.state.Upstream.{Upstream}
use Rattle.publish_path.specs.Offers.{is_pending}
use Rattle.publish_path.specs.Publishes.{PublishState}
use Rattle.session_path.specs.Due as path_due
use Rattle.session_path.specs.Events.{publishes_of}
use Rattle.session_path.specs.Path.{PathState}
use Rattle.gate_model.specs.Asked.{is_up_open}
use Rattle.gate_model.specs.Begins.{begun_at}
use Rattle.gate_model.specs.Due.{attaches, begins, carried_rows, close_behind, ends, flows_on, is_end_due, is_lingered, is_long_ago, link_flows, none_left, other_rows}
use Rattle.gate_model.specs.Due.{rows_in, session_flows, session_rows, transfers, unless_out}
use Rattle.gate_model.specs.Dues.{Done, EndsContainers, Late, MustLeave, NoneDue, Overdue, RanOut, begins_session, has_asked}
use Rattle.gate_model.specs.Folds.{carrying, connection, container, moment_in, peers, ran_out_in, sent_up}
use Rattle.gate_model.specs.Linger.{AreOver}
use Rattle.gate_model.specs.Lives.{any_life, is_begun, is_carried, is_ended, is_free, life_at, session_in}
use Rattle.gate_model.specs.Paths.{path_at}
use Rattle.gate_model.specs.Picks.{ArePicks}
use Rattle.gate_model.specs.Publishing.{opens_channel, path_events, path_life}
use Rattle.gate_model.specs.Session.{is_flow_owed}
use Rattle.gate_model.specs.State.{State, Step, before}
use Rattle.gate_model.specs.Takes.{left_at}
use Rattle.gate_model.specs.Upstream.{opening_rows, when_up}
use Rattle.gate_model.specs.declared.life.Life.{Life}
use Rattle.gate_model.specs.declared.outgoing.UpUnit.{UpUnit}
use Rattle.gate_model.specs.declared.outgoing.UpUnit.TheVariants as up
use Rattle.gate_model.specs.declared.timers.TheConstants.{LINGER_LIMIT}
use Rattle.gate_model.proofs.Basics.{and_both, left_false, or_right, right_false}
use Rattle.gate_model.proofs.Carrying.{carries_in}
use Rattle.gate_model.proofs.Closed.{none_open}
use Rattle.gate_model.proofs.Closings.{closing_now}
use Rattle.gate_model.proofs.Connections.{clash}
use Rattle.gate_model.proofs.Contents.{has_life}
use Rattle.gate_model.proofs.Fates.{PublishesAre, path_of}
use Rattle.gate_model.proofs.Known.{Known, closed_is, conn_is, container_is, known, memory_is, moment_is}
use Rattle.gate_model.proofs.Lingering.{none_left_over}
use Rattle.gate_model.proofs.Lives.{lives_all}
use Rattle.gate_model.proofs.Living.{Begins, Closes, Ends, Fails, Frees, LeavesIn, Stays, opened_asks, step_leaves}
use Rattle.gate_model.proofs.Rests.{LivesBelow, none_up, rows_none}
use Rattle.gate_model.proofs.Rows.{left_none, right_none, row_none}
use Rattle.gate_model.proofs.Shutting.{InAll, InLife, Shut, shut_by}
use Rattle.gate_model.proofs.Ups.{up_says}

-- ---- a channel that is open and didn't ask for its session asks for it

abbrev AsksIn : ℕ → List Step → Type 0
AsksIn n h = is_open (before h).conn n ≡ true → has_asked n h ≡ false → (life_at (before h).lives n).begin ≡ true

asks_in : (n : ℕ) (h : List Step) → n < 256 → ArePicks h → is_some (path_life h n) ≡ true → AsksIn n h
asks_in n [] less p there = absurd cc
asks_in n (s ∷ h) less p there = by (asks_in n h less p.1) (opens_channel n h s) refl there
  where
    said : opens_channel n h s ≡ false → has_asked n (s ∷ h) ≡ false → (begins_session n s || has_asked n h) ≡ false
    said e f = sym (ap (λ (b : Bool). if b then false else begins_session n s || has_asked n h) e) ∙ f

    later : opens_channel n h s ≡ false → AsksIn n h → LeavesIn (begun_at n h s) (left_at n h s) (begins_session n s) n (before h) (before (s ∷ h)) → AsksIn n (s ∷ h)
    later e old (Stays o i x y) = λ on f. i.begin (left_false (begins_session n s) (has_asked n h) (said e f)) ∙ old (sym o ∙ on) (right_false (begins_session n s) (has_asked n h) (said e f))
    later e old (Begins o c v a b x y) = λ on f. b ∙ old (sym o ∙ on) (right_false (begins_session n s) (has_asked n h) (said e f))
    later e old (Ends o i y) = λ on. absurd (clash _ on o)
    later e old (Closes o y v a) = λ on. absurd (clash _ on o)
    later e old (Frees o y) = λ on. absurd (clash _ on o)
    later e old (Fails b o y) = λ on. absurd (clash _ on o)

    by : (is_some (path_life h n) ≡ true → AsksIn n h) → (b : Bool) → opens_channel n h s ≡ b
        → is_some (if b then Some ((peers h).opened + 1) else path_life h n) ≡ true → AsksIn n (s ∷ h)
    by old true e t = λ on f. (opened_asks n s h less p.1 e).begin
    by old false e t = later e (old t) (step_leaves n s h less p t e)

-- ---- rows that are empty

when_up_none : (b : Bool) (u : UpUnit) → when_up b u ≡ [] → b ≡ false
when_up_none true u e = absurd cc
when_up_none false u e = refl

ends_none : (closing : Bool) (w : State) → rows_in closing w ≡ [] → ends closing w ≡ []
ends_none true w e = left_none (ends true w) (close_behind w) (right_none (session_rows w) (ends true w ++ close_behind w) (left_none (other_rows true w) _ e))
ends_none false w e =
    right_none (session_rows w) (ends false w)
    (right_none (begins w) (session_rows w ++ ends false w) (right_none (opening_rows w.up.pending) (begins w ++ (session_rows w ++ ends false w)) (left_none (other_rows false w) _ e)))

begins_none : (w : State) → rows_in false w ≡ [] → begins w ≡ []
begins_none w e =
    left_none (begins w) (session_rows w ++ ends false w)
    (right_none (opening_rows w.up.pending) (begins w ++ (session_rows w ++ ends false w)) (left_none (other_rows false w) _ e))

close_none : (w : State) → rows_in true w ≡ [] → close_behind w ≡ []
close_none w e = right_none (ends true w) (close_behind w) (right_none (session_rows w) (ends true w ++ close_behind w) (left_none (other_rows true w) _ e))

flows_none : (w : State) → w.out_of_memory ≡ false → session_rows w ≡ [] → session_flows w ≡ []
flows_none w m e =
    left_none (session_flows w) (transfers w) (right_none (link_flows w) (session_flows w ++ transfers w) (right_none (attaches w) (link_flows w ++ (session_flows w ++ transfers w))
    (ap (λ (b : Bool). unless_out b (carried_rows w)) (sym m) ∙ left_none (unless_out w.out_of_memory (carried_rows w)) _ e)))

no_life_passes : (t : ℕ → Life → Bool) (k : ℕ) (ls : List Life) → ((n : ℕ) → n < length ls → t (k + n) (life_at ls n) ≡ false) → any_life t k ls ≡ false
no_life_passes t k [] f = refl
no_life_passes t k (l ∷ ls) f =
    let here : k + 0 ≡ k = omega arith in
    ap (λ (b : Bool). b || any_life t (k + 1) ls) (ap (λ (m : ℕ). t m l) (sym here) ∙ f zero (omega arith))
    ∙ no_life_passes t (k + 1) ls
    (λ n less. let next : (k + 1) + n ≡ k + suc n = omega arith in ap (λ (m : ℕ). t m (life_at ls n)) next ∙ f (suc n) (omega (arith, less)))

-- ---- ends

-- what an end that isn't due has
record NotDue (ended begun goes lingered : Bool) : Type 0 where
  answered : ended ≡ false
  waits : begun ≡ true → goes ≡ true → lingered ≡ false

not_due : (ended begun goes lingered : Bool) → (ended || (begun && (goes && lingered))) ≡ false → NotDue ended begun goes lingered
not_due true begun goes lingered e = absurd cc
not_due false true true lingered e = record { answered = refl; waits = λ f g. e }
not_due false true false lingered e = record { answered = refl; waits = λ f g. absurd cc }
not_due false false goes lingered e = record { answered = refl; waits = λ f g. absurd cc }

-- nothing lingers any more
record NotLong (out done channel all : Bool) : Type 0 where
  memory : out ≡ false
  left : done ≡ false
  own : channel ≡ false
  recent : all ≡ false

not_long : (out done channel all : Bool) → (out || (done || (channel || all))) ≡ false → NotLong out done channel all
not_long true done channel all e = absurd cc
not_long false true channel all e = absurd cc
not_long false false true all e = absurd cc
not_long false false false all e = record { memory = refl; left = refl; own = refl; recent = e }

long_ago : (at ms : ℕ) → at + LINGER_LIMIT ≤ ms → nat_le LINGER_LIMIT (ms - at) ≡ true
long_ago at ms e = grind (arith, nat_tests)

goes_or : (closing on : Bool) → (closing ≡ true) ⊎ (on ≡ false) → (closing || not on) ≡ true
goes_or true on e = refl
goes_or false true (inl e) = absurd cc
goes_or false true (inr e) = absurd cc
goes_or false false e = refl

-- where a channel is open the connection isn't closing
open_runs : (h : List Step) (n : ℕ) → ArePicks h → is_open (before h).conn n ≡ true → ((before h).out_of_memory || is_closing (before h).conn) ≡ false
open_runs h n p on = by ((before h).out_of_memory || is_closing (before h).conn) refl
  where
    by : (b : Bool) → ((before h).out_of_memory || is_closing (before h).conn) ≡ b → b ≡ false
    by true e = absurd (clash _ on (none_open n (before h).conn (ap is_closing (conn_is (known h p)) ∙ closing_now h true p e)))
    by false e = refl

module _ (publishes : PublishesAre) (below : LivesBelow) where
  -- a session that is to be ended lingered
  lingers : (h : List Step) (n life : ℕ) → ArePicks h → path_life h n ≡ Some life → MustLeave h n → is_lingered (before h) n ≡ false → ⊥
  lingers h n life p l m e = by m (not_long (before h).out_of_memory (path_due.is_done (path_at (before h).paths n)) (is_long_ago (life_at (before h).lives n).closed_at (before h).moment) (is_long_ago (before h).closed_at (before h).moment) e)
    where
      k : Known h
      k = known h p

      done : AreOver h n → path_due.is_done (path_at (before h).paths n) ≡ true
      done over =
          let none : count_by (is_pending None) (path_at (before h).paths n).publishes.list ≡ 0 =
          ap (λ (s : PathState). count_by (is_pending None) s.publishes.list) (path_of h n life p (below h n life l) l)
          ∙ ap (λ (s : PublishState). count_by (is_pending None) s.list) (publishes life (path_events h n))
          ∙ none_left_over life (publishes_of life (path_events h n)) (λ i taken. over life i l taken) in
          grind (arith, nat_tests, none)

      old : (at : ℕ) (o : Option ℕ) → o ≡ Some at → at + LINGER_LIMIT ≤ moment_in h → is_long_ago o (before h).moment ≡ true
      old at o e less =
          ap (λ (x : Option ℕ). is_long_ago x (before h).moment) e ∙ long_ago at (before h).moment (subst (λ (ms : ℕ). at + LINGER_LIMIT ≤ ms) (sym (moment_is k)) less)

      by : MustLeave h n
          → NotLong (before h).out_of_memory (path_due.is_done (path_at (before h).paths n)) (is_long_ago (life_at (before h).lives n).closed_at (before h).moment)
          (is_long_ago (before h).closed_at (before h).moment) → ⊥
      by (Done over) x = clash _ (done over) x.left
      by (Late at c less) x = own (shut_by n h at (subst (λ (m : ℕ). n < m) (lives_all h p) (has_life h n p (below h n life l))) p (ap is_some l) c)
        where
          own : Shut h n at → ⊥
          own (InLife e) = clash _ (old at (life_at (before h).lives n).closed_at e less) x.own
          own (InAll early e before_it) = clash _ (old early (before h).closed_at (closed_is k ∙ e) (omega (arith, before_it, less))) x.recent
      by (Overdue at c less) x = clash _ (old at (before h).closed_at (closed_is k ∙ c) less) x.recent
      by (RanOut out) x = clash _ (memory_is k ∙ out) x.memory

  none_due : (h : List Step) (n life : ℕ) → ArePicks h → path_life h n ≡ Some life
      → rows_in ((before h).out_of_memory || is_closing (before h).conn) (before h) ≡ [] → NoneDue h n life
  none_due h n life p l none = record {
    begins = begun;
    flows = λ memory on. flows memory on (row_none (flows_on (before h).up.container) n (before h).lives inside (flows_none (before h) (memory_is k ∙ memory) (rows_none ((before h).out_of_memory || is_closing (before h).conn) (before h) none)));
    answered = ap (λ (o : Option Upstream). is_ended (session_in o n)) (sym (container_is k)) ∙ end.answered;
    ended = λ b g m. lingers h n life p l m
        (end.waits (ap (λ (o : Option Upstream). is_begun (session_in o n)) (container_is k) ∙ b) (goes g));
  }
    where
      k : Known h
      k = known h p

      inside : n < length (before h).lives
      inside = has_life h n p (below h n life l)

      less : n < 256
      less = subst (λ (m : ℕ). n < m) (lives_all h p) (has_life h n p (below h n life l))

      end : NotDue (is_ended (session_in (before h).up.container n)) (is_begun (session_in (before h).up.container n))
          (((before h).out_of_memory || is_closing (before h).conn) || not (is_open (before h).conn n)) (is_lingered (before h) n)
      end = not_due _ _ _ _
          (when_up_none (is_end_due ((before h).out_of_memory || is_closing (before h).conn) (before h) n) (up.End n (life_at (before h).lives n).why)
          (row_none (λ (m : ℕ) (l : Life). when_up (is_end_due ((before h).out_of_memory || is_closing (before h).conn) (before h) m) (up.End m l.why)) n (before h).lives
          (has_life h n p (below h n life l)) (ends_none ((before h).out_of_memory || is_closing (before h).conn) (before h) none)))

      goes : (is_closing (connection h) ≡ true) ⊎ (is_open (connection h) n ≡ false)
          → (((before h).out_of_memory || is_closing (before h).conn) || not (is_open (before h).conn n)) ≡ true
      goes (inl c) = goes_or _ (is_open (before h).conn n) (inl (at ((before h).out_of_memory) (ap is_closing (conn_is k) ∙ c)))
        where
          at : (b : Bool) → is_closing (before h).conn ≡ true → (b || is_closing (before h).conn) ≡ true
          at true e = refl
          at false e = e
      goes (inr c) = goes_or ((before h).out_of_memory || is_closing (before h).conn) _ (inr (ap (λ (d : Connection). is_open d n) (conn_is k) ∙ c))

      flows : ran_out_in h ≡ false → is_carried (session_in (container h) n) ≡ true → flows_on (before h).up.container n (life_at (before h).lives n) ≡ []
          → is_flow_owed (carrying n h) ≡ false
      flows memory on e =
          ap is_flow_owed (sym (carries_in h p n less))
          ∙ sym (ap (λ (b : Bool). b && is_flow_owed (life_at (before h).lives n).session) (ap (λ (o : Option Upstream). is_carried (session_in o n)) (container_is k) ∙ on))
          ∙ when_up_none (is_carried (session_in (before h).up.container n) && is_flow_owed (life_at (before h).lives n).session) _ e

      begun : is_open (connection h) n ≡ true → is_free (session_in (container h) n) ≡ true → has_asked n h ≡ true
      begun on free = at (has_asked n h) refl
        where
          opened : is_open (before h).conn n ≡ true
          opened = ap (λ (d : Connection). is_open d n) (conn_is k) ∙ on

          none_begins : begins (before h) ≡ []
          none_begins = begins_none (before h) (subst (λ (b : Bool). rows_in b (before h) ≡ []) (open_runs h n p opened) none)

          row : ((life_at (before h).lives n).begin && is_free (session_in (before h).up.container n)) ≡ false
          row = when_up_none _ (up.Begin n) (row_none (λ (m : ℕ) (l : Life). when_up (l.begin && is_free (session_in (before h).up.container m)) (up.Begin m)) n (before h).lives inside none_begins)

          is_free_now : is_free (session_in (before h).up.container n) ≡ true
          is_free_now = ap (λ (o : Option Upstream). is_free (session_in o n)) (container_is k) ∙ free

          both : (a b : Bool) → (a && b) ≡ false → a ≡ true → b ≡ true → ⊥
          both true true e f g = cc
          both true false e f g = cc
          both false b e f g = cc

          at : (b : Bool) → has_asked n h ≡ b → b ≡ true
          at true e = refl
          at false e = absurd (both _ _ row (asks_in n h less p (ap is_some l) opened e) is_free_now)

  pub ends_containers : (h : List Step) → ArePicks h → EndsContainers h
  ends_containers h p e side sent = record {
    channels = λ n life l. none_due h n life p l rows;
    close = λ c o all. closes c o all;
  }
    where
      k : Known h
      k = known h p

      rows : rows_in ((before h).out_of_memory || is_closing (before h).conn) (before h) ≡ []
      rows = none_up h p e side sent

      closing : is_closing (connection h) ≡ true → ((before h).out_of_memory || is_closing (before h).conn) ≡ true
      closing c = or_right (before h).out_of_memory _ (ap is_closing (conn_is k) ∙ c)

      closes : is_closing (connection h) ≡ true → list_any is_up_open (sent_up h) ≡ true
          → ((n : ℕ) → n < 256 → (is_ended (session_in (container h) n) || is_begun (session_in (container h) n)) ≡ false) → ⊥
      closes c o all = clash _ both (when_up_none _ (up.Close (before h).up.condition) (close_none (before h) (subst (λ (b : Bool). rows_in b (before h) ≡ []) (closing c) rows)))
        where
          ended : (n : ℕ) → n < length (before h).lives → (is_ended (session_in (before h).up.container (0 + n)) || is_begun (session_in (before h).up.container (0 + n))) ≡ false
          ended n less =
              let here : 0 + n ≡ n = omega arith in
              ap (λ (m : ℕ). is_ended (session_in (before h).up.container m) || is_begun (session_in (before h).up.container m)) here
              ∙ ap (λ (x : Option Upstream). is_ended (session_in x n) || is_begun (session_in x n)) (container_is k)
              ∙ all n (subst (λ (m : ℕ). n < m) (lives_all h p) less)

          both : (none_left (before h) && (before h).up.sent.«open») ≡ true
          both = and_both (none_left (before h)) _ (ap not (no_life_passes (λ (m : ℕ) (l : Life). is_ended (session_in (before h).up.container m) || is_begun (session_in (before h).up.container m)) 0 (before h).lives ended)) ((up_says h p).open_is ∙ o)
