-- Each delivery of a life had its disposition before the gateway's end of its session, and each of a link before its detach of that.
use Rattle.std.proofs.Common.{◌≡◌, ℕ, zero, suc, ◌+◌, ◌<◌, ◌≤◌, ◌⊎◌, inl, inr, ◌&&◌, ◌||◌, not, Bool, true, false}
use Rattle.std.proofs.Common.{if◌then◌else◌, List, [], ◌∷◌, ◌++◌, length, map, Option, None, Some}
use Rattle.std.proofs.Common.{is_some, option_map, refl, sym, ap, ◌∙◌, subst, arith, ◌==◌, nat_lt}
use Rattle.std.specs.Prelude.{IfSome, count_by, filter, find}
use Rattle.open_items.specs.Numbers.{least}
use Rattle.open_items.proofs.Counted.{least_is}
use Rattle.open_items.proofs.Filtered.{all_find}
use Rattle.consume_path.specs.Deliveries.{DeliveryEvent, DeliveryState, open_after}
use Rattle.consume_path.specs.Journal.{IsTaken, fate_of, is_closed, is_uncovered, numbers_of}
use Rattle.consume_path.specs.Items.{is_on}
use Rattle.consume_path.specs.Laws.{are_covered, lacks_settle}
use Rattle.consume_path.specs.Offers.{holds, is_all_covered, is_over, next_settle_of}
use Rattle.consume_path.specs.declared.delivery.NextSettle.{NextSettle}
use Rattle.gate_outside.specs.declared.ports.End.TheVariants.{Up}
use Rattle.gate_relay.specs.Sides.{is_readable}
use Rattle.machine_091.specs.State.{channel_at, is_closing, is_closing_phase, is_open, is_open_channel, is_running}
use Rattle.machine_091.specs.declared.limits.TheConstants.{CHANNEL_MAX}
use Rattle.machine_091.specs.declared.state.Connection.{Connection}
use Rattle.machine_091.specs.declared.state.Phase91.{Phase91}
use Rattle.machine_091.specs.declared.state.Phase91.TheVariants as phase
use Rattle.machine_10.specs.declared.state.Session.{Session}
use Rattle.machine_10.specs.declared.state.Session.TheVariants as session
use Rattle.machine_10.specs.declared.state.Upstream.{Upstream}
use Rattle.machine_10.proofs.SessionSteps.{is_asked}
use Rattle.performatives_10.specs.declared.condition.Condition.{Condition}
use Rattle.publish_path.specs.Offers.{is_pending}
use Rattle.session_path.specs.Due.{next_detach, next_dispose}
use Rattle.session_path.specs.Events.{PathEvent, after_events, deliveries_of}
use Rattle.session_path.specs.Links.{handle_of, has_number, is_to_part, is_stage_open, is_wanting, lower, lowest}
use Rattle.session_path.specs.Path.{IsThere, PathState, given_of, is_idle, is_resting, lower_of, parts}
use Rattle.session_path.specs.declared.path.PathLink.{PathLink}
use Rattle.session_path.proofs.Idle.{detaching_there}
use Rattle.gate_model.specs.Due.{may_idle, other_rows, begins, carried_rows, close_behind, detaches, disposals, dispose_row}
use Rattle.gate_model.specs.Due.{ends, is_end, is_end_due, is_lingered, none_left, pick, row_on, rows_in}
use Rattle.gate_model.specs.Due.{session_rows, settlings, unless_out, up_rows}
use Rattle.gate_model.specs.Folds.{connection}
use Rattle.gate_model.specs.Lives.{each, is_begun, is_carried, is_ended, life_at, session_in}
use Rattle.gate_model.specs.Paths.{or_no_path, path_at, slot_at}
use Rattle.gate_model.specs.Picks.{ArePicks}
use Rattle.gate_model.specs.Publishing.{path_events}
use Rattle.gate_model.specs.Releases.{AreReturned, AreReturnedOn, MayEnd, MayPart, Releases}
use Rattle.gate_model.specs.State.{Gave, State, Step, before}
use Rattle.gate_model.specs.Upstream.{first, opening_rows, when_up}
use Rattle.gate_model.specs.declared.channel.SessionUnit.{SessionUnit}
use Rattle.gate_model.specs.declared.channel.SessionUnit.TheVariants as unit
use Rattle.gate_model.specs.declared.life.Life.{Life}
use Rattle.gate_model.specs.declared.outgoing.Outgoing.TheVariants.{ToUp}
use Rattle.gate_model.specs.declared.outgoing.UpUnit.{UpUnit}
use Rattle.gate_model.specs.declared.outgoing.UpUnit.TheVariants as up
use Rattle.gate_model.proofs.Arrived.{ended_shut, none_asked}
use Rattle.gate_model.proofs.Closed.{closed_path_is}
use Rattle.gate_model.proofs.Connections.{clash}
use Rattle.gate_model.proofs.Detaching.{DetachGoes, MayDetach, may_detach}
use Rattle.gate_model.proofs.Fates.{IsLived, lived}
use Rattle.gate_model.proofs.Firsts.{FirstIs, both_are, each_is, when_up_is}
use Rattle.gate_model.proofs.Known.{Known, conn_is, container_is, known, memory_is}
use Rattle.gate_model.proofs.Leaving.{CoveredAre, IsSafe, safe_is}
use Rattle.gate_model.proofs.Lives.{lives_all}
use Rattle.gate_model.proofs.Publishing.{path_is}
use Rattle.gate_model.proofs.Parted.{Covers}
use Rattle.gate_model.proofs.Receivers.{LinksAre}
use Rattle.gate_model.proofs.Reports.{DeliveriesAre}
use Rattle.gate_model.proofs.Rows.{left_none, right_none}
use Rattle.gate_model.proofs.Said.{shuts_in}

-- ---- an end goes where its session's rows are empty

abbrev Other : UpUnit → Type 0
Other u = is_end u ≡ false

skips : (us vs : List UpUnit) (n : ℕ) (why : Option Condition) → FirstIs Other us → first (us ++ vs) ≡ Some (up.End n why)
    → (us ≡ []) × (first vs ≡ Some (up.End n why))
skips [] vs n why other e = (refl, e)
skips (u ∷ us) vs n why other e =
    let same : u ≡ up.End n why = cc in
    let wrong : true ≡ false = sym (ap is_end same) ∙ other in absurd cc

row_other : {A : Type 0} (c : Option Upstream) (n : ℕ) (o : Option A) (f : A → SessionUnit) → FirstIs Other (row_on c n o f)
row_other c n None f = tt
row_other c n (Some x) f = when_up_is Other (is_carried (session_in c n)) (up.OnSession n (f x)) refl

session_other : (w : State) → FirstIs Other (session_rows w)
session_other w =
    both_are Other (unless_out w.out_of_memory (carried_rows w)) _ (by w.out_of_memory)
    (both_are Other (disposals w) _ (each_is Other _ w.lives (λ n. row_other w.up.container n _ _))
    (both_are Other (settlings w) (detaches w) (each_is Other _ w.lives (λ n. row_other w.up.container n _ _))
    (each_is Other _ w.lives (λ n. row_other w.up.container n _ _))))
  where
    carried : FirstIs Other (carried_rows w)
    carried =
        both_are Other _ _ (each_is Other _ w.lives (λ n. row_other w.up.container n _ _))
        (both_are Other _ _ (each_is Other _ w.lives (λ n. row_other w.up.container n _ _))
        (both_are Other _ _ (each_is Other _ w.lives (λ n. when_up_is Other _ (up.Flow n _ _) refl))
        (each_is Other _ w.lives (λ n. row_other w.up.container n _ _))))

    by : (b : Bool) → FirstIs Other (unless_out b (carried_rows w))
    by true = tt
    by false = carried

opening_other : (w : State) → FirstIs Other (opening_rows w.up.pending)
opening_other w =
    both_are Other _ _ (when_up_is Other w.up.pending.sasl_header up.SaslHeader refl)
    (both_are Other _ _ (when_up_is Other w.up.pending.init up.SaslInit refl)
    (both_are Other _ _ (when_up_is Other w.up.pending.amqp_header up.AmqpHeader refl)
    (when_up_is Other w.up.pending.«open» up.Open refl)))

begins_other : (w : State) → FirstIs Other (begins w)
begins_other w = each_is Other _ w.lives (λ n. when_up_is Other _ (up.Begin n) refl)

-- the end that is the first of its row
record EndOf (t : ℕ → Bool) (low high n : ℕ) : Type 0 where
  due : t n ≡ true
  above : low ≤ n
  below : n < high

end_of : (t : ℕ → Bool) (m : ℕ) (ls : List Life) (n : ℕ) (why : Option Condition)
    → first (each (λ k l. when_up (t k) (up.End k l.why)) m ls) ≡ Some (up.End n why) → EndOf t m (m + length ls) n
end_of t m [] n why e = absurd cc
end_of t m (l ∷ ls) n why e = by (t m) refl e (end_of t (m + 1) ls n why)
  where
    by : (b : Bool) → t m ≡ b → first (when_up b (up.End m l.why) ++ each (λ k l. when_up (t k) (up.End k l.why)) (m + 1) ls) ≡ Some (up.End n why)
        → (first (each (λ k l. when_up (t k) (up.End k l.why)) (m + 1) ls) ≡ Some (up.End n why) → EndOf t (m + 1) ((m + 1) + length ls) n)
        → EndOf t m (m + suc (length ls)) n
    by true g f more =
        let same : m ≡ n = cc in
        record { due = subst (λ (k : ℕ). t k ≡ true) same g; above = omega (arith, same); below = omega (arith, same) }
    by false g f more =
        let r = more f in
        record { due = r.due; above = (let a : m + 1 ≤ n = r.above in omega (arith, a)); below = (let b : n < (m + 1) + length ls = r.below in omega (arith, b)) }

record EndGoes (w : State) (n : ℕ) : Type 0 where
  closing : Bool
  is : closing ≡ (w.out_of_memory || is_closing w.conn)
  readable : is_readable w.up.side ≡ true
  due : is_end_due closing w n ≡ true
  below : n < length w.lives
  none : session_rows w ≡ []

-- an end that goes before others
before_others : (us vs : List UpUnit) (n : ℕ) (why : Option Condition) → FirstIs Other vs → first (us ++ vs) ≡ Some (up.End n why) → first us ≡ Some (up.End n why)
before_others (u ∷ us) vs n why other e = e
before_others [] [] n why other e = absurd cc
before_others [] (v ∷ vs) n why other e =
    let same : v ≡ up.End n why = cc in
    let wrong : true ≡ false = sym (ap is_end same) ∙ other in absurd cc

end_goes : (w : State) (n : ℕ) (why : Option Condition) → pick w Up ≡ Some (ToUp (up.End n why)) → EndGoes w n
end_goes w n why e = at (is_readable w.up.side) (w.up.sent.close) refl (unmap (up_rows w) e)
  where
    unmap : (us : List UpUnit) → first (map ToUp us) ≡ Some (ToUp (up.End n why)) → first us ≡ Some (up.End n why)
    unmap [] f = absurd cc
    unmap (u ∷ us) f = let same : u ≡ up.End n why = cc in ap Some same

    closing : Bool
    closing = w.out_of_memory || is_closing w.conn

    made : (b : Bool) → b ≡ closing → is_readable w.up.side ≡ true → session_rows w ≡ [] → EndOf (is_end_due b w) 0 (0 + length w.lives) n → EndGoes w n
    made b same r none x = record {
      closing = b;
      is = same;
      readable = r;
      due = x.due;
      below = (let less : n < 0 + length w.lives = x.below in omega (arith, less));
      none = none;
    }

    others : (b : Bool) → b ≡ closing → is_readable w.up.side ≡ true → first (other_rows b w) ≡ Some (up.End n why) → EndGoes w n
    others true same r f =
        let s = skips (session_rows w) (ends true w ++ close_behind w) n why (session_other w) f in
        made true same r s.0
        (end_of (is_end_due true w) 0 w.lives n why
        (before_others (ends true w) (close_behind w) n why (when_up_is Other (none_left w && w.up.sent.«open») (up.Close w.up.condition) refl) s.1))
    others false same r f =
        let o = skips (opening_rows w.up.pending) _ n why (opening_other w) f in
        let b = skips (begins w) _ n why (begins_other w) o.1 in
        let s = skips (session_rows w) (ends false w) n why (session_other w) b.1 in
        made false same r s.0 (end_of (is_end_due false w) 0 w.lives n why s.1)

    rows : is_readable w.up.side ≡ true → first (rows_in closing w) ≡ Some (up.End n why) → EndGoes w n
    rows r f =
        others closing refl r
        (before_others (other_rows closing w) (when_up (may_idle w) up.Empty) n why (when_up_is Other (may_idle w) up.Empty refl) f)

    at : (r c : Bool) → is_readable w.up.side ≡ r → first (if r && not c then rows_in closing w else []) ≡ Some (up.End n why) → EndGoes w n
    at true false f g = rows f g
    at true true f g = absurd cc
    at false c f g = absurd cc

-- ---- no disposition is due

each_none : {A : Type 0} (f : ℕ → Life → List A) (m : ℕ) (ls : List Life) (n : ℕ) → n < length ls → each f m ls ≡ [] → f (m + n) (life_at ls n) ≡ []
each_none f m [] n less e = absurd (omega (arith, less))
each_none f m (l ∷ ls) zero less e = let here : m ≡ m + zero = omega arith in subst (λ (k : ℕ). f k l ≡ []) here (left_none (f m l) _ e)
each_none f m (l ∷ ls) (suc n) less e =
    let next : (m + 1) + n ≡ m + suc n = omega arith in
    subst (λ (k : ℕ). f k (life_at ls n) ≡ []) next (each_none f (m + 1) ls n (omega (arith, less)) (right_none (f m l) _ e))

none_due : (w : State) (n : ℕ) → n < length w.lives → disposals w ≡ [] → is_carried (session_in w.up.container n) ≡ true → next_dispose (path_at w.paths n) ≡ None
none_due w n less rows carried = by (next_dispose (path_at w.paths n)) row
  where
    row : dispose_row w.up.container w.paths n (life_at w.lives n) ≡ []
    row = let same : 0 + n ≡ n = omega arith in subst (λ (k : ℕ). dispose_row w.up.container w.paths k (life_at w.lives n) ≡ []) same (each_none (dispose_row w.up.container w.paths) 0 w.lives n less rows)

    by : (o : Option NextSettle) → row_on w.up.container n o (λ x. unit.Dispose x) ≡ [] → o ≡ None
    by None f = refl
    by (Some x) f =
        let some : when_up true (up.OnSession n (unit.Dispose x)) ≡ [] = ap (λ (b : Bool). when_up b (up.OnSession n (unit.Dispose x))) (sym carried) ∙ f in absurd cc

-- ---- ends

abbrev pub ReleasedAre : Type 0
ReleasedAre = (life : ℕ) (h : List DeliveryEvent) → is_closed h ≡ true → next_settle_of (open_after life h) ≡ None → (k : ℕ) → IsTaken h k
    → is_uncovered (fate_of k h) ≡ false

-- the container's begin came, or is waited for
begun_is : (s : Session) → is_begun s ≡ true → (is_carried s ≡ true) ⊎ (is_asked s ≡ true)
begun_is session.Free e = absurd cc
begun_is session.Asked e = inr refl
begun_is session.Left e = absurd cc
begun_is (session.Open m) e = inl refl
begun_is (session.Leaving m) e = absurd cc
begun_is (session.Ended m) e = inl refl

ended_is : (s : Session) → is_ended s ≡ true → is_carried s ≡ true
ended_is (session.Ended m) e = refl
ended_is x e = absurd cc

none_taken : (es : List DeliveryEvent) (k : ℕ) → numbers_of es ≡ 0 → IsTaken es k → ⊥
none_taken es k none t = let a : 1 ≤ k = t.0 in let b : k ≤ numbers_of es = t.1 in omega (arith, a, b, none)

runs_on : (c : Connection) (n : ℕ) → is_open c n ≡ true → is_closing c ≡ false
runs_on c n = by c.phase
  where
    by : (p : Phase91) → (is_running p && is_open_channel (channel_at c n)) ≡ true → is_closing_phase p ≡ false
    by phase.Running e = refl
    by x e = absurd cc

calm : (a b : Bool) → (a ≡ true → b ≡ true) → b ≡ false → (a || b) ≡ false
calm true b f e = let wrong : true ≡ false = sym (f refl) ∙ e in absurd cc
calm false b f e = e

-- the channel of a session that ends isn't open
shut_at : (h : List Step) (n : ℕ) → ArePicks h → n < 256 → EndGoes (before h) n → is_open (connection h) n ≡ false
shut_at h n p less goes = by (is_open (connection h) n) refl
  where
    w : State
    w = before h

    kn : Known h
    kn = known h p

    conn_at : is_open w.conn n ≡ is_open (connection h) n
    conn_at = ap (λ (c : Connection). is_open c n) (conn_is kn)

    -- while it is open nothing closes
    still : is_open (connection h) n ≡ true → goes.closing ≡ false
    still e = goes.is ∙ calm w.out_of_memory (is_closing w.conn) (λ m. ap is_closing (conn_is kn) ∙ shuts_in kn (sym (memory_is kn) ∙ m)) (runs_on w.conn n (conn_at ∙ e))

    wrong : (b c o l : Bool) → c ≡ false → o ≡ true → (b && ((c || not o) && l)) ≡ true → ⊥
    wrong true true o l x y z = absurd cc
    wrong true false true l x y z = absurd cc
    wrong true false false l x y z = absurd cc
    wrong false c o l x y z = absurd cc

    open_by : is_open (connection h) n ≡ true → (a b : Bool) → is_ended (session_in w.up.container n) ≡ a
        → (a || (b && ((goes.closing || not (is_open w.conn n)) && is_lingered w n))) ≡ true → ⊥
    open_by e true b f d = clash _ e (ended_shut h n p less (ap (λ (o : Option Upstream). is_ended (session_in o n)) (sym (container_is kn)) ∙ f))
    open_by e false b f d = wrong b (goes.closing) (is_open w.conn n) (is_lingered w n) (still e) (conn_at ∙ e) d

    by : (b : Bool) → is_open (connection h) n ≡ b → b ≡ false
    by true e = absurd (open_by e _ _ refl goes.due)
    by false e = refl

below : (h : List Step) (n : ℕ) → ArePicks h → EndGoes (before h) n → n < 256
below h n p goes = subst (λ (m : ℕ). n < m) (lives_all h p) goes.below

returned : DeliveriesAre → ReleasedAre → (h : List Step) (n : ℕ) → ArePicks h → EndGoes (before h) n → is_open (connection h) n ≡ false → AreReturned h n
returned arrives released h n p goes shut life k lives taken = by _ _ _ refl refl goes.due
  where
    w : State
    w = before h

    es : List DeliveryEvent
    es = deliveries_of life (path_events h n)

    kn : Known h
    kn = known h p

    none : disposals w ≡ []
    none = left_none (disposals w) _ (right_none (unless_out w.out_of_memory (carried_rows w)) _ goes.none)

    less : n < 256
    less = below h n p goes

    most : n ≤ CHANNEL_MAX
    most = let is : CHANNEL_MAX ≡ 255 = refl in omega (arith, less, is)

    list_is : (path_at w.paths n).deliveries.list ≡ open_after life es
    list_is =
        ap (λ (o : Option PathState). (or_no_path o).deliveries.list) (path_is h n p most ∙ ap (option_map (λ (l : ℕ). after_events l (path_events h n))) lives)
        ∙ ap (λ (d : DeliveryState). d.list) (arrives life (path_events h n))

    covered : is_carried (session_in w.up.container n) ≡ true → is_uncovered (fate_of k es) ≡ false
    covered c =
        released life es (closed_path_is h n life p most lives shut)
        (ap next_settle_of (sym list_is) ∙ none_due w n goes.below none c) k taken

    waiting : is_asked (session_in w.up.container n) ≡ true → is_uncovered (fate_of k es) ≡ false
    waiting e = absurd (none_taken es k (none_asked h n life p less (ap (λ (o : Option Upstream). is_asked (session_in o n)) (sym (container_is kn)) ∙ e)) taken)

    by : (a b x : Bool) → is_ended (session_in w.up.container n) ≡ a → is_begun (session_in w.up.container n) ≡ b
        → (a || (b && x)) ≡ true → is_uncovered (fate_of k es) ≡ false
    by true b x f g d = covered (ended_is (session_in w.up.container n) f)
    by false true x f g d = begun (begun_is (session_in w.up.container n) g)
      where
        begun : (is_carried (session_in w.up.container n) ≡ true) ⊎ (is_asked (session_in w.up.container n) ≡ true) → is_uncovered (fate_of k es) ≡ false
        begun (inl c) = covered c
        begun (inr c) = waiting c
    by false false x f g d = absurd cc

may_end : DeliveriesAre → ReleasedAre → (h : List Step) (n : ℕ) → ArePicks h → EndGoes (before h) n → MayEnd h n
may_end arrives released h n p goes =
    let shut : is_open (connection h) n ≡ false = shut_at h n p (below h n p goes) goes in
    record { shut = shut; returned = returned arrives released h n p goes shut }

-- ---- detaches

-- the link whose detach is due is to part, or is idle
abbrev pub Goes : PathState → PathLink → Type 0
Goes s x = (parts s.deliveries x ≡ true) ⊎ (is_idle s.publishes.list s.deliveries s.oks x ≡ true)

found_goes : (t : PathLink → Bool) (ls : List PathLink) (x : PathLink) → find t ls ≡ Some x → t x ≡ true
found_goes t [] x e = absurd cc
found_goes t (l ∷ ls) x e = by (t l) refl e (found_goes t ls x)
  where
    by : (b : Bool) → t l ≡ b → (if b then Some l else find t ls) ≡ Some x → (find t ls ≡ Some x → t x ≡ true) → t x ≡ true
    by true f g more = let same : l ≡ x = cc in subst (λ (k : PathLink). t k ≡ true) same f
    by false f g more = more g

lowest_goes : (t : PathLink → Bool) (ls : List PathLink) (x : PathLink) → lowest (filter t ls) ≡ Some x → t x ≡ true
lowest_goes t [] x e = absurd cc
lowest_goes t (l ∷ ls) x e = by (t l) refl e (lowest_goes t ls)
  where
    pick : (o : Option PathLink) → ((k : PathLink) → o ≡ Some k → t k ≡ true) → t l ≡ true → Some (lower l o) ≡ Some x → t x ≡ true
    pick None more f g = let same : l ≡ x = cc in subst (λ (k : PathLink). t k ≡ true) same f
    pick (Some k) more f g = at (nat_lt (handle_of k.stage) (handle_of l.stage)) g
      where
        at : (b : Bool) → Some (if b then k else l) ≡ Some x → t x ≡ true
        at true g = let same : k ≡ x = cc in subst (λ (j : PathLink). t j ≡ true) same (more k refl)
        at false g = let same : l ≡ x = cc in subst (λ (j : PathLink). t j ≡ true) same f

    by : (b : Bool) → t l ≡ b → lowest (if b then l ∷ filter t ls else filter t ls) ≡ Some x
        → ((k : PathLink) → lowest (filter t ls) ≡ Some k → t k ≡ true) → t x ≡ true
    by true f g more = pick (lowest (filter t ls)) more f g
    by false f g more = more x g

pub detaching_goes : (s : PathState) (x : PathLink) → next_detach s ≡ Some x → Goes s x
detaching_goes s x e =
    either (find (parts s.deliveries) s.links.links) (given_of s.publishes.list s.deliveries s.oks s.links)
    (λ k f. inl (found_goes (parts s.deliveries) s.links.links k f)) (λ k f. inr (given (is_wanting s.links) k f)) e
  where
    given : (b : Bool) (k : PathLink) → (if b then lowest (filter (is_idle s.publishes.list s.deliveries s.oks) s.links.links) else None) ≡ Some k
        → is_idle s.publishes.list s.deliveries s.oks k ≡ true
    given true k f = lowest_goes (is_idle s.publishes.list s.deliveries s.oks) s.links.links k f
    given false k f = absurd cc

    either : (a b : Option PathLink) → ((k : PathLink) → a ≡ Some k → Goes s k) → ((k : PathLink) → b ≡ Some k → Goes s k) → lower_of a b ≡ Some x → Goes s x
    either None b f g e = g x e
    either (Some l) None f g e = f x e
    either (Some l) (Some k) f g e = at (nat_lt k.link l.link) e
      where
        at : (c : Bool) → (if c then Some k else Some l) ≡ Some x → Goes s x
        at true e = g x e
        at false e = f x e

pub some_same : {x y : PathLink} → Some x ≡ Some y → x ≡ y
some_same e = cc

pub life_same : {m n : ℕ} → Some m ≡ Some n → m ≡ n
life_same e = cc

-- it is to part, or each delivery of it had its disposition
goes_covers : (s : PathState) (x : PathLink) → Goes s x → x.receives ≡ true → (is_to_part x ≡ true) ⊎ (is_all_covered x.link s.deliveries.list ≡ true)
goes_covers s x g e = by x.receives (is_to_part x) (is_stage_open x.stage) e g
  where
    d : DeliveryState
    d = s.deliveries

    second : (a b : Bool) → (a && b) ≡ true → b ≡ true
    second true b f = f
    second false b f = absurd cc

    first_of : (a b : Bool) → (a && b) ≡ true → a ≡ true
    first_of true b f = refl
    first_of false b f = absurd cc

    by : (r part up : Bool) → r ≡ true
        → (((part && not (r && holds x.link d.list)) || ((r && up) && is_over x.link d)) ≡ true)
        ⊎ ((up && (if r then is_resting d s.oks x.link else (count_by (is_pending (Some x.link)) s.publishes.list == 0))) ≡ true)
        → (part ≡ true) ⊎ (is_all_covered x.link s.deliveries.list ≡ true)
    by false part up f y = absurd cc
    by true true up f y = inl refl
    by true false true f (inl y) = inr (second _ _ y)
    by true false true f (inr y) = inr (second _ _ (first_of _ _ y))
    by true false false f (inl y) = absurd cc
    by true false false f (inr y) = absurd cc

covers_is : (link : ℕ) (ds : List DeliveryEvent) → Covers link ds → are_covered link ds ≡ true
covers_is link ds c = by (least (λ n. lacks_settle link (fate_of n ds)) (numbers_of ds)) refl
  where
    by : (o : Option ℕ) → least (λ n. lacks_settle link (fate_of n ds)) (numbers_of ds) ≡ o → not (is_some o) ≡ true
    by None e = refl
    by (Some k) e =
        let found = least_is (λ n. lacks_settle link (fate_of n ds)) (numbers_of ds) k e in
        absurd (let wrong : true ≡ false = sym found.2 ∙ c k (found.0, found.1) in cc)

module _ (arrives : DeliveriesAre) (released : ReleasedAre) (covered : CoveredAre) (tied : LinksAre) where
  returned_on : {why : Option Condition} (h : List Step) (n link : ℕ) → ArePicks h → DetachGoes (before h) n link why → AreReturnedOn h n link
  returned_on h n link p d life l lives found receives = by (slot_at (before h).paths n) refl d.due
    where
      w : State
      w = before h

      es : List PathEvent
      es = path_events h n

      ds : List DeliveryEvent
      ds = deliveries_of life es

      s : PathState
      s = after_events life es

      path_by : n ≤ CHANNEL_MAX → path_at w.paths n ≡ s → next_detach s ≡ Some d.gone → are_covered link ds ≡ true
      path_by below is f =
          let there = detaching_there s.publishes.list s.deliveries s.oks s.links (tied life es).rising in
          let here = subst (λ (o : Option PathLink). IfSome o (IsThere s.links)) f there in
          let again : find (has_number link) s.links.links ≡ Some d.gone = subst (λ (k : ℕ). find (has_number k) s.links.links ≡ Some d.gone) d.is here.0 in
          let same : l ≡ d.gone = some_same (sym found ∙ again) in
          let takes : d.gone.receives ≡ true = subst (λ (k : PathLink). k.receives ≡ true) same receives in
          parts_by (goes_covers s d.gone (detaching_goes s d.gone f) takes) takes here.0
        where
          less : n < length w.lives
          less = let most : CHANNEL_MAX ≡ 255 = refl in subst (λ (m : ℕ). n < m) (sym (lives_all h p)) (omega (arith, below, most))

          -- none is due in a life that closed
          shut : is_closed ds ≡ true → Covers link ds
          shut e k t =
              let settled : is_uncovered (fate_of k ds) ≡ false =
              released life ds e
              (ap (λ (x : DeliveryState). next_settle_of x.list) (sym (arrives life es)) ∙ ap next_dispose (sym is) ∙ none_due w n less d.none d.carried) k t in
              no_more (is_on link (fate_of k ds).link) settled
            where
              no_more : (a : Bool) {b : Bool} → b ≡ false → (a && b) ≡ false
              no_more true f = f
              no_more false f = refl

          parts_by : (is_to_part d.gone ≡ true) ⊎ (is_all_covered d.gone.link s.deliveries.list ≡ true) → d.gone.receives ≡ true
              → find (has_number d.gone.link) s.links.links ≡ Some d.gone → are_covered link ds ≡ true
          parts_by (inr c) takes at =
              sym (covered life link ds)
              ∙ ap (λ (x : DeliveryState). is_all_covered link x.list) (sym (arrives life es))
              ∙ ap (λ (k : ℕ). is_all_covered k s.deliveries.list) (sym d.is) ∙ c
          parts_by (inl c) takes at = covers_is link ds (covers (safe_is arrives covered tied h n life below p lives))
            where
              covers : IsSafe life es → Covers link ds
              covers (inl e) = shut e
              covers (inr a) =
                  let one = (all_find _ (has_number d.gone.link) s.links.links d.gone a at).0 in
                  subst (λ (k : ℕ). Covers k ds) d.is (one (ap (λ (b : Bool). b && is_to_part d.gone) takes ∙ c))

      lived_by : (t : PathState) → path_at w.paths n ≡ t → IsLived h n t → next_detach t ≡ Some d.gone → are_covered link ds ≡ true
      lived_by t at v f =
          let same : v.life ≡ life = life_same (sym v.lives ∙ lives) in
          let is : t ≡ s = v.is ∙ ap (λ (k : ℕ). after_events k es) same in
          path_by v.below (at ∙ is) (ap next_detach (sym is) ∙ f)

      by : (o : Option PathState) → slot_at (before h).paths n ≡ o → next_detach (or_no_path o) ≡ Some d.gone → are_covered link ds ≡ true
      by None g f = absurd cc
      by (Some t) g f = lived_by t (ap or_no_path g) (lived h n t p g) f

  part_by : (h : List Step) (u : UpUnit) → ArePicks h → MayDetach (before h) u → pick (before h) Up ≡ Some (ToUp u) → MayPart h u
  part_by h (up.End n why) p d e = may_end arrives released h n p (end_goes (before h) n why e)
  part_by h (up.OnSession n (unit.Detach link handle why)) p d e = returned_on h n link p d
  part_by h (up.OnSession n (unit.Attach a)) p d e = tt
  part_by h (up.OnSession n (unit.Flow f)) p d e = tt
  part_by h (up.OnSession n (unit.Transfer t)) p d e = tt
  part_by h (up.OnSession n (unit.Dispose x)) p d e = tt
  part_by h (up.OnSession n (unit.Settle x)) p d e = tt
  part_by h u p d e = tt

  pub releases_are : (h : List Step) → ArePicks h → Releases h
  releases_are [] p = tt
  releases_are (Gave (ToUp u) text ∷ h) p = (part_by h u p.1 (may_detach (before h) u p.0.1) p.0.1, releases_are h p.1)
  releases_are (s ∷ h) p = releases_are h p.1
