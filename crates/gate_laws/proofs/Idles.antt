-- A pair's words are steady, and the upstream end wakes by a connect alone; so all is at rest at each idle.
use Rattle.std.proofs.Common.{◌≡◌, ◌∙◌, Bool, true, false, not, ◌&&◌, ◌||◌, if◌then◌else◌, ℕ, zero}
use Rattle.std.proofs.Common.{suc, ◌+◌, List, [], ◌∷◌, ◌++◌, length, take, Option, None, Some, refl}
use Rattle.std.proofs.Common.{ap, map, sym, subst}
use Rattle.std.specs.Prelude.{is_some}
use Rattle.std.specs.List.{list_any}
use Rattle.gate_outside.specs.declared.ports.End.{End}
use Rattle.gate_outside.specs.declared.ports.End.TheVariants.{Client, Up}
use Rattle.gate_outside.specs.declared.ports.Linked.TheVariants as link
use Rattle.gate_relay.specs.Entries.{Entry, Stuck}
use Rattle.gate_relay.specs.Relayed.{IsRelayed}
use Rattle.gate_relay.specs.Sides.{is_readable}
use Rattle.gate_relay.specs.declared.sides.Side.{Side}
use Rattle.machine_091.specs.State.{awaits, is_closing, is_opening}
use Rattle.machine_091.specs.declared.unit.Unit91.{Unit91}
use Rattle.machine_091.specs.declared.unit.Want91.{Want91}
use Rattle.machine_10.specs.declared.state.Upstream.{Upstream}
use Rattle.performatives_10.specs.declared.condition.Condition.{Condition}
use Rattle.gate_model.specs.declared.life.Life.{Life}
use Rattle.gate_model.specs.Due.{can_leave, can_take_unit, can_take_up, is_awaited, is_awaiting}
use Rattle.gate_model.specs.Folds.{connection, container_kept}
use Rattle.gate_model.specs.Lives.{any_life, is_done, life_at, session_in}
use Rattle.gate_model.specs.Paths.{is_laden, or_no_path, path_at, slot_at, told_paths}
use Rattle.gate_model.proofs.Slots.{map_slot}
use Rattle.consume_path.specs.Deliveries.{DeliveryState, after_event}
use Rattle.consume_path.specs.Deliveries.{LinesTold as DeliveriesTold}
use Rattle.consume_path.specs.Links.{recount}
use Rattle.consume_path.specs.Offers.{is_getting}
use Rattle.consume_path.specs.declared.delivery.Delivery.{Delivery}
use Rattle.consume_path.specs.declared.receiving.ReceivingLink.{ReceivingLink}
use Rattle.session_path.specs.Due.{is_get_awaited, is_waiting}
use Rattle.session_path.specs.Path.{PathState, lines_told}
use Rattle.std.specs.Option.{option_map}
use Rattle.gate_model.specs.Picks.{ArePicks}
use Rattle.gate_model.specs.Queue.{Waits, can_take, channel_of, holds, is_bad_unit, is_empty}
use Rattle.gate_model.specs.Queue.{is_full, place_from, place_in, waits_for_all}
use Rattle.gate_model.specs.Setup.{SetupText}
use Rattle.gate_model.specs.Requests.{client_step}
use Rattle.gate_model.specs.State.{State, Step, Came, Joined, LinesTold, TakenUp, before, came}
use Rattle.gate_model.specs.State.{close_waits}
use Rattle.gate_model.specs.State.{condition_by, dequeued, is_channel_settled, is_held, is_settled}
use Rattle.gate_model.specs.State.{keep_login, leaves_end, left, life_waits, next_unit, place, step, waits}
use Rattle.gate_model.specs.Upstream.{UpState, awaited_of, closing_with, has_closed, is_awaited_up}
use Rattle.gate_model.proofs.Connections.{clash}
use Rattle.gate_model.proofs.Known.{closing_is, conn_is, keep_is, known, side_is}
use Rattle.gate_model.proofs.Queues.{empty_is}
use Rattle.gate_model.proofs.Basics.{and_both, and_left, and_right}
use Rattle.gate_model.proofs.Ups.{is_early}
use Rattle.gate_pair.specs.Cutting as cutting
use Rattle.gate_pair.specs.Cutting.{after, on_next, settle}
use Rattle.gate_pair.specs.Meaning.{Told, made, pair_words, state_of, steps, steps_of, taken_up}
use Rattle.gate_pair.specs.Meaning.{told}
use Rattle.gate_pair.proofs.Lines.{laden_told}
use Rattle.gate_pair.proofs.Memories.{memory_of}
use Rattle.gate_pair.proofs.Queued.{none_placed, settle_done}
use Rattle.gate_pair.proofs.Saids.{after_before}
use Rattle.gate_turn_laws.specs.Quiet.{IsSteady, WakesNone}
use Rattle.gate_laws.proofs.Reached.{login_late, unit_late, unreached}

-- ---- steady words

both_none : (a b : Bool) → a ≡ false → b ≡ false → (a || b) ≡ false
both_none true b e f = absurd cc
both_none false b e f = f

and_none : (a : Bool) {b : Bool} → b ≡ false → (a && b) ≡ false
and_none true e = e
and_none false e = refl

-- where the client's end can be taken up all of its units were, and that it left is known
leaves_none : (w : State) → can_leave w ≡ true → w.queue ≡ []
leaves_none w e =
    let rest : (not w.out_of_memory && (is_empty w.queue && (not (waits w).some && not (is_laden w.paths)))) ≡ true = and_right w.leaving _ e in
    empty_is w.queue (and_left (is_empty w.queue) _ (and_right (not w.out_of_memory) _ rest))

is_there : (w : State) → can_leave w ≡ true → (not w.out_of_memory && w.leaving) ≡ true
is_there w e = and_both (not w.out_of_memory) w.leaving (and_left (not w.out_of_memory) _ (and_right w.leaving _ e)) (and_left w.leaving _ e)

-- the client's units, taken up as far as they can be
abbrev fresh_of : Told → List Step
fresh_of t = settle (before (steps t)) []

-- that its end left is taken up behind all of them
none_left : (w : State) → is_some (place w) ≡ false → (b : Bool) → can_leave w ≡ b → can_take_up (if b then step w TakenUp else w) ≡ false
none_left w none false can = both_none (can_take_unit w) (can_leave w) (and_none (not w.out_of_memory) none) can
none_left w none true can = by (not w.out_of_memory && w.leaving) (is_there w can)
  where
    by : (b : Bool) → b ≡ true → can_take_up (if b then left w else w) ≡ false
    by true e =
        both_none (can_take_unit (left w)) (can_leave (left w))
        (and_none (not w.out_of_memory)
        (ap (λ (us : List Unit91). is_some (if is_laden (left w).paths then None else place_in (waits (left w)) us)) (leaves_none w can) ∙ none_placed (is_laden (left w).paths) (waits (left w)))) refl
    by false e = absurd cc

pub taken_rest : (t : Told) → (before (steps t)).out_of_memory ≡ false → can_take_up (before (steps (taken_up t))) ≡ false
taken_rest t calm = by (can_leave w) refl
  where
    w : State
    w = before (fresh_of t ++ steps t)

    none : is_some (place w) ≡ false
    none = subst (λ (v : State). is_some (place v) ≡ false) (sym (after_before (fresh_of t) (steps t))) (settle_done (before (steps t)) [] calm)

    by : (b : Bool) → can_leave w ≡ b → can_take_up (before (((if b then TakenUp ∷ [] else []) ++ fresh_of t) ++ steps t)) ≡ false
    by true can = none_left w none true can
    by false can = none_left w none false can

pub steady : (s : SetupText) → IsSteady (pair_words s)
unfolding pair_words
steady s = record {
  dry_awaits = λ end dry h. refl;
  awaits = λ end stuck bytes h. refl;
  takes = λ stuck bytes h. refl;
  connects = λ stuck bytes h. refl;
  offer = offer_same;
  settled = λ h calm. taken_rest (made (LinesTold ∷ []) (told s h)) (memory_of s h ∙ calm);
}
  where
    offer_same : (end stuck : End) (bytes : List ℕ) (h : List Entry) → (pair_words s).offer end (Stuck stuck bytes ∷ h) ≡ (pair_words s).offer end h
    offer_same Client stuck bytes h = refl
    offer_same Up stuck bytes h = refl

-- ---- the upstream end by a take-up

-- what the client's units leave as it is
record Kept (w v : State) : Type 0 where
  side : v.up.side ≡ w.up.side
  container : is_early w.conn.phase ≡ false → v.up.container ≡ w.up.container
  late : is_early w.conn.phase ≡ false → is_early v.conn.phase ≡ false

-- what a unit wants may keep the login and the condition of a close, and nothing else of that end
wanted_up : (closing : Bool) (x : Want91) (s : UpState) → closing_with closing (condition_by x) (keep_login x s) ≡ record s {
  container = container_kept s.container x;
  condition = (closing_with closing (condition_by x) (keep_login x s)).condition;
}
wanted_up closing x s = by closing
  where
    by : (b : Bool) → closing_with b (condition_by x) (keep_login x s) ≡ record s { container = container_kept s.container x; condition = (closing_with b (condition_by x) (keep_login x s)).condition }
    by true = keep_is x s ∙ ap (λ (c : Option Condition). record s { container = container_kept s.container x; condition = c }) (sym (ap (λ (y : UpState). y.condition) (keep_is x s)))
    by false = ap (λ (y : UpState). record y { condition = condition_by x }) (keep_is x s)

came_kept : (w v : State) (u : Unit91) → Kept w v → Kept w (step v (Came u))
came_kept w v u k = by v.out_of_memory
  where
    by : (b : Bool) → Kept w (if b then v else came (dequeued v) u)
    by true = k
    by false = record {
      side = ap (λ (s : UpState). s.side) (wanted_up (is_closing v.conn) (client_step v.routes v.paths v.conn u).1 v.up) ∙ k.side;
      container = λ late.
          ap (λ (s : UpState). s.container) (wanted_up (is_closing v.conn) (client_step v.routes v.paths v.conn u).1 v.up)
          ∙ login_late v.routes v.paths v.conn u v.up.container (k.late late) ∙ k.container late;
      late = λ late. unit_late v.routes v.paths v.conn u (k.late late);
    }

takes_kept : (w : State) (f : ℕ) (g : List Step) → Kept w (after g w) → Kept w (after (cutting.settled w f g) w)
takes_kept w zero g k = k
takes_kept w (suc f) g k = by (next_unit (after g w)) (λ u. takes_kept w f (Came u ∷ g) (came_kept w (after g w) u k))
  where
    by : (o : Option Unit91) → ((u : Unit91) → Kept w (after (cutting.settled w f (Came u ∷ g)) w)) → Kept w (after (on_next o g (λ u. cutting.settled w f (Came u ∷ g))) w)
    by None rec = k
    by (Some u) rec = rec u

taken_kept : (w v : State) → Kept w v → Kept w (step v TakenUp)
taken_kept w v k = by (not v.out_of_memory && v.leaving)
  where
    by : (b : Bool) → Kept w (if b then left v else v)
    by true = record {
      side = ap (λ (s : UpState). s.side) (closing_is (is_closing v.conn) _ v.up) ∙ k.side;
      container = λ late. ap (λ (s : UpState). s.container) (closing_is (is_closing v.conn) _ v.up) ∙ k.container late;
      late = λ late. refl;
    }
    by false = k

taken_up_kept : (t : Told) → Kept (before (steps t)) (before (steps (taken_up t)))
taken_up_kept t = by (can_leave (before (fresh_of t ++ steps t)))
  where
    cut : Kept (before (steps t)) (before (fresh_of t ++ steps t))
    cut = subst (Kept (before (steps t))) (sym (after_before (fresh_of t) (steps t)))
        (takes_kept (before (steps t)) (length (before (steps t)).queue) [] (record { side = refl; container = λ late. refl; late = λ late. late }))

    by : (b : Bool) → Kept (before (steps t)) (before (((if b then TakenUp ∷ [] else []) ++ fresh_of t) ++ steps t))
    by true = taken_kept (before (steps t)) (before (fresh_of t ++ steps t)) cut
    by false = cut

up_taken : (t : Told) → ArePicks (steps t) → is_awaiting (before (steps (taken_up t))) Up ≡ true → is_awaiting (before (steps t)) Up ≡ true
up_taken t p e = by (is_early w.conn.phase) refl
  where
    w : State
    w = before (steps t)

    v : State
    v = before (steps (taken_up t))

    k : Kept w v
    k = taken_up_kept t

    by : (b : Bool) → is_early w.conn.phase ≡ b → is_awaiting w Up ≡ true
    by true early =
        let first : is_early (connection (steps t)).phase ≡ true = ap (λ c. is_early c.phase) (sym (conn_is (known (steps t) p))) ∙ early in
        let closed : is_readable v.up.side ≡ false = ap is_readable (k.side ∙ side_is (known (steps t) p)) ∙ unreached (steps t) p first in
        absurd (clash _ e (ap (λ (b : Bool). b && is_awaited_up (awaited_of v.up.container)) closed))
    by false late =
        ap (λ (x : Side). is_readable x && is_awaited_up (awaited_of w.up.container)) (sym k.side)
        ∙ ap (λ (o : Option Upstream). is_readable v.up.side && is_awaited_up (awaited_of o)) (sym (k.container late)) ∙ e

-- ---- a connect that opens an end

-- what waits for an end that isn't open waits for one that is
record Waited (q v : Waits) : Type 0 where
  opening : q.opening ≡ true → v.opening ≡ true
  some : q.some ≡ true → v.some ≡ true
  channel : (n : ℕ) → q.channel n ≡ true → v.channel n ≡ true

both : (a b c : Bool) → (b ≡ true → c ≡ true) → (a && b) ≡ true → (a && c) ≡ true
both true b c f e = f e
both false b c f e = absurd cc

either_of : (a b c d : Bool) → (a ≡ true → c ≡ true) → (b ≡ true → d ≡ true) → (a || b) ≡ true → (c || d) ≡ true
either_of true b c d f g e = ap (λ (x : Bool). x || d) (f refl)
either_of false b true d f g e = refl
either_of false b false d f g e = g e

neither : (a b : Bool) → (a ≡ true → b ≡ true) → not b ≡ true → not a ≡ true
neither true b f e = let wrong : not b ≡ not true = ap not (f refl) in absurd cc
neither false b f e = refl

two_of : (a b c d : Bool) → (a ≡ true → c ≡ true) → (b ≡ true → d ≡ true) → (a && b) ≡ true → (c && d) ≡ true
two_of true true c d f g e = ap (λ (x : Bool). x && d) (f refl) ∙ g refl
two_of true false c d f g e = absurd cc
two_of false b c d f g e = absurd cc

abbrev joined : State → State
joined w = step w (Joined link.Ok)

-- where nothing is waited for of an end that is open, nothing is of one that isn't
settled_before : (w : State) → is_settled (joined w) ≡ true → is_settled w ≡ true
settled_before w e = by w.out_of_memory (not (is_readable w.up.side)) (has_closed w.up || w.up.silent) e
  where
    by : (out closed over : Bool) → (out || (false || over)) ≡ true → (out || (closed || over)) ≡ true
    by true closed over e = refl
    by false true over e = refl
    by false false over e = e

channel_before : (w : State) (n : ℕ) → is_channel_settled (joined w) n ≡ true → is_channel_settled w n ≡ true
channel_before w n e =
    let done : Bool = is_done (session_in w.up.container n) in either_of (is_settled (joined w)) done (is_settled w) done (settled_before w) (λ x. x) e

-- a request that waits goes on, also a basic.get
getting_recounted : (list : List Delivery) (ls : List ReceivingLink) → list_any is_getting (map (recount list) ls) ≡ list_any is_getting ls
getting_recounted list [] = refl
getting_recounted list (l ∷ ls) = ap (λ (b : Bool). is_getting l || b) (getting_recounted list ls)

told_get : (d : DeliveryState) → is_get_awaited (after_event DeliveriesTold d) ≡ is_get_awaited d
told_get d = ap (λ (b : Bool). not d.closed && b) (getting_recounted (after_event DeliveriesTold d).list d.links)

told_waits : (ps : List (Option PathState)) (n : ℕ) → is_waiting (path_at (told_paths ps) n) ≡ is_waiting (path_at ps n)
told_waits ps n = ap (λ (o : Option PathState). is_waiting (or_no_path o)) (map_slot ps n lines_told) ∙ by (slot_at ps n)
  where
    by : (o : Option PathState) → is_waiting (or_no_path (option_map lines_told o)) ≡ is_waiting (or_no_path o)
    by None = refl
    by (Some s) = ap (λ (b : Bool). is_some s.awaited || b) (told_get s.deliveries)

life_more : (w : State) (n : ℕ) (l : Life) → life_waits w n l ≡ true → life_waits (joined w) n l ≡ true
life_more w n l =
    let waiting : Bool = is_waiting (path_at w.paths n) in
    let ending : Bool = l.awaits_end && not (is_channel_settled w n) in
    both (not (is_closing w.conn)) (l.waits || (waiting || ending)) _
    (either_of l.waits (waiting || ending) l.waits _ (λ x. x)
    (either_of waiting ending (is_waiting (path_at (joined w).paths n)) _ (λ e. told_waits w.paths n ∙ e)
    (both l.awaits_end (not (is_channel_settled w n)) (not (is_channel_settled (joined w) n)) (neither (is_channel_settled (joined w) n) (is_channel_settled w n) (channel_before w n)))))

any_more : (t u : ℕ → Life → Bool) (n : ℕ) (ls : List Life) → ((k : ℕ) (l : Life) → t k l ≡ true → u k l ≡ true) → any_life t n ls ≡ true → any_life u n ls ≡ true
any_more t u n [] f e = e
any_more t u n (l ∷ ls) f e = either_of (t n l) (any_life t (n + 1) ls) (u n l) (any_life u (n + 1) ls) (f n l) (any_more t u (n + 1) ls f) e

close_more : (w : State) → close_waits w ≡ true → close_waits (joined w) ≡ true
close_more w = both w.client_closed (not (is_settled w)) (not (is_settled (joined w))) (neither (is_settled (joined w)) (is_settled w) (settled_before w))

waits_more : (w : State) → Waited (waits w) (waits (joined w))
waits_more w =
    let opening : Bool = is_opening w.conn in
    let lives : Bool = any_life (life_waits w) 0 w.lives in
    record {
      opening = λ x. x;
      some = either_of opening (close_waits w || lives) opening _ (λ x. x)
          (either_of (close_waits w) lives (close_waits (joined w)) _ (close_more w) (any_more (life_waits w) (life_waits (joined w)) 0 w.lives (life_more w)));
      channel = λ n. let l : Life = life_at w.lives n in
          either_of (life_waits w n l) (leaves_end w n l) (life_waits (joined w) n l) (leaves_end (joined w) n l) (life_more w n l) (λ x. x);
    }

client_linked : (w : State) → is_awaiting (joined w) Client ≡ true → is_awaiting w Client ≡ true
client_linked w =
    let bad : Bool = list_any is_bad_unit w.queue in
    let rest : Bool = bad || (is_full w.queue || is_laden w.paths) in
    let next : Bool = bad || (is_full w.queue || is_laden (joined w).paths) in
    both (is_awaited (awaits w.conn) || w.given_up) (not (is_held (joined w))) (not (is_held w))
    (neither (is_held w) (is_held (joined w))
    (either_of (is_opening w.conn) (close_waits w || rest) (is_opening w.conn) (close_waits (joined w) || next) (λ x. x)
    (either_of (close_waits w) rest (close_waits (joined w)) next (close_more w)
    (either_of bad (is_full w.queue || is_laden w.paths) bad _ (λ x. x)
    (either_of (is_full w.queue) (is_laden w.paths) (is_full w.queue) _ (λ x. x) (λ e. laden_told w.paths ∙ e))))))

-- a unit that can be taken up though more waits can be where less does
can_before : (q v : Waits) (earlier : List Unit91) (u : Unit91) → Waited q v → can_take v earlier u ≡ true → can_take q earlier u ≡ true
can_before q v earlier u x = by (waits_for_all u)
  where
    n : ℕ
    n = channel_of u

    by : (b : Bool) → (if b then is_empty earlier && not v.some else not v.opening && not (v.channel n) && not (list_any (holds n) earlier)) ≡ true
        → (if b then is_empty earlier && not q.some else not q.opening && not (q.channel n) && not (list_any (holds n) earlier)) ≡ true
    by true = both (is_empty earlier) (not v.some) (not q.some) (neither q.some v.some x.some)
    by false =
        two_of (not v.opening && not (v.channel n)) (not (list_any (holds n) earlier)) (not q.opening && not (q.channel n)) (not (list_any (holds n) earlier))
        (two_of (not v.opening) (not (v.channel n)) (not q.opening) (not (q.channel n)) (neither q.opening v.opening x.opening)
        (neither (q.channel n) (v.channel n) (x.channel n))) (λ e. e)

place_before : (q v : Waits) (all : List Unit91) (k : ℕ) (us : List Unit91) → Waited q v → is_some (place_from v all k us) ≡ true → is_some (place_from q all k us) ≡ true
place_before q v all k [] x e = e
place_before q v all k (u ∷ us) x e =
    by (can_take v (take k all) u) (can_take q (take k all) u) (can_before q v (take k all) u x) (place_before q v all (k + 1) us x) e
  where
    by : (b c : Bool) → (b ≡ true → c ≡ true) → (is_some (place_from v all (k + 1) us) ≡ true → is_some (place_from q all (k + 1) us) ≡ true)
        → is_some (if b then Some k else place_from v all (k + 1) us) ≡ true → is_some (if c then Some k else place_from q all (k + 1) us) ≡ true
    by b true can later e = refl
    by true false can later e = let wrong : false ≡ true = can refl in absurd cc
    by false false can later e = later e

-- what is held holds units back as before
placed_before : (a b : Bool) (p q : Option ℕ) → a ≡ b → (is_some p ≡ true → is_some q ≡ true) → is_some (if a then None else p) ≡ true → is_some (if b then None else q) ≡ true
placed_before true b p q same f e = absurd cc
placed_before false true p q same f e = absurd cc
placed_before false false p q same f e = f e

takes_linked : (w : State) → can_take_up (joined w) ≡ true → can_take_up w ≡ true
takes_linked w =
    either_of (can_take_unit (joined w)) (can_leave (joined w)) (can_take_unit w) (can_leave w)
    (both (not w.out_of_memory) (is_some (place (joined w))) (is_some (place w))
    (placed_before _ _ _ _ (laden_told w.paths) (place_before (waits w) (waits (joined w)) w.queue 0 w.queue (waits_more w))))
    (both w.leaving _ _ (both (not w.out_of_memory) _ _
    (both (is_empty w.queue) _ _
    (two_of (not (waits (joined w)).some) (not (is_laden (joined w).paths)) (not (waits w).some) (not (is_laden w.paths))
    (neither (waits w).some (waits (joined w)).some (waits_more w).some) (neither (is_laden w.paths) (is_laden (joined w).paths) (λ e. laden_told w.paths ∙ e))))))

-- ---- both

pub wakes_none : (s : SetupText) → ((h : List Entry) → IsRelayed (pair_words s) h → ArePicks (steps_of s h)) → WakesNone (pair_words s)
unfolding pair_words
wakes_none s picks = record {
  settled = λ h r. up_taken (made (LinesTold ∷ []) (told s h)) (tt, picks h r);
  client = λ h e. client_linked (state_of s h) e;
  takes = λ h e. takes_linked (state_of s h) e;
}
