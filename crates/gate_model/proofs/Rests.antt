-- Where nothing goes to an end, nothing is owed to it.
use Rattle.std.proofs.Common.{◌≡◌, ℕ, ◌≤◌, ◌<◌, ◌==◌, nat_lt, not, ◌&&◌, ◌||◌, Bool, true, false, if◌then◌else◌, List, [], ◌∷◌, ◌++◌, length, map}
use Rattle.std.proofs.Common.{Option, None, Some, is_some, option_map, refl, sym, ap, ◌∙◌, arith}
use Rattle.std.proofs.lemmas.Bool.Decides.{nat_tests}
use Rattle.std.specs.List.{list_any}
use Rattle.std.specs.Option.{option_or}
use Rattle.consume_path.specs.Deliveries.{DeliveryEvent, DeliveryState, open_after}
use Rattle.consume_path.specs.Deliveries.{after_events as deliveries_after}
use Rattle.consume_path.specs.Journal.{fate_of as delivery_fate, global_of, is_owed, numbers_of as deliveries_in, tags_of}
use Rattle.consume_path.specs.Laws.{deliver_by, first_owed}
use Rattle.consume_path.specs.Offers.{next_deliver_of, next_settle_of, serves_gets}
use Rattle.consume_path.specs.declared.delivery.NextDeliver.{NextDeliver}
use Rattle.consume_path.specs.declared.delivery.NextSettle.{NextSettle}
use Rattle.gate_outside.specs.declared.ports.End.TheVariants.{Client, Up}
use Rattle.gate_relay.specs.Sides.{is_readable}
use Rattle.machine_091.specs.State.{is_closing, is_open}
use Rattle.machine_091.specs.declared.limits.TheConstants.{CHANNEL_MAX}
use Rattle.machine_10.specs.declared.state.Upstream.{Upstream}
use Rattle.open_items.proofs.Counted.{least_none}
use Rattle.open_items.specs.Numbers.{least}
use Rattle.publish_path.specs.Journal.{Fate, IsTaken, fate_of, is_to_return, numbers_of}
use Rattle.publish_path.specs.Laws.{AreReturned, IsOwedConfirm, IsReturned, is_returning, is_to_begin, return_at, return_by}
use Rattle.publish_path.specs.Offers.{next_confirm_of, next_frame_of, next_return_of}
use Rattle.publish_path.specs.Publishes.{PublishEvent, PublishState, open_after as publishes_open}
use Rattle.publish_path.specs.declared.publish.Confirm.{Confirm}
use Rattle.publish_path.specs.declared.publish.NextReturn.{NextReturn}
use Rattle.session_path.specs.Due.{deliver_if, deliver_in, most_tags, next_attach, next_confirm, next_content, next_deliver, next_detach}
use Rattle.session_path.specs.Due.{next_dispose, next_flow, next_frame, next_ok, next_return, next_settle}
use Rattle.session_path.specs.Events.{PathEvent, after_events, deliveries_of, publishes_of}
use Rattle.session_path.specs.Path.{PathState}
use Rattle.session_path.specs.declared.path.ContentDue.{ContentDue}
use Rattle.session_path.specs.declared.path.DeliverDue.{DeliverDue}
use Rattle.session_path.specs.declared.path.PathOk.{PathOk}
use Rattle.session_path.specs.declared.path.PathOk.TheVariants as ok
use Rattle.gate_model.specs.Asked.{is_up_close}
use Rattle.gate_model.specs.Due.{answers, carried_rows, client_rows, client_units, confirm_on, confirms, confirms_on, consume_oks, consume_oks_on}
use Rattle.gate_model.specs.Due.{content_on, contents}
use Rattle.gate_model.specs.Due.{contents_on, deliver_on, delivers, delivers_on, disposals, channel_closes, channel_oks, close_oks, consume_ok_on}
use Rattle.gate_model.specs.Due.{empty_on, get_ok_on, get_on, last_closes, gets, gets_on, if_so, is_consume_ok, is_empty_ok, is_plain_ok}
use Rattle.gate_model.specs.Due.{may_answer, may_confirm, may_confirm_all, may_confirm_some, may_end, may_go, may_go_on, may_return, may_tell, ok_on, oks_on, open_oks, openings, other_rows}
use Rattle.gate_model.specs.Due.{path_oks, pick, return_on, row_on, rows_in, session_rows, unless_out, up_rows, when}
use Rattle.gate_model.specs.Due.{attaches, begins, detaches, ends, link_flows, session_flows, settlings, transfers, writing_on, writings, writings_on}
use Rattle.gate_model.specs.Folds.{carrying, connection, container, ran_out_in, sent_up, side_in}
use Rattle.gate_model.specs.Lives.{each, is_carried, life_at, session_in}
use Rattle.gate_model.specs.Paths.{path_at}
use Rattle.gate_model.specs.Picks.{ArePicks}
use Rattle.gate_model.specs.Publishing.{path_events, path_life}
use Rattle.gate_model.specs.Rests.{IsServed, IsSupplied, SuppliesContainers}
use Rattle.gate_model.specs.State.{State, Step, before, is_settled}
use Rattle.gate_model.specs.Upstream.{first, opening_rows, when_up}
use Rattle.gate_model.specs.declared.channel.SessionUnit.{SessionUnit}
use Rattle.gate_model.specs.declared.life.Life.{Life}
use Rattle.gate_model.specs.declared.life.SessionState.{SessionState}
use Rattle.gate_model.specs.declared.outgoing.Outgoing.{Outgoing}
use Rattle.gate_model.specs.declared.outgoing.Outgoing.TheVariants.{ToClient, ToUp}
use Rattle.gate_model.specs.declared.outgoing.UpUnit.{UpUnit}
use Rattle.gate_model.specs.declared.outgoing.UpUnit.TheVariants.{OnSession}
use Rattle.gate_model.specs.declared.reply.Pending.{Pending}
use Rattle.gate_model.specs.declared.reply.Reply.{Reply}
use Rattle.gate_model.proofs.Carrying.{carries_in}
use Rattle.gate_model.proofs.Connections.{clash}
use Rattle.gate_model.proofs.Contents.{BegunBelow, ContentIs, IsCalm, frame_due, has_life, is_calm, may_back, may_write}
use Rattle.gate_model.proofs.Delivers.{GlobalsAre, TagsAre}
use Rattle.gate_model.proofs.Fates.{FramesAre, PublishesAre, path_of}
use Rattle.gate_model.proofs.Backs.{ReturnsAre}
use Rattle.gate_model.proofs.Known.{container_is, known, memory_is, side_is}
use Rattle.gate_model.proofs.Overs.{goes_on}
use Rattle.gate_model.proofs.Reports.{DeliveriesAre}
use Rattle.gate_model.proofs.Rows.{left_none, right_none, row_none}
use Rattle.gate_model.proofs.Ups.{up_says}

-- ---- the laws below

-- a confirm is due wherever an unanswered publish has an outcome, unless one is still to be returned
abbrev pub OfferedAre : Type 0
OfferedAre = (life n : ℕ) (h : List PublishEvent) → IsOwedConfirm h n → AreReturned h n → is_some (next_confirm_of (publishes_open life h)) ≡ true

abbrev pub MostAre : Type 0
MostAre = (n : ℕ) (h : List PublishEvent) → (fate_of n h).returned ≤ length (fate_of n h).back

abbrev pub DueAre : Type 0
DueAre = (life global : ℕ) (h : List DeliveryEvent) → next_deliver_of global (open_after life h) ≡ deliver_by global h

abbrev pub FirstsAre : Type 0
FirstsAre = (life : ℕ) (h : List DeliveryEvent) → option_map (λ (s : NextSettle). s.first) (next_settle_of (open_after life h)) ≡ first_owed h

-- a life in progress is that of a channel
abbrev pub LivesBelow : Type 0
LivesBelow = (h : List Step) (n life : ℕ) → path_life h n ≡ Some life → n ≤ CHANNEL_MAX

-- ---- lists and options

pub none_in : {A : Type 0} (f : A → Outgoing) (us : List A) → first (map f us) ≡ None → us ≡ []
none_in f [] e = refl
none_in f (u ∷ us) e = absurd cc

pub if_so_none : (b : Bool) (us : List Reply) → b ≡ true → if_so b us ≡ [] → us ≡ []
if_so_none b us e f = ap (λ (c : Bool). if_so c us) (sym e) ∙ f

unless_none : {A : Type 0} (b : Bool) (us : List A) → b ≡ false → (if b then [] else us) ≡ [] → us ≡ []
unless_none b us e f = ap (λ (c : Bool). if c then [] else us) (sym e) ∙ f

pub when_none : (b : Bool) (u : Reply) → when b u ≡ [] → b ≡ false
when_none true u e = absurd cc
when_none false u e = refl

pub no_some : {A : Type 0} (o : Option A) → is_some o ≡ true → o ≡ None → ⊥
no_some None e f = absurd cc
no_some (Some x) e f = cc

-- ---- what goes to the client

-- a return is neither to go on nor to begin
pub no_return : (n : ℕ) (o : Option NextReturn) → content_on true n o ≡ [] → return_on true n o ≡ [] → o ≡ None
no_return n None e f = refl
no_return n (Some r) e f = absurd (both r.first (when_none (true && not r.first) _ e) (when_none (true && r.first) _ f))
  where
    both : (b : Bool) → (true && not b) ≡ false → (true && b) ≡ false → ⊥
    both true g h = cc
    both false g h = cc

pub no_confirm : (n : ℕ) (o : Option Confirm) → confirm_on true n o ≡ [] → o ≡ None
no_confirm n None e = refl
no_confirm n (Some c) e = absurd cc

no_content : (n : ℕ) (o : Option ContentDue) → writing_on n o ≡ [] → o ≡ None
no_content n None e = refl
no_content n (Some c) e = absurd cc

no_deliver : (n : ℕ) (o : Option DeliverDue) → get_ok_on n o ≡ [] → deliver_on n o ≡ [] → o ≡ None
no_deliver n None e f = refl
no_deliver n (Some d) e f = absurd (both d.get (when_none d.get _ e) (when_none (not d.get) _ f))
  where
    both : (b : Bool) → b ≡ false → not b ≡ false → ⊥
    both true g h = cc
    both false g h = cc

-- an answer that isn't a get's goes in its row
only_get : (x : PathOk) → is_plain_ok x ≡ false → is_consume_ok x ≡ false → is_empty_ok x ≡ false → x ≡ ok.Get
only_get ok.Get e f g = refl
only_get x e f g = absurd cc

-- the rows of the connection's opening, and those behind the answers
abbrev pub opening : List Step → Pending
opening h = may_go (is_settled (before h)) (before h).pending

abbrev pub last_rows : List Step → List Reply
last_rows h =
    close_oks (opening h) ++ (if_so (may_end (before h)) (channel_oks (before h))
    ++ (last_closes (opening h) ++ if_so (may_tell (before h)) (channel_closes (before h))))

abbrev pub later : List Step → List Reply
later h = if_so (may_confirm_some (before h)) (confirms (before h)) ++ last_rows h

pub confirms_are : (n : ℕ) (w : State) → w.out_of_memory ≡ false → may_confirm (may_confirm_all w) (life_at w.lives n) ≡ true
    → confirms_on (not w.out_of_memory) (may_confirm_all w) w.paths n (life_at w.lives n)
    ≡ return_on true n (next_return (path_at w.paths n)) ++ confirm_on true n (next_confirm (path_at w.paths n))
confirms_are n w memory can =
    ap (λ (b : Bool). return_on (not b && may_confirm (may_confirm_all w) (life_at w.lives n)) n (next_return (path_at w.paths n)) ++ confirm_on (may_confirm (may_confirm_all w) (life_at w.lives n)) n (next_confirm (path_at w.paths n))) memory
    ∙ ap (λ (b : Bool). return_on b n (next_return (path_at w.paths n)) ++ confirm_on b n (next_confirm (path_at w.paths n))) can

-- nothing of a return that is begun
pub going_on : (n : ℕ) (w : State) → may_go_on (may_confirm_all w) (life_at w.lives n) ≡ true → contents_on (may_confirm_all w) w.paths n (life_at w.lives n) ≡ []
    → content_on true n (next_return (path_at w.paths n)) ≡ []
going_on n w may none = sym (ap (λ (b : Bool). content_on b n (next_return (path_at w.paths n))) may) ∙ none

-- what a channel that is open has in the rows
record Silent (w : State) (n : ℕ) : Type 0 where
  return : next_return (path_at w.paths n) ≡ None
  confirm : next_confirm (path_at w.paths n) ≡ None
  content : next_content (path_at w.paths n) ≡ None
  deliver : next_deliver (path_at w.paths n) ≡ None
  answer : (x : PathOk) → next_ok (path_at w.paths n) ≡ Some x → x ≡ ok.Get

silent : (h : List Step) (n life : ℕ) → ArePicks h → n ≤ CHANNEL_MAX → path_life h n ≡ Some life → is_open (connection h) n ≡ true
    → pick (before h) Client ≡ None → Silent (before h) n
silent h n life p below l on e = record {
  return = no_return n (next_return (path_at w.paths n)) (going_on n w goes_all (at (contents_on (may_confirm_all w) w.paths) (if_so_none (may_return w) (contents w) backs (left_none cs _ units)))) (left_none _ _ told);
  confirm = no_confirm n (next_confirm (path_at w.paths n)) (right_none (return_on true n (next_return (path_at w.paths n))) _ told);
  content = no_content n (next_content (path_at w.paths n)) (unless_none (life_at w.lives n).over _ over (at (writings_on w.paths) writes_none));
  deliver = no_deliver n (next_deliver (path_at w.paths n)) (right_none (empty_on n (next_ok (path_at w.paths n))) _ got)
      (unless_none (life_at w.lives n).over _ over (at (delivers_on w.paths) (right_none (gets w) (delivers w) behind_consumes)));
  answer = λ x f. only_get x
      (when_none (is_plain_ok x) _ (ap (ok_on n) (sym f) ∙ unless_none (life_at w.lives n).over _ over (at (oks_on w.paths) (left_none (path_oks w) _ behind_opens))))
      (when_none (is_consume_ok x) _ (ap (consume_ok_on n) (sym f) ∙ unless_none (life_at w.lives n).over _ over (at (consume_oks_on w.paths) (left_none (consume_oks w) _ behind_oks))))
      (when_none (is_empty_ok x) _ (ap (empty_on n) (sym f) ∙ left_none (empty_on n (next_ok (path_at w.paths n))) _ got));
}
  where
    w : State
    w = before h

    over : (life_at (before h).lives n).over ≡ false
    over = goes_on h n p below (ap is_some l) on

    calm : IsCalm h
    calm = is_calm h n p on

    backs : may_return (before h) ≡ true
    backs = may_back h p calm

    writes : may_answer (before h) ≡ true
    writes = may_write h p calm

    at : (f : ℕ → Life → List Reply) → each f 0 (before h).lives ≡ [] → f n (life_at (before h).lives n) ≡ []
    at f g = row_none f n (before h).lives (has_life h n p below) g

    cs : List Reply
    cs = if_so (may_return (before h)) (contents (before h))

    units : client_units (before h) ≡ []
    units = left_none (client_units (before h)) _ (none_in ToClient (client_rows (before h)) e)

    writes_none : writings (before h) ≡ []
    writes_none =
        if_so_none (may_answer (before h)) (writings (before h)) writes
        (left_none (if_so (may_answer (before h)) (writings (before h))) (openings (opening h) ++ (if_so (may_answer (before h)) (answers (before h)) ++ later h)) (right_none cs _ units))

    behind : if_so (may_answer (before h)) (answers (before h)) ++ later h ≡ []
    behind =
        right_none (openings (opening h)) (if_so (may_answer (before h)) (answers (before h)) ++ later h)
        (right_none (if_so (may_answer (before h)) (writings (before h))) (openings (opening h) ++ (if_so (may_answer (before h)) (answers (before h)) ++ later h)) (right_none cs _ units))

    answered : answers (before h) ≡ []
    answered = if_so_none (may_answer (before h)) (answers (before h)) writes (left_none (if_so (may_answer (before h)) (answers (before h))) (later h) behind)

    behind_opens : path_oks (before h) ++ (consume_oks (before h) ++ (gets (before h) ++ delivers (before h))) ≡ []
    behind_opens = right_none (open_oks (before h)) (path_oks (before h) ++ (consume_oks (before h) ++ (gets (before h) ++ delivers (before h)))) answered

    behind_oks : consume_oks (before h) ++ (gets (before h) ++ delivers (before h)) ≡ []
    behind_oks = right_none (path_oks (before h)) (consume_oks (before h) ++ (gets (before h) ++ delivers (before h))) behind_opens

    behind_consumes : gets (before h) ++ delivers (before h) ≡ []
    behind_consumes = right_none (consume_oks (before h)) (gets (before h) ++ delivers (before h)) behind_oks

    got : empty_on n (next_ok (path_at (before h).paths n)) ++ get_ok_on n (next_deliver (path_at (before h).paths n)) ≡ []
    got = unless_none (life_at (before h).lives n).over (get_on n (path_at (before h).paths n)) over (at (gets_on (before h).paths) (left_none (gets (before h)) (delivers (before h)) behind_consumes))

    all : may_confirm_all (before h) ≡ true
    all = ap (λ (b : Bool). b || (before h).by_peer) writes

    may_tell_all : may_confirm_some (before h) ≡ true
    may_tell_all = ap (λ (b : Bool). b || may_end (before h)) all

    goes_all : may_go_on (may_confirm_all (before h)) (life_at (before h).lives n) ≡ true
    goes_all = ap (λ (b : Bool). may_go_on b (life_at (before h).lives n)) all

    can : may_confirm (may_confirm_all (before h)) (life_at (before h).lives n) ≡ true
    can = ap (λ (b : Bool). if b then (life_at (before h).lives n).by_peer else may_confirm_all (before h)) over ∙ all

    told : return_on true n (next_return (path_at (before h).paths n)) ++ confirm_on true n (next_confirm (path_at (before h).paths n)) ≡ []
    told = sym (confirms_are n (before h) (memory_is (known h p) ∙ calm.memory) can)
        ∙ at (confirms_on (not (before h).out_of_memory) (may_confirm_all (before h)) (before h).paths)
        (if_so_none (may_confirm_some (before h)) (confirms (before h)) may_tell_all
        (left_none (if_so (may_confirm_some (before h)) (confirms (before h))) (last_rows h) (right_none (if_so (may_answer (before h)) (answers (before h))) (later h) behind)))

-- ---- what is owed to the client

blocked : (get may : Bool) (t : ℕ) (d : NextDeliver) → deliver_if get may t d ≡ None → get ≡ true
blocked true may t d e = refl
blocked false may t d e = absurd cc

-- every return went whole
pub all_back : (ps : List PublishEvent) → MostAre → return_by ps ≡ None → (k : ℕ) → IsTaken ps k → IsReturned (fate_of k ps)
all_back ps most e k t r = by (is_to_return (fate_of k ps)) refl
  where
    f : Fate
    f = fate_of k ps

    returning : least (λ n. is_returning (fate_of n ps)) (numbers_of ps) ≡ None
    returning = by_none (least (λ n. is_returning (fate_of n ps)) (numbers_of ps)) e
      where
        by_none : (o : Option ℕ)
            → option_or (option_map (return_at false) o) (option_map (return_at true) (least (λ n. is_to_begin (fate_of n ps)) (numbers_of ps))) ≡ None → o ≡ None
        by_none None g = refl
        by_none (Some n) g = absurd cc

    begins : least (λ n. is_to_begin (fate_of n ps)) (numbers_of ps) ≡ None
    begins = by_none (least (λ n. is_returning (fate_of n ps)) (numbers_of ps)) (least (λ n. is_to_begin (fate_of n ps)) (numbers_of ps)) e
      where
        by_none : (a o : Option ℕ) → option_or (option_map (return_at false) a) (option_map (return_at true) o) ≡ None → o ≡ None
        by_none None None g = refl
        by_none None (Some n) g = absurd cc
        by_none (Some n) o g = absurd cc

    none : (a : Bool) (n : ℕ) → a ≡ true → (a && nat_lt 0 n) ≡ false → (a && n == 0) ≡ false → ⊥
    none true n g i j =
        let some : n ≤ 0 = grind (arith, nat_tests, i) in
        let not : (n == 0) ≡ false = j in
        let zero : n ≡ 0 = omega (arith, some) in
        let is : (n == 0) ≡ true = grind (arith, nat_tests, zero) in clash (n == 0) is not
    none false n g i j = cc

    by : (b : Bool) → is_to_return f ≡ b → f.returned ≡ length f.back
    by true g =
        absurd (none (is_to_return f) f.returned g (least_none (λ n. is_returning (fate_of n ps)) (numbers_of ps) returning k t.0 t.1)
        (least_none (λ n. is_to_begin (fate_of n ps)) (numbers_of ps) begins k t.0 t.1))
    by false g =
        let all : nat_lt f.returned (length f.back) ≡ false = sym (ap (λ (b : Bool). b && nat_lt f.returned (length f.back)) r) ∙ g in
        let few : length f.back ≤ f.returned = grind (arith, nat_tests, all) in
        let many : f.returned ≤ length f.back = most k ps in
        omega (arith, few, many)

module _ (publishes : PublishesAre) (offered : OfferedAre) (returns : ReturnsAre) (most : MostAre) (arrives : DeliveriesAre) (due : DueAre) (tags : TagsAre)
    (globals : GlobalsAre) (frames : ContentIs) (begun : BegunBelow) (below : LivesBelow) where
  pub served : (h : List Step) (n life : ℕ) → ArePicks h → path_life h n ≡ Some life → is_open (connection h) n ≡ true → pick (before h) Client ≡ None
      → IsServed h n life
  served h n life p l on e = record {
    confirms = λ k owed. no_some (next_confirm_of (publishes_open life ps))
        (offered life k ps owed (λ m le u. all_back ps most backs m u.0))
        (sym (ap (λ (x : PublishState). next_confirm_of x.list) (publishes life es)) ∙ ap next_confirm (sym path) ∙ q.confirm);
    returns = backs;
    contents = λ x. let c = frame_due frames begun h n p x in no_some (next_content (path_at (before h).paths n)) (ap is_some c.is) q.content;
    delivers = gets_only;
    answers = λ x f. q.answer x (ap next_ok path ∙ f);
  }
    where
      es : List PathEvent
      es = path_events h n

      ps : List PublishEvent
      ps = publishes_of life (path_events h n)

      ds : List DeliveryEvent
      ds = deliveries_of life (path_events h n)

      least : n ≤ CHANNEL_MAX
      least = below h n life l

      path : path_at (before h).paths n ≡ after_events life (path_events h n)
      path = path_of h n life p (below h n life l) l

      q : Silent (before h) n
      q = silent h n life p (below h n life l) l on e

      backs : return_by (publishes_of life (path_events h n)) ≡ None
      backs =
          sym (returns life (publishes_of life (path_events h n))) ∙ sym (ap (λ (x : PublishState). next_return_of x.list) (publishes life (path_events h n)))
          ∙ ap next_return (sym (path_of h n life p (below h n life l) l)) ∙ (silent h n life p (below h n life l) l on e).return

      gets_only : (d : NextDeliver) → tags_of (deliveries_of life (path_events h n)) < most_tags
          → deliver_by (global_of (deliveries_of life (path_events h n))) (deliveries_of life (path_events h n)) ≡ Some d
          → serves_gets d.link (after_events life (path_events h n)).deliveries.links ≡ true
      gets_only d less f =
          let s : PathState = after_events life (path_events h n) in
          let all : List DeliveryEvent = deliveries_of life (path_events h n) in
          let is : s.deliveries ≡ deliveries_after life all = arrives life (path_events h n) in
          let few : nat_lt (tags_of all) most_tags ≡ true = grind (arith, nat_tests, less) in
          let test : nat_lt s.deliveries.tags most_tags ≡ true = ap (λ (x : DeliveryState). nat_lt x.tags most_tags) is
          ∙ ap (λ (t : ℕ). nat_lt t most_tags) (tags life all) ∙ few in
          let next : next_deliver_of s.deliveries.global s.deliveries.list ≡ Some d =
          ap (λ (x : DeliveryState). next_deliver_of x.global x.list) is ∙ due life (deliveries_after life all).global all
          ∙ ap (λ (g : ℕ). deliver_by g all) (globals life all) ∙ f in
          let none : next_deliver s ≡ None =
          ap next_deliver (sym (path_of h n life p (below h n life l) l)) ∙ (silent h n life p (below h n life l) l on e).deliver in
          blocked _ _ _ d
          (sym (ap (λ (o : Option NextDeliver). deliver_in o s) next)
          ∙ sym (ap (λ (b : Bool). if b then deliver_in (next_deliver_of s.deliveries.global s.deliveries.list) s else None) test) ∙ none)

-- ---- what goes to the container

no_row : {A : Type 0} (c : Option Upstream) (n : ℕ) (o : Option A) (f : A → SessionUnit) → is_carried (session_in c n) ≡ true → row_on c n o f ≡ [] → o ≡ None
no_row c n None f on e = refl
no_row c n (Some x) f on e = absurd (none (sym (ap (λ (b : Bool). when_up b (OnSession n (f x))) on) ∙ e))
  where
    none : OnSession n (f x) ∷ [] ≡ [] → ⊥
    none g = cc

-- the rows of links and sessions are none where nothing is due
pub rows_none : (closing : Bool) (w : State) → rows_in closing w ≡ [] → session_rows w ≡ []
rows_none true w e = left_none (session_rows w) _ (left_none (other_rows true w) _ e)
rows_none false w e =
    left_none (session_rows w) (ends false w)
    (right_none (begins w) (session_rows w ++ ends false w) (right_none (opening_rows w.up.pending) (begins w ++ (session_rows w ++ ends false w)) (left_none (other_rows false w) _ e)))

carried_none : (out : Bool) (us : List UpUnit) → out ≡ false → unless_out out us ≡ [] → us ≡ []
carried_none false us e f = f
carried_none true us e f = absurd cc

no_window : (window : ℕ) (s : PathState) → 1 ≤ window → next_frame window s ≡ None → next_frame_of s.links.sending s.publishes.list ≡ None
no_window window s less e =
    let some : (window == 0) ≡ false = grind (arith, nat_tests, less) in
    sym (ap (λ (b : Bool). if b then None else next_frame_of s.links.sending s.publishes.list) some) ∙ e

-- where nothing goes, no row has anything
pub none_up : (h : List Step) → ArePicks h → pick (before h) Up ≡ None → is_readable (side_in h) ≡ true → list_any is_up_close (sent_up h) ≡ false
    → rows_in ((before h).out_of_memory || is_closing (before h).conn) (before h) ≡ []
none_up h p e side sent =
    sym (ap (λ (b : Bool). if b && not (before h).up.sent.close then rows_in ((before h).out_of_memory || is_closing (before h).conn) (before h) else [])
    (ap is_readable (side_is (known h p)) ∙ side)
    ∙ ap (λ (b : Bool). if not b then rows_in ((before h).out_of_memory || is_closing (before h).conn) (before h) else []) ((up_says h p).close_is ∙ sent))
    ∙ none_in ToUp (up_rows (before h)) e

module _ (publishes : PublishesAre) (framed : FramesAre) (arrives : DeliveriesAre) (firsts : FirstsAre) (below : LivesBelow) where
  supplied : (h : List Step) (n life : ℕ) → ArePicks h → path_life h n ≡ Some life → is_carried (session_in (container h) n) ≡ true
      → session_rows (before h) ≡ [] → IsSupplied h n life
  supplied h n life p l on none = record {
    settles = λ k owed. let owes : is_owed (delivery_fate k ds) ≡ true = owed.1 in
        clash _ owes (least_none (λ i. is_owed (delivery_fate i ds)) (deliveries_in ds) first_none k owed.0.0 owed.0.1);
    settlings = ap next_settle (sym path) ∙ no_row _ n _ _ carried (at _ (left_none (settlings (before h)) (detaches (before h)) behind));
    detaches = ap next_detach (sym path) ∙ no_row _ n _ _ carried (at _ (right_none (settlings (before h)) (detaches (before h)) behind));
    transfers = λ memory less.
        sym (framed life (after_events life es).links.sending ps)
        ∙ sym (ap (λ (x : PublishState). next_frame_of (after_events life es).links.sending x.list) (publishes life es))
        ∙ no_window (carrying n h).windows.window (after_events life es) less
        (ap (λ (x : SessionState). next_frame x.windows.window (after_events life es)) (sym (carries_in h p n small))
        ∙ ap (next_frame (life_at (before h).lives n).session.windows.window) (sym path)
        ∙ no_row _ n _ _ carried (at _ (right_none (session_flows (before h)) (transfers (before h)) (right_none (link_flows (before h)) _ (behind_attaches memory)))));
    flows = λ memory. ap next_flow (sym path) ∙ no_row _ n _ _ carried (at _ (left_none (link_flows (before h)) _ (behind_attaches memory)));
    attaches = λ memory. ap next_attach (sym path) ∙ no_row _ n _ _ carried (at _ (left_none (attaches (before h)) _ (carried_rows_none memory)));
  }
    where
      es : List PathEvent
      es = path_events h n

      ps : List PublishEvent
      ps = publishes_of life (path_events h n)

      ds : List DeliveryEvent
      ds = deliveries_of life (path_events h n)

      path : path_at (before h).paths n ≡ after_events life (path_events h n)
      path = path_of h n life p (below h n life l) l

      small : n < 256
      small = let less : n ≤ CHANNEL_MAX = below h n life l in let most : CHANNEL_MAX ≡ 255 = refl in omega (arith, less, most)

      carried : is_carried (session_in (before h).up.container n) ≡ true
      carried = ap (λ (c : Option Upstream). is_carried (session_in c n)) (container_is (known h p)) ∙ on

      at : (f : ℕ → Life → List UpUnit) → each f 0 (before h).lives ≡ [] → f n (life_at (before h).lives n) ≡ []
      at f g = row_none f n (before h).lives (has_life h n p (below h n life l)) g

      disposed : disposals (before h) ++ (settlings (before h) ++ detaches (before h)) ≡ []
      disposed = right_none (unless_out (before h).out_of_memory (carried_rows (before h))) _ none

      behind : settlings (before h) ++ detaches (before h) ≡ []
      behind = right_none (disposals (before h)) (settlings (before h) ++ detaches (before h)) (right_none (unless_out (before h).out_of_memory (carried_rows (before h))) _ none)

      carried_rows_none : ran_out_in h ≡ false → attaches (before h) ++ (link_flows (before h) ++ (session_flows (before h) ++ transfers (before h))) ≡ []
      carried_rows_none memory =
          carried_none (before h).out_of_memory (carried_rows (before h)) (memory_is (known h p) ∙ memory)
          (left_none (unless_out (before h).out_of_memory (carried_rows (before h))) _ none)

      behind_attaches : ran_out_in h ≡ false → link_flows (before h) ++ (session_flows (before h) ++ transfers (before h)) ≡ []
      behind_attaches memory =
          right_none (attaches (before h)) (link_flows (before h) ++ (session_flows (before h) ++ transfers (before h)))
          (carried_none (before h).out_of_memory (carried_rows (before h)) (memory_is (known h p) ∙ memory)
          (left_none (unless_out (before h).out_of_memory (carried_rows (before h))) _ none))

      first_none : least (λ i. is_owed (delivery_fate i (deliveries_of life (path_events h n)))) (deliveries_in (deliveries_of life (path_events h n))) ≡ None
      first_none = by_none (least (λ i. is_owed (delivery_fate i all)) (deliveries_in all)) (sym (firsts life all) ∙ ap (option_map (λ (s : NextSettle). s.first)) settle)
        where
          all : List DeliveryEvent
          all = deliveries_of life (path_events h n)

          settle : next_settle_of (open_after life (deliveries_of life (path_events h n))) ≡ None
          settle =
              sym (ap (λ (x : DeliveryState). next_settle_of x.list) (arrives life (path_events h n))) ∙ ap next_dispose (sym path)
              ∙ no_row _ n _ _ carried (at _ (left_none (disposals (before h)) (settlings (before h) ++ detaches (before h)) disposed))

          by_none : (o : Option ℕ) → option_map (λ i. (delivery_fate i (deliveries_of life (path_events h n))).id) o ≡ None → o ≡ None
          by_none None e = refl
          by_none (Some i) e = absurd cc

  pub supplies : (h : List Step) → ArePicks h → SuppliesContainers h
  supplies h p e side sent n life l on = supplied h n life p l on (rows_none ((before h).out_of_memory || is_closing (before h).conn) (before h) (none_up h p e side sent))
