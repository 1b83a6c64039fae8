-- A transfer begins on a link only where the fold over the steps leaves that a credit of one.
use Rattle.std.proofs.Common.{◌≡◌, ◌∙◌, ℕ, ◌+◌, ◌^◌, ◌==◌, ◌<◌, ◌≤◌, ◌&&◌, not, Bool, true, false, if◌then◌else◌, List, [], ◌∷◌, ◌++◌}
use Rattle.std.proofs.Common.{append_assoc, Option, Some, None, refl, sym, ap, subst, arith}
use Rattle.std.specs.Prelude.{find, is_some}
use Rattle.std.specs.List.{AllByRecursion}
use Rattle.std.specs.Option.{option_map, option_or}
use Rattle.std.proofs.lemmas.Bool.Decides.{nat_tests}
use Rattle.close_translate.specs.declared.conditions.Scope.{Scope}
use Rattle.close_translate.specs.declared.conditions.Scope.TheVariants as scope
use Rattle.machine_091.specs.State.{is_open}
use Rattle.machine_091.specs.declared.limits.TheConstants.{CHANNEL_MAX}
use Rattle.machine_10.specs.Parts.{Parts}
use Rattle.machine_10.specs.Reading.{field, number_at, number_in}
use Rattle.machine_10.specs.Transitions as ten
use Rattle.machine_10.specs.Transitions.{Meaning}
use Rattle.machine_10.specs.declared.unit.Unit10.{Unit10}
use Rattle.links_10.specs.Send.{or_initial}
use Rattle.publish_path.specs.Links.{can_send, link_of}
use Rattle.publish_path.specs.Offers.{can_begin, frame_of, next_frame_of}
use Rattle.publish_path.specs.Publishes.{is_begun, is_waiting}
use Rattle.publish_path.specs.declared.publish.NextFrame.{NextFrame}
use Rattle.publish_path.specs.declared.publish.Publish.{Publish}
use Rattle.publish_path.specs.declared.send_links.SendingLink.{SendingLink}
use Rattle.session_path.specs.Due.{next_attach, next_detach, next_flow, next_frame}
use Rattle.session_path.specs.Events as event
use Rattle.session_path.specs.Events.{PathEvent, after_events}
use Rattle.session_path.proofs.Ties.{ne_to}
use Rattle.link_table.specs.Table.{new_table}
use Rattle.session_path.specs.Links.{LinksState, handle_at, handle_of, has_number}
use Rattle.session_path.specs.Path.{PathState, granting}
use Rattle.session_path.specs.declared.path.AttachDue.{AttachDue}
use Rattle.session_path.specs.declared.path.AttachFault.{AttachFault}
use Rattle.session_path.specs.declared.path.FlowDue.{FlowDue}
use Rattle.session_path.specs.declared.path.PathLink.{PathLink}
use Rattle.session_path.proofs.Fresh.{fresh_after}
use Rattle.session_path.proofs.Tied.{tied_after}
use Rattle.gate_model.specs.declared.channel.AttachOut.{AttachOut}
use Rattle.gate_model.specs.declared.channel.LinkFlow.{LinkFlow}
use Rattle.gate_model.specs.declared.channel.SessionUnit.{SessionUnit}
use Rattle.gate_model.specs.declared.channel.SessionUnit.TheVariants as unit
use Rattle.gate_model.specs.declared.channel.TransferOut.{TransferOut}
use Rattle.gate_model.specs.declared.outgoing.Outgoing.TheVariants.{ToUp}
use Rattle.gate_model.specs.declared.outgoing.UpUnit.{UpUnit}
use Rattle.gate_model.specs.declared.outgoing.UpUnit.TheVariants as up
use Rattle.gate_model.specs.Due.{frame_max_in}
use Rattle.gate_model.specs.Folds.{connection, container, paths_in, peers, ran_out_in, scope_in}
use Rattle.gate_model.specs.Hears.{asked_as}
use Rattle.gate_model.specs.LinkCredits.{Answered, Asked, Begun, Credit, CreditIsKept, Detached, Flowed, HasCredit, LinkStep, MayBegin, Told}
use Rattle.gate_model.specs.LinkCredits.{after_step, answer_step, begun, credit_by, given_step, heard_step, is_peer, link_step, link_steps, meaning_step, new_credit, told, up_step}
use Rattle.gate_model.specs.Lives.{life_at}
use Rattle.gate_model.specs.Paths.{attach_fault_by, attach_out, credit_of, fault_by, fault_in, flow_out, heard_as, is_attached, is_not_found, name_in, or_no_path, path_at, slot_at, text_of, transfer_error, transfer_of}
use Rattle.gate_model.specs.Picks.{ArePicks}
use Rattle.gate_model.specs.Publishing.{attach_events, closed_if, closing, ending, fine_events, given_event, heard_events, meaning_events, opens_channel, path_events}
use Rattle.gate_model.specs.Publishing.{path_life, session_events, step_events, up_events}
use Rattle.gate_model.specs.Repeats.{attaches_in}
use Rattle.gate_model.specs.Session.{is_of_session, is_true}
use Rattle.gate_model.specs.State.{Gave, Heard, State, Step, attach_scope, before, closing_code, is_later, transfer_scope, unattached}
use Rattle.gate_model.specs.Upstream.{condition_in, meaning_by}
use Rattle.gate_model.proofs.Attaching.{named as named_by_steps}
use Rattle.gate_model.proofs.Basics.{and_right}
use Rattle.gate_model.proofs.Fates.{IsLived, lived, path_of}
use Rattle.gate_model.proofs.Firsts.{OfSession, SessionUnits, goes_up_as}
use Rattle.gate_model.proofs.Givings.{closing_all, ends_all, gives_up, hears, is_answer, is_given, lost_all, other_all, outcome_all, transfer_all}
use Rattle.gate_model.proofs.Granting.{DeliveriesAre}
use Rattle.gate_model.proofs.Heard.{ClosedAre}
use Rattle.gate_model.proofs.LinkCredits.{AllAgree, AreDistinct}
use Rattle.gate_model.proofs.LinkEvents.{credit_rules}
use Rattle.gate_model.proofs.LinkRules.{IsNewName, Rules, all_mute, is_mute}
use Rattle.gate_model.proofs.LinkRoles.{grants_receive}
use Rattle.gate_model.proofs.LinkRooms.{have_room}
use Rattle.gate_model.proofs.LinkSends.{credit_there}
use Rattle.gate_model.proofs.Publishing.{tells}
use Rattle.gate_model.proofs.Settles.{CallsAre, is_there}
use Rattle.session_path.specs.Links.{at_handle, detached_on, flowed_on, named}
use Rattle.link_table.specs.Table.{named_by}
use Rattle.session_path.specs.Path.{receiver_in}
use Rattle.session_path.proofs.SameLinks.{flowed_if, flowed_same}
use Rattle.session_path.specs.Events.{after_event}

-- the fold after some steps
abbrev credits : ℕ → List Step → ℕ → Option Credit
credits n h k = credit_by k (link_steps n h)

-- and after more of them
abbrev more : ℕ → List Step → List LinkStep → ℕ → Option Credit
more n h xs k = credit_by k (xs ++ link_steps n h)

-- ---- names

abbrev name_of : Option Credit → Option ℕ
name_of o = option_map (λ (c : Credit). c.name) o

abbrev asks : LinkStep → Bool
asks (Asked link handle name receives) = true
asks x = false

name_stays : (k : ℕ) (x : LinkStep) (o : Option Credit) → asks x ≡ false → name_of (after_step k x o) ≡ name_of o
name_stays k (Asked link handle name receives) o e = absurd cc
name_stays k (Answered name peer) None e = refl
name_stays k (Answered name peer) (Some c) e = by ((c.name == name) && not (is_some c.peer))
  where
    by : (b : Bool) → name_of (Some (if b then record c { peer = Some peer } else c)) ≡ Some c.name
    by true = refl
    by false = refl
name_stays k (Flowed peer count credit) None e = refl
name_stays k (Flowed peer count credit) (Some c) e = by _
  where
    by : (b : Bool) → name_of (Some (if b then record c { stated = or_initial count; credit = credit } else c)) ≡ Some c.name
    by true = refl
    by false = refl
name_stays k (Detached peer) None e = refl
name_stays k (Detached peer) (Some c) e = by (is_peer peer c.peer)
  where
    by : (b : Bool) → name_of (Some (if b then record c { ended = true } else c)) ≡ Some c.name
    by true = refl
    by false = refl
name_stays k (Begun handle) o e = by (handle == k) o
  where
    by : (b : Bool) (o : Option Credit) → name_of (if b then option_map begun o else o) ≡ name_of o
    by false o = refl
    by true None = refl
    by true (Some c) = refl
name_stays k (Told link handle count) o e = by (handle == k) o
  where
    at : (c : Credit) (b : Bool) → name_of (Some (if b then record c { count = count } else c)) ≡ Some c.name
    at c true = refl
    at c false = refl

    by : (b : Bool) (o : Option Credit) → name_of (if b then option_map (told link count) o else o) ≡ name_of o
    by false o = refl
    by true None = refl
    by true (Some c) = at c ((c.link == link) && is_some c.peer)

names_stay : (n k : ℕ) (h : List Step) (xs : List LinkStep) → AllByRecursion (λ x. asks x ≡ false) xs → name_of (more n h xs k) ≡ name_of (credits n h k)
names_stay n k h [] a = refl
names_stay n k h (x ∷ xs) a = name_stays k x (more n h xs k) a.0 ∙ names_stay n k h xs a.1

-- the name of each is of an attach that went, and no two have one
record NamesAre (f : ℕ → Option Credit) (most : ℕ) : Type 0 where
  below : (k m : ℕ) → name_of (f k) ≡ Some m → m < most
  apart : (j k m : ℕ) → name_of (f j) ≡ Some m → name_of (f k) ≡ Some m → j ≡ k

names_on : (f g : ℕ → Option Credit) (most up : ℕ) → most ≤ up → ((k : ℕ) → name_of (g k) ≡ name_of (f k)) → NamesAre f most → NamesAre g up
names_on f g most up le same a = record {
  below = λ k m e. let less : m < most = a.below k m (sym (same k) ∙ e) in omega (arith, less, le);
  apart = λ j k m e i. a.apart j k m (sym (same j) ∙ e) (sym (same k) ∙ i);
}

names_asked : (f : ℕ → Option Credit) (most link handle name : ℕ) (role : Bool) → name ≡ most → NamesAre f most → NamesAre (λ k. after_step k (Asked link handle name role) (f k)) (most + 1)
names_asked f most link handle name role is a = record { below = λ k m. below k m (handle == k); apart = λ j k m. apart j k m (handle == j) refl (handle == k) refl }
  where
    below : (k m : ℕ) (b : Bool) → name_of (if b then Some (new_credit link name role) else f k) ≡ Some m → m < most + 1
    below k m true e = let same : name ≡ m = cc in omega (arith, same, is)
    below k m false e = let less : m < most = a.below k m e in omega (arith, less)

    equal : (i k : ℕ) → (i == k) ≡ true → i ≡ k
    equal i k e = grind (arith, nat_tests, e)

    apart : (j k m : ℕ) (b : Bool) → (handle == j) ≡ b → (c : Bool) → (handle == k) ≡ c → name_of (if b then Some (new_credit link name role) else f j) ≡ Some m
        → name_of (if c then Some (new_credit link name role) else f k) ≡ Some m → j ≡ k
    apart j k m true e true g x y = sym (equal handle j e) ∙ equal handle k g
    apart j k m true e false g x y = let same : name ≡ m = cc in let less : m < most = a.below k m y in absurd (omega (arith, same, less, is))
    apart j k m false e true g x y = let same : name ≡ m = cc in let less : m < most = a.below j m x in absurd (omega (arith, same, less, is))
    apart j k m false e false g x y = a.apart j k m x y

distinct : (f : ℕ → Option Credit) (most : ℕ) → NamesAre f most → AreDistinct f
distinct f most a h k c d e g same = a.apart h k c.name (ap name_of e) (ap name_of g ∙ ap Some (sym same))

-- ---- what goes

abbrev pub IsDue : State → ℕ → SessionUnit → Type 0
IsDue w n (unit.Attach a) = (d : AttachDue) × (next_attach (path_at w.paths n) ≡ Some d) × (a ≡ attach_out w.attached d)
IsDue w n (unit.Flow f) = (d : FlowDue) × (next_flow (path_at w.paths n) ≡ Some d) × (f ≡ flow_out (life_at w.lives n).session d)
IsDue w n (unit.Transfer t) =
    (d : NextFrame) × (next_frame (life_at w.lives n).session.windows.window (path_at w.paths n) ≡ Some d)
    × (t ≡ transfer_of (frame_max_in w.up.container) (path_at w.paths n) d)
IsDue w n (unit.Detach link handle why) = (d : PathLink) × (next_detach (path_at w.paths n) ≡ Some d) × ((link ≡ d.link) × (handle ≡ handle_of d.stage))
IsDue w n x = Unit {0}

pub is_due : (w : State) → SessionUnits (IsDue w) w
is_due w = record {
  attach = λ n a e. (a, e, refl);
  flow = λ n f e. (f, e, refl);
  transfer = λ n f e. (f, e, refl);
  dispose = λ n x e. tt;
  settle = λ n x e. tt;
  detach = λ n x e. (x, e, (refl, refl));
}

-- the first frame of a transfer goes on a link with credit
pub passes : {A : Type 0} (p : A → Bool) (xs : List A) (x : A) → find p xs ≡ Some x → p x ≡ true
passes p [] x e = absurd cc
passes p (y ∷ ys) x e = by (p y) refl e (passes p ys x)
  where
    by : (b : Bool) → p y ≡ b → (if b then Some y else find p ys) ≡ Some x → (find p ys ≡ Some x → p x ≡ true) → p x ≡ true
    by true f g rest = let same : y ≡ x = cc in ap p (sym same) ∙ f
    by false f g rest = rest g

frame_can : (window : ℕ) (s : PathState) (d : NextFrame) → next_frame window s ≡ Some d → d.first ≡ true → can_send (link_of s.links.sending d.link) ≡ true
frame_can window s d e first = room (window == 0) e
  where
    links : List SendingLink
    links = s.links.sending

    by : (o p : Option Publish) → ((x : Publish) → p ≡ Some x → can_begin links x ≡ true) → option_or (option_map (frame_of false) o) (option_map (frame_of true) p) ≡ Some d
        → can_send (link_of links d.link) ≡ true
    by (Some x) p is f = let same : frame_of false x ≡ d = cc in let no : false ≡ true = ap (λ (y : NextFrame). y.first) same ∙ first in absurd cc
    by None (Some x) is f =
        let same : frame_of true x ≡ d = cc in
        subst (λ (y : NextFrame). can_send (link_of links y.link) ≡ true) same (and_right (is_waiting x.place) (can_send (link_of links x.link)) (is x refl))
    by None None is f = absurd cc

    room : (b : Bool) → (if b then None else next_frame_of links s.publishes.list) ≡ Some d → can_send (link_of links d.link) ≡ true
    room true f = absurd cc
    room false f = by (find (λ p. is_begun p.place) s.publishes.list) (find (can_begin links) s.publishes.list) (passes (can_begin links) s.publishes.list) f

-- ---- what a step leaves

mute : (x : PathEvent) → is_given x ≡ false → is_answer x ≡ false → is_mute x ≡ true
mute (event.AttachCame attach) e f = absurd cc
mute (event.FlowCame peer count credit drain echo) e f = absurd cc
mute (event.DetachCame peer not_found) e f = absurd cc
mute (event.AttachSent name) e f = absurd cc
mute event.LinkFlowSent e f = absurd cc
mute (event.TransferSent frame count) e f = absurd cc
mute x e f = refl

abbrev IsMute : PathEvent → Type 0
IsMute x = is_mute x ≡ true

no_fault : (o : Option AttachFault) → attach_scope o ≡ None → o ≡ None
no_fault None e = refl
no_fault (Some f) e = absurd cc

apart_codes : (q i j : ℕ) → (q == i) ≡ true → (q == j) ≡ true → (i == j) ≡ false → ⊥
apart_codes q i j e f g = let same : q ≡ i = grind (arith, nat_tests, e) in let other : q ≡ j = grind (arith, nat_tests, f) in let no : (i == j) ≡ true = grind (arith, nat_tests, same, other) in cc

first_is : (a b : Bool) → (a && b) ≡ true → a ≡ true
first_is true b e = refl
first_is false b e = e

module _ (P : List LinkStep → LinksState → Type 0) (r : Rules P) (n life : ℕ) (below : n ≤ CHANNEL_MAX) where
  -- what the steps say of the links after these events
  abbrev Agrees : List LinkStep → List PathEvent → Type 0
  Agrees xs es = P xs (after_events life es).links

  module _ (h : List Step) (p : ArePicks h) (lives : path_life h n ≡ Some life) (all : Agrees (link_steps n h) (path_events h n)) where
    abbrev es : List PathEvent
    es = path_events h n

    abbrev s : PathState
    s = after_events life es

    there : path_at (paths_in h) n ≡ s
    there = ap or_no_path ((tells n h p).slot below) ∙ ap (λ (o : Option ℕ). or_no_path (option_map (λ (j : ℕ). after_events j es) o)) lives

    -- ---- the container's

    module _ (names : AreDistinct (credits n h)) (q : Parts) (payload : List ℕ) where
      abbrev s0 : PathState
      s0 = path_at (paths_in h) n

      -- what is wrong with others than attaches and flows of links
      abbrev last_scope : Option Scope
      last_scope =
          if q.0 == 20 then transfer_scope (transfer_error q.1 payload ((peers h).carried n) s0)
          else if q.0 == 22 then unattached (is_attached (number_at q.1 0) s0)
          else None

      attach_agrees : (o : Option ℕ) → name_in (text_of (field q.1 0)) ≡ o → fault_by o q.1 s ≡ None → Agrees ((answer_step o (number_at q.1 1)) ++ link_steps n h) (attach_events o q.1 ++ es)
      attach_agrees None e fine = all
      attach_agrees (Some name) e fine = r.came (link_steps n h) (heard_as q.1 name) s (tied_after life es) names fine all

      heard_by : (a b c d : Bool) → (q.0 == 17) ≡ a → (q.0 == 18) ≡ b → ((q.0 == 19) && not (is_of_session q.1)) ≡ c → (q.0 == 22) ≡ d → (b ≡ true → attach_fault_by q.1 s ≡ None)
          → (t o : Bool) → (q.0 == 20) ≡ t → (q.0 == 21) ≡ o
          → (ts os ls : List PathEvent) → AllByRecursion IsMute ts → AllByRecursion IsMute os → AllByRecursion IsMute ls
          → Agrees ((if b then answer_step (name_in (text_of (field q.1 0))) (number_at q.1 1) else if c then
          Flowed (number_at q.1 4) (number_in (field q.1 5)) (credit_of (number_in (field q.1 6))) ∷ [] else if d then Detached (number_at q.1 0) ∷ [] else []) ++ link_steps n h)
          ((if a then event.Began (number_at q.1 4) ∷ [] else if b then attach_events (name_in (text_of (field q.1 0))) q.1 else if c then
          event.FlowCame (number_at q.1 4) (number_in (field q.1 5)) (credit_of (number_in (field q.1 6))) (is_true (field q.1 8)) (is_true (field q.1 9)) ∷ [] else
          if t then ts else if o then os else if d then event.DetachCame (number_at q.1 0) (is_not_found (condition_in (field q.1 2))) ∷ [] else ls) ++ es)
      heard_by true true c d e f g i fine t o u v ts os ls x y z = absurd (apart_codes q.0 17 18 e f refl)
      heard_by true false true d e f g i fine t o u v ts os ls x y z = absurd (apart_codes q.0 17 19 e (first_is (q.0 == 19) _ g) refl)
      heard_by true false false true e f g i fine t o u v ts os ls x y z = absurd (apart_codes q.0 17 22 e i refl)
      heard_by true false false false e f g i fine t o u v ts os ls x y z = r.mute (link_steps n h) (event.Began (number_at q.1 4)) s refl (tied_after life es) all
      heard_by false true c d e f g i fine t o u v ts os ls x y z = attach_agrees (name_in (text_of (field q.1 0))) refl (fine refl)
      heard_by false false true d e f g i fine t o u v ts os ls x y z = r.flow_came (link_steps n h) _ _ _ _ _ s (tied_after life es) all
      heard_by false false false true e f g i fine true o u v ts os ls x y z = absurd (apart_codes q.0 20 22 u i refl)
      heard_by false false false true e f g i fine false true u v ts os ls x y z = absurd (apart_codes q.0 21 22 v i refl)
      heard_by false false false true e f g i fine false false u v ts os ls x y z =
          r.detach_came (link_steps n h) (number_at q.1 0) (is_not_found (condition_in (field q.1 2))) s (tied_after life es) all
      heard_by false false false false e f g i fine true o u v ts os ls x y z = all_mute P r life (link_steps n h) ts es x all
      heard_by false false false false e f g i fine false true u v ts os ls x y z = all_mute P r life (link_steps n h) os es y all
      heard_by false false false false e f g i fine false false u v ts os ls x y z = all_mute P r life (link_steps n h) ls es z all

      -- where nothing is at fault
      fine_agrees : scope_in (peers h) n q payload ≡ None → Agrees ((heard_step q) ++ link_steps n h) (fine_events (connection h) n q payload (path_at (paths_in h) n) ++ es)
      fine_agrees fine =
          subst (λ (xs : List PathEvent). Agrees ((heard_step q) ++ link_steps n h) xs) (sym (append_assoc closes (heard_events lim n q payload s0) es))
          (all_mute P r life (heard_step q ++ link_steps n h) closes (heard_events lim n q payload s0 ++ es) (closes_mute (q.0 == 17))
          (heard_by (q.0 == 17) (q.0 == 18) ((q.0 == 19) && not (is_of_session q.1)) (q.0 == 22) refl refl refl refl no_attach_fault (q.0 == 20) (q.0 == 21) refl refl _ _ _
          (transfer_all IsMute mute (fault_in q.1 payload s0) lim n (number_at q.1 0) q payload s0) (outcome_all IsMute mute q) (lost_all IsMute mute (q.0 == 23))))
        where
          lim : ℕ
          lim = (connection h).limits.frame_max

          closes : List PathEvent
          closes = if q.0 == 17 then [] else closing (closing_code q payload s0) (connection h) n

          closes_mute : (b : Bool) → AllByRecursion IsMute (if b then [] else closing (closing_code q payload s0) (connection h) n)
          closes_mute true = tt
          closes_mute false = closing_all IsMute mute (closing_code q payload s0) (connection h) n

          no_attach_fault : (q.0 == 18) ≡ true → attach_fault_by q.1 s ≡ None
          no_attach_fault e =
              subst (λ (x : PathState). attach_fault_by q.1 x ≡ None) there
              (no_fault (attach_fault_by q.1 s0) (sym (ap (λ (b : Bool). if b then attach_scope (attach_fault_by q.1 s0)
              else if (q.0 == 19) && not (is_of_session q.1) then unattached (is_attached (number_at q.1 4) s0) else last_scope) e) ∙ fine))

      -- one that closes its channel changes no link
      abbrev flow_scope : Option Scope
      flow_scope = if (q.0 == 19) && not (is_of_session q.1) then unattached (is_attached (number_at q.1 4) s0) else last_scope

      unnamed : (peer : ℕ) → is_attached peer s0 ≡ false → named peer s.links ≡ None
      unnamed peer e = by (named_by s.links.handles peer) (ap (is_attached peer) (sym there) ∙ e)
        where
          by : (o : Option ℕ) → is_some o ≡ false → at_handle o s.links.links ≡ None
          by None f = refl
          by (Some k) f = absurd cc

      flow_kept : (peer : ℕ) (count : Option ℕ) (credit : ℕ) → named peer s.links ≡ None → (after_event (event.FlowCame peer count credit false false) s).links ≡ s.links
      flow_kept peer count credit none =
          flowed_same (receiver_in (named peer s.links)) peer count credit false false s
          ∙ ap (λ (o : Option PathLink). flowed_if (receiver_in o) peer count credit false false s.links) none
          ∙ ap (λ (o : Option PathLink). flowed_on o count credit false false s.links) none

      faulty : scope_in (peers h) n q payload ≡ Some scope.Channel → Agrees (heard_step q ++ link_steps n h) es
      faulty e = by (q.0 == 18) ((q.0 == 19) && not (is_of_session q.1)) (q.0 == 22) (q.0 == 20) refl refl refl refl
        where
          attach_no : (o : Option AttachFault) → attach_scope o ≡ Some scope.Channel → ⊥
          attach_no None f = absurd cc
          attach_no (Some x) f = absurd cc

          unattached_is : (b : Bool) → unattached b ≡ Some scope.Channel → b ≡ false
          unattached_is true f = absurd cc
          unattached_is false f = refl

          no_attach : (a : Bool) → (q.0 == 18) ≡ a → (if a then attach_scope (attach_fault_by q.1 s0) else flow_scope) ≡ Some scope.Channel
          no_attach a f = sym (ap (λ (x : Bool). if x then attach_scope (attach_fault_by q.1 s0) else flow_scope) f) ∙ e

          no_flow : (b : Bool) → ((q.0 == 19) && not (is_of_session q.1)) ≡ b → flow_scope ≡ Some scope.Channel
              → (if b then unattached (is_attached (number_at q.1 4) s0) else last_scope) ≡ Some scope.Channel
          no_flow b f k = sym (ap (λ (x : Bool). if x then unattached (is_attached (number_at q.1 4) s0) else last_scope) f) ∙ k

          no_transfer : (q.0 == 20) ≡ false → (q.0 == 22) ≡ true → last_scope ≡ Some scope.Channel → unattached (is_attached (number_at q.1 0) s0) ≡ Some scope.Channel
          no_transfer f g k =
              sym (ap (λ (x : Bool). if x then transfer_scope (transfer_error q.1 payload ((peers h).carried n) s0)
              else if q.0 == 22 then unattached (is_attached (number_at q.1 0) s0) else None) f
              ∙ ap (λ (x : Bool). if x then unattached (is_attached (number_at q.1 0) s0) else None) g) ∙ k

          by : (a b c d : Bool) → (q.0 == 18) ≡ a → ((q.0 == 19) && not (is_of_session q.1)) ≡ b → (q.0 == 22) ≡ c → (q.0 == 20) ≡ d
              → Agrees ((if a then answer_step (name_in (text_of (field q.1 0))) (number_at q.1 1)
              else if b then Flowed (number_at q.1 4) (number_in (field q.1 5)) (credit_of (number_in (field q.1 6))) ∷ []
              else if c then Detached (number_at q.1 0) ∷ [] else []) ++ link_steps n h) es
          by true b c d f g i j = absurd (attach_no (attach_fault_by q.1 s0) (no_attach true f))
          by false true c d f g i j =
              let none : named (number_at q.1 4) s.links ≡ None = unnamed (number_at q.1 4) (unattached_is _ (no_flow true g (no_attach false f))) in
              subst (λ (z : LinksState). P (Flowed (number_at q.1 4) (number_in (field q.1 5)) (credit_of (number_in (field q.1 6))) ∷ link_steps n h) z)
              (flow_kept (number_at q.1 4) (number_in (field q.1 5)) (credit_of (number_in (field q.1 6))) none)
              (r.flow_came (link_steps n h) (number_at q.1 4) (number_in (field q.1 5)) (credit_of (number_in (field q.1 6))) false false s (tied_after life es) all)
          by false false true true f g i j = absurd (apart_codes q.0 22 20 i j refl)
          by false false true false f g i j =
              let none : named (number_at q.1 0) s.links ≡ None = unnamed (number_at q.1 0) (unattached_is _ (no_transfer j i (no_flow false g (no_attach false f)))) in
              subst (λ (z : LinksState). P (Detached (number_at q.1 0) ∷ link_steps n h) z) (ap (λ (o : Option PathLink). detached_on o s.links) none)
              (r.detach_came (link_steps n h) (number_at q.1 0) false s (tied_after life es) all)
          by false false false d f g i j = all

      session_agrees : (o : Option Scope) → scope_in (peers h) n q payload ≡ o → Agrees ((heard_step q) ++ link_steps n h) (session_events (connection h) o n n q payload (path_at (paths_in h) n) ++ es)
      session_agrees None e = by (n == n) refl
        where
          by : (b : Bool) → (n == n) ≡ b → Agrees ((heard_step q) ++ link_steps n h) ((if b then fine_events (connection h) n q payload (path_at (paths_in h) n) else []) ++ es)
          by true f = fine_agrees e
          by false f = let yes : (n == n) ≡ true = grind (arith, nat_tests) in absurd cc
      session_agrees (Some scope.Connection) e = r.none _ s.links.handles
      session_agrees (Some scope.Channel) e = by (n == n) refl (is_open (connection h) n)
        where
          by : (b : Bool) → (n == n) ≡ b → (c : Bool) → Agrees ((heard_step q) ++ link_steps n h) ((if b then closed_if c ++ event.SessionLost ∷ [] else []) ++ es)
          by true f true = all_mute P r life (heard_step q ++ link_steps n h) (closed_if true ++ event.SessionLost ∷ []) es (refl, (refl, tt)) (faulty e)
          by true f false = all_mute P r life (heard_step q ++ link_steps n h) (closed_if false ++ event.SessionLost ∷ []) es (refl, tt) (faulty e)
          by false f c = let yes : (n == n) ≡ true = grind (arith, nat_tests) in absurd cc

    -- of another channel
    other_session : (o : Option Scope) (j : ℕ) (q : Parts) (payload : List ℕ) (x : PathState) → (j == n) ≡ false → Agrees (link_steps n h) (session_events (connection h) o n j q payload x ++ es)
    other_session None j q payload x ne = subst (λ (b : Bool). Agrees (link_steps n h) ((if b then fine_events (connection h) j q payload x else []) ++ es)) (sym ne) all
    other_session (Some scope.Connection) j q payload x ne = r.none _ s.links.handles
    other_session (Some scope.Channel) j q payload x ne = subst (λ (b : Bool). Agrees (link_steps n h) ((if b then ending (connection h) j else []) ++ es)) (sym ne) all

    abbrev At : Parts → List ℕ → ℕ → Bool → Type 0
    At q payload k b =
        Agrees ((if b then heard_step q else []) ++ link_steps n h) (session_events (connection h) (scope_in (peers h) k q payload) n k q payload (path_at (paths_in h) k) ++ es)

    meaning_agrees : AreDistinct (credits n h) → (m : Meaning) → Agrees ((meaning_step n m) ++ link_steps n h) (meaning_events (peers h) n m ++ es)
    meaning_agrees names (ten.OfSession j q payload) = by (j == n) refl
      where
        by : (b : Bool) → (j == n) ≡ b → At q payload j b
        by true e =
            let same : j ≡ n = grind (arith, nat_tests, e) in
            subst (λ (k : ℕ). At q payload k true) (sym same) (session_agrees names q payload (scope_in (peers h) n q payload) refl)
        by false e = other_session (scope_in (peers h) j q payload) j q payload (path_at (paths_in h) j) e
    meaning_agrees names (ten.Closed e) = r.none _ s.links.handles
    meaning_agrees names ten.Refused = r.none _ s.links.handles
    meaning_agrees names (ten.Violation why) = r.none _ s.links.handles
    meaning_agrees names x = all

    heard_agrees : AreDistinct (credits n h) → (u : Unit10) → Agrees (link_steps n (Heard u ∷ h)) (path_events (Heard u ∷ h) n)
    heard_agrees names u = by (ran_out_in h)
      where
        by : (b : Bool) → Agrees ((if b then [] else meaning_step n (meaning_by (container h) u)) ++ link_steps n h) ((if b then [] else meaning_events (peers h) n (meaning_by (container h) u)) ++ es)
        by true = all
        by false = meaning_agrees names (meaning_by (container h) u)

    -- ---- the gateway's

    module _ (new : attaches_in h < 2 ^ 64 → IsNewName (before h).attached (link_steps n h)) (receives : (l k : PathLink) → granting s ≡ Some l → find (has_number l.link) s.links.links ≡ Some k → k.receives ≡ true) where
      now : path_at (before h).paths n ≡ s
      now = path_of h n life p below lives

      -- fewer attaches went before one
      abbrev IsShort : SessionUnit → Type 0
      IsShort (unit.Attach a) = attaches_in h < 2 ^ 64
      IsShort u = Unit {0}

      unit_agrees : (u : SessionUnit) → IsShort u → IsDue (before h) n u → Agrees ((given_step u) ++ link_steps n h) (given_event u ∷ es)
      unit_agrees (unit.Attach a) less d =
          subst (λ (x : AttachOut). Agrees ((given_step (unit.Attach x)) ++ link_steps n h) (event.AttachSent x.name ∷ es)) (sym d.2)
          (r.attach_sent (link_steps n h) (before h).attached d.0 s (tied_after life es) (new less) (ap next_attach (sym now) ∙ d.1) all)
      unit_agrees (unit.Flow f) less d =
          subst (λ (x : LinkFlow). Agrees ((given_step (unit.Flow x)) ++ link_steps n h) (event.LinkFlowSent ∷ es)) (sym d.2)
          (r.flow_sent (link_steps n h) d.0 s (tied_after life es) (fresh_after life es) receives (ap next_flow (sym now) ∙ d.1) all)
      unit_agrees (unit.Transfer t) less d =
          subst (λ (x : TransferOut). Agrees ((given_step (unit.Transfer x)) ++ link_steps n h) (event.TransferSent x.frame x.bytes ∷ es)) (sym d.2)
          (subst (λ (x : PathState). Agrees ((if d.0.first then Begun (handle_at d.0.link x.links.links) ∷ [] else []) ++ link_steps n h)
          (event.TransferSent d.0 (transfer_of (frame_max_in (before h).up.container) (path_at (before h).paths n) d.0).bytes ∷ es)) (sym now) (sent d.0.first refl))
        where
          window : ℕ
          window = (life_at (before h).lives n).session.windows.window

          bytes : ℕ
          bytes = (transfer_of (frame_max_in (before h).up.container) (path_at (before h).paths n) d.0).bytes

          sent : (b : Bool) → d.0.first ≡ b → Agrees ((if b then Begun (handle_at d.0.link s.links.links) ∷ [] else []) ++ link_steps n h) (event.TransferSent d.0 bytes ∷ es)
          sent true e = r.first_sent (link_steps n h) d.0 bytes s (tied_after life es) e (frame_can window s d.0 (ap (next_frame window) (sym now) ∙ d.1) e) all
          sent false e = r.later_sent (link_steps n h) d.0 bytes s e all
      unit_agrees (unit.Dispose x) less d = r.mute (link_steps n h) event.DisposeSent s refl (tied_after life es) all
      unit_agrees (unit.Settle x) less d = r.mute (link_steps n h) (event.SettleSent x) s refl (tied_after life es) all
      unit_agrees (unit.Detach link handle why) less d = r.mute (link_steps n h) event.DetachSent s refl (tied_after life es) all

      up_agrees : (later : Bool) (u : UpUnit) (text : List ℕ) → attaches_in (Gave (ToUp u) text ∷ h) ≤ 2 ^ 64 → OfSession (IsDue (before h)) u → Agrees ((up_step n u) ++ link_steps n h) (up_events later n u ++ es)
      up_agrees later (up.OnSession k u) text less d = by (k == n) refl
        where
          short : (u : SessionUnit) → attaches_in (Gave (ToUp (up.OnSession k u)) text ∷ h) ≤ 2 ^ 64 → IsShort u
          short (unit.Attach a) l = omega (arith, l)
          short u l = tt

          by : (b : Bool) → (k == n) ≡ b → Agrees ((if b then given_step u else []) ++ link_steps n h) ((if b then given_event u ∷ [] else []) ++ es)
          by true e = let same : k ≡ n = grind (arith, nat_tests, e) in unit_agrees u (short u less) (subst (λ (i : ℕ). IsDue (before h) i u) same d)
          by false e = all
      up_agrees later (up.End k why) text less d = all_mute P r life (link_steps n h) (up_events later n (up.End k why)) es (ends_all IsMute mute later n k why) all
      up_agrees later u text less d = all

  -- a step of the client, or of no unit
  other_agrees : (step : Step) (h : List Step) → gives_up step ≡ false → hears step ≡ false
      → (path_life h n ≡ Some life → Agrees (link_steps n h) (path_events h n)) → path_life (step ∷ h) n ≡ Some life → Agrees (link_steps n h) (path_events (step ∷ h) n)
  other_agrees step h e f old = by (opens_channel n h step)
    where
      by : (b : Bool) → (if b then Some ((peers h).opened + 1) else path_life h n) ≡ Some life → Agrees (link_steps n h) (if b then [] else step_events n h step ++ path_events h n)
      by true l = r.none _ (new_table 255)
      by false l = all_mute P r life (link_steps n h) (step_events n h step) (path_events h n) (other_all IsMute mute n h step e f) (old l)

-- ---- the names of all steps

heard_asks : (n : ℕ) (h : List Step) (u : Unit10) → AllByRecursion (λ x. asks x ≡ false) (link_step n h (Heard u))
heard_asks n h u = by (ran_out_in h) (meaning_by (container h) u)
  where
    answer : (o : Option ℕ) (peer : ℕ) → AllByRecursion (λ x. asks x ≡ false) (answer_step o peer)
    answer None peer = tt
    answer (Some name) peer = (refl, tt)

    part : (q : Parts) (b c d : Bool) → AllByRecursion (λ x. asks x ≡ false)
        (if b then answer_step (name_in (text_of (field q.1 0))) (number_at q.1 1) else if c then
        Flowed (number_at q.1 4) (number_in (field q.1 5)) (credit_of (number_in (field q.1 6))) ∷ [] else if d then Detached (number_at q.1 0) ∷ [] else [])
    part q true c d = answer _ _
    part q false true d = (refl, tt)
    part q false false true = (refl, tt)
    part q false false false = tt

    at : (b : Bool) (q : Parts) → AllByRecursion (λ x. asks x ≡ false) (if b then heard_step q else [])
    at true q = part q (q.0 == 18) ((q.0 == 19) && not (is_of_session q.1)) (q.0 == 22)
    at false q = tt

    by : (b : Bool) (m : Meaning) → AllByRecursion (λ x. asks x ≡ false) (if b then [] else meaning_step n m)
    by true m = tt
    by false (ten.OfSession k q payload) = at (k == n) q
    by false m = tt

frame_asks : (b : Bool) (handle : ℕ) → AllByRecursion (λ x. asks x ≡ false) (if b then Begun handle ∷ [] else [])
frame_asks true handle = (refl, tt)
frame_asks false handle = tt

none_asks : (b : Bool) (xs : List LinkStep) → AllByRecursion (λ x. asks x ≡ false) xs → AllByRecursion (λ x. asks x ≡ false) (if b then xs else [])
none_asks true xs a = a
none_asks false xs a = tt

given_names : (n : ℕ) (h : List Step) (u : UpUnit) (text : List ℕ) → ArePicks h → OfSession (IsDue (before h)) u → attaches_in (Gave (ToUp u) text ∷ h) ≤ 2 ^ 64
    → (attaches_in h ≤ 2 ^ 64 → NamesAre (credits n h) (attaches_in h)) → NamesAre (credits n (Gave (ToUp u) text ∷ h)) (attaches_in (Gave (ToUp u) text ∷ h))
given_names n h (up.OnSession k (unit.Attach a)) text p d less old = by (k == n)
  where
    before_less : attaches_in h < 2 ^ 64
    before_less = omega (arith, less)

    name : a.name ≡ attaches_in h
    name = ap (λ (x : AttachOut). x.name) d.2 ∙ (named_by_steps h p).counted before_less

    earlier : NamesAre (credits n h) (attaches_in h)
    earlier = old (omega (arith, less))

    by : (b : Bool) → NamesAre (more n h (if b then Asked a.link a.handle a.name a.receives ∷ [] else [])) (attaches_in h + 1)
    by true = names_asked (credits n h) (attaches_in h) a.link a.handle a.name a.receives name earlier
    by false = names_on (credits n h) (credits n h) (attaches_in h) (attaches_in h + 1) (omega arith) (λ k. refl) earlier
given_names n h (up.OnSession k (unit.Flow f)) text p d less old =
    names_on (credits n h) _ (attaches_in h) _ (omega arith) (λ i. names_stay n i h _ (none_asks (k == n) _ (refl, tt))) (old (omega (arith, less)))
given_names n h (up.OnSession k (unit.Transfer t)) text p d less old =
    names_on (credits n h) _ (attaches_in h) _ (omega arith) (λ i. names_stay n i h _ (none_asks (k == n) _ (frame_asks t.frame.first t.handle))) (old (omega (arith, less)))
given_names n h (up.OnSession k (unit.Dispose x)) text p d less old =
    names_on (credits n h) _ (attaches_in h) _ (omega arith) (λ i. names_stay n i h _ (none_asks (k == n) _ tt)) (old (omega (arith, less)))
given_names n h (up.OnSession k (unit.Settle x)) text p d less old =
    names_on (credits n h) _ (attaches_in h) _ (omega arith) (λ i. names_stay n i h _ (none_asks (k == n) _ tt)) (old (omega (arith, less)))
given_names n h (up.OnSession k (unit.Detach link handle why)) text p d less old =
    names_on (credits n h) _ (attaches_in h) _ (omega arith) (λ i. names_stay n i h _ (none_asks (k == n) _ tt)) (old (omega (arith, less)))
given_names n h u text p d less old = names_on (credits n h) _ (attaches_in h) _ (omega arith) (λ i. refl) (old (omega (arith, less)))

names_are : (n : ℕ) (h : List Step) → ArePicks h → attaches_in h ≤ 2 ^ 64 → NamesAre (credits n h) (attaches_in h)
names_are n [] p less = record { below = λ k m e. absurd cc; apart = λ j k m e g. absurd cc }
names_are n (Gave (ToUp u) text ∷ h) p less = given_names n h u text p.1 (goes_up_as (IsDue (before h)) (before h) u (is_due (before h)) p.0.1) less (names_are n h p.1)
names_are n (Heard u ∷ h) p less = names_on (credits n h) _ (attaches_in h) _ (omega arith) (λ i. names_stay n i h _ (heard_asks n h u)) (names_are n h p.1 less)
names_are n (s ∷ h) p less = names_on (credits n h) _ (attaches_in h) _ (omega arith) (λ i. refl) (names_are n h p.1 less)

-- ---- all steps

-- the names of the attaches are below their count
asks_none : (m : ℕ) (xs ys : List LinkStep) → AllByRecursion (λ x. asks x ≡ false) xs → asked_as m (xs ++ ys) ≡ asked_as m ys
asks_none m [] ys a = refl
asks_none m (Asked link handle name receives ∷ xs) ys a = absurd (let no : true ≡ false = a.0 in cc)
asks_none m (Answered name peer ∷ xs) ys a = asks_none m xs ys a.1
asks_none m (Flowed peer count credit ∷ xs) ys a = asks_none m xs ys a.1
asks_none m (Detached peer ∷ xs) ys a = asks_none m xs ys a.1
asks_none m (Begun handle ∷ xs) ys a = asks_none m xs ys a.1
asks_none m (Told link handle count ∷ xs) ys a = asks_none m xs ys a.1

abbrev AreBelow : List LinkStep → ℕ → Type 0
AreBelow xs most = (m link : ℕ) → asked_as m xs ≡ Some link → m < most

below_more : (xs ys : List LinkStep) (most up : ℕ) → most ≤ up → AllByRecursion (λ x. asks x ≡ false) xs → AreBelow ys most → AreBelow (xs ++ ys) up
below_more xs ys most up le a old = λ m link e. let less : m < most = old m link (sym (asks_none m xs ys a) ∙ e) in omega (arith, less, le)

given_below : (n : ℕ) (h : List Step) (u : UpUnit) (text : List ℕ) → ArePicks h → OfSession (IsDue (before h)) u → attaches_in (Gave (ToUp u) text ∷ h) ≤ 2 ^ 64
    → (attaches_in h ≤ 2 ^ 64 → AreBelow (link_steps n h) (attaches_in h)) → AreBelow (link_steps n (Gave (ToUp u) text ∷ h)) (attaches_in (Gave (ToUp u) text ∷ h))
given_below n h (up.OnSession k (unit.Attach a)) text p d less old = by (k == n)
  where
    before_less : attaches_in h < 2 ^ 64
    before_less = omega (arith, less)

    name : a.name ≡ attaches_in h
    name = ap (λ (x : AttachOut). x.name) d.2 ∙ (named_by_steps h p).counted before_less

    earlier : AreBelow (link_steps n h) (attaches_in h)
    earlier = old (omega (arith, less))

    asked : (m link : ℕ) (b : Bool) → (a.name == m) ≡ b → (if b then Some a.link else asked_as m (link_steps n h)) ≡ Some link → m < attaches_in h + 1
    asked m link true e f = let same : a.name ≡ m = grind (arith, nat_tests, e) in omega (arith, same, name)
    asked m link false e f = let under : m < attaches_in h = earlier m link f in omega (arith, under)

    by : (b : Bool) → AreBelow ((if b then Asked a.link a.handle a.name a.receives ∷ [] else []) ++ link_steps n h) (attaches_in h + 1)
    by true = λ m link e. asked m link (a.name == m) refl e
    by false = λ m link e. let under : m < attaches_in h = earlier m link e in omega (arith, under)
given_below n h (up.OnSession k (unit.Flow f)) text p d less old = below_more _ (link_steps n h) (attaches_in h) _ (omega arith) (none_asks (k == n) _ (refl, tt)) (old (omega (arith, less)))
given_below n h (up.OnSession k (unit.Transfer t)) text p d less old =
    below_more _ (link_steps n h) (attaches_in h) _ (omega arith) (none_asks (k == n) _ (frame_asks t.frame.first t.handle)) (old (omega (arith, less)))
given_below n h (up.OnSession k (unit.Dispose x)) text p d less old = below_more _ (link_steps n h) (attaches_in h) _ (omega arith) (none_asks (k == n) _ tt) (old (omega (arith, less)))
given_below n h (up.OnSession k (unit.Settle x)) text p d less old = below_more _ (link_steps n h) (attaches_in h) _ (omega arith) (none_asks (k == n) _ tt) (old (omega (arith, less)))
given_below n h (up.OnSession k (unit.Detach link handle why)) text p d less old =
    below_more _ (link_steps n h) (attaches_in h) _ (omega arith) (none_asks (k == n) _ tt) (old (omega (arith, less)))
given_below n h u text p d less old = below_more [] (link_steps n h) (attaches_in h) _ (omega arith) tt (old (omega (arith, less)))

asked_below : (n : ℕ) (h : List Step) → ArePicks h → attaches_in h ≤ 2 ^ 64 → AreBelow (link_steps n h) (attaches_in h)
asked_below n [] p less = λ m link e. absurd cc
asked_below n (Gave (ToUp u) text ∷ h) p less = given_below n h u text p.1 (goes_up_as (IsDue (before h)) (before h) u (is_due (before h)) p.0.1) less (asked_below n h p.1)
asked_below n (Heard u ∷ h) p less = below_more _ (link_steps n h) (attaches_in h) _ (omega arith) (heard_asks n h u) (asked_below n h p.1 less)
asked_below n (s ∷ h) p less = asked_below n h p.1 less

new_name : (n : ℕ) (h : List Step) → ArePicks h → attaches_in h < 2 ^ 64 → IsNewName (before h).attached (link_steps n h)
new_name n h p less = λ m link e.
    let under : m < attaches_in h = asked_below n h p (omega (arith, less)) m link e in
    let is : (before h).attached ≡ attaches_in h = (named_by_steps h p).counted less in
    ne_to (before h).attached m (λ same. omega (arith, same, under, is))

less_before : (h : List Step) (u : UpUnit) (text : List ℕ) → attaches_in (Gave (ToUp u) text ∷ h) ≤ 2 ^ 64 → attaches_in h ≤ 2 ^ 64
less_before h u text less = omega (arith, less)

module _ (arrives : DeliveriesAre) (closed : ClosedAre) (calls : CallsAre) where
  pub agree_by : (P : List LinkStep → LinksState → Type 0) → Rules P → (n : ℕ) → n ≤ CHANNEL_MAX → (h : List Step) → ArePicks h → attaches_in h ≤ 2 ^ 64 → (life : ℕ) → path_life h n ≡ Some life
      → P (link_steps n h) (after_events life (path_events h n)).links
  agree_by P r n below [] p less life l = absurd cc
  agree_by P r n below (Gave (ToUp u) text ∷ h) p less life l =
      up_agrees P r n life below h p.1 l (agree_by P r n below h p.1 (less_before h u text less) life l) (new_name n h p.1)
      (grants_receive arrives life (path_events h n) (have_room arrives closed calls n life below h p.1 l (is_there h u p.1 p.0.1)))
      (is_later (connection h) u) u text less (goes_up_as (IsDue (before h)) (before h) u (is_due (before h)) p.0.1)
  agree_by P r n below (Heard u ∷ h) p less life l =
      heard_agrees P r n life below h p.1 l (agree_by P r n below h p.1 less life l) (distinct (credits n h) (attaches_in h) (names_are n h p.1 less)) u
  agree_by P r n below (s ∷ h) p less life l = other_agrees P r n life below s h refl refl (agree_by P r n below h p.1 less life) l

  pub agrees : (n : ℕ) → n ≤ CHANNEL_MAX → (h : List Step) → ArePicks h → attaches_in h ≤ 2 ^ 64 → (life : ℕ) → path_life h n ≡ Some life
      → AllAgree (credits n h) (after_events life (path_events h n)).links
  agrees = agree_by (λ xs s. AllAgree (λ k. credit_by k xs) s) credit_rules

  begins : (h : List Step) (n : ℕ) (t : TransferOut) → ArePicks h → IsDue (before h) n (unit.Transfer t) → t.frame.first ≡ true → attaches_in h ≤ 2 ^ 64 → HasCredit (link_steps n h) t.handle
  begins h n t p d first less = by (slot_at (before h).paths n) refl d.1 d.2
    where
      window : ℕ
      window = (life_at (before h).lives n).session.windows.window

      lived_by : (s : PathState) → IsLived h n s → next_frame window s ≡ Some d.0 → t ≡ transfer_of (frame_max_in (before h).up.container) s d.0 → HasCredit (link_steps n h) t.handle
      lived_by s v e same =
          let x : PathState = after_events v.life (path_events h n) in
          let begun_now : d.0.first ≡ true = sym (ap (λ (y : TransferOut). y.frame.first) same) ∙ first in
          let can = frame_can window x d.0 (ap (next_frame window) (sym v.is) ∙ e) begun_now in
          let c = credit_there (credits n h) x.links d.0.link (tied_after v.life (path_events h n)) (agrees n v.below h p less v.life v.lives) can in
          let handle : t.handle ≡ handle_at d.0.link x.links.links = ap (λ (y : TransferOut). y.handle) same ∙ ap (λ (y : PathState). handle_at d.0.link y.links.links) v.is in
          record { credit = c.0; is = ap (credits n h) handle ∙ c.1; some = c.2 }

      by : (o : Option PathState) → slot_at (before h).paths n ≡ o → next_frame window (or_no_path o) ≡ Some d.0
          → t ≡ transfer_of (frame_max_in (before h).up.container) (or_no_path o) d.0 → HasCredit (link_steps n h) t.handle
      by None g e same = absurd (no_frame (window == 0) e)
        where
          no_frame : (b : Bool) → (if b then None else None) ≡ Some d.0 → ⊥
          no_frame true f = cc
          no_frame false f = cc
      by (Some s) g e same = lived_by s (lived h n s p g) e same

  may_begin : (h : List Step) (u : UpUnit) → ArePicks h → OfSession (IsDue (before h)) u → MayBegin h u
  may_begin h (up.OnSession n (unit.Transfer t)) p d = begins h n t p d
  may_begin h u p d = tt

  pub credit_kept : (h : List Step) → ArePicks h → CreditIsKept h
  credit_kept [] p = tt
  credit_kept (Gave (ToUp u) text ∷ h) p = (may_begin h u p.1 (goes_up_as (IsDue (before h)) (before h) u (is_due (before h)) p.0.1), credit_kept h p.1)
  credit_kept (s ∷ h) p = credit_kept h p.1
