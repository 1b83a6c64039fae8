-- The confirms and the transfers that go are those that the publishes of the life in progress make due.
use Rattle.std.proofs.Common.{◌≡◌, ℕ, zero, suc, ◌+◌, ◌%◌, ◌^◌, ◌==◌, ◌<◌, ◌≤◌, ◌&&◌, ◌||◌, nat_lt}
use Rattle.std.proofs.Common.{min, take, cond, Bool, true, false, if◌then◌else◌, List, [], ◌∷◌}
use Rattle.std.proofs.Common.{length, Option, None, Some, option_map, refl, sym, ap, ◌∙◌, subst, arith}
use Rattle.std.proofs.lemmas.Bool.Decides.{nat_tests}
use Rattle.std.specs.Option.{option_or}
use Rattle.std.specs.Prelude.{IfSome}
use Rattle.open_items.specs.Numbers.{first, least, passing_above}
use Rattle.gate_outside.specs.declared.ports.End.TheVariants.{Up}
use Rattle.machine_091.specs.declared.limits.TheConstants.{CHANNEL_MAX}
use Rattle.publish_path.specs.Journal.{Fate, IsTaken, fate_of, goes_on, is_to_go, next_id_of, numbers_of, rest_by, waits}
use Rattle.publish_path.specs.Laws.{IsLawfulConfirm, frame_at, frame_by, may_begin}
use Rattle.publish_path.specs.Offers.{next_confirm_of, next_frame_of, rest_of}
use Rattle.publish_path.specs.declared.publish.NextFrame.{NextFrame}
use Rattle.publish_path.specs.declared.send_links.SendingLink.{SendingLink}
use Rattle.publish_path.specs.Publishes.{FrameSent, PublishEvent, PublishState}
use Rattle.publish_path.specs.Publishes.{after_events as publishes_after, open_after}
use Rattle.publish_path.specs.declared.publish.Confirm.{Confirm}
use Rattle.session_path.specs.Due.{next_confirm, next_content, next_deliver, next_frame, next_ok, next_return}
use Rattle.session_path.specs.Events.{PathEvent, after_events, publishes_of}
use Rattle.session_path.specs.Links.{handle_at}
use Rattle.session_path.specs.Path.{PathState}
use Rattle.gate_model.specs.declared.channel.ChannelUnit.{ChannelUnit}
use Rattle.gate_model.specs.declared.channel.ChannelUnit.TheVariants as to_client
use Rattle.gate_model.specs.declared.channel.SessionUnit.{SessionUnit}
use Rattle.gate_model.specs.declared.channel.SessionUnit.TheVariants as unit
use Rattle.gate_model.specs.declared.channel.TransferOut.{TransferOut}
use Rattle.gate_model.specs.declared.life.SessionState.{SessionState}
use Rattle.gate_model.specs.declared.outgoing.Outgoing.TheVariants.{ToClient, ToUp}
use Rattle.gate_model.specs.declared.outgoing.UpUnit.{UpUnit}
use Rattle.gate_model.specs.declared.outgoing.UpUnit.TheVariants as up
use Rattle.gate_model.specs.declared.reply.Reply.{Reply}
use Rattle.gate_model.specs.declared.reply.Reply.TheVariants as reply
use Rattle.gate_model.specs.Due.{carries_up, frame_max_in, pick}
use Rattle.gate_model.specs.Lives.{life_at}
use Rattle.gate_model.specs.Folds.{paths_in}
use Rattle.gate_model.specs.Paths.{or_no_path, part_of, path_at, slot_at, transfer_of}
use Rattle.gate_model.specs.Picks.{ArePicks}
use Rattle.gate_model.specs.Publishing.{Confirms, MayCarry, MayConfirm, MayTell, MayTransfer, Transfers, path_events, path_life}
use Rattle.gate_model.specs.State.{Gave, State, Step, before}
use Rattle.gate_model.proofs.Carrying.{carries_in}
use Rattle.gate_model.proofs.Firsts.{OfChannel, OfSession, goes_as, goes_up_as, ChannelUnits}
use Rattle.gate_model.proofs.Known.{known, paths_are}
use Rattle.gate_model.proofs.Publishing.{path_is, tells}
use Rattle.gate_model.proofs.Slots.{below}

-- ---- the laws of the publishes

abbrev pub PublishesAre : Type 0
PublishesAre = (life : ℕ) (h : List PathEvent) → (after_events life h).publishes ≡ publishes_after life (publishes_of life h)

abbrev pub ConfirmsAre : Type 0
ConfirmsAre = (life : ℕ) (h : List PublishEvent) → IfSome (next_confirm_of (open_after life h)) (IsLawfulConfirm h)

abbrev pub FramesAre : Type 0
FramesAre = (life : ℕ) (links : List SendingLink) (h : List PublishEvent) → next_frame_of links (open_after life h) ≡ frame_by links h

abbrev pub RestsAre : Type 0
RestsAre = (life n : ℕ) (h : List PublishEvent) → IsTaken h n → rest_of n (open_after life h) ≡ rest_by (fate_of n h)

-- ---- a path that is there

pub record IsLived (h : List Step) (n : ℕ) (s : PathState) : Type 0 where
  pub life : ℕ
  pub lives : path_life h n ≡ Some life
  pub is : s ≡ after_events life (path_events h n)
  pub below : n ≤ CHANNEL_MAX

pub lived : (h : List Step) (n : ℕ) (s : PathState) → ArePicks h → slot_at (before h).paths n ≡ Some s → IsLived h n s
lived h n s p e = by (path_life h n) refl (sym e ∙ path_is h n p least)
  where
    least : n ≤ CHANNEL_MAX
    least =
        let there : slot_at (paths_in h) n ≡ Some s = sym (ap (λ (ps : List (Option PathState)). slot_at ps n) (paths_are (known h p))) ∙ e in
        let less : n < length (paths_in h) = below (paths_in h) n s there in
        let many : length (paths_in h) ≡ 256 = (tells n h p).long in
        let most : CHANNEL_MAX ≡ 255 = refl in
        omega (arith, less, many, most)

    by : (o : Option ℕ) → path_life h n ≡ o → Some s ≡ option_map (λ (life : ℕ). after_events life (path_events h n)) o → IsLived h n s
    by None g f = absurd cc
    by (Some life) g f = record { life = life; lives = g; is = (let same : s ≡ after_events life (path_events h n) = cc in same); below = least }

-- the path of a channel with a life
pub path_of : (h : List Step) (n life : ℕ) → ArePicks h → n ≤ CHANNEL_MAX → path_life h n ≡ Some life → path_at (before h).paths n ≡ after_events life (path_events h n)
path_of h n life p below e = ap or_no_path (path_is h n p below ∙ ap (option_map (λ (l : ℕ). after_events l (path_events h n))) e)

-- ---- confirms

abbrev pub IsNext : State → ℕ → ChannelUnit → Type 0
IsNext w n (to_client.Ok x) = next_ok (path_at w.paths n) ≡ Some x
IsNext w n (to_client.Deliver d) = next_deliver (path_at w.paths n) ≡ Some d
IsNext w n (to_client.Content c) = next_content (path_at w.paths n) ≡ Some c
IsNext w n (to_client.Confirm c) = next_confirm (path_at w.paths n) ≡ Some c
IsNext w n (to_client.Return r) = next_return (path_at w.paths n) ≡ Some r

may_confirm : PublishesAre → ConfirmsAre → (h : List Step) (n : ℕ) (c : Confirm) → ArePicks h → next_confirm (path_at (before h).paths n) ≡ Some c → MayConfirm h n c
may_confirm publishes confirms h n c p e = by (slot_at (before h).paths n) refl e
  where
    lived_by : (s : PathState) → IsLived h n s → next_confirm s ≡ Some c → MayConfirm h n c
    lived_by s l f =
        let events : List PublishEvent = publishes_of l.life (path_events h n) in
        let is : s.publishes ≡ publishes_after l.life events = ap (λ (x : PathState). x.publishes) l.is ∙ publishes l.life (path_events h n) in
        let due : next_confirm_of (open_after l.life events) ≡ Some c = ap (λ (x : PublishState). next_confirm_of x.list) (sym is) ∙ f in
        record { life = l.life; lives = l.lives; lawful = subst (λ (o : Option Confirm). IfSome o (IsLawfulConfirm events)) due (confirms l.life events) }

    by : (o : Option PathState) → slot_at (before h).paths n ≡ o → next_confirm (or_no_path o) ≡ Some c → MayConfirm h n c
    by None g f = absurd cc
    by (Some s) g f = lived_by s (lived h n s p g) f

may_tell : PublishesAre → ConfirmsAre → (h : List Step) (u : Reply) → ArePicks h → OfChannel (IsNext (before h)) u → MayTell h u
may_tell publishes confirms h (reply.OnChannel n (to_client.Ok x)) p e = tt
may_tell publishes confirms h (reply.OnChannel n (to_client.Deliver d)) p e = tt
may_tell publishes confirms h (reply.OnChannel n (to_client.Content c)) p e = tt
may_tell publishes confirms h (reply.OnChannel n (to_client.Confirm c)) p e = may_confirm publishes confirms h n c p e
may_tell publishes confirms h (reply.OnChannel n (to_client.Return r)) p e = tt
may_tell publishes confirms h u p e = tt

-- what goes to the client on a channel is what is due there
pub is_next : {w : State} → ChannelUnits (IsNext w) w
is_next {w} = record { answer = λ n x e. e; deliver = λ n d e. e; content = λ n c e. e; confirm = λ n c e. e; back = λ n r e. e }

pub confirms_are : PublishesAre → ConfirmsAre → (h : List Step) → ArePicks h → Confirms h
confirms_are publishes confirms [] p = tt
confirms_are publishes confirms (Gave (ToClient u) text ∷ h) p = (
  may_tell publishes confirms h u p.1 (goes_as (IsNext (before h)) (before h) u is_next p.0.1),
  confirms_are publishes confirms h p.1,
)
confirms_are publishes confirms (s ∷ h) p = confirms_are publishes confirms h p.1

-- ---- transfers

record IsDue (w : State) (n : ℕ) (t : TransferOut) : Type 0 where
  frame : NextFrame
  due : next_frame (life_at w.lives n).session.windows.window (path_at w.paths n) ≡ Some frame
  is : t ≡ transfer_of (frame_max_in w.up.container) (path_at w.paths n) frame

abbrev IsNextFrame : State → ℕ → SessionUnit → Type 0
IsNextFrame w n (unit.Transfer t) = IsDue w n t
IsNextFrame w n x = Unit {0}

-- a frame that is due has room in the window
record HasRoom (window : ℕ) (s : PathState) (f : NextFrame) : Type 0 where
  room : 1 ≤ window
  frame : next_frame_of s.links.sending s.publishes.list ≡ Some f

has_room : (window : ℕ) (s : PathState) (f : NextFrame) → next_frame window s ≡ Some f → HasRoom window s f
has_room window s f e = by (window == 0) refl e
  where
    by : (b : Bool) → (window == 0) ≡ b → (if b then None else next_frame_of s.links.sending s.publishes.list) ≡ Some f → HasRoom window s f
    by true g e = absurd cc
    by false g e = record { room = grind (arith, nat_tests, g); frame = e }

no_frame : (f : NextFrame) → None ≡ Some f → ⊥
no_frame f e = cc

record IsLeast (t : ℕ → Bool) (low most k : ℕ) : Type 0 where
  above : low + 1 ≤ k
  below : k ≤ most
  passes : t k ≡ true

least_above : (t : ℕ → Bool) (low m k : ℕ) → first (passing_above t low m) ≡ Some k → IsLeast t low (low + m) k
least_above t low zero k e = absurd cc
least_above t low (suc m) k e = by (t (low + 1)) refl (λ f. least_above t (low + 1) m k f) e
  where
    by : (b : Bool) → t (low + 1) ≡ b → (first (passing_above t (low + 1) m) ≡ Some k → IsLeast t (low + 1) ((low + 1) + m) k)
        → first (cond b ((low + 1) ∷ passing_above t (low + 1) m) (passing_above t (low + 1) m)) ≡ Some k → IsLeast t low (low + suc m) k
    by true g more f =
        let same : low + 1 ≡ k = cc in
        record { above = omega (arith, same); below = omega (arith, same); passes = subst (λ (i : ℕ). t i ≡ true) same g }
    by false g more f = let rest = more f in record { above = omega (arith, rest.above); below = omega (arith, rest.below); passes = rest.passes }

pub least_passes : (t : ℕ → Bool) (most k : ℕ) → least t most ≡ Some k → (1 ≤ k) × (k ≤ most) × (t k ≡ true)
least_passes t most k e = let l = least_above t 0 most k e in (omega (arith, l.above), omega (arith, l.below), l.passes)

-- its publish was taken up, and is to go
pub record IsToGo (h : List PublishEvent) (n : ℕ) : Type 0 where
  pub taken : IsTaken h n
  pub goes : is_to_go (fate_of n h) ≡ true

least_goes : (h : List PublishEvent) (t : Fate → Bool) (k : ℕ) → ((f : Fate) → t f ≡ true → is_to_go f ≡ true)
    → least (λ n. t (fate_of n h)) (numbers_of h) ≡ Some k → IsToGo h k
least_goes h t k is e =
    let l = least_above (λ n. t (fate_of n h)) 0 (numbers_of h) k e in
    record { taken = (omega (arith, l.above), omega (arith, l.below)); goes = is (fate_of k h) l.passes }

pub on_goes : (f : Fate) → goes_on f ≡ true → is_to_go f ≡ true
on_goes f e = by (waits f) (goes_on f) e
  where
    by : (a b : Bool) → b ≡ true → (a || b) ≡ true
    by true b g = refl
    by false b g = g

new_goes : (links : List SendingLink) (f : Fate) → may_begin links f ≡ true → is_to_go f ≡ true
new_goes links f e = by (waits f) _ (goes_on f) e
  where
    by : (a b c : Bool) → (a && b) ≡ true → (a || c) ≡ true
    by true b c g = refl
    by false b c g = absurd cc

pub to_go : (links : List SendingLink) (h : List PublishEvent) (f : NextFrame) → frame_by links h ≡ Some f → IsToGo h f.publish
to_go links h f e =
    by (least (λ n. goes_on (fate_of n h)) (numbers_of h)) (least (λ n. may_begin links (fate_of n h)) (numbers_of h))
    (λ k. least_goes h goes_on k on_goes) (λ k. least_goes h (may_begin links) k (new_goes links)) e
  where
    by : (a b : Option ℕ) → ((k : ℕ) → a ≡ Some k → IsToGo h k) → ((k : ℕ) → b ≡ Some k → IsToGo h k)
        → option_or (option_map (frame_at false h) a) (option_map (frame_at true h) b) ≡ Some f → IsToGo h f.publish
    by (Some k) b x y g = let same : frame_at false h k ≡ f = cc in subst (λ (z : NextFrame). IsToGo h z.publish) same (x k refl)
    by None (Some k) x y g = let same : frame_at true h k ≡ f = cc in subst (λ (z : NextFrame). IsToGo h z.publish) same (y k refl)
    by None None x y g = absurd cc

-- delivery-ids count the transfers that began
next_id_is : (life : ℕ) (h : List PublishEvent) → (publishes_after life h).next_id ≡ next_id_of h
next_id_is life [] = refl
next_id_is life (FrameSent number first part ∷ h) = ap (λ (id : ℕ). if first then (id + 1) % 2 ^ 32 else id) (next_id_is life h)
next_id_is life (s ∷ h) = next_id_is life h

cut_more : (room left : ℕ) → nat_lt room left ≡ nat_lt (min room left) left
cut_more room left = by (nat_lt room left) refl
  where
    by : (b : Bool) → nat_lt room left ≡ b → b ≡ nat_lt (min room left) left
    by true e =
        let less : room < left = grind (arith, nat_tests, e) in
        let so : min room left < left = omega (arith, less) in
        let is : nat_lt (min room left) left ≡ true = grind (arith, nat_tests, so) in sym is
    by false e =
        let less : left ≤ room = grind (arith, nat_tests, e) in
        let so : left ≤ min room left = omega (arith, less) in
        let is : nat_lt (min room left) left ≡ false = grind (arith, nat_tests, so) in sym is

may_transfer : PublishesAre → FramesAre → RestsAre → (h : List Step) (n : ℕ) (t : TransferOut) (text : List ℕ) → ArePicks h → IsDue (before h) n t
    → text ≡ part_of (path_at (before h).paths n) t → MayTransfer h n t text
may_transfer publishes frames rests h n t text p d carried = by (slot_at (before h).paths n) refl d.is carried d.due
  where
    max : ℕ
    max = frame_max_in (before h).up.container

    lived_by : (s : PathState) → IsLived h n s → t ≡ transfer_of max s d.frame → text ≡ part_of s t
        → HasRoom (life_at (before h).lives n).session.windows.window s d.frame → MayTransfer h n t text
    lived_by s l same part r =
        let events : List PublishEvent = publishes_of l.life (path_events h n) in
        let sending : List SendingLink = (after_events l.life (path_events h n)).links.sending in
        let is : s.publishes ≡ publishes_after l.life events = ap (λ (x : PathState). x.publishes) l.is ∙ publishes l.life (path_events h n) in
        let frame_is : t.frame ≡ d.frame = ap (λ (x : TransferOut). x.frame) same in
        let due : frame_by sending events ≡ Some t.frame =
        sym (frames l.life sending events)
        ∙ ap (λ (x : PublishState). next_frame_of sending x.list) (sym is)
        ∙ ap (λ (x : PathState). next_frame_of x.links.sending s.publishes.list) (sym l.is) ∙ r.frame ∙ ap Some (sym frame_is) in
        let left : rest_of t.frame.publish s.publishes.list ≡ rest_by (fate_of t.frame.publish events) =
        ap (λ (x : PublishState). rest_of t.frame.publish x.list) is ∙ rests l.life t.frame.publish events (to_go sending events t.frame due).taken in
        let below : n < 256 = (let least : n ≤ CHANNEL_MAX = l.below in let most : CHANNEL_MAX ≡ 255 = refl in omega (arith, least, most)) in
        record {
          life = l.life;
          lives = l.lives;
          frame = due;
          id = ap (λ (x : TransferOut). x.id) same ∙ ap (λ (x : PublishState). x.next_id) is ∙ next_id_is l.life events;
          handle = ap (λ (x : TransferOut). x.handle) same ∙ ap (λ (f : NextFrame). handle_at f.link s.links.links) (sym frame_is)
              ∙ ap (λ (x : PathState). handle_at t.frame.link x.links.links) l.is;
          room = subst (λ (x : SessionState). 1 ≤ x.windows.window) (carries_in h p n below) r.room;
          part = part ∙ ap (take t.bytes) left;
          more = cut_by same ∙ ap (λ (x : List ℕ). nat_lt t.bytes (length x)) left;
        }
      where
        cut_by : t ≡ transfer_of max s d.frame → t.more ≡ nat_lt t.bytes (length (rest_of t.frame.publish s.publishes.list))
        cut_by e = subst (λ (x : TransferOut). x.more ≡ nat_lt x.bytes (length (rest_of x.frame.publish s.publishes.list))) (sym e) (cut_more _ _)

    by : (o : Option PathState) → slot_at (before h).paths n ≡ o → t ≡ transfer_of max (or_no_path o) d.frame → text ≡ part_of (or_no_path o) t
        → next_frame (life_at (before h).lives n).session.windows.window (or_no_path o) ≡ Some d.frame → MayTransfer h n t text
    by None g same part e = absurd (no_frame d.frame (has_room _ (or_no_path None) d.frame e).frame)
    by (Some s) g same part e = lived_by s (lived h n s p g) same part (has_room _ s d.frame e)

may_carry : PublishesAre → FramesAre → RestsAre → (h : List Step) (u : UpUnit) (text : List ℕ) → ArePicks h → OfSession (IsNextFrame (before h)) u
    → text ≡ carries_up (before h) u → MayCarry h u text
may_carry publishes frames rests h (up.OnSession n (unit.Transfer t)) text p d e = may_transfer publishes frames rests h n t text p d e
may_carry publishes frames rests h u text p d e = tt

pub carry_is : PublishesAre → FramesAre → RestsAre → (h : List Step) (u : UpUnit) (text : List ℕ) → ArePicks h → pick (before h) Up ≡ Some (ToUp u)
    → text ≡ carries_up (before h) u → MayCarry h u text
carry_is publishes frames rests h u text p e same =
    may_carry publishes frames rests h u text p
    (goes_up_as (IsNextFrame (before h)) (before h) u (record {
      attach = λ n a f. tt;
      flow = λ n x f. tt;
      transfer = λ n x f. record { frame = x; due = f; is = refl };
      dispose = λ n x f. tt;
      settle = λ n x f. tt;
      detach = λ n x f. tt;
    }) e) same

pub transfers_are : PublishesAre → FramesAre → RestsAre → (h : List Step) → ArePicks h → Transfers h
transfers_are publishes frames rests [] p = tt
transfers_are publishes frames rests (Gave (ToUp u) text ∷ h) p =
    (carry_is publishes frames rests h u text p.1 p.0.1 p.0.2, transfers_are publishes frames rests h p.1)
transfers_are publishes frames rests (s ∷ h) p = transfers_are publishes frames rests h p.1
