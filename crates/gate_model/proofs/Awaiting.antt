-- On a link for gets the credit that is left is that of the get that waits for its delivery.
use Rattle.std.proofs.Common.{◌≡◌, ◌∙◌, ℕ, ◌+◌, ◌-◌, ◌*◌, ◌==◌, ◌≤◌, ◌<◌, nat_le, nat_lt, not, ◌&&◌, ◌||◌, Bool, true, false, if◌then◌else◌, List, [], ◌∷◌}
use Rattle.std.proofs.Common.{Option, None, Some, length, refl, sym, ap, subst, arith}
use Rattle.std.specs.Option.{option_map, option_or}
use Rattle.std.specs.Prelude.{IfSome, is_some}
use Rattle.std.proofs.lemmas.Bool.Decides.{nat_tests}
use Rattle.links_10.specs.Recv.{after_arrival, after_attach, after_cancel, after_grant, after_peer_flow, gave_up, grant_of, greater, is_live, left_by}
use Rattle.links_10.specs.declared.recv.Granting.{Granting}
use Rattle.links_10.specs.declared.recv.Granting.TheVariants.{Ended}
use Rattle.links_10.specs.declared.recv.Receiving.{Receiving}
use Rattle.consume_path.specs.Deliveries as on
use Rattle.consume_path.specs.Deliveries.{DeliveryEvent, DeliveryState}
use Rattle.consume_path.specs.Laws.{AreCalls, IsCall}
use Rattle.consume_path.specs.Links.{bytes_in, found_empty, has_number, in_link, is_ask, is_asked, is_between, is_echo, is_empty, is_stop, is_to_ask, is_whole, joined}
use Rattle.consume_path.specs.Links.{get_emptied, flow_sent, link_attached, link_cancelled, link_flowed, link_of, link_waits, new_get, new_link, served, taken_from, transfer_came, was_asked}
use Rattle.consume_path.specs.Offers.{echo_credit, fault_in, fault_of, flow_of, grant_as, is_drained, is_for_gets, is_free_for_get, most_bytes, names_wrongly, takes_get}
use Rattle.consume_path.specs.declared.delivery.Arriving.{Arriving}
use Rattle.consume_path.specs.declared.delivery.Content.{Content}
use Rattle.consume_path.specs.declared.receiving.Cause.TheVariants.{Echo, Get as Asks, Refill, Stop}
use Rattle.consume_path.specs.declared.receiving.NextGrant.{NextGrant}
use Rattle.consume_path.specs.declared.receiving.Part.{Part}
use Rattle.consume_path.specs.declared.receiving.Partial.{Partial}
use Rattle.consume_path.specs.declared.receiving.ReceivingLink.{ReceivingLink}
use Rattle.consume_path.specs.declared.receiving.RecvKind.{RecvKind}
use Rattle.consume_path.specs.declared.receiving.RecvKind.TheVariants.{Consumer, Get, Probe}
use Rattle.consume_path.specs.declared.receiving.TransferFault.TheVariants.{InvalidField, LimitExceeded, SizeExceeded}
use Rattle.consume_path.specs.declared.receiving.WaitingGet.{WaitingGet}
use Rattle.session_path.proofs.Numbers.{closed_before}
use Rattle.gate_model.specs.Credits.{awaits}
use Rattle.gate_model.proofs.Basics.{and_left, and_right, not_true}
use Rattle.gate_model.proofs.Connections.{clash}
use Rattle.gate_model.proofs.Linking.{Source, apart, counted_anew, link_after, linked, recounts, source}
use Rattle.gate_model.proofs.Quotas.{Kept, equal, kept, number_is, turned}

-- ---- the calls

-- a get is taken up where none waits, its get-empty is noted where it is due, and no link for gets
-- is cancelled
abbrev pub IsGetCall : DeliveryState → DeliveryEvent → Type 0
IsGetCall s (on.GetCame link no_ack) = takes_get link s.links ≡ true
IsGetCall s (on.Emptied link) = is_drained link s.links ≡ true
IsGetCall s (on.Cancelled link) = in_link (λ l. is_for_gets l.kind) (link_of s.links link) ≡ false
IsGetCall s x = Unit {0}

abbrev pub AreGetCalls : ℕ → List DeliveryEvent → Type 0
AreGetCalls life [] = Unit {0}
AreGetCalls life (x ∷ ds) = IsGetCall (on.after_events life ds) x × AreGetCalls life ds

-- ---- how a link for gets stands

-- by its get, its delivery that is begun, its credit, and that a get waits on it
abbrev StandsFor : Bool → Bool → Option Partial → ℕ → Bool → Type 0
StandsFor false false None credit waits = (credit ≡ 0) × (waits ≡ true)
StandsFor false false (Some p) credit waits = ⊥
StandsFor true false None credit waits = (credit ≤ 1) × (waits ≡ true)
StandsFor true false (Some p) credit waits = credit ≡ 0
StandsFor false true None credit waits = credit ≡ 0
StandsFor false true (Some p) credit waits = ⊥
StandsFor true true None credit waits = credit ≡ 0
StandsFor true true (Some p) credit waits = ⊥

abbrev Stands : Option WaitingGet → Option Partial → ℕ → Bool → Type 0
Stands None None credit waits = credit ≡ 0
Stands None (Some p) credit waits = ⊥
Stands (Some g) partial credit waits = StandsFor g.asked g.empty partial credit waits

pub record Ready (ds : List DeliveryEvent) (k : ℕ) (l : ReceivingLink) : Type 0 where
  left : l.state.limit_left ≡ l.state.credit
  stands : Stands l.get l.partial l.state.credit (awaits k ds)
  pub calm : l.stopping ≡ false
  pub kept : l.cancelled ≡ false

abbrev pub IsReady : List DeliveryEvent → ℕ → ReceivingLink → Type 0
IsReady ds k l = is_for_gets l.kind ≡ true → Ready ds k l

-- no get waits without a credit
no_credit : (a e : Bool) (p : Option Partial) (credit : ℕ) (waits : Bool) → StandsFor a e p credit waits → waits ≡ false → credit ≡ 0
no_credit false false None credit waits s f = s.0
no_credit false false (Some p) credit waits s f = absurd s
no_credit true false None credit waits s f = absurd (clash waits s.1 f)
no_credit true false (Some p) credit waits s f = s
no_credit false true None credit waits s f = s
no_credit false true (Some p) credit waits s f = absurd s
no_credit true true None credit waits s f = s
no_credit true true (Some p) credit waits s f = absurd s

unawaited : (g : Option WaitingGet) (p : Option Partial) (credit : ℕ) (waits : Bool) → Stands g p credit waits → waits ≡ false → credit ≡ 0
unawaited None None credit waits s f = s
unawaited None (Some p) credit waits s f = absurd s
unawaited (Some g) p credit waits s f = no_credit g.asked g.empty p credit waits s f

-- less credit is left
lower_for : (a e : Bool) (p : Option Partial) (c d : ℕ) (waits : Bool) → d ≤ c → StandsFor a e p c waits → StandsFor a e p d waits
lower_for false false None c d waits le s = (let none : c ≡ 0 = s.0 in omega (arith, le, none), s.1)
lower_for false false (Some p) c d waits le s = s
lower_for true false None c d waits le s = (let most : c ≤ 1 = s.0 in omega (arith, le, most), s.1)
lower_for true false (Some p) c d waits le s = omega (arith, le, s)
lower_for false true None c d waits le s = omega (arith, le, s)
lower_for false true (Some p) c d waits le s = s
lower_for true true None c d waits le s = omega (arith, le, s)
lower_for true true (Some p) c d waits le s = s

lower : (g : Option WaitingGet) (p : Option Partial) (c d : ℕ) (waits : Bool) → d ≤ c → Stands g p c waits → Stands g p d waits
lower None None c d waits le s = omega (arith, le, s)
lower None (Some p) c d waits le s = s
lower (Some g) p c d waits le s = lower_for g.asked g.empty p c d waits le s

-- nothing comes for it
found_for : (a : Bool) (c : ℕ) (waits : Bool) → c ≡ 0 → StandsFor a true None c waits
found_for true c waits e = e
found_for false c waits e = e

found : (g : Option WaitingGet) (c : ℕ) (waits : Bool) → c ≡ 0 → Stands (found_empty g) None c waits
found None c waits e = e
found (Some g) c waits e = found_for g.asked c waits e

-- that a get waits is said anew
anew : (g : Option WaitingGet) (p : Option Partial) (c : ℕ) (waits again : Bool) → again ≡ waits → Stands g p c waits → Stands g p c again
anew g p c waits again e s = subst (Stands g p c) (sym e) s

-- one comes where none waits
comes : (g : Option WaitingGet) (p : Option Partial) (c : ℕ) (waits again : Bool) (number : ℕ) (no_ack : Bool) → is_some g ≡ false → again ≡ true → Stands g p c waits
    → Stands (Some (new_get number no_ack)) p c again
comes None None c waits again number no_ack e f s = (s, f)
comes None (Some p) c waits again number no_ack e f s = absurd s
comes (Some g) p c waits again number no_ack e f s = absurd cc

-- its flow goes
asks : (g : Option WaitingGet) (p : Option Partial) (c : ℕ) (waits : Bool) → is_to_ask g ≡ true → Stands g p c waits → Stands (was_asked g) p 1 waits
asks None p c waits e s = absurd cc
asks (Some g) p c waits e s = by g.asked g.empty p e s
  where
    by : (a e : Bool) (p : Option Partial) → (not a && not e) ≡ true → StandsFor a e p c waits → StandsFor true e p 1 waits
    by false false None f s = (omega arith, s.1)
    by false false (Some p) f s = absurd s
    by false true p f s = absurd cc
    by true e p f s = absurd cc

asked_none : (g : Option WaitingGet) (p : Option Partial) (c : ℕ) (waits : Bool) → is_to_ask g ≡ true → Stands g p c waits → (c ≡ 0) × (waits ≡ true)
asked_none None p c waits e s = absurd cc
asked_none (Some g) p c waits e s = by g.asked g.empty p e s
  where
    by : (a e : Bool) (p : Option Partial) → (not a && not e) ≡ true → StandsFor a e p c waits → (c ≡ 0) × (waits ≡ true)
    by false false None f s = s
    by false false (Some p) f s = absurd s
    by false true p f s = absurd cc
    by true e p f s = absurd cc

-- its delivery begins, with the credit that it has
begins : (part : Part) (payload : List ℕ) (g : Option WaitingGet) (c : ℕ) (waits again : Bool) → 1 ≤ c → Stands g None c waits
    → Stands (if part.aborted then found_empty g else g) (joined part payload None) (c - 1) again
begins part payload None c waits again some s = let none : c ≡ 0 = s in absurd (omega (arith, some, none))
begins part payload (Some g) c waits again some s = by g.asked g.empty part.aborted s
  where
    by : (a e b : Bool) → StandsFor a e None c waits
        → Stands (if b then Some (record g { asked = a; empty = true }) else Some (record g { asked = a; empty = e })) (if b then None else joined (record part { aborted = false }) payload None) (c - 1) again
    by true false true s = let most : c ≤ 1 = s.0 in omega (arith, most)
    by true false false s = let most : c ≤ 1 = s.0 in omega (arith, most)
    by false false b s = let none : c ≡ 0 = s.0 in absurd (omega (arith, some, none))
    by false true b s = absurd (omega (arith, some, s))
    by true true b s = absurd (omega (arith, some, s))

-- and goes on
goes_on : (part : Part) (payload : List ℕ) (g : Option WaitingGet) (p : Partial) (c : ℕ) (waits again : Bool) → Stands g (Some p) c waits
    → Stands (if part.aborted then found_empty g else g) (joined part payload (Some p)) c again
goes_on part payload None p c waits again s = absurd s
goes_on part payload (Some g) p c waits again s = by g.asked g.empty part.aborted s
  where
    by : (a e b : Bool) → StandsFor a e (Some p) c waits
        → Stands (if b then Some (record g { asked = a; empty = true }) else Some (record g { asked = a; empty = e }))
        (if b then None else joined (record part { aborted = false }) payload (Some p)) c again
    by true false true s = s
    by true false false s = s
    by false false b s = absurd s
    by false true b s = absurd s
    by true true b s = absurd s

-- and is taken
takes : (image : Bool) (g : Option WaitingGet) (p : Partial) (c : ℕ) (waits again : Bool) → Stands g (Some p) c waits → Stands (if image then served g else found_empty g) None c again
takes image None p c waits again s = absurd s
takes image (Some g) p c waits again s = by g.asked g.empty image s
  where
    by : (a e b : Bool) → StandsFor a e (Some p) c waits
        → Stands (if b then (if e then Some (record g { asked = a; empty = e }) else None) else Some (record g { asked = a; empty = true })) None c again
    by true false true s = s
    by true false false s = s
    by false false b s = absurd s
    by false true b s = absurd s
    by true true b s = absurd s

-- its get-empty is noted
empties : (g : Option WaitingGet) (p : Option Partial) (c : ℕ) (waits again : Bool) → is_empty g ≡ true → Stands g p c waits → Stands None p c again
empties None p c waits again e s = absurd cc
empties (Some g) p c waits again e s = by g.asked g.empty p e s
  where
    by : (a e : Bool) (p : Option Partial) → e ≡ true → StandsFor a e p c waits → Stands None p c again
    by true true None f s = s
    by true true (Some p) f s = s
    by false true None f s = s
    by false true (Some p) f s = s
    by a false p f s = absurd cc

-- ---- the credit of its state

flow_left : (count : ℕ) (s : Receiving) → s.limit_left ≡ s.credit → ((after_peer_flow count s).limit_left ≡ (after_peer_flow count s).credit) × ((after_peer_flow count s).credit ≤ s.credit)
flow_left count s e = by (nat_lt (left_by count s) s.credit) refl
  where
    by : (b : Bool) → nat_lt (left_by count s) s.credit ≡ b
        → ((if b then gave_up (left_by count s) s else s).limit_left ≡ (if b then gave_up (left_by count s) s else s).credit) × ((if b then gave_up (left_by count s) s else s).credit ≤ s.credit)
    by true f = let under : left_by count s < s.credit = grind (arith, nat_tests, f) in (omega (arith, e, under), omega (arith, under))
    by false f = (e, omega arith)

-- a transfer begins within a limit
pub within : (part : Part) (size : ℕ) (l : ReceivingLink) (s : DeliveryState) → fault_of part size l s.links s.list ≡ None → is_between l ≡ true → 1 ≤ l.state.limit_left
within part size l s e b = by (names_wrongly part l s.links s.list) (is_between l) (l.state.limit_left == 0) b refl e
  where
    by : (n t z : Bool) → t ≡ true → (l.state.limit_left == 0) ≡ z
        → (if n then Some InvalidField else if t && z then Some LimitExceeded else if nat_lt most_bytes (length (bytes_in l.partial) + size) then Some SizeExceeded else None) ≡ None
        → 1 ≤ l.state.limit_left
    by true t z u f e = absurd cc
    by false true true u f e = absurd cc
    by false true false u f e = grind (arith, nat_tests, f)
    by false false z u f e = absurd cc

not_live : (g : Granting) → g ≡ Ended → is_live g ≡ false
not_live g e = ap is_live e

no_refill : (s : Receiving) → s.granting ≡ Ended → grant_of s ≡ None
no_refill s e = ap (λ (b : Bool). if b && nat_le (2 * (s.credit + s.counted)) s.quota then Some (s.quota - s.counted) else None) (not_live s.granting e)

-- ---- the flow that is due on it

-- its get's, or an answer to an echo
data Offers (closed : Bool) (l : ReceivingLink) (g : NextGrant) : Type 0 where
  Asked : is_to_ask l.get ≡ true → closed ≡ false → g ≡ grant_as l Asks 1 → Offers closed l g
  Echoed : g ≡ grant_as l Echo (echo_credit closed l) → Offers closed l g
  Stopped : l.stopping ≡ true → g ≡ grant_as l Stop 0 → Offers closed l g

offers : (closed : Bool) (l : ReceivingLink) (g : NextGrant) → l.state.granting ≡ Ended → flow_of closed l ≡ Some g → Offers closed l g
offers closed l g ended e = by l.attached (grant_of l.state) l.stopping (is_to_ask l.get && not closed) (nat_lt 0 l.echoes) (no_refill l.state ended) refl refl e
  where
    some_is : (a b : NextGrant) → Some a ≡ Some b → b ≡ a
    some_is a b e = cc

    by : (attached : Bool) (refill : Option ℕ) (stops asks echoes : Bool) → refill ≡ None → l.stopping ≡ stops → (is_to_ask l.get && not closed) ≡ asks
        → (if attached then option_or (option_map (grant_as l Refill) refill)
        (option_or (if stops then Some (grant_as l Stop 0) else None) (option_or (if asks then Some (grant_as l Asks 1) else None)
        (if echoes then Some (grant_as l Echo (echo_credit closed l)) else None))) else None) ≡ Some g
        → Offers closed l g
    by false refill stops asks echoes n st a f = absurd cc
    by true (Some c) stops asks echoes n st a f = absurd cc
    by true None true asks echoes n st a f = Stopped st (some_is _ g f)
    by true None false true echoes n st a f = Asked (and_left (is_to_ask l.get) (not closed) a) (not_true closed (and_right (is_to_ask l.get) (not closed) a)) (some_is _ g f)
    by true None false false true n st a f = Echoed (some_is _ g f)
    by true None false false false n st a f = absurd cc

-- ---- all events

counted : (b : Bool) (s : DeliveryState) (ds : List DeliveryEvent) (k : ℕ) (o : Option ReceivingLink) → IfSome o (IsReady ds k) → IfSome (counted_anew b s o) (IsReady ds k)
counted true s ds k None w = tt
counted true s ds k (Some l) w = λ e. let r = w e in record { left = r.left; stands = r.stands; calm = r.calm; kept = r.kept }
counted false s ds k o w = w

new_ready : (ds : List DeliveryEvent) (link k : ℕ) (kind : RecvKind) (prefetch : ℕ) → IsReady ds k (new_link link kind prefetch)
new_ready ds link k (Consumer tag no_ack) prefetch e = absurd cc
new_ready ds link k Get prefetch e = record { left = refl; stands = refl; calm = refl; kept = refl }
new_ready ds link k Probe prefetch e = absurd cc

none_left : (o : Option Partial) → not (is_some o) ≡ true → o ≡ None
none_left None e = refl
none_left (Some p) e = absurd cc

module _ (life : ℕ) (ds : List DeliveryEvent) (k : ℕ) (l : ReceivingLink) where
  abbrev s : DeliveryState
  s = on.after_events life ds

  -- the link with this number is the one that is found
  here : (link : ℕ) → link_of s.links k ≡ Some l → (l.link == link) ≡ true → link_of s.links link ≡ Some l
  here link f i = ap (link_of s.links) (sym (equal l.link link i) ∙ number_is s.links k l f) ∙ f

  -- or isn't
  there : (link : ℕ) (b : Bool) → link_of s.links k ≡ Some l → (l.link == link) ≡ b → (link == k) ≡ b
  there link b f i = turned k link b (ap (λ (i : ℕ). i == link) (sym (number_is s.links k l f)) ∙ i)

  attached : (link count : ℕ) → IsReady ds k l → IsReady (on.LinkAttached link count ∷ ds) k (link_attached link count l)
  attached link count w e = let r = w e in by (has_number link l) r
    where
      by : (b : Bool) → Ready ds k l → Ready (on.LinkAttached link count ∷ ds) k (record l { attached = (if b then true else l.attached); state = (if b then after_attach count l.state else l.state) })
      by true r = record { left = refl; stands = lower l.get l.partial l.state.credit 0 (awaits k ds) (omega arith) r.stands; calm = r.calm; kept = r.kept }
      by false r = record { left = r.left; stands = r.stands; calm = r.calm; kept = r.kept }

  flowed : (link count : ℕ) → IsReady ds k l → IsReady (on.LinkFlowed link count ∷ ds) k (link_flowed link count l)
  flowed link count w e = let r = w e in by (has_number link l) (is_asked l.get) (is_between l) ((after_peer_flow count l.state).credit == 0) refl refl r
    where
      by : (b a t z : Bool) → is_between l ≡ t → ((after_peer_flow count l.state).credit == 0) ≡ z → Ready ds k l
          → Ready (on.LinkFlowed link count ∷ ds) k (record l { state = (if b then after_peer_flow count l.state else l.state); get = (if b && (a && t && z) then found_empty l.get else l.get) })
      by true a t z it iz r = record {
        left = (flow_left count l.state r.left).0;
        stands = pick a t z it iz;
        calm = r.calm;
        kept = r.kept;
      }
        where
          c : ℕ
          c = (after_peer_flow count l.state).credit

          less : Stands l.get l.partial c (awaits k ds)
          less = lower l.get l.partial l.state.credit c (awaits k ds) (flow_left count l.state r.left).1 r.stands

          pick : (a t z : Bool) → is_between l ≡ t → (c == 0) ≡ z → Stands (if a && t && z then found_empty l.get else l.get) l.partial c (awaits k ds)
          pick true true true it iz =
              let none : l.partial ≡ None = none_left l.partial it in
              subst (λ (p : Option Partial). Stands (found_empty l.get) p c (awaits k ds)) (sym none) (found l.get c (awaits k ds) (equal c 0 iz))
          pick false t z it iz = less
          pick true false z it iz = less
          pick true true false it iz = less
      by false a t z it iz r = record { left = r.left; stands = r.stands; calm = r.calm; kept = r.kept }

  came : (link number : ℕ) (no_ack : Bool) → link_of s.links k ≡ Some l → takes_get link s.links ≡ true → IsReady ds k l
      → IsReady (on.GetCame link no_ack ∷ ds) k (link_waits link number no_ack l)
  came link number no_ack f g w e = let r = w e in by (l.link == link) refl r
    where
      by : (b : Bool) → (l.link == link) ≡ b → Ready ds k l → Ready (on.GetCame link no_ack ∷ ds) k (record l { get = (if b then Some (new_get number no_ack) else l.get) })
      by true i r =
          let free : is_free_for_get l ≡ true = sym (ap (in_link is_free_for_get) (here link f i)) ∙ g in
          record {
            left = r.left;
            stands = comes l.get l.partial l.state.credit (awaits k ds) _ number no_ack (not_true (is_some l.get) (and_right (is_for_gets l.kind) (not (is_some l.get)) free))
                (ap (λ (b : Bool). b || awaits k ds) (there link true f i)) r.stands;
            calm = r.calm;
            kept = r.kept;
          }
      by false i r = record {
        left = r.left;
        stands = anew l.get l.partial l.state.credit (awaits k ds) _ (ap (λ (b : Bool). b || awaits k ds) (there link false f i)) r.stands;
        calm = r.calm;
        kept = r.kept;
      }

  -- a transfer on it
  transferred : (link : ℕ) (part : Part) (payload : List ℕ) → fault_of part (length payload) l s.links s.list ≡ None → IsReady ds k l
      → IsReady (on.TransferCame link part payload ∷ ds) k (transfer_came part payload l)
  transferred link part payload fine w e = let r = w e in by l.partial refl r.stands r
    where
      by : (p : Option Partial) → l.partial ≡ p → Stands l.get p l.state.credit (awaits k ds) → Ready ds k l
          → Ready (on.TransferCame link part payload ∷ ds) k
          (record l { state = (if not (is_some p) then after_arrival l.state else l.state); partial = joined part payload p; get = (if part.aborted then found_empty l.get else l.get) })
      by None ip st r =
          let room : 1 ≤ l.state.limit_left = within part (length payload) l s fine (ap (λ (o : Option Partial). not (is_some o)) ip) in
          record {
            left = ap (λ (n : ℕ). n - 1) r.left;
            stands = begins part payload l.get l.state.credit (awaits k ds) _ (subst (λ (n : ℕ). 1 ≤ n) r.left room) st;
            calm = r.calm;
            kept = r.kept;
          }
      by (Some p) ip st r = record { left = r.left; stands = goes_on part payload l.get p l.state.credit (awaits k ds) _ st; calm = r.calm; kept = r.kept }

  -- its delivery is taken
  taken : (a : Arriving) (content : Option Content) (again : Bool) → link_of s.links k ≡ Some l → in_link (λ m. is_whole m.partial) (link_of s.links a.link) ≡ true → IsReady ds k l
      → IsReady (on.Arrived a content again ∷ ds) k (taken_from a.link (is_some content) l)
  taken a content again f g w e = let r = w e in by (l.link == a.link) refl r
    where
      whole : (p : Option Partial) → is_whole p ≡ true → Stands l.get p l.state.credit (awaits k ds)
          → Stands (if is_some content then served l.get else found_empty l.get) None l.state.credit (awaits k ds)
      whole None i st = absurd cc
      whole (Some p) i st = takes (is_some content) l.get p l.state.credit (awaits k ds) (awaits k ds) st

      by : (b : Bool) → (l.link == a.link) ≡ b → Ready ds k l
          → Ready (on.Arrived a content again ∷ ds) k
          (record l { partial = (if b then None else l.partial); get = (if b then (if is_some content then served l.get else found_empty l.get) else l.get) })
      by true i r = record {
        left = r.left;
        stands = whole l.partial (sym (ap (in_link (λ (m : ReceivingLink). is_whole m.partial)) (here a.link f i)) ∙ g) r.stands;
        calm = r.calm;
        kept = r.kept;
      }
      by false i r = record { left = r.left; stands = r.stands; calm = r.calm; kept = r.kept }

  -- no link for gets is cancelled
  cancelled : (link : ℕ) → link_of s.links k ≡ Some l → in_link (λ m. is_for_gets m.kind) (link_of s.links link) ≡ false → IsReady ds k l
      → IsReady (on.Cancelled link ∷ ds) k (link_cancelled link l)
  cancelled link f g w e = let r = w e in by (l.link == link) refl r
    where
      by : (b : Bool) → (l.link == link) ≡ b → Ready ds k l
          → Ready (on.Cancelled link ∷ ds) k
          (record l { state = (if b then after_cancel l.state else l.state); cancelled = (if b then true else l.cancelled); stopping = (if b then true else l.stopping) })
      by true i r = absurd (clash (is_for_gets l.kind) e (sym (ap (in_link (λ (m : ReceivingLink). is_for_gets m.kind)) (here link f i)) ∙ g))
      by false i r = record { left = r.left; stands = r.stands; calm = r.calm; kept = r.kept }

  -- its get-empty is noted
  emptied : (link : ℕ) → link_of s.links k ≡ Some l → is_drained link s.links ≡ true → IsReady ds k l → IsReady (on.Emptied link ∷ ds) k (get_emptied link l)
  emptied link f g w e = let r = w e in by (l.link == link) refl r
    where
      by : (b : Bool) → (l.link == link) ≡ b → Ready ds k l → Ready (on.Emptied link ∷ ds) k (record l { get = (if b then None else l.get) })
      by true i r = record {
        left = r.left;
        stands = empties l.get l.partial l.state.credit (awaits k ds) _ (sym (ap (in_link (λ (m : ReceivingLink). is_empty m.get)) (here link f i)) ∙ g) r.stands;
        calm = r.calm;
        kept = r.kept;
      }
      by false i r = record {
        left = r.left;
        stands = anew l.get l.partial l.state.credit (awaits k ds) _ (ap (λ (b : Bool). not b && awaits k ds) (there link false f i)) r.stands;
        calm = r.calm;
        kept = r.kept;
      }

  -- a flow goes
  abbrev Goes : NextGrant → Bool → Type 0
  Goes x b =
      Ready (on.GrantSent x ∷ ds) k (record l {
        state = (if b then after_grant x.credit l.state else l.state);
        stopping = (if b && is_stop x.cause then false else l.stopping);
        get = (if b && is_ask x.cause then was_asked l.get else l.get);
        echoes = (if b && is_echo x.cause then l.echoes - 1 else l.echoes);
      })

  granted : (g : NextGrant) → link_of s.links k ≡ Some l → s.closed ≡ false → Source s.closed s.links g → (is_for_gets l.kind ≡ true → l.state.granting ≡ Ended) → IsReady ds k l
      → IsReady (on.GrantSent g ∷ ds) k (flow_sent g.link g.credit g.cause l)
  granted g f open_yet source ended w e = let r = w e in by (l.link == g.link) refl r
    where
      some_is : (a b : ReceivingLink) → Some a ≡ Some b → a ≡ b
      some_is a b e = cc

      most : (c : ℕ) → greater c c ≡ c
      most c = by (nat_lt c c)
        where
          by : (b : Bool) → (if b then c else c) ≡ c
          by true = refl
          by false = refl

      echoed : (a b : Bool) → a ≡ false → b ≡ false → (if a || (b && is_for_gets l.kind) then 0 else l.state.credit) ≡ l.state.credit
      echoed false false i j = refl
      echoed true b i j = absurd cc
      echoed false true i j = absurd cc

      goes : Ready ds k l → Offers s.closed l g → Goes g true
      goes r (Asked ask on_time is) =
          subst (λ (x : NextGrant). Goes x true) (sym is) (record {
            left = ap (λ (n : ℕ). greater n 1) (r.left ∙ (asked_none l.get l.partial l.state.credit (awaits k ds) ask r.stands).0);
            stands = asks l.get l.partial l.state.credit (awaits k ds) ask r.stands;
            calm = r.calm;
            kept = r.kept;
          })
      goes r (Echoed is) =
          let c : echo_credit s.closed l ≡ l.state.credit = echoed l.cancelled s.closed r.kept open_yet in
          subst (λ (x : NextGrant). Goes x true) (sym is) (record {
            left = ap (λ (n : ℕ). greater n (echo_credit s.closed l)) (r.left ∙ sym c) ∙ most (echo_credit s.closed l);
            stands = subst (λ (n : ℕ). Stands l.get l.partial n (awaits k ds)) (sym c) r.stands;
            calm = r.calm;
            kept = r.kept;
          })
      goes r (Stopped stops is) = absurd (clash l.stopping stops r.calm)

      by : (b : Bool) → (l.link == g.link) ≡ b → Ready ds k l → Goes g b
      by true i r =
          let same : source.link ≡ l = some_is source.link l (sym source.is ∙ here g.link f i) in
          goes r (offers s.closed l g (ended e) (subst (λ (m : ReceivingLink). flow_of s.closed m ≡ Some g) same source.offers))
      by false i r = record { left = r.left; stands = r.stands; calm = r.calm; kept = r.kept }

-- each link for gets stands so while the life goes on
pub ready : (life : ℕ) (ds : List DeliveryEvent) → AreCalls life ds → AreGetCalls life ds → (on.after_events life ds).closed ≡ false → (k : ℕ)
    → IfSome (link_of (on.after_events life ds).links k) (IsReady ds k)
ready life [] c g open_yet k = tt
ready life (x ∷ ds) c g open_yet k =
    let before : (on.after_events life ds).closed ≡ false = closed_before x (on.after_events life ds) open_yet in
    subst (λ (o : Option ReceivingLink). IfSome o (IsReady (x ∷ ds) k)) (sym (linked x (on.after_events life ds) k))
    (counted (recounts x) (on.after_event x (on.after_events life ds)) (x ∷ ds) k (link_after x (on.after_events life ds) k (link_of (on.after_events life ds).links k))
    (by x (link_of (on.after_events life ds).links k) refl c.0 g.0 open_yet before (kept life ds c.1 k) (ready life ds c.1 g.1 before k)))
  where
    z : DeliveryState
    z = on.after_events life ds

    by : (x : DeliveryEvent) (o : Option ReceivingLink) → link_of z.links k ≡ o → IsCall z x → IsGetCall z x → (on.after_event x z).closed ≡ false → z.closed ≡ false
        → IfSome o (Kept ds k) → IfSome o (IsReady ds k) → IfSome (link_after x z k o) (IsReady (x ∷ ds) k)
    by (on.LinkAdded link kind) None f e i j v m w = pick (link == k)
      where
        pick : (b : Bool) → IfSome (if b then Some (new_link link kind z.prefetch) else None) (IsReady (on.LinkAdded link kind ∷ ds) k)
        pick true = new_ready (on.LinkAdded link kind ∷ ds) link k kind z.prefetch
        pick false = tt
    by (on.LinkAdded link kind) (Some l) f e i j v m w = λ t. let r = w t in record {
      left = r.left;
      stands = anew l.get l.partial l.state.credit (awaits k ds) _ (ap (λ (b : Bool). not b && awaits k ds) (off (link == k) refl)) r.stands;
      calm = r.calm;
      kept = r.kept;
    }
      where
        off : (b : Bool) → (link == k) ≡ b → b ≡ false
        off true y = let none : link_of z.links k ≡ None = sym (ap (link_of z.links) (equal link k y)) ∙ e in let bad : Some l ≡ None = sym f ∙ none in absurd cc
        off false y = refl
    by (on.LinkAttached link count) None f e i j v m w = tt
    by (on.LinkAttached link count) (Some l) f e i j v m w = attached life ds k l link count w
    by (on.LinkFlowed link count) None f e i j v m w = tt
    by (on.LinkFlowed link count) (Some l) f e i j v m w = flowed life ds k l link count w
    by (on.LinkEchoed link) None f e i j v m w = tt
    by (on.LinkEchoed link) (Some l) f e i j v m w = λ t. let r = w t in record { left = r.left; stands = r.stands; calm = r.calm; kept = r.kept }
    by (on.GetCame link no_ack) None f e i j v m w = tt
    by (on.GetCame link no_ack) (Some l) f e i j v m w = came life ds k l link (z.gets + 1) no_ack f i w
    by (on.TransferCame link part payload) None f e i j v m w = pick (k == link)
      where
        pick : (b : Bool) → IfSome (if b then None else None) (IsReady (on.TransferCame link part payload ∷ ds) k)
        pick true = tt
        pick false = tt
    by (on.TransferCame link part payload) (Some l) f e i j v m w = pick (k == link) refl
      where
        pick : (b : Bool) → (k == link) ≡ b → IfSome (if b then Some (transfer_came part payload l) else Some l) (IsReady (on.TransferCame link part payload ∷ ds) k)
        pick true y =
            transferred life ds k l link part payload
            (sym (ap (λ (o : Option ReceivingLink). fault_in part (length payload) o z.links z.list) (sym (ap (link_of z.links) (equal k link y)) ∙ f)) ∙ e.1) w
        pick false y = λ t. let r = w t in record {
          left = r.left;
          stands = anew l.get l.partial l.state.credit (awaits k ds) _ (ap (λ (b : Bool). not b && awaits k ds) (turned k link false y)) r.stands;
          calm = r.calm;
          kept = r.kept;
        }
    by (on.Arrived a content again) None f e i j v m w = tt
    by (on.Arrived a content again) (Some l) f e i j v m w = taken life ds k l a content again f e.0 w
    by (on.LinkDropped link) None f e i j v m w = pick (k == link)
      where
        pick : (b : Bool) → IfSome (if b then None else None) (IsReady (on.LinkDropped link ∷ ds) k)
        pick true = tt
        pick false = tt
    by (on.LinkDropped link) (Some l) f e i j v m w = pick (k == link)
      where
        pick : (b : Bool) → IfSome (if b then None else Some l) (IsReady (on.LinkDropped link ∷ ds) k)
        pick true = tt
        pick false = λ t. let r = w t in record { left = r.left; stands = r.stands; calm = r.calm; kept = r.kept }
    by (on.Cancelled link) None f e i j v m w = tt
    by (on.Cancelled link) (Some l) f e i j v m w = cancelled life ds k l link f i w
    by on.Closed o f e i j v m w = absurd cc
    by (on.GrantSent grant) None f e i j v m w = tt
    by (on.GrantSent grant) (Some l) f e i j v m w = granted life ds k l grant f v (source z.closed z.links grant (apart life ds c.1) e) m.ended w
    by (on.Emptied link) None f e i j v m w = tt
    by (on.Emptied link) (Some l) f e i j v m w = emptied life ds k l link f i w
    by x None f e i j v m w = tt
    by x (Some l) f e i j v m w = λ t. let r = w t in record { left = r.left; stands = r.stands; calm = r.calm; kept = r.kept }

-- ---- the flow that is due of one states no credit but for its get

pub idle_credit : (life : ℕ) (ds : List DeliveryEvent) (g : NextGrant) (t : Source (on.after_events life ds).closed (on.after_events life ds).links g) → AreCalls life ds
    → AreGetCalls life ds → is_for_gets t.link.kind ≡ true → awaits g.link ds ≡ false → g.credit ≡ 0
idle_credit life ds g t calls gets for_gets none = by (offers z.closed t.link g (m.ended for_gets) t.offers)
  where
    z : DeliveryState
    z = on.after_events life ds

    m : Kept ds g.link t.link
    m = subst (λ (o : Option ReceivingLink). IfSome o (Kept ds g.link)) t.is (kept life ds calls g.link)

    stands : z.closed ≡ false → Stands t.link.get t.link.partial t.link.state.credit (awaits g.link ds)
    stands v = (subst (λ (o : Option ReceivingLink). IfSome o (IsReady ds g.link)) t.is (ready life ds calls gets v g.link) for_gets).stands

    echoed : (a b : Bool) → z.closed ≡ b → (if a || (b && is_for_gets t.link.kind) then 0 else t.link.state.credit) ≡ 0
    echoed true b v = refl
    echoed false true v = ap (λ (c : Bool). if c then 0 else t.link.state.credit) for_gets
    echoed false false v = unawaited t.link.get t.link.partial t.link.state.credit (awaits g.link ds) (stands v) none

    by : Offers z.closed t.link g → g.credit ≡ 0
    by (Asked ask v is) = absurd (clash (awaits g.link ds) (asked_none t.link.get t.link.partial t.link.state.credit (awaits g.link ds) ask (stands v)).1 none)
    by (Echoed is) = ap (λ (x : NextGrant). x.credit) is ∙ echoed t.link.cancelled z.closed refl
    by (Stopped st is) = ap (λ (x : NextGrant). x.credit) is
