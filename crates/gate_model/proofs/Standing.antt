-- A delivery that waits for its deliver or get-ok came on a link that the container attached; and a link without an attach has no credit.
use Rattle.std.proofs.Common.{◌≡◌, ◌∙◌, ℕ, ◌+◌, ◌==◌, ◌≤◌, nat_lt, not, ◌&&◌, ◌||◌, Bool, true, false, if◌then◌else◌, List, [], ◌∷◌}
use Rattle.std.proofs.Common.{Option, None, Some, length, refl, sym, ap, subst, arith}
use Rattle.std.proofs.lemmas.Bool.Decides.{nat_tests}
use Rattle.std.specs.Prelude.{IfSome, is_some}
use Rattle.links_10.specs.Recv.{after_attach, after_cancel, after_grant, after_peer_flow, gave_up, left_by}
use Rattle.links_10.specs.declared.recv.Receiving.{Receiving}
use Rattle.consume_path.specs.Deliveries as on
use Rattle.consume_path.specs.Deliveries.{DeliveryEvent, DeliveryState}
use Rattle.consume_path.specs.Items.{is_on}
use Rattle.consume_path.specs.Journal.{Fate, IsTaken, caused, fate_of, fate_step, first_cause, is_closed, is_pending, is_uncovered, new_fate, numbers_of, tags_of, waits}
use Rattle.consume_path.specs.Kept.{is_getter}
use Rattle.consume_path.specs.Laws.{AreCalls, IsCall}
use Rattle.consume_path.specs.Links.{has_number, in_link, is_whole, link_of, new_link, transfer_came, taker_by, taker_of}
use Rattle.consume_path.specs.Offers.{arriving_in, fault_in, fault_of, flow_of}
use Rattle.consume_path.specs.declared.delivery.Arriving.{Arriving}
use Rattle.consume_path.specs.declared.delivery.Content.{Content}
use Rattle.consume_path.specs.declared.delivery.Settle.{Settle}
use Rattle.consume_path.specs.declared.delivery.Settle.TheVariants.{Accepted, Released}
use Rattle.consume_path.specs.declared.delivery.Taker.{Taker}
use Rattle.consume_path.specs.declared.delivery.Taker.TheVariants.{Nobody, Getter}
use Rattle.consume_path.specs.declared.delivery.Taker.TheVariants.{Consumer as Consumes}
use Rattle.consume_path.specs.declared.receiving.NextGrant.{NextGrant}
use Rattle.consume_path.specs.declared.receiving.Partial.{Partial}
use Rattle.consume_path.specs.declared.receiving.ReceivingLink.{ReceivingLink}
use Rattle.consume_path.specs.declared.receiving.RecvKind.{RecvKind}
use Rattle.consume_path.specs.declared.receiving.RecvKind.TheVariants.{Consumer, Get, Probe}
use Rattle.consume_path.specs.declared.receiving.WaitingGet.{WaitingGet}
use Rattle.gate_model.proofs.Awaiting.{within}
use Rattle.gate_model.proofs.Basics.{and_both, and_right}
use Rattle.gate_model.proofs.Connections.{clash}
use Rattle.gate_model.proofs.Linking.{apart, counted_anew, link_after, linked, recounts, source}
use Rattle.gate_model.proofs.Quotas.{equal, number_is}

-- ---- a link without an attach

-- it has no room for a transfer, and none came
pub record Unmet (l : ReceivingLink) : Type 0 where
  pub limit : l.state.limit_left ≡ 0
  pub partial : l.partial ≡ None

abbrev pub IsUnmet : ReceivingLink → Type 0
IsUnmet l = l.attached ≡ false → Unmet l

counted : (b : Bool) (s : DeliveryState) (o : Option ReceivingLink) → IfSome o IsUnmet → IfSome (counted_anew b s o) IsUnmet
counted true s None w = tt
counted true s (Some l) w = λ e. let u = w e in record { limit = u.limit; partial = u.partial }
counted false s o w = w

new_unmet : (link : ℕ) (kind : RecvKind) (prefetch : ℕ) → IsUnmet (new_link link kind prefetch)
new_unmet link (Consumer tag no_ack) prefetch e = record { limit = refl; partial = refl }
new_unmet link Get prefetch e = record { limit = refl; partial = refl }
new_unmet link Probe prefetch e = record { limit = refl; partial = refl }

-- the state of one that isn't attached
if_none : (b : Bool) (s t : Receiving) → s.limit_left ≡ 0 → t.limit_left ≡ 0 → (if b then t else s).limit_left ≡ 0
if_none true s t e f = f
if_none false s t e f = e

flow_none : (count : ℕ) (s : Receiving) → s.limit_left ≡ 0 → (after_peer_flow count s).limit_left ≡ 0
flow_none count s e = by (nat_lt (left_by count s) s.credit)
  where
    by : (b : Bool) → (if b then gave_up (left_by count s) s else s).limit_left ≡ 0
    by true = omega (arith, e)
    by false = e

gone : (b : Bool) (p : Option Partial) → p ≡ None → (if b then None else p) ≡ None
gone true p e = refl
gone false p e = e

not_both : (b old : Bool) → (if b then true else old) ≡ false → (b ≡ false) × (old ≡ false)
not_both true old e = absurd cc
not_both false old e = (refl, e)

between : (p : Option Partial) → p ≡ None → not (is_some p) ≡ true
between p e = ap (λ (o : Option Partial). not (is_some o)) e

-- a flow that goes is of one that is attached
pub flows_attached : (closed : Bool) (l : ReceivingLink) (g : NextGrant) → flow_of closed l ≡ Some g → l.attached ≡ true
flows_attached closed l g e = by l.attached e
  where
    by : (b : Bool) → flow_of closed (record l { attached = b }) ≡ Some g → b ≡ true
    by true f = refl
    by false f = absurd cc

pub unmet : (life : ℕ) (ds : List DeliveryEvent) → AreCalls life ds → (k : ℕ) → IfSome (link_of (on.after_events life ds).links k) IsUnmet
unmet life [] c k = tt
unmet life (x ∷ ds) c k =
    subst (λ (o : Option ReceivingLink). IfSome o IsUnmet) (sym (linked x s k))
    (counted (recounts x) (on.after_event x s) (link_after x s k (link_of s.links k)) (by x (link_of s.links k) refl c.0 (unmet life ds c.1 k)))
  where
    s : DeliveryState
    s = on.after_events life ds

    by : (x : DeliveryEvent) (o : Option ReceivingLink) → link_of s.links k ≡ o → IsCall s x → IfSome o IsUnmet → IfSome (link_after x s k o) IsUnmet
    by (on.LinkAdded link kind) None f e w = pick (link == k)
      where
        pick : (b : Bool) → IfSome (if b then Some (new_link link kind s.prefetch) else None) IsUnmet
        pick true = new_unmet link kind s.prefetch
        pick false = tt
    by (on.LinkAdded link kind) (Some l) f e w = w
    by (on.LinkAttached link count) None f e w = tt
    by (on.LinkAttached link count) (Some l) f e w = λ z.
        let n = not_both (has_number link l) l.attached z in
        let u = w n.1 in
        record { limit = if_none (has_number link l) l.state (after_attach count l.state) u.limit refl; partial = u.partial }
    by (on.LinkFlowed link count) None f e w = tt
    by (on.LinkFlowed link count) (Some l) f e w = λ z.
        let u = w z in
        record { limit = if_none (has_number link l) l.state (after_peer_flow count l.state) u.limit (flow_none count l.state u.limit); partial = u.partial }
    by (on.LinkEchoed link) None f e w = tt
    by (on.LinkEchoed link) (Some l) f e w = λ z. let u = w z in record { limit = u.limit; partial = u.partial }
    by (on.GetCame link no_ack) None f e w = tt
    by (on.GetCame link no_ack) (Some l) f e w = λ z. let u = w z in record { limit = u.limit; partial = u.partial }
    by (on.TransferCame link part payload) None f e w = pick (k == link)
      where
        pick : (b : Bool) → IfSome (if b then None else None) IsUnmet
        pick true = tt
        pick false = tt
    by (on.TransferCame link part payload) (Some l) f e w = pick (k == link) refl
      where
        never : (k == link) ≡ true → l.attached ≡ false → Unmet (transfer_came part payload l)
        never i z =
            let u = w z in
            let here : link_of s.links link ≡ Some l = ap (link_of s.links) (sym (equal k link i)) ∙ f in
            let fine : fault_of part (length payload) l s.links s.list ≡ None = ap (λ (o : Option ReceivingLink). fault_in part (length payload) o s.links s.list) (sym here) ∙ e.1 in
            let room : 1 ≤ l.state.limit_left = within part (length payload) l s fine (between l.partial u.partial) in
            let none : l.state.limit_left ≡ 0 = u.limit in
            absurd (omega (arith, room, none))

        pick : (b : Bool) → (k == link) ≡ b → IfSome (if b then Some (transfer_came part payload l) else Some l) IsUnmet
        pick true i = never i
        pick false i = w
    by (on.Arrived a content again) None f e w = tt
    by (on.Arrived a content again) (Some l) f e w = λ z.
        let u = w z in
        record { limit = u.limit; partial = gone (has_number a.link l) l.partial u.partial }
    by (on.LinkDropped link) None f e w = pick (k == link)
      where
        pick : (b : Bool) → IfSome (if b then None else None) IsUnmet
        pick true = tt
        pick false = tt
    by (on.LinkDropped link) (Some l) f e w = pick (k == link)
      where
        pick : (b : Bool) → IfSome (if b then None else Some l) IsUnmet
        pick true = tt
        pick false = w
    by (on.Cancelled link) None f e w = tt
    by (on.Cancelled link) (Some l) f e w = λ z.
        let u = w z in
        record { limit = if_none (has_number link l) l.state (after_cancel l.state) u.limit u.limit; partial = u.partial }
    by on.Closed None f e w = tt
    by on.Closed (Some l) f e w = λ z. let u = w z in record { limit = u.limit; partial = u.partial }
    by (on.GrantSent g) None f e w = tt
    by (on.GrantSent g) (Some l) f e w = λ z. let u = w z in record { limit = pick (has_number g.link l) refl z u.limit; partial = u.partial }
      where
        pick : (b : Bool) → has_number g.link l ≡ b → l.attached ≡ false → l.state.limit_left ≡ 0 → (if b then after_grant g.credit l.state else l.state).limit_left ≡ 0
        pick true i z n =
            let t = source s.closed s.links g (apart life ds c.1) e in
            let same : g.link ≡ k = sym (equal l.link g.link i) ∙ number_is s.links k l f in
            let here : Some t.link ≡ Some l = sym t.is ∙ ap (link_of s.links) same ∙ f in
            let is : t.link ≡ l = cc in
            let attached : l.attached ≡ true = ap (λ (m : ReceivingLink). m.attached) (sym is) ∙ flows_attached s.closed t.link g t.offers in
            absurd cc
        pick false i z n = n
    by (on.Emptied link) None f e w = tt
    by (on.Emptied link) (Some l) f e w = λ z. let u = w z in record { limit = u.limit; partial = u.partial }
    by x None f e w = tt
    by x (Some l) f e w = λ z. let u = w z in record { limit = u.limit; partial = u.partial }

-- ---- whom a delivery of a link goes to

-- a link of this kind brings deliveries to such
abbrev pub suits : RecvKind → Taker → Bool
suits (Consumer tag no_ack) Nobody = false
suits (Consumer tag no_ack) (Getter number free) = false
suits (Consumer tag no_ack) (Consumes free limit) = true
suits Get Nobody = false
suits Get (Getter number free) = true
suits Get (Consumes free limit) = false
suits Probe taker = false

abbrev is_somebody : Taker → Bool
is_somebody Nobody = false
is_somebody (Getter number free) = true
is_somebody (Consumes free limit) = true

takes : (kind : RecvKind) (cancelled : Bool) (limit : Option ℕ) (get : Option WaitingGet) → is_somebody (taker_by kind cancelled limit get) ≡ true
    → suits kind (taker_by kind cancelled limit get) ≡ true
takes (Consumer tag no_ack) true limit get e = absurd cc
takes (Consumer tag no_ack) false limit get e = refl
takes Get cancelled limit None e = absurd cc
takes Get cancelled limit (Some g) e = by g.empty e
  where
    by : (b : Bool) → is_somebody (if b then Nobody else Getter g.number g.no_ack) ≡ true → suits Get (if b then Nobody else Getter g.number g.no_ack) ≡ true
    by true f = absurd cc
    by false f = refl
takes Probe cancelled limit get e = absurd cc

-- it came on a link that is attached, and of such a kind; and one that a get waits for has its link
abbrev pub on_such : Taker → ReceivingLink → Bool
on_such taker l = l.attached && suits l.kind taker

pub record Stands (links : List ReceivingLink) (f : Fate) : Type 0 where
  pub there : is_getter f.taker ≡ true → is_some f.link ≡ true
  pub on : (k : ℕ) → f.link ≡ Some k → in_link (on_such f.taker) (link_of links k) ≡ true

abbrev pub AreStanding : ℕ → List DeliveryEvent → Type 0
AreStanding life ds = (m : ℕ) → IsTaken ds m → waits (fate_of m ds) ≡ true → Stands (on.after_events life ds).links (fate_of m ds)

-- ---- what an event leaves of a link

abbrev pub drops_it : ℕ → DeliveryEvent → Bool
drops_it k (on.LinkDropped link) = k == link
drops_it k y = false

-- a test that stays true
stays_on : (taker : Taker) (y : DeliveryEvent) (s : DeliveryState) (k : ℕ) → drops_it k y ≡ false → in_link (on_such taker) (link_of s.links k) ≡ true
    → in_link (on_such taker) (link_of (on.after_event y s).links k) ≡ true
stays_on taker y s k d e =
    ap (in_link (on_such taker)) (linked y s k) ∙ anew (recounts y) (link_after y s k (link_of s.links k)) ∙ by y (link_of s.links k) d e
  where
    anew : (b : Bool) (o : Option ReceivingLink) → in_link (on_such taker) (counted_anew b (on.after_event y s) o) ≡ in_link (on_such taker) o
    anew true None = refl
    anew true (Some l) = refl
    anew false o = refl

    by : (y : DeliveryEvent) (o : Option ReceivingLink) → drops_it k y ≡ false → in_link (on_such taker) o ≡ true → in_link (on_such taker) (link_after y s k o) ≡ true
    by y None d e = absurd cc
    by (on.LinkAttached link count) (Some l) d e = pick (has_number link l)
      where
        pick : (b : Bool) → ((if b then true else l.attached) && suits l.kind taker) ≡ true
        pick true = and_right l.attached _ e
        pick false = e
    by (on.TransferCame link part payload) (Some l) d e = pick (k == link)
      where
        pick : (b : Bool) → in_link (on_such taker) (if b then Some (transfer_came part payload l) else Some l) ≡ true
        pick true = e
        pick false = e
    by (on.LinkDropped link) (Some l) d e = ap (λ (b : Bool). in_link (on_such taker) (if b then None else Some l)) d ∙ e
    by y (Some l) d e = e

-- ---- what an event leaves of a fate

-- no delivery comes, and no link goes
abbrev pub is_plain : DeliveryEvent → Bool
is_plain (on.Arrived a content again) = false
is_plain (on.LinkDropped link) = false
is_plain y = true

-- what waits then waited before
pub record Less (f g : Fate) : Type 0 where
  pub waited : waits g ≡ true → waits f ≡ true
  pub taker : g.taker ≡ f.taker
  pub link : g.link ≡ f.link

less_due : (c : Bool) (s : Settle) (due : Option Settle) (left tag : Bool) → ((not (is_some (caused c s due)) && not left) && not tag) ≡ true → ((not (is_some due) && not left) && not tag) ≡ true
less_due true s (Some x) left tag e = e
less_due true s None left tag e = absurd cc
less_due false s due left tag e = e

less_tag : (c a : Bool) (new : ℕ) (tag : Option ℕ) → (a && not (is_some (if c then Some new else tag))) ≡ true → (a && not (is_some tag)) ≡ true
less_tag true true new tag e = absurd cc
less_tag true false new tag e = absurd cc
less_tag false a new tag e = e

less_left : (due left u tag : Bool) → ((not due && not (left || u)) && not tag) ≡ true → ((not due && not left) && not tag) ≡ true
less_left true left u tag e = absurd cc
less_left false true u tag e = absurd cc
less_left false false true tag e = absurd cc
less_left false false false tag e = e

less : (m : ℕ) (h : List DeliveryEvent) (y : DeliveryEvent) (f : Fate) → is_plain y ≡ true → Less f (fate_step m h y f)
less m h (on.Arrived a content again) f e = absurd cc
less m h (on.LinkDropped link) f e = absurd cc
less m h (on.Delivered number) f e = record {
  waited = less_tag (m == number && waits f) (is_pending f) (tags_of h + 1) f.tag;
  taker = refl;
  link = refl;
}
less m h (on.Written tag) f e = record { waited = less_due _ Accepted f.due f.left (is_some f.tag); taker = refl; link = refl }
less m h (on.Answered tag multiple s) f e = record { waited = less_due _ s f.due f.left (is_some f.tag); taker = refl; link = refl }
less m h (on.Cancelled link) f e = record { waited = less_due _ Released f.due f.left (is_some f.tag); taker = refl; link = refl }
less m h on.Closed f e = record { waited = less_due true Released f.due f.left (is_some f.tag); taker = refl; link = refl }
less m h on.EndLost f e = record { waited = less_left (is_some f.due) f.left (is_uncovered f) (is_some f.tag); taker = refl; link = refl }
less m h (on.SettleSent s) f e = record { waited = λ w. w; taker = refl; link = refl }
less m h on.LinesTold f e = record { waited = λ w. w; taker = refl; link = refl }
less m h y f e = record { waited = λ w. w; taker = refl; link = refl }

-- ---- all events

-- where a link goes no get-ok of it waits
abbrev pub IsDrop : List DeliveryEvent → DeliveryEvent → Type 0
IsDrop ds (on.LinkDropped link) = (m : ℕ) → IsTaken ds m → waits (fate_of m ds) ≡ true → is_getter (fate_of m ds).taker ≡ true → is_on link (fate_of m ds).link ≡ false
IsDrop ds y = Unit {0}

abbrev pub AreDrops : List DeliveryEvent → Type 0
AreDrops [] = Unit {0}
AreDrops (y ∷ ds) = IsDrop ds y × AreDrops ds

old_before : (m n : ℕ) → m ≤ n + 1 → (m == n + 1) ≡ false → m ≤ n
old_before m n le e = grind (arith, nat_tests, le, e)

plain_taken : (y : DeliveryEvent) (ds : List DeliveryEvent) (m : ℕ) → is_plain y ≡ true → IsTaken (y ∷ ds) m → IsTaken ds m
plain_taken (on.Arrived a content again) ds m e t = absurd cc
plain_taken y ds m e t = t

-- the delivery that comes
new_stands : (life : ℕ) (ds : List DeliveryEvent) (a : Arriving) (content : Option Content) (again : Bool) → AreCalls life (on.Arrived a content again ∷ ds)
    → waits (new_fate (is_closed ds) a content again) ≡ true
    → Stands (on.after_events life (on.Arrived a content again ∷ ds)).links (new_fate (is_closed ds) a content again)
new_stands life ds a content again c w = by (link_of s.links a.link) refl c.0 (unmet life ds c.1 a.link)
  where
    s : DeliveryState
    s = on.after_events life ds

    somebody : (closed image : Bool) (taker : Taker) → ((not (is_some (first_cause closed image taker)) && true) && true) ≡ true → is_somebody taker ≡ true
    somebody closed false taker e = absurd cc
    somebody true true taker e = absurd cc
    somebody false true Nobody e = absurd cc
    somebody false true (Getter number free) e = refl
    somebody false true (Consumes free limit) e = refl

    met : (l : ReceivingLink) → is_whole l.partial ≡ true → IsUnmet l → l.attached ≡ true
    met l e u = at l.attached refl
      where
        at : (b : Bool) → l.attached ≡ b → b ≡ true
        at true i = refl
        at false i = let none : is_whole l.partial ≡ false = ap is_whole (u i).partial in absurd cc

    by : (o : Option ReceivingLink) → link_of s.links a.link ≡ o → (in_link (λ l. is_whole l.partial) o ≡ true) × (a ≡ arriving_in a.link o) → IfSome o IsUnmet
        → Stands (on.after_events life (on.Arrived a content again ∷ ds)).links (new_fate (is_closed ds) a content again)
    by None f e u = absurd cc
    by (Some l) f e u =
        let taker : a.taker ≡ taker_of l = ap (λ (x : Arriving). x.taker) e.1 in
        let goes : is_somebody (taker_of l) ≡ true = ap is_somebody (sym taker) ∙ somebody (is_closed ds) (is_some content) a.taker w in
        let suit : suits l.kind a.taker ≡ true = ap (suits l.kind) taker ∙ takes l.kind l.cancelled l.limit l.get goes in
        let such : on_such a.taker l ≡ true = and_both l.attached _ (met l e.0 u) suit in
        record {
          there = λ g. refl;
          on = λ k i.
              let same : a.link ≡ k = cc in
              subst (λ (j : ℕ). in_link (on_such a.taker) (link_of (on.after_events life (on.Arrived a content again ∷ ds)).links j) ≡ true) same
              (stays_on a.taker (on.Arrived a content again) s a.link refl (ap (in_link (on_such a.taker)) f ∙ such));
        }

-- one that was there
moved : (y : DeliveryEvent) (s : DeliveryState) (f g : Fate) → g.taker ≡ f.taker → g.link ≡ f.link → ((k : ℕ) → f.link ≡ Some k → drops_it k y ≡ false) → Stands s.links f
    → Stands (on.after_event y s).links g
moved y s f g t l off old = record {
  there = λ e. ap is_some l ∙ old.there (ap is_getter (sym t) ∙ e);
  on = λ k e.
      let here : f.link ≡ Some k = sym l ∙ e in
      subst (λ (x : Taker). in_link (on_such x) (link_of (on.after_event y s).links k) ≡ true) (sym t) (stays_on f.taker y s k (off k here) (old.on k here));
}

pub standing : (life : ℕ) (ds : List DeliveryEvent) → AreCalls life ds → AreDrops ds → AreStanding life ds
standing life [] c d m t w = let from : 1 ≤ m = t.0 in let most : m ≤ 0 = t.1 in absurd (omega (arith, from, most))
standing life (y ∷ ds) c d m t w = by y c d.0 (standing life ds c.1 d.1) m t w
  where
    s : DeliveryState
    s = on.after_events life ds

    by : (y : DeliveryEvent) → AreCalls life (y ∷ ds) → IsDrop ds y → AreStanding life ds → AreStanding life (y ∷ ds)
    by (on.Arrived a content again) c d old m t w = pick (m == numbers_of ds + 1) refl w
      where
        pick : (b : Bool) → (m == numbers_of ds + 1) ≡ b → waits (if b then new_fate (is_closed ds) a content again else fate_of m ds) ≡ true
            → Stands (on.after_events life (on.Arrived a content again ∷ ds)).links (if b then new_fate (is_closed ds) a content again else fate_of m ds)
        pick true i w = new_stands life ds a content again c w
        pick false i w = moved (on.Arrived a content again) s (fate_of m ds) (fate_of m ds) refl refl (λ k e. refl) (old m (t.0, old_before m (numbers_of ds) t.1 i) w)
    by (on.LinkDropped link) c d old m t w = pick (is_on link (fate_of m ds).link) refl
      where
        f : Fate
        f = fate_of m ds

        other : (b : Bool) (k : ℕ) → is_on link f.link ≡ false → f.link ≡ Some k → (k == link) ≡ b → b ≡ false
        other true k i e g = let here : is_on link f.link ≡ (k == link) = ap (is_on link) e in absurd (clash _ (here ∙ g) i)
        other false k i e g = refl

        pick : (b : Bool) → is_on link f.link ≡ b → Stands (on.after_events life (on.LinkDropped link ∷ ds)).links (record f { link = if b then None else f.link })
        pick true i = record { there = λ g. absurd (clash _ i (d m t w g)); on = λ k e. absurd cc }
        pick false i = moved (on.LinkDropped link) s f _ refl refl (λ k e. other (k == link) k i e refl) (old m t w)
    by y c d old m t w =
        let l = less m ds y (fate_of m ds) refl in
        moved y s (fate_of m ds) (fate_of m (y ∷ ds)) l.taker l.link (λ k e. refl) (old m (plain_taken y ds m refl t) (l.waited w))
