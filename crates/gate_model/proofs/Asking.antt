-- Where a receiving link asks for no flow, each echo of the container was answered, and the credit of each get that waits was stated.
use Rattle.std.proofs.Common.{◌≡◌, ◌∙◌, ℕ, ◌+◌, ◌-◌, ◌==◌, nat_lt, not, ◌&&◌, ◌||◌, Bool, true, false, if◌then◌else◌, List, [], ◌∷◌, Option, None, Some}
use Rattle.std.proofs.Common.{refl, sym, ap, subst, arith}
use Rattle.std.proofs.lemmas.Bool.Decides.{nat_tests}
use Rattle.std.specs.Option.{option_map, option_or}
use Rattle.std.specs.Prelude.{◌^◌, IfSome, is_some}
use Rattle.links_10.specs.Recv.{grant_of}
use Rattle.consume_path.specs.Deliveries as on
use Rattle.consume_path.specs.Deliveries.{DeliveryEvent, DeliveryState}
use Rattle.consume_path.specs.Laws.{AreCalls, IsCall}
use Rattle.consume_path.specs.Links.{found_empty, has_number as is_number, is_ask, is_asked, is_echo, is_to_ask, leaves_empty, link_of, new_get, new_link, one_more, served, transfer_came, was_asked}
use Rattle.consume_path.specs.Offers.{echo_credit, flow_of, grant_as}
use Rattle.consume_path.specs.declared.receiving.Cause.TheVariants.{Echo, Get as Asks, Refill, Stop}
use Rattle.consume_path.specs.declared.receiving.NextGrant.{NextGrant}
use Rattle.consume_path.specs.declared.receiving.ReceivingLink.{ReceivingLink}
use Rattle.consume_path.specs.declared.receiving.WaitingGet.{WaitingGet}
use Rattle.gate_model.specs.Supplies.{is_echoed, is_unasked}
use Rattle.gate_model.proofs.Linking.{apart, counted_anew, link_after, linked, recounts, source}
use Rattle.gate_model.proofs.Quotas.{equal, number_is, turned}

-- ---- what a link is owed, by its events

pub record Owes (ds : List DeliveryEvent) (k : ℕ) (l : ReceivingLink) : Type 0 where
  pub echo : is_echoed k ds ≡ true → nat_lt 0 l.echoes ≡ true
  pub ask : is_unasked k ds ≡ true → is_to_ask l.get ≡ true

anew : (b : Bool) (s : DeliveryState) (ds : List DeliveryEvent) (k : ℕ) (o : Option ReceivingLink) → IfSome o (Owes ds k) → IfSome (counted_anew b s o) (Owes ds k)
anew true s ds k None w = tt
anew true s ds k (Some l) w = record { echo = w.echo; ask = w.ask }
anew false s ds k o w = w

-- where the fold isn't true, or is as it was
cut : (b c : Bool) {T : Type 0} → b ≡ true → (if b then false else c) ≡ true → T
cut b c e f = absurd (by b e f)
  where
    by : (b : Bool) → b ≡ true → (if b then false else c) ≡ true → ⊥
    by true e f = cc
    by false e f = cc

past : (b c : Bool) → (if b then false else c) ≡ true → c ≡ true
past true c e = absurd cc
past false c e = e

off : (b c : Bool) → (if b then false else c) ≡ true → b ≡ false
off true c e = absurd cc
off false c e = refl

more : (n : ℕ) → nat_lt 0 (one_more n) ≡ true
more n = by (nat_lt (n + 1) (2 ^ 64)) refl
  where
    by : (b : Bool) → nat_lt (n + 1) (2 ^ 64) ≡ b → nat_lt 0 (if b then n + 1 else n) ≡ true
    by true e = grind (arith, nat_tests)
    by false e = grind (arith, nat_tests, e)

-- a flow for a get states the credit of one
ask_one : (closed : Bool) (l : ReceivingLink) (g : NextGrant) → flow_of closed l ≡ Some g → is_ask g.cause ≡ true → g.credit ≡ 1
ask_one closed l g e a = by l.attached (grant_of l.state) l.stopping (is_to_ask l.get && not closed) (nat_lt 0 l.echoes) e
  where
    other : (x : NextGrant) → is_ask x.cause ≡ false → Some x ≡ Some g → g.credit ≡ 1
    other x i f = let same : x ≡ g = cc in let wrong : is_ask g.cause ≡ false = ap (λ (y : NextGrant). is_ask y.cause) (sym same) ∙ i in absurd cc

    one : Some (grant_as l Asks 1) ≡ Some g → g.credit ≡ 1
    one f = let same : grant_as l Asks 1 ≡ g = cc in ap (λ (y : NextGrant). y.credit) (sym same)

    by : (b : Bool) (r : Option ℕ) (s t o : Bool)
        → (if b then option_or (option_map (grant_as l Refill) r)
        (option_or (if s then Some (grant_as l Stop 0) else None) (option_or (if t then Some (grant_as l Asks 1) else None)
        (if o then Some (grant_as l Echo (echo_credit closed l)) else None))) else None) ≡ Some g
        → g.credit ≡ 1
    by false r s t o f = absurd cc
    by true (Some c) s t o f = other (grant_as l Refill c) refl f
    by true None true t o f = other (grant_as l Stop 0) refl f
    by true None false true o f = one f
    by true None false false true f = other (grant_as l Echo (echo_credit closed l)) refl f
    by true None false false false f = absurd cc

unasked_get : (g : Option WaitingGet) → is_to_ask g ≡ true → is_asked g ≡ false
unasked_get None e = absurd cc
unasked_get (Some g) e = by g.asked e
  where
    by : (a : Bool) → (not a && not g.empty) ≡ true → a ≡ false
    by true f = absurd cc
    by false f = refl

module _ (life : ℕ) where
  pub owes : (ds : List DeliveryEvent) → AreCalls life ds → (k : ℕ) → IfSome (link_of (on.after_events life ds).links k) (Owes ds k)
  owes [] c k = tt
  owes (x ∷ ds) c k =
      subst (λ (o : Option ReceivingLink). IfSome o (Owes (x ∷ ds) k)) (sym (linked x s k))
      (anew (recounts x) (on.after_event x s) (x ∷ ds) k (link_after x s k (link_of s.links k)) (by x (link_of s.links k) refl c.0 (owes ds c.1 k)))
    where
      s : DeliveryState
      s = on.after_events life ds

      here : (l : ReceivingLink) (link : ℕ) → link_of s.links k ≡ Some l → (l.link == link) ≡ (link == k)
      here l link f = ap (λ (j : ℕ). j == link) (number_is s.links k l f) ∙ turned link k (link == k) refl

      by : (x : DeliveryEvent) (o : Option ReceivingLink) → link_of s.links k ≡ o → IsCall s x → IfSome o (Owes ds k) → IfSome (link_after x s k o) (Owes (x ∷ ds) k)
      by (on.LinkAdded link kind) None f e w = pick (link == k) refl
        where
          pick : (b : Bool) → (link == k) ≡ b → IfSome (if b then Some (new_link link kind s.prefetch) else None) (Owes (on.LinkAdded link kind ∷ ds) k)
          pick true i = record { echo = cut (link == k) (is_echoed k ds) i; ask = cut (link == k) (is_unasked k ds) i }
          pick false i = tt
      by (on.LinkAdded link kind) (Some l) f e w = record { echo = λ z. w.echo (past (link == k) _ z); ask = λ z. w.ask (past (link == k) _ z) }
      by (on.LinkAttached link count) None f e w = tt
      by (on.LinkAttached link count) (Some l) f e w = record { echo = w.echo; ask = w.ask }
      by (on.LinkFlowed link count) None f e w = tt
      by (on.LinkFlowed link count) (Some l) f e w = record { echo = w.echo; ask = λ z. still (is_number link l) (w.ask z) }
        where
          still : (b : Bool) → is_to_ask l.get ≡ true → is_to_ask (if b && leaves_empty count l then found_empty l.get else l.get) ≡ true
          still b z = ap (λ (c : Bool). is_to_ask (if c then found_empty l.get else l.get)) (never b (leaves_empty count l) (none (is_asked l.get) _ _ (unasked_get l.get z))) ∙ z
            where
              never : (a c : Bool) → c ≡ false → (a && c) ≡ false
              never true c e = e
              never false c e = refl

              none : (a b c : Bool) → a ≡ false → ((a && b) && c) ≡ false
              none true b c e = absurd cc
              none false b c e = refl
      by (on.LinkEchoed link) None f e w = tt
      by (on.LinkEchoed link) (Some l) f e w = record { echo = λ z. one (is_number link l) (link == k) (here l link f) z; ask = w.ask }
        where
          one : (a b : Bool) → a ≡ b → (b || is_echoed k ds) ≡ true → nat_lt 0 (if a then one_more l.echoes else l.echoes) ≡ true
          one true b i z = more l.echoes
          one false true i z = absurd cc
          one false false i z = w.echo z
      by (on.GetCame link no_ack) None f e w = tt
      by (on.GetCame link no_ack) (Some l) f e w = record { echo = w.echo; ask = λ z. one (is_number link l) (link == k) (here l link f) z }
        where
          one : (a b : Bool) → a ≡ b → (b || is_unasked k ds) ≡ true → is_to_ask (if a then Some (new_get (s.gets + 1) no_ack) else l.get) ≡ true
          one true b i z = refl
          one false true i z = absurd cc
          one false false i z = w.ask z
      by (on.TransferCame link part payload) None f e w = pick (k == link)
        where
          pick : (b : Bool) → IfSome (if b then None else None) (Owes (on.TransferCame link part payload ∷ ds) k)
          pick true = tt
          pick false = tt
      by (on.TransferCame link part payload) (Some l) f e w = pick (k == link) refl
        where
          pick : (b : Bool) → (k == link) ≡ b → IfSome (if b then Some (transfer_came part payload l) else Some l) (Owes (on.TransferCame link part payload ∷ ds) k)
          pick true i = record { echo = w.echo; ask = cut (link == k) (is_unasked k ds) (turned k link true i) }
          pick false i = record { echo = w.echo; ask = λ z. w.ask (past (link == k) _ z) }
      by (on.Arrived a content again) None f e w = tt
      by (on.Arrived a content again) (Some l) f e w = record { echo = w.echo; ask = λ z. one z }
        where
          new : Option WaitingGet
          new = if is_some content then served l.get else found_empty l.get

          one : (if a.link == k then false else is_unasked k ds) ≡ true → is_to_ask (if is_number a.link l then new else l.get) ≡ true
          one z = ap (λ (b : Bool). is_to_ask (if b then new else l.get)) (here l a.link f ∙ off (a.link == k) _ z) ∙ w.ask (past (a.link == k) _ z)
      by (on.LinkDropped link) None f e w = pick (k == link)
        where
          pick : (b : Bool) → IfSome (if b then None else None) (Owes (on.LinkDropped link ∷ ds) k)
          pick true = tt
          pick false = tt
      by (on.LinkDropped link) (Some l) f e w = pick (k == link)
        where
          pick : (b : Bool) → IfSome (if b then None else Some l) (Owes (on.LinkDropped link ∷ ds) k)
          pick true = tt
          pick false = record { echo = w.echo; ask = w.ask }
      by (on.Cancelled link) None f e w = tt
      by (on.Cancelled link) (Some l) f e w = record { echo = w.echo; ask = w.ask }
      by on.Closed None f e w = tt
      by on.Closed (Some l) f e w = record { echo = w.echo; ask = w.ask }
      by (on.GrantSent g) None f e w = tt
      by (on.GrantSent g) (Some l) f e w = record { echo = λ z. told (is_number g.link l) (here l g.link f ∙ off (g.link == k) _ z) (w.echo (past (g.link == k) _ z)); ask = λ z. asks (is_number g.link l) refl z }
        where
          told : (b : Bool) → b ≡ false → nat_lt 0 l.echoes ≡ true → nat_lt 0 (if b && is_echo g.cause then l.echoes - 1 else l.echoes) ≡ true
          told true i z = absurd cc
          told false i z = z

          credit_one : (l.link == g.link) ≡ true → is_ask g.cause ≡ true → g.credit ≡ 1
          credit_one i a =
              let t = source s.closed s.links g (apart life ds c.1) e in
              let same : g.link ≡ k = sym (equal l.link g.link i) ∙ number_is s.links k l f in
              let found : Some t.link ≡ Some l = sym t.is ∙ ap (link_of s.links) same ∙ f in
              let is : t.link ≡ l = cc in
              ask_one s.closed l g (ap (flow_of s.closed) (sym is) ∙ t.offers) a

          both : (a b : Bool) → a ≡ true → (if a && b then false else is_unasked k ds) ≡ true → b ≡ false
          both true true i z = absurd cc
          both true false i z = refl
          both false b i z = absurd cc

          keep : (c : Bool) → is_ask g.cause ≡ c → (l.link == g.link) ≡ true → (if (g.link == k) && (g.credit == 1) then false else is_unasked k ds) ≡ true → c ≡ false
          keep false a i z = refl
          keep true a i z =
              let one : g.credit ≡ 1 = credit_one i a in
              let is : (g.credit == 1) ≡ true = grind (arith, nat_tests, one) in
              let no : (g.credit == 1) ≡ false = both (g.link == k) (g.credit == 1) (sym (here l g.link f) ∙ i) z in
              absurd cc

          asks : (b : Bool) → (l.link == g.link) ≡ b → (if (g.link == k) && (g.credit == 1) then false else is_unasked k ds) ≡ true
              → is_to_ask (if b && is_ask g.cause then was_asked l.get else l.get) ≡ true
          asks false i z = w.ask (past ((g.link == k) && (g.credit == 1)) _ z)
          asks true i z =
              ap (λ (c : Bool). is_to_ask (if c then was_asked l.get else l.get)) (keep (is_ask g.cause) refl i z) ∙ w.ask (past ((g.link == k) && (g.credit == 1)) _ z)
      by (on.Emptied link) None f e w = tt
      by (on.Emptied link) (Some l) f e w = record { echo = w.echo; ask = λ z. one z }
        where
          one : (if link == k then false else is_unasked k ds) ≡ true → is_to_ask (if is_number link l then None else l.get) ≡ true
          one z = ap (λ (b : Bool). is_to_ask (if b then None else l.get)) (here l link f ∙ off (link == k) _ z) ∙ w.ask (past (link == k) _ z)
      by x None f e w = tt
      by x (Some l) f e w = record { echo = w.echo; ask = w.ask }

-- ---- where it asks for no flow

pub none_owed : (closed : Bool) (l : ReceivingLink) → closed ≡ false → l.attached ≡ true → flow_of closed l ≡ None → (nat_lt 0 l.echoes ≡ false) × (is_to_ask l.get ≡ false)
none_owed closed l open_yet a e =
    by l.attached (option_map (grant_as l Refill) (grant_of l.state)) l.stopping (is_to_ask l.get) (nat_lt 0 l.echoes) a
    (sym (ap (λ (c : Bool). if l.attached then option_or (option_map (grant_as l Refill) (grant_of l.state))
    (option_or (if l.stopping then Some (grant_as l Stop 0) else None) (option_or (if is_to_ask l.get && not c then Some (grant_as l Asks 1) else None)
    (if nat_lt 0 l.echoes then Some (grant_as l Echo (echo_credit closed l)) else None))) else None) open_yet) ∙ e)
  where
    by : (b : Bool) (o : Option NextGrant) (s t u : Bool) → b ≡ true
        → (if b then option_or o (option_or (if s then Some (grant_as l Stop 0) else None) (option_or (if t && true then Some (grant_as l Asks 1) else None)
        (if u then Some (grant_as l Echo (echo_credit closed l)) else None))) else None) ≡ None
        → (u ≡ false) × (t ≡ false)
    by true None false false false i f = (refl, refl)
    by true None false false true i f = absurd cc
    by true None false true u i f = absurd cc
    by true None true t u i f = absurd cc
    by true (Some x) s t u i f = absurd cc
    by false o s t u i f = absurd cc
