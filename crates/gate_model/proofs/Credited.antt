-- The credit that is left on a consumer's link is, with what counts there, within its quota: a flow with echo would be answered by it, were there no other link.
use Rattle.std.proofs.Common.{◌≡◌, ◌∙◌, ◌⊎◌, inl, inr, ℕ, zero, suc, ◌+◌, ◌-◌, ◌*◌, ◌^◌, ◌==◌, ◌≤◌, nat_le, nat_lt, not, ◌&&◌, ◌||◌, Bool, true, false}
use Rattle.std.proofs.Common.{if◌then◌else◌, cond, List, [], ◌∷◌, ◌++◌, length, map, Option, None, Some, refl, sym, ap, subst, arith}
use Rattle.std.specs.List.{AllByRecursion, list_any}
use Rattle.std.specs.Option.{option_map, option_or}
use Rattle.std.specs.Prelude.{IfSome, is_some}
use Rattle.std.proofs.lemmas.Bool.Decides.{nat_tests}
use Rattle.links_10.specs.Recv.{is_live, recounted}
use Rattle.open_items.specs.Numbers.{passing_above}
use Rattle.open_items.proofs.Filtered.{all_find}
use Rattle.consume_path.specs.Deliveries as on
use Rattle.consume_path.specs.Deliveries.{DeliveryEvent, DeliveryState}
use Rattle.consume_path.specs.Items.{is_on, without_link}
use Rattle.consume_path.specs.Journal.{fate_of, is_counted, numbers_of}
use Rattle.consume_path.specs.Laws.{AreCalls, IsCounted, IsLawfulCredit, counted_on, is_counted_on}
use Rattle.consume_path.specs.Links.{has_number, is_to_ask, link_echoed, link_of, one_if, one_more}
use Rattle.consume_path.specs.Offers.{echo_credit, flow_of, grant_as, grant_link, is_for_gets, next_grant_of, sooner}
use Rattle.consume_path.specs.declared.receiving.Cause.TheVariants.{Echo, Get as Asks, Refill, Stop}
use Rattle.consume_path.specs.declared.receiving.NextGrant.{NextGrant}
use Rattle.consume_path.specs.declared.receiving.ReceivingLink.{ReceivingLink}
use Rattle.consume_path.specs.declared.receiving.RecvKind.{RecvKind}
use Rattle.consume_path.specs.declared.receiving.RecvKind.TheVariants.{Consumer}
use Rattle.consume_path.specs.declared.receiving.WaitingGet.{WaitingGet}
use Rattle.session_path.proofs.Numbers.{find_none}
use Rattle.session_path.proofs.Ties.{eq_to}
use Rattle.gate_model.proofs.Connections.{clash}
use Rattle.gate_model.proofs.Granting.{CountsAre, CreditsAre}
use Rattle.gate_model.proofs.Linking.{AreApart, apart, counted_anew, linked}
use Rattle.gate_model.proofs.Quotas.{Kept, equal, kept, number_is, turned}

-- ---- the links but one are dropped

abbrev drops : ℕ → List ReceivingLink → List DeliveryEvent
drops k [] = []
drops k (x ∷ xs) = if x.link == k then drops k xs else on.LinkDropped x.link ∷ drops k xs

drops_calls : (life k : ℕ) (xs : List ReceivingLink) (ds : List DeliveryEvent) → AreCalls life ds → AreCalls life (drops k xs ++ ds)
drops_calls life k [] ds c = c
drops_calls life k (x ∷ xs) ds c = by (x.link == k) (drops_calls life k xs ds c)
  where
    by : (b : Bool) → AreCalls life (drops k xs ++ ds) → AreCalls life ((if b then drops k xs else on.LinkDropped x.link ∷ drops k xs) ++ ds)
    by true old = old
    by false old = (tt, old)

-- as many count on the one
passing_same : (p q : ℕ → Bool) → ((n : ℕ) → p n ≡ q n) → (low m : ℕ) → passing_above p low m ≡ passing_above q low m
passing_same p q e low zero = refl
passing_same p q e low (suc m) =
    ap (λ (b : Bool). cond b ((low + 1) ∷ passing_above p (low + 1) m) (passing_above p (low + 1) m)) (e (low + 1))
    ∙ ap (λ (ns : List ℕ). cond (q (low + 1)) ((low + 1) ∷ ns) ns) (passing_same p q e (low + 1) m)

on_same : (j k : ℕ) (o : Option ℕ) → (j == k) ≡ false → is_on k (without_link j o) ≡ is_on k o
on_same j k None e = refl
on_same j k (Some i) e = by (i == j) refl
  where
    by : (b : Bool) → (i == j) ≡ b → is_on k (if b then None else Some i) ≡ (i == k)
    by true f = sym (ap (λ (n : ℕ). n == k) (equal i j f) ∙ e)
    by false f = refl

dropped_same : (j k : ℕ) (ds : List DeliveryEvent) → (j == k) ≡ false → counted_on k (on.LinkDropped j ∷ ds) ≡ counted_on k ds
dropped_same j k ds e =
    ap length (passing_same (λ n. is_counted_on k (fate_of n (on.LinkDropped j ∷ ds))) (λ n. is_counted_on k (fate_of n ds))
    (λ n. ap (λ (b : Bool). b && is_counted (fate_of n ds)) (on_same j k (fate_of n ds).link e)) 0 (numbers_of ds))

drops_count : (k : ℕ) (xs : List ReceivingLink) (ds : List DeliveryEvent) → counted_on k (drops k xs ++ ds) ≡ counted_on k ds
drops_count k [] ds = refl
drops_count k (x ∷ xs) ds = by (x.link == k) refl (drops_count k xs ds)
  where
    by : (b : Bool) → (x.link == k) ≡ b → counted_on k (drops k xs ++ ds) ≡ counted_on k ds
        → counted_on k ((if b then drops k xs else on.LinkDropped x.link ∷ drops k xs) ++ ds) ≡ counted_on k ds
    by true e old = old
    by false e old = dropped_same x.link k (drops k xs ++ ds) e ∙ old

-- it stays as it was, but for its count
abbrev counts_as : ReceivingLink → ℕ → ReceivingLink
counts_as l c = record l { state = recounted c l.state }

record Stays (links : List ReceivingLink) (k : ℕ) (l : ReceivingLink) : Type 0 where
  count : ℕ
  is : link_of links k ≡ Some (counts_as l count)

drops_leave : (life k : ℕ) (l : ReceivingLink) (xs : List ReceivingLink) (ds : List DeliveryEvent) → link_of (on.after_events life ds).links k ≡ Some l
    → Stays (on.after_events life (drops k xs ++ ds)).links k l
drops_leave life k l [] ds e = record { count = l.state.counted; is = e }
drops_leave life k l (x ∷ xs) ds e = by (x.link == k) refl (drops_leave life k l xs ds e)
  where
    s : DeliveryState
    s = on.after_events life (drops k xs ++ ds)

    by : (b : Bool) → (x.link == k) ≡ b → Stays s.links k l → Stays (on.after_events life ((if b then drops k xs else on.LinkDropped x.link ∷ drops k xs) ++ ds)).links k l
    by true f old = old
    by false f old = record {
      count = _;
      is = linked (on.LinkDropped x.link) s k
          ∙ ap (λ (b : Bool). counted_anew true (on.after_event (on.LinkDropped x.link) s) (if b then None else link_of s.links k)) (turned x.link k false f)
          ∙ ap (counted_anew true (on.after_event (on.LinkDropped x.link) s)) old.is;
    }

-- and no other does
drops_rest : (life k j : ℕ) (xs : List ReceivingLink) (ds : List DeliveryEvent) → (j == k) ≡ false
    → (list_any (has_number j) xs ≡ true) ⊎ (link_of (on.after_events life ds).links j ≡ None)
    → link_of (on.after_events life (drops k xs ++ ds)).links j ≡ None
drops_rest life k j [] ds off (inl e) = absurd cc
drops_rest life k j [] ds off (inr e) = e
drops_rest life k j (x ∷ xs) ds off h = by (x.link == k) (x.link == j) refl refl (λ g. drops_rest life k j xs ds off g) h
  where
    s : DeliveryState
    s = on.after_events life (drops k xs ++ ds)

    gone : (b : Bool) → (j == x.link) ≡ b → (b ≡ false → link_of s.links j ≡ None) → link_of (on.after_event (on.LinkDropped x.link) s).links j ≡ None
    gone true e old = linked (on.LinkDropped x.link) s j ∙ ap (λ (b : Bool). counted_anew true (on.after_event (on.LinkDropped x.link) s) (if b then None else link_of s.links j)) e
    gone false e old =
        linked (on.LinkDropped x.link) s j
        ∙ ap (λ (b : Bool). counted_anew true (on.after_event (on.LinkDropped x.link) s) (if b then None else link_of s.links j)) e
        ∙ ap (counted_anew true (on.after_event (on.LinkDropped x.link) s)) (old refl)

    by : (a b : Bool) → (x.link == k) ≡ a → (x.link == j) ≡ b
        → ((list_any (has_number j) xs ≡ true) ⊎ (link_of (on.after_events life ds).links j ≡ None) → link_of s.links j ≡ None)
        → ((b || list_any (has_number j) xs) ≡ true) ⊎ (link_of (on.after_events life ds).links j ≡ None)
        → link_of (on.after_events life ((if a then drops k xs else on.LinkDropped x.link ∷ drops k xs) ++ ds)).links j ≡ None
    by true true e f rest h = absurd (clash (j == k) (ap (λ (n : ℕ). n == k) (sym (equal x.link j f)) ∙ e) off)
    by true false e f rest h = rest h
    by false true e f rest h = gone true (turned x.link j true f) (λ z. absurd cc)
    by false false e f rest h = gone false (turned x.link j false f) (λ z. rest h)

alone : (life k : ℕ) (ds : List DeliveryEvent) (j : ℕ) → (j == k) ≡ false → link_of (on.after_events life (drops k (on.after_events life ds).links ++ ds)).links j ≡ None
alone life k ds j off = by (list_any (has_number j) links) refl
  where
    links : List ReceivingLink
    links = (on.after_events life ds).links

    by : (b : Bool) → list_any (has_number j) links ≡ b → link_of (on.after_events life (drops k links ++ ds)).links j ≡ None
    by true e = drops_rest life k j links ds off (inl e)
    by false e = drops_rest life k j links ds off (inr (find_none (has_number j) links e))

single : (links : List ReceivingLink) (k : ℕ) (l : ReceivingLink) → AreApart links → link_of links k ≡ Some l → ((j : ℕ) → (j == k) ≡ false → link_of links j ≡ None) → links ≡ l ∷ []
single [] k l a e rest = absurd cc
single (x ∷ xs) k l a e rest = first (x.link == k) refl e
  where
    self : (i : ℕ) → (i == i) ≡ true
    self i = eq_to i i refl

    -- the first one has the number
    none_else : (x.link == k) ≡ false → ⊥
    none_else f = let none : link_of (x ∷ xs) x.link ≡ None = rest x.link f in let some : link_of (x ∷ xs) x.link ≡ Some x = ap (λ (b : Bool). cond b (Some x) (link_of xs x.link)) (self x.link) in cc

    -- and no other is there
    more : (ys : List ReceivingLink) → xs ≡ ys → (x.link == k) ≡ true → ys ≡ []
    more [] g f = refl
    more (y ∷ ys) g f =
        let differs : (x.link == y.link) ≡ false = (subst (λ (zs : List ReceivingLink). AreApart (x ∷ zs)) g a).0.0 in
        let off : (y.link == k) ≡ false = by (y.link == k) refl f differs in
        let none : link_of (x ∷ y ∷ ys) y.link ≡ None = subst (λ (zs : List ReceivingLink). link_of (x ∷ zs) y.link ≡ None) g (rest y.link off) in
        let some : link_of (x ∷ y ∷ ys) y.link ≡ Some y =
        ap (λ (b : Bool). cond b (Some x) (cond (y.link == y.link) (Some y) (link_of ys y.link))) differs ∙ ap (λ (b : Bool). cond b (Some y) (link_of ys y.link)) (self y.link) in
        absurd cc
      where
        by : (b : Bool) → (y.link == k) ≡ b → (x.link == k) ≡ true → (x.link == y.link) ≡ false → b ≡ false
        by true u v w = absurd (clash (x.link == y.link) (eq_to x.link y.link (equal x.link k v ∙ sym (equal y.link k u))) w)
        by false u v w = refl

    first : (b : Bool) → (x.link == k) ≡ b → cond b (Some x) (link_of xs k) ≡ Some l → x ∷ xs ≡ l ∷ []
    first true f g = let same : x ≡ l = cc in ap (λ (zs : List ReceivingLink). x ∷ zs) (more xs refl f) ∙ ap (λ (z : ReceivingLink). z ∷ []) same
    first false f g = absurd (none_else f)

-- ---- a flow with echo would be answered

module _ (x : ReceivingLink) (attached : x.attached ≡ true) (calm : x.stopping ≡ false) (unasked : is_to_ask x.get ≡ false) (echoed : nat_lt 0 x.echoes ≡ true)
    (kept : x.cancelled ≡ false) (consumes : is_for_gets x.kind ≡ false) where
  echo_is : (closed : Bool) → echo_credit closed x ≡ x.state.credit
  echo_is closed = by x.cancelled (is_for_gets x.kind) closed kept consumes
    where
      by : (a b c : Bool) → a ≡ false → b ≡ false → (if a || (c && b) then 0 else x.state.credit) ≡ x.state.credit
      by false false true e f = refl
      by false false false e f = refl
      by true b c e f = absurd cc
      by false true c e f = absurd cc

  answered : (closed : Bool) → (flow_of closed x ≡ Some (grant_as x Echo x.state.credit)) ⊎ (x.state.credit + x.state.counted ≤ x.state.quota)
  answered closed = by (nat_le (2 * (x.state.credit + x.state.counted)) x.state.quota) refl
    where
      flows : (a b s t e : Bool) (c : ℕ) → a ≡ true → b ≡ false → s ≡ false → t ≡ false → e ≡ true → c ≡ x.state.credit
          → (if a then option_or (option_map (grant_as x Refill) (if is_live x.state.granting && b then Some (x.state.quota - x.state.counted) else None))
          (option_or (if s then Some (grant_as x Stop 0) else None) (option_or (if t && not closed then Some (grant_as x Asks 1) else None)
          (if e then Some (grant_as x Echo c) else None))) else None) ≡ Some (grant_as x Echo x.state.credit)
      flows true false false false true c f g h i j is = live (is_live x.state.granting) ∙ ap (λ (n : ℕ). Some (grant_as x Echo n)) is
        where
          live : (b : Bool) → option_or (option_map (grant_as x Refill) (if b && false then Some (x.state.quota - x.state.counted) else None)) (Some (grant_as x Echo c)) ≡ Some (grant_as x Echo c)
          live true = refl
          live false = refl
      flows false b s t e c f g h i j is = absurd cc
      flows true true s t e c f g h i j is = absurd cc
      flows true false true t e c f g h i j is = absurd cc
      flows true false false true e c f g h i j is = absurd cc
      flows true false false false false c f g h i j is = absurd cc

      by : (b : Bool) → nat_le (2 * (x.state.credit + x.state.counted)) x.state.quota ≡ b → (flow_of closed x ≡ Some (grant_as x Echo x.state.credit)) ⊎ (x.state.credit + x.state.counted ≤ x.state.quota)
      by true e = let most : 2 * (x.state.credit + x.state.counted) ≤ x.state.quota = grind (arith, nat_tests, e) in inr (omega (arith, most))
      by false e = inl (flows x.attached _ x.stopping (is_to_ask x.get) (nat_lt 0 x.echoes) (echo_credit closed x) attached e calm unasked echoed (echo_is closed))

  -- so its credit is within the quota, where what goes is
  keeps : (closed : Bool) → IfSome (next_grant_of closed (x ∷ [])) (λ g. IfSome (link_of (x ∷ []) g.link) (λ l. IsLawfulCredit l.kind g.credit l)) → (tag : List ℕ) (no_ack : Bool)
      → x.kind ≡ Consumer tag no_ack → x.state.credit + x.state.counted ≤ x.state.quota
  keeps closed lawful tag no_ack is = by (answered closed)
    where
      g : NextGrant
      g = grant_as x Echo x.state.credit

      by : (flow_of closed x ≡ Some g) ⊎ (x.state.credit + x.state.counted ≤ x.state.quota) → x.state.credit + x.state.counted ≤ x.state.quota
      by (inr e) = e
      by (inl e) =
          let at : IfSome (link_of (x ∷ []) x.link) (λ l. IsLawfulCredit l.kind x.state.credit l) =
          subst (λ (o : Option NextGrant). IfSome (sooner grant_link o None) (λ y. IfSome (link_of (x ∷ []) y.link) (λ l. IsLawfulCredit l.kind y.credit l))) e lawful in
          let own : IsLawfulCredit x.kind x.state.credit x =
          subst (λ (b : Bool). IfSome (cond b (Some x) None) (λ l. IsLawfulCredit l.kind x.state.credit l)) (eq_to x.link x.link refl) at in
          let ok : IsLawfulCredit (Consumer tag no_ack) x.state.credit x = subst (λ (kind : RecvKind). IsLawfulCredit kind x.state.credit x) is own in
          ok.0

more_echoes : (n : ℕ) → nat_lt 0 (one_more n) ≡ true
more_echoes n = by (nat_lt (n + 1) (2 ^ 64)) refl
  where
    by : (b : Bool) → nat_lt (n + 1) (2 ^ 64) ≡ b → nat_lt 0 (if b then n + 1 else n) ≡ true
    by true e = grind (arith, nat_tests)
    by false e = grind (arith, nat_tests, e)

pub credit_within : CreditsAre → CountsAre → (life : ℕ) (ds : List DeliveryEvent) → AreCalls life ds → (k : ℕ) (l : ReceivingLink) (tag : List ℕ) (no_ack : Bool)
    → link_of (on.after_events life ds).links k ≡ Some l → l.kind ≡ Consumer tag no_ack → l.attached ≡ true → l.cancelled ≡ false
    → l.state.credit + l.state.counted ≤ l.state.quota
credit_within credits counts life ds calls k l tag no_ack e is attached uncancelled =
    let links = (on.after_events life ds).links in
    let es = drops k links ++ ds in
    let s = on.after_events life es in
    let later : AreCalls life es = drops_calls life k links ds calls in
    let stays = drops_leave life k l links ds e in
    let x = link_echoed k (counts_as l stays.count) in
    let one : map (link_echoed k) s.links ≡ x ∷ [] = ap (map (link_echoed k)) (single s.links k (counts_as l stays.count) (apart life es later) stays.is (alone life k ds)) in
    let w : Kept ds k l = subst (λ (o : Option ReceivingLink). IfSome o (Kept ds k)) e (kept life ds calls k) in
    let number : l.link ≡ k = number_is links k l e in
    let kind : is_for_gets l.kind ≡ false = ap is_for_gets is in
    let lawful = subst (λ (ls : List ReceivingLink). IfSome (next_grant_of s.closed ls) (λ g. IfSome (link_of ls g.link) (λ m. IsLawfulCredit m.kind g.credit m))) one
    (credits life (on.LinkEchoed k ∷ es) (tt, later)) in
    let within : l.state.credit + stays.count ≤ l.state.quota =
    keeps x attached (w.calm uncancelled) (unasked l.get w.gets kind) (ap (λ (b : Bool). nat_lt 0 (if b then one_more l.echoes else l.echoes)) (eq_to l.link k number) ∙ more_echoes l.echoes)
    uncancelled kind s.closed lawful tag no_ack is in
    let new : stays.count ≡ counted_on l.link es + one_if (is_some l.partial) =
    (subst (λ (ls : List ReceivingLink). AllByRecursion (IsCounted (on.LinkEchoed k ∷ es)) ls) one (counts life (on.LinkEchoed k ∷ es))).0 in
    let old : l.state.counted ≡ counted_on l.link ds + one_if (is_some l.partial) = (all_find (IsCounted ds) (has_number k) links l (counts life ds) e).0 in
    let same : counted_on l.link es ≡ counted_on l.link ds =
    ap (λ (i : ℕ). counted_on i es) number ∙ drops_count k links ds ∙ sym (ap (λ (i : ℕ). counted_on i ds) number) in
    omega (arith, within, new, old, same)
  where
    unasked : (g : Option WaitingGet) → (is_some g ≡ true → is_for_gets l.kind ≡ true) → is_for_gets l.kind ≡ false → is_to_ask g ≡ false
    unasked None f kind = refl
    unasked (Some g) f kind = absurd (clash (is_for_gets l.kind) (f refl) kind)
