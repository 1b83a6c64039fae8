-- Which gets wait after an event of the deliveries, and which of them it answers.
use Rattle.std.proofs.Common.{◌≡◌, ◌∙◌, ℕ, ◌+◌, ◌==◌, not, ◌&&◌, Bool, true, false, if◌then◌else◌, List, [], ◌∷◌, Option, None, Some, refl, sym, ap, subst}
use Rattle.std.specs.Option.{option_map, option_or}
use Rattle.std.specs.Prelude.{is_some}
use Rattle.consume_path.specs.Deliveries as on
use Rattle.consume_path.specs.Deliveries.{DeliveryEvent, DeliveryState}
use Rattle.consume_path.specs.Links.{found_empty, get_emptied, in_link, is_empty, link_echoed, link_flowed, link_of, link_waits, new_get, new_link, served, tag_by, tag_in}
use Rattle.consume_path.specs.Links.{leaves_empty, taken_from, transfer_came, was_asked}
use Rattle.consume_path.specs.Offers.{arriving_in, awaits_get, is_drained, is_for_gets, is_getting}
use Rattle.consume_path.specs.declared.delivery.Content.{Content}
use Rattle.consume_path.specs.declared.receiving.Part.{Part}
use Rattle.consume_path.specs.declared.receiving.ReceivingLink.{ReceivingLink}
use Rattle.consume_path.specs.declared.receiving.RecvKind.{RecvKind}
use Rattle.consume_path.specs.declared.receiving.WaitingGet.{WaitingGet}
use Rattle.session_path.specs.Path.{arrived_on, echoed_on, emptied_in, empty_oks, flow_in, is_last, transfer_oks, transferred}
use Rattle.session_path.specs.declared.path.PathOk.{PathOk}
use Rattle.session_path.specs.declared.path.PathOk.TheVariants as ok
use Rattle.session_path.proofs.Ties.{eq_to}
use Rattle.gate_model.proofs.Basics.{and_right, not_true}
use Rattle.gate_model.proofs.Connections.{clash}
use Rattle.gate_model.proofs.Linking.{counted_anew, link_after, linked, recounts}
use Rattle.gate_model.proofs.Quotas.{equal, number_is}

-- ---- one link

abbrev get_in : Option ReceivingLink → Option WaitingGet
get_in None = None
get_in (Some l) = l.get

abbrev get_at : ℕ → DeliveryState → Option WaitingGet
get_at k d = get_in (link_of d.links k)

abbrev no_get : Option WaitingGet
no_get = None

-- one waits that wasn't found empty
abbrev waits_so : Option WaitingGet → Bool
waits_so g = is_some g && not (is_empty g)

awaits_so : (o : Option ReceivingLink) → in_link is_getting o ≡ waits_so (get_in o)
awaits_so None = refl
awaits_so (Some l) = refl

drained_so : (o : Option ReceivingLink) → in_link (λ (l : ReceivingLink). is_empty l.get) o ≡ is_empty (get_in o)
drained_so None = refl
drained_so (Some l) = refl

anew_get : (b : Bool) (z : DeliveryState) (o : Option ReceivingLink) → get_in (counted_anew b z o) ≡ get_in o
anew_get true z None = refl
anew_get true z (Some l) = refl
anew_get false z o = refl

anew_tag : (b : Bool) (z : DeliveryState) (o : Option ReceivingLink) → tag_in (counted_anew b z o) ≡ tag_in o
anew_tag true z None = refl
anew_tag true z (Some l) = refl
anew_tag false z o = refl

get_after : (y : DeliveryEvent) (d : DeliveryState) (k : ℕ) → get_at k (on.after_event y d) ≡ get_in (link_after y d k (link_of d.links k))
get_after y d k = ap get_in (linked y d k) ∙ anew_get (recounts y) (on.after_event y d) (link_after y d k (link_of d.links k))

tag_after : (y : DeliveryEvent) (d : DeliveryState) (k : ℕ) → tag_in (link_of (on.after_event y d).links k) ≡ tag_in (link_after y d k (link_of d.links k))
tag_after y d k = ap tag_in (linked y d k) ∙ anew_tag (recounts y) (on.after_event y d) (link_after y d k (link_of d.links k))

-- by its get
awaits_by : (k : ℕ) (d : DeliveryState) (g : Option WaitingGet) → get_at k d ≡ g → awaits_get k d.links ≡ waits_so g
awaits_by k d g e = awaits_so (link_of d.links k) ∙ ap waits_so e

drained_by : (k : ℕ) (d : DeliveryState) (g : Option WaitingGet) → get_at k d ≡ g → is_drained k d.links ≡ is_empty g
drained_by k d g e = drained_so (link_of d.links k) ∙ ap is_empty e

-- ---- what leaves the gets, and the tags of consumers

pub record Same (d e : DeliveryState) : Type 0 where
  pub waits : (k : ℕ) → awaits_get k e.links ≡ awaits_get k d.links
  pub drained : (k : ℕ) → is_drained k e.links ≡ is_drained k d.links
  pub tags : (k : ℕ) → tag_in (link_of e.links k) ≡ tag_in (link_of d.links k)

pub the_same : (d : DeliveryState) → Same d d
the_same d = record { waits = λ k. refl; drained = λ k. refl; tags = λ k. refl }

-- it adds no link, drops none, and no get comes or goes by it
abbrev pub stays : DeliveryEvent → Bool
stays (on.LinkAdded link kind) = false
stays (on.LinkFlowed link count) = false
stays (on.GetCame link no_ack) = false
stays (on.TransferCame link part payload) = false
stays (on.Arrived a content again) = false
stays (on.LinkDropped link) = false
stays (on.Emptied link) = false
stays y = true

record Alike (o p : Option ReceivingLink) : Type 0 where
  waits : waits_so (get_in p) ≡ waits_so (get_in o)
  empty : is_empty (get_in p) ≡ is_empty (get_in o)
  tag : tag_in p ≡ tag_in o

alike_after : (y : DeliveryEvent) (z : DeliveryState) (k : ℕ) (o : Option ReceivingLink) → stays y ≡ true → Alike o (link_after y z k o)
alike_after (on.LinkAdded link kind) z k o e = absurd cc
alike_after (on.LinkFlowed link count) z k o e = absurd cc
alike_after (on.GetCame link no_ack) z k o e = absurd cc
alike_after (on.TransferCame link part payload) z k o e = absurd cc
alike_after (on.Arrived a content again) z k o e = absurd cc
alike_after (on.LinkDropped link) z k o e = absurd cc
alike_after (on.Emptied link) z k o e = absurd cc
alike_after (on.GrantSent g) z k None e = record { waits = refl; empty = refl; tag = refl }
alike_after (on.GrantSent g) z k (Some l) e = record { waits = waits _ l.get; empty = empty _ l.get; tag = refl }
  where
    waits : (b : Bool) (g : Option WaitingGet) → waits_so (if b then was_asked g else g) ≡ waits_so g
    waits true None = refl
    waits true (Some g) = refl
    waits false g = refl

    empty : (b : Bool) (g : Option WaitingGet) → is_empty (if b then was_asked g else g) ≡ is_empty g
    empty true None = refl
    empty true (Some g) = refl
    empty false g = refl
alike_after y z k None e = record { waits = refl; empty = refl; tag = refl }
alike_after y z k (Some l) e = record { waits = refl; empty = refl; tag = refl }

pub same_event : (y : DeliveryEvent) (d : DeliveryState) → stays y ≡ true → Same d (on.after_event y d)
same_event y d e = record {
  waits = λ k. awaits_by k (on.after_event y d) _ (get_after y d k) ∙ (at k).waits ∙ sym (awaits_so (link_of d.links k));
  drained = λ k. drained_by k (on.after_event y d) _ (get_after y d k) ∙ (at k).empty ∙ sym (drained_so (link_of d.links k));
  tags = λ k. tag_after y d k ∙ (at k).tag;
}
  where
    at : (k : ℕ) → Alike (link_of d.links k) (link_after y d k (link_of d.links k))
    at k = alike_after y d k (link_of d.links k) e

-- ---- a link comes, with no get

pub record Added (d e : DeliveryState) : Type 0 where
  pub waits : (k : ℕ) → awaits_get k e.links ≡ awaits_get k d.links
  pub drained : (k : ℕ) → is_drained k e.links ≡ is_drained k d.links

pub added : (m : ℕ) (kind : RecvKind) (d : DeliveryState) → Added d (on.after_event (on.LinkAdded m kind) d)
added m kind d = record {
  waits = λ k. awaits_by k e _ (get_after y d k ∙ none (link_of d.links k) (m == k)) ∙ sym (awaits_so (link_of d.links k));
  drained = λ k. drained_by k e _ (get_after y d k ∙ none (link_of d.links k) (m == k)) ∙ sym (drained_so (link_of d.links k));
}
  where
    y : DeliveryEvent
    y = on.LinkAdded m kind

    e : DeliveryState
    e = on.after_event y d

    none : (o : Option ReceivingLink) (b : Bool) → get_in (option_or o (if b then Some (new_link m kind d.prefetch) else None)) ≡ get_in o
    none None true = refl
    none None false = refl
    none (Some l) b = refl

pub added_tag : (m : ℕ) (kind : RecvKind) (d : DeliveryState) → link_of d.links m ≡ None → tag_in (link_of (on.after_event (on.LinkAdded m kind) d).links m) ≡ tag_by kind
added_tag m kind d none =
    tag_after (on.LinkAdded m kind) d m
    ∙ ap (λ (o : Option ReceivingLink). tag_in (option_or o (if m == m then Some (new_link m kind d.prefetch) else None))) none
    ∙ ap (λ (b : Bool). tag_in (option_or None (if b then Some (new_link m kind d.prefetch) else None))) (eq_to m m refl)

-- ---- one link is changed

-- a change of the link with this number
number_at : (d : DeliveryState) (k j : ℕ) (l : ReceivingLink) (b : Bool) → link_of d.links k ≡ Some l → (k == j) ≡ b → (l.link == j) ≡ b
number_at d k j l b e f = ap (λ (i : ℕ). i == j) (number_is d.links k l e) ∙ f

-- a get comes
pub came_there : (d : DeliveryState) (m : ℕ) (no_ack : Bool) → in_link (λ (l : ReceivingLink). is_for_gets l.kind) (link_of d.links m) ≡ true
    → awaits_get m (on.after_event (on.GetCame m no_ack) d).links ≡ true
came_there d m no_ack there = awaits_by m (on.after_event (on.GetCame m no_ack) d) _ (get_after (on.GetCame m no_ack) d m) ∙ by (link_of d.links m) refl there
  where
    by : (o : Option ReceivingLink) → link_of d.links m ≡ o → in_link (λ (l : ReceivingLink). is_for_gets l.kind) o ≡ true
        → waits_so (get_in (option_map (link_waits m (d.gets + 1) no_ack) o)) ≡ true
    by None e f = absurd cc
    by (Some l) e f = ap (λ (b : Bool). waits_so (if b then Some (new_get (d.gets + 1) no_ack) else l.get)) (number_at d m m l true e (eq_to m m refl))

pub came_elsewhere : (d : DeliveryState) (m : ℕ) (no_ack : Bool) (k : ℕ) → (k == m) ≡ false → awaits_get k (on.after_event (on.GetCame m no_ack) d).links ≡ awaits_get k d.links
came_elsewhere d m no_ack k off =
    awaits_by k (on.after_event (on.GetCame m no_ack) d) _ (get_after (on.GetCame m no_ack) d k ∙ by (link_of d.links k) refl) ∙ sym (awaits_so (link_of d.links k))
  where
    by : (o : Option ReceivingLink) → link_of d.links k ≡ o → get_in (option_map (link_waits m (d.gets + 1) no_ack) o) ≡ get_in o
    by None e = refl
    by (Some l) e = ap (λ (b : Bool). if b then Some (new_get (d.gets + 1) no_ack) else l.get) (number_at d k m l false e off)

pub came_undrained : (d : DeliveryState) (m : ℕ) (no_ack : Bool) (k : ℕ) → is_drained k d.links ≡ false → is_drained k (on.after_event (on.GetCame m no_ack) d).links ≡ false
came_undrained d m no_ack k e =
    drained_by k (on.after_event (on.GetCame m no_ack) d) _ (get_after (on.GetCame m no_ack) d k) ∙ by (link_of d.links k) (sym (drained_so (link_of d.links k)) ∙ e)
  where
    by : (o : Option ReceivingLink) → is_empty (get_in o) ≡ false → is_empty (get_in (option_map (link_waits m (d.gets + 1) no_ack) o)) ≡ false
    by None f = refl
    by (Some l) f = at (l.link == m)
      where
        at : (b : Bool) → is_empty (if b then Some (new_get (d.gets + 1) no_ack) else l.get) ≡ false
        at true = refl
        at false = f

-- a link goes on which none waits
pub record Dropped (d e : DeliveryState) (m : ℕ) : Type 0 where
  pub waits : awaits_get m d.links ≡ false → (k : ℕ) → awaits_get k e.links ≡ awaits_get k d.links
  pub undrained : (k : ℕ) → is_drained k d.links ≡ false → is_drained k e.links ≡ false
  pub tags : (k : ℕ) → (k == m) ≡ false → tag_in (link_of e.links k) ≡ tag_in (link_of d.links k)

pub link_drops : (m : ℕ) (d : DeliveryState) → Dropped d (on.after_event (on.LinkDropped m) d) m
link_drops m d = record {
  waits = λ none k. awaits_by k e _ (get_after y d k) ∙ waits none k (k == m) refl;
  undrained = λ k f. drained_by k e _ (get_after y d k) ∙ undrained (k == m) (link_of d.links k) (sym (drained_so (link_of d.links k)) ∙ f);
  tags = λ k off. tag_after y d k ∙ ap (λ (b : Bool). tag_in (if b then None else link_of d.links k)) off;
}
  where
    y : DeliveryEvent
    y = on.LinkDropped m

    e : DeliveryState
    e = on.after_event y d

    waits : awaits_get m d.links ≡ false → (k : ℕ) (b : Bool) → (k == m) ≡ b → waits_so (get_in (if b then None else link_of d.links k)) ≡ awaits_get k d.links
    waits none k true f = sym (ap (λ (i : ℕ). awaits_get i d.links) (equal k m f) ∙ none)
    waits none k false f = sym (awaits_so (link_of d.links k))

    undrained : (b : Bool) (o : Option ReceivingLink) → is_empty (get_in o) ≡ false → is_empty (get_in (if b then None else o)) ≡ false
    undrained true o f = refl
    undrained false o f = f

-- ---- what comes on a link

-- its get is as it was, or was found empty
data Turn (g h : Option WaitingGet) : Type 0 where
  Kept : h ≡ g → Turn g h
  Found : h ≡ found_empty g → Turn g h

record Changed (d f : DeliveryState) (link : ℕ) : Type 0 where
  others : (k : ℕ) → (k == link) ≡ false → get_at k f ≡ get_at k d
  here : Turn (get_at link d) (get_at link f)
  tags : (k : ℕ) → tag_in (link_of f.links k) ≡ tag_in (link_of d.links k)

-- what it answers, where no get was left found empty
pub data Outcome (d t : DeliveryState) (xs : List PathOk) : Type 0 where
  Nothing : xs ≡ [] → ((k : ℕ) → awaits_get k t.links ≡ awaits_get k d.links) → Outcome d t xs
  GetOk : (k : ℕ) → xs ≡ ok.Get ∷ [] → awaits_get k d.links ≡ true → awaits_get k t.links ≡ false
      → ((j : ℕ) → (j == k) ≡ false → awaits_get j t.links ≡ awaits_get j d.links) → Outcome d t xs
  Empty : (k : ℕ) → xs ≡ ok.Empty k ∷ [] → awaits_get k d.links ≡ true → awaits_get k t.links ≡ false
      → ((j : ℕ) → (j == k) ≡ false → awaits_get j t.links ≡ awaits_get j d.links) → Outcome d t xs

pub record Turned (d t : DeliveryState) (xs : List PathOk) : Type 0 where
  pub outcome : Outcome d t xs
  pub undrained : (k : ℕ) → is_drained k t.links ≡ false
  pub tags : (k : ℕ) → tag_in (link_of t.links k) ≡ tag_in (link_of d.links k)

emptied_get : (d : DeliveryState) (m k : ℕ) (b : Bool) → (k == m) ≡ b → get_at k (on.after_event (on.Emptied m) d) ≡ (if b then None else get_at k d)
emptied_get d m k b e = get_after (on.Emptied m) d k ∙ by (link_of d.links k) refl
  where
    at : (b : Bool) → no_get ≡ (if b then None else no_get)
    at true = refl
    at false = refl

    by : (o : Option ReceivingLink) → link_of d.links k ≡ o → get_in (option_map (get_emptied m) o) ≡ (if b then None else get_in o)
    by None f = at b
    by (Some l) f = ap (λ (c : Bool). if c then None else l.get) (number_at d k m l b f e)

emptied_tag : (d : DeliveryState) (m k : ℕ) → tag_in (link_of (on.after_event (on.Emptied m) d).links k) ≡ tag_in (link_of d.links k)
emptied_tag d m k = tag_after (on.Emptied m) d k ∙ by (link_of d.links k)
  where
    by : (o : Option ReceivingLink) → tag_in (option_map (get_emptied m) o) ≡ tag_in o
    by None = refl
    by (Some l) = refl

module _ (d : DeliveryState) (undrained : (k : ℕ) → is_drained k d.links ≡ false) where
  calm : (k : ℕ) → is_empty (get_at k d) ≡ false
  calm k = sym (drained_so (link_of d.links k)) ∙ undrained k

  -- a get that is found empty is answered at once
  emptied_turns : (f : DeliveryState) (link : ℕ) → Changed d f link → Turned d (emptied_in link f) (empty_oks link f)
  emptied_turns f link c = by (is_drained link f.links) refl
    where
      elsewhere : (k : ℕ) → (k == link) ≡ false → awaits_get k f.links ≡ awaits_get k d.links
      elsewhere k off = awaits_by k f _ (c.others k off) ∙ sym (awaits_so (link_of d.links k))

      not_empty : (g h : Option WaitingGet) → Turn g h → is_empty h ≡ false → waits_so h ≡ waits_so g
      not_empty g h (Kept e) f = ap waits_so e
      not_empty None h (Found e) f = ap waits_so e
      not_empty (Some g) h (Found e) f = absurd (let wrong : true ≡ false = sym (ap is_empty e) ∙ f in cc)

      was_waiting : (g h : Option WaitingGet) → Turn g h → is_empty g ≡ false → is_empty h ≡ true → waits_so g ≡ true
      was_waiting g h (Kept e) f i = absurd (clash (is_empty g) (sym (ap is_empty e) ∙ i) f)
      was_waiting None h (Found e) f i = absurd (let wrong : true ≡ false = sym i ∙ ap is_empty e in cc)
      was_waiting (Some g) h (Found e) f i = ap not f

      by : (b : Bool) → is_drained link f.links ≡ b → Turned d (if b then on.after_event (on.Emptied link) f else f) (if b then ok.Empty link ∷ [] else [])
      by false e = record {
        outcome = Nothing refl (λ k. same k (k == link) refl);
        undrained = λ k. none k (k == link) refl;
        tags = c.tags;
      }
        where
          same : (k : ℕ) (b : Bool) → (k == link) ≡ b → awaits_get k f.links ≡ awaits_get k d.links
          same k false off = elsewhere k off
          same k true is =
              subst (λ (i : ℕ). awaits_get i f.links ≡ awaits_get i d.links) (sym (equal k link is))
              (awaits_so (link_of f.links link) ∙ not_empty (get_at link d) (get_at link f) c.here (sym (drained_so (link_of f.links link)) ∙ e) ∙ sym (awaits_so (link_of d.links link)))

          none : (k : ℕ) (b : Bool) → (k == link) ≡ b → is_drained k f.links ≡ false
          none k false off = drained_by k f _ (c.others k off) ∙ calm k
          none k true is = ap (λ (i : ℕ). is_drained i f.links) (equal k link is) ∙ e
      by true e = record {
        outcome = Empty link refl
            (awaits_so (link_of d.links link) ∙ was_waiting (get_at link d) (get_at link f) c.here (calm link) (sym (drained_so (link_of f.links link)) ∙ e))
            (awaits_by link t _ (emptied_get f link link true (eq_to link link refl)))
            (λ j off. awaits_by j t _ (emptied_get f link j false off) ∙ sym (awaits_so (link_of f.links j)) ∙ elsewhere j off);
        undrained = λ k. none k (k == link) refl;
        tags = λ k. emptied_tag f link k ∙ c.tags k;
      }
        where
          t : DeliveryState
          t = on.after_event (on.Emptied link) f

          none : (k : ℕ) (b : Bool) → (k == link) ≡ b → is_drained k t.links ≡ false
          none k false off = drained_by k t _ (emptied_get f link k false off ∙ c.others k off) ∙ calm k
          none k true is = drained_by k t _ (emptied_get f link k true is)

  -- a flow
  nothing_changed : (link : ℕ) → Changed d d link
  nothing_changed link = record { others = λ k off. refl; here = Kept refl; tags = λ k. refl }

  flowed : (link count : ℕ) → Changed d (on.after_event (on.LinkFlowed link count) d) link
  flowed link count = record { others = others; here = here; tags = λ k. tag_after y d k ∙ tag (link_of d.links k) }
    where
      y : DeliveryEvent
      y = on.LinkFlowed link count

      others : (k : ℕ) → (k == link) ≡ false → get_at k (on.after_event y d) ≡ get_at k d
      others k off = get_after y d k ∙ by (link_of d.links k) refl
        where
          by : (o : Option ReceivingLink) → link_of d.links k ≡ o → get_in (option_map (link_flowed link count) o) ≡ get_in o
          by None e = refl
          by (Some l) e = ap (λ (b : Bool). if b && leaves_empty count l then found_empty l.get else l.get) (number_at d k link l false e off)

      here : Turn (get_at link d) (get_at link (on.after_event y d))
      here = by (link_of d.links link) (get_after y d link)
        where
          by : (o : Option ReceivingLink) → get_at link (on.after_event y d) ≡ get_in (option_map (link_flowed link count) o) → Turn (get_in o) (get_at link (on.after_event y d))
          by None e = Kept e
          by (Some l) e = at (l.link == link && leaves_empty count l) e
            where
              at : (b : Bool) → get_at link (on.after_event y d) ≡ (if b then found_empty l.get else l.get) → Turn l.get (get_at link (on.after_event y d))
              at true f = Found f
              at false f = Kept f

      tag : (o : Option ReceivingLink) → tag_in (option_map (link_flowed link count) o) ≡ tag_in o
      tag None = refl
      tag (Some l) = refl

  echoed : (f : DeliveryState) (link : ℕ) (echo : Bool) → Changed d f link → Changed d (echoed_on echo link f) link
  echoed f link false c = c
  echoed f link true c = record {
    others = λ k off. get k ∙ c.others k off;
    here = turn c.here;
    tags = λ k. tag_after y f k ∙ tag (link_of f.links k) ∙ c.tags k;
  }
    where
      y : DeliveryEvent
      y = on.LinkEchoed link

      same : (o : Option ReceivingLink) → get_in (option_map (link_echoed link) o) ≡ get_in o
      same None = refl
      same (Some l) = refl

      get : (k : ℕ) → get_at k (on.after_event y f) ≡ get_at k f
      get k = get_after y f k ∙ same (link_of f.links k)

      tag : (o : Option ReceivingLink) → tag_in (option_map (link_echoed link) o) ≡ tag_in o
      tag None = refl
      tag (Some l) = refl

      turn : Turn (get_at link d) (get_at link f) → Turn (get_at link d) (get_at link (on.after_event y f))
      turn (Kept e) = Kept (get link ∙ e)
      turn (Found e) = Found (get link ∙ e)

  pub flow_turns : (link : ℕ) (count : Option ℕ) (echo : Bool) → Turned d (emptied_in link (flow_in link count echo d)) (empty_oks link (flow_in link count echo d))
  flow_turns link None echo = emptied_turns _ link (echoed d link echo (nothing_changed link))
  flow_turns link (Some count) echo = emptied_turns _ link (echoed (on.after_event (on.LinkFlowed link count) d) link echo (flowed link count))

  -- a transfer, and the delivery that it ends
  module _ (link : ℕ) (part : Part) (payload : List ℕ) where
    abbrev came : DeliveryEvent
    came = on.TransferCame link part payload

    abbrev c : DeliveryState
    c = on.after_event came d

    at_other : (k : ℕ) → (k == link) ≡ false → get_at k c ≡ get_at k d
    at_other k off = get_after came d k ∙ ap (λ (b : Bool). get_in (if b then option_map (transfer_came part payload) (link_of d.links k) else link_of d.links k)) off

    at_link : get_at link c ≡ (if part.aborted then found_empty (get_at link d) else get_at link d)
    at_link =
        get_after came d link
        ∙ ap (λ (b : Bool). get_in (if b then option_map (transfer_came part payload) (link_of d.links link) else link_of d.links link)) (eq_to link link refl)
        ∙ by (link_of d.links link)
      where
        at : (b : Bool) → no_get ≡ (if b then found_empty no_get else no_get)
        at true = refl
        at false = refl

        by : (o : Option ReceivingLink) → get_in (option_map (transfer_came part payload) o) ≡ (if part.aborted then found_empty (get_in o) else get_in o)
        by None = at part.aborted
        by (Some l) = refl

    came_tag : (k : ℕ) → tag_in (link_of c.links k) ≡ tag_in (link_of d.links k)
    came_tag k = tag_after came d k ∙ by (k == link) (link_of d.links k)
      where
        by : (b : Bool) (o : Option ReceivingLink) → tag_in (if b then option_map (transfer_came part payload) o else o) ≡ tag_in o
        by true None = refl
        by true (Some l) = refl
        by false o = refl

    came_changes : Changed d c link
    came_changes = record { others = at_other; here = by part.aborted at_link; tags = came_tag }
      where
        by : (b : Bool) → get_at link c ≡ (if b then found_empty (get_at link d) else get_at link d) → Turn (get_at link d) (get_at link c)
        by true e = Found e
        by false e = Kept e

    module _ (image : Option Content) (again : Bool) where
      abbrev f : DeliveryState
      f = arrived_on link image again c

      own : (o : Option ReceivingLink) → (arriving_in link o).link ≡ link
      own None = refl
      own (Some l) = refl

      taken : (k : ℕ) (b : Bool) → (k == link) ≡ b
          → get_at k f ≡ (if b then (if is_some image then served (get_at k c) else found_empty (get_at k c)) else get_at k c)
      taken k b e = get_after (on.Arrived (arriving_in link (link_of c.links link)) image again) c k ∙ by (link_of c.links k) refl
        where
          at : (x y : Bool) → no_get ≡ (if x then (if y then served no_get else found_empty no_get) else no_get)
          at true true = refl
          at true false = refl
          at false y = refl

          by : (o : Option ReceivingLink) → link_of c.links k ≡ o
              → get_in (option_map (taken_from (arriving_in link (link_of c.links link)).link (is_some image)) o)
              ≡ (if b then (if is_some image then served (get_in o) else found_empty (get_in o)) else get_in o)
          by None i = at b (is_some image)
          by (Some l) i =
              ap (λ (x : Bool). if x then (if is_some image then served l.get else found_empty l.get) else l.get)
              (ap (λ (j : ℕ). l.link == j) (own (link_of c.links link)) ∙ number_at c k link l b i e)

      taken_tag : (k : ℕ) → tag_in (link_of f.links k) ≡ tag_in (link_of d.links k)
      taken_tag k = tag_after (on.Arrived (arriving_in link (link_of c.links link)) image again) c k ∙ by (link_of c.links k) ∙ came_tag k
        where
          by : (o : Option ReceivingLink) → tag_in (option_map (taken_from (arriving_in link (link_of c.links link)).link (is_some image)) o) ≡ tag_in o
          by None = refl
          by (Some l) = refl

      taken_other : (k : ℕ) → (k == link) ≡ false → get_at k f ≡ get_at k d
      taken_other k off = taken k false off ∙ at_other k off

      taken_here : part.aborted ≡ false → get_at link f ≡ (if is_some image then served (get_at link d) else found_empty (get_at link d))
      taken_here whole =
          taken link true (eq_to link link refl)
          ∙ ap (λ (g : Option WaitingGet). if is_some image then served g else found_empty g) (at_link ∙ ap (λ (b : Bool). if b then found_empty (get_at link d) else get_at link d) whole)

      -- the get on its link has it, or none waits there
      taken_turns : part.aborted ≡ false
          → Turned d (emptied_in link f) (if is_some image && awaits_get link d.links then ok.Get ∷ [] else empty_oks link f)
      taken_turns whole = by (is_some image) refl (get_at link d) refl
        where
          Goal : Bool → Type 0
          Goal b = Turned d (emptied_in link f) (if b then ok.Get ∷ [] else empty_oks link f)

          none_drained : is_drained link f.links ≡ false → emptied_in link f ≡ f
          none_drained e = ap (λ (b : Bool). if b then on.after_event (on.Emptied link) f else f) e

          unserved : (b : Bool) → b ≡ false → Turn (get_at link d) (get_at link f) → Goal b
          unserved true e turn = absurd cc
          unserved false e turn = emptied_turns f link (record { others = taken_other; here = turn; tags = taken_tag })

          gets : awaits_get link d.links ≡ true → get_at link f ≡ None → Turned d f (ok.Get ∷ [])
          gets waits gone = record {
            outcome = GetOk link refl waits (awaits_by link f _ gone) (λ j off. awaits_by j f _ (taken_other j off) ∙ sym (awaits_so (link_of d.links j)));
            undrained = λ k. none k (k == link) refl;
            tags = taken_tag;
          }
            where
              none : (k : ℕ) (b : Bool) → (k == link) ≡ b → is_drained k f.links ≡ false
              none k false off = drained_by k f _ (taken_other k off) ∙ calm k
              none k true is = ap (λ (i : ℕ). is_drained i f.links) (equal k link is) ∙ drained_by link f _ gone

          here : (b : Bool) (g : Option WaitingGet) → is_some image ≡ b → get_at link d ≡ g → get_at link f ≡ (if b then served g else found_empty g)
          here b g e i =
              taken_here whole ∙ ap (λ (x : Bool). if x then served (get_at link d) else found_empty (get_at link d)) e
              ∙ ap (λ (x : Option WaitingGet). if b then served x else found_empty x) i

          by : (b : Bool) → is_some image ≡ b → (g : Option WaitingGet) → get_at link d ≡ g → Goal (is_some image && awaits_get link d.links)
          by false e g i =
              unserved _ (ap (λ (b : Bool). b && awaits_get link d.links) e) (Found (here false g e i ∙ ap found_empty (sym i)))
          by true e None i =
              unserved _ (ap (λ (b : Bool). is_some image && b) (awaits_by link d _ i) ∙ ap (λ (b : Bool). b && false) e) (Kept (here true None e i ∙ sym i))
          by true e (Some g) i =
              let free : g.empty ≡ false = sym (ap is_empty i) ∙ calm link in
              let waits : awaits_get link d.links ≡ true = awaits_by link d _ i ∙ ap not free in
              let gone : get_at link f ≡ None = here true (Some g) e i ∙ ap (λ (b : Bool). if b then Some g else None) free in
              subst (λ (b : Bool). Goal b) (sym (ap (λ (b : Bool). b && awaits_get link d.links) e ∙ waits))
              (subst (λ (t : DeliveryState). Turned d t (ok.Get ∷ [])) (sym (none_drained (drained_by link f _ gone))) (gets waits gone))

      pub transfer_turns : Turned d (emptied_in link (transferred link part payload image again d)) (transfer_oks link part payload image again d)
      transfer_turns = by (is_last part) refl
        where
          by : (b : Bool) → is_last part ≡ b
              → Turned d (emptied_in link (if b then f else c)) (if b && (is_some image && awaits_get link d.links) then ok.Get ∷ [] else empty_oks link (if b then f else c))
          by true e = taken_turns (not_true part.aborted (and_right (not part.more) _ e))
          by false e = emptied_turns c link came_changes
