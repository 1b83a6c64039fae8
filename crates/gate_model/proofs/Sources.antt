-- Each receiving link of a life has its address, which is the queue that it was wanted for; and a basic.get waits on a link to its queue.
use Rattle.std.proofs.Common.{◌≡◌, ◌∙◌, ◌⊎◌, inl, inr, ℕ, ◌+◌, ◌==◌, not, ◌&&◌, ◌||◌, Bool, true, false, if◌then◌else◌, cond, List, [], ◌∷◌, ◌++◌, Option, None, Some}
use Rattle.std.proofs.Common.{nat_lt, refl, sym, ap, subst, arith}
use Rattle.std.proofs.lemmas.Bool.Decides.{nat_tests}
use Rattle.std.proofs.lemmas.Slice.Eq.{bytes_eq-Decides}
use Rattle.std.specs.List.{AllByRecursion}
use Rattle.std.specs.Option.{option_or}
use Rattle.std.specs.Prelude.{IfSome, find, is_some}
use Rattle.consume_path.specs.Deliveries as on
use Rattle.consume_path.specs.Deliveries.{DeliveryEvent, DeliveryState}
use Rattle.consume_path.specs.Journal.{is_closed}
use Rattle.consume_path.specs.Links.{in_link, link_of}
use Rattle.consume_path.specs.Offers.{is_for_gets, next_deliver_of, serves_gets}
use Rattle.consume_path.specs.declared.delivery.NextDeliver.{NextDeliver}
use Rattle.consume_path.specs.declared.receiving.ReceivingLink.{ReceivingLink}
use Rattle.consume_path.specs.Offers.{next_settle_of, takes_get}
use Rattle.consume_path.specs.declared.receiving.RecvKind.{RecvKind}
use Rattle.consume_path.specs.declared.receiving.RecvKind.TheVariants.{Consumer, Get, Probe}
use Rattle.session_path.specs.Due.{address_at, attach_of, deliver_if, deliver_in, is_get_ok, most_tags, next_attach, next_deliver}
use Rattle.session_path.specs.Links.{is_stage_given, is_stage_wanted, is_wanted}
use Rattle.session_path.specs.Path.{first_of, source_of}
use Rattle.session_path.specs.declared.path.AttachDue.{AttachDue}
use Rattle.session_path.specs.declared.path.DeliverDue.{DeliverDue}
use Rattle.session_path.specs.declared.path.Stage.{Stage}
use Rattle.session_path.specs.declared.path.Stage.TheVariants.{Wanted}
use Rattle.session_path.specs.Events as event
use Rattle.session_path.specs.Events.{PathEvent, after_event, after_events, deliveries_of, delivery_events, gets}
use Rattle.session_path.specs.Laws.{AreHeard, IsHeard, queue_in}
use Rattle.session_path.specs.Links.{LinksState, asked_by, attached, free_number, has_number, is_given, is_parting, is_stage_refused, is_to_part, is_wanted_receiver, named, parted, told_on}
use Rattle.session_path.specs.Links.{with_receiver}
use Rattle.session_path.specs.Path.{IsThere, PathState, address_in, detaching_of, dropped_by, flow_of, get_link, got_on, is_get_link, is_grant_next, is_serving, is_source_of, queue_or, receiver_in}
use Rattle.session_path.specs.Path.{begun_if, begun_on, disposed_by, dropped, flowed_by, grant_in, granted_by, source_in, taking, transferred_on, without_source}
use Rattle.session_path.specs.declared.path.AttachHeard.{AttachHeard}
use Rattle.consume_path.specs.declared.delivery.Content.{Content}
use Rattle.consume_path.specs.declared.delivery.NextSettle.{NextSettle}
use Rattle.consume_path.specs.declared.receiving.NextGrant.{NextGrant}
use Rattle.consume_path.specs.declared.receiving.Part.{Part}
use Rattle.session_path.specs.declared.path.PathLink.{PathLink}
use Rattle.session_path.specs.declared.path.Source.{Source}
use Rattle.session_path.proofs.Idle.{detaching_there}
use Rattle.session_path.proofs.Numbers.{any_found, any_less, free_takes, is_taking, other_takes, takes, takes_itself, takes_one, wanted_takes}
use Rattle.session_path.proofs.SameLinks.{attach_same, disposed_same, flow_sent_same, flowed_if, flowed_same, transfer_same}
use Rattle.session_path.proofs.Takes.{takes_asked, takes_attached, takes_detached, takes_failed, takes_flowed, takes_linked, takes_parted, takes_told}
use Rattle.session_path.proofs.Tied.{Tied}
use Rattle.session_path.proofs.Ties.{found_passes}
use Rattle.gate_model.specs.Credits.{kind_in}
use Rattle.gate_model.specs.declared.channel.AttachOut.{AttachOut}
use Rattle.gate_model.specs.declared.channel.ChannelUnit.TheVariants as to_client
use Rattle.gate_model.specs.declared.channel.SessionUnit.{SessionUnit}
use Rattle.gate_model.specs.declared.channel.SessionUnit.TheVariants as unit
use Rattle.gate_model.specs.declared.outgoing.Outgoing.TheVariants.{ToClient, ToUp}
use Rattle.gate_model.specs.declared.outgoing.UpUnit.{UpUnit}
use Rattle.gate_model.specs.declared.outgoing.UpUnit.TheVariants as up
use Rattle.gate_model.specs.declared.reply.Reply.{Reply}
use Rattle.gate_model.specs.declared.reply.Reply.TheVariants as reply
use Rattle.gate_model.specs.Due.{carries_of, carries_up}
use Rattle.gate_model.specs.Folds.{side_in}
use Rattle.gate_model.specs.Paths.{path_at}
use Rattle.gate_model.specs.Picks.{ArePicks}
use Rattle.gate_model.specs.Publishing.{path_events, path_life}
use Rattle.gate_model.specs.State.{Gave, State, Step, before}
use Rattle.gate_model.specs.Sources.{GetsFromItsQueue, MayAttach, MayGet, asked_for, or_new, queue_of, wanted_for}
use Rattle.gate_model.proofs.Basics.{and_both, and_left, and_right, right_false}
use Rattle.gate_model.proofs.Brought.{OfEvent, event_all, is_mild}
use Rattle.gate_model.proofs.Calm.{waits_open}
use Rattle.gate_model.proofs.Connections.{clash}
use Rattle.gate_model.proofs.Delivers.{DeliversAre, GlobalsAre, IsDelivered, TagsAre, is_delivered}
use Rattle.gate_model.proofs.Fates.{IsNext, is_next, path_of}
use Rattle.gate_model.proofs.Firsts.{OfChannel, OfSession, SessionUnits, goes_as, goes_up_as}
use Rattle.gate_model.proofs.Granting.{DeliveriesAre}
use Rattle.gate_model.proofs.Heard.{ClosedAre, are_heard, events_open, is_kept, open_heard}
use Rattle.gate_model.proofs.Quotas.{Kept, equal, kept}
use Rattle.gate_model.proofs.Receivers.{LinksAre}
use Rattle.gate_model.proofs.Rests.{LivesBelow}
use Rattle.gate_model.proofs.Settles.{CallsAre, is_there, open_goes_on}

-- what session_path says of the queue that was declared last
abbrev pub QueuesAre : Type 0
QueuesAre = (life : ℕ) (es : List PathEvent) → (after_events life es).queue ≡ queue_in es

-- ---- the addresses of a path

abbrev pub has : ℕ → List Source → Bool
has k xs = is_some (find (is_source_of k) xs)

pub found_push : (k : ℕ) (xs : List Source) (y : Source) → find (is_source_of k) (xs ++ y ∷ []) ≡ option_or (find (is_source_of k) xs) (cond (y.link == k) (Some y) None)
found_push k [] y = refl
found_push k (x ∷ xs) y = by (x.link == k) (found_push k xs y)
  where
    by : (b : Bool) → find (is_source_of k) (xs ++ y ∷ []) ≡ option_or (find (is_source_of k) xs) (cond (y.link == k) (Some y) None)
        → cond b (Some x) (find (is_source_of k) (xs ++ y ∷ [])) ≡ option_or (cond b (Some x) (find (is_source_of k) xs)) (cond (y.link == k) (Some y) None)
    by true e = refl
    by false e = e

pub found_without : (j k : ℕ) (xs : List Source) → find (is_source_of k) (without_source j xs) ≡ (if k == j then None else find (is_source_of k) xs)
found_without j k [] = by (k == j)
  where
    by : (b : Bool) → find (is_source_of k) [] ≡ (if b then None else find (is_source_of k) [])
    by true = refl
    by false = refl
found_without j k (x ∷ xs) = by (x.link == j) (x.link == k) (k == j) refl refl refl (found_without j k xs)
  where
    by : (a b c : Bool) → (x.link == j) ≡ a → (x.link == k) ≡ b → (k == j) ≡ c → find (is_source_of k) (without_source j xs) ≡ (if c then None else find (is_source_of k) xs)
        → find (is_source_of k) (cond (not a) (x ∷ without_source j xs) (without_source j xs)) ≡ (if c then None else cond b (Some x) (find (is_source_of k) xs))
    by true true true e f g ih = ih
    by true true false e f g ih = absurd (let here : x.link ≡ j = equal x.link j e in let there : x.link ≡ k = equal x.link k f in let same : (k == j) ≡ true = grind (arith, nat_tests, here, there) in clash _ same g)
    by true false c e f g ih = ih
    by false true true e f g ih = absurd (let here : x.link ≡ k = equal x.link k f in let same : (k == j) ≡ false = grind (arith, nat_tests, here, e) in clash _ g same)
    by false true false e f g ih = ap (λ (b : Bool). cond b (Some x) (find (is_source_of k) (without_source j xs))) f
    by false false c e f g ih = ap (λ (b : Bool). cond b (Some x) (find (is_source_of k) (without_source j xs))) f ∙ ih

-- ---- they are those of the receiving links that the gateway didn't detach

pub record Goes (ls : List PathLink) (xs : List Source) (closed : Bool) (wanted : ℕ → List ℕ) : Type 0 where
  pub there : (k : ℕ) → takes k ls ≡ true → has k xs ≡ true
  pub known : closed ≡ false → (k : ℕ) → has k xs ≡ true → takes k ls ≡ true
  address : (k : ℕ) (x : Source) → find (is_source_of k) xs ≡ Some x → x.address ≡ wanted k

abbrev pub GoesOn : ℕ → PathState → List PathEvent → Type 0
GoesOn life s es = Goes s.links.links s.sources s.deliveries.closed (λ k. wanted_for life k es)

-- an event that leaves the numbers, and wants no link
alike : (ls ks : List PathLink) (xs : List Source) (closed later : Bool) (wanted : ℕ → List ℕ) → ((k : ℕ) → takes k ks ≡ takes k ls) → (later ≡ false → closed ≡ false) → Goes ls xs closed wanted
    → Goes ks xs later wanted
alike ls ks xs closed later wanted same open_yet g = record {
  there = λ k t. g.there k (sym (same k) ∙ t);
  known = λ c k e. same k ∙ g.known (open_yet c) k e;
  address = g.address;
}

-- a receiving link is wanted for this address
added : (s : LinksState) (xs : List Source) (closed : Bool) (address : List ℕ) (wanted after : ℕ → List ℕ) → Tied s → closed ≡ false
    → ((k : ℕ) → after k ≡ (if free_number s.links == k then address else wanted k)) → Goes s.links xs closed wanted
    → Goes (with_receiver s).links (xs ++ record { link = free_number s.links; address = address } ∷ []) closed after
added s xs closed address wanted after tied open_yet says g = record {
  there = λ k t. ap is_some (found_push k xs y) ∙ into k (find (is_source_of k) xs) refl (or_else _ _ (sym (wanted_takes k m s.links) ∙ t));
  known = λ c k e. wanted_takes k m s.links ∙ back k (find (is_source_of k) xs) refl (sym (ap is_some (found_push k xs y)) ∙ e);
  address = λ k x e. named k x (find (is_source_of k) xs) refl (m == k) refl (sym (found_push k xs y) ∙ e);
}
  where
    m : ℕ
    m = free_number s.links

    y : Source
    y = record { link = m; address = address }

    or_else : (a b : Bool) → (a || b) ≡ true → (a ≡ true) ⊎ (b ≡ true)
    or_else true b e = inl refl
    or_else false b e = inr e

    one : (b : Bool) → (b && true) ≡ true → b ≡ true
    one true e = refl
    one false e = absurd cc

    into : (k : ℕ) (o : Option Source) → find (is_source_of k) xs ≡ o → (((m == k) && true) ≡ true) ⊎ (takes k s.links ≡ true)
        → is_some (option_or o (cond (m == k) (Some y) None)) ≡ true
    into k (Some x) f z = refl
    into k None f (inl z) = ap (λ (b : Bool). is_some (cond b (Some y) None)) (one (m == k) z)
    into k None f (inr z) = let here : has k xs ≡ true = g.there k z in absurd (clash _ here (ap is_some f))

    back : (k : ℕ) (o : Option Source) → find (is_source_of k) xs ≡ o → is_some (option_or o (cond (m == k) (Some y) None)) ≡ true → (((m == k) && true) || takes k s.links) ≡ true
    back k (Some x) f z = right _ _ (g.known open_yet k (ap is_some f))
      where
        right : (a b : Bool) → b ≡ true → (a || b) ≡ true
        right true b e = refl
        right false b e = e
    back k None f z = left (m == k) z
      where
        left : (b : Bool) → is_some (cond b (Some y) None) ≡ true → ((b && true) || takes k s.links) ≡ true
        left true e = refl
        left false e = absurd cc

    named : (k : ℕ) (x : Source) (o : Option Source) → find (is_source_of k) xs ≡ o → (b : Bool) → (m == k) ≡ b → option_or o (cond b (Some y) None) ≡ Some x → x.address ≡ after k
    named k x (Some z) f true e i =
        let taken : takes k s.links ≡ true = g.known open_yet k (ap is_some f) in
        let free : takes k s.links ≡ false = ap (λ (n : ℕ). takes n s.links) (sym (equal m k e)) ∙ free_takes s.links tied.rising in
        absurd (clash _ taken free)
    named k x (Some z) f false e i = g.address k x (f ∙ i) ∙ sym (says k ∙ ap (λ (b : Bool). if b then address else wanted k) e)
    named k x None f true e i = let same : y ≡ x = cc in ap (λ (z : Source). z.address) (sym same) ∙ sym (says k ∙ ap (λ (b : Bool). if b then address else wanted k) e)
    named k x None f false e i = absurd cc

-- ---- what leaves the addresses

pub attach_sources : (o : Option PathLink) (a : AttachHeard) (s : PathState) → (begun_if o a s).sources ≡ s.sources
attach_sources None a s = refl
attach_sources (Some l) a s = by (l.receives && a.there)
  where
    by : (b : Bool) → (if b then begun_on l.link a.count s else s).sources ≡ s.sources
    by true = refl
    by false = refl

pub flow_sources : (o : Option PathLink) (peer : ℕ) (count : Option ℕ) (credit : ℕ) (drain echo : Bool) (s : PathState) → (flowed_by o peer count credit drain echo s).sources ≡ s.sources
flow_sources None peer count credit drain echo s = refl
flow_sources (Some l) peer count credit drain echo s = refl

pub transfer_sources : (o : Option PathLink) (part : Part) (payload : List ℕ) (image : Option Content) (again : Bool) (s : PathState) → (transferred_on o part payload image again s).sources ≡ s.sources
transfer_sources None part payload image again s = refl
transfer_sources (Some l) part payload image again s = refl

pub granted_sources : (b : Bool) (o : Option NextGrant) (s t : PathState) → t.sources ≡ s.sources → (if b then granted_by o s else t).sources ≡ s.sources
granted_sources true None s t e = refl
granted_sources true (Some g) s t e = refl
granted_sources false o s t e = e

pub disposed_sources : (o : Option NextSettle) (s : PathState) → (disposed_by o s).sources ≡ s.sources
disposed_sources None s = refl
disposed_sources (Some x) s = refl

-- ---- all events

module _ (deliveries : DeliveriesAre) (shut : ClosedAre) (tied : LinksAre) (queues : QueuesAre) (life : ℕ) where
  open_before : (x : PathEvent) (es : List PathEvent) → (after_events life (x ∷ es)).deliveries.closed ≡ false → (after_events life es).deliveries.closed ≡ false
  open_before x es e =
      ap (λ (d : DeliveryState). d.closed) (deliveries life es) ∙ shut life (deliveries_of life es)
      ∙ events_open life (x ∷ []) es (sym (ap (λ (d : DeliveryState). d.closed) (deliveries life (x ∷ es)) ∙ shut life (deliveries_of life (x ∷ es))) ∙ e)

  calm : (x : PathEvent) (es : List PathEvent) → (after_events life (x ∷ es)).sources ≡ (after_events life es).sources
      → ((k : ℕ) → takes k (after_events life (x ∷ es)).links.links ≡ takes k (after_events life es).links.links) → ((k : ℕ) → wanted_for life k (x ∷ es) ≡ wanted_for life k es)
      → GoesOn life (after_events life es) es → GoesOn life (after_events life (x ∷ es)) (x ∷ es)
  calm x es sources same wants g = record {
    there = λ k t. ap (λ (xs : List Source). has k xs) sources ∙ g.there k (sym (same k) ∙ t);
    known = λ c k e. same k ∙ g.known (open_before x es c) k (ap (λ (xs : List Source). has k xs) (sym sources) ∙ e);
    address = λ k y e. g.address k y (ap (find (is_source_of k)) (sym sources) ∙ e) ∙ sym (wants k);
  }

  gone : (es : List PathEvent) (l : PathLink) → find (has_number l.link) (after_events life es).links.links ≡ Some l → GoesOn life (after_events life es) es
      → GoesOn life (dropped_by (Some l) (record (after_events life es) { links = parted (Some l) (after_events life es).links })) (event.DetachSent ∷ es)
  gone es l there g = by l.receives refl
    where
      s : PathState
      s = after_events life es

      both : (a b c : Bool) → (b ≡ true → c ≡ true) → (not a && b) ≡ true → (a ≡ false) × (c ≡ true)
      both true b c f e = absurd cc
      both false b c f e = (refl, f e)

      unless : (b : Bool) (o : Option Source) → is_some (if b then None else o) ≡ true → (b ≡ false) × (is_some o ≡ true)
      unless true o e = absurd cc
      unless false o e = (refl, e)

      found_else : (b : Bool) (o : Option Source) (x : Source) → (if b then None else o) ≡ Some x → o ≡ Some x
      found_else true o x e = absurd cc
      found_else false o x e = e

      parts : PathState
      parts = record s { links = parted (Some l) s.links }

      by : (b : Bool) → l.receives ≡ b → GoesOn life (if b then dropped l.link parts else parts) (event.DetachSent ∷ es)
      by true e = record {
        there = λ k t.
            let r = both (k == l.link) (takes k s.links.links) (has k s.sources) (g.there k) (sym (takes_parted k s.links l (tied life es) there) ∙ t) in
            ap is_some (found_without l.link k s.sources) ∙ ap (λ (b : Bool). is_some (if b then None else find (is_source_of k) s.sources)) r.0 ∙ r.1;
        known = λ c k z.
            let r = unless (k == l.link) (find (is_source_of k) s.sources) (sym (ap is_some (found_without l.link k s.sources)) ∙ z) in
            takes_parted k s.links l (tied life es) there ∙ ap (λ (b : Bool). not b && takes k s.links.links) r.0 ∙ g.known c k r.1;
        address = λ k x z. g.address k x (found_else (k == l.link) _ x (sym (found_without l.link k s.sources) ∙ z));
      }
      by false e = alike s.links.links (parted (Some l) s.links).links s.sources s.deliveries.closed s.deliveries.closed (λ k. wanted_for life k es)
          (λ k. takes_parted k s.links l (tied life es) there ∙ other_takes (has_number l.link) k s.links.links l (tied life es).rising there (ap (λ (b : Bool). b && not (is_given l)) e))
          (λ c. c) g

  step : (x : PathEvent) (es : List PathEvent) → IsHeard (after_events life es) x → GoesOn life (after_events life es) es → GoesOn life (after_events life (x ∷ es)) (x ∷ es)
  step x es heard g = by x heard
    where
      s : PathState
      s = after_events life es

      m : ℕ
      m = free_number s.links.links

      same : {x y : LinksState} → x ≡ y → (k : ℕ) → takes k x.links ≡ takes k y.links
      same e k = ap (λ (z : LinksState). takes k z.links) e

      flowing : (k peer : ℕ) (count : Option ℕ) (credit : ℕ) (drain echo : Bool) (o : Option PathLink)
          → takes k (flowed_if o peer count credit drain echo s.links).links ≡ takes k s.links.links
      flowing k peer count credit drain echo None = takes_flowed k peer count credit drain echo s.links (tied life es)
      flowing k peer count credit drain echo (Some l) = refl

      telling : (k : ℕ) (b : Bool) → takes k (cond b s.links (told_on (flow_of s.publishes.list s.links) s.links)).links ≡ takes k s.links.links
      telling k true = refl
      telling k false = takes_told k s.publishes.list s.links (tied life es)

      getting : (queue : List ℕ) (no_ack : Bool) → s.deliveries.closed ≡ false → (o : Option PathLink) → get_link (queue_or s.queue queue) s ≡ o
          → GoesOn life (got_on o (queue_or s.queue queue) no_ack s) (event.GetAsked queue no_ack ∷ es)
      getting queue no_ack c o e = at o refl
        where
          wants : (k : ℕ) → wanted_for life k (event.GetAsked queue no_ack ∷ es)
              ≡ (if not (is_some o) && (m == k) then queue_or s.queue queue else wanted_for life k es)
          wants k =
              ap (λ (q : List ℕ). if not (is_some (get_link (queue_or q queue) s)) && (m == k) then queue_or q queue else wanted_for life k es) (sym (queues life es))
              ∙ ap (λ (z : Option PathLink). if not (is_some z) && (m == k) then queue_or s.queue queue else wanted_for life k es) e

          at : (z : Option PathLink) → o ≡ z → GoesOn life (got_on z (queue_or s.queue queue) no_ack s) (event.GetAsked queue no_ack ∷ es)
          at None f =
              added s.links s.sources s.deliveries.closed (queue_or s.queue queue) (λ k. wanted_for life k es) (λ k. wanted_for life k (event.GetAsked queue no_ack ∷ es)) (tied life es) c
              (λ k. wants k ∙ ap (λ (z : Option PathLink). if not (is_some z) && (m == k) then queue_or s.queue queue else wanted_for life k es) f) g
          at (Some l) f = record {
            there = g.there;
            known = g.known;
            address = λ k y i. g.address k y i
                ∙ sym (wants k ∙ ap (λ (z : Option PathLink). if not (is_some z) && (m == k) then queue_or s.queue queue else wanted_for life k es) f);
          }

      parting : (o : Option PathLink) → detaching_of s ≡ o → IfSome o (IsThere s.links)
          → GoesOn life (dropped_by o (record s { links = parted o s.links })) (event.DetachSent ∷ es)
      parting None e t = record { there = g.there; known = g.known; address = g.address }
      parting (Some l) e t = gone es l t.0 g

      by : (x : PathEvent) → IsHeard s x → GoesOn life (after_event x s) (x ∷ es)
      by (event.Published address payload back) h = calm (event.Published address payload back) es refl (λ k. takes_linked k address s.links) (λ k. refl) g
      by (event.Owed ok) h = calm (event.Owed ok) es refl (λ k. refl) (λ k. refl) g
      by (event.Consumed queue tag no_ack no_wait) h =
          added s.links s.sources s.deliveries.closed (queue_or s.queue queue) (λ k. wanted_for life k es) (λ k. wanted_for life k (event.Consumed queue tag no_ack no_wait ∷ es)) (tied life es) h
          (λ k. ap (λ (q : List ℕ). if m == k then queue_or q queue else wanted_for life k es) (sym (queues life es))) g
      by (event.Declared queue no_wait) h =
          added s.links s.sources s.deliveries.closed queue (λ k. wanted_for life k es) (λ k. wanted_for life k (event.Declared queue no_wait ∷ es)) (tied life es) h (λ k. refl) g
      by (event.GetAsked queue no_ack) h = getting queue no_ack h (get_link (queue_or s.queue queue) s) refl
      by (event.AttachCame attach) h =
          calm (event.AttachCame attach) es (attach_sources (asked_by attach s.links) attach (record s { links = attached attach s.links }))
          (λ k. same (attach_same (asked_by attach s.links) attach (record s { links = attached attach s.links })) k ∙ takes_attached k attach s.links (tied life es)) (λ k. refl) g
      by (event.FlowCame peer count credit drain echo) h =
          calm (event.FlowCame peer count credit drain echo) es (flow_sources (receiver_in (named peer s.links)) peer count credit drain echo s)
          (λ k. same (flowed_same (receiver_in (named peer s.links)) peer count credit drain echo s) k ∙ flowing k peer count credit drain echo (receiver_in (named peer s.links))) (λ k. refl) g
      by (event.DetachCame peer not_found) h = calm (event.DetachCame peer not_found) es refl (λ k. takes_detached k peer s.links (tied life es)) (λ k. refl) g
      by (event.TransferCame peer part payload image again) h =
          calm (event.TransferCame peer part payload image again) es (transfer_sources (taking peer s) part payload image again s)
          (same (transfer_same (taking peer s) part payload image again s)) (λ k. refl) g
      by (event.LinkFailed peer fault) h = calm (event.LinkFailed peer fault) es refl (λ k. takes_failed k peer fault s.links (tied life es)) (λ k. refl) g
      by (event.AttachSent name) h = calm (event.AttachSent name) es refl (λ k. takes_asked k name s.links (tied life es)) (λ k. refl) g
      by event.LinkFlowSent h =
          calm event.LinkFlowSent es (granted_sources (is_grant_next s) (grant_in s) s _ refl) (λ k. same (flow_sent_same s) k ∙ telling k (is_grant_next s)) (λ k. refl) g
      by event.DisposeSent h =
          calm event.DisposeSent es (disposed_sources (next_settle_of s.deliveries.list) s) (same (disposed_same (next_settle_of s.deliveries.list) s)) (λ k. refl) g
      by event.DetachSent h = parting (detaching_of s) refl (detaching_there s.publishes.list s.deliveries s.oks s.links (tied life es).rising)
      by event.LifeClosed h = record {
        there = λ k t. g.there k (any_less (takes_one k) (λ l. not (is_wanted_receiver l)) s.links.links t);
        known = λ c. absurd cc;
        address = g.address;
      }
      by event.SessionLost h = record {
        there = λ k t. g.there k (any_less (takes_one k) (λ l. not (is_wanted_receiver l)) s.links.links (any_less (takes_one k) (λ l. not (is_wanted l)) _ t));
        known = λ c. absurd cc;
        address = g.address;
      }
      by event.SessionEnded h = record { there = λ k t. absurd cc; known = λ c. absurd cc; address = g.address }
      by event.UpLost h = record { there = λ k t. absurd cc; known = λ c. absurd cc; address = g.address }
      by y h = calm y es refl (λ k. refl) (λ k. refl) g

  pub goes : (es : List PathEvent) → AreHeard life es → GoesOn life (after_events life es) es
  goes [] heard = record { there = λ k t. absurd cc; known = λ c k e. absurd cc; address = λ k x e. absurd cc }
  goes (x ∷ es) heard = step x es heard.0 (goes es heard.1)

-- ---- a link that is there was wanted for its address

address_is : (ls : List PathLink) (xs : List Source) (closed : Bool) (wanted : ℕ → List ℕ) (k : ℕ) → Goes ls xs closed wanted → takes k ls ≡ true → address_in k xs ≡ wanted k
address_is ls xs closed wanted k g t = by (find (is_source_of k) xs) refl
  where
    by : (o : Option Source) → find (is_source_of k) xs ≡ o → source_in o ≡ wanted k
    by None e = absurd (clash _ (g.there k t) (ap is_some e))
    by (Some x) e = g.address k x e

pub found_takes : (p : PathLink → Bool) (ls : List PathLink) (l : PathLink) → find p ls ≡ Some l → is_taking l ≡ true → takes l.link ls ≡ true
found_takes p ls l e is = any_found p (takes_one l.link) ls l e (takes_itself l is)

-- ---- the kind of a link

-- it adds no link
abbrev pub adds : DeliveryEvent → Bool
adds (on.LinkAdded link kind) = true
adds y = false

pub kind_back : (k : ℕ) (kind : RecvKind) (ys ds : List DeliveryEvent) → AllByRecursion (λ y. adds y ≡ false) ys → kind_in k (ys ++ ds) ≡ Some kind → kind_in k ds ≡ Some kind
kind_back k kind [] ds a e = e
kind_back k kind (y ∷ ys) ds a e = kind_back k kind ys ds a.1 (by y a.0 e)
  where
    by : (y : DeliveryEvent) → adds y ≡ false → kind_in k (y ∷ ys ++ ds) ≡ Some kind → kind_in k (ys ++ ds) ≡ Some kind
    by (on.LinkAdded link other) f g = absurd cc
    by (on.LinkDropped link) f g = pick (link == k) g
      where
        pick : (b : Bool) → (if b then None else kind_in k (ys ++ ds)) ≡ Some kind → kind_in k (ys ++ ds) ≡ Some kind
        pick true h = absurd cc
        pick false h = h
    by y f g = g

mild : (d : DeliveryEvent) → is_mild d ≡ true → adds d ≡ false
mild (on.LinkAdded link kind) e = absurd cc
mild d e = refl

pub unadded : (s : PathState) (x : PathEvent) → OfEvent (λ (d : DeliveryEvent). adds d ≡ false) s x → AllByRecursion (λ y. adds y ≡ false) (delivery_events s x)
unadded = event_all (λ (d : DeliveryEvent). adds d ≡ false) mild

-- ---- gets

serves : (r : Bool) (part refused given : Bool) → (r && not (part || refused)) ≡ true → (part ≡ false → given ≡ false) → (r && not given) ≡ true
serves true false false given e f = ap not (f refl)
serves true false true given e f = absurd cc
serves true true refused given e f = absurd cc
serves false part refused given e f = absurd cc

module _ (deliveries : DeliveriesAre) (shut : ClosedAre) (tied : LinksAre) (queues : QueuesAre) (life : ℕ) where
  asked : (es : List PathEvent) → AreHeard life es → (k : ℕ) → kind_in k (deliveries_of life es) ≡ Some Get → asked_for life k es ≡ Some (wanted_for life k es)
  asked [] heard k e = absurd cc
  asked (x ∷ es) heard k e = by x heard.0 e (asked es heard.1 k)
    where
      s : PathState
      s = after_events life es

      ds : List DeliveryEvent
      ds = deliveries_of life es

      m : ℕ
      m = free_number s.links.links

      Old : Type 0
      Old = kind_in k ds ≡ Some Get → asked_for life k es ≡ Some (wanted_for life k es)

      -- a link that is none for gets is wanted
      other : Old → (kind : RecvKind) (queue : List ℕ) (b : Bool) → (kind ≡ Get → ⊥) → (if b then Some kind else kind_in k ds) ≡ Some Get
          → asked_for life k es ≡ Some (if b then queue else wanted_for life k es)
      other old kind queue b unlike f = at b f
        where
          at : (b : Bool) → (if b then Some kind else kind_in k ds) ≡ Some Get → asked_for life k es ≡ Some (if b then queue else wanted_for life k es)
          at true g = absurd (unlike (let same : kind ≡ Get = cc in same))
          at false g = old g

      got : Old → (queue : List ℕ) (no_ack : Bool) → s.deliveries.closed ≡ false → (o : Option PathLink) → get_link (queue_or s.queue queue) s ≡ o → kind_in k (gets o no_ack s ++ ds) ≡ Some Get
          → (if or_new o m == k then Some (queue_or s.queue queue) else asked_for life k es) ≡ Some (if not (is_some o) && (m == k) then queue_or s.queue queue else wanted_for life k es)
      got old queue no_ack c None f g = pick (m == k) g
        where
          pick : (b : Bool) → (if b then Some Get else kind_in k ds) ≡ Some Get
              → (if b then Some (queue_or s.queue queue) else asked_for life k es) ≡ Some (if true && b then queue_or s.queue queue else wanted_for life k es)
          pick true h = refl
          pick false h = old h
      got old queue no_ack c (Some l) f g = pick (l.link == k) refl
        where
          address : List ℕ
          address = queue_or s.queue queue

          passes : is_get_link address s.deliveries s.sources l ≡ true
          passes = found_passes (is_get_link address s.deliveries s.sources) s.links.links l f

          there : takes l.link s.links.links ≡ true
          there =
              found_takes (is_get_link address s.deliveries s.sources) s.links.links l f
              (serves l.receives (is_parting l) (is_stage_refused l.stage) (is_given l) (and_left (is_serving l) _ passes) (right_false (is_to_part l) (is_given l)))

          named : address_in l.link s.sources ≡ address
          named = (bytes_eq-Decides (address_in l.link s.sources) address).0 (and_right (takes_get l.link s.deliveries.links) _ (and_right (is_serving l) _ passes))

          is : address ≡ wanted_for life l.link es
          is = sym named ∙ address_is s.links.links s.sources s.deliveries.closed (λ k. wanted_for life k es) l.link (goes deliveries shut tied queues life es heard.1) there

          pick : (b : Bool) → (l.link == k) ≡ b → (if b then Some address else asked_for life k es) ≡ Some (wanted_for life k es)
          pick true i = ap Some (is ∙ ap (λ (n : ℕ). wanted_for life n es) (equal l.link k i))
          pick false i = old g

      by : (x : PathEvent) → IsHeard s x → kind_in k (delivery_events s x ++ ds) ≡ Some Get → Old → asked_for life k (x ∷ es) ≡ Some (wanted_for life k (x ∷ es))
      by (event.Consumed queue tag no_ack no_wait) h f old = other old _ (queue_of queue es) (m == k) (λ e. cc) f
      by (event.Declared queue no_wait) h f old = other old Probe queue (m == k) (λ e. cc) f
      by (event.GetAsked queue no_ack) h f old =
          ap (λ (q : List ℕ). if or_new (get_link (queue_or q queue) s) m == k then Some (queue_or q queue) else asked_for life k es) (sym (queues life es))
          ∙ got old queue no_ack h (get_link (queue_or s.queue queue) s) refl f
          ∙ ap (λ (q : List ℕ). Some (if not (is_some (get_link (queue_or q queue) s)) && (m == k) then queue_or q queue else wanted_for life k es)) (queues life es)
      by (event.TransferCame peer part payload image again) h f old =
          old (kind_back k Get (delivery_events s (event.TransferCame peer part payload image again)) ds (unadded s (event.TransferCame peer part payload image again) (λ link d. refl)) f)
      by (event.ContentWhole tag) h f old = old f
      by event.LifeClosed h f old = old f
      by event.SessionLost h f old = old f
      by event.SessionEnded h f old = old f
      by event.UpLost h f old = old f
      by y h f old = old (kind_back k Get (delivery_events s y) ds (unadded s y tt) f)

-- ---- an attach that goes

pub record AttachGoes (w : State) (n : ℕ) (a : AttachOut) : Type 0 where
  pub due : AttachDue
  pub is : next_attach (path_at w.paths n) ≡ Some due
  pub link : a.link ≡ due.link
  pub receives : a.receives ≡ due.receives

abbrev IsAttach : State → ℕ → SessionUnit → Type 0
IsAttach w n (unit.Attach a) = AttachGoes w n a
IsAttach w n x = Unit {0}

attach_is : (w : State) → SessionUnits (IsAttach w) w
attach_is w = record {
  attach = λ n a e. record { due = a; is = e; link = refl; receives = refl };
  flow = λ n f e. tt;
  transfer = λ n f e. tt;
  dispose = λ n x e. tt;
  settle = λ n x e. tt;
  detach = λ n x e. tt;
}

-- it is of the first link that is wanted
record IsWanted (s : PathState) (due : AttachDue) : Type 0 where
  first : PathLink
  found : find is_wanted s.links.links ≡ Some first
  link : due.link ≡ first.link
  receives : due.receives ≡ first.receives

wanted_of : (s : PathState) (due : AttachDue) → next_attach s ≡ Some due → IsWanted s due
wanted_of s due e = by (find is_wanted s.links.links) _ refl e
  where
    by : (o : Option PathLink) (f : Option ℕ) → find is_wanted s.links.links ≡ o → attach_of o f ≡ Some due → IsWanted s due
    by None f i g = absurd cc
    by (Some l) None i g = absurd cc
    by (Some l) (Some h) i g =
        let same : record { link = l.link; handle = h; receives = l.receives } ≡ due = cc in
        record { first = l; found = i; link = sym (ap (λ (x : AttachDue). x.link) same); receives = sym (ap (λ (x : AttachDue). x.receives) same) }

wanted_kept : (x : Stage) → is_stage_wanted x ≡ true → not (is_stage_given x) ≡ true
wanted_kept Wanted e = refl
wanted_kept x e = absurd cc

-- ---- a get-ok that goes

served : (s : PathState) (d : DeliverDue) → next_deliver s ≡ Some d → d.get ≡ true → serves_gets d.next.link s.deliveries.links ≡ true
served s d e f = by (nat_lt s.deliveries.tags most_tags) (next_deliver_of s.deliveries.global s.deliveries.list) e
  where
    one : (next : NextDeliver) (get may : Bool) → serves_gets next.link s.deliveries.links ≡ get → deliver_if get may s.deliveries.tags next ≡ Some d
        → serves_gets d.next.link s.deliveries.links ≡ true
    one next true true i g =
        let same : record { next = next; tag = s.deliveries.tags + 1; get = true } ≡ d = cc in
        subst (λ (x : DeliverDue). serves_gets x.next.link s.deliveries.links ≡ true) same i
    one next true false i g = absurd cc
    one next false may i g =
        let same : record { next = next; tag = s.deliveries.tags + 1; get = false } ≡ d = cc in
        absurd (let wrong : false ≡ true = ap (λ (x : DeliverDue). x.get) same ∙ f in cc)

    by : (b : Bool) (o : Option NextDeliver) → (if b then deliver_in o s else None) ≡ Some d → serves_gets d.next.link s.deliveries.links ≡ true
    by false o g = absurd cc
    by true None g = absurd cc
    by true (Some next) g = one next (serves_gets next.link s.deliveries.links) (is_get_ok (first_of s.oks)) refl g

pub gets_kind : (kind : RecvKind) → is_for_gets kind ≡ true → kind ≡ Get
gets_kind (Consumer tag no_ack) e = absurd cc
gets_kind Get e = refl
gets_kind Probe e = absurd cc

kind_is : (ds : List DeliveryEvent) (k : ℕ) (o : Option ReceivingLink) → in_link (λ l. is_for_gets l.kind) o ≡ true → IfSome o (Kept ds k) → kind_in k ds ≡ Some Get
kind_is ds k None e w = absurd cc
kind_is ds k (Some l) e w = sym w.kind ∙ ap Some (gets_kind l.kind e)

module _ (deliveries : DeliveriesAre) (shut : ClosedAre) (tied : LinksAre) (queues : QueuesAre) (calls : CallsAre) (delivers : DeliversAre) (tags : TagsAre) (globals : GlobalsAre)
    (below : LivesBelow) where
  attached_to : (h : List Step) (n life : ℕ) (a : AttachOut) (text : List ℕ) → ArePicks h → is_kept (side_in h) ≡ true → path_life h n ≡ Some life → AttachGoes (before h) n a
      → text ≡ carries_of (path_at (before h).paths n) (unit.Attach a) → a.receives ≡ true → text ≡ wanted_for life a.link (path_events h n)
  attached_to h n life a text p there l d same r =
      same
      ∙ ap (λ (b : Bool). address_at (record { link = a.link; handle = a.handle; receives = b }) (path_at (before h).paths n)) r
      ∙ ap (source_of a.link) is
      ∙ ap (λ (k : ℕ). source_of k s) number
      ∙ address_is s.links.links s.sources s.deliveries.closed (λ k. wanted_for life k es) w.first.link
      (goes deliveries shut tied queues life es (are_heard (open_goes_on deliveries shut) h n life p (below h n life l) there l))
      (found_takes is_wanted s.links.links w.first w.found (and_both w.first.receives _ (sym w.receives ∙ sym d.receives ∙ r) (wanted_kept w.first.stage (found_passes is_wanted s.links.links w.first w.found))))
      ∙ ap (λ (k : ℕ). wanted_for life k es) (sym number)
    where
      es : List PathEvent
      es = path_events h n

      s : PathState
      s = after_events life es

      is : path_at (before h).paths n ≡ s
      is = path_of h n life p (below h n life l) l

      w : IsWanted s d.due
      w = wanted_of s d.due (ap next_attach (sym is) ∙ d.is)

      number : a.link ≡ w.first.link
      number = d.link ∙ w.link

  got_from : (h : List Step) (n life : ℕ) (d : DeliverDue) → ArePicks h → path_life h n ≡ Some life → next_deliver (path_at (before h).paths n) ≡ Some d → d.get ≡ true
      → asked_for life d.next.link (path_events h n) ≡ Some (wanted_for life d.next.link (path_events h n))
  got_from h n life d p l e f =
      asked deliveries shut tied queues life es heard d.next.link
      (kind_is ds d.next.link (link_of (on.after_events life ds).links d.next.link)
      (ap (λ (x : DeliveryState). serves_gets d.next.link x.links) (sym (deliveries life es)) ∙ served s d (ap next_deliver (sym (path_of h n life p (below h n life l) l)) ∙ e) f)
      (kept life ds (calls life es heard) d.next.link))
    where
      es : List PathEvent
      es = path_events h n

      s : PathState
      s = after_events life es

      ds : List DeliveryEvent
      ds = deliveries_of life es

      due : IsDelivered h n d
      due = is_delivered deliveries delivers tags globals h n d p e

      own : due.life ≡ life
      own = some_is (sym due.lives ∙ l)
        where
          some_is : {i j : ℕ} → Some i ≡ Some j → i ≡ j
          some_is e = cc

      goes_on : is_closed ds ≡ false
      goes_on =
          subst (λ (j : ℕ). is_closed (deliveries_of j es) ≡ false) own
          (waits_open (deliveries_of due.life es) d.next.number due.lawful.taken due.lawful.waiting)

      heard : AreHeard life es
      heard = open_heard deliveries shut h n life p (below h n life l) l goes_on

  may_attach : (h : List Step) (u : UpUnit) (text : List ℕ) → ArePicks h → is_kept (side_in h) ≡ true → OfSession (IsAttach (before h)) u → text ≡ carries_up (before h) u → MayAttach h u text
  may_attach h (up.OnSession n (unit.Attach a)) text p there d same = λ life l. attached_to h n life a text p there l d same
  may_attach h (up.OnSession n (unit.Flow f)) text p there d same = tt
  may_attach h (up.OnSession n (unit.Transfer t)) text p there d same = tt
  may_attach h (up.OnSession n (unit.Dispose x)) text p there d same = tt
  may_attach h (up.OnSession n (unit.Settle x)) text p there d same = tt
  may_attach h (up.OnSession n (unit.Detach link handle why)) text p there d same = tt
  may_attach h u text p there d same = tt

  may_get : (h : List Step) (u : Reply) → ArePicks h → OfChannel (IsNext (before h)) u → MayGet h u
  may_get h (reply.OnChannel n (to_client.Deliver d)) p e = λ life l. got_from h n life d p l e
  may_get h (reply.OnChannel n (to_client.Ok x)) p e = tt
  may_get h (reply.OnChannel n (to_client.Content c)) p e = tt
  may_get h (reply.OnChannel n (to_client.Confirm c)) p e = tt
  may_get h (reply.OnChannel n (to_client.Return r)) p e = tt
  may_get h u p e = tt

  pub gets_from_queues : (h : List Step) → ArePicks h → GetsFromItsQueue h
  gets_from_queues [] p = tt
  gets_from_queues (Gave (ToUp u) text ∷ h) p =
      (may_attach h u text p.1 (is_there h u p.1 p.0.1) (goes_up_as (IsAttach (before h)) (before h) u (attach_is (before h)) p.0.1) p.0.2, gets_from_queues h p.1)
  gets_from_queues (Gave (ToClient u) text ∷ h) p = (may_get h u p.1 (goes_as (IsNext (before h)) (before h) u is_next p.0.1), gets_from_queues h p.1)
  gets_from_queues (s ∷ h) p = gets_from_queues h p.1
