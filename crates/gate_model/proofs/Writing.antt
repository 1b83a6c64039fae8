-- The frames of a content that go are those of the delivery whose deliver went last: the steps say what the state's writing says.
use Rattle.std.proofs.Common.{◌≡◌, ℕ, zero, suc, ◌+◌, ◌==◌, ◌<◌, ◌≤◌, nat_lt, not, ◌&&◌, ◌||◌, Bool, true, false, if◌then◌else◌, List, [], ◌∷◌, ◌++◌}
use Rattle.std.proofs.Common.{length, Option, None, Some, refl, sym, ap, ◌∙◌, subst, arith, is_some}
use Rattle.std.proofs.lemmas.Bool.Decides.{nat_tests}
use Rattle.std.specs.List.{AllByRecursion}
use Rattle.std.specs.Prelude.{slice_get}
use Rattle.consume_path.specs.Deliveries as on
use Rattle.consume_path.specs.Deliveries.{DeliveryEvent, DeliveryState, open_after}
use Rattle.consume_path.specs.Journal.{Fate, IsTaken, fate_of, is_closed, is_pending, tags_of, waits}
use Rattle.consume_path.specs.Laws.{needs_content}
use Rattle.consume_path.specs.Offers.{content_of as content_by_id}
use Rattle.gate_outside.specs.declared.ports.End.TheVariants.{Client}
use Rattle.machine_091.specs.declared.limits.TheConstants.{CHANNEL_MAX}
use Rattle.session_path.specs.Due.{content_due, content_frame, content_on, frame_on, next_content, next_deliver}
use Rattle.session_path.specs.Events as event
use Rattle.session_path.specs.Events.{PathEvent, after_event, after_events, deliveries_of, delivery_events}
use Rattle.session_path.specs.Path.{PathState, frames_in, frames_of, opened, written_on}
use Rattle.session_path.specs.declared.path.ContentDue.{ContentDue}
use Rattle.session_path.specs.declared.path.DeliverDue.{DeliverDue}
use Rattle.session_path.specs.declared.path.Writing.{Writing}
use Rattle.gate_model.specs.Contents.{Begun, MayGoBehind, MayWrite, Writes, begun_at, begun_in, frames_by, one_more}
use Rattle.gate_model.specs.Due.{carries_back, or_no_bytes}
use Rattle.gate_model.specs.Folds.{going_in, peers}
use Rattle.gate_model.specs.Paths.{or_no_path, path_at, slot_at}
use Rattle.gate_model.specs.Picks.{ArePicks}
use Rattle.gate_model.specs.Publishing.{opens_channel, path_events, path_life, step_events, wrote_events}
use Rattle.gate_model.specs.State.{Gave, Step, Whole, before}
use Rattle.gate_model.specs.declared.channel.ChannelUnit.{ChannelUnit}
use Rattle.gate_model.specs.declared.channel.ChannelUnit.TheVariants as to_client
use Rattle.gate_model.specs.declared.outgoing.Outgoing.TheVariants.{ToClient}
use Rattle.gate_model.specs.declared.reply.Reply.{Reply}
use Rattle.gate_model.specs.declared.reply.Reply.TheVariants as reply
use Rattle.gate_model.proofs.Basics.{right_false}
use Rattle.gate_model.proofs.Calm.{AreOther, Calm, IsCalm, Shuts, Stays, Still, each_calm, none_written, other_closed, stays_all, taken_more}
use Rattle.gate_model.proofs.Calm.{told_calm, unfinished_all, waits_open}
use Rattle.gate_model.proofs.Connections.{clash}
use Rattle.gate_model.proofs.Delivers.{ContentsAre, DeliversAre, FreshAre, GlobalsAre, IsDelivered, TagsAre, is_delivered}
use Rattle.gate_model.proofs.Fates.{IsLived, IsNext, is_next, lived, path_of}
use Rattle.gate_model.proofs.Firsts.{OfChannel, goes_as}
use Rattle.gate_model.proofs.Quiet.{is_apart, step_all}
use Rattle.gate_model.proofs.Reports.{DeliveriesAre}

-- what is due of it
abbrev pub content_by : Option Begun → List DeliveryEvent → Option ContentDue
content_by None ds = None
content_by (Some b) ds =
    if nat_lt b.gone (length (frames_by b.due.next.number ds))
    then Some (record { tag = b.due.tag; last = b.gone + 1 == length (frames_by b.due.next.number ds) }) else None

-- ---- what is written

-- frames are still to go, or none went yet
abbrev left_by : Begun → List DeliveryEvent → Bool
left_by b ds = b.gone == 0 || nat_lt b.gone (length (frames_by b.due.next.number ds))

abbrev is_left : Option Begun → List DeliveryEvent → Bool
is_left None ds = false
is_left (Some b) ds = left_by b ds

abbrev writing_by : Begun → Bool → Option Writing
writing_by b true = Some (record { id = b.due.next.id; tag = b.due.tag; gone = b.gone })
writing_by b false = None

-- the delivery whose deliver went last has its tag and its id, and isn't complete while it is written
record WritesOne (s : PathState) (ds : List DeliveryEvent) (b : Begun) : Type 0 where
  taken : IsTaken ds b.due.next.number
  tag : (fate_of b.due.next.number ds).tag ≡ Some b.due.tag
  id : (fate_of b.due.next.number ds).id ≡ b.due.next.id
  writing : s.writing ≡ writing_by b (left_by b ds)
  unfinished : left_by b ds ≡ true → (fate_of b.due.next.number ds).complete ≡ false

abbrev WritesBy : PathState → List DeliveryEvent → Option Begun → Type 0
WritesBy s ds None = s.writing ≡ None
WritesBy s ds (Some b) = WritesOne s ds b

-- behind the last frame of a content, while its bytes are taken, none is to go
abbrev IsLast : ℕ → Option Reply → Bool → Type 0
IsLast n going left = (c : ContentDue) → going ≡ Some (reply.OnChannel n (to_client.Content c)) → c.last ≡ true → left ≡ false

record Wrote (n : ℕ) (going : Option Reply) (b : Option Begun) (s : PathState) (ds : List DeliveryEvent) : Type 0 where
  closed : is_closed ds ≡ true → s.writing ≡ None
  goes_on : is_closed ds ≡ false → WritesBy s ds b
  last : is_closed ds ≡ false → IsLast n going (is_left b ds)

abbrev WroteIn : ℕ → List Step → Type 0
WroteIn n h = (life : ℕ) → path_life h n ≡ Some life
    → Wrote n (going_in h) (begun_in n h) (after_events life (path_events h n)) (deliveries_of life (path_events h n))

-- ---- an event that gives nothing

frames_stay : {f g : Fate} → Stays f g → frames_in g.content ≡ frames_in f.content
frames_stay s = ap frames_in s.content

left_stays : (b : Begun) (ys ds : List DeliveryEvent) → IsTaken ds b.due.next.number → left_by b (ys ++ ds) ≡ left_by b ds
left_stays b ys ds t = ap (λ (fs : List (List ℕ)). b.gone == 0 || nat_lt b.gone (length fs)) (frames_stay (stays_all ys ds b.due.next.number t))

one_stays : (s t : PathState) (ys ds : List DeliveryEvent) (b : Begun) → t.writing ≡ s.writing → AreOther ys → WritesOne s ds b → WritesOne t (ys ++ ds) b
one_stays s t ys ds b e p w =
    let same = stays_all ys ds b.due.next.number w.taken in
    let left = left_stays b ys ds w.taken in
    record {
      taken = taken_more ys ds b.due.next.number w.taken;
      tag = same.tag b.due.tag w.tag;
      id = same.id ∙ w.id;
      writing = e ∙ w.writing ∙ ap (writing_by b) (sym left);
      unfinished = λ f. unfinished_all ys ds b.due.next.number w.taken p ∙ w.unfinished (sym left ∙ f);
    }

by_stays : (s t : PathState) (ys ds : List DeliveryEvent) (b : Option Begun) → t.writing ≡ s.writing → AreOther ys → WritesBy s ds b → WritesBy t (ys ++ ds) b
by_stays s t ys ds None e p w = e ∙ w
by_stays s t ys ds (Some b) e p w = one_stays s t ys ds b e p w

is_left_stays : (s : PathState) (ys ds : List DeliveryEvent) (b : Option Begun) → WritesBy s ds b → is_left b (ys ++ ds) ≡ is_left b ds
is_left_stays s ys ds None w = refl
is_left_stays s ys ds (Some b) w = left_stays b ys ds w.taken

still : (n : ℕ) (going : Option Reply) (b : Option Begun) (s t : PathState) (ys ds : List DeliveryEvent) → t.writing ≡ s.writing → AreOther ys
    → Wrote n going b s ds → Wrote n going b t (ys ++ ds)
still n going b s t ys ds e p w =
    let same : is_closed (ys ++ ds) ≡ is_closed ds = other_closed ys ds p in
    record {
      closed = λ f. e ∙ w.closed (sym same ∙ f);
      goes_on = λ f. by_stays s t ys ds b e p (w.goes_on (sym same ∙ f));
      last = λ f c g l. is_left_stays s ys ds b (w.goes_on (sym same ∙ f)) ∙ w.last (sym same ∙ f) c g l;
    }

calm : (n : ℕ) (going : Option Reply) (b : Option Begun) (life : ℕ) (es : List PathEvent) (x : PathEvent) → Calm (after_events life es) x
    → Wrote n going b (after_events life es) (deliveries_of life es) → Wrote n going b (after_events life (x ∷ es)) (deliveries_of life (x ∷ es))
calm n going b life es x (Still e p) w = still n going b (after_events life es) (after_event x (after_events life es)) (delivery_events (after_events life es) x) (deliveries_of life es) e p w
calm n going b life es x (Shuts e c) w = record { closed = λ f. e; goes_on = λ f. absurd (clash _ (c (deliveries_of life es)) f); last = λ f. absurd (clash _ (c (deliveries_of life es)) f) }

calm_all : (n : ℕ) (going : Option Reply) (b : Option Begun) (life : ℕ) (es xs : List PathEvent) → AllByRecursion IsCalm xs
    → Wrote n going b (after_events life es) (deliveries_of life es) → Wrote n going b (after_events life (xs ++ es)) (deliveries_of life (xs ++ es))
calm_all n going b life es [] p w = w
calm_all n going b life es (x ∷ xs) p w = calm n going b life (xs ++ es) x (p.0 (after_events life (xs ++ es))) (calm_all n going b life es xs p.1 w)

-- another unit goes, or none does
goes_else : (n : ℕ) (old new : Option Reply) (b : Option Begun) (s : PathState) (ds : List DeliveryEvent)
    → ((c : ContentDue) → new ≡ Some (reply.OnChannel n (to_client.Content c)) → ⊥) → Wrote n old b s ds → Wrote n new b s ds
goes_else n old new b s ds not w = record { closed = w.closed; goes_on = w.goes_on; last = λ f c g l. absurd (not c g) }

-- ---- a deliver goes

begins_one : (n k : ℕ) (s : PathState) (ds : List DeliveryEvent) (d : DeliverDue) → IsTaken ds d.next.number → waits (fate_of d.next.number ds) ≡ true
    → (fate_of d.next.number ds).id ≡ d.next.id → d.tag ≡ tags_of ds + 1
    → Wrote n (Some (reply.OnChannel k (to_client.Deliver d))) (Some (record { due = d; gone = 0 })) (after_event (event.DeliverSent d) s) (on.Delivered d.next.number ∷ ds)
begins_one n k s ds d t w id tag = record {
  closed = λ f. absurd (clash _ f (waits_open ds d.next.number t w));
  goes_on = λ f. record {
    taken = taken_more (on.Delivered d.next.number ∷ []) ds d.next.number t;
    tag = tagged (d.next.number == d.next.number) same (waits (fate_of d.next.number ds)) w;
    id = id;
    writing = refl;
    unfinished = λ g. none_written ds d.next.number (untagged (is_pending (fate_of d.next.number ds)) (fate_of d.next.number ds).tag w);
  };
  last = λ f c g l. absurd cc;
}
  where
    same : (d.next.number == d.next.number) ≡ true
    same = grind (arith, nat_tests)

    tagged : (a : Bool) → a ≡ true → (b : Bool) → b ≡ true → (if a && b then Some (tags_of ds + 1) else (fate_of d.next.number ds).tag) ≡ Some d.tag
    tagged true e true f = ap Some (sym tag)
    tagged true e false f = absurd cc
    tagged false e b f = absurd cc

    untagged : (p : Bool) (o : Option ℕ) → (p && not (is_some o)) ≡ true → o ≡ None
    untagged p None e = refl
    untagged p (Some x) e = absurd (none p e)
      where
        none : (q : Bool) → (q && false) ≡ true → ⊥
        none true f = cc
        none false f = cc

-- ---- a frame goes

-- what the content that is written is found to be
abbrev FoundIn : PathState → List DeliveryEvent → Begun → Type 0
FoundIn s ds b = left_by b ds ≡ true → frames_of b.due.next.id s ≡ frames_by b.due.next.number ds

written_by : (s : PathState) (ds : List DeliveryEvent) (b : Begun) → FoundIn s ds b → s.writing ≡ writing_by b (left_by b ds)
    → written_on s.writing s ≡ writing_by (record b { gone = b.gone + 1 }) (left_by b ds && nat_lt (b.gone + 1) (length (frames_by b.due.next.number ds)))
written_by s ds b found e = by (left_by b ds) found e
  where
    next : (k : Bool) → (if k then Some (record { id = b.due.next.id; tag = b.due.tag; gone = b.gone + 1 }) else None)
        ≡ writing_by (record b { gone = b.gone + 1 }) k
    next true = refl
    next false = refl

    by : (l : Bool) → (l ≡ true → frames_of b.due.next.id s ≡ frames_by b.due.next.number ds) → s.writing ≡ writing_by b l
        → written_on s.writing s ≡ writing_by (record b { gone = b.gone + 1 }) (l && nat_lt (b.gone + 1) (length (frames_by b.due.next.number ds)))
    by true same f =
        ap (λ (o : Option Writing). written_on o s) f
        ∙ ap (λ (fs : List (List ℕ)). if nat_lt (b.gone + 1) (length fs) then Some (record { id = b.due.next.id; tag = b.due.tag; gone = b.gone + 1 }) else None) (same refl)
        ∙ next (nat_lt (b.gone + 1) (length (frames_by b.due.next.number ds)))
    by false same f = ap (λ (o : Option Writing). written_on o s) f

-- a further one is to go only where this one was
left_less : (gone count : ℕ) → (gone == 0 || nat_lt gone count) ≡ true
    → ((gone == 0 || nat_lt gone count) && nat_lt (gone + 1) count) ≡ (gone + 1 == 0 || nat_lt (gone + 1) count)
left_less gone count e = ap (λ (b : Bool). b && nat_lt (gone + 1) count) e ∙ sym (ap (λ (b : Bool). b || nat_lt (gone + 1) count) none)
  where
    none : (gone + 1 == 0) ≡ false
    none = grind (arith, nat_tests)

-- which one goes next
record WritesNext (s : PathState) (ds : List DeliveryEvent) (b : Begun) (c : ContentDue) : Type 0 where
  tag : c.tag ≡ b.due.tag
  last : c.last ≡ (b.gone + 1 == length (frames_by b.due.next.number ds))
  less : nat_lt b.gone (length (frames_by b.due.next.number ds)) ≡ true
  left : left_by b ds ≡ true
  frame : content_frame s ≡ slice_get (frames_by b.due.next.number ds) b.gone

writes_next : (s : PathState) (ds : List DeliveryEvent) (b : Begun) (c : ContentDue) → FoundIn s ds b → s.writing ≡ writing_by b (left_by b ds)
    → next_content s ≡ Some c
    → WritesNext s ds b c
writes_next s ds b c found e next = by (left_by b ds) refl (found) e
  where
    all : List (List ℕ)
    all = frames_by b.due.next.number ds

    w : Writing
    w = record { id = b.due.next.id; tag = b.due.tag; gone = b.gone }

    due : (fs : List (List ℕ)) (k : Bool) → nat_lt b.gone (length fs) ≡ k
        → (if k then Some (record { tag = b.due.tag; last = b.gone + 1 == length fs }) else None) ≡ Some c
        → left_by b ds ≡ true → fs ≡ all → content_frame s ≡ slice_get fs b.gone → WritesNext s ds b c
    due fs true less g left same frame =
        let is : record { tag = b.due.tag; last = b.gone + 1 == length fs } ≡ c = cc in
        record {
          tag = sym (ap (λ (x : ContentDue). x.tag) is);
          last = sym (ap (λ (x : ContentDue). x.last) is) ∙ ap (λ (xs : List (List ℕ)). b.gone + 1 == length xs) same;
          less = ap (λ (xs : List (List ℕ)). nat_lt b.gone (length xs)) (sym same) ∙ less;
          left = left;
          frame = frame ∙ ap (λ (xs : List (List ℕ)). slice_get xs b.gone) same;
        }
    due fs false less g left same frame = absurd cc

    by : (l : Bool) → left_by b ds ≡ l → (left_by b ds ≡ true → frames_of b.due.next.id s ≡ all) → s.writing ≡ writing_by b l → WritesNext s ds b c
    by true left same f =
        due (frames_of b.due.next.id s) (nat_lt b.gone (length (frames_of b.due.next.id s))) refl
        (ap (λ (o : Option Writing). content_on o s) (sym f) ∙ next) left (same left) (ap (λ (o : Option Writing). frame_on o s) f)
    by false left same f = absurd (none (ap (λ (o : Option Writing). content_on o s) (sym f) ∙ next))
      where
        none : None ≡ Some c → ⊥
        none g = cc

content_goes : (n k : ℕ) (s : PathState) (ds : List DeliveryEvent) (b : Begun) (c : ContentDue) → WritesOne s ds b → FoundIn s ds b → WritesNext s ds b c
    → is_closed ds ≡ false
    → Wrote n (Some (reply.OnChannel k (to_client.Content c))) (Some (record b { gone = b.gone + 1 })) (after_event event.ContentSent s) ds
content_goes n k s ds b c w found x goes_on = record {
  closed = λ f. absurd (clash _ f goes_on);
  goes_on = λ f. record {
    taken = w.taken;
    tag = w.tag;
    id = w.id;
    writing = written_by s ds b found w.writing
        ∙ ap (writing_by (record b { gone = b.gone + 1 })) (left_less b.gone (length (frames_by b.due.next.number ds)) x.left);
    unfinished = λ g. w.unfinished x.left;
  };
  last = λ f d g l. none_left (length (frames_by b.due.next.number ds)) (sym x.last ∙ ap (λ (y : ContentDue). y.last) (same d g) ∙ l);
}
  where
    same : (d : ContentDue) → Some (reply.OnChannel k (to_client.Content c)) ≡ Some (reply.OnChannel n (to_client.Content d)) → c ≡ d
    same d g = cc

    none_left : (count : ℕ) → (b.gone + 1 == count) ≡ true → (b.gone + 1 == 0 || nat_lt (b.gone + 1) count) ≡ false
    none_left count e =
        let all : b.gone + 1 ≡ count = grind (arith, nat_tests, e) in
        let some : (b.gone + 1 == 0) ≡ false = grind (arith, nat_tests) in
        let most : nat_lt (b.gone + 1) count ≡ false = grind (arith, nat_tests, all) in
        ap (λ (x : Bool). x || nat_lt (b.gone + 1) count) some ∙ most

-- ---- its last byte was taken

whole_goes : (n : ℕ) (going : Option Reply) (b : Option Begun) (s : PathState) (ds : List DeliveryEvent) (tag : ℕ) → (is_closed ds ≡ false → is_left b ds ≡ false)
    → Wrote n going b s ds → Wrote n None b (after_event (event.ContentWhole tag) s) (on.Written tag ∷ ds)
whole_goes n going b s ds tag none w = record { closed = w.closed; goes_on = λ f. by b (w.goes_on f) (none f); last = λ f c g l. absurd cc }
  where
    by : (o : Option Begun) → WritesBy s ds o → is_left o ds ≡ false → WritesBy (after_event (event.ContentWhole tag) s) (on.Written tag ∷ ds) o
    by None x e = x
    by (Some d) x e =
        let stays = stays_all (on.Written tag ∷ []) ds d.due.next.number x.taken in
        let left = left_stays d (on.Written tag ∷ []) ds x.taken in
        record {
          taken = taken_more (on.Written tag ∷ []) ds d.due.next.number x.taken;
          tag = stays.tag d.due.tag x.tag;
          id = stays.id ∙ x.id;
          writing = x.writing ∙ ap (writing_by d) (sym left);
          unfinished = λ f. absurd (clash _ f (left ∙ e));
        }

-- ---- all steps

begun_same : (n : ℕ) (s : Step) (old : Option Begun) → is_apart s ≡ false → begun_at n s old ≡ old
begun_same n (Gave (ToClient u) text) old e = absurd cc
begun_same n s old e = refl

going_same : (h : List Step) (s : Step) → is_apart s ≡ false → going_in (s ∷ h) ≡ going_in h
going_same h (Gave (ToClient u) text) e = absurd cc
going_same h (Whole Client) e = absurd cc
going_same h s e = refl

new_life : (n life : ℕ) (going : Option Reply) → Wrote n going None (opened life) []
new_life n life going = record { closed = λ e. absurd cc; goes_on = λ e. refl; last = λ e c g l. refl }

quiet : (n : ℕ) (h : List Step) (s : Step) → is_apart s ≡ false → WroteIn n h → WroteIn n (s ∷ h)
quiet n h s e w life l = by (opens_channel n h s) l
  where
    es : List PathEvent
    es = path_events h n

    xs : List PathEvent
    xs = step_events n h s

    by : (b : Bool) → (if b then Some ((peers h).opened + 1) else path_life h n) ≡ Some life
        → Wrote n (going_in (s ∷ h)) (if b then None else begun_at n s (begun_in n h)) (after_events life (if b then [] else xs ++ es)) (deliveries_of life (if b then [] else xs ++ es))
    by true f = new_life n life (going_in (s ∷ h))
    by false f =
        subst (λ (g : Option Reply). Wrote n g (begun_at n s (begun_in n h)) (after_events life (xs ++ es)) (deliveries_of life (xs ++ es))) (sym (going_same h s e))
        (subst (λ (b : Option Begun). Wrote n (going_in h) b (after_events life (xs ++ es)) (deliveries_of life (xs ++ es))) (sym (begun_same n s (begun_in n h) e))
        (calm_all n (going_in h) (begun_in n h) life es xs (step_all IsCalm each_calm n h s e) (w life f)))

lives_same : {o : Option ℕ} {a b : ℕ} → o ≡ Some a → o ≡ Some b → a ≡ b
lives_same {o} {a} {b} e f = by (sym e ∙ f)
  where
    by : Some a ≡ Some b → a ≡ b
    by g = cc

-- a unit to the client but a deliver and a frame of a content
plainly : (n k : ℕ) (u : ChannelUnit) (b : Option Begun) (life : ℕ) (es : List PathEvent) (x : PathEvent) (going : Option Reply)
    → ((c : ContentDue) → Some (reply.OnChannel k u) ≡ Some (reply.OnChannel n (to_client.Content c)) → ⊥) → Calm (after_events life es) x
    → Wrote n going b (after_events life es) (deliveries_of life es) → (same : Bool)
    → Wrote n (Some (reply.OnChannel k u)) b (after_events life ((if same then x ∷ [] else []) ++ es)) (deliveries_of life ((if same then x ∷ [] else []) ++ es))
plainly n k u b life es x going not is w true = calm n _ b life es x is (goes_else n going _ b _ _ not w)
plainly n k u b life es x going not is w false = goes_else n going _ b _ _ not w

module _ (arrives : DeliveriesAre) (delivers : DeliversAre) (tags : TagsAre) (globals : GlobalsAre) (contents : ContentsAre) (fresh : FreshAre) where
  -- what is found by the delivery-id is the delivery's
  found_in : (h : List Step) (n life : ℕ) (b : Begun) → ArePicks h → n ≤ CHANNEL_MAX → path_life h n ≡ Some life
      → is_closed (deliveries_of life (path_events h n)) ≡ false
      → WritesOne (after_events life (path_events h n)) (deliveries_of life (path_events h n)) b
      → FoundIn (after_events life (path_events h n)) (deliveries_of life (path_events h n)) b
  found_in h n life b p below l goes_on w left =
      ap (λ (d : DeliveryState). frames_in (content_by_id b.due.next.id d.list)) (arrives life (path_events h n))
      ∙ ap (λ (id : ℕ). frames_in (content_by_id id (open_after life ds))) (sym w.id)
      ∙ ap frames_in (contents life b.due.next.number ds (fresh h n life p below l goes_on) w.taken needs)
    where
      ds : List DeliveryEvent
      ds = deliveries_of life (path_events h n)

      needs : needs_content (fate_of b.due.next.number ds) ≡ true
      needs = by (waits (fate_of b.due.next.number ds)) (fate_of b.due.next.number ds).tag (fate_of b.due.next.number ds).complete w.tag (w.unfinished left)
        where
          by : (a : Bool) (o : Option ℕ) (c : Bool) → o ≡ Some b.due.tag → c ≡ false → (a || (is_some o && not c)) ≡ true
          by true o c e f = refl
          by false None c e f = absurd cc
          by false (Some t) true e f = absurd cc
          by false (Some t) false e f = refl

  -- the path of a channel on which a content is written
  record Writer (h : List Step) (n : ℕ) (c : ContentDue) : Type 0 where
    life : ℕ
    lives : path_life h n ≡ Some life
    below : n ≤ CHANNEL_MAX
    path : path_at (before h).paths n ≡ after_events life (path_events h n)
    goes_on : is_closed (deliveries_of life (path_events h n)) ≡ false
    begun : Begun
    is : begun_in n h ≡ Some begun
    one : WritesOne (after_events life (path_events h n)) (deliveries_of life (path_events h n)) begun
    next : WritesNext (after_events life (path_events h n)) (deliveries_of life (path_events h n)) begun c

  writer : (h : List Step) (n : ℕ) (c : ContentDue) → ArePicks h → WroteIn n h → next_content (path_at (before h).paths n) ≡ Some c → Writer h n c
  writer h n c p w e = by (slot_at (before h).paths n) refl e
    where
      none : (s : PathState) → s.writing ≡ None → next_content s ≡ Some c → ⊥
      none s f g = by_none (ap (λ (o : Option Writing). content_on o s) (sym f) ∙ g)
        where
          by_none : None ≡ Some c → ⊥
          by_none h = cc

      at : (s : PathState) → slot_at (before h).paths n ≡ Some s → (l : IsLived h n s) → next_content s ≡ Some c → Writer h n c
      at s g l f = open_by (is_closed ds) refl
        where
          es : List PathEvent
          es = path_events h n

          ds : List DeliveryEvent
          ds = deliveries_of l.life es

          now : next_content (after_events l.life es) ≡ Some c
          now = ap next_content (sym l.is) ∙ f

          begun_by_steps : is_closed ds ≡ false → (o : Option Begun) → begun_in n h ≡ o → WritesBy (after_events l.life es) ds o → Writer h n c
          begun_by_steps goes_on None same x = absurd (none (after_events l.life es) x now)
          begun_by_steps goes_on (Some b) same x =
              let found = found_in h n l.life b p l.below l.lives goes_on x in
              record {
                life = l.life;
                lives = l.lives;
                below = l.below;
                path = ap or_no_path g ∙ l.is;
                goes_on = goes_on;
                begun = b;
                is = same;
                one = x;
                next = writes_next (after_events l.life es) ds b c found x.writing now;
              }

          open_by : (k : Bool) → is_closed ds ≡ k → Writer h n c
          open_by true k = absurd (none (after_events l.life es) ((w l.life l.lives).closed k) now)
          open_by false k = begun_by_steps k (begun_in n h) refl ((w l.life l.lives).goes_on k)

      by : (o : Option PathState) → slot_at (before h).paths n ≡ o → next_content (or_no_path o) ≡ Some c → Writer h n c
      by None g f = absurd cc
      by (Some s) g f = at s g (lived h n s p g) f

  delivered : (h : List Step) (n k : ℕ) (d : DeliverDue) (life : ℕ) → ArePicks h → k ≡ n → next_deliver (path_at (before h).paths k) ≡ Some d
      → path_life h n ≡ Some life
      → Wrote n (Some (reply.OnChannel k (to_client.Deliver d))) (Some (record { due = d; gone = 0 })) (after_events life (event.DeliverSent d ∷ path_events h n))
      (deliveries_of life (event.DeliverSent d ∷ path_events h n))
  delivered h n k d life p same e l =
      let is = is_delivered arrives delivers tags globals h n d p (ap (λ (i : ℕ). next_deliver (path_at (before h).paths i)) (sym same) ∙ e) in
      begins k life is (lives_same is.lives l)
    where
      begins : (j i : ℕ) → (is : IsDelivered h n d) → is.life ≡ i
          → Wrote n (Some (reply.OnChannel j (to_client.Deliver d))) (Some (record { due = d; gone = 0 })) (after_events i (event.DeliverSent d ∷ path_events h n))
          (deliveries_of i (event.DeliverSent d ∷ path_events h n))
      begins j i is f =
          subst (λ (x : ℕ). Wrote n (Some (reply.OnChannel j (to_client.Deliver d))) (Some (record { due = d; gone = 0 })) (after_events x (event.DeliverSent d ∷ path_events h n))
          (deliveries_of x (event.DeliverSent d ∷ path_events h n))) f
          (begins_one n j (after_events is.life (path_events h n)) (deliveries_of is.life (path_events h n)) d is.lawful.taken is.lawful.waiting is.lawful.id is.tag)

  written : (h : List Step) (n k : ℕ) (c : ContentDue) (life : ℕ) → ArePicks h → WroteIn n h → k ≡ n → next_content (path_at (before h).paths k) ≡ Some c
      → path_life h n ≡ Some life
      → Wrote n (Some (reply.OnChannel k (to_client.Content c))) (one_more (begun_in n h)) (after_events life (event.ContentSent ∷ path_events h n))
      (deliveries_of life (event.ContentSent ∷ path_events h n))
  written h n k c life p w same e l = by (writer h n c p w (ap (λ (i : ℕ). next_content (path_at (before h).paths i)) (sym same) ∙ e))
    where
      by : Writer h n c → Wrote n (Some (reply.OnChannel k (to_client.Content c))) (one_more (begun_in n h)) (after_events life (event.ContentSent ∷ path_events h n))
          (deliveries_of life (event.ContentSent ∷ path_events h n))
      by x =
          subst (λ (i : ℕ). Wrote n (Some (reply.OnChannel k (to_client.Content c))) (one_more (begun_in n h)) (after_events i (event.ContentSent ∷ path_events h n))
          (deliveries_of i (event.ContentSent ∷ path_events h n))) (lives_same x.lives l)
          (subst (λ (o : Option Begun). Wrote n (Some (reply.OnChannel k (to_client.Content c))) (one_more o) (after_events x.life (event.ContentSent ∷ path_events h n))
          (deliveries_of x.life (path_events h n))) (sym x.is)
          (content_goes n k (after_events x.life (path_events h n)) (deliveries_of x.life (path_events h n)) x.begun c x.one
          (found_in h n x.life x.begun p x.below x.lives x.goes_on x.one) x.next x.goes_on))

  gave : (n : ℕ) (h : List Step) (u : Reply) (text : List ℕ) → ArePicks h → OfChannel (IsNext (before h)) u → WroteIn n h → WroteIn n (Gave (ToClient u) text ∷ h)
  gave n h (reply.OnChannel k (to_client.Ok x)) text p e w life l =
      plainly n k _ (begun_in n h) life (path_events h n) (event.OkSent x) (going_in h) (λ c f. cc) (told_calm x _) (w life l) (k == n)
  gave n h (reply.OnChannel k (to_client.Confirm x)) text p e w life l =
      plainly n k _ (begun_in n h) life (path_events h n) (event.ConfirmWent x) (going_in h) (λ c f. cc) (Still refl tt) (w life l) (k == n)
  gave n h (reply.OnChannel k (to_client.Return r)) text p e w life l =
      plainly n k _ (begun_in n h) life (path_events h n) (event.ReturnWent r.publish) (going_in h) (λ c f. cc) (Still refl tt) (w life l) (k == n)
  gave n h (reply.OnChannel k (to_client.Deliver d)) text p e w life l = by (k == n) refl
    where
      by : (b : Bool) → (k == n) ≡ b → Wrote n (Some (reply.OnChannel k (to_client.Deliver d))) (if b then Some (record { due = d; gone = 0 }) else begun_in n h)
          (after_events life ((if b then event.DeliverSent d ∷ [] else []) ++ path_events h n)) (deliveries_of life ((if b then event.DeliverSent d ∷ [] else []) ++ path_events h n))
      by true f = delivered h n k d life p (grind (arith, nat_tests, f)) e l
      by false f = goes_else n (going_in h) _ (begun_in n h) _ _ (λ c g. cc) (w life l)
  gave n h (reply.OnChannel k (to_client.Content c)) text p e w life l = by (k == n) refl
    where
      other : (k == n) ≡ false → (d : ContentDue) → Some (reply.OnChannel k (to_client.Content c)) ≡ Some (reply.OnChannel n (to_client.Content d)) → ⊥
      other f d g = let same : k ≡ n = cc in let is : (k == n) ≡ true = grind (arith, nat_tests, same) in clash _ is f

      by : (b : Bool) → (k == n) ≡ b → Wrote n (Some (reply.OnChannel k (to_client.Content c))) (if b then one_more (begun_in n h) else begun_in n h)
          (after_events life ((if b then event.ContentSent ∷ [] else []) ++ path_events h n)) (deliveries_of life ((if b then event.ContentSent ∷ [] else []) ++ path_events h n))
      by true f = written h n k c life p w (grind (arith, nat_tests, f)) e l
      by false f = goes_else n (going_in h) _ (begun_in n h) _ _ (other f) (w life l)
  gave n h u text p e w life l = goes_else n (going_in h) _ (begun_in n h) _ _ (λ c g. cc) (w life l)

  whole : (n : ℕ) (h : List Step) → WroteIn n h → WroteIn n (Whole Client ∷ h)
  whole n h w life l = by (going_in h) (w life l)
    where
      es : List PathEvent
      es = path_events h n

      behind : (o : Option Reply) → Wrote n o (begun_in n h) (after_events life es) (deliveries_of life es)
          → Wrote n None (begun_in n h) (after_events life es) (deliveries_of life es)
      behind o x = goes_else n o None (begun_in n h) _ _ (λ c g. cc) x

      last : (k : ℕ) (c : ContentDue) (b l : Bool) → (k == n) ≡ b → c.last ≡ l
          → Wrote n (Some (reply.OnChannel k (to_client.Content c))) (begun_in n h) (after_events life es) (deliveries_of life es)
          → Wrote n None (begun_in n h) (after_events life ((if b then (if l then event.ContentWhole c.tag ∷ [] else []) else []) ++ es))
          (deliveries_of life ((if b then (if l then event.ContentWhole c.tag ∷ [] else []) else []) ++ es))
      last k c true true e f x =
          let same : k ≡ n = grind (arith, nat_tests, e) in
          whole_goes n _ (begun_in n h) (after_events life es) (deliveries_of life es) c.tag
          (λ g. x.last g c (ap (λ (i : ℕ). Some (reply.OnChannel i (to_client.Content c))) same) f) x
      last k c true false e f x = behind _ x
      last k c false l e f x = behind _ x

      unit : (k : ℕ) (u : ChannelUnit) → Wrote n (Some (reply.OnChannel k u)) (begun_in n h) (after_events life es) (deliveries_of life es)
          → Wrote n None (begun_in n h) (after_events life (wrote_events n (Some (reply.OnChannel k u)) ++ es)) (deliveries_of life (wrote_events n (Some (reply.OnChannel k u)) ++ es))
      unit k (to_client.Content c) x = last k c (k == n) c.last refl refl x
      unit k (to_client.Ok y) x = nothing (k == n)
        where
          nothing : (b : Bool) → Wrote n None (begun_in n h) (after_events life ((if b then [] else []) ++ es)) (deliveries_of life ((if b then [] else []) ++ es))
          nothing true = behind _ x
          nothing false = behind _ x
      unit k (to_client.Deliver d) x = nothing (k == n)
        where
          nothing : (b : Bool) → Wrote n None (begun_in n h) (after_events life ((if b then [] else []) ++ es)) (deliveries_of life ((if b then [] else []) ++ es))
          nothing true = behind _ x
          nothing false = behind _ x
      unit k (to_client.Confirm y) x = nothing (k == n)
        where
          nothing : (b : Bool) → Wrote n None (begun_in n h) (after_events life ((if b then [] else []) ++ es)) (deliveries_of life ((if b then [] else []) ++ es))
          nothing true = behind _ x
          nothing false = behind _ x
      unit k (to_client.Return y) x = nothing (k == n)
        where
          nothing : (b : Bool) → Wrote n None (begun_in n h) (after_events life ((if b then [] else []) ++ es)) (deliveries_of life ((if b then [] else []) ++ es))
          nothing true = behind _ x
          nothing false = behind _ x

      by : (o : Option Reply) → Wrote n o (begun_in n h) (after_events life es) (deliveries_of life es)
          → Wrote n None (begun_in n h) (after_events life (wrote_events n o ++ es)) (deliveries_of life (wrote_events n o ++ es))
      by (Some (reply.OnChannel k u)) x = unit k u x
      by o x = behind o x

  wrote : (n : ℕ) (h : List Step) → ArePicks h → WroteIn n h
  wrote n [] p = λ life l. absurd cc
  wrote n (Gave (ToClient u) text ∷ h) p = gave n h u text p.1 (goes_as (IsNext (before h)) (before h) u is_next p.0.1) (wrote n h p.1)
  wrote n (Whole Client ∷ h) p = whole n h (wrote n h p.1)
  wrote n (s ∷ h) p = quiet n h s refl (wrote n h p.1)

  -- ---- what goes

  there : (xs : List (List ℕ)) (i : ℕ) → nat_lt i (length xs) ≡ true → slice_get xs i ≡ Some (or_no_bytes (slice_get xs i))
  there [] i e = absurd (let less : i < 0 = grind (arith, nat_tests, e) in omega (arith, less))
  there (x ∷ xs) zero e = refl
  there (x ∷ xs) (suc i) e = there xs i (let less : suc i < suc (length xs) = grind (arith, nat_tests, e) in let so : i < length xs = omega (arith, less) in grind (arith, nat_tests, so))

  may_write : (h : List Step) (n : ℕ) (c : ContentDue) (text : List ℕ) → ArePicks h → next_content (path_at (before h).paths n) ≡ Some c
      → text ≡ or_no_bytes (content_frame (path_at (before h).paths n)) → MayWrite h n c text
  may_write h n c text p e same = by (writer h n c p (wrote n h p) e)
    where
      by : Writer h n c → MayWrite h n c text
      by x =
          let all : List (List ℕ) = frames_by x.begun.due.next.number (deliveries_of x.life (path_events h n)) in
          let is : text ≡ or_no_bytes (slice_get all x.begun.gone) = same ∙ ap (λ (s : PathState). or_no_bytes (content_frame s)) x.path
          ∙ ap or_no_bytes x.next.frame in
          record {
            life = x.life;
            lives = x.lives;
            goes_on = x.goes_on;
            begun = x.begun;
            is = x.is;
            taken = x.one.taken;
            tag = x.next.tag;
            frame = there all x.begun.gone x.next.less ∙ ap Some (sym is);
            last = x.next.last;
          }

  may_go_behind : (h : List Step) (u : Reply) (text : List ℕ) → ArePicks h → OfChannel (IsNext (before h)) u → text ≡ carries_back (before h) u
      → MayGoBehind h u text
  may_go_behind h (reply.OnChannel n (to_client.Ok x)) text p e same = tt
  may_go_behind h (reply.OnChannel n (to_client.Deliver d)) text p e same = tt
  may_go_behind h (reply.OnChannel n (to_client.Content c)) text p e same = may_write h n c text p e same
  may_go_behind h (reply.OnChannel n (to_client.Confirm c)) text p e same = tt
  may_go_behind h (reply.OnChannel n (to_client.Return r)) text p e same = tt
  may_go_behind h u text p e same = tt

  pub writes_are : (h : List Step) → ArePicks h → Writes h
  writes_are [] p = tt
  writes_are (Gave (ToClient u) text ∷ h) p =
      (may_go_behind h u text p.1 (goes_as (IsNext (before h)) (before h) u is_next p.0.1) p.0.2, writes_are h p.1)
  writes_are (s ∷ h) p = writes_are h p.1

  -- what is due of a content is what the steps say
  content_of_life : (h : List Step) (n life : ℕ) → ArePicks h → n ≤ CHANNEL_MAX → path_life h n ≡ Some life
      → is_closed (deliveries_of life (path_events h n)) ≡ false
      → next_content (after_events life (path_events h n)) ≡ content_by (begun_in n h) (deliveries_of life (path_events h n))
  content_of_life h n life p below l goes_on = by (begun_in n h) ((wrote n h p life l).goes_on goes_on)
    where
      s : PathState
      s = after_events life (path_events h n)

      ds : List DeliveryEvent
      ds = deliveries_of life (path_events h n)

      none : (gone count : ℕ) → (gone == 0 || nat_lt gone count) ≡ false → nat_lt gone count ≡ false
      none gone count e = right_false (gone == 0) _ e

      one : (b : Begun) → (l : Bool) → left_by b ds ≡ l → FoundIn s ds b → s.writing ≡ writing_by b l → next_content s ≡ content_by (Some b) ds
      one b true e found f =
          ap (λ (o : Option Writing). content_on o s) f
          ∙ ap (λ (fs : List (List ℕ)). content_due (length fs) (record { id = b.due.next.id; tag = b.due.tag; gone = b.gone })) (found e)
      one b false e found f =
          ap (λ (o : Option Writing). content_on o s) f
          ∙ sym (ap (λ (k : Bool). if k then Some (record { tag = b.due.tag; last = b.gone + 1 == length (frames_by b.due.next.number ds) }) else None)
          (none b.gone (length (frames_by b.due.next.number ds)) e))

      by : (o : Option Begun) → WritesBy s ds o → next_content s ≡ content_by o ds
      by None w = ap (λ (o : Option Writing). content_on o s) w
      by (Some b) w = one b (left_by b ds) refl (found_in h n life b p below l goes_on w) w.writing

  pub content_is : (h : List Step) (n life : ℕ) → ArePicks h → n ≤ CHANNEL_MAX → path_life h n ≡ Some life
      → is_closed (deliveries_of life (path_events h n)) ≡ false
      → next_content (path_at (before h).paths n) ≡ content_by (begun_in n h) (deliveries_of life (path_events h n))
  content_is h n life p below l goes_on = ap next_content (path_of h n life p below l) ∙ content_of_life h n life p below l goes_on

  -- none is due of a life that is closed
  pub closed_ends : (h : List Step) (n life : ℕ) → ArePicks h → n ≤ CHANNEL_MAX → path_life h n ≡ Some life
      → is_closed (deliveries_of life (path_events h n)) ≡ true
      → next_content (path_at (before h).paths n) ≡ None
  closed_ends h n life p below l closed =
      let s : PathState = after_events life (path_events h n) in
      ap next_content (path_of h n life p below l) ∙ ap (λ (o : Option Writing). content_on o s) ((wrote n h p life l).closed closed)

  -- a channel on which a content is begun has a number
  pub begun_below : (h : List Step) (n : ℕ) (b : Begun) → ArePicks h → begun_in n h ≡ Some b → n ≤ CHANNEL_MAX
  begun_below [] n b p e = absurd cc
  begun_below (Gave (ToClient (reply.OnChannel k (to_client.Deliver d))) text ∷ h) n b p e = by (k == n) refl (begun_below h n b p.1) e
    where
      by : (x : Bool) → (k == n) ≡ x → (begun_in n h ≡ Some b → n ≤ CHANNEL_MAX) → (if x then Some (record { due = d; gone = 0 }) else begun_in n h) ≡ Some b
          → n ≤ CHANNEL_MAX
      by true f old g =
          let same : k ≡ n = grind (arith, nat_tests, f) in
          let due : next_deliver (path_at (before h).paths k)
          ≡ Some d = goes_as (IsNext (before h)) (before h) (reply.OnChannel k (to_client.Deliver d)) is_next p.0.1 in
          (is_delivered arrives delivers tags globals h n d p.1 (ap (λ (i : ℕ). next_deliver (path_at (before h).paths i)) (sym same) ∙ due)).below
      by false f old g = old g
  begun_below (Gave (ToClient (reply.OnChannel k (to_client.Content c))) text ∷ h) n b p e = by (k == n) (begun_in n h) refl (λ a. begun_below h n a p.1) e
    where
      by : (x : Bool) (o : Option Begun) → begun_in n h ≡ o → ((a : Begun) → begun_in n h ≡ Some a → n ≤ CHANNEL_MAX)
          → (if x then one_more o else o) ≡ Some b → n ≤ CHANNEL_MAX
      by true None f old g = absurd cc
      by true (Some a) f old g = old a f
      by false o f old g = old b (f ∙ g)
  begun_below (Gave (ToClient u) text ∷ h) n b p e = begun_below h n b p.1 e
  begun_below (s ∷ h) n b p e = by (opens_channel n h s) (begun_below h n b p.1) e
    where
      by : (x : Bool) → (begun_in n h ≡ Some b → n ≤ CHANNEL_MAX) → (if x then None else begun_in n h) ≡ Some b → n ≤ CHANNEL_MAX
      by true old f = absurd cc
      by false old f = old f
