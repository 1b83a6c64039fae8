-- A queue.declare-ok goes for an attach of the container that answers that of its link, with a source.
use Rattle.std.proofs.Common.{◌≡◌, ◌∙◌, ℕ, ◌+◌, ◌≤◌, ◌&&◌, Bool, true, false, if◌then◌else◌, List, [], ◌∷◌, ◌++◌, Option, None, Some}
use Rattle.std.proofs.Common.{cond, refl, sym, ap, arith}
use Rattle.std.proofs.lemmas.List.Sums.{sum_by-append, sum_by-cons}
use Rattle.std.specs.List.{AllByRecursion}
use Rattle.std.specs.Prelude.{count_by}
use Rattle.consume_path.specs.Deliveries.{DeliveryState}
use Rattle.consume_path.specs.declared.delivery.Content.{Content}
use Rattle.consume_path.specs.declared.receiving.Part.{Part}
use Rattle.gate_outside.specs.declared.ports.End.TheVariants.{Client}
use Rattle.session_path.specs.Due.{next_ok}
use Rattle.session_path.specs.Events as event
use Rattle.session_path.specs.Events.{PathEvent, after_events}
use Rattle.session_path.specs.Laws.{arrival_oks, begun_oks, flow_oks, oks_owed, oks_sent, owes}
use Rattle.session_path.specs.Links.{asked_by, named}
use Rattle.session_path.specs.Path.{PathState, declares_in, empty_oks, first_of, is_answered, is_served, receiver_in, taking, transferred}
use Rattle.session_path.specs.declared.path.AttachHeard.{AttachHeard}
use Rattle.session_path.specs.declared.path.Awaited.{Awaited}
use Rattle.session_path.specs.declared.path.PathLink.{PathLink}
use Rattle.session_path.specs.declared.path.PathOk.{PathOk}
use Rattle.session_path.specs.declared.path.PathOk.TheVariants as ok
use Rattle.gate_model.specs.Declares.{DeclaresFound, MayAnswer, MayDeclare, finds, finds_on, is_declare_ok, queues_found}
use Rattle.gate_model.specs.Folds.{going_in}
use Rattle.gate_model.specs.Once.{one_if}
use Rattle.gate_model.specs.Paths.{or_no_path, path_at, slot_at}
use Rattle.gate_model.specs.Picks.{ArePicks}
use Rattle.gate_model.specs.Publishing.{opens_channel, path_events, reply_events, step_events, told_event, up_events, wrote_events}
use Rattle.gate_model.specs.State.{Came, Gave, Step, Whole, before, is_later}
use Rattle.gate_model.specs.declared.channel.ChannelUnit.{ChannelUnit}
use Rattle.gate_model.specs.declared.channel.ChannelUnit.TheVariants as to_client
use Rattle.gate_model.specs.declared.outgoing.Outgoing.TheVariants.{ToClient, ToUp}
use Rattle.gate_model.specs.declared.reply.Reply.{Reply}
use Rattle.gate_model.specs.declared.reply.Reply.TheVariants as reply
use Rattle.gate_model.specs.Folds.{connection}
use Rattle.gate_model.proofs.Basics.{all_both}
use Rattle.gate_model.proofs.Fates.{IsLived, IsNext, is_next, lived}
use Rattle.gate_model.proofs.Firsts.{OfChannel, goes_as}
use Rattle.gate_model.proofs.Oks.{AnswersAre, answers_in_order}
use Rattle.gate_model.proofs.Quiet.{OfQuiet, came_on, flat, is_asked_ok, is_request, named_all, quiet_step, reply_on, up_on, whole_on}
use Rattle.gate_model.proofs.Rests.{LivesBelow}

-- ---- no event but an attach makes a queue.declare-ok due

abbrev is_owed_so : PathEvent → Bool
is_owed_so (event.Owed x) = is_declare_ok x
is_owed_so x = false

abbrev IsFree : PathEvent → Type 0
IsFree x = is_owed_so x ≡ false

asked_free : (x : PathOk) → is_asked_ok x ≡ true → is_declare_ok x ≡ false
asked_free ok.Queue e = absurd cc
asked_free x e = refl

quiet_free : OfQuiet (λ (b : List PathEvent). IsFree)
quiet_free b (event.Owed x) e = asked_free x e
quiet_free b x e = refl

request_free : (x : PathEvent) → is_request x ≡ true → IsFree x
request_free (event.Owed y) e = absurd cc
request_free x e = refl

told_free : (u : ChannelUnit) → IsFree (told_event u)
told_free (to_client.Ok x) = refl
told_free x = refl

step_free : (n : ℕ) (h : List Step) (s : Step) → AllByRecursion IsFree (step_events n h s)
step_free n h (Came u) =
    flat IsFree (path_events h n) (step_events n h (Came u))
    (came_on (λ (b : List PathEvent). IsFree) n h quiet_free u (λ m is. named_all IsFree (path_events h n) request_free m) (λ address payload back. refl))
step_free n h (Gave (ToUp u) text) =
    flat IsFree (path_events h n) (up_events (is_later (connection h) u) n u)
    (up_on (λ (b : List PathEvent). IsFree) n h quiet_free (is_later (connection h) u) u (λ j t is. refl))
step_free n h (Gave (ToClient u) text) =
    flat IsFree (path_events h n) (reply_events n u) (reply_on (λ (b : List PathEvent). IsFree) n h quiet_free u told_free)
step_free n h (Whole Client) =
    flat IsFree (path_events h n) (wrote_events n (going_in h)) (whole_on (λ (b : List PathEvent). IsFree) n h quiet_free (going_in h) (λ tag. refl))
step_free n h s =
    flat IsFree (path_events h n) (step_events n h s) (quiet_step (λ (b : List PathEvent). IsFree) n h quiet_free (λ ts payload g. refl) s refl)

all_free : (h : List Step) (n : ℕ) → AllByRecursion IsFree (path_events h n)
all_free [] n = tt
all_free (s ∷ h) n = by (opens_channel n h s) (all_free h n)
  where
    by : (b : Bool) → AllByRecursion IsFree (path_events h n) → AllByRecursion IsFree (if b then [] else step_events n h s ++ path_events h n)
    by true old = tt
    by false old = all_both IsFree (step_events n h s) (path_events h n) (step_free n h s) old

-- ---- what is owed

abbrev count : List PathOk → ℕ
count xs = count_by is_declare_ok xs

abbrev weight : PathOk → ℕ
weight x = cond (is_declare_ok x) 1 0

none_in : (b : Bool) (x : PathOk) → is_declare_ok x ≡ false → count (if b then x ∷ [] else []) ≡ 0
none_in true x e = ap (λ (b : Bool). 0 + cond b 1 0) e
none_in false x e = refl

attach_counts : (o : Option PathLink) (a : AttachHeard) (awaited : Option Awaited) → count (begun_oks o a awaited) ≡ one_if (finds_on o a awaited)
attach_counts None a awaited = refl
attach_counts (Some l) a awaited = by (l.receives && a.there) (is_answered l.link awaited) (declares_in awaited)
  where
    by : (b c d : Bool) → count (if b then (if c then (if d then ok.Queue else ok.Consume l.link) ∷ [] else []) else []) ≡ one_if (b && (c && d))
    by true true true = refl
    by true true false = refl
    by true false d = refl
    by false c d = refl

flow_counts : (o : Option PathLink) (n : Option ℕ) (echo : Bool) (d : DeliveryState) → count (flow_oks o n echo d) ≡ 0
flow_counts None n echo d = refl
flow_counts (Some l) n echo d = none_in _ (ok.Empty l.link) refl

arrival_counts : (o : Option PathLink) (part : Part) (payload : List ℕ) (image : Option Content) (again : Bool) (d : DeliveryState)
    → count (arrival_oks o part payload image again d) ≡ 0
arrival_counts None part payload image again d = refl
arrival_counts (Some l) part payload image again d = by (is_served l.link part image d)
  where
    by : (b : Bool) → count (if b then ok.Get ∷ [] else empty_oks l.link (transferred l.link part payload image again d)) ≡ 0
    by true = refl
    by false = none_in _ (ok.Empty l.link) refl

owed_counts : (s : PathState) (x : PathEvent) → IsFree x → count (owes s x) ≡ one_if (finds s x)
owed_counts s (event.Owed x) e = none_in true x e
owed_counts s (event.CancelCame tag no_wait) e = by no_wait
  where
    by : (b : Bool) → count (if b then [] else ok.Cancel ∷ []) ≡ 0
    by true = refl
    by false = refl
owed_counts s (event.AttachCame a) e = attach_counts (asked_by a s.links) a s.awaited
owed_counts s (event.FlowCame peer n credit drain echo) e = flow_counts (receiver_in (named peer s.links)) n echo s.deliveries
owed_counts s (event.TransferCame peer part payload image again) e = arrival_counts (taking peer s) part payload image again s.deliveries
owed_counts s x e = refl

counted : (life : ℕ) (es : List PathEvent) → AllByRecursion IsFree es → count (oks_owed life es) ≡ queues_found life es
counted life [] a = refl
counted life (x ∷ es) a =
    sum_by-append weight (oks_owed life es) (owes (after_events life es) x)
    ∙ ap (λ (n : ℕ). n + count (owes (after_events life es) x)) (counted life es a.1)
    ∙ ap (λ (n : ℕ). queues_found life es + n) (owed_counts (after_events life es) x a.0)

-- ---- an answer that goes

pub first_counts : (t : PathOk → Bool) (x : PathOk) (xs : List PathOk) → first_of xs ≡ Some x → t x ≡ true → 1 ≤ count_by t xs
first_counts t x [] e d = absurd cc
first_counts t x (y ∷ xs) e d =
    let same : y ≡ x = cc in
    let counts : PathOk → ℕ = λ z. cond (t z) 1 0 in
    let one : counts y ≡ 1 = ap counts same ∙ ap (λ (b : Bool). cond b 1 0) d in
    let all : count_by t (y ∷ xs) ≡ counts y + count_by t xs = sum_by-cons counts y xs in
    omega (arith, one, all)

module _ (law : AnswersAre) (below : LivesBelow) where
  may_declare : (h : List Step) (n : ℕ) (x : PathOk) → ArePicks h → next_ok (path_at (before h).paths n) ≡ Some x → is_declare_ok x ≡ true → MayDeclare h n
  may_declare h n x p e d = by (slot_at (before h).paths n) refl e
    where
      lived_by : (s : PathState) → IsLived h n s → next_ok s ≡ Some x → MayDeclare h n
      lived_by s l f =
          let es : List PathEvent = path_events h n in
          let due : List PathOk = (after_events l.life es).oks in
          let first : 1 ≤ count due = first_counts is_declare_ok x due (ap next_ok (sym l.is) ∙ f) d in
          let both : count (oks_sent es) + count due ≡ queues_found l.life es =
          sym (sum_by-append weight (oks_sent es) due)
          ∙ ap count (answers_in_order law below h p n l.life l.lives) ∙ counted l.life es (all_free h n) in
          record { life = l.life; lives = l.lives; found = omega (arith, first, both) }

      by : (o : Option PathState) → slot_at (before h).paths n ≡ o → next_ok (or_no_path o) ≡ Some x → MayDeclare h n
      by None g f = absurd cc
      by (Some s) g f = lived_by s (lived h n s p g) f

  may_answer : (h : List Step) (u : Reply) → ArePicks h → OfChannel (IsNext (before h)) u → MayAnswer h u
  may_answer h (reply.OnChannel n (to_client.Ok x)) p e = λ d. may_declare h n x p e d
  may_answer h (reply.OnChannel n (to_client.Deliver d)) p e = tt
  may_answer h (reply.OnChannel n (to_client.Content c)) p e = tt
  may_answer h (reply.OnChannel n (to_client.Confirm c)) p e = tt
  may_answer h (reply.OnChannel n (to_client.Return r)) p e = tt
  may_answer h u p e = tt

  pub declares_found : (h : List Step) → ArePicks h → DeclaresFound h
  declares_found [] p = tt
  declares_found (Gave (ToClient u) text ∷ h) p = (may_answer h u p.1 (goes_as (IsNext (before h)) (before h) u is_next p.0.1), declares_found h p.1)
  declares_found (s ∷ h) p = declares_found h p.1
