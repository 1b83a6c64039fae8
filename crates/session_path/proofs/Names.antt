-- The names that answers give back.
use Rattle.std.proofs.Common.{◌≡◌, ◌∙◌, ℕ, List, [], ◌∷◌, ◌++◌, Bool, true, false}
use Rattle.std.proofs.Common.{drop, refl, sym, ap, cond, subst}
use Rattle.consume_path.specs.Offers.{next_settle_of}
use Rattle.session_path.specs.Links.{asked_by, attached, named, parted}
use Rattle.session_path.specs.Path.{PathState, detaching_of, first_of, get_link, gives_name}
use Rattle.session_path.specs.Path.{grant_in, is_grant_next, queue_or, receiver_in, taking}
use Rattle.session_path.specs.Events.{PathEvent, AttachCame, CancelCame, Declared, DetachSent}
use Rattle.session_path.specs.Events.{DisposeSent, FlowCame, GetAsked, LinkFlowSent, OkSent}
use Rattle.session_path.specs.Events.{TransferCame}
use Rattle.session_path.specs.Events.{after_event, after_events}
use Rattle.session_path.specs.declared.path.AttachHeard.{AttachHeard}
use Rattle.session_path.specs.Laws.{IsBackOf, begun_names, named_by, names_owed, queue_in}
use Rattle.session_path.proofs.Kept.{begun, disposed, flowed, got_keeps, granted, parted_keeps}
use Rattle.session_path.proofs.Kept.{transferred}

-- the queue that was declared last

queue_step : (x : PathEvent) (s : PathState) (h : List PathEvent) → s.queue ≡ queue_in h → (after_event x s).queue ≡ queue_in (x ∷ h)
queue_step (Declared queue no_wait) s h e = refl
queue_step (GetAsked queue no_ack) s h e = (got_keeps (get_link (queue_or s.queue queue) s) (queue_or s.queue queue) no_ack s).queue ∙ e
queue_step (AttachCame a) s h e = (begun (asked_by a s.links) a (record s { links = attached a s.links })).queue ∙ e
queue_step (FlowCame peer count credit drain echo) s h e = (flowed (receiver_in (named peer s.links)) peer count credit drain echo s).queue ∙ e
queue_step (TransferCame peer part payload image again) s h e = (transferred (taking peer s) part payload image again s).queue ∙ e
queue_step LinkFlowSent s h e = (granted (is_grant_next s) (grant_in s) s).queue ∙ e
queue_step DisposeSent s h e = (disposed (next_settle_of s.deliveries.list) s).queue ∙ e
queue_step DetachSent s h e = (parted_keeps (detaching_of s) (record s { links = parted (detaching_of s) s.links })).queue ∙ e
queue_step x s h e = e

pub queue_is : (life : ℕ) (h : List PathEvent) → (after_events life h).queue ≡ queue_in h
queue_is life [] = refl
queue_is life (x ∷ h) = queue_step x (after_events life h) h (queue_is life h)

-- names

abbrev Names : Type 0
Names = List (List ℕ)

nil : (xs : Names) → xs ++ [] ≡ xs
nil [] = refl
nil (x ∷ xs) = ap (λ ys. x ∷ ys) (nil xs)

assoc : (xs ys zs : Names) → (xs ++ ys) ++ zs ≡ xs ++ (ys ++ zs)
assoc [] ys zs = refl
assoc (x ∷ xs) ys zs = ap (λ ws. x ∷ ws) (assoc xs ys zs)

-- they stay, more come, and the first goes
stay : (new old all : Names) → new ≡ old → IsBackOf old all → IsBackOf new (all ++ [])
stay new old all e b = (b.0, ap (λ (xs : Names). b.0 ++ xs) e ∙ (b.1 ∙ sym (nil all)))

come : (new old more all : Names) → new ≡ old ++ more → IsBackOf old all → IsBackOf new (all ++ more)
come new old more all e b = (b.0, ap (λ (xs : Names). b.0 ++ xs) e ∙ (sym (assoc b.0 old more) ∙ ap (λ (xs : Names). xs ++ more) b.1))

ask : (no_wait : Bool) (tag : List ℕ) (old all : Names) → IsBackOf old all → IsBackOf (cond no_wait old (old ++ tag ∷ [])) (all ++ cond no_wait [] (tag ∷ []))
ask true tag old all b = stay old old all refl b
ask false tag old all b = come (old ++ tag ∷ []) old (tag ∷ []) all refl b

go : (b : Bool) (old all : Names) → IsBackOf old all → IsBackOf (cond b (drop 1 old) old) (all ++ [])
go false old all b = stay old old all refl b
go true [] all b = stay [] [] all refl b
go true (x ∷ xs) all b = (b.0 ++ x ∷ [], assoc b.0 (x ∷ []) xs ∙ (b.1 ∙ sym (nil all)))

begin : (a : AttachHeard) (s : PathState) (queue : List ℕ) (all : Names) → s.queue ≡ queue → IsBackOf s.names all
    → IsBackOf (after_event (AttachCame a) s).names (all ++ begun_names (asked_by a s.links) a s.awaited queue s.deliveries)
begin a s queue all e b =
    subst (λ (q : List ℕ). IsBackOf (after_event (AttachCame a) s).names (all ++ begun_names (asked_by a s.links) a s.awaited q s.deliveries)) e
    (come _ s.names _ all (begun (asked_by a s.links) a (record s { links = attached a s.links })).names b)

step : (x : PathEvent) (s : PathState) (queue : List ℕ) (all : Names) → s.queue ≡ queue → IsBackOf s.names all → IsBackOf (after_event x s).names (all ++ named_by s queue x)
step (CancelCame tag no_wait) s queue all e b = ask no_wait tag s.names all b
step (OkSent ok) s queue all e b = go (gives_name (first_of s.oks)) s.names all b
step (GetAsked name no_ack) s queue all e b = stay _ s.names all (got_keeps (get_link (queue_or s.queue name) s) (queue_or s.queue name) no_ack s).names b
step (AttachCame a) s queue all e b = begin a s queue all e b
step (FlowCame peer count credit drain echo) s queue all e b = stay _ s.names all (flowed (receiver_in (named peer s.links)) peer count credit drain echo s).names b
step (TransferCame peer part payload image again) s queue all e b = stay _ s.names all (transferred (taking peer s) part payload image again s).names b
step LinkFlowSent s queue all e b = stay _ s.names all (granted (is_grant_next s) (grant_in s) s).names b
step DisposeSent s queue all e b = stay _ s.names all (disposed (next_settle_of s.deliveries.list) s).names b
step DetachSent s queue all e b =
    stay _ s.names all (parted_keeps (detaching_of s) (record s { links = parted (detaching_of s) s.links })).names b
step x s queue all e b = stay s.names s.names all refl b

pub names_are : (life : ℕ) (h : List PathEvent) → IsBackOf (after_events life h).names (names_owed life h)
names_are life [] = ([], refl)
names_are life (x ∷ h) = step x (after_events life h) (queue_in h) (names_owed life h) (queue_is life h) (names_are life h)
