-- Where nothing goes to a client, it is owed no channel.open-ok, no channel.close and no close-ok, and no reply of its connection.
use Rattle.std.proofs.Common.{◌≡◌, ◌⊎◌, ℕ, ◌+◌, ◌==◌, ◌<◌, ◌≤◌, not, ◌&&◌, ◌||◌, Bool, true, false, if◌then◌else◌, List, [], ◌∷◌, ◌++◌, append-nil}
use Rattle.std.proofs.Common.{Option, None, Some, is_some, refl, sym, ap, ◌∙◌, arith, subst}
use Rattle.std.specs.List.{AllByRecursion}
use Rattle.gate_outside.specs.declared.ports.End.TheVariants.{Client}
use Rattle.gate_relay.specs.Sides.{is_readable}
use Rattle.gate_relay.specs.declared.sides.Side.{Side}
use Rattle.machine_091.specs.State.{is_closing, is_open}
use Rattle.machine_091.specs.declared.limits.TheConstants.{CHANNEL_MAX}
use Rattle.machine_091.specs.declared.state.Connection.{Connection}
use Rattle.machine_091.specs.declared.unit.Refusal.{Refusal}
use Rattle.machine_10.specs.declared.state.Upstream.{Upstream}
use Rattle.gate_model.specs.Answers.{AreReplies}
use Rattle.gate_model.specs.Begins.{begun_at, has_begun, said_or}
use Rattle.gate_model.specs.Closes.{closes_since, tells_close}
use Rattle.gate_model.specs.Contents.{IsReturned}
use Rattle.gate_model.specs.Due.{answers, channel_closes, channel_oks, client_rows, client_units, close_oks, close_oks_on, closes, confirms, contents, delivers, gets}
use Rattle.gate_model.specs.Due.{consume_oks, if_so, is_closed_phase, last_closes, may_answer, may_confirm_all, may_confirm_some, may_end, may_go, may_go_on, may_return, may_tell, open_oks, openings, path_oks, pick}
use Rattle.gate_model.specs.Due.{refused_on, rows, when, writings}
use Rattle.gate_model.specs.Folds.{answers_of, connection, peers, ran_out_in, replies, sent, sent_since, until_memory}
use Rattle.gate_model.specs.Lives.{is_done, life_at, session_in, with_life}
use Rattle.gate_model.specs.Once.{is_open_ok_on}
use Rattle.gate_model.specs.Owes.{EndsClients, IsReplied, MayEnd, OwesNone, closes_channel, has_opened, is_crossed_ok}
use Rattle.gate_model.specs.Owes.{is_own_ok, is_to_answer, is_to_close, is_to_cross, tells}
use Rattle.gate_model.specs.Parting.{by_container, ended_by_container}
use Rattle.gate_model.specs.Picks.{ArePicks}
use Rattle.gate_model.specs.Publishing.{opens_channel, path_life}
use Rattle.gate_model.specs.Reasons.{is_close_on, reason_at}
use Rattle.gate_model.specs.Shuts.{frees_channel}
use Rattle.gate_model.specs.State.{Gave, OutOfMemory, State, Step, before, has_left, is_channel_settled, is_settled, without_life}
use Rattle.gate_model.specs.Upstream.{is_closed_stream, stream_in}
use Rattle.gate_model.specs.Waiting.{GivenUp, HasClosed, NoneThere, NotOpen, OfAll, RanOut, Settled, SettledOn, is_ending}
use Rattle.gate_model.specs.declared.life.Life.{Life}
use Rattle.gate_model.specs.declared.outgoing.Outgoing.TheVariants.{ToClient, ToUp}
use Rattle.gate_model.specs.declared.reply.Pending.{Pending}
use Rattle.gate_model.specs.declared.reply.Reason.{Reason}
use Rattle.gate_model.specs.declared.reply.Reply.{Reply}
use Rattle.gate_model.specs.declared.reply.Reply.TheVariants as reply
use Rattle.gate_model.proofs.Backs.{BacksAre, ReturnsAre}
use Rattle.gate_model.proofs.Basics.{and_both, and_right, or_left, or_right, right_false}
use Rattle.gate_model.proofs.Becoming.{Becomes, Begins, Closes, Fails, Frees, IsPlain, Opens, Shut, Stays, step_becomes}
use Rattle.gate_model.proofs.Begins.{Awaits, Begun, begun}
use Rattle.gate_model.proofs.Begins as begins
use Rattle.gate_model.proofs.Clear.{open_lives}
use Rattle.gate_model.proofs.Connections.{clash}
use Rattle.gate_model.proofs.Contents.{BegunBelow, ClosedEnds, ContentIs, DeliversHold, is_calm, may_write, none_returned}
use Rattle.gate_model.proofs.Fates.{PublishesAre}
use Rattle.gate_model.proofs.Known.{Known, conn_is, container_is, known, memory_is, side_is, silent_is}
use Rattle.gate_model.proofs.Living.{step_leaves, was_open}
use Rattle.gate_model.proofs.Owing.{closed_goes, goes_with, may_end_now, tells_all}
use Rattle.gate_model.proofs.Places.{Beyond, Elsewhere, Here, SetAt, itself, set_at}
use Rattle.gate_model.proofs.Rests.{if_so_none, none_in, when_none}
use Rattle.gate_model.proofs.Rows.{left_none, right_none, row_none}
use Rattle.gate_model.proofs.Said.{answered}
use Rattle.gate_model.proofs.Staying.{long}

-- ---- a unit that goes to the client leaves what is due but for itself

one_field : {A : Type 0} (f : Life → A) (n k : ℕ) (ls : List Life) (m : Life) → (k ≡ n → f m ≡ f (life_at ls k)) → f (life_at (with_life k m ls) n) ≡ f (life_at ls n)
one_field {A} f n k ls m this = by (set_at ls k n m)
  where
    by : SetAt ls k n m → f (life_at (with_life k m ls) n) ≡ f (life_at ls n)
    by (Here e g) = ap f g ∙ this e ∙ ap (λ (i : ℕ). f (life_at ls i)) e
    by (Elsewhere d g) = ap f g
    by (Beyond e g i) = ap f (i ∙ sym g)

here_not : {A : Type 0} (k n : ℕ) → (k == n) ≡ false → k ≡ n → A
here_not k n d e = absurd (clash _ (ap (λ (i : ℕ). i == n) e ∙ itself n) d)

given_opened : (n : ℕ) (u : Reply) (ls : List Life) → is_open_ok_on n u ≡ false → (life_at (without_life u ls) n).open_ok ≡ (life_at ls n).open_ok
given_opened n (reply.ChannelOpenOk k) ls e = one_field (λ (l : Life). l.open_ok) n k ls _ (here_not k n e)
given_opened n (reply.ChannelCloseOk k) ls e = one_field (λ (l : Life). l.open_ok) n k ls _ (λ f. refl)
given_opened n (reply.CrossedOk k) ls e = one_field (λ (l : Life). l.open_ok) n k ls _ (λ f. refl)
given_opened n (reply.ChannelClose k r) ls e = one_field (λ (l : Life). l.open_ok) n k ls _ (λ f. refl)
given_opened n u ls e = refl

given_ok : (n : ℕ) (u : Reply) (ls : List Life) → is_own_ok n u ≡ false → (life_at (without_life u ls) n).close_ok ≡ (life_at ls n).close_ok
given_ok n (reply.ChannelOpenOk k) ls e = one_field (λ (l : Life). l.close_ok) n k ls _ (λ f. refl)
given_ok n (reply.ChannelCloseOk k) ls e = one_field (λ (l : Life). l.close_ok) n k ls _ (here_not k n e)
given_ok n (reply.CrossedOk k) ls e = one_field (λ (l : Life). l.close_ok) n k ls _ (λ f. refl)
given_ok n (reply.ChannelClose k r) ls e = one_field (λ (l : Life). l.close_ok) n k ls _ (λ f. refl)
given_ok n u ls e = refl

given_crossed : (n : ℕ) (u : Reply) (ls : List Life) → is_crossed_ok n u ≡ false → (life_at (without_life u ls) n).crossed_ok ≡ (life_at ls n).crossed_ok
given_crossed n (reply.ChannelOpenOk k) ls e = one_field (λ (l : Life). l.crossed_ok) n k ls _ (λ f. refl)
given_crossed n (reply.ChannelCloseOk k) ls e = one_field (λ (l : Life). l.crossed_ok) n k ls _ (λ f. refl)
given_crossed n (reply.CrossedOk k) ls e = one_field (λ (l : Life). l.crossed_ok) n k ls _ (here_not k n e)
given_crossed n (reply.ChannelClose k r) ls e = one_field (λ (l : Life). l.crossed_ok) n k ls _ (λ f. refl)
given_crossed n u ls e = refl

given_close : (n : ℕ) (u : Reply) (ls : List Life) → is_close_on n u ≡ false → (life_at (without_life u ls) n).close ≡ (life_at ls n).close
given_close n (reply.ChannelOpenOk k) ls e = one_field (λ (l : Life). l.close) n k ls _ (λ f. refl)
given_close n (reply.ChannelCloseOk k) ls e = one_field (λ (l : Life). l.close) n k ls _ (λ f. refl)
given_close n (reply.CrossedOk k) ls e = one_field (λ (l : Life). l.close) n k ls _ (λ f. refl)
given_close n (reply.ChannelClose k r) ls e = one_field (λ (l : Life). l.close) n k ls _ (here_not k n e)
given_close n u ls e = refl

-- no other step is one
plain_tells : (t : Reply → Bool) (s : Step) → IsPlain s → tells t s ≡ false
plain_tells t (Gave (ToClient u) text) plain = absurd plain
plain_tells t (Gave (ToUp u) text) plain = refl
plain_tells t s plain = refl

plain_closes : (n : ℕ) (s : Step) → IsPlain s → tells_close n s ≡ false
plain_closes n (Gave (ToClient u) text) plain = absurd plain
plain_closes n (Gave (ToUp u) text) plain = refl
plain_closes n s plain = refl

-- ---- a channel.open-ok that the folds call for is due

abbrev OpensIn : ℕ → List Step → Type 0
OpensIn n h = is_open (before h).conn n ≡ true → has_begun n h ≡ true → has_opened n h ≡ false → (life_at (before h).lives n).open_ok ≡ true

-- the channel was open before a step that doesn't open it
open_before : (n : ℕ) (s : Step) (h : List Step) → n < 256 → ArePicks (s ∷ h) → opens_channel n h s ≡ false → is_open (before (s ∷ h)).conn n ≡ true
    → (is_open (before h).conn n ≡ true) × (is_some (path_life h n) ≡ true)
open_before n s h less p e on = (was_open (step_leaves n s h less p there e) on, there)
  where
    there : is_some (path_life h n) ≡ true
    there =
        sym (ap (λ (b : Bool). is_some (if b then Some ((peers h).opened + 1) else path_life h n)) e)
        ∙ open_lives (s ∷ h) n less p (ap (λ (c : Connection). is_open c n) (sym (conn_is (known (s ∷ h) p))) ∙ on)

plain_opens : (n : ℕ) (s : Step) (h : List Step) → n < 256 → ArePicks (s ∷ h) → IsPlain s → OpensIn n h → OpensIn n (s ∷ h)
plain_opens n s h less p plain old on begins_now none = by (step_becomes n s h less p plain)
  where
    l : Life
    l = life_at (before h).lives n

    m : Life
    m = life_at (before (s ∷ h)).lives n

    begun_now : (a : Bool) (o : Option Bool) → opens_channel n h s ≡ a → begun_at n h s ≡ o → (if a then false else said_or o (has_begun n h)) ≡ true
    begun_now a o e f =
        sym (ap (λ (b : Bool). if b then false else said_or (begun_at n h s) (has_begun n h)) e
        ∙ ap (λ (x : Option Bool). if a then false else said_or x (has_begun n h)) f) ∙ begins_now

    not_opened : opens_channel n h s ≡ false → has_opened n h ≡ false
    not_opened e =
        right_false (tells (is_open_ok_on n) s) (has_opened n h)
        (sym (ap (λ (b : Bool). if b then false else tells (is_open_ok_on n) s || has_opened n h) e) ∙ none)

    said : (o : Option Bool) → (o ≡ Some true → ⊥) → said_or o (has_begun n h) ≡ true → has_begun n h ≡ true
    said None f e = e
    said (Some true) f e = absurd (f refl)
    said (Some false) f e = absurd cc

    was : opens_channel n h s ≡ false → has_begun n h ≡ true → l.open_ok ≡ true
    was e b = old (open_before n s h less p e on).0 b (not_opened e)

    -- where the begin comes it was awaited, or came before
    comes : opens_channel n h s ≡ false → Begun l (has_begun n h) → (l.open_ok || l.waits) ≡ true
    comes e (Awaits w f) = or_right l.open_ok l.waits w
    comes e (begins.Came b) = or_left l.open_ok l.waits (was e b)

    by : Becomes (is_open (before (s ∷ h)).conn n) (opens_channel n h s) (closes_channel n h s) (frees_channel n h s) (reason_at n h s) (begun_at n h s) l m → m.open_ok ≡ true
    by (Stays q x i) = i.opened ∙ was q.opens (said (begun_at n h s) x (begun_now false (begun_at n h s) q.opens refl))
    by (Shut o q i) = absurd (clash _ on o)
    by (Begins q e f g i) =
        let b = open_before n s h less p q.opens on in
        e ∙ comes q.opens (begun n h less p.1 b.1 b.0)
    by (Opens a c f r k e) = absurd (let wrong : false ≡ true = begun_now true (begun_at n h s) a refl in cc)
    by (Closes o c f r e g) = absurd (clash _ on o)
    by (Frees o c f r e) = absurd (clash _ on o)
    by (Fails o c f y e k g) = absurd (clash _ on o)

opens_in : (n : ℕ) (h : List Step) → n < 256 → ArePicks h → OpensIn n h
opens_in n [] less p = λ on b none. absurd cc
opens_in n (Gave (ToClient u) text ∷ h) less p = given (opens_in n h less p.1)
  where
    given : OpensIn n h → OpensIn n (Gave (ToClient u) text ∷ h)
    given old on b none = by (is_open_ok_on n u) refl none
      where
        by : (a : Bool) → is_open_ok_on n u ≡ a → (a || has_opened n h) ≡ false → (life_at (without_life u (before h).lives) n).open_ok ≡ true
        by true e f = absurd cc
        by false e f = given_opened n u (before h).lives e ∙ old (open_before n (Gave (ToClient u) text) h less p refl on).0 b f
opens_in n (Gave (ToUp u) text ∷ h) less p = plain_opens n (Gave (ToUp u) text) h less p tt (opens_in n h less p.1)
opens_in n (s ∷ h) less p = plain_opens n s h less p tt (opens_in n h less p.1)

-- ---- what ends a channel that the folds call for is due

record Owes (n : ℕ) (h : List Step) : Type 0 where
  ok : is_to_answer n h ≡ true → (life_at (before h).lives n).close_ok ≡ true
  crossed : is_to_cross n h ≡ true → (life_at (before h).lives n).crossed_ok ≡ true
  close : is_to_close n h ≡ true → is_some (life_at (before h).lives n).close ≡ true

none_some : (o : Option Reason) → is_some o ≡ true → o ≡ None → ⊥
none_some None e f = absurd cc
none_some (Some r) e f = cc

is_some_by : (o : Option Reason) (r : Reason) → o ≡ Some r → is_some o ≡ true
is_some_by o r e = ap (λ (x : Option Reason). is_some x) e

-- a request that stays, and one that the step is
stays_answer : (c f t old : Bool) → c ≡ false → t ≡ false → (if c then true else if f || t then false else old) ≡ true → old ≡ true
stays_answer true f t old c t' e = absurd cc
stays_answer false true t old c t' e = absurd cc
stays_answer false false true old c t' e = absurd cc
stays_answer false false false old c t' e = e

freed_answer : (c f t old : Bool) → c ≡ false → f ≡ true → (if c then true else if f || t then false else old) ≡ true → ⊥
freed_answer true f t old c f' e = cc
freed_answer false true t old c f' e = cc
freed_answer false false t old c f' e = cc

stays_cross : (f t a old : Bool) → f ≡ false → (if f then a || old else not t && old) ≡ true → old ≡ true
stays_cross true t a old f e = absurd cc
stays_cross false t a old f e = and_right (not t) old e

freed_cross : (f t a old : Bool) → f ≡ true → (if f then a || old else not t && old) ≡ true → (a || old) ≡ true
freed_cross true t a old f e = e
freed_cross false t a old f e = absurd cc

stays_close : (o : Option Reason) (c f t old : Bool) → o ≡ None → (if is_some o then true else if c || (f || t) then false else old) ≡ true → old ≡ true
stays_close (Some r) c f t old o e = absurd cc
stays_close None true f t old o e = absurd cc
stays_close None false true t old o e = absurd cc
stays_close None false false true old o e = absurd cc
stays_close None false false false old o e = e

ended_close : (o : Option Reason) (c f t old : Bool) → o ≡ None → (c || f) ≡ true → (if is_some o then true else if c || (f || t) then false else old) ≡ true → ⊥
ended_close (Some r) c f t old o x e = cc
ended_close None true f t old o x e = cc
ended_close None false true t old o x e = cc
ended_close None false false t old o x e = cc

plain_owes : (n : ℕ) (s : Step) (h : List Step) → n < 256 → ArePicks (s ∷ h) → IsPlain s → Owes n h → Owes n (s ∷ h)
plain_owes n s h less p plain old = by (step_becomes n s h less p plain)
  where
    l : Life
    l = life_at (before h).lives n

    m : Life
    m = life_at (before (s ∷ h)).lives n

    answer : closes_channel n h s ≡ false → is_to_answer n (s ∷ h) ≡ true → l.close_ok ≡ true
    answer c e = old.ok (stays_answer (closes_channel n h s) (frees_channel n h s) (tells (is_own_ok n) s) (is_to_answer n h) c (plain_tells (is_own_ok n) s plain) e)

    cross : frees_channel n h s ≡ false → is_to_cross n (s ∷ h) ≡ true → l.crossed_ok ≡ true
    cross f e = old.crossed (stays_cross (frees_channel n h s) (tells (is_crossed_ok n) s) (is_to_answer n h) (is_to_cross n h) f e)

    close : reason_at n h s ≡ None → is_to_close n (s ∷ h) ≡ true → is_some l.close ≡ true
    close r e = old.close (stays_close (reason_at n h s) (closes_channel n h s) (frees_channel n h s) (tells_close n s) (is_to_close n h) r e)

    ended : reason_at n h s ≡ None → (closes_channel n h s || frees_channel n h s) ≡ true → is_to_close n (s ∷ h) ≡ true → ⊥
    ended r c e = ended_close (reason_at n h s) (closes_channel n h s) (frees_channel n h s) (tells_close n s) (is_to_close n h) r c e

    crossing : (a b : Bool) → (a ≡ true → l.close_ok ≡ true) → (b ≡ true → l.crossed_ok ≡ true) → (a || b) ≡ true → (l.crossed_ok || l.close_ok) ≡ true
    crossing true b f g e = or_right l.crossed_ok l.close_ok (f refl)
    crossing false true f g e = or_left l.crossed_ok l.close_ok (g refl)
    crossing false false f g e = absurd cc

    by : Becomes (is_open (before (s ∷ h)).conn n) (opens_channel n h s) (closes_channel n h s) (frees_channel n h s) (reason_at n h s) (begun_at n h s) l m → Owes n (s ∷ h)
    by (Stays q x i) = record {
      ok = λ e. i.ok ∙ answer q.closes e;
      crossed = λ e. i.crossed ∙ cross q.frees e;
      close = λ e. ap (λ (o : Option Reason). is_some o) i.close ∙ close q.reason e;
    }
    by (Shut o q i) = record {
      ok = λ e. i.ok ∙ answer q.closes e;
      crossed = λ e. i.crossed ∙ cross q.frees e;
      close = λ e. ap (λ (o : Option Reason). is_some o) i.close ∙ close q.reason e;
    }
    by (Begins q o k x c) = record {
      ok = λ e. k ∙ answer q.closes e;
      crossed = λ e. x ∙ cross q.frees e;
      close = λ e. ap (λ (o : Option Reason). is_some o) c ∙ close q.reason e;
    }
    by (Opens a c f r k x) = record {
      ok = λ e. absurd (clash _ (answer c e) k.ok);
      crossed = λ e. x ∙ cross f e;
      close = λ e. absurd (none_some l.close (close r e) k.close);
    }
    by (Closes o c f r k x) = record {
      ok = λ e. k;
      crossed = λ e. x ∙ cross f e;
      close = λ e. absurd (ended r (or_left (closes_channel n h s) (frees_channel n h s) c) e);
    }
    by (Frees o c f r x) = record {
      ok = λ e. absurd (freed_answer (closes_channel n h s) (frees_channel n h s) (tells (is_own_ok n) s) (is_to_answer n h) c f e);
      crossed = λ e. x ∙ crossing (is_to_answer n h) (is_to_cross n h) old.ok old.crossed
          (freed_cross (frees_channel n h s) (tells (is_crossed_ok n) s) (is_to_answer n h) (is_to_cross n h) f e);
      close = λ e. absurd (ended r (or_right (closes_channel n h s) (frees_channel n h s) f) e);
    }
    by (Fails o c f y e k x) = record {
      ok = λ g. absurd (clash _ (answer c g) k.ok);
      crossed = λ g. x ∙ cross f g;
      close = λ g. is_some_by m.close y e;
    }

given_owes : (n : ℕ) (u : Reply) (text : List ℕ) (h : List Step) → Owes n h → Owes n (Gave (ToClient u) text ∷ h)
given_owes n u text h old = record {
  ok = λ e. ok (is_own_ok n u) refl e;
  crossed = λ e. crossed (is_crossed_ok n u) refl e;
  close = λ e. close (is_close_on n u) refl e;
}
  where
    ok : (a : Bool) → is_own_ok n u ≡ a → (if a then false else is_to_answer n h) ≡ true → (life_at (without_life u (before h).lives) n).close_ok ≡ true
    ok true e f = absurd cc
    ok false e f = given_ok n u (before h).lives e ∙ old.ok f

    crossed : (a : Bool) → is_crossed_ok n u ≡ a → (not a && is_to_cross n h) ≡ true → (life_at (without_life u (before h).lives) n).crossed_ok ≡ true
    crossed true e f = absurd cc
    crossed false e f = given_crossed n u (before h).lives e ∙ old.crossed f

    close : (a : Bool) → is_close_on n u ≡ a → (if a then false else is_to_close n h) ≡ true → is_some (life_at (without_life u (before h).lives) n).close ≡ true
    close true e f = absurd cc
    close false e f = ap (λ (o : Option Reason). is_some o) (given_close n u (before h).lives e) ∙ old.close f

owes : (n : ℕ) (h : List Step) → n < 256 → ArePicks h → Owes n h
owes n [] less p = record { ok = λ e. absurd cc; crossed = λ e. absurd cc; close = λ e. absurd cc }
owes n (Gave (ToClient u) text ∷ h) less p = given_owes n u text h (owes n h less p.1)
owes n (Gave (ToUp u) text ∷ h) less p = plain_owes n (Gave (ToUp u) text) h less p tt (owes n h less p.1)
owes n (s ∷ h) less p = plain_owes n s h less p tt (owes n h less p.1)

-- ---- what the folds say of the container, the state knows

settles : (h : List Step) → Known h → Settled h → is_settled (before h) ≡ true
settles h k (RanOut e) = or_left (before h).out_of_memory _ (memory_is k ∙ e)
settles h k (NotOpen e) =
    or_right (before h).out_of_memory _ (or_left (not (is_readable (before h).up.side)) _ (ap (λ (s : Side). not (is_readable s)) (side_is k) ∙ ap not e))
settles h k (HasClosed e) =
    or_right (before h).out_of_memory _ (or_right (not (is_readable (before h).up.side)) _
    (or_left (is_closed_stream (stream_in (before h).up.container)) _ (ap (λ (o : Option Upstream). is_closed_stream (stream_in o)) (container_is k) ∙ e)))
settles h k (GivenUp e) =
    or_right (before h).out_of_memory _ (or_right (not (is_readable (before h).up.side)) _
    (or_right (is_closed_stream (stream_in (before h).up.container)) _ (silent_is k ∙ e)))

settles_on : (h : List Step) (n : ℕ) → Known h → SettledOn h n → is_channel_settled (before h) n ≡ true
settles_on h n k (OfAll e) = or_left (is_settled (before h)) _ (settles h k e)
settles_on h n k (NoneThere e) = or_right (is_settled (before h)) _ (ap (λ (o : Option Upstream). is_done (session_in o n)) (container_is k) ∙ e)

-- ---- rows that are empty

abbrev pending_in : State → Pending
pending_in w = may_go (is_settled w) w.pending

record NoRow (w : State) : Type 0 where
  content : if_so (may_return w) (contents w) ≡ []
  opening : openings (pending_in w) ≡ []
  answer : if_so (may_answer w) (answers w) ≡ []
  ok : close_oks (pending_in w) ≡ []
  channel_ok : if_so (may_end w) (channel_oks w) ≡ []
  close : last_closes (pending_in w) ≡ []
  channel_close : if_so (may_tell w) (channel_closes w) ≡ []

no_row : (w : State) → pick w Client ≡ None → NoRow w
no_row w e = record {
  content = left_none (if_so (may_return w) (contents w)) _ units;
  opening = left_none (openings (pending_in w)) (answered ++ confirmed) opened;
  answer = left_none answered confirmed behind;
  ok = left_none (close_oks (pending_in w)) ended confirms_none;
  channel_ok = left_none (if_so (may_end w) (channel_oks w)) closed ends_none;
  close = left_none (last_closes (pending_in w)) (if_so (may_tell w) (channel_closes w)) closes_none;
  channel_close = right_none (last_closes (pending_in w)) (if_so (may_tell w) (channel_closes w)) closes_none;
}
  where
    closed : List Reply
    closed = last_closes (pending_in w) ++ if_so (may_tell w) (channel_closes w)

    ended : List Reply
    ended = if_so (may_end w) (channel_oks w) ++ closed

    confirmed : List Reply
    confirmed = if_so (may_confirm_some w) (confirms w) ++ (close_oks (pending_in w) ++ ended)

    answered : List Reply
    answered = if_so (may_answer w) (answers w)

    units : client_units w ≡ []
    units = left_none (client_units w) _ (none_in ToClient (client_rows w) e)

    opened : openings (pending_in w) ++ (answered ++ confirmed) ≡ []
    opened =
        right_none (if_so (may_answer w) (writings w)) (openings (pending_in w) ++ (answered ++ confirmed))
        (right_none (if_so (may_return w) (contents w)) (if_so (may_answer w) (writings w) ++ (openings (pending_in w) ++ (answered ++ confirmed))) units)

    behind : answered ++ confirmed ≡ []
    behind = right_none (openings (pending_in w)) (answered ++ confirmed) opened

    confirms_none : close_oks (pending_in w) ++ ended ≡ []
    confirms_none = right_none (if_so (may_confirm_some w) (confirms w)) (close_oks (pending_in w) ++ ended) (right_none answered confirmed behind)

    ends_none : ended ≡ []
    ends_none = right_none (close_oks (pending_in w)) ended confirms_none

    closes_none : closed ≡ []
    closes_none = right_none (if_so (may_end w) (channel_oks w)) closed ends_none

-- ---- channels

both_false : (a b : Bool) → (a && b) ≡ false → b ≡ true → a ≡ false
both_false true true e f = absurd cc
both_false true false e f = absurd cc
both_false false b e f = refl

refused_none : (settled : Bool) (n : ℕ) (o : Option Reason) → refused_on settled n o ≡ [] → settled ≡ true → is_some o ≡ false
refused_none settled n None e f = refl
refused_none true n (Some r) e f = absurd cc
refused_none false n (Some r) e f = absurd cc

unless_true : (b : Bool) → (b ≡ true → ⊥) → b ≡ false
unless_true true f = absurd (f refl)
unless_true false f = refl

owes_none : (h : List Step) (n : ℕ) → n < 256 → ArePicks h → NoRow (before h) → OwesNone h n
owes_none h n less p none = record {
  opens = opens;
  closes = λ m s. unless_true (is_to_answer n h) (λ e. clash _ (o.ok e) (both_false l.close_ok _ (when_none _ _ (right_none (when l.crossed_ok (reply.CrossedOk n)) _ (oks m))) (settles_on h n k s)));
  crosses = λ m. unless_true (is_to_cross n h) (λ e. clash _ (o.crossed e) (when_none l.crossed_ok _ (left_none (when l.crossed_ok (reply.CrossedOk n)) _ (oks m))));
  reasons = λ m s c. unless_true (is_to_close n h) (λ e. clash _ (o.close e) (refused_none (is_channel_settled (before h) n) n l.close (closes m c) (settles_on h n k s)));
}
  where
    k : Known h
    k = known h p

    l : Life
    l = life_at (before h).lives n

    o : Owes n h
    o = owes n h less p

    opens : is_open (connection h) n ≡ true → has_begun n h ≡ true → has_opened n h ≡ true
    opens on b = at (has_opened n h) refl
      where
        no_opens : open_oks (before h) ≡ []
        no_opens =
            left_none (open_oks (before h)) (path_oks (before h) ++ (consume_oks (before h) ++ (gets (before h) ++ delivers (before h))))
            (if_so_none (may_answer (before h)) (answers (before h)) (may_write h p (is_calm h n p on)) none.answer)

        undue : (life_at (before h).lives n).open_ok ≡ false
        undue = when_none _ (reply.ChannelOpenOk n) (row_none (λ (i : ℕ) (z : Life). when z.open_ok (reply.ChannelOpenOk i)) n (before h).lives (long n h less p) no_opens)

        at : (a : Bool) → has_opened n h ≡ a → a ≡ true
        at true e = refl
        at false e = absurd (clash _ (opens_in n h less p (ap (λ (c : Connection). is_open c n) (conn_is (known h p)) ∙ on) b e) undue)

    oks : MayEnd h → close_oks_on n ((life_at (before h).lives n).close_ok && is_channel_settled (before h) n) (life_at (before h).lives n) ≡ []
    oks m =
        row_none (λ (i : ℕ) (z : Life). close_oks_on i (z.close_ok && is_channel_settled (before h) i) z) n (before h).lives (long n h less p)
        (if_so_none (may_end (before h)) (channel_oks (before h)) (may_end_now h p m) none.channel_ok)

    closes : MayEnd h → is_closed_phase (connection h).phase ≡ false → refused_on (is_channel_settled (before h) n) n (life_at (before h).lives n).close ≡ []
    closes m c =
        row_none (λ (i : ℕ) (z : Life). refused_on (is_channel_settled (before h) i) i z.close) n (before h).lives (long n h less p)
        (if_so_none (may_tell (before h)) (channel_closes (before h)) tells_now none.channel_close)
      where
        tells_now : may_tell (before h) ≡ true
        tells_now = and_both (may_end (before h)) _ (may_end_now h p m) (ap (λ (d : Connection). not (is_closed_phase d.phase)) (conn_is (known h p)) ∙ ap not c)

-- ---- the connection

-- behind the opening what is due ends the connection
abbrev ends_in : Pending → List Reply
ends_in p = close_oks p ++ last_closes p

rows_are : (settled : Bool) (p : Pending) → openings (may_go settled p) ≡ [] → rows p ≡ ends_in p
rows_are settled p = by settled p.protocol p.start p.tune p.open_ok
  where
    rest : List Reply
    rest = ends_in p

    by : (settled a b c d : Bool)
        → openings (may_go settled (record p { protocol = a; start = b; tune = c; open_ok = d })) ≡ []
        → when a reply.Protocol ++ (when b reply.Start ++ (when c reply.Tune ++ (when d reply.OpenOk ++ rest))) ≡ rest
    by settled false false false false e = refl
    by true true b c d e = absurd cc
    by true false true c d e = absurd cc
    by true false false true d e = absurd cc
    by true false false false true e = absurd cc
    by false true b c d e = absurd cc
    by false false true c d e = absurd cc
    by false false false true d e = absurd cc
    by false false false false true e = absurd cc

when_ends : (b : Bool) (u : Reply) (us : List Reply) → is_ending u ≡ true → AllByRecursion (λ (v : Reply). is_ending v ≡ true) us
    → AllByRecursion (λ (v : Reply). is_ending v ≡ true) (when b u ++ us)
when_ends true u us e a = (e, a)
when_ends false u us e a = a

all_ends : (p : Pending) → AllByRecursion (λ (u : Reply). is_ending u ≡ true) (ends_in p)
all_ends p = when_ends p.close_ok reply.CloseOk (last_closes p) refl (by p.close p.no_memory)
  where
    last : (b : Bool) → AllByRecursion (λ (u : Reply). is_ending u ≡ true) (when b reply.NoMemory)
    last true = (refl, tt)
    last false = tt

    by : (o : Option Refusal) (b : Bool) → AllByRecursion (λ (u : Reply). is_ending u ≡ true) (closes o ++ when b reply.NoMemory)
    by None b = last b
    by (Some r) b = (refl, last b)

-- where the container is through, nothing is
none_settled : (w : State) → NoRow w → is_settled w ≡ true → rows w.pending ≡ []
none_settled w none e =
    rows_are (is_settled w) w.pending none.opening
    ∙ ap (λ (b : Bool). close_oks (may_go b w.pending) ++ last_closes (may_go b w.pending)) (sym e)
    ∙ ap (λ (us : List Reply). us ++ last_closes (pending_in w)) none.ok ∙ none.close

record UntilMemory (h : List Step) : Type 0 where
  picks : ArePicks (until_memory h)
  calm : ran_out_in (until_memory h) ≡ false

until : (h : List Step) → ArePicks h → ran_out_in h ≡ true → UntilMemory h
until [] p e = absurd cc
until (OutOfMemory ∷ h) p e = record { picks = p.1; calm = p.0 }
until (s ∷ h) p e = let u = until h p.1 e in record { picks = u.picks; calm = u.calm }

replied : (h : List Step) → ArePicks h → NoRow (before h) → IsReplied h
replied h p none = record {
  opening = λ m. record { rest = ends_in (before h).pending; ends = all_ends (before h).pending; all_but = record { are = opened m } };
  all = λ m s. record { are = subst (λ (us : List Reply). AreReplies (replies h) (answers_of (sent h) ++ us) (has_left (connection h).stream)) (none_settled (before h) none (settles h (known h p) s)) ((answered h p).all m) };
  last = λ m. let u = until h p m in record {
    rest = rows (before (until_memory h)).pending;
    all_but = record { are = (answered (until_memory h) u.picks).all u.calm };
    last = sym (append-nil _) ∙ sym (ap (λ (us : List Reply). answers_of (sent_since h) ++ us) (none_settled (before h) none (settles h (known h p) (RanOut m)))) ∙ (answered h p).last m;
  };
}
  where
    opened : ran_out_in h ≡ false → AreReplies (replies h) (answers_of (sent h) ++ ends_in (before h).pending) (has_left (connection h).stream)
    opened m =
        subst (λ (us : List Reply). AreReplies (replies h) (answers_of (sent h) ++ us) (has_left (connection h).stream))
        (rows_are (is_settled (before h)) (before h).pending none.opening) ((answered h p).all m)

-- ---- the law

module _ (frames : ContentIs) (ends : ClosedEnds) (begun : BegunBelow) (delivers : DeliversHold) (publishes : PublishesAre) (returned : ReturnsAre) (texts : BacksAre) where
  none_goes_back : (h : List Step) → ArePicks h → NoRow (before h) → ran_out_in h ≡ false → (is_closing (connection h) ≡ false) ⊎ (ended_by_container h ≡ true)
      → (n number : ℕ) → IsReturned h n number → ⊥
  none_goes_back h p none memory on n number =
      none_returned frames ends begun delivers publishes returned texts h p (if_so_none (may_return (before h)) (contents (before h)) may none.content) n number
      (λ least. ap (λ (b : Bool). may_go_on b (life_at (before h).lives n)) all)
    where
      all : may_confirm_all (before h) ≡ true
      all = tells_all h p memory on

      may : may_return (before h) ≡ true
      may = ap (λ (b : Bool). not b && may_confirm_some (before h)) (memory_is (known h p) ∙ memory) ∙ ap (λ (b : Bool). b || may_end (before h)) all

  none_parted : (h : List Step) → ArePicks h → NoRow (before h) → MayEnd h → (n number : ℕ) → by_container h n ≡ true → closes_since n h ≡ 0
      → IsReturned h n number → ⊥
  none_parted h p none m n number c z x =
      none_returned frames ends begun delivers publishes returned texts h p (if_so_none (may_return (before h)) (contents (before h)) may none.content) n number
      (λ least. goes_with _ (life_at (before h).lives n) (closed_goes h n (below least) p (ap is_some x.lives) z c)) x
    where
      below : n ≤ CHANNEL_MAX → n < 256
      below least = let most : CHANNEL_MAX ≡ 255 = refl in omega (arith, least, most)

      may : may_return (before h) ≡ true
      may = ap (λ (b : Bool). not b && may_confirm_some (before h)) (memory_is (known h p) ∙ m.memory) ∙ or_right (may_confirm_all (before h)) _ (may_end_now h p m)

  pub ends_clients : (h : List Step) → ArePicks h → EndsClients h
  ends_clients h p e = record { channels = λ n less. owes_none h n less p none; connection = replied h p none; returns = none_goes_back h p none; parted = none_parted h p none }
    where
      none : NoRow (before h)
      none = no_row (before h) e
