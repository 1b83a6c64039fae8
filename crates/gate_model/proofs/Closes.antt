-- A life of a channel has one channel.close at most: it is due for what closed the channel, which was open.
use Rattle.property_map.specs.declared.told.Told.{Told}
use Rattle.std.proofs.Common.{◌≡◌, ℕ, ◌+◌, ◌==◌, ◌<◌, ◌≤◌, ◌&&◌, Bool, true, false, if◌then◌else◌, List, [], ◌∷◌, Option, None, Some, is_some}
use Rattle.std.proofs.Common.{refl, ap, ◌∙◌, arith, subst}
use Rattle.std.proofs.lemmas.Bool.Decides.{nat_tests}
use Rattle.machine_091.specs.State.{is_open}
use Rattle.machine_091.specs.declared.limits.TheConstants.{CHANNEL_MAX}
use Rattle.machine_091.specs.declared.state.Connection.{Connection}
use Rattle.machine_091.specs.declared.unit.Want91.{Want91}
use Rattle.machine_091.specs.declared.unit.Want91.TheVariants as want
use Rattle.machine_10.specs.Transitions as ten
use Rattle.machine_10.specs.Transitions.{Meaning}
use Rattle.gate_model.specs.Begins.{begun_at}
use Rattle.gate_model.specs.Closes.{ClosesALifeOnce, closes_since, tells_close}
use Rattle.gate_model.specs.Dues.{begins_session}
use Rattle.gate_model.specs.Folds.{Peers, connection, container, paths_in, peers, ran_out_in, routes_in}
use Rattle.gate_model.specs.Lives.{is_of_channel, life_at}
use Rattle.gate_model.specs.Once.{one_if}
use Rattle.gate_model.specs.Picks.{ArePicks}
use Rattle.gate_model.specs.Publishing.{opens_channel, path_life}
use Rattle.gate_model.specs.Reasons.{reason_at, reason_meant, reason_wanted}
use Rattle.gate_model.specs.Requests.{client_told}
use Rattle.gate_model.specs.State.{Came, Gave, Heard, Step, before, want_in}
use Rattle.gate_model.specs.Takes.{left_at}
use Rattle.gate_model.specs.Upstream.{meaning_by}
use Rattle.gate_model.specs.declared.life.Life.{Life}
use Rattle.gate_model.specs.declared.outgoing.Outgoing.TheVariants.{ToClient, ToUp}
use Rattle.gate_model.specs.declared.reply.Reason.{Reason}
use Rattle.gate_model.specs.declared.reply.Reply.{Reply}
use Rattle.gate_model.specs.declared.reply.Reply.TheVariants as reply
use Rattle.gate_model.proofs.Known.{conn_is, known}
use Rattle.gate_model.proofs.Living.{LeavesIn, none_due, opened_asks, step_leaves, was_open}
use Rattle.gate_model.proofs.Places.{itself}
use Rattle.gate_model.proofs.Reasoning.{Closes, Drops, IsClose, IsDueClose, Others, Says, Stays, Tells, close_gone, due_picked, is_close, step_says}
use Rattle.gate_model.proofs.Refusing.{StandsOpen, client_stands}
use Rattle.gate_model.proofs.Rests.{LivesBelow}
use Rattle.gate_model.proofs.Said.{picked}

-- ---- what closes a channel found it open

wanted_open : (n : ℕ) (told : Option Told) (c : Connection) (x : Want91) (r : Reason) → StandsOpen c x → reason_wanted n told x ≡ Some r → is_open c n ≡ true
wanted_open n told c (want.Refuse q) r s e = by (is_of_channel q) (q.channel == n) refl refl e
  where
    by : (a b : Bool) → is_of_channel q ≡ a → (q.channel == n) ≡ b → (if a && b then Some (record { refusal = q; told = told }) else None) ≡ Some r → is_open c n ≡ true
    by true true f g i = let here : q.channel ≡ n = grind (arith, nat_tests, g) in subst (λ (k : ℕ). is_open c k ≡ true) here (s f)
    by true false f g i = absurd cc
    by false b f g i = absurd cc
wanted_open n told c x r s e = absurd cc

meant_open : (n : ℕ) (o : Peers) (m : Meaning) (r : Reason) → reason_meant o n m ≡ Some r → is_open o.client n ≡ true
meant_open n o (ten.OfSession k q payload) r e = by (k == n) (is_open o.client n) _ e
  where
    by : (a b : Bool) (x : Option Reason) → (if a && b then x else None) ≡ Some r → b ≡ true
    by true true x f = refl
    by true false x f = absurd cc
    by false b x f = absurd cc
meant_open n o m r e = absurd cc

reason_open : (n : ℕ) (s : Step) (h : List Step) (r : Reason) → reason_at n h s ≡ Some r → is_open (connection h) n ≡ true
reason_open n (Came u) h r e = by (ran_out_in h) e
  where
    by : (b : Bool) → (if b then None else reason_wanted n (client_told (routes_in h) (connection h) u) (want_in (routes_in h) (paths_in h) (connection h) u)) ≡ Some r
        → is_open (connection h) n ≡ true
    by true f = absurd cc
    by false f = wanted_open n _ (connection h) _ r (client_stands (routes_in h) (paths_in h) (connection h) u) f
reason_open n (Heard u) h r e = by (ran_out_in h) e
  where
    by : (b : Bool) → (if b then None else reason_meant (peers h) n (meaning_by (container h) u)) ≡ Some r → is_open (connection h) n ≡ true
    by true f = absurd cc
    by false f = meant_open n (peers h) (meaning_by (container h) u) r f
reason_open n s h r e = absurd cc

-- ---- how many went, and how many are due

abbrev due_on : ℕ → List Step → ℕ
due_on n h = one_if (is_some (life_at (before h).lives n).close)

record Counts (n : ℕ) (h : List Step) : Type 0 where
  once : closes_since n h + due_on n h ≤ 1
  none : is_open (before h).conn n ≡ true → closes_since n h + due_on n h ≡ 0

no_close : (l : Life) → l.close ≡ None → one_if (is_some l.close) ≡ 0
no_close l e = ap (λ (o : Option Reason). one_if (is_some o)) e

due_none : (o : Option Reason) (k : ℕ) → k + one_if (is_some o) ≡ 0 → o ≡ None
due_none None k e = refl
due_none (Some r) k e = absurd (omega (arith, e))

-- a step that opens no channel n, on which no channel.close goes
quiet_counts : (n : ℕ) (s : Step) (h : List Step) → n < 256 → ArePicks (s ∷ h) → is_some (path_life h n) ≡ true → opens_channel n h s ≡ false → tells_close n s ≡ false
    → Counts n h → Counts n (s ∷ h)
quiet_counts n s h less p there e f old = record { once = by (step_says n s h less p); none = stays (step_leaves n s h less p there e) }
  where
    same : closes_since n (s ∷ h) ≡ closes_since n h
    same =
        let none : one_if (tells_close n s) ≡ 0 = ap one_if f in
        let here : closes_since n (s ∷ h) ≡ closes_since n h + one_if (tells_close n s) =
        ap (λ (b : Bool). if b then 0 else closes_since n h + one_if (tells_close n s)) e in
        omega (arith, none, here)

    by : Says (reason_at n h s) (life_at (before h).lives n) (life_at (before (s ∷ h)).lives n) → closes_since n (s ∷ h) + due_on n (s ∷ h) ≤ 1
    by (Stays g i) =
        let due : due_on n (s ∷ h) ≡ due_on n h = ap (λ (o : Option Reason). one_if (is_some o)) i in
        let was : closes_since n h + due_on n h ≤ 1 = old.once in omega (arith, same, due, was)
    by (Drops g) =
        let due : due_on n (s ∷ h) ≡ 0 = no_close (life_at (before (s ∷ h)).lives n) g in
        let was : closes_since n h + due_on n h ≤ 1 = old.once in omega (arith, same, due, was)
    by (Tells r g i) =
        let due : due_on n (s ∷ h) ≡ 1 = ap (λ (o : Option Reason). one_if (is_some o)) i in
        let was : closes_since n h + due_on n h ≡ 0 =
        old.none (ap (λ (c : Connection). is_open c n) (conn_is (known h p.1)) ∙ reason_open n s h r g) in
        omega (arith, same, due, was)

    stays : LeavesIn (begun_at n h s) (left_at n h s) (begins_session n s) n (before h) (before (s ∷ h)) → is_open (before (s ∷ h)).conn n ≡ true → closes_since n (s ∷ h) + due_on n (s ∷ h) ≡ 0
    stays l on =
        let was : closes_since n h + due_on n h ≡ 0 = old.none (was_open l on) in
        let due : due_on n (s ∷ h) ≡ 0 = no_close (life_at (before (s ∷ h)).lives n) (none_due l on (due_none (life_at (before h).lives n).close (closes_since n h) was)) in
        omega (arith, same, due, was)

-- a channel.close that goes is due no more
told_counts : (n : ℕ) (h : List Step) (r : Reason) (text : List ℕ) → n < 256 → ArePicks (Gave (ToClient (reply.ChannelClose n r)) text ∷ h) → is_some (path_life h n) ≡ true
    → (life_at (before h).lives n).close ≡ Some r → Counts n h → Counts n (Gave (ToClient (reply.ChannelClose n r)) text ∷ h)
told_counts n h r text less p there d old =
    let was : due_on n h ≡ 1 = ap (λ (o : Option Reason). one_if (is_some o)) d in
    let is : due_on n (Gave (ToClient (reply.ChannelClose n r)) text ∷ h) ≡ 0 = ap (λ (o : Option Reason). one_if (is_some o)) (close_gone n (before h).lives) in
    let one : one_if (n == n) ≡ 1 = ap one_if (itself n) in
    let most : closes_since n h + due_on n h ≤ 1 = old.once in
    record { once = omega (arith, was, is, one, most); none = shut (step_leaves n (Gave (ToClient (reply.ChannelClose n r)) text) h less p there refl) }
  where
    shut : LeavesIn None None false n (before h) (before (Gave (ToClient (reply.ChannelClose n r)) text ∷ h)) → is_open (before (Gave (ToClient (reply.ChannelClose n r)) text ∷ h)).conn n ≡ true
        → closes_since n (Gave (ToClient (reply.ChannelClose n r)) text ∷ h) + due_on n (Gave (ToClient (reply.ChannelClose n r)) text ∷ h) ≡ 0
    shut l on =
        let none : closes_since n h + due_on n h ≡ 0 = old.none (was_open l on) in
        let was : due_on n h ≡ 1 = ap (λ (o : Option Reason). one_if (is_some o)) d in
        absurd (omega (arith, none, was))

given_counts : (n : ℕ) (h : List Step) (u : Reply) (text : List ℕ) → n < 256 → ArePicks (Gave (ToClient u) text ∷ h) → is_some (path_life h n) ≡ true
    → IsDueClose (before h).lives u → Counts n h → Counts n (Gave (ToClient u) text ∷ h)
given_counts n h u text less p there d old = by u (is_close n u) p d
  where
    by : (u : Reply) → IsClose n u → ArePicks (Gave (ToClient u) text ∷ h) → IsDueClose (before h).lives u → Counts n (Gave (ToClient u) text ∷ h)
    by _ (Closes r) q d = told_counts n h r text less q there d old
    by u (Others x e) q d = quiet_counts n (Gave (ToClient u) text) h less q there refl e old

step_counts : (n : ℕ) (s : Step) (h : List Step) → n < 256 → ArePicks (s ∷ h) → is_some (path_life h n) ≡ true → opens_channel n h s ≡ false → Counts n h → Counts n (s ∷ h)
step_counts n (Gave (ToClient u) text) h less p there e old = given_counts n h u text less p there (due_picked h u p.1 (picked (before h) u p.0.1)) old
step_counts n (Gave (ToUp u) text) h less p there e old = quiet_counts n (Gave (ToUp u) text) h less p there e refl old
step_counts n s h less p there e old = quiet_counts n s h less p there e refl old

counts : (n : ℕ) (h : List Step) → n < 256 → ArePicks h → is_some (path_life h n) ≡ true → Counts n h
counts n [] less p there = absurd cc
counts n (s ∷ h) less p there = by (counts n h less p.1) (opens_channel n h s) refl there
  where
    opened : opens_channel n h s ≡ true → closes_since n (s ∷ h) + due_on n (s ∷ h) ≡ 0
    opened e =
        let went : closes_since n (s ∷ h) ≡ 0 = ap (λ (b : Bool). if b then 0 else closes_since n h + one_if (tells_close n s)) e in
        let due : due_on n (s ∷ h) ≡ 0 = no_close (life_at (before (s ∷ h)).lives n) (opened_asks n s h less p.1 e).close in
        omega (arith, went, due)

    by : (is_some (path_life h n) ≡ true → Counts n h) → (b : Bool) → opens_channel n h s ≡ b
        → is_some (if b then Some ((peers h).opened + 1) else path_life h n) ≡ true → Counts n (s ∷ h)
    by old true e t = let none = opened e in record { once = omega (arith, none); none = λ on. none }
    by old false e t = step_counts n s h less p t e (old t)

pub closes_a_life_once : LivesBelow → (h : List Step) → ArePicks h → ClosesALifeOnce h
closes_a_life_once below h p n life l =
    let less : n ≤ CHANNEL_MAX = below h n life l in
    let most : CHANNEL_MAX ≡ 255 = refl in
    let x : closes_since n h + due_on n h ≤ 1 = (counts n h (omega (arith, less, most)) p (ap is_some l)).once in
    omega (arith, x)
