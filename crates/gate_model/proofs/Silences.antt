-- An end is given up exactly where the folds say so.
use Rattle.std.proofs.Common.{◌≡◌, ◌∙◌, ℕ, ◌+◌, ◌-◌, ◌*◌, ◌==◌, ◌<◌, ◌≤◌, nat_le, Bool, true, false}
use Rattle.std.proofs.Common.{not, ◌&&◌, ◌||◌, if◌then◌else◌, List, [], ◌∷◌, Option, None, Some, refl, sym, ap, subst, arith}
use Rattle.std.proofs.lemmas.Bool.Decides.{nat_tests}
use Rattle.gate_outside.specs.declared.ports.End.TheVariants.{Client, Up}
use Rattle.gate_outside.specs.declared.ports.Linked.TheVariants as link
use Rattle.gate_relay.specs.Sides.{is_readable}
use Rattle.gate_relay.specs.declared.loss.Loss.TheVariants as loss
use Rattle.machine_091.specs.State.{is_closing, is_opening}
use Rattle.machine_091.specs.declared.state.Connection.{Connection}
use Rattle.machine_091.specs.declared.unit.Unit91.{Unit91}
use Rattle.machine_10.specs.Transitions as ten
use Rattle.machine_10.specs.Transitions.{Meaning}
use Rattle.performatives_10.specs.declared.condition.Condition.{Condition}
use Rattle.gate_model.specs.declared.outgoing.Outgoing.TheVariants.{ToClient}
use Rattle.gate_model.specs.declared.timers.TheConstants.{SILENCE_PER_SECOND, UP_SILENCE}
use Rattle.gate_model.specs.Due.{is_awaiting, is_silent, is_silent_by}
use Rattle.gate_model.specs.Folds.{connection, given_up_in, gone_in, moment_in, ran_out_in, up_fed_at}
use Rattle.gate_model.specs.Picks.{ArePicks}
use Rattle.gate_model.specs.Silence.{fed_in, MayGiveUp, MayGiveUpUp, SilentAtOnce, SilentWhenDue}
use Rattle.gate_model.specs.State.{Began, Came, Fed, Gave, Heard, Joined, Lost, Moment}
use Rattle.gate_model.specs.State.{Queued, Silent, State, Step, TakenUp, Whole, before, came}
use Rattle.gate_model.specs.State.{dequeued, fail, failed, fed_by, heard, is_held, left, runs, sessions_lost, told, windowed, with_meaning}
use Rattle.gate_model.specs.Upstream.{heard_up, meaning_by}
use Rattle.gate_model.proofs.Basics.{and_both, and_left, and_right, not_true}
use Rattle.gate_model.proofs.Connections.{clash}
use Rattle.gate_model.proofs.Known.{Known, conn_is, known, memory_is, moment_is, side_is, silent_is, up_fed_is}
use Rattle.gate_model.proofs.Sessions.{session_cases}

-- ---- what the state keeps of the client's end

record End : Type 0 where
  fed : ℕ
  given : Bool
  gone : Bool

abbrev end_of : State → End
end_of w = record { fed = w.fed_at; given = w.given_up; gone = w.gone }

abbrev end_in : List Step → End
end_in h = record { fed = fed_in h; given = given_up_in h; gone = gone_in h }

end_fail : (code : ℕ) (why : Option Condition) (w : State) → end_of (fail code why w) ≡ end_of w
end_fail code why w = by (is_closing w.conn)
  where
    by : (b : Bool) → end_of (if b then sessions_lost w else failed code why w) ≡ end_of w
    by true = refl
    by false = refl

end_meaning : (m : Meaning) (w : State) → end_of (with_meaning m w) ≡ end_of w
end_meaning ten.Nothing w = refl
end_meaning ten.Init w = refl
end_meaning ten.AmqpHeader w = refl
end_meaning ten.Opened w = by (is_opening w.conn)
  where
    by : (b : Bool) → end_of (if b then runs w else w) ≡ end_of w
    by true = refl
    by false = refl
end_meaning (ten.OfSession g p payload) w = session_cases (λ (v : State). end_of v ≡ end_of w) g p payload w (record {
  begins = refl;
  stays = refl;
  ends = λ code why. refl;
  parts = refl;
  drops = λ code why. refl;
  fails = λ why. end_fail _ why (windowed g p w);
})
end_meaning (ten.Closed x) w = end_fail _ None w
end_meaning ten.Refused w = end_fail _ None w
end_meaning (ten.Violation c) w = end_fail _ (Some c) w

end_if : (b : Bool) (w v : State) → end_of v ≡ end_of w → end_of (if b then w else v) ≡ end_of w
end_if true w v e = refl
end_if false w v e = e

end_left : (b : Bool) (w : State) → end_of (if b then left w else w) ≡ end_of w
end_left true w = refl
end_left false w = refl

-- a unit that is taken up may hold it
end_came : (w : State) (u : Unit91) (n : Bool) (x : End) → w.out_of_memory ≡ n → end_of w ≡ x
    → end_of (if w.out_of_memory then w else came (dequeued w) u)
    ≡ record x { fed = if not n && is_held (if w.out_of_memory then w else came (dequeued w) u) then w.moment else x.fed }
end_came w u n x m e = by w.out_of_memory n m
  where
    held : (b : Bool) → record (end_of w) { fed = fed_by b w.moment w.fed_at } ≡ record x { fed = if b then w.moment else x.fed }
    held true = ap (λ (y : End). record y { fed = w.moment }) e
    held false = e

    by : (b c : Bool) → b ≡ c
        → end_of (if b then w else came (dequeued w) u) ≡ record x { fed = if not c && is_held (if b then w else came (dequeued w) u) then w.moment else x.fed }
    by true true f = e
    by true false f = absurd cc
    by false true f = absurd cc
    by false false f = held (is_held (came (dequeued w) u))

end_told : (w : State) (ms : ℕ) (x : End) → end_of w ≡ x → end_of (told w ms) ≡ record x { fed = if is_held w then ms else x.fed }
end_told w ms x e = by (is_held w)
  where
    by : (b : Bool) → record (end_of w) { fed = fed_by b ms w.fed_at } ≡ record x { fed = if b then ms else x.fed }
    by true = ap (λ (y : End). record y { fed = ms }) e
    by false = e

end_is : (h : List Step) → ArePicks h → end_of (before h) ≡ end_in h
end_is [] p = refl
end_is (Began site n ms ∷ h) p = ap (λ (x : End). record x { fed = ms }) (end_is h p.1)
end_is (Moment ms ∷ h) p = end_told (before h) ms (end_in h) (end_is h p.1)
end_is (Fed Client ∷ h) p =
    ap (λ (x : End). record x { fed = (before h).moment }) (end_is h p.1) ∙ ap (λ (n : ℕ). record (end_in h) { fed = n }) (moment_is (known h p.1))
end_is (Silent Client ∷ h) p = ap (λ (x : End). record x { given = true }) (end_is h p.1)
end_is (Silent Up ∷ h) p = end_fail _ _ _ ∙ end_is h p.1
end_is (Queued u ∷ h) p = end_if (before h).out_of_memory (before h) _ refl ∙ end_is h p.1
end_is (Came u ∷ h) p =
    let k : Known h = known h p.1 in
    end_came (before h) u (ran_out_in h) (end_in h) (memory_is k) (end_is h p.1)
    ∙ ap (λ (n : ℕ). record (end_in h) { fed = if not (ran_out_in h) && is_held (before (Came u ∷ h)) then n else fed_in h }) (moment_is k)
end_is (TakenUp ∷ h) p = end_left _ (before h) ∙ end_is h p.1
end_is (Heard u ∷ h) p =
    let w : State = before h in
    end_if w.out_of_memory w (heard w u) (end_meaning (meaning_by w.up.container u) (record w { up = heard_up u w.up })) ∙ end_is h p.1
end_is (Joined link.Failed ∷ h) p = end_fail _ None _ ∙ end_is h p.1
end_is (Lost Client loss.Shut ∷ h) p = ap (λ (x : End). record x { gone = true }) (end_is h p.1)
end_is (Lost Up loss.Ended ∷ h) p = end_fail _ None _ ∙ end_is h p.1
end_is (Lost Up loss.Failed ∷ h) p = end_fail _ None _ ∙ end_is h p.1
end_is (Gave (ToClient u) text ∷ h) p = end_is h p.1
end_is (Whole Client ∷ h) p = end_is h p.1
end_is (s ∷ h) p = end_is h p.1

pub fed_is : (h : List Step) → ArePicks h → (before h).fed_at ≡ fed_in h
fed_is h p = ap (λ (x : End). x.fed) (end_is h p)

pub given_is : (h : List Step) → ArePicks h → (before h).given_up ≡ given_up_in h
given_is h p = ap (λ (x : End). x.given) (end_is h p)

pub gone_is : (h : List Step) → ArePicks h → (before h).gone ≡ gone_in h
gone_is h p = ap (λ (x : End). x.gone) (end_is h p)

-- ---- both ways

record Long (interval ms fed : ℕ) : Type 0 where
  agreed : 0 < interval
  quiet : fed + SILENCE_PER_SECOND * interval ≤ ms

long_by : (interval ms fed : ℕ) → is_silent_by interval ms fed ≡ true → Long interval ms fed
long_by interval ms fed e =
    let some : not (interval == 0) ≡ true = and_left (not (interval == 0)) _ e in
    let agreed : 0 < interval = grind (arith, nat_tests, some) in
    let much : 0 < SILENCE_PER_SECOND * interval = omega (arith, agreed) in
    let over : nat_le (SILENCE_PER_SECOND * interval) (ms - fed) ≡ true = and_right (not (interval == 0)) _ e in
    record { agreed = agreed; quiet = passed (SILENCE_PER_SECOND * interval) ms fed much over }
  where
    passed : (n ms fed : ℕ) → 0 < n → nat_le n (ms - fed) ≡ true → fed + n ≤ ms
    passed n ms fed e f = grind (arith, nat_tests, e, f)

long_is : (interval ms fed : ℕ) → Long interval ms fed → is_silent_by interval ms fed ≡ true
long_is interval ms fed l =
    let agreed : 0 < interval = l.agreed in
    let some : not (interval == 0) ≡ true = grind (arith, nat_tests, agreed) in
    and_both (not (interval == 0)) (nat_le (SILENCE_PER_SECOND * interval) (ms - fed)) some (over (SILENCE_PER_SECOND * interval) ms fed l.quiet)
  where
    over : (n ms fed : ℕ) → fed + n ≤ ms → nat_le n (ms - fed) ≡ true
    over n ms fed e = grind (arith, nat_tests, e)

client_long : (h : List Step) → ArePicks h → Long (before h).conn.limits.heartbeat (before h).moment (before h).fed_at ≡ Long (connection h).limits.heartbeat (moment_in h) (fed_in h)
client_long h p =
    ap (λ (c : Connection). Long c.limits.heartbeat (before h).moment (before h).fed_at) (conn_is (known h p))
    ∙ ap (λ (n : ℕ). Long (connection h).limits.heartbeat n (before h).fed_at) (moment_is (known h p))
    ∙ ap (λ (n : ℕ). Long (connection h).limits.heartbeat (moment_in h) n) (fed_is h p)

-- what stands against that, by the state and by the folds
abbrev none_against : Bool → Bool → Bool → Bool → Bool
none_against given gone leaving memory = not (given || (gone || (leaving || memory)))

record Free (given gone leaving memory : Bool) : Type 0 where
  once : given ≡ false
  stands : gone ≡ false
  stays : leaving ≡ false
  calm : memory ≡ false

free_by : (given gone leaving memory : Bool) → none_against given gone leaving memory ≡ true → Free given gone leaving memory
free_by true b c d e = absurd cc
free_by false true c d e = absurd cc
free_by false false true d e = absurd cc
free_by false false false true e = absurd cc
free_by false false false false e = record { once = refl; stands = refl; stays = refl; calm = refl }

free_is : (given gone leaving memory : Bool) → Free given gone leaving memory → none_against given gone leaving memory ≡ true
free_is true b c d f = absurd (clash _ refl f.once)
free_is false true c d f = absurd (clash _ refl f.stands)
free_is false false true d f = absurd (clash _ refl f.stays)
free_is false false false true f = absurd (clash _ refl f.calm)
free_is false false false false f = refl

client_by : (h : List Step) → ArePicks h → is_silent (before h) Client ≡ true → MayGiveUp h
client_by h p e =
    let w : State = before h in
    let rest : (none_against w.given_up w.gone w.leaving w.out_of_memory && is_silent_by w.conn.limits.heartbeat w.moment w.fed_at) ≡ true =
    and_right (is_awaiting w Client) _ e in
    let free : Free w.given_up w.gone w.leaving w.out_of_memory =
    free_by _ _ _ _ (and_left (none_against w.given_up w.gone w.leaving w.out_of_memory) _ rest) in
    let long : Long (connection h).limits.heartbeat (moment_in h) (fed_in h) =
    subst (λ (x : Type 0). x) (client_long h p) (long_by _ _ _ (and_right (none_against w.given_up w.gone w.leaving w.out_of_memory) _ rest)) in
    record {
      read = and_left (is_awaiting w Client) _ e;
      once = sym (given_is h p) ∙ free.once;
      stands = sym (gone_is h p) ∙ free.stands;
      stays = free.stays;
      calm = sym (memory_is (known h p)) ∙ free.calm;
      agreed = long.agreed;
      quiet = long.quiet;
    }

client_is : (h : List Step) → ArePicks h → MayGiveUp h → is_silent (before h) Client ≡ true
client_is h p m =
    let w : State = before h in
    let long : Long w.conn.limits.heartbeat w.moment w.fed_at =
    subst (λ (x : Type 0). x) (sym (client_long h p)) (record { agreed = m.agreed; quiet = m.quiet }) in
    let free : Free w.given_up w.gone w.leaving w.out_of_memory =
    record { once = given_is h p ∙ m.once; stands = gone_is h p ∙ m.stands; stays = m.stays; calm = memory_is (known h p) ∙ m.calm } in
    and_both (is_awaiting w Client) _ m.read
    (and_both (none_against w.given_up w.gone w.leaving w.out_of_memory) _ (free_is _ _ _ _ free) (long_is _ _ _ long))

is_not : (a : Bool) → a ≡ false → not a ≡ true
is_not true e = absurd cc
is_not false e = refl

up_passed : (ms fed : ℕ) → nat_le UP_SILENCE (ms - fed) ≡ true → fed + UP_SILENCE ≤ ms
up_passed ms fed e = grind (arith, nat_tests, e)

up_over : (ms fed : ℕ) → fed + UP_SILENCE ≤ ms → nat_le UP_SILENCE (ms - fed) ≡ true
up_over ms fed e = grind (arith, nat_tests, e)

up_by : (h : List Step) → ArePicks h → is_silent (before h) Up ≡ true → MayGiveUpUp h
up_by h p e =
    let w : State = before h in
    let k : Known h = known h p in
    let rest : (not w.up.silent && nat_le UP_SILENCE (w.moment - w.up.fed_at)) ≡ true = and_right (is_readable w.up.side) _ e in
    record {
      readable = ap is_readable (sym (side_is k)) ∙ and_left (is_readable w.up.side) _ e;
      once = sym (silent_is k) ∙ not_true w.up.silent (and_left (not w.up.silent) _ rest);
      quiet = subst (λ (n : ℕ). n + UP_SILENCE ≤ moment_in h) (up_fed_is k)
          (subst (λ (n : ℕ). w.up.fed_at + UP_SILENCE ≤ n) (moment_is k) (up_passed w.moment w.up.fed_at (and_right (not w.up.silent) _ rest)));
    }

up_is : (h : List Step) → ArePicks h → MayGiveUpUp h → is_silent (before h) Up ≡ true
up_is h p m =
    let w : State = before h in
    let k : Known h = known h p in
    let quiet : w.up.fed_at + UP_SILENCE ≤ w.moment =
    subst (λ (n : ℕ). n + UP_SILENCE ≤ w.moment) (sym (up_fed_is k)) (subst (λ (n : ℕ). up_fed_at h + UP_SILENCE ≤ n) (sym (moment_is k)) m.quiet) in
    and_both (is_readable w.up.side) _ (ap is_readable (side_is k) ∙ m.readable)
    (and_both (not w.up.silent) _ (is_not w.up.silent (silent_is k ∙ m.once)) (up_over w.moment w.up.fed_at quiet))

pub silent_at_once : (h : List Step) → ArePicks h → SilentAtOnce h
silent_at_once h p = record { client = (client_by h p, client_is h p); up = (up_by h p, up_is h p) }

pub silent_when_due : (h : List Step) → ArePicks h → SilentWhenDue h
silent_when_due [] p = tt
silent_when_due (Silent Client ∷ h) p = (client_by h p.1 p.0, silent_when_due h p.1)
silent_when_due (Silent Up ∷ h) p = (up_by h p.1 p.0, silent_when_due h p.1)
silent_when_due (s ∷ h) p = silent_when_due h p.1
