-- What the entries say of the accept, of the ends and of the moment at which each took its last byte is what their steps say.
use Rattle.std.proofs.Common.{◌≡◌, ◌∙◌, ℕ, Bool, true, false, if◌then◌else◌, List, [], ◌∷◌, ◌++◌}
use Rattle.std.proofs.Common.{drop, length, nat_lt, map, Option, None, Some, refl, sym, ap, subst}
use Rattle.std.specs.Prelude.{is_some}
use Rattle.std.specs.Option.{option_map}
use Rattle.gate_outside.specs.declared.ports.End.{End}
use Rattle.gate_outside.specs.declared.ports.End.TheVariants.{Client, Up}
use Rattle.gate_outside.specs.declared.ports.Linked.{Linked}
use Rattle.gate_outside.specs.declared.ports.Linked.TheVariants as link
use Rattle.gate_relay.specs.declared.loss.Loss.{Loss}
use Rattle.gate_relay.specs.declared.loss.Loss.TheVariants as loss
use Rattle.gate_relay.specs.declared.sides.Side.{Side}
use Rattle.gate_relay.specs.declared.sides.Side.TheVariants as side
use Rattle.gate_relay.specs.Entries as entry
use Rattle.gate_relay.specs.Entries.{Entry, moment_of}
use Rattle.gate_relay.specs.Relayed.{IsRelayed}
use Rattle.gate_relay.specs.Sides.{is_writable, side_of, sides}
use Rattle.performatives_10.specs.declared.condition.Condition.{Condition}
use Rattle.machine_091.specs.State.{is_closing}
use Rattle.gate_model.specs.declared.outgoing.Outgoing.TheVariants.{ToClient, ToUp}
use Rattle.gate_model.specs.declared.outgoing.UpUnit.{UpUnit}
use Rattle.gate_model.specs.declared.reply.Reply.{Reply}
use Rattle.gate_model.specs.Due.{carries_up, client_rows, is_busy, up_rows, carries_back}
use Rattle.gate_model.specs.Folds.{accepted_in, failed_in, moment_in, sent_at, sent_up_at, side_in}
use Rattle.gate_model.specs.Setup.{SetupText}
use Rattle.gate_model.specs.State as state
use Rattle.gate_model.specs.Paths.{told_paths}
use Rattle.gate_model.specs.State.{State, Step, Came, Gave, Heard, Joined, Lost, TakenUp, Whole}
use Rattle.gate_model.specs.State.{before}
use Rattle.gate_model.specs.Upstream.{UpState, closing_with, first, shut_by}
use Rattle.gate_pair.specs.Meaning.{begins, ends, given, offered, pair_words, spelled_in, state_of}
use Rattle.gate_pair.specs.Meaning.{steps_of, told}
use Rattle.gate_pair.specs.Times.{accepted_of, has_failed, last_taken_at, last_taken_up_at}
use Rattle.gate_pair.proofs.Picks.{offered_is}
use Rattle.gate_pair.proofs.Saids.{after_before}
use Rattle.gate_pair.proofs.Taken.{AreTaken, Leaves, all_leave, drop_taken, ended_taken}
use Rattle.gate_pair.proofs.Taken.{fail_leaves}
use Rattle.gate_pair.proofs.Taken.{fresh_taken, leave_folds, lost_leaves, moment_is, silent_leaves}
use Rattle.gate_pair.proofs.Ticks.{tick_all}

-- what entries say
pub record Clock : Type 0 where
  pub accepted : ℕ
  pub failed : Bool
  pub up : Side
  pub last : ℕ
  pub last_up : ℕ

abbrev pub clock : List Entry → Clock
clock h = record {
  accepted = accepted_of h;
  failed = has_failed h;
  up = side_of Up (sides h);
  last = last_taken_at h;
  last_up = last_taken_up_at h;
}

-- steps say the same; while a unit is in progress the moment at which its last byte goes isn't there yet
pub record AgreesIn (accepted : ℕ) (failed : Bool) (x : Side) (at up_at : ℕ) (busy busy_up : Bool) (c : Clock) : Type 0 where
  pub accepted_is : accepted ≡ c.accepted
  pub failed_is : failed ≡ c.failed
  pub side_is : x ≡ c.up
  pub at_is : busy ≡ false → at ≡ c.last
  pub up_at_is : busy_up ≡ false → up_at ≡ c.last_up

abbrev pub Agrees : List Step → Clock → Type 0
Agrees g c = AgreesIn (accepted_in g) (failed_in g) (side_in g) (sent_at g) (sent_up_at g) (is_busy (before g) Client) (is_busy (before g) Up) c

clashes : {P : Type 0} → true ≡ false → P
clashes e = absurd cc

-- ---- what is in progress

busy_is : {w v : State} → Leaves w v → is_busy v Client ≡ is_busy w Client
busy_is l = ap (λ (o : Option Reply). is_some (option_map ToClient o)) l.going_is

busy_up_is : {w v : State} → Leaves w v → is_busy v Up ≡ is_busy w Up
busy_up_is l = ap (λ (o : Option UpUnit). is_some (option_map ToUp o)) l.going_up_is

-- ---- steps that out of memory can take back

record LeavesUp (g h : List Step) : Type 0 where
  side_is : side_in (g ++ h) ≡ side_in h
  at_is : sent_up_at (g ++ h) ≡ sent_up_at h

leave_up : (g h : List Step) → AreTaken g → LeavesUp g h
leave_up [] h a = record { side_is = refl; at_is = refl }
leave_up (state.Began site n ms ∷ g) h a = absurd a.0
leave_up (state.Moment ms ∷ g) h a = absurd a.0
leave_up (state.Fed end ∷ g) h a = absurd a.0
leave_up (state.Silent end ∷ g) h a = absurd a.0
leave_up (state.Queued u ∷ g) h a = let x = leave_up g h a.1 in record { side_is = x.side_is; at_is = x.at_is }
leave_up (Came u ∷ g) h a = let x = leave_up g h a.1 in record { side_is = x.side_is; at_is = x.at_is }
leave_up (TakenUp ∷ g) h a = let x = leave_up g h a.1 in record { side_is = x.side_is; at_is = x.at_is }
leave_up (Heard u ∷ g) h a = let x = leave_up g h a.1 in record { side_is = x.side_is; at_is = x.at_is }
leave_up (Joined answer ∷ g) h a = absurd a.0
leave_up (Lost end how ∷ g) h a = absurd a.0
leave_up (Gave u text ∷ g) h a = absurd a.0
leave_up (Whole end ∷ g) h a = absurd a.0
leave_up (state.LinesTold ∷ g) h a = let x = leave_up g h a.1 in record { side_is = x.side_is; at_is = x.at_is }
leave_up (state.OutOfMemory ∷ g) h a = absurd a.0

leaves_of : (g h : List Step) → AreTaken g → Leaves (before h) (before (g ++ h))
leaves_of g h a = subst (Leaves (before h)) (sym (after_before g h)) (all_leave g (before h) a)

agrees_left : (g h : List Step) (c : Clock) → AreTaken g → Agrees h c → Agrees (g ++ h) c
agrees_left g h c a x =
    let f = leave_folds g h a in
    let u = leave_up g h a in
    let l = leaves_of g h a in
    record {
      accepted_is = f.accepted_is ∙ x.accepted_is;
      failed_is = f.failed_is ∙ x.failed_is;
      side_is = u.side_is ∙ x.side_is;
      at_is = λ e. f.sent_at_is ∙ x.at_is (sym (busy_is l) ∙ e);
      up_at_is = λ e. u.at_is ∙ x.up_at_is (sym (busy_up_is l) ∙ e);
    }

agrees_older : (g h : List Step) (c : Clock) → AreTaken g → Agrees (g ++ h) c → Agrees h c
agrees_older g h c a x =
    let f = leave_folds g h a in
    let u = leave_up g h a in
    let l = leaves_of g h a in
    record {
      accepted_is = sym f.accepted_is ∙ x.accepted_is;
      failed_is = sym f.failed_is ∙ x.failed_is;
      side_is = sym u.side_is ∙ x.side_is;
      at_is = λ e. sym f.sent_at_is ∙ x.at_is (busy_is l ∙ e);
      up_at_is = λ e. sym u.at_is ∙ x.up_at_is (busy_up_is l ∙ e);
    }

-- an entry that brought such steps alone
agrees_fresh : (s : SetupText) (e : Entry) (h : List Entry) (g : List Step) → (told s (e ∷ h)).past ≡ g → Agrees g (clock h)
    → Agrees (steps_of s (e ∷ h)) (clock h)
agrees_fresh s e h g past x =
    let t = told s (e ∷ h) in
    agrees_left t.fresh t.past (clock h) (fresh_taken s (e ∷ h)) (subst (λ (k : List Step). Agrees k (clock h)) (sym past) x)

-- an end that is given up
agrees_silent : (end : End) (g : List Step) (c : Clock) → Agrees g c → Agrees (state.Silent end ∷ g) c
agrees_silent end g c x =
    let l = silent_leaves end (before g) in
    record {
      accepted_is = x.accepted_is;
      failed_is = x.failed_is;
      side_is = x.side_is;
      at_is = λ e. x.at_is (sym (busy_is l) ∙ e);
      up_at_is = λ e. x.up_at_is (sym (busy_up_is l) ∙ e);
    }

-- ---- ends

agrees_lost : (g : List Step) (end : End) (how : Loss) (h : List Entry) → Agrees g (clock h) → Agrees (Lost end how ∷ g) (clock (entry.Lost end how ∷ h))
agrees_lost g Client loss.Ended h x = x
agrees_lost g Client loss.Failed h x = record { accepted_is = x.accepted_is; failed_is = refl; side_is = x.side_is; at_is = x.at_is; up_at_is = x.up_at_is }
agrees_lost g Client loss.Shut h x = x
agrees_lost g Up loss.Ended h x =
    let l = lost_leaves side.Ended (before g) in
    record {
      accepted_is = x.accepted_is;
      failed_is = x.failed_is;
      side_is = refl;
      at_is = λ e. x.at_is (sym (busy_is l) ∙ e);
      up_at_is = λ e. x.up_at_is (sym (busy_up_is l) ∙ e);
    }
agrees_lost g Up loss.Failed h x =
    let l = lost_leaves side.Failed (before g) in
    record {
      accepted_is = x.accepted_is;
      failed_is = x.failed_is;
      side_is = refl;
      at_is = λ e. x.at_is (sym (busy_is l) ∙ e);
      up_at_is = λ e. x.up_at_is (sym (busy_up_is l) ∙ e);
    }
agrees_lost g Up loss.Shut h x = record { accepted_is = x.accepted_is; failed_is = x.failed_is; side_is = refl; at_is = x.at_is; up_at_is = x.up_at_is }

agrees_joined : (g : List Step) (answer : Linked) (h : List Entry) → moment_in g ≡ moment_of h → Agrees g (clock h) → Agrees (Joined answer ∷ g) (clock (entry.Joined answer ∷ h))
agrees_joined g link.Ok h m x = record { accepted_is = x.accepted_is; failed_is = x.failed_is; side_is = refl; at_is = x.at_is; up_at_is = λ e. m }
agrees_joined g link.Failed h m x =
    let l = fail_leaves _ None (record (before g) { up = shut_by (before g).up; paths = told_paths (before g).paths }) in
    record {
      accepted_is = x.accepted_is;
      failed_is = x.failed_is;
      side_is = refl;
      at_is = λ e. x.at_is (sym (busy_is l) ∙ e);
      up_at_is = λ e. x.up_at_is (sym (busy_up_is l) ∙ e);
    }

-- ---- out of memory

closing_keeps : (b : Bool) (why : Option Condition) (s : UpState) → (closing_with b why s).in_progress ≡ s.in_progress
closing_keeps true why s = refl
closing_keeps false why s = refl

agrees_out : (g : List Step) (c : Clock) → Agrees g c → Agrees (state.OutOfMemory ∷ g) c
agrees_out g c x = record {
  accepted_is = x.accepted_is;
  failed_is = x.failed_is;
  side_is = x.side_is;
  at_is = x.at_is;
  up_at_is = λ e. x.up_at_is (sym (ap (λ (o : Option UpUnit). is_some (option_map ToUp o)) (closing_keeps (is_closing (before g).conn) _ (before g).up)) ∙ e);
}

-- ---- a write

abbrev at_last : End → ℕ → Clock → Clock
at_last Client ms c = record c { last = ms }
at_last Up ms c = record c { last_up = ms }

-- the unit in progress, of which bytes were taken, perhaps all that was left
agrees_going : (end : End) (g : List Step) (b : Bool) (c : Clock) (ms : ℕ) → is_busy (before g) end ≡ true → moment_in g ≡ ms → Agrees g c
    → Agrees ((if b then [] else Whole end ∷ []) ++ g) (at_last end ms c)
agrees_going Client g true c ms busy m x =
    record { accepted_is = x.accepted_is; failed_is = x.failed_is; side_is = x.side_is; at_is = λ e. clashes (sym busy ∙ e); up_at_is = x.up_at_is }
agrees_going Client g false c ms busy m x =
    record { accepted_is = x.accepted_is; failed_is = x.failed_is; side_is = x.side_is; at_is = λ e. m; up_at_is = x.up_at_is }
agrees_going Up g true c ms busy m x =
    record { accepted_is = x.accepted_is; failed_is = x.failed_is; side_is = x.side_is; at_is = x.at_is; up_at_is = λ e. clashes (sym busy ∙ e) }
agrees_going Up g false c ms busy m x =
    record { accepted_is = x.accepted_is; failed_is = x.failed_is; side_is = x.side_is; at_is = x.at_is; up_at_is = λ e. m }

-- a unit of which none was
agrees_begun : (end : End) (g : List Step) (b : Bool) (k : List Step) (c : Clock) (ms : ℕ) → is_busy (before (k ++ g)) end ≡ true → moment_in (k ++ g) ≡ ms → Agrees (k ++ g) c
    → Agrees (((if b then [] else Whole end ∷ []) ++ k) ++ g) (at_last end ms c)
agrees_begun end g true k c ms busy m x = agrees_going end (k ++ g) true c ms busy m x
agrees_begun end g false k c ms busy m x = agrees_going end (k ++ g) false c ms busy m x

took_client : (s : SetupText) (g : List Step) (n ms : ℕ) (rest bytes : List ℕ) (c : Clock) → offered s Client (before g) rest ≡ Some bytes → moment_in g ≡ ms → Agrees g c
    → Agrees ((ends Client n bytes ++ begins Client (before g)) ++ g) (at_last Client ms c)
took_client s g n ms rest bytes c e m x = begun (is_busy (before g) Client) refl (client_rows (before g)) e
  where
    begun : (b : Bool) → is_busy (before g) Client ≡ b → (us : List Reply) → (if b then Some rest else option_map (spelled_in s (before g)) (first (map ToClient us))) ≡ Some bytes
        → Agrees ((ends Client n bytes ++ (if b then [] else given (before g) (first (map ToClient us)))) ++ g) (at_last Client ms c)
    begun true is us f = agrees_begun Client g (nat_lt n (length bytes)) [] c ms is m x
    begun false is [] f = absurd cc
    begun false is (u ∷ us) f = agrees_begun Client g (nat_lt n (length bytes)) (Gave (ToClient u) (carries_back (before g) u) ∷ []) c ms refl m (record {
      accepted_is = x.accepted_is;
      failed_is = x.failed_is;
      side_is = x.side_is;
      at_is = λ k. clashes k;
      up_at_is = x.up_at_is;
    })

took_up : (s : SetupText) (g : List Step) (n ms : ℕ) (rest bytes : List ℕ) (c : Clock) → offered s Up (before g) rest ≡ Some bytes → moment_in g ≡ ms → Agrees g c
    → Agrees ((ends Up n bytes ++ begins Up (before g)) ++ g) (at_last Up ms c)
took_up s g n ms rest bytes c e m x = begun (is_busy (before g) Up) refl (up_rows (before g)) e
  where
    begun : (b : Bool) → is_busy (before g) Up ≡ b → (us : List UpUnit) → (if b then Some rest else option_map (spelled_in s (before g)) (first (map ToUp us))) ≡ Some bytes
        → Agrees ((ends Up n bytes ++ (if b then [] else given (before g) (first (map ToUp us)))) ++ g) (at_last Up ms c)
    begun true is us f = agrees_begun Up g (nat_lt n (length bytes)) [] c ms is m x
    begun false is [] f = absurd cc
    begun false is (u ∷ us) f = agrees_begun Up g (nat_lt n (length bytes)) (Gave (ToUp u) (carries_up (before g) u) ∷ []) c ms refl m (record {
      accepted_is = x.accepted_is;
      failed_is = x.failed_is;
      side_is = x.side_is;
      at_is = x.at_is;
      up_at_is = λ k. clashes k;
    })

-- ---- all entries

pub agrees : (s : SetupText) (h : List Entry) → IsRelayed (pair_words s) h → Agrees (steps_of s h) (clock h)
unfolding pair_words
agrees s [] r = record { accepted_is = refl; failed_is = refl; side_is = refl; at_is = λ e. refl; up_at_is = λ e. refl }
agrees s (entry.Began p ms ∷ h) r =
    subst (λ (x : List Entry). Agrees (steps_of s (entry.Began p ms ∷ x)) (clock (entry.Began p ms ∷ x))) (sym r.0)
    (record { accepted_is = refl; failed_is = refl; side_is = refl; at_is = λ e. refl; up_at_is = λ e. refl })
agrees s (entry.Refused ∷ h) r = agrees_out (steps_of s h) (clock h) (agrees s h r.2)
agrees s (entry.Moment ms ∷ h) r = tick_all (λ (g : List Step). Agrees g (clock h)) (λ end g e x. agrees_silent end g (clock h) x) ms (told s h) (agrees s h r.2)
agrees s (entry.Came Client bytes ∷ h) r = agrees_fresh s (entry.Came Client bytes) h (state.Fed Client ∷ steps_of s h) refl (agrees s h r.2)
agrees s (entry.Came Up bytes ∷ h) r = agrees_fresh s (entry.Came Up bytes) h (state.Fed Up ∷ steps_of s h) refl (agrees s h r.2)
agrees s (entry.Dry end ∷ h) r = agrees s h r.2
agrees s (entry.Settled ∷ h) r = agrees_fresh s entry.Settled h (state.LinesTold ∷ steps_of s h) refl (agrees s h r.2)
agrees s (entry.Joined answer ∷ h) r = agrees_joined (steps_of s h) answer h (moment_is s h) (agrees s h r.2)
agrees s (entry.Took Client bytes n ∷ h) r =
    took_client s (steps_of s h) n (moment_of h) (told s h).client.rest bytes (clock h)
    (offered_is (is_writable (side_of Client (sides h))) (offered s Client (state_of s h) (told s h).client.rest) bytes r.0.0) (moment_is s h) (agrees s h r.2)
agrees s (entry.Took Up bytes n ∷ h) r =
    took_up s (steps_of s h) n (moment_of h) (told s h).up.rest bytes (clock h)
    (offered_is (is_writable (side_of Up (sides h))) (offered s Up (state_of s h) (told s h).up.rest) bytes r.0.0) (moment_is s h) (agrees s h r.2)
agrees s (entry.Stuck end bytes ∷ h) r = agrees s h r.2
agrees s (entry.Lost end how ∷ h) r = agrees_lost (steps_of s h) end how h (agrees s h r.2)
agrees s (entry.OutOfMemory cut ∷ h) r =
    let t = told s h in
    let k = drop cut (state.LinesTold ∷ t.fresh) in
    agrees_out (k ++ t.past) (clock h)
    (agrees_left k t.past (clock h) (drop_taken cut (state.LinesTold ∷ t.fresh) (ended_taken s h)) (agrees_older t.fresh t.past (clock h) (fresh_taken s h) (agrees s h r.2)))
agrees s (entry.Over ∷ h) r = agrees s h r.2
