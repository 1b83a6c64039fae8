-- Steps that out of memory can take back are units that came and what was taken up; they leave what was sent as it was.
use Rattle.std.proofs.Common.{◌≡◌, ◌∙◌, ℕ, zero, suc, Bool, true, false, not, ◌&&◌, if◌then◌else◌}
use Rattle.std.proofs.Common.{List, [], ◌∷◌, ◌++◌, drop, length, nat_lt, Option, None, Some}
use Rattle.std.proofs.Common.{refl, sym, ap}
use Rattle.gate_outside.specs.declared.ports.End.{End}
use Rattle.gate_outside.specs.declared.ports.End.TheVariants.{Client, Up}
use Rattle.gate_relay.specs.declared.sides.Side.{Side}
use Rattle.gate_relay.specs.Entries as entry
use Rattle.gate_relay.specs.Entries.{Entry, moment_of}
use Rattle.close_translate.specs.declared.codes.TheConstants.{INTERNAL_ERROR}
use Rattle.machine_091.specs.State.{awaits, is_closing, is_opening}
use Rattle.machine_091.specs.declared.unit.Unit91.{Unit91}
use Rattle.machine_091.specs.declared.unit.Unit91.TheVariants as unit
use Rattle.machine_10.specs.Transitions as ten
use Rattle.machine_10.specs.Transitions.{Meaning}
use Rattle.machine_10.specs.declared.unit.Unit10.{Unit10}
use Rattle.machine_10.specs.declared.unit.Unit10.TheVariants as unit_10
use Rattle.performatives_10.specs.declared.condition.Condition.{Condition}
use Rattle.wire_base.specs.declared.scan.Scan.{Scan}
use Rattle.wire_base.specs.declared.scan.Scan.TheVariants.{Whole, More, Bad}
use Rattle.gate_model.specs.declared.outgoing.Outgoing.{Outgoing}
use Rattle.gate_model.specs.Due.{can_leave, is_busy, pick}
use Rattle.gate_model.specs.Folds.{accepted_in, failed_in, moment_in, ran_out_in, sent, sent_at}
use Rattle.gate_model.specs.Folds.{sent_up}
use Rattle.gate_model.specs.Setup.{SetupText}
use Rattle.gate_model.specs.Requests.{client_step}
use Rattle.gate_model.specs.State as state
use Rattle.gate_model.specs.State.{State, Step, Came, Heard, Gave, Joined, TakenUp, before, came}
use Rattle.gate_model.specs.State.{condition_by, fail, failed, heard, keep_login, left, lost_up, sessions_lost}
use Rattle.gate_model.specs.State.{next_unit, paths_lost, step, windowed, with_meaning}
use Rattle.gate_model.specs.Upstream.{UpState, awaited_of, closing_with, heard_up, lost_by}
use Rattle.gate_model.specs.Upstream.{meaning_by}
use Rattle.machine_091.specs.declared.unit.Want91.{Want91}
use Rattle.machine_091.specs.declared.unit.Want91.TheVariants as want
use Rattle.gate_pair.specs.Cutting.{after, as_step, behind, cut_all, cut_of, on_next, on_scan}
use Rattle.gate_pair.specs.Cutting.{read_end, settle, settled, step_scan, unit_scan, up_scan}
use Rattle.gate_pair.specs.Meaning.{begins, ends, given, leaves, steps_of, told}
use Rattle.gate_model.proofs.Sessions.{session_cases}
use Rattle.gate_pair.proofs.Ticks.{tick_keeps}

abbrev pub IsTaken : Step → Type 0
IsTaken (state.Began site n ms) = ⊥
IsTaken (state.Moment ms) = ⊥
IsTaken (state.Fed end) = ⊥
IsTaken (state.Silent end) = ⊥
IsTaken (state.Queued u) = Unit {0}
IsTaken (Came u) = Unit {0}
IsTaken TakenUp = Unit {0}
IsTaken (Heard u) = Unit {0}
IsTaken (Joined answer) = ⊥
IsTaken (state.Lost end how) = ⊥
IsTaken (Gave u text) = ⊥
IsTaken (state.Whole end) = ⊥
IsTaken state.LinesTold = Unit {0}
IsTaken state.OutOfMemory = ⊥

abbrev pub AreTaken : List Step → Type 0
AreTaken [] = Unit {0}
AreTaken (s ∷ g) = IsTaken s × AreTaken g

pub drop_taken : (n : ℕ) (g : List Step) → AreTaken g → AreTaken (drop n g)
drop_taken zero g a = a
drop_taken (suc n) [] a = a
drop_taken (suc n) (s ∷ g) a = drop_taken n g a.1

pub both_taken : (g h : List Step) → AreTaken g → AreTaken h → AreTaken (g ++ h)
both_taken [] h a b = b
both_taken (s ∷ g) h a b = (a.0, both_taken g h a.1 b)

-- ---- what is found in bytes

abbrev pub FindsTaken : Scan Step Step → Type 0
FindsTaken More = Unit {0}
FindsTaken (Bad s) = IsTaken s
FindsTaken (Whole s n) = IsTaken s

client_found : (x : Scan Unit91 ℕ) → FindsTaken (as_step state.Queued unit.Bad x)
client_found More = tt
client_found (Bad code) = tt
client_found (Whole u n) = tt

up_found : (x : Scan Unit10 Condition) → FindsTaken (as_step Heard unit_10.Bad x)
up_found More = tt
up_found (Bad code) = tt
up_found (Whole u n) = tt

pub found : (end : End) (w : State) (bytes : List ℕ) → FindsTaken (step_scan end w bytes)
found Client w bytes = client_found (unit_scan (awaits w.conn) bytes)
found Up w bytes = up_found (up_scan (awaited_of w.up.container) bytes)

settled_taken : (w : State) (f : ℕ) (g : List Step) → AreTaken g → AreTaken (settled w f g)
settled_taken w zero g a = a
settled_taken w (suc f) g a = by (next_unit (after g w)) (λ u. settled_taken w f (Came u ∷ g) (tt, a))
  where
    by : (o : Option Unit91) → ((u : Unit91) → AreTaken (settled w f (Came u ∷ g))) → AreTaken (on_next o g (λ u. settled w f (Came u ∷ g)))
    by None rec = a
    by (Some u) rec = rec u

pub settle_taken : (w : State) (g : List Step) → AreTaken g → AreTaken (settle w g)
settle_taken w g a = settled_taken w (length (after g w).queue) g a

pub behind_taken : (end : End) (w : State) (g : List Step) → AreTaken g → AreTaken (behind end w g)
behind_taken Client w g a = settle_taken w g a
behind_taken Up w g a = a

read_taken : (end : End) (w : State) (f : ℕ) (g : List Step) (bytes : List ℕ) → AreTaken g → AreTaken (read_end end w f g bytes).fresh
read_taken end w zero g bytes a = a
read_taken end w (suc f) g bytes a =
    by (step_scan end (after g w) bytes) (found end (after g w) bytes)
    (λ s n t. read_taken end w f (behind end w (s ∷ g)) (drop n bytes) (behind_taken end w (s ∷ g) (t, a)))
  where
    by : (x : Scan Step Step) → FindsTaken x → ((s : Step) (n : ℕ) → IsTaken s → AreTaken (read_end end w f (behind end w (s ∷ g)) (drop n bytes)).fresh)
        → AreTaken (on_scan x (cut_of g bytes) (λ s. cut_of (behind end w (s ∷ g)) []) (λ s n. read_end end w f (behind end w (s ∷ g)) (drop n bytes))).fresh
    by More t rec = a
    by (Bad s) t rec = behind_taken end w (s ∷ g) (t, a)
    by (Whole s n) t rec = rec s n t

pub cut_taken : (end : End) (w : State) (bytes : List ℕ) → AreTaken (cut_all end w bytes).fresh
cut_taken end w bytes = read_taken end w (length bytes) (behind end w []) bytes (behind_taken end w [] tt)

leaves_taken : (w : State) → AreTaken (leaves w)
leaves_taken w = by (can_leave w)
  where
    by : (b : Bool) → AreTaken (if b then TakenUp ∷ [] else [])
    by true = (tt, tt)
    by false = tt

pub fresh_taken : (s : SetupText) (h : List Entry) → AreTaken (told s h).fresh
fresh_taken s [] = tt
fresh_taken s (entry.Began p ms ∷ h) = tt
fresh_taken s (entry.Refused ∷ h) = tt
fresh_taken s (entry.Moment ms ∷ h) = tt
fresh_taken s (entry.Came Client bytes ∷ h) = cut_taken Client (before (state.Fed Client ∷ steps_of s h)) ((told s h).client.unread ++ bytes)
fresh_taken s (entry.Came Up bytes ∷ h) = cut_taken Up (before (state.Fed Up ∷ steps_of s h)) ((told s h).up.unread ++ bytes)
fresh_taken s (entry.Dry end ∷ h) = tt
fresh_taken s (entry.Settled ∷ h) =
    let old : List Step = state.LinesTold ∷ steps_of s h in
    let g : List Step = settle (before old) [] in
    both_taken (leaves (before (g ++ old))) g (leaves_taken (before (g ++ old))) (settle_taken (before old) [] tt)
fresh_taken s (entry.Joined answer ∷ h) = tt
fresh_taken s (entry.Took Client bytes n ∷ h) = tt
fresh_taken s (entry.Took Up bytes n ∷ h) = tt
fresh_taken s (entry.Stuck end bytes ∷ h) = tt
fresh_taken s (entry.Lost end how ∷ h) = tt
fresh_taken s (entry.OutOfMemory cut ∷ h) = tt
fresh_taken s (entry.Over ∷ h) = tt

-- ---- what they leave of a state

-- words of a state that a step of this kind leaves as they are: whether the pair ran out of memory, and what is in progress
pub record Leaves (old new : State) : Type 0 where
  pub memory_is : new.out_of_memory ≡ old.out_of_memory
  pub going_is : new.in_progress ≡ old.in_progress
  pub going_up_is : new.up.in_progress ≡ old.up.in_progress
  pub number_is : new.number ≡ old.number

pub leaves_all : (w : State) → Leaves w w
leaves_all w = record { memory_is = refl; going_is = refl; going_up_is = refl; number_is = refl }

pub leaves_more : (a b c : State) → Leaves a b → Leaves b c → Leaves a c
leaves_more a b c p q = record {
  memory_is = q.memory_is ∙ p.memory_is;
  going_is = q.going_is ∙ p.going_is;
  going_up_is = q.going_up_is ∙ p.going_up_is;
  number_is = q.number_is ∙ p.number_is;
}

if_first : (b : Bool) (w v : State) → Leaves w v → Leaves w (if b then w else v)
if_first true w v x = leaves_all w
if_first false w v x = x

if_second : (b : Bool) (w v : State) → Leaves w v → Leaves w (if b then v else w)
if_second true w v x = x
if_second false w v x = leaves_all w

pub fail_leaves : (code : ℕ) (why : Option Condition) (w : State) → Leaves w (fail code why w)
fail_leaves code why w = by (is_closing w.conn)
  where
    by : (b : Bool) → Leaves w (if b then sessions_lost w else failed code why w)
    by true = record { memory_is = refl; going_is = refl; going_up_is = refl; number_is = refl }
    by false = record { memory_is = refl; going_is = refl; going_up_is = refl; number_is = refl }

meaning_leaves : (m : Meaning) (w : State) → Leaves w (with_meaning m w)
meaning_leaves ten.Nothing w = leaves_all w
meaning_leaves ten.Init w = record { memory_is = refl; going_is = refl; going_up_is = refl; number_is = refl }
meaning_leaves ten.AmqpHeader w = record { memory_is = refl; going_is = refl; going_up_is = refl; number_is = refl }
meaning_leaves ten.Opened w = if_second (is_opening w.conn) w _ (record { memory_is = refl; going_is = refl; going_up_is = refl; number_is = refl })
meaning_leaves (ten.OfSession g p payload) w =
    session_cases (Leaves w) g p payload w (record {
      begins = record { memory_is = refl; going_is = refl; going_up_is = refl; number_is = refl };
      stays = record { memory_is = refl; going_is = refl; going_up_is = refl; number_is = refl };
      ends = λ code why. record { memory_is = refl; going_is = refl; going_up_is = refl; number_is = refl };
      parts = record { memory_is = refl; going_is = refl; going_up_is = refl; number_is = refl };
      drops = λ code why. record { memory_is = refl; going_is = refl; going_up_is = refl; number_is = refl };
      fails = λ why.
          let f : Leaves (windowed g p w) (fail INTERNAL_ERROR why (windowed g p w)) = fail_leaves _ why (windowed g p w) in
          record { memory_is = f.memory_is; going_is = f.going_is; going_up_is = f.going_up_is; number_is = f.number_is };
    })
meaning_leaves (ten.Closed e) w = fail_leaves _ None w
meaning_leaves ten.Refused w = fail_leaves _ None w
meaning_leaves (ten.Violation c) w = fail_leaves _ (Some c) w

keeping : (x : Want91) (s : UpState) → (keep_login x s).in_progress ≡ s.in_progress
keeping want.Nothing s = refl
keeping want.Start s = refl
keeping (want.Login a b) s = refl
keeping want.Tuned s = refl
keeping want.OpenUp s = refl
keeping (want.Method n m) s = refl
keeping (want.Publish n m c) s = refl
keeping (want.ChannelCloseOk n) s = refl
keeping want.Close s = refl
keeping want.CloseOk s = refl
keeping (want.Refuse r) s = refl

pub closing_keeps : (b : Bool) (why : Option Condition) (s : UpState) → (closing_with b why s).in_progress ≡ s.in_progress
closing_keeps true why s = refl
closing_keeps false why s = refl

came_leaves : (w : State) (u : Unit91) → Leaves w (came w u)
came_leaves w u = record {
  memory_is = refl;
  going_is = refl;
  going_up_is = closing_keeps (is_closing w.conn) (condition_by (client_step w.routes w.paths w.conn u).1) (keep_login (client_step w.routes w.paths w.conn u).1 w.up)
      ∙ keeping (client_step w.routes w.paths w.conn u).1 w.up;
  number_is = refl;
}

heard_leaves : (w : State) (u : Unit10) → Leaves w (heard w u)
heard_leaves w u =
    let v : State = record w { up = heard_up u w.up } in
    leaves_more w v (heard w u) (record { memory_is = refl; going_is = refl; going_up_is = refl; number_is = refl }) (meaning_leaves (meaning_by w.up.container u) v)

left_leaves : (w : State) → Leaves w (left w)
left_leaves w = record {
  memory_is = refl;
  going_is = refl;
  going_up_is = closing_keeps (is_closing w.conn) None w.up;
  number_is = refl;
}

-- an end that is given up leaves them too
pub silent_leaves : (end : End) (w : State) → Leaves w (step w (state.Silent end))
silent_leaves Client w = record {
  memory_is = refl;
  going_is = refl;
  going_up_is = closing_keeps (is_closing w.conn) None w.up;
  number_is = refl;
}
silent_leaves Up w =
    let v : State = record w { up = record w.up { silent = true } } in
    leaves_more w v (step w (state.Silent Up)) (record { memory_is = refl; going_is = refl; going_up_is = refl; number_is = refl }) (fail_leaves _ _ v)

-- and so does the loss of the upstream end
pub lost_leaves : (x : Side) (w : State) → Leaves w (lost_up x w)
lost_leaves x w =
    let v : State = record w { up = lost_by x w.up; paths = paths_lost w.paths } in
    leaves_more w v (lost_up x w) (record { memory_is = refl; going_is = refl; going_up_is = refl; number_is = refl }) (fail_leaves _ None v)

pub taken_leaves : (s : Step) (w : State) → IsTaken s → Leaves w (step w s)
taken_leaves (state.Began site n ms) w t = absurd t
taken_leaves (state.Moment ms) w t = absurd t
taken_leaves (state.Fed end) w t = absurd t
taken_leaves (state.Silent end) w t = absurd t
taken_leaves (state.Queued u) w t = if_first w.out_of_memory w _ (record { memory_is = refl; going_is = refl; going_up_is = refl; number_is = refl })
taken_leaves (Came u) w t =
    if_first w.out_of_memory w (came (state.dequeued w) u)
    (leaves_more w (state.dequeued w) (came (state.dequeued w) u) (record { memory_is = refl; going_is = refl; going_up_is = refl; number_is = refl }) (came_leaves (state.dequeued w) u))
taken_leaves TakenUp w t = if_second (not w.out_of_memory && w.leaving) w (left w) (left_leaves w)
taken_leaves (Heard u) w t = if_first w.out_of_memory w (heard w u) (heard_leaves w u)
taken_leaves (Joined answer) w t = absurd t
taken_leaves (state.Lost end how) w t = absurd t
taken_leaves (Gave u text) w t = absurd t
taken_leaves (state.Whole end) w t = absurd t
taken_leaves state.LinesTold w t = record { memory_is = refl; going_is = refl; going_up_is = refl; number_is = refl }
taken_leaves state.OutOfMemory w t = absurd t

pub all_leave : (g : List Step) (w : State) → AreTaken g → Leaves w (after g w)
all_leave [] w a = leaves_all w
all_leave (s ∷ g) w a = leaves_more w (after g w) (step (after g w) s) (all_leave g w a.1) (taken_leaves s (after g w) a.0)

-- ---- what they leave of the folds

pub record LeavesFolds (g h : List Step) : Type 0 where
  pub sent_is : sent (g ++ h) ≡ sent h
  pub sent_up_is : sent_up (g ++ h) ≡ sent_up h
  pub sent_at_is : sent_at (g ++ h) ≡ sent_at h
  pub moment_is : moment_in (g ++ h) ≡ moment_in h
  pub accepted_is : accepted_in (g ++ h) ≡ accepted_in h
  pub memory_is : ran_out_in (g ++ h) ≡ ran_out_in h
  pub failed_is : failed_in (g ++ h) ≡ failed_in h

pub leave_folds : (g h : List Step) → AreTaken g → LeavesFolds g h
leave_folds [] h a = record { sent_is = refl; sent_up_is = refl; sent_at_is = refl; moment_is = refl; accepted_is = refl; memory_is = refl; failed_is = refl }
leave_folds (state.Began site n ms ∷ g) h a = absurd a.0
leave_folds (state.Moment ms ∷ g) h a = absurd a.0
leave_folds (state.Fed end ∷ g) h a = absurd a.0
leave_folds (state.Silent end ∷ g) h a = absurd a.0
leave_folds (state.Queued u ∷ g) h a =
    let x = leave_folds g h a.1 in
    record { sent_is = x.sent_is; sent_up_is = x.sent_up_is; sent_at_is = x.sent_at_is; moment_is = x.moment_is; accepted_is = x.accepted_is; memory_is = x.memory_is; failed_is = x.failed_is }
leave_folds (Came u ∷ g) h a =
    let x = leave_folds g h a.1 in
    record { sent_is = x.sent_is; sent_up_is = x.sent_up_is; sent_at_is = x.sent_at_is; moment_is = x.moment_is; accepted_is = x.accepted_is; memory_is = x.memory_is; failed_is = x.failed_is }
leave_folds (TakenUp ∷ g) h a =
    let x = leave_folds g h a.1 in
    record { sent_is = x.sent_is; sent_up_is = x.sent_up_is; sent_at_is = x.sent_at_is; moment_is = x.moment_is; accepted_is = x.accepted_is; memory_is = x.memory_is; failed_is = x.failed_is }
leave_folds (Heard u ∷ g) h a =
    let x = leave_folds g h a.1 in
    record { sent_is = x.sent_is; sent_up_is = x.sent_up_is; sent_at_is = x.sent_at_is; moment_is = x.moment_is; accepted_is = x.accepted_is; memory_is = x.memory_is; failed_is = x.failed_is }
leave_folds (Joined answer ∷ g) h a = absurd a.0
leave_folds (state.Lost end how ∷ g) h a = absurd a.0
leave_folds (Gave u text ∷ g) h a = absurd a.0
leave_folds (state.Whole end ∷ g) h a = absurd a.0
leave_folds (state.LinesTold ∷ g) h a =
    let x = leave_folds g h a.1 in
    record { sent_is = x.sent_is; sent_up_is = x.sent_up_is; sent_at_is = x.sent_at_is; moment_is = x.moment_is; accepted_is = x.accepted_is; memory_is = x.memory_is; failed_is = x.failed_is }
leave_folds (state.OutOfMemory ∷ g) h a = absurd a.0

-- with that its lines were told
pub ended_taken : (s : SetupText) (h : List Entry) → AreTaken (state.LinesTold ∷ (told s h).fresh)
ended_taken s h = (tt, fresh_taken s h)

-- what out of memory left of the newest entry's steps, and all of them
pub cut_leaves : (s : SetupText) (cut : ℕ) (h : List Entry) → LeavesFolds (drop cut (state.LinesTold ∷ (told s h).fresh)) (told s h).past
cut_leaves s cut h =
    let k : List Step = state.LinesTold ∷ (told s h).fresh in leave_folds (drop cut k) (told s h).past (drop_taken cut k (ended_taken s h))

pub fresh_leave : (s : SetupText) (h : List Entry) → LeavesFolds (told s h).fresh (told s h).past
fresh_leave s h = leave_folds (told s h).fresh (told s h).past (fresh_taken s h)

-- ---- moments

given_moment : (w : State) (b : Bool) (o : Option Outgoing) (h : List Step) → moment_in ((if b then [] else given w o) ++ h) ≡ moment_in h
given_moment w true o h = refl
given_moment w false None h = refl
given_moment w false (Some u) h = refl

ends_moment : (end : End) (b : Bool) (g h : List Step) → moment_in (((if b then [] else state.Whole end ∷ []) ++ g) ++ h) ≡ moment_in (g ++ h)
ends_moment end true g h = refl
ends_moment end false g h = refl

took_moment : (end : End) (n : ℕ) (bytes : List ℕ) (h : List Step) → moment_in ((ends end n bytes ++ begins end (before h)) ++ h) ≡ moment_in h
took_moment end n bytes h =
    ends_moment end (nat_lt n (length bytes)) (begins end (before h)) h ∙ given_moment (before h) (is_busy (before h) end) (pick (before h) end) h

fresh_moment : (s : SetupText) (e : Entry) (h : List Entry) (g : List Step) → (told s (e ∷ h)).past ≡ g → moment_in (steps_of s (e ∷ h)) ≡ moment_in g
fresh_moment s e h g past = (fresh_leave s (e ∷ h)).moment_is ∙ ap moment_in past

pub moment_is : (s : SetupText) (h : List Entry) → moment_in (steps_of s h) ≡ moment_of h
moment_is s [] = refl
moment_is s (entry.Began p ms ∷ h) = refl
moment_is s (entry.Refused ∷ h) = moment_is s h
moment_is s (entry.Moment ms ∷ h) = tick_keeps moment_in (λ end g. refl) ms (told s h)
moment_is s (entry.Came Client bytes ∷ h) = fresh_moment s (entry.Came Client bytes) h (state.Fed Client ∷ steps_of s h) refl ∙ moment_is s h
moment_is s (entry.Came Up bytes ∷ h) = fresh_moment s (entry.Came Up bytes) h (state.Fed Up ∷ steps_of s h) refl ∙ moment_is s h
moment_is s (entry.Dry end ∷ h) = moment_is s h
moment_is s (entry.Settled ∷ h) = fresh_moment s entry.Settled h (state.LinesTold ∷ steps_of s h) refl ∙ moment_is s h
moment_is s (entry.Joined answer ∷ h) = moment_is s h
moment_is s (entry.Took Client bytes n ∷ h) = took_moment Client n bytes (steps_of s h) ∙ moment_is s h
moment_is s (entry.Took Up bytes n ∷ h) = took_moment Up n bytes (steps_of s h) ∙ moment_is s h
moment_is s (entry.Stuck end bytes ∷ h) = moment_is s h
moment_is s (entry.Lost end how ∷ h) = moment_is s h
moment_is s (entry.OutOfMemory cut ∷ h) = (cut_leaves s cut h).moment_is ∙ sym (fresh_leave s h).moment_is ∙ moment_is s h
moment_is s (entry.Over ∷ h) = moment_is s h
