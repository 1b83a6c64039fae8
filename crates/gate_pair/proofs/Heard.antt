-- Each end's units are those with which its bytes begin, however these were cut.
use Rattle.std.proofs.Common.{◌≡◌, ◌≢◌, ◌∙◌, ℕ, zero, suc, ◌≤◌, Bool, true, false, not, ◌&&◌}
use Rattle.std.proofs.Common.{if◌then◌else◌, List, [], ◌∷◌, ◌++◌, length, drop, nat_lt, Option}
use Rattle.std.proofs.Common.{None, Some, refl, sym, ap, subst, arith, append-nil}
use Rattle.std.specs.Prelude.{is_some}
use Rattle.std.proofs.lemmas.List.{drop-append-le, length-drop}
use Rattle.gate_outside.specs.declared.ports.End.{End}
use Rattle.gate_outside.specs.declared.ports.End.TheVariants.{Client, Up}
use Rattle.gate_relay.specs.Entries as entry
use Rattle.gate_relay.specs.Entries.{Entry, is_out_of_memory}
use Rattle.gate_relay.specs.Guards.{reads}
use Rattle.gate_relay.specs.Relayed.{IsRelayed}
use Rattle.gate_relay.specs.Sides.{is_readable, side_of, sides}
use Rattle.close_translate.specs.declared.codes.TheConstants.{FRAME_ERROR}
use Rattle.frames_091.specs.FrameScan.{scan_of}
use Rattle.frames_091.specs.Headers.{header_scan}
use Rattle.frames_10.specs.FrameScan as frames_10
use Rattle.frames_10.specs.Headers as headers_10
use Rattle.frames_10.specs.declared.frame.Kind10.{Kind10}
use Rattle.machine_091.specs.State.{awaits}
use Rattle.machine_091.specs.declared.state.Awaited91.{Awaited91}
use Rattle.machine_091.specs.declared.state.Awaited91.TheVariants as awaited
use Rattle.machine_091.specs.declared.state.Connection.{Connection}
use Rattle.machine_091.specs.declared.unit.Unit91.{Unit91}
use Rattle.machine_091.specs.declared.unit.Unit91.TheVariants as unit
use Rattle.machine_10.specs.State.{awaited_in}
use Rattle.machine_10.specs.declared.limits.TheConstants.{FRAME_MAX}
use Rattle.machine_10.specs.declared.state.Awaited10.{Awaited10}
use Rattle.machine_10.specs.declared.state.Awaited10.TheVariants as awaited_10
use Rattle.machine_10.specs.declared.state.Stream10.{Stream10}
use Rattle.machine_10.specs.declared.state.Upstream.{Upstream}
use Rattle.machine_10.specs.declared.unit.Unit10.{Unit10}
use Rattle.machine_10.specs.declared.unit.Unit10.TheVariants as unit_10
use Rattle.performatives_10.specs.declared.condition.Condition.{Condition}
use Rattle.performatives_10.specs.declared.condition.Condition.TheVariants.{FramingError}
use Rattle.wire_base.specs.declared.scan.Scan.{Scan}
use Rattle.wire_base.specs.declared.scan.Scan.TheVariants.{Whole, More, Bad}
use Rattle.gate_model.specs.declared.outgoing.Outgoing.{Outgoing}
use Rattle.gate_model.specs.Due.{can_leave, is_busy, pick}
use Rattle.gate_model.specs.Folds.{connection, container}
use Rattle.gate_model.specs.declared.outgoing.UpUnit.{UpUnit}
use Rattle.gate_model.specs.Picks.{ArePicks, MayStep}
use Rattle.gate_model.specs.Setup.{SetupText, site_of}
use Rattle.gate_model.specs.State as state
use Rattle.gate_model.specs.State.{State, Step, Came, Heard, Queued, TakenUp, before, next_unit}
use Rattle.gate_model.specs.State.{step}
use Rattle.gate_model.specs.Upstream.{awaited_of, container_given, ended_in, is_awaited_up}
use Rattle.gate_model.specs.Upstream.{sessions_given}
use Rattle.gate_model.proofs.Known.{conn_is, container_is, known}
use Rattle.gate_model.proofs.Basics.{and_right}
use Rattle.gate_pair.specs.Answers.{AreCut, AreHeard, CutsInto, CutsUpInto, Finds, NoneWhole}
use Rattle.gate_pair.specs.Answers.{heard_bytes}
use Rattle.gate_pair.specs.Cutting.{Cut, IsWithin, after, as_step, as_unit, behind, cut_all, cut_of}
use Rattle.gate_pair.specs.Cutting.{on_next, on_scan, read_end, settle, settled, step_scan}
use Rattle.gate_pair.specs.Cutting.{unit_scan, up_scan}
use Rattle.gate_pair.specs.Meaning.{begins, ends, given, leaves, pair_words, state_of, steps_of}
use Rattle.gate_pair.specs.Meaning.{told}
use Rattle.gate_pair.proofs.Logins.{AreLoggedIn, Comes, Ends, IsUnheard, Keeps, Moves, Sends, Stays}
use Rattle.gate_pair.proofs.Logins.{follows, keeps_given, moves, stays_some}
use Rattle.gate_pair.proofs.Memories.{memory_of}
use Rattle.gate_pair.proofs.Picks.{FindsMay, fed_good, found_since, good_at, moment_picks, picks}
use Rattle.gate_pair.proofs.Picks.{read_calm}
use Rattle.gate_pair.proofs.Queued.{IsGood, IsGoodAt, IsReadyAt, behind_picks, behind_ready}
use Rattle.gate_pair.proofs.Saids.{after_before}
use Rattle.gate_pair.proofs.Taken.{AreTaken, FindsTaken, IsTaken, behind_taken, found}
use Rattle.gate_pair.proofs.Ticks.{tick_all}
use Rattle.gate_pair.proofs.Within.{no_unit, none_found, up_within, within}

-- ---- what scans find

-- an answer of the scans other than More stays whatever bytes come
pub record AreSettled : Type 0 where
  pub frame : (limit : ℕ) (bytes more : List ℕ) → scan_of limit bytes ≢ More → scan_of limit (bytes ++ more) ≡ scan_of limit bytes
  pub header : (bytes more : List ℕ) → header_scan bytes ≢ More → header_scan (bytes ++ more) ≡ header_scan bytes
  pub frame_10 : (limit : ℕ) (bytes more : List ℕ) → frames_10.scan_of limit bytes ≢ More → frames_10.scan_of limit (bytes ++ more) ≡ frames_10.scan_of limit bytes
  pub header_10 : (kind : Kind10) (bytes more : List ℕ) → headers_10.header_scan kind bytes ≢ More → headers_10.header_scan kind (bytes ++ more) ≡ headers_10.header_scan kind bytes

as_settled : {A F U C : Type 0} (make : A → U) (code : C) (old new : Scan A F) → (old ≢ More → new ≡ old) → as_unit make code old ≢ More
    → as_unit make code new ≡ as_unit make code old
as_settled make code old new same ne = ap (as_unit make code) (same (λ e. ne (ap (as_unit make code) e)))

-- the same of a scan for units, which takes no more bytes than there are
record Settles {U C : Type 0} (scan : List ℕ → Scan U C) : Type 0 where
  stays : (bytes more : List ℕ) → scan bytes ≢ More → scan (bytes ++ more) ≡ scan bytes
  within : (bytes : List ℕ) → IsWithin bytes (scan bytes)

client_settles : AreSettled → (a : Awaited91) → Settles (unit_scan a)
client_settles st a = record { stays = by a; within = within a }
  where
    by : (a : Awaited91) (bytes more : List ℕ) → unit_scan a bytes ≢ More → unit_scan a (bytes ++ more) ≡ unit_scan a bytes
    by awaited.Header bytes more ne = as_settled (λ header. unit.Protocol) 0 (header_scan bytes) (header_scan (bytes ++ more)) (st.header bytes more) ne
    by (awaited.Frame size) bytes more ne = as_settled unit.Frame FRAME_ERROR (scan_of size bytes) (scan_of size (bytes ++ more)) (st.frame size bytes more) ne
    by awaited.Nothing bytes more ne = refl

up_settles : AreSettled → (a : Awaited10) → Settles (up_scan a)
up_settles st a = record { stays = by a; within = up_within a }
  where
    by : (a : Awaited10) (bytes more : List ℕ) → up_scan a bytes ≢ More → up_scan a (bytes ++ more) ≡ up_scan a bytes
    by (awaited_10.Header k) bytes more ne =
        as_settled (λ header. unit_10.Header k) FramingError (headers_10.header_scan k bytes) (headers_10.header_scan k (bytes ++ more)) (st.header_10 k bytes more) ne
    by awaited_10.Frame bytes more ne =
        as_settled unit_10.Frame FramingError (frames_10.scan_of FRAME_MAX bytes) (frames_10.scan_of FRAME_MAX (bytes ++ more)) (st.frame_10 FRAME_MAX bytes more) ne
    by awaited_10.Nothing bytes more ne = refl

-- ---- further bytes

finds_more : {U C : Type 0} (bad : C → U) (scan : List ℕ → Scan U C) → Settles scan → (bytes more left : List ℕ) (u : U) → Finds bad (scan bytes) u bytes left
    → Finds bad (scan (bytes ++ more)) u (bytes ++ more) (left ++ more)
finds_more {U} {C} bad scan st bytes more left u f = by (scan bytes) refl f
  where
    by : (x : Scan U C) → scan bytes ≡ x → Finds bad x u bytes left → Finds bad (scan (bytes ++ more)) u (bytes ++ more) (left ++ more)
    by More e f = absurd f
    by (Bad code) e f =
        let same : scan (bytes ++ more) ≡ Bad code = st.stays bytes more (λ x. let wrong : Bad code ≡ More = sym e ∙ x in cc) ∙ e in
        subst (λ (x : Scan U C). Finds bad x u (bytes ++ more) (left ++ more)) (sym same) f
    by (Whole v n) e f =
        let same : scan (bytes ++ more) ≡ Whole v n = st.stays bytes more (λ x. let wrong : Whole v n ≡ More = sym e ∙ x in cc) ∙ e in
        let least : IsWithin {U = U} {C = C} bytes (Whole v n) = subst (IsWithin bytes) e (st.within bytes) in
        subst (λ (x : Scan U C). Finds bad x u (bytes ++ more) (left ++ more)) (sym same)
        (f.0, ap (λ (x : List ℕ). x ++ more) f.1 ∙ sym (drop-append-le n bytes more least.1))

client_more : AreSettled → (g : List Step) (bytes more left : List ℕ) → CutsInto g bytes left → CutsInto g (bytes ++ more) (left ++ more)
client_more st [] bytes more left c = ap (λ (x : List ℕ). x ++ more) c
client_more st (Queued u ∷ g) bytes more left c =
    let a : Awaited91 = awaits (connection g) in
    (c.0 ++ more, client_more st g bytes more c.0 c.1, finds_more unit.Bad (unit_scan a) (client_settles st a) c.0 more left u c.2)
client_more st (x ∷ g) bytes more left c = client_more st g bytes more left c

up_more : AreSettled → (g : List Step) (bytes more left : List ℕ) → CutsUpInto g bytes left → CutsUpInto g (bytes ++ more) (left ++ more)
up_more st [] bytes more left c = ap (λ (x : List ℕ). x ++ more) c
up_more st (Heard u ∷ g) bytes more left c =
    let a : Awaited10 = awaited_of (container g) in
    (c.0 ++ more, up_more st g bytes more c.0 c.1, finds_more unit_10.Bad (up_scan a) (up_settles st a) c.0 more left u c.2)
up_more st (x ∷ g) bytes more left c = up_more st g bytes more left c

-- ---- both ends

abbrev CutsOf : End → List Step → List ℕ → List ℕ → Type 0
CutsOf Client g bytes left = CutsInto g bytes left
CutsOf Up g bytes left = CutsUpInto g bytes left

cuts_more : AreSettled → (end : End) (g : List Step) (bytes more left : List ℕ) → CutsOf end g bytes left → CutsOf end g (bytes ++ more) (left ++ more)
cuts_more st Client = client_more st
cuts_more st Up = up_more st

-- a step that is no unit of an end
abbrev IsOther : End → Step → Type 0
IsOther Client (Queued u) = ⊥
IsOther Up (Heard u) = ⊥
IsOther end x = Unit {0}

abbrev AreOther : End → List Step → Type 0
AreOther end [] = Unit {0}
AreOther end (x ∷ g) = IsOther end x × AreOther end g

other_cuts : (end : End) (x : Step) (g : List Step) (bytes left : List ℕ) → IsOther end x → CutsOf end g bytes left → CutsOf end (x ∷ g) bytes left
other_cuts Client (Queued u) g bytes left o c = absurd o
other_cuts Client x g bytes left o c = c
other_cuts Up (Heard u) g bytes left o c = absurd o
other_cuts Up x g bytes left o c = c

-- some bytes are left behind older steps too
abbrev Cuts : End → List Step → List ℕ → Type 0
Cuts end g bytes = (left : List ℕ) × CutsOf end g bytes left

cuts_older : (end : End) (x : Step) (g : List Step) (bytes : List ℕ) → Cuts end (x ∷ g) bytes → Cuts end g bytes
cuts_older Client (Queued u) g bytes c = (c.1.0, c.1.1)
cuts_older Client x g bytes c = c
cuts_older Up (Heard u) g bytes c = (c.1.0, c.1.1)
cuts_older Up x g bytes c = c

cuts_drop : (end : End) (n : ℕ) (k g : List Step) (bytes : List ℕ) → Cuts end (k ++ g) bytes → Cuts end (drop n k ++ g) bytes
cuts_drop end zero k g bytes c = c
cuts_drop end (suc n) [] g bytes c = c
cuts_drop end (suc n) (x ∷ k) g bytes c = cuts_drop end n k g bytes (cuts_older end x (k ++ g) bytes c)

-- ---- no further unit is whole

-- as one is awaited; bytes of a container come after the login
abbrev NoneFound : End → List Step → List ℕ → Type 0
NoneFound Client g left = unit_scan (awaits (connection g)) left ≡ More
NoneFound Up g left = (up_scan (awaited_of (container g)) left ≡ More) × (is_some (container g) ≡ false → left ≡ [])

abbrev NoneUp : Option Upstream → List ℕ → Type 0
NoneUp o left = (up_scan (awaited_of o) left ≡ More) × (is_some o ≡ false → left ≡ [])

clashes : {P : Type 0} → true ≡ false → P
clashes e = absurd cc

up_ended : (o : Option Upstream) (left : List ℕ) → NoneUp o left → NoneUp (ended_in o) left
up_ended None left e = e
up_ended (Some c) left e = (refl, λ x. clashes x)

-- a unit to it leaves what is awaited
up_given : (u : UpUnit) (o : Option Upstream) (left : List ℕ) → NoneUp o left → NoneUp (container_given u o) left
up_given u None left e = e
up_given u (Some c) left e =
    let k : Keeps c (sessions_given u c) = keeps_given u c in
    (ap (λ (s : Stream10). up_scan (awaited_in s) left) k.stream ∙ e.0, λ x. clashes x)

up_none : (o o' : Option Upstream) (left : List ℕ) → Moves o o' → NoneUp o left → NoneUp o' left
up_none o _ left Stays e = e
up_none o _ left (Comes c none) e =
    let empty : left ≡ [] = e.1 (ap is_some none) in
    (ap (up_scan (awaited_of (Some c))) empty ∙ no_unit (awaited_of (Some c)), λ x. clashes x)
up_none o _ left Ends e = up_ended o left e
up_none o _ left (Sends u) e = up_given u o left e

unheard : (x : Step) → IsOther Up x → IsUnheard x
unheard (Heard u) o = absurd o
unheard x o = tt

none_empty : (end : End) (g : List Step) (left : List ℕ) → left ≡ [] → NoneFound end g left
none_empty Client g left e = ap (unit_scan (awaits (connection g))) e ∙ none_found (awaits (connection g))
none_empty Up g left e = (ap (up_scan (awaited_of (container g))) e ∙ no_unit (awaited_of (container g)), λ f. e)

-- of a container that stays so until it is read again
abbrev NoneLeft : End → List Step → List ℕ → Type 0
NoneLeft Client g left = Unit {0}
NoneLeft Up g left = NoneFound Up g left

left_of : (end : End) (g : List Step) (left : List ℕ) → NoneFound end g left → NoneLeft end g left
left_of Client g left e = tt
left_of Up g left e = e

left_stays : (end : End) (x : Step) (g : List Step) (left : List ℕ) → IsOther end x → ArePicks (x ∷ g) → NoneLeft end g left → NoneLeft end (x ∷ g) left
left_stays Client x g left o p e = tt
left_stays Up x g left o p e = up_none (container g) (container (x ∷ g)) left (moves x g (unheard x o) p) e

-- all of some bytes was cut
record IsCutBy (end : End) (g : List Step) (bytes left : List ℕ) : Type 0 where
  cuts : CutsOf end g bytes left
  none : NoneLeft end g left

cut_stays : {bytes left : List ℕ} (end : End) (k g : List Step) → AreOther end k → ArePicks (k ++ g) → IsCutBy end g bytes left → IsCutBy end (k ++ g) bytes left
cut_stays end [] g o p c = c
cut_stays {bytes} {left} end (x ∷ k) g o p c =
    let d : IsCutBy end (k ++ g) bytes left = cut_stays end k g o.1 p.1 c in
    record { cuts = other_cuts end x (k ++ g) bytes left o.0 d.cuts; none = left_stays end x (k ++ g) left o.0 p d.none }

-- ---- a read

-- an end that is read: of a container, the login came
abbrev HasUnits : End → List Step → Type 0
HasUnits Client g = Unit {0}
HasUnits Up g = is_some (container g) ≡ true

units_stay : AreLoggedIn → (end : End) (x : Step) (g : List Step) → ArePicks (x ∷ g) → HasUnits end g → HasUnits end (x ∷ g)
units_stay l Client x g p e = tt
units_stay l Up x g p e = stays_some (container g) (container (x ∷ g)) (follows l x g p) e

-- what a scan makes of a cut
abbrev CutsBy : End → List Step → List ℕ → List ℕ → Scan Step Step → Type 0
CutsBy end g all bytes More = NoneFound end g bytes
CutsBy end g all bytes (Bad x) = CutsOf end (x ∷ g) all []
CutsBy end g all bytes (Whole x n) = CutsOf end (x ∷ g) all (drop n bytes) × (1 ≤ n) × (n ≤ length bytes)

cuts_by : (end : End) (g : List Step) (all bytes : List ℕ) → ArePicks g → HasUnits end g → CutsOf end g all bytes → CutsBy end g all bytes (step_scan end (before g) bytes)
cuts_by Client g all bytes p i c =
    by (unit_scan (awaits (before g).conn) bytes) (ap (λ (d : Connection). unit_scan (awaits d) bytes) (sym (conn_is (known g p))))
  where
    by : (x : Scan Unit91 ℕ) → unit_scan (awaits (connection g)) bytes ≡ x → CutsBy Client g all bytes (as_step Queued unit.Bad x)
    by More e = e
    by (Bad code) e = (bytes, c, subst (λ (x : Scan Unit91 ℕ). Finds unit.Bad x (unit.Bad code) bytes []) (sym e) refl)
    by (Whole u n) e =
        let least : IsWithin {C = ℕ} bytes (Whole u n) = subst (IsWithin bytes) e (within (awaits (connection g)) bytes) in
        ((bytes, c, subst (λ (x : Scan Unit91 ℕ). Finds unit.Bad x u bytes (drop n bytes)) (sym e) (refl, refl)), least.0, least.1)
cuts_by Up g all bytes p i c =
    by (up_scan (awaited_of (before g).up.container) bytes) (ap (λ (o : Option Upstream). up_scan (awaited_of o) bytes) (sym (container_is (known g p))))
  where
    by : (x : Scan Unit10 Condition) → up_scan (awaited_of (container g)) bytes ≡ x → CutsBy Up g all bytes (as_step Heard unit_10.Bad x)
    by More e = (e, λ f. clashes (sym i ∙ f))
    by (Bad why) e = (bytes, c, subst (λ (x : Scan Unit10 Condition). Finds unit_10.Bad x (unit_10.Bad why) bytes []) (sym e) refl)
    by (Whole u n) e =
        let least : IsWithin {C = Condition} bytes (Whole u n) = subst (IsWithin bytes) e (up_within (awaited_of (container g)) bytes) in
        ((bytes, c, subst (λ (x : Scan Unit10 Condition). Finds unit_10.Bad x u bytes (drop n bytes)) (sym e) (refl, refl)), least.0, least.1)

no_bytes : (bytes : List ℕ) → length bytes ≤ 0 → bytes ≡ []
no_bytes [] few = refl
no_bytes (b ∷ bytes) few = absurd (omega (arith, few))

-- what is taken up behind a unit is no unit that came
settled_cuts : (w : State) (f : ℕ) (k g : List Step) (all left : List ℕ) → CutsInto (k ++ g) all left → CutsInto (settled w f k ++ g) all left
settled_cuts w zero k g all left c = c
settled_cuts w (suc f) k g all left c = by (next_unit (after k w)) (λ u. settled_cuts w f (Came u ∷ k) g all left c)
  where
    by : (o : Option Unit91) → ((u : Unit91) → CutsInto (settled w f (Came u ∷ k) ++ g) all left) → CutsInto (on_next o k (λ u. settled w f (Came u ∷ k)) ++ g) all left
    by None rec = c
    by (Some u) rec = rec u

behind_cuts : (end : End) (w : State) (k g : List Step) (all left : List ℕ) → CutsOf end (k ++ g) all left → CutsOf end (behind end w k ++ g) all left
behind_cuts Client w k g all left c = settled_cuts w (length (after k w).queue) k g all left c
behind_cuts Up w k g all left c = c

behind_units : (end : End) (w : State) (k g : List Step) → HasUnits end (k ++ g) → HasUnits end (behind end w k ++ g)
behind_units Client w k g i = tt
behind_units Up w k g i = i

-- a read leaves bytes with which no unit begins
record IsReadBy (end : End) (g : List Step) (all left : List ℕ) : Type 0 where
  cuts : CutsOf end g all left
  none : NoneFound end g left

abbrev IsReadAs : End → List Step → List ℕ → Cut → Type 0
IsReadAs end g all c = IsReadBy end (c.fresh ++ g) all c.unread

read_cuts : AreLoggedIn → (end : End) (g : List Step) (f : ℕ) (k : List Step) (bytes all : List ℕ) → ArePicks (k ++ g) → (before g).out_of_memory ≡ false → AreTaken k
    → IsReadyAt end (after k (before g)) → HasUnits end (k ++ g) → length bytes ≤ f → CutsOf end (k ++ g) all bytes → IsReadAs end g all (read_end end (before g) f k bytes)
read_cuts l end g zero k bytes all p calm a r i few c = record { cuts = c; none = none_empty end (k ++ g) bytes (no_bytes bytes few) }
read_cuts l end g (suc f) k bytes all p calm a r i few c =
    by (step_scan end (after k w) bytes) (found end (after k w) bytes) (found_since end g k bytes p calm a r)
    (subst (λ (v : State). CutsBy end (k ++ g) all bytes (step_scan end v bytes)) (after_before k g) (cuts_by end (k ++ g) all bytes p i c))
    (λ x n t m less d.
    read_cuts l end g f (behind end w (x ∷ k)) (drop n bytes) all (behind_picks end g (x ∷ k) (m.0, p)) calm (behind_taken end w (x ∷ k) (t, a))
    (behind_ready end w (x ∷ k) m.1) (behind_units end w (x ∷ k) g (units_stay l end x (k ++ g) (m.0, p) i)) less (behind_cuts end w (x ∷ k) g all (drop n bytes) d))
  where
    w : State
    w = before g

    by : (x : Scan Step Step) → FindsTaken x → FindsMay end (k ++ g) (after k w) x → CutsBy end (k ++ g) all bytes x
        → ((x : Step) (n : ℕ) → IsTaken x → MayStep (k ++ g) x × IsGoodAt end (step (after k w) x) → length (drop n bytes) ≤ f → CutsOf end ((x ∷ k) ++ g) all (drop n bytes)
        → IsReadAs end g all (read_end end w f (behind end w (x ∷ k)) (drop n bytes)))
        → IsReadAs end g all (on_scan x (cut_of k bytes) (λ x. cut_of (behind end w (x ∷ k)) []) (λ x n. read_end end w f (behind end w (x ∷ k)) (drop n bytes)))
    by More t m d rec = record { cuts = c; none = d }
    by (Bad x) t m d rec = record { cuts = behind_cuts end w (x ∷ k) g all [] d; none = none_empty end (behind end w (x ∷ k) ++ g) [] refl }
    by (Whole x n) t m d rec = rec x n t m (omega (arith, d.1, d.2, few, length-drop n bytes)) d.0

-- what is cut of an end is no unit of the other
abbrev other : End → End
other Client = Up
other Up = Client

abbrev FindsOther : End → Scan Step Step → Type 0
FindsOther end More = Unit {0}
FindsOther end (Bad x) = IsOther end x
FindsOther end (Whole x n) = IsOther end x

client_other : (x : Scan Unit91 ℕ) → FindsOther Up (as_step Queued unit.Bad x)
client_other More = tt
client_other (Bad code) = tt
client_other (Whole u n) = tt

up_other : (x : Scan Unit10 Condition) → FindsOther Client (as_step Heard unit_10.Bad x)
up_other More = tt
up_other (Bad why) = tt
up_other (Whole u n) = tt

found_other : (end : End) (w : State) (bytes : List ℕ) → FindsOther (other end) (step_scan end w bytes)
found_other Client w bytes = client_other (unit_scan (awaits w.conn) bytes)
found_other Up w bytes = up_other (up_scan (awaited_of w.up.container) bytes)

came_other : (end : End) (u : Unit91) → IsOther end (Came u)
came_other Client u = tt
came_other Up u = tt

settled_other : (end : End) (w : State) (f : ℕ) (k : List Step) → AreOther end k → AreOther end (settled w f k)
settled_other end w zero k o = o
settled_other end w (suc f) k o = by (next_unit (after k w)) (λ u. settled_other end w f (Came u ∷ k) (came_other end u, o))
  where
    by : (x : Option Unit91) → ((u : Unit91) → AreOther end (settled w f (Came u ∷ k))) → AreOther end (on_next x k (λ u. settled w f (Came u ∷ k)))
    by None rec = o
    by (Some u) rec = rec u

settle_other : (end : End) (w : State) → AreOther end (settle w [])
settle_other end w = settled_other end w (length w.queue) [] tt

behind_other : (end : End) (w : State) (k : List Step) → AreOther (other end) k → AreOther (other end) (behind end w k)
behind_other Client w k o = settled_other Up w (length (after k w).queue) k o
behind_other Up w k o = o

read_other : (end : End) (w : State) (f : ℕ) (k : List Step) (bytes : List ℕ) → AreOther (other end) k → AreOther (other end) (read_end end w f k bytes).fresh
read_other end w zero k bytes o = o
read_other end w (suc f) k bytes o =
    by (step_scan end (after k w) bytes) (found_other end (after k w) bytes)
    (λ x n q. read_other end w f (behind end w (x ∷ k)) (drop n bytes) (behind_other end w (x ∷ k) (q, o)))
  where
    by : (x : Scan Step Step) → FindsOther (other end) x
        → ((x : Step) (n : ℕ) → IsOther (other end) x → AreOther (other end) (read_end end w f (behind end w (x ∷ k)) (drop n bytes)).fresh)
        → AreOther (other end) (on_scan x (cut_of k bytes) (λ x. cut_of (behind end w (x ∷ k)) []) (λ x n. read_end end w f (behind end w (x ∷ k)) (drop n bytes))).fresh
    by More q rec = o
    by (Bad x) q rec = behind_other end w (x ∷ k) (q, o)
    by (Whole x n) q rec = rec x n q

cut_other : (end : End) (w : State) (bytes : List ℕ) → AreOther (other end) (cut_all end w bytes).fresh
cut_other end w bytes = read_other end w (length bytes) (behind end w []) bytes (behind_other end w [] tt)

-- ---- steps that are no units of an end

leaves_other : (end : End) (w : State) → AreOther end (leaves w)
leaves_other end w = by end (can_leave w)
  where
    by : (end : End) (b : Bool) → AreOther end (if b then TakenUp ∷ [] else [])
    by Client true = (tt, tt)
    by Up true = (tt, tt)
    by end false = tt

both_other : (end : End) (k g : List Step) → AreOther end k → AreOther end g → AreOther end (k ++ g)
both_other end [] g o q = q
both_other end (x ∷ k) g o q = (o.0, both_other end k g o.1 q)

given_other : (end : End) (w : State) (b : Bool) (o : Option Outgoing) → AreOther end (if b then [] else given w o)
given_other end w true o = tt
given_other end w false None = tt
given_other Client w false (Some u) = (tt, tt)
given_other Up w false (Some u) = (tt, tt)

whole_other : (end e : End) (b : Bool) → AreOther end (if b then [] else state.Whole e ∷ [])
whole_other end e true = tt
whole_other Client e false = (tt, tt)
whole_other Up e false = (tt, tt)

took_other : (end e : End) (n : ℕ) (bytes : List ℕ) (w : State) → AreOther end (ends e n bytes ++ begins e w)
took_other end e n bytes w =
    both_other end (ends e n bytes) (begins e w) (whole_other end e (nat_lt n (length bytes))) (given_other end w (is_busy w e) (pick w e))

-- ---- all entries

-- until the pair ran out of memory what is unread is what is left
record Hears (end : End) (failed : Bool) (g : List Step) (bytes unread : List ℕ) : Type 0 where
  cuts : Cuts end g bytes
  all : failed ≡ false → IsCutBy end g bytes unread

cuts_stay : (end : End) (k g : List Step) (bytes left : List ℕ) → AreOther end k → CutsOf end g bytes left → CutsOf end (k ++ g) bytes left
cuts_stay end [] g bytes left o c = c
cuts_stay end (x ∷ k) g bytes left o c = other_cuts end x (k ++ g) bytes left o.0 (cuts_stay end k g bytes left o.1 c)

hears_on : {failed : Bool} {bytes unread : List ℕ} (end : End) (k g : List Step) → AreOther end k → ArePicks (k ++ g) → Hears end failed g bytes unread
    → Hears end failed (k ++ g) bytes unread
hears_on {bytes = bytes} end k g o p x = record {
  cuts = (x.cuts.0, cuts_stay end k g bytes x.cuts.0 o x.cuts.1);
  all = λ m. cut_stays end k g o p (x.all m);
}

-- nothing more came of an end
more_none : {failed : Bool} {bytes unread : List ℕ} (end : End) (g : List Step) → Hears end failed g bytes unread → Hears end failed g (bytes ++ []) unread
more_none {failed} {bytes} {unread} end g x = subst (λ (b : List ℕ). Hears end failed g b unread) (sym (append-nil bytes)) x

-- the pair ran out of memory
fails : {bytes unread : List ℕ} (end : End) (g : List Step) → Cuts end g bytes → Hears end true g bytes unread
fails end g c = record { cuts = c; all = λ m. clashes m }

fails_cut : {bytes : List ℕ} (end : End) (cut : ℕ) (k g : List Step) → IsOther end state.OutOfMemory → Cuts end (k ++ g) bytes → Hears end true (state.OutOfMemory ∷ drop cut k ++ g) bytes []
fails_cut {bytes} end cut k g o c =
    let d : Cuts end (drop cut k ++ g) bytes = cuts_drop end cut k g bytes c in
    fails end (state.OutOfMemory ∷ drop cut k ++ g) (d.0, other_cuts end state.OutOfMemory (drop cut k ++ g) bytes d.0 o d.1)

-- a read
hears_cut : {failed : Bool} (end : End) (g : List Step) (all : List ℕ) (c : Cut) → IsReadAs end g all c → Hears end failed (c.fresh ++ g) all c.unread
hears_cut end g all c x =
    record { cuts = (c.unread, x.cuts); all = λ m. record { cuts = x.cuts; none = left_of end (c.fresh ++ g) c.unread x.none } }

reads_on : AreSettled → AreLoggedIn → (end : End) (g : List Step) (all unread bytes : List ℕ) → ArePicks g → (before g).out_of_memory ≡ false → IsGoodAt end (before g) → HasUnits end g
    → IsCutBy end g all unread → IsReadAs end g (all ++ bytes) (cut_all end (before g) (unread ++ bytes))
reads_on st l end g all unread bytes p calm good i c =
    let w : State = before g in
    read_cuts l end g (length (unread ++ bytes)) (behind end w []) (unread ++ bytes) (all ++ bytes) (behind_picks end g [] p) calm (behind_taken end w [] tt)
    (behind_ready end w [] good) (behind_units end w [] g i) (omega arith) (behind_cuts end w [] g (all ++ bytes) (unread ++ bytes) (cuts_more st end g all bytes unread c.cuts))

record BothHear (failed : Bool) (g : List Step) (bytes unread up_bytes up_unread : List ℕ) : Type 0 where
  client : Hears Client failed g bytes unread
  up : Hears Up failed g up_bytes up_unread

abbrev HearsAll : SetupText → List Entry → Type 0
HearsAll s h = BothHear (is_out_of_memory h) (steps_of s h) (heard_bytes Client h) (told s h).client.unread (heard_bytes Up h) (told s h).up.unread

both_on : {failed : Bool} {a b c d : List ℕ} (k g : List Step) → ((end : End) → AreOther end k) → ArePicks (k ++ g) → BothHear failed g a b c d → BothHear failed (k ++ g) a b c d
both_on k g o p x = record { client = hears_on Client k g (o Client) p x.client; up = hears_on Up k g (o Up) p x.up }

one_other : (x : Step) → IsOther Client x → IsOther Up x → (end : End) → AreOther end (x ∷ [])
one_other x c u Client = (c, tt)
one_other x c u Up = (u, tt)

awaited_some : (o : Option Upstream) → is_awaited_up (awaited_of o) ≡ true → is_some o ≡ true
awaited_some None e = absurd cc
awaited_some (Some c) e = refl

-- bytes of a container are read after the login
read_units : (r m b a : Bool) (o : Option Upstream) → is_awaited_up (awaited_of o) ≡ a → (r && (not m && (b && a))) ≡ true → is_some o ≡ true
read_units r m b a o f e = awaited_some o (f ∙ and_right b a (and_right (not m) _ (and_right r _ e)))

-- a read of the client
client_reads : AreSettled → AreLoggedIn → (s : SetupText) (h : List Entry) (bytes : List ℕ) → IsRelayed (pair_words s) h → reads (pair_words s) Client h ≡ true
    → Hears Client (is_out_of_memory h) (steps_of s h) (heard_bytes Client h) (told s h).client.unread
    → IsReadAs Client (state.Fed Client ∷ steps_of s h) (heard_bytes Client h ++ bytes) (cut_all Client (before (state.Fed Client ∷ steps_of s h)) ((told s h).client.unread ++ bytes))
unfolding pair_words
client_reads st l s h bytes r e x =
    let g : List Step = state.Fed Client ∷ steps_of s h in
    let p : ArePicks g = (tt, picks s h r) in
    let good : IsGood (before g) = fed_good (state_of s h) (good_at s h e) in
    let calm : is_out_of_memory h ≡ false = read_calm (is_readable (side_of Client (sides h))) (is_out_of_memory h) _ e in
    let y : Hears Client (is_out_of_memory h) g (heard_bytes Client h) (told s h).client.unread = hears_on Client (state.Fed Client ∷ []) (steps_of s h) (tt, tt) p x in
    reads_on st l Client g (heard_bytes Client h) (told s h).client.unread bytes p good.calm good tt (y.all calm)

-- bytes that came, before they are cut
fed_hears : (s : SetupText) (end : End) (h : List Entry) → ArePicks (steps_of s h) → HearsAll s h
    → BothHear (is_out_of_memory h) (state.Fed end ∷ steps_of s h) (heard_bytes Client h) (told s h).client.unread (heard_bytes Up h) (told s h).up.unread
fed_hears s end h p x = both_on (state.Fed end ∷ []) (steps_of s h) (one_other (state.Fed end) tt tt) (tt, p) x

-- a moment, at which ends may be given up
ticked_hears : {failed : Bool} {a b c d : List ℕ} (s : SetupText) (ms : ℕ) (h : List Entry) → IsRelayed (pair_words s) (entry.Moment ms ∷ h) → BothHear failed (steps_of s h) a b c d
    → BothHear failed (steps_of s (entry.Moment ms ∷ h)) a b c d
ticked_hears {failed} {a} {b} {c} {d} s ms h r x =
    let p : ArePicks (state.Moment ms ∷ steps_of s h) = moment_picks s ms h r in
    (tick_all (λ (g : List Step). ArePicks g × BothHear failed g a b c d)
    (λ end g e y. ((e, y.0), both_on (state.Silent end ∷ []) g (one_other (state.Silent end) tt tt) (e, y.0) y.1)) ms (told s h)
    (p, both_on (state.Moment ms ∷ []) (steps_of s h) (one_other (state.Moment ms) tt tt) p x)).1

hears : AreSettled → AreLoggedIn → (s : SetupText) (h : List Entry) → IsRelayed (pair_words s) h → HearsAll s h
unfolding pair_words
hears st l s [] r = record {
  client = record { cuts = ([], refl); all = λ m. record { cuts = refl; none = tt } };
  up = record { cuts = ([], refl); all = λ m. record { cuts = refl; none = none_empty Up [] [] refl } };
}
hears st l s (entry.Began n ms ∷ h) r =
    let x = state.Began (site_of s) n ms in both_on (x ∷ []) (steps_of s h) (one_other x tt tt) (picks s (entry.Began n ms ∷ h) r) (hears st l s h r.2)
hears st l s (entry.Refused ∷ h) r =
    let x = hears st l s h r.2 in
    record { client = fails Client _ x.client.cuts; up = fails Up _ x.up.cuts }
hears st l s (entry.Moment ms ∷ h) r = ticked_hears s ms h r (hears st l s h r.2)
hears st l s (entry.Came Client bytes ∷ h) r =
    let old = hears st l s h r.2 in
    let x = fed_hears s Client h (picks s h r.2) old in
    let g : List Step = state.Fed Client ∷ steps_of s h in
    let c : Cut = cut_all Client (before g) ((told s h).client.unread ++ bytes) in
    record {
      client = hears_cut Client g (heard_bytes Client h ++ bytes) c (client_reads st l s h bytes r.2 r.0.0 old.client);
      up = more_none Up _ (hears_on Up c.fresh g (cut_other Client (before g) ((told s h).client.unread ++ bytes)) (picks s (entry.Came Client bytes ∷ h) r) x.up);
    }
hears st l s (entry.Came Up bytes ∷ h) r =
    let readable : Bool = is_readable (side_of Up (sides h)) in
    let calm : is_out_of_memory h ≡ false = read_calm readable (is_out_of_memory h) _ r.0.0 in
    let x = fed_hears s Up h (picks s h r.2) (hears st l s h r.2) in
    let g : List Step = state.Fed Up ∷ steps_of s h in
    let p : ArePicks g = (tt, picks s h r.2) in
    let all : List ℕ = (told s h).up.unread ++ bytes in
    let login : is_some (container g) ≡ true =
    ap is_some (sym (container_is (known g p))) ∙ read_units readable (is_out_of_memory h) (is_readable (before g).up.side) _ (before g).up.container refl r.0.0 in
    record {
      client = more_none Client _ (hears_on Client (cut_all Up (before g) all).fresh g (cut_other Up (before g) all) (picks s (entry.Came Up bytes ∷ h) r) x.client);
      up = hears_cut Up g (heard_bytes Up h ++ bytes) (cut_all Up (before g) all)
          (reads_on st l Up g (heard_bytes Up h) (told s h).up.unread bytes p (memory_of s h ∙ calm) tt login (x.up.all calm));
    }
hears st l s (entry.Dry end ∷ h) r = hears st l s h r.2
hears st l s (entry.Settled ∷ h) r =
    let g : List Step = state.LinesTold ∷ steps_of s h in
    let k : List Step = settle (before g) [] in
    let t : List Step = leaves (before (k ++ g)) in
    both_on (t ++ k) g (λ end. both_other end t k (leaves_other end (before (k ++ g))) (settle_other end (before g))) (picks s (entry.Settled ∷ h) r)
    (both_on (state.LinesTold ∷ []) (steps_of s h) (one_other state.LinesTold tt tt) (tt, picks s h r.2) (hears st l s h r.2))
hears st l s (entry.Joined answer ∷ h) r =
    let x = state.Joined answer in both_on (x ∷ []) (steps_of s h) (one_other x tt tt) (picks s (entry.Joined answer ∷ h) r) (hears st l s h r.2)
hears st l s (entry.Took Client bytes n ∷ h) r =
    both_on (ends Client n bytes ++ begins Client (state_of s h)) (steps_of s h) (λ end. took_other end Client n bytes (state_of s h))
    (picks s (entry.Took Client bytes n ∷ h) r) (hears st l s h r.2)
hears st l s (entry.Took Up bytes n ∷ h) r =
    both_on (ends Up n bytes ++ begins Up (state_of s h)) (steps_of s h) (λ end. took_other end Up n bytes (state_of s h))
    (picks s (entry.Took Up bytes n ∷ h) r) (hears st l s h r.2)
hears st l s (entry.Stuck end bytes ∷ h) r = hears st l s h r.2
hears st l s (entry.Lost end how ∷ h) r =
    let x = state.Lost end how in both_on (x ∷ []) (steps_of s h) (one_other x tt tt) (picks s (entry.Lost end how ∷ h) r) (hears st l s h r.2)
hears st l s (entry.OutOfMemory cut ∷ h) r =
    let x = hears st l s h r.2 in
    let t = told s h in
    let k : List Step = state.LinesTold ∷ t.fresh in
    record { client = fails_cut Client cut k t.past tt x.client.cuts; up = fails_cut Up cut k t.past tt x.up.cuts }
hears st l s (entry.Over ∷ h) r = hears st l s h r.2

-- no further unit of the client was whole when it was read last
none_whole : AreSettled → AreLoggedIn → (s : SetupText) (h : List Entry) → IsRelayed (pair_words s) h → is_out_of_memory h ≡ false → NoneWhole s h (told s h).client.unread
none_whole st l s [] r m = refl
none_whole st l s (entry.Began n ms ∷ h) r m = none_whole st l s h r.2 m
none_whole st l s (entry.Refused ∷ h) r m = clashes m
none_whole st l s (entry.Moment ms ∷ h) r m = none_whole st l s h r.2 m
none_whole st l s (entry.Came Client bytes ∷ h) r m = (client_reads st l s h bytes r.2 r.0.0 (hears st l s h r.2).client).none
none_whole st l s (entry.Came Up bytes ∷ h) r m = none_whole st l s h r.2 m
none_whole st l s (entry.Dry end ∷ h) r m = none_whole st l s h r.2 m
none_whole st l s (entry.Settled ∷ h) r m = none_whole st l s h r.2 m
none_whole st l s (entry.Joined answer ∷ h) r m = none_whole st l s h r.2 m
none_whole st l s (entry.Took Client bytes n ∷ h) r m = none_whole st l s h r.2 m
none_whole st l s (entry.Took Up bytes n ∷ h) r m = none_whole st l s h r.2 m
none_whole st l s (entry.Stuck end bytes ∷ h) r m = none_whole st l s h r.2 m
none_whole st l s (entry.Lost end how ∷ h) r m = none_whole st l s h r.2 m
none_whole st l s (entry.OutOfMemory cut ∷ h) r m = clashes m
none_whole st l s (entry.Over ∷ h) r m = none_whole st l s h r.2 m

-- ---- what they say of each end

pub are_cut : AreSettled → AreLoggedIn → (s : SetupText) (h : List Entry) → IsRelayed (pair_words s) h → AreCut s h
are_cut st l s h r = by (is_out_of_memory h) refl
  where
    x : Hears Client (is_out_of_memory h) (steps_of s h) (heard_bytes Client h) (told s h).client.unread
    x = (hears st l s h r).client

    by : (b : Bool) → is_out_of_memory h ≡ b → AreCut s h
    by true e = record { left = x.cuts.0; cuts = x.cuts.1; none = λ m. clashes (sym e ∙ m) }
    by false e = record { left = (told s h).client.unread; cuts = (x.all e).cuts; none = none_whole st l s h r }

pub are_heard : AreSettled → AreLoggedIn → (s : SetupText) (h : List Entry) → IsRelayed (pair_words s) h → AreHeard s h
are_heard st l s h r = by (is_out_of_memory h) refl
  where
    x : Hears Up (is_out_of_memory h) (steps_of s h) (heard_bytes Up h) (told s h).up.unread
    x = (hears st l s h r).up

    by : (b : Bool) → is_out_of_memory h ≡ b → AreHeard s h
    by true e = record { left = x.cuts.0; cuts = x.cuts.1; none = λ m. clashes (sym e ∙ m) }
    by false e = record { left = (told s h).up.unread; cuts = (x.all e).cuts; none = λ m. (x.all e).none.0 }
