-- An empty frame goes next to a container exactly where the steps say so.
use Rattle.std.proofs.Common.{◌≡◌, ◌↔◌, ◌∙◌, ℕ, ◌+◌, ◌-◌, ◌/◌, ◌==◌, ◌<◌, ◌≤◌, nat_le, Bool, true}
use Rattle.std.proofs.Common.{false, not, ◌&&◌, ◌||◌, map, if◌then◌else◌, List, [], ◌∷◌, ◌++◌}
use Rattle.std.proofs.Common.{Option, Some, refl, sym, ap, subst, arith}
use Rattle.std.specs.List.{list_any}
use Rattle.std.proofs.lemmas.Bool.Decides.{nat_tests}
use Rattle.gate_outside.specs.declared.ports.End.TheVariants.{Up}
use Rattle.performatives_10.specs.declared.condition.Condition.{Condition}
use Rattle.gate_relay.specs.Sides.{is_readable}
use Rattle.machine_091.specs.State.{is_closing}
use Rattle.machine_10.specs.declared.state.Upstream.{Upstream}
use Rattle.gate_model.specs.declared.outgoing.Outgoing.TheVariants.{ToUp}
use Rattle.gate_model.specs.declared.outgoing.UpPending.{UpPending}
use Rattle.gate_model.specs.declared.outgoing.UpUnit.{UpUnit}
use Rattle.gate_model.specs.declared.outgoing.UpUnit.TheVariants as up
use Rattle.gate_model.specs.Asked.{Goes, GoesWhenDue, is_up_close, is_up_open}
use Rattle.gate_model.specs.Due.{begins, close_behind, ends, is_busy, may_idle, none_left}
use Rattle.gate_model.specs.Due.{other_rows, pick, rows_in, session_rows, up_rows}
use Rattle.gate_model.specs.Folds.{connection, container, moment_in, ran_out_in, sent_up}
use Rattle.gate_model.specs.Folds.{sent_up_at, side_in}
use Rattle.gate_model.specs.Picks.{ArePicks}
use Rattle.gate_model.specs.State.{State, Step, Gave, before}
use Rattle.gate_model.specs.Upstream.{first, idle_in, is_idle_by, is_idle_due}
use Rattle.gate_model.specs.Upstream.{opening_rows, when_up}
use Rattle.gate_model.proofs.Connections.{clash}
use Rattle.gate_model.proofs.Known.{Known, conn_is, container_is, known, memory_is, moment_is}
use Rattle.gate_model.proofs.Known.{side_is}
use Rattle.gate_model.proofs.Openings.{is_opening_first}
use Rattle.gate_model.proofs.Basics.{and_both}
use Rattle.gate_model.proofs.Ups.{UpSays, up_says}
use Rattle.gate_pair.proofs.Lacks.{Lacks, begins_lack, both_lack, ends_lack, first_up, rows_lack}

-- where one may go, of steps
pub record MayTellIn (g : List Step) : Type 0 where
  pub stated : 0 < idle_in (container g)
  pub opened : list_any is_up_open (sent_up g) ≡ true
  pub quiet : sent_up_at g + (idle_in (container g) + 1) / 2 ≤ moment_in g
  pub readable : is_readable (side_in g) ≡ true
  pub unclosed : list_any is_up_close (sent_up g) ≡ false
  pub calm : ran_out_in g ≡ false
  pub alone : other_rows (is_closing (connection g)) (before g) ≡ []

-- ---- one that goes

no_close : (b : Bool) (why : Option Condition) → Lacks up.Empty (when_up b (up.Close why))
no_close true why e = absurd cc
no_close false why e = absurd cc

opening_lacks : (p : UpPending) → Lacks up.Empty (opening_rows p)
opening_lacks p e = absurd (clash _ (is_opening_first p up.Empty e) refl)

others_lack : (closing : Bool) (w : State) → Lacks up.Empty (other_rows closing w)
others_lack true w =
    both_lack up.Empty (session_rows w) _ (rows_lack up.Empty w refl)
    (both_lack up.Empty (ends true w) (close_behind w) (ends_lack up.Empty true w refl) (no_close (none_left w && w.up.sent.«open») w.up.condition))
others_lack false w =
    both_lack up.Empty (opening_rows w.up.pending) _ (opening_lacks w.up.pending)
    (both_lack up.Empty (begins w) _ (begins_lack up.Empty w refl)
    (both_lack up.Empty (session_rows w) (ends false w) (rows_lack up.Empty w refl) (ends_lack up.Empty false w refl)))

-- no other unit is due with it
alone_in : (us vs : List UpUnit) → Lacks up.Empty us → first (us ++ vs) ≡ Some up.Empty → us ≡ []
alone_in [] vs none e = refl
alone_in (u ∷ us) vs none e = absurd (none e)

alone_by : (w : State) → first (up_rows w) ≡ Some up.Empty → other_rows (w.out_of_memory || is_closing w.conn) w ≡ []
alone_by w e = by (is_readable w.up.side && not w.up.sent.close) e
  where
    by : (b : Bool) → first (if b then rows_in (w.out_of_memory || is_closing w.conn) w else []) ≡ Some up.Empty → other_rows (w.out_of_memory || is_closing w.conn) w ≡ []
    by true f = alone_in (other_rows (w.out_of_memory || is_closing w.conn) w) _ (others_lack (w.out_of_memory || is_closing w.conn) w) f
    by false f = absurd cc

-- while the pair has memory these are those of its connection
calm_closing : (a b c d : Bool) → a ≡ c → c ≡ false → b ≡ d → (a || b) ≡ d
calm_closing false b c d e f g = g
calm_closing true b c d e f g = absurd cc

closing_of : (g : List Step) → ArePicks g → ran_out_in g ≡ false → ((before g).out_of_memory || is_closing (before g).conn) ≡ is_closing (connection g)
closing_of g p calm = calm_closing _ _ _ _ (memory_is (known g p)) calm (ap is_closing (conn_is (known g p)))

tells : ((g : List Step) → ArePicks g → GoesWhenDue g) → (g : List Step) → ArePicks g → is_busy (before g) Up ≡ false → pick (before g) Up ≡ Some (ToUp up.Empty) → MayTellIn g
tells law g p free e =
    let w : State = before g in
    let x : Goes g up.Empty = (law (Gave (ToUp up.Empty) [] ∷ g) ((free, e, refl), p)).0 in
    record {
      stated = x.may.stated;
      opened = x.may.opened;
      quiet = x.may.quiet;
      readable = x.open_end;
      unclosed = x.unclosed;
      calm = x.may.calm;
      alone = subst (λ (b : Bool). other_rows b w ≡ []) (closing_of g p x.may.calm) (alone_by w (first_up (up_rows w) up.Empty e));
    }

-- ---- one that may

long_quiet : (n ms last : ℕ) → last + n ≤ ms → nat_le n (ms - last) ≡ true
long_quiet n ms last e = grind (arith, nat_tests)

idle_by : (idle ms last : ℕ) → 0 < idle → last + (idle + 1) / 2 ≤ ms → is_idle_by idle ms last ≡ true
idle_by idle ms last e f =
    let some : not (idle == 0) ≡ true = grind (arith, nat_tests) in
    and_both (not (idle == 0)) (nat_le ((idle + 1) / 2) (ms - last)) some (long_quiet ((idle + 1) / 2) ms last f)

one_due : (w : State) (closing readable closed : Bool) → readable ≡ true → closed ≡ false → other_rows closing w ≡ [] → may_idle w ≡ true
    → (if readable && not closed then rows_in closing w else []) ≡ up.Empty ∷ []
one_due w closing false c e f none due = absurd cc
one_due w closing true true e f none due = absurd cc
one_due w closing true false e f none due =
    ap (λ (us : List UpUnit). us ++ when_up (may_idle w) up.Empty) none ∙ ap (λ (b : Bool). when_up b up.Empty) due

tells_now : (g : List Step) → ArePicks g → MayTellIn g → pick (before g) Up ≡ Some (ToUp up.Empty)
tells_now g p m = ap (λ (us : List UpUnit). first (map ToUp us)) rows
  where
    w : State
    w = before g

    k : Known g
    k = known g p

    s : UpSays g
    s = up_says g p

    unclosed : w.up.sent.close ≡ false
    unclosed = s.close_is ∙ m.unclosed

    quiet : w.up.last_sent_at + (idle_in w.up.container + 1) / 2 ≤ w.moment
    quiet =
        subst (λ (o : Option Upstream). w.up.last_sent_at + (idle_in o + 1) / 2 ≤ w.moment) (sym (container_is k))
        (subst (λ (n : ℕ). n + (idle_in (container g) + 1) / 2 ≤ w.moment) (sym s.at_is)
        (subst (λ (n : ℕ). sent_up_at g + (idle_in (container g) + 1) / 2 ≤ n) (sym (moment_is k)) m.quiet))

    due : is_idle_due w.up w.moment ≡ true
    due =
        and_both w.up.sent.«open» (is_idle_by (idle_in w.up.container) w.moment w.up.last_sent_at) (s.open_is ∙ m.opened)
        (idle_by (idle_in w.up.container) w.moment w.up.last_sent_at (subst (λ (o : Option Upstream). 0 < idle_in o) (sym (container_is k)) m.stated) quiet)

    calm : w.out_of_memory ≡ false
    calm = memory_is k ∙ m.calm

    rows : up_rows w ≡ up.Empty ∷ []
    rows =
        one_due w (w.out_of_memory || is_closing w.conn) (is_readable w.up.side) w.up.sent.close (ap is_readable (side_is k) ∙ m.readable) unclosed
        (subst (λ (b : Bool). other_rows b w ≡ []) (sym (closing_of g p m.calm)) m.alone) (and_both (not w.out_of_memory) _ (ap not calm) due)

pub tells_at_once : ((g : List Step) → ArePicks g → GoesWhenDue g) → (g : List Step) → ArePicks g → is_busy (before g) Up ≡ false
    → (pick (before g) Up ≡ Some (ToUp up.Empty)) ↔ MayTellIn g
tells_at_once law g p free = (tells law g p free, tells_now g p)
