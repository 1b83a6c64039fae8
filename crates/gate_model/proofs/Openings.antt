-- The units of the opening to a container: what calls for them, and how they go.
use Rattle.std.proofs.Common.{◌≡◌, Bool, true, false, not, ◌&&◌, ◌||◌, if◌then◌else◌, List, [], ◌∷◌}
use Rattle.std.proofs.Common.{◌++◌, Option, None, Some, append_assoc, append-nil, refl, sym, ap, ◌∙◌, subst}
use Rattle.std.specs.Prelude.{filter}
use Rattle.std.proofs.lemmas.List.Elements.{filter-append}
use Rattle.frames_10.specs.declared.frame.Kind10.{Kind10}
use Rattle.frames_10.specs.declared.frame.Kind10.TheVariants as kind
use Rattle.machine_10.specs.Refusals.{is_login_phase}
use Rattle.machine_10.specs.Transitions as ten
use Rattle.machine_10.specs.Transitions.{Meaning, awaits_header, phase_after, unit_step}
use Rattle.machine_10.specs.declared.state.Phase10.{Phase10}
use Rattle.machine_10.specs.declared.state.Phase10.TheVariants as phase
use Rattle.machine_10.specs.declared.state.Upstream.{Upstream}
use Rattle.machine_10.specs.declared.unit.Unit10.{Unit10}
use Rattle.machine_10.proofs.StepCases.{step_rows}
use Rattle.gate_model.specs.declared.outgoing.UpPending.{UpPending}
use Rattle.gate_model.specs.declared.outgoing.UpUnit.{UpUnit}
use Rattle.gate_model.specs.declared.outgoing.UpUnit.TheVariants as up
use Rattle.gate_model.specs.Asked.{called_by, called_from, is_opening_unit, openings_of}
use Rattle.gate_model.specs.Upstream.{container_by, first, is_open_phase, opening_rows, opens, when_up, without_up}
use Rattle.gate_model.proofs.Basics.{or_one}
use Rattle.gate_model.proofs.Connections.{clash}

-- ---- phases

abbrev before_init : Phase10 → Bool
before_init phase.SaslHeader = true
before_init phase.Mechanisms = true
before_init x = false

abbrev before_amqp : Phase10 → Bool
before_amqp phase.SaslHeader = true
before_amqp phase.Mechanisms = true
before_amqp phase.Outcome = true
before_amqp x = false

abbrev before_open : Phase10 → Bool
before_open phase.Open = false
before_open phase.Running = false
before_open phase.Closing = false
before_open phase.Closed = false
before_open x = true

-- no phase is earlier than the one before
record Falls (p q : Phase10) : Type 0 where
  init : before_init q ≡ true → before_init p ≡ true
  amqp : before_amqp q ≡ true → before_amqp p ≡ true
  own : before_open q ≡ true → before_open p ≡ true

falls_same : (p : Phase10) → Falls p p
falls_same p = record { init = λ e. e; amqp = λ e. e; own = λ e. e }

-- ---- what a unit of the container calls for

abbrev calls : Meaning → Bool
calls ten.Init = true
calls ten.AmqpHeader = true
calls x = false

calls_not : (m : Meaning) (p : UpPending) → calls m ≡ false → called_by m p ≡ p
calls_not ten.Init p e = absurd cc
calls_not ten.AmqpHeader p e = absurd cc
calls_not x p e = refl

data Effect (c : Upstream) : ten.Step → Type 0 where
  Quiet : (x : Upstream) (m : Meaning) → calls m ≡ false → opens c x ≡ false → Falls c.phase x.phase → Effect c (x, m)
  Offers : (x : Upstream) → c.phase ≡ phase.Mechanisms → x.phase ≡ phase.Outcome → Effect c (x, ten.Init)
  CameOut : (x : Upstream) → is_login_phase c.phase ≡ true → x.phase ≡ phase.AmqpHeader → Effect c (x, ten.AmqpHeader)
  Meets : (x : Upstream) → c.phase ≡ phase.AmqpHeader → x.phase ≡ phase.Open → Effect c (x, ten.Nothing)

never_opens : (p : Phase10) → (is_open_phase p && not (is_open_phase p)) ≡ false
never_opens p = by (is_open_phase p)
  where
    by : (b : Bool) → (b && not b) ≡ false
    by true = refl
    by false = refl

quiet_same : (c x : Upstream) (m : Meaning) → calls m ≡ false → x.phase ≡ c.phase → Effect c (x, m)
quiet_same c x m e f =
    Quiet x m e (ap (λ (p : Phase10). is_open_phase p && not (is_open_phase c.phase)) f ∙ never_opens c.phase)
    (subst (λ (p : Phase10). Falls c.phase p) (sym f) (falls_same c.phase))

falls_closing : (p : Phase10) → Falls p phase.Closing
falls_closing p = record { init = λ e. absurd cc; amqp = λ e. absurd cc; own = λ e. absurd cc }

falls_closed : (p : Phase10) → Falls p phase.Closed
falls_closed p = record { init = λ e. absurd cc; amqp = λ e. absurd cc; own = λ e. absurd cc }

falls_running : (p : Phase10) → Falls p phase.Running
falls_running p = record { init = λ e. absurd cc; amqp = λ e. absurd cc; own = λ e. absurd cc }

sasl_phase : (p : Phase10) → awaits_header kind.Sasl p ≡ true → p ≡ phase.SaslHeader
sasl_phase phase.SaslHeader e = refl
sasl_phase x e = absurd cc

amqp_phase : (p : Phase10) → awaits_header kind.Amqp p ≡ true → p ≡ phase.AmqpHeader
amqp_phase phase.AmqpHeader e = refl
amqp_phase x e = absurd cc

greeted : (c x : Upstream) (k : Kind10) → awaits_header k c.phase ≡ true → x.phase ≡ phase_after k → Effect c (x, ten.Nothing)
greeted c x kind.Sasl e f =
    let at : c.phase ≡ phase.SaslHeader = sasl_phase c.phase e in
    Quiet x ten.Nothing refl (ap (λ (p : Phase10). is_open_phase p && not (is_open_phase c.phase)) f)
    (record { init = λ k. ap before_init at; amqp = λ k. ap before_amqp at; own = λ k. ap before_open at })
greeted c x kind.Amqp e f = Meets x (amqp_phase c.phase e) f

effect : (c : Upstream) (u : Unit10) → Effect c (unit_step c u)
effect c u = step_rows (λ (x : ten.Step). Effect c x) c u (record {
  nothing = quiet_same c c ten.Nothing refl refl;
  violated = λ why s e. Quiet _ (ten.Violation why) refl refl (falls_closing c.phase);
  greeted = λ k e r a. greeted c _ k a refl;
  offered = λ e. Offers _ e refl;
  refused = λ e. Quiet _ ten.Refused refl refl (falls_closed c.phase);
  came_out = λ e. CameOut _ e refl;
  opened = λ stated e f. Quiet _ ten.Opened refl refl (falls_running c.phase);
  answered = λ g n p payload e f s. quiet_same c _ (ten.OfSession g p payload) refl refl;
  crossed = λ g n e f s. quiet_same c _ ten.Nothing refl refl;
  within = λ g p payload e. quiet_same c c (ten.OfSession g p payload) refl refl;
  ended = λ g m p payload e s. quiet_same c _ (ten.OfSession g p payload) refl refl;
  freed = λ g m p payload e s. quiet_same c _ (ten.OfSession g p payload) refl refl;
  closed = λ e. Quiet _ (ten.Closed e) refl refl (falls_closed c.phase);
  shut = λ why e. Quiet _ (ten.Violation why) refl refl (falls_closed c.phase);
  passed = λ s e. quiet_same c _ ten.Nothing refl refl;
})

-- ---- what was called for by a phase

pub record UpTo (q : Phase10) (p : UpPending) : Type 0 where
  pub init : before_init q ≡ true → p.init ≡ false
  pub amqp : before_amqp q ≡ true → p.amqp_header ≡ false
  pub own : before_open q ≡ true → p.«open» ≡ false

up_to_falls : (a b : Phase10) (p : UpPending) → Falls a b → UpTo a p → UpTo b p
up_to_falls a b p f s = record { init = λ e. s.init (f.init e); amqp = λ e. s.amqp (f.amqp e); own = λ e. s.own (f.own e) }

pub up_to_closed : (p : UpPending) → UpTo phase.Closed p
up_to_closed p = record { init = λ e. absurd cc; amqp = λ e. absurd cc; own = λ e. absurd cc }

-- what was sent and what is due are what was called for
pub record Ups (p q : UpPending) (at : Phase10) (went : List UpUnit) : Type 0 where
  pub same : openings_of went ++ opening_rows p ≡ opening_rows q
  pub mine : UpTo at p
  pub theirs : UpTo at q

-- one unit more behind the others
init_due : (p : UpPending) → p.init ≡ false → p.amqp_header ≡ false → p.«open» ≡ false
    → opening_rows (record p { init = true }) ≡ opening_rows p ++ up.SaslInit ∷ []
init_due p i a o = rw (i, a, o) (simp append_assoc)

amqp_due : (p : UpPending) → p.amqp_header ≡ false → p.«open» ≡ false → opening_rows (record p { amqp_header = true }) ≡ opening_rows p ++ up.AmqpHeader ∷ []
amqp_due p a o = rw (a, o) (simp append_assoc)

open_due : (p : UpPending) → p.«open» ≡ false → opening_rows (record p { «open» = true }) ≡ opening_rows p ++ up.Open ∷ []
open_due p o = rw o (simp (append_assoc, append-nil))

one_more : (went old all new more : List UpUnit) (u : UpUnit) → went ++ old ≡ all → new ≡ old ++ u ∷ [] → more ≡ all ++ u ∷ [] → went ++ new ≡ more
one_more went old all new more u same e f =
    ap (λ (x : List UpUnit). went ++ x) e ∙ sym (append_assoc went old (u ∷ [])) ∙ ap (λ (x : List UpUnit). x ++ u ∷ []) same ∙ sym f

abbrev with_open : Bool → UpPending → UpPending
with_open b p = record p { «open» = p.«open» || b }

or_true : (b : Bool) → (b || true) ≡ true
or_true true = refl
or_true false = refl

unopened : (b : Bool) (p : UpPending) → b ≡ false → with_open b p ≡ p
unopened b p e = ap (λ (x : Bool). with_open x p) e ∙ ap (λ (x : Bool). record p { «open» = x }) (or_one p.«open»)

opened : (b : Bool) (p : UpPending) → b ≡ true → with_open b p ≡ record p { «open» = true }
opened b p e = ap (λ (x : Bool). with_open x p) e ∙ ap (λ (x : Bool). record p { «open» = x }) (or_true p.«open»)

opens_not : (c x : Upstream) (q : Phase10) → x.phase ≡ q → is_open_phase q ≡ false → opens c x ≡ false
opens_not c x q e f = ap (λ (b : Bool). b && not (is_open_phase c.phase)) (ap is_open_phase e ∙ f)

login_amqp : (p : Phase10) → is_login_phase p ≡ true → before_amqp p ≡ true
login_amqp phase.SaslHeader e = refl
login_amqp phase.Mechanisms e = refl
login_amqp phase.Outcome e = refl
login_amqp x e = absurd cc

login_open : (p : Phase10) → is_login_phase p ≡ true → before_open p ≡ true
login_open phase.Open e = absurd cc
login_open phase.Running e = absurd cc
login_open phase.Closing e = absurd cc
login_open phase.Closed e = absurd cc
login_open x e = refl

-- pending and called for change alike
ups_like : (p q p' q' : UpPending) (at : Phase10) (went : List UpUnit) → p' ≡ p → q' ≡ q → Ups p q at went → Ups p' q' at went
ups_like p q p' q' at went e f s =
    subst (λ (x : UpPending). Ups x q' at went) (sym e) (subst (λ (x : UpPending). Ups p x at went) (sym f) s)

offered_to : (c x : Upstream) (p : UpPending) → c.phase ≡ phase.Mechanisms → x.phase ≡ phase.Outcome → UpTo c.phase p → UpTo x.phase (record p { init = true })
offered_to c x p e f s = record {
  init = λ k. absurd (clash _ k (ap before_init f));
  amqp = λ k. s.amqp (ap before_amqp e);
  own = λ k. s.own (ap before_open e);
}

came_out_to : (c x : Upstream) (p : UpPending) → is_login_phase c.phase ≡ true → x.phase ≡ phase.AmqpHeader → UpTo c.phase p → UpTo x.phase (record p { amqp_header = true })
came_out_to c x p e f s = record {
  init = λ k. absurd (clash _ k (ap before_init f));
  amqp = λ k. absurd (clash _ k (ap before_amqp f));
  own = λ k. s.own (login_open c.phase e);
}

met_to : (x : Upstream) (p : UpPending) → x.phase ≡ phase.Open → UpTo x.phase p
met_to x p f = record {
  init = λ k. absurd (clash _ k (ap before_init f));
  amqp = λ k. absurd (clash _ k (ap before_amqp f));
  own = λ k. absurd (clash _ k (ap before_open f));
}

ups_effect : (c : Upstream) (p q : UpPending) (went : List UpUnit) (x : ten.Step) → Effect c x → Ups p q c.phase went
    → Ups (called_by x.1 (with_open (opens c x.0) p)) (called_by x.1 (with_open (opens c x.0) q)) x.0.phase went
ups_effect c p q went _ (Quiet x m calm shut falls) s =
    ups_like p q _ _ x.phase went (calls_not m _ calm ∙ unopened (opens c x) p shut) (calls_not m _ calm ∙ unopened (opens c x) q shut)
    (record { same = s.same; mine = up_to_falls c.phase x.phase p falls s.mine; theirs = up_to_falls c.phase x.phase q falls s.theirs })
ups_effect c p q went _ (Offers x e f) s =
    let shut : opens c x ≡ false = opens_not c x phase.Outcome f refl in
    let i : before_init c.phase ≡ true = ap before_init e in
    let a : before_amqp c.phase ≡ true = ap before_amqp e in
    let o : before_open c.phase ≡ true = ap before_open e in
    ups_like (record p { init = true }) (record q { init = true }) _ _ x.phase went
    (ap (λ (y : UpPending). record y { init = true }) (unopened (opens c x) p shut))
    (ap (λ (y : UpPending). record y { init = true }) (unopened (opens c x) q shut))
    (record {
      same = one_more (openings_of went) (opening_rows p) (opening_rows q) _ _ up.SaslInit s.same
          (init_due p (s.mine.init i) (s.mine.amqp a) (s.mine.own o)) (init_due q (s.theirs.init i) (s.theirs.amqp a) (s.theirs.own o));
      mine = offered_to c x p e f s.mine;
      theirs = offered_to c x q e f s.theirs;
    })
ups_effect c p q went _ (CameOut x e f) s =
    let shut : opens c x ≡ false = opens_not c x phase.AmqpHeader f refl in
    let a : before_amqp c.phase ≡ true = login_amqp c.phase e in
    let o : before_open c.phase ≡ true = login_open c.phase e in
    ups_like (record p { amqp_header = true }) (record q { amqp_header = true }) _ _ x.phase went
    (ap (λ (y : UpPending). record y { amqp_header = true }) (unopened (opens c x) p shut))
    (ap (λ (y : UpPending). record y { amqp_header = true }) (unopened (opens c x) q shut))
    (record {
      same = one_more (openings_of went) (opening_rows p) (opening_rows q) _ _ up.AmqpHeader s.same
          (amqp_due p (s.mine.amqp a) (s.mine.own o)) (amqp_due q (s.theirs.amqp a) (s.theirs.own o));
      mine = came_out_to c x p e f s.mine;
      theirs = came_out_to c x q e f s.theirs;
    })
ups_effect c p q went _ (Meets x e f) s =
    let is : opens c x ≡ true = ap (λ (y : Phase10). is_open_phase y && not (is_open_phase c.phase)) f ∙ ap (λ (y : Phase10). not (is_open_phase y)) e in
    let o : before_open c.phase ≡ true = ap before_open e in
    ups_like (record p { «open» = true }) (record q { «open» = true }) _ _ x.phase went (opened (opens c x) p is) (opened (opens c x) q is)
    (record {
      same = one_more (openings_of went) (opening_rows p) (opening_rows q) _ _ up.Open s.same
          (open_due p (s.mine.own o)) (open_due q (s.theirs.own o));
      mine = met_to x _ f;
      theirs = met_to x _ f;
    })

-- before the login no unit of a container counts
abbrev pub phase_in : Option Upstream → Phase10
phase_in None = phase.SaslHeader
phase_in (Some c) = c.phase

pub ups_heard : (o : Option Upstream) (u : Unit10) (p q : UpPending) (went : List UpUnit) → Ups p q (phase_in o) went
    → Ups (called_from o u p) (called_from o u q) (phase_in (container_by o u)) went
ups_heard None u p q went s = ups_like p q _ _ phase.SaslHeader went (unopened false p refl) (unopened false q refl) s
ups_heard (Some c) u p q went s = ups_effect c p q went (unit_step c u) (effect c u) s

-- ---- a unit of the opening goes

record Leads (u : UpUnit) (p : UpPending) : Type 0 where
  opening : is_opening_unit u ≡ true
  parts : opening_rows p ≡ u ∷ opening_rows (without_up u p)

abbrev pending_of : (sasl_header init amqp_header own : Bool) → UpPending
pending_of sasl_header init amqp_header own = record { sasl_header = sasl_header; init = init; amqp_header = amqp_header; «open» = own }

leads : (p : UpPending) (u : UpUnit) → first (opening_rows p) ≡ Some u → Leads u p
leads p u e = by p.sasl_header p.init p.amqp_header p.«open» e
  where
    is_it : (all : UpPending) (it : UpUnit) → Some it ≡ Some u → Leads it all → Leads u all
    is_it all it same is = let here : it ≡ u = cc in subst (λ (x : UpUnit). Leads x all) here is

    by : (sasl_header init amqp_header own : Bool) → first (opening_rows (pending_of sasl_header init amqp_header own)) ≡ Some u → Leads u (pending_of sasl_header init amqp_header own)
    by true init amqp_header own same = is_it (pending_of true init amqp_header own) up.SaslHeader same (record { opening = refl; parts = refl })
    by false true amqp_header own same = is_it (pending_of false true amqp_header own) up.SaslInit same (record { opening = refl; parts = refl })
    by false false true own same = is_it (pending_of false false true own) up.AmqpHeader same (record { opening = refl; parts = refl })
    by false false false true same = is_it (pending_of false false false true) up.Open same (record { opening = refl; parts = refl })
    by false false false false same = absurd cc

pub is_opening_first : (p : UpPending) (u : UpUnit) → first (opening_rows p) ≡ Some u → is_opening_unit u ≡ true
is_opening_first p u e = (leads p u e).opening

no_init : (u : UpUnit) (p : UpPending) → p.init ≡ false → (without_up u p).init ≡ false
no_init up.SaslInit p e = refl
no_init x p e = e

no_amqp : (u : UpUnit) (p : UpPending) → p.amqp_header ≡ false → (without_up u p).amqp_header ≡ false
no_amqp up.AmqpHeader p e = refl
no_amqp x p e = e

no_open : (u : UpUnit) (p : UpPending) → p.«open» ≡ false → (without_up u p).«open» ≡ false
no_open up.Open p e = refl
no_open x p e = e

up_to_without : (at : Phase10) (u : UpUnit) (p : UpPending) → UpTo at p → UpTo at (without_up u p)
up_to_without at u p s = record {
  init = λ e. no_init u p (s.init e);
  amqp = λ e. no_amqp u p (s.amqp e);
  own = λ e. no_open u p (s.own e);
}

openings_next : (went : List UpUnit) (u : UpUnit) (b : Bool) → is_opening_unit u ≡ b → openings_of (went ++ u ∷ []) ≡ openings_of went ++ (if b then u ∷ [] else [])
openings_next went u b e = filter-append is_opening_unit went (u ∷ []) ∙ ap (λ (x : Bool). openings_of went ++ (if x then u ∷ [] else [])) e

pub ups_gone : (p q : UpPending) (at : Phase10) (went : List UpUnit) (u : UpUnit) → first (opening_rows p) ≡ Some u → Ups p q at went
    → Ups (without_up u p) q at (went ++ u ∷ [])
ups_gone p q at went u e s =
    let l : Leads u p = leads p u e in
    record {
      same = ap (λ (x : List UpUnit). x ++ opening_rows (without_up u p)) (openings_next went u true l.opening)
          ∙ append_assoc (openings_of went) (u ∷ []) (opening_rows (without_up u p))
          ∙ ap (λ (x : List UpUnit). openings_of went ++ x) (sym l.parts) ∙ s.same;
      mine = up_to_without at u p s.mine;
      theirs = s.theirs;
    }

-- a close or an empty frame is none
pub ups_other : (p q : UpPending) (at : Phase10) (went : List UpUnit) (u : UpUnit) → is_opening_unit u ≡ false → Ups p q at went
    → Ups (without_up u p) q at (went ++ u ∷ [])
ups_other p q at went u e s = by u e (openings_next went u false e ∙ append-nil (openings_of went))
  where
    kept : (u : UpUnit) → openings_of (went ++ u ∷ []) ≡ openings_of went → Ups p q at (went ++ u ∷ [])
    kept u f = record { same = ap (λ (x : List UpUnit). x ++ opening_rows p) f ∙ s.same; mine = s.mine; theirs = s.theirs }

    by : (u : UpUnit) → is_opening_unit u ≡ false → openings_of (went ++ u ∷ []) ≡ openings_of went → Ups (without_up u p) q at (went ++ u ∷ [])
    by (up.Close c) e f = kept (up.Close c) f
    by up.Empty e f = kept up.Empty f
    by (up.OnSession n u) e f = kept (up.OnSession n u) f
    by (up.Flow n i o) e f = kept (up.Flow n i o) f
    by (up.Begin n) e f = kept (up.Begin n) f
    by (up.End n why) e f = kept (up.End n why) f
    by x e f = absurd cc

-- ---- units of the opening among those that are due

keep : (b : Bool) (u : UpUnit) (us : List UpUnit) → is_opening_unit u ≡ true → filter is_opening_unit (when_up b u ++ us) ≡ when_up b u ++ filter is_opening_unit us
keep true u us e = ap (λ (x : Bool). if x then u ∷ filter is_opening_unit us else filter is_opening_unit us) e
keep false u us e = refl

keep_last : (b : Bool) (u : UpUnit) → is_opening_unit u ≡ true → filter is_opening_unit (when_up b u) ≡ when_up b u
keep_last true u e = ap (λ (x : Bool). if x then u ∷ [] else []) e
keep_last false u e = refl

all_openings : (p : UpPending) → openings_of (opening_rows p) ≡ opening_rows p
all_openings p =
    keep p.sasl_header up.SaslHeader _ refl ∙ ap (λ (x : List UpUnit). when_up p.sasl_header up.SaslHeader ++ x)
    (keep p.init up.SaslInit _ refl ∙ ap (λ (x : List UpUnit). when_up p.init up.SaslInit ++ x)
    (keep p.amqp_header up.AmqpHeader _ refl ∙ ap (λ (x : List UpUnit). when_up p.amqp_header up.AmqpHeader ++ x) (keep_last p.«open» up.Open refl)))

pub no_empty : (b : Bool) → openings_of (when_up b up.Empty) ≡ []
no_empty true = refl
no_empty false = refl

pub openings_due : (p : UpPending) (us : List UpUnit) → openings_of us ≡ [] → openings_of (opening_rows p ++ us) ≡ opening_rows p
openings_due p us e =
    filter-append is_opening_unit (opening_rows p) us
    ∙ ap (λ (x : List UpUnit). openings_of (opening_rows p) ++ x) e ∙ append-nil (openings_of (opening_rows p)) ∙ all_openings p
