-- What leaves the session of a channel as it is.
use Rattle.std.proofs.Common.{◌≡◌, ◌≢◌, ℕ, ◌==◌, ◌<◌, ◌||◌, Bool, true, false, if◌then◌else◌, List, ◌++◌, length, Option, None}
use Rattle.std.proofs.Common.{refl, sym, ap, ◌∙◌, subst, arith}
use Rattle.std.proofs.lemmas.Bool.Decides.{nat_tests}
use Rattle.std.proofs.lemmas.List.Folds.{list_any-append}
use Rattle.std.specs.List.{list_any}
use Rattle.close_translate.specs.declared.conditions.Scope.TheVariants as scope
use Rattle.machine_091.specs.Calls.{after_closing}
use Rattle.machine_091.specs.State.{is_closing, is_open}
use Rattle.machine_091.specs.declared.state.Connection.{Connection}
use Rattle.machine_091.specs.declared.unit.Refusal.{Refusal}
use Rattle.machine_091.proofs.ChannelSteps.{closing_opens}
use Rattle.machine_10.specs.declared.state.Upstream.{Upstream}
use Rattle.machine_10.proofs.SessionSteps.{is_asked, is_ended, is_live}
use Rattle.performatives_10.specs.declared.condition.Condition.{Condition}
use Rattle.session_path.specs.Events as event
use Rattle.session_path.specs.Events.{PathEvent}
use Rattle.session_path.specs.Path.{PathState}
use Rattle.gate_model.specs.Lives.{failed_life, life_at, reason_of, session_in, with_life}
use Rattle.gate_model.specs.State.{State, fail, failed, life_failed, sessions_lost}
use Rattle.gate_model.specs.declared.life.Life.{Life}
use Rattle.gate_model.proofs.Basics.{or_left}
use Rattle.gate_model.proofs.Closed.{is_late, none_open}
use Rattle.gate_model.proofs.Connections.{clash, close_closes, closing_only}
use Rattle.gate_model.proofs.Outcomes.{only_closing}
use Rattle.gate_model.proofs.Places.{Beyond, Elsewhere, Here, SetAt, isnt, set_at}

-- ---- transfers

abbrev pub arrives : PathEvent → Bool
arrives (event.TransferCame peer part payload image again) = true
arrives x = false

abbrev pub have_come : List PathEvent → Bool
have_come es = list_any arrives es

abbrev pub begins_at : State → ℕ → Bool
begins_at w n = (life_at w.lives n).begin

-- while a begin is due, or wasn't answered, nothing came. No channel is open while the gateway's end is to answer the container's. A begin is due on an
-- open channel alone
pub record Waits (n : ℕ) (c : Connection) (o : Option Upstream) (begin there come : Bool) : Type 0 where
  pub asked : is_asked (session_in o n) ≡ true → come ≡ false
  pub ended : is_ended (session_in o n) ≡ true → there ≡ true → is_open c n ≡ false
  pub begins : is_closing c ≡ false → begin ≡ true → is_live (session_in o n) ≡ false → come ≡ false
  pub opens : begin ≡ true → (is_closing c || is_open c n) ≡ true

-- ---- what leaves the session as it is

pub record Moves (n : ℕ) (w v : State) : Type 0 where
  pub session : session_in v.up.container n ≡ session_in w.up.container n
  pub begin : begins_at v n ≡ true → begins_at w n ≡ true
  pub closing : is_closing v.conn ≡ false → is_closing w.conn ≡ false
  pub still : is_late w.conn.phase ≡ true → is_open v.conn n ≡ true → is_open w.conn n ≡ true
  pub opens : begins_at v n ≡ true → (is_closing w.conn || is_open w.conn n) ≡ true → (is_closing v.conn || is_open v.conn n) ≡ true

pub moves : (n : ℕ) (w v : State) → session_in v.up.container n ≡ session_in w.up.container n → v.lives ≡ w.lives → v.conn ≡ w.conn → Moves n w v
moves n w v s l c = record {
  session = s;
  begin = λ e. ap (λ (ls : List Life). (life_at ls n).begin) (sym l) ∙ e;
  closing = λ e. ap is_closing (sym c) ∙ e;
  still = λ late e. ap (λ (d : Connection). is_open d n) (sym c) ∙ e;
  opens = λ b e. ap (λ (d : Connection). is_closing d || is_open d n) c ∙ e;
}

pub shut_moves : (n : ℕ) (w v : State) → session_in v.up.container n ≡ session_in w.up.container n → v.lives ≡ w.lives → is_closing v.conn ≡ true → Moves n w v
shut_moves n w v s l c = record {
  session = s;
  begin = λ e. ap (λ (ls : List Life). (life_at ls n).begin) (sym l) ∙ e;
  closing = λ e. absurd (clash _ c e);
  still = λ late e. absurd (clash _ e (none_open n v.conn c));
  opens = λ b e. or_left _ _ c;
}

pub both : {n : ℕ} {w v u : State} → v.conn ≡ w.conn → Moves n w v → Moves n v u → Moves n w u
both {n} {w} {v} {u} same a b = record {
  session = b.session ∙ a.session;
  begin = λ e. a.begin (b.begin e);
  closing = λ e. a.closing (b.closing e);
  still = λ late e. a.still late (b.still (ap (λ (c : Connection). is_late c.phase) same ∙ late) e);
  opens = λ e f. b.opens e (a.opens (b.begin e) f);
}

pub fail_moves : (n code : ℕ) (why : Option Condition) (w : State) → Moves n w (fail code why w)
fail_moves n code why w = by (is_closing w.conn)
  where
    by : (b : Bool) → Moves n w (if b then sessions_lost w else failed code why w)
    by true = moves n w (sessions_lost w) refl refl refl
    by false = shut_moves n w (failed code why w) refl refl (close_closes w.conn.phase)

-- what is open was so
pub stays_shut : (b : Bool) {x y : Bool} → x ≡ b → (x ≡ true → y ≡ true) → y ≡ false → x ≡ false
stays_shut true e f g = absurd (clash _ (f e) g)
stays_shut false e f g = e

pub moved : (n : ℕ) (w v : State) (there : Bool) (xs es : List PathEvent) → (there ≡ true → is_late w.conn.phase ≡ true) → Moves n w v → have_come xs ≡ false
    → Waits n w.conn w.up.container (begins_at w n) there (have_come es) → Waits n v.conn v.up.container (begins_at v n) there (have_come (xs ++ es))
moved n w v there xs es late m quiet f =
    subst (λ (b : Bool). Waits n v.conn v.up.container (begins_at v n) there b)
    (sym (list_any-append arrives xs es ∙ ap (λ (b : Bool). b || have_come es) quiet))
    (record {
      asked = λ e. f.asked (ap is_asked (sym m.session) ∙ e);
      ended = λ e t. stays_shut (is_open v.conn n) refl (m.still (late t)) (f.ended (ap is_ended (sym m.session) ∙ e) t);
      begins = λ c b l. f.begins (m.closing c) (m.begin b) (ap is_live (sym m.session) ∙ l);
      opens = λ b. m.opens b (f.opens (m.begin b));
    })

-- ---- lives that are set

pub keeps_begin : (n k : ℕ) (ls : List Life) (l : Life) → l.begin ≡ (life_at ls k).begin → (life_at (with_life k l ls) n).begin ≡ (life_at ls n).begin
keeps_begin n k ls l e = by (set_at ls k n l)
  where
    by : SetAt ls k n l → (life_at (with_life k l ls) n).begin ≡ (life_at ls n).begin
    by (Here s f) = ap (λ (x : Life). x.begin) f ∙ e ∙ ap (λ (m : ℕ). (life_at ls m).begin) s
    by (Elsewhere d f) = ap (λ (x : Life). x.begin) f
    by (Beyond s f g) = ap (λ (x : Life). x.begin) (g ∙ sym f)

-- one of which no begin is due
pub data NoBegin (ls : List Life) (k n : ℕ) (l : Life) : Type 0 where
  There : k ≡ n → (life_at (with_life k l ls) n).begin ≡ false → NoBegin ls k n l
  Apart : k ≢ n → life_at (with_life k l ls) n ≡ life_at ls n → NoBegin ls k n l

pub no_begin : (ls : List Life) (k n : ℕ) (l : Life) → l.begin ≡ false → NoBegin ls k n l
no_begin ls k n l e = by (set_at ls k n l)
  where
    by : SetAt ls k n l → NoBegin ls k n l
    by (Here s f) = There s (ap (λ (x : Life). x.begin) f ∙ e)
    by (Elsewhere d f) = Apart d f
    by (Beyond s f g) = There s (ap (λ (x : Life). x.begin) g)

pub same_eq : (k n : ℕ) → k ≡ n → (k == n) ≡ true
same_eq k n e = grind (arith, nat_tests, e)

-- a channel closes
pub life_moves : (n g : ℕ) (w v : State) (r : Refusal) (why : Option Condition) (f : PathState → PathState) → n < length w.conn.channels
    → session_in v.up.container n ≡ session_in w.up.container n → v.conn ≡ w.conn → (begins_at v n ≡ true → begins_at w n ≡ true)
    → Moves n w (life_failed g r why f v)
life_moves n g w v r why f less s c b = by (no_begin v.lives g n (failed_life true v.moment (reason_of None r) why (life_at v.lives g)) refl)
  where
    is : is_open (after_closing scope.Channel g v.conn) n ≡ (if g == n then false else is_open w.conn n)
    is = subst (λ (d : Connection). is_open (after_closing scope.Channel g d) n ≡ (if g == n then false else is_open w.conn n)) (sym c) (closing_opens g n w.conn less)

    closes : is_closing (after_closing scope.Channel g v.conn) ≡ is_closing w.conn
    closes = closing_only (only_closing g v.conn) ∙ ap is_closing c

    was_open : (b : Bool) → (if b then false else is_open w.conn n) ≡ true → is_open w.conn n ≡ true
    was_open true e = absurd cc
    was_open false e = e

    by : NoBegin v.lives g n (failed_life true v.moment (reason_of None r) why (life_at v.lives g)) → Moves n w (life_failed g r why f v)
    by (There e none) = record {
      session = s;
      begin = λ x. absurd (clash _ x none);
      closing = λ x. sym closes ∙ x;
      still = λ late x. was_open (g == n) (sym is ∙ x);
      opens = λ x y. absurd (clash _ x none);
    }
    by (Apart d same) = record {
      session = s;
      begin = λ x. b (ap (λ (l : Life). l.begin) (sym same) ∙ x);
      closing = λ x. sym closes ∙ x;
      still = λ late x. was_open (g == n) (sym is ∙ x);
      opens = λ x y. ap (λ (z : Bool). z || is_open (after_closing scope.Channel g v.conn) n) closes
          ∙ ap (λ (z : Bool). is_closing w.conn || z) (is ∙ ap (λ (z : Bool). if z then false else is_open w.conn n) (isnt g n d)) ∙ y;
    }
