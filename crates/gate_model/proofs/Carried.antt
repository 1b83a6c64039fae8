-- What each step makes of the session of a channel, in the state and in the fold.
use Rattle.property_map.specs.declared.told.Told.{Told}
use Rattle.std.proofs.Common.{◌≡◌, ◌≢◌, ◌⊎◌, ℕ, zero, suc, ◌==◌, ◌<◌, Bool, true, false}
use Rattle.std.proofs.Common.{if◌then◌else◌, List, [], ◌∷◌, Option, Some, length, arith, inl, inr, refl, sym, ap, ◌∙◌, subst}
use Rattle.machine_091.specs.State.{is_closing, is_opening}
use Rattle.machine_091.specs.declared.unit.Unit91.{Unit91}
use Rattle.machine_091.specs.declared.unit.Want91.{Want91}
use Rattle.machine_091.specs.declared.unit.Want91.TheVariants as want
use Rattle.machine_10.specs.Transitions as ten
use Rattle.machine_10.specs.Transitions.{Meaning}
use Rattle.machine_10.specs.Parts.{Parts}
use Rattle.machine_10.specs.declared.unit.Unit10.{Unit10}
use Rattle.methods_091.specs.declared.method.Method91.{Method91}
use Rattle.methods_091.specs.declared.method.Method91.TheVariants as method
use Rattle.performatives_10.specs.declared.condition.Condition.{Condition}
use Rattle.close_translate.specs.Conditions.{condition_of}
use Rattle.gate_model.specs.declared.life.Life.{Life}
use Rattle.gate_model.specs.declared.life.SessionState.{SessionState}
use Rattle.gate_model.specs.declared.outgoing.UpUnit.{UpUnit}
use Rattle.gate_model.specs.declared.outgoing.UpUnit.TheVariants as up
use Rattle.gate_model.specs.declared.reply.Reply.{Reply}
use Rattle.gate_model.specs.declared.reply.Reply.TheVariants as reply
use Rattle.gate_model.specs.Folds.{Peers, carried_on, carried_sent, peers_by, peers_came, peers_heard, peers_left, scope_in}
use Rattle.gate_model.specs.Lives.{failed_life, life_at, lives_by, method_life, with_life, reason_of, with_state, is_of_channel}
use Rattle.gate_model.specs.Session.{carried_by, flow_sent}
use Rattle.gate_model.specs.Requests.{client_step, client_told}
use Rattle.gate_model.specs.State.{State, came, carried, dequeued, fail, failed, heard, left, runs, sessions_lost, windowed}
use Rattle.gate_model.specs.State.{with_meaning, without_begin, without_life, session_by}
use Rattle.gate_model.specs.Upstream.{container_by, heard_up, meaning_by}
use Rattle.gate_model.proofs.Places.{Beyond, Elsewhere, Here, SetAt, isnt, itself, same_or_not, set_at}
use Rattle.gate_model.proofs.Sessions.{only_scoped, session_cases}

-- the session of the channel of a number
abbrev pub at : ℕ → List Life → SessionState
at n ls = (life_at ls n).session

-- a life that is set with the session that it had
keeps_at : (n k : ℕ) (ls : List Life) (l : Life) → l.session ≡ at k ls → at n (with_life k l ls) ≡ at n ls
keeps_at n k ls l e = by (set_at ls k n l)
  where
    by : SetAt ls k n l → at n (with_life k l ls) ≡ at n ls
    by (Here s f) = ap (λ (x : Life). x.session) f ∙ e ∙ ap (λ (m : ℕ). at m ls) s
    by (Elsewhere d f) = ap (λ (x : Life). x.session) f
    by (Beyond s f g) = ap (λ (x : Life). x.session) (g ∙ sym f)

set_in : (ls : List Life) (n : ℕ) (l : Life) → n < length ls → life_at (with_life n l ls) n ≡ l
set_in [] n l lt = absurd (none lt)
  where
    none : n < 0 → ⊥
    none x = omega (arith, x)
set_in (x ∷ ls) zero l lt = refl
set_in (x ∷ ls) (suc n) l lt = set_in ls n l (omega (arith, lt))

-- one whose session is set
state_at : (n k : ℕ) (ls : List Life) (s : SessionState) → n < length ls → at n (with_state k s ls) ≡ (if k == n then s else at n ls)
state_at n k ls s lt = by (same_or_not k n)
  where
    l : Life
    l = record (life_at ls k) { session = s }

    other : k ≢ n → SetAt ls k n l → at n (with_life k l ls) ≡ at n ls
    other d (Here e f) = absurd (d e)
    other d (Elsewhere x f) = ap (λ (x : Life). x.session) f
    other d (Beyond e f g) = absurd (d e)

    by : (k ≡ n) ⊎ (k ≢ n) → at n (with_state k s ls) ≡ (if k == n then s else at n ls)
    by (inl e) =
        subst (λ (m : ℕ). at n (with_life m (record (life_at ls m) { session = s }) ls) ≡ (if m == n then s else at n ls)) (sym e)
        (ap (λ (x : Life). x.session) (set_in ls n (record (life_at ls n) { session = s }) lt) ∙ ap (λ (b : Bool). if b then s else at n ls) (sym (itself n)))
    by (inr d) = other d (set_at ls k n l) ∙ ap (λ (b : Bool). if b then s else at n ls) (sym (isnt k n d))

-- ---- what the client's units, and units to it, leave

method_keeps : (ms : ℕ) (m : Method91) (l : Life) → (method_life ms m l).session ≡ l.session
method_keeps ms method.ChannelOpen l = refl
method_keeps ms (method.ChannelClose code text class id) l = refl
method_keeps ms m l = refl

pub want_keeps : (n ms : ℕ) (told : Option Told) (x : Want91) (ls : List Life) → at n (lives_by ms told x ls) ≡ at n ls
want_keeps n ms told (want.Method k m) ls = keeps_at n k ls _ (method_keeps ms m (life_at ls k))
want_keeps n ms told (want.ChannelCloseOk k) ls = keeps_at n k ls _ refl
want_keeps n ms told (want.Refuse r) ls = by (is_of_channel r)
  where
    by : (b : Bool) → (life_at (if b then with_life r.channel (failed_life false ms (reason_of told r) (Some (condition_of r.code)) (life_at ls r.channel)) ls else ls) n).session
        ≡ (life_at ls n).session
    by true = keeps_at n r.channel ls _ refl
    by false = refl
want_keeps n ms told x ls = refl

pub given_keeps : (n : ℕ) (u : Reply) (ls : List Life) → at n (without_life u ls) ≡ at n ls
given_keeps n (reply.ChannelOpenOk k) ls = keeps_at n k ls _ refl
given_keeps n (reply.ChannelCloseOk k) ls = keeps_at n k ls _ refl
given_keeps n (reply.CrossedOk k) ls = keeps_at n k ls _ refl
given_keeps n (reply.ChannelClose k r) ls = keeps_at n k ls _ refl
given_keeps n x ls = refl

-- ---- what units of the container, and units to it, make of it

-- a session after a unit of the container
abbrev pub carried_heard : ℕ → Meaning → SessionState → SessionState
carried_heard n (ten.OfSession g p payload) s = if g == n then carried_by p s else s
carried_heard n x s = s

pub fail_same : (n code : ℕ) (why : Option Condition) (w : State) → at n (fail code why w).lives ≡ at n w.lives
fail_same n code why w = by (is_closing w.conn)
  where
    by : (b : Bool) → at n (if b then sessions_lost w else failed code why w).lives ≡ at n w.lives
    by true = refl
    by false = refl

at_same : (n g : ℕ) (p : Parts) (ls : List Life)
    → (if g == n then carried_by p (at g ls) else at n ls) ≡ (if g == n then carried_by p (at n ls) else at n ls)
at_same n g p ls = by (same_or_not g n)
  where
    by : (g ≡ n) ⊎ (g ≢ n) → (if g == n then carried_by p (at g ls) else at n ls) ≡ (if g == n then carried_by p (at n ls) else at n ls)
    by (inl e) = ap (λ (m : ℕ). if g == n then carried_by p (at m ls) else at n ls) e
    by (inr d) = ap (λ (b : Bool). if b then carried_by p (at g ls) else at n ls) (isnt g n d) ∙ ap (λ (b : Bool). if b then carried_by p (at n ls) else at n ls) (sym (isnt g n d))

session_makes : (n g : ℕ) (p : Parts) (payload : List ℕ) (w : State) → n < length w.lives
    → at n (with_meaning (ten.OfSession g p payload) w).lives ≡ (if g == n then carried_by p (at n w.lives) else at n w.lives)
session_makes n g p payload w lt =
    let x : State = carried g p payload w in
    let made : at n x.lives ≡ (if g == n then carried_by p (at n w.lives) else at n w.lives) = state_at n g w.lives (carried_by p (at g w.lives)) lt ∙ at_same n g p w.lives in
    session_cases (λ (v : State). at n v.lives ≡ (if g == n then carried_by p (at n w.lives) else at n w.lives)) g p payload w (record {
      begins = keeps_at n g x.lives _ refl ∙ made;
      stays = made;
      ends = λ code why. keeps_at n g x.lives _ refl ∙ made;
      parts = made;
      drops = λ code why. keeps_at n g x.lives _ refl ∙ made;
      fails = λ why. fail_same n _ why (windowed g p w) ∙ made;
    })

meaning_makes : (n : ℕ) (m : Meaning) (w : State) → n < length w.lives → at n (with_meaning m w).lives ≡ carried_heard n m (at n w.lives)
meaning_makes n ten.Nothing w lt = refl
meaning_makes n ten.Init w lt = refl
meaning_makes n ten.AmqpHeader w lt = refl
meaning_makes n ten.Opened w lt = by (is_opening w.conn)
  where
    by : (b : Bool) → at n (if b then runs w else w).lives ≡ at n w.lives
    by true = refl
    by false = refl
meaning_makes n (ten.OfSession g p payload) w lt = session_makes n g p payload w lt
meaning_makes n (ten.Closed e) w lt = fail_same n _ _ w
meaning_makes n ten.Refused w lt = fail_same n _ _ w
meaning_makes n (ten.Violation c) w lt = fail_same n _ _ w

pub heard_makes : (n : ℕ) (w : State) (u : Unit10) (s : SessionState) → n < length w.lives → at n w.lives ≡ s
    → at n (if w.out_of_memory then w else heard w u).lives ≡ (if w.out_of_memory then s else carried_heard n (meaning_by w.up.container u) s)
heard_makes n w u s lt e = by w.out_of_memory
  where
    by : (b : Bool) → at n (if b then w else heard w u).lives ≡ (if b then s else carried_heard n (meaning_by w.up.container u) s)
    by true = e
    by false = meaning_makes n (meaning_by w.up.container u) (record w { up = heard_up u w.up }) lt ∙ ap (carried_heard n (meaning_by w.up.container u)) e

sent_at_same : (f : SessionState → SessionState) (n k : ℕ) (ls : List Life) → (if k == n then f (at k ls) else at n ls) ≡ (if k == n then f (at n ls) else at n ls)
sent_at_same f n k ls = by (same_or_not k n)
  where
    by : (k ≡ n) ⊎ (k ≢ n) → (if k == n then f (at k ls) else at n ls) ≡ (if k == n then f (at n ls) else at n ls)
    by (inl e) = ap (λ (m : ℕ). if k == n then f (at m ls) else at n ls) e
    by (inr d) = ap (λ (b : Bool). if b then f (at k ls) else at n ls) (isnt k n d) ∙ ap (λ (b : Bool). if b then f (at n ls) else at n ls) (sym (isnt k n d))

pub sent_makes : (n : ℕ) (u : UpUnit) (ls : List Life) → n < length ls → at n (without_begin u ls) ≡ carried_sent u (λ (m : ℕ). at m ls) n
sent_makes n (up.Flow k i o) ls lt = state_at n k ls (flow_sent (at k ls)) lt ∙ sent_at_same flow_sent n k ls
sent_makes n (up.OnSession k u) ls lt = state_at n k ls (session_by u (at k ls)) lt ∙ sent_at_same (session_by u) n k ls
sent_makes n (up.Begin k) ls lt = keeps_at n k ls _ refl
sent_makes n (up.End k why) ls lt = keeps_at n k ls _ refl
sent_makes n x ls lt = refl

-- ---- all steps

pub came_keeps : (n : ℕ) (w : State) (u : Unit91) → at n (if w.out_of_memory then w else came (dequeued w) u).lives ≡ at n w.lives
came_keeps n w u = by w.out_of_memory
  where
    by : (b : Bool) → at n (if b then w else came (dequeued w) u).lives ≡ at n w.lives
    by true = refl
    by false = want_keeps n w.moment (client_told w.routes w.conn u) (client_step w.routes w.paths w.conn u).1 w.lives

pub queued_keeps : (n : ℕ) (w : State) (us : List Unit91) → at n (if w.out_of_memory then w else record w { queue = us }).lives ≡ at n w.lives
queued_keeps n w us = by w.out_of_memory
  where
    by : (b : Bool) → at n (if b then w else record w { queue = us }).lives ≡ at n w.lives
    by true = refl
    by false = refl

pub left_keeps : (n : ℕ) (w : State) (b : Bool) → at n (if b then left w else w).lives ≡ at n w.lives
left_keeps n w true = refl
left_keeps n w false = refl

-- ---- the same in the fold

pub peers_heard_same : (n : ℕ) (m : Meaning) (p : Peers) → (peers_by m p).carried n ≡ carried_heard n m (p.carried n)
peers_heard_same n (ten.OfSession g q payload) p =
    ap (λ (x : Peers). x.carried n) (only_scoped (scope_in p g q payload) g q payload (record p { carried = carried_on g q p.carried }))
peers_heard_same n x p = refl

pub fold_came : (b : Bool) (p : Peers) (u : Unit91) → (if b then p else peers_came p u).carried ≡ p.carried
fold_came true p u = refl
fold_came false p u = refl

pub fold_taken : (b : Bool) (p : Peers) → (if b then peers_left p else p).carried ≡ p.carried
fold_taken true p = refl
fold_taken false p = refl

pub fold_heard : (n : ℕ) (b : Bool) (p : Peers) (u : Unit10)
    → (if b then p else peers_heard p u).carried n ≡ (if b then p.carried n else carried_heard n (meaning_by p.container u) (p.carried n))
fold_heard n true p u = refl
fold_heard n false p u = peers_heard_same n (meaning_by p.container u) (record p { container = container_by p.container u })

-- the sessions that are the same before a unit of the gateway are the same after it
pub sent_same : (n : ℕ) (u : UpUnit) (f g : ℕ → SessionState) → f n ≡ g n → carried_sent u f n ≡ carried_sent u g n
sent_same n (up.Flow k i o) f g e = ap (λ (s : SessionState). if k == n then flow_sent s else s) e
sent_same n (up.OnSession k u) f g e = ap (λ (s : SessionState). if k == n then session_by u s else s) e
sent_same n x f g e = e
