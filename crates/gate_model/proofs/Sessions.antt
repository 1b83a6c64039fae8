-- What a unit of a session may do.
use Rattle.std.proofs.Common.{ℕ, ◌==◌, ◌≡◌, Bool, true, false, if◌then◌else◌, Option, None, Some, List, refl, subst, sym}
use Rattle.close_translate.specs.declared.codes.TheConstants.{INTERNAL_ERROR, PRECONDITION_FAILED}
use Rattle.close_translate.specs.declared.conditions.Scope.{Scope}
use Rattle.close_translate.specs.declared.conditions.Scope.TheVariants as scope
use Rattle.machine_091.specs.Calls.{after_closing}
use Rattle.machine_091.specs.State.{is_open}
use Rattle.machine_091.specs.declared.state.Connection.{Connection}
use Rattle.machine_10.specs.Parts.{Parts}
use Rattle.machine_10.specs.declared.state.Upstream.{Upstream}
use Rattle.performatives_10.specs.declared.condition.Condition.{Condition}
use Rattle.gate_model.specs.declared.life.SessionState.{SessionState}
use Rattle.gate_model.specs.Folds.{Peers, carried_on, ended_on, peers_closed, peers_failed, peers_met, peers_parted, peers_scoped, peers_session, scope_in}
use Rattle.gate_model.specs.Lives.{life_at, refusal_on}
use Rattle.gate_model.specs.Paths.{closed_path, lost_path, path_at, with_path}
use Rattle.session_path.specs.Path.{PathState}
use Rattle.gate_model.specs.State.{State, begun_session, carried, close, closed_for, closing_code}
use Rattle.gate_model.specs.State.{closing_error, ending_error, fail, life_failed, link_scope}
use Rattle.gate_model.specs.State.{met_session, path_heard, scoped, session_lost, windowed, with_session}

-- the session of the channel of a number
abbrev pub session_on : State → ℕ → SessionState
session_on w n = (life_at w.lives n).session

-- both connections, the paths and the sessions, as a state has them
abbrev pub peers_like : Option Upstream → ℕ → (ℕ → SessionState) → State → Peers
peers_like c o f w = record {
  routes = w.routes;
  client = w.conn;
  container = c;
  paths = w.paths;
  opened = o;
  carried = f;
}

abbrev pub peers_at : (ℕ → SessionState) → State → Peers
peers_at f w = peers_like w.up.container w.opened f w

-- and after a performative that changes the path
abbrev pub heard_at : ℕ → Parts → List ℕ → Peers → Peers
heard_at n q payload x =
    record x { paths = with_path n (path_heard x.client.limits.frame_max n q payload) x.paths }

-- what holds after each of these: a begin, and what changes but the session and its path; what closes the channel; what is wrong with a link, by its windows,
-- with the session lost alone, or the channel closing too, or the connection
pub record SessionCases (P : Peers → State → Type 0) (n : ℕ) (q : Parts) (payload : List ℕ) (w : State) (x : Peers) : Type 0 where
  pub begins : P (heard_at n q payload x) (begun_session n (carried n q payload w))
  pub stays : P (heard_at n q payload x) (carried n q payload w)
  pub ends : (code : ℕ) (why : Option Condition) → P (ended_on true n closed_path (heard_at n q payload x))
      (life_failed n (refusal_on n code) why closed_path (carried n q payload w))
  pub parts : P (peers_parted n x) (session_lost n (windowed n q w))
  pub drops : (code : ℕ) (why : Option Condition) → P (ended_on true n closed_path (peers_parted n x))
      (life_failed n (refusal_on n code) why closed_path (session_lost n (windowed n q w)))
  pub fails : (why : Option Condition) → P (peers_failed x) (fail INTERNAL_ERROR why (windowed n q w))

met_by : (P : Peers → State → Type 0) (n : ℕ) (q : Parts) (payload : List ℕ) (w : State) (c : Option Upstream) (o : ℕ) (f : ℕ → SessionState)
    → SessionCases P n q payload w (peers_like c o f w)
    → P (peers_met n q (closing_code q payload (path_at w.paths n)) (heard_at n q payload (peers_like c o f w)))
    (met_session n q (closing_code q payload (path_at w.paths n)) (carried n q payload w))
met_by P n q payload w c o f cases = by (q.0 == 17) (closing_code q payload (path_at w.paths n))
  where
    heard : Peers
    heard = heard_at n q payload (peers_like c o f w)

    v : State
    v = carried n q payload w

    ended : (code : ℕ) (b : Bool) → P (ended_on b n closed_path heard) (if b then life_failed n (refusal_on n code) None closed_path v else v)
    ended code true = cases.ends code None
    ended code false = cases.stays

    closed : (k : Option ℕ) → P (peers_closed n k heard) (closed_for n k v)
    closed None = cases.stays
    closed (Some code) = ended code (is_open w.conn n)

    by : (a : Bool) (k : Option ℕ) → P (if a then heard else peers_closed n k heard) (if a then begun_session n v else closed_for n k v)
    by true k = cases.begins
    by false k = closed k

pub session_by : (P : Peers → State → Type 0) (n : ℕ) (q : Parts) (payload : List ℕ) (w : State) (c : Option Upstream) (o : ℕ) (f : ℕ → SessionState)
    → link_scope q payload (f n) (path_at w.paths n) ≡ link_scope q payload (session_on w n) (path_at w.paths n)
    → SessionCases P n q payload w (peers_like c o (carried_on n q f) w)
    → P (peers_session n q payload (peers_like c o f w)) (with_session n q payload w)
session_by P n q payload w c o f e cases =
    subst (λ (s : Option Scope). P (peers_scoped s n q payload x) (with_session n q payload w)) (sym e)
    (by (link_scope q payload (session_on w n) (path_at w.paths n)))
  where
    why : Option Condition
    why = Some (ending_error q payload (session_on w n) (path_at w.paths n))

    x : Peers
    x = peers_like c o (carried_on n q f) w

    dropped : (b : Bool) → P (ended_on b n closed_path (peers_parted n x))
        (if b then life_failed n (refusal_on n PRECONDITION_FAILED) why closed_path (session_lost n (windowed n q w)) else session_lost n (windowed n q w))
    dropped true = cases.drops PRECONDITION_FAILED why
    dropped false = cases.parts

    by : (s : Option Scope) → P (peers_scoped s n q payload x) (scoped s n q payload w)
    by None = met_by P n q payload w c o (carried_on n q f) cases
    by (Some scope.Connection) = cases.fails (Some (closing_error q (path_at w.paths n)))
    by (Some scope.Channel) = dropped (is_open w.conn n)

-- the same of the state alone
pub record StateCases (P : State → Type 0) (n : ℕ) (q : Parts) (payload : List ℕ) (w : State) : Type 0 where
  pub begins : P (begun_session n (carried n q payload w))
  pub stays : P (carried n q payload w)
  pub ends : (code : ℕ) (why : Option Condition) → P (life_failed n (refusal_on n code) why closed_path (carried n q payload w))
  pub parts : P (session_lost n (windowed n q w))
  pub drops : (code : ℕ) (why : Option Condition) → P (life_failed n (refusal_on n code) why closed_path (session_lost n (windowed n q w)))
  pub fails : (why : Option Condition) → P (fail INTERNAL_ERROR why (windowed n q w))

pub session_cases : (P : State → Type 0) (n : ℕ) (q : Parts) (payload : List ℕ) (w : State) → StateCases P n q payload w → P (with_session n q payload w)
session_cases P n q payload w cases = session_by (λ (x : Peers) (v : State). P v) n q payload w w.up.container w.opened (session_on w) refl (record {
  begins = cases.begins;
  stays = cases.stays;
  ends = cases.ends;
  parts = cases.parts;
  drops = cases.drops;
  fails = cases.fails;
})

-- the same of the client's connection
pub conn_cases : (P : Connection → Type 0) (n : ℕ) (q : Parts) (payload : List ℕ) (x : Peers) → P x.client → P (close x.client)
    → P (after_closing scope.Channel n x.client) → P (peers_session n q payload x).client
conn_cases P n q payload x stays closes ends = by (scope_in x n q payload)
  where
    y : Peers
    y = record x { carried = carried_on n q x.carried }

    ended : (f : PathState → PathState) (ps : List (Option PathState)) (o : Bool) → P (ended_on o n f (record y { paths = ps })).client
    ended f ps true = ends
    ended f ps false = stays

    closed : (k : Option ℕ) (ps : List (Option PathState)) → P (peers_closed n k (record y { paths = ps })).client
    closed None ps = stays
    closed (Some code) ps = ended closed_path ps (is_open x.client n)

    met : (a : Bool) (k : Option ℕ) (ps : List (Option PathState)) → P (if a then record y { paths = ps } else peers_closed n k (record y { paths = ps })).client
    met true k ps = stays
    met false k ps = closed k ps

    by : (o : Option Scope) → P (peers_scoped o n q payload y).client
    by None = met (q.0 == 17) (closing_code q payload (path_at x.paths n)) (with_path n (path_heard x.client.limits.frame_max n q payload) x.paths)
    by (Some scope.Connection) = closes
    by (Some scope.Channel) = ended closed_path (with_path n lost_path x.paths) (is_open x.client n)

-- ---- what a unit of the container leaves of both ends

-- nothing but the client's connection and the paths differ
abbrev pub OnlyClient : Peers → Peers → Type 0
OnlyClient p x = x ≡ record p { client = x.client; paths = x.paths }

only_ended : (b : Bool) (n : ℕ) (f : PathState → PathState) (p : Peers) → OnlyClient p (ended_on b n f p)
only_ended true n f p = refl
only_ended false n f p = refl

pub only_scoped : (o : Option Scope) (n : ℕ) (q : Parts) (payload : List ℕ) (p : Peers) → OnlyClient p (peers_scoped o n q payload p)
only_scoped None n q payload p = by (q.0 == 17) (closing_code q payload (path_at p.paths n))
  where
    heard : Peers
    heard = heard_at n q payload p

    ended : (b : Bool) → OnlyClient p (ended_on b n closed_path heard)
    ended true = refl
    ended false = refl

    by : (b : Bool) (k : Option ℕ) → OnlyClient p (if b then heard else peers_closed n k heard)
    by true k = refl
    by false None = refl
    by false (Some code) = ended (is_open p.client n)
only_scoped (Some scope.Connection) n q payload p = refl
only_scoped (Some scope.Channel) n q payload p = only_ended (is_open p.client n) n closed_path (peers_parted n p)
