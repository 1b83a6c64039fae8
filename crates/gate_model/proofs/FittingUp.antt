-- What goes to a container fits it: all units but transfers have at most 512 bytes, and those are cut.
use Rattle.std.proofs.Common.{◌≡◌, ℕ, ◌≤◌, ◌&&◌, ◌||◌, nat_le, min, not, Bool, true, false}
use Rattle.std.proofs.Common.{if◌then◌else◌, List, [], ◌∷◌, length, Option, None, Some, bytes_eq, codes, refl, sym, ap, ◌∙◌, subst, arith}
use Rattle.std.proofs.lemmas.Bool.Decides.{nat_tests}
use Rattle.std.proofs.lemmas.List.{length-take}
use Rattle.std.proofs.lemmas.Slice.Eq.{bytes_eq-Decides}
use Rattle.gate_outside.specs.declared.ports.End.TheVariants.{Client, Up}
use Rattle.gate_outside.specs.declared.ports.Linked.TheVariants as link
use Rattle.gate_relay.specs.declared.loss.Loss.TheVariants as loss
use Rattle.machine_091.specs.RefusalsOpening.{is_login}
use Rattle.machine_091.specs.Transitions as machine
use Rattle.machine_091.specs.Transitions.{unit_step}
use Rattle.machine_091.specs.declared.state.Connection.{Connection}
use Rattle.machine_091.specs.declared.unit.Refusal.{Refusal}
use Rattle.machine_091.specs.declared.unit.Unit91.{Unit91}
use Rattle.machine_091.specs.declared.unit.Want91.{Want91}
use Rattle.machine_091.specs.declared.unit.Want91.TheVariants as want
use Rattle.machine_091.proofs.StepLaws.{logins_named}
use Rattle.machine_10.specs.Calls as calls
use Rattle.machine_10.specs.State.{session_at}
use Rattle.machine_10.specs.Transitions as ten
use Rattle.machine_10.specs.declared.limits.TheConstants.{FRAME_MAX, FRAME_MIN_SIZE}
use Rattle.machine_10.specs.declared.state.Session.{Session}
use Rattle.machine_10.specs.declared.state.Session.TheVariants as session
use Rattle.machine_10.specs.declared.state.Upstream.{Upstream}
use Rattle.machine_10.specs.declared.unit.Unit10.{Unit10}
use Rattle.machine_10.proofs.StepCases.{step_rows}
use Rattle.publish_path.specs.Offers.{rest_of}
use Rattle.publish_path.specs.declared.publish.NextFrame.{NextFrame}
use Rattle.session_path.specs.Due.{address_at}
use Rattle.session_path.specs.Links.{handle_at}
use Rattle.session_path.specs.Path.{PathState}
use Rattle.session_path.specs.declared.path.AttachDue.{AttachDue}
use Rattle.gate_model.specs.Folds.{Peers, connection, container, container_kept, leaving_in, paths_in, peers, peers_came}
use Rattle.gate_model.specs.Folds.{peers_heard, peers_left, ran_out_in, routes_in}
use Rattle.gate_model.specs.Frames.{AreGiven, FitsContainers, context_in, limit_heard, limit_of, limit_up_in}
use Rattle.gate_model.specs.Due.{carries_up, frame_max_in}
use Rattle.gate_model.specs.Paths.{part_of, path_at, transfer_of}
use Rattle.gate_model.specs.Picks.{ArePicks}
use Rattle.gate_model.specs.Setup.{IsInForm, SetupText}
use Rattle.gate_model.specs.Spelling.{spell_on, spell_up}
use Rattle.gate_model.specs.Requests.{client_step, refusal_of_want, refused_by}
use Rattle.gate_model.specs.State.{Began, Came, Gave, Heard, Joined, Lost, Silent, State, Step, TakenUp, Whole, before}
use Rattle.gate_model.specs.Upstream.{container_by, container_given, ended_in, meaning_by, response_of, sessions_given}
use Rattle.gate_model.specs.declared.channel.SessionUnit.{SessionUnit}
use Rattle.gate_model.specs.declared.channel.SessionUnit.TheVariants as unit
use Rattle.gate_model.specs.declared.channel.TransferOut.{TransferOut}
use Rattle.gate_model.specs.declared.outgoing.Outgoing.TheVariants.{ToUp}
use Rattle.gate_model.specs.declared.outgoing.UpUnit.{UpUnit}
use Rattle.gate_model.specs.declared.outgoing.UpUnit.TheVariants as up
use Rattle.gate_model.specs.declared.setup.Route.{Route}
use Rattle.gate_model.proofs.Cuts.{cut_fits}
use Rattle.gate_model.proofs.Firsts.{OfSession, SessionUnits, goes_up_as}
use Rattle.gate_model.proofs.Known.{container_is, known}
use Rattle.gate_model.proofs.Outcomes.{Outcome, LogsIn, outcome}
use Rattle.gate_model.proofs.SmallUp.{IfBriefLogin, IsBrief, spelled_few}
use Rattle.gate_model.proofs.Ups.{early, is_early, kept_container}

-- ---- what is known of a container

-- the login that it is asked for is short, and its limit is known
pub record IsKnown (limit : ℕ) (c : Upstream) : Type 0 where
  pub mechanism : length c.mechanism ≤ 9
  pub response : length c.response ≤ 300
  pub least : FRAME_MIN_SIZE ≤ c.stated.max_frame
  pub is : limit ≡ limit_of (Some c)

abbrev pub IfKnown : ℕ → Option Upstream → Type 0
IfKnown limit None = limit ≡ FRAME_MIN_SIZE
IfKnown limit (Some c) = IsKnown limit c

still : (limit : ℕ) (c x : Upstream) → x.mechanism ≡ c.mechanism → x.response ≡ c.response → x.stated ≡ c.stated → IsKnown limit c → IsKnown limit x
still limit c x a b e k = record {
  mechanism = subst (λ (m : List ℕ). length m ≤ 9) (sym a) k.mechanism;
  response = subst (λ (r : List ℕ). length r ≤ 300) (sym b) k.response;
  least = subst (λ s. FRAME_MIN_SIZE ≤ s.max_frame) (sym e) k.least;
  is = k.is ∙ ap (λ s. min FRAME_MAX s.max_frame) (sym e);
}

-- ---- its units

heard_known : (limit : ℕ) (c : Upstream) (u : Unit10) → IsKnown limit c
    → IsKnown (limit_heard limit (Some (ten.unit_step c u).0) (ten.unit_step c u).1) (ten.unit_step c u).0
heard_known limit c u k = step_rows (λ (x : ten.Step). IsKnown (limit_heard limit (Some x.0) x.1) x.0) c u (record {
  nothing = k;
  violated = λ why s e. still limit c _ refl refl refl k;
  greeted = λ kind e r a. still limit c _ refl refl refl k;
  offered = λ e. still limit c _ refl refl refl k;
  refused = λ e. still limit c _ refl refl refl k;
  came_out = λ e. still limit c _ refl refl refl k;
  opened = λ stated e f. record { mechanism = k.mechanism; response = k.response; least = grind (arith, nat_tests, f); is = refl };
  answered = λ g n p payload e f s. still limit c _ refl refl refl k;
  crossed = λ g n e f s. still limit c _ refl refl refl k;
  within = λ g p payload e. k;
  ended = λ g m p payload e s. still limit c _ refl refl refl k;
  freed = λ g m p payload e s. still limit c _ refl refl refl k;
  closed = λ e. still limit c _ refl refl refl k;
  shut = λ why e. still limit c _ refl refl refl k;
  passed = λ s e. still limit c _ refl refl refl k;
})

heard_if : (limit : ℕ) (o : Option Upstream) (u : Unit10) → IfKnown limit o → IfKnown (limit_heard limit (container_by o u) (meaning_by o u)) (container_by o u)
heard_if limit None u k = k
heard_if limit (Some c) u k = heard_known limit c u k

ended_if : (limit : ℕ) (o : Option Upstream) → IfKnown limit o → IfKnown limit (ended_in o)
ended_if limit None k = k
ended_if limit (Some c) k = still limit c _ refl refl refl k

-- ---- what goes to it

asked_known : (limit g : ℕ) (c : Upstream) (s : Session) → IsKnown limit c → IsKnown limit (calls.asked s g c)
asked_known limit g c session.Free k = still limit c _ refl refl refl k
asked_known limit g c s k = k

left_known : (limit g : ℕ) (c : Upstream) (s : Session) → IsKnown limit c → IsKnown limit (calls.left s g c)
left_known limit g c session.Asked k = still limit c _ refl refl refl k
left_known limit g c (session.Open n) k = still limit c _ refl refl refl k
left_known limit g c (session.Ended n) k = still limit c _ refl refl refl k
left_known limit g c s k = k

given_known : (limit : ℕ) (u : UpUnit) (c : Upstream) → IsKnown limit c → IsKnown limit (sessions_given u c)
given_known limit (up.Begin n) c k = by (calls.may_begin c n)
  where
    by : (b : Bool) → IsKnown limit (if b then calls.asked (session_at c n) n c else c)
    by true = asked_known limit n c (session_at c n) k
    by false = k
given_known limit (up.End n why) c k = left_known limit n c (session_at c n) k
given_known limit u c k = k

given_if : (limit : ℕ) (u : UpUnit) (o : Option Upstream) → IfKnown limit o → IfKnown limit (container_given u o)
given_if limit u None k = k
given_if limit u (Some c) k = given_known limit u c k

-- ---- the client's login

abbrev NamesLogin : Want91 → Type 0
NamesLogin x = (mechanism response : List ℕ) → x ≡ want.Login mechanism response → is_login mechanism response ≡ true

refused_login : (x : machine.Step) (o : Option Refusal) → NamesLogin x.1 → NamesLogin (refused_by o x).1
refused_login x None n = n
refused_login x (Some r) n = λ m a e. absurd cc

step_login : (rs : List Route) (ps : List (Option PathState)) (c : Connection) (u : Unit91) → NamesLogin (client_step rs ps c u).1
step_login rs ps c u = refused_login (unit_step c u) (refusal_of_want rs ps (unit_step c u).1) (logins_named c u)

response_short : (m r : List ℕ) → length r ≤ 300 → length (response_of m r) ≤ 300
response_short m r short = by (bytes_eq m (codes "ANONYMOUS"))
  where
    by : (b : Bool) → length (if b then [] else r) ≤ 300
    by true = omega arith
    by false = short

login_known : (limit : ℕ) (m r : List ℕ) → limit ≡ FRAME_MIN_SIZE → is_login m r ≡ true → IfKnown limit (container_kept None (want.Login m r))
login_known limit m r e login = by (bytes_eq m (codes "PLAIN")) (bytes_eq m (codes "ANONYMOUS")) (nat_le (length r) 300) refl refl refl login
  where
    known : length m ≤ 9 → nat_le (length r) 300 ≡ true → IfKnown limit (container_kept None (want.Login m r))
    known short f = record { mechanism = short; response = response_short m r (grind (arith, nat_tests, f)); least = omega arith; is = e }

    by : (p a s : Bool) → bytes_eq m (codes "PLAIN") ≡ p → bytes_eq m (codes "ANONYMOUS") ≡ a → nat_le (length r) 300 ≡ s → ((p || a) && s) ≡ true
        → IfKnown limit (container_kept None (want.Login m r))
    by true a true f g k l = known (let same : length m ≡ 5 = ap length ((bytes_eq-Decides m (codes "PLAIN")).0 f) in omega (arith, same)) k
    by false true true f g k l = known (let same : length m ≡ 9 = ap length ((bytes_eq-Decides m (codes "ANONYMOUS")).0 g) in omega (arith, same)) k
    by p a false f g k l = absurd (none (p || a) l)
      where
        none : (b : Bool) → (b && false) ≡ true → ⊥
        none true e = cc
        none false e = cc
    by false false s f g k l = absurd cc

came_known : (limit : ℕ) (o : Option Upstream) (c : Connection) (u : Unit91) (x : machine.Step) → Outcome c u x
    → (is_early c.phase ≡ true → o ≡ None) → NamesLogin x.1 → IfKnown limit o → IfKnown limit (container_kept o x.1)
came_known limit o c u x (LogsIn m r e) early named k =
    login_known limit m r (subst (IfKnown limit) (early (ap is_early e)) k) (named m r refl)
came_known limit o c u x w early named k = k

-- ---- all steps

known_by : (limit : ℕ) (b : Bool) (p q : Peers) → IfKnown limit p.container → IfKnown limit q.container → IfKnown limit (if b then p else q).container
known_by limit true p q a e = a
known_by limit false p q a e = e

heard_step : (h : List Step) (u : Unit10) → IfKnown (limit_up_in h) (container h) → IfKnown (limit_up_in (Heard u ∷ h)) (container (Heard u ∷ h))
heard_step h u k = by (ran_out_in h)
  where
    by : (b : Bool) → IfKnown (if b then limit_up_in h else limit_heard (limit_up_in h) (container_by (container h) u) (meaning_by (container h) u))
        (if b then peers h else peers_heard (peers h) u).container
    by true = k
    by false = subst (IfKnown _) (sym (kept_container (meaning_by (container h) u) _)) (heard_if (limit_up_in h) (container h) u k)

pub known_up : (h : List Step) → ArePicks h → IfKnown (limit_up_in h) (container h)
known_up [] p = refl
known_up (Began site n ms ∷ h) p = ap limit_up_in p.0
known_up (Silent Client ∷ h) p = known_up h p.1
known_up (Came u ∷ h) p =
    known_by (limit_up_in h) (ran_out_in h) (peers h) (peers_came (peers h) u) (known_up h p.1)
    (came_known (limit_up_in h) (container h) (connection h) u _ (outcome (routes_in h) (paths_in h) (connection h) u) (early h)
    (step_login (routes_in h) (paths_in h) (connection h) u) (known_up h p.1))
known_up (TakenUp ∷ h) p = known_by (limit_up_in h) (not (ran_out_in h) && leaving_in h) (peers_left (peers h)) (peers h) (known_up h p.1) (known_up h p.1)
known_up (Heard u ∷ h) p = heard_step h u (known_up h p.1)
known_up (Joined link.Ok ∷ h) p = known_up h p.1
known_up (Lost Up loss.Ended ∷ h) p = ended_if (limit_up_in h) (container h) (known_up h p.1)
known_up (Lost Up loss.Failed ∷ h) p = ended_if (limit_up_in h) (container h) (known_up h p.1)
known_up (Gave (ToUp u) text ∷ h) p = given_if (limit_up_in h) u (container h) (known_up h p.1)
known_up (Whole Client ∷ h) p = known_up h p.1
known_up (s ∷ h) p = known_up h p.1

-- ---- what goes

abbrev IsCut : State → ℕ → SessionUnit → Type 0
IsCut w n (unit.Transfer t) = (f : NextFrame) × (t ≡ transfer_of (frame_max_in w.up.container) (path_at w.paths n) f)
IsCut w n x = Unit {0}

is_cut : (w : State) → SessionUnits (IsCut w) w
is_cut w = record {
  attach = λ n a e. tt;
  flow = λ n f e. tt;
  transfer = λ n f e. (f, refl);
  dispose = λ n x e. tt;
  settle = λ n x e. tt;
  detach = λ n x e. tt;
}

least_limit : (limit : ℕ) (o : Option Upstream) → IfKnown limit o → 512 ≤ limit
least_limit limit None k = omega (arith, k)
least_limit limit (Some c) k = omega (arith, k.is, k.least)

brief_login : (limit : ℕ) (o : Option Upstream) → IfKnown limit o → IfBriefLogin o
brief_login limit None k = tt
brief_login limit (Some c) k = record { mechanism = k.mechanism; response = k.response }

max_least : (limit : ℕ) (o : Option Upstream) → IfKnown limit o → frame_max_in o ≤ limit
max_least limit None k = omega arith
max_least limit (Some c) k = omega (arith, k.is)

abbrev uncut : PathState → NextFrame → TransferOut
uncut s f = record { frame = f; handle = handle_at f.link s.links.links; id = s.publishes.next_id; bytes = 0; more = false }

-- the addresses that attaches carry
abbrev pub AddressesAreShort : Type 0
AddressesAreShort = (h : List Step) (n : ℕ) (a : AttachDue) → ArePicks h → AreGiven h → length (address_at a (path_at (before h).paths n)) ≤ 255

module _ (addresses : AddressesAreShort) (setup : SetupText) (form : IsInForm setup) where
  few : (h : List Step) (u : UpUnit) (text : List ℕ) → ArePicks h → IsBrief u text → length (spell_up (context_in setup h) u text) ≤ limit_up_in h
  few h u text p b =
      let k : IfKnown (limit_up_in h) (container h) = known_up h p in
      omega (arith, spelled_few (context_in setup h) u text form (brief_login _ (container h) k) b, least_limit _ (container h) k)

  cut_few : (h : List Step) (n : ℕ) (t : TransferOut) (text : List ℕ) → ArePicks h → IsCut (before h) n (unit.Transfer t)
      → text ≡ part_of (path_at (before h).paths n) t → length (spell_on n (unit.Transfer t) text) ≤ limit_up_in h
  cut_few h n t text p c e =
      let s : PathState = path_at (before h).paths n in
      let d : TransferOut = transfer_of (frame_max_in (before h).up.container) s c.0 in
      let k : IfKnown (limit_up_in h) (container h) = known_up h p in
      let max : frame_max_in (before h).up.container ≤ limit_up_in h =
      subst (λ (o : Option Upstream). frame_max_in o ≤ limit_up_in h) (sym (container_is (known h p))) (max_least (limit_up_in h) (container h) k) in
      let short : length (part_of s d) ≤ d.bytes = omega (arith, length-take d.bytes (rest_of d.frame.publish s.publishes.list)) in
      subst (λ (x : List ℕ). length (spell_on n (unit.Transfer t) x) ≤ limit_up_in h) (sym e)
      (subst (λ (x : TransferOut). length (spell_on n (unit.Transfer x) (part_of s x)) ≤ limit_up_in h) (sym c.1)
      (cut_fits (limit_up_in h) _ (length (rest_of c.0.publish s.publishes.list)) n (uncut s c.0) (part_of s d) max
      (least_limit (limit_up_in h) (container h) k) short))

  goes_fit : (h : List Step) (u : UpUnit) (text : List ℕ) → ArePicks h → AreGiven h → OfSession (IsCut (before h)) u → text ≡ carries_up (before h) u
      → length (spell_up (context_in setup h) u text) ≤ limit_up_in h
  goes_fit h (up.OnSession n (unit.Attach a)) text p r c e =
      let asked : AttachDue = record { link = a.link; handle = a.handle; receives = a.receives } in
      few h (up.OnSession n (unit.Attach a)) text p (subst (λ (x : List ℕ). length x ≤ 255) (sym e) (addresses h n asked p r))
  goes_fit h (up.OnSession n (unit.Transfer t)) text p r c e = cut_few h n t text p c e
  goes_fit h (up.OnSession n (unit.Flow f)) text p r c e = few h (up.OnSession n (unit.Flow f)) text p tt
  goes_fit h (up.OnSession n (unit.Dispose x)) text p r c e = few h (up.OnSession n (unit.Dispose x)) text p tt
  goes_fit h (up.OnSession n (unit.Settle x)) text p r c e = few h (up.OnSession n (unit.Settle x)) text p tt
  goes_fit h (up.OnSession n (unit.Detach k handle why)) text p r c e = few h (up.OnSession n (unit.Detach k handle why)) text p tt
  goes_fit h up.SaslHeader text p r c e = few h up.SaslHeader text p tt
  goes_fit h up.SaslInit text p r c e = few h up.SaslInit text p tt
  goes_fit h up.AmqpHeader text p r c e = few h up.AmqpHeader text p tt
  goes_fit h up.Open text p r c e = few h up.Open text p tt
  goes_fit h (up.Close why) text p r c e = few h (up.Close why) text p tt
  goes_fit h up.Empty text p r c e = few h up.Empty text p tt
  goes_fit h (up.Flow n i o) text p r c e = few h (up.Flow n i o) text p tt
  goes_fit h (up.Begin n) text p r c e = few h (up.Begin n) text p tt
  goes_fit h (up.End n why) text p r c e = few h (up.End n why) text p tt

  fits : (h : List Step) → ArePicks h → AreGiven h → FitsContainers setup h
  fits [] p r = tt
  fits (Gave (ToUp u) text ∷ h) p r = (goes_fit h u text p.1 r (goes_up_as (IsCut (before h)) (before h) u (is_cut (before h)) p.0.1) p.0.2, fits h p.1 r)
  fits (Began site n ms ∷ h) p r = fits h p.1 r.1
  fits (Came u ∷ h) p r = fits h p.1 r.1
  fits (s ∷ h) p r = fits h p.1 r

pub fits_containers : AddressesAreShort → (setup : SetupText) (h : List Step) → IsInForm setup → ArePicks h → AreGiven h → FitsContainers setup h
fits_containers addresses setup h form p r = fits addresses setup form h p r
