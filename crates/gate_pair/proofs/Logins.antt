-- The login of a container stays once it came, and with it the bytes of the units that were sent.
use Rattle.std.proofs.Common.{◌≡◌, ◌∙◌, ℕ, Bool, true, false, not, ◌&&◌, ◌||◌, if◌then◌else◌, map}
use Rattle.std.proofs.Common.{List, [], ◌∷◌, ◌++◌, Option, None, Some, refl, sym, ap, subst}
use Rattle.std.specs.Prelude.{is_some}
use Rattle.std.specs.List.{list_any}
use Rattle.std.proofs.lemmas.List.{map-append}
use Rattle.std.proofs.lemmas.List.Folds.{list_any-append}
use Rattle.gate_outside.specs.declared.ports.End.{End}
use Rattle.gate_outside.specs.declared.ports.End.TheVariants.{Client, Up}
use Rattle.gate_outside.specs.declared.ports.Linked.TheVariants as link
use Rattle.gate_relay.specs.declared.loss.Loss.TheVariants as loss
use Rattle.machine_091.specs.Transitions as machine
use Rattle.machine_091.specs.declared.unit.Unit91.{Unit91}
use Rattle.machine_10.specs.Calls.{after_begin_sent, after_end_sent, asked, left, may_begin}
use Rattle.machine_10.specs.Laws.{GoesOn}
use Rattle.machine_10.specs.State.{session_at, with_session}
use Rattle.machine_10.specs.Parts.{Parts as Read}
use Rattle.machine_10.specs.Transitions as ten
use Rattle.machine_10.specs.Transitions.{Meaning}
use Rattle.machine_10.specs.declared.state.Session.{Session}
use Rattle.machine_10.specs.declared.state.Session.TheVariants as session
use Rattle.machine_10.specs.declared.state.Upstream.{Upstream}
use Rattle.machine_10.specs.declared.unit.Unit10.{Unit10}
use Rattle.gate_model.specs.declared.outgoing.Outgoing.TheVariants.{ToClient, ToUp}
use Rattle.gate_model.specs.declared.outgoing.UpPending.{UpPending}
use Rattle.gate_model.specs.declared.outgoing.UpUnit.{UpUnit}
use Rattle.gate_model.specs.declared.outgoing.UpUnit.TheVariants as up
use Rattle.gate_model.specs.declared.reply.Reply.{Reply}
use Rattle.gate_model.specs.Asked.{AreCalledFor, called, called_from, openings_of}
use Rattle.gate_model.specs.Folds.{Peers, container, container_kept, leaving_in}
use Rattle.gate_model.specs.Folds.{number_in, peers, peers_by, peers_came, peers_heard}
use Rattle.gate_model.specs.Folds.{carried_on, peers_left, peers_session, ran_out_in, scope_in}
use Rattle.gate_model.specs.Folds.{sent_up}
use Rattle.gate_model.specs.Picks.{ArePicks}
use Rattle.gate_model.specs.Setup.{SetupText}
use Rattle.gate_model.specs.Spelling.{Context, context_of, init_text, spell}
use Rattle.gate_model.specs.Requests.{client_step}
use Rattle.gate_model.specs.State.{Step, Began, Moment, Fed, Silent, Queued, Came, TakenUp}
use Rattle.gate_model.specs.State.{Heard, Joined, LinesTold, Lost, Gave, Whole, OutOfMemory, before}
use Rattle.gate_model.specs.Upstream.{container_by, container_given, ended_in, meaning_by}
use Rattle.gate_model.specs.Upstream.{opening_rows, sessions_given, when_up}
use Rattle.gate_model.proofs.Known.{container_is, known, number_is}
use Rattle.gate_model.proofs.Outcomes.{Outcome, Greets, Parts, LogsIn, Tunes, Asks, Passes, Refuses}
use Rattle.gate_model.proofs.Outcomes.{Declines, Drops, Parting, Calls, Asking, Publishes, Fills}
use Rattle.gate_model.proofs.Outcomes.{Frees, Closes, Answers, Ignores, outcome}
use Rattle.gate_model.proofs.Sessions.{only_scoped}
use Rattle.gate_model.proofs.Ups.{Early, early, is_early}
use Rattle.gate_pair.specs.Answers.{context_in, sent_to, sent_up_with, sent_with, spelled, to_client}
use Rattle.gate_pair.specs.Answers.{to_up}

-- what lower crates say of logins: no unit of the container changes one, and of the units of the opening those were sent that were called for
pub record AreLoggedIn : Type 0 where
  pub forward : (c : Upstream) (u : Unit10) → GoesOn c (ten.unit_step c u).0
  pub called : (g : List Step) → ArePicks g → AreCalledFor g

-- ---- what steps make of a container

-- what a step makes of it that is no unit of the container
pub data Moves (o : Option Upstream) : Option Upstream → Type 0 where
  Stays : Moves o o
  Comes : (c : Upstream) → o ≡ None → Moves o (Some c)
  Ends : Moves o (ended_in o)
  Sends : (u : UpUnit) → Moves o (container_given u o)

abbrev pub IsUnheard : Step → Type 0
IsUnheard (Heard u) = ⊥
IsUnheard x = Unit {0}

moves_came : (p : Peers) (u : Unit91) → Early p → Moves p.container (container_kept p.container (client_step p.routes p.paths p.client u).1)
moves_came p u f = by (client_step p.routes p.paths p.client u) (outcome p.routes p.paths p.client u)
  where
    by : (x : machine.Step) → Outcome p.client u x → Moves p.container (container_kept p.container x.1)
    by _ (Greets e) = Stays
    by _ (Parts e) = Stays
    by _ (LogsIn m r e) = Comes _ (f (ap is_early e))
    by _ (Tunes l e) = Stays
    by _ (Asks e) = Stays
    by _ Passes = Stays
    by _ (Refuses r a f e g) = Stays
    by _ (Declines r d o e g) = Stays
    by _ (Drops r d o e g) = Stays
    by _ (Parting e) = Stays
    by _ (Calls n s m e) = Stays
    by _ (Asking n m e) = Stays
    by _ (Publishes n m x e) = Stays
    by _ (Fills n i e) = Stays
    by _ (Frees n e) = Stays
    by _ (Closes e) = Stays
    by _ (Answers e) = Stays
    by _ (Ignores e) = Stays

moves_if : (o : Option Upstream) (b : Bool) (p q : Peers) → Moves o p.container → Moves o q.container → Moves o (if b then p else q).container
moves_if o true p q f g = f
moves_if o false p q f g = g

pub moves : (x : Step) (g : List Step) → IsUnheard x → ArePicks (x ∷ g) → Moves (container g) (container (x ∷ g))
moves (Began site n ms) g i p = subst (λ (g : List Step). Moves (container g) None) (sym p.0) Stays
moves (Moment ms) g i p = Stays
moves (Fed Client) g i p = Stays
moves (Fed Up) g i p = Stays
moves (Silent Client) g i p = Stays
moves (Silent Up) g i p = Stays
moves (Queued u) g i p = Stays
moves (Came u) g i p = moves_if (container g) (ran_out_in g) (peers g) (peers_came (peers g) u) Stays (moves_came (peers g) u (early g))
moves TakenUp g i p = moves_if (container g) (not (ran_out_in g) && leaving_in g) (peers_left (peers g)) (peers g) Stays Stays
moves (Heard u) g i p = absurd i
moves (Joined link.Ok) g i p = Stays
moves (Joined link.Failed) g i p = Stays
moves (Lost Client how) g i p = Stays
moves (Lost Up loss.Ended) g i p = Ends
moves (Lost Up loss.Failed) g i p = Ends
moves (Lost Up loss.Shut) g i p = Stays
moves (Gave (ToClient u) text) g i p = Stays
moves (Gave (ToUp u) text) g i p = Sends u
moves (Whole Client) g i p = Stays
moves (Whole Up) g i p = Stays
moves LinesTold g i p = Stays
moves OutOfMemory g i p = Stays

-- once there is a container its login stays
abbrev pub Follows : Option Upstream → Option Upstream → Type 0
Follows None o = Unit {0}
Follows (Some c) None = ⊥
Follows (Some c) (Some d) = (d.mechanism ≡ c.mechanism) × (d.response ≡ c.response)

follows_same : (o : Option Upstream) → Follows o o
follows_same None = tt
follows_same (Some c) = (refl, refl)

follows_ended : (o : Option Upstream) → Follows o (ended_in o)
follows_ended None = tt
follows_ended (Some c) = (refl, refl)

-- a unit that goes to a container leaves its login and its stream
pub record Keeps (c d : Upstream) : Type 0 where
  pub mechanism : d.mechanism ≡ c.mechanism
  pub response : d.response ≡ c.response
  pub stream : d.stream ≡ c.stream

keeps_all : (c : Upstream) → Keeps c c
keeps_all c = record { mechanism = refl; response = refl; stream = refl }

keeps_session : (c : Upstream) (n : ℕ) (x : Session) → Keeps c (with_session c n x)
keeps_session c n x = record { mechanism = refl; response = refl; stream = refl }

keeps_begin : (n : ℕ) (c : Upstream) → Keeps c (after_begin_sent n c)
keeps_begin n c = by (may_begin c n) (session_at c n)
  where
    by : (b : Bool) (x : Session) → Keeps c (if b then asked x n c else c)
    by false x = keeps_all c
    by true session.Free = keeps_session c n session.Asked
    by true session.Asked = keeps_all c
    by true session.Left = keeps_all c
    by true (session.Open m) = keeps_all c
    by true (session.Leaving m) = keeps_all c
    by true (session.Ended m) = keeps_all c

keeps_end : (n : ℕ) (c : Upstream) → Keeps c (after_end_sent n c)
keeps_end n c = by (session_at c n)
  where
    by : (x : Session) → Keeps c (left x n c)
    by session.Free = keeps_all c
    by session.Asked = keeps_session c n session.Left
    by session.Left = keeps_all c
    by (session.Open m) = keeps_session c n (session.Leaving m)
    by (session.Leaving m) = keeps_all c
    by (session.Ended m) = keeps_session c n session.Free

pub keeps_given : (u : UpUnit) (c : Upstream) → Keeps c (sessions_given u c)
keeps_given up.SaslHeader c = keeps_all c
keeps_given up.SaslInit c = keeps_all c
keeps_given up.AmqpHeader c = keeps_all c
keeps_given up.Open c = keeps_all c
keeps_given (up.Close why) c = keeps_all c
keeps_given up.Empty c = keeps_all c
keeps_given (up.OnSession n u) c = keeps_all c
keeps_given (up.Flow n i o) c = keeps_all c
keeps_given (up.Begin n) c = keeps_begin n c
keeps_given (up.End n why) c = keeps_end n c

follows_given : (u : UpUnit) (o : Option Upstream) → Follows o (container_given u o)
follows_given u None = tt
follows_given u (Some c) = let k : Keeps c (sessions_given u c) = keeps_given u c in (k.mechanism, k.response)

follows_moves : (o o' : Option Upstream) → Moves o o' → Follows o o'
follows_moves o _ Stays = follows_same o
follows_moves o _ (Comes c none) = subst (λ (o : Option Upstream). Follows o (Some c)) (sym none) tt
follows_moves o _ Ends = follows_ended o
follows_moves o _ (Sends u) = follows_given u o

follows_by : AreLoggedIn → (o : Option Upstream) (u : Unit10) → Follows o (container_by o u)
follows_by l None u = tt
follows_by l (Some c) u = let f : GoesOn c (ten.unit_step c u).0 = l.forward c u in (f.mechanism, f.response)

-- what a unit of the container means leaves it
kept_session : (n : ℕ) (q : Read) (payload : List ℕ) (x : Peers) → (peers_session n q payload x).container ≡ x.container
kept_session n q payload x =
    ap (λ (y : Peers). y.container) (only_scoped (scope_in x n q payload) n q payload (record x { carried = carried_on n q x.carried }))

kept : (m : Meaning) (x : Peers) → (peers_by m x).container ≡ x.container
kept ten.Nothing x = refl
kept ten.Init x = refl
kept ten.AmqpHeader x = refl
kept ten.Opened x = refl
kept (ten.OfSession n q payload) x = kept_session n q payload x
kept (ten.Closed e) x = refl
kept ten.Refused x = refl
kept (ten.Violation why) x = refl

follows_heard : AreLoggedIn → (p : Peers) (u : Unit10) → Follows p.container (peers_heard p u).container
follows_heard l p u =
    subst (Follows p.container) (sym (kept (meaning_by p.container u) (record p { container = container_by p.container u }))) (follows_by l p.container u)

pub follows : AreLoggedIn → (x : Step) (g : List Step) → ArePicks (x ∷ g) → Follows (container g) (container (x ∷ g))
follows l (Heard u) g p = by (ran_out_in g)
  where
    by : (b : Bool) → Follows (container g) (if b then peers g else peers_heard (peers g) u).container
    by true = follows_same (container g)
    by false = follows_heard l (peers g) u
follows l x g p = follows_moves (container g) (container (x ∷ g)) (moves x g tt p)

-- ---- sasl-init goes after the login

is_init : UpUnit → Bool
is_init up.SaslHeader = false
is_init up.SaslInit = true
is_init up.AmqpHeader = false
is_init up.Open = false
is_init (up.Close why) = false
is_init up.Empty = false
is_init (up.OnSession n u) = false
is_init (up.Flow n i o) = false
is_init (up.Begin n) = false
is_init (up.End n why) = false

pub stays_some : (o o' : Option Upstream) → Follows o o' → is_some o ≡ true → is_some o' ≡ true
stays_some None o f e = absurd cc
stays_some (Some c) None f e = absurd f
stays_some (Some c) (Some d) f e = refl

heard_some : (o : Option Upstream) (u : Unit10) (q : UpPending) → (q.init ≡ true → is_some o ≡ true) → (called_from o u q).init ≡ true → is_some o ≡ true
heard_some None u q f e = f e
heard_some (Some c) u q f e = refl

heard_or : (b : Bool) (o : Option Upstream) (u : Unit10) (q : UpPending) → (q.init ≡ true → is_some o ≡ true) → (if b then q else called_from o u q).init ≡ true → is_some o ≡ true
heard_or true o u q f e = f e
heard_or false o u q f e = heard_some o u q f e

-- it is called for by a unit of the container
called_some : AreLoggedIn → (g : List Step) → ArePicks g → (called g).init ≡ true → is_some (container g) ≡ true
called_some l [] p e = absurd cc
called_some l (Joined link.Ok ∷ g) p e = absurd cc
called_some l (Joined link.Failed ∷ g) p e = called_some l g p.1 e
called_some l (Heard u ∷ g) p e =
    stays_some (container g) (container (Heard u ∷ g)) (follows l (Heard u) g p) (heard_or (ran_out_in g) (container g) u (called g) (called_some l g p.1) e)
called_some l (x ∷ g) p e = stays_some (container g) (container (x ∷ g)) (follows l x g p) (called_some l g p.1 e)

opening_inits : (us : List UpUnit) → list_any is_init us ≡ true → list_any is_init (openings_of us) ≡ true
unfolding is_init
opening_inits [] e = absurd cc
opening_inits (up.SaslHeader ∷ us) e = opening_inits us e
opening_inits (up.SaslInit ∷ us) e = refl
opening_inits (up.AmqpHeader ∷ us) e = opening_inits us e
opening_inits (up.Open ∷ us) e = opening_inits us e
opening_inits (up.Close why ∷ us) e = opening_inits us e
opening_inits (up.Empty ∷ us) e = opening_inits us e
opening_inits (up.OnSession n u ∷ us) e = opening_inits us e
opening_inits (up.Flow n i o ∷ us) e = opening_inits us e
opening_inits (up.Begin n ∷ us) e = opening_inits us e
opening_inits (up.End n why ∷ us) e = opening_inits us e

pass_over : (b : Bool) (u : UpUnit) (us : List UpUnit) → is_init u ≡ false → list_any is_init (when_up b u ++ us) ≡ list_any is_init us
pass_over true u us e = ap (λ (x : Bool). x || list_any is_init us) e
pass_over false u us e = refl

rows_init : (p : UpPending) → list_any is_init (opening_rows p) ≡ true → p.init ≡ true
unfolding is_init
rows_init p e = by p.init p.«open» (sym (pass_over p.sasl_header up.SaslHeader _ refl) ∙ e)
  where
    by : (i o : Bool) → list_any is_init (when_up i up.SaslInit ++ (when_up p.amqp_header up.AmqpHeader ++ when_up o up.Open)) ≡ true → i ≡ true
    by true o f = refl
    by false true f = let wrong : false ≡ true = sym (pass_over p.amqp_header up.AmqpHeader (up.Open ∷ []) refl) ∙ f in absurd cc
    by false false f = let wrong : false ≡ true = sym (pass_over p.amqp_header up.AmqpHeader [] refl) ∙ f in absurd cc

or_left : (a b : Bool) → a ≡ true → (a || b) ≡ true
or_left true b e = refl
or_left false b e = absurd cc

or_right : (a b : Bool) → b ≡ true → (a || b) ≡ true
or_right true b e = refl
or_right false b e = e

init_called : (g : List Step) → AreCalledFor g → list_any is_init (sent_up g) ≡ true → (called g).init ≡ true
init_called g a e =
    rows_init (called g)
    (sym (ap (list_any is_init) a.all) ∙ list_any-append is_init (openings_of (sent_up g)) (opening_rows (before g).up.pending)
    ∙ or_left (list_any is_init (openings_of (sent_up g))) _ (opening_inits (sent_up g) e))

init_some : AreLoggedIn → (g : List Step) → ArePicks g → list_any is_init (sent_up g) ≡ true → is_some (container g) ≡ true
init_some l g p e = called_some l g p (init_called g (l.called g p) e)

-- ---- the bytes of units

init_same : (o o' : Option Upstream) → is_some o ≡ true → Follows o o' → init_text o' ≡ init_text o
init_same None o e f = absurd cc
init_same (Some c) None e f = absurd f
init_same (Some c) (Some d) e f =
    ap (λ (m : List ℕ). init_text (Some (record c { mechanism = m; response = d.response }))) f.0
    ∙ ap (λ (r : List ℕ). init_text (Some (record c { response = r }))) f.1

joins : {a b c d : List ℕ} → a ≡ b → c ≡ d → a ++ c ≡ b ++ d
joins e f = cc

unit_same : (c d : Context) (u : UpUnit) (text : List ℕ) → c.setup ≡ d.setup → c.number ≡ d.number → (is_init u ≡ true → init_text c.container ≡ init_text d.container)
    → spell c (ToUp u) text ≡ spell d (ToUp u) text
unfolding is_init
unit_same c d up.SaslHeader text e f i = refl
unit_same c d up.SaslInit text e f i = i refl
unit_same c d up.AmqpHeader text e f i = refl
unit_same c d up.Open text e f i =
    ap (λ (n : ℕ). spell (record c { number = n }) (ToUp up.Open) text) f ∙ ap (λ (s : SetupText). spell (record d { setup = s }) (ToUp up.Open) text) e
unit_same c d (up.Close why) text e f i = refl
unit_same c d up.Empty text e f i = refl
unit_same c d (up.OnSession n u) text e f i = refl
unit_same c d (up.Flow n i o) text e f x = refl
unit_same c d (up.Begin n) text e f i = refl
unit_same c d (up.End n why) text e f i = refl

-- units to a container, without what they carry
abbrev units : List (UpUnit × List ℕ) → List UpUnit
units xs = map (λ (x : UpUnit × List ℕ). x.0) xs

-- those that were sent are the same
units_sent : (g : List Step) → units (sent_up_with g) ≡ sent_up g
units_sent [] = refl
units_sent (Gave (ToUp u) text ∷ g) =
    map-append (λ (x : UpUnit × List ℕ). x.0) (sent_up_with g) ((u, text) ∷ []) ∙ ap (λ (us : List UpUnit). us ++ u ∷ []) (units_sent g)
units_sent (x ∷ g) = units_sent g

up_same : (c d : Context) (xs : List (UpUnit × List ℕ)) → c.setup ≡ d.setup → c.number ≡ d.number
    → (list_any is_init (units xs) ≡ true → init_text c.container ≡ init_text d.container)
    → spelled c (map to_up xs) ≡ spelled d (map to_up xs)
up_same c d [] e f i = refl
up_same c d (x ∷ xs) e f i =
    joins (unit_same c d x.0 x.1 e f (λ k. i (or_left (is_init x.0) (list_any is_init (units xs)) k)))
    (up_same c d xs e f (λ k. i (or_right (is_init x.0) (list_any is_init (units xs)) k)))

pub client_same : (c d : Context) (us : List (Reply × List ℕ)) → spelled c (map to_client us) ≡ spelled d (map to_client us)
client_same c d [] = refl
client_same c d (u ∷ us) = ap (λ (b : List ℕ). spell c (ToClient u.0) u.1 ++ b) (client_same c d us)

-- no step changes the bytes of the units that were sent before it
pub bytes_stay : AreLoggedIn → (s : SetupText) (end : End) (x : Step) (g : List Step) → ArePicks (x ∷ g)
    → spelled (context_in s (x ∷ g)) (sent_to end g) ≡ spelled (context_in s g) (sent_to end g)
bytes_stay l s Client x g p = client_same (context_in s (x ∷ g)) (context_in s g) (sent_with g)
bytes_stay l s Up (Began site n ms) g p =
    subst (λ (g : List Step). spelled (context_in s (Began site n ms ∷ g)) (sent_to Up g) ≡ spelled (context_in s g) (sent_to Up g)) (sym p.0) refl
bytes_stay l s Up x g p =
    up_same (context_in s (x ∷ g)) (context_in s g) (sent_up_with g) refl refl
    (λ e. init_same (container g) (container (x ∷ g)) (init_some l g p.1 (sym (ap (list_any is_init) (units_sent g)) ∙ e)) (follows l x g p))

-- nor one that goes the bytes of its own
init_given : (u : UpUnit) (o : Option Upstream) → init_text (container_given u o) ≡ init_text o
init_given u None = refl
init_given u (Some c) = let k : Keeps c (sessions_given u c) = keeps_given u c in init_same (Some c) (Some (sessions_given u c)) refl (k.mechanism, k.response)

pub gave_stay : (s : SetupText) (u : UpUnit) (text : List ℕ) (g : List Step) → spell (context_in s (Gave (ToUp u) text ∷ g)) (ToUp u) text ≡ spell (context_in s g) (ToUp u) text
gave_stay s u text g = unit_same (context_in s (Gave (ToUp u) text ∷ g)) (context_in s g) u text refl refl (λ e. init_given u (container g))

-- a state knows what decides them
pub context_is : (s : SetupText) (g : List Step) → ArePicks g → context_of s (before g) ≡ context_in s g
context_is s g p = same (before g).number (number_in g) (before g).up.container (container g) (number_is (known g p)) (container_is (known g p))
  where
    same : (m n : ℕ) (c d : Option Upstream) → m ≡ n → c ≡ d → (let x : Context = record { setup = s; number = m; container = c } in x) ≡ record { setup = s; number = n; container = d }
    same m n c d e f = cc
