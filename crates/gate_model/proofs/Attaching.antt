-- No two attaches that go have one name, and each is answered once.
use Rattle.std.proofs.Common.{◌≡◌, ℕ, zero, suc, ◌+◌, ◌%◌, ◌^◌, ◌==◌, ◌≤◌, ◌<◌, not, ◌&&◌, Bool, true, false, if◌then◌else◌, List, [], ◌∷◌, ◌++◌, Option}
use Rattle.std.proofs.Common.{refl, sym, ap, ◌∙◌, arith}
use Rattle.std.proofs.lemmas.Bool.Decides.{nat_tests}
use Rattle.std.proofs.Math.Nat.{mod-eq_of_lt}
use Rattle.std.specs.List.{AllByRecursion}
use Rattle.gate_outside.specs.declared.ports.End.TheVariants.{Client, Up}
use Rattle.gate_outside.specs.declared.ports.Linked.TheVariants as link
use Rattle.gate_relay.specs.declared.loss.Loss.TheVariants as loss
use Rattle.machine_091.specs.State.{is_closing, is_opening}
use Rattle.machine_10.specs.Transitions as ten
use Rattle.machine_10.specs.Transitions.{Meaning}
use Rattle.performatives_10.specs.declared.condition.Condition.{Condition}
use Rattle.session_path.specs.Attaches.{asks_as, times_asked, times_attached}
use Rattle.session_path.specs.Events as event
use Rattle.session_path.specs.Events.{PathEvent}
use Rattle.gate_model.specs.declared.channel.AttachOut.{AttachOut}
use Rattle.gate_model.specs.declared.channel.SessionUnit.{SessionUnit}
use Rattle.gate_model.specs.declared.channel.SessionUnit.TheVariants as unit
use Rattle.gate_model.specs.declared.outgoing.Outgoing.TheVariants.{ToClient, ToUp}
use Rattle.gate_model.specs.declared.outgoing.UpUnit.{UpUnit}
use Rattle.gate_model.specs.declared.outgoing.UpUnit.TheVariants as up
use Rattle.gate_model.specs.Folds.{connection}
use Rattle.gate_model.specs.Once.{one_if}
use Rattle.gate_model.specs.Picks.{ArePicks}
use Rattle.gate_model.specs.Publishing.{given_event, opens_channel, path_events, step_events, up_events}
use Rattle.gate_model.specs.Repeats.{AttachesOnce, attaches_as, attaches_by, attaches_in, is_attach_of, went_up}
use Rattle.gate_model.specs.State.{Came, Gave, Heard, Joined, Lost, Queued, Silent, State, Step, TakenUp, Whole, attached_by, before}
use Rattle.gate_model.specs.State.{fail, failed, is_later, runs, sessions_lost, windowed, with_meaning, Fed}
use Rattle.gate_model.specs.Upstream.{heard_up, meaning_by}
use Rattle.gate_model.proofs.Firsts.{OfSession, SessionUnits, goes_up_as}
use Rattle.gate_model.proofs.Givings.{end_all, gives_up, is_given, step_all}
use Rattle.gate_model.proofs.Sessions.{session_cases}

-- what session_path says of the attaches of a life
abbrev pub AttachesAre : Type 0
AttachesAre = (life name : ℕ) (h : List PathEvent) → times_attached life name h ≤ times_asked name h

-- ---- the state counts attaches

abbrev Counts : ℕ → State → Type 0
Counts k w = w.attached ≡ k

fail_counts : (code : ℕ) (why : Option Condition) (w : State) (k : ℕ) → Counts k w → Counts k (fail code why w)
fail_counts code why w k e = by (is_closing w.conn)
  where
    by : (b : Bool) → Counts k (if b then sessions_lost w else failed code why w)
    by true = e
    by false = e

meaning_counts : (m : Meaning) (w : State) (k : ℕ) → Counts k w → Counts k (with_meaning m w)
meaning_counts ten.Nothing w k e = e
meaning_counts ten.Init w k e = e
meaning_counts ten.AmqpHeader w k e = e
meaning_counts ten.Opened w k e = by (is_opening w.conn)
  where
    by : (b : Bool) → Counts k (if b then runs w else w)
    by true = e
    by false = e
meaning_counts (ten.OfSession g p payload) w k e = session_cases (Counts k) g p payload w (record {
  begins = e;
  stays = e;
  ends = λ code why. e;
  parts = e;
  drops = λ code why. e;
  fails = λ why. fail_counts _ why (windowed g p w) k e;
})
meaning_counts (ten.Closed x) w k e = fail_counts _ _ w k e
meaning_counts ten.Refused w k e = fail_counts _ _ w k e
meaning_counts (ten.Violation c) w k e = fail_counts _ _ w k e

if_counts : (b : Bool) (w v : State) (k : ℕ) → Counts k w → Counts k v → Counts k (if b then w else v)
if_counts true w v k e f = e
if_counts false w v k e f = f

step_counts : (s : Step) (h : List Step) (k : ℕ) → gives_up s ≡ false → Counts k (before h) → Counts k (before (s ∷ h))
step_counts (Fed Client) h k f e = e
step_counts (Silent Up) h k f e = fail_counts _ _ _ k e
step_counts (Queued u) h k f e = if_counts (before h).out_of_memory _ _ k e e
step_counts (Came u) h k f e = if_counts (before h).out_of_memory _ _ k e e
step_counts TakenUp h k f e = if_counts (not (before h).out_of_memory && (before h).leaving) _ _ k e e
step_counts (Heard u) h k f e =
    if_counts (before h).out_of_memory _ _ k e (meaning_counts (meaning_by (before h).up.container u) (record (before h) { up = heard_up u (before h).up }) k e)
step_counts (Joined link.Failed) h k f e = fail_counts _ _ _ k e
step_counts (Lost Client loss.Ended) h k f e = e
step_counts (Lost Up loss.Ended) h k f e = fail_counts _ _ _ k e
step_counts (Lost Up loss.Failed) h k f e = fail_counts _ _ _ k e
step_counts (Gave (ToClient u) text) h k f e = e
step_counts (Gave (ToUp u) text) h k f e = absurd cc
step_counts (Whole Client) h k f e = e
step_counts s h k f e = e

-- ---- names

-- what an attach that goes has for a name
abbrev IsNamed : State → ℕ → SessionUnit → Type 0
IsNamed w n (unit.Attach a) = a.name ≡ w.attached
IsNamed w n x = Unit {0}

named_is : (w : State) → SessionUnits (IsNamed w) w
named_is w = record {
  attach = λ n a e. refl;
  flow = λ n f e. tt;
  transfer = λ n f e. tt;
  dispose = λ n x e. tt;
  settle = λ n x e. tt;
  detach = λ n x e. tt;
}

-- a unit is an attach, or of no count
data IsAttach : UpUnit → Type 0 where
  Attaches : (n : ℕ) (a : AttachOut) → IsAttach (up.OnSession n (unit.Attach a))
  Others : (u : UpUnit) → ((t : ℕ → Bool) → is_attach_of t u ≡ false) → ((k : ℕ) → attached_by u k ≡ k) → IsAttach u

is_attach : (u : UpUnit) → IsAttach u
is_attach (up.OnSession n (unit.Attach a)) = Attaches n a
is_attach (up.OnSession n (unit.Flow f)) = Others _ (λ t. refl) (λ k. refl)
is_attach (up.OnSession n (unit.Transfer f)) = Others _ (λ t. refl) (λ k. refl)
is_attach (up.OnSession n (unit.Dispose x)) = Others _ (λ t. refl) (λ k. refl)
is_attach (up.OnSession n (unit.Settle x)) = Others _ (λ t. refl) (λ k. refl)
is_attach (up.OnSession n (unit.Detach x handle why)) = Others _ (λ t. refl) (λ k. refl)
is_attach u = Others u (λ t. refl) (λ k. refl)

-- other steps count none
other_went : (t : UpUnit → Bool) (s : Step) (h : List Step) → gives_up s ≡ false → went_up t (s ∷ h) ≡ went_up t h
other_went t (Gave (ToUp u) text) h e = absurd cc
other_went t (Gave (ToClient u) text) h e = refl
other_went t s h e = refl

none_more : (k : ℕ) (b : Bool) → b ≡ false → k + one_if b ≡ k
none_more k true e = absurd cc
none_more k false e = omega arith

pub record Named (h : List Step) : Type 0 where
  pub counted : attaches_in h < 2 ^ 64 → (before h).attached ≡ attaches_in h
  pub below : (name : ℕ) → attaches_in h ≤ 2 ^ 64 → 1 ≤ attaches_as name h → name < attaches_in h
  pub once : (name : ℕ) → attaches_in h ≤ 2 ^ 64 → attaches_as name h ≤ 1

-- a step that attaches nothing
stays : (h k : List Step) → (before k).attached ≡ (before h).attached → attaches_in k ≡ attaches_in h → ((name : ℕ) → attaches_as name k ≡ attaches_as name h)
    → Named h → Named k
stays h k a i n s = record {
  counted = λ less. a ∙ s.counted (omega (arith, less, i)) ∙ sym i;
  below = λ name less some.
      let e : attaches_as name k ≡ attaches_as name h = n name in
      let b : name < attaches_in h = s.below name (omega (arith, less, i)) (omega (arith, some, e)) in omega (arith, b, i);
  once = λ name less.
      let e : attaches_as name k ≡ attaches_as name h = n name in
      let o : attaches_as name h ≤ 1 = s.once name (omega (arith, less, i)) in omega (arith, o, e);
}

one_named : (h : List Step) (n : ℕ) (a : AttachOut) (text : List ℕ) → a.name ≡ (before h).attached → Named h → Named (Gave (ToUp (up.OnSession n (unit.Attach a))) text ∷ h)
one_named h n a text is s = record { counted = counted; below = λ name less some. (by name less).0 some; once = λ name less. (by name less).1 }
  where
    k : ℕ
    k = attaches_in h

    counted : k + 1 < 2 ^ 64 → ((before h).attached + 1) % 2 ^ 64 ≡ k + 1
    counted less = ap (λ (i : ℕ). (i + 1) % 2 ^ 64) (s.counted (omega (arith, less))) ∙ mod-eq_of_lt less

    by : (name : ℕ) → k + 1 ≤ 2 ^ 64 → (1 ≤ attaches_as name h + one_if (a.name == name) → name < k + 1) × (attaches_as name h + one_if (a.name == name) ≤ 1)
    by name less = at (a.name == name) refl
      where
        named : a.name ≡ k
        named = is ∙ s.counted (omega (arith, less))

        below : 1 ≤ attaches_as name h → name < k
        below some = s.below name (omega (arith, less)) some

        once : attaches_as name h ≤ 1
        once = s.once name (omega (arith, less))

        none_yet : (m : ℕ) → attaches_as name h ≡ m → name ≡ k → m ≡ 0
        none_yet zero e f = refl
        none_yet (suc m) e f = let b : name < k = below (omega (arith, e)) in absurd (omega (arith, b, f))

        at : (b : Bool) → (a.name == name) ≡ b → (1 ≤ attaches_as name h + one_if b → name < k + 1) × (attaches_as name h + one_if b ≤ 1)
        at true e =
            let same : a.name ≡ name = grind (arith, nat_tests, e) in
            let last : name ≡ k = sym same ∙ named in
            let none : attaches_as name h ≡ 0 = none_yet (attaches_as name h) refl last in
            ((λ some. omega (arith, last)), omega (arith, none))
        at false e = ((λ some. let b : name < k = below (omega (arith, some)) in omega (arith, b)), omega (arith, once))

given_named : (h : List Step) (u : UpUnit) (text : List ℕ) → OfSession (IsNamed (before h)) u → Named h → Named (Gave (ToUp u) text ∷ h)
given_named h u text is s = by u (is_attach u) is
  where
    by : (u : UpUnit) → IsAttach u → OfSession (IsNamed (before h)) u → Named (Gave (ToUp u) text ∷ h)
    by _ (Attaches n a) e = one_named h n a text e s
    by u (Others x none same) e =
        stays h (Gave (ToUp u) text ∷ h) (same (before h).attached) (none_more (attaches_in h) _ (none (λ name. true)))
        (λ name. none_more (attaches_as name h) _ (none (λ own. own == name))) s

pub named : (h : List Step) → ArePicks h → Named h
named [] p = record { counted = λ less. refl; below = λ name less some. absurd (omega (arith, some)); once = λ name less. omega arith }
named (Gave (ToUp u) text ∷ h) p = given_named h u text (goes_up_as (IsNamed (before h)) (before h) u (named_is (before h)) p.0.1) (named h p.1)
named (Gave (ToClient u) text ∷ h) p = stays h (Gave (ToClient u) text ∷ h) refl refl (λ name. refl) (named h p.1)
named (s ∷ h) p = stays h (s ∷ h) (step_counts s h (before h).attached refl refl) refl (λ name. refl) (named h p.1)

-- ---- what a life asked for went

abbrev NoneAsked : ℕ → PathEvent → Type 0
NoneAsked name x = asks_as name x ≡ 0

each_none : (name : ℕ) (x : PathEvent) → is_given x ≡ false → NoneAsked name x
each_none name (event.AttachSent own) e = absurd cc
each_none name x e = refl

none_asked : (name : ℕ) (xs es : List PathEvent) → AllByRecursion (NoneAsked name) xs → times_asked name (xs ++ es) ≡ times_asked name es
none_asked name [] es a = refl
none_asked name (x ∷ xs) es a =
    let rest : times_asked name (xs ++ es) ≡ times_asked name es = none_asked name xs es a.1 in
    let one : asks_as name x ≡ 0 = a.0 in omega (arith, rest, one)

abbrev AskedIn : ℕ → ℕ → List Step → Type 0
AskedIn name n h = times_asked name (path_events h n) ≤ attaches_as name h

quiet : (name n : ℕ) (h : List Step) (s : Step) → gives_up s ≡ false → AskedIn name n h → AskedIn name n (s ∷ h)
quiet name n h s e old = by (opens_channel n h s)
  where
    same : attaches_as name (s ∷ h) ≡ attaches_as name h
    same = other_went (is_attach_of (λ own. own == name)) s h e

    by : (b : Bool) → times_asked name (if b then [] else step_events n h s ++ path_events h n) ≤ attaches_as name (s ∷ h)
    by true = omega arith
    by false =
        let is : times_asked name (step_events n h s ++ path_events h n) ≡ times_asked name (path_events h n) =
        none_asked name (step_events n h s) (path_events h n) (step_all (NoneAsked name) (each_none name) n h s e) in
        omega (arith, is, same, old)

gave : (name n : ℕ) (h : List Step) (u : UpUnit) (text : List ℕ) → AskedIn name n h → AskedIn name n (Gave (ToUp u) text ∷ h)
gave name n h (up.OnSession k u) text old = by (k == n) u
  where
    by : (b : Bool) (u : SessionUnit) → times_asked name ((if b then given_event u ∷ [] else []) ++ path_events h n) ≤ attaches_as name h + one_if (attaches_by (λ own. own == name) u)
    by true (unit.Attach a) = at (a.name == name)
      where
        at : (b : Bool) → times_asked name (path_events h n) + (if b then 1 else 0) ≤ attaches_as name h + one_if b
        at true = omega (arith, old)
        at false = omega (arith, old)
    by true (unit.Flow f) = omega (arith, old)
    by true (unit.Transfer f) = omega (arith, old)
    by true (unit.Dispose x) = omega (arith, old)
    by true (unit.Settle x) = omega (arith, old)
    by true (unit.Detach x handle why) = omega (arith, old)
    by false u = omega (arith, old)
gave name n h (up.End k why) text old =
    let is : times_asked name (up_events (is_later (connection h) (up.End k why)) n (up.End k why) ++ path_events h n) ≡ times_asked name (path_events h n) =
    none_asked name (up_events (is_later (connection h) (up.End k why)) n (up.End k why)) (path_events h n)
    (end_all (NoneAsked name) (each_none name) (is_later (connection h) (up.End k why)) n k why) in
    omega (arith, is, old)
gave name n h u text old = omega (arith, old)

asked_in : (name n : ℕ) (h : List Step) → ArePicks h → AskedIn name n h
asked_in name n [] p = omega arith
asked_in name n (Gave (ToUp u) text ∷ h) p = gave name n h u text (asked_in name n h p.1)
asked_in name n (Gave (ToClient u) text ∷ h) p = quiet name n h (Gave (ToClient u) text) refl (asked_in name n h p.1)
asked_in name n (s ∷ h) p = quiet name n h s refl (asked_in name n h p.1)

pub attaches_once : AttachesAre → (h : List Step) → ArePicks h → AttachesOnce h
attaches_once law h p = record {
  own = (named h p).once;
  theirs = λ n life name less lives.
      let a : times_attached life name (path_events h n) ≤ times_asked name (path_events h n) = law life name (path_events h n) in
      let b : times_asked name (path_events h n) ≤ attaches_as name h = asked_in name n h p in
      let c : attaches_as name h ≤ 1 = (named h p).once name less in
      omega (arith, a, b, c);
}
