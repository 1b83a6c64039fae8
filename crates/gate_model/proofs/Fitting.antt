-- The frames of returns fit their clients: a frame-max is agreed to once, before anything is published, and the frames are cut by it.
use Rattle.std.proofs.Common.{◌≡◌, ℕ, zero, suc, ◌+◌, ◌-◌, ◌==◌, ◌≤◌, ◌&&◌, Bool, true, false}
use Rattle.std.proofs.Common.{if◌then◌else◌, List, [], ◌∷◌, take, drop, length, map, Option, None, Some, refl, sym, ap, ◌∙◌, subst, arith}
use Rattle.std.proofs.lemmas.Bool.Decides.{nat_tests}
use Rattle.std.proofs.lemmas.List.{length-append, length-take}
use Rattle.gate_outside.specs.declared.ports.End.TheVariants.{Client, Up}
use Rattle.gate_outside.specs.declared.ports.Linked.TheVariants as link
use Rattle.gate_relay.specs.declared.loss.Loss.TheVariants as loss
use Rattle.frames_091.specs.Frames.{frame_text}
use Rattle.frames_091.specs.declared.frame.Kind91.{Kind91}
use Rattle.frames_091.specs.declared.frame.Kind91.TheVariants.{Body}
use Rattle.machine_091.specs.Calls.{after_ended, after_opened, closing_phase}
use Rattle.machine_091.specs.Limits.{AreWithin}
use Rattle.machine_091.specs.State.{is_opening, is_running}
use Rattle.machine_091.specs.Transitions as machine
use Rattle.machine_091.specs.declared.limits.Limits.{Limits}
use Rattle.machine_091.specs.declared.limits.TheConstants.{FRAME_MIN_SIZE}
use Rattle.machine_091.specs.declared.state.Connection.{Connection}
use Rattle.machine_091.specs.declared.state.Phase91.{Phase91}
use Rattle.machine_091.specs.declared.state.Phase91.TheVariants as phase
use Rattle.machine_091.specs.declared.unit.Unit91.{Unit91}
use Rattle.machine_10.specs.Transitions as ten
use Rattle.machine_10.specs.Transitions.{Meaning}
use Rattle.methods_091.specs.declared.method.Method91.{Method91}
use Rattle.open_items.specs.Numbers.{first}
use Rattle.property_map.specs.declared.message.Message091.{Message091}
use Rattle.gate_model.specs.declared.outgoing.Outgoing.TheVariants.{ToClient}
use Rattle.gate_model.specs.Folds.{Peers, accepted_in, connection, peers, peers_by, peers_came, paths_in, peers_heard, ran_out_in, routes_in}
use Rattle.gate_model.specs.Frames.{limit_after, limit_in}
use Rattle.gate_model.specs.Picks.{ArePicks}
use Rattle.gate_model.specs.Publishing.{back_by, back_in, back_wanted, opens_channel, publishes_in}
use Rattle.gate_model.specs.Requests.{client_step, message_of}
use Rattle.gate_model.specs.Returns.{back_of, body_parts, cut_in, frame_with, header_part, is_mandatory, is_within}
use Rattle.gate_model.specs.Returns.{method_part, return_parts}
use Rattle.gate_model.specs.State.{Began, Came, Fed, Gave, Heard, Joined, Lost, Moment, OutOfMemory}
use Rattle.gate_model.specs.State.{Silent, Step, TakenUp, Whole, close, close_if, is_limit_reached}
use Rattle.gate_model.specs.Upstream.{channel_max_in, meaning_by}
use Rattle.gate_model.proofs.Connections.{limits_only, only_given, opened_runs, opening_phase, phase_only}
use Rattle.gate_model.proofs.Outcomes.{OnlyChannels, only_closing, Outcome, Greets, Parts, LogsIn, Tunes, Passes, Refuses}
use Rattle.gate_model.proofs.Outcomes.{Declines, Drops, Parting, Asking, Publishes, Closes, Answers, outcome}
use Rattle.gate_model.proofs.Sessions.{conn_cases}

-- ---- frames within a limit

abbrev pub AreFit : ℕ → List (List ℕ) → Type 0
AreFit l [] = Unit {0}
AreFit l (x ∷ xs) = (length x ≤ l) × AreFit l xs

pub fit_more : (l m : ℕ) (xs : List (List ℕ)) → l ≤ m → AreFit l xs → AreFit m xs
fit_more l m [] le f = tt
fit_more l m (x ∷ xs) le f = (omega (arith, le, f.0), fit_more l m xs le f.1)

pub fit_first : (l k : ℕ) (xs : List (List ℕ)) (text : List ℕ) → AreFit l xs → first (drop k xs) ≡ Some text → length text ≤ l
fit_first l zero [] text f e = absurd cc
fit_first l (suc k) [] text f e = absurd cc
fit_first l zero (x ∷ xs) text f e = let same : x ≡ text = cc in subst (λ (y : List ℕ). length y ≤ l) same f.0
fit_first l (suc k) (x ∷ xs) text f e = fit_first l k xs text f.1 e

pub frame_long : (kind : Kind91) (n : ℕ) (payload : List ℕ) → length (frame_with kind n payload) ≡ length payload + 8
unfolding frame_text
frame_long kind n payload = grind (arith, length-append)

pub cut_fits : (k l n : ℕ) (body : List ℕ) → 8 ≤ l → AreFit l (map (frame_with Body n) (cut_in k (l - 8) body))
cut_fits zero l n body le = tt
cut_fits (suc k) l n [] le = tt
cut_fits (suc k) l n (b ∷ body) le =
    let long = frame_long Body n (take (l - 8) (b ∷ body)) in
    let short = length-take (l - 8) (b ∷ body) in
    (omega (arith, long, short, le), cut_fits k l n (drop (l - 8) (b ∷ body)) le)

back_fits : (l n : ℕ) (method : Method91) (m : Message091) → 8 ≤ l → AreFit l (back_of l n method m)
back_fits l n method m le = by (is_mandatory method)
  where
    some : (a b : Bool) → is_within l (method_part n m) ≡ a → is_within l (header_part n m) ≡ b
        → AreFit l (if a && b then method_part n m ∷ header_part n m ∷ body_parts l n m.body else [])
    some true true e f =
        let first_ : length (method_part n m) ≤ l = grind (arith, nat_tests, e) in
        let second : length (header_part n m) ≤ l = grind (arith, nat_tests, f) in
        (first_, (second, cut_fits (length m.body) l n m.body le))
    some true false e f = tt
    some false b e f = tt

    by : (b : Bool) → AreFit l (if b then return_parts l n m else [])
    by true = some (is_within l (method_part n m)) (is_within l (header_part n m)) refl refl
    by false = tt

-- ---- the limit that is agreed to

pub is_early : Phase91 → Bool
is_early phase.Header = true
is_early phase.Start = true
is_early phase.Tune = true
is_early x = false

pub is_tuned : Phase91 → Bool
is_tuned phase.Open = true
is_tuned phase.Running = true
is_tuned x = false

-- none was yet, or it is that of the connection
pub record Agrees (limit : ℕ) (c : Connection) : Type 0 where
  pub early : is_early c.phase ≡ true → limit ≡ FRAME_MIN_SIZE
  pub tuned : is_tuned c.phase ≡ true → limit ≡ c.limits.frame_max

-- a connection that closes, or has begun to
done : (limit : ℕ) (d : Connection) → is_early d.phase ≡ false → is_tuned d.phase ≡ false → Agrees limit d
done limit d a b = record { early = λ e. absurd (clash a e); tuned = λ e. absurd (clash b e) }
  where
    clash : {x : Bool} → x ≡ false → x ≡ true → ⊥
    clash f t = cc

same_phase : (limit : ℕ) (c d : Connection) → d.phase ≡ c.phase → d.limits ≡ c.limits → Agrees limit c → Agrees limit d
same_phase limit c d p l a = record {
  early = λ e. a.early (sym (ap is_early p) ∙ e);
  tuned = λ e. a.tuned (sym (ap is_tuned p) ∙ e) ∙ sym (ap (λ (x : Limits). x.frame_max) l);
}

only_same : (limit : ℕ) (c d : Connection) → OnlyChannels c d → Agrees limit c → Agrees limit d
only_same limit c d o a = same_phase limit c d (phase_only o) (limits_only o) a

closes : (limit : ℕ) (c : Connection) → Agrees limit c → Agrees limit (close c)
unfolding is_early is_tuned
closes limit c a = by c.phase refl
  where
    by : (p : Phase91) → c.phase ≡ p → Agrees limit (record (close c) { phase = closing_phase p })
    by phase.Header e = done limit _ refl refl
    by x e = done limit _ refl refl

pub running_tuned : (p : Phase91) → is_running p ≡ true → is_tuned p ≡ true
unfolding is_tuned
running_tuned phase.Running e = refl
running_tuned x e = absurd cc

-- ---- a unit of the client

unit_agrees : (limit : ℕ) (c : Connection) (u : Unit91) (x : machine.Step) → Outcome c u x → Agrees limit c → Agrees (limit_after limit x.0 x.1) x.0
unfolding is_early is_tuned
unit_agrees limit c u x (Greets e) a = record { early = λ f. a.early (ap is_early e); tuned = λ f. absurd cc }
unit_agrees limit c u x (Parts e) a = done limit _ refl refl
unit_agrees limit c u x (LogsIn m r e) a = record { early = λ f. a.early (ap is_early e); tuned = λ f. absurd cc }
unit_agrees limit c u x (Tunes limits e) a = record { early = λ f. absurd cc; tuned = λ f. refl }
unit_agrees limit c u x Passes a = a
unit_agrees limit c u x (Refuses r asked k b o) a = done limit _ refl refl
unit_agrees limit c u x (Declines r d o run b) a = closes limit d (only_same limit c d o a)
unit_agrees limit c u x (Drops r d o run b) a = only_same limit c d o a
unit_agrees limit c u x (Parting run) a = done limit _ refl refl
unit_agrees limit c u x (Asking n m run) a = a
unit_agrees limit c u x (Closes e) a = done limit _ refl refl
unit_agrees limit c u x (Answers e) a = done limit _ refl refl
unit_agrees limit c u x y a = record { early = a.early; tuned = a.tuned }

-- the limit falls by none
pub limit_grows : (limit : ℕ) (c : Connection) (u : Unit91) (x : machine.Step) → Outcome c u x → Agrees limit c → AreWithin x.0.limits → limit ≤ limit_after limit x.0 x.1
unfolding is_early is_tuned
limit_grows limit c u x (Tunes limits e) a w =
    let least : limit ≡ FRAME_MIN_SIZE = a.early (ap is_early e) in
    let some : FRAME_MIN_SIZE ≤ limits.frame_max = w.frame_min in
    omega (arith, least, some)
limit_grows limit c u x y a w = omega arith

-- the frames of a publish that is taken up are within it
abbrev AreNewFit : ℕ → Option (List (List ℕ)) → Type 0
AreNewFit l None = Unit {0}
AreNewFit l (Some back) = AreFit l back

new_fit : (limit n : ℕ) (c : Connection) (u : Unit91) (x : machine.Step) → Outcome c u x → Agrees limit c → AreWithin x.0.limits
    → AreNewFit (limit_after limit x.0 x.1) (back_wanted x.0.limits.frame_max n x.1)
new_fit limit n c u x (Publishes k m d run) a w = by (k == n)
  where
    same : limit ≡ c.limits.frame_max
    same = a.tuned (running_tuned c.phase run)

    least : 8 ≤ c.limits.frame_max
    least = let some : FRAME_MIN_SIZE ≤ c.limits.frame_max = w.frame_min in omega (arith, some)

    by : (b : Bool) → AreNewFit limit (if b then Some (back_of c.limits.frame_max k m (message_of m d)) else None)
    by true = subst (λ (l : ℕ). AreFit l (back_of c.limits.frame_max k m (message_of m d))) (sym same) (back_fits c.limits.frame_max k m (message_of m d) least)
    by false = tt
new_fit limit n c u x y a w = tt

-- ---- all steps

agrees_if : (limit : ℕ) (b : Bool) (p q : Peers) → Agrees limit p.client → Agrees limit q.client → Agrees limit (if b then p else q).client
agrees_if limit true p q a e = a
agrees_if limit false p q a e = e

close_agrees : (limit : ℕ) (b : Bool) (c : Connection) → Agrees limit c → Agrees limit (close_if b c)
close_agrees limit true c a = closes limit c a
close_agrees limit false c a = a

ended_agrees : (limit : ℕ) (c : Connection) → Agrees limit (after_ended c)
unfolding is_early is_tuned
ended_agrees limit c = done limit _ refl refl

opened_agrees : (limit most : ℕ) (c : Connection) → is_opening c ≡ true → Agrees limit c → Agrees limit (after_opened most c)
unfolding is_early is_tuned
opened_agrees limit most c e a = record {
  early = λ f. absurd (let runs : is_early (after_opened most c).phase ≡ false = ap is_early (opened_runs most c e) in let wrong : true ≡ false = sym f ∙ runs in cc);
  tuned = λ f. a.tuned (ap is_tuned (opening_phase c e));
}

meaning_agrees : (limit : ℕ) (m : Meaning) (x : Peers) → Agrees limit x.client → Agrees limit (peers_by m x).client
meaning_agrees limit ten.Nothing x a = a
meaning_agrees limit ten.Init x a = a
meaning_agrees limit ten.AmqpHeader x a = a
meaning_agrees limit ten.Opened x a = by (is_opening x.client) refl
  where
    by : (b : Bool) → is_opening x.client ≡ b → Agrees limit (if b then after_opened (channel_max_in x.container) x.client else x.client)
    by true e = opened_agrees limit (channel_max_in x.container) x.client e a
    by false e = a
meaning_agrees limit (ten.OfSession g q payload) x a =
    conn_cases (λ (d : Connection). Agrees limit d) g q payload x a (closes limit x.client a) (only_same limit x.client _ (only_closing g x.client) a)
meaning_agrees limit (ten.Closed e) x a = closes limit x.client a
meaning_agrees limit ten.Refused x a = closes limit x.client a
meaning_agrees limit (ten.Violation why) x a = closes limit x.client a

-- what a unit of the client makes of the limit
abbrev pub Within : Type 0
Within = (h : List Step) → AreWithin (connection h).limits

came_agrees : (h : List Step) (u : Unit91) → Agrees (limit_in h) (connection h) → Agrees (limit_in (Came u ∷ h)) (connection (Came u ∷ h))
came_agrees h u a = by (ran_out_in h)
  where
    by : (b : Bool) → Agrees (if b then limit_in h else limit_after (limit_in h) (client_step (routes_in h) (paths_in h) (connection h) u).0 (client_step (routes_in h) (paths_in h) (connection h) u).1)
        (if b then peers h else peers_came (peers h) u).client
    by true = a
    by false = unit_agrees (limit_in h) (connection h) u (client_step (routes_in h) (paths_in h) (connection h) u) (outcome (routes_in h) (paths_in h) (connection h) u) a

pub agrees : (h : List Step) → ArePicks h → Agrees (limit_in h) (connection h)
unfolding is_early is_tuned
agrees [] p = record { early = λ e. refl; tuned = λ e. absurd cc }
agrees (Began site n ms ∷ h) p = record { early = λ e. ap limit_in p.0; tuned = λ e. absurd cc }
agrees (Moment ms ∷ h) p = close_agrees (limit_in h) (is_limit_reached (connection h) (accepted_in h) ms) (connection h) (agrees h p.1)
agrees (Fed Client ∷ h) p = agrees h p.1
agrees (Silent Client ∷ h) p = ended_agrees (limit_in h) (connection h)
agrees (Silent Up ∷ h) p = closes (limit_in h) (connection h) (agrees h p.1)
agrees (Came u ∷ h) p = came_agrees h u (agrees h p.1)
agrees (TakenUp ∷ h) p = agrees_if (limit_in h) _ _ (peers h) (ended_agrees (limit_in h) (connection h)) (agrees h p.1)
agrees (Heard u ∷ h) p =
    agrees_if (limit_in h) (ran_out_in h) (peers h) (peers_heard (peers h) u) (agrees h p.1) (meaning_agrees (limit_in h) (meaning_by (peers h).container u) _ (agrees h p.1))
agrees (Joined link.Failed ∷ h) p = closes (limit_in h) (connection h) (agrees h p.1)
agrees (Lost Up loss.Ended ∷ h) p = closes (limit_in h) (connection h) (agrees h p.1)
agrees (Lost Up loss.Failed ∷ h) p = closes (limit_in h) (connection h) (agrees h p.1)
agrees (Gave (ToClient u) text ∷ h) p = only_same (limit_in h) (connection h) _ (only_given u (connection h)) (agrees h p.1)
agrees (Whole Client ∷ h) p = agrees h p.1
agrees (OutOfMemory ∷ h) p = closes (limit_in h) (connection h) (agrees h p.1)
agrees (s ∷ h) p = agrees h p.1

-- ---- so are all that were taken up

came_fits : Within → (h : List Step) (u : Unit91) (n number : ℕ) → ArePicks h → AreFit (limit_in h) (back_in n number h)
    → AreFit (limit_in (Came u ∷ h)) (back_in n number (Came u ∷ h))
came_fits within h u n number p old = by (ran_out_in h) (opens_channel n h (Came u)) (within (Came u ∷ h))
  where
    x : machine.Step
    x = client_step (routes_in h) (paths_in h) (connection h) u

    o : Outcome (connection h) u x
    o = outcome (routes_in h) (paths_in h) (connection h) u

    limit : ℕ
    limit = limit_after (limit_in h) x.0 x.1

    joined : (new : Option (List (List ℕ))) (this : Bool) → AreNewFit limit new → limit_in h ≤ limit → AreFit limit (back_by new this (back_in n number h))
    joined None this f le = fit_more (limit_in h) limit (back_in n number h) le old
    joined (Some back) true f le = f
    joined (Some back) false f le = fit_more (limit_in h) limit (back_in n number h) le old

    by : (out opens : Bool) → AreWithin (if out then peers h else peers_came (peers h) u).client.limits
        → AreFit (if out then limit_in h else limit)
        (if opens then [] else back_by (if out then None else back_wanted x.0.limits.frame_max n x.1) (number == publishes_in n h + 1) (back_in n number h))
    by out true w = tt
    by true false w = old
    by false false w =
        joined (back_wanted x.0.limits.frame_max n x.1) (number == publishes_in n h + 1)
        (new_fit (limit_in h) n (connection h) u x o (agrees h p) w) (limit_grows (limit_in h) (connection h) u x o (agrees h p) w)

pub backs_fit : Within → (n number : ℕ) (h : List Step) → ArePicks h → AreFit (limit_in h) (back_in n number h)
backs_fit within n number [] p = tt
backs_fit within n number (Came u ∷ h) p = came_fits within h u n number p.1 (backs_fit within n number h p.1)
backs_fit within n number (Gave (ToClient u) text ∷ h) p = backs_fit within n number h p.1
backs_fit within n number (s ∷ h) p = backs_fit within n number h p.1
