-- There are 256 paths, and what a performative of no channel of these closes doesn't rest on its session.
use Rattle.std.proofs.Common.{◌≡◌, ◌⊎◌, ◌<◌, ◌≤◌, ℕ, zero, suc, ◌==◌, Bool, true, false, List, [], ◌∷◌}
use Rattle.std.proofs.Common.{length, map, option_map, ◌+◌, Option, None, Some, refl, sym, ap, ◌∙◌, subst, arith, inl, inr}
use Rattle.std.proofs.Common.{if◌then◌else◌, not, ◌&&◌, ◌||◌}
use Rattle.gate_outside.specs.declared.ports.End.TheVariants.{Client, Up}
use Rattle.gate_outside.specs.declared.ports.Linked.TheVariants as link
use Rattle.gate_relay.specs.declared.loss.Loss.TheVariants as loss
use Rattle.close_translate.specs.declared.conditions.Scope.{Scope}
use Rattle.close_translate.specs.declared.conditions.Scope.TheVariants as scope
use Rattle.machine_091.specs.State.{is_open}
use Rattle.machine_091.specs.declared.unit.Want91.{Want91}
use Rattle.machine_091.specs.declared.unit.Want91.TheVariants as want
use Rattle.machine_10.specs.Parts.{Parts}
use Rattle.machine_10.specs.Reading.{number_at}
use Rattle.machine_10.specs.Transitions as ten
use Rattle.machine_10.specs.Transitions.{Meaning}
use Rattle.methods_091.specs.declared.method.Method91.{Method91}
use Rattle.methods_091.specs.declared.method.Method91.TheVariants as method
use Rattle.performatives_10.specs.declared.condition.Condition.{Condition}
use Rattle.performatives_10.specs.declared.condition.Condition.TheVariants.{UnattachedHandle, WindowViolation}
use Rattle.session_path.specs.Path.{PathState, opened}
use Rattle.gate_model.specs.declared.life.SessionState.{SessionState}
use Rattle.gate_model.specs.declared.outgoing.Outgoing.TheVariants.{ToClient, ToUp}
use Rattle.gate_model.specs.declared.outgoing.UpUnit.{UpUnit}
use Rattle.gate_model.specs.declared.outgoing.UpUnit.TheVariants as up
use Rattle.gate_model.specs.declared.reply.Reply.{Reply}
use Rattle.gate_model.specs.declared.reply.Reply.TheVariants as reply
use Rattle.gate_model.specs.declared.setup.Route.{Route}
use Rattle.gate_model.specs.Folds.{Peers, carried_on, ended_on, leaving_in, paths_in, peers_parted}
use Rattle.gate_model.specs.Folds.{peers, peers_by, peers_came, peers_closed, peers_heard, peers_left, peers_scoped, ran_out_in, scope_in}
use Rattle.gate_model.specs.Lives.{is_of_channel}
use Rattle.gate_model.specs.Paths.{attach_fault_by, closed_path, closed_paths, fault_in, field_error, has_left, is_attached, is_receiver}
use Rattle.gate_model.specs.Paths.{ended_path, lost_path, or_no_path, path_at, slot_at, with_path}
use Rattle.gate_model.specs.Session.{has_room, is_of_session}
use Rattle.gate_model.specs.Folds.{connection}
use Rattle.gate_model.specs.State.{is_later, Began, Came, Fed, Gave, Heard, Joined, Lost, OutOfMemory}
use Rattle.gate_model.specs.State.{Queued, Silent, Step, TakenUp, Whole, attach_scope, closing_code}
use Rattle.gate_model.specs.State.{link_scope, path_heard, paths_by, paths_given, paths_given_up}
use Rattle.gate_model.specs.State.{paths_with, paths_wrote, transfer_scope, unattached}
use Rattle.gate_model.specs.Upstream.{container_by, meaning_by}
use Rattle.gate_model.proofs.Basics.{below_or_not}
use Rattle.gate_model.proofs.Slots.{map_long, none_long, set_long}

-- ---- the paths are as many after each step

abbrev Long : List (Option PathState) → Type 0
Long ps = length ps ≡ 256

with_many : (n : ℕ) (f : PathState → PathState) (ps : List (Option PathState)) → Long ps → Long (with_path n f ps)
with_many n f ps e = set_long ps n _ ∙ e

each_many : (f : PathState → PathState) (ps : List (Option PathState)) → Long ps → Long (map (option_map f) ps)
each_many f ps e = map_long ps f ∙ e

method_many : (life n : ℕ) (m : Method91) (ps : List (Option PathState)) → Long ps → Long (paths_with life n m ps)
method_many life n method.ChannelOpen ps e = set_long ps n _ ∙ e
method_many life n m ps e = set_long ps n _ ∙ e

want_many : (rs : List Route) (limit life : ℕ) (x : Want91) (ps : List (Option PathState)) → Long ps → Long (paths_by rs limit life x ps)
want_many rs limit life (want.Method n m) ps e = method_many (life + 1) n m ps e
want_many rs limit life (want.Publish n m c) ps e = with_many n _ ps e
want_many rs limit life want.Close ps e = each_many closed_path ps e
want_many rs limit life (want.Refuse r) ps e = by (is_of_channel r)
  where
    by : (b : Bool) → Long (if b then with_path r.channel closed_path ps else closed_paths ps)
    by true = with_many r.channel closed_path ps e
    by false = each_many closed_path ps e
want_many rs limit life x ps e = e

ended_many : (b : Bool) (n : ℕ) (f : PathState → PathState) (p : Peers) → Long p.paths → Long (ended_on b n f p).paths
ended_many true n f p e = with_many n f p.paths e
ended_many false n f p e = e

closed_many : (n : ℕ) (o : Option ℕ) (p : Peers) → Long p.paths → Long (peers_closed n o p).paths
closed_many n None p e = e
closed_many n (Some code) p e = ended_many (is_open p.client n) n closed_path p e

scoped_many : (o : Option Scope) (n : ℕ) (q : Parts) (payload : List ℕ) (p : Peers) → Long p.paths → Long (peers_scoped o n q payload p).paths
scoped_many None n q payload p e = by (q.0 == 17)
  where
    heard : Peers
    heard = record p { paths = with_path n (path_heard p.client.limits.frame_max n q payload) p.paths }

    by : (b : Bool) → Long (if b then heard else peers_closed n (closing_code q payload (path_at p.paths n)) heard).paths
    by true = with_many n _ p.paths e
    by false = closed_many n (closing_code q payload (path_at p.paths n)) heard (with_many n _ p.paths e)
scoped_many (Some scope.Connection) n q payload p e = each_many ended_path p.paths e
scoped_many (Some scope.Channel) n q payload p e = ended_many (is_open p.client n) n closed_path (peers_parted n p) (with_many n lost_path p.paths e)

meaning_many : (m : Meaning) (p : Peers) → Long p.paths → Long (peers_by m p).paths
meaning_many (ten.OfSession g q payload) p e = scoped_many (scope_in p g q payload) g q payload (record p { carried = carried_on g q p.carried }) e
meaning_many (ten.Closed x) p e = each_many ended_path p.paths e
meaning_many ten.Refused p e = each_many ended_path p.paths e
meaning_many (ten.Violation why) p e = each_many ended_path p.paths e
meaning_many x p e = e

reply_many : (u : Reply) (ps : List (Option PathState)) → Long ps → Long (paths_given u ps)
reply_many (reply.OnChannel n u) ps e = with_many n _ ps e
reply_many u ps e = e

up_many : (later : Bool) (u : UpUnit) (ps : List (Option PathState)) → Long ps → Long (paths_given_up later u ps)
up_many later (up.OnSession n u) ps e = with_many n _ ps e
up_many true (up.End n why) ps e = each_many _ ps e
up_many false (up.End n why) ps e = with_many n ended_path _ (each_many _ ps e)
up_many later u ps e = e

wrote_many : (o : Option Reply) (ps : List (Option PathState)) → Long ps → Long (paths_wrote o ps)
wrote_many (Some (reply.OnChannel n u)) ps e = with_many n _ ps e
wrote_many o ps e = e

many_if : (b : Bool) (p x : Peers) → Long p.paths → Long x.paths → Long (if b then p else x).paths
many_if true p x e f = e
many_if false p x e f = f

pub many_paths : (h : List Step) → length (paths_in h) ≡ 256
many_paths [] = none_long
many_paths (Began site n ms ∷ h) = none_long
many_paths (Fed Client ∷ h) = each_many _ (paths_in h) (many_paths h)
many_paths (Silent Client ∷ h) = each_many closed_path (paths_in h) (many_paths h)
many_paths (Silent Up ∷ h) = each_many _ (paths_in h) (many_paths h)
many_paths (Queued u ∷ h) = many_paths h
many_paths (Came u ∷ h) = many_if (ran_out_in h) (peers h) (peers_came (peers h) u) (many_paths h) (want_many _ _ _ _ (paths_in h) (many_paths h))
many_paths (TakenUp ∷ h) =
    many_if (not (ran_out_in h) && leaving_in h) (peers_left (peers h)) (peers h) (each_many closed_path (paths_in h) (many_paths h)) (many_paths h)
many_paths (Heard u ∷ h) =
    many_if (ran_out_in h) (peers h) (peers_heard (peers h) u) (many_paths h)
    (meaning_many (meaning_by (peers h).container u) (record (peers h) { container = container_by (peers h).container u }) (many_paths h))
many_paths (Joined link.Failed ∷ h) = each_many _ _ (each_many _ (paths_in h) (many_paths h))
many_paths (Lost Client how ∷ h) = many_paths h
many_paths (Lost Up loss.Ended ∷ h) = each_many _ _ (each_many _ _ (each_many _ (paths_in h) (many_paths h)))
many_paths (Lost Up loss.Failed ∷ h) = each_many _ _ (each_many _ _ (each_many _ (paths_in h) (many_paths h)))
many_paths (Lost Up loss.Shut ∷ h) = each_many _ _ (each_many _ (paths_in h) (many_paths h))
many_paths (Gave (ToClient u) text ∷ h) = reply_many u (paths_in h) (many_paths h)
many_paths (Gave (ToUp u) text ∷ h) = up_many (is_later (connection h) u) u (paths_in h) (many_paths h)
many_paths (Whole Client ∷ h) = wrote_many _ (paths_in h) (many_paths h)
many_paths (Whole Up ∷ h) = many_paths h
many_paths (OutOfMemory ∷ h) = each_many closed_path (paths_in h) (many_paths h)
many_paths (s ∷ h) = each_many _ (paths_in h) (many_paths h)

-- ---- what a performative closes, where its channel has no path

-- one that names no link, where a transfer must name one
past : (a r : Bool) (o : Option Condition) → r ≡ false
    → transfer_scope (if not a then Some WindowViolation else if not r then Some UnattachedHandle else o) ≡ Some scope.Channel
past true true o e = absurd cc
past true false o e = refl
past false r o e = refl

scope_alone : (q : Parts) (payload : List ℕ) (x y : SessionState) (s : PathState) → (is_receiver (number_at q.1 0) s || has_left (number_at q.1 0) s) ≡ false
    → link_scope q payload x s ≡ link_scope q payload y s
scope_alone q payload x y s none =
    let other : Option Condition = field_error (fault_in q.1 payload s) in
    let names : Bool = is_receiver (number_at q.1 0) s || has_left (number_at q.1 0) s in
    ap closes (past (has_room x) names other none ∙ sym (past (has_room y) names other none))
  where
    closes : Option Scope → Option Scope
    closes o =
        if q.0 == 18 then attach_scope (attach_fault_by q.1 s)
        else if q.0 == 19 && not (is_of_session q.1) then unattached (is_attached (number_at q.1 4) s)
        else if q.0 == 20 then o
        else if q.0 == 22 then unattached (is_attached (number_at q.1 0) s)
        else None

none_beyond : (ps : List (Option PathState)) (n : ℕ) → length ps ≤ n → slot_at ps n ≡ None
none_beyond [] n le = refl
none_beyond (p ∷ ps) zero le = absurd (some le)
  where
    some : length (p ∷ ps) ≤ 0 → ⊥
    some x = omega (arith, x)
none_beyond (p ∷ ps) (suc n) le = none_beyond ps n (omega (arith, le))

-- both sessions of a channel close the same, where there is no such channel or they are one
pub same_scope : (ps : List (Option PathState)) (n : ℕ) (q : Parts) (payload : List ℕ) (x y : SessionState) → length ps ≡ 256 → (n < 256 → x ≡ y)
    → link_scope q payload x (path_at ps n) ≡ link_scope q payload y (path_at ps n)
same_scope ps n q payload x y many same = by (below_or_not n 256)
  where
    by : (n < 256) ⊎ (256 ≤ n) → link_scope q payload x (path_at ps n) ≡ link_scope q payload y (path_at ps n)
    by (inl lt) = ap (λ (s : SessionState). link_scope q payload s (path_at ps n)) (same lt)
    by (inr le) =
        subst (λ (s : PathState). link_scope q payload x s ≡ link_scope q payload y s)
        (ap (λ (o : Option PathState). or_no_path o) (sym (none_beyond ps n (subst (λ (m : ℕ). m ≤ n) (sym many) le))))
        (scope_alone q payload x y (opened 0) refl)
