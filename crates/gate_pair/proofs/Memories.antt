-- A pair knows whether its entries say that it ran out of memory.
use Rattle.std.proofs.Common.{◌≡◌, ◌∙◌, ℕ, Bool, true, false, if◌then◌else◌, List, [], ◌∷◌, ◌++◌}
use Rattle.std.proofs.Common.{length, nat_lt, Option, None, Some, refl, ap}
use Rattle.gate_outside.specs.declared.ports.End.{End}
use Rattle.gate_outside.specs.declared.ports.End.TheVariants.{Client, Up}
use Rattle.gate_outside.specs.declared.ports.Linked.{Linked}
use Rattle.gate_outside.specs.declared.ports.Linked.TheVariants as link
use Rattle.gate_relay.specs.declared.loss.Loss.{Loss}
use Rattle.gate_relay.specs.declared.loss.Loss.TheVariants as loss
use Rattle.gate_relay.specs.declared.sides.Side.TheVariants as side
use Rattle.gate_relay.specs.Entries as entry
use Rattle.gate_relay.specs.Entries.{Entry, is_out_of_memory}
use Rattle.gate_model.specs.declared.outgoing.Outgoing.{Outgoing}
use Rattle.gate_model.specs.declared.outgoing.Outgoing.TheVariants.{ToClient, ToUp}
use Rattle.gate_model.specs.Due.{is_busy, pick}
use Rattle.gate_model.specs.Paths.{told_paths}
use Rattle.gate_model.specs.Setup.{SetupText}
use Rattle.gate_model.specs.State as state
use Rattle.gate_model.specs.State.{State, Step, Lost, before, step}
use Rattle.gate_model.specs.Upstream.{shut_by}
use Rattle.gate_pair.specs.Cutting.{after}
use Rattle.gate_pair.specs.Meaning.{begins, ends, given, state_of, steps_of, told}
use Rattle.gate_pair.specs.PairStates.{PairState, Represents, Said}
use Rattle.gate_pair.proofs.Saids.{after_before}
use Rattle.gate_pair.proofs.Taken.{all_leave, fail_leaves, fresh_taken, lost_leaves, silent_leaves}
use Rattle.gate_pair.proofs.Ticks.{tick_keeps}

lost_memory : (w : State) (end : End) (how : Loss) → (step w (Lost end how)).out_of_memory ≡ w.out_of_memory
lost_memory w Client loss.Ended = refl
lost_memory w Client loss.Failed = refl
lost_memory w Client loss.Shut = refl
lost_memory w Up loss.Ended = (lost_leaves side.Ended w).memory_is
lost_memory w Up loss.Failed = (lost_leaves side.Failed w).memory_is
lost_memory w Up loss.Shut = refl

joined_memory : (w : State) (answer : Linked) → (step w (state.Joined answer)).out_of_memory ≡ w.out_of_memory
joined_memory w link.Ok = refl
joined_memory w link.Failed = (fail_leaves _ None (record w { up = shut_by w.up; paths = told_paths w.paths })).memory_is

begins_memory : (w : State) (h : List Step) (b : Bool) (o : Option Outgoing) → (before ((if b then [] else given w o) ++ h)).out_of_memory ≡ (before h).out_of_memory
begins_memory w h true o = refl
begins_memory w h false None = refl
begins_memory w h false (Some (ToClient u)) = refl
begins_memory w h false (Some (ToUp u)) = refl

ends_memory : (end : End) (h g : List Step) (b : Bool) → (before (((if b then [] else state.Whole end ∷ []) ++ g) ++ h)).out_of_memory ≡ (before (g ++ h)).out_of_memory
ends_memory end h g true = refl
ends_memory Client h g false = refl
ends_memory Up h g false = refl

took_memory : (end : End) (h : List Step) (n : ℕ) (bytes : List ℕ) → (before ((ends end n bytes ++ begins end (before h)) ++ h)).out_of_memory ≡ (before h).out_of_memory
took_memory end h n bytes =
    ends_memory end h (begins end (before h)) (nat_lt n (length bytes)) ∙ begins_memory (before h) h (is_busy (before h) end) (pick (before h) end)

-- steps that an entry brings, which out of memory can take back
fresh_memory : (s : SetupText) (e : Entry) (h : List Entry) (g : List Step) → (told s (e ∷ h)).past ≡ g → (before g).out_of_memory ≡ is_out_of_memory h
    → (state_of s (e ∷ h)).out_of_memory ≡ is_out_of_memory h
fresh_memory s e h g past m =
    let t = told s (e ∷ h) in
    ap (λ (w : State). w.out_of_memory) (after_before t.fresh t.past ∙ ap (λ (k : List Step). after t.fresh (before k)) past)
    ∙ (all_leave t.fresh (before g) (fresh_taken s (e ∷ h))).memory_is ∙ m

pub memory_of : (s : SetupText) (h : List Entry) → (state_of s h).out_of_memory ≡ is_out_of_memory h
memory_of s [] = refl
memory_of s (entry.Began p ms ∷ h) = memory_of s h
memory_of s (entry.Refused ∷ h) = refl
memory_of s (entry.Moment ms ∷ h) =
    tick_keeps (λ (g : List Step). (before g).out_of_memory) (λ end g. (silent_leaves end (before g)).memory_is) ms (told s h) ∙ memory_of s h
memory_of s (entry.Came Client bytes ∷ h) = fresh_memory s (entry.Came Client bytes) h (state.Fed Client ∷ steps_of s h) refl (memory_of s h)
memory_of s (entry.Came Up bytes ∷ h) = fresh_memory s (entry.Came Up bytes) h (state.Fed Up ∷ steps_of s h) refl (memory_of s h)
memory_of s (entry.Dry end ∷ h) = memory_of s h
memory_of s (entry.Settled ∷ h) = fresh_memory s entry.Settled h (state.LinesTold ∷ steps_of s h) refl (memory_of s h)
memory_of s (entry.Joined answer ∷ h) = joined_memory (state_of s h) answer ∙ memory_of s h
memory_of s (entry.Took Client bytes n ∷ h) = took_memory Client (steps_of s h) n bytes ∙ memory_of s h
memory_of s (entry.Took Up bytes n ∷ h) = took_memory Up (steps_of s h) n bytes ∙ memory_of s h
memory_of s (entry.Stuck end bytes ∷ h) = memory_of s h
memory_of s (entry.Lost end how ∷ h) = lost_memory (state_of s h) end how ∙ memory_of s h
memory_of s (entry.OutOfMemory cut ∷ h) = refl
memory_of s (entry.Over ∷ h) = memory_of s h

pub memory_is : (s : SetupText) (p : PairState) (h : List Entry) → Represents s p h → p.bridge.state.out_of_memory ≡ is_out_of_memory h
memory_is s p h r = ap (λ (x : Said). x.state.out_of_memory) r ∙ memory_of s h
