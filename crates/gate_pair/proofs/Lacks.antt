-- The rows of what is due on channels to a container hold no other unit.
use Rattle.std.proofs.Common.{◌≡◌, ℕ, Bool, true, false, ◌&&◌, map, List, [], ◌∷◌, ◌++◌, Option}
use Rattle.std.proofs.Common.{None, Some, refl, ap, ◌∙◌}
use Rattle.gate_model.specs.declared.channel.SessionUnit.{SessionUnit}
use Rattle.gate_model.specs.declared.life.Life.{Life}
use Rattle.gate_model.specs.declared.outgoing.Outgoing.TheVariants.{ToUp}
use Rattle.gate_model.specs.declared.outgoing.UpUnit.{UpUnit}
use Rattle.gate_model.specs.declared.outgoing.UpUnit.TheVariants as up
use Rattle.gate_model.specs.Due.{attaches, begins, carried_rows, detaches, disposals, ends}
use Rattle.gate_model.specs.Due.{is_end_due, link_flows, row_on, session_flows, session_rows}
use Rattle.gate_model.specs.Due.{settlings, transfers, unless_out}
use Rattle.gate_model.specs.Lives.{each, is_carried, is_free, session_in}
use Rattle.gate_model.specs.Session.{is_flow_owed}
use Rattle.gate_model.specs.State.{State}
use Rattle.gate_model.specs.Upstream.{first, when_up}
use Rattle.machine_10.specs.declared.state.Upstream.{Upstream}
use Rattle.gate_model.proofs.Connections.{clash}
use Rattle.gate_model.proofs.Rows.{first_each}

abbrev pub is_on_channel : UpUnit → Bool
is_on_channel up.SaslHeader = false
is_on_channel up.SaslInit = false
is_on_channel up.AmqpHeader = false
is_on_channel up.Open = false
is_on_channel (up.Close why) = false
is_on_channel up.Empty = false
is_on_channel (up.OnSession n u) = true
is_on_channel (up.Flow n i o) = true
is_on_channel (up.Begin n) = true
is_on_channel (up.End n why) = true

-- this unit doesn't go next of these
abbrev pub Lacks : UpUnit → List UpUnit → Type 0
Lacks v us = first us ≡ Some v → ⊥

pub both_lack : (v : UpUnit) (us ws : List UpUnit) → Lacks v us → Lacks v ws → Lacks v (us ++ ws)
both_lack v [] ws f g e = g e
both_lack v (u ∷ us) ws f g e = f e

when_lacks : (v : UpUnit) (b : Bool) (u : UpUnit) → is_on_channel v ≡ false → is_on_channel u ≡ true → Lacks v (when_up b u)
when_lacks v true u off on e = let same : u ≡ v = cc in clash (is_on_channel u) on (ap is_on_channel same ∙ off)
when_lacks v false u off on e = absurd cc

each_lacks : (v : UpUnit) (f : ℕ → Life → List UpUnit) (ls : List Life) → ((k : ℕ) (l : Life) → Lacks v (f k l)) → Lacks v (each f 0 ls)
each_lacks v f ls lacks e = first_each (λ (u : UpUnit). u ≡ v → ⊥) f 0 ls v (λ k l u g same. lacks k l (g ∙ ap Some same)) e refl

row_lacks : {A : Type 0} (v : UpUnit) (c : Option Upstream) (n : ℕ) (o : Option A) (f : A → SessionUnit) → is_on_channel v ≡ false → Lacks v (row_on c n o f)
row_lacks v c n None f off e = absurd cc
row_lacks v c n (Some x) f off e = when_lacks v (is_carried (session_in c n)) (up.OnSession n (f x)) off refl e

pub begins_lack : (v : UpUnit) (w : State) → is_on_channel v ≡ false → Lacks v (begins w)
begins_lack v w off = each_lacks v _ w.lives (λ k l. when_lacks v (l.begin && is_free (session_in w.up.container k)) (up.Begin k) off refl)

pub ends_lack : (v : UpUnit) (closing : Bool) (w : State) → is_on_channel v ≡ false → Lacks v (ends closing w)
ends_lack v closing w off = each_lacks v _ w.lives (λ k l. when_lacks v (is_end_due closing w k) (up.End k l.why) off refl)

pub flows_lack : (v : UpUnit) (w : State) → is_on_channel v ≡ false → Lacks v (session_flows w)
flows_lack v w off = each_lacks v _ w.lives (λ k l. when_lacks v (is_carried (session_in w.up.container k) && is_flow_owed l.session) (up.Flow k _ _) off refl)

carried_lack : (v : UpUnit) (w : State) → is_on_channel v ≡ false → Lacks v (carried_rows w)
carried_lack v w off =
    both_lack v (attaches w) _ (each_lacks v _ w.lives (λ k l. row_lacks v w.up.container k _ _ off))
    (both_lack v (link_flows w) _ (each_lacks v _ w.lives (λ k l. row_lacks v w.up.container k _ _ off))
    (both_lack v (session_flows w) (transfers w) (flows_lack v w off) (each_lacks v _ w.lives (λ k l. row_lacks v w.up.container k _ _ off))))

pub rows_lack : (v : UpUnit) (w : State) → is_on_channel v ≡ false → Lacks v (session_rows w)
rows_lack v w off =
    both_lack v (unless_out w.out_of_memory (carried_rows w)) _ (by w.out_of_memory)
    (both_lack v (disposals w) _ (each_lacks v _ w.lives (λ k l. row_lacks v w.up.container k _ _ off))
    (both_lack v (settlings w) (detaches w) (each_lacks v _ w.lives (λ k l. row_lacks v w.up.container k _ _ off))
    (each_lacks v _ w.lives (λ k l. row_lacks v w.up.container k _ _ off))))
  where
    by : (b : Bool) → Lacks v (unless_out b (carried_rows w))
    by true e = absurd cc
    by false e = carried_lack v w off e

-- of units to a container as of all
pub first_up : (us : List UpUnit) (u : UpUnit) → first (map ToUp us) ≡ Some (ToUp u) → first us ≡ Some u
first_up [] u e = absurd cc
first_up (x ∷ us) u e = let here : x ≡ u = cc in ap Some here
