-- The handles of a session's links, by the attaches and the detaches that went: a fold that knows no
-- state. A link has a handle of the gateway from its attach to its detach (AMQP 1.0 2.6.2, 2.6.4).
use Rattle.std.specs.Prelude.{◌≡◌, ℕ, ◌==◌, if◌then◌else◌, List, [], ◌∷◌, Option, None, Some}
use Rattle.gate_model.specs.Publishing.{opens_channel}
use Rattle.gate_model.specs.State.{Gave, Step}
use Rattle.gate_model.specs.declared.channel.SessionUnit.{SessionUnit}
use Rattle.gate_model.specs.declared.channel.SessionUnit.TheVariants as unit
use Rattle.gate_model.specs.declared.outgoing.Outgoing.TheVariants.{ToUp}
use Rattle.gate_model.specs.declared.outgoing.UpUnit.{UpUnit}
use Rattle.gate_model.specs.declared.outgoing.UpUnit.TheVariants as up

-- of the link with number k
abbrev pub handle_by : ℕ → SessionUnit → Option ℕ → Option ℕ
handle_by k (unit.Attach a) old = if k == a.link then Some a.handle else old
handle_by k (unit.Detach link handle why) old = if k == link then None else old
handle_by k u old = old

-- in the session of channel n
abbrev pub handle_up : ℕ → ℕ → UpUnit → Option ℕ → Option ℕ
handle_up n k (up.OnSession m u) old = if m == n then handle_by k u old else old
handle_up n k u old = old

abbrev pub handle_step : ℕ → ℕ → Step → Option ℕ → Option ℕ
handle_step n k (Gave (ToUp u) text) old = handle_up n k u old
handle_step n k s old = old

-- none has one at the channel's opening
abbrev pub handle_in : ℕ → ℕ → List Step → Option ℕ
handle_in n k [] = None
handle_in n k (s ∷ h) =
    if opens_channel n h s then None else handle_step n k s (handle_in n k h)

-- a flow, a transfer and a detach go under the handle of their link; and no attach under one that a
-- link of the session has (2.6.3, 2.7.3, 2.7.4, 2.7.5, 2.7.7)
abbrev pub MayName : List Step → UpUnit → Type 0
MayName h (up.OnSession n (unit.Attach a)) = (k : ℕ) → handle_in n k h ≡ Some a.handle → ⊥
MayName h (up.OnSession n (unit.Flow f)) = handle_in n f.link h ≡ Some f.handle
MayName h (up.OnSession n (unit.Transfer t)) = handle_in n t.frame.link h ≡ Some t.handle
MayName h (up.OnSession n (unit.Detach link handle why)) = handle_in n link h ≡ Some handle
MayName h u = Unit {0}

-- each that went did
abbrev pub NamesItsHandles : List Step → Type 0
NamesItsHandles [] = Unit {0}
NamesItsHandles (Gave (ToUp u) text ∷ h) = MayName h u × NamesItsHandles h
NamesItsHandles (s ∷ h) = NamesItsHandles h
