-- The credit of the links of a session, by what went and what came: a fold that knows no state. A
-- link has a handle of the gateway from its attach on (AMQP 1.0 2.6.2, 2.6.7).
use Rattle.std.specs.Prelude.{◌≡◌, ℕ, ◌==◌, ◌≤◌, ◌^◌, ◌&&◌, Bool, true, false, not, if◌then◌else◌}
use Rattle.std.specs.Prelude.{List, [], ◌∷◌, ◌++◌}
use Rattle.std.specs.Prelude.{Option, None, Some, is_some}
use Rattle.std.specs.Option.{option_map}
use Rattle.links_10.specs.Send.{advanced, left_of, or_initial}
use Rattle.machine_10.specs.Parts.{Parts}
use Rattle.machine_10.specs.Reading.{field, number_at, number_in}
use Rattle.machine_10.specs.Transitions as ten
use Rattle.machine_10.specs.Transitions.{Meaning}
use Rattle.gate_model.specs.declared.channel.SessionUnit.{SessionUnit}
use Rattle.gate_model.specs.declared.channel.SessionUnit.TheVariants as unit
use Rattle.gate_model.specs.declared.outgoing.Outgoing.TheVariants.{ToUp}
use Rattle.gate_model.specs.declared.outgoing.UpUnit.{UpUnit}
use Rattle.gate_model.specs.declared.outgoing.UpUnit.TheVariants as up
use Rattle.gate_model.specs.Folds.{container, ran_out_in}
use Rattle.gate_model.specs.Paths.{credit_of, name_in, text_of}
use Rattle.gate_model.specs.Repeats.{attaches_in}
use Rattle.gate_model.specs.Session.{is_of_session}
use Rattle.gate_model.specs.State.{Gave, Heard, Step}
use Rattle.gate_model.specs.Upstream.{meaning_by}

pub data LinkStep : Type 0 where
  -- the gateway's attach of the link with this number went, with this handle, this number in its
  -- name, and its role (2.7.3)
  Asked : (link handle name : ℕ) (receives : Bool) → LinkStep
  -- the container's attach under this name came, with its own handle
  Answered : (name peer : ℕ) → LinkStep
  -- its flow on the link with this handle of it came, with its delivery-count and link-credit
  -- (2.7.4)
  Flowed : (peer : ℕ) (count : Option ℕ) (credit : ℕ) → LinkStep
  -- its detach of that link came (2.7.7)
  Detached : (peer : ℕ) → LinkStep
  -- the first frame of a transfer went
  Begun : (handle : ℕ) → LinkStep
  -- a flow of the gateway on that link went, with its delivery-count
  Told : (link handle count : ℕ) → LinkStep

pub record Credit : Type 0 where
  -- the number of the link, and that in its name
  pub link : ℕ
  pub name : ℕ
  -- the gateway attached it as a receiver
  pub receives : Bool
  -- the container's handle of the link, once its attach came
  pub peer : Option ℕ
  -- its detach came
  pub ended : Bool
  -- the delivery-count and the link-credit of its last flow
  pub stated : ℕ
  pub credit : ℕ
  -- the gateway's delivery-count: that of its attach or its last flow, and one more for each
  -- delivery that went since
  pub count : ℕ

-- what is left: the container's delivery-count with its link-credit, less the gateway's
-- delivery-count, by serial numbers (2.6.7; RFC 1982)
abbrev pub left : Credit → ℕ
left c = left_of c.stated c.credit c.count

-- the gateway's attach states the delivery-count 0; it has no credit before a flow
abbrev pub new_credit : ℕ → ℕ → Bool → Credit
new_credit link name receives = record {
  link = link;
  name = name;
  receives = receives;
  peer = None;
  ended = false;
  stated = 0;
  credit = 0;
  count = 0;
}

-- an attach under its name answers it once
abbrev pub answered : ℕ → ℕ → Credit → Credit
answered name peer c =
    if c.name == name && not (is_some c.peer) then record c { peer = Some peer } else c

abbrev pub is_peer : ℕ → Option ℕ → Bool
is_peer peer None = false
is_peer peer (Some p) = p == peer

-- what a flow states takes the place of the old; none comes behind the container's detach (2.6.6)
abbrev pub flowed : ℕ → Option ℕ → ℕ → Credit → Credit
flowed peer count credit c =
    if is_peer peer c.peer && not c.ended
    then record c { stated = or_initial count; credit = credit } else c

abbrev pub detached : ℕ → Credit → Credit
detached peer c = if is_peer peer c.peer then record c { ended = true } else c

abbrev pub begun : Credit → Credit
begun c = record c { count = advanced c.count 1 }

-- a flow of the gateway that gives credit back states a count past it; none goes before both
-- attached
abbrev pub told : ℕ → ℕ → Credit → Credit
told link count c =
    if c.link == link && is_some c.peer then record c { count = count } else c

-- of the link that has this handle: each attach with it begins anew
abbrev pub after_step : ℕ → LinkStep → Option Credit → Option Credit
after_step h (Asked link k name receives) o =
    if k == h then Some (new_credit link name receives) else o
after_step h (Answered name peer) o = option_map (answered name peer) o
after_step h (Flowed peer count credit) o = option_map (flowed peer count credit) o
after_step h (Detached peer) o = option_map (detached peer) o
after_step h (Begun k) o = if k == h then option_map begun o else o
after_step h (Told link k count) o = if k == h then option_map (told link count) o else o

-- newest first
abbrev pub credit_by : ℕ → List LinkStep → Option Credit
credit_by h [] = None
credit_by h (x ∷ xs) = after_step h x (credit_by h xs)

-- ---- by the steps

-- a unit of the gateway: an attach, a flow, or the first frame of a transfer
abbrev pub given_step : SessionUnit → List LinkStep
given_step (unit.Attach a) = Asked a.link a.handle a.name a.receives ∷ []
given_step (unit.Flow f) = Told f.link f.handle f.count ∷ []
given_step (unit.Transfer t) = if t.frame.first then Begun t.handle ∷ [] else []
given_step (unit.Dispose x) = []
given_step (unit.Settle x) = []
given_step (unit.Detach link handle why) = []

-- a performative of the container: an attach under the name of a link, or a flow on one or
-- a detach of it
abbrev pub answer_step : Option ℕ → ℕ → List LinkStep
answer_step None peer = []
answer_step (Some name) peer = Answered name peer ∷ []

abbrev pub heard_step : Parts → List LinkStep
heard_step p =
    if p.0 == 18 then answer_step (name_in (text_of (field p.1 0))) (number_at p.1 1)
    else if p.0 == 19 && not (is_of_session p.1) then
    Flowed (number_at p.1 4) (number_in (field p.1 5)) (credit_of (number_in (field p.1 6))) ∷ []
    else if p.0 == 22 then Detached (number_at p.1 0) ∷ []
    else []

-- those of the session of channel n
abbrev pub meaning_step : ℕ → Meaning → List LinkStep
meaning_step n (ten.OfSession k p payload) = if k == n then heard_step p else []
meaning_step n m = []

abbrev pub up_step : ℕ → UpUnit → List LinkStep
up_step n (up.OnSession k u) = if k == n then given_step u else []
up_step n u = []

-- nothing that comes counts after the pair ran out of memory
abbrev pub link_step : ℕ → List Step → Step → List LinkStep
link_step n h (Heard u) =
    if ran_out_in h then [] else meaning_step n (meaning_by (container h) u)
link_step n h (Gave (ToUp u) text) = up_step n u
link_step n h s = []

abbrev pub link_steps : ℕ → List Step → List LinkStep
link_steps n [] = []
link_steps n (s ∷ h) = link_step n h s ++ link_steps n h

-- a transfer begins on a link only where the steps before it leave that a credit of one (AMQP 1.0
-- 2.6.7), while no two attaches have one name: up to 2^64 of them
pub record HasCredit (xs : List LinkStep) (handle : ℕ) : Type 0 where
  pub credit : Credit
  pub is : credit_by handle xs ≡ Some credit
  pub some : 1 ≤ left credit

abbrev pub MayBegin : List Step → UpUnit → Type 0
MayBegin h (up.OnSession n (unit.Transfer t)) =
    t.frame.first ≡ true → attaches_in h ≤ 2 ^ 64 → HasCredit (link_steps n h) t.handle
MayBegin h u = Unit {0}

-- so does each that went
abbrev pub CreditIsKept : List Step → Type 0
CreditIsKept [] = Unit {0}
CreditIsKept (Gave (ToUp u) text ∷ h) = MayBegin h u × CreditIsKept h
CreditIsKept (s ∷ h) = CreditIsKept h
