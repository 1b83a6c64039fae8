-- The delivery-count and the link-credit that a flow of a sending link states, by the fold over the
-- steps: the gateway's count never goes back, and credit that it gives back counts as used.
use Rattle.std.specs.Prelude.{◌≡◌, ℕ, ◌≤◌, ◌<◌, ◌^◌, false, List, [], ◌∷◌, Some}
use Rattle.links_10.specs.Send.{advanced}
use Rattle.gate_model.specs.declared.channel.LinkFlow.{LinkFlow}
use Rattle.gate_model.specs.declared.channel.SessionUnit.TheVariants as unit
use Rattle.gate_model.specs.declared.outgoing.Outgoing.TheVariants.{ToUp}
use Rattle.gate_model.specs.declared.outgoing.UpUnit.{UpUnit}
use Rattle.gate_model.specs.declared.outgoing.UpUnit.TheVariants as up
use Rattle.gate_model.specs.LinkCredits.{Credit, LinkStep, credit_by, left, link_steps}
use Rattle.gate_model.specs.Repeats.{attaches_in}
use Rattle.gate_model.specs.State.{Gave, Step}

-- no more of the credit than is left, and all of it where the container's link-credit is a uint
-- (AMQP 1.0 1.6.5, 2.7.4)
abbrev pub IsLeft : Credit → ℕ → Type 0
IsLeft c n = (n ≤ left c) × (c.credit < 2 ^ 32 → n ≡ left c)

-- a flow states the deliveries that went as its count, and the credit that is left; or it gives that
-- credit back, and its count is past it (2.6.7)
pub data IsStated (c : Credit) (f : LinkFlow) : Type 0 where
  Keeps : f.count ≡ c.count → IsLeft c f.credit → IsStated c f
  GivesBack : (given : ℕ) → IsLeft c given → f.count ≡ advanced c.count given → f.credit ≡ 0
      → IsStated c f

-- so it is of a link that the gateway attached as a sender
pub record Counts (xs : List LinkStep) (f : LinkFlow) : Type 0 where
  pub credit : Credit
  pub is : credit_by f.handle xs ≡ Some credit
  pub stated : credit.receives ≡ false → IsStated credit f

-- while no two attaches have one name: up to 2^64 of them
abbrev pub MayCount : List Step → UpUnit → Type 0
MayCount h (up.OnSession n (unit.Flow f)) = attaches_in h ≤ 2 ^ 64 → Counts (link_steps n h) f
MayCount h u = Unit {0}

-- so does each that went
abbrev pub CountsAreKept : List Step → Type 0
CountsAreKept [] = Unit {0}
CountsAreKept (Gave (ToUp u) text ∷ h) = MayCount h u × CountsAreKept h
CountsAreKept (s ∷ h) = CountsAreKept h
