-- What keeps a statement of the links of a life, by the attaches and flows that went and came, to be true after each event.
use Rattle.std.proofs.Common.{◌≡◌, ℕ, ◌+◌, ◌%◌, ◌^◌, ◌==◌, List, [], ◌∷◌, ◌++◌, Bool, true, false, if◌then◌else◌, Option, Some, None}
use Rattle.std.specs.Prelude.{find}
use Rattle.std.specs.List.{AllByRecursion}
use Rattle.link_table.specs.Table.{HandleTable}
use Rattle.publish_path.specs.Links.{can_send, link_of}
use Rattle.publish_path.specs.declared.publish.NextFrame.{NextFrame}
use Rattle.session_path.specs.Due.{next_attach, next_flow}
use Rattle.session_path.specs.Events as event
use Rattle.session_path.specs.Events.{PathEvent, after_event, after_events}
use Rattle.session_path.specs.Links.{LinksState, attach_fault, handle_at, has_number}
use Rattle.session_path.specs.Path.{PathState, granting}
use Rattle.session_path.specs.declared.path.AttachDue.{AttachDue}
use Rattle.session_path.specs.declared.path.AttachHeard.{AttachHeard}
use Rattle.session_path.specs.declared.path.FlowDue.{FlowDue}
use Rattle.session_path.specs.declared.path.PathLink.{PathLink}
use Rattle.session_path.proofs.Fresh.{AreFresh}
use Rattle.session_path.proofs.Tied.{Tied, tied_after}
use Rattle.gate_model.specs.Hears.{asked_as}
use Rattle.gate_model.specs.LinkCredits.{Answered, Asked, Begun, Detached, Flowed, LinkStep, Told, credit_by}
use Rattle.gate_model.proofs.LinkCredits.{AreDistinct}

-- an event that no fold over them sees
abbrev pub is_mute : PathEvent → Bool
is_mute (event.AttachCame attach) = false
is_mute (event.FlowCame peer count credit drain echo) = false
is_mute (event.DetachCame peer not_found) = false
is_mute (event.AttachSent name) = false
is_mute event.LinkFlowSent = false
is_mute (event.TransferSent frame count) = false
is_mute x = true

-- the delivery-count that a flow states
abbrev pub count_of : FlowDue → ℕ
count_of d = if d.drains then (d.count + d.credit) % 2 ^ 32 else d.count

-- no link was asked for under this name
abbrev pub IsNewName : ℕ → List LinkStep → Type 0
IsNewName name xs = (m link : ℕ) → asked_as m xs ≡ Some link → (name == m) ≡ false

pub record Rules (P : List LinkStep → LinksState → Type 0) : Type 0 where
  pub none : (xs : List LinkStep) (t : HandleTable) → P xs (record { sending = []; links = []; handles = t })
  pub mute : (xs : List LinkStep) (x : PathEvent) (s : PathState) → is_mute x ≡ true → Tied s.links → P xs s.links → P xs (after_event x s).links
  pub came : (xs : List LinkStep) (a : AttachHeard) (s : PathState) → Tied s.links → AreDistinct (λ k. credit_by k xs) → attach_fault a.name a.role a.peer s.links ≡ None → P xs s.links
      → P (Answered a.name a.peer ∷ xs) (after_event (event.AttachCame a) s).links
  pub flow_came : (xs : List LinkStep) (peer : ℕ) (count : Option ℕ) (credit : ℕ) (drain echo : Bool) (s : PathState) → Tied s.links → P xs s.links
      → P (Flowed peer count credit ∷ xs) (after_event (event.FlowCame peer count credit drain echo) s).links
  pub detach_came : (xs : List LinkStep) (peer : ℕ) (not_found : Bool) (s : PathState) → Tied s.links → P xs s.links
      → P (Detached peer ∷ xs) (after_event (event.DetachCame peer not_found) s).links
  pub attach_sent : (xs : List LinkStep) (name : ℕ) (a : AttachDue) (s : PathState) → Tied s.links → IsNewName name xs → next_attach s ≡ Some a → P xs s.links
      → P (Asked a.link a.handle name a.receives ∷ xs) (after_event (event.AttachSent name) s).links
  pub flow_sent : (xs : List LinkStep) (d : FlowDue) (s : PathState) → Tied s.links → AreFresh s.links
      → ((l k : PathLink) → granting s ≡ Some l → find (has_number l.link) s.links.links ≡ Some k → k.receives ≡ true) → next_flow s ≡ Some d → P xs s.links
      → P (Told d.link d.handle (count_of d) ∷ xs) (after_event event.LinkFlowSent s).links
  pub first_sent : (xs : List LinkStep) (frame : NextFrame) (count : ℕ) (s : PathState) → Tied s.links → frame.first ≡ true → can_send (link_of s.links.sending frame.link) ≡ true → P xs s.links
      → P (Begun (handle_at frame.link s.links.links) ∷ xs) (after_event (event.TransferSent frame count) s).links
  pub later_sent : (xs : List LinkStep) (frame : NextFrame) (count : ℕ) (s : PathState) → frame.first ≡ false → P xs s.links → P xs (after_event (event.TransferSent frame count) s).links

pub all_mute : (P : List LinkStep → LinksState → Type 0) → Rules P → (life : ℕ) (xs : List LinkStep) (ys es : List PathEvent) → AllByRecursion (λ x. is_mute x ≡ true) ys
    → P xs (after_events life es).links → P xs (after_events life (ys ++ es)).links
all_mute P r life xs [] es m all = all
all_mute P r life xs (y ∷ ys) es m all = r.mute xs y (after_events life (ys ++ es)) m.0 (tied_after life (ys ++ es)) (all_mute P r life xs ys es m.1 all)
