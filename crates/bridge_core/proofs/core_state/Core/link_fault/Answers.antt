use Rattle.std.proofs.Common.{◌∙◌, refl}
use Rattle.bridge_core.proofs.LinkFaults.{attach_link, detach_link, flow_link, transfer_link}
use Rattle.bridge_core.proofs.core_state.Core.link_fault.Goals as goal

pub returns-in-Attach : goal.returns-in-Attach
returns-in-Attach c = c.attach_fault.ensures c.args.payload.now ∙ attach_link _ _ _ _ _ c.in-Attach.is

pub returns-in-Some : goal.returns-in-Some
returns-in-Some c = c.unattached.ensures ∙ flow_link _ _ _ _ _ _ c.in-Flow.is c.in-Some.is

pub returns-in-Transfer : goal.returns-in-Transfer
returns-in-Transfer c = c.transfer_fault.ensures c.args.payload.now refl ∙ transfer_link _ _ _ _ _ c.in-Transfer.is

pub returns-in-Detach : goal.returns-in-Detach
returns-in-Detach c = c.unattached-in-Detach.ensures ∙ detach_link _ _ _ _ _ c.in-Detach.is
