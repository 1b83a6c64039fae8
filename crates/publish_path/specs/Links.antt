-- The sending links of a channel, in the order in which they were needed.
use Rattle.std.specs.Prelude.{ℕ, Bool, true, false, not, ◌==◌, ◌&&◌, nat_le, if◌then◌else◌, List}
use Rattle.std.specs.Prelude.{[], filter, find, Option, Some, None, bytes_eq}
use Rattle.links_10.specs.Send.{new_link, after_flow, after_begun, after_drain}
use Rattle.publish_path.specs.declared.send_links.SendingLink.{SendingLink}
use Rattle.publish_path.specs.declared.send_links.LinkChange.{LinkChange}
use Rattle.publish_path.specs.declared.send_links.LinkChange.TheVariants.{Attached, Flowed, Drained}
use Rattle.publish_path.specs.declared.send_links.LinkChange.TheVariants.{Begun}

abbrev pub has_number : ℕ → SendingLink → Bool
has_number link l = l.link == link

abbrev pub has_address : List ℕ → SendingLink → Bool
has_address address l = bytes_eq l.address address

abbrev pub link_of : List SendingLink → ℕ → Option SendingLink
link_of links link = find (has_number link) links

abbrev pub link_to : List SendingLink → List ℕ → Option SendingLink
link_to links address = find (has_address address) links

-- the address of a link's target; empty where there is no such link
abbrev pub address_in : Option SendingLink → List ℕ
address_in None = []
address_in (Some l) = l.address

abbrev pub address_of : List SendingLink → ℕ → List ℕ
address_of links link = address_in (link_of links link)

-- attached, with credit for a transfer
abbrev pub can_send : Option SendingLink → Bool
can_send None = false
can_send (Some l) = l.attached && nat_le 1 l.state.credit

-- a link that was asked for, and isn't attached yet
abbrev pub asked_link : ℕ → List ℕ → SendingLink
asked_link link address =
    record { link = link; address = address; attached = false; state = new_link }

-- the container's attach was read
abbrev pub now_attached : ℕ → SendingLink → SendingLink
now_attached link l = record l { attached = if has_number link l then true else l.attached }

-- a flow of the container
abbrev pub flowed : ℕ → Option ℕ → ℕ → SendingLink → SendingLink
flowed link count credit l =
    record l { state = if has_number link l then after_flow count credit l.state else l.state }

-- a flow of the gateway that answers a drain
abbrev pub drained : ℕ → SendingLink → SendingLink
drained link l = record l { state = if has_number link l then after_drain l.state else l.state }

-- the first frame of a transfer takes one of the credit
abbrev pub begun_on : ℕ → SendingLink → SendingLink
begun_on link l =
    record l {
      state = if has_number link l && nat_le 1 l.state.credit
          then after_begun l.state else l.state;
    }

abbrev pub link_changed : ℕ → LinkChange → SendingLink → SendingLink
link_changed link Attached l = now_attached link l
link_changed link (Flowed count credit) l = flowed link count credit l
link_changed link Drained l = drained link l
link_changed link Begun l = begun_on link l

abbrev pub without : ℕ → List SendingLink → List SendingLink
without link links = filter (λ l. not (has_number link l)) links
