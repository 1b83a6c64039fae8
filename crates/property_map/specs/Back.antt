-- What comes back of a message that crosses to AMQP 1.0 and back (AMQP 0-9-1 1.8 and 4.2.5; AMQP
-- 1.0 3.2).
use Rattle.std.specs.Prelude.{◌≡◌, ℕ, ◌≤◌, List, Option, Some, None, length, ⊤}
use Rattle.std.specs.List.Sorted.{IsPermutation}
use Rattle.tables_091.specs.Tree.{Tree, members_of}
use Rattle.tables_091.specs.Writing.{MembersNamesAreShort}
use Rattle.content_091.specs.declared.header.Props.{Props}
use Rattle.property_map.specs.Rows091.{header_len, body_max}
use Rattle.property_map.specs.declared.message.Message091.{Message091}

-- a text that isn't there, or is short
abbrev pub IsShortText : Option (List ℕ) → Type 0
IsShortText None = ⊤
IsShortText (Some s) = length s ≤ 255

-- headers that aren't there, or whose names are short, also inside
abbrev pub HasShortNames : Option (List (List ℕ × Tree)) → Type 0
HasShortNames None = ⊤
HasShortNames (Some ms) = MembersNamesAreShort (members_of ms)

pub record AreShort (p : Props) : Type 0 where
  pub content_type : IsShortText p.content_type
  pub content_encoding : IsShortText p.content_encoding
  pub headers : HasShortNames p.headers
  pub correlation_id : IsShortText p.correlation_id
  pub reply_to : IsShortText p.reply_to
  pub message_id : IsShortText p.message_id
  pub kind : IsShortText p.kind
  pub user_id : IsShortText p.user_id
  pub app_id : IsShortText p.app_id
  pub cluster_id : IsShortText p.cluster_id

-- a message that can be sent on: its texts and names are short, its header fits the room, and its
-- body isn't too long
pub record Fits (room : ℕ) (m : Message091) : Type 0 where
  pub exchange : length m.exchange ≤ 255
  pub key : length m.key ≤ 255
  pub props : AreShort m.props
  pub header : header_len m.props ≤ room
  pub body : length m.body ≤ body_max

-- the same headers in any order: no two of them have one name, so they are the same map
abbrev pub AreSameHeaders : Option (List (List ℕ × Tree)) → Option (List (List ℕ × Tree)) → Type 0
AreSameHeaders None None = ⊤
AreSameHeaders None (Some ns) = ⊥
AreSameHeaders (Some ms) None = ⊥
AreSameHeaders (Some ms) (Some ns) = IsPermutation ms ns

-- the same message, with its headers in any order
pub record IsSame (m n : Message091) : Type 0 where
  pub exchange : m.exchange ≡ n.exchange
  pub key : m.key ≡ n.key
  pub headers : AreSameHeaders m.props.headers n.props.headers
  pub others : record m.props { headers = None } ≡ record n.props { headers = None }
  pub body : m.body ≡ n.body
