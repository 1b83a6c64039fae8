-- What the rows of the table ask of a message of AMQP 1.0 (3.2): of a message that was read, and of
-- what is kept of its bytes. A section that isn't there says nothing.
use Rattle.std.specs.Prelude.{◌≡◌, ◌≤◌, ◌<◌, ◌^◌, ℕ, Bool, List, Option, Some, None, IfSome}
use Rattle.std.specs.Prelude.{option_map, unwrap_or, if◌then◌else◌, ℤ, ⊤}
use Rattle.types_10.specs.Tree.{Tree, scalar, list, depth}
use Rattle.types_10.specs.Tree as value
use Rattle.types_10.specs.Ranges.{IsRanged}
use Rattle.types_10.specs.View.{value_tree}
use Rattle.types_10.specs.Fields.{absent, is_absent, maybe, tree_at}
use Rattle.sections_10.specs.View.{Kept}
use Rattle.sections_10.specs.Writing.{IfThere}
use Rattle.sections_10.specs.declared.message.Body10.{Body10}
use Rattle.sections_10.specs.declared.message.Message10.{Message10}
use Rattle.sections_10.specs.declared.message.MsgProps.{MsgProps}
use Rattle.property_map.specs.Rows091.{header_in, properties_in}

-- fields of the header and of the properties, annotations, properties of the application, the body
pub record Facts : Type 0 where
  pub durable : Option Bool
  pub priority : Option ℕ
  pub ttl : Option ℕ
  pub delivery_count : ℕ
  pub message_id : Option Tree
  pub user_id : Option (List ℕ)
  pub subject : Option (List ℕ)
  pub reply_to : Option (List ℕ)
  pub correlation_id : Option Tree
  pub content_type : Option (List ℕ)
  pub content_encoding : Option (List ℕ)
  pub creation_time : Option ℤ
  pub annotations : Option Tree
  pub application : Option Tree
  pub body : Body10

-- ---- of a message

abbrev pub facts_of : Message10 → Facts
facts_of m = record {
  durable = (header_in m.header).durable;
  priority = (header_in m.header).priority;
  ttl = (header_in m.header).ttl;
  delivery_count = (header_in m.header).delivery_count;
  message_id = option_map value_tree (properties_in m.properties).message_id;
  user_id = (properties_in m.properties).user_id;
  subject = (properties_in m.properties).subject;
  reply_to = (properties_in m.properties).reply_to;
  correlation_id = option_map value_tree (properties_in m.properties).correlation_id;
  content_type = (properties_in m.properties).content_type;
  content_encoding = (properties_in m.properties).content_encoding;
  creation_time = (properties_in m.properties).creation_time;
  annotations = option_map value_tree m.annotations;
  application = option_map value_tree m.application;
  body = m.body;
}

-- ---- of what is kept of bytes

-- the field of a section at this place (3.2.1 and 3.2.4)
abbrev pub field_at : ℕ → Option Tree → Tree
field_at k (Some (list ts)) = tree_at ts k
field_at k o = absent

abbrev pub boolean_in : Tree → Option Bool
boolean_in (scalar (value.boolean b)) = Some b
boolean_in t = None

-- an ubyte or an uint
abbrev pub number_in : Tree → Option ℕ
number_in (scalar (value.ubyte n)) = Some n
number_in (scalar (value.uint n)) = Some n
number_in t = None

abbrev pub time_in : Tree → Option ℤ
time_in (scalar (value.timestamp z)) = Some z
time_in t = None

-- a binary, a string or a symbol
abbrev pub text_in : Tree → Option (List ℕ)
text_in (scalar (value.binary s)) = Some s
text_in (scalar (value.string s)) = Some s
text_in (scalar (value.symbol s)) = Some s
text_in t = None

-- an id, which is absent where it is null
abbrev pub id_in : Tree → Option Tree
id_in t = if is_absent t then None else Some t

abbrev pub facts_in : Kept → Facts
facts_in k = record {
  durable = boolean_in (field_at 0 k.header);
  priority = number_in (field_at 1 k.header);
  ttl = number_in (field_at 2 k.header);
  delivery_count = unwrap_or (number_in (field_at 4 k.header)) 0;
  message_id = id_in (field_at 0 k.properties);
  user_id = text_in (field_at 1 k.properties);
  subject = text_in (field_at 3 k.properties);
  reply_to = text_in (field_at 4 k.properties);
  correlation_id = id_in (field_at 5 k.properties);
  content_type = text_in (field_at 6 k.properties);
  content_encoding = text_in (field_at 7 k.properties);
  creation_time = time_in (field_at 9 k.properties);
  annotations = k.annotations;
  application = k.application;
  body = k.body;
}

-- properties with their ids as bytes tell them: these tell no null from what isn't there
pub record AreTold (p q : MsgProps) : Type 0 where
  pub message_id : option_map value_tree q.message_id ≡ id_in (maybe value_tree p.message_id)
  pub correlation_id :
      option_map value_tree q.correlation_id ≡ id_in (maybe value_tree p.correlation_id)
  pub others : record q { message_id = None; correlation_id = None }
      ≡ record p { message_id = None; correlation_id = None }

abbrev pub AreToldOf : Option MsgProps → Option MsgProps → Type 0
AreToldOf (Some p) (Some q) = AreTold p q
AreToldOf None None = ⊤
AreToldOf p q = ⊥

-- ---- what is true of each message that was read

-- the numbers that become texts are of their types, and so are the sixteen bytes of a uuid
pub record AreRanged (f : Facts) : Type 0 where
  pub ttl : IfSome f.ttl (λ n. n < 2 ^ 32)
  pub message_id : IfThere IsRanged f.message_id
  pub correlation_id : IfThere IsRanged f.correlation_id

-- no value is deeper than a table may be (AMQP 0-9-1 4.2.5.5)
pub record AreShallow (f : Facts) : Type 0 where
  pub annotations : IfThere (λ t. depth t ≤ 16) f.annotations
  pub application : IfThere (λ t. depth t ≤ 16) f.application
