-- The fields of properties (AMQP 1.0 3.2.4) in three parts, as they are read: the first five rows,
-- the next five and the last three.
use Rattle.std.specs.Prelude.{List, [], ◌∷◌, take, drop}
use Rattle.types_10.specs.Tree.{Tree}
use Rattle.types_10.specs.View.{value_tree}
use Rattle.types_10.specs.Fields.{maybe, a_uint, a_timestamp, a_binary, a_string, a_symbol}
use Rattle.sections_10.specs.Fields.{Row}
use Rattle.sections_10.specs.Rows.{properties_rows}
use Rattle.sections_10.specs.declared.properties.Route.{Route}
use Rattle.sections_10.specs.declared.properties.Content.{Content}
use Rattle.sections_10.specs.declared.properties.Group.{Group}

abbrev pub route_rows : List Row
route_rows = take 5 properties_rows

abbrev pub content_rows : List Row
content_rows = take 5 (drop 5 properties_rows)

abbrev pub group_rows : List Row
group_rows = drop 10 properties_rows

abbrev pub route_fields : Route → List Tree
route_fields r =
    maybe value_tree r.message_id
    ∷ maybe a_binary r.user_id
    ∷ maybe a_string r.to
    ∷ maybe a_string r.subject
    ∷ maybe a_string r.reply_to
    ∷ []

abbrev pub content_fields : Content → List Tree
content_fields c =
    maybe value_tree c.correlation_id
    ∷ maybe a_symbol c.content_type
    ∷ maybe a_symbol c.content_encoding
    ∷ maybe a_timestamp c.absolute_expiry_time
    ∷ maybe a_timestamp c.creation_time
    ∷ []

abbrev pub group_fields : Group → List Tree
group_fields g =
    maybe a_string g.group_id
    ∷ maybe a_uint g.group_sequence
    ∷ maybe a_string g.reply_to_group_id
    ∷ []
