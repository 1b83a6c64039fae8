-- What is kept of a message's bytes tells the rows what the message does.
use Rattle.std.proofs.Common.{◌≡◌, ℕ, ◌≤◌, Bool, true, false, cond, List, Option, Some, None, Result, Ok, Err}
use Rattle.std.proofs.Common.{ℤ, refl, ap, subst}
use Rattle.wire_base.proofs.Laws.{ok_is}
use Rattle.types_10.specs.Tree.{Tree, scalar, list, mapping, array, described, depth}
use Rattle.types_10.specs.declared.value.Value10.{Value10}
use Rattle.types_10.specs.Fields.{maybe, a_boolean, a_ubyte, a_uint, a_timestamp, a_binary}
use Rattle.types_10.specs.Fields.{a_string, a_symbol}
use Rattle.types_10.proofs.Depths.{value_depth}
use Rattle.sections_10.specs.Grammar.{IsMaybeAt, IsMessage}
use Rattle.sections_10.specs.Reading.{map_with, meaning_in, keys_are}
use Rattle.sections_10.specs.Rows.{Section, message_section, application_section}
use Rattle.sections_10.specs.View.{Kept, kept_of}
use Rattle.sections_10.specs.Writing.{IfThere}
use Rattle.sections_10.specs.declared.message.MsgHeader.{MsgHeader}
use Rattle.sections_10.specs.declared.message.MsgProps.{MsgProps}
use Rattle.sections_10.specs.declared.message.Body10.{Body10}
use Rattle.sections_10.specs.declared.message.Message10.{Message10}
use Rattle.property_map.specs.Facts.{facts_of, facts_in, boolean_in, number_in, time_in}
use Rattle.property_map.specs.Facts.{text_in, AreTold, AreToldOf, AreShallow}

-- ---- fields

boolean_back : (o : Option Bool) → boolean_in (maybe a_boolean o) ≡ o
boolean_back None = refl
boolean_back (Some b) = refl

ubyte_back : (o : Option ℕ) → number_in (maybe a_ubyte o) ≡ o
ubyte_back None = refl
ubyte_back (Some n) = refl

uint_back : (o : Option ℕ) → number_in (maybe a_uint o) ≡ o
uint_back None = refl
uint_back (Some n) = refl

time_back : (o : Option ℤ) → time_in (maybe a_timestamp o) ≡ o
time_back None = refl
time_back (Some z) = refl

binary_back : (o : Option (List ℕ)) → text_in (maybe a_binary o) ≡ o
binary_back None = refl
binary_back (Some s) = refl

string_back : (o : Option (List ℕ)) → text_in (maybe a_string o) ≡ o
string_back None = refl
string_back (Some s) = refl

symbol_back : (o : Option (List ℕ)) → text_in (maybe a_symbol o) ≡ o
symbol_back None = refl
symbol_back (Some s) = refl

-- ---- a message

abbrev message_of : Option MsgHeader → Option Value10 → Option MsgProps → Option Value10 → Body10 → Message10
message_of h a p b body = record { header = h; annotations = a; properties = p; application = b; body = body }

told_of : (h : Option MsgHeader) (a : Option Value10) (p q : MsgProps) (b : Option Value10) (body : Body10) → AreTold p q
    → facts_of (message_of h a (Some q) b body) ≡ facts_in (kept_of (message_of h a (Some p) b body))
told_of None a p q b body t =
    rw (
      t.message_id,
      t.correlation_id,
      binary_back p.user_id,
      string_back p.subject,
      string_back p.reply_to,
      symbol_back p.content_type,
      symbol_back p.content_encoding,
      time_back p.creation_time,
      ap (λ (o : MsgProps). o.user_id) t.others,
      ap (λ (o : MsgProps). o.subject) t.others,
      ap (λ (o : MsgProps). o.reply_to) t.others,
      ap (λ (o : MsgProps). o.content_type) t.others,
      ap (λ (o : MsgProps). o.content_encoding) t.others,
      ap (λ (o : MsgProps). o.creation_time) t.others,
    ) refl
told_of (Some h) a p q b body t =
    rw (
      boolean_back h.durable,
      ubyte_back h.priority,
      uint_back h.ttl,
      t.message_id,
      t.correlation_id,
      binary_back p.user_id,
      string_back p.subject,
      string_back p.reply_to,
      symbol_back p.content_type,
      symbol_back p.content_encoding,
      time_back p.creation_time,
      ap (λ (o : MsgProps). o.user_id) t.others,
      ap (λ (o : MsgProps). o.subject) t.others,
      ap (λ (o : MsgProps). o.reply_to) t.others,
      ap (λ (o : MsgProps). o.content_type) t.others,
      ap (λ (o : MsgProps). o.content_encoding) t.others,
      ap (λ (o : MsgProps). o.creation_time) t.others,
    ) refl

bare_of : (h : Option MsgHeader) (a b : Option Value10) (body : Body10) → facts_of (message_of h a None b body) ≡ facts_in (kept_of (message_of h a None b body))
bare_of None a b body = refl
bare_of (Some h) a b body = rw (boolean_back h.durable, ubyte_back h.priority, uint_back h.ttl) refl

pub told : (h : Option MsgHeader) (a : Option Value10) (p q : Option MsgProps) (b : Option Value10) (body : Body10) → AreToldOf p q → facts_of (message_of h a q b body) ≡ facts_in (kept_of (message_of h a p b body))
told h a (Some p) (Some q) b body t = told_of h a p q b body t
told h a None None b body t = bare_of h a b body
told h a (Some p) None b body t = absurd t
told h a None (Some q) b body t = absurd t

-- ---- depth

abbrev no_map : Result Tree (Unit {0})
no_map = Err tt

same_map : (is_key : Tree → Bool) (t x : Tree) → map_with is_key t ≡ Ok x → t ≡ x
unfolding map_with
same_map is_key (mapping ps) x e = at (keys_are is_key ps) e
  where
    at : (b : Bool) → cond b (Ok (mapping ps)) no_map ≡ Ok x → mapping ps ≡ x
    at true e = ok_is {F = Unit {0}} (mapping ps) x e
    at false e = absurd (cc e)
same_map is_key (scalar s) x e = absurd (cc e)
same_map is_key (list ts) x e = absurd (cc e)
same_map is_key (array ts) x e = absurd (cc e)
same_map is_key (described d t) x e = absurd (cc e)

-- a section whose value is a map as it was read
section_shallow : (s : Section) (o : Option Tree) (bytes : List ℕ) (at after : ℕ) → ((t x : Tree) → meaning_in s.1 t ≡ Ok x → t ≡ x) → IsMaybeAt s o bytes at after → IfThere (λ t. depth t ≤ 16) o
section_shallow s None bytes at after same h = tt
section_shallow s (Some x) bytes at after same h = subst (λ (t : Tree). depth t ≤ 16) (same h.0 x h.4) (value_depth h.0 _ h.3.2)

same_annotations : (t x : Tree) → meaning_in message_section.1 t ≡ Ok x → t ≡ x
unfolding meaning_in
same_annotations t x e = same_map _ t x e

same_application : (t x : Tree) → meaning_in application_section.1 t ≡ Ok x → t ≡ x
unfolding meaning_in
same_application t x e = same_map _ t x e

-- values that stand in bytes are no deeper than values may be
pub message_shallow : (k : Kept) (bytes : List ℕ) → IsMessage k bytes → AreShallow (facts_in k)
message_shallow k bytes h =
    let order = h.in_order in
    record {
      annotations =
          subst (λ (o : Option Tree). IfThere (λ t. depth t ≤ 16) o) h.annotations (section_shallow message_section h.sections.annotations bytes order.annotations_from order.properties_from same_annotations order.annotations);
      application =
          subst (λ (o : Option Tree). IfThere (λ t. depth t ≤ 16) o) h.application (section_shallow application_section h.sections.application bytes order.application_from order.body_from same_application order.application);
    }
