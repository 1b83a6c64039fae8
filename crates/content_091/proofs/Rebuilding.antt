-- A header is what its size and its properties make it.
use Rattle.std.proofs.Common.{◌≡◌, ℕ, zero, suc, List, [], ◌∷◌, Option, Some, None, refl, sym, ap}
use Rattle.std.proofs.Common.{◌∙◌}
use Rattle.tables_091.specs.Tree.{Tree}
use Rattle.content_091.specs.Properties.{Property, Properties, Parts}
use Rattle.content_091.specs.Properties as property
use Rattle.content_091.specs.View.{an_octet, a_longlong, a_text, a_table, parts_of}
use Rattle.content_091.specs.declared.header.Header91.{Header91}

-- ---- a value out of a property, of each kind

abbrev octet_of : Option Property → Option ℕ
octet_of None = None
octet_of (Some (property.octet n)) = Some n
octet_of (Some (property.longlong n)) = None
octet_of (Some (property.shortstr s)) = None
octet_of (Some (property.fields ms)) = None

abbrev longlong_of : Option Property → Option ℕ
longlong_of None = None
longlong_of (Some (property.octet n)) = None
longlong_of (Some (property.longlong n)) = Some n
longlong_of (Some (property.shortstr s)) = None
longlong_of (Some (property.fields ms)) = None

abbrev text_of : Option Property → Option (List ℕ)
text_of None = None
text_of (Some (property.octet n)) = None
text_of (Some (property.longlong n)) = None
text_of (Some (property.shortstr s)) = Some s
text_of (Some (property.fields ms)) = None

abbrev table_of : Option Property → Option (List (List ℕ × Tree))
table_of None = None
table_of (Some (property.octet n)) = None
table_of (Some (property.longlong n)) = None
table_of (Some (property.shortstr s)) = None
table_of (Some (property.fields ms)) = Some ms

octet_back : (n : Option ℕ) → octet_of (an_octet n) ≡ n
octet_back None = refl
octet_back (Some n) = refl

longlong_back : (n : Option ℕ) → longlong_of (a_longlong n) ≡ n
longlong_back None = refl
longlong_back (Some n) = refl

text_back : (s : Option (List ℕ)) → text_of (a_text s) ≡ s
text_back None = refl
text_back (Some s) = refl

table_back : (ms : Option (List (List ℕ × Tree))) → table_of (a_table ms) ≡ ms
table_back None = refl
table_back (Some ms) = refl

-- ---- headers

abbrev at : ℕ → Properties → Option Property
at k [] = None
at zero (v ∷ vs) = v
at (suc k) (v ∷ vs) = at k vs

abbrev rebuilt : Parts → Header91
rebuilt p = record {
  size = p.0;
  props = record {
    content_type = text_of (at 0 p.1);
    content_encoding = text_of (at 1 p.1);
    headers = table_of (at 2 p.1);
    delivery_mode = octet_of (at 3 p.1);
    priority = octet_of (at 4 p.1);
    correlation_id = text_of (at 5 p.1);
    reply_to = text_of (at 6 p.1);
    expiration = text_of (at 7 p.1);
    message_id = text_of (at 8 p.1);
    timestamp = longlong_of (at 9 p.1);
    kind = text_of (at 10 p.1);
    user_id = text_of (at 11 p.1);
    app_id = text_of (at 12 p.1);
    cluster_id = text_of (at 13 p.1);
  };
}

rebuilt_is : (h : Header91) → rebuilt (parts_of h) ≡ h
rebuilt_is h =
    let p = h.props in
    rw (
      text_back p.content_type,
      text_back p.content_encoding,
      table_back p.headers,
      octet_back p.delivery_mode,
      octet_back p.priority,
      text_back p.correlation_id,
      text_back p.reply_to,
      text_back p.expiration,
      text_back p.message_id,
      longlong_back p.timestamp,
      text_back p.kind,
      text_back p.user_id,
      text_back p.app_id,
      text_back p.cluster_id,
    ) refl

pub same_parts : (h i : Header91) → parts_of h ≡ parts_of i → h ≡ i
same_parts h i e = sym (rebuilt_is h) ∙ ap rebuilt e ∙ rebuilt_is i
