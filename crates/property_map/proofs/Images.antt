-- What the rows say is the image of a message, and the first row at fault is the first fault.
use Rattle.std.proofs.Common.{◌≡◌, ℕ, List, [], ◌∷◌, Bool, Option, Some, None, ℤ, Result, Ok, Err}
use Rattle.std.proofs.Common.{refl, sym, ap, subst, ◌∙◌}
use Rattle.wire_base.specs.Reading.{◌>>=◌, Stops}
use Rattle.wire_base.specs.declared.stop.Stop.{Stop}
use Rattle.wire_base.specs.declared.stop.Stop.TheVariants as stop
use Rattle.wire_base.proofs.Laws.{ok_is}
use Rattle.wire_base.proofs.FaultLaws.{err_is}
use Rattle.content_091.specs.declared.header.Props.{Props}
use Rattle.sections_10.specs.declared.message.MsgProps.{MsgProps}
use Rattle.sections_10.specs.declared.message.Message10.{Message10}
use Rattle.property_map.specs.Rows.{exchange_row, key_row, content_type_row, content_encoding_row}
use Rattle.property_map.specs.Rows.{headers_row, delivery_mode_row, priority_row}
use Rattle.property_map.specs.Rows.{correlation_id_row, reply_to_row, expiration_row}
use Rattle.property_map.specs.Rows.{message_id_row, timestamp_row, kind_row, user_id_row}
use Rattle.property_map.specs.Rows.{app_id_row, cluster_id_row}
use Rattle.property_map.specs.Image.{HaveProperties, IsImage10, fault_of, first, first_fault}
use Rattle.property_map.specs.Said.{earlier_in, middle_in, later_in, HavePropertiesOf, IsMessageOf}
use Rattle.property_map.specs.Said.{IsStop10}
use Rattle.property_map.specs.declared.fault.MapFault.{MapFault}
use Rattle.property_map.specs.declared.headers.HeaderMaps.{HeaderMaps}
use Rattle.property_map.specs.declared.message.Message091.{Message091}
use Rattle.property_map.specs.declared.rows.Earlier.{Earlier}
use Rattle.property_map.specs.declared.rows.Middle.{Middle}
use Rattle.property_map.specs.declared.rows.Later.{Later}

-- ---- rows one after another

abbrev pub Row : Type 0 → Type 0
Row A = Result A MapFault

abbrev pub five : {A B C D E R : Type 0} → (A → B → C → D → E → R) → Row A → Row B → Row C → Row D → Row E → Row R
five make a b c d e = a >>= λ v. b >>= λ w. c >>= λ x. d >>= λ y. e >>= λ z. Ok (make v w x y z)

-- each said something
pub record Five {A B C D E R : Type 0} (make : A → B → C → D → E → R) (a : Row A) (b : Row B) (c : Row C) (d : Row D) (e : Row E) (r : R) : Type 0 where
  pub v : A
  pub w : B
  pub x : C
  pub y : D
  pub z : E
  pub a_is : a ≡ Ok v
  pub b_is : b ≡ Ok w
  pub c_is : c ≡ Ok x
  pub d_is : d ≡ Ok y
  pub e_is : e ≡ Ok z
  pub made : make v w x y z ≡ r

pub five_said : {A B C D E R : Type 0} (make : A → B → C → D → E → R) (a : Row A) (b : Row B) (c : Row C) (d : Row D) (e : Row E) (r : R) → five make a b c d e ≡ Ok r → Five make a b c d e r
five_said make (Ok v) (Ok w) (Ok x) (Ok y) (Ok z) r h = record { v = v; w = w; x = x; y = y; z = z; a_is = refl; b_is = refl; c_is = refl; d_is = refl; e_is = refl; made = ok_is {F = MapFault} (make v w x y z) r h }
five_said make (Err f) b c d e r h = absurd (cc h)
five_said make (Ok v) (Err f) c d e r h = absurd (cc h)
five_said make (Ok v) (Ok w) (Err f) d e r h = absurd (cc h)
five_said make (Ok v) (Ok w) (Ok x) (Err f) e r h = absurd (cc h)
five_said make (Ok v) (Ok w) (Ok x) (Ok y) (Err f) r h = absurd (cc h)

-- so none of them is at fault
five_pass : {A B C D E R : Type 0} (make : A → B → C → D → E → R) (a : Row A) (b : Row B) (c : Row C) (d : Row D) (e : Row E) (r : R) (rest : List (Option MapFault)) → five make a b c d e ≡ Ok r
    → first (fault_of a ∷ fault_of b ∷ fault_of c ∷ fault_of d ∷ fault_of e ∷ rest) ≡ first rest
five_pass make (Ok v) (Ok w) (Ok x) (Ok y) (Ok z) r rest h = refl
five_pass make (Err f) b c d e r rest h = absurd (cc h)
five_pass make (Ok v) (Err f) c d e r rest h = absurd (cc h)
five_pass make (Ok v) (Ok w) (Err f) d e r rest h = absurd (cc h)
five_pass make (Ok v) (Ok w) (Ok x) (Err f) e r rest h = absurd (cc h)
five_pass make (Ok v) (Ok w) (Ok x) (Ok y) (Err f) r rest h = absurd (cc h)

abbrev Row_err : (R : Type 0) → MapFault → Row R
Row_err R f = Err f

told : {R : Type 0} (g f : MapFault) → Row_err R g ≡ Row_err R f → Some g ≡ Some f
told {R = R} g f h = ap (λ (d : MapFault). Some d) (err_is {A = R} g f h)

-- the first of them that is at fault
five_fails : {A B C D E R : Type 0} (make : A → B → C → D → E → R) (a : Row A) (b : Row B) (c : Row C) (d : Row D) (e : Row E) (f : MapFault) (rest : List (Option MapFault)) → five make a b c d e ≡ Err f
    → first (fault_of a ∷ fault_of b ∷ fault_of c ∷ fault_of d ∷ fault_of e ∷ rest) ≡ Some f
five_fails make (Ok v) (Ok w) (Ok x) (Ok y) (Ok z) f rest h = absurd (cc h)
five_fails {A} {B} {C} {D} {E} {R} make (Err g) b c d e f rest h = told {R = R} g f h
five_fails {A} {B} {C} {D} {E} {R} make (Ok v) (Err g) c d e f rest h = told {R = R} g f h
five_fails {A} {B} {C} {D} {E} {R} make (Ok v) (Ok w) (Err g) d e f rest h = told {R = R} g f h
five_fails {A} {B} {C} {D} {E} {R} make (Ok v) (Ok w) (Ok x) (Err g) e f rest h = told {R = R} g f h
five_fails {A} {B} {C} {D} {E} {R} make (Ok v) (Ok w) (Ok x) (Ok y) (Err g) f rest h = told {R = R} g f h

abbrev six : {A B C D E G R : Type 0} → (A → B → C → D → E → G → R) → Row A → Row B → Row C → Row D → Row E → Row G → Row R
six make a b c d e g = a >>= λ v. five (make v) b c d e g

six_pass : {A B C D E G R : Type 0} (make : A → B → C → D → E → G → R) (a : Row A) (b : Row B) (c : Row C) (d : Row D) (e : Row E) (g : Row G) (r : R) (rest : List (Option MapFault)) → six make a b c d e g ≡ Ok r
    → first (fault_of a ∷ fault_of b ∷ fault_of c ∷ fault_of d ∷ fault_of e ∷ fault_of g ∷ rest) ≡ first rest
six_pass make (Ok v) b c d e g r rest h = five_pass (make v) b c d e g r rest h
six_pass make (Err f) b c d e g r rest h = absurd (cc h)

six_fails : {A B C D E G R : Type 0} (make : A → B → C → D → E → G → R) (a : Row A) (b : Row B) (c : Row C) (d : Row D) (e : Row E) (g : Row G) (f : MapFault) (rest : List (Option MapFault)) → six make a b c d e g ≡ Err f
    → first (fault_of a ∷ fault_of b ∷ fault_of c ∷ fault_of d ∷ fault_of e ∷ fault_of g ∷ rest) ≡ Some f
six_fails make (Ok v) b c d e g f rest h = five_fails (make v) b c d e g f rest h
six_fails {A} {B} {C} {D} {E} {G} {R} make (Err k) b c d e g f rest h = told {R = R} k f h

-- ---- what the rows of a message say

abbrev make_earlier : Option (List ℕ) → Option (List ℕ) → Option (List ℕ) → Option (List ℕ) → Option HeaderMaps → Earlier
make_earlier v w x y z = record { exchange = v; subject = w; content_type = x; content_encoding = y; headers = z }

abbrev make_middle : Option Bool → Option ℕ → Option (List ℕ) → Option (List ℕ) → Option ℕ → Option (List ℕ) → Middle
make_middle u v w x y z = record { durable = u; priority = v; correlation_id = w; reply_to = x; ttl = y; message_id = z }

abbrev make_later : Option ℤ → Option (List ℕ) → Option (List ℕ) → Option (List ℕ) → Option (List ℕ) → Later
make_later v w x y z = record { creation_time = v; kind = w; user_id = x; app_id = y; cluster_id = z }

record AreEarlier (m : Message091) (e : Earlier) : Type 0 where
  exchange : exchange_row m.exchange ≡ Ok e.exchange
  subject : key_row m.key ≡ Ok e.subject
  content_type : content_type_row m.props.content_type ≡ Ok e.content_type
  content_encoding : content_encoding_row m.props.content_encoding ≡ Ok e.content_encoding
  headers : headers_row m.props.headers ≡ Ok e.headers

earlier_said : (m : Message091) (e : Earlier) → earlier_in m ≡ Ok e → AreEarlier m e
earlier_said m e h =
    let f = five_said make_earlier (exchange_row m.exchange) (key_row m.key) (content_type_row m.props.content_type) (content_encoding_row m.props.content_encoding) (headers_row m.props.headers) e h in
    subst (λ (x : Earlier). AreEarlier m x) f.made (record { exchange = f.a_is; subject = f.b_is; content_type = f.c_is; content_encoding = f.d_is; headers = f.e_is })

record AreMiddle (p : Props) (n : Middle) : Type 0 where
  durable : delivery_mode_row p.delivery_mode ≡ Ok n.durable
  priority : priority_row p.priority ≡ Ok n.priority
  correlation_id : correlation_id_row p.correlation_id ≡ Ok n.correlation_id
  reply_to : reply_to_row p.reply_to ≡ Ok n.reply_to
  ttl : expiration_row p.expiration ≡ Ok n.ttl
  message_id : message_id_row p.message_id ≡ Ok n.message_id

middle_said : (p : Props) (n : Middle) → middle_in p ≡ Ok n → AreMiddle p n
middle_said p n h = at (delivery_mode_row p.delivery_mode) refl h
  where
    at : (a : Row (Option Bool)) → delivery_mode_row p.delivery_mode ≡ a
        → six make_middle a (priority_row p.priority) (correlation_id_row p.correlation_id) (reply_to_row p.reply_to) (expiration_row p.expiration) (message_id_row p.message_id) ≡ Ok n → AreMiddle p n
    at (Err f) is h = absurd (cc h)
    at (Ok u) is h =
        let f = five_said (make_middle u) (priority_row p.priority) (correlation_id_row p.correlation_id) (reply_to_row p.reply_to) (expiration_row p.expiration) (message_id_row p.message_id) n h in
        subst (λ (x : Middle). AreMiddle p x) f.made (record { durable = is; priority = f.a_is; correlation_id = f.b_is; reply_to = f.c_is; ttl = f.d_is; message_id = f.e_is })

record AreLater (p : Props) (l : Later) : Type 0 where
  creation_time : timestamp_row p.timestamp ≡ Ok l.creation_time
  kind : kind_row p.kind ≡ Ok l.kind
  user_id : user_id_row p.user_id ≡ Ok l.user_id
  app_id : app_id_row p.app_id ≡ Ok l.app_id
  cluster_id : cluster_id_row p.cluster_id ≡ Ok l.cluster_id

later_said : (p : Props) (l : Later) → later_in p ≡ Ok l → AreLater p l
later_said p l h =
    let f = five_said make_later (timestamp_row p.timestamp) (kind_row p.kind) (user_id_row p.user_id) (app_id_row p.app_id) (cluster_id_row p.cluster_id) l h in
    subst (λ (x : Later). AreLater p x) f.made (record { creation_time = f.a_is; kind = f.b_is; user_id = f.c_is; app_id = f.d_is; cluster_id = f.e_is })

-- ---- the image

abbrev ok : {A : Type 0} → A → Row A
ok x = Ok x

properties_are : (m : Message091) (e : Earlier) (n : Middle) (l : Later) (o : Option MsgProps) → AreEarlier m e → AreMiddle m.props n → AreLater m.props l → HavePropertiesOf e n l o → HaveProperties m o
properties_are m e n l None a b c h = h
properties_are m e n l (Some p) a b c h = record {
  message_id = n.message_id;
  correlation_id = n.correlation_id;
  key_is = a.subject ∙ ap ok (sym h.subject);
  content_type_is = a.content_type ∙ ap ok (sym h.content_type);
  content_encoding_is = a.content_encoding ∙ ap ok (sym h.content_encoding);
  correlation_id_is = b.correlation_id;
  correlation_id_said = h.correlation_id;
  reply_to_is = b.reply_to ∙ ap ok (sym h.reply_to);
  message_id_is = b.message_id;
  message_id_said = h.message_id;
  timestamp_is = c.creation_time ∙ ap ok (sym h.creation_time);
  user_id_is = c.user_id ∙ ap ok (sym h.user_id);
  to_is = h.to;
  expiry_is = h.expiry;
  group_is = h.group_id;
  group_sequence_is = h.group_sequence;
  reply_group_is = h.reply_group;
}

-- a message of what the rows say is the image
pub image_is : (m : Message091) (e : Earlier) (n : Middle) (l : Later) (image : Message10) → earlier_in m ≡ Ok e → middle_in m.props ≡ Ok n → later_in m.props ≡ Ok l → IsMessageOf e n l m.body image → IsImage10 m image
image_is m e n l image earlier middle later h =
    let a = earlier_said m e earlier in
    let b = middle_said m.props n middle in
    let c = later_said m.props l later in
    record {
      header = record {
        durable = n.durable;
        priority = n.priority;
        ttl = n.ttl;
        delivery_mode_is = b.durable;
        priority_is = b.priority;
        expiration_is = b.ttl;
        is = h.header;
      };
      annotations = record {
        exchange = e.exchange;
        kind = l.kind;
        app_id = l.app_id;
        cluster_id = l.cluster_id;
        maps = e.headers;
        exchange_is = a.exchange;
        kind_is = c.kind;
        app_id_is = c.app_id;
        cluster_id_is = c.cluster_id;
        headers_are = a.headers;
        are = h.annotations;
      };
      properties = properties_are m e n l image.properties a b c h.properties;
      application = record { maps = e.headers; headers_are = a.headers; are = h.application };
      body = h.body;
    }

-- ---- the first fault

abbrev later_faults : Props → List (Option MapFault)
later_faults p = fault_of (timestamp_row p.timestamp) ∷ fault_of (kind_row p.kind) ∷ fault_of (user_id_row p.user_id) ∷ fault_of (app_id_row p.app_id) ∷ fault_of (cluster_id_row p.cluster_id) ∷ []

abbrev middle_faults : Props → List (Option MapFault)
middle_faults p =
    fault_of (delivery_mode_row p.delivery_mode) ∷ fault_of (priority_row p.priority) ∷ fault_of (correlation_id_row p.correlation_id) ∷ fault_of (reply_to_row p.reply_to) ∷ fault_of (expiration_row p.expiration)
    ∷ fault_of (message_id_row p.message_id) ∷ later_faults p

pub earlier_fails : (m : Message091) (f : MapFault) → earlier_in m ≡ Err f → first_fault m ≡ Some f
earlier_fails m f h =
    five_fails make_earlier (exchange_row m.exchange) (key_row m.key) (content_type_row m.props.content_type) (content_encoding_row m.props.content_encoding) (headers_row m.props.headers) f (middle_faults m.props) h

earlier_pass : (m : Message091) (e : Earlier) → earlier_in m ≡ Ok e → first_fault m ≡ first (middle_faults m.props)
earlier_pass m e h =
    five_pass make_earlier (exchange_row m.exchange) (key_row m.key) (content_type_row m.props.content_type) (content_encoding_row m.props.content_encoding) (headers_row m.props.headers) e (middle_faults m.props) h

pub middle_fails : (m : Message091) (e : Earlier) (f : MapFault) → earlier_in m ≡ Ok e → middle_in m.props ≡ Err f → first_fault m ≡ Some f
middle_fails m e f earlier h =
    let p = m.props in
    earlier_pass m e earlier
    ∙ six_fails make_middle (delivery_mode_row p.delivery_mode) (priority_row p.priority) (correlation_id_row p.correlation_id) (reply_to_row p.reply_to) (expiration_row p.expiration) (message_id_row p.message_id) f (later_faults p) h

pub later_fails : (m : Message091) (e : Earlier) (n : Middle) (f : MapFault) → earlier_in m ≡ Ok e → middle_in m.props ≡ Ok n → later_in m.props ≡ Err f → first_fault m ≡ Some f
later_fails m e n f earlier middle h =
    let p = m.props in
    earlier_pass m e earlier
    ∙ six_pass make_middle (delivery_mode_row p.delivery_mode) (priority_row p.priority) (correlation_id_row p.correlation_id) (reply_to_row p.reply_to) (expiration_row p.expiration) (message_id_row p.message_id) n (later_faults p) middle
    ∙ five_fails make_later (timestamp_row p.timestamp) (kind_row p.kind) (user_id_row p.user_id) (app_id_row p.app_id) (cluster_id_row p.cluster_id) f [] h

-- the same, as a function answers it
pub earlier_stops : (m : Message091) (e : Stop MapFault) → Stops e (earlier_in m) → IsStop10 m e
earlier_stops m stop.Memory h = tt
earlier_stops m (stop.Fault f) h = earlier_fails m f h

pub middle_stops : (m : Message091) (x : Earlier) (e : Stop MapFault) → earlier_in m ≡ Ok x → Stops e (middle_in m.props) → IsStop10 m e
middle_stops m x stop.Memory earlier h = tt
middle_stops m x (stop.Fault f) earlier h = middle_fails m x f earlier h

pub later_stops : (m : Message091) (x : Earlier) (n : Middle) (e : Stop MapFault) → earlier_in m ≡ Ok x → middle_in m.props ≡ Ok n → Stops e (later_in m.props) → IsStop10 m e
later_stops m x n stop.Memory earlier middle h = tt
later_stops m x n (stop.Fault f) earlier middle h = later_fails m x n f earlier middle h
