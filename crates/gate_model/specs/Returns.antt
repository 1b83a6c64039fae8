-- The frames of a basic.return, by which a mandatory publish goes back to its client (AMQP 0-9-1
-- 1.8.3.8): its method, the header of its content, and the body (4.2.6).
use Rattle.std.specs.Prelude.{ℕ, zero, suc, ◌-◌, ◌&&◌, nat_le, Bool, false, if◌then◌else◌, List, []}
use Rattle.std.specs.Prelude.{◌∷◌}
use Rattle.std.specs.Prelude.{take, drop, length, map}
use Rattle.close_translate.specs.Codes.{name_of}
use Rattle.close_translate.specs.declared.codes.TheConstants.{NO_ROUTE}
use Rattle.content_091.specs.Writing.{header_text}
use Rattle.content_091.specs.declared.header.Header91.{Header91}
use Rattle.frames_091.specs.Frames.{frame_text}
use Rattle.frames_091.specs.declared.frame.Kind91.{Kind91}
use Rattle.frames_091.specs.declared.frame.Kind91.TheVariants.{Method, Header, Body}
use Rattle.methods_091.specs.Writing.{method_text}
use Rattle.methods_091.specs.declared.method.Method91.{Method91}
use Rattle.methods_091.specs.declared.method.Method91.TheVariants.{BasicPublish, BasicReturn}
use Rattle.property_map.specs.declared.message.Message091.{Message091}

-- whether it goes back to its client where no queue takes it (AMQP 0-9-1 1.8.3.7)
abbrev pub is_mandatory : Method91 → Bool
is_mandatory (BasicPublish exchange key mandatory immediate) = mandatory
is_mandatory m = false

-- a frame of this kind on channel n
abbrev pub frame_with : Kind91 → ℕ → List ℕ → List ℕ
frame_with kind n payload = frame_text (record { kind = kind; channel = n; payload = payload })

-- no route leads to what the publish named (RabbitMQ's reply code 312)
abbrev pub return_method : Message091 → Method91
return_method m = BasicReturn NO_ROUTE (name_of NO_ROUTE) m.exchange m.key

abbrev pub method_part : ℕ → Message091 → List ℕ
method_part n m = frame_with Method n (method_text (return_method m))

-- the length of the body, and the properties
abbrev pub header_of : Message091 → Header91
header_of m = record { size = length m.body; props = m.props }

abbrev pub header_part : ℕ → Message091 → List ℕ
header_part n m = frame_with Header n (header_text (header_of m))

-- a body in so many pieces at most, each of so many bytes, and the last one perhaps of fewer; an
-- empty body has none
abbrev pub cut_in : ℕ → ℕ → List ℕ → List (List ℕ)
cut_in zero room body = []
cut_in (suc k) room [] = []
cut_in (suc k) room (b ∷ body) =
    take room (b ∷ body) ∷ cut_in k room (drop room (b ∷ body))

abbrev pub pieces : ℕ → List ℕ → List (List ℕ)
pieces room body = cut_in (length body) room body

abbrev pub body_parts : ℕ → ℕ → List ℕ → List (List ℕ)
body_parts limit n body = map (frame_with Body n) (pieces (limit - 8) body)

-- a frame within the limit of its client
abbrev pub is_within : ℕ → List ℕ → Bool
is_within limit frame = nat_le (length frame) limit

-- a method and a header can't be cut: those that came in frames within the limit are so themselves
abbrev pub return_parts : ℕ → ℕ → Message091 → List (List ℕ)
return_parts limit n m =
    if is_within limit (method_part n m) && is_within limit (header_part n m)
    then method_part n m ∷ header_part n m ∷ body_parts limit n m.body else []

-- those of a publish, where its client takes frames of so many bytes; none where it isn't mandatory
abbrev pub back_of : ℕ → ℕ → Method91 → Message091 → List (List ℕ)
back_of limit n method m = if is_mandatory method then return_parts limit n m else []
