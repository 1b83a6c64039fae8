-- Texts and times of one protocol in the other (AMQP 0-9-1 4.2.5; AMQP 1.0 1.6): what is made of
-- one, or why nothing is.
use Rattle.std.specs.Prelude.{ℕ, ◌*◌, ◌/◌, nat_le, nat_eq, if◌then◌else◌, Bool, List, Option, Some}
use Rattle.std.specs.Prelude.{None, Ok, Err, Result, ℤ, pos, negsuc, length, codes}
use Rattle.std.specs.Char.{is_ascii}
use Rattle.std.specs.List.{list_all, list_any, starts_with}
use Rattle.std.specs.Str.{is_utf8, bytes_eq}
use Rattle.wire_base.specs.Reading.{◌>>=◌}
use Rattle.property_map.specs.declared.fault.PropName.{PropName}
use Rattle.property_map.specs.declared.fault.MapFault.{MapFault}
use Rattle.property_map.specs.declared.fault.MapFault.TheVariants as fault

-- a text that becomes a string: it is UTF-8
abbrev pub string_in : PropName → List ℕ → Result (List ℕ) MapFault
string_in name s = if is_utf8 s then Ok s else Err (fault.NotUtf8 name)

-- a text that becomes a symbol: it is ASCII
abbrev pub symbol_in : PropName → List ℕ → Result (List ℕ) MapFault
symbol_in name s = if list_all is_ascii s then Ok s else Err (fault.NotAscii name)

-- the last second that has a number of milliseconds below 2^63
abbrev pub last_second : ℕ
last_second = 9223372036854775

-- seconds as milliseconds
abbrev pub milliseconds_in : PropName → ℕ → Result ℤ MapFault
milliseconds_in name n = if nat_le n last_second then Ok (pos (1000 * n)) else Err (fault.Time name)

-- a text that becomes a short string: it has at most 255 bytes
abbrev pub short_in : PropName → List ℕ → Result (List ℕ) MapFault
short_in name s = if nat_le (length s) 255 then Ok s else Err (fault.TooLong name)

-- milliseconds as seconds, rounded down; a time before 1970 has none
abbrev pub seconds_in : PropName → ℤ → Result ℕ MapFault
seconds_in name (pos n) = Ok (n / 1000)
seconds_in name (negsuc n) = Err (fault.Time name)

-- what may be absent
abbrev pub maybe_in : {A B : Type 0} → (A → Result B MapFault) → Option A
    → Result (Option B) MapFault
maybe_in row None = Ok None
maybe_in row (Some x) = row x >>= λ y. Ok (Some y)

-- a text is one of these
abbrev pub is_among : List ℕ → List (List ℕ) → Bool
is_among s texts = list_any (λ t. bytes_eq t s) texts

-- a name after these, of which it is none
abbrev pub new_in : List (List ℕ) → List ℕ → Result (List ℕ) MapFault
new_in before name = if is_among name before then Err (fault.Repeated name) else Ok name

-- a name that stands for what has no other place in AMQP 1.0
abbrev pub is_reserved : List ℕ → Bool
is_reserved s = starts_with nat_eq s (codes "x-opt-091-")
