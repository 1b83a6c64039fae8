-- How messages are spelled (AMQP 1.0 3.2): which sections stand in bytes, from one offset to
-- another. A section is the byte 00, the code of its descriptor, and a value of its kind, whose
-- depth is counted by itself. Sections stand in the order of the table, each at most once, but for
-- data and sequences; those of a body are of one kind.
use Rattle.std.specs.Prelude.{◌≡◌, ◌≢◌, ◌⊎◌, ℕ, ◌+◌, ◌<◌, List, [], ◌∷◌, length, slice_index}
use Rattle.std.specs.Prelude.{Option, Some, None, Ok}
use Rattle.std.specs.List.{flat_map}
use Rattle.wire_base.specs.Spelling.{StandsAt}
use Rattle.types_10.specs.Tree.{Tree, scalar, ulong}
use Rattle.types_10.specs.Grammar.{IsValue}
use Rattle.sections_10.specs.Rows.{Section, header_section, delivery_section, message_section}
use Rattle.sections_10.specs.Rows.{properties_section, application_section, data_section}
use Rattle.sections_10.specs.Rows.{sequence_section, value_section, footer_section}
use Rattle.sections_10.specs.Reading.{meaning_in, bytes_of, value_body, Sections}
use Rattle.sections_10.specs.View.{Kept}
use Rattle.sections_10.specs.declared.message.Body10.{Body10}
use Rattle.sections_10.specs.declared.message.Body10.TheVariants as body

-- the descriptor of a section: an ulong, in any of its encodings
abbrev pub IsCodeAt : ℕ → List ℕ → ℕ → ℕ → Type 0
IsCodeAt code bytes at after =
    (at < length bytes) × (slice_index bytes at ≡ 0) × StandsAt IsValue (scalar
    (ulong code)) bytes (at + 1) after

-- a section that says this
abbrev pub IsSectionAt : Section → Tree → List ℕ → ℕ → ℕ → Type 0
IsSectionAt s x bytes at after =
    (t : Tree) × (middle : ℕ) × IsCodeAt s.0 bytes at middle × StandsAt IsValue t bytes middle after
    × (meaning_in s.1 t ≡ Ok x)

-- a section that may be there
abbrev pub IsMaybeAt : Section → Option Tree → List ℕ → ℕ → ℕ → Type 0
IsMaybeAt s None bytes at after = after ≡ at
IsMaybeAt s (Some x) bytes at after = IsSectionAt s x bytes at after

-- sections of one kind, one after another
abbrev pub IsRunAt : Section → List Tree → List ℕ → ℕ → ℕ → Type 0
IsRunAt s [] bytes at after = after ≡ at
IsRunAt s (x ∷ xs) bytes at after =
    (middle : ℕ) × IsSectionAt s x bytes at middle × IsRunAt s xs bytes middle after

-- a body: data sections, whose bytes are joined; sequences; or one value
abbrev pub IsBodyAt : Option Body10 → List ℕ → ℕ → ℕ → Type 0
IsBodyAt None bytes at after = after ≡ at
IsBodyAt (Some b) bytes at after =
    ((ts : List Tree) × (ts ≢ []) × IsRunAt data_section ts bytes at after × (b
    ≡ body.Data (flat_map bytes_of ts)))
    ⊎ (((ts : List Tree) × (ts ≢ []) × IsRunAt sequence_section ts bytes at after × (b
    ≡ body.Other))
    ⊎ ((t : Tree) × IsSectionAt value_section t bytes at after × (b ≡ value_body t)))

-- sections in their order, from the front on
pub record AreInOrder (s : Sections) (bytes : List ℕ) : Type 0 where
  pub delivery_from : ℕ
  pub annotations_from : ℕ
  pub properties_from : ℕ
  pub application_from : ℕ
  pub body_from : ℕ
  pub footer_from : ℕ
  pub header : IsMaybeAt header_section s.header bytes 0 delivery_from
  pub delivery : IsMaybeAt delivery_section s.delivery bytes delivery_from annotations_from
  pub annotations : IsMaybeAt message_section s.annotations bytes annotations_from properties_from
  pub properties : IsMaybeAt properties_section s.properties bytes properties_from application_from
  pub application : IsMaybeAt application_section s.application bytes application_from body_from
  pub body : IsBodyAt s.body bytes body_from footer_from
  pub footer : IsMaybeAt footer_section s.footer bytes footer_from s.after

-- a message: such sections fill the bytes, and a body is among them. Annotations of the delivery
-- and the footer are dropped.
pub record IsMessage (k : Kept) (bytes : List ℕ) : Type 0 where
  pub sections : Sections
  pub in_order : AreInOrder sections bytes
  pub fills : sections.after ≡ length bytes
  pub header : sections.header ≡ k.header
  pub annotations : sections.annotations ≡ k.annotations
  pub properties : sections.properties ≡ k.properties
  pub application : sections.application ≡ k.application
  pub body : sections.body ≡ Some k.body
