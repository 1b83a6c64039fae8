-- Why bytes are no message, and at which section (AMQP 1.0 3.2). The sections before it stand in
-- their order.
use Rattle.std.specs.Prelude.{◌≡◌, ◌⊎◌, ℕ, ◌<◌, ◌≤◌, List, length, None}
use Rattle.wire_base.specs.declared.scan.At.{At}
use Rattle.types_10.specs.Tree.{Tree}
use Rattle.sections_10.specs.Rows.{Section, header_section, delivery_section, message_section}
use Rattle.sections_10.specs.Rows.{properties_section, application_section, data_section}
use Rattle.sections_10.specs.Rows.{sequence_section, value_section, footer_section}
use Rattle.sections_10.specs.Reading.{Sections, rank, last_rank}
use Rattle.sections_10.specs.Grammar.{IsCodeAt, IsSectionAt, AreInOrder}
use Rattle.sections_10.specs.declared.reading.SectionFault.{SectionFault}
use Rattle.sections_10.specs.declared.reading.SectionFault.TheVariants as fault

-- the code of a section of the table
abbrev pub IsKnown : ℕ → Type 0
IsKnown code = (112 ≤ code) × (code ≤ 120)

-- a section of the table
pub data IsOfTable : Section → Type 0 where
  is_header : IsOfTable header_section
  is_delivery : IsOfTable delivery_section
  is_annotations : IsOfTable message_section
  is_properties : IsOfTable properties_section
  is_application : IsOfTable application_section
  is_data : IsOfTable data_section
  is_sequence : IsOfTable sequence_section
  is_value : IsOfTable value_section
  is_footer : IsOfTable footer_section

-- sections stand in their order up to an offset, at which there is more
abbrev pub Reach : Sections → List ℕ → ℕ → Type 0
Reach s bytes at = AreInOrder s bytes × (s.after ≡ at) × (at < length bytes)

-- no section of the table begins there
abbrev pub IsNoSection : List ℕ → ℕ → Type 0
IsNoSection bytes at = (code middle : ℕ) → IsCodeAt code bytes at middle → IsKnown code → ⊥

-- a section begins there, and may, but has no value of its kind
abbrev pub IsWithoutValue : Sections → List ℕ → ℕ → Type 0
IsWithoutValue s bytes at =
    (t : Section) × IsOfTable t × (middle : ℕ) × IsCodeAt t.0 bytes at middle
    × (last_rank s ≤ rank t.0)
    × ((x : Tree) (after : ℕ) → IsSectionAt t x bytes at after → ⊥)

-- Value: no section begins there, or one that may has no value of its kind. Order: one begins
-- before which a later one stood. Repeated: one begins whose kind was the last, or one of a body
-- behind another body. NoBody: the sections fill the bytes, and there is no body.
abbrev pub IsFaultOf : SectionFault → ℕ → List ℕ → Type 0
IsFaultOf fault.Value at bytes =
    (s : Sections) × Reach s bytes at × (IsNoSection bytes at ⊎ IsWithoutValue s bytes at)
IsFaultOf fault.Order at bytes =
    (s : Sections) × Reach s bytes at × (code : ℕ) × (middle : ℕ)
    × IsCodeAt code bytes at middle × IsKnown code
    × (rank code < last_rank s)
IsFaultOf fault.Repeated at bytes =
    (s : Sections) × Reach s bytes at × (code : ℕ) × (middle : ℕ)
    × IsCodeAt code bytes at middle × IsKnown code
    × (rank code ≡ last_rank s)
IsFaultOf fault.NoBody at bytes =
    (s : Sections) × AreInOrder s bytes × (s.after ≡ length bytes) × (s.body ≡ None) × (at
    ≡ length bytes)

-- the same of a fault and its place together
abbrev pub IsFault : List ℕ → At SectionFault → Type 0
IsFault bytes e = IsFaultOf e.fault e.at bytes
