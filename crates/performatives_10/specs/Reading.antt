-- Reading a performative (AMQP 1.0 2.7, 5.3.3), with the first fault that is met: the value, its
-- descriptor, and the fields in their order. Inside a composite field every fault is that the field
-- has another type.
use Rattle.std.specs.Prelude.{ℕ, ◌==◌, if◌then◌else◌, List, [], ◌∷◌, take, Option, Some, None, Ok}
use Rattle.std.specs.Prelude.{Err, Result}
use Rattle.wire_base.specs.Reading.{◌>>=◌}
use Rattle.types_10.specs.Tree.{Tree, Trees}
use Rattle.types_10.specs.Reading.{Fault, value_at}
use Rattle.performatives_10.specs.Fields.{FieldType, leaf, error, state, source, target, Row}
use Rattle.performatives_10.specs.Fields.{leaf_in, fields_in, leaves_in}
use Rattle.performatives_10.specs.Composites.{composite, if_some, described_list}
use Rattle.performatives_10.specs.Rows.{row, kinds, error_rows, received_rows, rejected_rows}
use Rattle.performatives_10.specs.Rows.{modified_rows, source_rows, target_rows}
use Rattle.performatives_10.specs.Rows.{error_code, received_code, accepted_code, rejected_code}
use Rattle.performatives_10.specs.Rows.{released_code, modified_code, source_code, target_code}
use Rattle.performatives_10.specs.View.{parts_of}
use Rattle.performatives_10.specs.declared.fault.PerfFault.{PerfFault}
use Rattle.performatives_10.specs.declared.fault.PerfFault.TheVariants as fault
use Rattle.performatives_10.specs.declared.kind.PerfKind.{PerfKind}
use Rattle.performatives_10.specs.declared.performative.Perf.{Perf}

-- what was read, without its fault
abbrev pub read_of : Result Tree PerfFault → Option Tree
read_of (Ok t) = Some t
read_of (Err e) = None

-- a composite of fields that were read: all of them, or so many
abbrev pub whole : ℕ → Result (List Tree) PerfFault → Result Tree PerfFault
whole code read = read >>= λ xs. Ok (composite code xs)

abbrev pub kept : ℕ → ℕ → Result (List Tree) PerfFault → Result Tree PerfFault
kept code n read = read >>= λ xs. Ok (composite code (take n xs))

-- ---- errors, states and termini

-- a composite of this code, whose fields are read so
abbrev pub coded_in : ℕ → (Trees → Result Tree PerfFault) → Tree → Option Tree
coded_in code read t =
    if_some (described_list t) (λ c. if c.0 == code then read_of (read c.1) else None)

-- of an error the information is dropped
abbrev pub error_read : Trees → Result Tree PerfFault
error_read ts = kept error_code 2 (fields_in leaves_in error_rows 0 ts)

unfoldable pub error_in : Tree → Option Tree
error_in = coded_in error_code error_read

abbrev pub source_read : Trees → Result Tree PerfFault
source_read ts = whole source_code (fields_in leaves_in source_rows 0 ts)

unfoldable pub source_in : Tree → Option Tree
source_in = coded_in source_code source_read

abbrev pub target_read : Trees → Result Tree PerfFault
target_read ts = whole target_code (fields_in leaves_in target_rows 0 ts)

unfoldable pub target_in : Tree → Option Tree
target_in = coded_in target_code target_read

-- fields that are no composites, or errors
abbrev pub parts_in : FieldType → Tree → Option Tree
parts_in (leaf l) t = leaf_in l t
parts_in error t = error_in t
parts_in state t = None
parts_in source t = None
parts_in target t = None

-- of a state only the error of a rejection is kept
abbrev pub received_read : Trees → Result Tree PerfFault
received_read ts = kept received_code 0 (fields_in leaves_in received_rows 0 ts)

abbrev pub rejected_read : Trees → Result Tree PerfFault
rejected_read ts = whole rejected_code (fields_in parts_in rejected_rows 0 ts)

abbrev pub modified_read : Trees → Result Tree PerfFault
modified_read ts = kept modified_code 0 (fields_in leaves_in modified_rows 0 ts)

unfoldable pub state_read : ℕ → Trees → Result Tree PerfFault
state_read n ts =
    if n == received_code then received_read ts
    else if n == accepted_code then Ok (composite accepted_code [])
    else if n == rejected_code then rejected_read ts
    else if n == released_code then Ok (composite released_code [])
    else if n == modified_code then modified_read ts
    else Err fault.UnknownDescriptor

unfoldable pub state_in : Tree → Option Tree
state_in t = if_some (described_list t) (λ c. read_of (state_read c.0 c.1))

-- ---- performatives

-- a field of each type
abbrev pub type_in : FieldType → Tree → Option Tree
type_in (leaf l) t = leaf_in l t
type_in error t = error_in t
type_in state t = state_in t
type_in source t = source_in t
type_in target t = target_in t

abbrev pub code_of : PerfKind → ℕ
code_of k = (row k).0

abbrev pub rows : PerfKind → List Row
rows k = (row k).1

-- a performative as its kind and its fields
abbrev pub Parts : Type 0
Parts = PerfKind × List Tree

abbrev pub perf_in : PerfKind → Trees → Result Parts PerfFault
perf_in k ts = fields_in type_in (rows k) 0 ts >>= λ xs. Ok (k, xs)

-- the first of some kinds that has this code
abbrev pub first_with : List PerfKind → ℕ → Option PerfKind
first_with [] n = None
first_with (k ∷ ks) n = if n == code_of k then Some k else first_with ks n

unfoldable pub kind_with : ℕ → Option PerfKind
kind_with = first_with kinds

abbrev pub known_in : Option PerfKind → Trees → Result Parts PerfFault
known_in None ts = Err fault.UnknownDescriptor
known_in (Some k) ts = perf_in k ts

abbrev pub listed_in : Option (ℕ × Trees) → Result Parts PerfFault
listed_in None = Err fault.UnknownDescriptor
listed_in (Some c) = known_in (kind_with c.0) c.1

-- the performative that a value is
unfoldable pub perf_of : Tree → Result Parts PerfFault
perf_of t = listed_in (described_list t)

abbrev pub behind : Result (Tree × ℕ) Fault → Result (Parts × ℕ) PerfFault
behind (Err f) = Err (fault.Value f)
behind (Ok v) = perf_of v.0 >>= λ p. Ok (p, v.1)

-- the performative with which bytes begin, and the offset behind it
abbrev pub perf_at : List ℕ → Result (Parts × ℕ) PerfFault
perf_at bytes = behind (value_at bytes 0)

-- a performative that was read, as its parts
abbrev pub seen : Result (Perf × ℕ) PerfFault → Result (Parts × ℕ) PerfFault
seen (Ok x) = Ok (parts_of x.0, x.1)
seen (Err e) = Err e
