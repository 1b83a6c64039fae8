-- What the body of a frame is (AMQP 1.0 2.3.2, 2.4.5, 5.3.1), what its performative says, and what
-- that does to a connection.
use Rattle.std.specs.Prelude.{ℕ, zero, suc, Bool, true, false, ◌==◌, nat_le, nat_lt, ◌^◌}
use Rattle.std.specs.Prelude.{if◌then◌else◌, List, [], ◌∷◌, length, drop, Option, Some, None}
use Rattle.std.specs.Prelude.{Result, Ok, Err}
use Rattle.std.specs.Str.{bytes_eq}
use Rattle.frames_10.specs.declared.frame.Kind10.{Kind10}
use Rattle.frames_10.specs.declared.frame.Kind10.TheVariants as kind
use Rattle.types_10.specs.Tree.{Scalar, Tree, scalar, list, mapping, array, described, Trees}
use Rattle.types_10.specs.Tree.{no_trees, tree}
use Rattle.types_10.specs.Tree as value
use Rattle.types_10.specs.Fields.{absent}
use Rattle.performatives_10.specs.Reading.{perf_at, code_of}
use Rattle.performatives_10.specs.Reading as perf
use Rattle.performatives_10.specs.declared.performative.Perf.{Perf}
use Rattle.performatives_10.specs.declared.fault.PerfFault.{PerfFault}
use Rattle.machine_10.specs.Parts.{Parts, parts_of}
use Rattle.machine_10.specs.Session.{ids_from}
use Rattle.machine_10.specs.declared.limits.Stated10.{Stated10}
use Rattle.machine_10.specs.declared.limits.TheConstants.{FRAME_MIN_SIZE}
use Rattle.machine_10.specs.declared.unit.Act10.{Act10}
use Rattle.machine_10.specs.declared.unit.Act10.TheVariants as act
use Rattle.machine_10.specs.declared.unit.Body10.{Body10}
use Rattle.machine_10.specs.declared.unit.Body10.TheVariants as body

-- ---- bodies

abbrev pub coded : perf.Parts → Parts
coded p = (code_of p.0, p.1)

-- nothing, in a frame of AMQP; what can't be read; a performative and the payload behind it
pub data Body : Type 0 where
  Empty : Body
  Faulty : PerfFault → Body
  Whole : Parts → List ℕ → Body

-- a performative and the offset behind it, or the first fault
abbrev pub Read : Type 0
Read = Result (Parts × ℕ) PerfFault

abbrev pub coded_read : Result (perf.Parts × ℕ) PerfFault → Read
coded_read (Err e) = Err e
coded_read (Ok x) = Ok (coded x.0, x.1)

-- what stands at the front of bytes
unfoldable pub read_at : List ℕ → Read
read_at bytes = coded_read (perf_at bytes)

-- one that was read
unfoldable pub read_of : Result (Perf × ℕ) PerfFault → Read
read_of (Err e) = Err e
read_of (Ok x) = Ok (parts_of x.0, x.1)

abbrev pub body_by : List ℕ → Read → Body
body_by bytes (Err e) = Faulty e
body_by bytes (Ok x) = Whole x.0 (drop x.1 bytes)

abbrev pub body_in : Kind10 → List ℕ → Body
body_in kind.Amqp bytes = if length bytes == 0 then Empty else body_by bytes (read_at bytes)
body_in kind.Sasl bytes = body_by bytes (read_at bytes)

-- one that was read
unfoldable pub body_of : Body10 → Body
body_of body.Empty = Empty
body_of (body.Faulty e) = Faulty e
body_of (body.Whole w) = Whole w.0 w.1

-- ---- fields

-- the field at a place; past the last it is absent
abbrev pub field : List Tree → ℕ → Tree
field [] k = absent
field (t ∷ ts) zero = t
field (t ∷ ts) (suc k) = field ts k

abbrev pub scalar_number : Scalar → Option ℕ
scalar_number (value.ubyte n) = Some n
scalar_number (value.ushort n) = Some n
scalar_number (value.uint n) = Some n
scalar_number s = None

-- a number, where the field isn't absent
abbrev pub number_in : Tree → Option ℕ
number_in (scalar s) = scalar_number s
number_in t = None

abbrev pub number_or : ℕ → Option ℕ → ℕ
number_or n None = n
number_or n (Some m) = m

abbrev pub number_at : List Tree → ℕ → ℕ
number_at ts k = number_or 0 (number_in (field ts k))

-- ---- the SASL layer (5.3.3.1)

abbrev pub is_named : List ℕ → Tree → Bool
is_named name (scalar (value.symbol s)) = bytes_eq s name
is_named name t = false

abbrev pub any_named : List ℕ → Trees → Bool
any_named name no_trees = false
any_named name (tree t ts) = if is_named name t then true else any_named name ts

-- a mechanism is the one that is offered, or among those that are
abbrev pub offers : List ℕ → Tree → Bool
offers name (scalar s) = is_named name (scalar s)
offers name (array ts) = any_named name ts
offers name (list ts) = false
offers name (mapping ps) = false
offers name (described d t) = false

-- ---- performatives

-- what an open states (2.7.1)
abbrev pub stated_in : List Tree → Stated10
stated_in ts =
    record {
      max_frame = number_at ts 2;
      channel_max = number_at ts 3;
      idle = number_in
          (field ts 4);
    }

-- what a performative does to a connection, by the code of its descriptor (2.7, 5.3.3)
unfoldable pub act_of : Parts → Act10
act_of (code, ts) =
    if code == 16 then act.Open (stated_in ts)
    else if code == 17 then act.Begin (number_in (field ts 0))
    else if code == 18 then act.Within
    else if code == 19 then act.Within
    else if code == 20 then act.Within
    else if code == 21 then act.Settle (number_at ts 1) (number_in (field ts 2))
    else if code == 22 then act.Within
    else if code == 23 then act.End
    else if code == 24 then act.Close
    else if code == 64 then act.Offer
    else if code == 66 then act.Challenge
    else if code == 68 then act.Outcome (number_at ts 0)
    else act.ClientLogin

-- the last delivery of a disposition is the first, where it is absent
abbrev pub last_from : ℕ → Option ℕ → ℕ
last_from first last = ids_from first (number_or first last)

-- frames of fewer than 512 bytes (2.7.1), and a last delivery before the first (2.7.6)
abbrev pub is_out_of_range : Act10 → Bool
is_out_of_range (act.Open stated) = nat_lt stated.max_frame FRAME_MIN_SIZE
is_out_of_range (act.Begin remote) = false
is_out_of_range (act.Settle low high) = nat_le (2 ^ 31) (last_from low high)
is_out_of_range act.Within = false
is_out_of_range act.End = false
is_out_of_range act.Close = false
is_out_of_range act.Offer = false
is_out_of_range (act.Outcome n) = false
is_out_of_range act.Challenge = false
is_out_of_range act.ClientLogin = false

abbrev pub is_close : Act10 → Bool
is_close (act.Open stated) = false
is_close (act.Begin remote) = false
is_close (act.Settle low high) = false
is_close act.Within = false
is_close act.End = false
is_close act.Close = true
is_close act.Offer = false
is_close (act.Outcome n) = false
is_close act.Challenge = false
is_close act.ClientLogin = false

-- a frame that is the close of a connection
abbrev pub closes : Kind10 → Body → Bool
closes kind.Sasl b = false
closes kind.Amqp Empty = false
closes kind.Amqp (Faulty e) = false
closes kind.Amqp (Whole p payload) = is_close (act_of p)
