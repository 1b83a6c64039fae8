-- The steps of a listing.
use Rattle.std.proofs.Common.{◌≡◌, ◌≢◌, ℕ, ◌<◌, ◌≤◌, List, [], ◌∷◌, ◌++◌, length, take, drop}
use Rattle.std.proofs.Common.{Option, Ok, Err, refl, sym, ap, subst, ◌∙◌, append-nil, arith}
use Rattle.std.proofs.lemmas.List.{length-append, length-drop, take-append-drop}
use Rattle.wire_base.specs.Bytes.{IsBytes}
use Rattle.wire_base.proofs.Bytes.{IsBytes-drop}
use Rattle.wire_base.specs.declared.stop.Stop.{Stop}
use Rattle.wire_base.specs.declared.stop.Stop.TheVariants as stop
use Rattle.gate_outside.specs.Streams.{Appends, AppendsFront}
use Rattle.gate_outside.proofs.Appending.{appends_then}
use Rattle.gate_listing.specs.Listing.{Piece, Shows, BeginsWith, bytes_of, line, lines}
use Rattle.gate_listing.specs.Scanning.{place}
use Rattle.gate_listing.specs.Steps.{unit_in, NextListed, UnitsListed, SoFar, ended_by}
use Rattle.gate_listing.specs.declared.listing.Dialect.{Dialect}
use Rattle.gate_listing.specs.declared.listing.Dialect.TheVariants.{Amqp091, Amqp10}
use Rattle.gate_listing.specs.declared.listing.Listed.{Listed}
use Rattle.gate_listing.specs.declared.listing.Listed.TheVariants.{Whole, Bad, OutFailed}
use Rattle.gate_listing.proofs.Held.{one_line_more, front_of_line, one_unit_more}
use Rattle.gate_listing.proofs.Units091 as units_091
use Rattle.gate_listing.proofs.Units10 as units_10

-- a unit of so many bytes stands at the front
record IsFirst (d : Dialect) (at : ℕ) (bytes words : List ℕ) (size : ℕ) : Type 0 where
  there : size ≤ length bytes
  some : 1 ≤ size
  shows : Shows d at words (take size bytes)

found : (d : Dialect) (end : ℕ) (bytes words : List ℕ) (size : ℕ) → IsBytes bytes → unit_in d end bytes ≡ Ok (words, size)
    → IsFirst d (place end bytes) bytes words size
found Amqp091 end bytes words size fits e =
    let f = units_091.unit_found end bytes words size fits e in record { there = f.there; some = f.some; shows = f.shows }
found Amqp10 end bytes words size fits e =
    let f = units_10.unit_found end bytes words size fits e in record { there = f.there; some = f.some; shows = f.shows }

pub shorter : (d : Dialect) (end : ℕ) (rest words after : List ℕ) (size : ℕ) → IsBytes rest → unit_in d end rest ≡ Ok (words, size)
    → after ≡ drop size rest → length after < length rest
shorter d end rest words after size fits read left =
    let f = found d end rest words size fits read in omega (arith, f.there, f.some, ap length left, length-drop size rest)

-- the offset of what is left
pub place_is : (d : Dialect) (us : List Piece) (rest bytes : List ℕ) → BeginsWith d us rest bytes → place (length bytes) rest ≡ length (bytes_of us)
place_is d us rest bytes b = omega (arith, ap length b.parts, length-append (bytes_of us) rest)

-- a unit more stands before what is left
unit_more : (d : Dialect) (us : List Piece) (rest bytes words after : List ℕ) (size : ℕ) → IsBytes rest → BeginsWith d us rest bytes
    → unit_in d (length bytes) rest ≡ Ok (words, size) → after ≡ drop size rest → BeginsWith d (us ++ (words, take size rest) ∷ []) after bytes
unit_more d us rest bytes words after size fits b read left =
    let f = found d (length bytes) rest words size fits read in
    one_unit_more d us (words, take size rest) rest after bytes b
    (subst (λ (n : ℕ). Shows d n words (take size rest)) (place_is d us rest bytes b) f.shows)
    (sym (take-append-drop size rest) ∙ ap (λ (t : List ℕ). take size rest ++ t) (sym left))

pub goes_on : (d : Dialect) (faults faults' faults'' : ℕ) (old mid new : Option (List ℕ)) (bytes rest words after : List ℕ) (size : ℕ)
    → SoFar d faults faults' old mid bytes rest → faults' ≤ faults'' → unit_in d (length bytes) rest ≡ Ok (words, size) → after ≡ drop size rest
    → Appends mid new (line (place (length bytes) rest) words) → SoFar d faults faults'' old new bytes after
goes_on d faults faults' faults'' old mid new bytes rest words after size s later read left added = record {
  units = s.units ++ (words, take size rest) ∷ [];
  before = unit_more d s.units rest bytes words after size s.fits s.before read left;
  fits = subst IsBytes (sym left) (IsBytes-drop size rest s.fits);
  later = omega (arith, s.later, later);
  listed = one_line_more old mid new s.units (words, take size rest) s.listed
      (subst (λ (n : ℕ). Appends mid new (line n words)) (place_is d s.units rest bytes s.before) added);
}

-- nothing more was written
nothing_more : (old mid new : Option (List ℕ)) (text : List ℕ) → Appends old mid text → Appends mid new [] → Appends old new text
nothing_more old mid new text p q = subst (λ (t : List ℕ). Appends old new t) (append-nil text) (appends_then old mid new text [] p q)

pub ends_by : {X : Type 0} (view : X → List ℕ) (why : Stop Listed) (d : Dialect) (faults faults' : ℕ) (old mid new : Option (List ℕ)) (bytes rest : List ℕ)
    → SoFar d faults faults' old mid bytes rest → rest ≢ [] → NextListed view d (length bytes) rest mid new (Err why)
    → UnitsListed d bytes old new (ended_by why)
ends_by view stop.Memory d faults faults' old mid new bytes rest s some h = (s.units, rest, s.before, nothing_more old mid new (lines 0 s.units) s.listed h)
ends_by view (stop.Fault Whole) d faults faults' old mid new bytes rest s some h = absurd h
ends_by view (stop.Fault (Bad e)) d faults faults' old mid new bytes rest s some h =
    (s.units, rest, s.before, s.fits, some, h.0, nothing_more old mid new (lines 0 s.units) s.listed h.1)
ends_by view (stop.Fault OutFailed) d faults faults' old mid new bytes rest s some (words, size, read, part) = (
  s.units ++ (words, take size rest) ∷ [],
  drop size rest,
  unit_more d s.units rest bytes words (drop size rest) size s.fits s.before read refl,
  front_of_line old mid new s.units (words, take size rest) s.listed
      (subst (λ (n : ℕ). AppendsFront mid new (line n words)) (place_is d s.units rest bytes s.before) part),
)

pub is_whole : (d : Dialect) (faults faults' : ℕ) (old new : Option (List ℕ)) (bytes rest : List ℕ) → SoFar d faults faults' old new bytes rest
    → rest ≡ [] → UnitsListed d bytes old new (Ok Whole)
is_whole d faults faults' old new bytes rest s none = (s.units, subst (λ (t : List ℕ). BeginsWith d s.units t bytes) none s.before, s.listed)
