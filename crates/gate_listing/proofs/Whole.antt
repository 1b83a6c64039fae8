-- The listing of a whole input.
use Rattle.std.proofs.Common.{◌≡◌, ◌≢◌, ℕ, ◌+◌, ◌≤◌, List, [], ◌∷◌, ◌++◌, length, take, drop}
use Rattle.std.proofs.Common.{Option, Result, Ok, Err, IfOk, refl, sym, ap, subst, ◌∙◌}
use Rattle.std.proofs.Common.{append_assoc, append-nil, arith}
use Rattle.std.proofs.lemmas.List.{length-append, drop_at, take_at}
use Rattle.wire_base.specs.Bytes.{IsBytes}
use Rattle.wire_base.specs.declared.memory.Memory.{Memory}
use Rattle.wire_base.specs.declared.scan.At.{At}
use Rattle.wire_base.proofs.Bytes.{IsBytes-drop, IsBytes-take}
use Rattle.wire_base.proofs.Laws.{ok_is}
use Rattle.gate_outside.specs.Streams.{Appends}
use Rattle.gate_listing.specs.Listing.{Piece, Shows, IsFault, AreUnits, BeginsWith, IsListed}
use Rattle.gate_listing.specs.Listing.{EndsAll, bytes_of, lines}
use Rattle.gate_listing.specs.Scanning.{place}
use Rattle.gate_listing.specs.Steps.{unit_in, UnitsListed}
use Rattle.gate_listing.specs.declared.fault.UnitFault.{UnitFault}
use Rattle.gate_listing.specs.declared.listing.Dialect.{Dialect}
use Rattle.gate_listing.specs.declared.listing.Dialect.TheVariants.{Amqp091, Amqp10}
use Rattle.gate_listing.specs.declared.listing.Listed.{Listed}
use Rattle.gate_listing.specs.declared.listing.Listed.TheVariants.{Whole, Bad, OutFailed}
use Rattle.gate_listing.proofs.Steps.{place_is}
use Rattle.gate_listing.proofs.Units091 as units_091
use Rattle.gate_listing.proofs.Units10 as units_10

faulty : (d : Dialect) (end : ℕ) (rest : List ℕ) (e : At UnitFault) → IsBytes rest → rest ≢ [] → place end rest + length rest ≡ end
    → unit_in d end rest ≡ Err e → IsFault d (place end rest) rest e
faulty Amqp091 end rest e fits some ends h = units_091.unit_faulty end rest e fits some ends h
faulty Amqp10 end rest e fits some ends h = units_10.unit_faulty end rest e fits some ends h

pub is_listed : (d : Dialect) (bytes : List ℕ) (old new : Option (List ℕ)) (answer : Result Listed Memory) → UnitsListed d bytes old new answer
    → IsListed d bytes old new answer
is_listed d bytes old new (Ok Whole) h = h
is_listed d bytes old new (Ok (Bad e)) (us, rest, b, fits, some, read, added) =
    let here = place_is d us rest bytes b in
    let ends : place (length bytes) rest + length rest ≡ length bytes = omega (arith, here, ap length b.parts, length-append (bytes_of us) rest) in
    (us, rest, b, subst (λ (n : ℕ). IsFault d n rest e) here (faulty d (length bytes) rest e fits some ends read), added)
is_listed d bytes old new (Ok OutFailed) h = h
is_listed d bytes old new (Err e) h = h

-- ---- bytes that are whole units have one listing

again : (d : Dialect) (end at : ℕ) (words text rest : List ℕ) → IsBytes text → Shows d at words text → place end (text ++ rest) ≡ at
    → unit_in d end (text ++ rest) ≡ Ok (words, length text)
again Amqp091 end at words text rest fits h here = units_091.unit_again end at words text rest h here
again Amqp10 end at words text rest fits h here = units_10.unit_again end words text rest fits h

some_text : (d : Dialect) (at : ℕ) (words text : List ℕ) → Shows d at words text → 1 ≤ length text
some_text Amqp091 at words text h = units_091.unit_some at words text h
some_text Amqp10 at words text h = units_10.unit_some words text h

front_fits : (text rest : List ℕ) → IsBytes (text ++ rest) → IsBytes text
front_fits text rest fits = subst IsBytes (take_at text rest (length text) refl) (IsBytes-take (length text) (text ++ rest) fits)

-- the first unit of bytes that begin with two units is one
first_is : (d : Dialect) (end at : ℕ) (words text rest words' text' rest' : List ℕ) → IsBytes (text ++ rest) → text ++ rest ≡ text' ++ rest'
    → place end (text ++ rest) ≡ at → Shows d at words text → Shows d at words' text' → (words ≡ words') × (text ≡ text') × (rest ≡ rest')
first_is d end at words text rest words' text' rest' fits same here h h' =
    let fits' : IsBytes (text' ++ rest') = subst IsBytes same fits in
    let here' : place end (text' ++ rest') ≡ at = ap (place end) (sym same) ∙ here in
    let one = again d end at words text rest (front_fits text rest fits) h here in
    let two = again d end at words' text' rest' (front_fits text' rest' fits') h' here' in
    let both : (words, length text) ≡ (words', length text') = ok_is {F = At UnitFault} (words, length text) (words', length text') (sym one ∙ ap (unit_in d end) same ∙ two) in
    let size : length text ≡ length text' = ap (λ (x : List ℕ × ℕ). x.1) both in
    let front : text ≡ text' = sym (take_at text rest (length text) refl) ∙ ap (take (length text)) same ∙ take_at text' rest' (length text) (sym size) in
    let back : rest ≡ rest' = sym (drop_at text rest (length text) refl) ∙ ap (drop (length text)) same ∙ drop_at text' rest' (length text) (sym size) in
    (ap (λ (x : List ℕ × ℕ). x.0) both, front, back)

-- no unit stands before nothing
none_left : (d : Dialect) (at : ℕ) (u : Piece) (us : List Piece) → Shows d at u.0 u.1 → [] ≡ u.1 ++ bytes_of us → ⊥
none_left d at u us h e = absurd (omega (arith, ap length e, length-append u.1 (bytes_of us), some_text d at u.0 u.1 h))

-- two lists of units with the same bytes are one
same_units : (d : Dialect) (at end : ℕ) (us vs : List Piece) → IsBytes (bytes_of us) → at + length (bytes_of us) ≡ end → AreUnits d at us → AreUnits d at vs
    → bytes_of us ≡ bytes_of vs → us ≡ vs
same_units d at end [] [] fits ends h k e = refl
same_units d at end [] (v ∷ vs) fits ends h k e = absurd (none_left d at v vs k.0 e)
same_units d at end (u ∷ us) [] fits ends h k e = absurd (none_left d at u us h.0 (sym e))
same_units d at end (u ∷ us) (v ∷ vs) fits ends h k e =
    let here : place end (u.1 ++ bytes_of us) ≡ at = omega (arith, ends) in
    let one = first_is d end at u.0 u.1 (bytes_of us) v.0 v.1 (bytes_of vs) fits e here h.0 k.0 in
    let text : u.1 ≡ v.1 = one.1 in
    let head : u ≡ v = ap (λ (w : List ℕ). (w, u.1)) one.0 ∙ ap (λ (t : List ℕ). (v.0, t)) text in
    let rest_fits : IsBytes (bytes_of us) = subst IsBytes (drop_at u.1 (bytes_of us) (length u.1) refl) (IsBytes-drop (length u.1) (u.1 ++ bytes_of us) fits) in
    let next : AreUnits d (at + length u.1) vs = subst (λ (n : ℕ). AreUnits d (at + n) vs) (ap length (sym text)) k.1 in
    let tails = same_units d (at + length u.1) end us vs rest_fits (omega (arith, ends, length-append u.1 (bytes_of us))) h.1 next one.2 in
    ap (λ (x : Piece). x ∷ us) head ∙ ap (λ (t : List Piece). v ∷ t) tails

-- where bytes are whole units, none of them is told as at fault
no_fault : (d : Dialect) (at end : ℕ) (us vs : List Piece) (rest : List ℕ) (e : At UnitFault) → IsBytes (bytes_of us) → at + length (bytes_of us) ≡ end
    → AreUnits d at us → AreUnits d at vs → bytes_of us ≡ bytes_of vs ++ rest → rest ≢ [] → unit_in d end rest ≡ Err e → ⊥
no_fault d at end [] [] rest e fits ends h k same some read = some (sym same)
no_fault d at end (u ∷ us) [] rest e fits ends h k same some read =
    let here : place end (u.1 ++ bytes_of us) ≡ at = omega (arith, ends) in
    let found = again d end at u.0 u.1 (bytes_of us) (front_fits u.1 (bytes_of us) fits) h.0 here in
    let told : unit_in d end (u.1 ++ bytes_of us) ≡ Err e = ap (unit_in d end) same ∙ read in
    cc (found, told)
no_fault d at end [] (v ∷ vs) rest e fits ends h k same some read =
    none_left d at v vs k.0 (nil_front (v.1 ++ bytes_of vs) rest same)
  where
    nil_front : (xs ys : List ℕ) → [] ≡ xs ++ ys → [] ≡ xs
    nil_front [] ys e = refl
    nil_front (x ∷ xs) ys e = absurd cc
no_fault d at end (u ∷ us) (v ∷ vs) rest e fits ends h k same some read =
    let here : place end (u.1 ++ bytes_of us) ≡ at = omega (arith, ends) in
    let shape : u.1 ++ bytes_of us ≡ v.1 ++ (bytes_of vs ++ rest) = same ∙ append_assoc v.1 (bytes_of vs) rest in
    let one = first_is d end at u.0 u.1 (bytes_of us) v.0 v.1 (bytes_of vs ++ rest) fits shape here h.0 k.0 in
    let text : u.1 ≡ v.1 = one.1 in
    let rest_fits : IsBytes (bytes_of us) = subst IsBytes (drop_at u.1 (bytes_of us) (length u.1) refl) (IsBytes-drop (length u.1) (u.1 ++ bytes_of us) fits) in
    let next : AreUnits d (at + length u.1) vs = subst (λ (n : ℕ). AreUnits d (at + n) vs) (ap length (sym text)) k.1 in
    no_fault d (at + length u.1) end us vs rest e rest_fits (omega (arith, ends, length-append u.1 (bytes_of us))) h.1 next one.2 some read

pub ends_all : (d : Dialect) (bytes : List ℕ) (old new : Option (List ℕ)) (answer : Result Listed Memory) → IsBytes bytes
    → UnitsListed d bytes old new answer → (us : List Piece) → BeginsWith d us [] bytes → IfOk answer (EndsAll us old new)
ends_all d bytes old new (Ok Whole) fits (vs, b, added) us c =
    let left : bytes ≡ bytes_of us = c.parts ∙ append-nil (bytes_of us) in
    let right : bytes ≡ bytes_of vs = b.parts ∙ append-nil (bytes_of vs) in
    let same : vs ≡ us = same_units d 0 (length bytes) vs us (subst IsBytes right fits) (omega (arith, ap length right)) b.units c.units (sym right ∙ left) in
    subst (λ (ws : List Piece). Appends old new (lines 0 ws)) same added
ends_all d bytes old new (Ok (Bad e)) fits (vs, rest, b, rest_fits, some, read, added) us c =
    let left : bytes ≡ bytes_of us = c.parts ∙ append-nil (bytes_of us) in
    no_fault d 0 (length bytes) us vs rest e (subst IsBytes left fits) (omega (arith, ap length left)) c.units b.units (sym left ∙ b.parts) some read
ends_all d bytes old new (Ok OutFailed) fits h us c = tt
ends_all d bytes old new (Err e) fits h us c = tt
