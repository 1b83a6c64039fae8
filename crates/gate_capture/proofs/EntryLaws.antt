-- The readers of entries against their spellings.
use Rattle.std.proofs.Common.{◌≡◌, ℕ, ◌^◌, ◌<◌, List, [], ◌∷◌, ◌++◌, length, refl, sym, ap, subst}
use Rattle.std.proofs.Common.{arith}
use Rattle.std.proofs.lemmas.List.{length-append}
use Rattle.std.specs.Int.{w32, w64, to_be_bytes}
use Rattle.wire_base.specs.declared.scan.At.{At}
use Rattle.wire_base.specs.Reading.{made}
use Rattle.wire_base.specs.Spelling.{IsNumber, IsMade}
use Rattle.wire_base.proofs.Laws.{IsReader, wide64, number_reader, made_reader}
use Rattle.gate_outside.specs.declared.ports.End.{End}
use Rattle.gate_outside.specs.declared.ports.Accepted.{Accepted}
use Rattle.gate_outside.specs.declared.ports.Accepted.TheVariants as accepted
use Rattle.gate_outside.specs.declared.ports.Linked.{Linked}
use Rattle.gate_outside.specs.declared.ports.Linked.TheVariants as linked
use Rattle.gate_outside.specs.declared.ports.Got.{Got}
use Rattle.gate_outside.specs.declared.ports.Got.TheVariants as got
use Rattle.gate_outside.specs.declared.ports.Put.{Put}
use Rattle.gate_outside.specs.declared.ports.Put.TheVariants as put
use Rattle.gate_outside.specs.declared.log.LogEntry.{LogEntry}
use Rattle.gate_outside.specs.declared.log.LogEntry.TheVariants as entry
use Rattle.gate_outside.specs.Ends.{TakesSome}
use Rattle.gate_capture.specs.declared.kinds.EntryKind.{EntryKind}
use Rattle.gate_capture.specs.declared.kinds.EntryKind.TheVariants as kind
use Rattle.gate_capture.specs.declared.kinds.Answer.{Answer}
use Rattle.gate_capture.specs.declared.kinds.Answer.TheVariants as answer
use Rattle.gate_capture.specs.declared.reading.CaptureFault.{CaptureFault}
use Rattle.gate_capture.specs.Kinds.{kind_byte, kind_of, answer_byte, answer_of, end_byte, end_of}
use Rattle.gate_capture.specs.Kinds.{next_byte, next_of}
use Rattle.gate_capture.specs.Spelling.{end_text, accepted_text, linked_text, got_text, put_text}
use Rattle.gate_capture.specs.Spelling.{spelling_of, HasCome}
use Rattle.gate_capture.specs.Captures.{AnswerFits, IsInForm}
use Rattle.gate_capture.specs.Parts.{GotFits, PutFits}
use Rattle.gate_capture.specs.Reading.{cut, long_in, longlong_in, then_in, byte_in, count_in}
use Rattle.gate_capture.specs.Reading.{bytes_in, pair_end_in, accepted_by, accepted_in, linked_by}
use Rattle.gate_capture.specs.Reading.{linked_in, came_in, got_by, got_in, put_by, put_in, most}
use Rattle.gate_capture.specs.Reading.{connect_in, read_in, write_in, entry_by, entry_in}
use Rattle.gate_capture.proofs.KindLemmas.{kind_bytes, answer_bytes, end_bytes, next_bytes}
use Rattle.gate_capture.proofs.Readers.{reader_as, IsThen, then_reader, IsValue, IsNone}
use Rattle.gate_capture.proofs.Readers.{value_reader, none_reader, IsByte, byte_reader, long_reader}
use Rattle.gate_capture.proofs.Readers.{IsCount, count_reader, IsRun, bytes_reader}

-- ---- a pair and its end

abbrev IsPairEnd : ℕ × End → List ℕ → Type 0
IsPairEnd p text = (p.0 < 2 ^ 32) × (text ≡ end_text p.0 p.1)

abbrev IsEndOf : ℕ → ℕ × End → List ℕ → Type 0
IsEndOf pair = IsMade (λ end. (pair, end)) (IsByte end_byte)

pair_end_reader : IsReader IsPairEnd pair_end_in
pair_end_reader =
    reader_as (IsThen (IsNumber w32) IsEndOf) IsPairEnd pair_end_in to from
    (then_reader (IsNumber w32) IsEndOf long_in (λ pair f size bytes. made (λ end. (pair, end)) (byte_in end_of size bytes)) long_reader
    (λ pair f. made_reader (λ end. (pair, end)) (IsByte end_byte) (byte_in end_of) (byte_reader end_of end_byte end_bytes)))
  where
    to : (p : ℕ × End) (text : List ℕ) → IsThen (IsNumber w32) IsEndOf p text → IsPairEnd p text
    to p text (pair, front, back, n, (end, same, spelled), e) = rw (same, e, n.1, spelled) (n.0, refl)

    from : (p : ℕ × End) (text : List ℕ) → IsPairEnd p text → IsThen (IsNumber w32) IsEndOf p text
    from (pair, end) text h = (pair, to_be_bytes w32 pair, end_byte end ∷ [], (h.0, refl), (end, refl, refl), h.1)

-- ---- answers

answer_reader : IsReader (IsByte answer_byte) (byte_in answer_of)
answer_reader = byte_reader answer_of answer_byte answer_bytes

abbrev IsAcceptedBy : Answer → Accepted → List ℕ → Type 0
IsAcceptedBy answer.NotYet = IsValue accepted.NotYet
IsAcceptedBy answer.Done = IsMade accepted.Pair (IsNumber w32)
IsAcceptedBy answer.Failed = IsValue accepted.Failed
IsAcceptedBy answer.Ended = IsNone

accepted_by_reader : (a : Answer) (f : At CaptureFault) → IsReader (IsAcceptedBy a) (accepted_by a f)
accepted_by_reader answer.NotYet f = value_reader accepted.NotYet
accepted_by_reader answer.Done f = made_reader accepted.Pair (IsNumber w32) long_in long_reader
accepted_by_reader answer.Failed f = value_reader accepted.Failed
accepted_by_reader answer.Ended f = none_reader f

abbrev IsAccepted : Accepted → List ℕ → Type 0
IsAccepted a text = AnswerFits a × (text ≡ accepted_text a)

accepted_reader : IsReader IsAccepted accepted_in
accepted_reader =
    reader_as (IsThen (IsByte answer_byte) IsAcceptedBy) IsAccepted accepted_in to from
    (then_reader (IsByte answer_byte) IsAcceptedBy (byte_in answer_of) accepted_by answer_reader accepted_by_reader)
  where
    to : (a : Accepted) (text : List ℕ) → IsThen (IsByte answer_byte) IsAcceptedBy a text → IsAccepted a text
    to a text (answer.NotYet, front, back, p, q, e) = rw (q.0, e, p, q.1) (tt, refl)
    to a text (answer.Done, front, back, p, (pair, same, n), e) = rw (same, e, p, n.1) (n.0, refl)
    to a text (answer.Failed, front, back, p, q, e) = rw (q.0, e, p, q.1) (tt, refl)
    to a text (answer.Ended, front, back, p, q, e) = absurd q

    from : (a : Accepted) (text : List ℕ) → IsAccepted a text → IsThen (IsByte answer_byte) IsAcceptedBy a text
    from accepted.NotYet text h = (answer.NotYet, 0 ∷ [], [], refl, (refl, refl), h.1)
    from (accepted.Pair pair) text h = (answer.Done, 1 ∷ [], to_be_bytes w32 pair, refl, (pair, refl, (h.0, refl)), h.1)
    from accepted.Failed text h = (answer.Failed, 2 ∷ [], [], refl, (refl, refl), h.1)

abbrev IsLinkedBy : Answer → Linked → List ℕ → Type 0
IsLinkedBy answer.NotYet = IsNone
IsLinkedBy answer.Done = IsValue linked.Ok
IsLinkedBy answer.Failed = IsValue linked.Failed
IsLinkedBy answer.Ended = IsNone

linked_by_reader : (a : Answer) (f : At CaptureFault) → IsReader (IsLinkedBy a) (linked_by a f)
linked_by_reader answer.NotYet f = none_reader f
linked_by_reader answer.Done f = value_reader linked.Ok
linked_by_reader answer.Failed f = value_reader linked.Failed
linked_by_reader answer.Ended f = none_reader f

abbrev IsLinked : Linked → List ℕ → Type 0
IsLinked a text = text ≡ linked_text a

linked_reader : IsReader IsLinked linked_in
linked_reader =
    reader_as (IsThen (IsByte answer_byte) IsLinkedBy) IsLinked linked_in to from
    (then_reader (IsByte answer_byte) IsLinkedBy (byte_in answer_of) linked_by answer_reader linked_by_reader)
  where
    to : (a : Linked) (text : List ℕ) → IsThen (IsByte answer_byte) IsLinkedBy a text → IsLinked a text
    to a text (answer.NotYet, front, back, p, q, e) = absurd q
    to a text (answer.Done, front, back, p, q, e) = rw (q.0, e, p, q.1) refl
    to a text (answer.Failed, front, back, p, q, e) = rw (q.0, e, p, q.1) refl
    to a text (answer.Ended, front, back, p, q, e) = absurd q

    from : (a : Linked) (text : List ℕ) → IsLinked a text → IsThen (IsByte answer_byte) IsLinkedBy a text
    from linked.Ok text h = (answer.Done, 1 ∷ [], [], refl, (refl, refl), h)
    from linked.Failed text h = (answer.Failed, 2 ∷ [], [], refl, (refl, refl), h)

abbrev IsCame : ℕ → Got × List ℕ → List ℕ → Type 0
IsCame n = IsMade (λ came. (got.Bytes n, came)) (IsRun n)

abbrev IsGotBy : ℕ → Answer → Got × List ℕ → List ℕ → Type 0
IsGotBy room answer.NotYet = IsValue (got.NotYet, [])
IsGotBy room answer.Done = IsThen (IsCount room) IsCame
IsGotBy room answer.Failed = IsValue (got.Failed, [])
IsGotBy room answer.Ended = IsValue (got.Ended, [])

got_by_reader : (room : ℕ) (a : Answer) (f : At CaptureFault) → IsReader (IsGotBy room a) (got_by room a f)
got_by_reader room answer.NotYet f = value_reader (got.NotYet, [])
got_by_reader room answer.Done f =
    then_reader (IsCount room) IsCame (count_in room) came_in (count_reader room)
    (λ n f. made_reader (λ came. (got.Bytes n, came)) (IsRun n) (bytes_in n) (bytes_reader n))
got_by_reader room answer.Failed f = value_reader (got.Failed, [])
got_by_reader room answer.Ended f = value_reader (got.Ended, [])

abbrev IsGot : ℕ → Got × List ℕ → List ℕ → Type 0
IsGot room x text = HasCome x.0 room x.1 × GotFits x.0 × (text ≡ got_text x.0 x.1)

got_reader : (room : ℕ) → IsReader (IsGot room) (got_in room)
got_reader room =
    reader_as (IsThen (IsByte answer_byte) (IsGotBy room)) (IsGot room) (got_in room) to from
    (then_reader (IsByte answer_byte) (IsGotBy room) (byte_in answer_of) (got_by room) answer_reader (got_by_reader room))
  where
    to : (x : Got × List ℕ) (text : List ℕ) → IsThen (IsByte answer_byte) (IsGotBy room) x text → IsGot room x text
    to x text (answer.NotYet, front, back, p, q, e) = rw (q.0, e, p, q.1) (refl, tt, refl)
    to x text (answer.Done, front, back, p, (n, length, bytes, c, (came, same, run), parts), e) =
        rw (same, e, p, parts, c.2.1, run.1) ((sym run.0, c.0, c.1), c.2.0, refl)
    to x text (answer.Failed, front, back, p, q, e) = rw (q.0, e, p, q.1) (refl, tt, refl)
    to x text (answer.Ended, front, back, p, q, e) = rw (q.0, e, p, q.1) (refl, tt, refl)

    from : (x : Got × List ℕ) (text : List ℕ) → IsGot room x text → IsThen (IsByte answer_byte) (IsGotBy room) x text
    from (got.NotYet, bytes) text h = (answer.NotYet, 0 ∷ [], [], refl, (ap (λ (s : List ℕ). (got.NotYet, s)) h.0, refl), h.2)
    from (got.Bytes n, bytes) text h =
        (answer.Done, 1 ∷ [], to_be_bytes w32 n ++ bytes, refl, (n, to_be_bytes w32 n, bytes, (h.0.1, h.0.2, (h.1, refl)), (bytes, refl, (sym h.0.0, refl)), refl), h.2)
    from (got.Failed, bytes) text h = (answer.Failed, 2 ∷ [], [], refl, (ap (λ (s : List ℕ). (got.Failed, s)) h.0, refl), h.2)
    from (got.Ended, bytes) text h = (answer.Ended, 3 ∷ [], [], refl, (ap (λ (s : List ℕ). (got.Ended, s)) h.0, refl), h.2)

abbrev IsPutBy : ℕ → Answer → Put → List ℕ → Type 0
IsPutBy offered answer.NotYet = IsValue put.NotYet
IsPutBy offered answer.Done = IsMade put.Took (IsCount offered)
IsPutBy offered answer.Failed = IsValue put.Failed
IsPutBy offered answer.Ended = IsNone

put_by_reader : (offered : ℕ) (a : Answer) (f : At CaptureFault) → IsReader (IsPutBy offered a) (put_by offered a f)
put_by_reader offered answer.NotYet f = value_reader put.NotYet
put_by_reader offered answer.Done f = made_reader put.Took (IsCount offered) (count_in offered) (count_reader offered)
put_by_reader offered answer.Failed f = value_reader put.Failed
put_by_reader offered answer.Ended f = none_reader f

abbrev IsPut : ℕ → Put → List ℕ → Type 0
IsPut offered a text = TakesSome a offered × PutFits a × (text ≡ put_text a)

put_reader : (offered : ℕ) → IsReader (IsPut offered) (put_in offered)
put_reader offered =
    reader_as (IsThen (IsByte answer_byte) (IsPutBy offered)) (IsPut offered) (put_in offered) to from
    (then_reader (IsByte answer_byte) (IsPutBy offered) (byte_in answer_of) (put_by offered) answer_reader (put_by_reader offered))
  where
    to : (a : Put) (text : List ℕ) → IsThen (IsByte answer_byte) (IsPutBy offered) a text → IsPut offered a text
    to a text (answer.NotYet, front, back, p, q, e) = rw (q.0, e, p, q.1) (tt, tt, refl)
    to a text (answer.Done, front, back, p, (n, same, c), e) = rw (same, e, p, c.2.1) ((c.0, c.1), c.2.0, refl)
    to a text (answer.Failed, front, back, p, q, e) = rw (q.0, e, p, q.1) (tt, tt, refl)
    to a text (answer.Ended, front, back, p, q, e) = absurd q

    from : (a : Put) (text : List ℕ) → IsPut offered a text → IsThen (IsByte answer_byte) (IsPutBy offered) a text
    from put.NotYet text h = (answer.NotYet, 0 ∷ [], [], refl, (refl, refl), h.2)
    from (put.Took n) text h = (answer.Done, 1 ∷ [], to_be_bytes w32 n, refl, (n, refl, (h.0.0, h.0.1, (h.1, refl))), h.2)
    from put.Failed text h = (answer.Failed, 2 ∷ [], [], refl, (refl, refl), h.2)

-- ---- entries by their kind

abbrev IsLinkOf : ℕ → LogEntry → List ℕ → Type 0
IsLinkOf pair = IsMade (entry.Connect pair) IsLinked

abbrev IsReadOf : ℕ × End → LogEntry → List ℕ → Type 0
IsReadOf p = IsThen (IsCount most) (λ room. IsMade (λ x. entry.Read p.0 p.1 room x.0 x.1) (IsGot room))

abbrev IsWriteOf : ℕ × End → LogEntry → List ℕ → Type 0
IsWriteOf p = IsThen (IsCount most) (λ n. IsThen (IsRun n) (λ bytes. IsMade (entry.Write p.0 p.1 bytes) (IsPut n)))

abbrev IsEntryBy : EntryKind → LogEntry → List ℕ → Type 0
IsEntryBy kind.Accept = IsMade entry.Accept IsAccepted
IsEntryBy kind.Connect = IsThen (IsNumber w32) IsLinkOf
IsEntryBy kind.Read = IsThen IsPairEnd IsReadOf
IsEntryBy kind.Write = IsThen IsPairEnd IsWriteOf
IsEntryBy kind.Shut = IsMade (λ p. entry.Shut p.0 p.1) IsPairEnd
IsEntryBy kind.Idle = IsMade entry.Idle (IsByte next_byte)
IsEntryBy kind.Now = IsMade entry.Now (IsNumber w64)

connect_reader : IsReader (IsThen (IsNumber w32) IsLinkOf) connect_in
connect_reader =
    then_reader (IsNumber w32) IsLinkOf long_in (λ pair f size bytes. made (entry.Connect pair) (linked_in size bytes)) long_reader
    (λ pair f. made_reader (entry.Connect pair) IsLinked linked_in linked_reader)

read_reader : IsReader (IsThen IsPairEnd IsReadOf) read_in
read_reader =
    then_reader IsPairEnd IsReadOf pair_end_in
    (λ p f. then_in (count_in most) (λ room f size bytes. made (λ x. entry.Read p.0 p.1 room x.0 x.1) (got_in room size bytes))) pair_end_reader
    (λ p f. then_reader (IsCount most) (λ room. IsMade (λ x. entry.Read p.0 p.1 room x.0 x.1) (IsGot room)) (count_in most)
    (λ room f size bytes. made (λ x. entry.Read p.0 p.1 room x.0 x.1) (got_in room size bytes)) (count_reader most)
    (λ room f. made_reader (λ x. entry.Read p.0 p.1 room x.0 x.1) (IsGot room) (got_in room) (got_reader room)))

write_reader : IsReader (IsThen IsPairEnd IsWriteOf) write_in
write_reader =
    then_reader IsPairEnd IsWriteOf pair_end_in
    (λ p f. then_in (count_in most) (λ n f. then_in (bytes_in n) (λ bytes f size rest. made (entry.Write p.0 p.1 bytes) (put_in n size rest)))) pair_end_reader
    (λ p f. then_reader (IsCount most) (λ n. IsThen (IsRun n) (λ bytes. IsMade (entry.Write p.0 p.1 bytes) (IsPut n))) (count_in most)
    (λ n f. then_in (bytes_in n) (λ bytes f size rest. made (entry.Write p.0 p.1 bytes) (put_in n size rest))) (count_reader most)
    (λ n f. then_reader (IsRun n) (λ bytes. IsMade (entry.Write p.0 p.1 bytes) (IsPut n)) (bytes_in n)
    (λ bytes f size rest. made (entry.Write p.0 p.1 bytes) (put_in n size rest)) (bytes_reader n)
    (λ bytes f. made_reader (entry.Write p.0 p.1 bytes) (IsPut n) (put_in n) (put_reader n))))

now_reader : IsReader (IsNumber w64) longlong_in
now_reader = record { finds = λ size. (number_reader (cut size) w64 wide64).finds size; again = λ size. (number_reader (cut size) w64 wide64).again size }

entry_by_reader : (k : EntryKind) (f : At CaptureFault) → IsReader (IsEntryBy k) (entry_by k f)
entry_by_reader kind.Accept f = made_reader entry.Accept IsAccepted accepted_in accepted_reader
entry_by_reader kind.Connect f = connect_reader
entry_by_reader kind.Read f = read_reader
entry_by_reader kind.Write f = write_reader
entry_by_reader kind.Shut f = made_reader (λ p. entry.Shut p.0 p.1) IsPairEnd pair_end_in pair_end_reader
entry_by_reader kind.Idle f = made_reader entry.Idle (IsByte next_byte) (byte_in next_of) (byte_reader next_of next_byte next_bytes)
entry_by_reader kind.Now f = made_reader entry.Now (IsNumber w64) longlong_in now_reader

-- ---- entries

-- the bytes spell an entry that a capture can hold
abbrev pub IsEntry : LogEntry → List ℕ → Type 0
IsEntry e text = IsInForm e × (text ≡ spelling_of e)

-- a count that came fits its field, as the room does
got_fits : (a : Got) (room : ℕ) (bytes : List ℕ) → HasCome a room bytes → room < 2 ^ 32 → GotFits a
got_fits (got.Bytes n) room bytes h fits = omega (arith, h.2)
got_fits got.NotYet room bytes h fits = tt
got_fits got.Ended room bytes h fits = tt
got_fits got.Failed room bytes h fits = tt

put_fits : (a : Put) (offered : ℕ) → TakesSome a offered → offered < 2 ^ 32 → PutFits a
put_fits (put.Took n) offered h fits = omega (arith, h.1)
put_fits put.NotYet offered h fits = tt
put_fits put.Failed offered h fits = tt

kinded_is : (k : EntryKind) (e : LogEntry) (back : List ℕ) → IsEntryBy k e back → IsEntry e (kind_byte k ∷ back)
kinded_is kind.Accept e back (a, same, (fits, spelled)) = rw (same, spelled) ((tt, fits), refl)
kinded_is kind.Connect e back (pair, front, rest, n, (a, same, spelled), parts) = rw (same, parts, n.1, spelled) ((tt, n.0), refl)
kinded_is kind.Read e back (p, front, rest, pe, (room, number, answer, c, (x, same, g), more), parts) =
    rw (same, parts, pe.1, more, c.2.1, g.2) ((g.0, (pe.0, c.0, c.2.0)), refl)
kinded_is kind.Write e back (p, front, rest, pe, (n, number, behind, c, (bytes, run, answer, r, (a, same, g), last), more), parts) =
    let size : length bytes ≡ n = r.0 in
    rw (same, parts, pe.1, more, c.2.1, last, r.1, g.2, ← size) (
      (record { some = omega (arith, size, c.0); small = omega (arith, size, c.2.0); taken = subst (TakesSome a) (sym size) g.0 }, pe.0),
      refl,
    )
kinded_is kind.Shut e back (p, same, pe) = rw (same, pe.1) ((tt, pe.0), refl)
kinded_is kind.Idle e back (a, same, spelled) = rw (same, spelled) ((tt, tt), refl)
kinded_is kind.Now e back (ms, same, n) = rw (same, n.1) ((tt, n.0), refl)

abbrev IsKinded : LogEntry → List ℕ → Type 0
IsKinded = IsThen (IsByte kind_byte) IsEntryBy

is_kinded : (e : LogEntry) (text : List ℕ) → IsEntry e text → IsKinded e text
is_kinded (entry.Accept a) text h = (kind.Accept, 1 ∷ [], accepted_text a, refl, (a, refl, (h.0.1, refl)), h.1)
is_kinded (entry.Connect pair a) text h =
    (kind.Connect, 2 ∷ [], to_be_bytes w32 pair ++ linked_text a, refl, (pair, to_be_bytes w32 pair, linked_text a, (h.0.1, refl), (a, refl, refl), refl), h.1)
is_kinded (entry.Read pair end room a bytes) text h = (
  kind.Read,
  3 ∷ [],
  end_text pair end ++ to_be_bytes w32 room ++ got_text a bytes,
  refl,
  (
    (pair, end),
    end_text pair end,
    to_be_bytes w32 room ++ got_text a bytes,
    (h.0.1.0, refl),
    (room, to_be_bytes w32 room, got_text a bytes, (h.0.1.1, omega (arith, h.0.1.2), (h.0.1.2, refl)), ((a, bytes), refl, (h.0.0, got_fits a room bytes h.0.0 h.0.1.2, refl)), refl),
    refl,
  ),
  h.1,
)
is_kinded (entry.Write pair end bytes a) text h =
    let small : length bytes < 2 ^ 32 = h.0.0.small in (
      kind.Write,
      4 ∷ [],
      end_text pair end ++ to_be_bytes w32 (length bytes) ++ bytes ++ put_text a,
      refl,
      (
        (pair, end),
        end_text pair end,
        to_be_bytes w32 (length bytes) ++ bytes ++ put_text a,
        (h.0.1, refl),
        (
          length bytes,
          to_be_bytes w32 (length bytes),
          bytes ++ put_text a,
          (h.0.0.some, omega arith, (small, refl)),
          (bytes, bytes, put_text a, (refl, refl), (a, refl, (h.0.0.taken, put_fits a (length bytes) h.0.0.taken small, refl)), refl),
          refl,
        ),
        refl,
      ),
      h.1,
    )
is_kinded (entry.Shut pair end) text h = (kind.Shut, 5 ∷ [], end_text pair end, refl, ((pair, end), refl, (h.0.1, refl)), h.1)
is_kinded (entry.Idle a) text h = (kind.Idle, 6 ∷ [], next_byte a ∷ [], refl, (a, refl, refl), h.1)
is_kinded (entry.Now ms) text h = (kind.Now, 7 ∷ [], to_be_bytes w64 ms, refl, (ms, refl, (h.0.1, refl)), h.1)

pub entry_reader : IsReader IsEntry entry_in
entry_reader =
    reader_as IsKinded IsEntry entry_in to is_kinded
    (then_reader (IsByte kind_byte) IsEntryBy (byte_in kind_of) entry_by (byte_reader kind_of kind_byte kind_bytes) entry_by_reader)
  where
    to : (e : LogEntry) (text : List ℕ) → IsKinded e text → IsEntry e text
    to e text (k, front, back, p, h, parts) = rw (parts, p) (kinded_is k e back h)

-- an entry has a byte at least
pub entry_filled : (e : LogEntry) (text : List ℕ) → IsEntry e text → 0 < length text
entry_filled e text h =
    let k = is_kinded e text h in
    omega (arith, ap length k.5, ap length k.3, length-append k.1 k.2)
