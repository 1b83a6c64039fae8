-- What the definitions come to on short runs, computed: a client with a wrong header; and one with the right header in two pieces,
-- whose answer goes in two writes, and then a heartbeat and a byte with which no frame begins, or a login and two closes, or a login
-- with heartbeats each second, or the whole opening with a container; a silent client; and running out of memory. The first is a
-- whole run that follows.
-- The bytes are written down here apart from the definitions.
use Rattle.std.proofs.Common.{◌≡◌, ◌<◌, ℕ, List, [], ◌∷◌, ◌++◌, refl, Some, arith}
use Rattle.gate_outside.specs.declared.ports.End.TheVariants.{Client, Up}
use Rattle.gate_outside.specs.declared.ports.Accepted.TheVariants as accepted
use Rattle.gate_outside.specs.declared.ports.Got.TheVariants as got
use Rattle.gate_outside.specs.declared.ports.Linked.TheVariants as linked
use Rattle.gate_outside.specs.declared.ports.Put.TheVariants as put
use Rattle.gate_outside.specs.declared.log.LogEntry.TheVariants.{Accept, Connect, Read, Write, Shut}
use Rattle.gate_outside.specs.declared.log.LogEntry.TheVariants.{Now}
use Rattle.std.specs.Fmt as fmt
use Rattle.std.specs.Str as str
use Rattle.std.specs.List.{AllByRecursion}
use Rattle.wire_base.specs.Bytes.{IsBytes}
use Rattle.wire_base.proofs.Bytes.{IsBytes-append, IsBytes-one, IsBytes-replicate}
use Rattle.wire_base.specs.Headers as wire
use Rattle.wire_base.specs.Reading as reading
use Rattle.frames_091.specs.Headers as headers
use Rattle.frames_091.specs.Frames as spelling
use Rattle.frames_091.specs.FrameScan as scanning
use Rattle.frames_10.specs.Frames as spelling_10
use Rattle.frames_10.specs.FrameScan as scanning_10
use Rattle.types_10.specs.Reading as trees
use Rattle.performatives_10.specs.Fields as fields
use Rattle.performatives_10.specs.Reading as performatives
use Rattle.machine_10.specs.Reading as containers
use Rattle.machine_10.specs.State as states
use Rattle.gate_relay.specs.Relayed as relayed
use Rattle.gate_runs.specs.declared.limits.Limits.{Limits}
use Rattle.gate_runs.specs.declared.served.Served.TheVariants.{PairsDone}
use Rattle.gate_runs.specs.Marks.{History, Call, Refuse, RunOut, Finish}
use Rattle.gate_runs.specs.Stages.{Taking}
use Rattle.gate_runs.specs.Journal.{journal}
use Rattle.gate_runs.specs.Next.{next, Do, EndBy, Done, AskRead, AskWrite, AskShut, AskConnect}
use Rattle.gate_runs.specs.Next.{AskNow, AskAccept, AskIdle}
use Rattle.gate_runs.specs.Serving.{Follows}
use Rattle.gate_model.specs.Frames.{limit_in}
use Rattle.gate_model.specs.Lives as lives
use Rattle.gate_model.specs.Paths as paths
use Rattle.machine_091.specs.Contents as contents
use Rattle.machine_091.specs.State as channels
use Rattle.gate_model.specs.Spelling as frames
use Rattle.gate_model.specs.Setup.{SetupText}
use Rattle.gate_pair.specs.Meaning as meaning
use Rattle.gate_pair.specs.Meaning.{pair_words, steps_of}
use Rattle.gate_relay.specs.RelayWords.{RelayWords}

-- what is computed here is opened by this one name
all_open : ℕ
unfolding meaning.pair_words relayed.read_room lives.no_lives paths.no_paths channels.no_channels contents.no_contents headers.header_scan wire.first_header scanning.scan_of scanning.stated_size scanning.frame_in frames.start_frame frames.tune_frame frames.open_ok_frame spelling.frame_text reading.text_in reading.all_items
all_open = 0

-- and what a container's units are read by
both_open : ℕ
unfolding scanning_10.scan_of scanning_10.stated_size scanning_10.stated_offset scanning_10.frame_in spelling_10.text_behind trees.level trees.row_in trees.constructor_in reading.times performatives.perf_of performatives.kind_with fields.field_in fields.leaf_in containers.read_at containers.act_of states.no_sessions fmt.digits str.is_utf8 str.chars lib.Utf8.encode
both_open = 0

-- what all pairs share: the name `gate`, the host `broker` and the virtual host `/`
abbrev shared : SetupText
shared = record { name = 103 ∷ 97 ∷ 116 ∷ 101 ∷ []; host = Some (98 ∷ 114 ∷ 111 ∷ 107 ∷ 101 ∷ 114 ∷ []); vhost = 47 ∷ []; routes = [] }

abbrev words : RelayWords
words = pair_words shared

abbrev one_pair : Limits
one_pair = record { pairs = Some 1; turns = 10 }

abbrev two_pairs : Limits
two_pairs = record { pairs = Some 2; turns = 10 }

abbrev own_header : List ℕ
own_header = 65 ∷ 77 ∷ 81 ∷ 80 ∷ 0 ∷ 0 ∷ 9 ∷ 1 ∷ []

abbrev start : List ℕ
start = 1 ∷ 0 ∷ 0 ∷ 0 ∷ 0 ∷ 0 ∷ 145 ∷ 0 ∷ 10 ∷ 0 ∷ 10 ∷ 0 ∷ 9 ∷ 0 ∷ 0 ∷ 0 ∷ 107 ∷ 7 ∷ 112 ∷ 114 ∷ 111 ∷ 100 ∷ 117 ∷ 99 ∷ 116 ∷ 83 ∷ 0 ∷ 0 ∷ 0 ∷ 9 ∷ 97 ∷ 109 ∷ 113 ∷ 112 ∷ 45 ∷ 103 ∷ 97 ∷ 116 ∷ 101 ∷ 7 ∷ 118 ∷ 101 ∷ 114 ∷ 115 ∷ 105 ∷ 111 ∷ 110 ∷ 83 ∷ 0 ∷ 0 ∷ 0 ∷ 1 ∷ 49 ∷ 12 ∷ 99 ∷ 97 ∷ 112 ∷ 97 ∷ 98 ∷ 105 ∷ 108 ∷ 105 ∷ 116 ∷ 105 ∷ 101 ∷ 115 ∷ 70 ∷ 0 ∷ 0 ∷ 0 ∷ 53 ∷ 18 ∷ 112 ∷ 117 ∷ 98 ∷ 108 ∷ 105 ∷ 115 ∷ 104 ∷ 101 ∷ 114 ∷ 95 ∷ 99 ∷ 111 ∷ 110 ∷ 102 ∷ 105 ∷ 114 ∷ 109 ∷ 115 ∷ 116 ∷ 1 ∷ 10 ∷ 98 ∷ 97 ∷ 115 ∷ 105 ∷ 99 ∷ 46 ∷ 110 ∷ 97 ∷ 99 ∷ 107 ∷ 116 ∷ 1 ∷ 16 ∷ 112 ∷ 101 ∷ 114 ∷ 95 ∷ 99 ∷ 111 ∷ 110 ∷ 115 ∷ 117 ∷ 109 ∷ 101 ∷ 114 ∷ 95 ∷ 113 ∷ 111 ∷ 115 ∷ 116 ∷ 1 ∷ 0 ∷ 0 ∷ 0 ∷ 15 ∷ 80 ∷ 76 ∷ 65 ∷ 73 ∷ 78 ∷ 32 ∷ 65 ∷ 78 ∷ 79 ∷ 78 ∷ 89 ∷ 77 ∷ 79 ∷ 85 ∷ 83 ∷ 0 ∷ 0 ∷ 0 ∷ 5 ∷ 101 ∷ 110 ∷ 95 ∷ 85 ∷ 83 ∷ 206 ∷ []

-- the beginning of both runs

abbrev begun : History
begun = Call (Now 0) ∷ []

abbrev joined : History
joined = Call (Accept (accepted.Pair 0)) ∷ begun

the_clock_first : next words one_pair [] ≡ Do AskNow
unfolding all_open
the_clock_first = refl

then_accept : next words one_pair begun ≡ Do AskAccept
unfolding all_open
then_accept = refl

then_a_read : next words one_pair joined ≡ Do (AskRead 0 Client 65536)
unfolding all_open
then_a_read = refl

-- a wrong header

abbrev misread : History
misread = Call (Read 0 Client 65536 (got.Bytes 8) (65 ∷ 77 ∷ 81 ∷ 80 ∷ 1 ∷ 1 ∷ 0 ∷ 9 ∷ [])) ∷ joined

abbrev answered : History
answered = Call (Write 0 Client own_header (put.Took 8)) ∷ misread

abbrev parted : History
parted = Call (Shut 0 Client) ∷ answered

the_own_header_answers : next words one_pair misread ≡ Do (AskWrite 0 Client own_header)
unfolding all_open
the_own_header_answers = refl

then_the_end_is_shut : next words one_pair answered ≡ Do (AskShut 0 Client)
unfolding all_open
then_the_end_is_shut = refl

then_the_pairs_are_done : next words one_pair parted ≡ EndBy PairsDone
unfolding all_open
then_the_pairs_are_done = refl

-- so the premise of the laws holds of a run
bytes_of : (text : List ℕ) → AllByRecursion (λ (b : ℕ). b < 256) text → IsBytes text
bytes_of [] small = IsBytes-replicate 0
bytes_of (b ∷ text) small = IsBytes-append (b ∷ []) text (IsBytes-one b small.0) (bytes_of text small.1)

misread_bytes : IsBytes (65 ∷ 77 ∷ 81 ∷ 80 ∷ 1 ∷ 1 ∷ 0 ∷ 9 ∷ [])
misread_bytes =
    bytes_of (65 ∷ 77 ∷ 81 ∷ 80 ∷ 1 ∷ 1 ∷ 0 ∷ 9 ∷ [])
    (omega arith, (omega arith, (omega arith, (omega arith, (omega arith, (omega arith, (omega arith, (omega arith, tt))))))))

follows : Follows words one_pair (Finish PairsDone ∷ parted)
unfolding all_open
follows = (
  refl,
  refl,
  (refl, tt, (refl, (omega arith, omega arith), (refl, (omega arith, omega arith, refl, misread_bytes), (refl, refl, (refl, omega arith, tt))))),
)

then_nothing : next words one_pair (Finish PairsDone ∷ parted) ≡ Done
unfolding all_open
then_nothing = refl

-- the right header in two pieces

abbrev first_piece : History
first_piece = Call (Read 0 Client 65536 (got.Bytes 3) (65 ∷ 77 ∷ 81 ∷ [])) ∷ joined

abbrev second_piece : History
second_piece = Call (Read 0 Client 65536 (got.Bytes 5) (80 ∷ 0 ∷ 0 ∷ 9 ∷ 1 ∷ [])) ∷ Call (Accept accepted.NotYet) ∷ Call (Now 1) ∷ first_piece

abbrev most_went : History
most_went = Call (Write 0 Client start (put.Took 150)) ∷ second_piece

a_front_has_no_answer : next words two_pairs first_piece ≡ Do AskNow
unfolding all_open
a_front_has_no_answer = refl

start_answers : next words two_pairs second_piece ≡ Do (AskWrite 0 Client start)
unfolding all_open
start_answers = refl

then_its_rest : next words two_pairs most_went ≡ Do (AskWrite 0 Client (85 ∷ 83 ∷ 206 ∷ []))
unfolding all_open
then_its_rest = refl

-- then a heartbeat, which has no answer, and behind it a byte with which no frame begins

abbrev start_went : History
start_went = Call (Write 0 Client (85 ∷ 83 ∷ 206 ∷ []) (put.Took 3)) ∷ most_went

abbrev beaten : History
beaten = Call (Read 0 Client 65536 (got.Bytes 8) (8 ∷ 0 ∷ 0 ∷ 0 ∷ 0 ∷ 0 ∷ 0 ∷ 206 ∷ [])) ∷ Call (Accept accepted.NotYet) ∷ Call (Now 2) ∷ start_went

abbrev broken : History
broken = Call (Read 0 Client 65536 (got.Bytes 9) (8 ∷ 0 ∷ 0 ∷ 0 ∷ 0 ∷ 0 ∷ 0 ∷ 206 ∷ 9 ∷ [])) ∷ Call (Accept accepted.NotYet) ∷ Call (Now 2) ∷ start_went

abbrev close : List ℕ
close = 1 ∷ 0 ∷ 0 ∷ 0 ∷ 0 ∷ 0 ∷ 22 ∷ 0 ∷ 10 ∷ 0 ∷ 50 ∷ 1 ∷ 245 ∷ 11 ∷ 70 ∷ 82 ∷ 65 ∷ 77 ∷ 69 ∷ 95 ∷ 69 ∷ 82 ∷ 82 ∷ 79 ∷ 82 ∷ 0 ∷ 0 ∷ 0 ∷ 0 ∷ 206 ∷ []

abbrev closed : History
closed = Call (Write 0 Client close (put.Took 30)) ∷ broken

a_heartbeat_has_no_answer : next words two_pairs beaten ≡ Do AskNow
unfolding all_open
a_heartbeat_has_no_answer = refl

then_close_answers : next words two_pairs broken ≡ Do (AskWrite 0 Client close)
unfolding all_open
then_close_answers = refl

then_its_end_is_shut : next words two_pairs closed ≡ Do (AskShut 0 Client)
unfolding all_open
then_its_end_is_shut = refl

-- or a login and two closes in one read: the first close is refused, since a tune-ok is awaited, and the gateway's own close isn't
-- sent, since the second comes before any byte of it went

abbrev login : List ℕ
login = 1 ∷ 0 ∷ 0 ∷ 0 ∷ 0 ∷ 0 ∷ 28 ∷ 0 ∷ 10 ∷ 0 ∷ 11 ∷ 0 ∷ 0 ∷ 0 ∷ 0 ∷ 5 ∷ 80 ∷ 76 ∷ 65 ∷ 73 ∷ 78 ∷ 0 ∷ 0 ∷ 0 ∷ 4 ∷ 0 ∷ 97 ∷ 0 ∷ 98 ∷ 5 ∷ 101 ∷ 110 ∷ 95 ∷ 85 ∷ 83 ∷ 206 ∷ []

abbrev client_close : List ℕ
client_close = 1 ∷ 0 ∷ 0 ∷ 0 ∷ 0 ∷ 0 ∷ 11 ∷ 0 ∷ 10 ∷ 0 ∷ 50 ∷ 0 ∷ 200 ∷ 0 ∷ 0 ∷ 0 ∷ 0 ∷ 0 ∷ 206 ∷ []

abbrev tune : List ℕ
tune = 1 ∷ 0 ∷ 0 ∷ 0 ∷ 0 ∷ 0 ∷ 12 ∷ 0 ∷ 10 ∷ 0 ∷ 30 ∷ 0 ∷ 255 ∷ 0 ∷ 2 ∷ 0 ∷ 0 ∷ 0 ∷ 60 ∷ 206 ∷ []

abbrev close_ok : List ℕ
close_ok = 1 ∷ 0 ∷ 0 ∷ 0 ∷ 0 ∷ 0 ∷ 4 ∷ 0 ∷ 10 ∷ 0 ∷ 51 ∷ 206 ∷ []

abbrev crossed : History
crossed = Call (Read 0 Client 65536 (got.Bytes 74) (login ++ client_close ++ client_close)) ∷ Call (Accept accepted.NotYet) ∷ Call (Now 2) ∷ start_went

abbrev tune_went : History
tune_went = Call (Write 0 Client tune (put.Took 20)) ∷ crossed

abbrev close_ok_went : History
close_ok_went = Call (Write 0 Client close_ok (put.Took 12)) ∷ tune_went

tune_answers : next words two_pairs crossed ≡ Do (AskWrite 0 Client tune)
unfolding all_open
tune_answers = refl

then_close_ok_alone : next words two_pairs tune_went ≡ Do (AskWrite 0 Client close_ok)
unfolding all_open
then_close_ok_alone = refl

then_all_is_said : next words two_pairs close_ok_went ≡ Do (AskShut 0 Client)
unfolding all_open
then_all_is_said = refl

-- or a login and tune-ok with heartbeats each second, and then silence: after half of it a heartbeat goes, and no second one at once

abbrev tune_ok : List ℕ
tune_ok = 1 ∷ 0 ∷ 0 ∷ 0 ∷ 0 ∷ 0 ∷ 12 ∷ 0 ∷ 10 ∷ 0 ∷ 31 ∷ 0 ∷ 255 ∷ 0 ∷ 2 ∷ 0 ∷ 0 ∷ 0 ∷ 1 ∷ 206 ∷ []

abbrev heartbeat : List ℕ
heartbeat = 8 ∷ 0 ∷ 0 ∷ 0 ∷ 0 ∷ 0 ∷ 0 ∷ 206 ∷ []

abbrev tuned : History
tuned =
    Call (Read 0 Client 65536 (got.Bytes 20) tune_ok) ∷ Call (Accept accepted.NotYet) ∷ Call (Now 3)
    ∷ Call (Write 0 Client tune (put.Took 20)) ∷ Call (Read 0 Client 65536 (got.Bytes 36) login) ∷ Call (Accept accepted.NotYet) ∷ Call (Now 2) ∷ start_went

-- nothing came by this moment
abbrev silent : ℕ → History → History
silent ms m = Call (Read 0 Client 65536 got.NotYet []) ∷ Call (Accept accepted.NotYet) ∷ Call (Now ms) ∷ m

no_heartbeat_yet : next words two_pairs (silent 501 tuned) ≡ Do AskIdle
unfolding all_open
no_heartbeat_yet = refl

then_a_heartbeat : next words two_pairs (silent 502 tuned) ≡ Do (AskWrite 0 Client heartbeat)
unfolding all_open
then_a_heartbeat = refl

then_the_clock : next words two_pairs (Call (Write 0 Client heartbeat (put.Took 8)) ∷ silent 502 tuned) ≡ Do AskNow
unfolding all_open
then_the_clock = refl

-- after twice of it the client is given up: its end is shut, once the heartbeat that is due went

abbrev beaten_by : ℕ → History
beaten_by ms = Call (Write 0 Client heartbeat (put.Took 8)) ∷ silent ms tuned

not_given_up_yet : next words two_pairs (beaten_by 2002) ≡ Do AskNow
unfolding all_open
not_given_up_yet = refl

then_given_up : next words two_pairs (beaten_by 2003) ≡ Do (AskShut 0 Client)
unfolding all_open
then_given_up = refl

-- or a login, tune-ok and open in one read: the connection upstream is asked for, and while the open waits the client isn't read.
-- Where it fails the client is told so

abbrev client_open : List ℕ
client_open = 1 ∷ 0 ∷ 0 ∷ 0 ∷ 0 ∷ 0 ∷ 8 ∷ 0 ∷ 10 ∷ 0 ∷ 40 ∷ 1 ∷ 47 ∷ 0 ∷ 0 ∷ 206 ∷ []

abbrev opening : History
opening =
    Call (Read 0 Client 65536 (got.Bytes 36) (tune_ok ++ client_open)) ∷ Call (Accept accepted.NotYet) ∷ Call (Now 3)
    ∷ Call (Write 0 Client tune (put.Took 20)) ∷ Call (Read 0 Client 65536 (got.Bytes 36) login) ∷ Call (Accept accepted.NotYet) ∷ Call (Now 2) ∷ start_went

the_connection_is_asked_for : next words two_pairs opening ≡ Do (AskConnect 0)
unfolding all_open
the_connection_is_asked_for = refl

abbrev forced : List ℕ
forced = 1 ∷ 0 ∷ 0 ∷ 0 ∷ 0 ∷ 0 ∷ 28 ∷ 0 ∷ 10 ∷ 0 ∷ 50 ∷ 1 ∷ 64 ∷ 17 ∷ 67 ∷ 79 ∷ 78 ∷ 78 ∷ 69 ∷ 67 ∷ 84 ∷ 73 ∷ 79 ∷ 78 ∷ 95 ∷ 70 ∷ 79 ∷ 82 ∷ 67 ∷ 69 ∷ 68 ∷ 0 ∷ 0 ∷ 0 ∷ 0 ∷ 206 ∷ []

then_a_failure_is_told : next words two_pairs (Call (Connect 0 linked.Failed) ∷ opening) ≡ Do (AskWrite 0 Client forced)
unfolding all_open
then_a_failure_is_told = refl

-- where it doesn't the SASL layer begins, and the container is asked for the client's own login

abbrev sasl_header : List ℕ
sasl_header = 65 ∷ 77 ∷ 81 ∷ 80 ∷ 3 ∷ 1 ∷ 0 ∷ 0 ∷ []

abbrev mechanisms : List ℕ
mechanisms = 0 ∷ 0 ∷ 0 ∷ 34 ∷ 2 ∷ 1 ∷ 0 ∷ 0 ∷ 0 ∷ 83 ∷ 64 ∷ 192 ∷ 21 ∷ 1 ∷ 224 ∷ 18 ∷ 2 ∷ 163 ∷ 5 ∷ 80 ∷ 76 ∷ 65 ∷ 73 ∷ 78 ∷ 9 ∷ 65 ∷ 78 ∷ 79 ∷ 78 ∷ 89 ∷ 77 ∷ 79 ∷ 85 ∷ 83 ∷ []

abbrev init : List ℕ
init = 0 ∷ 0 ∷ 0 ∷ 27 ∷ 2 ∷ 1 ∷ 0 ∷ 0 ∷ 0 ∷ 83 ∷ 65 ∷ 192 ∷ 14 ∷ 2 ∷ 163 ∷ 5 ∷ 80 ∷ 76 ∷ 65 ∷ 73 ∷ 78 ∷ 160 ∷ 4 ∷ 0 ∷ 97 ∷ 0 ∷ 98 ∷ []

abbrev reached : History
reached = Call (Connect 0 linked.Ok) ∷ opening

abbrev welcomed : History
welcomed =
    Call (Read 0 Up 65536 (got.Bytes 42) (sasl_header ++ mechanisms)) ∷ Call (Accept accepted.NotYet) ∷ Call (Now 4)
    ∷ Call (Write 0 Up sasl_header (put.Took 8)) ∷ reached

the_sasl_layer_begins : next words two_pairs reached ≡ Do (AskWrite 0 Up sasl_header)
unfolding all_open
the_sasl_layer_begins = refl

then_the_login_goes : next words two_pairs welcomed ≡ Do (AskWrite 0 Up init)
unfolding all_open both_open
then_the_login_goes = refl

-- once it succeeded the container is opened, and by its own open the client's connection

abbrev outcome : List ℕ
outcome = 0 ∷ 0 ∷ 0 ∷ 16 ∷ 2 ∷ 1 ∷ 0 ∷ 0 ∷ 0 ∷ 83 ∷ 68 ∷ 192 ∷ 3 ∷ 1 ∷ 80 ∷ 0 ∷ []

abbrev amqp_header : List ℕ
amqp_header = 65 ∷ 77 ∷ 81 ∷ 80 ∷ 0 ∷ 1 ∷ 0 ∷ 0 ∷ []

abbrev gate_open : List ℕ
gate_open = 0 ∷ 0 ∷ 0 ∷ 43 ∷ 2 ∷ 0 ∷ 0 ∷ 0 ∷ 0 ∷ 83 ∷ 16 ∷ 192 ∷ 30 ∷ 5 ∷ 161 ∷ 6 ∷ 103 ∷ 97 ∷ 116 ∷ 101 ∷ 45 ∷ 48 ∷ 161 ∷ 6 ∷ 98 ∷ 114 ∷ 111 ∷ 107 ∷ 101 ∷ 114 ∷ 112 ∷ 0 ∷ 1 ∷ 0 ∷ 0 ∷ 96 ∷ 0 ∷ 255 ∷ 112 ∷ 0 ∷ 0 ∷ 234 ∷ 96 ∷ []

abbrev container_open : List ℕ
container_open = 0 ∷ 0 ∷ 0 ∷ 26 ∷ 2 ∷ 0 ∷ 0 ∷ 0 ∷ 0 ∷ 83 ∷ 16 ∷ 192 ∷ 13 ∷ 4 ∷ 161 ∷ 1 ∷ 99 ∷ 64 ∷ 112 ∷ 0 ∷ 1 ∷ 0 ∷ 0 ∷ 96 ∷ 255 ∷ 255 ∷ []

abbrev open_ok : List ℕ
open_ok = 1 ∷ 0 ∷ 0 ∷ 0 ∷ 0 ∷ 0 ∷ 5 ∷ 0 ∷ 10 ∷ 0 ∷ 41 ∷ 0 ∷ 206 ∷ []

abbrev let_in : History
let_in =
    Call (Read 0 Up 65536 (got.Bytes 16) outcome) ∷ Call (Accept accepted.NotYet) ∷ Call (Now 5)
    ∷ Call (Write 0 Up init (put.Took 27)) ∷ welcomed

abbrev answering : History
answering =
    Call (Read 0 Up 65536 (got.Bytes 8) amqp_header) ∷ Call (Accept accepted.NotYet) ∷ Call (Now 6)
    ∷ Call (Write 0 Up amqp_header (put.Took 8)) ∷ let_in

abbrev opened : History
opened =
    Call (Read 0 Client 65536 got.NotYet []) ∷ Call (Read 0 Up 65536 (got.Bytes 26) container_open) ∷ Call (Accept accepted.NotYet) ∷ Call (Now 7)
    ∷ Call (Write 0 Up gate_open (put.Took 43)) ∷ answering

then_the_header_goes : next words two_pairs let_in ≡ Do (AskWrite 0 Up amqp_header)
unfolding all_open both_open
then_the_header_goes = refl

then_the_open_goes : next words two_pairs answering ≡ Do (AskWrite 0 Up gate_open)
unfolding all_open both_open
then_the_open_goes = refl

then_the_client_is_let_in : next words two_pairs opened ≡ Do (AskWrite 0 Client open_ok)
unfolding all_open both_open
then_the_client_is_let_in = refl

-- a client that sends nothing has 10,000 milliseconds

abbrev mute : History
mute = Call (Read 0 Client 65536 got.NotYet []) ∷ joined

not_late_yet : next words two_pairs (silent 9999 mute) ≡ Do AskIdle
unfolding all_open
not_late_yet = refl

then_late : next words two_pairs (silent 10000 mute) ≡ Do (AskShut 0 Client)
unfolding all_open
then_late = refl

-- want of memory at the accept, or at the read with which the header is whole: nothing was said, and nothing is. The
-- first step of a read that doesn't count is that its lines were told

refused_at_once : next words two_pairs (Refuse 0 ∷ joined) ≡ Do (AskShut 0 Client)
unfolding all_open
refused_at_once = refl

silent_before_the_header : next words two_pairs (RunOut 0 Taking 2 ∷ second_piece) ≡ Do (AskShut 0 Client)
unfolding all_open
silent_before_the_header = refl

-- or at a later read, whose units are passed over

abbrev no_memory : List ℕ
no_memory = 1 ∷ 0 ∷ 0 ∷ 0 ∷ 0 ∷ 0 ∷ 20 ∷ 0 ∷ 10 ∷ 0 ∷ 50 ∷ 1 ∷ 250 ∷ 9 ∷ 78 ∷ 79 ∷ 95 ∷ 77 ∷ 69 ∷ 77 ∷ 79 ∷ 82 ∷ 89 ∷ 0 ∷ 0 ∷ 0 ∷ 0 ∷ 206 ∷ []

then_no_memory : next words two_pairs (RunOut 0 Taking 4 ∷ crossed) ≡ Do (AskWrite 0 Client no_memory)
unfolding all_open
then_no_memory = refl

then_the_strained_is_shut : next words two_pairs (Call (Write 0 Client no_memory (put.Took 28)) ∷ RunOut 0 Taking 4 ∷ crossed) ≡ Do (AskShut 0 Client)
unfolding all_open
then_the_strained_is_shut = refl

-- the greatest frame that a client takes: the least that it can agree to, and then what it agreed to, unless its tune-ok was passed over

the_least_at_first : limit_in (steps_of shared (journal 0 crossed)) ≡ 4096
unfolding all_open
the_least_at_first = refl

then_the_agreed : limit_in (steps_of shared (journal 0 tuned)) ≡ 131072
unfolding all_open
then_the_agreed = refl

still_the_least : limit_in (steps_of shared (journal 0 (RunOut 0 Taking 2 ∷ tuned))) ≡ 4096
unfolding all_open
still_the_least = refl
