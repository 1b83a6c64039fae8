-- What the entries of a pair say: its steps, the bytes of each end that are no unit yet, and
-- the rest of each unit in progress.
use Rattle.std.specs.Prelude.{ℕ, nat_lt, Bool, true, false, not, ◌&&◌, if◌then◌else◌}
use Rattle.std.specs.Prelude.{List, [], ◌∷◌}
use Rattle.std.specs.Prelude.{◌++◌, length, drop, Option, Some, None}
use Rattle.std.specs.Option.{option_map}
use Rattle.gate_outside.specs.declared.ports.End.{End}
use Rattle.gate_outside.specs.declared.ports.End.TheVariants.{Client, Up}
use Rattle.gate_relay.specs.Entries as entry
use Rattle.gate_relay.specs.Entries.{Entry}
use Rattle.gate_relay.specs.RelayWords.{RelayWords}
use Rattle.gate_model.specs.declared.outgoing.Outgoing.{Outgoing}
use Rattle.gate_model.specs.Due.{can_leave, can_take_up, carries, is_awaiting, is_busy}
use Rattle.gate_model.specs.Due.{is_end_next}
use Rattle.gate_model.specs.Due.{is_connect_due, is_shut_due, is_silent, pick, takes_memory}
use Rattle.gate_model.specs.Setup.{SetupText, site_of}
use Rattle.open_items.specs.declared.lost.LostItem.{LostItem}
use Rattle.gate_model.specs.Spelling.{context_of, lines_text, spell}
use Rattle.gate_model.specs.State.{State, Step, Began, Moment, Fed, Silent, TakenUp, Joined, Lost}
use Rattle.gate_model.specs.State.{Gave, Whole}
use Rattle.gate_model.specs.State.{LinesTold, OutOfMemory, before, owed_lines}
use Rattle.gate_pair.specs.Cutting.{Cut, cut_all, settle}

pub record Stream : Type 0 where
  -- bytes of an end that are no unit yet
  pub unread : List ℕ
  -- what is left of the unit to it that is in progress
  pub rest : List ℕ

pub record Told : Type 0 where
  -- the steps that the newest entry brought and that out of memory can take back
  pub fresh : List Step
  -- the steps before them
  pub past : List Step
  pub client : Stream
  pub up : Stream
  -- the newest entry may make lines of the report due
  pub telling : Bool

abbrev pub steps : Told → List Step
steps t = t.fresh ++ t.past

abbrev pub stream_of : End → Told → Stream
stream_of Client t = t.client
stream_of Up t = t.up

-- the bytes of a unit that goes next, with what it carries
abbrev pub spelled_in : SetupText → State → Outgoing → List ℕ
spelled_in s w u = spell (context_of s w) u (carries w u)

-- the bytes that are offered to an end: the rest of the unit in progress, or the unit that goes
-- next
abbrev pub offered : SetupText → End → State → List ℕ → Option (List ℕ)
offered s end w rest =
    if is_busy w end then Some rest else option_map (spelled_in s w) (pick w end)

-- the first byte of the unit that goes next, unless one is in progress
abbrev pub given : State → Option Outgoing → List Step
given w None = []
given w (Some u) = Gave u (carries w u) ∷ []

abbrev pub begins : End → State → List Step
begins end w = if is_busy w end then [] else given w (pick w end)

-- and its last, where all that was offered was taken
abbrev pub ends : End → ℕ → List ℕ → List Step
ends end n bytes = if nat_lt n (length bytes) then [] else Whole end ∷ []

-- steps that out of memory doesn't take back
abbrev pub made : List Step → Told → Told
made g t = record t { fresh = []; past = g ++ steps t }

-- steps that it may
abbrev pub brought : List Step → Told → Told
brought g t = record t { fresh = g; past = steps t }

-- the bytes of an end, cut into units
abbrev pub heard : End → List ℕ → Told → Cut
heard end bytes t = cut_all end (before (steps t)) bytes

abbrev pub read_in : End → List ℕ → Told → Told
read_in Client bytes t =
    let c = heard Client (t.client.unread ++ bytes) t in
    record t { fresh = c.fresh; past = steps t; client = record t.client { unread = c.unread } }
read_in Up bytes t =
    let c = heard Up (t.up.unread ++ bytes) t in
    record t { fresh = c.fresh; past = steps t; up = record t.up { unread = c.unread } }

-- a read, and the units that it ends
abbrev pub came : End → List ℕ → Told → Told
came end bytes t = read_in end bytes (made (Fed end ∷ []) t)

-- an end is given up where no byte of it came for too long, the client first
abbrev pub given_up : End → State → List Step
given_up end w = if is_silent w end then Silent end ∷ [] else []

abbrev pub watched : End → Told → Told
watched end t = made (given_up end (before (steps t))) t

-- a moment, and what it makes of silence
abbrev pub ticked : ℕ → Told → Told
ticked ms t = watched Up (watched Client (made (Moment ms ∷ []) t))

-- behind the client's units, that its end ended or failed is taken up
abbrev pub leaves : State → List Step
leaves w = if can_leave w then TakenUp ∷ [] else []

abbrev pub taken_up : Told → Told
taken_up t =
    let g = settle (before (steps t)) [] in record t {
      fresh = leaves (before (g ++ steps t))
          ++ g;
      past = steps t;
    }

-- a take-up: what it makes due is reported behind what was due before
abbrev pub settled : Told → Told
settled t = taken_up (made (LinesTold ∷ []) t)

abbrev pub took : End → ℕ → List ℕ → Told → Told
took Client n bytes t =
    record (made (ends Client n bytes ++ begins Client (before (steps t))) t) {
      client = record t.client { rest = drop n bytes };
    }
took Up n bytes t =
    record (made (ends Up n bytes ++ begins Up (before (steps t))) t) {
      up = record t.up { rest = drop n bytes };
    }

-- bytes that are no unit yet are dropped
abbrev pub forgotten : Stream → Stream
forgotten x = record x { unread = [] }

-- of what the newest entry brought the newest `cut` don't count. The newest of all is that its
-- lines were told: within a read or a take-up they aren't yet, so 1 is cut at least, and the steps
-- that count have their lines told with those of running out
abbrev pub counted : ℕ → Told → List Step
counted cut t = drop cut (LinesTold ∷ t.fresh) ++ t.past

abbrev pub ran_out : ℕ → Told → Told
ran_out cut t = record {
  fresh = [];
  past = OutOfMemory ∷ counted cut t;
  client = forgotten t.client;
  up = forgotten t.up;
  telling = t.telling;
}

abbrev pub tell_steps : SetupText → Entry → Told → Told
tell_steps s (entry.Began p ms) t = made (Began (site_of s) p ms ∷ []) t
tell_steps s entry.Refused t = made (OutOfMemory ∷ []) t
tell_steps s (entry.Moment ms) t = ticked ms t
tell_steps s (entry.Came end bytes) t = came end bytes t
tell_steps s (entry.Dry end) t = brought [] t
tell_steps s entry.Settled t = settled t
tell_steps s (entry.Joined answer) t = made (Joined answer ∷ []) t
tell_steps s (entry.Took end bytes n) t = took end n bytes t
tell_steps s (entry.Stuck end bytes) t = brought [] t
tell_steps s (entry.Lost end how) t = made (Lost end how ∷ []) t
tell_steps s (entry.OutOfMemory cut) t = ran_out cut t
tell_steps s entry.Over t = brought [] t

-- ---- lines of the report

-- sessions, links and the container's end are lost by a moment, by what the container sends, by a
-- connect, by the loss of its end and by an end of a session that goes. What the client sends is
-- taken up in a read of it or later, and its closing events, as those of a moment and of want of
-- memory, lose the deliveries that came settled and weren't written whole. A pair that is refused
-- has no lines
abbrev pub tells : Entry → Told → Bool
tells (entry.Began p ms) t = false
tells entry.Refused t = false
tells (entry.Moment ms) t = true
tells (entry.Came end bytes) t = true
tells (entry.Dry end) t = false
tells entry.Settled t = true
tells (entry.Joined answer) t = true
tells (entry.Took Client bytes n) t = false
tells (entry.Took Up bytes n) t = is_end_next (before (steps t))
tells (entry.Stuck end bytes) t = false
tells (entry.Lost Client how) t = false
tells (entry.Lost Up how) t = true
tells (entry.OutOfMemory cut) t = true
tells entry.Over t = false

-- those that the newest entry makes due
abbrev pub fresh_lines : Told → List LostItem
fresh_lines t = if t.telling then owed_lines (before (steps t)) else []

abbrev pub tell : SetupText → Entry → Told → Told
tell s e t = record (tell_steps s e t) { telling = tells e t }

abbrev pub no_stream : Stream
no_stream = record { unread = []; rest = [] }

abbrev pub nothing : Told
nothing = record { fresh = []; past = []; client = no_stream; up = no_stream; telling = false }

abbrev pub told : SetupText → List Entry → Told
told s [] = nothing
told s (e ∷ h) = tell s e (told s h)

abbrev pub steps_of : SetupText → List Entry → List Step
steps_of s h = steps (told s h)

abbrev pub state_of : SetupText → List Entry → State
state_of s h = before (steps_of s h)

-- the unit that goes next to an end takes memory
abbrev pub needs_memory : State → End → Bool
needs_memory w end = not (is_busy w end) && takes_memory (pick w end)

-- the words of a pair
unfoldable pub pair_words : SetupText → RelayWords
pair_words s = record {
  awaits = λ end h. is_awaiting (state_of s h) end;
  takes_up = λ h. can_take_up (state_of s h);
  connects = λ h. is_connect_due (state_of s h);
  offer = λ end h. offered s end (state_of s h) (stream_of end (told s h)).rest;
  takes_memory = λ end h. needs_memory (state_of s h) end;
  shut_due = λ end h. is_shut_due (state_of s h) end;
  lines = λ h. lines_text (state_of s h).number (fresh_lines (told s h));
}
