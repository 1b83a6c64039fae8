-- Which places of the order of refusals apply, where a frame counts and where one closes its channel.
use Rattle.std.proofs.Common.{◌≡◌, ℕ, ◌≤◌, Bool, true, false, cond, eqb, nat_lt, ◌&&◌, List, []}
use Rattle.std.proofs.Common.{◌∷◌, ◌++◌, length, Option, None, Some, Ok, Err, refl, sym, ap, ◌∙◌}
use Rattle.std.proofs.Common.{arith}
use Rattle.std.proofs.lemmas.Bool.{eqb-true}
use Rattle.std.proofs.lemmas.Bool.Decides.{nat_tests}
use Rattle.close_translate.specs.declared.codes.TheConstants.{CHANNEL_ERROR, COMMAND_INVALID}
use Rattle.close_translate.specs.declared.codes.TheConstants.{CONTENT_TOO_LARGE, FRAME_ERROR}
use Rattle.close_translate.specs.declared.codes.TheConstants.{NOT_ALLOWED, NOT_IMPLEMENTED}
use Rattle.close_translate.specs.declared.codes.TheConstants.{RESOURCE_ERROR, UNEXPECTED_FRAME}
use Rattle.content_091.specs.declared.assembly.ContentFault.TheVariants as fault
use Rattle.content_091.specs.declared.assembly.Step.TheVariants as step
use Rattle.frames_091.specs.declared.frame.Frame91.{Frame91}
use Rattle.frames_091.specs.declared.frame.Kind91.{Kind91}
use Rattle.frames_091.specs.declared.frame.Kind91.TheVariants as frame
use Rattle.methods_091.specs.Rows.{Kind, class_of, id_of}
use Rattle.methods_091.specs.Arguments.{Arg}
use Rattle.methods_091.specs.Reading.{Read, method_in}
use Rattle.machine_091.specs.Contents.{Taking, is_immediate}
use Rattle.machine_091.specs.Ids.{class_in, id_in, has_ids, is_in, is_of_kind}
use Rattle.machine_091.specs.Refusals.{places, order_place, channel_place, closing_place}
use Rattle.machine_091.specs.Refusals.{content_place, reading_place, state_place, own_place}
use Rattle.machine_091.specs.Refusals.{taken_by}
use Rattle.machine_091.specs.RefusalsContents.{within_order}
use Rattle.machine_091.specs.RefusalsFrames.{first, refused, content_order, channel_order}
use Rattle.machine_091.specs.RefusalsFrames.{closing_order, passed_over, state_order, reading_order}
use Rattle.machine_091.specs.RefusalsFrames.{is_opening, is_closing, is_answering}
use Rattle.machine_091.specs.RefusalsOpening.{is_expected, expected_order, opening_refusal}
use Rattle.machine_091.specs.RefusalsOpening.{opening_refusal_in}
use Rattle.machine_091.specs.RefusalsRunning.{class_order, is_servers, answer_order, running_state}
use Rattle.machine_091.specs.RefusalsRunning.{carried_order, is_done, running_refusal}
use Rattle.machine_091.specs.State.{is_running, is_open_channel, is_open, channel_at, content_at}
use Rattle.machine_091.specs.declared.contents.Incoming.{Incoming}
use Rattle.machine_091.specs.declared.ids.TheConstants.{BASIC_PUBLISH, CHANNEL_OPEN}
use Rattle.machine_091.specs.declared.ids.TheConstants.{CHANNEL_CLOSE, CHANNEL_CLOSE_OK, CONNECTION}
use Rattle.machine_091.specs.declared.ids.TheConstants.{CONNECTION_CLOSE}
use Rattle.machine_091.specs.declared.state.Channel91.{Channel91}
use Rattle.machine_091.specs.declared.state.Channel91.TheVariants as channel
use Rattle.machine_091.specs.declared.state.Connection.{Connection}
use Rattle.machine_091.specs.declared.state.Phase91.{Phase91}
use Rattle.machine_091.specs.declared.state.Phase91.TheVariants as phase
use Rattle.machine_091.specs.declared.unit.Ruling.{Ruling}
use Rattle.machine_091.specs.declared.unit.Ruling.TheVariants as ruling
use Rattle.machine_091.proofs.ContentSteps.{content_places, taking_places}
use Rattle.machine_091.proofs.IdLaws.{ids_known}

-- ---- where a frame counts

-- on a channel that is open, of a connection that runs
pub record IsOnOpen (c : Connection) (n : ℕ) : Type 0 where
  pub runs : is_running c.phase ≡ true
  pub min : 1 ≤ n
  pub max : n ≤ c.limits.channel_max
  pub opened : is_open_channel (channel_at c n) ≡ true

-- ---- places that don't apply

pub rest_none : (p : Option Ruling) (ps : List (Option Ruling)) → first (p ∷ ps) ≡ None → first ps ≡ None
rest_none None ps e = e
rest_none (Some r) ps e = absurd cc

pub first_none : (p : Option Ruling) (ps : List (Option Ruling)) → first (p ∷ ps) ≡ None → p ≡ None
first_none None ps e = refl
first_none (Some r) ps e = absurd cc

-- what is known of a method frame that counts
pub record NoneOfMethod (c : Connection) (f : Frame91) (read : Read) : Type 0 where
  pub channel : channel_place c f frame.Method ≡ None
  pub closing : closing_place c f frame.Method ≡ None
  pub within : within_order (content_at c f.channel) ≡ None
  pub reading : reading_place c f read frame.Method ≡ None
  pub own : own_place c f read frame.Method ≡ None

pub none_of_method : (c : Connection) (f : Frame91) (read : Read) → first (places c f read frame.Method) ≡ None → NoneOfMethod c f read
none_of_method c f read e =
    let a = rest_none (order_place c f read frame.Method) _ e in
    let b = rest_none (channel_place c f frame.Method) _ a in
    let d = rest_none (closing_place c f frame.Method) _ b in
    let g = rest_none (content_place c f frame.Method) _ d in
    let h = rest_none (reading_place c f read frame.Method) _ g in
    let i = rest_none (state_place c f.channel read frame.Method) _ h in
    record { channel = first_none _ _ a; closing = first_none _ _ b; within = first_none _ _ d; reading = first_none _ _ g; own = first_none _ _ i }

-- no content is in progress
pub none_within : (o : Option Incoming) → within_order o ≡ None → o ≡ None
none_within None e = refl
none_within (Some i) e = absurd cc

-- a channel other than 0 whose place doesn't apply
pub within : (c : Connection) (n : ℕ) (opening : Bool) → eqb n 0 ≡ false → channel_order c n opening ≡ None → n ≤ c.limits.channel_max
within c n opening z e = by (eqb n 0) (nat_lt c.limits.channel_max n) z refl e
  where
    by : (zero above : Bool) → zero ≡ false → nat_lt c.limits.channel_max n ≡ above
        → cond {A = Option Ruling} zero None (cond {A = Option Ruling} above (refused CHANNEL_ERROR) (state_order (channel_at c n) opening)) ≡ None
        → n ≤ c.limits.channel_max
    by true above z s e = absurd cc
    by false true z s e = absurd cc
    by false false z s e = grind (arith, nat_tests, s)

pub not_zero : (n : ℕ) → eqb n 0 ≡ false → 1 ≤ n
not_zero n e = grind (arith, nat_tests, e)

-- what neither opens nor ends a channel counts where the channel is open
open_is : (c : Connection) (n : ℕ) → eqb n 0 ≡ false → channel_order c n false ≡ None → closing_order c n false false ≡ None
    → is_open_channel (channel_at c n) ≡ true
open_is c n z e k = by (eqb n 0) (nat_lt c.limits.channel_max n) (channel_at c n) z e k
  where
    by : (zero above : Bool) (s : Channel91) → zero ≡ false
        → cond {A = Option Ruling} zero None (cond {A = Option Ruling} above (refused CHANNEL_ERROR) (state_order s false)) ≡ None
        → cond {A = Option Ruling} zero None (passed_over s false false) ≡ None → is_open_channel s ≡ true
    by true above s z e k = absurd cc
    by false true s z e k = absurd cc
    by false false channel.Free z e k = absurd cc
    by false false channel.Open z e k = refl
    by false false channel.Closing z e k = absurd cc
    by false false channel.Told z e k = absurd cc

on_open : (c : Connection) (n : ℕ) → is_running c.phase ≡ true → eqb n 0 ≡ false → channel_order c n false ≡ None → closing_order c n false false ≡ None
    → IsOnOpen c n
on_open c n runs z e k = record { runs = runs; min = not_zero n z; max = within c n false z e; opened = open_is c n z e k }

-- a frame of a content stands on an open channel
pub content_open : (c : Connection) (f : Frame91) (ps : List (Option Ruling)) → first (content_places c f ++ ps) ≡ None → IsOnOpen c f.channel
content_open c f ps none = by (eqb f.channel 0) (is_running c.phase) refl refl (first_none _ _ none) (first_none _ _ second) (first_none _ _ third)
  where
    second : first (channel_order c f.channel false ∷ closing_order c f.channel false false ∷ ps) ≡ None
    second = rest_none (content_order (is_running c.phase) f.channel) _ none

    third : first (closing_order c f.channel false false ∷ ps) ≡ None
    third = rest_none (channel_order c f.channel false) _ second

    by : (zero runs : Bool) → eqb f.channel 0 ≡ zero → is_running c.phase ≡ runs
        → cond {A = Option Ruling} zero (refused CHANNEL_ERROR) (cond {A = Option Ruling} runs None (refused UNEXPECTED_FRAME)) ≡ None
        → channel_order c f.channel false ≡ None → closing_order c f.channel false false ≡ None → IsOnOpen c f.channel
    by true runs z r e k h = absurd cc
    by false true z r e k h = on_open c f.channel r z k h
    by false false z r e k h = absurd cc

-- ---- places that refuse the connection alone

-- a place that doesn't apply, or refuses the connection
abbrev is_plain : Option Ruling → Bool
is_plain None = true
is_plain (Some (ruling.Refused code)) = true
is_plain (Some (ruling.MethodRefused code)) = false
is_plain (Some (ruling.ChannelRefused code)) = false
is_plain (Some ruling.PassedOver) = false

-- one that doesn't apply, or passes over
abbrev is_quiet : Option Ruling → Bool
is_quiet None = true
is_quiet (Some (ruling.Refused code)) = false
is_quiet (Some (ruling.MethodRefused code)) = false
is_quiet (Some (ruling.ChannelRefused code)) = false
is_quiet (Some ruling.PassedOver) = true

-- a place of another kind than the first that applies doesn't apply
another : (kind : Option Ruling → Bool) (p : Option Ruling) (ps : List (Option Ruling)) (r : Ruling) → kind p ≡ true → kind (Some r) ≡ false
    → first (p ∷ ps) ≡ Some r → (p ≡ None) × (first ps ≡ Some r)
another kind None ps r is other e = (refl, e)
another kind (Some q) ps r is other e = let wrong : true ≡ false = sym is ∙ ap kind e ∙ other in absurd cc

either : (b : Bool) (x y : Option Ruling) → is_plain x ≡ true → is_plain y ≡ true → is_plain (cond b x y) ≡ true
either true x y e h = e
either false x y e h = h

by_phase : (p : Phase91) (vhost : List ℕ) (args : List Arg) → is_plain (opening_refusal_in vhost args p) ≡ true
by_phase phase.Header vhost args = refl
by_phase phase.Start vhost args = either _ None (refused NOT_ALLOWED) refl refl
by_phase phase.Tune vhost args = either _ None (refused NOT_ALLOWED) refl refl
by_phase phase.Open vhost args = either _ None (refused NOT_ALLOWED) refl refl
by_phase phase.Running vhost args = refl
by_phase phase.Closing vhost args = refl
by_phase phase.Closed vhost args = refl

order_plain : (c : Connection) (f : Frame91) (read : Read) → is_plain (order_place c f read frame.Method) ≡ true
order_plain c f read =
    either (is_running c.phase) (class_order f.channel f.payload) (expected_order c read)
    (either (eqb f.channel 0) _ None (either (nat_lt (length f.payload) 4) None _ refl (either _ None (refused COMMAND_INVALID) refl refl)) refl)
    (by read)
  where
    by : (read : Read) → is_plain (expected_order c read) ≡ true
    by (Ok m) = either (is_expected c m.0) None (refused COMMAND_INVALID) refl refl
    by (Err e) = refl

content_plain : (c : Connection) (f : Frame91) → is_plain (content_order (is_running c.phase) f.channel) ≡ true
content_plain c f = either (eqb f.channel 0) (refused CHANNEL_ERROR) _ refl (either (is_running c.phase) None (refused UNEXPECTED_FRAME) refl refl)

channel_plain : (c : Connection) (n : ℕ) (opening : Bool) → is_plain (channel_order c n opening) ≡ true
channel_plain c n opening =
    either (eqb n 0) None _ refl (either (nat_lt c.limits.channel_max n) (refused CHANNEL_ERROR) _ refl (by (channel_at c n)))
  where
    by : (s : Channel91) → is_plain (state_order s opening) ≡ true
    by channel.Free = either opening None (refused CHANNEL_ERROR) refl refl
    by channel.Open = either opening (refused CHANNEL_ERROR) None refl refl
    by channel.Closing = refl
    by channel.Told = refl

closing_quiet : (c : Connection) (n : ℕ) (closes answers : Bool) → is_quiet (closing_order c n closes answers) ≡ true
closing_quiet c n closes answers = by (eqb n 0) (channel_at c n) closes answers
  where
    by : (zero : Bool) (s : Channel91) (closes answers : Bool) → is_quiet (cond zero None (passed_over s closes answers)) ≡ true
    by true s a b = refl
    by false channel.Free a b = refl
    by false channel.Open a b = refl
    by false channel.Closing true b = refl
    by false channel.Closing false b = refl
    by false channel.Told true b = refl
    by false channel.Told false true = refl
    by false channel.Told false false = refl

within_plain : (o : Option Incoming) → is_plain (within_order o) ≡ true
within_plain None = refl
within_plain (Some i) = refl

reading_plain : (read : Read) → is_plain (reading_order read) ≡ true
reading_plain (Ok m) = refl
reading_plain (Err e) = refl

state_plain : (c : Connection) (n : ℕ) (read : Read) → is_plain (state_place c n read frame.Method) ≡ true
state_plain c n (Err e) = refl
state_plain c n (Ok m) =
    either (is_running c.phase) (running_state (channel_at c n) n m.0) None
    (either (eqb n 0) (cond (is_of_kind CONNECTION_CLOSE m.0) None (refused COMMAND_INVALID)) on_channel
    (either (is_of_kind CONNECTION_CLOSE m.0) None (refused COMMAND_INVALID) refl refl)
    (either (eqb (class_of m.0) CONNECTION) (refused COMMAND_INVALID) not_connection refl
    (either (is_of_kind CHANNEL_CLOSE_OK m.0) (answer_order (channel_at c n)) of_client (by (channel_at c n))
    (either (is_servers m.0) (refused COMMAND_INVALID) None refl refl)))) refl
  where
    of_client : Option Ruling
    of_client = cond (is_servers m.0) (refused COMMAND_INVALID) None

    not_connection : Option Ruling
    not_connection = cond (is_of_kind CHANNEL_CLOSE_OK m.0) (answer_order (channel_at c n)) of_client

    on_channel : Option Ruling
    on_channel = cond (eqb (class_of m.0) CONNECTION) (refused COMMAND_INVALID) not_connection

    by : (s : Channel91) → is_plain (answer_order s) ≡ true
    by channel.Free = refl
    by channel.Open = refl
    by channel.Closing = refl
    by channel.Told = refl

own_plain : (c : Connection) (f : Frame91) (read : Read) → is_plain (own_place c f read frame.Method) ≡ true
own_plain c f (Err e) = refl
own_plain c f (Ok m) =
    either (is_running c.phase) (running_refusal c.carried_max f.channel m.0 m.1) (opening_refusal c m.1)
    (either (eqb f.channel 0) None on_channel refl
    (either (is_of_kind CHANNEL_OPEN m.0) (carried_order c.carried_max f.channel) not_open
    (either (nat_lt c.carried_max f.channel) (refused RESOURCE_ERROR) None refl refl)
    (either (is_done m.0 m.1) None (refused NOT_IMPLEMENTED) refl refl)))
    (by_phase c.phase c.vhost m.1)
  where
    not_open : Option Ruling
    not_open = cond (is_done m.0 m.1) None (refused NOT_IMPLEMENTED)

    on_channel : Option Ruling
    on_channel = cond (is_of_kind CHANNEL_OPEN m.0) (carried_order c.carried_max f.channel) not_open

-- ---- a method frame that isn't refused for the connection

-- the first place that applies is that of a closing channel
method_closing : (c : Connection) (f : Frame91) (read : Read) (r : Ruling) → is_plain (Some r) ≡ false → first (places c f read frame.Method) ≡ Some r
    → closing_place c f frame.Method ≡ Some r
method_closing c f read r other e =
    let a = another is_plain _ _ r (order_plain c f read) other e in
    let b = another is_plain _ _ r (channel_plain c f.channel (is_opening f.payload)) other a.1 in
    by (closing_place c f frame.Method) b.1
  where
    behind : (read : Read) → first (content_place c f frame.Method ∷ reading_place c f read frame.Method ∷ state_place c f.channel read frame.Method ∷ own_place c f read frame.Method ∷ []) ≡ Some r → ⊥
    behind read e =
        let g = another is_plain _ _ r (within_plain (content_at c f.channel)) other e in
        let h = another is_plain _ _ r (reading_plain read) other g.1 in
        let i = another is_plain _ _ r (state_plain c f.channel read) other h.1 in
        let j = another is_plain _ _ r (own_plain c f read) other i.1 in
        absurd cc

    by : (p : Option Ruling)
        → first (p ∷ content_place c f frame.Method ∷ reading_place c f read frame.Method ∷ state_place c f.channel read frame.Method ∷ own_place c f read frame.Method ∷ []) ≡ Some r
        → p ≡ Some r
    by None e = absurd (behind read e)
    by (Some q) e = e

-- no method frame closes its channel by a refusal
pub method_apart : (c : Connection) (f : Frame91) (read : Read) (code : ℕ) → first (places c f read frame.Method) ≡ Some (ruling.ChannelRefused code) → ⊥
method_apart c f read code e =
    let k : closing_place c f frame.Method ≡ Some (ruling.ChannelRefused code) = method_closing c f read (ruling.ChannelRefused code) refl e in
    let wrong : true ≡ false = sym (closing_quiet c f.channel (is_closing f.payload) (is_answering f.payload)) ∙ ap is_quiet k in
    absurd cc

-- ---- a frame of a content that is

-- a frame of a content closes its channel where it stands on an open one and announces too much
pub content_apart : (c : Connection) (f : Frame91) (o : Option Incoming) (t : Taking) (code : ℕ)
    → first (content_places c f ++ taking_places o t) ≡ Some (ruling.ChannelRefused code) → IsOnOpen c f.channel × (code ≡ CONTENT_TOO_LARGE)
content_apart c f o t code e =
    let a = another is_plain _ _ (ruling.ChannelRefused code) (content_plain c f) refl e in
    let b = another is_plain _ _ (ruling.ChannelRefused code) (channel_plain c f.channel false) refl a.1 in
    let d = another is_quiet _ _ (ruling.ChannelRefused code) (closing_quiet c f.channel false false) refl b.1 in
    (content_open c f [] (three _ _ _ a.0 b.0 d.0), by o t d.1)
  where
    three : (x y z : Option Ruling) → x ≡ None → y ≡ None → z ≡ None → first (x ∷ y ∷ z ∷ []) ≡ None
    three None None None a b d = refl
    three (Some r) y z a b d = absurd cc
    three None (Some r) z a b d = absurd cc
    three None None (Some r) a b d = absurd cc

    whole : (b : Bool) → first (cond {A = Option Ruling} b (Some (ruling.MethodRefused NOT_IMPLEMENTED)) None ∷ []) ≡ Some (ruling.ChannelRefused code) → code ≡ CONTENT_TOO_LARGE
    whole true e = absurd cc
    whole false e = absurd cc

    by : (o : Option Incoming) (t : Taking) → first (taking_places o t) ≡ Some (ruling.ChannelRefused code) → code ≡ CONTENT_TOO_LARGE
    by o (Err fault.Unexpected) e = absurd cc
    by o (Err (fault.Header x)) e = absurd cc
    by o (Err fault.TooLarge) e = cc
    by o (Err fault.Overrun) e = absurd cc
    by None (Ok x) e = absurd cc
    by (Some i) (Ok (a, step.More)) e = absurd cc
    by (Some i) (Ok (a, step.Whole d)) e = whole (is_immediate i.method) e

-- ---- what is passed over

-- a channel where something is passed over isn't open
closing_shut : (c : Connection) (n : ℕ) (closes answers : Bool) (r : Ruling) → closing_order c n closes answers ≡ Some r → is_open c n ≡ true → ⊥
closing_shut c n closes answers r e opened = by (eqb n 0) (is_running c.phase) (channel_at c n) e opened
  where
    by : (zero runs : Bool) (s : Channel91) → cond {A = Option Ruling} zero None (passed_over s closes answers) ≡ Some r → (runs && is_open_channel s) ≡ true → ⊥
    by true runs s e opened = absurd cc
    by false runs channel.Free e opened = absurd cc
    by false runs channel.Open e opened = absurd cc
    by false true channel.Closing e opened = absurd cc
    by false false channel.Closing e opened = absurd cc
    by false true channel.Told e opened = absurd cc
    by false false channel.Told e opened = absurd cc

content_over : (c : Connection) (f : Frame91) (o : Option Incoming) (t : Taking) → first (content_places c f ++ taking_places o t) ≡ Some ruling.PassedOver
    → is_open c f.channel ≡ true → ⊥
content_over c f o t e opened =
    let a = another is_plain _ _ ruling.PassedOver (content_plain c f) refl e in
    let b = another is_plain _ _ ruling.PassedOver (channel_plain c f.channel false) refl a.1 in
    by (closing_order c f.channel false false) refl b.1
  where
    whole : (b : Bool) → first (cond {A = Option Ruling} b (Some (ruling.MethodRefused NOT_IMPLEMENTED)) None ∷ []) ≡ Some ruling.PassedOver → ⊥
    whole true e = absurd cc
    whole false e = absurd cc

    behind : (o : Option Incoming) (t : Taking) → first (taking_places o t) ≡ Some ruling.PassedOver → ⊥
    behind o (Err fault.Unexpected) e = absurd cc
    behind o (Err (fault.Header x)) e = absurd cc
    behind o (Err fault.TooLarge) e = absurd cc
    behind o (Err fault.Overrun) e = absurd cc
    behind None (Ok x) e = absurd cc
    behind (Some i) (Ok (a, step.More)) e = absurd cc
    behind (Some i) (Ok (a, step.Whole d)) e = whole (is_immediate i.method) e

    by : (p : Option Ruling) → closing_order c f.channel false false ≡ p → first (p ∷ taking_places o t) ≡ Some ruling.PassedOver → ⊥
    by None k e = behind o t e
    by (Some r) k e = closing_shut c f.channel false false r k opened

-- what is passed over stands on a channel that isn't open
pub over_closed : (c : Connection) (f : Frame91) → first (places c f (method_in f.payload) f.kind) ≡ Some ruling.PassedOver → is_open c f.channel ≡ true → ⊥
over_closed c f e opened = by f.kind e
  where
    beat : (b : Bool)
        → first (cond {A = Option Ruling} b None (refused FRAME_ERROR) ∷ None ∷ None ∷ None ∷ None ∷ None ∷ None ∷ None ∷ []) ≡ Some ruling.PassedOver → ⊥
    beat true e = absurd cc
    beat false e = absurd cc

    by : (k : Kind91) → first (places c f (method_in f.payload) k) ≡ Some ruling.PassedOver → ⊥
    by frame.Method e =
        closing_shut c f.channel (is_closing f.payload) (is_answering f.payload) ruling.PassedOver (method_closing c f (method_in f.payload) ruling.PassedOver refl e) opened
    by frame.Header e = content_over c f (content_at c f.channel) (taken_by c f frame.Header) e opened
    by frame.Body e = content_over c f (content_at c f.channel) (taken_by c f frame.Body) e opened
    by frame.Heartbeat e = beat (eqb f.channel 0 && eqb (length f.payload) 0) e

-- ---- a basic.publish

-- the channel of a basic.publish that counts is open: its ids are neither those of channel.open nor of what ends a channel
pub publish_open : (c : Connection) (f : Frame91) (k : Kind) (args : List Arg) → is_running c.phase ≡ true → eqb f.channel 0 ≡ false
    → method_in f.payload ≡ Ok (k, args) → is_of_kind BASIC_PUBLISH k ≡ true → channel_place c f frame.Method ≡ None → closing_place c f frame.Method ≡ None
    → IsOnOpen c f.channel
publish_open c f k args runs z read publish channel closing =
    on_open c f.channel runs z
    (ap (channel_order c f.channel) (sym (apart CHANNEL_OPEN refl)) ∙ channel)
    (ap (λ (b : Bool). closing_order c f.channel b false) (sym (apart CHANNEL_CLOSE refl))
    ∙ ap (closing_order c f.channel (is_closing f.payload)) (sym (apart CHANNEL_CLOSE_OK refl)) ∙ closing)
  where
    by : (b : Bool) → eqb (class_of k) 60 ≡ b → (b && eqb (id_of k) 40) ≡ true → class_of k ≡ 60
    by true z e = eqb-true (class_of k) 60 z
    by false z e = absurd cc

    class : class_in f.payload ≡ 60
    class = (ids_known f.payload k args read).0 ∙ by (eqb (class_of k) 60) refl publish

    apart : (m : ℕ × ℕ) → eqb 60 m.0 ≡ false → is_in m f.payload ≡ false
    apart m other = ap (λ (x : ℕ). has_ids m x (id_in f.payload)) class ∙ ap (λ (b : Bool). b && eqb (id_in f.payload) m.1) other
