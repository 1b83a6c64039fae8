-- Entries that are asked for stand where what came before them allows it.
use Rattle.std.proofs.Common.{◌≡◌, ◌⊎◌, ◌∙◌, ℕ, Bool, true, false, not, ◌&&◌, ◌||◌, map}
use Rattle.std.proofs.Common.{if◌then◌else◌, List, [], ◌∷◌, Option, None, Some, refl, sym, ap, inl}
use Rattle.std.proofs.Common.{inr}
use Rattle.std.specs.Prelude.{is_some}
use Rattle.std.specs.Option.{option_map}
use Rattle.gate_outside.specs.declared.ports.End.{End}
use Rattle.gate_outside.specs.declared.ports.End.TheVariants.{Client, Up}
use Rattle.gate_relay.specs.declared.loss.Loss.TheVariants as loss
use Rattle.gate_relay.specs.Entries as entry
use Rattle.gate_relay.specs.Entries.{Entry, is_out_of_memory}
use Rattle.gate_relay.specs.Guards.{connects, offers, reads, takes_up}
use Rattle.gate_relay.specs.Relayed as relayed
use Rattle.gate_relay.specs.Relayed.{IsRelayed, MayCome, RunsOut}
use Rattle.gate_relay.specs.Sides.{is_absent, is_open_side, is_readable, is_writable, side_of}
use Rattle.gate_relay.specs.Sides.{sides}
use Rattle.machine_091.specs.State.{awaits, is_opening}
use Rattle.machine_091.specs.declared.state.Connection.{Connection}
use Rattle.machine_10.specs.declared.state.Upstream.{Upstream}
use Rattle.gate_model.specs.declared.channel.SessionUnit.TheVariants as unit
use Rattle.gate_model.specs.declared.outgoing.Outgoing.{Outgoing}
use Rattle.gate_model.specs.declared.outgoing.Outgoing.TheVariants.{ToClient, ToUp}
use Rattle.gate_model.specs.declared.outgoing.UpUnit.{UpUnit}
use Rattle.gate_model.specs.declared.outgoing.UpUnit.TheVariants as up
use Rattle.gate_model.specs.declared.channel.ChannelUnit.TheVariants as to_client
use Rattle.gate_model.specs.declared.reply.Reply.{Reply}
use Rattle.gate_model.specs.declared.reply.Reply.TheVariants as reply
use Rattle.gate_model.specs.Due.{can_leave, can_take_unit, carries, client_rows, is_awaited}
use Rattle.gate_model.specs.Due.{is_awaiting, is_busy, pick, takes_memory, takes_memory_back}
use Rattle.gate_model.specs.Due.{takes_memory_up, up_rows}
use Rattle.gate_model.specs.Folds.{connection, given_up_in}
use Rattle.gate_model.specs.Setup.{SetupText}
use Rattle.gate_model.specs.Spelling.{Context, spell}
use Rattle.gate_model.specs.State.{State, is_held, place}
use Rattle.gate_model.specs.Upstream.{awaited_of, first, is_awaited_up}
use Rattle.gate_model.proofs.Known.{Known, conn_is, container_is, known, number_is}
use Rattle.gate_model.proofs.Silences.{given_is}
use Rattle.gate_model.proofs.Times.{Either, OnLeft, OnRight, either}
use Rattle.gate_model.proofs.Basics.{and_left, and_right}
use Rattle.gate_pair.specs.Lawful.{AreLawful, AtRefusal, AtTheEnd, Attaching, Beginning, Answering}
use Rattle.gate_pair.specs.Lawful.{Crediting, Delivering, InSpellingBack, Returning, Writing}
use Rattle.gate_pair.specs.Lawful.{Flowing, InRead, InSpelling, InTakeUp, IsAskedFor, IsAwaited}
use Rattle.gate_pair.specs.Lawful.{IsHeard, IsOfferOf, IsOffered, IsTakenUp, Keeps, Login, Opening}
use Rattle.gate_pair.specs.Lawful.{RunsOutIn, Shuts, TakesMemory, Transferring, WhereDue}
use Rattle.gate_pair.specs.Meaning.{needs_memory, offered, pair_words, spelled_in, state_of}
use Rattle.gate_pair.specs.Meaning.{steps_of, stream_of, told}
use Rattle.gate_pair.proofs.Picks.{picks}
use Rattle.gate_pair.proofs.Timings.{AreTimed, due_at}

isnt : (a : Bool) → not a ≡ true → a ≡ false
isnt true e = absurd cc
isnt false e = refl

-- what the state knows
knows : (s : SetupText) (h : List Entry) → IsRelayed (pair_words s) h → Known (steps_of s h)
knows s h r = known (steps_of s h) (picks s h r)

-- ---- reads

awaited : (s : SetupText) (end : End) (h : List Entry) → IsRelayed (pair_words s) h → is_awaiting (state_of s h) end ≡ true → IsAwaited s end h
awaited s Client h r e =
    let w : State = state_of s h in
    (read (either _ _ (and_left (is_awaited (awaits w.conn) || w.given_up) _ e)), isnt (is_held w) (and_right (is_awaited (awaits w.conn) || w.given_up) _ e))
  where
    read : Either (is_awaited (awaits (state_of s h).conn)) (state_of s h).given_up
        → (is_awaited (awaits (connection (steps_of s h))) ≡ true) ⊎ (given_up_in (steps_of s h) ≡ true)
    read (OnLeft x) = inl (ap (λ (c : Connection). is_awaited (awaits c)) (sym (conn_is (knows s h r))) ∙ x)
    read (OnRight x) = inr (sym (given_is (steps_of s h) (picks s h r)) ∙ x)
awaited s Up h r e =
    ap (λ (o : Option Upstream). is_awaited_up (awaited_of o)) (sym (container_is (knows s h r))) ∙ and_right (is_readable (state_of s h).up.side) _ e

heard : (s : SetupText) (end : End) (h : List Entry) → IsRelayed (pair_words s) h → reads (pair_words s) end h ≡ true → IsHeard s end h
unfolding pair_words
heard s end h r e =
    let rest : (not (is_out_of_memory h) && is_awaiting (state_of s h) end) ≡ true = and_right (is_readable (side_of end (sides h))) _ e in
    record {
      readable = and_left (is_readable (side_of end (sides h))) _ e;
      calm = isnt (is_out_of_memory h) (and_left (not (is_out_of_memory h)) _ rest);
      awaited = awaited s end h r (and_right (not (is_out_of_memory h)) _ rest);
    }

-- ---- what is taken up, and the connection upstream

some_taken : (w : State) → Either (can_take_unit w) (can_leave w) → (is_some (place w) ≡ true) ⊎ (can_leave w ≡ true)
some_taken w (OnLeft e) = inl (and_right (not w.out_of_memory) _ e)
some_taken w (OnRight e) = inr e

taken_up : (s : SetupText) (h : List Entry) → takes_up (pair_words s) h ≡ true → IsTakenUp s h
unfolding pair_words
taken_up s h e = record {
  calm = isnt (is_out_of_memory h) (and_left (not (is_out_of_memory h)) _ e);
  some = some_taken (state_of s h) (either _ _ (and_right (not (is_out_of_memory h)) _ e));
}

asked_for : (s : SetupText) (h : List Entry) → IsRelayed (pair_words s) h → connects (pair_words s) h ≡ true → IsAskedFor s h
unfolding pair_words
asked_for s h r e =
    let w : State = state_of s h in
    let rest : (not (is_out_of_memory h) && (is_opening w.conn && is_absent w.up.side)) ≡ true = and_right (is_absent (side_of Up (sides h))) _ e in
    record {
      absent = and_left (is_absent (side_of Up (sides h))) _ e;
      calm = isnt (is_out_of_memory h) (and_left (not (is_out_of_memory h)) _ rest);
      opening = ap is_opening (sym (conn_is (knows s h r))) ∙ and_left (is_opening w.conn) _ (and_right (not (is_out_of_memory h)) _ rest);
    }

-- ---- offers

same_context : (s : SetupText) (n m : ℕ) (o p : Option Upstream) → n ≡ m → o ≡ p
    → (let c : Context = record { setup = s; number = n; container = o } in c) ≡ record { setup = s; number = m; container = p }
same_context s n m o p e f = cc

offer_by : (s : SetupText) (end : End) (b : Bool) (h : List Entry) (o : Option Outgoing) (bytes : List ℕ) → IsRelayed (pair_words s) h → pick (state_of s h) end ≡ o
    → (if b then Some (stream_of end (told s h)).rest else option_map (spelled_in s (state_of s h)) o) ≡ Some bytes → IsOfferOf s end b h bytes
offer_by s end true h o bytes r p e = let same : (stream_of end (told s h)).rest ≡ bytes = cc in sym same
offer_by s end false h None bytes r p e = absurd cc
offer_by s end false h (Some u) bytes r p e =
    let same : spelled_in s (state_of s h) u ≡ bytes = cc in
    let k : Known (steps_of s h) = knows s h r in
    (u, p, sym same ∙ ap (λ (c : Context). spell c u (carries (state_of s h) u)) (same_context s _ _ _ _ (number_is k) (container_is k)))

offered_by : (s : SetupText) (end : End) (b : Bool) (h : List Entry) (bytes : List ℕ) → IsRelayed (pair_words s) h → is_writable (side_of end (sides h)) ≡ b
    → (if b then offered s end (state_of s h) (stream_of end (told s h)).rest else None) ≡ Some bytes → IsOffered s end h bytes
offered_by s end true h bytes r w e = record { writable = w; offer = offer_by s end (is_busy (state_of s h) end) h (pick (state_of s h) end) bytes r refl e }
offered_by s end false h bytes r w e = absurd cc

is_offered : (s : SetupText) (end : End) (h : List Entry) (bytes : List ℕ) → IsRelayed (pair_words s) h → offers (pair_words s) end h ≡ Some bytes → IsOffered s end h bytes
unfolding pair_words
is_offered s end h bytes r e = offered_by s end (is_writable (side_of end (sides h))) h bytes r refl e

some_offered : (s : SetupText) (end : End) (h : List Entry) (o : Option (List ℕ)) → IsRelayed (pair_words s) h → offers (pair_words s) end h ≡ o → is_some o ≡ true
    → (bytes : List ℕ) × IsOffered s end h bytes
some_offered s end h None r e f = absurd cc
some_offered s end h (Some bytes) r e f = (bytes, is_offered s end h bytes r e)

-- ---- shuts

shuts_by : AreTimed → (s : SetupText) (end : End) (h : List Entry) → IsRelayed (pair_words s) h → relayed.ShutFor (pair_words s) end h → Shuts s end h
shuts_by t s _ _ r (relayed.WhereDue end h e) =
    WhereDue (and_left (is_open_side (side_of end (sides h))) _ e) (due_at t s end h r (and_right (is_open_side (side_of end (sides h))) _ e))
shuts_by t s _ _ r (relayed.AtTheEnd end h e) = AtTheEnd e
shuts_by t s _ _ r (relayed.AtRefusal h) = AtRefusal h refl refl

-- ---- out of memory

-- of the units to the client those that carry something take memory
in_spelling_back : (s : SetupText) (h : List Entry) (us : List Reply) → is_writable (side_of Client (sides h)) ≡ true → is_busy (state_of s h) Client ≡ false
    → pick (state_of s h) Client ≡ first (map ToClient us) → takes_memory (first (map ToClient us)) ≡ true → RunsOutIn s 0 h
in_spelling_back s h [] w free e f = absurd cc
in_spelling_back s h (u ∷ us) w free e f = by u e f
  where
    by : (u : Reply) → pick (state_of s h) Client ≡ Some (ToClient u) → takes_memory_back u ≡ true → RunsOutIn s 0 h
    by (reply.OnChannel n (to_client.Ok x)) e f = InSpellingBack _ h w free e (Answering n x f refl)
    by (reply.OnChannel n (to_client.Deliver d)) e f = InSpellingBack _ h w free e (Delivering n d refl)
    by (reply.OnChannel n (to_client.Content c)) e f = InSpellingBack _ h w free e (Writing n c refl)
    by (reply.OnChannel n (to_client.Return r)) e f = InSpellingBack _ h w free e (Returning n r refl)
    by (reply.OnChannel n (to_client.Confirm c)) e f = absurd cc
    by reply.Protocol e f = absurd cc
    by reply.Start e f = absurd cc
    by reply.Tune e f = absurd cc
    by reply.OpenOk e f = absurd cc
    by reply.CloseOk e f = absurd cc
    by (reply.Close r) e f = absurd cc
    by reply.NoMemory e f = absurd cc
    by reply.Heartbeat e f = absurd cc
    by (reply.ChannelOpenOk n) e f = absurd cc
    by (reply.ChannelCloseOk n) e f = absurd cc
    by (reply.CrossedOk n) e f = absurd cc
    by (reply.ChannelClose n r) e f = absurd cc

takes_some : (u : UpUnit) → takes_memory_up u ≡ true → TakesMemory u
takes_some up.SaslHeader e = absurd cc
takes_some up.SaslInit e = Login refl
takes_some up.AmqpHeader e = absurd cc
takes_some up.Open e = Opening refl
takes_some (up.Close c) e = absurd cc
takes_some up.Empty e = absurd cc
takes_some (up.OnSession n (unit.Attach a)) e = Attaching n a refl
takes_some (up.OnSession n (unit.Flow f)) e = Crediting n f refl
takes_some (up.OnSession n (unit.Transfer t)) e = Transferring n t refl
takes_some (up.OnSession n (unit.Dispose x)) e = absurd cc
takes_some (up.OnSession n (unit.Settle x)) e = absurd cc
takes_some (up.OnSession n (unit.Detach link handle why)) e = absurd cc
takes_some (up.Flow n i o) e = Flowing n i o refl
takes_some (up.Begin n) e = Beginning n refl
takes_some (up.End n why) e = absurd cc

writable_by : (b : Bool) (o : Option (List ℕ)) → is_some (if b then o else None) ≡ true → b ≡ true
writable_by true o e = refl
writable_by false o e = absurd cc

in_spelling : (s : SetupText) (h : List Entry) (us : List UpUnit) → is_writable (side_of Up (sides h)) ≡ true → is_busy (state_of s h) Up ≡ false
    → pick (state_of s h) Up ≡ first (map ToUp us) → takes_memory (first (map ToUp us)) ≡ true → RunsOutIn s 0 h
in_spelling s h [] w free e f = absurd cc
in_spelling s h (u ∷ us) w free e f = InSpelling u h w free e (takes_some u f)

at_write : (s : SetupText) (end : End) (h : List Entry) → is_some (offers (pair_words s) end h) ≡ true → needs_memory (state_of s h) end ≡ true → RunsOutIn s 0 h
at_write s Client h e f =
    let w : State = state_of s h in
    in_spelling_back s h (client_rows w) (writable_by (is_writable (side_of Client (sides h))) _ e)
    (isnt (is_busy w Client) (and_left (not (is_busy w Client)) _ f)) refl (and_right (not (is_busy w Client)) _ f)
at_write s Up h e f =
    let w : State = state_of s h in
    in_spelling s h (up_rows w) (writable_by (is_writable (side_of Up (sides h))) _ e)
    (isnt (is_busy w Up) (and_left (not (is_busy w Up)) _ f)) refl (and_right (not (is_busy w Up)) _ f)

runs_out : (s : SetupText) (cut : ℕ) (h : List Entry) → RunsOut (pair_words s) cut h → RunsOutIn s cut h
unfolding pair_words
runs_out s _ _ (relayed.AtRead cut end bytes h) = InRead cut end bytes h
runs_out s _ _ (relayed.AtTakeUp cut h) = InTakeUp cut h
runs_out s _ _ (relayed.AtWrite end h e f) = at_write s end h e f

-- ---- all entries

keeps : AreTimed → (s : SetupText) (e : Entry) (h : List Entry) → IsRelayed (pair_words s) h → MayCome (pair_words s) h e → Keeps s h e
keeps t s (entry.Began p ms) h r m = m
keeps t s entry.Refused h r m = m
keeps t s (entry.Moment ms) h r m = m
keeps t s (entry.Came end bytes) h r m = (heard s end h r m.0, m.1)
keeps t s (entry.Dry end) h r m = heard s end h r m
keeps t s entry.Settled h r m = taken_up s h m
keeps t s (entry.Joined answer) h r m = asked_for s h r m
keeps t s (entry.Took end bytes n) h r m = (is_offered s end h bytes r m.0, m.1, m.2)
keeps t s (entry.Stuck end bytes) h r m = is_offered s end h bytes r m
keeps t s (entry.Lost end loss.Ended) h r m = heard s end h r m
keeps t s (entry.Lost end loss.Failed) h r (inl m) = inl (heard s end h r m)
keeps t s (entry.Lost end loss.Failed) h r (inr m) = inr (some_offered s end h (offers (pair_words s) end h) r refl m)
keeps t s (entry.Lost end loss.Shut) h r m = shuts_by t s end h r m
keeps t s (entry.OutOfMemory cut) h r m = (m.0, runs_out s cut h m.1)
keeps t s entry.Over h r m = m

pub lawful : AreTimed → (s : SetupText) (h : List Entry) → IsRelayed (pair_words s) h → AreLawful s h
lawful t s [] r = tt
lawful t s (e ∷ h) r = (keeps t s e h r.2 r.0, lawful t s h r.2)
