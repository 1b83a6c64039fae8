-- What an end took are the bytes of the units that were sent to it, but for what is left of the one in progress.
use Rattle.std.proofs.Common.{◌≡◌, ◌∙◌, ℕ, Bool, true, false, if◌then◌else◌, List, [], ◌∷◌, ◌++◌}
use Rattle.std.proofs.Common.{length, take, drop, nat_lt, Option, None, Some, append_assoc}
use Rattle.std.proofs.Common.{append-nil, refl, sym, ap, subst, arith}
use Rattle.std.specs.Prelude.{is_some}
use Rattle.std.specs.Option.{option_map}
use Rattle.std.proofs.lemmas.List.{drop_all, map-append, take-append-drop}
use Rattle.std.proofs.lemmas.Bool.Decides.{nat_tests}
use Rattle.gate_outside.specs.declared.ports.End.{End}
use Rattle.gate_outside.specs.declared.ports.End.TheVariants.{Client, Up}
use Rattle.gate_outside.specs.declared.ports.Linked.TheVariants as link
use Rattle.gate_relay.specs.declared.loss.Loss.TheVariants as loss
use Rattle.gate_relay.specs.declared.sides.Side.TheVariants as side
use Rattle.gate_relay.specs.Entries as entry
use Rattle.gate_relay.specs.Entries.{Entry}
use Rattle.gate_relay.specs.Relayed.{IsRelayed}
use Rattle.gate_relay.specs.Sides.{is_writable, side_of, sides}
use Rattle.machine_091.specs.State.{is_closing}
use Rattle.gate_model.specs.declared.outgoing.Outgoing.{Outgoing}
use Rattle.gate_model.specs.declared.outgoing.Outgoing.TheVariants.{ToClient, ToUp}
use Rattle.gate_model.specs.Due.{carries, carries_up, due, in_progress, is_busy, pick, carries_back}
use Rattle.gate_model.specs.Picks.{ArePicks}
use Rattle.gate_model.specs.Paths.{told_paths}
use Rattle.gate_model.specs.Setup.{SetupText, site_of}
use Rattle.gate_model.specs.Spelling.{Context, spell, spell_reply}
use Rattle.gate_model.specs.State as state
use Rattle.gate_model.specs.State.{State, Step, Gave, Whole, before, step}
use Rattle.gate_model.specs.Upstream.{UpState, first, linked, shut_by}
use Rattle.gate_pair.specs.Answers.{AreSent, OwesNone, context_in, sent_to, sent_up_with, sent_with, spelled}
use Rattle.gate_pair.specs.Answers.{taken_bytes, to_client, to_up}
use Rattle.gate_pair.specs.Meaning.{begins, ends, given, offered, pair_words, spelled_in, state_of}
use Rattle.gate_pair.specs.Meaning.{steps_of, stream_of, told}
use Rattle.gate_pair.proofs.Logins.{AreLoggedIn, bytes_stay, client_same, context_is, gave_stay}
use Rattle.gate_pair.proofs.Picks.{moment_picks, offered_is, picks}
use Rattle.gate_pair.proofs.Sounds.{client_picks, up_picks}
use Rattle.gate_pair.proofs.Taken.{AreTaken, IsTaken, Leaves, closing_keeps, fail_leaves}
use Rattle.gate_pair.proofs.Taken.{drop_taken, ended_taken, fresh_taken, lost_leaves, silent_leaves}
use Rattle.gate_pair.proofs.Taken.{taken_leaves}
use Rattle.gate_pair.proofs.Ticks.{tick_all}

-- ---- steps that send nothing

abbrev IsQuiet : Step → Type 0
IsQuiet (Gave u text) = ⊥
IsQuiet (Whole end) = ⊥
IsQuiet x = Unit {0}

leaves_going : {w v : State} (end : End) → Leaves w v → in_progress v end ≡ in_progress w end
leaves_going Client l = ap (option_map ToClient) l.going_is
leaves_going Up l = ap (option_map ToUp) l.going_up_is

gone_going : (end : End) (up : UpState) (w : State) → up.in_progress ≡ w.up.in_progress → in_progress (record w { up = up }) end ≡ in_progress w end
gone_going Client up w e = refl
gone_going Up up w e = ap (option_map ToUp) e

-- they leave what is in progress
quiet_going : (end : End) (x : Step) (w : State) → IsQuiet x → in_progress (step w x) end ≡ in_progress w end
quiet_going Client (state.Began site n ms) w q = refl
quiet_going Up (state.Began site n ms) w q = refl
quiet_going Client (state.Moment ms) w q = refl
quiet_going Up (state.Moment ms) w q = refl
quiet_going Client (state.Fed Client) w q = refl
quiet_going Up (state.Fed Client) w q = refl
quiet_going Client (state.Fed Up) w q = refl
quiet_going Up (state.Fed Up) w q = refl
quiet_going end (state.Silent e) w q = leaves_going end (silent_leaves e w)
quiet_going end (state.Queued u) w q = leaves_going end (taken_leaves (state.Queued u) w tt)
quiet_going end (state.Came u) w q = leaves_going end (taken_leaves (state.Came u) w tt)
quiet_going end state.TakenUp w q = leaves_going end (taken_leaves state.TakenUp w tt)
quiet_going end (state.Heard u) w q = leaves_going end (taken_leaves (state.Heard u) w tt)
quiet_going end (state.Joined link.Ok) w q = gone_going end (linked w.moment w.up) w refl
quiet_going end (state.Joined link.Failed) w q = leaves_going end (fail_leaves _ None (record w { up = shut_by w.up; paths = told_paths w.paths })) ∙ gone_going end (shut_by w.up) w refl
quiet_going Client (state.Lost Client loss.Ended) w q = refl
quiet_going Up (state.Lost Client loss.Ended) w q = refl
quiet_going Client (state.Lost Client loss.Failed) w q = refl
quiet_going Up (state.Lost Client loss.Failed) w q = refl
quiet_going end (state.Lost Client loss.Shut) w q = refl
quiet_going end (state.Lost Up loss.Ended) w q = leaves_going end (lost_leaves side.Ended w)
quiet_going end (state.Lost Up loss.Failed) w q = leaves_going end (lost_leaves side.Failed w)
quiet_going end (state.Lost Up loss.Shut) w q = gone_going end (shut_by w.up) w refl
quiet_going end (Gave u text) w q = absurd q
quiet_going end (Whole e) w q = absurd q
quiet_going Client state.LinesTold w q = refl
quiet_going Up state.LinesTold w q = refl
quiet_going Client state.OutOfMemory w q = refl
quiet_going Up state.OutOfMemory w q = ap (option_map ToUp) (closing_keeps (is_closing w.conn) _ w.up)

quiet_sent : (end : End) (x : Step) (g : List Step) → IsQuiet x → sent_to end (x ∷ g) ≡ sent_to end g
quiet_sent end (Gave u text) g q = absurd q
quiet_sent end (Whole e) g q = absurd q
quiet_sent Client x g q = refl
quiet_sent Up x g q = refl

-- ---- what was sent to an end

-- the bytes of the units that were sent, and whether one is in progress
abbrev bytes_in : SetupText → End → List Step → List ℕ
bytes_in s end g = spelled (context_in s g) (sent_to end g)

record SameSent (s : SetupText) (end : End) (old new : List Step) : Type 0 where
  bytes : bytes_in s end new ≡ bytes_in s end old
  busy : is_busy (before new) end ≡ is_busy (before old) end

same_all : (s : SetupText) (end : End) (g : List Step) → SameSent s end g g
same_all s end g = record { bytes = refl; busy = refl }

same_more : (s : SetupText) (end : End) (a b c : List Step) → SameSent s end a b → SameSent s end b c → SameSent s end a c
same_more s end a b c p q = record { bytes = q.bytes ∙ p.bytes; busy = q.busy ∙ p.busy }

same_back : (s : SetupText) (end : End) (a b : List Step) → SameSent s end a b → SameSent s end b a
same_back s end a b p = record { bytes = sym p.bytes; busy = sym p.busy }

quiet_same : AreLoggedIn → (s : SetupText) (end : End) (x : Step) (g : List Step) → IsQuiet x → ArePicks (x ∷ g) → SameSent s end g (x ∷ g)
quiet_same l s end x g q p = record {
  bytes = ap (spelled (context_in s (x ∷ g))) (quiet_sent end x g q) ∙ bytes_stay l s end x g p;
  busy = ap is_some (quiet_going end x (before g) q);
}

taken_quiet : (x : Step) → IsTaken x → IsQuiet x
taken_quiet (Gave u text) t = absurd t
taken_quiet (Whole e) t = absurd t
taken_quiet x t = tt

taken_same : AreLoggedIn → (s : SetupText) (end : End) (k g : List Step) → AreTaken k → ArePicks (k ++ g) → SameSent s end g (k ++ g)
taken_same l s end [] g t p = same_all s end g
taken_same l s end (x ∷ k) g t p =
    same_more s end g (k ++ g) (x ∷ k ++ g) (taken_same l s end k g t.1 p.1) (quiet_same l s end x (k ++ g) (taken_quiet x t.0) p)

-- what out of memory took back sent nothing
cut_same : AreLoggedIn → (s : SetupText) (end : End) (cut : ℕ) (k g : List Step) → AreTaken k → ArePicks (k ++ g) → ArePicks (state.OutOfMemory ∷ drop cut k ++ g)
    → SameSent s end (k ++ g) (state.OutOfMemory ∷ drop cut k ++ g)
cut_same l s end cut k g t p q =
    same_more s end (k ++ g) g (state.OutOfMemory ∷ drop cut k ++ g)
    (same_back s end g (k ++ g) (taken_same l s end k g t p))
    (same_more s end g (drop cut k ++ g) (state.OutOfMemory ∷ drop cut k ++ g)
    (taken_same l s end (drop cut k) g (drop_taken cut k t) q.1) (quiet_same l s end state.OutOfMemory (drop cut k ++ g) tt q))

record SendsIn (s : SetupText) (end : End) (g : List Step) (taken rest : List ℕ) : Type 0 where
  bytes : taken ++ rest ≡ bytes_in s end g
  free : is_busy (before g) end ≡ false → rest ≡ []

sends_same : {taken rest : List ℕ} (s : SetupText) (end : End) (g k : List Step) → SameSent s end g k → SendsIn s end g taken rest → SendsIn s end k taken rest
sends_same s end g k e x = record { bytes = x.bytes ∙ sym e.bytes; free = λ f. x.free (sym e.busy ∙ f) }

-- ---- a write

clashes : {P : Type 0} → true ≡ false → P
clashes e = absurd cc

spelled_next : (c : Context) (xs : List (Outgoing × List ℕ)) (x : Outgoing × List ℕ) → spelled c (xs ++ x ∷ []) ≡ spelled c xs ++ spell c x.0 x.1
spelled_next c [] x = append-nil (spell c x.0 x.1)
spelled_next c (y ∷ xs) x =
    ap (λ (b : List ℕ). spell c y.0 y.1 ++ b) (spelled_next c xs x) ∙ sym (append_assoc (spell c y.0 y.1) (spelled c xs) (spell c x.0 x.1))

-- the first byte of a unit
gave_bytes : AreLoggedIn → (s : SetupText) (end : End) (g : List Step) (u : Outgoing) → ArePicks g → is_busy (before g) end ≡ false → pick (before g) end ≡ Some u
    → bytes_in s end (Gave u (carries (before g) u) ∷ g) ≡ bytes_in s end g ++ spelled_in s (before g) u
gave_bytes l s Client g (ToClient r) p free e =
    let text : List ℕ = carries_back (before g) r in
    let c : Context = context_in s (Gave (ToClient r) text ∷ g) in
    ap (spelled c) (map-append to_client (sent_with g) ((r, text) ∷ [])) ∙ spelled_next c (sent_to Client g) (ToClient r, text)
    ∙ ap (λ (b : List ℕ). b ++ spell_reply r text) (bytes_stay l s Client (Gave (ToClient r) text) g ((free, e, refl), p))
gave_bytes l s Client g (ToUp r) p free e = absurd (client_picks (before g) r e)
gave_bytes l s Up g (ToClient r) p free e = absurd (up_picks (before g) r e)
gave_bytes l s Up g (ToUp r) p free e =
    let text : List ℕ = carries_up (before g) r in
    let c : Context = context_in s (Gave (ToUp r) text ∷ g) in
    ap (spelled c) (map-append to_up (sent_up_with g) ((r, text) ∷ [])) ∙ spelled_next c (sent_to Up g) (ToUp r, text)
    ∙ ap (λ (b : List ℕ). b ++ spell c (ToUp r) text) (bytes_stay l s Up (Gave (ToUp r) text) g ((free, e, refl), p))
    ∙ ap (λ (b : List ℕ). bytes_in s Up g ++ b) (gave_stay s r text g)
    ∙ ap (λ (c : Context). bytes_in s Up g ++ spell c (ToUp r) text) (sym (context_is s g p))

gave_busy : (end : End) (w : State) (u : Outgoing) → pick w end ≡ Some u → is_busy (step w (Gave u (carries w u))) end ≡ true
gave_busy Client w (ToClient r) e = refl
gave_busy Client w (ToUp r) e = absurd (client_picks w r e)
gave_busy Up w (ToClient r) e = absurd (up_picks w r e)
gave_busy Up w (ToUp r) e = refl

-- and its last
whole_bytes : (s : SetupText) (end : End) (g : List Step) → bytes_in s end (Whole end ∷ g) ≡ bytes_in s end g
whole_bytes s Client g = refl
whole_bytes s Up g = refl

whole_free : (end : End) (w : State) → is_busy (step w (Whole end)) end ≡ false
whole_free Client w = refl
whole_free Up w = refl

none_left : (n : ℕ) (bytes : List ℕ) → nat_lt n (length bytes) ≡ false → drop n bytes ≡ []
none_left n bytes e = drop_all n bytes (grind (arith, nat_tests, e))

-- the unit in progress, of which so many bytes more were taken
goes_on : (s : SetupText) (end : End) (g : List Step) (n : ℕ) (taken bytes : List ℕ) → is_busy (before g) end ≡ true → taken ++ bytes ≡ bytes_in s end g
    → SendsIn s end (ends end n bytes ++ g) (taken ++ take n bytes) (drop n bytes)
goes_on s end g n taken bytes busy e = by (nat_lt n (length bytes)) refl
  where
    all : (taken ++ take n bytes) ++ drop n bytes ≡ bytes_in s end g
    all = append_assoc taken (take n bytes) (drop n bytes) ∙ ap (λ (b : List ℕ). taken ++ b) (take-append-drop n bytes) ∙ e

    by : (b : Bool) → nat_lt n (length bytes) ≡ b → SendsIn s end ((if b then [] else Whole end ∷ []) ++ g) (taken ++ take n bytes) (drop n bytes)
    by true f = record { bytes = all; free = λ x. clashes (sym busy ∙ x) }
    by false f = record { bytes = all ∙ sym (whole_bytes s end g); free = λ x. none_left n bytes f }

took_sends : AreLoggedIn → (s : SetupText) (end : End) (g : List Step) (n : ℕ) (taken rest bytes : List ℕ) → ArePicks g → offered s end (before g) rest ≡ Some bytes
    → SendsIn s end g taken rest → SendsIn s end ((ends end n bytes ++ begins end (before g)) ++ g) (taken ++ take n bytes) (drop n bytes)
took_sends l s end g n taken rest bytes p e x = begun (is_busy (before g) end) refl (pick (before g) end) refl e
  where
    begun : (b : Bool) → is_busy (before g) end ≡ b → (o : Option Outgoing) → pick (before g) end ≡ o → (if b then Some rest else option_map (spelled_in s (before g)) o) ≡ Some bytes
        → SendsIn s end ((ends end n bytes ++ (if b then [] else given (before g) o)) ++ g) (taken ++ take n bytes) (drop n bytes)
    begun true is o at f =
        let same : rest ≡ bytes = cc in
        subst (λ (k : List Step). SendsIn s end (k ++ g) (taken ++ take n bytes) (drop n bytes)) (sym (append-nil (ends end n bytes)))
        (goes_on s end g n taken bytes is (ap (λ (b : List ℕ). taken ++ b) (sym same) ∙ x.bytes))
    begun false is None at f = absurd cc
    begun false is (Some u) at f =
        let same : spelled_in s (before g) u ≡ bytes = cc in
        let none : taken ≡ bytes_in s end g = sym (append-nil taken) ∙ ap (λ (b : List ℕ). taken ++ b) (sym (x.free is)) ∙ x.bytes in
        subst (λ (k : List Step). SendsIn s end k (taken ++ take n bytes) (drop n bytes)) (sym (append_assoc (ends end n bytes) (Gave u (carries (before g) u) ∷ []) g))
        (goes_on s end (Gave u (carries (before g) u) ∷ g) n taken bytes (gave_busy end (before g) u at)
        (ap (λ (b : List ℕ). b ++ bytes) none ∙ ap (λ (b : List ℕ). bytes_in s end g ++ b) (sym same) ∙ sym (gave_bytes l s end g u p is at)))

-- what it leaves of the other end
abbrev other : End → End
other Client = Up
other Up = Client

gave_same : (s : SetupText) (end : End) (g : List Step) (u : Outgoing) → pick (before g) end ≡ Some u → SameSent s (other end) g (Gave u (carries (before g) u) ∷ g)
gave_same s Client g (ToClient r) e = record { bytes = refl; busy = refl }
gave_same s Client g (ToUp r) e = absurd (client_picks (before g) r e)
gave_same s Up g (ToClient r) e = absurd (up_picks (before g) r e)
gave_same s Up g (ToUp r) e = record { bytes = client_same (context_in s (Gave (ToUp r) (carries_up (before g) r) ∷ g)) (context_in s g) (sent_with g); busy = refl }

whole_same : (s : SetupText) (end : End) (g : List Step) → SameSent s (other end) g (Whole end ∷ g)
whole_same s Client g = record { bytes = refl; busy = refl }
whole_same s Up g = record { bytes = refl; busy = refl }

took_same : (s : SetupText) (end : End) (g : List Step) (n : ℕ) (bytes : List ℕ) → SameSent s (other end) g ((ends end n bytes ++ begins end (before g)) ++ g)
took_same s end g n bytes = begun (is_busy (before g) end) (pick (before g) end) refl
  where
    last : (k : List Step) → SameSent s (other end) g (k ++ g) → (b : Bool) → SameSent s (other end) g (((if b then [] else Whole end ∷ []) ++ k) ++ g)
    last k e true = e
    last k e false = same_more s (other end) g (k ++ g) (Whole end ∷ k ++ g) e (whole_same s end (k ++ g))

    begun : (b : Bool) (o : Option Outgoing) → pick (before g) end ≡ o → SameSent s (other end) g ((ends end n bytes ++ (if b then [] else given (before g) o)) ++ g)
    begun true o at = last [] (same_all s (other end) g) (nat_lt n (length bytes))
    begun false None at = last [] (same_all s (other end) g) (nat_lt n (length bytes))
    begun false (Some u) at = last (Gave u (carries (before g) u) ∷ []) (gave_same s end g u at) (nat_lt n (length bytes))

-- ---- all entries

record Both (s : SetupText) (g : List Step) (taken rest taken_up rest_up : List ℕ) : Type 0 where
  client : SendsIn s Client g taken rest
  up : SendsIn s Up g taken_up rest_up

abbrev Sends : SetupText → List Entry → Type 0
Sends s h = Both s (steps_of s h) (taken_bytes Client h) (told s h).client.rest (taken_bytes Up h) (told s h).up.rest

both_same : {a b c d : List ℕ} (s : SetupText) (g k : List Step) → ((end : End) → SameSent s end g k) → Both s g a b c d → Both s k a b c d
both_same s g k e x = record { client = sends_same s Client g k (e Client) x.client; up = sends_same s Up g k (e Up) x.up }

both_quiet : {a b c d : List ℕ} → AreLoggedIn → (s : SetupText) (x : Step) (g : List Step) → IsQuiet x → ArePicks (x ∷ g) → Both s g a b c d → Both s (x ∷ g) a b c d
both_quiet l s x g q p = both_same s g (x ∷ g) (λ end. quiet_same l s end x g q p)

both_taken : {a b c d : List ℕ} → AreLoggedIn → (s : SetupText) (k g : List Step) → AreTaken k → ArePicks (k ++ g) → Both s g a b c d → Both s (k ++ g) a b c d
both_taken l s k g t p = both_same s g (k ++ g) (λ end. taken_same l s end k g t p)

more_none : {taken rest : List ℕ} (s : SetupText) (end : End) (g : List Step) → SendsIn s end g taken rest → SendsIn s end g (taken ++ []) rest
more_none {taken} {rest} s end g x = subst (λ (b : List ℕ). SendsIn s end g b rest) (sym (append-nil taken)) x

-- a moment, at which ends may be given up
ticked_sends : {a b c d : List ℕ} → AreLoggedIn → (s : SetupText) (ms : ℕ) (h : List Entry) → IsRelayed (pair_words s) (entry.Moment ms ∷ h) → Both s (steps_of s h) a b c d
    → Both s (steps_of s (entry.Moment ms ∷ h)) a b c d
ticked_sends {a} {b} {c} {d} l s ms h r x =
    let p : ArePicks (state.Moment ms ∷ steps_of s h) = moment_picks s ms h r in
    (tick_all (λ (g : List Step). ArePicks g × Both s g a b c d)
    (λ end g e y. ((e, y.0), both_quiet l s (state.Silent end) g tt (e, y.0) y.1)) ms (told s h)
    (p, both_quiet l s (state.Moment ms) (steps_of s h) tt p x)).1

-- a read
read_sends : {a b c d : List ℕ} → AreLoggedIn → (s : SetupText) (end : End) (bytes : List ℕ) (h : List Entry) → ArePicks (steps_of s h)
    → AreTaken (told s (entry.Came end bytes ∷ h)).fresh → ArePicks ((told s (entry.Came end bytes ∷ h)).fresh ++ state.Fed end ∷ steps_of s h) → Both s (steps_of s h) a b c d
    → Both s ((told s (entry.Came end bytes ∷ h)).fresh ++ state.Fed end ∷ steps_of s h) a b c d
read_sends l s end bytes h p t q x =
    both_taken l s (told s (entry.Came end bytes ∷ h)).fresh (state.Fed end ∷ steps_of s h) t q (both_quiet l s (state.Fed end) (steps_of s h) tt (tt, p) x)

sends : AreLoggedIn → (s : SetupText) (h : List Entry) → IsRelayed (pair_words s) h → Sends s h
unfolding pair_words
sends l s [] r = record { client = record { bytes = refl; free = λ e. refl }; up = record { bytes = refl; free = λ e. refl } }
sends l s (entry.Began n ms ∷ h) r = both_quiet l s (state.Began (site_of s) n ms) (steps_of s h) tt (picks s (entry.Began n ms ∷ h) r) (sends l s h r.2)
sends l s (entry.Refused ∷ h) r = both_quiet l s state.OutOfMemory (steps_of s h) tt (picks s (entry.Refused ∷ h) r) (sends l s h r.2)
sends l s (entry.Moment ms ∷ h) r = ticked_sends l s ms h r (sends l s h r.2)
sends l s (entry.Came Client bytes ∷ h) r = read_sends l s Client bytes h (picks s h r.2) (fresh_taken s (entry.Came Client bytes ∷ h)) (picks s (entry.Came Client bytes ∷ h) r) (sends l s h r.2)
sends l s (entry.Came Up bytes ∷ h) r = read_sends l s Up bytes h (picks s h r.2) (fresh_taken s (entry.Came Up bytes ∷ h)) (picks s (entry.Came Up bytes ∷ h) r) (sends l s h r.2)
sends l s (entry.Dry end ∷ h) r = sends l s h r.2
sends l s (entry.Settled ∷ h) r =
    let e = entry.Settled in
    both_taken l s (told s (e ∷ h)).fresh (state.LinesTold ∷ steps_of s h) (fresh_taken s (e ∷ h)) (picks s (e ∷ h) r)
    (both_quiet l s state.LinesTold (steps_of s h) tt (tt, picks s h r.2) (sends l s h r.2))
sends l s (entry.Joined answer ∷ h) r = both_quiet l s (state.Joined answer) (steps_of s h) tt (picks s (entry.Joined answer ∷ h) r) (sends l s h r.2)
sends l s (entry.Took Client bytes n ∷ h) r =
    let x = sends l s h r.2 in
    let e = offered_is (is_writable (side_of Client (sides h))) (offered s Client (state_of s h) (told s h).client.rest) bytes r.0.0 in
    record {
      client = took_sends l s Client (steps_of s h) n (taken_bytes Client h) (told s h).client.rest bytes (picks s h r.2) e x.client;
      up = more_none s Up _ (sends_same s Up (steps_of s h) _ (took_same s Client (steps_of s h) n bytes) x.up);
    }
sends l s (entry.Took Up bytes n ∷ h) r =
    let x = sends l s h r.2 in
    let e = offered_is (is_writable (side_of Up (sides h))) (offered s Up (state_of s h) (told s h).up.rest) bytes r.0.0 in
    record {
      client = more_none s Client _ (sends_same s Client (steps_of s h) _ (took_same s Up (steps_of s h) n bytes) x.client);
      up = took_sends l s Up (steps_of s h) n (taken_bytes Up h) (told s h).up.rest bytes (picks s h r.2) e x.up;
    }
sends l s (entry.Stuck end bytes ∷ h) r = sends l s h r.2
sends l s (entry.Lost end how ∷ h) r = both_quiet l s (state.Lost end how) (steps_of s h) tt (picks s (entry.Lost end how ∷ h) r) (sends l s h r.2)
sends l s (entry.OutOfMemory cut ∷ h) r =
    let t = told s h in
    let k : List Step = state.LinesTold ∷ t.fresh in
    let p : ArePicks (k ++ t.past) = (tt, picks s h r.2) in
    both_same s (k ++ t.past) (state.OutOfMemory ∷ drop cut k ++ t.past)
    (λ end. cut_same l s end cut k t.past (ended_taken s h) p (picks s (entry.OutOfMemory cut ∷ h) r)) (both_quiet l s state.LinesTold (steps_of s h) tt p (sends l s h r.2))
sends l s (entry.Over ∷ h) r = sends l s h r.2

pub are_sent : AreLoggedIn → (s : SetupText) (h : List Entry) → IsRelayed (pair_words s) h → (end : End) → AreSent s h end
are_sent l s h r Client = (sends l s h r).client.bytes
are_sent l s h r Up = (sends l s h r).up.bytes

-- where nothing is offered, no unit is in progress and none is due
none_owed : (s : SetupText) (end : End) (w : State) (rest : List ℕ) → (is_busy w end ≡ false → rest ≡ []) → offered s end w rest ≡ None → (rest ≡ []) × (due w end ≡ [])
none_owed s end w rest free e = by (is_busy w end) refl (due w end) refl e
  where
    by : (b : Bool) → is_busy w end ≡ b → (us : List Outgoing) → due w end ≡ us → (if b then Some rest else option_map (spelled_in s w) (first us)) ≡ None → (rest ≡ []) × (due w end ≡ [])
    by true is us at f = absurd cc
    by false is [] at f = (free is, at)
    by false is (u ∷ us) at f = absurd cc

rest_free : AreLoggedIn → (s : SetupText) (h : List Entry) → IsRelayed (pair_words s) h → (end : End) → is_busy (state_of s h) end ≡ false → (stream_of end (told s h)).rest ≡ []
rest_free l s h r Client = (sends l s h r).client.free
rest_free l s h r Up = (sends l s h r).up.free

pub owed : AreLoggedIn → (s : SetupText) (h : List Entry) → IsRelayed (pair_words s) h → (end : End) → OwesNone s h end
unfolding pair_words
owed l s h r end takes e =
    none_owed s end (state_of s h) (stream_of end (told s h)).rest (rest_free l s h r end)
    (sym (ap (λ (b : Bool). if b then offered s end (state_of s h) (stream_of end (told s h)).rest else None) takes) ∙ e)
