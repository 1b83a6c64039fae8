-- What a bridge is once some bytes of what it offers were taken.
use Rattle.std.proofs.Common.{◌≡◌, ◌∙◌, ℕ, ◌<◌, ◌≤◌, Bool, true, false, if◌then◌else◌, List, []}
use Rattle.std.proofs.Common.{◌∷◌, ◌++◌, length, drop, nat_lt, Option, None, Some, refl, sym, ap}
use Rattle.std.proofs.Common.{subst, arith}
use Rattle.std.specs.Prelude.{IfSome, IsSome, is_some}
use Rattle.std.proofs.lemmas.Bool.{le-ltb, lt-ltb}
use Rattle.std.proofs.lemmas.List.{drop_all}
use Rattle.gate_outside.specs.declared.ports.End.{End}
use Rattle.gate_outside.specs.declared.ports.End.TheVariants.{Client, Up}
use Rattle.gate_model.specs.declared.outgoing.Outgoing.{Outgoing}
use Rattle.gate_model.specs.declared.outgoing.Outgoing.TheVariants.{ToClient, ToUp}
use Rattle.gate_relay.specs.Entries.{Entry, Took}
use Rattle.gate_model.specs.Due.{carries, carries_up, is_busy, is_end_next, pick}
use Rattle.gate_model.specs.Setup.{SetupText}
use Rattle.gate_model.specs.State.{State, Step, Gave, Whole, before, step}
use Rattle.bridge_core.specs.Offers.{BridgeState, moved, offer_of, peeked}
use Rattle.gate_pair.specs.Cutting.{after}
use Rattle.gate_pair.specs.Meaning.{Told, begins, ends, given, offered, steps, tells, told, took}
use Rattle.gate_pair.specs.PairStates.{Advances, HasLeft, Half, IsSound, IsSoundAt, PairState, Said}
use Rattle.gate_pair.specs.PairStates.{Represents, Says, is_ready, ready_at, ready_bytes, rest_at}
use Rattle.gate_pair.specs.PairStates.{said, said_stream, tells_at, unlined}
use Rattle.gate_pair.proofs.Saids.{after_before, pair_of, same_said, same_stream, says_of}
use Rattle.gate_pair.proofs.Saids.{told_said}
use Rattle.gate_pair.proofs.Sounds.{client_picks, looked_ready, step_knows, up_picks}

-- ---- what stays sound

-- an offer is taken back by each step
sound_by : (s : Step) (b : BridgeState) (i j k l : ℕ) → IsSound b i j → HasLeft Client k (moved s b) → HasLeft Up l (moved s b) → IsSound (moved s b) k l
sound_by s b i j k l x client up = record {
  login = step_knows s b.state x.login;
  client_left = client;
  up_left = up;
  client_bytes = λ e. absurd cc;
  up_bytes = λ e. absurd cc;
}

gave_sound : (end : End) (u : Outgoing) (b : BridgeState) (at now other : ℕ) → pick b.state end ≡ Some u → now < length (offer_of end b).bytes
    → IsSoundAt end at other b → IsSoundAt end now other (moved (Gave u (carries b.state u)) b)
gave_sound Client (ToClient u) b at now other p h x = sound_by (Gave (ToClient u) []) b at other now other x (λ e. h) x.up_left
gave_sound Client (ToUp u) b at now other p h x = absurd (client_picks b.state u p)
gave_sound Up (ToClient u) b at now other p h x = absurd (up_picks b.state u p)
gave_sound Up (ToUp u) b at now other p h x = sound_by (Gave (ToUp u) (carries_up b.state u)) b other at other now x x.client_left (λ e. h)

-- a unit that began, and of which all bytes were taken at once
sound_both : (s r : Step) (b : BridgeState) (i j k l : ℕ) → IsSound b i j → HasLeft Client k (moved r (moved s b)) → HasLeft Up l (moved r (moved s b)) → IsSound (moved r (moved s b)) k l
sound_both s r b i j k l x client up = record {
  login = step_knows r (step b.state s) (step_knows s b.state x.login);
  client_left = client;
  up_left = up;
  client_bytes = λ e. absurd cc;
  up_bytes = λ e. absurd cc;
}

both_sound : (end : End) (u : Outgoing) (b : BridgeState) (at now other : ℕ) → pick b.state end ≡ Some u
    → IsSoundAt end at other b → IsSoundAt end now other (moved (Whole end) (moved (Gave u (carries b.state u)) b))
both_sound Client (ToClient u) b at now other p x = sound_both (Gave (ToClient u) []) (Whole Client) b at other now other x (λ e. absurd cc) x.up_left
both_sound Client (ToUp u) b at now other p x = absurd (client_picks b.state u p)
both_sound Up (ToClient u) b at now other p x = absurd (up_picks b.state u p)
both_sound Up (ToUp u) b at now other p x = sound_both (Gave (ToUp u) (carries_up b.state u)) (Whole Up) b other at other now x x.client_left (λ e. absurd cc)

-- ---- what is ready

abbrev ready_by : Bool → Bool → List ℕ → List ℕ → Option (List ℕ)
ready_by busy ready rest bytes = if busy then Some rest else if ready then Some bytes else None

-- while no unit is in progress what is ready was found by a look
free_ready : (end : End) (at : ℕ) (b : BridgeState) → is_busy b.state end ≡ false → is_some (ready_at end at b) ≡ true → (offer_of end b).ready ≡ true
free_ready end at b free some = by (is_busy b.state end) (offer_of end b).ready free some
  where
    by : (x y : Bool) → x ≡ false → is_some (ready_by x y (drop at (offer_of end b).bytes) (offer_of end b).bytes) ≡ true → y ≡ true
    by true y e f = absurd cc
    by false true e f = refl
    by false false e f = absurd cc

free_left : (end : End) (at : ℕ) (b : BridgeState) → is_busy b.state end ≡ false → is_some (ready_at end at b) ≡ true → ready_at end at b ≡ Some (offer_of end b).bytes
free_left end at b free some =
    ap (λ (x : Bool). ready_by x (offer_of end b).ready (drop at (offer_of end b).bytes) (offer_of end b).bytes) free
    ∙ ap (λ (y : Bool). ready_by false y (drop at (offer_of end b).bytes) (offer_of end b).bytes) (free_ready end at b free some)

pub free_within : (end : End) (at n : ℕ) (b : BridgeState) → is_busy b.state end ≡ false → is_some (ready_at end at b) ≡ true
    → IfSome (ready_at end at b) (λ bytes. n ≤ length bytes) → n ≤ length (offer_of end b).bytes
free_within end at n b free some within = subst (λ (o : Option (List ℕ)). IfSome o (λ bytes. n ≤ length bytes)) (free_left end at b free some) within

-- ---- the steps of a write

free_steps : (end : End) (n at : ℕ) (b : BridgeState) (u : Outgoing) → is_busy b.state end ≡ false → pick b.state end ≡ Some u
    → ends end n (ready_bytes end at b) ++ begins end b.state ≡ ends end n (offer_of end b).bytes ++ Gave u (carries b.state u) ∷ []
free_steps end n at b u e p =
    ap (λ (x : Bool). ends end n (if x then drop at (offer_of end b).bytes else (offer_of end b).bytes) ++ (if x then [] else given b.state (pick b.state end))) e
    ∙ ap (λ (o : Option Outgoing). ends end n (offer_of end b).bytes ++ given b.state o) p

ends_whole : (end : End) (n : ℕ) (bytes : List ℕ) → length bytes ≤ n → ends end n bytes ≡ Whole end ∷ []
ends_whole end n bytes h = ap (λ (x : Bool). if x then [] else Whole end ∷ []) (le-ltb n (length bytes) h)

ends_more : (end : End) (n : ℕ) (bytes : List ℕ) → n < length bytes → ends end n bytes ≡ []
ends_more end n bytes h = ap (λ (x : Bool). if x then [] else Whole end ∷ []) (lt-ltb n (length bytes) h)

free_bytes : (end : End) (at : ℕ) (b : BridgeState) → is_busy b.state end ≡ false → ready_bytes end at b ≡ (offer_of end b).bytes
free_bytes end at b e = ap (λ (x : Bool). if x then drop at (offer_of end b).bytes else (offer_of end b).bytes) e

-- a unit is in progress from its first byte to its last
whole_free : (end : End) (w : State) → is_busy (step w (Whole end)) end ≡ false
whole_free Client w = refl
whole_free Up w = refl

gave_busy : (end : End) (w : State) (u : Outgoing) → pick w end ≡ Some u → is_busy (step w (Gave u (carries w u))) end ≡ true
gave_busy Client w (ToClient u) p = refl
gave_busy Client w (ToUp u) p = absurd (client_picks w u p)
gave_busy Up w (ToClient u) p = absurd (up_picks w u p)
gave_busy Up w (ToUp u) p = refl

-- a step leaves the bytes
moved_bytes : (end : End) (s : Step) (b : BridgeState) → (offer_of end (moved s b)).bytes ≡ (offer_of end b).bytes
moved_bytes Client s b = refl
moved_bytes Up s b = refl

-- ---- a write

-- the unit that was offered began, and all of it was taken
all_taken : (end : End) (n at : ℕ) (b : BridgeState) (u : Outgoing) → is_busy b.state end ≡ false → pick b.state end ≡ Some u → length (offer_of end b).bytes ≤ n
    → Advances end n at n b (moved (Whole end) (moved (Gave u (carries b.state u)) b))
all_taken end n at b u e p h = record {
  state = ap (λ (g : List Step). after g b.state)
      (sym (free_steps end n at b u e p ∙ ap (λ (g : List Step). g ++ Gave u (carries b.state u) ∷ []) (ends_whole end n (offer_of end b).bytes h)));
  left = ap (λ (x : Bool). rest_at x n (offer_of end (moved (Whole end) (moved (Gave u (carries b.state u)) b))).bytes) (whole_free end (step b.state (Gave u (carries b.state u))))
      ∙ sym (ap (drop n) (free_bytes end at b e) ∙ drop_all n (offer_of end b).bytes h);
  client = refl;
  up = refl;
  sound = λ other x. both_sound end u b at n other p x;
}

-- or a part of it
begun : (end : End) (n at : ℕ) (b : BridgeState) (u : Outgoing) → is_busy b.state end ≡ false → pick b.state end ≡ Some u → n < length (offer_of end b).bytes
    → Advances end n at n b (moved (Gave u (carries b.state u)) b)
begun end n at b u e p h = record {
  state = ap (λ (g : List Step). after g b.state)
      (sym (free_steps end n at b u e p ∙ ap (λ (g : List Step). g ++ Gave u (carries b.state u) ∷ []) (ends_more end n (offer_of end b).bytes h)));
  left = ap (λ (x : Bool). rest_at x n (offer_of end (moved (Gave u (carries b.state u)) b)).bytes) (gave_busy end b.state u p)
      ∙ ap (drop n) (moved_bytes end (Gave u (carries b.state u)) b) ∙ sym (ap (drop n) (free_bytes end at b e));
  client = refl;
  up = refl;
  sound = λ other x. gave_sound end u b at n other p h x;
}

pub whole_taken : (end : End) (n at : ℕ) (b c d : BridgeState) → is_busy b.state end ≡ false → n ≡ length (offer_of end b).bytes
    → IsSome (pick b.state end) → IfSome (pick b.state end) (λ u. c ≡ moved (Gave u (carries b.state u)) b) → d ≡ moved (Whole end) c → Advances end n at n b d
whole_taken end n at b c d e h some gave is = by (pick b.state end) refl some gave
  where
    le : length (offer_of end b).bytes ≤ n
    le = omega arith

    by : (o : Option Outgoing) → pick b.state end ≡ o → IsSome o → IfSome o (λ u. c ≡ moved (Gave u (carries b.state u)) b) → Advances end n at n b d
    by None p s g = absurd cc
    by (Some u) p s g = subst (λ (v : BridgeState). Advances end n at n b v) (sym (is ∙ ap (moved (Whole end)) g)) (all_taken end n at b u e p le)

pub begun_taken : (end : End) (n at : ℕ) (b c : BridgeState) → is_busy b.state end ≡ false → n < length (offer_of end b).bytes
    → IsSome (pick b.state end) → IfSome (pick b.state end) (λ u. c ≡ moved (Gave u (carries b.state u)) b) → Advances end n at n b c
begun_taken end n at b c e h some gave = by (pick b.state end) refl some gave
  where
    by : (o : Option Outgoing) → pick b.state end ≡ o → IsSome o → IfSome o (λ u. c ≡ moved (Gave u (carries b.state u)) b) → Advances end n at n b c
    by None p s g = absurd cc
    by (Some u) p s g = subst (λ (v : BridgeState). Advances end n at n b v) (sym g) (begun end n at b u e p h)

-- ---- what a pair says after it

ready_same : (end : End) (at : ℕ) (b : BridgeState) (bytes : List ℕ) → ready_at end at b ≡ Some bytes → ready_bytes end at b ≡ bytes
ready_same end at b bytes e = by (is_busy b.state end) (offer_of end b).ready e
  where
    by : (x y : Bool) → (if x then Some (drop at (offer_of end b).bytes) else if y then Some (offer_of end b).bytes else None) ≡ Some bytes
        → (if x then drop at (offer_of end b).bytes else (offer_of end b).bytes) ≡ bytes
    by true y e = cc
    by false true e = cc
    by false false e = absurd cc

-- the other end goes on
client_leaves : (n : ℕ) (bytes : List ℕ) (w : State) → is_busy (after (ends Client n bytes ++ begins Client w) w) Up ≡ is_busy w Up
client_leaves n bytes w = by (nat_lt n (length bytes)) (is_busy w Client) (pick w Client) refl
  where
    by : (x y : Bool) (o : Option Outgoing) → pick w Client ≡ o → is_busy (after ((if x then [] else Whole Client ∷ []) ++ (if y then [] else given w o)) w) Up ≡ is_busy w Up
    by true true o p = refl
    by false true o p = refl
    by true false None p = refl
    by false false None p = refl
    by true false (Some (ToClient u)) p = refl
    by false false (Some (ToClient u)) p = refl
    by x false (Some (ToUp u)) p = absurd (client_picks w u p)

up_leaves : (n : ℕ) (bytes : List ℕ) (w : State) → is_busy (after (ends Up n bytes ++ begins Up w) w) Client ≡ is_busy w Client
up_leaves n bytes w = by (nat_lt n (length bytes)) (is_busy w Up) (pick w Up) refl
  where
    by : (x y : Bool) (o : Option Outgoing) → pick w Up ≡ o → is_busy (after ((if x then [] else Whole Up ∷ []) ++ (if y then [] else given w o)) w) Client ≡ is_busy w Client
    by true true o p = refl
    by false true o p = refl
    by true false None p = refl
    by false false None p = refl
    by true false (Some (ToUp u)) p = refl
    by false false (Some (ToUp u)) p = refl
    by x false (Some (ToClient u)) p = absurd (up_picks w u p)

pub client_took : (n now : ℕ) (b d : BridgeState) (x y z : Half) (i j : Bool) (old : PairState) → pair_of b x y i ≡ old → z ≡ record x { at = now } → Advances Client n x.at now b d
    → (t : Told) (bytes : List ℕ) → is_ready old Client ≡ Some bytes → Says old t → Says (pair_of d z y j) (took Client n bytes t)
client_took n now b d x y z i j old was half a t bytes ready e =
    let f : Says (pair_of b x y i) t = says_of b x y i old t was e in
    let r : ready_bytes Client x.at b ≡ bytes = ready_same Client x.at b bytes (ap (λ (p : PairState). is_ready p Client) was ∙ ready) in
    let g : List Step = ends Client n bytes ++ begins Client (before (steps t)) in
    ap (λ (h : Half). unlined (said (pair_of d h y j))) half
    ∙ same_said _ _ _ _ _ _
    (a.state ∙ ap (λ (xs : List ℕ). after (ends Client n xs ++ begins Client b.state) b.state) r
    ∙ ap (λ (z : Said). after (ends Client n bytes ++ begins Client z.state) z.state) f ∙ sym (after_before g (steps t)))
    (same_stream _ _ _ _ (ap (λ (z : Said). z.client.unread) f) (a.left ∙ ap (drop n) r))
    (same_stream _ _ _ _ refl
    (ap (λ (w : State). rest_at (is_busy w Up) y.at d.up.bytes) a.state ∙ ap (λ (v : Bool). rest_at v y.at d.up.bytes) (client_leaves n (ready_bytes Client x.at b) b.state)
    ∙ ap (rest_at (is_busy b.state Up) y.at) a.up) ∙ ap (λ (z : Said). z.up) f)

pub up_took : (n now : ℕ) (b d : BridgeState) (x y z : Half) (i j : Bool) (old : PairState) → pair_of b x y i ≡ old → z ≡ record y { at = now } → Advances Up n y.at now b d
    → (t : Told) (bytes : List ℕ) → is_ready old Up ≡ Some bytes → Says old t → Says (pair_of d x z j) (took Up n bytes t)
up_took n now b d x y z i j old was half a t bytes ready e =
    let f : Says (pair_of b x y i) t = says_of b x y i old t was e in
    let r : ready_bytes Up y.at b ≡ bytes = ready_same Up y.at b bytes (ap (λ (p : PairState). is_ready p Up) was ∙ ready) in
    let g : List Step = ends Up n bytes ++ begins Up (before (steps t)) in
    ap (λ (h : Half). unlined (said (pair_of d x h j))) half
    ∙ same_said _ _ _ _ _ _
    (a.state ∙ ap (λ (xs : List ℕ). after (ends Up n xs ++ begins Up b.state) b.state) r
    ∙ ap (λ (z : Said). after (ends Up n bytes ++ begins Up z.state) z.state) f ∙ sym (after_before g (steps t)))
    (same_stream _ _ _ _ refl
    (ap (λ (w : State). rest_at (is_busy w Client) x.at d.client.bytes) a.state ∙ ap (λ (v : Bool). rest_at v x.at d.client.bytes) (up_leaves n (ready_bytes Up y.at b) b.state)
    ∙ ap (rest_at (is_busy b.state Client) x.at) a.client) ∙ ap (λ (z : Said). z.client) f)
    (same_stream _ _ _ _ (ap (λ (z : Said). z.up.unread) f) (a.left ∙ ap (drop n) r))

-- a line is due where an end of a session began to go
took_tells : (end : End) (n : ℕ) (bytes : List ℕ) (w : State) (t : Told) → w ≡ before (steps t) → tells_at end w ≡ tells (Took end bytes n) t
took_tells Client n bytes w t e = refl
took_tells Up n bytes w t e = ap is_end_next e

pub took_said : (s : SetupText) (end : End) (n : ℕ) (bytes : List ℕ) (old new : PairState) (h : List Entry)
    → ((t : Told) (bytes : List ℕ) → is_ready old end ≡ Some bytes → Says old t → Says new (took end n bytes t)) → new.telling ≡ tells_at end old.bridge.state
    → is_ready old end ≡ Some bytes → Represents s old h → Represents s new (Took end bytes n ∷ h)
took_said s end n bytes old new h says telling ready e =
    told_said new (took end n bytes (told s h)) (tells (Took end bytes n) (told s h)) (says (told s h) bytes ready (ap unlined e))
    (telling ∙ took_tells end n bytes old.bridge.state (told s h) (ap (λ (z : Said). z.state) e))

-- by the counts of both ends
pub client_sound : (n now at : ℕ) (b d : BridgeState) (x y z : Half) → IsSound b x.at y.at → at ≡ x.at → z ≡ record x { at = now } → Advances Client n at now b d → IsSound d z.at y.at
client_sound n now at b d x y z k is half a =
    subst (λ (i : ℕ). IsSound d i y.at) (sym (ap (λ (h : Half). h.at) half)) (a.sound y.at (subst (λ (i : ℕ). IsSound b i y.at) (sym is) k))

pub up_sound : (n now at : ℕ) (b d : BridgeState) (x y z : Half) → IsSound b x.at y.at → at ≡ y.at → z ≡ record y { at = now } → Advances Up n at now b d → IsSound d x.at z.at
up_sound n now at b d x y z k is half a =
    subst (λ (j : ℕ). IsSound d x.at j) (sym (ap (λ (h : Half). h.at) half)) (a.sound x.at (subst (λ (j : ℕ). IsSound b x.at j) (sym is) k))

-- what a look at a pair found is what is offered
pub look_ready : (s : SetupText) (end : End) (b : BridgeState) (x y : Half) (i : Bool) → is_busy b.state end ≡ false
    → is_ready (pair_of (peeked s end b) x y i) end ≡ offered s end b.state (said_stream end (said (pair_of b x y i))).rest
look_ready s Client b x y i free = looked_ready s Client b x.at _ free
look_ready s Up b x y i free = looked_ready s Up b y.at _ free
