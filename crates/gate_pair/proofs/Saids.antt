-- What a pair says after a read, also where it ran out of memory within it.
use Rattle.std.proofs.Common.{◌≡◌, ◌∙◌, ℕ, suc, ◌+◌, Bool, true, false, if◌then◌else◌}
use Rattle.std.proofs.Common.{List, [], ◌∷◌, ◌++◌, Option, None, Some, append-nil, append_assoc, refl}
use Rattle.std.proofs.Common.{sym, ap, subst, drop, length}
use Rattle.std.specs.Bool.{OnFalse, OnTrue}
use Rattle.std.specs.Prelude.{Result, Ok, Err, OnErr, OnOk, is_some}
use Rattle.std.specs.Option.{option_map}
use Rattle.std.proofs.Math.Seq.{drop-append_seam}
use Rattle.gate_outside.specs.declared.ports.End.{End}
use Rattle.gate_outside.specs.declared.ports.End.TheVariants.{Client, Up}
use Rattle.gate_outside.specs.Streams.{Appends}
use Rattle.open_items.specs.declared.lost.LostItem.{LostItem}
use Rattle.gate_model.specs.declared.outgoing.Outgoing.TheVariants.{ToClient, ToUp}
use Rattle.gate_model.specs.declared.outgoing.UpUnit.{UpUnit}
use Rattle.gate_model.specs.declared.reply.Reply.{Reply}
use Rattle.gate_model.specs.Due.{is_busy}
use Rattle.gate_relay.specs.Entries as entry
use Rattle.gate_relay.specs.Entries.{Entry}
use Rattle.gate_model.specs.Setup.{SetupText}
use Rattle.gate_model.specs.Spelling.{lines_text}
use Rattle.gate_model.specs.State.{State, Step, Fed, LinesTold, OutOfMemory, before, owed_lines}
use Rattle.gate_model.specs.State.{step}
use Rattle.bridge_core.specs.Offers.{BridgeState, Keeps, moved, offer_of}
use Rattle.gate_pair.specs.Cutting.{Cut, after, cut_all, settle}
use Rattle.gate_pair.specs.Meaning.{Stream, Told, came, leaves, made, pair_words, ran_out, read_in}
use Rattle.gate_pair.specs.Meaning.{settled, steps, taken_up, told}
use Rattle.gate_pair.proofs.Cuts.{drop_list, none_cut}
use Rattle.gate_pair.specs.PairStates.{FailedAt, FailedIn, Half, IsCut, IsRead, PairState, Reads}
use Rattle.gate_pair.specs.PairStates.{ReadsInPart, Represents, Said, Says, Settles}
use Rattle.gate_pair.specs.PairStates.{rest_at, said, said_of, stream_at, unlined}

pub keeps_more : (a b c : BridgeState) → Keeps a b → Keeps b c → Keeps a c
keeps_more a b c p q = record {
  client = q.client ∙ p.client;
  up = q.up ∙ p.up;
  going = q.going ∙ p.going;
  going_up = q.going_up ∙ p.going_up;
}

pub after_before : (g h : List Step) → before (g ++ h) ≡ after g (before h)
after_before [] h = refl
after_before (s ∷ g) h = ap (λ w. step w s) (after_before g h)

pub same_said : (w v : State) (c d u x : Stream) → w ≡ v → c ≡ d → u ≡ x →
    (let y : Said = record { state = w; client = c; up = u; lines = [] } in y) ≡ record { state = v; client = d; up = x; lines = [] }
same_said w v c d u x e p q = cc

pub same_stream : (a b c d : List ℕ) → a ≡ b → c ≡ d → (let y : Stream = record { unread = a; rest = c } in y) ≡ record { unread = b; rest = d }
same_stream a b c d p q = cc

-- the rest of the unit in progress stays
pub rest_kept : (end : End) (b d : BridgeState) (at : ℕ) → Keeps b d
    → rest_at (is_busy d.state end) at (offer_of end d).bytes ≡ rest_at (is_busy b.state end) at (offer_of end b).bytes
rest_kept Client b d at k =
    ap (λ (o : Option Reply). rest_at (is_some (option_map ToClient o)) at d.client.bytes) k.going ∙ ap (rest_at (is_busy b.state Client) at) k.client
rest_kept Up b d at k =
    ap (λ (o : Option UpUnit). rest_at (is_some (option_map ToUp o)) at d.up.bytes) k.going_up ∙ ap (rest_at (is_busy b.state Up) at) k.up

-- and with it what is unread, where that doesn't change
pub stream_kept : (end : End) (b d : BridgeState) (x : Half) → Keeps b d → stream_at end d x ≡ stream_at end b x
stream_kept end b d x k = same_stream _ _ _ _ refl (rest_kept end b d x.at k)

-- steps from a state that is said
pub said_after : (g : List Step) (w : State) (t : Told) → w ≡ before (steps t) → after g w ≡ before (g ++ steps t)
said_after g w t e = ap (after g) e ∙ sym (after_before g (steps t))

-- ---- lines

with_lines : (x y : Said) → unlined x ≡ unlined y → x.lines ≡ y.lines → x ≡ y
with_lines x y e lines = ap (λ (z : Said). record z { lines = x.lines }) e ∙ ap (λ (items : List LostItem). record y { lines = items }) lines

-- what a pair says besides decides its lines, with whether the newest entry may make some due
pub told_said : (p : PairState) (t : Told) (b : Bool) → Says p t → p.telling ≡ b → said p ≡ said_of (record t { telling = b })
told_said p t b e flag =
    with_lines (said p) (said_of (record t { telling = b })) e
    (ap (λ (c : Bool). if c then owed_lines p.bridge.state else []) flag ∙ ap (λ (z : Said). if b then owed_lines z.state else []) e)

-- ---- a step

abbrev pub half : List ℕ → ℕ → Half
half unread at = record { unread = unread; at = at }

abbrev pub pair_of : BridgeState → Half → Half → Bool → PairState
pair_of b x y telling = record { bridge = b; client = x; up = y; telling = telling }

pub says_of : (b : BridgeState) (x y : Half) (i : Bool) (old : PairState) (t : Told) → pair_of b x y i ≡ old → Says old t → Says (pair_of b x y i) t
says_of b x y i old t was e = ap (λ (p : PairState). unlined (said p)) was ∙ e

pub moved_says : (s : Step) (b d : BridgeState) (x y : Half) (i j : Bool) (old : PairState) → pair_of b x y i ≡ old → d ≡ moved s b → Keeps b d
    → (t : Told) → Says old t → Says (pair_of d x y j) (made (s ∷ []) t)
moved_says s b d x y i j old was is k t e =
    let f : Says (pair_of b x y i) t = says_of b x y i old t was e in
    same_said _ _ _ _ _ _ (ap (λ (v : BridgeState). v.state) is ∙ ap (λ (z : Said). step z.state s) f)
    (stream_kept Client b d x k ∙ ap (λ (z : Said). z.client) f)
    (stream_kept Up b d y k ∙ ap (λ (z : Said). z.up) f)

-- ---- a read of which all counts

-- bytes of the client were cut
pub taken_in : (bytes : List ℕ) (b d : BridgeState) (x y z : Half) (i j : Bool) (old : PairState) → pair_of b x y i ≡ old
    → IsRead b.state (cut_all Client b.state (x.unread ++ bytes)) d.state z.unread → Keeps b d → z.at ≡ x.at
    → (t : Told) → Says old t → Says (pair_of d z y j) (read_in Client bytes t)
taken_in bytes b d x y z i j old was r k sent t e =
    let f : Says (pair_of b x y i) t = says_of b x y i old t was e in
    let w : b.state ≡ before (steps t) = ap (λ (z : Said). z.state) f in
    let u : x.unread ++ bytes ≡ t.client.unread ++ bytes = ap (λ (z : Said). z.client.unread ++ bytes) f in
    let here : cut_all Client b.state (x.unread ++ bytes) ≡ cut_all Client (before (steps t)) (t.client.unread ++ bytes) =
    ap (cut_all Client b.state) u ∙ ap (λ (v : State). cut_all Client v (t.client.unread ++ bytes)) w in
    let g : List Step = (cut_all Client (before (steps t)) (t.client.unread ++ bytes)).fresh in
    same_said _ _ _ _ _ _
    (r.now ∙ ap (λ (c : Cut). after c.fresh b.state) here ∙ ap (after g) w ∙ sym (after_before g (steps t)))
    (same_stream _ _ _ _
    (r.left ∙ ap (λ (c : Cut). c.unread) here)
    (ap (λ (n : ℕ). rest_at (is_busy d.state Client) n d.client.bytes) sent ∙ rest_kept Client b d x.at k ∙ ap (λ (z : Said). z.client.rest) f))
    (stream_kept Up b d y k ∙ ap (λ (z : Said). z.up) f)

-- bytes of the container were cut
pub heard_in : (all bytes : List ℕ) (n : ℕ) (b d : BridgeState) (x y z : Half) (i j : Bool) (old : PairState) → pair_of b x y i ≡ old → all ≡ y.unread ++ bytes
    → Reads Up all n b.state d.state → Keeps b d → z ≡ record y { unread = drop n all }
    → (t : Told) → Says old t → Says (pair_of d x z j) (read_in Up bytes t)
heard_in all bytes n b d x y z i j old was is r k half t e =
    let f : Says (pair_of b x y i) t = says_of b x y i old t was e in
    let w : b.state ≡ before (steps t) = ap (λ (z : Said). z.state) f in
    let u : all ≡ t.up.unread ++ bytes = is ∙ ap (λ (z : Said). z.up.unread ++ bytes) f in
    let here : cut_all Up b.state all ≡ cut_all Up (before (steps t)) (t.up.unread ++ bytes) =
    ap (cut_all Up b.state) u ∙ ap (λ (v : State). cut_all Up v (t.up.unread ++ bytes)) w in
    let g : List Step = (cut_all Up (before (steps t)) (t.up.unread ++ bytes)).fresh in
    same_said _ _ _ _ _ _
    (r.now ∙ ap (λ (c : Cut). after c.fresh b.state) here ∙ ap (after g) w ∙ sym (after_before g (steps t)))
    (stream_kept Client b d x k ∙ ap (λ (z : Said). z.client) f)
    (same_stream _ _ _ _
    (ap (λ (h : Half). h.unread) half ∙ r.left ∙ ap (λ (c : Cut). c.unread) here)
    (ap (λ (h : Half). rest_at (is_busy d.state Up) h.at d.up.bytes) half ∙ rest_kept Up b d y.at k ∙ ap (λ (z : Said). z.up.rest) f))

-- ---- a read within which the pair ran out of memory

-- what is in progress goes on, and no byte waits
abbrev dropped : Half → Half
dropped x = record x { unread = [] }

abbrev lost_of : BridgeState → Half → Half → Bool → PairState
lost_of d x y j = pair_of d (dropped x) (dropped y) j

-- where the newest entry brings these steps in front of others, and leaves what is in progress
failed_at : (newest : Told → Told) (b d : BridgeState) (x y : Half) (i j : Bool) (more : ℕ) (all : List Step) (c : IsCut b.state d.state all) → Keeps b d
    → ((t : Told) → Says (pair_of b x y i) t → drop more (newest t).fresh ≡ all)
    → ((t : Told) → (newest t).past ≡ steps t) → ((t : Told) → (newest t).client.rest ≡ t.client.rest) → ((t : Told) → (newest t).up.rest ≡ t.up.rest)
    → FailedAt (suc (more + length c.newer)) newest (pair_of b x y i) (lost_of d x y j)
failed_at newest b d x y i j more all c k fresh past client up t e =
    let left : drop (more + length c.newer) (newest t).fresh ≡ c.older =
    sym (drop_list (length c.newer) more (newest t).fresh) ∙ ap (drop (length c.newer)) (fresh t e ∙ c.parts) ∙ drop-append_seam c.newer c.older in
    same_said _ _ _ _ _ _
    (c.now ∙ ap (λ (w : State). step (after c.older w) OutOfMemory) (ap (λ (z : Said). z.state) e)
    ∙ ap (λ (w : State). step w OutOfMemory) (sym (after_before c.older (steps t)))
    ∙ ap (λ (g : List Step). before (OutOfMemory ∷ g)) (sym (ap (λ (g : List Step). g ++ (newest t).past) left ∙ ap (λ (h : List Step). c.older ++ h) (past t))))
    (same_stream _ _ _ _ refl (rest_kept Client b d x.at k ∙ ap (λ (z : Said). z.client.rest) e ∙ sym (client t)))
    (same_stream _ _ _ _ refl (rest_kept Up b d y.at k ∙ ap (λ (z : Said). z.up.rest) e ∙ sym (up t)))

-- by what was and what is
between : (P : PairState → PairState → Type 0) (p q old new : PairState) → p ≡ old → new ≡ q → P p q → P old new
between P p q old new was now x = subst (λ (o : PairState). P o new) was (subst (P p) (sym now) x)

-- ---- bytes that come, behind those that are no unit yet

pub same_half : (a b : List ℕ) (i j : ℕ) → a ≡ b → i ≡ j → (let x : Half = record { unread = a; at = i } in x) ≡ record { unread = b; at = j }
same_half a b i j p q = cc

-- of the client
pub taken_failed : (bytes : List ℕ) (b d : BridgeState) (x y z : Half) (i j : Bool) (old new : PairState) → pair_of b x y i ≡ old → z.at ≡ x.at
    → new ≡ lost_of d z y j → ReadsInPart Client (x.unread ++ bytes) b.state d.state → Keeps b d → FailedIn (read_in Client bytes) old new
taken_failed bytes b d x y z i j old new was at now c k =
    between (FailedIn (read_in Client bytes)) (pair_of b x y i) (lost_of d x y j) old new was
    (now ∙ ap (λ (h : Half). pair_of d h (dropped y) j) (same_half [] [] z.at x.at refl at)) (
      suc (0 + length c.newer),
      failed_at (read_in Client bytes) b d x y i j 0 _ c k
          (λ t e. ap (λ (z : Said). (cut_all Client z.state (z.client.unread ++ bytes)).fresh) (sym e)) (λ t. refl) (λ t. refl) (λ t. refl),
    )

-- of the container
pub heard_failed : (all bytes : List ℕ) (b d : BridgeState) (x y z : Half) (i j : Bool) (old new : PairState) → pair_of b x y i ≡ old → all ≡ y.unread ++ bytes → z.at ≡ y.at
    → new ≡ lost_of d x z j → ReadsInPart Up all b.state d.state → Keeps b d → FailedIn (read_in Up bytes) old new
heard_failed all bytes b d x y z i j old new was is at now c k =
    between (FailedIn (read_in Up bytes)) (pair_of b x y i) (lost_of d x y j) old new was
    (now ∙ ap (λ (h : Half). pair_of d (dropped x) h j) (same_half [] [] z.at y.at refl at)) (
      suc (0 + length c.newer),
      failed_at (read_in Up bytes) b d x y i j 0 _ c k
          (λ t e. ap (λ (z : Said). (cut_all Up z.state (z.up.unread ++ bytes)).fresh) (sym e) ∙ ap (λ (xs : List ℕ). (cut_all Up b.state xs).fresh) (sym is))
          (λ t. refl) (λ t. refl) (λ t. refl),
    )

pub heard_lost : (bytes : List ℕ) (b d : BridgeState) (x y z : Half) (i j : Bool) (old new : PairState) → pair_of b x y i ≡ old → z ≡ y
    → new ≡ lost_of d x z j → d ≡ moved OutOfMemory b → Keeps b d → FailedIn (read_in Up bytes) old new
heard_lost bytes b d x y z i j old new was half now is k =
    heard_failed (y.unread ++ bytes) bytes b d x y z i j old new was refl (ap (λ (h : Half). h.at) half) now
    (none_cut Up b.state d.state (y.unread ++ bytes) (ap (λ (v : BridgeState). v.state) is)) k

-- ---- what can be taken up

-- the client's units were, and then that its end ended or failed
taken_up_said : (b d e : BridgeState) (x y : Half) (i : Bool) → Settles b.state d.state → Keeps b d
    → e.state ≡ after (leaves d.state) d.state → Keeps d e → (t : Told) → Says (pair_of b x y i) t → Says (pair_of e x y i) (taken_up t)
taken_up_said b d e x y i r k left m t h =
    let kept : Keeps b e = keeps_more b d e k m in
    let g : List Step = settle (before (steps t)) [] in
    let now : d.state ≡ before (g ++ steps t) = r (before (steps t)) [] (ap (λ (z : Said). z.state) h) ∙ sym (after_before g (steps t)) in
    same_said _ _ _ _ _ _
    (left ∙ ap (λ (v : State). after (leaves v) v) now ∙ sym (after_before (leaves (before (g ++ steps t))) (g ++ steps t))
    ∙ ap before (sym (append_assoc (leaves (before (g ++ steps t))) g (steps t))))
    (stream_kept Client b e x kept ∙ ap (λ (z : Said). z.client) h)
    (stream_kept Up b e y kept ∙ ap (λ (z : Said). z.up) h)

taken_up_failed : (b d : BridgeState) (x y : Half) (i : Bool) → IsCut b.state d.state (settle b.state []) → Keeps b d → FailedIn taken_up (pair_of b x y i) (lost_of d x y i)
taken_up_failed b d x y i c k =
    (suc (length (leaves w) + length c.newer), failed_at taken_up b d x y i i (length (leaves w)) all c k behind (λ t. refl) (λ t. refl) (λ t. refl))
  where
    all : List Step
    all = settle b.state []

    w : State
    w = after all b.state

    behind : (t : Told) → Says (pair_of b x y i) t → drop (length (leaves w)) (taken_up t).fresh ≡ all
    behind t e =
        let fresh : settle (before (steps t)) [] ≡ all = ap (λ (z : Said). settle z.state []) (sym e) in
        let now : before (settle (before (steps t)) [] ++ steps t) ≡ w =
        after_before (settle (before (steps t)) []) (steps t) ∙ ap (λ (g : List Step). after g (before (steps t))) fresh ∙ ap (λ (z : Said). after all z.state) (sym e) in
        ap (λ (v : State). drop (length (leaves w)) (leaves v ++ settle (before (steps t)) [])) now
        ∙ ap (λ (g : List Step). drop (length (leaves w)) (leaves w ++ g)) fresh
        ∙ drop-append_seam (leaves w) all

-- behind the lines that were told before
pub settled_said : (b c d e : BridgeState) (x y : Half) (i j : Bool) (old : PairState) → pair_of b x y i ≡ old → c ≡ moved LinesTold b → Keeps b c
    → Settles c.state d.state → Keeps c d → e.state ≡ after (leaves d.state) d.state → Keeps d e → (t : Told) → Says old t → Says (pair_of e x y j) (settled t)
settled_said b c d e x y i j old was told k r m left n t f =
    taken_up_said c d e x y j r m left n (made (LinesTold ∷ []) t) (moved_says LinesTold b c x y i j old was told k t f)

pub settled_failed : (b c d : BridgeState) (x y : Half) (i j : Bool) (old new : PairState) → pair_of b x y i ≡ old → c ≡ moved LinesTold b → Keeps b c → new ≡ lost_of d x y j
    → IsCut c.state d.state (settle c.state []) → Keeps c d → FailedIn settled old new
settled_failed b c d x y i j old new was told k now part m =
    let f : FailedIn taken_up (pair_of c x y j) (lost_of d x y j) = taken_up_failed c d x y j part m in
    subst (FailedIn settled old) (sym now) (f.0, λ t e. f.1 (made (LinesTold ∷ []) t) (moved_says LinesTold b c x y i j old was told k t e))

-- a look found no memory, behind the lines that were told before
pub looked_failed : (b d : BridgeState) (x y : Half) (i j : Bool) (old new : PairState) → pair_of b x y i ≡ old → new ≡ lost_of d x y j
    → d ≡ moved OutOfMemory (moved LinesTold b) → Keeps b d → (t : Told) → Says old t → Says new (ran_out 0 t)
looked_failed b d x y i j old new was now is k t e =
    let f : Says (pair_of b x y i) t = says_of b x y i old t was e in
    subst (λ (p : PairState). Says p (ran_out 0 t)) (sym now)
    (same_said _ _ _ _ _ _
    (ap (λ (v : BridgeState). v.state) is ∙ ap (λ (z : Said). step (step z.state LinesTold) OutOfMemory) f)
    (same_stream _ _ _ _ refl (rest_kept Client b d x.at k ∙ ap (λ (z : Said). z.client.rest) f))
    (same_stream _ _ _ _ refl (rest_kept Up b d y.at k ∙ ap (λ (z : Said). z.up.rest) f)))

-- ---- answers

pub all_ok : {A E P : Type 0} (r : Result A E) → P → OnOk r P
all_ok (Ok x) e = e
all_ok (Err x) e = tt

on_ok : {A E P Q R : Type 0} (r : Result A E) → (P → Q → R) → OnOk r P → OnOk r Q → OnOk r R
on_ok (Ok x) f p q = f p q
on_ok (Err x) f p q = tt

on_err : {A E P Q : Type 0} (r : Result A E) → (P → Q) → OnErr r P → OnErr r Q
on_err (Ok x) f e = tt
on_err (Err x) f e = f e

pub settled_in : {A E : Type 0} (s : SetupText) (old new : PairState) (r : Result A E) → OnOk r ((t : Told) → Says old t → Says new (settled t)) → new.telling ≡ true
    → OnOk r ((h : List Entry) → Represents s old h → Represents s new (entry.Settled ∷ h))
settled_in s old new r ok telling =
    on_ok r (λ f q h e. told_said new (settled (told s h)) true (f (told s h) (ap unlined e)) q) ok (all_ok r telling)

pub settle_failed : {A E : Type 0} (s : SetupText) (old new : PairState) (r : Result A E) → OnErr r (FailedIn settled old new) → new.telling ≡ true
    → OnErr r ((cut : ℕ) × ((h : List Entry) → Represents s old h → Represents s new (entry.OutOfMemory cut ∷ entry.Settled ∷ h)))
settle_failed s old new r err telling =
    on_err r (λ f. (f.0, λ h e. told_said new (ran_out f.0 (told s (entry.Settled ∷ h))) true (f.1 (told s h) (ap unlined e)) telling)) err

-- a look that takes memory that isn't there
pub look_failed : {A E : Type 0} (s : SetupText) (old new : PairState) (r : Result A E) → OnErr r ((t : Told) → Says old t → Says new (ran_out 0 t)) → OnErr r (new.telling ≡ true)
    → OnErr r ((h : List Entry) → Represents s old h → Represents s new (entry.OutOfMemory 0 ∷ h))
look_failed s old new (Ok x) says telling = tt
look_failed s old new (Err x) says telling = λ h e. told_said new (ran_out 0 (told s h)) true (says (told s h) (ap unlined e)) telling

-- ---- bytes that came, and what was cut of them

-- bytes of an end came, and then they were cut
abbrev pub IsFed : End → PairState → PairState → Type 0
IsFed end old mid = (t : Told) → Says old t → Says mid (made (Fed end ∷ []) t)

pub fed_in : {A E : Type 0} (s : SetupText) (end x : End) (bytes : List ℕ) (old mid new : PairState) (r : Result A E) → x ≡ end → IsFed x old mid
    → OnOk r ((t : Told) → Says mid t → Says new (read_in end bytes t)) → new.telling ≡ true
    → OnOk r ((h : List Entry) → Represents s old h → Represents s new (entry.Came x bytes ∷ h))
fed_in s end x bytes old mid new r is fed ok telling =
    let here : IsFed end old mid = subst (λ (y : End). IsFed y old mid) is fed in
    subst (λ (y : End). OnOk r ((h : List Entry) → Represents s old h → Represents s new (entry.Came y bytes ∷ h))) (sym is)
    (on_ok r (λ f flag h e. told_said new (came end bytes (told s h)) true (f (made (Fed end ∷ []) (told s h)) (here (told s h) (ap unlined e))) flag) ok (all_ok r telling))

-- within which the pair ran out of memory: what counts has its lines told then
pub fed_failed : {A E : Type 0} (s : SetupText) (end x : End) (bytes : List ℕ) (old mid new : PairState) (r : Result A E) → x ≡ end → IsFed x old mid
    → OnErr r (FailedIn (read_in end bytes) mid new) → new.telling ≡ true
    → OnErr r ((cut : ℕ) × ((h : List Entry) → Represents s old h → Represents s new (entry.OutOfMemory cut ∷ entry.Came x bytes ∷ h)))
fed_failed s end x bytes old mid new r is fed err telling =
    let here : IsFed end old mid = subst (λ (y : End). IsFed y old mid) is fed in
    subst (λ (y : End). OnErr r ((cut : ℕ) × ((h : List Entry) → Represents s old h → Represents s new (entry.OutOfMemory cut ∷ entry.Came y bytes ∷ h)))) (sym is)
    (on_err r (λ f. (f.0, λ h e. told_said new (ran_out f.0 (told s (entry.Came end bytes ∷ h))) true (f.1 (made (Fed end ∷ []) (told s h)) (here (told s h) (ap unlined e))) telling)) err)

-- ---- lines that are told

-- the lines by a pair's own state are the word of its entries
lines_word : (s : SetupText) (p : PairState) (h : List Entry) → Represents s p h → lines_text p.bridge.state.number (said p).lines ≡ (pair_words s).lines h
unfolding pair_words
lines_word s p h e = ap (λ (z : Said). lines_text z.state.number z.lines) e

pub owed_told : (P : List ℕ → Type 0) (q p : PairState) → q ≡ p → q.telling ≡ true → P (lines_text q.bridge.state.number (owed_lines q.bridge.state))
    → (s : SetupText) (h : List Entry) → Represents s p h → P ((pair_words s).lines h)
owed_told P q p is on x s h e =
    subst P
    (ap (λ (b : Bool). lines_text q.bridge.state.number (if b then owed_lines q.bridge.state else [])) (sym on) ∙ lines_word s q h (ap said is ∙ e)) x

pub none_owed : (P : List ℕ → Type 0) (q p : PairState) → q ≡ p → q.telling ≡ false → P [] → (s : SetupText) (h : List Entry) → Represents s p h → P ((pair_words s).lines h)
none_owed P q p is off x s h e =
    subst P
    (ap (λ (b : Bool). lines_text q.bridge.state.number (if b then owed_lines q.bridge.state else [])) (sym off) ∙ lines_word s q h (ap said is ∙ e)) x

pub on_true : {P Q : Type 0} (b : Bool) → (P → Q) → OnTrue b P → OnTrue b Q
on_true true f x = f x
on_true false f x = tt

pub on_false : {P Q : Type 0} (b : Bool) → (P → Q) → OnFalse b P → OnFalse b Q
on_false true f x = tt
on_false false f x = f x

pub appends_none : (a : Option (List ℕ)) → Appends a a []
appends_none None = tt
appends_none (Some bytes) = sym (append-nil bytes)
