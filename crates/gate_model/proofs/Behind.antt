-- A basic.deliver goes where the rows of the answers have none on its channel.
use Rattle.std.proofs.Common.{◌≡◌, ℕ, ◌<◌, not, ◌&&◌, Bool, true, false, if◌then◌else◌, List, [], ◌∷◌, ◌++◌, length, Option, None, Some, refl, sym, ap}
use Rattle.std.proofs.Common.{◌∙◌, subst, map}
use Rattle.machine_091.specs.declared.unit.Refusal.{Refusal}
use Rattle.publish_path.specs.declared.publish.Confirm.{Confirm}
use Rattle.publish_path.specs.declared.publish.NextReturn.{NextReturn}
use Rattle.session_path.specs.Due.{next_confirm, next_content, next_deliver, next_ok, next_return}
use Rattle.session_path.specs.declared.path.ContentDue.{ContentDue}
use Rattle.session_path.specs.declared.path.DeliverDue.{DeliverDue}
use Rattle.session_path.specs.declared.path.PathOk.{PathOk}
use Rattle.session_path.specs.declared.path.PathOk.TheVariants as ok
use Rattle.gate_model.specs.declared.channel.ChannelUnit.TheVariants as to_client
use Rattle.gate_model.specs.declared.life.Life.{Life}
use Rattle.gate_model.specs.declared.outgoing.Outgoing.TheVariants.{ToClient}
use Rattle.gate_model.specs.declared.reply.Pending.{Pending}
use Rattle.gate_model.specs.declared.reply.Reason.{Reason}
use Rattle.gate_model.specs.declared.reply.Reply.{Reply}
use Rattle.gate_model.specs.declared.reply.Reply.TheVariants as reply
use Rattle.gate_model.specs.Behind.{DeliversBehind, MayDeliver}
use Rattle.gate_model.specs.Due.{answers, channel_closes, channel_oks, client_rows, client_units, close_oks, close_oks_on, closes, confirm_on, confirms}
use Rattle.gate_model.specs.Due.{consume_ok_on, consume_oks, consume_oks_on, content_on, contents, delivers, empty_on, get_ok_on, get_on, gets, gets_on, if_so}
use Rattle.gate_model.specs.Due.{is_beat_due, is_consume_ok, is_empty_ok, is_plain_ok, last_closes, may_answer, may_confirm, may_confirm_all, may_confirm_some, may_end, may_go, may_go_on}
use Rattle.gate_model.specs.Due.{may_return, may_tell}
use Rattle.gate_model.specs.Due.{ok_on, oks_on, open_oks, openings, path_oks, refused_on, return_on, when, writing_on, writings}
use Rattle.gate_model.specs.Lives.{life_at}
use Rattle.gate_model.specs.Paths.{path_at}
use Rattle.gate_model.specs.Picks.{ArePicks}
use Rattle.gate_model.specs.State.{Gave, State, Step, before, is_channel_settled, is_settled}
use Rattle.gate_model.specs.Upstream.{first}
use Rattle.gate_model.proofs.Connections.{clash}
use Rattle.gate_model.proofs.Fates.{path_of}
use Rattle.gate_model.proofs.Firsts.{FirstIs, both_are, each_is, of_client, when_is}
use Rattle.gate_model.proofs.Lives.{lives_all}
use Rattle.gate_model.proofs.Rests.{LivesBelow}
use Rattle.gate_model.proofs.Rows.{left_none, row_none}
use Rattle.gate_model.proofs.Stopping.{Goes, rows_go, there_is, when_by}

-- a basic.deliver
abbrev is_deliver : Reply → Bool
is_deliver (reply.OnChannel n (to_client.Deliver d)) = not d.get
is_deliver u = false

abbrev Other : Reply → Type 0
Other u = is_deliver u ≡ false

-- it goes behind rows that have none
skips : (us vs : List Reply) (u : Reply) → FirstIs Other us → is_deliver u ≡ true → first (us ++ vs) ≡ Some u → (us ≡ []) × (first vs ≡ Some u)
skips [] vs u p d e = (refl, e)
skips (x ∷ us) vs u p d e = let same : x ≡ u = cc in absurd (clash _ d (sym (ap is_deliver same) ∙ p))

-- and not in those behind it
before_it : (us vs : List Reply) (u : Reply) → FirstIs Other vs → is_deliver u ≡ true → first (us ++ vs) ≡ Some u → first us ≡ Some u
before_it (x ∷ us) vs u p d e = e
before_it [] [] u p d e = absurd cc
before_it [] (x ∷ vs) u p d e = let same : x ≡ u = cc in absurd (clash _ d (sym (ap is_deliver same) ∙ p))

if_other : (b : Bool) (us : List Reply) → FirstIs Other us → FirstIs Other (if_so b us)
if_other true us p = p
if_other false us p = tt

unless_other : (b : Bool) (us : List Reply) → FirstIs Other us → FirstIs Other (if b then [] else us)
unless_other true us p = tt
unless_other false us p = p

not_get : (b : Bool) → b ≡ true → not b ≡ false
not_get true e = refl
not_get false e = absurd cc

-- the rows of answers are empty, and it is of a life that goes on
record Rests (w : State) : Type 0 where
  plain : path_oks w ≡ []
  consumes : consume_oks w ≡ []
  gets_none : gets w ≡ []

rests : (w : State) (u : Reply) → is_deliver u ≡ true → first (client_rows w) ≡ Some u → Rests w
rests w u d e = all (before_it (client_units w) (when (is_beat_due w) reply.Heartbeat) u (when_is Other (is_beat_due w) reply.Heartbeat refl) d e)
  where
    p : Pending
    p = may_go (is_settled w) w.pending

    content_other : (n : ℕ) (may : Bool) (o : Option NextReturn) → FirstIs Other (content_on may n o)
    content_other n may None = tt
    content_other n may (Some r) = when_is Other (may && not r.first) (reply.OnChannel n (to_client.Return r)) refl

    contents_other : FirstIs Other (contents w)
    contents_other = each_is Other _ w.lives (λ n. content_other n (may_go_on (may_confirm_all w) (life_at w.lives n)) (next_return (path_at w.paths n)))

    writing_other : (n : ℕ) (o : Option ContentDue) → FirstIs Other (writing_on n o)
    writing_other n None = tt
    writing_other n (Some c) = refl

    writings_other : FirstIs Other (writings w)
    writings_other = each_is Other _ w.lives (λ n. unless_other (life_at w.lives n).over _ (writing_other n (next_content (path_at w.paths n))))

    openings_other : FirstIs Other (openings p)
    openings_other =
        both_are Other _ _ (when_is Other p.protocol reply.Protocol refl)
        (both_are Other _ _ (when_is Other p.start reply.Start refl)
        (both_are Other _ _ (when_is Other p.tune reply.Tune refl) (when_is Other p.open_ok reply.OpenOk refl)))

    open_other : FirstIs Other (open_oks w)
    open_other = each_is Other _ w.lives (λ n. when_is Other (life_at w.lives n).open_ok (reply.ChannelOpenOk n) refl)

    ok_other : (n : ℕ) (o : Option PathOk) → FirstIs Other (ok_on n o)
    ok_other n None = tt
    ok_other n (Some x) = when_is Other (is_plain_ok x) (reply.OnChannel n (to_client.Ok x)) refl

    plain_other : FirstIs Other (path_oks w)
    plain_other = each_is Other _ w.lives (λ n. unless_other (life_at w.lives n).over _ (ok_other n (next_ok (path_at w.paths n))))

    consume_other : (n : ℕ) (o : Option PathOk) → FirstIs Other (consume_ok_on n o)
    consume_other n None = tt
    consume_other n (Some x) = when_is Other (is_consume_ok x) (reply.OnChannel n (to_client.Ok x)) refl

    consumes_other : FirstIs Other (consume_oks w)
    consumes_other = each_is Other _ w.lives (λ n. unless_other (life_at w.lives n).over _ (consume_other n (next_ok (path_at w.paths n))))

    empty_other : (n : ℕ) (o : Option PathOk) → FirstIs Other (empty_on n o)
    empty_other n None = tt
    empty_other n (Some x) = when_is Other (is_empty_ok x) (reply.OnChannel n (to_client.Ok x)) refl

    get_other : (n : ℕ) (o : Option DeliverDue) → FirstIs Other (get_ok_on n o)
    get_other n None = tt
    get_other n (Some x) = when_by Other x.get (reply.OnChannel n (to_client.Deliver x)) (not_get x.get)

    gets_other : FirstIs Other (gets w)
    gets_other =
        each_is Other _ w.lives (λ n. unless_other (life_at w.lives n).over _
        (both_are Other (empty_on n (next_ok (path_at w.paths n))) _ (empty_other n (next_ok (path_at w.paths n))) (get_other n (next_deliver (path_at w.paths n)))))

    back_other : (n : ℕ) (may : Bool) (o : Option NextReturn) → FirstIs Other (return_on may n o)
    back_other n may None = tt
    back_other n may (Some r) = when_is Other (may && r.first) (reply.OnChannel n (to_client.Return r)) refl

    confirm_other : (n : ℕ) (may : Bool) (o : Option Confirm) → FirstIs Other (confirm_on may n o)
    confirm_other n may None = tt
    confirm_other n may (Some c) = when_is Other may (reply.OnChannel n (to_client.Confirm c)) refl

    confirms_other : FirstIs Other (confirms w)
    confirms_other =
        each_is Other _ w.lives (λ n. both_are Other (return_on (not w.out_of_memory && may_confirm (may_confirm_all w) (life_at w.lives n)) n (next_return (path_at w.paths n))) _
        (back_other n _ (next_return (path_at w.paths n))) (confirm_other n (may_confirm (may_confirm_all w) (life_at w.lives n)) (next_confirm (path_at w.paths n))))

    oks_other : (n : ℕ) (settled : Bool) (l : Life) → FirstIs Other (close_oks_on n settled l)
    oks_other n settled l =
        both_are Other (when l.crossed_ok (reply.CrossedOk n)) _ (when_is Other l.crossed_ok (reply.CrossedOk n) refl)
        (when_is Other settled (reply.ChannelCloseOk n) refl)

    refusal_other : (n : ℕ) (settled : Bool) (o : Option Reason) → FirstIs Other (refused_on settled n o)
    refusal_other n settled None = tt
    refusal_other n settled (Some r) = when_is Other settled (reply.ChannelClose n r) refl

    close_other : (o : Option Refusal) → FirstIs Other (closes o)
    close_other None = tt
    close_other (Some r) = refl

    behind : FirstIs Other (if_so (may_confirm_some w) (confirms w)
        ++ (close_oks p ++ (if_so (may_end w) (channel_oks w) ++ (last_closes p ++ if_so (may_tell w) (channel_closes w)))))
    behind =
        both_are Other (if_so (may_confirm_some w) (confirms w)) _ (if_other (may_confirm_some w) (confirms w) confirms_other)
        (both_are Other (close_oks p) _ (when_is Other p.close_ok reply.CloseOk refl)
        (both_are Other (if_so (may_end w) (channel_oks w)) _
        (if_other (may_end w) (channel_oks w) (each_is Other _ w.lives (λ n. oks_other n _ (life_at w.lives n))))
        (both_are Other (last_closes p) _ (both_are Other (closes p.close) _ (close_other p.close) (when_is Other p.no_memory reply.NoMemory refl))
        (if_other (may_tell w) (channel_closes w) (each_is Other _ w.lives (λ n. refusal_other n (is_channel_settled w n) (life_at w.lives n).close))))))

    inner : (b : Bool) → first (if_so b (answers w)) ≡ Some u → Rests w
    inner false f = absurd cc
    inner true f =
        let a = skips (open_oks w) _ u open_other d f in
        let b = skips (path_oks w) _ u plain_other d a.1 in
        let c = skips (consume_oks w) _ u consumes_other d b.1 in
        let g = skips (gets w) (delivers w) u gets_other d c.1 in
        record { plain = b.0; consumes = c.0; gets_none = g.0 }

    all : first (client_units w) ≡ Some u → Rests w
    all f =
        let a = skips (if_so (may_return w) (contents w)) _ u (if_other (may_return w) (contents w) contents_other) d f in
        let b = skips (if_so (may_answer w) (writings w)) _ u (if_other (may_answer w) (writings w) writings_other) d a.1 in
        let c = skips (openings p) _ u openings_other d b.1 in
        inner (may_answer w) (before_it (if_so (may_answer w) (answers w)) _ u behind d c.1)

-- ---- no answer is next but for a basic.get-ok

none_when : (b : Bool) (u : Reply) → when b u ≡ [] → b ≡ false
none_when true u e = absurd cc
none_when false u e = refl

is_get : (x : PathOk) → is_plain_ok x ≡ false → is_consume_ok x ≡ false → is_empty_ok x ≡ false → x ≡ ok.Get
is_get ok.Flow a b c = absurd cc
is_get ok.Declare a b c = absurd cc
is_get ok.Select a b c = absurd cc
is_get (ok.Consume k) a b c = absurd cc
is_get (ok.Qos count global) a b c = absurd cc
is_get ok.Cancel a b c = absurd cc
is_get ok.Queue a b c = absurd cc
is_get ok.Get a b c = refl
is_get (ok.Empty k) a b c = absurd cc
is_get ok.Recover a b c = absurd cc

shown : (over : Bool) (us : List Reply) → over ≡ false → (if over then [] else us) ≡ [] → us ≡ []
shown true us e f = absurd cc
shown false us e f = f

next_is : (w : State) (n : ℕ) (x : PathOk) → n < length w.lives → (life_at w.lives n).over ≡ false → Rests w → next_ok (path_at w.paths n) ≡ Some x → x ≡ ok.Get
next_is w n x less over r e =
    is_get x (none_when _ _ (by_ok (row_none (oks_on w.paths) n w.lives less r.plain)))
    (none_when _ _ (by_consume (row_none (consume_oks_on w.paths) n w.lives less r.consumes)))
    (none_when _ _ (by_empty (row_none (gets_on w.paths) n w.lives less r.gets_none)))
  where
    by_ok : oks_on w.paths n (life_at w.lives n) ≡ [] → when (is_plain_ok x) (reply.OnChannel n (to_client.Ok x)) ≡ []
    by_ok f = sym (ap (ok_on n) e) ∙ shown (life_at w.lives n).over (ok_on n (next_ok (path_at w.paths n))) over f

    by_consume : consume_oks_on w.paths n (life_at w.lives n) ≡ [] → when (is_consume_ok x) (reply.OnChannel n (to_client.Ok x)) ≡ []
    by_consume f = sym (ap (consume_ok_on n) e) ∙ shown (life_at w.lives n).over (consume_ok_on n (next_ok (path_at w.paths n))) over f

    by_empty : gets_on w.paths n (life_at w.lives n) ≡ [] → when (is_empty_ok x) (reply.OnChannel n (to_client.Ok x)) ≡ []
    by_empty f =
        sym (ap (empty_on n) e)
        ∙ left_none (empty_on n (next_ok (path_at w.paths n))) _ (shown (life_at w.lives n).over (get_on n (path_at w.paths n)) over f)

module _ (below : LivesBelow) where
  may_deliver : (h : List Step) (u : Reply) → ArePicks h → Goes (before h) u → first (client_rows (before h)) ≡ Some u → MayDeliver h u
  may_deliver h (reply.OnChannel n (to_client.Deliver d)) p a e = λ get life x lives next.
      let t = there_is h n p a.there in
      next_is (before h) n x (subst (λ (m : ℕ). n < m) (sym (lives_all h p)) t.below) a.goes (rests (before h) (reply.OnChannel n (to_client.Deliver d)) (ap not get) e)
      (ap next_ok (path_of h n life p (below h n life lives) lives) ∙ next)
  may_deliver h (reply.OnChannel n (to_client.Ok x)) p a e = tt
  may_deliver h (reply.OnChannel n (to_client.Content c)) p a e = tt
  may_deliver h (reply.OnChannel n (to_client.Confirm c)) p a e = tt
  may_deliver h (reply.OnChannel n (to_client.Return r)) p a e = tt
  may_deliver h u p a e = tt

  unmap : (us : List Reply) (u : Reply) → first (map ToClient us) ≡ Some (ToClient u) → first us ≡ Some u
  unmap [] u e = absurd cc
  unmap (x ∷ us) u e = let same : x ≡ u = cc in ap Some same

  pub delivers_behind : (h : List Step) → ArePicks h → DeliversBehind h
  delivers_behind [] p = tt
  delivers_behind (Gave (ToClient u) text ∷ h) p = (
    may_deliver h u p.1 (of_client (Goes (before h)) (client_rows (before h)) u (rows_go (before h)) p.0.1) (unmap (client_rows (before h)) u p.0.1),
    delivers_behind h p.1,
  )
  delivers_behind (s ∷ h) p = delivers_behind h p.1
