-- Of a channel that is open the container's begin is awaited, or it came.
use Rattle.std.proofs.Common.{◌≡◌, ℕ, ◌+◌, ◌<◌, Bool, true, false, if◌then◌else◌, List, [], ◌∷◌, Option, None, Some, is_some, refl, sym, ap, ◌∙◌}
use Rattle.machine_091.specs.State.{is_open}
use Rattle.gate_model.specs.Begins.{MayOpen, OpensBehindBegins, begun_at, has_begun, said_or}
use Rattle.gate_model.specs.Due.{client_rows}
use Rattle.gate_model.specs.Dues.{begins_session}
use Rattle.gate_model.specs.Folds.{peers}
use Rattle.gate_model.specs.Lives.{life_at}
use Rattle.gate_model.specs.Picks.{ArePicks}
use Rattle.gate_model.specs.Publishing.{opens_channel, path_life}
use Rattle.gate_model.specs.State.{Gave, Step, before}
use Rattle.gate_model.specs.Takes.{left_at}
use Rattle.gate_model.specs.declared.life.Life.{Life}
use Rattle.gate_model.specs.declared.outgoing.Outgoing.TheVariants.{ToClient}
use Rattle.gate_model.specs.declared.reply.Reply.{Reply}
use Rattle.gate_model.specs.declared.reply.Reply.TheVariants as reply
use Rattle.gate_model.proofs.Connections.{clash}
use Rattle.gate_model.proofs.Firsts.{of_client}
use Rattle.gate_model.proofs.Living.{Begins, Closes, Ends, Fails, Frees, IsLeft, LeavesIn, Stays, opened_asks, step_leaves}
use Rattle.gate_model.proofs.Stopping.{Goes, IsThereOpen, rows_go, there_open}

-- a channel's begin is awaited, and no channel.open-ok is due; or it came
pub data Begun (l : Life) (b : Bool) : Type 0 where
  Awaits : l.waits ≡ true → l.open_ok ≡ false → Begun l b
  Came : b ≡ true → Begun l b

abbrev BegunIn : ℕ → List Step → Type 0
BegunIn n h = is_open (before h).conn n ≡ true → Begun (life_at (before h).lives n) (has_begun n h)

left_begun : {z : Bool} (l m : Life) (b c : Bool) → IsLeft z l m → c ≡ b → Begun l b → Begun m c
left_begun l m b c i e (Awaits w f) = Awaits (i.waits ∙ w) (i.ok f)
left_begun l m b c i e (Came f) = Came (e ∙ f)

pub begun : (n : ℕ) (h : List Step) → n < 256 → ArePicks h → is_some (path_life h n) ≡ true → BegunIn n h
begun n [] less p there = absurd cc
begun n (s ∷ h) less p there = by (begun n h less p.1) (opens_channel n h s) refl there
  where
    said : opens_channel n h s ≡ false → (x : Option Bool) → begun_at n h s ≡ x → has_begun n (s ∷ h) ≡ said_or x (has_begun n h)
    said e x f = ap (λ (b : Bool). if b then false else said_or (begun_at n h s) (has_begun n h)) e ∙ ap (λ (o : Option Bool). said_or o (has_begun n h)) f

    later : opens_channel n h s ≡ false → BegunIn n h → LeavesIn (begun_at n h s) (left_at n h s) (begins_session n s) n (before h) (before (s ∷ h)) → BegunIn n (s ∷ h)
    later e old (Stays o i x y) on = left_begun _ _ _ _ i (said e None x) (old (sym o ∙ on))
    later e old (Begins o c v a b x y) on = Came (said e (Some true) x)
    later e old (Ends o i y) on = absurd (clash _ on o)
    later e old (Closes o y v a) on = absurd (clash _ on o)
    later e old (Frees o y) on = absurd (clash _ on o)
    later e old (Fails b o y) on = absurd (clash _ on o)

    by : (is_some (path_life h n) ≡ true → BegunIn n h) → (b : Bool) → opens_channel n h s ≡ b
        → is_some (if b then Some ((peers h).opened + 1) else path_life h n) ≡ true → BegunIn n (s ∷ h)
    by old true e t = λ on. let a = opened_asks n s h less p.1 e in Awaits a.waits a.ok
    by old false e t = later e (old t) (step_leaves n s h less p t e)

-- ---- a channel.open-ok that goes

not_awaited : (l : Life) (b : Bool) → l.open_ok ≡ true → Begun l b → b ≡ true
not_awaited l b e (Awaits w f) = absurd (clash _ e f)
not_awaited l b e (Came f) = f

may_open : (h : List Step) (u : Reply) → ArePicks h → Goes (before h) u → MayOpen h u
may_open h (reply.ChannelOpenOk n) p o =
    let t : IsThereOpen h n = there_open h n p o in
    not_awaited (life_at (before h).lives n) (has_begun n h) o.due (begun n h t.below p t.lives t.opened)
may_open h u p o = tt

pub opens_behind : (h : List Step) → ArePicks h → OpensBehindBegins h
opens_behind [] p = tt
opens_behind (Gave (ToClient u) text ∷ h) p = (may_open h u p.1 (of_client (Goes (before h)) (client_rows (before h)) u (rows_go (before h)) p.0.1), opens_behind h p.1)
opens_behind (s ∷ h) p = opens_behind h p.1
