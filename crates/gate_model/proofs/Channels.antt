-- Which channels of a client's connection are open.
use Rattle.std.proofs.Common.{◌≡◌, ℕ, ◌==◌, ◌<◌, Bool, true, false, if◌then◌else◌, length, Option}
use Rattle.std.proofs.Common.{None, Some, List, refl, sym, ap, ◌∙◌, subst}
use Rattle.close_translate.specs.declared.codes.TheConstants.{NOT_ALLOWED}
use Rattle.close_translate.specs.declared.conditions.Scope.TheVariants as scope
use Rattle.machine_091.specs.Calls.{freed_channel, told_channel}
use Rattle.machine_091.specs.Refusals.{refusal_with}
use Rattle.machine_091.specs.State.{channel_at, is_open, is_open_channel, with_channel}
use Rattle.machine_091.specs.Transitions.{unit_step}
use Rattle.machine_091.specs.Transitions as machine
use Rattle.machine_091.specs.declared.state.Channel91.{Channel91}
use Rattle.machine_091.specs.declared.state.Channel91.TheVariants as channel
use Rattle.machine_091.specs.declared.state.Connection.{Connection}
use Rattle.machine_091.specs.declared.unit.Unit91.{Unit91}
use Rattle.machine_091.specs.declared.unit.Want91.{Want91}
use Rattle.machine_091.specs.declared.unit.Want91.TheVariants as want
use Rattle.machine_091.proofs.ChannelSteps.{Opens, closing_early, closing_long, closing_opens, opens_by}
use Rattle.machine_091.proofs.ChannelSteps.{set_long, shuts, stays_shut, unit_opens}
use Rattle.methods_091.specs.Rows.{class_of, id_of}
use Rattle.methods_091.specs.View.{kind_of}
use Rattle.methods_091.specs.declared.method.Method91.{Method91}
use Rattle.session_path.specs.Path.{PathState}
use Rattle.gate_model.specs.Paths.{path_at}
use Rattle.gate_model.specs.Requests.{client_step, message_of, method_fault, publish_fault, refusal_of_want, refused_by, refused_for}
use Rattle.gate_model.specs.State.{conn_given}
use Rattle.gate_model.specs.declared.reply.Reply.{Reply}
use Rattle.gate_model.specs.declared.reply.Reply.TheVariants as reply
use Rattle.gate_model.specs.declared.setup.Route.{Route}
use Rattle.gate_model.proofs.Connections.{close_closes}

-- ---- what goes to the client

pub record SameOpen (n : ℕ) (c d : Connection) : Type 0 where
  pub long : length d.channels ≡ length c.channels
  pub is : n < length c.channels → is_open d n ≡ is_open c n

same_open : (n : ℕ) (c : Connection) → SameOpen n c c
same_open n c = record { long = refl; is = λ less. refl }

shut_open : (n k : ℕ) (c : Connection) (s : Channel91) → is_open_channel (channel_at c k) ≡ false → is_open_channel s ≡ false → SameOpen n c (with_channel c k s)
shut_open n k c s was is = record { long = set_long c.channels k s; is = λ less. stays_shut k n c s less was is }

pub given_open : (n : ℕ) (u : Reply) (c : Connection) → SameOpen n c (conn_given u c)
given_open n (reply.ChannelCloseOk k) c = by (channel_at c k) refl
  where
    by : (s : Channel91) → channel_at c k ≡ s → SameOpen n c (freed_channel s k c)
    by channel.Free e = same_open n c
    by channel.Open e = same_open n c
    by channel.Closing e = shut_open n k c channel.Free (ap is_open_channel e) refl
    by channel.Told e = same_open n c
given_open n (reply.ChannelClose k r) c = by (channel_at c k) refl
  where
    by : (s : Channel91) → channel_at c k ≡ s → SameOpen n c (told_channel s k c)
    by channel.Free e = same_open n c
    by channel.Open e = same_open n c
    by channel.Closing e = shut_open n k c channel.Told (ap is_open_channel e) refl
    by channel.Told e = same_open n c
given_open n x c = same_open n c

-- ---- and where the gateway refuses it

refused_opens : (n : ℕ) (c d : Connection) (k : ℕ) (m : Method91) (x : Want91) (o : Option ℕ) → ((b : Bool) → (k == n) ≡ false → opens_by n x b ≡ b)
    → Opens n c (d, x) → Opens n c (refused_by (refused_for k m o) (d, x))
refused_opens n c d k m x None elsewhere opens = opens
refused_opens n c d k m x (Some code) elsewhere opens = by (code == NOT_ALLOWED)
  where
    by : (b : Bool) → Opens n c (refused_by (Some (if b then refusal_with code (class_of (kind_of m)) (id_of (kind_of m)) else record {
      code = code;
      scope = scope.Channel;
      channel = k;
      class = class_of (kind_of m);
      method = id_of (kind_of m);
    })) (d, x))
    by true = shuts n c _ _ (closing_early _ (close_closes d.phase)) opens.long (λ b. refl)
    by false = record {
      long = closing_long k d ∙ opens.long;
      is = λ less.
          closing_opens k n d (subst (λ (l : ℕ). n < l) (sym opens.long) less) ∙ at (k == n) refl less;
    }
      where
        at : (b : Bool) → (k == n) ≡ b → n < length c.channels → (if b then false else is_open d n) ≡ (if b then false else is_open c n)
        at true e less = refl
        at false e less = opens.is less ∙ elsewhere (is_open c n) e

elsewhere_if : (b x y : Bool) → b ≡ false → (if b then x else y) ≡ y
elsewhere_if true x y e = absurd cc
elsewhere_if false x y e = refl

pub client_opens : (n : ℕ) (rs : List Route) (ps : List (Option PathState)) (c : Connection) (u : Unit91) → Opens n c (client_step rs ps c u)
client_opens n rs ps c u = by (unit_step c u) (unit_opens n c u)
  where
    by : (x : machine.Step) → Opens n c x → Opens n c (refused_by (refusal_of_want rs ps x.1) x)
    by (d, want.Nothing) o = o
    by (d, want.Start) o = o
    by (d, want.Login a b) o = o
    by (d, want.Tuned) o = o
    by (d, want.OpenUp) o = o
    by (d, want.Method k m) o = refused_opens n c d k m (want.Method k m) (method_fault rs (path_at ps k) m) (λ b e. elsewhere_if (k == n) _ b e) o
    by (d, want.Publish k m t) o = refused_opens n c d k m (want.Publish k m t) (publish_fault rs (message_of m t)) (λ b e. refl) o
    by (d, want.ChannelCloseOk k) o = o
    by (d, want.Close) o = o
    by (d, want.CloseOk) o = o
    by (d, want.Refuse r) o = o
