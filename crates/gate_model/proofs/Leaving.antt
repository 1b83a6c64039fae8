-- Behind each step a life is closed, or each delivery of a receiving link that the container detached or that failed had its disposition.
use Rattle.std.proofs.Common.{◌≡◌, ℕ, ◌==◌, ◌≤◌, ◌⊎◌, inl, inr, not, ◌&&◌, ◌||◌, Bool, true, false, if◌then◌else◌}
use Rattle.std.proofs.Common.{List, [], ◌∷◌, ◌++◌, Option, None, Some, refl, sym, ap, ◌∙◌, is_some}
use Rattle.std.specs.List.{AllByRecursion}
use Rattle.open_items.proofs.Counted.{least_none}
use Rattle.consume_path.specs.Deliveries.{DeliveryEvent, DeliveryState, open_after}
use Rattle.consume_path.specs.Journal.{fate_of, is_closed, numbers_of}
use Rattle.consume_path.specs.Laws.{are_covered, lacks_settle}
use Rattle.consume_path.specs.Offers.{is_all_covered}
use Rattle.machine_091.specs.declared.limits.TheConstants.{CHANNEL_MAX}
use Rattle.machine_091.specs.declared.unit.Unit91.{Unit91}
use Rattle.machine_091.specs.declared.unit.Want91.{Want91}
use Rattle.machine_091.specs.declared.unit.Want91.TheVariants as want
use Rattle.methods_091.specs.declared.method.Method91.{Method91}
use Rattle.methods_091.specs.declared.method.Method91.TheVariants as method
use Rattle.session_path.specs.Events as event
use Rattle.session_path.specs.Events.{PathEvent, after_events, deliveries_of, delivery_events}
use Rattle.session_path.specs.Links.{is_given, named}
use Rattle.session_path.specs.Path.{PathState, closes_at, closes_on, is_awaited_on, receiver_in}
use Rattle.session_path.specs.declared.path.PathLink.{PathLink}
use Rattle.session_path.specs.declared.path.PathOk.{PathOk}
use Rattle.session_path.specs.declared.path.PathOk.TheVariants as ok
use Rattle.gate_model.specs.Folds.{connection, paths_in, ran_out_in, routes_in}
use Rattle.gate_model.specs.Lives.{is_of_channel}
use Rattle.gate_model.specs.Picks.{ArePicks}
use Rattle.gate_model.specs.Publishing.{method_events, owed_unless, path_events, path_life, step_events}
use Rattle.gate_model.specs.Publishing.{want_events}
use Rattle.gate_model.specs.State.{Came, Step}
use Rattle.gate_model.specs.State.{conn_step, want_in}
use Rattle.gate_model.specs.declared.setup.Route.{Route}
use Rattle.gate_model.proofs.Parted.{AreParted, Covers, Fits, parted_after}
use Rattle.gate_model.proofs.Receivers.{LinksAre}
use Rattle.gate_model.proofs.Reports.{DeliveriesAre}
use Rattle.gate_model.proofs.Walks.{behind_steps, closed_since, is_free}

-- ---- events by which no link is to part

abbrev pub is_still : PathEvent → Bool
is_still (event.DetachCame peer not_found) = false
is_still (event.LinkFailed peer fault) = false
is_still x = true

abbrev AreStill : List PathEvent → Type 0
AreStill xs = AllByRecursion (λ x. is_still x ≡ true) xs

if_still : (b : Bool) (xs ys : List PathEvent) → AreStill xs → AreStill ys → AreStill (if b then xs else ys)
if_still true xs ys p q = p
if_still false xs ys p q = q

both_still : (xs ys : List PathEvent) → AreStill xs → AreStill ys → AreStill (xs ++ ys)
both_still [] ys p q = q
both_still (x ∷ xs) ys p q = (p.0, both_still xs ys p.1 q)

owed_still : (b : Bool) (x : PathOk) → AreStill (owed_unless b (event.Owed x))
owed_still true x = tt
owed_still false x = (refl, tt)

method_still : (m : Method91) → AreStill (method_events m)
method_still (method.ChannelFlow active) = (refl, tt)
method_still (method.ExchangeDeclare name kind passive durable deletes internal no_wait arguments) = owed_still no_wait ok.Declare
method_still (method.ConfirmSelect no_wait) = both_still (owed_unless no_wait (event.Owed ok.Select)) _ (owed_still no_wait ok.Select) (refl, tt)
method_still (method.BasicConsume queue tag no_local no_ack exclusive no_wait arguments) = (refl, tt)
method_still (method.QueueDeclare queue passive durable exclusive deletes no_wait arguments) = (refl, tt)
method_still (method.BasicGet queue no_ack) = (refl, tt)
method_still (method.BasicCancel tag no_wait) = (refl, tt)
method_still (method.BasicQos size count global) = (refl, tt)
method_still (method.BasicAck tag multiple) = (refl, tt)
method_still (method.BasicReject tag requeue) = (refl, tt)
method_still (method.BasicNack tag multiple requeue) = (refl, tt)
method_still (method.BasicRecover requeue) = (refl, (refl, tt))
method_still (method.BasicRecoverAsync requeue) = (refl, tt)
method_still (method.ChannelClose code text class id) = (refl, tt)
method_still m = tt

want_still : (rs : List Route) (limit n : ℕ) (x : Want91) → AreStill (want_events rs limit n x)
want_still rs limit n (want.Method k m) = if_still (k == n) _ _ (method_still m) tt
want_still rs limit n (want.Publish k m c) = if_still (k == n) _ _ (refl, tt) tt
want_still rs limit n want.Close = (refl, tt)
want_still rs limit n (want.Refuse r) = if_still (is_of_channel r) _ _ (if_still (r.channel == n) _ _ (refl, tt) tt) (refl, tt)
want_still rs limit n x = tt

-- ---- what a covered link is

-- a list of deliveries is covered as their fates are
abbrev pub CoveredAre : Type 0
CoveredAre = (life link : ℕ) (h : List DeliveryEvent) → is_all_covered link (open_after life h) ≡ are_covered link h

pub covers_all : (link : ℕ) (ds : List DeliveryEvent) → are_covered link ds ≡ true → Covers link ds
covers_all link ds e k t = least_none (λ n. lacks_settle link (fate_of n ds)) (numbers_of ds) (none _ e) k t.0 t.1
  where
    none : (o : Option ℕ) → not (is_some o) ≡ true → o ≡ None
    none None f = refl
    none (Some n) f = absurd cc

-- ---- steps

-- the life is closed, or no delivery of a link that is to part lacks its disposition
abbrev pub IsSafe : ℕ → List PathEvent → Type 0
IsSafe life es = (is_closed (deliveries_of life es) ≡ true) ⊎ AreParted (deliveries_of life es) (after_events life es)

module _ (arrives : DeliveriesAre) (covered : CoveredAre) (tied : LinksAre) (life : ℕ) where
  one : (x : PathEvent) (es : List PathEvent)
      → Fits (λ link. Covers link (delivery_events (after_events life es) x ++ deliveries_of life es)) (after_events life es) x
      → IsSafe life es → IsSafe life (x ∷ es)
  one x es f (inl e) = inl (closed_since life (x ∷ []) es e)
  one x es f (inr a) = inr (parted_after tied life x es f a)

  still_one : (x : PathEvent) (es : List PathEvent) → is_still x ≡ true → IsSafe life es → IsSafe life (x ∷ es)
  still_one (event.DetachCame peer not_found) es e a = absurd cc
  still_one (event.LinkFailed peer fault) es e a = absurd cc
  still_one x es e a = one x es tt a

  still : (xs es : List PathEvent) → AreStill xs → IsSafe life es → IsSafe life (xs ++ es)
  still [] es p a = a
  still (x ∷ xs) es p a = still_one x (xs ++ es) p.0 (still xs es p.1 a)

  -- a link that isn't needed is covered
  detached : (peer : ℕ) (not_found : Bool) (es : List PathEvent) → closes_at peer (after_events life es) ≡ false → IsSafe life es → IsSafe life (event.DetachCame peer not_found ∷ es)
  detached peer not_found es e safe = one (event.DetachCame peer not_found) es (λ l n r g. covers_all l.link (deliveries_of life es) (is l n r g)) safe
    where
      s : PathState
      s = after_events life es

      rest : (g a o r c : Bool) → g ≡ false → (not g && (a || not ((o && c) || (r && c)))) ≡ false → c ≡ true
      rest true a o r c f h = absurd cc
      rest false true o r c f h = absurd cc
      rest false false o r true f h = refl
      rest false false true true false f h = absurd cc
      rest false false true false false f h = absurd cc
      rest false false false true false f h = absurd cc
      rest false false false false false f h = absurd cc

      is : (l : PathLink) → named peer s.links ≡ Some l → l.receives ≡ true → is_given l ≡ false → are_covered l.link (deliveries_of life es) ≡ true
      is l n r g =
          let found : receiver_in (named peer s.links) ≡ Some l = ap receiver_in n ∙ ap (λ (b : Bool). if b then Some l else None) r in
          sym (covered life l.link (deliveries_of life es))
          ∙ ap (λ (d : DeliveryState). is_all_covered l.link d.list) (sym (arrives life es))
          ∙ rest (is_given l) (is_awaited_on l.link s.awaited) _ _ (is_all_covered l.link s.deliveries.list) g
          (ap (λ (o : Option PathLink). closes_on o s) (sym found) ∙ e)

  free_one : (x : PathEvent) (es : List PathEvent) → is_free x ≡ true → IsSafe life es → IsSafe life (x ∷ es)
  free_one (event.DetachCame peer not_found) es e a = absurd cc
  free_one (event.LinkFailed peer fault) es e a = absurd cc
  free_one x es e a = one x es tt a

  came : (n : ℕ) (h : List Step) (u : Unit91) → IsSafe life (path_events h n) → IsSafe life (step_events n h (Came u) ++ path_events h n)
  came n h u safe =
      still _ (path_events h n)
      (if_still (ran_out_in h) _ _ tt
      (want_still (routes_in h) (conn_step (routes_in h) (paths_in h) (connection h) u).limits.frame_max n
      (want_in (routes_in h) (paths_in h) (connection h) u))) safe

-- so at all times
pub safe_is : DeliveriesAre → CoveredAre → LinksAre → (h : List Step) (n life : ℕ) → n ≤ CHANNEL_MAX → ArePicks h → path_life h n ≡ Some life
    → IsSafe life (path_events h n)
safe_is arrives covered tied h n life below p l =
    behind_steps life (IsSafe life) (λ es e. inl e) (free_one arrives covered tied life) (detached arrives covered tied life) n below (inr tt)
    (λ g u q m safe. came arrives covered tied life n g u safe) h p l
