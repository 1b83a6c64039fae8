-- What the report is owed of publishes and deliveries is what the events of the lives in progress make due.
use Rattle.std.proofs.Common.{◌≡◌, ℕ, zero, suc, ◌==◌, ◌<◌, Bool, true, false, List, [], ◌∷◌}
use Rattle.std.proofs.Common.{if◌then◌else◌, ◌++◌, length, Option, None, Some, option_map, refl}
use Rattle.std.proofs.Common.{sym, ap, ◌∙◌, arith, append_assoc, append-nil}
use Rattle.std.proofs.lemmas.Bool.Decides.{nat_tests}
use Rattle.machine_091.specs.declared.limits.TheConstants.{CHANNEL_MAX}
use Rattle.open_items.specs.declared.lost.LostItem.{LostItem}
use Rattle.consume_path.specs.Deliveries as on
use Rattle.consume_path.specs.Deliveries.{DeliveryEvent, DeliveryState}
use Rattle.consume_path.specs.Laws as deliveries
use Rattle.consume_path.specs.Offers.{lines_of as delivery_lines}
use Rattle.publish_path.specs.Laws.{lines_by}
use Rattle.publish_path.specs.Offers.{lines_of}
use Rattle.publish_path.specs.Publishes.{ConfirmSent, FrameSent, LinesTold, LinkGone, OutcomeCame}
use Rattle.publish_path.specs.Publishes.{PublishEvent, PublishState, ReturnSent, TakenUp}
use Rattle.publish_path.specs.Publishes.{after_events as publishes_after, open_after}
use Rattle.session_path.specs.Events.{PathEvent, after_events, deliveries_of, publishes_of}
use Rattle.session_path.specs.Path.{PathState}
use Rattle.gate_model.specs.Paths.{lines_in, lines_of_life, lines_on, slot_at}
use Rattle.gate_model.specs.Picks.{ArePicks}
use Rattle.gate_model.specs.Publishing.{path_events, path_life}
use Rattle.gate_model.specs.Reports.{lines_after, lines_below, lines_if, lines_owed, lines_upto}
use Rattle.gate_model.specs.State.{Step, before, owed_lines}
use Rattle.gate_model.proofs.Fates.{PublishesAre}
use Rattle.gate_model.proofs.Known.{known, opened_is, paths_are}
use Rattle.gate_model.proofs.Publishing.{path_is, tells}

-- ---- the laws of the publishes

abbrev pub LinesAre : Type 0
LinesAre = (life : ℕ) (h : List PublishEvent) → lines_of life (open_after life h) ≡ lines_by life h

abbrev pub DeliveriesAre : Type 0
DeliveriesAre = (life : ℕ) (h : List PathEvent) → (after_events life h).deliveries ≡ on.after_events life (deliveries_of life h)

abbrev pub DeliveryLinesAre : Type 0
DeliveryLinesAre = (life : ℕ) (h : List DeliveryEvent) → delivery_lines life (on.open_after life h) ≡ deliveries.lines_by life h

-- ---- of one channel

-- no event changes the number of the life
life_is : (life : ℕ) (h : List PublishEvent) → (publishes_after life h).life ≡ life
life_is life [] = refl
life_is life (TakenUp link confirm payload back ∷ h) = life_is life h
life_is life (FrameSent number first part ∷ h) = life_is life h
life_is life (OutcomeCame first last outcome ∷ h) = life_is life h
life_is life (LinkGone link not_found ∷ h) = life_is life h
life_is life (ConfirmSent c ∷ h) = life_is life h
life_is life (ReturnSent number ∷ h) = life_is life h
life_is life (LinesTold ∷ h) = life_is life h

delivery_life_is : (life : ℕ) (h : List DeliveryEvent) → (on.after_events life h).life ≡ life
delivery_life_is life [] = refl
delivery_life_is life (on.LinkAdded link kind ∷ h) = delivery_life_is life h
delivery_life_is life (on.LinkAttached link count ∷ h) = delivery_life_is life h
delivery_life_is life (on.LinkFlowed link count ∷ h) = delivery_life_is life h
delivery_life_is life (on.LinkEchoed link ∷ h) = delivery_life_is life h
delivery_life_is life (on.GetCame link no_ack ∷ h) = delivery_life_is life h
delivery_life_is life (on.TransferCame link part payload ∷ h) = delivery_life_is life h
delivery_life_is life (on.Arrived arriving content again ∷ h) = delivery_life_is life h
delivery_life_is life (on.LinkDropped link ∷ h) = delivery_life_is life h
delivery_life_is life (on.Delivered number ∷ h) = delivery_life_is life h
delivery_life_is life (on.Written tag ∷ h) = delivery_life_is life h
delivery_life_is life (on.Answered tag multiple settle ∷ h) = delivery_life_is life h
delivery_life_is life (on.Cancelled link ∷ h) = delivery_life_is life h
delivery_life_is life (on.Closed ∷ h) = delivery_life_is life h
delivery_life_is life (on.EndLost ∷ h) = delivery_life_is life h
delivery_life_is life (on.PrefetchSet count ∷ h) = delivery_life_is life h
delivery_life_is life (on.GlobalSet count ∷ h) = delivery_life_is life h
delivery_life_is life (on.SettleSent settle ∷ h) = delivery_life_is life h
delivery_life_is life (on.GrantSent grant ∷ h) = delivery_life_is life h
delivery_life_is life (on.Emptied link ∷ h) = delivery_life_is life h
delivery_life_is life (on.LinesTold ∷ h) = delivery_life_is life h

-- what is owed of the publishes, and of the deliveries
abbrev lines_told_by : ℕ → PublishState → DeliveryState → List LostItem
lines_told_by life x y = if x.life == life then lines_of x.life x.list ++ delivery_lines y.life y.list else []

module _ (publishes : PublishesAre) (lines : LinesAre) (arrives : DeliveriesAre) (delivery_lines_are : DeliveryLinesAre) where
  in_life : (life : ℕ) (es : List PathEvent) → lines_of life (open_after life (publishes_of life es)) ++ delivery_lines life (on.open_after life (deliveries_of life es))
      ≡ lines_after life es
  in_life life es =
      ap (λ (xs : List LostItem). xs ++ delivery_lines life (on.open_after life (deliveries_of life es))) (lines life (publishes_of life es))
      ∙ ap (λ (xs : List LostItem). lines_by life (publishes_of life es) ++ xs) (delivery_lines_are life (deliveries_of life es))

  on_channel : (life : ℕ) (h : List Step) (n : ℕ) (o : Option ℕ)
      → lines_on life (option_map (λ (l : ℕ). after_events l (path_events h n)) o) ≡ lines_if o life h n
  on_channel life h n None = refl
  on_channel life h n (Some l) =
      ap (λ (x : PublishState). lines_told_by life x (after_events l es).deliveries) (publishes l es)
      ∙ ap (lines_told_by life (publishes_after l events)) (arrives l es)
      ∙ ap (λ (k : ℕ). if k == life then lines_of k (open_after l events) ++ delivery_lines (on.after_events l arrivals).life (on.open_after l arrivals) else []) (life_is l events)
      ∙ ap (λ (k : ℕ). if l == life then lines_of l (open_after l events) ++ delivery_lines k (on.open_after l arrivals) else []) (delivery_life_is l arrivals)
      ∙ by (l == life) refl
    where
      es : List PathEvent
      es = path_events h n

      events : List PublishEvent
      events = publishes_of l es

      arrivals : List DeliveryEvent
      arrivals = deliveries_of l es

      by : (b : Bool) → (l == life) ≡ b → (if b then lines_of l (open_after l events) ++ delivery_lines l (on.open_after l arrivals) else []) ≡ (if b then lines_after life es else [])
      by true g =
          let same : l ≡ life = grind (arith, nat_tests, g) in
          in_life l es ∙ ap (λ (k : ℕ). lines_after k es) same
      by false g = refl

-- ---- of all channels

-- those of the channels below n, joined
joined : (ℕ → List LostItem) → ℕ → List LostItem
joined f zero = []
joined f (suc n) = joined f n ++ f n

joined_front : (f : ℕ → List LostItem) (n : ℕ) → joined f (suc n) ≡ f 0 ++ joined (λ i. f (suc i)) n
unfolding joined
joined_front f zero = sym (append-nil (f 0))
joined_front f (suc n) =
    ap (λ (xs : List LostItem). xs ++ f (suc n)) (joined_front f n) ∙ append_assoc (f 0) (joined (λ i. f (suc i)) n) (f (suc n))

of_life : (life : ℕ) (ps : List (Option PathState)) → lines_of_life life ps ≡ joined (λ i. lines_on life (slot_at ps i)) (length ps)
unfolding joined
of_life life [] = refl
of_life life (o ∷ os) =
    ap (λ (xs : List LostItem). lines_on life o ++ xs) (of_life life os) ∙ sym (joined_front (λ i. lines_on life (slot_at (o ∷ os) i)) (length os))

below_is : (life : ℕ) (h : List Step) (f : ℕ → List LostItem) (n : ℕ) → ((i : ℕ) → i < n → f i ≡ lines_if (path_life h i) life h i)
    → joined f n ≡ lines_below life h n
unfolding joined
below_is life h f zero e = refl
below_is life h f (suc n) e =
    ap (λ (xs : List LostItem). xs ++ f n) (below_is life h f n (λ i l. e i (omega (arith, l))))
    ∙ ap (λ (xs : List LostItem). lines_below life h n ++ xs) (e n (omega arith))

-- ---- of all lives

lives_are : PublishesAre → LinesAre → DeliveriesAre → DeliveryLinesAre → (h : List Step) → ArePicks h → (life : ℕ) → lines_of_life life (before h).paths ≡ lines_below life h (suc CHANNEL_MAX)
lives_are publishes lines arrives delivered h p life =
    of_life life ps ∙ ap (joined (λ i. lines_on life (slot_at ps i))) long ∙ below_is life h (λ i. lines_on life (slot_at ps i)) (suc CHANNEL_MAX) at
  where
    ps : List (Option PathState)
    ps = (before h).paths

    long : length ps ≡ suc CHANNEL_MAX
    long = ap (λ (qs : List (Option PathState)). length qs) (paths_are (known h p)) ∙ (tells 0 h p).long

    at : (i : ℕ) → i < suc CHANNEL_MAX → lines_on life (slot_at ps i) ≡ lines_if (path_life h i) life h i
    at i l = ap (lines_on life) (path_is h i p (omega (arith, l))) ∙ on_channel publishes lines arrives delivered life h i (path_life h i)

upto_is : (ps : List (Option PathState)) (h : List Step) (n : ℕ) → ((life : ℕ) → lines_of_life life ps ≡ lines_below life h (suc CHANNEL_MAX))
    → lines_in ps n ≡ lines_upto h n
upto_is ps h zero e = refl
upto_is ps h (suc n) e =
    ap (λ (xs : List LostItem). xs ++ lines_of_life (suc n) ps) (upto_is ps h n e) ∙ ap (λ (xs : List LostItem). lines_upto h n ++ xs) (e (suc n))

pub lines_are : PublishesAre → LinesAre → DeliveriesAre → DeliveryLinesAre → (h : List Step) → ArePicks h → owed_lines (before h) ≡ lines_owed h
lines_are publishes lines arrives delivered h p =
    upto_is (before h).paths h (before h).opened (lives_are publishes lines arrives delivered h p) ∙ ap (lines_upto h) (opened_is (known h p))
