-- A sending link that the gateway detaches for its handle has no publish that waits, is begun, or lacks an outcome.
use Rattle.std.proofs.Common.{◌≡◌, ◌∙◌, ℕ, ◌==◌, inl, inr, ◌&&◌, ◌||◌, not, Bool, true, false, if◌then◌else◌}
use Rattle.std.proofs.Common.{List, [], ◌∷◌, length, Option, None, Some, refl, sym, ap, subst, arith}
use Rattle.std.proofs.lemmas.Bool.Decides.{nat_tests}
use Rattle.std.specs.Prelude.{IfSome, count_by, find}
use Rattle.open_items.specs.Numbers.{first, how_many, passing}
use Rattle.open_items.proofs.Counted.{how_many_passing, least_none}
use Rattle.performatives_10.specs.declared.condition.Condition.{Condition}
use Rattle.publish_path.specs.Journal.{Fate, fate_of, is_to_come, is_to_go, is_undecided, numbers_of}
use Rattle.publish_path.specs.Kept.{number_of}
use Rattle.publish_path.specs.Offers.{is_pending}
use Rattle.publish_path.specs.Publishes.{PublishEvent, PublishState, has_no_outcome, is_on}
use Rattle.publish_path.specs.Publishes.{after_events as publishes_after}
use Rattle.publish_path.specs.declared.publish.Publish.{Publish}
use Rattle.publish_path.proofs.Keeping.{follows}
use Rattle.publish_path.proofs.Matching.{Matches, sending_test, undecided_test}
use Rattle.session_path.specs.Due.{next_detach}
use Rattle.session_path.specs.Events.{PathEvent, after_events, publishes_of}
use Rattle.session_path.specs.Links.{has_number, is_stage_failed, is_stage_left, is_stage_open, is_to_part}
use Rattle.session_path.specs.Path.{IsThere, PathState, is_resting}
use Rattle.session_path.specs.declared.path.PathLink.{PathLink}
use Rattle.session_path.specs.declared.path.Stage.{Stage}
use Rattle.session_path.specs.declared.path.Stage.TheVariants.{Open}
use Rattle.session_path.proofs.Idle.{detaching_there}
use Rattle.consume_path.specs.Offers.{holds, is_over}
use Rattle.gate_model.specs.Giving.{AreDone, AreDoneOn, GivesUpIdle, MayGive}
use Rattle.gate_model.specs.Paths.{or_no_path, slot_at}
use Rattle.gate_model.specs.Picks.{ArePicks}
use Rattle.gate_model.specs.Publishing.{path_events}
use Rattle.gate_model.specs.State.{Gave, State, Step, before}
use Rattle.gate_model.specs.declared.channel.SessionUnit.TheVariants as unit
use Rattle.gate_model.specs.declared.outgoing.Outgoing.TheVariants.{ToUp}
use Rattle.gate_model.specs.declared.outgoing.UpUnit.{UpUnit}
use Rattle.gate_model.specs.declared.outgoing.UpUnit.TheVariants as up
use Rattle.gate_model.proofs.Basics.{and_left, and_right, left_false, right_false}
use Rattle.gate_model.proofs.Detaching.{DetachGoes, MayDetach, may_detach}
use Rattle.gate_model.proofs.Fates.{IsLived, PublishesAre, lived}
use Rattle.gate_model.proofs.Held.{to_go_comes, undecided_comes}
use Rattle.gate_model.proofs.Receivers.{LinksAre}
use Rattle.gate_model.proofs.Releases.{Goes, detaching_goes, life_same, some_same}

-- ---- the link that goes is idle

open_free : (x : Stage) → is_stage_open x ≡ true → (is_stage_left x || is_stage_failed x) ≡ false
open_free (Open h) e = refl
open_free x e = absurd cc

zero_is : (n : ℕ) → (n == 0) ≡ true → n ≡ 0
zero_is n e = grind (arith, nat_tests, e)

idle_none : (s : PathState) (x : PathLink) → Goes s x → x.receives ≡ false → is_stage_open x.stage ≡ true → count_by (is_pending (Some x.link)) s.publishes.list ≡ 0
idle_none s x (inl e) sends whole = absurd (by (is_to_part x) x.receives (open_free x.stage whole) sends e)
  where
    by : (part r : Bool) → part ≡ false → r ≡ false
        → ((part && not (r && holds x.link s.deliveries.list)) || ((r && is_stage_open x.stage) && is_over x.link s.deliveries)) ≡ true → ⊥
    by true r f g e = absurd cc
    by false true f g e = absurd cc
    by false false f g e = absurd cc
idle_none s x (inr e) sends whole = zero_is _ (by x.receives sends (and_right _ _ e))
  where
    by : (r : Bool) → r ≡ false → (if r then is_resting s.deliveries s.oks x.link else (count_by (is_pending (Some x.link)) s.publishes.list == 0)) ≡ true
        → (count_by (is_pending (Some x.link)) s.publishes.list == 0) ≡ true
    by true f g = absurd cc
    by false f g = g

-- ---- what that says of the fates

abbrev waits_by : ℕ → Fate → Bool
waits_by link f = (is_to_go f || is_undecided f) && is_on (Some link) f.link

pending_is : (life link : ℕ) (ds : List PublishEvent)
    → count_by (is_pending (Some link)) (publishes_after life ds).list ≡ how_many (λ k. waits_by link (fate_of k ds)) (numbers_of ds)
pending_is life link ds =
    how_many_passing number_of Matches is_to_come (is_pending (Some link)) (waits_by link) (λ k. fate_of k ds) (numbers_of ds) (publishes_after life ds).list same only (follows life ds)
  where
    same : (p : Publish) (f : Fate) → Matches p f → is_pending (Some link) p ≡ waits_by link f
    same p f m =
        ap (λ (b : Bool). (b || has_no_outcome p.answer) && is_on (Some link) p.link) (sending_test p f m)
        ∙ ap (λ (b : Bool). (is_to_go f || b) && is_on (Some link) p.link) (undecided_test p f m)
        ∙ ap (λ (i : ℕ). (is_to_go f || is_undecided f) && is_on (Some link) i) m.link

    only : (f : Fate) → waits_by link f ≡ true → is_to_come f ≡ true
    only f e = by (is_to_go f) refl (and_left _ _ e)
      where
        by : (b : Bool) → is_to_go f ≡ b → (b || is_undecided f) ≡ true → is_to_come f ≡ true
        by true g u = to_go_comes f g
        by false g u = undecided_comes f u

done_by : (life link : ℕ) (ds : List PublishEvent) → count_by (is_pending (Some link)) (publishes_after life ds).list ≡ 0 → AreDone ds link
done_by life link ds none k taken on =
    let off : waits_by link (fate_of k ds) ≡ false = least_none (λ n. waits_by link (fate_of n ds)) (numbers_of ds) (empty (passing (λ n. waits_by link (fate_of n ds)) (numbers_of ds)) (sym (pending_is life link ds) ∙ none)) k taken.0 taken.1 in
    let here : is_on (Some link) (fate_of k ds).link ≡ true = same link (fate_of k ds).link on in
    let both = rest _ _ here off in
    (left_false _ _ both, right_false _ _ both)
  where
    empty : (ns : List ℕ) → length ns ≡ 0 → first ns ≡ None
    empty [] e = refl
    empty (n ∷ ns) e = absurd (omega (arith, e))

    same : (a b : ℕ) → b ≡ a → (b == a) ≡ true
    same a b e = grind (arith, nat_tests, e)

    rest : (a b : Bool) → b ≡ true → (a && b) ≡ false → a ≡ false
    rest true true f e = absurd cc
    rest true false f e = absurd cc
    rest false b f e = refl

-- ---- detaches

module _ (publishes : PublishesAre) (tied : LinksAre) where
  given : {why : Option Condition} (h : List Step) (n link : ℕ) → ArePicks h → DetachGoes (before h) n link why → AreDoneOn h n link
  given h n link p d life l lives found sends whole = by (slot_at (before h).paths n) refl d.due
    where
      w : State
      w = before h

      es : List PathEvent
      es = path_events h n

      s : PathState
      s = after_events life es

      ds : List PublishEvent
      ds = publishes_of life es

      path_by : next_detach s ≡ Some d.gone → AreDone ds link
      path_by f =
          let there = detaching_there s.publishes.list s.deliveries s.oks s.links (tied life es).rising in
          let here = subst (λ (o : Option PathLink). IfSome o (IsThere s.links)) f there in
          let again : find (has_number link) s.links.links ≡ Some d.gone = subst (λ (k : ℕ). find (has_number k) s.links.links ≡ Some d.gone) d.is here.0 in
          let same : l ≡ d.gone = some_same (sym found ∙ again) in
          let none : count_by (is_pending (Some d.gone.link)) s.publishes.list ≡ 0 =
          idle_none s d.gone (detaching_goes s d.gone f) (subst (λ (x : PathLink). x.receives ≡ false) same sends) (subst (λ (x : PathLink). is_stage_open x.stage ≡ true) same whole) in
          done_by life link ds
          (ap (λ (x : PublishState). count_by (is_pending (Some link)) x.list) (sym (publishes life es)) ∙ subst (λ (k : ℕ). count_by (is_pending (Some k)) s.publishes.list ≡ 0) d.is none)

      lived_by : (t : PathState) → IsLived h n t → next_detach t ≡ Some d.gone → AreDone ds link
      lived_by t v f =
          let same : v.life ≡ life = life_same (sym v.lives ∙ lives) in
          let is : t ≡ s = v.is ∙ ap (λ (k : ℕ). after_events k es) same in
          path_by (ap next_detach (sym is) ∙ f)

      by : (o : Option PathState) → slot_at (before h).paths n ≡ o → next_detach (or_no_path o) ≡ Some d.gone → AreDone ds link
      by None g f = absurd cc
      by (Some t) g f = lived_by t (lived h n t p g) f

  give_by : (h : List Step) (u : UpUnit) → ArePicks h → MayDetach (before h) u → MayGive h u
  give_by h (up.OnSession n (unit.Detach link handle why)) p d = given h n link p d
  give_by h (up.OnSession n (unit.Attach a)) p d = tt
  give_by h (up.OnSession n (unit.Flow f)) p d = tt
  give_by h (up.OnSession n (unit.Transfer t)) p d = tt
  give_by h (up.OnSession n (unit.Dispose x)) p d = tt
  give_by h (up.OnSession n (unit.Settle x)) p d = tt
  give_by h u p d = tt

  pub gives_up_idle : (h : List Step) → ArePicks h → GivesUpIdle h
  gives_up_idle [] p = tt
  gives_up_idle (Gave (ToUp u) text ∷ h) p = (give_by h u p.1 (may_detach (before h) u p.0.1), gives_up_idle h p.1)
  gives_up_idle (s ∷ h) p = gives_up_idle h p.1
