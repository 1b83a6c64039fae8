-- A further unit of the client comes once none before it can be taken up, and each that is taken up is the next.
use Rattle.std.proofs.Common.{◌≡◌, ◌∙◌, ℕ, zero, suc, ◌+◌, ◌<◌, ◌≤◌, Bool, true, false, ◌||◌}
use Rattle.std.proofs.Common.{if◌then◌else◌, List, [], ◌∷◌, ◌++◌, length, Option, None, Some, refl}
use Rattle.std.proofs.Common.{ap, arith}
use Rattle.std.specs.Prelude.{is_some, slice_get}
use Rattle.std.specs.List.{list_any}
use Rattle.std.proofs.lemmas.List.Folds.{list_any-append}
use Rattle.gate_outside.specs.declared.ports.End.{End}
use Rattle.gate_outside.specs.declared.ports.End.TheVariants.{Client, Up}
use Rattle.machine_091.specs.declared.unit.Unit91.{Unit91}
use Rattle.gate_model.specs.Paths.{is_laden}
use Rattle.gate_model.specs.Picks.{ArePicks}
use Rattle.gate_model.specs.Queue.{Waits, can_take, is_bad_unit, place_from, place_in, removed}
use Rattle.gate_model.specs.Queue.{unit_at, without_at}
use Rattle.gate_model.specs.State.{State, Step, Came, Queued, before, came, dequeued, next_unit}
use Rattle.gate_model.specs.State.{place, step, waits}
use Rattle.gate_pair.specs.Cutting.{after, behind, on_next, settle, settled}
use Rattle.gate_pair.proofs.Saids.{after_before}
use Rattle.gate_pair.proofs.Taken.{taken_leaves}

-- ---- the queue without one

pub none_of_both : (a b : Bool) → (a || b) ≡ false → (a ≡ false) × (b ≡ false)
none_of_both true b e = absurd cc
none_of_both false b e = (refl, e)

both_none : (a b : Bool) → a ≡ false → b ≡ false → (a || b) ≡ false
both_none true b e f = absurd cc
both_none false b e f = f

removed_shorter : (i : ℕ) (us : List Unit91) (u : Unit91) → slice_get us i ≡ Some u → suc (length (removed i us)) ≡ length us
removed_shorter i [] u e = absurd cc
removed_shorter zero (v ∷ us) u e = refl
removed_shorter (suc i) (v ∷ us) u e = ap suc (removed_shorter i us u e)

taken_shorter : (o : Option ℕ) (us : List Unit91) (u : Unit91) → unit_at o us ≡ Some u → suc (length (without_at o us)) ≡ length us
taken_shorter None us u e = absurd cc
taken_shorter (Some i) us u e = removed_shorter i us u e

abbrev AreGood : List Unit91 → Type 0
AreGood us = list_any is_bad_unit us ≡ false

removed_good : (i : ℕ) (us : List Unit91) → AreGood us → AreGood (removed i us)
removed_good i [] e = e
removed_good zero (v ∷ us) e = (none_of_both (is_bad_unit v) _ e).1
removed_good (suc i) (v ∷ us) e =
    let x = none_of_both (is_bad_unit v) (list_any is_bad_unit us) e in both_none (is_bad_unit v) _ x.0 (removed_good i us x.1)

without_good : (o : Option ℕ) (us : List Unit91) → AreGood us → AreGood (without_at o us)
without_good None us e = e
without_good (Some i) us e = removed_good i us e

-- ---- where none is the next

get_within : (us : List Unit91) (i : ℕ) → i < length us → slice_get us i ≡ None → ⊥
get_within [] i lt e = let wrong : i < 0 = lt in omega (arith, wrong)
get_within (u ∷ us) zero lt e = absurd cc
get_within (u ∷ us) (suc i) lt e = get_within us i (omega (arith, lt)) e

place_within : (q : Waits) (all : List Unit91) (k i : ℕ) (us : List Unit91) → place_from q all k us ≡ Some i → i < k + length us
place_within q all k i [] e = absurd cc
place_within q all k i (u ∷ us) e = by (can_take q _ u) e (place_within q all (k + 1) i us)
  where
    by : (b : Bool) → (if b then Some k else place_from q all (k + 1) us) ≡ Some i → (place_from q all (k + 1) us ≡ Some i → i < (k + 1) + length us) → i < k + suc (length us)
    by true f more = let here : k ≡ i = cc in omega (arith, here)
    by false f more = let less : i < (k + 1) + length us = more f in omega (arith, less)

none_next : (w : State) → next_unit w ≡ None → is_some (place w) ≡ false
none_next w e = laden (is_laden w.paths) e
  where
    by : (o : Option ℕ) → place_in (waits w) w.queue ≡ o → unit_at o w.queue ≡ None → is_some o ≡ false
    by None f e = refl
    by (Some i) f e =
        let less : i < 0 + length w.queue = place_within (waits w) w.queue 0 i w.queue f in
        absurd (get_within w.queue i (omega (arith, less)) e)

    laden : (b : Bool) → unit_at (if b then None else place_in (waits w) w.queue) w.queue ≡ None → is_some (if b then None else place_in (waits w) w.queue) ≡ false
    laden true e = refl
    laden false e = by (place_in (waits w) w.queue) refl e

pub none_placed : (laden : Bool) (q : Waits) → is_some (if laden then None else place_in q []) ≡ false
none_placed true q = refl
none_placed false q = refl

no_queue : (us : List Unit91) → length us ≤ 0 → us ≡ []
no_queue [] few = refl
no_queue (u ∷ us) few = absurd (omega (arith, few))

-- ---- a take-up

-- the pair has memory, and no unit that waits is bad
pub record IsGood (w : State) : Type 0 where
  pub calm : w.out_of_memory ≡ false
  pub good : list_any is_bad_unit w.queue ≡ false

-- and none can be taken up
pub record IsReady (w : State) : Type 0 where
  pub good : list_any is_bad_unit w.queue ≡ false
  pub taken : is_some (place w) ≡ false

came_queue : (w : State) (u : Unit91) → w.out_of_memory ≡ false → (step w (Came u)).queue ≡ without_at (place w) w.queue
came_queue w u e = ap (λ (b : Bool). (if b then w else came (dequeued w) u).queue) e

came_calm : (w : State) (u : Unit91) → w.out_of_memory ≡ false → (step w (Came u)).out_of_memory ≡ false
came_calm w u calm = (taken_leaves (Came u) w tt).memory_is ∙ calm

came_good : (w : State) (u : Unit91) → IsGood w → IsGood (step w (Came u))
came_good w u g = record {
  calm = came_calm w u g.calm;
  good = ap (list_any is_bad_unit) (came_queue w u g.calm) ∙ without_good (place w) w.queue g.good;
}

came_fewer : (w : State) (u : Unit91) (f : ℕ) → w.out_of_memory ≡ false → next_unit w ≡ Some u → length w.queue ≤ suc f → length (step w (Came u)).queue ≤ f
came_fewer w u f calm e few =
    let less : suc (length (without_at (place w) w.queue)) ≡ length w.queue = taken_shorter (place w) w.queue u e in
    let same : length (step w (Came u)).queue ≡ length (without_at (place w) w.queue) = ap length (came_queue w u calm) in
    omega (arith, less, same, few)

settled_done : (w : State) (f : ℕ) (g : List Step) → length (after g w).queue ≤ f → (after g w).out_of_memory ≡ false → is_some (place (after (settled w f g) w)) ≡ false
settled_done w zero g few calm =
    let v : State = after g w in
    ap (λ (us : List Unit91). is_some (if is_laden v.paths then None else place_in (waits v) us)) (no_queue v.queue few) ∙ none_placed (is_laden v.paths) (waits v)
settled_done w (suc f) g few calm =
    by (next_unit (after g w)) refl (λ u e. settled_done w f (Came u ∷ g) (came_fewer (after g w) u f calm e few) (came_calm (after g w) u calm))
  where
    by : (o : Option Unit91) → next_unit (after g w) ≡ o
        → ((u : Unit91) → next_unit (after g w) ≡ Some u → is_some (place (after (settled w f (Came u ∷ g)) w)) ≡ false)
        → is_some (place (after (on_next o g (λ u. settled w f (Came u ∷ g))) w)) ≡ false
    by None e rec = none_next (after g w) e
    by (Some u) e rec = rec u e

-- behind it none can be
pub settle_done : (w : State) (g : List Step) → (after g w).out_of_memory ≡ false → is_some (place (after (settle w g) w)) ≡ false
settle_done w g calm = settled_done w (length (after g w).queue) g (omega arith) calm

settled_good : (w : State) (f : ℕ) (g : List Step) → IsGood (after g w) → AreGood (after (settled w f g) w).queue
settled_good w zero g x = x.good
settled_good w (suc f) g x = by (next_unit (after g w)) (λ u. settled_good w f (Came u ∷ g) (came_good (after g w) u x))
  where
    by : (o : Option Unit91) → ((u : Unit91) → AreGood (after (settled w f (Came u ∷ g)) w).queue) → AreGood (after (on_next o g (λ u. settled w f (Came u ∷ g))) w).queue
    by None rec = x.good
    by (Some u) rec = rec u

settle_ready : (w : State) (g : List Step) → IsGood (after g w) → IsReady (after (settle w g) w)
settle_ready w g x = record { good = settled_good w (length (after g w).queue) g x; taken = settle_done w g x.calm }

settled_picks : (h : List Step) (f : ℕ) (g : List Step) → ArePicks (g ++ h) → ArePicks (settled (before h) f g ++ h)
settled_picks h zero g p = p
settled_picks h (suc f) g p = by (next_unit (after g (before h))) refl (λ u e. settled_picks h f (Came u ∷ g) (ap next_unit (after_before g h) ∙ e, p))
  where
    by : (o : Option Unit91) → next_unit (after g (before h)) ≡ o
        → ((u : Unit91) → next_unit (after g (before h)) ≡ Some u → ArePicks (settled (before h) f (Came u ∷ g) ++ h))
        → ArePicks (on_next o g (λ u. settled (before h) f (Came u ∷ g)) ++ h)
    by None e rec = p
    by (Some u) e rec = rec u e

pub settle_picks : (h g : List Step) → ArePicks (g ++ h) → ArePicks (settle (before h) g ++ h)
settle_picks h g p = settled_picks h (length (after g (before h)).queue) g p

-- ---- of both ends

abbrev pub IsGoodAt : End → State → Type 0
IsGoodAt Client w = IsGood w
IsGoodAt Up w = Unit {0}

abbrev pub IsReadyAt : End → State → Type 0
IsReadyAt Client w = IsReady w
IsReadyAt Up w = Unit {0}

pub behind_ready : (end : End) (w : State) (g : List Step) → IsGoodAt end (after g w) → IsReadyAt end (after (behind end w g) w)
behind_ready Client w g x = settle_ready w g x
behind_ready Up w g x = tt

pub behind_picks : (end : End) (h g : List Step) → ArePicks (g ++ h) → ArePicks (behind end (before h) g ++ h)
behind_picks Client h g p = settle_picks h g p
behind_picks Up h g p = p

-- a unit that isn't bad is queued
pub queued_good : (w : State) (u : Unit91) → w.out_of_memory ≡ false → list_any is_bad_unit w.queue ≡ false → is_bad_unit u ≡ false → IsGood (step w (Queued u))
queued_good w u calm good e =
    let same : (step w (Queued u)).queue ≡ w.queue ++ u ∷ [] = ap (λ (b : Bool). (if b then w else record w { queue = w.queue ++ u ∷ [] }).queue) calm in
    record {
      calm = (taken_leaves (Queued u) w tt).memory_is ∙ calm;
      good = ap (list_any is_bad_unit) same ∙ list_any-append is_bad_unit w.queue (u ∷ [])
          ∙ both_none (list_any is_bad_unit w.queue) _ good (both_none (is_bad_unit u) false e refl);
    }
