-- The units of each channel are taken up in their order.
use Rattle.std.proofs.Common.{◌≡◌, ℕ, ◌+◌, ◌==◌, Bool, true, false, not, ◌&&◌, ◌||◌, if◌then◌else◌}
use Rattle.std.proofs.Common.{List, [], ◌∷◌, ◌++◌, length, length-append, take, take_at, Option}
use Rattle.std.proofs.Common.{None, Some, append_assoc, append-nil, arith, refl, sym, ap, ◌∙◌, subst}
use Rattle.std.proofs.lemmas.List.Elements.{filter-append}
use Rattle.std.proofs.lemmas.Bool.Decides.{nat_tests}
use Rattle.std.specs.Prelude.{slice_get}
use Rattle.std.specs.List.{list_any}
use Rattle.machine_091.specs.declared.unit.Unit91.{Unit91}
use Rattle.gate_outside.specs.declared.ports.End.TheVariants.{Client, Up}
use Rattle.gate_outside.specs.declared.ports.Linked.TheVariants as link
use Rattle.gate_relay.specs.declared.loss.Loss.TheVariants as loss
use Rattle.gate_model.specs.declared.outgoing.Outgoing.TheVariants.{ToClient}
use Rattle.gate_model.specs.Folds.{ran_out_in}
use Rattle.gate_model.specs.Order.{TakesInOrder, came_in, is_of, on_channel, taken_in}
use Rattle.gate_model.specs.Picks.{ArePicks}
use Rattle.gate_model.specs.Queue.{Waits, can_take, channel_of, holds, is_empty, place_from}
use Rattle.gate_model.specs.Queue.{removed, unit_at, waits_for_all, without_at, place_in}
use Rattle.gate_model.specs.State.{State, Step, Began, Queued, Came, TakenUp, Heard, Joined}
use Rattle.gate_model.specs.State.{Lost, Gave, Whole, OutOfMemory, before, came, dequeued, left, next_unit, place, waits, Fed, Silent}
use Rattle.gate_model.proofs.Basics.{and_left, and_right, not_true}
use Rattle.gate_model.proofs.Known.{known, memory_is}
use Rattle.gate_model.proofs.Queues.{empty_is, rests_fail, rests_heard}
use Rattle.gate_model.specs.Paths.{is_laden}

-- ---- the unit that is taken up

-- it stands in the queue, and can be taken up behind those before it
pub record Stands (q : Waits) (us : List Unit91) (i : ℕ) (u : Unit91) : Type 0 where
  pub front : List Unit91
  pub behind : List Unit91
  pub parts : us ≡ front ++ u ∷ behind
  pub at : length front ≡ i
  pub may : can_take q front u ≡ true

there : (front : List Unit91) (u : Unit91) (behind : List Unit91) → slice_get (front ++ u ∷ behind) (length front) ≡ Some u
there [] u behind = refl
there (v ∷ front) u behind = there front u behind

gone : (front : List Unit91) (u : Unit91) (behind : List Unit91) → removed (length front) (front ++ u ∷ behind) ≡ front ++ behind
gone [] u behind = refl
gone (v ∷ front) u behind = ap (λ (x : List Unit91). v ∷ x) (gone front u behind)

same_unit : (u v : Unit91) → Some u ≡ Some v → u ≡ v
same_unit u v e = cc

same_place : (i j : ℕ) → Some i ≡ Some j → i ≡ j
same_place i j e = cc

stands_here : (q : Waits) (front : List Unit91) (v : Unit91) (us : List Unit91) (i : ℕ) (u : Unit91) → slice_get (front ++ v ∷ us) i ≡ Some u
    → (place_from q (front ++ v ∷ us) (length front + 1) us ≡ Some i → Stands q (front ++ v ∷ us) i u)
    → (b : Bool) → can_take q (take (length front) (front ++ v ∷ us)) v ≡ b
    → (if b then Some (length front) else place_from q (front ++ v ∷ us) (length front + 1) us) ≡ Some i → Stands q (front ++ v ∷ us) i u
stands_here q front v us i u f later true g e =
    let here : length front ≡ i = same_place _ _ e in
    let is : v ≡ u = same_unit v u (sym (there front v us) ∙ ap (slice_get (front ++ v ∷ us)) here ∙ f) in
    record {
      front = front;
      behind = us;
      parts = ap (λ (x : Unit91). front ++ x ∷ us) is;
      at = here;
      may = subst (λ (x : Unit91). can_take q front x ≡ true) is (ap (λ (x : List Unit91). can_take q x v) (sym (take_at front (v ∷ us) (length front) refl)) ∙ g);
    }
stands_here q front v us i u f later false g e = later e

stands_from : (q : Waits) (front us : List Unit91) (i : ℕ) (u : Unit91) → place_from q (front ++ us) (length front) us ≡ Some i
    → slice_get (front ++ us) i ≡ Some u → Stands q (front ++ us) i u
stands_from q front [] i u e f = absurd cc
stands_from q front (v ∷ us) i u e f =
    stands_here q front v us i u f
    (λ g. subst (λ (x : List Unit91). Stands q x i u) (append_assoc front (v ∷ []) us)
    (stands_from q (front ++ v ∷ []) us i u
    (ap (λ (n : ℕ). place_from q ((front ++ v ∷ []) ++ us) n us) (length-append front (v ∷ []))
    ∙ ap (λ (x : List Unit91). place_from q x (length front + 1) us) (append_assoc front (v ∷ []) us) ∙ g)
    (ap (λ (x : List Unit91). slice_get x i) (append_assoc front (v ∷ []) us) ∙ f)))
    _ refl e

-- none before it is of its channel
none_behind : (n : ℕ) (v : Unit91) (us : List Unit91) → (list_any (holds n) us ≡ false → on_channel n us ≡ []) → (a b : Bool)
    → ((a || b) || list_any (holds n) us) ≡ false → (if b then v ∷ on_channel n us else on_channel n us) ≡ []
none_behind n v us rest true b e = absurd cc
none_behind n v us rest false true e = absurd cc
none_behind n v us rest false false e = rest e

none_of : (n : ℕ) (us : List Unit91) → list_any (holds n) us ≡ false → on_channel n us ≡ []
none_of n [] e = refl
none_of n (v ∷ us) e = none_behind n v us (none_of n us) (channel_of v == 0) (channel_of v == n) e

none_before : (q : Waits) (front : List Unit91) (u : Unit91) → can_take q front u ≡ true → on_channel (channel_of u) front ≡ []
none_before q front u e = by (waits_for_all u) e
  where
    by : (b : Bool)
        → (if b then is_empty front && not q.some else (not q.opening && not (q.channel (channel_of u))) && not (list_any (holds (channel_of u)) front)) ≡ true
        → on_channel (channel_of u) front ≡ []
    by true e = ap (on_channel (channel_of u)) (empty_is front (and_left (is_empty front) _ e))
    by false e = none_of (channel_of u) front (not_true _ (and_right (not q.opening && not (q.channel (channel_of u))) _ e))

its_channel : (m n : ℕ) → (m == n) ≡ true → m ≡ n
its_channel m n e = grind (arith, nat_tests)

-- so those of each channel stay in order as it goes from the queue to those that were taken up
moved : (n : ℕ) (q : Waits) (taken front behind : List Unit91) (u : Unit91) → can_take q front u ≡ true
    → on_channel n taken ++ on_channel n (front ++ u ∷ behind) ≡ on_channel n (taken ++ u ∷ []) ++ on_channel n (front ++ behind)
moved n q taken front behind u may =
    ap (λ (x : List Unit91). on_channel n taken ++ x) (filter-append (is_of n) front (u ∷ behind) ∙ by (is_of n u) refl ∙ ap (λ (x : List Unit91). on_channel n (u ∷ []) ++ x) (sym (filter-append (is_of n) front behind)))
    ∙ sym (append_assoc (on_channel n taken) (on_channel n (u ∷ [])) (on_channel n (front ++ behind)))
    ∙ ap (λ (x : List Unit91). x ++ on_channel n (front ++ behind)) (sym (filter-append (is_of n) taken (u ∷ [])))
  where
    by : (b : Bool) → is_of n u ≡ b
        → on_channel n front ++ (if b then u ∷ on_channel n behind else on_channel n behind) ≡ (if b then u ∷ [] else []) ++ (on_channel n front ++ on_channel n behind)
    by false e = refl
    by true e =
        let none : on_channel n front ≡ [] = subst (λ (k : ℕ). on_channel k front ≡ []) (its_channel (channel_of u) n e) (none_before q front u may) in
        ap (λ (x : List Unit91). x ++ u ∷ on_channel n behind) none ∙ ap (λ (x : List Unit91). u ∷ (x ++ on_channel n behind)) (sym none)

pub next_stands : (w : State) (u : Unit91) (i : ℕ) → place w ≡ Some i → unit_at (Some i) w.queue ≡ Some u → Stands (waits w) w.queue i u
next_stands w u i f e = stands_from (waits w) [] w.queue i u (placed (is_laden w.paths) f) e
  where
    placed : (b : Bool) → (if b then None else place_in (waits w) w.queue) ≡ Some i → place_in (waits w) w.queue ≡ Some i
    placed true g = absurd cc
    placed false g = g

took : (n : ℕ) (w : State) (taken : List Unit91) (u : Unit91) → next_unit w ≡ Some u
    → on_channel n taken ++ on_channel n w.queue ≡ on_channel n (taken ++ u ∷ []) ++ on_channel n (dequeued w).queue
took n w taken u e = by (place w) refl e
  where
    by : (o : Option ℕ) → place w ≡ o → unit_at o w.queue ≡ Some u
        → on_channel n taken ++ on_channel n w.queue ≡ on_channel n (taken ++ u ∷ []) ++ on_channel n (without_at o w.queue)
    by None f e = absurd cc
    by (Some i) f e =
        let s : Stands (waits w) w.queue i u = next_stands w u i f e in
        let without : removed i w.queue ≡ s.front ++ s.behind = ap (λ (k : ℕ). removed k w.queue) (sym s.at) ∙ ap (removed (length s.front)) s.parts ∙ gone s.front u s.behind in
        ap (λ (x : List Unit91). on_channel n taken ++ on_channel n x) s.parts ∙ moved n (waits w) taken s.front s.behind u s.may
        ∙ ap (λ (x : List Unit91). on_channel n (taken ++ u ∷ []) ++ on_channel n x) (sym without)

-- ---- over the steps

abbrev In : ℕ → List Step → List Unit91 → Type 0
In n h queue = on_channel n (came_in h) ≡ on_channel n (taken_in h) ++ on_channel n queue

same_queue : (n : ℕ) (h : List Step) (a b : List Unit91) → b ≡ a → In n h a → In n h b
same_queue n h a b e f = f ∙ ap (λ (x : List Unit91). on_channel n (taken_in h) ++ on_channel n x) (sym e)

-- while the pair has memory
with_memory : (h : List Step) → ArePicks h → ran_out_in h ≡ false → (before h).out_of_memory ≡ false
with_memory h p e = memory_is (known h p) ∙ e

queued_in : (n : ℕ) (h : List Step) (u : Unit91) (w : State) → w.out_of_memory ≡ false → In n h w.queue
    → on_channel n (came_in h ++ u ∷ []) ≡ on_channel n (taken_in h) ++ on_channel n (if w.out_of_memory then w else record w { queue = w.queue ++ u ∷ [] }).queue
queued_in n h u w m f =
    filter-append (is_of n) (came_in h) (u ∷ []) ∙ ap (λ (x : List Unit91). x ++ on_channel n (u ∷ [])) f
    ∙ append_assoc (on_channel n (taken_in h)) (on_channel n w.queue) (on_channel n (u ∷ []))
    ∙ ap (λ (x : List Unit91). on_channel n (taken_in h) ++ x) (sym (filter-append (is_of n) w.queue (u ∷ [])))
    ∙ ap (λ (b : Bool). on_channel n (taken_in h) ++ on_channel n (if b then w else record w { queue = w.queue ++ u ∷ [] }).queue) (sym m)

-- what waits is passed over
passed_in : (n : ℕ) (h : List Step) (us : List Unit91) → In n h us → on_channel n (came_in h) ≡ on_channel n (taken_in h ++ us) ++ on_channel n []
passed_in n h us f = f ∙ sym (filter-append (is_of n) (taken_in h) us) ∙ sym (append-nil (on_channel n (taken_in h ++ us)))

came_queue : (w : State) (u : Unit91) → w.out_of_memory ≡ false → (if w.out_of_memory then w else came (dequeued w) u).queue ≡ (dequeued w).queue
came_queue w u m = ap (λ (b : Bool). (if b then w else came (dequeued w) u).queue) m

taken_queue : (b : Bool) (w : State) → (if b then left w else w).queue ≡ w.queue
taken_queue true w = refl
taken_queue false w = refl

pub takes_in_order : (h : List Step) → ArePicks h → TakesInOrder h
takes_in_order [] p n e = refl
takes_in_order (Began site k ms ∷ h) p n e = same_queue n h _ _ refl (takes_in_order h p.1 n e)
takes_in_order (Fed Client ∷ h) p n e = takes_in_order h p.1 n e
takes_in_order (Silent Client ∷ h) p n e = passed_in n h (before h).queue (takes_in_order h p.1 n e)
takes_in_order (Silent Up ∷ h) p n e = same_queue n h _ _ (rests_fail _ _ _).queue (takes_in_order h p.1 n e)
takes_in_order (Queued u ∷ h) p n e = queued_in n h u (before h) (with_memory h p.1 e) (takes_in_order h p.1 n e)
takes_in_order (Came u ∷ h) p n e =
    takes_in_order h p.1 n e ∙ took n (before h) (taken_in h) u p.0
    ∙ ap (λ (x : List Unit91). on_channel n (taken_in h ++ u ∷ []) ++ on_channel n x) (sym (came_queue (before h) u (with_memory h p.1 e)))
takes_in_order (TakenUp ∷ h) p n e = same_queue n h _ _ (taken_queue _ (before h)) (takes_in_order h p.1 n e)
takes_in_order (Heard u ∷ h) p n e = same_queue n h _ _ (rests_heard (before h) u).queue (takes_in_order h p.1 n e)
takes_in_order (Joined link.Failed ∷ h) p n e = same_queue n h _ _ (rests_fail _ None _).queue (takes_in_order h p.1 n e)
takes_in_order (Lost Client loss.Ended ∷ h) p n e = takes_in_order h p.1 n e
takes_in_order (Lost Up loss.Ended ∷ h) p n e = same_queue n h _ _ (rests_fail _ None _).queue (takes_in_order h p.1 n e)
takes_in_order (Lost Up loss.Failed ∷ h) p n e = same_queue n h _ _ (rests_fail _ None _).queue (takes_in_order h p.1 n e)
takes_in_order (Gave (ToClient u) text ∷ h) p n e = takes_in_order h p.1 n e
takes_in_order (Whole Client ∷ h) p n e = takes_in_order h p.1 n e
takes_in_order (OutOfMemory ∷ h) p n e = absurd cc
takes_in_order (s ∷ h) p n e = takes_in_order h p.1 n e
