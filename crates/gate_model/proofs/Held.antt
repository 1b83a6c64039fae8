-- The publishes of a life that are held are those of which the fates say so. No event but a publish that is taken up adds to them.
use Rattle.std.proofs.Common.{◌≡◌, ◌∙◌, ℕ, ◌+◌, ◌≤◌, ◌==◌, List, [], ◌∷◌, ◌++◌, Bool, true, false, refl, sym, ap, subst, arith}
use Rattle.std.proofs.Common.{Option, Some, None, cond, map, length}
use Rattle.std.specs.Prelude.{not, ◌&&◌, ◌||◌, filter, sum_by, is_some}
use Rattle.std.specs.List.{AllByRecursion}
use Rattle.std.proofs.lemmas.Bool.Decides.{nat_tests}
use Rattle.std.proofs.lemmas.List.{length-map}
use Rattle.std.proofs.lemmas.List.Sums.{length-filter, sum_by-cons}
use Rattle.open_items.specs.Numbers.{has_any}
use Rattle.open_items.proofs.Counted.{numbers_passing}
use Rattle.open_items.proofs.Filtered.{all_both, all_each, all_push, all_weaker, count_by-map-le}
use Rattle.publish_path.specs.Journal.{Fate, fate_of, is_to_come, is_to_go, is_undecided, numbers_of, takes_up}
use Rattle.publish_path.specs.Kept.{number_of}
use Rattle.publish_path.specs.Offers as offers
use Rattle.publish_path.specs.Offers.{held_bytes, held_count}
use Rattle.publish_path.specs.Publishes.{ConfirmSent, FrameSent, LinesTold, LinkGone, OutcomeCame, PublishEvent, PublishState, ReturnSent, TakenUp}
use Rattle.publish_path.specs.Publishes.{after_event, after_events, changed, confirmed, framed, has_no_outcome, is_open, link_lost, new_publish}
use Rattle.publish_path.specs.Publishes.{next_number, reported, returned, told}
use Rattle.publish_path.specs.declared.changes.Change.{Change}
use Rattle.publish_path.specs.declared.changes.Change.TheVariants.{Confirmed, Framed, LinkLost, Reported, Returned, Told}
use Rattle.publish_path.specs.declared.publish.Publish.{Publish}
use Rattle.publish_path.proofs.Keeping.{follows, numbers_kept, to_do_comes}
use Rattle.publish_path.proofs.Matching.{BackIs, Matches, sending_test, undecided_test}
use Rattle.publish_path.proofs.Steps.{add_count, held_before, held_seen}
use Rattle.gate_model.specs.Holding.{held_by, is_held, number_held, size_by, size_held}

-- ---- one publish

back_is : (x : Bool) (back : List (List ℕ)) (returning : Bool) (all : List (List ℕ)) (returns : Bool) (went : ℕ) → BackIs x back returning all returns went
    → (x && has_any back) ≡ (x && has_any all)
back_is true back returning all returns went m = ap has_any m.0
back_is false back returning all returns went m = refl

held_test : (p : Publish) (f : Fate) → Matches p f → offers.is_held p ≡ is_held f
held_test p f m =
    ap (λ (b : Bool). b || (has_no_outcome p.answer && has_any p.back)) (sending_test p f m)
    ∙ ap (λ (b : Bool). is_to_go f || b)
    (back_is (has_no_outcome p.answer) p.back p.returning f.back f.returns f.returned m.back ∙ ap (λ (b : Bool). b && has_any f.back) (undecided_test p f m))

-- something of one without an outcome is to come
pub undecided_comes : (f : Fate) → is_undecided f ≡ true → is_to_come f ≡ true
undecided_comes f e = to_do_comes f (by f.answered (not (is_some f.confirm)) f.outcome e)
  where
    by : (answered x : Bool) (outcome : Option Bool) → (not (is_some outcome) && not answered) ≡ true → not (answered || (x && is_some outcome)) ≡ true
    by true x None e = absurd cc
    by answered x (Some a) e = absurd cc
    by false true None e = refl
    by false false None e = refl

pub to_go_comes : (f : Fate) → is_to_go f ≡ true → is_to_come f ≡ true
to_go_comes f e = by (is_to_go f) _ _ _ e
  where
    by : (a b c d : Bool) → a ≡ true → (a || b || c || d) ≡ true
    by a b c d e = rw e refl

held_comes : (f : Fate) → is_held f ≡ true → is_to_come f ≡ true
held_comes f e = by (is_to_go f) refl (is_undecided f) refl (has_any f.back) e
  where
    by : (a : Bool) → is_to_go f ≡ a → (b : Bool) → is_undecided f ≡ b → (c : Bool) → (a || (b && c)) ≡ true → is_to_come f ≡ true
    by true g b u c e = to_go_comes f g
    by false g true u c e = undecided_comes f u
    by false g false u c e = absurd cc

-- ---- all of them

module _ (life : ℕ) where
  held_numbers : (h : List PublishEvent) → map number_of (filter offers.is_held (after_events life h).list) ≡ held_by h
  held_numbers h =
      numbers_passing number_of Matches is_to_come offers.is_held is_held (λ n. fate_of n h) (numbers_of h) (after_events life h).list held_test held_comes (follows life h)

  pub held_is : (h : List PublishEvent) → held_count (after_events life h).list ≡ number_held h
  held_is h =
      let list : List Publish = (after_events life h).list in
      sym (length-filter offers.is_held list) ∙ sym (length-map (filter offers.is_held list) number_of) ∙ ap (λ (ns : List ℕ). length ns) (held_numbers h)

  -- the bytes of a payload are counted as they came
  abbrev SizeIs : List PublishEvent → Publish → Type 0
  SizeIs h p = p.size ≡ length (fate_of p.number h).payload

  each_size : (f : Publish → Publish) (x : PublishEvent) (h : List PublishEvent) → ((p : Publish) → SizeIs h p → SizeIs (x ∷ h) (f p)) → AllByRecursion (SizeIs h) (after_events life h).list
      → AllByRecursion (SizeIs (x ∷ h)) (filter is_open (map f (after_events life h).list))
  each_size f x h step a = all_each is_open f (SizeIs h) (SizeIs (x ∷ h)) step (after_events life h).list a

  sizes : (h : List PublishEvent) → AllByRecursion (SizeIs h) (after_events life h).list
  sizes [] = tt
  sizes (TakenUp link confirm payload back ∷ h) = all_push (SizeIs (x ∷ h)) s.list y (all_weaker _ (SizeIs (x ∷ h)) old s.list (all_both _ _ s.list (follows life h).within (sizes h))) new
    where
      s : PublishState
      s = after_events life h

      x : PublishEvent
      x = TakenUp link confirm payload back

      y : Publish
      y = new_publish (s.numbers + 1) link (next_number confirm s.confirms) payload back

      old : (p : Publish) → (p.number ≤ numbers_of h) × SizeIs h p → SizeIs (x ∷ h) p
      old p m = let most : p.number ≤ numbers_of h = m.0 in let other : (p.number == numbers_of h + 1) ≡ false = grind (arith, nat_tests, most) in rw other m.1

      new : SizeIs (x ∷ h) y
      new =
          let this : (numbers_of h + 1 == numbers_of h + 1) ≡ true = grind (arith, nat_tests) in
          let at : length payload ≡ length (fate_of (numbers_of h + 1) (x ∷ h)).payload = rw this refl in
          subst (λ (m : ℕ). length payload ≡ length (fate_of (m + 1) (x ∷ h)).payload) (sym (numbers_kept life h)) at
  sizes (FrameSent number first part ∷ h) = each_size (framed number first (after_events life h).next_id (length part)) (FrameSent number first part) h (λ p e. e) (sizes h)
  sizes (OutcomeCame first last outcome ∷ h) = each_size (told first last outcome) (OutcomeCame first last outcome) h (λ p e. e) (sizes h)
  sizes (LinkGone link not_found ∷ h) = each_size (link_lost link not_found) (LinkGone link not_found) h (λ p e. e) (sizes h)
  sizes (ReturnSent number ∷ h) = each_size (returned number) (ReturnSent number) h (λ p e. e) (sizes h)
  sizes (ConfirmSent c ∷ h) = each_size (confirmed c) (ConfirmSent c) h (λ p e. e) (sizes h)
  sizes (LinesTold ∷ h) = each_size reported LinesTold h (λ p e. e) (sizes h)

  summed : (t : ℕ → ℕ) (ps : List Publish) → AllByRecursion (λ (p : Publish). p.size ≡ t p.number) ps
      → sum_by offers.held_size ps ≡ sum_by t (map number_of (filter offers.is_held ps))
  summed t [] a = refl
  summed t (p ∷ ps) a = sum_by-cons offers.held_size p ps ∙ by (offers.is_held p) (summed t ps a.1)
    where
      by : (b : Bool) → sum_by offers.held_size ps ≡ sum_by t (map number_of (filter offers.is_held ps))
          → cond b p.size 0 + sum_by offers.held_size ps ≡ sum_by t (map number_of (cond b (p ∷ filter offers.is_held ps) (filter offers.is_held ps)))
      by true ih =
          ap (λ (n : ℕ). n + sum_by offers.held_size ps) a.0 ∙ ap (λ (n : ℕ). t p.number + n) ih
          ∙ sym (sum_by-cons t p.number (map number_of (filter offers.is_held ps)))
      by false ih = omega (arith, ih)

  pub bytes_is : (h : List PublishEvent) → held_bytes (after_events life h).list ≡ size_held h
  bytes_is h = summed (size_by h) (after_events life h).list (sizes h) ∙ ap (sum_by (size_by h)) (held_numbers h)

-- ---- events

falls_by : (change : Change) (items : List Publish) → held_count (filter is_open (map (changed change) items)) ≤ held_count items
falls_by change items =
    let same : held_count (filter is_open (map (changed change) items)) ≡ held_count (map (changed change) items) = held_seen (map (changed change) items) in
    let less : held_count (map (changed change) items) ≤ held_count items = count_by-map-le offers.is_held (changed change) (held_before change) items in
    omega (arith, same, less)

event_falls : (y : PublishEvent) (s : PublishState) → takes_up y ≡ false → held_count (after_event y s).list ≤ held_count s.list
event_falls (TakenUp link confirm payload back) s e = absurd cc
event_falls (FrameSent number first part) s e = falls_by (Framed number first s.next_id (length part)) s.list
event_falls (OutcomeCame first last outcome) s e = falls_by (Told first last outcome) s.list
event_falls (LinkGone link not_found) s e = falls_by (LinkLost link not_found) s.list
event_falls (ReturnSent number) s e = falls_by (Returned number) s.list
event_falls (ConfirmSent c) s e = falls_by (Confirmed c) s.list
event_falls LinesTold s e = falls_by Reported s.list

abbrev pub NoneTaken : List PublishEvent → Type 0
NoneTaken ys = AllByRecursion (λ (y : PublishEvent). takes_up y ≡ false) ys

pub held_falls : (ys ds : List PublishEvent) → NoneTaken ys → number_held (ys ++ ds) ≤ number_held ds
held_falls [] ds a = omega arith
held_falls (y ∷ ys) ds a =
    let before : number_held (ys ++ ds) ≤ number_held ds = held_falls ys ds a.1 in
    let less : held_count (after_event y (after_events 0 (ys ++ ds))).list ≤ held_count (after_events 0 (ys ++ ds)).list = event_falls y (after_events 0 (ys ++ ds)) a.0 in
    let now : held_count (after_event y (after_events 0 (ys ++ ds))).list ≡ number_held (y ∷ ys ++ ds) = held_is 0 (y ∷ ys ++ ds) in
    let old : held_count (after_events 0 (ys ++ ds)).list ≡ number_held (ys ++ ds) = held_is 0 (ys ++ ds) in
    omega (arith, before, less, now, old)

pub held_adds : (link : ℕ) (confirm : Bool) (payload : List ℕ) (back : List (List ℕ)) (ds : List PublishEvent) → number_held (TakenUp link confirm payload back ∷ ds) ≡ number_held ds + 1
held_adds link confirm payload back ds =
    sym (held_is 0 (TakenUp link confirm payload back ∷ ds)) ∙ add_count (after_events 0 ds).list _ refl ∙ ap (λ (n : ℕ). n + 1) (held_is 0 ds)
