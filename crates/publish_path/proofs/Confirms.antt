-- The confirm that is offered is lawful, and one is offered wherever one is owed.
use Rattle.std.proofs.Common.{◌≡◌, ◌∙◌, ℕ, ◌≤◌, ◌<◌, List, [], ◌∷◌, Bool, true, false}
use Rattle.std.proofs.Common.{refl, sym, ap, subst, arith, Option, Some, None, cond, inl, inr, map, length}
use Rattle.std.specs.Prelude.{not, ◌&&◌, ◌||◌, ◌==◌, find, filter, ◌⊎◌, nat_le, is_some, IfSome}
use Rattle.std.specs.Prelude.{take_while, nat_lt}
use Rattle.open_items.specs.Numbers.{has_any}
use Rattle.std.specs.Option.{option_map}
use Rattle.std.specs.List.{AllByRecursion}
use Rattle.std.proofs.lemmas.Grind.{common_steps}
use Rattle.std.proofs.lemmas.Bool.Decides.{nat_tests}
use Rattle.open_items.proofs.Filtered.{all_filter, all_both}
use Rattle.open_items.proofs.Numbered.{Rising, Has, all_has, has_above, rising_weaker}
use Rattle.open_items.proofs.Numbered.{rising_filter}
use Rattle.publish_path.specs.declared.publish.Publish.{Publish}
use Rattle.publish_path.specs.declared.publish.Confirm.{Confirm}
use Rattle.publish_path.specs.declared.publish.Answer.{Answer}
use Rattle.publish_path.specs.declared.publish.Answer.TheVariants.{Open, Owed, Settled}
use Rattle.publish_path.specs.Publishes.{PublishEvent, TakenUp, FrameSent, OutcomeCame, LinkGone}
use Rattle.publish_path.specs.Publishes.{ConfirmSent, LinesTold, after_events, told}
use Rattle.publish_path.specs.Publishes.{link_lost, confirmed, reported, is_open, is_settled}
use Rattle.publish_path.specs.Publishes.{covers, ReturnSent, returned, has_no_outcome}
use Rattle.publish_path.specs.Offers.{is_owed, is_ack, gives, is_unanswered, number_or, alone}
use Rattle.publish_path.specs.Offers.{run_of, confirm_of, next_confirm_of, is_ready, readies}
use Rattle.publish_path.specs.Journal.{Fate, fate_of, is_done, is_to_return}
use Rattle.publish_path.specs.Laws.{IsUnanswered, IsLawfulConfirm, IsReturned, AreReturned}
use Rattle.publish_path.specs.Searches.{run_from}
use Rattle.publish_path.specs.Kept.{number_of, Above, Climbs}
use Rattle.publish_path.proofs.Ordered.{climbs_map, climbs_filter, climbs_push}
use Rattle.publish_path.proofs.Steps.{run_is}
use Rattle.publish_path.proofs.Matching.{AnswerIs, settled_test, return_test}
use Rattle.publish_path.proofs.Keeping.{follows, Stands, stand, to_do_comes}
use Rattle.publish_path.proofs.Returns.{most}

-- the confirm numbers rise

abbrev confirm_number : Publish → ℕ
confirm_number p = number_or 0 p.confirm

climbs_each : (f : Publish → Publish) → ((p : Publish) → (f p).confirm ≡ p.confirm) → (low high : ℕ) (ps : List Publish) → Climbs low high ps → Climbs low high (filter is_open (map f ps))
climbs_each f same low high ps c = climbs_filter is_open low high (map f ps) (climbs_map f same low high ps c)

climbs : (life : ℕ) (h : List PublishEvent) → Climbs 0 (after_events life h).confirms (after_events life h).list
climbs life [] = omega arith
climbs life (TakenUp link confirm payload back ∷ h) = climbs_push confirm 0 (after_events life h).confirms (after_events life h).list _ refl (climbs life h)
climbs life (FrameSent number first part ∷ h) = climbs_each _ (λ p. refl) 0 _ (after_events life h).list (climbs life h)
climbs life (OutcomeCame first last outcome ∷ h) = climbs_each (told first last outcome) (λ p. refl) 0 _ (after_events life h).list (climbs life h)
climbs life (LinkGone link not_found ∷ h) = climbs_each (link_lost link not_found) (λ p. refl) 0 _ (after_events life h).list (climbs life h)
climbs life (ReturnSent number ∷ h) = climbs_each (returned number) (λ p. refl) 0 _ (after_events life h).list (climbs life h)
climbs life (ConfirmSent c ∷ h) = climbs_each (confirmed c) (λ p. refl) 0 _ (after_events life h).list (climbs life h)
climbs life (LinesTold ∷ h) = climbs_each reported (λ p. refl) 0 _ (after_events life h).list (climbs life h)

-- so do those of the unanswered ones
unanswered_rise : (low high : ℕ) (ps : List Publish) → Climbs low high ps → Rising confirm_number low (filter is_unanswered ps)
unanswered_rise low high [] c = tt
unanswered_rise low high (p ∷ ps) c = by p.confirm (not (is_settled p.answer)) refl c.0 (unanswered_rise (number_or low p.confirm) high ps c.1)
  where
    by : (k : Option ℕ) (b : Bool) → p.confirm ≡ k → Above low k → Rising confirm_number (number_or low k) (filter is_unanswered ps) → Rising confirm_number low (cond (is_some k && b) (p ∷ filter is_unanswered ps) (filter is_unanswered ps))
    by None b e a ih = ih
    by (Some k) true e a ih =
        let same : number_or 0 p.confirm ≡ k = ap (number_or 0) e in
        (subst (λ i. low < i) (sym same) a, subst (λ i. Rising confirm_number i (filter is_unanswered ps)) (sym same) ih)
    by (Some k) false e a ih = rising_weaker confirm_number low k (filter is_unanswered ps) (omega arith) ih

-- what is due in the list

abbrev In : Publish → List Publish → Type 0
In p [] = ⊥
In p (q ∷ qs) = (q ≡ p) ⊎ In p qs

-- the numbers that a confirm covers
abbrev in_tag : Confirm → ℕ → Bool
in_tag c k = k == c.number || (c.multiple && nat_le k c.number)

-- one that it covers is owed what it gives, and nothing of it is to be returned
abbrev IsGiven : Confirm → Publish → Type 0
IsGiven c p = in_tag c (confirm_number p) ≡ true → (p.answer ≡ Owed c.ack) × (has_any p.back ≡ false)

record IsDue (list : List Publish) (c : Confirm) : Type 0 where
  tag : Publish
  within : In tag list
  number : confirm_number tag ≡ c.number
  owed : tag.answer ≡ Owed c.ack
  given : AllByRecursion (IsGiven c) list

owed_is : (answer : Answer) → is_owed answer ≡ true → answer ≡ Owed (is_ack answer)
owed_is Open e = absurd (cc)
owed_is (Owed a) e = refl
owed_is Settled e = absurd (cc)

and_first : (a b : Bool) → (a && b) ≡ true → a ≡ true
and_first true b e = refl
and_first false b e = absurd (cc)

and_not : (a b : Bool) → (a && not b) ≡ true → b ≡ false
and_not true true e = absurd (cc)
and_not true false e = refl
and_not false b e = absurd (cc)

not_given : (c : Confirm) (p : Publish) → in_tag c (confirm_number p) ≡ false → IsGiven c p
not_given c p e is = absurd (grind (arith, common_steps))

above : (low : ℕ) (ps : List Publish) (p : Publish) → Rising confirm_number low ps → In p ps → low < confirm_number p
above low [] p r i = elim i [ ]
above low (q ∷ qs) p r (inl e) = subst (λ (x : Publish). low < confirm_number x) e r.0
above low (q ∷ qs) p r (inr i) = let a = above (confirm_number q) qs p r.1 i in let b = r.0 in omega arith

beyond : (c : Confirm) (k : ℕ) → c.number < k → in_tag c k ≡ false
beyond c k lt = grind (arith, nat_tests, common_steps)

none_given : (c : Confirm) (low : ℕ) (ps : List Publish) → c.number ≤ low → Rising confirm_number low ps → AllByRecursion (IsGiven c) ps
none_given c low [] le r = tt
none_given c low (p ∷ ps) le r =
    let up = r.0 in
    (not_given c p (beyond c (confirm_number p) (omega arith)), none_given c (confirm_number p) ps (omega arith) r.1)

apart : (p : Publish) (k : ℕ) → k < confirm_number p → in_tag (alone p) k ≡ false
apart p k lt = grind (arith, nat_tests, common_steps)

single_due : (low : ℕ) (ps : List Publish) (p : Publish) → Rising confirm_number low ps → find is_ready ps ≡ Some p → IsDue ps (alone p)
single_due low [] p r e = absurd (cc)
single_due low (q ∷ qs) p r e = by (is_ready q) refl (single_due (confirm_number q) qs p r.1) e
  where
    head : is_ready q ≡ true → IsDue (q ∷ qs) (alone q)
    head is =
        let owed : q.answer ≡ Owed (is_ack q.answer) = owed_is q.answer (and_first (is_owed q.answer) _ is) in
        record {
          tag = q;
          within = inl refl;
          number = refl;
          owed = owed;
          given = ((λ _. (owed, and_not (is_owed q.answer) (has_any q.back) is)), none_given (alone q) (confirm_number q) qs (omega arith) r.1);
        }

    by : (b : Bool) → is_ready q ≡ b → (find is_ready qs ≡ Some p → IsDue qs (alone p)) → cond b (Some q) (find is_ready qs) ≡ Some p → IsDue (q ∷ qs) (alone p)
    by true is rec e = let same : q ≡ p = cc in subst (λ x. IsDue (q ∷ qs) (alone x)) same (head is)
    by false is rec e =
        let d : IsDue qs (alone p) = rec e in
        let lt : confirm_number q < confirm_number p = subst (λ i. confirm_number q < i) d.number (above (confirm_number q) qs d.tag r.1 d.within) in
        record { tag = d.tag; within = inr d.within; number = d.number; owed = d.owed; given = (not_given (alone p) q (apart p (confirm_number q) lt), d.given) }

-- what a run has, that began at n
record Runs (n : ℕ) (ack : Bool) (ps : List Publish) (c : Confirm) : Type 0 where
  gave : c.ack ≡ ack
  up : n ≤ c.number
  given : AllByRecursion (IsGiven c) ps
  tag : (c.number ≡ n) ⊎ ((p : Publish) × In p ps × (confirm_number p ≡ c.number) × (p.answer ≡ Owed ack))

gives_is : (ack : Bool) (answer : Answer) → gives ack answer ≡ true → answer ≡ Owed ack
gives_is ack Open e = absurd (cc)
gives_is true (Owed true) e = refl
gives_is true (Owed false) e = absurd (cc)
gives_is false (Owed true) e = absurd (cc)
gives_is false (Owed false) e = refl
gives_is ack Settled e = absurd (cc)

run_runs : (n : ℕ) (m ack : Bool) (ps : List Publish) → Rising confirm_number n ps → Runs n ack ps (run_from n m ack ps)
run_runs n m ack [] r = record { gave = refl; up = omega arith; given = tt; tag = inl refl }
run_runs n m ack (p ∷ ps) r = by (readies ack p) refl (run_runs (confirm_number p) true ack ps r.1)
  where
    by : (b : Bool) → readies ack p ≡ b → Runs (confirm_number p) ack ps (run_from (confirm_number p) true ack ps) → Runs n ack (p ∷ ps) (cond b (run_from (confirm_number p) true ack ps) (record { number = n; multiple = m; ack = ack }))
    by true g next =
        let is : p.answer ≡ Owed ack = gives_is ack p.answer (and_first (gives ack p.answer) _ g) in
        let low = r.0 in
        let up = next.up in
        record {
          gave = next.gave;
          up = omega arith;
          given = ((λ _. (is ∙ ap Owed (sym next.gave), and_not (gives ack p.answer) (has_any p.back) g)), next.given);
          tag = inr (elim next.tag [ inl e ↦ (p, inl refl, sym e, is) | inr t ↦ (t.0, inr t.1, t.2, t.3) ]);
        }
    by false g next = record {
      gave = refl;
      up = omega arith;
      given = none_given _ n (p ∷ ps) (omega arith) r;
      tag = inl refl;
    }

confirm_due : (us : List Publish) (c : Confirm) → Rising confirm_number 0 us → confirm_of us ≡ Some c → IsDue us c
confirm_due [] c r e = absurd (cc)
confirm_due (q ∷ qs) c r e = by (is_owed q.answer) (has_any q.back) refl refl e
  where
    run : is_owed q.answer ≡ true → has_any q.back ≡ false → IsDue (q ∷ qs) (run_from (confirm_number q) false (is_ack q.answer) qs)
    run o none =
        let s = run_runs (confirm_number q) false (is_ack q.answer) qs r.1 in
        let is : q.answer ≡ Owed (is_ack q.answer) = owed_is q.answer o in
        let here = is ∙ ap Owed (sym s.gave) in
        elim s.tag [
          | inl e ↦ record { tag = q; within = inl refl; number = sym e; owed = here; given = ((λ _. (here, none)), s.given) }
          | inr t ↦ record { tag = t.0; within = inr t.1; number = t.2; owed = t.3 ∙ ap Owed (sym s.gave); given = ((λ _. (here, none)), s.given) }
        ]

    single : (o : Option Publish) → find is_ready qs ≡ o → option_map alone o ≡ Some c → IsDue (q ∷ qs) c
    single None f e = absurd (cc)
    single (Some p) f e =
        let d : IsDue qs (alone p) = single_due (confirm_number q) qs p r.1 f in
        let lt : confirm_number q < confirm_number p = subst (λ i. confirm_number q < i) d.number (above (confirm_number q) qs d.tag r.1 d.within) in
        let same : alone p ≡ c = cc in
        subst (IsDue (q ∷ qs)) same (record { tag = d.tag; within = inr d.within; number = d.number; owed = d.owed; given = (not_given (alone p) q (apart p (confirm_number q) lt), d.given) })

    by : (b waits : Bool) → is_owed q.answer ≡ b → has_any q.back ≡ waits → cond b (cond waits None (Some (run_of q (take_while (readies (is_ack q.answer)) qs)))) (option_map alone (find is_ready qs)) ≡ Some c → IsDue (q ∷ qs) c
    by true true o w e = absurd (cc)
    by true false o w e = let same : run_of q (take_while (readies (is_ack q.answer)) qs) ≡ c = cc in subst (IsDue (q ∷ qs)) (sym (run_is q qs) ∙ same) (run o w)
    by false waits o w e = single (find is_ready qs) refl e

-- from the list to the journal

all_in : (P : Publish → Type 0) (ps : List Publish) (p : Publish) → AllByRecursion P ps → In p ps → P p
all_in P [] p a i = elim i [ ]
all_in P (q ∷ qs) p a (inl e) = subst P e a.0
all_in P (q ∷ qs) p a (inr i) = all_in P qs p a.1 i

all_passing : (t : Publish → Bool) (ps : List Publish) → AllByRecursion (λ p. t p ≡ true) (filter t ps)
all_passing t [] = tt
all_passing t (p ∷ ps) = by (t p) refl (all_passing t ps)
  where
    by : (b : Bool) → t p ≡ b → AllByRecursion (λ p. t p ≡ true) (filter t ps) → AllByRecursion (λ p. t p ≡ true) (cond b (p ∷ filter t ps) (filter t ps))
    by true e ih = (e, ih)
    by false e ih = ih

-- what each that passes has
all_unfiltered : (P : Publish → Type 0) (t : Publish → Bool) (ps : List Publish) → AllByRecursion P (filter t ps) → AllByRecursion (λ p. t p ≡ true → P p) ps
all_unfiltered P t [] a = tt
all_unfiltered P t (p ∷ ps) a = by (t p) refl a (λ b. all_unfiltered P t ps b)
  where
    by : (b : Bool) → t p ≡ b → AllByRecursion P (cond b (p ∷ filter t ps) (filter t ps)) → (AllByRecursion P (filter t ps) → AllByRecursion (λ p. t p ≡ true → P p) ps) → (t p ≡ true → P p) × AllByRecursion (λ p. t p ≡ true → P p) ps
    by true e a rec = ((λ _. a.0), rec a.1)
    by false e a rec = ((λ is. absurd (cc)), rec a)

owed_fate : (answer : Answer) (confirm : Option ℕ) (answered : Bool) (outcome : Option Bool) (cut a : Bool) → AnswerIs answer confirm answered outcome cut → answer ≡ Owed a → (answered ≡ false) × (outcome ≡ Some a)
owed_fate Open confirm answered outcome cut a m e = absurd (cc)
owed_fate (Owed b) confirm answered outcome cut a m e = (m.0, cc)
owed_fate Settled confirm answered outcome cut a m e = absurd (cc)

some_is : (k : Option ℕ) → is_some k ≡ true → k ≡ Some (number_or 0 k)
some_is None e = absurd (cc)
some_is (Some k) e = refl

to_do : (f : Fate) → is_some f.confirm ≡ true → f.answered ≡ false → is_done f ≡ false
to_do f some answered = rw (answered, some) refl

-- an unanswered number is in the list, and unanswered there
unanswered_has : (life : ℕ) (h : List PublishEvent) (n : ℕ) → IsUnanswered h n → Has number_of n (after_events life h).list
unanswered_has life h n u = (follows life h).complete n u.0.0 u.0.1 (to_do_comes (fate_of n h) (ap not (to_do (fate_of n h) u.1 u.2)))

unanswered_there : (h : List PublishEvent) (n : ℕ) (p : Publish) → p.number ≡ n → Stands h p → IsUnanswered h n → is_unanswered p ≡ true
unanswered_there h n p e s u =
    let some : is_some p.confirm ≡ true = ap is_some s.matches.confirm ∙ ap (λ i. is_some (fate_of i h).confirm) e ∙ u.1 in
    let open_still : is_settled p.answer ≡ false = settled_test p (fate_of p.number h) s.matches ∙ ap (λ i. is_done (fate_of i h)) e ∙ to_do (fate_of n h) u.1 u.2 in
    rw (some, open_still) refl

-- whose return isn't due has gone, where it is returned
all_went : (f : Fate) → f.returned ≤ length f.back → is_to_return f ≡ false → IsReturned f
all_went f le none returns = by f.returned (length f.back) le (sym (ap (λ b. b && nat_lt f.returned (length f.back)) returns) ∙ none)
  where
    by : (k m : ℕ) → k ≤ m → nat_lt k m ≡ false → k ≡ m
    by k m le e = grind (arith, nat_tests)

none_left : (f : Fate) → IsReturned f → is_to_return f ≡ false
none_left f all = by f.returns f.returned (length f.back) all
  where
    by : (b : Bool) (k m : ℕ) → (b ≡ true → k ≡ m) → (b && nat_lt k m) ≡ false
    by true k m e = let same : k ≡ m = e refl in grind (arith, nat_tests)
    by false k m e = refl

and_false : (b : Bool) → (b && false) ≡ false
and_false true = refl
and_false false = refl

covers_is : (c : Confirm) (k : Option ℕ) → covers c k ≡ true → in_tag c (number_or 0 k) ≡ true
covers_is c None e = absurd (cc)
covers_is c (Some k) e = e

lawful_from : (life : ℕ) (h : List PublishEvent) (c : Confirm) → IsDue (filter is_unanswered (after_events life h).list) c → IsLawfulConfirm h c
lawful_from life h c d = record {
  named =
      let s : Stands h d.tag = all_in (Stands h) _ d.tag (all_filter is_unanswered (Stands h) (after_events life h).list (stand life h)) d.within in
      let un : is_unanswered d.tag ≡ true = all_in (λ p. is_unanswered p ≡ true) _ d.tag (all_passing is_unanswered (after_events life h).list) d.within in
      let some : is_some d.tag.confirm ≡ true = and_first (is_some d.tag.confirm) _ un in
      let f = owed_fate d.tag.answer d.tag.confirm _ _ _ c.ack s.matches.answer d.owed in
      (d.tag.number, ((s.positive, s.taken), ap is_some (sym s.matches.confirm) ∙ some, f.0), sym s.matches.confirm ∙ some_is d.tag.confirm some ∙ ap Some d.number);
  covered = λ n u inside.
      let given = all_unfiltered (IsGiven c) is_unanswered (after_events life h).list d.given in
      let at = all_has number_of (λ p. Stands h p × (is_unanswered p ≡ true → IsGiven c p)) n (after_events life h).list (all_both _ _ (after_events life h).list (stand life h) given) (unanswered_has life h n u) in
      covered_outcome n at.0 at.1 at.2.0 at.2.1 u inside;
}
  where
    covered_outcome : (n : ℕ) (p : Publish) → p.number ≡ n → Stands h p → (is_unanswered p ≡ true → IsGiven c p) → IsUnanswered h n → covers c (fate_of n h).confirm ≡ true → ((fate_of n h).outcome ≡ Some c.ack) × IsReturned (fate_of n h)
    covered_outcome n p e s given u inside =
        let here : covers c p.confirm ≡ true = ap (covers c) (s.matches.confirm ∙ ap (λ i. (fate_of i h).confirm) e) ∙ inside in
        let is = given (unanswered_there h n p e s u) (covers_is c p.confirm here) in
        let none : is_to_return (fate_of p.number h) ≡ false = sym (return_test p (fate_of p.number h) s.matches) ∙ ap (λ b. not (has_no_outcome p.answer) && b) is.1 ∙ and_false _ in (
          ap (λ i. (fate_of i h).outcome) (sym e) ∙ (owed_fate p.answer p.confirm _ _ _ c.ack s.matches.answer is.0).1,
          subst (λ i. IsReturned (fate_of i h)) e (all_went (fate_of p.number h) (most p.number h) none),
        )

pub confirm_is_lawful : (life : ℕ) (h : List PublishEvent) → IfSome (next_confirm_of (after_events life h).list) (IsLawfulConfirm h)
confirm_is_lawful life h = by (next_confirm_of (after_events life h).list) refl
  where
    by : (o : Option Confirm) → next_confirm_of (after_events life h).list ≡ o → IfSome o (IsLawfulConfirm h)
    by None e = tt
    by (Some c) e = lawful_from life h c (confirm_due _ c (unanswered_rise 0 _ (after_events life h).list (climbs life h)) e)

-- one is offered wherever one is owed

has_kept : (t : Publish → Bool) (P : Publish → Type 0) (n : ℕ) → ((p : Publish) → P p → p.number ≡ n → t p ≡ true) → (ps : List Publish) → AllByRecursion P ps → Has number_of n ps → Has number_of n (filter t ps)
has_kept t P n passes [] a has = has
has_kept t P n passes (p ∷ ps) a (inl e) = subst (λ b. Has number_of n (cond b (p ∷ filter t ps) (filter t ps))) (sym (passes p a.0 e)) (inl e)
has_kept t P n passes (p ∷ ps) a (inr has) = by (t p) (has_kept t P n passes ps a.1 has)
  where
    by : (b : Bool) → Has number_of n (filter t ps) → Has number_of n (cond b (p ∷ filter t ps) (filter t ps))
    by true ih = inr ih
    by false ih = ih

-- the one with number n is owed a confirm, and none up to it is to be returned
record Clears (n : ℕ) (p : Publish) : Type 0 where
  owed : p.number ≡ n → is_owed p.answer ≡ true
  clear : is_owed p.answer ≡ true → p.number ≤ n → has_any p.back ≡ false

ready_found : (n : ℕ) (ps : List Publish) → AllByRecursion (Clears n) ps → Has number_of n ps → is_some (option_map alone (find is_ready ps)) ≡ true
ready_found n [] a has = elim has [ ]
ready_found n (p ∷ ps) a (inl e) = let owed : is_owed p.answer ≡ true = a.0.owed e in rw (owed, a.0.clear owed (omega arith)) refl
ready_found n (p ∷ ps) a (inr has) = by (is_ready p) (ready_found n ps a.1 has)
  where
    by : (b : Bool) → is_some (option_map alone (find is_ready ps)) ≡ true → is_some (option_map alone (cond b (Some p) (find is_ready ps))) ≡ true
    by true ih = refl
    by false ih = ih

is_offered : (n : ℕ) (us : List Publish) → Rising number_of 0 us → AllByRecursion (Clears n) us → Has number_of n us → is_some (confirm_of us) ≡ true
is_offered n [] r a has = elim has [ ]
is_offered n (p ∷ ps) r a has = by (is_owed p.answer) refl has
  where
    below : Has number_of n (p ∷ ps) → p.number ≤ n
    below (inl e) = omega arith
    below (inr later) = let up = has_above number_of p.number ps n r.1 later in omega arith

    by : (b : Bool) → is_owed p.answer ≡ b → Has number_of n (p ∷ ps) → is_some (cond b (cond (has_any p.back) None (Some (run_of p (take_while (readies (is_ack p.answer)) ps)))) (option_map alone (find is_ready ps))) ≡ true
    by true o at = rw (a.0.clear o (below at)) refl
    by false o (inl e) = absurd (let owed : is_owed p.answer ≡ true = a.0.owed e in cc)
    by false o (inr later) = ready_found n ps a.1 later

decided_owed : (answer : Answer) (confirm : Option ℕ) (answered : Bool) (outcome : Option Bool) (cut : Bool) → AnswerIs answer confirm answered outcome cut → is_settled answer ≡ false → is_some outcome ≡ true → is_owed answer ≡ true
decided_owed Open confirm answered outcome cut m open_still some = absurd (let none : is_some outcome ≡ false = ap is_some m.1 in cc)
decided_owed (Owed a) confirm answered outcome cut m open_still some = refl
decided_owed Settled confirm answered outcome cut m open_still some = absurd (cc)

pub confirm_is_offered : (life : ℕ) (h : List PublishEvent) (n : ℕ) → IsUnanswered h n → is_some (fate_of n h).outcome ≡ true → AreReturned h n → is_some (next_confirm_of (after_events life h).list) ≡ true
confirm_is_offered life h n u decided are =
    is_offered n us (rising_filter number_of is_unanswered 0 list (follows life h).rising)
    (clears us (all_filter is_unanswered (Stands h) list (stand life h)) (all_passing is_unanswered list))
    (has_kept is_unanswered (Stands h) n (λ p s e. unanswered_there h n p e s u) list (stand life h) (unanswered_has life h n u))
  where
    list : List Publish
    list = (after_events life h).list

    us : List Publish
    us = filter is_unanswered list

    clear : (p : Publish) → Stands h p → is_unanswered p ≡ true → is_owed p.answer ≡ true → p.number ≤ n → has_any p.back ≡ false
    clear p s un o le =
        let f = fate_of p.number h in
        let is : p.answer ≡ Owed (is_ack p.answer) = owed_is p.answer o in
        let fate = owed_fate p.answer p.confirm _ _ _ (is_ack p.answer) s.matches.answer is in
        let here : IsUnanswered h p.number = ((s.positive, s.taken), ap is_some (sym s.matches.confirm) ∙ and_first (is_some p.confirm) _ un, fate.0) in
        ap (λ answer. not (has_no_outcome answer) && has_any p.back) (sym is) ∙ return_test p f s.matches ∙ none_left f (are p.number le here)

    owed : (p : Publish) → Stands h p → p.number ≡ n → is_owed p.answer ≡ true
    owed p s e =
        let open_still : is_settled p.answer ≡ false = settled_test p (fate_of p.number h) s.matches ∙ ap (λ i. is_done (fate_of i h)) e ∙ to_do (fate_of n h) u.1 u.2 in
        decided_owed p.answer p.confirm _ _ _ s.matches.answer open_still (ap (λ i. is_some (fate_of i h).outcome) e ∙ decided)

    clears : (ps : List Publish) → AllByRecursion (Stands h) ps → AllByRecursion (λ p. is_unanswered p ≡ true) ps → AllByRecursion (Clears n) ps
    clears [] a b = tt
    clears (p ∷ ps) a b = (record { owed = owed p a.0; clear = clear p a.0 b.0 }, clears ps a.1 b.1)
