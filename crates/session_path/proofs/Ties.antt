-- The links of a session, their handles and their credit stay tied by each step.
use Rattle.std.proofs.Common.{◌≡◌, ◌∙◌, ℕ, ◌+◌, ◌<◌, ◌≤◌, ◌≢◌, List, [], ◌∷◌, Bool, true, false}
use Rattle.std.proofs.Common.{Option, Some, None, map, refl, sym, subst, ap, arith, cond, length}
use Rattle.std.proofs.Common.{get_or, inl, inr}
use Rattle.std.specs.Prelude.{◌⊎◌, IfSome, nat_le, filter, find, not, ◌||◌, ◌&&◌, ◌==◌, position}
use Rattle.std.specs.List.{AllByRecursion}
use Rattle.std.proofs.lemmas.Bool.{cases_lt}
use Rattle.std.proofs.lemmas.Bool.Decides.{nat_tests}
use Rattle.std.proofs.lemmas.List.{get_or-set_same, get_or-set_other, get_or_past}
use Rattle.std.proofs.lemmas.List.Quantifiers.{position-Some}
use Rattle.open_items.proofs.Filtered.{all_map, all_filter, all_weaker, all_both, all_find}
use Rattle.link_table.specs.declared.handles.HandleState.{HandleState}
use Rattle.link_table.specs.declared.handles.HandleState.TheVariants.{Free}
use Rattle.link_table.specs.declared.handles.HandleState.TheVariants as state
use Rattle.link_table.specs.Table.{HandleTable, is_asked, is_free, is_unread, is_unsent, up_to}
use Rattle.link_table.specs.Table.{state_of, with_state, with_read, with_sent, free_of}
use Rattle.link_table.specs.Table.{after_attach}
use Rattle.link_table.specs.Table.{after_attached, after_detach_read, after_detach_sent}
use Rattle.publish_path.specs.declared.send_links.SendingLink.{SendingLink}
use Rattle.publish_path.specs.Links.{without, now_attached, flowed, drained, begun_on}
use Rattle.publish_path.specs.Offers.{links_after}
use Rattle.publish_path.specs.declared.publish.NextFrame.{NextFrame}
use Rattle.consume_path.specs.declared.receiving.TransferFault.{TransferFault}
use Rattle.session_path.specs.declared.path.PathLink.{PathLink}
use Rattle.session_path.specs.declared.path.Stage.{Stage}
use Rattle.session_path.specs.declared.path.Stage.TheVariants.{Wanted, Asked, Open, Refused, Left}
use Rattle.session_path.specs.declared.path.Stage.TheVariants.{Given, Failed}
use Rattle.session_path.specs.Links.{told_once, drained_if, told_by, answered, answered_stage}
use Rattle.session_path.specs.Links.{asked_as, attached_if, detached_from, failed_by, given_by}
use Rattle.session_path.specs.Links.{gone_from, has_number, is_asked_as, is_at, is_failed, is_given}
use Rattle.session_path.specs.Links.{is_left, is_left_at, is_parting, is_stage_asked, is_stage_at}
use Rattle.session_path.specs.Links.{is_stage_failed, is_stage_given, is_stage_left, is_stage_open}
use Rattle.session_path.specs.Links.{is_stage_whole, is_to_part, left_by, handle_in, handle_of}
use Rattle.session_path.specs.Links.{put_for, put, Rises, is_one, meets, AreApart, is_whole}
use Rattle.session_path.specs.Links.{is_half, is_given_back, stands, is_kept, AreTied}

pub eq_of : (m n : ℕ) → (m == n) ≡ true → m ≡ n
eq_of m n e = grind (arith, nat_tests)

pub eq_to : (m n : ℕ) → m ≡ n → (m == n) ≡ true
eq_to m n e = grind (arith, nat_tests)

pub ne_to : (m n : ℕ) → m ≢ n → (m == n) ≡ false
ne_to m n e = grind (arith, nat_tests)

pub no_clash : (b : Bool) → b ≡ true → b ≡ false → ⊥
no_clash b t f = absurd (cc)

every : {X : Type 0} (P : X → Type 0) → ((x : X) → P x) → (xs : List X) → AllByRecursion P xs
every P f [] = tt
every P f (x ∷ xs) = (f x, every P f xs)

-- what is found passes
pub found_passes : (p : PathLink → Bool) (ls : List PathLink) (l : PathLink) → find p ls ≡ Some l → p l ≡ true
found_passes p ls l e = (all_find (λ k. Unit {0}) p ls l (every _ (λ k. tt) ls) e).1

-- numbers

pub rises_put : (n : ℕ) (x : PathLink) (ls : List PathLink) → Rises n ls → Rises n (put x ls)
rises_put n x [] r = tt
rises_put n x (l ∷ ls) r = by (l.link == x.link) refl (rises_put (l.link + 1) x ls r.1)
  where
    by : (b : Bool) → (l.link == x.link) ≡ b → Rises (l.link + 1) (put x ls) → Rises n (cond b x l ∷ put x ls)
    by true e ih = let s = eq_of l.link x.link e in (subst (λ k. n ≤ k) s r.0, subst (λ k. Rises (k + 1) (put x ls)) s ih)
    by false e ih = (r.0, ih)

pub rises_lower : (m n : ℕ) (ls : List PathLink) → m ≤ n → Rises n ls → Rises m ls
rises_lower m n [] le r = tt
rises_lower m n (l ∷ ls) le r = (let a = r.0 in omega arith, r.1)

pub rises_filter : (o : PathLink → Bool) (n : ℕ) (ls : List PathLink) → Rises n ls → Rises n (filter o ls)
rises_filter o n [] r = tt
rises_filter o n (l ∷ ls) r = by (o l) (rises_filter o (l.link + 1) ls r.1)
  where
    by : (b : Bool) → Rises (l.link + 1) (filter o ls) → Rises n (cond b (l ∷ filter o ls) (filter o ls))
    by true ih = (r.0, ih)
    by false ih = rises_lower n (l.link + 1) (filter o ls) (let a = r.0 in omega arith) ih

pub rises_above : (n : ℕ) (ls : List PathLink) → Rises n ls → AllByRecursion (λ k. n ≤ k.link) ls
rises_above n [] r = tt
rises_above n (l ∷ ls) r = (r.0, all_weaker (λ k. l.link + 1 ≤ k.link) (λ k. n ≤ k.link) (λ k h. let a = r.0 in omega arith) ls (rises_above (l.link + 1) ls r.1))

-- none is found whose number none has
pub none_at : (n : ℕ) (ls : List PathLink) → AllByRecursion (λ k. (k.link == n) ≡ false) ls → find (has_number n) ls ≡ None
none_at n [] a = refl
none_at n (l ∷ ls) a = ap (λ b. cond b (Some l) (find (has_number n) ls)) a.0 ∙ none_at n ls a.1

-- each is found by its number
pub numbers_found : (m : ℕ) (ls : List PathLink) → Rises m ls → AllByRecursion (λ k. find (has_number k.link) ls ≡ Some k) ls
numbers_found m [] r = tt
numbers_found m (l ∷ ls) r = (
  ap (λ b. cond b (Some l) (find (has_number l.link) ls)) (eq_to l.link l.link refl),
  all_weaker (λ k. (l.link + 1 ≤ k.link) × (find (has_number k.link) ls ≡ Some k)) _
      (λ k h. ap (λ b. cond b (Some l) (find (has_number k.link) ls)) (ne_to l.link k.link (λ s. let a = h.0 in omega arith)) ∙ h.1) ls
      (all_both _ _ ls (rises_above (l.link + 1) ls r.1) (numbers_found (l.link + 1) ls r.1)),
)

pub found_number : (p : PathLink → Bool) (ls : List PathLink) (l : PathLink) → Rises 0 ls → find p ls ≡ Some l → find (has_number l.link) ls ≡ Some l
found_number p ls l r e = (all_find (λ k. find (has_number k.link) ls ≡ Some k) p ls l (numbers_found 0 ls r) e).0

pub found_there : (p : PathLink → Bool) (ls : List PathLink) (o : Option PathLink) → Rises 0 ls → find p ls ≡ o → IfSome o (λ l. find (has_number l.link) ls ≡ Some l)
found_there p ls None r e = tt
found_there p ls (Some l) r e = found_number p ls l r e

-- no other has the number of the one that is found
pub unique : (p : PathLink → Bool) (ls : List PathLink) (l : PathLink) → Rises 0 ls → find p ls ≡ Some l → AllByRecursion (λ k. (k.link == l.link) ≡ true → k ≡ l) ls
unique p ls l r e = all_weaker (λ k. find (has_number k.link) ls ≡ Some k) _ (λ k f same. one k (sym f ∙ (ap (λ n. find (has_number n) ls) (eq_of k.link l.link same) ∙ found_number p ls l r e))) ls (numbers_found 0 ls r)
  where
    one : (k : PathLink) → Some k ≡ Some l → k ≡ l
    one k s = cc

-- all but the link with this number
abbrev pub dropped : ℕ → List PathLink → List PathLink
dropped n ls = filter (λ k. not (has_number n k)) ls

-- handles

-- what passes a test that a wanted link doesn't has a handle
handle_some : (p : Stage → Bool) → p Wanted ≡ false → (s : Stage) → p s ≡ true → handle_in s ≡ Some (handle_of s)
handle_some p never Wanted e = absurd (no_clash (p Wanted) e never)
handle_some p never (Asked h) e = refl
handle_some p never (Open h) e = refl
handle_some p never (Refused h) e = refl
handle_some p never (Left h) e = refl
handle_some p never (Given h) e = refl
handle_some p never (Failed h fault) e = refl

one_sym : (a b : Option ℕ) → is_one a b ≡ false → is_one b a ≡ false
one_sym None None e = refl
one_sym None (Some k) e = refl
one_sym (Some h) None e = refl
one_sym (Some h) (Some k) e = ne_to k h (λ s. no_clash (h == k) (eq_to h k (sym s)) e)

-- another link than the one that is found has another handle
pub apart_from : (p : PathLink → Bool) (ls : List PathLink) (l : PathLink) → find p ls ≡ Some l → AreApart ls
    → AllByRecursion (λ k. (k.link == l.link) ≡ false → meets l k ≡ false) ls
apart_from p [] l e a = tt
apart_from p (y ∷ ys) l e a = by (p y) refl (λ f. apart_from p ys l f a.1) e
  where
    by : (b : Bool) → p y ≡ b → (find p ys ≡ Some l → AllByRecursion (λ k. (k.link == l.link) ≡ false → meets l k ≡ false) ys) → cond b (Some y) (find p ys) ≡ Some l → AllByRecursion (λ k. (k.link == l.link) ≡ false → meets l k ≡ false) (y ∷ ys)
    by true is ih e =
        let same : y ≡ l = cc in
        subst (λ z. AllByRecursion (λ k. (k.link == z.link) ≡ false → meets z k ≡ false) (y ∷ ys)) same
        ((λ no. absurd (no_clash (y.link == y.link) (eq_to y.link y.link refl) no)), all_weaker (λ k. meets y k ≡ false) _ (λ k h no. h) ys a.0)
    by false is ih e = ((λ no. one_sym (handle_in y.stage) (handle_in l.stage) (all_find (λ k. meets y k ≡ false) p ys l a.0 e).0), ih e)

-- nor has it this one's
others_apart : (p : PathLink → Bool) (ls : List PathLink) (l : PathLink) (h : ℕ) → find p ls ≡ Some l → AreApart ls → handle_in l.stage ≡ Some h
    → AllByRecursion (λ k. (k.link == l.link) ≡ false → is_one (Some h) (handle_in k.stage) ≡ false) ls
others_apart p ls l h e a has = all_weaker (λ k. (k.link == l.link) ≡ false → meets l k ≡ false) _ (λ k d no. ap (λ o. is_one o (handle_in k.stage)) (sym has) ∙ d no) ls (apart_from p ls l e a)

pub apart_put : (n : ℕ) (x : PathLink) (ls : List PathLink) → Rises n ls → AreApart ls
    → AllByRecursion (λ k. (k.link == x.link) ≡ false → meets x k ≡ false) ls → AreApart (put x ls)
apart_put n x [] r a d = tt
apart_put n x (l ∷ ls) r a d = by (l.link == x.link) refl (apart_put (l.link + 1) x ls r.1 a.1 d.1)
  where
    one : (k : PathLink) (b : Bool) → (k.link == x.link) ≡ b → l.link ≡ x.link → l.link + 1 ≤ k.link → ((k.link == x.link) ≡ false → meets x k ≡ false) → meets x (cond b x k) ≡ false
    one k true e s le h = absurd (let f = eq_of k.link x.link e in omega arith)
    one k false e s le h = h e

    two : (k : PathLink) (b : Bool) → (k.link == x.link) ≡ b → meets l x ≡ false → meets l k ≡ false → meets l (cond b x k) ≡ false
    two k true e with_x h = with_x
    two k false e with_x h = h

    by : (b : Bool) → (l.link == x.link) ≡ b → AreApart (put x ls) → AreApart (cond b x l ∷ put x ls)
    by true e ih = (
      all_map (put_for x) (λ k. (l.link + 1 ≤ k.link) × ((k.link == x.link) ≡ false → meets x k ≡ false)) (λ k. meets x k ≡ false)
          (λ k h. one k (k.link == x.link) refl (eq_of l.link x.link e) h.0 h.1) ls (all_both _ _ ls (rises_above (l.link + 1) ls r.1) d.1),
      ih,
    )
    by false e ih = (
      all_map (put_for x) (λ k. meets l k ≡ false) (λ k. meets l k ≡ false)
          (λ k h. two k (k.link == x.link) refl (one_sym (handle_in x.stage) (handle_in l.stage) (d.0 e)) h) ls a.0,
      ih,
    )

pub apart_filter : (o : PathLink → Bool) (ls : List PathLink) → AreApart ls → AreApart (filter o ls)
apart_filter o [] a = tt
apart_filter o (l ∷ ls) a = by (o l) (apart_filter o ls a.1)
  where
    by : (b : Bool) → AreApart (filter o ls) → AreApart (cond b (l ∷ filter o ls) (filter o ls))
    by true ih = (all_filter o (λ k. meets l k ≡ false) ls a.0, ih)
    by false ih = ih

-- states of handles

pub state_other : (t : HandleTable) (h k : ℕ) (st : HandleState) → (h == k) ≡ false → state_of (with_state h st t) k ≡ state_of t k
state_other t h k st e = get_or-set_other t.states h k st Free (λ s. no_clash (h == k) (eq_to h k (sym s)) e)

pub state_same : (p : HandleState → Bool) (t : HandleTable) (h : ℕ) (st : HandleState) → p Free ≡ false → p (state_of t h) ≡ true → state_of (with_state h st t) h ≡ st
state_same p t h st free is = elim (cases_lt h (length t.states)) [
  | inl lt ↦ get_or-set_same t.states h st Free lt
  | inr le ↦ absurd (let past : get_or t.states h Free ≡ Free = get_or_past t.states h Free le in let no : p Free ≡ true = subst (λ s. p s ≡ true) past is in cc)
]

pub stands_other : (t : HandleTable) (h : ℕ) (st : HandleState) (s : Stage) → is_one (Some h) (handle_in s) ≡ false → stands t s ≡ true → stands (with_state h st t) s ≡ true
stands_other t h st Wanted e is = refl
stands_other t h st (Asked k) e is = ap is_asked (state_other t h k st e) ∙ is
stands_other t h st (Open k) e is = ap is_whole (state_other t h k st e) ∙ is
stands_other t h st (Refused k) e is = ap is_whole (state_other t h k st e) ∙ is
stands_other t h st (Left k) e is = ap is_half (state_other t h k st e) ∙ is
stands_other t h st (Given k) e is = ap is_given_back (state_other t h k st e) ∙ is
stands_other t h st (Failed k fault) e is = ap is_whole (state_other t h k st e) ∙ is

pub standing_put : (t : HandleTable) (h : ℕ) (st : HandleState) (x : PathLink) (ls : List PathLink)
    → stands (with_state h st t) x.stage ≡ true
    → AllByRecursion (λ k. (k.link == x.link) ≡ false → is_one (Some h) (handle_in k.stage) ≡ false) ls
    → AllByRecursion (λ k. stands t k.stage ≡ true) ls
    → AllByRecursion (λ k. stands (with_state h st t) k.stage ≡ true) (put x ls)
standing_put t h st x ls new apart old =
    all_map (put_for x) (λ k. ((k.link == x.link) ≡ false → is_one (Some h) (handle_in k.stage) ≡ false) × (stands t k.stage ≡ true)) _
    (λ k a. one k (k.link == x.link) refl a.0 a.1) ls (all_both _ _ ls apart old)
  where
    one : (k : PathLink) (b : Bool) → (k.link == x.link) ≡ b → ((k.link == x.link) ≡ false → is_one (Some h) (handle_in k.stage) ≡ false) → stands t k.stage ≡ true → stands (with_state h st t) (cond b x k).stage ≡ true
    one k true e a is = new
    one k false e a is = stands_other t h st k.stage (a e) is

standing_dropped : (t : HandleTable) (h : ℕ) (st : HandleState) (n : ℕ) (ls : List PathLink)
    → AllByRecursion (λ k. (k.link == n) ≡ false → is_one (Some h) (handle_in k.stage) ≡ false) ls
    → AllByRecursion (λ k. stands t k.stage ≡ true) ls
    → AllByRecursion (λ k. stands (with_state h st t) k.stage ≡ true) (dropped n ls)
standing_dropped t h st n [] apart old = tt
standing_dropped t h st n (l ∷ ls) apart old = by (l.link == n) refl (standing_dropped t h st n ls apart.1 old.1)
  where
    by : (b : Bool) → (l.link == n) ≡ b → AllByRecursion (λ k. stands (with_state h st t) k.stage ≡ true) (dropped n ls) → AllByRecursion (λ k. stands (with_state h st t) k.stage ≡ true) (cond (not b) (l ∷ dropped n ls) (dropped n ls))
    by true e ih = ih
    by false e ih = (stands_other t h st l.stage (apart.0 e) old.0, ih)

-- credit

pub or_true : (a b : Bool) → (a || b) ≡ true → (a ≡ true) ⊎ (b ≡ true)
or_true true b e = inl refl
or_true false b e = inr e

pub or_left : (a b : Bool) → a ≡ true → (a || b) ≡ true
or_left a b e = rw e refl

pub or_right : (a b : Bool) → b ≡ true → (a || b) ≡ true
or_right true b e = refl
or_right false b e = e

pub and_left : (a b : Bool) → (a && b) ≡ true → a ≡ true
and_left true b e = refl
and_left false b e = e

pub and_right : (a b : Bool) → (a && b) ≡ true → b ≡ true
and_right true b e = e
and_right false b e = absurd (cc)

pub not_false : (b : Bool) → not b ≡ false → b ≡ true
not_false true e = refl
not_false false e = absurd (cc)

-- a link keeps the credit: by its number, its stage and its role
abbrev pub keeps_as : SendingLink → ℕ → Stage → Bool → Bool
keeps_as s n stage receives = (n == s.link) && not ((is_stage_left stage || is_stage_failed stage) || is_stage_given stage) && not receives

abbrev pub keeps : SendingLink → PathLink → Bool
keeps s k = keeps_as s k.link k.stage k.receives

all_three : (a b c : Bool) → a ≡ true → b ≡ false → c ≡ false → (a && not b && not c) ≡ true
all_three a b c e f g = rw (e, f, g) refl

parting_out : (a b c : Bool) → b ≡ true → (a && not b && not c) ≡ false
parting_out true b c e = rw e refl
parting_out false b c e = refl

receiver_out : (a b c : Bool) → c ≡ true → (a && not b && not c) ≡ false
receiver_out true true c e = refl
receiver_out true false c e = rw e refl
receiver_out false b c e = refl

pub keeps_number : (s : SendingLink) (k : PathLink) → keeps s k ≡ true → k.link ≡ s.link
keeps_number s k e = eq_of k.link s.link (and_left _ _ (and_left _ _ e))

no_receiver : (s : SendingLink) (k : PathLink) → k.receives ≡ true → keeps s k ≡ false
no_receiver s k e = receiver_out (k.link == s.link) (is_parting k) k.receives e

-- where the new link keeps what the one in its place kept
kept_swap : (x : PathLink) (s : SendingLink) (ls : List PathLink) → AllByRecursion (λ k. (k.link == x.link) ≡ true → keeps s k ≡ true → keeps s x ≡ true) ls
    → is_kept ls s ≡ true → is_kept (put x ls) s ≡ true
kept_swap x s [] a e = e
kept_swap x s (l ∷ ls) a e = by (l.link == x.link) refl (kept_swap x s ls a.1) (or_true (keeps s l) (is_kept ls s) e)
  where
    by : (b : Bool) → (l.link == x.link) ≡ b → (is_kept ls s ≡ true → is_kept (put x ls) s ≡ true) → (keeps s l ≡ true) ⊎ (is_kept ls s ≡ true)
        → (keeps s (cond b x l) || is_kept (put x ls) s) ≡ true
    by true f ih (inl h) = or_left _ _ (a.0 f h)
    by false f ih (inl h) = or_left _ _ h
    by b f ih (inr h) = or_right _ _ (ih h)

-- where the new link isn't detached, and has the role of the old one
pub kept_put : (x : PathLink) (sending : List SendingLink) (ls : List PathLink) → is_parting x ≡ false → AllByRecursion (λ k. (k.link == x.link) ≡ true → k.receives ≡ x.receives) ls
    → AllByRecursion (λ s. is_kept ls s ≡ true) sending → AllByRecursion (λ s. is_kept (put x ls) s ≡ true) sending
kept_put x sending ls stays role a =
    all_weaker (λ s. is_kept ls s ≡ true) _ (λ s h. kept_swap x s ls (all_weaker (λ k. (k.link == x.link) ≡ true → k.receives ≡ x.receives) _ (λ k same f kept. one s k f (same f) kept) ls role) h) sending a
  where
    sends : (b : Bool) → not b ≡ true → b ≡ false
    sends true e = absurd (cc)
    sends false e = refl

    one : (s : SendingLink) (k : PathLink) → (k.link == x.link) ≡ true → k.receives ≡ x.receives → keeps s k ≡ true → keeps s x ≡ true
    one s k f same kept =
        all_three (x.link == s.link) (is_parting x) x.receives (eq_to x.link s.link (sym (eq_of k.link x.link f) ∙ keeps_number s k kept)) stays (sym same ∙ sends k.receives (and_right ((k.link == s.link) && not (is_parting k)) (not k.receives) kept))

-- where it is another link's credit
kept_other : (x : PathLink) (s : SendingLink) (ls : List PathLink) → (s.link == x.link) ≡ false → is_kept ls s ≡ true → is_kept (put x ls) s ≡ true
kept_other x s ls ne e = kept_swap x s ls (every _ (λ k f kept. absurd (no_clash (s.link == x.link) (eq_to s.link x.link (sym (keeps_number s k kept) ∙ eq_of k.link x.link f)) ne)) ls) e

pub kept_without : (x : PathLink) (sending : List SendingLink) (ls : List PathLink) → AllByRecursion (λ s. is_kept ls s ≡ true) sending → AllByRecursion (λ s. is_kept (put x ls) s ≡ true) (without x.link sending)
kept_without x [] ls a = tt
kept_without x (s ∷ ss) ls a = by (s.link == x.link) refl (kept_without x ss ls a.1)
  where
    by : (b : Bool) → (s.link == x.link) ≡ b → AllByRecursion (λ s. is_kept (put x ls) s ≡ true) (without x.link ss) → AllByRecursion (λ s. is_kept (put x ls) s ≡ true) (cond (not b) (s ∷ without x.link ss) (without x.link ss))
    by true e ih = ih
    by false e ih = (kept_other x s ls e a.0, ih)

-- where only links that keep no credit are dropped
pub kept_filter : (o : PathLink → Bool) (ls : List PathLink) (s : SendingLink) → AllByRecursion (λ k. o k ≡ false → keeps s k ≡ false) ls → is_kept ls s ≡ true → is_kept (filter o ls) s ≡ true
kept_filter o [] s a e = e
kept_filter o (l ∷ ls) s a e = by (o l) refl (kept_filter o ls s a.1) (or_true (keeps s l) (is_kept ls s) e)
  where
    by : (b : Bool) → o l ≡ b → (is_kept ls s ≡ true → is_kept (filter o ls) s ≡ true) → (keeps s l ≡ true) ⊎ (is_kept ls s ≡ true)
        → is_kept (cond b (l ∷ filter o ls) (filter o ls)) s ≡ true
    by true f ih (inl h) = or_left _ _ h
    by true f ih (inr h) = or_right (keeps s l) _ (ih h)
    by false f ih (inl h) = absurd (no_clash (keeps s l) h (a.0 f))
    by false f ih (inr h) = ih h

-- the steps

-- a link of the same role has the number of the one that is found
same_role : (p : PathLink → Bool) (ls : List PathLink) (l : PathLink) → Rises 0 ls → find p ls ≡ Some l → AllByRecursion (λ k. (k.link == l.link) ≡ true → k.receives ≡ l.receives) ls
same_role p ls l r e = all_weaker (λ k. (k.link == l.link) ≡ true → k ≡ l) _ (λ k only f. ap (λ (z : PathLink). z.receives) (only f)) ls (unique p ls l r e)

-- a link in the place of the one that is found, under its handle
changed_tied : (p : PathLink → Bool) (sending : List SendingLink) (ls : List PathLink) (t : HandleTable) (l x : PathLink)
    → AreTied sending ls t → find p ls ≡ Some l → x.link ≡ l.link → handle_in x.stage ≡ handle_in l.stage → stands t x.stage ≡ true
    → ((s : SendingLink) → keeps s l ≡ true → keeps s x ≡ true) → AreTied sending (put x ls) t
changed_tied p sending ls t l x tied e link handle is keep = record {
  rising = rises_put 0 x ls tied.rising;
  apart = apart_put 0 x ls tied.rising tied.apart
      (all_weaker (λ k. (k.link == l.link) ≡ false → meets l k ≡ false) _ (λ k h no. ap (λ o. is_one o (handle_in k.stage)) handle ∙ h (ap (λ n. k.link == n) (sym link) ∙ no)) ls (apart_from p ls l e tied.apart));
  standing = all_map (put_for x) (λ k. stands t k.stage ≡ true) _ (λ k h. one k (k.link == x.link) h) ls tied.standing;
  kept = all_weaker (λ s. is_kept ls s ≡ true) _ (λ s h. kept_swap x s ls (same s) h) sending tied.kept;
}
  where
    one : (k : PathLink) (b : Bool) → stands t k.stage ≡ true → stands t (cond b x k).stage ≡ true
    one k true h = is
    one k false h = h

    same : (s : SendingLink) → AllByRecursion (λ k. (k.link == x.link) ≡ true → keeps s k ≡ true → keeps s x ≡ true) ls
    same s = all_weaker (λ k. (k.link == l.link) ≡ true → k ≡ l) _ (λ k only f kept. keep s (subst (λ z. keeps s z ≡ true) (only (ap (λ n. k.link == n) (sym link) ∙ f)) kept)) ls (unique p ls l tied.rising e)

-- a link with its stage
pub told_tied : (p : PathLink → Bool) (sending : List SendingLink) (ls : List PathLink) (t : HandleTable) (l x : PathLink)
    → AreTied sending ls t → find p ls ≡ Some l → x.link ≡ l.link → x.stage ≡ l.stage → x.receives ≡ l.receives → AreTied sending (put x ls) t
told_tied p sending ls t l x tied e link stage role =
    changed_tied p sending ls t l x tied e link (ap handle_in stage) (ap (stands t) stage ∙ (all_find (λ k. stands t k.stage ≡ true) p ls l tied.standing e).0)
    (λ s kept. ap (λ n. keeps_as s n x.stage x.receives) link ∙ (ap (λ stage. keeps_as s l.link stage x.receives) stage ∙ (ap (keeps_as s l.link l.stage) role ∙ kept)))

-- a link whose handle's state changes with it
pub moved_tied : (p : PathLink → Bool) (sending sending' : List SendingLink) (ls : List PathLink) (t : HandleTable) (l x : PathLink) (h : ℕ) (st : HandleState)
    → AreTied sending ls t → find p ls ≡ Some l → x.link ≡ l.link → handle_in l.stage ≡ Some h → handle_in x.stage ≡ Some h
    → stands (with_state h st t) x.stage ≡ true
    → AllByRecursion (λ s. is_kept (put x ls) s ≡ true) sending' → AreTied sending' (put x ls) (with_state h st t)
moved_tied p sending sending' ls t l x h st tied e link from to is kept = record {
  rising = rises_put 0 x ls tied.rising;
  apart = apart_put 0 x ls tied.rising tied.apart (all_weaker (λ k. (k.link == x.link) ≡ false → is_one (Some h) (handle_in k.stage) ≡ false) _ (λ k d no. ap (λ o. is_one o (handle_in k.stage)) to ∙ d no) ls other);
  standing = standing_put t h st x ls is other tied.standing;
  kept = kept;
}
  where
    other : AllByRecursion (λ k. (k.link == x.link) ≡ false → is_one (Some h) (handle_in k.stage) ≡ false) ls
    other = subst (λ n. AllByRecursion (λ k. (k.link == n) ≡ false → is_one (Some h) (handle_in k.stage) ≡ false) ls) (sym link) (others_apart p ls l h e tied.apart from)

-- a link that one end detached is dropped
dropped_tied : (p : PathLink → Bool) (sending : List SendingLink) (ls : List PathLink) (t : HandleTable) (l : PathLink) (st : HandleState)
    → AreTied sending ls t → find p ls ≡ Some l → is_parting l ≡ true → AreTied sending (dropped l.link ls) (with_state (handle_of l.stage) st t)
dropped_tied p sending ls t l st tied e is = record {
  rising = rises_filter _ 0 ls tied.rising;
  apart = apart_filter _ ls tied.apart;
  standing = standing_dropped t (handle_of l.stage) st l.link ls
      (others_apart p ls l (handle_of l.stage) e tied.apart (handle_some (λ s. (is_stage_left s || is_stage_failed s) || is_stage_given s) refl l.stage is)) tied.standing;
  kept = all_weaker (λ s. is_kept ls s ≡ true) _ (λ s k. kept_filter (λ k. not (has_number l.link k)) ls s (parting s) k) sending tied.kept;
}
  where
    parting : (s : SendingLink) → AllByRecursion (λ k. not (k.link == l.link) ≡ false → keeps s k ≡ false) ls
    parting s = all_weaker (λ k. (k.link == l.link) ≡ true → k ≡ l) _
        (λ k only f. parting_out (k.link == s.link) (is_parting k) k.receives (ap is_parting (only (not_false (k.link == l.link) f)) ∙ is)) ls (unique p ls l tied.rising e)

-- receiving links are dropped
pub filtered_tied : (o : PathLink → Bool) (sending : List SendingLink) (ls : List PathLink) (t : HandleTable)
    → ((k : PathLink) → o k ≡ false → k.receives ≡ true) → AreTied sending ls t → AreTied sending (filter o ls) t
filtered_tied o sending ls t receives tied = record {
  rising = rises_filter o 0 ls tied.rising;
  apart = apart_filter o ls tied.apart;
  standing = all_filter o (λ k. stands t k.stage ≡ true) ls tied.standing;
  kept = all_weaker (λ s. is_kept ls s ≡ true) _ (λ s h. kept_filter o ls s (every _ (λ k f. no_receiver s k (receives k f)) ls) h) sending tied.kept;
}

free_at : (t : HandleTable) (h : ℕ) → free_of t ≡ Some h → (h < length t.states) × (state_of t h ≡ Free)
free_at t h e = by (position is_free t.states) refl e
  where
    up : (m : ℕ) (b : Bool) → cond b (Some m) None ≡ Some h → m ≡ h
    up m true e = cc
    up m false e = absurd (cc)

    free : (s : HandleState) → is_free s ≡ true → s ≡ Free
    free Free e = refl
    free state.Asked e = absurd (cc)
    free (state.Attached a) e = absurd (cc)

    by : (o : Option ℕ) → position is_free t.states ≡ o → up_to t.most o ≡ Some h → (h < length t.states) × (state_of t h ≡ Free)
    by None is e = absurd (cc)
    by (Some m) is e = let same = up m (nat_le m t.most) e in let found = position-Some is_free t.states m Free is in
        (subst (λ k. k < length t.states) same found.0, subst (λ k. state_of t k ≡ Free) same (free (get_or t.states m Free) found.1))

-- no link has a handle that is free
not_free : (t : HandleTable) (h : ℕ) (s : Stage) → state_of t h ≡ Free → stands t s ≡ true → is_one (Some h) (handle_in s) ≡ false
not_free t h Wanted free is = refl
not_free t h (Asked k) free is = ne_to h k (λ e. let no : is_asked (state_of t k) ≡ false = ap is_asked (ap (state_of t) (sym e) ∙ free) in absurd (cc))
not_free t h (Open k) free is = ne_to h k (λ e. let no : is_whole (state_of t k) ≡ false = ap is_whole (ap (state_of t) (sym e) ∙ free) in absurd (cc))
not_free t h (Refused k) free is = ne_to h k (λ e. let no : is_whole (state_of t k) ≡ false = ap is_whole (ap (state_of t) (sym e) ∙ free) in absurd (cc))
not_free t h (Left k) free is = ne_to h k (λ e. let no : is_half (state_of t k) ≡ false = ap is_half (ap (state_of t) (sym e) ∙ free) in absurd (cc))
not_free t h (Failed k fault) free is = ne_to h k (λ e. let no : is_whole (state_of t k) ≡ false = ap is_whole (ap (state_of t) (sym e) ∙ free) in absurd (cc))
not_free t h (Given k) free is = ne_to h k (λ e. let no : is_given_back (state_of t k) ≡ false = ap is_given_back (ap (state_of t) (sym e) ∙ free) in absurd (cc))

-- the gateway's attach of a link that is wanted
pub asked_tied : (p : PathLink → Bool) (sending : List SendingLink) (ls : List PathLink) (t : HandleTable) (l : PathLink) (h name : ℕ)
    → AreTied sending ls t → find p ls ≡ Some l → free_of t ≡ Some h → AreTied sending (put (asked_as h name l) ls) (after_attach h t)
asked_tied p sending ls t l h name tied f e = record {
  rising = rises_put 0 (asked_as h name l) ls tied.rising;
  apart = apart_put 0 (asked_as h name l) ls tied.rising tied.apart other;
  standing = standing_put t h state.Asked (asked_as h name l) ls (ap is_asked (get_or-set_same t.states h state.Asked Free free.0)) other tied.standing;
  kept = kept_put (asked_as h name l) sending ls refl (same_role p ls l tied.rising f) tied.kept;
}
  where
    free : (h < length t.states) × (state_of t h ≡ Free)
    free = free_at t h e

    other : AllByRecursion (λ k. (k.link == l.link) ≡ false → is_one (Some h) (handle_in k.stage) ≡ false) ls
    other = all_weaker (λ k. stands t k.stage ≡ true) _ (λ k s no. not_free t h k.stage free.1 s) ls tied.standing

-- the container's answers one that was asked for

asked_state : (t : HandleTable) (s : Stage) → is_stage_asked s ≡ true → stands t s ≡ true → is_asked (state_of t (handle_of s)) ≡ true
asked_state t Wanted e is = absurd (cc)
asked_state t (Asked h) e is = is
asked_state t (Open h) e is = absurd (cc)
asked_state t (Refused h) e is = absurd (cc)
asked_state t (Left h) e is = absurd (cc)
asked_state t (Given h) e is = absurd (cc)
asked_state t (Failed h fault) e is = absurd (cc)

pub is_asked_for : (name : ℕ) (role : Bool) (sending : List SendingLink) (ls : List PathLink) (t : HandleTable) (l : PathLink)
    → AreTied sending ls t → find (is_asked_as name role) ls ≡ Some l → is_asked (state_of t (handle_of l.stage)) ≡ true
is_asked_for name role sending ls t l tied e =
    let found = all_find (λ k. stands t k.stage ≡ true) (is_asked_as name role) ls l tied.standing e in
    asked_state t l.stage (and_left _ _ (and_left _ _ found.1)) found.0

now_kept : (there : Bool) (n : ℕ) (sending : List SendingLink) (ls : List PathLink) → AllByRecursion (λ s. is_kept ls s ≡ true) sending → AllByRecursion (λ s. is_kept ls s ≡ true) (attached_if there n sending)
now_kept true n sending ls a = all_map (now_attached n) (λ s. is_kept ls s ≡ true) _ (λ s h. h) sending a
now_kept false n sending ls a = a

pub answered_tied : (name : ℕ) (role : Bool) (peer : ℕ) (there : Bool) (sending : List SendingLink) (ls : List PathLink) (t : HandleTable) (l : PathLink)
    → AreTied sending ls t → find (is_asked_as name role) ls ≡ Some l
    → AreTied (attached_if there l.link sending) (put (answered there l) ls) (after_attached (handle_of l.stage) peer t)
answered_tied name role peer there sending ls t l tied e =
    moved_tied (is_asked_as name role) sending (attached_if there l.link sending) ls t l (answered there l) (handle_of l.stage) _ tied e refl
    (handle_some is_stage_asked refl l.stage (and_left _ _ (and_left _ _ found.1))) (with_handle there) (stands_now there)
    (now_kept there l.link sending (put (answered there l) ls) (kept_put (answered there l) sending ls (stays there) (same_role (is_asked_as name role) ls l tied.rising e) tied.kept))
  where
    found : (stands t l.stage ≡ true) × (is_asked_as name role l ≡ true)
    found = all_find (λ k. stands t k.stage ≡ true) (is_asked_as name role) ls l tied.standing e

    with_handle : (b : Bool) → handle_in (answered_stage b (handle_of l.stage)) ≡ Some (handle_of l.stage)
    with_handle true = refl
    with_handle false = refl

    stays : (b : Bool) → is_parting (answered b l) ≡ false
    stays true = refl
    stays false = refl

    written : state_of (after_attached (handle_of l.stage) peer t) (handle_of l.stage) ≡ state.Attached (record { peer = peer; detach_sent = false; detach_read = false })
    written = state_same is_asked t (handle_of l.stage) _ refl (is_asked_for name role sending ls t l tied e)

    stands_now : (b : Bool) → stands (after_attached (handle_of l.stage) peer t) (answered_stage b (handle_of l.stage)) ≡ true
    stands_now true = ap is_whole written
    stands_now false = ap is_whole written

-- the container detaches a link that both attached

at_whole : (t : HandleTable) (h : ℕ) (s : Stage) → is_stage_at h s ≡ true → is_stage_given s ≡ false → stands t s ≡ true → is_whole (state_of t (handle_of s)) ≡ true
at_whole t h Wanted e not_given is = absurd (cc)
at_whole t h (Asked k) e not_given is = absurd (cc)
at_whole t h (Open k) e not_given is = is
at_whole t h (Refused k) e not_given is = is
at_whole t h (Left k) e not_given is = absurd (cc)
at_whole t h (Given k) e not_given is = absurd (cc)
at_whole t h (Failed k fault) e not_given is = is

given_state : (t : HandleTable) (s : Stage) → is_stage_given s ≡ true → stands t s ≡ true → is_given_back (state_of t (handle_of s)) ≡ true
given_state t Wanted e is = absurd (cc)
given_state t (Asked k) e is = absurd (cc)
given_state t (Open k) e is = absurd (cc)
given_state t (Refused k) e is = absurd (cc)
given_state t (Left k) e is = absurd (cc)
given_state t (Given k) e is = is
given_state t (Failed k fault) e is = absurd (cc)

whole_unread : (s : HandleState) → is_whole s ≡ true → is_unread s ≡ true
whole_unread Free e = absurd (cc)
whole_unread state.Asked e = absurd (cc)
whole_unread (state.Attached a) e = and_right (not a.detach_sent) (not a.detach_read) e

given_unread : (s : HandleState) → is_given_back s ≡ true → is_unread s ≡ true
given_unread Free e = absurd (cc)
given_unread state.Asked e = absurd (cc)
given_unread (state.Attached a) e = and_right a.detach_sent (not a.detach_read) e

pub is_unread_at : (h : ℕ) (sending : List SendingLink) (ls : List PathLink) (t : HandleTable) (l : PathLink)
    → AreTied sending ls t → find (is_at h) ls ≡ Some l → is_unread (state_of t (handle_of l.stage)) ≡ true
is_unread_at h sending ls t l tied e = by (is_given l) refl (all_find (λ k. stands t k.stage ≡ true) (is_at h) ls l tied.standing e)
  where
    by : (b : Bool) → is_given l ≡ b → (stands t l.stage ≡ true) × (is_at h l ≡ true) → is_unread (state_of t (handle_of l.stage)) ≡ true
    by true given found = given_unread (state_of t (handle_of l.stage)) (given_state t l.stage given found.0)
    by false given found = whole_unread (state_of t (handle_of l.stage)) (at_whole t h l.stage found.1 given found.0)

read_half : (s : HandleState) → is_whole s ≡ true → is_half (with_read s) ≡ true
read_half Free e = absurd (cc)
read_half state.Asked e = absurd (cc)
read_half (state.Attached a) e = by a.detach_sent e
  where
    by : (b : Bool) → (not b && not a.detach_read) ≡ true → is_half (cond (b && true) Free (state.Attached (record a { detach_sent = b; detach_read = true }))) ≡ true
    by true e = absurd (cc)
    by false e = refl

pub detached_tied : (h : ℕ) (sending : List SendingLink) (ls : List PathLink) (t : HandleTable) (l : PathLink)
    → AreTied sending ls t → find (is_at h) ls ≡ Some l
    → AreTied (without l.link sending) (detached_from sending l ls) (after_detach_read (handle_of l.stage) t)
detached_tied h sending ls t l tied e = by (is_given l) refl
  where
    found : (stands t l.stage ≡ true) × (is_at h l ≡ true)
    found = all_find (λ k. stands t k.stage ≡ true) (is_at h) ls l tied.standing e

    by : (b : Bool) → is_given l ≡ b → AreTied (without l.link sending) (cond b (dropped l.link ls) (put (left_by sending l) ls)) (after_detach_read (handle_of l.stage) t)
    by true given =
        let gone = dropped_tied (is_at h) sending ls t l (with_read (state_of t (handle_of l.stage))) tied e (or_right (is_to_part l) (is_given l) given) in
        record { rising = gone.rising; apart = gone.apart; standing = gone.standing; kept = all_filter _ (λ s. is_kept (dropped l.link ls) s ≡ true) sending gone.kept }
    by false given =
        let whole : is_whole (state_of t (handle_of l.stage)) ≡ true = at_whole t h l.stage found.1 given found.0 in
        moved_tied (is_at h) sending (without l.link sending) ls t l (left_by sending l) (handle_of l.stage) _ tied e refl (handle_some (is_stage_at h) refl l.stage found.1) refl
        (ap is_half (state_same is_whole t (handle_of l.stage) (with_read (state_of t (handle_of l.stage))) refl whole) ∙ read_half (state_of t (handle_of l.stage)) whole)
        (kept_without (left_by sending l) sending ls tied.kept)

-- the gateway's detach of one that the container detached

left_state : (t : HandleTable) (s : Stage) → is_stage_left s ≡ true → stands t s ≡ true → is_half (state_of t (handle_of s)) ≡ true
left_state t Wanted e is = absurd (cc)
left_state t (Asked k) e is = absurd (cc)
left_state t (Open k) e is = absurd (cc)
left_state t (Refused k) e is = absurd (cc)
left_state t (Left k) e is = is
left_state t (Given k) e is = absurd (cc)
left_state t (Failed k fault) e is = absurd (cc)

half_unsent : (s : HandleState) → is_half s ≡ true → is_unsent s ≡ true
half_unsent Free e = absurd (cc)
half_unsent state.Asked e = absurd (cc)
half_unsent (state.Attached a) e = and_left (not a.detach_sent) a.detach_read e

pub is_unsent_at : (p : PathLink → Bool) (sending : List SendingLink) (ls : List PathLink) (t : HandleTable) (l : PathLink)
    → AreTied sending ls t → find p ls ≡ Some l → is_left l ≡ true → is_unsent (state_of t (handle_of l.stage)) ≡ true
is_unsent_at p sending ls t l tied e left =
    half_unsent (state_of t (handle_of l.stage)) (left_state t l.stage left (all_find (λ k. stands t k.stage ≡ true) p ls l tied.standing e).0)

left_one : (l k : PathLink) → is_left l ≡ true → meets l k ≡ false → is_left_at (handle_of l.stage) k.stage ≡ false
left_one l k left apart = by l.stage k.stage left apart
  where
    by : (s u : Stage) → is_stage_left s ≡ true → is_one (handle_in s) (handle_in u) ≡ false → is_left_at (handle_of s) u ≡ false
    by Wanted u e f = absurd (cc)
    by (Asked h) u e f = absurd (cc)
    by (Open h) u e f = absurd (cc)
    by (Refused h) u e f = absurd (cc)
    by (Given h) u e f = absurd (cc)
    by (Failed h fault) u e f = absurd (cc)
    by (Left h) Wanted e f = refl
    by (Left h) (Asked j) e f = refl
    by (Left h) (Open j) e f = refl
    by (Left h) (Refused j) e f = refl
    by (Left h) (Left j) e f = ne_to j h (λ s. no_clash (h == j) (eq_to h j (sym s)) f)
    by (Left h) (Given j) e f = refl
    by (Left h) (Failed j fault) e f = refl

left_itself : (s : Stage) → is_stage_left s ≡ true → is_left_at (handle_of s) s ≡ true
left_itself Wanted e = absurd (cc)
left_itself (Asked h) e = absurd (cc)
left_itself (Open h) e = absurd (cc)
left_itself (Refused h) e = absurd (cc)
left_itself (Left h) e = eq_to h h refl
left_itself (Given h) e = absurd (cc)
left_itself (Failed h fault) e = absurd (cc)

filter_same : {X : Type 0} (p q : X → Bool) (xs : List X) → AllByRecursion (λ x. p x ≡ q x) xs → filter (λ x. not (p x)) xs ≡ filter (λ x. not (q x)) xs
filter_same p q [] a = refl
filter_same p q (x ∷ xs) a = ap (λ b. cond (not b) (x ∷ filter (λ x. not (p x)) xs) (filter (λ x. not (p x)) xs)) a.0 ∙ ap (λ ys. cond (not (q x)) (x ∷ ys) ys) (filter_same p q xs a.1)

-- it is the link with its number that is no more
pub gone_is : (p : PathLink → Bool) (sending : List SendingLink) (ls : List PathLink) (t : HandleTable) (l : PathLink)
    → AreTied sending ls t → find p ls ≡ Some l → is_left l ≡ true → gone_from (handle_of l.stage) ls ≡ dropped l.link ls
gone_is p sending ls t l tied e left =
    filter_same (λ k. is_left_at (handle_of l.stage) k.stage) (has_number l.link) ls
    (all_weaker (λ k. ((k.link == l.link) ≡ false → meets l k ≡ false) × ((k.link == l.link) ≡ true → k ≡ l)) _ (λ k h. one k (k.link == l.link) refl h.0 h.1) ls
    (all_both _ _ ls (apart_from p ls l e tied.apart) (unique p ls l tied.rising e)))
  where
    one : (k : PathLink) (b : Bool) → (k.link == l.link) ≡ b → ((k.link == l.link) ≡ false → meets l k ≡ false) → ((k.link == l.link) ≡ true → k ≡ l) → is_left_at (handle_of l.stage) k.stage ≡ (k.link == l.link)
    one k true f apart same = ap (λ (z : PathLink). is_left_at (handle_of l.stage) z.stage) (same f) ∙ (left_itself l.stage left ∙ sym f)
    one k false f apart same = left_one l k left (apart f) ∙ sym f

pub gone_tied : (p : PathLink → Bool) (sending : List SendingLink) (ls : List PathLink) (t : HandleTable) (l : PathLink)
    → AreTied sending ls t → find p ls ≡ Some l → is_left l ≡ true
    → AreTied sending (gone_from (handle_of l.stage) ls) (after_detach_sent (handle_of l.stage) t)
gone_tied p sending ls t l tied e left =
    subst (λ ks. AreTied sending ks (after_detach_sent (handle_of l.stage) t)) (sym (gone_is p sending ls t l tied e left))
    (dropped_tied p sending ls t l (with_sent (state_of t (handle_of l.stage))) tied e (or_left (is_to_part l) (is_given l) (or_left (is_left l) (is_failed l) left)))

-- the gateway's detach of one that both attached

open_whole : (t : HandleTable) (s : Stage) → (is_stage_open s || is_stage_failed s) ≡ true → stands t s ≡ true → is_whole (state_of t (handle_of s)) ≡ true
open_whole t Wanted e is = absurd (cc)
open_whole t (Asked k) e is = absurd (cc)
open_whole t (Open k) e is = is
open_whole t (Refused k) e is = is
open_whole t (Left k) e is = absurd (cc)
open_whole t (Given k) e is = absurd (cc)
open_whole t (Failed k fault) e is = is

whole_unsent : (s : HandleState) → is_whole s ≡ true → is_unsent s ≡ true
whole_unsent Free e = absurd (cc)
whole_unsent state.Asked e = absurd (cc)
whole_unsent (state.Attached a) e = and_left (not a.detach_sent) (not a.detach_read) e

sent_back : (s : HandleState) → is_whole s ≡ true → is_given_back (with_sent s) ≡ true
sent_back Free e = absurd (cc)
sent_back state.Asked e = absurd (cc)
sent_back (state.Attached a) e = by a.detach_read (and_right (not a.detach_sent) (not a.detach_read) e)
  where
    by : (b : Bool) → not b ≡ true → is_given_back (cond (true && b) Free (state.Attached (record a { detach_sent = true; detach_read = b }))) ≡ true
    by true e = absurd (cc)
    by false e = refl

module _ (p : PathLink → Bool) (sending : List SendingLink) (ls : List PathLink) (t : HandleTable) (l : PathLink)
    (tied : AreTied sending ls t) (e : find p ls ≡ Some l) (open_now : (is_stage_open l.stage || is_stage_failed l.stage) ≡ true) where
  whole_open : is_whole (state_of t (handle_of l.stage)) ≡ true
  whole_open = open_whole t l.stage open_now (all_find (λ k. stands t k.stage ≡ true) p ls l tied.standing e).0

  pub is_unsent_open : is_unsent (state_of t (handle_of l.stage)) ≡ true
  is_unsent_open = whole_unsent (state_of t (handle_of l.stage)) whole_open

  pub given_tied : AreTied (without l.link sending) (put (given_by l) ls) (after_detach_sent (handle_of l.stage) t)
  given_tied =
      moved_tied p sending (without l.link sending) ls t l (given_by l) (handle_of l.stage) _ tied e refl (handle_some (λ s. is_stage_open s || is_stage_failed s) refl l.stage open_now) refl
      (ap is_given_back (state_same is_whole t (handle_of l.stage) (with_sent (state_of t (handle_of l.stage))) refl whole_open) ∙ sent_back (state_of t (handle_of l.stage)) whole_open)
      (kept_without (given_by l) sending ls tied.kept)

-- a transfer on a receiving link passed a limit

whole_state : (t : HandleTable) (s : Stage) → is_stage_whole s ≡ true → stands t s ≡ true → is_whole (state_of t (handle_of s)) ≡ true
whole_state t Wanted e is = absurd (cc)
whole_state t (Asked k) e is = absurd (cc)
whole_state t (Open k) e is = is
whole_state t (Refused k) e is = is
whole_state t (Left k) e is = absurd (cc)
whole_state t (Given k) e is = absurd (cc)
whole_state t (Failed k fault) e is = absurd (cc)

pub failed_tied : (p : PathLink → Bool) (fault : TransferFault) (sending : List SendingLink) (ls : List PathLink) (t : HandleTable) (l : PathLink)
    → AreTied sending ls t → find p ls ≡ Some l → (is_stage_whole l.stage && l.receives) ≡ true → AreTied sending (put (failed_by fault l) ls) t
failed_tied p fault sending ls t l tied e is =
    changed_tied p sending ls t l (failed_by fault l) tied e refl (sym (handle_some is_stage_whole refl l.stage whole)) (whole_state t l.stage whole (all_find (λ k. stands t k.stage ≡ true) p ls l tied.standing e).0)
    (λ s kept. absurd (no_clash (keeps s l) kept (no_receiver s l (and_right (is_stage_whole l.stage) l.receives is))))
  where
    whole : is_stage_whole l.stage ≡ true
    whole = and_left (is_stage_whole l.stage) l.receives is

-- a flow of the container on a link that both attached
pub flowed_tied : (h : ℕ) (count : Option ℕ) (credit : ℕ) (drain echo : Bool) (sending : List SendingLink) (ls : List PathLink) (t : HandleTable) (l : PathLink)
    → AreTied sending ls t → find (is_at h) ls ≡ Some l → AreTied (map (flowed l.link count credit) sending) (put (told_by drain echo l) ls) t
flowed_tied h count credit drain echo sending ls t l tied e =
    let told = told_tied (is_at h) sending ls t l (told_by drain echo l) tied e refl refl refl in
    record {
      rising = told.rising;
      apart = told.apart;
      standing = told.standing;
      kept = all_map (flowed l.link count credit) (λ s. is_kept (put (told_by drain echo l) ls) s ≡ true) _ (λ s k. k) sending told.kept;
    }

-- a flow of the gateway
pub told_once_tied : (p : PathLink → Bool) (drain : Bool) (sending : List SendingLink) (ls : List PathLink) (t : HandleTable) (l : PathLink)
    → AreTied sending ls t → find p ls ≡ Some l → AreTied (drained_if drain l.link sending) (put (told_once l) ls) t
told_once_tied p drain sending ls t l tied e =
    let told = told_tied p sending ls t l (told_once l) tied e refl refl refl in
    record { rising = told.rising; apart = told.apart; standing = told.standing; kept = by drain told.kept }
  where
    by : (b : Bool) → AllByRecursion (λ s. is_kept (put (told_once l) ls) s ≡ true) sending → AllByRecursion (λ s. is_kept (put (told_once l) ls) s ≡ true) (drained_if b l.link sending)
    by true a = all_map (drained l.link) (λ s. is_kept (put (told_once l) ls) s ≡ true) _ (λ s k. k) sending a
    by false a = a

-- a frame of a transfer
pub framed_tied : (frame : NextFrame) (sending : List SendingLink) (ls : List PathLink) (t : HandleTable) → AreTied sending ls t → AreTied (links_after frame sending) ls t
framed_tied frame sending ls t tied = record { rising = tied.rising; apart = tied.apart; standing = tied.standing; kept = by frame.first }
  where
    by : (b : Bool) → AllByRecursion (λ s. is_kept ls s ≡ true) (cond b (map (begun_on frame.link) sending) sending)
    by true = all_map (begun_on frame.link) (λ s. is_kept ls s ≡ true) _ (λ s k. k) sending tied.kept
    by false = tied.kept
