-- A link that is wanted: its number, its place and its credit.
use Rattle.std.proofs.Common.{◌≡◌, ◌∙◌, ℕ, zero, suc, ◌+◌, ◌≤◌, ◌≢◌, List, [], ◌∷◌, ◌++◌, Bool}
use Rattle.std.proofs.Common.{true, false, Option, Some, None, refl, sym, subst, ap, arith, cond}
use Rattle.std.proofs.Common.{length, add-one, inl, inr}
use Rattle.std.specs.Prelude.{◌⊎◌, not, filter, ◌||◌, ◌&&◌, ◌==◌, insert, remove, bytes_eq, is_some}
use Rattle.std.specs.Option.{option_map}
use Rattle.std.specs.Result.{OnOk, OnErr}
use Rattle.std.specs.declared.result.Result.TheVariants.{Ok, Err}
use Rattle.std.specs.declared.result.Result.{Result}
use Rattle.std.specs.List.{list_any, AllByRecursion}
use Rattle.open_items.proofs.Filtered.{all_weaker, all_push}
use Rattle.link_table.specs.Table.{HandleTable}
use Rattle.publish_path.specs.declared.send_links.SendingLink.{SendingLink}
use Rattle.publish_path.specs.Links.{asked_link, has_address, link_of, link_to, without}
use Rattle.session_path.specs.declared.path.PathLink.{PathLink}
use Rattle.session_path.specs.Path.{number_of}
use Rattle.session_path.specs.Links.{LinksState, linked_to, with_link_to, with_receiver, handle_in}
use Rattle.session_path.specs.Links.{gap, free_number, has_number, is_wanted_receiver, wanted_link}
use Rattle.session_path.specs.Links.{with_wanted, Rises, is_one, meets, AreApart, stands, is_kept}
use Rattle.session_path.specs.Links.{AreTied}
use Rattle.session_path.proofs.Ties.{and_left, and_right, eq_of, eq_to, keeps}
use Rattle.session_path.proofs.Ties.{keeps_number, ne_to, no_clash, not_false, or_left, or_right}
use Rattle.session_path.proofs.Ties.{or_true, rises_above}

-- an item put into a list

pub all_insert : {X : Type 0} (P : X → Type 0) (xs : List X) (i : ℕ) (y : X) → AllByRecursion P xs → P y → AllByRecursion P (insert xs i y)
all_insert P [] zero y a h = (h, tt)
all_insert P [] (suc i) y a h = (h, tt)
all_insert P (x ∷ xs) zero y a h = (h, a)
all_insert P (x ∷ xs) (suc i) y a h = (a.0, all_insert P xs i y a.1 h)

pub any_insert : {X : Type 0} (p : X → Bool) (xs : List X) (i : ℕ) (y : X) → list_any p (insert xs i y) ≡ (p y || list_any p xs)
any_insert p [] zero y = refl
any_insert p [] (suc i) y = refl
any_insert p (x ∷ xs) zero y = refl
any_insert p (x ∷ xs) (suc i) y = ap (λ b. p x || b) (any_insert p xs i y) ∙ by (p x) (p y)
  where
    by : (a b : Bool) → (a || (b || list_any p xs)) ≡ (b || (a || list_any p xs))
    by true true = refl
    by true false = refl
    by false b = refl

any_old : {X : Type 0} (p : X → Bool) (xs : List X) (i : ℕ) (y : X) → list_any p xs ≡ true → list_any p (insert xs i y) ≡ true
any_old p xs i y e = any_insert p xs i y ∙ or_right (p y) _ e

any_new : {X : Type 0} (p : X → Bool) (xs : List X) (i : ℕ) (y : X) → p y ≡ true → list_any p (insert xs i y) ≡ true
any_new p xs i y e = any_insert p xs i y ∙ or_left _ _ e

pub remove_insert : {X : Type 0} (xs : List X) (i : ℕ) (y : X) → i ≤ length xs → remove (insert xs i y) i ≡ xs
remove_insert [] zero y le = refl
remove_insert [] (suc i) y le = absurd (omega arith)
remove_insert (x ∷ xs) zero y le = refl
remove_insert (x ∷ xs) (suc i) y le = ap (λ zs. x ∷ zs) (remove_insert xs i y (omega arith))

-- its number

more : (m g : ℕ) → m + (g + 1) ≡ (m + 1) + g
more m g = omega arith

rises_wanted : (receives : Bool) (m : ℕ) (ls : List PathLink) → Rises m ls → Rises m (insert ls (gap m ls) (wanted_link (m + gap m ls) receives))
rises_wanted receives m [] r = (omega arith, tt)
rises_wanted receives m (l ∷ ls) r = by (l.link == m) refl (rises_wanted receives (m + 1) ls)
  where
    wanted : ℕ → PathLink
    wanted n = wanted_link n receives

    by : (b : Bool) → (l.link == m) ≡ b → (Rises (m + 1) ls → Rises (m + 1) (insert ls (gap (m + 1) ls) (wanted ((m + 1) + gap (m + 1) ls))))
        → Rises m (insert (l ∷ ls) (cond b (gap (m + 1) ls + 1) 0) (wanted (m + cond b (gap (m + 1) ls + 1) 0)))
    by true e ih =
        let same = eq_of l.link m e in
        subst (λ n. Rises m (insert (l ∷ ls) (gap (m + 1) ls + 1) (wanted n))) (sym (more m (gap (m + 1) ls)))
        (subst (λ i. Rises m (insert (l ∷ ls) i (wanted ((m + 1) + gap (m + 1) ls)))) (sym (add-one (gap (m + 1) ls)))
        (r.0, subst (λ n. Rises (n + 1) (insert ls (gap (m + 1) ls) (wanted ((m + 1) + gap (m + 1) ls)))) (sym same) (ih (subst (λ n. Rises (n + 1) ls) same r.1))))
    by false e ih = (omega arith, (let a = r.0 in let ne : l.link ≢ m = (λ s. no_clash (l.link == m) (eq_to l.link m s) e) in omega arith, r.1))

-- no link has it
not_there : (m : ℕ) (ls : List PathLink) → Rises m ls → AllByRecursion (λ k. (k.link == (m + gap m ls)) ≡ false) ls
not_there m [] r = tt
not_there m (l ∷ ls) r = by (l.link == m) refl (not_there (m + 1) ls)
  where
    by : (b : Bool) → (l.link == m) ≡ b → (Rises (m + 1) ls → AllByRecursion (λ k. (k.link == ((m + 1) + gap (m + 1) ls)) ≡ false) ls)
        → AllByRecursion (λ k. (k.link == (m + cond b (gap (m + 1) ls + 1) 0)) ≡ false) (l ∷ ls)
    by true e ih =
        let same = eq_of l.link m e in
        subst (λ n. AllByRecursion (λ k. (k.link == n) ≡ false) (l ∷ ls)) (sym (more m (gap (m + 1) ls)))
        (ne_to l.link ((m + 1) + gap (m + 1) ls) (λ s. omega arith), ih (subst (λ n. Rises (n + 1) ls) same r.1))
    by false e ih =
        let ne : l.link ≢ m = (λ s. no_clash (l.link == m) (eq_to l.link m s) e) in
        (ne_to l.link (m + 0) (λ s. ne (s ∙ zero_more m)), all_weaker (λ k. l.link + 1 ≤ k.link) _ (λ k above. ne_to k.link (m + 0) (λ s. let a = r.0 in omega arith)) ls (rises_above (l.link + 1) ls r.1))
      where
        zero_more : (m : ℕ) → m + 0 ≡ m
        zero_more m = omega arith

zero_plus : (g : ℕ) → 0 + g ≡ g
zero_plus g = omega arith

pub nowhere : (ls : List PathLink) → Rises 0 ls → AllByRecursion (λ k. (k.link == free_number ls) ≡ false) ls
nowhere ls r = subst (λ n. AllByRecursion (λ k. (k.link == n) ≡ false) ls) (zero_plus (gap 0 ls)) (not_there 0 ls r)

not_kept : (n : ℕ) (ls : List PathLink) (x : SendingLink) → AllByRecursion (λ k. (k.link == n) ≡ false) ls → is_kept ls x ≡ true → (x.link == n) ≡ false
not_kept n [] x a e = absurd (cc)
not_kept n (l ∷ ls) x a e = by (not_kept n ls x a.1) (or_true (keeps x l) (is_kept ls x) e)
  where
    by : (is_kept ls x ≡ true → (x.link == n) ≡ false) → (keeps x l ≡ true) ⊎ (is_kept ls x ≡ true) → (x.link == n) ≡ false
    by ih (inl h) = ap (λ k. k == n) (sym (keeps_number x l h)) ∙ a.0
    by ih (inr h) = ih h

find_none : (n : ℕ) (xs : List SendingLink) → AllByRecursion (λ x. (x.link == n) ≡ false) xs → link_of xs n ≡ None
find_none n [] a = refl
find_none n (x ∷ xs) a = ap (λ b. cond b (Some x) (link_of xs n)) a.0 ∙ find_none n xs a.1

pub free_none : (sending : List SendingLink) (ls : List PathLink) (t : HandleTable) → AreTied sending ls t → link_of sending (free_number ls) ≡ None
free_none sending ls t tied =
    find_none (free_number ls) sending (all_weaker (λ x. is_kept ls x ≡ true) _ (λ x k. not_kept (free_number ls) ls x (nowhere ls tied.rising) k) sending tied.kept)

-- its handle

one_none : (o : Option ℕ) → is_one o None ≡ false
one_none None = refl
one_none (Some h) = refl

apart_insert : (receives : Bool) (ls : List PathLink) (i n : ℕ) → AreApart ls → AreApart (insert ls i (wanted_link n receives))
apart_insert receives [] zero n a = (tt, tt)
apart_insert receives [] (suc i) n a = (tt, tt)
apart_insert receives (l ∷ ls) zero n a = ((refl, all_weaker (λ k. meets l k ≡ false) _ (λ k h. refl) ls a.0), a)
apart_insert receives (l ∷ ls) (suc i) n a = (all_insert (λ k. meets l k ≡ false) ls i (wanted_link n receives) a.0 (one_none (handle_in l.stage)), apart_insert receives ls i n a.1)

-- the links with it

pub inserted_tied : (receives : Bool) (sending : List SendingLink) (ls : List PathLink) (t : HandleTable)
    → AreTied sending ls t → AreTied sending (with_wanted (free_number ls) receives ls) t
inserted_tied receives sending ls t tied = record {
  rising = subst (λ n. Rises 0 (insert ls (gap 0 ls) (wanted_link n receives))) (zero_plus (gap 0 ls)) (rises_wanted receives 0 ls tied.rising);
  apart = apart_insert receives ls (free_number ls) (free_number ls) tied.apart;
  standing = all_insert (λ k. stands t k.stage ≡ true) ls (free_number ls) (wanted_link (free_number ls) receives) tied.standing refl;
  kept = all_weaker (λ x. is_kept ls x ≡ true) _ (λ x k. any_old (keeps x) ls (free_number ls) (wanted_link (free_number ls) receives) k) sending tied.kept;
}

pub received_tied : {A B : Type 0} (o : Result A B) (sending : List SendingLink) (ls new : List PathLink) (t : HandleTable)
    → OnOk o (new ≡ with_wanted (free_number ls) true ls) → OnErr o (new ≡ ls) → AreTied sending ls t → AreTied sending new t
received_tied (Ok x) sending ls new t ok err tied = subst (λ ks. AreTied sending ks t) (sym ok) (inserted_tied true sending ls t tied)
received_tied (Err x) sending ls new t ok err tied = subst (λ ks. AreTied sending ks t) (sym err) tied

pub wanted_tied : (address : List ℕ) (sending : List SendingLink) (ls : List PathLink) (t : HandleTable)
    → AreTied sending ls t → AreTied (sending ++ asked_link (free_number ls) address ∷ []) (with_wanted (free_number ls) false ls) t
wanted_tied address sending ls t tied =
    let with_it = inserted_tied false sending ls t tied in
    record {
      rising = with_it.rising;
      apart = with_it.apart;
      standing = with_it.standing;
      kept = all_push (λ x. is_kept (with_wanted (free_number ls) false ls) x ≡ true) sending (asked_link (free_number ls) address) with_it.kept
          (any_new (keeps (asked_link (free_number ls) address)) ls (free_number ls) (wanted_link (free_number ls) false) (ap (λ b. (b && true) && true) (eq_to (free_number ls) (free_number ls) refl)));
    }

-- a receiving link that is wanted is dropped again

abbrev is_dropped : ℕ → PathLink → Bool
is_dropped n k = is_wanted_receiver k && has_number n k

one_stays : (n : ℕ) (k : PathLink) → (k.link == n) ≡ false → is_dropped n k ≡ false
one_stays n k e = ap (λ b. is_wanted_receiver k && b) e ∙ none (is_wanted_receiver k)
  where
    none : (b : Bool) → (b && false) ≡ false
    none true = refl
    none false = refl

all_stay : (n : ℕ) (ls : List PathLink) → AllByRecursion (λ k. (k.link == n) ≡ false) ls → filter (λ k. not (is_dropped n k)) ls ≡ ls
all_stay n [] a = refl
all_stay n (l ∷ ls) a = ap (λ b. cond (not b) (l ∷ filter (λ k. not (is_dropped n k)) ls) (filter (λ k. not (is_dropped n k)) ls)) (one_stays n l a.0) ∙ ap (λ ks. l ∷ ks) (all_stay n ls a.1)

inserted_has : (P : PathLink → Type 0) (ls : List PathLink) (i : ℕ) (y : PathLink) → AllByRecursion P (insert ls i y) → P y
inserted_has P [] zero y a = a.0
inserted_has P [] (suc i) y a = a.0
inserted_has P (l ∷ ls) zero y a = a.0
inserted_has P (l ∷ ls) (suc i) y a = inserted_has P ls i y a.1

last_goes : (n : ℕ) (ls : List PathLink) → AllByRecursion (λ k. (k.link == n) ≡ false) ls → filter (λ k. not (is_dropped n k)) (wanted_link n true ∷ ls) ≡ ls
last_goes n ls a = ap (λ b. cond (not b) (wanted_link n true ∷ filter (λ k. not (is_dropped n k)) ls) (filter (λ k. not (is_dropped n k)) ls)) (eq_to n n refl) ∙ all_stay n ls a

unwanted : (n m i : ℕ) (ls : List PathLink) → Rises m (insert ls i (wanted_link n true)) → filter (λ k. not (is_dropped n k)) (insert ls i (wanted_link n true)) ≡ ls
unwanted n m zero [] r = last_goes n [] tt
unwanted n m (suc i) [] r = last_goes n [] tt
unwanted n m zero (l ∷ ls) r = last_goes n (l ∷ ls) (all_weaker (λ k. n + 1 ≤ k.link) _ (λ k above. ne_to k.link n (λ s. omega arith)) (l ∷ ls) (rises_above (n + 1) (l ∷ ls) r.1))
unwanted n m (suc i) (l ∷ ls) r =
    let above : l.link + 1 ≤ n = inserted_has (λ k. l.link + 1 ≤ k.link) ls i (wanted_link n true) (rises_above (l.link + 1) (insert ls i (wanted_link n true)) r.1) in
    ap (λ b. cond (not b) (l ∷ filter (λ k. not (is_dropped n k)) (insert ls i (wanted_link n true))) (filter (λ k. not (is_dropped n k)) (insert ls i (wanted_link n true)))) (one_stays n l (ne_to l.link n (λ s. omega arith)))
    ∙ ap (λ ks. l ∷ ks) (unwanted n (l.link + 1) i ls r.1)

abbrev pub without_wanted : ℕ → LinksState → LinksState
without_wanted n s = record s { links = filter (λ k. not (is_wanted_receiver k && has_number n k)) s.links }

pub unwanted_is : (n : ℕ) (s old : LinksState) → Rises 0 s.links → s ≡ with_receiver old → n ≡ free_number old.links → without_wanted n s ≡ old
unwanted_is n s old r e f =
    ap (without_wanted n) e ∙ (ap (λ k. without_wanted k (with_receiver old)) f
    ∙ ap (λ (ls : List PathLink). record old { links = ls }) (unwanted (free_number old.links) 0 (free_number old.links) old.links (subst (λ (z : LinksState). Rises 0 z.links) e r)))

-- what is dropped receives
pub wanted_receives : (k : PathLink) → not (is_wanted_receiver k) ≡ false → k.receives ≡ true
wanted_receives k e = and_right _ k.receives (not_false (is_wanted_receiver k) e)

pub unwanted_receives : (n : ℕ) (k : PathLink) → not (is_wanted_receiver k && has_number n k) ≡ false → k.receives ≡ true
unwanted_receives n k e = and_right _ k.receives (and_left (is_wanted_receiver k) _ (not_false (is_dropped n k) e))

-- its credit

pub without_new : (n : ℕ) (address : List ℕ) (xs : List SendingLink) → link_of xs n ≡ None → without n (xs ++ asked_link n address ∷ []) ≡ xs
without_new n address [] e = ap (λ b. cond (not b) (asked_link n address ∷ []) []) (eq_to n n refl)
without_new n address (x ∷ xs) e = by (x.link == n) refl (without_new n address xs) e
  where
    by : (b : Bool) → (x.link == n) ≡ b → (link_of xs n ≡ None → without n (xs ++ asked_link n address ∷ []) ≡ xs) → cond b (Some x) (link_of xs n) ≡ None
        → cond (not b) (x ∷ without n (xs ++ asked_link n address ∷ [])) (without n (xs ++ asked_link n address ∷ [])) ≡ x ∷ xs
    by true is ih e = absurd (cc)
    by false is ih e = ap (λ ys. x ∷ ys) (ih e)

pub there_now : (n : ℕ) (address : List ℕ) (xs : List SendingLink) → link_of (xs ++ asked_link n address ∷ []) n ≡ None → ⊥
there_now n address [] e = let is : (n == n) ≡ true = eq_to n n refl in let some : link_of (asked_link n address ∷ []) n ≡ Some (asked_link n address) = ap (λ b. cond b (Some (asked_link n address)) None) is in absurd (cc)
there_now n address (x ∷ xs) e = by (x.link == n) (there_now n address xs) e
  where
    by : (b : Bool) → (link_of (xs ++ asked_link n address ∷ []) n ≡ None → ⊥) → cond b (Some x) (link_of (xs ++ asked_link n address ∷ []) n) ≡ None → ⊥
    by true ih e = absurd (cc)
    by false ih e = ih e

pub link_to_new : (n : ℕ) (address : List ℕ) (xs : List SendingLink) → bytes_eq address address ≡ true → link_to xs address ≡ None → link_to (xs ++ asked_link n address ∷ []) address ≡ Some (asked_link n address)
link_to_new n address [] same e = ap (λ b. cond b (Some (asked_link n address)) None) same
link_to_new n address (x ∷ xs) same e = by (has_address address x) (link_to_new n address xs same) e
  where
    by : (b : Bool) → (link_to xs address ≡ None → link_to (xs ++ asked_link n address ∷ []) address ≡ Some (asked_link n address)) → cond b (Some x) (link_to xs address) ≡ None
        → cond b (Some x) (link_to (xs ++ asked_link n address ∷ []) address) ≡ Some (asked_link n address)
    by true ih e = absurd (cc)
    by false ih e = ih e

pub map_none : (o : Option SendingLink) → option_map (λ l. l.link) o ≡ None → o ≡ None
map_none None e = refl
map_none (Some x) e = absurd (cc)

same_bytes : (xs : List ℕ) → bytes_eq xs xs ≡ true
same_bytes [] = refl
same_bytes (x ∷ xs) = ap (λ b. b && bytes_eq xs xs) (eq_to x x refl) ∙ same_bytes xs

pub number_new : (address : List ℕ) (s : LinksState) → link_to s.sending address ≡ None → free_number s.links ≡ number_of (link_to (linked_to address s).sending address)
number_new address s e =
    sym (ap (λ (o : Option SendingLink). number_of (link_to (cond (is_some o) s (with_link_to address s)).sending address)) e
    ∙ ap number_of (link_to_new (free_number s.links) address s.sending (same_bytes address) e))

-- no link has the lowest free number
pub absent : (ls : List PathLink) → Rises 0 ls → AllByRecursion (λ k. (k.link == free_number ls) ≡ false) ls
absent ls r = subst (λ n. AllByRecursion (λ k. (k.link == n) ≡ false) ls) (zero_plus (gap 0 ls)) (not_there 0 ls r)
