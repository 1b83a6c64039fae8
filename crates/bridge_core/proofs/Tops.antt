-- Lists that are as they were from some place on, above all that was ever changed.
use Rattle.std.proofs.Common.{◌≡◌, ◌∙◌, ℕ, zero, suc, ◌+◌, ◌-◌, ◌≤◌, ◌<◌, List, [], ◌∷◌, Option}
use Rattle.std.proofs.Common.{None, Some, Result, Ok, Err, refl, sym, ap, subst, arith, drop, get_or}
use Rattle.std.proofs.Common.{length, map, replicate, take, ◌++◌, append_assoc, append-nil, take-append-drop}
use Rattle.std.proofs.lemmas.List.{drop-drop, drop-map, drop-replicate, drop-set-lt, length-map, map-append}
use Rattle.std.proofs.lemmas.List.{length-set, set-get_or}
use Rattle.std.proofs.lemmas.Option.{slice_get-get_or}
use Rattle.std.specs.Prelude.{OnErr, OnOk, slice_set}
use Rattle.std.specs.List.{fold}
use Rattle.std.specs.Option.{option_map}
use Rattle.session_path.specs.Path.{PathState}
use Rattle.gate_model.specs.Paths.{bytes_in, bytes_on, held_in, held_on, no_paths, or_none, slot_at}
use Rattle.gate_model.specs.Paths.{lines_of_life, lines_on, with_path}
use Rattle.gate_relay.specs.Entries.{is_empty}
use Rattle.open_items.specs.declared.lost.LostItem.{LostItem}
use Rattle.bridge_core.specs.Reports.{IsNextOwing}

-- then they are from each higher place on
pub from_higher : {A : Type 0} (t m : ℕ) (xs ys : List A) → t ≤ m → drop t xs ≡ drop t ys → drop m xs ≡ drop m ys
from_higher t m xs ys le e =
    let to : t + (m - t) ≡ m = omega (arith, le) in
    ap (λ (k : ℕ). drop k xs) (sym to) ∙ sym (drop-drop (m - t) t xs) ∙ ap (drop (m - t)) e ∙ drop-drop (m - t) t ys ∙ ap (λ (k : ℕ). drop k ys) to

pub set_below : {A : Type 0} (t m n : ℕ) (x : A) (xs ys : List A) → t ≤ m → n < m → drop t xs ≡ drop t ys → drop m (slice_set xs n x) ≡ drop m ys
set_below t m n x xs ys le lt e = drop-set-lt m xs n x lt ∙ from_higher t m xs ys le e

-- a path that isn't there stays so
with_none : (f : PathState → PathState) (n m : ℕ) → with_path n f (replicate m None) ≡ replicate m None
with_none f n zero = refl
with_none f zero (suc m) = refl
with_none f (suc n) (suc m) = ap (λ (ps : List (Option PathState)). None ∷ ps) (with_none f n m)

with_past : (f : PathState → PathState) (t n m : ℕ) (ps : List (Option PathState)) → drop t ps ≡ replicate m None → drop t (with_path n f ps) ≡ replicate m None
with_past f zero n m ps e = ap (with_path n f) e ∙ with_none f n m
with_past f (suc t) n m [] e = e
with_past f (suc t) zero m (o ∷ ps) e = e
with_past f (suc t) (suc n) m (o ∷ ps) e = with_past f t n m ps e

path_kept : (f : PathState → PathState) (t n : ℕ) (ps : List (Option PathState)) → drop t ps ≡ drop t no_paths → drop t (with_path n f ps) ≡ drop t no_paths
unfolding Rattle.gate_model.specs.Paths.no_paths
path_kept f t n ps e =
    let none : drop t (replicate 256 None) ≡ replicate (256 - t) None = drop-replicate t 256 None in
    with_past f t n (256 - t) ps (e ∙ none) ∙ sym none

map_none : (f : PathState → PathState) (m : ℕ) → map (option_map f) (replicate m None) ≡ replicate m None
map_none f zero = refl
map_none f (suc m) = ap (λ (ps : List (Option PathState)). None ∷ ps) (map_none f m)

paths_kept : (f : PathState → PathState) (t : ℕ) (ps : List (Option PathState)) → drop t ps ≡ drop t no_paths → drop t (map (option_map f) ps) ≡ drop t no_paths
unfolding Rattle.gate_model.specs.Paths.no_paths
paths_kept f t ps e =
    let none : drop t (replicate 256 None) ≡ replicate (256 - t) None = drop-replicate t 256 None in
    drop-map (option_map f) t ps ∙ ap (map (option_map f)) (e ∙ none) ∙ map_none f (256 - t) ∙ sym none

-- paths, of which none is there from a number on
abbrev pub AreBounded : ℕ → List (Option PathState) → Type 0
AreBounded t ps = (length ps ≡ 256) × ((t ≤ 256) × (drop t ps ≡ drop t no_paths))

-- one is changed in its place
pub path_written : (f : PathState → PathState) (t n m : ℕ) (d o : Option PathState) (ps qs : List (Option PathState)) → n < 256 → n ≡ m → ps ≡ qs
    → AreBounded t ps → o ≡ option_map f (get_or ps n d) → slice_set ps n o ≡ with_path m f qs
path_written f t n m d o ps qs lt number same bounded e =
    let there : n < length ps = omega (arith, lt, bounded.0) in
    let read : get_or ps n d ≡ slot_at ps n = ap or_none (sym (slice_get-get_or ps n d there)) in
    ap (slice_set ps n) (e ∙ ap (option_map f) read) ∙ ap (λ (k : ℕ). with_path k f ps) number ∙ ap (with_path m f) same

pub path_stays : (f : PathState → PathState) (t n : ℕ) (d o : Option PathState) (ps : List (Option PathState)) → n < 256
    → AreBounded t ps → o ≡ option_map f (get_or ps n d) → AreBounded t (slice_set ps n o)
path_stays f t n d o ps lt bounded e =
    (length-set ps n o ∙ bounded.0, (bounded.1.0, ap (drop t) (path_written f t n n d o ps ps lt refl refl bounded e) ∙ path_kept f t n ps bounded.1.1))

pub path_or_none_stays : {E : Type 0} (r : Result Unit E) (f : PathState → PathState) (t n : ℕ) (d o : Option PathState) (ps : List (Option PathState)) → n < 256
    → AreBounded t ps → OnOk r (o ≡ option_map f (get_or ps n d)) → OnErr r (o ≡ get_or ps n d) → AreBounded t (slice_set ps n o)
path_or_none_stays (Ok x) f t n d o ps lt bounded ok err = path_stays f t n d o ps lt bounded ok
path_or_none_stays (Err x) f t n d o ps lt bounded ok err = subst (AreBounded t) (sym (ap (slice_set ps n) err ∙ set-get_or ps n d)) bounded

pub paths_stay : (f : PathState → PathState) (t : ℕ) (ps qs : List (Option PathState)) → AreBounded t ps → qs ≡ map (option_map f) ps → AreBounded t qs
paths_stay f t ps qs bounded e =
    subst (AreBounded t) (sym e) (length-map ps (option_map f) ∙ bounded.0, (bounded.1.0, paths_kept f t ps bounded.1.1))

-- what changes below it changes all
map_below : (f : PathState → PathState) (t : ℕ) (ps : List (Option PathState)) → AreBounded t ps
    → map (option_map f) (take t ps) ++ drop t ps ≡ map (option_map f) ps
map_below f t ps bounded =
    let same : drop t ps ≡ map (option_map f) (drop t ps) = bounded.1.1 ∙ sym (paths_kept f t ps bounded.1.1) ∙ drop-map (option_map f) t ps in
    ap (λ (qs : List (Option PathState)). map (option_map f) (take t ps) ++ qs) same
    ∙ sym (map-append (option_map f) (take t ps) (drop t ps)) ∙ ap (map (option_map f)) (take-append-drop t ps)

pub changed_below : (f : PathState → PathState) (t n : ℕ) (ps qs : List (Option PathState)) → AreBounded t ps → n ≡ t
    → qs ≡ map (option_map f) (take n ps) → qs ++ drop n ps ≡ map (option_map f) ps
changed_below f t n ps qs bounded same e =
    ap (λ (rs : List (Option PathState)). rs ++ drop n ps) e
    ∙ ap (λ (m : ℕ). map (option_map f) (take m ps) ++ drop m ps) same ∙ map_below f t ps bounded

-- what all hold is held below that number
sum_none : (f : Option PathState → ℕ) (n m : ℕ) → f None ≡ 0 → fold (λ a o. a + f o) n (replicate m None) ≡ n
sum_none f n zero none = refl
sum_none f n (suc m) none = sum_none f (n + f None) m none ∙ omega (arith, none)

sum_past : (f : Option PathState → ℕ) (n t m : ℕ) (ps : List (Option PathState)) → f None ≡ 0 → drop t ps ≡ replicate m None
    → fold (λ a o. a + f o) n (take t ps) ≡ fold (λ a o. a + f o) n ps
sum_past f n zero m ps none e = sym (ap (fold (λ a o. a + f o) n) e ∙ sum_none f n m none)
sum_past f n (suc t) m [] none e = refl
sum_past f n (suc t) m (o ∷ ps) none e = sum_past f (n + f o) t m ps none e

pub held_below : (t : ℕ) (ps : List (Option PathState)) → AreBounded t ps → held_in (take t ps) ≡ held_in ps
unfolding Rattle.gate_model.specs.Paths.no_paths
held_below t ps bounded = sum_past held_on 0 t (256 - t) ps refl (bounded.1.1 ∙ drop-replicate t 256 None)

pub bytes_below : (t : ℕ) (ps : List (Option PathState)) → AreBounded t ps → bytes_in (take t ps) ≡ bytes_in ps
unfolding Rattle.gate_model.specs.Paths.no_paths
bytes_below t ps bounded = sum_past bytes_on 0 t (256 - t) ps refl (bounded.1.1 ∙ drop-replicate t 256 None)

-- no path is there of a channel from that place on
none_at : (n m : ℕ) → slot_at (replicate m None) n ≡ None
none_at n zero = refl
none_at zero (suc m) = refl
none_at (suc n) (suc m) = none_at n m

none_past : (t n m : ℕ) (ps : List (Option PathState)) → t ≤ n → drop t ps ≡ replicate m None → slot_at ps n ≡ None
none_past zero n m ps le e = ap (λ (qs : List (Option PathState)). slot_at qs n) e ∙ none_at n m
none_past (suc t) n m [] le e = refl
none_past (suc t) zero m (o ∷ ps) le e = absurd (omega (arith, le))
none_past (suc t) (suc n) m (o ∷ ps) le e = none_past t n m ps (omega (arith, le)) e

pub no_path : (t n : ℕ) (ps : List (Option PathState)) → t ≤ n → drop t ps ≡ drop t no_paths → slot_at ps n ≡ None
unfolding Rattle.gate_model.specs.Paths.no_paths
no_path t n ps le e = none_past t n (256 - t) ps le (e ∙ drop-replicate t 256 None)

-- the lines of lives are of those below it
lines_none : (life m : ℕ) → lines_of_life life (replicate m None) ≡ []
lines_none life zero = refl
lines_none life (suc m) = lines_none life m

lines_both : (life : ℕ) (ps qs : List (Option PathState)) → lines_of_life life (ps ++ qs) ≡ lines_of_life life ps ++ lines_of_life life qs
lines_both life [] qs = refl
lines_both life (o ∷ ps) qs =
    ap (λ (items : List LostItem). lines_on life o ++ items) (lines_both life ps qs) ∙ sym (append_assoc (lines_on life o) (lines_of_life life ps) (lines_of_life life qs))

pub lines_below : (t : ℕ) (ps : List (Option PathState)) → AreBounded t ps → (life : ℕ) → lines_of_life life (take t ps) ≡ lines_of_life life ps
unfolding Rattle.gate_model.specs.Paths.no_paths
lines_below t ps bounded life =
    sym (append-nil (lines_of_life life (take t ps)))
    ∙ ap (λ (items : List LostItem). lines_of_life life (take t ps) ++ items)
    (sym (ap (lines_of_life life) (bounded.1.1 ∙ drop-replicate t 256 None) ∙ lines_none life (256 - t)))
    ∙ sym (lines_both life (take t ps) (drop t ps)) ∙ ap (lines_of_life life) (take-append-drop t ps)

pub owing_below : (above last : ℕ) (ps qs : List (Option PathState)) (o : Option ℕ) → ((life : ℕ) → lines_of_life life ps ≡ lines_of_life life qs)
    → IsNextOwing above last ps o → IsNextOwing above last qs o
owing_below above last ps qs None same f = λ n a b. sym (same n) ∙ f n a b
owing_below above last ps qs (Some life) same f = record {
  over = f.over;
  within = f.within;
  owes = ap is_empty (sym (same life)) ∙ f.owes;
  first = λ n a b. sym (same n) ∙ f.first n a b;
}
