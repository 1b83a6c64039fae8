-- Lines that were reported aren't owed again, and what is held stays so.
use Rattle.std.proofs.Common.{◌≡◌, ℕ, zero, suc, ◌+◌, ◌==◌, nat_le, Bool, true, false, not, ◌||◌, ◌&&◌}
use Rattle.std.proofs.Common.{if◌then◌else◌, cond, List, [], ◌∷◌, ◌++◌, map, filter, sum_by}
use Rattle.std.proofs.Common.{Option, None, Some, refl, sym, ap, ◌∙◌, arith}
use Rattle.std.specs.Option.{option_map}
use Rattle.std.proofs.lemmas.List.Sums.{sum_by-cons}
use Rattle.open_items.specs.declared.lost.LostItem.{LostItem}
use Rattle.open_items.specs.Numbers.{has_any}
use Rattle.publish_path.specs.declared.publish.Publish.{Publish}
use Rattle.publish_path.specs.Offers.{held_size, is_held, lines_of}
use Rattle.publish_path.specs.Publishes.{has_no_outcome, is_open, is_sending, is_settled, reported}
use Rattle.session_path.specs.Path.{PathState, lines_told}
use Rattle.consume_path.specs.Items as consume
use Rattle.consume_path.specs.Items.{trimmed}
use Rattle.consume_path.specs.Offers as deliveries
use Rattle.consume_path.specs.declared.delivery.Delivery.{Delivery}
use Rattle.gate_model.specs.declared.limits.TheConstants.{HELD_BYTES, HELD_PUBLISHES}
use Rattle.gate_model.specs.Paths.{bytes_in, bytes_on, held_in, held_on, is_laden, lines_in}
use Rattle.gate_model.specs.Paths.{lines_of_life, lines_on, told_paths}

reported_none : (life : ℕ) (ps : List Publish) → lines_of life (filter is_open (map reported ps)) ≡ []
reported_none life [] = refl
reported_none life (p ∷ ps) = by (is_open (reported p)) (reported_none life ps)
  where
    rest : List Publish
    rest = filter is_open (map reported ps)

    by : (b : Bool) → lines_of life rest ≡ [] → lines_of life (cond b (reported p ∷ rest) rest) ≡ []
    by true e = e
    by false e = e

deliveries_none : (life : ℕ) (ds : List Delivery)
    → deliveries.lines_of life (filter consume.is_open (map (λ d. trimmed (consume.reported d)) ds)) ≡ []
deliveries_none life [] = refl
deliveries_none life (d ∷ ds) = by (consume.is_open (trimmed (consume.reported d))) (deliveries_none life ds)
  where
    rest : List Delivery
    rest = filter consume.is_open (map (λ d. trimmed (consume.reported d)) ds)

    by : (b : Bool) → deliveries.lines_of life rest ≡ []
        → deliveries.lines_of life (cond b (trimmed (consume.reported d) ∷ rest) rest) ≡ []
    by true e = e
    by false e = e

path_none : (life : ℕ) (o : Option PathState) → lines_on life (option_map lines_told o) ≡ []
path_none life None = refl
path_none life (Some s) = by (s.publishes.life == life)
  where
    told : List Delivery
    told = filter consume.is_open (map (λ d. trimmed (consume.reported d)) s.deliveries.list)

    by : (b : Bool)
        → (if b then lines_of s.publishes.life (filter is_open (map reported s.publishes.list)) ++ deliveries.lines_of s.deliveries.life told else []) ≡ []
    by true =
        ap (λ (items : List LostItem). items ++ deliveries.lines_of s.deliveries.life told) (reported_none s.publishes.life s.publishes.list)
        ∙ deliveries_none s.deliveries.life s.deliveries.list
    by false = refl

life_none : (life : ℕ) (ps : List (Option PathState)) → lines_of_life life (told_paths ps) ≡ []
life_none life [] = refl
life_none life (o ∷ os) = ap (λ (items : List LostItem). items ++ lines_of_life life (told_paths os)) (path_none life o) ∙ life_none life os

pub none_told : (ps : List (Option PathState)) (n : ℕ) → lines_in (told_paths ps) n ≡ []
none_told ps zero = refl
none_told ps (suc n) = ap (λ (items : List LostItem). items ++ lines_of_life (suc n) (told_paths ps)) (none_told ps n) ∙ life_none (suc n) ps

-- ---- what is held

-- one that is forgotten with its line isn't
closed_unheld : (p : Publish) → is_open (reported p) ≡ false → is_held p ≡ false
closed_unheld p e = by (is_sending p.place) (not (is_settled p.answer)) (has_any p.back) e
  where
    none : (a : Bool) → (a && false) ≡ false
    none true = refl
    none false = refl

    by : (b c d : Bool) → ((b || c || false) || d) ≡ false → (b || (has_no_outcome p.answer && d)) ≡ false
    by true c d e = absurd cc
    by false true d e = absurd cc
    by false false true e = absurd cc
    by false false false e = none (has_no_outcome p.answer)

sum_kept : (f : Publish → ℕ) → ((p : Publish) → f (reported p) ≡ f p) → ((p : Publish) → is_held p ≡ false → f p ≡ 0) → (ps : List Publish)
    → sum_by f (filter is_open (map reported ps)) ≡ sum_by f ps
sum_kept f same none [] = refl
sum_kept f same none (p ∷ ps) = by (is_open (reported p)) refl (sum_kept f same none ps)
  where
    rest : List Publish
    rest = filter is_open (map reported ps)

    by : (b : Bool) → is_open (reported p) ≡ b → sum_by f rest ≡ sum_by f ps → sum_by f (cond b (reported p ∷ rest) rest) ≡ sum_by f (p ∷ ps)
    by true e ih =
        sum_by-cons f (reported p) rest ∙ ap (λ (n : ℕ). n + sum_by f rest) (same p) ∙ ap (λ (n : ℕ). f p + n) ih ∙ sym (sum_by-cons f p ps)
    by false e ih =
        let unheld : f p ≡ 0 = none p (closed_unheld p e) in
        omega (arith, ih, unheld, sum_by-cons f p ps)

slots_kept : (f : Option PathState → ℕ) → ((o : Option PathState) → f (option_map lines_told o) ≡ f o) → (ps : List (Option PathState))
    → sum_by f (told_paths ps) ≡ sum_by f ps
slots_kept f same [] = refl
slots_kept f same (o ∷ os) =
    sum_by-cons f (option_map lines_told o) (told_paths os) ∙ ap (λ (n : ℕ). n + sum_by f (told_paths os)) (same o)
    ∙ ap (λ (n : ℕ). f o + n) (slots_kept f same os) ∙ sym (sum_by-cons f o os)

held_kept : (o : Option PathState) → held_on (option_map lines_told o) ≡ held_on o
held_kept None = refl
held_kept (Some s) =
    sum_kept (λ (p : Publish). cond (is_held p) 1 0) (λ p. refl) (λ p e. ap (λ (b : Bool). cond b 1 0) e) s.publishes.list

bytes_kept : (o : Option PathState) → bytes_on (option_map lines_told o) ≡ bytes_on o
bytes_kept None = refl
bytes_kept (Some s) =
    sum_kept held_size (λ p. refl) (λ p e. ap (λ (b : Bool). if b then p.size else 0) e) s.publishes.list

pub laden_told : (ps : List (Option PathState)) → is_laden (told_paths ps) ≡ is_laden ps
laden_told ps =
    ap (λ (n : ℕ). nat_le HELD_PUBLISHES n || nat_le HELD_BYTES (bytes_in (told_paths ps))) (slots_kept held_on held_kept ps)
    ∙ ap (λ (n : ℕ). nat_le HELD_PUBLISHES (held_in ps) || nat_le HELD_BYTES n) (slots_kept bytes_on bytes_kept ps)
