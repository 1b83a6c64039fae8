-- What is found from the places that are kept is what all deliveries offer.
use Rattle.std.proofs.Common.{◌≡◌, ◌∙◌, ℕ, List, [], ◌∷◌, Bool, false, refl, sym, drop, cond}
use Rattle.std.proofs.Common.{Option, None, Some}
use Rattle.std.specs.Prelude.{find, count_by, ◌&&◌}
use Rattle.std.specs.List.{AllByRecursion}
use Rattle.std.proofs.lemmas.Grind.{common_steps}
use Rattle.std.proofs.Common.{arith}
use Rattle.open_items.specs.Places.{AllFrom}
use Rattle.open_items.proofs.Places.{none_counted, from_any, from_find}
use Rattle.consume_path.specs.declared.delivery.Delivery.{Delivery}
use Rattle.consume_path.specs.declared.delivery.Place.{Place}
use Rattle.consume_path.specs.declared.delivery.Place.TheVariants.{Held, Out, Owed, Settled}
use Rattle.consume_path.specs.declared.delivery.Taker.{Taker}
use Rattle.consume_path.specs.declared.delivery.Taker.TheVariants.{Nobody, Getter, Consumer}
use Rattle.consume_path.specs.Items.{is_held, needs_content}
use Rattle.consume_path.specs.Offers.{soonest, rank_of, get_offer, consumer_offer, has_content}
use Rattle.consume_path.specs.Offers.{holds, is_held_on, on_link, getting, deliver_of}
use Rattle.consume_path.specs.Kept.{is_getter, is_waiting}
use Rattle.consume_path.proofs.Passing.{from_soonest}

not_held : (d : Delivery) → needs_content d ≡ false → is_held d.place ≡ false
not_held d e = grind (arith, common_steps)

pub get_ahead : (place : ℕ) (items : List Delivery) → AllFrom needs_content place items → soonest rank_of get_offer (drop place items) ≡ soonest rank_of get_offer items
get_ahead place items a = from_soonest rank_of needs_content get_offer place items (λ d e. let no : is_held d.place ≡ false = not_held d e in rw no refl) a

pub consumer_ahead : (free : Bool) (list : List Delivery) (place : ℕ) (items : List Delivery) → AllFrom needs_content place items → soonest rank_of (consumer_offer free list) (drop place items) ≡ soonest rank_of (consumer_offer free list) items
consumer_ahead free list place items a = from_soonest rank_of needs_content (consumer_offer free list) place items (λ d e. let no : is_held d.place ≡ false = not_held d e in rw no refl) a

pub content_ahead : (id place : ℕ) (items : List Delivery) → AllFrom needs_content place items → find (has_content id) (drop place items) ≡ find (has_content id) items
content_ahead id place items a = from_find needs_content (has_content id) place items (λ d e. grind (arith, common_steps)) a

pub held_ahead : (link place : ℕ) (items : List Delivery) → AllFrom needs_content place items → holds link (drop place items) ≡ holds link items
held_ahead link place items a = from_any needs_content (is_held_on link) place items (λ d e. grind (arith, common_steps)) a

-- where none waits for a get-ok, none is due

no_get : (d : Delivery) → is_waiting d ≡ false → get_offer d ≡ None
no_get d e = by d.place d.link d.taker e
  where
    by : (place : Place) (own : Option ℕ) (taker : Taker) → (is_held place && is_getter taker) ≡ false → cond (is_held place) (on_link own (λ link. getting taker (deliver_of link d))) None ≡ None
    by Out own taker e = refl
    by (Owed s) own taker e = refl
    by Settled own taker e = refl
    by Held None taker e = refl
    by Held (Some link) Nobody e = refl
    by Held (Some link) (Getter number no_ack) e = absurd (cc)
    by Held (Some link) (Consumer no_ack limit) e = refl

pub none_waiting : (n : ℕ) (items : List Delivery) → n ≡ count_by is_waiting items → n ≡ 0 → None ≡ soonest rank_of get_offer items
none_waiting n items counted none = sym (each items (none_counted is_waiting items (sym counted ∙ none)))
  where
    each : (ds : List Delivery) → AllByRecursion (λ d. is_waiting d ≡ false) ds → soonest rank_of get_offer ds ≡ None
    each [] a = refl
    each (d ∷ ds) a = rw (no_get d a.0) (each ds a.1)
