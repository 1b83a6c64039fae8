-- Exchanges are read exactly of the texts that spell them.
use Rattle.std.proofs.Common.{◌≡◌, ◌≢◌, ℕ, ◌≤◌, ◌==◌, ◌||◌, ◌&&◌, ltb, leb, Bool, true, false, not}
use Rattle.std.proofs.Common.{cond, List, [], ◌∷◌, ◌++◌, length, map, Option, Some, None, refl, sym}
use Rattle.std.proofs.Common.{◌∙◌, ap, subst, arith, append_assoc}
use Rattle.std.proofs.Math.Bool.{and-true, and-false}
use Rattle.std.specs.Prelude.{codes, unwrap_or}
use Rattle.std.specs.List.{AllByRecursion, join_with_byte, list_any}
use Rattle.std.proofs.lemmas.Bool.{and_parts, not-true}
use Rattle.std.proofs.lemmas.Bool.Decides.{nat_tests}
use Rattle.std.proofs.lemmas.List.Folds.{list_any-append}
use Rattle.std.proofs.lemmas.List.Splits.{join_with_byte-slice_split}
use Rattle.gate_model.specs.Setup.{is_named, IsRoute, AreApart, AreRoutes}
use Rattle.gate_model.specs.declared.setup.Route.{Route}
use Rattle.gate_command.specs.Command.{route_text, routes_text, has_mark, IsPlain}
use Rattle.gate_command.specs.Reading.{cut, route_of, routes_of, is_sized, is_route, are_routes}
use Rattle.gate_command.specs.Reading.{routes_in}
use Rattle.gate_command.proofs.Cutting.{cut_some, cut_behind, front_free}
use Rattle.gate_command.proofs.Parts.{parts, has_byte, parts-joined, parts_free, parts_some}

-- neither is true
neither : (a b : Bool) → (a || b) ≡ false → (a ≡ false) × (b ≡ false)
neither true b h = absurd cc
neither false b h = (refl, h)

list_any-or : {X : Type 0} (p q : X → Bool) (xs : List X)
    → list_any (λ x. p x || q x) xs ≡ (list_any p xs || list_any q xs)
list_any-or p q [] = refl
list_any-or p q (x ∷ xs) = rw (list_any-or p q xs) (at (p x) (q x) (list_any p xs) (list_any q xs))
  where
    at : (a b c d : Bool) → ((a || b) || (c || d)) ≡ ((a || c) || (b || d))
    at true b c d = refl
    at false true true d = refl
    at false true false d = refl
    at false false c d = refl

-- no byte is a mark where none is a comma and none is `=`
unmarked : (text : List ℕ) → has_mark text ≡ false
    → (has_byte 44 text ≡ false) × (has_byte 61 text ≡ false)
unmarked text h =
    neither (has_byte 44 text) (has_byte 61 text)
    (sym (list_any-or (λ byte. byte == 44) (λ byte. byte == 61) text) ∙ h)

no_mark : (text : List ℕ) → has_byte 44 text ≡ false → has_byte 61 text ≡ false
    → has_mark text ≡ false
no_mark text comma equals =
    list_any-or (λ byte. byte == 44) (λ byte. byte == 61) text ∙ rw (comma, equals) refl

-- ---- what a text spells is read of it

route_of-text : (r : Route) → IsPlain r → route_of (route_text r) ≡ r
route_of-text r plain =
    let free = (unmarked r.exchange plain.0).1 in
    rw (append_assoc r.exchange (codes "=") r.address, cut_behind r.exchange r.address free) refl

text_free : (r : Route) → IsPlain r → has_byte 44 (route_text r) ≡ false
text_free r plain =
    let exchange = (unmarked r.exchange plain.0).0 in
    let address = (unmarked r.address plain.1).0 in
    rw (
      append_assoc r.exchange (codes "=") r.address,
      list_any-append (λ byte. byte == 44) r.exchange (codes "=" ++ r.address),
      exchange,
    ) address

texts_free : (rs : List Route) → AllByRecursion IsPlain rs
    → AllByRecursion (λ text. has_byte 44 text ≡ false) (map route_text rs)
texts_free [] plain = tt
texts_free (r ∷ rs) plain = (text_free r plain.0, texts_free rs plain.1)

all_again : (rs : List Route) → AllByRecursion IsPlain rs → map route_of (map route_text rs) ≡ rs
all_again [] plain = refl
all_again (r ∷ rs) plain = rw (route_of-text r plain.0, all_again rs plain.1) refl

routes_of-text : (rs : List Route) → rs ≢ [] → AllByRecursion IsPlain rs
    → routes_of (routes_text rs) ≡ rs
unfolding routes_of
routes_of-text [] some plain = absurd (some refl)
routes_of-text (r ∷ rs) some plain =
    ap (map route_of)
    (parts-joined 44 (map route_text (r ∷ rs)) (λ e. absurd cc) (texts_free (r ∷ rs) plain))
    ∙ all_again (r ∷ rs) plain

-- ---- a list that may stand is in form

is_sized-true : (text : List ℕ) → 1 ≤ length text → length text ≤ 255 → is_sized text ≡ true
is_sized-true text some short = grind (arith, nat_tests)

sized : (text : List ℕ) → is_sized text ≡ true → (1 ≤ length text) × (length text ≤ 255)
sized text h =
    let (some, short) = and_parts (ltb 0 (length text)) (leb (length text) 255) h in
    (grind (arith, nat_tests), grind (arith, nat_tests))

-- a part may stand
record MayStand (r : Route) : Type 0 where
  in_form : IsRoute r
  free : has_byte 61 r.address ≡ false

is_route-true : (r : Route) → IsRoute r → IsPlain r → is_route r ≡ true
is_route-true r in_form plain =
    let exchange = is_sized-true r.exchange in_form.named in_form.short in
    let address = is_sized-true r.address in_form.addressed in_form.brief in
    rw (exchange, address, (unmarked r.address plain.1).1) refl

is_route-is : (r : Route) → is_route r ≡ true → MayStand r
is_route-is r h =
    let both = is_sized r.exchange && is_sized r.address in
    let (sizes, free) = and_parts both (not (has_byte 61 r.address)) h in
    let (exchange, address) = and_parts (is_sized r.exchange) (is_sized r.address) sizes in
    let (named, short) = sized r.exchange exchange in
    let (addressed, brief) = sized r.address address in
    record {
      in_form = record { named = named; short = short; addressed = addressed; brief = brief };
      free = not-true (has_byte 61 r.address) free;
    }

are_routes-true : (rs : List Route) → AllByRecursion IsRoute rs → AreApart rs
    → AllByRecursion IsPlain rs → are_routes rs ≡ true
unfolding are_routes
are_routes-true [] each apart plain = refl
are_routes-true (r ∷ rs) each apart plain =
    rw (is_route-true r each.0 plain.0, apart.0, are_routes-true rs each.1 apart.1 plain.1) refl

-- all parts may, and no exchange stands twice
record AllMayStand (rs : List Route) : Type 0 where
  each : AllByRecursion MayStand rs
  apart : AreApart rs

are_routes-is : (rs : List Route) → are_routes rs ≡ true → AllMayStand rs
unfolding are_routes
are_routes-is [] h = record { each = tt; apart = tt }
are_routes-is (r ∷ rs) h =
    let named = list_any (is_named r.exchange) rs in
    let (first, others) = and_parts (is_route r && not named) (are_routes rs) h in
    let (is, apart) = and_parts (is_route r) (not named) first in
    let rest = are_routes-is rs others in
    record {
      each = (is_route-is r is, rest.each);
      apart = (not-true named apart, rest.apart);
    }

pub routes_in-text : (rs : List Route) → rs ≢ [] → AreRoutes rs → AllByRecursion IsPlain rs
    → routes_in (routes_text rs) ≡ Some rs
unfolding routes_in
routes_in-text rs some in_form plain =
    rw (routes_of-text rs some plain, are_routes-true rs in_form.each in_form.apart plain) refl

-- ---- what is read of a text is what it spells

spelled : (part : List ℕ) → 1 ≤ length (route_of part).address → route_text (route_of part) ≡ part
spelled part some = at (cut part).1 refl some
  where
    at : (back : Option (List ℕ)) → (cut part).1 ≡ back → 1 ≤ length (unwrap_or back [])
        → (cut part).0 ++ codes "=" ++ unwrap_or back [] ≡ part
    at None is none = absurd (omega arith)
    at (Some value) is h = append_assoc (cut part).0 (codes "=") value ∙ cut_some part value is

all_spelled : (texts : List (List ℕ)) → AllByRecursion MayStand (map route_of texts)
    → map route_text (map route_of texts) ≡ texts
all_spelled [] may = refl
all_spelled (text ∷ texts) may =
    rw (spelled text may.0.in_form.addressed, all_spelled texts may.1) refl

plain : (part : List ℕ) → has_byte 44 part ≡ false → MayStand (route_of part)
    → IsPlain (route_of part)
plain part free may =
    let r = route_of part in
    let front = r.exchange ++ codes "=" in
    let word : (front ++ r.address) ≡ part = spelled part may.in_form.addressed in
    let commas : has_byte 44 (front ++ r.address) ≡ false = rw word free in
    let all = sym (list_any-append (λ byte. byte == 44) front r.address) ∙ commas in
    let (before, address) = neither (has_byte 44 front) (has_byte 44 r.address) all in
    let begun = sym (list_any-append (λ byte. byte == 44) r.exchange (codes "=")) ∙ before in
    let (exchange, sign) = neither (has_byte 44 r.exchange) (has_byte 44 (codes "=")) begun in
    (no_mark r.exchange exchange (front_free part), no_mark r.address address may.free)

all_plain : (texts : List (List ℕ)) → AllByRecursion (λ text. has_byte 44 text ≡ false) texts
    → AllByRecursion MayStand (map route_of texts) → AllByRecursion IsPlain (map route_of texts)
all_plain [] free may = tt
all_plain (text ∷ texts) free may = (plain text free.0 may.0, all_plain texts free.1 may.1)

all_in_form : (rs : List Route) → AllByRecursion MayStand rs → AllByRecursion IsRoute rs
all_in_form [] may = tt
all_in_form (r ∷ rs) may = (may.0.in_form, all_in_form rs may.1)

-- a text of which exchanges are read
pub record AreOf (text : List ℕ) (rs : List Route) : Type 0 where
  pub spelled : routes_text rs ≡ text
  pub some : rs ≢ []
  pub in_form : AreRoutes rs
  pub plain : AllByRecursion IsPlain rs

are_of : (text : List ℕ) → are_routes (routes_of text) ≡ true → AreOf text (routes_of text)
unfolding routes_of
are_of text h =
    let all = are_routes-is (map route_of (parts 44 text)) h in
    record {
      spelled =
          ap (join_with_byte 44) (all_spelled (parts 44 text) all.each)
          ∙ join_with_byte-slice_split 44 text;
      some = not_empty (parts 44 text) (parts_some 44 text);
      in_form = record {
        each = all_in_form (map route_of (parts 44 text)) all.each;
        apart = all.apart;
      };
      plain = all_plain (parts 44 text) (parts_free 44 text) all.each;
    }
  where
    not_empty : (texts : List (List ℕ)) → 1 ≤ length texts → map route_of texts ≢ []
    not_empty [] some = absurd (omega arith)
    not_empty (text ∷ texts) some = λ e. absurd cc

pub routes_in-is : (text : List ℕ) (rs : List Route) → routes_in text ≡ Some rs → AreOf text rs
unfolding routes_in
routes_in-is text rs h = at (are_routes (routes_of text)) refl h
  where
    at : (t : Bool) → are_routes (routes_of text) ≡ t
        → cond t (Some (routes_of text)) None ≡ Some rs → AreOf text rs
    at false is e = absurd cc
    at true is e =
        let same : routes_of text ≡ rs = cc in
        subst (λ (x : List Route). AreOf text x) same (are_of text is)

-- an empty text lists none
pub routes_in-nil : routes_in [] ≡ None
unfolding routes_in routes_of are_routes
routes_in-nil = refl

-- ---- part by part

routes_of-first : (text part after : List ℕ) → parts 44 text ≡ part ∷ parts 44 after
    → routes_of text ≡ route_of part ∷ routes_of after
unfolding routes_of
routes_of-first text part after h = rw h refl

routes_of-last : (text : List ℕ) → parts 44 text ≡ text ∷ []
    → routes_of text ≡ route_of text ∷ []
unfolding routes_of
routes_of-last text h = rw h refl

list_any-map : {X Y : Type 0} (p : Y → Bool) (f : X → Y) (xs : List X)
    → list_any p (map f xs) ≡ list_any (λ x. p (f x)) xs
list_any-map p f [] = refl
list_any-map p f (x ∷ xs) = rw (list_any-map p f xs) refl

pub routes_of-any : (p : Route → Bool) (text : List ℕ)
    → list_any p (routes_of text) ≡ list_any (λ part. p (route_of part)) (parts 44 text)
unfolding routes_of
routes_of-any p text = list_any-map p route_of (parts 44 text)

-- a list may stand where its first part may, the others don't name its exchange, and may stand
pub goes_on : (text part after : List ℕ) → parts 44 text ≡ part ∷ parts 44 after
    → is_route (route_of part) ≡ true
    → list_any (is_named (route_of part).exchange) (routes_of after) ≡ false
    → are_routes (routes_of after) ≡ are_routes (routes_of text)
unfolding are_routes
goes_on text part after h may other = rw (routes_of-first text part after h, may, other) refl

pub stops_at : (text part after : List ℕ) → parts 44 text ≡ part ∷ parts 44 after
    → is_route (route_of part) ≡ false → are_routes (routes_of text) ≡ false
unfolding are_routes
stops_at text part after h cannot = rw (routes_of-first text part after h, cannot) refl

pub stops_twice : (text part after : List ℕ) → parts 44 text ≡ part ∷ parts 44 after
    → list_any (is_named (route_of part).exchange) (routes_of after) ≡ true
    → are_routes (routes_of text) ≡ false
unfolding are_routes
stops_twice text part after h again =
    rw (routes_of-first text part after h, again, and-false (is_route (route_of part))) refl

pub ends_at : (text : List ℕ) → parts 44 text ≡ text ∷ []
    → are_routes (routes_of text) ≡ is_route (route_of text)
unfolding are_routes
ends_at text h =
    let may = is_route (route_of text) in
    rw (routes_of-last text h) (and-true (may && true) ∙ and-true may)

-- what is read then
pub routes_in-listed : (text : List ℕ) → are_routes (routes_of text) ≡ true
    → routes_in text ≡ Some (routes_of text)
unfolding routes_in
routes_in-listed text is = rw is refl

pub routes_in-refused : (text : List ℕ) → are_routes (routes_of text) ≡ false
    → routes_in text ≡ None
unfolding routes_in
routes_in-refused text isnt = rw isnt refl
