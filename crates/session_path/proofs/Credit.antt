-- A change of the credit of a link that has none changes nothing.
use Rattle.std.proofs.Common.{◌≡◌, ◌∙◌, ℕ, List, [], ◌∷◌, Bool, true, false, Option, Some, None}
use Rattle.std.proofs.Common.{map, refl, ap, cond}
use Rattle.std.specs.Prelude.{not}
use Rattle.links_10.specs.Send.{after_flow, after_drain}
use Rattle.publish_path.specs.declared.send_links.SendingLink.{SendingLink}
use Rattle.publish_path.specs.Links.{has_number, link_of, now_attached, flowed, drained, without}

module _ (n : ℕ) where
  missing : (x : SendingLink) (xs : List SendingLink) → link_of (x ∷ xs) n ≡ None → (has_number n x ≡ false) × (link_of xs n ≡ None)
  missing x xs e = by (has_number n x) refl e
    where
      by : (b : Bool) → has_number n x ≡ b → cond b (Some x) (link_of xs n) ≡ None → (has_number n x ≡ false) × (link_of xs n ≡ None)
      by true is e = absurd (cc)
      by false is e = (is, e)

  same_map : (f : SendingLink → SendingLink) → ((x : SendingLink) → has_number n x ≡ false → f x ≡ x) → (xs : List SendingLink) → link_of xs n ≡ None → map f xs ≡ xs
  same_map f same [] e = refl
  same_map f same (x ∷ xs) e = let m = missing x xs e in ap (λ y. y ∷ map f xs) (same x m.0) ∙ ap (λ ys. x ∷ ys) (same_map f same xs m.1)

pub attach_none : (n : ℕ) (xs : List SendingLink) → link_of xs n ≡ None → map (now_attached n) xs ≡ xs
attach_none n xs e = same_map n (now_attached n) (λ x no. ap (λ b. record x { attached = cond b true x.attached }) no) xs e

pub flow_none : (n : ℕ) (count : Option ℕ) (credit : ℕ) (xs : List SendingLink) → link_of xs n ≡ None → map (flowed n count credit) xs ≡ xs
flow_none n count credit xs e = same_map n (flowed n count credit) (λ x off. ap (λ b. record x { state = cond b (after_flow count credit x.state) x.state }) off) xs e

pub drain_none : (n : ℕ) (xs : List SendingLink) → link_of xs n ≡ None → map (drained n) xs ≡ xs
drain_none n xs e = same_map n (drained n) (λ x off. ap (λ b. record x { state = cond b (after_drain x.state) x.state }) off) xs e

pub remove_none : (n : ℕ) (xs : List SendingLink) → link_of xs n ≡ None → without n xs ≡ xs
remove_none n [] e = refl
remove_none n (x ∷ xs) e = let m = missing n x xs e in ap (λ b. cond (not b) (x ∷ without n xs) (without n xs)) m.0 ∙ ap (λ ys. x ∷ ys) (remove_none n xs m.1)
