-- The transfer that ends its delivery, and the whole delivery that is taken at once.
use Rattle.std.proofs.Common.{◌≡◌, ◌∙◌, ℕ, ◌+◌, List, [], ◌∷◌, ◌++◌, Bool, true, false, refl, sym, ap}
use Rattle.std.proofs.Common.{arith, Option, Some, None, cond, map}
use Rattle.std.specs.Prelude.{◌==◌, is_some}
use Rattle.std.specs.Option.{option_map}
use Rattle.std.proofs.lemmas.Bool.Decides.{nat_tests}
use Rattle.links_10.specs.Recv.{recounted, after_arrival}
use Rattle.consume_path.specs.declared.delivery.Arriving.{Arriving}
use Rattle.consume_path.specs.declared.delivery.Content.{Content}
use Rattle.consume_path.specs.declared.delivery.Delivery.{Delivery}
use Rattle.consume_path.specs.declared.receiving.Part.{Part}
use Rattle.consume_path.specs.declared.receiving.ReceivingLink.{ReceivingLink}
use Rattle.consume_path.specs.Items.{new_delivery}
use Rattle.consume_path.specs.Links.{link_of, has_number, change_first, transfer_came, taken_from}
use Rattle.consume_path.specs.Links.{recount, begun, is_between, counted_on}
use Rattle.consume_path.specs.Deliveries.{DeliveryState, TransferCame, Arrived, with_list, each_link}
use Rattle.consume_path.specs.Deliveries.{after_event}
use Rattle.consume_path.specs.Kept.{counted_anew}
use Rattle.consume_path.specs.Offers.{arriving_in, ending_in, arrived_whole, added, ended_on}
use Rattle.consume_path.proofs.Finding.{find_map, find_change}

-- what is taken of a link is the same with a payload and without
link_ended : (link : ℕ) (part : Part) (payload : List ℕ) (image : Bool) (list later : List Delivery) (l : ReceivingLink) → part.aborted ≡ false → (l.link == link) ≡ true
    → recount later (taken_from link image (recount list (transfer_came part payload l))) ≡ recount later (taken_from link image (begun l))
link_ended link part payload image list later l e f = rw e (rw f refl)

links_counted : (link : ℕ) (image : Bool) (list later : List Delivery) (links : List ReceivingLink)
    → map (recount later) (map (taken_from link image) (map (recount list) links)) ≡ map (recount later) (map (taken_from link image) links)
links_counted link image list later [] = refl
links_counted link image list later (l ∷ ls) = ap (λ xs. recount later (taken_from link image l) ∷ xs) (links_counted link image list later ls)

links_ended : (link : ℕ) (part : Part) (payload : List ℕ) (image : Bool) (list later : List Delivery) → part.aborted ≡ false → (links : List ReceivingLink)
    → map (recount later) (map (taken_from link image) (map (recount list) (change_first (has_number link) (transfer_came part payload) links)))
    ≡ map (recount later) (map (taken_from link image) (change_first (has_number link) begun links))
links_ended link part payload image list later e [] = refl
links_ended link part payload image list later e (l ∷ ls) = by (l.link == link) refl (links_ended link part payload image list later e ls)
  where
    by : (b : Bool) → (l.link == link) ≡ b
        → map (recount later) (map (taken_from link image) (map (recount list) (change_first (has_number link) (transfer_came part payload) ls)))
        ≡ map (recount later) (map (taken_from link image) (change_first (has_number link) begun ls))
        → map (recount later) (map (taken_from link image) (map (recount list) (cond b (transfer_came part payload l ∷ ls) (l ∷ change_first (has_number link) (transfer_came part payload) ls))))
        ≡ map (recount later) (map (taken_from link image) (cond b (begun l ∷ ls) (l ∷ change_first (has_number link) begun ls)))
    by true f ih =
        ap (λ x. x ∷ map (recount later) (map (taken_from link image) (map (recount list) ls))) (link_ended link part payload image list later l e f)
        ∙ ap (λ xs. recount later (taken_from link image (begun l)) ∷ xs) (links_counted link image list later ls)
    by false f ih = ap (λ xs. recount later (taken_from link image l) ∷ xs) ih

same : (k : ℕ) → (k == k) ≡ true
same k = grind (arith, nat_tests)

-- it is the delivery that the transfer ends
arriving_ended : (link : ℕ) (part : Part) (payload : List ℕ) (list : List Delivery) (links : List ReceivingLink) → part.aborted ≡ false
    → arriving_in link (link_of (map (recount list) (change_first (has_number link) (transfer_came part payload) links)) link) ≡ ending_in link part (link_of links link)
arriving_ended link part payload list links e =
    ap (arriving_in link) (find_map (recount list) (λ l. refl) (change_first (has_number link) (transfer_came part payload) links) link)
    ∙ ap (λ o. arriving_in link (option_map (recount list) o)) (find_change (transfer_came part payload) (λ l. refl) link link links) ∙ by (link == link) (same link) (link_of links link)
  where
    by : (b : Bool) → b ≡ true → (o : Option ReceivingLink) → arriving_in link (option_map (recount list) (cond b (option_map (transfer_came part payload) o) o)) ≡ ending_in link part o
    by true f None = refl
    by true f (Some l) = rw e refl
    by false f o = absurd (cc)

ending_link : (link : ℕ) (part : Part) (o : Option ReceivingLink) → (ending_in link part o).link ≡ link
ending_link link part None = refl
ending_link link part (Some l) = refl

-- the deliveries and the links of a life after it
pub ended : (link : ℕ) (part : Part) (payload : List ℕ) (content : Option Content) (again : Bool) (s : DeliveryState) → part.aborted ≡ false
    → ended_on link (is_some content) (added (ending_in link part (link_of s.links link)) content again s)
    ≡ arrived_whole link part payload content again s
ended link part payload content again s e =
    let before : DeliveryState = after_event (TransferCame link part payload) s in
    let ending : Arriving = ending_in link part (link_of s.links link) in
    let list : List Delivery = s.list ++ new_delivery s.closed (s.arrived + 1) ending content again ∷ [] in
    sym (ap (λ a. after_event (Arrived a content again) before) (arriving_ended link part payload s.list s.links e)
    ∙ ap (λ n. with_list list (each_link (taken_from n (is_some content)) (record before { arrived = s.arrived + 1 }))) (ending_link link part (link_of s.links link))
    ∙ ap (λ links. record s { list = list; arrived = s.arrived + 1; links = links }) (links_ended link part payload (is_some content) s.list list e s.links))

-- each link is counted anew before, or only then

begun_counted : (link : ℕ) (image : Bool) (list : List Delivery) (links : List ReceivingLink)
    → map (recount list) (map (taken_from link image) (change_first (has_number link) begun (map (recount list) links))) ≡ map (recount list) (map (taken_from link image) (change_first (has_number link) begun links))
begun_counted link image list [] = refl
begun_counted link image list (l ∷ ls) = by (l.link == link) (begun_counted link image list ls)
  where
    state : (n m : ℕ) (b : Bool) → recounted n (cond b (after_arrival (recounted m l.state)) (recounted m l.state)) ≡ recounted n (cond b (after_arrival l.state) l.state)
    state n m true = refl
    state n m false = refl

    one : recount list (taken_from link image (begun (recount list l))) ≡ recount list (taken_from link image (begun l))
    one = ap (λ s. record (taken_from link image l) { state = s }) (state (counted_on list (taken_from link image l)) (counted_on list l) (is_between l))

    by : (b : Bool) → map (recount list) (map (taken_from link image) (change_first (has_number link) begun (map (recount list) ls))) ≡ map (recount list) (map (taken_from link image) (change_first (has_number link) begun ls))
        → map (recount list) (map (taken_from link image) (cond b (begun (recount list l) ∷ map (recount list) ls) (recount list l ∷ change_first (has_number link) begun (map (recount list) ls))))
        ≡ map (recount list) (map (taken_from link image) (cond b (begun l ∷ ls) (l ∷ change_first (has_number link) begun ls)))
    by true ih =
        ap (λ x. x ∷ map (recount list) (map (taken_from link image) (map (recount list) ls))) one
        ∙ ap (λ xs. recount list (taken_from link image (begun l)) ∷ xs) (links_counted link image list list ls)
    by false ih = ap (λ xs. recount list (taken_from link image l) ∷ xs) ih

pub ended_counted : (link : ℕ) (image : Bool) (s : DeliveryState) → ended_on link image (counted_anew s) ≡ ended_on link image s
ended_counted link image s = ap (λ links. record s { links = links }) (begun_counted link image s.list s.links)

arriving_link : (link : ℕ) (o : Option ReceivingLink) → (arriving_in link o).link ≡ link
arriving_link link None = refl
arriving_link link (Some l) = refl

pub arrived_is : (link : ℕ) (content : Option Content) (again : Bool) (s : DeliveryState)
    → counted_anew (each_link (taken_from link (is_some content)) (counted_anew (added (arriving_in link (link_of s.links link)) content again s)))
    ≡ after_event (Arrived (arriving_in link (link_of s.links link)) content again) s
arrived_is link content again s =
    let arriving : Arriving = arriving_in link (link_of s.links link) in
    let list : List Delivery = s.list ++ new_delivery s.closed (s.arrived + 1) arriving content again ∷ [] in
    ap (λ links. record s { list = list; arrived = s.arrived + 1; links = links }) (links_counted link (is_some content) list list s.links)
    ∙ ap (λ n. with_list list (each_link (taken_from n (is_some content)) (record s { arrived = s.arrived + 1 }))) (sym (arriving_link link (link_of s.links link)))
