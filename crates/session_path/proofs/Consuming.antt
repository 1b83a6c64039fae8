-- The tag of a consumer.
use Rattle.std.proofs.Common.{◌≡◌, ◌∙◌, ℕ, suc, ◌+◌, List, true, false, ap, sym}
use Rattle.std.proofs.Common.{cond}
use Rattle.consume_path.specs.Links.{is_tag_used}
use Rattle.consume_path.specs.declared.receiving.ReceivingLink.{ReceivingLink}
use Rattle.session_path.specs.Path.{free_from, numbered_tag}

-- a tag that is in use is passed over, and another one is taken
pub passed_over : (k n m : ℕ) (links : List ReceivingLink) → is_tag_used (numbered_tag n) links ≡ true → free_from (suc k) n links ≡ m → free_from k (n + 1) links ≡ m
passed_over k n m links used e = sym (ap (λ b. cond b (free_from k (n + 1) links) n) used) ∙ e

pub found_free : (k n m : ℕ) (links : List ReceivingLink) → is_tag_used (numbered_tag n) links ≡ false → free_from (suc k) n links ≡ m → n ≡ m
found_free k n m links free e = sym (ap (λ b. cond b (free_from k (n + 1) links) n) free) ∙ e
