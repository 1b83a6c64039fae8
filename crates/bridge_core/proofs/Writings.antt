-- Texts that are written one behind the other.
use Rattle.std.proofs.Common.{◌≡◌, ◌∙◌, ℕ, ◌≤◌, Bool, true, false, List, [], ◌++◌, Option}
use Rattle.std.proofs.Common.{None}
use Rattle.std.proofs.Common.{Some, inl, inr, refl, sym, ap, subst, arith, append_assoc, append-nil}
use Rattle.gate_outside.specs.Counts.{Rose}
use Rattle.gate_outside.specs.Streams.{Appends, AppendsFront}
use Rattle.gate_outside.proofs.Appending.{appends_then}
use Rattle.bridge_core.specs.Reports.{Writes}

rose_after : (f g h : ℕ) → f ≤ g → Rose g h → Rose f h
rose_after f g h le (inl lt) = inl (omega arith)
rose_after f g h le (inr top) = inr top

-- a front part of the second text stands behind the first
front_behind : (a b c : Option (List ℕ)) (xs ys : List ℕ) → Appends a b xs → AppendsFront b c ys → AppendsFront a c (xs ++ ys)
front_behind a b c xs ys p q = record {
  front = xs ++ q.front;
  back = q.back;
  parts = ap (λ (s : List ℕ). xs ++ s) q.parts ∙ sym (append_assoc xs q.front q.back);
  added = appends_then a b c xs q.front p q.added;
}

appends_none : (a : Option (List ℕ)) → Appends a a []
appends_none None = tt
appends_none (Some held) = sym (append-nil held)

pub writes_none : (f : ℕ) (a : Option (List ℕ)) → Writes true f f a a []
writes_none f a = record { later = omega arith; cause = tt; whole = appends_none a; part = tt }

-- what writing all the bytes says
pub writes_by : (done : Bool) (f g : ℕ) (a b : Option (List ℕ)) (xs : List ℕ) → f ≤ g → (done ≡ false → Rose f g) → (done ≡ true → Appends a b xs)
    → AppendsFront a b xs → Writes done f g a b xs
writes_by true f g a b xs later cause whole part = record { later = later; cause = tt; whole = whole refl; part = tt }
writes_by false f g a b xs later cause whole part = record { later = later; cause = cause refl; whole = tt; part = part }

pub writes_same : (done : Bool) (f g : ℕ) (a b : Option (List ℕ)) (xs ys : List ℕ) → xs ≡ ys → Writes done f g a b xs → Writes done f g a b ys
writes_same done f g a b xs ys e = subst (Writes done f g a b) e

pub writes_at : (done : Bool) (f g : ℕ) (a b : Option (List ℕ)) (xs : List ℕ) → done ≡ true → Writes done f g a b xs → Writes true f g a b xs
writes_at done f g a b xs e = subst (λ (d : Bool). Writes d f g a b xs) e

-- a text that was written whole, and then another
pub writes_then : (first done : Bool) (f g h : ℕ) (a b c : Option (List ℕ)) (xs ys : List ℕ) → first ≡ true → Writes first f g a b xs → Writes done g h b c ys
    → Writes done f h a c (xs ++ ys)
writes_then false done f g h a b c xs ys is p q = absurd cc
writes_then true true f g h a b c xs ys is p q = record {
  later = omega (arith, p.later, q.later);
  cause = tt;
  whole = appends_then a b c xs ys p.whole q.whole;
  part = tt;
}
writes_then true false f g h a b c xs ys is p q = record {
  later = omega (arith, p.later, q.later);
  cause = rose_after f g h p.later q.cause;
  whole = tt;
  part = front_behind a b c xs ys p.whole q.part;
}

-- a text that wasn't, and nothing behind it
pub writes_front : (done : Bool) (f g : ℕ) (a b : Option (List ℕ)) (xs ys : List ℕ) → done ≡ false → Writes done f g a b xs → Writes false f g a b (xs ++ ys)
writes_front true f g a b xs ys is p = absurd cc
writes_front false f g a b xs ys is p = record {
  later = p.later;
  cause = p.cause;
  whole = tt;
  part = record {
    front = p.part.front;
    back = p.part.back ++ ys;
    parts = ap (λ (s : List ℕ). s ++ ys) p.part.parts ∙ append_assoc p.part.front p.part.back ys;
    added = p.part.added;
  };
}

-- ---- a text in parts

-- so far parts of the text were written, and this is left of it
pub record Telling (f g : ℕ) (a b : Option (List ℕ)) (text left : List ℕ) : Type 0 where
  pub front : List ℕ
  pub written : Writes true f g a b front
  pub parts : text ≡ front ++ left

pub telling_starts : (f : ℕ) (a : Option (List ℕ)) (text : List ℕ) → Telling f f a a text text
telling_starts f a text = record { front = []; written = writes_none f a; parts = refl }

pub telling_more : (done : Bool) (f g h : ℕ) (a b c : Option (List ℕ)) (text left xs ys : List ℕ) → left ≡ xs ++ ys → done ≡ true
    → Telling f g a b text left → Writes done g h b c xs → Telling f h a c text ys
telling_more false f g h a b c text left xs ys e is t p = absurd cc
telling_more true f g h a b c text left xs ys e is t p = record {
  front = t.front ++ xs;
  written = writes_then true true f g h a b c t.front xs refl t.written p;
  parts = t.parts ∙ ap (λ (s : List ℕ). t.front ++ s) e ∙ sym (append_assoc t.front xs ys);
}

pub telling_stops : (done : Bool) (f g h : ℕ) (a b c : Option (List ℕ)) (text left xs ys : List ℕ) → left ≡ xs ++ ys → done ≡ false
    → Telling f g a b text left → Writes done g h b c xs → Writes false f h a c text
telling_stops true f g h a b c text left xs ys e is t p = absurd cc
telling_stops false f g h a b c text left xs ys e is t p =
    let parts : text ≡ t.front ++ (xs ++ ys) = t.parts ∙ ap (λ (s : List ℕ). t.front ++ s) e in
    subst (Writes false f h a c) (sym parts) (writes_then true false f g h a b c t.front (xs ++ ys) refl t.written (writes_front false g h b c xs ys refl p))

pub telling_ends : (f g : ℕ) (a b : Option (List ℕ)) (text left : List ℕ) → left ≡ [] → Telling f g a b text left → Writes true f g a b text
telling_ends f g a b text left e t =
    let parts : t.front ≡ text = sym (t.parts ∙ ap (λ (s : List ℕ). t.front ++ s) e ∙ append-nil t.front) in
    subst (Writes true f g a b) parts t.written
