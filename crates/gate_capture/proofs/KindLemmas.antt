-- The bytes of a capture that tell what follows, both ways.
use Rattle.std.proofs.Common.{◌≡◌, ℕ, ◌<◌, Bool, true, false, cond, eqb, Option, Some, refl, sym}
use Rattle.std.proofs.Common.{ap, ◌∙◌, arith}
use Rattle.std.proofs.lemmas.Bool.{eqb-true}
use Rattle.gate_outside.specs.declared.ports.End.{End}
use Rattle.gate_outside.specs.declared.ports.End.TheVariants.{Client, Up}
use Rattle.gate_outside.specs.declared.ports.Next.{Next}
use Rattle.gate_outside.specs.declared.ports.Next.TheVariants.{Go, Stop}
use Rattle.gate_capture.specs.declared.kinds.EntryKind.{EntryKind}
use Rattle.gate_capture.specs.declared.kinds.EntryKind.TheVariants as kind
use Rattle.gate_capture.specs.declared.kinds.Answer.{Answer}
use Rattle.gate_capture.specs.declared.kinds.Answer.TheVariants as answer
use Rattle.gate_capture.specs.Kinds.{kind_byte, kind_of, answer_byte, answer_of, end_byte, end_of}
use Rattle.gate_capture.specs.Kinds.{next_byte, next_of}
use Rattle.gate_capture.proofs.Readers.{AreBytes}

-- one link of a chain of bytes
link : {A : Type 0} (byte : A → ℕ) (b n : ℕ) (x : A) (rest : Option A) (a : A) → byte x ≡ n → cond (eqb b n) (Some x) rest ≡ Some a → (rest ≡ Some a → byte a ≡ b) → byte a ≡ b
link {A} byte b n x rest a here e later = at (eqb b n) refl e
  where
    at : (t : Bool) → eqb b n ≡ t → cond t (Some x) rest ≡ Some a → byte a ≡ b
    at true p e = let same : x ≡ a = cc in ap byte (sym same) ∙ here ∙ sym (eqb-true b n p)
    at false p e = later e

pub kind_bytes : AreBytes kind_of kind_byte
kind_bytes = record { below = below; known = known; is = is }
  where
    below : (k : EntryKind) → kind_byte k < 256
    below kind.Accept = omega arith
    below kind.Connect = omega arith
    below kind.Read = omega arith
    below kind.Write = omega arith
    below kind.Shut = omega arith
    below kind.Idle = omega arith
    below kind.Now = omega arith

    known : (k : EntryKind) → kind_of (kind_byte k) ≡ Some k
    known kind.Accept = refl
    known kind.Connect = refl
    known kind.Read = refl
    known kind.Write = refl
    known kind.Shut = refl
    known kind.Idle = refl
    known kind.Now = refl

    is : (b : ℕ) (k : EntryKind) → kind_of b ≡ Some k → kind_byte k ≡ b
    is b k e =
        link kind_byte b 1 _ _ k refl e (λ e.
        link kind_byte b 2 _ _ k refl e (λ e.
        link kind_byte b 3 _ _ k refl e (λ e.
        link kind_byte b 4 _ _ k refl e (λ e.
        link kind_byte b 5 _ _ k refl e (λ e.
        link kind_byte b 6 _ _ k refl e (λ e.
        link kind_byte b 7 _ _ k refl e (λ e. absurd cc)))))))

pub answer_bytes : AreBytes answer_of answer_byte
answer_bytes = record { below = below; known = known; is = is }
  where
    below : (a : Answer) → answer_byte a < 256
    below answer.NotYet = omega arith
    below answer.Done = omega arith
    below answer.Failed = omega arith
    below answer.Ended = omega arith

    known : (a : Answer) → answer_of (answer_byte a) ≡ Some a
    known answer.NotYet = refl
    known answer.Done = refl
    known answer.Failed = refl
    known answer.Ended = refl

    is : (b : ℕ) (a : Answer) → answer_of b ≡ Some a → answer_byte a ≡ b
    is b a e =
        link answer_byte b 0 _ _ a refl e (λ e.
        link answer_byte b 1 _ _ a refl e (λ e.
        link answer_byte b 2 _ _ a refl e (λ e.
        link answer_byte b 3 _ _ a refl e (λ e. absurd cc))))

pub end_bytes : AreBytes end_of end_byte
end_bytes = record { below = below; known = known; is = is }
  where
    below : (a : End) → end_byte a < 256
    below Client = omega arith
    below Up = omega arith

    known : (a : End) → end_of (end_byte a) ≡ Some a
    known Client = refl
    known Up = refl

    is : (b : ℕ) (a : End) → end_of b ≡ Some a → end_byte a ≡ b
    is b a e = link end_byte b 0 _ _ a refl e (λ e. link end_byte b 1 _ _ a refl e (λ e. absurd cc))

pub next_bytes : AreBytes next_of next_byte
next_bytes = record { below = below; known = known; is = is }
  where
    below : (a : Next) → next_byte a < 256
    below Go = omega arith
    below Stop = omega arith

    known : (a : Next) → next_of (next_byte a) ≡ Some a
    known Go = refl
    known Stop = refl

    is : (b : ℕ) (a : Next) → next_of b ≡ Some a → next_byte a ≡ b
    is b a e = link next_byte b 0 _ _ a refl e (λ e. link next_byte b 1 _ _ a refl e (λ e. absurd cc))
