-- Rotation: what is refused and what is not, by the laws of tables, and the laws that callers use.
-- Assumes nothing.
use mathlib.Core.Path.{◌≡◌, refl, ap, ◌∙◌}
use mathlib.Core.List.{List}
use Prim.Native.Nat.{ℕ, ◌+◌, ◌%◌, ◌≤◌}
use lib.ListN.{length}
use Rattle.params.specs.declared.Params.{Params}
use Rattle.params.specs.Refusal.{Answer}
use Rattle.params.specs.Refusal.{answer, if_done}
use Rattle.params.specs.Ranges.{params_number}
use Rattle.params.specs.Sizes.{size}
use Rattle.params.proofs.Answers.{when_done}
use Rattle.params.proofs.Ranges.{in_range, size_from}
use Rattle.refusals.proofs.Table.{good, done}
use Rattle.ring.specs.Poly.{plus, minus, times}
use Rattle.ring.specs.Phase.{phase}
use Rattle.ring.specs.Turn.{rotated, negating, complemented}
use Rattle.ring.proofs.Places.{length-rotated}
use Rattle.ring.proofs.Value.{Reduced, proper_reduced}
use Rattle.ring.proofs.Turns.{rotated-rotated}
use Rattle.ring.proofs.Laws.{rotated_proper, phase-rotated}
use Rattle.rotation.specs.Rotate.{rotate_checks, rotate_number}
use Rattle.rotation.specs.Private.{RotateGood}

-- ---- refusals

module _ (p : Params) (la lo k : ℕ) where
  pub rotate_good : rotate_number p la lo k ≡ 0 → RotateGood p la lo k
  unfolding rotate_number
  rotate_good e =
      let f = good p (rotate_checks p la lo k) refl e in
      record { range = in_range p f.0; from = f.1.0; into = f.1.1.0; amount = f.1.1.1.0 }

  -- good arguments are not refused
  pub rotate_done : params_number p ≡ 0 → la ≡ size p → lo ≡ size p → k ≤ size p + size p → rotate_number p la lo k ≡ 0
  unfolding rotate_number
  rotate_done e a o l = done p (rotate_checks p la lo k) (e, (a, (o, (l, tt))))

-- ---- for callers, at good arguments

module _ (p : Params) (a o : List ℕ) (k : ℕ) (e : params_number p ≡ 0) (la : length a ≡ size p) (lo : length o ≡ size p) (lk : k ≤ size p + size p) where
  -- the call did its work
  pub rotate_answered : {r : Answer} → r ≡ answer (rotate_number p (length a) (length o) k) → r ≡ answer 0
  rotate_answered q = q ∙ ap answer (rotate_done p (length a) (length o) k e la lo lk)

  -- and the slice holds X^k · a
  pub rotate_written : {out : List ℕ} → out ≡ if_done (rotate_number p (length a) (length o) k) (rotated (size p) k a) o → out ≡ rotated (size p) k a
  rotate_written q = q ∙ when_done _ _ _ (rotate_done p (length a) (length o) k e la lo lk)

-- what is written: N words
pub rotated-length : (p : Params) (k : ℕ) (a : List ℕ) → length (rotated (size p) k a) ≡ size p
rotated-length p = length-rotated (size p)

pub rotated_words : (p : Params) (k : ℕ) (a : List ℕ) → Reduced a → Reduced (rotated (size p) k a)
rotated_words p k a ra = proper_reduced (size p) (size_from p) (rotated_proper (size p) (size_from p) k a ra)

-- rotations compose, amounts added modulo 2N (01, trgsw)
pub rotate_twice : (p : Params) (a : List ℕ) → Reduced a → (j k : ℕ) → j ≤ size p + size p → k ≤ size p + size p
    → rotated (size p) j (rotated (size p) k a) ≡ rotated (size p) ((j + k) % (size p + size p)) a
rotate_twice p = rotated-rotated (size p) (size_from p)

-- the phase of a rotated pair: it turns by X^k, and W · z less W is added, W being 1 where a coefficient was complemented (01, Drift)
pub rotate_phase : (p : Params) (k : ℕ) (z a b : List ℕ) → k ≤ size p + size p
    → phase (size p) z (rotated (size p) k a) (rotated (size p) k b)
    ≡ plus (size p) (negating (size p) k (phase (size p) z a b)) (minus (size p) (times (size p) (complemented (size p) k) z) (complemented (size p) k))
rotate_phase p = phase-rotated (size p) (size_from p)
