-- The phase of a step of the blind rotation, for any key rows at all: the external product's phase, and the ring's law of a step.
-- Assumes nothing.
use mathlib.Core.Path.{◌≡◌, ap, ap₂, ◌∙◌}
use mathlib.Core.List.{List}
use Prim.Native.Nat.{ℕ, ◌+◌, ◌≤◌, ◌<◌}
use native.Mathlib.Nat.{le_of_lt}
use Rattle.ring.specs.Word.{Q, at}
use Rattle.ring.specs.Poly.{plus, minus, times, scale}
use Rattle.ring.specs.Turn.{rotated, negating, complemented}
use Rattle.ring.specs.Phase.{phase}
use Rattle.ring.proofs.Value.{below, proper_reduced}
use Rattle.ring.proofs.Laws.{phase_step, phase-rotated, step_zero, step_one, plus_comm, minus_proper}
use Rattle.params.specs.declared.Params.{Params}
use Rattle.params.specs.Ranges.{InRange}
use Rattle.params.specs.Sizes.{size}
use Rattle.params.proofs.Ranges.{size_from}
use Rattle.rotation.specs.Amount.{mask_amount}
use Rattle.rotation.proofs.Amounts.{mask_below}
use Rattle.trgsw.specs.External.{external, cmux_of}
use Rattle.trgsw.specs.Errors.{digit_errors, low_poly}
use Rattle.trgsw.proofs.Phase.{external-phase, cleared_less}
use Rattle.blind_rotation.specs.Blind.{turned, blind_step}
use Rattle.blind_rotation.specs.Drift.{step_moved}
use Rattle.ring.specs.Pair.{Pair, pair_minus}
use Rattle.key.specs.Bits.{bit_rows}

module _ (p : Params) (r : InRange p) (z rows : List ℕ) (k : ℕ) (lk : k ≤ size p + size p) (x : Pair) where
  abbrev N : ℕ
  N = size p

  -- in2 - in1: the turned pair less the pair
  abbrev pub moved : Pair
  moved = pair_minus N (turned p k x) x

  -- its words
  moved_below : (u v : List ℕ) (i : ℕ) → at (minus N u v) i < Q
  moved_below u v = below (proper_reduced N (size_from p) (minus_proper N (size_from p) u v))

  -- the choice between the pair and the turned pair, for the key bit m: what it adds to the phase of the pair
  pub choice_phase : (m : ℕ) → phase N z (cmux_of p rows x (turned p k x)).a (cmux_of p rows x (turned p k x)).b
      ≡ plus N (plus N (phase N z x.a x.b) (scale N m (minus N (minus N (phase N z (rotated N k x.a) (rotated N k x.b)) (phase N z x.a x.b))
      (phase N z (low_poly p moved.a) (low_poly p moved.b))))) (digit_errors p z rows m moved)
  unfolding cmux_of turned
  choice_phase m =
      ap₂ (phase N z) (plus_comm N (size_from p) (external p rows moved).a x.a) (plus_comm N (size_from p) (external p rows moved).b x.b)
      ∙ phase_step N (size_from p) k m z x.a x.b (low_poly p moved.a) (low_poly p moved.b) (external p rows moved).a (external p rows moved).b (digit_errors p z rows m moved)
      (external-phase p r z rows m moved (moved_below _ _) (moved_below _ _)
      ∙ ap₂ (λ (u v : List ℕ). plus N (scale N m (phase N z u v)) (digit_errors p z rows m moved))
      (cleared_less p moved.a (moved_below _ _)) (cleared_less p moved.b (moved_below _ _)))

  -- key bit 0: the phase stays, but for the errors
  pub choice_zero : phase N z (cmux_of p rows x (turned p k x)).a (cmux_of p rows x (turned p k x)).b ≡ plus N (phase N z x.a x.b) (digit_errors p z rows 0 moved)
  choice_zero = choice_phase 0 ∙ step_zero N (size_from p) _ _ _

  -- key bit 1: the phase is turned by X^k, W · z - W is added, W being 1 where a coefficient was complemented, and the cleared low bits' phase is taken off
  pub choice_one : phase N z (cmux_of p rows x (turned p k x)).a (cmux_of p rows x (turned p k x)).b
      ≡ plus N (minus N (plus N (negating N k (phase N z x.a x.b)) (minus N (times N (complemented N k) z) (complemented N k)))
      (phase N z (low_poly p moved.a) (low_poly p moved.b))) (digit_errors p z rows 1 moved)
  choice_one =
      choice_phase 1 ∙ step_one N (size_from p) _ _ _ _
      ∙ ap (λ (u : List ℕ). plus N (minus N u (phase N z (low_poly p moved.a) (low_poly p moved.b))) (digit_errors p z rows 1 moved)) (phase-rotated N (size_from p) k z x.a x.b lk)

-- ---- step i of the blind rotation, by the mask: the phase of its accumulator

module _ (p : Params) (r : InRange p) (z key : List ℕ) (i mask : ℕ) (x : Pair) where
  -- with key bit 0
  pub step_phase_zero : phase (size p) z (blind_step p key i mask x).a (blind_step p key i mask x).b
      ≡ plus (size p) (phase (size p) z x.a x.b) (digit_errors p z (bit_rows p key i) 0 (step_moved p mask x))
  unfolding blind_step
  step_phase_zero = choice_zero p r z (bit_rows p key i) (mask_amount p mask) (le_of_lt (mask_below p r mask)) x

  -- with key bit 1
  pub step_phase_one : phase (size p) z (blind_step p key i mask x).a (blind_step p key i mask x).b
      ≡ plus (size p) (minus (size p) (plus (size p) (negating (size p) (mask_amount p mask) (phase (size p) z x.a x.b))
      (minus (size p) (times (size p) (complemented (size p) (mask_amount p mask)) z) (complemented (size p) (mask_amount p mask))))
      (phase (size p) z (low_poly p (step_moved p mask x).a) (low_poly p (step_moved p mask x).b))) (digit_errors p z (bit_rows p key i) 1 (step_moved p mask x))
  unfolding blind_step
  step_phase_one = choice_one p r z (bit_rows p key i) (mask_amount p mask) (le_of_lt (mask_below p r mask)) x
