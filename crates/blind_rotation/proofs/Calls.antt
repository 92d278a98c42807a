-- The steps called one by one make the rotation: by induction no call is refused, for each leaves polynomials of N words, and each does the definition's next step.
-- Assumes nothing.
use mathlib.Core.Path.{◌≡◌, refl, sym, ap, ◌∙◌}
use mathlib.Core.List.{List}
use Prim.Native.Nat.{ℕ, zero, suc, ◌≤◌, ◌<◌}
use native.Mathlib.Omega.{arith}
use lib.ListN.{length}
use Rattle.ring.specs.Word.{at}
use Rattle.ring.specs.Turn.{rotated}
use Rattle.params.specs.declared.Params.{Params}
use Rattle.params.specs.Sizes.{size}
use Rattle.params.proofs.Answers.{when_done}
use Rattle.ring.proofs.Tab.{length-tab}
use Rattle.ring.proofs.Places.{length-plus}
use Rattle.trgsw.specs.External.{cmux_of}
use Rattle.blind_rotation.specs.Blind.{turned, blind_step, steps_to, start_of, blind_rotated}
use Rattle.blind_rotation.specs.Refusals.{step_number, step_out, blind_number, blind_out}
use Rattle.blind_rotation.proofs.Checks.{step_done, blind_good}
use Rattle.ring.specs.Pair.{Pair}
use Rattle.key.specs.Testvec.{test_pair}

-- the accumulator after calls of `blind_rotate_step` for the steps 0 .. k - 1, each lent its mask of the ciphertext src; it held x before them
unfoldable pub called : Params → List ℕ → List ℕ → Pair → ℕ → Pair
called p key src x zero = x
called p key src x (suc k) = step_out p key k (at src k) (called p key src x k)

module _ (p : Params) (key src : List ℕ) (o : Pair) (done : blind_number p (length src) (length key) (length o.a) (length o.b) ≡ 0) where
  -- what the first call is lent: the gates' vector turned by b's amount
  abbrev start : Pair
  start = start_of p (test_pair p) (at src p.n)

  -- an accumulator of the definition has N words in each half
  long : (k : ℕ) → (length (steps_to p key src start k).a ≡ size p) × (length (steps_to p key src start k).b ≡ size p)
  unfolding steps_to start_of turned rotated blind_step cmux_of
  long zero = (length-tab (size p) _, length-tab (size p) _)
  long (suc k) = (length-plus (size p) _ _, length-plus (size p) _ _)

  -- so a step from it is not refused
  passes : (k : ℕ) → k < p.n → step_number p (length key) k (length (steps_to p key src start k).a) (length (steps_to p key src start k).b) ≡ 0
  passes k h =
      let g = blind_good p (length src) (length key) (length o.a) (length o.b) done in
      step_done p (length key) k _ _ (record { range = g.range; key = g.key; first = (long k).0; second = (long k).1; index = h })

  -- after each call the accumulator is the one that is defined
  pub called_are : (k : ℕ) → k ≤ p.n → called p key src start k ≡ steps_to p key src start k
  unfolding called steps_to
  called_are zero h = refl
  called_are (suc k) h =
      let x = steps_to p key src start k in
      let l : k < p.n = omega (arith, h) in
      ap (step_out p key k (at src k)) (called_are k (omega (arith, h))) ∙ when_done (step_number p (length key) k (length x.a) (length x.b)) (blind_step p key k (at src k) x) x (passes k l)

  -- no call is refused
  pub not_refused : (k : ℕ) → k < p.n → step_number p (length key) k (length (called p key src start k).a) (length (called p key src start k).b) ≡ 0
  not_refused k h =
      let e = called_are k (omega (arith, h)) in
      ap (λ (x : Pair). step_number p (length key) k (length x.a) (length x.b)) e ∙ passes k h

  -- all n of them leave what `blind_rotate` leaves
  pub steps_rotate : called p key src start p.n ≡ blind_out p src key o
  unfolding blind_rotated
  steps_rotate =
      called_are p.n (omega arith)
      ∙ sym (when_done (blind_number p (length src) (length key) (length o.a) (length o.b)) (blind_rotated p key src (test_pair p)) o done)
