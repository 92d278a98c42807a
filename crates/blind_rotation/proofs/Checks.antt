-- The refusals taken apart and put together.
-- Assumes nothing.
use mathlib.Core.Path.{◌≡◌, refl}
use Prim.Native.Nat.{ℕ, ◌+◌, ◌<◌}
use Rattle.params.specs.declared.Params.{Params}
use Rattle.params.specs.Ranges.{params_number}
use Rattle.params.specs.Sizes.{size, bootstrapping_words}
use Rattle.refusals.proofs.Table.{good, done}
use Rattle.blind_rotation.specs.Refusals.{step_checks, step_number, blind_checks, blind_number, vector_checks, vector_number}

-- what holds of a step that is not refused
pub record StepGood (p : Params) (lk i la lb : ℕ) : Type 0 where
  pub range : params_number p ≡ 0
  pub key : lk ≡ bootstrapping_words p
  pub first : la ≡ size p
  pub second : lb ≡ size p
  pub index : i < p.n

module _ (p : Params) (lk i la lb : ℕ) where
  pub step_good : step_number p lk i la lb ≡ 0 → StepGood p lk i la lb
  unfolding step_number
  step_good e =
      let f = good p (step_checks p lk i la lb) refl e in
      record { range = f.0; key = f.1.0; first = f.1.1.0; second = f.1.1.1.0; index = f.1.1.1.1.0 }

  -- for callers: good arguments are not refused
  pub step_done : StepGood p lk i la lb → step_number p lk i la lb ≡ 0
  unfolding step_number
  step_done g = done p (step_checks p lk i la lb) (g.range, (g.key, (g.first, (g.second, (g.index, tt)))))

-- what holds of a rotation that is not refused
pub record BlindGood (p : Params) (ls lk la lb : ℕ) : Type 0 where
  pub range : params_number p ≡ 0
  pub source : ls ≡ p.n + 1
  pub key : lk ≡ bootstrapping_words p
  pub first : la ≡ size p
  pub second : lb ≡ size p

module _ (p : Params) (ls lk la lb : ℕ) where
  pub blind_good : blind_number p ls lk la lb ≡ 0 → BlindGood p ls lk la lb
  unfolding blind_number
  blind_good e =
      let f = good p (blind_checks p ls lk la lb) refl e in
      record { range = f.0; source = f.1.0; key = f.1.1.0; first = f.1.1.1.0; second = f.1.1.1.1.0 }

  -- for callers: good arguments are not refused
  pub blind_done : BlindGood p ls lk la lb → blind_number p ls lk la lb ≡ 0
  unfolding blind_number
  blind_done g = done p (blind_checks p ls lk la lb) (g.range, (g.source, (g.key, (g.first, (g.second, tt)))))

-- what holds of a rotation of a lent vector that is not refused
pub record VectorGood (p : Params) (ls lva lvb lk la lb : ℕ) : Type 0 where
  pub vector_a : lva ≡ size p
  pub vector_b : lvb ≡ size p
  pub rotation : BlindGood p ls lk la lb

module _ (p : Params) (ls lva lvb lk la lb : ℕ) where
  pub vector_good : vector_number p ls lva lvb lk la lb ≡ 0 → VectorGood p ls lva lvb lk la lb
  unfolding vector_number
  vector_good e =
      let f = good p (vector_checks p ls lva lvb lk la lb) refl e in
      let g = f.1.1.1 in
      record { vector_a = f.1.0; vector_b = f.1.1.0; rotation = record { range = f.0; source = g.0; key = g.1.0; first = g.1.1.0; second = g.1.1.1.0 } }

  -- for callers: good arguments are not refused
  pub vector_done : VectorGood p ls lva lvb lk la lb → vector_number p ls lva lvb lk la lb ≡ 0
  unfolding vector_number
  vector_done g =
      let r = g.rotation in
      done p (vector_checks p ls lva lvb lk la lb) (r.range, (g.vector_a, (g.vector_b, (r.source, (r.key, (r.first, (r.second, tt)))))))
