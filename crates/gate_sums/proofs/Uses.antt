-- What callers of the routines cite: with good arguments a call is done and leaves what its definition says.
-- Assumes nothing.
use mathlib.Core.Path.{◌≡◌}
use mathlib.Core.Bool.{Bool}
use mathlib.Core.List.{List}
use Prim.Native.Nat.{ℕ, ◌+◌}
use lib.ListN.{length}
use Rattle.params.specs.declared.Params.{Params}
use Rattle.params.specs.Refusal.{if_done}
use Rattle.params.specs.Ranges.{params_number}
use Rattle.params.specs.Sizes.{size}
use Rattle.params.proofs.Answers.{when_done}
use Rattle.tlwe.specs.declared.Level.TheVariants.{Zero, One}
use Rattle.tlwe.specs.Linear.{linear_number, linear_out, negative}
use Rattle.tlwe.proofs.Checks.{linear_done}
use Rattle.gate_sums.specs.declared.Kind.{Kind}
use Rattle.gate_sums.specs.Sum.{summed, mux_sum, constant_of, constant_number}
use Rattle.gate_sums.proofs.Checks.{constant_done}

module _ (p : Params) (z : params_number p ≡ 0) where
  -- `sum`
  pub sum_written : (kind : Kind) (a b o : List ℕ) → length a ≡ p.n + 1 → length b ≡ p.n + 1 → length o ≡ p.n + 1
      → linear_out p Zero a b o (summed p kind a b) ≡ summed p kind a b
  sum_written kind a b o la lb lo = when_done _ _ _ (linear_done p Zero _ _ _ (record { good = z; first = la; second = lb; result = lo }))

  -- `mux_sum`
  pub mux_sum_written : (u v o : List ℕ) → length u ≡ size p + 1 → length v ≡ size p + 1 → length o ≡ size p + 1 → linear_out p One u v o (mux_sum p u v) ≡ mux_sum p u v
  mux_sum_written u v o lu lv lo = when_done _ _ _ (linear_done p One _ _ _ (record { good = z; first = lu; second = lv; result = lo }))

module _ (p : Params) (z : params_number p ≡ 0) (a o : List ℕ) (lo : length o ≡ p.n + 1) where
  module _ (la : length a ≡ p.n + 1) where
    -- `not` and `copy` are not refused
    pub wire_done : linear_number p Zero (length a) (length a) (length o) ≡ 0
    wire_done = linear_done p Zero _ _ _ (record { good = z; first = la; second = la; result = lo })

    pub not_written : if_done (linear_number p Zero (length a) (length a) (length o)) (negative (p.n + 1) a) o ≡ negative (p.n + 1) a
    not_written = when_done _ _ _ wire_done

    pub copy_written : if_done (linear_number p Zero (length a) (length a) (length o)) a o ≡ a
    copy_written = when_done _ _ _ wire_done

  -- `constant`
  pub constant_written : (value : Bool) → if_done (constant_number p (length o)) (constant_of p value) o ≡ constant_of p value
  constant_written value = when_done _ _ _ (constant_done p _ z lo)
