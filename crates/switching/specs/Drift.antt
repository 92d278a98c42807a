-- What key switching adds to a phase (01, Drift, 'Switching'), as a word: the drift is reckoned modulo 2^32 and centred at its end.
use Rattle.std.specs.Prelude.{List, cond, ℕ, ◌+◌, ◌*◌, ◌-◌, ◌%◌, ◌^◌, eqb}
use Rattle.params.specs.declared.Params.{Params}
use Rattle.params.specs.Sizes.{size}
use Rattle.ring.specs.Word.{Q, at, neg}
use Rattle.ring.specs.Sums.{sum_to}
use Rattle.key.specs.Switching.{switching_row_error}
use Rattle.switching.specs.Switched.{rounding, rounded, mask_field}

-- The low bits of the mask a that are dropped once its rounding is added.
unfoldable pub dropped : Params → ℕ → ℕ
dropped p a = rounded p a % 2 ^ (32 - p.basebit * p.t)

-- Of a field k the number f, and 0 for k = 0: a field that is 0 uses no row.
unfoldable pub used : ℕ → ℕ → ℕ
used k f = cond (eqb k 0) 0 f

-- The errors of the rows that mask i uses.
unfoldable pub used_errors : Params → List ℕ → List ℕ → List ℕ → List ℕ → ℕ → ℕ
used_errors p key z rows src i = sum_to p.t (λ j. used (mask_field p src i j) (switching_row_error p key z rows i j (mask_field p src i j)))

-- What mask i was rounded by, where z has a 1: 2^(31-BASEBIT·T) less the low bits dropped.
unfoldable pub rounded_by : Params → List ℕ → List ℕ → ℕ → ℕ
rounded_by p z src i = at z i * (rounding p + neg (dropped p (at src i)))

-- The drift of switching: less the errors of the rows used, and less what each mask under a 1 of z was rounded by.
unfoldable pub switching_drift : Params → List ℕ → List ℕ → List ℕ → List ℕ → ℕ
switching_drift p key z rows src = neg (sum_to (size p) (λ i. used_errors p key z rows src i + rounded_by p z src i)) % Q
