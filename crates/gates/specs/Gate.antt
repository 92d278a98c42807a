-- What the gates with a rotation write (01, gates): the sum is rotated, extracted at 0 and switched.
use Rattle.std.specs.Prelude.{List, ℕ, ◌+◌, length}
use Rattle.params.specs.declared.Params.{Params}
use Rattle.params.specs.Refusal.{if_done}
use Rattle.tlwe.specs.Linear.{negative}
use Rattle.switching.specs.Switched.{switched}
use Rattle.gate_sums.specs.declared.Kind.{Kind}
use Rattle.gate_sums.specs.declared.Kind.TheVariants.{Or, And, AndNy}
use Rattle.gate_sums.specs.Sum.{summed, mux_sum}
use Rattle.gates.specs.Refusals.{gate_number, mux_number}
use Rattle.samples.specs.Sample.{rotated_sample}

-- The bootstrapping of the sum src (src/bootstrap/vanilla.rs): rotated, extracted at 0, switched.
unfoldable pub bootstrapped : Params → List ℕ → List ℕ → List ℕ → List ℕ
bootstrapped p bsk ksk src = switched p ksk (rotated_sample p bsk src)

-- A two-input gate.
abbrev pub gated : Params → Kind → List ℕ → List ℕ → List ℕ → List ℕ → List ℕ
gated p kind ksk bsk a b = bootstrapped p bsk ksk (summed p kind a b)

-- `mux`, a ? b : c: and(a, b) and and_ny(a, c) extracted, added at level 1 with an eighth, and switched once.
unfoldable pub muxed : Params → List ℕ → List ℕ → List ℕ → List ℕ → List ℕ → List ℕ
muxed p ksk bsk a b c = switched p ksk (mux_sum p (rotated_sample p bsk (summed p And a b)) (rotated_sample p bsk (summed p AndNy a c)))

-- `mux_naive`: or(and(a, b), and(not a, c)), three gates.
unfoldable pub muxed_naive : Params → List ℕ → List ℕ → List ℕ → List ℕ → List ℕ → List ℕ
muxed_naive p ksk bsk a b c = gated p Or ksk bsk (gated p And ksk bsk a b) (gated p And ksk bsk (negative (p.n + 1) a) c)

-- What a two-input gate leaves in out, which held o.
abbrev pub gate_out : Params → Kind → List ℕ → List ℕ → List ℕ → List ℕ → List ℕ → List ℕ
gate_out p kind a b ksk bsk o = if_done (gate_number p (length a) (length b) (length ksk) (length bsk) (length o)) (bootstrapped p bsk ksk (summed p kind a b)) o

-- What `mux` leaves there, and with muxed_naive for muxed what `mux_naive` does.
abbrev pub mux_out : (Params → List ℕ → List ℕ → List ℕ → List ℕ → List ℕ → List ℕ) → Params → List ℕ → List ℕ → List ℕ → List ℕ → List ℕ → List ℕ → List ℕ
mux_out value p a b c ksk bsk o = if_done (mux_number p (length a) (length b) (length c) (length ksk) (length bsk) (length o)) (value p ksk bsk a b c) o
