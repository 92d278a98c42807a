-- A column of gates: one kind on many pairs of ciphertexts (02, 2026-01). Pair i is the ciphertexts 2·i and 2·i + 1 of the pairs' slice, and each is run by the
-- encrypted run's own table of ways, so kind 8 is xor, negated.
use Rattle.std.specs.Prelude.{List, [], ℕ, ◌+◌, ◌*◌, length}
use Rattle.ring.specs.Lists.{joined}
use Rattle.params.specs.declared.Params.{Params}
use Rattle.params.specs.Refusal.{if_done}
use Rattle.ways.specs.Ways.{way_of, ran}
use Rattle.ways.specs.Ciphers.{cipher_at}
use Rattle.columns.specs.Refusals.{column_number}

-- The gate of a kind on the ciphertexts a and b: the kinds from 3 to 12 have no third operand.
unfoldable pub pair_gate : Params → List ℕ → List ℕ → ℕ → List ℕ → List ℕ → List ℕ
pair_gate p ksk bsk kind a b = ran p ksk bsk (way_of kind) a b []

-- The result of pair i.
unfoldable pub pair_result : Params → List ℕ → List ℕ → ℕ → List ℕ → ℕ → List ℕ
pair_result p ksk bsk kind pairs i = pair_gate p ksk bsk kind (cipher_at p pairs (2 * i)) (cipher_at p pairs (2 * i + 1))

-- The results of the first so many pairs, one after another.
unfoldable pub column_of : Params → List ℕ → List ℕ → ℕ → ℕ → List ℕ → List ℕ
column_of p ksk bsk kind count pairs = joined count (λ i. pair_result p ksk bsk kind pairs i)

-- What a column leaves in out, which held o.
unfoldable pub column_out : Params → ℕ → ℕ → List ℕ → List ℕ → List ℕ → List ℕ → List ℕ
column_out p kind count pairs ksk bsk o =
    if_done (column_number p kind count (length pairs) (length ksk) (length bsk) (length o)) (column_of p ksk bsk kind count pairs) o
