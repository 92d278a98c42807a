-- Multiplication by X^k, k from 0 to 2N, and the Rust's form of it, `poly_mul_with_x_k`, which complements where X^N asks for a negation (01, trgsw).
use Rattle.std.specs.Prelude.{ℕ, ◌+◌, ◌-◌, ◌%◌, cond, List, nat_lt}
use Rattle.ring.specs.Word.{Q, at, neg, comp}
use Rattle.ring.specs.Sums.{tab}

-- Places move by k modulo 2N: the place, below 2N, from which place i is filled. From N on it means the coefficient N places before, turned over.
unfoldable pub source : ℕ → ℕ → ℕ → ℕ
source N k i = (i + (N + N) - k) % (N + N)

-- X^k · a, with true negation: the paper's.
unfoldable pub negating : ℕ → ℕ → List ℕ → List ℕ
negating N k a = tab N (λ i. cond (nat_lt (source N k i) N) (at a (source N k i)) (neg (at a (source N k i - N)) % Q))

-- `poly_mul_with_x_k`: a coefficient that ends in the upper half is complemented (01, trgsw), not negated.
unfoldable pub rotated : ℕ → ℕ → List ℕ → List ℕ
rotated N k a = tab N (λ i. cond (nat_lt (source N k i) N) (at a (source N k i)) (comp (at a (source N k i - N))))

-- W(k): 1 at each place of the result that rotation by k complemented (01, Drift).
unfoldable pub complemented : ℕ → ℕ → List ℕ
complemented N k = tab N (λ i. cond (nat_lt (source N k i) N) 0 1)
