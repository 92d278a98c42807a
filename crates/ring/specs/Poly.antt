-- Polynomials modulo X^N + 1 and 2^32 (TFHE paper, 2.1), as the code holds them: the list of their N coefficients, lowest first.
use Rattle.std.specs.Prelude.{ℕ, zero, suc, ◌+◌, ◌-◌, ◌*◌, ◌%◌, cond, List, nat_le}
use Rattle.ring.specs.Word.{Q, at, neg}
use Rattle.ring.specs.Sums.{sum_to, tab}

-- a + b, word by word; also of ciphertexts, which are lists of words too.
unfoldable pub plus : ℕ → List ℕ → List ℕ → List ℕ
plus N a b = tab N (λ i. (at a i + at b i) % Q)

-- a - b, word by word, with true negation.
unfoldable pub minus : ℕ → List ℕ → List ℕ → List ℕ
minus N a b = tab N (λ i. (at a i + neg (at b i)) % Q)

-- The coefficient at place k of X^i · b: what stood i places before, negated if that is behind the start, for X^N is -1.
unfoldable pub before : ℕ → List ℕ → ℕ → ℕ → ℕ
before N b k i = cond (nat_le i k) (at b (k - i)) (neg (at b (N + k - i)))

-- a · b modulo X^N + 1 and 2^32: the exact product that stands in for the Rust's Fourier one (01, 'What changes shape').
unfoldable pub times : ℕ → List ℕ → List ℕ → List ℕ
times N a b = tab N (λ k. sum_to N (λ i. at a i * before N b k i) % Q)

-- c · a, for a number c.
unfoldable pub scale : ℕ → ℕ → List ℕ → List ℕ
scale N c a = tab N (λ i. c * at a i % Q)

-- The sum of the polynomials f 0 .. f (n - 1).
unfoldable pub total : ℕ → ℕ → (ℕ → List ℕ) → List ℕ
total N zero f = tab N (λ i. 0)
total N (suc n) f = plus N (total N n f) (f n)
