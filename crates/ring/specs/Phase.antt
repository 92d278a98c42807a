-- Phases: of a pair of polynomials, of a sample, and extraction of the one from the other (TFHE paper, 3.1, 3.2 and Definition 4.1).
use Rattle.std.specs.Prelude.{ℕ, ◌+◌, ◌-◌, ◌*◌, ◌%◌, cond, List, ◌==◌, nat_le}
use Rattle.ring.specs.Word.{Q, at, neg, comp}
use Rattle.ring.specs.Sums.{sum_to, tab}
use Rattle.ring.specs.Poly.{minus, times}

-- The phase of the pair (a, b) under the key z: b - a·z (01, Drift).
unfoldable pub phase : ℕ → List ℕ → List ℕ → List ℕ → List ℕ
phase N z a b = minus N b (times N a z)

-- The masks' sum under the key (01, tlwe), a true sum: a contract takes it modulo Q.
unfoldable pub inner : ℕ → List ℕ → List ℕ → ℕ
inner n key a = sum_to n (λ i. at a i * at key i)

-- The phase of the ciphertext c of n masks and b, its last word: b - masks·key (01, Drift).
unfoldable pub phase_of : ℕ → List ℕ → List ℕ → ℕ
phase_of n key c = (at c n + neg (inner n key c)) % Q

-- The paper's trivial sample (0, c): n masks that are 0, and c last.
unfoldable pub trivial : ℕ → ℕ → List ℕ
trivial n c = tab (n + 1) (λ i. cond (i == n) c 0)

-- The N masks of the sample that `sample_extract_index` at k takes from a; past k the Rust complements (01, trlwe). Its last word is b[k].
unfoldable pub extract : ℕ → ℕ → List ℕ → List ℕ
extract N k a = tab N (λ i. cond (nat_le i k) (at a (k - i)) (comp (at a (N + k - i))))

-- The ones of a binary key z after place k: what complementing adds to an extracted phase (01, Drift).
unfoldable pub after : ℕ → ℕ → List ℕ → ℕ
after N k z = sum_to N (λ i. cond (nat_le i k) 0 (at z i))
