-- Whole numbers, and polynomials of them modulo X^N + 1 (01, Drift: 'Products are whole-number ones modulo X^N + 1, with true negation'). A polynomial is the
-- function that gives its coefficient at each place below N.
use Rattle.std.specs.Prelude.{cond, List, ℕ, zero, suc, ◌+◌, ◌-◌, leb, ltb, ℤ, pos, neg_ℤ, ◌+ℤ◌, ◌-ℤ◌, ◌*ℤ◌}
use Rattle.ring.specs.Word.{at}
use Rattle.ring.specs.Turn.{source}
use Rattle.ring.specs.Centre.{centre, word_of}

-- 01, Drift: 'Centred: brought modulo 2^32 into -2^31 to 2^31 - 1.'
unfoldable pub centred : ℤ → ℤ
centred x = centre (word_of x)

-- f 0 + f 1 + .. + f (n - 1).
unfoldable pub whole_sum : ℕ → (ℕ → ℤ) → ℤ
whole_sum zero f = pos 0
whole_sum (suc n) f = whole_sum n f +ℤ f n

-- The words of a list as whole numbers.
abbrev pub wholes : List ℕ → ℕ → ℤ
wholes a i = pos (at a i)

-- The words of a list read as signed.
abbrev pub signeds : List ℕ → ℕ → ℤ
signeds a i = centre (at a i)

-- a · b: the coefficient at k sums a_i · b_(k - i), and where k - i is behind the start the coefficient N places on, negated, for X^N is -1.
unfoldable pub whole_times : ℕ → (ℕ → ℤ) → (ℕ → ℤ) → ℕ → ℤ
whole_times N a b k = whole_sum N (λ i. a i *ℤ cond (leb i k) (b (k - i)) (neg_ℤ (b (N + k - i))))

-- X^k · a.
unfoldable pub whole_turn : ℕ → ℕ → (ℕ → ℤ) → ℕ → ℤ
whole_turn N k a i = cond (ltb (source N k i) N) (a (source N k i)) (neg_ℤ (a (source N k i - N)))

-- 01, Drift: 'Phase is b - a·key.' Of the sample c with n masks:
unfoldable pub whole_phase : ℕ → List ℕ → List ℕ → ℤ
whole_phase n key c = wholes c n -ℤ whole_sum n (λ i. wholes c i *ℤ wholes key i)

-- and of the pair of polynomials (a, b) under the key z.
unfoldable pub whole_pair_phase : ℕ → List ℕ → List ℕ → List ℕ → ℕ → ℤ
whole_pair_phase N z a b k = wholes b k -ℤ whole_times N (wholes a) (wholes z) k
