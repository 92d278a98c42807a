-- Lookup tables on small messages (02, 2026-07): the test vector of a table of M words f(0) .. f(M-1), and what a lookup writes.
use Rattle.std.specs.Prelude.{Bool, false, cond, List, ℕ, ◌+◌, ◌*◌, ◌/◌, ◌%◌, eqb}
use Rattle.ring.specs.Word.{Q, at, neg}
use Rattle.ring.specs.Sums.{tab}
use Rattle.ring.specs.Pair.{Pair}
use Rattle.params.specs.declared.Params.{Params}
use Rattle.params.specs.Sizes.{size}
use Rattle.tlwe.specs.Plain.{is_modulus}
use Rattle.switching.specs.Switched.{switched}
use Rattle.samples.specs.Sample.{sample_from}

-- Is there a test vector of N coefficients for tables of modulus m? Where m is a message modulus and '2M divides N'.
unfoldable pub is_table : ℕ → ℕ → Bool
is_table N m = cond (is_modulus m) (eqb (N % (2 * m)) 0) false

-- Coefficient i 'takes f at (i·M + N/2) div N', from 0 to M: the message whose word is nearest to place i, in units of N/M places.
abbrev pub nearest_entry : ℕ → ℕ → ℕ → ℕ
nearest_entry N m i = (i * m + N / 2) / N

-- Coefficient i of the test vector's b: f there, and 'where that is M it takes f(0) negated, not complemented': X^N is -1.
unfoldable pub table_word : ℕ → ℕ → List ℕ → ℕ → ℕ
table_word N m f i = cond (eqb (nearest_entry N m i) m) (neg (at f 0) % Q) (at f (nearest_entry N m i))

-- The test vector: a zero, as the gates' has.
abbrev pub table_pair : Params → ℕ → List ℕ → Pair
table_pair p m f = record { a = tab (size p) (λ i. 0); b = tab (size p) (table_word (size p) m f) }

-- The lookup of the message whose ciphertext is c: the table's vector rotated by c, extracted at 0, switched.
unfoldable pub looked_up : Params → ℕ → List ℕ → List ℕ → List ℕ → List ℕ → List ℕ
looked_up p m f ksk bsk c = switched p ksk (sample_from p (table_pair p m f) bsk c)
