-- Words: the numbers below Q, which is 2^32. A word counts 2^-32 of a turn (01, params and utils), so sums and products are taken modulo Q.
-- TFHE paper, 2.1: the torus as a group, here cut to 32 bits.
use Rattle.std.specs.Prelude.{ℕ, ◌+◌, ◌-◌, ◌*◌, ◌/◌, ◌%◌, ◌^◌, ◌<◌, List, slice_index}
use Rattle.std.proofs.Common.{lit<}

-- 2^32, the number of words. Shut, so that algebra takes it for a name; a proof that meets code unfolds it.
unfoldable pub Q : ℕ
Q = 2 ^ 32

-- What division by Q asks for.
pub Q_pos : 0 < Q
unfolding Q
Q_pos = lit< tt

-- Word i of a list; 0 past its end.
abbrev pub at : List ℕ → ℕ → ℕ
at a i = slice_index a i

-- The true negative of x: what adds up with x to Q. (Of 0 it is Q, so a sum takes it modulo Q.)
unfoldable pub neg : ℕ → ℕ
neg x = Q - x % Q

-- The complement, which the Rust writes `Torus::MAX - x`: one less than the negative (01, trlwe and trgsw).
unfoldable pub comp : ℕ → ℕ
comp x = Q - 1 - x % Q

-- An eighth of a turn: a bit is plus or minus this (01, tlwe).
abbrev pub eighth : ℕ
eighth = 2 ^ 29

-- Field i from the top, of w bits, of a word.
unfoldable pub field_of : ℕ → ℕ → ℕ → ℕ
field_of x w i = x / 2 ^ (32 - (i + 1) * w) % 2 ^ w
