-- The length of what each operation gives, and its words where callers need them: all are lists given by a closed form.
-- Assumes nothing.
use Rattle.std.proofs.Common.{◌≡◌, ℕ, ◌+◌, ◌*◌, ◌%◌, ◌<◌, List, length, arith}
use Rattle.ring.specs.Word.{Q, at}
use Rattle.ring.specs.Poly.{plus, minus, times, scale}
use Rattle.ring.specs.Turn.{negating, rotated}
use Rattle.ring.proofs.Tab.{length-tab, at-tab}

module _ (N : ℕ) (a b : List ℕ) where
  pub length-plus : length (plus N a b) ≡ N
  unfolding plus
  length-plus = length-tab N _

  pub length-minus : length (minus N a b) ≡ N
  unfolding minus
  length-minus = length-tab N _

  pub length-times : length (times N a b) ≡ N
  unfolding times
  length-times = length-tab N _

  -- a word of a + b
  pub at-plus : (i : ℕ) → i < N → at (plus N a b) i ≡ (at a i + at b i) % Q
  unfolding plus
  at-plus i l = at-tab N _ i l

module _ (N k : ℕ) (a : List ℕ) where
  pub length-negating : length (negating N k a) ≡ N
  unfolding negating
  length-negating = length-tab N _

  pub length-rotated : length (rotated N k a) ≡ N
  unfolding rotated
  length-rotated = length-tab N _

-- a word of x · a + y · b
pub at_combined : (m x : ℕ) (a : List ℕ) (y : ℕ) (b : List ℕ) (i : ℕ) → i < m → at (plus m (scale m x a) (scale m y b)) i ≡ (x * at a i + y * at b i) % Q
unfolding plus scale Q
at_combined m x a y b i l =
    let u = at-tab m (λ j. x * at a j % Q) i l in
    let v = at-tab m (λ j. y * at b j % Q) i l in
    let w = at-tab m (λ j. (at (scale m x a) j + at (scale m y b) j) % Q) i l in
    omega arith
