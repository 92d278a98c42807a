-- The pieces of our form laid over a slice byte by byte: two pieces one behind the other are one.
-- Assumes nothing.
use mathlib.Core.Path.{◌≡◌, refl, ap₂, ◌∙◌}
use mathlib.Core.List.{List, [], ◌∷◌, ◌++◌}
use Prim.Native.Nat.{ℕ, ◌+◌, ◌≤◌, ◌<◌, ◌/◌, ◌%◌}
use native.Mathlib.Omega.{arith}
use lib.ListN.{length, set, length-set}
use Rattle.report.specs.Private.{splice}
use Rattle.report.proofs.Spliced.{splice_one, splice_next}
use Rattle.bristol.specs.Import.{field_bytes, eight_bytes, head_bytes}

-- two bytes stored
pub laid_two : (o : List ℕ) (i v w : ℕ) → i + 2 ≤ length o → set (set o i v) (i + 1) w ≡ splice o i (v ∷ w ∷ [])
laid_two o i v w h =
    let l = length-set o i v in
    splice_next o i (v ∷ []) (w ∷ []) (omega arith) (splice_one o i v (omega arith)) refl (splice_one (set o i v) (i + 1) w (omega arith))

-- three
pub laid_three : (o : List ℕ) (u v w : ℕ) → 3 ≤ length o → set (set (set o 0 u) 1 v) 2 w ≡ splice o 0 (u ∷ v ∷ w ∷ [])
laid_three o u v w h =
    let l = length-set o 0 u in
    let m = length-set (set o 0 u) 1 v in
    splice_next o 0 (u ∷ v ∷ []) (w ∷ []) (omega arith) (laid_two o 0 u v (omega arith)) refl (splice_one (set (set o 0 u) 1 v) 2 w (omega arith))

-- four fields from place i on
pub laid_eight : (o : List ℕ) (i kind a b : ℕ) {o₁ o₂ o₃ o₄ : List ℕ} → i + 8 ≤ length o → kind < 256
    → o₁ ≡ splice o i (field_bytes kind) → o₂ ≡ splice o₁ (i + 2) (field_bytes a) → o₃ ≡ splice o₂ (i + 4) (field_bytes b) → o₄ ≡ splice o₃ (i + 6) (field_bytes 0) → o₄ ≡ splice o i (eight_bytes kind a b)
laid_eight o i kind a b h k d e f g =
    let z : kind % 256 ≡ kind = omega arith in
    let y : kind / 256 ≡ 0 = omega arith in
    splice_next o i (field_bytes kind ++ field_bytes a ++ field_bytes b) (field_bytes 0) (omega arith)
    (splice_next o i (field_bytes kind ++ field_bytes a) (field_bytes b) (omega arith) (splice_next o i (field_bytes kind) (field_bytes a) (omega arith) d refl e) refl f) refl g
    ∙ ap₂ (λ (x y : ℕ). splice o i (x ∷ y ∷ a % 256 ∷ a / 256 ∷ b % 256 ∷ b / 256 ∷ 0 ∷ 0 ∷ [])) z y

-- the mark, then four fields
pub laid_head : (o : List ℕ) (i g n : ℕ) {o₀ o₁ o₂ o₃ o₄ : List ℕ} → 11 ≤ length o
    → o₀ ≡ splice o 0 (69 ∷ 71 ∷ 76 ∷ []) → o₁ ≡ splice o₀ 3 (field_bytes 1) → o₂ ≡ splice o₁ 5 (field_bytes i) → o₃ ≡ splice o₂ 7 (field_bytes g) → o₄ ≡ splice o₃ 9 (field_bytes n) → o₄ ≡ splice o 0 (head_bytes i g n)
unfolding head_bytes
laid_head o i g n h c d e f k =
    let mark : List ℕ = 69 ∷ 71 ∷ 76 ∷ [] in
    splice_next o 0 (mark ++ field_bytes 1 ++ field_bytes i ++ field_bytes g) (field_bytes n) (omega arith)
    (splice_next o 0 (mark ++ field_bytes 1 ++ field_bytes i) (field_bytes g) (omega arith)
    (splice_next o 0 (mark ++ field_bytes 1) (field_bytes i) (omega arith) (splice_next o 0 mark (field_bytes 1) (omega arith) c refl d) refl e) refl f) refl k
