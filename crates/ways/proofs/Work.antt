-- A kind's work is the number of rotations that its way performs, for every number, the table's or not: tested over the table, and past its end both are 0. A
-- way's ciphertext depends on the bootstrapping key through these rotations alone, since it is made of their samples; and none of them is idle at n 1 and N 2, which is tested over the table too.
-- Assumes nothing.
use mathlib.Core.Path.{◌≡◌, sym, ap, subst, ◌∙◌}
use mathlib.Core.Bool.{Bool, true, false, not}
use mathlib.Core.Logic.{⊎_elim}
use mathlib.Core.List.{List, [], ◌∷◌, map}
use Prim.Native.Nat.{ℕ, zero, suc, ◌≤◌, ◌<◌}
use native.Mathlib.Omega.{arith}
use borrow.Author.Tests.{eq-eqb}
use lib.Dec.{T, eqb, eqb→eq}
use lib.ListN.{length, get_or, length-map, get_or-eq_default}
use Rattle.ring.specs.Word.{Q, at, neg, field_of}
use Rattle.ring.specs.Sums.{sum_to, tab}
use Rattle.ring.specs.Poly.{plus, minus, total}
use Rattle.ring.specs.Phase.{trivial}
use Rattle.params.specs.declared.Params.{Params}
use Rattle.params.specs.Published.{numbers}
use Rattle.tlwe.specs.Linear.{negative}
use Rattle.switching.specs.Switched.{rounding, rounded, mask_field, used_row, mask_rows, switched}
use Rattle.gate_sums.specs.Sum.{mux_sum, constant_of}
use Rattle.samples.specs.Sample.{rotated_sample}
use Rattle.kinds.specs.Kinds.{Entry, kinds, kind_of}
use Rattle.kinds.proofs.Table.{both, both_left, both_right, entry}
use Rattle.kinds.proofs.Columns.{work_table, work_entry, kind_past}
use Rattle.circuit.proofs.Accept.{lt_or_ge}
use Rattle.ways.specs.declared.Way.{Way}
use Rattle.ways.specs.declared.Way.TheVariants.{Known}
use Rattle.ways.specs.Ways.{ways, way_of, rotations_of, rotation_sum, rotated_sums, made, ran}

-- ---- how many

-- as many rotations as the work that is listed
as_many : ℕ → ℕ → Bool
as_many k x = eqb (length (rotations_of (way_of k))) x

listed : (k : ℕ) → k ≤ 13 → length (rotations_of (way_of k)) ≡ (kind_of k).work
unfolding as_many rotations_of way_of ways
listed k h = eqb→eq (length (rotations_of (way_of k))) (get_or work_table k 0) (entry as_many work_table tt k (omega arith)) ∙ (work_entry k h).0

past : (k : ℕ) → 13 < k → length (rotations_of (way_of k)) ≡ (kind_of k).work
unfolding rotations_of way_of ways
past k h =
    ap (λ (way : Way). length (rotations_of way)) (get_or-eq_default ways (Known false) h)
    ∙ sym (ap (λ (kind : Entry). kind.work) (kind_past k h))

pub ways_rotate : (k : ℕ) → length (rotations_of (way_of k)) ≡ (kind_of k).work
ways_rotate k = ⊎_elim (λ (h : k < 14). listed k (omega arith)) (λ (h : 14 ≤ k). past k (omega arith)) (lt_or_ge k 14)

-- the sums that a kind's way rotates on any operands
pub sums_counted : (p : Params) (k : ℕ) (a b c : List ℕ) → length (rotated_sums p (way_of k) a b c) ≡ (kind_of k).work
unfolding rotated_sums
sums_counted p k a b c = length-map (rotations_of (way_of k)) (rotation_sum p a b c) ∙ ways_rotate k

-- ---- no others

-- two bootstrapping keys that rotate these sums alike give the same ciphertext
pub rotated_alike : (p : Params) (ksk bsk bsk' : List ℕ) (way : Way) (a b c : List ℕ)
    → map (rotated_sample p bsk) (rotated_sums p way a b c) ≡ map (rotated_sample p bsk') (rotated_sums p way a b c)
    → ran p ksk bsk way a b c ≡ ran p ksk bsk' way a b c
unfolding ran
rotated_alike p ksk bsk bsk' way a b c h = ap (made p ksk way a) h

-- ---- none idle

-- n 1, N 2
abbrev two : Params
two = numbers 1 1 6 3 1 1

-- samples of zeros, but that the last word of sample i is x
abbrev zeros_but : ℕ → ℕ → List (List ℕ)
zeros_but zero x = (0 ∷ 0 ∷ x ∷ []) ∷ (0 ∷ 0 ∷ 0 ∷ []) ∷ (0 ∷ 0 ∷ 0 ∷ []) ∷ []
zeros_but (suc zero) x = (0 ∷ 0 ∷ 0 ∷ []) ∷ (0 ∷ 0 ∷ x ∷ []) ∷ (0 ∷ 0 ∷ 0 ∷ []) ∷ []
zeros_but (suc (suc i)) x = (0 ∷ 0 ∷ 0 ∷ []) ∷ (0 ∷ 0 ∷ 0 ∷ []) ∷ (0 ∷ 0 ∷ x ∷ []) ∷ []

-- the last word of what a kind's way makes of them
pub last_word : ℕ → ℕ → ℕ → ℕ
last_word k i x = at (made two [] (way_of k) [] (zeros_but i x)) 1

-- it differs for 0 and 1 in each of the first n samples
differs : ℕ → ℕ → Bool
differs k zero = true
differs k (suc n) = both (differs k n) (not (eqb (last_word k n 0) (last_word k n 1)))

differ_at : (k n : ℕ) → T (differs k n) → (i : ℕ) → i < n → last_word k i 0 ≡ last_word k i 1 → ⊥
unfolding differs
differ_at k zero t i h e = let q : ⊥ = omega arith in q
differ_at k (suc n) t i h e =
    ⊎_elim
    (λ (l : i < n). differ_at k n (both_left (differs k n) (not (eqb (last_word k n 0) (last_word k n 1))) t) i l e)
    (λ (l : n ≤ i). let s : i ≡ n = omega arith in not_same (last_word k n 0) (last_word k n 1) (both_right (differs k n) (not (eqb (last_word k n 0) (last_word k n 1))) t) (ap (λ (j : ℕ). last_word k j 0) (sym s) ∙ e ∙ ap (λ (j : ℕ). last_word k j 1) s))
    (lt_or_ge i n)
  where
    not_same : (x y : ℕ) → T (not (eqb x y)) → x ≡ y → ⊥
    not_same x y t e = subst (λ (b : Bool). T (not b)) (eq-eqb x y e) t

-- Of every kind each sample that the work counts goes into the ciphertext: there are two lists of samples, at n 1 and N 2 and with no switching key, that differ in that sample's last
-- word alone, and the ciphertexts differ. `made` takes the same samples at all parameters, so a list that is filled up with idle rotations is noticed; a law over all parameters this is not.
pub none_idle : (k i : ℕ) → k ≤ 13 → i < (kind_of k).work → last_word k i 0 ≡ last_word k i 1 → ⊥
unfolding differs last_word made way_of ways kind_of kinds switched mask_rows used_row mask_field rounded rounding mux_sum constant_of negative trivial total minus plus sum_to tab neg field_of Q
none_idle k i h l = differ_at k (kind_of k).work (subst (λ (n : ℕ). T (differs k n)) (work_entry k h).0 (entry differs work_table tt k (omega arith))) i l
