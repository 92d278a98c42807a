-- The rotation of a lent vector, of calls: what it tells and leaves on every input, by its contract as `rattle` reads that from the code (`lent_tells`, by computation); lent the gates' vector it
-- does what `blind_rotate` does (`gates_vector`: both have the same refusals, since that vector has its length); and two computed cases, of a vector whose a is not zero and of each refusal.
-- Assumes nothing.
use mathlib.Core.Path.{◌≡◌, refl, sym, ◌∙◌}
use mathlib.Core.List.{List, [], ◌∷◌}
use Prim.Native.Nat.{ℕ}
use lib.ListN.{length}
use contract.Lifetimes.{Lfts}
use denote.Triple.Entry.{Args, Res}
use denote.Triple.Clauses.{Lasts, at_exit}
use Rattle.ring.specs.Word.{Q, neg, comp, field_of}
use Rattle.ring.specs.Sums.{sum_to, tab}
use Rattle.ring.specs.Poly.{plus, minus, before, times, total}
use Rattle.ring.specs.Turn.{source, rotated}
use Rattle.ring.specs.Pair.{Pair}
use Rattle.ring.specs.Lists.{part}
use Rattle.ring.proofs.Tab.{length-tab}
use Rattle.params.specs.declared.Params.{Params}
use Rattle.params.specs.Published.{numbers}
use Rattle.params.specs.Ranges.{params_number}
use Rattle.params.specs.Refusal.{answer, outcome, if_done}
use Rattle.params.specs.Sizes.{size}
use Rattle.params.proofs.Answers.{when_done}
use Rattle.key.specs.Bits.{bit_rows}
use Rattle.key.specs.Offset.{offset}
use Rattle.key.specs.Testvec.{test_pair}
use Rattle.rotation.specs.Amount.{half, step, mask_amount, body_amount}
use Rattle.decomposition.specs.Digit.{digit_of, digit_poly}
use Rattle.decomposition.specs.Pair.{pair_digit}
use Rattle.trgsw.specs.External.{row_a, row_b, external, cmux_of}
use Rattle.blind_rotation.specs.Blind.{turned, blind_step, steps_to, start_of, blind_rotated}
use Rattle.blind_rotation.specs.Refusals.{blind_number, blind_out, vector_number, vector_out}
use Rattle.blind_rotation.proofs.Checks.{blind_good, vector_done}
use Rattle.blind_rotation.proofs.Steps.{pair}
use Rattle.blind_rotation.proofs.vector.blind_rotate_with_testvec as lent
use Rattle.blind_rotation.specs.contracts.vector.blind_rotate_with_testvec as lent_c

pub lent_tells : (κs : Lfts (lent_c.ended).signature.lifetimes) (a : Args (lent_c.ended).signature κs) (x : Res (lent_c.ended).signature κs) (v : Lasts lent_c.ended κs a)
    → lent.Reads.Learnt κs a x (at_exit lent_c.ended κs a v)
    → let p = a.0 in let src = a.1.0.now in let va = a.1.1.0.now in let vb = a.1.1.1.0.now in let key = a.1.1.1.1.0.now in let oa = a.1.1.1.1.1.0.now in let ob = a.1.1.1.1.1.1.0.now in
    let number = vector_number p (length src) (length va) (length vb) (length key) (length oa) (length ob) in
    let out = if_done number (blind_rotated p key src (pair va vb)) (pair oa ob) in
    (x ≡ outcome (answer number)) × (v.1.1.1.1.1.0 ≡ out.a) × (v.1.1.1.1.1.1.0 ≡ out.b)
lent_tells κs a x v h = (h.0, h.1.0, h.1.1)

-- the gates' vector, lent
pub gates_vector : (p : Params) (src key : List ℕ) (o : Pair) → blind_number p (length src) (length key) (length o.a) (length o.b) ≡ 0 → vector_out p src (test_pair p) key o ≡ blind_out p src key o
gates_vector p src key o e =
    when_done _ _ _ (vector_done p _ _ _ _ _ _ (record { vector_a = length-tab (size p) _; vector_b = length-tab (size p) _; rotation = blind_good p _ _ _ _ e }))
    ∙ sym (when_done (blind_number p (length src) (length key) (length o.a) (length o.b)) (blind_rotated p key src (test_pair p)) o e)

-- ---- cases

-- n 1, N 2, BGBIT 8, L 1; the bootstrapping key of a bit 1 with no mask and no noise: 2^24 in a[0] of the first row and in b[0] of the second
abbrev one : Params
one = numbers 1 1 8 1 1 1

abbrev key : List ℕ
key = 0x1000000 ∷ 0 ∷ 0 ∷ 0 ∷ 0 ∷ 0 ∷ 0x1000000 ∷ 0 ∷ []

-- both halves of the vector are rotated. b of 0 turns by 2N, so the start is the vector; the mask is a quarter of a turn, one step: places move by one and what comes round is complemented (0xCFFFFFFF,
-- 0x9FFFFFFF); turned less vector loses its low 24 bits (0xBFFFFFFF and 0x7FFFFFFF become 0xBF000000 and 0x7F000000) and is added to the vector
pub both_halves : blind_rotated one key (0x40000000 ∷ 0 ∷ []) (pair (0x10000000 ∷ 0x30000000 ∷ []) (0x20000000 ∷ 0x60000000 ∷ [])) ≡ pair (0xCF000000 ∷ 0x10000000 ∷ []) (0x9F000000 ∷ 0x20000000 ∷ [])
unfolding Q neg comp sum_to tab plus minus before times total source rotated offset half step mask_amount body_amount field_of digit_of digit_poly pair_digit part row_a row_b external cmux_of turned bit_rows blind_step steps_to start_of blind_rotated
both_halves = refl

-- 1 where n is 0; 2 for each of the six slices that is one word too long, and 0 where none is
pub numbers_of : (vector_number (numbers 0 1 8 1 1 1) 9 9 9 9 9 9 ≡ 1) × (vector_number one 2 2 2 8 2 2 ≡ 0) × (vector_number one 3 2 2 8 2 2 ≡ 2) × (vector_number one 2 3 2 8 2 2 ≡ 2)
    × (vector_number one 2 2 3 8 2 2 ≡ 2) × (vector_number one 2 2 2 9 2 2 ≡ 2) × (vector_number one 2 2 2 8 3 2 ≡ 2) × (vector_number one 2 2 2 8 2 3 ≡ 2)
unfolding vector_number params_number
numbers_of = (refl, refl, refl, refl, refl, refl, refl, refl)
