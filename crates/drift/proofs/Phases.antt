-- The phases of the sums before rotation: the multiples of the operands' phases, and the eighths; so where the operands carry bits with drifts, the
-- sum carries the kind's eighths with the multiples of the drifts.
-- Assumes nothing.
use mathlib.Core.Path.{◌≡◌, refl, sym, ap, ap₂, ◌∙◌}
use mathlib.Core.Bool.{Bool, true, false, not, cond}
use mathlib.Core.List.{List, [], ◌∷◌}
use Prim.Native.Nat.{ℕ, zero, suc, ◌+◌, ◌*◌, ◌%◌, ◌≤◌}
use native.Mathlib.Nat.{add-mod, mod-add-mod}
use native.Mathlib.Omega.{arith}
use lib.Dec.{leb}
use borrow.Author.Tests.{leb-true}
use Rattle.ring.specs.Word.{Q, at, neg, eighth}
use Rattle.ring.specs.Poly.{plus, scale}
use Rattle.ring.specs.Phase.{phase_of, trivial}
use Rattle.ring.proofs.Words.{mul-mod_r}
use Rattle.params.specs.declared.Params.{Params}
use Rattle.params.specs.Sizes.{size}
use Rattle.tlwe.specs.Key.{binary}
use Rattle.tlwe.specs.Plain.{bit_word}
use Rattle.tlwe.specs.Linear.{negative}
use Rattle.tlwe.proofs.Phases.{phase_combine, phase_add, phase_neg}
use Rattle.switching.proofs.Sums.{phase_trivial}
use Rattle.gate_sums.specs.declared.Kind.{Kind}
use Rattle.gate_sums.specs.Kind.{sum_of}
use Rattle.gate_sums.specs.Weights.{weights_of}
use Rattle.gate_sums.specs.Sum.{summed, mux_sum, constant_word, constant_of}
use Rattle.drift.specs.PrivateWords.{rounding_word, brought_word}
use Rattle.gate_sums.proofs.Tables.{sum_words}

-- ---- keys

pub both : (b c : Bool) → cond b c false ≡ true → (b ≡ true) × (c ≡ true)
both true c e = (refl, e)
both false c e = absurd (let z : ◌≡◌ {A = ℕ} 0 1 = cc in let q : ⊥ = omega arith in q)

-- the words of a binary key
pub key_bit : (key : List ℕ) → binary key ≡ true → (i : ℕ) → at key i ≤ 1
unfolding binary
key_bit [] e i = omega arith
key_bit (k ∷ ks) e zero = leb-true k 1 (both (leb k 1) (binary ks) e).0
key_bit (k ∷ ks) e (suc i) = key_bit ks (both (leb k 1) (binary ks) e).1 i

-- ---- the sums

word_added : (s c : ℕ) → (s + c % Q) % Q ≡ (s + c) % Q
unfolding Q
word_added s c = omega arith

-- a trivial sample added to a ciphertext: its word is added to the phase
added_phase : (d : ℕ) (key l : List ℕ) (c : ℕ) → phase_of d key (plus (d + 1) l (trivial d c)) ≡ (phase_of d key l + c) % Q
added_phase d key l c = phase_add d key l (trivial d c) ∙ ap (λ (t : ℕ). (phase_of d key l + t) % Q) (phase_trivial d key c) ∙ word_added (phase_of d key l) c

-- the sum of a kind
pub sum_phase : (p : Params) (kind : Kind) (key a b : List ℕ) → phase_of p.n key (summed p kind a b)
    ≡ (((weights_of kind).a * phase_of p.n key a + (weights_of kind).b * phase_of p.n key b) % Q + (weights_of kind).added) % Q
unfolding summed weights_of
sum_phase p kind key a b =
    let x = (weights_of kind).a in
    let y = (weights_of kind).b in
    let c = (weights_of kind).added in
    let m = p.n + 1 in
    added_phase p.n key (plus m (scale m x a) (scale m y b)) c ∙ ap (λ (t : ℕ). (t + c) % Q) (phase_combine p.n key x a y b)

-- the sum of `mux`
pub mux_phase : (p : Params) (z u v : List ℕ) → phase_of (size p) z (mux_sum p u v) ≡ ((phase_of (size p) z u + phase_of (size p) z v) % Q + eighth) % Q
unfolding mux_sum
mux_phase p z u v = added_phase (size p) z (plus (size p + 1) u v) eighth ∙ ap (λ (t : ℕ). (t + eighth) % Q) (phase_add (size p) z u v)

-- drifts apart
times_sum : (x A d : ℕ) → x * ((A + d) % Q) % Q ≡ (x * A + x * d) % Q
times_sum x A d = mul-mod_r x (A + d) ∙ ap (λ (n : ℕ). n % Q) (let q : x * (A + d) ≡ x * A + x * d = omega arith in q)

sum_parts : (x y s t u w c : ℕ) → x % Q ≡ (s + u) % Q → y % Q ≡ (t + w) % Q → ((x + y) % Q + c) % Q ≡ ((s + t + c) % Q + (u + w)) % Q
sum_parts x y s t u w c e f =
    ap (λ (n : ℕ). (n + c) % Q) (add-mod x y Q ∙ ap₂ (λ (m n : ℕ). (m + n) % Q) e f ∙ sym (add-mod (s + u) (t + w) Q))
    ∙ mod-add-mod (s + u + (t + w)) Q c ∙ ap (λ (n : ℕ). n % Q) (let q : s + u + (t + w) + c ≡ s + t + c + (u + w) = omega arith in q)
    ∙ sym (mod-add-mod (s + t + c) Q (u + w))

apart : (x y A B da db c : ℕ) → ((x * ((A + da) % Q) + y * ((B + db) % Q)) % Q + c) % Q ≡ ((x * A + y * B + c) % Q + (x * da + y * db)) % Q
apart x y A B da db c = sum_parts (x * ((A + da) % Q)) (y * ((B + db) % Q)) (x * A) (y * B) (x * da) (y * db) c (times_sum x A da) (times_sum y B db)

pub together : (e d r : ℕ) → ((e + d) % Q + r) % Q ≡ (e + (d + r) % Q) % Q
unfolding Q
together e d r = omega arith

-- operands that carry bits with drifts: the sum's phase and what rounding brings in are the eighths and the brought-in drift
pub brought : (p : Params) (kind : Kind) (key a b : List ℕ) (va vb : Bool) (da db : ℕ)
    → phase_of p.n key a ≡ (bit_word va + da) % Q → phase_of p.n key b ≡ (bit_word vb + db) % Q
    → (phase_of p.n key (summed p kind a b) + rounding_word p key (summed p kind a b)) % Q ≡ (sum_of kind va vb * eighth + brought_word p kind key (summed p kind a b) da db) % Q
unfolding brought_word
brought p kind key a b va vb da db ea eb =
    let x = (weights_of kind).a in
    let y = (weights_of kind).b in
    let c = (weights_of kind).added in
    let r = rounding_word p key (summed p kind a b) in
    ap (λ (t : ℕ). (t + r) % Q) (sum_phase p kind key a b ∙ ap₂ (λ (s t : ℕ). ((x * s + y * t) % Q + c) % Q) ea eb ∙ apart x y (bit_word va) (bit_word vb) da db c
    ∙ ap (λ (t : ℕ). (t + (x * da + y * db)) % Q) (sum_words kind va vb))
    ∙ together (sum_of kind va vb * eighth) (x * da + y * db) r

-- ---- the gates without a rotation

negated_bit : (v : Bool) (d : ℕ) → neg ((bit_word v + d) % Q) % Q ≡ (bit_word (not v) + neg d) % Q
unfolding neg Q
negated_bit true d = omega arith
negated_bit false d = omega arith

-- `not` negates the bit, and the drift
pub not_drift : (p : Params) (key a : List ℕ) (v : Bool) (d : ℕ) → phase_of p.n key a ≡ (bit_word v + d) % Q
    → phase_of p.n key (negative (p.n + 1) a) ≡ (bit_word (not v) + neg d) % Q
not_drift p key a v d e = phase_neg p.n key a a ∙ ap (λ (t : ℕ). neg t % Q) e ∙ negated_bit v d

constant_word_lem : (v : Bool) → constant_word v % Q ≡ (bit_word v + cond v 0 1) % Q
unfolding Q
constant_word_lem true = refl
constant_word_lem false = refl

-- the constants: true has the drift 0, false the drift 1
pub constant_drift : (p : Params) (key : List ℕ) (v : Bool) → phase_of p.n key (constant_of p v) ≡ (bit_word v + cond v 0 1) % Q
unfolding constant_of
constant_drift p key v = phase_trivial p.n key (constant_word v) ∙ constant_word_lem v
