-- Demand 3 for a column: where the drift brought into a pair's rotation and that of its result stay inside, the result decrypts to what the kind means on the pair's plain bits.
-- A pair carries its bits with its fresh drifts, its way means what the kind means, and the words of the drifts are those of the whole numbers.
-- Assumes nothing.
use mathlib.Core.Path.{◌≡◌, sym, ap, subst, ◌∙◌}
use mathlib.Core.Bool.{Bool, true, false}
use mathlib.Core.List.{List, []}
use Prim.Native.Nat.{ℕ, ◌+◌, ◌*◌, ◌%◌, ◌≤◌, ◌<◌}
use native.Mathlib.Omega.{arith}
use lib.IntN.{ℤ, pos}
use Rattle.ring.specs.Word.{Q}
use Rattle.ring.specs.Centre.{word_of}
use Rattle.ring.specs.Phase.{phase_of}
use Rattle.params.specs.declared.Params.{Params}
use Rattle.params.specs.Ranges.{InRange}
use Rattle.tlwe.specs.Key.{binary}
use Rattle.tlwe.specs.Plain.{bit_word}
use Rattle.tlwe.specs.Decrypt.{bit_of}
use Rattle.kinds.specs.Kinds.{kind_of}
use Rattle.ways.specs.Ways.{way_of, ran}
use Rattle.ways.specs.Ciphers.{cipher_at}
use Rattle.ways.specs.Private.{way_meaning}
use Rattle.ways.proofs.Meanings.{ways_mean}
use Rattle.drift.specs.Whole.{inside, fresh_drift}
use Rattle.drift.specs.Circuit.{way_drift, way_brought, all_of}
use Rattle.drift.specs.PrivateCircuit.{way_word}
use Rattle.drift.proofs.Residues.{word_below}
use Rattle.drift.proofs.Round.{inside_decrypts}
use Rattle.drift.proofs.Circuits.{fresh_carries}
use Rattle.drift.proofs.Suffice.{fresh_word_lem}
use Rattle.drift.proofs.Lists.{all_reckoned, way_reckoned, way_brought_reckoned}
use Rattle.drift.proofs.Ways.{way_means}
use Rattle.columns.specs.Column.{pair_gate, pair_result, column_of}
use Rattle.columns.proofs.Pairs.{needs_two}
use Rattle.columns.proofs.Laws.{output_is}

module _ (p : Params) (r : InRange p) (key z : List ℕ) (binary_key : binary key ≡ true) (ksk bsk : List ℕ) (kind : ℕ) (least : 3 ≤ kind) (most : kind ≤ 12) where
  -- one gate on a and b, which are to carry va and vb
  module _ (a b : List ℕ) (va vb : Bool) where
    -- what is brought into its rotation, in whole numbers, and the drift of its result
    abbrev pub pair_brought : List ℤ
    pair_brought = way_brought p key (way_of kind) a b [] (fresh_drift p key a va) (fresh_drift p key b vb) (pos 0)

    abbrev pub pair_drift : ℤ
    pair_drift = way_drift p key z ksk bsk (way_of kind) a b [] (fresh_drift p key a va)

    -- the same drift in words
    abbrev word : ℕ
    word = way_word p key z ksk bsk (way_of kind) a b [] (word_of (fresh_drift p key a va))

    -- a fresh ciphertext carries its bit with its drift
    carried : (c : List ℕ) (v : Bool) → phase_of p.n key c ≡ (bit_word v + word_of (fresh_drift p key c v)) % Q
    carried c v = fresh_carries p key c v ∙ ap (λ (d : ℕ). (bit_word v + d) % Q) (sym (fresh_word_lem p key c v))

    means : all_of pair_brought ≡ true → phase_of p.n key (ran p ksk bsk (way_of kind) a b []) ≡ (bit_word (way_meaning (way_of kind) va vb false) + word) % Q
    means i =
        let two = needs_two kind least most in
        way_means p r key z binary_key ksk bsk (way_of kind) a b [] va vb false (word_of (fresh_drift p key a va)) (word_of (fresh_drift p key b vb)) (word_of (pos 0))
        (λ n. carried a va) (λ n. carried b vb) (λ n. absurd (let f : ⊥ = omega (arith, two, n) in f))
        (sym (all_reckoned (way_brought_reckoned p key a b [] (fresh_drift p key a va) (fresh_drift p key b vb) (pos 0) (way_of kind))) ∙ i)

    pub pair_decrypts : all_of pair_brought ≡ true → inside pair_drift ≡ true → bit_of (phase_of p.n key (pair_gate p ksk bsk kind a b)) ≡ (kind_of kind).meaning va vb false
    unfolding pair_gate
    pair_decrypts i j =
        let w = way_reckoned p key z binary_key ksk bsk (way_of kind) a b [] (fresh_drift p key a va) in
        inside_decrypts (way_meaning (way_of kind) va vb false) word _ (means i) (subst (λ (n : ℕ). n < Q) w.word_is (word_below pair_drift)) (sym w.inside_is ∙ j)
        ∙ ways_mean kind va vb false (omega arith)

  -- output i of a column, whatever the other pairs are
  pub output_decrypts : (count : ℕ) (pairs : List ℕ) (i : ℕ) → i < count → (va vb : Bool)
      → all_of (pair_brought (cipher_at p pairs (2 * i)) (cipher_at p pairs (2 * i + 1)) va vb) ≡ true → inside (pair_drift (cipher_at p pairs (2 * i)) (cipher_at p pairs (2 * i + 1)) va vb) ≡ true
      → bit_of (phase_of p.n key (cipher_at p (column_of p ksk bsk kind count pairs) i)) ≡ (kind_of kind).meaning va vb false
  unfolding pair_result
  output_decrypts count pairs i h va vb b d =
      ap (λ (c : List ℕ). bit_of (phase_of p.n key c)) (output_is p ksk bsk kind count pairs i h) ∙ pair_decrypts (cipher_at p pairs (2 * i)) (cipher_at p pairs (2 * i + 1)) va vb b d
