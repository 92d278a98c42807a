-- Demand 3 for whole circuits (`demand_three`). The wires carry their plain bits with their drifts in words (`wires_mean`), and the words are those of the whole
-- numbers (Lists.antt); an output's drift is inside, so its ciphertext decrypts to its bit (`inside_decrypts`).
-- Assumes nothing.
use mathlib.Core.Path.{◌≡◌, refl, sym, ap, ◌∙◌}
use mathlib.Core.Bool.{true}
use mathlib.Core.List.{List, [], ◌∷◌}
use Prim.Native.Nat.{ℕ, zero, suc, ◌+◌, ◌*◌, ◌%◌, ◌<◌}
use native.Mathlib.Omega.{arith}
use lib.IntN.{pos, ◌+ℤ◌, ◌*ℤ◌}
use lib.ListN.{length}
use Rattle.ring.specs.Word.{Q, at, eighth}
use Rattle.ring.specs.Centre.{H, centre, word_of}
use Rattle.ring.proofs.Tab.{at-tab}
use Rattle.params.specs.declared.Params.{Params}
use Rattle.params.specs.Ranges.{InRange}
use Rattle.tlwe.specs.Key.{binary}
use Rattle.tlwe.specs.Plain.{bit_word}
use Rattle.tlwe.specs.Decrypt.{bit_of}
use Rattle.gate_sums.specs.Kind.{sign}
use Rattle.circuit.specs.Form.{inputs, gates, outputs, wires, output_at}
use Rattle.circuit.specs.Plain.{wires_of, output_bits}
use Rattle.circuit.specs.Valid.{Valid}
use Rattle.circuit.proofs.Laws.{output_wire as plain_output}
use Rattle.ways.specs.Ciphers.{cipher_at}
use Rattle.encrypted_run.specs.Run.{ciphers_of, output_ciphers}
use Rattle.encrypted_run.proofs.Laws.{output_wire}
use Rattle.drift.specs.Circuit.{drift_at, drifts_of, brought_of, output_drifts_to, all_of, all_inside}
use Rattle.drift.specs.PrivateCircuit.{drift_words_to, all_words, output_words}
use Rattle.drift.proofs.Residues.{is_add, is_word, is_only}
use Rattle.drift.proofs.Phases.{both}
use Rattle.drift.proofs.Round.{inside_decrypts}
use Rattle.drift.proofs.Circuits.{wires_mean}
use Rattle.drift.proofs.Suffice.{is_bit}
use Rattle.drift.proofs.Lists.{word_at, at_below, all_reckoned, drifts_reckoned, brought_reckoned, outputs_reckoned}
use Rattle.ring.specs.Bit.{truth}
use Rattle.ring.specs.Phase.{phase_of}
use Rattle.drift_size.specs.Size.{inside_word}

-- where all are inside, the one at a place is; past the end it is 0
all_at : (ns : List ℕ) → all_words ns ≡ true → (i : ℕ) → inside_word (at ns i) ≡ true
unfolding all_words inside_word centre H
all_at [] e i = refl
all_at (n ∷ ns) e zero = (both (inside_word n) (all_words ns) e).0
all_at (n ∷ ns) e (suc i) = all_at ns (both (inside_word n) (all_words ns) e).1 i

module _ (p : Params) (r : InRange p) (key z : List ℕ) (binary_key : binary key ≡ true) (ksk bsk bs ins plain : List ℕ)
    (v : Valid bs) (li : length ins ≡ inputs bs * (p.n + 1)) where
  abbrev words : List ℕ
  words = drift_words_to p key z ksk bsk bs ins plain (gates bs)

  -- a wire's phase in words
  in_words : all_of (brought_of p key z ksk bsk bs ins plain) ≡ true → (w : ℕ) → w < wires bs
      → phase_of p.n key (cipher_at p (ciphers_of p ksk bsk bs ins) w) ≡ (bit_word (truth (at (wires_of bs plain) w)) + at words w) % Q
  in_words i w l =
      let a = sym (all_reckoned (brought_reckoned p key z binary_key ksk bsk bs ins plain (gates bs))) ∙ i in
      wires_mean p r key z binary_key ksk bsk bs ins plain v li (gates bs) (omega arith) a w l

  -- Where all that is brought into the rotations is inside, every wire's phase is ±2^29 by its plain bit plus its drift.
  pub wire_carries : all_of (brought_of p key z ksk bsk bs ins plain) ≡ true → (w : ℕ) → w < wires bs
      → phase_of p.n key (cipher_at p (ciphers_of p ksk bsk bs ins) w)
      ≡ word_of (sign (truth (at (wires_of bs plain) w)) *ℤ pos eighth +ℤ drift_at (drifts_of p key z ksk bsk bs ins plain) w)
  wire_carries i w l =
      let b = truth (at (wires_of bs plain) w) in
      let d = drift_at (drifts_of p key z ksk bsk bs ins plain) w in
      in_words i w l
      ∙ ap (λ (n : ℕ). (bit_word b + n) % Q) (sym (word_at (drifts_reckoned p key z binary_key ksk bsk bs ins plain (gates bs)) w))
      ∙ sym (is_only (is_add (is_bit b) (is_word d)))

  -- an output's drift is inside
  output_inside : all_of (output_drifts_to bs (drifts_of p key z ksk bsk bs ins plain) (outputs bs)) ≡ true → (o : ℕ) → o < outputs bs → inside_word (at words (output_at bs o)) ≡ true
  unfolding output_words
  output_inside i o l =
      let a = sym (all_reckoned (outputs_reckoned bs (drifts_reckoned p key z binary_key ksk bsk bs ins plain (gates bs)))) ∙ i in
      ap inside_word (sym (at-tab (outputs bs) (λ k. at words (output_at bs k)) o l)) ∙ all_at (output_words bs words) a o

-- Demand 3: where the drift brought into each rotation of each gate and that of each output stays strictly inside an eighth of a turn, every output of the encrypted
-- run decrypts to the bit that the plain run gives. Key material and input ciphertexts may hold anything, and so may z, the secret key of level 1: that it is binary is
-- not needed.
pub demand_three : (p : Params) → InRange p → (key z : List ℕ) → binary key ≡ true → (ksk bsk bs ins plain : List ℕ) → Valid bs → length ins ≡ inputs bs * (p.n + 1)
    → all_inside p key z ksk bsk bs ins plain ≡ true
    → (o : ℕ) → o < outputs bs
    → bit_of (phase_of p.n key (cipher_at p (output_ciphers p bs (ciphers_of p ksk bsk bs ins)) o)) ≡ truth (at (output_bits bs plain) o)
unfolding all_inside
demand_three p r key z binary_key ksk bsk bs ins plain v li i o l =
    let parts = both (all_of (brought_of p key z ksk bsk bs ins plain)) (all_of (output_drifts_to bs (drifts_of p key z ksk bsk bs ins plain) (outputs bs))) i in
    let w = output_at bs o in
    let d = at (drift_words_to p key z ksk bsk bs ins plain (gates bs)) w in
    ap (λ (c : List ℕ). bit_of (phase_of p.n key c)) (output_wire p ksk bsk bs ins li v o l)
    ∙ inside_decrypts (truth (at (wires_of bs plain) w)) d _
    (in_words p r key z binary_key ksk bsk bs ins plain v li parts.0 w (v.every_output o l))
    (at_below (drifts_reckoned p key z binary_key ksk bsk bs ins plain (gates bs)) w)
    (output_inside p r key z binary_key ksk bsk bs ins plain v li parts.1 o l)
    ∙ ap truth (sym (plain_output bs plain o l))
